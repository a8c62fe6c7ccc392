-- The frames of a store are read one after the other, through a window.
use Rattle.std.proofs.Common.{◌≡◌, inl, inr, ℕ, zero, suc, ◌+◌, ◌-◌, ◌<◌, ◌≤◌, Bool, true, false, is_some, cond, if◌then◌else◌, List, [], ◌∷◌, ◌++◌, length, take, drop, Option, Some, None, refl, sym, ap, ◌∙◌, subst, append_assoc, arith, length-append, length-drop}
use Rattle.std.proofs.lemmas.List.{append-nil, drop-drop}
use Rattle.std.specs.Io.{StartsWith}
use Rattle.std.specs.List.{flat_map, AllByRecursion}
use Rattle.frame_code.specs.Codes.{frame_code}
use Rattle.frame_code.specs.Fronts.{IsFrameFront}
use Rattle.frame_code.specs.Spelled.{IsSpelled}
use Rattle.frame_code.specs.declared.frames.Frame.{Frame}
use Rattle.phys_log.specs.declared.entries.Entry.{Entry}
use Rattle.store_log.specs.declared.walks.Ended.{Ended}
use Rattle.store_log.specs.declared.walks.Reach.{Reach}
use Rattle.store_log.specs.declared.walks.Turn.TheVariants.{On, Done}
use Rattle.store_log.specs.Held.{Held, at_first, May, after, AllMay, after_all}
use Rattle.store_log.specs.Opens.{AllOpen}
use Rattle.store_log.specs.Steps.{IsMore, IsWrong}
use Rattle.store_log.specs.Walks.{IsWalked, IsWalk, ahead, further, IsEnded, IsTurn, IsCorrupt}
use Rattle.store_log.proofs.CutLaws.{after_join, may_join, spelled_join, codes_join}
use Rattle.store_log.proofs.GrowLemmas.{starts_all, starts_within}
use Rattle.store_log.proofs.OpenLemmas.{more_in, wrong_in}
use Rattle.store_log.proofs.StepLemmas.{drop_front, some_bytes, one_code}

-- what is behind a frame
behind_is : (before now : Held) (n : ℕ) (bytes : List ℕ) → (m : IsMore before now n bytes) → m.behind ≡ drop n bytes
behind_is before now n bytes m =
    sym (drop_front (frame_code m.frame) m.behind) ∙ ap (λ (l : List ℕ). drop (length (frame_code m.frame)) l) m.begins
    ∙ ap (λ (k : ℕ). drop k bytes) m.size

-- frames of which an adoption is open after each
pub open_join : (h : Held) (gs : List Frame) (f : Frame) → AllOpen h gs → is_some (after_all h (gs ++ f ∷ [])).adopting ≡ true
    → AllOpen h (gs ++ f ∷ [])
open_join h [] f o e = (e, tt)
open_join h (g ∷ gs) f o e = (o.0, open_join (after h g) gs f o.1 e)

-- an offset within the bytes
pub walked_within : (bytes : List ℕ) (h : Held) (at closed : ℕ) → IsWalked bytes h at closed → at ≤ length bytes
walked_within bytes h at closed w =
    let all : length (flat_map frame_code w.all ++ drop at bytes) ≡ length (drop 27 bytes) = ap length w.whole in
    let parts : length (flat_map frame_code w.all ++ drop at bytes) ≡ length (flat_map frame_code w.all) + length (drop at bytes) =
    length-append (flat_map frame_code w.all) (drop at bytes) in
    let size : length (drop 27 bytes) ≡ length bytes - 27 = length-drop 27 bytes in
    let place : 27 + length (flat_map frame_code w.all) ≡ at = w.place in
    let begun : 27 ≤ length bytes = w.begun in
    omega arith

-- the frames with one more
codes_more : (fs : List Frame) (f : Frame) → flat_map frame_code (fs ++ f ∷ []) ≡ flat_map frame_code fs ++ frame_code f
codes_more fs f = codes_join fs (f ∷ []) ∙ ap (λ (l : List ℕ). flat_map frame_code fs ++ l) (one_code f)

sizes_more : (fs : List Frame) (f : Frame) → length (flat_map frame_code (fs ++ f ∷ [])) ≡ length (flat_map frame_code fs) + length (frame_code f)
sizes_more fs f = ap length (codes_more fs f) ∙ length-append (flat_map frame_code fs) (frame_code f)

whole_more : (bytes : List ℕ) (h now : Held) (at n : ℕ) (fs : List Frame) → flat_map frame_code fs ++ drop at bytes ≡ drop 27 bytes
    → (m : IsMore h now n (drop at bytes)) → flat_map frame_code (fs ++ m.frame ∷ []) ++ drop (at + n) bytes ≡ drop 27 bytes
whole_more bytes h now at n fs e m =
    ap (λ (l : List ℕ). l ++ drop (at + n) bytes) (codes_more fs m.frame)
    ∙ append_assoc (flat_map frame_code fs) (frame_code m.frame) (drop (at + n) bytes)
    ∙ ap (λ (l : List ℕ). flat_map frame_code fs ++ (frame_code m.frame ++ l)) (sym (behind_is h now n (drop at bytes) m ∙ drop-drop n at bytes))
    ∙ ap (λ (l : List ℕ). flat_map frame_code fs ++ l) m.begins
    ∙ e

-- what one frame more makes of the frames and of what is held
pub record IsNext (bytes : List ℕ) (w_all : List Frame) (f : Frame) (now : Held) (at : ℕ) : Type 0 where
  pub spelled : AllByRecursion IsSpelled (w_all ++ f ∷ [])
  pub rules : AllMay at_first (w_all ++ f ∷ [])
  pub whole : flat_map frame_code (w_all ++ f ∷ []) ++ drop at bytes ≡ drop 27 bytes
  pub place : 27 + length (flat_map frame_code (w_all ++ f ∷ [])) ≡ at
  pub held : after_all at_first (w_all ++ f ∷ []) ≡ now

next_is : (bytes : List ℕ) (h now : Held) (at closed n : ℕ) → (w : IsWalked bytes h at closed) → (m : IsMore h now n (drop at bytes))
    → IsNext bytes w.all m.frame now (at + n)
next_is bytes h now at closed n w m =
    let sizes : length (flat_map frame_code (w.all ++ m.frame ∷ [])) ≡ length (flat_map frame_code w.all) + length (frame_code m.frame) =
    sizes_more w.all m.frame in
    let before : 27 + length (flat_map frame_code w.all) ≡ at = w.place in
    let size : length (frame_code m.frame) ≡ n = m.size in
    let place : 27 + length (flat_map frame_code (w.all ++ m.frame ∷ [])) ≡ at + n = omega arith in
    record {
      spelled = spelled_join w.all (m.frame ∷ []) w.spelled (m.spelled, tt);
      rules = may_join at_first w.all (m.frame ∷ []) w.rules (subst (λ (k : Held). May k m.frame) (sym w.held) m.may, tt);
      whole = whole_more bytes h now at n w.all w.whole m;
      place = place;
      held = after_join at_first w.all (m.frame ∷ []) ∙ ap (λ (k : Held). after k m.frame) w.held ∙ sym m.held;
    }

-- no adoption is open after it
next_closed : (bytes : List ℕ) (all : List Frame) (f : Frame) (now : Held) (at : ℕ) → 27 ≤ length bytes → IsNext bytes all f now at
    → now.adopting ≡ None → IsWalked bytes now at at
next_closed bytes all f now at begun x none = record {
  all = all ++ f ∷ [];
  kept = all ++ f ∷ [];
  gone = [];
  split = append-nil (all ++ f ∷ []);
  begun = begun;
  spelled = x.spelled;
  rules = x.rules;
  whole = x.whole;
  place = x.place;
  held = x.held;
  none = ap (λ (k : Held). k.adopting) x.held ∙ none;
  opens = tt;
  close = x.place;
}

-- an adoption is open after it
next_open : (bytes : List ℕ) (h : Held) (at closed to : ℕ) (f : Frame) (now : Held) → (w : IsWalked bytes h at closed)
    → IsNext bytes w.all f now to → is_some now.adopting ≡ true → IsWalked bytes now to closed
next_open bytes h at closed to f now w x open_is =
    let moved : w.kept ++ (w.gone ++ f ∷ []) ≡ w.all ++ f ∷ [] =
    sym (append_assoc w.kept w.gone (f ∷ [])) ∙ ap (λ (l : List Frame). l ++ f ∷ []) w.split in
    let held : after_all (after_all at_first w.kept) (w.gone ++ f ∷ []) ≡ now =
    sym (after_join at_first w.kept (w.gone ++ f ∷ [])) ∙ ap (λ (l : List Frame). after_all at_first l) moved ∙ x.held in
    record {
      all = w.all ++ f ∷ [];
      kept = w.kept;
      gone = w.gone ++ f ∷ [];
      split = moved;
      begun = w.begun;
      spelled = x.spelled;
      rules = x.rules;
      whole = x.whole;
      place = x.place;
      held = x.held;
      none = w.none;
      opens = open_join (after_all at_first w.kept) w.gone f w.opens (ap (λ (k : Held). is_some k.adopting) held ∙ open_is);
      close = w.close;
    }

pub walked_more : (bytes : List ℕ) (h now : Held) (at closed n : ℕ) → IsWalked bytes h at closed → IsMore h now n (drop at bytes)
    → IsWalked bytes now (at + n) (if is_some now.adopting then closed else (at + n))
walked_more bytes h now at closed n w m = by_case now.adopting refl
  where
    by_case : (o : Option (List Entry)) → now.adopting ≡ o → IsWalked bytes now (at + n) (if is_some now.adopting then closed else (at + n))
    by_case None e =
        subst (λ (o : Option (List Entry)). IsWalked bytes now (at + n) (if is_some o then closed else (at + n))) (sym e)
        (next_closed bytes w.all m.frame now (at + n) w.begun (next_is bytes h now at closed n w m) e)
    by_case (Some adopted) e =
        subst (λ (o : Option (List Entry)). IsWalked bytes now (at + n) (if is_some o then closed else (at + n))) (sym e)
        (next_open bytes h at closed (at + n) m.frame now w (next_is bytes h now at closed n w m) (ap is_some e))

-- the window goes on
starts_behind : (n : ℕ) (r w : List ℕ) → n ≤ length w → StartsWith r w → StartsWith (drop n r) (drop n w)
starts_behind zero r w n e = e
starts_behind (suc k) r [] n e = absurd (omega arith)
starts_behind (suc k) [] (x ∷ w) n e = absurd (cc)
starts_behind (suc k) (y ∷ r) (x ∷ w) n e = starts_behind k r w (omega arith) (cc)

window_on : (bytes window : List ℕ) (at used n : ℕ) → n ≤ length (drop used window) → StartsWith (drop at bytes) (drop used window)
    → StartsWith (drop (at + n) bytes) (drop (used + n) window)
window_on bytes window at used n h s =
    subst (λ (l : List ℕ). StartsWith l (drop (used + n) window)) (drop-drop n at bytes)
    (subst (λ (l : List ℕ). StartsWith (drop n (drop at bytes)) l) (drop-drop n used window)
    (starts_behind n (drop at bytes) (drop used window) h s))

pub more_within : (h now : Held) (n : ℕ) (r : Reach) (bytes : List ℕ) → IsWalk bytes h r → IsMore h now n (drop r.used r.window.items)
    → r.used + n ≤ length r.window.items
more_within h now n r bytes w m =
    let both = some_bytes h now n (drop r.used r.window.items) m in
    let fits : n ≤ length (drop r.used r.window.items) = both.1 in
    let size : length (drop r.used r.window.items) ≡ length r.window.items - r.used = length-drop r.used r.window.items in
    let within : r.used ≤ length r.window.items = w.within in
    omega arith

pub walk_more : (bytes : List ℕ) (h now : Held) (n : ℕ) (r : Reach) → IsWalk bytes h r → IsMore h now n (drop r.used r.window.items)
    → IsTurn (On now (further now.adopting r n)) bytes (ahead bytes r)
walk_more bytes h now n r w m =
    let both = some_bytes h now n (drop r.used r.window.items) m in
    let some : 0 < n = both.0 in
    let fits : n ≤ length (drop r.used r.window.items) = both.1 in
    let size : length (drop r.used r.window.items) ≡ length r.window.items - r.used = length-drop r.used r.window.items in
    let size_now : length (drop (r.used + n) r.window.items) ≡ length r.window.items - (r.used + n) = length-drop (r.used + n) r.window.items in
    let inside : length (drop r.used r.window.items) ≤ length (drop r.at bytes) = starts_within (drop r.used r.window.items) (drop r.at bytes) w.window in
    let left : length (drop r.at bytes) ≡ length bytes - r.at = length-drop r.at bytes in
    let within : r.used + n ≤ length r.window.items = more_within h now n r bytes w m in
    let less : (length bytes - (r.at + n)) + (length bytes - ((r.at + n) + length (drop (r.used + n) r.window.items)))
    < (length bytes - r.at) + (length bytes - (r.at + length (drop r.used r.window.items))) = omega arith in (
      record {
        walked = walked_more bytes h now r.at r.closed n w.walked (more_in h now n (drop r.at bytes) (drop r.used r.window.items) w.window m);
        window = window_on bytes r.window.items r.at r.used n fits w.window;
        within = within;
      },
      less,
    )

-- the same, of the place that the code comes to
pub walk_to : (bytes : List ℕ) (h now : Held) (n : ℕ) (r next : Reach) → IsWalk bytes h r → IsMore h now n (drop r.used r.window.items)
    → next ≡ further now.adopting r n → IsTurn (On now next) bytes (ahead bytes r)
walk_to bytes h now n r next w m e = subst (λ (q : Reach). IsTurn (On now q) bytes (ahead bytes r)) (sym e) (walk_more bytes h now n r w m)

pub walk_corrupt : (bytes : List ℕ) (h : Held) (r : Reach) → IsWalk bytes h r → IsWrong h (drop r.used r.window.items) → IsCorrupt bytes r.at
walk_corrupt bytes h r w wrong = record {
  held = h;
  closed = r.closed;
  walked = w.walked;
  wrong = wrong_in h (drop r.at bytes) (drop r.used r.window.items) w.window wrong;
}

-- more bytes in the window
pub walk_grown : (bytes : List ℕ) (h : Held) (r next : Reach) (n : ℕ) → IsWalk bytes h r → next.at ≡ r.at → next.closed ≡ r.closed → next.used ≡ 0
    → StartsWith (drop r.at bytes) next.window.items → length next.window.items ≡ length (drop r.used r.window.items) + n
    → (n ≡ 0 → ⊥) → IsTurn (On h next) bytes (ahead bytes r)
walk_grown bytes h r next n w at_is closed_is used_is s more some = (
  record {
    walked = subst (λ (k : ℕ). IsWalked bytes h k next.closed) (sym at_is) (subst (λ (k : ℕ). IsWalked bytes h r.at k) (sym closed_is) w.walked);
    window = subst (λ (k : ℕ). StartsWith (drop k bytes) (drop next.used next.window.items)) (sym at_is)
        (subst (λ (k : ℕ). StartsWith (drop r.at bytes) (drop k next.window.items)) (sym used_is) s);
    within = subst (λ (k : ℕ). k ≤ length next.window.items) (sym used_is) (omega arith);
  },
  subst (λ (k : ℕ). (length bytes - k) + (length bytes - (k + length (drop next.used next.window.items))) < ahead bytes r) (sym at_is)
      (subst (λ (k : ℕ). (length bytes - r.at) + (length bytes - (r.at + length (drop k next.window.items))) < ahead bytes r) (sym used_is) less),
)
  where
    less : (length bytes - r.at) + (length bytes - (r.at + length next.window.items))
        < (length bytes - r.at) + (length bytes - (r.at + length (drop r.used r.window.items)))
    less =
        let inside : length next.window.items ≤ length (drop r.at bytes) = starts_within next.window.items (drop r.at bytes) s in
        let left : length (drop r.at bytes) ≡ length bytes - r.at = length-drop r.at bytes in
        let size : length next.window.items ≡ length (drop r.used r.window.items) + n = more in
        let some_more : n ≡ 0 → ⊥ = some in
        let place : r.at ≤ length bytes = walked_within bytes h r.at r.closed w.walked in
        omega arith

-- the end
pub walk_ended : (bytes window : List ℕ) (h : Held) (r : Reach) (e : Ended) → IsWalk bytes h r → IsFrameFront (drop r.used r.window.items)
    → window ≡ drop r.at bytes → length window ≡ length (drop r.used r.window.items) → e.held ≡ h → e.closed ≡ r.closed
    → e.end ≡ r.at + length window → IsEnded bytes e
walk_ended bytes window h r e w front all size held_is closed_is end_is =
    let place : r.at ≤ length bytes = walked_within bytes h r.at r.closed w.walked in
    let whole : length window ≡ length (drop r.at bytes) = ap length all in
    let left : length (drop r.at bytes) ≡ length bytes - r.at = length-drop r.at bytes in
    let same_size : length window ≡ length (drop r.used r.window.items) = size in
    let end_at : e.end ≡ r.at + length window = end_is in
    let end : e.end ≡ length bytes = omega arith in
    let same : drop r.used r.window.items ≡ drop r.at bytes = starts_all (drop r.used r.window.items) (drop r.at bytes) w.window (omega arith) in
    record {
      at = r.at;
      walked = subst (λ (k : Held). IsWalked bytes k r.at e.closed) (sym held_is)
          (subst (λ (k : ℕ). IsWalked bytes h r.at k) (sym closed_is) w.walked);
      unfinished = subst IsFrameFront same front;
      end = end;
    }

pub walk_begun : (bytes : List ℕ) (r : Reach) → r.at ≡ 27 → r.closed ≡ 27 → r.used ≡ 27 → 27 ≤ length r.window.items → StartsWith bytes r.window.items
    → IsWalk bytes at_first r
walk_begun bytes r at_is closed_is used_is some s =
    let inside : length r.window.items ≤ length bytes = starts_within r.window.items bytes s in
    let begun : 27 ≤ length bytes = omega arith in
    let first : IsWalked bytes at_first 27 27 = record {
      all = [];
      kept = [];
      gone = [];
      split = refl;
      begun = begun;
      spelled = tt;
      rules = tt;
      whole = refl;
      place = refl;
      held = refl;
      none = refl;
      opens = tt;
      close = refl;
    } in
    record {
      walked = subst (λ (k : ℕ). IsWalked bytes at_first k r.closed) (sym at_is) (subst (λ (k : ℕ). IsWalked bytes at_first 27 k) (sym closed_is) first);
      window = subst (λ (k : ℕ). StartsWith (drop k bytes) (drop r.used r.window.items)) (sym at_is)
          (subst (λ (k : ℕ). StartsWith (drop 27 bytes) (drop k r.window.items)) (sym used_is) (starts_behind 27 bytes r.window.items some s));
      within = subst (λ (k : ℕ). k ≤ length r.window.items) (sym used_is) some;
    }

pub walk_window : (bytes : List ℕ) (h : Held) (r : Reach) → IsWalk bytes h r → StartsWith (drop r.at bytes) (drop r.used r.window.items)
walk_window bytes h r w = w.window

pub walk_same : (bytes : List ℕ) (h now : Held) (r : Reach) → now ≡ h → IsWalk bytes h r → IsWalk bytes now r
walk_same bytes h now r e w = subst (λ (k : Held). IsWalk bytes k r) (sym e) w
