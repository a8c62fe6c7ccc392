-- A store is cut behind the last frame after which no adoption is open, or begun.
use Rattle.std.proofs.Common.{◌≡◌, inl, inr, ℕ, zero, suc, ◌+◌, ◌-◌, ◌<◌, ◌≤◌, ◌^◌, true, is_some, List, [], ◌∷◌, ◌++◌, length, take, drop, min, Option, Some, None, refl, sym, ap, ◌∙◌, subst, append_assoc, arith, length-append}
use Rattle.std.proofs.lemmas.Bool.{cases_lt}
use Rattle.std.proofs.lemmas.List.{append-nil, take-append-drop, length-take}
use Rattle.std.specs.List.{flat_map, AllByRecursion}
use Rattle.cdb_outside.specs.Parts as parts
use Rattle.frame_code.specs.Codes.{frame_code}
use Rattle.frame_code.specs.Fronts.{IsFrameFront}
use Rattle.frame_code.specs.Spelled.{IsSpelled}
use Rattle.frame_code.specs.declared.frames.Frame.{Frame}
use Rattle.frame_code.specs.declared.frames.Frame.TheVariants as frame
use Rattle.frame_code.proofs.FrontLaws.{longer_front}
use Rattle.phys_log.specs.declared.entries.Entry.{Entry}
use Rattle.store_log.specs.declared.finds.Found.{Found}
use Rattle.store_log.specs.declared.standings.Standing.{Standing}
use Rattle.store_log.specs.declared.standings.Standing.TheVariants.{Log}
use Rattle.store_log.specs.Cuts.{HoldSameLog}
use Rattle.store_log.specs.Held.{Held, at_first, May, held_with_entry, after, AllMay, after_all, header, HasFrames, IsLogOf, IsUnbegun, StandsFor}
use Rattle.store_log.specs.Holds.{Holds, plain}
use Rattle.store_log.specs.Mends.{IsPart}
use Rattle.store_log.specs.Opens.{AllOpen, IsTrimmed, IsOpened, StandsAlike}
use Rattle.store_log.specs.Walks.{IsClosing, IsFoundTo, IsFound}
use Rattle.store_log.proofs.CutLaws.{IsCutOff, cut_off, after_join, may_join, may_front, may_back, spelled_join, spelled_front, spelled_back, codes_join}
use Rattle.store_log.proofs.GrowLemmas.{take_all}
use Rattle.store_log.proofs.HeldLaws.{one_standing, header_is_spelled}
use Rattle.store_log.proofs.WindowLemmas.{front_shrinks}

-- while an adoption is open the log is as before
same_entry : (p a : ℕ) (es : List Entry) (e : Entry) (o : Option (List Entry)) → is_some (held_with_entry p a es e o).adopting ≡ true
    → HoldSameLog (record { promised = p; accepted = a; entries = es; adopting = o }) (held_with_entry p a es e o)
same_entry p a es e None open_is = absurd (cc)
same_entry p a es e (Some adopted) open_is = record { promised = refl; accepted = refl; entries = refl }

still_same : (h : Held) (f : Frame) → May h f → is_some (after h f).adopting ≡ true → HoldSameLog h (after h f)
still_same h (frame.Header v n c) m o = absurd m
still_same h (frame.Promise g) m o = absurd (cc)
still_same h (frame.Accept g) m o = absurd (cc)
still_same h (frame.Entry e) m o = same_entry h.promised h.accepted h.entries e h.adopting o
still_same h (frame.Cut n) m o = record { promised = refl; accepted = refl; entries = refl }

same_on : (h k l : Held) → HoldSameLog h k → HoldSameLog k l → HoldSameLog h l
same_on h k l s t = record { promised = s.promised ∙ t.promised; accepted = s.accepted ∙ t.accepted; entries = s.entries ∙ t.entries }

pub open_same : (h : Held) (gs : List Frame) → AllMay h gs → AllOpen h gs → HoldSameLog h (after_all h gs)
open_same h [] m o = record { promised = refl; accepted = refl; entries = refl }
open_same h (f ∷ fs) m o =
    same_on h (after h f) (after_all (after h f) fs) (still_same h f m.0 o.0) (open_same (after h f) fs m.1 o.1)

open_front : (h : Held) (xs ys : List Frame) → AllOpen h (xs ++ ys) → AllOpen h xs
open_front h [] ys o = tt
open_front h (x ∷ xs) ys o = (o.0, open_front (after h x) xs ys o.1)

-- a front of the bytes of frames and of less than an envelope behind them
cut_anywhere : (gs : List Frame) (rest cut more : List ℕ) → AllByRecursion IsSpelled gs → IsFrameFront rest
    → cut ++ more ≡ flat_map frame_code gs ++ rest → IsCutOff gs cut
cut_anywhere gs rest cut more s front e = elim (cases_lt (length (flat_map frame_code gs)) (length cut)) [
  | inl h ↦
      let l = longer_front cut (flat_map frame_code gs) more rest (let k : length (flat_map frame_code gs) < length cut = h in omega arith) e in
      record {
        some = gs;
        others = [];
        rest = l.between;
        split = append-nil gs;
        is = l.longer;
        unfinished = front_shrinks l.between more (subst IsFrameFront (sym l.rest) front);
      }
  | inr h ↦
      let l = longer_front (flat_map frame_code gs) cut rest more h (sym e) in
      cut_off gs cut l.between s l.longer
]

-- the bytes of a closing, as those that are kept and those behind them
pub record IsSplit (node cluster : ℕ) (bytes : List ℕ) (kept gone : List Frame) (rest : List ℕ) : Type 0 where
  pub whole : (frame_code (header node cluster) ++ flat_map frame_code kept) ++ (flat_map frame_code gone ++ rest) ≡ bytes

split_of : (node cluster : ℕ) (bytes : List ℕ) (kept gone : List Frame) (rest : List ℕ) → HasFrames node cluster bytes (kept ++ gone) rest
    → IsSplit node cluster bytes kept gone rest
split_of node cluster bytes kept gone rest x = record {
  whole = append_assoc (frame_code (header node cluster)) (flat_map frame_code kept) (flat_map frame_code gone ++ rest)
      ∙ ap (λ (l : List ℕ). frame_code (header node cluster) ++ l)
      (sym (append_assoc (flat_map frame_code kept) (flat_map frame_code gone) rest) ∙ ap (λ (l : List ℕ). l ++ rest) (sym (codes_join kept gone)))
      ∙ x.whole;
}

take_front : (xs ys : List ℕ) → take (length xs) (xs ++ ys) ≡ xs
take_front [] ys = refl
take_front (x ∷ xs) ys = ap (λ (l : List ℕ). x ∷ l) (take_front xs ys)

take_more : (k : ℕ) (xs ys : List ℕ) → take (length xs + k) (xs ++ ys) ≡ xs ++ take k ys
take_more k [] ys = ap (λ (n : ℕ). take n ys) (let e : 0 + k ≡ k = omega arith in e)
take_more k (x ∷ xs) ys =
    ap (λ (n : ℕ). take n (x ∷ (xs ++ ys))) (let e : length (x ∷ xs) + k ≡ suc (length xs + k) = omega arith in e)
    ∙ ap (λ (l : List ℕ). x ∷ l) (take_more k xs ys)

kept_size : (node cluster : ℕ) (kept : List Frame) (closed : ℕ) → 27 + length (flat_map frame_code kept) ≡ closed
    → length (frame_code (header node cluster) ++ flat_map frame_code kept) ≡ closed
kept_size node cluster kept closed e = length-append (frame_code (header node cluster)) (flat_map frame_code kept) ∙ e

-- up to where no adoption is open
closing_left : (node cluster : ℕ) (bytes : List ℕ) (p a : ℕ) (es : List Entry) (closed : ℕ)
    → (x : IsClosing node cluster bytes p a es closed) → HasFrames node cluster (take closed bytes) x.kept []
closing_left node cluster bytes p a es closed x = record {
  spelled = spelled_front x.kept x.gone x.has.spelled;
  rules = may_front at_first x.kept x.gone x.has.rules;
  whole = ap (λ (l : List ℕ). frame_code (header node cluster) ++ l) (append-nil (flat_map frame_code x.kept))
      ∙ sym (take_front (frame_code (header node cluster) ++ flat_map frame_code x.kept) (flat_map frame_code x.gone ++ x.rest))
      ∙ ap (λ (k : ℕ). take k ((frame_code (header node cluster) ++ flat_map frame_code x.kept) ++ (flat_map frame_code x.gone ++ x.rest)))
      (kept_size node cluster x.kept closed x.close)
      ∙ ap (λ (l : List ℕ). take closed l) (split_of node cluster bytes x.kept x.gone x.rest x.has).whole;
}

closing_trimmed : (node cluster : ℕ) (bytes : List ℕ) (p a : ℕ) (es : List Entry) (closed : ℕ) → IsClosing node cluster bytes p a es closed
    → IsTrimmed node cluster bytes (take closed bytes)
closing_trimmed node cluster bytes p a es closed x = record {
  kept = x.kept;
  gone = x.gone;
  rest = x.rest;
  has = x.has;
  unfinished = x.unfinished;
  closed = x.none;
  opens = x.opens;
  left = closing_left node cluster bytes p a es closed x;
}

-- the frames that are kept hold the same log
closing_same : (node cluster : ℕ) (bytes : List ℕ) (p a : ℕ) (es : List Entry) (closed : ℕ)
    → (x : IsClosing node cluster bytes p a es closed) → HoldSameLog (after_all at_first x.kept) (plain p a es)
closing_same node cluster bytes p a es closed x =
    let same = open_same (after_all at_first x.kept) x.gone (may_back at_first x.kept x.gone x.has.rules) x.opens in
    let joined : after_all at_first (x.kept ++ x.gone) ≡ after_all (after_all at_first x.kept) x.gone = after_join at_first x.kept x.gone in
    record {
      promised = same.promised ∙ ap (λ (k : Held). k.promised) (sym joined) ∙ x.promised;
      accepted = same.accepted ∙ ap (λ (k : Held). k.accepted) (sym joined) ∙ x.accepted;
      entries = same.entries ∙ ap (λ (k : Held). k.entries) (sym joined) ∙ x.entries;
    }

plain_is : (k : Held) (p a : ℕ) (es : List Entry) → k.adopting ≡ None → HoldSameLog k (plain p a es) → k ≡ plain p a es
plain_is k p a es none same =
    ap (λ (n : ℕ). record { promised = n; accepted = k.accepted; entries = k.entries; adopting = k.adopting }) same.promised
    ∙ ap (λ (n : ℕ). record { promised = p; accepted = n; entries = k.entries; adopting = k.adopting }) same.accepted
    ∙ ap (λ (l : List Entry). record { promised = p; accepted = a; entries = l; adopting = k.adopting }) same.entries
    ∙ ap (λ (o : Option (List Entry)). record { promised = p; accepted = a; entries = es; adopting = o }) none

closing_holds : (node cluster : ℕ) (bytes : List ℕ) (p a : ℕ) (es : List Entry) (closed : ℕ) → IsClosing node cluster bytes p a es closed
    → Holds node cluster (take closed bytes) (plain p a es)
closing_holds node cluster bytes p a es closed x = record {
  frames = x.kept;
  has = closing_left node cluster bytes p a es closed x;
  is = plain_is (after_all at_first x.kept) p a es x.none (closing_same node cluster bytes p a es closed x);
}

closing_stands : (node cluster : ℕ) (bytes : List ℕ) (p a : ℕ) (es : List Entry) (closed : ℕ) → IsClosing node cluster bytes p a es closed
    → IsLogOf node cluster bytes p a es
closing_stands node cluster bytes p a es closed x = record {
  frames = x.kept ++ x.gone;
  rest = x.rest;
  held = x.has;
  unfinished = x.unfinished;
  promised = x.promised;
  accepted = x.accepted;
  entries = x.entries;
}

-- where some of the bytes behind it are left
partly_left : (node cluster : ℕ) (front : List ℕ) (p a : ℕ) (es : List Entry) (kept gone : List Frame) (cut : List ℕ)
    → AllByRecursion IsSpelled (kept ++ gone) → AllMay at_first (kept ++ gone) → AllOpen (after_all at_first kept) gone
    → HoldSameLog (after_all at_first kept) (plain p a es) → (c : IsCutOff gone cut)
    → (frame_code (header node cluster) ++ flat_map frame_code kept) ++ cut ≡ front → IsLogOf node cluster front p a es
partly_left node cluster front p a es kept gone cut s m o same c e =
    let some_open : AllOpen (after_all at_first kept) c.some =
    open_front (after_all at_first kept) c.some c.others (subst (λ (l : List Frame). AllOpen (after_all at_first kept) l) (sym c.split) o) in
    let behind : AllMay (after_all at_first kept) gone = may_back at_first kept gone m in
    let some_may : AllMay (after_all at_first kept) c.some =
    may_front (after_all at_first kept) c.some c.others (subst (λ (l : List Frame). AllMay (after_all at_first kept) l) (sym c.split) behind) in
    let some_spelled : AllByRecursion IsSpelled c.some =
    spelled_front c.some c.others (subst (λ (l : List Frame). AllByRecursion IsSpelled l) (sym c.split) (spelled_back kept gone s)) in
    let still = open_same (after_all at_first kept) c.some some_may some_open in
    let joined : after_all at_first (kept ++ c.some) ≡ after_all (after_all at_first kept) c.some = after_join at_first kept c.some in
    record {
      frames = kept ++ c.some;
      rest = c.rest;
      held = record {
        spelled = spelled_join kept c.some (spelled_front kept gone s) some_spelled;
        rules = may_join at_first kept c.some (may_front at_first kept gone m) some_may;
        whole = ap (λ (l : List ℕ). frame_code (header node cluster) ++ (l ++ c.rest)) (codes_join kept c.some)
            ∙ ap (λ (l : List ℕ). frame_code (header node cluster) ++ l)
            (append_assoc (flat_map frame_code kept) (flat_map frame_code c.some) c.rest ∙ ap (λ (l : List ℕ). flat_map frame_code kept ++ l) c.is)
            ∙ sym (append_assoc (frame_code (header node cluster)) (flat_map frame_code kept) cut)
            ∙ e;
      };
      unfinished = c.unfinished;
      promised = ap (λ (k : Held). k.promised) joined ∙ sym still.promised ∙ same.promised;
      accepted = ap (λ (k : Held). k.accepted) joined ∙ sym still.accepted ∙ same.accepted;
      entries = ap (λ (k : Held). k.entries) joined ∙ sym still.entries ∙ same.entries;
    }

closing_front : (node cluster : ℕ) (bytes : List ℕ) (p a : ℕ) (es : List Entry) (closed k : ℕ) → IsClosing node cluster bytes p a es closed
    → closed ≤ k → IsLogOf node cluster (take k bytes) p a es
closing_front node cluster bytes p a es closed k x n =
    let size : length (frame_code (header node cluster) ++ flat_map frame_code x.kept) ≡ closed = kept_size node cluster x.kept closed x.close in
    let place : length (frame_code (header node cluster) ++ flat_map frame_code x.kept) + (k - closed) ≡ k = omega arith in
    let front : (frame_code (header node cluster) ++ flat_map frame_code x.kept) ++ take (k - closed) (flat_map frame_code x.gone ++ x.rest) ≡ take k bytes =
    sym (take_more (k - closed) (frame_code (header node cluster) ++ flat_map frame_code x.kept) (flat_map frame_code x.gone ++ x.rest))
    ∙ ap (λ (n : ℕ). take n ((frame_code (header node cluster) ++ flat_map frame_code x.kept) ++ (flat_map frame_code x.gone ++ x.rest))) place
    ∙ ap (λ (l : List ℕ). take k l) (split_of node cluster bytes x.kept x.gone x.rest x.has).whole in
    partly_left node cluster (take k bytes) p a es x.kept x.gone (take (k - closed) (flat_map frame_code x.gone ++ x.rest)) x.has.spelled x.has.rules x.opens
    (closing_same node cluster bytes p a es closed x)
    (cut_anywhere x.gone x.rest (take (k - closed) (flat_map frame_code x.gone ++ x.rest)) (drop (k - closed) (flat_map frame_code x.gone ++ x.rest))
    (spelled_back x.kept x.gone x.has.spelled) x.unfinished (take-append-drop (k - closed) (flat_map frame_code x.gone ++ x.rest)))
    front

-- a front of a header, or of less
unbegun_front : (k : ℕ) (bytes : List ℕ) → IsUnbegun bytes → IsUnbegun (take k bytes)
unbegun_front k bytes u =
    let size : length (take k bytes) ≡ min k (length bytes) = length-take k bytes in
    let few : length bytes < 27 = u.short in
    let short : length (take k bytes) < 27 = omega arith in
    record {
      version = u.version;
      node = u.node;
      cluster = u.cluster;
      more = drop k bytes ++ u.more;
      spelled = u.spelled;
      front = sym (append_assoc (take k bytes) (drop k bytes) u.more) ∙ ap (λ (l : List ℕ). l ++ u.more) (take-append-drop k bytes) ∙ u.front;
      short = short;
    }

header_holds : (node cluster : ℕ) → Holds node cluster (frame_code (header node cluster)) (plain 0 0 [])
header_holds node cluster = record {
  frames = [];
  has = record { spelled = tt; rules = tt; whole = append-nil (frame_code (header node cluster)) };
  is = refl;
}

header_stands : (node cluster : ℕ) → IsLogOf node cluster (frame_code (header node cluster)) 0 0 []
header_stands node cluster = record {
  frames = [];
  rest = [];
  held = record { spelled = tt; rules = tt; whole = append-nil (frame_code (header node cluster)) };
  unfinished = tt;
  promised = refl;
  accepted = refl;
  entries = refl;
}

header_front : (node cluster k : ℕ) → IsSpelled (header node cluster) → StandsFor node cluster (take k (frame_code (header node cluster))) (Log 0 0 [])
header_front node cluster k s = elim (cases_lt (length (take k (frame_code (header node cluster)))) 27) [
  | inl h ↦ inl (
    record {
      version = 1;
      node = node;
      cluster = cluster;
      more = drop k (frame_code (header node cluster));
      spelled = s;
      front = take-append-drop k (frame_code (header node cluster));
      short = h;
    },
    refl,
    refl,
    refl,
  )
  | inr h ↦
      let size : length (frame_code (header node cluster)) ≡ 27 = refl in
      let taken : length (take k (frame_code (header node cluster))) ≡ min k (length (frame_code (header node cluster))) =
      length-take k (frame_code (header node cluster)) in
      let long : 27 ≤ length (take k (frame_code (header node cluster))) = h in
      let all : length (frame_code (header node cluster)) ≤ k = omega arith in
      inr (subst (λ (l : List ℕ). IsLogOf node cluster l 0 0 []) (sym (take_all k (frame_code (header node cluster)) all)) (header_stands node cluster))
]

-- what is found, by where it is closed
pub found_to : (f : Found) (node cluster : ℕ) (bytes : List ℕ) (o : Option ℕ) → IsFound f node cluster bytes → f.closed ≡ o
    → IsFoundTo o node cluster bytes f.promised f.accepted f.entries
found_to f node cluster bytes o x e = subst (λ (q : Option ℕ). IsFoundTo q node cluster bytes f.promised f.accepted f.entries) e x.to

pub closed_within : (f : Found) (node cluster : ℕ) (bytes : List ℕ) (closed : ℕ) → IsFound f node cluster bytes → f.closed ≡ Some closed → closed ≤ f.end
closed_within f node cluster bytes closed x e =
    let to : IsClosing node cluster bytes f.promised f.accepted f.entries closed = found_to f node cluster bytes (Some closed) x e in
    let size : length (frame_code (header node cluster) ++ flat_map frame_code to.kept) ≡ closed = kept_size node cluster to.kept closed to.close in
    let all : length ((frame_code (header node cluster) ++ flat_map frame_code to.kept) ++ (flat_map frame_code to.gone ++ to.rest)) ≡ length bytes =
    ap length (split_of node cluster bytes to.kept to.gone to.rest to.has).whole in
    let sizes : length ((frame_code (header node cluster) ++ flat_map frame_code to.kept) ++ (flat_map frame_code to.gone ++ to.rest))
    ≡ length (frame_code (header node cluster) ++ flat_map frame_code to.kept) + length (flat_map frame_code to.gone ++ to.rest) =
    length-append (frame_code (header node cluster) ++ flat_map frame_code to.kept) (flat_map frame_code to.gone ++ to.rest) in
    let end : f.end ≡ length bytes = x.end in
    omega arith

pub trim_opened : (f : Found) (node cluster : ℕ) (bytes now : List ℕ) (closed : ℕ) → IsFound f node cluster bytes → f.closed ≡ Some closed
    → now ≡ take closed bytes → IsOpened node cluster bytes now
trim_opened f node cluster bytes now closed x e n =
    inr (subst (λ (l : List ℕ). IsTrimmed node cluster bytes l) (sym n)
    (closing_trimmed node cluster bytes f.promised f.accepted f.entries closed (found_to f node cluster bytes (Some closed) x e)))

pub trim_holds : (f : Found) (node cluster : ℕ) (bytes now : List ℕ) (closed : ℕ) → IsFound f node cluster bytes → f.closed ≡ Some closed
    → now ≡ take closed bytes → Holds node cluster now (plain f.promised f.accepted f.entries)
trim_holds f node cluster bytes now closed x e n =
    subst (λ (l : List ℕ). Holds node cluster l (plain f.promised f.accepted f.entries)) (sym n)
    (closing_holds node cluster bytes f.promised f.accepted f.entries closed (found_to f node cluster bytes (Some closed) x e))

pub begin_opened : (f : Found) (node cluster : ℕ) (bytes now : List ℕ) → IsFound f node cluster bytes → f.closed ≡ None
    → now ≡ frame_code (header node cluster) → IsOpened node cluster bytes now
begin_opened f node cluster bytes now x e n = inl ((found_to f node cluster bytes None x e).0, n)

plain_by : (p a q b : ℕ) (es ds : List Entry) → p ≡ q → a ≡ b → es ≡ ds → plain p a es ≡ plain q b ds
plain_by p a q b es ds e f g =
    ap (λ (n : ℕ). plain n a es) e ∙ ap (λ (n : ℕ). plain q n es) f ∙ ap (λ (l : List Entry). plain q b l) g

pub begin_holds : (f : Found) (node cluster : ℕ) (bytes now : List ℕ) → IsFound f node cluster bytes → f.closed ≡ None
    → now ≡ frame_code (header node cluster) → Holds node cluster now (plain f.promised f.accepted f.entries)
begin_holds f node cluster bytes now x e n =
    let to : IsFoundTo None node cluster bytes f.promised f.accepted f.entries = found_to f node cluster bytes None x e in
    subst (λ (l : List ℕ). Holds node cluster l (plain f.promised f.accepted f.entries)) (sym n)
    (subst (λ (h : Held). Holds node cluster (frame_code (header node cluster)) h)
    (sym (plain_by f.promised f.accepted 0 0 f.entries [] to.1 to.2 to.3)) (header_holds node cluster))

-- what a store was found to stand for
stands_to : (o : Option ℕ) (node cluster : ℕ) (bytes : List ℕ) (p a : ℕ) (es : List Entry) → IsFoundTo o node cluster bytes p a es
    → StandsFor node cluster bytes (Log p a es)
stands_to None node cluster bytes p a es x = inl x
stands_to (Some closed) node cluster bytes p a es x = inr (closing_stands node cluster bytes p a es closed x)

pub found_stands : (f : Found) (node cluster : ℕ) (bytes : List ℕ) → IsFound f node cluster bytes
    → StandsFor node cluster bytes (Log f.promised f.accepted f.entries)
found_stands f node cluster bytes x = stands_to f.closed node cluster bytes f.promised f.accepted f.entries x.to

-- what is left stands for the same
pub alike_by : (node cluster : ℕ) (old new : List ℕ) (s : Standing) → node < 256 → cluster < 2 ^ 128 → StandsFor node cluster old s
    → StandsFor node cluster new s → StandsAlike node cluster old new
alike_by node cluster old new s n c x y =
    λ (r : Standing) (h : StandsFor node cluster old r). subst (λ (t : Standing). StandsFor node cluster new t) (one_standing node cluster old s r n c x h) y

pub trim_alike : (f : Found) (node cluster : ℕ) (bytes now : List ℕ) (closed : ℕ) → node < 256 → cluster < 2 ^ 128
    → IsFound f node cluster bytes → f.closed ≡ Some closed → parts.IsFrontFrom closed now bytes → StandsAlike node cluster bytes now
trim_alike f node cluster bytes now closed n c x e part =
    alike_by node cluster bytes now (Log f.promised f.accepted f.entries) n c (found_stands f node cluster bytes x)
    (inr (subst (λ (l : List ℕ). IsLogOf node cluster l f.promised f.accepted f.entries) (sym part.2)
    (closing_front node cluster bytes f.promised f.accepted f.entries closed part.0 (found_to f node cluster bytes (Some closed) x e) part.1)))

none_left : (f : Found) (node cluster : ℕ) (bytes now : List ℕ) → IsSpelled (header node cluster) → IsUnbegun bytes
    → IsPart bytes (frame_code (header node cluster)) now → StandsFor node cluster now (Log 0 0 [])
none_left f node cluster bytes now s u (inl part) = inl (subst IsUnbegun (sym part.1) (unbegun_front part.0 bytes u), refl, refl, refl)
none_left f node cluster bytes now s u (inr part) =
    subst (λ (l : List ℕ). StandsFor node cluster l (Log 0 0 [])) (sym part.1) (header_front node cluster part.0 s)

pub begin_alike : (f : Found) (node cluster : ℕ) (bytes now : List ℕ) → node < 256 → cluster < 2 ^ 128 → IsFound f node cluster bytes
    → f.closed ≡ None → IsPart bytes (frame_code (header node cluster)) now → StandsAlike node cluster bytes now
begin_alike f node cluster bytes now n c x e part =
    let to : IsFoundTo None node cluster bytes f.promised f.accepted f.entries = found_to f node cluster bytes None x e in
    alike_by node cluster bytes now (Log 0 0 []) n c (inl (to.0, refl, refl, refl))
    (none_left f node cluster bytes now (header_is_spelled node cluster n c) to.0 part)

pub same_alike : (node cluster : ℕ) (old new : List ℕ) → new ≡ old → StandsAlike node cluster old new
same_alike node cluster old new e = λ (s : Standing) (h : StandsFor node cluster old s). subst (λ (l : List ℕ). StandsFor node cluster l s) (sym e) h

-- a stop leaves a front of the pending bytes
front_twice : (n m : ℕ) (xs : List ℕ) → take n (take m xs) ≡ take (min n m) xs
front_twice zero m xs = ap (λ (k : ℕ). take k xs) (let e : zero ≡ min zero m = omega arith in e)
front_twice (suc n) zero xs = ap (λ (k : ℕ). take k xs) (let e : zero ≡ min (suc n) zero = omega arith in e)
front_twice (suc n) (suc m) [] = let e : take (min (suc n) (suc m)) [] ≡ [] = take_all (min (suc n) (suc m)) [] (omega arith) in sym e
front_twice (suc n) (suc m) (x ∷ xs) =
    ap (λ (l : List ℕ). x ∷ l) (front_twice n m xs)
    ∙ ap (λ (k : ℕ). take k (x ∷ xs)) (let e : suc (min n m) ≡ min (suc n) (suc m) = omega arith in e)

pub stopped_front : (synced pending whole now : List ℕ) → synced ≡ [] → parts.IsFront pending whole → (j : (n : ℕ) × (now ≡ synced ++ take n pending))
    → parts.IsFront now whole
stopped_front synced pending whole now e part j = (
  min j.0 part.0,
  j.1 ∙ ap (λ (l : List ℕ). l ++ take j.0 pending) e ∙ ap (λ (l : List ℕ). take j.0 l) part.1 ∙ front_twice j.0 part.0 whole,
)

pub left_part : (least : ℕ) (old written new : List ℕ) → parts.IsFrontFrom least new old → IsPart old written new
left_part least old written new part = inl (part.0, part.2)

pub written_part : (old written new : List ℕ) → parts.IsFront new written → IsPart old written new
written_part old written new part = inr part

pub take_whole : (at : ℕ) (xs : List ℕ) → length xs ≤ at → xs ≡ take at xs
take_whole at xs n = sym (take_all at xs n)
