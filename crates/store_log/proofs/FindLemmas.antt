-- What is found in a store.
use Rattle.std.proofs.Common.{◌≡◌, inl, inr, ℕ, ◌<◌, ◌≤◌, List, [], ◌++◌, length, drop, Option, Some, None, Result, Ok, Err, IfOk, IfErr, OnOk, refl, sym, ap, ◌∙◌, subst, arith}
use Rattle.std.specs.Io.{StartsWith}
use Rattle.frame_code.specs.Codes.{frame_code}
use Rattle.frame_code.specs.declared.frames.Frame.{Frame}
use Rattle.phys_log.specs.declared.entries.Entry.{Entry}
use Rattle.store_log.specs.declared.finds.Found.{Found}
use Rattle.store_log.specs.declared.opens.OpenFault.{OpenFault}
use Rattle.store_log.specs.declared.opens.OpenFault.TheVariants as fault
use Rattle.store_log.specs.declared.readings.First.TheVariants.{Ours, Foreign, Unbegun, Bad}
use Rattle.store_log.specs.declared.standings.Standing.TheVariants as standing
use Rattle.store_log.specs.declared.walks.Ended.{Ended}
use Rattle.store_log.specs.Firsts.{IsFirst}
use Rattle.store_log.specs.Held.{Held, at_first, after_all, header, HasFrames, StandsFor}
use Rattle.store_log.specs.Opens.{IsOpenFault, IsLater, IsUnchanged, IsUnread, TellsRead}
use Rattle.store_log.specs.Walks.{IsWalked, IsEnded, IsCorrupt, IsWalkFault, IsClosing, IsFoundTo, IsFound}
use Rattle.store_log.proofs.FaultLemmas.{memory_told, memory_unread, same_later}
use Rattle.store_log.proofs.OpenLemmas.{first_grows}
use Rattle.store_log.proofs.StepLemmas.{read_bad, drop_front, header_within}

-- behind the header of a store that begins with it
pub header_behind : (node cluster : ℕ) (bytes window : List ℕ) → StartsWith bytes window → IsFirst Ours node cluster window
    → frame_code (header node cluster) ++ drop 27 bytes ≡ bytes
header_behind node cluster bytes window s x =
    let begun : 27 ≤ length window = header_within node cluster window x in
    let all : IsFirst Ours node cluster bytes =
    first_grows Ours node cluster window bytes s (λ few. absurd (let h : length window < 27 = few in omega arith)) x in
    ap (λ (l : List ℕ). frame_code (header node cluster) ++ l)
    (ap (λ (l : List ℕ). drop 27 l) (sym all.1.whole) ∙ drop_front (frame_code (header node cluster)) all.0)
    ∙ all.1.whole

-- the frames that were read are a store's
walked_has : (node cluster : ℕ) (bytes : List ℕ) (h : Held) (at closed : ℕ) → frame_code (header node cluster) ++ drop 27 bytes ≡ bytes
    → (w : IsWalked bytes h at closed) → HasFrames node cluster bytes w.all (drop at bytes)
walked_has node cluster bytes h at closed e w = record {
  spelled = w.spelled;
  rules = w.rules;
  whole = ap (λ (l : List ℕ). frame_code (header node cluster) ++ l) w.whole ∙ e;
}

ended_closing : (node cluster : ℕ) (bytes : List ℕ) (e : Ended) → frame_code (header node cluster) ++ drop 27 bytes ≡ bytes → IsEnded bytes e
    → IsClosing node cluster bytes e.held.promised e.held.accepted e.held.entries e.closed
ended_closing node cluster bytes e h x =
    let held : after_all at_first (x.walked.kept ++ x.walked.gone) ≡ e.held =
    ap (λ (l : List Frame). after_all at_first l) x.walked.split ∙ x.walked.held in
    record {
      kept = x.walked.kept;
      gone = x.walked.gone;
      rest = drop x.at bytes;
      has = subst (λ (l : List Frame). HasFrames node cluster bytes l (drop x.at bytes)) (sym x.walked.split)
          (walked_has node cluster bytes e.held x.at e.closed h x.walked);
      unfinished = x.unfinished;
      none = x.walked.none;
      opens = x.walked.opens;
      close = x.walked.close;
      promised = ap (λ (k : Held). k.promised) held;
      accepted = ap (λ (k : Held). k.accepted) held;
      entries = ap (λ (k : Held). k.entries) held;
    }

found_by : (f : Found) (node cluster : ℕ) (bytes : List ℕ) (o : Option ℕ) (p a : ℕ) (es : List Entry) → f.closed ≡ o → f.promised ≡ p
    → f.accepted ≡ a → f.entries ≡ es → IsFoundTo o node cluster bytes p a es → IsFoundTo f.closed node cluster bytes f.promised f.accepted f.entries
found_by f node cluster bytes o p a es c_is p_is a_is es_is x =
    subst (λ (q : Option ℕ). IsFoundTo q node cluster bytes f.promised f.accepted f.entries) (sym c_is)
    (subst (λ (q : ℕ). IsFoundTo o node cluster bytes q f.accepted f.entries) (sym p_is)
    (subst (λ (q : ℕ). IsFoundTo o node cluster bytes p q f.entries) (sym a_is)
    (subst (λ (q : List Entry). IsFoundTo o node cluster bytes p a q) (sym es_is) x)))

pub ended_found : (f : Found) (e : Ended) (node cluster : ℕ) (bytes window : List ℕ) → IsEnded bytes e → IsFirst Ours node cluster window
    → StartsWith bytes window → f.promised ≡ e.held.promised → f.accepted ≡ e.held.accepted → f.entries ≡ e.held.entries
    → f.closed ≡ Some e.closed → f.end ≡ e.end → IsFound f node cluster bytes
ended_found f e node cluster bytes window x first s p_is a_is es_is c_is end_is = record {
  end = end_is ∙ x.end;
  to = found_by f node cluster bytes (Some e.closed) e.held.promised e.held.accepted e.held.entries c_is p_is a_is es_is
      (ended_closing node cluster bytes e (header_behind node cluster bytes window s first) x);
}

-- the same, of a result
pub ended_result : (r : Result Found OpenFault) (e : Ended) (node cluster : ℕ) (bytes window : List ℕ) → IsEnded bytes e
    → IsFirst Ours node cluster window → StartsWith bytes window → IfOk r (λ f. f.promised ≡ e.held.promised)
    → IfOk r (λ f. f.accepted ≡ e.held.accepted) → IfOk r (λ f. f.entries ≡ e.held.entries) → IfOk r (λ f. f.closed ≡ Some e.closed)
    → IfOk r (λ f. f.end ≡ e.end) → IfOk r (λ f. IsFound f node cluster bytes)
ended_result (Ok f) e node cluster bytes window x first s p_is a_is es_is c_is end_is =
    ended_found f e node cluster bytes window x first s p_is a_is es_is c_is end_is
ended_result (Err w) e node cluster bytes window x first s p_is a_is es_is c_is end_is = tt

pub unbegun_found : (f : Found) (node cluster : ℕ) (bytes window : List ℕ) → StartsWith bytes window → (length window < 27 → window ≡ bytes)
    → IsFirst Unbegun node cluster window → f.promised ≡ 0 → f.accepted ≡ 0 → f.entries ≡ [] → f.closed ≡ None → f.end ≡ length window
    → IsFound f node cluster bytes
unbegun_found f node cluster bytes window s short x p_is a_is es_is c_is end_is = record {
  end = end_is ∙ ap length (short x.short);
  to = found_by f node cluster bytes None 0 0 [] c_is p_is a_is es_is (first_grows Unbegun node cluster window bytes s short x, refl, refl, refl);
}

pub foreign_told : (node cluster : ℕ) (bytes window : List ℕ) (a b : ℕ) → StartsWith bytes window → (length window < 27 → window ≡ bytes)
    → IsFirst Foreign node cluster window → IsOpenFault fault.Foreign node cluster bytes a b
foreign_told node cluster bytes window a b s short x = first_grows Foreign node cluster window bytes s short x

pub bad_told : (node cluster : ℕ) (bytes window : List ℕ) (a b : ℕ) → StartsWith bytes window → (length window < 27 → window ≡ bytes)
    → IsFirst Bad node cluster window → IsOpenFault (fault.Corrupt 0) node cluster bytes a b
bad_told node cluster bytes window a b s short x = inl (first_grows Bad node cluster window bytes s short x, refl)

corrupt_stands : (node cluster : ℕ) (bytes : List ℕ) (at : ℕ) → frame_code (header node cluster) ++ drop 27 bytes ≡ bytes → IsCorrupt bytes at
    → StandsFor node cluster bytes (standing.Bad at)
corrupt_stands node cluster bytes at h x = inr (read_bad node cluster bytes x.held (drop at bytes) at (record {
  frames = x.walked.all;
  read = walked_has node cluster bytes x.held at x.closed h x.walked;
  held = x.walked.held;
  place = x.walked.place;
}) x.wrong)

told_by : (w : OpenFault) (node cluster : ℕ) (bytes : List ℕ) (a b : ℕ) → frame_code (header node cluster) ++ drop 27 bytes ≡ bytes
    → IsWalkFault w bytes a b → IsOpenFault w node cluster bytes a b
told_by (fault.StoreFault None) node cluster bytes a b h x = x
told_by (fault.StoreFault (Some size)) node cluster bytes a b h x = absurd x
told_by fault.Foreign node cluster bytes a b h x = absurd x
told_by (fault.Corrupt at) node cluster bytes a b h x = corrupt_stands node cluster bytes at h x
told_by fault.NoMemory node cluster bytes a b h x = tt

pub fault_told : (w : OpenFault) (node cluster : ℕ) (bytes window : List ℕ) (a b : ℕ) → IsFirst Ours node cluster window → StartsWith bytes window
    → IsWalkFault w bytes a b → IsOpenFault w node cluster bytes a b
fault_told w node cluster bytes window a b first s x = told_by w node cluster bytes a b (header_behind node cluster bytes window s first) x

-- a fault of a later call, over the same bytes
pub told_over : (w : OpenFault) (node cluster : ℕ) (old mid : List ℕ) (a b c : ℕ) → mid ≡ old → b ≡ a → IsOpenFault w node cluster mid b c
    → IsOpenFault w node cluster old a c
told_over w node cluster old mid a b c e n x =
    subst (λ (l : List ℕ). IsOpenFault w node cluster l a c) e (subst (λ (m : ℕ). IsOpenFault w node cluster mid m c) n x)

pub unchanged_over : (w : OpenFault) (old mid new : List ℕ) → mid ≡ old → IsUnchanged w mid new → IsUnchanged w old new
unchanged_over w old mid new e x = subst (λ (l : List ℕ). IsUnchanged w l new) e x

pub on_ok : {T E : Type 0} {P : Type 0} (r : Result T E) → P → OnOk r P
on_ok (Ok x) p = p
on_ok (Err e) p = tt

pub calm_over : {T E : Type 0} (r : Result T E) (a b c : ℕ) → b ≡ a → OnOk r (c ≡ b) → OnOk r (c ≡ a)
calm_over r a b c n h = subst (λ (m : ℕ). OnOk r (c ≡ m)) n h

pub errs_over : {T : Type 0} (r : Result T OpenFault) (node cluster : ℕ) (old mid : List ℕ) (a b c : ℕ) → mid ≡ old → b ≡ a
    → IfErr r (λ w. IsOpenFault w node cluster mid b c) → IfErr r (λ w. IsOpenFault w node cluster old a c)
errs_over (Ok x) node cluster old mid a b c e n h = tt
errs_over (Err w) node cluster old mid a b c e n h = told_over w node cluster old mid a b c e n h

pub later_over : {T : Type 0} (r : Result T OpenFault) (a b c : ℕ) → b ≡ a → IfErr r (λ w. IsLater w b c) → IfErr r (λ w. IsLater w a c)
later_over r a b c n h = subst (λ (m : ℕ). IfErr r (λ w. IsLater w m c)) n h

pub same_errs : {T : Type 0} (r : Result T OpenFault) (a b : ℕ) → b ≡ a → IfErr r (λ w. IsLater w a b)
same_errs (Ok x) a b n = tt
same_errs (Err w) a b n = same_later w a b n

pub memory_errs : {T : Type 0} (r : Result T OpenFault) (node cluster : ℕ) (bytes : List ℕ) (a b : ℕ) → IfErr r (λ w. w ≡ fault.NoMemory)
    → IfErr r (λ w. IsOpenFault w node cluster bytes a b)
memory_errs (Ok x) node cluster bytes a b h = tt
memory_errs (Err w) node cluster bytes a b h = memory_told w node cluster bytes a b h

pub unread_errs : {T : Type 0} (r : Result T OpenFault) → IfErr r (λ w. w ≡ fault.NoMemory) → IfErr r IsUnread
unread_errs (Ok x) h = tt
unread_errs (Err w) h = memory_unread w h

-- which log a fault tells the size of
pub unread_tells : (w : OpenFault) (node cluster : ℕ) (bytes : List ℕ) (before now : ℕ) → IsUnread w → now ≡ before → TellsRead w node cluster bytes before now
unread_tells (fault.StoreFault None) node cluster bytes before now x e = e
unread_tells (fault.StoreFault (Some size)) node cluster bytes before now x e = absurd x
unread_tells fault.Foreign node cluster bytes before now x e = tt
unread_tells (fault.Corrupt at) node cluster bytes before now x e = tt
unread_tells fault.NoMemory node cluster bytes before now x e = tt

pub tells_over : (w : OpenFault) (node cluster : ℕ) (old mid : List ℕ) (a b c : ℕ) → mid ≡ old → b ≡ a → TellsRead w node cluster mid b c
    → TellsRead w node cluster old a c
tells_over w node cluster old mid a b c e n x =
    subst (λ (l : List ℕ). TellsRead w node cluster l a c) e (subst (λ (m : ℕ). TellsRead w node cluster mid m c) n x)
