-- A log that is taken over: the frames of an adoption, and what a stop inside of them leaves.
use Rattle.std.proofs.Common.{◌≡◌, ◌⊎◌, inl, inr, ℕ, ◌<◌, ◌≤◌, ◌^◌, ◌==◌, if◌then◌else◌, Bool, true, false, List, [], ◌∷◌, ◌++◌, Some, map, take, length, sym, subst, refl, ap, ◌∙◌, arith, append_assoc}
use Rattle.std.proofs.lemmas.List.{append-nil}
use Rattle.std.proofs.lemmas.Bool.Decides.{Decides-eqb}
use Rattle.std.specs.List.{flat_map, AllByRecursion}
use Rattle.frame_code.specs.Codes.{frame_code}
use Rattle.frame_code.specs.Spelled.{IsSpelled}
use Rattle.frame_code.specs.declared.frames.Frame.{Frame}
use Rattle.frame_code.specs.declared.frames.Frame.TheVariants as frame
use Rattle.phys_log.specs.declared.entries.Entry.{Entry}
use Rattle.phys_log.specs.Logs.{IsLog}
use Rattle.phys_log.proofs.LogLaws.{log_front, log_fits}
use Rattle.store_log.specs.Cuts.{HoldSameLog}
use Rattle.store_log.specs.Held.{Held, AllMay, after_all, IsLogOf}
use Rattle.store_log.specs.Holds.{plain}
use Rattle.store_log.specs.Keeps.{Stored, AreKept, AreLeft}
use Rattle.store_log.specs.Follows.{AreNextFrames}
use Rattle.store_log.proofs.StepLemmas.{one_code}
use Rattle.node_log.specs.Logged.{Logged, IsInStep, Leaves, StandForOne, AreSpelled, with_promise}
use Rattle.node_log.specs.Taken.{with_taken, promise_frames, adoption_frames, take_frames}
use Rattle.node_log.proofs.FrameLemmas.{MayStand, frames_next, frames_in_step, frames_left}
use Rattle.node_log.proofs.PromiseLemmas.{promise_spelled, accept_spelled}

-- an adoption is open
abbrev open_held : ℕ → ℕ → List Entry → List Entry → Held
open_held p a es adopted = record { promised = p; accepted = a; entries = es; adopting = Some adopted }

abbrev tail_frames : ℕ → List Entry → List Frame
tail_frames g more = map frame.Entry more ++ frame.Accept g ∷ []

one_more : (adopted more : List Entry) (e : Entry) → adopted ++ e ∷ more ≡ (adopted ++ e ∷ []) ++ more
one_more adopted more e = sym (append_assoc adopted (e ∷ []) more)

-- its entries and its acceptance may stand there
tail_may : (p a : ℕ) (es adopted more : List Entry) → a < p → IsLog (adopted ++ more) → AllMay (open_held p a es adopted) (tail_frames p more)
tail_may p a es adopted [] above log = ((refl, above), tt)
tail_may p a es adopted (e ∷ more) above log =
    let all : IsLog ((adopted ++ e ∷ []) ++ more) = subst IsLog (one_more adopted more e) log in
    (log_fits adopted e (log_front (adopted ++ e ∷ []) more all), tail_may p a es (adopted ++ e ∷ []) more above all)

tail_after : (p a : ℕ) (es adopted more : List Entry) → after_all (open_held p a es adopted) (tail_frames p more) ≡ plain p p (adopted ++ more)
tail_after p a es adopted [] = ap (plain p p) (sym (append-nil adopted))
tail_after p a es adopted (e ∷ more) = tail_after p a es (adopted ++ e ∷ []) more ∙ ap (plain p p) (sym (one_more adopted more e))

tail_spelled : (g : ℕ) (more : List Entry) → g < 2 ^ 62 → AreSpelled more → AllByRecursion IsSpelled (tail_frames g more)
tail_spelled g [] n s = (accept_spelled g n, tt)
tail_spelled g (e ∷ more) n s = (s.0, tail_spelled g more n s.1)

-- after some of them the log is as before, or they are all
tail_cut : (p a : ℕ) (es adopted more : List Entry) (some others : List Frame) → some ++ others ≡ tail_frames p more
    → HoldSameLog (plain p a es) (after_all (open_held p a es adopted) some) ⊎ (some ≡ tail_frames p more)
tail_cut p a es adopted more [] others split = inl record { promised = refl; accepted = refl; entries = refl }
tail_cut p a es adopted [] (f ∷ []) others split = inr (let is : f ≡ frame.Accept p = cc in ap (λ (x : Frame). x ∷ []) is)
tail_cut p a es adopted [] (f ∷ g ∷ some) others split = absurd (cc split)
tail_cut p a es adopted (e ∷ more) (f ∷ some) others split =
    let is : f ≡ frame.Entry e = cc split in
    let rest : some ++ others ≡ tail_frames p more = cc split in
    go is (tail_cut p a es (adopted ++ e ∷ []) more some others rest)
  where
    go : f ≡ frame.Entry e → HoldSameLog (plain p a es) (after_all (open_held p a es (adopted ++ e ∷ [])) some) ⊎ (some ≡ tail_frames p more)
        → HoldSameLog (plain p a es) (after_all (open_held p a es adopted) (f ∷ some)) ⊎ (f ∷ some ≡ tail_frames p (e ∷ more))
    go is (inl s) = inl (subst (λ (x : Frame). HoldSameLog (plain p a es) (after_all (open_held p a es adopted) (x ∷ some))) (sym is) s)
    go is (inr s) = inr (ap (λ (x : Frame). x ∷ some) is ∙ ap (λ (xs : List Frame). frame.Entry e ∷ xs) s)

-- the whole adoption
adoption_may : (p a kept : ℕ) (es more : List Entry) → a < p → kept ≤ length es → IsLog (take kept es ++ more) → AllMay (plain p a es) (adoption_frames p kept more)
adoption_may p a kept es more above within log = (within, tail_may p a es (take kept es) more above log)

adoption_after : (p a kept : ℕ) (es more : List Entry) → after_all (plain p a es) (adoption_frames p kept more) ≡ plain p p (take kept es ++ more)
adoption_after p a kept es more = tail_after p a es (take kept es) more

adoption_spelled : (g kept : ℕ) (more : List Entry) → g < 2 ^ 62 → kept < 2 ^ 62 → AreSpelled more → AllByRecursion IsSpelled (adoption_frames g kept more)
adoption_spelled g kept more n k s = (record { parts = k; size = omega arith }, tail_spelled g more n s)

adoption_cut : (p a kept : ℕ) (es more : List Entry) (some others : List Frame) → some ++ others ≡ adoption_frames p kept more
    → HoldSameLog (plain p a es) (after_all (plain p a es) some) ⊎ (some ≡ adoption_frames p kept more)
adoption_cut p a kept es more [] others split = inl record { promised = refl; accepted = refl; entries = refl }
adoption_cut p a kept es more (f ∷ some) others split =
    let is : f ≡ frame.Cut kept = cc split in
    let rest : some ++ others ≡ tail_frames p more = cc split in
    go is (tail_cut p a es (take kept es) more some others rest)
  where
    go : f ≡ frame.Cut kept → HoldSameLog (plain p a es) (after_all (open_held p a es (take kept es)) some) ⊎ (some ≡ tail_frames p more)
        → HoldSameLog (plain p a es) (after_all (plain p a es) (f ∷ some)) ⊎ (f ∷ some ≡ adoption_frames p kept more)
    go is (inl s) = inl (subst (λ (x : Frame). HoldSameLog (plain p a es) (after_all (plain p a es) (x ∷ some))) (sym is) s)
    go is (inr s) = inr (ap (λ (x : Frame). x ∷ some) is ∙ ap (λ (xs : List Frame). frame.Cut kept ∷ xs) s)

-- what a call of `take_over` asks
pub record IsTaken (p a g kept : ℕ) (es more : List Entry) : Type 0 where
  pub promised : p ≤ g
  pub accepted : a < g
  pub number : g < 2 ^ 62
  pub cut : kept < 2 ^ 62
  pub within : kept ≤ length es
  pub log : IsLog (take kept es ++ more)
  pub spelled : AreSpelled more

-- with a promise before it, or without
frames_same : (p g kept : ℕ) (more : List Entry) → (p == g) ≡ true → take_frames p g kept more ≡ adoption_frames g kept more
frames_same p g kept more e = ap (λ (t : Bool). (if t then [] else frame.Promise g ∷ []) ++ adoption_frames g kept more) e

frames_above : (p g kept : ℕ) (more : List Entry) → (p == g) ≡ false → take_frames p g kept more ≡ frame.Promise g ∷ adoption_frames g kept more
frames_above p g kept more e = ap (λ (t : Bool). (if t then [] else frame.Promise g ∷ []) ++ adoption_frames g kept more) e

pub take_stands : (p a g kept : ℕ) (es more : List Entry) → IsTaken p a g kept es more → MayStand p a es (take_frames p g kept more)
take_stands p a g kept es more x = go (p == g) refl
  where
    go : (t : Bool) → (p == g) ≡ t → MayStand p a es (take_frames p g kept more)
    go true e =
        let is : p ≡ g = (Decides-eqb p g).0 e in
        subst (λ (fs : List Frame). MayStand p a es fs) (sym (frames_same p g kept more e)) record {
          spelled = adoption_spelled g kept more x.number x.cut x.spelled;
          may = subst (λ (k : ℕ). AllMay (plain k a es) (adoption_frames g kept more)) (sym is) (adoption_may g a kept es more x.accepted x.within x.log);
        }
    go false e =
        let ne : p ≡ g → ⊥ = λ q. absurd (cc (e, (Decides-eqb p g).1 q)) in
        let le : p ≤ g = x.promised in
        subst (λ (fs : List Frame). MayStand p a es fs) (sym (frames_above p g kept more e)) record {
          spelled = (promise_spelled g x.number, adoption_spelled g kept more x.number x.cut x.spelled);
          may = (omega arith, adoption_may g a kept es more x.accepted x.within x.log);
        }

pub take_after : (p a g kept : ℕ) (es more : List Entry) → after_all (plain p a es) (take_frames p g kept more) ≡ plain g g (take kept es ++ more)
take_after p a g kept es more = go (p == g) refl
  where
    go : (t : Bool) → (p == g) ≡ t → after_all (plain p a es) (take_frames p g kept more) ≡ plain g g (take kept es ++ more)
    go true e =
        let is : p ≡ g = (Decides-eqb p g).0 e in
        ap (after_all (plain p a es)) (frames_same p g kept more e) ∙ ap (λ (k : ℕ). after_all (plain k a es) (adoption_frames g kept more)) is ∙ adoption_after g a kept es more
    go false e = ap (after_all (plain p a es)) (frames_above p g kept more e) ∙ adoption_after g a kept es more

-- the log after frames that are the same to it
stands_same : (node cluster : ℕ) (stopped : List ℕ) (h k : Held) → HoldSameLog h k → IsLogOf node cluster stopped k.promised k.accepted k.entries
    → IsLogOf node cluster stopped h.promised h.accepted h.entries
stands_same node cluster stopped h k s i = record {
  frames = i.frames;
  rest = i.rest;
  held = i.held;
  unfinished = i.unfinished;
  promised = i.promised ∙ sym s.promised;
  accepted = i.accepted ∙ sym s.accepted;
  entries = i.entries ∙ sym s.entries;
}

-- what a stop leaves stands for the log before, the one with the promise alone, or the one that is taken
take_cut : (l : Logged) (g kept : ℕ) (more : List Entry) (stopped : List ℕ) (some others : List Frame) → some ++ others ≡ take_frames l.promised g kept more
    → IsLogOf l.node l.cluster stopped (after_all (plain l.promised l.accepted l.entries) some).promised
    (after_all (plain l.promised l.accepted l.entries) some).accepted (after_all (plain l.promised l.accepted l.entries) some).entries
    → StandForOne stopped (l ∷ with_promise l g ∷ with_taken l g kept more ∷ [])
take_cut l g kept more stopped some others split i = go (l.promised == g) refl some split i
  where
    Left : List Frame → Type 0
    Left fs = IsLogOf l.node l.cluster stopped (after_all (plain l.promised l.accepted l.entries) fs).promised
        (after_all (plain l.promised l.accepted l.entries) fs).accepted (after_all (plain l.promised l.accepted l.entries) fs).entries

    Found : Type 0
    Found = StandForOne stopped (l ∷ with_promise l g ∷ with_taken l g kept more ∷ [])

    whole : (fs : List Frame) → fs ≡ take_frames l.promised g kept more → Left fs → Found
    whole fs is s =
        let at : after_all (plain l.promised l.accepted l.entries) fs ≡ plain g g (take kept l.entries ++ more) =
        ap (after_all (plain l.promised l.accepted l.entries)) is ∙ take_after l.promised l.accepted g kept l.entries more in
        inr (inr (inl (inr (subst (λ (h : Held). IsLogOf l.node l.cluster stopped h.promised h.accepted h.entries) at s))))

    same : (p : ℕ) (fs rest : List Frame) → l.promised ≡ p → p ≡ g → fs ++ rest ≡ adoption_frames g kept more → take_frames l.promised g kept more ≡ adoption_frames g kept more
        → Left fs → HoldSameLog (plain g l.accepted l.entries) (after_all (plain g l.accepted l.entries) fs) ⊎ (fs ≡ adoption_frames g kept more) → Found
    same p fs rest e f split frames s (inl b) =
        inr (inl (inr (stands_same l.node l.cluster stopped (plain g l.accepted l.entries) (after_all (plain g l.accepted l.entries) fs) b
        (subst (λ (k : ℕ). IsLogOf l.node l.cluster stopped (after_all (plain k l.accepted l.entries) fs).promised
        (after_all (plain k l.accepted l.entries) fs).accepted (after_all (plain k l.accepted l.entries) fs).entries) (e ∙ f) s))))
    same p fs rest e f split frames s (inr b) = whole fs (b ∙ sym frames) s

    above : (f : Frame) (fs : List Frame) → f ≡ frame.Promise g → take_frames l.promised g kept more ≡ frame.Promise g ∷ adoption_frames g kept more → Left (f ∷ fs)
        → HoldSameLog (plain g l.accepted l.entries) (after_all (plain g l.accepted l.entries) fs) ⊎ (fs ≡ adoption_frames g kept more) → Found
    above f fs is frames s (inl b) =
        let t : Left (frame.Promise g ∷ fs) = subst (λ (x : Frame). Left (x ∷ fs)) is s in
        inr (inl (inr (stands_same l.node l.cluster stopped (plain g l.accepted l.entries) (after_all (plain g l.accepted l.entries) fs) b t)))
    above f fs is frames s (inr b) = whole (f ∷ fs) (ap (λ (x : Frame). x ∷ fs) is ∙ (ap (λ (xs : List Frame). frame.Promise g ∷ xs) b ∙ sym frames)) s

    go : (t : Bool) → (l.promised == g) ≡ t → (fs : List Frame) → fs ++ others ≡ take_frames l.promised g kept more → Left fs → Found
    go true e fs split s =
        let is : l.promised ≡ g = (Decides-eqb l.promised g).0 e in
        let frames = frames_same l.promised g kept more e in
        same l.promised fs others refl is (split ∙ frames) frames s (adoption_cut g l.accepted kept l.entries more fs others (split ∙ frames))
    go false e [] split s = inl (inr s)
    go false e (f ∷ fs) split s =
        let frames : take_frames l.promised g kept more ≡ frame.Promise g ∷ adoption_frames g kept more = frames_above l.promised g kept more e in
        let all : f ∷ (fs ++ others) ≡ frame.Promise g ∷ adoption_frames g kept more = split ∙ frames in
        let is : f ≡ frame.Promise g = cc all in
        let rest : fs ++ others ≡ adoption_frames g kept more = cc all in
        above f fs is frames s (adoption_cut g l.accepted kept l.entries more fs others rest)

pub take_next : (node cluster : ℕ) (store : Stored) (p a g kept : ℕ) (es more : List Entry) (bytes : List ℕ) → IsTaken p a g kept es more
    → bytes ≡ flat_map frame_code (take_frames p g kept more) → IsInStep node cluster store p a es → ∥ AreNextFrames store.synced bytes ∥₁
take_next node cluster store p a g kept es more bytes x code i =
    frames_next node cluster store p a es (take_frames p g kept more) bytes (take_stands p a g kept es more x) code i

pub take_in_step : (node cluster : ℕ) (old new : Stored) (p a g kept : ℕ) (es more : List Entry) (bytes : List ℕ) → IsTaken p a g kept es more
    → bytes ≡ flat_map frame_code (take_frames p g kept more) → AreKept old new bytes → IsInStep node cluster old p a es
    → IsInStep node cluster new g g (take kept es ++ more)
take_in_step node cluster old new p a g kept es more bytes x code k i =
    frames_in_step node cluster old new p a g g es (take kept es ++ more) (take_frames p g kept more) bytes (take_stands p a g kept es more x) code
    (take_after p a g kept es more) k i

pub take_left : (l : Logged) (new : Stored) (g kept : ℕ) (more : List Entry) (bytes : List ℕ) → IsTaken l.promised l.accepted g kept l.entries more
    → bytes ≡ flat_map frame_code (take_frames l.promised g kept more) → AreLeft l.store new bytes
    → IsInStep l.node l.cluster l.store l.promised l.accepted l.entries → Leaves new (l ∷ with_promise l g ∷ with_taken l g kept more ∷ [])
take_left l new g kept more bytes x code k i =
    frames_left l new (take_frames l.promised g kept more) bytes (l ∷ with_promise l g ∷ with_taken l g kept more ∷ [])
    (take_stands l.promised l.accepted g kept l.entries more x) code (λ stopped some others split s. take_cut l g kept more stopped some others split s) k i

-- the bytes of the frames, as they are written
pub promise_same : (p g : ℕ) (bytes : List ℕ) → p ≡ g → bytes ≡ bytes ++ flat_map frame_code (promise_frames p g)
promise_same p g bytes e =
    sym (append-nil bytes) ∙ ap (λ (t : Bool). bytes ++ flat_map frame_code (if t then [] else frame.Promise g ∷ [])) (sym ((Decides-eqb p g).1 e))

pub promise_above : (p g : ℕ) → (p ≡ g → ⊥) → frame_code (frame.Promise g) ≡ flat_map frame_code (promise_frames p g)
promise_above p g ne = sym (one_code (frame.Promise g)) ∙ ap (λ (t : Bool). flat_map frame_code (if t then [] else frame.Promise g ∷ [])) (sym (not_eq (p == g) refl))
  where
    not_eq : (t : Bool) → (p == g) ≡ t → (p == g) ≡ false
    not_eq true e = absurd (ne ((Decides-eqb p g).0 e))
    not_eq false e = e

pub cut_spelled : (kept : ℕ) → kept < 2 ^ 62 → IsSpelled (frame.Cut kept)
cut_spelled kept n = record { parts = n; size = omega arith }

code_join : (xs ys : List Frame) → flat_map frame_code (xs ++ ys) ≡ flat_map frame_code xs ++ flat_map frame_code ys
code_join [] ys = refl
code_join (x ∷ xs) ys = ap (λ (c : List ℕ). frame_code x ++ c) (code_join xs ys) ∙ sym (append_assoc (frame_code x) (flat_map frame_code xs) (flat_map frame_code ys))

pub take_code : (p g kept : ℕ) (es : List Entry) (a b c d : List ℕ) → a ≡ [] ++ flat_map frame_code (promise_frames p g) → b ≡ a ++ frame_code (frame.Cut kept)
    → c ≡ b ++ flat_map frame_code (map frame.Entry es) → d ≡ c ++ frame_code (frame.Accept g) → d ≡ flat_map frame_code (take_frames p g kept es)
take_code p g kept es a b c d ea eb ec ed =
    let P = flat_map frame_code (promise_frames p g) in
    let C = frame_code (frame.Cut kept) in
    let E = flat_map frame_code (map frame.Entry es) in
    let A = frame_code (frame.Accept g) in
    let one : d ≡ ((P ++ C) ++ E) ++ A = ed ∙ ap (λ (t : List ℕ). t ++ A) (ec ∙ ap (λ (t : List ℕ). t ++ E) (eb ∙ ap (λ (t : List ℕ). t ++ C) ea)) in
    let two : ((P ++ C) ++ E) ++ A ≡ P ++ (C ++ (E ++ A)) = append_assoc (P ++ C) E A ∙ append_assoc P C (E ++ A) in
    let three : E ++ A ≡ flat_map frame_code (map frame.Entry es ++ frame.Accept g ∷ []) =
    ap (λ (t : List ℕ). E ++ t) (sym (one_code (frame.Accept g))) ∙ sym (code_join (map frame.Entry es) (frame.Accept g ∷ [])) in
    let four : P ++ flat_map frame_code (adoption_frames g kept es) ≡ flat_map frame_code (take_frames p g kept es) = sym (code_join (promise_frames p g) (adoption_frames g kept es)) in
    one ∙ (two ∙ (ap (λ (t : List ℕ). P ++ (C ++ t)) three ∙ four))
