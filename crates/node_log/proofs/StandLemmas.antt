-- A generation more: what a store holds with its promise and its acceptance, and what a stop inside of these leaves.
use Rattle.std.proofs.Common.{◌≡◌, inl, inr, ℕ, ◌+◌, ◌<◌, ◌≤◌, ◌^◌, List, [], ◌∷◌, ◌++◌, Option, Some, None, refl, sym, ap, ◌∙◌, subst, arith}
use Rattle.std.proofs.Math.Logic.{∥∥₁_map}
use Rattle.std.proofs.lemmas.List.{append-nil}
use Rattle.std.specs.List.{flat_map, AllByRecursion}
use Rattle.frame_code.specs.Codes.{frame_code}
use Rattle.frame_code.specs.Spelled.{IsSpelled}
use Rattle.frame_code.specs.declared.frames.Frame.{Frame}
use Rattle.frame_code.specs.declared.frames.Frame.TheVariants as frame
use Rattle.phys_log.specs.declared.entries.Entry.{Entry}
use Rattle.store_log.specs.Cuts.{StandsAfter}
use Rattle.store_log.specs.Follows.{MayFollow}
use Rattle.store_log.specs.Held.{Held, at_first, May, after, AllMay, after_all, IsLogOf}
use Rattle.store_log.specs.Held as held
use Rattle.store_log.specs.Holds.{Holds, plain}
use Rattle.store_log.specs.Keeps.{Stored, AreKept, AreLeft}
use Rattle.store_log.proofs.KeptLaws.{kept_hold, left_stand}
use Rattle.node_log.specs.Logged.{Logged, IsInStep, Leaves, StandForOne, with_promise, with_stand}

-- the frames that stand in a generation, and their bytes
abbrev pub frames_of : ℕ → List Frame
frames_of g = frame.Promise g ∷ frame.Accept g ∷ []

abbrev pub bytes_of : ℕ → List ℕ
bytes_of g = frame_code (frame.Promise g) ++ frame_code (frame.Accept g)

pub frames_are_spelled : (g : ℕ) → g < 2 ^ 62 → AllByRecursion IsSpelled (frames_of g)
frames_are_spelled g n = (record { parts = n; size = omega arith }, (record { parts = n; size = omega arith }, tt))

pub bytes_are : (g : ℕ) → flat_map frame_code (frames_of g) ≡ bytes_of g
bytes_are g = ap (λ (code : List ℕ). frame_code (frame.Promise g) ++ code) (append-nil (frame_code (frame.Accept g)))

-- the accepted generation is at most the promised one, after each frame
abbrev pub Rises : Held → Type 0
Rises h = h.accepted ≤ h.promised

entry_rises : (p a : ℕ) (es : List Entry) (e : Entry) (adopting : Option (List Entry)) → a ≤ p → Rises (held.held_with_entry p a es e adopting)
entry_rises p a es e None n = n
entry_rises p a es e (Some adopted) n = n

frame_rises : (h : Held) (f : Frame) → May h f → Rises h → Rises (after h f)
frame_rises h (frame.Header v n c) m r = absurd m
frame_rises h (frame.Promise g) m r = let above : h.promised < g = m in omega arith
frame_rises h (frame.Accept g) m r = let is : g ≡ h.promised = m.0 in omega arith
frame_rises h (frame.Entry e) m r = entry_rises h.promised h.accepted h.entries e h.adopting r
frame_rises h (frame.Cut n) m r = r

frames_rise : (h : Held) (fs : List Frame) → AllMay h fs → Rises h → Rises (after_all h fs)
frames_rise h [] m r = r
frames_rise h (f ∷ fs) m r = frames_rise (after h f) fs m.1 (frame_rises h f m.0 r)

held_rises : (node cluster : ℕ) (bytes : List ℕ) (p a : ℕ) (es : List Entry) → Holds node cluster bytes (plain p a es) → a ≤ p
held_rises node cluster bytes p a es h =
    let first : Rises at_first = omega arith in
    subst Rises h.is (frames_rise at_first h.frames h.has.rules first)

stand_may : (p a : ℕ) (es : List Entry) → a ≤ p → AllMay (plain p a es) (frames_of (p + 1))
stand_may p a es n = (omega arith, ((refl, omega arith), tt))

-- so both frames may be kept
pub stand_follows : (node cluster : ℕ) (store : Stored) (p a g : ℕ) (es : List Entry) → g ≡ p + 1 → g < 2 ^ 62
    → IsInStep node cluster store p a es → ∥ MayFollow store.synced (frames_of g) ∥₁
stand_follows node cluster store p a g es e n i = ∥∥₁_map i.holds (λ h. record {
  node = node;
  cluster = cluster;
  held = plain p a es;
  holds = h;
  spelled = frames_are_spelled g n;
  may = subst (λ (k : ℕ). AllMay (plain p a es) (frames_of k)) (sym e) (stand_may p a es (held_rises node cluster store.synced p a es h));
})

stand_held : (node cluster : ℕ) (bytes : List ℕ) (p a : ℕ) (es : List Entry) → p + 1 < 2 ^ 62
    → Holds node cluster bytes (plain p a es) → Holds node cluster (bytes ++ bytes_of (p + 1)) (plain (p + 1) (p + 1) es)
stand_held node cluster bytes p a es n h =
    subst (λ (code : List ℕ). Holds node cluster (bytes ++ code) (plain (p + 1) (p + 1) es)) (bytes_are (p + 1))
    (kept_hold node cluster bytes (plain p a es) (frames_of (p + 1)) h (frames_are_spelled (p + 1) n)
    (stand_may p a es (held_rises node cluster bytes p a es h)))

pub stand_in_step : (node cluster : ℕ) (old new : Stored) (p a g : ℕ) (es : List Entry) → g ≡ p + 1 → g < 2 ^ 62
    → AreKept old new (bytes_of g) → IsInStep node cluster old p a es → IsInStep node cluster new g g es
stand_in_step node cluster old new p a g es e n k i =
    let below : p + 1 < 2 ^ 62 = omega arith in
    let synced : new.synced ≡ old.synced ++ bytes_of (p + 1) = subst (λ (m : ℕ). new.synced ≡ old.synced ++ bytes_of m) e k.synced in
    subst (λ (m : ℕ). IsInStep node cluster new m m es) (sym e) record {
      holds = ∥∥₁_map i.holds (λ h.
          subst (λ (bytes : List ℕ). Holds node cluster bytes (plain (p + 1) (p + 1) es)) (sym synced)
          (stand_held node cluster old.synced p a es below h));
      settled = k.settled;
    }

-- none of the frames, or the promise, or both
cut_stand : (l : Logged) (g : ℕ) (stopped : List ℕ) (some others : List Frame) → some ++ others ≡ frames_of g
    → IsLogOf l.node l.cluster stopped (after_all (plain l.promised l.accepted l.entries) some).promised
    (after_all (plain l.promised l.accepted l.entries) some).accepted (after_all (plain l.promised l.accepted l.entries) some).entries
    → StandForOne stopped (l ∷ with_promise l g ∷ with_stand l g ∷ [])
cut_stand l g stopped [] others split i = inl (inr i)
cut_stand l g stopped (x ∷ []) others split i =
    let is : x ≡ frame.Promise g = cc in
    inr (inl (inr (subst (λ (f : Frame). IsLogOf l.node l.cluster stopped (after_all (plain l.promised l.accepted l.entries) (f ∷ [])).promised
    (after_all (plain l.promised l.accepted l.entries) (f ∷ [])).accepted (after_all (plain l.promised l.accepted l.entries) (f ∷ [])).entries) is i)))
cut_stand l g stopped (x ∷ y ∷ []) others split i =
    let is : x ≡ frame.Promise g = cc in
    let also : y ≡ frame.Accept g = cc in
    let both : x ∷ y ∷ [] ≡ frames_of g = cc in
    inr (inr (inl (inr (subst (λ (fs : List Frame). IsLogOf l.node l.cluster stopped (after_all (plain l.promised l.accepted l.entries) fs).promised
    (after_all (plain l.promised l.accepted l.entries) fs).accepted (after_all (plain l.promised l.accepted l.entries) fs).entries) both i))))
cut_stand l g stopped (x ∷ y ∷ z ∷ some) others split i = cc

pub stand_left : (l : Logged) (new : Stored) (g : ℕ) → g ≡ l.promised + 1 → g < 2 ^ 62 → AreLeft l.store new (bytes_of g)
    → IsInStep l.node l.cluster l.store l.promised l.accepted l.entries
    → Leaves new (l ∷ with_promise l (l.promised + 1) ∷ with_stand l (l.promised + 1) ∷ [])
stand_left l new g e n k i stopped j =
    let below : l.promised + 1 < 2 ^ 62 = omega arith in
    let same : bytes_of g ≡ flat_map frame_code (frames_of (l.promised + 1)) = ap bytes_of e ∙ sym (bytes_are (l.promised + 1)) in
    let left : AreLeft l.store new (flat_map frame_code (frames_of (l.promised + 1))) = subst (λ (code : List ℕ). AreLeft l.store new code) same k in
    ∥∥₁_map i.holds (λ h.
    let x : StandsAfter l.node l.cluster stopped (plain l.promised l.accepted l.entries) (frames_of (l.promised + 1)) =
    left_stand l.node l.cluster (plain l.promised l.accepted l.entries) l.store new stopped (frames_of (l.promised + 1)) h
    (frames_are_spelled (l.promised + 1) below)
    (stand_may l.promised l.accepted l.entries (held_rises l.node l.cluster l.store.synced l.promised l.accepted l.entries h)) left j in
    cut_stand l (l.promised + 1) stopped x.some x.others x.split x.stands)
