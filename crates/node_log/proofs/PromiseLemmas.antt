-- One promise or one acceptance more.
use Rattle.std.proofs.Common.{◌≡◌, inl, inr, ℕ, ◌<◌, ◌^◌, List, [], ◌∷◌, ◌++◌, sym, subst, refl, arith}
use Rattle.frame_code.specs.Codes.{frame_code}
use Rattle.frame_code.specs.Spelled.{IsSpelled}
use Rattle.frame_code.specs.declared.frames.Frame.{Frame}
use Rattle.frame_code.specs.declared.frames.Frame.TheVariants as frame
use Rattle.phys_log.specs.declared.entries.Entry.{Entry}
use Rattle.store_log.specs.Held.{after, after_all, IsLogOf}
use Rattle.store_log.specs.Holds.{plain}
use Rattle.store_log.specs.Keeps.{Stored, AreKept, AreLeft}
use Rattle.store_log.specs.Follows.{MayFollow}
use Rattle.store_log.proofs.StepLemmas.{one_code}
use Rattle.node_log.specs.Logged.{Logged, IsInStep, Leaves, Stand, StandForOne, with_acceptance, with_promise}
use Rattle.node_log.proofs.FrameLemmas.{MayStand, frames_follow, frames_in_step, frames_left}

-- what is held after some of one frame: what was before, or what is after it
cut_one : (l : Logged) (f : Frame) (k : Logged) (stopped : List ℕ) (some others : List Frame) → some ++ others ≡ f ∷ []
    → (IsLogOf l.node l.cluster stopped (after (plain l.promised l.accepted l.entries) f).promised (after (plain l.promised l.accepted l.entries) f).accepted
    (after (plain l.promised l.accepted l.entries) f).entries → Stand stopped k)
    → IsLogOf l.node l.cluster stopped (after_all (plain l.promised l.accepted l.entries) some).promised
    (after_all (plain l.promised l.accepted l.entries) some).accepted (after_all (plain l.promised l.accepted l.entries) some).entries
    → StandForOne stopped (l ∷ k ∷ [])
cut_one l f k stopped [] others split on i = inl (inr i)
cut_one l f k stopped (x ∷ []) others split on i =
    let is : x ≡ f = cc in
    inr (inl (on (subst (λ (g : Frame). IsLogOf l.node l.cluster stopped (after_all (plain l.promised l.accepted l.entries) (g ∷ [])).promised
    (after_all (plain l.promised l.accepted l.entries) (g ∷ [])).accepted (after_all (plain l.promised l.accepted l.entries) (g ∷ [])).entries) is i)))
cut_one l f k stopped (x ∷ y ∷ some) others split on i = cc

pub promise_stands : (p a g : ℕ) (es : List Entry) → p < g → g < 2 ^ 62 → MayStand p a es (frame.Promise g ∷ [])
promise_stands p a g es above n = record { spelled = (record { parts = n; size = omega arith }, tt); may = (above, tt) }

pub promise_spelled : (g : ℕ) → g < 2 ^ 62 → IsSpelled (frame.Promise g)
promise_spelled g n = record { parts = n; size = omega arith }

pub accept_spelled : (g : ℕ) → g < 2 ^ 62 → IsSpelled (frame.Accept g)
accept_spelled g n = record { parts = n; size = omega arith }

pub accept_stands : (p a : ℕ) (es : List Entry) → a < p → p < 2 ^ 62 → MayStand p a es (frame.Accept p ∷ [])
accept_stands p a es above n = record { spelled = (accept_spelled p n, tt); may = ((refl, above), tt) }

pub promise_follows : (node cluster : ℕ) (store : Stored) (p a g : ℕ) (es : List Entry) → p < g → g < 2 ^ 62
    → IsInStep node cluster store p a es → ∥ MayFollow store.synced (frame.Promise g ∷ []) ∥₁
promise_follows node cluster store p a g es above n i = frames_follow node cluster store p a es (frame.Promise g ∷ []) (promise_stands p a g es above n) i

pub promise_in_step : (node cluster : ℕ) (old new : Stored) (p a g : ℕ) (es : List Entry) → p < g → g < 2 ^ 62
    → AreKept old new (frame_code (frame.Promise g)) → IsInStep node cluster old p a es → IsInStep node cluster new g a es
promise_in_step node cluster old new p a g es above n k i =
    frames_in_step node cluster old new p a g a es es (frame.Promise g ∷ []) (frame_code (frame.Promise g)) (promise_stands p a g es above n)
    (sym (one_code (frame.Promise g))) refl k i

pub promise_left : (l : Logged) (new : Stored) (g : ℕ) → l.promised < g → g < 2 ^ 62 → AreLeft l.store new (frame_code (frame.Promise g))
    → IsInStep l.node l.cluster l.store l.promised l.accepted l.entries → Leaves new (l ∷ with_promise l g ∷ [])
promise_left l new g above n k i =
    frames_left l new (frame.Promise g ∷ []) (frame_code (frame.Promise g)) (l ∷ with_promise l g ∷ []) (promise_stands l.promised l.accepted g l.entries above n)
    (sym (one_code (frame.Promise g))) (λ stopped some others split s. cut_one l (frame.Promise g) (with_promise l g) stopped some others split (λ t. inr t) s) k i

pub accept_follows : (node cluster : ℕ) (store : Stored) (p a : ℕ) (es : List Entry) → a < p → p < 2 ^ 62
    → IsInStep node cluster store p a es → ∥ MayFollow store.synced (frame.Accept p ∷ []) ∥₁
accept_follows node cluster store p a es above n i = frames_follow node cluster store p a es (frame.Accept p ∷ []) (accept_stands p a es above n) i

pub accept_in_step : (node cluster : ℕ) (old new : Stored) (p a : ℕ) (es : List Entry) → a < p → p < 2 ^ 62
    → AreKept old new (frame_code (frame.Accept p)) → IsInStep node cluster old p a es → IsInStep node cluster new p p es
accept_in_step node cluster old new p a es above n k i =
    frames_in_step node cluster old new p a p p es es (frame.Accept p ∷ []) (frame_code (frame.Accept p)) (accept_stands p a es above n)
    (sym (one_code (frame.Accept p))) refl k i

pub accept_left : (l : Logged) (new : Stored) → l.accepted < l.promised → l.promised < 2 ^ 62 → AreLeft l.store new (frame_code (frame.Accept l.promised))
    → IsInStep l.node l.cluster l.store l.promised l.accepted l.entries → Leaves new (l ∷ with_acceptance l ∷ [])
accept_left l new above n k i =
    frames_left l new (frame.Accept l.promised ∷ []) (frame_code (frame.Accept l.promised)) (l ∷ with_acceptance l ∷ []) (accept_stands l.promised l.accepted l.entries above n)
    (sym (one_code (frame.Accept l.promised))) (λ stopped some others split s. cut_one l (frame.Accept l.promised) (with_acceptance l) stopped some others split (λ t. inr t) s) k i
