-- The frames of a store keep the accepted generation at the promised one or below it, and the entries fit each other.
use Rattle.std.proofs.Common.{◌≡◌, inl, inr, ℕ, ◌≤◌, ◌<◌, List, [], ◌∷◌, take, drop, Option, Some, None, sym, subst, arith}
use Rattle.std.proofs.lemmas.List.{take-append-drop}
use Rattle.frame_code.specs.declared.frames.Frame.{Frame}
use Rattle.frame_code.specs.declared.frames.Frame.TheVariants as frame
use Rattle.phys_log.specs.Logs.{IsLog}
use Rattle.phys_log.specs.declared.entries.Entry.{Entry}
use Rattle.phys_log.proofs.LogLaws.{log_front, log_more}
use Rattle.store_log.specs.declared.standings.Standing.TheVariants.{Log}
use Rattle.store_log.specs.Held.{AllMay, Held, May, MayAdd, StandsFor, adopted_or, after, after_all, at_first, held_with_entry}

record IsRight (h : Held) : Type 0 where
  below : h.accepted ≤ h.promised
  logged : IsLog h.entries
  adopted : IsLog (adopted_or h.entries h.adopting)

right_first : IsRight at_first
right_first = record { below = omega arith; logged = tt; adopted = tt }

right_entry : (p a : ℕ) (es : List Entry) (e : Entry) (ad : Option (List Entry)) → MayAdd a es e ad → a ≤ p → IsLog es → IsLog (adopted_or es ad) → IsRight (held_with_entry p a es e ad)
right_entry p a es e (Some adopted) may below logged is = record { below = below; logged = logged; adopted = log_more adopted e is may }
right_entry p a es e None may below logged is = record { below = below; logged = log_more es e logged may.1; adopted = log_more es e logged may.1 }

right_after : (h : Held) (f : Frame) → May h f → IsRight h → IsRight (after h f)
right_after h (frame.Header version node cluster) may r = absurd may
right_after h (frame.Promise generation) may r =
    let old : h.accepted ≤ h.promised = r.below in
    let above : h.promised < generation = may in
    record { below = omega arith; logged = r.logged; adopted = r.logged }
right_after h (frame.Accept generation) may r =
    let same : generation ≡ h.promised = may.0 in
    record { below = omega arith; logged = r.adopted; adopted = r.adopted }
right_after h (frame.Entry e) may r = right_entry h.promised h.accepted h.entries e h.adopting may r.below r.logged r.adopted
right_after h (frame.Cut n) may r = record {
  below = r.below;
  logged = r.logged;
  adopted = log_front (take n h.entries) (drop n h.entries) (subst IsLog (sym (take-append-drop n h.entries)) r.logged);
}

right_all : (h : Held) (fs : List Frame) → AllMay h fs → IsRight h → IsRight (after_all h fs)
right_all h [] all r = r
right_all h (f ∷ fs) all r = right_all (after h f) fs all.1 (right_after h f all.0 r)

-- a log for which a store stands
pub stands_right : (node cluster : ℕ) (bytes : List ℕ) (p a : ℕ) (es : List Entry) → StandsFor node cluster bytes (Log p a es) → (a ≤ p) × IsLog es
stands_right node cluster bytes p a es (inl none) =
    let zero : a ≡ 0 = none.2 in
    (omega arith, subst IsLog (sym none.3) tt)
stands_right node cluster bytes p a es (inr is) =
    let r = right_all at_first is.frames is.held.rules right_first in
    let was : (after_all at_first is.frames).accepted ≤ (after_all at_first is.frames).promised = r.below in
    (subst (λ k. k ≤ p) is.accepted (subst (λ k. (after_all at_first is.frames).accepted ≤ k) is.promised was), subst IsLog is.entries r.logged)
