-- Each number that a store tells is below 2^62, and each entry of the log that it holds has a spelling.
use Rattle.std.proofs.Common.{ℕ, zero, suc, ◌<◌, ◌^◌, List, [], ◌∷◌, ◌++◌, Option, Some, None, take, subst, arith}
use Rattle.std.specs.List.{AllByRecursion}
use Rattle.frame_code.specs.Spelled.{IsSpelled}
use Rattle.frame_code.specs.declared.frames.Frame.{Frame}
use Rattle.frame_code.specs.declared.frames.Frame.TheVariants as frame
use Rattle.phys_log.specs.declared.entries.Entry.{Entry}
use Rattle.store_log.specs.Held.{Held, at_first, after, after_all, held_with_entry, adopted_or}
use Rattle.store_log.specs.Holds.{Holds, plain}
use Rattle.node_log.specs.Logged.{AreSpelled}

-- the entries of an adoption that is open
abbrev AdoptsSpelled : Option (List Entry) → Type 0
AdoptsSpelled None = Unit {0}
AdoptsSpelled (Some adopted) = AreSpelled adopted

record HoldsSpelled (h : Held) : Type 0 where
  pub promised : h.promised < 2 ^ 62
  pub accepted : h.accepted < 2 ^ 62
  pub entries : AreSpelled h.entries
  pub adopting : AdoptsSpelled h.adopting

spelled_more : (es : List Entry) (e : Entry) → AreSpelled es → IsSpelled (frame.Entry e) → AreSpelled (es ++ e ∷ [])
spelled_more [] e all s = (s, tt)
spelled_more (d ∷ es) e all s = (all.0, spelled_more es e all.1 s)

spelled_front : (n : ℕ) (es : List Entry) → AreSpelled es → AreSpelled (take n es)
spelled_front zero es all = tt
spelled_front (suc n) [] all = tt
spelled_front (suc n) (e ∷ es) all = (all.0, spelled_front n es all.1)

spelled_adopted : (es : List Entry) (adopting : Option (List Entry)) → AreSpelled es → AdoptsSpelled adopting → AreSpelled (adopted_or es adopting)
spelled_adopted es None all adopts = all
spelled_adopted es (Some adopted) all adopts = adopts

spelled_entry : (p a : ℕ) (es : List Entry) (e : Entry) (adopting : Option (List Entry)) → p < 2 ^ 62 → a < 2 ^ 62 → AreSpelled es
    → AdoptsSpelled adopting → IsSpelled (frame.Entry e) → HoldsSpelled (held_with_entry p a es e adopting)
spelled_entry p a es e None pn an all adopts s = record { promised = pn; accepted = an; entries = spelled_more es e all s; adopting = tt }
spelled_entry p a es e (Some adopted) pn an all adopts s =
    record { promised = pn; accepted = an; entries = all; adopting = spelled_more adopted e adopts s }

spelled_step : (h : Held) (f : Frame) → IsSpelled f → HoldsSpelled h → HoldsSpelled (after h f)
spelled_step h (frame.Header v n c) s x = x
spelled_step h (frame.Promise g) s x = record { promised = s.parts; accepted = x.accepted; entries = x.entries; adopting = tt }
spelled_step h (frame.Accept g) s x =
    record { promised = x.promised; accepted = s.parts; entries = spelled_adopted h.entries h.adopting x.entries x.adopting; adopting = tt }
spelled_step h (frame.Entry e) s x =
    spelled_entry h.promised h.accepted h.entries e h.adopting x.promised x.accepted x.entries x.adopting s
spelled_step h (frame.Cut n) s x =
    record { promised = x.promised; accepted = x.accepted; entries = x.entries; adopting = spelled_front n h.entries x.entries }

spelled_steps : (h : Held) (fs : List Frame) → AllByRecursion IsSpelled fs → HoldsSpelled h → HoldsSpelled (after_all h fs)
spelled_steps h [] all x = x
spelled_steps h (f ∷ fs) all x = spelled_steps (after h f) fs all.1 (spelled_step h f all.0 x)

held_spelled : (node cluster : ℕ) (bytes : List ℕ) (p a : ℕ) (es : List Entry) → Holds node cluster bytes (plain p a es)
    → HoldsSpelled (plain p a es)
held_spelled node cluster bytes p a es h =
    let first : HoldsSpelled at_first = record { promised = omega arith; accepted = omega arith; entries = tt; adopting = tt } in
    subst HoldsSpelled h.is (spelled_steps at_first h.frames h.has.spelled first)

pub promised_below : (node cluster : ℕ) (bytes : List ℕ) (p a : ℕ) (es : List Entry) → Holds node cluster bytes (plain p a es) → p < 2 ^ 62
promised_below node cluster bytes p a es h = (held_spelled node cluster bytes p a es h).promised

pub accepted_below : (node cluster : ℕ) (bytes : List ℕ) (p a : ℕ) (es : List Entry) → Holds node cluster bytes (plain p a es) → a < 2 ^ 62
accepted_below node cluster bytes p a es h = (held_spelled node cluster bytes p a es h).accepted

pub entries_spelled : (node cluster : ℕ) (bytes : List ℕ) (p a : ℕ) (es : List Entry) → Holds node cluster bytes (plain p a es) → AreSpelled es
entries_spelled node cluster bytes p a es h = (held_spelled node cluster bytes p a es h).entries
