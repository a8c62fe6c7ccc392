-- A log that is taken over in a generation: entries of the log that was had, and others behind them.
--
-- A node that promised generation 2, accepted generation 1 and has a log of three entries takes over a log in generation 3, of
-- which it has the first two entries already: promise 3, cut 2, the others as entries, accept 3.
use Rattle.std.specs.Prelude.{ℕ, ◌==◌, if◌then◌else◌, List, [], ◌∷◌, ◌++◌, map, take}
use Rattle.frame_code.specs.declared.frames.Frame.{Frame}
use Rattle.frame_code.specs.declared.frames.Frame.TheVariants as frame
use Rattle.phys_log.specs.declared.entries.Entry.{Entry}
use Rattle.node_log.specs.Logged.{Logged}

-- with the first entries, so many, and others behind them, promised and accepted in a generation
abbrev pub with_taken : Logged → ℕ → ℕ → List Entry → Logged
with_taken l generation kept more = record l { promised = generation; accepted = generation; entries = take kept l.entries ++ more }

-- the promise of a generation, where it is not the promised one
abbrev pub promise_frames : ℕ → ℕ → List Frame
promise_frames promised generation = if promised == generation then [] else frame.Promise generation ∷ []

-- an adoption: the cut, the entries behind it, and the acceptance
abbrev pub adoption_frames : ℕ → ℕ → List Entry → List Frame
adoption_frames generation kept more = frame.Cut kept ∷ (map frame.Entry more ++ frame.Accept generation ∷ [])

abbrev pub take_frames : ℕ → ℕ → ℕ → List Entry → List Frame
take_frames promised generation kept more = promise_frames promised generation ++ adoption_frames generation kept more
