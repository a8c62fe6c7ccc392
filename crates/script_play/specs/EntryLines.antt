-- The lines of a history, by the entries of a log.
use Rattle.std.specs.Prelude.{◌≡◌, ℕ, ◌+◌, ◌++◌, ◌∷◌, [], List, length}
use Rattle.std.specs.List.{AllByRecursion}
use Rattle.phys_log.specs.declared.entries.Entry.{Entry}
use Rattle.phys_log.specs.declared.entries.Entry.TheVariants as entry
use Rattle.report_text.specs.declared.reports.EntryLine.{EntryLine}
use Rattle.report_text.specs.declared.reports.EntryLine.TheVariants.{Setup, Commit}

-- the line of the history of an entry at a position
abbrev pub line_of : ℕ → Entry → EntryLine
line_of position (entry.Setup generation schema records) = Setup position
line_of position (entry.Commit generation id begin level changes records) = Commit position id.session id.txn begin level

-- the lines of entries, from a position on
abbrev pub lines_from : ℕ → List Entry → List EntryLine
lines_from position [] = []
lines_from position (e ∷ es) = line_of position e ∷ lines_from (position + 1) es

-- an entry is of a generation, and its transaction began in it
abbrev pub IsMadeIn : ℕ → Entry → Type 0
IsMadeIn made (entry.Setup generation schema records) = generation ≡ made
IsMadeIn made (entry.Commit generation id begin level changes records) = (generation ≡ made) × (id.began ≡ made)

-- a log is the one before the run with further entries, and a history has the lines of these: their positions, and the session,
-- number, begin and level of each commit; each of them was made in a generation
pub record AreTold (before : List Entry) (generation : ℕ) (entries : List EntryLine) (log : List Entry) : Type 0 where
  pub made : List Entry
  pub behind : log ≡ before ++ made
  pub told : entries ≡ lines_from (length before + 1) made
  pub in_it : AllByRecursion (IsMadeIn generation) made
