-- What is known of the lines and entries so far, where no arm waits and nothing fails: begins are at most the last position, and
-- each entry's transaction was told that it is committed there.
use Rattle.std.proofs.Common.{◌≡◌, ℕ, ◌+◌, ◌-◌, ◌≤◌, ◌==◌, List, [], ◌∷◌, ◌++◌, arith, Some, Bool, true, false, if◌then◌else◌}
use Rattle.std.proofs.lemmas.List.{length-append}
use Rattle.std.specs.List.{AllByRecursion}
use Rattle.std.specs.Str.{bytes_eq}
use Rattle.cdb_values.specs.declared.replies.Reply.{Reply}
use Rattle.cdb_values.specs.declared.replies.Reply.TheVariants as reply
use Rattle.cdb_values.specs.declared.rows.Level.{Level}
use Rattle.report_laws.specs.History.{Origin, entry_at, last_position}
use Rattle.report_laws.specs.Told.{told}
use Rattle.report_laws.proofs.AlongLaws.{of_number}
use Rattle.report_laws.proofs.PieceLaws.{under}
use Rattle.report_text.specs.declared.reports.EntryLine.{EntryLine}
use Rattle.report_text.specs.declared.reports.EntryLine.TheVariants.{Setup, Commit}
use Rattle.report_text.specs.declared.reports.Line.{Line}
use Rattle.report_text.specs.declared.reports.Line.TheVariants as line
use Rattle.session_language.proofs.EachLaws.{all_append, all_found, all_map, stands_more}
use Rattle.session_language.specs.Each.{StandsIn}

-- where a reply tells that its transaction begins, and 0 where it does not
abbrev pub begin_of : Reply → ℕ
begin_of (reply.Begin position) = position
begin_of _ = 0

abbrev pub begin_told : Line → ℕ
begin_told (line.Session name txn answer) = begin_of answer
begin_told (line.Down count node fault) = 0
begin_told (line.Up node) = 0
begin_told line.Barrier = 0
begin_told (line.Fed position) = 0

abbrev pub BeginUpTo : ℕ → List Line → Type 0
BeginUpTo now lines = AllByRecursion (λ (l : Line). begin_told l ≤ now) lines

-- an entry's transaction was told that it is committed there
abbrev pub IsAcknowledged : List Line → EntryLine → Type 0
IsAcknowledged before (Setup position) = Unit {0}
IsAcknowledged before (Commit position session txn begin level) = StandsIn before (line.Session session txn (reply.Committed position))

pub record Known (origin : Origin) (before : List Line) (history : List EntryLine) : Type 0 where
  pub begins : BeginUpTo (last_position origin history) before
  pub told : AllByRecursion (IsAcknowledged before) history

-- begins under a number are so too
pub begins_under : (now : ℕ) (name : List ℕ) (n : ℕ) (lines : List Line) → BeginUpTo now lines → AllByRecursion (λ (r : Reply). begin_of r ≤ now) (under name n lines)
begins_under now name n [] all = tt
begins_under now name n (line.Session session txn answer ∷ ls) all = go (bytes_eq session name) (begins_under now name n ls all.1)
  where
    pick : (b : Bool) → AllByRecursion (λ (r : Reply). begin_of r ≤ now) (under name n ls) → AllByRecursion (λ (r : Reply). begin_of r ≤ now) (if b then answer ∷ under name n ls else under name n ls)
    pick true later = (all.0, later)
    pick false later = later

    go : (b : Bool) → AllByRecursion (λ (r : Reply). begin_of r ≤ now) (under name n ls) → AllByRecursion (λ (r : Reply). begin_of r ≤ now) (of_number n ((if b then (txn, answer) ∷ [] else []) ++ told name ls))
    go true later = pick (txn == n) later
    go false later = later
begins_under now name n (line.Down count node fault ∷ ls) all = begins_under now name n ls all.1
begins_under now name n (line.Up node ∷ ls) all = begins_under now name n ls all.1
begins_under now name n (line.Barrier ∷ ls) all = begins_under now name n ls all.1
begins_under now name n (line.Fed position ∷ ls) all = begins_under now name n ls all.1

pub acknowledged_more : (before more : List Line) (e : EntryLine) → IsAcknowledged before e → IsAcknowledged (before ++ more) e
acknowledged_more before more (Setup position) is = tt
acknowledged_more before more (Commit position session txn begin level) is = stands_more before more _ is

-- more lines and entries
pub known_more : (origin : Origin) (before mine : List Line) (history added : List EntryLine) → Known origin before history → BeginUpTo (last_position origin (history ++ added)) mine → AllByRecursion (IsAcknowledged (before ++ mine)) added → Known origin (before ++ mine) (history ++ added)
known_more origin before mine history added was begins told = record {
  begins = all_append (λ (l : Line). begin_told l ≤ last_position origin (history ++ added)) before mine (all_map (λ (l : Line). begin_told l ≤ last_position origin history) (λ (l : Line). begin_told l ≤ last_position origin (history ++ added)) grows before was.begins) begins;
  told = all_append (IsAcknowledged (before ++ mine)) history added (all_map (IsAcknowledged before) (IsAcknowledged (before ++ mine)) (acknowledged_more before mine) history was.told) told;
}
  where
    grows : (l : Line) → begin_told l ≤ last_position origin history → begin_told l ≤ last_position origin (history ++ added)
    grows l is = omega (arith, is, length-append history added)

-- the entry of a transaction that stands was acknowledged
pub acknowledged : (origin : Origin) (before : List Line) (history : List EntryLine) (k : ℕ) (session : List ℕ) (txn begin : ℕ) (level : Level) → Known origin before history → entry_at origin history k ≡ Some (Commit k session txn begin level) → StandsIn before (line.Session session txn (reply.Committed k))
acknowledged origin before history k session txn begin level is at = all_found (IsAcknowledged before) history (k - (origin.position + 1)) (Commit k session txn begin level) is.told at
