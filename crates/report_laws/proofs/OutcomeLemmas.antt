-- What is right stays right when the history grows by an entry.
use Rattle.std.proofs.Common.{◌≡◌, ℕ, ◌+◌, ◌-◌, ◌<◌, ◌≤◌, List, [], ◌∷◌, ◌++◌, length, sym, subst, ap, arith, Some, ◌∙◌}
use Rattle.std.proofs.lemmas.Option.{slice_get_within}
use Rattle.std.specs.List.{AllByRecursion}
use Rattle.cdb_values.specs.Good.{IsGood, first_broken}
use Rattle.cdb_values.specs.Rows.{Rows, apply_all}
use Rattle.cdb_values.specs.declared.rows.RowOp.{RowOp}
use Rattle.report_laws.specs.History.{Origin, Basis, entry_at, last_position, view_of}
use Rattle.session_language.specs.Touched.{Used, first_used}
use Rattle.cdb_values.specs.declared.rows.Change.{Change}
use Rattle.report_laws.specs.Outcome.{IsRight, IsCommitted, IsConflict, IsDuplicate, IsEntered}
use Rattle.report_laws.specs.Work.{Transaction}
use Rattle.report_text.specs.declared.reports.EntryLine.{EntryLine}
use Rattle.cdb_values.specs.declared.replies.Reply.{Reply}
use Rattle.cdb_values.specs.declared.replies.Reply.TheVariants as reply
use Rattle.report_laws.proofs.HistoryLaws.{last_more, rows_stay, entry_stays, changes_stay, untouched_stays}

-- a position behind the origin at which an entry stands is in the history
pub entry_within : (origin : Origin) (es : List EntryLine) (d : EntryLine) (k : ℕ) → entry_at origin es k ≡ Some d → k ≤ last_position origin es
entry_within origin es d k is = let inside : k - (origin.position + 1) < length es = slice_get_within es _ d is in omega (arith, inside)

module _ (basis : Basis) (es : List EntryLine) (e : EntryLine) (name : List ℕ) (t : Transaction) (begin : ℕ) (used : List Used) (base : basis.origin.position ≤ begin) where
  abbrev more : List EntryLine
  more = es ++ e ∷ []

  entered_stays : (position : ℕ) → IsEntered basis (view_of basis es) name t begin position used → IsEntered basis (view_of basis more) name t begin position used
  entered_stays position was =
      let later : begin < position = was.later in
      let within : position ≤ last_position basis.origin es = entry_within basis.origin es _ position was.stands in
      record {
        later = was.later;
        stands = entry_stays basis es e position (omega (arith, base, later)) within ∙ was.stands;
        untouched = untouched_stays basis es e begin position used base (omega (arith, within)) was.untouched;
        is_good = subst (λ (rows : Rows). IsGood basis.origin.tables rows.tables) (sym (rows_stay basis es e position within)) was.is_good;
      }

  committed_stays : (position : ℕ) (ops : List RowOp) → IsCommitted basis (view_of basis es) name t begin position used ops → IsCommitted basis (view_of basis more) name t begin position used ops
  committed_stays position [] was = was
  committed_stays position (op ∷ ops) was = entered_stays position was

  conflict_stays : (position : ℕ) (ops : List RowOp) (told : Reply) → IsConflict basis (view_of basis es) begin position used ops told → IsConflict basis (view_of basis more) begin position used ops told
  conflict_stays position ops told was =
      let later : begin < position = was.later in
      let within : position ≤ last_position basis.origin es = was.within in
      record {
        has_ops = was.has_ops;
        later = was.later;
        within = omega (arith, within, last_more basis.origin es e);
        item = was.item;
        touched = ap (λ (changes : List Change). first_used basis.origin.tables changes used) (changes_stay basis es e position (omega (arith, base, later)) within) ∙ was.touched;
        untouched = untouched_stays basis es e begin position used base (omega (arith, within)) was.untouched;
        is_told = was.is_told;
      }

  duplicate_stays : (position : ℕ) (ops : List RowOp) (table key : List ℕ) → IsDuplicate basis (view_of basis es) begin position used ops table key → IsDuplicate basis (view_of basis more) begin position used ops table key
  duplicate_stays position ops table key was =
      let within : position ≤ last_position basis.origin es = was.within in
      record {
        has_ops = was.has_ops;
        begun = was.begun;
        within = omega (arith, within, last_more basis.origin es e);
        untouched = untouched_stays basis es e begin (position + 1) used base (omega (arith, within)) was.untouched;
        breaks = ap (λ (rows : Rows). first_broken basis.origin.tables (apply_all rows ops).tables) (rows_stay basis es e position within) ∙ was.breaks;
      }

  -- an outcome that is right stays right
  pub right_stays : (ops : List RowOp) (outcome : Reply) → IsRight basis (view_of basis es) name t begin used ops outcome → IsRight basis (view_of basis more) name t begin used ops outcome
  right_stays ops (reply.Begin position) was = tt
  right_stays ops (reply.Row row) was = tt
  right_stays ops (reply.Done rows) was = tt
  right_stays ops (reply.Changed rows) was = tt
  right_stays ops (reply.Error cause) was = tt
  right_stays ops (reply.Level level) was = tt
  right_stays ops reply.RolledBack was = was
  right_stays ops (reply.Committed position) was = committed_stays position ops was
  right_stays ops (reply.ConflictGenid position table genid) was = conflict_stays position ops (reply.ConflictGenid position table genid) was
  right_stays ops (reply.ConflictRange position table key) was = conflict_stays position ops (reply.ConflictRange position table key) was
  right_stays ops (reply.Duplicate position table key) was = duplicate_stays position ops table key was
  right_stays ops (reply.Lost node down) was = was
  right_stays ops (reply.NoMajority up nodes) was = was
  right_stays ops reply.NoMemory was = was

  pub all_right_stay : (ops : List RowOp) (outcomes : List Reply) → AllByRecursion (IsRight basis (view_of basis es) name t begin used ops) outcomes → AllByRecursion (IsRight basis (view_of basis more) name t begin used ops) outcomes
  all_right_stay ops [] was = tt
  all_right_stay ops (o ∷ os) was = (right_stays ops o was.0, all_right_stay ops os was.1)
