-- Reports of two updates of one row that are wrong in one place, refuted.
use Rattle.std.proofs.Common.{◌≡◌, ℕ, List, [], ◌∷◌, refl, sym, subst, ap, arith, ◌∙◌, codes, Some, None}
use Rattle.cdb_values.specs.declared.rows.Level.TheVariants.{Snapshot}
use Rattle.cdb_values.specs.Changes.{genid_item}
use Rattle.report_laws.specs.History.{rows_at, changes_at, IsCommitAfter, alone_on, view_of}
use Rattle.session_language.specs.Touched.{Used, TheVersion, first_used, used_at}
use Rattle.report_laws.specs.Outcome.{IsConflict, IsRight, conflict_line}
use Rattle.report_laws.specs.Told.{told, Along, IsTold, alone_at}
use Rattle.report_laws.specs.Work.{Transaction, WorkItem, Does}
use Rattle.script_form.specs.CanRun.{script_tables}
use Rattle.report_worked.specs.Worked.{two_updates, two_updates_entries}
use Rattle.report_worked.specs.WorkedWrong.{IsRefusedBy, RepliesAreRight, HistoryIsRight, untouched_row, refused_entry}
use Rattle.cdb_values.specs.declared.replies.Reply.TheVariants as reply
use Rattle.report_worked.proofs.TwoUpdatesLemmas.{second_update, work_of_b}
use Rattle.report_worked.proofs.WorkedLemmas.{ToldAt, told_at}
use Rattle.report_worked.specs.Small.{from_nothing}
use Rattle.std.specs.List.{AllByRecursion}
use Rattle.session_language.specs.Language.{Answered}
use Rattle.cdb_values.specs.declared.replies.Reply.{Reply}
use Rattle.report_laws.proofs.AlongLaws.{along_its}

same_item : (a b : Used) → Some a ≡ Some b → a ≡ b
same_item a b is = cc

-- a conflict that names a version which the entry did not touch
same_genid : (genid : ℕ) → Some (reply.ConflictGenid 3 (codes "t") genid) ≡ Some (reply.ConflictGenid 3 (codes "t") 2) → genid ≡ 2
same_genid genid is = cc

touches_another : RepliesAreRight two_updates untouched_row → ⊥
touches_another law =
    let at : ToldAt (from_nothing two_updates) two_updates_entries (codes "b") second_update 2 (reply.Changed 1 ∷ reply.ConflictGenid 3 (codes "t") 2 ∷ []) =
    told_at (from_nothing two_updates) two_updates_entries (codes "b") second_update 2 (reply.Changed 1 ∷ reply.ConflictGenid 3 (codes "t") 2 ∷ []) (reply.Begin 2 ∷ reply.Changed 1 ∷ []) (reply.ConflictGenid 3 (codes "t") 2) refl refl
    (along_its (IsTold (from_nothing two_updates) (view_of (from_nothing two_updates) two_updates_entries) (codes "b")) [] [] (Does second_update) (told (codes "b") untouched_row.lines) tt tt
    (subst (λ (items : List WorkItem). Along (IsTold (from_nothing two_updates) (view_of (from_nothing two_updates) two_updates_entries) (codes "b")) items (told (codes "b") untouched_row.lines)) work_of_b (law (codes "b")))) in
    let said : reply.Changed 1 ∷ reply.ConflictGenid 3 (codes "t") 2 ∷ [] ≡ reply.Changed 1 ∷ at.last = at.says in
    let last : reply.ConflictGenid 3 (codes "t") 2 ∷ [] ≡ at.last = cc in
    let right : IsConflict (from_nothing two_updates) (view_of (from_nothing two_updates) two_updates_entries) 2 3 (used_at Snapshot (alone_at (from_nothing two_updates) (view_of (from_nothing two_updates) two_updates_entries) second_update 2)) (alone_at (from_nothing two_updates) (view_of (from_nothing two_updates) two_updates_entries) second_update 2).ops (reply.ConflictGenid 3 (codes "t") 2) =
    (subst (λ (os : List Reply). AllByRecursion (IsRight (from_nothing two_updates) (view_of (from_nothing two_updates) two_updates_entries) (codes "b") second_update 2 (used_at Snapshot (alone_at (from_nothing two_updates) (view_of (from_nothing two_updates) two_updates_entries) second_update 2)) (alone_at (from_nothing two_updates) (view_of (from_nothing two_updates) two_updates_entries) second_update 2).ops) os) (sym last) at.right).0 in
    let item : TheVersion (genid_item 0 1) ≡ right.item = same_item (TheVersion (genid_item 0 1)) right.item right.touched in
    let genid : 1 ≡ 2 = same_genid 1 (ap (λ (i : Used). conflict_line (script_tables two_updates) 3 i) item ∙ right.is_told) in
    omega (arith, genid)

pub untouched_row_is_refused : IsRefusedBy (RepliesAreRight two_updates untouched_row) two_updates untouched_row
untouched_row_is_refused = (touches_another, λ is. touches_another is.replies)

-- an entry of a transaction whose version an entry since its begin took away
pub same_transaction : (t s : Transaction) → Some t ≡ Some s → t ≡ s
same_transaction t s is = cc

some_or_none : (item : Used) → Some item ≡ None → ⊥
some_or_none item is = cc

entered_after : (before : IsCommitAfter (from_nothing two_updates) (view_of (from_nothing two_updates) two_updates_entries) 4 (codes "b") 1 2 Snapshot) → ⊥
entered_after is =
    let its : Some second_update ≡ Some is.transaction = is.is_its in
    some_or_none (TheVersion (genid_item 0 1))
    (subst (λ (t : Transaction). first_used (script_tables two_updates) (changes_at (from_nothing two_updates) two_updates_entries 3) (used_at Snapshot (alone_on (from_nothing two_updates) (rows_at (from_nothing two_updates) two_updates_entries 2) t.texts)) ≡ None)
    (sym (same_transaction second_update is.transaction its))
    (subst (λ (a : Answered). first_used (script_tables two_updates) (changes_at (from_nothing two_updates) two_updates_entries 3) (used_at Snapshot a) ≡ None) is.is_ran (is.untouched 3 (omega arith) (omega arith))))

pub refused_entry_is_refused : IsRefusedBy (HistoryIsRight two_updates refused_entry) two_updates refused_entry
refused_entry_is_refused = (λ law. entered_after law.1.1.1.0, λ is. entered_after is.history.1.1.1.0)
