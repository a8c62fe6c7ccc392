-- Reports whose outcomes or entries are wrong in one place, refuted: conflicts with the entry of the begin, a commit behind a
-- begin without changes, and entries that were told otherwise.
use Rattle.std.proofs.Common.{◌≡◌, ◌<◌, ℕ, List, [], ◌∷◌, ◌++◌, refl, sym, subst, ap, arith, codes, drop}
use Rattle.std.specs.List.{AllByRecursion}
use Rattle.cdb_values.specs.declared.rows.Level.TheVariants.{Snapshot}
use Rattle.session_language.specs.Touched.{used_at}
use Rattle.session_language.proofs.UpToLaws.{same_head, same_tail}
use Rattle.report_laws.specs.History.{view_of}
use Rattle.report_laws.specs.Outcome.{IsConflict, IsRight}
use Rattle.report_laws.specs.Told.{told, numbered, Along, IsTold, IsCommitTold, Numbered, alone_at}
use Rattle.report_laws.specs.Work.{WorkItem, Does}
use Rattle.report_laws.proofs.AlongLaws.{along_its}
use Rattle.report_laws.proofs.EntryToldLaws.{begin_stands, commit_stands}
use Rattle.report_laws.proofs.PieceLaws.{all_at}
use Rattle.report_text.specs.declared.reports.Line.{Line}
use Rattle.cdb_values.specs.declared.replies.Reply.{Reply}
use Rattle.cdb_values.specs.declared.replies.Reply.TheVariants as reply
use Rattle.report_worked.specs.Small.{from_nothing}
use Rattle.report_worked.specs.Worked.{insert_select, inserted_entries, rolled_insert, two_inserts, two_inserts_with, two_updates, two_updates_entries, to_a}
use Rattle.report_worked.specs.WorkedWrong.{IsRefusedBy, RepliesAreRight, EntriesAreTold, begun_elsewhere, conflict_at_begin, rolled_entry, select_behind, split_insert}
use Rattle.report_worked.proofs.InsertSelectLemmas.{selecting}
use Rattle.report_worked.proofs.InsertSelectWrongLemmas.{select_told}
use Rattle.report_worked.proofs.TwoUpdatesLemmas.{second_update, work_of_b}
use Rattle.report_worked.proofs.WorkedLemmas.{ToldAt, told_at}

-- a conflict with the entry at which the transaction began
touches_its_begin : RepliesAreRight two_updates conflict_at_begin → ⊥
touches_its_begin law =
    let at : ToldAt (from_nothing two_updates) two_updates_entries (codes "b") second_update 2 (reply.Changed 1 ∷ reply.ConflictGenid 2 (codes "t") 1 ∷ []) =
    told_at (from_nothing two_updates) two_updates_entries (codes "b") second_update 2 (reply.Changed 1 ∷ reply.ConflictGenid 2 (codes "t") 1 ∷ []) (reply.Begin 2 ∷ reply.Changed 1 ∷ []) (reply.ConflictGenid 2 (codes "t") 1) refl refl
    (along_its (IsTold (from_nothing two_updates) (view_of (from_nothing two_updates) two_updates_entries) (codes "b")) [] [] (Does second_update) (told (codes "b") conflict_at_begin.lines) tt tt
    (subst (λ (items : List WorkItem). Along (IsTold (from_nothing two_updates) (view_of (from_nothing two_updates) two_updates_entries) (codes "b")) items (told (codes "b") conflict_at_begin.lines)) work_of_b (law (codes "b")))) in
    let said : reply.Changed 1 ∷ reply.ConflictGenid 2 (codes "t") 1 ∷ [] ≡ reply.Changed 1 ∷ at.last = at.says in
    let last : reply.ConflictGenid 2 (codes "t") 1 ∷ [] ≡ at.last = cc in
    let right : IsConflict (from_nothing two_updates) (view_of (from_nothing two_updates) two_updates_entries) 2 2 (used_at Snapshot (alone_at (from_nothing two_updates) (view_of (from_nothing two_updates) two_updates_entries) second_update 2)) (alone_at (from_nothing two_updates) (view_of (from_nothing two_updates) two_updates_entries) second_update 2).ops (reply.ConflictGenid 2 (codes "t") 1) =
    (subst (λ (os : List Reply). AllByRecursion (IsRight (from_nothing two_updates) (view_of (from_nothing two_updates) two_updates_entries) (codes "b") second_update 2 (used_at Snapshot (alone_at (from_nothing two_updates) (view_of (from_nothing two_updates) two_updates_entries) second_update 2)) (alone_at (from_nothing two_updates) (view_of (from_nothing two_updates) two_updates_entries) second_update 2).ops) os) (sym last) at.right).0 in
    let later : 2 < 2 = right.later in
    omega (arith, later)

pub conflict_at_begin_is_refused : IsRefusedBy (RepliesAreRight two_updates conflict_at_begin) two_updates conflict_at_begin
conflict_at_begin_is_refused = (touches_its_begin, λ is. touches_its_begin is.replies)

-- a commit behind the begin of a transaction that changes nothing
committed_elsewhere : RepliesAreRight insert_select select_behind → ⊥
committed_elsewhere law =
    let at = select_told select_behind.lines 1 (reply.Done 0 ∷ reply.Committed 2 ∷ []) (reply.Begin 1 ∷ reply.Done 0 ∷ []) (reply.Committed 2) refl refl refl law in
    let said : reply.Done 0 ∷ reply.Committed 2 ∷ [] ≡ reply.Done 0 ∷ at.last = at.says in
    let last : reply.Committed 2 ∷ [] ≡ at.last = cc in
    let there : 2 ≡ 1 =
    (subst (λ (os : List Reply). AllByRecursion (IsRight (from_nothing insert_select) (view_of (from_nothing insert_select) inserted_entries) (codes "a") selecting 1 (used_at Snapshot (alone_at (from_nothing insert_select) (view_of (from_nothing insert_select) inserted_entries) selecting 1)) (alone_at (from_nothing insert_select) (view_of (from_nothing insert_select) inserted_entries) selecting 1).ops) os) (sym last) at.right).0 in
    omega (arith, there)

pub select_behind_is_refused : IsRefusedBy (RepliesAreRight insert_select select_behind) insert_select select_behind
select_behind_is_refused = (committed_elsewhere, λ is. committed_elsewhere is.replies)

-- an entry with a begin that nobody was told
abbrev IsNoneOf : Line → Line → Type 0
IsNoneOf that l = l ≡ that → ⊥

begun_untold : EntriesAreTold two_inserts begun_elsewhere → ⊥
begun_untold law =
    all_at (IsNoneOf (to_a 2 (reply.Begin 1))) begun_elsewhere.lines (to_a 2 (reply.Begin 1)) ((λ is. cc), ((λ is. cc), ((λ is. cc), ((λ is. cc), ((λ is. cc), ((λ is. cc), tt))))))
    (begin_stands (from_nothing two_inserts) (view_of (from_nothing two_inserts) (two_inserts_with 1)) begun_elsewhere.lines 3 (codes "a") 2 1 law.1.1.0) refl

pub begun_elsewhere_is_refused : IsRefusedBy (EntriesAreTold two_inserts begun_elsewhere) two_inserts begun_elsewhere
begun_elsewhere_is_refused = (begun_untold, λ is. begun_untold is.answered)

-- an entry whose transaction was rolled back
rolled_and_entered : EntriesAreTold rolled_insert rolled_entry → ⊥
rolled_and_entered law =
    all_at (IsNoneOf (to_a 1 (reply.Committed 2))) rolled_entry.lines (to_a 1 (reply.Committed 2)) ((λ is. cc), ((λ is. cc), ((λ is. cc), tt)))
    (commit_stands (from_nothing rolled_insert) (view_of (from_nothing rolled_insert) inserted_entries) rolled_entry.lines 2 (codes "a") 1 1 law.1.0) refl

pub rolled_entry_is_refused : IsRefusedBy (EntriesAreTold rolled_insert rolled_entry) rolled_insert rolled_entry
rolled_entry_is_refused = (rolled_and_entered, λ is. rolled_and_entered is.answered)

-- an entry whose transaction was told in two segments
abbrev split_told : List Numbered
split_told = told (codes "a") split_insert.lines

abbrev IsNoBegin : Numbered → Type 0
IsNoBegin l = l ≡ (1, reply.Begin 1) → ⊥

of_another : (number : ℕ) (r : Reply) → (number ≡ 1 → ⊥) → IsNoBegin (number, r)
of_another number r other is = other (ap (λ (l : Numbered). l.0) is)

another_reply : (r : Reply) → (r ≡ reply.Begin 1 → ⊥) → IsNoBegin (1, r)
another_reply r other is = other (ap (λ (l : Numbered). l.1) is)

none_again : AllByRecursion IsNoBegin (drop 1 split_told)
none_again = (
  of_another 2 (reply.Begin 1) (λ is. omega (arith, is)),
  (
    another_reply (reply.Changed 1) (λ is. cc),
    (
      another_reply (reply.Committed 2) (λ is. cc),
      (of_another 2 (reply.Done 0) (λ is. omega (arith, is)), (of_another 2 (reply.Committed 1) (λ is. omega (arith, is)), tt)),
    ),
  ),
)

in_two : (before : List Numbered) (replies : List Reply) (outcome : Reply) (after : List Numbered) → split_told ≡ before ++ (numbered 1 (reply.Begin 1 ∷ (replies ++ outcome ∷ [])) ++ after) → ⊥
in_two [] [] outcome after is =
    let rest : drop 1 split_told ≡ (1, outcome) ∷ after = same_tail (1, reply.Begin 1) (1, reply.Begin 1) (drop 1 split_told) ((1, outcome) ∷ after) is in
    let next : (2, reply.Begin 1) ≡ (1, outcome) = same_head (2, reply.Begin 1) (1, outcome) (drop 2 split_told) after rest in
    let number : 2 ≡ 1 = ap (λ (l : Numbered). l.0) next in
    omega (arith, number)
in_two [] (r ∷ replies) outcome after is =
    let others : List Numbered = numbered 1 (replies ++ outcome ∷ []) ++ after in
    let rest : drop 1 split_told ≡ (1, r) ∷ others = same_tail (1, reply.Begin 1) (1, reply.Begin 1) (drop 1 split_told) ((1, r) ∷ others) is in
    let next : (2, reply.Begin 1) ≡ (1, r) = same_head (2, reply.Begin 1) (1, r) (drop 2 split_told) others rest in
    let number : 2 ≡ 1 = ap (λ (l : Numbered). l.0) next in
    omega (arith, number)
in_two (l ∷ before) replies outcome after is =
    let back : List Numbered = numbered 1 (replies ++ outcome ∷ []) ++ after in
    let rest : drop 1 split_told ≡ before ++ (1, reply.Begin 1) ∷ back = same_tail (1, reply.Begin 1) l (drop 1 split_told) (before ++ (1, reply.Begin 1) ∷ back) is in
    all_at IsNoBegin (drop 1 split_told) (1, reply.Begin 1) none_again (before, back, rest) refl

told_in_two : EntriesAreTold insert_select split_insert → ⊥
told_in_two law =
    let is : IsCommitTold (from_nothing insert_select) (view_of (from_nothing insert_select) inserted_entries) split_insert.lines 2 (codes "a") 1 1 = law.1.0 in
    in_two is.before is.ran.replies is.outcome is.after is.says

pub split_insert_is_refused : IsRefusedBy (EntriesAreTold insert_select split_insert) insert_select split_insert
split_insert_is_refused = (told_in_two, λ is. told_in_two is.answered)
