-- Stories with one line or one entry changed, which are not lawful: each by the law that refuses it.
use Rattle.std.proofs.Common.{◌≡◌, ℕ, ◌+◌, ◌*◌, ◌≤◌, ◌==◌, List, [], ◌∷◌, ◌++◌, refl, sym, subst, ap, arith, ◌∙◌, Option, Some, None, Bool, true, false, inl, inr, codes}
use Rattle.std.specs.Prelude.{leb, ◌≢◌}
use Rattle.std.specs.List.{AllByRecursion, list_any}
use Rattle.std.specs.Str.{bytes_eq}
use Rattle.std.proofs.lemmas.Bool.{both_ways, true≢false, false≢true, and_parts, and_from, eq-eqb, or_parts}
use Rattle.std.proofs.lemmas.List.{append-nil}
use Rattle.cdb_values.specs.Good.{KeyName, first_broken}
use Rattle.cdb_values.specs.Rows.{apply_all, no_rows}
use Rattle.cdb_values.specs.declared.replies.Reply.{Reply}
use Rattle.cdb_values.specs.declared.replies.Reply.TheVariants as reply
use Rattle.cdb_values.specs.declared.rows.Level.TheVariants.{Serializable, Snapshot}
use Rattle.script_form.specs.declared.scripts.Script.{Script}
use Rattle.session_language.proofs.UpToLaws.{same_head, same_tail}
use Rattle.session_language.specs.Language.{Answered}
use Rattle.session_language.specs.Touched.{used_at}
use Rattle.report_laws.specs.Cut.{cuts}
use Rattle.report_laws.specs.History.{view_of}
use Rattle.report_laws.specs.Nodes.{up_count}
use Rattle.report_laws.specs.Outcome.{IsOneDecision, IsDuplicate, IsEntered, IsRight, key_name}
use Rattle.report_laws.specs.Places.{IsLost, IsShort}
use Rattle.report_laws.specs.Told.{alone_at, Along, Numbered}
use Rattle.report_laws.specs.Work.{transaction, ByCommit, Does, WorkItem, Transaction, WithItsLine}
use Rattle.report_laws.proofs.AlongLaws.{along_its, of_number, of_its}
use Rattle.report_laws.proofs.GrowLaws.{first_begin, first_rest, same_last}
use Rattle.report_laws.proofs.PieceLaws.{all_at}
use Rattle.report_text.specs.declared.reports.EntryLine.TheVariants.{Commit, Setup}
use Rattle.report_text.specs.declared.reports.Line.{Line}
use Rattle.report_text.specs.declared.reports.Line.TheVariants as line
use Rattle.node_laws.proofs.Reply.{same_some}
use Rattle.report_worked.specs.Small.{from_log, from_nothing}
use Rattle.report_worked.specs.Worked.{worked_table}
use Rattle.report_worked.proofs.InsertSelectLemmas.{inserting}
use Rattle.node_reports.specs.Lawful.{LawfulOfNodes}
use Rattle.node_reports.specs.Told.{IsToldAlong, MayBeCut}
use Rattle.node_stories.specs.Stories.{lost_stands, few_but_read, moves_at_rollback, taken_and_fallen, few_opened, opened_later, led_later, falls_while_down, master_falls, tail_stands, falls_at_election, came_back, falls_and_stops, other_basis, ends_undurable, armed_append, followed_later, moves_on_one, over_a_row, wanting}
use Rattle.node_stories.specs.StoriesWrong.{lost_by_another_line, short_without_changes, two_of_three, one_of_one, no_base, two_schemas, lost_unbegun, behind_a_gap, stopped_while_down, up_though_up, begun_at_itself, miscounted, lost_at_another, lost_by_the_stop, named_by_the_script, ends_early, at_another_level, begun_below, lost_with_hasql, committed_over_a_row, wanting_again}
use Rattle.node_stories.proofs.LawfulForm.{is_fall}

-- no transaction is lost by a line that does not stand before
fall_among : (down node : ℕ) (fault : Bool) (front back : List Line) → list_any (is_fall down node) (front ++ line.Down down node fault ∷ back) ≡ false → ⊥
fall_among down node fault [] back none = both_ways (is_fall down node (line.Down down node fault)) (or_parts (is_fall down node (line.Down down node fault)) (list_any (is_fall down node) back) none).0 (and_from (down == down) (node == node) (eq-eqb down down refl) (eq-eqb node node refl))
fall_among down node fault (x ∷ front) back none = fall_among down node fault front back (or_parts (is_fall down node x) (list_any (is_fall down node) (front ++ line.Down down node fault ∷ back)) none).1

never_fell : (before : List Line) (session : List ℕ) (txn node down : ℕ) → list_any (is_fall down node) before ≡ false → IsLost before session txn node down → ⊥
never_fell before session txn node down none is = fall_among down node is.fault is.front is.back (subst (λ (ls : List Line). list_any (is_fall down node) ls ≡ false) is.stands none)

-- nodes that are short are few
short_is_few : (script : Script) (before : List Line) (session : List ℕ) (up nodes : ℕ) → IsShort script before session up nodes → leb (2 * up) nodes ≡ true
short_is_few script before session up nodes is = subst (λ (k : ℕ). leb (2 * k) nodes ≡ true) (sym is.are_up) (and_parts (leb 1 nodes) (leb (2 * up_count nodes is.front) nodes) is.few).1

pub lost_by_another_line_is_refused : LawfulOfNodes (from_nothing lost_stands) lost_by_another_line → ⊥
lost_by_another_line_is_refused is = never_fell _ (codes "a") 2 1 1 refl is.places.1.1.1.1.1.1.1.0.1

pub lost_at_another_is_refused : LawfulOfNodes (from_nothing came_back) lost_at_another → ⊥
lost_at_another_is_refused is = never_fell _ (codes "a") 1 1 1 refl is.places.1.1.1.0.1

pub lost_by_the_stop_is_refused : LawfulOfNodes (from_nothing falls_and_stops) lost_by_the_stop → ⊥
lost_by_the_stop_is_refused is = never_fell _ (codes "a") 1 1 1 refl is.places.1.1.1.1.0.1

pub two_of_three_is_refused : LawfulOfNodes (from_nothing moves_at_rollback) two_of_three → ⊥
two_of_three_is_refused is = false≢true (short_is_few moves_at_rollback _ (codes "b") 2 3 is.places.1.1.1.1.0)

pub one_of_one_is_refused : LawfulOfNodes (from_nothing taken_and_fallen) one_of_one → ⊥
one_of_one_is_refused is = false≢true (short_is_few taken_and_fallen _ (codes "a") 1 1 is.places.1.1.1.0)

none_some : (n : ℕ) → None ≡ Some n → ⊥
none_some n is = cc

pub no_base_is_refused : LawfulOfNodes (from_log few_opened 1 (no_rows (worked_table ∷ []))) no_base → ⊥
no_base_is_refused is = none_some 1 is.base

pub two_schemas_is_refused : LawfulOfNodes (from_nothing opened_later) two_schemas → ⊥
two_schemas_is_refused is = let no_such : Setup 1 ∷ [] ≡ [] = is.history.1.0.0 in cc

-- a line that is told to nobody
abbrev IsToNobody : Line → Type 0
IsToNobody (line.Session name txn answer) = ⊥
IsToNobody _ = Unit {0}

pub lost_unbegun_is_refused : LawfulOfNodes (from_nothing few_opened) lost_unbegun → ⊥
lost_unbegun_is_refused is = let lost = is.places.1.1.0.1 in all_at IsToNobody (line.Down 1 2 true ∷ line.Down 2 3 true ∷ []) (line.Session (codes "a") 1 (reply.Begin lost.begin)) (tt, (tt, tt)) lost.begun

pub behind_a_gap_is_refused : LawfulOfNodes (from_log led_later 1 (no_rows (worked_table ∷ []))) behind_a_gap → ⊥
behind_a_gap_is_refused is = let no_such : 3 ≡ 2 = is.history.0.placed in omega (arith, no_such)

pub stopped_while_down_is_refused : LawfulOfNodes (from_nothing falls_while_down) stopped_while_down → ⊥
stopped_while_down_is_refused is = false≢true (is.places.1.0.was_up refl)

pub up_though_up_is_refused : LawfulOfNodes (from_nothing master_falls) up_though_up → ⊥
up_though_up_is_refused is = true≢false is.places.1.1.1.1.1.1.1.0.was_down

pub begun_at_itself_is_refused : LawfulOfNodes (from_nothing tail_stands) begun_at_itself → ⊥
begun_at_itself_is_refused is = let no_such : 2 + 1 ≤ 2 = is.history.1.0.begun.2 in omega (arith, no_such)

pub miscounted_is_refused : LawfulOfNodes (from_nothing falls_at_election) miscounted → ⊥
miscounted_is_refused is = let no_such : 3 ≡ 2 = is.places.1.0.counted in omega (arith, no_such)

pub ends_early_is_refused : LawfulOfNodes (from_nothing ends_undurable) ends_early → ⊥
ends_early_is_refused is = let no_such : 1 ≡ 2 = is.end in omega (arith, no_such)

pub begun_below_is_refused : LawfulOfNodes (from_log followed_later 2 (no_rows (worked_table ∷ []))) begun_below → ⊥
begun_below_is_refused is = let no_such : 2 ≤ 1 = is.begins.1.1.1.1.1.0.base in omega (arith, no_such)

pub lost_with_hasql_is_refused : LawfulOfNodes (from_nothing moves_on_one) lost_with_hasql → ⊥
lost_with_hasql_is_refused is = true≢false is.places.1.1.1.1.1.1.1.0.0

pub at_another_level_is_refused : LawfulOfNodes (from_nothing armed_append) at_another_level → ⊥
at_another_level_is_refused is =
    let entry = is.history.1.0 in
    let its : inserting ≡ entry.transaction = same_some inserting entry.transaction entry.is_its in
    let no_such : Serializable ≡ Snapshot = entry.is_level ∙ ap (λ (t : Transaction). t.level) (sym its) in cc

-- the one transaction of a session is told what the session is told
only_item : (P : WorkItem → List Reply → Type 0) (t : Transaction) (lines : List Numbered) (all : List Reply) → of_number t.number lines ≡ all → Along P (Does t ∷ []) lines → P (Does t) all
only_item P t lines all is (mine, others, splits, p, rest) =
    subst (λ (rs : List Reply). P (Does t) rs) (sym (sym is ∙ ap (of_number t.number) splits ∙ of_its t.number mine others ∙ ap (λ (ls : List Numbered). mine ++ of_number t.number ls) rest ∙ append-nil mine)) p

abbrev opened : Transaction
opened = transaction 1 [] Snapshot ByCommit

abbrev short : List Reply
short = reply.Begin 1 ∷ reply.NoMajority 1 3 ∷ []

not_short : IsToldAlong (from_nothing few_but_read) (view_of (from_nothing few_but_read) short_without_changes.entries) (codes "a") (Does opened) short → ⊥
not_short (inl w) =
    let says : reply.NoMajority 1 3 ∷ [] ≡ w.last = first_rest 1 w.begin _ _ w.says ∙ ap (λ (a : Answered). a.replies ++ w.last) w.is_ran in
    subst IsOneDecision (sym says) w.ends
not_short (inr c) = go c.cause (same_last (reply.Begin 1 ∷ []) c.front (reply.NoMajority 1 3) c.cause c.says) c.may
  where
    begun : c.front ≡ [] → ⊥
    begun none = let says : reply.Begin 1 ∷ reply.NoMajority 1 3 ∷ [] ≡ c.cause ∷ [] = c.says ∙ ap (λ (front : List Reply). front ++ c.cause ∷ []) none in
        let rest : reply.NoMajority 1 3 ∷ [] ≡ [] = same_tail (reply.Begin 1) c.cause (reply.NoMajority 1 3 ∷ []) [] says in cc

    no_ops : c.ran.ops ≡ []
    no_ops = ap (λ (a : Answered). a.ops) c.is_ran

    go : (cause : Reply) → reply.NoMajority 1 3 ≡ cause → MayBeCut false ByCommit c.ran.ops c.front c.rest cause → ⊥
    go cause is may = at (subst (λ (r : Reply). MayBeCut false ByCommit c.ran.ops c.front c.rest r) (sym is) may)
      where
        at : MayBeCut false ByCommit c.ran.ops c.front c.rest (reply.NoMajority 1 3) → ⊥
        at (inl (inl none)) = begun none
        at (inl (inr (last, ops, commit))) = ops no_ops
        at (inr (goes_on, is_it)) = false≢true goes_on

pub short_without_changes_is_refused : LawfulOfNodes (from_nothing few_but_read) short_without_changes → ⊥
short_without_changes_is_refused is = not_short (only_item (IsToldAlong (from_nothing few_but_read) (view_of (from_nothing few_but_read) short_without_changes.entries) (codes "a")) opened _ short refl (is.replies (codes "a")))

abbrev first_insert : Transaction
first_insert = inserting

abbrev second_insert : Transaction
second_insert = transaction 2 (codes "insert into t values(1, 2)" ∷ []) Snapshot WithItsLine

abbrev misnamed : List Reply
misnamed = reply.Begin 2 ∷ reply.Changed 1 ∷ reply.Duplicate 2 (codes "u") (codes "pk") ∷ []

abbrev is_called_t : Option KeyName → Bool
is_called_t None = false
is_called_t (Some key) = bytes_eq key.table (codes "t")

not_misnamed : IsToldAlong other_basis (view_of other_basis named_by_the_script.entries) (codes "a") (Does second_insert) misnamed → ⊥
not_misnamed (inl w) = go w.last last w.right
  where
    at : 2 ≡ w.begin
    at = first_begin 2 w.begin _ _ w.says

    ran : w.ran ≡ alone_at other_basis (view_of other_basis named_by_the_script.entries) second_insert 2
    ran = w.is_ran ∙ ap (λ (b : ℕ). alone_at other_basis (view_of other_basis named_by_the_script.entries) second_insert b) (sym at)

    last : reply.Duplicate 2 (codes "u") (codes "pk") ∷ [] ≡ w.last
    last = same_tail (reply.Changed 1) (reply.Changed 1) (reply.Duplicate 2 (codes "u") (codes "pk") ∷ []) w.last (first_rest 2 w.begin _ _ w.says ∙ ap (λ (a : Answered). a.replies ++ w.last) ran)

    go : (rs : List Reply) → reply.Duplicate 2 (codes "u") (codes "pk") ∷ [] ≡ rs → AllByRecursion (IsRight other_basis (view_of other_basis named_by_the_script.entries) (codes "a") second_insert w.begin (used_at second_insert.level w.ran) w.ran.ops) rs → ⊥
    go rs is right =
        let its : IsDuplicate other_basis (view_of other_basis named_by_the_script.entries) w.begin 2 (used_at second_insert.level w.ran) w.ran.ops (codes "u") (codes "pk") =
        (subst (AllByRecursion (IsRight other_basis (view_of other_basis named_by_the_script.entries) (codes "a") second_insert w.begin (used_at second_insert.level w.ran) w.ran.ops)) (sym is) right).0 in
        let breaks = subst (λ (a : Answered). first_broken other_basis.origin.tables (apply_all ((view_of other_basis named_by_the_script.entries).rows 2) a.ops).tables ≡ Some (key_name (codes "u") (codes "pk"))) ran its.breaks in
        true≢false (ap is_called_t breaks)
not_misnamed (inr c) =
    let last : reply.Duplicate 2 (codes "u") (codes "pk") ≡ c.cause = same_last (reply.Begin 2 ∷ reply.Changed 1 ∷ []) c.front (reply.Duplicate 2 (codes "u") (codes "pk")) c.cause c.says in
    both_ways (cuts c.cause) (ap cuts (sym last)) c.is_cause

pub named_by_the_script_is_refused : LawfulOfNodes other_basis named_by_the_script → ⊥
named_by_the_script_is_refused is = not_misnamed (along_its (IsToldAlong other_basis (view_of other_basis named_by_the_script.entries) (codes "a")) (Does first_insert ∷ []) [] (Does second_insert) _ (refl, tt) tt (is.replies (codes "a")))

abbrev kept : List Reply
kept = reply.Begin 2 ∷ reply.Changed 1 ∷ reply.Committed 3 ∷ []

abbrev again : Transaction
again = transaction 1 (codes "insert into t values(1, 2)" ∷ []) Snapshot WithItsLine

-- committed, where no entry stands
not_kept : IsToldAlong over_a_row (view_of over_a_row []) (codes "a") (Does again) kept → ⊥
not_kept (inl w) = go w.last last w.right
  where
    at : 2 ≡ w.begin
    at = first_begin 2 w.begin _ _ w.says

    ran : w.ran ≡ alone_at over_a_row (view_of over_a_row []) again 2
    ran = w.is_ran ∙ ap (λ (b : ℕ). alone_at over_a_row (view_of over_a_row []) again b) (sym at)

    last : reply.Committed 3 ∷ [] ≡ w.last
    last = same_tail (reply.Changed 1) (reply.Changed 1) (reply.Committed 3 ∷ []) w.last (first_rest 2 w.begin _ _ w.says ∙ ap (λ (a : Answered). a.replies ++ w.last) ran)

    go : (rs : List Reply) → reply.Committed 3 ∷ [] ≡ rs → AllByRecursion (IsRight over_a_row (view_of over_a_row []) (codes "a") again w.begin (used_at again.level w.ran) w.ran.ops) rs → ⊥
    go rs is right =
        let its : IsEntered over_a_row (view_of over_a_row []) (codes "a") again w.begin 3 (used_at again.level (alone_at over_a_row (view_of over_a_row []) again 2)) =
        subst (λ (a : Answered). IsRight over_a_row (view_of over_a_row []) (codes "a") again w.begin (used_at again.level a) a.ops (reply.Committed 3)) ran
        (subst (AllByRecursion (IsRight over_a_row (view_of over_a_row []) (codes "a") again w.begin (used_at again.level w.ran) w.ran.ops)) (sym is) right).0 in
        let no_such : None ≡ Some (Commit 3 (codes "a") 1 w.begin Snapshot) = its.stands in cc
not_kept (inr c) =
    let last : reply.Committed 3 ≡ c.cause = same_last (reply.Begin 2 ∷ reply.Changed 1 ∷ []) c.front (reply.Committed 3) c.cause c.says in
    both_ways (cuts c.cause) (ap cuts (sym last)) c.is_cause

pub committed_over_a_row_is_refused : LawfulOfNodes over_a_row committed_over_a_row → ⊥
committed_over_a_row_is_refused is = not_kept (only_item (IsToldAlong over_a_row (view_of over_a_row []) (codes "a")) again _ kept refl (is.replies (codes "a")))

abbrev selected : Transaction
selected = transaction 1 (codes "select * from t" ∷ []) Snapshot WithItsLine

-- what was cut short is over
not_twice : IsToldAlong (from_nothing wanting) (view_of (from_nothing wanting) wanting_again.entries) (codes "a") (Does selected) (reply.NoMemory ∷ reply.NoMemory ∷ []) → ⊥
not_twice (inl w) = let no_such : reply.NoMemory ≡ reply.Begin w.begin = same_head reply.NoMemory (reply.Begin w.begin) _ _ w.says in cc
not_twice (inr c) = go c.front c.says c.fits
  where
    go : (front : List Reply) → reply.NoMemory ∷ reply.NoMemory ∷ [] ≡ front ++ c.cause ∷ [] → front ++ c.rest ≡ reply.Begin c.begin ∷ c.ran.replies → ⊥
    go [] says fits = let no_such : reply.NoMemory ∷ [] ≡ [] = same_tail reply.NoMemory c.cause (reply.NoMemory ∷ []) [] says in cc
    go (r ∷ rs) says fits =
        let no_such : reply.NoMemory ≡ reply.Begin c.begin = same_head reply.NoMemory r (reply.NoMemory ∷ []) (rs ++ c.cause ∷ []) says ∙ same_head r (reply.Begin c.begin) (rs ++ c.rest) c.ran.replies fits in cc

pub wanting_again_is_refused : LawfulOfNodes (from_nothing wanting) wanting_again → ⊥
wanting_again_is_refused is = not_twice (only_item (IsToldAlong (from_nothing wanting) (view_of (from_nothing wanting) wanting_again.entries) (codes "a")) selected _ (reply.NoMemory ∷ reply.NoMemory ∷ []) refl (is.replies (codes "a")))
