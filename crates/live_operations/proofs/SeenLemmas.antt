-- The rows of one table that a statement sees: each is of a version that is there, and no version is seen twice or
-- after its transaction took it away.
use Rattle.std.proofs.Common.{◌≡◌, inl, inr, ℕ, ◌+◌, ◌≤◌, ◌==◌, List, [], ◌∷◌, ◌++◌, map, filter, Bool, true, false, cond, not, refl, ◌∙◌, subst, ap, arith, Option, Some, None}
use Rattle.std.specs.Prelude.{option_map}
use Rattle.std.specs.List.{AllByRecursion, list_any, filter_map, cons_option}
use Rattle.std.proofs.lemmas.Bool.{eqb-true}
use Rattle.cdb_values.specs.Rows.{takes, version}
use Rattle.cdb_values.specs.declared.rows.RowOp.{RowOp}
use Rattle.cdb_values.specs.declared.rows.RowOp.TheVariants.{Insert, Update, Delete}
use Rattle.cdb_values.specs.declared.rows.RowRef.{RowRef}
use Rattle.cdb_values.specs.declared.rows.RowRef.TheVariants.{Base, Own}
use Rattle.cdb_values.specs.declared.rows.Version.{Version}
use Rattle.cdb_values.specs.declared.values.Value.{Value}
use Rattle.session_language.proofs.EachLaws.{all_append}
use Rattle.session_language.proofs.AllLaws.{all_got}
use Rattle.sql_answer.specs.Answers.{rows_met, updating, deleting}
use Rattle.sql_answer.specs.Combinations.{Seen, seen_version, own_or, own_from, is_left, of_table, seen, rows_of, extended, met}
use Rattle.sql_answer.specs.Conditions.{meets}
use Rattle.sql_answer.specs.Writes.{set_row}
use Rattle.sql_bind.specs.Bound.{Cond}
use Rattle.sql_bind.specs.declared.types.BoundAssign.{BoundAssign}
use Rattle.table_store.specs.Listings.{IsAmong}
use Rattle.table_store.specs.Operations.{gone, NoTwice}
use Rattle.live_operations.specs.Live.{AreDistinct}
use Rattle.live_operations.proofs.TimesLemmas.{times, one_if, taken_by, at_most_once, fewer, none_left, gone_first, all_untaken}

-- ---- each row of a version that is there

-- a target is there, with the row that is told
abbrev pub IsThereAt : List (List Version) → ℕ → RowRef → List Value → Type 0
IsThereAt versions place (Base genid) old = IsAmong (version genid old) (of_table versions place)
IsThereAt versions place (Own write) old = Unit {0}

abbrev pub IsThereSeen : List (List Version) → ℕ → Seen → Type 0
IsThereSeen versions place s = IsThereAt versions place s.source s.row

-- a filter leaves some of these versions
left_there : (test : Version → Bool) (versions : List (List Version)) (place : ℕ) (vs : List Version)
    → ((v : Version) → IsAmong v vs → IsAmong v (of_table versions place)) → AllByRecursion (IsThereSeen versions place) (map seen_version (filter test vs))
left_there test versions place [] among = tt
left_there test versions place (v ∷ vs) among = go (test v) (left_there test versions place vs (λ w i. among w (inr i)))
  where
    go : (b : Bool) → AllByRecursion (IsThereSeen versions place) (map seen_version (filter test vs))
        → AllByRecursion (IsThereSeen versions place) (map seen_version (cond b (v ∷ filter test vs) (filter test vs)))
    go true later = (among v (inl refl), later)
    go false later = later

one_own : (versions : List (List Version)) (place number : ℕ) (row : List Value) (here : Bool) (later : List Seen) → AllByRecursion (IsThereSeen versions place) later
    → AllByRecursion (IsThereSeen versions place) (own_or number row here later)
one_own versions place number row true later all = (tt, all)
one_own versions place number row false later all = all

own_there : (versions : List (List Version)) (place number : ℕ) (ops : List RowOp) → AllByRecursion (IsThereSeen versions place) (own_from number place ops)
own_there versions place number [] = tt
own_there versions place number (Insert p row ∷ ops) =
    one_own versions place number row (p == place) (own_from (number + 1) place ops) (own_there versions place (number + 1) ops)
own_there versions place number (Update p target old row ∷ ops) =
    one_own versions place number row (p == place) (own_from (number + 1) place ops) (own_there versions place (number + 1) ops)
own_there versions place number (Delete p target old ∷ ops) = own_there versions place (number + 1) ops

seen_there : (versions : List (List Version)) (done : List RowOp) (place : ℕ) → AllByRecursion (IsThereSeen versions place) (seen versions done place)
seen_there versions done place =
    all_append (IsThereSeen versions place) (map seen_version (filter (is_left done place) (of_table versions place))) (own_from 1 place done)
    (left_there (is_left done place) versions place (of_table versions place) (λ v among. among)) (own_there versions place 1 done)

-- the rows that a write meets are some of those that are seen
pub met_of : (P : Seen → Type 0) (test : List Seen → Bool) (rows : List Seen) → AllByRecursion P rows → AllByRecursion P (rows_met (filter test (extended rows [] ++ [])))
met_of P test [] all = tt
met_of P test (s ∷ rows) all = go (test (s ∷ [])) (met_of P test rows all.1)
  where
    go : (b : Bool) → AllByRecursion P (rows_met (filter test (extended rows [] ++ [])))
        → AllByRecursion P (rows_met (cond b ((s ∷ []) ∷ filter test (extended rows [] ++ [])) (filter test (extended rows [] ++ []))))
    go true later = (all.0, later)
    go false later = later

pub met_there : (versions : List (List Version)) (done : List RowOp) (place : ℕ) (condition : Option Cond)
    → AllByRecursion (IsThereSeen versions place) (rows_met (met (seen versions done) (place ∷ []) condition))
met_there versions done place condition =
    met_of (IsThereSeen versions place) (λ combination. meets condition (rows_of combination)) (seen versions done place) (seen_there versions done place)

-- ---- no version twice

-- how often writes on rows that are seen take the version of that genid away from a table
abbrev pub drawn : ℕ → ℕ → ℕ → List Seen → ℕ
drawn place table genid [] = 0
drawn place table genid (s ∷ rows) = taken_by table genid (deleting place s) + drawn place table genid rows

module _ (place table genid : ℕ) where
  drawn_both : (xs ys : List Seen) → drawn place table genid (xs ++ ys) ≡ drawn place table genid xs + drawn place table genid ys
  drawn_both [] ys = omega arith
  drawn_both (x ∷ xs) ys = let later = drawn_both xs ys in omega (arith, later)

  of_version : (v : Version) (here : Bool) → times genid (cond here (version v.genid v.row ∷ []) []) ≤ one_if (v.genid == genid)
  of_version v true = omega arith
  of_version v false = omega arith

  of_versions : (vs : List Version) → drawn place table genid (map seen_version vs) ≤ times genid vs
  of_versions [] = omega arith
  of_versions (v ∷ vs) = let here = of_version v (place == table) in let later = of_versions vs in omega (arith, here, later)

  of_one : (number : ℕ) (row : List Value) (here : Bool) (later : List Seen) → drawn place table genid later ≡ 0
      → drawn place table genid (own_or number row here later) ≡ 0
  of_one number row true later none = omega (arith, none)
  of_one number row false later none = none

  of_own : (number : ℕ) (ops : List RowOp) → drawn place table genid (own_from number place ops) ≡ 0
  of_own number [] = refl
  of_own number (Insert p row ∷ ops) = of_one number row (p == place) (own_from (number + 1) place ops) (of_own (number + 1) ops)
  of_own number (Update p target old row ∷ ops) = of_one number row (p == place) (own_from (number + 1) place ops) (of_own (number + 1) ops)
  of_own number (Delete p target old ∷ ops) = of_own (number + 1) ops

  of_seen : (versions : List (List Version)) (done : List RowOp)
      → drawn place table genid (seen versions done place) ≤ times genid (filter (is_left done place) (of_table versions place))
  of_seen versions done =
      let both = drawn_both (map seen_version (filter (is_left done place) (of_table versions place))) (own_from 1 place done) in
      let based = of_versions (filter (is_left done place) (of_table versions place)) in
      let own = of_own 1 done in
      omega (arith, both, based, own)

  elsewhere_one : (place == table) ≡ false → (target : RowRef) (old : List Value) → taken_by table genid (Delete place target old) ≡ 0
  elsewhere_one other (Base g) old = ap (λ b. times genid (cond b (version g old ∷ []) [])) other
  elsewhere_one other (Own write) old = refl

  elsewhere : (place == table) ≡ false → (rows : List Seen) → drawn place table genid rows ≡ 0
  elsewhere other [] = refl
  elsewhere other (s ∷ rows) = let here = elsewhere_one other s.source s.row in let later = elsewhere other rows in omega (arith, here, later)

  met_drawn : (test : List Seen → Bool) (rows : List Seen) → drawn place table genid (rows_met (filter test (extended rows [] ++ []))) ≤ drawn place table genid rows
  met_drawn test [] = omega arith
  met_drawn test (s ∷ rows) = go (test (s ∷ [])) (met_drawn test rows)
    where
      go : (b : Bool) → drawn place table genid (rows_met (filter test (extended rows [] ++ []))) ≤ drawn place table genid rows
          → drawn place table genid (rows_met (cond b ((s ∷ []) ∷ filter test (extended rows [] ++ [])) (filter test (extended rows [] ++ []))))
          ≤ taken_by table genid (deleting place s) + drawn place table genid rows
      go true later = omega (arith, later)
      go false later = omega (arith, later)

-- a version that operations took away is not left, and each is there once
left_once : (versions : List Version) (done : List RowOp) (table genid : ℕ) → NoTwice versions → times genid (gone table done) ≤ 1
    → times genid (filter (is_left done table) versions) + times genid (gone table done) ≤ 1
left_once versions done table genid distinct once = go (list_any (takes table genid) done) refl
  where
    go : (b : Bool) → list_any (takes table genid) done ≡ b → times genid (filter (is_left done table) versions) + times genid (gone table done) ≤ 1
    go true taken =
        let none = none_left (is_left done table) genid versions (λ v same. ap (λ g. not (list_any (takes table g) done)) same ∙ ap not taken) in
        omega (arith, none, once)
    go false free =
        let none = all_untaken table genid done free in
        let few = fewer (is_left done table) genid versions in
        let one = at_most_once genid versions distinct in
        omega (arith, none, few, one)

distinct_at : (versions : List (List Version)) (place : ℕ) → AreDistinct versions → NoTwice (of_table versions place)
distinct_at versions place distinct = all_got NoTwice versions place [] distinct tt

seen_once : (versions : List (List Version)) (done : List RowOp) (place table genid : ℕ) → AreDistinct versions → NoTwice (gone table done)
    → drawn place table genid (seen versions done place) + times genid (gone table done) ≤ 1
seen_once versions done place table genid distinct once = go (place == table) refl
  where
    few : times genid (gone table done) ≤ 1
    few = at_most_once genid (gone table done) once

    go : (b : Bool) → (place == table) ≡ b → drawn place table genid (seen versions done place) + times genid (gone table done) ≤ 1
    go true here =
        let less : drawn place table genid (seen versions done place) ≤ times genid (filter (is_left done table) (of_table versions table)) =
        subst (λ t. drawn place table genid (seen versions done place) ≤ times genid (filter (is_left done t) (of_table versions t)))
        (eqb-true place table here) (of_seen place table genid versions done) in
        let left = left_once (of_table versions table) done table genid (distinct_at versions table distinct) few in
        omega (arith, less, left)
    go false other = let none = elsewhere place table genid other (seen versions done place) in omega (arith, none, few)

pub met_once : (versions : List (List Version)) (done : List RowOp) (condition : Option Cond) (place table genid : ℕ) → AreDistinct versions → NoTwice (gone table done)
    → drawn place table genid (rows_met (met (seen versions done) (place ∷ []) condition)) + times genid (gone table done) ≤ 1
met_once versions done condition place table genid distinct once =
    let all = seen_once versions done place table genid distinct once in
    let some = met_drawn place table genid (λ combination. meets condition (rows_of combination)) (seen versions done place) in
    omega (arith, all, some)

-- ---- the writes on these rows

module _ (place table genid : ℕ) where
  same_target : (target : RowRef) (old row : List Value) → taken_by table genid (Update place target old row) ≡ taken_by table genid (Delete place target old)
  same_target (Base g) old row = refl
  same_target (Own write) old row = refl

  one_update : (s : Seen) (o : Option (List Value)) (later : List RowOp)
      → times genid (gone table (cons_option (option_map (Update place s.source s.row) o) later)) ≤ taken_by table genid (deleting place s) + times genid (gone table later)
  one_update s None later = omega arith
  one_update s (Some row) later =
      let all = gone_first table genid (Update place s.source s.row row) later in
      let same = same_target s.source s.row row in
      omega (arith, all, same)

  pub updates_take : (assigns : List BoundAssign) (rows : List Seen) → times genid (gone table (filter_map (updating place assigns) rows)) ≤ drawn place table genid rows
  updates_take assigns [] = omega arith
  updates_take assigns (s ∷ rows) =
      let here = one_update s (set_row assigns s.row) (filter_map (updating place assigns) rows) in
      let later = updates_take assigns rows in
      omega (arith, here, later)

  pub deletes_take : (rows : List Seen) → times genid (gone table (map (deleting place) rows)) ≤ drawn place table genid rows
  deletes_take [] = omega arith
  deletes_take (s ∷ rows) =
      let all = gone_first table genid (deleting place s) (map (deleting place) rows) in
      let later = deletes_take rows in
      omega (arith, all, later)

  pub inserts_take : (rows : List (List Value)) → times genid (gone table (map (Insert place) rows)) ≡ 0
  inserts_take [] = refl
  inserts_take (row ∷ rows) = inserts_take rows
