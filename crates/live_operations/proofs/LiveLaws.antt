-- Over distinct versions, and behind live operations, each text of SQL leaves live operations.
use Rattle.std.proofs.Common.{◌≡◌, ℕ, ◌+◌, ◌≤◌, ◌==◌, List, [], ◌∷◌, ◌++◌, map, Bool, true, false, cond, refl, subst, arith, Option, Some, None}
use Rattle.std.specs.Prelude.{option_map}
use Rattle.std.specs.List.{AllByRecursion, cons_option, filter_map}
use Rattle.std.proofs.lemmas.Bool.{eqb-true, eqb-false}
use Rattle.cdb_values.specs.Rows.{version}
use Rattle.cdb_values.specs.declared.rows.RowOp.{RowOp}
use Rattle.cdb_values.specs.declared.rows.RowOp.TheVariants.{Insert, Update, Delete}
use Rattle.cdb_values.specs.declared.rows.RowRef.TheVariants.{Base, Own}
use Rattle.cdb_values.specs.declared.rows.Version.{Version}
use Rattle.cdb_values.specs.declared.values.Value.{Value}
use Rattle.net_writes.specs.Net.{rewritten, undone, net_of}
use Rattle.query_laws.specs.Alone.{sql_language}
use Rattle.session_language.proofs.EachLaws.{all_append}
use Rattle.sql_answer.specs.Answers.{updating, deleting}
use Rattle.sql_answer.specs.Combinations.{Seen, of_table}
use Rattle.sql_answer.specs.Writes.{set_row}
use Rattle.sql_bind.specs.Bound.{Cond, BoundStatement, BeginIt, CommitIt, RollbackIt, SetIt, InsertInto, UpdateOf, DeleteFrom, SelectOf}
use Rattle.sql_bind.specs.declared.types.BoundAssign.{BoundAssign}
use Rattle.table_store.specs.Listings.{IsAmong}
use Rattle.table_store.specs.Operations.{gone}
use Rattle.live_operations.specs.Live.{AreDistinct, AreLive, TextLeavesLive, TextsLeaveLive, TransactionLeavesLive}
use Rattle.live_operations.proofs.NetLemmas.{HoldsFor, IsJoined, net_takes, net_has}
use Rattle.live_operations.proofs.SeenLemmas.{IsThereAt, IsThereSeen, met_there, met_once, updates_take, deletes_take, inserts_take}
use Rattle.live_operations.proofs.StatementLemmas.{met_in, writes_of, text_leaves}
use Rattle.live_operations.proofs.TimesLemmas.{times, at_most_once, no_twice, gone_both}

-- ---- what is there, for each operation

-- what an operation takes away is there, with the row that it tells
abbrev pub IsThereOp : List (List Version) → RowOp → Type 0
IsThereOp versions (Insert place row) = Unit {0}
IsThereOp versions (Update place target old row) = IsThereAt versions place target old
IsThereOp versions (Delete place target old) = IsThereAt versions place target old

module _ (versions : List (List Version)) where
  joins : IsJoined (IsThereOp versions)
  joins = record { rewritten_has = rewritten_is; undone_has = undone_is }
    where
      rewritten_is : (h : Option RowOp) (place write : ℕ) (old row : List Value) → HoldsFor (IsThereOp versions) h → IsThereOp versions (Update place (Own write) old row)
          → HoldsFor (IsThereOp versions) (rewritten h row)
      rewritten_is None place write old row has is = tt
      rewritten_is (Some (Insert table written)) place write old row has is = tt
      rewritten_is (Some (Update table target before written)) place write old row has is = has
      rewritten_is (Some (Delete table target before)) place write old row has is = tt

      undone_is : (h : Option RowOp) → HoldsFor (IsThereOp versions) h → HoldsFor (IsThereOp versions) (undone h)
      undone_is None has = tt
      undone_is (Some (Insert place written)) has = tt
      undone_is (Some (Update place target old written)) has = has
      undone_is (Some (Delete place target old)) has = tt

  abbrev IsHere : ℕ → Version → Type 0
  IsHere table v = IsAmong v (of_table versions table)

  one_there : (place table : ℕ) (v : Version) (vs : List Version) → IsHere place v → AllByRecursion (IsHere table) vs → AllByRecursion (IsHere table) (cond (place == table) (v ∷ vs) vs)
  one_there place table v vs is all = go (place == table) refl
    where
      go : (b : Bool) → (place == table) ≡ b → AllByRecursion (IsHere table) (cond b (v ∷ vs) vs)
      go true here = (subst (λ t. IsHere t v) (eqb-true place table here) is, all)
      go false other = all

  pub gone_there : (ops : List RowOp) → AllByRecursion (IsThereOp versions) ops → (table : ℕ) → AllByRecursion (IsHere table) (gone table ops)
  gone_there [] all table = tt
  gone_there (Insert place row ∷ ops) all table = gone_there ops all.1 table
  gone_there (Update place (Base genid) old row ∷ ops) all table = one_there place table (version genid old) (gone table ops) all.0 (gone_there ops all.1 table)
  gone_there (Update place (Own write) old row ∷ ops) all table = gone_there ops all.1 table
  gone_there (Delete place (Base genid) old ∷ ops) all table = one_there place table (version genid old) (gone table ops) all.0 (gone_there ops all.1 table)
  gone_there (Delete place (Own write) old ∷ ops) all table = gone_there ops all.1 table

  first_there : (place : ℕ) (v : Version) (vs : List Version) → AllByRecursion (IsHere place) (cond (place == place) (v ∷ vs) vs) → IsHere place v
  first_there place v vs all = go (place == place) refl all
    where
      go : (b : Bool) → (place == place) ≡ b → AllByRecursion (IsHere place) (cond b (v ∷ vs) vs) → IsHere place v
      go true here is = is.0
      go false other is = absurd (eqb-false place place other refl)

  later_there : (table : ℕ) (v : Version) (vs : List Version) (here : Bool) → AllByRecursion (IsHere table) (cond here (v ∷ vs) vs) → AllByRecursion (IsHere table) vs
  later_there table v vs true all = all.1
  later_there table v vs false all = all

  pub ops_there : (ops : List RowOp) → ((table : ℕ) → AllByRecursion (IsHere table) (gone table ops)) → AllByRecursion (IsThereOp versions) ops
  ops_there [] all = tt
  ops_there (Insert place row ∷ ops) all = (tt, ops_there ops all)
  ops_there (Update place (Base genid) old row ∷ ops) all = (
    first_there place (version genid old) (gone place ops) (all place),
    ops_there ops (λ table. later_there table (version genid old) (gone table ops) (place == table) (all table)),
  )
  ops_there (Update place (Own write) old row ∷ ops) all = (tt, ops_there ops all)
  ops_there (Delete place (Base genid) old ∷ ops) all = (
    first_there place (version genid old) (gone place ops) (all place),
    ops_there ops (λ table. later_there table (version genid old) (gone table ops) (place == table) (all table)),
  )
  ops_there (Delete place (Own write) old ∷ ops) all = (tt, ops_there ops all)

-- ---- writes behind live operations

-- writes take away versions that are there, and none that the operations took or that a write takes besides
record AreLiveWrites (versions : List (List Version)) (done writes : List RowOp) : Type 0 where
  there : AllByRecursion (IsThereOp versions) writes
  few : (table genid : ℕ) → times genid (gone table writes) + times genid (gone table done) ≤ 1

net_live : (versions : List (List Version)) (done writes : List RowOp) → AreLive versions done → AreLiveWrites versions done writes → AreLive versions (net_of (done ++ writes))
net_live versions done writes live more = record {
  there = gone_there versions (net_of (done ++ writes))
      (net_has (IsThereOp versions) (joins versions) (done ++ writes) (all_append (IsThereOp versions) done writes (ops_there versions done live.there) more.there));
  once = λ table. no_twice (gone table (net_of (done ++ writes))) (λ genid. few table genid);
}
  where
    few : (table genid : ℕ) → times genid (gone table (net_of (done ++ writes))) ≤ 1
    few table genid =
        let net = net_takes table genid (done ++ writes) in
        let both = gone_both table genid done writes in
        let all = more.few table genid in
        omega (arith, net, both, all)

inserts_live : (versions : List (List Version)) (done : List RowOp) (place : ℕ) (rows : List (List Value)) → AreLive versions done → AreLiveWrites versions done (map (Insert place) rows)
inserts_live versions done place rows live = record { there = all_insert rows; few = few }
  where
    all_insert : (rs : List (List Value)) → AllByRecursion (IsThereOp versions) (map (Insert place) rs)
    all_insert [] = tt
    all_insert (r ∷ rs) = (tt, all_insert rs)

    few : (table genid : ℕ) → times genid (gone table (map (Insert place) rows)) + times genid (gone table done) ≤ 1
    few table genid =
        let none = inserts_take place table genid rows in
        let one = at_most_once genid (gone table done) (live.once table) in
        omega (arith, none, one)

one_update : (versions : List (List Version)) (place : ℕ) (s : Seen) (o : Option (List Value)) (later : List RowOp) → IsThereSeen versions place s → AllByRecursion (IsThereOp versions) later
    → AllByRecursion (IsThereOp versions) (cons_option (option_map (Update place s.source s.row) o) later)
one_update versions place s None later is all = all
one_update versions place s (Some row) later is all = (is, all)

updates_there : (versions : List (List Version)) (place : ℕ) (assigns : List BoundAssign) (rows : List Seen) → AllByRecursion (IsThereSeen versions place) rows
    → AllByRecursion (IsThereOp versions) (filter_map (updating place assigns) rows)
updates_there versions place assigns [] all = tt
updates_there versions place assigns (s ∷ rows) all =
    one_update versions place s (set_row assigns s.row) (filter_map (updating place assigns) rows) all.0 (updates_there versions place assigns rows all.1)

deletes_there : (versions : List (List Version)) (place : ℕ) (rows : List Seen) → AllByRecursion (IsThereSeen versions place) rows → AllByRecursion (IsThereOp versions) (map (deleting place) rows)
deletes_there versions place [] all = tt
deletes_there versions place (s ∷ rows) all = (all.0, deletes_there versions place rows all.1)

module _ (versions : List (List Version)) (done : List RowOp) (distinct : AreDistinct versions) (live : AreLive versions done) (place : ℕ) (condition : Option Cond) where
  abbrev rows : List Seen
  rows = met_in versions done place condition

  updates_live : (assigns : List BoundAssign) → AreLiveWrites versions done (filter_map (updating place assigns) rows)
  updates_live assigns = record { there = updates_there versions place assigns rows (met_there versions done place condition); few = few }
    where
      few : (table genid : ℕ) → times genid (gone table (filter_map (updating place assigns) rows)) + times genid (gone table done) ≤ 1
      few table genid =
          let less = updates_take place table genid assigns rows in
          let all = met_once versions done condition place table genid distinct (live.once table) in
          omega (arith, less, all)

  deletes_live : AreLiveWrites versions done (map (deleting place) rows)
  deletes_live = record { there = deletes_there versions place rows (met_there versions done place condition); few = few }
    where
      few : (table genid : ℕ) → times genid (gone table (map (deleting place) rows)) + times genid (gone table done) ≤ 1
      few table genid =
          let less = deletes_take place table genid rows in
          let all = met_once versions done condition place table genid distinct (live.once table) in
          omega (arith, less, all)

none_live : (versions : List (List Version)) (done : List RowOp) → AreLive versions done → AreLiveWrites versions done []
none_live versions done live = record { there = tt; few = few }
  where
    few : (table genid : ℕ) → 0 + times genid (gone table done) ≤ 1
    few table genid = let one = at_most_once genid (gone table done) (live.once table) in omega (arith, one)

writes_live : (versions : List (List Version)) (done : List RowOp) (s : BoundStatement) → AreDistinct versions → AreLive versions done → AreLiveWrites versions done (writes_of versions done s)
writes_live versions done BeginIt distinct live = none_live versions done live
writes_live versions done CommitIt distinct live = none_live versions done live
writes_live versions done RollbackIt distinct live = none_live versions done live
writes_live versions done (SetIt level) distinct live = none_live versions done live
writes_live versions done (InsertInto place rows) distinct live = inserts_live versions done place rows live
writes_live versions done (UpdateOf place assigns condition) distinct live = updates_live versions done distinct live place condition assigns
writes_live versions done (DeleteFrom place condition) distinct live = deletes_live versions done distinct live place condition
writes_live versions done (SelectOf query) distinct live = none_live versions done live

-- ---- texts

pub text_leaves_live : TextLeavesLive
text_leaves_live tables versions done text distinct live =
    text_leaves (AreLive versions) tables versions done text live (λ s means within. net_live versions done (writes_of versions done s) live (writes_live versions done s distinct live))

pub texts_leave_live : TextsLeaveLive
texts_leave_live tables versions done [] distinct live = live
texts_leave_live tables versions done (text ∷ texts) distinct live =
    texts_leave_live tables versions (sql_language.answer tables versions done text).ops texts distinct (text_leaves_live tables versions done text distinct live)

pub transaction_leaves_live : TransactionLeavesLive
transaction_leaves_live tables versions texts distinct =
    texts_leave_live tables versions [] texts distinct (record { there = λ table. tt; once = λ table. tt })
