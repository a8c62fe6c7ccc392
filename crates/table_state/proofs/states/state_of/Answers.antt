use Rattle.std.proofs.Common.{ℕ, List, ◌≡◌, length, ap, ◌∙◌, subst}
use Rattle.std.specs.Result.{IfOk}
use Rattle.btree_index.proofs.FindLemmas.{ok_before}
use Rattle.cdb_values.specs.declared.tables.TableDef.{TableDef}
use Rattle.table_store.specs.Plans.{plan_from}
use Rattle.table_state.specs.Found.{HasForest, HasNoForest}
use Rattle.table_state.proofs.StateLaws.{TellsRows, state_unfound, state_answer}
use Rattle.table_state.proofs.states.state_of.Goals as goal

pub returns-in_default-clause-state : goal.returns-in_default-clause-state
returns-in_default-clause-state g c =
    let old = g.P.PageSource.pages c.args.pages.now in
    let ok = ok_before c.count_trees.result c.map_err.result _ c.in_ok-trees.trees c.map_err.ensures.cases c.in_ok-trees.was in
    let count : c.in_ok-trees.trees ≡ length (plan_from 0 c.tables.result.now) = rw ok at c.count_trees.ensures.count in
    let none : HasNoForest old c.in_ok-trees.trees = rw c.in_default.is at c.in_ok-found.ensures.found in
    state_unfound old c.args.schema.now (subst (λ (n : ℕ). HasNoForest old n) (count ∙ ap (λ (l : List TableDef). length (plan_from 0 l)) c.tables.ensures) none)

pub returns-clause-state : goal.returns-clause-state
returns-clause-state g c =
    let old = g.P.PageSource.pages c.args.pages.now in
    let ok = ok_before c.count_trees.result c.map_err.result _ c.in_ok-trees.trees c.map_err.ensures.cases c.in_ok-trees.was in
    let count : c.in_ok-trees.trees ≡ length (plan_from 0 c.tables.result.now) = rw ok at c.count_trees.ensures.count in
    let found : HasForest old c.in_ok-trees.trees c.in-Some.found = rw c.in-Some.is at c.in_ok-found.ensures.found in
    state_answer old c.args.schema.now c.in-Some.found c.read_found.result c.map_err-2.result _ c.pages_hold_one_forest.ensures.lists c.pages_that_stand_keep_their_keys.ensures.good
    (subst (λ (n : ℕ). HasForest old n c.in-Some.found) (count ∙ ap (λ (l : List TableDef). length (plan_from 0 l)) c.tables.ensures) found)
    c.map_err-2.ensures.cases
    (subst (λ (l : List TableDef). IfOk c.read_found.result (TellsRows c.in-Some.found l)) c.tables-2.ensures c.read_found.ensures)
