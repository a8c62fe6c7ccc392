use Rattle.std.proofs.Common.{ℕ, List, sym, ◌∙◌, subst}
use Rattle.std.proofs.lemmas.Bool.{false≢true}
use Rattle.cdb_values.specs.declared.rows.Version.{Version}
use Rattle.cdb_values.specs.declared.tables.KeyDef.{KeyDef}
use Rattle.table_store.specs.States.{Rise}
use Rattle.table_state.specs.Grown.{lists_of}
use Rattle.table_state.specs.Listed.{AreCellsOf, AreKeyLists}
use Rattle.table_state.proofs.TableLaws.{fitting_rise, table_unlisted}
use Rattle.table_state.proofs.tables.read_table.Goals as goal

pub are_key_lists-requires-clause-rise : goal.are_key_lists-requires-clause-rise
are_key_lists-requires-clause-rise c =
    let read : AreCellsOf c.args.table.now 0 c.args.next c.as_slice.result.now c.in-Some.versions.items = rw c.in-Some.is at c.in_ok-versions.ensures in
    subst (λ (l : List Version). Rise l c.args.next) (sym c.as_slice-3.ensures.value) (fitting_rise c.args.table.now 0 c.args.next c.in-Some.versions.items read.fitting)

pub returns-then-not-listed : goal.returns-then-not-listed
returns-then-not-listed c =
    let read : AreCellsOf c.args.table.now 0 c.args.next c.as_slice.result.now c.in-Some.versions.items = rw c.in-Some.is at c.in_ok-versions.ensures in
    let none : AreKeyLists c.as_slice-2.result.now c.as_slice-3.result.now (lists_of c.args.keys.now) → ⊥ = λ k. false≢true (sym c.if-not-listed.true ∙ c.in_ok-listed.ensures.1 k) in
    table_unlisted c.args.table.now c.args.next c.args.rows.now.cells.items (lists_of c.args.keys.now) c.in-Some.versions.items c.requires.next
    (subst (λ (l : List (List ℕ)). AreCellsOf c.args.table.now 0 c.args.next l c.in-Some.versions.items) c.as_slice.ensures.value read)
    (subst (λ (l : List Version). AreKeyLists c.args.table.now.keys l (lists_of c.args.keys.now) → ⊥) c.as_slice-3.ensures.value
    (subst (λ (l : List KeyDef). AreKeyLists l c.as_slice-3.result.now (lists_of c.args.keys.now) → ⊥) c.as_slice-2.ensures none))
