use Rattle.std.proofs.Common.{ℕ, List, ◌+◌, subst, refl}
use Rattle.cdb_values.specs.declared.rows.Version.{Version}
use Rattle.table_state.specs.Listed.{IsCellOf}
use Rattle.table_state.proofs.AmongLaws.{empty_is}
use Rattle.table_state.proofs.ListedLaws.{read_none, read_to, read_from, read_ends}
use Rattle.table_state.proofs.rows.read_versions.Goals as goal

pub returns-in_default-2 : goal.returns-in_default-2
returns-in_default-2 c =
    let none : (v : Version) → IsCellOf c.args.table.now c.reading.least c.args.next c.as_slice.result.now v → ⊥ = rw c.in_default-2.is at c.in_ok-version.ensures in
    read_none c.args.table.now c.reading.least c.args.next c.in-Some.cell.now c.reading.rest.now c.in-Some.after.now c.args.cells.now c.reading.versions.items
    c.in-Some.ensures.cases.0 (subst (λ (x : List ℕ). (v : Version) → IsCellOf c.args.table.now c.reading.least c.args.next x v → ⊥) c.as_slice.ensures none)
    c.reading.invariant.from

pub reading-preserved : goal.reading-preserved
reading-preserved c =
    let read : IsCellOf c.args.table.now c.reading.least c.args.next c.as_slice.result.now c.in-Some-2.version = rw c.in-Some-2.is at c.in_ok-version.ensures in
    let here : IsCellOf c.args.table.now c.reading.least c.args.next c.in-Some.cell.now c.in-Some-2.version =
    subst (λ (x : List ℕ). IsCellOf c.args.table.now c.reading.least c.args.next x c.in-Some-2.version) c.as_slice.ensures read in
    record {
      to = read_to c.args.table.now c.reading.least (c.in-Some-2.version.genid + 1) c.args.next c.in-Some.cell.now c.reading.rest.now c.in-Some.after.now c.args.cells.now c.reading.versions.items
          c.push.new.self.items c.in-Some-2.version c.in-Some.ensures.cases.0 refl c.in_ok-push.ensures.items here c.reading.invariant.to;
      from = read_from c.args.table.now c.reading.least (c.in-Some-2.version.genid + 1) c.args.next c.in-Some.cell.now c.reading.rest.now c.in-Some.after.now c.args.cells.now c.reading.versions.items
          c.push.new.self.items c.in-Some-2.version c.requires c.in-Some.ensures.cases.0 refl c.in_ok-push.ensures.items here c.reading.invariant.from;
    }

pub returns : goal.returns
returns c =
    read_ends c.args.table.now c.reading.least c.args.next c.reading.rest.now c.args.cells.now c.reading.versions.items (empty_is c.reading.rest.now c.in_default.ensures.cases) c.reading.invariant.to
