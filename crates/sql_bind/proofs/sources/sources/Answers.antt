use Rattle.std.proofs.Common.{◌∷◌, ◌++◌, ◌||◌, map, refl, ap}
use Rattle.std.specs.List.{list_any}
use Rattle.sql_grammar.specs.Views.{source_in}
use Rattle.sql_bind.specs.Scope.{is_unknown_table, visible}
use Rattle.sql_bind.specs.Seen.{visible_in}
use Rattle.sql_bind.proofs.ListLemmas.{one_more, seen_too, any_goes_on}
use Rattle.sql_bind.proofs.sources.sources.Goals as goal

pub tables-init : goal.tables-init
tables-init c = (ap (λ ws. map visible_in ws ++ map (visible c.args.schema.now) (map source_in c.args.tables.now)) c.new-found.ensures.items, refl)

pub tables-preserved : goal.tables-preserved
tables-preserved c = (
  one_more (λ ys. map (visible c.args.schema.now) (map source_in ys)) (map visible_in c.tables.found.items) (map visible_in c.push.new.self.items) (map (visible c.args.schema.now) (map source_in c.args.tables.now)) (visible_in c.in_ok-table.table) c.args.tables.now c.tables.table-index c.table-item.result c.tables-test.true c.table-item.is
      (seen_too visible_in c.tables.found.items c.push.new.self.items c.in_ok-table.table c.in_ok-push.ensures.items) (λ ys. ap (λ v. v ∷ map (visible c.args.schema.now) (map source_in ys)) c.in_ok-table.ensures.found) c.tables.invariant.0,
  any_goes_on (λ ys. list_any (is_unknown_table c.args.schema.now) (map (λ s. s.table) (map source_in ys))) (list_any (is_unknown_table c.args.schema.now) (map (λ s. s.table) (map source_in c.args.tables.now))) c.args.tables.now c.tables.table-index c.table-item.result c.tables-test.true c.table-item.is
      (λ ys. ap (λ b. b || list_any (is_unknown_table c.args.schema.now) (map (λ s. s.table) (map source_in ys))) c.in_ok-table.ensures.known) c.tables.invariant.1,
)
