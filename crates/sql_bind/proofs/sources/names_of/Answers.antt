use Rattle.std.proofs.Common.{◌++◌, map, refl, ap}
use Rattle.sql_bind.specs.Seen.{visible_in}
use Rattle.sql_bind.proofs.ListLemmas.{no_more, one_more, seen_too}
use Rattle.sql_bind.proofs.sources.names_of.Goals as goal

pub tables-init : goal.tables-init
tables-init c = ap (λ ws. map (λ n. n.now) ws ++ map (λ v. v.name) (map visible_in c.args.tables.now)) c.new-names.ensures.items

pub tables-preserved : goal.tables-preserved
tables-preserved c =
    one_more (λ ys. map (λ v. v.name) (map visible_in ys)) (map (λ n. n.now) c.tables.names.items) (map (λ n. n.now) c.push.new.self.items) (map (λ v. v.name) (map visible_in c.args.tables.now)) c.table-item.result.name.now c.args.tables.now c.tables.table-index c.table-item.result c.tables-test.true c.table-item.is
    (seen_too (λ n. n.now) c.tables.names.items c.push.new.self.items c.table-item.result.name c.in_ok-push.ensures.items) (λ ys. refl) c.tables.invariant

pub returns : goal.returns
returns c = no_more (λ ys. map (λ v. v.name) (map visible_in ys)) (map (λ n. n.now) c.tables.names.items) (map (λ v. v.name) (map visible_in c.args.tables.now)) c.args.tables.now c.tables.table-index refl c.tables-test.false c.tables.invariant
