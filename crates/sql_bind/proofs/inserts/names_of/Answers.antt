use Rattle.std.proofs.Common.{◌∷◌, ◌++◌, map, refl, ap}
use Rattle.sql_grammar.specs.Views.{name_in}
use Rattle.sql_bind.proofs.ListLemmas.{no_more, one_more, seen_too}
use Rattle.sql_bind.proofs.inserts.names_of.Goals as goal

pub names-init : goal.names-init
names-init c = ap (λ ws. map (λ n. n.now) ws ++ map name_in c.args.names.now) c.new-found.ensures.items

pub names-preserved : goal.names-preserved
names-preserved c =
    one_more (λ ys. map name_in ys) (map (λ n. n.now) c.names.found.items) (map (λ n. n.now) c.push.new.self.items) (map name_in c.args.names.now) c.as_bytes.result.now c.args.names.now c.names.name-index c.name-item.result c.names-test.true c.name-item.is
    (seen_too (λ n. n.now) c.names.found.items c.push.new.self.items c.as_bytes.result c.in_ok-push.ensures.items) (λ ys. ap (λ n. n ∷ map name_in ys) c.as_bytes.ensures) c.names.invariant

pub returns : goal.returns
returns c = no_more (λ ys. map name_in ys) (map (λ n. n.now) c.names.found.items) (map name_in c.args.names.now) c.args.names.now c.names.name-index refl c.names-test.false c.names.invariant
