use Rattle.std.proofs.Common.{[], ◌∷◌, ◌++◌, map, refl, ap, ◌∙◌}
use Rattle.sql_grammar.specs.Views.{name_in}
use Rattle.sql_bind.specs.Faults.{own_column}
use Rattle.sql_bind.specs.Scope.{kind_meant}
use Rattle.sql_bind.specs.Seen.{visible_in}
use Rattle.sql_bind.proofs.ListLemmas.{no_more, one_more}
use Rattle.sql_bind.proofs.inserts.kinds_of_names.Goals as goal

pub names-init : goal.names-init
names-init c = ap (λ ws. ws ++ map (λ name. kind_meant (visible_in c.args.table.now ∷ []) (own_column name)) (map name_in c.args.names.now)) c.new-kinds.ensures.items

pub names-preserved : goal.names-preserved
names-preserved c =
    one_more (λ ys. map (λ name. kind_meant (visible_in c.args.table.now ∷ []) (own_column name)) (map name_in ys)) c.names.kinds.items c.push.new.self.items (map (λ name. kind_meant (visible_in c.args.table.now ∷ []) (own_column name)) (map name_in c.args.names.now)) c.kind_of.result c.args.names.now c.names.name-index c.name-item.result c.names-test.true c.name-item.is
    c.in_ok-push.ensures.items (λ ys. ap (λ k. k ∷ map (λ name. kind_meant (visible_in c.args.table.now ∷ []) (own_column name)) (map name_in ys)) (c.kind_of.ensures ∙ ap (λ n. kind_meant (visible_in c.args.table.now ∷ []) (own_column n)) c.as_bytes.ensures)) c.names.invariant

pub returns : goal.returns
returns c = no_more (λ ys. map (λ name. kind_meant (visible_in c.args.table.now ∷ []) (own_column name)) (map name_in ys)) c.names.kinds.items (map (λ name. kind_meant (visible_in c.args.table.now ∷ []) (own_column name)) (map name_in c.args.names.now)) c.args.names.now c.names.name-index refl c.names-test.false c.names.invariant
