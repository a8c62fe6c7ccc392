use Rattle.std.proofs.Common.{◌∷◌, ◌++◌, map, refl, ap}
use Rattle.sql_grammar.specs.Views.{setting_in}
use Rattle.sql_bind.proofs.ListLemmas.{no_more, one_more, seen_too}
use Rattle.sql_bind.proofs.updates.columns_written.Goals as goal

pub assigns-init : goal.assigns-init
assigns-init c = ap (λ ws. map (λ n. n.now) ws ++ map (λ s. s.column) (map setting_in c.args.assigns.now)) c.new-found.ensures.items

pub assigns-preserved : goal.assigns-preserved
assigns-preserved c =
    one_more (λ ys. map (λ s. s.column) (map setting_in ys)) (map (λ n. n.now) c.assigns.found.items) (map (λ n. n.now) c.push.new.self.items) (map (λ s. s.column) (map setting_in c.args.assigns.now)) c.as_bytes.result.now c.args.assigns.now c.assigns.assign-index c.assign-item.result c.assigns-test.true c.assign-item.is
    (seen_too (λ n. n.now) c.assigns.found.items c.push.new.self.items c.as_bytes.result c.in_ok-push.ensures.items) (λ ys. ap (λ n. n ∷ map (λ s. s.column) (map setting_in ys)) c.as_bytes.ensures) c.assigns.invariant

pub returns : goal.returns
returns c = no_more (λ ys. map (λ s. s.column) (map setting_in ys)) (map (λ n. n.now) c.assigns.found.items) (map (λ s. s.column) (map setting_in c.args.assigns.now)) c.args.assigns.now c.assigns.assign-index refl c.assigns-test.false c.assigns.invariant
