use Rattle.std.proofs.Common.{◌∙◌}
use Rattle.undo_snapshot.proofs.KeptLemmas.{further_load}
use Rattle.undo_snapshot.proofs.fronts.FrontPagesPageSource.load.Goals as goal

pub invariant_of-self : goal.invariant_of-self
invariant_of-self g c = (
  c.load.ensures.front ∙ c.self.invariant.0,
  further_load c.load.result g.F.Front.front (g.G.Granter.front c.self.inside.pages.granter) g.F.Front.kept c.self.inside.pages.kept c.load.new.self.kept c.args.id
      c.self.invariant.0 c.self.invariant.1 c.load.ensures.kept c.load.ensures.unchanged,
)
