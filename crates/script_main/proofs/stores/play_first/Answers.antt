use Rattle.std.proofs.Common.{◌≤◌, subst, ℕ}
use Rattle.script_main.proofs.FirstLemmas.{first_cut}
use Rattle.script_main.proofs.stores.play_first.Goals as goal

pub returns-clause-left : goal.returns-clause-left
returns-clause-left g c =
    first_cut g.D.LogStore.synced g.D.LogStore.pending g.D.LogStore.faults g.D.LogStore.writes c.args.script.now c.args.stores.now.items c.remove-store.new.self.items
    c.put_first.new.stores.items c.remove-store.result c.play_over-store.result.store
    (subst (λ (n : ℕ). 1 ≤ n) c.args.stores.now.ok.0 c.requires.some)
    c.remove-store.ensures.value c.remove-store.ensures.items c.put_first.ensures c.play_over-store.ensures.left
