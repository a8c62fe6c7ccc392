use Rattle.std.proofs.Common.{◌≡◌, ℕ, List, length, subst, rules}
use Rattle.store_log.specs.declared.readings.First.TheVariants.{Ours, Foreign, Unbegun, Bad}
use Rattle.store_log.specs.Firsts.{IsFirst}
use Rattle.store_log.proofs.FindLemmas.{unbegun_found, foreign_told, bad_told}
use Rattle.store_log.proofs.finds.read_from.Goals as goal

pub read_behind-requires-clause-begun : goal.read_behind-requires-clause-begun
read_behind-requires-clause-begun g c =
    subst (λ (l : List ℕ). IsFirst Ours c.args.node c.args.cluster l) c.as_slice.ensures.value (rw c.in-Ours.is at c.in_ok-first_of.ensures.first)

pub returns-in-Foreign-clause-why : goal.returns-in-Foreign-clause-why
returns-in-Foreign-clause-why g c =
    foreign_told c.args.node c.args.cluster (g.D.LogStore.synced c.args.store.now) c.args.window.items (g.D.LogStore.faults c.args.store.now)
    (g.D.LogStore.faults c.args.store.now) c.requires.front c.requires.whole
    (subst (λ (l : List ℕ). IsFirst Foreign c.args.node c.args.cluster l) c.as_slice.ensures.value
    (rw c.in-Foreign.is at c.in_ok-first_of.ensures.first))

pub returns-in-Bad-clause-why : goal.returns-in-Bad-clause-why
returns-in-Bad-clause-why g c =
    bad_told c.args.node c.args.cluster (g.D.LogStore.synced c.args.store.now) c.args.window.items (g.D.LogStore.faults c.args.store.now)
    (g.D.LogStore.faults c.args.store.now) c.requires.front c.requires.whole
    (subst (λ (l : List ℕ). IsFirst Bad c.args.node c.args.cluster l) c.as_slice.ensures.value
    (rw c.in-Bad.is at c.in_ok-first_of.ensures.first))

pub returns-in-Unbegun-clause-found : goal.returns-in-Unbegun-clause-found
returns-in-Unbegun-clause-found g c =
    let end : c.unbegun.result.end ≡ length c.args.window.items = search rules in
    unbegun_found c.unbegun.result c.args.node c.args.cluster (g.D.LogStore.synced c.args.store.now) c.args.window.items c.requires.front
    c.requires.whole
    (subst (λ (l : List ℕ). IsFirst Unbegun c.args.node c.args.cluster l) c.as_slice.ensures.value
    (rw c.in-Unbegun.is at c.in_ok-first_of.ensures.first))
    c.unbegun.ensures.promised c.unbegun.ensures.accepted c.unbegun.ensures.entries c.unbegun.ensures.closed end
