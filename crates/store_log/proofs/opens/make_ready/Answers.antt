use Rattle.std.proofs.Common.{◌≡◌, ℕ, List, sym, subst}
use Rattle.cdb_outside.proofs.StopLemmas.{on_err}
use Rattle.store_log.specs.Opens.{IsOpened, StandsAlike}
use Rattle.store_log.specs.Walks.{IsFound}
use Rattle.store_log.proofs.MendLemmas.{same_alike}
use Rattle.store_log.proofs.opens.make_ready.Goals as goal

pub mend-requires-clause-found : goal.mend-requires-clause-found
mend-requires-clause-found g c =
    subst (λ (l : List ℕ). IsFound c.in_ok-found.found c.args.node c.args.cluster l) (sym c.in_ok-found.ensures.synced) c.in_ok-found.ensures.found

pub returns-clause-opened : goal.returns-clause-opened
returns-clause-opened g c =
    subst (λ (l : List ℕ). IsOpened c.args.node c.args.cluster l (g.D.LogStore.synced c.mend.new.store)) c.in_ok-found.ensures.synced
    c.in_ok-mend.ensures.opened

pub returns-in_err-found-clause-alike : goal.returns-in_err-found-clause-alike
returns-in_err-found-clause-alike g c =
    on_err _ (same_alike c.args.node c.args.cluster (g.D.LogStore.synced c.args.store.now) (g.D.LogStore.synced c.read_log.new.store)
    c.in_err-found.ensures.synced)

pub returns-in_err-mend-clause-alike : goal.returns-in_err-mend-clause-alike
returns-in_err-mend-clause-alike g c =
    on_err _ (subst (λ (l : List ℕ). StandsAlike c.args.node c.args.cluster l (g.D.LogStore.synced c.mend.new.store))
    c.in_ok-found.ensures.synced c.in_err-mend.ensures.alike)
