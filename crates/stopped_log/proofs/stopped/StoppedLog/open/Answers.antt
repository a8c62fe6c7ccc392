use Rattle.std.proofs.Common.{refl, subst, ap, ◌∙◌, List}
use Rattle.node_log.specs.Logged.{Logged}
use Rattle.node_log.specs.Same.{IsOneOf}
use Rattle.stopped_log.specs.Stopped.{Excuses, HoldsOne, Stopped}
use Rattle.store_log.specs.declared.standings.Standing.TheVariants.{Log}
use Rattle.store_log.specs.Held.{StandsFor}
use Rattle.store_log.specs.Opens.{IsLater, IsOpenFault, StandsAlike}
use Rattle.stopped_log.proofs.StoppedLemmas.{alike_is, excused, found_one, holds_still, later_is, refused_is}
use Rattle.stopped_log.proofs.stopped.StoppedLog.open.Goals as goal

pub returns-in-Ok-clause-found : goal.returns-in-Ok-clause-found
returns-in-Ok-clause-found g c =
    subst (λ s. (logs : List Logged) → HoldsOne s logs → ∥ IsOneOf c.in-Ok.log logs ∥₁) c.self.view_is
    (found_one _ c.in-Ok.log (record { node = c.fits.ensures.node; cluster = c.fits.ensures.cluster }) (record { node = c.in-Ok.ensures.node; cluster = c.in-Ok.ensures.cluster }) c.in-Ok.ensures.stands)

pub returns-in-Err-clause-still : goal.returns-in-Err-clause-still
returns-in-Err-clause-still g c =
    subst (λ s. (logs : List Logged) → HoldsOne s logs → HoldsOne c.still.result.log logs) c.self.view_is
    (holds_still _ c.still.result.log _ c.still.ensures.log refl refl c.in-Err.ensures.alike)

pub returns-in-Err-clause-why : goal.returns-in-Err-clause-why
returns-in-Err-clause-why g c =
    subst (λ s. (logs : List Logged) → HoldsOne s logs → Excuses c.still.result.why s.faults c.still.result.log.faults) c.self.view_is
    (excused c.in-Err.unopened.why c.still.result.why _ c.still.result.log _ c.still.ensures.log c.still.ensures.why (record { node = c.fits.ensures.node; cluster = c.fits.ensures.cluster }) c.in-Err.ensures.why c.in-Err.ensures.later)

pub returns-in-Err-clause-same_node : goal.returns-in-Err-clause-same_node
returns-in-Err-clause-same_node g c = ap (λ (s : Stopped). s.node) c.still.ensures.log ∙ ap (λ (s : Stopped). s.node) c.self.view_is

pub returns-in-Err-clause-same_cluster : goal.returns-in-Err-clause-same_cluster
returns-in-Err-clause-same_cluster g c = ap (λ (s : Stopped). s.cluster) c.still.ensures.log ∙ ap (λ (s : Stopped). s.cluster) c.self.view_is

pub returns-in-Ok-clause-stood : goal.returns-in-Ok-clause-stood
returns-in-Ok-clause-stood g c =
    subst (λ (s : Stopped). StandsFor s.node s.cluster s.synced (Log c.in-Ok.log.promised c.in-Ok.log.accepted c.in-Ok.log.entries)) c.self.view_is
    c.in-Ok.ensures.stands

pub returns-in-Err-clause-refused : goal.returns-in-Err-clause-refused
returns-in-Err-clause-refused g c =
    subst (λ (s : Stopped). IsOpenFault c.still.result.why s.node s.cluster s.synced s.faults c.still.result.log.faults) c.self.view_is
    (refused_is c.in-Err.unopened.why c.still.result.why _ _ _ _ c.still.result.log _ c.still.ensures.log c.still.ensures.why c.in-Err.ensures.why)

pub returns-in-Err-clause-later : goal.returns-in-Err-clause-later
returns-in-Err-clause-later g c =
    subst (λ (s : Stopped). IsLater c.still.result.why s.faults c.still.result.log.faults) c.self.view_is
    (later_is c.in-Err.unopened.why c.still.result.why _ c.still.result.log _ c.still.ensures.log c.still.ensures.why c.in-Err.ensures.later)

pub returns-in-Err-clause-alike : goal.returns-in-Err-clause-alike
returns-in-Err-clause-alike g c =
    subst (λ (s : Stopped). StandsAlike s.node s.cluster s.synced c.still.result.log.synced) c.self.view_is
    (alike_is _ _ _ c.still.result.log _ c.still.ensures.log c.in-Err.ensures.alike)
