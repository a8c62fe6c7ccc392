use Rattle.std.proofs.Common.{◌≡◌, ℕ, ◌<◌, ◌^◌, IfErr, ◌∙◌, subst, arith}
use Rattle.std.proofs.lemmas.Result.{IfOk-weaker, IfErr-weaker}
use Rattle.node_opening.specs.Left.{IsLeft}
use Rattle.node_opening.specs.Stands.{IsUpFrom}
use Rattle.node_opening.specs.Up.{IsTakenUp}
use Rattle.node_opening.specs.Why.{IsWhy, IsDown, IsLater, TellsLength}
use Rattle.node_opening.proofs.UpLemmas.{taken_up, why_of_down, why_of_fault, left_of_down, left_of_fault, later_of_fault, length_of_down, length_of_fault}
use Rattle.node_opening.proofs.up.open_node.Goals as goal

pub returns-in-Ok-clause-up : goal.returns-in-Ok-clause-up
returns-in-Ok-clause-up g c =
    let old = g.D.LogStore.synced c.args.store in
    let told = c.in-Ok.ensures in
    IfOk-weaker c.take_up.result (λ u. IsUpFrom c.in-Ok.log c.args.schema.now u.base u.log)
    (λ u. IsTakenUp c.args.node c.args.cluster old c.args.schema.now u.base u.log)
    (λ u h. taken_up c.args.node c.args.cluster old (g.D.LogStore.faults c.args.store) c.args.schema.now c.in-Ok.log u.base u.log
    (record { stands = told.stands; opened = told.opened; node_is = told.node; cluster_is = told.cluster; calm = told.calm }) h)
    c.take_up.ensures.up

pub returns-in-Ok-clause-why : goal.returns-in-Ok-clause-why
returns-in-Ok-clause-why g c =
    let old = g.D.LogStore.synced c.args.store in
    let before = g.D.LogStore.faults c.args.store in
    let told = c.in-Ok.ensures in
    IfErr-weaker c.take_up.result
    (λ n. IsDown n.why c.in-Ok.log c.args.schema.now (g.D.LogStore.synced n.store) (g.D.LogStore.faults n.store))
    (λ n. IsWhy n.why c.args.node c.args.cluster old c.args.schema.now before (g.D.LogStore.faults n.store))
    (λ n h. why_of_down n.why c.args.node c.args.cluster old before c.in-Ok.log c.args.schema.now (g.D.LogStore.synced n.store)
    (g.D.LogStore.faults n.store)
    (record { stands = told.stands; opened = told.opened; node_is = told.node; cluster_is = told.cluster; calm = told.calm }) h)
    c.take_up.ensures.why

pub returns-in-Ok-clause-left : goal.returns-in-Ok-clause-left
returns-in-Ok-clause-left g c =
    let old = g.D.LogStore.synced c.args.store in
    let before = g.D.LogStore.faults c.args.store in
    let told = c.in-Ok.ensures in
    let node : c.args.node < 256 = omega (arith, c.ranges.node.fits) in
    let cluster : c.args.cluster < 2 ^ 128 = omega (arith, c.ranges.cluster.fits) in
    IfErr-weaker c.take_up.result
    (λ n. IsDown n.why c.in-Ok.log c.args.schema.now (g.D.LogStore.synced n.store) (g.D.LogStore.faults n.store))
    (λ n. IsLeft n.why c.args.node c.args.cluster old (g.D.LogStore.synced n.store) c.args.schema.now)
    (λ n h. left_of_down n.why c.args.node c.args.cluster old before c.in-Ok.log c.args.schema.now (g.D.LogStore.synced n.store)
    (g.D.LogStore.faults n.store) node cluster
    (record { stands = told.stands; opened = told.opened; node_is = told.node; cluster_is = told.cluster; calm = told.calm }) h)
    c.take_up.ensures.why

pub returns-in-Ok-clause-calm : goal.returns-in-Ok-clause-calm
returns-in-Ok-clause-calm g c =
    IfOk-weaker c.take_up.result (λ u. IsUpFrom c.in-Ok.log c.args.schema.now u.base u.log)
    (λ u. u.log.store.faults ≡ g.D.LogStore.faults c.args.store)
    (λ u h. h.calm ∙ c.in-Ok.ensures.calm)
    c.take_up.ensures.up

pub returns-in-Ok-clause-later : goal.returns-in-Ok-clause-later
returns-in-Ok-clause-later g c =
    subst (λ (before : ℕ). IfErr c.take_up.result (λ n. IsLater n.why before (g.D.LogStore.faults n.store))) c.in-Ok.ensures.calm
    c.take_up.ensures.later

pub returns-in-Ok-clause-length : goal.returns-in-Ok-clause-length
returns-in-Ok-clause-length g c =
    let old = g.D.LogStore.synced c.args.store in
    let before = g.D.LogStore.faults c.args.store in
    let wrote = g.D.LogStore.writes c.args.store in
    let told = c.in-Ok.ensures in
    IfErr-weaker c.take_up.result
    (λ n. IsDown n.why c.in-Ok.log c.args.schema.now (g.D.LogStore.synced n.store) (g.D.LogStore.faults n.store))
    (λ n. TellsLength n.why c.args.node c.args.cluster old c.args.schema.now wrote (g.D.LogStore.writes n.store))
    (λ n h. length_of_down n.why c.args.node c.args.cluster old before c.in-Ok.log c.args.schema.now (g.D.LogStore.synced n.store)
    (g.D.LogStore.faults n.store) wrote (g.D.LogStore.writes n.store)
    (record { stands = told.stands; opened = told.opened; node_is = told.node; cluster_is = told.cluster; calm = told.calm }) h)
    c.take_up.ensures.why

pub returns-in-Err-clause-length : goal.returns-in-Err-clause-length
returns-in-Err-clause-length g c =
    length_of_fault c.why_unopened.result c.in-Err.unopened.why c.args.node c.args.cluster (g.D.LogStore.synced c.args.store) c.args.schema.now
    (g.D.LogStore.writes c.args.store) (g.D.LogStore.writes c.in-Err.unopened.store) c.why_unopened.ensures c.in-Err.ensures.read

pub returns-in-Err-clause-why : goal.returns-in-Err-clause-why
returns-in-Err-clause-why g c =
    why_of_fault c.why_unopened.result c.in-Err.unopened.why c.args.node c.args.cluster (g.D.LogStore.synced c.args.store) c.args.schema.now
    (g.D.LogStore.faults c.args.store) (g.D.LogStore.faults c.in-Err.unopened.store) c.why_unopened.ensures c.in-Err.ensures.why

pub returns-in-Err-clause-left : goal.returns-in-Err-clause-left
returns-in-Err-clause-left g c =
    left_of_fault c.why_unopened.result c.in-Err.unopened.why c.args.node c.args.cluster (g.D.LogStore.synced c.args.store)
    (g.D.LogStore.synced c.in-Err.unopened.store) c.args.schema.now c.why_unopened.ensures c.in-Err.ensures.alike

pub returns-in-Err-clause-later : goal.returns-in-Err-clause-later
returns-in-Err-clause-later g c =
    later_of_fault c.why_unopened.result c.in-Err.unopened.why (g.D.LogStore.faults c.args.store) (g.D.LogStore.faults c.in-Err.unopened.store)
    c.why_unopened.ensures c.in-Err.ensures.later
