use Rattle.std.proofs.Common.{◌≡◌, ◌≤◌, ◌<◌, length, arith, Some, refl, sym, ap, subst, ◌∙◌}
use Rattle.std.proofs.lemmas.Option.{slice_get-get_or}
use Rattle.std.specs.Prelude.{slice_get}
use Rattle.phys_log.specs.declared.requests.Decision.{Decision}
use Rattle.node_commits.specs.Ledgers.{Book, IsTold, IsUntold}
use Rattle.node_commits.proofs.LedgerLaws.{told_at, untold, within}
use Rattle.node_commits.proofs.ledgers.Ledger.told_of.Goals as goal

pub returns-in_default-clause-none : goal.returns-in_default-clause-none
returns-in_default-clause-none c = λ none.
    subst (λ t. IsUntold t c.args.id.now) (ap (λ (b : Book). b.told) c.self.view_is) (untold c.self.inside.settled c.self.inside.decisions.items c.args.id.now (c.in_default.ensures.none.0 refl))

pub unreachable-requires : goal.unreachable-requires
unreachable-requires c =
    let w : c.in-Some.number < length c.self.inside.decisions.items = within c.self.inside.settled c.self.inside.decisions.items c.args.id.now c.in-Some.number c.self.invariant ((c.in-Some.ensures.found c.in-Some.number).0 refl) in
    let p : length c.as_slice.result.now ≤ c.in-Some.number = c.in-None.ensures.lookup.3 in
    let s : length c.as_slice.result.now ≡ length c.self.inside.decisions.items = ap length c.as_slice.ensures.value in
    omega arith

pub returns-clause-some : goal.returns-clause-some
returns-clause-some c =
    let got : slice_get c.self.inside.decisions.items c.in-Some.number ≡ Some c.in_ok-told-in-Some-get.told =
    ap (λ ds. slice_get ds c.in-Some.number) (sym c.as_slice.ensures.value)
    ∙ (slice_get-get_or c.as_slice.result.now c.in-Some.number c.in-Some-get.decision.now c.in-Some-get.ensures.lookup.3.0 ∙ ap (λ (d : Decision). Some d) (sym (c.in_ok-told-in-Some-get.ensures ∙ c.in-Some-get.ensures.lookup.1))) in
    subst (λ t. IsTold t c.args.id.now c.in_ok-told-in-Some-get.told) (ap (λ (b : Book). b.told) c.self.view_is)
    (told_at c.self.inside.settled c.self.inside.decisions.items c.args.id.now c.in-Some.number c.in_ok-told-in-Some-get.told c.self.invariant ((c.in-Some.ensures.found c.in-Some.number).0 refl) got)
