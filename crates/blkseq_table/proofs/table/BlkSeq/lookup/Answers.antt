use Rattle.std.proofs.Common.{◌≡◌, ◌↔◌, ◌∙◌, List, Some, refl, subst}
use Rattle.std.specs.Option.{IsNone}
use Rattle.blkseq_table.specs.Known.{Known, StandsAt, IsAbsent}
use Rattle.blkseq_table.proofs.KeyLemmas.{none_stands}
use Rattle.blkseq_table.proofs.LookupLemmas.{found_is, none_is, absent_found, absent_none}
use Rattle.blkseq_table.proofs.table.BlkSeq.lookup.Goals as goal

pub returns-in_err-key-clause-found : goal.returns-in_err-key-clause-found
returns-in_err-key-clause-found c =
    λ position. absent_found c.args.self.now c.args.id.now c.from_residual.result position c.from_residual.ensures
    (subst (λ (known : List Known). IsAbsent known c.args.id.now) c.self.view_is
    (none_stands c.self.inside.sessions.keys c.args.id.now c.self.inside.map.entries (c.in_err-key.ensures.none refl) c.self.invariant.numbered))

pub returns-in_err-key-clause-none : goal.returns-in_err-key-clause-none
returns-in_err-key-clause-none c =
    absent_none c.args.self.now c.args.id.now c.from_residual.result c.from_residual.ensures
    (subst (λ (known : List Known). IsAbsent known c.args.id.now) c.self.view_is
    (none_stands c.self.inside.sessions.keys c.args.id.now c.self.inside.map.entries (c.in_err-key.ensures.none refl) c.self.invariant.numbered))

pub returns-clause-found : goal.returns-clause-found
returns-clause-found c =
    λ position. subst (λ (known : List Known). (c.copied.result ≡ Some position) ↔ StandsAt known c.args.id.now position) c.self.view_is
    (found_is c.self.inside.sessions.keys c.in_ok-key.key c.args.id.now c.self.inside.map.entries c.copied.result position
    (c.copied.ensures ∙ c.get.ensures.value) c.self.invariant c.in_ok-key.ensures.named)

pub returns-clause-none : goal.returns-clause-none
returns-clause-none c =
    subst (λ (known : List Known). IsNone c.copied.result ↔ IsAbsent known c.args.id.now) c.self.view_is
    (none_is c.self.inside.sessions.keys c.in_ok-key.key c.args.id.now c.self.inside.map.entries c.copied.result
    (c.copied.ensures ∙ c.get.ensures.value) c.self.invariant c.in_ok-key.ensures.named)
