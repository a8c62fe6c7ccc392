use Rattle.std.proofs.Common.{rules, ◌≡◌, ◌+◌, ◌-◌, ◌<◌, ◌++◌, ◌∷◌, [], length, refl, sym, subst, ap, ◌∙◌}
use Rattle.std.specs.Prelude.{Some}
use Rattle.std.proofs.lemmas.Option.{slice_get_read}
use Rattle.node_state.specs.Nodes.{held}
use Rattle.node_state.specs.Packets.{shipped_length}
use Rattle.node_state.proofs.CallLaws.{ok_five}
use Rattle.node_state.proofs.GenerationLaws.{taken_gen}
use Rattle.node_state.proofs.NumberLaws.{one_numbers}
use Rattle.node_state.proofs.TakeLaws.{place_within, one_follows, one_takes}
use Rattle.node_state.proofs.bodies.Body.take_one.Goals as goal

pub grows-requires-clause-follows : goal.grows-requires-clause-follows
grows-requires-clause-follows g c =
    let v = c.args.self.now.vote in
    let m = c.args.message.now in
    let es = c.args.entries.now in
    let raw = c.args.self.now.vote.length - c.saturating_sub-skipped.result in
    let skipped : c.saturating_sub-skipped.result ≡ shipped_length c.args.message.now - length c.args.entries.now = search rules in
    let place : c.args.self.now.vote.length - c.saturating_sub-skipped.result ≡ c.args.self.now.vote.length - (shipped_length c.args.message.now - length c.args.entries.now) = ap (λ k. c.args.self.now.vote.length - k) skipped in
    let lt : c.args.self.now.vote.length - (shipped_length c.args.message.now - length c.args.entries.now) < length c.args.entries.now = place_within v m es c.requires.continues c.requires.joins in
    let got = slice_get_read es (length es) raw c.index-entries-at.result refl (subst (λ k. k < length c.args.entries.now) (sym place) lt) c.index-entries-at.is ∙ ap Some (sym c.in_ok-entry.ensures) in
    one_follows g.J.Plan.setting (held c.args.self.now.vote c.args.self.now.log.entries c.args.self.now.actor) c.with_taken-vote.result (c.args.self.now.log.entries ++ c.in_ok-entry.entry ∷ []) raw c.in_ok-entry.entry m es c.generation_shipped-generation.result (c.args.self.now.vote.length + 1) c.requires.own c.requires.packet c.requires.continues c.requires.joins
    place got c.generation_shipped-generation.ensures refl refl c.with_taken-vote.ensures

pub grows-requires-clause-accepted : goal.grows-requires-clause-accepted
grows-requires-clause-accepted g c =
    let v = c.args.self.now.vote in
    let m = c.args.message.now in
    let es = c.args.entries.now in
    let raw = c.args.self.now.vote.length - c.saturating_sub-skipped.result in
    let skipped : c.saturating_sub-skipped.result ≡ shipped_length c.args.message.now - length c.args.entries.now = search rules in
    let place : c.args.self.now.vote.length - c.saturating_sub-skipped.result ≡ c.args.self.now.vote.length - (shipped_length c.args.message.now - length c.args.entries.now) = ap (λ k. c.args.self.now.vote.length - k) skipped in
    let lt : c.args.self.now.vote.length - (shipped_length c.args.message.now - length c.args.entries.now) < length c.args.entries.now = place_within v m es c.requires.continues c.requires.joins in
    let got = slice_get_read es (length es) raw c.index-entries-at.result refl (subst (λ k. k < length c.args.entries.now) (sym place) lt) c.index-entries-at.is ∙ ap Some (sym c.in_ok-entry.ensures) in
    let follows = one_follows g.J.Plan.setting (held c.args.self.now.vote c.args.self.now.log.entries c.args.self.now.actor) c.with_taken-vote.result (c.args.self.now.log.entries ++ c.in_ok-entry.entry ∷ []) raw c.in_ok-entry.entry m es c.generation_shipped-generation.result (c.args.self.now.vote.length + 1) c.requires.own c.requires.packet c.requires.continues c.requires.joins
    place got c.generation_shipped-generation.ensures refl refl c.with_taken-vote.ensures in
    taken_gen g.J.Plan.setting c.args.self.now.vote c.with_taken-vote.result c.args.self.now.log.entries c.in_ok-entry.entry c.args.self.now.actor.seen c.generation_shipped-generation.result (c.args.self.now.vote.length + 1) c.requires.own.node follows (c.requires.continues.accepted ∙ sym c.generation_shipped-generation.ensures)

pub grows-requires-clause-up : goal.grows-requires-clause-up
grows-requires-clause-up g c = c.requires.continues.up

pub grows-requires-clause-numbers : goal.grows-requires-clause-numbers
grows-requires-clause-numbers g c = one_numbers g.J.Plan.setting c.args.self.now.vote c.with_taken-vote.result c.args.self.now.log.entries c.args.self.now.actor.seen c.args.message.now c.generation_shipped-generation.result (c.args.self.now.vote.length + 1) c.requires.own.node c.requires.continues c.generation_shipped-generation.ensures c.with_taken-vote.ensures

pub returns-clause-takes : goal.returns-clause-takes
returns-clause-takes g c =
    let v = c.args.self.now.vote in
    let m = c.args.message.now in
    let es = c.args.entries.now in
    let raw = c.args.self.now.vote.length - c.saturating_sub-skipped.result in
    let skipped : c.saturating_sub-skipped.result ≡ shipped_length c.args.message.now - length c.args.entries.now = search rules in
    let place : c.args.self.now.vote.length - c.saturating_sub-skipped.result ≡ c.args.self.now.vote.length - (shipped_length c.args.message.now - length c.args.entries.now) = ap (λ k. c.args.self.now.vote.length - k) skipped in
    let lt : c.args.self.now.vote.length - (shipped_length c.args.message.now - length c.args.entries.now) < length c.args.entries.now = place_within v m es c.requires.continues c.requires.joins in
    let got = slice_get_read es (length es) raw c.index-entries-at.result refl (subst (λ k. k < length c.args.entries.now) (sym place) lt) c.index-entries-at.is ∙ ap Some (sym c.in_ok-entry.ensures) in
    ok_five c.grows.result (λ l u d add room. one_takes g.J.Plan.setting (held c.args.self.now.vote c.args.self.now.log.entries c.args.self.now.actor) (held c.grows.new.self.vote c.grows.new.self.log.entries c.grows.new.self.actor) c.with_taken-vote.result raw c.in_ok-entry.entry m es c.generation_shipped-generation.result (c.args.self.now.vote.length + 1) c.requires.own c.grows.ensures.own c.requires.packet c.requires.continues c.requires.joins
    place got c.generation_shipped-generation.ensures refl c.with_taken-vote.ensures l u d add room)
    c.grows.ensures.entries c.grows.ensures.vote c.grows.ensures.did c.grows.ensures.adds c.grows.ensures.room
