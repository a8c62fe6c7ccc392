use Rattle.std.proofs.Common.{rules, ◌≡◌, ◌+◌, List, ◌++◌, ◌∷◌, [], length, refl, sym, subst, ap, ◌∙◌}
use Rattle.phys_log.specs.declared.entries.Entry.{Entry}
use Rattle.node_state.specs.Nodes.{held}
use Rattle.node_state.specs.Packets.{AreSent, appending_packets}
use Rattle.node_state.proofs.ActionLaws.{own_adds_of}
use Rattle.node_state.proofs.AppendLaws.{append_follows, append_sent, entered}
use Rattle.node_state.proofs.GenerationLaws.{enters_gen, enters_up}
use Rattle.node_state.proofs.NumberLaws.{length_numbers}
use Rattle.node_state.proofs.bodies.Body.append.Goals as goal

pub appends-requires-clause-up : goal.appends-requires-clause-up
appends-requires-clause-up g c = enters_up g.J.Plan.setting c.args.self.now.vote c.args.self.now.log.entries c.args.self.now.actor.seen c.args.entry c.requires.own.node c.requires.may

pub appends-requires-clause-accepted : goal.appends-requires-clause-accepted
appends-requires-clause-accepted g c = enters_gen g.J.Plan.setting c.args.self.now.vote c.args.self.now.log.entries c.args.self.now.actor.seen c.args.entry c.requires.own.node c.requires.may

pub appends-requires-clause-follows : goal.appends-requires-clause-follows
appends-requires-clause-follows g c =
    λ next value. append_follows g.J.Plan.setting c.args.self.now.vote (record c.args.self.now.vote { length = length c.entries.result.now + 1 }) c.args.self.now.log.entries (c.args.self.now.log.entries ++ c.args.entry ∷ []) c.args.self.now.actor.seen next c.args.entry c.requires.own.node c.requires.may c.requires.fits value refl (ap (λ (es : List Entry). record c.args.self.now.vote { length = length es + 1 }) c.entries.ensures.entries)

pub appends-requires-clause-numbers : goal.appends-requires-clause-numbers
appends-requires-clause-numbers g c = length_numbers c.args.self.now.vote (record c.args.self.now.vote { length = length c.entries.result.now + 1 }) (length c.entries.result.now + 1) (enters_up g.J.Plan.setting c.args.self.now.vote c.args.self.now.log.entries c.args.self.now.actor.seen c.args.entry c.requires.own.node c.requires.may) refl

pub send-requires-clause-sent : goal.send-requires-clause-sent
send-requires-clause-sent g c =
    let a = c.in_ok-appends.ensures.appended in
    let es : c.as_slice.result.now ≡ c.args.entry ∷ [] = search rules in
    subst (λ ps. AreSent g.J.Plan.setting c.appends.new.self.actor.seen ps) (sym (c.in_ok-drafts.ensures ∙ ap (λ y. appending_packets (record c.args.self.now.vote { length = length c.entries.result.now + 1 }) y) es))
    (append_sent g.J.Plan.setting c.args.self.now.vote (record c.args.self.now.vote { length = length c.entries.result.now + 1 }) c.args.self.now.log.entries c.args.self.now.actor.seen c.appends.new.self.actor.seen a.next c.args.entry c.requires.own.node c.requires.fits a.value (ap (λ (es : List Entry). record c.args.self.now.vote { length = length es + 1 }) c.entries.ensures.entries) (own_adds_of (held c.args.self.now.vote c.args.self.now.log.entries c.args.self.now.actor) c.requires.own a.adds) c.appends.ensures.own.node.legal)

pub returns-clause-enters : goal.returns-clause-enters
returns-clause-enters g c =
    let a = c.in_ok-appends.ensures.appended in
    let es : c.as_slice.result.now ≡ c.args.entry ∷ [] = search rules in
    let e : c.in_ok-packets.packets.items ≡ [] = search rules in
    entered (held c.args.self.now.vote c.args.self.now.log.entries c.args.self.now.actor) (held c.appends.new.self.vote c.appends.new.self.log.entries c.appends.new.self.actor) (held c.send.new.self.vote c.send.new.self.log.entries c.send.new.self.actor) (record c.args.self.now.vote { length = length c.entries.result.now + 1 }) a.next c.args.entry c.as_slice.result.now c.in_ok-packets.packets.items c.in_ok-drafts.drafts.items c.send.new.packets.items a.value a.did
    c.in_ok-appends.ensures.vote (ap (λ (es : List Entry). record c.args.self.now.vote { length = length es + 1 }) c.entries.ensures.entries) c.in_ok-appends.ensures.entries c.send.ensures.same e es c.in_ok-drafts.ensures c.send.ensures.packets
