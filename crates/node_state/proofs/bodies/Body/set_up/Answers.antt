use Rattle.std.proofs.Common.{rules, ◌≡◌, ◌∷◌, ◌++◌, [], refl, sym, subst, ap, ◌∙◌}
use Rattle.cdb_values.specs.Rows.{no_rows}
use Rattle.log_rows.specs.Setups.{IsSetup}
use Rattle.phys_log.specs.Logs.{pages_of}
use Rattle.store_log.specs.Held.{generation_of}
use Rattle.table_store.specs.Stored.{Stands}
use Rattle.node_state.specs.Nodes.{held}
use Rattle.node_state.specs.Packets.{AreSent, appending_packets}
use Rattle.node_state.proofs.ActionLaws.{own_adds_of}
use Rattle.node_state.proofs.NumberLaws.{setup_numbers}
use Rattle.node_state.proofs.SetupLaws.{setup_follows, setup_sent, sets_up}
use Rattle.node_state.proofs.bodies.Body.set_up.Goals as goal

pub appends-requires-clause-accepted : goal.appends-requires-clause-accepted
appends-requires-clause-accepted g c =
    let x = c.in_ok-entry.entry in
    let made = subst (λ t. IsSetup c.args.self.now.vote.accepted t x) c.requires.schema c.in_ok-entry.ensures.made in
    ap generation_of made.1

pub appends-requires-clause-follows : goal.appends-requires-clause-follows
appends-requires-clause-follows g c =
    let x = c.in_ok-entry.entry in
    let made = subst (λ t. IsSetup c.args.self.now.vote.accepted t x) c.requires.schema c.in_ok-entry.ensures.made in
    let stands = subst (λ t. Stands (pages_of (x ∷ [])) t (no_rows t)) c.requires.schema c.in_ok-entry.ensures.stands in
    λ next value. setup_follows g.J.Plan.setting c.args.self.now.vote (record c.args.self.now.vote { length = 1 }) c.args.self.now.log.entries (c.args.self.now.log.entries ++ x ∷ []) c.args.self.now.actor.seen next x c.requires.own.node c.requires.up c.requires.leads c.requires.empty made stands c.in_ok-entry.ensures.fits value (ap (λ l. l ++ x ∷ []) c.requires.empty) refl

pub appends-requires-clause-numbers : goal.appends-requires-clause-numbers
appends-requires-clause-numbers g c = setup_numbers c.args.self.now.vote (record c.args.self.now.vote { length = 1 }) c.requires.up refl

pub send-requires-clause-sent : goal.send-requires-clause-sent
send-requires-clause-sent g c =
    let x = c.in_ok-entry.entry in
    let made = subst (λ t. IsSetup c.args.self.now.vote.accepted t x) c.requires.schema c.in_ok-entry.ensures.made in
    let a = c.in_ok-appends.ensures.appended in
    let es : c.as_slice.result.now ≡ c.in_ok-entry.entry ∷ [] = search rules in
    subst (λ ps. AreSent g.J.Plan.setting c.appends.new.self.actor.seen ps) (sym (c.in_ok-drafts.ensures ∙ ap (λ y. appending_packets (record c.args.self.now.vote { length = 1 }) y) es))
    (setup_sent g.J.Plan.setting c.args.self.now.vote (record c.args.self.now.vote { length = 1 }) c.args.self.now.log.entries c.args.self.now.actor.seen c.appends.new.self.actor.seen a.next x c.requires.own.node c.requires.empty made c.in_ok-entry.ensures.fits a.value refl (own_adds_of (held c.args.self.now.vote c.args.self.now.log.entries c.args.self.now.actor) c.requires.own a.adds) c.appends.ensures.own.node.legal)

pub returns-clause-sets_up : goal.returns-clause-sets_up
returns-clause-sets_up g c =
    let x = c.in_ok-entry.entry in
    let made = subst (λ t. IsSetup c.args.self.now.vote.accepted t x) c.requires.schema c.in_ok-entry.ensures.made in
    let a = c.in_ok-appends.ensures.appended in
    let es : c.as_slice.result.now ≡ c.in_ok-entry.entry ∷ [] = search rules in
    let e : c.in_ok-packets.packets.items ≡ [] = search rules in
    sets_up g.J.Plan.setting.tables (held c.args.self.now.vote c.args.self.now.log.entries c.args.self.now.actor) (held c.appends.new.self.vote c.appends.new.self.log.entries c.appends.new.self.actor) (held c.send.new.self.vote c.send.new.self.log.entries c.send.new.self.actor) (record c.args.self.now.vote { length = 1 }) a.next x c.as_slice.result.now c.in_ok-packets.packets.items c.in_ok-drafts.drafts.items c.send.new.packets.items made a.value a.did
    c.in_ok-appends.ensures.vote refl (c.in_ok-appends.ensures.entries ∙ ap (λ l. l ++ x ∷ []) c.requires.empty) c.send.ensures.same e es c.in_ok-drafts.ensures c.send.ensures.packets
