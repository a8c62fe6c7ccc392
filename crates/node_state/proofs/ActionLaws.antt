-- What each action of a node does and sends, by the clauses of the calls that do it.
use Rattle.std.proofs.Common.{ℕ, ◌≡◌, List, [], ◌∷◌, refl, sym, subst, ap, ◌∙◌}
use mathlib.Core.Logic.{inl, inr}
use Rattle.actor_trace.specs.Steps.{Adds}
use Rattle.cluster_events.specs.Settings.{Setting}
use Rattle.cluster_steps.specs.declared.events.Event.{Event}
use Rattle.cluster_steps.specs.declared.events.Event.TheVariants as event
use Rattle.election_core.specs.Allowed.{AllowsExactly}
use Rattle.election_core.specs.Counted.{acted, counted}
use Rattle.election_core.proofs.Keeping.{same_after}
use Rattle.election_core.specs.declared.messages.Action.{Action}
use Rattle.election_core.specs.declared.messages.Action.TheVariants as action
use Rattle.election_core.specs.declared.messages.Message.{Message}
use Rattle.election_core.specs.declared.messages.Message.TheVariants.{Vote, Granted, Adopt, Ship, Ack, Durable, Ping, Pong}
use Rattle.election_core.specs.declared.votes.NodeVote.{NodeVote}
use Rattle.phys_log.specs.declared.entries.Entry.{Entry}
use Rattle.node_state.specs.Calls.{Did, Joins, Judges, Acts, events_by, through, log_by}
use Rattle.node_state.specs.Nodes.{IsNode, IsOwn, Held, Follows, events_of}
use Rattle.node_state.specs.Packets.{IsPacket, AreSent, ask_of, asked_in, packet, packets_of}
use Rattle.node_state.proofs.CallLaws.{none_less, same_less}
use Rattle.node_state.proofs.NodeLaws.{counts, grants, leads, learns, confirms}
use Rattle.node_state.proofs.LogLists.{none_behind}
use Rattle.node_state.proofs.SentLaws.{grant_sent, lead_sent, know_sent, confirm_sent}

-- nothing but a count
pub keep_own : (G : Setting) (old : Held) (u : NodeVote) (m : Message) (es : List Entry) (a : Action) → IsOwn G old → IsPacket G m es old.actor.seen → a ≡ action.Nothing → u ≡ acted (counted old.vote m) a
    → IsOwn G (record { vote = u; entries = old.entries; actor = old.actor })
keep_own G old u m es a own p e q =
    let c : u ≡ counted old.vote m = q ∙ ap (λ t. acted (counted old.vote m) t) e in
    record {
      node = subst (λ v. IsNode G v old.entries old.actor.seen) (sym c) (counts old.vote old.entries old.actor.seen m es own.node p);
      number_is = (same_after old.vote u m a q).0 ∙ own.number_is;
    }

pub keep_acts : (old : Held) (u : NodeVote) (m : Message) (es : List Entry) (a : Action) → a ≡ action.Nothing → u ≡ acted (counted old.vote m) a
    → Acts old.vote m es a old (record { vote = u; entries = old.entries; actor = old.actor })
keep_acts old u m es a e q = subst (λ t. Acts old.vote m es t old (record { vote = u; entries = old.entries; actor = old.actor })) (sym e) (record {
  did = record { number = refl; made = sym (none_behind (events_of old.actor.made)); more = record { later = []; whole = refl }; room = none_less old.actor.room old.actor.room [] refl (same_less old.actor.room old.actor.room refl) };
  vote = q ∙ ap (λ t. acted (counted old.vote m) t) e;
  entries = refl;
})

pub keep_sends : (G : Setting) (u : NodeVote) (m : Message) (log : List Entry) (seen : List (ℕ × Event)) (a : Action) (s : ℕ) → a ≡ action.Nothing → AreSent G seen (packets_of u (through m a) log s)
keep_sends G u m log seen a s e = subst (λ t. AreSent G seen (packets_of u (through m t) log s)) (sym e) tt

pub own_adds_of : (old : Held) {G : Setting} {e : Event} {new : List (ℕ × Event)} → IsOwn G old → Adds old.actor.number e old.actor.seen new → Adds old.vote.node e old.actor.seen new
own_adds_of old {e = e} {new = new} own d = subst (λ t. Adds t e old.actor.seen new) (sym own.number_is) d

-- one event, where the log stays
single : (old new : Held) (u : NodeVote) (m : Message) (es : List Entry) (a b : Action) (e : Event) → a ≡ b → events_by old.vote m b ≡ e ∷ [] → through m b ≡ b → log_by old.vote m es b old.entries ≡ old.entries
    → u ≡ acted (counted old.vote m) a → Did (e ∷ []) old new → new.vote ≡ u → new.entries ≡ old.entries → Acts old.vote m es a old new
single old new u m es a b e is events whole same q d v l = subst (λ t. Acts old.vote m es t old new) (sym is) (record {
  did = subst (λ t. Did t old new) (sym events) d;
  vote = v ∙ (q ∙ (ap (λ t. acted (counted old.vote m) t) is ∙ ap (λ t. acted (counted old.vote m) t) (sym whole)));
  entries = l ∙ sym same;
})

decided : (v : NodeVote) (m : Message) (a b : Action) → a ≡ b → AllowsExactly v m a → AllowsExactly v m b
decided v m a b is d = subst (λ t. AllowsExactly v m t) is d

-- it gives its vote
pub grant_follows : (G : Setting) (old : Held) (u : NodeVote) (m : Message) (es : List Entry) (a : Action) (g to : ℕ) → IsOwn G old → IsPacket G m es old.actor.seen → a ≡ action.Promise g to → AllowsExactly old.vote m a
    → u ≡ acted (counted old.vote m) a → Follows G old.vote.node (event.Grant g to) u old.entries old.actor.seen
grant_follows G old u m es a g to own p is d q =
    subst (λ t. Follows G old.vote.node (event.Grant g to) t old.entries old.actor.seen) (sym (q ∙ ap (λ t. acted (counted old.vote m) t) is))
    (grants old.vote old.entries old.actor.seen m es g to own.node p (decided old.vote m a (action.Promise g to) is d))

pub grant_acts : (old new : Held) (u : NodeVote) (m : Message) (es : List Entry) (a : Action) (g to : ℕ) → a ≡ action.Promise g to → u ≡ acted (counted old.vote m) a
    → Did (event.Grant g to ∷ []) old new → new.vote ≡ u → new.entries ≡ old.entries → Acts old.vote m es a old new
grant_acts old new u m es a g to is q d v l = single old new u m es a (action.Promise g to) (event.Grant g to) is refl refl refl q d v l

pub grant_sends : (G : Setting) (old new : Held) (u : NodeVote) (m : Message) (es : List Entry) (a : Action) (g to s : ℕ) → IsOwn G old → IsOwn G new → IsPacket G m es old.actor.seen → a ≡ action.Promise g to
    → AllowsExactly old.vote m a → u ≡ acted (counted old.vote m) a → new.vote ≡ u → Adds old.actor.number (event.Grant g to) old.actor.seen new.actor.seen
    → AreSent G new.actor.seen (packets_of new.vote (through m a) new.entries s)
grant_sends G old new u m es a g to s own after p is d q v add =
    let x = grant_sent old.vote old.entries old.actor.seen new.actor.seen m es g to s own.node p (decided old.vote m a (action.Promise g to) is d) (own_adds_of old own add) after.node.legal in
    let same : new.vote.node ≡ old.vote.node = (same_after old.vote new.vote m a (v ∙ q)).0 in
    subst (λ t. AreSent G new.actor.seen (packets_of new.vote (through m t) new.entries s)) (sym is)
    (subst (λ k. AreSent G new.actor.seen (packet to (Granted k g to) [] ∷ [])) (sym same) x)

-- it leads
pub lead_follows : (G : Setting) (old : Held) (u : NodeVote) (m : Message) (es : List Entry) (a : Action) (g : ℕ) → IsOwn G old → IsPacket G m es old.actor.seen → a ≡ action.Lead g → AllowsExactly old.vote m a
    → u ≡ acted (counted old.vote m) a → Follows G old.vote.node (event.Lead g) u old.entries old.actor.seen
lead_follows G old u m es a g own p is d q =
    subst (λ t. Follows G old.vote.node (event.Lead g) t old.entries old.actor.seen) (sym (q ∙ ap (λ t. acted (counted old.vote m) t) is))
    (leads old.vote old.entries old.actor.seen m es g own.node p (decided old.vote m a (action.Lead g) is d))

pub lead_acts : (old new : Held) (u : NodeVote) (m : Message) (es : List Entry) (a : Action) (g : ℕ) → a ≡ action.Lead g → u ≡ acted (counted old.vote m) a
    → Did (event.Lead g ∷ []) old new → new.vote ≡ u → new.entries ≡ old.entries → Acts old.vote m es a old new
lead_acts old new u m es a g is q d v l = single old new u m es a (action.Lead g) (event.Lead g) is refl refl refl q d v l

pub lead_sends : (G : Setting) (old new : Held) (u : NodeVote) (m : Message) (es : List Entry) (a : Action) (g s : ℕ) → IsOwn G old → IsOwn G new → IsPacket G m es old.actor.seen → a ≡ action.Lead g
    → AllowsExactly old.vote m a → u ≡ acted (counted old.vote m) a → new.vote ≡ u → new.entries ≡ old.entries → Adds old.actor.number (event.Lead g) old.actor.seen new.actor.seen
    → AreSent G new.actor.seen (packets_of new.vote (through m a) new.entries s)
lead_sends G old new u m es a g s own after p is d q v l add =
    let x = lead_sent old.vote old.entries old.actor.seen new.actor.seen m es g s own.node p (decided old.vote m a (action.Lead g) is d) (own_adds_of old own add) after.node.legal in
    let w : acted (counted old.vote m) (action.Lead g) ≡ new.vote = sym (v ∙ (q ∙ ap (λ t. acted (counted old.vote m) t) is)) in
    subst (λ t. AreSent G new.actor.seen (packets_of new.vote (through m t) new.entries s)) (sym is)
    (subst (λ e. AreSent G new.actor.seen (packets_of new.vote (action.Lead g) e s)) (sym l)
    (subst (λ t. AreSent G new.actor.seen (packets_of t (action.Lead g) old.entries s)) w x))

-- it knows more as durable
pub learn_follows : (G : Setting) (old : Held) (u : NodeVote) (m : Message) (es : List Entry) (a : Action) (k : ℕ) → IsOwn G old → IsPacket G m es old.actor.seen → a ≡ action.Know k → AllowsExactly old.vote m a
    → u ≡ acted (counted old.vote m) a → Follows G old.vote.node (event.Learn k) u old.entries old.actor.seen
learn_follows G old u m es a k own p is d q =
    subst (λ t. Follows G old.vote.node (event.Learn k) t old.entries old.actor.seen) (sym (q ∙ ap (λ t. acted (counted old.vote m) t) is))
    (learns old.vote old.entries old.actor.seen m es k own.node p (decided old.vote m a (action.Know k) is d))

pub learn_acts : (old new : Held) (u : NodeVote) (m : Message) (es : List Entry) (a : Action) (k : ℕ) → a ≡ action.Know k → u ≡ acted (counted old.vote m) a
    → Did (event.Learn k ∷ []) old new → new.vote ≡ u → new.entries ≡ old.entries → Acts old.vote m es a old new
learn_acts old new u m es a k is q d v l = single old new u m es a (action.Know k) (event.Learn k) is refl refl refl q d v l

pub learn_sends : (G : Setting) (old new : Held) (u : NodeVote) (m : Message) (es : List Entry) (a : Action) (k s : ℕ) → IsOwn G old → IsOwn G new → IsPacket G m es old.actor.seen → a ≡ action.Know k
    → AllowsExactly old.vote m a → u ≡ acted (counted old.vote m) a → new.vote ≡ u → Adds old.actor.number (event.Learn k) old.actor.seen new.actor.seen
    → AreSent G new.actor.seen (packets_of new.vote (through m a) new.entries s)
learn_sends G old new u m es a k s own after p is d q v add =
    let x = know_sent old.vote old.entries old.actor.seen new.actor.seen m es k s own.node p (decided old.vote m a (action.Know k) is d) (own_adds_of old own add) after.node.legal in
    let w : acted (counted old.vote m) (action.Know k) ≡ new.vote = sym (v ∙ (q ∙ ap (λ t. acted (counted old.vote m) t) is)) in
    subst (λ t. AreSent G new.actor.seen (packets_of new.vote (through m t) new.entries s)) (sym is)
    (subst (λ t. AreSent G new.actor.seen (packets_of t (action.Know k) new.entries s)) w x)

-- it confirms a generation
pub confirm_follows : (G : Setting) (old : Held) (u : NodeVote) (m : Message) (es : List Entry) (a : Action) (g t to : ℕ) → IsOwn G old → IsPacket G m es old.actor.seen → a ≡ action.Answer (Pong old.vote.node g t) to
    → AllowsExactly old.vote m a → u ≡ acted (counted old.vote m) a → Follows G old.vote.node (event.Confirm t g) u old.entries old.actor.seen
confirm_follows G old u m es a g t to own p is d q =
    let b = action.Answer (Pong old.vote.node g t) to in
    subst (λ x. Follows G old.vote.node (event.Confirm t g) x old.entries old.actor.seen) (sym (q ∙ ap (λ x. acted (counted old.vote m) x) is))
    (confirms old.vote old.entries old.actor.seen m es g t to own.node p (decided old.vote m a b is d))

pub confirm_acts : (old new : Held) (u : NodeVote) (m : Message) (es : List Entry) (a : Action) (g t to : ℕ) → a ≡ action.Answer (Pong old.vote.node g t) to → u ≡ acted (counted old.vote m) a
    → Did (event.Confirm t g ∷ []) old new → new.vote ≡ u → new.entries ≡ old.entries → Acts old.vote m es a old new
confirm_acts old new u m es a g t to is q d v l = single old new u m es a (action.Answer (Pong old.vote.node g t) to) (event.Confirm t g) is refl refl refl q d v l

pub confirm_sends : (G : Setting) (old new : Held) (u : NodeVote) (m : Message) (es : List Entry) (a : Action) (g t to s : ℕ) → IsOwn G old → IsOwn G new → IsPacket G m es old.actor.seen
    → a ≡ action.Answer (Pong old.vote.node g t) to → AllowsExactly old.vote m a → Adds old.actor.number (event.Confirm t g) old.actor.seen new.actor.seen
    → AreSent G new.actor.seen (packets_of new.vote (through m a) new.entries s)
confirm_sends G old new u m es a g t to s own after p is d add =
    let b = action.Answer (Pong old.vote.node g t) to in
    let x = confirm_sent old.vote old.entries old.actor.seen new.actor.seen m es g t to own.node p (decided old.vote m a b is d) (own_adds_of old own add) after.node.legal in
    subst (λ y. AreSent G new.actor.seen (packets_of new.vote (through m y) new.entries s)) (sym is) x

-- an answer to a message is the confirmation that it asks for
pong_of : (v : NodeVote) (m x : Message) (to : ℕ) → AllowsExactly v m (action.Answer x to) → x ≡ Pong v.node (asked_in m) (ask_of m)
pong_of v (Ping f g t d) x to may = may.1
pong_of v (Vote f g a l) x to may = absurd may
pong_of v (Granted f g k) x to may = absurd may
pong_of v (Adopt f g l) x to may = absurd may
pong_of v (Ship f g l) x to may = absurd may
pong_of v (Ack f g l) x to may = absurd may
pong_of v (Durable f g l) x to may = absurd may
pong_of v (Pong f g t) x to may = absurd may

pub is_pong : (v : NodeVote) (m x : Message) (a : Action) (to : ℕ) → a ≡ action.Answer x to → AllowsExactly v m a → a ≡ action.Answer (Pong v.node (asked_in m) (ask_of m)) to
is_pong v m x a to is d = is ∙ ap (λ y. action.Answer y to) (pong_of v m x to (decided v m a (action.Answer x to) is d))

-- what is judged to be done was decided, and joins
judged_decides : (v : NodeVote) (m : Message) (es : List Entry) (a : Action) → Judges v m es a → (a ≡ action.Nothing → ⊥) → Joins v m es × AllowsExactly v m a
judged_decides v m es a (inl x) none = (x.0, x.1)
judged_decides v m es a (inr x) none = absurd (none x.1)

pub judged_grant : (v : NodeVote) (m : Message) (es : List Entry) (a : Action) (g to : ℕ) → Judges v m es a → a ≡ action.Promise g to → AllowsExactly v m a
judged_grant v m es a g to j is = (judged_decides v m es a j (λ n. (let f : action.Promise g to ≡ action.Nothing = sym is ∙ n in absurd (cc)))).1

pub judged_lead : (v : NodeVote) (m : Message) (es : List Entry) (a : Action) (g : ℕ) → Judges v m es a → a ≡ action.Lead g → AllowsExactly v m a
judged_lead v m es a g j is = (judged_decides v m es a j (λ n. (let f : action.Lead g ≡ action.Nothing = sym is ∙ n in absurd (cc)))).1

pub judged_know : (v : NodeVote) (m : Message) (es : List Entry) (a : Action) (d : ℕ) → Judges v m es a → a ≡ action.Know d → AllowsExactly v m a
judged_know v m es a d j is = (judged_decides v m es a j (λ n. (let f : action.Know d ≡ action.Nothing = sym is ∙ n in absurd (cc)))).1

pub judged_answer : (v : NodeVote) (m x : Message) (es : List Entry) (a : Action) (to : ℕ) → Judges v m es a → a ≡ action.Answer x to → AllowsExactly v m a
judged_answer v m x es a to j is = (judged_decides v m es a j (λ n. (let f : action.Answer x to ≡ action.Nothing = sym is ∙ n in absurd (cc)))).1

pub judged_take : (v : NodeVote) (m : Message) (es : List Entry) (a : Action) (g l : ℕ) → Judges v m es a → a ≡ action.Take g l → AllowsExactly v m a
judged_take v m es a g l j is = (judged_decides v m es a j (λ n. (let f : action.Take g l ≡ action.Nothing = sym is ∙ n in absurd (cc)))).1

pub judged_joins : (v : NodeVote) (m : Message) (es : List Entry) (a : Action) (g l : ℕ) → Judges v m es a → a ≡ action.Take g l → Joins v m es
judged_joins v m es a g l j is = (judged_decides v m es a j (λ n. (let f : action.Take g l ≡ action.Nothing = sym is ∙ n in absurd (cc)))).0
