-- What calls do, one after the other.
use Rattle.std.proofs.Common.{ℕ, ◌≡◌, ◌+◌, ◌<◌, ◌≤◌, List, [], ◌∷◌, ◌++◌, length, length-append, append_assoc, arith, refl, sym, subst, ap, ◌∙◌}
use Rattle.std.specs.Prelude.{Result, Ok, Err, OnErr, OnOk, Bool, true}
use mathlib.Core.Logic.{◌⊎◌, inl, inr}
use Rattle.actor_trace.specs.Lists.{Begins}
use Rattle.actor_trace.specs.Steps.{Adds, Rests}
use Rattle.cluster_events.specs.Settings.{Setting}
use Rattle.cluster_steps.specs.declared.events.Event.{Event}
use Rattle.cluster_steps.specs.declared.events.Event.TheVariants as event
use Rattle.cluster_steps.specs.Guards.{AreLegalSteps}
use Rattle.election_core.specs.Allowed.{MayStand}
use Rattle.election_core.specs.Counted.{acted, counted}
use Rattle.election_core.specs.Senders.{sender_of}
use Rattle.election_core.specs.declared.messages.Action.{Action}
use Rattle.election_core.specs.declared.messages.Action.TheVariants as action
use Rattle.election_core.specs.declared.messages.Message.{Message}
use Rattle.election_core.specs.declared.votes.NodeVote.{NodeVote}
use Rattle.phys_log.specs.declared.entries.Entry.{Entry}
use Rattle.node_state.specs.Calls.{Did, Falls, IsAsBefore, Judges, Acts, Answers, FallsPartly, IsPartly, StandsAsCandidate, Probes, takes, events_by, through, left_of, log_by, down_vote, vote_taken}
use Rattle.node_state.specs.Nodes.{IsNode, IsOwn, Held, Follows, events_of}
use Rattle.node_state.specs.Packets.{SentPacket, packets_of, standing_packets, probing_packets, shipped_in}
use Rattle.node_state.proofs.NodeLaws.{after_adds, after_rests}
use Rattle.node_state.proofs.LogLists.{none_behind}

pub events_more : (xs ys : List (ℕ × Event)) → events_of (xs ++ ys) ≡ events_of xs ++ events_of ys
events_more [] ys = refl
events_more (x ∷ xs) ys = ap (λ t. x.1 ∷ t) (events_more xs ys)

pub begins_adds : {i : ℕ} {e : Event} {old new : List (ℕ × Event)} → Adds i e old new → Begins old new
begins_adds {i} {e} d = record { later = (i, e) ∷ d.between; whole = sym d.whole }

pub begins_rests : {i : ℕ} {old new : List (ℕ × Event)} → Rests i old new → Begins old new
begins_rests d = record { later = d.between; whole = sym d.whole }

pub begins_on : {old mid new : List (ℕ × Event)} → Begins old mid → Begins mid new → Begins old new
begins_on {old} {mid} {new} a b = record { later = b.later ++ a.later; whole = append_assoc b.later a.later old ∙ (ap (λ t. b.later ++ t) a.whole ∙ b.whole) }

-- the room that is left
one_less : (a b : ℕ) (es : List Event) → length es ≡ 1 → b + 1 ≡ a → a ≤ b + length es
one_less a b es one r = omega arith

pub none_less : (a b : ℕ) (es : List Event) → length es ≡ 0 → a ≤ b → a ≤ b + length es
none_less a b es none le = omega arith

both_less : (a b k : ℕ) (es fs : List Event) → a ≤ b + length es → b ≤ k + length fs → a ≤ k + length (es ++ fs)
both_less a b k es fs x y = let e : length (es ++ fs) ≡ length es + length fs = length-append es fs in omega arith

pub same_less : (a b : ℕ) → b ≡ a → a ≤ b
same_less a b e = omega arith

-- after a step
pub did_one : (old new : Held) (e : Event) (t : ℕ) → new.actor.number ≡ old.actor.number → new.actor.made ≡ old.actor.made ++ (t, e) ∷ [] → Adds old.actor.number e old.actor.seen new.actor.seen → new.actor.room + 1 ≡ old.actor.room
    → Did (e ∷ []) old new
did_one old new e t n m d r = record { number = n; made = ap events_of m ∙ events_more old.actor.made ((t, e) ∷ []); more = begins_adds d; room = one_less old.actor.room new.actor.room (e ∷ []) refl r }

pub own_one : (G : Setting) (old new : Held) (e : Event) → old.vote.node ≡ old.actor.number → Follows G old.vote.node e new.vote new.entries old.actor.seen
    → Adds old.actor.number e old.actor.seen new.actor.seen → AreLegalSteps G new.actor.seen → new.actor.number ≡ old.actor.number → IsOwn G new
own_one G old new e n f d legal same = record {
  node = after_adds G old.vote new.vote new.entries old.actor.number e old.actor.seen new.actor.seen n f d legal;
  number_is = f.same ∙ (n ∙ sym same);
}

-- after a look
pub as_before : (old new : Held) → new.vote ≡ old.vote → new.entries ≡ old.entries → new.actor.number ≡ old.actor.number → new.actor.made ≡ old.actor.made → Rests old.actor.number old.actor.seen new.actor.seen
    → new.actor.room ≡ old.actor.room → IsAsBefore old new
as_before old new v l n m d r = record {
  did = record { number = n; made = ap events_of m ∙ sym (none_behind (events_of old.actor.made)); more = begins_rests d; room = none_less old.actor.room new.actor.room [] refl (same_less old.actor.room new.actor.room r) };
  vote = v;
  entries = l;
}

-- after it made room
pub as_reserved : (old new : Held) → new.vote ≡ old.vote → new.entries ≡ old.entries → new.actor.number ≡ old.actor.number → new.actor.made ≡ old.actor.made → new.actor.seen ≡ old.actor.seen → old.actor.room ≤ new.actor.room → IsAsBefore old new
as_reserved old new v l n m s r = record {
  did = record { number = n; made = ap events_of m ∙ sym (none_behind (events_of old.actor.made)); more = record { later = []; whole = sym s }; room = none_less old.actor.room new.actor.room [] refl r };
  vote = v;
  entries = l;
}

pub own_rests : (G : Setting) (old new : Held) → IsOwn G old → new.vote ≡ old.vote → new.entries ≡ old.entries → new.actor.number ≡ old.actor.number → Rests old.actor.number old.actor.seen new.actor.seen → AreLegalSteps G new.actor.seen → IsOwn G new
own_rests G old new own v l n d legal =
    let is = after_rests G old.vote old.entries old.actor.number old.actor.seen new.actor.seen own.node own.number_is d legal in
    record {
      node = subst (λ t. IsNode G t new.entries new.actor.seen) (sym v) (subst (λ t. IsNode G old.vote t new.actor.seen) (sym l) is);
      number_is = ap (λ (t : NodeVote). t.node) v ∙ (own.number_is ∙ sym n);
    }

-- one call after the other
pub did_then : (es fs : List Event) (old mid new : Held) → Did es old mid → Did fs mid new → Did (es ++ fs) old new
did_then es fs old mid new a b = record {
  number = b.number ∙ a.number;
  made = b.made ∙ (ap (λ t. t ++ fs) a.made ∙ append_assoc (events_of old.actor.made) es fs);
  more = begins_on a.more b.more;
  room = both_less old.actor.room mid.actor.room new.actor.room es fs a.room b.room;
}

pub did_before : (es : List Event) (old mid new : Held) → IsAsBefore old mid → Did es mid new → Did es old new
did_before es old mid new a b = did_then [] es old mid new a.did b

pub did_behind : (es : List Event) (old mid new : Held) → Did es old mid → IsAsBefore mid new → Did es old new
did_behind es old mid new a b = subst (λ t. Did t old new) (none_behind es) (did_then es [] old mid new a b.did)

pub before_then : (old mid new : Held) → IsAsBefore old mid → IsAsBefore mid new → IsAsBefore old new
before_then old mid new a b = record { did = did_before [] old mid new a b.did; vote = b.vote ∙ a.vote; entries = b.entries ∙ a.entries }

pub answers_before : (m : Message) (es : List Entry) (ps : List SentPacket) (old mid new : Held) → IsAsBefore old mid → Answers m es ps mid new → Answers m es ps old new
answers_before m es ps old mid new a b = record {
  action = b.action;
  judged = subst (λ v. Judges v m es b.action) a.vote b.judged;
  acts = record {
    did = subst (λ v. Did (events_by v m b.action) old new) a.vote (did_before (events_by mid.vote m b.action) old mid new a b.acts.did);
    vote = subst (λ v. new.vote ≡ acted (counted v m) (through m b.action)) a.vote b.acts.vote;
    entries = subst (λ v. new.entries ≡ log_by v m es b.action old.entries) a.vote (subst (λ l. new.entries ≡ log_by mid.vote m es b.action l) a.entries b.acts.entries);
  };
  sends = b.sends;
}

pub partly_before : (m : Message) (es : List Entry) (old mid new : Held) → IsAsBefore old mid → IsPartly m es mid new → IsPartly m es old new
partly_before m es old mid new a b = record {
  taken = b.taken;
  within = b.within;
  did = subst (λ (v : NodeVote). Did (takes (shipped_in m) v.length b.taken) old new) a.vote (did_before (takes (shipped_in m) mid.vote.length b.taken) old mid new a b.did);
  vote = b.vote ∙ ap (λ (v : NodeVote). vote_taken v (shipped_in m) b.taken) a.vote;
  left = b.left ∙ (ap (λ (v : NodeVote). mid.entries ++ left_of v.length m es) a.vote ∙ ap (λ l. l ++ left_of old.vote.length m es) a.entries);
}

pub falls_before : (m : Message) (es : List Entry) (old mid new : Held) → IsAsBefore old mid → FallsPartly m es mid new → FallsPartly m es old new
falls_before m es old mid new a b = record { mid = b.mid; partly = partly_before m es old mid b.mid a b.partly; falls = b.falls }

pub nothing_partly : (m : Message) (es : List Entry) (old new : Held) → IsAsBefore old new → IsPartly m es old new
nothing_partly m es old new a = record {
  taken = 0;
  within = let n : 0 ≤ length es = omega arith in n;
  did = a.did;
  vote = a.vote;
  left = ap (λ (v : NodeVote). new.entries ++ left_of v.length m es) a.vote ∙ ap (λ l. l ++ left_of old.vote.length m es) a.entries;
}

-- it goes down after a look
pub fallen_behind : (fault : Bool) (old mid new : Held) → IsAsBefore old mid → Falls fault mid new → Falls fault old new
fallen_behind fault old mid new a f = record { did = did_before (event.Down fault ∷ []) old mid new a f.did; vote = f.vote ∙ ap down_vote a.vote; entries = f.entries ∙ a.entries }

pub unchanged : (h : Held) → IsAsBefore h h
unchanged h = record { did = record { number = refl; made = sym (none_behind (events_of h.actor.made)); more = record { later = []; whole = refl }; room = none_less h.actor.room h.actor.room [] refl (same_less h.actor.room h.actor.room refl) }; vote = refl; entries = refl }

-- packets that were made before the act are those of it
pub same_packets : (v : NodeVote) (m : Message) (es : List Entry) (a : Action) (u : NodeVote) (old new : List Entry) (s : ℕ) → new ≡ log_by v m es a old → packets_of u (through m a) old s ≡ packets_of u (through m a) new s
same_packets v m es action.Nothing u old new s e = refl
same_packets v m es (action.Promise g to) u old new s e = refl
same_packets v m es (action.Lead g) u old new s e = ap (λ l. packets_of u (action.Lead g) l s) (sym e)
same_packets v m es (action.Take g l) u old new s e = refl
same_packets v m es (action.Know d) u old new s e = refl
same_packets v m es (action.Answer x to) u old new s e = refl

pub answers_made : (m : Message) (es : List Entry) (a : Action) (ps ds : List SentPacket) (old mid new : Held) → Judges old.vote m es a → Acts old.vote m es a old mid → IsAsBefore mid new
    → ds ≡ packets_of (acted (counted old.vote m) (through m a)) (through m a) old.entries (sender_of m) → ps ≡ ds → Answers m es ps old new
answers_made m es a ps ds old mid new j acts b d p = record {
  action = a;
  judged = j;
  acts = record { did = did_behind (events_by old.vote m a) old mid new acts.did b; vote = b.vote ∙ acts.vote; entries = b.entries ∙ acts.entries };
  sends = p ∙ (d ∙ (ap (λ u. packets_of u (through m a) old.entries (sender_of m)) (sym (b.vote ∙ acts.vote)) ∙ same_packets old.vote m es a new.vote old.entries new.entries (sender_of m) (b.entries ∙ acts.entries)));
}

-- packets that go out one after the other
put_step : (ps : List SentPacket) (p : SentPacket) (rest : List SentPacket) → (ps ++ p ∷ []) ++ rest ≡ ps ++ p ∷ rest
put_step [] p rest = refl
put_step (x ∷ ps) p rest = ap (λ t. x ∷ t) (put_step ps p rest)

pub put_on : (ps : List SentPacket) (p d : SentPacket) (rest all new left : List SentPacket) → new ≡ ps ++ p ∷ [] → p ≡ d → left ≡ d ∷ rest → ps ++ left ≡ all → new ++ rest ≡ all
put_on ps p d rest all new left a b e i = ap (λ t. t ++ rest) a ∙ (put_step ps p rest ∙ (ap (λ q. ps ++ q ∷ rest) b ∙ (ap (λ t. ps ++ t) (sym e) ∙ i)))

-- what standing and asking for a confirmation do
pub stood_by : (v u : NodeVote) (g : ℕ) (a : Action) → ((a ≡ action.Promise g v.node) × MayStand v g) ⊎ ((a ≡ action.Nothing) × (MayStand v g → ⊥)) → v.up ≡ true → v.promised < g → u ≡ acted v a
    → u ≡ acted v (action.Promise g v.node)
stood_by v u g a (inl x) up above q = q ∙ ap (λ t. acted v t) x.0
stood_by v u g a (inr x) up above q = absurd (x.1 (up, above))

pub stood : (g : ℕ) (old mid new : Held) (u : NodeVote) (before ds ps : List SentPacket) → Did (event.Stand g ∷ []) old mid → mid.vote ≡ u → u ≡ acted old.vote (action.Promise g old.vote.node) → mid.entries ≡ old.entries → IsAsBefore mid new
    → before ≡ [] → ds ≡ standing_packets u g → ps ≡ before ++ ds → StandsAsCandidate g ps old new
stood g old mid new u before ds ps d v q l b none made all = record {
  did = did_behind (event.Stand g ∷ []) old mid new d b;
  vote = b.vote ∙ (v ∙ q);
  entries = b.entries ∙ l;
  sends = all ∙ (ap (λ x. x ++ ds) none ∙ (made ∙ ap (λ x. standing_packets x g) (sym (b.vote ∙ v))));
}

pub probed : (t : ℕ) (old mid new : Held) (before ds ps : List SentPacket) → Did (event.Probe t ∷ []) old mid → mid.vote ≡ old.vote → mid.entries ≡ old.entries → IsAsBefore mid new
    → before ≡ [] → ds ≡ probing_packets old.vote t → ps ≡ before ++ ds → Probes t ps old new
probed t old mid new before ds ps d v l b none made all = record {
  did = did_behind (event.Probe t ∷ []) old mid new d b;
  vote = b.vote ∙ v;
  entries = b.entries ∙ l;
  sends = all ∙ (ap (λ x. x ++ ds) none ∙ (made ∙ ap (λ x. probing_packets x t) (sym (b.vote ∙ v))));
}

-- what is made before the act is what it sends
through_packets : (v : NodeVote) (m : Message) (a : Action) (log : List Entry) (s : ℕ) → packets_of (acted v a) (through m a) log s ≡ packets_of (acted v (through m a)) (through m a) log s
through_packets v m action.Nothing log s = refl
through_packets v m (action.Promise g to) log s = refl
through_packets v m (action.Lead g) log s = refl
through_packets v m (action.Take g l) log s = refl
through_packets v m (action.Know d) log s = refl
through_packets v m (action.Answer x to) log s = refl

pub drafts_made : (v u : NodeVote) (m : Message) (a w : Action) (log given : List Entry) (s from : ℕ) (ds : List SentPacket) → u ≡ acted v a → w ≡ through m a → given ≡ log → from ≡ s → ds ≡ packets_of u w given from
    → ds ≡ packets_of (acted v (through m a)) (through m a) log s
drafts_made v u m a w log given s from ds q e l f d =
    d ∙ (ap (λ x. packets_of x w given from) q ∙ (ap (λ x. packets_of (acted v a) x given from) e ∙ (ap (λ x. packets_of (acted v a) (through m a) x from) l
    ∙ (ap (λ x. packets_of (acted v a) (through m a) log x) f ∙ through_packets v m a log s))))

pub on_err : {T E P : Type 0} (r : Result T E) → P → OnErr r P
on_err (Ok x) p = tt
on_err (Err e) p = p

-- several facts about an `Ok`
pub ok_two : {T E P Q R : Type 0} (r : Result T E) → (P → Q → R) → OnOk r P → OnOk r Q → OnOk r R
ok_two (Ok x) f p q = f p q
ok_two (Err e) f p q = tt

pub ok_three : {T E P Q R S : Type 0} (r : Result T E) → (P → Q → R → S) → OnOk r P → OnOk r Q → OnOk r R → OnOk r S
ok_three (Ok x) f p q s = f p q s
ok_three (Err e) f p q s = tt

pub ok_five : {T E P Q R S U V : Type 0} (r : Result T E) → (P → Q → R → S → U → V) → OnOk r P → OnOk r Q → OnOk r R → OnOk r S → OnOk r U → OnOk r V
ok_five (Ok x) f p q s t u = f p q s t u
ok_five (Err e) f p q s t u = tt
