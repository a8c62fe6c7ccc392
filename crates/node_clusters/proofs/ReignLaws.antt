-- How a node leads on, or begins to lead, while packets are delivered.
use Rattle.std.specs.declared.alloc.Global.{Global}
use Rattle.std.proofs.Common.{ℕ, ◌≡◌, ◌+◌, ◌-◌, ◌<◌, ◌≤◌, List, [], ◌∷◌, ◌++◌, length, get_or, slice_set, drop, arith, refl, sym, subst, ap, ◌∙◌}
use Rattle.std.specs.Prelude.{Vec, zero, suc, Bool, true, false, cond, ◌==◌, ◌&&◌, ltb, if◌then◌else◌}
use Rattle.std.proofs.lemmas.Bool.Decides.{Decides-eqb, Decides-ltb}
use mathlib.Core.Logic.{◌⊎◌, inl, inr}
use Rattle.cluster_events.specs.Settings.{Setting}
use Rattle.cluster_steps.specs.declared.events.Event.{Event}
use Rattle.cluster_steps.specs.declared.events.Event.TheVariants as event
use Rattle.election_core.specs.Allowed.{Allows, AllowsExactly, Takes}
use Rattle.election_core.specs.Counted.{acted, counted, counts_vote, counts_length, with_length}
use Rattle.election_core.specs.Counts.{with_bit}
use Rattle.election_core.specs.declared.messages.Action.{Action}
use Rattle.election_core.specs.declared.messages.Action.TheVariants as action
use Rattle.election_core.specs.declared.messages.Message.{Message}
use Rattle.election_core.specs.declared.messages.Message.TheVariants.{Vote, Granted, Adopt, Ship, Ack, Durable, Ping, Pong}
use Rattle.election_core.specs.declared.votes.NodeVote.{NodeVote}
use Rattle.node_commits.specs.Ledgers.{Settlement, told_after, told_behind, told_by}
use Rattle.node_clusters.proofs.PlaceLaws.{place_other, place_self, placed}
use Rattle.node_clusters.proofs.UpLaws.{was_up}
use Rattle.node_clusters.specs.Clusters.{HasPlace}
use Rattle.node_clusters.specs.Passes.{PassAll}
use Rattle.node_clusters.specs.Places.{node_at, votes}
use Rattle.node_clusters.specs.Reigns.{AllReign, KeepsLog, LeadsAnew, LeadsOn, Reigns, told_at}
use Rattle.node_state.proofs.CallLaws.{unchanged}
use Rattle.node_state.proofs.NumberLaws as stored_numbers
use Rattle.node_state.specs.Calls.{Answers, Did, IsAppend, IsAsBefore, IsDelivered, Judges, events_by, log_by, takes, takes_of, taken_log, through}
use Rattle.node_state.specs.Nodes.{IsOwn, events_of}
use Rattle.node_state.specs.Packets.{SentPacket, shipped_length}
use Rattle.node_state.specs.Stores.{Stored, held_of}
use Rattle.node_state.specs.declared.steps.Step.{Step}
use Rattle.node_state.specs.declared.steps.Step.TheVariants as step
use Rattle.phys_log.specs.declared.entries.Entry.{Entry}
use Rattle.quiet_cluster.proofs.Lists.{same_or}

-- events one after the other
told_join : (told : List Settlement) (es fs : List Event) → told_behind told (es ++ fs) ≡ told_behind (told_behind told es) fs
told_join told [] fs = refl
told_join told (e ∷ es) fs = told_join (told_after told e) es fs

pub told_did : (es : List Event) (old new : Stored) → Did es (held_of old) (held_of new) → told_at new ≡ told_behind (told_at old) es
told_did es old new d = ap told_by d.made ∙ told_join [] (events_of old.actor.made) es

-- takes tell nothing
takes_tell : (told : List Settlement) (g l k : ℕ) → told_behind told (takes g l k) ≡ told
takes_tell told g l zero = refl
takes_tell told g l (suc k) = told_join told (takes g l k) (event.Take g (l + suc k) ∷ []) ∙ takes_tell told g l k

takes_of_tell : (told : List Settlement) (v : NodeVote) (m : Message) (g l : ℕ) → told_behind told (takes_of v m g l) ≡ told
takes_of_tell told v m g l = go (ltb v.accepted g) (ltb v.length l)
  where
    go : (a b : Bool) → told_behind told (if a then event.Take g l ∷ [] else if b then takes g v.length (shipped_length m - v.length) else event.Take g l ∷ []) ≡ told
    go true b = refl
    go false true = takes_tell told g v.length (shipped_length m - v.length)
    go false false = refl

-- what is counted changes none of it
record Counts (v u : NodeVote) : Type 0 where
  accepted : u.accepted ≡ v.accepted
  promised : u.promised ≡ v.promised
  long : u.length ≡ v.length
  leading : u.leading ≡ v.leading

counts : (v : NodeVote) → Counts v v
counts v = record { accepted = refl; promised = refl; long = refl; leading = refl }

counted_same : (v : NodeVote) (m : Message) → Counts v (counted v m)
counted_same v (Granted f g to) = go (counts_vote v g to)
  where
    go : (b : Bool) → Counts v (cond b (record v { granted = with_bit v.granted f }) v)
    go true = record { accepted = refl; promised = refl; long = refl; leading = refl }
    go false = counts v
counted_same v (Ack f g l) = go (counts_length v g)
  where
    go : (b : Bool) → Counts v (cond b (record v { acked = with_length v.acked f l }) v)
    go true = record { accepted = refl; promised = refl; long = refl; leading = refl }
    go false = counts v
counted_same v (Vote f g a l) = counts v
counted_same v (Adopt f g l) = counts v
counted_same v (Ship f g l) = counts v
counted_same v (Durable f g l) = counts v
counted_same v (Ping f g t d) = counts v
counted_same v (Pong f g t) = counts v

-- it changed none of it
stays : (old new : Stored) → Counts old.vote new.vote → new.entries ≡ old.entries → told_at new ≡ told_at old → Reigns old new
stays old new c log told = record {
  rises = (let x : new.vote.accepted ≡ old.vote.accepted = c.accepted in omega arith);
  leads = λ up. inl (record { leading = sym c.leading ∙ up; same = c.accepted; told = told });
  log = λ e. record { grows = (let x : new.vote.length ≡ old.vote.length = c.long in omega arith); same = λ f. log };
}

pub reigns_still : (old new : Stored) → IsAsBefore (held_of old) (held_of new) → Reigns old new
reigns_still old new s = stays old new (subst (λ v. Counts old.vote v) (sym s.vote) (counts old.vote)) s.entries (told_did [] old new s.did)

-- it promised another generation
follows : (old new : Stored) → old.vote.accepted ≡ new.vote.accepted → new.vote.leading ≡ false → old.vote.length ≡ new.vote.length → new.entries ≡ old.entries → Reigns old new
follows old new same off long log = record {
  rises = omega arith;
  leads = λ on. absurd (cc);
  log = λ e. record { grows = omega arith; same = λ f. log };
}

pub reigns_standing : (old new : Stored) (g to : ℕ) → new.vote ≡ acted old.vote (action.Promise g to) → new.entries ≡ old.entries → Reigns old new
reigns_standing old new g to e log = follows old new (sym (ap (λ (v : NodeVote). v.accepted) e)) (ap (λ (v : NodeVote). v.leading) e) (sym (ap (λ (v : NodeVote). v.length) e)) log

-- it appends the first entry
pub reigns_setting_up : (old new : Stored) (x : Event) (e : Entry) → old.vote.length ≡ 0 → IsAppend e x → Did (x ∷ []) (held_of old) (held_of new) → new.vote ≡ record old.vote { length = 1 } → Reigns old new
reigns_setting_up old new x e empty append did vote = record {
  rises = (let a : new.vote.accepted ≡ old.vote.accepted = ap (λ (v : NodeVote). v.accepted) vote in omega arith);
  leads = λ on. inl (record { leading = sym (ap (λ (v : NodeVote). v.leading) vote) ∙ on; same = ap (λ (v : NodeVote). v.accepted) vote; told = told_did (x ∷ []) old new did ∙ tells_nothing x append });
  log = λ same. record { grows = (let b : new.vote.length ≡ 1 = ap (λ (v : NodeVote). v.length) vote in omega arith); same = λ f. absurd (let b : new.vote.length ≡ 1 = ap (λ (v : NodeVote). v.length) vote in omega arith) };
}
  where
    tells_nothing : (y : Event) → IsAppend e y → told_after (told_at old) y ≡ told_at old
    tells_nothing (event.Append next) h = refl
    tells_nothing _ h = absurd h

-- it leads
leads_anew : (old new : Stored) (v : NodeVote) (g : ℕ) → Counts old.vote v → v.accepted < g → new.vote ≡ acted v (action.Lead g) → told_at new ≡ [] → Reigns old new
leads_anew old new v g c above e none =
    let a : new.vote.accepted ≡ g = ap (λ (t : NodeVote). t.accepted) e in
    let b : v.accepted ≡ old.vote.accepted = c.accepted in
    record {
      rises = omega arith;
      leads = λ on. inr (record { above = omega arith; none = none });
      log = λ s. absurd (omega arith);
    }

may_lead : (v : NodeVote) (m : Message) (g : ℕ) → Allows v m (action.Lead g) → (counted v m).accepted < g
may_lead v (Granted f h to) g may = let p = may.0 in let a : h ≡ (counted v (Granted f h to)).promised = p.2 in let b : (counted v (Granted f h to)).accepted < (counted v (Granted f h to)).promised = p.3 in let c : g ≡ h = may.1 in omega arith
may_lead v (Vote f h a k) g may = absurd may
may_lead v (Adopt f h k) g may = absurd may
may_lead v (Ship f h k) g may = absurd may
may_lead v (Ack f h k) g may = absurd may
may_lead v (Durable f h k) g may = absurd may
may_lead v (Ping f h t d) g may = absurd may
may_lead v (Pong f h t) g may = absurd may

-- it takes a log
and_true : (a b : Bool) → (a && b) ≡ true → (a ≡ true) × (b ≡ true)
and_true true b e = (refl, e)
and_true false b e = absurd (let x : false ≡ true = e in cc)

record MayTakeSo (v : NodeVote) (m : Message) (g l : ℕ) : Type 0 where
  promised : v.promised ≤ g
  takes : Takes v g (shipped_length m) l

may_take : (v : NodeVote) (m : Message) (g l : ℕ) → Allows v m (action.Take g l) → MayTakeSo v m g l
may_take v (Adopt f h k) g l may = let e : h ≡ g = sym may.1 in subst (λ t. MayTakeSo v (Adopt f h k) t l) e (record { promised = may.0.1; takes = may.0.2 })
may_take v (Ship f h k) g l may = let e : h ≡ g = sym may.1 in subst (λ t. MayTakeSo v (Ship f h k) t l) e (record { promised = may.0.1; takes = may.0.2 })
may_take v (Granted f h to) g l may = absurd may
may_take v (Vote f h a k) g l may = absurd may
may_take v (Ack f h k) g l may = absurd may
may_take v (Durable f h k) g l may = absurd may
may_take v (Ping f h t d) g l may = absurd may
may_take v (Pong f h t) g l may = absurd may

not_less : (a b : ℕ) → (a < b → ⊥) → ltb a b ≡ false
not_less a b h = go (ltb a b) refl
  where
    go : (t : Bool) → ltb a b ≡ t → ltb a b ≡ false
    go true e = absurd (h ((Decides-ltb a b).0 e))
    go false e = e

longer : (v : NodeVote) (g k l : ℕ) → Takes v g k l → g ≡ v.accepted → v.length ≤ k
longer v g k l (inl t) e = absurd (let x : v.accepted < g = t.0 in omega arith)
longer v g k l (inr (inl t)) e = let x : v.length < k = t.1.0 in omega arith
longer v g k l (inr (inr t)) e = let x : v.length ≡ k = t.1.0 in omega arith

no_longer : (v : NodeVote) (g k l : ℕ) → Takes v g k l → g ≡ v.accepted → k ≡ v.length → v.length < l → ⊥
no_longer v g k l (inl t) e f lt = absurd (let x : v.accepted < g = t.0 in omega arith)
no_longer v g k l (inr (inl t)) e f lt = absurd (let x : v.length < k = t.1.0 in omega arith)
no_longer v g k l (inr (inr t)) e f lt = absurd (let x : v.length ≡ k = t.1.0 in let y : l ≡ k = t.1.1 in omega arith)

same_log : (v : NodeVote) (m : Message) (es : List Entry) (g l : ℕ) (log : List Entry) → (v.accepted < g → ⊥) → (v.length < l → ⊥) → taken_log v m es g l log ≡ log
same_log v m es g l log a b = go (ltb v.accepted g) (ltb v.length l) (not_less v.accepted g a) (not_less v.length l b)
  where
    go : (x y : Bool) → x ≡ false → y ≡ false → (if x then es else if y then log ++ drop (v.length - (shipped_length m - length es)) es else log) ≡ log
    go false false e f = refl
    go true y e f = absurd (cc)
    go false true e f = absurd (cc)

reigns_taking : (old new : Stored) (m : Message) (es : List Entry) (v : NodeVote) (g l : ℕ) → old.vote.accepted ≤ old.vote.promised → Counts old.vote v → MayTakeSo old.vote m g l → new.vote ≡ acted v (action.Take g (shipped_length m))
    → new.entries ≡ taken_log old.vote m es g l old.entries → told_at new ≡ told_at old → Reigns old new
reigns_taking old new m es v g l below c may e log told = record {
  rises = (let p : old.vote.promised ≤ g = may.promised in let q : new.vote.accepted ≡ g = a in omega arith);
  leads = λ on. inl (led (and_true v.leading (v.accepted == g) (sym (ap (λ (t : NodeVote). t.leading) e) ∙ on)));
  log = λ same. kept (sym a ∙ same);
}
  where
    a : new.vote.accepted ≡ g
    a = ap (λ (t : NodeVote). t.accepted) e

    long : new.vote.length ≡ shipped_length m
    long = ap (λ (t : NodeVote). t.length) e

    led : (v.leading ≡ true) × ((v.accepted == g) ≡ true) → LeadsOn old new
    led t = record { leading = sym c.leading ∙ t.0; same = a ∙ (sym ((Decides-eqb v.accepted g).0 t.1) ∙ c.accepted); told = told }

    kept : g ≡ old.vote.accepted → KeepsLog old new
    kept same = record {
      grows = (let x = longer old.vote g (shipped_length m) l may.takes same in let q : new.vote.length ≡ shipped_length m = long in omega arith);
      same = λ f. log ∙ same_log old.vote m es g l old.entries (λ lt. omega arith) (λ lt. no_longer old.vote g (shipped_length m) l may.takes same (sym long ∙ f) lt);
    }

pub answers_reign : (m : Message) (es : List Entry) (ps : List SentPacket) (old new : Stored) → old.vote.accepted ≤ old.vote.promised → Answers m es ps (held_of old) (held_of new) → Reigns old new
answers_reign m es ps old new below x = go x.action x.judged x.acts.vote x.acts.entries (told_did (events_by old.vote m x.action) old new x.acts.did)
  where
    c : Counts old.vote (counted old.vote m)
    c = counted_same old.vote m

    exactly : (a : Action) → Judges old.vote m es a → (a ≡ action.Nothing → ⊥) → AllowsExactly old.vote m a
    exactly a (inl t) ne = t.1
    exactly a (inr t) ne = absurd (ne t.1)

    known : (d : ℕ) → new.vote ≡ acted (counted old.vote m) (action.Know d) → Counts old.vote new.vote
    known d e = subst (λ z. Counts old.vote z) (sym e) (record { accepted = c.accepted; promised = c.promised; long = c.long; leading = c.leading })

    same : new.vote ≡ counted old.vote m → Counts old.vote new.vote
    same e = subst (λ v. Counts old.vote v) (sym e) c

    go : (a : Action) → Judges old.vote m es a → new.vote ≡ acted (counted old.vote m) (through m a) → new.entries ≡ log_by old.vote m es a old.entries → told_at new ≡ told_behind (told_at old) (events_by old.vote m a) → Reigns old new
    go action.Nothing j v l t = stays old new (same v) l t
    go (action.Promise g to) j v l t = follows old new (sym (ap (λ (z : NodeVote). z.accepted) v ∙ c.accepted)) (ap (λ (z : NodeVote). z.leading) v) (sym (ap (λ (z : NodeVote). z.length) v ∙ c.long)) l
    go (action.Lead g) j v l t = leads_anew old new (counted old.vote m) g c (may_lead old.vote m g (exactly (action.Lead g) j (λ e. cc))) v t
    go (action.Take g k) j v l t = reigns_taking old new m es (counted old.vote m) g k below c (may_take old.vote m g k (exactly (action.Take g k) j (λ e. cc))) v l (t ∙ takes_of_tell (told_at old) old.vote m g k)
    go (action.Know d) j v l t = stays old new (known d v) l t
    go (action.Answer (Pong f g a) to) j v l t = stays old new (same v) l t
    go (action.Answer (Vote f g a k) to) j v l t = stays old new (same v) l t
    go (action.Answer (Granted f g a) to) j v l t = stays old new (same v) l t
    go (action.Answer (Adopt f g a) to) j v l t = stays old new (same v) l t
    go (action.Answer (Ship f g a) to) j v l t = stays old new (same v) l t
    go (action.Answer (Ack f g a) to) j v l t = stays old new (same v) l t
    go (action.Answer (Durable f g a) to) j v l t = stays old new (same v) l t
    go (action.Answer (Ping f g a d) to) j v l t = stays old new (same v) l t

-- one after the other
leads_then : (a b c : Stored) → Reigns a b → Reigns b c → c.vote.leading ≡ true → LeadsOn a c ⊎ LeadsAnew a c
leads_then a b c x y on = go (y.leads on)
  where
    first : LeadsOn b c → LeadsOn a b ⊎ LeadsAnew a b → LeadsOn a c ⊎ LeadsAnew a c
    first t (inl s) = inl (record { leading = s.leading; same = t.same ∙ s.same; told = t.told ∙ s.told })
    first t (inr s) = inr (record { above = (let p : a.vote.accepted < b.vote.accepted = s.above in let q : c.vote.accepted ≡ b.vote.accepted = t.same in omega arith); none = t.told ∙ s.none })

    go : LeadsOn b c ⊎ LeadsAnew b c → LeadsOn a c ⊎ LeadsAnew a c
    go (inl t) = first t (x.leads t.leading)
    go (inr t) = inr (record { above = (let p = x.rises in let q = t.above in omega arith); none = t.none })

pub reigns_then : (a b c : Stored) → Reigns a b → Reigns b c → Reigns a c
reigns_then a b c x y = record {
  rises = (let p = x.rises in let q = y.rises in omega arith);
  leads = leads_then a b c x y;
  log = λ e. keeps e (let p = x.rises in let q = y.rises in let r : b.vote.accepted ≡ a.vote.accepted = omega arith in r);
}
  where
    keeps : c.vote.accepted ≡ a.vote.accepted → b.vote.accepted ≡ a.vote.accepted → KeepsLog a c
    keeps e f =
        let k = x.log f in
        let l = y.log (e ∙ sym f) in
        record {
          grows = (let p = k.grows in let q = l.grows in omega arith);
          same = λ s. (let p = k.grows in let q = l.grows in let r : b.vote.length ≡ a.vote.length = omega arith in l.same (s ∙ sym r) ∙ k.same r);
        }

pub all_reign_themselves : (vs : List Stored) → AllReign vs vs
all_reign_themselves vs = record { each = λ k up. reigns_still (node_at vs k) (node_at vs k) (unchanged (held_of (node_at vs k))) }

pub all_reign_then : (vs us ws : List Stored) → PassAll us ws → AllReign vs us → AllReign us ws → AllReign vs ws
all_reign_then vs us ws p a b = record { each = λ k up. reigns_then (node_at vs k) (node_at us k) (node_at ws k) (a.each k (was_up (node_at us k) (node_at ws k) (p.each k) up)) (b.each k up) }

-- one node alone
pub reigns_at : (vs us : List Stored) (i : ℕ) (u : Stored) → HasPlace vs i → us ≡ slice_set vs (i - 1) u → (u.vote.up ≡ true → Reigns (node_at vs i) u) → AllReign vs us
reigns_at vs us i u place put r = subst (λ t. AllReign vs t) (sym put) (record { each = λ k up. go k up (same_or k i) })
  where
    go : (k : ℕ) → (votes (slice_set vs (i - 1) u) k).up ≡ true → (k ≡ i) ⊎ (k ≡ i → ⊥) → Reigns (node_at vs k) (node_at (slice_set vs (i - 1) u) k)
    go k up (inl e) = subst (λ j. Reigns (node_at vs j) (node_at (slice_set vs (i - 1) u) j)) (sym e)
        (subst (λ t. Reigns (node_at vs i) t) (sym (place_self vs i u place.0 place.1))
        (r (ap (λ (t : Stored). t.vote.up) (sym (ap (λ j. node_at (slice_set vs (i - 1) u) j) e ∙ place_self vs i u place.0 place.1)) ∙ up)))
    go k up (inr ne) = subst (λ t. Reigns (node_at vs k) t) (sym (place_other vs i u k place.0 ne)) (reigns_still (node_at vs k) (node_at vs k) (unchanged (held_of (node_at vs k))))

pub one_reigns : (vs us : List Stored) (i : ℕ) (v u : Stored) → 0 < i → i ≤ length vs → v ≡ get_or vs (i - 1) v → us ≡ slice_set vs (i - 1) u → (u.vote.up ≡ true → Reigns v u) → AllReign vs us
one_reigns vs us i v u low high at put r = reigns_at vs us i u (low, high) put (λ up. subst (λ t. Reigns t u) (sym (placed vs i v low high at)) (r up))

-- a packet that was delivered
pub taken_reigns : (G : Setting) (p : SentPacket) (s : Step (Vec SentPacket Global)) (old new : Stored) → IsOwn G (held_of old) → old.vote.up ≡ true → IsDelivered p s (held_of old) (held_of new) → new.vote.up ≡ true → Reigns old new
taken_reigns G p (step.Sent ps) old new own was d up = answers_reign p.message p.entries ps.items old new (stored_numbers.below G old.vote old.entries old.actor.seen own.node) d.1
taken_reigns G p step.Down old new own was d up = absurd (let x : old.vote.up ≡ false = d.0 in cc)
taken_reigns G p step.Fault old new own was d up = absurd (let x : new.vote.up ≡ false = ap (λ (v : NodeVote). v.up) d.1.falls.vote in cc)

pub reigns_between : (old mid next new : Stored) → IsAsBefore (held_of old) (held_of mid) → (next.vote.up ≡ true → Reigns mid next) → IsAsBefore (held_of next) (held_of new) → new.vote.up ≡ true → Reigns old new
reigns_between old mid next new a r b up =
    reigns_then old mid new (reigns_still old mid a) (reigns_then mid next new (r (ap (λ (v : NodeVote). v.up) (sym b.vote) ∙ up)) (reigns_still next new b))
