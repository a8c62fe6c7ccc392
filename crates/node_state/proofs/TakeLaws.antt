-- What a node does when it takes a log: whole, an entry after the other, or the same length again.
use Rattle.std.proofs.Common.{ℕ, ◌≡◌, ◌+◌, ◌-◌, ◌<◌, ◌≤◌, List, [], ◌∷◌, ◌++◌, length, drop, map, length-append, arith, refl, sym, subst, ap, ◌∙◌}
use Rattle.std.specs.Prelude.{zero, suc, Some, Bool, true, false, ltb, if◌then◌else◌, slice_get, ◌==◌, ◌&&◌}
use Rattle.std.proofs.lemmas.Bool.Decides.{nat_tests, Decides-eqb}
use mathlib.Core.Logic.{inl, inr}
use Rattle.actor_trace.specs.Steps.{Adds}
use Rattle.cluster_events.specs.Settings.{Setting}
use Rattle.cluster_requests.specs.KeptEntries.{plain}
use Rattle.cluster_steps.specs.declared.events.Event.{Event}
use Rattle.cluster_steps.specs.declared.events.Event.TheVariants.{Take}
use Rattle.cluster_steps.proofs.OwnLaws.{tells_begins}
use Rattle.election_core.specs.Allowed.{Allows, Takes}
use Rattle.election_core.specs.Counted.{acted, counted}
use Rattle.election_core.specs.Senders.{sender_of}
use Rattle.election_core.proofs.Keeping.{same_after}
use Rattle.election_core.specs.declared.messages.Action.TheVariants as action
use Rattle.election_core.specs.declared.messages.Message.{Message}
use Rattle.election_core.specs.declared.messages.Message.TheVariants.{Ack}
use Rattle.election_core.specs.declared.votes.NodeVote.{NodeVote}
use Rattle.phys_log.specs.declared.entries.Entry.{Entry}
use Rattle.node_state.specs.Calls.{Did, Joins, Acts, IsPartly, TakesOne, Continues, takes, left_of, through, vote_taken}
use Rattle.node_state.specs.Nodes.{IsOwn, Held, Follows}
use Rattle.node_state.specs.Packets.{IsPacket, AreSent, packet, packets_of, shipped_in, shipped_length}
use Rattle.node_state.proofs.LogLists.{drop_at, put_step, none_behind, map_size}
use Rattle.node_state.proofs.SentLaws.{packet_on, take_acked, ack_sent}
use Rattle.node_state.proofs.CallLaws.{did_then}
use Rattle.node_state.proofs.ShipLaws.{shipped, takes_whole, takes_one, takes_none, takes_ships, takes_all_new, counted_ships, continues_allows}

own_take : (G : Setting) (old : Held) (g l : ℕ) (new : List (ℕ × Event)) → IsOwn G old → Adds old.actor.number (Take g l) old.actor.seen new → Adds old.vote.node (Take g l) old.actor.seen new
own_take G old g l new own d = subst (λ t. Adds t (Take g l) old.actor.seen new) (sym own.number_is) d

less : (a b : ℕ) → a < b → ltb a b ≡ true
less a b h = grind (arith, nat_tests)

not_less : (a b : ℕ) → (a < b → ⊥) → ltb a b ≡ false
not_less a b h = grind (arith, nat_tests)

-- the acknowledgement of all that is shipped
whole_sent : (G : Setting) (old new : Held) (m : Message) (es : List Entry) (g l s : ℕ) → IsOwn G old → IsOwn G new → IsPacket G m es old.actor.seen → Allows old.vote m (action.Take g l)
    → 1 ≤ s → s ≤ G.nodes → l ≡ shipped_length m → new.vote.node ≡ old.vote.node → Adds old.actor.number (Take g l) old.actor.seen new.actor.seen
    → AreSent G new.actor.seen (packets_of new.vote (through m (action.Take g l)) new.entries s)
whole_sent G old new m es g l s own after p may low high all same d =
    let x = take_acked old.vote old.entries old.actor.seen new.actor.seen m es g l own.node p may (own_take G old g l new.actor.seen own d) after.node.legal in
    subst (λ k. AreSent G new.actor.seen (packet s (Ack k g (shipped_length m)) [] ∷ [])) (sym same)
    (subst (λ k. AreSent G new.actor.seen (packet s (Ack old.vote.node g k) [] ∷ [])) all (ack_sent new.actor.seen old.vote.node g l s low high x))

-- a log of a newer generation
pub whole_follows : (G : Setting) (old : Held) (u : NodeVote) (log : List Entry) (m : Message) (es : List Entry) (g l : ℕ) → IsOwn G old → IsPacket G m es old.actor.seen → Allows old.vote m (action.Take g l)
    → old.vote.accepted < g → Joins old.vote m es → log ≡ es → u ≡ acted (counted old.vote m) (action.Take g l) → Follows G old.vote.node (Take g l) u log old.actor.seen
whole_follows G old u log m es g l own p may lt j e q =
    subst (λ t. Follows G old.vote.node (Take g l) t log old.actor.seen) (sym q) (takes_whole old.vote old.entries log old.actor.seen m es g l own.node p may lt j e)

all_new : (G : Setting) (old : Held) (m : Message) (es : List Entry) (g l : ℕ) → IsPacket G m es old.actor.seen → Allows old.vote m (action.Take g l) → old.vote.accepted < g → l ≡ shipped_length m
all_new G old m es g l p may lt = takes_all_new old.vote g (shipped_length m) l lt (shipped old.vote old.actor.seen m es g l p may).takes

pub whole_acts : (G : Setting) (old new : Held) (u : NodeVote) (m : Message) (es : List Entry) (g l : ℕ) → IsPacket G m es old.actor.seen → Allows old.vote m (action.Take g l)
    → old.vote.accepted < g → u ≡ acted (counted old.vote m) (action.Take g l) → Did (Take g l ∷ []) old new → new.vote ≡ u → new.entries ≡ es → Acts old.vote m es (action.Take g l) old new
whole_acts G old new u m es g l p may lt q d v e =
    let y = less old.vote.accepted g lt in
    let all = all_new G old m es g l p may lt in
    record {
      did = subst (λ b. Did (if b then Take g l ∷ [] else if ltb old.vote.length l then takes g old.vote.length (shipped_length m - old.vote.length) else Take g l ∷ []) old new) (sym y) d;
      vote = v ∙ (q ∙ ap (λ k. acted (counted old.vote m) (action.Take g k)) all);
      entries = subst (λ b. new.entries ≡ (if b then es else if ltb old.vote.length l then old.entries ++ drop (old.vote.length - (shipped_length m - length es)) es else old.entries)) (sym y) e;
    }

pub whole_sends : (G : Setting) (old new : Held) (u : NodeVote) (m : Message) (es : List Entry) (g l s : ℕ) → IsOwn G old → IsOwn G new → IsPacket G m es old.actor.seen → Allows old.vote m (action.Take g l)
    → s ≡ sender_of m → old.vote.accepted < g → u ≡ acted (counted old.vote m) (action.Take g l) → new.vote ≡ u → Adds old.actor.number (Take g l) old.actor.seen new.actor.seen
    → AreSent G new.actor.seen (packets_of new.vote (through m (action.Take g l)) new.entries s)
whole_sends G old new u m es g l s own after p may from lt q v d =
    whole_sent G old new m es g l s own after p may (subst (λ k. 1 ≤ k) (sym from) p.low) (subst (λ k. k ≤ G.nodes) (sym from) p.high) (all_new G old m es g l p may lt)
    (same_after old.vote new.vote m (action.Take g l) (v ∙ q)).0 d

-- the same length again
pub none_follows : (G : Setting) (old : Held) (u : NodeVote) (m : Message) (es : List Entry) (g l : ℕ) → IsOwn G old → IsPacket G m es old.actor.seen → Allows old.vote m (action.Take g l)
    → (old.vote.accepted < g → ⊥) → (old.vote.length < l → ⊥) → u ≡ acted (counted old.vote m) (action.Take g l) → Follows G old.vote.node (Take g l) u old.entries old.actor.seen
none_follows G old u m es g l own p may ge le q =
    subst (λ t. Follows G old.vote.node (Take g l) t old.entries old.actor.seen) (sym q) (takes_none old.vote old.entries old.actor.seen m es g l own.node p may ge le)

all_again : (G : Setting) (old : Held) (m : Message) (es : List Entry) (g l : ℕ) → IsPacket G m es old.actor.seen → Allows old.vote m (action.Take g l) → (old.vote.length < l → ⊥) → l ≡ shipped_length m
all_again G old m es g l p may le = go (shipped old.vote old.actor.seen m es g l p may).takes
  where
    go : Takes old.vote g (shipped_length m) l → l ≡ shipped_length m
    go (inl t) = t.1
    go (inr (inl t)) = absurd (le (let b : l ≡ old.vote.length + 1 = t.1.1 in omega arith))
    go (inr (inr t)) = t.1.1

pub none_acts : (G : Setting) (old new : Held) (u : NodeVote) (m : Message) (es : List Entry) (g l : ℕ) → IsPacket G m es old.actor.seen → Allows old.vote m (action.Take g l)
    → (old.vote.accepted < g → ⊥) → (old.vote.length < l → ⊥) → u ≡ acted (counted old.vote m) (action.Take g l) → Did (Take g l ∷ []) old new → new.vote ≡ u → new.entries ≡ old.entries
    → Acts old.vote m es (action.Take g l) old new
none_acts G old new u m es g l p may ge le q d v e =
    let y = not_less old.vote.accepted g ge in
    let z = not_less old.vote.length l le in
    record {
      did = subst (λ b. Did (if b then Take g l ∷ [] else if ltb old.vote.length l then takes g old.vote.length (shipped_length m - old.vote.length) else Take g l ∷ []) old new) (sym y)
          (subst (λ b. Did (if b then takes g old.vote.length (shipped_length m - old.vote.length) else Take g l ∷ []) old new) (sym z) d);
      vote = v ∙ (q ∙ ap (λ k. acted (counted old.vote m) (action.Take g k)) (all_again G old m es g l p may le));
      entries = subst (λ b. new.entries ≡ (if b then es else if ltb old.vote.length l then old.entries ++ drop (old.vote.length - (shipped_length m - length es)) es else old.entries)) (sym y)
          (subst (λ b. new.entries ≡ (if b then old.entries ++ drop (old.vote.length - (shipped_length m - length es)) es else old.entries)) (sym z) e);
    }

pub none_sends : (G : Setting) (old new : Held) (u : NodeVote) (m : Message) (es : List Entry) (g l s : ℕ) → IsOwn G old → IsOwn G new → IsPacket G m es old.actor.seen → Allows old.vote m (action.Take g l)
    → s ≡ sender_of m → (old.vote.length < l → ⊥) → u ≡ acted (counted old.vote m) (action.Take g l) → new.vote ≡ u → Adds old.actor.number (Take g l) old.actor.seen new.actor.seen
    → AreSent G new.actor.seen (packets_of new.vote (through m (action.Take g l)) new.entries s)
none_sends G old new u m es g l s own after p may from le q v d =
    whole_sent G old new m es g l s own after p may (subst (λ k. 1 ≤ k) (sym from) p.low) (subst (λ k. k ≤ G.nodes) (sym from) p.high) (all_again G old m es g l p may le)
    (same_after old.vote new.vote m (action.Take g l) (v ∙ q)).0 d

-- one entry
pub place_within : (v : NodeVote) (m : Message) (es : List Entry) → Continues v m → Joins v m es → v.length - (shipped_length m - length es) < length es
place_within v m es c j = let a : v.length < shipped_length m = c.less in let b : shipped_length m ≤ v.length + length es = j.reaches in omega arith

pub one_follows : (G : Setting) (old : Held) (u : NodeVote) (log : List Entry) (at : ℕ) (e : Entry) (m : Message) (es : List Entry) (g l : ℕ) → IsOwn G old → IsPacket G m es old.actor.seen → Continues old.vote m → Joins old.vote m es
    → at ≡ old.vote.length - (shipped_length m - length es) → slice_get es at ≡ Some e → g ≡ shipped_in m → l ≡ old.vote.length + 1 → log ≡ old.entries ++ e ∷ [] → u ≡ acted old.vote (action.Take g l)
    → Follows G old.vote.node (Take g l) u log old.actor.seen
one_follows G old u log at e m es g l own p c j place got gen size grown q =
    let a : old.vote.length < shipped_length m = c.less in
    let f = takes_one old.vote old.entries log at e old.actor.seen m es (shipped_in m) (old.vote.length + 1) own.node p (continues_allows old.vote m c) c.accepted refl (omega arith) j place got grown in
    let w : u ≡ acted (counted old.vote m) (action.Take g l) = q ∙ ap (λ t. acted t (action.Take g l)) (sym (counted_ships old.vote m c.ships)) in
    subst (λ t. Follows G old.vote.node (Take g l) t log old.actor.seen) (sym w)
    (subst (λ t. Follows G old.vote.node (Take t l) (acted (counted old.vote m) (action.Take t l)) log old.actor.seen) (sym gen)
    (subst (λ t. Follows G old.vote.node (Take (shipped_in m) t) (acted (counted old.vote m) (action.Take (shipped_in m) t)) log old.actor.seen) (sym size) f))

pub one_takes : (G : Setting) (old new : Held) (u : NodeVote) (at : ℕ) (e : Entry) (m : Message) (es : List Entry) (g l : ℕ) → IsOwn G old → IsOwn G new → IsPacket G m es old.actor.seen → Continues old.vote m → Joins old.vote m es
    → at ≡ old.vote.length - (shipped_length m - length es) → slice_get es at ≡ Some e → g ≡ shipped_in m → l ≡ old.vote.length + 1 → u ≡ acted old.vote (action.Take g l)
    → new.entries ≡ old.entries ++ e ∷ [] → new.vote ≡ u → Did (Take g l ∷ []) old new → Adds old.actor.number (Take g l) old.actor.seen new.actor.seen → new.actor.room + 1 ≡ old.actor.room → TakesOne G m es old new
one_takes G old new u at e m es g l own after p c j place got gen size q log v d add room =
    let a : old.vote.length < shipped_length m = c.less in
    let b : shipped_length m ≤ old.vote.length + length es = j.reaches in
    let t : acted old.vote (action.Take g l) ≡ acted old.vote (action.Take (shipped_in m) (old.vote.length + 1)) = ap (λ x. acted old.vote (action.Take x l)) gen ∙ ap (λ x. acted old.vote (action.Take (shipped_in m) x)) size in
    let vote : new.vote ≡ acted old.vote (action.Take (shipped_in m) (old.vote.length + 1)) = v ∙ (q ∙ t) in
    let long : new.vote.length ≡ old.vote.length + 1 = ap (λ (x : NodeVote). x.length) vote in
    let gap : new.vote.length - (shipped_length m - length es) ≡ suc at = omega arith in
    let add2 = subst (λ x. Adds old.actor.number (Take x (old.vote.length + 1)) old.actor.seen new.actor.seen) gen (subst (λ x. Adds old.actor.number (Take g x) old.actor.seen new.actor.seen) size add) in
    let ack = take_acked old.vote old.entries old.actor.seen new.actor.seen m es (shipped_in m) (old.vote.length + 1) own.node p (continues_allows old.vote m c) (own_take G old (shipped_in m) (old.vote.length + 1) new.actor.seen own add2) after.node.legal in
    record {
      did = subst (λ x. Did (Take x (old.vote.length + 1) ∷ []) old new) gen (subst (λ x. Did (Take g x ∷ []) old new) size d);
      vote = vote;
      left = ap (λ x. x ++ left_of new.vote.length m es) log ∙ (put_step old.entries e (left_of new.vote.length m es)
          ∙ (ap (λ k. old.entries ++ e ∷ drop k es) gap ∙ (ap (λ x. old.entries ++ x) (sym (drop_at es at e got)) ∙ ap (λ k. old.entries ++ drop k es) place)));
      acked = subst (λ k. IsPacket G (Ack k (shipped_in m) new.vote.length) [] new.actor.seen) (sym (ap (λ (x : NodeVote). x.node) vote))
          (subst (λ k. IsPacket G (Ack old.vote.node (shipped_in m) k) [] new.actor.seen) (sym long) ack);
      room = room;
    }

-- entries one after the other
pub record HasTaken (G : Setting) (m : Message) (es : List Entry) (old now : Held) : Type 0 where
  pub own : IsOwn G now
  pub packet : IsPacket G m es now.actor.seen
  pub some : old.vote.length < now.vote.length
  pub within : now.vote.length ≤ shipped_length m
  pub vote : now.vote ≡ acted old.vote (action.Take (shipped_in m) now.vote.length)
  pub did : Did (takes (shipped_in m) old.vote.length (now.vote.length - old.vote.length)) old now
  pub left : now.entries ++ left_of now.vote.length m es ≡ old.entries ++ left_of old.vote.length m es
  pub acked : IsPacket G (Ack now.vote.node (shipped_in m) now.vote.length) [] now.actor.seen
  pub room : shipped_length m ≤ now.vote.length + now.actor.room

take_twice : (v : NodeVote) (g a b : ℕ) → acted (acted v (action.Take g a)) (action.Take g b) ≡ acted v (action.Take g b)
take_twice v g a b = ap (λ x. record v { promised = g; accepted = g; length = b; granted = 0; leading = x }) (go (v.leading && v.accepted == g))
  where
    go : (x : Bool) → (x && g == g) ≡ x
    go true = (Decides-eqb g g).1 refl
    go false = refl

one_long : (G : Setting) (m : Message) (es : List Entry) (old now : Held) → TakesOne G m es old now → now.vote.length ≡ old.vote.length + 1
one_long G m es old now t = ap (λ (x : NodeVote). x.length) t.vote

pub first_taken : (G : Setting) (m : Message) (es : List Entry) (old now : Held) → IsPacket G m es old.actor.seen → Continues old.vote m → Joins old.vote m es → length es + 1 ≤ old.actor.room → IsOwn G now → TakesOne G m es old now
    → HasTaken G m es old now
first_taken G m es old now p c j room own t =
    let e : now.vote.length ≡ old.vote.length + 1 = one_long G m es old now t in
    let a : old.vote.length < shipped_length m = c.less in
    let b : shipped_length m ≤ old.vote.length + length es = j.reaches in
    let r : now.actor.room + 1 ≡ old.actor.room = t.room in
    let k : now.vote.length - old.vote.length ≡ 1 = omega arith in
    record {
      own = own;
      packet = packet_on (tells_begins G old.actor.seen now.actor.seen t.did.more) p;
      some = omega arith;
      within = omega arith;
      vote = t.vote ∙ ap (λ x. acted old.vote (action.Take (shipped_in m) x)) (sym e);
      did = subst (λ x. Did (takes (shipped_in m) old.vote.length x) old now) (sym k) t.did;
      left = t.left;
      acked = t.acked;
      room = omega arith;
    }

pub more_taken : (G : Setting) (m : Message) (es : List Entry) (old mid now : Held) → HasTaken G m es old mid → mid.vote.length < shipped_length m → IsOwn G now → TakesOne G m es mid now → HasTaken G m es old now
more_taken G m es old mid now h lt own t =
    let e : now.vote.length ≡ mid.vote.length + 1 = one_long G m es mid now t in
    let s : old.vote.length < mid.vote.length = h.some in
    let r : now.actor.room + 1 ≡ mid.actor.room = t.room in
    let room : shipped_length m ≤ mid.vote.length + mid.actor.room = h.room in
    let k : now.vote.length - old.vote.length ≡ suc (mid.vote.length - old.vote.length) = omega arith in
    let place : mid.vote.length + 1 ≡ old.vote.length + suc (mid.vote.length - old.vote.length) = omega arith in
    record {
      own = own;
      packet = packet_on (tells_begins G mid.actor.seen now.actor.seen t.did.more) h.packet;
      some = omega arith;
      within = omega arith;
      vote = t.vote ∙ (ap (λ x. acted x (action.Take (shipped_in m) (mid.vote.length + 1))) h.vote ∙ (take_twice old.vote (shipped_in m) mid.vote.length (mid.vote.length + 1) ∙ ap (λ x. acted old.vote (action.Take (shipped_in m) x)) (sym e)));
      did = subst (λ x. Did (takes (shipped_in m) old.vote.length x) old now) (sym k)
          (subst (λ x. Did (takes (shipped_in m) old.vote.length (mid.vote.length - old.vote.length) ++ Take (shipped_in m) x ∷ []) old now) place
          (did_then (takes (shipped_in m) old.vote.length (mid.vote.length - old.vote.length)) (Take (shipped_in m) (mid.vote.length + 1) ∷ []) old mid now h.did t.did));
      left = t.left ∙ h.left;
      acked = t.acked;
      room = omega arith;
    }

pub goes_on : (G : Setting) (m : Message) (es : List Entry) (old now : Held) → Continues old.vote m → HasTaken G m es old now → now.vote.length < shipped_length m → Continues now.vote m
goes_on G m es old now c h lt =
    let v = h.vote in
    record {
      ships = c.ships;
      up = ap (λ (x : NodeVote). x.up) v ∙ c.up;
      promised = let e : now.vote.promised ≡ shipped_in m = ap (λ (x : NodeVote). x.promised) v in omega arith;
      accepted = ap (λ (x : NodeVote). x.accepted) v;
      less = lt;
    }

pub still_joins : (G : Setting) (m : Message) (es : List Entry) (old now : Held) → Joins old.vote m es → HasTaken G m es old now → Joins now.vote m es
still_joins G m es old now j h =
    let a : old.vote.length < now.vote.length = h.some in
    let b : shipped_length m ≤ old.vote.length + length es = j.reaches in
    record {
      reaches = omega arith;
      whole = λ lt. (let e : now.vote.accepted ≡ shipped_in m = ap (λ (x : NodeVote). x.accepted) h.vote in absurd (omega arith));
    }

pub room_left : (G : Setting) (m : Message) (es : List Entry) (old now : Held) → HasTaken G m es old now → now.vote.length < shipped_length m → 0 < now.actor.room
room_left G m es old now h lt = let a : shipped_length m ≤ now.vote.length + now.actor.room = h.room in omega arith

some_taken : (v : NodeVote) (g k : ℕ) → 0 < k → vote_taken v g k ≡ acted v (action.Take g (v.length + k))
some_taken v g zero some = absurd (omega arith)
some_taken v g (suc k) some = refl

pub partly_taken : (G : Setting) (m : Message) (es : List Entry) (old now : Held) → Joins old.vote m es → HasTaken G m es old now → IsPartly m es old now
partly_taken G m es old now j h =
    let a : old.vote.length < now.vote.length = h.some in
    let b : now.vote.length ≤ shipped_length m = h.within in
    let r : shipped_length m ≤ old.vote.length + length es = j.reaches in
    let all : now.vote.length ≡ old.vote.length + (now.vote.length - old.vote.length) = omega arith in
    record {
      taken = now.vote.length - old.vote.length;
      within = omega arith;
      did = h.did;
      vote = h.vote ∙ (ap (λ k. acted old.vote (action.Take (shipped_in m) k)) all ∙ sym (some_taken old.vote (shipped_in m) (now.vote.length - old.vote.length) (omega arith)));
      left = h.left;
    }

-- all of them
drop_none : (n : ℕ) (xs : List Entry) → length xs ≤ n → drop n xs ≡ []
drop_none zero [] le = refl
drop_none (suc n) [] le = refl
drop_none zero (x ∷ xs) le = absurd (omega arith)
drop_none (suc n) (x ∷ xs) le = drop_none n xs (omega arith)

within : (G : Setting) (v : NodeVote) (seen : List (ℕ × Event)) (m : Message) (es : List Entry) (g l : ℕ) → IsPacket G m es seen → Allows v m (action.Take g l) → length es ≤ shipped_length m
within G v seen m es g l p may =
    let s = shipped v seen m es g l p may in
    let a : length (map plain s.ship.log) ≡ length (s.ends.0 ++ es) = ap length s.ends.1 in
    let b : length (s.ends.0 ++ es) ≡ length s.ends.0 + length es = length-append s.ends.0 es in
    let c : length s.ship.log ≡ shipped_length m = s.size in
    let d : length (map plain s.ship.log) ≡ length s.ship.log = map_size plain s.ship.log in
    omega arith

pub rest_acts : (G : Setting) (old now : Held) (m : Message) (es : List Entry) (g l : ℕ) → IsPacket G m es old.actor.seen → Allows old.vote m (action.Take g l) → (old.vote.accepted < g → ⊥) → old.vote.length < l
    → HasTaken G m es old now → (now.vote.length < shipped_length m → ⊥) → Acts old.vote m es (action.Take g l) old now
rest_acts G old now m es g l p may ge lt h over =
    let y = not_less old.vote.accepted g ge in
    let z = less old.vote.length l lt in
    let top : now.vote.length ≤ shipped_length m = h.within in
    let all : now.vote.length ≡ shipped_length m = omega arith in
    let gen : shipped_in m ≡ g = (shipped old.vote old.actor.seen m es g l p may).gen_told in
    let le : length es ≤ shipped_length m = within G old.vote old.actor.seen m es g l p may in
    let none : left_of now.vote.length m es ≡ [] = drop_none (now.vote.length - (shipped_length m - length es)) es (omega arith) in
    let log : now.entries ≡ old.entries ++ left_of old.vote.length m es = sym (ap (λ x. now.entries ++ x) none ∙ none_behind now.entries) ∙ h.left in
    let did : Did (takes g old.vote.length (shipped_length m - old.vote.length)) old now = subst (λ x. Did (takes x old.vote.length (shipped_length m - old.vote.length)) old now) gen (subst (λ x. Did (takes (shipped_in m) old.vote.length (x - old.vote.length)) old now) all h.did) in
    record {
      did = subst (λ b. Did (if b then Take g l ∷ [] else if ltb old.vote.length l then takes g old.vote.length (shipped_length m - old.vote.length) else Take g l ∷ []) old now) (sym y)
          (subst (λ b. Did (if b then takes g old.vote.length (shipped_length m - old.vote.length) else Take g l ∷ []) old now) (sym z) did);
      vote = h.vote ∙ (ap (λ x. acted old.vote (action.Take (shipped_in m) x)) all ∙ (ap (λ x. acted old.vote (action.Take x (shipped_length m))) gen ∙ ap (λ x. acted x (action.Take g (shipped_length m))) (sym (counted_ships old.vote m (takes_ships old.vote m g l may)))));
      entries = subst (λ b. now.entries ≡ (if b then es else if ltb old.vote.length l then old.entries ++ drop (old.vote.length - (shipped_length m - length es)) es else old.entries)) (sym y)
          (subst (λ b. now.entries ≡ (if b then old.entries ++ drop (old.vote.length - (shipped_length m - length es)) es else old.entries)) (sym z) log);
    }

pub rest_sends : (G : Setting) (old now : Held) (m : Message) (es : List Entry) (g l s : ℕ) → IsPacket G m es old.actor.seen → Allows old.vote m (action.Take g l) → s ≡ sender_of m
    → HasTaken G m es old now → (now.vote.length < shipped_length m → ⊥) → AreSent G now.actor.seen (packets_of now.vote (through m (action.Take g l)) now.entries s)
rest_sends G old now m es g l s p may from h over =
    let top : now.vote.length ≤ shipped_length m = h.within in
    let all : now.vote.length ≡ shipped_length m = omega arith in
    let gen : shipped_in m ≡ g = (shipped old.vote old.actor.seen m es g l p may).gen_told in
    let x = ack_sent now.actor.seen now.vote.node (shipped_in m) now.vote.length s (subst (λ k. 1 ≤ k) (sym from) p.low) (subst (λ k. k ≤ G.nodes) (sym from) p.high) h.acked in
    subst (λ k. AreSent G now.actor.seen (packet s (Ack now.vote.node g k) [] ∷ [])) all (subst (λ k. AreSent G now.actor.seen (packet s (Ack now.vote.node k now.vote.length) [] ∷ [])) gen x)
