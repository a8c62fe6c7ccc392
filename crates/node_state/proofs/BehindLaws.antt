-- What a node sends about a message stands behind it in the table of messages, and goes to each node once.
use Rattle.std.proofs.Common.{ℕ, ◌≡◌, ◌≢◌, ◌+◌, ◌<◌, ◌≤◌, List, [], ◌∷◌, ◌++◌, length, arith, refl, sym, subst, ap, ◌∙◌}
use Rattle.std.specs.Prelude.{zero, suc, ◌==◌, Bool, true, false, cond}
use Rattle.std.proofs.lemmas.Bool.Decides.{Decides-eqb}
use mathlib.Core.Logic.{inl, inr}
use Rattle.election_core.specs.Allowed.{AllowsExactly}
use Rattle.election_core.specs.Counted.{acted, counted}
use Rattle.election_core.specs.Senders.{sender_of}
use Rattle.election_core.specs.declared.messages.Action.{Action}
use Rattle.election_core.specs.declared.messages.Action.TheVariants as action
use Rattle.election_core.specs.declared.messages.Message.{Message}
use Rattle.election_core.specs.declared.messages.Message.TheVariants.{Vote, Granted, Adopt, Ship, Ack, Durable, Ping, Pong}
use Rattle.election_core.specs.declared.votes.NodeVote.{NodeVote}
use Rattle.phys_log.specs.declared.entries.Entry.{Entry}
use Rattle.node_state.specs.Calls.{Answers, Judges, through}
use Rattle.node_state.specs.Nodes.{Held}
use Rattle.node_state.specs.Packets.{SentPacket, AllBehind, AreBehind, packet, packets_of, others, place_of, sent_to}

behind_more : (m : Message) (ps qs : List SentPacket) → AllBehind m ps → AllBehind m qs → AllBehind m (ps ++ qs)
behind_more m [] qs x y = y
behind_more m (p ∷ ps) qs x y = (x.0, behind_more m ps qs x.1 y)

sent_more : (k : ℕ) (ps qs : List SentPacket) → sent_to k (ps ++ qs) ≡ sent_to k ps + sent_to k qs
sent_more k [] qs = let e : sent_to k qs ≡ 0 + sent_to k qs = omega arith in e
sent_more k (p ∷ ps) qs =
    let r : sent_to k (ps ++ qs) ≡ sent_to k ps + sent_to k qs = sent_more k ps qs in
    let e : cond (k == p.to) 1 0 + sent_to k (ps ++ qs) ≡ (cond (k == p.to) 1 0 + sent_to k ps) + sent_to k qs = omega arith in
    e

others_behind : (m x : Message) (k node : ℕ) (es : List Entry) → place_of m < place_of x → AllBehind m (others k node x es)
others_behind m x zero node es lt = tt
others_behind m x (suc k) node es lt = behind_more m (others k node x es) (cond (suc k == node) [] (packet (suc k) x es ∷ [])) (others_behind m x k node es lt) (go (suc k == node))
  where
    go : (b : Bool) → AllBehind m (cond b [] (packet (suc k) x es ∷ []))
    go true = tt
    go false = (lt, tt)

not_eq : (a b : ℕ) → a ≢ b → (a == b) ≡ false
not_eq a b ne = go (a == b) refl
  where
    go : (c : Bool) → (a == b) ≡ c → c ≡ false
    go true e = absurd (ne ((Decides-eqb a b).0 e))
    go false e = refl

-- so many go to node j: none beyond the last one, none to the one that is left out, at most one to each
beyond : (j k node : ℕ) (x : Message) (es : List Entry) → k < j → sent_to j (others k node x es) ≡ 0
beyond j zero node x es lt = refl
beyond j (suc k) node x es lt = sent_more j (others k node x es) (cond (suc k == node) [] (packet (suc k) x es ∷ [])) ∙ go (suc k == node) (beyond j k node x es (omega arith))
  where
    go : (b : Bool) → sent_to j (others k node x es) ≡ 0 → sent_to j (others k node x es) + sent_to j (cond b [] (packet (suc k) x es ∷ [])) ≡ 0
    go true r = omega arith
    go false r =
        let e : cond {A = ℕ} (j == suc k) 1 0 ≡ 0 = ap (λ c. cond {A = ℕ} c 1 0) (not_eq j (suc k) (λ q. absurd (omega arith))) in
        omega arith

left_out : (k node : ℕ) (x : Message) (es : List Entry) → sent_to node (others k node x es) ≡ 0
left_out zero node x es = refl
left_out (suc k) node x es = sent_more node (others k node x es) (cond (suc k == node) [] (packet (suc k) x es ∷ [])) ∙ go (suc k == node) refl (left_out k node x es)
  where
    go : (b : Bool) → (suc k == node) ≡ b → sent_to node (others k node x es) ≡ 0 → sent_to node (others k node x es) + sent_to node (cond b [] (packet (suc k) x es ∷ [])) ≡ 0
    go true e r = omega arith
    go false e r =
        let n : (node == suc k) ≡ false = not_eq node (suc k) (λ q. (let t = (Decides-eqb (suc k) node).1 (sym q) in absurd (let f : false ≡ true = sym e ∙ t in cc))) in
        let z : cond {A = ℕ} (node == suc k) 1 0 ≡ 0 = ap (λ c. cond {A = ℕ} c 1 0) n in
        omega arith

at_most : (b : Bool) → cond {A = ℕ} b 1 0 ≤ 1
at_most true = omega arith
at_most false = omega arith

others_once : (j k node : ℕ) (x : Message) (es : List Entry) → sent_to j (others k node x es) ≤ 1
others_once j zero node x es = omega arith
others_once j (suc k) node x es =
    let e : sent_to j (others k node x es ++ cond (suc k == node) [] (packet (suc k) x es ∷ [])) ≡ sent_to j (others k node x es) + sent_to j (cond (suc k == node) [] (packet (suc k) x es ∷ [])) = sent_more j (others k node x es) (cond (suc k == node) [] (packet (suc k) x es ∷ [])) in
    let r : sent_to j (others k node x es) + sent_to j (cond (suc k == node) [] (packet (suc k) x es ∷ [])) ≤ 1 = go (suc k == node) (j == suc k) refl (others_once j k node x es) in
    omega arith
  where
    go : (b c : Bool) → (j == suc k) ≡ c → sent_to j (others k node x es) ≤ 1 → sent_to j (others k node x es) + sent_to j (cond b [] (packet (suc k) x es ∷ [])) ≤ 1
    go true c e r = omega arith
    go false true e r =
        let q : j ≡ suc k = (Decides-eqb j (suc k)).0 e in
        let n : sent_to j (others k node x es) ≡ 0 = beyond j k node x es (omega arith) in
        let z : cond {A = ℕ} (j == suc k) 1 0 ≤ 1 = at_most (j == suc k) in
        omega arith
    go false false e r =
        let z : cond {A = ℕ} (j == suc k) 1 0 ≡ 0 = ap (λ c. cond {A = ℕ} c 1 0) e in
        omega arith

one_once : (j to : ℕ) (x : Message) (es : List Entry) → sent_to j (packet to x es ∷ []) ≤ 1
one_once j to x es = let z : cond {A = ℕ} (j == to) 1 0 ≤ 1 = at_most (j == to) in omega arith

-- to the others, and to itself
all_once : (j k node : ℕ) (x y : Message) (es fs : List Entry) → sent_to j (others k node x es ++ packet node y fs ∷ []) ≤ 1
all_once j k node x y es fs =
    let e : sent_to j (others k node x es ++ packet node y fs ∷ []) ≡ sent_to j (others k node x es) + sent_to j (packet node y fs ∷ []) = sent_more j (others k node x es) (packet node y fs ∷ []) in
    let r : sent_to j (others k node x es) + sent_to j (packet node y fs ∷ []) ≤ 1 = go (j == node) refl in
    omega arith
  where
    go : (c : Bool) → (j == node) ≡ c → sent_to j (others k node x es) + sent_to j (packet node y fs ∷ []) ≤ 1
    go true e =
        let q : j ≡ node = (Decides-eqb j node).0 e in
        let r : sent_to j (others k node x es) ≡ 0 = subst (λ i. sent_to i (others k node x es) ≡ 0) (sym q) (left_out k node x es) in
        let z : cond {A = ℕ} (j == node) 1 0 ≤ 1 = at_most (j == node) in
        omega arith
    go false e =
        let r : sent_to j (others k node x es) ≤ 1 = others_once j k node x es in
        let z : cond {A = ℕ} (j == node) 1 0 ≡ 0 = ap (λ c. cond {A = ℕ} c 1 0) e in
        omega arith

none : (m : Message) → AreBehind m []
none m = record { later = tt; once = λ k. omega arith }

single : (m x : Message) (to : ℕ) → place_of m < place_of x → AreBehind m (packet to x [] ∷ [])
single m x to lt = record { later = (lt, tt); once = λ k. one_once k to x [] }

-- by each action that a message allows
sends : (v u : NodeVote) (m : Message) (a : Action) (log : List Entry) (s : ℕ) → AllowsExactly v m a → u ≡ acted (counted v m) (through m a) → AreBehind m (packets_of u (through m a) log s)
sends v u m action.Nothing log s d q = none m
sends v u (Vote f h a l) (action.Promise g to) log s d q = single (Vote f h a l) (Granted u.node g to) to (omega arith)
sends v u (Granted f h k) (action.Promise g to) log s d q = absurd d
sends v u (Adopt f h l) (action.Promise g to) log s d q = absurd d
sends v u (Ship f h l) (action.Promise g to) log s d q = absurd d
sends v u (Ack f h l) (action.Promise g to) log s d q = absurd d
sends v u (Durable f h l) (action.Promise g to) log s d q = absurd d
sends v u (Ping f h t d1) (action.Promise g to) log s d q = absurd d
sends v u (Pong f h t) (action.Promise g to) log s d q = absurd d
sends v u (Vote f h a l) (action.Lead g) log s d q = absurd d
sends v u (Granted f h k) (action.Lead g) log s d q = record { later = behind_more (Granted f h k) (others u.nodes u.node (Adopt u.node g (length log)) log) (packet u.node (Ack u.node g (length log)) [] ∷ []) (others_behind (Granted f h k) (Adopt u.node g (length log)) u.nodes u.node log (omega arith)) (omega arith, tt); once = λ j. all_once j u.nodes u.node (Adopt u.node g (length log)) (Ack u.node g (length log)) log [] }
sends v u (Adopt f h l) (action.Lead g) log s d q = absurd d
sends v u (Ship f h l) (action.Lead g) log s d q = absurd d
sends v u (Ack f h l) (action.Lead g) log s d q = absurd d
sends v u (Durable f h l) (action.Lead g) log s d q = absurd d
sends v u (Ping f h t d1) (action.Lead g) log s d q = absurd d
sends v u (Pong f h t) (action.Lead g) log s d q = absurd d
sends v u (Vote f h a l) (action.Take g n) log s d q = absurd d
sends v u (Granted f h k) (action.Take g n) log s d q = absurd d
sends v u (Adopt f h l) (action.Take g n) log s d q = single (Adopt f h l) (Ack u.node g l) s (omega arith)
sends v u (Ship f h l) (action.Take g n) log s d q = single (Ship f h l) (Ack u.node g l) s (omega arith)
sends v u (Ack f h l) (action.Take g n) log s d q = absurd d
sends v u (Durable f h l) (action.Take g n) log s d q = absurd d
sends v u (Ping f h t d1) (action.Take g n) log s d q = absurd d
sends v u (Pong f h t) (action.Take g n) log s d q = absurd d
sends v u (Vote f h a l) (action.Know n) log s d q = absurd d
sends v u (Granted f h k) (action.Know n) log s d q = absurd d
sends v u (Adopt f h l) (action.Know n) log s d q = absurd d
sends v u (Ship f h l) (action.Know n) log s d q = absurd d
sends v u (Ack f h l) (action.Know n) log s d q = go u.leading
  where
    go : (b : Bool) → AreBehind (Ack f h l) (cond b (others u.nodes u.node (Durable u.node u.accepted n) []) [])
    go true = record { later = others_behind (Ack f h l) (Durable u.node u.accepted n) u.nodes u.node [] (omega arith); once = λ j. others_once j u.nodes u.node (Durable u.node u.accepted n) [] }
    go false = none (Ack f h l)
sends v u (Durable f h l) (action.Know n) log s d q = subst (λ b. AreBehind (Durable f h l) (cond b (others u.nodes u.node (Durable u.node u.accepted n) []) [])) (sym (ap (λ (w : NodeVote). w.leading) q ∙ d.1)) (none (Durable f h l))
sends v u (Ping f h t d1) (action.Know n) log s d q = absurd d
sends v u (Pong f h t) (action.Know n) log s d q = absurd d
sends v u (Vote f h a l) (action.Answer x to) log s d q = absurd d
sends v u (Granted f h k) (action.Answer x to) log s d q = absurd d
sends v u (Adopt f h l) (action.Answer x to) log s d q = absurd d
sends v u (Ship f h l) (action.Answer x to) log s d q = absurd d
sends v u (Ack f h l) (action.Answer x to) log s d q = absurd d
sends v u (Durable f h l) (action.Answer x to) log s d q = absurd d
sends v u (Ping f h t d1) (action.Answer x to) log s d q = subst (λ y. AreBehind (Ping f h t d1) (packet to y [] ∷ [])) (sym d.1) (single (Ping f h t d1) (Pong v.node h t) to (omega arith))
sends v u (Pong f h t) (action.Answer x to) log s d q = absurd d

pub answers_behind : (m : Message) (es : List Entry) (ps : List SentPacket) (old new : Held) → Answers m es ps old new → AreBehind m ps
answers_behind m es ps old new a = subst (λ x. AreBehind m x) (sym a.sends) (go a.judged)
  where
    go : Judges old.vote m es a.action → AreBehind m (packets_of new.vote (through m a.action) new.entries (sender_of m))
    go (inl x) = sends old.vote new.vote m a.action new.entries (sender_of m) x.1 a.acts.vote
    go (inr x) = subst (λ t. AreBehind m (packets_of new.vote (through m t) new.entries (sender_of m))) (sym x.1) (none m)
