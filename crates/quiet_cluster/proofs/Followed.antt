-- A delivery at a follower, by the messages.
use Rattle.std.proofs.Common.{ℕ, ◌≡◌, ◌<◌, ◌≤◌, List, [], ◌∷◌, ◌++◌, arith, refl, sym, subst, ap, ◌∙◌}
use Rattle.std.specs.Prelude.{◌==◌, ◌&&◌, Bool, true, false, cond}
use Rattle.std.proofs.lemmas.Bool.Decides.{Decides-eqb}
use mathlib.Core.Logic.{◌⊎◌, inl, inr}
use Rattle.core_lists.specs.Lists.{Each, Has}
use Rattle.core_lists.proofs.Lists.{each_none}
use Rattle.core_lists.proofs.Numbers.{lt_or_le}
use Rattle.election_core.specs.Counted.{acted}
use Rattle.election_core.specs.Allowed.{MayGrant, MayHear}
use Rattle.election_core.specs.declared.votes.NodeVote.{NodeVote}
use Rattle.election_core.specs.declared.messages.Message.{Message}
use Rattle.election_core.specs.declared.messages.Message.TheVariants.{Vote, Granted, Adopt, Ship, Ack, Durable, Ping, Pong}
use Rattle.election_core.specs.declared.messages.Action.TheVariants as action
use Rattle.quiet_cluster.specs.Packets.{packet, others, Packet}
use Rattle.quiet_cluster.specs.Led.{MayTakeAll, IsLog, IsKnown, Fits, Holds, Claim}
use Rattle.quiet_cluster.proofs.Answered.{DoesLog, Does}
use Rattle.quiet_cluster.specs.Led.Claim.{coming, acking, noted}
use Rattle.quiet_cluster.proofs.Lists.{has_right, has_one, each_one}
use Rattle.quiet_cluster.proofs.Acting.{vote_acts, durable_acts, Heard, ping_acts, pong_acts}
use Rattle.quiet_cluster.proofs.Follower.{Like, kept_self}

-- what a delivery leaves at the node to which the packet went
pub record Done (n : ℕ) (acked : List ℕ) (p : Packet) (ps s : List Packet) (m g l : ℕ) (v u : NodeVote) : Type 0 where
  pub rises : v.promised ≤ u.promised
  pub below : v.promised ≤ g → u.promised ≤ g
  pub node : u.node ≡ v.node
  pub fits : Each (λ p. Fits p.message p.to m g l) s
  pub claim : u.promised ≤ g → Claim n acked (p ∷ ps) m g l p.to v → Claim n acked (ps ++ s) m g l p.to u

pub fits_none : (m g l : ℕ) (s : List Packet) → s ≡ [] → Each (λ p. Fits p.message p.to m g l) s
fits_none m g l s e = subst (λ t. Each (λ p. Fits p.message p.to m g l) t) (sym e) each_none

pub fits_one : (m g l : ℕ) (s : List Packet) (x : Packet) → s ≡ x ∷ [] → Fits x.message x.to m g l → Each (λ p. Fits p.message p.to m g l) s
fits_one m g l s x e f = subst (λ t. Each (λ p. Fits p.message p.to m g l) t) (sym e) (each_one f)

like_same : (g : ℕ) (v u : NodeVote) → u ≡ v → u.promised ≤ g → Like g v u
like_same g v u e le = record {
  promised = le;
  accepted = ap (λ t. t.accepted) e;
  long = ap (λ t. t.length) e;
  durable = (let d : u.durable ≡ v.durable = ap (λ t. t.durable) e in omega arith);
  follows = λ h. ap (λ t. t.leading) e ∙ h;
}

off : (b : Bool) (x g : ℕ) → (x ≡ g → b ≡ false) → (b && x == g) ≡ false
off false x g h = refl
off true x g h = go (x == g) refl
  where
    go : (t : Bool) → (x == g) ≡ t → (true && x == g) ≡ false
    go true e = absurd (let r = h ((Decides-eqb x g).0 e) in cc)
    go false e = e

claim_follows : (n : ℕ) (acked : List ℕ) (q : List Packet) (m g l k : ℕ) (v : NodeVote) → Claim n acked q m g l k v → v.accepted ≡ g → v.leading ≡ false
claim_follows n acked q m g l k v (coming c) e = c.follows e
claim_follows n acked q m g l k v (acking c) e = c.holds.follows
claim_follows n acked q m g l k v (noted c) e = c.holds.follows

done_same : (n : ℕ) (acked : List ℕ) (p : Packet) (ps s : List Packet) (m g l : ℕ) (v u : NodeVote) → (p.to ≡ m → ⊥) → u ≡ v → (IsLog p.message m g l → MayTakeAll v g l p.entries → ⊥) → (Holds g l v → IsKnown p.message g l → l ≤ u.durable)
    → Each (λ p. Fits p.message p.to m g l) s → Done n acked p ps s m g l v u
done_same n acked p ps s m g l v u ne e log know f = record {
  rises = (let d : u.promised ≡ v.promised = ap (λ t. t.promised) e in omega arith);
  below = λ le. (let d : u.promised ≡ v.promised = ap (λ t. t.promised) e in omega arith);
  node = ap (λ t. t.node) e;
  fits = f;
  claim = λ le c. kept_self n acked p ps s m g l p.to v u (like_same g v u e le) ne log know c;
}

done_log : (n : ℕ) (acked : List ℕ) (p : Packet) (ps s : List Packet) (m g l : ℕ) (v u : NodeVote) → (p.to ≡ m → ⊥) → v.node ≡ p.to → 0 < p.to → p.to ≤ 7 → (IsKnown p.message g l → ⊥)
    → DoesLog v m g l p.entries u s → Done n acked p ps s m g l v u
done_log n acked p ps s m g l v u ne name low high no_known (inl t) = record {
  rises = (let a : u.promised ≡ g = ap (λ x. x.promised) t.1 in let b : v.promised ≤ g = t.0.0 in omega arith);
  below = λ le. (let a : u.promised ≡ g = ap (λ x. x.promised) t.1 in omega arith);
  node = ap (λ x. x.node) t.1;
  fits = fits_one m g l s (packet m (Ack v.node g l) 0) t.2 (refl, (let a : v.node ≡ p.to = name in omega arith), (let a : v.node ≡ p.to = name in omega arith), refl, refl);
  claim = λ le c. acking (record {
    holds = record { accepted = ap (λ x. x.accepted) t.1; follows = ap (λ x. x.leading) t.1 ∙ off v.leading v.accepted g (claim_follows n acked (p ∷ ps) m g l p.to v c); long = ap (λ x. x.length) t.1 };
    under_way = has_right ps (subst (λ x. Has (λ z. (z.to ≡ m) × (z.message ≡ Ack p.to g l)) x) (sym t.2) (has_one (refl, ap (λ x. Ack x g l) name)));
  });
}
done_log n acked p ps s m g l v u ne name low high no_known (inr t) = done_same n acked p ps s m g l v u ne t.1 (λ a j. t.0 j) (λ h k. absurd (no_known k)) (fits_none m g l s t.2)

log_of : (v u : NodeVote) (f h y e m g l : ℕ) (s : List Packet) → f ≡ m → h ≡ g → y ≡ l → DoesLog v f h y e u s → DoesLog v m g l e u s
log_of v u f h y e m g l s a b c d = subst (λ t. DoesLog v m g t e u s) c (subst (λ t. DoesLog v m t y e u s) b (subst (λ t. DoesLog v t h y e u s) a d))

done_vote : (n : ℕ) (acked : List ℕ) (p : Packet) (ps s : List Packet) (m g l : ℕ) (v u : NodeVote) (f h x y : ℕ) → p.message ≡ Vote f h x y → (p.to ≡ m → ⊥) → f ≡ m → h ≤ g
    → ((u ≡ v) × (s ≡ []) × (MayGrant v h x y → ⊥)) ⊎ (MayGrant v h x y × (u ≡ acted v (action.Promise h f)) × (s ≡ packet f (Granted u.node h f) 0 ∷ [])) → Done n acked p ps s m g l v u
done_vote n acked p ps s m g l v u f h x y e ne from old (inl t) =
    done_same n acked p ps s m g l v u ne t.0 (λ a j. subst (λ t. IsLog t m g l) e a) (λ a k. absurd (subst (λ t. IsKnown t g l) e k)) (fits_none m g l s t.1)
done_vote n acked p ps s m g l v u f h x y e ne from old (inr t) = record {
  rises = (let a : u.promised ≡ h = ap (λ t. t.promised) t.1 in let b : v.promised < h = t.0.1 in omega arith);
  below = λ le. (let a : u.promised ≡ h = ap (λ t. t.promised) t.1 in omega arith);
  node = ap (λ t. t.node) t.1;
  fits = fits_one m g l s (packet f (Granted u.node h f) 0) t.2 from;
  claim = λ le c. kept_self n acked p ps s m g l p.to v u (record {
    promised = le;
    accepted = ap (λ t. t.accepted) t.1;
    long = ap (λ t. t.length) t.1;
    durable = (let d : u.durable ≡ v.durable = ap (λ t. t.durable) t.1 in omega arith);
    follows = λ h. ap (λ t. t.leading) t.1;
  }) ne (λ a j. subst (λ t. IsLog t m g l) e a) (λ a k. absurd (subst (λ t. IsKnown t g l) e k)) c;
}

-- told that l is durable, it knows that, or knew it
hears : (v : NodeVote) (f h x g l : ℕ) → v.up ≡ true → Holds g l v → IsKnown (Durable f h x) g l → (l ≤ v.durable) ⊎ MayHear v h x l
hears v f h x g l up o k = go (lt_or_le v.durable l)
  where
    go : (v.durable < l) ⊎ (l ≤ v.durable) → (l ≤ v.durable) ⊎ MayHear v h x l
    go (inl lt) = inr (up, o.follows, lt, (let a : v.length ≡ l = o.long in omega arith), (let a : v.accepted ≡ g = o.accepted in let b : h ≡ g = k.0 in omega arith), k.1)
    go (inr le) = inl le

done_durable : (n : ℕ) (acked : List ℕ) (p : Packet) (ps s : List Packet) (m g l : ℕ) (v u : NodeVote) (f h x : ℕ) → p.message ≡ Durable f h x → (p.to ≡ m → ⊥) → v.up ≡ true
    → ((u ≡ v) × (s ≡ []) × ((d : ℕ) → MayHear v h x d → ⊥)) ⊎ Heard v u h x s → Done n acked p ps s m g l v u
done_durable n acked p ps s m g l v u f h x e ne up (inl t) =
    done_same n acked p ps s m g l v u ne t.0 (λ a j. subst (λ t. IsLog t m g l) e a) (λ o k. go (hears v f h x g l up o (subst (λ t. IsKnown t g l) e k))) (fits_none m g l s t.1)
  where
    go : (l ≤ v.durable) ⊎ MayHear v h x l → l ≤ u.durable
    go (inl le) = let d : u.durable ≡ v.durable = ap (λ t. t.durable) t.0 in omega arith
    go (inr may) = absurd (t.2 l may)
done_durable n acked p ps s m g l v u f h x e ne up (inr t) = record {
  rises = (let d : u.promised ≡ v.promised = ap (λ t. t.promised) t.changes in omega arith);
  below = λ le. (let d : u.promised ≡ v.promised = ap (λ t. t.promised) t.changes in omega arith);
  node = ap (λ t. t.node) t.changes;
  fits = fits_none m g l s (silent u.leading (ap (λ t. t.leading) t.changes ∙ t.may.1) t.sends);
  claim = λ le c. kept_self n acked p ps s m g l p.to v u (record {
    promised = le;
    accepted = ap (λ t. t.accepted) t.changes;
    long = ap (λ t. t.length) t.changes;
    durable = (let d : u.durable ≡ t.length = ap (λ t. t.durable) t.changes in let b : v.durable < t.length = t.may.2 in omega arith);
    follows = λ h. ap (λ t. t.leading) t.changes ∙ h;
  }) ne (λ a j. subst (λ t. IsLog t m g l) e a) (λ o k. go (hears v f h x g l up o (subst (λ t. IsKnown t g l) e k))) c;
}
  where
    silent : (b : Bool) → b ≡ false → s ≡ cond b (others u.nodes u.node (Durable u.node u.accepted t.length) 0) [] → s ≡ []
    silent false r w = w
    silent true r w = absurd (cc)

    go : (l ≤ v.durable) ⊎ MayHear v h x l → l ≤ u.durable
    go (inl le) = let d : u.durable ≡ t.length = ap (λ t. t.durable) t.changes in let b : v.durable < t.length = t.may.2 in omega arith
    go (inr may) = let d : u.durable ≡ t.length = ap (λ t. t.durable) t.changes in let b = t.most l may in omega arith

pub followed : (n : ℕ) (acked : List ℕ) (p : Packet) (ps s : List Packet) (m g l : ℕ) (v u : NodeVote) (x : Message) → p.message ≡ x → (p.to ≡ m → ⊥) → v.up ≡ true → v.node ≡ p.to → 0 < p.to → p.to ≤ 7
    → Fits x p.to m g l → Does v x p.entries u s → Done n acked p ps s m g l v u
followed n acked p ps s m g l v u (Adopt f h y) e ne up name low high fit d = done_log n acked p ps s m g l v u ne name low high (λ k. subst (λ t. IsKnown t g l) e k) (log_of v u f h y p.entries m g l s fit.1 fit.2 fit.3 d)
followed n acked p ps s m g l v u (Ship f h y) e ne up name low high fit d = done_log n acked p ps s m g l v u ne name low high (λ k. subst (λ t. IsKnown t g l) e k) (log_of v u f h y p.entries m g l s fit.1 fit.2 fit.3 d)
followed n acked p ps s m g l v u (Vote f h a y) e ne up name low high fit d = done_vote n acked p ps s m g l v u f h a y e ne fit.0 fit.1 (vote_acts v u f h a y s d)
followed n acked p ps s m g l v u (Granted f h t) e ne up name low high fit d = absurd (ne fit)
followed n acked p ps s m g l v u (Ack f h y) e ne up name low high fit d = absurd (ne fit.0)
followed n acked p ps s m g l v u (Durable f h y) e ne up name low high fit d = done_durable n acked p ps s m g l v u f h y e ne up (durable_acts v u f h y s d)
followed n acked p ps s m g l v u (Ping f h a y) e ne up name low high fit d = go (ping_acts v u f h a y s d)
  where
    go : (u ≡ v) × ((s ≡ []) ⊎ (s ≡ packet f (Pong v.node h a) 0 ∷ [])) → Done n acked p ps s m g l v u
    go (same, inl w) = done_same n acked p ps s m g l v u ne same (λ i j. subst (λ t. IsLog t m g l) e i) (λ i k. absurd (subst (λ t. IsKnown t g l) e k)) (fits_none m g l s w)
    go (same, inr w) = done_same n acked p ps s m g l v u ne same (λ i j. subst (λ t. IsLog t m g l) e i) (λ i k. absurd (subst (λ t. IsKnown t g l) e k)) (fits_one m g l s (packet f (Pong v.node h a) 0) w tt)
followed n acked p ps s m g l v u (Pong f h a) e ne up name low high fit d =
    let t = pong_acts v u f h a s d in
    done_same n acked p ps s m g l v u ne t.0 (λ i j. subst (λ t. IsLog t m g l) e i) (λ i k. absurd (subst (λ t. IsKnown t g l) e k)) (fits_none m g l s t.1)
