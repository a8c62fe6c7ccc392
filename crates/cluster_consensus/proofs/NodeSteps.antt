-- Steps of one node keep what is said of it alone.
use Rattle.std.proofs.Common.{◌≡◌, ℕ, ◌<◌, ◌≤◌, List, ◌∷◌, arith, refl, sym, ◌∙◌}
use Rattle.std.specs.Prelude.{Bool, true, false}
use mathlib.Core.Logic.{◌⊎◌, inl, inr}
use Rattle.cluster_consensus.proofs.Invariant.{Once, Chain, Held, GrantOk, Local}
use Rattle.cluster_consensus.specs.Events.{took, led}
use Rattle.cluster_consensus.specs.Facts.{Claim, Own, blank}
use Rattle.core_lists.proofs.Fronts.{front_refl, front_trans}
use Rattle.core_lists.proofs.Lists.{each_add}
use Rattle.core_lists.specs.Fronts.{Front}
use Rattle.core_lists.specs.Lists.{In, Each, Has}
use Rattle.core_lists.specs.Lists.In.{here, there}

pub not_fresh : {E : Type 0} {p : Own E} {b : Bool} → b ≡ true → b ≡ false → p ≡ blank
not_fresh a b = absurd (cc)

held_more : {E : Type 0} (o : Own E) (g : ℕ) (log : List E) (a : ℕ) (t : List E) → Held o a t → Held (took o g log) a t
held_more o g log a t (inl h) = inl (record { it = h.it; mem = there h.mem; is = h.is })
held_more o g log a t (inr h) = inr h

pub once_add : {A : Type 0} {f : A → ℕ} {x : A} {xs : List A} → Each (λ y. f y < f x) xs → Once f xs → Once f (x ∷ xs)
once_add {A} {f} {x} {xs} less old = record { same = go }
  where
    go : (y z : A) → In y (x ∷ xs) → In z (x ∷ xs) → f y ≡ f z → y ≡ z
    go y z here here e = refl
    go y z here (there h) e = let l = less.at z h in absurd (omega arith)
    go y z (there h) here e = let l = less.at y h in absurd (omega arith)
    go y z (there h) (there k) e = old.same y z h k e

pub chain_add : {E : Type 0} {x : Claim E} {xs : List (Claim E)} → Each (λ y. y.gen ≡ x.gen → Front y.log x.log) xs → Chain xs → Chain (x ∷ xs)
chain_add {E} {x} {xs} grows old = record { one = go }
  where
    go : (y z : Claim E) → In y (x ∷ xs) → In z (x ∷ xs) → y.gen ≡ z.gen → Front y.log z.log ⊎ Front z.log y.log
    go y z here here e = inl (front_refl y.log)
    go y z here (there h) e = inr (grows.at z h (sym e))
    go y z (there h) here e = inl (grows.at y h e)
    go y z (there h) (there k) e = old.one y z h k e

-- the durable number, the adopted length and whether it is up say nothing here
pub quiet : {E : Type 0} {o : Own E} → Local o → (d a : ℕ) (u : Bool) → o.was_up ≡ true → Local (record o { durable = d; adopted = a; up = u })
quiet l d a u was = record {
  below = l.below;
  store = l.store;
  awake = λ e. was;
  fresh = not_fresh was;
  heads = l.heads;
  last = l.last;
  held = l.held;
  grants = record { at = λ x h. let g = l.grants.at x h in record { low = g.low; above = g.above; held = g.held; store = g.store; was = g.was; closed = g.closed } };
  grant_once = l.grant_once;
  votes = record { at = λ x h. let g = l.votes.at x h in record { low = g.low; above = g.above; held = g.held; still = g.still } };
  vote_once = l.vote_once;
  leads = l.leads;
  chain = l.chain;
  ships = l.ships;
  acks = l.acks;
}

-- a greater promise, or the same; it leads no more
pub raised : {E : Type 0} {o : Own E} → Local o → (p : ℕ) → o.promised ≤ p → o.was_up ≡ true → Local (record o { promised = p; leading = false })
raised {E} {o} l p le was = record {
  below = let b = l.below in omega arith;
  store = let b = l.store in omega arith;
  awake = l.awake;
  fresh = not_fresh was;
  heads = λ (e : false ≡ true). absurd (cc);
  last = l.last;
  held = l.held;
  grants = record { at = λ x h. let g = l.grants.at x h in record { low = let low = g.low in omega arith; above = g.above; held = g.held; store = g.store; was = g.was; closed = g.closed } };
  grant_once = l.grant_once;
  votes = record { at = λ x h. let g = l.votes.at x h in record { low = let low = g.low in omega arith; above = g.above; held = g.held; still = λ e. (let low = g.low in g.still (omega arith)) } };
  vote_once = l.vote_once;
  leads = l.leads;
  chain = l.chain;
  ships = l.ships;
  acks = l.acks;
}

-- an acceptance: in a generation at or above the promise, and of a longer log where it is the accepted one
pub took_local : {E : Type 0} {o : Own E} → Local o → (g : ℕ) (log : List E) → o.promised ≤ g → o.was_up ≡ true → (o.accepted ≡ g → Front o.log log) → (o.leading ≡ true → o.accepted ≡ g) → Local (took o g log)
took_local {E} {o} l g log le was grows heads = record {
  below = omega arith;
  store = let b = l.store in omega arith;
  awake = l.awake;
  fresh = not_fresh was;
  heads = λ e. (refl, let h = (l.heads e).1 in record { it = h.it; mem = h.mem; is = h.is ∙ heads e });
  last = each_add (omega arith, λ e. front_refl log) (record { at = λ c h. (let q = (l.last.at c h).0 in let b = l.below in omega arith, older c h) });
  held = inl (record { it = record { gen = g; log = log }; mem = here; is = (refl, refl) });
  grants = record { at = λ x h. let x' = l.grants.at x h in record { low = let low = x'.low in omega arith; above = x'.above; held = held_more o g log x.accepted x.log x'.held; store = x'.store; was = x'.was; closed = each_add (λ (lt : g < x.gen). (let low = x'.low in absurd (omega arith))) x'.closed } };
  grant_once = l.grant_once;
  votes = record { at = λ x h. let x' = l.votes.at x h in record { low = let low = x'.low in omega arith; above = x'.above; held = held_more o g log x.accepted x.log x'.held; still = λ (e : x.gen ≡ g) (lt : g < x.gen). absurd (omega arith) } };
  vote_once = l.vote_once;
  leads = l.leads;
  chain = chain_add (record { at = λ c h e. older c h e }) l.chain;
  ships = record { at = λ s h. let r = l.ships.at s h in (r.0, there r.1) };
  acks = record { at = λ s h. there (l.acks.at s h) };
}
  where
    older : (c : Claim E) → In c o.accepts → c.gen ≡ g → Front c.log log
    older c h e =
        let q = l.last.at c h in
        let q0 : c.gen ≤ o.accepted = q.0 in
        let b = l.below in
        front_trans (q.1 (omega arith)) (grows (omega arith))

-- it leads: in its promised generation, with the log that it stood with
pub led_local : {E : Type 0} {o : Own E} → Local o → o.accepted < o.promised → o.was_up ≡ true → o.leading ≡ false → Has (λ v. (v.gen ≡ o.promised) × (v.log ≡ o.log)) o.votes → Local (led o)
led_local {E} {o} l lt was quiet v =
    let t = took_local l o.promised o.log (omega arith) was (λ e. absurd (omega arith)) (λ (e : o.leading ≡ true). absurd (cc)) in
    record {
      below = t.below;
      store = t.store;
      awake = t.awake;
      fresh = not_fresh was;
      heads = λ (e : o.leading ≡ true). absurd (cc);
      last = t.last;
      held = t.held;
      grants = record { at = λ x h. let g = t.grants.at x h in record { low = g.low; above = g.above; held = g.held; store = g.store; was = g.was; closed = g.closed } };
      grant_once = t.grant_once;
      votes = record { at = λ x h. let g = t.votes.at x h in record { low = g.low; above = g.above; held = g.held; still = g.still } };
      vote_once = t.vote_once;
      leads = each_add v t.leads;
      chain = t.chain;
      ships = record { at = λ s h. let r = t.ships.at s h in (record { it = r.0.it; mem = there r.0.mem; is = r.0.is }, r.1) };
      acks = t.acks;
    }

-- it begins to lead
pub heads_local : {E : Type 0} {o : Own E} → Local o → o.was_up ≡ true → o.accepted ≡ o.promised → Has (λ l. l.gen ≡ o.accepted) o.leads → Local (record o { leading = true })
heads_local l was e has = record {
  below = l.below;
  store = l.store;
  awake = l.awake;
  fresh = not_fresh was;
  heads = λ t. (e, has);
  last = l.last;
  held = l.held;
  grants = record { at = λ x h. let g = l.grants.at x h in record { low = g.low; above = g.above; held = g.held; store = g.store; was = g.was; closed = g.closed } };
  grant_once = l.grant_once;
  votes = record { at = λ x h. let g = l.votes.at x h in record { low = g.low; above = g.above; held = g.held; still = g.still } };
  vote_once = l.vote_once;
  leads = l.leads;
  chain = l.chain;
  ships = l.ships;
  acks = l.acks;
}

-- facts that are told of acceptances
pub told_local : {E : Type 0} {o : Own E} → Local o → o.was_up ≡ true → (ships acks durables : List (Claim E)) → Each (λ s. Has (λ l. l.gen ≡ s.gen) o.leads × In s o.accepts) ships → Each (λ c. In c o.accepts) acks → Local (record o { ships = ships; acks = acks; durables = durables })
told_local l was ships acks durables s a = record {
  below = l.below;
  store = l.store;
  awake = l.awake;
  fresh = not_fresh was;
  heads = l.heads;
  last = l.last;
  held = l.held;
  grants = record { at = λ x h. let g = l.grants.at x h in record { low = g.low; above = g.above; held = g.held; store = g.store; was = g.was; closed = g.closed } };
  grant_once = l.grant_once;
  votes = record { at = λ x h. let g = l.votes.at x h in record { low = g.low; above = g.above; held = g.held; still = g.still } };
  vote_once = l.vote_once;
  leads = l.leads;
  chain = l.chain;
  ships = s;
  acks = a;
}

-- a grant, and the candidacy that it may be for, in a generation above the promise
grant_ok : {E : Type 0} {o : Own E} → Local o → (g to : ℕ) → o.promised < g → o.was_up ≡ true → GrantOk (record o { promised = g; leading = false }) (record { gen = g; to = to; accepted = o.accepted; log = o.log })
grant_ok l g to lt was = record {
  low = omega arith;
  above = let b = l.below in omega arith;
  held = l.held;
  store = let b = l.store in omega arith;
  was = was;
  closed = record { at = λ c h low. l.last.at c h };
}

pub grant_local : {E : Type 0} {o : Own E} → Local o → (g to : ℕ) → o.promised < g → o.was_up ≡ true → Local (record o { promised = g; leading = false; grants = record { gen = g; to = to; accepted = o.accepted; log = o.log } ∷ o.grants })
grant_local {E} {o} l g to lt was =
    let t = raised l g (omega arith) was in
    let k = grant_ok l g to lt was in
    record {
      below = t.below;
      store = t.store;
      awake = t.awake;
      fresh = not_fresh was;
      heads = λ (e : false ≡ true). absurd (cc);
      last = t.last;
      held = t.held;
      grants = each_add (record { low = k.low; above = k.above; held = k.held; store = k.store; was = k.was; closed = k.closed })
          (record { at = λ x h. let g = t.grants.at x h in record { low = g.low; above = g.above; held = g.held; store = g.store; was = g.was; closed = g.closed } });
      grant_once = once_add (record { at = λ x h. let q = (l.grants.at x h).low in omega arith }) t.grant_once;
      votes = record { at = λ x h. let g = t.votes.at x h in record { low = g.low; above = g.above; held = g.held; still = g.still } };
      vote_once = t.vote_once;
      leads = t.leads;
      chain = t.chain;
      ships = t.ships;
      acks = t.acks;
    }

-- a vote for itself in the generation that it just promised and granted itself
pub stand_local : {E : Type 0} {o : Own E} → Local o → (i g : ℕ) → o.promised < g → o.was_up ≡ true → Local (record o { promised = g; leading = false; votes = record { gen = g; accepted = o.accepted; log = o.log } ∷ o.votes; grants = record { gen = g; to = i; accepted = o.accepted; log = o.log } ∷ o.grants })
stand_local {E} {o} l i g lt was =
    let t = grant_local l g i lt was in
    record {
      below = t.below;
      store = t.store;
      awake = t.awake;
      fresh = not_fresh was;
      heads = λ (e : false ≡ true). absurd (cc);
      last = t.last;
      held = t.held;
      grants = record { at = λ x h. let g = t.grants.at x h in record { low = g.low; above = g.above; held = g.held; store = g.store; was = g.was; closed = g.closed } };
      grant_once = t.grant_once;
      votes = each_add (record { low = omega arith; above = let b = l.below in omega arith; held = l.held; still = λ e f. (refl, refl) })
          (record { at = λ x h. let g = t.votes.at x h in record { low = g.low; above = g.above; held = g.held; still = g.still } });
      vote_once = once_add (record { at = λ x h. let q = (l.votes.at x h).low in omega arith }) t.vote_once;
      leads = record { at = λ c h. let r = t.leads.at c h in record { it = r.it; mem = there r.mem; is = r.is } };
      chain = t.chain;
      ships = t.ships;
      acks = t.acks;
    }
