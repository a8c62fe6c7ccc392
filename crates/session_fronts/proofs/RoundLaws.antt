-- The round of a begin: what a node's own steps say that it told, and when enough nodes confirmed.
use Rattle.std.proofs.Common.{ℕ, ◌≡◌, ◌≢◌, ◌+◌, ◌*◌, ◌^◌, ◌<◌, List, [], ◌∷◌, ◌++◌, length, arith, refl, sym, subst, ap, ◌∙◌}
use Rattle.std.specs.Prelude.{◌==◌, Bool, true, false, cond, max, suc}
use Rattle.std.specs.Int.{bit_at}
use Rattle.std.specs.Int.Bits.{bit_or}
use Rattle.std.proofs.lemmas.Bool.Decides.{Decides-eqb}
use Rattle.std.proofs.lemmas.List.{same_from_push}
use Rattle.std.proofs.lemmas.Nat.Bits.{bit_at-zero, bit_at_or, bit_at-pow_other}
use mathlib.Core.Logic.{◌⊎◌, inl, inr}
use Rattle.actor_trace.specs.History.{entries_of}
use Rattle.core_lists.specs.Lists.{In, Has}
use Rattle.core_lists.specs.Lists.In.{here}
use Rattle.core_lists.specs.Majorities.{count}
use Rattle.cluster_begins.specs.Begins.{CanBegin}
use Rattle.cluster_consensus.specs.Events.{NodeEvent}
use Rattle.cluster_consensus.specs.Facts.{Own, World}
use Rattle.cluster_consensus.proofs.Kept.{self_row}
use Rattle.cluster_events.specs.Settings.{Setting}
use Rattle.cluster_requests.specs.KeptEntries.{KeptEntry}
use Rattle.cluster_steps.specs.Named.{world}
use Rattle.cluster_steps.specs.declared.events.Event.{Event}
use Rattle.cluster_steps.specs.declared.events.Event.TheVariants as event
use Rattle.cluster_steps.proofs.StepLaws.{idle, steps_length}
use Rattle.cluster_steps.proofs.TellsLaws.{tells}
use Rattle.election_core.specs.Counts.{has_bit, with_bit}
use Rattle.session_fronts.specs.Fronts.{IsAnswered}
use Rattle.session_fronts.specs.Rounds.{AreConfirmed, EndsWith, IsConfirmed, IsProbed}

pub no_push : {A : Type 0} {B : Type 0} (front : List A) (x : A) → [] ≡ front ++ x ∷ [] → B
no_push [] x e = absurd (let q : 0 ≡ suc 0 = ap (λ t. length t) e in omega arith)
no_push (y ∷ front) x e = absurd (let q : 0 ≡ suc (length (front ++ x ∷ [])) = ap (λ t. length t) e in omega arith)

-- what holds of a node behind an event of its own holds as long as it does nothing more
record ToldBy (e : Event) (P : Own KeptEntry → Type 0) (G : Setting) (k : ℕ) : Type 0 where
  told : (h : List (ℕ × Event)) → P ((world G ((k, e) ∷ h)).nodes k)

last_told : (G : Setting) (k : ℕ) (e : Event) (P : Own KeptEntry → Type 0) → ToldBy e P G k → (h front : List (ℕ × Event)) (ticket : ℕ) → entries_of k h ≡ front ++ (ticket, e) ∷ [] → P ((world G h).nodes k)
last_told G k e P by [] front ticket is = no_push front (ticket, e) is
last_told G k e P by (x ∷ h) front ticket is = go (last_told G k e P by h front ticket) (k == x.0) refl is
  where
    go : (entries_of k h ≡ front ++ (ticket, e) ∷ [] → P ((world G h).nodes k)) → (b : Bool) → (k == x.0) ≡ b → cond b (entries_of k h ++ (length h, x.1) ∷ []) (entries_of k h) ≡ front ++ (ticket, e) ∷ []
        → P ((world G (x ∷ h)).nodes k)
    go again true q is =
        let same : k ≡ x.0 = (Decides-eqb k x.0).0 q in
        let last : (length h, x.1) ≡ (ticket, e) = (same_from_push (entries_of k h) front (length h, x.1) (ticket, e) is).1 in
        let its : x.1 ≡ e = ap (λ (t : ℕ × Event). t.1) last in
        let y : (k, e) ≡ (x.0, x.1) = ap (λ t. (t, e)) same ∙ ap (λ t. (x.0, t)) (sym its) in
        subst (λ (t : ℕ × Event). P ((world G (t ∷ h)).nodes k)) y (by.told h)
    go again false q is =
        let own : entries_of k (x ∷ h) ≡ entries_of k h = ap (λ b. cond b (entries_of k h ++ (length h, x.1) ∷ []) (entries_of k h)) q in
        subst P (sym (idle G k (x ∷ []) h own)) (again is)

-- whose last step was a probe told it, by its numbers
pub last_probe : (G : Setting) (h : List (ℕ × Event)) (k ask : ℕ) → EndsWith (event.Probe ask) (entries_of k h) → IsProbed (world G h) ask ((world G h).nodes k).durable ((world G h).nodes k).accepted k
last_probe G h k ask ends = last_told G k (event.Probe ask) (λ o. Has (λ x. (x.ask ≡ ask) × (x.gen ≡ o.accepted) × (x.durable ≡ o.durable)) o.pings) (record { told = told }) h ends.front ends.ticket ends.is
  where
    told : (g : List (ℕ × Event)) → Has (λ x. (x.ask ≡ ask) × (x.gen ≡ ((world G ((k, event.Probe ask) ∷ g)).nodes k).accepted) × (x.durable ≡ ((world G ((k, event.Probe ask) ∷ g)).nodes k).durable)) ((world G ((k, event.Probe ask) ∷ g)).nodes k).pings
    told g =
        subst (λ (o : Own KeptEntry). Has (λ x. (x.ask ≡ ask) × (x.gen ≡ o.accepted) × (x.durable ≡ o.durable)) o.pings) (sym (self_row (world G g) k (NodeEvent.Probe ask)))
        (record { it = record { ask = ask; gen = ((world G g).nodes k).accepted; durable = ((world G g).nodes k).durable }; mem = here; is = (refl, refl, refl) })

-- whose last step was a confirmation told it
pub last_confirm : (G : Setting) (h : List (ℕ × Event)) (k ask generation : ℕ) → EndsWith (event.Confirm ask generation) (entries_of k h) → IsConfirmed (world G h) ask generation k
last_confirm G h k ask generation ends = last_told G k (event.Confirm ask generation) (λ o. Has (λ x. (x.ask ≡ ask) × (x.gen ≡ generation)) o.pongs) (record { told = told }) h ends.front ends.ticket ends.is
  where
    told : (g : List (ℕ × Event)) → Has (λ x. (x.ask ≡ ask) × (x.gen ≡ generation)) ((world G ((k, event.Confirm ask generation) ∷ g)).nodes k).pongs
    told g =
        subst (λ (o : Own KeptEntry). Has (λ x. (x.ask ≡ ask) × (x.gen ≡ generation)) o.pongs) (sym (self_row (world G g) k (NodeEvent.Confirm ask generation)))
        (record { it = record { ask = ask; gen = generation }; mem = here; is = (refl, refl) })

-- an ask is called by its place in the history
pub asked_last : (G : Setting) (h : List (ℕ × Event)) (s : ℕ) → In (length h) (world G ((s, event.Ask) ∷ h)).asks
asked_last G h s = subst (λ t. In t (world G ((s, event.Ask) ∷ h)).asks) (steps_length G h) here

-- what was confirmed stays confirmed, and one node more can be counted
pub confirmed_stays : (G : Setting) (later h : List (ℕ × Event)) (ask generation leader bits : ℕ) → AreConfirmed (world G h) ask generation leader bits → AreConfirmed (world G (later ++ h)) ask generation leader bits
confirmed_stays G later h ask generation leader bits a = record { each = λ k e. on k (a.each k e) }
  where
    on : (k : ℕ) → (k ≡ leader) ⊎ IsConfirmed (world G h) ask generation k → (k ≡ leader) ⊎ IsConfirmed (world G (later ++ h)) ask generation k
    on k (inl e) = inl e
    on k (inr c) = inr (record { it = c.it; mem = ((tells G later h).nodes k).pongs c.it c.mem; is = c.is })

pub probed_stays : (G : Setting) (later h : List (ℕ × Event)) (ask position generation leader : ℕ) → IsProbed (world G h) ask position generation leader → IsProbed (world G (later ++ h)) ask position generation leader
probed_stays G later h ask position generation leader p = record { it = p.it; mem = ((tells G later h).nodes leader).pings p.it p.mem; is = p.is }

bit_of : (n f k : ℕ) → has_bit (with_bit n f) k ≡ true → (k ≡ f) ⊎ (has_bit n k ≡ true)
bit_of n f k e = go (k == f) refl
  where
    go : (b : Bool) → (k == f) ≡ b → (k ≡ f) ⊎ (has_bit n k ≡ true)
    go true h = inl ((Decides-eqb k f).0 h)
    go false h =
        let ne : k ≢ f = λ q. (let r = (Decides-eqb k f).1 q in absurd (cc)) in
        let a : bit_at (bit_or n (2 ^ f)) k ≡ 1 = (Decides-eqb (bit_at (bit_or n (2 ^ f)) k) 1).0 e in
        let b = bit_at_or n (2 ^ f) k in
        let z = bit_at-pow_other f k ne in
        let m : max (bit_at n k) (bit_at (2 ^ f) k) ≡ 1 = sym b ∙ a in
        let o : max (bit_at n k) 0 ≡ 1 = subst (λ t. max (bit_at n k) t ≡ 1) z m in
        let x : bit_at n k ≡ 1 = grind arith in
        inr ((Decides-eqb (bit_at n k) 1).1 x)

confirmed_more : (w : World KeptEntry) (ask generation leader bits k : ℕ) → AreConfirmed w ask generation leader bits → (k ≡ leader) ⊎ IsConfirmed w ask generation k → AreConfirmed w ask generation leader (with_bit bits k)
confirmed_more w ask generation leader bits k a c = record { each = λ j e. go j (bit_of bits k j e) }
  where
    go : (j : ℕ) → (j ≡ k) ⊎ (has_bit bits j ≡ true) → (j ≡ leader) ⊎ IsConfirmed w ask generation j
    go j (inl e) = subst (λ t. (t ≡ leader) ⊎ IsConfirmed w ask generation t) (sym e) c
    go j (inr e) = a.each j e

pub confirmed_by_leader : (w : World KeptEntry) (ask generation leader bits : ℕ) → AreConfirmed w ask generation leader bits → AreConfirmed w ask generation leader (with_bit bits leader)
confirmed_by_leader w ask generation leader bits a = confirmed_more w ask generation leader bits leader a (inl refl)

pub confirmed_by_node : (w : World KeptEntry) (ask generation leader bits k : ℕ) → AreConfirmed w ask generation leader bits → IsConfirmed w ask generation k → AreConfirmed w ask generation leader (with_bit bits k)
confirmed_by_node w ask generation leader bits k a c = confirmed_more w ask generation leader bits k a (inr c)

-- no bit is set in none
pub confirmed_none : (w : World KeptEntry) (ask generation leader : ℕ) → AreConfirmed w ask generation leader 0
confirmed_none w ask generation leader = record { each = λ k e. absurd (none k e) }
  where
    none : (k : ℕ) → has_bit 0 k ≡ true → ⊥
    none k e = let a : bit_at 0 k ≡ 1 = (Decides-eqb (bit_at 0 k) 1).0 e in let z = bit_at-zero k in omega (arith, a, z)

-- where more than half confirmed, the begin may be told
pub counted : (n : ℕ) (w : World KeptEntry) (ask position generation leader bits : ℕ) → IsProbed w ask position generation leader → AreConfirmed w ask generation leader bits → n < 2 * count n (λ k. has_bit bits k)
    → CanBegin n w ask position generation × IsAnswered w (record { begin = position; gen = generation })
counted n w ask position generation leader bits p a many = (
  (leader, record { it = p.it; mem = p.mem; is = p.is }, record { who = λ k. has_bit bits k; many = many; hold = λ k low high e. a.each k e }),
  record { node = leader; ping = record { it = p.it; mem = p.mem; is = (p.is.1, p.is.2) } },
)
