-- A packet is handed to its node, and a queue is run until it is empty.
use Rattle.std.specs.declared.alloc.Global.{Global}
use Rattle.std.proofs.Common.{ℕ, ◌≡◌, ◌+◌, ◌-◌, ◌<◌, ◌≤◌, List, [], ◌∷◌, ◌++◌, length, get_or, slice_set, arith, refl, sym, subst, ap, ◌∙◌}
use Rattle.std.specs.Prelude.{Vec, Option, Result, Ok, Err, IfOk, OnOk}
use mathlib.Core.Logic.{◌⊎◌, inl}
use Rattle.cluster_steps.specs.declared.events.Event.{Event}
use Rattle.node_clusters.proofs.OutcomeLaws.{light_none}
use Rattle.node_clusters.proofs.ReignLaws.{all_reign_themselves, one_reigns}
use Rattle.node_clusters.proofs.TurnLaws.{no_turns, one_turn}
use Rattle.node_clusters.specs.Deliveries.{IsHanded, IsTakenIn}
use Rattle.node_clusters.specs.Passes.{PassAll}
use Rattle.node_clusters.specs.UnderWay.{IsUnderWay}
use Rattle.node_clusters.proofs.PacketLaws.{numbers_join}
use Rattle.node_clusters.proofs.PlaceLaws.{beyond, place_other, place_self, placed}
use Rattle.node_clusters.specs.Numbers.{by_numbers, numbers}
use Rattle.node_clusters.specs.Places.{votes}
use Rattle.node_clusters.specs.Runs.{Goes}
use Rattle.node_state.specs.Packets.{SentPacket}
use Rattle.node_state.specs.Stores.{Stored}
use Rattle.quiet_cluster.proofs.Loads.{load_join}
use Rattle.quiet_cluster.specs.Deliveries.{Delivered, Outcome, Run}
use Rattle.quiet_cluster.specs.Deliveries.Run.{rest, step}
use Rattle.quiet_cluster.specs.Loads.{load, weight}

-- a packet to nobody
nobody_there : (vs : List Stored) (p : SentPacket) (s : List SentPacket) → (p.to ≡ 0) ⊎ (length vs < p.to) → s ≡ [] → Delivered (votes vs) (votes vs) (by_numbers p) (numbers s)
nobody_there vs p s h e = record { others = λ k ne. refl; outcome = inl (ap (λ (t : Stored). t.vote.up) (beyond vs p.to h), ap numbers e) }

delivered : (vs us : List Stored) (p : SentPacket) (s : List SentPacket) (v u : Stored) → 0 < p.to → p.to ≤ length vs → v ≡ get_or vs (p.to - 1) v → us ≡ slice_set vs (p.to - 1) u
    → Outcome v.vote (by_numbers p) u.vote (numbers s) → Delivered (votes vs) (votes us) (by_numbers p) (numbers s)
delivered vs us p s v u low high at put o = subst (λ t. Delivered (votes vs) (votes t) (by_numbers p) (numbers s)) (sym put) (record {
  others = λ k ne. ap (λ (t : Stored). t.vote) (place_other vs p.to u k low ne);
  outcome = subst (λ (t : Stored). Outcome t.vote (by_numbers p) (votes (slice_set vs (p.to - 1) u) p.to) (numbers s)) (sym (placed vs p.to v low high at))
      (subst (λ (t : Stored). Outcome v.vote (by_numbers p) t.vote (numbers s)) (sym (place_self vs p.to u low high)) o);
})

-- to whom it goes takes it in; who has no place is nobody
pub handed_to_nobody : (vs : List Stored) (p : SentPacket) (i : ℕ) (s : List SentPacket) (last : Option (List (ℕ × Event))) → i ≡ p.to → (i ≡ 0) ⊎ (length vs < i) → s ≡ [] → IsHanded p s last vs vs last
handed_to_nobody vs p i s last to h e = record {
  delivered = nobody_there vs p s (subst (λ j. (j ≡ 0) ⊎ (length vs < j)) to h) e;
  light = light_none p.message s e;
  reigns = all_reign_themselves vs;
  turns = no_turns vs vs last last refl refl;
}

handed_so : (vs us : List Stored) (p : SentPacket) (s : List SentPacket) (last next : Option (List (ℕ × Event))) (v u : Stored) → 0 < p.to → p.to ≤ length vs → v ≡ get_or vs (p.to - 1) v → us ≡ slice_set vs (p.to - 1) u → IsTakenIn p s last v u next → IsHanded p s last vs us next
handed_so vs us p s last next v u low high at put t = record {
  delivered = delivered vs us p s v u low high at put t.outcome;
  light = t.light;
  reigns = one_reigns vs us p.to v u low high at put t.reigns;
  turns = one_turn vs us p.to v u last next low high at put t.turn;
}

pub handed : {E : Type 0} (r : Result (Vec SentPacket Global) E) (vs us : List Stored) (p : SentPacket) (i : ℕ) (last next : Option (List (ℕ × Event))) (v u : Stored) → i ≡ p.to → 0 < i → i ≤ length vs → v ≡ get_or vs (i - 1) v → us ≡ slice_set vs (i - 1) u
    → IfOk r (λ s. IsTakenIn p s.items last v u next) → IfOk r (λ s. IsHanded p s.items last vs us next)
handed (Ok s) vs us p i last next v u to low high at put t =
    handed_so vs us p s.items last next v u (subst (λ j. 0 < j) to low) (subst (λ j. j ≤ length vs) to high) (subst (λ j. v ≡ get_or vs (j - 1) v) to at) (subst (λ j. us ≡ slice_set vs (j - 1) u) to put) t
handed (Err e) vs us p i last next v u to low high at put t = tt

goes_on : (vs us : List Stored) (p : SentPacket) (ps s r : List SentPacket) → Delivered (votes vs) (votes us) (by_numbers p) (numbers s) → r ≡ ps ++ s → Goes vs (p ∷ ps) us r
goes_on vs us p ps s r d e = record { on = λ to x. step (numbers s) d (subst (λ t. Run (votes us) t to) (ap numbers e ∙ numbers_join ps s) x) }

lighter : (p : SentPacket) (ps s r : List SentPacket) → load (numbers s) < weight p.message → r ≡ ps ++ s → load (numbers r) < load (numbers (p ∷ ps))
lighter p ps s r lt e =
    let a : load (numbers r) ≡ load (numbers ps) + load (numbers s) = ap load (ap numbers e ∙ numbers_join ps s) ∙ load_join (numbers ps) (numbers s) in
    omega arith

-- and what comes of it stands behind the others
pub passed_on : {T E : Type 0} (o : Result T E) (vs us : List Stored) (p : SentPacket) (ps s r : List SentPacket) (last next : Option (List (ℕ × Event))) → PassAll vs us → IsHanded p s last vs us next → OnOk o (r ≡ ps ++ s) → OnOk o (IsUnderWay vs (p ∷ ps) last us r next)
passed_on (Ok t) vs us p ps s r last next passed h e = record { passed = passed; goes = goes_on vs us p ps s r h.delivered e; reigns = h.reigns; turns = h.turns }
passed_on (Err t) vs us p ps s r last next passed h e = tt

pub lighter_on : {T E : Type 0} (o : Result T E) (vs us : List Stored) (p : SentPacket) (ps s r : List SentPacket) (last next : Option (List (ℕ × Event))) → IsHanded p s last vs us next → OnOk o (r ≡ ps ++ s) → OnOk o (load (numbers r) < load (numbers (p ∷ ps)))
lighter_on (Ok t) vs us p ps s r last next h e = lighter p ps s r h.light e
lighter_on (Err t) vs us p ps s r last next h e = tt

pub goes_nowhere : (vs : List Stored) (q : List SentPacket) → Goes vs q vs q
goes_nowhere vs q = record { on = λ to x. x }

pub goes_then : (vs us ws : List Stored) (q r s : List SentPacket) → Goes vs q us r → Goes us r ws s → Goes vs q ws s
goes_then vs us ws q r s a b = record { on = λ to x. a.on to (b.on to x) }

-- none is left
pub run_over : (vs us : List Stored) (q r : List SentPacket) → Goes vs q us r → r ≡ [] → Run (votes vs) (numbers q) (votes us)
run_over vs us q r a e = a.on (votes us) (subst (λ t. Run (votes us) (numbers t) (votes us)) (sym e) rest)
