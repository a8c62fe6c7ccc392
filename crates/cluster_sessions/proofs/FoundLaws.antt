-- The log that a begin names, and its rows.
use Rattle.std.proofs.Common.{ℕ, ◌≡◌, ◌<◌, ◌≤◌, List, [], ◌∷◌, length, take, arith, refl, sym, subst, ap, ◌∙◌}
use Rattle.std.specs.Prelude.{Option, Some, unwrap_or}
use mathlib.Core.Logic.{◌⊎◌, inl, inr}
use Rattle.core_lists.specs.Fronts.{Front}
use Rattle.core_lists.specs.Lists.{In, Has}
use Rattle.core_lists.proofs.Fronts.{front_length, front_take, length_take, take_length}
use Rattle.core_lists.proofs.Majorities.{some_of}
use Rattle.core_lists.proofs.Numbers.{lt_or_eq}
use Rattle.cluster_answers.proofs.AskLaws.{opened_ok}
use Rattle.cluster_answers.proofs.EntryLaws.{same_take}
use Rattle.cluster_consensus.specs.Durable.{DurableIn}
use Rattle.cluster_consensus.specs.Facts.{Claim, World}
use Rattle.cluster_consensus.specs.Histories.{after}
use Rattle.cluster_consensus.specs.Shipped.{find_log}
use Rattle.cluster_consensus.proofs.Generations.{begins, comparable, durable_either}
use Rattle.cluster_consensus.proofs.Invariant.{Inv}
use Rattle.cluster_consensus.proofs.Lengths.{front_found}
use Rattle.cluster_events.specs.Parts.{Opened, part, field}
use Rattle.cluster_events.specs.Settings.{Setting}
use Rattle.cluster_events.proofs.HistoryLaws.{steps as core_steps, Pinged, begins_of}
use Rattle.cluster_facts.proofs.ToldLaws.{shipped_accepted}
use Rattle.cluster_requests.specs.KeptEntries.{KeptEntry, state_of}
use Rattle.cluster_sessions.proofs.PingLaws.{reached, pings_of_nodes}
use Rattle.cluster_steps.specs.Guards.{IsLogFound, AreLegalSteps}
use Rattle.cluster_steps.specs.Named.{log_named, rows_begun, steps, world}
use Rattle.cluster_steps.specs.declared.events.Event.{Event}
use Rattle.cluster_steps.proofs.StepLaws.{legal_steps, core_legal, inv_of, world_is}

-- two logs that begin alike up to there
apart : {A : Type 0} {a b : List A} → Front a b ⊎ Front b a → (k : ℕ) → k ≤ length a → k ≤ length b → take k a ≡ take k b
apart (inl p) k la lb = same_take p k la
apart (inr p) k la lb = sym (same_take p k lb)

-- what was shipped in a generation, and what is durable in it or below
as_durable : {n : ℕ} {w : World KeptEntry} → Inv n w → (g : ℕ) (d : List KeptEntry) → DurableIn n w g d → (m : ℕ) (c : Claim KeptEntry) → In c (w.nodes m).accepts → g ≤ c.gen → (k : ℕ) → k ≤ length d → k ≤ length c.log → take k c.log ≡ take k d
as_durable {n} {w} inv g d dur m c hc low k ld lc = go (lt_or_eq g c.gen low)
  where
    go : (g < c.gen) ⊎ (g ≡ c.gen) → take k c.log ≡ take k d
    go (inl lt) = sym (same_take (begins inv g d dur m c hc lt) k ld)
    go (inr e) =
        let s = some_of dur in
        let p = s.1.is.1 in
        let long = front_length p in
        apart (comparable inv m s.0 c s.1.it hc s.1.mem (sym e ∙ sym s.1.is.0)) k lc (omega arith) ∙ sym (same_take p k ld)

-- the log that a begin names
pub record IsFoundAt (G : Setting) (h : List (ℕ × Event)) (o : Opened) : Type 0 where
  pub log : List KeptEntry
  pub found : find_log (world G h) o.gen o.begin G.nodes ≡ Some log
  pub as_durable : (g : ℕ) (d : List KeptEntry) → DurableIn G.nodes (world G h) g d → o.begin ≤ length d → log ≡ take o.begin d

pub found_by : (G : Setting) (h : List (ℕ × Event)) → AreLegalSteps G h → (o : Opened) → Pinged (field (steps G h)) o.begin o.gen → IsFoundAt G h o
found_by G h l o p = record { log = take o.begin ship.it.log; found = found; as_durable = same }
  where
    inv : Inv G.nodes (world G h)
    inv = inv_of G h l

    gen : p.ping.gen ≡ o.gen
    gen = p.gen

    durable : p.ping.durable ≡ o.begin
    durable = p.durable

    ship : Has (λ s. (s.gen ≡ p.ping.gen) × (p.ping.durable ≤ length s.log)) ((world G h).nodes p.node).ships
    ship =
        let q = world_is G h in
        subst (λ (w : World KeptEntry). Has (λ s. (s.gen ≡ p.ping.gen) × (p.ping.durable ≤ length s.log)) (w.nodes p.node).ships) (sym q)
        ((reached G.nodes (core_steps (steps G h)) (core_legal G h l) p.node).at p.ping (subst (λ (w : World KeptEntry). In p.ping (w.nodes p.node).pings) q p.mem)).ship

    long : o.begin ≤ length ship.it.log
    long = let s : p.ping.durable ≤ length ship.it.log = ship.is.1 in omega (arith, s, durable)

    size : length (take o.begin ship.it.log) ≡ o.begin
    size = let a = length_take o.begin ship.it.log in let b = take_length o.begin ship.it.log long in omega (arith, a, b)

    by : (1 ≤ p.node) × (p.node ≤ G.nodes)
    by = pings_of_nodes G (steps G h) (legal_steps G h l) p.node p.ping p.mem

    found : find_log (world G h) o.gen o.begin G.nodes ≡ Some (take o.begin ship.it.log)
    found = subst (λ k. find_log (world G h) o.gen k G.nodes ≡ Some (take o.begin ship.it.log)) size
        (front_found inv o.gen p.node G.nodes ship.it (take o.begin ship.it.log) ship.mem (ship.is.0 ∙ gen) (front_take o.begin ship.it.log) by.0 by.1)

    accepted : In ship.it ((world G h).nodes p.node).accepts
    accepted =
        let q = world_is G h in
        subst (λ (w : World KeptEntry). In ship.it (w.nodes p.node).accepts) (sym q) (shipped_accepted G.nodes p.node (core_steps (steps G h)) ship.it (core_legal G h l) (subst (λ (w : World KeptEntry). In ship.it (w.nodes p.node).ships) q ship.mem))

    same : (g : ℕ) (d : List KeptEntry) → DurableIn G.nodes (world G h) g d → o.begin ≤ length d → take o.begin ship.it.log ≡ take o.begin d
    same g d dur within =
        let b = begins_of G (steps G h) (legal_steps G h l) o.begin o.gen p in
        let sg : ship.it.gen ≡ o.gen = ship.is.0 ∙ gen in
        let low : b.gen ≤ o.gen = b.low in
        as_durable inv b.gen b.log b.durable p.node ship.it accepted (omega arith) o.begin b.within long
        ∙ apart (durable_either inv b.gen g b.log d b.durable dur) o.begin b.within within

pub found_at : (G : Setting) (h : List (ℕ × Event)) → AreLegalSteps G h → (s : ℕ) (o : Opened) → (part G s (steps G h)).opened ≡ Some o → IsFoundAt G h o
found_at G h l s o is = found_by G h l o (opened_ok G (steps G h) (legal_steps G h l) s o is)

is_log : (G : Setting) (h : List (ℕ × Event)) (o : Opened) (f : IsFoundAt G h o) → log_named G.nodes (world G h) o.gen o.begin ≡ f.log
is_log G h o f = ap (λ z. unwrap_or z []) f.found

pub named_at : (G : Setting) (h : List (ℕ × Event)) → AreLegalSteps G h → (s : ℕ) (o : Opened) → (part G s (steps G h)).opened ≡ Some o → IsLogFound G.nodes (world G h) o.gen o.begin
named_at G h l s o is = let f = found_at G h l s o is in f.found ∙ ap (λ z. Some z) (sym (is_log G h o f))

pub rows_at_begin : (G : Setting) (h : List (ℕ × Event)) → AreLegalSteps G h → (s g : ℕ) (o : Opened) (d : List KeptEntry) → (part G s (steps G h)).opened ≡ Some o → DurableIn G.nodes (world G h) g d → o.begin ≤ length d
    → rows_begun G (world G h) o ≡ state_of (take o.begin d)
rows_at_begin G h l s g o d is dur within = let f = found_at G h l s o is in ap (λ z. state_of z) (is_log G h o f ∙ f.as_durable g d dur within)
