-- The laws of consensus, of the nodes of a run.
use Rattle.std.proofs.Common.{ℕ, ◌≡◌, ◌<◌, ◌≤◌, List, [], ◌∷◌, ◌++◌, length, take, refl, sym, subst, ap, ◌∙◌}
use mathlib.Core.Logic.{◌⊎◌}
use Rattle.cluster_consensus.specs.Durable.{DurableIn}
use Rattle.cluster_consensus.specs.Facts.{Claim, World}
use Rattle.cluster_consensus.specs.Histories.{after, Legal}
use Rattle.cluster_consensus.proofs.Laws.{agree, begin, known_durable, known_within, known_stays}
use Rattle.cluster_events.specs.Settings.{Setting}
use Rattle.cluster_events.proofs.HistoryLaws.{steps as core_steps, steps_append as core_append}
use Rattle.cluster_requests.specs.KeptEntries.{KeptEntry}
use Rattle.cluster_steps.specs.Named.{steps, world}
use Rattle.cluster_steps.specs.declared.events.Event.{Event}
use Rattle.cluster_steps.proofs.StepLaws.{core_legal, world_is, more_steps, steps_append}
use Rattle.cluster_steps.specs.Guards.{AreLegalSteps}
use Rattle.core_lists.specs.Fronts.{Front}
use Rattle.core_lists.specs.Lists.{In}

pub logs_agree : (G : Setting) (h : List (ℕ × Event)) (c b : ℕ) (d e : List KeptEntry) → AreLegalSteps G h → DurableIn G.nodes (world G h) c d → DurableIn G.nodes (world G h) b e → Front d e ⊎ Front e d
logs_agree G h c b d e l p q =
    let w = world_is G h in
    agree G.nodes (core_steps (steps G h)) d e (core_legal G h l) (c, subst (λ v. DurableIn G.nodes v c d) w p) (b, subst (λ v. DurableIn G.nodes v b e) w q)

pub positions_durable : (G : Setting) (h : List (ℕ × Event)) (k : ℕ) → AreLegalSteps G h → 0 < ((world G h).nodes k).durable
    → (g : ℕ) × DurableIn G.nodes (world G h) g (take ((world G h).nodes k).durable ((world G h).nodes k).log)
positions_durable G h k l some =
    let w = world_is G h in
    let d = known_durable G.nodes k (core_steps (steps G h)) (core_legal G h l) (subst (λ (v : World KeptEntry). 0 < (v.nodes k).durable) w some) in
    subst (λ (v : World KeptEntry). (g : ℕ) × DurableIn G.nodes v g (take (v.nodes k).durable (v.nodes k).log)) (sym w) d

pub positions_within : (G : Setting) (h : List (ℕ × Event)) (k : ℕ) → AreLegalSteps G h → ((world G h).nodes k).durable ≤ length ((world G h).nodes k).log
positions_within G h k l = subst (λ (v : World KeptEntry). (v.nodes k).durable ≤ length (v.nodes k).log) (sym (world_is G h)) (known_within G.nodes k (core_steps (steps G h)) (core_legal G h l))

more_core : (G : Setting) (later h : List (ℕ × Event)) → core_steps (steps G (later ++ h)) ≡ core_steps (more_steps G later h) ++ core_steps (steps G h)
more_core G later h = ap core_steps (steps_append G later h) ∙ core_append (more_steps G later h) (steps G h)

pub positions_stay : (G : Setting) (h later : List (ℕ × Event)) (k : ℕ) → AreLegalSteps G (later ++ h) → Front (take ((world G h).nodes k).durable ((world G h).nodes k).log) ((world G (later ++ h)).nodes k).log
positions_stay G h later k l =
    let q = more_core G later h in
    let m = core_steps (more_steps G later h) in
    let c = core_steps (steps G h) in
    let legal : Legal G.nodes (m ++ c) = subst (λ z. Legal G.nodes z) q (core_legal G (later ++ h) l) in
    let s = known_stays G.nodes k c m legal in
    let old : World KeptEntry = after c in
    let new : World KeptEntry = after (m ++ c) in
    let is_new : world G (later ++ h) ≡ after (m ++ c) = world_is G (later ++ h) ∙ ap after q in
    subst (λ (v : World KeptEntry). Front (take (v.nodes k).durable (v.nodes k).log) ((world G (later ++ h)).nodes k).log) (sym (world_is G h))
    (subst (λ (v : World KeptEntry). Front (take ((after c).nodes k).durable ((after c).nodes k).log) (v.nodes k).log) (sym is_new) s)

pub logs_begin : (G : Setting) (h : List (ℕ × Event)) (g k : ℕ) (d : List KeptEntry) (c : Claim KeptEntry) → AreLegalSteps G h → DurableIn G.nodes (world G h) g d → In c ((world G h).nodes k).accepts → g < c.gen → Front d c.log
logs_begin G h g k d c l p hc lt =
    let w = world_is G h in
    begin G.nodes g k (core_steps (steps G h)) d c (core_legal G h l) (subst (λ v. DurableIn G.nodes v g d) w p) (subst (λ (v : World KeptEntry). In c (v.nodes k).accepts) w hc) lt
