-- Where a leader's durable number grew in the generation that it leads, that was told.
use Rattle.std.proofs.Common.{ℕ, ◌≡◌, ◌<◌, ◌≤◌, List, [], ◌∷◌, ◌++◌, length, take, arith, refl, sym, subst, ap, ◌∙◌}
use Rattle.std.specs.Prelude.{◌==◌, Bool, true, false, cond}
use Rattle.std.proofs.lemmas.Bool.Decides.{Decides-eqb}
use mathlib.Core.Logic.{◌⊎◌, inl, inr}
use Rattle.cluster_consensus.specs.Enabled.{Enabled}
use Rattle.cluster_consensus.specs.Events.{NodeEvent, change}
use Rattle.cluster_consensus.specs.Events.NodeEvent.{Boot, Back, BackLead, BackTake, BackGrow, BackAppend, Stand, Grants, Lead, Take, LearnLead, LearnFollow}
use Rattle.cluster_consensus.specs.Facts.{Own, World}
use Rattle.cluster_consensus.specs.Histories.{Legal, after}
use Rattle.cluster_consensus.proofs.Kept.{always}
use Rattle.cluster_consensus.proofs.Laws.{known_within}
use Rattle.cluster_consensus.proofs.Onward.{Onward, onward_row}
use Rattle.cluster_events.specs.Guards.{IsKept}
use Rattle.cluster_events.specs.Parts.{field}
use Rattle.cluster_events.specs.Settings.{Setting}
use Rattle.cluster_events.proofs.HistoryLaws.{steps as core_steps, steps_append as core_append}
use Rattle.cluster_requests.specs.Identities.{HasAt}
use Rattle.cluster_requests.specs.KeptEntries.{KeptEntry}
use Rattle.cluster_sessions.proofs.KeptLaws.{kept_by}
use Rattle.cluster_steps.specs.Guards.{AreLegalSteps}
use Rattle.cluster_steps.specs.Named.{steps, world}
use Rattle.cluster_steps.specs.declared.events.Event.{Event}
use Rattle.cluster_steps.proofs.StepLaws.{core_legal, more_steps, steps_append, world_is}
use Rattle.core_lists.specs.Lists.{Has}
use Rattle.core_lists.specs.Lists.In.{here}
use Rattle.core_lists.proofs.Fronts.{take_length}
use Rattle.phys_log.specs.declared.entries.CommitId.{CommitId}

-- where it leads in that generation, it knows no more than that as durable, or told what it knows
abbrev pub IsToldBeyond : Own KeptEntry → ℕ → ℕ → Type 0
IsToldBeyond o d g = o.leading ≡ true → o.accepted ≡ g → (o.durable ≤ d) ⊎ Has (λ c. (c.gen ≡ g) × (o.durable ≤ length c.log)) o.durables

no_leader : {A : Type 0} → false ≡ true → A
no_leader e = absurd (cc)

same_number : (n : ℕ) → n ≤ n
same_number n = omega arith

told_row : (n : ℕ) (w : World KeptEntry) (i d g : ℕ) (e : NodeEvent KeptEntry) → Enabled n w i (w.nodes i) e → (change i (w.nodes i) e).durable ≤ length (change i (w.nodes i) e).log → g ≤ (w.nodes i).accepted
    → IsToldBeyond (w.nodes i) d g → IsToldBeyond (change i (w.nodes i) e) d g
told_row n w i d g (Boot p a l) en fits low told = λ lead its. no_leader lead
told_row n w i d g (Back p) en fits low told = λ lead its. no_leader lead
told_row n w i d g BackLead en fits low told = λ lead its. no_leader lead
told_row n w i d g (BackTake h l) en fits low told = λ lead its. no_leader lead
told_row n w i d g (BackGrow l) en fits low told = λ lead its. no_leader lead
told_row n w i d g (BackAppend x) en fits low told = λ lead its. no_leader lead
told_row n w i d g (Stand h) en fits low told = λ lead its. no_leader lead
told_row n w i d g (Grants h to) en fits low told = λ lead its. no_leader lead
told_row n w i d g (Take h l) en fits low told = λ lead its. no_leader lead
told_row n w i d g Lead en fits low told = λ lead its. absurd (
    let lt : (w.nodes i).accepted < (w.nodes i).promised = en.1.0 in
    let same : (w.nodes i).promised ≡ g = its in
    omega (arith, lt, same, low))
told_row n w i d g (LearnLead l) en fits low told = λ lead its. inr (record { it = record { gen = (w.nodes i).accepted; log = take l (w.nodes i).log }; mem = here; is = (its, take_length l (w.nodes i).log fits) })
told_row n w i d g (LearnFollow l) en fits low told = λ lead its. no_leader (
    let other : (w.nodes i).leading ≡ false = en.1 in
    let leads : (w.nodes i).leading ≡ true = lead in
    sym other ∙ leads)
told_row n w i d g _ en fits low told = told

told_on : (n k d g : ℕ) (m c : List (ℕ × NodeEvent KeptEntry)) → Legal n (m ++ c) → g ≤ ((after c).nodes k).accepted → IsToldBeyond ((after c).nodes k) d g
    → (g ≤ ((after (m ++ c)).nodes k).accepted) × IsToldBeyond ((after (m ++ c)).nodes k) d g
told_on n k d g [] c legal low told = (low, told)
told_on n k d g (x ∷ m) c legal low told = go (told_on n k d g m c legal.1 low told) (k == x.0) refl (known_within n k (x ∷ (m ++ c)) legal)
  where
    w : World KeptEntry
    w = after (m ++ c)

    go : (g ≤ (w.nodes k).accepted) × IsToldBeyond (w.nodes k) d g → (b : Bool) → (k == x.0) ≡ b
        → (cond b (change x.0 (w.nodes x.0) x.1) (w.nodes k)).durable ≤ length (cond b (change x.0 (w.nodes x.0) x.1) (w.nodes k)).log
        → (g ≤ (cond b (change x.0 (w.nodes x.0) x.1) (w.nodes k)).accepted) × IsToldBeyond (cond b (change x.0 (w.nodes x.0) x.1) (w.nodes k)) d g
    go old false q fits = old
    go old true q fits =
        let same : k ≡ x.0 = (Decides-eqb k x.0).0 q in
        let its : (g ≤ (w.nodes x.0).accepted) × IsToldBeyond (w.nodes x.0) d g = subst (λ j. (g ≤ (w.nodes j).accepted) × IsToldBeyond (w.nodes j) d g) same old in
        let on : Onward (w.nodes x.0) (change x.0 (w.nodes x.0) x.1) = onward_row (always n (m ++ c) legal.1) x.0 x.1 legal.0 in
        let up : (w.nodes x.0).accepted ≤ (change x.0 (w.nodes x.0) x.1).accepted = on.accepted in
        let first : g ≤ (w.nodes x.0).accepted = its.0 in
        (omega (arith, first, up), told_row n w x.0 d g x.1 legal.0 fits first its.1)

pub learned_told : (G : Setting) (k : ℕ) (later old : List (ℕ × Event)) → AreLegalSteps G (later ++ old) → ((world G (later ++ old)).nodes k).leading ≡ true → ((world G old).nodes k).accepted ≡ ((world G (later ++ old)).nodes k).accepted
    → ((world G old).nodes k).durable < ((world G (later ++ old)).nodes k).durable
    → Has (λ c. (c.gen ≡ ((world G (later ++ old)).nodes k).accepted) × (((world G (later ++ old)).nodes k).durable ≤ length c.log)) ((world G (later ++ old)).nodes k).durables
learned_told G k later old legal lead same grown = go (newest lead (sym same))
  where
    q : core_steps (steps G (later ++ old)) ≡ core_steps (more_steps G later old) ++ core_steps (steps G old)
    q = ap core_steps (steps_append G later old) ∙ core_append (more_steps G later old) (steps G old)

    is_new : world G (later ++ old) ≡ after (core_steps (more_steps G later old) ++ core_steps (steps G old))
    is_new = world_is G (later ++ old) ∙ ap after q

    behind : (((world G old).nodes k).accepted ≤ ((after (core_steps (more_steps G later old) ++ core_steps (steps G old))).nodes k).accepted) × IsToldBeyond ((after (core_steps (more_steps G later old) ++ core_steps (steps G old))).nodes k) ((world G old).nodes k).durable ((world G old).nodes k).accepted
    behind = told_on G.nodes k ((world G old).nodes k).durable ((world G old).nodes k).accepted (core_steps (more_steps G later old)) (core_steps (steps G old)) (subst (λ z. Legal G.nodes z) q (core_legal G (later ++ old) legal))
        (subst (λ (v : World KeptEntry). ((world G old).nodes k).accepted ≤ (v.nodes k).accepted) (world_is G old) (same_number ((world G old).nodes k).accepted))
        (subst (λ (v : World KeptEntry). IsToldBeyond (v.nodes k) ((world G old).nodes k).durable ((world G old).nodes k).accepted) (world_is G old) (λ l e. inl (same_number ((world G old).nodes k).durable)))

    newest : IsToldBeyond ((world G (later ++ old)).nodes k) ((world G old).nodes k).durable ((world G old).nodes k).accepted
    newest = subst (λ (v : World KeptEntry). IsToldBeyond (v.nodes k) ((world G old).nodes k).durable ((world G old).nodes k).accepted) (sym is_new) behind.1

    go : (((world G (later ++ old)).nodes k).durable ≤ ((world G old).nodes k).durable) ⊎ Has (λ c. (c.gen ≡ ((world G old).nodes k).accepted) × (((world G (later ++ old)).nodes k).durable ≤ length c.log)) ((world G (later ++ old)).nodes k).durables
        → Has (λ c. (c.gen ≡ ((world G (later ++ old)).nodes k).accepted) × (((world G (later ++ old)).nodes k).durable ≤ length c.log)) ((world G (later ++ old)).nodes k).durables
    go (inl le) = absurd (omega (arith, le, grown))
    go (inr h) = record { it = h.it; mem = h.mem; is = (h.is.0 ∙ same, h.is.1) }

-- so an entry of its log up to there may be told as a commit
pub learned_kept : (G : Setting) (k position : ℕ) (id : CommitId) (later old : List (ℕ × Event)) → AreLegalSteps G (later ++ old) → ((world G (later ++ old)).nodes k).leading ≡ true
    → ((world G old).nodes k).accepted ≡ ((world G (later ++ old)).nodes k).accepted → ((world G old).nodes k).durable < ((world G (later ++ old)).nodes k).durable
    → HasAt id position ((world G (later ++ old)).nodes k).log → position ≤ ((world G (later ++ old)).nodes k).durable → IsKept (field (steps G (later ++ old))) id position
learned_kept G k position id later old legal lead same grown at within =
    let t = learned_told G k later old legal lead same grown in
    let long : ((world G (later ++ old)).nodes k).durable ≤ length t.it.log = t.is.1 in
    kept_by G (later ++ old) k k position id t.it legal lead at t.mem t.is.0 (omega (arith, within, long))
