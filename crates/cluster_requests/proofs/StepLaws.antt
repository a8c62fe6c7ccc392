-- The events of the nodes among the acts are a legal history, and what is appended in it is new.
use Rattle.std.proofs.Common.{◌≡◌, ℕ, ◌≤◌, List, [], ◌∷◌, refl, ap, subst}
use Rattle.cluster_consensus.specs.Durable.{DurableIn}
use Rattle.cluster_consensus.specs.Enabled.{Enabled}
use Rattle.cluster_consensus.specs.Events.{NodeEvent}
use Rattle.cluster_consensus.specs.Events.NodeEvent.{Append, BackAppend}
use Rattle.cluster_consensus.specs.Facts.{Claim}
use Rattle.cluster_consensus.specs.Histories.{Legal, happens, after}
use Rattle.cluster_masters.proofs.BehindLaws.{behind_base}
use Rattle.cluster_masters.specs.Appended.{Appends, AllAppend, EachBehind}
use Rattle.cluster_requests.specs.KeptEntries.{KeptEntry}
use Rattle.cluster_requests.specs.Requests.{FieldAct, Field, MayEnter, field_after, AllMay}
use Rattle.cluster_requests.specs.Requests.FieldAct.{Core, ToSend, ToSettle, ToRepeat}
use Rattle.cluster_requests.specs.Steps.{steps_of, IsNewIn}
use Rattle.core_lists.specs.Lists.{In}

pub core_is : (h : List (ℕ × FieldAct)) → (field_after h).core ≡ after (steps_of h)
core_is [] = refl
core_is ((i, Core e) ∷ h) = ap (λ w. happens w i e) (core_is h)
core_is ((i, ToSend x) ∷ h) = core_is h
core_is ((i, ToSettle id why) ∷ h) = core_is h
core_is ((i, ToRepeat id position) ∷ h) = core_is h

pub steps_legal : (n : ℕ) (h : List (ℕ × FieldAct)) → AllMay n h → Legal n (steps_of h)
steps_legal n [] may = tt
steps_legal n ((i, Core e) ∷ h) may = (subst (λ w. Enabled n w i (w.nodes i) e) (core_is h) may.0.0, steps_legal n h may.1)
steps_legal n ((i, ToSend x) ∷ h) may = steps_legal n h may.1
steps_legal n ((i, ToSettle id why) ∷ h) may = steps_legal n h may.1
steps_legal n ((i, ToRepeat id position) ∷ h) may = steps_legal n h may.1

new_row : (f : Field) (i : ℕ) (e : NodeEvent KeptEntry) → MayEnter f i e → Appends IsNewIn (f.core.nodes i) e
new_row f i (Append e) may = (may.made, may.new)
new_row f i (BackAppend e) may = (may.made, may.new)
new_row f i _ may = tt

all_new : (n : ℕ) (h : List (ℕ × FieldAct)) → AllMay n h → AllAppend IsNewIn (steps_of h)
all_new n [] may = tt
all_new n ((i, Core e) ∷ h) may = (subst (λ w. Appends IsNewIn (w.nodes i) e) (core_is h) (new_row (field_after h) i e may.0.1), all_new n h may.1)
all_new n ((i, ToSend x) ∷ h) may = all_new n h may.1
all_new n ((i, ToSettle id why) ∷ h) may = all_new n h may.1
all_new n ((i, ToRepeat id position) ∷ h) may = all_new n h may.1

pub new_behind : (n k m : ℕ) (h : List (ℕ × FieldAct)) (l c : Claim KeptEntry) → AllMay n h → In l ((field_after h).core.nodes m).leads → DurableIn n (field_after h).core l.gen l.log → In c ((field_after h).core.nodes k).accepts → l.gen ≤ c.gen → EachBehind IsNewIn l.gen c.gen l.log c.log
new_behind n k m h l c may hl dur hc low =
    let q = core_is h in
    (behind_base IsNewIn n k m (steps_of h) l c (steps_legal n h may) (all_new n h may) (subst (λ w. In l (w.nodes m).leads) q hl) (subst (λ w. DurableIn n w l.gen l.log) q dur) (subst (λ w. In c (w.nodes k).accepts) q hc) low).1
