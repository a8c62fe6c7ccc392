-- A leader that learned a length since it leads told that it is durable, and that is what it knows as durable.
use Rattle.std.proofs.Common.{ℕ, ◌≡◌, ◌≤◌, List, [], ◌∷◌, ◌++◌, length, take, arith, refl, sym, subst, ap, ◌∙◌}
use Rattle.std.proofs.lemmas.Bool.Decides.{Decides-eqb}
use Rattle.std.specs.Prelude.{◌==◌, Bool, true, false, cond, Option, Some, None, slice_get}
use Rattle.actor_trace.specs.History.{entries_of}
use Rattle.cdb_values.specs.declared.replies.Reply.{Reply}
use Rattle.cluster_consensus.specs.Events.{NodeEvent, change}
use Rattle.cluster_consensus.specs.Facts.{Own, World}
use Rattle.cluster_consensus.specs.Histories.{happens}
use Rattle.cluster_consensus.proofs.Kept.{self_row}
use Rattle.cluster_events.specs.Parts.{ActorEvent, field}
use Rattle.cluster_events.specs.Settings.{Setting}
use Rattle.cluster_requests.specs.KeptEntries.{KeptEntry}
use Rattle.cluster_steps.specs.Guards.{AreLegalSteps}
use Rattle.cluster_steps.specs.Named.{back_append, kept_all, kept_over, log_named, named, named_reply, named_up, steps, world}
use Rattle.cluster_steps.specs.declared.events.Event.{Event}
use Rattle.cluster_steps.specs.declared.events.Event.TheVariants as event
use Rattle.cluster_steps.specs.declared.events.Woken.TheVariants as woken
use Rattle.cluster_steps.proofs.StepLaws.{idle, inv_of}
use Rattle.core_lists.specs.Lists.{Has}
use Rattle.core_lists.specs.Lists.In.{here}
use Rattle.core_lists.proofs.Fronts.{length_take, take_length}
use Rattle.phys_log.specs.declared.entries.Entry.{Entry}
use Rattle.report_laws.specs.Work.{WorkItem, Does, Lone}
use Rattle.node_state.specs.Nodes.{events_of}
use Rattle.node_state.specs.Ships.{learned_by, learned_after, learned_behind}
use Rattle.node_state.proofs.CallLaws.{events_more}
use Rattle.node_state.proofs.SettleLaws.{core_stays}

pub learned_more : (b : Bool) (es : List Event) (e : Event) → learned_behind b (es ++ e ∷ []) ≡ learned_after (learned_behind b es) e
learned_more b [] e = refl
learned_more b (x ∷ es) e = learned_more (learned_after b x) es e

-- by its steps, of which the last is looked at first
pub learned_last : (rest before : List (ℕ × Event)) (x : ℕ × Event) → rest ≡ before ++ x ∷ [] → learned_by (events_of rest) ≡ learned_after (learned_by (events_of before)) x.1
learned_last rest before x q = ap (λ xs. learned_by (events_of xs)) q ∙ (ap learned_by (events_more before (x ∷ [])) ∙ learned_more false (events_of before) x.1)

pub neither : (b : Bool) (e : Event) → ((g : ℕ) → e ≡ event.Lead g → ⊥) → ((l : ℕ) → e ≡ event.Learn l → ⊥) → learned_after b e ≡ b
neither b event.Order lead learn = refl
neither b event.Obeyed lead learn = refl
neither b (event.Fire line node) lead learn = refl
neither b (event.Admit node promised accepted) lead learn = refl
neither b (event.Up how promised accepted entries) lead learn = refl
neither b (event.Down fault) lead learn = refl
neither b (event.Stand g) lead learn = refl
neither b (event.Grant g to) lead learn = refl
neither b (event.Lead g) lead learn = absurd (lead g refl)
neither b (event.Take g l) lead learn = refl
neither b (event.Append next) lead learn = refl
neither b (event.Settle id d) lead learn = refl
neither b (event.Learn l) lead learn = absurd (learn l refl)
neither b (event.Probe ask) lead learn = refl
neither b (event.Confirm ask g) lead learn = refl
neither b event.Ask lead learn = refl
neither b (event.Begun position g) lead learn = refl
neither b (event.Reply line) lead learn = refl
neither b (event.Send master g) lead learn = refl
neither b (event.Outcome line) lead learn = refl
neither b (event.Move node) lead learn = refl
neither b event.Barrier lead learn = refl
neither b (event.Fed position g) lead learn = refl
neither b (event.FedAgain position) lead learn = refl

-- what it told
abbrev pub Telling : Own KeptEntry → Bool → Type 0
Telling o b = o.leading ≡ true → b ≡ true → Has (λ d. (d.gen ≡ o.accepted) × (length d.log ≡ o.durable)) o.durables

by_core : (w : World KeptEntry) (i : ℕ) (c : NodeEvent KeptEntry) (b : Bool) → Telling (change i (w.nodes i) c) b → Telling ((happens w i c).nodes i) b
by_core w i c b t = subst (λ (o : Own KeptEntry). Telling o b) (sym (self_row w i c)) t

-- who does not lead tells nothing
silent : (o : Own KeptEntry) (b : Bool) → o.leading ≡ false → Telling o b
silent o b q = λ t. absurd (let f : false ≡ true = sym q ∙ t in cc)

reply_stays : (items : List WorkItem) (r : Reply) (i : ℕ) (g : List (ℕ × ActorEvent)) → (field ((i, named_reply items r) ∷ g)).core ≡ (field g).core
reply_stays [] r i g = refl
reply_stays (Does t ∷ items) r i g = refl
reply_stays (Lone x ∷ items) r i g = refl

same_core : (i : ℕ) (s : ActorEvent) (g : List (ℕ × ActorEvent)) (b : Bool) → (field ((i, s) ∷ g)).core ≡ (field g).core → Telling ((field g).core.nodes i) b → Telling ((field ((i, s) ∷ g)).core.nodes i) b
same_core i s g b q t = subst (λ (w : World KeptEntry). Telling (w.nodes i) b) (sym q) t

-- it takes a log, learns a length, goes down, comes up
takes : (w : World KeptEntry) (i g : ℕ) (l : List KeptEntry) (b c : Bool) → Telling (w.nodes i) b → Telling ((happens w i (cond c (NodeEvent.Grow l) (NodeEvent.Take g l))).nodes i) b
takes w i g l b true t = by_core w i (NodeEvent.Grow l) b t
takes w i g l b false t = by_core w i (NodeEvent.Take g l) b (silent (change i (w.nodes i) (NodeEvent.Take g l)) b refl)

learns : (w : World KeptEntry) (i l : ℕ) (c : Bool) → (w.nodes i).leading ≡ c → ((happens w i (cond c (NodeEvent.LearnLead l) (NodeEvent.LearnFollow l))).nodes i).durable ≤ length ((happens w i (cond c (NodeEvent.LearnLead l) (NodeEvent.LearnFollow l))).nodes i).log
    → Telling ((happens w i (cond c (NodeEvent.LearnLead l) (NodeEvent.LearnFollow l))).nodes i) true
learns w i l true q fits = by_core w i (NodeEvent.LearnLead l) true (λ t u. record { it = record { gen = (w.nodes i).accepted; log = take l (w.nodes i).log }; mem = here; is = (refl, size) })
  where
    within : l ≤ length (w.nodes i).log
    within = subst (λ (o : Own KeptEntry). o.durable ≤ length o.log) (self_row w i (NodeEvent.LearnLead l)) fits

    size : length (take l (w.nodes i).log) ≡ l
    size = let a = length_take l (w.nodes i).log in let b = take_length l (w.nodes i).log within in omega arith
learns w i l false q fits = by_core w i (NodeEvent.LearnFollow l) true (silent (change i (w.nodes i) (NodeEvent.LearnFollow l)) true q)

downs : (i : ℕ) (g : List (ℕ × ActorEvent)) (b fault : Bool) → Telling ((field g).core.nodes i) b → Telling ((field ((i, cond fault (ActorEvent.Node NodeEvent.Down) ActorEvent.Stop) ∷ g)).core.nodes i) b
downs i g b true t = by_core (field g).core i NodeEvent.Down b t
downs i g b false t = by_core (field g).core i NodeEvent.Down b t

wakes : (w : World KeptEntry) (i : ℕ) (c : NodeEvent KeptEntry) (b : Bool) → (change i (w.nodes i) c).leading ≡ false → Telling ((happens w i c).nodes i) b
wakes w i c b q = by_core w i c b (silent (change i (w.nodes i) c) b q)

woken_took : (o : Own KeptEntry) (i g : ℕ) (l : List KeptEntry) (c : Bool) → (change i o (cond c (NodeEvent.BackGrow l) (NodeEvent.BackTake g l))).leading ≡ false
woken_took o i g l true = refl
woken_took o i g l false = refl

woken_append : (o : Own KeptEntry) (i promised : ℕ) (log : List KeptEntry) (x : Option Entry) → (change i o (back_append promised log x)).leading ≡ false
woken_append o i promised log None = refl
woken_append o i promised log (Some e) = refl

-- an event of its own
own_telling : (G : Setting) (g : List (ℕ × ActorEvent)) (i : ℕ) (e : Event) (b : Bool) → ((field ((i, named G g i e) ∷ g)).core.nodes i).durable ≤ length ((field ((i, named G g i e) ∷ g)).core.nodes i).log
    → Telling ((field g).core.nodes i) b → Telling ((field ((i, named G g i e) ∷ g)).core.nodes i) (learned_after b e)
own_telling G g i event.Order b fits t = t
own_telling G g i event.Obeyed b fits t = t
own_telling G g i (event.Fire place node) b fits t = t
own_telling G g i (event.Admit node promised accepted) b fits t = by_core (field g).core i (NodeEvent.Admits node promised accepted) b t
own_telling G g i (event.Up (woken.First rows) promised accepted entries) b fits t = wakes (field g).core i (NodeEvent.Boot promised accepted (kept_all rows.value entries.value)) b refl
own_telling G g i (event.Up woken.AsLeft promised accepted entries) b fits t = wakes (field g).core i (NodeEvent.Back promised) b refl
own_telling G g i (event.Up woken.Led promised accepted entries) b fits t = wakes (field g).core i NodeEvent.BackLead b refl
own_telling G g i (event.Up woken.Took promised accepted entries) b fits t = wakes (field g).core i (named_up G.nodes (field g).core ((field g).core.nodes i) woken.Took promised accepted entries.value) b
    (woken_took ((field g).core.nodes i) i accepted (log_named G.nodes (field g).core accepted (length entries.value)) (accepted == ((field g).core.nodes i).accepted))
own_telling G g i (event.Up woken.Appended promised accepted entries) b fits t = wakes (field g).core i (named_up G.nodes (field g).core ((field g).core.nodes i) woken.Appended promised accepted entries.value) b
    (woken_append ((field g).core.nodes i) i promised ((field g).core.nodes i).log (slice_get entries.value (length ((field g).core.nodes i).log)))
own_telling G g i (event.Down fault) b fits t = downs i g b fault t
own_telling G g i (event.Stand generation) b fits t = wakes (field g).core i (NodeEvent.Stand generation) b refl
own_telling G g i (event.Grant generation to) b fits t = wakes (field g).core i (NodeEvent.Grants generation to) b refl
own_telling G g i (event.Lead generation) b fits t = by_core (field g).core i NodeEvent.Lead false (λ l (u : false ≡ true). absurd (cc))
own_telling G g i (event.Take generation l) b fits t = takes (field g).core i generation _ b (generation == ((field g).core.nodes i).accepted) t
own_telling G g i (event.Append next) b fits t = by_core (field g).core i (NodeEvent.Append (kept_over ((field g).core.nodes i).log next.value)) b t
own_telling G g i (event.Settle id d) b fits t = same_core i _ g b (core_stays G.tables i id.value d.value g) t
own_telling G g i (event.Learn l) b fits t = learns (field g).core i l ((field g).core.nodes i).leading refl fits
own_telling G g i (event.Probe ask) b fits t = by_core (field g).core i (NodeEvent.Probe ask) b t
own_telling G g i (event.Confirm ask generation) b fits t = by_core (field g).core i (NodeEvent.Confirm ask generation) b t
own_telling G g i event.Ask b fits t = by_core (field g).core i (NodeEvent.Asks (length g)) b t
own_telling G g i (event.Begun position generation) b fits t = t
own_telling G g i (event.Reply line) b fits t = same_core i _ g b (reply_stays _ _ i g) t
own_telling G g i (event.Send master generation) b fits t = t
own_telling G g i (event.Outcome line) b fits t = t
own_telling G g i (event.Move node) b fits t = t
own_telling G g i event.Barrier b fits t = t
own_telling G g i (event.Fed position generation) b fits t = t
own_telling G g i (event.FedAgain position) b fits t = t

pub telling : (G : Setting) (i : ℕ) (h : List (ℕ × Event)) → AreLegalSteps G h → Telling ((world G h).nodes i) (learned_by (events_of (entries_of i h)))
telling G i [] legal = λ (t : false ≡ true). absurd (cc)
telling G i (x ∷ h) legal = go (i == x.0) refl (telling G i h legal.1)
  where
    mine : List (ℕ × Event)
    mine = entries_of i h

    fits : ((world G (x ∷ h)).nodes i).durable ≤ length ((world G (x ∷ h)).nodes i).log
    fits = ((inv_of G (x ∷ h) legal).refs i).fits

    more : learned_by (events_of (mine ++ (length h, x.1) ∷ [])) ≡ learned_after (learned_by (events_of mine)) x.1
    more = ap learned_by (events_more mine ((length h, x.1) ∷ [])) ∙ learned_more false (events_of mine) x.1

    own : i ≡ x.0 → Telling ((world G h).nodes i) (learned_by (events_of mine)) → Telling ((world G (x ∷ h)).nodes i) (learned_after (learned_by (events_of mine)) x.1)
    own q t =
        subst (λ k. Telling ((world G (x ∷ h)).nodes k) (learned_after (learned_by (events_of mine)) x.1)) (sym q)
        (own_telling G (steps G h) x.0 x.1 (learned_by (events_of mine)) (subst (λ k. ((world G (x ∷ h)).nodes k).durable ≤ length ((world G (x ∷ h)).nodes k).log) q fits)
        (subst (λ k. Telling ((world G h).nodes k) (learned_by (events_of mine))) q t))

    go : (b : Bool) → (i == x.0) ≡ b → Telling ((world G h).nodes i) (learned_by (events_of mine)) → Telling ((world G (x ∷ h)).nodes i) (learned_by (events_of (cond b (mine ++ (length h, x.1) ∷ []) mine)))
    go true e t = subst (λ b. Telling ((world G (x ∷ h)).nodes i) b) (sym more) (own ((Decides-eqb i x.0).0 e) t)
    go false e t = subst (λ (o : Own KeptEntry). Telling o (learned_by (events_of mine))) (sym (idle G i (x ∷ []) h (ap (λ b. cond b (mine ++ (length h, x.1) ∷ []) mine) e))) t
