-- With what a node came up first is what the core boots it with.
use Rattle.std.proofs.Common.{ℕ, ◌≡◌, ◌+◌, ◌≤◌, List, [], ◌∷◌, ◌++◌, length, map, refl, sym, subst, ap, ◌∙◌}
use Rattle.std.specs.Prelude.{◌==◌, Bool, true, false, cond, Option, Some, None, slice_get}
use Rattle.std.specs.declared.snapshot.Snapshot.{Snapshot}
use Rattle.std.proofs.lemmas.Bool.Decides.{Decides-eqb}
use mathlib.Core.Logic.{◌⊎◌, inl, inr}
use Rattle.actor_trace.specs.History.{entries_of}
use Rattle.cdb_values.specs.Rows.{Rows}
use Rattle.cdb_values.specs.declared.replies.Reply.{Reply}
use Rattle.cdb_values.specs.declared.tables.TableDef.{TableDef}
use Rattle.cluster_consensus.proofs.Kept.{self_row}
use Rattle.cluster_consensus.specs.Enabled.{Enabled}
use Rattle.cluster_consensus.specs.Events.{NodeEvent, change}
use Rattle.cluster_consensus.specs.Events.NodeEvent.{Boot}
use Rattle.cluster_consensus.specs.Facts.{Own, World}
use Rattle.cluster_consensus.specs.Histories.{happens}
use Rattle.cluster_events.specs.Guards.{MayDo}
use Rattle.cluster_events.specs.Parts.{ActorEvent, field, part}
use Rattle.cluster_events.specs.Settings.{Setting}
use Rattle.cluster_requests.specs.KeptEntries.{KeptEntry, plain}
use Rattle.cluster_steps.proofs.StepLaws.{idle}
use Rattle.cluster_steps.specs.Guards.{AreLegalSteps, IsExact}
use Rattle.cluster_steps.specs.Named.{back_append, kept_all, kept_over, log_named, named, named_reply, named_settled, named_up, reply_in, steps, world}
use Rattle.cluster_steps.specs.declared.events.Event.{Event}
use Rattle.cluster_steps.specs.declared.events.Event.TheVariants as event
use Rattle.cluster_steps.specs.declared.events.Woken.{Woken}
use Rattle.cluster_steps.specs.declared.events.Woken.TheVariants as woken
use Rattle.core_lists.proofs.Lists.{nothing}
use Rattle.core_lists.specs.Lists.{In}
use Rattle.core_lists.specs.Lists.In.{here, there}
use Rattle.kept_log.specs.Kept.{Kept, kept}
use Rattle.phys_log.specs.declared.entries.CommitId.{CommitId}
use Rattle.phys_log.specs.declared.entries.Entry.{Entry}
use Rattle.phys_log.specs.declared.requests.Decision.{Decision}
use Rattle.phys_log.specs.declared.requests.Decision.TheVariants as decision
use Rattle.report_laws.specs.Work.{WorkItem, Does, Lone}
use Rattle.run_results.specs.Stores.{first_up, or_before, up_of}

-- whether an event is the first time that a node comes up
abbrev boots : ActorEvent → Bool
boots (ActorEvent.Node (Boot p a l)) = true
boots _ = false

other_event : {x : ActorEvent} (p a : ℕ) (l : List KeptEntry) → x ≡ ActorEvent.Node (Boot p a l) → boots x ≡ false → ⊥
other_event {x} p a l e none = let b : boots x ≡ true = ap boots e in absurd (cc (none, b))

none_of_two : (b : Bool) (c d : NodeEvent KeptEntry) → boots (ActorEvent.Node c) ≡ false → boots (ActorEvent.Node d) ≡ false → boots (ActorEvent.Node (cond b c d)) ≡ false
none_of_two true c d p q = p
none_of_two false c d p q = q

none_appended : (promised : ℕ) (log : List KeptEntry) (e : Option Entry) → boots (ActorEvent.Node (back_append promised log e)) ≡ false
none_appended promised log None = refl
none_appended promised log (Some e) = refl

none_settled : (tables : List TableDef) (id : CommitId) (d : Decision) → boots (named_settled tables id d) ≡ false
none_settled tables id (decision.Repeat position) = refl
none_settled tables id _ = refl

none_replied : (items : List WorkItem) (answer : Reply) → boots (named_reply items answer) ≡ false
none_replied [] answer = refl
none_replied (Lone r ∷ items) answer = refl
none_replied (Does t ∷ items) answer = refl

-- an event that boots a node is its first time up, with just that
record IsBoot (e : Event) (p a : ℕ) (l : List KeptEntry) : Type 0 where
  rows : Snapshot Rows
  entries : Snapshot (List Entry)
  is : e ≡ event.Up (woken.First rows) p a entries
  log : kept_all rows.value entries.value ≡ l

boot_is : (G : Setting) (g : List (ℕ × ActorEvent)) (i : ℕ) (e : Event) (p a : ℕ) (l : List KeptEntry) → named G g i e ≡ ActorEvent.Node (Boot p a l) → IsBoot e p a l
boot_is G g i (event.Up (woken.First rows) q b es) p a l e =
    let z : ActorEvent.Node (Boot q b (kept_all rows.value es.value)) ≡ ActorEvent.Node (Boot p a l) = e in
    let f : q ≡ p = cc z in
    let k : b ≡ a = cc z in
    let t : kept_all rows.value es.value ≡ l = cc z in
    record {
      rows = rows;
      entries = es;
      is = ap (λ x. event.Up (woken.First rows) x b es) f ∙ ap (λ x. event.Up (woken.First rows) p x es) k;
      log = t;
    }
boot_is G g i (event.Up woken.AsLeft q b es) p a l e = absurd (other_event p a l e refl)
boot_is G g i (event.Up woken.Led q b es) p a l e = absurd (other_event p a l e refl)
boot_is G g i (event.Up woken.Took q b es) p a l e =
    let log : List KeptEntry = log_named G.nodes (field g).core b (length es.value) in
    absurd (other_event p a l e (none_of_two (b == ((field g).core.nodes i).accepted) (NodeEvent.BackGrow log) (NodeEvent.BackTake b log) refl refl))
boot_is G g i (event.Up woken.Appended q b es) p a l e =
    let log : List KeptEntry = ((field g).core.nodes i).log in
    absurd (other_event p a l e (none_appended q log (slice_get es.value (length log))))
boot_is G g i (event.Down true) p a l e = absurd (other_event p a l e refl)
boot_is G g i (event.Down false) p a l e = absurd (other_event p a l e refl)
boot_is G g i (event.Take generation n) p a l e =
    let log : List KeptEntry = log_named G.nodes (field g).core generation n in
    absurd (other_event p a l e (none_of_two (generation == ((field g).core.nodes i).accepted) (NodeEvent.Grow log) (NodeEvent.Take generation log) refl refl))
boot_is G g i (event.Learn n) p a l e = absurd (other_event p a l e (none_of_two ((field g).core.nodes i).leading (NodeEvent.LearnLead n) (NodeEvent.LearnFollow n) refl refl))
boot_is G g i (event.Settle id d) p a l e = absurd (other_event p a l e (none_settled G.tables id.value d.value))
boot_is G g i (event.Reply told) p a l e = absurd (other_event p a l e (none_replied (part G i g).left (reply_in told)))
boot_is G g i _ p a l e = absurd (other_event p a l e refl)

-- a node that comes up was up then, and stays one that was
took_was : (n : ℕ) (w : World KeptEntry) (i : ℕ) (o : Own KeptEntry) (b : Bool) (a : ℕ) (l : List KeptEntry) → Enabled n w i o (cond b (NodeEvent.BackGrow l) (NodeEvent.BackTake a l)) → (change i o (cond b (NodeEvent.BackGrow l) (NodeEvent.BackTake a l))).was_up ≡ true
took_was n w i o true a l en = en.1
took_was n w i o false a l en = en.1

appended_was : (n : ℕ) (w : World KeptEntry) (i : ℕ) (o : Own KeptEntry) (p : ℕ) (log : List KeptEntry) (e : Option Entry) → Enabled n w i o (back_append p log e) → (change i o (back_append p log e)).was_up ≡ true
appended_was n w i o p log None en = en.1
appended_was n w i o p log (Some e) en = en.1

up_was : (n : ℕ) (w : World KeptEntry) (i : ℕ) (o : Own KeptEntry) (how : Woken) (p a : ℕ) (es : List Entry) → Enabled n w i o (named_up n w o how p a es) → (change i o (named_up n w o how p a es)).was_up ≡ true
up_was n w i o (woken.First rows) p a es en = refl
up_was n w i o woken.AsLeft p a es en = en.1
up_was n w i o woken.Led p a es en = en.1
up_was n w i o woken.Took p a es en = took_was n w i o (a == o.accepted) a (log_named n w a (length es)) en
up_was n w i o woken.Appended p a es en = appended_was n w i o p o.log (slice_get es (length o.log)) en

core_was : (i : ℕ) (o : Own KeptEntry) (c : NodeEvent KeptEntry) → (change i o c).was_up ≡ false → o.was_up ≡ false
core_was i o (Boot p a l) e = absurd (let z : true ≡ false = e in cc)
core_was i o _ e = e

happened : (w : World KeptEntry) (i : ℕ) (c : NodeEvent KeptEntry) → ((happens w i c).nodes i).was_up ≡ false → (w.nodes i).was_up ≡ false
happened w i c e = core_was i (w.nodes i) c (sym (ap (λ (o : Own KeptEntry). o.was_up) (self_row w i c)) ∙ e)

replied : (g : List (ℕ × ActorEvent)) (i : ℕ) (items : List WorkItem) (answer : Reply) → ((field ((i, named_reply items answer) ∷ g)).core.nodes i).was_up ≡ false → ((field g).core.nodes i).was_up ≡ false
replied g i [] answer e = e
replied g i (Lone r ∷ items) answer e = e
replied g i (Does t ∷ items) answer e = e

settled : (g : List (ℕ × ActorEvent)) (i : ℕ) (tables : List TableDef) (id : CommitId) (d : Decision) → ((field ((i, named_settled tables id d) ∷ g)).core.nodes i).was_up ≡ false → ((field g).core.nodes i).was_up ≡ false
settled g i tables id (decision.Repeat position) e = e
settled g i tables id _ e = e

never : (G : Setting) (g : List (ℕ × ActorEvent)) (i : ℕ) (e : Event) → MayDo G g i (named G g i e) → ((field ((i, named G g i e) ∷ g)).core.nodes i).was_up ≡ false → (((field g).core.nodes i).was_up ≡ false) × (up_of e ≡ None)
never G g i (event.Up how p a es) may down =
    let w : World KeptEntry = (field g).core in
    let c : NodeEvent KeptEntry = named_up G.nodes w (w.nodes i) how p a es.value in
    let was : (change i (w.nodes i) c).was_up ≡ true = up_was G.nodes w i (w.nodes i) how p a es.value may.0.0 in
    let q : ((happens w i c).nodes i).was_up ≡ (change i (w.nodes i) c).was_up = ap (λ (o : Own KeptEntry). o.was_up) (self_row w i c) in
    let z : true ≡ false = sym (q ∙ was) ∙ down in
    absurd (cc z)
never G g i (event.Lead generation) may down = (happened (field g).core i NodeEvent.Lead down, refl)
never G g i (event.Take generation n) may down =
    let log : List KeptEntry = log_named G.nodes (field g).core generation n in
    (happened (field g).core i (cond (generation == ((field g).core.nodes i).accepted) (NodeEvent.Grow log) (NodeEvent.Take generation log)) down, refl)
never G g i (event.Append next) may down = (happened (field g).core i (NodeEvent.Append (kept_over ((field g).core.nodes i).log next.value)) down, refl)
never G g i (event.Down true) may down = (happened (field g).core i NodeEvent.Down down, refl)
never G g i (event.Down false) may down = (happened (field g).core i NodeEvent.Down down, refl)
never G g i (event.Stand generation) may down = (happened (field g).core i (NodeEvent.Stand generation) down, refl)
never G g i (event.Grant generation to) may down = (happened (field g).core i (NodeEvent.Grants generation to) down, refl)
never G g i (event.Admit node promised accepted) may down = (happened (field g).core i (NodeEvent.Admits node promised accepted) down, refl)
never G g i (event.Learn n) may down = (happened (field g).core i (cond ((field g).core.nodes i).leading (NodeEvent.LearnLead n) (NodeEvent.LearnFollow n)) down, refl)
never G g i (event.Probe ask) may down = (happened (field g).core i (NodeEvent.Probe ask) down, refl)
never G g i (event.Confirm ask generation) may down = (happened (field g).core i (NodeEvent.Confirm ask generation) down, refl)
never G g i event.Ask may down = (happened (field g).core i (NodeEvent.Asks (length g)) down, refl)
never G g i (event.Settle id d) may down = (settled g i G.tables id.value d.value down, refl)
never G g i (event.Reply told) may down = (replied g i (part G i g).left (reply_in told) down, refl)
never G g i _ may down = (down, refl)

none_before : (a b : Option Kept) → a ≡ None → b ≡ None → or_before a b ≡ None
none_before a b p q = ap (λ (o : Option Kept). or_before o b) p ∙ q

-- a node that was never up came up with nothing
pub never_up : (G : Setting) (k : ℕ) (h : List (ℕ × Event)) → AreLegalSteps G h → ((world G h).nodes k).was_up ≡ false → first_up k h ≡ None
never_up G k [] legal down = refl
never_up G k (x ∷ h) legal down = go (k == x.0) refl (never_up G k h legal.1)
  where
    go : (b : Bool) → (k == x.0) ≡ b → (((world G h).nodes k).was_up ≡ false → first_up k h ≡ None) → or_before (first_up k h) (cond b (up_of x.1) None) ≡ None
    go true e again =
        let same : k ≡ x.0 = (Decides-eqb k x.0).0 e in
        let its : ((world G (x ∷ h)).nodes x.0).was_up ≡ false = subst (λ i. ((world G (x ∷ h)).nodes i).was_up ≡ false) same down in
        let n = never G (steps G h) x.0 x.1 legal.0.allowed.may its in
        let before : ((world G h).nodes k).was_up ≡ false = subst (λ i. ((world G h).nodes i).was_up ≡ false) (sym same) n.0 in
        none_before (first_up k h) (up_of x.1) (again before) n.1
    go false e again =
        let own : entries_of k (x ∷ h) ≡ entries_of k h = ap (λ (b : Bool). cond b (entries_of k h ++ (length h, x.1) ∷ []) (entries_of k h)) e in
        let still : ((world G (x ∷ h)).nodes k).was_up ≡ ((world G h).nodes k).was_up = ap (λ (o : Own KeptEntry). o.was_up) (idle G k (x ∷ []) h own) in
        none_before (first_up k h) None (again (sym still ∙ down)) refl

split_in : {A : Type 0} {x y : A} {ys : List A} → In x (y ∷ ys) → (x ≡ y) ⊎ In x ys
split_in here = inl refl
split_in (there m) = inr m

-- what the core says of a node that boots
pub record IsBooted (G : Setting) (h : List (ℕ × Event)) (k p a : ℕ) (l : List KeptEntry) : Type 0 where
  pub least : 1 ≤ k
  pub most : k ≤ G.nodes
  pub first : first_up k h ≡ Some (kept p a (map plain l))

pub booted : (G : Setting) (k p a : ℕ) (l : List KeptEntry) (h : List (ℕ × Event)) → AreLegalSteps G h → In (k, ActorEvent.Node (Boot p a l)) (steps G h) → IsBooted G h k p a l
booted G k p a l [] legal m = absurd (nothing m)
booted G k p a l (x ∷ h) legal m = go (split_in m) (booted G k p a l h legal.1)
  where
    g : List (ℕ × ActorEvent)
    g = steps G h

    e : ActorEvent
    e = named G g x.0 x.1

    go : (◌≡◌ {A = ℕ × ActorEvent} (k, ActorEvent.Node (Boot p a l)) (x.0, e)) ⊎ In (k, ActorEvent.Node (Boot p a l)) g → (In (k, ActorEvent.Node (Boot p a l)) g → IsBooted G h k p a l) → IsBooted G (x ∷ h) k p a l
    go (inr more) again =
        let was = again more in
        record { least = was.least; most = was.most; first = ap (λ (o : Option Kept). or_before o (cond (k == x.0) (up_of x.1) None)) was.first }
    go (inl q) again =
        let same : k ≡ x.0 = ap (λ (y : ℕ × ActorEvent). y.0) q in
        let is = boot_is G g x.0 x.1 p a l (sym (ap (λ (y : ℕ × ActorEvent). y.1) q)) in
        let may : MayDo G g k (ActorEvent.Node (Boot p a l)) = subst (λ (y : ℕ × ActorEvent). MayDo G g y.0 y.1) (sym q) legal.0.allowed.may in
        let exact : IsExact G g x.0 (event.Up (woken.First is.rows) p a is.entries) = subst (λ (y : Event). IsExact G g x.0 y) is.is legal.0.exact in
        let none : first_up k h ≡ None = never_up G k h legal.1 may.0.0.1 in
        let logs : is.entries.value ≡ map plain l = sym exact.1.log ∙ ap (λ (t : List KeptEntry). map plain t) is.log in
        let up : up_of x.1 ≡ Some (kept p a (map plain l)) = ap up_of is.is ∙ ap (λ (t : List Entry). Some (kept p a t)) logs in
        record {
          least = may.2.0;
          most = may.2.1;
          first = ap (λ (o : Option Kept). or_before o (cond (k == x.0) (up_of x.1) None)) none
              ∙ (ap (λ (b : Bool). cond b (up_of x.1) None) ((Decides-eqb k x.0).1 same) ∙ up);
        }
