-- Where the operator is in its lines, behind what others do, and behind its own events.
use Rattle.std.proofs.Common.{ℕ, ◌≡◌, ◌+◌, ◌≤◌, List, [], ◌∷◌, ◌++◌, length, arith, refl, sym, subst, ap, ◌∙◌}
use Rattle.std.specs.Prelude.{◌==◌, Bool, true, false, cond, if◌then◌else◌, Option, Some, None, slice_get}
use Rattle.std.specs.declared.snapshot.Snapshot.{Snapshot}
use mathlib.Core.Logic.{inr}
use Rattle.std.proofs.lemmas.Bool.Decides.{Decides-eqb}
use Rattle.actor_trace.specs.History.{entries_of}
use Rattle.actor_trace.specs.Steps.{Adds, Rests}
use Rattle.actor_trace.proofs.Entries.{idle_step, not_eq}
use Rattle.cluster_events.proofs.LineLists.{in_append}
use Rattle.cluster_events.specs.Arms.{Fired, HasFallen, fired_by, last_fired}
use Rattle.cluster_events.specs.Guards.{AllBeyond, IsLegalHistory, MayDo}
use Rattle.cluster_consensus.specs.Events.{NodeEvent}
use Rattle.cluster_events.proofs.FireLaws.{count_seen}
use Rattle.cluster_events.proofs.LinePlaces.{other_lines}
use Rattle.cluster_events.specs.Operator.Turn.{Rise}
use Rattle.cluster_events.specs.Operator.{Count, Duty, Turn, IsHeededAt, IsOfNode, IsStartOrdered, IsStopOrdered, count_of, duty, new_orders, next_left, operators_from, orders, turn, turn_counted}
use Rattle.cluster_events.specs.Parts.{ActorEvent, Part, field, lines, lines_by, part}
use Rattle.cluster_events.specs.Settings.{Setting, lines_to_do}
use Rattle.cluster_steps.specs.Guards.{AreLegalSteps, IsPlan, MayTakeStep}
use Rattle.cluster_requests.specs.KeptEntries.{KeptEntry}
use Rattle.cluster_steps.specs.Named.{back_append, log_named, named, steps}
use Rattle.cluster_steps.specs.declared.events.Event.{Event}
use Rattle.cluster_steps.specs.declared.events.Event.TheVariants as event
use Rattle.cluster_steps.specs.declared.events.Woken.{Woken}
use Rattle.cluster_steps.specs.declared.events.Woken.TheVariants as woken
use Rattle.cluster_steps.proofs.StepLaws.{legal_steps, more_steps, steps_append}
use Rattle.core_lists.specs.Lists.{Has}
use Rattle.core_lists.specs.Lists.In.{here}
use Rattle.operator_work.specs.Duties.{IsAt}
use Rattle.phys_log.specs.declared.entries.Entry.{Entry}
use Rattle.report_laws.proofs.NodesLaws.{up_append}
use Rattle.report_laws.specs.Nodes.{downs, is_up, up_from}
use Rattle.report_text.specs.declared.reports.Line.{Line}
use Rattle.report_text.specs.declared.reports.Line.TheVariants as line
use Rattle.script_form.specs.declared.scripts.Act.{Act}
use Rattle.script_form.specs.declared.scripts.Act.TheVariants as act
use Rattle.script_form.specs.declared.scripts.BodyLine.{BodyLine}

-- the operator lets no arm fire
never_fires : (G : Setting) (g : List (ℕ × ActorEvent)) (i : ℕ) (e : ActorEvent) → 0 ≡ i → MayDo G g i e → fired_by g i e ≡ None
never_fires G g i (ActorEvent.Fire line node) zero_is may = let s : (i == 0) ≡ true = (Decides-eqb i 0).1 (sym zero_is) in absurd (cc (s, may))
never_fires G g i _ zero_is may = refl

unfired : (G : Setting) (g : List (ℕ × ActorEvent)) → IsLegalHistory G g → last_fired 0 g ≡ None
unfired G [] legal = refl
unfired G (x ∷ g) legal = go (0 == x.0) refl (unfired G g legal.1)
  where
    go : (b : Bool) → (0 == x.0) ≡ b → last_fired 0 g ≡ None → cond b (fired_by g x.0 x.1) (last_fired 0 g) ≡ None
    go true e none = never_fires G g x.0 x.1 ((Decides-eqb 0 x.0).0 e) legal.0
    go false e none = none

-- an event that is by the script, of the operator
by_script : (G : Setting) (h : List (ℕ × Event)) → AreLegalSteps G h → HasFallen G (steps G h) 0 (last_fired 0 (steps G h))
by_script G h legal = subst (λ (o : Option Fired). HasFallen G (steps G h) 0 o) (sym (unfired G (steps G h) (legal_steps G h legal))) tt

-- the duty is the operator's own
idle_duty : (G : Setting) (body : List BodyLine) (g : List (ℕ × ActorEvent)) (j : ℕ) (e : ActorEvent) → (0 == j) ≡ false → MayDo G g j e → duty body ((j, e) ∷ g) ≡ duty body g
idle_duty G body g j ActorEvent.Order ne may = absurd (let y : (0 == j) ≡ true = (Decides-eqb 0 j).1 (sym may) in cc)
idle_duty G body g j ActorEvent.Obeyed ne may = absurd (let y : (0 == j) ≡ true = (Decides-eqb 0 j).1 (sym may) in cc)
idle_duty G body g j ActorEvent.Barrier ne may = absurd (let z : j ≡ 0 = may.0 in let y : (0 == j) ≡ true = (Decides-eqb 0 j).1 (sym z) in cc)
idle_duty G body g j (ActorEvent.Fed p k) ne may = absurd (let z : j ≡ 0 = may.0 in let y : (0 == j) ≡ true = (Decides-eqb 0 j).1 (sym z) in cc)
idle_duty G body g j (ActorEvent.FedAgain p) ne may = absurd (let z : j ≡ 0 = may.0 in let y : (0 == j) ≡ true = (Decides-eqb 0 j).1 (sym z) in cc)
idle_duty G body g j _ ne may = refl

duty_stays : (G : Setting) (later h : List (ℕ × Event)) → AreLegalSteps G (later ++ h) → entries_of 0 (later ++ h) ≡ entries_of 0 h → duty (lines_to_do G) (steps G (later ++ h)) ≡ duty (lines_to_do G) (steps G h)
duty_stays G [] h legal own = refl
duty_stays G (x ∷ later) h legal own =
    let s = idle_step 0 x later h own in
    idle_duty G (lines_to_do G) (steps G (later ++ h)) x.0 (named G (steps G (later ++ h)) x.0 x.1) (not_eq 0 x.0 s.0) legal.0.allowed.may ∙ duty_stays G later h legal.1 s.1

pub at_first : (G : Setting) → IsPlan G → IsAt G [] (operators_from 0 (lines_to_do G)) false
at_first G plan = record { plan = plan; legal = tt; lines = refl; next = refl }

pub rests : (G : Setting) (old new : List (ℕ × Event)) (left : List (ℕ × Act)) (ordered : Bool) → AreLegalSteps G new → Rests 0 old new → IsAt G old left ordered → IsAt G new left ordered
rests G old new left ordered legal r is =
    let law : AreLegalSteps G (r.between ++ old) = subst (λ (t : List (ℕ × Event)). AreLegalSteps G t) r.whole legal in
    let same : duty (lines_to_do G) (steps G new) ≡ duty (lines_to_do G) (steps G old) = ap (λ (t : List (ℕ × Event)). duty (lines_to_do G) (steps G t)) r.whole ∙ duty_stays G r.between old law r.none in
    record {
      plan = is.plan;
      legal = legal;
      lines = ap (λ (d : Duty). d.left) same ∙ is.lines;
      next = ap (λ (d : Duty). d.ordered) same ∙ is.next;
    }

-- right before its event, behind what others did
before_it : (G : Setting) (old new : List (ℕ × Event)) (e : Event) (left : List (ℕ × Act)) (ordered : Bool) → AreLegalSteps G new → (a : Adds 0 e old new) → IsAt G old left ordered → IsAt G (a.between ++ old) left ordered
before_it G old new e left ordered legal a is =
    let law : AreLegalSteps G ((0, e) ∷ (a.between ++ old)) = subst (λ (t : List (ℕ × Event)). AreLegalSteps G t) a.whole legal in
    rests G old (a.between ++ old) left ordered law.1 (record { between = a.between; whole = refl; none = a.none }) is

pub may_order : (G : Setting) (h : List (ℕ × Event)) (line : ℕ) (a : Act) (rest : List (ℕ × Act)) → IsAt G h ((line, a) ∷ rest) false → IsOfNode a → MayTakeStep G h 0 event.Order
may_order G h line a rest is node = record {
  plan = is.plan;
  exact = tt;
  allowed = record {
    may = refl;
    by_script = record { heeds = record { unordered = is.next; line = line; act = a; rest = rest; next = is.lines; of_node = node }; goes_on = by_script G h is.legal };
    pages = tt;
  };
}

pub ordered_then : (G : Setting) (old new : List (ℕ × Event)) (left : List (ℕ × Act)) → AreLegalSteps G new → Adds 0 event.Order old new → IsAt G old left false → IsAt G new left true
ordered_then G old new left legal a is =
    let was = before_it G old new event.Order left false legal a is in
    let same : duty (lines_to_do G) (steps G new) ≡ duty (lines_to_do G) (steps G ((0, event.Order) ∷ (a.between ++ old))) = ap (λ (t : List (ℕ × Event)). duty (lines_to_do G) (steps G t)) a.whole in
    record {
      plan = is.plan;
      legal = legal;
      lines = ap (λ (d : Duty). d.left) same ∙ was.lines;
      next = ap (λ (d : Duty). d.ordered) same;
    }

-- how often a node came up and went down is its own
idle_tally : (g : List (ℕ × ActorEvent)) (i j : ℕ) (e : ActorEvent) → (i == j) ≡ false → count_of i ((j, e) ∷ g) ≡ count_of i g
idle_tally g i j e ne = ap (λ b. cond b (turn_counted (count_of i g) (turn e)) (count_of i g)) ne

not_operator : (node : ℕ) → 1 ≤ node → (node == 0) ≡ false
not_operator node pos = not_eq node 0 (λ same. absurd (omega (arith, pos, same)))

pub stop_ordered : (G : Setting) (old new : List (ℕ × Event)) (line node : ℕ) (rest : List (ℕ × Act)) → AreLegalSteps G new → 1 ≤ node → Adds 0 event.Order old new → IsAt G old ((line, act.Stop node) ∷ rest) false
    → IsStopOrdered (lines_to_do G) (steps G new) node
stop_ordered G old new line node rest legal pos a is =
    let was = before_it G old new event.Order ((line, act.Stop node) ∷ rest) false legal a is in
    let g : List (ℕ × ActorEvent) = steps G (a.between ++ old) in
    subst (λ (t : List (ℕ × Event)). IsStopOrdered (lines_to_do G) (steps G t) node) (sym a.whole)
    (subst (λ (left : List (ℕ × Act)). Has (λ o. (o.act ≡ act.Stop node) × (o.ups ≡ (count_of node ((0, ActorEvent.Order) ∷ g)).ups)) (new_orders g ActorEvent.Order left ++ orders (lines_to_do G) g)) (sym was.lines)
    (record { it = record { line = line; act = act.Stop node; ups = (count_of node g).ups; falls = (count_of node g).falls }; mem = here; is = (refl, ap (λ (c : Count). c.ups) (sym (idle_tally g node 0 ActorEvent.Order (not_operator node pos)))) }))

pub start_ordered : (G : Setting) (old new : List (ℕ × Event)) (line node : ℕ) (rest : List (ℕ × Act)) → AreLegalSteps G new → 1 ≤ node → Adds 0 event.Order old new → IsAt G old ((line, act.Start node) ∷ rest) false
    → IsStartOrdered (lines_to_do G) (steps G new) node
start_ordered G old new line node rest legal pos a is =
    let was = before_it G old new event.Order ((line, act.Start node) ∷ rest) false legal a is in
    let g : List (ℕ × ActorEvent) = steps G (a.between ++ old) in
    subst (λ (t : List (ℕ × Event)). IsStartOrdered (lines_to_do G) (steps G t) node) (sym a.whole)
    (subst (λ (left : List (ℕ × Act)). Has (λ o. (o.act ≡ act.Start node) × (o.falls ≡ (count_of node ((0, ActorEvent.Order) ∷ g)).falls)) (new_orders g ActorEvent.Order left ++ orders (lines_to_do G) g)) (sym was.lines)
    (record { it = record { line = line; act = act.Start node; ups = (count_of node g).ups; falls = (count_of node g).falls }; mem = here; is = (refl, ap (λ (c : Count). c.falls) (sym (idle_tally g node 0 ActorEvent.Order (not_operator node pos)))) }))

-- an order stays while its node does nothing
pub stop_stays : (G : Setting) (later h : List (ℕ × Event)) (node : ℕ) → entries_of node (later ++ h) ≡ entries_of node h → IsStopOrdered (lines_to_do G) (steps G h) node → IsStopOrdered (lines_to_do G) (steps G (later ++ h)) node
stop_stays G [] h node own k = k
stop_stays G (x ∷ later) h node own k =
    let s = idle_step node x later h own in
    let g : List (ℕ × ActorEvent) = steps G (later ++ h) in
    let e : ActorEvent = named G g x.0 x.1 in
    let was = stop_stays G later h node s.1 k in
    record { it = was.it; mem = in_append (new_orders g e (duty (lines_to_do G) g).left) (orders (lines_to_do G) g) was.mem; is = (was.is.0, was.is.1 ∙ ap (λ (c : Count). c.ups) (sym (idle_tally g node x.0 e (not_eq node x.0 s.0)))) }

pub start_stays : (G : Setting) (later h : List (ℕ × Event)) (node : ℕ) → entries_of node (later ++ h) ≡ entries_of node h → IsStartOrdered (lines_to_do G) (steps G h) node → IsStartOrdered (lines_to_do G) (steps G (later ++ h)) node
start_stays G [] h node own k = k
start_stays G (x ∷ later) h node own k =
    let s = idle_step node x later h own in
    let g : List (ℕ × ActorEvent) = steps G (later ++ h) in
    let e : ActorEvent = named G g x.0 x.1 in
    let was = start_stays G later h node s.1 k in
    record { it = was.it; mem = in_append (new_orders g e (duty (lines_to_do G) g).left) (orders (lines_to_do G) g) was.mem; is = (was.is.0, was.is.1 ∙ ap (λ (c : Count). c.falls) (sym (idle_tally g node x.0 e (not_eq node x.0 s.0)))) }

-- a line that was heeded at some place since its order is obeyed
pub may_obey : (G : Setting) (later before : List (ℕ × Event)) (line : ℕ) (a : Act) (rest : List (ℕ × Act)) → IsAt G (later ++ before) ((line, a) ∷ rest) true → IsAt G before ((line, a) ∷ rest) true → IsOfNode a → IsHeededAt G (lines_to_do G) (steps G before) a
    → MayTakeStep G (later ++ before) 0 event.Obeyed
may_obey G later before line a rest is was node heeded = record {
  plan = is.plan;
  exact = tt;
  allowed = record {
    may = refl;
    by_script = record {
      heeds = record { later = more_steps G later before; before = steps G before; split = steps_append G later before; same = was.lines ∙ sym is.lines; ordered = is.next; line = line; act = a; rest = rest; next = is.lines; of_node = node; since = was.next; heeded = heeded };
      goes_on = by_script G (later ++ before) is.legal;
    };
    pages = tt;
  };
}

-- a node that the lines have up or down stays so while it does nothing
pub up_stays : (G : Setting) (later h : List (ℕ × Event)) (node : ℕ) → entries_of node (later ++ h) ≡ entries_of node h → is_up node (lines G (steps G (later ++ h))) ≡ is_up node (lines G (steps G h))
up_stays G [] h node own = refl
up_stays G (x ∷ later) h node own =
    let s = idle_step node x later h own in
    let g : List (ℕ × ActorEvent) = steps G (later ++ h) in
    let e : ActorEvent = named G g x.0 x.1 in
    up_append node true (lines G g) (lines_by G (lines G g) (part G x.0 g) x.0 e) ∙ (other_lines G node x.0 (not_eq node x.0 s.0) (is_up node (lines G g)) (lines G g) (part G x.0 g) e ∙ up_stays G later h node s.1)

-- behind its fall it is down
self_down : (node : ℕ) (was : Bool) (count : ℕ) (fault : Bool) → up_from node was (line.Down count node fault ∷ []) ≡ false
self_down node was count fault = ap (λ (b : Bool). if b then false else was) ((Decides-eqb node node).1 refl)

fall_line : (G : Setting) (before : List Line) (p : Part) (node : ℕ) (fault was : Bool) → up_from node was (lines_by G before p node (cond fault (ActorEvent.Node NodeEvent.Down) ActorEvent.Stop)) ≡ false
fall_line G before p node true was = self_down node was (downs before + 1) true
fall_line G before p node false was = self_down node was (downs before + 1) false

pub down_then : (G : Setting) (old new : List (ℕ × Event)) (node : ℕ) (fault : Bool) → Adds node (event.Down fault) old new → is_up node (lines G (steps G new)) ≡ false
down_then G old new node fault a =
    let g : List (ℕ × ActorEvent) = steps G (a.between ++ old) in
    ap (λ (t : List (ℕ × Event)). is_up node (lines G (steps G t))) a.whole
    ∙ (up_append node true (lines G g) (lines_by G (lines G g) (part G node g) node (cond fault (ActorEvent.Node NodeEvent.Down) ActorEvent.Stop)) ∙ fall_line G (lines G g) (part G node g) node fault (is_up node (lines G g)))

-- behind its rise it is up
took_rises : (b : Bool) (g : ℕ) (l : List KeptEntry) → turn (ActorEvent.Node (cond b (NodeEvent.BackGrow l) (NodeEvent.BackTake g l))) ≡ Rise
took_rises true g l = refl
took_rises false g l = refl

appended_rises : (promised : ℕ) (log : List KeptEntry) (e : Option Entry) → turn (ActorEvent.Node (back_append promised log e)) ≡ Rise
appended_rises promised log None = refl
appended_rises promised log (Some e) = refl

up_rises : (G : Setting) (g : List (ℕ × ActorEvent)) (i : ℕ) (how : Woken) (promised accepted : ℕ) (entries : Snapshot (List Entry)) → turn (named G g i (event.Up how promised accepted entries)) ≡ Rise
up_rises G g i (woken.First rows) promised accepted entries = refl
up_rises G g i woken.AsLeft promised accepted entries = refl
up_rises G g i woken.Led promised accepted entries = refl
up_rises G g i woken.Took promised accepted entries = took_rises (accepted == ((field g).core.nodes i).accepted) accepted (log_named G.nodes (field g).core accepted (length entries.value))
up_rises G g i woken.Appended promised accepted entries = appended_rises promised ((field g).core.nodes i).log (slice_get entries.value (length ((field g).core.nodes i).log))

pub up_then : (G : Setting) (old new : List (ℕ × Event)) (node : ℕ) (how : Woken) (promised accepted : ℕ) (entries : Snapshot (List Entry)) → Adds node (event.Up how promised accepted entries) old new → is_up node (lines G (steps G new)) ≡ true
up_then G old new node how promised accepted entries a =
    let g : List (ℕ × ActorEvent) = steps G (a.between ++ old) in
    let e : ActorEvent = named G g node (event.Up how promised accepted entries) in
    let own : count_of node ((node, e) ∷ g) ≡ turn_counted (count_of node g) (turn e) = ap (λ (b : Bool). cond b (turn_counted (count_of node g) (turn e)) (count_of node g)) ((Decides-eqb node node).1 refl) in
    let risen : (count_of node ((node, e) ∷ g)).up ≡ true = ap (λ (c : Count). c.up) own ∙ ap (λ (t : Turn). (turn_counted (count_of node g) t).up) (up_rises G g node how promised accepted entries) in
    ap (λ (t : List (ℕ × Event)). is_up node (lines G (steps G t))) a.whole ∙ count_seen G ((node, e) ∷ g) node risen

-- a node that falls by a fault while its start is ordered heeds it there
pub fell_then : (G : Setting) (h : List (ℕ × Event)) (node : ℕ) (left : List (ℕ × Act)) → IsAt G h left true → IsHeededAt G (lines_to_do G) (steps G ((node, event.Down true) ∷ h)) (act.Start node)
fell_then G h node left is = inr (record { before = steps G h; fell = refl; ordered = is.next })

pub obeyed_then : (G : Setting) (old new : List (ℕ × Event)) (line : ℕ) (a : Act) (rest : List (ℕ × Act)) → AreLegalSteps G new → Adds 0 event.Obeyed old new → IsAt G old ((line, a) ∷ rest) true → IsAt G new rest false
obeyed_then G old new line act' rest legal a is =
    let was = before_it G old new event.Obeyed ((line, act') ∷ rest) true legal a is in
    let same : duty (lines_to_do G) (steps G new) ≡ duty (lines_to_do G) (steps G ((0, event.Obeyed) ∷ (a.between ++ old))) = ap (λ (t : List (ℕ × Event)). duty (lines_to_do G) (steps G t)) a.whole in
    record {
      plan = is.plan;
      legal = legal;
      lines = ap (λ (d : Duty). d.left) same ∙ ap (λ (xs : List (ℕ × Act)). next_left xs) was.lines;
      next = ap (λ (d : Duty). d.ordered) same;
    }

pub may_tell : (G : Setting) (h : List (ℕ × Event)) (line : ℕ) (rest : List (ℕ × Act)) → IsAt G h ((line, act.Barrier) ∷ rest) false → AllBeyond G (steps G h) → MayTakeStep G h 0 event.Barrier
may_tell G h line rest is beyond = record {
  plan = is.plan;
  exact = tt;
  allowed = record {
    may = (refl, beyond);
    by_script = record { heeds = (line, rest, is.lines); goes_on = by_script G h is.legal };
    pages = tt;
  };
}

pub told_then : (G : Setting) (old new : List (ℕ × Event)) (line : ℕ) (rest : List (ℕ × Act)) → AreLegalSteps G new → Adds 0 event.Barrier old new → IsAt G old ((line, act.Barrier) ∷ rest) false → IsAt G new rest false
told_then G old new line rest legal a is =
    let was = before_it G old new event.Barrier ((line, act.Barrier) ∷ rest) false legal a is in
    let same : duty (lines_to_do G) (steps G new) ≡ duty (lines_to_do G) (steps G ((0, event.Barrier) ∷ (a.between ++ old))) = ap (λ (t : List (ℕ × Event)). duty (lines_to_do G) (steps G t)) a.whole in
    record {
      plan = is.plan;
      legal = legal;
      lines = ap (λ (d : Duty). d.left) same ∙ ap (λ (xs : List (ℕ × Act)). next_left xs) was.lines;
      next = ap (λ (d : Duty). d.ordered) same;
    }
