-- What the operator may do it may behind what others did, where it is behind its event, and what a node may do that hears of it.
use Rattle.std.proofs.Common.{ℕ, ◌≡◌, ◌≤◌, List, ◌∷◌, ◌++◌, [], length, append_assoc, arith, refl, sym, subst, ap, ◌∙◌}
use Rattle.std.specs.Prelude.{◌==◌, Bool, Option, Some, IfSome, true, false, cond}
use Rattle.actor_trace.specs.Actors.{Knows}
use Rattle.actor_trace.specs.History.{entries_of}
use Rattle.actor_trace.specs.Lists.{Begins}
use Rattle.actor_trace.specs.Steps.{Adds, Rests}
use Rattle.actor_trace.proofs.Entries.{entries_more}
use Rattle.cluster_events.specs.Operator.{IsStartOrdered, IsStopOrdered}
use Rattle.cluster_events.specs.Settings.{Setting, lines_to_do}
use Rattle.cluster_steps.specs.Guards.{AreLegalSteps, MayTakeStep}
use Rattle.cluster_steps.specs.Named.{steps}
use Rattle.cluster_steps.specs.declared.events.Event.{Event}
use Rattle.cluster_steps.specs.declared.events.Event.TheVariants as event
use Rattle.cluster_steps.proofs.StaysLaws.{stays}
use Rattle.core_lists.specs.Fronts.{Front}
use Rattle.core_lists.proofs.Fronts.{front_append, front_refl, front_same, front_trans}
use Rattle.operator_work.proofs.DutyLaws.{may_obey, may_order, may_tell, obeyed_then, ordered_then, rests, start_ordered, start_stays, stop_ordered, stop_stays, told_then}
use Rattle.operator_steps.specs.Due.{IsToObey, IsToOrder, IsToTell}
use Rattle.operator_steps.specs.Turns.{DidNext, DoesInTurn, IsReady}
use Rattle.operator_work.specs.Duties.{IsAt}
use Rattle.script_form.specs.declared.scripts.Act.{Act}
use Rattle.script_form.specs.declared.scripts.Act.TheVariants as act

-- what it may do by what it is at
pub orders_now : (G : Setting) (h : List (ℕ × Event)) → IsToOrder G h → MayTakeStep G h 0 event.Order
orders_now G h due = may_order G h due.line due.next due.rest due.at due.of_node

pub obeys_now : (G : Setting) (h : List (ℕ × Event)) → IsToObey G h → MayTakeStep G h 0 event.Obeyed
obeys_now G h due =
    let at : IsAt G (due.later ++ due.before) ((due.line, due.next) ∷ due.rest) true = subst (λ (t : List (ℕ × Event)). IsAt G t ((due.line, due.next) ∷ due.rest) true) (sym due.split) due.at in
    subst (λ (t : List (ℕ × Event)). MayTakeStep G t 0 event.Obeyed) due.split (may_obey G due.later due.before due.line due.next due.rest at due.since due.of_node due.heeded)

pub tells_now : (G : Setting) (h : List (ℕ × Event)) → IsToTell G h → MayTakeStep G h 0 event.Barrier
tells_now G h due = may_tell G h due.line due.rest due.at due.beyond

-- where it did nothing since it may do it still
may_later : (G : Setting) (i : ℕ) (e : Event) (old new : List (ℕ × Event)) → Rests 0 old new → i ≡ 0 → AreLegalSteps G new → MayTakeStep G old 0 e → MayTakeStep G new i e
may_later G i e old new r zero_is legal may =
    let law : AreLegalSteps G (r.between ++ old) = subst (λ (t : List (ℕ × Event)). AreLegalSteps G t) r.whole legal in
    let now : MayTakeStep G new 0 e = subst (λ (t : List (ℕ × Event)). MayTakeStep G t 0 e) (sym r.whole) (stays G r.between old 0 e law r.none may) in
    subst (λ k. MayTakeStep G new k e) (sym zero_is) now

-- it did nothing, by its number
rests_as : (i : ℕ) (was old new : List (ℕ × Event)) → Rests i was new → i ≡ 0 → was ≡ old → Rests 0 old new
rests_as i was old new r zero_is same = subst (λ (t : List (ℕ × Event)). Rests 0 t new) same (subst (λ k. Rests k was new) zero_is r)

-- its turn, from what its calls tell
pub is_ready : (G : Setting) (i j : ℕ) (last : Option (List (ℕ × Event))) (was : List (ℕ × Event)) (made : List (ℕ × Event)) (old new : Knows Event) → Rests i was new.seen → i ≡ 0 → was ≡ old.seen → AreLegalSteps G new.seen → IfSome last (λ note. Begins note new.seen)
    → made ≡ entries_of j new.seen → j ≡ 0 → made ≡ old.made → IsReady G last old new
is_ready G i j last was made old new r i_is same lawful heard own j_is made_is = record {
  heard = heard;
  rested = rests_as i was old.seen new.seen r i_is same;
  lawful = lawful;
  before = sym made_is ∙ (own ∙ ap (λ n. entries_of n new.seen) j_is);
}

pub did_next : (G : Setting) (i j k : ℕ) (e : Event) (next : Option (List (ℕ × Event))) (old new : Knows Event) (did : List (ℕ × Event)) → Adds i e old.seen did → Rests j did new.seen → i ≡ 0 → j ≡ 0 → k ≡ 0 → AreLegalSteps G did → AreLegalSteps G new.seen
    → new.made ≡ entries_of k new.seen → next ≡ Some new.seen → DidNext G e old new next
did_next G i j k e next old new did a m i_is j_is k_is legal after behind noted = record {
  did = did;
  adds = subst (λ n. Adds n e old.seen did) i_is a;
  legal = legal;
  more = subst (λ n. Rests n did new.seen) j_is m;
  after = after;
  behind = behind ∙ ap (λ n. entries_of n new.seen) k_is;
  noted = noted;
}

pub in_turn : (G : Setting) (e : Event) (last next : Option (List (ℕ × Event))) (old mid new : Knows Event) → IsReady G last old mid → DidNext G e mid new next → DoesInTurn G e last old new next
in_turn G e last next old mid new ready done = record {
  knew = mid.seen;
  heard = ready.heard;
  rested = ready.rested;
  lawful = ready.lawful;
  before = ready.before;
  did = done.did;
  adds = done.adds;
  legal = done.legal;
  more = done.more;
  after = done.after;
  behind = done.behind;
  noted = done.noted;
}

pub may_next : (G : Setting) (e : Event) (last : Option (List (ℕ × Event))) (old mid : Knows Event) → IsReady G last old mid → MayTakeStep G old.seen 0 e → MayTakeStep G mid.seen 0 e
may_next G e last old mid ready may = may_later G 0 e old.seen mid.seen ready.rested refl ready.lawful may

-- where it is behind its turn
pub ordered_at : (G : Setting) (last next : Option (List (ℕ × Event))) (old new : Knows Event) → DoesInTurn G event.Order last old new next → (left : List (ℕ × Act)) → IsAt G old.seen left false → IsAt G new.seen left true
ordered_at G last next old new d left at =
    rests G d.did new.seen left true d.after d.more (ordered_then G d.knew d.did left d.legal d.adds (rests G old.seen d.knew left false d.lawful d.rested at))

pub obeyed_at : (G : Setting) (last next : Option (List (ℕ × Event))) (old new : Knows Event) → DoesInTurn G event.Obeyed last old new next → (line : ℕ) (b : Act) (rest : List (ℕ × Act)) → IsAt G old.seen ((line, b) ∷ rest) true → IsAt G new.seen rest false
obeyed_at G last next old new d line b rest at =
    rests G d.did new.seen rest false d.after d.more (obeyed_then G d.knew d.did line b rest d.legal d.adds (rests G old.seen d.knew ((line, b) ∷ rest) true d.lawful d.rested at))

pub told_at : (G : Setting) (last next : Option (List (ℕ × Event))) (old new : Knows Event) → DoesInTurn G event.Barrier last old new next → (line : ℕ) (rest : List (ℕ × Act)) → IsAt G old.seen ((line, act.Barrier) ∷ rest) false → IsAt G new.seen rest false
told_at G last next old new d line rest at =
    rests G d.did new.seen rest false d.after d.more (told_then G d.knew d.did line rest d.legal d.adds (rests G old.seen d.knew ((line, act.Barrier) ∷ rest) false d.lawful d.rested at))

-- an actor's steps in a beginning of a history are the first ones of it
entries_front : (k : ℕ) (later h : List (ℕ × Event)) → Front (entries_of k h) (entries_of k (later ++ h))
entries_front k [] h = front_refl (entries_of k h)
entries_front k (x ∷ later) h = go (k == x.0) (entries_front k later h)
  where
    go : (b : Bool) → Front (entries_of k h) (entries_of k (later ++ h)) → Front (entries_of k h) (cond b (entries_of k (later ++ h) ++ (length (later ++ h), x.1) ∷ []) (entries_of k (later ++ h)))
    go true p = front_trans p (front_append (entries_of k (later ++ h)) ((length (later ++ h), x.1) ∷ []))
    go false p = p

-- who did nothing between two places did nothing up to one between them
idle_between : (k : ℕ) (a n b : List (ℕ × Event)) → Begins a n → Begins n b → entries_of k b ≡ entries_of k a → entries_of k b ≡ entries_of k n
idle_between k a n b p q same =
    let first : Front (entries_of k a) (entries_of k n) = subst (λ (z : List (ℕ × Event)). Front (entries_of k a) (entries_of k z)) p.whole (entries_front k p.later a) in
    let more : length (entries_of k n) ≤ length (entries_of k b) = subst (λ (z : List (ℕ × Event)). length (entries_of k n) ≤ length (entries_of k z)) q.whole (entries_more k q.later n) in
    let e : length (entries_of k b) ≡ length (entries_of k a) = ap (λ (z : List (ℕ × Event)). length z) same in
    same ∙ front_same first (omega (arith, more, e))

begins_then : (a b c : List (ℕ × Event)) → Begins a b → Begins b c → Begins a c
begins_then a b c p q = record { later = q.later ++ p.later; whole = append_assoc q.later p.later a ∙ (ap (λ (z : List (ℕ × Event)). q.later ++ z) p.whole ∙ q.whole) }

-- a node that did nothing since the last note, and knows of the turn, did nothing since the event
record IsIdleSince (node : ℕ) (did seen : List (ℕ × Event)) : Type 0 where
  later : List (ℕ × Event)
  whole : later ++ did ≡ seen
  none : entries_of node (later ++ did) ≡ entries_of node did

idle_since : (G : Setting) (e : Event) (node : ℕ) (told seen : List (ℕ × Event)) (next : Option (List (ℕ × Event))) (old new : Knows Event) → (d : DoesInTurn G e (Some told) old new next) → Begins new.seen seen → entries_of node seen ≡ entries_of node told
    → IsIdleSince node d.did seen
idle_since G e node told seen next old new d knows same =
    let steps_on : Begins d.knew d.did = record { later = (0, e) ∷ d.adds.between; whole = sym d.adds.whole } in
    let rest_on : Begins d.did new.seen = record { later = d.more.between; whole = sym d.more.whole } in
    let from : Begins told d.did = begins_then told d.knew d.did d.heard steps_on in
    let on : Begins d.did seen = begins_then d.did new.seen seen rest_on knows in
    record {
      later = on.later;
      whole = on.whole;
      none = ap (λ (z : List (ℕ × Event)). entries_of node z) on.whole ∙ idle_between node told d.did seen from on same;
    }

pub node_may_stop : (G : Setting) (told seen : List (ℕ × Event)) (next : Option (List (ℕ × Event))) (old new : Knows Event) (line node : ℕ) (rest : List (ℕ × Act)) → DoesInTurn G event.Order (Some told) old new next
    → IsAt G old.seen ((line, act.Stop node) ∷ rest) false → 1 ≤ node → Begins new.seen seen → entries_of node seen ≡ entries_of node told → IsStopOrdered (lines_to_do G) (steps G seen) node
node_may_stop G told seen next old new line node rest d at pos knows same =
    let i = idle_since G event.Order node told seen next old new d knows same in
    let knew = rests G old.seen d.knew ((line, act.Stop node) ∷ rest) false d.lawful d.rested at in
    subst (λ (t : List (ℕ × Event)). IsStopOrdered (lines_to_do G) (steps G t) node) i.whole
    (stop_stays G i.later d.did node i.none (stop_ordered G d.knew d.did line node rest d.legal pos d.adds knew))

pub node_may_start : (G : Setting) (told seen : List (ℕ × Event)) (next : Option (List (ℕ × Event))) (old new : Knows Event) (line node : ℕ) (rest : List (ℕ × Act)) → DoesInTurn G event.Order (Some told) old new next
    → IsAt G old.seen ((line, act.Start node) ∷ rest) false → 1 ≤ node → Begins new.seen seen → entries_of node seen ≡ entries_of node told → IsStartOrdered (lines_to_do G) (steps G seen) node
node_may_start G told seen next old new line node rest d at pos knows same =
    let i = idle_since G event.Order node told seen next old new d knows same in
    let knew = rests G old.seen d.knew ((line, act.Start node) ∷ rest) false d.lawful d.rested at in
    subst (λ (t : List (ℕ × Event)). IsStartOrdered (lines_to_do G) (steps G t) node) i.whole
    (start_stays G i.later d.did node i.none (start_ordered G d.knew d.did line node rest d.legal pos d.adds knew))
