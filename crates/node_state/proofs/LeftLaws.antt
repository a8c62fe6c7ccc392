-- What a store may hold of a node that goes down, an event by which it comes up takes: as the node was, with another promise, or
-- as the event that was under way would have left it.
use Rattle.std.proofs.Common.{ℕ, ◌≡◌, ◌≤◌, List, [], ◌∷◌, ◌++◌, length, map, refl, sym, subst, ap, ◌∙◌}
use Rattle.std.specs.Prelude.{◌==◌, ◌≢◌, Bool, true, false, cond, Some, slice_get}
use Rattle.std.specs.declared.snapshot.Snapshot.{Snapshot}
use Rattle.std.proofs.lemmas.Bool.Decides.{Decides-eqb}
use Rattle.actor_trace.specs.Steps.{Adds}
use Rattle.cdb_values.specs.Rows.{Rows}
use Rattle.cluster_consensus.specs.Enabled.{CanGrow, CanLead, CanTake, Enabled}
use Rattle.cluster_consensus.specs.Events.{NodeEvent, change}
use Rattle.cluster_consensus.specs.Facts.{Own, World}
use Rattle.cluster_consensus.proofs.Invariant.{Inv}
use Rattle.cluster_consensus.proofs.Kept.{self_row}
use Rattle.cluster_events.specs.Guards.{IsRightlyAppended}
use Rattle.cluster_events.specs.Parts.{ActorEvent, field}
use Rattle.cluster_events.specs.Settings.{Setting}
use Rattle.cluster_requests.specs.Identities.{Lacks, identity_of}
use Rattle.cluster_requests.specs.KeptEntries.{KeptEntry, plain}
use Rattle.cluster_requests.specs.KeptEntries.KeptEntry.{SetupKept, CommitKept}
use Rattle.cluster_requests.specs.Requests.{FieldAct, Field, IsAskedFor, May, MayAppend, does}
use Rattle.cluster_steps.specs.Guards.{IsLogFound, IsOfSchema, MayTakeStep, PagesStand, AreLegalSteps}
use Rattle.cluster_steps.specs.Named.{back_append, kept_over, kept_with, log_named, steps, world}
use Rattle.cluster_steps.specs.declared.events.Event.{Event}
use Rattle.cluster_steps.specs.declared.events.Event.TheVariants as event
use Rattle.cluster_steps.specs.declared.events.Woken.TheVariants as woken
use Rattle.cluster_steps.proofs.FoundLaws.{found_ship, log_stays}
use Rattle.cluster_steps.proofs.StaysLaws.{stays}
use Rattle.cluster_steps.proofs.StepLaws.{inv_of, idle}
use Rattle.cluster_steps.proofs.TellsLaws.{tells, tells_row}
use Rattle.core_lists.specs.Lists.{Each}
use Rattle.core_lists.proofs.Majorities.{majority_weaker}
use Rattle.election_core.specs.Told.{IsPart}
use Rattle.election_core.proofs.Acted.{has_in}
use Rattle.election_core.specs.declared.votes.NodeVote.{NodeVote}
use Rattle.phys_log.specs.Logs.{IsLog}
use Rattle.phys_log.specs.declared.entries.CommitId.{CommitId}
use Rattle.phys_log.specs.declared.entries.Entry.{Entry}
use Rattle.phys_log.specs.declared.entries.Entry.TheVariants as entry
use Rattle.node_state.specs.Nodes.{IsNode, Follows}
use Rattle.node_state.specs.Restarts.{MayRise, MayWake, kept, woken_by}
use Rattle.node_state.proofs.LogLists.{map_size}

-- a node's part when it is down
abbrev pub lain : Own KeptEntry → Own KeptEntry
lain o = record o { up = false }

abbrev pub fallen : Field → ℕ → Field
fallen f i = does f i (FieldAct.Core NodeEvent.Down)

row : (f : Field) (i : ℕ) → (fallen f i).core.nodes i ≡ lain (f.core.nodes i)
row f i = self_row f.core i NodeEvent.Down

-- as it was, with a promise that is not less
as_left : (G : Setting) (f : Field) (i p a : ℕ) (es : List Entry) → 1 ≤ i → i ≤ G.nodes → (f.core.nodes i).was_up ≡ true → (f.core.nodes i).promised ≤ p → (f.core.nodes i).accepted ≡ a
    → map plain (f.core.nodes i).log ≡ es → IsLog es → MayWake G (fallen f i) i woken.AsLeft (kept p a es)
as_left G f i p a es low high was le acc log logged = record {
  told = tt;
  rises = record {
    found = record { promise = refl; acceptance = ap (λ (o : Own KeptEntry). o.accepted) (row f i) ∙ acc; log = ap (λ (o : Own KeptEntry). map plain o.log) (row f i) ∙ log };
    may = (subst (λ (o : Own KeptEntry). Enabled G.nodes (fallen f i).core i o (NodeEvent.Back p)) (sym (row f i)) (refl, was, le), tt);
    right = tt;
    by = (low, high);
    pages = (tt, tt);
  };
  logged = logged;
}

-- with its promise accepted, where it was to lead
led_left : (G : Setting) (f : Field) (i p : ℕ) (es : List Entry) → 1 ≤ i → i ≤ G.nodes → (f.core.nodes i).was_up ≡ true → CanLead G.nodes f.core i (f.core.nodes i) → (f.core.nodes i).promised ≡ p
    → map plain (f.core.nodes i).log ≡ es → IsLog es → MayWake G (fallen f i) i woken.Led (kept p p es)
led_left G f i p es low high was can e log logged =
    let q : ((fallen f i).core.nodes i).promised ≡ p = ap (λ (o : Own KeptEntry). o.promised) (row f i) ∙ e in
    record {
      told = tt;
      rises = record {
        found = record { promise = q; acceptance = q; log = ap (λ (o : Own KeptEntry). map plain o.log) (row f i) ∙ log };
        may = (
          subst (λ (o : Own KeptEntry). Enabled G.nodes (fallen f i).core i o NodeEvent.BackLead) (sym (row f i))
              (refl, was, (can.0, majority_weaker (λ k h. has_in ((tells_row f.core i NodeEvent.Down).nodes k).grants h) can.1)),
          tt,
        );
        right = tt;
        by = (low, high);
        pages = (tt, tt);
      };
      logged = logged;
    }

-- with a log that it was to take: in a new generation the whole log, else one entry more, or the same length again
whole_left : (G : Setting) (f : Field) (i g : ℕ) (l : List KeptEntry) → 1 ≤ i → i ≤ G.nodes → (f.core.nodes i).was_up ≡ true → CanTake f.core (f.core.nodes i) g l
    → MayRise G (fallen f i) i (NodeEvent.BackTake g l) (kept g g (map plain l))
whole_left G f i g l low high was can = record {
  found = record { promise = refl; acceptance = refl; log = refl };
  may = (
    subst (λ (o : Own KeptEntry). Enabled G.nodes (fallen f i).core i o (NodeEvent.BackTake g l)) (sym (row f i))
        (refl, was, (can.0, can.1, (can.2.0, has_in ((tells_row f.core i NodeEvent.Down).nodes can.2.0).ships can.2.1))),
    tt,
  );
  right = tt;
  by = (low, high);
  pages = (tt, tt);
}

grown_left : (G : Setting) (f : Field) (i g : ℕ) (l : List KeptEntry) → 1 ≤ i → i ≤ G.nodes → (f.core.nodes i).was_up ≡ true → g ≡ (f.core.nodes i).accepted → CanGrow f.core (f.core.nodes i) l
    → MayRise G (fallen f i) i (NodeEvent.BackGrow l) (kept g g (map plain l))
grown_left G f i g l low high was e can =
    let q : ((fallen f i).core.nodes i).accepted ≡ g = ap (λ (o : Own KeptEntry). o.accepted) (row f i) ∙ sym e in
    record {
      found = record { promise = q; acceptance = q; log = refl };
      may = (
        subst (λ (o : Own KeptEntry). Enabled G.nodes (fallen f i).core i o (NodeEvent.BackGrow l)) (sym (row f i))
            (refl, was, (can.0, can.1, has_in ((tells_row f.core i NodeEvent.Down).nodes can.1).ships can.2)),
        tt,
      );
      right = tt;
      by = (low, high);
      pages = (tt, tt);
    }

took_left : (G : Setting) (f : Field) (i g n : ℕ) (l : List KeptEntry) → Inv G.nodes (fallen f i).core → 1 ≤ i → i ≤ G.nodes → (f.core.nodes i).was_up ≡ true → IsLogFound G.nodes f.core g n → l ≡ log_named G.nodes f.core g n
    → May G.nodes f i (FieldAct.Core (cond (g == (f.core.nodes i).accepted) (NodeEvent.Grow l) (NodeEvent.Take g l))) → IsLog (map plain l) → MayWake G (fallen f i) i woken.Took (kept g g (map plain l))
took_left G f i g n l inv low high was found is may logged = record {
  told = subst (λ j. IsLogFound G.nodes (fallen f i).core g j) (sym size) s.1;
  rises = subst (λ c. MayRise G (fallen f i) i c (kept g g (map plain l))) (sym name) (go (g == (f.core.nodes i).accepted) refl may);
  logged = logged;
}
  where
    s : (log_named G.nodes (fallen f i).core g n ≡ log_named G.nodes f.core g n) × IsLogFound G.nodes (fallen f i).core g n
    s = log_stays inv (tells_row f.core i NodeEvent.Down) g n found

    size : length (map plain l) ≡ n
    size = map_size plain l ∙ (ap (λ (t : List KeptEntry). length t) is ∙ (found_ship f.core g n G.nodes (log_named G.nodes f.core g n) found).3.is.2)

    again : log_named G.nodes (fallen f i).core g (length (map plain l)) ≡ l
    again = ap (λ j. log_named G.nodes (fallen f i).core g j) size ∙ (s.0 ∙ sym is)

    name : woken_by G (fallen f i) i woken.Took (kept g g (map plain l)) ≡ cond (g == (f.core.nodes i).accepted) (NodeEvent.BackGrow l) (NodeEvent.BackTake g l)
    name =
        ap (λ (o : Own KeptEntry). cond (g == o.accepted) (NodeEvent.BackGrow (log_named G.nodes (fallen f i).core g (length (map plain l)))) (NodeEvent.BackTake g (log_named G.nodes (fallen f i).core g (length (map plain l))))) (row f i)
        ∙ ap (λ (t : List KeptEntry). cond (g == (f.core.nodes i).accepted) (NodeEvent.BackGrow t) (NodeEvent.BackTake g t)) again

    go : (b : Bool) → (g == (f.core.nodes i).accepted) ≡ b → May G.nodes f i (FieldAct.Core (cond b (NodeEvent.Grow l) (NodeEvent.Take g l))) → MayRise G (fallen f i) i (cond b (NodeEvent.BackGrow l) (NodeEvent.BackTake g l)) (kept g g (map plain l))
    go true t m = grown_left G f i g l low high was ((Decides-eqb g (f.core.nodes i).accepted).0 t) m.0.1
    go false t m = whole_left G f i g l low high was m.0.1

-- with an entry that it was to append
pub same_either : {A : Type 0} (b : Bool) (x : A) → cond b x x ≡ x
same_either true x = refl
same_either false x = refl

decides_on : (G : Setting) (f : Field) (i : ℕ) (log : List KeptEntry) (e : KeptEntry) → IsRightlyAppended G f i log e → IsRightlyAppended G (fallen f i) i log e
decides_on G f i log (SetupKept generation schema records reached) d = d
decides_on G f i log (CommitKept generation id begin level changes records reached) d = record {
  sent = d.sent;
  mem = d.mem;
  its_id = d.its_id;
  gen = d.gen ∙ ap (λ (o : Own KeptEntry). o.accepted) (sym (row f i));
  its_begin = d.its_begin;
  its_level = d.its_level;
  changes = d.changes;
  rows = d.rows;
  untouched = d.untouched;
  good = d.good;
}

append_on : (f : Field) (i : ℕ) (e : KeptEntry) → MayAppend f i e → MayAppend (fallen f i) i e
append_on f i e m = record {
  made = m.made ∙ ap (λ (o : Own KeptEntry). o.accepted) (sym (row f i));
  asked = subst (λ (o : Own KeptEntry). IsAskedFor f.sends i o.accepted o.log e) (sym (row f i)) m.asked;
  unsettled = subst (λ (xs : List CommitId). Each (λ t. identity_of e ≢ Some t) xs) (sym (same_either (i == i) (f.settled i))) m.unsettled;
  new = subst (λ (o : Own KeptEntry). (id : CommitId) → identity_of e ≡ Some id → Lacks id o.log) (sym (row f i)) m.new;
}

pub plain_kept : (rows : Rows) (e : Entry) → plain (kept_with rows e) ≡ e
plain_kept rows (entry.Setup generation schema records) = refl
plain_kept rows (entry.Commit generation id begin level changes records) = refl

got_last : (xs : List KeptEntry) (y : KeptEntry) → slice_get (map plain (xs ++ y ∷ [])) (length xs) ≡ Some (plain y)
got_last [] y = refl
got_last (x ∷ xs) y = got_last xs y

appended_left : (G : Setting) (f : Field) (i p : ℕ) (next : Entry) → 1 ≤ i → i ≤ G.nodes → (f.core.nodes i).was_up ≡ true → (f.core.nodes i).leading ≡ true → (f.core.nodes i).accepted ≡ p
    → MayAppend f i (kept_over (f.core.nodes i).log next) → IsRightlyAppended G f i (f.core.nodes i).log (kept_over (f.core.nodes i).log next)
    → PagesStand ((f.core.nodes i).log ++ kept_over (f.core.nodes i).log next ∷ []) × IsOfSchema G.tables (kept_over (f.core.nodes i).log next)
    → IsLog (map plain ((f.core.nodes i).log ++ kept_over (f.core.nodes i).log next ∷ []))
    → MayWake G (fallen f i) i woken.Appended (kept p p (map plain ((f.core.nodes i).log ++ kept_over (f.core.nodes i).log next ∷ [])))
appended_left G f i p next low high was lead acc may right pages logged = record {
  told = tt;
  rises = subst (λ c. MayRise G (fallen f i) i c (kept p p es)) (sym name) rise;
  logged = logged;
}
  where
    o : Own KeptEntry
    o = f.core.nodes i

    e : KeptEntry
    e = kept_over o.log next

    es : List Entry
    es = map plain (o.log ++ e ∷ [])

    name : woken_by G (fallen f i) i woken.Appended (kept p p es) ≡ NodeEvent.BackAppend e
    name =
        ap (λ (x : Own KeptEntry). back_append p x.log (slice_get es (length x.log))) (row f i)
        ∙ (ap (λ s. back_append p o.log s) (got_last o.log e) ∙ ap (λ y. NodeEvent.BackAppend (kept_over o.log y)) (plain_kept _ next))

    q : ((fallen f i).core.nodes i).accepted ≡ p
    q = ap (λ (x : Own KeptEntry). x.accepted) (row f i) ∙ acc

    rise : MayRise G (fallen f i) i (NodeEvent.BackAppend e) (kept p p es)
    rise = record {
      found = record { promise = q; acceptance = q; log = ap (λ (x : Own KeptEntry). map plain (x.log ++ e ∷ [])) (row f i) };
      may = (subst (λ (x : Own KeptEntry). Enabled G.nodes (fallen f i).core i x (NodeEvent.BackAppend e)) (sym (row f i)) (refl, was, lead), append_on f i e may);
      right = subst (λ (x : Own KeptEntry). IsRightlyAppended G (fallen f i) i x.log e) (sym (row f i)) (decides_on G f i o.log e right);
      by = (low, high);
      pages = subst (λ (x : Own KeptEntry). PagesStand (x.log ++ e ∷ []) × IsOfSchema G.tables e) (sym (row f i)) pages;
    }

-- the field behind the fall, and what is known there
pub fell : (G : Setting) (i : ℕ) (fault : Bool) (seen now : List (ℕ × Event)) → (d : Adds i (event.Down fault) seen now) → field (steps G now) ≡ fallen (field (steps G (d.between ++ seen))) i
fell G i true seen now d = ap (λ t. field (steps G t)) d.whole
fell G i false seen now d = ap (λ t. field (steps G t)) d.whole

pub before : (G : Setting) (i : ℕ) (fault : Bool) (seen now : List (ℕ × Event)) → (d : Adds i (event.Down fault) seen now) → AreLegalSteps G now → AreLegalSteps G (d.between ++ seen)
before G i fault seen now d legal = let l : AreLegalSteps G ((i, event.Down fault) ∷ (d.between ++ seen)) = subst (λ t. AreLegalSteps G t) d.whole legal in l.1

pub awake : (G : Setting) (v : NodeVote) (log : List Entry) (seen : List (ℕ × Event)) → IsNode G v log seen → v.up ≡ true → ((world G seen).nodes v.node).was_up ≡ true
awake G v log seen is up = ((inv_of G seen is.legal).local v.node).awake (sym is.part.up ∙ up)

-- as it was, with a promise that is not less
pub fallen_as_left : (G : Setting) (v : NodeVote) (log : List Entry) (p : ℕ) (fault : Bool) (seen now : List (ℕ × Event)) → IsNode G v log seen → v.up ≡ true → v.promised ≤ p → Adds v.node (event.Down fault) seen now
    → MayWake G (field (steps G now)) v.node woken.AsLeft (kept p v.accepted log)
fallen_as_left G v log p fault seen now is up le d =
    let still : (world G (d.between ++ seen)).nodes v.node ≡ (world G seen).nodes v.node = idle G v.node d.between seen d.none in
    subst (λ f. MayWake G f v.node woken.AsLeft (kept p v.accepted log)) (sym (fell G v.node fault seen now d))
    (as_left G (field (steps G (d.between ++ seen))) v.node p v.accepted log is.low is.high
    (ap (λ (o : Own KeptEntry). o.was_up) still ∙ awake G v log seen is up)
    (subst (λ k. k ≤ p) (is.part.promised ∙ ap (λ (o : Own KeptEntry). o.promised) (sym still)) le)
    (ap (λ (o : Own KeptEntry). o.accepted) still ∙ sym is.part.accepted)
    (ap (λ (o : Own KeptEntry). map plain o.log) still ∙ sym is.log_is) is.logged)

-- so while it is down, whatever others did since
pub down_as_left : (G : Setting) (v : NodeVote) (log : List Entry) (p : ℕ) (seen : List (ℕ × Event)) → IsNode G v log seen → v.up ≡ false → ((world G seen).nodes v.node).was_up ≡ true → v.promised ≤ p
    → MayWake G (field (steps G seen)) v.node woken.AsLeft (kept p v.accepted log)
down_as_left G v log p seen is down was le = record {
  told = tt;
  rises = record {
    found = record { promise = refl; acceptance = sym is.part.accepted; log = sym is.log_is };
    may = ((sym is.part.up ∙ down, was, subst (λ k. k ≤ p) is.part.promised le), tt);
    right = tt;
    by = (is.low, is.high);
    pages = (tt, tt);
  };
  logged = is.logged;
}

-- it was to lead
pub fallen_leading : (G : Setting) (v : NodeVote) (log : List Entry) (g : ℕ) (fault : Bool) (seen now : List (ℕ × Event)) → IsNode G v log seen → v.up ≡ true → MayTakeStep G seen v.node (event.Lead g) → Adds v.node (event.Down fault) seen now → AreLegalSteps G now
    → MayWake G (field (steps G now)) v.node woken.Led (kept v.promised v.promised log)
fallen_leading G v log g fault seen now is up may d legal =
    let mid = d.between ++ seen in
    let still : (world G mid).nodes v.node ≡ (world G seen).nodes v.node = idle G v.node d.between seen d.none in
    let m : MayTakeStep G mid v.node (event.Lead g) = stays G d.between seen v.node (event.Lead g) (before G v.node fault seen now d legal) d.none may in
    subst (λ f. MayWake G f v.node woken.Led (kept v.promised v.promised log)) (sym (fell G v.node fault seen now d))
    (led_left G (field (steps G mid)) v.node v.promised log is.low is.high
    (ap (λ (o : Own KeptEntry). o.was_up) still ∙ awake G v log seen is up)
    m.allowed.may.0.0.1
    (ap (λ (o : Own KeptEntry). o.promised) still ∙ sym is.part.promised)
    (ap (λ (o : Own KeptEntry). map plain o.log) still ∙ sym is.log_is) is.logged)

-- it was to take a log
abbrev core_of : NodeEvent KeptEntry → ActorEvent → NodeEvent KeptEntry
core_of c (ActorEvent.Node e) = e
core_of c _ = c

-- which it has promised and accepted then
taken_numbers : (i : ℕ) (o : Own KeptEntry) (g : ℕ) (l : List KeptEntry) (b : Bool) → (g == o.accepted) ≡ b
    → ((change i o (cond b (NodeEvent.Grow l) (NodeEvent.Take g l))).promised ≡ g) × ((change i o (cond b (NodeEvent.Grow l) (NodeEvent.Take g l))).accepted ≡ g) × ((change i o (cond b (NodeEvent.Grow l) (NodeEvent.Take g l))).log ≡ l)
taken_numbers i o g l true t = let q : o.accepted ≡ g = sym ((Decides-eqb g o.accepted).0 t) in (q, q, refl)
taken_numbers i o g l false t = (refl, refl, refl)

pub fallen_taking : (G : Setting) (v u : NodeVote) (log log' : List Entry) (g n : ℕ) (fault : Bool) (seen now : List (ℕ × Event)) → IsNode G v log seen → v.up ≡ true → Follows G v.node (event.Take g n) u log' seen
    → Adds v.node (event.Down fault) seen now → AreLegalSteps G now → MayWake G (field (steps G now)) v.node woken.Took (kept u.promised u.accepted log')
fallen_taking G v u log log' g n fault seen now is up f d legal =
    subst (λ x. MayWake G x v.node woken.Took (kept u.promised u.accepted log')) (sym (fell G v.node fault seen now d))
    (subst (λ x. MayWake G (fallen (field (steps G mid)) v.node) v.node woken.Took x) (sym same)
    (took_left G (field (steps G mid)) v.node g n l inv is.low is.high (ap (λ (o : Own KeptEntry). o.was_up) still ∙ awake G v log seen is up)
    m.exact refl m.allowed.may.0 (subst (λ xs. IsLog xs) of_log f.logged)))
  where
    mid : List (ℕ × Event)
    mid = d.between ++ seen

    w : World KeptEntry
    w = world G seen

    o : Own KeptEntry
    o = w.nodes v.node

    still : (world G mid).nodes v.node ≡ o
    still = idle G v.node d.between seen d.none

    law : AreLegalSteps G mid
    law = before G v.node fault seen now d legal

    m : MayTakeStep G mid v.node (event.Take g n)
    m = stays G d.between seen v.node (event.Take g n) law d.none f.may

    inv : Inv G.nodes (fallen (field (steps G mid)) v.node).core
    inv = subst (λ (x : Field). Inv G.nodes x.core) (fell G v.node fault seen now d) (inv_of G now legal)

    l : List KeptEntry
    l = log_named G.nodes (world G mid) g n

    one : l ≡ log_named G.nodes w g n
    one = (log_stays (inv_of G mid law) (tells G d.between seen) g n f.may.exact).0

    core : cond (g == o.accepted) (NodeEvent.Grow (log_named G.nodes w g n)) (NodeEvent.Take g (log_named G.nodes w g n)) ≡ f.core
    core = ap (core_of f.core) f.name

    t : ((change v.node o f.core).promised ≡ g) × ((change v.node o f.core).accepted ≡ g) × ((change v.node o f.core).log ≡ log_named G.nodes w g n)
    t = subst (λ c. ((change v.node o c).promised ≡ g) × ((change v.node o c).accepted ≡ g) × ((change v.node o c).log ≡ log_named G.nodes w g n)) core (taken_numbers v.node o g (log_named G.nodes w g n) (g == o.accepted) refl)

    of_log : log' ≡ map plain l
    of_log = f.log_is ∙ ap (map plain) (t.2 ∙ sym one)

    same : kept u.promised u.accepted log' ≡ kept g g (map plain l)
    same = ap (λ x. kept x u.accepted log') (f.part.promised ∙ t.0) ∙ (ap (λ x. kept g x log') (f.part.accepted ∙ t.1) ∙ ap (kept g g) of_log)

-- it was to append an entry
pub fallen_appending : (G : Setting) (v u : NodeVote) (log log' : List Entry) (next : Snapshot Entry) (fault : Bool) (seen now : List (ℕ × Event)) → IsNode G v log seen → v.up ≡ true → Follows G v.node (event.Append next) u log' seen
    → Adds v.node (event.Down fault) seen now → AreLegalSteps G now → MayWake G (field (steps G now)) v.node woken.Appended (kept u.promised u.accepted log')
fallen_appending G v u log log' next fault seen now is up f d legal =
    subst (λ x. MayWake G x v.node woken.Appended (kept u.promised u.accepted log')) (sym (fell G v.node fault seen now d))
    (subst (λ x. MayWake G (fallen (field (steps G mid)) v.node) v.node woken.Appended x) (sym same)
    (appended_left G (field (steps G mid)) v.node o.accepted next.value is.low is.high (ap (λ (x : Own KeptEntry). x.was_up) still ∙ awake G v log seen is up)
    m.allowed.may.0.0.1 (ap (λ (x : Own KeptEntry). x.accepted) still) m.allowed.may.0.1 m.allowed.may.1 m.allowed.pages (subst (λ xs. IsLog xs) of_log f.logged)))
  where
    mid : List (ℕ × Event)
    mid = d.between ++ seen

    o : Own KeptEntry
    o = (world G seen).nodes v.node

    still : (world G mid).nodes v.node ≡ o
    still = idle G v.node d.between seen d.none

    m : MayTakeStep G mid v.node (event.Append next)
    m = stays G d.between seen v.node (event.Append next) (before G v.node fault seen now d legal) d.none f.may

    core : NodeEvent.Append (kept_over o.log next.value) ≡ f.core
    core = ap (core_of f.core) f.name

    part : IsPart u (change v.node o (NodeEvent.Append (kept_over o.log next.value)))
    part = subst (λ c. IsPart u (change v.node o c)) (sym core) f.part

    of_log : log' ≡ map plain (((world G mid).nodes v.node).log ++ kept_over ((world G mid).nodes v.node).log next.value ∷ [])
    of_log =
        (f.log_is ∙ ap (λ c. map plain (change v.node o c).log) (sym core))
        ∙ ap (λ (x : Own KeptEntry). map plain (x.log ++ kept_over x.log next.value ∷ [])) (sym still)

    same : kept u.promised u.accepted log' ≡ kept o.accepted o.accepted (map plain (((world G mid).nodes v.node).log ++ kept_over ((world G mid).nodes v.node).log next.value ∷ []))
    same = ap (λ x. kept x u.accepted log') part.promised ∙ (ap (λ x. kept o.accepted x log') part.accepted ∙ ap (kept o.accepted o.accepted) of_log)
