-- A node has its turn: what the operator may do then, and where all is behind that.
use Rattle.std.proofs.Common.{◌≡◌, ◌≢◌, ◌⊎◌, ℕ, ◌+◌, ◌<◌, ◌≤◌, true, false, List, [], ◌∷◌, ◌++◌, None, Result, OnOk, refl, sym, subst, ap, ◌∙◌, arith}
use Rattle.actor_trace.specs.Actors.{Knows}
use Rattle.actor_trace.specs.History.{entries_of}
use Rattle.actor_trace.specs.Steps.{Rests}
use Rattle.cluster_consensus.specs.Enabled.{Fit}
use Rattle.cluster_consensus.specs.Facts.{Admit}
use Rattle.cluster_events.specs.Arms.{last_fired}
use Rattle.cluster_events.specs.Settings.{Setting}
use Rattle.cluster_steps.specs.Guards.{AreLegalSteps, IsPlan}
use Rattle.cluster_steps.specs.Named.{steps, world}
use Rattle.cluster_steps.specs.declared.events.Event.{Event}
use Rattle.cluster_steps.specs.declared.events.Event.TheVariants as event
use Rattle.core_lists.specs.Lists.{Each, In}
use Rattle.election_core.specs.declared.votes.NodeVote.{NodeVote}
use Rattle.node_state.specs.Calls.{Falls, IsAsBefore}
use Rattle.node_state.specs.Nodes.{events_of}
use Rattle.node_state.specs.Stores.{Stored, held_of}
use Rattle.node_state.proofs.CallLaws.{begins_on, unchanged}
use Rattle.node_state.proofs.LogLists.{none_behind}
use Rattle.node_openings.specs.declared.found.ReadLog.{ReadLog}
use Rattle.node_openings.specs.declared.found.StoreFound.{StoreFound}
use Rattle.node_openings.specs.declared.found.StoreFound.TheVariants as store
use Rattle.node_starts.specs.Admits.{AdmitsBelow, AdmitsOne, admission}
use Rattle.node_starts.specs.News.{IsNew, IsToStart}
use Rattle.node_starts.specs.Starts.{CanStart, ComesUp, GoesDown, HasTurn, KeepsStore, LearnsMore}
use Rattle.node_starts.specs.Turns.{Informs, Learns, TurnOver, TurnSafe}
use Rattle.node_starts.proofs.AdmitLaws.{admits_next, admits_past, admits_rests, admitted, fit_below, known_admit, other_below}
use Rattle.node_starts.proofs.OrderLaws.{turn_goes, turn_steps}
use Rattle.node_starts.proofs.StepLaws.{falls_between, kept_between, kept_same, learns_begins, learns_nothing, learns_on, new_still, starts_between, up_more, up_number}

pub is_planned : (G : Setting) (s : StoreFound) (o : Knows Event) (n : Stored) → CanStart G s o n → IsPlan G
is_planned G s o n c = c.turn.plan

pub is_operator : (G : Setting) (s : StoreFound) (o : Knows Event) (n : Stored) → CanStart G s o n → o.number ≡ 0
is_operator G s o n c = c.turn.below.operator

pub is_unarmed : (G : Setting) (s : StoreFound) (o : Knows Event) (n : Stored) → CanStart G s o n → last_fired 0 (steps G o.seen) ≡ None
is_unarmed G s o n c = c.turn.below.unarmed

pub is_other : (G : Setting) (s : StoreFound) (o : Knows Event) (n : Stored) (k : ℕ) → k ≡ n.vote.node → CanStart G s o n → Each (λ b. b.node ≢ k) (world G o.seen).admits
is_other G s o n k same c = subst (λ j. Each (λ b. b.node ≢ j) (world G o.seen).admits) (sym same) (other_below G c.all n.vote.node o c.turn.below)

pub does_fit : (G : Setting) (r : ReadLog) (o : Knows Event) (n : Stored) (k : ℕ) → k ≡ n.vote.node → CanStart G (store.Whole r) o n → Fit G.nodes (admission k r.promised r.accepted ∷ (world G o.seen).admits)
does_fit G r o n k same c =
    subst (λ j. Fit G.nodes (admission j r.promised r.accepted ∷ (world G o.seen).admits)) (sym same) (fit_below G c.all n.vote.node r.promised r.accepted o c.turn.below c.turn.fit c.turn.among)

-- the node knows that it is admitted, and is as new as it was, over the same store
pub knows_admission : (G : Setting) (r : ReadLog) (o mid told : Knows Event) (n m : Stored) (k : ℕ) → k ≡ n.vote.node → AdmitsOne G k r.promised r.accepted o mid → Informs G mid n told m
    → In (admission m.vote.node r.promised r.accepted) (world G m.actor.seen).admits
knows_admission G r o mid told n m k same one known =
    let there : In (admission k r.promised r.accepted) (world G m.actor.seen).admits =
    known_admit G (admission k r.promised r.accepted) mid.seen m.actor.seen (begins_on (learns_begins G mid told known.learned) known.knows) (admitted G k r.promised r.accepted o mid one.added) in
    subst (λ j. In (admission j r.promised r.accepted) (world G m.actor.seen).admits) (same ∙ sym (ap (λ (v : NodeVote). v.node) known.same.vote)) there

pub still_new : (G : Setting) (s : StoreFound) (o mid told : Knows Event) (n m : Stored) → CanStart G s o n → Informs G mid n told m → IsNew m.vote.node m
still_new G s o mid told n m c known = subst (λ (v : NodeVote). IsNew v.node m) (sym known.same.vote) (new_still n.vote.node n m c.turn.new known.same)

pub still_ready : (G : Setting) (r : ReadLog) (o mid told : Knows Event) (n m : Stored) → CanStart G (store.Whole r) o n → Informs G mid n told m → IsToStart r m.over
still_ready G r o mid told n m c known = subst (λ x. IsToStart r x) (sym known.over) c.turn.ready

-- a node that has room for a step is down still
pub room_left : (G : Setting) (o told : Knows Event) (n m : Stored) → Informs G o n told m → 1 ≤ n.actor.room → 0 < m.actor.room
room_left G o told n m known room = let less : n.actor.room ≤ m.actor.room + 0 = known.same.did.room in omega arith

pub down_still : (G : Setting) (s : StoreFound) (o told : Knows Event) (n r m : Stored) → CanStart G s o n → IsAsBefore (held_of n) (held_of r) → Informs G o r told m → m.vote.up ≡ false
down_still G s o told n r m c reserved known = ap (λ (v : NodeVote). v.up) (known.same.vote ∙ reserved.vote) ∙ c.turn.new.down

-- where the operator is
learns_below : (G : Setting) (all : List Admit) (k : ℕ) (o now : Knows Event) → AdmitsBelow G all k o → LearnsMore G o now → AdmitsBelow G all k now
learns_below G all k o now b l = admits_rests G all k o now b l.number l.legal (subst (λ i. Rests i o.seen now.seen) b.operator l.rests)

same_room : (a b : ℕ) → b ≡ a → a ≤ b + 1
same_room a b same = omega arith

-- the turn of a node that is not admitted
idle_safe : (G : Setting) (s : StoreFound) (o now : Knows Event) (n m : Stored) → LearnsMore G o now → KeepsStore n.over m.over → TurnSafe G s o n now m
idle_safe G s o now n m learned kept = record {
  kept = kept;
  more = learns_begins G o now learned;
  below = λ all t. learns_below G all (n.vote.node + 1) o now (admits_past G all n.vote.node o t.below) learned;
  room = same_room o.room now.room learned.room;
}

pub reserved_safe : (G : Setting) (s : StoreFound) (o : Knows Event) (n r : Stored) → CanStart G s o n → r.over ≡ n.over → TurnSafe G s o n o r
reserved_safe G s o n r c over = idle_safe G s o o n r (learns_nothing G o c.turn.below.legal) (kept_same n.over r.over over)

pub down_safe : (G : Setting) (s : StoreFound) (o told now : Knows Event) (n r m w v : Stored) → r.over ≡ n.over → Informs G o r told m → w.over ≡ m.over → Learns G told w now v → TurnSafe G s o n now v
down_safe G s o told now n r m w v reserved known fell learned =
    idle_safe G s o now n v (learns_on G o told now known.learned learned.learned) (kept_same n.over v.over (learned.over ∙ (fell ∙ (known.over ∙ reserved))))

same_deeds : (G : Setting) (o told now : Knows Event) → LearnsMore G o told → LearnsMore G told now → events_of now.made ≡ events_of o.made
same_deeds G o told now a b = ap events_of (b.made ∙ a.made)

pub down_over : (G : Setting) (o told now : Knows Event) (n r m w v : Stored) → CanStart G store.Failed o n → IsAsBefore (held_of n) (held_of r) → r.over ≡ n.over → Informs G o r told m → Falls true (held_of m) (held_of w) → w.over ≡ m.over
    → Learns G told w now v → TurnOver G store.Failed o n now v
down_over G o told now n r m w v c reserved over known falls fell learned = record {
  starts = (falls_between (held_of n) (held_of r) (held_of m) (held_of w) (held_of v) reserved known.same falls learned.same, learned.over ∙ (fell ∙ (known.over ∙ over)));
  knows = learned.knows;
  did = same_deeds G o told now known.learned learned.learned ∙ sym (none_behind (events_of o.made));
  order = turn_goes n.vote.node o o now n.actor m.actor v.actor
      (turn_steps G o o told now n r m w v c.turn.below.operator known.was c.turn.below.operator (record { later = []; whole = refl }) c.turn.new reserved known falls.did.more falls.did.number learned);
}

-- the turn of a node that is admitted
whole_learned : (G : Setting) (r : ReadLog) (o mid now : Knows Event) (n m : Stored) (k : ℕ) → k ≡ n.vote.node → AdmitsOne G k r.promised r.accepted o mid → LearnsMore G mid now → KeepsStore n.over m.over → TurnSafe G (store.Whole r) o n now m
whole_learned G r o mid now n m k same one learned kept = record {
  kept = kept;
  more = begins_on one.more (learns_begins G mid now learned);
  below = λ all t. below all t;
  room = (let a : mid.room + 1 ≡ o.room = one.room in let b : now.room ≡ mid.room = learned.room in let c : o.room ≤ now.room + 1 = omega arith in c);
}
  where
    below : (all : List Admit) → HasTurn G all n.vote.node (store.Whole r) o n → AdmitsBelow G all (n.vote.node + 1) now
    below all t =
        learns_below G all (n.vote.node + 1) mid now
        (admits_next G all n.vote.node r.promised r.accepted o mid t.below t.among (subst (λ j. AdmitsOne G j r.promised r.accepted o mid) same one)) learned

pub whole_unopened : (G : Setting) (r : ReadLog) (o mid told : Knows Event) (n m w : Stored) (k : ℕ) → k ≡ n.vote.node → AdmitsOne G k r.promised r.accepted o mid → Informs G mid n told m → KeepsStore m.over w.over → TurnSafe G (store.Whole r) o n told w
whole_unopened G r o mid told n m w k same one known kept = whole_learned G r o mid told n w k same one known.learned (kept_between n.over m.over w.over w.over known.over kept refl)

pub whole_safe : (G : Setting) (r : ReadLog) (o mid told now : Knows Event) (n m w v : Stored) (k : ℕ) → k ≡ n.vote.node → AdmitsOne G k r.promised r.accepted o mid → Informs G mid n told m → KeepsStore m.over w.over → Learns G told w now v
    → TurnSafe G (store.Whole r) o n now v
whole_safe G r o mid told now n m w v k same one known kept learned =
    whole_learned G r o mid now n v k same one (learns_on G mid told now known.learned learned.learned) (kept_between n.over m.over w.over v.over known.over kept learned.over)

pub whole_over : (G : Setting) (r : ReadLog) (o mid told now : Knows Event) (n m w v : Stored) (k : ℕ) → CanStart G (store.Whole r) o n → o.made ≡ entries_of o.number o.seen → k ≡ n.vote.node → AdmitsOne G k r.promised r.accepted o mid
    → Informs G mid n told m → ComesUp r m w ⊎ GoesDown m w → Learns G told w now v → TurnOver G (store.Whole r) o n now v
whole_over G r o mid told now n m w v k c was same one known up learned = record {
  starts = starts_between r n m w v known.same known.over up learned.same learned.over;
  knows = learned.knows;
  did = same_deeds G mid told now known.learned learned.learned ∙ (one.did ∙ ap (λ j. events_of o.made ++ event.Admit j r.promised r.accepted ∷ []) same);
  order = turn_goes n.vote.node o mid now n.actor m.actor v.actor
      (turn_steps G o mid told now n n m w v c.turn.below.operator was one.number one.more c.turn.new (unchanged (held_of n)) known (up_more r m w up) (up_number r m w up) learned);
}

-- a turn leaves the operator what it is
pub safe_operator : (G : Setting) (s : StoreFound) (o now : Knows Event) (n m : Stored) → CanStart G s o n → TurnSafe G s o n now m → (now.number ≡ 0) × AreLegalSteps G now.seen
safe_operator G s o now n m c safe = let b = safe.below c.all c.turn in (b.operator, b.legal)

-- what was found of its store, told otherwise
pub can_as : (G : Setting) (s t : StoreFound) (o : Knows Event) (n : Stored) → s ≡ t → CanStart G s o n → CanStart G t o n
can_as G s t o n same c = subst (λ (x : StoreFound). CanStart G x o n) same c

pub safe_as : (G : Setting) (s t : StoreFound) (o now : Knows Event) (n m : Stored) → s ≡ t → TurnSafe G t o n now m → TurnSafe G s o n now m
safe_as G s t o now n m same safe = subst (λ (x : StoreFound). TurnSafe G x o n now m) (sym same) safe

pub over_as : {T E : Type 0} (told : Result T E) (G : Setting) (s t : StoreFound) (o now : Knows Event) (n m : Stored) → s ≡ t → OnOk told (TurnOver G t o n now m) → OnOk told (TurnOver G s o n now m)
over_as told G s t o now n m same over = subst (λ (x : StoreFound). OnOk told (TurnOver G x o n now m)) (sym same) over

pub never_bad : (G : Setting) (s : StoreFound) (at : ℕ) (o : Knows Event) (n : Stored) → s ≡ store.Bad at → CanStart G s o n → ⊥
never_bad G s at o n same c = (let d : CanStart G (store.Bad at) o n = can_as G s (store.Bad at) o n same c in d.turn.ready)

pub never_unsound : (G : Setting) (s : StoreFound) (o : Knows Event) (n : Stored) → s ≡ store.NotSound → CanStart G s o n → ⊥
never_unsound G s o n same c = (let d : CanStart G store.NotSound o n = can_as G s store.NotSound o n same c in d.turn.ready)
