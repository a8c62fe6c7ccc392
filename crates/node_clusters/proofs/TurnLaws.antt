-- One node after the other has its turn.
use Rattle.std.proofs.Common.{ℕ, ◌≡◌, ◌+◌, ◌-◌, ◌<◌, ◌≤◌, List, [], ◌∷◌, ◌++◌, length, length-append, get_or, slice_set, arith, refl, sym, subst, ap, ◌∙◌}
use Rattle.std.specs.Prelude.{◌==◌, Bool, true, false, cond, Option, None, Some, IfSome}
use Rattle.std.proofs.lemmas.Bool.Decides.{Decides-eqb}
use Rattle.std.proofs.lemmas.List.{append-nil}
use Rattle.std.proofs.Math.ListN.{length-set}
use mathlib.Core.Logic.{◌⊎◌, inl, inr}
use Rattle.actor_trace.specs.History.{entries_of}
use Rattle.actor_trace.specs.Lists.{Begins}
use Rattle.actor_trace.specs.Steps.{Rests}
use Rattle.cluster_events.specs.Settings.{Setting}
use Rattle.cluster_steps.specs.declared.events.Event.{Event}
use Rattle.node_clusters.proofs.PlaceLaws.{place_other, place_self, placed}
use Rattle.node_clusters.specs.Clusters.{HasPlace}
use Rattle.node_clusters.specs.Looks.{IsNoted, IsReady}
use Rattle.node_clusters.specs.Passes.{Passes}
use Rattle.node_clusters.specs.Places.{node_at}
use Rattle.node_clusters.specs.Turns.{AreTheirs, IsBehind, MayTakeTurn, TakeTurns, TakesTurn}
use Rattle.node_state.proofs.CallLaws.{before_then, begins_on, events_more}
use Rattle.node_state.specs.Calls.{Did, IsAsBefore}
use Rattle.node_state.specs.Nodes.{Held, IsOwn, events_of}
use Rattle.node_state.specs.Stores.{Stored, held_of}
use Rattle.quiet_cluster.proofs.Lists.{same_or}
use Rattle.trace_order.proofs.TurnLaws.{IsSince, since, so_far_more}
use Rattle.trace_order.specs.Done.{Done}
use Rattle.trace_order.specs.Turns.{IsSoFar}

-- a node that did nothing made what it had made, at the same tickets
no_events : (xs : List (ℕ × Event)) → length (events_of xs) ≡ 0 → xs ≡ []
no_events [] e = refl
no_events (x ∷ xs) e = absurd (omega arith)

same_made : (old new : Held) → old.actor.made ≡ entries_of old.actor.number old.actor.seen → new.actor.made ≡ entries_of new.actor.number new.actor.seen → Did [] old new → new.actor.made ≡ old.actor.made
same_made old new a b did = go (since old.actor.number did.more.later old.actor.seen)
  where
    go : IsSince old.actor.number old.actor.seen (did.more.later ++ old.actor.seen) → new.actor.made ≡ old.actor.made
    go s =
        let all : new.actor.made ≡ old.actor.made ++ s.steps = b ∙ (ap (λ i. entries_of i new.actor.seen) did.number ∙ (ap (λ t. entries_of old.actor.number t) (sym did.more.whole) ∙ (s.are ∙ ap (λ t. t ++ s.steps) (sym a)))) in
        let split : events_of new.actor.made ≡ events_of old.actor.made ++ events_of s.steps = ap events_of all ∙ events_more old.actor.made s.steps in
        let x : length (events_of new.actor.made) ≡ length (events_of old.actor.made) + length (events_of s.steps) = ap length split ∙ length-append (events_of old.actor.made) (events_of s.steps) in
        let y : length (events_of new.actor.made) ≡ length (events_of old.actor.made) + 0 = ap length did.made ∙ length-append (events_of old.actor.made) [] in
        all ∙ (ap (λ t. old.actor.made ++ t) (no_events s.steps (omega arith)) ∙ append-nil old.actor.made)

-- who does nothing knows what it knew
pub rests_still : (k : ℕ) (old new : List (ℕ × Event)) → new ≡ old → Rests k old new
rests_still k old new e = subst (λ t. Rests k old t) (sym e) (record { between = []; whole = refl; none = refl })

-- what was told is known, and stays so
pub heard_some : (last : Option (List (ℕ × Event))) (n seen : List (ℕ × Event)) → last ≡ Some n → Begins n seen → IfSome last (λ k. Begins k seen)
heard_some last n seen e h = subst (λ z. IfSome z (λ k. Begins k seen)) (sym e) h

pub heard_none : (last : Option (List (ℕ × Event))) (seen : List (ℕ × Event)) → last ≡ None → IfSome last (λ k. Begins k seen)
heard_none last seen e = subst (λ z. IfSome z (λ k. Begins k seen)) (sym e) tt

pub heard_still : (last : Option (List (ℕ × Event))) (mid new : Stored) → IfSome last (λ n. Begins n mid.actor.seen) → IsAsBefore (held_of mid) (held_of new) → IfSome last (λ n. Begins n new.actor.seen)
heard_still None mid new h same = tt
heard_still (Some n) mid new h same = begins_on h same.did.more

-- it heard what was told last, made room, and is ready
pub gets_ready : (G : Setting) (last : Option (List (ℕ × Event))) (old mid new : Stored) → old.actor.made ≡ entries_of old.actor.number old.actor.seen → IsAsBefore (held_of old) (held_of mid) → mid.over ≡ old.over → IfSome last (λ n. Begins n mid.actor.seen)
    → IsAsBefore (held_of mid) (held_of new) → new.over ≡ mid.over → IsOwn G (held_of new) → new.actor.made ≡ entries_of new.actor.number new.actor.seen → IsReady G last old new
gets_ready G last old mid new knew a x heard b y own knows = record {
  same = before_then (held_of old) (held_of mid) (held_of new) a b;
  over = y ∙ x;
  own = own;
  knew = knew;
  knows = knows;
  heard = heard_still last mid new heard b;
}

-- and noted what it knew
pub gets_noted : (G : Setting) (old new : Stored) (note : List (ℕ × Event)) (next : Option (List (ℕ × Event))) → IsOwn G (held_of old) → IsAsBefore (held_of old) (held_of new) → new.over ≡ old.over → note ≡ new.actor.seen
    → new.actor.made ≡ entries_of new.actor.number new.actor.seen → next ≡ Some note → IsNoted G old new next
gets_noted G old new note next own same over is knows told = record { own = own; same = same; over = over; knows = knows; told = told ∙ ap (λ (n : List (ℕ × Event)). Some n) is }

-- it heard, did something, and noted: each time it knows what it made
turns : (last next : Option (List (ℕ × Event))) (old mid between new : Stored) (es : List Event) → old.actor.made ≡ entries_of old.actor.number old.actor.seen → mid.actor.made ≡ entries_of mid.actor.number mid.actor.seen → new.actor.made ≡ entries_of new.actor.number new.actor.seen
    → IsAsBefore (held_of old) (held_of mid) → IfSome last (λ n. Begins n mid.actor.seen) → Did es (held_of mid) (held_of between) → IsAsBefore (held_of between) (held_of new) → next ≡ Some new.actor.seen → TakesTurn last old new next
turns last next old mid between new es a b c same heard did noted told = record {
  knew = mid.actor.seen;
  heard = heard;
  before = sym (same_made (held_of old) (held_of mid) a b same.did) ∙ (b ∙ ap (λ i. entries_of i mid.actor.seen) same.did.number);
  more = begins_on did.more noted.did.more;
  behind = c ∙ ap (λ i. entries_of i new.actor.seen) number;
  number = number;
  noted = told;
}
  where
    number : new.actor.number ≡ old.actor.number
    number = noted.did.number ∙ (did.number ∙ same.did.number)

pub turns_between : (G : Setting) (last next : Option (List (ℕ × Event))) (old mid between new : Stored) → Passes mid between → IsReady G last old mid → IsNoted G between new next → TakesTurn last old new next
turns_between G last next old mid between new p ready noted = turns last next old mid between new p.events ready.knew ready.knows noted.knows ready.same ready.heard p.did noted.same noted.told

-- nobody has a turn
pub no_turns : (vs us : List Stored) (last next : Option (List (ℕ × Event))) → us ≡ vs → next ≡ last → TakeTurns vs us last next
no_turns vs us last next e f = subst (λ t. TakeTurns vs t last next) (sym e) (record {
  size = refl;
  on = λ n told made done many is theirs so_far. record { told = told; is = f ∙ is; after = made; theirs = theirs; others = λ j h. refl; done = done; so_far = so_far };
})

-- what all actors made behind a turn of one
abbrev after_turn : ℕ → List (ℕ × Event) → (ℕ → List (ℕ × Event)) → ℕ → List (ℕ × Event)
after_turn i xs made j = cond (j == i) xs (made j)

-- one node alone has one
its_turn : (vs : List Stored) (i : ℕ) (v u : Stored) (last next : Option (List (ℕ × Event))) → 0 < i → i ≤ length vs → node_at vs i ≡ v → TakesTurn last v u next → TakeTurns vs (slice_set vs (i - 1) u) last next
its_turn vs i v u last next low high at t = record { size = length-set vs (i - 1) u; on = on }
  where
    at_it : (made : ℕ → List (ℕ × Event)) (j : ℕ) → j ≡ i → after_turn i u.actor.made made j ≡ u.actor.made
    at_it made j e = ap (λ b. cond b u.actor.made (made j)) ((Decides-eqb j i).1 e)

    else_it : (made : ℕ → List (ℕ × Event)) (j : ℕ) → (j == i) ≡ false → after_turn i u.actor.made made j ≡ made j
    else_it made j e = ap (λ b. cond b u.actor.made (made j)) e

    differs : (j : ℕ) → (j ≡ i → ⊥) → (j == i) ≡ false
    differs j ne = go (j == i) refl
      where
        go : (b : Bool) → (j == i) ≡ b → (j == i) ≡ false
        go true e = absurd (ne ((Decides-eqb j i).0 e))
        go false e = e

    theirs : (made : ℕ → List (ℕ × Event)) → AreTheirs vs made → AreTheirs (slice_set vs (i - 1) u) (after_turn i u.actor.made made)
    theirs made a = record {
      number = λ k lo hi. numbers k lo (inside k hi) (same_or k i);
      made = λ k lo hi. mades k lo (inside k hi) (same_or k i);
    }
      where
        inside : (k : ℕ) → k ≤ length (slice_set vs (i - 1) u) → k ≤ length vs
        inside k hi = let s : length (slice_set vs (i - 1) u) ≡ length vs = length-set vs (i - 1) u in omega arith

        numbers : (k : ℕ) → 0 < k → k ≤ length vs → (k ≡ i) ⊎ (k ≡ i → ⊥) → (node_at (slice_set vs (i - 1) u) k).actor.number ≡ k
        numbers k lo hi (inl e) = ap (λ (x : Stored). x.actor.number) (ap (λ j. node_at (slice_set vs (i - 1) u) j) e ∙ place_self vs i u low high)
            ∙ (t.number ∙ (ap (λ (x : Stored). x.actor.number) (sym at) ∙ (a.number i low high ∙ sym e)))
        numbers k lo hi (inr ne) = ap (λ (x : Stored). x.actor.number) (place_other vs i u k low ne) ∙ a.number k lo hi

        mades : (k : ℕ) → 0 < k → k ≤ length vs → (k ≡ i) ⊎ (k ≡ i → ⊥) → after_turn i u.actor.made made k ≡ (node_at (slice_set vs (i - 1) u) k).actor.made
        mades k lo hi (inl e) = at_it made k e ∙ ap (λ (x : Stored). x.actor.made) (sym (ap (λ j. node_at (slice_set vs (i - 1) u) j) e ∙ place_self vs i u low high))
        mades k lo hi (inr ne) = else_it made k (differs k ne) ∙ (a.made k lo hi ∙ ap (λ (x : Stored). x.actor.made) (sym (place_other vs i u k low ne)))

    on : (n : ℕ) (told : List (ℕ × Event)) (made : ℕ → List (ℕ × Event)) (done : List (Done Event)) → length vs < n → last ≡ Some told → AreTheirs vs made → IsSoFar n (length told) made done → IsBehind n (slice_set vs (i - 1) u) made next
    on n told made done many is a so_far = record {
      told = u.actor.seen;
      is = t.noted;
      after = after_turn i u.actor.made made;
      theirs = theirs made a;
      others = λ j h. else_it made j (differs j (λ e. outside j h e));
      done = more.0;
      so_far = more.1;
    }
      where
        outside : (j : ℕ) → (j ≡ 0) ⊎ (length (slice_set vs (i - 1) u) < j) → j ≡ i → ⊥
        outside j (inl z) e = omega arith
        outside j (inr lt) e = let s : length (slice_set vs (i - 1) u) ≡ length vs = length-set vs (i - 1) u in omega arith

        number : v.actor.number ≡ i
        number = ap (λ (x : Stored). x.actor.number) (sym at) ∙ a.number i low high

        more : (ds : List (Done Event)) × IsSoFar n (length u.actor.seen) (after_turn i u.actor.made made) ds
        more = so_far_more n i told t.knew u.actor.seen made (after_turn i u.actor.made made) done (omega arith) so_far (subst (λ z. IfSome z (λ x. Begins x t.knew)) is t.heard) t.more
            (a.made i low high ∙ (ap (λ (x : Stored). x.actor.made) at ∙ (t.before ∙ ap (λ k. entries_of k t.knew) number)))
            (at_it made i refl ∙ (t.behind ∙ ap (λ k. entries_of k u.actor.seen) number))
            (λ j ne. else_it made j ne)

pub one_turn : (vs us : List Stored) (i : ℕ) (v u : Stored) (last next : Option (List (ℕ × Event))) → 0 < i → i ≤ length vs → v ≡ get_or vs (i - 1) v → us ≡ slice_set vs (i - 1) u → MayTakeTurn last v u next → TakeTurns vs us last next
one_turn vs us i v u last next low high at put (inr t) = subst (λ z. TakeTurns vs z last next) (sym put) (its_turn vs i v u last next low high (placed vs i v low high at) t)
one_turn vs us i v u last next low high at put (inl t) = subst (λ z. TakeTurns vs z last next) (sym put) (record {
  size = length-set vs (i - 1) u;
  on = λ n told made done many is theirs so_far. record {
    told = told;
    is = t.1 ∙ is;
    after = made;
    theirs = record {
      number = λ k lo hi. ap (λ (x : Stored). x.actor.number) (same k (same_or k i)) ∙ theirs.number k lo (inside k hi);
      made = λ k lo hi. theirs.made k lo (inside k hi) ∙ ap (λ (x : Stored). x.actor.made) (sym (same k (same_or k i)));
    };
    others = λ j h. refl;
    done = done;
    so_far = so_far;
  };
})
  where
    inside : (k : ℕ) → k ≤ length (slice_set vs (i - 1) u) → k ≤ length vs
    inside k hi = let s : length (slice_set vs (i - 1) u) ≡ length vs = length-set vs (i - 1) u in omega arith

    same : (k : ℕ) → (k ≡ i) ⊎ (k ≡ i → ⊥) → node_at (slice_set vs (i - 1) u) k ≡ node_at vs k
    same k (inl e) = ap (λ j. node_at (slice_set vs (i - 1) u) j) e ∙ (place_self vs i u low high ∙ (t.0 ∙ (sym (placed vs i v low high at) ∙ ap (λ j. node_at vs j) (sym e))))
    same k (inr ne) = place_other vs i u k low ne

pub takes_at : (vs us : List Stored) (i : ℕ) (u : Stored) (last next : Option (List (ℕ × Event))) → HasPlace vs i → us ≡ slice_set vs (i - 1) u → TakesTurn last (node_at vs i) u next → TakeTurns vs us last next
takes_at vs us i u last next place put t = subst (λ z. TakeTurns vs z last next) (sym put) (its_turn vs i (node_at vs i) u last next place.0 place.1 refl t)

-- one after the other
pub turns_then : (vs us ws : List Stored) (last mid next : Option (List (ℕ × Event))) → TakeTurns vs us last mid → TakeTurns us ws mid next → TakeTurns vs ws last next
turns_then vs us ws last mid next a b = record { size = b.size ∙ a.size; on = on }
  where
    on : (n : ℕ) (told : List (ℕ × Event)) (made : ℕ → List (ℕ × Event)) (done : List (Done Event)) → length vs < n → last ≡ Some told → AreTheirs vs made → IsSoFar n (length told) made done → IsBehind n ws made next
    on n told made done many is theirs so_far = go (a.on n told made done many is theirs so_far)
      where
        go : IsBehind n us made mid → IsBehind n ws made next
        go x = both (b.on n x.told x.after x.done (let s : length us ≡ length vs = a.size in omega arith) x.is x.theirs x.so_far)
          where
            both : IsBehind n ws x.after next → IsBehind n ws made next
            both y = record {
              told = y.told;
              is = y.is;
              after = y.after;
              theirs = y.theirs;
              others = λ j h. y.others j h ∙ x.others j (elim h [ inl z ↦ inl z | inr lt ↦ inr (let s : length ws ≡ length us = b.size in omega arith) ]);
              done = y.done;
              so_far = y.so_far;
            }
