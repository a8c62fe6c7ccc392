-- A node that asks its store before an event: the log is the node's then, and where the store fails, what it may hold the node may
-- come up with.
use Rattle.std.proofs.Common.{ℕ, ◌≡◌, ◌+◌, ◌<◌, ◌≤◌, List, [], ◌∷◌, ◌++◌, length, length-append, arith, refl, sym, ap, ◌∙◌, subst}
use Rattle.std.specs.Prelude.{true, false, Option, None, Some}
use Rattle.std.specs.declared.snapshot.Snapshot.{Snapshot}
use mathlib.Core.Logic.{inl, inr, ∥∥₁_map}
use Rattle.actor_trace.specs.Actors.{Knows}
use Rattle.actor_trace.specs.Steps.{Adds}
use Rattle.cdb_outside.specs.Faults.{Rose}
use Rattle.cluster_consensus.specs.Events.{NodeEvent}
use Rattle.cluster_consensus.specs.Facts.{Own}
use Rattle.cluster_events.specs.Parts.{field}
use Rattle.cluster_events.specs.Settings.{Setting}
use Rattle.cluster_requests.specs.KeptEntries.{KeptEntry}
use Rattle.cluster_steps.specs.Guards.{AreLegalSteps}
use Rattle.cluster_steps.specs.Named.{steps, world}
use Rattle.cluster_steps.specs.declared.events.Event.{Event}
use Rattle.cluster_steps.specs.declared.events.Event.TheVariants as event
use Rattle.cluster_steps.specs.declared.events.Woken.TheVariants as woken
use Rattle.cluster_steps.proofs.OwnLaws.{own_adds}
use Rattle.election_core.specs.declared.messages.Message.{Message}
use Rattle.election_core.specs.declared.votes.NodeVote.{NodeVote}
use Rattle.kept_log.specs.Kept.{Fails, HoldsAny, OverStore, StandForAny, kept_by, stopped_from}
use Rattle.phys_log.specs.declared.entries.Entry.{Entry}
use Rattle.node_state.specs.declared.faults.UnderWay.{UnderWay}
use Rattle.node_state.specs.declared.faults.UnderWay.TheVariants as way
use Rattle.node_state.specs.Calls.{Falls, Joins, down_vote}
use Rattle.node_state.specs.Nodes.{Follows, Held, IsNode, IsOwn, held}
use Rattle.node_state.specs.Restarts.{Kept, MayWake, kept}
use Rattle.node_state.specs.Stores.{FallsAfter, FallsOver, HasFailed, HasNumbers, IsCalm, IsKeptBy, MayBeNext, MayReturn, StopsShort, lasting, woken_of}
use Rattle.node_state.proofs.FallLaws.{stop_part}
use Rattle.node_state.proofs.LeftLaws.{awake, fallen_appending, fallen_leading, fallen_taking}
use Rattle.node_state.proofs.CallLaws.{nothing_partly, unchanged}
use Rattle.node_state.proofs.ShipLaws.{sized}
use Rattle.node_state.proofs.TakeLaws.{HasTaken, partly_taken}

-- the log of a call that succeeded is that of the node after its event
kept_after : (v u : NodeVote) (p a : ℕ) (o q : OverStore) → IsKeptBy v o → v.up ≡ true → HasNumbers v p a u → q.node ≡ o.node → q.promised ≡ p → q.accepted ≡ a → q.is_open ≡ o.is_open → IsKeptBy u q
kept_after v u p a o q k up n same promised accepted still = record {
  node = same ∙ (k.node ∙ sym n.node);
  promised = promised ∙ sym n.promise;
  accepted = accepted ∙ sym n.acceptance;
  is_open = still ∙ (k.is_open ∙ (up ∙ sym n.up));
}

kept_on : (u w : NodeVote) (q r : OverStore) → w ≡ u → r ≡ q → IsKeptBy u q → IsKeptBy w r
kept_on u w q r a b k = subst (λ t. IsKeptBy t r) (sym a) (subst (λ t. IsKeptBy u t) (sym b) k)

pub kept_promised : (v u w : NodeVote) (o q r : OverStore) (g : ℕ) → IsKeptBy v o → v.up ≡ true → HasNumbers v g v.accepted u → q ≡ record o { promised = g; synced = q.synced } → w ≡ u → r ≡ q → IsKeptBy w r
kept_promised v u w o q r g k up n e a b =
    kept_on u w q r a b (kept_after v u g v.accepted o q k up n (ap (λ (x : OverStore). x.node) e) (ap (λ (x : OverStore). x.promised) e) (ap (λ (x : OverStore). x.accepted) e ∙ k.accepted) (ap (λ (x : OverStore). x.is_open) e))

pub kept_led : (v u w : NodeVote) (o q r : OverStore) → IsKeptBy v o → v.up ≡ true → HasNumbers v v.promised v.promised u → q ≡ record o { accepted = o.promised; synced = q.synced } → w ≡ u → r ≡ q → IsKeptBy w r
kept_led v u w o q r k up n e a b =
    kept_on u w q r a b (kept_after v u v.promised v.promised o q k up n (ap (λ (x : OverStore). x.node) e) (ap (λ (x : OverStore). x.promised) e ∙ k.promised) (ap (λ (x : OverStore). x.accepted) e ∙ k.promised) (ap (λ (x : OverStore). x.is_open) e))

pub kept_taken : (v u w : NodeVote) (o q r : OverStore) (g : ℕ) (es : List Entry) → IsKeptBy v o → v.up ≡ true → HasNumbers v g g u → q ≡ record o { promised = g; accepted = g; entries = es; synced = q.synced } → w ≡ u → r ≡ q → IsKeptBy w r
kept_taken v u w o q r g es k up n e a b =
    kept_on u w q r a b (kept_after v u g g o q k up n (ap (λ (x : OverStore). x.node) e) (ap (λ (x : OverStore). x.promised) e) (ap (λ (x : OverStore). x.accepted) e) (ap (λ (x : OverStore). x.is_open) e))

pub kept_entered : (v u w : NodeVote) (o q r : OverStore) (es : List Entry) → IsKeptBy v o → v.up ≡ true → HasNumbers v v.promised v.accepted u → q ≡ record o { entries = es; synced = q.synced } → w ≡ u → r ≡ q → IsKeptBy w r
kept_entered v u w o q r es k up n e a b =
    kept_on u w q r a b (kept_after v u v.promised v.accepted o q k up n (ap (λ (x : OverStore). x.node) e) (ap (λ (x : OverStore). x.promised) e ∙ k.promised) (ap (λ (x : OverStore). x.accepted) e ∙ k.accepted) (ap (λ (x : OverStore). x.is_open) e))

-- a log that its store stopped has its entries
pub own_fallen : (G : Setting) (v : NodeVote) (a : Knows Event) (o p : OverStore) → p ≡ stopped_from o p.synced p.faults → IsOwn G (held v o.entries a) → IsOwn G (held v p.entries a)
own_fallen G v a o p e own = subst (λ es. IsOwn G (held v es a)) (sym (ap (λ (x : OverStore). x.entries) e)) own

-- and is that of the node that fell
pub kept_fallen : (v u : NodeVote) (o p q : OverStore) → IsKeptBy v o → p ≡ stopped_from o p.synced p.faults → q ≡ p → u ≡ down_vote v → IsKeptBy u q
kept_fallen v u o p q k e same fell = let at : q ≡ stopped_from o p.synced p.faults = same ∙ e in record {
  node = ap (λ (x : OverStore). x.node) at ∙ (k.node ∙ sym (ap (λ (x : NodeVote). x.node) fell));
  promised = ap (λ (x : OverStore). x.promised) at ∙ (k.promised ∙ sym (ap (λ (x : NodeVote). x.promised) fell));
  accepted = ap (λ (x : OverStore). x.accepted) at ∙ (k.accepted ∙ sym (ap (λ (x : NodeVote). x.accepted) fell));
  is_open = ap (λ (x : OverStore). x.is_open) at ∙ sym (ap (λ (x : NodeVote). x.up) fell);
}

pub kept_stopped : (v u : NodeVote) (o p q : OverStore) → IsKeptBy v o → p ≡ stopped_from o p.synced o.faults → q ≡ p → u ≡ down_vote v → IsKeptBy u q
kept_stopped v u o p q k e same fell = kept_fallen v u o p q k (e ∙ ap (λ f. stopped_from o p.synced f) (sym (ap (λ (x : OverStore). x.faults) e))) same fell

-- it was up when it fell
fell_was : (G : Setting) (v : NodeVote) (log : List Entry) (seen now : List (ℕ × Event)) → IsNode G v log seen → v.up ≡ true → Adds v.node (event.Down true) seen now → AreLegalSteps G now → ((world G now).nodes v.node).was_up ≡ true
fell_was G v log seen now is up d legal =
    ap (λ (o : Own KeptEntry). o.was_up) (own_adds G v.node (event.Down true) NodeEvent.Down seen now refl tt d legal) ∙ awake G v log seen is up

-- a call of the store failed, and left one of these
falls_over : (G : Setting) (v : NodeVote) (a : Knows Event) (o p q : OverStore) (w : NodeVote) (b : Knows Event) (u : UnderWay) (ks : List Kept) (promise : ℕ) (next : Option Kept)
    → IsOwn G (held v o.entries a) → v.up ≡ true → Fails o p ks → q ≡ p → Falls true (held v p.entries a) (held w q.entries b) → Adds a.number (event.Down true) a.seen b.seen → IsOwn G (held w q.entries b)
    → v.promised ≤ promise → ((s : OverStore) → HoldsAny s ks → HoldsAny s (lasting v.promised v.accepted o.entries promise next))
    → (Adds v.node (event.Down true) a.seen b.seen → AreLegalSteps G b.seen → MayBeNext G (field (steps G b.seen)) (down_vote v) (woken_of u) next)
    → FallsOver G (held v o.entries a) (held w q.entries b) o q u
falls_over G v a o p q w b u ks promise next own up f same falls d after least holds may = record {
  falls = subst (λ es. Falls true (held v es a) (held w q.entries b)) (ap (λ (x : OverStore). x.entries) f.stopped) falls;
  failed = subst (λ (x : OverStore). HasFailed o x) (sym same) (f.rose, ap (λ (x : OverStore). x.cluster) f.stopped);
  returns = subst (λ t. MayReturn G (held t q.entries b) q u) (sym falls.vote) (subst (λ es. MayReturn G (held (down_vote v) es b) q u) (sym entries) back);
}
  where
    entries : q.entries ≡ o.entries
    entries = ap (λ (x : OverStore). x.entries) same ∙ ap (λ (x : OverStore). x.entries) f.stopped

    dv : Adds v.node (event.Down true) a.seen b.seen
    dv = subst (λ t. Adds t (event.Down true) a.seen b.seen) (sym own.number_is) d

    back : MayReturn G (held (down_vote v) o.entries b) q u
    back = record {
      was_up = fell_was G v o.entries a.seen b.seen own.node up dv after.node.legal;
      promise = promise;
      least = least;
      next = next;
      holds = subst (λ (x : OverStore). HoldsAny x (lasting v.promised v.accepted o.entries promise next)) (sym same) (holds p f.holds);
      may = may dv after.node.legal;
    }

-- in the node's numbers
in_numbers : (v : NodeVote) (o : OverStore) (F : ℕ → ℕ → List Kept) → IsKeptBy v o → F o.promised o.accepted ≡ F v.promised v.accepted
in_numbers v o F k = ap (λ p. F p o.accepted) k.promised ∙ ap (λ a. F v.promised a) k.accepted

first_twice : (s : OverStore) (x y : Kept) → HoldsAny s (x ∷ y ∷ []) → HoldsAny s (x ∷ x ∷ y ∷ [])
first_twice s x y h = ∥∥₁_map h go
  where
    go : StandForAny s.node s.cluster s.synced (x ∷ y ∷ []) → StandForAny s.node s.cluster s.synced (x ∷ x ∷ y ∷ [])
    go (inl t) = inl t
    go (inr t) = inr (inr t)

only_twice : (s : OverStore) (x : Kept) → HoldsAny s (x ∷ []) → HoldsAny s (x ∷ x ∷ [])
only_twice s x h = ∥∥₁_map h go
  where
    go : StandForAny s.node s.cluster s.synced (x ∷ []) → StandForAny s.node s.cluster s.synced (x ∷ x ∷ [])
    go (inl t) = inl t
    go (inr t) = absurd t

-- where it was to promise
pub promise_falls : (G : Setting) (v : NodeVote) (a : Knows Event) (o p q : OverStore) (w : NodeVote) (b : Knows Event) (u : UnderWay) (g : ℕ)
    → IsOwn G (held v o.entries a) → v.up ≡ true → IsKeptBy v o → v.promised < g → Fails o p (kept_by o ∷ kept g o.accepted o.entries ∷ []) → q ≡ p → Falls true (held v p.entries a) (held w q.entries b)
    → Adds a.number (event.Down true) a.seen b.seen → IsOwn G (held w q.entries b) → FallsOver G (held v o.entries a) (held w q.entries b) o q u
promise_falls G v a o p q w b u g own up k above f same falls d after =
    falls_over G v a o p q w b u (kept_by o ∷ kept g o.accepted o.entries ∷ []) g None own up f same falls d after (omega arith)
    (λ s h. subst (λ ks. HoldsAny s ks) (in_numbers v o (λ x y. kept x y o.entries ∷ kept g y o.entries ∷ []) k) h)
    (λ dv legal. tt)

-- where it was to lead
pub lead_falls : (G : Setting) (v : NodeVote) (a : Knows Event) (o p q : OverStore) (w : NodeVote) (b : Knows Event) (u : UnderWay) (g : ℕ) (vote : NodeVote)
    → IsOwn G (held v o.entries a) → v.up ≡ true → IsKeptBy v o → v.accepted < v.promised → Follows G v.node (event.Lead g) vote o.entries a.seen → Fails o p (kept_by o ∷ kept o.promised o.promised o.entries ∷ []) → q ≡ p
    → Falls true (held v p.entries a) (held w q.entries b) → Adds a.number (event.Down true) a.seen b.seen → IsOwn G (held w q.entries b) → u ≡ way.Lead → FallsOver G (held v o.entries a) (held w q.entries b) o q u
lead_falls G v a o p q w b u g vote own up k above follows f same falls d after is =
    subst (λ t. FallsOver G (held v o.entries a) (held w q.entries b) o q t) (sym is)
    (falls_over G v a o p q w b way.Lead (kept_by o ∷ kept o.promised o.promised o.entries ∷ []) v.promised (Some (kept v.promised v.promised o.entries)) own up f same falls d after (omega arith)
    (λ s h. subst (λ ks. HoldsAny s ks) (in_numbers v o (λ x y. kept x y o.entries ∷ kept x y o.entries ∷ kept x x o.entries ∷ []) k) (first_twice s (kept_by o) (kept o.promised o.promised o.entries) h))
    (λ dv legal. ((λ e size. (let same_gen : v.promised ≡ v.accepted = e in absurd (omega arith))), fallen_leading G v o.entries g true a.seen b.seen own.node up follows.may dv legal)))

-- what it was to take, by its numbers then
by_numbers : (G : Setting) (v vote : NodeVote) (g h : ℕ) (es : List Entry) (now : List (ℕ × Event)) → HasNumbers v g h vote → MayWake G (field (steps G now)) v.node woken.Took (kept vote.promised vote.accepted es)
    → MayWake G (field (steps G now)) v.node woken.Took (kept g h es)
by_numbers G v vote g h es now n m =
    subst (λ x. MayWake G (field (steps G now)) v.node woken.Took (kept x h es)) n.promise (subst (λ x. MayWake G (field (steps G now)) v.node woken.Took (kept vote.promised x es)) n.acceptance m)

-- where it was to take a log
pub take_falls : (G : Setting) (v : NodeVote) (a : Knows Event) (o p q : OverStore) (w : NodeVote) (b : Knows Event) (u : UnderWay) (g n : ℕ) (vote : NodeVote) (es : List Entry)
    → IsOwn G (held v o.entries a) → v.up ≡ true → IsKeptBy v o → v.promised ≤ g → v.accepted < g → HasNumbers v g g vote → Follows G v.node (event.Take g n) vote es a.seen
    → Fails o p (kept_by o ∷ kept g o.accepted o.entries ∷ kept g g es ∷ []) → q ≡ p → Falls true (held v p.entries a) (held w q.entries b) → Adds a.number (event.Down true) a.seen b.seen → IsOwn G (held w q.entries b)
    → u ≡ way.Take → FallsOver G (held v o.entries a) (held w q.entries b) o q u
take_falls G v a o p q w b u g n vote es own up k le above numbers follows f same falls d after is =
    subst (λ t. FallsOver G (held v o.entries a) (held w q.entries b) o q t) (sym is)
    (falls_over G v a o p q w b way.Take (kept_by o ∷ kept g o.accepted o.entries ∷ kept g g es ∷ []) g (Some (kept g g es)) own up f same falls d after le
    (λ s h. subst (λ ks. HoldsAny s ks) (in_numbers v o (λ x y. kept x y o.entries ∷ kept g y o.entries ∷ kept g g es ∷ []) k) h)
    (λ dv legal. ((λ e size. (let same_gen : g ≡ v.accepted = e in absurd (omega arith))), by_numbers G v vote g g es b.seen numbers (fallen_taking G v vote o.entries es g n true a.seen b.seen own.node up follows dv legal))))

-- a log with an entry more is of another length
longer : (G : Setting) (v : NodeVote) (log : List Entry) (e : Entry) (seen : List (ℕ × Event)) → IsNode G v log seen → length (log ++ e ∷ []) ≡ v.length → ⊥
longer G v log e seen is size =
    let a : length log ≡ v.length = sized v log seen is in
    let b : length (log ++ e ∷ []) ≡ length log + 1 = length-append log (e ∷ []) in
    omega arith

-- where it was to take an entry more
pub grow_falls : (G : Setting) (v : NodeVote) (a : Knows Event) (o p q : OverStore) (w : NodeVote) (b : Knows Event) (u : UnderWay) (g n : ℕ) (vote : NodeVote) (e : Entry)
    → IsOwn G (held v o.entries a) → v.up ≡ true → IsKeptBy v o → HasNumbers v v.promised v.accepted vote → Follows G v.node (event.Take g n) vote (o.entries ++ e ∷ []) a.seen
    → Fails o p (kept_by o ∷ kept o.promised o.accepted (o.entries ++ e ∷ []) ∷ []) → q ≡ p → Falls true (held v p.entries a) (held w q.entries b) → Adds a.number (event.Down true) a.seen b.seen → IsOwn G (held w q.entries b)
    → u ≡ way.Take → FallsOver G (held v o.entries a) (held w q.entries b) o q u
grow_falls G v a o p q w b u g n vote e own up k numbers follows f same falls d after is =
    subst (λ t. FallsOver G (held v o.entries a) (held w q.entries b) o q t) (sym is)
    (falls_over G v a o p q w b way.Take (kept_by o ∷ kept o.promised o.accepted (o.entries ++ e ∷ []) ∷ []) v.promised (Some (kept v.promised v.accepted (o.entries ++ e ∷ []))) own up f same falls d after (omega arith)
    (λ s h. subst (λ ks. HoldsAny s ks) (in_numbers v o (λ x y. kept x y o.entries ∷ kept x y o.entries ∷ kept x y (o.entries ++ e ∷ []) ∷ []) k)
    (first_twice s (kept_by o) (kept o.promised o.accepted (o.entries ++ e ∷ [])) h))
    (λ dv legal. (
      (λ gen size. longer G v o.entries e a.seen own.node size),
      by_numbers G v vote v.promised v.accepted (o.entries ++ e ∷ []) b.seen numbers (fallen_taking G v vote o.entries (o.entries ++ e ∷ []) g n true a.seen b.seen own.node up follows dv legal),
    )))

-- where it was to append an entry
pub append_falls : (G : Setting) (v : NodeVote) (a : Knows Event) (o p q : OverStore) (w : NodeVote) (b : Knows Event) (u : UnderWay) (next : Snapshot Entry) (vote : NodeVote) (e : Entry)
    → IsOwn G (held v o.entries a) → v.up ≡ true → IsKeptBy v o → HasNumbers v v.promised v.accepted vote → Follows G v.node (event.Append next) vote (o.entries ++ e ∷ []) a.seen
    → Fails o p (kept_by o ∷ kept o.promised o.accepted (o.entries ++ e ∷ []) ∷ []) → q ≡ p → Falls true (held v p.entries a) (held w q.entries b) → Adds a.number (event.Down true) a.seen b.seen → IsOwn G (held w q.entries b)
    → u ≡ way.Append → FallsOver G (held v o.entries a) (held w q.entries b) o q u
append_falls G v a o p q w b u next vote e own up k numbers follows f same falls d after is =
    subst (λ t. FallsOver G (held v o.entries a) (held w q.entries b) o q t) (sym is)
    (falls_over G v a o p q w b way.Append (kept_by o ∷ kept o.promised o.accepted (o.entries ++ e ∷ []) ∷ []) v.promised (Some (kept v.promised v.accepted (o.entries ++ e ∷ []))) own up f same falls d after (omega arith)
    (λ s h. subst (λ ks. HoldsAny s ks) (in_numbers v o (λ x y. kept x y o.entries ∷ kept x y o.entries ∷ kept x y (o.entries ++ e ∷ []) ∷ []) k)
    (first_twice s (kept_by o) (kept o.promised o.accepted (o.entries ++ e ∷ [])) h))
    (λ dv legal. (
      (λ gen size. longer G v o.entries e a.seen own.node size),
      (let m = fallen_appending G v vote o.entries (o.entries ++ e ∷ []) next true a.seen b.seen own.node up follows dv legal in
          subst (λ x. MayWake G (field (steps G b.seen)) v.node woken.Appended (kept x v.accepted (o.entries ++ e ∷ []))) numbers.promise
          (subst (λ x. MayWake G (field (steps G b.seen)) v.node woken.Appended (kept vote.promised x (o.entries ++ e ∷ []))) numbers.acceptance m)),
    )))

-- where it was stopped
pub stop_returns : (G : Setting) (v w : NodeVote) (a b : Knows Event) (o p q : OverStore) (es : List Entry) (u : UnderWay) → IsOwn G (held v o.entries a) → v.up ≡ true → IsKeptBy v o → p ≡ stopped_from o p.synced o.faults
    → HoldsAny p (kept_by o ∷ []) → q ≡ p → Adds a.number (event.Down false) a.seen b.seen → w ≡ down_vote v → es ≡ o.entries → MayReturn G (held w es b) q u
stop_returns G v w a b o p q es u own up k stopped holds same d fell entries =
    subst (λ t. MayReturn G (held t es b) q u) (sym fell) (subst (λ xs. MayReturn G (held (down_vote v) xs b) q u) (sym entries) (record {
      was_up = ap (λ (x : Own KeptEntry). x.was_up) (stop_part G v.node a.seen b.seen dv) ∙ awake G v o.entries a.seen own.node up;
      promise = v.promised;
      least = (let le : v.promised ≤ v.promised = omega arith in le);
      next = None;
      holds = subst (λ (x : OverStore). HoldsAny x (lasting v.promised v.accepted o.entries v.promised None)) (sym same)
          (subst (λ ks. HoldsAny p ks) (in_numbers v o (λ x y. kept x y o.entries ∷ kept x y o.entries ∷ []) k) (only_twice p (kept_by o) holds));
      may = tt;
    }))
  where
    dv : Adds v.node (event.Down false) a.seen b.seen
    dv = subst (λ t. Adds t (event.Down false) a.seen b.seen) (sym own.number_is) d

-- a fall at the first event of a message, or want of memory there
pub falls_at_once : (G : Setting) (m : Message) (es : List Entry) (old new : Held) (o q : OverStore) (u : UnderWay) → FallsOver G old new o q u → FallsAfter G m es old new o q u
falls_at_once G m es old new o q u f = record {
  falls = record { mid = old; partly = nothing_partly m es old old (unchanged old); falls = f.falls };
  failed = f.failed;
  returns = f.returns;
}

pub short_at_once : (m : Message) (es : List Entry) (old : Held) (o : OverStore) → StopsShort m es old old o o
short_at_once m es old o = record { partly = nothing_partly m es old old (unchanged old); calm = (refl, refl) }

-- and after the first entries
pub falls_later : (G : Setting) (m : Message) (es : List Entry) (old mid new : Held) (o p q : OverStore) (u : UnderWay) → Joins old.vote m es → HasTaken G m es old mid → IsCalm o p → FallsOver G mid new p q u → FallsAfter G m es old new o q u
falls_later G m es old mid new o p q u j h calm f = record {
  falls = record { mid = mid; partly = partly_taken G m es old mid j h; falls = f.falls };
  failed = (subst (λ k. Rose k q.faults) calm.0 f.failed.0, f.failed.1 ∙ calm.1);
  returns = f.returns;
}

pub short_later : (G : Setting) (m : Message) (es : List Entry) (old mid : Held) (o p : OverStore) → Joins old.vote m es → HasTaken G m es old mid → IsCalm o p → StopsShort m es old mid o p
short_later G m es old mid o p j h calm = record { partly = partly_taken G m es old mid j h; calm = calm }
