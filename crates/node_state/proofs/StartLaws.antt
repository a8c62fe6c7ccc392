-- A node that is down: what its store may hold it may come up with, whatever others do, and where its store fails once more; and
-- by what it is found to hold the node knows how.
use Rattle.std.proofs.Common.{ℕ, ◌≡◌, ◌+◌, ◌<◌, ◌≤◌, List, [], ◌∷◌, ◌++◌, length, arith, refl, sym, ap, ◌∙◌, subst}
use Rattle.std.proofs.lemmas.Bool.{ltb-true, lt-ltb}
use Rattle.std.proofs.lemmas.Bool.Decides.{Decides-eqb}
use Rattle.std.specs.Coded.{Coded, Coded-set, coded_list, coded_ℕ, coded_bool}
use Rattle.std.specs.declared.snapshot.Snapshot.{Snapshot}
use Rattle.std.specs.Prelude.{◌==◌, ◌&&◌, ltb, Bool, true, false, cond, Option, None, Some}
use mathlib.Core.Logic.{inl, inr, ∥∥₁_elim, ∥∥₁_map, ∥∥₁_prop}
use mathlib.Core.Path.{fun_ext}
use Rattle.actor_trace.specs.Actors.{Knows}
use Rattle.actor_trace.specs.Steps.{Adds, Rests}
use Rattle.cdb_outside.specs.Faults.{Rose}
use Rattle.cdb_values.specs.Rows.{Rows}
use Rattle.cluster_consensus.specs.Events.{NodeEvent}
use Rattle.cluster_consensus.specs.Facts.{Own}
use Rattle.cluster_events.specs.Operator.{IsStartOrdered}
use Rattle.cluster_events.specs.Parts.{field}
use Rattle.cluster_events.specs.Settings.{Setting, lines_to_do}
use Rattle.cluster_requests.specs.KeptEntries.{KeptEntry}
use Rattle.cluster_requests.specs.Requests.{Field}
use Rattle.cluster_steps.specs.Guards.{IsPlan, AreLegalSteps}
use Rattle.cluster_steps.specs.Named.{steps, world}
use Rattle.cluster_steps.specs.declared.events.Event.{Event}
use Rattle.cluster_steps.specs.declared.events.Event.TheVariants as event
use Rattle.cluster_steps.specs.declared.events.Woken.{Woken}
use Rattle.cluster_steps.specs.declared.events.Woken.TheVariants as woken
use Rattle.cluster_steps.proofs.OwnLaws.{own_adds}
use Rattle.cluster_steps.proofs.StepLaws.{idle}
use Rattle.election_core.specs.declared.votes.NodeVote.{NodeVote}
use Rattle.kept_log.specs.Kept.{HoldsAny, IsAny, OverStore, StandForAny, StandsStill, kept_by, stopped_from}
use Rattle.node_reading.specs.declared.readings.WhyUnread.{WhyUnread}
use Rattle.node_reading.specs.Reading.{IsWhyUnread}
use Rattle.phys_log.specs.contracts.entries.Entry as entry_row
use Rattle.phys_log.specs.declared.entries.Entry.{Entry}
use Rattle.stopped_log.specs.Stopped.{Excuses}
use Rattle.store_log.specs.declared.opens.OpenFault.{OpenFault}
use Rattle.store_log.specs.declared.opens.OpenFault.TheVariants as fault
use Rattle.store_log.specs.declared.standings.Standing.TheVariants.{Log}
use Rattle.node_state.specs.declared.faults.UnderWay.{UnderWay}
use Rattle.node_state.specs.declared.faults.UnderWay.TheVariants as way
use Rattle.node_state.specs.declared.steps.Started.{Started}
use Rattle.node_state.specs.declared.steps.Started.TheVariants as started
use Rattle.node_state.specs.Calls.{Did, IsAsBefore, down_vote}
use Rattle.node_state.specs.Nodes.{Held, IsNode, IsOwn, held}
use Rattle.node_state.specs.Restarts.{IsStarted, IsStartTold, Kept, MayWake, Wakes, kept, woken_vote}
use Rattle.node_state.specs.Stores.{IsCalm, IsFoundIn, IsKeptBy, IsStartedSo, IsStored, MayBeFirst, MayBeNext, MayReturn, MayStart, IsTried, IsUnopened, StaysShut, Stored, WasOpened, held_of, how_by, how_of, lasting, woken_of}
use Rattle.node_state.proofs.CallLaws.{as_reserved, did_before}
use Rattle.node_state.proofs.LeftLaws.{down_as_left, fallen, fell, lain, same_either}
use Rattle.node_state.proofs.ShipLaws.{sized}
use Rattle.node_state.proofs.WakeLaws.{wake_stays}

abbrev entries_code : Coded (List Entry)
entries_code = coded_list (entry_row.the_row).coded

-- whatever others do
next_stays : (G : Setting) (v : NodeVote) (how : Woken) (old new : List (ℕ × Event)) (n : Option Kept) → IsPlan G → Rests v.node old new → AreLegalSteps G new → MayBeNext G (field (steps G old)) v how n → MayBeNext G (field (steps G new)) v how n
next_stays G v how old new None plan d legal m = tt
next_stays G v how old new (Some k) plan d legal m = (m.0, wake_stays G v.node old new how k plan d legal m.1)

pub returns_rests : (G : Setting) (v : NodeVote) (es : List Entry) (a b : Knows Event) (o : OverStore) (u : UnderWay) → IsOwn G (held v es a) → IsOwn G (held v es b) → Rests a.number a.seen b.seen → MayReturn G (held v es a) o u
    → MayReturn G (held v es b) o u
returns_rests G v es a b o u own after d r =
    let dv : Rests v.node a.seen b.seen = subst (λ t. Rests t a.seen b.seen) (sym own.number_is) d in
    record {
      was_up = ap (λ t. ((world G t).nodes v.node).was_up) dv.whole ∙ (ap (λ (x : Own KeptEntry). x.was_up) (idle G v.node dv.between a.seen dv.none) ∙ r.was_up);
      promise = r.promise;
      least = r.least;
      next = r.next;
      holds = r.holds;
      may = next_stays G v (woken_of u) a.seen b.seen r.next own.node.plan dv after.node.legal r.may;
    }

pub rests_same : {i : ℕ} (old new : List (ℕ × Event)) → new ≡ old → Rests i old new
rests_same old new e = record { between = []; whole = e; none = refl }

-- it looks on, or makes room
pub stored_rests : (G : Setting) (v w : NodeVote) (es fs : List Entry) (a b : Knows Event) (o q : OverStore) (u z : UnderWay) → IsStored G (held v es a) o u → IsOwn G (held w fs b) → w ≡ v → fs ≡ es → q ≡ o → z ≡ u
    → Rests a.number a.seen b.seen → IsStored G (held w fs b) q z
stored_rests G v w es fs a b o q u z s after sv se so su d =
    subst (λ x. IsStored G (held w fs b) q x) (sym su) (subst (λ (x : OverStore). IsStored G (held w fs b) x u) (sym so)
    (subst (λ x. IsStored G (held x fs b) o u) (sym sv) (subst (λ x. IsStored G (held v x b) o u) (sym se) (record {
      own = own;
      over = s.over;
      down = λ down was. returns_rests G v es a b o u s.own own d (s.down down (was_before was));
    }))))
  where
    own : IsOwn G (held v es b)
    own = subst (λ x. IsOwn G (held x es b)) sv (subst (λ x. IsOwn G (held w x b)) se after)

    dv : Rests v.node a.seen b.seen
    dv = subst (λ t. Rests t a.seen b.seen) (sym s.own.number_is) d

    was_before : ((world G b.seen).nodes v.node).was_up ≡ true → ((world G a.seen).nodes v.node).was_up ≡ true
    was_before was = sym (ap (λ t. ((world G t).nodes v.node).was_up) dv.whole ∙ ap (λ (x : Own KeptEntry). x.was_up) (idle G v.node dv.between a.seen dv.none)) ∙ was

-- it is up
pub stored_up : (G : Setting) (h : Held) (o : OverStore) (u : UnderWay) → IsOwn G h → IsKeptBy h.vote o → h.vote.up ≡ true → IsStored G h o u
stored_up G h o u own k up = record { own = own; over = k; down = λ down was. (let z : true ≡ false = sym up ∙ down in absurd (cc)) }

-- it is down
pub stored_down : (G : Setting) (h : Held) (o : OverStore) (u : UnderWay) → IsOwn G h → IsKeptBy h.vote o → MayReturn G h o u → IsStored G h o u
stored_down G h o u own k r = record { own = own; over = k; down = λ down was. r }

-- a node that is down goes down once more: nothing is changed
down_again : (o : Own KeptEntry) → o.up ≡ false → lain o ≡ o
down_again o down = ap (λ b. record o { up = b }) (sym down)

fallen_again : (f : Field) (i : ℕ) → (f.core.nodes i).up ≡ false → fallen f i ≡ f
fallen_again f i down =
    ap (λ n. record (fallen f i) { core = record f.core { nodes = n } }) (fun_ext node)
    ∙ ap (λ s. record f { settled = s }) (fun_ext (λ k. same_either (k == i) (f.settled k)))
  where
    node : (k : ℕ) → cond (k == i) (lain (f.core.nodes i)) (f.core.nodes k) ≡ f.core.nodes k
    node k = go (k == i) refl
      where
        go : (b : Bool) → (k == i) ≡ b → cond b (lain (f.core.nodes i)) (f.core.nodes k) ≡ f.core.nodes k
        go true t = down_again (f.core.nodes i) down ∙ ap (λ j. f.core.nodes j) (sym ((Decides-eqb k i).0 t))
        go false t = refl

-- so it may come up as before
pub returns_again : (G : Setting) (v w : NodeVote) (es fs : List Entry) (a b : Knows Event) (o q : OverStore) (u z : UnderWay) → IsOwn G (held v es a) → v.up ≡ false → Adds a.number (event.Down true) a.seen b.seen
    → IsOwn G (held w fs b) → w ≡ down_vote v → fs ≡ es → z ≡ u → ((ks : List Kept) → HoldsAny o ks → HoldsAny q ks) → MayReturn G (held v es a) o u → MayReturn G (held w fs b) q z
returns_again G v w es fs a b o q u z own down d after fell_so se su on r =
    subst (λ x. MayReturn G (held w fs b) q x) (sym su) (subst (λ t. MayReturn G (held t fs b) q u) (sym (fell_so ∙ same)) (subst (λ x. MayReturn G (held v x b) q u) (sym se) (record {
      was_up = ap (λ (f : Field). (f.core.nodes v.node).was_up) whole ∙ (ap (λ (x : Own KeptEntry). x.was_up) still ∙ r.was_up);
      promise = r.promise;
      least = r.least;
      next = r.next;
      holds = on (lasting v.promised v.accepted es r.promise r.next) r.holds;
      may = subst (λ f. MayBeNext G f v (woken_of u) r.next) (sym whole)
          (next_stays G v (woken_of u) a.seen mid r.next own.node.plan (record { between = dv.between; whole = refl; none = dv.none }) law r.may);
    })))
  where
    same : down_vote v ≡ v
    same = ap (λ t. record v { up = t }) (sym down)

    dv : Adds v.node (event.Down true) a.seen b.seen
    dv = subst (λ t. Adds t (event.Down true) a.seen b.seen) (sym own.number_is) d

    mid : List (ℕ × Event)
    mid = dv.between ++ a.seen

    law : AreLegalSteps G mid
    law = let l : AreLegalSteps G ((v.node, event.Down true) ∷ mid) = subst (λ t. AreLegalSteps G t) dv.whole after.node.legal in l.1

    still : (world G mid).nodes v.node ≡ (world G a.seen).nodes v.node
    still = idle G v.node dv.between a.seen dv.none

    whole : field (steps G b.seen) ≡ field (steps G mid)
    whole = fell G v.node true a.seen b.seen dv ∙ fallen_again (field (steps G mid)) v.node (ap (λ (x : Own KeptEntry). x.up) still ∙ (sym own.node.part.up ∙ down))

-- by its numbers it is known what is found
both : (x y : Bool) → (x && y) ≡ true → (x ≡ true) × (y ≡ true)
both true y e = (refl, e)
both false y e = absurd (cc)

not_same : (k : Kept) (v : NodeVote) → (k.accepted == v.accepted && length k.entries == v.length) ≡ false → k.accepted ≡ v.accepted → length k.entries ≡ v.length → ⊥
not_same k v t acc size = go (k.accepted == v.accepted) (length k.entries == v.length) t ((Decides-eqb k.accepted v.accepted).1 acc) ((Decides-eqb (length k.entries) v.length).1 size)
  where
    go : (x y : Bool) → (x && y) ≡ false → x ≡ true → y ≡ true → ⊥
    go true true t a b = absurd (cc)
    go true false t a b = absurd (cc)
    go false y t a b = absurd (cc)

-- as they were: the log as it was
left_is : (G : Setting) (f : Field) (v : NodeVote) (how : Woken) (es : List Entry) (q : ℕ) (n : Option Kept) (k : Kept) → MayBeNext G f v how n → v.promised ≤ q → IsAny k (lasting v.promised v.accepted es q n)
    → k.accepted ≡ v.accepted → length k.entries ≡ v.length → (k.entries ≡ es) × (v.promised ≤ k.promised)
left_is G f v how es q None k m le (inl e) acc size = let p : v.promised ≡ k.promised = ap (λ (x : Kept). x.promised) e in (sym (ap (λ (x : Kept). x.entries) e), omega arith)
left_is G f v how es q None k m le (inr (inl e)) acc size = let p : q ≡ k.promised = ap (λ (x : Kept). x.promised) e in (sym (ap (λ (x : Kept). x.entries) e), omega arith)
left_is G f v how es q None k m le (inr (inr x)) acc size = absurd x
left_is G f v how es q (Some y) k m le (inl e) acc size = let p : v.promised ≡ k.promised = ap (λ (x : Kept). x.promised) e in (sym (ap (λ (x : Kept). x.entries) e), omega arith)
left_is G f v how es q (Some y) k m le (inr (inl e)) acc size = let p : q ≡ k.promised = ap (λ (x : Kept). x.promised) e in (sym (ap (λ (x : Kept). x.entries) e), omega arith)
left_is G f v how es q (Some y) k m le (inr (inr (inl e))) acc size = absurd (m.0 (ap (λ (x : Kept). x.accepted) e ∙ acc) (ap (λ (x : Kept). length x.entries) e ∙ size))
left_is G f v how es q (Some y) k m le (inr (inr (inr x))) acc size = absurd x

-- another: what was under way
next_is : (v : NodeVote) (es : List Entry) (q : ℕ) (y k : Kept) → length es ≡ v.length → (k.accepted ≡ v.accepted → length k.entries ≡ v.length → ⊥) → IsAny k (lasting v.promised v.accepted es q (Some y)) → y ≡ k
next_is v es q y k size other (inl e) = absurd (other (sym (ap (λ (x : Kept). x.accepted) e)) (sym (ap (λ (x : Kept). length x.entries) e) ∙ size))
next_is v es q y k size other (inr (inl e)) = absurd (other (sym (ap (λ (x : Kept). x.accepted) e)) (sym (ap (λ (x : Kept). length x.entries) e) ∙ size))
next_is v es q y k size other (inr (inr (inl e))) = e
next_is v es q y k size other (inr (inr (inr x))) = absurd x

none_is : (v : NodeVote) (es : List Entry) (q : ℕ) (k : Kept) → length es ≡ v.length → (k.accepted ≡ v.accepted → length k.entries ≡ v.length → ⊥) → IsAny k (lasting v.promised v.accepted es q None) → ⊥
none_is v es q k size other (inl e) = other (sym (ap (λ (x : Kept). x.accepted) e)) (sym (ap (λ (x : Kept). length x.entries) e) ∙ size)
none_is v es q k size other (inr (inl e)) = other (sym (ap (λ (x : Kept). x.accepted) e)) (sym (ap (λ (x : Kept). length x.entries) e) ∙ size)
none_is v es q k size other (inr (inr x)) = x

same_kept : (y k : Kept) → y.promised ≡ k.promised → y.accepted ≡ k.accepted → y.entries ≡ k.entries → y ≡ k
same_kept y k p a e = ap (λ x. kept x y.accepted y.entries) p ∙ (ap (λ x. kept k.promised x y.entries) a ∙ ap (λ x. kept k.promised k.accepted x) e)

under_way : (G : Setting) (f : Field) (v : NodeVote) (how : Woken) (es : List Entry) (q : ℕ) (n : Option Kept) (k : Kept) → MayBeNext G f v how n → length es ≡ v.length
    → (k.accepted ≡ v.accepted → length k.entries ≡ v.length → ⊥) → ∥ IsAny k (lasting v.promised v.accepted es q n) ∥₁ → MayWake G f v.node how k
under_way G f v how es q None k m size other any = absurd (∥∥₁_elim any (λ x y. absurd x) (none_is v es q k size other))
under_way G f v how es q (Some y) k m size other any =
    subst (λ x. MayWake G f v.node how x)
    (same_kept y k (∥∥₁_elim any (Coded-set coded_ℕ y.promised k.promised) (λ x. ap (λ (t : Kept). t.promised) (next_is v es q y k size other x)))
    (∥∥₁_elim any (Coded-set coded_ℕ y.accepted k.accepted) (λ x. ap (λ (t : Kept). t.accepted) (next_is v es q y k size other x)))
    (∥∥₁_elim any (Coded-set entries_code y.entries k.entries) (λ x. ap (λ (t : Kept). t.entries) (next_is v es q y k size other x)))) m.1

pub found_may : (G : Setting) (v : NodeVote) (es : List Entry) (a : Knows Event) (o : OverStore) (u : UnderWay) (k : Kept) → IsOwn G (held v es a) → v.up ≡ false → MayReturn G (held v es a) o u
    → ((ks : List Kept) → HoldsAny o ks → ∥ IsAny k ks ∥₁) → MayWake G (field (steps G a.seen)) v.node (how_of v u k.accepted (length k.entries)) k
found_may G v es a o u k own down r found = go (k.accepted == v.accepted && length k.entries == v.length) refl
  where
    any : ∥ IsAny k (lasting v.promised v.accepted es r.promise r.next) ∥₁
    any = found (lasting v.promised v.accepted es r.promise r.next) r.holds

    size : length es ≡ v.length
    size = sized v es a.seen own.node

    go : (b : Bool) → (k.accepted == v.accepted && length k.entries == v.length) ≡ b → MayWake G (field (steps G a.seen)) v.node (cond b woken.AsLeft (woken_of u)) k
    go true t =
        let s = both (k.accepted == v.accepted) (length k.entries == v.length) t in
        let acc : k.accepted ≡ v.accepted = (Decides-eqb k.accepted v.accepted).0 s.0 in
        let long : length k.entries ≡ v.length = (Decides-eqb (length k.entries) v.length).0 s.1 in
        let log : k.entries ≡ es = ∥∥₁_elim any (Coded-set entries_code k.entries es) (λ x. (left_is G (field (steps G a.seen)) v (woken_of u) es r.promise r.next k r.may r.least x acc long).0) in
        let more : v.promised < k.promised + 1 = ltb-true v.promised (k.promised + 1) (∥∥₁_elim any (Coded-set coded_bool (ltb v.promised (k.promised + 1)) true)
        (λ x. lt-ltb v.promised (k.promised + 1) (let le : v.promised ≤ k.promised = (left_is G (field (steps G a.seen)) v (woken_of u) es r.promise r.next k r.may r.least x acc long).1 in omega arith))) in
        subst (λ x. MayWake G (field (steps G a.seen)) v.node woken.AsLeft x) (same_kept (kept k.promised v.accepted es) k refl (sym acc) (sym log))
        (down_as_left G v es k.promised a.seen own.node down r.was_up (omega arith))
    go false t = under_way G (field (steps G a.seen)) v (woken_of u) es r.promise r.next k r.may size (not_same k v t) any

-- a start that is ordered is told, however it comes up
pub told_found : (G : Setting) (seen : List (ℕ × Event)) (i : ℕ) (v : NodeVote) (u : UnderWay) (a l : ℕ) → IsStartOrdered (lines_to_do G) (steps G seen) i → IsStartTold G seen i (how_of v u a l)
told_found G seen i v u a l told = go (a == v.accepted && l == v.length) u
  where
    go : (b : Bool) (u : UnderWay) → IsStartTold G seen i (cond b woken.AsLeft (woken_of u))
    go true u = told
    go false way.Nothing = told
    go false way.Lead = told
    go false way.Take = told
    go false way.Append = told

-- the log that it comes up with is its own
pub kept_woken : (v w : NodeVote) (o q : OverStore) (l : ℕ) → o.is_open ≡ true → o.node ≡ v.node → w ≡ woken_vote v o.promised o.accepted l → q ≡ o → IsKeptBy w q
kept_woken v w o q l up node e same = subst (λ t. IsKeptBy t q) (sym e) (subst (λ t. IsKeptBy (woken_vote v o.promised o.accepted l) t) (sym same) (record { node = node; promised = refl; accepted = refl; is_open = up }))

-- where its store was not opened it is as before
pub kept_still : (v w : NodeVote) (o q r : OverStore) → IsKeptBy v o → v.up ≡ false → q ≡ stopped_from o q.synced q.faults → w ≡ down_vote v → r ≡ q → IsKeptBy w r
kept_still v w o q r k down e fell_so same = subst (λ t. IsKeptBy t r) (sym fell_so) (subst (λ t. IsKeptBy (down_vote v) t) (sym (same ∙ e)) (record { node = k.node; promised = k.promised; accepted = k.accepted; is_open = refl }))

pub shut_up : (v : NodeVote) (o : OverStore) → IsKeptBy v o → v.up ≡ false → o.is_open ≡ false
shut_up v o k down = k.is_open ∙ down

-- whatever its store stood for it stands for
stands_any : (node cluster : ℕ) (old new : List ℕ) → StandsStill node cluster old new → (ks : List Kept) → StandForAny node cluster old ks → ∥ StandForAny node cluster new ks ∥₁
stands_any node cluster old new s [] x = absurd x
stands_any node cluster old new s (k ∷ ks) (inl t) = ∥∥₁_map (s (Log k.promised k.accepted k.entries) t) (λ y. inl y)
stands_any node cluster old new s (k ∷ ks) (inr x) = ∥∥₁_map (stands_any node cluster old new s ks x) (λ y. inr y)

pub read_shut : (o q : OverStore) → q ≡ stopped_from o q.synced q.faults → StandsStill o.node o.cluster o.synced q.synced → StaysShut o q
read_shut o q e s = record {
  same = e;
  holds = λ ks h. subst (λ (x : OverStore). HoldsAny x ks) (sym e) (∥∥₁_elim h ∥∥₁_prop (stands_any o.node o.cluster o.synced q.synced s ks));
}

-- with more room
pub stored_reserved : (G : Setting) (v : NodeVote) (es : List Entry) (a b : Knows Event) (o : OverStore) (u : UnderWay) → IsStored G (held v es a) o u → b.number ≡ a.number → b.seen ≡ a.seen → IsStored G (held v es b) o u
stored_reserved G v es a b o u s n e =
    stored_rests G v v es es a b o o u u s (record { node = subst (λ t. IsNode G v es t) (sym e) s.own.node; number_is = s.own.number_is ∙ sym n }) refl refl refl refl (rests_same a.seen b.seen e)

-- memory was wanted when its store was opened
pub stored_still : (G : Setting) (v : NodeVote) (es : List Entry) (a : Knows Event) (o q : OverStore) (u : UnderWay) → IsStored G (held v es a) o u → v.up ≡ false → es ≡ o.entries → StaysShut o q → IsStored G (held v q.entries a) q u
stored_still G v es a o q u s down of_log shut =
    subst (λ xs. IsStored G (held v xs a) q u) (of_log ∙ sym (ap (λ (x : OverStore). x.entries) shut.same)) (record {
      own = s.own;
      over = kept_still v v o q q s.over down shut.same (ap (λ b. record v { up = b }) down) refl;
      down = λ d was. (let r : MayReturn G (held v es a) o u = s.down down was in record {
        was_up = r.was_up;
        promise = r.promise;
        least = r.least;
        next = r.next;
        holds = shut.holds (lasting v.promised v.accepted es r.promise r.next) r.holds;
        may = r.may;
      });
    })

-- a call of its store failed there
fell_still : (G : Setting) (v : NodeVote) (a b : Knows Event) → v.node ≡ a.number → Adds a.number (event.Down true) a.seen b.seen → AreLegalSteps G b.seen → ((world G b.seen).nodes v.node).was_up ≡ ((world G a.seen).nodes v.node).was_up
fell_still G v a b n d legal = ap (λ (o : Own KeptEntry). o.was_up) (own_adds G v.node (event.Down true) NodeEvent.Down a.seen b.seen refl tt (subst (λ t. Adds t (event.Down true) a.seen b.seen) (sym n) d) legal)

pub stored_again : (G : Setting) (v w : NodeVote) (es : List Entry) (a b : Knows Event) (o q : OverStore) (u z : UnderWay) → IsStored G (held v o.entries a) o u → v.up ≡ false → Adds a.number (event.Down true) a.seen b.seen
    → IsOwn G (held w es b) → w ≡ down_vote v → es ≡ o.entries → q ≡ o → z ≡ u → IsStored G (held w es b) q z
stored_again G v w es a b o q u z s down d after fell_so se same su = record {
  own = after;
  over = kept_still v w o o q s.over down (ap (λ t. record o { is_open = t }) (shut_up v o s.over down)) fell_so same;
  down = λ still was. returns_again G v w o.entries es a b o q u z s.own down d after fell_so se su (λ ks h. subst (λ (x : OverStore). HoldsAny x ks) (sym same) h)
      (s.down down (sym (fell_still G v a b s.own.number_is d after.node.legal) ∙ (ap (λ (t : NodeVote). ((world G b.seen).nodes t.node).was_up) (sym fell_so) ∙ was)));
}

-- what its store holds it comes up with, for the first time
first_may : (G : Setting) (h : Held) (o q : OverStore) (how : Woken) → MayBeFirst G h o how → IsFoundIn o q → MayWake G (field (steps G h.actor.seen)) h.vote.node how (kept_by q)
first_may G h o q how f found = subst (λ k. MayWake G (field (steps G h.actor.seen)) h.vote.node how k) same f.may
  where
    any : ∥ IsAny (kept_by q) (f.found ∷ []) ∥₁
    any = found (f.found ∷ []) f.holds

    one : IsAny (kept_by q) (f.found ∷ []) → f.found ≡ kept_by q
    one (inl e) = e
    one (inr x) = absurd x

    same : f.found ≡ kept_by q
    same =
        same_kept f.found (kept_by q) (∥∥₁_elim any (Coded-set coded_ℕ f.found.promised q.promised) (λ x. ap (λ (t : Kept). t.promised) (one x)))
        (∥∥₁_elim any (Coded-set coded_ℕ f.found.accepted q.accepted) (λ x. ap (λ (t : Kept). t.accepted) (one x)))
        (∥∥₁_elim any (Coded-set entries_code f.found.entries q.entries) (λ x. ap (λ (t : Kept). t.entries) (one x)))

pub may_start_first : (G : Setting) (h : Held) (o : OverStore) (u : UnderWay) (rows : Snapshot Rows) → MayBeFirst G h o (woken.First rows) → IsStartTold G h.actor.seen h.vote.node (woken.First rows) → MayStart G h o u (Some rows)
may_start_first G h o u rows first told = record {
  some = first.found ∷ [];
  holds = first.holds;
  may = λ q found. first_may G h o q (woken.First rows) first found;
  told = λ k. told;
}

-- and once more
pub may_start_again : (G : Setting) (h : Held) (o : OverStore) (u : UnderWay) → IsStored G h o u → h.vote.up ≡ false → ((world G h.actor.seen).nodes h.vote.node).was_up ≡ true → IsStartOrdered (lines_to_do G) (steps G h.actor.seen) h.vote.node
    → MayStart G h o u None
may_start_again G h o u s down was told =
    let r = s.down down was in
    record {
      some = lasting h.vote.promised h.vote.accepted h.entries r.promise r.next;
      holds = r.holds;
      may = λ q found. found_may G h.vote h.entries h.actor o u (kept_by q) s.own down r found;
      told = λ k. told_found G h.actor.seen h.vote.node h.vote u k.accepted (length k.entries) told;
    }

-- it comes up in one way
pub comes_up : (s : Started) (how : Woken) (old new : Stored) → IsStartedSo s how old new → IsStarted s (held_of old) (held_of new)
comes_up started.Up how old new x = ((how, kept_by new.over, x.0), x.1)
comes_up started.Fault how old new x = x

-- it came up after it made room
pub wakes_behind : (how : Woken) (k : Kept) (old mid new : Held) → IsAsBefore old mid → Wakes how k mid new → Wakes how k old new
wakes_behind how k old mid new a w = record { event = w.event; up = w.up; did = did_before (w.event ∷ []) old mid new a w.did; vote = w.vote ∙ ap (λ v. woken_vote v k.promised k.accepted (length k.entries)) a.vote; entries = w.entries }

-- why a store that holds something was not opened
pub excused_rose : (w : OpenFault) (read : Option ℕ) (before now : ℕ) → w ≡ fault.StoreFault read → Excuses w before now → Rose before now
excused_rose w read before now e x = subst (λ t. Excuses t before now) e x

pub excused_calm : (w : OpenFault) (before now : ℕ) → w ≡ fault.NoMemory → Excuses w before now → now ≡ before
excused_calm w before now e x = subst (λ t. Excuses t before now) e x

-- why it was not read
pub unread_as : (w u : WhyUnread) (node cluster : ℕ) (bytes : List ℕ) (before now : ℕ) → w ≡ u → IsWhyUnread w node cluster bytes before now → IsWhyUnread u node cluster bytes before now
unread_as w u node cluster bytes before now e x = subst (λ t. IsWhyUnread t node cluster bytes before now) e x

-- the node whose store was not opened is the history's still
pub own_shut : (G : Setting) (v : NodeVote) (o q : OverStore) (a : Knows Event) → StaysShut o q → IsOwn G (held v o.entries a) → IsOwn G (held v q.entries a)
own_shut G v o q a shut own = subst (λ es. IsOwn G (held v es a)) (sym (ap (λ (x : OverStore). x.entries) shut.same)) own

pub own_reserved : (G : Setting) (v : NodeVote) (es : List Entry) (a b : Knows Event) → b.number ≡ a.number → b.seen ≡ a.seen → IsOwn G (held v es a) → IsOwn G (held v es b)
own_reserved G v es a b n e own = record { node = subst (λ t. IsNode G v es t) (sym e) own.node; number_is = own.number_is ∙ sym n }

-- memory was wanted
pub unopened_none : (v : NodeVote) (a b : Knows Event) (o : OverStore) → b.number ≡ a.number → b.made ≡ a.made → b.seen ≡ a.seen → a.room ≤ b.room → IsUnopened (held v o.entries a) (held v o.entries b) o o
unopened_none v a b o n m s r = record { same = as_reserved (held v o.entries a) (held v o.entries b) refl refl n m s r; holds = λ ks h. h; calm = (refl, refl) }

pub unopened_shut : (v : NodeVote) (a b : Knows Event) (o q : OverStore) → b.number ≡ a.number → b.made ≡ a.made → b.seen ≡ a.seen → a.room ≤ b.room → StaysShut o q → IsCalm o q → IsUnopened (held v o.entries a) (held v q.entries b) o q
unopened_shut v a b o q n m s r shut calm = record {
  same = as_reserved (held v o.entries a) (held v q.entries b) refl (ap (λ (x : OverStore). x.entries) shut.same) n m s r;
  holds = shut.holds;
  calm = calm;
}

-- how it comes up, by what was read off
pub may_as : (G : Setting) (i : ℕ) (seen old : List (ℕ × Event)) (how by : Woken) (k : Kept) → how ≡ by → seen ≡ old → MayWake G (field (steps G old)) i by k → MayWake G (field (steps G seen)) i how k
may_as G i seen old how by k e s m = subst (λ h. MayWake G (field (steps G seen)) i h k) (sym e) (subst (λ t. MayWake G (field (steps G t)) i by k) (sym s) m)

pub told_as : (G : Setting) (i : ℕ) (seen old : List (ℕ × Event)) (how by : Woken) → how ≡ by → seen ≡ old → IsStartTold G old i by → IsStartTold G seen i how
told_as G i seen old how by e s told = subst (λ h. IsStartTold G seen i h) (sym e) (subst (λ t. IsStartTold G t i by) (sym s) told)

-- it came up with what its log has
pub wakes_so : (first : Option (Snapshot Rows)) (v : NodeVote) (u : UnderWay) (how : Woken) (o q : OverStore) (old mid new : Held) → how ≡ how_by first v u (kept_by o) → q ≡ o → IsAsBefore old mid → Wakes how (kept_by o) mid new
    → Wakes (how_by first v u (kept_by q)) (kept_by q) old new
wakes_so first v u how o q old mid new is e a w =
    subst (λ (x : OverStore). Wakes (how_by first v u (kept_by x)) (kept_by x) old new) (sym e) (subst (λ h. Wakes h (kept_by o) old new) is (wakes_behind how (kept_by o) old mid new a w))

-- what came of opening it
pub tried_up : (s : Started) (o q : OverStore) → s ≡ started.Up → IsTried s o q → WasOpened o q
tried_up s o q e t = subst (λ x. IsTried x o q) e t

pub tried_fault : (s : Started) (o q : OverStore) → s ≡ started.Fault → IsTried s o q → StaysShut o q × Rose o.faults q.faults
tried_fault s o q e t = subst (λ x. IsTried x o q) e t

-- it comes up with what its log has
pub may_read : (G : Setting) (f : Field) (i : ℕ) (how : Woken) (o : OverStore) (p a : ℕ) (es : List Entry) → p ≡ o.promised → a ≡ o.accepted → es ≡ o.entries → MayWake G f i how (kept_by o) → MayWake G f i how (kept p a es)
may_read G f i how o p a es ep ea ee m = subst (λ k. MayWake G f i how k) (sym (same_kept (kept p a es) (kept_by o) ep ea ee)) m

woken_read : (v : NodeVote) (o : OverStore) (p a l k : ℕ) → p ≡ o.promised → a ≡ o.accepted → l ≡ k → woken_vote v p a l ≡ woken_vote v o.promised o.accepted k
woken_read v o p a l k ep ea el = ap (λ x. woken_vote v x a l) ep ∙ (ap (λ x. woken_vote v o.promised x l) ea ∙ ap (λ x. woken_vote v o.promised o.accepted x) el)

pub kept_risen : (v w u : NodeVote) (o q : OverStore) (p a l : ℕ) → o.is_open ≡ true → o.node ≡ v.node → w ≡ u → u ≡ woken_vote v p a l → p ≡ o.promised → a ≡ o.accepted → q ≡ o → IsKeptBy w q
kept_risen v w u o q p a l up node e f ep ea same = kept_woken v w o q l up node (e ∙ (f ∙ woken_read v o p a l l ep ea refl)) same

pub risen : (how : Woken) (p a l : ℕ) (es : Snapshot (List Entry)) (o : OverStore) (v u : NodeVote) (was xs : List Entry) (k : Knows Event) (new : Held) → p ≡ o.promised → a ≡ o.accepted → es.value ≡ o.entries → l ≡ length o.entries
    → Did (event.Up how p a es ∷ []) (held v xs k) new → new.vote ≡ u → u ≡ woken_vote v p a l → new.entries ≡ o.entries → Wakes how (kept_by o) (held v was k) new
risen how p a l es o v u was xs k new ep ea ee el d n f e = record {
  event = event.Up how p a es;
  up = (refl, ep, ea, ee);
  did = record { number = d.number; made = d.made; more = d.more; room = d.room };
  vote = n ∙ (f ∙ woken_read v o p a l (length o.entries) ep ea el);
  entries = e;
}
