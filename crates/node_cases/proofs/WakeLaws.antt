-- A node of a case comes up: for the first time, and once more where the operator ordered that.
use Rattle.std.proofs.Common.{ℕ, suc, ◌≡◌, ◌+◌, ◌≤◌, List, [], ◌∷◌, ◌++◌, length, length-append, arith, refl, sym, subst, ap, ◌∙◌}
use Rattle.std.specs.Prelude.{◌==◌, Bool, true, false, cond, Option, None, Some, IfSome}
use Rattle.std.specs.declared.snapshot.Snapshot.{Snapshot}
use mathlib.Core.Logic.{inl}
use Rattle.actor_trace.specs.History.{entries_of}
use Rattle.actor_trace.specs.Lists.{Begins}
use Rattle.actor_trace.proofs.Entries.{entries_more, idle_step, not_eq}
use Rattle.cdb_values.specs.Rows.{Rows}
use Rattle.cluster_events.specs.Operator.{Count, IsStartOrdered, Ordered, count_of, turn_counted, duty, new_orders, orders, turn}
use Rattle.cluster_events.specs.Parts.{ActorEvent, field}
use Rattle.cluster_events.specs.Settings.{Setting, lines_to_do}
use Rattle.cluster_events.proofs.LineLists.{append_assoc, in_append}
use Rattle.cluster_steps.specs.Named.{named, steps, world}
use Rattle.cluster_steps.specs.declared.events.Event.{Event}
use Rattle.cluster_steps.specs.declared.events.Event.TheVariants as event
use Rattle.cluster_steps.specs.declared.events.Woken.TheVariants as woken
use Rattle.cluster_steps.proofs.OwnLaws.{tells_begins}
use Rattle.core_lists.specs.Lists.{Has, In}
use Rattle.script_form.specs.declared.scripts.Act.{Act}
use Rattle.script_form.specs.declared.scripts.Act.TheVariants as act
use Rattle.script_form.specs.declared.scripts.BodyLine.{BodyLine}
use Rattle.node_state.specs.Calls.{IsAsBefore}
use Rattle.node_state.specs.Nodes.{Held, IsOwn, events_of}
use Rattle.node_state.specs.Restarts.{IsStartTold, IsStopTold, kept}
use Rattle.node_state.specs.Stores.{MayBeFirst}
use Rattle.node_reading.specs.Reading.{WasRead}
use Rattle.kept_log.specs.Kept.{HoldsAny, OverStore, stopped_from, unread_over}
use Rattle.node_state.proofs.CallLaws.{begins_on}
use Rattle.node_state.proofs.FirstLaws.{first_wakes, never_up, told_up}
use Rattle.node_state.proofs.LogLists.{none_behind}
use Rattle.node_cases.specs.Offices.{IsDoneAt, IsDoneIn, IsOrdered, duty_in}
use Rattle.node_cases.specs.Plans.{act_in}
use Rattle.node_cases.specs.declared.orders.Order.{Order}
use Rattle.node_cases.specs.Seats.{IsBlank, IsUpBy, WasUp}
use Rattle.node_cases.proofs.SeatLaws.{was_heard}
use Rattle.election_core.specs.declared.votes.NodeVote.{NodeVote}

-- a node that did nothing, and hears more, did nothing
no_events : (xs : List (ℕ × Event)) → events_of xs ≡ [] → xs ≡ []
no_events [] e = refl
no_events (x ∷ xs) e = absurd (let q : suc (length (events_of xs)) ≡ 0 = ap (λ t. length t) e in omega arith)

pub still_new : (old new : Held) → old.actor.made ≡ [] → IsAsBefore old new → new.actor.made ≡ []
still_new old new none b = no_events new.actor.made (b.did.made ∙ ap (λ xs. events_of xs ++ []) none)

-- a log that was read is stopped as before
pub is_blank : (node cluster : ℕ) (synced : List ℕ) (faults : ℕ) (old new : OverStore) (rows : Snapshot Rows) → old ≡ unread_over node cluster synced faults
    → new ≡ stopped_from old new.synced new.faults → WasRead old new 0 0 rows.value → IsBlank node rows new
is_blank node cluster synced faults old new rows is same read =
    let e : new ≡ stopped_from (unread_over node cluster synced faults) new.synced new.faults = same ∙ ap (λ (o : OverStore). stopped_from o new.synced new.faults) is in
    record {
      log = record {
        node = ap (λ (o : OverStore). o.node) e;
        promised = ap (λ (o : OverStore). o.promised) e;
        accepted = ap (λ (o : OverStore). o.accepted) e;
        is_open = ap (λ (o : OverStore). o.is_open) e;
      };
      empty = ap (λ (o : OverStore). o.entries) e;
      was = old;
      read = read;
    }

-- and its rows are those that were found
pub rows_were : (old new : OverStore) (promised accepted : ℕ) (state : Rows) (told : Option (Snapshot Rows)) → WasRead old new promised accepted state → IfSome told (λ rows. promised ≡ 0)
    → IfSome told (λ rows. accepted ≡ 0) → IfSome told (λ rows. rows.value ≡ state) → IfSome told (λ rows. WasRead old new 0 0 rows.value)
rows_were old new promised accepted state None read low high is = tt
rows_were old new promised accepted state (Some rows) read low high is =
    subst (λ r. WasRead old new 0 0 r) (sym is) (subst (λ k. WasRead old new 0 k state) high (subst (λ k. WasRead old new k accepted state) low read))

-- and may come up over an empty store that is admitted
nothing_by : (G : Setting) (h : Held) → IsOwn G h → h.actor.made ≡ entries_of h.actor.number h.actor.seen → h.actor.made ≡ [] → entries_of h.vote.node h.actor.seen ≡ []
nothing_by G h own made none = ap (λ i. entries_of i h.actor.seen) own.number_is ∙ (sym made ∙ none)

pub first_may : (G : Setting) (h : Held) (o p : OverStore) (rows : Snapshot Rows) (note : List (ℕ × Event)) (node : ℕ) → h.vote.node ≡ node → IsOwn G h
    → h.actor.made ≡ entries_of h.actor.number h.actor.seen → h.actor.made ≡ [] → IsBlank node rows o → p ≡ o → Begins note h.actor.seen
    → In (record { node = node; promised = 0; accepted = 0 }) (world G note).admits → MayBeFirst G h p (woken.First rows)
first_may G h o p rows note node same own made none blank over heard admitted =
    let nothing = nothing_by G h own made none in
    let never = never_up G h.vote.node h.actor.seen nothing in
    let there = (tells_begins G note h.actor.seen heard).admits _ (subst (λ k. In (record { node = k; promised = 0; accepted = 0 }) (world G note).admits) (sym same) admitted) in
    record {
      found = kept 0 0 blank.read.entries;
      holds = subst (λ q. HoldsAny q (kept 0 0 blank.read.entries ∷ [])) (sym over) blank.read.holds;
      may = first_wakes G (field (steps G h.actor.seen)) h.vote.node rows (kept 0 0 blank.read.entries) own.node.low own.node.high never.0 never.1 there blank.read.may;
    }

pub first_told : (G : Setting) (h : Held) (rows : Snapshot Rows) → IsOwn G h → h.actor.made ≡ entries_of h.actor.number h.actor.seen → h.actor.made ≡ []
    → IsStartTold G h.actor.seen h.vote.node (woken.First rows)
first_told G h rows own made none = inl (told_up G h.vote.node h.actor.seen (nothing_by G h own made none))

-- an actor that did as many events did no more
longer : {A : Type 0} (xs : List A) (x : A) → length (xs ++ x ∷ []) ≡ length xs + 1
longer xs x = length-append xs (x ∷ [])

pub idle_length : (i : ℕ) (later h : List (ℕ × Event)) → length (entries_of i (later ++ h)) ≡ length (entries_of i h) → entries_of i (later ++ h) ≡ entries_of i h
idle_length i [] h e = refl
idle_length i (x ∷ later) h e = go (i == x.0) e (idle_length i later h)
  where
    all : List (ℕ × Event)
    all = later ++ h

    go : (t : Bool) → length (cond t (entries_of i all ++ (length all, x.1) ∷ []) (entries_of i all)) ≡ length (entries_of i h)
        → (length (entries_of i all) ≡ length (entries_of i h) → entries_of i all ≡ entries_of i h)
        → cond t (entries_of i all ++ (length all, x.1) ∷ []) (entries_of i all) ≡ entries_of i h
    go true d r = absurd (
        let m : length (entries_of i h) ≤ length (entries_of i all) = entries_more i later h in
        let l : length (entries_of i all ++ (length all, x.1) ∷ []) ≡ length (entries_of i all) + 1 = longer (entries_of i all) (length all, x.1) in
        let q : length (entries_of i all ++ (length all, x.1) ∷ []) ≡ length (entries_of i h) = d in
        omega arith)
    go false d r = r d

-- between two places at which an actor did the same it did nothing
pub idle_between : (i : ℕ) (later mid h : List (ℕ × Event)) → entries_of i (later ++ (mid ++ h)) ≡ entries_of i h → entries_of i (mid ++ h) ≡ entries_of i h
idle_between i [] mid h e = e
idle_between i (x ∷ later) mid h e =
    idle_between i later mid h
    (ap (λ t. entries_of i t) (sym (append_assoc later mid h))
    ∙ (idle_step i x (later ++ mid) h (ap (λ t. entries_of i (x ∷ t)) (append_assoc later mid h) ∙ e)).1)

pub squeezed : (i : ℕ) (a b c : List (ℕ × Event)) → Begins a b → Begins b c → entries_of i a ≡ entries_of i c → entries_of i b ≡ entries_of i a
squeezed i a b c ab bc same =
    let whole : bc.later ++ (ab.later ++ a) ≡ c = ap (λ t. bc.later ++ t) ab.whole ∙ bc.whole in
    ap (λ t. entries_of i t) (sym ab.whole) ∙ idle_between i bc.later ab.later a (ap (λ t. entries_of i t) whole ∙ sym same)

-- how often a node fell by what others did since
idle_count : (i j : ℕ) (e : ActorEvent) (g : List (ℕ × ActorEvent)) → (i == j) ≡ false → count_of i ((j, e) ∷ g) ≡ count_of i g
idle_count i j e g ne = ap (λ b. cond b (turn_counted (count_of i g) (turn e)) (count_of i g)) ne

count_idle : (G : Setting) (i : ℕ) (later h : List (ℕ × Event)) → entries_of i (later ++ h) ≡ entries_of i h → count_of i (steps G (later ++ h)) ≡ count_of i (steps G h)
count_idle G i [] h own = refl
count_idle G i (x ∷ later) h own =
    let s = idle_step i x later h own in
    let g = steps G (later ++ h) in
    idle_count i x.0 (named G g x.0 x.1) g (not_eq i x.0 s.0) ∙ count_idle G i later h s.1

-- what is ordered stays ordered
has_more : (P : Ordered → Type 0) (G : Setting) (body : List BodyLine) (later h : List (ℕ × Event)) → Has P (orders body (steps G h)) → Has P (orders body (steps G (later ++ h)))
has_more P G body [] h x = x
has_more P G body (y ∷ later) h x =
    let r = has_more P G body later h x in
    record { it = r.it; mem = in_append (new_orders (steps G (later ++ h)) (named G (steps G (later ++ h)) y.0 y.1) (duty body (steps G (later ++ h))).left) (orders body (steps G (later ++ h))) r.mem; is = r.is }

ordered_now : (g : List (ℕ × ActorEvent)) (xs : List (ℕ × Act)) (starts : Bool) (node line : ℕ) (rest : List (ℕ × Act)) (more : List Ordered) → xs ≡ (line, act_in starts node) ∷ rest
    → Has (λ o. (o.act ≡ act_in starts node) × (o.ups ≡ (count_of node g).ups) × (o.falls ≡ (count_of node g).falls)) (new_orders g ActorEvent.Order xs ++ more)
ordered_now g xs true node line rest more next =
    subst (λ ys. Has (λ o. (o.act ≡ act.Start node) × (o.ups ≡ (count_of node g).ups) × (o.falls ≡ (count_of node g).falls)) (new_orders g ActorEvent.Order ys ++ more)) (sym next)
    (record { it = record { line = line; act = act.Start node; ups = (count_of node g).ups; falls = (count_of node g).falls }; mem = In.here; is = (refl, refl, refl) })
ordered_now g xs false node line rest more next =
    subst (λ ys. Has (λ o. (o.act ≡ act.Stop node) × (o.ups ≡ (count_of node g).ups) × (o.falls ≡ (count_of node g).falls)) (new_orders g ActorEvent.Order ys ++ more)) (sym next)
    (record { it = record { line = line; act = act.Stop node; ups = (count_of node g).ups; falls = (count_of node g).falls }; mem = In.here; is = (refl, refl, refl) })

tail_same : {x y : Event} {xs ys : List Event} → x ∷ xs ≡ y ∷ ys → xs ≡ ys
tail_same e = cc

same_size : (xs ys : List (ℕ × Event)) → events_of ys ≡ events_of xs → length xs ≡ length ys
same_size [] [] e = refl
same_size [] (y ∷ ys) e = absurd (let q : suc (length (events_of ys)) ≡ 0 = ap (λ t. length t) e in omega arith)
same_size (x ∷ xs) [] e = absurd (let q : 0 ≡ suc (length (events_of xs)) = ap (λ t. length t) e in omega arith)
same_size (x ∷ xs) (y ∷ ys) e = ap suc (same_size xs ys (let t : y.1 ∷ events_of ys ≡ x.1 ∷ events_of xs = e in tail_same t))

-- what is ordered of a node that did nothing since it was heard of, it may do
abbrev pub IsToldTo : Setting → Bool → ℕ → List (ℕ × Event) → Type 0
IsToldTo G starts i seen = Has (λ o. (o.act ≡ act_in starts i) × (o.ups ≡ (count_of i (steps G seen)).ups) × (o.falls ≡ (count_of i (steps G seen)).falls)) (orders (lines_to_do G) (steps G seen))

told_to : (G : Setting) (order : Order) (old new : Held) (told : List (ℕ × Event)) → IsOwn G new → old.actor.made ≡ entries_of old.actor.number old.actor.seen
    → new.actor.made ≡ entries_of new.actor.number new.actor.seen → IsAsBefore old new → order.node ≡ old.actor.number → IsOrdered G order old.actor.seen told → Begins told new.actor.seen
    → IsToldTo G order.starts new.vote.node new.actor.seen
told_to G order old new told own was made b its ordered heard =
    let i = old.actor.number in
    let more = b.did.more in
    let sizes : length old.actor.made ≡ length new.actor.made = same_size old.actor.made new.actor.made (b.did.made ∙ none_behind (events_of old.actor.made)) in
    let counts : length (entries_of i (more.later ++ old.actor.seen)) ≡ length (entries_of i old.actor.seen) =
    ap (λ t. length (entries_of i t)) more.whole ∙ (ap (λ k. length (entries_of k new.actor.seen)) (sym b.did.number) ∙ (ap length (sym made) ∙ (sym sizes ∙ ap length was))) in
    let idle : entries_of i old.actor.seen ≡ entries_of i new.actor.seen = sym (ap (λ t. entries_of i t) (sym more.whole) ∙ idle_length i more.later old.actor.seen counts) in
    let into = begins_on ordered.into heard in
    let at : Begins ordered.before new.actor.seen = begins_on (record { later = (0, event.Order) ∷ []; whole = refl }) into in
    let still = squeezed i old.actor.seen ordered.before new.actor.seen ordered.from at idle in
    let same : count_of i (steps G new.actor.seen) ≡ count_of i (steps G ordered.before) =
    ap (λ t. count_of i (steps G t)) (sym at.whole) ∙ count_idle G i at.later ordered.before (ap (λ t. entries_of i t) at.whole ∙ (sym idle ∙ sym still)) in
    let next = ordered.next ∙ ap (λ k. (ordered.line, act_in order.starts k) ∷ ordered.rest) its in
    let now = ordered_now (steps G ordered.before) (duty_in G ordered.before).left order.starts i ordered.line ordered.rest (orders (lines_to_do G) (steps G ordered.before)) next in
    let later = has_more _ G (lines_to_do G) into.later ((0, event.Order) ∷ ordered.before) now in
    let there = subst (λ t. Has (λ o. (o.act ≡ act_in order.starts i) × (o.ups ≡ (count_of i (steps G ordered.before)).ups) × (o.falls ≡ (count_of i (steps G ordered.before)).falls))
    (orders (lines_to_do G) (steps G t))) into.whole later in
    subst (λ k. IsToldTo G order.starts k new.actor.seen) (sym b.did.number ∙ sym own.number_is)
    (record { it = there.it; mem = there.mem; is = (there.is.0, there.is.1 ∙ ap (λ (c : Count). c.ups) (sym same), there.is.2 ∙ ap (λ (c : Count). c.falls) (sym same)) })

pub start_told : (G : Setting) (order : Order) (old new : Held) (told : List (ℕ × Event)) → IsOwn G new → old.actor.made ≡ entries_of old.actor.number old.actor.seen
    → new.actor.made ≡ entries_of new.actor.number new.actor.seen → IsAsBefore old new → order.starts ≡ true → order.node ≡ old.actor.number → IsOrdered G order old.actor.seen told
    → Begins told new.actor.seen → IsStartOrdered (lines_to_do G) (steps G new.actor.seen) new.vote.node
start_told G order old new told own was made b starts its ordered heard =
    let t = subst (λ s. IsToldTo G s new.vote.node new.actor.seen) starts (told_to G order old new told own was made b its ordered heard) in
    record { it = t.it; mem = t.mem; is = (t.is.0, t.is.2) }

pub stop_told : (G : Setting) (order : Order) (old new : Held) (told : List (ℕ × Event)) → IsOwn G new → old.actor.made ≡ entries_of old.actor.number old.actor.seen
    → new.actor.made ≡ entries_of new.actor.number new.actor.seen → IsAsBefore old new → order.starts ≡ false → order.node ≡ old.actor.number → IsOrdered G order old.actor.seen told
    → Begins told new.actor.seen → IsStopTold G new.actor.seen new.vote.node
stop_told G order old new told own was made b stops its ordered heard =
    let t = subst (λ s. IsToldTo G s new.vote.node new.actor.seen) stops (told_to G order old new told own was made b its ordered heard) in
    inl (record { it = t.it; mem = t.mem; is = (t.is.0, t.is.1) })

-- what is ordered is done, by what is heard of its node then
pub done_at : (G : Setting) (o : Order) (v : NodeVote) (heard note told : List (ℕ × Event)) → o.node ≡ v.node → v.up ≡ o.starts → IsUpBy G v told → WasUp G o.node heard → IsOrdered G o heard note → Begins note told
    → IsDoneAt G o told
done_at G o v heard note told its moved up was ordered on = go o.starts moved
  where
    here : ((world G told).nodes o.node).up ≡ v.up
    here = subst (λ k. ((world G told).nodes k).up ≡ v.up) (sym its) up

    go : (b : Bool) → v.up ≡ b → IsDoneIn G b o.node told
    go true e = here ∙ e
    go false e =
        (here ∙ e, was_heard G o.node heard told (begins_on ordered.from (begins_on (record { later = (0, event.Order) ∷ []; whole = refl }) (begins_on ordered.into on))) was)
