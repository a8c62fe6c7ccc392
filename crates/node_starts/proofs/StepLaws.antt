-- One node has its turn: what each of its steps leaves.
use Rattle.std.proofs.Common.{◌≡◌, ◌⊎◌, inl, inr, ℕ, ◌+◌, ◌≤◌, Bool, true, List, [], ◌∷◌, ◌++◌, length, refl, sym, subst, ap, ◌∙◌, arith}
use Rattle.actor_trace.specs.Actors.{Knows}
use Rattle.actor_trace.specs.History.{entries_of}
use Rattle.actor_trace.specs.Lists.{Begins}
use Rattle.actor_trace.specs.Steps.{Rests}
use Rattle.cluster_events.specs.Parts.{field}
use Rattle.cluster_events.specs.Settings.{Setting}
use Rattle.cluster_steps.specs.Guards.{AreLegalSteps}
use Rattle.cluster_steps.specs.Named.{steps, world}
use Rattle.cluster_steps.specs.declared.events.Event.{Event}
use Rattle.cluster_steps.specs.declared.events.Event.TheVariants as event
use Rattle.cluster_steps.specs.declared.events.Woken.TheVariants as woken
use Rattle.core_lists.specs.Lists.{In}
use Rattle.election_core.specs.declared.votes.NodeVote.{NodeVote}
use Rattle.kept_log.specs.Kept.{OverStore, kept, kept_by}
use Rattle.node_state.specs.Calls.{Falls, IsAsBefore}
use Rattle.node_state.specs.Nodes.{Held, IsOwn, events_of}
use Rattle.node_state.specs.Restarts.{IsStartTold, IsUp, woken_vote}
use Rattle.node_state.specs.Stores.{IsStartedSo, IsUnopened, MayBeFirst, OpensStore, Stored, held_of}
use Rattle.node_state.specs.declared.steps.Started.TheVariants as started
use Rattle.node_state.proofs.CallLaws.{before_then, begins_rests, did_before, did_behind, fallen_behind}
use Rattle.node_state.proofs.FirstLaws.{first_wakes, never_up, told_up}
use Rattle.node_openings.specs.declared.found.ReadLog.{ReadLog}
use Rattle.node_starts.specs.Admits.{admission}
use Rattle.node_starts.specs.News.{IsNew, IsToStart}
use Rattle.node_starts.specs.Starts.{ComesUp, GoesDown, KeepsStore, LearnsMore}
use Rattle.node_starts.specs.Turns.{Informs, Learns}

pub learns_nothing : (G : Setting) (o : Knows Event) → AreLegalSteps G o.seen → LearnsMore G o o
learns_nothing G o legal = record { number = refl; made = refl; room = refl; rests = record { between = []; whole = refl; none = refl }; legal = legal }

rests_on : (i j : ℕ) (old mid new : List (ℕ × Event)) → j ≡ i → Rests i old mid → Rests j mid new → Rests i old new
rests_on i j old mid new same a b =
    let c : Rests i mid new = subst (λ k. Rests k mid new) same b in
    record { between = c.between ++ a.between; whole = whole c; none = none c }
  where
    joined : (xs ys zs : List (ℕ × Event)) → (xs ++ ys) ++ zs ≡ xs ++ (ys ++ zs)
    joined [] ys zs = refl
    joined (x ∷ xs) ys zs = ap (λ l. x ∷ l) (joined xs ys zs)

    whole : (c : Rests i mid new) → new ≡ (c.between ++ a.between) ++ old
    whole c = c.whole ∙ (ap (λ l. c.between ++ l) a.whole ∙ sym (joined c.between a.between old))

    none : (c : Rests i mid new) → entries_of i ((c.between ++ a.between) ++ old) ≡ entries_of i old
    none c =
        ap (entries_of i) (joined c.between a.between old)
        ∙ (ap (λ l. entries_of i (c.between ++ l)) (sym a.whole)
        ∙ (c.none ∙ (ap (entries_of i) a.whole ∙ a.none)))

pub learns_on : (G : Setting) (old mid new : Knows Event) → LearnsMore G old mid → LearnsMore G mid new → LearnsMore G old new
learns_on G old mid new a b = record {
  number = b.number ∙ a.number;
  made = b.made ∙ a.made;
  room = b.room ∙ a.room;
  rests = rests_on old.number mid.number old.seen mid.seen new.seen a.number a.rests b.rests;
  legal = b.legal;
}

pub learns_begins : (G : Setting) (old new : Knows Event) → LearnsMore G old new → Begins old.seen new.seen
learns_begins G old new a = begins_rests a.rests

-- the operator notes what it knows, and the node hears that
pub informs : (G : Setting) (o told : Knows Event) (n m : Stored) (note : List (ℕ × Event)) → told.number ≡ o.number → told.made ≡ o.made → told.room ≡ o.room → Rests o.number o.seen told.seen → AreLegalSteps G told.seen → note ≡ told.seen
    → IsAsBefore (held_of n) (held_of m) → m.over ≡ n.over → Begins note m.actor.seen → o.made ≡ entries_of o.number o.seen → IsOwn G (held_of m) → m.actor.made ≡ entries_of m.actor.number m.actor.seen → Informs G o n told m
informs G o told n m note number done room rests legal is same over heard was own made = record {
  same = same;
  over = over;
  learned = record { number = number; made = done; room = room; rests = rests; legal = legal };
  knows = subst (λ l. Begins l m.actor.seen) is heard;
  was = was;
  own = own;
  made = made;
}

-- the node notes what it did, and the operator meets that
pub met : (G : Setting) (o now : Knows Event) (n m : Stored) (note : List (ℕ × Event)) → now.number ≡ o.number → now.made ≡ o.made → now.room ≡ o.room → Rests o.number o.seen now.seen → AreLegalSteps G now.seen → note ≡ m.actor.seen
    → IsAsBefore (held_of n) (held_of m) → m.over ≡ n.over → Begins note now.seen → m.actor.made ≡ entries_of m.actor.number m.actor.seen → now.made ≡ entries_of now.number now.seen → Learns G o n now m
met G o now n m note number done room rests legal is same over heard made own = record {
  same = same;
  over = over;
  learned = record { number = number; made = done; room = room; rests = rests; legal = legal };
  knows = subst (λ l. Begins l now.seen) is heard;
  made = made;
  own = own;
}

-- it goes down between two looks
falls_on : (fault : Bool) (old mid new : Held) → Falls fault old mid → IsAsBefore mid new → Falls fault old new
falls_on fault old mid new f b = record { did = did_behind (event.Down fault ∷ []) old mid new f.did b; vote = b.vote ∙ f.vote; entries = b.entries ∙ f.entries }

pub falls_between : (old reserved mid fallen new : Held) → IsAsBefore old reserved → IsAsBefore reserved mid → Falls true mid fallen → IsAsBefore fallen new → Falls true old new
falls_between old reserved mid fallen new a b f c = falls_on true old fallen new (fallen_behind true old mid fallen (before_then old reserved mid a b) f) c

-- it comes up between two looks
abbrev IsUpBy : ReadLog → OverStore → Event → Type 0
IsUpBy r o e = IsUp (woken.First r.rows) (kept_by o) e

wakes_between : (r : ReadLog) (old mid risen new : Stored) → IsAsBefore (held_of old) (held_of mid) → mid.over ≡ old.over → ComesUp r mid risen → IsAsBefore (held_of risen) (held_of new) → new.over ≡ risen.over → ComesUp r old new
wakes_between r old mid risen new a over c b same = record {
  wakes = record {
    event = c.wakes.event;
    up = subst (λ (o : OverStore). IsUpBy r o c.wakes.event) (sym same) c.wakes.up;
    did = did_behind (c.wakes.event ∷ []) (held_of old) (held_of risen) (held_of new) (did_before (c.wakes.event ∷ []) (held_of old) (held_of mid) (held_of risen) a c.wakes.did) b;
    vote = b.vote ∙ (c.wakes.vote ∙ vote_is);
    entries = b.entries ∙ (c.wakes.entries ∙ ap (λ (o : OverStore). o.entries) (sym same));
  };
  room = room_left;
  opened = subst (λ (o : OverStore). OpensStore started.Up o new.over) over (subst (λ (o : OverStore). OpensStore started.Up mid.over o) (sym same) c.opened);
}
  where
    vote_is : woken_vote mid.vote (kept_by risen.over).promised (kept_by risen.over).accepted (length (kept_by risen.over).entries) ≡ woken_vote old.vote (kept_by new.over).promised (kept_by new.over).accepted (length (kept_by new.over).entries)
    vote_is =
        ap (λ (v : NodeVote). woken_vote v risen.over.promised risen.over.accepted (length risen.over.entries)) a.vote
        ∙ ap (λ (o : OverStore). woken_vote old.vote o.promised o.accepted (length o.entries)) (sym same)

    room_left : 1 ≤ new.actor.room
    room_left = let was : 1 ≤ risen.actor.room = c.room in let less : risen.actor.room ≤ new.actor.room + 0 = b.did.room in omega arith

down_between : (old mid fallen new : Stored) → IsAsBefore (held_of old) (held_of mid) → mid.over ≡ old.over → GoesDown mid fallen → IsAsBefore (held_of fallen) (held_of new) → new.over ≡ fallen.over → GoesDown old new
down_between old mid fallen new a over g b same = record {
  falls = falls_on true (held_of old) (held_of fallen) (held_of new) (fallen_behind true (held_of old) (held_of mid) (held_of fallen) a g.falls) b;
  failed = subst (λ (o : OverStore). OpensStore started.Fault o new.over) over (subst (λ (o : OverStore). OpensStore started.Fault mid.over o) (sym same) g.failed);
}

pub starts_between : (r : ReadLog) (old mid risen new : Stored) → IsAsBefore (held_of old) (held_of mid) → mid.over ≡ old.over → ComesUp r mid risen ⊎ GoesDown mid risen → IsAsBefore (held_of risen) (held_of new) → new.over ≡ risen.over
    → ComesUp r old new ⊎ GoesDown old new
starts_between r old mid risen new a over (inl c) b same = inl (wakes_between r old mid risen new a over c b same)
starts_between r old mid risen new a over (inr g) b same = inr (down_between old mid risen new a over g b same)

-- a node that did nothing may come up with what was read, once that is admitted
events_none : (xs : List (ℕ × Event)) → events_of xs ≡ [] → xs ≡ []
events_none [] e = refl
events_none (x ∷ xs) e = absurd (let no_such : x.1 ∷ events_of xs ≡ [] = e in cc)

pub new_still : (k : ℕ) (old new : Stored) → IsNew k old → IsAsBefore (held_of old) (held_of new) → IsNew k new
new_still k old new n b = record {
  number = ap (λ (v : NodeVote). v.node) b.vote ∙ n.number;
  down = ap (λ (v : NodeVote). v.up) b.vote ∙ n.down;
  made = events_none new.actor.made (b.did.made ∙ ap (λ (l : List (ℕ × Event)). events_of l ++ []) n.made);
}

pub nothing_made : (G : Setting) (n : Stored) (k : ℕ) → IsOwn G (held_of n) → n.actor.made ≡ entries_of n.actor.number n.actor.seen → IsNew k n → entries_of n.vote.node n.actor.seen ≡ []
nothing_made G n k own made new = ap (λ i. entries_of i n.actor.seen) own.number_is ∙ (sym made ∙ new.made)

pub may_be_first : (G : Setting) (n : Stored) (k : ℕ) (r : ReadLog) → IsOwn G (held_of n) → n.actor.made ≡ entries_of n.actor.number n.actor.seen → IsNew k n → IsToStart r n.over
    → In (admission n.vote.node r.promised r.accepted) (world G n.actor.seen).admits → MayBeFirst G (held_of n) n.over (woken.First r.rows)
may_be_first G n k r own made new ready admitted =
    let none = nothing_made G n k own made new in
    let never = never_up G n.vote.node n.actor.seen none in
    record {
      found = kept r.promised r.accepted ready.entries;
      holds = ready.holds;
      may = first_wakes G (field (steps G n.actor.seen)) n.vote.node r.rows (kept r.promised r.accepted ready.entries) own.node.low own.node.high never.0 never.1 admitted ready.may;
    }

pub told_first : (G : Setting) (n : Stored) (k : ℕ) (r : ReadLog) → IsOwn G (held_of n) → n.actor.made ≡ entries_of n.actor.number n.actor.seen → IsNew k n → IsStartTold G n.actor.seen n.vote.node (woken.First r.rows)
told_first G n k r own made new = inl (told_up G n.vote.node n.actor.seen (nothing_made G n k own made new))

-- what becomes of its store
pub kept_unopened : (h k : Held) (o p : OverStore) → IsUnopened h k o p → KeepsStore o p
kept_unopened h k o p u = inl u.holds

pub kept_same : (o p : OverStore) → p ≡ o → KeepsStore o p
kept_same o p same = subst (λ (x : OverStore). KeepsStore o x) (sym same) (inl (λ ks h. h))

pub kept_between : (old mid risen new : OverStore) → mid ≡ old → KeepsStore mid risen → new ≡ risen → KeepsStore old new
kept_between old mid risen new a k b = subst (λ (o : OverStore). KeepsStore o new) a (subst (λ (o : OverStore). KeepsStore mid o) (sym b) k)

-- a first start, as its call tells it
pub came_up : (r : ReadLog) (old new : Stored) → IsStartedSo started.Up (woken.First r.rows) old new → OpensStore started.Up old.over new.over → (ComesUp r old new ⊎ GoesDown old new) × KeepsStore old.over new.over
came_up r old new told opened = (inl (record { wakes = told.0; room = told.1; opened = opened }), inr opened.0)

pub went_down : (r : ReadLog) (old new : Stored) → IsStartedSo started.Fault (woken.First r.rows) old new → OpensStore started.Fault old.over new.over → (ComesUp r old new ⊎ GoesDown old new) × KeepsStore old.over new.over
went_down r old new told opened = (inr (record { falls = told; failed = opened }), inl opened.0)

-- what the node knew it knows
pub up_more : (r : ReadLog) (old new : Stored) → ComesUp r old new ⊎ GoesDown old new → Begins old.actor.seen new.actor.seen
up_more r old new (inl c) = c.wakes.did.more
up_more r old new (inr g) = g.falls.did.more

pub up_number : (r : ReadLog) (old new : Stored) → ComesUp r old new ⊎ GoesDown old new → new.actor.number ≡ old.actor.number
up_number r old new (inl c) = c.wakes.did.number
up_number r old new (inr g) = g.falls.did.number
