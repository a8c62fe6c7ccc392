-- Where each node's own steps are known so far, all falls are known.
use Rattle.std.proofs.Common.{ℕ, ◌≡◌, ◌+◌, ◌<◌, ◌≤◌, List, [], ◌∷◌, ◌++◌, length, arith, refl, sym, subst, ap, ◌∙◌}
use Rattle.std.specs.Prelude.{◌==◌, suc, Bool, true, false, cond, Option, Some, None, slice_get}
use Rattle.std.proofs.lemmas.Bool.Decides.{Decides-eqb}
use mathlib.Core.Logic.{◌⊎◌, inl, inr}
use Rattle.actor_trace.specs.History.{entries_of}
use Rattle.cdb_values.specs.declared.replies.Reply.{Reply}
use Rattle.cdb_values.specs.declared.tables.TableDef.{TableDef}
use Rattle.cluster_consensus.specs.Events.NodeEvent.{BackGrow, BackTake, Grow, LearnFollow, LearnLead, Take}
use Rattle.cluster_consensus.specs.Facts.{Own, World}
use Rattle.cluster_events.specs.Guards.{MayDo}
use Rattle.cluster_events.specs.Parts.{ActorEvent, field, part}
use Rattle.cluster_events.specs.Parts.ActorEvent.{Node}
use Rattle.cluster_events.specs.Settings.{Setting}
use Rattle.cluster_events.proofs.LineLists.{append_assoc, append_nil}
use Rattle.cluster_requests.specs.KeptEntries.{KeptEntry}
use Rattle.cluster_steps.specs.Guards.{AreLegalSteps}
use Rattle.cluster_steps.specs.Named.{back_append, log_named, named, named_reply, named_settled, named_up, reply_in, steps}
use Rattle.cluster_steps.specs.declared.events.Event.{Event}
use Rattle.cluster_steps.specs.declared.events.Event.TheVariants as event
use Rattle.cluster_steps.specs.declared.events.Woken.{Woken}
use Rattle.cluster_steps.specs.declared.events.Woken.TheVariants as woken
use Rattle.phys_log.specs.declared.entries.CommitId.{CommitId}
use Rattle.phys_log.specs.declared.entries.Entry.{Entry}
use Rattle.phys_log.specs.declared.requests.Decision.{Decision}
use Rattle.phys_log.specs.declared.requests.Decision.TheVariants as decision
use Rattle.report_laws.specs.Work.{Does, Lone, WorkItem}
use Rattle.session_losses.specs.Falls.{falls_by, falls_of}
use Rattle.session_losses.specs.Seen.{fallen, falls_among, falls_done}
use Rattle.session_losses.proofs.TagLaws.{AllUnder, Descends, nodes_of, only, same_tags, under_more}
use Rattle.trace_order.specs.Done.{AreRising, AreUnder, Done, done_by}
use Rattle.trace_order.specs.Turns.{IsSoFar}

-- a fall with its ticket
abbrev pub tag : ℕ → ℕ → Event → List (ℕ × ℕ)
tag t i (event.Down fault) = (t, i) ∷ []
tag t i _ = []

abbrev pub tags_of : List (ℕ × Event) → List (ℕ × ℕ)
tags_of [] = []
tags_of (x ∷ h) = tag (length h) x.0 x.1 ++ tags_of h

abbrev pub tags_done : List (Done Event) → List (ℕ × ℕ)
tags_done [] = []
tags_done (d ∷ ds) = tag d.ticket d.by d.event ++ tags_done ds

-- of one actor's steps, which come the oldest first
abbrev pub tags_among : ℕ → List (ℕ × Event) → List (ℕ × ℕ)
tags_among k [] = []
tags_among k (x ∷ xs) = tags_among k xs ++ tag x.0 k x.1

-- what an event of code is, goes down exactly where that does
up_falls : (n i : ℕ) (w : World KeptEntry) (o : Own KeptEntry) (how : Woken) (promised accepted : ℕ) (entries : List Entry) → falls_by i (Node (named_up n w o how promised accepted entries)) ≡ []
up_falls n i w o (woken.First rows) promised accepted entries = refl
up_falls n i w o woken.AsLeft promised accepted entries = refl
up_falls n i w o woken.Led promised accepted entries = refl
up_falls n i w o woken.Took promised accepted entries = took (accepted == o.accepted)
  where
    took : (b : Bool) → falls_by i (Node (cond b (BackGrow (log_named n w accepted (length entries))) (BackTake accepted (log_named n w accepted (length entries))))) ≡ []
    took true = refl
    took false = refl
up_falls n i w o woken.Appended promised accepted entries = appended (slice_get entries (length o.log))
  where
    appended : (e : Option Entry) → falls_by i (Node (back_append promised o.log e)) ≡ []
    appended None = refl
    appended (Some e) = refl

settled_falls : (i : ℕ) (tables : List TableDef) (id : CommitId) (d : Decision) → falls_by i (named_settled tables id d) ≡ []
settled_falls i tables id (decision.Repeat position) = refl
settled_falls i tables id _ = refl

replied_falls : (i : ℕ) (items : List WorkItem) (answer : Reply) → falls_by i (named_reply items answer) ≡ []
replied_falls i [] answer = refl
replied_falls i (Lone r ∷ items) answer = refl
replied_falls i (Does t ∷ items) answer = refl

take_falls : (i g : ℕ) (l : List KeptEntry) (b : Bool) → falls_by i (Node (cond b (Grow l) (Take g l))) ≡ []
take_falls i g l true = refl
take_falls i g l false = refl

learn_falls : (i l : ℕ) (b : Bool) → falls_by i (Node (cond b (LearnLead l) (LearnFollow l))) ≡ []
learn_falls i l true = refl
learn_falls i l false = refl

named_falls : (G : Setting) (g : List (ℕ × ActorEvent)) (i : ℕ) (e : Event) → falls_by i (named G g i e) ≡ fallen i e
named_falls G g i (event.Down true) = refl
named_falls G g i (event.Down false) = refl
named_falls G g i (event.Up how promised accepted entries) = up_falls G.nodes i (field g).core ((field g).core.nodes i) how promised accepted entries.value
named_falls G g i (event.Take generation l) = take_falls i generation (log_named G.nodes (field g).core generation l) (generation == ((field g).core.nodes i).accepted)
named_falls G g i (event.Learn l) = learn_falls i l ((field g).core.nodes i).leading
named_falls G g i (event.Settle id d) = settled_falls i G.tables id.value d.value
named_falls G g i (event.Reply told) = replied_falls i (part G i g).left (reply_in told)
named_falls G g i _ = refl

-- a fall more is the last one
tagged : (t i : ℕ) (e : Event) (xs : List (ℕ × ℕ)) → nodes_of (tag t i e ++ xs) ≡ nodes_of xs ++ fallen i e
tagged t i (event.Down fault) xs = refl
tagged t i _ xs = sym (append_nil (nodes_of xs))

falls_tagged : (G : Setting) (h : List (ℕ × Event)) → falls_of (steps G h) ≡ nodes_of (tags_of h)
falls_tagged G [] = refl
falls_tagged G (x ∷ h) =
    ap (λ z. z ++ falls_by x.0 (named G (steps G h) x.0 x.1)) (falls_tagged G h)
    ∙ (ap (λ z. nodes_of (tags_of h) ++ z) (named_falls G (steps G h) x.0 x.1) ∙ sym (tagged (length h) x.0 x.1 (tags_of h)))

done_tagged : (done : List (Done Event)) → falls_done done ≡ nodes_of (tags_done done)
done_tagged [] = refl
done_tagged (d ∷ ds) = ap (λ z. z ++ fallen d.by d.event) (done_tagged ds) ∙ sym (tagged d.ticket d.by d.event (tags_done ds))

-- those of one actor are those of its steps
among_push : (k : ℕ) (xs : List (ℕ × Event)) (x : ℕ × Event) → tags_among k (xs ++ x ∷ []) ≡ tag x.0 k x.1 ++ tags_among k xs
among_push k [] x = sym (append_nil (tag x.0 k x.1))
among_push k (y ∷ xs) x = ap (λ z. z ++ tag y.0 k y.1) (among_push k xs x) ∙ append_assoc (tag x.0 k x.1) (tags_among k xs) (tag y.0 k y.1)

only_own : (k t i : ℕ) (e : Event) (xs : List (ℕ × ℕ)) → (k == i) ≡ true → only k (tag t i e ++ xs) ≡ tag t k e ++ only k xs
only_own k t i (event.Down fault) xs is =
    ap (λ b. cond b ((t, i) ∷ only k xs) (only k xs)) is ∙ ap (λ j. (t, j) ∷ only k xs) (sym ((Decides-eqb k i).0 is))
only_own k t i _ xs is = refl

only_other : (k t i : ℕ) (e : Event) (xs : List (ℕ × ℕ)) → (k == i) ≡ false → only k (tag t i e ++ xs) ≡ only k xs
only_other k t i (event.Down fault) xs ne = ap (λ b. cond b ((t, i) ∷ only k xs) (only k xs)) ne
only_other k t i _ xs ne = refl

only_of : (k : ℕ) (h : List (ℕ × Event)) → only k (tags_of h) ≡ tags_among k (entries_of k h)
only_of k [] = refl
only_of k (x ∷ h) = go (k == x.0) refl (only_of k h)
  where
    go : (b : Bool) → (k == x.0) ≡ b → only k (tags_of h) ≡ tags_among k (entries_of k h) → only k (tag (length h) x.0 x.1 ++ tags_of h) ≡ tags_among k (cond b (entries_of k h ++ (length h, x.1) ∷ []) (entries_of k h))
    go true is again = only_own k (length h) x.0 x.1 (tags_of h) is ∙ (ap (λ z. tag (length h) k x.1 ++ z) again ∙ sym (among_push k (entries_of k h) (length h, x.1)))
    go false ne again = only_other k (length h) x.0 x.1 (tags_of h) ne ∙ again

only_done : (k : ℕ) (done : List (Done Event)) → only k (tags_done done) ≡ tags_among k (done_by k done)
only_done k [] = refl
only_done k (d ∷ ds) = go (k == d.by) refl (only_done k ds)
  where
    go : (b : Bool) → (k == d.by) ≡ b → only k (tags_done ds) ≡ tags_among k (done_by k ds) → only k (tag d.ticket d.by d.event ++ tags_done ds) ≡ tags_among k (cond b (done_by k ds ++ (d.ticket, d.event) ∷ []) (done_by k ds))
    go true is again = only_own k d.ticket d.by d.event (tags_done ds) is ∙ (ap (λ z. tag d.ticket k d.event ++ z) again ∙ sym (among_push k (done_by k ds) (d.ticket, d.event)))
    go false ne again = only_other k d.ticket d.by d.event (tags_done ds) ne ∙ again

-- tickets fall from the last one on
tag_under : (t n i : ℕ) (e : Event) (xs : List (ℕ × ℕ)) → t < n → AllUnder t xs → AllUnder n (tag t i e ++ xs)
tag_under t n i (event.Down fault) xs lt all = (lt, under_more t n xs (omega (arith, lt)) all)
tag_under t n i _ xs lt all = under_more t n xs (omega (arith, lt)) all

tag_descends : (t i : ℕ) (e : Event) (xs : List (ℕ × ℕ)) → AllUnder t xs → Descends xs → Descends (tag t i e ++ xs)
tag_descends t i (event.Down fault) xs all desc = (all, desc)
tag_descends t i _ xs all desc = desc

under_of : (h : List (ℕ × Event)) → AllUnder (length h) (tags_of h)
under_of [] = tt
under_of (x ∷ h) = tag_under (length h) (suc (length h)) x.0 x.1 (tags_of h) (omega arith) (under_of h)

descends_of : (h : List (ℕ × Event)) → Descends (tags_of h)
descends_of [] = tt
descends_of (x ∷ h) = tag_descends (length h) x.0 x.1 (tags_of h) (under_of h) (descends_of h)

under_done : (t : ℕ) (done : List (Done Event)) → AreUnder t done → AllUnder t (tags_done done)
under_done t [] all = tt
under_done t (d ∷ ds) all = put d.event (under_done t ds all.1)
  where
    put : (e : Event) → AllUnder t (tags_done ds) → AllUnder t (tag d.ticket d.by e ++ tags_done ds)
    put (event.Down fault) rest = (all.0, rest)
    put _ rest = rest

descends_done : (done : List (Done Event)) → AreRising done → Descends (tags_done done)
descends_done [] rising = tt
descends_done (d ∷ ds) rising = tag_descends d.ticket d.by d.event (tags_done ds) (under_done d.ticket ds rising.0) (descends_done ds rising.1)

-- only nodes fall
at_most : (a b : ℕ) → (a ≤ b) ⊎ (b < a)
at_most a b = grind arith

node_falls : (G : Setting) (g : List (ℕ × ActorEvent)) (i : ℕ) (fault : Bool) → MayDo G g i (named G g i (event.Down fault)) → (1 ≤ i) × (i ≤ G.nodes)
node_falls G g i true may = may.2
node_falls G g i false may = (may.2, may.3)

none_of : (G : Setting) (k : ℕ) (h : List (ℕ × Event)) → AreLegalSteps G h → ((1 ≤ k) × (k ≤ G.nodes) → ⊥) → only k (tags_of h) ≡ []
none_of G k [] legal out = refl
none_of G k (x ∷ h) legal out = put x.0 x.1 legal.0.allowed.may (none_of G k h legal.1 out)
  where
    put : (i : ℕ) (e : Event) → MayDo G (steps G h) i (named G (steps G h) i e) → only k (tags_of h) ≡ [] → only k (tag (length h) i e ++ tags_of h) ≡ []
    put i (event.Down fault) may none = go (k == i) refl
      where
        go : (b : Bool) → (k == i) ≡ b → only k ((length h, i) ∷ tags_of h) ≡ []
        go true is = absurd (out (subst (λ j. (1 ≤ j) × (j ≤ G.nodes)) (sym ((Decides-eqb k i).0 is)) (node_falls G (steps G h) i fault may)))
        go false ne = ap (λ b. cond b ((length h, i) ∷ only k (tags_of h)) (only k (tags_of h))) ne ∙ none
    put i _ may none = none

no_tags : (k : ℕ) (xs : List (ℕ × Event)) → falls_among k xs ≡ [] → tags_among k xs ≡ []
no_tags k [] none = refl
no_tags k (x ∷ xs) none = put x.1 none (no_tags k xs)
  where
    put : (e : Event) → fallen k e ++ falls_among k xs ≡ [] → (falls_among k xs ≡ [] → tags_among k xs ≡ []) → tags_among k xs ++ tag x.0 k e ≡ []
    put (event.Down fault) is again = absurd (let size : suc (length (falls_among k xs)) ≡ 0 = ap (λ z. length z) is in omega (arith, size))
    put _ is again = append_nil (tags_among k xs) ∙ again is

-- where each node did in the history just what the loop had it do, the falls are those of the loop
pub falls_seen : (G : Setting) (h : List (ℕ × Event)) (n size : ℕ) (made : ℕ → List (ℕ × Event)) (done : List (Done Event)) → AreLegalSteps G h → IsSoFar n size made done → ((k : ℕ) → 1 ≤ k → k ≤ G.nodes → entries_of k h ≡ made k)
    → ((k : ℕ) → ((1 ≤ k) × (k ≤ G.nodes) → ⊥) → falls_among k (made k) ≡ []) → falls_of (steps G h) ≡ falls_done done
falls_seen G h n size made done legal so own none =
    falls_tagged G h ∙ (ap nodes_of (same_tags (tags_of h) (tags_done done) (descends_of h) (descends_done done so.rising) same) ∙ sym (done_tagged done))
  where
    its : (k : ℕ) → tags_among k (made k) ≡ only k (tags_done done)
    its k = ap (λ z. tags_among k z) (so.steps k) ∙ sym (only_done k done)

    inside : (k : ℕ) → 1 ≤ k → k ≤ G.nodes → only k (tags_of h) ≡ only k (tags_done done)
    inside k low high = only_of k h ∙ (ap (λ z. tags_among k z) (own k low high) ∙ its k)

    outside : (k : ℕ) → ((1 ≤ k) × (k ≤ G.nodes) → ⊥) → only k (tags_of h) ≡ only k (tags_done done)
    outside k out = none_of G k h legal out ∙ (sym (no_tags k (made k) (none k out)) ∙ its k)

    above : (k : ℕ) → 1 ≤ k → (k ≤ G.nodes) ⊎ (G.nodes < k) → only k (tags_of h) ≡ only k (tags_done done)
    above k low (inl high) = inside k low high
    above k low (inr far) = outside k (λ q. (let le : k ≤ G.nodes = q.1 in absurd (omega (arith, le, far))))

    below : (k : ℕ) → (1 ≤ k) ⊎ (k < 1) → only k (tags_of h) ≡ only k (tags_done done)
    below k (inl low) = above k low (at_most k G.nodes)
    below k (inr far) = outside k (λ q. (let le : 1 ≤ k = q.0 in absurd (omega (arith, le, far))))

    same : (k : ℕ) → only k (tags_of h) ≡ only k (tags_done done)
    same k = below k (at_most 1 k)
