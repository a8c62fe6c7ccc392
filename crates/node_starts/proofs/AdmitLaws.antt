-- The operator admits a store: it may, nobody else does, and what it admitted stays so.
use Rattle.std.proofs.Common.{◌≡◌, ℕ, suc, ◌+◌, ◌<◌, ◌≢◌, List, [], ◌∷◌, ◌++◌, length, append_assoc, None, refl, sym, subst, ap, ◌∙◌, arith}
use Rattle.std.proofs.lemmas.List.{append-nil}
use Rattle.std.specs.Prelude.{◌==◌, false}
use Rattle.std.proofs.lemmas.Bool.Decides.{Decides-eqb}
use Rattle.actor_trace.specs.Actors.{Knows}
use Rattle.actor_trace.specs.History.{entries_of}
use Rattle.actor_trace.specs.Lists.{Begins}
use Rattle.actor_trace.specs.Steps.{Adds, Rests}
use Rattle.actor_trace.proofs.Entries.{idle_step, not_eq}
use Rattle.cluster_consensus.specs.Enabled.{Fit}
use Rattle.cluster_consensus.specs.Events.NodeEvent.{Admits}
use Rattle.cluster_consensus.specs.Facts.{Admit}
use Rattle.cluster_events.specs.Arms.{HasFallen, last_fired}
use Rattle.cluster_events.specs.Guards.{MayDo}
use Rattle.cluster_events.specs.Parts.{ActorEvent, field}
use Rattle.cluster_events.specs.Parts.ActorEvent.{Node}
use Rattle.cluster_events.specs.Settings.{Setting}
use Rattle.cluster_steps.specs.Guards.{AreLegalSteps, IsPlan, MayTakeStep}
use Rattle.cluster_steps.specs.Named.{named, steps, world}
use Rattle.cluster_steps.specs.declared.events.Event.{Event}
use Rattle.cluster_steps.specs.declared.events.Event.TheVariants as event
use Rattle.cluster_steps.proofs.OwnLaws.{tells_begins}
use Rattle.core_lists.specs.Lists.{Each, In}
use Rattle.core_lists.specs.Lists.In.{here, there}
use Rattle.core_lists.proofs.Majorities.{majority_weaker}
use Rattle.node_state.specs.Nodes.{events_of}
use Rattle.node_state.proofs.CallLaws.{begins_adds, events_more}
use Rattle.node_state.proofs.LogLists.{none_behind}
use Rattle.node_state.proofs.NewLaws.{nothing_done}
use Rattle.node_state.proofs.NodeLaws.{fired_adds, fired_more, fired_rests}
use Rattle.node_openings.specs.declared.found.StoreFound.{StoreFound}
use Rattle.node_starts.specs.Admits.{AdmitsBelow, AdmitsOne, admission, deeds_at, deeds_from}

-- nobody but the operator admits a store
idle_one : (G : Setting) (h : List (ℕ × ActorEvent)) (j : ℕ) (e : ActorEvent) → (0 == j) ≡ false → MayDo G h j e → (field ((j, e) ∷ h)).core.admits ≡ (field h).core.admits
idle_one G h j (Node (Admits k p a)) ne may = absurd (let z : j ≡ 0 = may.2 in let y = (Decides-eqb 0 j).1 (sym z) in cc)
idle_one G h j (Node _) ne may = refl
idle_one G h j _ ne may = refl

admits_rest : (G : Setting) (later h : List (ℕ × Event)) → AreLegalSteps G (later ++ h) → entries_of 0 (later ++ h) ≡ entries_of 0 h → (world G (later ++ h)).admits ≡ (world G h).admits
admits_rest G [] h legal own = refl
admits_rest G (x ∷ later) h legal own =
    let s = idle_step 0 x later h own in
    idle_one G (steps G (later ++ h)) x.0 (named G (steps G (later ++ h)) x.0 x.1) (not_eq 0 x.0 s.0) legal.0.allowed.may ∙ admits_rest G later h legal.1 s.1

-- who did nothing admitted nothing
pub admits_none : (G : Setting) (seen : List (ℕ × Event)) → AreLegalSteps G seen → entries_of 0 seen ≡ [] → (world G seen).admits ≡ []
admits_none G seen legal none =
    ap (λ t. (world G t).admits) (sym (none_behind seen)) ∙ admits_rest G seen [] (subst (λ t. AreLegalSteps G t) (sym (none_behind seen)) legal) (nothing_done 0 seen none)

pub first_below : (G : Setting) (all : List Admit) (o : Knows Event) → o.number ≡ 0 → o.made ≡ [] → o.made ≡ entries_of o.number o.seen → AreLegalSteps G o.seen → AdmitsBelow G all 1 o
first_below G all o number made own legal =
    let none : entries_of 0 o.seen ≡ [] = ap (λ i. entries_of i o.seen) (sym number) ∙ (sym own ∙ made) in
    let empty = admits_none G o.seen legal none in
    record {
      operator = number;
      legal = legal;
      some = λ x h. nothing_in x (subst (λ t. In x t) empty h);
      below = λ x h. nothing_in x (subst (λ t. In x t) empty h);
      unarmed = ap (λ t. last_fired 0 (steps G t)) (sym (none_behind o.seen)) ∙ fired_more G 0 o.seen [] (nothing_done 0 o.seen none);
    }
  where
    nothing_in : {T : Type 0} (x : Admit) → In x [] → T
    nothing_in x h = absurd (elim h [ ])

-- some of stores that fit do fit
fit_some : (n : ℕ) (all xs : List Admit) → Fit n all → ((x : Admit) → In x xs → In x all) → Fit n xs
fit_some n all xs fit some = record { at = λ a h. majority_weaker (λ k e. record { at = λ b m same. e.at b (some b m) same }) (fit.at a (some a h)) }

-- the step
may_at : (G : Setting) (k p a : ℕ) (o : Knows Event) → IsPlan G → last_fired 0 (steps G o.seen) ≡ None → Each (λ b. b.node ≢ k) (world G o.seen).admits → Fit G.nodes (admission k p a ∷ (world G o.seen).admits)
    → MayTakeStep G o.seen 0 (event.Admit k p a)
may_at G k p a o plan unarmed other fit = record {
  plan = plan;
  exact = tt;
  allowed = record {
    may = (((other, fit), tt), tt, refl);
    by_script = record { heeds = tt; goes_on = subst (λ f. HasFallen G (steps G o.seen) 0 f) (sym unarmed) tt };
    pages = (tt, tt);
  };
}

pub may_admit : (G : Setting) (k p a : ℕ) (o : Knows Event) → IsPlan G → o.number ≡ 0 → last_fired 0 (steps G o.seen) ≡ None → Each (λ b. b.node ≢ k) (world G o.seen).admits
    → Fit G.nodes (admission k p a ∷ (world G o.seen).admits) → MayTakeStep G o.seen o.number (event.Admit k p a)
may_admit G k p a o plan number unarmed other fit = subst (λ i. MayTakeStep G o.seen i (event.Admit k p a)) (sym number) (may_at G k p a o plan unarmed other fit)

-- what it admitted behind that
added : (G : Setting) (k p a : ℕ) (old new : List (ℕ × Event)) → AreLegalSteps G new → Adds 0 (event.Admit k p a) old new → (world G new).admits ≡ admission k p a ∷ (world G old).admits
added G k p a old new legal d =
    let t = d.between ++ old in
    let l : AreLegalSteps G ((0, event.Admit k p a) ∷ t) = subst (λ s. AreLegalSteps G s) d.whole legal in
    ap (λ s. (world G s).admits) d.whole ∙ ap (λ xs. admission k p a ∷ xs) (admits_rest G d.between old l.1 d.none)

pub admits_one : (G : Setting) (k p a t : ℕ) (o n : Knows Event) → o.number ≡ 0 → n.number ≡ o.number → n.room + 1 ≡ o.room → n.made ≡ o.made ++ (t, event.Admit k p a) ∷ []
    → Adds o.number (event.Admit k p a) o.seen n.seen → AreLegalSteps G n.seen → AdmitsOne G k p a o n
admits_one G k p a t o n number same room made adds legal =
    let d : Adds 0 (event.Admit k p a) o.seen n.seen = subst (λ i. Adds i (event.Admit k p a) o.seen n.seen) number adds in
    record {
      added = added G k p a o.seen n.seen legal d;
      did = ap events_of made ∙ events_more o.made ((t, event.Admit k p a) ∷ []);
      number = same ∙ number;
      unarmed = fired_adds G 0 (event.Admit k p a) o.seen n.seen (λ g. refl) d;
      legal = legal;
      room = room;
      more = begins_adds d;
    }

pub admitted : (G : Setting) (k p a : ℕ) (o n : Knows Event) → (world G n.seen).admits ≡ admission k p a ∷ (world G o.seen).admits → In (admission k p a) (world G n.seen).admits
admitted G k p a o n is = subst (λ xs. In (admission k p a) xs) (sym is) here

-- where it admitted only nodes below a number, it may admit the one of this number, and admitted only those below the next one then
pub other_below : (G : Setting) (all : List Admit) (k : ℕ) (o : Knows Event) → AdmitsBelow G all k o → Each (λ b. b.node ≢ k) (world G o.seen).admits
other_below G all k o b = record { at = λ x h same. (let low : x.node < k = b.below x h in let e : x.node ≡ k = same in omega arith) }

pub fit_below : (G : Setting) (all : List Admit) (k p a : ℕ) (o : Knows Event) → AdmitsBelow G all k o → Fit G.nodes all → In (admission k p a) all → Fit G.nodes (admission k p a ∷ (world G o.seen).admits)
fit_below G all k p a o b fit one = fit_some G.nodes all (admission k p a ∷ (world G o.seen).admits) fit (λ x h. each x h)
  where
    each : (x : Admit) → In x (admission k p a ∷ (world G o.seen).admits) → In x all
    each x here = one
    each x (there h) = b.some x h

pub admits_next : (G : Setting) (all : List Admit) (k p a : ℕ) (o n : Knows Event) → AdmitsBelow G all k o → In (admission k p a) all → AdmitsOne G k p a o n → AdmitsBelow G all (k + 1) n
admits_next G all k p a o n b one x = record {
  operator = x.number;
  legal = x.legal;
  some = λ y h. some_of y (subst (λ xs. In y xs) x.added h);
  below = λ y h. below_of y (subst (λ xs. In y xs) x.added h);
  unarmed = x.unarmed;
}
  where
    some_of : (y : Admit) → In y (admission k p a ∷ (world G o.seen).admits) → In y all
    some_of y here = one
    some_of y (there h) = b.some y h

    below_of : (y : Admit) → In y (admission k p a ∷ (world G o.seen).admits) → y.node < k + 1
    below_of y here = (let l : k < k + 1 = omega arith in l)
    below_of y (there h) = let low : y.node < k = b.below y h in (let l : y.node < k + 1 = omega arith in l)

-- it knows more, and did nothing
pub admits_rests : (G : Setting) (all : List Admit) (k : ℕ) (o n : Knows Event) → AdmitsBelow G all k o → n.number ≡ o.number → AreLegalSteps G n.seen → Rests 0 o.seen n.seen → AdmitsBelow G all k n
admits_rests G all k o n b number legal d = record {
  operator = number ∙ b.operator;
  legal = legal;
  some = λ x h. b.some x (subst (λ xs. In x xs) is h);
  below = λ x h. b.below x (subst (λ xs. In x xs) is h);
  unarmed = fired_rests G 0 o.seen n.seen d b.unarmed;
}
  where
    is : (world G n.seen).admits ≡ (world G o.seen).admits
    is = ap (λ s. (world G s).admits) d.whole ∙ admits_rest G d.between o.seen (subst (λ s. AreLegalSteps G s) d.whole legal) d.none

-- a node has its turn without being admitted
pub admits_past : (G : Setting) (all : List Admit) (k : ℕ) (o : Knows Event) → AdmitsBelow G all k o → AdmitsBelow G all (k + 1) o
admits_past G all k o b = record { operator = b.operator; legal = b.legal; some = b.some; below = λ x h. let low : x.node < k = b.below x h in (let m : x.node < k + 1 = omega arith in m); unarmed = b.unarmed }

-- whoever knows what the operator knew knows that it admitted that
pub known_admit : (G : Setting) (x : Admit) (note seen : List (ℕ × Event)) → Begins note seen → In x (world G note).admits → In x (world G seen).admits
known_admit G x note seen b h = (tells_begins G note seen b).admits x h

-- what it does at one turn more
pub deeds_more : (k : ℕ) (gone : List StoreFound) (s : StoreFound) → deeds_from k (gone ++ s ∷ []) ≡ deeds_from k gone ++ deeds_at (k + length gone) s
deeds_more k [] s = append-nil (deeds_at k s) ∙ ap (λ j. deeds_at j s) (zero_more k)
  where
    zero_more : (k : ℕ) → k ≡ k + 0
    zero_more k = omega arith
deeds_more k (g ∷ gone) s =
    ap (λ l. deeds_at k g ++ l) (deeds_more (k + 1) gone s ∙ ap (λ j. deeds_from (k + 1) gone ++ deeds_at j s) (one_more k (length gone)))
    ∙ sym (append_assoc (deeds_at k g) (deeds_from (k + 1) gone) (deeds_at (k + suc (length gone)) s))
  where
    one_more : (k l : ℕ) → (k + 1) + l ≡ k + suc l
    one_more k l = omega arith
