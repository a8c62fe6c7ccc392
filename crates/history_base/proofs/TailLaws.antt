-- The reported node and the base that a run's history tells are those of its nodes.
use Rattle.std.proofs.Common.{ℕ, ◌≡◌, ◌+◌, ◌*◌, ◌-◌, ◌<◌, ◌≤◌, List, [], ◌∷◌, ◌++◌, length, length-append, arith, refl, sym, subst, ap, ◌∙◌}
use Rattle.std.specs.Prelude.{zero, suc, ◌==◌, ◌&&◌, ◌||◌, Bool, true, false, cond, ltb, if◌then◌else◌, Option, Some, None}
use Rattle.std.specs.List.{list_any}
use Rattle.std.proofs.lemmas.Bool.{cases_order, ltb-false}
use Rattle.std.proofs.lemmas.Bool.Decides.{Decides-eqb, Decides-ltb}
use Rattle.std.proofs.lemmas.List.{append-nil}
use mathlib.Core.Logic.{◌⊎◌, inl, inr}
use Rattle.cluster_consensus.specs.Durable.{DurableIn}
use Rattle.cluster_consensus.specs.Enabled.{Below}
use Rattle.cluster_consensus.specs.Events.{NodeEvent, change}
use Rattle.cluster_consensus.specs.Events.NodeEvent.{Down, Asks}
use Rattle.cluster_consensus.specs.Facts.{Claim, Own, World}
use Rattle.cluster_consensus.proofs.Generations.{one_leader, one_log}
use Rattle.cluster_consensus.proofs.Kept.{at_node}
use Rattle.cluster_events.proofs.LineLists.{append_assoc}
use Rattle.cluster_events.specs.Guards.{IsActedBy, IsLegalHistory, MayDo}
use Rattle.cluster_events.specs.Parts.{ActorEvent, add_act, acts, field}
use Rattle.cluster_events.specs.Settings.{Setting}
use Rattle.cluster_masters.specs.FirstMaster.{HasNoMaster, IsFirstMaster}
use Rattle.cluster_masters.specs.Reported.{IsReported}
use Rattle.cluster_requests.specs.KeptEntries.{KeptEntry}
use Rattle.cluster_requests.specs.Requests.{field_after}
use Rattle.cluster_steps.specs.Guards.{AreLegalSteps}
use Rattle.cluster_steps.specs.Named.{steps, world}
use Rattle.cluster_steps.specs.declared.events.Event.{Event}
use Rattle.cluster_steps.proofs.StepLaws.{inv_of, legal_steps}
use Rattle.core_lists.specs.Fronts.{Front}
use Rattle.core_lists.specs.Lists.{In, Has}
use Rattle.core_lists.specs.Lists.In.{here, there}
use Rattle.core_lists.specs.Majorities.{Majority, count}
use Rattle.core_lists.proofs.Lists.{nothing}
use Rattle.history_base.specs.Sizes.{Sizes, size, sizes_of, up_lengths}
use Rattle.history_base.specs.Tail.{AreNoted, all_sizes, base_by, best_from, best_of, better, count_accepted, earlier, first_if, first_led, first_master, first_of, has_accepted, is_accepted, lengths_of, outranks, tail}
use Rattle.history_base.specs.declared.sizes.Size.{Size}
use Rattle.history_base.specs.declared.tails.Best.{Best}
use Rattle.history_base.proofs.SizeLaws.{IsSizeOf, sized, sizes_are}

-- what stands in lists
in_end : {A : Type 0} (xs : List A) (x : A) → In x (xs ++ x ∷ [])
in_end [] x = here
in_end (y ∷ xs) x = there (in_end xs x)

in_front : {A : Type 0} {x : A} (xs ys : List A) → In x xs → In x (xs ++ ys)
in_front [] ys m = absurd (nothing m)
in_front (y ∷ xs) ys here = here
in_front (y ∷ xs) ys (there m) = there (in_front xs ys m)

in_back : {A : Type 0} {x : A} (xs ys : List A) → In x ys → In x (xs ++ ys)
in_back [] ys m = m
in_back (y ∷ xs) ys m = there (in_back xs ys m)

in_either : {A : Type 0} {x : A} (xs ys : List A) → In x (xs ++ ys) → In x xs ⊎ In x ys
in_either [] ys m = inr m
in_either (y ∷ xs) ys here = inl here
in_either (y ∷ xs) ys (there m) = elim (in_either xs ys m) [
  | inl k ↦ inl (there k)
  | inr k ↦ inr k
]

in_one : {A : Type 0} {x y : A} → In x (y ∷ []) → x ≡ y
in_one here = refl
in_one (there m) = absurd (nothing m)

any_in : {A : Type 0} (q : A → Bool) (xs : List A) → list_any q xs ≡ true → (x : A) × In x xs × (q x ≡ true)
any_in q [] so = absurd (cc so)
any_in {A} q (x ∷ xs) so = go (q x) refl so (any_in q xs)
  where
    go : (b : Bool) → q x ≡ b → (b || list_any q xs) ≡ true → (list_any q xs ≡ true → (y : A) × In y xs × (q y ≡ true)) → (y : A) × In y (x ∷ xs) × (q y ≡ true)
    go true e so again = (x, here, e)
    go false e so again = let r = again so in (r.0, there r.1, r.2)

in_any : {A : Type 0} {x : A} (q : A → Bool) (xs : List A) → In x xs → q x ≡ true → list_any q xs ≡ true
in_any q [] m so = absurd (nothing m)
in_any q (y ∷ xs) here so = ap (λ (b : Bool). b || list_any q xs) so
in_any q (y ∷ xs) (there m) so = go (q y) (in_any q xs m so)
  where
    go : (b : Bool) → list_any q xs ≡ true → (b || list_any q xs) ≡ true
    go true e = refl
    go false e = e

-- numbers
at_least : (a b : ℕ) → ltb a b ≡ false → b ≤ a
at_least a b not_so = ltb-false a b not_so

either_below : (j k : ℕ) → j < k + 1 → (j < k) ⊎ (j ≡ k)
either_below j k l = elim (cases_order j k) [
  | inl same ↦ inr same
  | inr other ↦ elim other [
    | inl less ↦ inl less
    | inr more ↦ absurd (omega (arith, l, more))
  ]
]

below_it : (k n : ℕ) → k ≤ suc n → (k ≡ suc n → ⊥) → k ≤ n
below_it k n le other = elim (cases_order k (suc n)) [
  | inl same ↦ absurd (other same)
  | inr rest ↦ elim rest [
    | inl less ↦ omega (arith, less)
    | inr more ↦ absurd (omega (arith, le, more))
  ]
]

less_than : (a b : ℕ) → a ≤ b → (a ≡ b → ⊥) → a < b
less_than a b le other = elim (cases_order a b) [
  | inl same ↦ absurd (other same)
  | inr rest ↦ elim rest [
    | inl less ↦ less
    | inr more ↦ absurd (omega (arith, le, more))
  ]
]

both_zero : (a n : ℕ) → Below a n 0 0 → (a ≡ 0) × (n ≡ 0)
both_zero a n (inl l) = absurd (omega (arith, l))
both_zero a n (inr e) = (e.0, (let l : n ≤ 0 = e.1 in omega arith))

-- the sizes of a node of a run
abbrev sizes_at : List (List ℕ) → List (ℕ × Event) → ℕ → Sizes
sizes_at lengths h k = sizes_of k (lengths_of lengths k) h

pub of_node : (G : Setting) (lengths : List (List ℕ)) (h : List (ℕ × Event)) → AreNoted G.nodes lengths h → AreLegalSteps G h → (k : ℕ) → 0 < k → k ≤ G.nodes → IsSizeOf ((world G h).nodes k) (sizes_at lengths h k)
of_node G lengths h noted legal k pos low = (sizes_are G h k (lengths_of lengths k) [] legal (noted k pos low ∙ sym (append-nil (up_lengths k h)))).of_part

-- claims and their sizes
in_sized : {c : Claim KeptEntry} (cs : List (Claim KeptEntry)) → In c cs → In (size c.gen (length c.log)) (sized cs)
in_sized [] m = absurd (nothing m)
in_sized (d ∷ cs) here = in_end (sized cs) (size d.gen (length d.log))
in_sized (d ∷ cs) (there m) = in_front (sized cs) (size d.gen (length d.log) ∷ []) (in_sized cs m)

sized_in : {s : Size} (cs : List (Claim KeptEntry)) → In s (sized cs) → Has (λ c. s ≡ size c.gen (length c.log)) cs
sized_in [] m = absurd (nothing m)
sized_in {s} (d ∷ cs) m = elim (in_either (sized cs) (size d.gen (length d.log) ∷ []) m) [
  | inl k ↦ (let r = sized_in cs k in record { it = r.it; mem = there r.mem; is = r.is })
  | inr k ↦ record { it = d; mem = here; is = in_one k }
]

-- how many accepted in a generation
count_more : (g : ℕ) (xs : List Sizes) (t : Sizes) → count_accepted g (xs ++ t ∷ []) ≡ (if has_accepted g t then 1 else 0) + count_accepted g xs
count_more g [] t = refl
count_more g (x ∷ xs) t =
    let e : count_accepted g (xs ++ t ∷ []) ≡ (if has_accepted g t then 1 else 0) + count_accepted g xs = count_more g xs t in
    omega arith

all_length : (n : ℕ) (lengths : List (List ℕ)) (h : List (ℕ × Event)) → length (all_sizes n lengths h) ≡ n
all_length zero lengths h = refl
all_length (suc n) lengths h =
    let e : length (all_sizes n lengths h) ≡ n = all_length n lengths h in
    let l : length (all_sizes n lengths h ++ sizes_at lengths h (suc n) ∷ []) ≡ length (all_sizes n lengths h) + 1 = length-append (all_sizes n lengths h) (sizes_at lengths h (suc n) ∷ []) in
    omega arith

counts : (n g : ℕ) (lengths : List (List ℕ)) (h : List (ℕ × Event)) → count_accepted g (all_sizes n lengths h) ≡ count n (λ k. has_accepted g (sizes_at lengths h k))
counts zero g lengths h = refl
counts (suc n) g lengths h =
    count_more g (all_sizes n lengths h) (sizes_at lengths h (suc n)) ∙ (ap (λ m. (if has_accepted g (sizes_at lengths h (suc n)) then 1 else 0) + m) (counts n g lengths h) ∙ flip (has_accepted g (sizes_at lengths h (suc n))) (count n (λ k. has_accepted g (sizes_at lengths h k))))
  where
    flip : (b : Bool) (m : ℕ) → (if b then 1 else 0) + m ≡ cond b 1 0 + m
    flip true m = refl
    flip false m = refl

count_low : (n : ℕ) (q : ℕ → Bool) → count n q ≤ n
count_low zero q = omega arith
count_low (suc n) q = go (q (suc n)) (count_low n q)
  where
    go : (b : Bool) → count n q ≤ n → cond b 1 0 + count n q ≤ suc n
    go true le = omega arith
    go false le = omega arith

-- a node accepted in a generation
has_claim : (cs : List (Claim KeptEntry)) (g : ℕ) → list_any (λ (a : Size). a.generation == g) (sized cs) ≡ true → Has (λ c. c.gen ≡ g) cs
has_claim cs g so =
    let f = any_in (λ (a : Size). a.generation == g) (sized cs) so in
    let s = sized_in cs f.1 in
    record { it = s.it; mem = s.mem; is = sym (ap (λ (x : Size). x.generation) s.is) ∙ (Decides-eqb f.0.generation g).0 f.2 }

claim_has : (cs : List (Claim KeptEntry)) (g : ℕ) → Has (λ c. c.gen ≡ g) cs → list_any (λ (a : Size). a.generation == g) (sized cs) ≡ true
claim_has cs g c = in_any (λ (a : Size). a.generation == g) (sized cs) (in_sized cs c.mem) ((Decides-eqb c.it.gen g).1 c.is)

-- the sizes of all nodes of a run, as facts
record IsRun (G : Setting) (lengths : List (List ℕ)) (h : List (ℕ × Event)) : Type 0 where
  noted : AreNoted G.nodes lengths h
  legal : AreLegalSteps G h

abbrev AcceptedBy : Setting → List (ℕ × Event) → ℕ → ℕ → Type 0
AcceptedBy G h g k = Has (λ c. c.gen ≡ g) ((world G h).nodes k).accepts

majority_of : (G : Setting) (lengths : List (List ℕ)) (h : List (ℕ × Event)) (g : ℕ) → IsRun G lengths h → is_accepted (all_sizes G.nodes lengths h) g ≡ true → Majority G.nodes (λ k. AcceptedBy G h g k)
majority_of G lengths h g run so =
    let all : List Sizes = all_sizes G.nodes lengths h in
    let q : ℕ → Bool = λ k. has_accepted g (sizes_at lengths h k) in
    let less : length all - count_accepted g all < count_accepted g all = (Decides-ltb (length all - count_accepted g all) (count_accepted g all)).0 so in
    let c : count_accepted g all ≡ count G.nodes q = counts G.nodes g lengths h in
    let l : length all ≡ G.nodes = all_length G.nodes lengths h in
    let low : count G.nodes q ≤ G.nodes = count_low G.nodes q in
    record {
      who = q;
      many = omega arith;
      hold = λ k pos le has. has_claim ((world G h).nodes k).accepts g (ap (λ (xs : List Size). list_any (λ (a : Size). a.generation == g) xs) (sym (of_node G lengths h run.noted run.legal k pos le).accepts) ∙ has);
    }

count_step : (a b : Bool) (m n : ℕ) → (a ≡ true → b ≡ true) → m ≤ n → cond a 1 0 + m ≤ cond b 1 0 + n
count_step true true m n h le = omega arith
count_step true false m n h le = let e : false ≡ true = h refl in absurd (cc)
count_step false true m n h le = omega arith
count_step false false m n h le = omega arith

count_over : (n : ℕ) (p q : ℕ → Bool) → ((k : ℕ) → 0 < k → k ≤ n → p k ≡ true → q k ≡ true) → count n p ≤ count n q
count_over zero p q h = omega arith
count_over (suc n) p q h = count_step (p (suc n)) (q (suc n)) (count n p) (count n q) (h (suc n) (omega arith) (omega arith)) (count_over n p q (λ k pos le. h k pos (omega arith)))

accepted_of : (G : Setting) (lengths : List (List ℕ)) (h : List (ℕ × Event)) (g : ℕ) → IsRun G lengths h → Majority G.nodes (λ k. AcceptedBy G h g k) → is_accepted (all_sizes G.nodes lengths h) g ≡ true
accepted_of G lengths h g run m =
    let all : List Sizes = all_sizes G.nodes lengths h in
    let q : ℕ → Bool = λ k. has_accepted g (sizes_at lengths h k) in
    let more : G.nodes < 2 * count G.nodes m.who = m.many in
    let over : count G.nodes m.who ≤ count G.nodes q = count_over G.nodes m.who q (λ k pos le so. ap (λ (xs : List Size). list_any (λ (a : Size). a.generation == g) xs) (of_node G lengths h run.noted run.legal k pos le).accepts ∙ claim_has ((world G h).nodes k).accepts g (m.hold k pos le so)) in
    let c : count_accepted g all ≡ count G.nodes q = counts G.nodes g lengths h in
    let l : length all ≡ G.nodes = all_length G.nodes lengths h in
    (Decides-ltb (length all - count_accepted g all) (count_accepted g all)).1 (omega arith)

-- the first of those with which somebody led that a majority accepted
abbrev IsFirst : List Sizes → List Size → Option Size → Type 0
IsFirst all seen None = (a : Size) → In a seen → is_accepted all a.generation ≡ false
IsFirst all seen (Some r) = In r seen × (is_accepted all r.generation ≡ true) × ((a : Size) → In a seen → is_accepted all a.generation ≡ true → r.generation ≤ a.generation)

first_more : (all : List Sizes) (seen : List Size) (a : Size) (found : Option Size) (b : Bool) → is_accepted all a.generation ≡ b → IsFirst all seen found → IsFirst all (seen ++ a ∷ []) (first_if b a found)
first_more all seen a None false not_so is = λ x m. elim (in_either seen (a ∷ []) m) [
  | inl k ↦ is x k
  | inr k ↦ ap (λ (y : Size). is_accepted all y.generation) (in_one k) ∙ not_so
]
first_more all seen a (Some r) false not_so is = (
  in_front seen (a ∷ []) is.0,
  is.1,
  λ x m so. elim (in_either seen (a ∷ []) m) [
    | inl k ↦ is.2 x k so
    | inr k ↦ (let e : is_accepted all a.generation ≡ true = sym (ap (λ (y : Size). is_accepted all y.generation) (in_one k)) ∙ so in absurd (cc (not_so, e)))
  ],
)
first_more all seen a None true so is = (
  in_end seen a,
  so,
  λ x m so'. elim (in_either seen (a ∷ []) m) [
    | inl k ↦ (let f = is x k in absurd (cc (f, so')))
    | inr k ↦ (let e : x.generation ≡ a.generation = ap (λ (y : Size). y.generation) (in_one k) in let goal : a.generation ≤ x.generation = omega arith in goal)
  ],
)
first_more all seen a (Some r) true so is = go (ltb a.generation r.generation) refl
  where
    go : (b : Bool) → ltb a.generation r.generation ≡ b → IsFirst all (seen ++ a ∷ []) (Some (if b then a else r))
    go true lt = (
      in_end seen a,
      so,
      λ x m so'. elim (in_either seen (a ∷ []) m) [
        | inl k ↦ (let l : a.generation < r.generation = (Decides-ltb a.generation r.generation).0 lt in let e : r.generation ≤ x.generation = is.2 x k so' in let goal : a.generation ≤ x.generation = omega arith in goal)
        | inr k ↦ (let e : x.generation ≡ a.generation = ap (λ (y : Size). y.generation) (in_one k) in let goal : a.generation ≤ x.generation = omega arith in goal)
      ],
    )
    go false ge = (
      in_front seen (a ∷ []) is.0,
      is.1,
      λ x m so'. elim (in_either seen (a ∷ []) m) [
        | inl k ↦ is.2 x k so'
        | inr k ↦ (let l : r.generation ≤ a.generation = at_least a.generation r.generation ge in let e : x.generation ≡ a.generation = ap (λ (y : Size). y.generation) (in_one k) in let goal : r.generation ≤ x.generation = omega arith in goal)
      ],
    )

first_leads : (all : List Sizes) (seen leads : List Size) (found : Option Size) → IsFirst all seen found → IsFirst all (seen ++ leads) (first_led all found leads)
first_leads all seen [] found is = subst (λ (xs : List Size). IsFirst all xs found) (sym (append-nil seen)) is
first_leads all seen (a ∷ leads) found is =
    subst (λ (xs : List Size). IsFirst all xs (first_led all found (a ∷ leads))) (append_assoc seen (a ∷ []) leads)
    (first_leads all (seen ++ a ∷ []) leads (first_if (is_accepted all a.generation) a found) (first_more all seen a found (is_accepted all a.generation) refl is))

abbrev all_leads : List Sizes → List Size
all_leads [] = []
all_leads (t ∷ ts) = t.leads ++ all_leads ts

first_all : (all : List Sizes) (seen : List Size) (ts : List Sizes) (found : Option Size) → IsFirst all seen found → IsFirst all (seen ++ all_leads ts) (first_of all found ts)
first_all all seen [] found is = subst (λ (xs : List Size). IsFirst all xs found) (sym (append-nil seen)) is
first_all all seen (t ∷ ts) found is =
    subst (λ (xs : List Size). IsFirst all xs (first_of all found (t ∷ ts))) (append_assoc seen t.leads (all_leads ts))
    (first_all all (seen ++ t.leads) ts (first_led all found t.leads) (first_leads all seen t.leads found is))

first_is : (all : List Sizes) → IsFirst all (all_leads all) (first_master all)
first_is all = first_all all [] all None (λ a m. absurd (nothing m))

leads_more : (xs : List Sizes) (t : Sizes) → all_leads (xs ++ t ∷ []) ≡ all_leads xs ++ t.leads
leads_more [] t = append-nil t.leads
leads_more (x ∷ xs) t = ap (λ (ls : List Size). x.leads ++ ls) (leads_more xs t) ∙ sym (append_assoc x.leads (all_leads xs) t.leads)

-- what was led with, by whom
leader_of : (n : ℕ) (lengths : List (List ℕ)) (h : List (ℕ × Event)) (a : Size) → In a (all_leads (all_sizes n lengths h)) → (k : ℕ) × (0 < k) × (k ≤ n) × In a (sizes_at lengths h k).leads
leader_of zero lengths h a m = absurd (nothing m)
leader_of (suc n) lengths h a m = elim (in_either (all_leads (all_sizes n lengths h)) (sizes_at lengths h (suc n)).leads (subst (λ (xs : List Size). In a xs) (leads_more (all_sizes n lengths h) (sizes_at lengths h (suc n))) m)) [
  | inl k ↦ (let r = leader_of n lengths h a k in let p : 0 < r.0 = r.1 in let l : r.0 ≤ n = r.2 in let l' : r.0 ≤ suc n = omega arith in (r.0, r.1, l', r.3))
  | inr k ↦ (let p : 0 < suc n = omega arith in let l : suc n ≤ suc n = omega arith in (suc n, p, l, k))
]

lead_in : (n : ℕ) (lengths : List (List ℕ)) (h : List (ℕ × Event)) (a : Size) (k : ℕ) → 0 < k → k ≤ n → In a (sizes_at lengths h k).leads → In a (all_leads (all_sizes n lengths h))
lead_in zero lengths h a k pos le m = absurd (omega arith)
lead_in (suc n) lengths h a k pos le m = subst (λ (xs : List Size). In a xs) (sym (leads_more (all_sizes n lengths h) (sizes_at lengths h (suc n)))) (go (λ low. lead_in n lengths h a k pos low m) (k == suc n) refl)
  where
    go : (k ≤ n → In a (all_leads (all_sizes n lengths h))) → (b : Bool) → (k == suc n) ≡ b → In a (all_leads (all_sizes n lengths h) ++ (sizes_at lengths h (suc n)).leads)
    go earlier_in true e =
        let same : k ≡ suc n = (Decides-eqb k (suc n)).0 e in
        in_back (all_leads (all_sizes n lengths h)) (sizes_at lengths h (suc n)).leads (subst (λ i. In a (sizes_at lengths h i).leads) same m)
    go earlier_in false e =
        let other : k ≡ suc n → ⊥ = λ same. absurd (cc (e, (Decides-eqb k (suc n)).1 same)) in
        in_front (all_leads (all_sizes n lengths h)) (sizes_at lengths h (suc n)).leads (earlier_in (below_it k n le other))

-- who led is one of the nodes
abbrev LeadsOf : ℕ → ℕ → Own KeptEntry → Type 0
LeadsOf n k o = (x : Claim KeptEntry) → In x o.leads → (1 ≤ k) × (k ≤ n)

new_leads : (n i : ℕ) (o : Own KeptEntry) (e : NodeEvent KeptEntry) → IsActedBy n i e → LeadsOf n i o → LeadsOf n i (change i o e)
new_leads n i o NodeEvent.Lead by old x m = by
new_leads n i o NodeEvent.BackLead by old x m = by
new_leads n i o _ by old x m = old x m

leads_step : (G : Setting) (g : List (ℕ × ActorEvent)) (i : ℕ) (e : ActorEvent) → MayDo G g i e → ((k : ℕ) → LeadsOf G.nodes k ((field g).core.nodes k)) → (k : ℕ) → LeadsOf G.nodes k ((field_after (add_act i e (acts g))).core.nodes k)
leads_step G g i (ActorEvent.Node e) may old k = at_node (field g).core i e (λ j o. LeadsOf G.nodes j o) k (new_leads G.nodes i ((field g).core.nodes i) e may.2 (old i)) (old k)
leads_step G g i ActorEvent.Stop may old k = at_node (field g).core i Down (λ j o. LeadsOf G.nodes j o) k (old i) (old k)
leads_step G g i (ActorEvent.Ask t) may old k = at_node (field g).core i (Asks t) (λ j o. LeadsOf G.nodes j o) k (old i) (old k)
leads_step G g i _ may old k = old k

leads_of_nodes : (G : Setting) (g : List (ℕ × ActorEvent)) → IsLegalHistory G g → (k : ℕ) → LeadsOf G.nodes k ((field g).core.nodes k)
leads_of_nodes G [] legal k = λ x m. absurd (nothing m)
leads_of_nodes G (x ∷ g) legal k = leads_step G g x.0 x.1 legal.0 (leads_of_nodes G g legal.1) k

-- an adopted log that is durable in its generation was accepted in it by a majority, and the other way round
durable_accepted : (G : Setting) (h : List (ℕ × Event)) (g : ℕ) (d : List KeptEntry) → DurableIn G.nodes (world G h) g d → Majority G.nodes (λ k. AcceptedBy G h g k)
durable_accepted G h g d m = record { who = m.who; many = m.many; hold = λ k pos le so. (let c = m.hold k pos le so in record { it = c.it; mem = c.mem; is = c.is.0 }) }

accepted_durable : (G : Setting) (h : List (ℕ × Event)) (m : ℕ) (a : Claim KeptEntry) → AreLegalSteps G h → In a ((world G h).nodes m).leads → Majority G.nodes (λ k. AcceptedBy G h a.gen k) → DurableIn G.nodes (world G h) a.gen a.log
accepted_durable G h m a legal led many = record { who = many.who; many = many.many; hold = λ k pos le so. begins k (many.hold k pos le so) }
  where
    begins : (k : ℕ) → AcceptedBy G h a.gen k → Has (λ c. (c.gen ≡ a.gen) × Front a.log c.log) ((world G h).nodes k).accepts
    begins k c =
        let f = ((inv_of G h legal).refs k).follows.at c.it c.mem in
        let inv = inv_of G h legal in
        let who : f.by ≡ m = one_leader inv f.by m f.adopted.it a f.adopted.mem led (f.adopted.is.0 ∙ c.is) in
        let mem : In f.adopted.it ((world G h).nodes m).leads = subst (λ j. In f.adopted.it ((world G h).nodes j).leads) who f.adopted.mem in
        let same = one_log inv m f.adopted.it a mem led (f.adopted.is.0 ∙ c.is) in
        record { it = c.it; mem = c.mem; is = (c.is, subst (λ (l : List KeptEntry). Front l c.it.log) same f.adopted.is.1) }

first_told : (G : Setting) (lengths : List (List ℕ)) (h : List (ℕ × Event)) → IsRun G lengths h → (found : Option Size) → IsFirst (all_sizes G.nodes lengths h) (all_leads (all_sizes G.nodes lengths h)) found → (best : Best)
    → ((m : ℕ) × (a : Claim KeptEntry) × IsFirstMaster G.nodes (world G h) m a × (base_by found best ≡ length a.log)) ⊎ (HasNoMaster G.nodes (world G h) × (base_by found best ≡ best.length))
first_told G lengths h run None is best = inr (none, refl)
  where
    none : HasNoMaster G.nodes (world G h)
    none k l led durable =
        let range = leads_of_nodes G (steps G h) (legal_steps G h run.legal) k l led in
        let pos : 0 < k = let p : 1 ≤ k = range.0 in omega arith in
        let its = of_node G lengths h run.noted run.legal k pos range.1 in
        let mem = lead_in G.nodes lengths h (size l.gen (length l.log)) k pos range.1 (subst (λ (xs : List Size). In (size l.gen (length l.log)) xs) (sym its.leads) (in_sized ((world G h).nodes k).leads led)) in
        let so = accepted_of G lengths h l.gen run (durable_accepted G h l.gen l.log durable) in
        let not_so = is (size l.gen (length l.log)) mem in
        absurd (cc (so, not_so))
first_told G lengths h run (Some r) is best = inl (whose.0, claim.it, record { mem = claim.mem; durable = its_durable; least = least }, ap (λ (x : Size). x.length) claim.is)
  where
    whose : (k : ℕ) × (0 < k) × (k ≤ G.nodes) × In r (sizes_at lengths h k).leads
    whose = leader_of G.nodes lengths h r is.0

    its : IsSizeOf ((world G h).nodes whose.0) (sizes_at lengths h whose.0)
    its = of_node G lengths h run.noted run.legal whose.0 whose.1 whose.2

    claim : Has (λ c. r ≡ size c.gen (length c.log)) ((world G h).nodes whose.0).leads
    claim = sized_in ((world G h).nodes whose.0).leads (subst (λ (xs : List Size). In r xs) its.leads whose.3)

    gen : r.generation ≡ claim.it.gen
    gen = ap (λ (x : Size). x.generation) claim.is

    its_durable : DurableIn G.nodes (world G h) claim.it.gen claim.it.log
    its_durable = accepted_durable G h whose.0 claim.it run.legal claim.mem (majority_of G lengths h claim.it.gen run (subst (λ g. is_accepted (all_sizes G.nodes lengths h) g ≡ true) gen is.1))

    least : (k : ℕ) (l : Claim KeptEntry) → In l ((world G h).nodes k).leads → DurableIn G.nodes (world G h) l.gen l.log → claim.it.gen ≤ l.gen
    least k l led durable =
        let range = leads_of_nodes G (steps G h) (legal_steps G h run.legal) k l led in
        let pos : 0 < k = let p : 1 ≤ k = range.0 in omega arith in
        let own = of_node G lengths h run.noted run.legal k pos range.1 in
        let mem = lead_in G.nodes lengths h (size l.gen (length l.log)) k pos range.1 (subst (λ (xs : List Size). In (size l.gen (length l.log)) xs) (sym own.leads) (in_sized ((world G h).nodes k).leads led)) in
        let low : r.generation ≤ l.gen = is.2 (size l.gen (length l.log)) mem (accepted_of G lengths h l.gen run (durable_accepted G h l.gen l.log durable)) in
        let e : r.generation ≡ claim.it.gen = gen in
        omega arith

-- the pair of a node, and that one isn't less
below_trans : (a n b m c l : ℕ) → Below a n b m → Below b m c l → Below a n c l
below_trans a n b m c l (inl x) (inl y) = inl (omega (arith, x, y))
below_trans a n b m c l (inl x) (inr y) = let e : b ≡ c = y.0 in inl (omega (arith, x, e))
below_trans a n b m c l (inr x) (inl y) = let e : a ≡ b = x.0 in inl (omega (arith, e, y))
below_trans a n b m c l (inr x) (inr y) = let e : n ≤ m = x.1 in let f : m ≤ l = y.1 in let g : n ≤ l = omega arith in inr (x.0 ∙ y.0, g)

above : (a b n m : ℕ) (x y z : Bool) → ltb b a ≡ x → (a == b) ≡ y → ltb m n ≡ z → (x || (y && z)) ≡ true → Below b m a n
above a b n m true y z e f g so = inl ((Decides-ltb b a).0 e)
above a b n m false true true e f g so =
    let l : m < n = (Decides-ltb m n).0 g in
    let k : m ≤ n = omega arith in
    inr (sym ((Decides-eqb a b).0 f), k)
above a b n m false true false e f g so = absurd (cc so)
above a b n m false false z e f g so = absurd (cc so)

not_above : (a b n m : ℕ) (x y z : Bool) → ltb b a ≡ x → (a == b) ≡ y → ltb m n ≡ z → (x || (y && z)) ≡ false → Below a n b m
not_above a b n m true y z e f g not_so = absurd (cc not_so)
not_above a b n m false true true e f g not_so = absurd (cc not_so)
not_above a b n m false true false e f g not_so = inr ((Decides-eqb a b).0 f, at_least m n g)
not_above a b n m false false z e f g not_so =
    let l : a ≤ b = at_least b a e in
    let ne : a ≡ b → ⊥ = λ same. absurd (cc (f, (Decides-eqb a b).1 same)) in
    inl (less_than a b l ne)

-- the best of the nodes below a number
record IsTop (at : ℕ → Sizes) (k : ℕ) (best : Best) : Type 0 where
  pos : 0 < best.node
  low : best.node < k
  accepted : best.accepted ≡ (at best.node).accepted
  length : best.length ≡ (at best.node).length
  all : (j : ℕ) → 0 < j → j < k → Below (at j).accepted (at j).length best.accepted best.length

top_more : (at : ℕ → Sizes) (k : ℕ) (best : Best) (b : Bool) → 0 < k → outranks (at k) best ≡ b → IsTop at k best → IsTop at (k + 1) (if b then record { node = k; accepted = (at k).accepted; length = (at k).length } else best)
top_more at k best true pos so is =
    let t : Sizes = at k in
    let up = above t.accepted best.accepted t.length best.length (ltb best.accepted t.accepted) (t.accepted == best.accepted) (ltb best.length t.length) refl refl refl so in
    record {
      pos = pos;
      low = omega arith;
      accepted = refl;
      length = refl;
      all = λ j p l. elim (either_below j k l) [
        | inl less ↦ below_trans (at j).accepted (at j).length best.accepted best.length t.accepted t.length (is.all j p less) up
        | inr same ↦ subst (λ i. Below (at i).accepted (at i).length t.accepted t.length) (sym same) (inr (refl, (let e : t.length ≤ t.length = omega arith in e)))
      ];
    }
top_more at k best false pos not_so is =
    let t : Sizes = at k in
    let down = not_above t.accepted best.accepted t.length best.length (ltb best.accepted t.accepted) (t.accepted == best.accepted) (ltb best.length t.length) refl refl refl not_so in
    let l : best.node < k = is.low in
    let l' : best.node < k + 1 = omega arith in
    record {
      pos = is.pos;
      low = l';
      accepted = is.accepted;
      length = is.length;
      all = λ j p l. elim (either_below j k l) [
        | inl less ↦ is.all j p less
        | inr same ↦ subst (λ i. Below (at i).accepted (at i).length best.accepted best.length) (sym same) down
      ];
    }

-- the first of them
top_first : (at : ℕ → Sizes) (b : Bool) → outranks (at 1) (record { node = 1; accepted = 0; length = 0 }) ≡ b → IsTop at 2 (if b then record { node = 1; accepted = (at 1).accepted; length = (at 1).length } else record { node = 1; accepted = 0; length = 0 })
top_first at true so = record {
  pos = omega arith;
  low = omega arith;
  accepted = refl;
  length = refl;
  all = λ j p l. (let e : j ≡ 1 = omega arith in subst (λ i. Below (at i).accepted (at i).length (at 1).accepted (at 1).length) (sym e) (inr (refl, (let r : (at 1).length ≤ (at 1).length = omega arith in r))));
}
top_first at false not_so =
    let t : Sizes = at 1 in
    let down = not_above t.accepted 0 t.length 0 (ltb 0 t.accepted) (t.accepted == 0) (ltb 0 t.length) refl refl refl not_so in
    let none = both_zero t.accepted t.length down in
    record {
      pos = omega arith;
      low = omega arith;
      accepted = sym none.0;
      length = sym none.1;
      all = λ j p l. (let e : j ≡ 1 = omega arith in subst (λ i. Below (at i).accepted (at i).length 0 0) (sym e) down);
    }

best_more : (best : Best) (k : ℕ) (xs : List Sizes) (t : Sizes) → best_from best k (xs ++ t ∷ []) ≡ better (best_from best k xs) (k + length xs) t
best_more best k [] t = let e : k ≡ k + 0 = omega arith in ap (λ n. better best n t) e
best_more best k (x ∷ xs) t =
    let e : (k + 1) + length xs ≡ k + length (x ∷ xs) = omega arith in
    best_more (better best k x) (k + 1) xs t ∙ ap (λ n. better (best_from (better best k x) (k + 1) xs) n t) e

top_of : (n : ℕ) (lengths : List (List ℕ)) (h : List (ℕ × Event)) → IsTop (sizes_at lengths h) (n + 2) (best_of (all_sizes (suc n) lengths h))
top_of zero lengths h = top_first (sizes_at lengths h) (outranks (sizes_at lengths h 1) (record { node = 1; accepted = 0; length = 0 })) refl
top_of (suc n) lengths h =
    let at : ℕ → Sizes = sizes_at lengths h in
    let all : List Sizes = all_sizes (suc n) lengths h in
    let was = top_of n lengths h in
    let l : length all ≡ suc n = all_length (suc n) lengths h in
    let e : 1 + length all ≡ n + 2 = omega arith in
    let f : (n + 2) + 1 ≡ suc n + 2 = omega arith in
    let same : best_of (all_sizes (suc (suc n)) lengths h) ≡ better (best_of all) (n + 2) (at (suc (suc n))) = best_more (record { node = 1; accepted = 0; length = 0 }) 1 all (at (suc (suc n))) ∙ ap (λ k. better (best_of all) k (at (suc (suc n)))) e in
    let k : n + 2 ≡ suc (suc n) = omega arith in
    let step : IsTop at ((n + 2) + 1) (better (best_of all) (n + 2) (at (n + 2))) = top_more at (n + 2) (best_of all) (outranks (at (n + 2)) (best_of all)) (omega arith) refl was in
    let its : better (best_of all) (n + 2) (at (n + 2)) ≡ best_of (all_sizes (suc (suc n)) lengths h) = ap (λ i. better (best_of all) (n + 2) (at i)) k ∙ sym same in
    subst (λ i. IsTop at i (best_of (all_sizes (suc (suc n)) lengths h))) f (subst (λ (b : Best). IsTop at ((n + 2) + 1) b) its step)

tops : (n : ℕ) (lengths : List (List ℕ)) (h : List (ℕ × Event)) → 0 < n → IsTop (sizes_at lengths h) (n + 1) (best_of (all_sizes n lengths h))
tops zero lengths h pos = absurd (omega arith)
tops (suc n) lengths h pos = let e : n + 2 ≡ suc n + 1 = omega arith in subst (λ k. IsTop (sizes_at lengths h) k (best_of (all_sizes (suc n) lengths h))) e (top_of n lengths h)

pub reported_told : (G : Setting) (lengths : List (List ℕ)) (h : List (ℕ × Event)) → 0 < G.nodes → AreNoted G.nodes lengths h → AreLegalSteps G h
    → (0 < (tail G.nodes lengths h).reported) × ((tail G.nodes lengths h).reported ≤ G.nodes) × IsReported G.nodes (world G h) (tail G.nodes lengths h).reported
reported_told G lengths h pos noted legal =
    let top = tops G.nodes lengths h pos in
    let best : Best = best_of (all_sizes G.nodes lengths h) in
    let l : best.node < G.nodes + 1 = top.low in
    let low : best.node ≤ G.nodes = omega arith in
    let own = of_node G lengths h noted legal best.node top.pos low in
    let a : best.accepted ≡ ((world G h).nodes best.node).accepted = top.accepted ∙ own.accepted in
    let b : best.length ≡ length ((world G h).nodes best.node).log = top.length ∙ own.length in (
      top.pos,
      low,
      λ k p le. (
          let its = of_node G lengths h noted legal k p le in
          let j : k < G.nodes + 1 = omega arith in
          let under = top.all k p j in
          subst (λ x. Below ((world G h).nodes k).accepted (length ((world G h).nodes k).log) x (length ((world G h).nodes best.node).log)) a
          (subst (λ x. Below ((world G h).nodes k).accepted (length ((world G h).nodes k).log) best.accepted x) b
          (subst (λ x. Below x (length ((world G h).nodes k).log) best.accepted best.length) its.accepted
          (subst (λ x. Below (sizes_at lengths h k).accepted x best.accepted best.length) its.length under)))),
    )

pub master_told : (G : Setting) (lengths : List (List ℕ)) (h : List (ℕ × Event)) → 0 < G.nodes → AreNoted G.nodes lengths h → AreLegalSteps G h
    → ((m : ℕ) × (a : Claim KeptEntry) × IsFirstMaster G.nodes (world G h) m a × ((tail G.nodes lengths h).base ≡ length a.log))
    ⊎ (HasNoMaster G.nodes (world G h) × ((tail G.nodes lengths h).base ≡ length ((world G h).nodes (tail G.nodes lengths h).reported).log))
master_told G lengths h pos noted legal =
    let all : List Sizes = all_sizes G.nodes lengths h in
    let best : Best = best_of all in
    let top = tops G.nodes lengths h pos in
    let l : best.node < G.nodes + 1 = top.low in
    let low : best.node ≤ G.nodes = omega arith in
    let own = of_node G lengths h noted legal best.node top.pos low in
    elim (first_told G lengths h (record { noted = noted; legal = legal }) (first_master all) (first_is all) best) [
      | inl m ↦ inl m
      | inr m ↦ inr (m.0, m.1 ∙ (top.length ∙ own.length))
    ]
