-- An entry that a node takes in the generation that it accepted was appended in it.
use Rattle.std.proofs.Common.{ℕ, ◌≡◌, ◌+◌, ◌≤◌, List, [], ◌∷◌, ◌++◌, length, map, length-append, arith, refl, sym, subst, ap, ◌∙◌}
use Rattle.std.specs.Prelude.{◌==◌, true, cond}
use Rattle.std.proofs.lemmas.Bool.Decides.{Decides-eqb}
use Rattle.cluster_consensus.specs.Enabled.{CanGrow, Enabled}
use Rattle.cluster_consensus.specs.Events.{NodeEvent, change}
use Rattle.cluster_consensus.specs.Facts.{Claim, Own, World}
use Rattle.cluster_consensus.proofs.FactSteps.{grown, holds}
use Rattle.cluster_consensus.proofs.Generations.{one_leader, one_log}
use Rattle.cluster_consensus.proofs.Invariant.{Inv, Follows as Led}
use Rattle.cluster_events.specs.Parts.{ActorEvent, field}
use Rattle.cluster_events.specs.Settings.{Setting}
use Rattle.cluster_events.proofs.HistoryLaws.{good_of}
use Rattle.cluster_requests.specs.Identities.{generation_of as made_in}
use Rattle.cluster_requests.specs.KeptEntries.{KeptEntry, plain}
use Rattle.cluster_requests.specs.KeptEntries.KeptEntry.{SetupKept, CommitKept}
use Rattle.cluster_requests.specs.Requests.{Field}
use Rattle.cluster_requests.proofs.Settled.{Added, Good}
use Rattle.cluster_steps.specs.Named.{kept_over, log_named, steps, world}
use Rattle.cluster_steps.specs.declared.events.Event.{Event}
use Rattle.cluster_steps.specs.declared.events.Event.TheVariants as event
use Rattle.cluster_steps.proofs.StepLaws.{legal_steps}
use Rattle.core_lists.specs.Fronts.{Front}
use Rattle.core_lists.specs.Lists.{In}
use Rattle.core_lists.proofs.Fronts.{front_length, front_rest}
use Rattle.election_core.specs.declared.votes.NodeVote.{NodeVote}
use Rattle.phys_log.specs.declared.entries.Entry.{Entry}
use Rattle.store_log.specs.Held.{generation_of}
use Rattle.node_state.specs.Commits.{MayEnter}
use Rattle.node_state.specs.Nodes.{Follows, IsNode}
use Rattle.node_state.proofs.LeftLaws.{plain_kept}
use Rattle.node_state.proofs.LogLists.{map_size}

plain_gen : (e : KeptEntry) → generation_of (plain e) ≡ made_in e
plain_gen (SetupKept generation schema records reached) = refl
plain_gen (CommitKept generation id begin level changes records reached) = refl

-- a list with one more
one_behind : {A : Type 0} (xs zs ys : List A) → xs ++ zs ≡ ys → length ys ≡ length xs + 1 → (x : A) × (ys ≡ xs ++ x ∷ [])
one_behind xs [] ys e long =
    let a : length (xs ++ []) ≡ length ys = ap length e in
    let b : length (xs ++ []) ≡ length xs + 0 = length-append xs [] in
    absurd (omega arith)
one_behind xs (z ∷ []) ys e long = (z, sym e)
one_behind xs (z ∷ y ∷ zs) ys e long =
    let a : length (xs ++ z ∷ y ∷ zs) ≡ length ys = ap length e in
    let b : length (xs ++ z ∷ y ∷ zs) ≡ length xs + length (z ∷ y ∷ zs) = length-append xs (z ∷ y ∷ zs) in
    absurd (omega arith)

-- the last of two equal lists
last_same : {A : Type 0} (xs : List A) (x y : A) → xs ++ x ∷ [] ≡ xs ++ y ∷ [] → x ≡ y
last_same [] x y e = let f : x ∷ [] ≡ y ∷ [] = e in cc
last_same (z ∷ xs) x y e = last_same xs x y (let f : z ∷ (xs ++ x ∷ []) ≡ z ∷ (xs ++ y ∷ []) = e in cc)

map_last : (xs : List KeptEntry) (x : KeptEntry) → map plain (xs ++ x ∷ []) ≡ map plain xs ++ plain x ∷ []
map_last [] x = refl
map_last (z ∷ xs) x = ap (λ t. plain z ∷ t) (map_last xs x)

-- a log that is accepted in a generation begins with what its leader adopted
behind_lead : {n : ℕ} {w : World KeptEntry} → Inv n w → (i by : ℕ) (l : Claim KeptEntry) → In l (w.nodes by).leads → l.gen ≡ (w.nodes i).accepted → length l.log ≤ length (w.nodes i).log
behind_lead {n} {w} inv i by l mem gen =
    let c = holds inv i by l mem (omega arith) in
    let x : Led w c.it = (inv.refs i).follows.at c.it c.mem in
    let same : x.by ≡ by = one_leader inv x.by by x.adopted.it l x.adopted.mem mem (x.adopted.is.0 ∙ (c.is.0 ∙ sym gen)) in
    let at : In x.adopted.it (w.nodes by).leads = subst (λ t. In x.adopted.it (w.nodes t).leads) same x.adopted.mem in
    let log : x.adopted.it.log ≡ l.log = one_log inv by x.adopted.it l at mem (x.adopted.is.0 ∙ (c.is.0 ∙ sym gen)) in
    let le : length x.adopted.it.log ≤ length c.it.log = front_length x.adopted.is.1 in
    let a : length x.adopted.it.log ≡ length l.log = ap length log in
    let b : length c.it.log ≡ length (w.nodes i).log = ap length c.is.1 in
    omega arith

-- what it grows by
grown_gen : {n : ℕ} {f : Field} → Good n f → (i : ℕ) (l : List KeptEntry) (log : List Entry) (e : Entry) → CanGrow f.core (f.core.nodes i) l → log ≡ map plain (f.core.nodes i).log → log ++ e ∷ [] ≡ map plain l
    → length l ≡ length (f.core.nodes i).log + 1 → generation_of e ≡ (f.core.nodes i).accepted
grown_gen {n} {f} good i l log e can is whole long =
    let o : Own KeptEntry = f.core.nodes i in
    let r = front_rest (grown good.inv i l can).0 in
    let x = one_behind o.log r.0 l r.1 long in
    let s = can.2 in
    let a : Added f.core f.sends s.it = (good.added can.1).at s.it ((good.inv.local can.1).ships.at s.it s.mem).1 in
    let le : length a.lead.log ≤ length o.log = behind_lead good.inv i a.by a.lead a.mem (a.gen ∙ s.is.0) in
    let gen : made_in x.0 ≡ s.it.gen = (a.rest o.log x.0 (subst (λ t. Front t s.it.log) x.1 s.is.1) le).0 in
    let same : e ≡ plain x.0 = last_same (map plain o.log) e (plain x.0) (ap (λ t. t ++ e ∷ []) (sym is) ∙ (whole ∙ (ap (map plain) x.1 ∙ map_last o.log x.0))) in
    ap generation_of same ∙ (plain_gen x.0 ∙ (gen ∙ s.is.0))

abbrev core_of : NodeEvent KeptEntry → ActorEvent → NodeEvent KeptEntry
core_of c (ActorEvent.Node e) = e
core_of c _ = c

-- an entry that it takes so
pub taken_gen : (G : Setting) (v u : NodeVote) (log : List Entry) (e : Entry) (seen : List (ℕ × Event)) (g n : ℕ) → IsNode G v log seen → Follows G v.node (event.Take g n) u (log ++ e ∷ []) seen → v.accepted ≡ g
    → generation_of e ≡ v.accepted
taken_gen G v u log e seen g n is f acc =
    grown_gen good v.node l log e can is.log_is whole long ∙ sym is.part.accepted
  where
    w : World KeptEntry
    w = world G seen

    o : Own KeptEntry
    o = w.nodes v.node

    l : List KeptEntry
    l = log_named G.nodes w g n

    good : Good G.nodes (field (steps G seen))
    good = good_of G (steps G seen) (legal_steps G seen is.legal)

    yes : (g == o.accepted) ≡ true
    yes = (Decides-eqb g o.accepted).1 (sym acc ∙ is.part.accepted)

    core : f.core ≡ NodeEvent.Grow l
    core = sym (ap (core_of f.core) f.name) ∙ ap (λ b. cond b (NodeEvent.Grow l) (NodeEvent.Take g l)) yes

    can : CanGrow w o l
    can =
        let en : Enabled G.nodes w v.node o (cond (g == o.accepted) (NodeEvent.Grow l) (NodeEvent.Take g l)) = f.may.allowed.may.0.0 in
        (subst (λ b. Enabled G.nodes w v.node o (cond b (NodeEvent.Grow l) (NodeEvent.Take g l))) yes en).1

    whole : log ++ e ∷ [] ≡ map plain l
    whole = f.log_is ∙ ap (λ c. map plain (change v.node o c).log) core

    long : length l ≡ length o.log + 1
    long =
        let a : length (log ++ e ∷ []) ≡ length (map plain l) = ap length whole in
        let b : length (log ++ e ∷ []) ≡ length log + 1 = length-append log (e ∷ []) in
        let c : length (map plain l) ≡ length l = map_size plain l in
        let d : length log ≡ length (map plain o.log) = ap length is.log_is in
        let k : length (map plain o.log) ≡ length o.log = map_size plain o.log in
        omega arith

-- an entry that it may append, and that it is up then
pub enters_gen : (G : Setting) (v : NodeVote) (log : List Entry) (seen : List (ℕ × Event)) (x : Entry) → IsNode G v log seen → MayEnter G seen v.node x → generation_of x ≡ v.accepted
enters_gen G v log seen x is may =
    ap generation_of (sym (plain_kept _ x)) ∙ (plain_gen (kept_over ((world G seen).nodes v.node).log x) ∙ (may.may.0.1.made ∙ sym is.part.accepted))

pub enters_up : (G : Setting) (v : NodeVote) (log : List Entry) (seen : List (ℕ × Event)) (x : Entry) → IsNode G v log seen → MayEnter G seen v.node x → v.up ≡ true
enters_up G v log seen x is may = is.part.up ∙ may.may.0.0.0
