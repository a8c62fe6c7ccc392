-- Each vote, each grant and each log of a node that came up is of a log that it accepted in the run, or with which it came up first.
use Rattle.std.proofs.Common.{◌≡◌, ℕ, List, [], ◌∷◌, refl, sym, subst, ap, ◌∙◌}
use Rattle.std.specs.Prelude.{◌==◌, Bool, true, false, cond}
use Rattle.std.proofs.lemmas.Bool.Decides.{Decides-eqb}
use mathlib.Core.Logic.{◌⊎◌, inl, inr}
use Rattle.cluster_consensus.proofs.Kept.{always, at_node}
use Rattle.cluster_consensus.specs.Enabled.{Enabled}
use Rattle.cluster_consensus.specs.Events.{NodeEvent, change}
use Rattle.cluster_consensus.specs.Events.NodeEvent.{Boot, BackLead, BackTake, BackGrow, BackAppend, Stand, Grants, Lead, Take, Grow, Append}
use Rattle.cluster_consensus.specs.Facts.{Claim, Grant, Own, Vote, World}
use Rattle.cluster_consensus.specs.Histories.{Legal, after}
use Rattle.cluster_facts.proofs.SourceLaws.{had}
use Rattle.cluster_facts.specs.Brought.{IsBrought}
use Rattle.core_lists.proofs.Lists.{each_add, each_more, each_none, nothing}
use Rattle.core_lists.specs.Lists.{Each, Has, In}
use Rattle.core_lists.specs.Lists.In.{here, there}

-- a pair was accepted by an event, or the node came up with it
abbrev pub IsSourced : {E : Type 0} → List (ℕ × NodeEvent E) → ℕ → Own E → ℕ → List E → Type 0
IsSourced h k o a l = Has (λ c. (c.gen ≡ a) × (c.log ≡ l)) o.accepts ⊎ IsBrought h k a l

pub record AreSourced {E : Type 0} (h : List (ℕ × NodeEvent E)) (k : ℕ) (o : Own E) : Type 0 where
  pub votes : Each (λ v. IsSourced h k o v.accepted v.log) o.votes
  pub grants : Each (λ x. IsSourced h k o x.accepted x.log) o.grants

-- a source stays one, where more is accepted and more happened
sourced_on : {E : Type 0} (h : List (ℕ × NodeEvent E)) (x : ℕ × NodeEvent E) (k : ℕ) (o p : Own E) (a : ℕ) (l : List E) → ((c : Claim E) → In c o.accepts → In c p.accepts) → IsSourced h k o a l → IsSourced (x ∷ h) k p a l
sourced_on h x k o p a l on (inl c) = inl (record { it = c.it; mem = on c.it c.mem; is = c.is })
sourced_on h x k o p a l on (inr b) = inr (b.0, there b.1)

all_on : {E : Type 0} (h : List (ℕ × NodeEvent E)) (x : ℕ × NodeEvent E) (k : ℕ) (o p : Own E) → ((c : Claim E) → In c o.accepts → In c p.accepts) → p.votes ≡ o.votes → p.grants ≡ o.grants → AreSourced h k o → AreSourced (x ∷ h) k p
all_on {E} h x k o p on votes grants is = record {
  votes = subst (λ (vs : List (Vote E)). Each (λ v. IsSourced (x ∷ h) k p v.accepted v.log) vs) (sym votes) (each_more (λ v s. sourced_on h x k o p v.accepted v.log on s) is.votes);
  grants = subst (λ (gs : List (Grant E)). Each (λ g. IsSourced (x ∷ h) k p g.accepted g.log) gs) (sym grants) (each_more (λ g s. sourced_on h x k o p g.accepted g.log on s) is.grants);
}

-- of a node that is up the pair that it has
now : {E : Type 0} (n : ℕ) (h : List (ℕ × NodeEvent E)) (i : ℕ) → Legal n h → ((after h).nodes i).up ≡ true → IsSourced h i ((after h).nodes i) ((after h).nodes i).accepted ((after h).nodes i).log
now n h i legal up = had i h (((always n h legal).local i).awake up)

sourced_row : {E : Type 0} (n : ℕ) (h : List (ℕ × NodeEvent E)) (i : ℕ) (e : NodeEvent E) → Legal n h → Enabled n (after h) i ((after h).nodes i) e → AreSourced h i ((after h).nodes i) → AreSourced ((i, e) ∷ h) i (change i ((after h).nodes i) e)
sourced_row {E} n h i (Stand g) legal en is =
    let o : Own E = (after h).nodes i in
    let p : Own E = change i o (Stand g) in
    let mine = sourced_on h (i, Stand g) i o p o.accepted o.log (λ c m. m) (now n h i legal en.0) in
    record {
      votes = each_add mine (each_more (λ v s. sourced_on h (i, Stand g) i o p v.accepted v.log (λ c m. m) s) is.votes);
      grants = each_add mine (each_more (λ v s. sourced_on h (i, Stand g) i o p v.accepted v.log (λ c m. m) s) is.grants);
    }
sourced_row {E} n h i (Grants g to) legal en is =
    let o : Own E = (after h).nodes i in
    let p : Own E = change i o (Grants g to) in
    let mine = sourced_on h (i, Grants g to) i o p o.accepted o.log (λ c m. m) (now n h i legal en.0) in
    record {
      votes = each_more (λ v s. sourced_on h (i, Grants g to) i o p v.accepted v.log (λ c m. m) s) is.votes;
      grants = each_add mine (each_more (λ v s. sourced_on h (i, Grants g to) i o p v.accepted v.log (λ c m. m) s) is.grants);
    }
sourced_row {E} n h i BackLead legal en is = let o : Own E = (after h).nodes i in all_on h (i, BackLead) i o (change i o BackLead) (λ c m. there m) refl refl is
sourced_row {E} n h i (BackTake g l) legal en is = let o : Own E = (after h).nodes i in all_on h (i, BackTake g l) i o (change i o (BackTake g l)) (λ c m. there m) refl refl is
sourced_row {E} n h i (BackGrow l) legal en is = let o : Own E = (after h).nodes i in all_on h (i, BackGrow l) i o (change i o (BackGrow l)) (λ c m. there m) refl refl is
sourced_row {E} n h i (BackAppend x) legal en is = let o : Own E = (after h).nodes i in all_on h (i, BackAppend x) i o (change i o (BackAppend x)) (λ c m. there m) refl refl is
sourced_row {E} n h i Lead legal en is = let o : Own E = (after h).nodes i in all_on h (i, Lead) i o (change i o Lead) (λ c m. there m) refl refl is
sourced_row {E} n h i (Take g l) legal en is = let o : Own E = (after h).nodes i in all_on h (i, Take g l) i o (change i o (Take g l)) (λ c m. there m) refl refl is
sourced_row {E} n h i (Grow l) legal en is = let o : Own E = (after h).nodes i in all_on h (i, Grow l) i o (change i o (Grow l)) (λ c m. there m) refl refl is
sourced_row {E} n h i (Append x) legal en is = let o : Own E = (after h).nodes i in all_on h (i, Append x) i o (change i o (Append x)) (λ c m. there m) refl refl is
sourced_row n h i _ legal en is = all_on h _ i ((after h).nodes i) _ (λ c m. m) refl refl is

pub sourced : {E : Type 0} (n : ℕ) (h : List (ℕ × NodeEvent E)) → Legal n h → (k : ℕ) → AreSourced h k ((after h).nodes k)
sourced n [] legal k = record { votes = each_none; grants = each_none }
sourced {E} n (x ∷ h) legal k =
    let w : World E = after h in
    at_node w x.0 x.1 (λ j o. AreSourced (x ∷ h) j o) k (sourced_row n h x.0 x.1 legal.1 legal.0 (sourced n h legal.1 x.0))
    (all_on h x k (w.nodes k) (w.nodes k) (λ c m. m) refl refl (sourced n h legal.1 k))

-- a node comes up for the first time once, with what its store had accepted
abbrev IsEntered : {E : Type 0} → List (ℕ × NodeEvent E) → ℕ → Own E → Type 0
IsEntered {E} h k o = (p a : ℕ) (l : List E) → In (k, Boot p a l) h → (o.store_accepted ≡ a) × (o.was_up ≡ true)

abbrev pub boots : {E : Type 0} → NodeEvent E → Bool
boots (Boot p a l) = true
boots _ = false

pub behind : {A : Type 0} {x y : A} {xs : List A} → (x ≡ y → ⊥) → In x (y ∷ xs) → In x xs
behind ne here = absurd (ne refl)
behind ne (there m) = m

pub split_in : {A : Type 0} {x y : A} {ys : List A} → In x (y ∷ ys) → (x ≡ y) ⊎ In x ys
split_in here = inl refl
split_in (there m) = inr m

entered_other : {E : Type 0} (h : List (ℕ × NodeEvent E)) (i : ℕ) (o : Own E) (e : NodeEvent E) → boots e ≡ false → (change i o e).store_accepted ≡ o.store_accepted → (change i o e).was_up ≡ o.was_up → IsEntered h i o → IsEntered ((i, e) ∷ h) i (change i o e)
entered_other {E} h i o e none same up f = λ p a l m. (
    let r = f p a l (behind (λ (z : ◌≡◌ {A = ℕ × NodeEvent E} (i, Boot p a l) (i, e)). (let b : true ≡ boots e = ap (λ (x : ℕ × NodeEvent E). boots x.1) z in absurd (cc (b, none)))) m) in
    (same ∙ r.0, up ∙ r.1))

entered_boot : {E : Type 0} (n : ℕ) (w : World E) (h : List (ℕ × NodeEvent E)) (i : ℕ) (e : NodeEvent E) → boots e ≡ true → Enabled n w i (w.nodes i) e → IsEntered h i (w.nodes i) → IsEntered ((i, e) ∷ h) i (change i (w.nodes i) e)
entered_boot {E} n w h i (Boot q b k) is en f = first
  where
    first : (p a : ℕ) (l : List E) → In (i, Boot p a l) ((i, Boot q b k) ∷ h) → (b ≡ a) × (true ≡ true)
    first p a l m = go (split_in m)
      where
        go : (◌≡◌ {A = ℕ × NodeEvent E} (i, Boot p a l) (i, Boot q b k)) ⊎ In (i, Boot p a l) h → (b ≡ a) × (true ≡ true)
        go (inl z) = let e : Boot p a l ≡ Boot q b k = ap (λ (x : ℕ × NodeEvent E). x.1) z in (cc e, refl)
        go (inr m) = let t : (w.nodes i).was_up ≡ true = (f p a l m).1 in let u : (w.nodes i).was_up ≡ false = en.1 in absurd (cc (t, u))
entered_boot n w h i _ is en f = absurd (let z : false ≡ true = is in cc)

-- another event changes nothing of that
calm : {E : Type 0} (i : ℕ) (o : Own E) (e : NodeEvent E) → boots e ≡ false → ((change i o e).store_accepted ≡ o.store_accepted) × ((change i o e).was_up ≡ o.was_up)
calm i o (Boot p a l) none = absurd (let z : true ≡ false = none in cc)
calm i o _ none = (refl, refl)

entered_row : {E : Type 0} (n : ℕ) (w : World E) (h : List (ℕ × NodeEvent E)) (i : ℕ) (e : NodeEvent E) → Enabled n w i (w.nodes i) e → IsEntered h i (w.nodes i) → IsEntered ((i, e) ∷ h) i (change i (w.nodes i) e)
entered_row n w h i e en f = by (boots e) refl
  where
    by : (b : Bool) → boots e ≡ b → IsEntered ((i, e) ∷ h) i (change i (w.nodes i) e)
    by true is = entered_boot n w h i e is en f
    by false none = entered_other h i (w.nodes i) e none (calm i (w.nodes i) e none).0 (calm i (w.nodes i) e none).1 f

pub entered : {E : Type 0} (n : ℕ) (h : List (ℕ × NodeEvent E)) → Legal n h → (k p a : ℕ) (l : List E) → In (k, Boot p a l) h → (((after h).nodes k).store_accepted ≡ a) × (((after h).nodes k).was_up ≡ true)
entered n [] legal k p a l m = absurd (nothing m)
entered {E} n (x ∷ h) legal k p a l m = go (k == x.0) refl (λ j. entered n h legal.1 j) p a l m
  where
    w : World E
    w = after h

    go : (b : Bool) → (k == x.0) ≡ b → ((j p a : ℕ) (l : List E) → In (j, Boot p a l) h → ((w.nodes j).store_accepted ≡ a) × ((w.nodes j).was_up ≡ true))
        → (p a : ℕ) (l : List E) → In (k, Boot p a l) (x ∷ h) → ((cond b (change x.0 (w.nodes x.0) x.1) (w.nodes k)).store_accepted ≡ a) × ((cond b (change x.0 (w.nodes x.0) x.1) (w.nodes k)).was_up ≡ true)
    go true e was p a l m =
        let same : k ≡ x.0 = (Decides-eqb k x.0).0 e in
        entered_row n w h x.0 x.1 legal.0 (was x.0) p a l (subst (λ j. In (j, Boot p a l) (x ∷ h)) same m)
    go false e was p a l m =
        was k p a l (behind (λ (z : ◌≡◌ {A = ℕ × NodeEvent E} (k, Boot p a l) x). (let s : k ≡ x.0 = ap (λ (y : ℕ × NodeEvent E). y.0) z in absurd (cc (e, (Decides-eqb k x.0).1 s)))) m)
