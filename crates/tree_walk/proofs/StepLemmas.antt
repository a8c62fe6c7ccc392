-- One page more of a level.
use Rattle.std.proofs.Common.{◌≡◌, ℕ, Bool, true, false, if◌then◌else◌, List, [], ◌∷◌, ◌++◌, Option, None, Some, refl, sym, ap, ◌∙◌, append_assoc, append-nil, drop, zero, suc, ◌+◌, ◌-◌, ◌<◌, arith}
use Rattle.std.specs.List.{slice_get}
use Rattle.page_store.specs.Image.{Image}
use Rattle.btree_index.specs.Trees.{Entry, below}
use Rattle.btree_index.proofs.FindLemmas.{drop_here}
use Rattle.tree_walk.specs.Walks.{is_inner, is_leaf_of, behind, descend, gather, over, walk_from}

pub behind_none : {A : Type 0} (o : Option (List A)) → behind [] o ≡ o
behind_none None = refl
behind_none (Some xs) = refl

pub behind_behind : {A : Type 0} (xs ys : List A) (o : Option (List A)) → behind xs (behind ys o) ≡ behind (xs ++ ys) o
behind_behind xs ys None = refl
behind_behind xs ys (Some zs) = ap (λ l. Some l) (sym (append_assoc xs ys zs))

pub down_more : (pages : ℕ → Image) (height : ℕ) (out more : List Entry) (e : Entry) (es : List Entry) (all : Option (List Entry))
    → behind out (descend pages height (e ∷ es)) ≡ all → is_inner height (pages e.page).head (pages e.page).cells ≡ true
    → more ≡ out ++ below e.low (pages e.page).cells → behind more (descend pages height es) ≡ all
down_more pages height out more e es all h is m =
    ap (λ (l : List Entry). behind l (descend pages height es)) m
    ∙ sym (behind_behind out (below e.low (pages e.page).cells) (descend pages height es))
    ∙ sym (ap (λ (t : Bool). behind out (if t then behind (below e.low (pages e.page).cells) (descend pages height es) else None)) is) ∙ h

pub down_stop : (pages : ℕ → Image) (height : ℕ) (out : List Entry) (e : Entry) (es : List Entry) (all : Option (List Entry))
    → behind out (descend pages height (e ∷ es)) ≡ all → is_inner height (pages e.page).head (pages e.page).cells ≡ false → None ≡ all
down_stop pages height out e es all h is =
    sym (ap (λ (t : Bool). behind out (if t then behind (below e.low (pages e.page).cells) (descend pages height es) else None)) is) ∙ h

pub down_end : (pages : ℕ → Image) (height : ℕ) (out : List Entry) (all : Option (List Entry)) → behind out (descend pages height []) ≡ all → Some out ≡ all
down_end pages height out all h = ap (λ (l : List Entry). Some l) (sym (append-nil out)) ∙ h

pub leaf_more : (pages : ℕ → Image) (out more : List (List ℕ)) (e : Entry) (es : List Entry) (all : Option (List (List ℕ)))
    → behind out (gather pages (e ∷ es)) ≡ all → is_leaf_of e es (pages e.page) ≡ true → more ≡ out ++ (pages e.page).cells → behind more (gather pages es) ≡ all
leaf_more pages out more e es all h is m =
    ap (λ (l : List (List ℕ)). behind l (gather pages es)) m
    ∙ sym (behind_behind out (pages e.page).cells (gather pages es))
    ∙ sym (ap (λ (t : Bool). behind out (if t then behind (pages e.page).cells (gather pages es) else None)) is) ∙ h

pub leaf_stop : (pages : ℕ → Image) (out : List (List ℕ)) (e : Entry) (es : List Entry) (all : Option (List (List ℕ)))
    → behind out (gather pages (e ∷ es)) ≡ all → is_leaf_of e es (pages e.page) ≡ false → None ≡ all
leaf_stop pages out e es all h is = sym (ap (λ (t : Bool). behind out (if t then behind (pages e.page).cells (gather pages es) else None)) is) ∙ h

pub leaf_end : (pages : ℕ → Image) (out : List (List ℕ)) (all : Option (List (List ℕ))) → behind out (gather pages []) ≡ all → Some out ≡ all
leaf_end pages out all h = ap (λ (l : List (List ℕ)). Some l) (sym (append-nil out)) ∙ h

pub copy_more : (xs : List (List ℕ)) (i : ℕ) (x : List ℕ) (out more : List (List ℕ)) → slice_get xs i ≡ Some x → out ++ drop i xs ≡ xs → more ≡ out ++ x ∷ []
    → more ++ drop (i + 1) xs ≡ xs
copy_more xs i x out more at so_far is =
    let next : suc i ≡ i + 1 = omega arith in
    ap (λ (l : List (List ℕ)). l ++ drop (i + 1) xs) is ∙ append_assoc out (x ∷ []) (drop (i + 1) xs)
    ∙ ap (λ (n : ℕ). out ++ (x ∷ drop n xs)) (sym next) ∙ ap (λ (l : List (List ℕ)). out ++ l) (sym (drop_here xs i x at)) ∙ so_far

pub add_more : (rest after out more all : List (List ℕ)) (x y : List ℕ) → rest ≡ x ∷ after → y ≡ x → more ≡ out ++ y ∷ [] → out ++ rest ≡ all → more ++ after ≡ all
add_more rest after out more all x y e same is h =
    ap (λ (l : List (List ℕ)). l ++ after) is ∙ append_assoc out (y ∷ []) after ∙ ap (λ (z : List ℕ). out ++ (z ∷ after)) same ∙ ap (λ (l : List (List ℕ)). out ++ l) (sym e) ∙ h

pub walk_next : (pages : ℕ → Image) (above : ℕ) (level next : List Entry) (all : Option (List (List ℕ))) → 0 < above → descend pages above level ≡ Some next
    → walk_from pages above level ≡ all → walk_from pages (above - 1) next ≡ all
walk_next pages zero level next all some h k = absurd (none some)
  where
    none : 0 < 0 → ⊥
    none h = omega arith
walk_next pages (suc above) level next all some h k =
    let less : suc above - 1 ≡ above = omega arith in
    ap (λ (n : ℕ). walk_from pages n next) less ∙ sym (ap (λ (d : Option (List Entry)). over d (λ below. walk_from pages above below)) h) ∙ k

pub walk_stop : (pages : ℕ → Image) (above : ℕ) (level : List Entry) (all : Option (List (List ℕ))) → 0 < above → descend pages above level ≡ None
    → walk_from pages above level ≡ all → None ≡ all
walk_stop pages zero level all some h k = absurd (none some)
  where
    none : 0 < 0 → ⊥
    none h = omega arith
walk_stop pages (suc above) level all some h k = sym (ap (λ (d : Option (List Entry)). over d (λ below. walk_from pages above below)) h) ∙ k
