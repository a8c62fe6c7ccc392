-- A seat that takes in one actor after another.
use Rattle.std.proofs.Common.{◌≡◌, ℕ, List, [], ◌∷◌, ◌++◌, map, reverse, sym, refl, ap, ◌∙◌, append_assoc}
use Rattle.std.proofs.lemmas.List.{reverse-append}
use Rattle.atomic_table.specs.Table.{Me}
use Rattle.actor_trace.specs.Actors.{Knows, tag_of}
use Rattle.actor_trace.specs.Views.{a_view, has, has_too}
use Rattle.actor_trace.specs.declared.view.View.{View}

pub map_snoc : {A B : Type 0} (f : A → B) (xs : List A) (x : A) → map f (xs ++ x ∷ []) ≡ map f xs ++ f x ∷ []
map_snoc f [] x = refl
map_snoc f (y ∷ xs) x = ap (λ t. f y ∷ t) (map_snoc f xs x)

pub rev_snoc : {A : Type 0} (xs : List A) (x : A) → reverse (xs ++ x ∷ []) ≡ x ∷ reverse xs
rev_snoc xs x = reverse-append xs (x ∷ [])

pub rev_cons : {A : Type 0} (x : A) (xs : List A) → reverse (x ∷ xs) ≡ reverse xs ++ x ∷ []
rev_cons x xs = reverse-append (x ∷ []) xs

pub map_reverse : {A B : Type 0} (f : A → B) (xs : List A) → map f (reverse xs) ≡ reverse (map f xs)
map_reverse f [] = refl
map_reverse f (x ∷ xs) = ap (map f) (rev_cons x xs) ∙ (map_snoc f (reverse xs) x ∙ (ap (λ t. t ++ f x ∷ []) (map_reverse f xs) ∙ sym (rev_cons (f x) (map f xs))))

-- one more was popped
pub popped : {A : Type 0} (all back now later : List A) (x : A) → reverse all ≡ back ++ reverse now → now ≡ later ++ x ∷ [] → reverse all ≡ (back ++ x ∷ []) ++ reverse later
popped all back now later x e p = e ∙ (ap (λ t. back ++ reverse t) p ∙ (ap (λ t. back ++ t) (rev_snoc later x) ∙ sym (append_assoc back (x ∷ []) (reverse later))))

-- an actor's seat is taken in
pub taken : {E : Type 0} (me : Me (Unit {0}) (View E)) (x : Knows E) (w : View E) → w.made ≡ tag_of x ∷ [] → w.seen ≡ x.seen
    → (a_view (me.0.made ++ w.made) me.0.seen (me.0.heard ++ w.seen ∷ []), me.1) ≡ has_too me x
taken {E} me x w made seen =
    ap (λ (m : List (ℕ × List (ℕ × E))). (a_view (me.0.made ++ m) me.0.seen (me.0.heard ++ w.seen ∷ []), me.1)) made
    ∙ ap (λ (m : List (ℕ × E)). (a_view (me.0.made ++ tag_of x ∷ []) me.0.seen (me.0.heard ++ m ∷ []), me.1)) seen

pub has_more : {E : Type 0} (me : Me (Unit {0}) (View E)) (back : List (Knows E)) (x : Knows E) → me ≡ has back → has_too me x ≡ has (back ++ x ∷ [])
has_more {E} me back x e =
    let one : has_too me x ≡ has_too (has back) x = ap (λ (m : Me (Unit {0}) (View E)). has_too m x) e in
    let two : has_too (has back) x ≡ has (back ++ x ∷ []) = rw (map_snoc (tag_of {E = E}) back x, map_snoc (λ (a : Knows E). a.seen) back x) refl in
    one ∙ two
