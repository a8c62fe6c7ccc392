-- The history, once one seat has all.
use Rattle.std.proofs.Common.{◌≡◌, ◌∙◌, ◌≤◌, ℕ, arith, List, [], ◌∷◌, ◌++◌, map, reverse, sym, ap, subst}
use Rattle.std.proofs.lemmas.List.{reverse-append}
use mathlib.Core.Option.{some}
use lib.ListN.{get_elem?}
use Rattle.atomic_table.specs.Table.{Me}
use Rattle.actor_trace.specs.declared.view.View.{View}
use Rattle.actor_trace.specs.Lists.In.{here, there}
use Rattle.actor_trace.specs.Actors.{IsHistory, Knows, tag_of}
use Rattle.actor_trace.specs.Lists.{In, times, total}
use Rattle.actor_trace.specs.Rules.{Kept}
use Rattle.actor_trace.specs.Views.{Fits, has}
use Rattle.actor_trace.proofs.Numbers.{tags_back}
use Rattle.actor_trace.proofs.Totals.{total_has}

pub in_map : {A B : Type 0} (f : A → B) (xs : List A) (x : A) → In x xs → In (f x) (map f xs)
in_map f (y ∷ xs) x here = here
in_map f (y ∷ xs) x (there m) = there (in_map f xs x m)
in_map f [] x m = elim m [ ]

pub in_left : {A : Type 0} (xs ys : List A) (x : A) → In x xs → In x (xs ++ ys)
in_left [] ys x m = elim m [ ]
in_left (y ∷ xs) ys x here = here
in_left (y ∷ xs) ys x (there m) = there (in_left xs ys x m)

pub in_right : {A : Type 0} (xs ys : List A) (x : A) → In x ys → In x (xs ++ ys)
in_right [] ys x m = m
in_right (y ∷ xs) ys x m = there (in_right xs ys x m)

pub in_reverse : {A : Type 0} (xs : List A) (x : A) → In x xs → In x (reverse xs)
in_reverse [] x m = elim m [ ]
in_reverse (y ∷ xs) x here = subst (λ t. In y t) (sym (reverse-append (y ∷ []) xs)) (in_right (reverse xs) (y ∷ []) y here)
in_reverse (y ∷ xs) x (there m) = subst (λ t. In x t) (sym (reverse-append (y ∷ []) xs)) (in_left (reverse xs) (y ∷ []) x (in_reverse xs x m))

pub history_of : {E : Type 0} (enabled : List (ℕ × E) → ℕ → E → Type 0) (n id : ℕ) (words : List ℕ) (views : List (View E)) (all : List (Knows E)) (me : Me (Unit {0}) (View E))
    → (k : Kept enabled n words views) → get_elem? views id ≡ some me.0 → me ≡ has (reverse all) → IsHistory enabled n all k.log
history_of {E} enabled n id words views all me k get is =
    let f : Fits n k.log me.0 = k.fits id me.0 get in
    let made_is : me.0.made ≡ map tag_of (reverse all) = ap (λ (m : Me (Unit {0}) (View E)). m.0.made) is in
    let heard_is : me.0.heard ≡ map (λ (a : Knows E). a.seen) (reverse all) = ap (λ (m : Me (Unit {0}) (View E)). m.0.heard) is in
    record {
      legal = k.legal;
      below = k.below;
      made = λ x m. (f.made x.number x.made (subst (λ t. In (x.number, x.made) t) (sym made_is) (in_map (tag_of {E = E}) (reverse all) x (in_reverse all x m)))).1;
      seen = λ x m. f.hears x.seen (subst (λ t. In x.seen t) (sym heard_is) (in_map (λ (a : Knows E). a.seen) (reverse all) x (in_reverse all x m)));
      low = λ x m. (f.made x.number x.made (subst (λ t. In (x.number, x.made) t) (sym made_is) (in_map (tag_of {E = E}) (reverse all) x (in_reverse all x m)))).0;
      once = λ a.
          let has_too : times a me.0.made ≡ times a (map tag_of all) = ap (λ t. times a t) made_is ∙ tags_back a all in
          let sum : total (λ (v : View E). times a v.made) views ≤ 1 = k.once a in
          let own : times a me.0.made ≤ total (λ (v : View E). times a v.made) views = total_has (λ (v : View E). times a v.made) views id me.0 get in
          omega arith;
    }
