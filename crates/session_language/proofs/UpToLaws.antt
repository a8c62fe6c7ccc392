-- Laws of replies that go up to a last one.
use Rattle.std.proofs.Common.{◌≡◌, List, [], ◌∷◌, ◌++◌, refl, sym, subst, ap, ◌∙◌, Bool, true, false, if◌then◌else◌, map}
use Rattle.std.specs.List.{AllByRecursion}
use Rattle.cdb_values.specs.declared.values.Value.{Value}
use Rattle.session_language.specs.Replies.{are_up_to, are_none, is_row, is_last_of}
use Rattle.cdb_values.specs.declared.replies.Reply.{Reply}
use Rattle.cdb_values.specs.declared.replies.Reply.TheVariants as reply

pub same_head : {A : Type 0} (x y : A) (xs ys : List A) → x ∷ xs ≡ y ∷ ys → x ≡ y
same_head x y xs ys is = cc

pub same_tail : {A : Type 0} (x y : A) (xs ys : List A) → x ∷ xs ≡ y ∷ ys → xs ≡ ys
same_tail x y xs ys is = cc

pub none_only : (rs : List Reply) → are_none rs ≡ true → rs ≡ []
none_only [] is = refl
none_only (r ∷ rs) is = absurd cc

-- of two lists that begin one longer list and go up to their first last reply, each is the other
pub up_to_same : (f : Reply → Bool) (xs ys more others : List Reply) → are_up_to f xs ≡ true → are_up_to f ys ≡ true → xs ++ more ≡ ys ++ others → xs ≡ ys
up_to_same f [] ys more others ends ends' is = absurd cc
up_to_same f (x ∷ xs) [] more others ends ends' is = absurd cc
up_to_same f (x ∷ xs) (y ∷ ys) more others ends ends' is =
    go (f x) refl ends (subst (λ (r : Reply). (if f r then are_none ys else are_up_to f ys) ≡ true) (sym head) ends')
    (λ e e'. up_to_same f xs ys more others e e' (same_tail x y (xs ++ more) (ys ++ others) is))
  where
    head : x ≡ y
    head = same_head x y (xs ++ more) (ys ++ others) is

    go : (b : Bool) → f x ≡ b → (if b then are_none xs else are_up_to f xs) ≡ true → (if b then are_none ys else are_up_to f ys) ≡ true →
        (are_up_to f xs ≡ true → are_up_to f ys ≡ true → xs ≡ ys) → x ∷ xs ≡ y ∷ ys
    go true at e e' later = ap (λ r. r ∷ xs) head ∙ ap (λ rs. y ∷ rs) (none_only xs e ∙ sym (none_only ys e'))
    go false at e e' later = ap (λ r. r ∷ xs) head ∙ ap (λ rs. y ∷ rs) (later e e')

-- replies that are none of them last, and then a last one
pub up_to_last : (f : Reply → Bool) (rs : List Reply) (r : Reply) → AllByRecursion (λ x. f x ≡ false) rs → f r ≡ true → are_up_to f (rs ++ r ∷ []) ≡ true
up_to_last f [] r all is = rw is refl
up_to_last f (x ∷ xs) r all is = rw (all.0) (up_to_last f xs r all.1 is)

-- one last reply
pub up_to_one : (f : Reply → Bool) (r : Reply) → f r ≡ true → are_up_to f (r ∷ []) ≡ true
up_to_one f r is = up_to_last f [] r tt is

-- rows, and then a reply that is no row
pub up_to_rows : (rows : List (List Value)) (r : Reply) → is_row r ≡ false → are_up_to (is_last_of false) (map reply.Row rows ++ r ∷ []) ≡ true
up_to_rows [] r is = rw is refl
up_to_rows (row ∷ rows) r is = up_to_rows rows r is
