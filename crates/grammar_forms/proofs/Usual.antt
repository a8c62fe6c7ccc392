-- The laws of the usual parts.
use Rattle.std.proofs.Common.{◌≡◌, ℕ, zero, suc, Bool, true, false, cond, ◌&&◌, List, [], ◌∷◌, ◌++◌, Some, None, refl, sym, ap, subst, ◌∙◌, true≢false, append-nil}
use Rattle.grammar_forms.specs.Forms.{Spelling, Reader}
use Rattle.grammar_forms.specs.Forms.{As, as_of, Nothing, nothing, Both, both, Many, many}
use Rattle.grammar_forms.specs.Parts.{passed, kept, Word, word, first_of_two, second_of_two, After, after, Before, before, Optional, optional, list_of, Separated, separated, UpTo, up_to}
use Rattle.grammar_forms.specs.Kinds.{has, of, when, apart}
use Rattle.grammar_forms.specs.Laws.{Exact}
use Rattle.grammar_forms.proofs.Alike.{has_append, in_left, in_right}
use Rattle.grammar_forms.proofs.Sequence.{exact_one, exact_nothing, exact_as, exact_both}
use Rattle.grammar_forms.proofs.Choice.{exact_either, widen_to}
use Rattle.grammar_forms.proofs.Repeat.{exact_many}

passes : (b : Bool) (x : Unit {0}) → passed b ≡ Some x → b ≡ true
passes true x e = refl
passes false x e = cc

kept_on : (b : Bool) → b ≡ true → passed b ≡ Some tt
kept_on true e = refl
kept_on false e = absurd (true≢false (sym e))

module _ {T : Type 0} (kind : T → ℕ) where
  -- a word: any token of these kinds, and t is one
  pub exact_word : (ks : List ℕ) (t : T) → has ks (kind t) ≡ true → Exact kind (Word (of kind ks)) (word (of kind ks)) false ks []
  exact_word ks t e = exact_one kind (kept (of kind ks)) ks (λ u x h. passes (has ks (kind u)) x h) t tt (kept_on (has ks (kind t)) e)

  apart_none : (js : List ℕ) → apart [] js ≡ true
  apart_none [] = refl
  apart_none (j ∷ js) = apart_none js

  no_more : (ks : List ℕ) (n : ℕ) → has (ks ++ []) n ≡ true → has ks n ≡ true
  no_more ks n h = subst (λ l. has l n ≡ true) (append-nil ks) h

  none_when : (ks : List ℕ) (b : Bool) (n : ℕ) → has (ks ++ when b []) n ≡ true → has ks n ≡ true
  none_when ks true n h = no_more ks n h
  none_when ks false n h = no_more ks n h

  -- of the longer list once more what it has already
  in_both : (ks js : List ℕ) (n : ℕ) (b : Bool) → has ks n ≡ b → ((m : ℕ) → has ks m ≡ true → has js m ≡ true) → (is : List ℕ) → ((m : ℕ) → has is m ≡ true → has js m ≡ true) → has (ks ++ is) n ≡ true → has js n ≡ true
  in_both ks js n true e f is g h = f n e
  in_both ks js n false e f is g h = g n (ap (λ b. cond b true (has is n)) (sym e) ∙ sym (has_append ks is n) ∙ h)

  pub within_both : (ks is js : List ℕ) → ((m : ℕ) → has ks m ≡ true → has js m ≡ true) → ((m : ℕ) → has is m ≡ true → has js m ≡ true) → (n : ℕ) → has (ks ++ is) n ≡ true → has js n ≡ true
  within_both ks is js f g n h = in_both ks js n (has ks n) refl f is g h

  module _ {A : Type 0} {S : Spelling T A} {r : Reader T A} where
    -- a word and a part
    pub exact_after : {n : Bool} {firsts mores : List ℕ} → (ks : List ℕ) (t : T) → has ks (kind t) ≡ true → Exact kind S r n firsts mores → Exact kind (After (of kind ks) S) (after (of kind ks) r) false ks mores
    exact_after {n} {firsts} {mores} ks t e E =
        widen_to kind (exact_both kind second_of_two (Word (of kind ks)) S (word (of kind ks)) r (exact_word ks t e) E (apart_none firsts)) (no_more ks) (none_when mores n)

    -- a part and a word
    pub exact_before : {n : Bool} {firsts mores : List ℕ} → (ks : List ℕ) (t : T) → has ks (kind t) ≡ true → Exact kind S r n firsts mores → apart mores ks ≡ true → Exact kind (Before (of kind ks) S) (before (of kind ks) r) (n && false) (firsts ++ when n ks) []
    exact_before ks t e E seam = exact_both kind first_of_two S (Word (of kind ks)) r (word (of kind ks)) E (exact_word ks t e) seam

    module _ {firsts mores : List ℕ} (E : Exact kind S r false firsts mores) where
      -- a part that may be left out
      pub exact_optional : Exact kind (Optional S) (optional (of kind firsts) r) true firsts (mores ++ firsts)
      exact_optional =
          widen_to kind (exact_either kind (of kind firsts) (As Some S) (Nothing None) (as_of Some r) (nothing None) (exact_as kind Some S r E) (exact_nothing kind None) (λ t. refl) refl) (no_more firsts) (λ m h. h)

      -- parts with a word between every two
      pub exact_separated : (ks : List ℕ) (t : T) → has ks (kind t) ≡ true → apart mores ks ≡ true → Exact kind (Separated (of kind ks) S) (separated (of kind ks) r) false firsts (ks ++ mores)
      exact_separated ks t e seam =
          widen_to kind
          (exact_both kind list_of S (Many (After (of kind ks) S)) r (many (of kind ks) (after (of kind ks) r)) E
          (exact_many kind (of kind ks) (After (of kind ks) S) (after (of kind ks) r) (exact_after ks t e E) (λ u. refl) seam) seam)
          (no_more firsts)
          (within_both (ks ++ mores) mores (ks ++ mores) (λ m h. h) (in_right ks mores))

      -- at most so many parts
      pub exact_up_to : apart mores firsts ≡ true → (n : ℕ) → Exact kind (UpTo n S) (up_to n (of kind firsts) r) true firsts (firsts ++ mores)
      exact_up_to seam zero = widen_to kind (exact_nothing kind []) (λ m h. cc) (λ m h. cc)
      exact_up_to seam (suc n) =
          widen_to kind
          (exact_either kind (of kind firsts) (Both list_of S (UpTo n S)) (Nothing []) (both list_of r (up_to n (of kind firsts) r)) (nothing [])
          (widen_to kind (exact_both kind list_of S (UpTo n S) r (up_to n (of kind firsts) r) E (exact_up_to seam n) seam) (no_more firsts) (λ m h. h))
          (exact_nothing kind []) (λ t. refl) refl)
          (no_more firsts)
          (within_both ((firsts ++ mores) ++ mores) firsts (firsts ++ mores) (within_both (firsts ++ mores) mores (firsts ++ mores) (λ m h. h) (in_right firsts mores)) (in_left firsts mores))
