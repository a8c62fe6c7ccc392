-- A loop that reads parts one behind the other: what it has read so far, before what the reader finds in the rest.
use Rattle.std.proofs.Common.{◌≡◌, ℕ, Bool, true, false, List, [], ◌∷◌, ◌++◌, refl, sym, ap, ◌∙◌, append_assoc, append-nil}
use Rattle.grammar_forms.specs.Forms.{Spelling, Reader, ReadOutcome, Read, Refused, next_is, and_then, many}
use Rattle.grammar_forms.specs.Laws.{Exact}
use Rattle.grammar_forms.proofs.Repeat.{with_first, many_on, many_end, first_part}

-- the parts so far, before those to come
abbrev pub with_front : {T A : Type 0} → List A → ReadOutcome T (List A) → ReadOutcome T (List A)
with_front front o = and_then o (λ xs k. Read (front ++ xs) k)

front_grows : {T A : Type 0} (front : List A) (x : A) (o : ReadOutcome T (List A)) → with_front front (and_then o (λ xs k. Read (x ∷ xs) k)) ≡ with_front (front ++ x ∷ []) o
front_grows front x (Read xs k) = ap (λ l. Read l k) (sym (append_assoc front (x ∷ []) xs))
front_grows front x (Refused k) = refl

module _ {T A : Type 0} (kind : T → ℕ) (p : T → Bool) (S : Spelling T A) (r : Reader T A) {firsts mores : List ℕ} (E : Exact kind S r false firsts mores) where
  -- one more part
  pub loop_turn : (front : List A) (ts : List T) (x : A) (k : List T) → next_is p ts ≡ true → r ts ≡ Read x k → with_front front (many p r ts) ≡ with_front (front ++ x ∷ []) (many p r k)
  loop_turn front ts x k t h = ap (with_front front) (first_part kind p S r E x k ts t h) ∙ front_grows front x (many p r k)

  -- no part more
  pub loop_end : (front : List A) (ts : List T) → next_is p ts ≡ false → with_front front (many p r ts) ≡ Read front ts
  loop_end front ts t = ap (with_front front) (many_end kind p S r E ts t) ∙ ap (λ l. Read l ts) (append-nil front)

  -- a part that is refused
  pub loop_stop : (front : List A) (ts k : List T) → next_is p ts ≡ true → r ts ≡ Refused k → with_front front (many p r ts) ≡ Refused k
  loop_stop front ts k t h = ap (with_front front) (many_on kind p S r E ts t ∙ ap (λ o. with_first o (many p r)) h)
