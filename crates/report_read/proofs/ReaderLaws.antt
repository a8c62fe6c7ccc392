-- Readers that are exact for a way to write values, and how they are put together.
--
-- What an exact reader reads is written in the bytes that it took, and what is written it reads again,
-- where what stands behind does not go on with it. Of a reader of several kinds of values the first
-- half is enough here: the second one is proved kind by kind.
use Rattle.std.proofs.Common.{◌≡◌, ℕ, List, [], ◌∷◌, ◌++◌, Option, Some, None, Bool, true, false, cond, eqb, refl, sym, ap, subst, ◌∙◌, append_assoc, ◌⊎◌, inl, inr}
use Rattle.std.proofs.lemmas.Bool.{eqb-true, eq-eqb}
use Rattle.std.proofs.lemmas.Option.{some_pair_parts, same_Some}
use Rattle.byte_words.specs.Words.{◌>>=◌}
use Rattle.report_read.specs.Reading.{Read, or_else, behind_word, after, before, both, as_of, only, either, word_as}

-- whether the next byte passes
abbrev pub next_is : (ℕ → Bool) → List ℕ → Bool
next_is test [] = false
next_is test (b ∷ bytes) = test b

-- no byte goes on
abbrev pub no_byte : ℕ → Bool
no_byte b = false

pub next_none : (rest : List ℕ) → next_is no_byte rest ≡ false
next_none [] = refl
next_none (b ∷ rest) = refl

pub record Exact {A : Type 0} (text : A → List ℕ) (Is : A → Type 0) (goes_on : ℕ → Bool) (read : List ℕ → Read A) : Type 0 where
  pub found : (bytes : List ℕ) (x : A) (rest : List ℕ) → read bytes ≡ Some (x, rest) → (bytes ≡ text x ++ rest) × Is x
  pub again : (x : A) (rest : List ℕ) → Is x → next_is goes_on rest ≡ false → read (text x ++ rest) ≡ Some (x, rest)

pub record Sound {A : Type 0} (text : A → List ℕ) (Is : A → Type 0) (read : List ℕ → Read A) : Type 0 where
  pub found : (bytes : List ℕ) (x : A) (rest : List ℕ) → read bytes ≡ Some (x, rest) → (bytes ≡ text x ++ rest) × Is x

pub bind_some : {A B : Type 0} (o : Option A) (f : A → Option B) (y : B) → (o >>= f) ≡ Some y → (x : A) × (o ≡ Some x) × (f x ≡ Some y)
bind_some None f y h = absurd cc
bind_some (Some x) f y h = (x, refl, h)

pub guard_some : {A : Type 0} (t : Bool) (o : Option A) (y : A) → cond t o None ≡ Some y → (t ≡ true) × (o ≡ Some y)
guard_some true o y h = (refl, h)
guard_some false o y h = absurd cc

pub or_some : {A : Type 0} (o p : Option A) (y : A) → or_else o p ≡ Some y → (o ≡ Some y) ⊎ (p ≡ Some y)
or_some None p y h = inr h
or_some (Some x) p y h = inl h

pub word_found : (word bytes rest : List ℕ) → behind_word word bytes ≡ Some rest → bytes ≡ word ++ rest
unfolding behind_word
word_found [] bytes rest h = same_Some bytes rest h
word_found (w ∷ word) [] rest h = absurd cc
word_found (w ∷ word) (b ∷ bytes) rest h =
    let g = guard_some (eqb w b) (behind_word word bytes) rest h in
    ap (λ x. x ∷ bytes) (sym (eqb-true w b g.0)) ∙ ap (λ l. w ∷ l) (word_found word bytes rest g.1)

pub word_again : (word rest : List ℕ) → behind_word word (word ++ rest) ≡ Some rest
unfolding behind_word
word_again [] rest = refl
word_again (w ∷ word) rest = let e = eq-eqb w w refl in rw e (word_again word rest)

pub sound_after : {A : Type 0} {text : A → List ℕ} {Is : A → Type 0} {read : List ℕ → Read A} (word : List ℕ) → Sound text Is read → Sound (λ x. word ++ text x) Is (after word read)
sound_after {text = text} {read = read} word e = record {
  found = λ bytes x rest h.
      let b = bind_some (behind_word word bytes) read (x, rest) h in
      let f = e.found b.0 x rest b.2 in
      (word_found word bytes b.0 b.1 ∙ ap (λ l. word ++ l) f.0 ∙ sym (append_assoc word (text x) rest), f.1);
}

pub exact_after : {A : Type 0} {text : A → List ℕ} {Is : A → Type 0} {goes_on : ℕ → Bool} {read : List ℕ → Read A} (word : List ℕ) → Exact text Is goes_on read → Exact (λ x. word ++ text x) Is goes_on (after word read)
exact_after {text = text} {read = read} word e = record {
  found = (sound_after word (record { found = e.found })).found;
  again = λ x rest is stops.
      ap (after word read) (append_assoc word (text x) rest) ∙ ap (λ o. o >>= read) (word_again word (text x ++ rest)) ∙ e.again x rest is stops;
}

pub sound_before : {A : Type 0} {text : A → List ℕ} {Is : A → Type 0} {read : List ℕ → Read A} (word : List ℕ) → Sound text Is read → Sound (λ x. text x ++ word) Is (before read word)
sound_before {text = text} {Is = Is} {read = read} word e = record {
  found = λ bytes x rest h.
      let p = bind_some (read bytes) (λ y. behind_word word y.1 >>= (λ k. Some (y.0, k))) (x, rest) h in
      let q = bind_some (behind_word word p.0.1) (λ k. Some (p.0.0, k)) (x, rest) p.2 in
      let same = some_pair_parts p.0.0 x q.0 rest q.2 in
      let f = e.found bytes p.0.0 p.0.1 p.1 in
      let whole : bytes ≡ (text p.0.0 ++ word) ++ q.0 = f.0 ∙ ap (λ l. text p.0.0 ++ l) (word_found word p.0.1 q.0 q.1) ∙ sym (append_assoc (text p.0.0) word q.0) in
      (whole ∙ ap (λ y. (text y ++ word) ++ q.0) same.0 ∙ ap (λ k. (text x ++ word) ++ k) same.1, subst Is same.0 f.1);
}

pub exact_before : {A : Type 0} {text : A → List ℕ} {Is : A → Type 0} {goes_on : ℕ → Bool} {read : List ℕ → Read A} (b : ℕ) (word : List ℕ) → goes_on b ≡ false → Exact text Is goes_on read → Exact (λ x. text x ++ (b ∷ word)) Is no_byte (before read (b ∷ word))
exact_before {text = text} {Is = Is} {read = read} b word stop e = record {
  found = (sound_before (b ∷ word) (record { found = e.found })).found;
  again = λ x rest is stops.
      ap (before read (b ∷ word)) (append_assoc (text x) (b ∷ word) rest)
      ∙ ap (λ o. o >>= (λ y. behind_word (b ∷ word) y.1 >>= (λ k. Some (y.0, k)))) (e.again x ((b ∷ word) ++ rest) is stop)
      ∙ ap (λ o. o >>= (λ k. Some (x, k))) (word_again (b ∷ word) rest);
}

pub exact_both : {A B : Type 0} {text : A → List ℕ} {Is : A → Type 0} {read : List ℕ → Read A} {other : B → List ℕ} {Has : B → Type 0} {goes_on : ℕ → Bool} {next : List ℕ → Read B}
    → Exact text Is no_byte read → Exact other Has goes_on next → Exact (λ x. text x.0 ++ other x.1) (λ x. Is x.0 × Has x.1) goes_on (both read next)
exact_both {A = A} {B = B} {text = text} {Is = Is} {read = read} {other = other} {Has = Has} {next = next} e f = record {
  found = λ bytes x rest h.
      let p = bind_some (read bytes) (λ y. next y.1 >>= (λ z. Some ((y.0, z.0), z.1))) (x, rest) h in
      let q = bind_some (next p.0.1) (λ z. Some ((p.0.0, z.0), z.1)) (x, rest) p.2 in
      let same = some_pair_parts (p.0.0, q.0.0) x q.0.1 rest q.2 in
      let one = e.found bytes p.0.0 p.0.1 p.1 in
      let two = f.found p.0.1 q.0.0 q.0.1 q.1 in
      let whole : bytes ≡ (text p.0.0 ++ other q.0.0) ++ q.0.1 = one.0 ∙ ap (λ l. text p.0.0 ++ l) two.0 ∙ sym (append_assoc (text p.0.0) (other q.0.0) q.0.1) in
      (whole ∙ ap (λ (y : A × B). (text y.0 ++ other y.1) ++ q.0.1) same.0 ∙ ap (λ k. (text x.0 ++ other x.1) ++ k) same.1, subst (λ (y : A × B). Is y.0 × Has y.1) same.0 (one.1, two.1));
  again = λ x rest is stops.
      ap (both read next) (append_assoc (text x.0) (other x.1) rest)
      ∙ ap (λ o. o >>= (λ y. next y.1 >>= (λ z. Some ((y.0, z.0), z.1)))) (e.again x.0 (other x.1 ++ rest) is.0 (next_none (other x.1 ++ rest)))
      ∙ ap (λ o. o >>= (λ z. Some ((x.0, z.0), z.1))) (f.again x.1 rest is.1 stops);
}

pub exact_only : {A : Type 0} {text : A → List ℕ} {Is : A → Type 0} {goes_on : ℕ → Bool} {read : List ℕ → Read A} (test : A → Bool) → Exact text Is goes_on read → Exact text (λ x. Is x × (test x ≡ true)) goes_on (only test read)
exact_only {A = A} {text = text} {Is = Is} {read = read} test e = record {
  found = λ bytes x rest h.
      let p = bind_some (read bytes) (λ y. cond (test y.0) (Some y) None) (x, rest) h in
      let g = guard_some (test p.0.0) (Some p.0) (x, rest) p.2 in
      let same = same_Some p.0 (x, rest) g.1 in
      let f = e.found bytes p.0.0 p.0.1 p.1 in
      subst (λ (y : A × List ℕ). (bytes ≡ text y.0 ++ y.1) × (Is y.0 × (test y.0 ≡ true))) same (f.0, (f.1, g.0));
  again = λ x rest is stops.
      ap (λ o. o >>= (λ y. cond (test y.0) (Some y) None)) (e.again x rest is.0 stops) ∙ ap (λ t. cond t (Some (x, rest)) None) is.1;
}

pub sound_of : {A : Type 0} {text : A → List ℕ} {Is : A → Type 0} {goes_on : ℕ → Bool} {read : List ℕ → Read A} → Exact text Is goes_on read → Sound text Is read
sound_of e = record { found = e.found }

pub sound_as : {A B : Type 0} {text : A → List ℕ} {Is : A → Type 0} {read : List ℕ → Read A} (make : A → B) (other : B → List ℕ) (Has : B → Type 0) → Sound text Is read → ((x : A) → other (make x) ≡ text x) → ((x : A) → Is x → Has (make x)) → Sound other Has (as_of make read)
sound_as {A = A} {B = B} {text = text} {read = read} make other Has e spelled has = record {
  found = λ bytes y rest h.
      let p = bind_some (read bytes) (λ x. Some (make x.0, x.1)) (y, rest) h in
      let same = some_pair_parts (make p.0.0) y p.0.1 rest p.2 in
      let f = e.found bytes p.0.0 p.0.1 p.1 in
      let whole : bytes ≡ other (make p.0.0) ++ p.0.1 = f.0 ∙ ap (λ l. l ++ p.0.1) (sym (spelled p.0.0)) in
      (whole ∙ ap (λ z. other z ++ p.0.1) same.0 ∙ ap (λ k. other y ++ k) same.1, subst Has same.0 (has p.0.0 f.1));
}

pub sound_either : {A : Type 0} {text : A → List ℕ} {Is : A → Type 0} {first second : List ℕ → Read A} → Sound text Is first → Sound text Is second → Sound text Is (either first second)
sound_either {first = first} {second = second} e f = record {
  found = λ bytes x rest h. elim (or_some (first bytes) (second bytes) (x, rest) h) [ inl k ↦ e.found bytes x rest k | inr k ↦ f.found bytes x rest k ];
}

pub sound_word : {A : Type 0} (word : List ℕ) (value : A) (text : A → List ℕ) (Is : A → Type 0) → text value ≡ word → Is value → Sound text Is (word_as word value)
sound_word word value text Is spelled is = record {
  found = λ bytes x rest h.
      let p = bind_some (behind_word word bytes) (λ k. Some (value, k)) (x, rest) h in
      let same = some_pair_parts value x p.0 rest p.2 in
      (word_found word bytes p.0 p.1 ∙ ap (λ l. l ++ p.0) (sym spelled) ∙ ap (λ y. text y ++ p.0) same.0 ∙ ap (λ k. text x ++ k) same.1, subst Is same.0 is);
}
