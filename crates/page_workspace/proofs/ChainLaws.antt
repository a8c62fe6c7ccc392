-- The free pages where one is given back, and where one is taken.
use Rattle.std.proofs.Common.{◌≡◌, ◌⊎◌, inl, inr, ℕ, ◌+◌, ◌≤◌, ◌<◌, ◌^◌, List, [], ◌∷◌, refl, sym, ap, ◌∙◌, subst, arith}
use Rattle.std.specs.List.{AllByRecursion}
use Rattle.page_store.specs.Image.{Image, blank_image}
use Rattle.page_store.specs.declared.pages.Head.{Head}
use Rattle.page_workspace.specs.Spare.{IsIn, IsChain, IsFreePage, AreFree, count_of, first_free}
use Rattle.page_workspace.specs.Takes.{TakesNew, TakesFree, TakesPage, FreesPage}
use Rattle.page_workspace.specs.Chains.{LeavesFree}

pub chain_same : (old new : ℕ → Image) (next : ℕ) (ids : List ℕ) → ((n : ℕ) → IsIn n ids → new n ≡ old n) → IsChain old next ids → IsChain new next ids
chain_same old new next [] same h = h
chain_same old new next (id ∷ ids) same h = (
  h.0,
  h.1,
  subst (λ (n : ℕ). IsChain new n ids) (sym (ap (λ (i : Image). i.head.right) (same id (inl refl))))
      (chain_same old new (old id).head.right ids (λ n i. same n (inr i)) h.2),
)

-- free pages that stay are free
pub kept_same : (old new : ℕ → Image) (ids : List ℕ) → ((n : ℕ) → IsIn n ids → new n ≡ old n) → AllByRecursion (λ id. IsFreePage (old id)) ids
    → AllByRecursion (λ id. IsFreePage (new id)) ids
kept_same old new [] same h = tt
kept_same old new (id ∷ ids) same h =
    (subst IsFreePage (sym (same id (inl refl))) h.0, kept_same old new ids (λ n i. same n (inr i)) h.1)

-- page 0 is not among them, and each was written
pub chained : (pages : ℕ → Image) (next : ℕ) (ids : List ℕ) → IsChain pages next ids → (n : ℕ) → IsIn n ids → n ≡ 0 → ⊥
chained pages next [] h n i e = i
chained pages next (x ∷ xs) h n (inl k) e = h.1 (sym k ∙ e)
chained pages next (x ∷ xs) h n (inr i) e = chained pages (pages x).head.right xs h.2 n i e

pub written_in : (count : ℕ) (ids : List ℕ) (n : ℕ) → AllByRecursion (λ id. id < count) ids → IsIn n ids → n < count
written_in count [] n h i = absurd i
written_in count (x ∷ xs) n h (inl e) = subst (λ (k : ℕ). k < count) (sym e) h.0
written_in count (x ∷ xs) n h (inr i) = written_in count xs n h.1 i

written_more : (count more : ℕ) (ids : List ℕ) → count ≤ more → AllByRecursion (λ id. id < count) ids → AllByRecursion (λ id. id < more) ids
written_more count more [] le h = tt
written_more count more (x ∷ xs) le h = (omega (arith, h.0), written_more count more xs le h.1)

-- an empty page that is given back is free then, in front of the others
pub free_more : (old new : ℕ → Image) (id : ℕ) (ids : List ℕ) → AreFree old ids → FreesPage old new id → (old id).cells ≡ [] → (IsIn id ids → ⊥)
    → id < count_of old → AreFree new (id ∷ ids)
free_more old new id ids free f none off below = record {
  meta = f.meta;
  chain = (
    f.free,
    f.some,
    subst (λ (n : ℕ). IsChain new n ids) (sym (ap (λ (h : Head). h.right) f.head)) (chain_same old new (first_free old) ids same free.chain),
  );
  apart = (off, free.apart);
  written = (
    subst (λ (c : ℕ). id < c) (sym f.count) below,
    subst (λ (c : ℕ). AllByRecursion (λ id. id < c) ids) (sym f.count) free.written,
  );
  kept = (
    record { kind = ap (λ (h : Head). h.kind) f.head; level = ap (λ (h : Head). h.level) f.head; cells = f.cells ∙ none },
    kept_same old new ids same free.kept,
  );
  past = λ n h. past n (subst (λ (c : ℕ). c ≤ n) f.count h);
}
  where
    same : (n : ℕ) → IsIn n ids → new n ≡ old n
    same n i = f.others n (chained old (first_free old) ids free.chain n i) (λ e. off (subst (λ (k : ℕ). IsIn k ids) e i))

    past : (n : ℕ) → count_of old ≤ n → new n ≡ blank_image
    past n h =
        let b : id < count_of old = below in
        let some : n ≡ 0 → ⊥ = λ e. omega arith in
        let beside : n ≡ id → ⊥ = λ e. omega arith in
        f.others n some beside ∙ free.past n h

-- a page that is taken is no longer free, and was free or never written; the others stay free
pub free_less : (old new : ℕ → Image) (id : ℕ) (ids : List ℕ) → AreFree old ids → TakesPage old new id → (count_of old ≡ 0 → ⊥)
    → LeavesFree old new id ids
free_less old new id ids free t some = go ids free t.way
  where
    fresh : (xs : List ℕ) → AreFree old xs → TakesNew old new id → LeavesFree old new id xs
    fresh xs f w =
        let number : id ≡ count_of old = w.number in
        let count : count_of new ≡ id + 1 = w.count in
        let nonzero : id ≡ 0 → ⊥ = λ e. some (sym number ∙ e) in
        let same : (n : ℕ) → IsIn n xs → new n ≡ old n = λ n i. t.others n (chained old (first_free old) xs f.chain n i) in
        record {
          rest = xs;
          spare = record {
            meta = t.meta f.meta;
            chain = subst (λ (n : ℕ). IsChain new n xs) (sym w.free) (chain_same old new (first_free old) xs same f.chain);
            apart = f.apart;
            written = written_more (count_of old) (count_of new) xs (omega arith) f.written;
            kept = kept_same old new xs same f.kept;
            past = λ n h.
                (let past : count_of old ≤ n = omega arith in
                let off : n ≡ 0 → ⊥ = λ e. omega arith in
                t.others n off ∙ f.past n past);
          };
          from = λ n i. i;
          keeps = λ n i. inr i;
          off = λ i. (let b : id < count_of old = written_in (count_of old) xs id f.written i in omega arith);
          was = inr (omega arith);
          some = nonzero;
          below = omega arith;
          count = omega arith;
          few = λ h. w.few;
          only = λ n a b. omega arith;
          empty = ap (λ (i : Image). i.cells) (f.past id (omega arith));
        }

    first : (x : ℕ) (xs : List ℕ) → AreFree old (x ∷ xs) → TakesFree old new id → LeavesFree old new id (x ∷ xs)
    first x xs f w =
        let is : id ≡ x = w.number ∙ f.chain.0 in
        let count : count_of new ≡ count_of old = w.count in
        let under : id < count_of old = subst (λ (k : ℕ). k < count_of old) (sym is) f.written.0 in
        let same : (n : ℕ) → IsIn n xs → new n ≡ old n = λ n i. t.others n (chained old (old x).head.right xs f.chain.2 n i) in
        record {
          rest = xs;
          spare = record {
            meta = t.meta f.meta;
            chain = subst (λ (n : ℕ). IsChain new n xs) (sym (w.free ∙ ap (λ (k : ℕ). (old k).head.right) is))
                (chain_same old new (old x).head.right xs same f.chain.2);
            apart = f.apart.1;
            written = subst (λ (c : ℕ). AllByRecursion (λ id. id < c) xs) (sym count) f.written.1;
            kept = kept_same old new xs same f.kept.1;
            past = λ n h.
                (let past : count_of old ≤ n = omega arith in
                let off : n ≡ 0 → ⊥ = λ e. omega arith in
                t.others n off ∙ f.past n past);
          };
          from = λ n i. inr i;
          keeps = λ n i. sort n i is;
          off = λ i. f.apart.0 (subst (λ (k : ℕ). IsIn k xs) is i);
          was = inl (inl is);
          some = w.some;
          below = omega arith;
          count = omega arith;
          few = λ h. (let b : count_of old < 2 ^ 62 = h in omega arith);
          only = λ n a b. absurd (none n a b count);
          empty = ap (λ (k : ℕ). (old k).cells) is ∙ f.kept.0.cells;
        }
      where
        sort : (n : ℕ) → IsIn n (x ∷ xs) → id ≡ x → (n ≡ id) ⊎ IsIn n xs
        sort n (inl e) is = inl (e ∙ sym is)
        sort n (inr i) is = inr i

        none : (n : ℕ) → count_of old ≤ n → n < count_of new → count_of new ≡ count_of old → ⊥
        none n a b count = omega arith

    go : (xs : List ℕ) → AreFree old xs → TakesFree old new id ⊎ TakesNew old new id → LeavesFree old new id xs
    go xs f (inr w) = fresh xs f w
    go [] f (inl w) = absurd (w.some (w.number ∙ f.chain))
    go (x ∷ xs) f (inl w) = first x xs f w
