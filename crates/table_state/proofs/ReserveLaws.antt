-- What is read of the meta page and the free pages is what is there.
use Rattle.std.proofs.Common.{◌≡◌, ◌⊎◌, inl, inr, ℕ, suc, ◌^◌, ◌≤◌, ◌<◌, true, false, List, [], ◌∷◌, length, None, Some, sym, ap, ◌∙◌, subst, arith}
use Rattle.std.proofs.lemmas.Bool.{false≢true}
use Rattle.std.proofs.lemmas.Option.{none-some}
use Rattle.page_store.specs.Image.{Image, blank_image}
use Rattle.page_workspace.specs.Spare.{IsIn, AreApart, IsChain, AreFree, first_free, count_of}
use Rattle.tree_walk.proofs.WrittenLaws.{apart_inside, in_or_out}
use Rattle.page_workspace.specs.declared.metas.Meta.{Meta}
use Rattle.table_state.specs.declared.reserves.Reserve.{Reserve}
use Rattle.table_state.specs.Counts.{told}
use Rattle.table_state.specs.Chains.{are_past, chain_from}
use Rattle.table_state.specs.Reserves.{HasReserve, HasNoReserve}
use Rattle.table_state.proofs.CountLaws.{told_sound, told_none}
use Rattle.table_state.proofs.ChainLaws.{past_sound, past_full, chain_sound, chain_full}

-- each page that is not among these is blank
abbrev pub AreBlankBut : (ℕ → Image) → List ℕ → Type 0
AreBlankBut pages edited = (n : ℕ) → (IsIn n edited → ⊥) → pages n ≡ blank_image

-- a page that is not blank is among those that may be written
written_in : (pages : ℕ → Image) (edited : List ℕ) → AreBlankBut pages edited → (n : ℕ) → (pages n ≡ blank_image → ⊥) → IsIn n edited
written_in pages edited blank n other = go (in_or_out n edited)
  where
    go : IsIn n edited ⊎ (IsIn n edited → ⊥) → IsIn n edited
    go (inl i) = i
    go (inr off) = absurd (other (blank n off))

-- all pages of a chain but the last
abbrev front_of : List ℕ → List ℕ
front_of [] = []
front_of (x ∷ []) = []
front_of (x ∷ y ∷ ys) = x ∷ front_of (y ∷ ys)

front_in : (n : ℕ) (xs : List ℕ) → IsIn n (front_of xs) → IsIn n xs
front_in n [] i = absurd i
front_in n (x ∷ []) i = absurd i
front_in n (x ∷ y ∷ ys) (inl e) = inl e
front_in n (x ∷ y ∷ ys) (inr i) = inr (front_in n (y ∷ ys) i)

front_apart : (xs : List ℕ) → AreApart xs → AreApart (front_of xs)
front_apart [] h = tt
front_apart (x ∷ []) h = tt
front_apart (x ∷ y ∷ ys) h = (λ i. h.0 (front_in x (y ∷ ys) i), front_apart (y ∷ ys) h.1)

front_long : (xs : List ℕ) → length xs ≤ suc (length (front_of xs))
front_long [] = omega arith
front_long (x ∷ []) = omega arith
front_long (x ∷ y ∷ ys) = let less : length (y ∷ ys) ≤ suc (length (front_of (y ∷ ys))) = front_long (y ∷ ys) in omega (arith, less)

front_linked : (pages : ℕ → Image) (id : ℕ) (xs : List ℕ) → IsChain pages id xs → (n : ℕ) → IsIn n (front_of xs) → pages n ≡ blank_image → ⊥
front_linked pages id [] c n i blank = absurd i
front_linked pages id (x ∷ []) c n i blank = absurd i
front_linked pages id (x ∷ y ∷ ys) c n (inl e) blank =
    c.2.1 (sym c.2.0 ∙ ap (λ (m : ℕ). (pages m).head.right) (sym e) ∙ ap (λ (i : Image). i.head.right) blank)
front_linked pages id (x ∷ y ∷ ys) c n (inr i) blank = front_linked pages (pages x).head.right (y ∷ ys) c.2 n i blank

-- the free pages are at most one more than those that may be written
free_few : (pages : ℕ → Image) (edited free : List ℕ) → AreBlankBut pages edited → AreFree pages free → length free ≤ suc (length edited)
free_few pages edited free blank f =
    let front : length (front_of free) ≤ length edited =
    apart_inside (front_of free) edited (front_apart free f.apart) (λ n i. written_in pages edited blank n (front_linked pages (first_free pages) free f.chain n i)) in
    let long : length free ≤ suc (length (front_of free)) = front_long free in
    omega (arith, front, long)

-- the meta page tells nothing
pub reserve_untold : (pages : ℕ → Image) → told (pages 0) ≡ None → HasNoReserve pages
reserve_untold pages none free f next count = told_none pages none f.meta next count

-- a page past the end is not blank
pub reserve_not_past : (pages : ℕ → Image) (edited : List ℕ) (c : Meta) → told (pages 0) ≡ Some c → are_past pages c.count edited ≡ false → HasNoReserve pages
reserve_not_past pages edited c t wrong free f next count =
    let told = told_sound pages c t in
    false≢true (sym wrong ∙ past_full pages c.count edited (λ n late. f.past n (subst (λ (k : ℕ). k ≤ n) told.count late)))

-- the chain of free pages is none
pub reserve_unchained : (pages : ℕ → Image) (edited : List ℕ) (limit : ℕ) (c : Meta) → AreBlankBut pages edited → length edited < limit
    → told (pages 0) ≡ Some c → chain_from pages limit c.free ≡ None → HasNoReserve pages
reserve_unchained pages edited limit c blank enough t none free f next count =
    let few : length free ≤ suc (length edited) = free_few pages edited free blank f in
    none-some free (sym none ∙ ap (chain_from pages limit) (told_sound pages c t).free
    ∙ chain_full pages limit (first_free pages) free f.chain f.kept (omega (arith, few, enough)))

-- all is there
pub reserve_there : (pages : ℕ → Image) (edited : List ℕ) (limit : ℕ) (c : Meta) (r : Reserve) → AreBlankBut pages edited
    → told (pages 0) ≡ Some c → are_past pages c.count edited ≡ true → chain_from pages limit c.free ≡ Some r.free.items → r.next ≡ c.next → r.count ≡ c.count
    → HasReserve pages r
reserve_there pages edited limit c r blank t past chained next count =
    let told = told_sound pages c t in
    let chain = chain_sound pages limit c.free r.free.items chained in
    record {
      meta = told.meta;
      next = next ∙ told.next;
      count = count ∙ told.count;
      next_small = subst (λ (n : ℕ). n < 2 ^ 62) (sym next) told.small.next;
      count_small = subst (λ (n : ℕ). n < 2 ^ 62) (sym count) told.small.count;
      chain = subst (λ (n : ℕ). IsChain pages n r.free.items) told.free chain.0;
      kept = chain.1;
      past = λ n late. blank_past told.count n late (in_or_out n edited);
    }
  where
    blank_past : c.count ≡ count_of pages → (n : ℕ) → count_of pages ≤ n → IsIn n edited ⊎ (IsIn n edited → ⊥) → pages n ≡ blank_image
    blank_past is n late (inl i) = past_sound pages c.count edited past n i (subst (λ (k : ℕ). k ≤ n) (sym is) late)
    blank_past is n late (inr off) = blank n off
