-- Numbers below a limit, and pages past the end of a list.
use Rattle.std.proofs.Common.{◌≡◌, ◌⊎◌, inl, inr, ℕ, zero, suc, ◌+◌, ◌≤◌, ◌<◌, List, [], ◌∷◌, ◌++◌, length, refl, subst, arith}
use Rattle.std.proofs.lemmas.Bool.{cases_lt}
use Rattle.page_store.specs.Image.{Image, blank_image}
use Rattle.page_store.specs.Sources.{listed_pages}
use Rattle.page_workspace.specs.Spare.{IsIn}
use Rattle.page_workspace.proofs.InLaws.{in_more, in_end}

-- with one number more, all below the next limit are there
pub one_more : (limit : ℕ) (ns : List ℕ) → ((n : ℕ) → n < limit → IsIn n ns) → (n : ℕ) → n < limit + 1 → IsIn n (ns ++ limit ∷ [])
one_more limit ns all n l = go (cases_lt n limit)
  where
    go : (n < limit) ⊎ (limit ≤ n) → IsIn n (ns ++ limit ∷ [])
    go (inl below) = in_more n limit ns (all n below)
    go (inr above) = let e : n ≡ limit = omega arith in subst (λ k. IsIn n (ns ++ k ∷ [])) e (in_end n ns)

-- past the end of a list there are blank pages
past_end : (pages : List Image) (n : ℕ) → length pages ≤ n → listed_pages pages n ≡ blank_image
past_end [] n l = refl
past_end (p ∷ ps) zero l = absurd (none l)
  where
    none : suc (length ps) ≤ zero → ⊥
    none l = omega arith
past_end (p ∷ ps) (suc n) l = past_end ps n (omega arith)

-- so where the numbers of all pages of a list are told, each other page is blank
pub blank_beyond : (pages : List Image) (numbers : List ℕ) → ((n : ℕ) → n < length pages → IsIn n numbers)
    → (n : ℕ) → (IsIn n numbers → ⊥) → listed_pages pages n ≡ blank_image
blank_beyond pages numbers all n none = go (cases_lt n (length pages))
  where
    go : (n < length pages) ⊎ (length pages ≤ n) → listed_pages pages n ≡ blank_image
    go (inl below) = absurd (none (all n below))
    go (inr above) = past_end pages n above
