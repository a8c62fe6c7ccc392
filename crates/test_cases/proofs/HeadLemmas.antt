-- The pages of a log beside those that a record edited, and the first entries of a log that grows.
use Rattle.std.proofs.Common.{◌≡◌, inl, inr, ℕ, ◌≤◌, false, List, [], ◌∷◌, ◌++◌, refl, ap, ◌∙◌, length, take, nat_eq, arith}
use Rattle.std.specs.List.{list_any}
use Rattle.std.proofs.lemmas.Bool.{or_from}
use Rattle.std.proofs.lemmas.List.{take-append-le}
use Rattle.page_store.specs.Image.{Image, blank_image}
use Rattle.page_workspace.specs.Spare.{IsIn}
use Rattle.phys_log.specs.declared.entries.Entry.{Entry}

other_than : (n x : ℕ) → (n ≡ x → ⊥) → nat_eq n x ≡ false
other_than n x differs = grind (arith, differs)

-- a number that is not among others is found nowhere in them
pub none_found : (n : ℕ) (ns : List ℕ) → (IsIn n ns → ⊥) → list_any (nat_eq n) ns ≡ false
none_found n [] none = refl
none_found n (x ∷ xs) none =
    or_from (nat_eq n x) (list_any (nat_eq n) xs) (other_than n x (λ e. none (inl e))) (none_found n xs (λ i. none (inr i)))

-- so each page beside the edited ones is blank
pub blank_beside : (pages : ℕ → Image) (edited : List ℕ) → ((id : ℕ) → list_any (nat_eq id) edited ≡ false → pages id ≡ blank_image)
    → (n : ℕ) → (IsIn n edited → ⊥) → pages n ≡ blank_image
blank_beside pages edited others n none = others n (none_found n edited none)

-- the first entries stay where one comes behind them
pub front_stays : (first : ℕ) (log now : List Entry) (entry : Entry) → first ≤ length log → now ≡ log ++ entry ∷ []
    → take first now ≡ take first log
front_stays first log now entry within is = ap (λ l. take first l) is ∙ take-append-le first log (entry ∷ []) within
