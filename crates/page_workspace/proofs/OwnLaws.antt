-- Own pages over others.
use Rattle.std.proofs.Common.{◌≡◌, ℕ, List, [], ◌∷◌, ◌++◌, sym, ap, ◌∙◌, subst, Result, Ok, Err}
use Rattle.std.proofs.Math.Logic.{∥∥₁_map}
use Rattle.std.specs.Result.{OnOk, OnErr}
use Rattle.page_store.specs.Image.{Image}
use Rattle.page_store.specs.Edits.{IsFit}
use Rattle.page_store.specs.declared.edits.Edit.{Edit}
use Rattle.page_workspace.specs.Drafts.{edited, edited_by}
use Rattle.page_workspace.specs.Owned.{overlay, IsKept}
use Rattle.page_workspace.proofs.DraftLaws.{edited_by-more, edited_same, fit_more}

-- holding a page keeps what is kept
pub kept_same : (owns more : List (ℕ × Image)) (edits : List (ℕ × Edit)) (pages now : ℕ → Image) → now ≡ pages
    → ((n : ℕ) → overlay more pages n ≡ overlay owns pages n) → IsKept owns edits pages → IsKept more edits now
kept_same owns more edits pages now is same kept =
    let P : (ℕ → Image) → Type 0 = λ p. IsKept more edits p in
    subst P (sym is) (record { cache = λ n. same n ∙ kept.cache n; fit = kept.fit })

-- and so does an edit that fits
pub kept_edit : (owns more : List (ℕ × Image)) (edits : List (ℕ × Edit)) (pages : ℕ → Image) (id : ℕ) (edit : Edit)
    → ((n : ℕ) → overlay more pages n ≡ edited (overlay owns pages) id edit n) → IsFit (overlay owns pages id) edit
    → IsKept owns edits pages → IsKept more (edits ++ (id, edit) ∷ []) pages
kept_edit owns more edits pages id edit made fit kept = record {
  cache = λ n. made n ∙ edited_same (overlay owns pages) (edited_by edits pages) id edit n (kept.cache id) (kept.cache n)
      ∙ sym (ap (λ (f : ℕ → Image). f n) (edited_by-more edits pages id edit));
  fit = ∥∥₁_map kept.fit (λ all. fit_more edits pages id edit all (subst (λ (i : Image). IsFit i edit) (kept.cache id) fit));
}

-- what follows from a fact of `Ok` holds of `Ok`
pub ok_all : {T E : Type 0} {P Q : Type 0} (r : Result T E) → (P → Q) → OnOk r P → OnOk r Q
ok_all (Ok x) f h = f h
ok_all (Err e) f h = tt

-- and so of `Err`
pub err_all : {T E : Type 0} {P Q : Type 0} (r : Result T E) → (P → Q) → OnErr r P → OnErr r Q
err_all (Ok x) f h = tt
err_all (Err e) f h = f h
