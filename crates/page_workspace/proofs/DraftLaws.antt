-- Edits in order, and one more behind them.
use Rattle.std.proofs.Common.{◌≡◌, ℕ, List, [], ◌∷◌, ◌++◌, Bool, ◌==◌, if◌then◌else◌, refl, ap, ◌∙◌, ◌≤◌, inl, inr, Result, Ok, Err, arith}
use Rattle.std.proofs.lemmas.Bool.{eq-eqb, ne_eqb, false≢true}
use Rattle.std.proofs.Math.Logic.{∥∥₁_elim}
use Rattle.std.specs.Coded.{×_prop, Unit-prop}
use Rattle.page_store.specs.Image.{Image}
use Rattle.page_store.proofs.EditLaws.{fit_prop}
use Rattle.page_store.specs.Edits.{IsFit, after_edit}
use Rattle.page_store.specs.Sources.{Rose}
use Rattle.page_store.specs.declared.edits.Edit.{Edit}
use Rattle.std.specs.Result.{IsErr}
use Rattle.page_workspace.specs.declared.workspaces.EditFault.{EditFault}
use Rattle.page_workspace.specs.declared.workspaces.EditFault.TheVariants.{Unfit, Gone, NoMemory}
use Rattle.page_workspace.specs.Drafts.{edited, edited_by, AreFit, TellsEditFit, IsEditExcused, IsNotUnfit}

-- one edit more
pub edited_by-more : (es : List (ℕ × Edit)) (pages : ℕ → Image) (id : ℕ) (e : Edit)
    → edited_by (es ++ (id, e) ∷ []) pages ≡ edited (edited_by es pages) id e
edited_by-more [] pages id e = refl
edited_by-more (x ∷ xs) pages id e = edited_by-more xs (edited pages x.0 x.1) id e

pub fit_more : (es : List (ℕ × Edit)) (pages : ℕ → Image) (id : ℕ) (e : Edit) → AreFit es pages
    → IsFit (edited_by es pages id) e → AreFit (es ++ (id, e) ∷ []) pages
fit_more [] pages id e all one = (one, tt)
fit_more (x ∷ xs) pages id e all one = (all.0, fit_more xs (edited pages x.0 x.1) id e all.1 one)

-- the page that was edited, and another
pub edited_here : (pages : ℕ → Image) (id : ℕ) (e : Edit) → edited pages id e id ≡ after_edit (pages id) e (pages id).lsn
edited_here pages id e = ap (λ (t : Bool). if t then after_edit (pages id) e (pages id).lsn else pages id) (eq-eqb id id refl)

pub edited_other : (pages : ℕ → Image) (id : ℕ) (e : Edit) (n : ℕ) → (n ≡ id → ⊥) → edited pages id e n ≡ pages n
edited_other pages id e n off = ap (λ (t : Bool). if t then after_edit (pages id) e (pages id).lsn else pages n) (ne_eqb n id off)

-- the pages below count one by one
pub edited_same : (a b : ℕ → Image) (id : ℕ) (e : Edit) (n : ℕ) → a id ≡ b id → a n ≡ b n → edited a id e n ≡ edited b id e n
edited_same a b id e n here there =
    ap (λ (i : Image). if n == id then after_edit i e i.lsn else a n) here
    ∙ ap (λ (i : Image). if n == id then after_edit (b id) e (b id).lsn else i) there

pub all_fit_prop : (es : List (ℕ × Edit)) (pages : ℕ → Image) → IsProp (AreFit es pages)
all_fit_prop [] pages = Unit-prop
all_fit_prop (x ∷ xs) pages = ×_prop (fit_prop (pages x.0) x.1) (all_fit_prop xs (edited pages x.0 x.1))

-- that the edits fit is one fact
pub fit_out : (es : List (ℕ × Edit)) (pages : ℕ → Image) → ∥ AreFit es pages ∥₁ → AreFit es pages
fit_out es pages h = ∥∥₁_elim h (all_fit_prop es pages) (λ f. f)

-- an error of reading tells nothing of the edit
pub reading_tells : {T : Type 0} (r : Result T EditFault) (fit : Type 0) → IsErr r → IsNotUnfit r → TellsEditFit r fit
reading_tells (Ok x) fit h k = absurd (false≢true h)
reading_tells (Err Unfit) fit h k = absurd k
reading_tells (Err Gone) fit h k = tt
reading_tells (Err NoMemory) fit h k = tt

-- a count that did not rise since, after one that did not fall
rose_after : (a b : ℕ) → a ≤ b → Rose b b → Rose a b
rose_after a b h (inl less) = absurd (omega (arith, less))
rose_after a b h (inr last) = inr last

-- a call that lost nothing, after one that is excused
pub excused_after : {T : Type 0} (r : Result T EditFault) (a b : ℕ) → a ≤ b → IsEditExcused r b b → IsEditExcused r a b
excused_after (Ok x) a b h k = h
excused_after (Err Unfit) a b h k = h
excused_after (Err Gone) a b h k = (h, rose_after a b h k.1)
excused_after (Err NoMemory) a b h k = h

-- an edit that fits is not told as one that does not
pub fit_told : {T : Type 0} (r : Result T EditFault) (fit : Type 0) → TellsEditFit r fit → fit → IsNotUnfit r
fit_told (Ok x) fit h f = tt
fit_told (Err Unfit) fit h f = h f
fit_told (Err Gone) fit h f = tt
fit_told (Err NoMemory) fit h f = tt
