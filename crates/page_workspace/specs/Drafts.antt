-- Pages with edits laid over them, in order. The pages below stay as they are. An edit leaves the LSN of its page: the
-- record that will carry the edits has none yet.
use Rattle.std.specs.Prelude.{ℕ, ◌==◌, ◌≤◌, if◌then◌else◌, List, [], ◌∷◌, Option, Result, Ok, Err}
use Rattle.page_store.specs.Image.{Image}
use Rattle.page_store.specs.Edits.{IsFit, after_edit}
use Rattle.page_store.specs.Sources.{Rose}
use Rattle.page_store.specs.declared.edits.Edit.{Edit}
use Rattle.page_workspace.specs.declared.workspaces.EditFault.{EditFault}
use Rattle.page_workspace.specs.declared.workspaces.EditFault.TheVariants.{Unfit, Gone, NoMemory}

-- the pages after an edit of one of them
abbrev pub edited : (ℕ → Image) → ℕ → Edit → ℕ → Image
edited pages id edit n = if n == id then after_edit (pages id) edit (pages id).lsn else pages n

-- the pages after edits in order, each with the number of its page
abbrev pub edited_by : List (ℕ × Edit) → (ℕ → Image) → ℕ → Image
edited_by [] pages = pages
edited_by (e ∷ es) pages = edited_by es (edited pages e.0 e.1)

-- each edit can be made on the pages after those before it
abbrev pub AreFit : List (ℕ × Edit) → (ℕ → Image) → Type 0
AreFit [] pages = Unit {0}
AreFit (e ∷ es) pages = IsFit (pages e.0) e.1 × AreFit es (edited pages e.0 e.1)

-- what a workspace is: a source, the edits over its pages, and the page that is loaded
pub record Draft (P : Type 0) : Type 0 where
  pub base : P
  pub edits : List (ℕ × Edit)
  pub loaded : Option Image

-- the pages that a workspace means, by those that its source means
abbrev pub meant : {P : Type 0} → (P → ℕ → Image) → Draft P → ℕ → Image
meant pages draft = edited_by draft.edits (pages draft.base)

-- what each answer tells of whether an edit fits: `Unfit` comes only where it does not
abbrev pub TellsEditFit : {T : Type 0} → Result T EditFault → Type 0 → Type 0
TellsEditFit (Ok x) fit = fit
TellsEditFit (Err Unfit) fit = fit → ⊥
TellsEditFit (Err Gone) fit = Unit {0}
TellsEditFit (Err NoMemory) fit = Unit {0}

-- each answer against the counts of losses before and after the call, which never fall: `Gone` comes only where they rose
abbrev pub IsEditExcused : {T : Type 0} → Result T EditFault → ℕ → ℕ → Type 0
IsEditExcused (Ok x) before now = before ≤ now
IsEditExcused (Err Unfit) before now = before ≤ now
IsEditExcused (Err Gone) before now = (before ≤ now) × Rose before now
IsEditExcused (Err NoMemory) before now = before ≤ now

-- an answer other than `Unfit`
abbrev pub IsNotUnfit : {T : Type 0} → Result T EditFault → Type 0
IsNotUnfit (Ok x) = Unit {0}
IsNotUnfit (Err Unfit) = ⊥
IsNotUnfit (Err Gone) = Unit {0}
IsNotUnfit (Err NoMemory) = Unit {0}
