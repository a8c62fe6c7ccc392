-- Edits on pages, and their records on pages that are the same but for their LSNs.
use Rattle.std.proofs.Common.{◌≡◌, ℕ, ◌+◌, ◌≤◌, ◌==◌, if◌then◌else◌, Bool, true, false, List, [], ◌∷◌, Some, length, refl, sym, ap, ◌∙◌, subst}
use Rattle.std.specs.List.{slice_get}
use Rattle.page_store.specs.Image.{Image, HasRoom}
use Rattle.page_store.specs.Edits.{IsFound, IsFit, cells_after, head_after, after_edit}
use Rattle.page_store.specs.declared.pages.Head.{Head}
use Rattle.page_store.specs.declared.edits.Edit.{Edit}
use Rattle.page_store.specs.declared.edits.Edit.TheVariants.{PutCell, TakeCell, SwapCell, SetHead}
use Rattle.page_workspace.specs.Drafts.{edited, edited_by, AreFit}
use Rattle.page_workspace.proofs.DraftLaws.{edited_other}
use Rattle.phys_log.specs.declared.entries.LogRecord.{LogRecord}
use Rattle.phys_log.specs.Logs.{after_record, replayed, AreNext}
use Rattle.phys_log.proofs.ReplayLaws.{written_other}
use Rattle.edit_records.specs.Alike.{IsAlike, AreAlike}
use Rattle.edit_records.specs.Numbered.{lsns_of, raised, numbered, IsUnedited}

-- what an edit finds is in the head or in the cells
found_alike : (a b : Image) (edit : Edit) → IsAlike a b → IsFound a edit → IsFound b edit
found_alike a b (PutCell place cell) like h = subst (λ (c : List (List ℕ)). place ≤ length c) (sym like.cells) h
found_alike a b (TakeCell place cell) like h = subst (λ (c : List (List ℕ)). slice_get c place ≡ Some cell) (sym like.cells) h
found_alike a b (SwapCell place before after) like h = subst (λ (c : List (List ℕ)). slice_get c place ≡ Some before) (sym like.cells) h
found_alike a b (SetHead before after) like h = like.head ∙ h

fit_alike : (a b : Image) (edit : Edit) → IsAlike a b → IsFit a edit → IsFit b edit
fit_alike a b edit like fit = record {
  found = found_alike a b edit like fit.found;
  fits = subst (λ (c : List (List ℕ)). HasRoom (cells_after c edit)) (sym like.cells) fit.fits;
}

after_alike : (a b : Image) (edit : Edit) (i j : ℕ) → IsAlike a b → IsAlike (after_edit a edit i) (after_edit b edit j)
after_alike a b edit i j like = record {
  head = ap (λ (h : Head). head_after h edit) like.head;
  cells = ap (λ (c : List (List ℕ)). cells_after c edit) like.cells;
}

choose_alike : (t : Bool) (a b c d : Image) → IsAlike a b → IsAlike c d → IsAlike (if t then a else c) (if t then b else d)
choose_alike true a b c d x y = x
choose_alike false a b c d x y = y

choose_lsn : (t : Bool) (a b : Image) (x y : ℕ) → x ≡ a.lsn → y ≡ b.lsn → (if t then x else y) ≡ (if t then a else b).lsn
choose_lsn true a b x y p q = p
choose_lsn false a b x y p q = q

step_alike : (p q : ℕ → Image) (r : LogRecord) → AreAlike p q → AreAlike (edited p r.page r.edit) (after_record q r)
step_alike p q r like n =
    choose_alike (n == r.page) (after_edit (p r.page) r.edit (p r.page).lsn) (after_edit (q r.page) r.edit r.lsn) (p n) (q n)
    (after_alike (p r.page) (q r.page) r.edit (p r.page).lsn r.lsn (like r.page)) (like n)

step_lsn : (q : ℕ → Image) (lsns : ℕ → ℕ) (r : LogRecord) → ((n : ℕ) → lsns n ≡ (q n).lsn) → (n : ℕ) → raised lsns r.page r.lsn n ≡ (after_record q r n).lsn
step_lsn q lsns r is n = choose_lsn (n == r.page) (after_edit (q r.page) r.edit r.lsn) (q n) r.lsn (lsns n) refl (is n)

made_alike : (es : List (ℕ × Edit)) (p q : ℕ → Image) (lsns : ℕ → ℕ) (lsn : ℕ) → AreAlike p q
    → AreAlike (edited_by es p) (replayed q (numbered lsns lsn es))
made_alike [] p q lsns lsn like = like
made_alike (e ∷ es) p q lsns lsn like =
    let r : LogRecord = record { lsn = lsn; prev = lsns e.0; page = e.0; edit = e.1 } in
    made_alike es (edited p e.0 e.1) (after_record q r) (raised lsns e.0 lsn) (lsn + 1) (step_alike p q r like)

made_next : (es : List (ℕ × Edit)) (p q : ℕ → Image) (lsns : ℕ → ℕ) (lsn : ℕ) → ((n : ℕ) → lsns n ≡ (q n).lsn) → AreAlike p q
    → AreFit es p → AreNext q lsn (numbered lsns lsn es)
made_next [] p q lsns lsn is like fit = tt
made_next (e ∷ es) p q lsns lsn is like fit =
    let r : LogRecord = record { lsn = lsn; prev = lsns e.0; page = e.0; edit = e.1 } in (
      record { number = refl; before = is e.0; fits = fit_alike (p e.0) (q e.0) e.1 (like e.0) fit.0 },
      made_next es (edited p e.0 e.1) (after_record q r) (raised lsns e.0 lsn) (lsn + 1) (step_lsn q lsns r is) (step_alike p q r like) fit.1,
    )

made_others : (es : List (ℕ × Edit)) (q : ℕ → Image) (lsns : ℕ → ℕ) (lsn n : ℕ) → IsUnedited n es → replayed q (numbered lsns lsn es) n ≡ q n
made_others [] q lsns lsn n off = refl
made_others (e ∷ es) q lsns lsn n off =
    let r : LogRecord = record { lsn = lsn; prev = lsns e.0; page = e.0; edit = e.1 } in
    made_others es (after_record q r) (raised lsns e.0 lsn) (lsn + 1) n off.1 ∙ written_other q r n off.0

pub edits_others : (p : ℕ → Image) (es : List (ℕ × Edit)) (n : ℕ) → IsUnedited n es → edited_by es p n ≡ p n
edits_others p [] n off = refl
edits_others p (e ∷ es) n off = edits_others (edited p e.0 e.1) es n off.1 ∙ edited_other p e.0 e.1 n off.0

same_alike : (p : ℕ → Image) → AreAlike p p
same_alike p n = record { head = refl; cells = refl }

pub records_next : (p : ℕ → Image) (last : ℕ) (es : List (ℕ × Edit)) → AreFit es p → AreNext p (last + 1) (numbered (lsns_of p) (last + 1) es)
records_next p last es fit = made_next es p p (lsns_of p) (last + 1) (λ n. refl) (same_alike p) fit

pub records_alike : (p : ℕ → Image) (last : ℕ) (es : List (ℕ × Edit)) → AreAlike (edited_by es p) (replayed p (numbered (lsns_of p) (last + 1) es))
records_alike p last es = made_alike es p p (lsns_of p) (last + 1) (same_alike p)

pub records_others : (p : ℕ → Image) (last : ℕ) (es : List (ℕ × Edit)) (n : ℕ) → IsUnedited n es
    → replayed p (numbered (lsns_of p) (last + 1) es) n ≡ p n
records_others p last es n off = made_others es p (lsns_of p) (last + 1) n off
