-- How the history and what speaks of it stay when it grows by an entry.
use Rattle.std.proofs.Common.{◌≡◌, ℕ, ◌+◌, ◌-◌, ◌<◌, ◌≤◌, List, [], ◌∷◌, ◌++◌, length, ap, arith, ◌∙◌, Option, Some, take, false}
use Rattle.std.proofs.lemmas.List.{length-append}
use Rattle.std.proofs.Math.Seq.{take-append_seam}
use Rattle.std.specs.List.{AllByRecursion}
use Rattle.cdb_values.specs.declared.rows.Change.{Change}
use Rattle.report_laws.specs.History.{is_entry_of, Origin, Basis, rows_after, states_of, rows_at, entry_at, changes_by, changes_at, last_position, view_of}
use Rattle.report_laws.specs.View.{IsUntouched}
use Rattle.session_language.specs.Touched.{Used, first_used}
use Rattle.report_text.specs.declared.reports.EntryLine.{EntryLine}
use Rattle.session_language.proofs.EachLaws.{all_found}
use Rattle.report_laws.proofs.FrontLemmas.{rows_front, entry_front, changes_front, entry_next, rows_next}

-- the history with an entry more is one position longer
pub last_more : (origin : Origin) (es : List EntryLine) (e : EntryLine) → last_position origin (es ++ e ∷ []) ≡ last_position origin es + 1
last_more origin es e = omega (arith, length-append es (e ∷ []))

-- where no entry is a transaction's, none at any position is
pub none_stands : (origin : Origin) (es : List EntryLine) (session : List ℕ) (txn : ℕ) → AllByRecursion (λ e. is_entry_of session txn e ≡ false) es →
    (k : ℕ) (e : EntryLine) → origin.position < k → entry_at origin es k ≡ Some e → is_entry_of session txn e ≡ false
none_stands origin es session txn all k e behind is = all_found (λ d. is_entry_of session txn d ≡ false) es (k - (origin.position + 1)) e all is

module _ (basis : Basis) (es : List EntryLine) (e : EntryLine) where
  abbrev now : ℕ
  now = last_position basis.origin es

  -- the rows at the positions up to now stay
  pub rows_stay : (b : ℕ) → b ≤ now → rows_at basis (es ++ e ∷ []) b ≡ rows_at basis es b
  rows_stay b within = rows_front basis es (e ∷ []) b within

  -- the rows at the next position
  pub rows_new : rows_at basis (es ++ e ∷ []) (now + 1) ≡ rows_after basis (states_of basis es) e
  rows_new = rows_next basis es [] e

  -- an entry keeps its place
  pub entry_stays : (k : ℕ) → basis.origin.position < k → k ≤ now → entry_at basis.origin (es ++ e ∷ []) k ≡ entry_at basis.origin es k
  entry_stays k first within = entry_front basis es (e ∷ []) k first within

  -- and the new one stands at the next position
  pub entry_new : entry_at basis.origin (es ++ e ∷ []) (now + 1) ≡ Some e
  entry_new = entry_next basis.origin es [] e

  -- so what an entry changes stays
  pub changes_stay : (k : ℕ) → basis.origin.position < k → k ≤ now → changes_at basis (es ++ e ∷ []) k ≡ changes_at basis es k
  changes_stay k first within = changes_front basis es (e ∷ []) k first within

  -- and the new one changes what it does behind the rows before it
  pub changes_new : changes_at basis (es ++ e ∷ []) (now + 1) ≡ changes_by basis (states_of basis es) (Some e)
  changes_new =
      let at : basis.origin.position + length es + 1 - (basis.origin.position + 1) ≡ length es = omega arith in
      ap (λ k. changes_by basis (states_of basis (take k (es ++ e ∷ []))) (entry_at basis.origin (es ++ e ∷ []) (now + 1))) at
      ∙ ap (λ (before : List EntryLine). changes_by basis (states_of basis before) (entry_at basis.origin (es ++ e ∷ []) (now + 1))) (take-append_seam es (e ∷ []))
      ∙ ap (λ (found : Option EntryLine). changes_by basis (states_of basis es) found) entry_new

  -- what no entry touched stays so
  pub untouched_stays : (begin position : ℕ) (used : List Used) → basis.origin.position ≤ begin → position ≤ now + 1 → IsUntouched (view_of basis es) begin position used → IsUntouched (view_of basis (es ++ e ∷ [])) begin position used
  untouched_stays begin position used base within was = λ j after before.
      ap (λ (changes : List Change). first_used basis.origin.tables changes used) (changes_stay j (omega (arith, base, after)) (omega (arith, before, within))) ∙ was j after before
