-- What a history gives at a position is what its front up to there gives.
use Rattle.std.proofs.Common.{◌≡◌, ℕ, ◌+◌, ◌-◌, ◌<◌, ◌≤◌, List, [], ◌∷◌, ◌++◌, length, refl, sym, ap, arith, ◌∙◌, Option, Some, unwrap_or, append_assoc}
use Rattle.std.proofs.lemmas.List.{append-nil, take-append-le, length-append}
use Rattle.std.specs.List.{slice_get}
use Rattle.cdb_values.specs.Rows.{Rows}
use Rattle.cdb_values.specs.declared.rows.Change.{Change}
use Rattle.report_laws.specs.History.{Origin, Basis, rows_after, rows_among, states_from, states_of, rows_at, entry_at, entries_before, last_position, changes_by, changes_at, view_of}
use Rattle.report_laws.specs.View.{IsUntouched}
use Rattle.session_language.specs.Touched.{Used, first_used}
use Rattle.report_text.specs.declared.reports.EntryLine.{EntryLine}
use Rattle.session_language.proofs.EachLaws.{get_front, get_next}

pub states_count : (basis : Basis) (states : List Rows) (es : List EntryLine) → length (states_from basis states es) ≡ length states + length es
states_count basis states [] = omega arith
states_count basis states (e ∷ es) =
    let more = states_count basis (states ++ rows_after basis states e ∷ []) es in
    omega (arith, more, length-append states (rows_after basis states e ∷ []))

states_append : (basis : Basis) (states : List Rows) (es fs : List EntryLine) →
    states_from basis states (es ++ fs) ≡ states_from basis (states_from basis states es) fs
states_append basis states [] fs = refl
states_append basis states (e ∷ es) fs = states_append basis (states ++ rows_after basis states e ∷ []) es fs

states_grow : (basis : Basis) (states : List Rows) (fs : List EntryLine) → (more : List Rows) × (states_from basis states fs ≡ states ++ more)
states_grow basis states [] = ([], sym (append-nil states))
states_grow basis states (f ∷ fs) =
    let rest : (more : List Rows) × (states_from basis (states ++ rows_after basis states f ∷ []) fs ≡ (states ++ rows_after basis states f ∷ []) ++ more) =
    states_grow basis (states ++ rows_after basis states f ∷ []) fs in
    (rows_after basis states f ∷ rest.0, rest.1 ∙ append_assoc states (rows_after basis states f ∷ []) rest.0)

module _ (basis : Basis) (es fs : List EntryLine) where
  pub rows_front : (k : ℕ) → k ≤ last_position basis.origin es → rows_at basis (es ++ fs) k ≡ rows_at basis es k
  rows_front k within =
      let count : length (states_of basis es) ≡ 1 + length es = states_count basis (basis.origin.rows ∷ []) es in
      let inside : k - basis.origin.position < length (states_of basis es) = omega (arith, count, within) in
      let grows : (more : List Rows) × (states_from basis (states_of basis es) fs ≡ states_of basis es ++ more) = states_grow basis (states_of basis es) fs in
      ap (λ (states : List Rows). rows_among basis.origin states k) (states_append basis (basis.origin.rows ∷ []) es fs ∙ grows.1)
      ∙ ap (λ found. unwrap_or found basis.origin.rows) (get_front (states_of basis es) grows.0 (k - basis.origin.position) inside)

  pub entry_front : (k : ℕ) → basis.origin.position < k → k ≤ last_position basis.origin es → entry_at basis.origin (es ++ fs) k ≡ entry_at basis.origin es k
  entry_front k first within = get_front es fs (k - (basis.origin.position + 1)) (omega (arith, first, within))

  pub changes_front : (k : ℕ) → basis.origin.position < k → k ≤ last_position basis.origin es → changes_at basis (es ++ fs) k ≡ changes_at basis es k
  changes_front k first within =
      let inside : k - (basis.origin.position + 1) ≤ length es = omega (arith, within) in
      ap (λ (before : List EntryLine). changes_by basis (states_of basis before) (entry_at basis.origin (es ++ fs) k)) (take-append-le (k - (basis.origin.position + 1)) es fs inside)
      ∙ ap (λ (found : Option EntryLine). changes_by basis (states_of basis (entries_before basis.origin es k)) found) (entry_front k first within)

  pub untouched_front : (begin position : ℕ) (used : List Used) → basis.origin.position ≤ begin → position ≤ last_position basis.origin es + 1 →
      IsUntouched (view_of basis (es ++ fs)) begin position used → IsUntouched (view_of basis es) begin position used
  untouched_front begin position used base within was = λ j after before.
      ap (λ (changes : List Change). first_used basis.origin.tables changes used) (sym (changes_front j (omega (arith, base, after)) (omega (arith, before, within)))) ∙ was j after before

-- the entry at the next position
pub entry_next : (origin : Origin) (es fs : List EntryLine) (e : EntryLine) → entry_at origin (es ++ e ∷ fs) (last_position origin es + 1) ≡ Some e
entry_next origin es fs e =
    let at : origin.position + length es + 1 - (origin.position + 1) ≡ length es = omega arith in
    ap (λ k. slice_get (es ++ e ∷ fs) k) at ∙ get_next es e fs

-- the rows at the next position
pub rows_next : (basis : Basis) (es fs : List EntryLine) (e : EntryLine) →
    rows_at basis (es ++ e ∷ fs) (last_position basis.origin es + 1) ≡ rows_after basis (states_of basis es) e
rows_next basis es fs e =
    let count : length (states_of basis es) ≡ 1 + length es = states_count basis (basis.origin.rows ∷ []) es in
    let at : basis.origin.position + length es + 1 - basis.origin.position ≡ length (states_of basis es) = omega (arith, count) in
    let next : List Rows = states_of basis es ++ rows_after basis (states_of basis es) e ∷ [] in
    let grows : (more : List Rows) × (states_from basis next fs ≡ next ++ more) = states_grow basis next fs in
    ap (λ (states : List Rows). rows_among basis.origin states (last_position basis.origin es + 1)) (states_append basis (basis.origin.rows ∷ []) es (e ∷ fs) ∙ grows.1 ∙ append_assoc (states_of basis es) (rows_after basis (states_of basis es) e ∷ []) grows.0)
    ∙ ap (λ k. unwrap_or (slice_get (states_of basis es ++ rows_after basis (states_of basis es) e ∷ grows.0) k) basis.origin.rows) at
    ∙ ap (λ found. unwrap_or found basis.origin.rows) (get_next (states_of basis es) (rows_after basis (states_of basis es) e) grows.0)
