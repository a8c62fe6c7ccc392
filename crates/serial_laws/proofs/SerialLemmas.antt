-- A history whose entries are right is serial.
use Rattle.std.proofs.Common.{◌≡◌, ℕ, zero, suc, ◌+◌, ◌-◌, ◌<◌, ◌≤◌, List, [], ◌∷◌, ◌++◌, length, refl, sym, ap, subst, ◌∙◌, false, Option, Some, arith, unwrap_or}
use Rattle.std.proofs.lemmas.List.{length-append}
use Rattle.std.proofs.lemmas.Option.{none-some, same_Some}
use Rattle.std.specs.List.{AllByRecursion, slice_get}
use Rattle.cdb_values.specs.Rows.{Rows, no_rows, apply_all}
use Rattle.cdb_values.specs.declared.rows.Level.{Level}
use Rattle.cdb_values.specs.declared.tables.TableDef.{TableDef}
use Rattle.sql_answer.specs.Answers.{Meaning}
use Rattle.query_laws.specs.Intervals.{Interval}
use Rattle.query_laws.specs.Stable.{HoldsTheSame}
use Rattle.query_laws.specs.Touched.{touches}
use Rattle.query_laws.proofs.ListLaws.{all_weaker}
use Rattle.query_laws.proofs.RowsLaws.{untouched_stays}
use Rattle.query_laws.proofs.RunLaws.{run_same}
use Rattle.serial_laws.specs.Histories.{Entry, Setup, Commit, Origin, rows_among, statements_alone, ops_of, rows_after, states_from, states_of, rows_at, entry_at, ops_or_none, ops_at, IsUntouched, IsBegun, IsRight, AllEntries, AllRight, IsSerialAt, IsSerial, IsPlaced}
use Rattle.session_language.proofs.EachLaws.{get_front, get_next}

-- the rows at a place of the list of states
abbrev pub place : Origin → List Rows → ℕ → Rows
place origin states k = unwrap_or (slice_get states k) origin.rows

-- the rows at the positions that are there stay
pub states_stay : (tables : List TableDef) (origin : Origin) (states : List Rows) (es : List Entry) (k : ℕ) → k < length states →
    place origin (states_from tables origin states es) k ≡ place origin states k
states_stay tables origin states [] k within = refl
states_stay tables origin states (e ∷ es) k within =
    states_stay tables origin (states ++ rows_after tables origin states e ∷ []) es k (omega (arith, length-append states (rows_after tables origin states e ∷ [])))
    ∙ ap (λ found. unwrap_or found origin.rows) (get_front states (rows_after tables origin states e ∷ []) k within)

-- the rows after an entry that is new
new_rows : (tables : List TableDef) (origin : Origin) (states : List Rows) (e : Entry) (es : List Entry) (n : ℕ) → n + 1 ≡ length states →
    place origin (states_from tables origin states (e ∷ es)) (n + 1) ≡ rows_after tables origin states e
new_rows tables origin states e es n is =
    let now : Rows = rows_after tables origin states e in
    states_stay tables origin (states ++ now ∷ []) es (n + 1) (omega (arith, is, length-append states (now ∷ [])))
    ∙ ap (λ found. unwrap_or found origin.rows) (ap (slice_get (states ++ now ∷ [])) is ∙ get_next states now [])

-- a new transaction's are those before it with its operations applied
new_commit : (tables : List TableDef) (origin : Origin) (states : List Rows) (ss : List Meaning) (begin : ℕ) (level : Level) (es : List Entry) (n : ℕ) → n + 1 ≡ length states → begin - origin.position ≤ n →
    rows_after tables origin states (Commit ss begin level)
    ≡ apply_all (place origin (states_from tables origin states (Commit ss begin level ∷ es)) n) (ops_of tables origin (states_from tables origin states (Commit ss begin level ∷ es)) (Commit ss begin level))
new_commit tables origin states ss begin level es n is begun =
    let before : length states - 1 ≡ n = omega (arith, is) in
    ap (λ k. apply_all (place origin states k) (statements_alone tables (rows_among origin states begin) ss).ops) before
    ∙ ap (λ (rows : Rows). apply_all rows (statements_alone tables (rows_among origin states begin) ss).ops) (sym (states_stay tables origin states (Commit ss begin level ∷ es) n (omega (arith, is))))
    ∙ ap (λ (rows : Rows). apply_all (place origin (states_from tables origin states (Commit ss begin level ∷ es)) n) (statements_alone tables rows ss).ops) (sym (states_stay tables origin states (Commit ss begin level ∷ es) (begin - origin.position) (omega (arith, is, begun))))

-- the rows after an entry, in the whole history
abbrev StepOf : List TableDef → Origin → List Rows → ℕ → Entry → Type 0
StepOf tables origin final n Setup = place origin final (n + 1) ≡ no_rows tables
StepOf tables origin final n (Commit ss begin level) =
    begin - origin.position ≤ n → place origin final (n + 1) ≡ apply_all (place origin final n) (ops_of tables origin final (Commit ss begin level))

step_new : (tables : List TableDef) (origin : Origin) (states : List Rows) (e : Entry) (es : List Entry) (n : ℕ) → n + 1 ≡ length states →
    StepOf tables origin (states_from tables origin states (e ∷ es)) n e
step_new tables origin states Setup es n is = new_rows tables origin states Setup es n is
step_new tables origin states (Commit ss begin level) es n is = λ begun. new_rows tables origin states (Commit ss begin level) es n is ∙ new_commit tables origin states ss begin level es n is begun

step_from : (tables : List TableDef) (origin : Origin) (states : List Rows) (es : List Entry) (k n : ℕ) (e : Entry) →
    n + 1 ≡ length states + k → slice_get es k ≡ Some e → StepOf tables origin (states_from tables origin states es) n e
step_from tables origin states [] k n e at is = absurd (none-some e is)
step_from tables origin states (d ∷ es) zero n e at is =
    subst (λ (e : Entry). StepOf tables origin (states_from tables origin states (d ∷ es)) n e) (same_Some d e is) (step_new tables origin states d es n (omega (arith, at)))
step_from tables origin states (d ∷ es) (suc k) n e at is =
    step_from tables origin (states ++ rows_after tables origin states d ∷ []) es k n e (omega (arith, at, length-append states (rows_after tables origin states d ∷ []))) is

pub get_within : {A : Type 0} (xs : List A) (k : ℕ) → k < length xs → (x : A) × (slice_get xs k ≡ Some x)
get_within [] k h = absurd (omega arith)
get_within (x ∷ xs) zero h = (x, refl)
get_within (x ∷ xs) (suc k) h = get_within xs k (omega arith)

module _ (tables : List TableDef) (origin : Origin) (es : List Entry) where
  abbrev pub now : ℕ → Rows
  now p = rows_at tables origin es p

  -- the step of an entry whose kind is known
  abbrev pub IsStep : ℕ → Entry → Type 0
  IsStep p Setup = now (p + 1) ≡ no_rows tables
  IsStep p (Commit ss begin level) = now (p + 1) ≡ apply_all (now p) (ops_of tables origin (states_of tables origin es) (Commit ss begin level))

  pub step_at : (p : ℕ) (e : Entry) → origin.position ≤ p → slice_get es (p - origin.position) ≡ Some e → IsPlaced origin (p + 1) e → IsStep p e
  step_at p Setup after is placed =
      let next : p + 1 - origin.position ≡ p - origin.position + 1 = omega (arith, after) in
      ap (place origin (states_of tables origin es)) next ∙ step_from tables origin (origin.rows ∷ []) es (p - origin.position) (p - origin.position) Setup (omega arith) is
  step_at p (Commit ss begin level) after is placed =
      let next : p + 1 - origin.position ≡ p - origin.position + 1 = omega (arith, after) in
      let begun : begin < p + 1 = placed.before in
      ap (place origin (states_of tables origin es)) next ∙ step_from tables origin (origin.rows ∷ []) es (p - origin.position) (p - origin.position) (Commit ss begin level) (omega arith) is (omega (arith, begun))

  -- after the first position of all, each step applies the operations of an entry
  pub rows_step : AllEntries origin es (IsPlaced origin) → (p : ℕ) → origin.position ≤ p → 1 ≤ p → p < origin.position + length es → now (p + 1) ≡ apply_all (now p) (ops_at tables origin es (p + 1))
  rows_step placed p after first within =
      let back : p + 1 - (origin.position + 1) ≡ p - origin.position = omega (arith, after) in
      let found = get_within es (p - origin.position) (omega (arith, after, within)) in
      let here : entry_at origin es (p + 1) ≡ Some found.0 = ap (slice_get es) back ∙ found.1 in
      by_kind found.0 found.1 here (placed (p + 1) found.0 (omega (arith, after)) (omega (arith, within)) here) p after first
    where
      by_kind : (e : Entry) → slice_get es (p - origin.position) ≡ Some e → entry_at origin es (p + 1) ≡ Some e → IsPlaced origin (p + 1) e → (q : ℕ) → origin.position ≤ p → 1 ≤ p → now (p + 1) ≡ apply_all (now p) (ops_at tables origin es (p + 1))
      by_kind Setup is here placed q after first = absurd (omega (arith, placed, first))
      by_kind (Commit ss begin level) is here placed q after first =
          step_at p (Commit ss begin level) after is placed
          ∙ ap (λ (o : Option Entry). apply_all (now p) (ops_or_none tables origin (states_of tables origin es) o)) (sym here)

  -- what no entry touches stays
  stays : AllEntries origin es (IsPlaced origin) → (begin position : ℕ) → IsBegun origin begin position → position ≤ origin.position + length es → (range : Interval) → IsUntouched tables origin es begin position range →
      (m n : ℕ) → n ≡ begin + m → n < position → HoldsTheSame tables (now begin) (now n) range
  stays placed begin position begun within range untouched zero n is before =
      subst (λ (k : ℕ). HoldsTheSame tables (now begin) (now k) range) (omega (arith, is)) refl
  stays placed begin position begun within range untouched (suc m) n is before =
      let p : ℕ = begin + m in
      let first : 1 ≤ begin = begun.first in
      let after : origin.position ≤ begin = begun.after in
      let next : p + 1 ≡ n = omega (arith, is) in
      let back : p + 1 - 1 ≡ p = omega arith in
      let off : touches tables range (now p) (ops_at tables origin es (p + 1)) ≡ false =
      subst (λ (q : ℕ). touches tables range (now q) (ops_at tables origin es (p + 1)) ≡ false) back (untouched (p + 1) (omega arith) (omega (arith, before, next))) in
      let step : HoldsTheSame tables (now p) (now (p + 1)) range =
      subst (λ (rows : Rows). HoldsTheSame tables (now p) rows range) (sym (rows_step placed p (omega (arith, after)) (omega (arith, first)) (omega (arith, before, next, within)))) (untouched_stays tables range (now p) (ops_at tables origin es (p + 1)) off) in
      let so_far = stays placed begin position begun within range untouched m p refl (omega (arith, before, next)) in
      subst (λ (k : ℕ). HoldsTheSame tables (now begin) (now k) range) next (step ∙ so_far)

  all_stay : AllEntries origin es (IsPlaced origin) → (begin position : ℕ) → IsBegun origin begin position → position ≤ origin.position + length es → (ranges : List Interval) →
      AllByRecursion (IsUntouched tables origin es begin position) ranges → AllByRecursion (HoldsTheSame tables (now begin) (now (position - 1))) ranges
  all_stay placed begin position begun within ranges untouched =
      let before : begin < position = begun.before in
      all_weaker (IsUntouched tables origin es begin position) (HoldsTheSame tables (now begin) (now (position - 1)))
      (λ range off. stays placed begin position begun within range off (position - 1 - begin) (position - 1) (omega (arith, before)) (omega (arith, before))) ranges untouched

  right_is_placed : AllRight tables origin es → AllEntries origin es (IsPlaced origin)
  right_is_placed right position e after within here = of_kind e (right position e after within here)
    where
      of_kind : (e : Entry) → IsRight tables origin es position e → IsPlaced origin position e
      of_kind Setup was = was
      of_kind (Commit ss begin level) was = was.0

  -- A HISTORY WHOSE ENTRIES ARE RIGHT IS SERIAL
  pub right_is_serial : AllRight tables origin es → IsSerial tables origin es
  right_is_serial right position e after within here = of_kind (right_is_placed right) e (right position e after within here)
    where
      of_kind : AllEntries origin es (IsPlaced origin) → (e : Entry) → IsRight tables origin es position e → IsSerialAt tables origin es position e
      of_kind placed Setup was = tt
      of_kind placed (Commit ss begin level) was = λ is.
          run_same tables (now begin) (now (position - 1)) [] ss (all_stay placed begin position was.0 within (statements_alone tables (now begin) ss).ranges (was.1 is))
