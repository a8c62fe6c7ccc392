-- The entries of a lawful report at level serializable are serial, over a language that is so by what it reads.
use Rattle.std.proofs.Common.{◌≡◌, ℕ, zero, suc, ◌+◌, ◌-◌, ◌<◌, ◌≤◌, List, [], ◌∷◌, ◌++◌, length, refl, sym, subst, ap, arith, ◌∙◌, Option, Some, unwrap_or, take, false, ◌⊎◌, inl, inr}
use Rattle.std.proofs.Math.Seq.{take-append_seam}
use Rattle.std.specs.List.{AllByRecursion, slice_get}
use Rattle.cdb_values.specs.Changes.{changes_of}
use Rattle.cdb_values.specs.Rows.{Rows, no_rows, apply_all}
use Rattle.cdb_values.specs.declared.items.Interval.{Interval}
use Rattle.cdb_values.specs.declared.rows.Change.{Change}
use Rattle.cdb_values.specs.declared.rows.Level.{Level}
use Rattle.cdb_values.specs.declared.rows.Level.TheVariants.{Serializable}
use Rattle.cdb_values.specs.declared.rows.RowOp.{RowOp}
use Rattle.cdb_values.specs.declared.tables.TableDef.{TableDef}
use Rattle.report_laws.specs.History.{Basis, IsEntryAfter, IsCommitAfter, alone_on, rows_at, rows_after, ops_of, ops_alone, states_of, entry_at, changes_by, changes_at, last_position, view_of}
use Rattle.report_laws.specs.Lawful.{Lawful}
use Rattle.report_laws.specs.Serial.{each_on, lasting_on, IsSerialAt}
use Rattle.report_laws.specs.Work.{Transaction}
use Rattle.report_text.specs.declared.reports.EntryLine.{EntryLine}
use Rattle.report_text.specs.declared.reports.EntryLine.TheVariants.{Setup, Commit}
use Rattle.report_text.specs.declared.reports.Report.{Report}
use Rattle.session_language.specs.Each.{EachAfter, StandsIn}
use Rattle.session_language.specs.Intervals.{changes_touch, HoldsTheSame}
use Rattle.session_language.specs.Language.{Answered}
use Rattle.session_language.specs.Serial.{IsByReads, IsSound, IsTrueOp, without_failures}
use Rattle.session_language.proofs.EachLaws.{all_map}
use Rattle.session_language.proofs.SerialLaws.{ops_same}
use Rattle.session_language.proofs.SoundLaws.{ops_keep, sound_stays, no_rows_sound, unchanged_stays}
use Rattle.session_language.proofs.UsedLaws.{ranges_untouched}
use Rattle.report_laws.proofs.FrontLemmas.{rows_front, entry_next, rows_next}
use Rattle.report_laws.proofs.LawLemmas.{each_at}

-- a list parts at each of its places
parts_at : {A : Type 0} (xs : List A) (k : ℕ) → k < length xs → (front : List A) × (x : A) × (back : List A) × (xs ≡ front ++ x ∷ back) × (length front ≡ k)
parts_at [] k within = absurd (omega arith)
parts_at (x ∷ xs) zero within = ([], x, xs, refl, refl)
parts_at (x ∷ xs) (suc k) within =
    let rest = parts_at xs k (omega (arith, within)) in
    (x ∷ rest.0, rest.1, rest.2, ap (λ ys. x ∷ ys) rest.3, ap suc rest.4)

-- a front of a list whose members are right is such a list
pub each_front : {A : Type 0} (P : List A → A → Type 0) (before xs ys : List A) → EachAfter P before (xs ++ ys) → EachAfter P before xs
each_front P before [] ys each = tt
each_front P before (x ∷ xs) ys each = (each.0, each_front P (before ++ x ∷ []) xs ys each.1)

-- what each part has at every position between two
swapped : (P : ℕ → Interval → Type 0) (begin position : ℕ) (ranges : List Interval) → ((j : ℕ) → begin < j → j < position → AllByRecursion (P j) ranges) →
    AllByRecursion (λ range. (j : ℕ) → begin < j → j < position → P j range) ranges
swapped P begin position [] each = tt
swapped P begin position (range ∷ ranges) each =
    (λ j after before. (each j after before).0, swapped P begin position ranges (λ j after before. (each j after before).1))

-- a position is left by a transaction that began at a position before it
pub record IsStep (basis : Basis) (es : List EntryLine) (p : ℕ) : Type 0 where
  pub begin : ℕ
  pub first : 1 ≤ begin
  pub base : basis.origin.position ≤ begin
  pub before : begin ≤ p
  pub texts : List (List ℕ)
  pub rows : rows_at basis es (p + 1) ≡ apply_all (rows_at basis es p) (alone_on basis (rows_at basis es begin) texts).ops
  pub changes : changes_at basis es (p + 1) ≡ changes_of (alone_on basis (rows_at basis es begin) texts).ops (rows_at basis es p).next

-- or the schema's entry leaves the first position of all
abbrev pub IsNext : Basis → List EntryLine → ℕ → Type 0
IsNext basis es p = IsStep basis es p ⊎ ((p ≡ 0) × (rows_at basis es (p + 1) ≡ no_rows basis.origin.tables))

module _ (basis : Basis) (front back : List EntryLine) (position : ℕ) (session : List ℕ) (txn begin : ℕ) (level : Level)
    (is : IsCommitAfter basis (view_of basis front) position session txn begin level) where
  abbrev its : EntryLine
  its = Commit position session txn begin level

  abbrev all : List EntryLine
  all = front ++ its ∷ back

  abbrev end : ℕ
  end = last_position basis.origin front

  placed : position ≡ end + 1
  placed = is.placed

  begun : begin < position
  begun = is.begun.2

  at : position - 1 ≡ end
  at = omega (arith, placed)

  begin_stays : rows_at basis all begin ≡ rows_at basis front begin
  begin_stays = rows_front basis front (its ∷ back) begin (omega (arith, placed, begun))

  end_stays : rows_at basis all end ≡ rows_at basis front end
  end_stays = rows_front basis front (its ∷ back) end (omega arith)

  ran : List RowOp
  ran = (alone_on basis (rows_at basis all begin) is.transaction.texts).ops

  ops_are : ops_of basis (states_of basis front) its ≡ ran
  unfolding ran
  ops_are =
      ap (λ (found : Option Transaction). ops_alone basis (rows_at basis front begin) found) is.is_its
      ∙ ap (λ (rows : Rows). (alone_on basis rows is.transaction.texts).ops) (sym begin_stays)

  rows_are : rows_after basis (states_of basis front) its ≡ apply_all (rows_at basis all end) ran
  rows_are =
      ap (λ k. apply_all (rows_at basis front k) (ops_of basis (states_of basis front) its)) at
      ∙ ap (λ (rows : Rows). apply_all rows (ops_of basis (states_of basis front) its)) (sym end_stays)
      ∙ ap (λ (ops : List RowOp). apply_all (rows_at basis all end) ops) ops_are

  changes_there : changes_at basis all (end + 1) ≡ changes_by basis (states_of basis front) (Some its)
  changes_there =
      let count : basis.origin.position + length front + 1 - (basis.origin.position + 1) ≡ length front = omega arith in
      ap (λ k. changes_by basis (states_of basis (take k all)) (entry_at basis.origin all (end + 1))) count
      ∙ ap (λ (before : List EntryLine). changes_by basis (states_of basis before) (entry_at basis.origin all (end + 1))) (take-append_seam front (its ∷ back))
      ∙ ap (λ (found : Option EntryLine). changes_by basis (states_of basis front) found) (entry_next basis.origin front back its)

  changes_are : changes_by basis (states_of basis front) (Some its) ≡ changes_of ran (rows_at basis all end).next
  changes_are =
      ap (λ k. changes_of (ops_of basis (states_of basis front) its) (rows_at basis front k).next) at
      ∙ ap (λ (rows : Rows). changes_of (ops_of basis (states_of basis front) its) rows.next) (sym end_stays)
      ∙ ap (λ (ops : List RowOp). changes_of ops (rows_at basis all end).next) ops_are

  commit_step : IsStep basis all end
  unfolding ran
  commit_step = record {
    begin = begin;
    first = is.begun.0;
    base = is.begun.1;
    before = omega (arith, placed, begun);
    texts = is.transaction.texts;
    rows = rows_next basis front back its ∙ rows_are;
    changes = changes_there ∙ changes_are;
  }

next_by_kind : (basis : Basis) (front back : List EntryLine) (e : EntryLine) → IsEntryAfter basis front e → IsNext basis (front ++ e ∷ back) (last_position basis.origin front)
next_by_kind basis front back (Setup position) is =
    let none : length front ≡ 0 = ap (λ (es : List EntryLine). length es) is.0 in
    let base : basis.origin.position ≡ 0 = is.1 in
    inr (omega (arith, none, base), rows_next basis front back (Setup position))
next_by_kind basis front back (Commit position session txn begin level) is = inl (commit_step basis front back position session txn begin level is)

module _ (basis : Basis) (es : List EntryLine) (each : EachAfter (IsEntryAfter basis) [] es) where
  abbrev now : ℕ → Rows
  now p = rows_at basis es p

  abbrev tables : List TableDef
  tables = basis.origin.tables

  next_at : (p : ℕ) → basis.origin.position ≤ p → p < last_position basis.origin es → IsNext basis es p
  next_at p after within =
      let parts = parts_at es (p - basis.origin.position) (omega (arith, after, within)) in
      let is : es ≡ parts.0 ++ parts.1 ∷ parts.2 = parts.3 in
      let count : length parts.0 ≡ p - basis.origin.position = parts.4 in
      subst (λ k. IsNext basis es k) (let same : basis.origin.position + length parts.0 ≡ p = omega (arith, count, after) in same)
      (subst (λ (all : List EntryLine). IsNext basis all (last_position basis.origin parts.0)) (sym is)
      (next_by_kind basis parts.0 parts.2 parts.1
      (each_at (IsEntryAfter basis) [] parts.0 parts.1 parts.2 (subst (λ (all : List EntryLine). EachAfter (IsEntryAfter basis) [] all) is each))))

  base_rows : (p : ℕ) → p ≡ basis.origin.position → now p ≡ basis.origin.rows
  base_rows p is =
      let zeroth : p - basis.origin.position ≡ 0 = omega (arith, is) in
      rows_front basis [] es p (omega (arith, is)) ∙ ap (λ k. unwrap_or (slice_get (basis.origin.rows ∷ []) k) basis.origin.rows) zeroth

  -- the rows at each position are sound
  sound_at : IsSound basis.origin.rows → (m p : ℕ) → p ≡ basis.origin.position + m → p ≤ last_position basis.origin es → IsSound (now p)
  sound_at sound zero p is within = subst IsSound (sym (base_rows p (omega (arith, is)))) sound
  sound_at sound (suc m) p is within =
      let q : ℕ = basis.origin.position + m in
      let next : q + 1 ≡ p = omega (arith, is) in
      subst (λ k. IsSound (now k)) next (go (next_at q (omega arith) (omega (arith, next, within))) (sound_at sound m q refl (omega (arith, next, within))))
    where
      go : IsNext basis es (basis.origin.position + m) → IsSound (now (basis.origin.position + m)) → IsSound (now (basis.origin.position + m + 1))
      go (inl step) before = subst IsSound (sym step.rows) (sound_stays (now (basis.origin.position + m)) (alone_on basis (now step.begin) step.texts).ops before)
      go (inr setup) before = subst IsSound (sym setup.1) (no_rows_sound tables)

  -- operations that name rows rightly at a position do so at each later one
  true_later : (ops : List RowOp) (b : ℕ) → 1 ≤ b → basis.origin.position ≤ b → AllByRecursion (IsTrueOp (now b)) ops → (m n : ℕ) → n ≡ b + m → n ≤ last_position basis.origin es → AllByRecursion (IsTrueOp (now n)) ops
  true_later ops b first base all zero n is within =
      let same : b ≡ n = omega (arith, is) in subst (λ k. AllByRecursion (IsTrueOp (now k)) ops) same all
  true_later ops b first base all (suc m) n is within =
      let next : b + m + 1 ≡ n = omega (arith, is) in
      subst (λ k. AllByRecursion (IsTrueOp (now k)) ops) next
      (go (next_at (b + m) (omega (arith, base)) (omega (arith, next, within))) (true_later ops b first base all m (b + m) refl (omega (arith, next, within))))
    where
      go : IsNext basis es (b + m) → AllByRecursion (IsTrueOp (now (b + m))) ops → AllByRecursion (IsTrueOp (now (b + m + 1))) ops
      go (inl step) before =
          subst (λ (rows : Rows). AllByRecursion (IsTrueOp rows) ops) (sym step.rows) (ops_keep (now (b + m)) (alone_on basis (now step.begin) step.texts).ops ops before)
      go (inr setup) before = let none : b + m ≡ 0 = setup.0 in absurd (omega (arith, none, first))

  -- so a transaction's operations name rows rightly right before its entry
  step_true : IsByReads basis.language tables → IsSound basis.origin.rows → (p : ℕ) → p < last_position basis.origin es → (step : IsStep basis es p) →
      AllByRecursion (IsTrueOp (now p)) (alone_on basis (now step.begin) step.texts).ops
  step_true reads sound p within step =
      let first : 1 ≤ step.begin = step.first in
      let base : basis.origin.position ≤ step.begin = step.base in
      let before : step.begin ≤ p = step.before in
      true_later (alone_on basis (now step.begin) step.texts).ops step.begin first base
      (reads.tells (now step.begin) step.texts (sound_at sound (step.begin - basis.origin.position) step.begin (omega (arith, base)) (omega (arith, before, within))))
      (p - step.begin) p (omega (arith, before)) (omega (arith, within))

  -- what no entry touches stays
  stays : IsByReads basis.language tables → IsSound basis.origin.rows → (begin position : ℕ) → 1 ≤ begin → basis.origin.position ≤ begin → position ≤ last_position basis.origin es + 1 → (range : Interval) →
      ((j : ℕ) → begin < j → j < position → changes_touch tables range (changes_at basis es j) ≡ false) →
      (m n : ℕ) → n ≡ begin + m → n < position → HoldsTheSame tables (now begin) (now n) range
  stays reads sound begin position first base within range off zero n is before =
      let same : begin ≡ n = omega (arith, is) in subst (λ k. HoldsTheSame tables (now begin) (now k) range) same refl
  stays reads sound begin position first base within range off (suc m) n is before =
      let next : begin + m + 1 ≡ n = omega (arith, is) in
      subst (λ k. HoldsTheSame tables (now begin) (now k) range) next
      (go (next_at (begin + m) (omega (arith, base)) (omega (arith, next, before, within))) ∙ stays reads sound begin position first base within range off m (begin + m) refl (omega (arith, next, before)))
    where
      go : IsNext basis es (begin + m) → HoldsTheSame tables (now (begin + m)) (now (begin + m + 1)) range
      go (inl step) =
          let next : begin + m + 1 ≡ n = omega (arith, is) in
          subst (λ (rows : Rows). HoldsTheSame tables (now (begin + m)) rows range) (sym step.rows)
          (unchanged_stays tables range (now (begin + m)) (alone_on basis (now step.begin) step.texts).ops
          (step_true reads sound (begin + m) (omega (arith, next, before, within)) step)
          (sym (ap (λ (changes : List Change). changes_touch tables range changes) step.changes) ∙ off (begin + m + 1) (omega arith) (omega (arith, next, before))))
      go (inr setup) = let none : begin + m ≡ 0 = setup.0 in absurd (omega (arith, none, first))

-- an entry behind these that is right after them
module _ (basis : Basis) (reads : IsByReads basis.language basis.origin.tables) (sound : IsSound basis.origin.rows) (front back : List EntryLine) (each : EachAfter (IsEntryAfter basis) [] front)
    (position : ℕ) (session : List ℕ) (txn begin : ℕ) (is : IsCommitAfter basis (view_of basis front) position session txn begin Serializable) where
  abbrev there : ℕ
  there = last_position basis.origin front

  abbrev whole : List EntryLine
  whole = front ++ Commit position session txn begin Serializable ∷ back

  -- the intervals that it read hold the same right before it
  all_hold : AllByRecursion (HoldsTheSame basis.origin.tables (rows_at basis front begin) (rows_at basis front there)) (alone_on basis (rows_at basis front begin) is.transaction.texts).ranges
  all_hold =
      let placed : position ≡ there + 1 = is.placed in
      let before : begin < position = is.begun.2 in
      subst (λ (a : Answered). AllByRecursion (HoldsTheSame basis.origin.tables (rows_at basis front begin) (rows_at basis front there)) a.ranges) is.is_ran
      (all_map (λ range. (j : ℕ) → begin < j → j < position → changes_touch basis.origin.tables range (changes_at basis front j) ≡ false)
      (HoldsTheSame basis.origin.tables (rows_at basis front begin) (rows_at basis front there))
      (λ range off. stays basis front each reads sound begin position is.begun.0 is.begun.1 (omega (arith, placed)) range off (there - begin) there (omega (arith, placed, before)) (omega (arith, placed)))
      is.ran.ranges
      (swapped (λ j range. changes_touch basis.origin.tables range (changes_at basis front j) ≡ false) begin position is.ran.ranges
      (λ j after until. ranges_untouched basis.origin.tables (changes_at basis front j) is.ran (is.untouched j after until))))

  abbrev IsAnswered : Rows → Rows → Type 0
  IsAnswered rows others = each_on basis others (lasting_on basis rows is.transaction.texts) ≡ without_failures (each_on basis rows is.transaction.texts)

  before_it : rows_at basis whole (position - 1) ≡ rows_at basis front there
  before_it =
      let placed : position ≡ there + 1 = is.placed in
      let at : position - 1 ≡ there = omega (arith, placed) in
      ap (λ k. rows_at basis whole k) at ∙ rows_front basis front (Commit position session txn begin Serializable ∷ back) there (omega arith)

  at_its_begin : rows_at basis whole begin ≡ rows_at basis front begin
  at_its_begin =
      let placed : position ≡ there + 1 = is.placed in
      let before : begin < position = is.begun.2 in
      rows_front basis front (Commit position session txn begin Serializable ∷ back) begin (omega (arith, placed, before))

  answers_are : IsAnswered (rows_at basis whole begin) (rows_at basis whole (position - 1))
  answers_are =
      subst (λ (rows : Rows). IsAnswered rows (rows_at basis whole (position - 1))) (sym at_its_begin)
      (subst (λ (others : Rows). IsAnswered (rows_at basis front begin) others) (sym before_it)
      (reads.same (rows_at basis front begin) (rows_at basis front there) is.transaction.texts all_hold))

  pub serial_there : IsSerialAt basis whole position session txn begin
  serial_there = record {
    transaction = is.transaction;
    is_its = is.is_its;
    answers = answers_are;
    ops = ops_same basis.language basis.origin.tables reads (rows_at basis whole begin) (rows_at basis whole (position - 1)) is.transaction.texts answers_are;
  }

-- each entry of a lawful report at level serializable is serial
pub entries_serial : (basis : Basis) (report : Report) (position : ℕ) (session : List ℕ) (txn begin : ℕ) → IsByReads basis.language basis.origin.tables → IsSound basis.origin.rows → Lawful basis report →
    StandsIn report.entries (Commit position session txn begin Serializable) → IsSerialAt basis report.entries position session txn begin
entries_serial basis report position session txn begin reads sound lawful (front, back, is) =
    let each : EachAfter (IsEntryAfter basis) [] (front ++ Commit position session txn begin Serializable ∷ back) =
    subst (λ (es : List EntryLine). EachAfter (IsEntryAfter basis) [] es) is lawful.history in
    subst (λ (es : List EntryLine). IsSerialAt basis es position session txn begin) (sym is)
    (serial_there basis reads sound front back (each_front (IsEntryAfter basis) [] front (Commit position session txn begin Serializable ∷ back) each) position session txn begin
    (each_at (IsEntryAfter basis) [] front (Commit position session txn begin Serializable) back each))
