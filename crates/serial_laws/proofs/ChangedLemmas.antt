-- Operations that name their targets' rows rightly go on to do so, and touch what their changes touch.
use Rattle.std.proofs.Common.{◌≡◌, ℕ, zero, suc, ◌+◌, ◌-◌, ◌<◌, ◌≤◌, List, [], ◌∷◌, length, refl, sym, ap, subst, ◌∙◌, Bool, true, false, ◌&&◌, ◌||◌, eqb, Option, Some, arith}
use Rattle.std.proofs.lemmas.Bool.{or_parts, eqb-true}
use Rattle.std.specs.List.{AllByRecursion, list_any, slice_get}
use Rattle.cdb_values.specs.Rows.{Rows, versions_of, taken, added, apply}
use Rattle.cdb_values.specs.declared.rows.RowOp.{RowOp}
use Rattle.cdb_values.specs.declared.rows.RowOp.TheVariants as op
use Rattle.cdb_values.specs.declared.rows.RowRef.TheVariants.{Base, Own}
use Rattle.cdb_values.specs.declared.rows.Version.{Version}
use Rattle.cdb_values.specs.declared.tables.TableDef.{TableDef}
use Rattle.cdb_values.specs.declared.values.Value.{Value}
use Rattle.cdb_values.specs.Changes.{changes_of}
use Rattle.sql_answer.specs.Answers.{Meaning, answer, ops_after}
use Rattle.query_laws.specs.Intervals.{Interval, lies}
use Rattle.query_laws.specs.Runs.{run_from}
use Rattle.query_laws.specs.Touched.{leaves, enters, touches}
use Rattle.query_laws.proofs.ListLaws.{all_weaker}
use Rattle.serial_laws.specs.Histories.{Entry, Setup, Commit, Origin, statements_alone, states_of, ops_of, entry_at, ops_or_none, ops_at, IsUntouched, IsBegun, IsRight, AllEntries, AllRight, IsPlaced, IsSerial}
use Rattle.session_language.specs.Serial.{IsRowOf, IsTrueOp, IsSound}
use Rattle.serial_laws.specs.Changed.{lies_in, changes_touch, TellsTrue, IsUnchanged, IsFair, AllFair}
use Rattle.serial_laws.proofs.SerialLemmas.{place, now, IsStep, step_at, rows_step, states_stay, get_within, right_is_serial}
use Rattle.session_language.proofs.SoundLaws.{op_keeps, ops_keep, neither, no_rows_sound, sound_stays}

-- a version that does not lie in a range by the row that is named does not leave it
none_leaves : (tables : List TableDef) (range : Interval) (genid : ℕ) (old : List Value) (vs : List Version) → AllByRecursion (λ v. v.genid ≡ genid → v.row ≡ old) vs → lies tables range old ≡ false →
    list_any (λ v. eqb v.genid genid && lies tables range v.row) vs ≡ false
none_leaves tables range genid old [] a off = refl
none_leaves tables range genid old (v ∷ vs) a off =
    ap (λ b. b || list_any (λ v. eqb v.genid genid && lies tables range v.row) vs) (here (eqb v.genid genid) refl) ∙ none_leaves tables range genid old vs a.1 off
  where
    here : (b : Bool) → eqb v.genid genid ≡ b → (eqb v.genid genid && lies tables range v.row) ≡ false
    here false is = ap (λ b. b && lies tables range v.row) is
    here true is =
        ap (λ b. b && lies tables range v.row) is ∙ ap (lies tables range) (a.0 (eqb-true v.genid genid is)) ∙ off

leaves_not : (tables : List TableDef) (range : Interval) (rows : Rows) (table genid : ℕ) (old : List Value) → IsRowOf rows table genid old → lies_in tables range table old ≡ false → leaves tables range rows table genid ≡ false
leaves_not tables range rows table genid old was off = step (eqb table range.table) refl
  where
    step : (b : Bool) → eqb table range.table ≡ b → leaves tables range rows table genid ≡ false
    step false is = ap (λ b. b && list_any (λ v. eqb v.genid genid && lies tables range v.row) (versions_of rows table)) is
    step true is =
        ap (λ b. b && list_any (λ v. eqb v.genid genid && lies tables range v.row) (versions_of rows table)) is
        ∙ none_leaves tables range genid old (versions_of rows table) was.same (sym (ap (λ b. b && lies tables range old) is) ∙ off)

-- operations whose changes touch no range by the rows that they name touch none
pub touches_not : (tables : List TableDef) (range : Interval) (rows : Rows) (os : List RowOp) → AllByRecursion (IsTrueOp rows) os → changes_touch tables range (changes_of os rows.next) ≡ false → touches tables range rows os ≡ false
touches_not tables range rows [] all is = refl
touches_not tables range rows (o ∷ os) all is = one o all.0 is (touches_not tables range (apply rows o) os (all_weaker (IsTrueOp rows) (IsTrueOp (apply rows o)) (op_keeps rows o) os all.1))
  where
    one : (o : RowOp) → IsTrueOp rows o → changes_touch tables range (changes_of (o ∷ os) rows.next) ≡ false →
        (changes_touch tables range (changes_of os (apply rows o).next) ≡ false → touches tables range (apply rows o) os ≡ false) → touches tables range rows (o ∷ os) ≡ false
    one (op.Insert table row) right is rest =
        let parts = or_parts (lies_in tables range table row) (changes_touch tables range (changes_of os (rows.next + 1))) is in
        neither (enters tables range table row) (touches tables range (added rows table row) os) parts.0 (rest parts.1)
    one (op.Update table (Base genid) old row) right is rest =
        let parts = or_parts (lies_in tables range table old || lies_in tables range table row) (changes_touch tables range (changes_of os (rows.next + 1))) is in
        let here = or_parts (lies_in tables range table old) (lies_in tables range table row) parts.0 in
        neither (leaves tables range rows table genid || enters tables range table row) (touches tables range (added (taken rows table genid) table row) os)
        (neither (leaves tables range rows table genid) (enters tables range table row) (leaves_not tables range rows table genid old right here.0) here.1) (rest parts.1)
    one (op.Update table (Own write) old row) right is rest = rest is
    one (op.Delete table (Base genid) old) right is rest =
        let parts = or_parts (lies_in tables range table old) (changes_touch tables range (changes_of os rows.next)) is in
        neither (leaves tables range rows table genid) (touches tables range (taken rows table genid) os) (leaves_not tables range rows table genid old right parts.0) (rest parts.1)
    one (op.Delete table (Own write) old) right is rest = rest is

-- a transaction run alone names rows rightly
pub run_true : (tables : List TableDef) → TellsTrue tables → (rows : Rows) (ops : List RowOp) (ss : List Meaning) → IsSound rows → AllByRecursion (IsTrueOp rows) ops →
    AllByRecursion (IsTrueOp rows) (run_from tables rows.tables ops ss).ops
run_true tables tells rows ops [] sound all = all
run_true tables tells rows ops (s ∷ ss) sound all = run_true tables tells rows (ops_after ops (answer tables rows.tables ops s)) ss sound (tells rows ops s sound all)

module _ (tables : List TableDef) (origin : Origin) (es : List Entry) where
  -- the rows at each position are sound
  sound_at : AllEntries origin es (IsPlaced origin) → IsSound origin.rows → (m p : ℕ) → p ≡ origin.position + m → p ≤ origin.position + length es → IsSound (now tables origin es p)
  sound_at placed sound zero p is within =
      let zeroth : p - origin.position ≡ 0 = omega (arith, is) in
      subst (λ (k : ℕ). IsSound (place origin (states_of tables origin es) k)) (sym zeroth) (subst IsSound (sym (states_stay tables origin (origin.rows ∷ []) es 0 (omega arith))) sound)
  sound_at placed sound (suc m) p is within =
      let q : ℕ = origin.position + m in
      let next : q + 1 ≡ p = omega (arith, is) in
      let back : q + 1 - (origin.position + 1) ≡ q - origin.position = omega arith in
      let found = get_within es (q - origin.position) (omega (arith, next, within)) in
      let here : entry_at origin es (q + 1) ≡ Some found.0 = ap (slice_get es) back ∙ found.1 in
      subst (λ (k : ℕ). IsSound (now tables origin es k)) next
      (by_kind found.0 (step_at tables origin es q found.0 (omega arith) found.1 (placed (q + 1) found.0 (omega arith) (omega (arith, next, within)) here)) (sound_at placed sound m q refl (omega (arith, next, within))))
    where
      by_kind : (e : Entry) → IsStep tables origin es (origin.position + m) e → IsSound (now tables origin es (origin.position + m)) → IsSound (now tables origin es (origin.position + m + 1))
      by_kind Setup step before = subst IsSound (sym step) (no_rows_sound tables)
      by_kind (Commit ss begin level) step before = subst IsSound (sym step) (sound_stays (now tables origin es (origin.position + m)) (ops_of tables origin (states_of tables origin es) (Commit ss begin level)) before)

  -- operations that name rows rightly at a position do so at each later one
  true_later : AllEntries origin es (IsPlaced origin) → (ops : List RowOp) (b : ℕ) → 1 ≤ b → origin.position ≤ b → AllByRecursion (IsTrueOp (now tables origin es b)) ops →
      (m n : ℕ) → n ≡ b + m → n ≤ origin.position + length es → AllByRecursion (IsTrueOp (now tables origin es n)) ops
  true_later placed ops b first after all zero n is within = subst (λ (k : ℕ). AllByRecursion (IsTrueOp (now tables origin es k)) ops) (omega (arith, is)) all
  true_later placed ops b first after all (suc m) n is within =
      let p : ℕ = b + m in
      let next : p + 1 ≡ n = omega (arith, is) in
      let before = true_later placed ops b first after all m p refl (omega (arith, next, within)) in
      subst (λ (k : ℕ). AllByRecursion (IsTrueOp (now tables origin es k)) ops) next
      (subst (λ (rows : Rows). AllByRecursion (IsTrueOp rows) ops) (sym (rows_step tables origin es placed p (omega (arith, after)) (omega (arith, first)) (omega (arith, next, within))))
      (ops_keep (now tables origin es p) (ops_at tables origin es (p + 1)) ops before))

  -- so an entry's operations name rows rightly right before it
  entry_true : AllEntries origin es (IsPlaced origin) → TellsTrue tables → IsSound origin.rows → (j : ℕ) → origin.position < j → j ≤ origin.position + length es →
      AllByRecursion (IsTrueOp (now tables origin es (j - 1))) (ops_at tables origin es j)
  entry_true placed tells sound j after within =
      let found = get_within es (j - (origin.position + 1)) (omega (arith, after, within)) in
      subst (λ (o : Option Entry). AllByRecursion (IsTrueOp (now tables origin es (j - 1))) (ops_or_none tables origin (states_of tables origin es) o)) (sym found.1)
      (by_kind placed sound after within found.0 (placed j found.0 after within found.1))
    where
      by_kind : AllEntries origin es (IsPlaced origin) → IsSound origin.rows → origin.position < j → j ≤ origin.position + length es → (e : Entry) → IsPlaced origin j e →
          AllByRecursion (IsTrueOp (now tables origin es (j - 1))) (ops_of tables origin (states_of tables origin es) e)
      by_kind placed sound after within Setup was = tt
      by_kind placed sound after within (Commit ss begin level) was =
          let first : 1 ≤ begin = was.first in
          let later : origin.position ≤ begin = was.after in
          let before : begin < j = was.before in
          let at : IsSound (now tables origin es begin) = sound_at placed sound (begin - origin.position) begin (omega (arith, later)) (omega (arith, before, within)) in
          true_later placed (statements_alone tables (now tables origin es begin) ss).ops begin first later
          (run_true tables tells (now tables origin es begin) [] ss at tt) (j - 1 - begin) (j - 1) (omega (arith, before)) (omega (arith, within))

  untouched_from : AllEntries origin es (IsPlaced origin) → TellsTrue tables → IsSound origin.rows → (begin position : ℕ) → origin.position ≤ begin → position ≤ origin.position + length es → (range : Interval) →
      IsUnchanged tables origin es begin position range → IsUntouched tables origin es begin position range
  untouched_from placed tells sound begin position later within range was = λ j after before.
      touches_not tables range (now tables origin es (j - 1)) (ops_at tables origin es j) (entry_true placed tells sound j (omega (arith, after, later)) (omega (arith, before, within))) (was j after before)

  fair_is_placed : AllFair tables origin es → AllEntries origin es (IsPlaced origin)
  fair_is_placed fair position e after within here = of_kind e (fair position e after within here)
    where
      of_kind : (e : Entry) → IsFair tables origin es position e → IsPlaced origin position e
      of_kind Setup was = was
      of_kind (Commit ss begin level) was = was.0

  fair_is_right : TellsTrue tables → IsSound origin.rows → AllFair tables origin es → AllRight tables origin es
  fair_is_right tells sound fair position e after within here = of_kind (fair_is_placed fair) e (fair position e after within here)
    where
      of_kind : AllEntries origin es (IsPlaced origin) → (e : Entry) → IsFair tables origin es position e → IsRight tables origin es position e
      of_kind placed Setup was = was
      of_kind placed (Commit ss begin level) was =
          let begun : IsBegun origin begin position = was.0 in (
            begun,
            λ is. all_weaker (IsUnchanged tables origin es begin position) (IsUntouched tables origin es begin position)
                (untouched_from placed tells sound begin position begun.after within) (statements_alone tables (now tables origin es begin) ss).ranges (was.1 is),
          )

  -- A HISTORY THAT IS FAIR BY THE CHANGES OF ITS ENTRIES IS SERIAL
  pub fair_is_serial : TellsTrue tables → IsSound origin.rows → AllFair tables origin es → IsSerial tables origin es
  fair_is_serial tells sound fair = right_is_serial tables origin es (fair_is_right tells sound fair)
