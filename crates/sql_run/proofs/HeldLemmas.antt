-- Net operations of sound operations, and of writes on the rows that they show, are sound.
use Rattle.std.proofs.Common.{◌≡◌, ℕ, zero, suc, ◌+◌, ◌-◌, ◌<◌, ◌≤◌, ◌==◌, List, [], ◌∷◌, ◌++◌, length, map, Bool, true, false, cond, refl, sym, ◌∙◌, subst, ap, arith, append_assoc, append-nil, Option, Some, None}
use Rattle.std.specs.Prelude.{slice_get, slice_set}
use Rattle.std.specs.List.{AllByRecursion}
use Rattle.std.proofs.lemmas.List.{length-append, length-set}
use Rattle.cdb_values.specs.Good.{FitsTable}
use Rattle.cdb_values.specs.declared.rows.RowOp.{RowOp}
use Rattle.cdb_values.specs.declared.rows.RowOp.TheVariants.{Insert, Update, Delete}
use Rattle.cdb_values.specs.declared.rows.RowRef.{RowRef}
use Rattle.cdb_values.specs.declared.rows.RowRef.TheVariants.{Base, Own}
use Rattle.cdb_values.specs.declared.tables.TableDef.{TableDef}
use Rattle.cdb_values.specs.declared.values.Value.{Value}
use Rattle.net_writes.proofs.CountLemmas.{at_suc, out_suc}
use Rattle.net_writes.specs.Net.{held_of, held_at, taken_out, rewritten, undone, held_with, held_after, standing, net_of}
use Rattle.session_language.proofs.EachLaws.{all_append, all_map, get_front}
use Rattle.session_language.proofs.AllLaws.{all_exchanged}
use Rattle.sql_run.specs.Sound.{IsSoundOp}

abbrev pub Held : Type 0
Held = List (Option RowOp)

-- the table of an operation
abbrev pub table_of : RowOp → ℕ
table_of (Insert table row) = table
table_of (Update table target old row) = table
table_of (Delete table target old) = table

-- a write of that number is held as one on that table, if it stands for something
pub record IsOnTable (held : Held) (write table : ℕ) : Type 0 where
  pub within : write ≤ length held
  pub on : (op : RowOp) → held_at held write ≡ Some op → table_of op ≡ table

-- ---- a write stays what it is held as, or stands for nothing

set_none : (xs : Held) (j m : ℕ) (op : RowOp) → slice_get (slice_set xs j None) m ≡ Some (Some op) → slice_get xs m ≡ Some (Some op)
set_none [] j m op is = is
set_none (x ∷ xs) zero zero op is = absurd cc
set_none (x ∷ xs) zero (suc m) op is = is
set_none (x ∷ xs) (suc j) zero op is = is
set_none (x ∷ xs) (suc j) (suc m) op is = set_none xs j m op is

held_some : (o : Option (Option RowOp)) (op : RowOp) → held_of o ≡ Some op → o ≡ Some (Some op)
held_some None op is = absurd cc
held_some (Some held) op is = ap (λ (h : Option RowOp). Some h) is

out_length : (held : Held) (write : ℕ) → length (taken_out held write) ≡ length held
out_length held write = go (write == 0)
  where
    go : (b : Bool) → length (cond b held (slice_set held (write - 1) None)) ≡ length held
    go true = refl
    go false = length-set held (write - 1) None

out_stays : (held : Held) (taken write : ℕ) (op : RowOp) → held_at (taken_out held taken) write ≡ Some op → held_at held write ≡ Some op
out_stays held taken zero op is = absurd cc
out_stays held zero (suc m) op is = is
out_stays held (suc j) (suc m) op is =
    let out : held_of (slice_get (slice_set held j None) m) ≡ Some op = ap (λ (h : Held). held_of (slice_get h m)) (sym (out_suc held j)) ∙ sym (at_suc (taken_out held (suc j)) m) ∙ is in
    at_suc held m ∙ ap held_of (set_none held j m op (held_some (slice_get (slice_set held j None) m) op out))

more_stays : (held : Held) (x : Option RowOp) (write : ℕ) → write ≤ length held → held_at (held ++ x ∷ []) write ≡ held_at held write
more_stays held x zero within = refl
more_stays held x (suc m) within = let below : m < length held = omega arith in at_suc (held ++ x ∷ []) m ∙ ap held_of (get_front held (x ∷ []) m below) ∙ sym (at_suc held m)

one_more : (held out : Held) (x : Option RowOp) (write table : ℕ) → length out ≡ length held → ((op : RowOp) → held_at out write ≡ Some op → held_at held write ≡ Some op)
    → IsOnTable held write table → IsOnTable (out ++ x ∷ []) write table
one_more held out x write table same stays on =
    let within : write ≤ length held = on.within in
    let first : write ≤ length out = omega arith in
    let all : length (out ++ x ∷ []) ≡ length out + length (x ∷ []) = length-append out (x ∷ []) in
    record { within = omega arith; on = λ op is. on.on op (stays op (sym (more_stays out x write first) ∙ is)) }

pub stays_on_table : (held : Held) (op : RowOp) (write table : ℕ) → IsOnTable held write table → IsOnTable (held_with held op) write table
stays_on_table held (Insert place row) write table on = one_more held held (Some (Insert place row)) write table refl (λ op is. is) on
stays_on_table held (Update place (Base genid) old row) write table on = one_more held held (Some (Update place (Base genid) old row)) write table refl (λ op is. is) on
stays_on_table held (Update place (Own n) old row) write table on = one_more held (taken_out held n) (rewritten (held_at held n) row) write table (out_length held n) (λ op is. out_stays held n write op is) on
stays_on_table held (Delete place (Base genid) old) write table on = one_more held held (Some (Delete place (Base genid) old)) write table refl (λ op is. is) on
stays_on_table held (Delete place (Own n) old) write table on = one_more held (taken_out held n) (undone (held_at held n)) write table (out_length held n) (λ op is. out_stays held n write op is) on

-- ---- sound writes

-- what a write is held as is sound
abbrev Holds : List TableDef → ℕ → Option RowOp → Type 0
Holds tables next None = Unit {0}
Holds tables next (Some op) = IsSoundOp tables next op

-- the target of a write on a table: a version below the next genid, or an own write on that table
abbrev pub IsTarget : ℕ → Held → ℕ → RowRef → Type 0
IsTarget next held table (Base genid) = genid < next
IsTarget next held table (Own write) = IsOnTable held write table

abbrev pub IsSoundWrite : List TableDef → ℕ → Held → RowOp → Type 0
IsSoundWrite tables next held (Insert place row) = (table : TableDef) × (slice_get tables place ≡ Some table) × FitsTable table row
IsSoundWrite tables next held (Update place target old row) = (table : TableDef) × (slice_get tables place ≡ Some table) × FitsTable table row × IsTarget next held place target
IsSoundWrite tables next held (Delete place target old) = (table : TableDef) × (slice_get tables place ≡ Some table) × IsTarget next held place target

module _ (tables : List TableDef) (next : ℕ) where
  abbrev Has : Option RowOp → Type 0
  Has held = Holds tables next held

  abbrev Writes : Held → RowOp → Type 0
  Writes held w = IsSoundWrite tables next held w

  target_stays : (held : Held) (op : RowOp) (table : ℕ) (target : RowRef) → IsTarget next held table target → IsTarget next (held_with held op) table target
  target_stays held op table (Base genid) is = is
  target_stays held op table (Own write) is = stays_on_table held op write table is

  write_stays : (held : Held) (op w : RowOp) → Writes held w → Writes (held_with held op) w
  write_stays held op (Insert place row) is = is
  write_stays held op (Update place target old row) (table, at, fits, is) = (table, at, fits, target_stays held op place target is)
  write_stays held op (Delete place target old) (table, at, is) = (table, at, target_stays held op place target is)

  held_is : (held : Held) (write : ℕ) → AllByRecursion Has held → Has (held_at held write)
  held_is held zero all = tt
  held_is held (suc m) all = subst Has (sym (at_suc held m)) (go held m all)
    where
      go : (rest : Held) (i : ℕ) → AllByRecursion Has rest → Has (held_of (slice_get rest i))
      go [] i all = tt
      go (x ∷ xs) zero all = all.0
      go (x ∷ xs) (suc i) all = go xs i all.1

  out_holds : (held : Held) (write : ℕ) → AllByRecursion Has held → AllByRecursion Has (taken_out held write)
  out_holds held write all = go (write == 0)
    where
      go : (b : Bool) → AllByRecursion Has (cond b held (slice_set held (write - 1) None))
      go true = all
      go false = all_exchanged Has held (write - 1) None all tt

  rewritten_holds : (o : Option RowOp) (place : ℕ) (table : TableDef) (row : List Value) → slice_get tables place ≡ Some table → FitsTable table row → ((op : RowOp) → o ≡ Some op → table_of op ≡ place) → Has o
      → Has (rewritten o row)
  rewritten_holds None place table row at fits on is = tt
  rewritten_holds (Some (Insert t written)) place table row at fits on is = (table, ap (λ (n : ℕ). slice_get tables n) (on (Insert t written) refl) ∙ at, fits)
  rewritten_holds (Some (Update t target old written)) place table row at fits on (table', at', fits', below) = (table, ap (λ (n : ℕ). slice_get tables n) (on (Update t target old written) refl) ∙ at, fits, below)
  rewritten_holds (Some (Delete t target old)) place table row at fits on is = tt

  undone_holds : (o : Option RowOp) → Has o → Has (undone o)
  undone_holds None is = tt
  undone_holds (Some (Insert t written)) is = tt
  undone_holds (Some (Update t target old written)) (table, at, fits, below) = (table, at, below)
  undone_holds (Some (Delete t target old)) is = tt

  with_holds : (held : Held) (w : RowOp) → AllByRecursion Has held → Writes held w → AllByRecursion Has (held_with held w)
  with_holds held (Insert place row) all is = all_append Has held (Some (Insert place row) ∷ []) all (is, tt)
  with_holds held (Update place (Base genid) old row) all (table, at, fits, is) = all_append Has held (Some (Update place (Base genid) old row) ∷ []) all ((table, at, fits, is), tt)
  with_holds held (Update place (Own n) old row) all (table, at, fits, is) =
      all_append Has (taken_out held n) (rewritten (held_at held n) row ∷ []) (out_holds held n all) (rewritten_holds (held_at held n) place table row at fits is.on (held_is held n all), tt)
  with_holds held (Delete place (Base genid) old) all (table, at, is) = all_append Has held (Some (Delete place (Base genid) old) ∷ []) all ((table, at, is), tt)
  with_holds held (Delete place (Own n) old) all (table, at, is) =
      all_append Has (taken_out held n) (undone (held_at held n) ∷ []) (out_holds held n all) (undone_holds (held_at held n) (held_is held n all), tt)

  after_holds : (held : Held) (ws : List RowOp) → AllByRecursion Has held → AllByRecursion (Writes held) ws → AllByRecursion Has (held_after held ws)
  after_holds held [] all are = all
  after_holds held (w ∷ ws) all are =
      after_holds (held_with held w) ws (with_holds held w all are.0) (all_map (Writes held) (Writes (held_with held w)) (λ x is. write_stays held w x is) ws are.1)

  standing_sound : (held : Held) → AllByRecursion Has held → AllByRecursion (IsSoundOp tables next) (standing held)
  standing_sound [] all = tt
  standing_sound (None ∷ held) all = standing_sound held all.1
  standing_sound (Some op ∷ held) all = (all.0, standing_sound held all.1)

  -- ---- sound operations name their targets by genids, so they are held as they are

  one_held : (held : Held) (op : RowOp) → IsSoundOp tables next op → held_with held op ≡ held ++ Some op ∷ []
  one_held held (Insert place row) is = refl
  one_held held (Update place (Base genid) old row) is = refl
  one_held held (Update place (Own write) old row) (table, at, fits, below) = absurd below
  one_held held (Delete place (Base genid) old) is = refl
  one_held held (Delete place (Own write) old) (table, at, below) = absurd below

  all_held : (held : Held) (ops : List RowOp) → AllByRecursion (IsSoundOp tables next) ops → held_after held ops ≡ held ++ map (λ op. Some op) ops
  all_held held [] all = sym (append-nil held)
  all_held held (op ∷ ops) all =
      ap (λ (h : Held). held_after h ops) (one_held held op all.0) ∙ all_held (held ++ Some op ∷ []) ops all.1 ∙ append_assoc held (Some op ∷ []) (map (λ (o : RowOp). Some o) ops)

  held_holds : (ops : List RowOp) → AllByRecursion (IsSoundOp tables next) ops → AllByRecursion Has (map (λ op. Some op) ops)
  held_holds [] all = tt
  held_holds (op ∷ ops) all = (all.0, held_holds ops all.1)

  after_both : (held : Held) (xs ys : List RowOp) → held_after held (xs ++ ys) ≡ held_after (held_after held xs) ys
  after_both held [] ys = refl
  after_both held (x ∷ xs) ys = after_both (held_with held x) xs ys

  -- the net operations of sound ones with sound writes behind them
  pub net_is_sound : (ops ws : List RowOp) → AllByRecursion (IsSoundOp tables next) ops → AllByRecursion (Writes (map (λ op. Some op) ops)) ws → AllByRecursion (IsSoundOp tables next) (net_of (ops ++ ws))
  net_is_sound ops ws all are =
      let first : held_after [] ops ≡ map (λ op. Some op) ops = all_held [] ops all in
      let held : Held = map (λ op. Some op) ops in
      let whole : held_after held ws ≡ held_after [] (ops ++ ws) = ap (λ (h : Held). held_after h ws) (sym first) ∙ sym (after_both [] ops ws) in
      standing_sound (held_after [] (ops ++ ws)) (subst (AllByRecursion Has) whole (after_holds held ws (held_holds ops all) are))
