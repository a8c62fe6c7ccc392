-- The net operations of writes take away no version more often than the writes do, and what each write has, they
-- have.
--
-- What is held of writes changes in two ways. A write on the base is held behind the others. A write on an own row
-- takes that one out, and is held as one that takes away the same version with the same old row, or as nothing.
use Rattle.std.proofs.Common.{◌≡◌, ℕ, zero, suc, ◌+◌, ◌-◌, ◌≤◌, ◌==◌, List, [], ◌∷◌, ◌++◌, Bool, true, false, cond, refl, arith, Option, Some, None}
use Rattle.std.specs.List.{AllByRecursion, slice_get, slice_set}
use Rattle.cdb_values.specs.declared.rows.RowOp.{RowOp}
use Rattle.cdb_values.specs.declared.rows.RowOp.TheVariants.{Insert, Update, Delete}
use Rattle.cdb_values.specs.declared.rows.RowRef.TheVariants.{Base, Own}
use Rattle.cdb_values.specs.declared.values.Value.{Value}
use Rattle.net_writes.specs.Net.{held_of, held_at, taken_out, rewritten, undone, held_with, held_after, standing, net_of}
use Rattle.session_language.proofs.EachLaws.{all_append}
use Rattle.table_store.specs.Operations.{gone}
use Rattle.live_operations.proofs.TimesLemmas.{times, taken_by, gone_first}

abbrev Held : Type 0
Held = List (Option RowOp)

-- how often what is held takes the version of that genid away from that table
abbrev held_takes : ℕ → ℕ → Option RowOp → ℕ
held_takes table genid None = 0
held_takes table genid (Some op) = taken_by table genid op

abbrev all_take : ℕ → ℕ → Held → ℕ
all_take table genid [] = 0
all_take table genid (h ∷ held) = held_takes table genid h + all_take table genid held

module _ (table genid : ℕ) where
  standing_takes : (held : Held) → times genid (gone table (standing held)) ≡ all_take table genid held
  standing_takes [] = refl
  standing_takes (None ∷ held) = let later = standing_takes held in omega (arith, later)
  standing_takes (Some op ∷ held) =
      let all = gone_first table genid op (standing held) in
      let later = standing_takes held in
      omega (arith, all, later)

  both_take : (xs ys : Held) → all_take table genid (xs ++ ys) ≡ all_take table genid xs + all_take table genid ys
  both_take [] ys = omega arith
  both_take (x ∷ xs) ys = let later = both_take xs ys in omega (arith, later)

  one_out : (held : Held) (k : ℕ)
      → all_take table genid (slice_set held k None) + held_takes table genid (held_of (slice_get held k)) ≡ all_take table genid held
  one_out [] k = refl
  one_out (h ∷ held) zero = omega arith
  one_out (h ∷ held) (suc k) = let later = one_out held k in omega (arith, later)

  out_takes : (held : Held) (write : ℕ)
      → all_take table genid (taken_out held write) + held_takes table genid (held_at held write) ≡ all_take table genid held
  out_takes held write = go (write == 0)
    where
      go : (b : Bool) → all_take table genid (cond b held (slice_set held (write - 1) None))
          + held_takes table genid (cond b None (held_of (slice_get held (write - 1)))) ≡ all_take table genid held
      go true = omega arith
      go false = one_out held (write - 1)

  rewritten_takes : (h : Option RowOp) (row : List Value) → held_takes table genid (rewritten h row) ≤ held_takes table genid h
  rewritten_takes None row = omega arith
  rewritten_takes (Some (Insert place written)) row = omega arith
  rewritten_takes (Some (Update place (Base target) old written)) row = omega arith
  rewritten_takes (Some (Update place (Own write) old written)) row = omega arith
  rewritten_takes (Some (Delete place target old)) row = omega arith

  undone_takes : (h : Option RowOp) → held_takes table genid (undone h) ≤ held_takes table genid h
  undone_takes None = omega arith
  undone_takes (Some (Insert place written)) = omega arith
  undone_takes (Some (Update place (Base target) old written)) = omega arith
  undone_takes (Some (Update place (Own write) old written)) = omega arith
  undone_takes (Some (Delete place target old)) = omega arith

  -- a write behind the others
  behind_takes : (held : Held) (op : RowOp) → all_take table genid (held ++ Some op ∷ []) ≤ all_take table genid held + taken_by table genid op
  behind_takes held op = let all = both_take held (Some op ∷ []) in omega (arith, all)

  -- a write in place of another
  instead_takes : (held : Held) (write : ℕ) (h : Option RowOp) → held_takes table genid h ≤ held_takes table genid (held_at held write)
      → all_take table genid (taken_out held write ++ h ∷ []) ≤ all_take table genid held
  instead_takes held write h less =
      let all = both_take (taken_out held write) (h ∷ []) in
      let out = out_takes held write in
      omega (arith, all, out, less)

  with_takes : (held : Held) (op : RowOp) → all_take table genid (held_with held op) ≤ all_take table genid held + taken_by table genid op
  with_takes held (Insert place row) = behind_takes held (Insert place row)
  with_takes held (Update place (Base target) old row) = behind_takes held (Update place (Base target) old row)
  with_takes held (Update place (Own write) old row) =
      let less = instead_takes held write (rewritten (held_at held write) row) (rewritten_takes (held_at held write) row) in omega (arith, less)
  with_takes held (Delete place (Base target) old) = behind_takes held (Delete place (Base target) old)
  with_takes held (Delete place (Own write) old) =
      let less = instead_takes held write (undone (held_at held write)) (undone_takes (held_at held write)) in omega (arith, less)

  after_takes : (held : Held) (ops : List RowOp) → all_take table genid (held_after held ops) ≤ all_take table genid held + times genid (gone table ops)
  after_takes held [] = omega arith
  after_takes held (op ∷ ops) =
      let later = after_takes (held_with held op) ops in
      let here = with_takes held op in
      let all = gone_first table genid op ops in
      omega (arith, later, here, all)

  -- net operations take away no version more often than the writes
  pub net_takes : (ops : List RowOp) → times genid (gone table (net_of ops)) ≤ times genid (gone table ops)
  net_takes ops =
      let net = standing_takes (held_after [] ops) in
      let all = after_takes [] ops in
      omega (arith, net, all)

-- ---- what each has

abbrev pub HoldsFor : (RowOp → Type 0) → Option RowOp → Type 0
HoldsFor P None = Unit {0}
HoldsFor P (Some op) = P op

-- what operations keep where a write on an own row joins the operation that wrote this row
pub record IsJoined (P : RowOp → Type 0) : Type 0 where
  pub rewritten_has : (h : Option RowOp) (place write : ℕ) (old row : List Value) → HoldsFor P h → P (Update place (Own write) old row) → HoldsFor P (rewritten h row)
  pub undone_has : (h : Option RowOp) → HoldsFor P h → HoldsFor P (undone h)

module _ (P : RowOp → Type 0) (joined : IsJoined P) where
  held_has : (held : Held) (k : ℕ) → AllByRecursion (HoldsFor P) held → HoldsFor P (held_of (slice_get held k))
  held_has [] k all = tt
  held_has (h ∷ held) zero all = all.0
  held_has (h ∷ held) (suc k) all = held_has held k all.1

  at_has : (held : Held) (write : ℕ) → AllByRecursion (HoldsFor P) held → HoldsFor P (held_at held write)
  at_has held write all = go (write == 0)
    where
      go : (b : Bool) → HoldsFor P (cond b None (held_of (slice_get held (write - 1))))
      go true = tt
      go false = held_has held (write - 1) all

  set_has : (held : Held) (k : ℕ) → AllByRecursion (HoldsFor P) held → AllByRecursion (HoldsFor P) (slice_set held k None)
  set_has [] k all = all
  set_has (h ∷ held) zero all = (tt, all.1)
  set_has (h ∷ held) (suc k) all = (all.0, set_has held k all.1)

  out_has : (held : Held) (write : ℕ) → AllByRecursion (HoldsFor P) held → AllByRecursion (HoldsFor P) (taken_out held write)
  out_has held write all = go (write == 0)
    where
      go : (b : Bool) → AllByRecursion (HoldsFor P) (cond b held (slice_set held (write - 1) None))
      go true = all
      go false = set_has held (write - 1) all

  one_more : (held : Held) (h : Option RowOp) → AllByRecursion (HoldsFor P) held → HoldsFor P h → AllByRecursion (HoldsFor P) (held ++ h ∷ [])
  one_more held h all has = all_append (HoldsFor P) held (h ∷ []) all (has, tt)

  with_has : (held : Held) (op : RowOp) → AllByRecursion (HoldsFor P) held → P op → AllByRecursion (HoldsFor P) (held_with held op)
  with_has held (Insert place row) all is = one_more held (Some (Insert place row)) all is
  with_has held (Update place (Base target) old row) all is = one_more held (Some (Update place (Base target) old row)) all is
  with_has held (Update place (Own write) old row) all is =
      one_more (taken_out held write) (rewritten (held_at held write) row) (out_has held write all)
      (joined.rewritten_has (held_at held write) place write old row (at_has held write all) is)
  with_has held (Delete place (Base target) old) all is = one_more held (Some (Delete place (Base target) old)) all is
  with_has held (Delete place (Own write) old) all is =
      one_more (taken_out held write) (undone (held_at held write)) (out_has held write all)
      (joined.undone_has (held_at held write) (at_has held write all))

  after_has : (held : Held) (ops : List RowOp) → AllByRecursion (HoldsFor P) held → AllByRecursion P ops → AllByRecursion (HoldsFor P) (held_after held ops)
  after_has held [] all are = all
  after_has held (op ∷ ops) all are = after_has (held_with held op) ops (with_has held op all are.0) are.1

  standing_has : (held : Held) → AllByRecursion (HoldsFor P) held → AllByRecursion P (standing held)
  standing_has [] all = tt
  standing_has (None ∷ held) all = standing_has held all.1
  standing_has (Some op ∷ held) all = (all.0, standing_has held all.1)

  pub net_has : (ops : List RowOp) → AllByRecursion P ops → AllByRecursion P (net_of ops)
  net_has ops all = standing_has (held_after [] ops) (after_has [] ops tt all)
