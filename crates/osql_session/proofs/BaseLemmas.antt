-- Net operations name no own write.
use Rattle.std.proofs.Common.{◌≡◌, ℕ, zero, suc, ◌-◌, ◌==◌, ◌&&◌, List, [], ◌∷◌, ◌++◌, Bool, true, false, cond, refl, Option, Some, None}
use Rattle.std.specs.Prelude.{slice_get, slice_set}
use Rattle.std.specs.List.{list_all, AllByRecursion}
use Rattle.cdb_values.specs.declared.rows.RowOp.{RowOp}
use Rattle.cdb_values.specs.declared.rows.RowOp.TheVariants.{Insert, Update, Delete}
use Rattle.cdb_values.specs.declared.rows.RowRef.TheVariants.{Base, Own}
use Rattle.cdb_values.specs.declared.values.Value.{Value}
use Rattle.net_writes.specs.Net.{held_of, held_at, taken_out, rewritten, undone, held_with, held_after, standing, net_of}
use Rattle.session_language.proofs.EachLaws.{all_append}
use Rattle.session_language.proofs.AllLaws.{all_exchanged}
use Rattle.sql_answer_plain.specs.Laid.{is_on_base}

-- what a write is held as names no own write
abbrev Holds : Option RowOp → Type 0
Holds None = Unit {0}
Holds (Some op) = is_on_base op ≡ true

holds_there : (held : List (Option RowOp)) (at : ℕ) → AllByRecursion Holds held → Holds (held_of (slice_get held at))
holds_there [] at all = tt
holds_there (one ∷ held) zero all = all.0
holds_there (one ∷ held) (suc at) all = holds_there held at all.1

holds_at : (held : List (Option RowOp)) (write : ℕ) → AllByRecursion Holds held → Holds (held_at held write)
holds_at held write all = go (write == 0)
  where
    go : (b : Bool) → Holds (cond b None (held_of (slice_get held (write - 1))))
    go true = tt
    go false = holds_there held (write - 1) all

taken_holds : (held : List (Option RowOp)) (write : ℕ) → AllByRecursion Holds held → AllByRecursion Holds (taken_out held write)
taken_holds held write all = go (write == 0)
  where
    go : (b : Bool) → AllByRecursion Holds (cond b held (slice_set held (write - 1) None))
    go true = all
    go false = all_exchanged Holds held (write - 1) None all tt

rewritten_holds : (held : Option RowOp) (row : List Value) → Holds held → Holds (rewritten held row)
rewritten_holds None row is = tt
rewritten_holds (Some (Insert table written)) row is = refl
rewritten_holds (Some (Update table target old written)) row is = is
rewritten_holds (Some (Delete table target old)) row is = tt

undone_holds : (held : Option RowOp) → Holds held → Holds (undone held)
undone_holds None is = tt
undone_holds (Some (Insert table written)) is = tt
undone_holds (Some (Update table target old written)) is = is
undone_holds (Some (Delete table target old)) is = tt

with_holds : (held : List (Option RowOp)) (op : RowOp) → AllByRecursion Holds held → AllByRecursion Holds (held_with held op)
with_holds held (Insert table row) all = all_append Holds held (Some (Insert table row) ∷ []) all (refl, tt)
with_holds held (Update table (Base genid) old row) all = all_append Holds held (Some (Update table (Base genid) old row) ∷ []) all (refl, tt)
with_holds held (Update table (Own write) old row) all =
    all_append Holds (taken_out held write) (rewritten (held_at held write) row ∷ []) (taken_holds held write all)
    (rewritten_holds (held_at held write) row (holds_at held write all), tt)
with_holds held (Delete table (Base genid) old) all = all_append Holds held (Some (Delete table (Base genid) old) ∷ []) all (refl, tt)
with_holds held (Delete table (Own write) old) all =
    all_append Holds (taken_out held write) (undone (held_at held write) ∷ []) (taken_holds held write all)
    (undone_holds (held_at held write) (holds_at held write all), tt)

after_holds : (held : List (Option RowOp)) (ops : List RowOp) → AllByRecursion Holds held → AllByRecursion Holds (held_after held ops)
after_holds held [] all = all
after_holds held (op ∷ ops) all = after_holds (held_with held op) ops (with_holds held op all)

both : (a b : Bool) → a ≡ true → b ≡ true → (a && b) ≡ true
both a b first second = (λ j. first j && second j)

standing_based : (held : List (Option RowOp)) → AllByRecursion Holds held → list_all is_on_base (standing held) ≡ true
standing_based [] all = refl
standing_based (None ∷ held) all = standing_based held all.1
standing_based (Some op ∷ held) all = both (is_on_base op) (list_all is_on_base (standing held)) all.0 (standing_based held all.1)

pub net_is_based : (ops : List RowOp) → list_all is_on_base (net_of ops) ≡ true
net_is_based ops = standing_based (held_after [] ops) (after_holds [] ops tt)

first_of : (a b : Bool) → (a && b) ≡ true → a ≡ true
first_of true b is = refl
first_of false b is = cc

second_of : (a b : Bool) → (a && b) ≡ true → b ≡ true
second_of true b is = is
second_of false b is = cc

-- operations of which neither these nor those name an own write
pub both_are_based : (a b : List RowOp) → list_all is_on_base a ≡ true → list_all is_on_base b ≡ true → list_all is_on_base (a ++ b) ≡ true
both_are_based [] b first second = second
both_are_based (op ∷ a) b first second =
    both (is_on_base op) (list_all is_on_base (a ++ b)) (first_of (is_on_base op) (list_all is_on_base a) first)
    (both_are_based a b (second_of (is_on_base op) (list_all is_on_base a) first) second)
