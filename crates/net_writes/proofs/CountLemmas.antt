-- One more write: the places, and how many of them stand for something.
use Rattle.std.proofs.Common.{◌≡◌, ℕ, zero, suc, ◌+◌, ◌-◌, ◌<◌, ◌≤◌, ◌++◌, ◌∷◌, ◌==◌, [], List, false, map, length, refl, sym, ◌∙◌, ap, arith, length-append}
use Rattle.std.specs.Prelude.{slice_get, slice_set, if◌then◌else◌, Option, Some, None}
use Rattle.std.proofs.lemmas.Bool.Decides.{nat_tests}
use Rattle.cdb_values.specs.declared.rows.RowOp.{RowOp}
use Rattle.cdb_values.specs.declared.rows.RowOp.TheVariants.{Insert, Update, Delete}
use Rattle.cdb_values.specs.declared.rows.RowRef.{RowRef}
use Rattle.cdb_values.specs.declared.rows.RowRef.TheVariants.{Base, Own}
use Rattle.net_writes.specs.Net.{held_at, held_of, taken_out, held_with, standing}
use Rattle.net_writes.specs.Steps.{own_held, own_out, held_by, out_by, stands_for}

pub standing_append : (a b : List (Option RowOp)) → standing (a ++ b) ≡ standing a ++ standing b
standing_append [] b = refl
standing_append (None ∷ a) b = standing_append a b
standing_append (Some op ∷ a) b = ap (λ l. op ∷ l) (standing_append a b)

pub standing_short : (held : List (Option RowOp)) → length (standing held) ≤ length held
standing_short [] = omega arith
standing_short (None ∷ held) = let rest = standing_short held in omega arith
standing_short (Some op ∷ held) = let rest = standing_short held in omega arith

-- a write is held behind the others, without the one that it names
pub held_is : (held : List (Option RowOp)) (op : RowOp) → held_with held op ≡ out_by held op ++ stands_for (held_by held op) op ∷ []
held_is held (Insert table row) = refl
held_is held (Update table (Base genid) old row) = refl
held_is held (Update table (Own write) old row) = refl
held_is held (Delete table (Base genid) old) = refl
held_is held (Delete table (Own write) old) = refl

-- the place of a write of a number
pub not_zero : (i : ℕ) → (suc i == 0) ≡ false
not_zero i = grind (arith, nat_tests)

less_one : (i : ℕ) → suc i - 1 ≡ i
less_one i = omega arith

pub out_suc : (held : List (Option RowOp)) (i : ℕ) → taken_out held (suc i) ≡ slice_set held i None
out_suc held i = ap (λ b. if b then held else slice_set held (suc i - 1) None) (not_zero i) ∙ ap (λ k. slice_set held k None) (less_one i)

pub at_suc : (held : List (Option RowOp)) (i : ℕ) → held_at held (suc i) ≡ held_of (slice_get held i)
at_suc held i = ap (λ b. if b then None else held_of (slice_get held (suc i - 1))) (not_zero i) ∙ ap (λ k. held_of (slice_get held k)) (less_one i)

-- with an empty place more
set_more : (held : List (Option RowOp)) (i : ℕ) → slice_set (held ++ None ∷ []) i None ≡ slice_set held i None ++ None ∷ []
set_more [] zero = refl
set_more [] (suc i) = refl
set_more (x ∷ held) zero = refl
set_more (x ∷ held) (suc i) = ap (λ l. x ∷ l) (set_more held i)

get_more : (held : List (Option RowOp)) (i : ℕ) → held_of (slice_get (held ++ None ∷ []) i) ≡ held_of (slice_get held i)
get_more [] zero = refl
get_more [] (suc i) = refl
get_more (x ∷ held) zero = refl
get_more (x ∷ held) (suc i) = get_more held i

own_out_more : (held : List (Option RowOp)) (target : RowRef) → own_out (held ++ None ∷ []) target ≡ own_out held target ++ None ∷ []
own_out_more held (Base genid) = refl
own_out_more held (Own zero) = refl
own_out_more held (Own (suc i)) = out_suc (held ++ None ∷ []) i ∙ set_more held i ∙ sym (ap (λ l. l ++ None ∷ []) (out_suc held i))

own_held_more : (held : List (Option RowOp)) (target : RowRef) → own_held (held ++ None ∷ []) target ≡ own_held held target
own_held_more held (Base genid) = refl
own_held_more held (Own zero) = refl
own_held_more held (Own (suc i)) = at_suc (held ++ None ∷ []) i ∙ get_more held i ∙ sym (at_suc held i)

pub out_more : (held : List (Option RowOp)) (op : RowOp) → out_by (held ++ None ∷ []) op ≡ out_by held op ++ None ∷ []
out_more held (Insert table row) = refl
out_more held (Update table target old row) = own_out_more held target
out_more held (Delete table target old) = own_out_more held target

pub held_by_more : (held : List (Option RowOp)) (op : RowOp) → held_by (held ++ None ∷ []) op ≡ held_by held op
held_by_more held (Insert table row) = refl
held_by_more held (Update table target old row) = own_held_more held target
held_by_more held (Delete table target old) = own_held_more held target

-- the number of places stays
set_length : (held : List (Option RowOp)) (i : ℕ) → length (slice_set held i None) ≡ length held
set_length [] zero = refl
set_length [] (suc i) = refl
set_length (x ∷ held) zero = refl
set_length (x ∷ held) (suc i) = ap suc (set_length held i)

own_length : (held : List (Option RowOp)) (target : RowRef) → length (own_out held target) ≡ length held
own_length held (Base genid) = refl
own_length held (Own zero) = refl
own_length held (Own (suc i)) = ap length (out_suc held i) ∙ set_length held i

pub out_length : (held : List (Option RowOp)) (op : RowOp) → length (out_by held op) ≡ length held
out_length held (Insert table row) = refl
out_length held (Update table target old row) = own_length held target
out_length held (Delete table target old) = own_length held target

put_last : (held : List (Option RowOp)) (now : Option RowOp) → slice_set (held ++ None ∷ []) (length held) now ≡ held ++ now ∷ []
put_last [] now = refl
put_last (x ∷ held) now = ap (λ l. x ∷ l) (put_last held now)

-- an empty place behind the others, with what a write stands for put there
pub written : (held : List (Option RowOp)) (op : RowOp) (taken : Option RowOp) (out : List (Option RowOp)) (last : ℕ) → taken ≡ held_by (held ++ None ∷ []) op → out ≡ out_by (held ++ None ∷ []) op
    → last ≡ length held → slice_set out last (stands_for taken op) ≡ held_with held op
written held op taken out last took left at =
    (λ j. slice_set ((left ∙ out_more held op) j) ((at ∙ sym (out_length held op)) j) (stands_for ((took ∙ held_by_more held op) j) op))
    ∙ put_last (out_by held op) (stands_for (held_by held op) op)
    ∙ sym (held_is held op)

-- those that stand for something alone
pub squeezed : (held : List (Option RowOp)) → standing (map (λ op. Some op) (standing held)) ≡ standing held
squeezed held = all (standing held)
  where
    all : (ops : List RowOp) → standing (map (λ op. Some op) ops) ≡ ops
    all [] = refl
    all (op ∷ ops) = ap (λ l. op ∷ l) (all ops)

-- the last of the places, of which one more is empty
pub last_is : (held pushed : List (Option RowOp)) (n : ℕ) → pushed ≡ held ++ None ∷ [] → n ≡ length pushed → n - 1 ≡ length held
last_is held pushed n is size = let behind : length pushed ≡ length held + 1 = ap length is ∙ length-append held (None ∷ []) in omega arith

pub last_there : (held pushed out : List (Option RowOp)) (op : RowOp) (n : ℕ) → pushed ≡ held ++ None ∷ [] → n ≡ length pushed → out ≡ out_by pushed op → n - 1 < length out
last_there held pushed out op n is size left =
    let behind : length pushed ≡ length held + 1 = ap length is ∙ length-append held (None ∷ []) in
    let stays : length out ≡ length pushed = ap length left ∙ out_length pushed op in
    omega arith

pub all_written : (held pushed out after : List (Option RowOp)) (op : RowOp) (taken now : Option RowOp) (n : ℕ) → pushed ≡ held ++ None ∷ [] → n ≡ length pushed → taken ≡ held_by pushed op
    → out ≡ out_by pushed op → now ≡ stands_for taken op → after ≡ slice_set out (n - 1) now → after ≡ held_with held op
all_written held pushed out after op taken now n is size took left stands put =
    put
    ∙ ap (λ x. slice_set out (n - 1) x) stands
    ∙ written held op taken out (n - 1) (took ∙ ap (λ l. held_by l op) is) (left ∙ ap (λ l. out_by l op) is) (last_is held pushed n is size)
