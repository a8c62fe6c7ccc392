-- Writes that are laid over operations.
use Rattle.std.proofs.Common.{◌≡◌, ◌+◌, ◌≤◌, List, [], ◌∷◌, ◌++◌, map, Bool, true, false, length, refl, sym, ◌∙◌, ap, arith, ◌&&◌, append_assoc, append-nil, length-append}
use Rattle.std.specs.Prelude.{Option, Some}
use Rattle.std.specs.List.{list_all}
use Rattle.std.proofs.lemmas.Bool.Decides.{nat_tests}
use Rattle.cdb_values.specs.declared.rows.RowOp.{RowOp}
use Rattle.cdb_values.specs.declared.rows.RowOp.TheVariants.{Insert, Update, Delete}
use Rattle.cdb_values.specs.declared.rows.RowRef.TheVariants.{Base, Own}
use Rattle.net_writes.proofs.CountLemmas.{held_is, out_length, standing_short}
use Rattle.net_writes.specs.Net.{held_with, held_after, standing, net_of}
use Rattle.net_writes.specs.Steps.{out_by, held_by, stands_for}
use Rattle.sql_answer_plain.specs.Laid.{is_on_base, are_too_many}

-- one after the other
held_on : (held : List (Option RowOp)) (a b : List RowOp) → held_after (held_after held a) b ≡ held_after held (a ++ b)
held_on held [] b = refl
held_on held (op ∷ a) b = held_on (held_with held op) a b

pub held_both : (a b : List RowOp) → standing (held_after (held_after [] a) b) ≡ net_of (a ++ b)
held_both a b = ap standing (held_on [] a b)

-- an operation that names no own write is held as itself, and nothing is taken out
pub held_alone : (held : List (Option RowOp)) (op : RowOp) → is_on_base op ≡ true → held_with held op ≡ held ++ Some op ∷ []
held_alone held (Insert table row) is = refl
held_alone held (Update table (Base genid) old row) is = refl
held_alone held (Update table (Own write) old row) is = cc
held_alone held (Delete table (Base genid) old) is = refl
held_alone held (Delete table (Own write) old) is = cc

first_of : (p : RowOp → Bool) (op : RowOp) (ops : List RowOp) → list_all p (op ∷ ops) ≡ true → p op ≡ true
first_of p op ops is = both (p op) (list_all p ops) is
  where
    both : (a b : Bool) → (a && b) ≡ true → a ≡ true
    both true b is = refl
    both false b is = cc

rest_of : (p : RowOp → Bool) (op : RowOp) (ops : List RowOp) → list_all p (op ∷ ops) ≡ true → list_all p ops ≡ true
rest_of p op ops is = both (p op) (list_all p ops) is
  where
    both : (a b : Bool) → (a && b) ≡ true → b ≡ true
    both true b is = is
    both false b is = cc

held_all : (held : List (Option RowOp)) (ops : List RowOp) → list_all is_on_base ops ≡ true → held_after held ops ≡ held ++ map (λ op. Some op) ops
held_all held [] is = sym (append-nil held)
held_all held (op ∷ ops) is =
    ap (λ h. held_after h ops) (held_alone held op (first_of is_on_base op ops is))
    ∙ held_all (held ++ Some op ∷ []) ops (rest_of is_on_base op ops is)
    ∙ append_assoc held (Some op ∷ []) (map (λ op. Some op) ops)

pub standing_all : (ops : List RowOp) → standing (map (λ op. Some op) ops) ≡ ops
standing_all [] = refl
standing_all (op ∷ ops) = ap (λ l. op ∷ l) (standing_all ops)

all_both : (p : RowOp → Bool) (a b : List RowOp) → list_all p a ≡ true → list_all p b ≡ true → list_all p (a ++ b) ≡ true
all_both p [] b first second = second
all_both p (op ∷ a) b first second =
    (λ j. first_of p op a first j && all_both p a b (rest_of p op a first) second j)

-- operations that name no own write are their own net
pub base_is_net : (a b : List RowOp) → list_all is_on_base a ≡ true → list_all is_on_base b ≡ true → a ++ b ≡ net_of (a ++ b)
base_is_net a b first second = sym (ap standing (held_all [] (a ++ b) (all_both is_on_base a b first second)) ∙ standing_all (a ++ b))

-- no more stand than there are
held_length : (held : List (Option RowOp)) (op : RowOp) → length (held_with held op) ≡ length held + 1
held_length held op =
    ap length (held_is held op) ∙ length-append (out_by held op) (stands_for (held_by held op) op ∷ []) ∙ ap (λ n. n + 1) (out_length held op)

held_count : (held : List (Option RowOp)) (ops : List RowOp) → length (held_after held ops) ≡ length held + length ops
held_count held [] = omega arith
held_count held (op ∷ ops) =
    let next : length (held_after (held_with held op) ops) ≡ length (held_with held op) + length ops = held_count (held_with held op) ops in
    let one : length (held_with held op) ≡ length held + 1 = held_length held op in
    omega arith

pub few_fit : (a b : List RowOp) → length a + length b ≤ 16384 → are_too_many a b ≡ false
few_fit a b few =
    let short : length (net_of (a ++ b)) ≤ length (held_after [] (a ++ b)) = standing_short (held_after [] (a ++ b)) in
    let count : length (held_after [] (a ++ b)) ≡ 0 + length (a ++ b) = held_count [] (a ++ b) in
    let both : length (a ++ b) ≡ length a + length b = length-append a b in
    grind (arith, nat_tests)
