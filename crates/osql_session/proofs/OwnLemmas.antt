-- A write that names an operation of its own transaction: what takes the place of that one.
use Rattle.std.proofs.Common.{◌≡◌, ℕ, zero, suc, ◌-◌, ◌<◌, ◌≤◌, ◌||◌, ◌&&◌, nat_lt, List, [], ◌∷◌, ◌++◌, map, take, drop, length, Bool, true, false, refl, sym, subst, ◌∙◌, ap, Option, Some, None, append_assoc, length-append, length-drop, length-take, add-one, arith}
use Rattle.std.specs.Prelude.{slice_get, slice_set, if◌then◌else◌}
use Rattle.std.specs.List.{list_all}
use Rattle.std.proofs.lemmas.Bool.Decides.{nat_tests}
use Rattle.cdb_values.specs.declared.limits.TheConstants.{MOST_NET_OPERATIONS}
use Rattle.cdb_values.specs.declared.rows.RowOp.{RowOp}
use Rattle.cdb_values.specs.declared.rows.RowOp.TheVariants.{Insert, Update, Delete}
use Rattle.cdb_values.specs.declared.rows.RowRef.TheVariants.{Base, Own}
use Rattle.cdb_values.specs.declared.values.Value.{Value}
use Rattle.net_writes.specs.Net.{held_at, held_of, taken_out, rewritten, undone, held_with, held_after, standing, net_of}
use Rattle.net_writes.proofs.CountLemmas.{at_suc, out_suc, standing_append, standing_short, not_zero}
use Rattle.sql_answer_plain.specs.Laid.{is_on_base, are_too_many}
use Rattle.sql_answer_plain.proofs.LaidLemmas.{held_both, held_alone, standing_all}
use Rattle.osql_session.specs.Own.{exchanged, named, on_first, place_alone, place_of_own}
use Rattle.osql_session.proofs.BaseLemmas.{net_is_based}

first_of : (a b : Bool) → (a && b) ≡ true → a ≡ true
first_of true b is = refl
first_of false b is = cc

second_of : (a b : Bool) → (a && b) ≡ true → b ≡ true
second_of true b is = is
second_of false b is = cc

held_all : (held : List (Option RowOp)) (ops : List RowOp) → list_all is_on_base ops ≡ true → held_after held ops ≡ held ++ map (λ op. Some op) ops
held_all held [] is = sym (nothing held)
  where
    nothing : (l : List (Option RowOp)) → l ++ [] ≡ l
    nothing [] = refl
    nothing (x ∷ l) = ap (λ m. x ∷ m) (nothing l)
held_all held (op ∷ ops) is =
    ap (λ h. held_after h ops) (held_alone held op (first_of (is_on_base op) (list_all is_on_base ops) is))
    ∙ held_all (held ++ Some op ∷ []) ops (second_of (is_on_base op) (list_all is_on_base ops) is)
    ∙ append_assoc held (Some op ∷ []) (map (λ op. Some op) ops)

-- those that stand without the one of a place
standing_without : (ops : List RowOp) (at : ℕ) → at < length ops → standing (slice_set (map (λ op. Some op) ops) at None) ≡ take at ops ++ drop (suc at) ops
standing_without [] at within = absurd (omega arith)
standing_without (op ∷ ops) zero within = standing_all ops
standing_without (op ∷ ops) (suc at) within = ap (λ l. op ∷ l) (standing_without ops at (omega arith))

get_map : (ops : List RowOp) (at : ℕ) (b : RowOp) → slice_get ops at ≡ Some b → slice_get (map (λ op. Some op) ops) at ≡ Some (Some b)
get_map [] zero b is = cc
get_map [] (suc at) b is = cc
get_map (op ∷ ops) zero b is = cc
get_map (op ∷ ops) (suc at) b is = get_map ops at b is

based_at : (ops : List RowOp) (at : ℕ) (b : RowOp) → list_all is_on_base ops ≡ true → slice_get ops at ≡ Some b → is_on_base b ≡ true
based_at [] zero b all is = cc
based_at [] (suc at) b all is = cc
based_at (op ∷ ops) zero b all is = let same : op ≡ b = cc in subst (λ (o : RowOp). is_on_base o ≡ true) same (first_of (is_on_base op) (list_all is_on_base ops) all)
based_at (op ∷ ops) (suc at) b all is = based_at ops at b (second_of (is_on_base op) (list_all is_on_base ops) all) is

pub there : (ops : List RowOp) (at : ℕ) → at < length ops → (b : RowOp) × (slice_get ops at ≡ Some b)
there [] at within = absurd (omega arith)
there (op ∷ ops) zero within = (op, refl)
there (op ∷ ops) (suc at) within = there ops at (omega arith)

-- what a write at the end of operations comes to, where it takes out the one of a place
over_by : (f : Option RowOp → Option RowOp) (ops : List RowOp) (at : ℕ) (b : RowOp) → at < length ops → slice_get ops at ≡ Some b
    → standing (taken_out (map (λ op. Some op) ops) (suc at) ++ f (held_at (map (λ op. Some op) ops) (suc at)) ∷ []) ≡ (take at ops ++ drop (suc at) ops) ++ standing (f (Some b) ∷ [])
over_by f ops at b within is =
    (λ j. standing (out_suc (map (λ op. Some op) ops) at j ++ f ((at_suc (map (λ op. Some op) ops) at ∙ ap held_of (get_map ops at b is)) j) ∷ []))
    ∙ standing_append (slice_set (map (λ op. Some op) ops) at None) (f (Some b) ∷ [])
    ∙ ap (λ l. l ++ standing (f (Some b) ∷ [])) (standing_without ops at within)

-- no more than there were
over_few : (f : Option RowOp → Option RowOp) (ops : List RowOp) (at : ℕ) (b : RowOp) → at < length ops → slice_get ops at ≡ Some b
    → length (standing (taken_out (map (λ op. Some op) ops) (suc at) ++ f (held_at (map (λ op. Some op) ops) (suc at)) ∷ [])) ≤ length ops
over_few f ops at b within is =
    let same = ap length (over_by f ops at b within is) in
    let last : length (standing (f (Some b) ∷ [])) ≤ 1 = standing_short (f (Some b) ∷ []) in
    let both = length-append (take at ops ++ drop (suc at) ops) (standing (f (Some b) ∷ [])) in
    let parts = length-append (take at ops) (drop (suc at) ops) in
    let front = length-take at ops in
    let back = length-drop (suc at) ops in
    omega (arith, same, both, parts, front, back)

before_is : (ops : List RowOp) (write : RowOp) → list_all is_on_base ops ≡ true → net_of (ops ++ write ∷ []) ≡ standing (held_with (map (λ op. Some op) ops) write)
before_is ops write all = sym (held_both ops (write ∷ [])) ∙ ap (λ h. standing (held_with h write)) (held_all [] ops all)

-- the same for an update and a delete
updated : (ops : List RowOp) (at : ℕ) (b : RowOp) (table : ℕ) (old row : List Value) → list_all is_on_base ops ≡ true → at < length ops → slice_get ops at ≡ Some b
    → net_of (ops ++ Update table (Own (suc at)) old row ∷ []) ≡ (take at ops ++ drop (suc at) ops) ++ net_of (b ∷ Update table (Own 1) old row ∷ [])
updated ops at b table old row all within is =
    before_is ops (Update table (Own (suc at)) old row) all
    ∙ over_by (λ o. rewritten o row) ops at b within is
    ∙ sym (ap (λ l. (take at ops ++ drop (suc at) ops) ++ l) (ap (λ h. standing (held_with h (Update table (Own 1) old row))) (held_alone [] b (based_at ops at b all is))))

deleted : (ops : List RowOp) (at : ℕ) (b : RowOp) (table : ℕ) (old : List Value) → list_all is_on_base ops ≡ true → at < length ops → slice_get ops at ≡ Some b
    → net_of (ops ++ Delete table (Own (suc at)) old ∷ []) ≡ (take at ops ++ drop (suc at) ops) ++ net_of (b ∷ Delete table (Own 1) old ∷ [])
deleted ops at b table old all within is =
    before_is ops (Delete table (Own (suc at)) old) all
    ∙ over_by undone ops at b within is
    ∙ sym (ap (λ l. (take at ops ++ drop (suc at) ops) ++ l) (ap (λ h. standing (held_with h (Delete table (Own 1) old))) (held_alone [] b (based_at ops at b all is))))

-- the place that a number names
some_same : (a b : ℕ) → Some a ≡ Some b → a ≡ b
some_same a b is = cc

none_some : (a : ℕ) → None ≡ Some a → ⊥
none_some a is = cc

record IsPlace (n number at : ℕ) : Type 0 where
  is : number ≡ suc at
  within : at < n

own_place : (n number at : ℕ) → place_of_own n (Own number) ≡ Some at → IsPlace n number at
own_place n zero at is = absurd (none_some at is)
own_place n (suc m) at is = go (nat_lt n (suc m)) refl (subst (λ (b : Bool). (if b || nat_lt n (suc m) then None else Some (suc m - 1)) ≡ Some at) (not_zero m) is)
  where
    go : (b : Bool) → nat_lt n (suc m) ≡ b → (if b then None else Some (suc m - 1)) ≡ Some at → IsPlace n (suc m) at
    go true test h = absurd (none_some at h)
    go false test h =
        let e : suc m - 1 ≡ at = some_same (suc m - 1) at h in
        let within : suc m ≤ n = grind (arith, nat_tests) in
        record { is = omega arith; within = omega arith }

unless : (b : Bool) (o : Option ℕ) (at : ℕ) → (if b then None else o) ≡ Some at → o ≡ Some at
unless true o at is = absurd (none_some at is)
unless false o at is = is

no_more : (b : Bool) (o : Option ℕ) (at : ℕ) → (if b then None else o) ≡ Some at → b ≡ false
no_more true o at is = absurd (none_some at is)
no_more false o at is = refl

-- the net operations with a write that names one
record IsOver (ops : List RowOp) (write : RowOp) (at : ℕ) : Type 0 where
  within : at < length ops
  few : length (net_of (ops ++ write ∷ [])) ≤ length ops
  comes : (b : RowOp) → slice_get ops at ≡ Some b → net_of (ops ++ write ∷ []) ≡ (take at ops ++ drop (suc at) ops) ++ net_of (b ∷ on_first write ∷ [])

few_along : (a b : List RowOp) (n : ℕ) → a ≡ b → length b ≤ n → length a ≤ n
few_along a b n is few = let same = ap length is in omega (arith, same)

named_over : (ops : List RowOp) (write : RowOp) (at : ℕ) → list_all is_on_base ops ≡ true → named (length ops) write ≡ Some at → IsOver ops write at
named_over ops (Insert table row) at all is = absurd (none_some at is)
named_over ops (Update table (Base genid) old row) at all is = absurd (none_some at is)
named_over ops (Update table (Own number) old row) at all is =
    let place = own_place (length ops) number at is in
    let b = there ops at place.within in
    subst (λ (n : ℕ). IsOver ops (Update table (Own n) old row) at) (sym place.is) (record {
      within = place.within;
      few = few_along (net_of (ops ++ Update table (Own (suc at)) old row ∷ [])) _ (length ops) (before_is ops (Update table (Own (suc at)) old row) all)
          (over_few (λ o. rewritten o row) ops at b.0 place.within b.1);
      comes = λ b there. updated ops at b table old row all place.within there;
    })
named_over ops (Delete table (Base genid) old) at all is = absurd (none_some at is)
named_over ops (Delete table (Own number) old) at all is =
    let place = own_place (length ops) number at is in
    let b = there ops at place.within in
    subst (λ (n : ℕ). IsOver ops (Delete table (Own n) old) at) (sym place.is) (record {
      within = place.within;
      few = few_along (net_of (ops ++ Delete table (Own (suc at)) old ∷ [])) _ (length ops) (before_is ops (Delete table (Own (suc at)) old) all)
          (over_few undone ops at b.0 place.within b.1);
      comes = λ b there. deleted ops at b table old all place.within there;
    })

of_place : (ops : List RowOp) (write : RowOp) (at : ℕ) → list_all is_on_base ops ≡ true → place_alone (length ops) (write ∷ []) ≡ Some at → IsOver ops write at
of_place ops write at all is = named_over ops write at all (unless (nat_lt MOST_NET_OPERATIONS (length ops)) (named (length ops) write) at is)

-- the place is one of the operations
pub place_within : (ops writes : List RowOp) (at : ℕ) → list_all is_on_base ops ≡ true → place_alone (length ops) writes ≡ Some at → at < length ops
place_within ops [] at all is = absurd (none_some at is)
place_within ops (write ∷ []) at all is = (of_place ops write at all is).within
place_within ops (write ∷ other ∷ writes) at all is = absurd (none_some at is)

-- what takes its place is the net of all
pub over_is_net : (ops writes now : List RowOp) (at : ℕ) → list_all is_on_base ops ≡ true → place_alone (length ops) writes ≡ Some at
    → ((op : RowOp) → slice_get ops at ≡ Some op → now ≡ net_of (op ∷ map on_first writes)) → exchanged ops at now ≡ net_of (ops ++ writes)
over_is_net ops [] now at all is comes = absurd (none_some at is)
over_is_net ops (write ∷ []) now at all is comes =
    let over = of_place ops write at all is in
    let b = there ops at over.within in
    sym (over.comes b.0 b.1 ∙ (λ j. (take at ops ++ drop (sym (add-one at) j) ops) ++ sym (comes b.0 b.1) j))
over_is_net ops (write ∷ other ∷ writes) now at all is comes = absurd (none_some at is)

-- these are not too many
pub one_fits : (ops writes : List RowOp) (at : ℕ) → list_all is_on_base ops ≡ true → place_alone (length ops) writes ≡ Some at → are_too_many ops writes ≡ false
one_fits ops [] at all is = absurd (none_some at is)
one_fits ops (write ∷ []) at all is =
    let few : length (net_of (ops ++ write ∷ [])) ≤ length ops = (of_place ops write at all is).few in
    let most : nat_lt 16384 (length ops) ≡ false = no_more (nat_lt 16384 (length ops)) (named (length ops) write) at is in
    grind (arith, nat_tests)
one_fits ops (write ∷ other ∷ writes) at all is = absurd (none_some at is)

pub over_is_based : (ops writes now : List RowOp) (at : ℕ) → list_all is_on_base ops ≡ true → place_alone (length ops) writes ≡ Some at
    → ((op : RowOp) → slice_get ops at ≡ Some op → now ≡ net_of (op ∷ map on_first writes)) → list_all is_on_base (exchanged ops at now) ≡ true
over_is_based ops writes now at all is comes =
    subst (λ (l : List RowOp). list_all is_on_base l ≡ true) (sym (over_is_net ops writes now at all is comes)) (net_is_based (ops ++ writes))
