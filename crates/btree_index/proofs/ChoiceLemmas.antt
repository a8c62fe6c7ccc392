-- The child that is chosen by halves among the cells of a page above the leaves.
use Rattle.std.proofs.Common.{◌≡◌, ℕ, zero, suc, ◌+◌, ◌-◌, ◌≤◌, ◌<◌, ltb, Bool, true, false, List, [], ◌∷◌, length, drop, None, Some, if◌then◌else◌, refl, sym, ap, ◌∙◌, arith, add-one}
use Rattle.std.proofs.lemmas.Bool.{ltb-true, ltb-false}
use Rattle.std.proofs.lemmas.Option.{none-some, same_Some}
use Rattle.std.specs.List.{slice_get}
use Rattle.btree_index.specs.Keys.{Key, before}
use Rattle.btree_index.specs.Cells.{key_of_cell, child_of}
use Rattle.btree_index.specs.Trees.{BeginsEmpty}
use Rattle.btree_index.specs.Pairs.{middle, is_above, halved, turn, child_from, choice}
use Rattle.btree_index.proofs.FindLemmas.{cell_at}

-- a place among cells: the cell in front of it is not above the key, and the one there is
pub record IsTurn (key : Key) (cells : List (List ℕ)) (at : ℕ) : Type 0 where
  pub within : at ≤ length cells
  pub from : (i : ℕ) (c : List ℕ) → i + 1 ≡ at → slice_get cells i ≡ Some c → before key (key_of_cell c) ≡ false
  pub to : (c : List ℕ) → slice_get cells at ≡ Some c → before key (key_of_cell c) ≡ true

-- the places between which such a one is sought
record IsRange (key : Key) (cells : List (List ℕ)) (low high : ℕ) : Type 0 where
  order : low ≤ high
  within : high ≤ length cells
  from : (i : ℕ) (c : List ℕ) → i + 1 ≡ low → slice_get cells i ≡ Some c → before key (key_of_cell c) ≡ false
  to : (c : List ℕ) → slice_get cells high ≡ Some c → before key (key_of_cell c) ≡ true

range_end : (key : Key) (cells : List (List ℕ)) (low high : ℕ) → high ≤ low → IsRange key cells low high → IsTurn key cells low
range_end key cells low high past r =
    let order : low ≤ high = r.order in
    let within : high ≤ length cells = r.within in
    let same : high ≡ low = omega arith in
    record { within = omega arith; from = r.from; to = λ c here. r.to c (ap (λ (n : ℕ). slice_get cells n) same ∙ here) }

half_turn : (key : Key) (cells : List (List ℕ)) (turns low high : ℕ) → high ≤ low + suc turns → IsRange key cells low high
    → (middle low high ≤ low + turns → IsRange key cells low (middle low high) → IsTurn key cells (halved key cells turns low (middle low high)))
    → (high ≤ middle low high + 1 + turns → IsRange key cells (middle low high + 1) high → IsTurn key cells (halved key cells turns (middle low high + 1) high))
    → (t : Bool) → ltb low high ≡ t → (above : Bool) → is_above key (slice_get cells (middle low high)) ≡ above
    → IsTurn key cells (if t then (if above then halved key cells turns low (middle low high) else halved key cells turns (middle low high + 1) high) else low)
half_turn key cells turns low high few r down up false e above a = range_end key cells low high (ltb-false low high e) r
half_turn key cells turns low high few r down up true e true a =
    let some : low < high = ltb-true low high e in
    let within : high ≤ length cells = r.within in
    down (omega arith) (record { order = omega arith; within = omega arith; from = r.from; to = λ c here. sym (ap (is_above key) here) ∙ a })
half_turn key cells turns low high few r down up true e false a =
    let some : low < high = ltb-true low high e in
    up (omega arith) (record { order = omega arith; within = r.within; from = λ i c next here. in_front i c next here; to = r.to })
  where
    in_front : (i : ℕ) (c : List ℕ) → i + 1 ≡ middle low high + 1 → slice_get cells i ≡ Some c → before key (key_of_cell c) ≡ false
    in_front i c next here =
        let same : i ≡ middle low high = omega arith in
        sym (ap (is_above key) here) ∙ ap (λ (n : ℕ). is_above key (slice_get cells n)) same ∙ a

halves_turn : (key : Key) (cells : List (List ℕ)) (turns low high : ℕ) → high ≤ low + turns → IsRange key cells low high → IsTurn key cells (halved key cells turns low high)
halves_turn key cells zero low high few r = range_end key cells low high (omega arith) r
halves_turn key cells (suc turns) low high few r =
    half_turn key cells turns low high few r (halves_turn key cells turns low (middle low high)) (halves_turn key cells turns (middle low high + 1) high)
    (ltb low high) refl (is_above key (slice_get cells (middle low high))) refl

pub is_turn : (key : Key) (cells : List (List ℕ)) → IsTurn key cells (turn key cells)
is_turn key cells =
    halves_turn key cells (length cells) 0 (length cells) (omega arith)
    (record { order = omega arith; within = omega arith; from = λ i c next here. absurd (none i next); to = λ c here. absurd (past cells c here) })
  where
    none : (i : ℕ) → i + 1 ≡ 0 → ⊥
    none i next = omega arith

    past : (cells : List (List ℕ)) (c : List ℕ) → slice_get cells (length cells) ≡ Some c → ⊥
    past [] c here = none-some c here
    past (d ∷ ds) c here = past ds c here

-- the turn of the cells behind the first one
pub turn_later : (key : Key) (c : List ℕ) (cells : List (List ℕ)) (at : ℕ) → IsTurn key (c ∷ cells) (suc at) → IsTurn key cells at
turn_later key c cells at t =
    let within : suc at ≤ suc (length cells) = t.within in
    record { within = omega arith; from = λ i d next here. t.from (suc i) d (later i next) here; to = λ d here. t.to d here }
  where
    later : (i : ℕ) → i + 1 ≡ at → suc i + 1 ≡ suc at
    later i next = omega arith

-- while halves are taken, what is sought stays the same
pub record IsHalving (key : Key) (cells : List (List ℕ)) (low high : ℕ) : Type 0 where
  pub turns : ℕ
  pub few : high ≤ low + turns
  pub same : halved key cells turns low high ≡ turn key cells

pub halving_begins : (key : Key) (cells : List (List ℕ)) (high : ℕ) → high ≡ length cells → IsHalving key cells 0 high
halving_begins key cells high all = record { turns = length cells; few = omega arith; same = ap (λ (n : ℕ). halved key cells (length cells) 0 n) all }

pub halving_down : (key : Key) (cells : List (List ℕ)) (low high : ℕ) → low < high → is_above key (slice_get cells (middle low high)) ≡ true
    → IsHalving key cells low high → IsHalving key cells low (middle low high)
halving_down key cells low high some above h = go h.turns h.few h.same
  where
    test : ltb low high ≡ true
    test = grind arith

    go : (turns : ℕ) → high ≤ low + turns → halved key cells turns low high ≡ turn key cells → IsHalving key cells low (middle low high)
    go zero few same = absurd (past few)
      where
        past : high ≤ low + 0 → ⊥
        past few = omega arith
    go (suc turns) few same = record {
      turns = turns;
      few = omega arith;
      same = sym
          (ap (λ (t : Bool). if t then (if is_above key (slice_get cells (middle low high)) then halved key cells turns low (middle low high) else halved key cells turns (middle low high + 1) high) else low) test
          ∙ ap (λ (t : Bool). if t then halved key cells turns low (middle low high) else halved key cells turns (middle low high + 1) high) above)
          ∙ same;
    }

pub halving_up : (key : Key) (cells : List (List ℕ)) (low high : ℕ) → low < high → is_above key (slice_get cells (middle low high)) ≡ false
    → IsHalving key cells low high → IsHalving key cells (middle low high + 1) high
halving_up key cells low high some above h = go h.turns h.few h.same
  where
    test : ltb low high ≡ true
    test = grind arith

    go : (turns : ℕ) → high ≤ low + turns → halved key cells turns low high ≡ turn key cells → IsHalving key cells (middle low high + 1) high
    go zero few same = absurd (past few)
      where
        past : high ≤ low + 0 → ⊥
        past few = omega arith
    go (suc turns) few same = record {
      turns = turns;
      few = omega arith;
      same = sym
          (ap (λ (t : Bool). if t then (if is_above key (slice_get cells (middle low high)) then halved key cells turns low (middle low high) else halved key cells turns (middle low high + 1) high) else low) test
          ∙ ap (λ (t : Bool). if t then halved key cells turns low (middle low high) else halved key cells turns (middle low high + 1) high) above)
          ∙ same;
    }

pub halving_ends : (key : Key) (cells : List (List ℕ)) (low high : ℕ) → high ≤ low → IsHalving key cells low high → low ≡ turn key cells
halving_ends key cells low high past h = sym (stays h.turns) ∙ h.same
  where
    test : ltb low high ≡ false
    test = grind arith

    stays : (turns : ℕ) → halved key cells turns low high ≡ low
    stays zero = refl
    stays (suc turns) =
        ap (λ (t : Bool). if t then (if is_above key (slice_get cells (middle low high)) then halved key cells turns low (middle low high) else halved key cells turns (middle low high + 1) high) else low) test

-- the cells behind the first one
pub behind_length : (cells : List (List ℕ)) → length (drop 1 cells) ≡ length cells - 1
behind_length [] = refl
behind_length (c ∷ cs) = omega arith

pub get_behind : (cells : List (List ℕ)) (at : ℕ) → slice_get (drop 1 cells) at ≡ slice_get cells (at + 1)
get_behind [] zero = refl
get_behind [] (suc at) = refl
get_behind (c ∷ cs) at = ap (λ (n : ℕ). slice_get (c ∷ cs) n) (sym (add-one at))

-- the child of the cell at the turn
pub child_here : (first : List ℕ) (cells : List (List ℕ)) (at : ℕ) (cell : List ℕ) → slice_get (first ∷ cells) at ≡ Some cell
    → child_of cell ≡ child_from (child_of first) cells at
child_here first cells zero cell here = ap child_of (sym (same_Some first cell here))
child_here first [] (suc at) cell here = absurd (none-some cell here)
child_here first (c ∷ cs) (suc at) cell here = child_here c cs at cell here

pub child_chosen : (key : Key) (cells : List (List ℕ)) (at : ℕ) (cell : List ℕ) → at ≡ turn key (drop 1 cells) → slice_get cells at ≡ Some cell
    → child_of cell ≡ choice key cells
child_chosen key [] at cell is here = absurd (none-some cell here)
child_chosen key (c ∷ cs) at cell is here = child_here c cs at cell here ∙ ap (child_from (child_of c) cs) is

-- a page with cells has one there
pub turn_there : (key : Key) (cells : List (List ℕ)) (at : ℕ) → at ≡ turn key (drop 1 cells) → BeginsEmpty cells → slice_get cells at ≡ None → ⊥
turn_there key [] at is some gone = absurd some
turn_there key (c ∷ cs) at is some gone =
    let within : turn key cs ≤ length cs = (is_turn key cs).within in
    let is : at ≡ turn key cs = is in
    let inside : at < length (c ∷ cs) = omega (arith, is, within) in
    let found = cell_at (c ∷ cs) at inside in
    none-some found.0 (sym gone ∙ found.1)
