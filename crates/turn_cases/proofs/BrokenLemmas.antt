-- The first broken key, table by table.
use Rattle.std.proofs.Common.{◌≡◌, ◌∙◌, ℕ, zero, suc, ◌+◌, ◌<◌, ◌++◌, ◌∷◌, [], List, Bool, true, false, not, ◌&&◌, Option, Some, None, MatchOption, length, take, drop, slice_get, unwrap_or, option_map, refl, sym, ap, arith}
use Rattle.cdb_values.specs.Good.{first_broken, broken_key, or_broken, are_apart, KeyName}
use Rattle.cdb_values.specs.declared.rows.Version.{Version}
use Rattle.cdb_values.specs.declared.tables.KeyDef.{KeyDef}
use Rattle.cdb_values.specs.declared.tables.TableDef.{TableDef}
use Rattle.turn_cases.specs.Plain.{is_first_taken, named}

next : (k : ℕ) → suc k ≡ k + 1
next k = omega arith

-- a list from a place on
drop_suc : {A : Type 0} (xs : List A) (k : ℕ) (x : A) (after : List A) → x ∷ after ≡ drop k xs → (slice_get xs k ≡ Some x) × (after ≡ drop (suc k) xs)
drop_suc [] zero x after is = absurd cc
drop_suc [] (suc k) x after is = absurd cc
drop_suc (y ∷ xs) zero x after is = (let same : x ∷ after ≡ y ∷ xs = is in cc, let same : x ∷ after ≡ y ∷ xs = is in cc)
drop_suc (y ∷ xs) (suc k) x after is = drop_suc xs k x after is

pub drop_next : {A : Type 0} (xs : List A) (k : ℕ) (x : A) (after : List A) → x ∷ after ≡ drop k xs → (slice_get xs k ≡ Some x) × (after ≡ drop (k + 1) xs)
drop_next {A} xs k x after is = let both = drop_suc xs k x after is in (both.0, both.1 ∙ ap (λ (n : ℕ). drop n xs) (next k))

-- what stands at a place of versions
record IsAt (vs : List Version) (k : ℕ) : Type 0 where
  version : Version
  after : List Version
  rest : drop k vs ≡ version ∷ after
  before : take (suc k) vs ≡ take k vs ++ version ∷ []
  behind : drop (suc k) vs ≡ after

at_place : (vs : List Version) (k : ℕ) → k < length vs → IsAt vs k
at_place [] k within = absurd (omega (arith, within))
at_place (v ∷ vs) zero within = record { version = v; after = vs; rest = refl; before = refl; behind = refl }
at_place (v ∷ vs) (suc k) within =
    let at : IsAt vs k = at_place vs k (omega (arith, within)) in
    record { version = at.version; after = at.after; rest = at.rest; before = ap (λ (ws : List Version). v ∷ ws) at.before; behind = at.behind }

-- versions up to a place have other values at a key, and the next has too
pub apart_more : (key : KeyDef) (vs : List Version) (k : ℕ) → k < length vs → is_first_taken key (take k vs) (drop k vs) ≡ false
    → are_apart key (take k vs) (drop k vs) ≡ are_apart key (take (k + 1) vs) (drop (k + 1) vs)
apart_more key vs k within free =
    let at : IsAt vs k = at_place vs k within in
    ap (are_apart key (take k vs)) at.rest
    ∙ ap (λ (b : Bool). not b && are_apart key (take k vs ++ at.version ∷ []) at.after) (sym (ap (is_first_taken key (take k vs)) at.rest) ∙ free)
    ∙ ap (λ (ws : List Version). are_apart key ws at.after) (sym at.before)
    ∙ ap (are_apart key (take (suc k) vs)) (sym at.behind)
    ∙ ap (λ (n : ℕ). are_apart key (take n vs) (drop n vs)) (next k)

-- or it has not
pub apart_no_more : (key : KeyDef) (vs : List Version) (k : ℕ) → k < length vs → is_first_taken key (take k vs) (drop k vs) ≡ true
    → are_apart key (take k vs) (drop k vs) ≡ false
apart_no_more key vs k within taken =
    let at : IsAt vs k = at_place vs k within in
    ap (are_apart key (take k vs)) at.rest
    ∙ ap (λ (b : Bool). not b && are_apart key (take k vs ++ at.version ∷ []) at.after) (sym (ap (is_first_taken key (take k vs)) at.rest) ∙ taken)

-- no table is left
pub none_more : (tables : List TableDef) (all : List (List Version)) (whole : Option KeyName) → length all ≡ 0 → first_broken tables all ≡ whole → None ≡ whole
none_more [] all whole none is = is
none_more (td ∷ tables) [] whole none is = is
none_more (td ∷ tables) (vs ∷ all) whole none is = absurd (omega (arith, none))

-- a table without a broken key is passed over
no_key_suc : (tables : List TableDef) (t : ℕ) (keys : List KeyDef) (vs : List Version) (all : List (List Version)) → MatchOption (slice_get tables t) (keys ≡ []) (λ td. keys ≡ td.keys) →
    broken_key vs keys ≡ None → first_broken (drop t tables) (vs ∷ all) ≡ first_broken (drop (suc t) tables) all
no_key_suc [] zero keys vs all is none = refl
no_key_suc [] (suc t) keys vs all is none = refl
no_key_suc (td ∷ tables) zero keys vs all is none = ap (λ (o : Option KeyDef). or_broken td o (first_broken tables all)) (ap (broken_key vs) (sym is) ∙ none)
no_key_suc (td ∷ tables) (suc t) keys vs all is none = no_key_suc tables t keys vs all is none

pub no_key : (tables : List TableDef) (t : ℕ) (keys : List KeyDef) (vs : List Version) (all : List (List Version)) → MatchOption (slice_get tables t) (keys ≡ []) (λ td. keys ≡ td.keys) →
    None ≡ broken_key vs keys → first_broken (drop t tables) (vs ∷ all) ≡ first_broken (drop (t + 1) tables) all
no_key tables t keys vs all is none = no_key_suc tables t keys vs all is (sym none) ∙ ap (λ (n : ℕ). first_broken (drop n tables) all) (next t)

-- a broken key is told by its names
found_here : (tables : List TableDef) (t k : ℕ) (keys : List KeyDef) (key : KeyDef) (vs : List Version) (all : List (List Version)) → MatchOption (slice_get tables t) (keys ≡ []) (λ td. keys ≡ td.keys) →
    slice_get keys k ≡ Some key → Some key ≡ broken_key vs keys → named tables (Some (record { table = t; key = k })) ≡ first_broken (drop t tables) (vs ∷ all)
found_here [] zero k keys key vs all is there broken = absurd (let none : slice_get [] k ≡ Some key = ap (λ (ks : List KeyDef). slice_get ks k) (sym is) ∙ there in cc)
found_here [] (suc t) k keys key vs all is there broken = absurd (let none : slice_get [] k ≡ Some key = ap (λ (ks : List KeyDef). slice_get ks k) (sym is) ∙ there in cc)
found_here (td ∷ tables) zero k keys key vs all is there broken =
    ap (λ (o : Option KeyDef). Some (record { table = td.name; key = unwrap_or (option_map (λ x. x.name) o) [] })) (ap (λ (ks : List KeyDef). slice_get ks k) (sym is) ∙ there)
    ∙ ap (λ (o : Option KeyDef). or_broken td o (first_broken tables all)) (broken ∙ ap (broken_key vs) is)
found_here (td ∷ tables) (suc t) k keys key vs all is there broken = found_here tables t k keys key vs all is there broken

get_within : (keys : List KeyDef) (k : ℕ) → k < length keys → (key : KeyDef) × (slice_get keys k ≡ Some key)
get_within [] k within = absurd (omega (arith, within))
get_within (key ∷ keys) zero within = (key, refl)
get_within (key ∷ keys) (suc k) within = get_within keys k (omega (arith, within))

pub found_key : (tables : List TableDef) (t k : ℕ) (keys : List KeyDef) (vs : List Version) (all : List (List Version)) → MatchOption (slice_get tables t) (keys ≡ []) (λ td. keys ≡ td.keys) →
    k < length keys → slice_get keys k ≡ broken_key vs keys → named tables (Some (record { table = t; key = k })) ≡ first_broken (drop t tables) (vs ∷ all)
found_key tables t k keys vs all is within broken = let at = get_within keys k within in found_here tables t k keys at.0 vs all is at.1 (sym at.1 ∙ broken)
