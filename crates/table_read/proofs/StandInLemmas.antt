-- A table of more than 64 columns is refused for its stand-in keys as for its own.
use Rattle.std.proofs.Common.{◌≡◌, ℕ, ◌<◌, ◌==◌, Bool, true, false, ◌||◌, nat_lt, if◌then◌else◌, List, [], ◌∷◌, length, map, Some, None, refl, sym, ◌∙◌, ap, ap₂, arith}
use Rattle.std.specs.List.{list_any}
use Rattle.std.proofs.lemmas.Bool.{lt-ltb}
use Rattle.std.proofs.lemmas.List.{length-map}
use Rattle.cdb_values.specs.Tables.{are_bad_columns, are_bad_keys, has_twice}
use Rattle.cdb_values.specs.declared.schemas.AddFault.TheVariants as faults
use Rattle.cdb_values.specs.declared.tables.TableDef.{TableDef}
use Rattle.cdb_values.specs.declared.tables.ColumnDef.{ColumnDef}
use Rattle.cdb_values.specs.declared.tables.KeyDef.{KeyDef}
use Rattle.table_read.specs.declared.keys.WrittenKey.{WrittenKey}
use Rattle.table_read.specs.Tables.{place_among, key_over, table_with, table_over}
use Rattle.table_read.specs.StandIns.{is_bad_name, is_bad_key, stand_in}
use Rattle.table_read.specs.Verdict.{judged, unless_fault}

-- the names are the same
same_names : (columns : List ColumnDef) (keys : List WrittenKey) → map (λ k. k.name) (map (stand_in columns) keys) ≡ map (λ k. k.name) (map (key_over columns) keys)
same_names columns [] = refl
same_names columns (key ∷ keys) = ap (λ names. key.name ∷ names) (same_names columns keys)

-- a key over places is bad where the written one is
bad_places : (columns : List ColumnDef) (unique : Bool) (names : List (List ℕ)) → are_bad_columns columns unique (map (place_among columns) names) ≡ list_any (is_bad_name columns unique) names
bad_places columns unique [] = refl
bad_places columns unique (name ∷ names) = ap (λ b. is_bad_name columns unique name || b) (bad_places columns unique names)

is_bad : List ColumnDef → KeyDef → Bool
is_bad columns key = (length key.columns == 0) || are_bad_columns columns key.unique key.columns

bad_over : (columns : List ColumnDef) (key : WrittenKey) → is_bad columns (key_over columns key) ≡ is_bad_key columns key
unfolding is_bad
bad_over columns key =
    ap (λ n. (n == 0) || are_bad_columns columns key.unique (map (place_among columns) key.columns)) (length-map key.columns (place_among columns))
    ∙ ap (λ b. (length key.columns == 0) || b) (bad_places columns key.unique key.columns)

-- and so is its stand-in
bad_stand_in : (first : ColumnDef) (others : List ColumnDef) (key : WrittenKey) → is_bad (first ∷ others) (stand_in (first ∷ others) key) ≡ is_bad_key (first ∷ others) key
unfolding is_bad
bad_stand_in first others key = go (is_bad_key (first ∷ others) key)
  where
    go : (bad : Bool) → is_bad (first ∷ others) (record { name = key.name; columns = if bad then [] else 0 ∷ []; unique = false }) ≡ bad
    go true = refl
    go false = refl

same_bad_keys : (first : ColumnDef) (others : List ColumnDef) (keys : List WrittenKey) → are_bad_keys (first ∷ others) (map (stand_in (first ∷ others)) keys) ≡ are_bad_keys (first ∷ others) (map (key_over (first ∷ others)) keys)
unfolding is_bad
same_bad_keys first others [] = refl
same_bad_keys first others (key ∷ keys) =
    ap (λ b. b || are_bad_keys (first ∷ others) (map (stand_in (first ∷ others)) keys)) (bad_stand_in first others key ∙ sym (bad_over (first ∷ others) key))
    ∙ ap (λ b. is_bad (first ∷ others) (key_over (first ∷ others) key) || b) (same_bad_keys first others keys)

-- what a table that passes a limit is refused for
refused : (t u : TableDef) (taken bad worse full past late : Bool) → bad ≡ worse → past ≡ true → late ≡ true →
    unless_fault t (if taken then Some faults.Taken else if bad then Some faults.Unlawful else if full || past then Some faults.Limit else None)
    ≡ unless_fault u (if taken then Some faults.Taken else if worse then Some faults.Unlawful else if full || late then Some faults.Limit else None)
refused t u true bad worse full past late b p l = refl
refused t u false true worse full past late b p l = rw (sym b) refl
refused t u false false worse true past late b p l = rw (sym b) refl
refused t u false false worse false past late b p l = rw (sym b, p, l) refl

past_limits : (name : Bool) (columns : ℕ) (keys names long : Bool) → nat_lt 64 columns ≡ true → (name || nat_lt 64 columns || keys || names || long) ≡ true
past_limits true columns keys names long h = refl
past_limits false columns keys names long h = rw h refl

pub one_verdict : (columns : List ColumnDef) (keys : List WrittenKey) (tables : List TableDef) (name : List ℕ) → 64 < length columns → judged tables (table_with name columns (map (stand_in columns) keys)) ≡ judged tables (table_over name columns keys)
one_verdict [] keys tables name wide = absurd (omega arith)
one_verdict (first ∷ others) keys tables name wide =
    let h : nat_lt 64 (length (first ∷ others)) ≡ true = lt-ltb 64 (length (first ∷ others)) wide in
    let twice : has_twice (map (λ k. k.name) (map (stand_in (first ∷ others)) keys)) ≡ has_twice (map (λ k. k.name) (map (key_over (first ∷ others)) keys)) = ap has_twice (same_names (first ∷ others) keys) in
    let bad : are_bad_keys (first ∷ others) (map (stand_in (first ∷ others)) keys) ≡ are_bad_keys (first ∷ others) (map (key_over (first ∷ others)) keys) = same_bad_keys first others keys in
    refused _ _ _ _ _ _ _ _
    (ap₂ (λ k b. has_twice (map (λ c. c.name) (first ∷ others)) || k || b) twice bad)
    (past_limits _ _ _ _ _ h)
    (past_limits _ _ _ _ _ h)
