-- Where the trees of a table stand in the plan.
use Rattle.std.proofs.Common.{◌≡◌, ℕ, zero, suc, ◌+◌, ◌<◌, List, [], ◌∷◌, ◌++◌, take, length, Some, refl, ap, ◌∙◌, arith, add-one, length-append}
use Rattle.std.specs.Prelude.{MatchOption}
use Rattle.std.proofs.lemmas.Option.{none-some, same_Some}
use Rattle.std.specs.List.{slice_get}
use Rattle.cdb_values.specs.declared.tables.TableDef.{TableDef}
use Rattle.cdb_values.specs.declared.tables.KeyDef.{KeyDef}
use Rattle.table_store.specs.Plans.{Planned, key_trees, plan_from}
use Rattle.page_rows.specs.Listed.{no_table}
use Rattle.table_store.proofs.ReadLaws.{get_behind}

length-keys : (place : ℕ) (keys : List KeyDef) → length (key_trees place keys) ≡ length keys
length-keys place [] = refl
length-keys place (key ∷ keys) = ap (λ (n : ℕ). suc n) (length-keys place keys)

-- the trees of one table more
more_from : (place n : ℕ) (tables : List TableDef) (keys : List KeyDef) → n < length tables
    → MatchOption (slice_get tables n) (keys ≡ []) (λ t. keys ≡ t.keys)
    → length (plan_from place (take (suc n) tables)) ≡ length (plan_from place (take n tables)) + (1 + length keys)
more_from place n [] keys h k = absurd (no_table n h)
more_from place zero (t ∷ ts) keys h k =
    let all : length (key_trees place t.keys ++ []) ≡ length (key_trees place t.keys) + 0 = length-append (key_trees place t.keys) [] in
    let trees : length (key_trees place t.keys) ≡ length t.keys = length-keys place t.keys in
    let same : length keys ≡ length t.keys = ap length k in
    omega (arith, all, trees, same)
more_from place (suc n) (t ∷ ts) keys h k =
    let more : length (plan_from (suc place) (take (suc n) ts)) ≡ length (plan_from (suc place) (take n ts)) + (1 + length keys) =
    more_from (suc place) n ts keys (omega arith) k in
    let after : length (key_trees place t.keys ++ plan_from (suc place) (take (suc n) ts)) ≡ length (key_trees place t.keys) + length (plan_from (suc place) (take (suc n) ts)) =
    length-append (key_trees place t.keys) (plan_from (suc place) (take (suc n) ts)) in
    let before : length (key_trees place t.keys ++ plan_from (suc place) (take n ts)) ≡ length (key_trees place t.keys) + length (plan_from (suc place) (take n ts)) =
    length-append (key_trees place t.keys) (plan_from (suc place) (take n ts)) in
    omega (arith, more, after, before)

pub plan_more : (tables : List TableDef) (n : ℕ) (keys : List KeyDef) → n < length tables
    → MatchOption (slice_get tables n) (keys ≡ []) (λ t. keys ≡ t.keys)
    → length (plan_from 0 (take (n + 1) tables)) ≡ length (plan_from 0 (take n tables)) + (1 + length keys)
plan_more tables n keys h k = ap (λ (m : ℕ). length (plan_from 0 (take m tables))) (add-one n) ∙ more_from 0 n tables keys h k

key_there : (place k : ℕ) (keys : List KeyDef) (rest : List Planned) (key : KeyDef) → slice_get keys k ≡ Some key
    → slice_get (key_trees place keys ++ rest) k ≡ Some (record { table = place; key = Some key })
key_there place k [] rest key e = absurd (none-some key e)
key_there place zero (x ∷ xs) rest key e = ap (λ (x : KeyDef). Some (record { table = place; key = Some x })) (same_Some x key e)
key_there place (suc k) (x ∷ xs) rest key e = key_there place k xs rest key e

-- the tree of a key
keys_first : (place k : ℕ) (table : TableDef) (tables : List TableDef) (n : ℕ) (key : KeyDef) → slice_get table.keys k ≡ Some key → n ≡ suc k
    → slice_get (plan_from place (table ∷ tables)) n ≡ Some (record { table = place; key = Some key })
keys_first place k table tables n key e same =
    ap (slice_get (plan_from place (table ∷ tables))) same ∙ key_there place k table.keys (plan_from (suc place) tables) key e

pub key_planned : (place t k at n : ℕ) (tables : List TableDef) (table : TableDef) (key : KeyDef) → slice_get tables t ≡ Some table
    → slice_get table.keys k ≡ Some key → at ≡ place + t → n ≡ length (plan_from place (take t tables)) + (1 + k)
    → slice_get (plan_from place tables) n ≡ Some (record { table = at; key = Some key })
key_planned place t k at n [] table key h i e f = absurd (none-some table h)
key_planned place zero k at n (x ∷ xs) table key h i e f =
    let same : place ≡ at = omega arith in
    let first : n ≡ suc k = omega arith in
    keys_first place k x xs n key (ap (λ (d : TableDef). slice_get d.keys k) (same_Some x table h) ∙ i) first
    ∙ ap (λ (m : ℕ). Some (record { table = m; key = Some key })) same
key_planned place (suc t) k at n (x ∷ xs) table key h i e f =
    let next : at ≡ suc place + t = omega arith in
    later n (front f)
    ∙ key_planned (suc place) t k at (length (plan_from (suc place) (take t xs)) + (1 + k)) xs table key h i next refl
  where
    front : n ≡ suc (length (key_trees place x.keys ++ plan_from (suc place) (take t xs))) + (1 + k)
        → n ≡ suc (length (key_trees place x.keys) + (length (plan_from (suc place) (take t xs)) + (1 + k)))
    front f =
        let all : length (key_trees place x.keys ++ plan_from (suc place) (take t xs)) ≡ length (key_trees place x.keys) + length (plan_from (suc place) (take t xs)) =
        length-append (key_trees place x.keys) (plan_from (suc place) (take t xs)) in
        omega (arith, all)

    later : (n : ℕ) → n ≡ suc (length (key_trees place x.keys) + (length (plan_from (suc place) (take t xs)) + (1 + k)))
        → slice_get (plan_from place (x ∷ xs)) n ≡ slice_get (plan_from (suc place) xs) (length (plan_from (suc place) (take t xs)) + (1 + k))
    later n e =
        ap (slice_get (plan_from place (x ∷ xs))) e
        ∙ get_behind (key_trees place x.keys) (plan_from (suc place) xs)
        (length (key_trees place x.keys) + (length (plan_from (suc place) (take t xs)) + (1 + k))) (length (plan_from (suc place) (take t xs)) + (1 + k)) refl
