-- Which trees a store has: one for the rows of each table and one for each of its keys, as one flat list. The tables
-- come in their order; of a table the rows come first, then its keys in their order. Tree number `i` of the plan, from
-- 0, has its root on page `1 + i` for good.
--
-- Of the tables `t` with the keys `k` and `m`, and `u` with no key:
--
--     page 1   { table = 0; key = None }      the rows of t
--     page 2   { table = 0; key = Some k }    the key k of t
--     page 3   { table = 0; key = Some m }    the key m of t
--     page 4   { table = 1; key = None }      the rows of u
use Rattle.std.specs.Prelude.{ℕ, suc, List, [], ◌∷◌, ◌++◌, Option, None, Some}
use Rattle.cdb_values.specs.declared.tables.TableDef.{TableDef}
use Rattle.cdb_values.specs.declared.tables.KeyDef.{KeyDef}

-- a tree of a store: of the rows of a table, which is named by its place, or of one of its keys
pub record Planned : Type 0 where
  pub table : ℕ
  pub key : Option KeyDef

-- the trees of the keys of a table
abbrev pub key_trees : ℕ → List KeyDef → List Planned
key_trees table [] = []
key_trees table (key ∷ keys) = record { table = table; key = Some key } ∷ key_trees table keys

-- the trees of these tables, whose places count on from a number
abbrev pub plan_from : ℕ → List TableDef → List Planned
plan_from place [] = []
plan_from place (table ∷ tables) =
    record { table = place; key = None } ∷ (key_trees place table.keys ++ plan_from (suc place) tables)
