-- Worked examples: three tables with a few rows, and statements on them.
--
--     t(id integer not null, v integer)      1|10   2|null   3|10   4|9223372036854775807
--     customers(id integer, name text)       1|'ann'   2|'bob'   3|'eve'
--     orders(customer integer, total integer)   1|10   2|5   1|7   2|null
use Rattle.std.specs.Prelude.{ℕ, ◌^◌, ◌-◌, ◌∷◌, [], List, Bool, true, false, pos, negsuc, Option, Some, None, codes}
use Rattle.cdb_values.specs.declared.items.GenidItem.{GenidItem}
use Rattle.cdb_values.specs.declared.rows.Version.{Version}
use Rattle.cdb_values.specs.declared.tables.ColumnDef.{ColumnDef}
use Rattle.cdb_values.specs.declared.tables.ColumnType.{ColumnType}
use Rattle.cdb_values.specs.declared.tables.ColumnType.TheVariants as kinds
use Rattle.cdb_values.specs.declared.tables.TableDef.{TableDef}
use Rattle.cdb_values.specs.declared.values.Value.{Value}
use Rattle.cdb_values.specs.declared.values.Value.TheVariants.{Null, Int, Text}
use Rattle.cdb_values.specs.declared.replies.Reply.{Reply}
use Rattle.sql_bind.specs.Bound.{Cond, Conds, Compares, no_cond, more_conds, BoundQuery, BoundStatement, UpdateOf}
use Rattle.sql_bind.specs.declared.types.BoundColumn.{BoundColumn}
use Rattle.sql_bind.specs.declared.types.BoundItem.{BoundItem}
use Rattle.sql_bind.specs.declared.types.BoundItem.TheVariants as items
use Rattle.sql_bind.specs.declared.types.BoundOperand.TheVariants as operand
use Rattle.sql_bind.specs.declared.types.Cmp.{Cmp}
use Rattle.sql_bind.specs.declared.types.Cmp.TheVariants as cmp
use Rattle.sql_answer.specs.Answers.{Outcome, Gives}

abbrev pub int : ℕ → Value
int n = Int (pos n)

abbrev pub minus_one : Value
minus_one = Int (negsuc 0)

-- the greatest integer of 64 bits
abbrev pub most : Value
most = Int (pos (2 ^ 63 - 1))

abbrev pub column_def : List ℕ → ColumnType → Bool → ColumnDef
column_def name kind nullable = record { name = name; kind = kind; nullable = nullable }

abbrev pub schema : List TableDef
schema =
    record { name = codes "t"; columns = column_def (codes "id") kinds.Integer false ∷ column_def (codes "v") kinds.Integer true ∷ []; keys = [] }
    ∷ record { name = codes "customers"; columns = column_def (codes "id") kinds.Integer true ∷ column_def (codes "name") kinds.Text true ∷ []; keys = [] }
    ∷ record { name = codes "orders"; columns = column_def (codes "customer") kinds.Integer true ∷ column_def (codes "total") kinds.Integer true ∷ []; keys = [] }
    ∷ []

abbrev pub version_of_two : ℕ → Value → Value → Version
version_of_two genid a b = record { genid = genid; row = a ∷ b ∷ [] }

abbrev pub ann : Value
ann = Text (codes "ann")

abbrev pub bob : Value
bob = Text (codes "bob")

abbrev pub eve : Value
eve = Text (codes "eve")

abbrev pub versions : List (List Version)
versions =
    (version_of_two 1 (int 1) (int 10) ∷ version_of_two 2 (int 2) Null ∷ version_of_two 3 (int 3) (int 10)
    ∷ version_of_two 4 (int 4) most ∷ [])
    ∷ (version_of_two 5 (int 1) ann ∷ version_of_two 6 (int 2) bob ∷ version_of_two 7 (int 3) eve ∷ [])
    ∷ (version_of_two 8 (int 1) (int 10) ∷ version_of_two 9 (int 2) (int 5) ∷ version_of_two 10 (int 1) (int 7) ∷ version_of_two 11 (int 2) Null ∷ [])
    ∷ []

abbrev pub column : ℕ → ℕ → BoundColumn
column place at = record { place = place; column = at }

-- the columns of t where it is the only table
abbrev pub id : BoundColumn
id = column 0 0

abbrev pub v : BoundColumn
v = column 0 1

abbrev pub compares : Cmp → BoundColumn → ℕ → Cond
compares op c n = Compares op (operand.Column c) (operand.Value (int n))

abbrev pub both_conditions : Cond → Cond → Conds
both_conditions a b = more_conds a (more_conds b no_cond)

-- a query of these items, without more
abbrev pub plain_query : List ℕ → List BoundItem → Option Cond → BoundQuery
plain_query tables items filter = record { selectv = false; items = items; tables = tables; filter = filter; group = []; order = []; limit = None }

-- select name, count(*), sum(total) from customers, orders where id = customer group by name order by sum(total)
abbrev pub by_customer : Bool → Option ℕ → BoundQuery
by_customer descending limit = record {
  selectv = false;
  items = items.Column (column 0 1) ∷ items.Count ∷ items.Sum (column 1 1) ∷ [];
  tables = 1 ∷ 2 ∷ [];
  filter = Some (Compares cmp.Eq (operand.Column (column 0 0)) (operand.Column (column 1 0)));
  group = column 0 1 ∷ [];
  order = record { item = items.Sum (column 1 1); descending = descending } ∷ [];
  limit = limit;
}

-- select v, count(*) from t group by v
abbrev pub by_v : BoundQuery
by_v = record (plain_query (0 ∷ []) (items.Column v ∷ items.Count ∷ []) None) { group = v ∷ [] }

-- select id from t order by v
abbrev pub ids_by_v : Bool → BoundQuery
ids_by_v descending = record (plain_query (0 ∷ []) (items.Column id ∷ []) None) { order = record { item = items.Column v; descending = descending } ∷ [] }

-- select count(*), sum(v), min(v), max(v) from t
abbrev pub counted : Option Cond → BoundQuery
counted filter = plain_query (0 ∷ []) (items.Count ∷ items.Sum v ∷ items.Min v ∷ items.Max v ∷ []) filter

-- update t set v = v + 1
abbrev pub raise : Option Cond → BoundStatement
raise filter = UpdateOf 0 (record { column = 1; first = operand.Column v; rest = record { minus = false; operand = operand.Value (int 1) } ∷ [] } ∷ []) filter

-- update t set id = null, v = v + 1
abbrev pub raise_without_id : Option Cond → BoundStatement
raise_without_id filter = UpdateOf 0 (
    record { column = 0; first = operand.Value Null; rest = [] }
    ∷ record { column = 1; first = operand.Column v; rest = record { minus = false; operand = operand.Value (int 1) } ∷ [] } ∷ []) filter

-- what a query tells that uses nothing, without operations
abbrev pub tells : List Reply → Outcome
tells replies = Gives (record { replies = replies; uses = [] }) []

abbrev pub item : ℕ → ℕ → GenidItem
item table genid = record { table = table; genid = genid }
