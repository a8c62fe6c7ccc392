-- Statements in a schema of two tables, `t (id int not null, v text)` and `u (id int)`, as they are written and as they
-- are bound.
use Rattle.std.specs.Prelude.{ℕ, pos, List, [], ◌∷◌, true, false, codes, Some, None}
use Rattle.cdb_values.specs.declared.tables.ColumnType.TheVariants as kinds
use Rattle.cdb_values.specs.declared.tables.TableDef.{TableDef}
use Rattle.cdb_values.specs.declared.values.Value.TheVariants as values
use Rattle.sql_grammar.specs.declared.types.Comparison.TheVariants as signs
use Rattle.sql_grammar.specs.Trees.{Name, NullValue, IntValue, TextValue, Column, Side, OfLiteral, OfColumn, OfItem, CountAll, Source, Query, Statement}
use Rattle.sql_grammar.specs.Trees as written
use Rattle.sql_bind.specs.declared.types.BoundColumn.{BoundColumn}
use Rattle.sql_bind.specs.declared.types.BoundItem.TheVariants as items
use Rattle.sql_bind.specs.declared.types.BoundOperand.TheVariants as operands
use Rattle.sql_bind.specs.declared.types.Cmp.TheVariants as cmps
use Rattle.sql_bind.specs.Bound.{BoundStatement, Compares, InsertInto, SelectOf}

abbrev pub tables : List TableDef
tables =
    record { name = codes "t"; columns = record { name = codes "id"; kind = kinds.Integer; nullable = false } ∷ record { name = codes "v"; kind = kinds.Text; nullable = true } ∷ []; keys = [] }
    ∷ record { name = codes "u"; columns = record { name = codes "id"; kind = kinds.Integer; nullable = true } ∷ []; keys = [] }
    ∷ []

abbrev pub plain : Name → Column
plain name = record { qualifier = None; name = name }

abbrev pub source : Name → Source
source name = record { table = name; alias = None }

abbrev pub bound : ℕ → ℕ → BoundColumn
bound place column = record { place = place; column = column }

-- select v, x.id from t, u x where v = null
abbrev pub joined : Statement
joined = written.SelectOf (record {
  selectv = false;
  items = Some (OfItem (plain (codes "v")) ∷ OfItem (record { qualifier = Some (codes "x"); name = codes "id" }) ∷ []);
  tables = source (codes "t") ∷ record { table = codes "u"; alias = Some (codes "x") } ∷ [];
  filter = Some (written.Compares signs.Eq (OfColumn (plain (codes "v"))) (OfLiteral NullValue));
  group = [];
  order = [];
  limit = None;
})

abbrev pub joined_bound : BoundStatement
joined_bound = SelectOf (record {
  selectv = false;
  items = items.Column (bound 0 1) ∷ items.Column (bound 1 0) ∷ [];
  tables = 0 ∷ 1 ∷ [];
  filter = Some (Compares cmps.Eq (operands.Column (bound 0 1)) (operands.Value values.Null));
  group = [];
  order = [];
  limit = None;
})

-- select id from t, u where v = 1
abbrev pub two_ids : Statement
two_ids = written.SelectOf (record {
  selectv = false;
  items = Some (OfItem (plain (codes "id")) ∷ []);
  tables = source (codes "t") ∷ source (codes "u") ∷ [];
  filter = Some (written.Compares signs.Eq (OfColumn (plain (codes "v"))) (OfLiteral (IntValue (pos 1))));
  group = [];
  order = [];
  limit = None;
})

-- select id, count(*) from t
abbrev pub outside_the_group : Statement
outside_the_group = written.SelectOf (record {
  selectv = false;
  items = Some (OfItem (plain (codes "id")) ∷ CountAll ∷ []);
  tables = source (codes "t") ∷ [];
  filter = None;
  group = [];
  order = [];
  limit = None;
})

-- insert into t (v, id) values ('a', 1)
abbrev pub in_another_order : Statement
in_another_order = written.InsertInto (codes "t") (Some (codes "v" ∷ codes "id" ∷ [])) ((TextValue (codes "a") ∷ IntValue (pos 1) ∷ []) ∷ [])

abbrev pub in_order : BoundStatement
in_order = InsertInto 0 ((values.Int (pos 1) ∷ values.Text (codes "a") ∷ []) ∷ [])

-- insert into t values ('a', 'b', 'c')
abbrev pub of_two_errors : Statement
of_two_errors = written.InsertInto (codes "t") None ((TextValue (codes "a") ∷ TextValue (codes "b") ∷ TextValue (codes "c") ∷ []) ∷ [])

-- update t set v = null + null
abbrev pub sum_of_nulls : Statement
sum_of_nulls = written.UpdateOf (codes "t") (record { column = codes "v"; first = OfLiteral NullValue; rest = record { minus = false; side = OfLiteral NullValue } ∷ [] } ∷ []) None
