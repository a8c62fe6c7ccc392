-- What the tables of a statement are in the code.
use Rattle.std.specs.Prelude.{ℕ, List, Bool, Option, option_map}
use Rattle.std.specs.List.{list_any}
use denote.Ref.{Bor}
use Rattle.sql_grammar.specs.declared.seq.Seq.{Seq}
use Rattle.sql_grammar.specs.declared.types.SelectItem.{SelectItem}
use Rattle.sql_grammar.specs.Trees.{Name, Column, Cond, Item}
use Rattle.sql_grammar.specs.Views.{name_in, names_in, item_in}
use Rattle.sql_bind.specs.declared.scope.VisibleTable.{VisibleTable}
use Rattle.sql_bind.specs.declared.columns.Doubt.{Doubt}
use Rattle.sql_bind.specs.declared.columns.Doubt.TheVariants as doubts
use Rattle.sql_bind.specs.Scope.{Visible, is_unknown, is_ambiguous}
use Rattle.sql_bind.specs.Faults.{cond_columns}

abbrev pub visible_in : VisibleTable → Visible
visible_in v = record { table = v.place; name = v.name.now; columns = v.table.now.columns }

abbrev pub qualifier_in : Option (List ℕ) → Option Name
qualifier_in q = option_map name_in q

-- what the tests of columns ask for
abbrev pub doubted : List Visible → Doubt → Column → Bool
doubted scope doubts.Unknown column = is_unknown scope column
doubted scope doubts.Ambiguous column = is_ambiguous scope column

-- whether one of the columns of a condition is such
abbrev pub doubts_cond : List Visible → Doubt → Cond → Bool
doubts_cond scope doubt cond = list_any (doubted scope doubt) (cond_columns cond)

-- the columns that an INSERT lists
abbrev pub names_in_list : Option (Seq (List ℕ)) → Option (List Name)
names_in_list columns = option_map names_in columns

-- an item that is borrowed
abbrev pub item_at : Bor SelectItem → Item
item_at item = item_in item.now
