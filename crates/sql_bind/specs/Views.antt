-- What a bound statement of the code says, without where it lies in memory.
use Rattle.std.specs.Prelude.{Option, option_map}
use Rattle.sql_bind.specs.declared.types.Condition.{Condition, fold-Condition}
use Rattle.sql_bind.specs.declared.types.Condition.TheOpen.{Condition-F}
use Rattle.sql_bind.specs.declared.types.Bound.{Bound}
use Rattle.sql_bind.specs.declared.types.Bound.TheVariants as bounds
use Rattle.sql_bind.specs.declared.types.BoundSelect.{BoundSelect}
use Rattle.sql_bind.specs.Bound.{Cond, AnyOf, AllOf, NotOf, Grouped, Compares, TestsNull, conds, BoundQuery, BoundStatement, BeginIt, CommitIt, RollbackIt, SetIt, InsertInto, UpdateOf, DeleteFrom, SelectOf}

abbrev pub level : Condition-F Cond → Cond
level (Condition-F.Or s) = AnyOf (conds s.items.items)
level (Condition-F.And s) = AllOf (conds s.items.items)
level (Condition-F.Not b) = NotOf b.value
level (Condition-F.Group b) = Grouped b.value
level (Condition-F.Compare op left right) = Compares op left right
level (Condition-F.IsNull side negated) = TestsNull side negated

unfoldable pub cond_in : Condition → Cond
cond_in = fold-Condition Cond level

abbrev pub bound_filter_in : Option Condition → Option Cond
bound_filter_in f = option_map cond_in f

abbrev pub bound_query_in : BoundSelect → BoundQuery
bound_query_in s = record {
  selectv = s.selectv;
  items = s.items;
  tables = s.tables;
  filter = bound_filter_in s.filter;
  group = s.group;
  order = s.order;
  limit = s.limit;
}

abbrev pub bound_in : Bound → BoundStatement
bound_in bounds.Begin = BeginIt
bound_in bounds.Commit = CommitIt
bound_in bounds.Rollback = RollbackIt
bound_in (bounds.SetLevel l) = SetIt l
bound_in (bounds.Insert table rows) = InsertInto table rows
bound_in (bounds.Update table assigns filter) = UpdateOf table assigns (bound_filter_in filter)
bound_in (bounds.Delete table filter) = DeleteFrom table (bound_filter_in filter)
bound_in (bounds.Select s) = SelectOf (bound_query_in s)
