use Rattle.std.proofs.Common.{◌≡◌, map, drop}
use Rattle.std.specs.List.{list_any}
use Rattle.sql_grammar.specs.Views.{condition_in}
use Rattle.sql_bind.specs.Seen.{visible_in, doubts_cond}
use Rattle.sql_bind.proofs.columns.+condition_has_doubt.Given as goal

abbrev pub invariant-parts : goal.invariant-parts
invariant-parts l = list_any (doubts_cond (map visible_in l.scope) l.doubt) (map condition_in (drop l.part-index l.part-items)) ≡ list_any (doubts_cond (map visible_in l.scope) l.doubt) (map condition_in l.part-items)

abbrev pub invariant-parts-2 : goal.invariant-parts-2
invariant-parts-2 l = list_any (doubts_cond (map visible_in l.scope) l.doubt) (map condition_in (drop l.part-index l.part-items)) ≡ list_any (doubts_cond (map visible_in l.scope) l.doubt) (map condition_in l.part-items)
