use Rattle.std.proofs.Common.{rules, ◌≡◌, ap, sym, ◌∙◌, nat_lt}
use Rattle.std.specs.List.{count_by}
use Rattle.sql_grammar.specs.Views.{column_in}
use Rattle.sql_bind.specs.Scope.{may_mean}
use Rattle.sql_bind.specs.Seen.{visible_in}
use Rattle.sql_bind.proofs.ListLemmas.{count_seen}
use Rattle.sql_bind.proofs.scope.is_ambiguous.Goals as goal

pub returns : goal.returns
returns c =
    let direct : c.count.result ≡ count_by (λ t. may_mean (column_in c.args.column.now) (visible_in t)) c.args.scope.now = search rules in
    ap (nat_lt 1) (direct ∙ sym (count_seen (may_mean (column_in c.args.column.now)) visible_in c.args.scope.now))
