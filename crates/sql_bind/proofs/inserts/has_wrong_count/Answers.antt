use Rattle.std.proofs.Common.{rules, tests, ◌≡◌, ◌==◌, length, not, sym, ◌∙◌}
use Rattle.std.specs.List.{list_any}
use Rattle.std.proofs.lemmas.Iterator.{YieldsList-from_slice}
use Rattle.std.proofs.lemmas.Iterator.Search.{any_from_yields_List}
use Rattle.sql_grammar.specs.Views.{tuple_in}
use Rattle.sql_bind.proofs.ListLemmas.{any_seen}
use Rattle.sql_bind.proofs.inserts.has_wrong_count.Goals as goal

pub returns : goal.returns
returns c =
    let direct : c.any.result ≡ list_any (λ t. not (length (tuple_in t) == c.args.width)) c.args.tuples.now =
    any_from_yields_List (λ t. not (length (tuple_in t) == c.args.width)) _ _ c.any.result c.any.ensures.ran (YieldsList-from_slice c.args.tuples.now cc) (λ x b q k. search (rules, tests)) in
    direct ∙ sym (any_seen (λ t. not (length t == c.args.width)) tuple_in c.args.tuples.now)
