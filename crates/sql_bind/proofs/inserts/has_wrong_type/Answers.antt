use Rattle.std.proofs.Common.{rules, tests, ◌≡◌, sym, ◌∙◌}
use Rattle.std.specs.List.{list_any}
use Rattle.std.proofs.lemmas.Iterator.{YieldsList-from_slice}
use Rattle.std.proofs.lemmas.Iterator.Search.{any_from_yields_List}
use Rattle.sql_grammar.specs.Views.{tuple_in}
use Rattle.sql_bind.specs.Faults.{tuple_differs}
use Rattle.sql_bind.proofs.ListLemmas.{any_seen}
use Rattle.sql_bind.proofs.inserts.has_wrong_type.Goals as goal

pub returns : goal.returns
returns c =
    let direct : c.any.result ≡ list_any (λ x. tuple_differs c.args.kinds.now (tuple_in x)) c.args.tuples.now =
    any_from_yields_List (λ x. tuple_differs c.args.kinds.now (tuple_in x)) _ _ c.any.result c.any.ensures.ran (YieldsList-from_slice c.args.tuples.now cc) (λ x b q k. search (rules, tests)) in
    direct ∙ sym (any_seen (tuple_differs c.args.kinds.now) tuple_in c.args.tuples.now)
