use Rattle.std.proofs.Common.{rules, ◌≡◌, length, arith}
use Rattle.table_state_tests.proofs.PastLemmas.{blank_beyond}
use Rattle.table_state_tests.proofs.found.number_pages.Goals as goal

pub returns-clause-others : goal.returns-clause-others
returns-clause-others c n none =
    let count : c.len.result ≡ length c.args.pages.items = search rules in
    blank_beyond c.args.pages.items c.in_ok-edited.edited.items (λ k l. c.in_ok-edited.ensures k (omega (arith, count))) n none
