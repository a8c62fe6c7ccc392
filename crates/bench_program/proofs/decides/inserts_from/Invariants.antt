use Rattle.std.specs.List.{AllByRecursion}
use Rattle.log_tests.specs.Begun.{IsInsert}
use Rattle.bench_program.proofs.decides.inserts_from.Given as goal

abbrev pub invariant-rows : goal.invariant-rows
invariant-rows l = AllByRecursion IsInsert l.ops
