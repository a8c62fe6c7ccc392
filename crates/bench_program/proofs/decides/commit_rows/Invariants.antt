use Rattle.std.proofs.Common.{◌≡◌}
use Rattle.blkseq_table.specs.OfLogs.{identities_of}
use Rattle.log_tests.specs.Begun.{IsBegun}
use Rattle.bench_program.proofs.decides.commit_rows.Given as goal

abbrev pub invariant-rows : goal.invariant-rows
invariant-rows l = IsBegun l.schema l.log × (l.known ≡ identities_of l.log)
