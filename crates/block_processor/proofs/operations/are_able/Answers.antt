-- The entries behind the begin are commits, the integers are of 64 bits, and there is room: that is all that is asked.
use Rattle.std.proofs.Common.{◌≡◌, ℕ, ◌+◌, ◌<◌, ◌^◌, List, length, drop, sym, ◌∙◌, subst}
use Rattle.std.specs.List.{AllByRecursion}
use Rattle.cdb_values.specs.declared.rows.RowOp.{RowOp}
use Rattle.key_code.specs.Codes.{IsInRange}
use Rattle.phys_log.specs.declared.entries.Entry.{Entry}
use Rattle.log_rows.specs.History.{rows_over, IsCommit}
use Rattle.block_processor.specs.Asked.{Writes}
use Rattle.block_processor.proofs.AbleLemmas.{able, commits_all}
use Rattle.block_processor.proofs.operations.are_able.Goals as goal

pub returns-then-are_commits : goal.returns-then-are_commits
returns-then-are_commits g c = λ yes.
    let request = c.args.request.now in
    let log = c.args.log.now in
    let commits : AllByRecursion IsCommit (drop request.begin log) =
    subst (λ (l : List Entry). AllByRecursion IsCommit (drop request.begin l)) c.entries.ensures
    (commits_all (drop request.begin c.entries.result.now) (sym c.are_commits.ensures ∙ c.if-are_commits.true)) in
    let next : c.next_genid.result ≡ (rows_over g.footing log).next = c.next_genid.ensures ∙ c.requires.0.stands.genid in
    let room : (rows_over g.footing log).next + length request.ops < 2 ^ 62 =
    subst (λ (n : ℕ). n + length request.ops < 2 ^ 62) next
    (subst (λ (l : List RowOp). c.next_genid.result + length l < 2 ^ 62) c.as_slice-then-are_commits.ensures (c.has_room.ensures yes)) in
    able g.footing request log c.requires.0 c.requires.1 commits
    (subst (λ (l : List RowOp). AllByRecursion (Writes IsInRange) l) c.as_slice.ensures c.read_ops.ensures) room
