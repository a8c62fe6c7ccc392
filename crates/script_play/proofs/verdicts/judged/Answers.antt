use Rattle.std.proofs.Common.{length, ◌≡◌, List, ap, subst, refl}
use Rattle.block_processor.specs.Decided.{Decides}
use Rattle.phys_log.specs.declared.requests.Decision.{Decision}
use Rattle.phys_log.specs.declared.entries.Entry.{Entry}
use Rattle.script_play.specs.Start.{ground_of}
use Rattle.script_play.proofs.RequestLemmas.{is_asked}
use Rattle.script_play.proofs.VerdictLemmas.{committed_at, never_again, on_both, conflict_verdict, duplicate_verdict, commit_verdict}
use Rattle.script_play.proofs.verdicts.judged.Goals as goal

pub decide-requires : goal.decide-requires
decide-requires g c = (
  is_asked g.start c.args.schema.now (length c.args.log.now) c.args.log.now c.args.session.now c.args.request c.requires.0 c.requires.1.1.0 c.requires.1.1.1.1,
  c.requires.1.0,
)

pub unreachable-requires : goal.unreachable-requires
unreachable-requires g c =
    never_again c.args.log.now c.args.session.now c.args.request _ c.requires.1.1.1.1 c.requires.1.1.1.0
    (subst (λ (d : Decision). Decides (ground_of g.start) c.args.request c.args.log.now c.args.generation d) c.in-Repeat.is c.in_ok-decide.ensures)

pub returns-in-Conflict : goal.returns-in-Conflict
returns-in-Conflict g c =
    on_both c.refused.result
    (λ v told added. conflict_verdict g.start c.args.generation c.args.schema.now (length c.args.log.now) c.args.log.now c.args.session.now c.args.request c.requires.0 c.requires.1.1.1.1 (c.the_first_broken_key_has_its_name.ensures.named, c.the_first_broken_key_has_its_name.ensures.told) v
    c.in-Conflict.position c.in-Conflict.item
    (subst (λ (d : Decision). Decides (ground_of g.start) c.args.request c.args.log.now c.args.generation d) c.in-Conflict.is c.in_ok-decide.ensures) told added)
    c.refused.ensures.told c.refused.ensures.added

pub returns-in-Duplicate : goal.returns-in-Duplicate
returns-in-Duplicate g c =
    on_both c.refused-in-Duplicate.result
    (λ v told added. duplicate_verdict g.start c.args.generation c.args.schema.now (length c.args.log.now) c.args.log.now c.args.session.now c.args.request c.requires.0 c.requires.1.1.1.1 (c.the_first_broken_key_has_its_name.ensures.named, c.the_first_broken_key_has_its_name.ensures.told) v
    c.in-Duplicate.position c.in-Duplicate.table c.in-Duplicate.key
    (subst (λ (d : Decision). Decides (ground_of g.start) c.args.request c.args.log.now c.args.generation d) c.in-Duplicate.is c.in_ok-decide.ensures) told added)
    c.refused-in-Duplicate.ensures.told c.refused-in-Duplicate.ensures.added

pub returns-in-Commit : goal.returns-in-Commit
returns-in-Commit g c =
    let now : length c.entries.result.now ≡ length c.args.log.now = ap (λ (es : List Entry). length es) c.entries.ensures in
    commit_verdict g.start c.args.generation c.args.schema.now (length c.args.log.now) c.args.log.now c.args.session.now c.args.request c.requires.0 c.requires.1.1.1.1 (c.the_first_broken_key_has_its_name.ensures.named, c.the_first_broken_key_has_its_name.ensures.told) _ c.in-Commit.entry
    (subst (λ (d : Decision). Decides (ground_of g.start) c.args.request c.args.log.now c.args.generation d) c.in-Commit.is c.in_ok-decide.ensures) (committed_at (length c.entries.result.now) (length c.args.log.now) now) refl
