use Rattle.std.proofs.Common.{◌≡◌, ◌<◌, List, ◌++◌, ◌∷◌, [], option_to_list, sym, ap, subst, ◌∙◌, rules}
use Rattle.phys_log.specs.declared.entries.LogRecord.{LogRecord}
use Rattle.phys_log.specs.Undone.{undone}
use Rattle.log_replay.specs.Chains.{granted, record_by}
use Rattle.log_replay.specs.Answers.{Rises}
use Rattle.log_replay.proofs.ChainLemmas.{rises_front}
use Rattle.log_replay.proofs.GrantLemmas.{none_granted}
use Rattle.log_replay.proofs.BackLemmas.{last_can, more_can, more_undone}
use Rattle.log_replay.proofs.grants.undo_later.Goals as goal

pub undo_linked-requires : goal.undo_linked-requires
undo_linked-requires c =
    let is : c.back.rest.now ≡ c.in-Some.before.now ++ c.in-Some.link.now ∷ [] = search rules in
    last_can c.args.entries.now c.args.position c.back.page c.back.rest.now c.in-Some.before.now c.in-Some.link.now is
    c.if-link-position.false c.back.invariant.can

pub back-preserved : goal.back-preserved
back-preserved c =
    let entries = c.args.entries.now in
    let position = c.args.position in
    let before = c.in-Some.before.now in
    let link = c.in-Some.link.now in
    let is : c.back.rest.now ≡ before ++ link ∷ [] = search rules in
    let above : position < link.position = c.if-link-position.false in
    let made : c.undo_linked.new.page ≡ undone c.back.page (option_to_list (record_by entries link)) = c.undo_linked.ensures in
    record {
      can = more_can entries position c.back.page c.undo_linked.new.page c.back.rest.now before link is above made c.back.invariant.can;
      left = more_undone entries position c.back.page c.undo_linked.new.page c.back.rest.now before link is above made ∙ c.back.invariant.left;
      rises = rises_front before link (subst Rises is c.back.invariant.rises);
    }

pub returns-then-link-position : goal.returns-then-link-position
returns-then-link-position c =
    let entries = c.args.entries.now in
    let position = c.args.position in
    let is : c.back.rest.now ≡ c.in-Some.before.now ++ c.in-Some.link.now ∷ [] = search rules in
    let none : granted entries position c.back.rest.now ≡ [] =
    none_granted entries position c.back.rest.now c.in-Some.before.now c.in-Some.link.now is c.if-link-position.true c.back.invariant.rises in
    sym (ap (λ (l : List LogRecord). undone c.back.page l) none) ∙ c.back.invariant.left
