use Rattle.std.proofs.Common.{◌≡◌, ◌<◌, List, ◌++◌, ◌∷◌, [], length, append_assoc, option_to_list, sym, ap, subst, ◌∙◌, rules}
use Rattle.phys_log.specs.declared.entries.LogRecord.{LogRecord}
use Rattle.log_replay.specs.Chains.{granted, record_by}
use Rattle.log_replay.specs.Answers.{Rises}
use Rattle.log_replay.proofs.ChainLemmas.{rises_front}
use Rattle.log_replay.proofs.GrantLemmas.{last_granted, none_granted, nothing_granted, all_given}
use Rattle.log_replay.proofs.grants.later.Goals as goal
use Rattle.log_replay.proofs.grants.later.Goals.{in-Some+then-link-position, in_default}

pub back-preserved : goal.back-preserved
back-preserved c =
    let entries = c.args.entries.now in
    let position = c.args.position in
    let before = c.in-Some.before.now in
    let link = c.in-Some.link.now in
    let is : c.back.rest.now ≡ before ++ link ∷ [] = search rules in
    let above : position < link.position = c.if-link-position.false in
    let added : c.add_linked.new.records ≡ c.back.records ++ option_to_list (record_by entries link) = search rules in
    record {
      whole = ap (λ (l : List LogRecord). l ++ granted entries position before) added
          ∙ append_assoc c.back.records (option_to_list (record_by entries link)) (granted entries position before)
          ∙ ap (λ (l : List LogRecord). c.back.records ++ l) (sym (last_granted entries position c.back.rest.now before link is above))
          ∙ c.back.invariant.whole;
      rises = rises_front before link (subst Rises is c.back.invariant.rises);
    }

pub returns : goal.returns
returns c =
    let entries = c.args.entries.now in
    let position = c.args.position in
    elim c.match-split_last.branch [
      | in-Some+then-link-position w ↦
          let is : c.back.rest.now ≡ w.in-Some.before.now ++ w.in-Some.link.now ∷ [] = search rules in
          all_given c.back.records (granted entries position c.back.rest.now) (granted entries position c.args.links.now)
          (none_granted entries position c.back.rest.now w.in-Some.before.now w.in-Some.link.now is w.if-link-position.true c.back.invariant.rises) c.back.invariant.whole
      | in_default w ↦
          let none : length c.back.rest.now ≡ 0 = search rules in
          all_given c.back.records (granted entries position c.back.rest.now) (granted entries position c.args.links.now)
          (nothing_granted entries position c.back.rest.now none) c.back.invariant.whole
    ]
