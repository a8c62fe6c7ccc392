use Rattle.std.proofs.Common.{◌≡◌, ◌++◌, ◌∷◌, [], length, ◌∙◌, rules}
use Rattle.log_replay.specs.Kept.{page_in, chain_in}
use Rattle.log_replay.proofs.ChainLemmas.{unlinked_on, nothing_links}
use Rattle.log_replay.proofs.UndoLemmas.{last_after, last_held, backs_on}
use Rattle.log_replay.proofs.KeptLemmas.{roomy_on}
use Rattle.log_replay.proofs.undoes.undo_each.Goals as goal

pub undo_at-requires-clause-there : goal.undo_at-requires-clause-there
undo_at-requires-clause-there c =
    let came = c.requires in
    let is : c.back.rest.now ≡ c.in-Some.before.now ++ c.in-Some.entry.now ∷ [] = search rules in
    last_held came.base came.lsn c.back.pages c.back.rest.now c.in-Some.before.now c.in-Some.entry.now is came.numbered
    (c.back.invariant.back came.base came.lsn (record { next = came.next; is = came.is }))

pub undo_at-requires-clause-made : goal.undo_at-requires-clause-made
undo_at-requires-clause-made c =
    let came = c.requires in
    let is : c.back.rest.now ≡ c.in-Some.before.now ++ c.in-Some.entry.now ∷ [] = search rules in
    last_after came.base came.lsn (page_in c.back.pages) c.back.rest.now c.in-Some.before.now c.in-Some.entry.now is came.room
    (c.back.invariant.back came.base came.lsn (record { next = came.next; is = came.is }))

pub back-preserved : goal.back-preserved
back-preserved c =
    let is : c.back.rest.now ≡ c.in-Some.before.now ++ c.in-Some.entry.now ∷ [] = search rules in
    record {
      back = λ base lsn b. backs_on base lsn (page_in c.back.pages) (page_in c.undo_at.new.pages) c.back.rest.now
          c.in-Some.before.now c.in-Some.entry.now is (c.back.invariant.back base lsn b) c.undo_at.ensures.undone;
      links = λ base position so. unlinked_on base (chain_in c.back.pages) (chain_in c.undo_at.new.pages) position c.back.rest.now
          c.in-Some.before.now c.in-Some.entry.now is (c.back.invariant.links base position so) c.undo_at.ensures.unlinked;
      roomy = roomy_on c.args.pages.now c.back.pages c.undo_at.new.pages c.back.invariant.roomy c.undo_at.ensures.roomy;
    }

pub returns-clause-unlinked : goal.returns-clause-unlinked
returns-clause-unlinked c = λ base position so n.
    let none : length c.back.rest.now ≡ 0 = search rules in
    c.back.invariant.links base position so n ∙ nothing_links base position c.back.rest.now none n
