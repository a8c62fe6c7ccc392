use Rattle.std.proofs.Common.{◌≡◌, ℕ, List, ◌++◌, ◌∷◌, length, sym, ap, ◌∙◌, rules}
use Rattle.phys_log.specs.declared.entries.LogRecord.{LogRecord}
use Rattle.page_store.specs.Image.{Image}
use Rattle.phys_log.specs.Logs.{replayed}
use Rattle.log_replay.specs.Chains.{links_on}
use Rattle.log_replay.specs.Kept.{page_in, chain_in, room_in}
use Rattle.log_replay.proofs.ChainLemmas.{nothing_links}
use Rattle.log_replay.proofs.KeptLemmas.{roomy_on}
use Rattle.log_replay.proofs.TailLemmas.{made_first, made_behind, whole_behind, links_behind, room_first, none_left}
use Rattle.log_replay.proofs.tails.redo_each.Goals as goal

pub redo_at-requires-clause-fits : goal.redo_at-requires-clause-fits
redo_at-requires-clause-fits c =
    let is : c.again.rest.now ≡ c.in-Some.entry.now ∷ c.in-Some.behind.now = search rules in
    (made_first (page_in c.again.pages) c.again.rest.now c.in-Some.behind.now c.in-Some.entry.now is c.again.invariant.next).fits

pub redo_at-requires-clause-room : goal.redo_at-requires-clause-room
redo_at-requires-clause-room c =
    let is : c.again.rest.now ≡ c.in-Some.entry.now ∷ c.in-Some.behind.now = search rules in
    let id = c.in-Some.entry.now.page in
    room_first (chain_in c.again.pages) (λ n. chain_in c.args.pages.now n ++ links_on n c.args.position c.args.records.now) c.args.position
    c.again.rest.now c.in-Some.behind.now c.in-Some.entry.now (room_in c.again.pages id) (room_in c.args.pages.now id) is
    c.again.invariant.links (c.requires.room id) (c.again.invariant.roomy id)

pub again-preserved : goal.again-preserved
again-preserved c =
    let is : c.again.rest.now ≡ c.in-Some.entry.now ∷ c.in-Some.behind.now = search rules in
    let behind = c.in-Some.behind.now in
    let r = c.in-Some.entry.now in
    let made = c.redo_at.ensures.made in
    record {
      next = made_behind (page_in c.again.pages) (page_in c.redo_at.new.pages) c.again.rest.now behind r is c.again.invariant.next made;
      whole = whole_behind (page_in c.again.pages) (page_in c.redo_at.new.pages) c.again.rest.now behind r is made ∙ c.again.invariant.whole;
      links = λ n. links_behind (chain_in c.again.pages) (chain_in c.redo_at.new.pages) c.args.position c.again.rest.now behind r is c.redo_at.ensures.linked n
          ∙ c.again.invariant.links n;
      roomy = roomy_on c.args.pages.now c.again.pages c.redo_at.new.pages c.again.invariant.roomy c.redo_at.ensures.roomy;
    }

pub returns-clause-made : goal.returns-clause-made
returns-clause-made c = λ n.
    let none : length c.again.rest.now ≡ 0 = search rules in
    ap (λ (l : List LogRecord). replayed (page_in c.again.pages) l n) (sym (none_left c.again.rest.now none)) ∙ ap (λ (f : ℕ → Image). f n) c.again.invariant.whole

pub returns-clause-linked : goal.returns-clause-linked
returns-clause-linked c = λ n.
    let none : length c.again.rest.now ≡ 0 = search rules in
    sym (nothing_links (chain_in c.again.pages) c.args.position c.again.rest.now none n) ∙ c.again.invariant.links n
