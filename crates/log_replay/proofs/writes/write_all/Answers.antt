use Rattle.std.proofs.Common.{◌≡◌, ℕ, ◌+◌, ◌<◌, ◌≤◌, ◌^◌, List, ◌++◌, ◌∷◌, [], take, drop, length, sym, ap, ◌∙◌, subst, arith}
use Rattle.std.proofs.lemmas.List.{take_more, take_all, length-take-le, take-append-drop}
use Rattle.page_store.specs.Image.{Image}
use Rattle.phys_log.specs.declared.entries.LogRecord.{LogRecord}
use Rattle.phys_log.specs.Logs.{IsNext, AreNext}
use Rattle.phys_log.proofs.ReplayLaws.{next_front}
use Rattle.log_replay.specs.Chains.{links_on}
use Rattle.log_replay.specs.Kept.{page_in, chain_in}
use Rattle.log_replay.proofs.ChainLemmas.{linked_on}
use Rattle.log_replay.proofs.WriteLemmas.{Backs, backs_more, backs_next, backs_same, backs_came, whether_back}
use Rattle.log_replay.proofs.writes.write_all.Goals as goal
use Rattle.log_replay.proofs.KeptLemmas.{roomy_on}

pub loop-i-preserved : goal.loop-i-preserved
loop-i-preserved c =
    let records = c.args.records.now in
    let i = c.loop-i.i in
    let r = c.index-records-i.result in
    let base = page_in c.args.pages.now in
    let links = chain_in c.args.pages.now in
    let within : i < length records = c.loop-i-test.true in
    let more : take (i + 1) records ≡ take i records ++ r ∷ [] =
    take_more records i r within ∙ ap (λ (x : LogRecord). take i records ++ x ∷ []) (sym c.index-records-i.is) in
    let long : length (take i records) ≡ i = length-take-le i records (omega arith) in
    let number : c.loop-i.lsn ≡ c.args.from + i = c.loop-i.invariant.number in
    let at : c.loop-i.lsn ≡ c.args.from + length (take i records) = omega arith in
    record {
      number = omega arith;
      made = subst (λ (l : List LogRecord). Backs base c.args.from (page_in c.write_next.new.pages) l) (sym more)
          (backs_more base c.args.from c.loop-i.lsn (page_in c.loop-i.pages) (page_in c.write_next.new.pages) (take i records) r
          c.loop-i.invariant.made at c.in-Ok.ensures.next c.in-Ok.ensures.made);
      linked = λ n. linked_on links (chain_in c.loop-i.pages) (chain_in c.write_next.new.pages) c.args.position
          (take i records) r c.loop-i.invariant.linked c.in-Ok.ensures.linked n
          ∙ ap (λ (l : List LogRecord). links n ++ links_on n c.args.position l) (sym more);
      low = λ h. (let below : c.loop-i.lsn < 2 ^ 62 = c.in-Ok.ensures.low in omega arith);
      roomy = roomy_on c.args.pages.now c.loop-i.pages c.write_next.new.pages c.loop-i.invariant.roomy c.write_next.ensures.roomy;
    }

pub undo_each-requires : goal.undo_each-requires
undo_each-requires c =
    let records = c.args.records.now in
    let base = page_in c.args.pages.now in
    backs_came base c.args.from (page_in c.write_next.new.pages) (take c.loop-i.i records) c.requires.numbered c.requires.room
    (backs_same base c.args.from (page_in c.loop-i.pages) (page_in c.write_next.new.pages) (take c.loop-i.i records)
    c.loop-i.invariant.made c.in-Err.ensures.same_pages)

pub returns-in-Err-clause-same_pages : goal.returns-in-Err-clause-same_pages
returns-in-Err-clause-same_pages c = λ n.
    let records = c.args.records.now in
    let base = page_in c.args.pages.now in
    let b = backs_same base c.args.from (page_in c.loop-i.pages) (page_in c.write_next.new.pages) (take c.loop-i.i records)
    c.loop-i.invariant.made c.in-Err.ensures.same_pages in
    ap (λ (f : ℕ → Image). f n) (c.undo_each.ensures.undone base c.args.from b.next b.is)

pub returns-in-Err-clause-same_chains : goal.returns-in-Err-clause-same_chains
returns-in-Err-clause-same_chains c =
    c.undo_each.ensures.unlinked (chain_in c.args.pages.now) c.args.position (λ n. c.in-Err.ensures.same_chains n ∙ c.loop-i.invariant.linked n)

pub returns-in-Err-clause-next : goal.returns-in-Err-clause-next
returns-in-Err-clause-next c =
    let records = c.args.records.now in
    let i = c.loop-i.i in
    let r = c.index-records-i.result in
    let base = page_in c.args.pages.now in
    let within : i < length records = c.loop-i-test.true in
    let more : take (i + 1) records ≡ take i records ++ r ∷ [] =
    take_more records i r within ∙ ap (λ (x : LogRecord). take i records ++ x ∷ []) (sym c.index-records-i.is) in
    let long : length (take i records) ≡ i = length-take-le i records (omega arith) in
    let number : c.loop-i.lsn ≡ c.args.from + i = c.loop-i.invariant.number in
    let at : c.loop-i.lsn ≡ c.args.from + length (take i records) = omega arith in
    let one : AreNext base c.args.from records → IsNext (page_in c.loop-i.pages) c.loop-i.lsn r = λ all.
    backs_next base c.args.from c.loop-i.lsn (page_in c.loop-i.pages) (take i records) [] r c.loop-i.invariant.made at
    (subst (λ (l : List LogRecord). AreNext base c.args.from l) more
    (next_front base c.args.from (take (i + 1) records) (drop (i + 1) records)
    (subst (λ (l : List LogRecord). AreNext base c.args.from l) (sym (take-append-drop (i + 1) records)) all))) in
    whether_back (Unit {0}) (Unit {0}) c.in-Err.fault (IsNext (page_in c.loop-i.pages) c.loop-i.lsn r) (AreNext base c.args.from records) one c.in-Err.ensures.next

pub returns : goal.returns
returns c =
    let records = c.args.records.now in
    let base = page_in c.args.pages.now in
    let past : length records ≤ c.loop-i.i = c.loop-i-test.false in
    let whole : take c.loop-i.i records ≡ records = take_all c.loop-i.i records past in
    let b : Backs base c.args.from (page_in c.loop-i.pages) records =
    subst (λ (l : List LogRecord). Backs base c.args.from (page_in c.loop-i.pages) l) whole c.loop-i.invariant.made in
    record {
      made = λ n. ap (λ (f : ℕ → Image). f n) b.is;
      linked = λ n. c.loop-i.invariant.linked n ∙ ap (λ (l : List LogRecord). chain_in c.args.pages.now n ++ links_on n c.args.position l) whole;
      next = b.next;
      same_pages = tt;
      same_chains = tt;
      low = λ h. (let l : c.loop-i.lsn ≤ 2 ^ 62 = c.loop-i.invariant.low h in let number : c.loop-i.lsn ≡ c.args.from + c.loop-i.i = c.loop-i.invariant.number in omega arith);
      roomy = c.loop-i.invariant.roomy;
    }

pub returns-in-Err-clause-roomy : goal.returns-in-Err-clause-roomy
returns-in-Err-clause-roomy c =
    roomy_on c.args.pages.now c.write_next.new.pages c.undo_each.new.pages
    (roomy_on c.args.pages.now c.loop-i.pages c.write_next.new.pages c.loop-i.invariant.roomy c.write_next.ensures.roomy) c.undo_each.ensures.roomy
