use Rattle.std.proofs.Common.{◌≡◌, ℕ, ◌+◌, List, ◌++◌, ◌∷◌, [], length, sym, subst, ◌∙◌, rules}
use Rattle.phys_log.specs.declared.entries.LogRecord.{LogRecord}
use Rattle.phys_log.specs.Logs.{replayed, records_in}
use Rattle.log_replay.specs.Chains.{links_on, chain_from}
use Rattle.log_replay.specs.Kept.{page_in, chain_in, Came}
use Rattle.log_replay.proofs.ChainLemmas.{entry_links, nothing_chain}
use Rattle.log_replay.proofs.UndoLemmas.{entry_backs, entry_before, entry_came}
use Rattle.log_replay.proofs.WriteLemmas.{Backs}
use Rattle.log_replay.proofs.KeptLemmas.{roomy_on}
use Rattle.log_replay.proofs.undoes.undo_entries.Goals as goal

pub undo_each-requires : goal.undo_each-requires
undo_each-requires c =
    let first = c.requires in
    let pages = page_in c.back.pages in
    let is : c.back.rest.now ≡ c.in-Some.before.now ++ c.in-Some.entry.now ∷ [] = search rules in
    let b = c.back.invariant.back first.base first.lsn (record { next = first.next; is = first.is }) in
    let came : Came pages (records_in c.back.rest.now) =
    record { base = first.base; lsn = first.lsn; numbered = first.numbered; room = first.room; next = b.next; is = b.is } in
    subst (λ (l : List LogRecord). Came pages l) (sym c.records.ensures)
    (entry_came pages c.back.rest.now c.in-Some.before.now c.in-Some.entry.now is came)

pub back-preserved : goal.back-preserved
back-preserved c =
    let pages = page_in c.back.pages in
    let after = page_in c.undo_each.new.pages in
    let before = c.in-Some.before.now in
    let is : c.back.rest.now ≡ before ++ c.in-Some.entry.now ∷ [] = search rules in
    record {
      back = λ base lsn b.
          let was = c.back.invariant.back base lsn b in
          let below = replayed base (records_in before) in
          let from = lsn + length (records_in before) in
          let e : Backs below from pages c.records.result.now =
          subst (λ (l : List LogRecord). Backs below from pages l) (sym c.records.ensures)
          (entry_backs base lsn pages c.back.rest.now before c.in-Some.entry.now is was) in
          entry_before base lsn pages after c.back.rest.now before c.in-Some.entry.now is was
          (c.undo_each.ensures.undone below from e.next e.is);
      links = λ base position so.
          let P : List LogRecord → Type 0 = λ l. (n : ℕ) → chain_in c.back.pages n ≡ (base n ++ chain_from n position before) ++ links_on n (position + length before) l in
          c.undo_each.ensures.unlinked (λ n. base n ++ chain_from n position before) (position + length before)
          (subst P (sym c.records.ensures) (entry_links base (chain_in c.back.pages) position c.back.rest.now before c.in-Some.entry.now is (c.back.invariant.links base position so)));
      roomy = roomy_on c.args.pages.now c.back.pages c.undo_each.new.pages c.back.invariant.roomy c.undo_each.ensures.roomy;
    }

pub returns-clause-unlinked : goal.returns-clause-unlinked
returns-clause-unlinked c = λ base position so n.
    let none : length c.back.rest.now ≡ 0 = search rules in
    c.back.invariant.links base position so n ∙ nothing_chain base position c.back.rest.now none n
