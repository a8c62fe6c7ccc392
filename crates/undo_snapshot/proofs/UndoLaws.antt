-- Undoing the records of a grant, on the page of whatever log it speaks of.
use Rattle.std.proofs.Common.{◌≡◌, ℕ, ◌≤◌, List, ◌++◌, sym, ap, ◌∙◌, subst, length, take, drop, arith}
use Rattle.std.proofs.lemmas.List.{take-append-drop, length-take-le}
use Rattle.page_store.specs.Image.{Image}
use Rattle.phys_log.specs.declared.entries.LogRecord.{LogRecord}
use Rattle.phys_log.specs.declared.entries.Entry.{Entry}
use Rattle.phys_log.specs.Logs.{pages_of, page_at, IsLog}
use Rattle.phys_log.specs.Undone.{later_records, undone}
use Rattle.phys_log.proofs.LogLaws.{undone_at, page_first, page_whole}
use Rattle.log_replay.specs.declared.grants.Grant.{Grant}
use Rattle.log_replay.specs.Chains.{CanUndo}
use Rattle.log_replay.proofs.BackLemmas.{can_undo_at}
use Rattle.undo_snapshot.specs.Grants.{Speaks}

-- the records of a grant can be undone, newest first, on its page
pub can_undo_granted : (front : List Entry) (id : ℕ) (g : Grant) → Speaks front id g → CanUndo g.copy g.chain
can_undo_granted front id g s =
    subst (λ (c : List LogRecord). CanUndo g.copy c) (sym s.chain)
    (subst (λ (i : Image). CanUndo i (later_records s.log (length front) id)) (sym s.copy) (can_undo_at s.log (length front) id s.logged))

-- the first entries alone decide the page at their position
pub front_decides : (front more : List Entry) (id : ℕ) → pages_of front id ≡ page_at (front ++ more) (length front) id
front_decides front more id =
    let all : length front ≤ length front = omega arith in
    sym (page_first front more (length front) id all ∙ page_whole front id)

-- a grant undone leaves the page of the first entries
pub granted_undone : (front : List Entry) (id : ℕ) (g : Grant) → Speaks front id g → undone g.copy g.chain ≡ pages_of front id
granted_undone front id g s =
    ap (λ (i : Image). undone i g.chain) s.copy
    ∙ ap (λ (c : List LogRecord). undone (pages_of s.log id) c) s.chain
    ∙ undone_at s.log (length front) id s.logged
    ∙ ap (λ (l : List Entry). page_at l (length front) id) s.begins
    ∙ sym (front_decides front s.more id)

-- a grant of a log speaks of its first entries, up to the position
pub log_speaks : (log : List Entry) (position id : ℕ) (g : Grant) → position ≤ length log → IsLog log → g.copy ≡ pages_of log id
    → g.chain ≡ later_records log position id → Speaks (take position log) id g
log_speaks log position id g within logged copy chain =
    let same : position ≡ length (take position log) = sym (length-take-le position log within) in
    record {
      log = log;
      more = drop position log;
      logged = logged;
      begins = sym (take-append-drop position log);
      copy = copy;
      chain = chain ∙ ap (λ (p : ℕ). later_records log p id) same;
    }
