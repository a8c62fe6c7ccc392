-- The lines that are told before an entry is appended, and what becomes of them.
use Rattle.std.proofs.Common.{◌≡◌, ℕ, ◌+◌, ◌-◌, List, [], ◌∷◌, ◌++◌, length, get_or, take, set, ap, arith, subst, sym, ◌∙◌, append_assoc, Some, inl, inr, true}
use Rattle.std.specs.Prelude.{swap_remove}
use Rattle.std.proofs.Math.Seq.{set-append_seam, take-append_seam, take-append-add}
use Rattle.std.proofs.lemmas.List.{length-append, get_or-append-add, map-append}
use Rattle.cdb_outside.specs.Faults.{Rose}
use Rattle.entry_spelling.specs.Fields.{IsGrown}
use Rattle.log_rows.specs.History.{IsCommit}
use Rattle.node_log.specs.Logged.{Logged, Leaves, with_entry}
use Rattle.phys_log.specs.declared.entries.Entry.{Entry}
use Rattle.phys_log.specs.declared.entries.Entry.TheVariants.{Setup, Commit}
use Rattle.report_laws.specs.Told.{lines_of}
use Rattle.report_text.specs.declared.reports.EntryLine.{EntryLine}
use Rattle.report_text.specs.declared.reports.Line.{Line}
use Rattle.report_text.specs.declared.reports.Line.TheVariants as line
use Rattle.cdb_values.specs.declared.replies.Reply.{Reply}
use Rattle.cdb_values.specs.declared.replies.Reply.TheVariants as reply
use Rattle.script_play.specs.Run.{run_of}
use Rattle.script_play.specs.Down.{down_line, HasOutcome, IsAppendedSo, IsAddedToHistory, IsFallenAt, IsKeptSo}

-- the last of three takes the place of the first
swapped : {X : Type 0} (front : List X) (a b c d : X) → swap_remove (front ++ a ∷ b ∷ c ∷ []) (length front) d ≡ front ++ c ∷ b ∷ []
swapped {X = X} front a b c d =
    ap (λ y. take (length all - 1) (set all (length front) y)) last
    ∙ ap (λ ys. take (length all - 1) ys) (set-append_seam front a (b ∷ c ∷ []) c)
    ∙ ap (λ n. take n (front ++ c ∷ b ∷ c ∷ [])) count
    ∙ take-append-add front (c ∷ b ∷ c ∷ []) 2
  where
    all : List X
    all = front ++ a ∷ b ∷ c ∷ []

    count : length all - 1 ≡ length front + 2
    count = omega (arith, length-append front (a ∷ b ∷ c ∷ []))

    last : get_or all (length all - 1) d ≡ c
    last = ap (λ n. get_or all n d) count ∙ get_or-append-add front (a ∷ b ∷ c ∷ []) 2 d

pub swapped_at : {X : Type 0} (all front : List X) (a b c d : X) → all ≡ front ++ a ∷ b ∷ c ∷ [] → swap_remove all (length all - 3) d ≡ front ++ c ∷ b ∷ []
swapped_at all front a b c d is =
    ap (λ xs. swap_remove xs (length xs - 3) d) is
    ∙ ap (λ n. swap_remove (front ++ a ∷ b ∷ c ∷ []) n d) (let n : length (front ++ a ∷ b ∷ c ∷ []) - 3 ≡ length front = omega (arith, length-append front (a ∷ b ∷ c ∷ [])) in n)
    ∙ swapped front a b c d

-- the parts of the entry of a transaction need nothing else to have a spelling
pub commit_grown : (entry : Entry) → IsCommit entry → IsGrown entry
commit_grown (Setup generation schema records) is = absurd is
commit_grown (Commit generation id begin level changes records) is = tt

-- what is left where the last line of a history is taken back
pub popped : {X : Type 0} (old mid new : List X) (x : X) (n : ℕ) → mid ≡ old ++ x ∷ [] → n ≡ length mid → new ≡ take (n - 1) mid → new ≡ old
popped old mid new x n is count rest =
    rest ∙ ap (λ k. take (k - 1) mid) count ∙ ap (λ xs. take (length xs - 1) xs) is
    ∙ ap (λ k. take k (old ++ x ∷ [])) (let k : length (old ++ x ∷ []) - 1 ≡ length old = omega (arith, length-append old (x ∷ [])) in k)
    ∙ take-append_seam old (x ∷ [])

-- an entry is in the log alone, by what the store's log did
pub fallen_at : (entry mine : Entry) (lines lines' : List Line) (entries entries' : List EntryLine) (log log' : Logged) → mine ≡ entry → entries' ≡ entries → log' ≡ record (with_entry log mine) { store = log'.store; failed = true } →
    Rose log.store.faults log'.store.faults → Leaves log'.store (log ∷ with_entry log mine ∷ []) → IsFallenAt entry (run_of lines entries log) (run_of lines' entries' log')
fallen_at entry mine lines lines' entries entries' log log' same es is rose left =
    subst (λ (e : Entry). IsFallenAt e (run_of lines entries log) (run_of lines' entries' log')) same (record { entries_are = es; log_is = is; rose = rose; left = left })

-- the line of an outcome stands behind all others
pub told_last : (name : List ℕ) (number : ℕ) (replies : List Reply) (lines mid : List Line) (told : HasOutcome replies) → mid ≡ lines ++ lines_of name number replies →
    mid ≡ (lines ++ lines_of name number told.front) ++ line.Session name number told.outcome ∷ []
told_last name number replies lines mid told is =
    is ∙ ap (λ rs. lines ++ lines_of name number rs) told.is ∙ ap (λ ls. lines ++ ls) (map-append (line.Session name number) told.front (told.outcome ∷ []))
    ∙ sym (append_assoc lines (lines_of name number told.front) (line.Session name number told.outcome ∷ []))

-- an entry is appended whatever the lines are
pub entered_so : (entry : Entry) (lines more lines' more' : List Line) (entries entries' : List EntryLine) (log log' : Logged) →
    IsAddedToHistory entry (run_of lines entries log) (run_of lines' entries' log') → IsAddedToHistory entry (run_of more entries log) (run_of more' entries' log')
entered_so entry lines more lines' more' entries entries' log log' is = record { entries_are = is.entries_are; log_is = is.log_is; calm = is.calm }

pub fallen_so : (entry : Entry) (lines more lines' more' : List Line) (entries entries' : List EntryLine) (log log' : Logged) →
    IsFallenAt entry (run_of lines entries log) (run_of lines' entries' log') → IsFallenAt entry (run_of more entries log) (run_of more' entries' log')
fallen_so entry lines more lines' more' entries entries' log log' is = record { entries_are = is.entries_are; log_is = is.log_is; rose = is.rose; left = is.left }

-- the store fails at the entry of a transaction whose outcome is the last line
pub fell_so : (entry mine : Entry) (name : List ℕ) (number : ℕ) (lines more mid last : List Line) (entries entries' : List EntryLine) (log log' : Logged) →
    more ≡ lines ++ (lines_of name number (reply.Lost 1 1 ∷ []) ++ down_line ∷ []) → mid ≡ more →
    ((front : List Line) (outcome lost down : Line) → mid ≡ front ++ outcome ∷ lost ∷ down ∷ [] → last ≡ front ++ down ∷ lost ∷ []) →
    mine ≡ entry → IsFallenAt mine (run_of more entries log) (run_of mid entries' log') →
    IsAppendedSo name number entry (run_of lines entries log) (run_of last entries' log')
fell_so entry mine name number lines more mid last entries entries' log log' told still put same fell = inr (
  (λ front outcome is.
      put front outcome (line.Session name number (reply.Lost 1 1)) down_line
      (still ∙ told ∙ ap (λ ls. ls ++ (line.Session name number (reply.Lost 1 1) ∷ down_line ∷ [])) is
      ∙ append_assoc front (outcome ∷ []) (line.Session name number (reply.Lost 1 1) ∷ down_line ∷ []))),
  fallen_so entry more lines mid last entries entries' log log' (subst (λ (e : Entry). IsFallenAt e (run_of more entries log) (run_of mid entries' log')) same fell),
)

-- what a line is told and keeps that appends an entry
pub kept_so : (name : List ℕ) (number : ℕ) (replies : List Reply) (entry : Entry) (lines mid lines' : List Line) (entries entries' : List EntryLine) (log log' : Logged) → HasOutcome replies → mid ≡ lines ++ lines_of name number replies →
    IsAppendedSo name number entry (run_of mid entries log) (run_of lines' entries' log') →
    IsKeptSo name number replies (Some entry) (run_of lines entries log) (run_of lines' entries' log')
kept_so name number replies entry lines mid lines' entries entries' log log' told is (inl (same, entered)) = inl (same ∙ is, entered_so entry mid lines lines' lines' entries entries' log log' entered)
kept_so name number replies entry lines mid lines' entries entries' log log' told is (inr (falls, fell)) = inr (
  told,
  falls (lines ++ lines_of name number told.front) (line.Session name number told.outcome) (told_last name number replies lines mid told is)
      ∙ append_assoc lines (lines_of name number told.front) (down_line ∷ lines_of name number (reply.Lost 1 1 ∷ [])),
  fallen_so entry mid lines lines' lines' entries entries' log log' fell,
)
