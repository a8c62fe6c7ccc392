-- A session stands before all its lines at first, and one that stands behind them all has done its work.
use Rattle.std.proofs.Common.{ℕ, ◌≡◌, List, [], ◌∷◌, refl, sym, ap, ◌∙◌}
use mathlib.Core.Logic.{inl, inr}
use Rattle.cdb_values.specs.declared.items.GenidItem.{GenidItem}
use Rattle.cdb_values.specs.declared.items.Interval.{Interval}
use Rattle.cdb_values.specs.declared.rows.Level.{Level}
use Rattle.cdb_values.specs.declared.rows.Level.TheVariants.{Snapshot}
use Rattle.cdb_values.specs.declared.rows.RowOp.{RowOp}
use Rattle.cluster_answers.proofs.BeginLaws.{cons_parts}
use Rattle.cluster_answers.proofs.ToldLaws.{does_eq}
use Rattle.cluster_consensus.specs.Facts.{World}
use Rattle.cluster_events.specs.Guards.{IsDone}
use Rattle.cluster_events.specs.Parts.{part}
use Rattle.cluster_events.specs.Settings.{Setting, run_alone}
use Rattle.cluster_requests.specs.KeptEntries.{KeptEntry}
use Rattle.cluster_steps.specs.Named.{rows_begun, steps, world}
use Rattle.cluster_steps.specs.declared.events.Event.{Event}
use Rattle.report_laws.specs.Work.{Does, Nowhere, Transaction, WorkItem, said, transaction}
use Rattle.session_turns.specs.Doing.{Doing}
use Rattle.session_turns.specs.Doing as doing
use Rattle.session_work.proofs.OutcomeLaws.{whole}
use Rattle.session_standing.specs.Standing.{IsOpenAt, IsStanding, IsStandingBy}

pub first_stands : (G : Setting) (w : World KeptEntry) (s : ℕ) → IsStanding G w (part G s []) (record { number = 0; level = Snapshot; doing = doing.No }) (said (G.names s) G.script.body)
first_stands G w s = record { texts = []; stands = record { left = refl; opened = refl; mine = refl } }

open_done : (G : Setting) (s : ℕ) (seen : List (ℕ × Event)) (number : ℕ) (level : Level) (texts : List (List ℕ)) (begin : ℕ) (ops : List RowOp) (uses : List GenidItem) (ranges : List Interval) → IsOpenAt G (world G seen) (part G s (steps G seen)) number level texts [] begin ops uses ranges → IsDone G (steps G seen) s
open_done G s seen number level texts begin ops uses ranges at =
    let e : Does (transaction number texts level Nowhere) ∷ [] ≡ Does at.txn ∷ at.others = at.left in
    let none : at.others ≡ [] = sym (cons_parts e).1 in
    let its : transaction number texts level Nowhere ≡ at.txn = does_eq e in
    inr (
      at.txn,
      at.runs.left ∙ ap (λ (z : List WorkItem). Does at.txn ∷ z) none,
      ap (λ (t : Transaction). t.end) (sym its),
      at.start,
      at.runs.opened,
      run_alone G (rows_begun G (world G seen) at.start) at.txn,
      whole G s seen at.txn at.others at.start texts at.runs (ap (λ (t : Transaction). t.texts) (sym its)),
    )

pub all_done : (G : Setting) (s : ℕ) (seen : List (ℕ × Event)) (number : ℕ) (level : Level) (what : Doing) (texts : List (List ℕ)) → IsStandingBy G (world G seen) (part G s (steps G seen)) number level what texts [] → IsDone G (steps G seen) s
all_done G s seen number level doing.No texts rests = inl rests.left
all_done G s seen number level (doing.Open begin ops uses ranges) texts at = open_done G s seen number level texts begin ops uses ranges at
all_done G s seen number level doing.Aborted texts at =
    let e : Does (transaction number texts level Nowhere) ∷ [] ≡ Does at.txn ∷ at.others = at.left in
    inl (at.rests.left ∙ sym (cons_parts e).1)
