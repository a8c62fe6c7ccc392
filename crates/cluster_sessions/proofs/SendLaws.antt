-- What a session sends by its name is what its transaction was answered.
use Rattle.std.proofs.Common.{ℕ, ◌≡◌, ◌≢◌, ◌≤◌, List, [], ◌∷◌, refl, sym, subst, ap, ◌∙◌}
use Rattle.std.specs.Prelude.{Some}
use Rattle.core_lists.specs.Lists.{Has}
use Rattle.cluster_consensus.specs.Facts.{World}
use Rattle.cluster_events.specs.Guards.{Commits, Sends}
use Rattle.cluster_events.specs.Parts.{Opened, Part, part}
use Rattle.cluster_events.specs.Settings.{Setting, run_alone}
use Rattle.cluster_requests.specs.KeptEntries.{KeptEntry}
use Rattle.cluster_sessions.proofs.FoundLaws.{named_at, rows_at_begin}
use Rattle.cluster_steps.specs.Guards.{IsToSend, AreLegalSteps}
use Rattle.cluster_steps.specs.Named.{begin_of, rows_begun, sent_of, steps, current_transaction, world}
use Rattle.cluster_steps.specs.declared.events.Event.{Event}
use Rattle.report_laws.specs.Work.{Transaction}
use Rattle.session_language.specs.Language.{Answered}
use Rattle.session_language.specs.Touched.{used_at}

-- what it was answered is what the rows at its begin give
its_answer : (G : Setting) (h : List (ℕ × Event)) (i : ℕ) (c : Commits G (steps G h) i) → AreLegalSteps G h → run_alone G (rows_begun G (world G h) c.start) c.txn ≡ c.ran
its_answer G h i c l =
    ap (λ z. run_alone G z c.txn) (rows_at_begin G h l i c.answered.durable.0 c.start c.answered.log c.at.opened c.answered.durable.1 c.answered.within) ∙ sym c.answered.alone

sends_its : (G : Setting) (h : List (ℕ × Event)) (i master gen : ℕ) (c : Commits G (steps G h) i) → AreLegalSteps G h → c.ran.ops ≢ [] → c.start.gen ≤ gen → Has (λ l. l.gen ≡ gen) ((world G h).nodes master).leads
    → Sends G (steps G h) i (sent_of G (world G h) i master gen c.txn c.start)
sends_its G h i master gen c l some low led =
    let a = its_answer G h i c l in
    record {
      at = c;
      has_ops = some;
      its_by = refl;
      its_id = refl;
      its_begin = refl;
      its_level = refl;
      its_ops = ap (λ (z : Answered). z.ops) a;
      its_used = ap (λ (z : Answered). used_at c.txn.level z) a;
      low = low;
      led = led;
    }

pub sends_by_name : (G : Setting) (h : List (ℕ × Event)) (i master gen : ℕ) (c : Commits G (steps G h) i) → AreLegalSteps G h → c.ran.ops ≢ [] → c.start.gen ≤ gen → Has (λ l. l.gen ≡ gen) ((world G h).nodes master).leads
    → IsToSend G (world G h) (part G i (steps G h)) × Sends G (steps G h) i (sent_of G (world G h) i master gen (current_transaction (part G i (steps G h)).left) (begin_of (part G i (steps G h)).opened))
sends_by_name G h i master gen c l some low led =
    let t : current_transaction (part G i (steps G h)).left ≡ c.txn = ap current_transaction c.at.is in
    let o : begin_of (part G i (steps G h)).opened ≡ c.start = ap begin_of c.at.opened in
    let s = sends_its G h i master gen c l some low led in (
      record { txn = c.txn; start = c.start; at = c.at; found = named_at G h l i c.start c.at.opened },
      subst (λ (z : Opened). Sends G (steps G h) i (sent_of G (world G h) i master gen (current_transaction (part G i (steps G h)).left) z)) (sym o)
          (subst (λ (z : Transaction). Sends G (steps G h) i (sent_of G (world G h) i master gen z c.start)) (sym t) s),
    )
