-- How a transaction ends, and that its session is in none then.
use Rattle.std.proofs.Common.{ℕ, ◌≡◌, ◌≢◌, ◌≤◌, List, [], ◌∷◌, refl, sym, subst, ap, ◌∙◌}
use mathlib.Core.Logic.{inl, inr}
use Rattle.cdb_values.specs.declared.replies.Reply.{Reply}
use Rattle.cdb_values.specs.declared.replies.Reply.TheVariants as reply
use Rattle.cluster_events.specs.Guards.{AreRepliesTold, Commits, IsKept, IsRefused, MayFinish, commit_id_of}
use Rattle.cluster_events.specs.Parts.{ActorEvent, Opened, Part, head_number, moves, part, field, rest_of}
use Rattle.cluster_events.specs.Settings.{Setting, run_alone}
use Rattle.cluster_requests.specs.Requests.{Sent}
use Rattle.cluster_sessions.proofs.SendLaws.{sends_by_name}
use Rattle.cluster_steps.specs.Guards.{MayTakeStep}
use Rattle.cluster_steps.specs.Named.{begin_of, current_transaction, rows_begun, sent_of, steps, world}
use Rattle.cluster_steps.specs.declared.events.Event.{Event}
use Rattle.cluster_steps.specs.declared.events.Event.TheVariants as event
use Rattle.core_lists.specs.Lists.{Each, Has}
use Rattle.core_lists.proofs.Lists.{each_more}
use Rattle.report_laws.specs.Told.{IsToCommit}
use Rattle.report_laws.specs.Work.{WorkItem, Transaction, Does, ByRollback}
use Rattle.report_text.specs.declared.reports.Line.TheVariants as line
use Rattle.session_work.specs.Seats.{IsSeat, Rests, Runs}
use Rattle.session_work.proofs.RunLaws.{all_told, in_transaction, known_rows, known_within}
use Rattle.session_work.proofs.SeatLaws.{seat_may, waited}

-- an outcome that may be told is told by a line under the transaction's number
pub may_end : (G : Setting) (s : ℕ) (seen : List (ℕ × Event)) → IsSeat G s seen → (t : Transaction) (others : List WorkItem) (a : Reply) → (part G s (steps G seen)).left ≡ Does t ∷ others → MayFinish G (steps G seen) s a
    → MayTakeStep G seen s (event.Outcome (line.Session (G.names s) t.number a))
may_end G s seen seat t others a is may = seat_may G s seen seat (event.Outcome (line.Session (G.names s) t.number a)) (ActorEvent.Finish a) tt exact refl (may, waited G s seen seat)
  where
    exact : line.Session (G.names s) t.number a ≡ line.Session (G.names s) (head_number (part G s (steps G seen)).left) a
    exact = subst (λ (z : List WorkItem). line.Session (G.names s) t.number a ≡ line.Session (G.names s) (head_number z) a) (sym is) refl

-- and it is over then
pub ended : (p : Part) (a : Reply) (t : Transaction) (others : List WorkItem) → p.left ≡ Does t ∷ others → Rests (moves p (ActorEvent.Finish a)) others
ended p a t others is = record { left = ap rest_of is; opened = refl; mine = refl }

module _ (G : Setting) (s : ℕ) (seen : List (ℕ × Event)) (t : Transaction) (others : List WorkItem) (o : Opened) (texts : List (List ℕ)) (runs : Runs G (world G seen) (part G s (steps G seen)) t others o texts []) (all : t.texts ≡ texts) where
  -- all its replies are told, as it was answered
  pub whole : AreRepliesTold G (field (steps G seen)) t o.begin (part G s (steps G seen)).mine (run_alone G (rows_begun G (world G seen) o) t)
  whole = record {
    log = runs.known.log;
    durable = (runs.known.gen, runs.known.durable);
    within = known_within G (world G seen) o runs.known;
    alone = ap (λ z. run_alone G z t) (sym (known_rows G (world G seen) o runs.known));
    says = all_told G (world G seen) (part G s (steps G seen)) t others o texts runs all;
  }

  abbrev pub to_commit : IsToCommit t.end → Commits G (steps G seen) s
  to_commit ends = record {
    txn = t;
    start = o;
    at = in_transaction G (world G seen) (part G s (steps G seen)) t others o texts [] runs;
    ends = ends;
    ran = run_alone G (rows_begun G (world G seen) o) t;
    answered = whole;
  }

  -- it is rolled back
  pub rolls_back : t.end ≡ ByRollback → MayFinish G (steps G seen) s reply.RolledBack
  rolls_back ends = (t, o, in_transaction G (world G seen) (part G s (steps G seen)) t others o texts [] runs, ends, run_alone G (rows_begun G (world G seen) o) t, whole)

  -- without operations it is committed where it began
  pub commits_nothing : IsToCommit t.end → (run_alone G (rows_begun G (world G seen) o) t).ops ≡ [] → MayFinish G (steps G seen) s (reply.Committed o.begin)
  commits_nothing ends none = (to_commit ends, inl (none, refl))

  -- with operations where its entry stands
  pub commits_at : IsToCommit t.end → (run_alone G (rows_begun G (world G seen) o) t).ops ≢ [] → (k : ℕ) → IsKept (field (steps G seen)) (commit_id_of G s t o) k → MayFinish G (steps G seen) s (reply.Committed k)
  commits_at ends some k kept = (to_commit ends, inr (some, kept))

  -- or it is refused
  pub conflicts_over : IsToCommit t.end → (k : ℕ) (table : List ℕ) (genid : ℕ) → IsRefused (field (steps G seen)) (commit_id_of G s t o) k (reply.ConflictGenid k table genid)
      → MayFinish G (steps G seen) s (reply.ConflictGenid k table genid)
  conflicts_over ends k table genid refused = (to_commit ends, refused)

  pub conflicts_in : IsToCommit t.end → (k : ℕ) (table key : List ℕ) → IsRefused (field (steps G seen)) (commit_id_of G s t o) k (reply.ConflictRange k table key)
      → MayFinish G (steps G seen) s (reply.ConflictRange k table key)
  conflicts_in ends k table key refused = (to_commit ends, refused)

  pub is_duplicate : IsToCommit t.end → (k : ℕ) (table key : List ℕ) → IsRefused (field (steps G seen)) (commit_id_of G s t o) k (reply.Duplicate k table key)
      → MayFinish G (steps G seen) s (reply.Duplicate k table key)
  is_duplicate ends k table key refused = (to_commit ends, refused)

  -- its commit is sent to a node that led a generation not below that of its begin, where it was not sent before
  pub may_send : IsSeat G s seen → IsToCommit t.end → (run_alone G (rows_begun G (world G seen) o) t).ops ≢ [] → (master gen : ℕ) → o.gen ≤ gen → Has (λ l. l.gen ≡ gen) ((world G seen).nodes master).leads
      → Each (λ x. x.id ≡ commit_id_of G s t o → ⊥) (field (steps G seen)).sends → MayTakeStep G seen s (event.Send master gen)
  may_send seat ends some master gen low led unsent =
      let c = to_commit ends in
      let by_name = sends_by_name G seen s master gen c seat.legal some low led in
      let x : Sent = sent_of G (world G seen) s master gen (current_transaction (part G s (steps G seen)).left) (begin_of (part G s (steps G seen)).opened) in
      let txn : current_transaction (part G s (steps G seen)).left ≡ t = ap current_transaction runs.left in
      let start : begin_of (part G s (steps G seen)).opened ≡ o = ap begin_of runs.opened in
      let its : x.id ≡ commit_id_of G s t o = ap (λ z. commit_id_of G s z (begin_of (part G s (steps G seen)).opened)) txn ∙ ap (λ z. commit_id_of G s t z) start in
      seat_may G s seen seat (event.Send master gen) (ActorEvent.Send x) tt by_name.0 refl (each_more (λ y no e. absurd (no (e ∙ its))) unsent, by_name.1)

-- for want of memory any transaction may end
pub runs_out : (G : Setting) (s : ℕ) (seen : List (ℕ × Event)) (t : Transaction) (others : List WorkItem) → (part G s (steps G seen)).left ≡ Does t ∷ others → MayFinish G (steps G seen) s reply.NoMemory
runs_out G s seen t others is = (t, record { others = others; is = is })
