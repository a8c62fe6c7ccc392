-- A session's transaction, as its code has it, is the one that it is in.
--
--   the code has      (3, anna, 2), begun at 7, serializable, an insert, no version, one interval
--   the part is in    transaction 2 of anna, begun at 7 in generation 3, whose texts are answered by that
use Rattle.std.specs.Prelude.{ℕ, ◌≡◌}
use Rattle.cluster_consensus.specs.Facts.{World}
use Rattle.cluster_events.specs.Guards.{commit_id_of}
use Rattle.cluster_events.specs.Parts.{Opened}
use Rattle.cluster_events.specs.Settings.{Setting, run_alone}
use Rattle.cluster_requests.specs.KeptEntries.{KeptEntry}
use Rattle.cluster_steps.specs.Named.{rows_begun}
use Rattle.osql_session.specs.Sessions.{Session}
use Rattle.report_laws.specs.Work.{Transaction}

pub record IsSessionOf (G : Setting) (w : World KeptEntry) (i : ℕ) (t : Transaction) (o : Opened) (s : Session) : Type 0 where
  pub id : s.id ≡ commit_id_of G i t o
  pub begin : s.begin ≡ o.begin
  pub level : s.level ≡ t.level
  pub ops : s.ops ≡ (run_alone G (rows_begun G w o) t).ops
  pub genids : s.genids ≡ (run_alone G (rows_begun G w o) t).uses
  pub ranges : s.ranges ≡ (run_alone G (rows_begun G w o) t).ranges
