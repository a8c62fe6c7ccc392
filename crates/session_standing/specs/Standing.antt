-- A session's state between its lines stands for its part, by the texts of its lines that are still to come.
--
--   the state                          the part
--   in no transaction                  none is open, and what is left is its work from there on
--   in one, behind these texts         it runs with all replies told, and what is left begins with it
--   behind one that was cut short      none is open, and what is left is its work behind that one
use Rattle.std.specs.Prelude.{ℕ, ◌≡◌, ◌++◌, ◌∷◌, [], List, Some, None}
use Rattle.cdb_values.specs.declared.items.GenidItem.{GenidItem}
use Rattle.cdb_values.specs.declared.items.Interval.{Interval}
use Rattle.cdb_values.specs.declared.rows.Level.{Level}
use Rattle.cdb_values.specs.declared.rows.RowOp.{RowOp}
use Rattle.cluster_consensus.specs.Facts.{World}
use Rattle.cluster_events.specs.Parts.{Opened, Part}
use Rattle.cluster_events.specs.Settings.{Setting}
use Rattle.cluster_requests.specs.KeptEntries.{KeptEntry}
use Rattle.report_laws.specs.Work.{Does, Transaction, WorkItem}
use Rattle.session_turns.specs.Doing.{Doing, SessionAt}
use Rattle.session_turns.specs.Doing as doing
use Rattle.session_work.specs.Seats.{Rests, Runs, answered_at}
use Rattle.session_work.specs.Work.{left_at, place_at}

-- it is in a transaction of that number, behind these texts, with these operations, uses and ranges; these texts are still to come
pub record IsOpenAt (G : Setting) (w : World KeptEntry) (p : Part) (number : ℕ) (level : Level) (texts rest : List (List ℕ)) (begin : ℕ) (ops : List RowOp) (uses : List GenidItem) (ranges : List Interval) : Type 0 where
  pub txn : Transaction
  pub others : List WorkItem
  pub start : Opened
  pub runs : Runs G w p txn others start texts []
  pub left : left_at G.language (place_at number level (Some texts)) rest ≡ Does txn ∷ others
  pub begin_is : begin ≡ start.begin
  pub ops_are : ops ≡ (answered_at G w start texts).ops
  pub uses_are : uses ≡ (answered_at G w start texts).uses
  pub ranges_are : ranges ≡ (answered_at G w start texts).ranges

-- a transaction of that number is about to begin, and these texts are its own, as far as they go
pub record IsToBegin (G : Setting) (p : Part) (number : ℕ) (level : Level) (rest : List (List ℕ)) : Type 0 where
  pub txn : Transaction
  pub others : List WorkItem
  pub rests : Rests p (Does txn ∷ others)
  pub left : left_at G.language (place_at number level (Some [])) rest ≡ Does txn ∷ others
  pub numbered : txn.number ≡ number

-- its transaction was cut short, behind these texts
pub record IsCutAt (G : Setting) (p : Part) (number : ℕ) (level : Level) (texts rest : List (List ℕ)) : Type 0 where
  pub txn : Transaction
  pub others : List WorkItem
  pub rests : Rests p others
  pub left : left_at G.language (place_at number level (Some texts)) rest ≡ Does txn ∷ others

abbrev pub IsStandingBy : Setting → World KeptEntry → Part → ℕ → Level → Doing → List (List ℕ) → List (List ℕ) → Type 0
IsStandingBy G w p number level doing.No texts rest = Rests p (left_at G.language (place_at number level None) rest)
IsStandingBy G w p number level (doing.Open begin ops uses ranges) texts rest = IsOpenAt G w p number level texts rest begin ops uses ranges
IsStandingBy G w p number level doing.Aborted texts rest = IsCutAt G p number level texts rest

-- a text by which a transaction that has texts goes on
abbrev pub GoesOn : Setting → ℕ → Level → List (List ℕ) → List ℕ → List (List ℕ) → Type 0
GoesOn G number level texts text rest = left_at G.language (place_at number level (Some texts)) (text ∷ rest) ≡ left_at G.language (place_at number level (Some (texts ++ text ∷ []))) rest

-- a session stands there, with these texts still to come
pub record IsStanding (G : Setting) (w : World KeptEntry) (p : Part) (at : SessionAt) (rest : List (List ℕ)) : Type 0 where
  pub texts : List (List ℕ)
  pub stands : IsStandingBy G w p at.number at.level at.doing texts rest
