-- The work of a session: its transactions and its other lines, from the script and its language alone.
--
-- A session's transactions are numbered from 1. `begin` opens one, which `commit` or `rollback` ends.
-- Any other line outside a transaction is a transaction of its own, except `commit` and `rollback`,
-- which do not fit there, and a line that sets the level of later transactions: these have the number 0.
-- A transaction that is open at the end of the script stays without an end.
use Rattle.std.specs.Prelude.{ℕ, ◌+◌, ◌==◌, ◌++◌, ◌∷◌, [], List, Option, Some, None, if◌then◌else◌}
use Rattle.std.specs.Str.{bytes_eq}
use Rattle.cdb_values.specs.declared.rows.Level.{Level}
use Rattle.cdb_values.specs.declared.rows.Level.TheVariants.{Snapshot}
use Rattle.cdb_values.specs.declared.rows.StatementError.TheVariants.{State}
use Rattle.script_form.specs.declared.scripts.BodyLine.{BodyLine}
use Rattle.script_form.specs.declared.scripts.Act.{Act}
use Rattle.script_form.specs.declared.scripts.Act.TheVariants as act
use Rattle.session_language.specs.Language.{Language, Kind, BeginText, CommitText, RollbackText, LevelText, OtherText}
use Rattle.cdb_values.specs.declared.replies.Reply.{Reply}
use Rattle.cdb_values.specs.declared.replies.Reply.TheVariants as reply

-- how a transaction ends: by a commit, by a rollback, with the one line that it is, or not at all
pub data End : Type 0 where
  ByCommit : End
  ByRollback : End
  WithItsLine : End
  Nowhere : End

-- a transaction of a session: its number, the texts of its statements, its level and its end
pub record Transaction : Type 0 where
  pub number : ℕ
  pub texts : List (List ℕ)
  pub level : Level
  pub end : End

-- what a session does: a transaction, or a line outside one with its one reply
pub data WorkItem : Type 0 where
  Does : Transaction → WorkItem
  Lone : Reply → WorkItem

-- where a session is in its work: what is over, how many transactions it has begun, its level, and
-- the texts of the transaction that is open, if one is
pub record Place : Type 0 where
  pub over : List WorkItem
  pub number : ℕ
  pub level : Level
  pub pending : Option (List (List ℕ))

abbrev pub start : Place
start = record { over = []; number = 0; level = Snapshot; pending = None }

abbrev pub transaction : ℕ → List (List ℕ) → Level → End → Transaction
transaction number texts level end = record { number = number; texts = texts; level = level; end = end }

-- one more thing is over
abbrev pub with_item : Place → WorkItem → Place
with_item p item = record { over = p.over ++ item ∷ []; number = p.number; level = p.level; pending = None }

-- the open transaction ends
abbrev pub closed : Place → List (List ℕ) → End → Place
closed p texts end = with_item p (Does (transaction p.number texts p.level end))

-- a transaction of one line is over
abbrev pub with_own_line : Place → List ℕ → Place
with_own_line p text = record { over = p.over ++ Does (transaction (p.number + 1) (text ∷ []) p.level WithItsLine) ∷ []; number = p.number + 1; level = p.level; pending = None }

-- a text is in the open transaction
abbrev pub with_open : Place → Option (List (List ℕ)) → ℕ → Place
with_open p pending number = record { over = p.over; number = number; level = p.level; pending = pending }

-- one more line
abbrev pub next_by : Place → List ℕ → Kind → Option (List (List ℕ)) → Place
next_by p text BeginText None = with_open p (Some []) (p.number + 1)
next_by p text CommitText None = with_item p (Lone (reply.Error State))
next_by p text RollbackText None = with_item p (Lone (reply.Error State))
next_by p text (LevelText level) None = with_item (record p { level = level }) (Lone (reply.Level level))
next_by p text OtherText None = with_own_line p text
next_by p text BeginText (Some texts) = with_open p (Some (texts ++ text ∷ [])) p.number
next_by p text CommitText (Some texts) = closed p texts ByCommit
next_by p text RollbackText (Some texts) = closed p texts ByRollback
next_by p text (LevelText level) (Some texts) = with_open p (Some (texts ++ text ∷ [])) p.number
next_by p text OtherText (Some texts) = with_open p (Some (texts ++ text ∷ [])) p.number

abbrev pub next_place : Language → Place → List ℕ → Place
next_place language p text = next_by p text (language.kind text) p.pending

abbrev pub place_from : Language → Place → List (List ℕ) → Place
place_from language p [] = p
place_from language p (text ∷ texts) = place_from language (next_place language p text) texts

abbrev pub said_by : List ℕ → Act → List (List ℕ) → List (List ℕ)
said_by name (act.Say session text) later = if bytes_eq session name then text ∷ later else later
said_by name (act.Stop node) later = later
said_by name (act.Start node) later = later
said_by name (act.Arm session moment) later = later
said_by name act.Barrier later = later
said_by name act.Feed later = later

-- the texts of a session's lines, in order
abbrev pub said : List ℕ → List BodyLine → List (List ℕ)
said name [] = []
said name (l ∷ ls) = said_by name l.act (said name ls)

-- where a session is after these lines of the script
abbrev pub place_after : Language → List ℕ → List BodyLine → Place
place_after language name body = place_from language start (said name body)

-- the transaction that is open there, if one is
abbrev pub open_item : Place → Option (List (List ℕ)) → List WorkItem
open_item p None = []
open_item p (Some texts) = Does (transaction p.number texts p.level Nowhere) ∷ []

-- what a session did up to there, in order
abbrev pub items_at : Place → List WorkItem
items_at p = p.over ++ open_item p p.pending

-- the work of a session, in order
abbrev pub work : Language → List ℕ → List BodyLine → List WorkItem
work language name body = items_at (place_after language name body)

-- the number under which an item is told
abbrev pub number_of : WorkItem → ℕ
number_of (Does t) = t.number
number_of (Lone answer) = 0

-- the transaction of that number among these
abbrev pub if_numbered : ℕ → Transaction → Option Transaction → Option Transaction
if_numbered number t later = if t.number == number then Some t else later

abbrev pub numbered_among : ℕ → List WorkItem → Option Transaction
numbered_among number [] = None
numbered_among number (Does t ∷ items) = if_numbered number t (numbered_among number items)
numbered_among number (Lone answer ∷ items) = numbered_among number items

-- the transaction of a session of that number
abbrev pub transaction_of : Language → List ℕ → ℕ → List BodyLine → Option Transaction
transaction_of language name number body = numbered_among number (work language name body)
