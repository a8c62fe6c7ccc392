-- Where a session is, as the code keeps it, in the words of the definitions.
use Rattle.std.specs.Prelude.{◌≡◌, ℕ, List, Option, Some, None}
use Rattle.cdb_values.specs.declared.rows.Level.{Level}
use Rattle.osql_session.specs.Sessions.{Session}
use Rattle.session_turns.specs.Asked.{Coming, coming}
use Rattle.session_turns.specs.Doing.{SessionAt, Doing}
use Rattle.session_turns.specs.Doing as doing
use Rattle.session_turns.specs.declared.states.InTransaction.{InTransaction}
use Rattle.session_turns.specs.declared.states.InTransaction.TheVariants.{No, Open, Aborted}
use Rattle.session_turns.specs.declared.states.SessionState.{SessionState}

-- what a session is doing, and where it is
abbrev pub doing_of : Session → Doing
doing_of s = doing.Open s.begin s.ops s.genids s.ranges

abbrev pub doing_in : InTransaction → Doing
doing_in No = doing.No
doing_in (Open session) = doing_of session
doing_in Aborted = doing.Aborted

abbrev pub state_in : SessionState → SessionAt
state_in s = record { number = s.number; level = s.level; doing = doing_in s.doing }

-- a transaction that comes to its commit
abbrev pub coming_of : Session → Option Coming
coming_of s = coming s.begin s.ops s.genids s.ranges

abbrev pub coming_in : Option Session → Option Coming
coming_in None = None
coming_in (Some s) = coming_of s

-- no transaction is open
abbrev pub IsShut : InTransaction → Type 0
IsShut No = Unit {0}
IsShut (Open session) = ⊥
IsShut Aborted = Unit {0}

-- a transaction is that of a session of this name, under its number and at its level, and began in that generation
pub record IsOf (generation : ℕ) (name : List ℕ) (number : ℕ) (at : Level) (s : Session) : Type 0 where
  pub began : s.id.began ≡ generation
  pub session : s.id.session ≡ name
  pub txn : s.id.txn ≡ number
  pub level : s.level ≡ at

-- the open transaction is, if one is open
abbrev pub IsOwnDoing : ℕ → List ℕ → ℕ → Level → InTransaction → Type 0
IsOwnDoing generation name number level No = Unit {0}
IsOwnDoing generation name number level (Open session) = IsOf generation name number level session
IsOwnDoing generation name number level Aborted = Unit {0}

abbrev pub IsOwn : ℕ → List ℕ → SessionState → Type 0
IsOwn generation name s = IsOwnDoing generation name s.number s.level s.doing

-- the one that comes to its commit is, if one does
abbrev pub IsOwnCommit : ℕ → List ℕ → ℕ → Level → Option Session → Type 0
IsOwnCommit generation name number level None = Unit {0}
IsOwnCommit generation name number level (Some session) = IsOf generation name number level session
