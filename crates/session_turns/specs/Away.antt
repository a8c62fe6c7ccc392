-- What a line of a session does while its node is down, or while fewer than a majority of the nodes are up: nothing is read,
-- and nothing is committed.
--
-- That its transaction is lost comes first, then that no majority is up. Any other line is answered as on a node that is up.
use Rattle.std.specs.Prelude.{◌≡◌, ℕ, ◌+◌, ◌∷◌, [], option_to_list}
use Rattle.cdb_values.specs.declared.rows.Level.{Level}
use Rattle.cdb_values.specs.declared.rows.StatementError.TheVariants.{State}
use Rattle.cdb_values.specs.declared.replies.Reply.TheVariants as reply
use Rattle.session_language.specs.Language.{Kind, BeginText, CommitText, RollbackText, LevelText, OtherText}
use Rattle.session_turns.specs.Doing.{Doing}
use Rattle.session_turns.specs.Doing as doing
use Rattle.session_turns.specs.Step.{Turned, state, told_turn}
use Rattle.session_turns.specs.Views.{state_in}
use Rattle.session_turns.specs.declared.away.Away.{Away}
use Rattle.session_turns.specs.declared.away.AwayEffect.{AwayEffect}

-- what a session is doing behind a line of a transaction that was cut short: its `commit` and `rollback` end it
abbrev pub behind_cut : Kind → Doing
behind_cut BeginText = doing.Aborted
behind_cut CommitText = doing.No
behind_cut RollbackText = doing.No
behind_cut (LevelText later) = doing.Aborted
behind_cut OtherText = doing.Aborted

-- what a line does there
abbrev pub turn_away : Away → ℕ → Level → Kind → Doing → Turned
turn_away a number level k (doing.Open begin ops uses ranges) = told_turn number (reply.Lost a.node a.down ∷ []) (state number level (behind_cut k))
turn_away a number level k doing.Aborted = told_turn number [] (state number level (behind_cut k))
turn_away a number level BeginText doing.No = told_turn (number + 1) (reply.NoMajority a.up a.nodes ∷ []) (state (number + 1) level doing.Aborted)
turn_away a number level OtherText doing.No = told_turn (number + 1) (reply.NoMajority a.up a.nodes ∷ []) (state (number + 1) level doing.No)
turn_away a number level CommitText doing.No = told_turn 0 (reply.Error State ∷ []) (state number level doing.No)
turn_away a number level RollbackText doing.No = told_turn 0 (reply.Error State ∷ []) (state number level doing.No)
turn_away a number level (LevelText later) doing.No = told_turn 0 (reply.Level later ∷ []) (state number later doing.No)

-- an effect is what a line does there
pub record IsAwayEffect (p : AwayEffect) (t : Turned) : Type 0 where
  pub number : p.number ≡ t.number
  pub replies : option_to_list p.reply ≡ t.replies
  pub after : state_in p.after ≡ t.after
