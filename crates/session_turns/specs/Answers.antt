-- What a call answers: of a node, which may not be able to tell yet, and of a line of a session.
use Rattle.std.specs.Prelude.{◌≡◌, ℕ, ◌+◌, ◌++◌, ◌∷◌, [], List, Result, Ok, Err, IfOk}
use Rattle.cdb_values.specs.declared.rows.Level.{Level}
use Rattle.osql_session.specs.Sessions.{Session}
use Rattle.cdb_values.specs.declared.replies.Reply.{Reply}
use Rattle.session_language.specs.Language.{Kind, BeginText, CommitText, RollbackText, LevelText, OtherText}
use Rattle.sql_answer.specs.Answers.{Meaning}
use Rattle.session_turns.specs.Asked.{Asked, asked_of, own_asked}
use Rattle.session_turns.specs.Doing.{Doing, open_begin}
use Rattle.session_turns.specs.Doing as doing
use Rattle.session_turns.specs.Step.{World, answer_of}
use Rattle.session_turns.specs.Views.{IsOf, IsOwn, IsOwnCommit, coming_in, doing_in, state_in}
use Rattle.session_turns.specs.Worlds.{IsBetween}
use Rattle.session_turns.specs.declared.answers.Told.{Told}
use Rattle.session_turns.specs.declared.answers.Told.TheVariants.{Now, NotYet}
use Rattle.session_turns.specs.declared.states.InTransaction.{InTransaction}
use Rattle.session_turns.specs.declared.states.SessionState.{SessionState}
use Rattle.session_turns.specs.declared.turns.LineEffect.{LineEffect}
use Rattle.session_turns.specs.declared.turns.OwnLine.{OwnLine}
use Rattle.session_turns.specs.declared.turns.Turn.{Turn}
use Rattle.session_turns.specs.declared.turns.Turn.TheVariants as turn

-- a fact of what is told now
abbrev pub IfNow : {T : Type 0} → Told T → (T → Type 0) → Type 0
IfNow (Now x) fact = fact x
IfNow NotYet fact = Unit {0}

-- a fact where it can't be told yet
abbrev pub IfNotYet : {T : Type 0} → Told T → Type 0 → Type 0
IfNotYet (Now x) fact = Unit {0}
IfNotYet NotYet fact = fact

-- the same of a call, for which memory may be wanting
abbrev pub IfTold : {T E : Type 0} → Result (Told T) E → (T → Type 0) → Type 0
IfTold (Ok told) fact = IfNow told fact
IfTold (Err e) fact = Unit {0}

-- a fact where a call tells nothing, since it can't yet or for want of memory
abbrev pub IfUntold : {T E : Type 0} → Result (Told T) E → Type 0 → Type 0
IfUntold (Ok told) fact = IfNotYet told fact
IfUntold (Err e) fact = fact

-- a fact where a call can't tell yet
abbrev pub IfWaiting : {T E : Type 0} → Result (Told T) E → Type 0 → Type 0
IfWaiting (Ok told) fact = IfNotYet told fact
IfWaiting (Err e) fact = Unit {0}

-- a text is answered in a session's transaction, over a history
pub record IsTextAnswered (w : World) (s : Session) (meant : Meaning) (lines : List Reply) (s' : Session) : Type 0 where
  pub replies : lines ≡ (answer_of w s.begin s.ops meant).replies
  pub ops : s'.ops ≡ (answer_of w s.begin s.ops meant).ops
  pub genids : s'.genids ≡ s.genids ++ (answer_of w s.begin s.ops meant).uses
  pub ranges : s'.ranges ≡ s.ranges ++ (answer_of w s.begin s.ops meant).ranges
  pub id : s'.id ≡ s.id
  pub begin : s'.begin ≡ s.begin
  pub level : s'.level ≡ s.level

-- an effect is what a line asks; its session's transactions are its own
pub record IsEffect (generation : ℕ) (name : List ℕ) (p : LineEffect) (a : Asked) : Type 0 where
  pub number : p.number ≡ a.number
  pub replies : p.replies.items ≡ a.replies
  pub after : state_in p.after ≡ a.after
  pub commits : coming_in p.commits ≡ a.commits
  pub own : IsOwn generation name p.after
  pub own_commit : IsOwnCommit generation name p.number p.after.level p.commits

-- the same wherever the line is done, and of an answer
abbrev pub IsEffectAnywhere : LineEffect → Asked → Type 0
IsEffectAnywhere p a = (generation : ℕ) (name : List ℕ) → IsEffect generation name p a

abbrev pub AnswersAnywhere : {E : Type 0} → Result LineEffect E → Asked → Type 0
AnswersAnywhere result a = (generation : ℕ) (name : List ℕ) → IfOk result (λ p. IsEffect generation name p a)

-- a line was done between two moments, by where its session was: a transaction that it began, began at a position between them
pub record IsDone (w w' : World) (generation : ℕ) (name : List ℕ) (number : ℕ) (level : Level) (what : Doing) (meant : Meaning) (k : Kind) (p : LineEffect) : Type 0 where
  pub last : ℕ
  pub between : IsBetween w w' last
  pub effect : IsEffect generation name p (asked_of w' last number level meant k what)

-- a transaction of a line's own began, and has said nothing
pub record IsBegun (generation : ℕ) (name : List ℕ) (at : ℕ) (under : Level) (line : OwnLine) : Type 0 where
  pub number : line.number ≡ at
  pub level : line.level ≡ under
  pub ops : line.session.ops ≡ []
  pub genids : line.session.genids ≡ []
  pub ranges : line.session.ranges ≡ []
  pub own : IsOf generation name at under line.session

-- a line of its own began between two moments, and its text is still to be answered
pub record IsBegunBy (w w' : World) (generation : ℕ) (name : List ℕ) (number : ℕ) (level : Level) (what : Doing) (k : Kind) (line : OwnLine) : Type 0 where
  pub kind : k ≡ OtherText
  pub idle : what ≡ doing.No
  pub between : IsBetween w w' line.session.begin
  pub begun : IsBegun generation name (number + 1) level line

-- a session is where it was
pub record IsWhere (at : ℕ) (under : Level) (what : InTransaction) (s : SessionState) : Type 0 where
  pub number : s.number ≡ at
  pub level : s.level ≡ under
  pub doing : s.doing ≡ what

-- what came of a line between two moments
abbrev pub IsTurnBetween : World → World → ℕ → List ℕ → ℕ → Level → InTransaction → Meaning → Kind → Turn → Type 0
IsTurnBetween w w' generation name number level what meant k (turn.Done p) = IsDone w w' generation name number level (doing_in what) meant k p
IsTurnBetween w w' generation name number level what meant k (turn.Begun own) = IsBegunBy w w' generation name number level (doing_in what) k own
IsTurnBetween w w' generation name number level what meant k (turn.NotYet s) = IsWhere number level what s

-- what came of a line of its own that had begun
abbrev pub IsOwnTurn : World → ℕ → List ℕ → Meaning → OwnLine → Turn → Type 0
IsOwnTurn w generation name meant own (turn.Done p) = IsEffect generation name p (own_asked own.number own.level own.session.begin (answer_of w own.session.begin [] meant))
IsOwnTurn w generation name meant own (turn.Begun own') = own' ≡ own
IsOwnTurn w generation name meant own (turn.NotYet s') = ⊥

-- a fact where a line is not done yet
abbrev pub IfOpen : Turn → Type 0 → Type 0
IfOpen (turn.Done p) fact = Unit {0}
IfOpen (turn.Begun own) fact = fact
IfOpen (turn.NotYet s) fact = fact

-- a line of this kind is answered in an open transaction
abbrev pub IsAnsweredKind : Kind → Type 0
IsAnsweredKind BeginText = Unit {0}
IsAnsweredKind CommitText = ⊥
IsAnsweredKind RollbackText = ⊥
IsAnsweredKind (LevelText later) = Unit {0}
IsAnsweredKind OtherText = Unit {0}

-- the begin position that is still to be read, if one is
abbrev pub reading_in : Turn → List ℕ
reading_in (turn.Done p) = open_begin (doing_in p.after.doing)
reading_in (turn.Begun own) = own.session.begin ∷ []
reading_in (turn.NotYet s) = open_begin (doing_in s.doing)
