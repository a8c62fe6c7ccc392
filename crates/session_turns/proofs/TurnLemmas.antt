-- What a line asks, by where its session is.
use Rattle.std.proofs.Common.{◌≡◌, ◌∙◌, ◌+◌, ◌++◌, ◌∷◌, [], ℕ, List, Option, None, Result, Ok, Err, IfOk, refl, sym, subst, ap}
use Rattle.std.specs.List.{AllByRecursion}
use Rattle.cdb_values.specs.declared.items.GenidItem.{GenidItem}
use Rattle.cdb_values.specs.declared.items.Interval.{Interval}
use Rattle.cdb_values.specs.declared.rows.Level.{Level}
use Rattle.cdb_values.specs.declared.rows.RowOp.{RowOp}
use Rattle.osql_session.specs.Sessions.{Session}
use Rattle.cdb_values.specs.declared.replies.Reply.{Reply}
use Rattle.cdb_values.specs.declared.replies.Reply.TheVariants as reply
use Rattle.session_language.specs.Language.{Kind, BeginText, CommitText, RollbackText, LevelText, OtherText}
use Rattle.sql_answer.specs.Answers.{Meaning}
use Rattle.session_turns.specs.Answers.{IfNow, IsTextAnswered, IsAnsweredKind, IsBegun, IsDone, IsEffect, IsOwnTurn, IsTurnBetween}
use Rattle.session_turns.specs.Asked.{Asked, asked_of, own_asked, settled, told, went_on}
use Rattle.session_turns.specs.Doing.{Doing, SessionAt, open_begin}
use Rattle.session_turns.specs.Doing as doing
use Rattle.session_turns.specs.Step.{World, answer_of, state, turn_of}
use Rattle.session_turns.specs.Views.{IsOf, IsOwn, IsOwnCommit, coming_in, doing_in, doing_of, state_in}
use Rattle.session_turns.specs.Worlds.{IsBetween}
use Rattle.session_turns.specs.declared.answers.Told.{Told}
use Rattle.session_turns.specs.declared.answers.Told.TheVariants.{Now}
use Rattle.session_turns.specs.declared.states.InTransaction.TheVariants.{No, Open}
use Rattle.session_turns.specs.declared.states.SessionState.{SessionState}
use Rattle.session_turns.specs.declared.turns.LineEffect.{LineEffect}
use Rattle.session_turns.specs.declared.turns.OwnLine.{OwnLine}
use Rattle.session_turns.specs.declared.turns.Turn.{Turn}
use Rattle.session_turns.specs.declared.turns.Turn.TheVariants as turn

-- a line whose commit is decided on the history that it was done on does what it does when nobody comes between
pub turns_settled : (w : World) (number : ℕ) (level : Level) (meant : Meaning) (k : Kind) (what : Doing) → settled w (asked_of w w.now number level meant k what) ≡ turn_of w number level meant k what
turns_settled w number level meant BeginText doing.No = refl
turns_settled w number level meant CommitText doing.No = refl
turns_settled w number level meant RollbackText doing.No = refl
turns_settled w number level meant (LevelText later) doing.No = refl
turns_settled w number level meant OtherText doing.No = refl
turns_settled w number level meant BeginText (doing.Open begin ops uses ranges) = refl
turns_settled w number level meant CommitText (doing.Open begin ops uses ranges) = refl
turns_settled w number level meant RollbackText (doing.Open begin ops uses ranges) = refl
turns_settled w number level meant (LevelText later) (doing.Open begin ops uses ranges) = refl
turns_settled w number level meant OtherText (doing.Open begin ops uses ranges) = refl
turns_settled w number level meant BeginText doing.Aborted = refl
turns_settled w number level meant CommitText doing.Aborted = refl
turns_settled w number level meant RollbackText doing.Aborted = refl
turns_settled w number level meant (LevelText later) doing.Aborted = refl
turns_settled w number level meant OtherText doing.Aborted = refl

-- a line that was done is one of that kind
pub done_as : (w w' : World) (generation : ℕ) (name : List ℕ) (number : ℕ) (level : Level) (what : Doing) (meant : Meaning) (k of : Kind) (p : LineEffect) (last : ℕ) → k ≡ of → IsBetween w w' last →
    IsEffect generation name p (asked_of w' last number level meant of what) → IsDone w w' generation name number level what meant k p
done_as w w' generation name number level what meant k of p last is between effect = record {
  last = last;
  between = between;
  effect = subst (λ (x : Kind). IsEffect generation name p (asked_of w' last number level meant x what)) (sym is) effect;
}

-- a skipped line leaves its session there
pub skipped : (generation : ℕ) (name : List ℕ) (number : ℕ) (p : LineEffect) (after at : SessionState) → after ≡ at → IsOwn generation name at →
    (IsOwn generation name after → IsEffect generation name p (told number [] (state_in after))) → IsEffect generation name p (told number [] (state_in at))
skipped generation name number p after at same own is =
    subst (λ (s : SessionState). IsEffect generation name p (told number [] (state_in s))) same (is (subst (λ (s : SessionState). IsOwn generation name s) (sym same) own))

-- what is told now
pub now_told : {T : Type 0} (t : Told T) (x : T) (fact : T → Type 0) → t ≡ Now x → IfNow t fact → fact x
now_told t x fact is holds = subst (λ o. IfNow o fact) is holds

-- a transaction that a line opens
pub opened_asked : (generation : ℕ) (name : List ℕ) (p : LineEffect) (number next : ℕ) (level : Level) (s : Session) (w : World) (meant : Meaning) → next ≡ number + 1 → s.ops ≡ [] → s.genids ≡ [] → s.ranges ≡ [] →
    IsEffect generation name p (told next (reply.Begin s.begin ∷ []) (state next level (doing_of s))) → IsEffect generation name p (asked_of w s.begin number level meant BeginText doing.No)
opened_asked generation name p number next level s w meant counts ops genids ranges is =
    subst (λ (n : ℕ). IsEffect generation name p (told n (reply.Begin s.begin ∷ []) (state n level (doing.Open s.begin [] [] [])))) counts
    (subst (λ (o : List RowOp). IsEffect generation name p (told next (reply.Begin s.begin ∷ []) (state next level (doing.Open s.begin o [] [])))) ops
    (subst (λ (u : List GenidItem). IsEffect generation name p (told next (reply.Begin s.begin ∷ []) (state next level (doing.Open s.begin s.ops u [])))) genids
    (subst (λ (r : List Interval). IsEffect generation name p (told next (reply.Begin s.begin ∷ []) (state next level (doing.Open s.begin s.ops s.genids r)))) ranges is)))

-- a session that was answered is that of the same transaction
pub same_of : (generation : ℕ) (name : List ℕ) (number : ℕ) (level : Level) (w : World) (s s' : Session) (meant : Meaning) (lines : List Reply) → IsTextAnswered w s meant lines s' → IsOf generation name number level s → IsOf generation name number level s'
same_of generation name number level w s s' meant lines is own = record {
  began = rw is.id own.began;
  session = rw is.id own.session;
  txn = rw is.id own.txn;
  level = is.level ∙ own.level;
}

-- where a session is whose statement was answered
pub went_there : (w : World) (number : ℕ) (level : Level) (s s' : Session) (meant : Meaning) (lines : List Reply) → IsTextAnswered w s meant lines s' →
    state number level (doing_of s') ≡ (went_on number level s.begin s.genids s.ranges (answer_of w s.begin s.ops meant)).after
went_there w number level s s' meant lines is =
    ap (λ (b : ℕ). state number level (doing.Open b s'.ops s'.genids s'.ranges)) is.begin
    ∙ ap (λ (o : List RowOp). state number level (doing.Open s.begin o s'.genids s'.ranges)) is.ops
    ∙ ap (λ (u : List GenidItem). state number level (doing.Open s.begin (answer_of w s.begin s.ops meant).ops u s'.ranges)) is.genids
    ∙ ap (λ (r : List Interval). state number level (doing.Open s.begin (answer_of w s.begin s.ops meant).ops (s.genids ++ (answer_of w s.begin s.ops meant).uses) r)) is.ranges

went_effect : (w : World) (generation : ℕ) (name : List ℕ) (number : ℕ) (level : Level) (s s' : Session) (meant : Meaning) (lines : List Reply) (p : LineEffect) → IsOf generation name number level s → IsTextAnswered w s meant lines s' →
    p.number ≡ number → p.replies.items ≡ lines → p.after ≡ record { number = number; level = level; doing = Open s' } → p.commits ≡ None →
    IsEffect generation name p (went_on number level s.begin s.genids s.ranges (answer_of w s.begin s.ops meant))
went_effect w generation name number level s s' meant lines p own is number_is replies_are after_is commits_none = record {
  number = number_is;
  replies = replies_are ∙ is.replies;
  after = ap state_in after_is ∙ went_there w number level s s' meant lines is;
  commits = ap coming_in commits_none;
  own = subst (λ (x : SessionState). IsOwn generation name x) (sym after_is) (same_of generation name number level w s s' meant lines is own);
  own_commit = subst (λ (o : Option Session). IsOwnCommit generation name p.number p.after.level o) (sym commits_none) tt;
}

-- a line that is answered in an open transaction
pub went_asked : (w : World) (last generation : ℕ) (name : List ℕ) (number : ℕ) (level : Level) (s s' : Session) (meant : Meaning) (k : Kind) (lines : List Reply) (p : LineEffect) → IsAnsweredKind k → IsOf generation name number level s → IsTextAnswered w s meant lines s' →
    p.number ≡ number → p.replies.items ≡ lines → p.after ≡ record { number = number; level = level; doing = Open s' } → p.commits ≡ None →
    IsEffect generation name p (asked_of w last number level meant k (doing_of s))
went_asked w last generation name number level s s' meant BeginText lines p kind own is n r a c = went_effect w generation name number level s s' meant lines p own is n r a c
went_asked w last generation name number level s s' meant CommitText lines p kind own is n r a c = absurd kind
went_asked w last generation name number level s s' meant RollbackText lines p kind own is n r a c = absurd kind
went_asked w last generation name number level s s' meant (LevelText later) lines p kind own is n r a c = went_effect w generation name number level s s' meant lines p own is n r a c
went_asked w last generation name number level s s' meant OtherText lines p kind own is n r a c = went_effect w generation name number level s s' meant lines p own is n r a c

-- a line of its own that began just now, and what came of it
pub own_turn : {E : Type 0} (r : Result Turn E) (w w' : World) (generation generation' : ℕ) (name : List ℕ) (number : ℕ) (level : Level) (meant : Meaning) (k : Kind) (line : OwnLine) → k ≡ OtherText → IsBetween w w' line.session.begin → generation' ≡ generation →
    IsBegun generation name (number + 1) level line → IfOk r (IsOwnTurn w' generation' name meant line) → IfOk r (IsTurnBetween w w' generation' name number level No meant k)
own_turn (Err e) w w' generation generation' name number level meant k line other between same begun is = tt
own_turn (Ok (turn.Done p)) w w' generation generation' name number level meant k line other between same begun is =
    done_as w w' generation' name number level doing.No meant k OtherText p line.session.begin other between
    (subst (λ (l : Level). IsEffect generation' name p (own_asked (number + 1) l line.session.begin (answer_of w' line.session.begin [] meant))) begun.level
    (subst (λ (n : ℕ). IsEffect generation' name p (own_asked n line.level line.session.begin (answer_of w' line.session.begin [] meant))) begun.number is))
own_turn (Ok (turn.Begun line')) w w' generation generation' name number level meant k line other between same begun is = record {
  kind = other;
  idle = refl;
  between = subst (λ (l : OwnLine). IsBetween w w' l.session.begin) (sym is) between;
  begun = subst (λ (l : OwnLine). IsBegun generation' name (number + 1) level l) (sym is) (subst (λ (g : ℕ). IsBegun g name (number + 1) level line) (sym same) begun);
}
own_turn (Ok (turn.NotYet s)) w w' generation generation' name number level meant k line other between same begun is = absurd is

-- a fact of the begin position that is still to be read behind a line
pub read_behind : (P : ℕ → Type 0) (generation : ℕ) (name : List ℕ) (p : LineEffect) (a : Asked) → IsEffect generation name p a → AllByRecursion P (open_begin a.after.doing) → AllByRecursion P (open_begin (doing_in p.after.doing))
read_behind P generation name p a is holds = subst (λ (s : SessionAt). AllByRecursion P (open_begin s.doing)) (sym is.after) holds

-- behind a skipped line none is
pub none_read : (w : World) (last number : ℕ) (level : Level) (meant : Meaning) (k : Kind) → open_begin (asked_of w last number level meant k doing.Aborted).after.doing ≡ []
none_read w last number level meant BeginText = refl
none_read w last number level meant CommitText = refl
none_read w last number level meant RollbackText = refl
none_read w last number level meant (LevelText later) = refl
none_read w last number level meant OtherText = refl

pub skip_read : (P : ℕ → Type 0) (w : World) (last generation : ℕ) (name : List ℕ) (number : ℕ) (level : Level) (meant : Meaning) (k : Kind) (p : LineEffect) → IsEffect generation name p (asked_of w last number level meant k doing.Aborted) → AllByRecursion P (open_begin (doing_in p.after.doing))
skip_read P w last generation name number level meant k p is =
    read_behind P generation name p (asked_of w last number level meant k doing.Aborted) is (subst (λ (bs : List ℕ). AllByRecursion P bs) (sym (none_read w last number level meant k)) tt)
