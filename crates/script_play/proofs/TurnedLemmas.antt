-- A line that was done on the node of a run, by what it asks and what is decided, is what it does when nobody comes between.
use Rattle.std.proofs.Common.{◌≡◌, ◌∙◌, ℕ, ◌+◌, ◌≤◌, ◌<◌, ◌++◌, ◌∷◌, [], List, Option, Some, None, length, refl, sym, ap, subst, arith}
use Rattle.std.specs.List.{AllByRecursion}
use Rattle.cdb_values.specs.declared.items.GenidItem.{GenidItem}
use Rattle.cdb_values.specs.declared.items.Interval.{Interval}
use Rattle.cdb_values.specs.declared.replies.Reply.{Reply}
use Rattle.cdb_values.specs.declared.rows.Level.{Level}
use Rattle.cdb_values.specs.declared.rows.RowOp.{RowOp}
use Rattle.cdb_values.specs.declared.tables.TableDef.{TableDef}
use Rattle.log_rows.specs.History.{rows_over_at}
use Rattle.osql_session.specs.Sessions.{Session}
use Rattle.phys_log.specs.Logs.{page_at}
use Rattle.phys_log.specs.declared.entries.CommitId.{CommitId}
use Rattle.phys_log.specs.declared.entries.Entry.{Entry}
use Rattle.session_language.specs.Language.{Kind, BeginText, CommitText, RollbackText, LevelText, OtherText}
use Rattle.session_turns.proofs.TurnLemmas.{turns_settled}
use Rattle.session_turns.specs.Answers.{IsDone, IsTurnBetween}
use Rattle.session_turns.specs.Asked.{Asked, Coming, asked_of, settled, settled_by}
use Rattle.session_turns.specs.Decisions.{added_by}
use Rattle.session_turns.specs.Doing.{Doing, SessionAt, open_begin}
use Rattle.session_turns.specs.Step.{World, answer_of, outcome, turn_of}
use Rattle.session_turns.specs.Views.{IsOf, IsOwn, IsOwnCommit, coming_in, coming_of, doing_in, state_in}
use Rattle.session_turns.specs.declared.states.InTransaction.{InTransaction}
use Rattle.session_turns.specs.declared.states.InTransaction.TheVariants.{No, Open, Aborted}
use Rattle.session_turns.specs.declared.states.SessionState.{SessionState}
use Rattle.session_turns.specs.declared.turns.LineEffect.{LineEffect}
use Rattle.session_turns.specs.declared.turns.Turn.{Turn}
use Rattle.session_turns.specs.declared.turns.Turn.TheVariants as turn
use Rattle.sql_answer.specs.Answers.{Meaning}
use Rattle.table_store.specs.Stored.{Stands}
use Rattle.script_play.proofs.OverLemmas.{id_is, next_unused, open_unused}
use Rattle.script_play.proofs.TakeLemmas.{own_able, stands_there}
use Rattle.script_play.specs.Effects.{CanCommit, IsAdded, IsEffect, IsUnusedIn, IsVerdictOn, Named, transaction_named, named_so}
use Rattle.script_play.specs.Reading.{CanRead, Reader}
use Rattle.script_play.specs.Ready.{IsAble}
use Rattle.script_play.specs.RunViews.{id_so, world, AreOverIn, CanGoOn, IsOfText, IsReadyFor}
use Rattle.script_play.specs.Start.{Start, ground_of}
use Rattle.script_play.specs.declared.effects.DecidedEffect.{DecidedEffect}
use Rattle.script_play.specs.declared.verdicts.Verdict.{Verdict}

-- the rows at the last position can be read, and those where an open transaction began
pub reads_now : (start : Start) (tables : List TableDef) (log : List Entry) (at : ℕ) → at ≡ length log → IsReadyFor start tables log → CanRead start tables log at
reads_now start tables log at is ready =
    subst (λ (k : ℕ). CanRead start tables log k) (sym is) (record { logged = ready.logged; first = ready.opened; within = omega arith })

pub reads_open : (start : Start) (tables : List TableDef) (log : List Entry) (d : InTransaction) → IsReadyFor start tables log → CanGoOn start tables log d → AllByRecursion (CanRead start tables log) (open_begin (doing_in d))
reads_open start tables log No ready going = tt
reads_open start tables log (Open s) ready going = (record { logged = ready.logged; first = going.first; within = going.within }, tt)
reads_open start tables log Aborted ready going = tt

-- a line that asks for no commit
pub told_effect : (start : Start) (generation : ℕ) (tables : List TableDef) (log : List Entry) (name : List ℕ) (number : ℕ) (replies : List Reply) (after : SessionState) (p : DecidedEffect) → IsOwn generation name after →
    p.number ≡ number → p.replies.items ≡ replies → p.after ≡ after → p.added ≡ None → IsEffect start generation tables log name p (settled_by (world start tables log) number replies (state_in after) None)
told_effect start generation tables log name number replies after p own number_is replies_are after_is added_none = record {
  number = number_is;
  replies = replies_are;
  after = ap state_in after_is;
  own = subst (λ (s : SessionState). IsOwn generation name s) (sym after_is) own;
  added = rw added_none tt;
}

-- a line whose transaction is decided on so
pub decided_effect : (start : Start) (generation : ℕ) (tables : List TableDef) (log : List Entry) (name : List ℕ) (number : ℕ) (replies : List Reply) (after : SessionState) (s : Session) (v : Verdict) (p : DecidedEffect) → IsOwn generation name after →
    IsOf generation name number after.level s → IsVerdictOn start generation tables log s v → p.number ≡ number → p.replies.items ≡ replies ++ v.outcome ∷ [] → p.after ≡ after → p.added ≡ v.added →
    IsEffect start generation tables log name p (settled_by (world start tables log) number replies (state_in after) (coming_of s))
decided_effect start generation tables log name number replies after s v p own its decided number_is replies_are after_is added_is = record {
  number = number_is;
  replies = replies_are ∙ ap (λ (line : Reply). replies ++ line ∷ []) (decided.told ∙ ap (λ (l : Level). outcome_by l) its.level);
  after = ap state_in after_is;
  own = subst (λ (x : SessionState). IsOwn generation name x) (sym after_is) own;
  added = subst (λ (o : Option Entry). IsAdded start tables log o (named_so generation name number s.begin after.level) (added_by (outcome_by after.level) s.ops)) (sym added_is)
      (subst (λ (l : Level). IsAdded start tables log v.added (named_so generation name number s.begin after.level) (added_by (outcome_by l) s.ops)) its.level
      (subst (λ (n : Named). IsAdded start tables log v.added n (added_by (outcome_by s.level) s.ops)) named_is decided.added));
}
  where
    outcome_by : Level → Reply
    outcome_by l = outcome (world start tables log) s.begin l s.genids s.ranges s.ops

    named : ℕ → List ℕ → ℕ → Level → Named
    named began session at l = record { generation = generation; began = began; session = session; number = at; begin = s.begin; level = l }

    named_is : transaction_named generation s ≡ named_so generation name number s.begin after.level
    named_is =
        ap (λ (b : ℕ). named b s.id.session s.id.txn s.level) its.began
        ∙ ap (λ (n : List ℕ). named generation n s.id.txn s.level) its.session
        ∙ ap (λ (t : ℕ). named generation name t s.level) its.txn
        ∙ ap (λ (l : Level). named generation name number l) its.level

-- a line that was done on one history and is settled on it does what it does when nobody comes between
pub turned_effect : (start : Start) (generation : ℕ) (tables : List TableDef) (log : List Entry) (name : List ℕ) (number : ℕ) (level : Level) (what : Doing) (meant : Meaning) (k : Kind) (asked : LineEffect) (p : DecidedEffect) →
    IsDone (world start tables log) (world start tables log) generation name number level what meant k asked →
    IsEffect start generation tables log name p (settled_by (world start tables log) asked.number asked.replies.items (state_in asked.after) (coming_in asked.commits)) →
    IsEffect start generation tables log name p (turn_of (world start tables log) number level meant k what)
turned_effect start generation tables log name number level what meant k asked p done is =
    subst (λ t. IsEffect start generation tables log name p t) (
    ap (λ (n : ℕ). settled_by w n asked.replies.items (state_in asked.after) (coming_in asked.commits)) done.effect.number
    ∙ ap (λ (rs : List Reply). settled_by w (at done.last).number rs (state_in asked.after) (coming_in asked.commits)) done.effect.replies
    ∙ ap (λ (there : SessionAt). settled_by w (at done.last).number (at done.last).replies there (coming_in asked.commits)) done.effect.after
    ∙ ap (λ (c : Option Coming). settled_by w (at done.last).number (at done.last).replies (at done.last).after c) done.effect.commits
    ∙ ap (λ (last : ℕ). settled w (at last)) last_is
    ∙ turns_settled w number level meant k what) is
  where
    w : World
    w = world start tables log

    at : ℕ → Asked
    at last = asked_of (world start tables log) last number level meant k what

    last_is : done.last ≡ (world start tables log).now
    last_is = let a : length log ≤ done.last = done.between.from in let b : done.last ≤ length log = done.between.to in omega (arith, a, b)

not_none : (c : Coming) (o : Option Coming) → Some c ≡ o → o ≡ None → ⊥
not_none c o is none = cc

abbrev begin_in : Option Coming → ℕ
begin_in None = 0
begin_in (Some c) = c.begin

abbrev ops_in : Option Coming → List RowOp
ops_in None = []
ops_in (Some c) = c.ops

module _ (start : Start) (generation : ℕ) (tables : List TableDef) (log : List Entry) (name : List ℕ) (number : ℕ) (level : Level) (meant : Meaning) (ready : IsReadyFor start tables log) (of_text : IsOfText tables meant) where
  -- the transaction that comes to its commit by a line can, by where its session was
  commits_by : (what : InTransaction) (k : Kind) (s : Session) (n : ℕ) → CanGoOn start tables log what → AreOverIn generation name number what log →
      n ≡ (asked_of (world start tables log) (length log) number level meant k (doing_in what)).number → s.id ≡ id_so generation name n →
      coming_of s ≡ (asked_of (world start tables log) (length log) number level meant k (doing_in what)).commits → CanCommit start tables log (Some s)
  commits_by No BeginText s n going over counts named is = absurd (not_none _ _ is refl)
  commits_by No CommitText s n going over counts named is = absurd (not_none _ _ is refl)
  commits_by No RollbackText s n going over counts named is = absurd (not_none _ _ is refl)
  commits_by No (LevelText later) s n going over counts named is = absurd (not_none _ _ is refl)
  commits_by No OtherText s n going over counts named is = (
    own_able start tables (length log) s.begin log meant s.ops [] ready of_text (ap begin_in is) refl
        (ap ops_in is ∙ ap (λ (b : ℕ). (answer_of (world start tables log) b [] meant).ops) (sym (ap begin_in is))),
    next_unused generation name number n log s.id over counts named,
  )
  commits_by (Open t) BeginText s n going over counts named is = absurd (not_none _ _ is refl)
  commits_by (Open t) CommitText s n going over counts named is = (
    subst (λ (b : ℕ). IsAble start tables (length log) log b s.ops) (sym (ap begin_in is))
        (subst (λ (o : List RowOp). IsAble start tables (length log) log t.begin o) (sym (ap ops_in is)) going),
    open_unused generation name number n t log s.id over counts named,
  )
  commits_by (Open t) RollbackText s n going over counts named is = absurd (not_none _ _ is refl)
  commits_by (Open t) (LevelText later) s n going over counts named is = absurd (not_none _ _ is refl)
  commits_by (Open t) OtherText s n going over counts named is = absurd (not_none _ _ is refl)
  commits_by Aborted BeginText s n going over counts named is = absurd (not_none _ _ is refl)
  commits_by Aborted CommitText s n going over counts named is = absurd (not_none _ _ is refl)
  commits_by Aborted RollbackText s n going over counts named is = absurd (not_none _ _ is refl)
  commits_by Aborted (LevelText later) s n going over counts named is = absurd (not_none _ _ is refl)
  commits_by Aborted OtherText s n going over counts named is = absurd (not_none _ _ is refl)

  pub can_commit : (what : InTransaction) (k : Kind) (asked : LineEffect) → CanGoOn start tables log what → AreOverIn generation name number what log →
      IsDone (world start tables log) (world start tables log) generation name number level (doing_in what) meant k asked → CanCommit start tables log asked.commits
  can_commit what k asked going over done = go asked.commits refl
    where
      last_is : done.last ≡ length log
      last_is = let a : length log ≤ done.last = done.between.from in let b : done.last ≤ length log = done.between.to in omega (arith, a, b)

      at : ℕ → Asked
      at last = asked_of (world start tables log) last number level meant k (doing_in what)

      go : (o : Option Session) → asked.commits ≡ o → CanCommit start tables log o
      go None is = tt
      go (Some s) is =
          commits_by what k s asked.number going over (done.effect.number ∙ ap (λ (last : ℕ). (at last).number) last_is)
          (id_is generation name asked.number asked.after.level s (subst (λ (o : Option Session). IsOwnCommit generation name asked.number asked.after.level o) is done.effect.own_commit))
          (sym (ap coming_in is) ∙ done.effect.commits ∙ ap (λ (last : ℕ). (at last).commits) last_is)

-- what a reader was told of a line that is done, in the words of its tables and its log
pub done_on : (start : Start) (n n' : Reader) (tables : List TableDef) (log : List Entry) (generation : ℕ) (name : List ℕ) (number : ℕ) (level : Level) (what : InTransaction) (meant : Meaning) (k : Kind) (t : Turn) (asked : LineEffect) →
    n ≡ record { tables = tables; log = log; generation = generation } → n' ≡ n → t ≡ turn.Done asked → IsTurnBetween (world start n.tables n.log) (world start n'.tables n'.log) n'.generation name number level what meant k t →
    IsDone (world start tables log) (world start tables log) generation name number level (doing_in what) meant k asked
done_on start n n' tables log generation name number level what meant k t asked is same done turned =
    subst (λ (m : Reader). IsDone (world start m.tables m.log) (world start m.tables m.log) m.generation name number level (doing_in what) meant k asked) is
    (subst (λ (m : Reader). IsDone (world start n.tables n.log) (world start m.tables m.log) m.generation name number level (doing_in what) meant k asked) same
    (subst (λ (x : Turn). IsTurnBetween (world start n.tables n.log) (world start n'.tables n'.log) n'.generation name number level what meant k x) done turned))

-- the rows that can be read are those that the pages stand for
pub reads_stand : (start : Start) (tables : List TableDef) (log : List Entry) (at : ℕ) → CanRead start tables log at → Stands (page_at log at) tables (rows_over_at (ground_of start) log at)
reads_stand start tables log at can = stands_there start tables (length log) at log can.logged can.first can.within
