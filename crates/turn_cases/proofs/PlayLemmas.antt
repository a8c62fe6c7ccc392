-- Where a session is behind a line is its own.
use Rattle.std.proofs.Common.{◌≡◌, ℕ, List, Result, Ok, Err, IfOk, sym, subst}
use Rattle.cdb_values.specs.declared.rows.Level.{Level}
use Rattle.session_language.specs.Language.{Kind}
use Rattle.session_turns.specs.Answers.{IsDone, IsTurnBetween}
use Rattle.session_turns.specs.Step.{World}
use Rattle.session_turns.specs.Views.{doing_in, IsOwn}
use Rattle.session_turns.specs.declared.states.InTransaction.{InTransaction}
use Rattle.session_turns.specs.declared.states.SessionState.{SessionState}
use Rattle.session_turns.specs.declared.turns.LineEffect.{LineEffect}
use Rattle.session_turns.specs.declared.turns.Turn.{Turn}
use Rattle.session_turns.specs.declared.turns.Turn.TheVariants as turn
use Rattle.sql_answer.specs.Answers.{Meaning}

pub own_after : {E : Type 0} (result : Result SessionState E) (w w' : World) (name : List ℕ) (number : ℕ) (level : Level) (what : InTransaction) (meant : Meaning) (k : Kind) (t : Turn) (p : LineEffect) →
    t ≡ turn.Done p → IsTurnBetween w w' 1 name number level what meant k t → IfOk result (λ after. after ≡ p.after) → IfOk result (IsOwn 1 name)
own_after (Ok after) w w' name number level what meant k t p is turned same =
    let done : IsDone w w' 1 name number level (doing_in what) meant k p = subst (λ (x : Turn). IsTurnBetween w w' 1 name number level what meant k x) is turned in
    subst (λ (s : SessionState). IsOwn 1 name s) (sym same) done.effect.own
own_after (Err e) w w' name number level what meant k t p is turned same = tt
