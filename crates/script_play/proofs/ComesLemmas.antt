-- A session comes to a line of its own, wherever the node stands.
use Rattle.std.proofs.Common.{◌≡◌, ℕ, List, [], ◌∷◌, ◌++◌, refl, sym, subst, ap, arith, Option, Some, None, ◌∙◌, Bool, true, false, eq-eqb}
use Rattle.std.specs.Cmp.Lexicographic.{same_text}
use Rattle.std.specs.List.{AllByRecursion}
use Rattle.std.specs.Str.{bytes_eq, is_utf8}
use Rattle.cdb_values.specs.declared.rows.Change.{Change}
use Rattle.report_laws.specs.Told.{told}
use Rattle.report_laws.specs.Work.{Place, next_by, next_place, place_after}
use Rattle.report_laws.proofs.WorkLaws.{after_own, after_other, its_transaction}
use Rattle.report_text.specs.declared.reports.EntryLine.{EntryLine}
use Rattle.report_text.specs.declared.reports.EntryLine.TheVariants.{Setup, Commit}
use Rattle.report_text.specs.declared.reports.Line.{Line}
use Rattle.script_form.specs.CanRun.{script_tables}
use Rattle.script_form.specs.declared.scripts.Act.TheVariants.{Say}
use Rattle.script_form.specs.declared.scripts.BodyLine.{BodyLine}
use Rattle.script_form.specs.declared.scripts.Script.{Script}
use Rattle.session_language.specs.Language.{Kind, BeginText, CommitText, RollbackText, LevelText, OtherText}
use Rattle.session_language.proofs.EachLaws.{all_map}
use Rattle.query_laws.specs.Alone.{sql_language}
use Rattle.sql_answer.specs.Reading.{kind_of_text}
use Rattle.session_turns.specs.Doing.{SessionAt}
use Rattle.script_play.specs.Ready.{IsAskable}
use Rattle.session_turns.specs.Seen.{SeenRows}
use Rattle.script_play.specs.SoFar.{state_of, IsEnded, IsPast, SoFar}
use Rattle.script_play.specs.Start.{Start}
use Rattle.script_play.proofs.TurnLemmas.{Comes, IsPastOf}

-- a name is the same as itself, and names that are the same are one
pub same_itself : (name : List ℕ) → bytes_eq name name ≡ true
same_itself [] = refl
same_itself (b ∷ bs) = rw (eq-eqb b b refl) (same_itself bs)

pub same_name : (name m : List ℕ) → bytes_eq name m ≡ true → name ≡ m
same_name name m is = same_text name m (sym is)

-- what is over stays over
past_next : (p : Place) (text : List ℕ) (k : Kind) (pending : Option (List (List ℕ))) (txn : ℕ) → IsPast p.number pending txn → IsPast (next_by p text k pending).number (next_by p text k pending).pending txn
past_next p text BeginText None txn is = omega (arith, is)
past_next p text CommitText None txn is = is
past_next p text RollbackText None txn is = is
past_next p text (LevelText later) None txn is = is
past_next p text OtherText None txn is = omega (arith, is)
past_next p text BeginText (Some texts) txn is = is
past_next p text CommitText (Some texts) txn is = omega (arith, is)
past_next p text RollbackText (Some texts) txn is = omega (arith, is)
past_next p text (LevelText later) (Some texts) txn is = is
past_next p text OtherText (Some texts) txn is = is

-- an entry of a transaction that is over stays so
pub ended_later : (done : List BodyLine) (l : BodyLine) (name text : List ℕ) → l.act ≡ Say name text → (e : EntryLine) → IsEnded done e → IsEnded (done ++ l ∷ []) e
ended_later done l name text is_act (Setup position) is = tt
ended_later done l name text is_act (Commit position session txn begin level) is = pick (bytes_eq name session) refl
  where
    pick : (b : Bool) → bytes_eq name session ≡ b → IsPast (place_after sql_language session (done ++ l ∷ [])).number (place_after sql_language session (done ++ l ∷ [])).pending txn
    pick true same = subst (λ (p : Place). IsPast p.number p.pending txn) (sym (after_own sql_language session name text l done is_act same))
        (past_next (place_after sql_language session done) text (kind_of_text text) (place_after sql_language session done).pending txn is)
    pick false differs = subst (λ (p : Place). IsPast p.number p.pending txn) (sym (after_other sql_language session name text l done is_act differs)) is

module _ (script : Script) (start : Start) (down : Bool) (done left : List BodyLine) (l : BodyLine) (lines : List Line) (entries : List EntryLine) (changed : List (List Change)) (seen : SeenRows) (states : List SessionAt) (name text : List ℕ)
    (was : SoFar script start down done (l ∷ left) lines entries changed seen states) (is_act : l.act ≡ Say name text) where
  abbrev pub place : Place
  place = place_after sql_language name done

  own_place : place_after sql_language name (done ++ l ∷ []) ≡ next_place sql_language place text
  own_place = after_own sql_language name name text l done is_act (same_itself name)

  -- the session before its line
  pub comes : AllByRecursion IsAskable (script_tables script) → is_utf8 text ≡ true → Comes script start entries changed seen name place place.pending (state_of name script.sessions states).doing text (kind_of_text text) (told name lines)
  comes askable utf8 = record {
    askable = askable;
    utf8 = utf8;
    stored = was.stored;
    before = (was.standing name).before;
    mine = (was.standing name).mine;
    is = (was.standing name).is;
    past = (was.standing name).past;
    doing = (was.standing name).doing;
    entered = all_map (IsEnded done) (IsPastOf name place.number place.pending) of_name entries was.ended;
    its = λ t ends number. its_transaction sql_language name name text script.body done left l t was.body is_act (same_itself name)
        (ap (λ (p : Place). p.over) own_place ∙ ends) (number ∙ ap (λ (p : Place). p.number) (sym own_place));
  }
    where
      of_name : (e : EntryLine) → IsEnded done e → IsPastOf name place.number place.pending e
      of_name (Setup position) is = tt
      of_name (Commit position session txn begin level) is = λ same. subst (λ n. IsPast (place_after sql_language n done).number (place_after sql_language n done).pending txn) (same_name session name same) is
