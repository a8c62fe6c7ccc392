-- What is known of a report after a line of the script, from its lines and entries so far, and how one more line keeps it.
use Rattle.std.proofs.Common.{◌≡◌, ℕ, ◌+◌, ◌<◌, ◌≤◌, List, [], ◌∷◌, ◌++◌, refl, sym, subst, ap, arith, ◌∙◌, Option, Some, None, inl, inr, Bool, true, false}
use Rattle.std.proofs.lemmas.List.{append-nil, length-append}
use Rattle.std.proofs.lemmas.Slice.Eq.{bytes_eq-Decides}
use Rattle.std.specs.List.{AllByRecursion}
use Rattle.std.specs.Str.{bytes_eq}
use Rattle.cdb_values.specs.Rows.{Rows}
use Rattle.cdb_values.specs.declared.rows.RowOp.{RowOp}
use Rattle.cdb_values.specs.declared.rows.StatementError.TheVariants.{State}
use Rattle.session_language.specs.Language.{Language, Kind, BeginText, CommitText, RollbackText, LevelText, OtherText}
use Rattle.script_form.specs.declared.scripts.BodyLine.{BodyLine}
use Rattle.script_form.specs.declared.scripts.Act.TheVariants as act
use Rattle.report_laws.specs.History.{Basis, alone_on, rows_at}
use Rattle.report_laws.specs.Play.{number_by, number_told}
use Rattle.report_laws.specs.Told.{lines_of}
use Rattle.report_laws.specs.Work.{Transaction, Does, Lone, Place, next_by, next_place, place_after}
use Rattle.session_language.specs.Touched.{Used}
use Rattle.report_text.specs.declared.reports.EntryLine.{EntryLine}
use Rattle.report_text.specs.declared.reports.EntryLine.TheVariants.{Setup, Commit}
use Rattle.report_text.specs.declared.reports.Line.{Line}
use Rattle.cdb_values.specs.declared.replies.Reply.{Reply}
use Rattle.cdb_values.specs.declared.replies.Reply.TheVariants as reply
use Rattle.session_language.proofs.AnswerLaws.{replies_more}
use Rattle.report_laws.proofs.DecideLemmas.{Decides, Commits}
use Rattle.session_language.proofs.EachLaws.{all_append, all_map}
use Rattle.report_laws.proofs.FrontLemmas.{rows_front}
use Rattle.report_laws.proofs.PieceLaws.{under, under_append, under_own, under_number, under_other}
use Rattle.report_laws.proofs.RestLemmas.{lones, lones_append}
use Rattle.report_laws.proofs.TurnedLaws.{moment, alone_of, IsGoing, begun_at, Turned}
use Rattle.report_laws.proofs.WorkLaws.{IsBegun, first_left, after_own, after_other}

pub same_name : (name : List ℕ) → bytes_eq name name ≡ true
same_name name = (bytes_eq-Decides name name).1 refl

-- what a session was told under a number, with a piece of lines more
more_own : (name : List ℕ) (n : ℕ) (before : List Line) (rs : List Reply) → under name n (before ++ lines_of name n rs) ≡ under name n before ++ rs
more_own name n before rs = under_append name n before (lines_of name n rs) ∙ ap (λ (more : List Reply). under name n before ++ more) (under_own name name n rs (same_name name))

more_number : (name : List ℕ) (n m : ℕ) (before : List Line) (rs : List Reply) → (m ≡ n → ⊥) → under name n (before ++ lines_of name m rs) ≡ under name n before
more_number name n m before rs other =
    under_append name n before (lines_of name m rs) ∙ ap (λ (more : List Reply). under name n before ++ more) (under_number name name n m rs (same_name name) other) ∙ append-nil (under name n before)

more_other : (name session : List ℕ) (n m : ℕ) (before : List Line) (rs : List Reply) → bytes_eq session name ≡ false → under name n (before ++ lines_of session m rs) ≡ under name n before
more_other name session n m before rs other =
    under_append name n before (lines_of session m rs) ∙ ap (λ (more : List Reply). under name n before ++ more) (under_other name session n m rs other) ∙ append-nil (under name n before)

-- what a session at that place of its work was told
pub record IsHeard (basis : Basis) (history : List EntryLine) (p : Place) (name : List ℕ) (before : List Line) : Type 0 where
  pub outside : under name 0 before ≡ lones p.over
  pub unsaid : (n : ℕ) → p.number < n → under name n before ≡ []
  pub going : IsGoing basis history p.pending (under name p.number before)

-- an entry's transaction is over after these lines of the script
abbrev pub IsEnded : Language → List BodyLine → EntryLine → Type 0
IsEnded language done (Setup position) = Unit {0}
IsEnded language done (Commit position session txn begin level) = txn < first_left (place_after language session done).number (place_after language session done).pending

pub record SoFar (basis : Basis) (done : List BodyLine) (before : List Line) (history : List EntryLine) : Type 0 where
  pub heard : (name : List ℕ) → IsHeard basis history (place_after basis.language name done) name before
  pub ended : AllByRecursion (IsEnded basis.language done) history

-- an open transaction goes on when the history grows
going_on : (basis : Basis) (history added : List EntryLine) (pending : Option (List (List ℕ))) (mine : List Reply) → IsGoing basis history pending mine → IsGoing basis (history ++ added) pending mine
going_on basis history added None mine is = tt
going_on basis history added (Some texts) mine (begin, base, le, says) = (
  begin,
  base,
  omega (arith, le, length-append history added),
  says ∙ ap (λ (rows : Rows). reply.Begin begin ∷ (alone_on basis rows texts).replies) (sym (rows_front basis history added begin le)),
)

-- another session's line leaves what a session was told
heard_other : (basis : Basis) (history added : List EntryLine) (p : Place) (name session : List ℕ) (m : ℕ) (before : List Line) (rs : List Reply) → bytes_eq session name ≡ false →
    IsHeard basis history p name before → IsHeard basis (history ++ added) p name (before ++ lines_of session m rs)
heard_other basis history added p name session m before rs other was = record {
  outside = more_other name session 0 m before rs other ∙ was.outside;
  unsaid = λ n new. more_other name session n m before rs other ∙ was.unsaid n new;
  going = subst (λ (mine : List Reply). IsGoing basis (history ++ added) p.pending mine) (sym (more_other name session p.number m before rs other)) (going_on basis history added p.pending (under name p.number before) was.going);
}

module _ (basis : Basis) (history added : List EntryLine) (p : Place) (name text : List ℕ) (before : List Line) (rs : List Reply) (was : IsHeard basis history p name before) where
  abbrev pub IsNext : Kind → Option (List (List ℕ)) → Type 0
  IsNext k pending = IsHeard basis (history ++ added) (next_by p text k pending) name (before ++ lines_of name (number_by p.number k pending) rs)

  -- a transaction is over
  over_does : (t : Transaction) → lones (p.over ++ Does t ∷ []) ≡ lones p.over
  over_does t = lones_append p.over (Does t ∷ []) ∙ append-nil (lones p.over)

  lone_outside : (answer : Reply) → rs ≡ answer ∷ [] → under name 0 (before ++ lines_of name 0 rs) ≡ lones (p.over ++ Lone answer ∷ [])
  lone_outside answer is = more_own name 0 before rs ∙ ap (λ (front : List Reply). front ++ rs) was.outside ∙ ap (λ (more : List Reply). lones p.over ++ more) is ∙ sym (lones_append p.over (Lone answer ∷ []))

  unsaid_zero : (n : ℕ) → p.number < n → under name n (before ++ lines_of name 0 rs) ≡ []
  unsaid_zero n new = more_number name n 0 before rs (λ (same : 0 ≡ n). omega (arith, new, same)) ∙ was.unsaid n new

  unsaid_own : (n : ℕ) → p.number + 1 < n → under name n (before ++ lines_of name (p.number + 1) rs) ≡ []
  unsaid_own n new = more_number name n (p.number + 1) before rs (λ (same : p.number + 1 ≡ n). omega (arith, new, same)) ∙ was.unsaid n (omega (arith, new))

  unsaid_open : (n : ℕ) → p.number < n → under name n (before ++ lines_of name p.number rs) ≡ []
  unsaid_open n new = more_number name n p.number before rs (λ (same : p.number ≡ n). omega (arith, new, same)) ∙ was.unsaid n new

  outside_own : under name 0 (before ++ lines_of name (p.number + 1) rs) ≡ lones p.over
  outside_own = more_number name 0 (p.number + 1) before rs (λ (same : p.number + 1 ≡ 0). omega (arith, same)) ∙ was.outside

  outside_open : 1 ≤ p.number → under name 0 (before ++ lines_of name p.number rs) ≡ lones p.over
  outside_open begun = more_number name 0 p.number before rs (λ (same : p.number ≡ 0). omega (arith, begun, same)) ∙ was.outside

  text_next : (texts : List (List ℕ)) (going : IsGoing basis history (Some texts) (under name p.number before)) →
      rs ≡ (basis.language.answer basis.origin.tables (rows_at basis history going.0).tables (alone_of basis history going.0 texts).ops text).replies →
      IsGoing basis (history ++ added) (Some (texts ++ text ∷ [])) (under name p.number (before ++ lines_of name p.number rs))
  text_next texts (begin, base, le, says) is =
      going_on basis history added (Some (texts ++ text ∷ [])) _ (
        begin,
        base,
        le,
        more_own name p.number before rs
            ∙ ap (λ (front : List Reply). front ++ rs) says
            ∙ ap (λ (more : List Reply). (reply.Begin begin ∷ (alone_of basis history begin texts).replies) ++ more) is
            ∙ ap (λ (all : List Reply). reply.Begin begin ∷ all) (sym (replies_more basis.language basis.origin.tables (rows_at basis history begin).tables [] texts text)),
      )

  -- after a line of its own a session has been told what its work there gives
  pub heard_next : (k : Kind) (pending : Option (List (List ℕ))) (going : IsGoing basis history pending (under name p.number before)) → IsBegun p.number pending →
      Turned basis history name p text k pending (begun_at basis history pending (under name p.number before) going) rs added → IsNext k pending
  heard_next BeginText None going begun turned = record {
    outside = outside_own;
    unsaid = unsaid_own;
    going = (
      moment basis history,
      omega arith,
      omega (arith, length-append history added),
      more_own name (p.number + 1) before rs ∙ ap (λ (front : List Reply). front ++ rs) (was.unsaid (p.number + 1) (omega arith)) ∙ turned.0,
    );
  }
  heard_next CommitText None going begun turned = record { outside = lone_outside (reply.Error State) turned.0; unsaid = unsaid_zero; going = tt }
  heard_next RollbackText None going begun turned = record { outside = lone_outside (reply.Error State) turned.0; unsaid = unsaid_zero; going = tt }
  heard_next (LevelText level) None going begun turned = record { outside = lone_outside (reply.Level level) turned.0; unsaid = unsaid_zero; going = tt }
  heard_next OtherText None going begun turned = record { outside = outside_own ∙ sym (over_does _); unsaid = unsaid_own; going = tt }
  heard_next BeginText (Some texts) going begun turned = record { outside = outside_open begun; unsaid = unsaid_open; going = text_next texts going turned.0 }
  heard_next CommitText (Some texts) going begun turned = record { outside = outside_open begun ∙ sym (over_does _); unsaid = unsaid_open; going = tt }
  heard_next RollbackText (Some texts) going begun turned = record { outside = outside_open begun ∙ sym (over_does _); unsaid = unsaid_open; going = tt }
  heard_next (LevelText level) (Some texts) going begun turned = record { outside = outside_open begun; unsaid = unsaid_open; going = text_next texts going turned.0 }
  heard_next OtherText (Some texts) going begun turned = record { outside = outside_open begun; unsaid = unsaid_open; going = text_next texts going turned.0 }

  -- the entries of a turn are of the session's transaction that is over with it
  abbrev pub IsEndedAt : ℕ → Option (List (List ℕ)) → EntryLine → Type 0
  IsEndedAt number pending (Setup position) = ⊥
  IsEndedAt number pending (Commit position session txn begin level) = (session ≡ name) × (txn < first_left number pending)

  none_ended : (number : ℕ) (pending : Option (List (List ℕ))) → added ≡ [] → AllByRecursion (IsEndedAt number pending) added
  none_ended number pending none = subst (λ (es : List EntryLine). AllByRecursion (IsEndedAt number pending) es) (sym none) tt

  commit_ended : (t : Transaction) (begin position : ℕ) (used : List Used) (ops : List RowOp) (number : ℕ) (pending : Option (List (List ℕ))) → t.number < first_left number pending →
      Commits basis history name t begin used position ops added → AllByRecursion (IsEndedAt number pending) added
  commit_ended t begin position used [] number pending less is = none_ended number pending is.1
  commit_ended t begin position used (op ∷ ops) number pending less is = subst (λ (es : List EntryLine). AllByRecursion (IsEndedAt number pending) es) (sym is.appends) ((refl, less), tt)

  decided_ended : (t : Transaction) (begin : ℕ) (used : List Used) (ops : List RowOp) (o : Reply) (number : ℕ) (pending : Option (List (List ℕ))) → t.number < first_left number pending →
      Decides basis history name t begin used ops o added → AllByRecursion (IsEndedAt number pending) added
  decided_ended t begin used ops o number pending less (inl (position, tells, is)) = commit_ended t begin position used ops number pending less is
  decided_ended t begin used ops o number pending less (inr (inl (position, none, within, is))) = none_ended number pending none
  decided_ended t begin used ops o number pending less (inr (inr (position, table, key, tells, none, at, is))) = none_ended number pending none

  pub turned_ended : (k : Kind) (pending : Option (List (List ℕ))) (begin : ℕ) → Turned basis history name p text k pending begin rs added →
      AllByRecursion (IsEndedAt (next_by p text k pending).number (next_by p text k pending).pending) added
  turned_ended BeginText None begin is = none_ended (next_by p text BeginText None).number (next_by p text BeginText None).pending is.1
  turned_ended CommitText None begin is = none_ended (next_by p text CommitText None).number (next_by p text CommitText None).pending is.1
  turned_ended RollbackText None begin is = none_ended (next_by p text RollbackText None).number (next_by p text RollbackText None).pending is.1
  turned_ended (LevelText level) None begin is = none_ended (next_by p text (LevelText level) None).number (next_by p text (LevelText level) None).pending is.1
  turned_ended OtherText None begin is = decided_ended _ _ _ _ is.outcome (p.number + 1) None (omega arith) is.decides
  turned_ended BeginText (Some texts) begin is = none_ended (next_by p text BeginText (Some texts)).number (next_by p text BeginText (Some texts)).pending is.1
  turned_ended CommitText (Some texts) begin is = decided_ended _ _ _ _ is.outcome p.number None (omega arith) is.decides
  turned_ended RollbackText (Some texts) begin is = none_ended (next_by p text RollbackText (Some texts)).number (next_by p text RollbackText (Some texts)).pending is.1
  turned_ended (LevelText level) (Some texts) begin is = none_ended (next_by p text (LevelText level) (Some texts)).number (next_by p text (LevelText level) (Some texts)).pending is.1
  turned_ended OtherText (Some texts) begin is = none_ended (next_by p text OtherText (Some texts)).number (next_by p text OtherText (Some texts)).pending is.1

-- what is over stays so with a line more
first_left_grows : (p : Place) (text : List ℕ) (k : Kind) (pending : Option (List (List ℕ))) → first_left p.number pending ≤ first_left (next_by p text k pending).number (next_by p text k pending).pending
first_left_grows p text BeginText None = omega arith
first_left_grows p text CommitText None = omega arith
first_left_grows p text RollbackText None = omega arith
first_left_grows p text (LevelText level) None = omega arith
first_left_grows p text OtherText None = omega arith
first_left_grows p text BeginText (Some texts) = omega arith
first_left_grows p text CommitText (Some texts) = omega arith
first_left_grows p text RollbackText (Some texts) = omega arith
first_left_grows p text (LevelText level) (Some texts) = omega arith
first_left_grows p text OtherText (Some texts) = omega arith

module _ (basis : Basis) (done : List BodyLine) (b : BodyLine) (session text : List ℕ) (is_act : b.act ≡ act.Say session text) where
  abbrev at : Place
  at = place_after basis.language session done

  own_place : place_after basis.language session (done ++ b ∷ []) ≡ next_place basis.language at text
  own_place = after_own basis.language session session text b done is_act (same_name session)

  ended_stays : (e : EntryLine) → IsEnded basis.language done e → IsEnded basis.language (done ++ b ∷ []) e
  ended_stays (Setup position) is = tt
  ended_stays (Commit position name txn begin level) is = go (bytes_eq session name) refl
    where
      less : txn < first_left (place_after basis.language name done).number (place_after basis.language name done).pending
      less = is

      go : (c : Bool) → bytes_eq session name ≡ c → txn < first_left (place_after basis.language name (done ++ b ∷ [])).number (place_after basis.language name (done ++ b ∷ [])).pending
      go true same =
          let grows = first_left_grows (place_after basis.language name done) text (basis.language.kind text) (place_after basis.language name done).pending in
          subst (λ (p : Place). txn < first_left p.number p.pending) (sym (after_own basis.language name session text b done is_act same)) (omega (arith, less, grows))
      go false other = subst (λ (p : Place). txn < first_left p.number p.pending) (sym (after_other basis.language name session text b done is_act other)) less

  -- a turn keeps what is known
  pub so_far_next : (before : List Line) (history added : List EntryLine) (rs : List Reply) (was : SoFar basis done before history) → IsBegun at.number at.pending →
      Turned basis history session at text (basis.language.kind text) at.pending (begun_at basis history at.pending (under session at.number before) (was.heard session).going) rs added →
      SoFar basis (done ++ b ∷ []) (before ++ lines_of session (number_told basis.language at text) rs) (history ++ added)
  so_far_next before history added rs was begun turned = record {
    heard = heard;
    ended = all_append (IsEnded basis.language (done ++ b ∷ [])) history added (all_map (IsEnded basis.language done) (IsEnded basis.language (done ++ b ∷ [])) ended_stays history was.ended)
        (all_map (IsEndedAt basis history added at session text before rs (was.heard session) (next_place basis.language at text).number (next_place basis.language at text).pending) (IsEnded basis.language (done ++ b ∷ [])) ended_of added
        (turned_ended basis history added at session text before rs (was.heard session) (basis.language.kind text) at.pending _ turned));
  }
    where
      ended_of : (e : EntryLine) → IsEndedAt basis history added at session text before rs (was.heard session) (next_place basis.language at text).number (next_place basis.language at text).pending e → IsEnded basis.language (done ++ b ∷ []) e
      ended_of (Setup position) is = absurd is
      ended_of (Commit position name txn begin level) is =
          subst (λ (n : List ℕ). txn < first_left (place_after basis.language n (done ++ b ∷ [])).number (place_after basis.language n (done ++ b ∷ [])).pending) (sym is.0)
          (subst (λ (p : Place). txn < first_left p.number p.pending) (sym own_place) is.1)

      after : List Line
      after = before ++ lines_of session (number_told basis.language at text) rs

      heard : (name : List ℕ) → IsHeard basis (history ++ added) (place_after basis.language name (done ++ b ∷ [])) name after
      heard name = go (bytes_eq session name) refl
        where
          go : (c : Bool) → bytes_eq session name ≡ c → IsHeard basis (history ++ added) (place_after basis.language name (done ++ b ∷ [])) name after
          go true same =
              subst (λ (n : List ℕ). IsHeard basis (history ++ added) (place_after basis.language n (done ++ b ∷ [])) n after) ((bytes_eq-Decides session name).0 same)
              (subst (λ (p : Place). IsHeard basis (history ++ added) p session after) (sym own_place)
              (heard_next basis history added at session text before rs (was.heard session) (basis.language.kind text) at.pending (was.heard session).going begun turned))
          go false other =
              subst (λ (p : Place). IsHeard basis (history ++ added) p name after) (sym (after_other basis.language name session text b done is_act other))
              (heard_other basis history added (place_after basis.language name done) name session (number_told basis.language at text) before rs other (was.heard name))
