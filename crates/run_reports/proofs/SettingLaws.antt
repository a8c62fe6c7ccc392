-- The setting of a script is of it, and follows it.
use Rattle.std.proofs.Common.{ℕ, ◌≡◌, ◌+◌, ◌-◌, ◌<◌, List, [], ◌∷◌, length, arith, refl, sym, subst, ap, ◌∙◌}
use Rattle.std.specs.Prelude.{zero, suc, ◌==◌, Bool, true, false, ltb, if◌then◌else◌, Option, Some, None, replicate, slice_get}
use Rattle.std.specs.List.{AllByRecursion}
use Rattle.std.specs.Str.{bytes_eq}
use Rattle.std.proofs.lemmas.Bool.Decides.{Decides-eqb, Decides-ltb}
use Rattle.std.proofs.lemmas.List.{length-replicate}
use Rattle.std.proofs.lemmas.Slice.Eq.{bytes_eq-Decides}
use mathlib.Core.Logic.{◌⊎◌, inl, inr}
use Rattle.byte_words.specs.Names.{begins_lower}
use Rattle.cdb_values.specs.declared.tables.TableDef.{TableDef}
use Rattle.cluster_events.specs.Guards.{Rising}
use Rattle.cluster_events.specs.Settings.{work_of}
use Rattle.cluster_reports.specs.Runs.{FitsScript, FollowsScript}
use Rattle.cluster_runs.proofs.PlanLaws.{plan_of}
use Rattle.cluster_runs.proofs.WrittenLaws.{follows}
use Rattle.cluster_steps.specs.Guards.{IsPlan}
use Rattle.history_report.specs.Told.{CallsSessions, session_at}
use Rattle.history_report.proofs.NumberLaws.{AreInTurn, work_in_turn}
use Rattle.report_laws.specs.Work.{WorkItem, Does, Lone, items_at, place_from, said, said_by, start, work}
use Rattle.script_form.specs.CanRun.{IsDeclared}
use Rattle.script_form.specs.declared.scripts.Act.{Act}
use Rattle.script_form.specs.declared.scripts.Act.TheVariants as act
use Rattle.script_form.specs.declared.scripts.BodyLine.{BodyLine}
use Rattle.script_form.specs.declared.scripts.Script.{Script}
use Rattle.script_form.specs.declared.scripts.SessionLine.{SessionLine}
use Rattle.session_language.specs.Answers.{Answers}
use Rattle.session_language.specs.Language.{Language}
use Rattle.run_reports.specs.Written.{HasSessions, IsOfSession, called, name_or, setting_of, unscripted}

-- no name is of zeros
not_zeros : (i : ℕ) (name : List ℕ) → begins_lower name ≡ true → name ≡ replicate i 0 → ⊥
not_zeros zero name lower same = let e : begins_lower [] ≡ true = subst (λ (n : List ℕ). begins_lower n ≡ true) same lower in absurd (cc e)
not_zeros (suc i) name lower same = let e : begins_lower (0 ∷ replicate i 0) ≡ true = subst (λ (n : List ℕ). begins_lower n ≡ true) same lower in absurd (cc e)

is_same : (a b : List ℕ) → bytes_eq a b ≡ true → a ≡ b
is_same a b e = (bytes_eq-Decides a b).0 e

is_other : (a b : List ℕ) → (a ≡ b → ⊥) → bytes_eq a b ≡ false
is_other a b other = go (bytes_eq a b) refl
  where
    go : (x : Bool) → bytes_eq a b ≡ x → x ≡ false
    go true e = absurd (other (is_same a b e))
    go false e = refl

-- a session's name begins as names do
lower_at : (sessions : List SessionLine) (k : ℕ) (s : SessionLine) → AllByRecursion (λ (x : SessionLine). begins_lower x.name ≡ true) sessions → slice_get sessions k ≡ Some s → begins_lower s.name ≡ true
lower_at [] k s all at = absurd (cc at)
lower_at (x ∷ xs) zero s all at = let e : x ≡ s = cc at in subst (λ (y : SessionLine). begins_lower y.name ≡ true) e all.0
lower_at (x ∷ xs) (suc k) s all at = lower_at xs k s all.1 at

declared_at : (sessions : List SessionLine) (k : ℕ) (s : SessionLine) → slice_get sessions k ≡ Some s → IsDeclared s.name sessions
declared_at [] k s at = absurd (cc at)
declared_at (x ∷ xs) zero s at = let e : x ≡ s = cc at in inl (ap (λ (y : SessionLine). y.name) e)
declared_at (x ∷ xs) (suc k) s at = inr (declared_at xs k s at)

declared_lower : (sessions : List SessionLine) (name : List ℕ) → AllByRecursion (λ (x : SessionLine). begins_lower x.name ≡ true) sessions → IsDeclared name sessions → begins_lower name ≡ true
declared_lower [] name all is = absurd is
declared_lower (x ∷ xs) name all (inl same) = subst (λ (n : List ℕ). begins_lower n ≡ true) same all.0
declared_lower (x ∷ xs) name all (inr later) = declared_lower xs name all.1 later

-- a name is one of the sessions', or of none
record IsFound (sessions : List SessionLine) (name : List ℕ) : Type 0 where
  place : ℕ
  session : SessionLine
  at : slice_get sessions place ≡ Some session
  same : session.name ≡ name

find : (sessions : List SessionLine) (name : List ℕ) → IsFound sessions name ⊎ (IsDeclared name sessions → ⊥)
find [] name = inr (λ is. is)
find (x ∷ xs) name = go (bytes_eq x.name name) refl (find xs name)
  where
    go : (b : Bool) → bytes_eq x.name name ≡ b → IsFound xs name ⊎ (IsDeclared name xs → ⊥) → IsFound (x ∷ xs) name ⊎ (IsDeclared name (x ∷ xs) → ⊥)
    go true e later = inl (record { place = 0; session = x; at = refl; same = is_same x.name name e })
    go false e (inl f) = inl (record { place = suc f.place; session = f.session; at = f.at; same = f.same })
    go false e (inr none) = inr (λ is. elim is [
      | inl same ↦ (let t : bytes_eq x.name name ≡ true = (bytes_eq-Decides x.name name).1 same in absurd (cc (e, t)))
      | inr later ↦ none later
    ])

-- the session that is an actor stands in the script
session_is : (n i : ℕ) (sessions : List SessionLine) (s : SessionLine) → session_at n sessions i ≡ Some s → (n < i) × (slice_get sessions (i - (n + 1)) ≡ Some s)
session_is n i sessions s at = go (ltb n i) refl
  where
    go : (b : Bool) → ltb n i ≡ b → (n < i) × (slice_get sessions (i - (n + 1)) ≡ Some s)
    go true low = ((Decides-ltb n i).0 low, sym (ap (λ (b : Bool). if b then slice_get sessions (i - (n + 1)) else None) low) ∙ at)
    go false low = absurd (cc (sym (ap (λ (b : Bool). if b then slice_get sessions (i - (n + 1)) else None) low) ∙ at))

session_of : (n k : ℕ) (sessions : List SessionLine) → session_at n sessions (n + 1 + k) ≡ slice_get sessions k
session_of n k sessions =
    let low : n < n + 1 + k = omega arith in
    let e : (n + 1 + k) - (n + 1) ≡ k = omega arith in
    ap (λ (b : Bool). if b then slice_get sessions ((n + 1 + k) - (n + 1)) else None) ((Decides-ltb n (n + 1 + k)).1 low) ∙ ap (λ j. slice_get sessions j) e

-- a session that says nothing has no work
says_by : (name : List ℕ) (sessions : List SessionLine) (a : Act) (later : List (List ℕ)) → (IsDeclared name sessions → ⊥) → IsOfSession sessions a → said_by name a later ≡ later
says_by name sessions (act.Say session text) later none is =
    ap (λ (b : Bool). if b then text ∷ later else later) (is_other session name (λ same. none (subst (λ (n : List ℕ). IsDeclared n sessions) same is)))
says_by name sessions (act.Stop node) later none is = refl
says_by name sessions (act.Start node) later none is = refl
says_by name sessions (act.Arm session moment) later none is = refl
says_by name sessions act.Barrier later none is = refl
says_by name sessions act.Feed later none is = refl

says_nothing : (name : List ℕ) (sessions : List SessionLine) (body : List BodyLine) → (IsDeclared name sessions → ⊥) → AllByRecursion (λ (l : BodyLine). IsOfSession sessions l.act) body → said name body ≡ []
says_nothing name sessions [] none all = refl
says_nothing name sessions (l ∷ ls) none all = says_by name sessions l.act (said name ls) none all.0 ∙ says_nothing name sessions ls none all.1

no_work : (language : Language) (name : List ℕ) (body : List BodyLine) → said name body ≡ [] → work language name body ≡ []
no_work language name body none = ap (λ (texts : List (List ℕ)). items_at (place_from language start texts)) none

-- transactions that are numbered one after the other are numbered upwards
rises : (k : ℕ) (items : List WorkItem) → AreInTurn (k + 1) items → Rising k items
rises k [] turn = tt
rises k (Does t ∷ items) turn =
    let e : t.number ≡ k + 1 = turn.0 in
    let low : k < t.number = omega arith in
    (low, subst (λ n. Rising n items) (sym e) (rises (k + 1) items turn.1))
rises k (Lone r ∷ items) turn = rises k items turn

-- what an actor is called
called_by : (n i : ℕ) (sessions : List SessionLine) (o : Option SessionLine) → session_at n sessions i ≡ o → called n sessions i ≡ name_or i o
called_by n i sessions o e = ap (λ (x : Option SessionLine). name_or i x) e

undeclared : (script : Script) (i : ℕ) → HasSessions script → session_at script.nodes script.sessions i ≡ None → IsDeclared (called script.nodes script.sessions i) script.sessions → ⊥
undeclared script i has none is =
    let zeros : called script.nodes script.sessions i ≡ replicate i 0 = called_by script.nodes i script.sessions None none in
    not_zeros i (called script.nodes script.sessions i) (declared_lower script.sessions (called script.nodes script.sessions i) has.named is) zeros

same_actor : (script : Script) (i j : ℕ) → HasSessions script → (a b : Option SessionLine) → session_at script.nodes script.sessions i ≡ a → session_at script.nodes script.sessions j ≡ b → name_or i a ≡ name_or j b → i ≡ j
same_actor script i j has None None e f same = sym (length-replicate {A = ℕ} i 0) ∙ (ap (λ (n : List ℕ). length n) same ∙ length-replicate {A = ℕ} j 0)
same_actor script i j has (Some s) None e f same =
    let at = session_is script.nodes i script.sessions s e in
    absurd (not_zeros j s.name (lower_at script.sessions (i - (script.nodes + 1)) s has.named at.1) same)
same_actor script i j has None (Some s) e f same =
    let at = session_is script.nodes j script.sessions s f in
    absurd (not_zeros i s.name (lower_at script.sessions (j - (script.nodes + 1)) s has.named at.1) (sym same))
same_actor script i j has (Some a) (Some b) e f same =
    let x = session_is script.nodes i script.sessions a e in
    let y = session_is script.nodes j script.sessions b f in
    let k : i - (script.nodes + 1) ≡ j - (script.nodes + 1) = has.apart (i - (script.nodes + 1)) (j - (script.nodes + 1)) a b x.1 y.1 same in
    let p : script.nodes < i = x.0 in
    let q : script.nodes < j = y.0 in
    omega arith

named_apart : (script : Script) → HasSessions script → (i j : ℕ) → (i == j) ≡ false → bytes_eq (called script.nodes script.sessions i) (called script.nodes script.sessions j) ≡ false
named_apart script has i j ne = is_other (called script.nodes script.sessions i) (called script.nodes script.sessions j) (λ same. (
    let e : i ≡ j = same_actor script i j has (session_at script.nodes script.sessions i) (session_at script.nodes script.sessions j) refl refl same in
    absurd (cc (ne, (Decides-eqb i j).1 e))))

covered : (language : Language) (script : Script) → HasSessions script → (name : List ℕ) → ((s : ℕ) × (called script.nodes script.sessions s ≡ name)) ⊎ ((work language name script.body ≡ []) × ((i : ℕ) → bytes_eq (called script.nodes script.sessions i) name ≡ false))
covered language script has name = go (find script.sessions name)
  where
    n : ℕ
    n = script.nodes

    names : ℕ → List ℕ
    names = called script.nodes script.sessions

    zeros : (i : ℕ) (o : Option SessionLine) → (IsDeclared name script.sessions → ⊥) → session_at n script.sessions i ≡ o → name_or i o ≡ name → names (length name) ≡ name
    zeros i None none at same =
        let e : i ≡ length name = sym (length-replicate {A = ℕ} i 0) ∙ ap (λ (x : List ℕ). length x) same in
        subst (λ j. names j ≡ name) e (called_by n i script.sessions None at ∙ same)
    zeros i (Some s) none at same =
        absurd (none (subst (λ (x : List ℕ). IsDeclared x script.sessions) same (declared_at script.sessions (i - (n + 1)) s (session_is n i script.sessions s at).1)))

    by : (b : Bool) → bytes_eq (names (length name)) name ≡ b → (IsDeclared name script.sessions → ⊥) → ((s : ℕ) × (names s ≡ name)) ⊎ ((work language name script.body ≡ []) × ((i : ℕ) → bytes_eq (names i) name ≡ false))
    by true e none = inl (length name, is_same (names (length name)) name e)
    by false e none = inr (
      no_work language name script.body (says_nothing name script.sessions script.body none has.said),
      λ i. is_other (names i) name (λ same. (
          let z : names (length name) ≡ name = zeros i (session_at n script.sessions i) none refl same in
          absurd (cc (e, (bytes_eq-Decides (names (length name)) name).1 z)))),
    )

    go : IsFound script.sessions name ⊎ (IsDeclared name script.sessions → ⊥) → ((s : ℕ) × (names s ≡ name)) ⊎ ((work language name script.body ≡ []) × ((i : ℕ) → bytes_eq (names i) name ≡ false))
    go (inl f) = inl (n + 1 + f.place, called_by n (n + 1 + f.place) script.sessions (Some f.session) (session_of n f.place script.sessions ∙ f.at) ∙ f.same)
    go (inr none) = by (bytes_eq (names (length name)) name) refl none

pub fits : (language : Language) (script : Script) (tables : List TableDef) → HasSessions script → FitsScript (setting_of language script tables)
fits language script tables has = record {
  apart = named_apart script has;
  covers = covered language script has;
  nodes = refl;
  rising = λ s. rises 0 (work_of (setting_of language script tables) s) (work_in_turn (setting_of language script tables) s);
}

no_session : (n : ℕ) (sessions : List SessionLine) → session_at n sessions 0 ≡ None
no_session n sessions = go (ltb n 0) refl
  where
    go : (b : Bool) → ltb n 0 ≡ b → (if b then slice_get sessions (0 - (n + 1)) else None) ≡ None
    go true e = let l : n < 0 = (Decides-ltb n 0).0 e in absurd (omega arith)
    go false e = refl

pub follows_it : (language : Language) (script : Script) (tables : List TableDef) → Answers language → HasSessions script → FollowsScript (setting_of language script tables)
follows_it language script tables answers has =
    follows (unscripted language script tables) answers (says_nothing (called script.nodes script.sessions 0) script.sessions script.body (undeclared script 0 has (no_session script.nodes script.sessions)) has.said)

pub calls : (language : Language) (script : Script) (tables : List TableDef) → HasSessions script → CallsSessions (setting_of language script tables) script.sessions
calls language script tables has = record { called = λ i some. go i (session_at script.nodes script.sessions i) refl some }
  where
    go : (i : ℕ) (o : Option SessionLine) → session_at script.nodes script.sessions i ≡ o → (work_of (setting_of language script tables) i ≡ [] → ⊥)
        → (session : SessionLine) × (session_at script.nodes script.sessions i ≡ Some session) × (called script.nodes script.sessions i ≡ session.name)
    go i None at some = absurd (some (no_work language (called script.nodes script.sessions i) script.body (says_nothing (called script.nodes script.sessions i) script.sessions script.body (undeclared script i has at) has.said)))
    go i (Some s) at some = (s, at, called_by script.nodes i script.sessions (Some s) at)

pub its_plan : (language : Language) (script : Script) (tables : List TableDef) → Answers language → HasSessions script → IsPlan (setting_of language script tables)
its_plan language script tables answers has = plan_of (setting_of language script tables) (fits language script tables has) (follows_it language script tables answers has)
