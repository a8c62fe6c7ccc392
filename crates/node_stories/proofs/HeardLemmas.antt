-- What the lawful stories use: laws on each session, where two of them say and are told something.
use Rattle.std.proofs.Common.{◌≡◌, ℕ, ◌≤◌, List, [], ◌∷◌, ◌++◌, refl, sym, subst, ap, ◌∙◌, Option, Some, None, Bool, true, false, codes, inl, inr}
use Rattle.std.specs.List.{AllByRecursion}
use Rattle.std.specs.Str.{bytes_eq}
use Rattle.std.proofs.lemmas.Slice.Eq.{bytes_eq-Decides}
use Rattle.cdb_values.specs.declared.replies.Reply.{Reply}
use Rattle.script_form.specs.declared.scripts.Act.{Act}
use Rattle.script_form.specs.declared.scripts.Act.TheVariants as act
use Rattle.script_form.specs.declared.scripts.BodyLine.{BodyLine}
use Rattle.session_language.proofs.AllLaws.{all_standing}
use Rattle.session_language.proofs.EachLaws.{all_front}
use Rattle.session_language.proofs.UpToLaws.{same_head, same_tail}
use Rattle.report_laws.specs.History.{Basis}
use Rattle.report_laws.specs.Lawful.{NameUpTo}
use Rattle.report_laws.specs.Told.{told, Along}
use Rattle.report_laws.specs.View.{View}
use Rattle.report_laws.specs.Work.{WorkItem, items_at, place_from, said, said_by, start, work}
use Rattle.report_text.specs.declared.reports.Line.{Line}
use Rattle.report_text.specs.declared.reports.Line.TheVariants as line
use Rattle.report_worked.specs.Small.{small_language}
use Rattle.report_worked.proofs.WorkedLemmas.{IsTheirs}
use Rattle.node_reports.specs.Fed.{IsFedAt}
use Rattle.node_reports.specs.Pieces.{AreOf, ArePieces}

-- whose line it is, if a session's: of a or of b
abbrev pub IsSaidByThem : Act → Type 0
IsSaidByThem (act.Say session text) = IsTheirs session
IsSaidByThem (act.Stop node) = Unit {0}
IsSaidByThem (act.Start node) = Unit {0}
IsSaidByThem (act.Arm session moment) = Unit {0}
IsSaidByThem act.Barrier = Unit {0}
IsSaidByThem act.Feed = Unit {0}

abbrev pub IsToThem : Line → Type 0
IsToThem (line.Session session txn answer) = IsTheirs session
IsToThem (line.Down count node fault) = Unit {0}
IsToThem (line.Up node) = Unit {0}
IsToThem line.Barrier = Unit {0}
IsToThem (line.Fed position) = Unit {0}

other_name : (name session : List ℕ) → bytes_eq (codes "a") name ≡ false → bytes_eq (codes "b") name ≡ false → IsTheirs session → bytes_eq session name ≡ false
other_name name session a b (inl is) = rw is a
other_name name session a b (inr is) = rw is b

nothing_said : (name : List ℕ) (body : List BodyLine) → bytes_eq (codes "a") name ≡ false → bytes_eq (codes "b") name ≡ false → AllByRecursion (λ l. IsSaidByThem l.act) body → said name body ≡ []
nothing_said name [] a b all = refl
nothing_said name (l ∷ ls) a b all = go l.act all.0 (nothing_said name ls a b all.1)
  where
    go : (what : Act) → IsSaidByThem what → said name ls ≡ [] → said_by name what (said name ls) ≡ []
    go (act.Say session text) is none = rw (other_name name session a b is) none
    go (act.Stop node) is none = none
    go (act.Start node) is none = none
    go (act.Arm session moment) is none = none
    go act.Barrier is none = none
    go act.Feed is none = none

nothing_told : (name : List ℕ) (lines : List Line) → bytes_eq (codes "a") name ≡ false → bytes_eq (codes "b") name ≡ false → AllByRecursion IsToThem lines → told name lines ≡ []
nothing_told name [] a b all = refl
nothing_told name (line.Session session txn answer ∷ ls) a b all = rw (other_name name session a b all.0) (nothing_told name ls a b all.1)
nothing_told name (line.Down count node fault ∷ ls) a b all = nothing_told name ls a b all.1
nothing_told name (line.Up node ∷ ls) a b all = nothing_told name ls a b all.1
nothing_told name (line.Barrier ∷ ls) a b all = nothing_told name ls a b all.1
nothing_told name (line.Fed position ∷ ls) a b all = nothing_told name ls a b all.1

-- what holds of a and of b, and of each that says nothing and is told nothing, holds of all
each_name : (P : List ℕ → Type 0) (body : List BodyLine) (lines : List Line) → AllByRecursion (λ l. IsSaidByThem l.act) body → AllByRecursion IsToThem lines →
    P (codes "a") → P (codes "b") → ((name : List ℕ) → said name body ≡ [] → told name lines ≡ [] → P name) → (name : List ℕ) → P name
each_name P body lines theirs to_them of_a of_b others name = go (bytes_eq (codes "a") name) (bytes_eq (codes "b") name) refl refl
  where
    go : (a b : Bool) → bytes_eq (codes "a") name ≡ a → bytes_eq (codes "b") name ≡ b → P name
    go true b is_a is_b = subst P ((bytes_eq-Decides (codes "a") name).0 is_a) of_a
    go false true is_a is_b = subst P ((bytes_eq-Decides (codes "b") name).0 is_b) of_b
    go false false is_a is_b = others name (nothing_said name body is_a is_b theirs) (nothing_told name lines is_a is_b to_them)

-- a law along the work of each session
pub along_them : (P : List ℕ → WorkItem → List Reply → Type 0) (body : List BodyLine) (lines : List Line) → AllByRecursion (λ l. IsSaidByThem l.act) body → AllByRecursion IsToThem lines →
    Along (P (codes "a")) (work small_language (codes "a") body) (told (codes "a") lines) → Along (P (codes "b")) (work small_language (codes "b") body) (told (codes "b") lines) →
    (name : List ℕ) → Along (P name) (work small_language name body) (told name lines)
along_them P body lines theirs to_them of_a of_b =
    each_name (λ name. Along (P name) (work small_language name body) (told name lines)) body lines theirs to_them of_a of_b
    (λ name none nothing. subst (λ (items : List WorkItem). Along (P name) items (told name lines)) (sym (ap (λ (texts : List (List ℕ)). items_at (place_from small_language start texts)) none)) nothing)

-- each session was told its lines of the script
pub told_them : (body : List BodyLine) (lines : List Line) → AllByRecursion (λ l. IsSaidByThem l.act) body → AllByRecursion IsToThem lines →
    AreOf small_language (codes "a") body (told (codes "a") lines) → AreOf small_language (codes "b") body (told (codes "b") lines) → (name : List ℕ) → AreOf small_language name body (told name lines)
told_them body lines theirs to_them of_a of_b =
    each_name (λ name. AreOf small_language name body (told name lines)) body lines theirs to_them of_a of_b
    (λ name none nothing. subst (λ (texts : List (List ℕ)). ArePieces small_language [] start texts (told name lines)) (sym none) nothing)

-- a feed that is answered at a position above all that were named
pub fed_at : (basis : Basis) (view : View) (before : List Line) (position : ℕ) → 1 ≤ position → basis.origin.position ≤ position → position ≤ view.last → NameUpTo position before → IsFedAt basis view before position
fed_at basis view before position first base within named = record {
  first = first;
  base = base;
  within = within;
  heard = λ front mark back is _. all_front _ front (mark ∷ back) (subst (λ (ls : List Line). NameUpTo position ls) is named);
}

abbrev pub no_arms : ℕ → Option ℕ
no_arms count = None

pub never_armed : {P : Type 0} (place : ℕ) → None ≡ Some place → P
never_armed place is = absurd (let no_such : None ≡ Some place = is in cc)

-- of lines with one down line among them the parts before and behind it
abbrev pub IsOfSession : Line → Type 0
IsOfSession (line.Session name txn answer) = Unit {0}
IsOfSession (line.Down count node fault) = ⊥
IsOfSession (line.Up node) = ⊥
IsOfSession line.Barrier = ⊥
IsOfSession (line.Fed position) = ⊥

pub only_down : (xs ys before after : List Line) (count node other again : ℕ) (fault by : Bool) → AllByRecursion IsOfSession xs → AllByRecursion IsOfSession ys →
    xs ++ line.Down count node fault ∷ ys ≡ before ++ line.Down other again by ∷ after → (xs ≡ before) × (ys ≡ after)
only_down [] ys [] after count node other again fault by first last is = (refl, same_tail (line.Down count node fault) (line.Down other again by) ys after is)
only_down [] ys (b ∷ before) after count node other again fault by first last is =
    absurd (all_standing IsOfSession before after (line.Down other again by) (subst (AllByRecursion IsOfSession) (same_tail (line.Down count node fault) b ys (before ++ line.Down other again by ∷ after) is) last))
only_down (x ∷ xs) ys [] after count node other again fault by first last is =
    absurd (subst IsOfSession (same_head x (line.Down other again by) (xs ++ line.Down count node fault ∷ ys) after is) first.0)
only_down (x ∷ xs) ys (b ∷ before) after count node other again fault by first last is =
    head_and (same_head x b (xs ++ line.Down count node fault ∷ ys) (before ++ line.Down other again by ∷ after) is)
    (only_down xs ys before after count node other again fault by first.1 last (same_tail x b (xs ++ line.Down count node fault ∷ ys) (before ++ line.Down other again by ∷ after) is))
  where
    head_and : x ≡ b → (xs ≡ before) × (ys ≡ after) → (x ∷ xs ≡ b ∷ before) × (ys ≡ after)
    head_and same (rest, behind) = (ap (λ (l : Line). l ∷ xs) same ∙ ap (λ (ls : List Line). b ∷ ls) rest, behind)
