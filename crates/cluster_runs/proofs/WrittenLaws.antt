-- The setting that is read off a script follows it.
use Rattle.std.proofs.Common.{ℕ, zero, suc, ◌≡◌, ◌+◌, List, [], ◌∷◌, ◌++◌, length, length-append, arith, refl, subst, ap, ◌∙◌}
use Rattle.std.specs.Prelude.{◌&&◌, Bool, true, false, not, Option, Some, None, is_some, if◌then◌else◌}
use Rattle.std.specs.Str.{bytes_eq}
use Rattle.std.proofs.lemmas.Slice.Eq.{bytes_eq-Decides}
use Rattle.cluster_events.proofs.LineLists.{append_assoc}
use Rattle.cluster_events.specs.Settings.{Setting}
use Rattle.cluster_reports.specs.Runs.{FollowsScript}
use Rattle.cluster_reports.specs.SessionLines.{barriers_passed, lines_behind, behind_lines, IsAtNext}
use Rattle.cluster_runs.specs.Written.{waits, waits_by, waits_for, waits_at, as_scripted}
use Rattle.report_laws.specs.Told.{Numbered}
use Rattle.report_laws.specs.Work.{said, said_by, start}
use Rattle.script_form.specs.declared.scripts.Act.{Act}
use Rattle.script_form.specs.declared.scripts.Act.TheVariants as act
use Rattle.script_form.specs.declared.scripts.BodyLine.{BodyLine}
use Rattle.session_language.specs.Answers.{Answers}
use Rattle.session_language.specs.Language.{Language}

-- the first line of a session among these says that text
record IsSaidNext (name : List ℕ) (body : List BodyLine) (text : List ℕ) : Type 0 where
  middle : List BodyLine
  next : BodyLine
  later : List BodyLine
  stands : body ≡ middle ++ next ∷ later
  is_next : next.act ≡ act.Say name text
  none : said name middle ≡ []

abbrev first : List (List ℕ) → List ℕ
first [] = []
first (x ∷ xs) = x

-- a line that the session does not say stands before its next one
before_it : (name : List ℕ) (l : BodyLine) (ls : List BodyLine) (text : List ℕ) → said_by name l.act [] ≡ [] → IsSaidNext name ls text → IsSaidNext name (l ∷ ls) text
before_it name l ls text quiet k = record {
  middle = l ∷ k.middle;
  next = k.next;
  later = k.later;
  stands = ap (λ z. l ∷ z) k.stands;
  is_next = k.is_next;
  none = ap (λ z. said_by name l.act z) k.none ∙ quiet;
}

by_name : (name : List ℕ) (l : BodyLine) (ls : List BodyLine) (text : List ℕ) (texts : List (List ℕ)) → (said name ls ≡ text ∷ texts → IsSaidNext name ls text) → (session t : List ℕ) → l.act ≡ act.Say session t → (b : Bool) → bytes_eq session name ≡ b → (if b then t ∷ said name ls else said name ls) ≡ text ∷ texts → IsSaidNext name (l ∷ ls) text
by_name name l ls text texts on session t q true same e = record {
  middle = [];
  next = l;
  later = ls;
  stands = refl;
  is_next = q ∙ (ap (λ z. act.Say z t) ((bytes_eq-Decides session name).0 same) ∙ ap (λ z. act.Say name z) (ap first e));
  none = refl;
}
by_name name l ls text texts on session t q false same e =
    before_it name l ls text (ap (λ z. said_by name z []) q ∙ ap (λ z. if z then t ∷ [] else []) same) (on e)

by_act : (name : List ℕ) (l : BodyLine) (ls : List BodyLine) (text : List ℕ) (texts : List (List ℕ)) → (said name ls ≡ text ∷ texts → IsSaidNext name ls text) → (a : Act) → l.act ≡ a → said_by name a (said name ls) ≡ text ∷ texts → IsSaidNext name (l ∷ ls) text
by_act name l ls text texts on (act.Say session t) q e = by_name name l ls text texts on session t q (bytes_eq session name) refl e
by_act name l ls text texts on (act.Stop node) q e = before_it name l ls text (ap (λ z. said_by name z []) q) (on e)
by_act name l ls text texts on (act.Start node) q e = before_it name l ls text (ap (λ z. said_by name z []) q) (on e)
by_act name l ls text texts on (act.Arm session when) q e = before_it name l ls text (ap (λ z. said_by name z []) q) (on e)
by_act name l ls text texts on act.Barrier q e = before_it name l ls text (ap (λ z. said_by name z []) q) (on e)
by_act name l ls text texts on act.Feed q e = before_it name l ls text (ap (λ z. said_by name z []) q) (on e)

next_said : (name : List ℕ) (body : List BodyLine) (text : List ℕ) (texts : List (List ℕ)) → said name body ≡ text ∷ texts → IsSaidNext name body text
next_said name [] text texts e = absurd (cc)
next_said name (l ∷ ls) text texts e = by_act name l ls text texts (λ q. next_said name ls text texts q) l.act refl e

not_both : (w : Bool) → (w && false) ≡ true → ⊥
not_both true e = absurd (cc)
not_both false e = absurd (cc)

-- an arm that waits, where its session's texts behind it begin so
arm_waits : (L : Language) (name : List ℕ) (done : List BodyLine) (b : BodyLine) (bs : List BodyLine) (lines : List Numbered) (text : List ℕ) (place : ℕ) → place ≡ length done → IsSaidNext name bs text → (a : Act) → b.act ≡ a → (o : Option (List Numbered)) → behind_lines L name done lines ≡ o → (m : Option (List Numbered)) → lines_behind L [] start (said name done ++ text ∷ []) lines ≡ m → (waits_by a o && not (is_some m)) ≡ true → IsAtNext L name (done ++ b ∷ bs) place lines
arm_waits L name done b bs lines text place at s (act.Arm session when) qa (Some part) qo None qm e = record {
  done = done;
  arm = b;
  middle = s.middle;
  next = s.next;
  later = s.later;
  stands = ap (λ z. done ++ b ∷ z) s.stands;
  is_place = at;
  text = text;
  is_next = s.is_next;
  none_between = ap (λ z. said_by name z (said name s.middle)) qa ∙ s.none;
  part = part;
  over = qo;
  at_it = qm;
}
arm_waits L name done b bs lines text place at s (act.Arm session when) qa (Some part) qo (Some rest) qm e = absurd (not_both (waits when part) e)
arm_waits L name done b bs lines text place at s (act.Arm session when) qa None qo m qm e = absurd (cc)
arm_waits L name done b bs lines text place at s (act.Say session t) qa o qo m qm e = absurd (cc)
arm_waits L name done b bs lines text place at s (act.Stop node) qa o qo m qm e = absurd (cc)
arm_waits L name done b bs lines text place at s (act.Start node) qa o qo m qm e = absurd (cc)
arm_waits L name done b bs lines text place at s act.Barrier qa o qo m qm e = absurd (cc)
arm_waits L name done b bs lines text place at s act.Feed qa o qo m qm e = absurd (cc)

here : (L : Language) (name : List ℕ) (done : List BodyLine) (b : BodyLine) (bs : List BodyLine) (lines : List Numbered) (place : ℕ) → place ≡ length done → (texts : List (List ℕ)) → said name bs ≡ texts → waits_for L name done b.act texts lines ≡ true → IsAtNext L name (done ++ b ∷ bs) place lines
here L name done b bs lines place at [] q e = absurd (cc)
here L name done b bs lines place at (text ∷ texts) q e =
    arm_waits L name done b bs lines text place at (next_said name bs text texts q) b.act refl (behind_lines L name done lines) refl (lines_behind L [] start (said name done ++ text ∷ []) lines) refl e

at_next : (L : Language) (name : List ℕ) (done bs : List BodyLine) (n : ℕ) (lines : List Numbered) (place : ℕ) → place ≡ length done + n → waits_at L name done bs n lines ≡ true → IsAtNext L name (done ++ bs) place lines
at_next L name done [] n lines place at e = absurd (cc)
at_next L name done (b ∷ bs) zero lines place at e = here L name done b bs lines place (omega arith) (said name bs) refl e
at_next L name done (b ∷ bs) (suc n) lines place at e =
    let size : length (done ++ b ∷ []) ≡ length done + 1 = length-append done (b ∷ []) in
    let k : IsAtNext L name ((done ++ b ∷ []) ++ bs) place lines = at_next L name (done ++ b ∷ []) bs n lines place (omega arith) e in
    subst (λ z. IsAtNext L name z place lines) (append_assoc done (b ∷ []) bs) k

pub follows : (G : Setting) → Answers G.language → said (G.names 0) G.script.body ≡ [] → FollowsScript (as_scripted G)
follows G answers quiet = record {
  answers = answers;
  operator = quiet;
  free = λ told. refl;
  phase = λ s ns told. ap (λ z. if z then 0 else barriers_passed G.language (G.names s) [] G.script.body told) ns;
  armed = λ s told line e. at_next G.language (G.names s) [] G.script.body line told line (omega arith) e;
}
