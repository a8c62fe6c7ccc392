-- Laws of lines that a node went down, and of what is told in the place of an answer.
use Rattle.std.proofs.Common.{◌≡◌, ℕ, ◌+◌, ◌≤◌, List, [], ◌∷◌, ◌++◌, refl, sym, subst, ap, arith, ◌∙◌, Bool, inl, inr}
use Rattle.session_language.proofs.UpToLaws.{same_head, same_tail}
use Rattle.report_laws.specs.History.{Basis}
use Rattle.report_laws.specs.Nodes.{downs}
use Rattle.report_laws.specs.Play.{GoDownAtChanges, HasChanges, IsOrMemory}
use Rattle.report_laws.specs.View.{View}
use Rattle.report_laws.proofs.NodesLaws.{downs_append}
use Rattle.report_text.specs.declared.reports.Line.{Line}
use Rattle.report_text.specs.declared.reports.Line.TheVariants as line
use Rattle.cdb_values.specs.declared.replies.Reply.{Reply}
use Rattle.cdb_values.specs.declared.replies.Reply.TheVariants as reply

-- what holds of a reply and of want of memory holds of what is told in its place
pub or_memory : (P : Reply → Type 0) (answer told : Reply) → IsOrMemory answer told → P answer → P reply.NoMemory → P told
or_memory P answer told (inl is) of_answer of_memory = subst P (sym is) of_answer
or_memory P answer told (inr is) of_answer of_memory = subst P (sym is) of_memory

-- behind a line there are no more down lines than with it
fewer : (l : Line) (ls : List Line) → downs ls ≤ downs (l ∷ ls)
fewer (line.Session name txn answer) ls = omega arith
fewer (line.Down count node fault) ls = omega arith
fewer (line.Up node) ls = omega arith
fewer line.Barrier ls = omega arith
fewer (line.Fed position) ls = omega arith

-- lines with a down line among them have one
some_down : (front back : List Line) (count node : ℕ) (fault : Bool) → 1 ≤ downs (front ++ line.Down count node fault ∷ back)
some_down front back count node fault =
    let parts : downs (front ++ line.Down count node fault ∷ back) ≡ downs front + (downs back + 1) = downs_append front (line.Down count node fault ∷ back) in
    omega (arith, parts)

-- among lines with one down line there is one place for it
pub one_place : (front back before after : List Line) (count node other at : ℕ) (fault again : Bool) (x y : Line) →
    front ++ line.Down count node fault ∷ x ∷ back ≡ before ++ line.Down other at again ∷ y ∷ after → downs (before ++ line.Down other at again ∷ y ∷ after) ≡ 1 → (front ≡ before) × (x ≡ y)
one_place [] back [] after count node other at fault again x y is one =
    (refl, same_head x y back after (same_tail (line.Down count node fault) (line.Down other at again) (x ∷ back) (y ∷ after) is))
one_place [] back (b ∷ before) after count node other at fault again x y is one =
    let rest : x ∷ back ≡ before ++ line.Down other at again ∷ y ∷ after = same_tail (line.Down count node fault) b (x ∷ back) (before ++ line.Down other at again ∷ y ∷ after) is in
    let all : downs (line.Down count node fault ∷ x ∷ back) ≡ downs ((b ∷ before) ++ line.Down other at again ∷ y ∷ after) = ap downs is in
    let left : downs (x ∷ back) ≡ downs (before ++ line.Down other at again ∷ y ∷ after) = ap downs rest in
    let some : 1 ≤ downs (before ++ line.Down other at again ∷ y ∷ after) = some_down before (y ∷ after) other at again in
    let head : downs (line.Down count node fault ∷ x ∷ back) ≡ downs (x ∷ back) + 1 = refl in
    absurd (omega (arith, all, left, some, head, one))
one_place (f ∷ front) back [] after count node other at fault again x y is one =
    let rest : front ++ line.Down count node fault ∷ x ∷ back ≡ y ∷ after = same_tail f (line.Down other at again) (front ++ line.Down count node fault ∷ x ∷ back) (y ∷ after) is in
    let left : downs (front ++ line.Down count node fault ∷ x ∷ back) ≡ downs (y ∷ after) = ap downs rest in
    let some : 1 ≤ downs (front ++ line.Down count node fault ∷ x ∷ back) = some_down front (x ∷ back) count node fault in
    let head : downs (line.Down other at again ∷ y ∷ after) ≡ downs (y ∷ after) + 1 = refl in
    absurd (omega (arith, left, some, head, one))
one_place (f ∷ front) back (b ∷ before) after count node other at fault again x y is one =
    let head : f ≡ b = same_head f b (front ++ line.Down count node fault ∷ x ∷ back) (before ++ line.Down other at again ∷ y ∷ after) is in
    let rest : front ++ line.Down count node fault ∷ x ∷ back ≡ before ++ line.Down other at again ∷ y ∷ after =
    same_tail f b (front ++ line.Down count node fault ∷ x ∷ back) (before ++ line.Down other at again ∷ y ∷ after) is in
    let at_most : downs (before ++ line.Down other at again ∷ y ∷ after) ≤ downs (b ∷ (before ++ line.Down other at again ∷ y ∷ after)) = fewer b (before ++ line.Down other at again ∷ y ∷ after) in
    let some : 1 ≤ downs (before ++ line.Down other at again ∷ y ∷ after) = some_down before (y ∷ after) other at again in
    let there = one_place front back before after count node other at fault again x y rest (omega (arith, at_most, some, one)) in
    (ap (λ (l : Line). l ∷ front) head ∙ ap (λ (ls : List Line). b ∷ ls) there.0, there.1)

module _ (basis : Basis) (view : View) (first : List Line) where
  -- where no node goes down behind the opening
  pub none_go_down : (rest : List Line) → downs rest ≡ 0 → GoDownAtChanges basis view first rest
  none_go_down rest none front back count node fault session number told is =
      let all : downs rest ≡ downs (front ++ line.Down count node fault ∷ line.Session session number told ∷ back) = ap downs is in
      let some : 1 ≤ downs (front ++ line.Down count node fault ∷ line.Session session number told ∷ back) = some_down front (line.Session session number told ∷ back) count node fault in
      absurd (omega (arith, all, some, none))

  same_session : (session other : List ℕ) (number txn : ℕ) (r s : Reply) → line.Session session number r ≡ line.Session other txn s → session ≡ other
  same_session session other number txn r s is = cc

  same_number : (session other : List ℕ) (number txn : ℕ) (r s : Reply) → line.Session session number r ≡ line.Session other txn s → number ≡ txn
  same_number session other number txn r s is = cc

  -- where one does, at the commit of a transaction with operations
  pub one_goes_down : (before after : List Line) (count node : ℕ) (fault : Bool) (session : List ℕ) (number : ℕ) (told : Reply) → downs (before ++ line.Down count node fault ∷ line.Session session number told ∷ after) ≡ 1 →
      HasChanges basis view (first ++ before) session number → GoDownAtChanges basis view first (before ++ line.Down count node fault ∷ line.Session session number told ∷ after)
  one_goes_down before after count node fault session number told one has front back other at again name txn answer is =
      let there : (front ≡ before) × (line.Session name txn answer ≡ line.Session session number told) =
      one_place front back before after other at count node again fault (line.Session name txn answer) (line.Session session number told) (sym is) one in
      subst (λ (ls : List Line). HasChanges basis view (first ++ ls) name txn) (sym there.0)
      (subst (λ (s : List ℕ). HasChanges basis view (first ++ before) s txn) (sym (same_session name session txn number answer told there.1))
      (subst (λ (n : ℕ). HasChanges basis view (first ++ before) session n) (sym (same_number name session txn number answer told there.1)) has))
