-- At a line a session has passed no more barriers than stand before it.
use Rattle.std.proofs.Common.{◌≡◌, append_assoc, ℕ, ◌+◌, ◌≤◌, ◌==◌, List, [], ◌∷◌, ◌++◌, arith, refl, sym, ap, ◌∙◌, Bool, true, false, Option, Some, None, if◌then◌else◌}
use Rattle.std.specs.Prelude.{is_some}
use Rattle.cdb_values.specs.declared.replies.Reply.{Reply}
use Rattle.cluster_events.proofs.LineLists.{append_nil}
use Rattle.cluster_events.specs.Guards.{HasWaited}
use Rattle.cluster_events.specs.Parts.{ActorEvent, barriers_printed, part}
use Rattle.cluster_events.specs.Settings.{Setting}
use Rattle.cluster_reports.proofs.RestLaws.{behind_front, not_some}
use Rattle.cluster_reports.specs.Runs.{FollowsScript}
use Rattle.cluster_reports.specs.SessionLines.{are_over, barriers_passed, behind_lines, lines_behind, passed_by}
use Rattle.node_reports.specs.Operator.{barrier_lines, is_barrier}
use Rattle.report_laws.proofs.WorkLaws.{said_append}
use Rattle.report_laws.specs.Told.{Numbered}
use Rattle.report_laws.specs.Work.{said, start}
use Rattle.script_form.specs.declared.scripts.Act.TheVariants as act
use Rattle.script_form.specs.declared.scripts.BodyLine.{BodyLine}
use Rattle.session_barriers.proofs.LineLaws.{said_next}
use Rattle.session_barriers.specs.Lines.{IsAtLine}
use Rattle.session_language.specs.Language.{Language}

-- where lines are not over, more are not
none_more : (L : Language) (name : List ℕ) (done more : List BodyLine) (ls : List Numbered) → behind_lines L name done ls ≡ None → behind_lines L name (done ++ more) ls ≡ None
none_more L name done more ls none = go (behind_lines L name (done ++ more) ls) refl
  where
    go : (o : Option (List Numbered)) → behind_lines L name (done ++ more) ls ≡ o → o ≡ None
    go None e = refl
    go (Some r) e =
        let k = behind_front L [] start (said name done) (said name more) ls r (ap (λ z. lines_behind L [] start z ls) (sym (said_append name done more)) ∙ e) in
        not_some (sym none ∙ k.1)

-- no barrier is passed behind a line that is not over
none_passed : (L : Language) (name : List ℕ) (done bs : List BodyLine) (ls : List Numbered) → behind_lines L name done ls ≡ None → barriers_passed L name done bs ls ≡ 0
none_passed L name done [] ls none = ap (λ z. if is_some z then 1 else 0) none
none_passed L name done (b ∷ bs) ls none = go (is_barrier b.act) (are_over L name done ls) (ap (λ z. is_some z) none) (barriers_passed L name (done ++ b ∷ []) bs ls) (none_passed L name (done ++ b ∷ []) bs ls (none_more L name done (b ∷ []) ls none))
  where
    go : (c o : Bool) → o ≡ false → (m : ℕ) → m ≡ 0 → passed_by c o m ≡ 0
    go false o e m z = z
    go true false e m z = refl
    go true true e m z = absurd (cc)

no_barrier : (b : BodyLine) (name text : List ℕ) → b.act ≡ act.Say name text → is_barrier b.act ≡ false
no_barrier b name text say = ap (λ z. is_barrier z) say

at_most : (m : ℕ) → m ≡ 0 → m ≤ 0
at_most m e = omega arith

passed_before : (L : Language) (name text : List ℕ) (done front : List BodyLine) (b : BodyLine) (later : List BodyLine) (ls : List Numbered) → b.act ≡ act.Say name text
    → lines_behind L [] start (said name (done ++ front) ++ text ∷ []) ls ≡ None → barriers_passed L name done (front ++ b ∷ later) ls ≤ barrier_lines front
passed_before L name text done [] b later ls say none =
    let here : said name (done ++ b ∷ []) ≡ said name (done ++ []) ++ text ∷ [] = said_next name text done b say ∙ ap (λ z. said name z ++ text ∷ []) (sym (append_nil done)) in
    let zero : barriers_passed L name (done ++ b ∷ []) later ls ≡ 0 = none_passed L name (done ++ b ∷ []) later ls (ap (λ z. lines_behind L [] start z ls) here ∙ none) in
    let is : barriers_passed L name done (b ∷ later) ls ≡ barriers_passed L name (done ++ b ∷ []) later ls = ap (λ c. passed_by c (are_over L name done ls) (barriers_passed L name (done ++ b ∷ []) later ls)) (no_barrier b name text say) in
    at_most (barriers_passed L name done (b ∷ later) ls) (is ∙ zero)
passed_before L name text done (x ∷ front) b later ls say none =
    go (is_barrier x.act) (are_over L name done ls) (barriers_passed L name (done ++ x ∷ []) (front ++ b ∷ later) ls) (barrier_lines front)
    (passed_before L name text (done ++ x ∷ []) front b later ls say (ap (λ z. lines_behind L [] start (said name z ++ text ∷ []) ls) (append_assoc done (x ∷ []) front) ∙ none))
  where
    go : (c o : Bool) (m k : ℕ) → m ≤ k → passed_by c o m ≤ k + (if c then 1 else 0)
    go false o m k le = omega arith
    go true true m k le = omega arith
    go true false m k le = omega arith

pub passed : (language : Language) (name text : List ℕ) (done : List BodyLine) (b : BodyLine) (later : List BodyLine) (told : List Numbered) → b.act ≡ act.Say name text
    → lines_behind language [] start (said name done ++ text ∷ []) told ≡ None → barriers_passed language name [] (done ++ b ∷ later) told ≤ barrier_lines done
passed L name text done b later told say none = passed_before L name text [] done b later told say none

pub has_waited : (G : Setting) (s : ℕ) (h : List (ℕ × ActorEvent)) (text : List ℕ) (done : List BodyLine) (b : BodyLine) (later : List BodyLine) (mine : List Reply) → FollowsScript G → (s == 0) ≡ false
    → G.script.body ≡ done ++ b ∷ later → b.act ≡ act.Say (G.names s) text
    → IsAtLine G.language (G.names s) done text (part G s h).told mine → barrier_lines done ≤ barriers_printed h → HasWaited G h s
has_waited G s h text done b later mine follows other stands say is printed =
    let told = (part G s h).told in
    let a : G.phase s told ≡ barriers_passed G.language (G.names s) [] G.script.body told = follows.phase s other told in
    let c : barriers_passed G.language (G.names s) [] G.script.body told ≡ barriers_passed G.language (G.names s) [] (done ++ b ∷ later) told = ap (λ z. barriers_passed G.language (G.names s) [] z told) stands in
    under (G.phase s told) (barriers_passed G.language (G.names s) [] (done ++ b ∷ later) told) (barrier_lines done) (barriers_printed h) (a ∙ c) (passed G.language (G.names s) text done b later told say is.at_it) printed
  where
    under : (m n k j : ℕ) → m ≡ n → n ≤ k → k ≤ j → m ≤ j
    under m n k j e le up = omega arith
