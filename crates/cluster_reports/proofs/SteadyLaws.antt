-- A session never falls back behind a barrier that it passed.
use Rattle.std.proofs.Common.{◌≡◌, ℕ, ◌≤◌, List, [], ◌∷◌, ◌++◌, arith, refl, ap, ◌∙◌}
use Rattle.std.specs.Prelude.{◌==◌, Bool, true, false, is_some, if◌then◌else◌}
use Rattle.std.proofs.lemmas.Bool.Decides.{Decides-eqb}
use mathlib.Core.Logic.{inl, inr}
use Rattle.cluster_events.specs.Guards.{IsLegalHistory}
use Rattle.cluster_events.specs.Parts.{ActorEvent, part}
use Rattle.cluster_events.specs.Premises.{Steady}
use Rattle.cluster_events.specs.Settings.{Setting}
use Rattle.cluster_reports.proofs.RestLaws.{behind_more}
use Rattle.cluster_reports.proofs.SessionLaws.{over_some, step_of}
use Rattle.cluster_reports.specs.Runs.{FitsScript, FollowsScript}
use Rattle.cluster_reports.specs.SessionLines.{behind_lines, are_over, passed_by, barriers_passed}
use Rattle.node_reports.specs.Operator.{is_barrier}
use Rattle.report_laws.specs.Told.{Numbered}
use Rattle.report_laws.specs.Work.{said, start}
use Rattle.script_form.specs.declared.scripts.BodyLine.{BodyLine}
use Rattle.session_language.specs.Language.{Language}

-- lines that are over stay over
over_more : (L : Language) (name : List ℕ) (done : List BodyLine) (ls more : List Numbered) → are_over L name done ls ≡ true → are_over L name done (ls ++ more) ≡ true
over_more L name done ls more e =
    let k = over_some (behind_lines L name done ls) e in
    ap (λ z. is_some z) (behind_more L [] start (said name done) ls more k.0 k.1)

passed_more : (L : Language) (name : List ℕ) (done bs : List BodyLine) (ls more : List Numbered) → barriers_passed L name done bs ls ≤ barriers_passed L name done bs (ls ++ more)
passed_more L name done [] ls more = go (are_over L name done ls) (are_over L name done (ls ++ more)) (over_more L name done ls more)
  where
    go : (a b : Bool) → (a ≡ true → b ≡ true) → (if a then 1 else 0) ≤ (if b then 1 else 0)
    go false b k = omega arith
    go true true k = omega arith
    go true false k = absurd (let e = k refl in cc)
passed_more L name done (b ∷ bs) ls more = go (is_barrier b.act) (are_over L name done ls) (are_over L name done (ls ++ more)) (over_more L name done ls more) (barriers_passed L name (done ++ b ∷ []) bs ls) (barriers_passed L name (done ++ b ∷ []) bs (ls ++ more)) (passed_more L name (done ++ b ∷ []) bs ls more)
  where
    go : (c a d : Bool) → (a ≡ true → d ≡ true) → (m n : ℕ) → m ≤ n → passed_by c a m ≤ passed_by c d n
    go false a d k m n le = le
    go true false false k m n le = omega arith
    go true false true k m n le = omega arith
    go true true true k m n le = omega arith
    go true true false k m n le = absurd (let e = k refl in cc)

-- a session passes barriers steadily
session_steady : (G : Setting) → FitsScript G → FollowsScript G → (s : ℕ) → (s == 0) ≡ false → (x : ℕ × ActorEvent) (h : List (ℕ × ActorEvent)) → IsLegalHistory G (x ∷ h) → G.phase s (part G s h).told ≤ G.phase s (part G s (x ∷ h)).told
session_steady G fits follows s ns x h legal =
    let a : G.phase s (part G s h).told ≡ barriers_passed G.language (G.names s) [] G.script.body (part G s h).told = follows.phase s ns (part G s h).told in
    let b : G.phase s (part G s (x ∷ h)).told ≡ barriers_passed G.language (G.names s) [] G.script.body (part G s (x ∷ h)).told = follows.phase s ns (part G s (x ∷ h)).told in
    elim (step_of G fits x h s legal) [
      | inl k ↦ (
          let c : barriers_passed G.language (G.names s) [] G.script.body (part G s (x ∷ h)).told ≡ barriers_passed G.language (G.names s) [] G.script.body (part G s h).told = ap (λ z. barriers_passed G.language (G.names s) [] G.script.body z) k.0 in
          omega arith)
      | inr k ↦ (
          let c : barriers_passed G.language (G.names s) [] G.script.body (part G s (x ∷ h)).told ≡ barriers_passed G.language (G.names s) [] G.script.body ((part G s h).told ++ k.0 ∷ []) = ap (λ z. barriers_passed G.language (G.names s) [] G.script.body z) k.1 in
          let m = passed_more G.language (G.names s) [] G.script.body (part G s h).told (k.0 ∷ []) in
          omega arith)
    ]

-- and the operator waits for none
pub steady : (G : Setting) → FitsScript G → FollowsScript G → Steady G
steady G fits follows s x h legal = go (s == 0) refl
  where
    go : (b : Bool) → (s == 0) ≡ b → G.phase s (part G s h).told ≤ G.phase s (part G s (x ∷ h)).told
    go false e = session_steady G fits follows s e x h legal
    go true e =
        let z : s ≡ 0 = (Decides-eqb s 0).0 e in
        let a : G.phase s (part G s h).told ≡ 0 = ap (λ j. G.phase j (part G s h).told) z ∙ follows.free (part G s h).told in
        omega arith
