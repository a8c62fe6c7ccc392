-- The lines of a report to which the script's lines are charged: each line that a node went down by a stop, to a stop or an
-- arm, and each line that a node came up, to a start, and none to two of them.
use Rattle.std.specs.Prelude.{ℕ, ◌≡◌, ◌⊎◌, ◌++◌, ◌∷◌, [], List, true, false, Option, Some, None}
use Rattle.cluster_events.specs.Operator.{act_at}
use Rattle.cluster_events.specs.Settings.{Setting}
use Rattle.core_lists.specs.Lists.{In}
use Rattle.report_laws.specs.Told.{told}
use Rattle.report_text.specs.declared.reports.Line.{Line}
use Rattle.report_text.specs.declared.reports.Line.TheVariants as line
use Rattle.script_form.specs.declared.scripts.Act.TheVariants as act
use Rattle.script_form.specs.declared.scripts.BodyLine.{BodyLine}
use Rattle.script_form.specs.declared.scripts.Moment.{Moment}
use Rattle.session_language.specs.Each.{EachAfter}

-- at that line of the script stands an arm, and behind these lines of the report its session is at the armed line
pub record IsArmedAt (G : Setting) (body : List BodyLine) (before : List Line) (k : ℕ) : Type 0 where
  pub session : ℕ
  pub when : Moment
  pub stands : act_at body k ≡ Some (act.Arm (G.names session) when)
  pub armed : G.armed session (told (G.names session) before) k ≡ true

abbrev pub IsChargeOf : Setting → List BodyLine → List Line → Line → Option ℕ → Type 0
IsChargeOf G body before (line.Down count node false) (Some k) = (act_at body k ≡ Some (act.Stop node)) ⊎ IsArmedAt G body before k
IsChargeOf G body before (line.Up node) (Some k) = act_at body k ≡ Some (act.Start node)
IsChargeOf G body before (line.Down count node true) None = Unit {0}
IsChargeOf G body before (line.Session name txn answer) None = Unit {0}
IsChargeOf G body before line.Barrier None = Unit {0}
IsChargeOf G body before (line.Fed position) None = Unit {0}
IsChargeOf G body before _ _ = ⊥

-- line by line, behind the lines before
abbrev pub ChargedBy : Setting → List BodyLine → List Line → List Line → List (Option ℕ) → Type 0
ChargedBy G body before [] [] = Unit {0}
ChargedBy G body before (l ∷ ls) (c ∷ cs) = IsChargeOf G body before l c × ChargedBy G body (before ++ l ∷ []) ls cs
ChargedBy G body before _ _ = ⊥

abbrev pub IsNewCharge : List (Option ℕ) → Option ℕ → Type 0
IsNewCharge before None = Unit {0}
IsNewCharge before (Some k) = In (Some k) before → ⊥

pub record AreCharged (G : Setting) (body : List BodyLine) (ls : List Line) : Type 0 where
  pub charges : List (Option ℕ)
  pub each : ChargedBy G body [] ls charges
  pub once : EachAfter IsNewCharge [] charges
