-- A setting that follows its script is one that a run may have.
use Rattle.cluster_events.specs.Settings.{Setting}
use Rattle.cluster_reports.proofs.SteadyLaws.{steady}
use Rattle.cluster_reports.specs.Runs.{FitsScript, FollowsScript}
use Rattle.cluster_steps.specs.Guards.{IsPlan}

pub plan_of : (G : Setting) → FitsScript G → FollowsScript G → IsPlan G
plan_of G fits follows = record { apart = fits.apart; steady = steady G fits follows }
