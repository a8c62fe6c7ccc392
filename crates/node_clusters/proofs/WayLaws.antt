-- A run, one delivery after the other.
use Rattle.std.proofs.Common.{ℕ, ◌≡◌, List, [], ◌∷◌, refl, sym, subst}
use Rattle.std.specs.Prelude.{Option}
use Rattle.cluster_steps.specs.declared.events.Event.{Event}
use Rattle.node_clusters.proofs.PassLaws.{all_pass_then, all_pass_themselves}
use Rattle.node_clusters.proofs.ReignLaws.{all_reign_themselves, all_reign_then}
use Rattle.node_clusters.proofs.RunLaws.{goes_nowhere, goes_then, run_over}
use Rattle.node_clusters.proofs.TurnLaws.{no_turns, turns_then}
use Rattle.node_clusters.specs.Runs.{Goes}
use Rattle.node_clusters.specs.UnderWay.{HasRun, IsUnderWay}
use Rattle.node_state.specs.Packets.{SentPacket}
use Rattle.node_state.specs.Stores.{Stored}

pub way_begins : (vs : List Stored) (q : List SentPacket) (last : Option (List (ℕ × Event))) → IsUnderWay vs q last vs q last
way_begins vs q last = record { passed = all_pass_themselves vs; goes = goes_nowhere vs q; reigns = all_reign_themselves vs; turns = no_turns vs vs last last refl refl }

pub way_goes_on : (vs us ws : List Stored) (q r s ps : List SentPacket) (p : SentPacket) (last mid next : Option (List (ℕ × Event))) → IsUnderWay vs q last us r mid → r ≡ p ∷ ps → IsUnderWay us (p ∷ ps) mid ws s next → IsUnderWay vs q last ws s next
way_goes_on vs us ws q r s ps p last mid next old e new = record {
  passed = all_pass_then vs us ws old.passed new.passed;
  goes = goes_then vs us ws q r s old.goes (subst (λ t. Goes us t ws s) (sym e) new.goes);
  reigns = all_reign_then vs us ws new.passed old.reigns new.reigns;
  turns = turns_then vs us ws last mid next old.turns new.turns;
}

pub way_ends : (vs us : List Stored) (q r : List SentPacket) (last next : Option (List (ℕ × Event))) → IsUnderWay vs q last us r next → r ≡ [] → HasRun vs q last us next
way_ends vs us q r last next old e = record { run = run_over vs us q r old.goes e; reigns = old.reigns; turns = old.turns }
