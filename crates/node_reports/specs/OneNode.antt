-- A script of one node, whose lines are all of sessions that are there and do not survive.
use Rattle.std.specs.Prelude.{◌≡◌, [], List, false}
use Rattle.std.specs.List.{AllByRecursion}
use Rattle.script_form.specs.declared.scripts.BodyLine.{BodyLine}
use Rattle.script_form.specs.declared.scripts.Act.{Act}
use Rattle.script_form.specs.declared.scripts.Act.TheVariants as act
use Rattle.script_form.specs.declared.scripts.Script.{Script}
use Rattle.report_laws.specs.Places.{survives}
use Rattle.report_laws.specs.Play.{node_of}

abbrev pub IsForOneNode : Script → Act → Type 0
IsForOneNode script (act.Say session text) = (node_of script session ≡ 1) × (survives script session ≡ false)
IsForOneNode script (act.Stop node) = ⊥
IsForOneNode script (act.Start node) = ⊥
IsForOneNode script (act.Arm session moment) = ⊥
IsForOneNode script act.Barrier = ⊥
IsForOneNode script act.Feed = ⊥

abbrev pub AreForOneNode : Script → List BodyLine → Type 0
AreForOneNode script body = AllByRecursion (λ b. IsForOneNode script b.act) body

pub record IsOfOneNode (script : Script) : Type 0 where
  pub one : script.nodes ≡ 1
  pub unwatched : script.watches ≡ []
  pub unmoved : AllByRecursion (λ s. s.hasql ≡ false) script.sessions
  pub plain : AreForOneNode script script.body
