-- What runs today. A line that has no other reason against it and does not run has reason 10.
--
-- Run are scripts of one node of any cluster, whose sessions do not survive it, with any tables, and whose lines are
-- texts of sessions. Every text runs: one that is no statement is answered so.
use Rattle.std.specs.Prelude.{◌==◌, Bool, true, false, not}
use Rattle.std.specs.Str.{is_utf8}
use Rattle.script_read.specs.declared.said.Said.{Said}
use Rattle.script_read.specs.declared.said.Said.TheVariants as said
use Rattle.script_form.specs.declared.scripts.Act.{Act}
use Rattle.script_form.specs.declared.scripts.Act.TheVariants as acts

-- whether a line to be run runs (the text of a line that is UTF-8 is UTF-8 too)
abbrev pub runs : Act → Bool
runs (acts.Say session text) = is_utf8 text
runs (acts.Stop node) = false
runs (acts.Start node) = false
runs (acts.Arm session moment) = false
runs acts.Barrier = false
runs acts.Feed = false

-- whether what a line says runs
abbrev pub is_built : Said → Bool
is_built (said.Nodes nodes) = nodes == 1
is_built (said.Cluster name) = true
is_built (said.Workers workers) = false
is_built (said.Session session) = not session.hasql
is_built (said.Watch place) = false
is_built (said.Runs act) = runs act
