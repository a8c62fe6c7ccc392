-- At which node a session is, and to which one it moves.
--
-- A session begins at the node of its line of the script. Where this node went down since the session is there, it moves to the
-- next node that is up, in cyclic order.
use Rattle.std.specs.Prelude.{ℕ, zero, suc, ◌≡◌, ◌+◌, ◌==◌, cond, false, if◌then◌else◌, List, [], ◌∷◌, ◌++◌, Option, Some, None}
use Rattle.cluster_events.specs.Parts.{ActorEvent, lines}
use Rattle.cluster_events.specs.Parts.ActorEvent.{Move}
use Rattle.cluster_events.specs.Settings.{Setting}
use Rattle.report_laws.specs.Nodes.{is_up}
use Rattle.report_laws.specs.Play.{node_of}
use Rattle.report_text.specs.declared.reports.Line.{Line}

-- the node, and how often the session moved
pub record Site : Type 0 where
  pub node : ℕ
  pub moves : ℕ

abbrev pub moved : Site → ActorEvent → Site
moved p (Move node) = record { node = node; moves = p.moves + 1 }
moved p _ = p

abbrev pub site : Setting → ℕ → List (ℕ × ActorEvent) → Site
site G s [] = record { node = node_of G.script (G.names s); moves = 0 }
site G s (x ∷ h) = cond (s == x.0) (moved (site G s h) x.1) (site G s h)

-- the node behind a node, of n
abbrev pub next_node : ℕ → ℕ → ℕ
next_node n k = if k == n then 1 else k + 1

-- the first node behind a node that is up behind these lines, among the next ones, so many
abbrev pub next_up : ℕ → ℕ → List Line → ℕ → Option ℕ
next_up zero n ls k = None
next_up (suc more) n ls k = if is_up (next_node n k) ls then Some (next_node n k) else next_up more n ls (next_node n k)

-- a session's node went down at some place since the session is there; and at some place since then this node is the next one
pub record CanMove (G : Setting) (h : List (ℕ × ActorEvent)) (s node : ℕ) : Type 0 where
  pub later : List (ℕ × ActorEvent)
  pub between : List (ℕ × ActorEvent)
  pub before : List (ℕ × ActorEvent)
  pub split : h ≡ later ++ (between ++ before)
  pub stays : site G s before ≡ site G s h
  pub down : is_up (site G s h).node (lines G before) ≡ false
  pub next : next_up G.nodes G.nodes (lines G (between ++ before)) (site G s h).node ≡ Some node
