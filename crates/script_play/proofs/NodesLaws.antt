-- A script that can run has one node, and lines of its sessions alone; so its report is lawful, and in the order of play, as one
-- of several nodes.
use Rattle.std.proofs.Common.{◌≡◌, ℕ, List, ◌∷◌, [], refl, ◌⊎◌, inl, inr, Bool, true, false, if◌then◌else◌}
use Rattle.std.proofs.lemmas.Bool.{both_ways}
use Rattle.std.proofs.lemmas.Slice.Eq.{bytes_eq-Decides}
use Rattle.std.specs.List.{AllByRecursion}
use Rattle.std.specs.Str.{bytes_eq}
use Rattle.cdb_values.specs.Rows.{Rows}
use Rattle.node_reports.proofs.Firsts.{nodes_order}
use Rattle.node_reports.proofs.OneBack.{none_survives}
use Rattle.node_reports.proofs.OneLawful.{lawful_of}
use Rattle.node_reports.specs.Lawful.{LawfulOfNodes}
use Rattle.node_reports.specs.OneNode.{IsOfOneNode, IsForOneNode}
use Rattle.node_reports.specs.Order.{InNodesOrder}
use Rattle.report_laws.specs.Lawful.{Lawful}
use Rattle.report_laws.specs.Play.{node_among, InPlayOrder}
use Rattle.report_text.specs.declared.reports.Report.{Report}
use Rattle.script_form.specs.CanRun.{CanRun, IsDeclared, IsDeclaredText}
use Rattle.script_form.specs.declared.scripts.Act.{Act}
use Rattle.script_form.specs.declared.scripts.Act.TheVariants as act
use Rattle.script_form.specs.declared.scripts.Script.{Script}
use Rattle.script_form.specs.declared.scripts.SessionLine.{SessionLine}
use Rattle.session_language.proofs.EachLaws.{all_map}
use Rattle.script_play.specs.Basis.{from_base}
use Rattle.script_play.proofs.SqlLaws.{sql_is_answered}

home_of : (name : List ℕ) (sessions : List SessionLine) → AllByRecursion (λ s. (s.node ≡ 1) × (s.hasql ≡ false)) sessions → IsDeclared name sessions → node_among name sessions ≡ 1
home_of name [] all is = absurd is
home_of name (s ∷ ss) all is = go (bytes_eq s.name name) refl is (λ e. home_of name ss all.1 e)
  where
    go : (b : Bool) → bytes_eq s.name name ≡ b → (s.name ≡ name) ⊎ IsDeclared name ss → (IsDeclared name ss → node_among name ss ≡ 1) → (if b then s.node else node_among name ss) ≡ 1
    go true e at more = all.0.0
    go false e (inl same) more = absurd (both_ways (bytes_eq s.name name) e ((bytes_eq-Decides s.name name).1 same))
    go false e (inr later) more = more later

plain_act : (s : Script) → CanRun s → (a : Act) → IsDeclaredText s.sessions a → IsForOneNode s a
plain_act s can (act.Say session text) is = (
  home_of session s.sessions can.no_hasql is.0,
  none_survives session s.sessions (all_map (λ l. (l.node ≡ 1) × (l.hasql ≡ false)) (λ l. l.hasql ≡ false) (λ l is. is.1) s.sessions can.no_hasql),
)
plain_act s can (act.Stop node) is = absurd is
plain_act s can (act.Start node) is = absurd is
plain_act s can (act.Arm session moment) is = absurd is
plain_act s can act.Barrier is = absurd is
plain_act s can act.Feed is = absurd is

pub one_node : (s : Script) → CanRun s → IsOfOneNode s
one_node s can = record {
  one = can.one_node;
  unwatched = can.no_watches;
  unmoved = all_map (λ l. (l.node ≡ 1) × (l.hasql ≡ false)) (λ l. l.hasql ≡ false) (λ l is. is.1) s.sessions can.no_hasql;
  plain = all_map (λ l. IsDeclaredText s.sessions l.act) (λ l. IsForOneNode s l.act) (λ l is. plain_act s can l.act is) s.body can.said;
}

pub lawful_of_nodes : (s : Script) (at : ℕ) (rows : Rows) (report : Report) → CanRun s → Lawful (from_base s at rows) report → LawfulOfNodes (from_base s at rows) report
lawful_of_nodes s at rows report can lawful = lawful_of (from_base s at rows) report (one_node s can) lawful

pub in_nodes_order : (s : Script) (at : ℕ) (rows : Rows) (report : Report) → CanRun s → Lawful (from_base s at rows) report → InPlayOrder (from_base s at rows) report → InNodesOrder (from_base s at rows) report
in_nodes_order s at rows report can lawful in_order = nodes_order (from_base s at rows) report (one_node s can) sql_is_answered lawful in_order
