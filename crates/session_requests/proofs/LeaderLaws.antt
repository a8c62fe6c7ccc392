-- A leader that knows a begin as durable has the rows there, and the tables.
use Rattle.std.proofs.Common.{ℕ, ◌≡◌, ◌≤◌, List, [], ◌∷◌, length, map, take, arith, refl, subst, ap, ◌∙◌}
use Rattle.std.specs.Prelude.{Some, unwrap_or}
use Rattle.cluster_decisions.specs.Requested.{stored_entries}
use Rattle.cluster_events.specs.Parts.{Opened}
use Rattle.cluster_events.specs.Settings.{Setting}
use Rattle.cluster_requests.specs.KeptEntries.{KeptEntry, plain, state_of}
use Rattle.cluster_steps.specs.Guards.{AreLegalSteps}
use Rattle.cluster_steps.specs.Named.{rows_begun, world}
use Rattle.cluster_steps.specs.declared.events.Event.{Event}
use Rattle.core_lists.specs.Fronts.{Front}
use Rattle.core_lists.specs.Fronts.Front.{front_cons}
use Rattle.core_lists.proofs.Fronts.{front_take}
use Rattle.log_replay.specs.Answers.{schema_of}
use Rattle.log_rows.specs.History.{tables_of}
use Rattle.session_fronts.specs.Fronts.{IsKnown, front_of}
use Rattle.session_fronts.proofs.KnownLaws.{at_node, front_size}

-- a log has the tables with which it begins
same_tables : (a b : List KeptEntry) → Front a b → 1 ≤ length a → schema_of (map plain b) ≡ schema_of (map plain a)
same_tables [] b p some = absurd (omega (arith, some))
same_tables (x ∷ a) [] p some = elim p [ ]
same_tables (x ∷ a) (y ∷ b) (front_cons p) some = refl

pub leader_rows : (G : Setting) (h : List (ℕ × Event)) (i : ℕ) (o : Opened) → AreLegalSteps G h → IsKnown G (world G h) o → o.begin ≤ ((world G h).nodes i).durable → state_of (take o.begin ((world G h).nodes i).log) ≡ rows_begun G (world G h) o
leader_rows G h i o legal known reaches = ap state_of (at_node G h legal o known i reaches)

pub leader_tables : (G : Setting) (h : List (ℕ × Event)) (i : ℕ) (o : Opened) → AreLegalSteps G h → IsKnown G (world G h) o → 1 ≤ o.begin → o.begin ≤ ((world G h).nodes i).durable → schema_of (map plain (front_of G (world G h) o)) ≡ Some G.tables
    → tables_of (stored_entries ((world G h).nodes i).log) ≡ G.tables
leader_tables G h i o legal known some reaches schema =
    let same : take o.begin ((world G h).nodes i).log ≡ front_of G (world G h) o = at_node G h legal o known i reaches in
    let size : length (front_of G (world G h) o) ≡ o.begin = front_size G (world G h) o known.found in
    let begins : Front (front_of G (world G h) o) ((world G h).nodes i).log = subst (λ z. Front z ((world G h).nodes i).log) same (front_take o.begin ((world G h).nodes i).log) in
    let long : 1 ≤ length (front_of G (world G h) o) = omega (arith, size, some) in
    ap (λ z. unwrap_or z []) (same_tables (front_of G (world G h) o) ((world G h).nodes i).log begins long ∙ schema)
