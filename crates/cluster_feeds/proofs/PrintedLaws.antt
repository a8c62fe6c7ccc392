-- Barriers and feeds are printed in their order, each once.
use Rattle.std.proofs.Common.{◌≡◌, ℕ, List, [], ◌∷◌, ◌++◌, refl, ap, sym, ◌∙◌}
use Rattle.std.specs.Prelude.{Bool, true, false}
use Rattle.cluster_consensus.specs.Events.{NodeEvent}
use Rattle.cluster_consensus.specs.Events.NodeEvent.{Boot, Down, Back, BackLead, BackTake, BackGrow, BackAppend}
use Rattle.cluster_events.proofs.LineLists.{append_assoc}
use Rattle.cluster_events.specs.ByScript.{Heeds, AllHeed}
use Rattle.cluster_events.specs.Operator.{operators_from, Duty, next_left, fed_over, heed, duty, IsOfNode}
use Rattle.cluster_events.specs.Parts.{ActorEvent, part, up_line, lines_by, lines}
use Rattle.cluster_events.specs.Parts.ActorEvent.{Node, Order, Obeyed, Barrier, Fed, FedAgain}
use Rattle.cluster_feeds.specs.Printed.{printed_by, printed, prints, to_print}
use Rattle.cluster_events.specs.Settings.{Setting}
use Rattle.cluster_requests.specs.KeptEntries.{KeptEntry}
use Rattle.report_laws.specs.Nodes.{is_up}
use Rattle.report_text.specs.declared.reports.Line.{Line}
use Rattle.script_form.specs.declared.scripts.Act.{Act}
use Rattle.script_form.specs.declared.scripts.Act.TheVariants as act
use Rattle.script_form.specs.declared.scripts.BodyLine.{BodyLine}

printed_append : (a b : List Line) → printed (a ++ b) ≡ printed a ++ printed b
printed_append [] b = refl
printed_append (x ∷ a) b = ap (λ z. printed_by x ++ z) (printed_append a b) ∙ sym (append_assoc (printed_by x) (printed a) (printed b))

-- a line behind these, and what is left then
more_printed : (ls new : List Line) (left rest whole : List Act) → printed ls ++ left ≡ whole → printed new ++ rest ≡ left → printed (ls ++ new) ++ rest ≡ whole
more_printed ls new left rest whole old now =
    ap (λ z. z ++ rest) (printed_append ls new) ∙ (append_assoc (printed ls) (printed new) rest ∙ (ap (λ z. printed ls ++ z) now ∙ old))

boot_prints : (b : Bool) (i : ℕ) → printed (up_line b i) ≡ []
boot_prints true i = refl
boot_prints false i = refl

node_prints : (G : Setting) (h : List (ℕ × ActorEvent)) (i : ℕ) (e : NodeEvent KeptEntry) → printed (lines_by G (lines G h) (part G i h) i (Node e)) ≡ []
node_prints G h i Down = refl
node_prints G h i (Boot p a l) = boot_prints (is_up i (lines G h)) i
node_prints G h i (Back p) = refl
node_prints G h i BackLead = refl
node_prints G h i (BackTake g l) = refl
node_prints G h i (BackGrow l) = refl
node_prints G h i (BackAppend x) = refl
node_prints G h i _ = refl

-- a stop or a start has no line of its own
of_node_prints : (a : Act) → IsOfNode a → prints a ≡ []
of_node_prints (act.Stop node) k = refl
of_node_prints (act.Start node) k = refl
of_node_prints (act.Say session text) k = absurd k
of_node_prints (act.Arm session moment) k = absurd k
of_node_prints act.Barrier k = absurd k
of_node_prints act.Feed k = absurd k

over_prints : (new : List Act) (left : List (ℕ × Act)) (line : ℕ) (a : Act) (rest : List (ℕ × Act)) → left ≡ (line, a) ∷ rest → new ≡ prints a → new ++ to_print (next_left left) ≡ to_print left
over_prints new left line a rest e p = ap (λ z. new ++ to_print (next_left z)) e ∙ (ap (λ z. z ++ to_print rest) p ∙ ap (λ z. to_print z) (sym e))

fed_prints : (d : Duty) (line : ℕ) (rest : List (ℕ × Act)) → d.left ≡ (line, act.Feed) ∷ rest → (act.Feed ∷ []) ++ to_print (fed_over d.left d).left ≡ to_print d.left
fed_prints d line rest e = ap (λ z. (act.Feed ∷ []) ++ to_print (fed_over z d).left) e ∙ over_prints (act.Feed ∷ []) d.left line act.Feed rest e refl

kept_prints : (new : List Act) (left : List Act) → new ≡ [] → new ++ left ≡ left
kept_prints new left e = ap (λ z. z ++ left) e

row_prints : (G : Setting) (body : List BodyLine) (h : List (ℕ × ActorEvent)) (i : ℕ) (e : ActorEvent) → Heeds G body h i e → printed (lines_by G (lines G h) (part G i h) i e) ++ to_print (heed (duty body h) e).left ≡ to_print (duty body h).left
row_prints G body h i (Node e) may = kept_prints _ (to_print (duty body h).left) (node_prints G h i e)
row_prints G body h i Order may = refl
row_prints G body h i Obeyed may = over_prints [] (duty body h).left may.line may.act may.rest may.next (sym (of_node_prints may.act may.of_node))
row_prints G body h i Barrier may = over_prints (act.Barrier ∷ []) (duty body h).left may.0 act.Barrier may.1 may.2 refl
row_prints G body h i (Fed p g) may = fed_prints (duty body h) may.0 may.1 may.2
row_prints G body h i (FedAgain p) may = fed_prints (duty body h) may.0 may.1 may.2
row_prints G body h i _ may = refl

pub all_printed : (G : Setting) (body : List BodyLine) (h : List (ℕ × ActorEvent)) → AllHeed G body h → printed (lines G h) ++ to_print (duty body h).left ≡ to_print (operators_from 0 body)
all_printed G body [] all = refl
all_printed G body (x ∷ h) all = more_printed (lines G h) (lines_by G (lines G h) (part G x.0 h) x.0 x.1) (to_print (duty body h).left) (to_print (heed (duty body h) x.1).left) (to_print (operators_from 0 body)) (all_printed G body h all.1) (row_prints G body h x.0 x.1 all.0.heeds)
