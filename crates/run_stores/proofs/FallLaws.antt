-- The lines that a history tells have each fall of a node by a fault, and no other.
use Rattle.std.proofs.Common.{ℕ, ◌≡◌, ◌+◌, ◌≤◌, List, [], ◌∷◌, ◌++◌, arith, refl, sym, subst, ap, ◌∙◌}
use Rattle.std.specs.Prelude.{◌==◌, Bool, true, false, cond, Some, slice_get}
use Rattle.std.proofs.lemmas.List.{append-nil}
use mathlib.Core.Logic.{◌⊎◌}
use Rattle.cdb_outside.specs.Faults.{last_count}
use Rattle.cdb_values.specs.declared.replies.Reply.TheVariants as reply
use Rattle.cluster_events.specs.Parts.{ActorEvent, up_line}
use Rattle.cluster_events.specs.Settings.{Setting}
use Rattle.cluster_steps.specs.Guards.{AreLegalSteps, IsExact}
use Rattle.cluster_steps.specs.Named.{steps}
use Rattle.cluster_steps.specs.declared.events.Event.{Event}
use Rattle.cluster_steps.specs.declared.events.Event.TheVariants as event
use Rattle.cluster_steps.specs.declared.events.Woken.{Woken}
use Rattle.cluster_steps.specs.declared.events.Woken.TheVariants as woken
use Rattle.history_report.specs.Told.{SoFar, name_of, number_in, session_at, told_by, up_lines, with_event}
use Rattle.report_laws.specs.Nodes.{is_up}
use Rattle.report_text.specs.declared.reports.Line.{Line}
use Rattle.report_text.specs.declared.reports.Line.TheVariants as line
use Rattle.run_results.specs.Stores.{AreStoresOf, fault_of, faults_of}
use Rattle.script_form.specs.declared.scripts.SessionLine.{SessionLine}
use Rattle.store_log.specs.Keeps.{Stored}
use Rattle.run_stores.specs.Falls.{fall_in, falls_told}

falls_more : (k : ℕ) (xs ys : List Line) → falls_told k (xs ++ ys) ≡ falls_told k xs + falls_told k ys
falls_more k [] ys = omega arith
falls_more k (x ∷ xs) ys =
    let q : falls_told k (xs ++ ys) ≡ falls_told k xs + falls_told k ys = falls_more k xs ys in
    omega arith

neither : (b : Bool) → ◌≡◌ {A = ℕ} (cond b 0 0) 0
neither true = refl
neither false = refl

quiet : (b : Bool) (x : ℕ) → x ≡ x + cond b 0 0
quiet b x = let z : ◌≡◌ {A = ℕ} (cond b 0 0) 0 = neither b in omega arith

one_more : (k : ℕ) (ls : List Line) (l : Line) (b : Bool) → fall_in k l ≡ 0 → falls_told k (ls ++ l ∷ []) ≡ falls_told k ls + cond b 0 0
one_more k ls l b none =
    let q : falls_told k (ls ++ l ∷ []) ≡ falls_told k ls + (fall_in k l + 0) = falls_more k ls (l ∷ []) in
    let z : ◌≡◌ {A = ℕ} (cond b 0 0) 0 = neither b in
    let n : fall_in k l ≡ 0 = none in
    omega arith

first_falls : (k i : ℕ) (ls : List Line) (b up : Bool) → falls_told k (ls ++ up_line up i) ≡ falls_told k ls + cond b 0 0
first_falls k i ls b true = ap (λ (xs : List Line). falls_told k xs) (append-nil ls) ∙ quiet b (falls_told k ls)
first_falls k i ls b false = one_more k ls (line.Up i) b refl

up_falls : (k i : ℕ) (ls : List Line) (b : Bool) (how : Woken) → falls_told k (ls ++ up_lines how i ls) ≡ falls_told k ls + cond b 0 0
up_falls k i ls b (woken.First rows) = first_falls k i ls b (is_up i ls)
up_falls k i ls b woken.AsLeft = one_more k ls (line.Up i) b refl
up_falls k i ls b woken.Led = one_more k ls (line.Up i) b refl
up_falls k i ls b woken.Took = one_more k ls (line.Up i) b refl
up_falls k i ls b woken.Appended = one_more k ls (line.Up i) b refl

down_falls : (k i count : ℕ) (ls : List Line) (fault : Bool) → falls_told k (ls ++ line.Down count i fault ∷ []) ≡ falls_told k ls + cond (k == i) (cond fault 1 0) 0
down_falls k i count ls true =
    let q : falls_told k (ls ++ line.Down count i true ∷ []) ≡ falls_told k ls + (cond (k == i) 1 0 + 0) = falls_more k ls (line.Down count i true ∷ []) in
    omega arith
down_falls k i count ls false = one_more k ls (line.Down count i false) (k == i) refl

event_falls : (G : Setting) (g : List (ℕ × ActorEvent)) (sessions : List SessionLine) (t : SoFar) (i : ℕ) (e : Event) (k : ℕ) → IsExact G g i e → falls_told k (with_event G.nodes sessions t i e).lines ≡ falls_told k t.lines + cond (k == i) (fault_of e) 0
event_falls G g sessions t i (event.Up how promised accepted entries) k exact = up_falls k i t.lines (k == i) how
event_falls G g sessions t i (event.Down fault) k exact = down_falls k i (t.downs + 1) t.lines fault
event_falls G g sessions t i (event.Begun position generation) k exact =
    one_more k t.lines (line.Session (name_of (session_at G.nodes sessions i)) (number_in t.ended i) (reply.Begin position)) (k == i) refl
event_falls G g sessions t i (event.Reply told) k exact = one_more k t.lines told (k == i) (ap (λ (l : Line). fall_in k l) exact)
event_falls G g sessions t i (event.Outcome told) k exact = one_more k t.lines told (k == i) (ap (λ (l : Line). fall_in k l) exact)
event_falls G g sessions t i event.Barrier k exact = one_more k t.lines line.Barrier (k == i) refl
event_falls G g sessions t i (event.Fed position generation) k exact = one_more k t.lines (line.Fed position) (k == i) refl
event_falls G g sessions t i (event.FedAgain position) k exact = one_more k t.lines (line.Fed position) (k == i) refl
event_falls G g sessions t i _ k exact = quiet (k == i) (falls_told k t.lines)

joined : (a b c d : ℕ) → a ≡ b + c → b ≡ d → a ≡ c + d
joined a b c d p q = omega arith

pub falls_are : (G : Setting) (sessions : List SessionLine) (h : List (ℕ × Event)) (k : ℕ) → AreLegalSteps G h → falls_told k (told_by G.nodes sessions h).lines ≡ faults_of k h
falls_are G sessions [] k legal = refl
falls_are G sessions (x ∷ h) k legal =
    joined (falls_told k (with_event G.nodes sessions (told_by G.nodes sessions h) x.0 x.1).lines) (falls_told k (told_by G.nodes sessions h).lines) (cond (k == x.0) (fault_of x.1) 0) (faults_of k h)
    (event_falls G (steps G h) sessions (told_by G.nodes sessions h) x.0 x.1 k legal.0.exact) (falls_are G sessions h k legal.1)

pub faults_told : (G : Setting) (sessions : List SessionLine) (h : List (ℕ × Event)) (cluster : ℕ) (old new : List Stored) (place : ℕ) (o s : Stored) → AreStoresOf G h cluster old new → slice_get old place ≡ Some o → slice_get new place ≡ Some s
    → (o.faults + falls_told (place + 1) (told_by G.nodes sessions h).lines ≤ s.faults) ⊎ (last_count ≤ s.faults)
faults_told G sessions h cluster old new place o s are at_old at_new =
    subst (λ n. (o.faults + n ≤ s.faults) ⊎ (last_count ≤ s.faults)) (sym (falls_are G sessions h (place + 1) are.legal)) (are.each place o s at_old at_new).faults
