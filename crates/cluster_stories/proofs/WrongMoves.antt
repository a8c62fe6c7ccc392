-- Sessions that move where they may not, and that go on too early.
use Rattle.std.proofs.Common.{◌≡◌, ℕ, ◌+◌, ◌≤◌, List, [], ◌∷◌, ◌++◌, arith, refl, ap, subst, sym, ◌∙◌}
use Rattle.std.specs.List.{AllByRecursion}
use Rattle.std.specs.Prelude.{Bool, true, false, Option, Some, None, if◌then◌else◌}
use Rattle.core_lists.specs.Fronts.{Front}
use Rattle.core_lists.specs.Fronts.Front.{front_nil, front_cons}
use Rattle.core_lists.proofs.Fronts.{front_refl, front_trans, front_append}
use Rattle.report_laws.specs.Nodes.{is_up, up_after, up_from}
use Rattle.report_text.specs.declared.reports.Line.{Line}
use Rattle.cluster_events.specs.Arms.{FellSince}
use Rattle.cluster_events.specs.ByScript.{AllHeed}
use Rattle.cluster_events.specs.Guards.{IsLegalHistory}
use Rattle.cluster_events.specs.Parts.{ActorEvent, part, lines, lines_by}
use Rattle.cluster_events.specs.Parts.ActorEvent.{Ask, Move, Send}
use Rattle.cluster_events.specs.Settings.{Setting}
use Rattle.cluster_events.specs.Sites.{CanMove, next_up, site}
use Rattle.cluster_stories.specs.Failover.{fallen, fired}
use Rattle.cluster_stories.specs.Story.{given, barred, script, set_up, its_sent, sent}

-- no line says that a node went down
abbrev pub StaysUp : ℕ → List Line → Type 0
StaysUp k ls = AllByRecursion (λ l. up_after k true l ≡ true) ls

up_at : (k : ℕ) {xs ls : List Line} → Front xs ls → StaysUp k ls → is_up k xs ≡ true
up_at k front_nil all = refl
up_at k (front_cons {x = x} {xs = xs} p) all = ap (λ b. up_from k b xs) all.0 ∙ up_at k p all.1

-- the lines of a beginning come first
first_lines : (G : Setting) (later before : List (ℕ × ActorEvent)) → Front (lines G before) (lines G (later ++ before))
first_lines G [] before = front_refl (lines G before)
first_lines G (x ∷ later) before = front_trans (first_lines G later before) (front_append (lines G (later ++ before)) (lines_by G (lines G (later ++ before)) (part G x.0 (later ++ before)) x.0 x.1))

up_before : (k : ℕ) (h later before : List (ℕ × ActorEvent)) → h ≡ later ++ before → StaysUp k (lines given h) → is_up k (lines given before) ≡ true
up_before k h later before e all = up_at k (first_lines given later before) (subst (λ z. StaysUp k (lines given z)) e all)

-- a session moves, and its node did not go down
moves_for_nothing : CanMove given sent 4 2 → ⊥
moves_for_nothing k = absurd (
    let b : is_up 1 (lines given k.before) ≡ true = up_at 1 (subst (λ z. Front (lines given k.before) (lines given z)) (sym k.split) (front_trans (first_lines given k.between k.before) (first_lines given k.later (k.between ++ k.before)))) (refl, (refl, tt)) in
    let d : is_up 1 (lines given k.before) ≡ false = k.down in
    cc)

pub moved_for_nothing : IsLegalHistory given ((4, Move 2) ∷ sent) → ⊥
moved_for_nothing legal = moves_for_nothing legal.0

-- it passes over a node that is up
passes_over : CanMove given fallen 4 3 → ⊥
passes_over k = absurd (
    let ls : List Line = lines given (k.between ++ k.before) in
    let u : is_up 2 ls ≡ true = up_before 2 fallen k.later (k.between ++ k.before) k.split (refl, (refl, (refl, tt))) in
    let n : next_up 3 3 ls 1 ≡ Some 3 = k.next in
    let o : next_up 3 3 ls 1 ≡ Some 2 = ap (λ b. if b then Some 2 else next_up 2 3 ls 2) u in
    let q : Some 2 ≡ Some 3 = sym o ∙ n in
    cc)

pub moved_too_far : IsLegalHistory given ((4, Move 3) ∷ fallen) → ⊥
moved_too_far legal = passes_over legal.0

-- a session goes on before the node is down that its arm stops
still_up : (f : FellSince given fired 4 (record { by = 4; line = 0; node = 1; ups = 1 })) → ⊥
still_up f = absurd (
    let u : is_up 1 (lines given f.before) ≡ true = up_before 1 fired f.later f.before f.split (refl, (refl, tt)) in
    let d : is_up 1 (lines given f.before) ≡ false = f.down in
    cc)

pub went_on_armed : AllHeed given script.body ((4, Send its_sent) ∷ fired) → ⊥
went_on_armed all = still_up all.0.goes_on

-- and before the barrier before its line is told
pub went_on_barred : IsLegalHistory barred ((4, Ask 7) ∷ set_up) → ⊥
went_on_barred legal = let w : 1 ≤ 0 = legal.0.1 in omega arith
