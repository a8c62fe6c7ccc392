-- Each line that a node was stopped by an arm has its arm.
use Rattle.std.proofs.Common.{◌≡◌, ℕ, ◌+◌, ◌<◌, ◌≤◌, List, [], ◌∷◌, ◌++◌, arith, refl, ap, sym, subst, ◌∙◌}
use Rattle.std.specs.Prelude.{◌==◌, ◌&&◌, Bool, true, false, cond, Option, Some, None, is_some, option_map, if◌then◌else◌}
use Rattle.std.proofs.lemmas.Bool.Decides.{Decides-eqb}
use mathlib.Core.Logic.{◌⊎◌, inl, inr}
use Rattle.cluster_consensus.specs.Events.{NodeEvent}
use Rattle.cluster_consensus.specs.Events.NodeEvent.{Down, Boot, Back, BackLead, BackTake, BackGrow, BackAppend}
use Rattle.cluster_events.proofs.FireLaws.{IsGone, gone_next, FireOk, fires_ok, fires_once}
use Rattle.cluster_events.proofs.HistoryLaws.{legal_rest}
use Rattle.cluster_events.proofs.LineLists.{append_assoc, append_nil, told_append}
use Rattle.cluster_events.proofs.OwnLines.{knows, same_name}
use Rattle.cluster_events.specs.Arms.{Fired, new_fires, fires, fired_by, last_fired, IsStopArmed}
use Rattle.cluster_events.specs.ByScript.{Heeds, AllHeed}
use Rattle.cluster_events.specs.Guards.{AreNamedApart, MayDo, IsLegalHistory, AllBeyond}
use Rattle.cluster_events.specs.Operator.{act_at, count_of, IsStopOrdered}
use Rattle.cluster_events.specs.Parts.{ActorEvent, Part, part, moves, barriers_printed, up_line, lines_by, lines}
use Rattle.cluster_events.specs.Parts.ActorEvent.{Node, Stop, Begun, Say, Note, Finish, Fire, Barrier, Fed, FedAgain}
use Rattle.cluster_events.specs.Settings.{Setting, basis_from, lines_to_do, closing}
use Rattle.cluster_events.proofs.Charges.{fired_unspent, fired_now}
use Rattle.cluster_requests.specs.KeptEntries.{KeptEntry}
use Rattle.cluster_answers.proofs.OutcomeLaws.{some_same}
use Rattle.cluster_reports.proofs.OrderLaws.{armed_by, FitsEvent, FitsArms, Run, run_tail}
use Rattle.cluster_reports.proofs.PlaceLaws.{two_ends}
use Rattle.cluster_reports.proofs.RestLaws.{not_some, behind_front, behind_more, Across, across}
use Rattle.cluster_reports.proofs.SessionLaws.{passed_all, passed_few, step_of}
use Rattle.cluster_reports.specs.Runs.{FitsScript, FollowsScript}
use Rattle.cluster_reports.specs.SessionLines.{lines_behind, behind_lines, are_over, barriers_passed, IsAtNext}
use Rattle.core_lists.specs.Lists.{In, Has}
use Rattle.core_lists.specs.Lists.In.{there}
use Rattle.cdb_values.specs.Rows.{Rows}
use Rattle.node_reports.specs.Operator.{barriers, is_barrier, barrier_lines, IsArmed}
use Rattle.report_laws.proofs.WorkLaws.{said_append}
use Rattle.report_laws.specs.Nodes.{downs, is_up}
use Rattle.report_laws.specs.Told.{told, Numbered}
use Rattle.report_laws.specs.Work.{WorkItem, said, said_by, start}
use Rattle.report_text.specs.declared.reports.Line.{Line}
use Rattle.report_text.specs.declared.reports.Line.TheVariants as line
use Rattle.script_form.specs.declared.scripts.Act.TheVariants as act
use Rattle.script_form.specs.declared.scripts.BodyLine.{BodyLine}
use Rattle.session_language.proofs.EachLaws.{get_next}

-- the arms of a history, by the numbers of the lines that nodes went down

abbrev is_stop : ActorEvent → Bool
is_stop Stop = true
is_stop _ = false

abbrev arm_event : (G : Setting) (body : List BodyLine) (h : List (ℕ × ActorEvent)) (i : ℕ) (e : ActorEvent) → Heeds G body h i e → Option ℕ
arm_event G body h i Stop may = armed_by body h i may.1
arm_event G body h i _ may = None

abbrev pub arms_of : (G : Setting) (body : List BodyLine) (h : List (ℕ × ActorEvent)) → AllHeed G body h → ℕ → Option ℕ
arms_of G body [] all n = None
arms_of G body (x ∷ h) all n = if is_stop x.1 && (n == downs (lines G h) + 1) then arm_event G body h x.0 x.1 all.0.heeds else arms_of G body h all.1 n

downs_append : (a b : List Line) → downs (a ++ b) ≡ downs b + downs a
downs_append [] b = plus (downs b)
  where
    plus : (n : ℕ) → n ≡ n + 0
    plus n = omega arith
downs_append (line.Session name t r ∷ a) b = downs_append a b
downs_append (line.Down c n f ∷ a) b = ap (λ z. z + 1) (downs_append a b) ∙ plus (downs b) (downs a)
  where
    plus : (m n : ℕ) → m + n + 1 ≡ m + (n + 1)
    plus m n = omega arith
downs_append (line.Up n ∷ a) b = downs_append a b
downs_append (line.Barrier ∷ a) b = downs_append a b
downs_append (line.Fed d ∷ a) b = downs_append a b

downs_grow : (G : Setting) (x : ℕ × ActorEvent) (h : List (ℕ × ActorEvent)) → downs (lines G h) ≤ downs (lines G (x ∷ h))
downs_grow G x h = let e = downs_append (lines G h) (lines_by G (lines G h) (part G x.0 h) x.0 x.1) in omega arith

old_arm : (G : Setting) (body : List BodyLine) (x : ℕ × ActorEvent) (h : List (ℕ × ActorEvent)) (all : AllHeed G body (x ∷ h)) (n : ℕ) → n ≤ downs (lines G h) → arms_of G body (x ∷ h) all n ≡ arms_of G body h all.1 n
old_arm G body x h all n le = go (n == downs (lines G h) + 1) refl (is_stop x.1)
  where
    go : (b : Bool) → (n == downs (lines G h) + 1) ≡ b → (c : Bool) → (if c && (n == downs (lines G h) + 1) then arm_event G body h x.0 x.1 all.0.heeds else arms_of G body h all.1 n) ≡ arms_of G body h all.1 n
    go true q c = absurd (let e : n ≡ downs (lines G h) + 1 = (Decides-eqb n (downs (lines G h) + 1)).0 q in omega arith)
    go false q true = ap (λ z. if z then arm_event G body h x.0 x.1 all.0.heeds else arms_of G body h all.1 n) q
    go false q false = refl

new_arm : (G : Setting) (body : List BodyLine) (h : List (ℕ × ActorEvent)) (i : ℕ) (all : AllHeed G body ((i, Stop) ∷ h)) → arms_of G body ((i, Stop) ∷ h) all (downs (lines G h) + 1) ≡ armed_by body h i all.0.heeds.1
new_arm G body h i all = ap (λ z. if z then armed_by body h i all.0.heeds.1 else arms_of G body h all.1 (downs (lines G h) + 1)) ((Decides-eqb (downs (lines G h) + 1) (downs (lines G h) + 1)).1 refl)

pub fit_arms : (G : Setting) (body : List BodyLine) (h : List (ℕ × ActorEvent)) (all : AllHeed G body h) (arms : ℕ → Option ℕ) → ((n : ℕ) → n ≤ downs (lines G h) → arms n ≡ arms_of G body h all n) → FitsArms G body arms h all
fit_arms G body [] all arms agree = tt
fit_arms G body (x ∷ h) all arms agree = (one x.0 x.1 all agree, fit_arms G body h all.1 arms (λ n le. agree n (let g = downs_grow G x h in omega arith) ∙ old_arm G body x h all n le))
  where
    one : (i : ℕ) (e : ActorEvent) (all : AllHeed G body ((i, e) ∷ h)) → ((n : ℕ) → n ≤ downs (lines G ((i, e) ∷ h)) → arms n ≡ arms_of G body ((i, e) ∷ h) all n) → FitsEvent G body arms h i e all.0.heeds
    one i Stop all agree = agree (downs (lines G h) + 1) (let d = downs_append (lines G h) (line.Down (downs (lines G h) + 1) i false ∷ []) in let d' : downs (lines G h ++ line.Down (downs (lines G h) + 1) i false ∷ []) ≡ 1 + downs (lines G h) = d in omega arith) ∙ new_arm G body h i all
    one i _ all agree = tt

-- no arm stops two nodes

abbrev pub IsSpent : List (ℕ × ActorEvent) → ℕ → Type 0
IsSpent h k = Has (λ f. (f.line ≡ k) × IsGone h f) (fires h)

-- an arm that fires at a stop
abbrev pub FiresAt : List (ℕ × ActorEvent) → ℕ → ℕ → Type 0
FiresAt h i k = (f : Fired) × In f (fires h) × (f.line ≡ k) × (f.node ≡ i) × (f.ups ≡ (count_of i h).ups)

fires_at : (body : List BodyLine) (h : List (ℕ × ActorEvent)) (i k : ℕ) (o : IsStopOrdered body h i ⊎ IsStopArmed h i) → armed_by body h i o ≡ Some k → FiresAt h i k
fires_at body h i k (inl o) e = not_some e
fires_at body h i k (inr f) e = (f.it, f.mem, some_same e, f.is.0, f.is.1)

-- an arm of the history behind an event is one of before, or fires at it
pub pick : (G : Setting) (body : List BodyLine) (x : ℕ × ActorEvent) (h : List (ℕ × ActorEvent)) (all : AllHeed G body (x ∷ h)) (n k : ℕ) → arms_of G body (x ∷ h) all n ≡ Some k → (arms_of G body h all.1 n ≡ Some k) ⊎ ((n ≡ downs (lines G h) + 1) × (x.1 ≡ Stop) × ((count_of x.0 h).up ≡ true) × FiresAt h x.0 k)
pick G body x h all n k e = by x.0 x.1 all e
  where
    by : (i : ℕ) (ev : ActorEvent) (all : AllHeed G body ((i, ev) ∷ h)) → arms_of G body ((i, ev) ∷ h) all n ≡ Some k → (arms_of G body h all.1 n ≡ Some k) ⊎ ((n ≡ downs (lines G h) + 1) × (ev ≡ Stop) × ((count_of i h).up ≡ true) × FiresAt h i k)
    by i Stop all e = go (n == downs (lines G h) + 1) refl e
      where
        go : (b : Bool) → (n == downs (lines G h) + 1) ≡ b → (if b then armed_by body h i all.0.heeds.1 else arms_of G body h all.1 n) ≡ Some k → (arms_of G body h all.1 n ≡ Some k) ⊎ ((n ≡ downs (lines G h) + 1) × (Stop ≡ Stop) × ((count_of i h).up ≡ true) × FiresAt h i k)
        go true q e = inr ((Decides-eqb n (downs (lines G h) + 1)).0 q, refl, all.0.heeds.0, fires_at body h i k all.0.heeds.1 e)
        go false q e = inl e
    by i _ all e = inl e

spent_on : (G : Setting) (body : List BodyLine) (x : ℕ × ActorEvent) (h : List (ℕ × ActorEvent)) → AllHeed G body h → (k : ℕ) → IsSpent h k → IsSpent (x ∷ h) k
spent_on G body x h all k s = record { it = s.it; mem = behind_new (new_fires h x.0 x.1) s.mem; is = (s.is.0, gone_next x h s.it ((fires_ok G body h all).at s.it s.mem).low s.is.1) }
  where
    behind_new : (new : List Fired) → In s.it (fires h) → In s.it (new ++ fires h)
    behind_new [] m = m
    behind_new (y ∷ ys) m = there (behind_new ys m)

spent : (G : Setting) (body : List BodyLine) (h : List (ℕ × ActorEvent)) (all : AllHeed G body h) (n k : ℕ) → arms_of G body h all n ≡ Some k → IsSpent h k
spent G body [] all n k e = not_some e
spent G body (x ∷ h) all n k e = elim (pick G body x h all n k e) [
  | inl q ↦ spent_on G body x h all.1 k (spent G body h all.1 n k q)
  | inr p ↦ new x.1 p.1 p.3
]
  where
    new : (ev : ActorEvent) → ev ≡ Stop → FiresAt h x.0 k → IsSpent ((x.0, ev) ∷ h) k
    new ev q f = subst (λ z. IsSpent ((x.0, z) ∷ h) k) (sym q) (record { it = f.0; mem = f.1; is = (f.2, fired_now h x.0 f.0 f.3) })

never_again : {A : Type 0} (G : Setting) → AreNamedApart G → (body : List BodyLine) (h : List (ℕ × ActorEvent)) → AllHeed G body h → (i k : ℕ) → (count_of i h).up ≡ true → FiresAt h i k → IsSpent h k → A
never_again G far body h all i k up f s =
    let same = (fires_once G body far h all).same s.it f.0 s.mem f.1 (s.is.0 ∙ sym f.2) in
    absurd (fired_unspent h i f.0 up f.3 f.4 (subst (λ z. IsGone h z) same s.is.1))

pub arms_apart : (G : Setting) → AreNamedApart G → (body : List BodyLine) (h : List (ℕ × ActorEvent)) (all : AllHeed G body h) (n m k : ℕ) → arms_of G body h all n ≡ Some k → arms_of G body h all m ≡ Some k → n ≡ m
arms_apart G far body [] all n m k e f = not_some e
arms_apart G far body (x ∷ h) all n m k e f = elim (pick G body x h all n k e) [
  | inl p ↦ elim (pick G body x h all m k f) [
    | inl q ↦ arms_apart G far body h all.1 n m k p q
    | inr q ↦ never_again G far body h all.1 x.0 k q.2 q.3 (spent G body h all.1 n k p)
  ]
  | inr p ↦ elim (pick G body x h all m k f) [
    | inl q ↦ never_again G far body h all.1 x.0 k p.2 p.3 (spent G body h all.1 m k q)
    | inr q ↦ p.0 ∙ sym q.0
  ]
]

-- where a line that a node was stopped stands

one_line : {A : Type 0} (l d : A) (pre post : List A) → l ∷ [] ≡ pre ++ d ∷ post → (pre ≡ []) × (l ≡ d)
one_line l d [] post e = (refl, (let h : l ≡ d = cc in h))
one_line {A = A} l d (y ∷ ys) post e = absurd (none ys (let t : [] ≡ ys ++ d ∷ post = cc in t))
  where
    none : (ys : List A) → [] ≡ ys ++ d ∷ post → ⊥
    none [] q = absurd (cc)
    none (z ∷ zs) q = absurd (cc)

no_line : {A B : Type 0} (d : A) (pre post : List A) → [] ≡ pre ++ d ∷ post → B
no_line d [] post e = absurd (cc)
no_line d (y ∷ ys) post e = absurd (cc)

abbrev Stopped : Line → ℕ → ℕ → List Line → ℕ → ActorEvent → List Line → Type 0
Stopped d count node before i e pre = (pre ≡ []) × (e ≡ Stop) × (i ≡ node) × (count ≡ downs before + 1)

boot_stopped : {B : Type 0} (i : ℕ) (b : Bool) (count node : ℕ) (pre post : List Line) → up_line b i ≡ pre ++ line.Down count node false ∷ post → B
boot_stopped i true count node pre post e = no_line (line.Down count node false) pre post e
boot_stopped i false count node pre post e = absurd (let k = (one_line (line.Up i) (line.Down count node false) pre post e).1 in cc)

stopped : (G : Setting) (before : List Line) (p : Part) (i : ℕ) (e : ActorEvent) (count node : ℕ) (pre post : List Line) → lines_by G before p i e ≡ pre ++ line.Down count node false ∷ post → (pre ≡ []) × (e ≡ Stop) × (i ≡ node) × (count ≡ downs before + 1)
stopped G before p i Stop count node pre post e =
    let k = one_line (line.Down (downs before + 1) i false) (line.Down count node false) pre post e in
    let w : line.Down (downs before + 1) i false ≡ line.Down count node false = k.1 in
    (k.0, refl, (let a : i ≡ node = cc in a), (let b : downs before + 1 ≡ count = cc in sym b))
stopped G before p i (Node Down) count node pre post e = absurd (let k = (one_line (line.Down (downs before + 1) i true) (line.Down count node false) pre post e).1 in let b : true ≡ false = cc in cc)
stopped G before p i (Node (Boot q a l)) count node pre post e = boot_stopped i (is_up i before) count node pre post e
stopped G before p i (Node (Back q)) count node pre post e = absurd (let k = (one_line (line.Up i) (line.Down count node false) pre post e).1 in cc)
stopped G before p i (Node BackLead) count node pre post e = absurd (let k = (one_line (line.Up i) (line.Down count node false) pre post e).1 in cc)
stopped G before p i (Node (BackTake g l)) count node pre post e = absurd (let k = (one_line (line.Up i) (line.Down count node false) pre post e).1 in cc)
stopped G before p i (Node (BackGrow l)) count node pre post e = absurd (let k = (one_line (line.Up i) (line.Down count node false) pre post e).1 in cc)
stopped G before p i (Node (BackAppend x)) count node pre post e = absurd (let k = (one_line (line.Up i) (line.Down count node false) pre post e).1 in cc)
stopped G before p i (Node _) count node pre post e = no_line (line.Down count node false) pre post e
stopped G before p i (Begun b g) count node pre post e = absurd (let k = (one_line _ (line.Down count node false) pre post e).1 in cc)
stopped G before p i (Say r) count node pre post e = absurd (let k = (one_line _ (line.Down count node false) pre post e).1 in cc)
stopped G before p i Note count node pre post e = absurd (let k = (one_line _ (line.Down count node false) pre post e).1 in cc)
stopped G before p i (Finish a) count node pre post e = absurd (let k = (one_line _ (line.Down count node false) pre post e).1 in cc)
stopped G before p i Barrier count node pre post e = absurd (let k = (one_line _ (line.Down count node false) pre post e).1 in cc)
stopped G before p i (Fed d g) count node pre post e = absurd (let k = (one_line _ (line.Down count node false) pre post e).1 in cc)
stopped G before p i (FedAgain d) count node pre post e = absurd (let k = (one_line _ (line.Down count node false) pre post e).1 in cc)
stopped G before p i _ count node pre post e = no_line (line.Down count node false) pre post e

-- the event that printed it
pub record StopsAt (G : Setting) (H : List (ℕ × ActorEvent)) (before : List Line) (count node : ℕ) : Type 0 where
  pub later : List (ℕ × ActorEvent)
  pub there' : List (ℕ × ActorEvent)
  pub split : H ≡ later ++ (node, Stop) ∷ there'
  pub lined : before ≡ lines G there'
  pub counted' : count ≡ downs (lines G there') + 1

found : (G : Setting) (H : List (ℕ × ActorEvent)) (x : ℕ × ActorEvent) (h w : List (ℕ × ActorEvent)) → H ≡ w ++ x ∷ h → (before after : List Line) (count node : ℕ) → lines G (x ∷ h) ≡ before ++ line.Down count node false ∷ after → ((a : List Line) → lines G h ≡ before ++ line.Down count node false ∷ a → StopsAt G H before count node) → StopsAt G H before count node
found G H x h w is before after count node e old = go (two_ends (lines G h) (lines_by G (lines G h) (part G x.0 h) x.0 x.1) before (line.Down count node false ∷ after) e)
  where
    at_it : (i : ℕ) (ev : ActorEvent) → H ≡ w ++ (i, ev) ∷ h → before ≡ lines G h → (ev ≡ Stop) → (i ≡ node) → (count ≡ downs (lines G h) + 1) → StopsAt G H before count node
    at_it i ev is q k l c = record { later = w; there' = h; split = is ∙ (ap (λ z. w ++ (i, z) ∷ h) k ∙ ap (λ z. w ++ (z, Stop) ∷ h) l); lined = q; counted' = c }

    by : (v : List Line) → line.Down count node false ∷ after ≡ v ++ lines_by G (lines G h) (part G x.0 h) x.0 x.1 → lines G h ≡ before ++ v → StopsAt G H before count node
    by [] a b = let s = stopped G (lines G h) (part G x.0 h) x.0 x.1 count node [] after (sym a) in at_it x.0 x.1 is (sym (b ∙ append_nil before)) s.1 s.2 s.3
    by (y ∷ v) a b =
        let q : line.Down count node false ≡ y = cc in
        old v (b ∙ ap (λ z. before ++ z ∷ v) (sym q))

    go : ((v : List Line) × (line.Down count node false ∷ after ≡ v ++ lines_by G (lines G h) (part G x.0 h) x.0 x.1) × (lines G h ≡ before ++ v)) ⊎ ((y : Line) × (z : List Line) × (lines_by G (lines G h) (part G x.0 h) x.0 x.1 ≡ y ∷ (z ++ line.Down count node false ∷ after))) → StopsAt G H before count node
    go (inr k) = absurd (let s = (stopped G (lines G h) (part G x.0 h) x.0 x.1 count node (k.0 ∷ k.1) after k.2).0 in cc)
    go (inl k) = by k.0 k.1 k.2

pub find : (G : Setting) (H h w : List (ℕ × ActorEvent)) → H ≡ w ++ h → (before after : List Line) (count node : ℕ) → lines G h ≡ before ++ line.Down count node false ∷ after → StopsAt G H before count node
find G H [] w is before after count node e = no_line (line.Down count node false) before after e
find G H (x ∷ h) w is before after count node e = found G H x h w is before after count node e (λ a q. find G H h (w ++ x ∷ []) (is ∙ sym (append_assoc w (x ∷ []) h)) before a count node q)

-- an arm that stopped a node fires there
pub fires_in : (G : Setting) (body : List BodyLine) (arms : ℕ → Option ℕ) (w u : List (ℕ × ActorEvent)) (node k : ℕ) → Run G body arms (w ++ (node, Stop) ∷ u) → arms (downs (lines G u) + 1) ≡ Some k → FiresAt u node k × ((count_of node u).up ≡ true)
fires_in G body arms [] u node k run e = (fires_at body u node k run.all.0.heeds.1 (sym run.fits.0 ∙ e), run.all.0.heeds.0)
fires_in G body arms (x ∷ w) u node k run e = fires_in G body arms w u node k (run_tail run) e

-- barriers, as the lines tell them

bars_append : (a b : List Line) → barriers (a ++ b) ≡ barriers b + barriers a
bars_append [] b = plus (barriers b)
  where
    plus : (n : ℕ) → n ≡ n + 0
    plus n = omega arith
bars_append (line.Session name t r ∷ a) b = bars_append a b
bars_append (line.Down c n f ∷ a) b = bars_append a b
bars_append (line.Up n ∷ a) b = bars_append a b
bars_append (line.Barrier ∷ a) b = ap (λ z. z + 1) (bars_append a b) ∙ plus (barriers b) (barriers a)
  where
    plus : (m n : ℕ) → m + n + 1 ≡ m + (n + 1)
    plus m n = omega arith
bars_append (line.Fed d ∷ a) b = bars_append a b

boot_bars : (b : Bool) (i : ℕ) → barriers (up_line b i) ≡ 0
boot_bars true i = refl
boot_bars false i = refl

node_bars : (G : Setting) (before : List Line) (p : Part) (i : ℕ) (e : NodeEvent KeptEntry) → barriers (lines_by G before p i (Node e)) ≡ 0
node_bars G before p i Down = refl
node_bars G before p i (Boot q a l) = boot_bars (is_up i before) i
node_bars G before p i (Back q) = refl
node_bars G before p i BackLead = refl
node_bars G before p i (BackTake g l) = refl
node_bars G before p i (BackGrow l) = refl
node_bars G before p i (BackAppend x) = refl
node_bars G before p i _ = refl

bars_row : (G : Setting) (h : List (ℕ × ActorEvent)) (i : ℕ) (e : ActorEvent) → barriers (lines_by G (lines G h) (part G i h) i e) + barriers_printed h ≡ barriers_printed ((i, e) ∷ h)
bars_row G h i (Node e) = ap (λ z. z + barriers_printed h) (node_bars G (lines G h) (part G i h) i e) ∙ zero_plus (barriers_printed h)
  where
    zero_plus : (n : ℕ) → 0 + n ≡ n
    zero_plus n = omega arith
bars_row G h i Barrier = one_plus (barriers_printed h)
  where
    one_plus : (n : ℕ) → 1 + n ≡ n + 1
    one_plus n = omega arith
bars_row G h i _ = zero_plus (barriers_printed h)
  where
    zero_plus : (n : ℕ) → 0 + n ≡ n
    zero_plus n = omega arith

pub bars_told : (G : Setting) (h : List (ℕ × ActorEvent)) → barriers (lines G h) ≡ barriers_printed h
bars_told G [] = refl
bars_told G (x ∷ h) = bars_append (lines G h) (lines_by G (lines G h) (part G x.0 h) x.0 x.1) ∙ (ap (λ z. barriers (lines_by G (lines G h) (part G x.0 h) x.0 x.1) + z) (bars_told G h) ∙ bars_row G h x.0 x.1)

bar_lines_append : (a b : List BodyLine) → barrier_lines (a ++ b) ≡ barrier_lines b + barrier_lines a
bar_lines_append [] b = plus (barrier_lines b)
  where
    plus : (n : ℕ) → n ≡ n + 0
    plus n = omega arith
bar_lines_append (x ∷ a) b = ap (λ z. z + (if is_barrier x.act then 1 else 0)) (bar_lines_append a b) ∙ plus (barrier_lines b) (barrier_lines a) (if is_barrier x.act then 1 else 0)
  where
    plus : (m n k : ℕ) → m + n + k ≡ m + (n + k)
    plus m n k = omega arith

-- an arm that fired, and whose session waits, stands behind the barriers before the armed line

fired_waited : (G : Setting) (body : List BodyLine) (h : List (ℕ × ActorEvent)) → AllHeed G body h → (s : ℕ) (f : Fired) → last_fired s h ≡ Some f → G.phase s (part G s h).told ≤ barriers_printed h
fired_waited G body [] all s f e = not_some e
fired_waited G body (x ∷ h) all s f e = go (s == x.0) refl e (fired_waited G body h all.1 s f)
  where
    grow : (i : ℕ) (ev : ActorEvent) → barriers_printed h ≤ barriers_printed ((i, ev) ∷ h)
    grow i Barrier = omega arith
    grow i _ = omega arith

    own : (i : ℕ) (ev : ActorEvent) → Heeds G body h i ev → fired_by h i ev ≡ Some f → G.phase i (moves (part G i h) ev).told ≤ barriers_printed ((i, ev) ∷ h)
    own i (Fire l node) may q = may.waited
    own i _ may q = not_some q

    go : (b : Bool) → (s == x.0) ≡ b → cond b (fired_by h x.0 x.1) (last_fired s h) ≡ Some f → (last_fired s h ≡ Some f → G.phase s (part G s h).told ≤ barriers_printed h) → G.phase s (cond b (moves (part G s h) x.1) (part G s h)).told ≤ barriers_printed (x ∷ h)
    go true q e old =
        let i : x.0 ≡ s = sym ((Decides-eqb s x.0).0 q) in
        subst (λ j. G.phase j (moves (part G j h) x.1).told ≤ barriers_printed (x ∷ h)) i (own x.0 x.1 all.0.heeds e)
    go false q e old = let g = grow x.0 x.1 in let o = old e in omega arith

module _ (G : Setting) (fits : FitsScript G) (follows : FollowsScript G) (H : List (ℕ × ActorEvent)) (whole : IsLegalHistory G H) (all : AllHeed G (lines_to_do G) H)
    (full : (h w : List (ℕ × ActorEvent)) (s : ℕ) → H ≡ w ++ h → (part G s h).left ≡ [] → (r : List Numbered) × (behind_lines G.language (G.names s) G.script.body (part G s h).told ≡ Some r))
    (over_all : (s : ℕ) → (r : List Numbered) × (behind_lines G.language (G.names s) G.script.body (told (G.names s) (lines G H)) ≡ Some r)) where
  -- before a session is past a line no barrier behind it is told
  no_barrier_yet : (h w : List (ℕ × ActorEvent)) → H ≡ w ++ h → (s : ℕ) → (s == 0) ≡ false → (front : List BodyLine) (next : BodyLine) (later : List BodyLine) (text : List ℕ) → G.script.body ≡ front ++ next ∷ later → next.act ≡ act.Say (G.names s) text
      → lines_behind G.language [] start (said (G.names s) front ++ text ∷ []) (part G s h).told ≡ None → barriers_printed h ≤ barrier_lines front
  no_barrier_yet [] w is s ns front next later text body say none = omega arith
  no_barrier_yet (x ∷ h) w is s ns front next later text body say none = step x.0 x.1 legal.0 (no_barrier_yet h (w ++ x ∷ []) (is ∙ sym (append_assoc w (x ∷ []) h)) s ns front next later text body say before)
    where
      legal : IsLegalHistory G (x ∷ h)
      legal = legal_rest G w (x ∷ h) (subst (λ z. IsLegalHistory G z) is whole)

      before : lines_behind G.language [] start (said (G.names s) front ++ text ∷ []) (part G s h).told ≡ None
      before = go (lines_behind G.language [] start (said (G.names s) front ++ text ∷ []) (part G s h).told) refl
        where
          go : (o : Option (List Numbered)) → lines_behind G.language [] start (said (G.names s) front ++ text ∷ []) (part G s h).told ≡ o → o ≡ None
          go None q = refl
          go (Some r) q = elim (step_of G fits x h s legal) [
            | inl k ↦ not_some (sym none ∙ (ap (λ z. lines_behind G.language [] start (said (G.names s) front ++ text ∷ []) z) k.0 ∙ q))
            | inr k ↦ not_some (sym none ∙ (ap (λ z. lines_behind G.language [] start (said (G.names s) front ++ text ∷ []) z) k.1 ∙ behind_more G.language [] start (said (G.names s) front ++ text ∷ []) (part G s h).told (k.0 ∷ []) r q))
          ]

      said_next : said (G.names s) (front ++ next ∷ []) ≡ said (G.names s) front ++ text ∷ []
      said_next = said_append (G.names s) front (next ∷ []) ∙ ap (λ z. said (G.names s) front ++ z) (ap (λ z. said_by (G.names s) z []) say ∙ ap (λ c. if c then text ∷ [] else []) (same_name (G.names s)))

      not_past : are_over G.language (G.names s) (front ++ next ∷ []) (part G s h).told ≡ false
      not_past = ap (λ z. is_some (lines_behind G.language [] start z (part G s h).told)) said_next ∙ ap (λ z. is_some z) before

      split : G.script.body ≡ (front ++ next ∷ []) ++ later
      split = body ∙ sym (append_assoc front (next ∷ []) later)

      few : G.phase s (part G s h).told ≤ barrier_lines front
      few =
          let p = follows.phase s ns (part G s h).told ∙ ap (λ z. barriers_passed G.language (G.names s) [] z (part G s h).told) split in
          let f = passed_few G.language (G.names s) [] (front ++ next ∷ []) later (part G s h).told not_past in
          let a : barrier_lines (front ++ next ∷ []) ≡ (0 + (if is_barrier next.act then 1 else 0)) + barrier_lines front = bar_lines_append front (next ∷ []) in
          let b : (0 + (if is_barrier next.act then 1 else 0)) + barrier_lines front ≡ (0 + 0) + barrier_lines front = ap (λ z. (0 + (if is_barrier z then 1 else 0)) + barrier_lines front) say in
          let p' : G.phase s (part G s h).told ≡ barriers_passed G.language (G.names s) [] ((front ++ next ∷ []) ++ later) (part G s h).told = p in
          let c : barrier_lines (front ++ next ∷ []) ≡ (0 + 0) + barrier_lines front = a ∙ b in
          omega arith

      busy : (ls : List WorkItem) → (part G s h).left ≡ ls → AllBeyond G h → barriers_printed h < G.phase s (part G s h).told
      busy [] q beyond = absurd (
          let f = full h (w ++ x ∷ []) s (is ∙ sym (append_assoc w (x ∷ []) h)) q in
          let texts : said (G.names s) G.script.body ≡ (said (G.names s) front ++ text ∷ []) ++ said (G.names s) later = ap (λ z. said (G.names s) z) split ∙ (said_append (G.names s) (front ++ next ∷ []) later ∙ ap (λ z. z ++ said (G.names s) later) said_next) in
          let k = behind_front G.language [] start (said (G.names s) front ++ text ∷ []) (said (G.names s) later) (part G s h).told f.0 (ap (λ z. lines_behind G.language [] start z (part G s h).told) (sym texts) ∙ f.1) in
          not_some (sym before ∙ k.1))
      busy (i ∷ ls) q beyond = beyond s ns (λ z. absurd (let e = sym q ∙ z in cc))

      step : (i : ℕ) (e : ActorEvent) → MayDo G h i e → barriers_printed h ≤ barrier_lines front → barriers_printed ((i, e) ∷ h) ≤ barrier_lines front
      step i Barrier may old = let b = busy (part G s h).left refl may.1 in let f = few in omega arith
      step i _ may old = old

  -- a node that is stopped by an arm
  pub armed_there : (u w : List (ℕ × ActorEvent)) (node : ℕ) → H ≡ w ++ (node, Stop) ∷ u → (after : List Line) → lines G H ≡ lines G u ++ line.Down (downs (lines G u) + 1) node false ∷ after → (base : ℕ) (rows : Rows) (k : ℕ) → FiresAt u node k → (count_of node u).up ≡ true → IsArmed (basis_from G base rows) (lines G u) after k
  armed_there u w node is after lined base rows k fire up = record {
    done = at.done;
    arm = at.arm;
    middle = at.middle;
    next = at.next;
    later = at.later;
    stands = at.stands;
    is_place = sym fire.2 ∙ at.is_place;
    session = G.names f.by;
    moment = ok.when;
    is_arm = is_arm;
    text = at.text;
    is_next = at.is_next;
    none_between = middle_none;
    earlier = over.earlier;
    part = at.part;
    told_before = knows G fits.apart u f.by ∙ over.before;
    all_earlier = over.pieces;
    left = over.left;
    others = over.others;
    told_after = over.after;
    mine = over.mine;
    its_piece = over.its;
    is_piece = over.is;
    side = side;
  }
    where
      f : Fired
      f = fire.0

      legal_u : IsLegalHistory G u
      legal_u = (legal_rest G w ((node, Stop) ∷ u) (subst (λ z. IsLegalHistory G z) is whole)).1

      heed_rest : (a b : List (ℕ × ActorEvent)) → AllHeed G (lines_to_do G) (a ++ b) → AllHeed G (lines_to_do G) b
      heed_rest [] b k = k
      heed_rest (x ∷ a) b k = heed_rest a b k.1

      all_u : AllHeed G (lines_to_do G) u
      all_u = (heed_rest w ((node, Stop) ∷ u) (subst (λ z. AllHeed G (lines_to_do G) z) is all)).1

      ok : FireOk G (lines_to_do G) u (fire.0)
      ok = (fires_ok G (lines_to_do G) u all_u).at fire.0 fire.1

      waits : (last_fired (fire.0).by u ≡ Some (fire.0)) × (G.armed (fire.0).by (part G (fire.0).by u).told (fire.0).line ≡ true)
      waits = elim ok.waits [ inl p ↦ p | inr g ↦ absurd (fired_unspent u node fire.0 up fire.3 fire.4 g) ]

      at : IsAtNext G.language (G.names (fire.0).by) G.script.body (fire.0).line (part G (fire.0).by u).told
      at = follows.armed (fire.0).by (part G (fire.0).by u).told (fire.0).line waits.1

      is_arm : at.arm.act ≡ act.Arm (G.names (fire.0).by) ok.when
      is_arm =
          let whole_body : lines_to_do G ≡ at.done ++ at.arm ∷ ((at.middle ++ at.next ∷ at.later) ++ closing G.script.watches) = ap (λ z. z ++ closing G.script.watches) at.stands ∙ append_assoc at.done (at.arm ∷ (at.middle ++ at.next ∷ at.later)) (closing G.script.watches) in
          let a : act_at (lines_to_do G) (fire.0).line ≡ Some at.arm.act = ap (λ z. act_at z (fire.0).line) whole_body ∙ (ap (λ z. act_at (at.done ++ at.arm ∷ ((at.middle ++ at.next ∷ at.later) ++ closing G.script.watches)) z) at.is_place ∙ ap (λ z. option_map (λ l. l.act) z) (get_next at.done at.arm ((at.middle ++ at.next ∷ at.later) ++ closing G.script.watches))) in
          some_same (sym a ∙ ok.stands)

      middle_none : said (G.names (fire.0).by) at.middle ≡ []
      middle_none = sym (ap (λ z. said_by (G.names (fire.0).by) z (said (G.names (fire.0).by) at.middle)) is_arm) ∙ at.none_between

      front : List BodyLine
      front = at.done ++ at.arm ∷ at.middle

      front_said : said (G.names (fire.0).by) (at.done ++ at.arm ∷ at.middle) ≡ said (G.names (fire.0).by) at.done
      front_said = said_append (G.names (fire.0).by) at.done (at.arm ∷ at.middle) ∙ (ap (λ z. said (G.names (fire.0).by) at.done ++ z) at.none_between ∙ append_nil (said (G.names (fire.0).by) at.done))

      split : G.script.body ≡ (at.done ++ at.arm ∷ at.middle) ++ at.next ∷ at.later
      split = at.stands ∙ sym (append_assoc at.done (at.arm ∷ at.middle) (at.next ∷ at.later))

      next_said : said (G.names (fire.0).by) (at.next ∷ at.later) ≡ at.text ∷ said (G.names (fire.0).by) at.later
      next_said = ap (λ z. said_by (G.names (fire.0).by) z (said (G.names (fire.0).by) at.later)) at.is_next ∙ ap (λ c. if c then at.text ∷ said (G.names (fire.0).by) at.later else said (G.names (fire.0).by) at.later) (same_name (G.names (fire.0).by))

      body_said : said (G.names (fire.0).by) G.script.body ≡ said (G.names (fire.0).by) at.done ++ at.text ∷ said (G.names (fire.0).by) at.later
      body_said = ap (λ z. said (G.names (fire.0).by) z) split ∙ (said_append (G.names (fire.0).by) (at.done ++ at.arm ∷ at.middle) (at.next ∷ at.later) ∙ (ap (λ z. z ++ said (G.names (fire.0).by) (at.next ∷ at.later)) front_said ∙ ap (λ z. said (G.names (fire.0).by) at.done ++ z) next_said))

      told_whole : told (G.names (fire.0).by) (lines G H) ≡ (part G (fire.0).by u).told ++ told (G.names (fire.0).by) after
      told_whole = ap (λ z. told (G.names (fire.0).by) z) lined ∙ (told_append (G.names (fire.0).by) (lines G u) (line.Down (downs (lines G u) + 1) node false ∷ after) ∙ ap (λ z. z ++ told (G.names (fire.0).by) after) (knows G fits.apart u (fire.0).by))

      over : Across G.language [] start (said (G.names (fire.0).by) at.done) at.text (part G (fire.0).by u).told (told (G.names (fire.0).by) after) at.part
      over =
          let r = over_all (fire.0).by in
          across G.language [] start (said (G.names (fire.0).by) at.done) at.text (said (G.names (fire.0).by) at.later) (part G (fire.0).by u).told (told (G.names (fire.0).by) after) at.part r.0 at.over at.at_it
          (ap (λ z. lines_behind G.language [] start z ((part G (fire.0).by u).told ++ told (G.names (fire.0).by) after)) (sym body_said) ∙ (ap (λ z. lines_behind G.language [] start (said (G.names (fire.0).by) G.script.body) z) (sym told_whole) ∙ r.1))

      not_operator : ((fire.0).by == 0) ≡ false
      not_operator = go ((fire.0).by == 0) refl
        where
          none : (a : List (List ℕ)) (t : List ℕ) (b : List (List ℕ)) → a ++ t ∷ b ≡ [] → ⊥
          none [] t b e = absurd (cc)
          none (x ∷ a) t b e = absurd (cc)

          go : (b : Bool) → ((fire.0).by == 0) ≡ b → ((fire.0).by == 0) ≡ false
          go false e = e
          go true e = absurd (none (said (G.names (fire.0).by) at.done) at.text (said (G.names (fire.0).by) at.later) (sym body_said ∙ (ap (λ j. said (G.names j) G.script.body) ((Decides-eqb (fire.0).by 0).0 e) ∙ follows.operator)))

      side : barriers (lines G u) ≡ barrier_lines at.done + barrier_lines at.middle
      side =
          let w' = fired_waited G (lines_to_do G) u all_u (fire.0).by (fire.0) waits.0 in
          let n = no_barrier_yet u (w ++ (node, Stop) ∷ []) (is ∙ sym (append_assoc w ((node, Stop) ∷ []) u)) (fire.0).by not_operator (at.done ++ at.arm ∷ at.middle) at.next at.later at.text split at.is_next (ap (λ z. lines_behind G.language [] start (z ++ at.text ∷ []) (part G (fire.0).by u).told) front_said ∙ at.at_it) in
          let p = follows.phase (fire.0).by not_operator (part G (fire.0).by u).told ∙ ap (λ z. barriers_passed G.language (G.names (fire.0).by) [] z (part G (fire.0).by u).told) split in
          let o : are_over G.language (G.names (fire.0).by) (at.done ++ at.arm ∷ at.middle) (part G (fire.0).by u).told ≡ true = ap (λ z. is_some (lines_behind G.language [] start z (part G (fire.0).by u).told)) front_said ∙ ap (λ z. is_some z) at.over in
          let a = passed_all G.language (G.names (fire.0).by) [] (at.done ++ at.arm ∷ at.middle) (at.next ∷ at.later) (part G (fire.0).by u).told o in
          let l : barrier_lines (at.done ++ at.arm ∷ at.middle) ≡ (barrier_lines at.middle + (if is_barrier at.arm.act then 1 else 0)) + barrier_lines at.done = bar_lines_append at.done (at.arm ∷ at.middle) in
          let m : (barrier_lines at.middle + (if is_barrier at.arm.act then 1 else 0)) + barrier_lines at.done ≡ (barrier_lines at.middle + 0) + barrier_lines at.done = ap (λ z. (barrier_lines at.middle + (if is_barrier z then 1 else 0)) + barrier_lines at.done) is_arm in
          between (barriers (lines G u)) (barriers_printed u) (G.phase (fire.0).by (part G (fire.0).by u).told) (barriers_passed G.language (G.names (fire.0).by) (at.done ++ at.arm ∷ at.middle) (at.next ∷ at.later) (part G (fire.0).by u).told) (barrier_lines (at.done ++ at.arm ∷ at.middle)) (barrier_lines at.done) (barrier_lines at.middle) (bars_told G u) w' (p ∙ a) n (l ∙ m)
        where
          between : (told_bars bars phase passed front done middle : ℕ) → told_bars ≡ bars → phase ≤ bars → phase ≡ passed + front → bars ≤ front → front ≡ (middle + 0) + done → told_bars ≡ done + middle
          between told_bars bars phase passed front done middle a b c d e = omega arith
