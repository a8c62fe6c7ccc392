-- Arms that fired: their lines of the script, and that their session waits until their node was down.
use Rattle.std.proofs.Common.{◌≡◌, ℕ, ◌<◌, ◌≤◌, List, [], ◌∷◌, ◌++◌, arith, refl, ap, sym, subst, ◌∙◌}
use Rattle.std.specs.Prelude.{◌==◌, Bool, true, false, cond, Some}
use Rattle.std.proofs.lemmas.Bool.Decides.{Decides-eqb}
use mathlib.Core.Logic.{◌⊎◌, inl, inr}
use Rattle.cluster_consensus.specs.Events.NodeEvent.{Boot, Down, Back, BackLead, BackTake, BackGrow, BackAppend}
use Rattle.cluster_consensus.proofs.Invariant.{Once}
use Rattle.cluster_events.specs.Arms.{Fired, new_fires, fires, fired_by, last_fired, FellSince, HasFallen}
use Rattle.cluster_events.specs.ByScript.{IsByScript, AllHeed}
use Rattle.cluster_events.specs.Guards.{AreNamedApart}
use Rattle.cluster_events.specs.Operator.{Count, Turn, turn, turn_counted, count_of, act_at}
use Rattle.cluster_events.specs.Operator.Turn.{Rise, Fall, Keep}
use Rattle.cluster_events.specs.Parts.{ActorEvent, Part, part, moves, lines_by, lines}
use Rattle.cluster_events.specs.Parts.ActorEvent.{Node, Stop, Fire}
use Rattle.cluster_events.specs.Settings.{Setting}
use Rattle.cluster_events.proofs.LinePlaces.{came, boot_came, other_lines}
use Rattle.cluster_events.proofs.OwnLines.{one_actor}
use Rattle.core_lists.specs.Lists.{In, Each}
use Rattle.core_lists.specs.Lists.In.{here, there}
use Rattle.core_lists.proofs.Lists.{each_add, each_none, each_more, nothing}
use Rattle.report_laws.specs.Nodes.{is_up, up_from}
use Rattle.report_laws.proofs.NodesLaws.{up_append}
use Rattle.report_text.specs.declared.reports.Line.{Line}
use Rattle.script_form.specs.declared.scripts.Act.TheVariants as act
use Rattle.script_form.specs.declared.scripts.BodyLine.{BodyLine}
use Rattle.script_form.specs.declared.scripts.Moment.{Moment}

-- a node that came up last is up by the lines
own_count : (G : Setting) (i : ℕ) (before : List Line) (p : Part) (e : ActorEvent) (c : Count) → (c.up ≡ true → is_up i before ≡ true) → (turn_counted c (turn e)).up ≡ true → up_from i (is_up i before) (lines_by G before p i e) ≡ true
own_count G i before p (Node Down) c f q = absurd (cc)
own_count G i before p (Node (Boot r a l)) c f q = boot_came i (is_up i before)
own_count G i before p (Node (Back r)) c f q = came i (is_up i before)
own_count G i before p (Node BackLead) c f q = came i (is_up i before)
own_count G i before p (Node (BackTake g l)) c f q = came i (is_up i before)
own_count G i before p (Node (BackGrow l)) c f q = came i (is_up i before)
own_count G i before p (Node (BackAppend x)) c f q = came i (is_up i before)
own_count G i before p (Node _) c f q = f q
own_count G i before p Stop c f q = absurd (cc)
own_count G i before p _ c f q = f q

pub count_seen : (G : Setting) (h : List (ℕ × ActorEvent)) (k : ℕ) → (count_of k h).up ≡ true → is_up k (lines G h) ≡ true
count_seen G [] k q = absurd (cc)
count_seen G (x ∷ h) k q = up_append k true (lines G h) (lines_by G (lines G h) (part G x.0 h) x.0 x.1) ∙ go (count_seen G h k) (k == x.0) refl q
  where
    go : ((count_of k h).up ≡ true → is_up k (lines G h) ≡ true) → (b : Bool) → (k == x.0) ≡ b → (cond b (turn_counted (count_of k h) (turn x.1)) (count_of k h)).up ≡ true → up_from k (is_up k (lines G h)) (lines_by G (lines G h) (part G x.0 h) x.0 x.1) ≡ true
    go old true e q = subst (λ j. up_from k (is_up k (lines G h)) (lines_by G (lines G h) (part G j h) j x.1) ≡ true) ((Decides-eqb k x.0).0 e) (own_count G k (lines G h) (part G k h) x.1 (count_of k h) old q)
    go old false e q = other_lines G k x.0 e (is_up k (lines G h)) (lines G h) (part G x.0 h) x.1 ∙ old q

-- counts never fall
more_counted : (t : Count) (u : Turn) → (t.ups ≤ (turn_counted t u).ups) × (t.falls ≤ (turn_counted t u).falls)
more_counted t Rise = (omega arith, omega arith)
more_counted t Fall = (omega arith, omega arith)
more_counted t Keep = (omega arith, omega arith)

pub counts_grow : (k : ℕ) (x : ℕ × ActorEvent) (h : List (ℕ × ActorEvent)) → ((count_of k h).ups ≤ (count_of k (x ∷ h)).ups) × ((count_of k h).falls ≤ (count_of k (x ∷ h)).falls)
counts_grow k x h = go (k == x.0)
  where
    go : (b : Bool) → ((count_of k h).ups ≤ (cond b (turn_counted (count_of k h) (turn x.1)) (count_of k h)).ups) × ((count_of k h).falls ≤ (cond b (turn_counted (count_of k h) (turn x.1)) (count_of k h)).falls)
    go true = more_counted (count_of k h) (turn x.1)
    go false = (omega arith, omega arith)

abbrev pub IsLow : List (ℕ × ActorEvent) → Fired → Type 0
IsLow h f = f.ups ≤ (count_of f.node h).ups

low_next : (x : ℕ × ActorEvent) (h : List (ℕ × ActorEvent)) (f : Fired) → IsLow h f → IsLow (x ∷ h) f
low_next x h f k = let m = (counts_grow f.node x h).0 in let k' : f.ups ≤ (count_of f.node h).ups = k in omega arith

-- the arm that a session let fire last
low_by : (h : List (ℕ × ActorEvent)) (i : ℕ) (e : ActorEvent) (f : Fired) → fired_by h i e ≡ Some f → IsLow ((i, e) ∷ h) f
low_by h i (Fire l node) f q =
    let r : Fired = record { by = i; line = l; node = node; ups = (count_of node h).ups } in
    let e : r ≡ f = cc in
    subst (λ g. IsLow ((i, Fire l node) ∷ h) g) e (counts_grow node (i, Fire l node) h).0
low_by h i _ f q = absurd (cc)

low_last : (s : ℕ) (h : List (ℕ × ActorEvent)) (f : Fired) → last_fired s h ≡ Some f → IsLow h f
low_last s [] f q = absurd (cc)
low_last s (x ∷ h) f q = go (low_last s h f) (s == x.0) q
  where
    go : (last_fired s h ≡ Some f → IsLow h f) → (b : Bool) → cond b (fired_by h x.0 x.1) (last_fired s h) ≡ Some f → IsLow (x ∷ h) f
    go old true q = low_by h x.0 x.1 f q
    go old false q = low_next x h f (old q)

-- its node was down since, so that it is up only if it came up again
abbrev pub IsGone : List (ℕ × ActorEvent) → Fired → Type 0
IsGone h f = (count_of f.node h).up ≡ true → f.ups < (count_of f.node h).ups

gone_counted : (ups : ℕ) (t : Count) (u : Turn) → ups ≤ t.ups → (t.up ≡ true → ups < t.ups) → (turn_counted t u).up ≡ true → ups < (turn_counted t u).ups
gone_counted ups t Rise low k q = omega arith
gone_counted ups t Fall low k q = absurd (cc)
gone_counted ups t Keep low k q = k q

pub gone_next : (x : ℕ × ActorEvent) (h : List (ℕ × ActorEvent)) (f : Fired) → IsLow h f → IsGone h f → IsGone (x ∷ h) f
gone_next x h f low k = go (f.node == x.0)
  where
    go : (b : Bool) → (cond b (turn_counted (count_of f.node h) (turn x.1)) (count_of f.node h)).up ≡ true → f.ups < (cond b (turn_counted (count_of f.node h) (turn x.1)) (count_of f.node h)).ups
    go true q = gone_counted f.ups (count_of f.node h) (turn x.1) low k q
    go false q = k q

gone_on : (later h : List (ℕ × ActorEvent)) (f : Fired) → IsLow h f → IsGone h f → IsLow (later ++ h) f × IsGone (later ++ h) f
gone_on [] h f low k = (low, k)
gone_on (x ∷ later) h f low k = let r = gone_on later h f low k in (low_next x (later ++ h) f r.0, gone_next x (later ++ h) f r.0 r.1)

fell_gone : (G : Setting) (h : List (ℕ × ActorEvent)) (s : ℕ) (f : Fired) → FellSince G h s f → IsGone h f
fell_gone G h s f fell =
    let none : IsGone fell.before f = λ q. absurd (let u = count_seen G fell.before f.node q in let d = fell.down in cc) in
    let r = gone_on fell.later fell.before f (low_last s fell.before f fell.since) none in
    subst (λ z. IsGone z f) (sym fell.split) r.1

-- of each arm that fired: where it stands, and that its session waits, or its node was down since
pub record FireOk (G : Setting) (body : List BodyLine) (h : List (ℕ × ActorEvent)) (f : Fired) : Type 0 where
  pub when : Moment
  pub stands : act_at body f.line ≡ Some (act.Arm (G.names f.by) when)
  pub low : IsLow h f
  pub waits : ((last_fired f.by h ≡ Some f) × (G.armed f.by (part G f.by h).told f.line ≡ true)) ⊎ IsGone h f

fire_later : (G : Setting) (body : List BodyLine) (x : ℕ × ActorEvent) (h : List (ℕ × ActorEvent)) (f : Fired) → IsByScript G body h x.0 x.1 → FireOk G body h f → FireOk G body (x ∷ h) f
fire_later G body x h f may k = record { when = k.when; stands = k.stands; low = low_next x h f k.low; waits = elim k.waits [ inl p ↦ go p (f.by == x.0) refl | inr g ↦ inr (gone_next x h f k.low g) ] }
  where
    go : (last_fired f.by h ≡ Some f) × (G.armed f.by (part G f.by h).told f.line ≡ true) → (b : Bool) → (f.by == x.0) ≡ b → ((cond b (fired_by h x.0 x.1) (last_fired f.by h) ≡ Some f) × (G.armed f.by (cond b (moves (part G f.by h) x.1) (part G f.by h)).told f.line ≡ true)) ⊎ IsGone (x ∷ h) f
    go p false e = inl p
    go p true e =
        let on = subst (λ j. HasFallen G h j (last_fired j h)) (sym ((Decides-eqb f.by x.0).0 e)) may.goes_on in
        inr (gone_next x h f k.low (fell_gone G h f.by f (subst (λ o. HasFallen G h f.by o) p.0 on)))

self_is : (i : ℕ) → (i == i) ≡ true
self_is i = (Decides-eqb i i).1 refl

new_ok : (G : Setting) (body : List BodyLine) (h : List (ℕ × ActorEvent)) (i : ℕ) (e : ActorEvent) → IsByScript G body h i e → Each (FireOk G body ((i, e) ∷ h)) (new_fires h i e)
new_ok G body h i (Fire l node) may =
    let m = may.heeds in
    let f : Fired = record { by = i; line = l; node = node; ups = (count_of node h).ups } in
    each_add (record {
      when = m.when;
      stands = m.stands;
      low = (counts_grow node (i, Fire l node) h).0;
      waits = inl (ap (λ b. cond b (Some f) (last_fired i h)) (self_is i), subst (λ b. G.armed i (cond b (part G i h) (part G i h)).told l ≡ true) (sym (self_is i)) m.armed);
    }) each_none
new_ok G body h i _ may = each_none

each_join : {A : Type 0} {P : A → Type 0} (xs ys : List A) → Each P xs → Each P ys → Each P (xs ++ ys)
each_join [] ys a b = b
each_join (x ∷ xs) ys a b = each_add (a.at x here) (each_join xs ys (record { at = λ y m. a.at y (there m) }) b)

pub fires_ok : (G : Setting) (body : List BodyLine) (h : List (ℕ × ActorEvent)) → AllHeed G body h → Each (FireOk G body h) (fires h)
fires_ok G body [] all = each_none
fires_ok G body (x ∷ h) all = each_join (new_fires h x.0 x.1) (fires h) (new_ok G body h x.0 x.1 all.0) (each_more (λ f k. fire_later G body x h f all.0 k) (fires_ok G body h all.1))

-- no line of the script fires twice
other_line : (G : Setting) (body : List BodyLine) → AreNamedApart G → (h : List (ℕ × ActorEvent)) (i l node : ℕ) → IsByScript G body h i (Fire l node) → (g : Fired) → In g (fires h) → FireOk G body h g → g.line ≡ l → ⊥
other_line G body far h i l node may g m k q =
    let a : act_at body g.line ≡ Some (act.Arm (G.names g.by) k.when) = k.stands in
    let b : act_at body l ≡ Some (act.Arm (G.names i) may.heeds.when) = may.heeds.stands in
    let c : act_at body g.line ≡ act_at body l = ap (λ z. act_at body z) q in
    let d : Some (act.Arm (G.names g.by) k.when) ≡ Some (act.Arm (G.names i) may.heeds.when) = sym a ∙ (c ∙ b) in
    let e : G.names g.by ≡ G.names i = cc in
    may.heeds.once.at g m (one_actor G far g.by i e) q

once_more : (f : Fired) (xs : List Fired) → Once (λ g. g.line) xs → ((g : Fired) → In g xs → g.line ≡ f.line → ⊥) → Once (λ g. g.line) (f ∷ xs)
once_more f xs o apart = record { same = go }
  where
    go : (a b : Fired) → In a (f ∷ xs) → In b (f ∷ xs) → a.line ≡ b.line → a ≡ b
    go a b here here q = refl
    go a b here (there n) q = absurd (apart b n (sym q))
    go a b (there m) here q = absurd (apart a m q)
    go a b (there m) (there n) q = o.same a b m n q

once_row : (G : Setting) (body : List BodyLine) → AreNamedApart G → (h : List (ℕ × ActorEvent)) (i : ℕ) (e : ActorEvent) → IsByScript G body h i e → Each (FireOk G body h) (fires h) → Once (λ f. f.line) (fires h) → Once (λ f. f.line) (new_fires h i e ++ fires h)
once_row G body far h i (Fire l node) may ok o = once_more _ (fires h) o (λ g m q. other_line G body far h i l node may g m (ok.at g m) q)
once_row G body far h i _ may ok o = o

pub fires_once : (G : Setting) (body : List BodyLine) → AreNamedApart G → (h : List (ℕ × ActorEvent)) → AllHeed G body h → Once (λ f. f.line) (fires h)
fires_once G body far [] all = record { same = λ a b m n q. absurd (nothing m) }
fires_once G body far (x ∷ h) all = once_row G body far h x.0 x.1 all.0 (fires_ok G body h all.1) (fires_once G body far h all.1)
