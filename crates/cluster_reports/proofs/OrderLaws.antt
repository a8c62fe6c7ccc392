-- What the operator tells since a place: nothing where each of its orders is obeyed, and one line at most of the order that is not.
--
-- `arms` tells by the number of a line that a node was stopped by which arm it was, if by one.
use Rattle.std.proofs.Common.{◌≡◌, ℕ, ◌+◌, ◌<◌, ◌≤◌, List, [], ◌∷◌, ◌++◌, arith, refl, ap, sym, subst, ◌∙◌}
use Rattle.std.specs.Prelude.{◌==◌, ◌&&◌, not, Bool, true, false, cond, Option, Some, None, if◌then◌else◌}
use Rattle.std.proofs.lemmas.Bool.Decides.{Decides-eqb}
use mathlib.Core.Logic.{◌⊎◌, inl, inr}
use Rattle.cluster_consensus.specs.Events.NodeEvent.{Down, Boot, Back, BackLead, BackTake, BackGrow, BackAppend}
use Rattle.cluster_events.proofs.Charges.{OrderOk, orders_ok}
use Rattle.cluster_events.proofs.LineLists.{append_nil}
use Rattle.cluster_events.proofs.LinePlaces.{came, boot_came, other_lines, sees}
use Rattle.cluster_events.specs.Arms.{IsStopArmed}
use Rattle.cluster_events.specs.ByScript.{Heeds, AllHeed}
use Rattle.cluster_events.specs.Guards.{MayDo, IsLegalHistory}
use Rattle.cluster_events.specs.Operator.{Turn, turn, Count, turn_counted, count_of, Ordered, node_in, new_orders, orders, Duty, heed, duty, IsStopOrdered, IsStartOrdered}
use Rattle.cluster_events.specs.Operator.Turn.{Rise, Fall, Keep}
use Rattle.cluster_events.specs.Parts.{ActorEvent, Part, part, field, up_line, lines_by, lines}
use Rattle.cluster_events.specs.Parts.ActorEvent.{Node, Stop, Order, Obeyed, Barrier, Fed, FedAgain}
use Rattle.cluster_events.specs.Settings.{Setting}
use Rattle.cluster_requests.specs.KeptEntries.{KeptEntry}
use Rattle.cluster_reports.proofs.SessionLaws.{since}
use Rattle.core_lists.specs.Lists.{In, Each}
use Rattle.core_lists.specs.Lists.In.{here, there}
use Rattle.node_reports.specs.Operator.{is_operators, operators}
use Rattle.node_reports.specs.Site.{is_some}
use Rattle.report_laws.proofs.NodesLaws.{up_append}
use Rattle.report_laws.specs.Nodes.{downs, is_up, up_from}
use Rattle.report_text.specs.declared.reports.Line.{Line}
use Rattle.report_text.specs.declared.reports.Line.TheVariants as line
use Rattle.script_form.specs.declared.scripts.Act.{Act}
use Rattle.script_form.specs.declared.scripts.Act.TheVariants as act
use Rattle.script_form.specs.declared.scripts.BodyLine.{BodyLine}

-- an order is done with: no line can come of it any more
abbrev pub ShutBy : Act → ℕ → ℕ → Count → Bool → Type 0
ShutBy (act.Stop node) ups falls t seen = t.up ≡ true → ups < t.ups
ShutBy (act.Start node) ups falls t seen = seen ≡ false → falls < t.falls
ShutBy _ ups falls t seen = Unit {0}

abbrev pub Shut : Setting → List (ℕ × ActorEvent) → Ordered → Type 0
Shut G h o = ShutBy o.act o.ups o.falls (count_of (node_in o.act) h) (is_up (node_in o.act) (lines G h))

-- what an event of a node does to it, and what its lines say of it
data Turned (t : Turn) (was now : Bool) : Type 0 where
  rose : t ≡ Rise → now ≡ true → Turned t was now
  fell : t ≡ Fall → now ≡ false → Turned t was now
  kept : t ≡ Keep → now ≡ was → Turned t was now

went : (k : ℕ) (b f : Bool) (c : ℕ) → up_from k b (line.Down c k f ∷ []) ≡ false
went k b f c = ap (λ z. if z then false else b) ((Decides-eqb k k).1 refl)

turned : (G : Setting) (i : ℕ) (before : List Line) (p : Part) (e : ActorEvent) → Turned (turn e) (is_up i before) (up_from i (is_up i before) (lines_by G before p i e))
turned G i before p (Node Down) = fell refl (went i (is_up i before) true (downs before + 1))
turned G i before p (Node (Boot r a l)) = rose refl (boot_came i (is_up i before))
turned G i before p (Node (Back r)) = rose refl (came i (is_up i before))
turned G i before p (Node BackLead) = rose refl (came i (is_up i before))
turned G i before p (Node (BackTake g l)) = rose refl (came i (is_up i before))
turned G i before p (Node (BackGrow l)) = rose refl (came i (is_up i before))
turned G i before p (Node (BackAppend x)) = rose refl (came i (is_up i before))
turned G i before p (Node _) = kept refl refl
turned G i before p Stop = fell refl (went i (is_up i before) false (downs before + 1))
turned G i before p _ = kept refl refl

shut_turn : (a : Act) (ups falls : ℕ) (c : Count) (u : Turn) (was now : Bool) → ups ≤ c.ups → falls ≤ c.falls → Turned u was now → ShutBy a ups falls c was → ShutBy a ups falls (turn_counted c u) now
shut_turn (act.Stop node) ups falls c u was now lu lf (rose e q) k = subst (λ z. (turn_counted c z).up ≡ true → ups < (turn_counted c z).ups) (sym e) (λ w. omega arith)
shut_turn (act.Stop node) ups falls c u was now lu lf (fell e q) k = subst (λ z. (turn_counted c z).up ≡ true → ups < (turn_counted c z).ups) (sym e) (λ w. absurd (cc))
shut_turn (act.Stop node) ups falls c u was now lu lf (kept e q) k = subst (λ z. (turn_counted c z).up ≡ true → ups < (turn_counted c z).ups) (sym e) k
shut_turn (act.Start node) ups falls c u was now lu lf (rose e q) k = λ w. absurd (cc)
shut_turn (act.Start node) ups falls c u was now lu lf (fell e q) k = subst (λ z. now ≡ false → falls < (turn_counted c z).falls) (sym e) (λ w. omega arith)
shut_turn (act.Start node) ups falls c u was now lu lf (kept e q) k = subst (λ z. now ≡ false → falls < (turn_counted c z).falls) (sym e) (λ w. k (sym q ∙ w))
shut_turn (act.Say session text) ups falls c u was now lu lf t k = tt
shut_turn (act.Arm session moment) ups falls c u was now lu lf t k = tt
shut_turn act.Barrier ups falls c u was now lu lf t k = tt
shut_turn act.Feed ups falls c u was now lu lf t k = tt

pub shut_later : (G : Setting) (x : ℕ × ActorEvent) (h : List (ℕ × ActorEvent)) (o : Ordered) → OrderOk h o → Shut G h o → Shut G (x ∷ h) o
shut_later G x h o ok k = go (node_in o.act == x.0) refl
  where
    n : ℕ
    n = node_in o.act

    lined : is_up (node_in o.act) (lines G (x ∷ h)) ≡ up_from (node_in o.act) (is_up (node_in o.act) (lines G h)) (lines_by G (lines G h) (part G x.0 h) x.0 x.1)
    lined = up_append (node_in o.act) true (lines G h) (lines_by G (lines G h) (part G x.0 h) x.0 x.1)

    go : (b : Bool) → (node_in o.act == x.0) ≡ b → ShutBy o.act o.ups o.falls (cond b (turn_counted (count_of (node_in o.act) h) (turn x.1)) (count_of (node_in o.act) h)) (is_up (node_in o.act) (lines G (x ∷ h)))
    go false e = subst (λ z. ShutBy o.act o.ups o.falls (count_of (node_in o.act) h) z) (sym (lined ∙ other_lines G (node_in o.act) x.0 e (is_up (node_in o.act) (lines G h)) (lines G h) (part G x.0 h) x.1)) k
    go true e =
        let i : node_in o.act ≡ x.0 = (Decides-eqb (node_in o.act) x.0).0 e in
        let t : Turned (turn x.1) (is_up (node_in o.act) (lines G h)) (up_from (node_in o.act) (is_up (node_in o.act) (lines G h)) (lines_by G (lines G h) (part G x.0 h) x.0 x.1))
        = subst (λ j. Turned (turn x.1) (is_up j (lines G h)) (up_from j (is_up j (lines G h)) (lines_by G (lines G h) (part G x.0 h) x.0 x.1))) (sym i) (turned G x.0 (lines G h) (part G x.0 h) x.1) in
        subst (λ z. ShutBy o.act o.ups o.falls (turn_counted (count_of (node_in o.act) h) (turn x.1)) z) (sym lined)
        (shut_turn o.act o.ups o.falls (count_of (node_in o.act) h) (turn x.1) (is_up (node_in o.act) (lines G h)) (up_from (node_in o.act) (is_up (node_in o.act) (lines G h)) (lines_by G (lines G h) (part G x.0 h) x.0 x.1)) ok.ups ok.falls t k)

pub all_later : (G : Setting) (body : List BodyLine) (x : ℕ × ActorEvent) (h : List (ℕ × ActorEvent)) → Each (Shut G h) (orders body h) → Each (Shut G (x ∷ h)) (orders body h)
all_later G body x h k = record { at = λ o m. shut_later G x h o ((orders_ok body h).at o m) (k.at o m) }

-- an event that changes nothing of the operator's
abbrev pub is_calm : ActorEvent → Bool
is_calm Order = false
is_calm Obeyed = false
is_calm Barrier = false
is_calm (Fed d g) = false
is_calm (FedAgain d) = false
is_calm _ = true

abbrev pub Calm : List (ℕ × ActorEvent) → Type 0
Calm w = Each (λ x. is_calm x.1 ≡ true) w

pub heed_calm : (d : Duty) (e : ActorEvent) → is_calm e ≡ true → heed d e ≡ d
heed_calm d Order q = absurd (cc)
heed_calm d Obeyed q = absurd (cc)
heed_calm d Barrier q = absurd (cc)
heed_calm d (Fed p g) q = absurd (cc)
heed_calm d (FedAgain p) q = absurd (cc)
heed_calm d _ q = refl

pub orders_calm : (body : List BodyLine) (x : ℕ × ActorEvent) (h : List (ℕ × ActorEvent)) → is_calm x.1 ≡ true → orders body (x ∷ h) ≡ orders body h
orders_calm body x h q = go x.1 q
  where
    go : (e : ActorEvent) → is_calm e ≡ true → new_orders h e (duty body h).left ++ orders body h ≡ orders body h
    go Order q = absurd (cc)
    go _ q = refl

pub calm_tail : {x : ℕ × ActorEvent} {w : List (ℕ × ActorEvent)} → Calm (x ∷ w) → Calm w
calm_tail k = record { at = λ y m. k.at y (there m) }

pub duty_since : (body : List BodyLine) (w u : List (ℕ × ActorEvent)) → Calm w → duty body (w ++ u) ≡ duty body u
duty_since body [] u k = refl
duty_since body (x ∷ w) u k = heed_calm (duty body (w ++ u)) x.1 (k.at x here) ∙ duty_since body w u (calm_tail k)

pub orders_since : (body : List BodyLine) (w u : List (ℕ × ActorEvent)) → Calm w → orders body (w ++ u) ≡ orders body u
orders_since body [] u k = refl
orders_since body (x ∷ w) u k = orders_calm body x (w ++ u) (k.at x here) ∙ orders_since body w u (calm_tail k)

-- the arm by which a node is stopped, if it is by one
abbrev pub armed_by : (body : List BodyLine) (h : List (ℕ × ActorEvent)) (i : ℕ) → IsStopOrdered body h i ⊎ IsStopArmed h i → Option ℕ
armed_by body h i (inl o) = None
armed_by body h i (inr f) = Some f.it.line

abbrev pub FitsEvent : (G : Setting) (body : List BodyLine) (arms : ℕ → Option ℕ) (h : List (ℕ × ActorEvent)) (i : ℕ) (e : ActorEvent) → Heeds G body h i e → Type 0
FitsEvent G body arms h i Stop may = arms (downs (lines G h) + 1) ≡ armed_by body h i may.1
FitsEvent G body arms h i _ may = Unit {0}

abbrev pub FitsArms : (G : Setting) (body : List BodyLine) (arms : ℕ → Option ℕ) (h : List (ℕ × ActorEvent)) → AllHeed G body h → Type 0
FitsArms G body arms [] all = Unit {0}
FitsArms G body arms (x ∷ h) all = FitsEvent G body arms h x.0 x.1 all.0.heeds × FitsArms G body arms h all.1

-- a legal history by the script, whose arms these are
pub record Run (G : Setting) (body : List BodyLine) (arms : ℕ → Option ℕ) (h : List (ℕ × ActorEvent)) : Type 0 where
  pub legal : IsLegalHistory G h
  pub all : AllHeed G body h
  pub fits : FitsArms G body arms h all

pub run_tail : {G : Setting} {body : List BodyLine} {arms : ℕ → Option ℕ} {x : ℕ × ActorEvent} {h : List (ℕ × ActorEvent)} → Run G body arms (x ∷ h) → Run G body arms h
run_tail k = record { legal = k.legal.1; all = k.all.1; fits = k.fits.1 }

pub ops_append : (arms : ℕ → Option ℕ) (a b : List Line) → operators arms (a ++ b) ≡ operators arms a ++ operators arms b
ops_append arms [] b = refl
ops_append arms (l ∷ a) b = go (is_operators arms l) (ops_append arms a b)
  where
    go : (c : Bool) → operators arms (a ++ b) ≡ operators arms a ++ operators arms b → (if c then l ∷ operators arms (a ++ b) else operators arms (a ++ b)) ≡ (if c then l ∷ operators arms a else operators arms a) ++ operators arms b
    go true e = ap (λ z. l ∷ z) e
    go false e = e

-- the line that comes of an order
abbrev pub IsLineOf : Act → List Line → Type 0
IsLineOf (act.Stop node) ls = (count : ℕ) × (ls ≡ line.Down count node false ∷ [])
IsLineOf (act.Start node) ls = ls ≡ line.Up node ∷ []
IsLineOf _ ls = ⊥

-- a line of the operator comes of an order that was not shut, and is behind it
pub record Obeys (G : Setting) (body : List BodyLine) (h : List (ℕ × ActorEvent)) (x : ℕ × ActorEvent) (ls : List Line) : Type 0 where
  pub order : Ordered
  pub mem : In order (orders body h)
  pub was : Shut G h order → ⊥
  pub its : IsLineOf order.act ls
  pub now : Shut G (x ∷ h) order

module _ (G : Setting) (body : List BodyLine) (arms : ℕ → Option ℕ) where
  start_obeys : (h : List (ℕ × ActorEvent)) (i : ℕ) (e : ActorEvent) → is_up i (lines G h) ≡ false → is_up i (lines G ((i, e) ∷ h)) ≡ true → IsStartOrdered body h i → Obeys G body h (i, e) (line.Up i ∷ [])
  start_obeys h i e down up k = record {
    order = k.it;
    mem = k.mem;
    was = λ s. (
        let s' = subst (λ z. ShutBy z k.it.ups k.it.falls (count_of (node_in z) h) (is_up (node_in z) (lines G h))) k.is.0 s in
        let lt : k.it.falls < (count_of i h).falls = s' down in
        let f : k.it.falls ≡ (count_of i h).falls = k.is.1 in
        absurd (omega arith));
    its = subst (λ z. IsLineOf z (line.Up i ∷ [])) (sym k.is.0) refl;
    now = subst (λ z. ShutBy z k.it.ups k.it.falls (count_of (node_in z) ((i, e) ∷ h)) (is_up (node_in z) (lines G ((i, e) ∷ h)))) (sym k.is.0) (λ q. absurd (let w = sym up ∙ q in cc));
  }

  stop_obeys : (h : List (ℕ × ActorEvent)) (i c : ℕ) → (count_of i h).up ≡ true → IsStopOrdered body h i → Obeys G body h (i, Stop) (line.Down c i false ∷ [])
  stop_obeys h i c up k = record {
    order = k.it;
    mem = k.mem;
    was = λ s. (
        let s' = subst (λ z. ShutBy z k.it.ups k.it.falls (count_of (node_in z) h) (is_up (node_in z) (lines G h))) k.is.0 s in
        let lt : k.it.ups < (count_of i h).ups = s' up in
        let f : k.it.ups ≡ (count_of i h).ups = k.is.1 in
        absurd (omega arith));
    its = subst (λ z. IsLineOf z (line.Down c i false ∷ [])) (sym k.is.0) (c, refl);
    now = subst (λ z. ShutBy z k.it.ups k.it.falls (count_of (node_in z) ((i, Stop) ∷ h)) (is_up (node_in z) (lines G ((i, Stop) ∷ h)))) (sym k.is.0) (λ q. absurd (let e = ap (λ z. (cond z (turn_counted (count_of i h) Fall) (count_of i h)).up) ((Decides-eqb i i).1 refl) in let q' : (cond (i == i) (turn_counted (count_of i h) Fall) (count_of i h)).up ≡ true = q in cc));
  }

  abbrev Tells : List (ℕ × ActorEvent) → ℕ → ActorEvent → Type 0
  Tells h i e = (operators arms (lines_by G (lines G h) (part G i h) i e) ≡ []) ⊎ Obeys G body h (i, e) (operators arms (lines_by G (lines G h) (part G i h) i e))

  stop_tells : (h : List (ℕ × ActorEvent)) (i : ℕ) → (count_of i h).up ≡ true → (k : IsStopOrdered body h i ⊎ IsStopArmed h i) → arms (downs (lines G h) + 1) ≡ armed_by body h i k → Tells h i Stop
  stop_tells h i up (inr f) fit = inl (ap (λ z. if true && not (is_some z) then line.Down (downs (lines G h) + 1) i false ∷ [] else []) fit)
  stop_tells h i up (inl o) fit = inr (subst (λ z. Obeys G body h (i, Stop) z) (sym (ap (λ z. if true && not (is_some z) then line.Down (downs (lines G h) + 1) i false ∷ [] else []) fit)) (stop_obeys h i (downs (lines G h) + 1) up o))

  back_tells : (h : List (ℕ × ActorEvent)) (i : ℕ) (e : ActorEvent) → is_up i (lines G ((i, e) ∷ h)) ≡ true → ((field h).core.nodes i).up ≡ false → ((field h).core.nodes i).was_up ≡ true → IsStartOrdered body h i → Obeys G body h (i, e) (line.Up i ∷ [])
  back_tells h i e now up was k = start_obeys h i e ((sees G h i).down up was) now k

  came_up : (h : List (ℕ × ActorEvent)) (i : ℕ) (e : ActorEvent) → lines_by G (lines G h) (part G i h) i e ≡ line.Up i ∷ [] → is_up i (lines G ((i, e) ∷ h)) ≡ true
  came_up h i e q = up_append i true (lines G h) (lines_by G (lines G h) (part G i h) i e) ∙ (ap (λ z. up_from i (is_up i (lines G h)) z) q ∙ came i (is_up i (lines G h)))

  boot_tells : (h : List (ℕ × ActorEvent)) (i p a : ℕ) (l : List KeptEntry) (b : Bool) → is_up i (lines G h) ≡ b → (is_up i (lines G h) ≡ true) ⊎ IsStartOrdered body h i → (operators arms (up_line b i) ≡ []) ⊎ Obeys G body h (i, Node (Boot p a l)) (operators arms (up_line b i))
  boot_tells h i p a l true e k = inl refl
  boot_tells h i p a l false e (inl q) = absurd (let w = sym e ∙ q in cc)
  boot_tells h i p a l false e (inr k) = inr (start_obeys h i (Node (Boot p a l)) e (up_append i true (lines G h) (up_line (is_up i (lines G h)) i) ∙ boot_came i (is_up i (lines G h))) k)

  tells : (h : List (ℕ × ActorEvent)) (i : ℕ) (e : ActorEvent) → is_calm e ≡ true → MayDo G h i e → (k : Heeds G body h i e) → FitsEvent G body arms h i e k → Tells h i e
  tells h i Stop calm may k fit = stop_tells h i k.0 k.1 fit
  tells h i (Node Down) calm may k fit = inl refl
  tells h i (Node (Boot p a l)) calm may k fit = boot_tells h i p a l (is_up i (lines G h)) refl k.1
  tells h i (Node (Back r)) calm may k fit = inr (back_tells h i (Node (Back r)) (came_up h i (Node (Back r)) refl) may.0.0.0 may.0.0.1 k.1)
  tells h i (Node BackLead) calm may k fit = inr (back_tells h i (Node BackLead) (came_up h i (Node BackLead) refl) may.0.0.0 may.0.0.1 k.1)
  tells h i (Node (BackTake g l)) calm may k fit = inr (back_tells h i (Node (BackTake g l)) (came_up h i (Node (BackTake g l)) refl) may.0.0.0 may.0.0.1 k.1)
  tells h i (Node (BackGrow l)) calm may k fit = inr (back_tells h i (Node (BackGrow l)) (came_up h i (Node (BackGrow l)) refl) may.0.0.0 may.0.0.1 k.1)
  tells h i (Node (BackAppend x)) calm may k fit = inr (back_tells h i (Node (BackAppend x)) (came_up h i (Node (BackAppend x)) refl) may.0.0.0 may.0.0.1 k.1)
  tells h i (Node _) calm may k fit = inl refl
  tells h i Barrier calm may k fit = absurd (cc)
  tells h i (Fed d g) calm may k fit = absurd (cc)
  tells h i (FedAgain d) calm may k fit = absurd (cc)
  tells h i _ calm may k fit = inl refl

  none_more : (a b : List Line) → operators arms a ≡ [] → operators arms b ≡ [] → operators arms (a ++ b) ≡ []
  none_more a b e f = ops_append arms a b ∙ (ap (λ z. z ++ operators arms b) e ∙ f)

  -- where all orders are shut the operator tells nothing, until it goes on
  pub quiet : (w u : List (ℕ × ActorEvent)) → Run G body arms (w ++ u) → Calm w → Each (Shut G u) (orders body u) → (operators arms (since G w u) ≡ []) × Each (Shut G (w ++ u)) (orders body (w ++ u))
  quiet [] u run calm shut = (refl, shut)
  quiet (x ∷ w) u run calm shut =
      let old = quiet w u (run_tail run) (calm_tail calm) shut in
      let later = subst (λ z. Each (Shut G (x ∷ (w ++ u))) z) (sym (orders_calm body x (w ++ u) (calm.at x here))) (all_later G body x (w ++ u) old.1) in
      elim (tells (w ++ u) x.0 x.1 (calm.at x here) run.legal.0 run.all.0.heeds run.fits.0) [
        | inl e ↦ (none_more (since G w u) (lines_by G (lines G (w ++ u)) (part G x.0 (w ++ u)) x.0 x.1) old.0 e, later)
        | inr k ↦ absurd (k.was (old.1.at k.order k.mem))
      ]

  -- since an order that is the only one that is not shut
  pub record Serves (o : Ordered) (os : List Ordered) (w u : List (ℕ × ActorEvent)) : Type 0 where
    pub orders' : orders body (w ++ u) ≡ o ∷ os
    pub others : Each (Shut G (w ++ u)) os
    pub so : (operators arms (since G w u) ≡ []) ⊎ (IsLineOf o.act (operators arms (since G w u)) × Shut G (w ++ u) o)

  in_head : {A : Type 0} {x y : A} {ys : List A} → In x (y ∷ ys) → (x ≡ y) ⊎ In x ys
  in_head here = inl refl
  in_head (there m) = inr m

  pub serves : (o : Ordered) (os : List Ordered) (w u : List (ℕ × ActorEvent)) → Run G body arms (w ++ u) → Calm w → orders body u ≡ o ∷ os → Each (Shut G u) os → Serves o os w u
  serves o os [] u run calm e shut = record { orders' = e; others = shut; so = inl refl }
  serves o os (x ∷ w) u run calm e shut = step (serves o os w u (run_tail run) (calm_tail calm) e shut) (tells (w ++ u) x.0 x.1 (calm.at x here) run.legal.0 run.all.0.heeds run.fits.0)
    where
      new : List Line
      new = lines_by G (lines G (w ++ u)) (part G x.0 (w ++ u)) x.0 x.1

      step : Serves o os w u → Tells (w ++ u) x.0 x.1 → Serves o os (x ∷ w) u
      step old tell = record {
        orders' = orders_calm body x (w ++ u) (calm.at x here) ∙ old.orders';
        others = record { at = λ y m. shut_later G x (w ++ u) y ((subst (λ z. Each (OrderOk (w ++ u)) z) old.orders' (orders_ok body (w ++ u))).at y (there m)) (old.others.at y m) };
        so = elim tell [ inl q ↦ none q old.so | inr k ↦ some k (in_head (subst (λ z. In k.order z) old.orders' k.mem)) old.so ];
      }
        where
          ok : OrderOk (w ++ u) o
          ok = (subst (λ z. Each (OrderOk (w ++ u)) z) old.orders' (orders_ok body (w ++ u))).at o here

          whole : operators arms (since G (x ∷ w) u) ≡ operators arms (since G w u) ++ operators arms (lines_by G (lines G (w ++ u)) (part G x.0 (w ++ u)) x.0 x.1)
          whole = ops_append arms (since G w u) (lines_by G (lines G (w ++ u)) (part G x.0 (w ++ u)) x.0 x.1)

          none : operators arms (lines_by G (lines G (w ++ u)) (part G x.0 (w ++ u)) x.0 x.1) ≡ [] → (operators arms (since G w u) ≡ []) ⊎ (IsLineOf o.act (operators arms (since G w u)) × Shut G (w ++ u) o) → (operators arms (since G (x ∷ w) u) ≡ []) ⊎ (IsLineOf o.act (operators arms (since G (x ∷ w) u)) × Shut G (x ∷ (w ++ u)) o)
          none q (inl z) = inl (none_more (since G w u) (lines_by G (lines G (w ++ u)) (part G x.0 (w ++ u)) x.0 x.1) z q)
          none q (inr s) = inr (subst (λ z. IsLineOf o.act z) (sym (append_nil (operators arms (since G w u))) ∙ (ap (λ z. operators arms (since G w u) ++ z) (sym q) ∙ sym whole)) s.0, shut_later G x (w ++ u) o ok s.1)

          some : (k : Obeys G body (w ++ u) (x.0, x.1) (operators arms (lines_by G (lines G (w ++ u)) (part G x.0 (w ++ u)) x.0 x.1))) → (k.order ≡ o) ⊎ In k.order os → (operators arms (since G w u) ≡ []) ⊎ (IsLineOf o.act (operators arms (since G w u)) × Shut G (w ++ u) o)
              → (operators arms (since G (x ∷ w) u) ≡ []) ⊎ (IsLineOf o.act (operators arms (since G (x ∷ w) u)) × Shut G (x ∷ (w ++ u)) o)
          some k (inr m) s = absurd (k.was (old.others.at k.order m))
          some k (inl q) (inr s) = absurd (k.was (subst (λ z. Shut G (w ++ u) z) (sym q) s.1))
          some k (inl q) (inl z) = inr (
            subst (λ y. IsLineOf y.act (operators arms (since G (x ∷ w) u))) q (subst (λ y. IsLineOf k.order.act y) (ap (λ y. y ++ operators arms (lines_by G (lines G (w ++ u)) (part G x.0 (w ++ u)) x.0 x.1)) (sym z) ∙ sym whole) k.its),
            subst (λ y. Shut G (x ∷ (w ++ u)) y) q k.now,
          )
