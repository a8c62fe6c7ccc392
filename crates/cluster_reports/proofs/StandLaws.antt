-- The operator's lines that are over have their places in the lines of a history.
--
-- An induction over the history. Behind the place of its last line the operator told nothing, where its next line is not ordered.
-- Where that is ordered, it told one line at most, of this order; and at the place at which it is obeyed, the order is shut.
use Rattle.std.proofs.Common.{◌≡◌, ℕ, ◌+◌, ◌<◌, ◌≤◌, List, [], ◌∷◌, ◌++◌, length, take, arith, refl, ap, sym, subst, ◌∙◌}
use Rattle.std.specs.Prelude.{true, false, cond, Option, if◌then◌else◌}
use Rattle.std.proofs.lemmas.Bool.Decides.{Decides-eqb}
use mathlib.Core.Logic.{◌⊎◌, inl, inr}
use Rattle.cluster_consensus.specs.Events.NodeEvent.{Down}
use Rattle.cluster_events.proofs.Charges.{orders_ok}
use Rattle.cluster_events.proofs.FireLaws.{count_seen}
use Rattle.cluster_events.proofs.LineLists.{append_assoc, append_nil}
use Rattle.cluster_events.specs.ByScript.{AllHeed, IsOrderDue}
use Rattle.cluster_events.specs.Guards.{AllBeyond}
use Rattle.cluster_events.specs.Operator.{operators_from, Duty, next_left, duty, Ordered, new_orders, orders, node_in, turn_counted, count_of, IsOfNode, IsHeededAt, IsObeyed}
use Rattle.cluster_events.specs.Operator.Turn.{Fall}
use Rattle.cluster_events.specs.Parts.{ActorEvent, barriers_printed, lines}
use Rattle.cluster_events.specs.Parts.ActorEvent.{Node, Order, Obeyed, Barrier, Fed, FedAgain}
use Rattle.cluster_events.specs.Settings.{Setting}
use Rattle.cluster_reports.proofs.OrderLaws.{Shut, ShutBy, all_later, is_calm, Calm, calm_tail, heed_calm, orders_since, Run, run_tail, IsLineOf, quiet, Serves, serves, ops_append}
use Rattle.cluster_reports.proofs.PlaceLaws.{two_ends, calm_right, calm_left, calm_bare, stays_ordered, fed_left, bars, bars_more}
use Rattle.cluster_reports.proofs.SessionLaws.{since, lines_since, since_append, NoBarrier}
use Rattle.core_lists.proofs.Lists.{each_add, each_none}
use Rattle.core_lists.specs.Lists.{In, Each}
use Rattle.core_lists.specs.Lists.In.{here}
use Rattle.node_reports.specs.Fed.{IsFed, IsFedAtLast}
use Rattle.node_reports.specs.Operator.{operators, is_barrier, IsHeeded}
use Rattle.node_reports.specs.Pieces.{AreOf}
use Rattle.report_laws.specs.History.{Basis}
use Rattle.report_laws.specs.Nodes.{downs, is_up}
use Rattle.report_laws.specs.Told.{told}
use Rattle.report_laws.specs.View.{View}
use Rattle.report_text.specs.declared.reports.Line.{Line}
use Rattle.report_text.specs.declared.reports.Line.TheVariants as line
use Rattle.script_form.specs.declared.scripts.Act.{Act}
use Rattle.script_form.specs.declared.scripts.Act.TheVariants as act
use Rattle.script_form.specs.declared.scripts.BodyLine.{BodyLine}

-- the last member of a list
last_same : {A : Type 0} (xs ys : List A) (x y : A) → xs ++ x ∷ [] ≡ ys ++ y ∷ [] → x ≡ y
last_same [] [] x y e = cc
last_same {A = A} [] (b ∷ ys) x y e = absurd (none ys (let t : [] ≡ ys ++ y ∷ [] = cc in t))
  where
    none : (ys : List A) → [] ≡ ys ++ y ∷ [] → ⊥
    none [] q = absurd (cc)
    none (z ∷ zs) q = absurd (cc)
last_same {A = A} (a ∷ xs) [] x y e = absurd (none xs (let t : xs ++ x ∷ [] ≡ [] = cc in t))
  where
    none : (xs : List A) → xs ++ x ∷ [] ≡ [] → ⊥
    none [] q = absurd (cc)
    none (z ∷ zs) q = absurd (cc)
last_same (a ∷ xs) (b ∷ ys) x y e = last_same xs ys x y (let t : xs ++ x ∷ [] ≡ ys ++ y ∷ [] = cc in t)

not_of_node : {A : Type 0} (a b : Act) → IsOfNode a → a ≡ b → (IsOfNode b → ⊥) → A
not_of_node a b k e f = absurd (f (subst (λ z. IsOfNode z) e k))

-- what a place of a feed asks besides, at the last line
pub record IsLastFed (basis : Basis) (view : View) (arms : ℕ → Option ℕ) (before mine : List Line) : Type 0 where
  pub front : List Line
  pub position : ℕ
  pub says : mine ≡ front ++ line.Fed position ∷ []
  pub alone : operators arms front ≡ []
  pub right : IsFedAtLast basis view (before ++ front) position

module _ (G : Setting) (body : List BodyLine) (arms : ℕ → Option ℕ) (basis : Basis) (view : View) (ending : ℕ) where
  -- a line of the operator has its place behind these lines, the last of which are its own
  abbrev pub IsPlaced : ℕ → Act → List Line → List Line → Type 0
  IsPlaced k a before mine = IsHeeded basis view arms (take k body) before a mine × (k ≡ ending → a ≡ act.Feed → IsLastFed basis view arms before mine)

  abbrev pub PlacedTo : List (ℕ × Act) → List Line → List Line → Type 0
  PlacedTo [] before rest = rest ≡ []
  PlacedTo (x ∷ xs) before rest = (mine : List Line) × (later : List Line) × (rest ≡ mine ++ later) × IsPlaced x.0 x.1 before mine × PlacedTo xs (before ++ mine) later

  placed_more : (xs : List (ℕ × Act)) (x : ℕ × Act) (before rest mine : List Line) → PlacedTo xs before rest → IsPlaced x.0 x.1 (before ++ rest) mine → PlacedTo (xs ++ x ∷ []) before (rest ++ mine)
  placed_more [] x before rest mine p k = (mine, [], ap (λ z. z ++ mine) p ∙ sym (append_nil mine), subst (λ z. IsPlaced x.0 x.1 z mine) (ap (λ z. before ++ z) p ∙ append_nil before) k, refl)
  placed_more (y ∷ xs) x before rest mine p k =
      (p.0, p.1 ++ mine, ap (λ z. z ++ mine) p.2 ∙ append_assoc p.0 p.1 mine, p.3, placed_more xs x (before ++ p.0) p.1 mine p.4 (subst (λ z. IsPlaced x.0 x.1 z mine) (ap (λ z. before ++ z) p.2 ∙ sym (append_assoc before p.0 p.1)) k))

  -- the next line is ordered
  pub record Under (h : List (ℕ × ActorEvent)) (place : List (ℕ × ActorEvent)) : Type 0 where
    pub line : ℕ
    pub act : Act
    pub rest : List (ℕ × Act)
    pub next : (duty body h).left ≡ (line, act) ∷ rest
    pub of_node : IsOfNode act
    pub later : List (ℕ × ActorEvent)
    pub by : ℕ
    pub before : List (ℕ × ActorEvent)
    pub split : h ≡ later ++ (by, Order) ∷ before
    pub calm : Calm later
    pub order : Ordered
    pub others : List Ordered
    pub orders' : orders body ((by, Order) ∷ before) ≡ order ∷ others
    pub is_act : order.act ≡ act
    pub shut : Each (Shut G ((by, Order) ∷ before)) others
    pub front : List (ℕ × ActorEvent)
    pub behind : before ≡ front ++ place
    pub alone : operators arms (since G front place) ≡ []
    pub unordered : (duty body before).ordered ≡ false
    pub same : (duty body before).left ≡ (duty body h).left
    pub ordered : (duty body h).ordered ≡ true

  -- or it is not
  pub record Free (h : List (ℕ × ActorEvent)) (mid place : List (ℕ × ActorEvent)) : Type 0 where
    pub unordered : (duty body h).ordered ≡ false
    pub alone : operators arms (since G mid place) ≡ []
    pub shut : Each (Shut G h) (orders body h)

  pub record Stand (h : List (ℕ × ActorEvent)) : Type 0 where
    pub done : List (ℕ × Act)
    pub whole : done ++ (duty body h).left ≡ operators_from 0 body
    pub mid : List (ℕ × ActorEvent)
    pub last' : List (ℕ × ActorEvent)
    pub split : h ≡ mid ++ last'
    pub places : PlacedTo done [] (lines G last')
    pub bare : NoBarrier mid
    pub told_bars : barriers_printed h ≡ bars done
    pub ended : (front : List (ℕ × Act)) → done ≡ front ++ (ending, act.Feed) ∷ [] → AllBeyond G last'
    pub now : Free h mid last' ⊎ Under h last'

  -- what the laws of sessions and of feeds give at a barrier and at a feed
  module _ (H : List (ℕ × ActorEvent))
      (at_bar : (h w : List (ℕ × ActorEvent)) (i k : ℕ) (done rest : List (ℕ × Act)) → w ++ (i, Barrier) ∷ h ≡ H → Run G body arms ((i, Barrier) ∷ h) → done ++ (k, act.Barrier) ∷ rest ≡ operators_from 0 body → barriers_printed h ≡ bars done → (name : List ℕ) → AreOf basis.language name (take k body) (told name (lines G h)))
      (at_fed : (h w : List (ℕ × ActorEvent)) (i d g : ℕ) → w ++ (i, Fed d g) ∷ h ≡ H → Run G body arms ((i, Fed d g) ∷ h) → IsFed basis view (lines G h) d)
      (at_again : (h w : List (ℕ × ActorEvent)) (i d : ℕ) → w ++ (i, FedAgain d) ∷ h ≡ H → Run G body arms ((i, FedAgain d) ∷ h) → IsFed basis view (lines G h) d)
      (last_fed : (h w : List (ℕ × ActorEvent)) (i d g : ℕ) (rest : List (ℕ × Act)) → w ++ (i, Fed d g) ∷ h ≡ H → Run G body arms ((i, Fed d g) ∷ h) → (duty body h).left ≡ (ending, act.Feed) ∷ rest → IsFedAtLast basis view (lines G h) d × AllBeyond G ((i, Fed d g) ∷ h))
      (last_again : (h w : List (ℕ × ActorEvent)) (i d : ℕ) (rest : List (ℕ × Act)) → w ++ (i, FedAgain d) ∷ h ≡ H → Run G body arms ((i, FedAgain d) ∷ h) → (duty body h).left ≡ (ending, act.Feed) ∷ rest → IsFedAtLast basis view (lines G h) d × AllBeyond G ((i, FedAgain d) ∷ h)) where
    -- an event that changes nothing of the operator's
    same_bars : (x : ℕ × ActorEvent) (h : List (ℕ × ActorEvent)) → is_calm x.1 ≡ true → barriers_printed (x ∷ h) ≡ barriers_printed h
    same_bars (i, Barrier) h q = absurd (cc)
    same_bars (i, _) h q = refl

    stand_calm : (x : ℕ × ActorEvent) (h : List (ℕ × ActorEvent)) → is_calm x.1 ≡ true → Run G body arms (x ∷ h) → Stand h → Stand (x ∷ h)
    stand_calm x h calm run s = record {
      done = s.done;
      whole = ap (λ (z : Duty). s.done ++ z.left) same ∙ s.whole;
      mid = x ∷ s.mid;
      last' = s.last';
      split = ap (λ z. x ∷ z) s.split;
      places = s.places;
      bare = each_add ((calm_bare (x ∷ []) (each_add calm each_none)).at x here) s.bare;
      told_bars = same_bars x h calm ∙ s.told_bars;
      ended = s.ended;
      now = elim s.now [
        | inl f ↦ inl (free f)
        | inr u ↦ inr (record {
          line = u.line;
          act = u.act;
          rest = u.rest;
          next = ap (λ (z : Duty). z.left) same ∙ u.next;
          of_node = u.of_node;
          later = x ∷ u.later;
          by = u.by;
          before = u.before;
          split = ap (λ z. x ∷ z) u.split;
          calm = each_add calm u.calm;
          order = u.order;
          others = u.others;
          orders' = u.orders';
          is_act = u.is_act;
          shut = u.shut;
          front = u.front;
          behind = u.behind;
          alone = u.alone;
          unordered = u.unordered;
          same = u.same ∙ sym (ap (λ (z : Duty). z.left) same);
          ordered = ap (λ (z : Duty). z.ordered) same ∙ u.ordered;
        })
      ];
    }
      where
        same : duty body (x ∷ h) ≡ duty body h
        same = heed_calm (duty body h) x.1 calm

        free : Free h s.mid s.last' → Free (x ∷ h) (x ∷ s.mid) s.last'
        free f =
            let q = quiet G body arms (x ∷ []) h run (each_add calm each_none) f.shut in
            record {
              unordered = ap (λ (z : Duty). z.ordered) same ∙ f.unordered;
              alone = subst (λ z. operators arms z ≡ []) (sym (since_append G (x ∷ []) s.mid s.last')) (ops_append arms (since G s.mid s.last') (since G (x ∷ []) (s.mid ++ s.last')) ∙ (ap (λ z. z ++ operators arms (since G (x ∷ []) (s.mid ++ s.last'))) f.alone ∙ subst (λ z. operators arms (since G (x ∷ []) z) ≡ []) s.split q.0));
              shut = q.1;
            }

    -- a stop or a start is ordered
    stand_order : (i : ℕ) (h : List (ℕ × ActorEvent)) → Run G body arms ((i, Order) ∷ h) → Stand h → Stand ((i, Order) ∷ h)
    stand_order i h run s = record {
      done = s.done;
      whole = s.whole;
      mid = (i, Order) ∷ s.mid;
      last' = s.last';
      split = ap (λ z. (i, Order) ∷ z) s.split;
      places = s.places;
      bare = each_add refl s.bare;
      told_bars = s.told_bars;
      ended = s.ended;
      now = elim s.now [ inl f ↦ inr (under f) | inr u ↦ absurd (let a = u.ordered in let b = may.unordered in cc) ];
    }
      where
        may : IsOrderDue body h
        may = run.all.0.heeds

        under : Free h s.mid s.last' → Under ((i, Order) ∷ h) s.last'
        under f = record {
          line = may.line;
          act = may.act;
          rest = may.rest;
          next = may.next;
          of_node = may.of_node;
          later = [];
          by = i;
          before = h;
          split = refl;
          calm = each_none;
          order = record { line = may.line; act = may.act; ups = (count_of (node_in may.act) h).ups; falls = (count_of (node_in may.act) h).falls };
          others = orders body h;
          orders' = ap (λ z. new_orders h Order z ++ orders body h) may.next;
          is_act = refl;
          shut = all_later G body (i, Order) h f.shut;
          front = s.mid;
          behind = s.split;
          alone = f.alone;
          unordered = may.unordered;
          same = refl;
          ordered = refl;
        }

    -- it is heeded at a place: behind it the order is shut
    heeded_shut : (i : ℕ) (h0 v : List (ℕ × ActorEvent)) (o : Ordered) → In o (orders body ((i, Order) ∷ h0)) → Calm v → AllHeed G body (v ++ (i, Order) ∷ h0) → (a : Act) → IsOfNode a → o.act ≡ a → IsHeededAt G body (v ++ (i, Order) ∷ h0) a → Shut G (v ++ (i, Order) ∷ h0) o
    heeded_shut i h0 v o mem calm all (act.Stop node) kind e k = subst (λ z. ShutBy z o.ups o.falls (count_of (node_in z) (v ++ (i, Order) ∷ h0)) (is_up (node_in z) (lines G (v ++ (i, Order) ∷ h0)))) (sym e) (λ q. absurd (let u = count_seen G (v ++ (i, Order) ∷ h0) node q in let w = sym k ∙ u in cc))
    heeded_shut i h0 v o mem calm all (act.Start node) kind e (inl k) = subst (λ z. ShutBy z o.ups o.falls (count_of (node_in z) (v ++ (i, Order) ∷ h0)) (is_up (node_in z) (lines G (v ++ (i, Order) ∷ h0)))) (sym e) (λ q. absurd (let w = sym k ∙ q in cc))
    heeded_shut i h0 [] o mem calm all (act.Start node) kind e (inr k) = absurd (let w : Order ≡ Node Down = ap (λ (z : ℕ × ActorEvent). z.1) (head k.fell) in cc)
      where
        head : {x y : ℕ × ActorEvent} {xs ys : List (ℕ × ActorEvent)} → x ∷ xs ≡ y ∷ ys → x ≡ y
        head e = cc
    heeded_shut i h0 (x ∷ v) o mem calm all (act.Start node) kind e (inr k) = subst (λ z. ShutBy z o.ups o.falls (count_of (node_in z) (x ∷ (v ++ (i, Order) ∷ h0))) (is_up (node_in z) (lines G (x ∷ (v ++ (i, Order) ∷ h0))))) (sym e) (λ q. more)
      where
        head : {x y : ℕ × ActorEvent} {xs ys : List (ℕ × ActorEvent)} → x ∷ xs ≡ y ∷ ys → x ≡ y
        head e = cc

        low : o.falls ≤ (count_of node (v ++ (i, Order) ∷ h0)).falls
        low = subst (λ z. o.falls ≤ (count_of (node_in z) (v ++ (i, Order) ∷ h0)).falls) e ((orders_ok body (v ++ (i, Order) ∷ h0)).at o (subst (λ z. In o z) (sym (orders_since body v ((i, Order) ∷ h0) (calm_tail calm))) mem)).falls

        fell : (y : ℕ × ActorEvent) → y ≡ (node, Node Down) → o.falls < (count_of node (y ∷ (v ++ (i, Order) ∷ h0))).falls
        fell y q = subst (λ z. o.falls < (count_of node (z ∷ (v ++ (i, Order) ∷ h0))).falls) (sym q) (subst (λ b. o.falls < (cond b (turn_counted (count_of node (v ++ (i, Order) ∷ h0)) Fall) (count_of node (v ++ (i, Order) ∷ h0))).falls) (sym ((Decides-eqb node node).1 refl)) (let l = low in omega arith))

        more : o.falls < (count_of node (x ∷ (v ++ (i, Order) ∷ h0))).falls
        more = fell x (head k.fell)
    heeded_shut i h0 v o mem calm all (act.Say session text) kind e k = absurd kind
    heeded_shut i h0 v o mem calm all (act.Arm session moment) kind e k = absurd kind
    heeded_shut i h0 v o mem calm all act.Barrier kind e k = absurd kind
    heeded_shut i h0 v o mem calm all act.Feed kind e k = absurd kind

    heed_rest : (a b : List (ℕ × ActorEvent)) → AllHeed G body (a ++ b) → AllHeed G body b
    heed_rest [] b k = k
    heed_rest (x ∷ a) b k = heed_rest a b k.1

    run_rest : (a b : List (ℕ × ActorEvent)) → Run G body arms (a ++ b) → Run G body arms b
    run_rest [] b k = k
    run_rest (x ∷ a) b k = run_rest a b (run_tail k)

    -- what the operator told since its last place, up to a place behind an order
    mine_ops : (v front last' before : List (ℕ × ActorEvent)) (by : ℕ) → before ≡ front ++ last' → operators arms (since G front last') ≡ [] → operators arms (since G (v ++ (by, Order) ∷ front) last') ≡ operators arms (since G v ((by, Order) ∷ before))
    mine_ops v front last' before by behind alone =
        ap (λ z. operators arms z) (since_append G v ((by, Order) ∷ front) last')
        ∙ (ops_append arms (since G front last' ++ []) (since G v ((by, Order) ∷ (front ++ last')))
        ∙ (ap (λ z. z ++ operators arms (since G v ((by, Order) ∷ (front ++ last')))) (ap (λ z. operators arms z) (append_nil (since G front last')) ∙ alone)
        ∙ ap (λ z. operators arms (since G v ((by, Order) ∷ z))) (sym behind)))

    mine_lines : (v front last' before : List (ℕ × ActorEvent)) (by : ℕ) → before ≡ front ++ last' → lines G (v ++ (by, Order) ∷ before) ≡ lines G last' ++ since G (v ++ (by, Order) ∷ front) last'
    mine_lines v front last' before by behind = ap (λ z. lines G z) (ap (λ z. v ++ (by, Order) ∷ z) behind ∙ sym (append_assoc v ((by, Order) ∷ front) last')) ∙ lines_since G (v ++ (by, Order) ∷ front) last'

    start_there : (v front last' before : List (ℕ × ActorEvent)) (by node : ℕ) → before ≡ front ++ last' → IsHeededAt G body (v ++ (by, Order) ∷ before) (act.Start node)
        → (is_up node (lines G last' ++ since G (v ++ (by, Order) ∷ front) last') ≡ true) ⊎ ((ls : List Line) × (count : ℕ) × (since G (v ++ (by, Order) ∷ front) last' ≡ ls ++ line.Down count node true ∷ []))
    start_there v front last' before by node behind (inl k) = inl (ap (λ z. is_up node z) (sym (mine_lines v front last' before by behind)) ∙ k)
    start_there [] front last' before by node behind (inr k) = absurd (let w : Order ≡ Node Down = ap (λ (z : ℕ × ActorEvent). z.1) (head k.fell) in cc)
      where
        head : {x y : ℕ × ActorEvent} {xs ys : List (ℕ × ActorEvent)} → x ∷ xs ≡ y ∷ ys → x ≡ y
        head e = cc
    start_there (x ∷ v) front last' before by node behind (inr k) = inr (fell x (head k.fell))
      where
        head : {x y : ℕ × ActorEvent} {xs ys : List (ℕ × ActorEvent)} → x ∷ xs ≡ y ∷ ys → x ≡ y
        head e = cc

        fell : (y : ℕ × ActorEvent) → y ≡ (node, Node Down) → (ls : List Line) × (count : ℕ) × (since G ((y ∷ v) ++ (by, Order) ∷ front) last' ≡ ls ++ line.Down count node true ∷ [])
        fell y q = subst (λ z. (ls : List Line) × (count : ℕ) × (since G ((z ∷ v) ++ (by, Order) ∷ front) last' ≡ ls ++ line.Down count node true ∷ [])) (sym q) (since G (v ++ (by, Order) ∷ front) last', downs (lines G ((v ++ (by, Order) ∷ front) ++ last')) + 1, refl)

    of_node_bars : (done : List (ℕ × Act)) (k : ℕ) (a : Act) → IsOfNode a → bars (done ++ (k, a) ∷ []) ≡ bars done
    of_node_bars done k a kind = bars_more done (k, a) ∙ (ap (λ z. bars done + (if z then 1 else 0)) (none a kind) ∙ plus (bars done))
      where
        plus : (m : ℕ) → m + 0 ≡ m
        plus m = omega arith

        none : (a : Act) → IsOfNode a → is_barrier a ≡ false
        none (act.Stop node) k = refl
        none (act.Start node) k = refl
        none (act.Say session text) k = absurd k
        none (act.Arm session moment) k = absurd k
        none act.Barrier k = absurd k
        none act.Feed k = absurd k

    more_whole : (done left : List (ℕ × Act)) (k : ℕ) (a : Act) (rest : List (ℕ × Act)) → left ≡ (k, a) ∷ rest → done ++ left ≡ operators_from 0 body → (done ++ (k, a) ∷ []) ++ rest ≡ operators_from 0 body
    more_whole done left k a rest next whole = append_assoc done ((k, a) ∷ []) rest ∙ (ap (λ z. done ++ z) (sym next) ∙ whole)

    -- a stop or a start is obeyed
    stand_obeyed : (i : ℕ) (h : List (ℕ × ActorEvent)) → Run G body arms ((i, Obeyed) ∷ h) → Stand h → Stand ((i, Obeyed) ∷ h)
    stand_obeyed i h run s = elim s.now [ inl f ↦ absurd (let a = f.unordered in let b = may.ordered in cc) | inr u ↦ go u (two_ends u.later ((u.by, Order) ∷ u.before) may.later may.before (sym u.split ∙ may.split)) ]
      where
        may : IsObeyed G body h
        may = run.all.0.heeds

        none : (u : Under h s.last') → (x : ℕ × ActorEvent) (w : List (ℕ × ActorEvent)) → (u.by, Order) ∷ u.before ≡ x ∷ (w ++ may.before) → ⊥
        none u x w e =
            let t : u.before ≡ w ++ may.before = cc in
            let all = heed_rest (u.later ++ (u.by, Order) ∷ []) u.before (subst (λ z. AllHeed G body z) (u.split ∙ sym (append_assoc u.later ((u.by, Order) ∷ []) u.before)) run.all.1) in
            let lefts : (duty body (w ++ may.before)).left ≡ (duty body may.before).left = ap (λ z. (duty body z).left) (sym t) ∙ (u.same ∙ sym may.same) in
            elim (stays_ordered G body w may.before (subst (λ z. AllHeed G body z) t all) may.since) [
              | inl k ↦ (let a : (duty body (w ++ may.before)).ordered ≡ true = k.0 in let b : (duty body (w ++ may.before)).ordered ≡ false = ap (λ z. (duty body z).ordered) (sym t) ∙ u.unordered in absurd (cc))
              | inr l ↦ (let q : length (duty body (w ++ may.before)).left ≡ length (duty body may.before).left = ap (λ z. length z) lefts in absurd (omega arith))
            ]

        go : (u : Under h s.last') → ((v : List (ℕ × ActorEvent)) × (may.before ≡ v ++ (u.by, Order) ∷ u.before) × (u.later ≡ may.later ++ v)) ⊎ ((x : ℕ × ActorEvent) × (w : List (ℕ × ActorEvent)) × ((u.by, Order) ∷ u.before ≡ x ∷ (w ++ may.before))) → Stand ((i, Obeyed) ∷ h)
        go u (inr k) = absurd (none u k.0 k.1 k.2)
        go u (inl k) = record {
          done = s.done ++ (may.line, may.act) ∷ [];
          whole = ap (λ z. (s.done ++ (may.line, may.act) ∷ []) ++ next_left z) may.next ∙ more_whole s.done (duty body h).left may.line may.act may.rest may.next s.whole;
          mid = (i, Obeyed) ∷ may.later;
          last' = may.before;
          split = ap (λ z. (i, Obeyed) ∷ z) may.split;
          places = subst (λ z. PlacedTo (s.done ++ (may.line, may.act) ∷ []) [] z) (sym lined) (placed_more s.done (may.line, may.act) [] (lines G s.last') mine s.places placed);
          bare = each_add refl (calm_bare may.later calm_later);
          told_bars = s.told_bars ∙ sym (of_node_bars s.done may.line may.act may.of_node);
          ended = λ front q. not_of_node may.act act.Feed may.of_node (ap (λ (z : ℕ × Act). z.1) (last_same s.done front (may.line, may.act) (ending, act.Feed) q)) (λ z. z);
          now = inl (record {
            unordered = refl;
            alone = subst (λ z. operators arms z ≡ []) (sym (append_nil (since G may.later may.before))) (subst (λ z. operators arms (since G may.later z) ≡ []) (sym k.1) silent.0);
            shut = all_later G body (i, Obeyed) h (subst (λ z. Each (Shut G z) (orders body z)) (sym here_h) silent.1);
          });
        }
          where
            u0 : List (ℕ × ActorEvent)
            u0 = (u.by, Order) ∷ u.before

            here_h : h ≡ may.later ++ (k.0 ++ (u.by, Order) ∷ u.before)
            here_h = may.split ∙ ap (λ z. may.later ++ z) k.1

            calm_all : Calm (may.later ++ k.0)
            calm_all = subst (λ z. Calm z) k.2 u.calm

            calm_later : Calm may.later
            calm_later = calm_left may.later k.0 calm_all

            calm_v : Calm k.0
            calm_v = calm_right may.later k.0 calm_all

            run_h : Run G body arms (may.later ++ (k.0 ++ (u.by, Order) ∷ u.before))
            run_h = subst (λ z. Run G body arms z) here_h (run_tail run)

            run_v : Run G body arms (k.0 ++ (u.by, Order) ∷ u.before)
            run_v = run_rest may.later (k.0 ++ (u.by, Order) ∷ u.before) run_h

            serve : Serves G body arms u.order u.others k.0 ((u.by, Order) ∷ u.before)
            serve = serves G body arms u.order u.others k.0 ((u.by, Order) ∷ u.before) run_v calm_v u.orders' u.shut

            same_act : u.act ≡ may.act
            same_act = ap (λ (z : ℕ × Act). z.1) (first (sym u.next ∙ may.next))
              where
                first : {x y : ℕ × Act} {xs ys : List (ℕ × Act)} → x ∷ xs ≡ y ∷ ys → x ≡ y
                first e = cc

            is_act : u.order.act ≡ may.act
            is_act = u.is_act ∙ same_act

            heeded : IsHeededAt G body (k.0 ++ (u.by, Order) ∷ u.before) may.act
            heeded = subst (λ z. IsHeededAt G body z may.act) k.1 may.heeded

            shut_now : Shut G (k.0 ++ (u.by, Order) ∷ u.before) u.order
            shut_now = heeded_shut u.by u.before k.0 u.order (subst (λ z. In u.order z) (sym u.orders') here) calm_v run_v.all may.act may.of_node is_act heeded

            all_shut : Each (Shut G (k.0 ++ (u.by, Order) ∷ u.before)) (orders body (k.0 ++ (u.by, Order) ∷ u.before))
            all_shut = subst (λ z. Each (Shut G (k.0 ++ (u.by, Order) ∷ u.before)) z) (sym serve.orders') (each_add shut_now serve.others)

            silent : (operators arms (since G may.later (k.0 ++ (u.by, Order) ∷ u.before)) ≡ []) × Each (Shut G (may.later ++ (k.0 ++ (u.by, Order) ∷ u.before))) (orders body (may.later ++ (k.0 ++ (u.by, Order) ∷ u.before)))
            silent = quiet G body arms may.later (k.0 ++ (u.by, Order) ∷ u.before) run_h calm_later all_shut

            mine : List Line
            mine = since G (k.0 ++ (u.by, Order) ∷ u.front) s.last'

            ops : operators arms mine ≡ operators arms (since G k.0 ((u.by, Order) ∷ u.before))
            ops = mine_ops k.0 u.front s.last' u.before u.by u.behind u.alone

            lined : lines G may.before ≡ lines G s.last' ++ mine
            lined = ap (λ z. lines G z) k.1 ∙ mine_lines k.0 u.front s.last' u.before u.by u.behind

            so : (operators arms mine ≡ []) ⊎ IsLineOf may.act (operators arms mine)
            so = elim serve.so [ inl z ↦ inl (ops ∙ z) | inr z ↦ inr (subst (λ y. IsLineOf y (operators arms mine)) is_act (subst (λ y. IsLineOf u.order.act y) (sym ops) z.0)) ]

            by_act : (a : Act) → IsOfNode a → (operators arms mine ≡ []) ⊎ IsLineOf a (operators arms mine) → IsHeededAt G body (k.0 ++ (u.by, Order) ∷ u.before) a → IsHeeded basis view arms (take may.line body) (lines G s.last') a mine
            by_act (act.Stop node) kind t k' = record { told = t; is_down = ap (λ z. is_up node z) (sym (mine_lines k.0 u.front s.last' u.before u.by u.behind)) ∙ k' }
            by_act (act.Start node) kind t k' = record { told = t; there = start_there k.0 u.front s.last' u.before u.by node u.behind k' }
            by_act (act.Say session text) kind t k' = absurd kind
            by_act (act.Arm session moment) kind t k' = absurd kind
            by_act act.Barrier kind t k' = absurd kind
            by_act act.Feed kind t k' = absurd kind

            placed : IsPlaced may.line may.act (lines G s.last') mine
            placed = (by_act may.act may.of_node so heeded, λ q f. not_of_node may.act act.Feed may.of_node f (λ z. z))

    -- what stands behind the last place, where nothing is ordered
    here_lines : (h : List (ℕ × ActorEvent)) (s : Stand h) → lines G h ≡ lines G s.last' ++ since G s.mid s.last'
    here_lines h s = ap (λ z. lines G z) s.split ∙ lines_since G s.mid s.last'

    not_under : {A : Type 0} (h : List (ℕ × ActorEvent)) (last' : List (ℕ × ActorEvent)) (k : ℕ) (a : Act) (rest : List (ℕ × Act)) → (duty body h).left ≡ (k, a) ∷ rest → (IsOfNode a → ⊥) → Under h last' → A
    not_under h last' k a rest next not u = absurd (not (subst (λ z. IsOfNode z) (ap (λ (z : ℕ × Act). z.1) (first (sym u.next ∙ next))) u.of_node))
      where
        first : {x y : ℕ × Act} {xs ys : List (ℕ × Act)} → x ∷ xs ≡ y ∷ ys → x ≡ y
        first e = cc

    free_of : (h : List (ℕ × ActorEvent)) (s : Stand h) (k : ℕ) (a : Act) (rest : List (ℕ × Act)) → (duty body h).left ≡ (k, a) ∷ rest → (IsOfNode a → ⊥) → Free h s.mid s.last'
    free_of h s k a rest next not = elim s.now [ inl f ↦ f | inr u ↦ not_under h s.last' k a rest next not u ]

    -- a barrier
    stand_bar : (i : ℕ) (h w : List (ℕ × ActorEvent)) → w ++ (i, Barrier) ∷ h ≡ H → Run G body arms ((i, Barrier) ∷ h) → Stand h → Stand ((i, Barrier) ∷ h)
    stand_bar i h w e run s = record {
      done = s.done ++ (k, act.Barrier) ∷ [];
      whole = ap (λ z. (s.done ++ (k, act.Barrier) ∷ []) ++ next_left z) next ∙ more_whole s.done (duty body h).left k act.Barrier rest next s.whole;
      mid = [];
      last' = (i, Barrier) ∷ h;
      split = refl;
      places = subst (λ z. PlacedTo (s.done ++ (k, act.Barrier) ∷ []) [] z) (sym (ap (λ z. z ++ line.Barrier ∷ []) (here_lines h s) ∙ append_assoc (lines G s.last') (since G s.mid s.last') (line.Barrier ∷ []))) (placed_more s.done (k, act.Barrier) [] (lines G s.last') (since G s.mid s.last' ++ line.Barrier ∷ []) s.places placed);
      bare = each_none;
      told_bars = ap (λ z. z + 1) s.told_bars ∙ sym (bars_more s.done (k, act.Barrier));
      ended = λ front q. absurd (let z : act.Barrier ≡ act.Feed = ap (λ (z : ℕ × Act). z.1) (last_same s.done front (k, act.Barrier) (ending, act.Feed) q) in cc);
      now = inl (record { unordered = refl; alone = refl; shut = all_later G body (i, Barrier) h free.shut });
    }
      where
        k : ℕ
        k = run.all.0.heeds.0

        rest : List (ℕ × Act)
        rest = run.all.0.heeds.1

        next : (duty body h).left ≡ (k, act.Barrier) ∷ rest
        next = run.all.0.heeds.2

        free : Free h s.mid s.last'
        free = free_of h s k act.Barrier rest next (λ z. z)

        placed : IsPlaced k act.Barrier (lines G s.last') (since G s.mid s.last' ++ line.Barrier ∷ [])
        placed = (
          record {
            front = since G s.mid s.last';
            says = refl;
            alone = free.alone;
            all_done = λ name. subst (λ z. AreOf basis.language name (take k body) (told name z)) (here_lines h s) (at_bar h w i k s.done rest e run (ap (λ z. s.done ++ z) (sym next) ∙ s.whole) s.told_bars name);
          },
          λ q f. absurd (cc),
        )

    -- a feed
    stand_feed : (x : ℕ × ActorEvent) (h : List (ℕ × ActorEvent)) (d k : ℕ) (rest : List (ℕ × Act)) → (duty body h).left ≡ (k, act.Feed) ∷ rest → lines G (x ∷ h) ≡ lines G h ++ line.Fed d ∷ [] → duty body (x ∷ h) ≡ record { left = rest; ordered = false } → orders body (x ∷ h) ≡ orders body h → barriers_printed (x ∷ h) ≡ barriers_printed h
        → IsFed basis view (lines G h) d → (k ≡ ending → IsFedAtLast basis view (lines G h) d × AllBeyond G (x ∷ h)) → Stand h → Stand (x ∷ h)
    stand_feed x h d k rest next printed passed same_orders same_count right final s = record {
      done = s.done ++ (k, act.Feed) ∷ [];
      whole = ap (λ (z : Duty). (s.done ++ (k, act.Feed) ∷ []) ++ z.left) passed ∙ more_whole s.done (duty body h).left k act.Feed rest next s.whole;
      mid = [];
      last' = x ∷ h;
      split = refl;
      places = subst (λ z. PlacedTo (s.done ++ (k, act.Feed) ∷ []) [] z) (sym (printed ∙ (ap (λ z. z ++ line.Fed d ∷ []) (here_lines h s) ∙ append_assoc (lines G s.last') (since G s.mid s.last') (line.Fed d ∷ [])))) (placed_more s.done (k, act.Feed) [] (lines G s.last') (since G s.mid s.last' ++ line.Fed d ∷ []) s.places placed);
      bare = each_none;
      told_bars = same_count ∙ (s.told_bars ∙ sym (bars_more s.done (k, act.Feed) ∙ plus (bars s.done)));
      ended = λ front q. (final (ap (λ (z : ℕ × Act). z.0) (last_same s.done front (k, act.Feed) (ending, act.Feed) q))).1;
      now = inl (record { unordered = ap (λ (z : Duty). z.ordered) passed; alone = refl; shut = subst (λ z. Each (Shut G (x ∷ h)) z) (sym same_orders) (all_later G body x h free.shut) });
    }
      where
        plus : (m : ℕ) → m + 0 ≡ m
        plus m = omega arith

        free : Free h s.mid s.last'
        free = free_of h s k act.Feed rest next (λ z. z)

        placed : IsPlaced k act.Feed (lines G s.last') (since G s.mid s.last' ++ line.Fed d ∷ [])
        placed = (
          record {
            front = since G s.mid s.last';
            position = d;
            says = refl;
            alone = free.alone;
            right = subst (λ z. IsFed basis view z d) (here_lines h s) right;
          },
          λ q f. record {
            front = since G s.mid s.last';
            position = d;
            says = refl;
            alone = free.alone;
            right = subst (λ z. IsFedAtLast basis view z d) (here_lines h s) (final q).0;
          },
        )

    step : (i : ℕ) (e : ActorEvent) (h w : List (ℕ × ActorEvent)) → w ++ (i, e) ∷ h ≡ H → Run G body arms ((i, e) ∷ h) → Stand h → Stand ((i, e) ∷ h)
    step i Order h w q run s = stand_order i h run s
    step i Obeyed h w q run s = stand_obeyed i h run s
    step i Barrier h w q run s = stand_bar i h w q run s
    step i (Fed d g) h w q run s =
        let m = run.all.0.heeds in
        stand_feed (i, Fed d g) h d m.0 m.1 m.2 refl (fed_left (duty body h) m.0 m.1 m.2) refl refl (at_fed h w i d g q run) (λ z. last_fed h w i d g m.1 q run (m.2 ∙ ap (λ y. (y, act.Feed) ∷ m.1) z)) s
    step i (FedAgain d) h w q run s =
        let m = run.all.0.heeds in
        stand_feed (i, FedAgain d) h d m.0 m.1 m.2 refl (fed_left (duty body h) m.0 m.1 m.2) refl refl (at_again h w i d q run) (λ z. last_again h w i d m.1 q run (m.2 ∙ ap (λ y. (y, act.Feed) ∷ m.1) z)) s
    step i e h w q run s = stand_calm (i, e) h refl run s

    pub stands : (h w : List (ℕ × ActorEvent)) → w ++ h ≡ H → Run G body arms h → Stand h
    stands [] w q run = record {
      done = [];
      whole = refl;
      mid = [];
      last' = [];
      split = refl;
      places = refl;
      bare = each_none;
      told_bars = refl;
      ended = λ front e. absurd (none front e);
      now = inl (record { unordered = refl; alone = refl; shut = each_none });
    }
      where
        none : (front : List (ℕ × Act)) → [] ≡ front ++ (ending, act.Feed) ∷ [] → ⊥
        none [] e = absurd (cc)
        none (x ∷ xs) e = absurd (cc)
    stands (x ∷ h) w q run = step x.0 x.1 h w q run (stands h (w ++ x ∷ []) (append_assoc w (x ∷ []) h ∙ q) (run_tail run))
