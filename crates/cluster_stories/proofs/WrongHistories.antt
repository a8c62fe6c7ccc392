-- Histories that are not legal.
use Rattle.std.proofs.Common.{◌≡◌, ℕ, ◌+◌, ◌≤◌, List, [], ◌∷◌, ◌++◌, length, arith, refl, ap, subst, length-append, sym}
use Rattle.std.specs.Prelude.{Bool}
use mathlib.Core.Logic.{◌⊎◌, inl, inr}
use Rattle.core_lists.specs.Fronts.{Front}
use Rattle.core_lists.proofs.Lists.{nothing}
use Rattle.core_lists.proofs.Fronts.{front_refl, front_length}
use Rattle.core_lists.specs.Lists.In.{here}
use Rattle.cluster_stories.specs.Failover.{fired, appended_on}
use Rattle.std.specs.Prelude.{true, false, Some, None}
use Rattle.core_lists.proofs.Lasts.{front_parts}
use Rattle.cluster_stories.proofs.Story.{its_txn}
use Rattle.cluster_consensus.specs.Events.NodeEvent.{Grow, Append, Probe}
use Rattle.cdb_values.specs.Rows.{Rows}
use Rattle.report_laws.specs.Work.{Transaction, WorkItem, Does}
use Rattle.report_text.specs.declared.reports.Line.{Line}
use Rattle.report_text.specs.declared.reports.Line.TheVariants as line
use Rattle.cdb_values.specs.declared.replies.Reply.{Reply}
use Rattle.cdb_values.specs.declared.replies.Reply.TheVariants as reply
use Rattle.cluster_events.specs.Operator.{Duty, fed_over, heed, duty, FellOrdered, IsHeededAt}
use Rattle.cluster_consensus.specs.Events.NodeEvent.{Down}
use Rattle.script_form.specs.declared.scripts.Act.{Act}
use Rattle.script_form.specs.declared.scripts.Act.TheVariants as act
use Rattle.report_laws.specs.Nodes.{is_up}
use Rattle.cluster_events.specs.Settings.{kept_rows_at, run_alone}
use Rattle.cluster_events.specs.Parts.{ActorEvent, lines}
use Rattle.cluster_events.specs.Parts.ActorEvent.{Node, Stop, Repeat, Ask, Say, Finish, Order, Obeyed, Fire, Barrier, Fed, FedAgain}
use Rattle.cluster_events.specs.Guards.{IsLegalHistory}
use Rattle.report_laws.specs.Places.{IsLost}
use Rattle.cluster_events.specs.ByScript.{AllHeed}
use Rattle.cluster_stories.specs.Story.{given, script, setup, its_id, commit, led, set_up, begun, sent}

-- an append that nobody asked for
pub unasked : IsLegalHistory given ((1, Node (Append commit)) ∷ set_up) → ⊥
unasked legal = nothing legal.0.0.1.asked.mem

-- a second setup
pub set_up_twice : IsLegalHistory given ((1, Node (Append setup)) ∷ set_up) → ⊥
set_up_twice legal = absurd (let e : setup ∷ [] ≡ [] = legal.0.0.1.asked in cc)

-- a begin that is answered before the leader knows what it holds as durable
abbrev early : List (ℕ × ActorEvent)
early = (1, Node (Probe 7)) ∷ (4, Ask 7) ∷ (2, Node (Grow (setup ∷ []))) ∷ (1, Node (Append setup)) ∷ led

pub too_early : IsLegalHistory given early → ⊥
too_early legal = let d : 1 ≤ 0 = legal.0.0.0.3 in omega arith

-- a reply that the rows don't give
differ : {xs : List Reply} → Front (reply.Begin 1 ∷ reply.Changed 2 ∷ []) xs → (b : ℕ) → xs ≡ reply.Begin b ∷ reply.Changed 1 ∷ [] → ⊥
differ p b q = absurd (let o = front_parts _ _ _ _ (subst (λ z. Front (reply.Begin 1 ∷ reply.Changed 2 ∷ []) z) q p) in let i = front_parts _ _ _ _ o.1 in let e : reply.Changed 2 ≡ reply.Changed 1 = i.0 in cc)

pub only : (rows : Rows) (t : Transaction) (others : List WorkItem) → Does its_txn ∷ [] ≡ Does t ∷ others → (run_alone given rows t).replies ≡ reply.Changed 1 ∷ []
only rows t others e = let q : t ≡ its_txn = cc in ap (λ u. (run_alone given rows u).replies) q

pub untrue : IsLegalHistory given ((4, Say (reply.Changed 2)) ∷ begun) → ⊥
untrue legal = differ legal.0.3.fits legal.0.1.begin (ap (λ z. reply.Begin legal.0.1.begin ∷ z) (only (kept_rows_at given legal.0.3.log legal.0.1.begin) legal.0.0 legal.0.2.others legal.0.2.is))

-- a commit that is appended twice
pub appended_twice : IsLegalHistory given ((1, Node (Append commit)) ∷ (1, Node (Append commit)) ∷ sent) → ⊥
appended_twice legal = legal.0.0.1.new its_id refl (setup ∷ []) commit (front_refl (setup ∷ commit ∷ [])) refl

-- a loss without a line that a node went down
no_down : (front back : List Line) (a b : Line) (d n : ℕ) (f : Bool) → a ∷ b ∷ [] ≡ front ++ line.Down d n f ∷ back → (a ≡ line.Down d n f) ⊎ (b ≡ line.Down d n f)
no_down [] back a b d n f e = inl (cc)
no_down (x ∷ []) back a b d n f e = inr (cc)
no_down (x ∷ y ∷ front) back a b d n f e = absurd (let l = ap (λ z. length z) e in let l' : 2 ≡ length (x ∷ y ∷ (front ++ line.Down d n f ∷ back)) = l in let m = length-append front (line.Down d n f ∷ back) in omega arith)

pub lost_for_nothing : IsLegalHistory given ((4, Finish (reply.Lost 1 1)) ∷ sent) → ⊥
lost_for_nothing legal = go (no_down w.front w.back _ _ 1 1 w.fault w.stands)
  where
    w : IsLost (lines given sent) (115 ∷ []) legal.0.0.0.number 1 1
    w = legal.0.0.4

    go : (line.Session (115 ∷ []) 1 (reply.Begin 1) ≡ line.Down 1 1 w.fault) ⊎ (line.Session (115 ∷ []) 1 (reply.Changed 1) ≡ line.Down 1 1 w.fault) → ⊥
    go (inl q) = absurd (cc)
    go (inr q) = absurd (cc)

-- a stop without a line of the script
pub unordered : AllHeed given script.body ((1, Stop) ∷ led) → ⊥
unordered all = elim all.0.heeds.1 [ inl o ↦ nothing o.mem | inr f ↦ nothing f.mem ]

-- an entry is repeated that is not there
pub not_there : IsLegalHistory given ((1, Repeat its_id 2) ∷ sent) → ⊥
not_there legal =
    let p = legal.0.2 in
    let l = front_length p.front in
    let n = length-append p.before (p.entry ∷ []) in
    let at : length p.before + 1 ≡ 2 = p.place in
    let l' : length (p.before ++ p.entry ∷ []) ≤ length (setup ∷ []) = l in
    omega arith

-- a feed repeats that nobody asked for
pub unfed : IsLegalHistory given ((0, FedAgain 0) ∷ sent) → ⊥
unfed legal = absurd (let e : None ≡ Some legal.0.2.ask = legal.0.2.asked in cc)

-- an arm fires twice
pub fired_twice : AllHeed given script.body ((4, Fire 0 1) ∷ fired) → ⊥
fired_twice all = all.0.heeds.once.at _ here refl refl

-- a line of the operator is obeyed before it is ordered
pub obeyed_unordered : AllHeed given script.body ((0, Obeyed) ∷ appended_on) → ⊥
obeyed_unordered all = absurd (let e : false ≡ true = all.0.heeds.ordered in cc)

-- a start is taken for heeded by a fault before its order
abbrev NoOrder : ActorEvent → Type 0
NoOrder Order = ⊥
NoOrder _ = Unit {0}

abbrev NoOrders : List (ℕ × ActorEvent) → Type 0
NoOrders [] = Unit {0}
NoOrders (x ∷ h) = NoOrder x.1 × NoOrders h

fed_unordered : (xs : List (ℕ × Act)) (d : Duty) → d.ordered ≡ false → (fed_over xs d).ordered ≡ false
fed_unordered [] d q = q
fed_unordered ((k, act.Feed) ∷ xs) d q = refl
fed_unordered ((k, act.Barrier) ∷ xs) d q = q
fed_unordered ((k, act.Stop node) ∷ xs) d q = q
fed_unordered ((k, act.Start node) ∷ xs) d q = q
fed_unordered ((k, act.Say session text) ∷ xs) d q = q
fed_unordered ((k, act.Arm session moment) ∷ xs) d q = q

heed_unordered : (d : Duty) (e : ActorEvent) → NoOrder e → d.ordered ≡ false → (heed d e).ordered ≡ false
heed_unordered d Order n q = absurd n
heed_unordered d Obeyed n q = refl
heed_unordered d Barrier n q = refl
heed_unordered d (Fed p g) n q = fed_unordered d.left d q
heed_unordered d (FedAgain p) n q = fed_unordered d.left d q
heed_unordered d _ n q = q

unordered_yet : (h : List (ℕ × ActorEvent)) → NoOrders h → (duty script.body h).ordered ≡ false
unordered_yet [] n = refl
unordered_yet (x ∷ h) n = heed_unordered (duty script.body h) x.1 n.0 (unordered_yet h n.1)

no_orders_before : (later before h : List (ℕ × ActorEvent)) → h ≡ later ++ before → NoOrders h → NoOrders before
no_orders_before [] before h e n = subst (λ z. NoOrders z) e n
no_orders_before (x ∷ later) before [] e n = absurd (cc)
no_orders_before (x ∷ later) before (y ∷ h) e n = no_orders_before later before h (cc) n.1

abbrev pub faulty : List (ℕ × ActorEvent)
faulty = (0, Order) ∷ (1, Node Down) ∷ led

before_it : (later before : List (ℕ × ActorEvent)) → faulty ≡ later ++ before → (duty script.body before).ordered ≡ true → before ≡ faulty
before_it [] before e o = sym e
before_it (x ∷ later) before e o = absurd (let n = no_orders_before later before ((1, Node Down) ∷ led) (cc) (tt, (tt, (tt, (tt, (tt, (tt, (tt, (tt, (tt, (tt, (tt, tt))))))))))) in let q = unordered_yet before n in cc)

not_heeded : (a : Act) → a ≡ act.Start 1 → IsHeededAt given script.body faulty a → ⊥
not_heeded a e k = go (subst (λ z. IsHeededAt given script.body faulty z) e k)
  where
    go : (is_up 1 (lines given faulty) ≡ true) ⊎ FellOrdered script.body faulty 1 → ⊥
    go (inl q) = absurd (let q' : false ≡ true = q in cc)
    go (inr f) = absurd (let q : (0, Order) ∷ (1, Node Down) ∷ led ≡ (1, Node Down) ∷ f.before = f.fell in cc)

heads : {x y : ℕ × Act} {xs ys : List (ℕ × Act)} → x ∷ xs ≡ y ∷ ys → x ≡ y
heads e = cc

pub fault_before_the_order : AllHeed given script.body ((0, Obeyed) ∷ faulty) → ⊥
fault_before_the_order all =
    let k = all.0.heeds in
    let at = before_it k.later k.before k.split k.since in
    let e : (2, act.Start 1) ∷ [] ≡ (k.line, k.act) ∷ k.rest = k.next in
    let a : k.act ≡ act.Start 1 = ap (λ (z : ℕ × Act). z.1) (sym (heads e)) in
    not_heeded k.act a (subst (λ z. IsHeededAt given script.body z k.act) at k.heeded)
