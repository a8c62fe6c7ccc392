-- What the invariant says of generations, without any event.
use Rattle.std.proofs.Common.{◌≡◌, ℕ, ◌<◌, ◌≤◌, List, length, arith, refl, ap, sym, subst, ◌∙◌}
use Rattle.std.specs.Prelude.{zero, suc, Bool, true, false}
use mathlib.Core.Logic.{◌⊎◌, inl, inr}
use Rattle.cluster_consensus.proofs.Invariant.{Held, GrantOk, VoteOk, Follows, Inv}
use Rattle.cluster_consensus.specs.Durable.{DurableIn}
use Rattle.cluster_consensus.specs.Enabled.{Below, IsGranted}
use Rattle.cluster_consensus.specs.Facts.{Claim, Vote, Grant, Admit, World}
use Rattle.core_lists.proofs.Fronts.{front_trans, front_either, front_same}
use Rattle.core_lists.proofs.Majorities.{meet, some_of}
use Rattle.core_lists.proofs.Numbers.{lt_or_eq, lt_or_le}
use Rattle.core_lists.specs.Fronts.{Front}
use Rattle.core_lists.specs.Lists.{In, Each, Has}

-- a generation has one leader
pub one_leader : {E : Type 0} {n : ℕ} {w : World E} → Inv n w → (m k : ℕ) (a b : Claim E) → In a (w.nodes m).leads → In b (w.nodes k).leads → a.gen ≡ b.gen → m ≡ k
one_leader {E} {n} {w} inv m k a b ha hb e =
    let r = meet ((inv.refs m).led.at a ha) ((inv.refs k).led.at b hb) in
    let x = r.1 in
    let y = r.2 in
    let same : x.it ≡ y.it = (inv.local r.0).grant_once.same x.it y.it x.mem y.mem (omega arith) in
    sym x.is.1 ∙ (ap (λ g. g.to) same ∙ y.is.1)

-- and one adopted log
pub one_log : {E : Type 0} {n : ℕ} {w : World E} → Inv n w → (m : ℕ) (a b : Claim E) → In a (w.nodes m).leads → In b (w.nodes m).leads → a.gen ≡ b.gen → a.log ≡ b.log
one_log {E} {n} {w} inv m a b ha hb e =
    let x = (inv.local m).leads.at a ha in
    let y = (inv.local m).leads.at b hb in
    let same : x.it ≡ y.it = (inv.local m).vote_once.same x.it y.it x.mem y.mem (omega arith) in
    sym x.is.1 ∙ (ap (λ v. v.log) same ∙ y.is.1)

-- a generation that was led is above every admitted acceptance
pub led_above : {E : Type 0} {n : ℕ} {w : World E} → Inv n w → (m : ℕ) (l : Claim E) (a : Admit) → In l (w.nodes m).leads → In a w.admits → a.accepted < l.gen
led_above {E} {n} {w} inv m l a hl ha =
    let r = meet ((inv.refs m).led.at l hl) (inv.fit.at a ha) in
    go r.0 r.1 r.2
  where
    go : (k : ℕ) → IsGranted w l.gen m k → Each (λ b. b.node ≡ k → a.accepted ≤ b.promised) w.admits → a.accepted < l.gen
    go k x fit =
        let ok = (inv.local k).grants.at x.it x.mem in
        let b = (inv.refs k).admitted ok.was in
        let c : a.accepted ≤ (w.nodes k).store_promised = fit.at (record { node = k; promised = (w.nodes k).store_promised; accepted = (w.nodes k).store_accepted }) b refl in
        let s : (w.nodes k).store_promised < x.it.gen = ok.store in
        let e : x.it.gen ≡ l.gen = x.is.0 in
        omega arith

-- and above what any node's store had
pub above_store : {E : Type 0} {n : ℕ} {w : World E} → Inv n w → (m k : ℕ) (l : Claim E) → In l (w.nodes m).leads → (w.nodes k).store_accepted < l.gen
above_store {E} {n} {w} inv m k l hl = go (w.nodes k).was_up refl
  where
    go : (b : Bool) → (w.nodes k).was_up ≡ b → (w.nodes k).store_accepted < l.gen
    go true e = led_above inv m l (record { node = k; promised = (w.nodes k).store_promised; accepted = (w.nodes k).store_accepted }) hl ((inv.refs k).admitted e)
    go false e =
        let z : (w.nodes k).store_accepted ≡ 0 = ap (λ o. o.store_accepted) ((inv.local k).fresh e) in
        let r = some_of ((inv.refs m).led.at l hl) in
        let ok = (inv.local r.0).grants.at r.1.it r.1.mem in
        let p : r.1.it.accepted < r.1.it.gen = ok.above in
        let q : r.1.it.gen ≡ l.gen = r.1.is.0 in
        omega arith

-- so in a generation at or above one that was led what is held was accepted by an event
pub real : {E : Type 0} {n : ℕ} {w : World E} → Inv n w → (m k : ℕ) (l : Claim E) (a : ℕ) (log : List E) → In l (w.nodes m).leads → l.gen ≤ a → Held (w.nodes k) a log → Has (λ c. (c.gen ≡ a) × (c.log ≡ log)) (w.nodes k).accepts
real inv m k l a log hl low (inl h) = h
real inv m k l a log hl low (inr h) = let s = above_store inv m k l hl in absurd (omega arith)

-- of two logs accepted in one generation one begins the other
pub comparable : {E : Type 0} {n : ℕ} {w : World E} → Inv n w → (j k : ℕ) (c d : Claim E) → In c (w.nodes j).accepts → In d (w.nodes k).accepts → c.gen ≡ d.gen → Front c.log d.log ⊎ Front d.log c.log
comparable {E} {n} {w} inv j k c d hc hd e = go ((inv.refs j).follows.at c hc) ((inv.refs k).follows.at d hd)
  where
    both : {x y : List E} → Front c.log x → Front d.log y → Front x y ⊎ Front y x → Front c.log d.log ⊎ Front d.log c.log
    both p q (inl h) = front_either (front_trans p h) q
    both p q (inr h) = front_either p (front_trans q h)

    go : Follows w c → Follows w d → Front c.log d.log ⊎ Front d.log c.log
    go f g =
        let x = f.whole in
        let y = g.whole in
        let same : f.by ≡ g.by = one_leader inv f.by g.by f.adopted.it g.adopted.it f.adopted.mem g.adopted.mem (f.adopted.is.0 ∙ (e ∙ sym g.adopted.is.0)) in
        let y' : In y.it (w.nodes f.by).accepts = subst (λ m. In y.it (w.nodes m).accepts) (sym same) y.mem in
        both x.is.1 y.is.1 ((inv.local f.by).chain.one x.it y.it x.mem y' (x.is.0 ∙ (e ∙ sym y.is.0)))

-- the later leader's adopted log begins with each log that a majority accepted in an earlier generation
abbrev pub Adopts : {E : Type 0} → World E → ℕ → List E → ℕ → Type 0
Adopts {E} w g d b = (m : ℕ) (l : Claim E) → In l (w.nodes m).leads → l.gen ≤ b → g < l.gen → Front d l.log

-- the log that the leader stood with, against that of one who granted it and had accepted d or more in g
pub stood : {E : Type 0} {n : ℕ} {w : World E} → Inv n w → (g : ℕ) (d : List E) (b m k : ℕ) (v : Vote E) (x : Grant E) (c : Claim E)
    → Adopts w g d b → In v (w.nodes m).votes → In x (w.nodes k).grants → In c (w.nodes k).accepts
    → v.gen ≤ suc b → g < v.gen → x.gen ≡ v.gen → c.gen ≡ g → Front d c.log
    → Below x.accepted (length x.log) v.accepted (length v.log) → Front d v.log
stood {E} {n} {w} inv g d b m k v x c ih hv hx hc top low xg cg pre below = go first.adopted below
  where
    gok : GrantOk (w.nodes k) x
    gok = (inv.local k).grants.at x hx

    vok : VoteOk (w.nodes m) v
    vok = (inv.local m).votes.at v hv

    first : Follows w c
    first = (inv.refs k).follows.at c hc

    -- accepted above g, so the log begins with what that generation's leader adopted
    above : (e : Claim E) → In e (w.nodes m).accepts → e.gen ≡ v.accepted → e.log ≡ v.log → g < v.accepted → Front d v.log
    above e he eg el gt =
        let f = (inv.refs m).follows.at e he in
        let q : f.adopted.it.gen ≡ e.gen = f.adopted.is.0 in
        let va : v.accepted < v.gen = vok.above in
        let p = ih f.by f.adopted.it f.adopted.mem (omega arith) (omega arith) in
        subst (λ t. Front d t) el (front_trans p f.adopted.is.1)

    -- accepted in g by both, and the leader's isn't shorter
    level : (e f : Claim E) → e.log ≡ v.log → f.log ≡ x.log → Front c.log x.log → length x.log ≤ length v.log → Front f.log e.log ⊎ Front e.log f.log → Front d v.log
    level e f el fl cx len (inl h) = front_trans pre (front_trans cx (subst (λ t. Front x.log t) el (subst (λ t. Front t e.log) fl h)))
    level e f el fl cx len (inr h) =
        let h' : Front v.log x.log = subst (λ t. Front v.log t) fl (subst (λ t. Front t f.log) el h) in
        front_trans pre (subst (λ t. Front c.log t) (sym (front_same h' len)) cx)

    split : (e : Has (λ t. (t.gen ≡ v.accepted) × (t.log ≡ v.log)) (w.nodes m).accepts) (f : Has (λ t. (t.gen ≡ x.accepted) × (t.log ≡ x.log)) (w.nodes k).accepts)
        → e.it.gen ≡ v.accepted → f.it.gen ≡ x.accepted → (x.accepted ≡ v.accepted) × (length x.log ≤ length v.log)
        → (c.gen ≤ x.accepted) × (c.gen ≡ x.accepted → Front c.log x.log) → (g < v.accepted) ⊎ (g ≡ v.accepted) → Front d v.log
    split e f eg fg eq cl (inl gt) = above e.it e.mem e.is.0 e.is.1 gt
    split e f eg fg eq cl (inr same) =
        let q : x.accepted ≡ v.accepted = eq.0 in
        level e.it f.it e.is.1 f.is.1 (cl.1 (omega arith)) eq.1 (comparable inv k m f.it e.it f.mem e.mem (omega arith))

    go : Has (λ l. (l.gen ≡ c.gen) × Front l.log c.log) (w.nodes first.by).leads → Below x.accepted (length x.log) v.accepted (length v.log) → Front d v.log
    go l (inl lt) =
        let lg : l.it.gen ≡ c.gen = l.is.0 in
        let cl = gok.closed.at c hc (omega arith) in
        let e = real inv first.by m l.it v.accepted v.log l.mem (omega arith) vok.held in
        above e.it e.mem e.is.0 e.is.1 (omega arith)
    go l (inr eq) =
        let lg : l.it.gen ≡ c.gen = l.is.0 in
        let cl = gok.closed.at c hc (omega arith) in
        let e = real inv first.by m l.it v.accepted v.log l.mem (omega arith) vok.held in
        let f = real inv first.by k l.it x.accepted x.log l.mem (omega arith) gok.held in
        let eg : e.it.gen ≡ v.accepted = e.is.0 in
        let fg : f.it.gen ≡ x.accepted = f.is.0 in
        split e f (eg) (fg) eq cl (lt_or_eq g v.accepted (omega arith))

pub adopts : {E : Type 0} {n : ℕ} {w : World E} → Inv n w → (g : ℕ) (d : List E) → DurableIn n w g d → (b : ℕ) → Adopts w g d b
adopts inv g d dur zero m l hl top low = absurd (omega arith)
adopts {E} {n} {w} inv g d dur (suc b) m l hl top low =
    let r = meet dur ((inv.refs m).led.at l hl) in
    let v = (inv.local m).leads.at l hl in
    go (adopts inv g d dur b) r.0 r.1 r.2 v
  where
    go : Adopts w g d b → (k : ℕ) → Has (λ c. (c.gen ≡ g) × Front d c.log) (w.nodes k).accepts → IsGranted w l.gen m k → Has (λ v. (v.gen ≡ l.gen) × (v.log ≡ l.log)) (w.nodes m).votes → Front d l.log
    go ih k c x v =
        let u = (inv.refs k).granted.at x.it x.mem in
        let u' : In u.it (w.nodes m).votes = subst (λ t. In u.it (w.nodes t).votes) x.is.1 u.mem in
        let xg : x.it.gen ≡ l.gen = x.is.0 in
        let ug : u.it.gen ≡ x.it.gen = u.is.0 in
        let vg : v.it.gen ≡ l.gen = v.is.0 in
        let same : u.it ≡ v.it = (inv.local m).vote_once.same u.it v.it u' v.mem (omega arith) in
        let p = stood inv g d b m k u.it x.it c.it ih u' x.mem c.mem (omega arith) (omega arith) (omega arith) c.is.0 c.is.1 u.is.1 in
        subst (λ t. Front d t) (ap (λ t. t.log) same ∙ v.is.1) p

-- a log accepted above g begins with every log durable in g
pub begins : {E : Type 0} {n : ℕ} {w : World E} → Inv n w → (g : ℕ) (d : List E) → DurableIn n w g d → (k : ℕ) (c : Claim E) → In c (w.nodes k).accepts → g < c.gen → Front d c.log
begins inv g d dur k c hc low =
    let f = (inv.refs k).follows.at c hc in
    let lg : f.adopted.it.gen ≡ c.gen = f.adopted.is.0 in
    front_trans (adopts inv g d dur c.gen f.by f.adopted.it f.adopted.mem (omega arith) (omega arith)) f.adopted.is.1

-- of two durable logs one begins the other
pub durable_either : {E : Type 0} {n : ℕ} {w : World E} → Inv n w → (g h : ℕ) (d e : List E) → DurableIn n w g d → DurableIn n w h e → Front d e ⊎ Front e d
durable_either {E} {n} {w} inv g h d e p q = go (some_of p) (some_of q)
  where
    both : {x y : List E} → Front d x → Front e y → Front x y ⊎ Front y x → Front d e ⊎ Front e d
    both a b (inl s) = front_either (front_trans a s) b
    both a b (inr s) = front_either a (front_trans b s)

    order : (j k : ℕ) (x y : Claim E) → In x (w.nodes j).accepts → In y (w.nodes k).accepts → x.gen ≡ g → y.gen ≡ h → Front d x.log → Front e y.log → (g < h) ⊎ (h ≤ g) → Front d e ⊎ Front e d
    order j k x y hx hy xg yh a b (inl lt) = front_either (begins inv g d p k y hy (omega arith)) b
    order j k x y hx hy xg yh a b (inr le) = late (lt_or_eq h g le)
      where
        late : (h < g) ⊎ (h ≡ g) → Front d e ⊎ Front e d
        late (inl lt) = front_either a (begins inv h e q j x hx (omega arith))
        late (inr eq) = both a b (comparable inv j k x y hx hy (omega arith))

    go : (j : ℕ) × Has (λ c. (c.gen ≡ g) × Front d c.log) (w.nodes j).accepts → (k : ℕ) × Has (λ c. (c.gen ≡ h) × Front e c.log) (w.nodes k).accepts → Front d e ⊎ Front e d
    go x y = order x.0 y.0 x.1.it y.1.it x.1.mem y.1.mem x.1.is.0 y.1.is.0 x.1.is.1 y.1.is.1 (lt_or_le g h)
