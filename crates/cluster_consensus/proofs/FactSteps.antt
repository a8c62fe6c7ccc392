-- What facts say of other nodes stays true while facts grow.
use Rattle.std.proofs.Common.{◌≡◌, ℕ, ◌+◌, ◌<◌, ◌≤◌, List, length, take, arith, ap, sym, subst, ◌∙◌}
use Rattle.std.specs.Prelude.{true}
use mathlib.Core.Logic.{◌⊎◌, inl, inr}
use Rattle.cluster_consensus.proofs.Generations.{one_leader, real, comparable, begins}
use Rattle.cluster_consensus.proofs.Invariant.{Follows, Known, Refs, Inv, Grows}
use Rattle.cluster_consensus.specs.Durable.{DurableIn}
use Rattle.cluster_consensus.specs.Enabled.{IsGranted, IsShipped, CanGrow}
use Rattle.cluster_consensus.specs.Facts.{Claim, Own, World}
use Rattle.core_lists.proofs.Fronts.{front_refl, front_trans, front_length, front_shorter, front_same, front_take, length_take, same_front}
use Rattle.core_lists.proofs.Majorities.{majority_weaker, some_of}
use Rattle.core_lists.proofs.Numbers.{lt_or_eq}
use Rattle.core_lists.specs.Fronts.{Front}
use Rattle.core_lists.specs.Lists.{In, Has}
use Rattle.core_lists.specs.Majorities.{Majority}

pub durable_grows : {E : Type 0} {n : ℕ} {w v : World E} {g : ℕ} {d : List E} → Grows w v → DurableIn n w g d → DurableIn n v g d
durable_grows g m = majority_weaker (λ k h. record { it = h.it; mem = g.accepts k h.it h.mem; is = h.is }) m

pub granted_grows : {E : Type 0} {n : ℕ} {w v : World E} {g i : ℕ} → Grows w v → Majority n (IsGranted w g i) → Majority n (IsGranted v g i)
granted_grows g m = majority_weaker (λ k h. record { it = h.it; mem = g.grants k h.it h.mem; is = h.is }) m

pub follows_grows : {E : Type 0} {w v : World E} {c : Claim E} → Grows w v → Follows w c → Follows v c
follows_grows g f = record {
  by = f.by;
  adopted = record { it = f.adopted.it; mem = g.leads f.by f.adopted.it f.adopted.mem; is = f.adopted.is };
  whole = record { it = f.whole.it; mem = g.accepts f.by f.whole.it f.whole.mem; is = f.whole.is };
}

pub known_grows : {E : Type 0} {n : ℕ} {w v : World E} (o : Own E) → Grows w v → Known n w o → Known n v o
known_grows o g (inl e) = inl e
known_grows o g (inr k) = inr (k.0, k.1, durable_grows g k.2)

pub refs_grow : {E : Type 0} {n : ℕ} {w v : World E} {i : ℕ} {o : Own E} → Grows w v → Refs n w i o → Refs n v i o
refs_grow {o = o} g r = record {
  admitted = λ e. g.admits (record { node = _; promised = _; accepted = _ }) (r.admitted e);
  granted = record { at = λ x h. let t = r.granted.at x h in record { it = t.it; mem = g.votes x.to t.it t.mem; is = t.is } };
  led = record { at = λ x h. granted_grows g (r.led.at x h) };
  follows = record { at = λ x h. follows_grows g (r.follows.at x h) };
  durables = record { at = λ x h. durable_grows g (r.durables.at x h) };
  known = known_grows o g r.known;
  fits = r.fits;
}

-- a known front stays known in a log that begins with it, accepted in no lower generation
pub known_front : {E : Type 0} (n : ℕ) (w : World E) (o : Own E) (a : ℕ) (l : List E) → o.durable ≤ length o.log → o.accepted ≤ a → ((g : ℕ) → g ≤ o.accepted → DurableIn n w g (take o.durable o.log) → Front (take o.durable o.log) l)
    → Known n w o → Known n w (record o { accepted = a; log = l }) × (o.durable ≤ length l)
known_front n w o a l fits le pre (inl e) = (inl e, omega arith)
known_front n w o a l fits le pre (inr k) =
    let s = same_front o.durable o.log l fits (pre k.0 k.1 k.2) in
    let k1 : k.0 ≤ o.accepted = k.1 in
    (inr (k.0, omega arith, subst (λ t. DurableIn n w k.0 t) s.1 k.2), s.0)

-- what a node holds in a generation that was led: the log is accepted and follows that leader
pub holds : {E : Type 0} {n : ℕ} {w : World E} → Inv n w → (i m : ℕ) (l : Claim E) → In l (w.nodes m).leads → l.gen ≤ (w.nodes i).accepted → Has (λ c. (c.gen ≡ (w.nodes i).accepted) × (c.log ≡ (w.nodes i).log)) (w.nodes i).accepts
holds {w = w} inv i m l h le = real inv m i l (w.nodes i).accepted (w.nodes i).log h le (inv.local i).held

-- a leader's own log
pub leads_log : {E : Type 0} {n : ℕ} {w : World E} → Inv n w → (i : ℕ) → (w.nodes i).leading ≡ true → Has (λ l. (l.gen ≡ (w.nodes i).accepted) × Front l.log (w.nodes i).log) (w.nodes i).leads
leads_log {E} {n} {w} inv i lead = go ((inv.local i).heads lead)
  where
    go : ((w.nodes i).accepted ≡ (w.nodes i).promised) × Has (λ l. l.gen ≡ (w.nodes i).accepted) (w.nodes i).leads → Has (λ l. (l.gen ≡ (w.nodes i).accepted) × Front l.log (w.nodes i).log) (w.nodes i).leads
    go r =
        let l = r.1 in
        let lg : l.it.gen ≡ (w.nodes i).accepted = l.is in
        let c = holds inv i i l.it l.mem (omega arith) in
        let f = (inv.refs i).follows.at c.it c.mem in
        let same : f.by ≡ i = one_leader inv f.by i f.adopted.it l.it f.adopted.mem l.mem (f.adopted.is.0 ∙ (c.is.0 ∙ sym l.is)) in
        record { it = f.adopted.it; mem = subst (λ t. In f.adopted.it (w.nodes t).leads) same f.adopted.mem; is = (f.adopted.is.0 ∙ c.is.0, subst (λ t. Front f.adopted.it.log t) c.is.1 f.adopted.is.1) }

pub claim_is : {E : Type 0} (c : Claim E) (g : ℕ) (l : List E) → c.gen ≡ g → c.log ≡ l → c ≡ record { gen = g; log = l }
claim_is {E} c g l e f =
    let make : ℕ → List E → Claim E = λ a b. record { gen = a; log = b } in
    ap (λ a. make a c.log) e ∙ ap (λ b. make g b) f

pub took_follows : {E : Type 0} {n : ℕ} {w : World E} → Inv n w → (g : ℕ) (l : List E) → IsShipped w g l → Follows w (record { gen = g; log = l })
took_follows {E} {n} {w} inv g l can =
    let s = can.1 in
    let f = (inv.refs can.0).follows.at s.it ((inv.local can.0).ships.at s.it s.mem).1 in
    subst (λ (c : Claim E). Follows w c) (claim_is s.it g l s.is.0 s.is.1) f

-- what was durable in a lower generation begins what is shipped
pub took_begins : {E : Type 0} {n : ℕ} {w : World E} → Inv n w → (g : ℕ) (l : List E) → IsShipped w g l → (h : ℕ) (d : List E) → h < g → DurableIn n w h d → Front d l
took_begins {E} {n} {w} inv g l can h d lt dur =
    let s = can.1 in
    let sg : s.it.gen ≡ g = s.is.0 in
    subst (λ t. Front d t) s.is.1 (begins inv h d dur can.0 s.it ((inv.local can.0).ships.at s.it s.mem).1 (omega arith))

-- what a node takes in the generation that it accepted: its log grows, and follows the leader
pub grown : {E : Type 0} {n : ℕ} {w : World E} → Inv n w → (i : ℕ) (l : List E) → CanGrow w (w.nodes i) l → Front (w.nodes i).log l × Follows w (record { gen = (w.nodes i).accepted; log = l })
grown {E} {n} {w} inv i l can = go can.1 can.2
  where
    o : Own E
    o = w.nodes i

    -- s was shipped by m, and the node holds c
    with_both : (m : ℕ) (s c : Claim E) → In s (w.nodes m).accepts → In c (w.nodes i).accepts → s.gen ≡ (w.nodes i).accepted → c.gen ≡ (w.nodes i).accepted → c.log ≡ (w.nodes i).log → Front l s.log → length (w.nodes i).log ≤ length l
        → Follows w s → Follows w c → Front c.log s.log ⊎ Front s.log c.log → Front (w.nodes i).log l × Follows w (record { gen = (w.nodes i).accepted; log = l })
    with_both m s c hs hc sg cg cl ls len fs fc either =
        let into : Front (w.nodes i).log s.log = pick either in
        let grows : Front (w.nodes i).log l = front_shorter into ls len in
        let same : fs.by ≡ fc.by = one_leader inv fs.by fc.by fs.adopted.it fc.adopted.it fs.adopted.mem fc.adopted.mem (fs.adopted.is.0 ∙ (sg ∙ (sym cg ∙ sym fc.adopted.is.0))) in
        let whole : In fs.whole.it (w.nodes fc.by).accepts = subst (λ t. In fs.whole.it (w.nodes t).accepts) same fs.whole.mem in (
          grows,
          record {
            by = fc.by;
            adopted = record { it = fc.adopted.it; mem = fc.adopted.mem; is = (fc.adopted.is.0 ∙ cg, front_trans (subst (λ t. Front fc.adopted.it.log t) cl fc.adopted.is.1) grows) };
            whole = record { it = fs.whole.it; mem = whole; is = (fs.whole.is.0 ∙ sg, front_trans ls fs.whole.is.1) };
          },
        )
      where
        pick : Front c.log s.log ⊎ Front s.log c.log → Front (w.nodes i).log s.log
        pick (inl p) = subst (λ t. Front t s.log) cl p
        pick (inr p) =
            let q : Front s.log (w.nodes i).log = subst (λ t. Front s.log t) cl p in
            let a = front_length ls in
            subst (λ t. Front (w.nodes i).log t) (sym (front_same q (omega arith))) (front_refl (w.nodes i).log)

    sizes : (s : Claim E) → ((length l ≡ length (w.nodes i).log + 1) ⊎ ((length l ≡ length (w.nodes i).log) × (length l ≡ length s.log))) → length (w.nodes i).log ≤ length l
    sizes s (inl e) = omega arith
    sizes s (inr e) = let f : length l ≡ length (w.nodes i).log = e.0 in omega arith

    go : (m : ℕ) → Has (λ s. (s.gen ≡ (w.nodes i).accepted) × Front l s.log × ((length l ≡ length (w.nodes i).log + 1) ⊎ ((length l ≡ length (w.nodes i).log) × (length l ≡ length s.log)))) (w.nodes m).ships → Front (w.nodes i).log l × Follows w (record { gen = (w.nodes i).accepted; log = l })
    go m s =
        let acc = ((inv.local m).ships.at s.it s.mem).1 in
        let fs = (inv.refs m).follows.at s.it acc in
        let sg : s.it.gen ≡ (w.nodes i).accepted = s.is.0 in
        let lg : fs.adopted.it.gen ≡ s.it.gen = fs.adopted.is.0 in
        let c = holds inv i fs.by fs.adopted.it fs.adopted.mem (omega arith) in
        let cg : c.it.gen ≡ (w.nodes i).accepted = c.is.0 in
        with_both m s.it c.it acc c.mem sg cg c.is.1 s.is.1 (sizes s.it s.is.2) fs ((inv.refs i).follows.at c.it c.mem) (comparable inv i m c.it s.it c.mem acc (omega arith))

-- a front of one of two logs, of which one begins the other, and which the other reaches, begins the other
pub front_reaching : {E : Type 0} (n : ℕ) (xs ys : List E) → n ≤ length ys → Front xs ys ⊎ Front ys xs → Front (take n xs) ys
front_reaching n xs ys len (inl p) = front_trans (front_take n xs) p
front_reaching n xs ys len (inr p) = let a = length_take n xs in front_shorter (front_take n xs) p (omega arith)

-- a front of the node's log that a majority acknowledged in the leader's generation
pub learns : {E : Type 0} {n : ℕ} {w : World E} → Inv n w → (i l : ℕ) → (w.nodes i).leading ≡ true → Majority n (λ k. Has (λ c. (c.gen ≡ (w.nodes i).accepted) × (l ≤ length c.log)) (w.nodes k).acks)
    → (l ≤ length (w.nodes i).log) × DurableIn n w (w.nodes i).accepted (take l (w.nodes i).log)
learns {E} {n} {w} inv i l lead acks = (short (some_of acks), majority_weaker (λ k c. one k c.it ((inv.local k).acks.at c.it c.mem) c.is.0 c.is.1) acks)
  where
    head : Has (λ t. (t.gen ≡ (w.nodes i).accepted) × Front t.log (w.nodes i).log) (w.nodes i).leads
    head = leads_log inv i lead

    mine : Has (λ c. (c.gen ≡ (w.nodes i).accepted) × (c.log ≡ (w.nodes i).log)) (w.nodes i).accepts
    mine = let e : head.it.gen ≡ (w.nodes i).accepted = head.is.0 in holds inv i i head.it head.mem (omega arith)

    one : (k : ℕ) (c : Claim E) → In c (w.nodes k).accepts → c.gen ≡ (w.nodes i).accepted → l ≤ length c.log → Has (λ c. (c.gen ≡ (w.nodes i).accepted) × Front (take l (w.nodes i).log) c.log) (w.nodes k).accepts
    one k c hc cg len =
        let p = front_reaching l mine.it.log c.log len (comparable inv i k mine.it c mine.mem hc (mine.is.0 ∙ sym cg)) in
        record { it = c; mem = hc; is = (cg, subst (λ t. Front (take l t) c.log) mine.is.1 p) }

    short : (k : ℕ) × Has (λ c. (c.gen ≡ (w.nodes i).accepted) × (l ≤ length c.log)) (w.nodes k).acks → l ≤ length (w.nodes i).log
    short r =
        let c = r.1 in
        let f = (inv.refs r.0).follows.at c.it ((inv.local r.0).acks.at c.it c.mem) in
        let same : f.by ≡ i = one_leader inv f.by i f.adopted.it head.it f.adopted.mem head.mem (f.adopted.is.0 ∙ (c.is.0 ∙ sym head.is.0)) in
        let whole : In f.whole.it (w.nodes i).accepts = subst (λ t. In f.whole.it (w.nodes t).accepts) same f.whole.mem in
        let p = front_length (((inv.local i).last.at f.whole.it whole).1 (f.whole.is.0 ∙ c.is.0)) in
        let q = front_length f.whole.is.1 in
        let len : l ≤ length c.it.log = c.is.1 in
        omega arith

-- a front of the node's log that a master told durable, in a generation not above the accepted one
pub hears : {E : Type 0} {n : ℕ} {w : World E} → Inv n w → (i l m : ℕ) (c : Claim E) → In c (w.nodes m).durables → c.gen ≤ (w.nodes i).accepted → l ≤ length c.log → l ≤ length (w.nodes i).log → DurableIn n w c.gen (take l (w.nodes i).log)
hears {E} {n} {w} inv i l m c hc le len within = majority_weaker (λ k x. record { it = x.it; mem = x.mem; is = (x.is.0, front_trans (go (some_of dur)) x.is.1) }) dur
  where
    dur : DurableIn n w c.gen c.log
    dur = (inv.refs m).durables.at c hc

    split : (k : ℕ) (x e : Claim E) → In x (w.nodes k).accepts → In e (w.nodes i).accepts → x.gen ≡ c.gen → Front c.log x.log → e.gen ≡ (w.nodes i).accepted → e.log ≡ (w.nodes i).log → (c.gen < (w.nodes i).accepted) ⊎ (c.gen ≡ (w.nodes i).accepted) → Front (take l (w.nodes i).log) c.log
    split k x e hx he xg cx eg el (inl lt) =
        let p = begins inv c.gen c.log dur i e he (omega arith) in
        front_reaching l (w.nodes i).log c.log len (inr (subst (λ t. Front c.log t) el p))
    split k x e hx he xg cx eg el (inr eq) =
        let p = front_reaching l e.log x.log (let q = front_length cx in omega arith) (comparable inv i k e x he hx (omega arith)) in
        let a = length_take l (w.nodes i).log in
        front_shorter (subst (λ t. Front (take l t) x.log) el p) cx (omega arith)

    go : (k : ℕ) × Has (λ x. (x.gen ≡ c.gen) × Front c.log x.log) (w.nodes k).accepts → Front (take l (w.nodes i).log) c.log
    go r =
        let x = r.1 in
        let f = (inv.refs r.0).follows.at x.it x.mem in
        let fg : f.adopted.it.gen ≡ x.it.gen = f.adopted.is.0 in
        let xg : x.it.gen ≡ c.gen = x.is.0 in
        let e = holds inv i f.by f.adopted.it f.adopted.mem (omega arith) in
        split r.0 x.it e.it x.mem e.mem xg x.is.1 e.is.0 e.is.1 (lt_or_eq c.gen (w.nodes i).accepted le)
