-- What stands in the reported log beyond the base.
use Rattle.std.proofs.Common.{◌≡◌, ℕ, ◌≤◌, List, [], ◌∷◌, ◌++◌, length, arith, ap, sym, subst, ◌∙◌}
use mathlib.Core.Logic.{inl, inr}
use Rattle.core_lists.specs.Lists.{In}
use Rattle.core_lists.specs.Fronts.{Front}
use Rattle.cluster_consensus.specs.Facts.{Claim, World}
use Rattle.cluster_consensus.specs.Events.{NodeEvent}
use Rattle.cluster_consensus.specs.Events.NodeEvent.{BackAppend, Append}
use Rattle.cluster_consensus.specs.Enabled.{Below}
use Rattle.cluster_consensus.specs.Durable.{DurableIn}
use Rattle.cluster_masters.specs.FirstMaster.{IsFirstMaster}
use Rattle.cluster_masters.specs.Reported.{IsReported}
use Rattle.cluster_consensus.proofs.Invariant.{Inv}
use Rattle.cluster_requests.specs.Requests.{Sent}
use Rattle.phys_log.specs.declared.entries.CommitId.{CommitId}
use Rattle.cluster_requests.specs.KeptEntries.{KeptEntry}
use Rattle.cluster_events.specs.Settings.{Setting, work_of}
use Rattle.cluster_events.specs.Parts.{ActorEvent, part, field}
use Rattle.cluster_events.specs.Parts.ActorEvent.{Node, Stop, Ask}
use Rattle.cluster_events.specs.Guards.{MayDo, IsLegalHistory, AreNamedApart, Rising}
use Rattle.cluster_masters.specs.Appended.{Appends, AllAppend}
use Rattle.cluster_consensus.proofs.FactSteps.{holds}
use Rattle.cluster_masters.proofs.MasterLaws.{some_in}
use Rattle.cluster_masters.proofs.BehindLaws.{behind_base}
use Rattle.cluster_events.proofs.HistoryLaws.{steps, add_step, core_is, steps_legal, good_of, later_event}
use Rattle.cluster_answers.proofs.EntryLaws.{new_entry, new_later, sends_ok}
use Rattle.cluster_answers.specs.Entries.{New}
use Rattle.cluster_answers.proofs.NumberLaws.{counted}
use Rattle.cluster_events.proofs.OwnLines.{one_actor}

appends_row : (G : Setting) (h : List (ℕ × ActorEvent)) (i : ℕ) (e : NodeEvent KeptEntry) (P : List KeptEntry → KeptEntry → Type 0) → IsLegalHistory G h → MayDo G h i (Node e) → ((xs : List KeptEntry) (x : KeptEntry) → New G h xs x → P xs x) → Appends (λ g. P) ((field h).core.nodes i) e
appends_row G h i (Append e) P legal may f = f _ e (new_entry G h legal i e may.0.0.1 may.0.1 may.1)
appends_row G h i (BackAppend e) P legal may f = f _ e (new_entry G h legal i e may.0.0.2 may.0.1 may.1)
appends_row G h i _ P legal may f = tt

all_append_row : (G : Setting) (h : List (ℕ × ActorEvent)) (i : ℕ) (e : ActorEvent) (P : List KeptEntry → KeptEntry → Type 0) → IsLegalHistory G h → MayDo G h i e → ((xs : List KeptEntry) (x : KeptEntry) → New G h xs x → P xs x) → AllAppend (λ g. P) (steps h) → AllAppend (λ g. P) (add_step i e (steps h))
all_append_row G h i (Node e) P legal may f old = (subst (λ w. Appends (λ g. P) (w.nodes i) e) (core_is h) (appends_row G h i e P legal may f), old)
all_append_row G h i Stop P legal may f old = (tt, old)
all_append_row G h i (Ask t) P legal may f old = (tt, old)
all_append_row G h i _ P legal may f old = old

all_append : (G : Setting) (h : List (ℕ × ActorEvent)) (P : List KeptEntry → KeptEntry → Type 0) → IsLegalHistory G h → ((xs : List KeptEntry) (x : KeptEntry) → New G h xs x → P xs x) → AllAppend (λ g. P) (steps h)
all_append G [] P legal f = tt
all_append G (x ∷ h) P legal f =
    let on = later_event G h x.0 x.1 (good_of G h legal.1).inv legal.0 in
    let f' : (xs : List KeptEntry) (y : KeptEntry) → New G h xs y → P xs y = λ xs y r. f xs y (new_later x on r) in
    all_append_row G h x.0 x.1 P legal.1 legal.0 f' (all_append G h P legal.1 f')

-- the reported log was accepted by an event in a generation at or above that of the first master
pub reported_in : {n : ℕ} {w : World KeptEntry} → Inv n w → (r : ℕ) → IsReported n w r → (m : ℕ) (a : Claim KeptEntry) → In a (w.nodes m).leads → DurableIn n w a.gen a.log → (g : ℕ) (d : List KeptEntry) → DurableIn n w g d → g ≤ (w.nodes r).accepted
reported_in {n} {w} inv r top m a ha da g d dur =
    let s = some_in dur in
    let c = s.3 in
    let l : c.it.gen ≤ (w.nodes s.0).accepted = ((inv.local s.0).last.at c.it c.mem).0 in
    let cg : c.it.gen ≡ g = c.is.0 in
    low (w.nodes s.0).accepted _ (w.nodes r).accepted _ (top s.0 s.1 s.2) (omega arith)
  where
    low : (x n y k : ℕ) → Below x n y k → g ≤ x → g ≤ y
    low x n y k (inl lt) le = omega arith
    low x n y k (inr e) le = let q : x ≡ y = e.0 in omega arith

pub beyond_base : (G : Setting) (h : List (ℕ × ActorEvent)) → IsLegalHistory G h → (r : ℕ) → IsReported G.nodes (field h).core r → (m : ℕ) (a : Claim KeptEntry) → IsFirstMaster G.nodes (field h).core m a → (xs : List KeptEntry) (e : KeptEntry) → Front (xs ++ e ∷ []) ((field h).core.nodes r).log → length a.log ≤ length xs → New G h xs e
beyond_base G h legal r top m a first xs e p long =
    let inv = (good_of G h legal).inv in
    let le = reported_in inv r top m a first.mem first.durable a.gen a.log first.durable in
    let c = holds inv r m a first.mem le in
    let cg : c.it.gen ≡ ((field h).core.nodes r).accepted = c.is.0 in
    let q = core_is h in
    let all = all_append G h (New G h) legal (λ xs x r. r) in
    ((behind_base (λ g. New G h) G.nodes r m (steps h) a c.it (steps_legal G h legal) all (subst (λ w. In a (w.nodes m).leads) q first.mem) (subst (λ w. DurableIn G.nodes w a.gen a.log) q first.durable) (subst (λ w. In c.it (w.nodes r).accepts) q c.mem) (omega arith)).1 xs e (subst (λ t. Front (xs ++ e ∷ []) t) (sym c.is.1) p) long).rule

id_is : (a b : CommitId) → a.began ≡ b.began → a.session ≡ b.session → a.txn ≡ b.txn → a ≡ b
id_is a b p q r =
    ap (λ z. record { began = z; session = a.session; txn = a.txn }) p
    ∙ (ap (λ z. record { began = b.began; session = z; txn = a.txn }) q
    ∙ ap (λ z. record { began = b.began; session = b.session; txn = z }) r)

-- requests of one transaction have one identity
pub one_id : (G : Setting) → AreNamedApart G → (h : List (ℕ × ActorEvent)) → ((s : ℕ) → Rising 0 (work_of G s)) → IsLegalHistory G h → (x y : Sent) → In x (field h).sends → In y (field h).sends → x.id.session ≡ y.id.session → x.id.txn ≡ y.id.txn → x.id ≡ y.id
one_id G far h rising legal x y mx my es et =
    let qx = ((sends_ok G h legal).at x mx).request in
    let qy = ((sends_ok G h legal).at y my).request in
    let by : x.by ≡ y.by = one_actor G far x.by y.by (sym qx.name ∙ (es ∙ qy.name)) in
    let p = subst (λ z. In (record { txn = x.id.txn; begin = x.begin; gen = x.id.began }) (part G z h).begins) by qx.began in
    let b = (counted G h y.by (rising y.by) legal).once.same (record { txn = x.id.txn; begin = x.begin; gen = x.id.began }) (record { txn = y.id.txn; begin = y.begin; gen = y.id.began }) p qy.began et in
    id_is x.id y.id (ap (λ z. z.gen) b) es et
