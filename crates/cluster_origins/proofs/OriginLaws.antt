-- The log that a leader adopts before anything else is durable is that of a best store, or the setup alone.
use Rattle.std.proofs.Common.{◌≡◌, ℕ, zero, suc, ◌+◌, ◌<◌, ◌≤◌, List, [], ◌∷◌, ◌++◌, length, length-append, arith, refl, sym, subst, ap, ◌∙◌}
use Rattle.std.specs.Prelude.{true, false}
use Rattle.std.proofs.lemmas.List.{append-nil}
use mathlib.Core.Logic.{◌⊎◌, inl, inr}
use Rattle.cluster_answers.proofs.EntryLaws.{sends_ok}
use Rattle.cluster_consensus.proofs.Generations.{led_above, one_leader, one_log}
use Rattle.cluster_consensus.proofs.Invariant.{Inv}
use Rattle.cluster_consensus.proofs.Kept.{always}
use Rattle.cluster_consensus.specs.Durable.{DurableIn}
use Rattle.cluster_consensus.specs.Enabled.{Below, IsGranted}
use Rattle.cluster_consensus.specs.Events.{NodeEvent}
use Rattle.cluster_consensus.specs.Events.NodeEvent.{Append, Asks, BackAppend, Boot, Down}
use Rattle.cluster_consensus.specs.Facts.{Claim, Vote, World}
use Rattle.cluster_consensus.specs.Histories.{Legal, after}
use Rattle.cluster_events.proofs.HistoryLaws.{add_step, core_is, good_of, later_event, steps, steps_legal}
use Rattle.cluster_events.proofs.LineLists.{append_assoc}
use Rattle.cluster_events.specs.Guards.{IsLegalHistory, IsRightlyAppended, MayDo}
use Rattle.cluster_events.specs.Parts.{ActorEvent, field}
use Rattle.cluster_events.specs.Settings.{Setting}
use Rattle.cluster_facts.proofs.SourceLaws.{had}
use Rattle.cluster_facts.specs.Brought.{IsBrought}
use Rattle.cluster_masters.proofs.Added.{added}
use Rattle.cluster_masters.proofs.Bases.{some_founded}
use Rattle.cluster_masters.specs.Appended.{AllAppend, Appends}
use Rattle.cluster_masters.specs.FirstMaster.{HasNoMaster, IsFirstMaster}
use Rattle.cluster_requests.specs.KeptEntries.{KeptEntry}
use Rattle.cluster_requests.specs.KeptEntries.KeptEntry.{SetupKept, CommitKept}
use Rattle.cluster_requests.specs.Requests.{Sent}
use Rattle.core_lists.proofs.Fronts.{front_refl, front_rest}
use Rattle.core_lists.specs.Fronts.{Front}
use Rattle.core_lists.specs.Fronts.Front.{front_nil, front_cons}
use Rattle.core_lists.specs.Lists.{Has, In}
use Rattle.core_lists.specs.Lists.In.{here, there}
use Rattle.core_lists.specs.Majorities.{Majority}
use Rattle.core_lists.proofs.Lists.{nothing}
use Rattle.cluster_origins.specs.Origins.{IsFrom, IsFromBest, IsSetupAlone}
use Rattle.cluster_origins.proofs.SourceLaws.{IsSourced, behind, boots, entered, sourced, split_in}

-- what is appended: a setup to an empty log, or a commit that was sent to the generation
abbrev IsNewBy : List Sent → ℕ → List KeptEntry → KeptEntry → Type 0
IsNewBy sends g xs (SetupKept generation schema records reached) = xs ≡ []
IsNewBy sends g xs (CommitKept generation id begin level changes records reached) = Has (λ x. x.gen ≡ g) sends

new_by : (G : Setting) (sends : List Sent) (h : List (ℕ × ActorEvent)) (i : ℕ) (e : KeptEntry) → ((x : Sent) → In x (field h).sends → In x sends) → IsRightlyAppended G (field h) i ((field h).core.nodes i).log e
    → IsNewBy sends ((field h).core.nodes i).accepted ((field h).core.nodes i).log e
new_by G sends h i (SetupKept generation schema records reached) on r = r.0
new_by G sends h i (CommitKept generation id begin level changes records reached) on r = record { it = r.sent; mem = on r.sent r.mem; is = r.gen }

appends_row : (G : Setting) (sends : List Sent) (h : List (ℕ × ActorEvent)) (i : ℕ) (e : NodeEvent KeptEntry) → ((x : Sent) → In x (field h).sends → In x sends) → MayDo G h i (ActorEvent.Node e) → Appends (IsNewBy sends) ((field h).core.nodes i) e
appends_row G sends h i (Append e) on may = new_by G sends h i e on may.1
appends_row G sends h i (BackAppend e) on may = new_by G sends h i e on may.1
appends_row G sends h i _ on may = tt

new_row : (G : Setting) (sends : List Sent) (h : List (ℕ × ActorEvent)) (i : ℕ) (e : ActorEvent) → ((x : Sent) → In x (field h).sends → In x sends) → MayDo G h i e → AllAppend (IsNewBy sends) (steps h) → AllAppend (IsNewBy sends) (add_step i e (steps h))
new_row G sends h i (ActorEvent.Node e) on may old = (subst (λ w. Appends (IsNewBy sends) (w.nodes i) e) (core_is h) (appends_row G sends h i e on may), old)
new_row G sends h i ActorEvent.Stop on may old = (tt, old)
new_row G sends h i (ActorEvent.Ask t) on may old = (tt, old)
new_row G sends h i _ on may old = old

all_new : (G : Setting) (sends : List Sent) (h : List (ℕ × ActorEvent)) → IsLegalHistory G h → ((x : Sent) → In x (field h).sends → In x sends) → AllAppend (IsNewBy sends) (steps h)
all_new G sends [] legal on = tt
all_new G sends (x ∷ h) legal on =
    let more = later_event G h x.0 x.1 (good_of G h legal.1).inv legal.0 in
    let on' : (y : Sent) → In y (field h).sends → In y sends = λ y m. on y (more.sends y m) in
    new_row G sends h x.0 x.1 on' legal.0 (all_new G sends h legal.1 on')

-- no leader's adopted log is durable in its own generation below g
abbrev NoneBelow : ℕ → World KeptEntry → ℕ → Type 0
NoneBelow n w g = (k : ℕ) (l : Claim KeptEntry) → In l (w.nodes k).leads → DurableIn n w l.gen l.log → g ≤ l.gen

-- then nothing is sent to a generation below
unsent : (G : Setting) (h : List (ℕ × ActorEvent)) (g c : ℕ) → IsLegalHistory G h → NoneBelow G.nodes (after (steps h)) g → c < g → Has (λ x. x.gen ≡ c) (field h).sends → ⊥
unsent G h g c legal none less s =
    let ok = (sends_ok G h legal).at s.it s.mem in
    let p = ok.pinged in
    let f = some_founded G.nodes p.node (steps h) p.ping (steps_legal G h legal) (subst (λ w. In p.ping (w.nodes p.node).pings) (core_is h) p.mem) in
    let low : g ≤ f.1.it.gen = none f.0 f.1.it f.1.mem f.1.is.1 in
    let a : f.1.it.gen ≤ p.ping.gen = f.1.is.0 in
    let b : p.ping.gen ≡ s.it.id.began = p.gen in
    let d : s.it.id.began ≤ s.it.gen = ok.low in
    let e : s.it.gen ≡ c = s.is in
    absurd (omega arith)

-- a log is as it was adopted, or the setup alone where that was empty
abbrev Grew : List KeptEntry → List KeptEntry → Type 0
Grew first log = (log ≡ first) ⊎ ((first ≡ []) × IsSetupAlone log)

front_more : (xs ys : List KeptEntry) → Front xs (xs ++ ys)
front_more [] ys = front_nil
front_more (x ∷ xs) ys = front_cons {x = x} (front_more xs ys)

-- a log and what is appended to it
no_end : (xs : List KeptEntry) (e : KeptEntry) → xs ++ e ∷ [] ≡ [] → ⊥
no_end xs e none =
    let a : length (xs ++ e ∷ []) ≡ length xs + 1 = length-append xs (e ∷ []) in
    let b : length (xs ++ e ∷ []) ≡ 0 = ap length none in
    omega arith

grown_by : (G : Setting) (h : List (ℕ × ActorEvent)) (g c : ℕ) (first log zs : List KeptEntry) → IsLegalHistory G h → NoneBelow G.nodes (after (steps h)) g → c < g → first ++ zs ≡ log
    → ((xs : List KeptEntry) (e : KeptEntry) → Front (xs ++ e ∷ []) log → length first ≤ length xs → IsNewBy (field h).sends c xs e) → Grew first log
grown_by G h g c first log [] legal none less whole rule = inl (sym whole ∙ append-nil first)
grown_by G h g c first log (e ∷ []) legal none less whole rule = go e whole (rule first e (subst (λ (l : List KeptEntry). Front (first ++ e ∷ []) l) whole (front_refl (first ++ e ∷ []))) (omega arith))
  where
    go : (x : KeptEntry) → first ++ x ∷ [] ≡ log → IsNewBy (field h).sends c first x → Grew first log
    go (SetupKept generation schema records reached) is new =
        inr (new, subst (λ (l : List KeptEntry). IsSetupAlone l) (ap (λ (f : List KeptEntry). f ++ SetupKept generation schema records reached ∷ []) (sym new) ∙ is) tt)
    go (CommitKept generation id begin level changes records reached) is new = absurd (unsent G h g c legal none less new)
grown_by G h g c first log (e ∷ f ∷ zs) legal none less whole rule = go f (rule (first ++ e ∷ []) f stands (let a : length (first ++ e ∷ []) ≡ length first + 1 = length-append first (e ∷ []) in omega arith))
  where
    both : ((first ++ e ∷ []) ++ f ∷ []) ++ zs ≡ log
    both = append_assoc (first ++ e ∷ []) (f ∷ []) zs ∙ (append_assoc first (e ∷ []) (f ∷ zs) ∙ whole)

    stands : Front ((first ++ e ∷ []) ++ f ∷ []) log
    stands = subst (λ (l : List KeptEntry). Front ((first ++ e ∷ []) ++ f ∷ []) l) both (front_more ((first ++ e ∷ []) ++ f ∷ []) zs)

    go : (x : KeptEntry) → IsNewBy (field h).sends c (first ++ e ∷ []) x → Grew first log
    go (SetupKept generation schema records reached) new = absurd (no_end first e new)
    go (CommitKept generation id begin level changes records reached) new = absurd (unsent G h g c legal none less new)

-- each log that is accepted below g is one that a leader adopted, grown so
grew : (G : Setting) (h : List (ℕ × ActorEvent)) (g k : ℕ) (c : Claim KeptEntry) → IsLegalHistory G h → NoneBelow G.nodes (after (steps h)) g → In c ((after (steps h)).nodes k).accepts → c.gen < g
    → (m : ℕ) × Has (λ l. (l.gen ≡ c.gen) × Grew l.log c.log) ((after (steps h)).nodes m).leads
grew G h g k c legal none mem less =
    let cs : List (ℕ × NodeEvent KeptEntry) = steps h in
    let inv = always G.nodes cs (steps_legal G h legal) in
    let a = (added (IsNewBy (field h).sends) G.nodes cs (steps_legal G h legal) (all_new G (field h).sends h legal (λ x m. m)) k).at c mem in
    let f = ((inv.refs k).follows).at c mem in
    let who : f.by ≡ a.by = one_leader inv f.by a.by f.adopted.it a.lead f.adopted.mem a.mem (f.adopted.is.0 ∙ sym a.gen) in
    let there_too : In f.adopted.it ((after cs).nodes a.by).leads = subst (λ j. In f.adopted.it ((after cs).nodes j).leads) who f.adopted.mem in
    let same : f.adopted.it.log ≡ a.lead.log = one_log inv a.by f.adopted.it a.lead there_too a.mem (f.adopted.is.0 ∙ sym a.gen) in
    let front : Front a.lead.log c.log = subst (λ (l : List KeptEntry). Front l c.log) same f.adopted.is.1 in
    let own = front_rest front in
    (a.by, record { it = a.lead; mem = a.mem; is = (a.gen, grown_by G h g c.gen a.lead.log c.log own.0 legal none less own.1 a.rest) })

-- as the core's history has it
record CoreFrom (n : ℕ) (cs : List (ℕ × NodeEvent KeptEntry)) (log : List KeptEntry) : Type 0 where
  node : ℕ
  accepted : ℕ
  store : List KeptEntry
  was : IsBrought cs node accepted store
  best : Majority n (λ j. (b : ℕ) × (k : List KeptEntry) × IsBrought cs j b k × Below b (length k) accepted (length store))
  is : (log ≡ store) ⊎ ((store ≡ []) × IsSetupAlone log)

not_alone : (log : List KeptEntry) → log ≡ [] → IsSetupAlone log → ⊥
not_alone log none alone = subst (λ (l : List KeptEntry). IsSetupAlone l) none alone

from_grown : (n : ℕ) (cs : List (ℕ × NodeEvent KeptEntry)) (first log : List KeptEntry) → CoreFrom n cs first → Grew first log → CoreFrom n cs log
from_grown n cs first log c (inl same) = record { node = c.node; accepted = c.accepted; store = c.store; was = c.was; best = c.best; is = subst (λ (l : List KeptEntry). (l ≡ c.store) ⊎ ((c.store ≡ []) × IsSetupAlone l)) (sym same) c.is }
from_grown n cs first log c (inr new) = record { node = c.node; accepted = c.accepted; store = c.store; was = c.was; best = c.best; is = go c.is }
  where
    go : (first ≡ c.store) ⊎ ((c.store ≡ []) × IsSetupAlone first) → (log ≡ c.store) ⊎ ((c.store ≡ []) × IsSetupAlone log)
    go (inl same) = inr (sym same ∙ new.0, new.1)
    go (inr alone) = absurd (not_alone first new.0 alone.1)

same_log : (n : ℕ) (cs : List (ℕ × NodeEvent KeptEntry)) (a b : List KeptEntry) → a ≡ b → CoreFrom n cs a → CoreFrom n cs b
same_log n cs a b e c = subst (λ (l : List KeptEntry). CoreFrom n cs l) e c

-- who voted for a leader that has its store's log had no better one, at the entry too
voter : (n : ℕ) (cs : List (ℕ × NodeEvent KeptEntry)) (m j : ℕ) (v : Vote KeptEntry) (g : ℕ) → Legal n cs → In v ((after cs).nodes m).votes → v.gen ≡ g → IsBrought cs m v.accepted v.log → IsGranted (after cs) g m j
    → (b : ℕ) × (k : List KeptEntry) × IsBrought cs j b k × Below b (length k) v.accepted (length v.log)
voter n cs m j v g legal mem gen was x = go ((sourced n cs legal j).grants.at x.it x.mem)
  where
    w : World KeptEntry
    w = after cs

    inv : Inv n w
    inv = always n cs legal

    low : Below x.it.accepted (length x.it.log) v.accepted (length v.log)
    low =
        let d = (inv.refs j).granted.at x.it x.mem in
        let mine : In d.it (w.nodes m).votes = subst (λ i. In d.it (w.nodes i).votes) x.is.1 d.mem in
        let same : d.it ≡ v = (inv.local m).vote_once.same d.it v mine mem (d.is.0 ∙ (x.is.0 ∙ sym gen)) in
        subst (λ (y : Vote KeptEntry). Below x.it.accepted (length x.it.log) y.accepted (length y.log)) same d.is.1

    above : Has (λ c. (c.gen ≡ x.it.accepted) × (c.log ≡ x.it.log)) (w.nodes j).accepts → v.accepted < x.it.accepted
    above c =
        let f = ((inv.refs j).follows).at c.it c.mem in
        let e = entered n cs legal m was.0 v.accepted v.log was.1 in
        let over = led_above inv f.by f.adopted.it (record { node = m; promised = (w.nodes m).store_promised; accepted = (w.nodes m).store_accepted }) f.adopted.mem ((inv.refs m).admitted e.1) in
        let p : (w.nodes m).store_accepted < f.adopted.it.gen = over in
        let q : (w.nodes m).store_accepted ≡ v.accepted = e.0 in
        let r : f.adopted.it.gen ≡ c.it.gen = f.adopted.is.0 in
        let s : c.it.gen ≡ x.it.accepted = c.is.0 in
        omega arith

    not_both : Below x.it.accepted (length x.it.log) v.accepted (length v.log) → v.accepted < x.it.accepted → ⊥
    not_both (inl l) more = omega (arith, l, more)
    not_both (inr e) more = let same : x.it.accepted ≡ v.accepted = e.0 in omega (arith, same, more)

    go : IsSourced cs j (w.nodes j) x.it.accepted x.it.log → (b : ℕ) × (k : List KeptEntry) × IsBrought cs j b k × Below b (length k) v.accepted (length v.log)
    go (inr b) = (x.it.accepted, x.it.log, b, low)
    go (inl c) = absurd (not_both low (above c))

origin : (G : Setting) (h : List (ℕ × ActorEvent)) (g fuel m : ℕ) (l : Claim KeptEntry) → IsLegalHistory G h → NoneBelow G.nodes (after (steps h)) g → In l ((after (steps h)).nodes m).leads → l.gen < fuel → l.gen ≤ g → CoreFrom G.nodes (steps h) l.log
origin G h g zero m l legal none led low most = absurd (omega arith)
origin G h g (suc fuel) m l legal none led low most = go src (λ k d mem less up. origin G h g fuel k d legal none mem less up)
  where
    cs : List (ℕ × NodeEvent KeptEntry)
    cs = steps h

    w : World KeptEntry
    w = after cs

    inv : Inv G.nodes w
    inv = always G.nodes cs (steps_legal G h legal)

    v : Has (λ v. (v.gen ≡ l.gen) × (v.log ≡ l.log)) (w.nodes m).votes
    v = (inv.local m).leads.at l led

    src : IsSourced cs m (w.nodes m) v.it.accepted v.it.log
    src = (sourced G.nodes cs (steps_legal G h legal) m).votes.at v.it v.mem

    go : IsSourced cs m (w.nodes m) v.it.accepted v.it.log → ((k : ℕ) (d : Claim KeptEntry) → In d (w.nodes k).leads → d.gen < fuel → d.gen ≤ g → CoreFrom G.nodes cs d.log) → CoreFrom G.nodes cs l.log
    go (inr was) again = record {
      node = m;
      accepted = v.it.accepted;
      store = v.it.log;
      was = was;
      best = (let many = (inv.refs m).led.at l led in record { who = many.who; many = many.many; hold = λ j pos le so. voter G.nodes cs m j v.it l.gen (steps_legal G h legal) v.mem v.is.0 was (many.hold j pos le so) });
      is = inl (sym v.is.1);
    }
    go (inl c) again =
        let above : v.it.accepted < v.it.gen = ((inv.local m).votes.at v.it v.mem).above in
        let a : c.it.gen ≡ v.it.accepted = c.is.0 in
        let b : v.it.gen ≡ l.gen = v.is.0 in
        let less : c.it.gen < g = omega (arith, a, b, above, most) in
        let d = grew G h g m c.it legal none c.mem less in
        let e : d.1.it.gen ≡ c.it.gen = d.1.is.0 in
        let less' : d.1.it.gen < fuel = omega (arith, a, b, above, e, low) in
        let most' : d.1.it.gen ≤ g = omega (arith, a, b, above, e, most) in
        same_log G.nodes cs c.it.log l.log (c.is.1 ∙ v.is.1) (from_grown G.nodes cs d.1.it.log c.it.log (again d.0 d.1.it d.1.mem less' most') d.1.is.1)

-- in the whole history
had_in : (h : List (ℕ × ActorEvent)) (k p a : ℕ) (l : List KeptEntry) → In (k, Boot p a l) (steps h) → In (k, ActorEvent.Node (Boot p a l)) h
had_in [] k p a l m = absurd (nothing m)
had_in ((i, e) ∷ h) k p a l m = go e (had_in h k p a l) m
  where
    another : (c : NodeEvent KeptEntry) → boots c ≡ false → ◌≡◌ {A = ℕ × NodeEvent KeptEntry} (k, Boot p a l) (i, c) → ⊥
    another c none z = let b : true ≡ boots c = ap (λ (x : ℕ × NodeEvent KeptEntry). boots x.1) z in absurd (cc (b, none))

    of_node : (c : NodeEvent KeptEntry) → (In (k, Boot p a l) (steps h) → In (k, ActorEvent.Node (Boot p a l)) h) → In (k, Boot p a l) ((i, c) ∷ steps h) → In (k, ActorEvent.Node (Boot p a l)) ((i, ActorEvent.Node c) ∷ h)
    of_node c again m = by (split_in m)
      where
        by : (◌≡◌ {A = ℕ × NodeEvent KeptEntry} (k, Boot p a l) (i, c)) ⊎ In (k, Boot p a l) (steps h) → In (k, ActorEvent.Node (Boot p a l)) ((i, ActorEvent.Node c) ∷ h)
        by (inl z) =
            let e : ◌≡◌ {A = ℕ × ActorEvent} (k, ActorEvent.Node (Boot p a l)) (i, ActorEvent.Node c) = ap (λ (x : ℕ × NodeEvent KeptEntry). (x.0, ActorEvent.Node x.1)) z in
            subst (λ (y : ℕ × ActorEvent). In (k, ActorEvent.Node (Boot p a l)) (y ∷ h)) e here
        by (inr n) = there (again n)

    go : (e : ActorEvent) → (In (k, Boot p a l) (steps h) → In (k, ActorEvent.Node (Boot p a l)) h) → In (k, Boot p a l) (add_step i e (steps h)) → In (k, ActorEvent.Node (Boot p a l)) ((i, e) ∷ h)
    go (ActorEvent.Node c) again m = of_node c again m
    go ActorEvent.Stop again m = there (again (behind (another Down refl) m))
    go (ActorEvent.Ask t) again m = there (again (behind (another (Asks t) refl) m))
    go _ again m = there (again m)

from_core : (n : ℕ) (h : List (ℕ × ActorEvent)) (log : List KeptEntry) → CoreFrom n (steps h) log → IsFromBest n h log
from_core n h log c = record {
  from = record { node = c.node; accepted = c.accepted; store = c.store; had = (c.was.0, had_in h c.node c.was.0 c.accepted c.store c.was.1); is = c.is };
  best = record { who = c.best.who; many = c.best.many; hold = λ j pos le so. (let r = c.best.hold j pos le so in (r.0, r.1, (r.2.0, had_in h j r.2.0 r.0 r.1 r.2.1), r.3)) };
}

pub adopted_from : (G : Setting) (h : List (ℕ × ActorEvent)) (m : ℕ) (a : Claim KeptEntry) → IsLegalHistory G h → IsFirstMaster G.nodes (field h).core m a → IsFromBest G.nodes h a.log
adopted_from G h m a legal first =
    let q = core_is h in
    let none : NoneBelow G.nodes (after (steps h)) a.gen = subst (λ w. NoneBelow G.nodes w a.gen) q first.least in
    let led : In a ((after (steps h)).nodes m).leads = subst (λ w. In a (w.nodes m).leads) q first.mem in
    from_core G.nodes h a.log (origin G h a.gen (suc a.gen) m a legal none led (omega arith) (omega arith))

pub kept_from : (G : Setting) (h : List (ℕ × ActorEvent)) (k : ℕ) → IsLegalHistory G h → HasNoMaster G.nodes (field h).core → ((field h).core.nodes k).was_up ≡ true → IsFrom h ((field h).core.nodes k).log
kept_from G h k legal masterless up = subst (λ w. IsFrom h (w.nodes k).log) (sym (core_is h)) (go (had k (steps h) (subst (λ w. (w.nodes k).was_up ≡ true) (core_is h) up)))
  where
    w : World KeptEntry
    w = after (steps h)

    none : (g : ℕ) → NoneBelow G.nodes w g
    none g = λ j l led durable. absurd (subst (λ (x : World KeptEntry). HasNoMaster G.nodes x) (core_is h) masterless j l led durable)

    go : Has (λ c. (c.gen ≡ (w.nodes k).accepted) × (c.log ≡ (w.nodes k).log)) (w.nodes k).accepts ⊎ IsBrought (steps h) k (w.nodes k).accepted (w.nodes k).log → IsFrom h (w.nodes k).log
    go (inr b) = record { node = k; accepted = (w.nodes k).accepted; store = (w.nodes k).log; had = (b.0, had_in h k b.0 (w.nodes k).accepted (w.nodes k).log b.1); is = inl refl }
    go (inl c) =
        let d = grew G h (suc c.it.gen) k c.it legal (none (suc c.it.gen)) c.mem (omega arith) in
        let e : d.1.it.gen ≡ c.it.gen = d.1.is.0 in
        let at : CoreFrom G.nodes (steps h) d.1.it.log = origin G h (suc c.it.gen) (suc (suc c.it.gen)) d.0 d.1.it legal (none (suc c.it.gen)) d.1.mem (omega arith) (omega arith) in
        (from_core G.nodes h (w.nodes k).log (same_log G.nodes (steps h) c.it.log (w.nodes k).log c.is.1 (from_grown G.nodes (steps h) d.1.it.log c.it.log at d.1.is.1))).from
