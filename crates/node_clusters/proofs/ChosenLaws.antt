-- A choice, one part after the other.
use Rattle.std.specs.declared.alloc.Global.{Global}
use Rattle.std.proofs.Common.{ℕ, ◌≡◌, ◌-◌, ◌<◌, ◌≤◌, List, [], ◌∷◌, ◌++◌, length, get_or, slice_set, arith, refl, sym, subst, ap, ◌∙◌}
use Rattle.std.specs.Prelude.{Bool, true, false, Option, None, Some, Vec, Result, Ok, Err, IfOk, IfSome}
use mathlib.Core.Logic.{inl, inr}
use Rattle.cluster_events.specs.Settings.{Setting}
use Rattle.cluster_steps.specs.declared.events.Event.{Event}
use Rattle.election_core.specs.declared.votes.NodeVote.{NodeVote}
use Rattle.node_commits.specs.Ledgers.{Book}
use Rattle.node_clusters.proofs.BookLaws.{book_stays, keeps_none, no_book, polled_anew, untold_none, untold_then}
use Rattle.node_clusters.proofs.LedLaws.{decided_so, decided_then, fell_so, lost_later, others_lead, polled_so, quiet_so, set_up_so, shipped_so, stands_so}
use Rattle.node_clusters.proofs.OutcomeLaws.{long}
use Rattle.node_clusters.proofs.PassLaws.{all_pass_themselves, all_pass_then}
use Rattle.node_clusters.proofs.PlaceLaws.{placed}
use Rattle.node_clusters.proofs.ReignLaws.{reigns_at}
use Rattle.node_clusters.proofs.TurnLaws.{no_turns, takes_at, turns_then}
use Rattle.node_clusters.specs.Choosing.{HasChosen, IsChoosing}
use Rattle.node_clusters.specs.Clusters.{HasMajority, HasPlace, IsAfter, IsAlone, IsCluster, IsOther, IsStill, up_count}
use Rattle.node_clusters.specs.Elections.{HasCandidate, HasElected, HasLog, HasPolled, HasSetUp, HasSetUpAt, HasShippedSetup, HasStood, HasStoodAt, IsDecided, IsIfLeading, IsSetUp, IsSetUpBy, IsStanding, IsStood, IsStoodBy}
use Rattle.node_clusters.specs.Passes.{PassAll}
use Rattle.node_clusters.specs.Places.{node_at, votes}
use Rattle.node_clusters.specs.Reigns.{IsMastersBook, IsUntold}
use Rattle.node_clusters.specs.UnderWay.{HasRun}
use Rattle.node_state.specs.Nodes.{IsOwn}
use Rattle.node_state.specs.Packets.{SentPacket}
use Rattle.node_state.specs.Stores.{Stored, held_of}
use Rattle.phys_log.specs.declared.entries.Entry.{Entry}
use Rattle.quiet_cluster.specs.Polled.{Best}

-- who leads has a place, and leads
pub master_place : (G : Setting) (vs : List Stored) (q : List SentPacket) (m : ℕ) → IsCluster G vs q (Some m) → HasPlace vs m
master_place G vs q m c =
    let name = c.led.named m c.led.leads.up in
    let size : length vs ≡ G.nodes = c.nodes.size in
    (name.0, (let h : m ≤ G.nodes = name.1 in omega arith))

pub some_place : (G : Setting) (vs : List Stored) (q : List SentPacket) (master : Option ℕ) → IsCluster G vs q master → IfSome master (λ m. HasPlace vs m)
some_place G vs q None c = tt
some_place G vs q (Some m) c = master_place G vs q m c

pub led_place : (G : Setting) (vs : List Stored) (q : List SentPacket) (master : Option ℕ) (m : ℕ) → IsCluster G vs q master → master ≡ Some m → HasPlace vs m
led_place G vs q master m c is = master_place G vs q m (subst (λ z. IsCluster G vs q z) is c)

pub led_up : (G : Setting) (vs : List Stored) (q : List SentPacket) (master : Option ℕ) (m : ℕ) → IsCluster G vs q master → master ≡ Some m → ((votes vs m).up ≡ true) × ((votes vs m).leading ≡ true)
led_up G vs q master m c is =
    let k = subst (λ z. IsCluster G vs q z) is c in
    (k.led.leads.up, k.led.leads.leading)

none_long : (es : List Entry) → length es ≡ 0 → es ≡ []
none_long [] e = refl
none_long (x ∷ es) e = absurd (omega arith)

-- its log is as long as its numbers tell
pub led_empty : (G : Setting) (vs : List Stored) (q : List SentPacket) (master : Option ℕ) (m : ℕ) → IsCluster G vs q master → master ≡ Some m → (votes vs m).length ≡ 0
    → ((k : ℕ) → 0 < k → k ≤ length vs → IsOwn G (held_of (node_at vs k))) → ((node_at vs m).entries ≡ []) × ((votes vs m).length ≡ 0)
led_empty G vs q master m c is empty own =
    let p = led_place G vs q master m c is in
    (none_long (node_at vs m).entries (long G (held_of (node_at vs m)) (own m p.0 p.1) ∙ empty), empty)

-- the node at a place
pub up_at : (vs : List Stored) (i : ℕ) (v : Stored) → HasPlace vs i → v ≡ get_or vs (i - 1) v → (votes vs i).up ≡ true → v.vote.up ≡ true
up_at vs i v p at up = ap (λ (t : Stored). t.vote.up) (sym (placed vs i v p.0 p.1 at)) ∙ up

pub leads_at : (vs : List Stored) (i : ℕ) (v : Stored) → HasPlace vs i → v ≡ get_or vs (i - 1) v → (votes vs i).leading ≡ true → v.vote.leading ≡ true
leads_at vs i v p at on = ap (λ (t : Stored). t.vote.leading) (sym (placed vs i v p.0 p.1 at)) ∙ on

pub promised_at : (vs : List Stored) (i g : ℕ) (v : Stored) → HasPlace vs i → v ≡ get_or vs (i - 1) v → (votes vs i).promised < g → v.vote.promised < g
promised_at vs i g v p at below = subst (λ (t : Stored). t.vote.promised < g) (placed vs i v p.0 p.1 at) below

pub empty_at : (vs : List Stored) (i : ℕ) (v : Stored) → HasPlace vs i → v ≡ get_or vs (i - 1) v → ((node_at vs i).entries ≡ []) × ((votes vs i).length ≡ 0) → (v.entries ≡ []) × (v.vote.length ≡ 0)
empty_at vs i v p at empty = subst (λ (t : Stored). (t.entries ≡ []) × (t.vote.length ≡ 0)) (placed vs i v p.0 p.1 at) empty

pub stood_at : {E : Type 0} (r : Result (Option (Vec SentPacket Global)) E) (g c : ℕ) (last next : Option (List (ℕ × Event))) (vs us : List Stored) (v u : Stored) → HasPlace vs c → v ≡ get_or vs (c - 1) v → us ≡ slice_set vs (c - 1) u
    → IfOk r (λ o. HasStood g o last v u next) → IfOk r (λ o. HasStoodAt g c o last vs us next)
stood_at (Ok o) g c last next vs us v u p at put s = record { node = u; put = put; by = subst (λ t. HasStood g o last t u next) (sym (placed vs c v p.0 p.1 at)) s }
stood_at (Err e) g c last next vs us v u p at put s = tt

pub set_up_at : {E : Type 0} (r : Result (Option (Vec SentPacket Global)) E) (m : ℕ) (last next : Option (List (ℕ × Event))) (vs us : List Stored) (v u : Stored) → HasPlace vs m → v ≡ get_or vs (m - 1) v → us ≡ slice_set vs (m - 1) u
    → IfOk r (λ o. HasSetUp o last v u next) → IfOk r (λ o. HasSetUpAt m o last vs us next)
set_up_at (Ok o) m last next vs us v u p at put s = record { node = u; put = put; by = subst (λ t. HasSetUp o last t u next) (sym (placed vs m v p.0 p.1 at)) s }
set_up_at (Err e) m last next vs us v u p at put s = tt

-- it stood
pub candidate_stands : (G : Setting) (vs us : List Stored) (q r : List SentPacket) (c g : ℕ) (o : Option (Vec SentPacket Global)) (ps : Vec SentPacket Global) (was master : Option ℕ) (last next : Option (List (ℕ × Event))) → Best G.nodes (votes vs) c g → HasPlace vs c → q ≡ [] → HasStoodAt g c o last vs us next
    → o ≡ Some ps → r ≡ q ++ ps.items → master ≡ None → HasCandidate G c true last vs was us r master next
candidate_stands G vs us q r c g o ps was master last next best place none s is behind unled = record {
  stood = stands_so G vs us q r ps.items c g s.node best place s.put by.0 by.1 none behind;
  turns = takes_at vs us c s.node last next place s.put s.by.turn;
  unled = λ e. unled;
  book = keeps_none vs us was master unled;
}
  where
    by : IsStoodBy g (Some ps) (node_at vs c) s.node
    by = subst (λ t. IsStoodBy g t (node_at vs c) s.node) is s.by.stood

-- its store failed
pub candidate_falls : (G : Setting) (vs us : List Stored) (q r : List SentPacket) (c g : ℕ) (o : Option (Vec SentPacket Global)) (was master : Option ℕ) (last next : Option (List (ℕ × Event))) → Best G.nodes (votes vs) c g → HasPlace vs c → PassAll vs us → q ≡ [] → HasStoodAt g c o last vs us next
    → o ≡ None → r ≡ q → IsOther was c master → HasCandidate G c false last vs was us r master next
candidate_falls G vs us q r c g o was master last next best place passed none s is same other = record {
  stood = (same ∙ none, fell_so vs us c s.node passed best.up place s.put (subst (λ t. IsStoodBy g t (node_at vs c) s.node) is s.by.stood));
  turns = takes_at vs us c s.node last next place s.put s.by.turn;
  unled = λ e. absurd (let x : false ≡ true = e in cc);
  book = book_stays vs us c s.node was master place.0 s.put other;
}

pub others_after : (G : Setting) (vs us : List Stored) (q r : List SentPacket) (c g : ℕ) (o : Option (Vec SentPacket Global)) (was master : Option ℕ) (last next : Option (List (ℕ × Event))) → IsCluster G vs q was → PassAll vs us → HasPlace vs c → HasStoodAt g c o last vs us next → o ≡ None
    → r ≡ q → IsOther was c master → IsAfter G vs us r master
others_after G vs us q r c g o was master last next k passed place s is same other = record {
  cluster = others_lead G vs us q r c s.node was master k passed place s.put (subst (λ t. IsStoodBy g t (node_at vs c) s.node) is s.by.stood) same other;
  passed = passed;
}

-- its packets were delivered
pub polled_after : (G : Setting) (vs us : List Stored) (q r : List SentPacket) (c : ℕ) (u : NodeVote) (was master : Option ℕ) (last next : Option (List (ℕ × Event))) → IsCluster G vs q was → IsStanding G vs q c → PassAll vs us → HasRun vs q last us next → r ≡ []
    → u ≡ votes us c → IsIfLeading u c master → IsAfter G vs us r master
polled_after G vs us q r c u was master last next k s p run none at leads = record { cluster = polled_so G vs us q r c u was master k p s run.run none at leads; passed = p }

unled_false : (u : NodeVote) (c : ℕ) (master : Option ℕ) → IsIfLeading u c master → u.up ≡ false → master ≡ None
unled_false u c master (inl t) down = absurd (let x : u.up ≡ true = t.0 in cc)
unled_false u c master (inr t) down = t.1

pub has_polled : (G : Setting) (vs us : List Stored) (q r : List SentPacket) (c : ℕ) (u : NodeVote) (was master : Option ℕ) (last next : Option (List (ℕ × Event))) → IsCluster G vs q was → IsStanding G vs q c → PassAll vs us → HasRun vs q last us next → r ≡ []
    → u ≡ votes us c → IsIfLeading u c master → HasPolled G u.up last vs us r master next
has_polled G vs us q r c u was master last next k s p run none at leads = record {
  none = none;
  turns = run.turns;
  decided = decided_so G vs us q c u master u.up k.nodes p s run.run at leads refl;
  unled = λ down. unled_false u c master leads down;
  untold = polled_anew G vs us q c u master s run.reigns at leads;
}

-- a leader's setup is under way
pub setup_after : (G : Setting) (vs us : List Stored) (q r : List SentPacket) (m : ℕ) (o : Option (Vec SentPacket Global)) (ps : Vec SentPacket Global) (was master : Option ℕ) (last next : Option (List (ℕ × Event))) → IsCluster G vs q was → PassAll vs us → was ≡ Some m → (votes vs m).length ≡ 0 → q ≡ []
    → HasSetUpAt m o last vs us next → o ≡ Some ps → r ≡ q ++ ps.items → master ≡ Some m → IsAfter G vs us r master
setup_after G vs us q r m o ps was master last next k passed is empty none s sent behind to = record {
  cluster = (set_up_so G vs us q r ps.items m s.node was master k passed is empty (led_place G vs q was m k is) s.put by.0 by.1 none behind to).0;
  passed = passed;
}
  where
    by : IsSetUpBy (Some ps) (node_at vs m) s.node
    by = subst (λ t. IsSetUpBy t (node_at vs m) s.node) sent s.by.set_up

pub setup_ships : (G : Setting) (vs us : List Stored) (q r : List SentPacket) (m : ℕ) (o : Option (Vec SentPacket Global)) (ps : Vec SentPacket Global) (was master : Option ℕ) (last next : Option (List (ℕ × Event))) → IsCluster G vs q was → PassAll vs us → was ≡ Some m → (votes vs m).length ≡ 0 → q ≡ []
    → HasSetUpAt m o last vs us next → o ≡ Some ps → r ≡ q ++ ps.items → master ≡ Some m → HasShippedSetup m true last vs us r master next
setup_ships G vs us q r m o ps was master last next k passed is empty none s sent behind to = record {
  shipped = (set_up_so G vs us q r ps.items m s.node was master k passed is empty place s.put by.0 by.1 none behind to).1;
  turns = takes_at vs us m s.node last next place s.put s.by.turn;
  reigns = reigns_at vs us m s.node place s.put s.by.reigns;
  unled = λ e. absurd (let x : true ≡ false = e in cc);
}
  where
    place : HasPlace vs m
    place = led_place G vs q was m k is

    by : IsSetUpBy (Some ps) (node_at vs m) s.node
    by = subst (λ t. IsSetUpBy t (node_at vs m) s.node) sent s.by.set_up

-- or its store failed
pub setup_falls : (G : Setting) (vs us : List Stored) (q r : List SentPacket) (m : ℕ) (o : Option (Vec SentPacket Global)) (was master : Option ℕ) (last next : Option (List (ℕ × Event))) → IsCluster G vs q was → PassAll vs us → was ≡ Some m → q ≡ [] → HasSetUpAt m o last vs us next → o ≡ None
    → r ≡ q → master ≡ None → HasShippedSetup m false last vs us r master next
setup_falls G vs us q r m o was master last next k passed is none s fell same unled = record {
  shipped = (same ∙ none, fell_so vs us m s.node passed (led_up G vs q was m k is).0 place s.put (subst (λ t. IsSetUpBy t (node_at vs m) s.node) fell s.by.set_up));
  turns = takes_at vs us m s.node last next place s.put s.by.turn;
  reigns = reigns_at vs us m s.node place s.put s.by.reigns;
  unled = λ e. unled;
}
  where
    place : HasPlace vs m
    place = led_place G vs q was m k is

-- nothing was to be set up
pub log_as_is : (G : Setting) (vs : List Stored) (q : List SentPacket) (master : Option ℕ) (last : Option (List (ℕ × Event))) → q ≡ [] → HasLog G true last vs master vs q master last
log_as_is G vs q master last none = record { none = none; turns = no_turns vs vs last last refl refl; kept = λ many alone. alone; untold = λ k. k }

pub log_is_lost : (G : Setting) (vs us : List Stored) (q : List SentPacket) (m : ℕ) (b : Bool) (was master : Option ℕ) (last next : Option (List (ℕ × Event))) → HasShippedSetup m b last vs us q master next → b ≡ false → HasLog G false last vs was us q master next
log_is_lost G vs us q m b was master last next s is = record {
  none = lost.0;
  turns = s.turns;
  kept = lost.1;
  untold = λ k. untold_none us master (s.unled is);
}
  where
    lost : (q ≡ []) × (up_count us < up_count vs)
    lost = subst (λ t. IsSetUp vs us q master m t) is s.shipped

pub log_is_taken : (G : Setting) (vs us ws : List Stored) (q r : List SentPacket) (m : ℕ) (a b : Bool) (was mid master : Option ℕ) (last told next : Option (List (ℕ × Event))) → was ≡ Some m → HasShippedSetup m a last vs us q mid told → a ≡ true → IsAfter G vs us q mid → IsAfter G us ws r master → HasRun us q told ws next
    → r ≡ [] → IsStill ws mid master → b ≡ (votes ws m).up → HasLog G b last vs was ws r master next
log_is_taken G vs us ws q r m a b was mid master last told next is s shipped before later run none still up = record {
  none = none;
  turns = turns_then vs us ws last told next s.turns run.turns;
  kept = shipped_so G vs us ws q m was mid master b is before.passed later.passed before.cluster by run.run still up;
  untold = λ k. untold_then G vs us ws r was mid master m later.passed is by.0 s.reigns run.reigns later.cluster still k;
}
  where
    by : (mid ≡ Some m) × (IsAlone vs mid → IsAlone us mid)
    by = subst (λ t. IsSetUp vs us q mid m t) shipped s.shipped

-- an election is lost, or won
pub election_is_lost : (G : Setting) (vs us : List Stored) (q : List SentPacket) (b : Bool) (master : Option ℕ) (ledger : Book) (last next : Option (List (ℕ × Event))) → HasPolled G b last vs us q master next → b ≡ false → HasElected G false last vs us q master ledger next
election_is_lost G vs us q b master ledger last next p is = record {
  none = p.none;
  turns = p.turns;
  decided = subst (λ t. IsDecided G vs us master t) is p.decided;
  book = no_book us master ledger (p.unled is);
}

pub election_is_won : (G : Setting) (vs us ws : List Stored) (q r : List SentPacket) (a b : Bool) (was master : Option ℕ) (ledger : Book) (last told next : Option (List (ℕ × Event))) → HasPolled G a last vs us q was told → a ≡ true → IsAfter G vs us q was → IsAfter G us ws r master
    → HasLog G b told us was ws r master next → IsMastersBook ws master ledger → HasElected G b last vs ws r master ledger next
election_is_won G vs us ws q r a b was master ledger last told next p is x y l book = record {
  none = l.none;
  turns = turns_then vs us ws last told next p.turns l.turns;
  decided = decided_then G vs us ws was master b x.passed y.passed (subst (λ t. IsDecided G vs us was t) is p.decided) l.kept;
  book = book;
}

pub told_nothing : (G : Setting) (vs us ws : List Stored) (q r : List SentPacket) (a b : Bool) (was master : Option ℕ) (last told next : Option (List (ℕ × Event))) → HasPolled G a last vs us q was told → HasLog G b told us was ws r master next → IsUntold ws master
told_nothing G vs us ws q r a b was master last told next p l = l.untold p.untold

-- nobody stood; or the candidate's election is that of all
pub nobody_stood : (G : Setting) (vs us : List Stored) (q : List SentPacket) (c : ℕ) (b : Bool) (was master : Option ℕ) (ledger now : Book) (last next : Option (List (ℕ × Event))) → HasCandidate G c b last vs was us q master next → b ≡ false → IsMastersBook vs was ledger → now ≡ ledger → HasElected G false last vs us q master now next
nobody_stood G vs us q c b was master ledger now last next s is book same = record {
  none = fell.0;
  turns = s.turns;
  decided = fell.1;
  book = subst (λ k. IsMastersBook us master k) (sym same) (s.book ledger book);
}
  where
    fell : (q ≡ []) × (up_count us < up_count vs)
    fell = subst (λ t. IsStood G vs us q c t) is s.stood

pub is_standing : (G : Setting) (vs us : List Stored) (q : List SentPacket) (c : ℕ) (b : Bool) (was master : Option ℕ) (last next : Option (List (ℕ × Event))) → HasCandidate G c b last vs was us q master next → b ≡ true → IsStanding G us q c
is_standing G vs us q c b was master last next s is = subst (λ t. IsStood G vs us q c t) is s.stood

decided_later : (G : Setting) (vs us ws : List Stored) (master : Option ℕ) (b : Bool) → PassAll vs us → IsDecided G us ws master b → IsDecided G vs ws master b
decided_later G vs us ws master true p d = d
decided_later G vs us ws master false p d = lost_later vs us ws p d

pub one_stood : {E : Type 0} (o : Result Bool E) (G : Setting) (vs us ws : List Stored) (q r : List SentPacket) (c : ℕ) (b : Bool) (was mid master : Option ℕ) (ledger : Book) (last told next : Option (List (ℕ × Event))) → HasCandidate G c b last vs was us q mid told → IsAfter G vs us q mid
    → IfOk o (λ x. HasElected G x told us ws r master ledger next) → IfOk o (λ x. HasElected G x last vs ws r master ledger next)
one_stood (Ok x) G vs us ws q r c b was mid master ledger last told next s a e = record {
  none = e.none;
  turns = turns_then vs us ws last told next s.turns e.turns;
  decided = decided_later G vs us ws master x a.passed e.decided;
  book = e.book;
}
one_stood (Err x) G vs us ws q r c b was mid master ledger last told next s a e = tt

-- the loop of choices
pub choosing_begins : (G : Setting) (vs : List Stored) (q : List SentPacket) (master : Option ℕ) (b : Book) (last : Option (List (ℕ × Event))) → IsCluster G vs q master → q ≡ [] → IsMastersBook vs master b → IsChoosing G vs last vs q master b last
choosing_begins G vs q master b last c e k = record { cluster = c; none = e; book = k; passed = all_pass_themselves vs; turns = no_turns vs vs last last refl refl }

pub choosing_goes_on : (G : Setting) (vs us ws : List Stored) (q r : List SentPacket) (was master : Option ℕ) (b d : Book) (x : Bool) (last mid next : Option (List (ℕ × Event))) → IsChoosing G vs last us q was b mid → IsAfter G us ws r master → HasElected G x mid us ws r master d next → IsChoosing G vs last ws r master d next
choosing_goes_on G vs us ws q r was master b d x last mid next old a e = record { cluster = a.cluster; none = e.none; book = e.book; passed = all_pass_then vs us ws old.passed a.passed; turns = turns_then vs us ws last mid next old.turns e.turns }

pub fewer_are_up : (G : Setting) (vs us : List Stored) (q : List SentPacket) (master : Option ℕ) (b : Book) (x : Bool) (last next : Option (List (ℕ × Event))) → HasElected G x last vs us q master b next → x ≡ false → up_count us < up_count vs
fewer_are_up G vs us q master b x last next e is = subst (λ t. IsDecided G vs us master t) is e.decided

pub choosing_after : (G : Setting) (vs us : List Stored) (q : List SentPacket) (master : Option ℕ) (b : Book) (last next : Option (List (ℕ × Event))) → IsChoosing G vs last us q master b next → IsAfter G vs us q master
choosing_after G vs us q master b last next c = record { cluster = c.cluster; passed = c.passed }

pub choosing_then : (G : Setting) (vs us ws : List Stored) (q r : List SentPacket) (was master : Option ℕ) (b : Book) (last mid : Option (List (ℕ × Event))) → IsChoosing G vs last us q was b mid → IsAfter G us ws r master → IsAfter G vs ws r master
choosing_then G vs us ws q r was master b last mid c a = record { cluster = a.cluster; passed = all_pass_then vs us ws c.passed a.passed }

pub chosen_by_election : (G : Setting) (vs us ws : List Stored) (q r : List SentPacket) (was master : Option ℕ) (b d : Book) (x : Bool) (last mid next : Option (List (ℕ × Event))) → IsChoosing G vs last us q was b mid → IsAfter G us ws r master → HasElected G x mid us ws r master d next → x ≡ true → HasChosen G vs last ws r master d next
chosen_by_election G vs us ws q r was master b d x last mid next old a e is = record {
  none = e.none;
  turns = turns_then vs us ws last mid next old.turns e.turns;
  book = e.book;
  quiet = λ many. quiet_so G ws r master a.cluster e.none (subst (λ t. IsDecided G us ws master t) is e.decided many) many;
}

pub chosen_already : (G : Setting) (vs us : List Stored) (q : List SentPacket) (master : Option ℕ) (b : Book) (last next : Option (List (ℕ × Event))) → IsChoosing G vs last us q master b next → (HasMajority G us → IsAlone us master) → HasChosen G vs last us q master b next
chosen_already G vs us q master b last next c alone = record { none = c.none; turns = c.turns; book = c.book; quiet = λ many. quiet_so G us q master c.cluster c.none (alone many) many }

pub chosen_first : (G : Setting) (vs : List Stored) (q : List SentPacket) (master : Option ℕ) (b : Book) (last : Option (List (ℕ × Event))) → IsCluster G vs q master → q ≡ [] → IsMastersBook vs master b → (HasMajority G vs → IsAlone vs master) → HasChosen G vs last vs q master b last
chosen_first G vs q master b last c e k alone = chosen_already G vs vs q master b last last (choosing_begins G vs q master b last c e k) alone

pub sized_so : (G : Setting) (vs us : List Stored) (q : List SentPacket) (master : Option ℕ) (b : Book) (last next : Option (List (ℕ × Event))) → IsChoosing G vs last us q master b next → length us ≡ G.nodes
sized_so G vs us q master b last next c = c.cluster.nodes.size
