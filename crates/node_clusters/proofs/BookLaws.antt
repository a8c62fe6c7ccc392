-- The ledger of who leads, while packets are delivered.
use Rattle.std.proofs.Common.{ℕ, ◌≡◌, ◌-◌, ◌<◌, List, [], get_or, slice_set, arith, sym, subst, ap, ◌∙◌}
use Rattle.std.specs.Prelude.{true, false, Option, None, Some}
use mathlib.Core.Logic.{◌⊎◌, inl, inr}
use Rattle.blkseq_table.specs.OfLogs.{identities_of}
use Rattle.cluster_events.specs.Settings.{Setting}
use Rattle.cluster_steps.specs.declared.events.Event.{Event}
use Rattle.election_core.specs.declared.votes.NodeVote.{NodeVote}
use Rattle.node_commits.specs.Ledgers.{Book, IsBookOf}
use Rattle.node_clusters.proofs.ReignLaws.{all_reign_then, told_did}
use Rattle.node_clusters.proofs.PlaceLaws.{place_other, place_self, placed}
use Rattle.node_clusters.specs.Changes.{KnowsMoreAt}
use Rattle.node_clusters.specs.Clusters.{HasPlace, IsCluster, IsOther, IsStill}
use Rattle.node_clusters.specs.Elections.{IsIfLeading, IsStanding}
use Rattle.node_clusters.specs.Numbers.{numbers}
use Rattle.node_clusters.specs.Passes.{PassAll}
use Rattle.node_clusters.specs.Places.{node_at, votes}
use Rattle.node_clusters.specs.Reigns.{AllReign, IsMastersBook, IsUntold, KeepsBook, LeadsAnew, LeadsOn, Reigns, told_at}
use Rattle.node_clusters.specs.UnderWay.{HasRun}
use Rattle.node_state.specs.Calls.{IsAsBefore}
use Rattle.node_state.specs.Packets.{SentPacket}
use Rattle.node_state.specs.Stores.{Stored, held_of}
use Rattle.quiet_cluster.proofs.Runs.{run_kept}
use Rattle.quiet_cluster.specs.Deliveries.{Run}
use Rattle.quiet_cluster.specs.Led.{Led}

-- nobody is known to lead
pub no_book : (vs : List Stored) (master : Option ℕ) (b : Book) → master ≡ None → IsMastersBook vs master b
no_book vs master b e = subst (λ z. IsMastersBook vs z b) (sym e) tt

pub keeps_none : (vs us : List Stored) (was master : Option ℕ) → master ≡ None → KeepsBook vs was us master
keeps_none vs us was master e = λ b k. no_book us master b e

pub untold_none : (vs : List Stored) (master : Option ℕ) → master ≡ None → IsUntold vs master
untold_none vs master e = subst (λ z. IsUntold vs z) (sym e) tt

-- who led and leads on, with the log that it had, has the same book
same_book : (v u : Stored) (b : Book) → Reigns v u → u.vote.leading ≡ true → u.vote.accepted ≡ v.vote.accepted → u.vote.length ≡ v.vote.length → IsBookOf b (held_of v) → IsBookOf b (held_of u)
same_book v u b r on same long k = record { known = k.known ∙ ap identities_of (sym ((r.log same).same long)); told = k.told ∙ sym (go (r.leads on)) }
  where
    go : LeadsOn v u ⊎ LeadsAnew v u → told_at u ≡ told_at v
    go (inl t) = t.told
    go (inr t) = absurd (let x : v.vote.accepted < u.vote.accepted = t.above in omega arith)

-- a queue was run empty
book_runs : (G : Setting) (vs us : List Stored) (q : List SentPacket) (was master : Option ℕ) (b : Book) → IsCluster G vs q was → AllReign vs us → Run (votes vs) (numbers q) (votes us) → IsStill us was master → IsMastersBook vs was b → IsMastersBook us master b
book_runs G vs us q None master b c r run still k = subst (λ z. IsMastersBook us z b) (sym still) tt
book_runs G vs us q (Some m) master b c r run (inr t) k = subst (λ z. IsMastersBook us z b) (sym t.1) tt
book_runs G vs us q (Some m) master b c r run (inl t) k = subst (λ z. IsMastersBook us z b) (sym t.1) (same_book (node_at vs m) (node_at us m) b (r.each m t.0) led.leads.leading led.leads.accepted led.leads.long k)
  where
    led : Led G.nodes (votes us) [] m (votes vs m).accepted (votes vs m).length
    led = run_kept G.nodes m (votes vs m).accepted (votes vs m).length c.led run t.0

pub keeps_running : (G : Setting) (vs us : List Stored) (q : List SentPacket) (was master : Option ℕ) (last next : Option (List (ℕ × Event))) → IsCluster G vs q was → HasRun vs q last us next → IsStill us was master → KeepsBook vs was us master
keeps_running G vs us q was master last next c run still = λ b k. book_runs G vs us q was master b c run.reigns run.run still k

-- an election was run to its end: who leads told nothing since
told_anew : (v u : Stored) → Reigns v u → v.vote.leading ≡ false → u.vote.leading ≡ true → told_at u ≡ []
told_anew v u r off on = go (r.leads on)
  where
    go : LeadsOn v u ⊎ LeadsAnew v u → told_at u ≡ []
    go (inl t) = absurd (let x : v.vote.leading ≡ true = t.leading in cc)
    go (inr t) = t.none

pub polled_anew : (G : Setting) (vs us : List Stored) (q : List SentPacket) (c : ℕ) (u : NodeVote) (master : Option ℕ) → IsStanding G vs q c → AllReign vs us → u ≡ votes us c → IsIfLeading u c master → IsUntold us master
polled_anew G vs us q c u master s r at (inr t) = untold_none us master t.1
polled_anew G vs us q c u master s r at (inl t) = subst (λ z. IsUntold us z) (sym t.2) (told_anew (node_at vs c) (node_at us c) (r.each c (ap (λ (w : NodeVote). w.up) (sym at) ∙ t.0)) s.polled.stands.follows on)
  where
    on : (votes us c).leading ≡ true
    on = ap (λ (w : NodeVote). w.leading) (sym at) ∙ t.1

-- and tells nothing in a setup
still_none : (v u : Stored) → Reigns v u → u.vote.leading ≡ true → told_at v ≡ [] → told_at u ≡ []
still_none v u r on none = go (r.leads on)
  where
    go : LeadsOn v u ⊎ LeadsAnew v u → told_at u ≡ []
    go (inl t) = t.told ∙ none
    go (inr t) = t.none

none_then : (G : Setting) (vs us : List Stored) (q : List SentPacket) (was master : Option ℕ) (m : ℕ) → was ≡ Some m → IsCluster G us q master → (master ≡ None) ⊎ (master ≡ Some m) → AllReign vs us → IsUntold vs was → IsUntold us master
none_then G vs us q was master m is c (inl e) r none = untold_none us master e
none_then G vs us q was master m is c (inr e) r none =
    let k : IsCluster G us q (Some m) = subst (λ z. IsCluster G us q z) e c in
    let before : told_at (node_at vs m) ≡ [] = subst (λ z. IsUntold vs z) is none in
    subst (λ z. IsUntold us z) (sym e) (still_none (node_at vs m) (node_at us m) (r.each m k.led.leads.up) k.led.leads.leading before)

pub untold_then : (G : Setting) (vs us ws : List Stored) (q : List SentPacket) (was mid master : Option ℕ) (m : ℕ) → PassAll us ws → was ≡ Some m → mid ≡ Some m → AllReign vs us → AllReign us ws → IsCluster G ws q master → IsStill ws mid master → IsUntold vs was → IsUntold ws master
untold_then G vs us ws q was mid master m p is there a b c still k = none_then G vs ws q was master m is c (either (subst (λ z. IsStill ws z master) there still)) (all_reign_then vs us ws p a b) k
  where
    either : IsStill ws (Some m) master → (master ≡ None) ⊎ (master ≡ Some m)
    either (inl t) = inr t.1
    either (inr t) = inl t.1

-- a book is opened
pub opens_book : (vs : List Stored) (master : Option ℕ) (m : ℕ) (v : Stored) (b : Book) → master ≡ Some m → HasPlace vs m → v ≡ get_or vs (m - 1) v → IsUntold vs master → b.known ≡ identities_of v.entries → b.told ≡ [] → IsMastersBook vs master b
opens_book vs master m v b is place at none known told = subst (λ z. IsMastersBook vs z b) (sym is) there
  where
    untold : told_at (node_at vs m) ≡ []
    untold = subst (λ z. IsUntold vs z) is none

    there : IsBookOf b (held_of (node_at vs m))
    there = record { known = known ∙ ap (λ (t : Stored). identities_of t.entries) (sym (placed vs m v place.0 place.1 at)); told = told ∙ sym untold }

-- another node changed
pub book_stays : (vs us : List Stored) (c : ℕ) (u : Stored) (was master : Option ℕ) → 0 < c → us ≡ slice_set vs (c - 1) u → IsOther was c master → KeepsBook vs was us master
book_stays vs us c u None master low put other = λ b k. no_book us master b other
book_stays vs us c u (Some m) master low put (inr t) = λ b k. no_book us master b t.1
book_stays vs us c u (Some m) master low put (inl t) = λ b k.
    subst (λ z. IsMastersBook us z b) (sym t.1) (subst (λ (n : Stored). IsBookOf b (held_of n)) (sym (ap (λ l. node_at l m) put ∙ place_other vs c u m low t.0)) k)

pub book_alone : (vs : List Stored) (c : ℕ) (was master : Option ℕ) → IsOther was c master → KeepsBook vs was vs master
book_alone vs c None master other = λ b k. no_book vs master b other
book_alone vs c (Some m) master (inr t) = λ b k. no_book vs master b t.1
book_alone vs c (Some m) master (inl t) = λ b k. subst (λ z. IsMastersBook vs z b) (sym t.1) k

-- the leader knows more
book_heard : (v u : Stored) (b : Book) → IsAsBefore (held_of v) (held_of u) → IsBookOf b (held_of v) → IsBookOf b (held_of u)
book_heard v u b s k = record { known = k.known ∙ ap identities_of (sym s.entries); told = k.told ∙ sym (told_did [] v u s.did) }

pub book_joined : (vs us : List Stored) (m : ℕ) (was master : Option ℕ) → HasPlace vs m → KnowsMoreAt m vs us → was ≡ Some m → master ≡ Some m → KeepsBook vs was us master
book_joined vs us m was master place x is to = λ b k. subst (λ z. IsMastersBook us z b) (sym to) (there b (subst (λ z. IsMastersBook vs z b) is k))
  where
    there : (b : Book) → IsBookOf b (held_of (node_at vs m)) → IsBookOf b (held_of (node_at us m))
    there b k = subst (λ (t : Stored). IsBookOf b (held_of t)) (sym (ap (λ l. node_at l m) x.put ∙ place_self vs m x.node place.0 place.1)) (book_heard (node_at vs m) x.node b x.same k)
