-- Each entry beyond the base was told.
use Rattle.std.proofs.Common.{◌≡◌, ℕ, ◌+◌, ◌<◌, ◌≤◌, List, [], ◌∷◌, ◌++◌, length, arith, refl, ap, sym, subst, ◌∙◌, length-append}
use Rattle.std.specs.Prelude.{Some}
use mathlib.Core.Logic.{◌⊎◌, inl, inr}
use Rattle.core_lists.specs.Lists.{In}
use Rattle.core_lists.specs.Fronts.{Front}
use Rattle.core_lists.proofs.Fronts.{front_trans, front_append, front_shorter}
use Rattle.core_lists.proofs.Numbers.{lt_or_le}
use Rattle.cluster_consensus.specs.Facts.{Claim}
use Rattle.cluster_consensus.specs.Durable.{DurableIn}
use Rattle.cluster_masters.specs.FirstMaster.{IsFirstMaster}
use Rattle.cluster_masters.specs.Reported.{IsReported}
use Rattle.cluster_requests.specs.Identities.{Lacks}
use Rattle.cluster_requests.specs.Requests.{Sent}
use Rattle.cluster_requests.proofs.Settled.{settled_out}
use Rattle.phys_log.specs.declared.entries.CommitId.{CommitId}
use Rattle.cluster_requests.specs.KeptEntries.{KeptEntry}
use Rattle.cdb_values.specs.Rows.{Rows}
use Rattle.report_laws.specs.Told.{told, Numbered, numbered, IsToCommit}
use Rattle.report_laws.specs.Work.{Transaction, WorkItem, Does, End, Nowhere}
use Rattle.cdb_values.specs.declared.replies.Reply.{Reply}
use Rattle.cdb_values.specs.declared.replies.Reply.TheVariants as reply
use Rattle.cluster_events.specs.Settings.{Setting, work_of, kept_rows_at, run_alone}
use Rattle.cluster_events.specs.Parts.{ActorEvent, part, acts, field, lines}
use Rattle.cluster_events.specs.Guards.{IsRefused, IsLegalHistory, AreNamedApart, Rising, IsDone}
use Rattle.cluster_consensus.proofs.FactSteps.{holds}
use Rattle.cluster_masters.proofs.MasterLaws.{reported_has}
use Rattle.node_reports.specs.Told.{MayEnd}
use Rattle.cluster_events.proofs.OwnLines.{knows}
use Rattle.cluster_events.proofs.HistoryLaws.{good_of, all_may}
use Rattle.cluster_answers.proofs.EntryLaws.{same_rows, part_whole, sends_ok}
use Rattle.cluster_answers.specs.Entries.{Appended}
use Rattle.cluster_answers.proofs.NumberLaws.{rising_once}
use Rattle.cluster_answers.proofs.OutcomeLaws.{same_txn}
use Rattle.cluster_answers.proofs.ToldLaws.{does_eq}
use Rattle.cluster_reports.proofs.BeyondLaws.{reported_in}
use Rattle.cluster_reports.proofs.SendLaws.{LiveIn, ClosedIn, Judged, Stood, states, in_front}

none_does : {A : Type 0} {t : Transaction} {xs : List WorkItem} → [] ≡ Does t ∷ xs → A
none_does e = absurd (cc)

no_open_end : {end : End} → IsToCommit end → end ≡ Nowhere → ⊥
no_open_end k e = subst (λ z. IsToCommit z) e k

not_live : (G : Setting) → AreNamedApart G → (h : List (ℕ × ActorEvent)) (x : Sent) → ((s : ℕ) → Rising 0 (work_of G s)) → IsLegalHistory G h → In x (field h).sends → IsDone G h x.by → LiveIn G (field h) (part G x.by h) x → ⊥
not_live G far h x rising legal m (inl e) k = none_does (sym e ∙ k.at.is)
not_live G far h x rising legal m (inr d) k =
    let q = ((sends_ok G h legal).at x m).request in
    let u = same_txn G far h x.by (rising x.by) k.txn k.opened k.at _ x k.id' q in
    no_open_end q.commits (ap (λ (z : Transaction). z.end) (u ∙ does_eq (sym k.at.is ∙ d.1)) ∙ d.2)

-- a refused transaction has no entry in the reported log
refused_out : (G : Setting) (h : List (ℕ × ActorEvent)) → IsLegalHistory G h → (r m : ℕ) (a : Claim KeptEntry) → IsReported G.nodes (field h).core r → IsFirstMaster G.nodes (field h).core m a → (id : CommitId) (k : ℕ) (why : Reply) → IsRefused (field h) id k why → Lacks id ((field h).core.nodes r).log
refused_out G h legal r m a top first id k why z xs e p same =
    let inv = (good_of G h legal).inv in
    let d = z.durable in
    let dur = subst (λ g. DurableIn G.nodes (field h).core g d.it.log) d.is.0 ((inv.refs z.node).durables.at d.it d.mem) in
    let base = reported_in inv r top m a first.mem first.durable a.gen a.log first.durable in
    let low = reported_in inv r top m a first.mem first.durable z.settled.gen d.it.log dur in
    let c = holds inv r m a first.mem base in
    let cg : c.it.gen ≡ ((field h).core.nodes r).accepted = c.is.0 in
    settled_out G.nodes (acts h) (all_may G h legal) z.settled z.mem (record { at = λ s n q. z.last.at s n (q ∙ z.its_id) }) d.it.log dur r c.it c.mem (omega arith) xs e (subst (λ t. Front (xs ++ e ∷ []) t) (sym c.is.1) p) (same ∙ ap (λ t. Some t) (sym z.its_id))

-- one transaction, one position
one_place : (n k : ℕ) → (n < k → ⊥) → (k < n → ⊥) → k ≡ n
one_place n k a b = go (lt_or_le n k) (lt_or_le k n)
  where
    go : (n < k) ⊎ (k ≤ n) → (k < n) ⊎ (n ≤ k) → k ≡ n
    go (inl l) q = absurd (a l)
    go (inr l) (inl q) = absurd (b q)
    go (inr l) (inr q) = omega arith

stood_at : (G : Setting) (h : List (ℕ × ActorEvent)) (R xs : List KeptEntry) (e : KeptEntry) (x : Appended G h xs e) → Front (xs ++ e ∷ []) R → (k : ℕ) (s : Stood G h x.sent.id k) → Front (s.before ++ s.entry ∷ []) R → k ≡ length xs + 1
stood_at G h R xs e x p k s q =
    let a = length-append xs (e ∷ []) in
    let b = length-append s.before (s.entry ∷ []) in
    let same = one_place (length xs) (length s.before)
    (λ lt. s.appended.lacks xs e (front_shorter p (front_trans (front_append s.before (s.entry ∷ [])) q) (omega arith)) (x.its_id ∙ (sym s.its_id ∙ s.appended.its_id)))
    (λ lt. x.lacks s.before s.entry (front_shorter q (front_trans (front_append xs (e ∷ [])) p) (omega arith)) s.its_id) in
    let pos : k ≡ length s.before + 1 = s.position in
    omega arith

ends_at : (G : Setting) (h : List (ℕ × ActorEvent)) → IsLegalHistory G h → (r m : ℕ) (a : Claim KeptEntry) → IsReported G.nodes (field h).core r → IsFirstMaster G.nodes (field h).core m a → (xs : List KeptEntry) (e : KeptEntry) (x : Appended G h xs e) → Front (xs ++ e ∷ []) ((field h).core.nodes r).log → (end : End) → IsToCommit end → (o : Reply) → Judged G h x.sent.id o → MayEnd (length xs + 1) end o
ends_at G h legal r m a top first xs e x p end to (reply.Committed k) s = inl (stood_at G h ((field h).core.nodes r).log xs e x p k s (reported_has (good_of G h legal).inv r top s.durable.0 (s.before ++ s.entry ∷ []) s.durable.1))
ends_at G h legal r m a top first xs e x p end to (reply.ConflictGenid k i g) z = absurd (refused_out G h legal r m a top first x.sent.id k (reply.ConflictGenid k i g) z xs e p x.its_id)
ends_at G h legal r m a top first xs e x p end to (reply.ConflictRange k i g) z = absurd (refused_out G h legal r m a top first x.sent.id k (reply.ConflictRange k i g) z xs e p x.its_id)
ends_at G h legal r m a top first xs e x p end to (reply.Duplicate k i g) z = absurd (refused_out G h legal r m a top first x.sent.id k (reply.Duplicate k i g) z xs e p x.its_id)
ends_at G h legal r m a top first xs e x p end to (reply.Lost n d) z = inr (refl, to)
ends_at G h legal r m a top first xs e x p end to (reply.NoMajority u n) z = inr (refl, to)
ends_at G h legal r m a top first xs e x p end to reply.NoMemory z = inr (refl, to)
ends_at G h legal r m a top first xs e x p end to _ z = absurd z

-- what a transaction of an entry was told
pub record ToldOf (G : Setting) (h : List (ℕ × ActorEvent)) (R : List KeptEntry) (x : Sent) (k : ℕ) : Type 0 where
  pub txn : Transaction
  pub in_work : In (Does txn) (work_of G x.by)
  pub number : x.id.txn ≡ txn.number
  pub outcome : Reply
  pub ends : MayEnd k txn.end outcome
  pub front : List Numbered
  pub back : List Numbered
  pub says : told (G.names x.by) (lines G h) ≡ front ++ (numbered txn.number (reply.Begin x.begin ∷ ((run_alone G (kept_rows_at G R x.begin) txn).replies ++ outcome ∷ [])) ++ back)

pub entries_told : (G : Setting) → AreNamedApart G → (h : List (ℕ × ActorEvent)) (r m : ℕ) (a : Claim KeptEntry) → ((s : ℕ) → Rising 0 (work_of G s)) → IsLegalHistory G h → ((s : ℕ) → IsDone G h s) → IsReported G.nodes (field h).core r → IsFirstMaster G.nodes (field h).core m a
    → (xs : List KeptEntry) (e : KeptEntry) → Front (xs ++ e ∷ []) ((field h).core.nodes r).log → (x : Appended G h xs e) → ToldOf G h ((field h).core.nodes r).log x.sent (length xs + 1)
entries_told G far h r m a rising legal done top first xs e p x = go ((states G far h rising legal).at x.sent x.mem)
  where
    R : List KeptEntry
    R = ((field h).core.nodes r).log

    go : LiveIn G (field h) (part G x.sent.by h) x.sent ⊎ ClosedIn G h (part G x.sent.by h) x.sent → ToldOf G h ((field h).core.nodes r).log x.sent (length xs + 1)
    go (inl k) = absurd (not_live G far h x.sent rising legal x.mem (done x.sent.by) k)
    go (inr c) =
        let f = reported_has (good_of G h legal).inv r top c.durable.0 c.log c.durable.1 in
        let q = ((sends_ok G h legal).at x.sent x.mem).request in
        let work = subst (λ z. In (Does c.txn) z) (part_whole G x.sent.by h) (in_front (part G x.sent.by h).over (part G x.sent.by h).left c.over) in
        let u : q.txn ≡ c.txn = rising_once 0 (work_of G x.sent.by) q.txn c.txn (rising x.sent.by) q.in_work work (sym q.number ∙ c.number) in
        record {
          txn = c.txn;
          in_work = work;
          number = c.number;
          outcome = c.outcome;
          ends = ends_at G h legal r m a top first xs e x p c.txn.end (subst (λ (z : Transaction). IsToCommit z.end) u q.commits) c.outcome c.judged;
          front = c.front;
          back = c.back;
          says = knows G far h x.sent.by ∙ (c.says ∙ ap (λ (z : Rows). c.front ++ (numbered c.txn.number (reply.Begin x.sent.begin ∷ ((run_alone G z c.txn).replies ++ c.outcome ∷ [])) ++ c.back)) (same_rows G f x.sent.begin c.within));
        }
