-- What becomes of each request: its transaction is at its commit, or it was told its outcome.
use Rattle.std.proofs.Common.{◌≡◌, ◌≢◌, ℕ, ◌+◌, ◌<◌, ◌≤◌, List, [], ◌∷◌, ◌++◌, length, arith, refl, ap, sym, subst, ◌∙◌, length-append}
use Rattle.std.specs.Prelude.{◌==◌, Bool, true, false, cond, Some}
use Rattle.std.proofs.lemmas.Bool.Decides.{Decides-eqb}
use mathlib.Core.Logic.{◌⊎◌, inl, inr}
use Rattle.core_lists.specs.Lists.{In, Each}
use Rattle.core_lists.specs.Lists.In.{here, there}
use Rattle.core_lists.specs.Fronts.{Front}
use Rattle.core_lists.proofs.Lists.{each_add, each_none, nothing}
use Rattle.core_lists.proofs.Fronts.{front_length}
use Rattle.cluster_requests.specs.Identities.{identity_of}
use Rattle.cluster_requests.specs.Requests.{Sent, Field}
use Rattle.phys_log.specs.declared.entries.CommitId.{CommitId}
use Rattle.cluster_requests.specs.KeptEntries.{KeptEntry}
use Rattle.cdb_values.specs.Rows.{Rows}
use Rattle.report_laws.specs.Told.{Numbered, numbered, IsToCommit}
use Rattle.report_laws.specs.Work.{Transaction, WorkItem, Does, Lone, End, ByRollback}
use Rattle.cdb_values.specs.declared.replies.Reply.{Reply}
use Rattle.cdb_values.specs.declared.replies.Reply.TheVariants as reply
use Rattle.session_language.specs.Language.{Answered}
use Rattle.cluster_events.specs.Settings.{Setting, work_of, kept_rows_at, run_alone}
use Rattle.cluster_events.specs.Parts.{ActorEvent, Opened, Part, head_number, head_of, with_told, with_item_over, moves, part, field}
use Rattle.cluster_events.specs.Parts.ActorEvent.{Node, Stop, Settle, Repeat, Ask, Begun, Say, Note, Send, Finish, Barrier, Fed, FedAgain}
use Rattle.cluster_events.specs.Guards.{DurableNow, AreRepliesTold, IsFrontAnswered, IsInTransaction, commit_id_of, IsRefused, IsKept, Commits, MayFinish, Sends, MayDo, IsLegalHistory, AreNamedApart, Rising}
use Rattle.cluster_consensus.proofs.Generations.{led_above}
use Rattle.cluster_consensus.proofs.Commits.{committed}
use Rattle.cluster_events.proofs.LineLists.{append_assoc, append_nil}
use Rattle.cluster_events.proofs.HistoryLaws.{good_of, Later, later_event, durable_later, begins_of}
use Rattle.cluster_answers.proofs.AskLaws.{none_some, opened_ok}
use Rattle.cluster_events.proofs.LineLists.{in_append}
use Rattle.cluster_answers.proofs.EntryLaws.{durable_rows, part_whole, appended_later, sends_ok}
use Rattle.cluster_answers.specs.Entries.{Rule}
use Rattle.cluster_answers.specs.Entries.{Appended}
use Rattle.cluster_answers.proofs.NumberLaws.{rising_above}
use Rattle.cluster_answers.proofs.OutcomeLaws.{SameSent, same_sent, same_txn, kept_entry}
use Rattle.cluster_events.proofs.OwnLines.{one_actor}
use Rattle.cluster_answers.proofs.ToldLaws.{own_lines, said_lines, some_eq, does_eq, lone_does}

-- its entry stands at this position of a durable log
pub record Stood (G : Setting) (h : List (ℕ × ActorEvent)) (id : CommitId) (k : ℕ) : Type 0 where
  pub before : List KeptEntry
  pub entry : KeptEntry
  pub durable : DurableNow G.nodes (field h) (before ++ entry ∷ [])
  pub appended : Appended G h before entry
  pub its_id : identity_of entry ≡ Some id
  pub position : k ≡ length before + 1

abbrev pub Judged : Setting → List (ℕ × ActorEvent) → CommitId → Reply → Type 0
Judged G h id (reply.Committed k) = Stood G h id k
Judged G h id (reply.ConflictGenid k i g) = IsRefused (field h) id k (reply.ConflictGenid k i g)
Judged G h id (reply.ConflictRange k i g) = IsRefused (field h) id k (reply.ConflictRange k i g)
Judged G h id (reply.Duplicate k i g) = IsRefused (field h) id k (reply.Duplicate k i g)
Judged G h id (reply.Lost n d) = Unit {0}
Judged G h id (reply.NoMajority u n) = Unit {0}
Judged G h id reply.NoMemory = Unit {0}
Judged G h id _ = ⊥

pub record ClosedIn (G : Setting) (h : List (ℕ × ActorEvent)) (p : Part) (x : Sent) : Type 0 where
  pub txn : Transaction
  pub number : x.id.txn ≡ txn.number
  pub over : In (Does txn) p.over
  pub log : List KeptEntry
  pub durable : DurableNow G.nodes (field h) log
  pub within : x.begin ≤ length log
  pub outcome : Reply
  pub judged : Judged G h x.id outcome
  pub front : List Numbered
  pub back : List Numbered
  pub says : p.told ≡ front ++ (numbered txn.number (reply.Begin x.begin ∷ ((run_alone G (kept_rows_at G log x.begin) txn).replies ++ outcome ∷ [])) ++ back)

abbrev pub Closed : Setting → List (ℕ × ActorEvent) → Sent → Type 0
Closed G h x = ClosedIn G h (part G x.by h) x

-- its transaction is at its commit
pub record LiveIn (G : Setting) (f : Field) (p : Part) (x : Sent) : Type 0 where
  pub txn : Transaction
  pub opened : Opened
  pub at : IsInTransaction p txn opened
  pub id' : x.id ≡ commit_id_of G x.by txn opened
  pub begin : x.begin ≡ opened.begin
  pub alone : Answered
  pub answered : AreRepliesTold G f txn opened.begin p.mine alone

abbrev pub State : Setting → List (ℕ × ActorEvent) → Sent → Type 0
State G h x = LiveIn G (field h) (part G x.by h) x ⊎ Closed G h x

answered_on : {f g : Field} {t : Transaction} {b : ℕ} {m : List Reply} {a : Answered} (G : Setting) → Later f g → AreRepliesTold G f t b m a → AreRepliesTold G g t b m a
answered_on G on k = record { log = k.log; durable = durable_later G.nodes k.log on k.durable; within = k.within; alone = k.alone; says = k.says }

live_later : {f g : Field} {p : Part} {x : Sent} (G : Setting) → Later f g → LiveIn G f p x → LiveIn G g p x
live_later G on k = record { txn = k.txn; opened = k.opened; at = k.at; id' = k.id'; begin = k.begin; alone = k.alone; answered = answered_on G on k.answered }

stood_later : {G : Setting} {h : List (ℕ × ActorEvent)} {id : CommitId} {k : ℕ} (e : ℕ × ActorEvent) → Later (field h) (field (e ∷ h)) → Stood G h id k → Stood G (e ∷ h) id k
stood_later {G} e on s = record { before = s.before; entry = s.entry; durable = durable_later G.nodes (s.before ++ s.entry ∷ []) on s.durable; appended = appended_later e on s.appended; its_id = s.its_id; position = s.position }

refused_later : {f g : Field} {id : CommitId} {k : ℕ} {why : Reply} → Later f g → Each (λ s. s.id ≡ id → In s f.sends) g.sends → IsRefused f id k why → IsRefused g id k why
refused_later on same r = record { settled = r.settled; mem = on.settles r.settled r.mem; its_id = r.its_id; its_refusal = r.its_refusal; last = record { at = λ s m e. r.last.at s (same.at s m e) e }; node = r.node; durable = record { it = r.durable.it; mem = (on.told r.node).durables r.durable.it r.durable.mem; is = r.durable.is } }

judged_later : (G : Setting) (h : List (ℕ × ActorEvent)) (e : ℕ × ActorEvent) (id : CommitId) (o : Reply) → Later (field h) (field (e ∷ h)) → Each (λ s. s.id ≡ id → In s (field h).sends) (field (e ∷ h)).sends → Judged G h id o → Judged G (e ∷ h) id o
judged_later G h e id (reply.Committed k) on same j = stood_later e on j
judged_later G h e id (reply.ConflictGenid k i g) on same j = refused_later on same j
judged_later G h e id (reply.ConflictRange k i g) on same j = refused_later on same j
judged_later G h e id (reply.Duplicate k i g) on same j = refused_later on same j
judged_later G h e id (reply.Lost n d) on same j = tt
judged_later G h e id (reply.NoMajority u n) on same j = tt
judged_later G h e id reply.NoMemory on same j = tt
judged_later G h e id _ on same j = absurd j

-- a session's lines and what it is done with only grow
record More (p q : Part) : Type 0 where
  more : List Numbered
  told : q.told ≡ p.told ++ more
  over : (i : WorkItem) → In i p.over → In i q.over

pub in_front : {A : Type 0} {x : A} (xs ys : List A) → In x xs → In x (xs ++ ys)
in_front [] ys m = absurd (nothing m)
in_front (x ∷ xs) ys here = here
in_front (x ∷ xs) ys (there m) = there (in_front xs ys m)

same_more : (p q : Part) → q.told ≡ p.told → q.over ≡ p.over → More p q
same_more p q e f = record { more = []; told = e ∙ sym (append_nil p.told); over = λ i m. subst (λ z. In i z) (sym f) m }

more_row : (p : Part) (e : ActorEvent) → More p (moves p e)
more_row p (Begun b g) = record { more = (head_number p.left, reply.Begin b) ∷ []; told = refl; over = λ i m. m }
more_row p (Say r) = record { more = (head_number p.left, r) ∷ []; told = refl; over = λ i m. m }
more_row p Note = record { more = (head_number p.left, _) ∷ []; told = refl; over = λ i m. in_front p.over (head_of p.left) m }
more_row p (Finish a) = record { more = (head_number p.left, a) ∷ []; told = refl; over = λ i m. in_front p.over (head_of p.left) m }
more_row p (Ask t) = same_more p (moves p (Ask t)) refl refl
more_row p Barrier = same_more p (moves p Barrier) refl refl
more_row p (Fed d g) = same_more p (moves p (Fed d g)) refl refl
more_row p (FedAgain d) = same_more p (moves p (FedAgain d)) refl refl
more_row p _ = same_more p p refl refl

part_more : (G : Setting) (s : ℕ) (x : ℕ × ActorEvent) (h : List (ℕ × ActorEvent)) → More (part G s h) (part G s (x ∷ h))
part_more G s x h = go (s == x.0)
  where
    go : (b : Bool) → More (part G s h) (cond b (moves (part G s h) x.1) (part G s h))
    go true = more_row (part G s h) x.1
    go false = same_more (part G s h) (part G s h) refl refl

closed_later : (G : Setting) (h : List (ℕ × ActorEvent)) (e : ℕ × ActorEvent) (x : Sent) {p q : Part} → Later (field h) (field (e ∷ h)) → Each (λ s. s.id ≡ x.id → In s (field h).sends) (field (e ∷ h)).sends → More p q → ClosedIn G h p x → ClosedIn G (e ∷ h) q x
closed_later G h e x on same m c =
    record {
      txn = c.txn;
      number = c.number;
      over = m.over (Does c.txn) c.over;
      log = c.log;
      durable = durable_later G.nodes c.log on c.durable;
      within = c.within;
      outcome = c.outcome;
      judged = judged_later G h e x.id c.outcome on same c.judged;
      front = c.front;
      back = c.back ++ m.more;
      says = m.told ∙ (ap (λ z. z ++ m.more) c.says ∙ (append_assoc c.front (numbered c.txn.number (reply.Begin x.begin ∷ ((run_alone G (kept_rows_at G c.log x.begin) c.txn).replies ++ c.outcome ∷ [])) ++ c.back) m.more
          ∙ ap (λ z. c.front ++ z) (append_assoc (numbered c.txn.number (reply.Begin x.begin ∷ ((run_alone G (kept_rows_at G c.log x.begin) c.txn).replies ++ c.outcome ∷ []))) c.back m.more)));
    }

pub rising_apart : (k : ℕ) (xs ys : List WorkItem) (t u : Transaction) → Rising k (xs ++ ys) → In (Does t) xs → In (Does u) ys → t.number < u.number
rising_apart k [] ys t u r m n = absurd (nothing m)
rising_apart k (Does v ∷ xs) ys t u r here n = rising_above v.number (xs ++ ys) u r.1 (in_append xs ys n)
rising_apart k (Does v ∷ xs) ys t u r (there m) n = rising_apart v.number xs ys t u r.1 m n
rising_apart k (Lone a ∷ xs) ys t u r (there m) n = rising_apart k xs ys t u r m n

-- a new request is of no transaction that is over
new_apart : (G : Setting) → AreNamedApart G → (h : List (ℕ × ActorEvent)) (i : ℕ) (y x : Sent) → ((s : ℕ) → Rising 0 (work_of G s)) → IsLegalHistory G h → In x (field h).sends → Sends G h i y → Closed G h x → y.id ≡ x.id → ⊥
new_apart G far h i y x rising legal m may c e =
    let t = may.at.txn in
    let id = sym e ∙ may.its_id in
    let s : x.by ≡ i = one_actor G far x.by i (sym ((sends_ok G h legal).at x m).request.name ∙ ap (λ z. z.session) id) in
    let n : x.id.txn ≡ t.number = ap (λ z. z.txn) id in
    let over = subst (λ z. In (Does c.txn) (part G z h).over) s c.over in
    let left = subst (λ z. In (Does t) z) (sym may.at.at.is) here in
    let lt = rising_apart 0 (part G i h).over (part G i h).left c.txn t (subst (λ z. Rising 0 z) (sym (part_whole G i h)) (rising i)) over left in
    let cn = c.number in
    omega arith

old_sends : (G : Setting) → AreNamedApart G → (h : List (ℕ × ActorEvent)) (i : ℕ) (e : ActorEvent) (x : Sent) → ((s : ℕ) → Rising 0 (work_of G s)) → IsLegalHistory G h → In x (field h).sends → MayDo G h i e → Closed G h x → Each (λ s. s.id ≡ x.id → In s (field h).sends) (field ((i, e) ∷ h)).sends
old_sends G far h i (Send y) x rising legal m may c = each_add (λ q. absurd (new_apart G far h i y x rising legal m may.1 c q)) (record { at = λ s m q. m })
old_sends G far h i (Node e) x rising legal m may c = record { at = λ s m q. m }
old_sends G far h i Stop x rising legal m may c = record { at = λ s m q. m }
old_sends G far h i (Settle id why) x rising legal m may c = record { at = λ s m q. m }
old_sends G far h i (Repeat id n) x rising legal m may c = record { at = λ s m q. m }
old_sends G far h i (Ask t) x rising legal m may c = record { at = λ s m q. m }
old_sends G far h i _ x rising legal m may c = record { at = λ s m q. m }

in_same : {p : Part} {t u : Transaction} {o q : Opened} → IsInTransaction p t o → IsInTransaction p u q → (t ≡ u) × (o ≡ q)
in_same a b = (does_eq (sym a.is ∙ b.is), some_eq (sym a.opened ∙ b.opened))

-- nothing is told after all replies but the outcome
no_say : (G : Setting) (h : List (ℕ × ActorEvent)) (s : ℕ) (r : Reply) (x : Sent) → IsLegalHistory G h → MayDo G h s (Say r) → LiveIn G (field h) (part G s h) x → ⊥
no_say G h s r x legal may k =
    let e = in_same may.2 k.at in
    let q = subst (λ z. IsFrontAnswered G (field h) k.txn z.begin ((part G s h).mine ++ r ∷ [])) e.1 (subst (λ z. IsFrontAnswered G (field h) z may.1.begin ((part G s h).mine ++ r ∷ [])) e.0 may.3) in
    let a = k.answered in
    let rows = durable_rows G (field h) (good_of G h legal).inv q.log a.log q.durable a.durable k.opened.begin q.within a.within in
    let says = a.says ∙ ap (λ (z : Answered). reply.Begin k.opened.begin ∷ z.replies) (a.alone ∙ ap (λ (z : Rows). run_alone G z k.txn) (sym rows)) in
    let len = front_length (subst (λ z. Front ((part G s h).mine ++ r ∷ []) z) (sym says) q.fits) in
    let l = length-append (part G s h).mine (r ∷ []) in
    omega arith

-- the request of a transaction at its commit has what its replies give
sent_same : (G : Setting) → AreNamedApart G → (h : List (ℕ × ActorEvent)) (x : Sent) → ((s : ℕ) → Rising 0 (work_of G s)) → IsLegalHistory G h → In x (field h).sends → (t : Transaction) (o : Opened) → IsInTransaction (part G x.by h) t o → x.id ≡ commit_id_of G x.by t o → (mine : List Reply) (a : Answered) → AreRepliesTold G (field h) t o.begin mine a → SameSent t o a x
sent_same G far h x rising legal m t o at id mine a ans =
    let k = (sends_ok G h legal).at x m in
    let w = k.request.within in
    same_sent G far h x.by (rising x.by) legal t o at a (kept_rows_at G ans.log o.begin) ans.alone k.log x id k.request (λ e. durable_rows G (field h) (good_of G h legal).inv k.log ans.log k.durable ans.durable o.begin (let e' : x.begin ≡ o.begin = e in omega arith) ans.within)

pub stood_of : (G : Setting) (h : List (ℕ × ActorEvent)) (s : ℕ) → IsLegalHistory G h → (t : Transaction) (o : Opened) → IsInTransaction (part G s h) t o → (k : ℕ) (r : IsKept (field h) (commit_id_of G s t o) k) → Stood G h (commit_id_of G s t o) k
stood_of G h s legal t o at k r = go (kept_entry G h legal (commit_id_of G s t o) k r)
  where
    go : Rule G h r.before r.entry → Stood G h (commit_id_of G s t o) k
    go (inl old) =
        let a = old (commit_id_of G s t o) r.its_id in
        let b = begins_of G h legal o.begin o.gen (opened_ok G h legal s o at.opened) in
        let l = led_above (good_of G h legal).inv b.node b.led.it a.it b.led.mem a.mem in
        let lg : b.led.it.gen ≡ o.gen = b.led.is.0 in
        let low : o.gen ≤ a.it.accepted = a.is in
        absurd (omega arith)
    go (inr (inl set)) = absurd (let z = sym set.no_id ∙ r.its_id in cc)
    go (inr (inr x)) = record { before = r.before; entry = r.entry; durable = (r.gen, committed (good_of G h legal).inv r.gen (r.before ++ r.entry ∷ []) r.kept); appended = x; its_id = r.its_id; position = r.position }

no_rollback : {end : End} → IsToCommit end → end ≡ ByRollback → ⊥
no_rollback k e = subst (λ z. IsToCommit z) e k

judge : (G : Setting) → AreNamedApart G → (h : List (ℕ × ActorEvent)) (x : Sent) → ((s : ℕ) → Rising 0 (work_of G s)) → IsLegalHistory G h → In x (field h).sends → (a : Reply) → MayFinish G h x.by a → LiveIn G (field h) (part G x.by h) x → Judged G h x.id a
judge G far h x rising legal m reply.RolledBack may k =
    let e = in_same may.2 k.at in
    let q = ((sends_ok G h legal).at x m).request in
    let u = same_txn G far h x.by (rising x.by) k.txn k.opened k.at _ x k.id' q in
    no_rollback q.commits (ap (λ (z : Transaction). z.end) (u ∙ sym e.0) ∙ may.3)
judge G far h x rising legal m (reply.Committed n) may k = go may.1
  where
    c : Commits G h x.by
    c = may.0

    id : x.id ≡ commit_id_of G x.by may.0.txn may.0.start
    id = let e = in_same k.at may.0.at in k.id' ∙ (ap (λ z. commit_id_of G x.by z k.opened) e.0 ∙ ap (λ z. commit_id_of G x.by may.0.txn z) e.1)

    go : ((may.0.ran.ops ≡ []) × (n ≡ may.0.start.begin)) ⊎ ((may.0.ran.ops ≢ []) × IsKept (field h) (commit_id_of G x.by may.0.txn may.0.start) n) → Judged G h x.id (reply.Committed n)
    go (inl e) = absurd (((sends_ok G h legal).at x m).request.has_ops ((sent_same G far h x rising legal m c.txn c.start c.at id (part G x.by h).mine c.ran c.answered).ops ∙ e.0))
    go (inr r) = subst (λ z. Stood G h z n) (sym id) (stood_of G h x.by legal c.txn c.start c.at n r.1)
judge G far h x rising legal m (reply.ConflictGenid n i g) may k = let e = in_same k.at may.0.at in subst (λ z. IsRefused (field h) z n (reply.ConflictGenid n i g)) (sym (k.id' ∙ (ap (λ z. commit_id_of G x.by z k.opened) e.0 ∙ ap (λ z. commit_id_of G x.by may.0.txn z) e.1))) may.1
judge G far h x rising legal m (reply.ConflictRange n i g) may k = let e = in_same k.at may.0.at in subst (λ z. IsRefused (field h) z n (reply.ConflictRange n i g)) (sym (k.id' ∙ (ap (λ z. commit_id_of G x.by z k.opened) e.0 ∙ ap (λ z. commit_id_of G x.by may.0.txn z) e.1))) may.1
judge G far h x rising legal m (reply.Duplicate n i g) may k = let e = in_same k.at may.0.at in subst (λ z. IsRefused (field h) z n (reply.Duplicate n i g)) (sym (k.id' ∙ (ap (λ z. commit_id_of G x.by z k.opened) e.0 ∙ ap (λ z. commit_id_of G x.by may.0.txn z) e.1))) may.1
judge G far h x rising legal m (reply.Lost n d) may k = tt
judge G far h x rising legal m (reply.NoMajority u n) may k = tt
judge G far h x rising legal m reply.NoMemory may k = tt
judge G far h x rising legal m _ may k = absurd may

in_last : {A : Type 0} (x : A) (xs : List A) → In x (xs ++ x ∷ [])
in_last x [] = here
in_last x (y ∷ xs) = there (in_last x xs)

close : (G : Setting) → AreNamedApart G → (h : List (ℕ × ActorEvent)) (x : Sent) → ((s : ℕ) → Rising 0 (work_of G s)) → IsLegalHistory G h → In x (field h).sends → (a : Reply) → MayFinish G h x.by a → LiveIn G (field h) (part G x.by h) x → ClosedIn G h (with_item_over (with_told (part G x.by h) a)) x
close G far h x rising legal m a may k =
    let p = part G x.by h in
    let own = own_lines G far x.by (rising x.by) h legal in
    let ans = k.answered in
    let w = ans.within in
    let xb : x.begin ≡ k.opened.begin = k.begin in
    let mine = ap (λ z. z ++ a ∷ []) (ans.says ∙ (ap (λ (z : Answered). reply.Begin k.opened.begin ∷ z.replies) ans.alone ∙ ap (λ z. reply.Begin z ∷ (run_alone G (kept_rows_at G ans.log z) k.txn).replies) (sym k.begin))) in
    let lines = said_lines p own.closed a own.lines' ∙ (ap (λ z. own.closed ++ numbered z (p.mine ++ a ∷ [])) (ap (λ z. head_number z) k.at.is) ∙ ap (λ z. own.closed ++ numbered k.txn.number z) mine) in
    record {
      txn = k.txn;
      number = ap (λ z. z.txn) k.id';
      over = subst (λ (z : List WorkItem). In (Does k.txn) (p.over ++ head_of z)) (sym k.at.is) (in_last (Does k.txn) p.over);
      log = ans.log;
      durable = ans.durable;
      within = omega arith;
      outcome = a;
      judged = judge G far h x rising legal m a may k;
      front = own.closed;
      back = [];
      says = lines ∙ ap (λ (z : List Numbered). own.closed ++ z) (sym (append_nil (numbered k.txn.number (reply.Begin x.begin ∷ ((run_alone G (kept_rows_at G ans.log x.begin) k.txn).replies ++ a ∷ [])))));
    }

more_refl : (p : Part) → More p p
more_refl p = same_more p p refl refl

same_live : {f : Field} {p q : Part} {x : Sent} (G : Setting) → q.left ≡ p.left → q.opened ≡ p.opened → q.mine ≡ p.mine → LiveIn G f p x → LiveIn G f q x
same_live {f} G a b c k = record { txn = k.txn; opened = k.opened; at = record { others = k.at.others; is = a ∙ k.at.is; opened = b ∙ k.at.opened }; id' = k.id'; begin = k.begin; alone = k.alone; answered = subst (λ z. AreRepliesTold G f k.txn k.opened.begin z k.alone) (sym c) k.answered }

own_state : (G : Setting) → AreNamedApart G → (h : List (ℕ × ActorEvent)) (x : Sent) (e : ActorEvent) → ((s : ℕ) → Rising 0 (work_of G s)) → IsLegalHistory G h → MayDo G h x.by e → In x (field h).sends → LiveIn G (field h) (part G x.by h) x → LiveIn G (field ((x.by, e) ∷ h)) (moves (part G x.by h) e) x ⊎ ClosedIn G ((x.by, e) ∷ h) (moves (part G x.by h) e) x
own_state G far h x (Begun b g) rising legal may m k = none_some (sym may.2 ∙ k.at.opened)
own_state G far h x (Say r) rising legal may m k = absurd (no_say G h x.by r x legal may k)
own_state G far h x Note rising legal may m k = lone_does (sym may.2 ∙ k.at.is)
own_state G far h x (Finish a) rising legal may m k = inr (closed_later G h (x.by, Finish a) x (later_event G h x.by (Finish a) (good_of G h legal).inv may) (record { at = λ s n q. n }) (more_refl _) (close G far h x rising legal m a may.0 k))
own_state G far h x (Ask t) rising legal may m k = inl (live_later G (later_event G h x.by (Ask t) (good_of G h legal).inv may) (same_live G refl refl refl k))
own_state G far h x Barrier rising legal may m k = inl (same_live G refl refl refl k)
own_state G far h x (Fed d g) rising legal may m k = inl (same_live G refl refl refl k)
own_state G far h x (FedAgain d) rising legal may m k = inl (same_live G refl refl refl k)
own_state G far h x (Node e) rising legal may m k = inl (live_later G (later_event G h x.by (Node e) (good_of G h legal).inv may) k)
own_state G far h x Stop rising legal may m k = inl (live_later G (later_event G h x.by Stop (good_of G h legal).inv may) k)
own_state G far h x (Settle id why) rising legal may m k = inl (live_later G (later_event G h x.by (Settle id why) (good_of G h legal).inv may) k)
own_state G far h x (Repeat id n) rising legal may m k = inl (live_later G (later_event G h x.by (Repeat id n) (good_of G h legal).inv may) k)
own_state G far h x (Send y) rising legal may m k = inl (live_later G (later_event G h x.by (Send y) (good_of G h legal).inv may) k)
own_state G far h x _ rising legal may m k = inl k

state_step : (G : Setting) → AreNamedApart G → (h : List (ℕ × ActorEvent)) (i : ℕ) (e : ActorEvent) (x : Sent) → ((s : ℕ) → Rising 0 (work_of G s)) → IsLegalHistory G h → MayDo G h i e → In x (field h).sends → State G h x → State G ((i, e) ∷ h) x
state_step G far h i e x rising legal may m st = go st (x.by == i) refl
  where
    on : Later (field h) (field ((i, e) ∷ h))
    on = later_event G h i e (good_of G h legal).inv may

    p : Part
    p = part G x.by h

    go : LiveIn G (field h) (part G x.by h) x ⊎ Closed G h x → (b : Bool) → (x.by == i) ≡ b → LiveIn G (field ((i, e) ∷ h)) (cond b (moves (part G x.by h) e) (part G x.by h)) x ⊎ ClosedIn G ((i, e) ∷ h) (cond b (moves (part G x.by h) e) (part G x.by h)) x
    go (inl k) true q = subst (λ j. LiveIn G (field ((j, e) ∷ h)) (moves (part G x.by h) e) x ⊎ ClosedIn G ((j, e) ∷ h) (moves (part G x.by h) e) x) ((Decides-eqb x.by i).0 q) (own_state G far h x e rising legal (subst (λ j. MayDo G h j e) (sym ((Decides-eqb x.by i).0 q)) may) m k)
    go (inl k) false q = inl (live_later G on k)
    go (inr c) true q = inr (closed_later G h (i, e) x on (old_sends G far h i e x rising legal m may c) (more_row p e) c)
    go (inr c) false q = inr (closed_later G h (i, e) x on (old_sends G far h i e x rising legal m may c) (more_refl p) c)

new_state : (G : Setting) (h : List (ℕ × ActorEvent)) (i : ℕ) (x : Sent) → Sends G h i x → State G ((i, Send x) ∷ h) x
new_state G h i x may = inl (go (x.by == i))
  where
    live : LiveIn G (field h) (part G x.by h) x
    live = subst (λ j. LiveIn G (field h) (part G j h) x) (sym may.its_by) (record {
      txn = may.at.txn;
      opened = may.at.start;
      at = may.at.at;
      id' = may.its_id ∙ ap (λ j. commit_id_of G j may.at.txn may.at.start) (sym may.its_by);
      begin = may.its_begin;
      alone = may.at.ran;
      answered = may.at.answered;
    })

    same : LiveIn G (field ((i, Send x) ∷ h)) (part G x.by h) x
    same = record { txn = live.txn; opened = live.opened; at = live.at; id' = live.id'; begin = live.begin; alone = live.alone; answered = record { log = live.answered.log; durable = live.answered.durable; within = live.answered.within; alone = live.answered.alone; says = live.answered.says } }

    go : (b : Bool) → LiveIn G (field ((i, Send x) ∷ h)) (cond b (part G x.by h) (part G x.by h)) x
    go true = same
    go false = same

states_row : (G : Setting) (h : List (ℕ × ActorEvent)) (i : ℕ) (e : ActorEvent) → MayDo G h i e → Each (State G ((i, e) ∷ h)) (field h).sends → Each (State G ((i, e) ∷ h)) (field ((i, e) ∷ h)).sends
states_row G h i (Send x) may old = each_add (new_state G h i x may.1) old
states_row G h i (Node e) may old = old
states_row G h i Stop may old = old
states_row G h i (Settle id why) may old = old
states_row G h i (Ask t) may old = old
states_row G h i _ may old = old

pub states : (G : Setting) → AreNamedApart G → (h : List (ℕ × ActorEvent)) → ((s : ℕ) → Rising 0 (work_of G s)) → IsLegalHistory G h → Each (State G h) (field h).sends
states G far [] rising legal = each_none
states G far (x ∷ h) rising legal = states_row G h x.0 x.1 legal.0 (record { at = λ y m. state_step G far h x.0 x.1 y rising legal.1 legal.0 m ((states G far h rising legal.1).at y m) })
