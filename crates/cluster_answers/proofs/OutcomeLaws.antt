-- Each outcome is right over some durable log.
use Rattle.cluster_requests.specs.KeptEntries.{state_of}
use Rattle.std.proofs.Common.{◌≡◌, ℕ, ◌+◌, ◌-◌, ◌<◌, ◌≤◌, List, [], ◌∷◌, ◌++◌, length, take, arith, refl, ap, sym, subst, ◌∙◌, length-append}
use Rattle.std.specs.Prelude.{Some, slice_get, option_map}
use mathlib.Core.Logic.{inl, inr}
use Rattle.core_lists.specs.Lists.{In}
use Rattle.core_lists.specs.Fronts.{Front}
use Rattle.core_lists.proofs.Fronts.{front_trans, front_length, front_append, front_take, length_take, take_length}
use Rattle.cluster_consensus.specs.Durable.{DurableIn}
use Rattle.cluster_consensus.proofs.Invariant.{Inv}
use Rattle.cluster_requests.specs.Requests.{Sent, Settled, Field}
use Rattle.phys_log.specs.declared.entries.CommitId.{CommitId}
use Rattle.cluster_requests.specs.KeptEntries.{KeptEntry}
use Rattle.cdb_values.specs.Rows.{Rows, apply_all}
use Rattle.cdb_values.specs.declared.rows.RowOp.{RowOp}
use Rattle.report_laws.specs.Told.{told}
use Rattle.report_laws.specs.View.{IsUntouched}
use Rattle.report_laws.specs.Work.{Transaction, Does}
use Rattle.cdb_values.specs.declared.replies.Reply.{Reply}
use Rattle.cdb_values.specs.declared.replies.Reply.TheVariants as reply
use Rattle.session_language.specs.Language.{Answered}
use Rattle.session_language.specs.Touched.{Used, used_at}
use Rattle.cluster_events.specs.Settings.{Setting, basis, work_of, kept_rows_at, run_alone, line_of, changes_in, log_view}
use Rattle.cluster_events.specs.Parts.{ActorEvent, Opened, head_number, part, field}
use Rattle.cluster_events.specs.Guards.{DurableNow, AreRepliesTold, IsInTransaction, commit_id_of, IsRightRefusal, IsRefused, IsKept, IsLegalHistory, AreNamedApart, Rising}
use Rattle.cdb_values.specs.Good.{IsGood, first_broken}
use Rattle.cluster_consensus.proofs.Generations.{led_above}
use Rattle.cluster_consensus.proofs.Commits.{committed}
use Rattle.cluster_masters.proofs.MasterLaws.{longer, committed_by}
use Rattle.report_laws.specs.Outcome.{IsEntered, IsConflict, IsDuplicate, IsRight, Ends}
use Rattle.report_text.specs.declared.reports.EntryLine.TheVariants as entries
use Rattle.node_reports.specs.Told.{IsToldAlong}
use Rattle.cluster_events.proofs.HistoryLaws.{good_of, begins_of}
use Rattle.cluster_answers.proofs.AskLaws.{opened_ok}
use Rattle.cluster_answers.proofs.EntryLaws.{same_rows, open_in, in_whole, rules, SettledOk, settles_ok}
use Rattle.cluster_answers.specs.Entries.{Rule}
use Rattle.cluster_answers.specs.Entries.{Old}
use Rattle.cluster_answers.specs.Entries.{Request}
use Rattle.cluster_answers.proofs.NumberLaws.{counted, rising_once}
use Rattle.cluster_answers.proofs.AgreeLaws.{get_of, get_last, agree_front, Same, same_of, untouched_same, touched_same}
use Rattle.cluster_events.proofs.OwnLines.{one_actor}

pub some_same : {A : Type 0} {x y : A} → Some x ≡ Some y → x ≡ y
some_same e = cc

pub whole_of : (G : Setting) (f : Field) (s : ℕ) (t : Transaction) (b : ℕ) (mine : List Reply) (a : Answered) (o : Reply) (d : List KeptEntry) (ans : AreRepliesTold G f t b mine a) → Front ans.log d → Ends t.end (o ∷ []) → IsRight (basis G) (log_view G d) (G.names s) t b (used_at t.level a) a.ops o → IsToldAlong (basis G) (log_view G d) (G.names s) (Does t) (mine ++ o ∷ [])
whole_of G f s t b mine a o d ans p ends r =
    let le = ans.within in
    let l = front_length p in
    inl (record {
      begin = b;
      base = omega arith;
      within = omega arith;
      ran = a;
      is_ran = ans.alone ∙ ap (λ (z : Rows). run_alone G z t) (same_rows G p b ans.within);
      last = o ∷ [];
      ends = ends;
      right = (r, tt);
      says = ap (λ z. z ++ o ∷ []) ans.says;
    })

-- actors of one name are oneuse Rattle.cluster_events.proofs.OwnLines.{one_actor}

-- a request of this transaction is that of its begin and its work
pub record SameSent (t : Transaction) (o : Opened) (a : Answered) (x : Sent) : Type 0 where
  pub begin : x.begin ≡ o.begin
  pub level : x.level ≡ t.level
  pub ops : x.ops ≡ a.ops
  pub used : x.used ≡ used_at t.level a

pub sent_by : (G : Setting) → AreNamedApart G → (h : List (ℕ × ActorEvent)) (s : ℕ) (t : Transaction) (o : Opened) (log : List KeptEntry) (x : Sent) → x.id ≡ commit_id_of G s t o → Request G h log x → x.by ≡ s
sent_by G far h s t o log x id q = one_actor G far x.by s (sym q.name ∙ ap (λ z. z.session) id)

pub same_begin : (G : Setting) → AreNamedApart G → (h : List (ℕ × ActorEvent)) (s : ℕ) → Rising 0 (work_of G s) → IsLegalHistory G h → (t : Transaction) (o : Opened) → IsInTransaction (part G s h) t o → (log : List KeptEntry) (x : Sent) → x.id ≡ commit_id_of G s t o → Request G h log x → x.begin ≡ o.begin
same_begin G far h s rising legal t o at log x id q =
    let p = part G s h in
    let m = subst (λ z. In (record { txn = z.txn; begin = x.begin; gen = z.began }) (part G s h).begins) id (subst (λ j. In (record { txn = x.id.txn; begin = x.begin; gen = x.id.began }) (part G j h).begins) (sent_by G far h s t o log x id q) q.began) in
    let n = subst (λ z. In (record { txn = z; begin = o.begin; gen = o.gen }) p.begins) (ap (λ z. head_number z) at.is) (open_in G s h o at.opened) in
    ap (λ z. z.begin) ((counted G h s rising legal).once.same _ _ m n refl)

pub same_txn : (G : Setting) → AreNamedApart G → (h : List (ℕ × ActorEvent)) (s : ℕ) → Rising 0 (work_of G s) → (t : Transaction) (o : Opened) → IsInTransaction (part G s h) t o → (log : List KeptEntry) (x : Sent) → x.id ≡ commit_id_of G s t o → (q : Request G h log x) → q.txn ≡ t
same_txn G far h s rising t o at log x id q =
    rising_once 0 (work_of G s) q.txn t rising (subst (λ z. In (Does q.txn) (work_of G z)) (sent_by G far h s t o log x id q) q.in_work) (in_whole G s h t at.others at.is) (sym q.number ∙ ap (λ z. z.txn) id)

pub same_sent : (G : Setting) → AreNamedApart G → (h : List (ℕ × ActorEvent)) (s : ℕ) → Rising 0 (work_of G s) → IsLegalHistory G h → (t : Transaction) (o : Opened) → IsInTransaction (part G s h) t o → (a : Answered) (rows : Rows) → a ≡ run_alone G rows t → (log : List KeptEntry) (x : Sent) → x.id ≡ commit_id_of G s t o → Request G h log x → (x.begin ≡ o.begin → kept_rows_at G log o.begin ≡ rows) → SameSent t o a x
same_sent G far h s rising legal t o at a rows alone log x id q e =
    let b = same_begin G far h s rising legal t o at log x id q in
    let u = same_txn G far h s rising t o at log x id q in
    let w = q.is_rows ∙ (ap (λ z. kept_rows_at G log z) b ∙ e b) in
    let same = ap (λ (z : Rows). run_alone G z q.txn) w ∙ (ap (λ (z : Transaction). run_alone G rows z) u ∙ sym alone) in
    record { begin = b; level = q.level ∙ ap (λ (z : Transaction). z.level) u; ops = q.ops ∙ ap (λ z. z.ops) same; used = q.used ∙ (ap (λ z. used_at q.txn.level z) same ∙ ap (λ (z : Transaction). used_at z.level a) u) }

-- what is committed, over a durable log that begins with that of the replies
pub record Entered (G : Setting) (f : Field) (s : ℕ) (t : Transaction) (b k : ℕ) (a : Answered) (log : List KeptEntry) : Type 0 where
  pub whole : List KeptEntry
  pub durable : DurableNow G.nodes f whole
  pub begins : Front log whole
  pub entered : IsEntered (basis G) (log_view G whole) (G.names s) t b k (used_at t.level a)

pub take_whole : {A : Type 0} (a : List A) → take (length a) a ≡ a
take_whole [] = refl
take_whole (x ∷ a) = ap (λ z. x ∷ z) (take_whole a)

-- the rows behind an entry of a log
pub rows_last : (G : Setting) (xs : List KeptEntry) (e : KeptEntry) (d : List KeptEntry) (k : ℕ) → k ≡ length xs + 1 → Front (xs ++ e ∷ []) d → kept_rows_at G d k ≡ state_of (xs ++ e ∷ [])
rows_last G xs e d k q p =
    let l = length-append xs (e ∷ []) in
    let same : k ≡ length (xs ++ e ∷ []) = omega arith in
    sym (same_rows G p k (omega arith)) ∙ (ap (λ z. kept_rows_at G (xs ++ e ∷ []) z) same ∙ ap (λ z. state_of z) (take_whole (xs ++ e ∷ [])))

-- an entry of a log, as the laws see it
pub entry_last : (G : Setting) (xs : List KeptEntry) (e : KeptEntry) (d : List KeptEntry) (k : ℕ) → k ≡ length xs + 1 → Front (xs ++ e ∷ []) d → (log_view G d).entry k ≡ Some (line_of k e)
entry_last G xs e d k q p =
    let l = length-append xs (e ∷ []) in
    let at : k - 1 ≡ length xs = omega arith in
    ap (λ i. option_map (line_of k) (slice_get d i)) at ∙ ap (λ o. option_map (line_of k) o) (sym (get_of p (length xs) (omega arith)) ∙ get_last xs e)

pub kept_entry : (G : Setting) (h : List (ℕ × ActorEvent)) → IsLegalHistory G h → (id : CommitId) (k : ℕ) (r : IsKept (field h) id k) → Rule G h r.before r.entry
kept_entry G h legal id k r =
    let s = r.kept.2 in
    (rules G h legal r.kept.0).accepts.at s.it (((good_of G h legal).inv.local r.kept.0).ships.at s.it s.mem).1 r.before r.entry s.is.1

pub kept_right : (G : Setting) → AreNamedApart G → (h : List (ℕ × ActorEvent)) (s : ℕ) → Rising 0 (work_of G s) → IsLegalHistory G h → (t : Transaction) (o : Opened) → IsInTransaction (part G s h) t o → (k : ℕ) (a : Answered) (ans : AreRepliesTold G (field h) t o.begin (part G s h).mine a) → IsKept (field h) (commit_id_of G s t o) k → Entered G (field h) s t o.begin k a ans.log
kept_right G far h s rising legal t o at k a ans r = go (kept_entry G h legal (commit_id_of G s t o) k r)
  where
    inv : Inv G.nodes (field h).core
    inv = (good_of G h legal).inv

    front : List KeptEntry
    front = r.before ++ r.entry ∷ []

    both : (d : List KeptEntry) × ((g : ℕ) × DurableIn G.nodes (field h).core g d) × Front ans.log d × Front front d
    both = longer inv ans.log front ans.durable (r.gen, committed inv r.gen front r.kept)

    old_out : {A : Type 0} → Old h r.entry → A
    old_out old =
        let a = old (commit_id_of G s t o) r.its_id in
        let b = begins_of G h legal o.begin o.gen (opened_ok G h legal s o at.opened) in
        let l = led_above inv b.node b.led.it a.it b.led.mem a.mem in
        let lg : b.led.it.gen ≡ o.gen = b.led.is.0 in
        let low : o.gen ≤ a.it.accepted = a.is in
        absurd (omega arith)

    go : Rule G h r.before r.entry → Entered G (field h) s t o.begin k a ans.log
    go (inl old) = old_out old
    go (inr (inl set)) = absurd (let z = sym set.no_id ∙ r.its_id in cc)
    go (inr (inr x)) =
        let id : x.sent.id ≡ commit_id_of G s t o = some_same (sym x.its_id ∙ r.its_id) in
        let pd : Front r.before both.0 = front_trans (front_append r.before (r.entry ∷ [])) both.3 in
        let w = x.request.within in
        let same = same_sent G far h s rising legal t o at a (kept_rows_at G ans.log o.begin) ans.alone r.before x.sent id x.request (λ e. same_rows G pd o.begin (let e' : x.sent.begin ≡ o.begin = e in omega arith) ∙ sym (same_rows G both.2 o.begin ans.within)) in
        let sb : x.sent.begin ≡ o.begin = same.begin in
        let pos : k ≡ length r.before + 1 = r.position in
        record {
          whole = both.0;
          durable = both.1;
          begins = both.2;
          entered = record {
            later = omega arith;
            stands = entry_last G r.before r.entry both.0 k r.position both.3 ∙ (ap (λ z. Some z) (x.its_line k)
                ∙ (ap (λ (z : CommitId). Some (entries.Commit k z.session z.txn x.sent.begin x.sent.level)) id
                ∙ (ap (λ z. Some (entries.Commit k (G.names s) t.number z x.sent.level)) same.begin
                ∙ ap (λ z. Some (entries.Commit k (G.names s) t.number o.begin z)) same.level)));
            untouched = subst (λ z. IsUntouched (log_view G both.0) o.begin z (used_at t.level a)) (sym r.position) (subst (λ z. IsUntouched (log_view G both.0) o.begin (length r.before + 1) z) same.used (subst (λ z. IsUntouched (log_view G both.0) z (length r.before + 1) x.sent.used) same.begin
                (untouched_same (same_of (agree_front G pd)) x.sent.begin (length r.before + 1) x.sent.used (omega arith) (omega arith) x.untouched)));
            is_good = subst (λ (z : Rows). IsGood G.tables z.tables) (sym (rows_last G r.before r.entry both.0 k r.position both.3 ∙ x.rows')) x.good';
          };
        }

-- the log of a refusal up to its position is durable
pub record Fronted (G : Setting) (f : Field) (log : List KeptEntry) (z : Settled) (k : ℕ) : Type 0 where
  pub whole : List KeptEntry
  pub durable : DurableNow G.nodes f whole
  pub begins : Front log whole
  pub front : Front (take k z.log) whole

fronted : (G : Setting) (h : List (ℕ × ActorEvent)) → IsLegalHistory G h → (log : List KeptEntry) → DurableNow G.nodes (field h) log → (id : CommitId) (k : ℕ) (why : Reply) (r : IsRefused (field h) id k why) → SettledOk G h r.settled → Fronted G (field h) log r.settled k
fronted G h legal log dur id k why r ok =
    let inv = (good_of G h legal).inv in
    let z = r.settled in
    let c = ok.accepted in
    let d = r.durable in
    let lt = length_take k z.log in
    let dl : k ≤ length d.it.log = d.is.1 in
    let f = committed_by inv z.gen z.by r.node (take k z.log) c.it d.it c.mem c.is.0 (subst (λ t. Front (take k z.log) t) (sym c.is.1) (front_take k z.log)) d.mem d.is.0 (omega arith) in
    let b = longer inv log (take k z.log) dur (z.gen, f) in
    record { whole = b.0; durable = b.1; begins = b.2; front = b.3 }

front_rows : (G : Setting) (a d log : List KeptEntry) (k b : ℕ) → Front a d → Front (take k log) d → b ≤ length a → b ≤ k → k ≤ length log → kept_rows_at G log b ≡ kept_rows_at G a b
front_rows G a d log k b p q la lk le =
    let l = take_length k log le in
    sym (same_rows G (front_take k log) b (omega arith)) ∙ (same_rows G q b (omega arith) ∙ sym (same_rows G p b la))

-- a refusal over a log is one over each log with the same front up to its position
same_part : (G : Setting) (l d : List KeptEntry) (k : ℕ) → Front (take k l) d → k ≤ length l → Same 0 k (log_view G l) (log_view G d)
same_part G l d k p le =
    let tl = take_length k l le in
    record { tables = refl; changes = λ j lo hi. ap (λ t. changes_in t) (sym (get_of (front_take k l) (j - 1) (omega arith)) ∙ get_of p (j - 1) (omega arith)) }

conflict_part : (G : Setting) (l d : List KeptEntry) (k b : ℕ) (used : List Used) (ops : List RowOp) (told : Reply) → Front (take k l) d → IsConflict (basis G) (log_view G l) b k used ops told → IsConflict (basis G) (log_view G d) b k used ops told
conflict_part G l d k b used ops told p e =
    let later : b < k = e.later in
    let le : k ≤ length l = e.within in
    let tl = take_length k l le in
    let fl = front_length p in
    let same = same_part G l d k p le in
    record { has_ops = e.has_ops; later = e.later; within = omega arith; item = e.item; touched = touched_same same k (omega arith) (omega arith) used e.item e.touched; untouched = untouched_same same b k used (omega arith) (omega arith) e.untouched; is_told = e.is_told }

duplicate_part : (G : Setting) (l d : List KeptEntry) (k b : ℕ) (used : List Used) (ops : List RowOp) (table key : List ℕ) → Front (take k l) d → IsDuplicate (basis G) (log_view G l) b k used ops table key → IsDuplicate (basis G) (log_view G d) b k used ops table key
duplicate_part G l d k b used ops table key p e =
    let begun : b ≤ k = e.begun in
    let le : k ≤ length l = e.within in
    let tl = take_length k l le in
    let fl = front_length p in
    let same = same_part G l d k p le in
    record {
      has_ops = e.has_ops;
      begun = e.begun;
      within = omega arith;
      untouched = untouched_same same b (k + 1) used (omega arith) (omega arith) e.untouched;
      breaks = ap (λ (rows : Rows). first_broken G.tables (apply_all rows ops).tables) (sym (sym (same_rows G (front_take k l) k tl) ∙ same_rows G p k tl)) ∙ e.breaks;
    }

-- what is refused, over a durable log that begins with that of the replies
pub record RefusedOn (G : Setting) (f : Field) (s : ℕ) (t : Transaction) (b : ℕ) (a : Answered) (log : List KeptEntry) (why : Reply) : Type 0 where
  pub whole : List KeptEntry
  pub durable : DurableNow G.nodes f whole
  pub begins : Front log whole
  pub right : IsRight (basis G) (log_view G whole) (G.names s) t b (used_at t.level a) a.ops why

-- the request of a refusal, and the log up to its position
record Decided (G : Setting) (h : List (ℕ × ActorEvent)) (t : Transaction) (o : Opened) (a : Answered) (log : List KeptEntry) (k : ℕ) (why : Reply) : Type 0 where
  z : Settled
  sent : Sent
  is_right : IsRightRefusal G z.log sent why
  fronted : Fronted G (field h) log z k
  same : o.begin ≤ k → k ≤ length z.log → SameSent t o a sent
  begin : sent.begin ≡ o.begin

decided : (G : Setting) → AreNamedApart G → (h : List (ℕ × ActorEvent)) (s : ℕ) → Rising 0 (work_of G s) → IsLegalHistory G h → (t : Transaction) (o : Opened) → IsInTransaction (part G s h) t o → (k : ℕ) (why : Reply) (a : Answered) (ans : AreRepliesTold G (field h) t o.begin (part G s h).mine a) → IsRefused (field h) (commit_id_of G s t o) k why → Decided G h t o a ans.log k why
decided G far h s rising legal t o at k why a ans r =
    let ok = (settles_ok G h legal).at r.settled r.mem in
    let f = fronted G h legal ans.log ans.durable (commit_id_of G s t o) k why r ok in
    let id = ok.id' ∙ r.its_id in
    record {
      z = r.settled;
      sent = ok.sent;
      is_right = subst (λ y. IsRightRefusal G r.settled.log ok.sent y) r.its_refusal ok.why';
      fronted = f;
      same = λ lo hi. same_sent G far h s rising legal t o at a (kept_rows_at G ans.log o.begin) ans.alone r.settled.log ok.sent id ok.request (λ e. front_rows G ans.log f.whole r.settled.log k o.begin f.begins f.front ans.within lo hi);
      begin = same_begin G far h s rising legal t o at r.settled.log ok.sent id ok.request;
    }

conflict_right : (G : Setting) (h : List (ℕ × ActorEvent)) (s : ℕ) (t : Transaction) (o : Opened) (a : Answered) (log : List KeptEntry) (k : ℕ) (why told : Reply) (x : Decided G h t o a log k why) → IsConflict (basis G) (log_view G x.z.log) x.sent.begin k x.sent.used x.sent.ops told → IsConflict (basis G) (log_view G x.fronted.whole) o.begin k (used_at t.level a) a.ops told
conflict_right G h s t o a log k why told x c =
    let later : x.sent.begin < k = c.later in
    let b : x.sent.begin ≡ o.begin = x.begin in
    let same = x.same (omega arith) c.within in
    subst (λ z. IsConflict (basis G) (log_view G x.fronted.whole) o.begin k (used_at t.level a) z told) same.ops (subst (λ z. IsConflict (basis G) (log_view G x.fronted.whole) o.begin k z x.sent.ops told) same.used (subst (λ z. IsConflict (basis G) (log_view G x.fronted.whole) z k x.sent.used x.sent.ops told) same.begin
    (conflict_part G x.z.log x.fronted.whole k x.sent.begin x.sent.used x.sent.ops told x.fronted.front c)))

duplicate_right : (G : Setting) (h : List (ℕ × ActorEvent)) (s : ℕ) (t : Transaction) (o : Opened) (a : Answered) (log : List KeptEntry) (k : ℕ) (why : Reply) (table key : List ℕ) (x : Decided G h t o a log k why) → IsDuplicate (basis G) (log_view G x.z.log) x.sent.begin k x.sent.used x.sent.ops table key → IsDuplicate (basis G) (log_view G x.fronted.whole) o.begin k (used_at t.level a) a.ops table key
duplicate_right G h s t o a log k why table key x c =
    let begun : x.sent.begin ≤ k = c.begun in
    let b : x.sent.begin ≡ o.begin = x.begin in
    let same = x.same (omega arith) c.within in
    subst (λ z. IsDuplicate (basis G) (log_view G x.fronted.whole) o.begin k (used_at t.level a) z table key) same.ops (subst (λ z. IsDuplicate (basis G) (log_view G x.fronted.whole) o.begin k z x.sent.ops table key) same.used (subst (λ z. IsDuplicate (basis G) (log_view G x.fronted.whole) z k x.sent.used x.sent.ops table key) same.begin
    (duplicate_part G x.z.log x.fronted.whole k x.sent.begin x.sent.used x.sent.ops table key x.fronted.front c)))

pub genid_right : (G : Setting) → AreNamedApart G → (h : List (ℕ × ActorEvent)) (s : ℕ) → Rising 0 (work_of G s) → IsLegalHistory G h → (t : Transaction) (o : Opened) → IsInTransaction (part G s h) t o → (k : ℕ) (table : List ℕ) (genid : ℕ) (a : Answered) (ans : AreRepliesTold G (field h) t o.begin (part G s h).mine a) → IsRefused (field h) (commit_id_of G s t o) k (reply.ConflictGenid k table genid) → RefusedOn G (field h) s t o.begin a ans.log (reply.ConflictGenid k table genid)
genid_right G far h s rising legal t o at k table genid a ans r =
    let x = decided G far h s rising legal t o at k (reply.ConflictGenid k table genid) a ans r in
    record { whole = x.fronted.whole; durable = x.fronted.durable; begins = x.fronted.begins; right = conflict_right G h s t o a ans.log k _ (reply.ConflictGenid k table genid) x x.is_right }

pub range_right : (G : Setting) → AreNamedApart G → (h : List (ℕ × ActorEvent)) (s : ℕ) → Rising 0 (work_of G s) → IsLegalHistory G h → (t : Transaction) (o : Opened) → IsInTransaction (part G s h) t o → (k : ℕ) (table key : List ℕ) (a : Answered) (ans : AreRepliesTold G (field h) t o.begin (part G s h).mine a) → IsRefused (field h) (commit_id_of G s t o) k (reply.ConflictRange k table key) → RefusedOn G (field h) s t o.begin a ans.log (reply.ConflictRange k table key)
range_right G far h s rising legal t o at k table key a ans r =
    let x = decided G far h s rising legal t o at k (reply.ConflictRange k table key) a ans r in
    record { whole = x.fronted.whole; durable = x.fronted.durable; begins = x.fronted.begins; right = conflict_right G h s t o a ans.log k _ (reply.ConflictRange k table key) x x.is_right }

pub double_right : (G : Setting) → AreNamedApart G → (h : List (ℕ × ActorEvent)) (s : ℕ) → Rising 0 (work_of G s) → IsLegalHistory G h → (t : Transaction) (o : Opened) → IsInTransaction (part G s h) t o → (k : ℕ) (table key : List ℕ) (a : Answered) (ans : AreRepliesTold G (field h) t o.begin (part G s h).mine a) → IsRefused (field h) (commit_id_of G s t o) k (reply.Duplicate k table key) → RefusedOn G (field h) s t o.begin a ans.log (reply.Duplicate k table key)
double_right G far h s rising legal t o at k table key a ans r =
    let x = decided G far h s rising legal t o at k (reply.Duplicate k table key) a ans r in
    record { whole = x.fronted.whole; durable = x.fronted.durable; begins = x.fronted.begins; right = duplicate_right G h s t o a ans.log k _ table key x x.is_right }
