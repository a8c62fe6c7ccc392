-- A session's lines are those of its work, over durable logs.
use Rattle.std.proofs.Common.{◌≡◌, ◌≢◌, ℕ, List, [], ◌∷◌, ◌++◌, arith, refl, ap, sym, subst, ◌∙◌}
use Rattle.std.specs.Prelude.{◌==◌, Bool, true, false, cond, Option, Some, None}
use Rattle.std.proofs.lemmas.Bool.Decides.{Decides-eqb}
use mathlib.Core.Logic.{◌⊎◌, inl, inr}
use Rattle.core_lists.specs.Fronts.{Front}
use Rattle.core_lists.specs.Fronts.Front.{front_nil, front_cons}
use Rattle.core_lists.proofs.Fronts.{front_refl, front_length, front_rest}
use Rattle.cluster_masters.specs.Reported.{IsReported}
use Rattle.cluster_consensus.proofs.Invariant.{Inv}
use Rattle.cluster_requests.specs.Requests.{Field}
use Rattle.cluster_requests.specs.KeptEntries.{KeptEntry}
use Rattle.cdb_values.specs.Rows.{Rows, no_rows}
use Rattle.cdb_values.specs.declared.rows.RowOp.{RowOp}
use Rattle.report_laws.specs.Told.{told, Numbered, numbered, Along, IsToCommit}
use Rattle.report_laws.specs.Work.{Transaction, WorkItem, Does, Lone, End, ByCommit, ByRollback, WithItsLine, Nowhere, number_of}
use Rattle.cdb_values.specs.declared.replies.Reply.{Reply}
use Rattle.cdb_values.specs.declared.replies.Reply.TheVariants as reply
use Rattle.session_language.specs.Language.{Answered}
use Rattle.session_language.specs.Touched.{Used, used_at}
use Rattle.cluster_events.specs.Settings.{Setting, basis, work_of, kept_rows_at, run_alone, log_view}
use Rattle.cluster_events.specs.Parts.{ActorEvent, Opened, Part, head_number, head_of, lone_of, with_told, with_item_over, moves, part, field, lines}
use Rattle.cluster_events.specs.Parts.ActorEvent.{Ask, Begun, Say, Note, Finish, Barrier, Fed, FedAgain}
use Rattle.cluster_events.specs.Guards.{DurableNow, AreRepliesTold, IsFrontAnswered, IsAtTransaction, IsInTransaction, commit_id_of, IsKept, Commits, MayFinish, MayDo, IsLegalHistory, AreNamedApart, Rising, IsDone}
use Rattle.report_laws.specs.Cut.{cuts}
use Rattle.report_laws.specs.Outcome.{IsEntered, IsCommitted as IsCommittedAt, IsDecided, Ends}
use Rattle.report_laws.specs.Places.{survives}
use Rattle.cluster_masters.proofs.MasterLaws.{reported_has}
use Rattle.node_reports.specs.Told.{IsToldAlong, MayBeCut}
use Rattle.cluster_events.proofs.LineLists.{append_assoc, append_nil, along_more, along_weaker}
use Rattle.cluster_events.proofs.OwnLines.{knows}
use Rattle.cluster_events.proofs.HistoryLaws.{good_of, Later, later_event, durable_later, pinged_by, begins_of}
use Rattle.cluster_answers.proofs.AskLaws.{none_some}
use Rattle.cluster_answers.proofs.EntryLaws.{same_rows, part_whole}
use Rattle.cluster_answers.proofs.AgreeLaws.{agree_front, told_on}
use Rattle.cluster_answers.proofs.OutcomeLaws.{whole_of, kept_right, genid_right, range_right, double_right}

-- a log that is durable, or the empty one
abbrev pub Firm : ℕ → Field → List KeptEntry → Type 0
Firm n f d = (d ≡ []) ⊎ DurableNow n f d

abbrev pub Fine : Setting → ℕ → Field → WorkItem → List Reply → Type 0
Fine G s f item mine = (d : List KeptEntry) × Firm G.nodes f d × IsToldAlong (basis G) (log_view G d) (G.names s) item mine

fine_later : {f g : Field} (G : Setting) (s : ℕ) → Later f g → (i : WorkItem) (m : List Reply) → Fine G s f i m → Fine G s g i m
fine_later {f} {g} G s on i m k = (k.0, elim k.1 [ inl e ↦ inl e | inr d ↦ inr (durable_later G.nodes k.0 on d) ], k.2)

part_later : {f g : Field} {t : Transaction} {b : ℕ} {m : List Reply} (G : Setting) → Later f g → IsFrontAnswered G f t b m → IsFrontAnswered G g t b m
part_later G on k = record { log = k.log; durable = durable_later G.nodes k.log on k.durable; within = k.within; fits = k.fits }

pub record OwnLines (G : Setting) (s : ℕ) (f : Field) (p : Part) : Type 0 where
  pub closed : List Numbered
  pub lines' : p.told ≡ closed ++ numbered (head_number p.left) p.mine
  pub over' : Along (Fine G s f) p.over closed
  pub idle : p.opened ≡ None → p.mine ≡ []
  pub busy : (o : Opened) (t : Transaction) → p.opened ≡ Some o → IsAtTransaction p t → IsFrontAnswered G f t o.begin p.mine
  pub head : (o : Opened) → p.opened ≡ Some o → (t : Transaction) × IsAtTransaction p t
  pub some : (o : Opened) → p.opened ≡ Some o → p.mine ≢ []

own_later : {f g : Field} {p : Part} (G : Setting) (s : ℕ) → Later f g → OwnLines G s f p → OwnLines G s g p
own_later {f} {g} {p} G s on k = record { closed = k.closed; lines' = k.lines'; over' = along_weaker (Fine G s f) (Fine G s g) p.over k.closed (λ i m x. fine_later G s on i m x) k.over'; idle = k.idle; busy = λ o t e at. part_later G on (k.busy o t e at); head = k.head; some = k.some }

numbered_more : (n : ℕ) (a : List Reply) (x : Reply) → numbered n (a ++ x ∷ []) ≡ numbered n a ++ (n, x) ∷ []
numbered_more n [] x = refl
numbered_more n (y ∷ a) x = ap (λ (z : List Numbered). (n, y) ∷ z) (numbered_more n a x)

pub said_lines : (p : Part) (closed : List Numbered) (a : Reply) → p.told ≡ closed ++ numbered (head_number p.left) p.mine → p.told ++ (head_number p.left, a) ∷ [] ≡ closed ++ numbered (head_number p.left) (p.mine ++ a ∷ [])
said_lines p closed a e = ap (λ (z : List Numbered). z ++ (head_number p.left, a) ∷ []) e ∙ (append_assoc closed (numbered (head_number p.left) p.mine) ((head_number p.left, a) ∷ []) ∙ ap (λ (z : List Numbered). closed ++ z) (sym (numbered_more (head_number p.left) p.mine a)))

-- an item is over
over_lines : (G : Setting) (s : ℕ) (f : Field) (p : Part) (a : Reply) (i : WorkItem) (others : List WorkItem) → p.left ≡ i ∷ others → OwnLines G s f p → Fine G s f i (p.mine ++ a ∷ []) → OwnLines G s f (with_item_over (with_told p a))
over_lines G s f p a i others e k x = record {
  closed = k.closed ++ numbered (number_of i) (p.mine ++ a ∷ []);
  lines' = said_lines p k.closed a k.lines' ∙ (ap (λ z. k.closed ++ numbered z (p.mine ++ a ∷ [])) (ap (λ z. head_number z) e) ∙ sym (append_nil (k.closed ++ numbered (number_of i) (p.mine ++ a ∷ []))));
  over' = subst (λ (z : List WorkItem). Along (Fine G s f) (p.over ++ z) (k.closed ++ numbered (number_of i) (p.mine ++ a ∷ []))) (sym (ap (λ z. head_of z) e)) (along_more (Fine G s f) p.over k.closed i (p.mine ++ a ∷ []) k.over' x);
  idle = λ q. refl;
  busy = λ o t q. none_some q;
  head = λ o q. none_some q;
  some = λ o q. none_some q;
}

cut_part : (G : Setting) (s : ℕ) (f : Field) (t : Transaction) (b : ℕ) (mine : List Reply) (c : Reply) → cuts c ≡ true → ((ops : List RowOp) (rest : List Reply) → MayBeCut (survives G.script (G.names s)) t.end ops mine rest c) → IsFrontAnswered G f t b mine → Fine G s f (Does t) (mine ++ c ∷ [])
cut_part G s f t b mine c is may k =
    let r = front_rest k.fits in
    (k.log, inr k.durable, inr (record { begin = b; base = omega arith; within = k.within; ran = run_alone G (kept_rows_at G k.log b) t; is_ran = refl; front = mine; rest = r.0; fits = r.1; cause = c; is_cause = is; may = may (run_alone G (kept_rows_at G k.log b) t).ops r.0; says = refl }))

cut_none : (G : Setting) (s : ℕ) (f : Field) (t : Transaction) (mine : List Reply) (c : Reply) → cuts c ≡ true → ((ops : List RowOp) (rest : List Reply) → MayBeCut (survives G.script (G.names s)) t.end ops [] rest c) → mine ≡ [] → Fine G s f (Does t) (mine ++ c ∷ [])
cut_none G s f t mine c is may e = ([], inl refl, inr (record { begin = 0; base = omega arith; within = omega arith; ran = run_alone G (kept_rows_at G [] 0) t; is_ran = refl; front = []; rest = reply.Begin 0 ∷ (run_alone G (kept_rows_at G [] 0) t).replies; fits = refl; cause = c; is_cause = is; may = may _ _; says = ap (λ z. z ++ c ∷ []) e }))

cut_any : (G : Setting) (s : ℕ) (f : Field) (p : Part) (t : Transaction) (c : Reply) → cuts c ≡ true → ((mine : List Reply) (ops : List RowOp) (rest : List Reply) → MayBeCut (survives G.script (G.names s)) t.end ops mine rest c) → IsAtTransaction p t → OwnLines G s f p → Fine G s f (Does t) (p.mine ++ c ∷ [])
cut_any G s f p t c is may at k = go p.opened refl
  where
    go : (b : Option Opened) → p.opened ≡ b → Fine G s f (Does t) (p.mine ++ c ∷ [])
    go None e = cut_none G s f t p.mine c is (may []) (k.idle e)
    go (Some o) e = cut_part G s f t o.begin p.mine c is (may p.mine) (k.busy o t e at)

-- at its commit
cut_commit : (G : Setting) (s : ℕ) (f : Field) (t : Transaction) (b : ℕ) (mine : List Reply) (a : Answered) (up nodes : ℕ) → IsToCommit t.end → a.ops ≢ [] → AreRepliesTold G f t b mine a → Fine G s f (Does t) (mine ++ reply.NoMajority up nodes ∷ [])
cut_commit G s f t b mine a up nodes ends some k =
    (k.log, inr k.durable, inr (record { begin = b; base = omega arith; within = k.within; ran = a; is_ran = k.alone; front = mine; rest = []; fits = append_nil mine ∙ k.says; cause = reply.NoMajority up nodes; is_cause = refl; may = inl (inr (refl, some, ends)); says = refl }))

pub at_of : {p : Part} {t : Transaction} {o : Opened} → IsInTransaction p t o → IsAtTransaction p t
at_of i = record { others = i.others; is = i.is }

committed_some : (G : Setting) (d : List KeptEntry) (s : ℕ) (t : Transaction) (b k : ℕ) (used : List Used) (ops : List RowOp) → ops ≢ [] → IsEntered (basis G) (log_view G d) (G.names s) t b k used → IsCommittedAt (basis G) (log_view G d) (G.names s) t b k used ops
committed_some G d s t b k used [] ne r = absurd (ne refl)
committed_some G d s t b k used (x ∷ xs) ne r = r

ends_by : (end : End) (o : Reply) → IsToCommit end → IsDecided o → Ends end (o ∷ [])
ends_by ByCommit o k d = d
ends_by WithItsLine o k d = d
ends_by ByRollback o k d = absurd k
ends_by Nowhere o k d = absurd k

pub some_eq : {A : Type 0} {x y : A} → Some x ≡ Some y → x ≡ y
some_eq e = cc

pub does_eq : {t u : Transaction} {xs ys : List WorkItem} → Does t ∷ xs ≡ Does u ∷ ys → t ≡ u
does_eq e = cc

pub lone_does : {A : Type 0} {t : Transaction} {r : Reply} {xs ys : List WorkItem} → Lone r ∷ xs ≡ Does t ∷ ys → A
lone_does e = absurd (cc)

-- what is finished, is finished rightly
abbrev Finished : Setting → List (ℕ × ActorEvent) → ℕ → Reply → Type 0
Finished G h s a = (t : Transaction) × IsAtTransaction (part G s h) t × Fine G s (field h) (Does t) ((part G s h).mine ++ a ∷ [])

finish_fine : (G : Setting) → AreNamedApart G → (h : List (ℕ × ActorEvent)) (s : ℕ) (a : Reply) → Rising 0 (work_of G s) → IsLegalHistory G h → OwnLines G s (field h) (part G s h) → MayFinish G h s a → Finished G h s a
finish_fine G far h s reply.RolledBack rising legal k may =
    (may.0, at_of may.2, (may.5.log, inr may.5.durable, whole_of G (field h) s may.0 may.1.begin (part G s h).mine may.4 reply.RolledBack may.5.log may.5 (front_refl may.5.log) (subst (λ z. Ends z (reply.RolledBack ∷ [])) (sym may.3) refl) may.3))
finish_fine G far h s (reply.Committed n) rising legal k may = (c.txn, at_of c.at, go may.1)
  where
    c : Commits G h s
    c = may.0

    go : ((may.0.ran.ops ≡ []) × (n ≡ may.0.start.begin)) ⊎ ((may.0.ran.ops ≢ []) × IsKept (field h) (commit_id_of G s may.0.txn may.0.start) n) → Fine G s (field h) (Does may.0.txn) ((part G s h).mine ++ reply.Committed n ∷ [])
    go (inl e) = (c.answered.log, inr c.answered.durable, whole_of G (field h) s c.txn c.start.begin (part G s h).mine c.ran (reply.Committed n) c.answered.log c.answered (front_refl c.answered.log) (ends_by c.txn.end (reply.Committed n) c.ends tt) (subst (λ z. IsCommittedAt (basis G) (log_view G c.answered.log) (G.names s) c.txn c.start.begin n (used_at c.txn.level c.ran) z) (sym e.0) e.1))
    go (inr r) =
        let x = kept_right G far h s rising legal c.txn c.start c.at n c.ran c.answered r.1 in
        (x.whole, inr x.durable, whole_of G (field h) s c.txn c.start.begin (part G s h).mine c.ran (reply.Committed n) x.whole c.answered x.begins (ends_by c.txn.end (reply.Committed n) c.ends tt) (committed_some G x.whole s c.txn c.start.begin n (used_at c.txn.level c.ran) c.ran.ops r.0 x.entered))
finish_fine G far h s (reply.ConflictGenid n i g) rising legal k may =
    let c = may.0 in
    let x = genid_right G far h s rising legal c.txn c.start c.at n i g c.ran c.answered may.1 in
    (c.txn, at_of c.at, (x.whole, inr x.durable, whole_of G (field h) s c.txn c.start.begin (part G s h).mine c.ran (reply.ConflictGenid n i g) x.whole c.answered x.begins (ends_by c.txn.end (reply.ConflictGenid n i g) c.ends tt) x.right))
finish_fine G far h s (reply.ConflictRange n i g) rising legal k may =
    let c = may.0 in
    let x = range_right G far h s rising legal c.txn c.start c.at n i g c.ran c.answered may.1 in
    (c.txn, at_of c.at, (x.whole, inr x.durable, whole_of G (field h) s c.txn c.start.begin (part G s h).mine c.ran (reply.ConflictRange n i g) x.whole c.answered x.begins (ends_by c.txn.end (reply.ConflictRange n i g) c.ends tt) x.right))
finish_fine G far h s (reply.Duplicate n i g) rising legal k may =
    let c = may.0 in
    let x = double_right G far h s rising legal c.txn c.start c.at n i g c.ran c.answered may.1 in
    (c.txn, at_of c.at, (x.whole, inr x.durable, whole_of G (field h) s c.txn c.start.begin (part G s h).mine c.ran (reply.Duplicate n i g) x.whole c.answered x.begins (ends_by c.txn.end (reply.Duplicate n i g) c.ends tt) x.right))
finish_fine G far h s (reply.Lost n d) rising legal k may = (may.0, at_of may.2, cut_part G s (field h) may.0 may.1.begin (part G s h).mine (reply.Lost n d) refl (λ ops rest. inl (k.some may.1 may.2.opened)) (k.busy may.1 may.0 may.2.opened (at_of may.2)))
finish_fine G far h s (reply.NoMajority u n) rising legal k may = (may.0, may.1, go may.3)
  where
    go : ((part G s h).opened ≡ None) ⊎ ((survives G.script (G.names s) ≡ true) ⊎ ((c : Commits G h s) × (c.ran.ops ≢ []))) → Fine G s (field h) (Does may.0) ((part G s h).mine ++ reply.NoMajority u n ∷ [])
    go (inl e) = cut_none G s (field h) may.0 (part G s h).mine (reply.NoMajority u n) refl (λ ops rest. inl (inl refl)) (k.idle e)
    go (inr (inl e)) = cut_any G s (field h) (part G s h) may.0 (reply.NoMajority u n) refl (λ mine ops rest. inr (e, refl)) may.1 k
    go (inr (inr c)) = subst (λ (z : Transaction). Fine G s (field h) (Does z) ((part G s h).mine ++ reply.NoMajority u n ∷ [])) (does_eq (sym c.0.at.is ∙ may.1.is)) (cut_commit G s (field h) c.0.txn c.0.start.begin (part G s h).mine c.0.ran u n c.0.ends c.1 c.0.answered)
finish_fine G far h s reply.NoMemory rising legal k may = (may.0, may.1, cut_any G s (field h) (part G s h) may.0 reply.NoMemory refl (λ mine ops rest. inl tt) may.1 k)
finish_fine G far h s _ rising legal k may = absurd may

first_line : (mine : List Reply) (a : Reply) (more : List Reply) → mine ≡ [] → Front (mine ++ a ∷ []) (a ∷ more)
first_line [] a more e = front_cons front_nil
first_line (x ∷ mine) a more e = absurd (cc)

not_none : (mine : List Reply) (a : Reply) → mine ++ a ∷ [] ≢ []
not_none [] a e = absurd (cc)
not_none (x ∷ mine) a e = absurd (cc)

same_item : {p q : Part} (G : Setting) (s : ℕ) (f : Field) → q.told ≡ p.told → q.left ≡ p.left → q.mine ≡ p.mine → q.over ≡ p.over → q.opened ≡ p.opened → OwnLines G s f p → OwnLines G s f q
same_item {p} {q} G s f a b c d e k = record {
  closed = k.closed;
  lines' = a ∙ (k.lines' ∙ (ap (λ z. k.closed ++ numbered (head_number z) p.mine) (sym b) ∙ ap (λ z. k.closed ++ numbered (head_number q.left) z) (sym c)));
  over' = subst (λ z. Along (Fine G s f) z k.closed) (sym d) k.over';
  idle = λ z. c ∙ k.idle (sym e ∙ z);
  busy = λ o u z at. subst (λ y. IsFrontAnswered G f u o.begin y) (sym c) (k.busy o u (sym e ∙ z) (record { others = at.others; is = sym b ∙ at.is }));
  head = λ o z. (let r = k.head o (sym e ∙ z) in (r.0, record { others = r.1.others; is = b ∙ r.1.is }));
  some = λ o z y. k.some o (sym e ∙ z) (sym c ∙ y);
}

lines_row : (G : Setting) → AreNamedApart G → (h : List (ℕ × ActorEvent)) (s : ℕ) (e : ActorEvent) → Rising 0 (work_of G s) → IsLegalHistory G h → MayDo G h s e → OwnLines G s (field h) (part G s h) → OwnLines G s (field h) (moves (part G s h) e)
lines_row G far h s (Ask t) rising legal may k = same_item G s (field h) refl refl refl refl refl k
lines_row G far h s Barrier rising legal may k = same_item G s (field h) refl refl refl refl refl k
lines_row G far h s (Fed d g) rising legal may k = same_item G s (field h) refl refl refl refl refl k
lines_row G far h s (FedAgain d) rising legal may k = same_item G s (field h) refl refl refl refl refl k
lines_row G far h s (Begun b g) rising legal may k =
    let p = part G s h in
    let q = begins_of G h legal b g (pinged_by G.nodes (field h) may.0 b g may.5) in
    record {
      closed = k.closed;
      lines' = said_lines p k.closed (reply.Begin b) k.lines';
      over' = k.over';
      idle = λ e. none_some (sym e);
      busy = λ o t e at. subst (λ z. IsFrontAnswered G (field h) t z.begin (p.mine ++ reply.Begin b ∷ [])) (some_eq e) (record { log = q.log; durable = (q.gen, q.durable); within = q.within; fits = first_line p.mine (reply.Begin b) _ (k.idle may.2) });
      head = λ o e. (may.3, record { others = may.4.others; is = may.4.is });
      some = λ o e. not_none p.mine (reply.Begin b);
    }
lines_row G far h s (Say r) rising legal may k =
    let p = part G s h in
    record {
      closed = k.closed;
      lines' = said_lines p k.closed r k.lines';
      over' = k.over';
      idle = λ e. none_some (sym e ∙ may.2.opened);
      busy = λ o t e at. subst (λ z. IsFrontAnswered G (field h) z o.begin (p.mine ++ r ∷ [])) (does_eq (sym may.2.is ∙ at.is)) (subst (λ z. IsFrontAnswered G (field h) may.0 z.begin (p.mine ++ r ∷ [])) (some_eq (sym may.2.opened ∙ e)) may.3);
      head = λ o e. (may.0, record { others = may.2.others; is = may.2.is });
      some = λ o e. not_none p.mine r;
    }
lines_row G far h s Note rising legal may k = over_lines G s (field h) (part G s h) (lone_of (part G s h).left) (Lone may.0) may.1 may.2 k ([], inl refl, go (part G s h).opened refl)
  where
    says : (part G s h).mine ≡ [] → (part G s h).mine ++ lone_of (part G s h).left ∷ [] ≡ may.0 ∷ []
    says e = ap (λ z. z ++ lone_of (part G s h).left ∷ []) e ∙ ap (λ z. lone_of z ∷ []) may.2

    go : (b : Option Opened) → (part G s h).opened ≡ b → (part G s h).mine ++ lone_of (part G s h).left ∷ [] ≡ may.0 ∷ []
    go None e = says (k.idle e)
    go (Some o) e = lone_does (sym may.2 ∙ (k.head o e).1.is)
lines_row G far h s (Finish a) rising legal may k = let x = finish_fine G far h s a rising legal k may.0 in over_lines G s (field h) (part G s h) a (Does x.0) x.1.others x.1.is k x.2
lines_row G far h s _ rising legal may k = k

pub own_lines : (G : Setting) → AreNamedApart G → (s : ℕ) → Rising 0 (work_of G s) → (h : List (ℕ × ActorEvent)) → IsLegalHistory G h → OwnLines G s (field h) (part G s h)
own_lines G far s rising [] legal = record { closed = []; lines' = nil (head_number (work_of G s)); over' = refl; idle = λ e. refl; busy = λ o t e. none_some e; head = λ o e. none_some e; some = λ o e. none_some e }
  where
    nil : (n : ℕ) → [] ≡ [] ++ numbered n []
    nil n = refl
own_lines G far s rising (x ∷ h) legal = own_later G s (later_event G h x.0 x.1 (good_of G h legal.1).inv legal.0) (go (own_lines G far s rising h legal.1) (s == x.0) refl)
  where
    go : OwnLines G s (field h) (part G s h) → (b : Bool) → (s == x.0) ≡ b → OwnLines G s (field h) (cond b (moves (part G s h) x.1) (part G s h))
    go k true q = lines_row G far h s x.1 rising legal.1 (subst (λ i. MayDo G h i x.1) (sym ((Decides-eqb s x.0).0 q)) legal.0) k
    go k false q = k

-- the reported log begins with each firm one
firm_front : (n : ℕ) (f : Field) → Inv n f.core → (r : ℕ) → IsReported n f.core r → (d : List KeptEntry) → Firm n f d → Front d (f.core.nodes r).log
firm_front n f inv r top d (inl e) = subst (λ z. Front z (f.core.nodes r).log) (sym e) front_nil
firm_front n f inv r top d (inr k) = reported_has inv r top k.0 d k.1

-- what is told over a log is told over a longer one
longer_told : (G : Setting) {d e : List KeptEntry} → Front d e → (name : List ℕ) (i : WorkItem) (mine : List Reply) → IsToldAlong (basis G) (log_view G d) name i mine → IsToldAlong (basis G) (log_view G e) name i mine
longer_told G {d} {e} p name i mine k = told_on G 0 0 (no_rows []) (no_rows []) (log_view G d) (log_view G e) (agree_front G p) (omega arith) name i mine (λ b rest q. omega arith) k

pub replies_right : (G : Setting) → AreNamedApart G → (h : List (ℕ × ActorEvent)) (r s : ℕ) → Rising 0 (work_of G s) → IsLegalHistory G h → IsReported G.nodes (field h).core r → IsDone G h s → Along (IsToldAlong (basis G) (log_view G ((field h).core.nodes r).log) (G.names s)) (work_of G s) (told (G.names s) (lines G h))
replies_right G far h r s rising legal top done = subst (λ z. Along P (work_of G s) z) (sym (knows G far h s)) (go done)
  where
    R : List KeptEntry
    R = ((field h).core.nodes r).log

    P : WorkItem → List Reply → Type 0
    P = IsToldAlong (basis G) (log_view G ((field h).core.nodes r).log) (G.names s)

    p : Part
    p = part G s h

    k : OwnLines G s (field h) (part G s h)
    k = own_lines G far s rising h legal

    inv : Inv G.nodes (field h).core
    inv = (good_of G h legal).inv

    over : Along (IsToldAlong (basis G) (log_view G ((field h).core.nodes r).log) (G.names s)) (part G s h).over k.closed
    over = along_weaker (Fine G s (field h)) P (part G s h).over k.closed (λ i m x. longer_told G (firm_front G.nodes (field h) inv r top x.0 x.1) (G.names s) i m x.2) k.over'

    whole : (part G s h).over ++ (part G s h).left ≡ work_of G s
    whole = part_whole G s h

    no_mine : (part G s h).left ≡ [] → (b : Option Opened) → (part G s h).opened ≡ b → (part G s h).mine ≡ []
    no_mine e None q = k.idle q
    no_mine e (Some o) q = absurd (let z = sym e ∙ (k.head o q).1.is in cc)

    go : IsDone G h s → Along (IsToldAlong (basis G) (log_view G ((field h).core.nodes r).log) (G.names s)) (work_of G s) (part G s h).told
    go (inl e) =
        let items = ap (λ z. p.over ++ z) (sym e) ∙ whole in
        let items' = sym (append_nil p.over) ∙ items in
        let none = no_mine e p.opened refl in
        let told' = k.lines' ∙ (ap (λ z. k.closed ++ numbered (head_number p.left) z) none ∙ append_nil k.closed) in
        subst (λ z. Along P z p.told) items' (subst (λ z. Along P p.over z) (sym told') over)
    go (inr d) =
        let t = d.0 in
        let ans = d.6 in
        let f = firm_front G.nodes (field h) inv r top ans.log (inr ans.durable) in
        let le = ans.within in
        let len = front_length f in
        let w : IsToldAlong (basis G) (log_view G R) (G.names s) (Does t) p.mine = inl (record {
          begin = d.3.begin;
          base = omega arith;
          within = omega arith;
          ran = d.5;
          is_ran = ans.alone ∙ ap (λ (z : Rows). run_alone G z t) (same_rows G f d.3.begin ans.within);
          last = [];
          ends = subst (λ z. Ends z []) (sym d.2) refl;
          right = tt;
          says = ans.says ∙ ap (λ z. reply.Begin d.3.begin ∷ z) (sym (append_nil d.5.replies));
        }) in
        let items = ap (λ z. p.over ++ z) (sym d.1) ∙ whole in
        let told' = k.lines' ∙ ap (λ z. k.closed ++ numbered (head_number z) p.mine) d.1 in
        subst (λ z. Along P z p.told) items (subst (λ z. Along P (p.over ++ Does t ∷ []) z) (sym told') (along_more P p.over k.closed (Does t) p.mine over w))
