-- A session that sent nothing since its transaction began sent nothing of that transaction.
use Rattle.std.proofs.Common.{ℕ, ◌≡◌, ◌+◌, ◌<◌, ◌≤◌, List, [], ◌∷◌, ◌++◌, arith, refl, sym, subst, ap, ◌∙◌}
use Rattle.std.specs.Prelude.{◌==◌, cond, Bool, true, false, Some, None}
use Rattle.std.specs.Str.{bytes_eq}
use Rattle.std.proofs.lemmas.Bool.Decides.{Decides-eqb}
use Rattle.std.proofs.lemmas.Option.{same_Some}
use Rattle.actor_trace.specs.History.{entries_of}
use Rattle.actor_trace.specs.Steps.{Adds, Rests}
use Rattle.actor_trace.proofs.Entries.{idle_step, not_eq}
use Rattle.cdb_values.specs.declared.replies.Reply.{Reply}
use Rattle.cdb_values.specs.declared.tables.TableDef.{TableDef}
use Rattle.core_lists.specs.Lists.{Each, In}
use Rattle.core_lists.specs.Lists.In.{here, there}
use Rattle.core_lists.proofs.Lists.{each_add, each_more}
use Rattle.cluster_answers.proofs.EntryLaws.{SentOk, sends_ok}
use Rattle.cluster_answers.proofs.NumberLaws.{Counted, counted}
use Rattle.cluster_events.specs.Guards.{AreNamedApart, IsAtTransaction, IsLegalHistory, MayDo, Rising, Sends, commit_id_of}
use Rattle.cluster_events.specs.Parts.{ActorEvent, Opened, Part, moves, part, field}
use Rattle.cluster_events.specs.Parts.ActorEvent.{Begun, Note, Send, Finish}
use Rattle.cluster_events.specs.Settings.{Setting, work_of}
use Rattle.cluster_requests.specs.Requests.{Sent}
use Rattle.cluster_steps.specs.Guards.{AreLegalSteps}
use Rattle.cluster_steps.specs.Named.{begin_of, current_transaction, named, named_reply, named_settled, reply_in, sent_of, steps}
use Rattle.cluster_steps.specs.declared.events.Event.{Event}
use Rattle.cluster_steps.specs.declared.events.Event.TheVariants as event
use Rattle.cluster_steps.proofs.StepLaws.{idle_part}
use Rattle.history_report.proofs.NumberLaws.{AreInTurn, work_in_turn}
use Rattle.phys_log.specs.declared.entries.CommitId.{CommitId}
use Rattle.phys_log.specs.declared.requests.Decision.{Decision}
use Rattle.phys_log.specs.declared.requests.Decision.TheVariants as decision
use Rattle.report_laws.specs.Work.{Does, Lone, Transaction, WorkItem}
use Rattle.report_laws.proofs.SoFarLemmas.{same_name}
use Rattle.session_outcomes.specs.Sends.{AreUnsent, IsNoSend, IsSentAlone, has_sent, sent_by}

-- transactions are numbered upwards
rises : (k : ℕ) (items : List WorkItem) → AreInTurn (k + 1) items → Rising k items
rises k [] turn = tt
rises k (Does t ∷ items) turn =
    let e : t.number ≡ k + 1 = turn.0 in
    let low : k < t.number = omega (arith, e) in
    (low, subst (λ n. Rising n items) (sym e) (rises (k + 1) items turn.1))
rises k (Lone r ∷ items) turn = rises k items turn

work_rises : (G : Setting) (s : ℕ) → Rising 0 (work_of G s)
work_rises G s = rises 0 (work_of G s) (work_in_turn G s)

-- a name is its own
other_name : (a b : List ℕ) → a ≡ b → bytes_eq a b ≡ false → ⊥
other_name a b e differs = let q : bytes_eq a a ≡ false = subst (λ z. bytes_eq a z ≡ false) (sym e) differs in let z : true ≡ false = sym (same_name a) ∙ q in absurd (cc)

-- who sent a request of a session is that session
sender_is : (G : Setting) → AreNamedApart G → (i s : ℕ) → G.names i ≡ G.names s → i ≡ s
sender_is G far i s e = go (i == s) refl
  where
    go : (b : Bool) → (i == s) ≡ b → i ≡ s
    go true q = (Decides-eqb i s).0 q
    go false q = absurd (other_name (G.names i) (G.names s) e (far i s q))

-- what is sent of a session's transactions began before
began_of : (G : Setting) → AreNamedApart G → (h : List (ℕ × ActorEvent)) (s : ℕ) (x : Sent) → SentOk G h x → x.id.session ≡ G.names s → In (record { txn = x.id.txn; begin = x.begin; gen = x.id.began }) (part G s h).begins
began_of G far h s x ok name = subst (λ i. In (record { txn = x.id.txn; begin = x.begin; gen = x.id.began }) (part G i h).begins) (sender_is G far x.by s (sym ok.request.name ∙ name)) ok.request.began

-- of a transaction that is about to begin nothing was sent
fresh : (G : Setting) → AreNamedApart G → (h : List (ℕ × ActorEvent)) (s : ℕ) → IsLegalHistory G h → Rising 0 (work_of G s) → (part G s h).opened ≡ None → (t : Transaction) → IsAtTransaction (part G s h) t
    → (g : ℕ) → AreUnsent (record { began = g; session = G.names s; txn = t.number }) (field h).sends
fresh G far h s legal rising none t at g = each_more (λ x ok. unsent x ok) (sends_ok G h legal)
  where
    c : Counted (part G s h)
    c = counted G h s rising legal

    unsent : (x : Sent) → SentOk G h x → x.id ≡ record { began = g; session = G.names s; txn = t.number } → ⊥
    unsent x ok is =
        let name : x.id.session ≡ G.names s = ap (λ (z : CommitId). z.session) is in
        let txn : x.id.txn ≡ t.number = ap (λ (z : CommitId). z.txn) is in
        let all = c.idle none in
        let le : x.id.txn ≤ c.low = all.0.at (record { txn = x.id.txn; begin = x.begin; gen = x.id.began }) (began_of G far h s x ok name) in
        let rises : Rising c.low (Does t ∷ at.others) = subst (λ z. Rising c.low z) at.is all.1 in
        let lt : c.low < t.number = rises.0 in
        absurd (omega (arith, le, txn, lt))

-- where it began and sent nothing since, nothing of it was sent
abbrev pub Quiet : Setting → ℕ → List Sent → Part → Type 0
Quiet G s sends p = (t : Transaction) (o : Opened) (others : List WorkItem) → p.left ≡ Does t ∷ others → p.opened ≡ Some o → AreUnsent (commit_id_of G s t o) sends

not_none : {A B : Type 0} {x : A} → None ≡ Some x → B
not_none e = absurd (cc)

same_some : {A : Type 0} {x y : A} → Some x ≡ Some y → x ≡ y
same_some {A} {x} {y} e = same_Some x y e

-- an event of its own
own_quiet : (G : Setting) → AreNamedApart G → (h : List (ℕ × ActorEvent)) (s : ℕ) (e : ActorEvent) → IsLegalHistory G h → Rising 0 (work_of G s) → MayDo G h s e → sent_by (has_sent s h) e ≡ false
    → (has_sent s h ≡ false → Quiet G s (field h).sends (part G s h)) → Quiet G s (field ((s, e) ∷ h)).sends (moves (part G s h) e)
own_quiet G far h s (Begun b g) legal rising may none quiet = λ t o others left opened.
    subst (λ (z : Opened). AreUnsent (commit_id_of G s t z) (field h).sends) (same_some opened)
    (fresh G far h s legal rising may.2 t (record { others = others; is = left }) g)
own_quiet G far h s (Send x) legal rising may none quiet = absurd (let z : true ≡ false = none in cc)
own_quiet G far h s (Finish a) legal rising may none quiet = λ t o others left opened. not_none opened
own_quiet G far h s Note legal rising may none quiet = λ t o others left opened. not_none opened
own_quiet G far h s _ legal rising may none quiet = quiet none

-- what another actor sends is none of a session's
not_its : (G : Setting) → AreNamedApart G → (h : List (ℕ × ActorEvent)) (s i : ℕ) (x : Sent) (t : Transaction) (o : Opened) → (s == i) ≡ false → Sends G h i x → x.id ≡ commit_id_of G s t o → ⊥
not_its G far h s i x t o other may is =
    let name : G.names i ≡ G.names s = ap (λ (z : CommitId). z.session) (sym may.its_id ∙ is) in
    let same : i ≡ s = sender_is G far i s name in
    let q : (s == s) ≡ false = subst (λ z. (s == z) ≡ false) same other in
    let y : (s == s) ≡ true = (Decides-eqb s s).1 refl in
    let z : true ≡ false = sym y ∙ q in
    absurd (cc)

-- an event of another actor
other_quiet : (G : Setting) → AreNamedApart G → (h : List (ℕ × ActorEvent)) (s i : ℕ) (e : ActorEvent) → (s == i) ≡ false → MayDo G h i e → (p : Part) → Quiet G s (field h).sends p → Quiet G s (field ((i, e) ∷ h)).sends p
other_quiet G far h s i (Send x) other may p quiet = λ t o others left opened. each_add (not_its G far h s i x t o other may.1) (quiet t o others left opened)
other_quiet G far h s i _ other may p quiet = quiet

pub quiet : (G : Setting) → AreNamedApart G → (h : List (ℕ × ActorEvent)) (s : ℕ) → IsLegalHistory G h → has_sent s h ≡ false → Quiet G s (field h).sends (part G s h)
quiet G far [] s legal none = λ t o others left opened. not_none opened
quiet G far (x ∷ h) s legal none = go (quiet G far h s legal.1) (s == x.0) refl none
  where
    go : (has_sent s h ≡ false → Quiet G s (field h).sends (part G s h)) → (b : Bool) → (s == x.0) ≡ b → cond b (sent_by (has_sent s h) x.1) (has_sent s h) ≡ false
        → Quiet G s (field (x ∷ h)).sends (cond b (moves (part G s h) x.1) (part G s h))
    go before true q none =
        let same : s ≡ x.0 = (Decides-eqb s x.0).0 q in
        let may : MayDo G h s x.1 = subst (λ k. MayDo G h k x.1) (sym same) legal.0 in
        subst (λ k. Quiet G s (field ((k, x.1) ∷ h)).sends (moves (part G s h) x.1)) same (own_quiet G far h s x.1 legal.1 (work_rises G s) may none before)
    go before false q none = other_quiet G far h s x.0 x.1 q legal.0 (part G s h) (before none)

-- others send nothing of a session's
others_row : (G : Setting) (s : ℕ) (t : Transaction) (o : Opened) (P : Sent → Type 0) → AreNamedApart G → (g : List (ℕ × ActorEvent)) (i : ℕ) (e : ActorEvent) → (s == i) ≡ false → MayDo G g i e
    → Each (λ x. x.id ≡ commit_id_of G s t o → P x) (field g).sends → Each (λ x. x.id ≡ commit_id_of G s t o → P x) (field ((i, e) ∷ g)).sends
others_row G s t o P far g i (Send x) other may all = each_add (λ is. absurd (not_its G far g s i x t o other may.1 is)) all
others_row G s t o P far g i _ other may all = all

others_sends : (G : Setting) (s : ℕ) (t : Transaction) (o : Opened) (P : Sent → Type 0) → AreNamedApart G → (between old : List (ℕ × Event)) → AreLegalSteps G (between ++ old) → entries_of s (between ++ old) ≡ entries_of s old
    → Each (λ x. x.id ≡ commit_id_of G s t o → P x) (field (steps G old)).sends → Each (λ x. x.id ≡ commit_id_of G s t o → P x) (field (steps G (between ++ old))).sends
others_sends G s t o P far [] old legal own all = all
others_sends G s t o P far (x ∷ between) old legal own all =
    let i = idle_step s x between old own in
    others_row G s t o P far (steps G (between ++ old)) x.0 (named G (steps G (between ++ old)) x.0 x.1) (not_eq s x.0 i.0) legal.0.allowed.may (others_sends G s t o P far between old legal.1 i.1 all)

-- what was sent stays sent
sends_row : (g : List (ℕ × ActorEvent)) (i : ℕ) (e : ActorEvent) (x : Sent) → In x (field g).sends → In x (field ((i, e) ∷ g)).sends
sends_row g i (Send y) x m = there m
sends_row g i _ x m = m

sends_on : (G : Setting) (later h : List (ℕ × Event)) (x : Sent) → In x (field (steps G h)).sends → In x (field (steps G (later ++ h))).sends
sends_on G [] h x m = m
sends_on G (y ∷ later) h x m = sends_row (steps G (later ++ h)) y.0 (named G (steps G (later ++ h)) y.0 y.1) x (sends_on G later h x m)

-- a commit that is sent where none was sent of its transaction is the only one of it
pub sent_alone : (G : Setting) (s : ℕ) (old new : List (ℕ × Event)) (t : Transaction) (others : List WorkItem) (o : Opened) (master gen : ℕ) → AreNamedApart G → AreLegalSteps G new → Adds s (event.Send master gen) old new
    → (part G s (steps G old)).left ≡ Does t ∷ others → (part G s (steps G old)).opened ≡ Some o → AreUnsent (commit_id_of G s t o) (field (steps G old)).sends → IsSentAlone (commit_id_of G s t o) master gen (field (steps G new)).sends
sent_alone G s old new t others o master gen far legal d left opened none = subst (λ z. IsSentAlone (commit_id_of G s t o) master gen (field (steps G z)).sends) (sym d.whole) (record {
  sent = record { it = sent_of G (field k).core s master gen (current_transaction (part G s k).left) (begin_of (part G s k).opened); mem = here; is = (its, refl, refl) };
  alone = each_add (λ e. (refl, refl)) (each_more (λ y no e. absurd (no e)) unsent);
})
  where
    k : List (ℕ × ActorEvent)
    k = steps G (d.between ++ old)

    law : AreLegalSteps G ((s, event.Send master gen) ∷ (d.between ++ old))
    law = subst (λ z. AreLegalSteps G z) d.whole legal

    unsent : AreUnsent (commit_id_of G s t o) (field (steps G (d.between ++ old))).sends
    unsent = others_sends G s t o (λ x. ⊥) far d.between old law.1 d.none none

    same : part G s (steps G (d.between ++ old)) ≡ part G s (steps G old)
    same = idle_part G s d.between old d.none

    txn : current_transaction (part G s (steps G (d.between ++ old))).left ≡ t
    txn = ap current_transaction (ap (λ (p : Part). p.left) same ∙ left)

    start : begin_of (part G s (steps G (d.between ++ old))).opened ≡ o
    start = ap begin_of (ap (λ (p : Part). p.opened) same ∙ opened)

    its : commit_id_of G s (current_transaction (part G s (steps G (d.between ++ old))).left) (begin_of (part G s (steps G (d.between ++ old))).opened) ≡ commit_id_of G s t o
    its = ap (λ z. commit_id_of G s z (begin_of (part G s (steps G (d.between ++ old))).opened)) txn ∙ ap (λ z. commit_id_of G s t z) start

-- and it stays that, while its session does nothing
pub alone_on : (G : Setting) (s : ℕ) (old new : List (ℕ × Event)) (t : Transaction) (o : Opened) (master gen : ℕ) → AreNamedApart G → AreLegalSteps G new → Rests s old new → IsSentAlone (commit_id_of G s t o) master gen (field (steps G old)).sends
    → IsSentAlone (commit_id_of G s t o) master gen (field (steps G new)).sends
alone_on G s old new t o master gen far legal d was = subst (λ z. IsSentAlone (commit_id_of G s t o) master gen (field (steps G z)).sends) (sym d.whole) (record {
  sent = record { it = was.sent.it; mem = sends_on G d.between old was.sent.it was.sent.mem; is = was.sent.is };
  alone = others_sends G s t o (λ x. (x.to ≡ master) × (x.gen ≡ gen)) far d.between old (subst (λ z. AreLegalSteps G z) d.whole legal) d.none was.alone;
})

-- whether it sent, by what it did
has_idle : (G : Setting) (s : ℕ) (between old : List (ℕ × Event)) → entries_of s (between ++ old) ≡ entries_of s old → has_sent s (steps G (between ++ old)) ≡ has_sent s (steps G old)
has_idle G s [] old own = refl
has_idle G s (x ∷ between) old own =
    let i = idle_step s x between old own in
    let k = steps G (between ++ old) in
    ap (λ b. cond b (sent_by (has_sent s k) (named G k x.0 x.1)) (has_sent s k)) (not_eq s x.0 i.0) ∙ has_idle G s between old i.1

pub has_rests : (G : Setting) (s : ℕ) (old new : List (ℕ × Event)) → Rests s old new → has_sent s (steps G new) ≡ has_sent s (steps G old)
has_rests G s old new d = ap (λ z. has_sent s (steps G z)) d.whole ∙ has_idle G s d.between old d.none

has_adds : (G : Setting) (s : ℕ) (e : Event) (old new : List (ℕ × Event)) (d : Adds s e old new) → has_sent s (steps G new) ≡ sent_by (has_sent s (steps G (d.between ++ old))) (named G (steps G (d.between ++ old)) s e)
has_adds G s e old new d =
    let k = steps G (d.between ++ old) in
    let y : (s == s) ≡ true = (Decides-eqb s s).1 refl in
    ap (λ z. has_sent s (steps G z)) d.whole ∙ ap (λ b. cond b (sent_by (has_sent s k) (named G k s e)) (has_sent s k)) y

settled_so : (b : Bool) (tables : List TableDef) (id : CommitId) (d : Decision) → sent_by b (named_settled tables id d) ≡ b
settled_so b tables id (decision.Repeat position) = refl
settled_so b tables id _ = refl

replied_so : (b : Bool) (items : List WorkItem) (answer : Reply) → sent_by b (named_reply items answer) ≡ b
replied_so b [] answer = refl
replied_so b (Lone r ∷ items) answer = refl
replied_so b (Does t ∷ items) answer = refl

so_by : (G : Setting) (k : List (ℕ × ActorEvent)) (s : ℕ) (b : Bool) (e : Event) → IsNoSend e → sent_by b (named G k s e) ≡ b
so_by G k s b (event.Begun position generation) is = absurd is
so_by G k s b (event.Send master generation) is = absurd is
so_by G k s b (event.Down true) is = refl
so_by G k s b (event.Down false) is = refl
so_by G k s b (event.Settle id d) is = settled_so b G.tables id.value d.value
so_by G k s b (event.Reply told) is = replied_so b (part G s k).left (reply_in told)
so_by G k s b _ is = refl

pub has_more : (G : Setting) (s : ℕ) (e : Event) (old new : List (ℕ × Event)) → IsNoSend e → Adds s e old new → has_sent s (steps G new) ≡ has_sent s (steps G old)
has_more G s e old new is d = has_adds G s e old new d ∙ (so_by G (steps G (d.between ++ old)) s (has_sent s (steps G (d.between ++ old))) e is ∙ has_idle G s d.between old d.none)

pub has_begun : (G : Setting) (s b g : ℕ) (old new : List (ℕ × Event)) → Adds s (event.Begun b g) old new → has_sent s (steps G new) ≡ false
has_begun G s b g old new d = has_adds G s (event.Begun b g) old new d
