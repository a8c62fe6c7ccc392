-- What each entry of this run is, over the entries before it; and each request and refusal.
use Rattle.cluster_requests.specs.KeptEntries.{state_of}
use Rattle.std.proofs.Common.{◌≡◌, ℕ, ◌≤◌, List, [], ◌∷◌, ◌++◌, length, take, arith, refl, ap, sym, subst, ◌∙◌}
use Rattle.std.specs.Prelude.{◌==◌, zero, suc, Bool, true, false, cond, Some}
use mathlib.Core.Logic.{inl, inr}
use Rattle.core_lists.specs.Lists.{In, Each, Has}
use Rattle.core_lists.specs.Lists.In.{here, there}
use Rattle.core_lists.specs.Fronts.{Front}
use Rattle.core_lists.specs.Fronts.Front.{front_nil, front_cons}
use Rattle.core_lists.proofs.Lists.{each_add, each_none, each_more}
use Rattle.core_lists.proofs.Fronts.{front_length}
use Rattle.cluster_consensus.specs.Facts.{Admit}
use Rattle.cluster_consensus.specs.Events.{NodeEvent}
use Rattle.cluster_consensus.specs.Events.NodeEvent.{Boot, BackAppend, Append}
use Rattle.cluster_consensus.proofs.Invariant.{Inv}
use Rattle.cluster_requests.specs.Identities.{identity_of}
use Rattle.cluster_requests.specs.Requests.{Sent, Settled, Field, MayAppend}
use Rattle.phys_log.specs.declared.entries.CommitId.{CommitId}
use Rattle.cluster_requests.specs.KeptEntries.{KeptEntry}
use Rattle.cluster_requests.specs.KeptEntries.KeptEntry.{SetupKept, CommitKept}
use Rattle.cdb_values.specs.Rows.{no_rows}
use Rattle.report_laws.specs.Work.{Transaction, WorkItem, Does}
use Rattle.cdb_values.specs.declared.replies.Reply.{Reply}
use Rattle.session_language.specs.Touched.{used_at}
use Rattle.cluster_events.specs.Settings.{Setting, work_of, kept_rows_at}
use Rattle.cluster_events.specs.Parts.{ActorEvent, Opened, Began, Part, head_number, head_of, rest_of, moves, part, field}
use Rattle.cluster_events.specs.Parts.ActorEvent.{Node, Stop, Settle, Ask, Begun, Note, Send, Finish}
use Rattle.cluster_events.specs.Guards.{DurableNow, AreRepliesTold, commit_id_of, IsRightlyAppended, IsRightRefusal, BeganBy, Sends, MayDo, IsLegalHistory}
use Rattle.cluster_consensus.proofs.Generations.{durable_either}
use Rattle.cluster_consensus.proofs.FactSteps.{holds, leads_log}
use Rattle.cluster_entries.proofs.Rules.{Entries, entries}
use Rattle.cluster_masters.proofs.MasterLaws.{leader_has}
use Rattle.cluster_events.proofs.LineLists.{append_assoc, append_nil}
use Rattle.cluster_events.proofs.HistoryLaws.{steps, add_step, core_is, steps_legal, good_of, Later, later_event, durable_later, Pinged, pinged_later, begins_of}
use Rattle.cluster_answers.proofs.AskLaws.{none_some, opened_ok}
use Rattle.cluster_events.proofs.LineLists.{in_append}
use Rattle.report_text.specs.declared.reports.EntryLine.TheVariants as entries
use Rattle.cluster_entries.specs.Rules.{Enters, AllEnter}
use Rattle.cluster_answers.specs.Entries.{Request, Appended, New, Rule}

-- logs with a common front have the same rows there
pub same_take : {A : Type 0} {a b : List A} → Front a b → (k : ℕ) → k ≤ length a → take k a ≡ take k b
same_take p zero le = refl
same_take front_nil (suc k) le = absurd (omega arith)
same_take (front_cons {x = x} p) (suc k) le = ap (λ t. x ∷ t) (same_take p k (omega arith))

pub same_rows : (G : Setting) {a b : List KeptEntry} → Front a b → (k : ℕ) → k ≤ length a → kept_rows_at G a k ≡ kept_rows_at G b k
same_rows G p k le = ap (λ t. state_of t) (same_take p k le)

-- two durable logs have the same rows at a position of both
pub durable_rows : (G : Setting) (f : Field) → Inv G.nodes f.core → (a b : List KeptEntry) → DurableNow G.nodes f a → DurableNow G.nodes f b → (k : ℕ) → k ≤ length a → k ≤ length b → kept_rows_at G a k ≡ kept_rows_at G b k
durable_rows G f inv a b p q k la lb = elim (durable_either inv p.0 q.0 a b p.1 q.1) [
  | inl h ↦ same_rows G h k la
  | inr h ↦ sym (same_rows G h k lb)
]

-- a session's own part: its items are its work, and what it opened is among its begins
part_whole_row : (p : Part) (e : ActorEvent) (w : List WorkItem) → p.over ++ p.left ≡ w → (moves p e).over ++ (moves p e).left ≡ w
part_whole_row p Note w e = ended p.over p.left e
  where
    ended : (a b : List WorkItem) → a ++ b ≡ w → (a ++ head_of b) ++ rest_of b ≡ w
    ended a [] e = append_nil (a ++ []) ∙ e
    ended a (i ∷ is) e = append_assoc a (i ∷ []) is ∙ e
part_whole_row p (Finish o) w e = ended p.over p.left e
  where
    ended : (a b : List WorkItem) → a ++ b ≡ w → (a ++ head_of b) ++ rest_of b ≡ w
    ended a [] e = append_nil (a ++ []) ∙ e
    ended a (i ∷ is) e = append_assoc a (i ∷ []) is ∙ e
part_whole_row p _ w e = e

pub part_whole : (G : Setting) (s : ℕ) (h : List (ℕ × ActorEvent)) → (part G s h).over ++ (part G s h).left ≡ work_of G s
part_whole G s [] = refl
part_whole G s (x ∷ h) = go (part_whole G s h) (s == x.0)
  where
    go : (part G s h).over ++ (part G s h).left ≡ work_of G s → (b : Bool) → (cond b (moves (part G s h) x.1) (part G s h)).over ++ (cond b (moves (part G s h) x.1) (part G s h)).left ≡ work_of G s
    go e true = part_whole_row (part G s h) x.1 (work_of G s) e
    go e false = e

abbrev pub OpenIn : Part → Type 0
OpenIn p = (o : Opened) → p.opened ≡ Some o → In (record { txn = head_number p.left; begin = o.begin; gen = o.gen }) p.begins

open_row : (p : Part) (e : ActorEvent) → OpenIn p → OpenIn (moves p e)
open_row p (Begun b g) old o e = subst (λ z. In (record { txn = head_number p.left; begin = z.begin; gen = z.gen }) (record { txn = head_number p.left; begin = b; gen = g } ∷ p.begins)) (same e) here
  where
    same : Some (record { begin = b; gen = g }) ≡ Some o → record { begin = b; gen = g } ≡ o
    same e = cc
open_row p Note old o e = none_some e
open_row p (Finish a) old o e = none_some e
open_row p _ old o e = old o e

pub open_in : (G : Setting) (s : ℕ) (h : List (ℕ × ActorEvent)) → OpenIn (part G s h)
open_in G s [] o e = none_some e
open_in G s (x ∷ h) o e = go (open_in G s h) (s == x.0) o e
  where
    go : OpenIn (part G s h) → (b : Bool) → OpenIn (cond b (moves (part G s h) x.1) (part G s h))
    go old true = open_row (part G s h) x.1 old
    go old false = old

begins_row : (p : Part) (e : ActorEvent) (y : Began) → In y p.begins → In y (moves p e).begins
begins_row p (Begun b g) y m = there m
begins_row p _ y m = m

pub begins_more : (G : Setting) (s : ℕ) (x : ℕ × ActorEvent) (h : List (ℕ × ActorEvent)) (y : Began) → In y (part G s h).begins → In y (part G s (x ∷ h)).begins
begins_more G s x h y m = go (s == x.0)
  where
    go : (b : Bool) → In y (cond b (moves (part G s h) x.1) (part G s h)).begins
    go true = begins_row (part G s h) x.1 y m
    go false = m

pub request_on : {G : Setting} {h : List (ℕ × ActorEvent)} {a b : List KeptEntry} {x : Sent} → Request G h a x → kept_rows_at G a x.begin ≡ kept_rows_at G b x.begin → x.begin ≤ length b → Request G h b x
request_on r e le = record { txn = r.txn; in_work = r.in_work; name = r.name; number = r.number; commits = r.commits; level = r.level; has_ops = r.has_ops; within = le; rows = r.rows; is_rows = r.is_rows ∙ e; ops = r.ops; used = r.used; began = r.began }

pub request_later : {G : Setting} {h : List (ℕ × ActorEvent)} {a : List KeptEntry} {x : Sent} (e : ℕ × ActorEvent) → Request G h a x → Request G (e ∷ h) a x
request_later {G} {h} {a} {x} e r = record { txn = r.txn; in_work = r.in_work; name = r.name; number = r.number; commits = r.commits; level = r.level; has_ops = r.has_ops; within = r.within; rows = r.rows; is_rows = r.is_rows; ops = r.ops; used = r.used; began = begins_more G x.by e h _ r.began }

pub record SentOk (G : Setting) (h : List (ℕ × ActorEvent)) (x : Sent) : Type 0 where
  pub log : List KeptEntry
  pub durable : DurableNow G.nodes (field h) log
  pub request : Request G h log x
  pub pinged : Pinged (field h) x.begin x.id.began
  pub low : x.id.began ≤ x.gen

sent_later : {G : Setting} {h : List (ℕ × ActorEvent)} (e : ℕ × ActorEvent) {x : Sent} → Later (field h) (field (e ∷ h)) → SentOk G h x → SentOk G (e ∷ h) x
sent_later {G} e on k = record { log = k.log; durable = durable_later G.nodes k.log on k.durable; request = request_later e k.request; pinged = pinged_later on k.pinged; low = k.low }

pub in_whole : (G : Setting) (s : ℕ) (h : List (ℕ × ActorEvent)) (t : Transaction) (others : List WorkItem) → (part G s h).left ≡ Does t ∷ others → In (Does t) (work_of G s)
in_whole G s h t others e = subst (λ z. In (Does t) z) (part_whole G s h) (in_append (part G s h).over (part G s h).left (subst (λ z. In (Does t) z) (sym e) here))

new_sent : (G : Setting) (h : List (ℕ × ActorEvent)) (i : ℕ) (x : Sent) → IsLegalHistory G h → Sends G h i x → SentOk G h x
new_sent G h i x legal may = record {
  log = a.log;
  durable = a.durable;
  request = record {
    txn = t;
    in_work = subst (λ z. In (Does t) (work_of G z)) (sym may.its_by) (in_whole G i h t may.at.at.others may.at.at.is);
    name = ap (λ z. z.session) id ∙ ap (λ z. G.names z) (sym may.its_by);
    number = ap (λ z. z.txn) id;
    commits = may.at.ends;
    level = may.its_level;
    has_ops = λ e. may.has_ops (sym may.its_ops ∙ e);
    within = subst (λ z. z ≤ length a.log) (sym may.its_begin) a.within;
    rows = kept_rows_at G a.log o.begin;
    is_rows = ap (λ z. kept_rows_at G a.log z) (sym may.its_begin);
    ops = may.its_ops ∙ ap (λ z. z.ops) a.alone;
    used = may.its_used ∙ ap (λ z. used_at t.level z) a.alone;
    began = began;
  };
  pinged = subst (λ z. Pinged (field h) x.begin z.began) (sym id) (subst (λ z. Pinged (field h) z o.gen) (sym may.its_begin) (opened_ok G h legal i o may.at.at.opened));
  low = subst (λ z. z.began ≤ x.gen) (sym id) may.low;
}
  where
    t : Transaction
    t = may.at.txn

    o : Opened
    o = may.at.start

    id : x.id ≡ commit_id_of G i t o
    id = may.its_id

    a : AreRepliesTold G (field h) t o.begin (part G i h).mine may.at.ran
    a = may.at.answered

    head : head_number (part G i h).left ≡ t.number
    head = ap (λ z. head_number z) may.at.at.is

    began : In (record { txn = x.id.txn; begin = x.begin; gen = x.id.began }) (part G x.by h).begins
    began = subst (λ j. In (record { txn = x.id.txn; begin = x.begin; gen = x.id.began }) (part G j h).begins) (sym may.its_by) (subst (λ z. In (record { txn = z.txn; begin = x.begin; gen = z.began }) (part G i h).begins) (sym id) (subst (λ z. In (record { txn = t.number; begin = z; gen = o.gen }) (part G i h).begins) (sym may.its_begin) (subst (λ z. In (record { txn = z; begin = o.begin; gen = o.gen }) (part G i h).begins) head (open_in G i h o may.at.at.opened))))

sends_row : (G : Setting) (h : List (ℕ × ActorEvent)) (i : ℕ) (e : ActorEvent) → IsLegalHistory G h → MayDo G h i e → Each (SentOk G ((i, e) ∷ h)) (field h).sends → Each (SentOk G ((i, e) ∷ h)) (field ((i, e) ∷ h)).sends
sends_row G h i (Send x) legal may old = each_add (sent_later (i, Send x) (later_event G h i (Send x) (good_of G h legal).inv may) (new_sent G h i x legal may.1)) old
sends_row G h i (Node e) legal may old = old
sends_row G h i Stop legal may old = old
sends_row G h i (Settle id why) legal may old = old
sends_row G h i (Ask t) legal may old = old
sends_row G h i _ legal may old = old

pub sends_ok : (G : Setting) (h : List (ℕ × ActorEvent)) → IsLegalHistory G h → Each (SentOk G h) (field h).sends
sends_ok G [] legal = each_none
sends_ok G (x ∷ h) legal = sends_row G h x.0 x.1 legal.1 legal.0 (each_more (λ y k. sent_later x (later_event G h x.0 x.1 (good_of G h legal.1).inv legal.0) k) (sends_ok G h legal.1))

-- a request to a leader in its generation fits its log
pub request_at : (G : Setting) (h : List (ℕ × ActorEvent)) → IsLegalHistory G h → (i : ℕ) → ((field h).core.nodes i).leading ≡ true → (x : Sent) → In x (field h).sends → x.gen ≡ ((field h).core.nodes i).accepted → Request G h ((field h).core.nodes i).log x
request_at G h legal i lead x m e =
    let k = (sends_ok G h legal).at x m in
    let b = begins_of G h legal x.begin x.id.began k.pinged in
    let b1 = b.low in
    let k1 = k.low in
    let inv = (good_of G h legal).inv in
    let p = leader_has inv i lead b.gen b.log b.durable (omega arith) in
    let le = b.within in
    let le2 = front_length p in
    request_on k.request (durable_rows G (field h) inv k.log b.log k.durable (b.gen, b.durable) x.begin k.request.within b.within ∙ same_rows G p x.begin b.within) (omega arith)

pub appended_later : {G : Setting} {h : List (ℕ × ActorEvent)} {xs : List KeptEntry} {e : KeptEntry} (x : ℕ × ActorEvent) → Later (field h) (field (x ∷ h)) → Appended G h xs e → Appended G (x ∷ h) xs e
appended_later x on a = record { sent = a.sent; mem = on.sends a.sent a.mem; its_id = a.its_id; its_line = a.its_line; request = request_later x a.request; changes' = a.changes'; rows' = a.rows'; untouched = a.untouched; good' = a.good'; lacks = a.lacks }

pub new_later : {G : Setting} {h : List (ℕ × ActorEvent)} {xs : List KeptEntry} {e : KeptEntry} (x : ℕ × ActorEvent) → Later (field h) (field (x ∷ h)) → New G h xs e → New G (x ∷ h) xs e
new_later x on (inl a) = inl a
new_later x on (inr a) = inr (appended_later x on a)

pub new_entry : (G : Setting) (h : List (ℕ × ActorEvent)) → IsLegalHistory G h → (i : ℕ) (e : KeptEntry) → ((field h).core.nodes i).leading ≡ true → MayAppend (field h) i e → IsRightlyAppended G (field h) i ((field h).core.nodes i).log e → New G h ((field h).core.nodes i).log e
new_entry G h legal i (SetupKept generation schema records reached) lead may d = inl (record {
  none = d.0;
  no_id = refl;
  its_line = λ k. refl;
  changes' = refl;
  rows' = subst (λ z. state_of (z ++ SetupKept generation schema records reached ∷ []) ≡ no_rows G.tables) (sym d.0) d.1;
})
new_entry G h legal i (CommitKept generation id begin level changes records reached) lead may d = inr (record {
  sent = d.sent;
  mem = d.mem;
  its_id = ap (λ z. Some z) (sym d.its_id);
  its_line = λ k. ap (λ z. entries.Commit k z.session z.txn begin level) (sym d.its_id) ∙ (ap (λ z. entries.Commit k d.sent.id.session d.sent.id.txn z level) d.its_begin ∙ ap (λ z. entries.Commit k d.sent.id.session d.sent.id.txn d.sent.begin z) d.its_level);
  request = request_at G h legal i lead d.sent d.mem d.gen;
  changes' = d.changes;
  rows' = d.rows;
  untouched = d.untouched;
  good' = d.good;
  lacks = may.new d.sent.id (ap (λ z. Some z) (sym d.its_id));
})

rule_later : {G : Setting} {h : List (ℕ × ActorEvent)} {xs : List KeptEntry} {e : KeptEntry} (x : ℕ × ActorEvent) → Later (field h) (field (x ∷ h)) → Rule G h xs e → Rule G (x ∷ h) xs e
rule_later x on (inl a) = inl (λ id q. (let r = a id q in record { it = r.it; mem = on.grows.admits r.it r.mem; is = r.is }))
rule_later x on (inr a) = inr (new_later x on a)

began_old : (p a i : ℕ) (as' : List Admit) (e : KeptEntry) → BeganBy a e → In (record { node = i; promised = p; accepted = a }) as' → (id : CommitId) → identity_of e ≡ Some id → Has (λ z. id.began ≤ z.accepted) as'
began_old p a i as' (SetupKept generation schema records reached) k m id q = absurd (cc)
began_old p a i as' (CommitKept generation its begin level changes records reached) k m id q = record { it = record { node = i; promised = p; accepted = a }; mem = m; is = subst (λ z. z.began ≤ a) (same q) k }
  where
    same : Some its ≡ Some id → its ≡ id
    same e = cc

node_enters : (G : Setting) (h : List (ℕ × ActorEvent)) (i : ℕ) (e : NodeEvent KeptEntry) → IsLegalHistory G h → MayDo G h i (Node e) → Enters (Rule G h) ((field h).core.nodes i) e
node_enters G h i (Append e) legal may = inr (new_entry G h legal i e may.0.0.1 may.0.1 may.1)
node_enters G h i (BackAppend e) legal may = inr (new_entry G h legal i e may.0.0.2 may.0.1 may.1)
node_enters G h i (Boot p a l) legal may = λ xs e q. inl (began_old p a i (field h).core.admits e (may.1 xs e q) may.0.0.3)
node_enters G h i _ legal may = tt

enters_more : {P Q : List KeptEntry → KeptEntry → Type 0} (o : _) (e : NodeEvent KeptEntry) → ((xs : List KeptEntry) (x : KeptEntry) → P xs x → Q xs x) → Enters P o e → Enters Q o e
enters_more o (Append e) f p = f o.log e p
enters_more o (BackAppend e) f p = f o.log e p
enters_more o (Boot q a l) f p = λ xs e r. f xs e (p xs e r)
enters_more o _ f p = tt

all_enter_row : (G : Setting) (h : List (ℕ × ActorEvent)) (i : ℕ) (e : ActorEvent) (P : List KeptEntry → KeptEntry → Type 0) → IsLegalHistory G h → MayDo G h i e → ((xs : List KeptEntry) (x : KeptEntry) → Rule G h xs x → P xs x) → AllEnter P (steps h) → AllEnter P (add_step i e (steps h))
all_enter_row G h i (Node e) P legal may f old = (subst (λ w. Enters P (w.nodes i) e) (core_is h) (enters_more ((field h).core.nodes i) e f (node_enters G h i e legal may)), old)
all_enter_row G h i Stop P legal may f old = (tt, old)
all_enter_row G h i (Ask t) P legal may f old = (tt, old)
all_enter_row G h i _ P legal may f old = old

all_enter : (G : Setting) (h : List (ℕ × ActorEvent)) (P : List KeptEntry → KeptEntry → Type 0) → IsLegalHistory G h → ((xs : List KeptEntry) (x : KeptEntry) → Rule G h xs x → P xs x) → AllEnter P (steps h)
all_enter G [] P legal f = tt
all_enter G (x ∷ h) P legal f =
    let on = later_event G h x.0 x.1 (good_of G h legal.1).inv legal.0 in
    let f' : (xs : List KeptEntry) (y : KeptEntry) → Rule G h xs y → P xs y = λ xs y r. f xs y (rule_later x on r) in
    all_enter_row G h x.0 x.1 P legal.1 legal.0 f' (all_enter G h P legal.1 f')

-- each entry of each log that was accepted or that a node has
pub rules : (G : Setting) (h : List (ℕ × ActorEvent)) → IsLegalHistory G h → (k : ℕ) → Entries (Rule G h) ((field h).core.nodes k)
rules G h legal k = subst (λ w. Entries (Rule G h) (w.nodes k)) (sym (core_is h)) (entries (Rule G h) G.nodes (steps h) (steps_legal G h legal) (all_enter G h (Rule G h) legal (λ xs x r. r)) k)

-- each refusal, over the log on which it was decided
pub record SettledOk (G : Setting) (h : List (ℕ × ActorEvent)) (z : Settled) : Type 0 where
  pub sent : Sent
  pub mem : In sent (field h).sends
  pub id' : sent.id ≡ z.id
  pub gen' : sent.gen ≡ z.gen
  pub request : Request G h z.log sent
  pub why' : IsRightRefusal G z.log sent z.why
  pub accepted : Has (λ c. (c.gen ≡ z.gen) × (c.log ≡ z.log)) ((field h).core.nodes z.by).accepts

settled_later : {G : Setting} {h : List (ℕ × ActorEvent)} (e : ℕ × ActorEvent) {z : Settled} → Later (field h) (field (e ∷ h)) → SettledOk G h z → SettledOk G (e ∷ h) z
settled_later e {z} on k = record { sent = k.sent; mem = on.sends k.sent k.mem; id' = k.id'; gen' = k.gen'; request = request_later e k.request; why' = k.why'; accepted = record { it = k.accepted.it; mem = on.grows.accepts z.by k.accepted.it k.accepted.mem; is = k.accepted.is } }

new_settled : (G : Setting) (h : List (ℕ × ActorEvent)) (i : ℕ) (id : CommitId) (why : Reply) → IsLegalHistory G h → MayDo G h i (Settle id why) → SettledOk G h (record { id = id; gen = ((field h).core.nodes i).accepted; by = i; log = ((field h).core.nodes i).log; why = why })
new_settled G h i id why legal may =
    let inv = (good_of G h legal).inv in
    let l = leads_log inv i may.0.1 in
    let lg : l.it.gen ≡ ((field h).core.nodes i).accepted = l.is.0 in
    record { sent = may.1.sent; mem = may.1.mem; id' = may.1.its_id; gen' = may.1.gen; request = request_at G h legal i may.0.1 may.1.sent may.1.mem may.1.gen; why' = may.1.is_right; accepted = holds inv i i l.it l.mem (omega arith) }

settles_row : (G : Setting) (h : List (ℕ × ActorEvent)) (i : ℕ) (e : ActorEvent) → IsLegalHistory G h → MayDo G h i e → Each (SettledOk G ((i, e) ∷ h)) (field h).settles → Each (SettledOk G ((i, e) ∷ h)) (field ((i, e) ∷ h)).settles
settles_row G h i (Settle id why) legal may old = each_add (settled_later (i, Settle id why) (later_event G h i (Settle id why) (good_of G h legal).inv may) (new_settled G h i id why legal may)) old
settles_row G h i (Send x) legal may old = old
settles_row G h i (Node e) legal may old = old
settles_row G h i Stop legal may old = old
settles_row G h i (Ask t) legal may old = old
settles_row G h i _ legal may old = old

pub settles_ok : (G : Setting) (h : List (ℕ × ActorEvent)) → IsLegalHistory G h → Each (SettledOk G h) (field h).settles
settles_ok G [] legal = each_none
settles_ok G (x ∷ h) legal = settles_row G h x.0 x.1 legal.1 legal.0 (each_more (λ y k. settled_later x (later_event G h x.0 x.1 (good_of G h legal.1).inv legal.0) k) (settles_ok G h legal.1))
