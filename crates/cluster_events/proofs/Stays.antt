-- What is enabled stays enabled while its actor does nothing: the law of a machine.
use Rattle.std.proofs.Common.{◌≡◌, ◌≢◌, ℕ, ◌+◌, ◌<◌, ◌≤◌, List, [], ◌∷◌, ◌++◌, arith, refl, ap, sym, subst, ◌∙◌}
use Rattle.std.specs.Prelude.{◌==◌, Bool, true, false, cond, Option, Some, None}
use Rattle.std.proofs.lemmas.Bool.Decides.{Decides-eqb}
use mathlib.Core.Logic.{inl, inr}
use Rattle.core_lists.specs.Lists.{In, Each}
use Rattle.core_lists.specs.Lists.In.{here, there}
use Rattle.core_lists.proofs.Lists.{each_add, each_none, each_more}
use Rattle.cluster_consensus.specs.Facts.{Claim, Pong, Own, World}
use Rattle.cluster_consensus.specs.Events.{NodeEvent, change}
use Rattle.cluster_consensus.specs.Events.NodeEvent.{Admits, Boot, Down, Back, BackLead, BackTake, BackGrow, BackAppend, Stand, Grants, Lead, Take, Grow, Append, LearnLead, LearnFollow, Asks, Probe, Confirm}
use Rattle.cluster_consensus.specs.Enabled.{Enabled}
use Rattle.cluster_begins.specs.Begins.{CanBegin}
use Rattle.cluster_requests.specs.Identities.{identity_of, HasAt, Lacks}
use Rattle.cluster_requests.specs.Requests.{Sent, FieldAct, Field, MayAppend, does, field_after}
use Rattle.cluster_requests.specs.Requests.FieldAct.{Core, ToSend, ToSettle, ToRepeat}
use Rattle.phys_log.specs.declared.entries.CommitId.{CommitId}
use Rattle.cluster_requests.specs.KeptEntries.{KeptEntry}
use Rattle.cluster_requests.specs.KeptEntries.KeptEntry.{SetupKept, CommitKept}
use Rattle.report_laws.specs.Nodes.{is_up}
use Rattle.report_laws.specs.Told.{told}
use Rattle.report_laws.specs.Work.{Transaction}
use Rattle.report_text.specs.declared.reports.Line.{Line}
use Rattle.report_text.specs.declared.reports.Line.TheVariants as line
use Rattle.cdb_values.specs.declared.replies.Reply.{Reply}
use Rattle.cdb_values.specs.declared.replies.Reply.TheVariants as reply
use Rattle.session_language.specs.Language.{Answered}
use Rattle.cluster_events.specs.Settings.{Setting}
use Rattle.cluster_events.specs.Parts.{ActorEvent, Part, rest_of, moves, part, add_act, acts, field, barriers_printed, up_line, lines_by, lines}
use Rattle.cluster_events.specs.Parts.ActorEvent.{Node, Stop, Settle, Repeat, Ask, Begun, Say, Note, Send, Finish, Move, Order, Obeyed, Fire, Barrier, Fed, FedAgain}
use Rattle.cluster_events.specs.Guards.{AllBeyond, WereFew, IsOfLoss, AreRepliesTold, IsFrontAnswered, IsAtTransaction, IsInTransaction, commit_id_of, IsRightlyAppended, Refuses, IsRefused, IsKept, Commits, MayFinish, HasWaited, last_fed, fed_from, fed_after, MayDo, IsLegalHistory, AreNamedApart}
use Rattle.std.specs.List.{AllByRecursion}
use Rattle.cluster_consensus.specs.Enabled.{Fit}
use Rattle.cluster_consensus.specs.Histories.{asked}
use Rattle.cluster_consensus.proofs.FactSteps.{granted_grows}
use Rattle.cluster_consensus.proofs.Kept.{at_node}
use Rattle.core_lists.proofs.Majorities.{majority_weaker}
use Rattle.cluster_requests.specs.Requests.{IsAskedFor, MayEnter, settled_with}
use Rattle.report_laws.specs.Places.{IsLost, IsShort, is_loss_by}
use Rattle.script_form.specs.declared.scripts.Script.{Script}
use Rattle.cluster_events.specs.Guards.{MayStep, IsActedBy}
use Rattle.cluster_events.specs.Premises.{Steady}
use Rattle.cluster_events.proofs.LineLists.{append_assoc, append_nil, told_append}
use Rattle.cluster_events.proofs.OwnLines.{other_told, eq_swap}
use Rattle.cluster_events.proofs.HistoryLaws.{good_of, Later, later_event, durable_later}
use Rattle.cluster_events.proofs.OwnLines.{one_actor}
use Rattle.report_laws.proofs.NodesLaws.{up_append}
use Rattle.script_form.specs.declared.scripts.BodyLine.{BodyLine}
use Rattle.cluster_events.specs.Operator.{Count, turn, turn_counted, count_of, Duty, duty, new_orders, orders, IsStopOrdered, IsStartOrdered, IsObeyed}
use Rattle.cluster_events.specs.ByScript.{Heeds, IsByScript, IsFeedDue}
use Rattle.cluster_events.specs.Arms.{Fired, new_fires, fires, fired_by, last_fired, HasFallen, IsAppended, IsDue, MayFire, IsStopArmed}
use Rattle.cluster_events.specs.Sites.{Site, site, moved, next_up, CanMove}
use Rattle.script_form.specs.declared.scripts.Moment.{Moment}
use Rattle.script_form.specs.declared.scripts.Moment.TheVariants as moment
use Rattle.cluster_events.proofs.LinePlaces.{other_lines}
use Rattle.cluster_events.proofs.LineLists.{in_append}

-- the other facts that only grow
pub record OnSaid (o p : Own KeptEntry) : Type 0 where
  pub ships : (x : Claim KeptEntry) → In x o.ships → In x p.ships
  pub acks : (x : Claim KeptEntry) → In x o.acks → In x p.acks
  pub pongs : (x : Pong) → In x o.pongs → In x p.pongs

said_row : (i : ℕ) (o : Own KeptEntry) (e : NodeEvent KeptEntry) → OnSaid o (change i o e)
said_row i o Lead = record { ships = λ x m. there m; acks = λ x m. there m; pongs = λ x m. m }
said_row i o (Append e) = record { ships = λ x m. there m; acks = λ x m. there m; pongs = λ x m. m }
said_row i o (Take g l) = record { ships = λ x m. m; acks = λ x m. there m; pongs = λ x m. m }
said_row i o (Grow l) = record { ships = λ x m. m; acks = λ x m. there m; pongs = λ x m. m }
said_row i o (Confirm t g) = record { ships = λ x m. m; acks = λ x m. m; pongs = λ x m. there m }
said_row i o _ = record { ships = λ x m. m; acks = λ x m. m; pongs = λ x m. m }

said_same : (o : Own KeptEntry) → OnSaid o o
said_same o = record { ships = λ x m. m; acks = λ x m. m; pongs = λ x m. m }

asks_row : (w : World KeptEntry) (e : NodeEvent KeptEntry) (t : ℕ) → In t w.asks → In t (asked w e)
asks_row w (Asks u) t m = there m
asks_row w _ t m = m

-- all facts of one field are facts of another
pub record On (f g : Field) : Type 0 where
  pub later : Later f g
  pub said : (k : ℕ) → OnSaid (f.core.nodes k) (g.core.nodes k)
  pub asks : (t : ℕ) → In t f.core.asks → In t g.core.asks

on_act : (n : ℕ) (f : Field) (i : ℕ) (a : FieldAct) → Later f (does f i a) → On f (does f i a)
on_act n f i (Core e) l = record { later = l; said = λ k. at_node f.core i e (λ j o. OnSaid (f.core.nodes j) o) k (said_row i (f.core.nodes i) e) (said_same (f.core.nodes k)); asks = asks_row f.core e }
on_act n f i (ToSend x) l = record { later = l; said = λ k. said_same (f.core.nodes k); asks = λ t m. m }
on_act n f i (ToSettle id why) l = record { later = l; said = λ k. said_same (f.core.nodes k); asks = λ t m. m }
on_act n f i (ToRepeat id position) l = record { later = l; said = λ k. said_same (f.core.nodes k); asks = λ t m. m }

on_event : (n : ℕ) (h : List (ℕ × ActorEvent)) (i : ℕ) (e : ActorEvent) → Later (field h) (field_after (add_act i e (acts h))) → On (field h) (field_after (add_act i e (acts h)))
on_event n h i (Node e) l = on_act n (field h) i (Core e) l
on_event n h i Stop l = on_act n (field h) i (Core Down) l
on_event n h i (Settle id why) l = on_act n (field h) i (ToSettle id why) l
on_event n h i (Repeat id k) l = on_act n (field h) i (ToRepeat id k) l
on_event n h i (Ask t) l = on_act n (field h) i (Core (Asks t)) l
on_event n h i (Send x) l = on_act n (field h) i (ToSend x) l
on_event n h i _ l = record { later = l; said = λ k. said_same ((field h).core.nodes k); asks = λ t m. m }

-- an actor that does nothing keeps its part, its node and what it settled
idle_part : (G : Setting) (i : ℕ) (x : ℕ × ActorEvent) (h : List (ℕ × ActorEvent)) → (i == x.0) ≡ false → part G i (x ∷ h) ≡ part G i h
idle_part G i x h ne = ap (λ b. cond b (moves (part G i h) x.1) (part G i h)) ne

idle_site : (G : Setting) (i : ℕ) (x : ℕ × ActorEvent) (h : List (ℕ × ActorEvent)) → (i == x.0) ≡ false → site G i (x ∷ h) ≡ site G i h
idle_site G i x h ne = ap (λ b. cond b (moved (site G i h) x.1) (site G i h)) ne

idle_fired : (i : ℕ) (x : ℕ × ActorEvent) (h : List (ℕ × ActorEvent)) → (i == x.0) ≡ false → last_fired i (x ∷ h) ≡ last_fired i h
idle_fired i x h ne = ap (λ b. cond b (fired_by h x.0 x.1) (last_fired i h)) ne

idle_node : (h : List (ℕ × ActorEvent)) (i j : ℕ) (e : ActorEvent) → (i == j) ≡ false → (field ((j, e) ∷ h)).core.nodes i ≡ (field h).core.nodes i
idle_node h i j (Node e) ne = ap (λ b. cond b (change j ((field h).core.nodes j) e) ((field h).core.nodes i)) ne
idle_node h i j Stop ne = ap (λ b. cond b (change j ((field h).core.nodes j) Down) ((field h).core.nodes i)) ne
idle_node h i j (Ask t) ne = ap (λ b. cond b ((field h).core.nodes j) ((field h).core.nodes i)) ne
idle_node h i j _ ne = refl

idle_settled : (h : List (ℕ × ActorEvent)) (i j : ℕ) (e : ActorEvent) → (i == j) ≡ false → (field ((j, e) ∷ h)).settled i ≡ (field h).settled i
idle_settled h i j (Node e) ne = ap (λ b. cond b (settled_with ((field h).settled i) e) ((field h).settled i)) ne
idle_settled h i j Stop ne = ap (λ b. cond b (settled_with ((field h).settled i) Down) ((field h).settled i)) ne
idle_settled h i j (Ask t) ne = ap (λ b. cond b (settled_with ((field h).settled i) (Asks t)) ((field h).settled i)) ne
idle_settled h i j (Settle id why) ne = ap (λ b. cond b (id ∷ (field h).settled i) ((field h).settled i)) ne
idle_settled h i j (Repeat id k) ne = ap (λ b. cond b (id ∷ (field h).settled i) ((field h).settled i)) ne
idle_settled h i j _ ne = refl

-- the admissions are the operator's
idle_admits : (G : Setting) (h : List (ℕ × ActorEvent)) (j : ℕ) (e : ActorEvent) → (0 == j) ≡ false → MayDo G h j e → (field ((j, e) ∷ h)).core.admits ≡ (field h).core.admits
idle_admits G h j (Node (Admits k p a)) ne may = absurd (let z : j ≡ 0 = may.2 in let y = (Decides-eqb 0 j).1 (sym z) in cc)
idle_admits G h j (Node _) ne may = refl
idle_admits G h j _ ne may = refl

-- the core's guard of a part that stays
enabled_on : (n : ℕ) (f g : Field) (i : ℕ) (o : Own KeptEntry) (e : NodeEvent KeptEntry) → On f g → (i ≡ 0 → g.core.admits ≡ f.core.admits) → IsActedBy n i e → Enabled n f.core i o e → Enabled n g.core i o e
enabled_on n f g i o (Admits k p a) on same by en = subst (λ z. Each (λ b. b.node ≢ k) z × Fit n (record { node = k; promised = p; accepted = a } ∷ z)) (sym (same by)) en
enabled_on n f g i o (Boot p a l) on same by en = (en.0, en.1, en.2, on.later.grows.admits _ en.3)
enabled_on n f g i o Down on same by en = tt
enabled_on n f g i o (Back p) on same by en = en
enabled_on n f g i o BackLead on same by en = (en.0, en.1, (en.2.0, granted_grows on.later.grows en.2.1))
enabled_on n f g i o (BackTake h l) on same by en = (en.0, en.1, (en.2.0, en.2.1, (en.2.2.0, record { it = en.2.2.1.it; mem = (on.said en.2.2.0).ships en.2.2.1.it en.2.2.1.mem; is = en.2.2.1.is })))
enabled_on n f g i o (BackGrow l) on same by en = (en.0, en.1, (en.2.0, en.2.1, record { it = en.2.2.it; mem = (on.said en.2.1).ships en.2.2.it en.2.2.mem; is = en.2.2.is }))
enabled_on n f g i o (BackAppend e) on same by en = en
enabled_on n f g i o (Stand h) on same by en = en
enabled_on n f g i o (Grants h to) on same by en = (en.0, en.1, record { it = en.2.it; mem = on.later.grows.votes to en.2.it en.2.mem; is = en.2.is })
enabled_on n f g i o Lead on same by en = (en.0, (en.1.0, granted_grows on.later.grows en.1.1))
enabled_on n f g i o (Take h l) on same by en = (en.0, (en.1.0, en.1.1, (en.1.2.0, record { it = en.1.2.1.it; mem = (on.said en.1.2.0).ships en.1.2.1.it en.1.2.1.mem; is = en.1.2.1.is })))
enabled_on n f g i o (Grow l) on same by en = (en.0, (en.1.0, en.1.1, record { it = en.1.2.it; mem = (on.said en.1.1).ships en.1.2.it en.1.2.mem; is = en.1.2.is }))
enabled_on n f g i o (Append e) on same by en = en
enabled_on n f g i o (LearnLead l) on same by en = (en.0, en.1, en.2, en.3, majority_weaker (λ k c. record { it = c.it; mem = (on.said k).acks c.it c.mem; is = c.is }) en.4)
enabled_on n f g i o (LearnFollow l) on same by en = (en.0, en.1, en.2, en.3, en.4, record { it = en.5.it; mem = (on.later.told en.4).durables en.5.it en.5.mem; is = en.5.is })
enabled_on n f g i o (Asks t) on same by en = absurd by
enabled_on n f g i o (Probe t) on same by en = (en.0, en.1, record { it = en.2.it; mem = on.asks en.2.it en.2.mem; is = en.2.is }, en.3, en.4)
enabled_on n f g i o (Confirm t h) on same by en = (en.0, en.1, en.2, record { it = en.3.it; mem = (on.later.told en.2).pings en.3.it en.3.mem; is = en.3.is })

asked_on : (s t : List Sent) (i g : ℕ) (log : List KeptEntry) (e : KeptEntry) → ((x : Sent) → In x s → In x t) → IsAskedFor s i g log e → IsAskedFor t i g log e
asked_on s t i g log (SetupKept generation schema records reached) more k = k
asked_on s t i g log (CommitKept generation id begin level changes records reached) more k = record { it = k.it; mem = more k.it k.mem; is = k.is }

append_on : (f g : Field) (i : ℕ) (e : KeptEntry) → On f g → g.core.nodes i ≡ f.core.nodes i → g.settled i ≡ f.settled i → MayAppend f i e → MayAppend g i e
append_on f g i e on node settled k = record {
  made = k.made ∙ ap (λ (o : Own KeptEntry). o.accepted) (sym node);
  asked = subst (λ (o : Own KeptEntry). IsAskedFor g.sends i o.accepted o.log e) (sym node) (asked_on f.sends g.sends i (f.core.nodes i).accepted (f.core.nodes i).log e on.later.sends k.asked);
  unsettled = subst (λ z. Each (λ t. identity_of e ≢ Some t) z) (sym settled) k.unsettled;
  new = λ id q. subst (λ (o : Own KeptEntry). Lacks id o.log) (sym node) (k.new id q);
}

enter_on : (f g : Field) (i : ℕ) (e : NodeEvent KeptEntry) → On f g → g.core.nodes i ≡ f.core.nodes i → g.settled i ≡ f.settled i → MayEnter f i e → MayEnter g i e
enter_on f g i (Append e) on node settled k = append_on f g i e on node settled k
enter_on f g i (BackAppend e) on node settled k = append_on f g i e on node settled k
enter_on f g i _ on node settled k = tt

decides_on : (G : Setting) (f g : Field) (i : ℕ) (log : List KeptEntry) (e : KeptEntry) → On f g → g.core.nodes i ≡ f.core.nodes i → IsRightlyAppended G f i log e → IsRightlyAppended G g i log e
decides_on G f g i log (SetupKept generation schema records reached) on node k = k
decides_on G f g i log (CommitKept generation id begin level changes records reached) on node k = record { sent = k.sent; mem = on.later.sends k.sent k.mem; its_id = k.its_id; gen = k.gen ∙ ap (λ (o : Own KeptEntry). o.accepted) (sym node); its_begin = k.its_begin; its_level = k.its_level; changes = k.changes; rows = k.rows; untouched = k.untouched; good = k.good }

step_on : (G : Setting) (f g : Field) (i : ℕ) (e : NodeEvent KeptEntry) → On f g → g.core.nodes i ≡ f.core.nodes i → MayStep G f i e → MayStep G g i e
step_on G f g i (Append e) on node k = subst (λ (o : Own KeptEntry). IsRightlyAppended G g i o.log e) (sym node) (decides_on G f g i (f.core.nodes i).log e on node k)
step_on G f g i (BackAppend e) on node k = subst (λ (o : Own KeptEntry). IsRightlyAppended G g i o.log e) (sym node) (decides_on G f g i (f.core.nodes i).log e on node k)
step_on G f g i (Boot p a l) on node k = k
step_on G f g i _ on node k = tt

begin_on : (n : ℕ) (f g : Field) (t b gen : ℕ) → On f g → CanBegin n f.core t b gen → CanBegin n g.core t b gen
begin_on n f g t b gen on k = (k.0, record { it = k.1.it; mem = (on.later.told k.0).pings k.1.it k.1.mem; is = k.1.is }, majority_weaker (λ j c. elim c [ inl e ↦ inl e | inr p ↦ inr (record { it = p.it; mem = (on.said j).pongs p.it p.mem; is = p.is }) ]) k.2)

answered_on' : (G : Setting) (f g : Field) (t : Transaction) (b : ℕ) (m : List Reply) (a : Answered) → On f g → AreRepliesTold G f t b m a → AreRepliesTold G g t b m a
answered_on' G f g t b m a on k = record { log = k.log; durable = durable_later G.nodes k.log on.later k.durable; within = k.within; alone = k.alone; says = k.says }

commits_on : (G : Setting) (h l : List (ℕ × ActorEvent)) (i : ℕ) → On (field h) (field l) → part G i l ≡ part G i h → Commits G h i → Commits G l i
commits_on G h l i on same k = record {
  txn = k.txn;
  start = k.start;
  at = subst (λ (p : Part). IsInTransaction p k.txn k.start) (sym same) k.at;
  ends = k.ends;
  ran = k.ran;
  answered = subst (λ (p : Part). AreRepliesTold G (field l) k.txn k.start.begin p.mine k.ran) (sym same) (answered_on' G (field h) (field l) k.txn k.start.begin (part G i h).mine k.ran on k.answered);
}

kept_on : (f g : Field) (id : CommitId) (k : ℕ) → On f g → IsKept f id k → IsKept g id k
kept_on f g id k on r = record { gen = r.gen; before = r.before; entry = r.entry; kept = (r.kept.0, r.kept.1, record { it = r.kept.2.it; mem = (on.said r.kept.0).ships r.kept.2.it r.kept.2.mem; is = r.kept.2.is }, record { it = r.kept.3.it; mem = (on.later.told r.kept.1).durables r.kept.3.it r.kept.3.mem; is = r.kept.3.is }); its_id = r.its_id; position = r.position }

refused_on : (f g : Field) (id : CommitId) (k : ℕ) (why : Reply) → On f g → Each (λ s. s.id ≡ id → In s f.sends) g.sends → IsRefused f id k why → IsRefused g id k why
refused_on f g id k why on same r = record { settled = r.settled; mem = on.later.settles r.settled r.mem; its_id = r.its_id; its_refusal = r.its_refusal; last = record { at = λ s m e. r.last.at s (same.at s m e) e }; node = r.node; durable = record { it = r.durable.it; mem = (on.later.told r.node).durables r.durable.it r.durable.mem; is = r.durable.is } }

-- no other actor sends an identity of a session
foreign : (G : Setting) → AreNamedApart G → (h : List (ℕ × ActorEvent)) (i j : ℕ) (e : ActorEvent) (id : CommitId) → (i == j) ≡ false → MayDo G h j e → id.session ≡ G.names i → Each (λ s. s.id ≡ id → In s (field h).sends) (field ((j, e) ∷ h)).sends
foreign G far h i j (Send y) id ne may name = each_add (λ q. absurd (
    let n : G.names j ≡ G.names i = sym (ap (λ z. z.session) may.1.its_id) ∙ (ap (λ z. z.session) q ∙ name) in
    let a = one_actor G far j i n in
    let b = (Decides-eqb i j).1 (sym a) in
    cc)) (record { at = λ s m q. m })
foreign G far h i j (Node e) id ne may name = record { at = λ s m q. m }
foreign G far h i j Stop id ne may name = record { at = λ s m q. m }
foreign G far h i j (Settle d why) id ne may name = record { at = λ s m q. m }
foreign G far h i j (Ask t) id ne may name = record { at = λ s m q. m }
foreign G far h i j _ id ne may name = record { at = λ s m q. m }

-- lines that a session isn't told leave what it may be told
all_more : {A : Type 0} (P : A → Type 0) (xs ys : List A) → ys ≡ [] → AllByRecursion P xs → AllByRecursion P (xs ++ ys)
all_more P xs ys e k = subst (λ z. AllByRecursion P (xs ++ z)) (sym e) (subst (λ z. AllByRecursion P z) (sym (append_nil xs)) k)

lost_on : (before more : List Line) (name : List ℕ) (t node down : ℕ) → told name more ≡ [] → IsLost before name t node down → IsLost (before ++ more) name t node down
lost_on before more name t node down none k = record {
  fault = k.fault;
  front = k.front;
  back = k.back ++ more;
  stands = ap (λ z. z ++ more) k.stands ∙ append_assoc k.front (line.Down down node k.fault ∷ k.back) more;
  since = subst (λ z. AllByRecursion (λ l. l.0 ≡ t) z) (sym (told_append name k.back more)) (all_more _ (told name k.back) (told name more) none k.since);
  begin = k.begin;
  begun = (k.begun.0, k.begun.1 ++ more, ap (λ z. z ++ more) k.begun.2 ∙ append_assoc k.begun.0 (line.Session name t (reply.Begin k.begin) ∷ k.begun.1) more);
  once = subst (λ z. AllByRecursion (λ l. is_loss_by down l.1 ≡ false) z) (sym (told_append name before more)) (all_more _ (told name before) (told name more) none k.once);
}

short_on : (script : Script) (before more : List Line) (name : List ℕ) (up nodes : ℕ) → told name more ≡ [] → IsShort script before name up nodes → IsShort script (before ++ more) name up nodes
short_on script before more name up nodes none k = record {
  are_all = k.are_all;
  front = k.front;
  back = k.back ++ more;
  stands = ap (λ z. z ++ more) k.stands ∙ append_assoc k.front k.back more;
  since = told_append name k.back more ∙ (ap (λ z. z ++ told name more) k.since ∙ none);
  are_up = k.are_up;
  few = k.few;
}

loss_on : (G : Setting) (h : List (ℕ × ActorEvent)) (i j : ℕ) (x : ActorEvent) (id : CommitId) (node : ℕ) → (i == j) ≡ false → On (field h) (field ((j, x) ∷ h)) → IsOfLoss G h i id node → IsOfLoss G ((j, x) ∷ h) i id node
loss_on G h i j x id node ne on (inl e) = inl (e ∙ ap (λ (z : Site). z.node) (sym (idle_site G i (j, x) h ne)))
loss_on G h i j x id node ne on (inr r) = inr (record { it = r.it; mem = on.later.sends r.it r.mem; is = r.is })

finish_on : (G : Setting) → AreNamedApart G → (h : List (ℕ × ActorEvent)) (i j : ℕ) (x : ActorEvent) (a : Reply) → (i == j) ≡ false → MayDo G h j x → On (field h) (field ((j, x) ∷ h)) → MayFinish G h i a → MayFinish G ((j, x) ∷ h) i a
unfolding commits_on
finish_on G far h i j x reply.RolledBack ne may on k =
    let p = idle_part G i (j, x) h ne in
    (k.0, k.1, subst (λ (z : Part). IsInTransaction z k.0 k.1) (sym p) k.2, k.3, k.4, subst (λ (z : Part). AreRepliesTold G (field ((j, x) ∷ h)) k.0 k.1.begin z.mine k.4) (sym p) (answered_on' G (field h) (field ((j, x) ∷ h)) k.0 k.1.begin (part G i h).mine k.4 on k.5))
finish_on G far h i j x (reply.Committed n) ne may on k = (commits_on G h ((j, x) ∷ h) i on (idle_part G i (j, x) h ne) k.0, elim k.1 [ inl e ↦ inl e | inr r ↦ inr (r.0, kept_on (field h) (field ((j, x) ∷ h)) (commit_id_of G i k.0.txn k.0.start) n on r.1) ])
finish_on G far h i j x (reply.ConflictGenid n t g) ne may on k = (commits_on G h ((j, x) ∷ h) i on (idle_part G i (j, x) h ne) k.0, refused_on (field h) (field ((j, x) ∷ h)) (commit_id_of G i k.0.txn k.0.start) n (reply.ConflictGenid n t g) on (foreign G far h i j x (commit_id_of G i k.0.txn k.0.start) ne may refl) k.1)
finish_on G far h i j x (reply.ConflictRange n t g) ne may on k = (commits_on G h ((j, x) ∷ h) i on (idle_part G i (j, x) h ne) k.0, refused_on (field h) (field ((j, x) ∷ h)) (commit_id_of G i k.0.txn k.0.start) n (reply.ConflictRange n t g) on (foreign G far h i j x (commit_id_of G i k.0.txn k.0.start) ne may refl) k.1)
finish_on G far h i j x (reply.Duplicate n t g) ne may on k = (commits_on G h ((j, x) ∷ h) i on (idle_part G i (j, x) h ne) k.0, refused_on (field h) (field ((j, x) ∷ h)) (commit_id_of G i k.0.txn k.0.start) n (reply.Duplicate n t g) on (foreign G far h i j x (commit_id_of G i k.0.txn k.0.start) ne may refl) k.1)
finish_on G far h i j x (reply.Lost n d) ne may on k = (k.0, k.1, subst (λ (z : Part). IsInTransaction z k.0 k.1) (sym (idle_part G i (j, x) h ne)) k.2, k.3, lost_on (lines G h) _ (G.names i) k.0.number n d (other_told G (G.names i) j (far j i (eq_swap i j ne)) (lines G h) (part G j h) x) k.4, loss_on G h i j x (commit_id_of G i k.0 k.1) n ne on k.5)
finish_on G far h i j x (reply.NoMajority u n) ne may on k =
    let p = idle_part G i (j, x) h ne in (
      k.0,
      subst (λ (z : Part). IsAtTransaction z k.0) (sym p) k.1,
      short_on G.script (lines G h) _ (G.names i) u n (other_told G (G.names i) j (far j i (eq_swap i j ne)) (lines G h) (part G j h) x) k.2,
      elim k.3 [ inl e ↦ inl (ap (λ (z : Part). z.opened) p ∙ e) | inr r ↦ inr (elim r [ inl e ↦ inl e | inr c ↦ inr (commits_on G h ((j, x) ∷ h) i on p c.0, c.1) ]) ],
    )
finish_on G far h i j x reply.NoMemory ne may on k = (k.0, subst (λ (z : Part). IsAtTransaction z k.0) (sym (idle_part G i (j, x) h ne)) k.1)
finish_on G far h i j x _ ne may on k = absurd k

barriers_more : (x : ℕ × ActorEvent) (h : List (ℕ × ActorEvent)) → barriers_printed h ≤ barriers_printed (x ∷ h)
barriers_more (i, Barrier) h = omega arith
barriers_more (i, _) h = omega arith

-- the barriers before a session's line stay told
waited_on : (G : Setting) (h : List (ℕ × ActorEvent)) (i : ℕ) (x : ℕ × ActorEvent) → part G i (x ∷ h) ≡ part G i h → HasWaited G h i → HasWaited G (x ∷ h) i
waited_on G h i x p w =
    let b = barriers_more x h in
    let w' : G.phase i (part G i h).told ≤ barriers_printed h = w in
    subst (λ (z : Part). G.phase i z.told ≤ barriers_printed (x ∷ h)) (sym p) (omega arith)

barriers_kept : (G : Setting) (h : List (ℕ × ActorEvent)) (j : ℕ) (e : ActorEvent) → (0 == j) ≡ false → MayDo G h j e → barriers_printed ((j, e) ∷ h) ≡ barriers_printed h
barriers_kept G h j Barrier ne may = absurd (let z : j ≡ 0 = may.0 in let y = (Decides-eqb 0 j).1 (sym z) in cc)
barriers_kept G h j _ ne may = refl

left_before : (p : Part) (e : ActorEvent) → p.left ≡ [] → (moves p e).left ≡ []
left_before p Note q = ap (λ z. rest_of z) q
left_before p (Finish a) q = ap (λ z. rest_of z) q
left_before p _ q = q

pub part_left : (G : Setting) (s : ℕ) (x : ℕ × ActorEvent) (h : List (ℕ × ActorEvent)) → (part G s h).left ≡ [] → (part G s (x ∷ h)).left ≡ []
part_left G s x h q = go (s == x.0)
  where
    go : (b : Bool) → (cond b (moves (part G s h) x.1) (part G s h)).left ≡ []
    go true = left_before (part G s h) x.1 q
    go false = q

fed_append : (d : ℕ) (xs ys : List Line) → fed_from d (xs ++ ys) ≡ fed_from (fed_from d xs) ys
fed_append d [] ys = refl
fed_append d (x ∷ xs) ys = fed_append (fed_after d x) xs ys

no_fed_boot : (d i : ℕ) (b : Bool) → fed_from d (up_line b i) ≡ d
no_fed_boot d i true = refl
no_fed_boot d i false = refl

no_fed_reply : (d : ℕ) (name : List ℕ) (t : ℕ) (r : Reply) → fed_from d (line.Session name t r ∷ []) ≡ d
no_fed_reply d name t r = refl

no_fed : (G : Setting) (h : List (ℕ × ActorEvent)) (d j : ℕ) (e : ActorEvent) → (0 == j) ≡ false → MayDo G h j e → fed_from d (lines_by G (lines G h) (part G j h) j e) ≡ d
no_fed G h d j (Fed p g) ne may = absurd (let z : j ≡ 0 = may.0 in let y = (Decides-eqb 0 j).1 (sym z) in cc)
no_fed G h d j (FedAgain p) ne may = absurd (let z : j ≡ 0 = may.0 in let y = (Decides-eqb 0 j).1 (sym z) in cc)
no_fed G h d j (Node (Boot p a l)) ne may = no_fed_boot d j (is_up j (lines G h))
no_fed G h d j (Node Down) ne may = refl
no_fed G h d j (Node (Back p)) ne may = refl
no_fed G h d j (Node BackLead) ne may = refl
no_fed G h d j (Node (BackTake g l)) ne may = refl
no_fed G h d j (Node (BackGrow l)) ne may = refl
no_fed G h d j (Node (BackAppend x)) ne may = refl
no_fed G h d j (Node _) ne may = refl
no_fed G h d j _ ne may = refl

zero_ne : (i j : ℕ) → i ≡ 0 → (i == j) ≡ false → (0 == j) ≡ false
zero_ne i j z ne = subst (λ k. (k == j) ≡ false) z ne

move_on : (G : Setting) (h : List (ℕ × ActorEvent)) (i : ℕ) (x : ℕ × ActorEvent) (node : ℕ) → site G i (x ∷ h) ≡ site G i h → CanMove G h i node → CanMove G (x ∷ h) i node
move_on G h i x node s k = record {
  later = x ∷ k.later;
  between = k.between;
  before = k.before;
  split = ap (λ z. x ∷ z) k.split;
  stays = k.stays ∙ sym s;
  down = ap (λ (z : Site). is_up z.node (lines G k.before)) s ∙ k.down;
  next = ap (λ (z : Site). next_up G.nodes G.nodes (lines G (k.between ++ k.before)) z.node) s ∙ k.next;
}

few_on : (G : Setting) (h : List (ℕ × ActorEvent)) (i : ℕ) (x : ℕ × ActorEvent) → part G i (x ∷ h) ≡ part G i h → WereFew G h i → WereFew G (x ∷ h) i
few_on G h i x p k = record {
  ask = k.ask;
  asked = ap (λ (z : Part). z.asked) p ∙ k.asked;
  later = x ∷ k.later;
  before = k.before;
  split = ap (λ z. x ∷ z) k.split;
  since = k.since;
  few = k.few;
}

beyond_on : (G : Setting) → Steady G → (h : List (ℕ × ActorEvent)) (j : ℕ) (x : ActorEvent) → IsLegalHistory G h → MayDo G h j x → (0 == j) ≡ false → AllBeyond G h → AllBeyond G ((j, x) ∷ h)
beyond_on G steady h j x legal may ne k = λ s ns left. (
    let b : barriers_printed ((j, x) ∷ h) ≡ barriers_printed h = barriers_kept G h j x ne may in
    let old : barriers_printed h < G.phase s (part G s h).told = k s ns (λ q. left (part_left G s (j, x) h q)) in
    let up : G.phase s (part G s h).told ≤ G.phase s (part G s ((j, x) ∷ h)).told = steady s (j, x) h (may, legal) in
    omega arith)

-- what an actor may do it may do after an event of another, but for the number of an ask
pub stays : (G : Setting) → AreNamedApart G → Steady G → (h : List (ℕ × ActorEvent)) (i j : ℕ) (x e : ActorEvent) → IsLegalHistory G h → MayDo G h j x → (i == j) ≡ false → ((t : ℕ) → e ≡ Ask t → ⊥) → MayDo G h i e → MayDo G ((j, x) ∷ h) i e
unfolding commits_on
stays G far steady h i j x e legal may ne other k = go e other k
  where
    on : On (field h) (field ((j, x) ∷ h))
    on = on_event G.nodes h j x (later_event G h j x (good_of G h legal).inv may)

    p : part G i ((j, x) ∷ h) ≡ part G i h
    p = idle_part G i (j, x) h ne

    node : (field ((j, x) ∷ h)).core.nodes i ≡ (field h).core.nodes i
    node = idle_node h i j x ne

    waited : HasWaited G h i → HasWaited G ((j, x) ∷ h) i
    waited w = waited_on G h i (j, x) p w

    go : (e : ActorEvent) → ((t : ℕ) → e ≡ Ask t → ⊥) → MayDo G h i e → MayDo G ((j, x) ∷ h) i e
    go (Node c) other k = ((subst (λ (o : Own KeptEntry). Enabled G.nodes (field ((j, x) ∷ h)).core i o c) (sym node) (enabled_on G.nodes (field h) (field ((j, x) ∷ h)) i ((field h).core.nodes i) c on (λ z. idle_admits G h j x (zero_ne i j z ne) may) k.2 k.0.0), enter_on (field h) (field ((j, x) ∷ h)) i c on node (idle_settled h i j x ne) k.0.1), step_on G (field h) (field ((j, x) ∷ h)) i c on node k.1, k.2)
    go Stop other k = ((tt, tt), ap (λ (o : Own KeptEntry). o.up) node ∙ k.1, k.2, k.3)
    go (Settle id why) other k = ((ap (λ (o : Own KeptEntry). o.up) node ∙ k.0.0, ap (λ (o : Own KeptEntry). o.leading) node ∙ k.0.1, subst (λ (o : Own KeptEntry). Lacks id o.log) (sym node) k.0.2), subst (λ (o : Own KeptEntry). Refuses G (field ((j, x) ∷ h)) i o.log id why) (sym node) (record { sent = k.1.sent; mem = on.later.sends k.1.sent k.1.mem; its_id = k.1.its_id; its_node = k.1.its_node; gen = k.1.gen ∙ ap (λ (o : Own KeptEntry). o.accepted) (sym node); is_right = k.1.is_right }))
    go (Repeat id n) other k = (ap (λ (o : Own KeptEntry). o.up) node ∙ k.0, ap (λ (o : Own KeptEntry). o.leading) node ∙ k.1, subst (λ (o : Own KeptEntry). HasAt id n o.log) (sym node) k.2, record { it = k.3.it; mem = on.later.sends k.3.it k.3.mem; is = (k.3.is.0, k.3.is.1, k.3.is.2 ∙ ap (λ (o : Own KeptEntry). o.accepted) (sym node)) })
    go (Ask t) other k = absurd (other t refl)
    go (Begun b g) other k = (k.0, ap (λ (z : Part). z.asked) p ∙ k.1, ap (λ (z : Part). z.opened) p ∙ k.2, k.3, subst (λ (z : Part). IsAtTransaction z k.3) (sym p) k.4, begin_on G.nodes (field h) (field ((j, x) ∷ h)) k.0 b g on k.5, k.6)
    go (Say r) other k = (k.0, k.1, subst (λ (z : Part). IsInTransaction z k.0 k.1) (sym p) k.2, subst (λ (z : Part). IsFrontAnswered G (field ((j, x) ∷ h)) k.0 k.1.begin (z.mine ++ r ∷ [])) (sym p) (record { log = k.3.log; durable = durable_later G.nodes k.3.log on.later k.3.durable; within = k.3.within; fits = k.3.fits }), k.4, waited k.5)
    go Note other k = (k.0, k.1, ap (λ (z : Part). z.left) p ∙ k.2, k.3, waited k.4)
    go (Send y) other k = (record { at = λ s m q. k.0.at s ((foreign G far h i j x y.id ne may (ap (λ z. z.session) k.1.its_id)).at s m q) q }, record { at = commits_on G h ((j, x) ∷ h) i on p k.1.at; has_ops = k.1.has_ops; its_by = k.1.its_by; its_id = k.1.its_id; its_begin = k.1.its_begin; its_level = k.1.its_level; its_ops = k.1.its_ops; its_used = k.1.its_used; low = k.1.low; led = record { it = k.1.led.it; mem = on.later.grows.leads y.to k.1.led.it k.1.led.mem; is = k.1.led.is } })
    go (Finish a) other k = (finish_on G far h i j x a ne may on k.0, waited k.1)
    go (Move m) other k = move_on G h i (j, x) m (idle_site G i (j, x) h ne) k
    go Order other k = k
    go Obeyed other k = k
    go (Fire l m) other k = k
    go Barrier other k = (k.0, beyond_on G steady h j x legal may (zero_ne i j k.0 ne) k.1)
    go (Fed d g) other k = (k.0, k.1, ap (λ (z : Part). z.asked) p ∙ k.2, begin_on G.nodes (field h) (field ((j, x) ∷ h)) k.1 d g on k.3)
    go (FedAgain d) other k = (k.0, k.1 ∙ sym (fed_append 0 (lines G h) _ ∙ no_fed G h (last_fed (lines G h)) j x (zero_ne i j k.0 ne) may), few_on G h i (j, x) p k.2)

-- a ticket that nobody asked with
above : (xs : List ℕ) → (t : ℕ) × Each (λ s. s < t) xs
above [] = (0, each_none)
above (x ∷ xs) = let r = above xs in (x + r.0 + 1, each_add (omega arith) (each_more (λ s l. let l' : s < r.0 = l in omega arith) r.1))

-- and who may ask may ask with another ticket
pub asks_again : (G : Setting) (h : List (ℕ × ActorEvent)) (i j : ℕ) (x : ActorEvent) (t : ℕ) → (i == j) ≡ false → MayDo G h i (Ask t) → (u : ℕ) × MayDo G ((j, x) ∷ h) i (Ask u)
asks_again G h i j x t ne k =
    let r = above (field ((j, x) ∷ h)).core.asks in
    let p : part G i ((j, x) ∷ h) ≡ part G i h = idle_part G i (j, x) h ne in
    let w : G.phase i (part G i h).told ≤ barriers_printed h = k.1 in
    let b = barriers_more (j, x) h in
    (r.0, ((each_more (λ s l e. let l' : s < r.0 = l in omega arith) r.1, tt), subst (λ (z : Part). G.phase i z.told ≤ barriers_printed ((j, x) ∷ h)) (sym p) (omega arith), elim k.2 [ inl n ↦ inl (λ q. n (ap (λ (z : Part). z.left) (sym p) ∙ q)) | inr z ↦ inr z ]))

pub stays_long : (G : Setting) (h more : List (ℕ × ActorEvent)) (i : ℕ) (e : ActorEvent) → AreNamedApart G → Steady G → IsLegalHistory G (more ++ h) → Each (λ x. (i == x.0) ≡ false) more → ((t : ℕ) → e ≡ Ask t → ⊥) → MayDo G h i e → MayDo G (more ++ h) i e
stays_long G h [] i e far steady legal idle other k = k
stays_long G h ((j, x) ∷ more) i e far steady legal idle other k = stays G far steady (more ++ h) i j x e legal.1 legal.0 (idle.at (j, x) here) other (stays_long G h more i e far steady legal.1 (record { at = λ y m. idle.at y (there m) }) other k)

pub asks_long : (G : Setting) (h more : List (ℕ × ActorEvent)) (i t : ℕ) → Each (λ x. (i == x.0) ≡ false) more → MayDo G h i (Ask t) → (u : ℕ) × MayDo G (more ++ h) i (Ask u)
asks_long G h [] i t idle k = (t, k)
asks_long G h ((j, x) ∷ more) i t idle k = let r = asks_long G h more i t (record { at = λ y m. idle.at y (there m) }) k in asks_again G (more ++ h) i j x r.0 (idle.at (j, x) here) r.1

-- ---- what is asked besides

idle_tally : (h : List (ℕ × ActorEvent)) (i j : ℕ) (e : ActorEvent) → (i == j) ≡ false → count_of i ((j, e) ∷ h) ≡ count_of i h
idle_tally h i j e ne = ap (λ b. cond b (turn_counted (count_of i h) (turn e)) (count_of i h)) ne

-- the operator's duty is its own
idle_duty : (G : Setting) (body : List BodyLine) (h : List (ℕ × ActorEvent)) (j : ℕ) (e : ActorEvent) → (0 == j) ≡ false → MayDo G h j e → duty body ((j, e) ∷ h) ≡ duty body h
idle_duty G body h j Order ne may = absurd (let z : j ≡ 0 = may in let y = (Decides-eqb 0 j).1 (sym z) in cc)
idle_duty G body h j Obeyed ne may = absurd (let z : j ≡ 0 = may in let y = (Decides-eqb 0 j).1 (sym z) in cc)
idle_duty G body h j Barrier ne may = absurd (let z : j ≡ 0 = may.0 in let y = (Decides-eqb 0 j).1 (sym z) in cc)
idle_duty G body h j (Fed p g) ne may = absurd (let z : j ≡ 0 = may.0 in let y = (Decides-eqb 0 j).1 (sym z) in cc)
idle_duty G body h j (FedAgain p) ne may = absurd (let z : j ≡ 0 = may.0 in let y = (Decides-eqb 0 j).1 (sym z) in cc)
idle_duty G body h j _ ne may = refl

stopped_on : (body : List BodyLine) (h : List (ℕ × ActorEvent)) (i j : ℕ) (x : ActorEvent) → (i == j) ≡ false → IsStopOrdered body h i → IsStopOrdered body ((j, x) ∷ h) i
stopped_on body h i j x ne k = record { it = k.it; mem = in_append (new_orders h x (duty body h).left) (orders body h) k.mem; is = (k.is.0, k.is.1 ∙ ap (λ (t : Count). t.ups) (sym (idle_tally h i j x ne))) }

started_on : (body : List BodyLine) (h : List (ℕ × ActorEvent)) (i j : ℕ) (x : ActorEvent) → (i == j) ≡ false → IsStartOrdered body h i → IsStartOrdered body ((j, x) ∷ h) i
started_on body h i j x ne k = record { it = k.it; mem = in_append (new_orders h x (duty body h).left) (orders body h) k.mem; is = (k.is.0, k.is.1 ∙ ap (λ (t : Count). t.falls) (sym (idle_tally h i j x ne))) }

idle_up : (G : Setting) (h : List (ℕ × ActorEvent)) (i j : ℕ) (x : ActorEvent) → (i == j) ≡ false → is_up i (lines G ((j, x) ∷ h)) ≡ is_up i (lines G h)
idle_up G h i j x ne = up_append i true (lines G h) (lines_by G (lines G h) (part G j h) j x) ∙ other_lines G i j ne (is_up i (lines G h)) (lines G h) (part G j h) x

obeyed_on : (G : Setting) (body : List BodyLine) (h : List (ℕ × ActorEvent)) (x : ℕ × ActorEvent) → duty body (x ∷ h) ≡ duty body h → IsObeyed G body h → IsObeyed G body (x ∷ h)
obeyed_on G body h x same k = record {
  of_node = k.of_node;
  later = x ∷ k.later;
  before = k.before;
  split = ap (λ z. x ∷ z) k.split;
  same = k.same ∙ ap (λ (d : Duty). d.left) (sym same);
  ordered = ap (λ (d : Duty). d.ordered) same ∙ k.ordered;
  line = k.line;
  act = k.act;
  rest = k.rest;
  next = ap (λ (d : Duty). d.left) same ∙ k.next;
  since = k.since;
  heeded = k.heeded;
}

armed_on : (h : List (ℕ × ActorEvent)) (i j : ℕ) (x : ActorEvent) → (i == j) ≡ false → IsStopArmed h i → IsStopArmed ((j, x) ∷ h) i
armed_on h i j x ne k = record { it = k.it; mem = in_append (new_fires h j x) (fires h) k.mem; is = (k.is.0, k.is.1 ∙ ap (λ (t : Count). t.ups) (sym (idle_tally h i j x ne))) }

new_other : (h : List (ℕ × ActorEvent)) (i j l : ℕ) (x : ActorEvent) → (i == j) ≡ false → Each (λ f. f.by ≡ i → f.line ≢ l) (new_fires h j x)
new_other h i j l (Fire m node) ne = each_add (λ (e : j ≡ i). absurd (let y = (Decides-eqb i j).1 (sym e) in cc)) each_none
new_other h i j l _ ne = each_none

each_join : {A : Type 0} {P : A → Type 0} (xs ys : List A) → Each P xs → Each P ys → Each P (xs ++ ys)
each_join [] ys a b = b
each_join (x ∷ xs) ys a b = each_add (a.at x here) (each_join xs ys (record { at = λ y m. a.at y (there m) }) b)

appended_on : (f g : Field) (id : CommitId) (node : ℕ) → On f g → IsAppended f id node → IsAppended g id node
appended_on f g id node on k = record { it = k.it; mem = (on.said node).ships k.it k.mem; is = k.is }

due_on : (G : Setting) (h : List (ℕ × ActorEvent)) (i j : ℕ) (x : ActorEvent) (node : ℕ) (when : Moment) → (i == j) ≡ false → On (field h) (field ((j, x) ∷ h)) → IsDue G h i node when → IsDue G ((j, x) ∷ h) i node when
unfolding commits_on
due_on G h i j x node (moment.Row row) ne on k = k ∙ ap (λ (z : Site). z.node) (sym (idle_site G i (j, x) h ne))
due_on G h i j x node moment.Append ne on k = (commits_on G h ((j, x) ∷ h) i on (idle_part G i (j, x) h ne) k.0, appended_on (field h) (field ((j, x) ∷ h)) (commit_id_of G i k.0.txn k.0.start) node on k.1)
due_on G h i j x node moment.Ship ne on k = (commits_on G h ((j, x) ∷ h) i on (idle_part G i (j, x) h ne) k.0, appended_on (field h) (field ((j, x) ∷ h)) (commit_id_of G i k.0.txn k.0.start) node on k.1, k.2, kept_on (field h) (field ((j, x) ∷ h)) (commit_id_of G i k.0.txn k.0.start) k.2 on k.3)

fire_on : (G : Setting) (body : List BodyLine) (h : List (ℕ × ActorEvent)) (i j : ℕ) (x : ActorEvent) (l node : ℕ) → (i == j) ≡ false → On (field h) (field ((j, x) ∷ h)) → MayFire G body h i l node → MayFire G body ((j, x) ∷ h) i l node
fire_on G body h i j x l node ne on k = record {
  when = k.when;
  stands = k.stands;
  armed = subst (λ (z : Part). G.armed i z.told l ≡ true) (sym (idle_part G i (j, x) h ne)) k.armed;
  waited = waited_on G h i (j, x) (idle_part G i (j, x) h ne) k.waited;
  once = each_join (new_fires h j x) (fires h) (new_other h i j l x ne) k.once;
  due = due_on G h i j x node k.when ne on k.due;
}

heeds_on : (G : Setting) (body : List BodyLine) → Steady G → (h : List (ℕ × ActorEvent)) (i j : ℕ) (x e : ActorEvent) → IsLegalHistory G h → MayDo G h j x → (i == j) ≡ false → MayDo G h i e → Heeds G body h i e → Heeds G body ((j, x) ∷ h) i e
heeds_on G body steady h i j x e legal may ne mine k = go e mine k
  where
    tallied : (b : Bool) → (count_of i h).up ≡ b → (count_of i ((j, x) ∷ h)).up ≡ b
    tallied b q = ap (λ (t : Count). t.up) (idle_tally h i j x ne) ∙ q

    its_duty : i ≡ 0 → duty body ((j, x) ∷ h) ≡ duty body h
    its_duty z = idle_duty G body h j x (zero_ne i j z ne) may

    on : On (field h) (field ((j, x) ∷ h))
    on = on_event G.nodes h j x (later_event G h j x (good_of G h legal).inv may)

    asks_due : i ≡ 0 → IsFeedDue G body h → IsFeedDue G body ((j, x) ∷ h)
    asks_due z d = (d.0, d.1, ap (λ (d : Duty). d.left) (its_duty z) ∙ d.2, λ q. beyond_on G steady h j x legal may (zero_ne i j z ne) (d.3 q))

    go : (e : ActorEvent) → MayDo G h i e → Heeds G body h i e → Heeds G body ((j, x) ∷ h) i e
    go (Node (Boot p a l)) mine k = (tallied false k.0, elim k.1 [ inl u ↦ inl (idle_up G h i j x ne ∙ u) | inr s ↦ inr (started_on body h i j x ne s) ])
    go (Node (Back p)) mine k = (tallied false k.0, started_on body h i j x ne k.1)
    go (Node BackLead) mine k = (tallied false k.0, started_on body h i j x ne k.1)
    go (Node (BackTake g l)) mine k = (tallied false k.0, started_on body h i j x ne k.1)
    go (Node (BackGrow l)) mine k = (tallied false k.0, started_on body h i j x ne k.1)
    go (Node (BackAppend y)) mine k = (tallied false k.0, started_on body h i j x ne k.1)
    go (Node (Admits n p a)) mine k = tt
    go (Node _) mine k = tt
    go Stop mine k = (tallied true k.0, elim k.1 [ inl s ↦ inl (stopped_on body h i j x ne s) | inr f ↦ inr (armed_on h i j x ne f) ])
    go Order mine k = record { unordered = ap (λ (d : Duty). d.ordered) (its_duty mine) ∙ k.unordered; line = k.line; act = k.act; rest = k.rest; next = ap (λ (d : Duty). d.left) (its_duty mine) ∙ k.next; of_node = k.of_node }
    go (Ask t) mine k = λ z. asks_due z (k z)
    go (Fed d g) mine k = (k.0, k.1, ap (λ (d : Duty). d.left) (its_duty mine.0) ∙ k.2)
    go (FedAgain d) mine k = (k.0, k.1, ap (λ (d : Duty). d.left) (its_duty mine.0) ∙ k.2)
    go (Fire l m) mine k = fire_on G body h i j x l m ne on k
    go Obeyed mine k = obeyed_on G body h (j, x) (its_duty mine) k
    go Barrier mine k = (k.0, k.1, ap (λ (d : Duty). d.left) (its_duty mine.0) ∙ k.2)
    go _ mine k = tt

fallen_on : (G : Setting) (h : List (ℕ × ActorEvent)) (i : ℕ) (x : ℕ × ActorEvent) (o : Option Fired) → HasFallen G h i o → HasFallen G (x ∷ h) i o
fallen_on G h i x None k = tt
fallen_on G h i x (Some f) k = record { later = x ∷ k.later; before = k.before; split = ap (λ z. x ∷ z) k.split; since = k.since; down = k.down }

goes_on : (G : Setting) (h : List (ℕ × ActorEvent)) (i : ℕ) (x : ℕ × ActorEvent) → (i == x.0) ≡ false → HasFallen G h i (last_fired i h) → HasFallen G (x ∷ h) i (last_fired i (x ∷ h))
goes_on G h i x ne k = subst (λ o. HasFallen G (x ∷ h) i o) (sym (idle_fired i x h ne)) (fallen_on G h i x (last_fired i h) k)

-- what is by the script stays so
pub by_script_long : (G : Setting) (body : List BodyLine) (h more : List (ℕ × ActorEvent)) (i : ℕ) (e : ActorEvent) → AreNamedApart G → Steady G → IsLegalHistory G (more ++ h) → Each (λ x. (i == x.0) ≡ false) more → MayDo G h i e → IsByScript G body h i e → ((t : ℕ) → e ≡ Ask t → ⊥) → IsByScript G body (more ++ h) i e
by_script_long G body h [] i e far steady legal idle may k other = k
by_script_long G body h ((j, x) ∷ more) i e far steady legal idle may k other =
    let idle' : Each (λ x. (i == x.0) ≡ false) more = record { at = λ y m. idle.at y (there m) } in
    let old = by_script_long G body h more i e far steady legal.1 idle' may k other in
    record {
      heeds = heeds_on G body steady (more ++ h) i j x e legal.1 legal.0 (idle.at (j, x) here) (stays_long G h more i e far steady legal.1 idle' other may) old.heeds;
      goes_on = goes_on G (more ++ h) i (j, x) (idle.at (j, x) here) old.goes_on;
    }

-- and so does an ask, with whatever ticket
ask_on : (G : Setting) (body : List BodyLine) → Steady G → (h : List (ℕ × ActorEvent)) (i j : ℕ) (x : ActorEvent) (t u : ℕ) → IsLegalHistory G h → MayDo G h j x → (i == j) ≡ false → IsByScript G body h i (Ask t) → IsByScript G body ((j, x) ∷ h) i (Ask u)
ask_on G body steady h i j x t u legal may ne k = record {
  heeds = λ z. (let d = k.heeds z in (d.0, d.1, ap (λ (d : Duty). d.left) (idle_duty G body h j x (zero_ne i j z ne) may) ∙ d.2, λ q. beyond_on G steady h j x legal may (zero_ne i j z ne) (d.3 q)));
  goes_on = goes_on G h i (j, x) ne k.goes_on;
}

pub ask_by_script_long : (G : Setting) (body : List BodyLine) (h more : List (ℕ × ActorEvent)) (i t u : ℕ) → Steady G → IsLegalHistory G (more ++ h) → Each (λ x. (i == x.0) ≡ false) more → IsByScript G body h i (Ask t) → IsByScript G body (more ++ h) i (Ask u)
ask_by_script_long G body h [] i t u steady legal idle k = record { heeds = k.heeds; goes_on = k.goes_on }
ask_by_script_long G body h ((j, x) ∷ more) i t u steady legal idle k =
    ask_on G body steady (more ++ h) i j x u u legal.1 legal.0 (idle.at (j, x) here) (ask_by_script_long G body h more i t u steady legal.1 (record { at = λ y m. idle.at y (there m) }) k)
