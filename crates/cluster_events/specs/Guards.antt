-- When each event may happen, after which history.
use Rattle.cluster_requests.specs.KeptEntries.{state_of}
use Rattle.std.specs.Prelude.{ℕ, ◌≡◌, ◌≢◌, ◌+◌, ◌<◌, ◌≤◌, ◌==◌, true, false, List, [], ◌∷◌, ◌++◌, Some, None, length, ◌⊎◌}
use Rattle.std.specs.Str.{bytes_eq}
use Rattle.cdb_values.specs.Changes.{changes_of}
use Rattle.cdb_values.specs.Good.{IsGood}
use Rattle.cdb_values.specs.Rows.{no_rows, apply_all}
use Rattle.cdb_values.specs.declared.rows.Level.{Level}
use Rattle.cluster_begins.specs.Begins.{CanBegin}
use Rattle.cluster_consensus.specs.Committed.{IsCommitted as IsSettledIn}
use Rattle.cluster_consensus.specs.Durable.{DurableIn}
use Rattle.cluster_consensus.specs.Events.{NodeEvent}
use Rattle.cluster_consensus.specs.Events.NodeEvent.{Admits, Down, Boot, BackAppend, Append, Asks}
use Rattle.cluster_requests.specs.Identities.{identity_of}
use Rattle.cluster_requests.specs.Requests.{Sent, Settled, Field, May}
use Rattle.cluster_requests.specs.Requests.FieldAct.{Core, ToSend, ToSettle, ToRepeat}
use Rattle.core_lists.specs.Fronts.{Front}
use Rattle.core_lists.specs.Lists.{In, Each, Has}
use Rattle.phys_log.specs.declared.entries.CommitId.{CommitId}
use Rattle.cluster_requests.specs.KeptEntries.{KeptEntry}
use Rattle.cluster_requests.specs.KeptEntries.KeptEntry.{SetupKept, CommitKept}
use Rattle.report_laws.specs.Nodes.{are_few}
use Rattle.report_laws.specs.Outcome.{IsConflict, IsDuplicate}
use Rattle.report_laws.specs.Places.{IsLost, IsShort, survives}
use Rattle.report_laws.specs.Told.{IsToCommit}
use Rattle.report_laws.specs.View.{IsUntouched}
use Rattle.report_laws.specs.Work.{Transaction, WorkItem, Does, Lone, ByRollback, Nowhere}
use Rattle.report_text.specs.declared.reports.Line.{Line}
use Rattle.report_text.specs.declared.reports.Line.TheVariants as line
use Rattle.cdb_values.specs.declared.replies.Reply.{Reply}
use Rattle.cdb_values.specs.declared.replies.Reply.TheVariants as reply
use Rattle.session_language.specs.Answers.{IsPlain}
use Rattle.session_language.specs.Language.{Answered}
use Rattle.session_language.specs.Touched.{used_at}
use Rattle.cluster_events.specs.Sites.{site, CanMove}
use Rattle.cluster_events.specs.Settings.{Setting, changes_in, basis, kept_rows_at, run_alone, log_view}
use Rattle.cluster_events.specs.Parts.{ActorEvent, Part, Opened, part, field, lines, barriers_printed}
use Rattle.cluster_events.specs.Parts.ActorEvent.{Node, Stop, Settle, Repeat, Ask, Begun, Say, Note, Send, Finish, Move, Order, Obeyed, Fire, Barrier, Fed, FedAgain}

abbrev pub DurableNow : ℕ → Field → List KeptEntry → Type 0
DurableNow n f d = (g : ℕ) × DurableIn n f.core g d

-- all replies of the transaction are told, at its begin position in some durable log
pub record AreRepliesTold (G : Setting) (f : Field) (t : Transaction) (b : ℕ) (mine : List Reply) (a : Answered) : Type 0 where
  pub log : List KeptEntry
  pub durable : DurableNow G.nodes f log
  pub within : b ≤ length log
  pub alone : a ≡ run_alone G (kept_rows_at G log b) t
  pub says : mine ≡ reply.Begin b ∷ a.replies

-- a front of them is told
pub record IsFrontAnswered (G : Setting) (f : Field) (t : Transaction) (b : ℕ) (mine : List Reply) : Type 0 where
  pub log : List KeptEntry
  pub durable : DurableNow G.nodes f log
  pub within : b ≤ length log
  pub fits : Front mine (reply.Begin b ∷ (run_alone G (kept_rows_at G log b) t).replies)

pub record IsAtTransaction (p : Part) (t : Transaction) : Type 0 where
  pub others : List WorkItem
  pub is : p.left ≡ Does t ∷ others

pub record IsInTransaction (p : Part) (t : Transaction) (o : Opened) : Type 0 where
  pub others : List WorkItem
  pub is : p.left ≡ Does t ∷ others
  pub opened : p.opened ≡ Some o

abbrev pub commit_id_of : Setting → ℕ → Transaction → Opened → CommitId
commit_id_of G s t o = record { began = o.gen; session = G.names s; txn = t.number }

-- an appended commit is what the decision gives for a request, and the pages stand for the state_of after it
pub record IsCommitRightlyAppended (G : Setting) (f : Field) (i : ℕ) (log : List KeptEntry) (id : CommitId) (begin : ℕ) (level : Level) (e : KeptEntry) : Type 0 where
  pub sent : Sent
  pub mem : In sent f.sends
  pub its_id : sent.id ≡ id
  pub gen : sent.gen ≡ (f.core.nodes i).accepted
  pub its_begin : begin ≡ sent.begin
  pub its_level : level ≡ sent.level
  pub changes : changes_in (Some e) ≡ changes_of sent.ops (state_of log).next
  pub rows : state_of (log ++ e ∷ []) ≡ apply_all (state_of log) sent.ops
  pub untouched : IsUntouched (log_view G log) sent.begin (length log + 1) sent.used
  pub good : IsGood G.tables (apply_all (state_of log) sent.ops).tables

-- an appended entry is right: a commit so; a setup is that of the script's schema
abbrev pub IsRightlyAppended : Setting → Field → ℕ → List KeptEntry → KeptEntry → Type 0
IsRightlyAppended G f i log (SetupKept generation schema records reached) = (log ≡ []) × (state_of (SetupKept generation schema records reached ∷ []) ≡ no_rows G.tables)
IsRightlyAppended G f i log (CommitKept generation id begin level changes records reached) = IsCommitRightlyAppended G f i log id begin level (CommitKept generation id begin level changes records reached)

-- a refusal of a request over a log
abbrev pub IsRightRefusal : Setting → List KeptEntry → Sent → Reply → Type 0
IsRightRefusal G log x (reply.ConflictGenid k table genid) = IsConflict (basis G) (log_view G log) x.begin k x.used x.ops (reply.ConflictGenid k table genid)
IsRightRefusal G log x (reply.ConflictRange k table key) = IsConflict (basis G) (log_view G log) x.begin k x.used x.ops (reply.ConflictRange k table key)
IsRightRefusal G log x (reply.Duplicate k table key) = IsDuplicate (basis G) (log_view G log) x.begin k x.used x.ops table key
IsRightRefusal G log x _ = ⊥

pub record Refuses (G : Setting) (f : Field) (i : ℕ) (log : List KeptEntry) (id : CommitId) (why : Reply) : Type 0 where
  pub sent : Sent
  pub mem : In sent f.sends
  pub its_id : sent.id ≡ id
  pub its_node : sent.to ≡ i
  pub gen : sent.gen ≡ (f.core.nodes i).accepted
  pub is_right : IsRightRefusal G log sent why

-- each commit of a store began in a generation that the store accepted
abbrev pub BeganBy : ℕ → KeptEntry → Type 0
BeganBy a (SetupKept generation schema records reached) = Unit {0}
BeganBy a (CommitKept generation id begin level changes records reached) = id.began ≤ a

abbrev pub MayStep : Setting → Field → ℕ → NodeEvent KeptEntry → Type 0
MayStep G f i (Append e) = IsRightlyAppended G f i (f.core.nodes i).log e
MayStep G f i (BackAppend e) = IsRightlyAppended G f i (f.core.nodes i).log e
MayStep G f i (Boot p a l) = (xs : List KeptEntry) (e : KeptEntry) → Front (xs ++ e ∷ []) l → BeganBy a e
MayStep G f i _ = Unit {0}

-- the position that a refusal speaks of is durable in the generation of the last request
pub record IsRefused (f : Field) (id : CommitId) (k : ℕ) (why : Reply) : Type 0 where
  pub settled : Settled
  pub mem : In settled f.settles
  pub its_id : settled.id ≡ id
  pub its_refusal : settled.why ≡ why
  pub last : Each (λ s. s.id ≡ id → s.gen ≤ settled.gen) f.sends
  pub node : ℕ
  pub durable : Has (λ d. (d.gen ≡ settled.gen) × (k ≤ length d.log)) (f.core.nodes node).durables

-- its entry stands at this position in a master's log, durable there
pub record IsKept (f : Field) (id : CommitId) (k : ℕ) : Type 0 where
  pub gen : ℕ
  pub before : List KeptEntry
  pub entry : KeptEntry
  pub kept : IsSettledIn f.core gen (before ++ entry ∷ [])
  pub its_id : identity_of entry ≡ Some id
  pub position : k ≡ length before + 1

-- a transaction that is to be committed has all its replies
pub record Commits (G : Setting) (h : List (ℕ × ActorEvent)) (s : ℕ) : Type 0 where
  pub txn : Transaction
  pub start : Opened
  pub at : IsInTransaction (part G s h) txn start
  pub ends : IsToCommit txn.end
  pub ran : Answered
  pub answered : AreRepliesTold G (field h) txn start.begin (part G s h).mine ran

-- a transaction is lost by a node: the session's own, or one to which its commit was sent
abbrev pub IsOfLoss : Setting → List (ℕ × ActorEvent) → ℕ → CommitId → ℕ → Type 0
IsOfLoss G h s id node = (node ≡ (site G s h).node) ⊎ Has (λ x. (x.id ≡ id) × (x.to ≡ node)) (field h).sends

abbrev pub MayFinish : Setting → List (ℕ × ActorEvent) → ℕ → Reply → Type 0
MayFinish G h s reply.RolledBack = (t : Transaction) × (o : Opened) × IsInTransaction (part G s h) t o × (t.end ≡ ByRollback) × (a : Answered) × AreRepliesTold G (field h) t o.begin (part G s h).mine a
MayFinish G h s (reply.Committed k) = (c : Commits G h s) × (((c.ran.ops ≡ []) × (k ≡ c.start.begin)) ⊎ ((c.ran.ops ≢ []) × IsKept (field h) (commit_id_of G s c.txn c.start) k))
MayFinish G h s (reply.ConflictGenid k table genid) = (c : Commits G h s) × IsRefused (field h) (commit_id_of G s c.txn c.start) k (reply.ConflictGenid k table genid)
MayFinish G h s (reply.ConflictRange k table key) = (c : Commits G h s) × IsRefused (field h) (commit_id_of G s c.txn c.start) k (reply.ConflictRange k table key)
MayFinish G h s (reply.Duplicate k table key) = (c : Commits G h s) × IsRefused (field h) (commit_id_of G s c.txn c.start) k (reply.Duplicate k table key)
MayFinish G h s (reply.Lost node down) = (t : Transaction) × (o : Opened) × IsInTransaction (part G s h) t o × (survives G.script (G.names s) ≡ false) × IsLost (lines G h) (G.names s) t.number node down × IsOfLoss G h s (commit_id_of G s t o) node
MayFinish G h s (reply.NoMajority up nodes) = (t : Transaction) × IsAtTransaction (part G s h) t × IsShort G.script (lines G h) (G.names s) up nodes
    × (((part G s h).opened ≡ None) ⊎ ((survives G.script (G.names s) ≡ true) ⊎ ((c : Commits G h s) × (c.ran.ops ≢ []))))
MayFinish G h s reply.NoMemory = (t : Transaction) × IsAtTransaction (part G s h) t
MayFinish G h s _ = ⊥

-- the barriers before a session's line are told
abbrev pub HasWaited : Setting → List (ℕ × ActorEvent) → ℕ → Type 0
HasWaited G h s = G.phase s (part G s h).told ≤ barriers_printed h

-- a commit is sent with what its transaction was answered
pub record Sends (G : Setting) (h : List (ℕ × ActorEvent)) (i : ℕ) (x : Sent) : Type 0 where
  pub at : Commits G h i
  pub has_ops : at.ran.ops ≢ []
  pub its_by : x.by ≡ i
  pub its_id : x.id ≡ commit_id_of G i at.txn at.start
  pub its_begin : x.begin ≡ at.start.begin
  pub its_level : x.level ≡ at.txn.level
  pub its_ops : x.ops ≡ at.ran.ops
  pub its_used : x.used ≡ used_at at.txn.level at.ran
  pub low : at.start.gen ≤ x.gen
  pub led : Has (λ l. l.gen ≡ x.gen) ((field h).core.nodes x.to).leads

-- the position of the last line of feeds
abbrev pub fed_after : ℕ → Line → ℕ
fed_after d (line.Fed e) = e
fed_after d _ = d

abbrev pub fed_from : ℕ → List Line → ℕ
fed_from d [] = d
fed_from d (l ∷ ls) = fed_from (fed_after d l) ls

abbrev pub last_fed : List Line → ℕ
last_fed ls = fed_from 0 ls

-- a node's event is its own, and admissions are the operator's
abbrev pub IsActedBy : ℕ → ℕ → NodeEvent KeptEntry → Type 0
IsActedBy n i (Admits k p a) = i ≡ 0
IsActedBy n i (Asks t) = ⊥
IsActedBy n i _ = (1 ≤ i) × (i ≤ n)

-- at some place since the ask that is pending few nodes were up
pub record WereFew (G : Setting) (h : List (ℕ × ActorEvent)) (i : ℕ) : Type 0 where
  pub ask : ℕ
  pub asked : (part G i h).asked ≡ Some ask
  pub later : List (ℕ × ActorEvent)
  pub before : List (ℕ × ActorEvent)
  pub split : h ≡ later ++ before
  pub since : (part G i before).asked ≡ Some ask
  pub few : are_few G.nodes (lines G before) ≡ true

-- each session that is not done has the barriers so far, and the next one, behind it
abbrev pub AllBeyond : Setting → List (ℕ × ActorEvent) → Type 0
AllBeyond G h = (s : ℕ) → (s == 0) ≡ false → (part G s h).left ≢ [] → barriers_printed h < G.phase s (part G s h).told

abbrev pub MayDo : Setting → List (ℕ × ActorEvent) → ℕ → ActorEvent → Type 0
MayDo G h i (Node e) = May G.nodes (field h) i (Core e) × MayStep G (field h) i e × IsActedBy G.nodes i e
MayDo G h i Stop = May G.nodes (field h) i (Core Down) × (((field h).core.nodes i).up ≡ true) × (1 ≤ i) × (i ≤ G.nodes)
MayDo G h i (Settle id why) = May G.nodes (field h) i (ToSettle id why) × Refuses G (field h) i ((field h).core.nodes i).log id why
MayDo G h i (Repeat id k) = May G.nodes (field h) i (ToRepeat id k)
MayDo G h i (Ask t) = May G.nodes (field h) i (Core (Asks t)) × HasWaited G h i × (((part G i h).left ≢ []) ⊎ (i ≡ 0))
MayDo G h i (Begun b g) = (ask : ℕ) × ((part G i h).asked ≡ Some ask) × ((part G i h).opened ≡ None) × (t : Transaction) × IsAtTransaction (part G i h) t × CanBegin G.nodes (field h).core ask b g × ((i == 0) ≡ false)
MayDo G h i (Say r) = (t : Transaction) × (o : Opened) × IsInTransaction (part G i h) t o × IsFrontAnswered G (field h) t o.begin ((part G i h).mine ++ r ∷ []) × IsPlain r × HasWaited G h i
MayDo G h i Note = (r : Reply) × (others : List WorkItem) × ((part G i h).left ≡ Lone r ∷ others) × IsPlain r × HasWaited G h i
MayDo G h i (Send x) = May G.nodes (field h) i (ToSend x) × Sends G h i x
MayDo G h i (Finish a) = MayFinish G h i a × HasWaited G h i
MayDo G h i (Move node) = CanMove G h i node
MayDo G h i Order = i ≡ 0
MayDo G h i Obeyed = i ≡ 0
MayDo G h i (Fire line node) = (i == 0) ≡ false
MayDo G h i Barrier = (i ≡ 0) × AllBeyond G h
MayDo G h i (Fed d g) = (i ≡ 0) × (ask : ℕ) × ((part G i h).asked ≡ Some ask) × CanBegin G.nodes (field h).core ask d g
MayDo G h i (FedAgain d) = (i ≡ 0) × (d ≡ last_fed (lines G h)) × WereFew G h i

abbrev pub IsLegalHistory : Setting → List (ℕ × ActorEvent) → Type 0
IsLegalHistory G [] = Unit {0}
IsLegalHistory G (x ∷ h) = MayDo G h x.0 x.1 × IsLegalHistory G h

-- actors are called by different names
abbrev pub AreNamedApart : Setting → Type 0
AreNamedApart G = (i j : ℕ) → (i == j) ≡ false → bytes_eq (G.names i) (G.names j) ≡ false

-- transactions are numbered upwards
abbrev pub Rising : ℕ → List WorkItem → Type 0
Rising k [] = Unit {0}
Rising k (Does t ∷ is) = (k < t.number) × Rising t.number is
Rising k (Lone r ∷ is) = Rising k is

-- a session did all its lines: it is at the end, or in the transaction that its script leaves open, with all replies
abbrev pub IsDone : Setting → List (ℕ × ActorEvent) → ℕ → Type 0
IsDone G h s = ((part G s h).left ≡ []) ⊎ ((t : Transaction) × ((part G s h).left ≡ Does t ∷ []) × (t.end ≡ Nowhere) × (o : Opened) × ((part G s h).opened ≡ Some o) × (a : Answered) × AreRepliesTold G (field h) t o.begin (part G s h).mine a)
