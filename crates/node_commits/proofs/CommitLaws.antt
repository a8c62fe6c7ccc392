-- What a leader decides of a request that was sent to it may be appended, or told.
use Rattle.std.proofs.Common.{ℕ, ◌≡◌, [], refl, sym, subst, ap, ◌∙◌}
use Rattle.std.specs.Prelude.{true, Option, Some, None, option_map, slice_get, unwrap_or}
use Rattle.std.proofs.lemmas.Option.{same_Some}
use Rattle.actor_trace.specs.History.{entries_of}
use Rattle.block_processor.specs.Asked.{IsAsked}
use Rattle.block_processor.specs.Conflicts.{conflict_of}
use Rattle.block_processor.specs.Decided.{Decides, IsNew}
use Rattle.cdb_values.specs.Good.{KeyName}
use Rattle.cdb_values.specs.declared.replies.Reply.{Reply}
use Rattle.cdb_values.specs.declared.replies.Reply.TheVariants as reply
use Rattle.cdb_values.specs.declared.tables.KeyDef.{KeyDef}
use Rattle.cdb_values.specs.declared.tables.TableDef.{TableDef}
use Rattle.cluster_decisions.specs.Requested.{IsRequestOf, stored_entries}
use Rattle.cluster_decisions.proofs.AskedLaws.{asked_at, of_log}
use Rattle.cluster_decisions.proofs.DecisionLaws.{duplicates, lacks_of}
use Rattle.cluster_decisions.proofs.NamedLaws.{names}
use Rattle.cluster_decisions.proofs.RefusalLaws.{refuses, repeats}
use Rattle.cluster_events.specs.Guards.{MayDo as MayHappen, Refuses}
use Rattle.cluster_events.specs.Parts.{ActorEvent, field}
use Rattle.cluster_events.specs.Settings.{Setting}
use Rattle.cluster_requests.specs.Requests.{May, Sent}
use Rattle.cluster_requests.specs.Requests.FieldAct.{ToRepeat}
use Rattle.cluster_steps.specs.Named.{duplicate_line, refusal_line, steps, world}
use Rattle.core_lists.specs.Lists.{In, Each}
use Rattle.core_lists.proofs.Lists.{nothing}
use Rattle.phys_log.specs.declared.entries.CommitId.{CommitId}
use Rattle.phys_log.specs.declared.entries.Entry.{Entry}
use Rattle.phys_log.specs.declared.requests.CommitRequest.{CommitRequest}
use Rattle.phys_log.specs.declared.requests.Decision.{Decision}
use Rattle.phys_log.specs.declared.requests.Decision.TheVariants as decision
use Rattle.report_laws.specs.Outcome.{name_or_none}
use Rattle.session_language.specs.Intervals.{keys_in}
use Rattle.table_edits.specs.Broken.{key_name, name_in}
use Rattle.node_state.specs.Commits.{MayEnter, MaySettle}
use Rattle.node_state.specs.Nodes.{Held, IsOwn, events_of}
use Rattle.node_commits.specs.Asked.{IsToAnswer, ground_of, log_at}
use Rattle.node_commits.specs.Commits.{IsTelling}
use Rattle.node_commits.specs.Ledgers.{Book, told_by}
use Rattle.node_commits.proofs.HistoryLaws.{ids_behind, settled_is, unsettled}

-- a leader with its ledger, and a request that was sent to it
pub record Case (G : Setting) (h : Held) (b : Book) (sent : Sent) (request : CommitRequest) : Type 0 where
  pub own : IsOwn G h
  pub made : h.actor.made ≡ entries_of h.actor.number h.actor.seen
  pub is : IsToAnswer G h b sent request

leading : {G : Setting} {h : Held} {b : Book} {sent : Sent} {request : CommitRequest} → Case G h b sent request → ((world G h.actor.seen).nodes h.vote.node).leading ≡ true
leading c = sym c.own.node.part.leading ∙ c.is.leads.leading

up : {G : Setting} {h : Held} {b : Book} {sent : Sent} {request : CommitRequest} → Case G h b sent request → ((world G h.actor.seen).nodes h.vote.node).up ≡ true
up c = sym c.own.node.part.up ∙ c.is.leads.up

gen : {G : Setting} {h : Held} {b : Book} {sent : Sent} {request : CommitRequest} → Case G h b sent request → sent.gen ≡ ((world G h.actor.seen).nodes h.vote.node).accepted
gen c = c.is.asked.gen ∙ c.own.node.part.accepted

request_of : {G : Setting} {h : Held} {b : Book} {sent : Sent} {request : CommitRequest} → Case G h b sent request
    → IsRequestOf G (log_at G h.actor.seen h.vote.node) (ground_of G h.actor.seen h.vote.node sent) sent request
request_of {G} {h} {b} {sent} {request} c = of_log G h.actor.seen c.own.node.legal h.vote.node sent request (leading c) c.is.asked.mem (gen c) c.is.over.tables c.is.asked.says

stored_asked : {G : Setting} {h : Held} {b : Book} {sent : Sent} {request : CommitRequest} → Case G h b sent request
    → IsAsked (ground_of G h.actor.seen h.vote.node sent) request (stored_entries (log_at G h.actor.seen h.vote.node))
stored_asked {G} {h} {b} {sent} {request} c =
    asked_at G h.actor.seen c.own.node.legal h.vote.node sent request (leading c) c.is.asked.mem (gen c) c.is.asked.says.its_ops c.is.asked.says.its_begin c.is.over.ran

-- it can be decided over the node's log
pub can_be_decided : {G : Setting} {h : Held} {b : Book} {sent : Sent} {request : CommitRequest} → Case G h b sent request → IsAsked (ground_of G h.actor.seen h.vote.node sent) request h.entries
can_be_decided {G} {h} {b} {sent} {request} c = subst (λ l. IsAsked (ground_of G h.actor.seen h.vote.node sent) request l) (sym c.own.node.log_is) (stored_asked c)

-- it is not settled
not_settled : {G : Setting} {h : Held} {b : Book} {sent : Sent} {request : CommitRequest} → Case G h b sent request → Each (λ t. sent.id ≡ t → ⊥) ((field (steps G h.actor.seen)).settled h.vote.node)
not_settled {G} {h} {b} {sent} {request} c = subst (λ ids. Each (λ t. sent.id ≡ t → ⊥) ids) (sym is) (subst (λ id. Each (λ t. id ≡ t → ⊥) (ids_behind [] b.told)) c.is.asked.says.its_id (unsettled [] b.told request.id c.is.untold (record { at = none })))
  where
    none : (t : CommitId) → In t [] → request.id ≡ t → ⊥
    none t m e = nothing m

    is : (field (steps G h.actor.seen)).settled h.vote.node ≡ ids_behind [] b.told
    is = settled_is G h.vote.node h.actor.seen
        ∙ (ap (λ k. ids_behind [] (told_by (events_of (entries_of k h.actor.seen)))) c.own.number_is
        ∙ (ap (λ es. ids_behind [] (told_by (events_of es))) (sym c.made) ∙ ap (λ t. ids_behind [] t) (sym c.is.book.told)))

-- an entry that is decided of it may be appended
pub may_enter : {G : Setting} {h : Held} {b : Book} {sent : Sent} {request : CommitRequest} (next : Entry) → Case G h b sent request
    → Decides (ground_of G h.actor.seen h.vote.node sent) request h.entries h.vote.accepted (decision.Commit next) → MayEnter G h.actor.seen h.vote.node next
may_enter {G} {h} {b} {sent} {request} next c d =
    let f = field (steps G h.actor.seen) in
    let i = h.vote.node in
    let log = log_at G h.actor.seen i in
    let footing = ground_of G h.actor.seen i sent in
    let is = c.own.node in
    let d' = subst (λ l. Decides footing request l h.vote.accepted (decision.Commit next)) is.log_is d in
    let r = names G log footing sent request (request_of c) f i h.vote.accepted next refl is.part.accepted c.is.asked.mem c.is.asked.to (gen c) (not_settled c) c.is.over.fit (stored_asked c).schema d' in
    record { may = (((up c, leading c), r.1), r.2, (is.low, is.high)); pages = (r.3, r.4) }

-- a refusal, or a repeat, may be told
refused : {G : Setting} {h : Held} {b : Book} {sent : Sent} {request : CommitRequest} (d : Decision) (told : Reply) → Case G h b sent request
    → Decides (ground_of G h.actor.seen h.vote.node sent) request h.entries h.vote.accepted d → IsNew request h.entries → refusal_line G.tables d ≡ Some told
    → MayHappen G (steps G h.actor.seen) h.vote.node (ActorEvent.Settle request.id (unwrap_or (refusal_line G.tables d) reply.NoMemory))
refused {G} {h} {b} {sent} {request} d told c is_right new line =
    let f = field (steps G h.actor.seen) in
    let i = h.vote.node in
    let log = log_at G h.actor.seen i in
    let footing = ground_of G h.actor.seen i sent in
    let is = c.own.node in
    let d' = subst (λ l. Decides footing request l h.vote.accepted d) is.log_is is_right in
    let n = subst (λ l. IsNew request l) is.log_is new in
    let r = refuses G log footing sent request (request_of c) f i h.vote.accepted d told c.is.asked.mem c.is.asked.to (gen c) d' line in
    subst (λ why. MayHappen G (steps G h.actor.seen) i (ActorEvent.Settle request.id why)) (sym (ap (λ o. unwrap_or o reply.NoMemory) line))
    ((up c, leading c, lacks_of log request request.id refl n), subst (λ id. Refuses G f i log id told) (sym c.is.asked.says.its_id) r)

-- the line of a duplicate, whose key has a name
key_named : (p : ℕ) (t : TableDef) (o : Option KeyDef) (n : KeyName) → key_name t o ≡ Some n
    → duplicate_line p (Some t.name) (option_map (λ k. k.name) o) ≡ Some (reply.Duplicate p n.table n.key)
key_named p t None n q = absurd (cc)
key_named p t (Some k) n q =
    let e : record { table = t.name; key = k.name } ≡ n = same_Some (record { table = t.name; key = k.name }) n q in
    ap (λ (z : KeyName). Some (reply.Duplicate p z.table z.key)) e

table_named : (p key : ℕ) (o : Option TableDef) (n : KeyName) → name_in key o ≡ Some n
    → duplicate_line p (name_or_none o) (option_map (λ k. k.name) (slice_get (keys_in o) key)) ≡ Some (reply.Duplicate p n.table n.key)
table_named p key None n q = absurd (cc)
table_named p key (Some t) n q = key_named p t (slice_get t.keys key) n q

pub may_settle : {G : Setting} {h : Held} {b : Book} {sent : Sent} {request : CommitRequest} (d : Decision) → Case G h b sent request
    → Decides (ground_of G h.actor.seen h.vote.node sent) request h.entries h.vote.accepted d → IsTelling d → MaySettle G h.actor.seen h.vote.node request.id d
may_settle {G} {h} {b} {sent} {request} (decision.Repeat position) c d telling =
    let f = field (steps G h.actor.seen) in
    let i = h.vote.node in
    let log = log_at G h.actor.seen i in
    let footing = ground_of G h.actor.seen i sent in
    let d' = subst (λ l. Decides footing request l h.vote.accepted (decision.Repeat position)) c.own.node.log_is d in
    let r = repeats G log footing sent request (request_of c) f i h.vote.accepted position refl (up c) (leading c) c.is.asked.mem c.is.asked.to (gen c) d' in
    record { may = subst (λ id. May G.nodes f i (ToRepeat id position)) (sym c.is.asked.says.its_id) r }
may_settle {G} {h} {b} {sent} {request} (decision.Conflict position item) c d telling =
    let first = subst (λ l. conflict_of request l ≡ Some (record { position = position; item = item })) c.own.node.log_is d.first in
    let line = c.is.over.lined position item first in
    record { may = refused (decision.Conflict position item) line.0 c d d.fresh line.1 }
may_settle {G} {h} {b} {sent} {request} (decision.Duplicate position table key) c d telling =
    let i = h.vote.node in
    let log = log_at G h.actor.seen i in
    let footing = ground_of G h.actor.seen i sent in
    let d' = subst (λ l. Decides footing request l h.vote.accepted (decision.Duplicate position table key)) c.own.node.log_is d in
    let n = duplicates G log footing sent request (request_of c) h.vote.accepted position table key d' in
    record { may = refused (decision.Duplicate position table key) (reply.Duplicate position n.0.table n.0.key) c d d.fresh (table_named position key (slice_get G.tables table) n.0 n.1) }
may_settle {G} {h} {b} {sent} {request} (decision.Commit next) c d telling = absurd telling
