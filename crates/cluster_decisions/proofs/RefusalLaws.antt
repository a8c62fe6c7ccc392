-- A refusal that is decided is told as the named event tells it, and so is an entry that is there already.
use Rattle.std.proofs.Common.{◌≡◌, ℕ, zero, suc, ◌-◌, ◌≤◌, List, [], ◌∷◌, ◌++◌, length, take, map, arith, refl, ap, sym, subst, ◌∙◌}
use Rattle.std.specs.Prelude.{true, Option, Some, None, slice_get, option_map}
use Rattle.std.proofs.lemmas.Option.{same_Some}
use Rattle.block_processor.specs.Decided.{Decides as IsDecided}
use Rattle.blkseq_table.specs.OfLogs.{id_of, HasId}
use Rattle.cdb_values.specs.Good.{KeyName}
use Rattle.cdb_values.specs.declared.items.Item.{Item}
use Rattle.cdb_values.specs.declared.replies.Reply.{Reply}
use Rattle.cdb_values.specs.declared.replies.Reply.TheVariants as reply
use Rattle.cdb_values.specs.declared.tables.KeyDef.{KeyDef}
use Rattle.cdb_values.specs.declared.tables.TableDef.{TableDef}
use Rattle.cluster_decisions.specs.Requested.{stored_entries, IsRequestOf}
use Rattle.cluster_decisions.proofs.DecisionLaws.{conflicts, duplicates, get_map, same_id}
use Rattle.cluster_events.specs.Guards.{IsRightRefusal, Refuses}
use Rattle.cluster_events.specs.Settings.{Setting, basis, log_view}
use Rattle.cluster_requests.specs.Identities.{identity_of, HasAt}
use Rattle.cluster_requests.specs.KeptEntries.{KeptEntry, plain}
use Rattle.cluster_requests.specs.Requests.{Sent, Field, May}
use Rattle.cluster_requests.specs.Requests.FieldAct.{ToRepeat}
use Rattle.cluster_steps.specs.Named.{duplicate_line, refusal_line}
use Rattle.core_lists.specs.Fronts.{Front}
use Rattle.core_lists.specs.Fronts.Front.{front_nil, front_cons}
use Rattle.core_lists.specs.Lists.{In}
use Rattle.log_rows.specs.History.{Ground}
use Rattle.phys_log.specs.declared.entries.CommitId.{CommitId}
use Rattle.phys_log.specs.declared.entries.Entry.{Entry as PlainEntry}
use Rattle.phys_log.specs.declared.requests.CommitRequest.{CommitRequest}
use Rattle.phys_log.specs.declared.requests.Decision.{Decision}
use Rattle.phys_log.specs.declared.requests.Decision.TheVariants as decision
use Rattle.range_validate.specs.Used.{item_of}
use Rattle.report_laws.specs.Outcome.{IsConflict, name_or_none, name_of_table, name_of_key, line_by, range_line, conflict_line}
use Rattle.session_language.specs.Intervals.{keys_in, keys_at}
use Rattle.session_language.specs.Touched.{Used, TheVersion, TheRange}
use Rattle.table_edits.specs.Broken.{key_name, name_in, named}

-- ---- conflicts

item_line : (tables : List TableDef) (position : ℕ) (u : Used) → refusal_line tables (decision.Conflict position (item_of u)) ≡ conflict_line tables position u
item_line tables position (TheVersion genid) = refl
item_line tables position (TheRange interval) = refl

by_genid : (G : Setting) (log : List KeptEntry) (x : Sent) (p genid : ℕ) (table : Option (List ℕ)) (told : Reply) → line_by p genid table ≡ Some told
    → IsConflict (basis G) (log_view G log) x.begin p x.used x.ops told → IsRightRefusal G log x told
by_genid G log x p genid None told q is = absurd (cc)
by_genid G log x p genid (Some table) told q is =
    let e : reply.ConflictGenid p table genid ≡ told = same_Some (reply.ConflictGenid p table genid) told q in
    subst (λ z. IsRightRefusal G log x z) e (subst (λ z. IsConflict (basis G) (log_view G log) x.begin p x.used x.ops z) (sym e) is)

by_range : (G : Setting) (log : List KeptEntry) (x : Sent) (p : ℕ) (table key : Option (List ℕ)) (told : Reply) → range_line p table key ≡ Some told
    → IsConflict (basis G) (log_view G log) x.begin p x.used x.ops told → IsRightRefusal G log x told
by_range G log x p None key told q is = absurd (cc)
by_range G log x p (Some table) None told q is = absurd (cc)
by_range G log x p (Some table) (Some key) told q is =
    let e : reply.ConflictRange p table key ≡ told = same_Some (reply.ConflictRange p table key) told q in
    subst (λ z. IsRightRefusal G log x z) e (subst (λ z. IsConflict (basis G) (log_view G log) x.begin p x.used x.ops z) (sym e) is)

conflict_right : (G : Setting) (log : List KeptEntry) (x : Sent) (p : ℕ) (u : Used) (told : Reply) → conflict_line G.tables p u ≡ Some told
    → IsConflict (basis G) (log_view G log) x.begin p x.used x.ops told → IsRightRefusal G log x told
conflict_right G log x p (TheVersion item) told q is = by_genid G log x p item.genid (name_of_table G.tables item.table) told q is
conflict_right G log x p (TheRange interval) told q is = by_range G log x p (name_of_table G.tables interval.table) (name_of_key (keys_at G.tables interval.table) interval.key) told q is

-- ---- duplicates

at_key : (p : ℕ) (t : TableDef) (o : Option KeyDef) (n : KeyName) → key_name t o ≡ Some n → duplicate_line p (Some t.name) (option_map (λ k. k.name) o) ≡ Some (reply.Duplicate p n.table n.key)
at_key p t None n q = absurd (cc)
at_key p t (Some k) n q =
    let e : record { table = t.name; key = k.name } ≡ n = same_Some (record { table = t.name; key = k.name }) n q in
    ap (λ (z : KeyName). Some (reply.Duplicate p z.table z.key)) e

at_table : (p key : ℕ) (o : Option TableDef) (n : KeyName) → name_in key o ≡ Some n → duplicate_line p (name_or_none o) (option_map (λ k. k.name) (slice_get (keys_in o) key)) ≡ Some (reply.Duplicate p n.table n.key)
at_table p key None n q = absurd (cc)
at_table p key (Some t) n q = at_key p t (slice_get t.keys key) n q

key_line : (tables : List TableDef) (p table key : ℕ) (n : KeyName) → named tables (Some (record { table = table; key = key })) ≡ Some n → refusal_line tables (decision.Duplicate p table key) ≡ Some (reply.Duplicate p n.table n.key)
key_line tables p table key n q = at_table p key (slice_get tables table) n q

-- ---- what is decided

refused : (G : Setting) (log : List KeptEntry) (footing : Ground) (sent : Sent) (request : CommitRequest) → IsRequestOf G log footing sent request → (generation : ℕ) (d : Decision) (told : Reply)
    → IsDecided footing request (stored_entries log) generation d → refusal_line G.tables d ≡ Some told → IsRightRefusal G log sent told
refused G log footing sent request k generation (decision.Repeat position) told d q = absurd (cc)
refused G log footing sent request k generation (decision.Conflict position item) told d q =
    let c = conflicts G log footing sent request k generation position item d in
    let l : conflict_line G.tables position c.0 ≡ Some told = sym (item_line G.tables position c.0) ∙ (ap (λ z. refusal_line G.tables (decision.Conflict position z)) c.1 ∙ q) in
    conflict_right G log sent position c.0 told l (c.2 told l)
refused G log footing sent request k generation (decision.Duplicate position table key) told d q =
    let r = duplicates G log footing sent request k generation position table key d in
    let e : reply.Duplicate position r.0.table r.0.key ≡ told = same_Some (reply.Duplicate position r.0.table r.0.key) told (sym (key_line G.tables position table key r.0 r.1) ∙ q) in
    subst (λ z. IsRightRefusal G log sent z) e r.2
refused G log footing sent request k generation (decision.Commit next) told d q = absurd (cc)

pub refuses : (G : Setting) (log : List KeptEntry) (footing : Ground) (sent : Sent) (request : CommitRequest) → IsRequestOf G log footing sent request → (f : Field) (i generation : ℕ) (d : Decision) (told : Reply)
    → In sent f.sends → sent.to ≡ i → sent.gen ≡ (f.core.nodes i).accepted → IsDecided footing request (stored_entries log) generation d → refusal_line G.tables d ≡ Some told → Refuses G f i log sent.id told
refuses G log footing sent request k f i generation d told mem to gen is q = record { sent = sent; mem = mem; its_id = refl; its_node = to; gen = gen; is_right = refused G log footing sent request k generation d told is q }

-- ---- an entry that is there

at_place : (log : List KeptEntry) (k : ℕ) (e : KeptEntry) → slice_get log k ≡ Some e → Front (take k log ++ e ∷ []) log × (length (take k log) ≡ k)
at_place [] k e q = absurd (cc)
at_place (x ∷ log) zero e q = let s : x ≡ e = same_Some x e q in (subst (λ z. Front (z ∷ []) (x ∷ log)) s (front_cons front_nil), refl)
at_place (x ∷ log) (suc k) e q = let r = at_place log k e q in (front_cons r.0, ap (λ n. suc n) r.1)

kept_at : (o : Option KeptEntry) (p : PlainEntry) → option_map plain o ≡ Some p → (e : KeptEntry) × (o ≡ Some e) × (plain e ≡ p)
kept_at None p q = absurd (cc)
kept_at (Some e) p q = (e, refl, same_Some (plain e) p q)

pub is_there : (log : List KeptEntry) (position : ℕ) (id : CommitId) → HasId (stored_entries log) position id → HasAt id position log
is_there log position id has =
    let k = kept_at (slice_get log (position - 1)) has.1.0 (sym (get_map plain log (position - 1)) ∙ has.1.1) in
    let at = at_place log (position - 1) k.0 k.1 in
    let n : length (take (position - 1) log) ≡ position - 1 = at.1 in
    let one : 1 ≤ position = has.0 in
    record {
      before = take (position - 1) log;
      entry = k.0;
      front = at.0;
      place = omega arith;
      is = sym (same_id k.0) ∙ (ap (λ z. id_of z) k.2 ∙ has.1.2);
    }

pub repeats : (G : Setting) (log : List KeptEntry) (footing : Ground) (sent : Sent) (request : CommitRequest) → IsRequestOf G log footing sent request → (f : Field) (i generation position : ℕ)
    → (f.core.nodes i).log ≡ log → (f.core.nodes i).up ≡ true → (f.core.nodes i).leading ≡ true → In sent f.sends → sent.to ≡ i → sent.gen ≡ (f.core.nodes i).accepted
    → IsDecided footing request (stored_entries log) generation (decision.Repeat position) → May G.nodes f i (ToRepeat sent.id position)
repeats G log footing sent request k f i generation position own up lead mem to gen d = (
  up,
  lead,
  subst (λ z. HasAt sent.id position z) (sym own) (is_there log position sent.id (subst (λ z. HasId (stored_entries log) position z) k.its_id d)),
  record { it = sent; mem = mem; is = (refl, to, gen) },
)
