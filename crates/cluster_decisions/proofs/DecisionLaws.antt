-- What block_processor decides is what the guards of appends and settlements ask.
use Rattle.std.proofs.Common.{◌≡◌, ◌≢◌, ℕ, zero, suc, ◌+◌, ◌-◌, ◌<◌, ◌≤◌, List, [], ◌∷◌, ◌++◌, length, take, drop, map, arith, refl, ap, sym, subst, ◌∙◌, length-append, unwrap_or}
use Rattle.std.specs.Prelude.{true, Option, Some, None, slice_get, option_map, is_some}
use Rattle.std.proofs.lemmas.List.{length-map}
use Rattle.core_lists.specs.Lists.{In, Each}
use Rattle.core_lists.specs.Fronts.{Front}
use Rattle.core_lists.proofs.Fronts.{front_take, length_take, take_length}
use Rattle.blkseq_table.specs.OfLogs.{id_of}
use Rattle.cdb_values.specs.Changes.{changes_of}
use Rattle.cdb_values.specs.Good.{AllFit, first_broken, KeyName}
use Rattle.cdb_values.specs.Rows.{Rows, no_rows, apply_all}
use Rattle.cdb_values.specs.declared.items.Item.{Item}
use Rattle.cdb_values.specs.declared.rows.Change.{Change}
use Rattle.cdb_values.specs.declared.rows.Level.{Level}
use Rattle.cdb_values.specs.declared.rows.RowOp.{RowOp}
use Rattle.cdb_values.specs.declared.tables.TableDef.{TableDef}
use Rattle.phys_log.specs.declared.entries.CommitId.{CommitId}
use Rattle.phys_log.specs.declared.entries.Entry.{Entry as PlainEntry}
use Rattle.phys_log.specs.declared.entries.Entry.TheVariants as plain_entry
use Rattle.phys_log.specs.declared.entries.LogRecord.{LogRecord}
use Rattle.phys_log.specs.declared.requests.CommitRequest.{CommitRequest}
use Rattle.phys_log.specs.declared.requests.Decision.TheVariants as decision
use Rattle.log_rows.specs.History.{Ground, rows_over, rows_from, rows_after, tables_of}
use Rattle.table_edits.specs.Broken.{KeyPlace, broken_place, named}
use Rattle.table_edits.proofs.BrokenLemmas.{first_is_named, first_is_told}
use Rattle.range_validate.specs.Used.{item_of}
use Rattle.block_processor.specs.Changed.{IsFirstUse, found_of, changed_in}
use Rattle.block_processor.specs.Conflicts.{conflict_of, ranges_of}
use Rattle.block_processor.specs.Decided.{Decides, IsNew}
use Rattle.block_processor.proofs.ChangedLaws.{none_used, one_used}
use Rattle.block_processor.proofs.ChangedLemmas.{conflict_changed}
use Rattle.session_language.specs.Touched.{Used, TheVersion, TheRange, first_used, FirstUse, first_use, or_use}
use Rattle.report_laws.specs.View.{touched_in, IsUntouched}
use Rattle.report_laws.specs.Outcome.{IsConflict, conflict_line}
use Rattle.cdb_values.specs.declared.replies.Reply.{Reply}
use Rattle.cdb_values.specs.declared.replies.Reply.TheVariants as reply
use Rattle.cluster_requests.specs.Identities.{identity_of, Lacks}
use Rattle.cluster_requests.specs.KeptEntries.{KeptEntry, plain, state_of, state_from, rows_behind}
use Rattle.cluster_requests.specs.KeptEntries.KeptEntry.{SetupKept, CommitKept}
use Rattle.cluster_requests.specs.Requests.{Sent, Field, MayAppend}
use Rattle.cluster_events.specs.Settings.{Setting, basis, changes_in, log_view}
use Rattle.cluster_events.specs.Guards.{IsRightlyAppended, IsRightRefusal}
use Rattle.cluster_answers.proofs.AgreeLaws.{get_of, get_last}
use Rattle.cluster_core.proofs.BaseLaws.{over_ground, state_last}
use Rattle.cluster_decisions.specs.Requested.{stored_entries, IsRequestOf, AreMadeBehind, ground_at}

-- ---- look-ups

pub get_map : {A B : Type 0} (f : A → B) (xs : List A) (i : ℕ) → slice_get (map f xs) i ≡ option_map f (slice_get xs i)
get_map f [] i = refl
get_map f (x ∷ xs) zero = refl
get_map f (x ∷ xs) (suc i) = get_map f xs i

changes_there : (l : List KeptEntry) (k : ℕ) → unwrap_or (slice_get (changed_in (stored_entries l)) k) [] ≡ changes_in (slice_get l k)
changes_there [] k = refl
changes_there (SetupKept generation schema records reached ∷ l) zero = refl
changes_there (CommitKept generation id begin level changes records reached ∷ l) zero = refl
changes_there (e ∷ l) (suc k) = changes_there l k

counted : (l : List KeptEntry) → length (changed_in (stored_entries l)) ≡ length l
counted [] = refl
counted (e ∷ l) = ap (λ n. suc n) (counted l)

pub same_id : (e : KeptEntry) → id_of (plain e) ≡ identity_of e
same_id (SetupKept generation schema records reached) = refl
same_id (CommitKept generation id begin level changes records reached) = refl

take_all : {A : Type 0} (xs : List A) → take (length xs) xs ≡ xs
take_all [] = refl
take_all (x ∷ xs) = ap (λ z. x ∷ z) (take_all xs)

-- ---- new identities

pub lacks_of : (log : List KeptEntry) (request : CommitRequest) (id : CommitId) → request.id ≡ id → IsNew request (stored_entries log) → Lacks id log
lacks_of log request id same new xs e p q = new.nowhere (length xs + 1) (omega arith, (plain e, got, same_id e ∙ (q ∙ ap (λ z. Some z) (sym same))))
  where
    here : length xs < length (xs ++ e ∷ [])
    here = let n = length-append xs (e ∷ []) in let n' : length (xs ++ e ∷ []) ≡ length xs + 1 = n in omega arith

    got : slice_get (stored_entries log) (length xs + 1 - 1) ≡ Some (plain e)
    got = let k : length xs + 1 - 1 ≡ length xs = omega arith in ap (λ z. slice_get (stored_entries log) z) k ∙ (get_map plain log (length xs) ∙ ap (λ z. option_map plain z) (sym (get_of p (length xs) here) ∙ get_last xs e))

-- ---- nothing touched

no_use : (o : Option FirstUse) → option_map found_of o ≡ None → o ≡ None
no_use None is = refl
no_use (Some f) is = absurd cc

the_use : {A B : Type 0} (g : A → B) (o : Option A) (x : B) → option_map g o ≡ Some x → (f : A) × (o ≡ Some f) × (g f ≡ x)
the_use g None x is = absurd cc
the_use g (Some f) x is = (f, refl, cc)

use_at : (t t' : List TableDef) (b b' : ℕ) (u : List Used) (c : List (List Change)) → t ≡ t' → b ≡ b' → first_use t b (drop b c) u ≡ first_use t' b' (drop b' c) u
use_at t t' b b' u c p q = ap (λ z. first_use z b (drop b c) u) p ∙ ap (λ z. first_use t' z (drop z c) u) q

use_alike : (t : List TableDef) (u u' : List Used) → ((c : List Change) → first_used t c u ≡ first_used t c u') → (b : ℕ) (cs : List (List Change)) → first_use t b cs u ≡ first_use t b cs u'
use_alike t u u' f b [] = refl
use_alike t u u' f b (c ∷ cs) = ap (λ z. or_use (b + 1) z (first_use t (b + 1) cs u)) (f c) ∙ ap (λ z. or_use (b + 1) (first_used t c u') z) (use_alike t u u' f (b + 1) cs)

module _ (G : Setting) (log : List KeptEntry) (footing : Ground) (sent : Sent) (request : CommitRequest) (k : IsRequestOf G log footing sent request) where
  -- the conflict of the request is the first use of what was sent
  as_use : conflict_of request (stored_entries log) ≡ option_map found_of (first_use G.tables sent.begin (drop sent.begin (changed_in (stored_entries log))) sent.used)
  as_use =
      conflict_changed (tables_of (stored_entries log)) request.begin (stored_entries log) request.genids (ranges_of request)
      ∙ ap (λ z. option_map found_of z) (use_at (tables_of (stored_entries log)) G.tables request.begin sent.begin (map TheVersion request.genids ++ map TheRange (ranges_of request)) (changed_in (stored_entries log)) k.tables k.its_begin
      ∙ use_alike G.tables (map TheVersion request.genids ++ map TheRange (ranges_of request)) sent.used k.its_used sent.begin (drop sent.begin (changed_in (stored_entries log))))

  touched_there : (j : ℕ) → touched_in (log_view G log) j sent.used ≡ first_used G.tables (unwrap_or (slice_get (changed_in (stored_entries log)) (j - 1)) []) sent.used
  touched_there j = ap (λ (cs : List Change). first_used G.tables cs sent.used) (sym (changes_there log (j - 1)))

  pub untouched : conflict_of request (stored_entries log) ≡ None → IsUntouched (log_view G log) sent.begin (length log + 1) sent.used
  untouched free j after before = touched_there j ∙ none_used G.tables sent.used sent.begin (changed_in (stored_entries log)) (no_use _ (sym as_use ∙ free)) j after (let n = counted log in omega (arith, before, n))

  -- ---- keys

  broken_at : (r r' : Rows) (o o' : List RowOp) (t t' : List TableDef) → r ≡ r' → o ≡ o' → t ≡ t' → broken_place (apply_all r o) 0 t ≡ broken_place (apply_all r' o') 0 t'
  broken_at r r' o o' t t' p q s = ap (λ z. broken_place (apply_all z o) 0 t) p ∙ (ap (λ z. broken_place (apply_all r' z) 0 t) q ∙ ap (λ z. broken_place (apply_all r' o') 0 z) s)

  broken_now : (x : Option KeyPlace) → broken_place (apply_all (rows_over footing (stored_entries log)) request.ops) 0 (tables_of (stored_entries log)) ≡ x → first_broken G.tables (apply_all (state_of log) sent.ops).tables ≡ named G.tables x
  broken_now x is = first_is_named G.tables (apply_all (state_of log) sent.ops) ∙ ap (λ z. named G.tables z) (sym (broken_at (rows_over footing (stored_entries log)) (state_of log) request.ops sent.ops (tables_of (stored_entries log)) G.tables k.rows k.its_ops k.tables) ∙ is)

  -- ---- a commit

  same_entry : (g : ℕ) (i i' : CommitId) (b b' : ℕ) (l l' : Level) (o o' : List RowOp) (r r' : Rows) (records : List LogRecord) → i ≡ i' → b ≡ b' → l ≡ l' → o ≡ o' → r ≡ r' →
      plain_entry.Commit g i b l (changes_of o r.next) records ≡ plain_entry.Commit g i' b' l' (changes_of o' r'.next) records
  same_entry g i i' b b' l l' o o' r r' records p q s t u =
      ap (λ z. plain_entry.Commit g z b l (changes_of o r.next) records) p
      ∙ (ap (λ z. plain_entry.Commit g i' z l (changes_of o r.next) records) q
      ∙ (ap (λ z. plain_entry.Commit g i' b' z (changes_of o r.next) records) s
      ∙ (ap (λ z. plain_entry.Commit g i' b' l' (changes_of z r.next) records) t
      ∙ ap (λ (z : Rows). plain_entry.Commit g i' b' l' (changes_of o' z.next) records) u)))

  pub appends_kept : (f : Field) (i generation : ℕ) (next : PlainEntry) → (f.core.nodes i).log ≡ log → generation ≡ (f.core.nodes i).accepted → In sent f.sends → sent.to ≡ i → sent.gen ≡ (f.core.nodes i).accepted
      → Each (λ t. sent.id ≢ t) (f.settled i) → AllFit G.tables (apply_all (state_of log) sent.ops).tables → Decides footing request (stored_entries log) generation (decision.Commit next)
      → (e : KeptEntry) × (plain e ≡ next) × (rows_behind e ≡ apply_all (state_of log) sent.ops) × MayAppend f i e × IsRightlyAppended G f i log e
  appends_kept f i generation next own made mem to gen unsettled fit d = (
    e,
    is,
    refl,
    record {
      made = made;
      asked = record { it = sent; mem = mem; is = (refl, to, gen) };
      unsettled = record { at = λ t m q. unsettled.at t m (cc) };
      new = λ id q. subst (λ z. Lacks id z) (sym own) (lacks_of log request id (k.its_id ∙ (cc)) d.fresh);
    },
    record {
      sent = sent;
      mem = mem;
      its_id = refl;
      gen = gen;
      its_begin = refl;
      its_level = refl;
      changes = refl;
      rows = state_last (no_rows []) log e;
      untouched = untouched d.free;
      good = record { rows_fit = fit; keys_kept = broken_now None d.kept };
    },
  )
    where
      e : KeptEntry
      e = CommitKept generation sent.id sent.begin sent.level (changes_of sent.ops (state_of log).next) d.records (apply_all (state_of log) sent.ops)

      is : plain e ≡ next
      is = sym (d.made ∙ same_entry generation request.id sent.id request.begin sent.begin request.level sent.level request.ops sent.ops (rows_over footing (stored_entries log)) (state_of log) d.records k.its_id k.its_begin k.its_level k.its_ops k.rows)

  pub appends : (f : Field) (i generation : ℕ) (next : PlainEntry) → (f.core.nodes i).log ≡ log → generation ≡ (f.core.nodes i).accepted → In sent f.sends → sent.to ≡ i → sent.gen ≡ (f.core.nodes i).accepted
      → Each (λ t. sent.id ≢ t) (f.settled i) → AllFit G.tables (apply_all (state_of log) sent.ops).tables → Decides footing request (stored_entries log) generation (decision.Commit next)
      → (e : KeptEntry) × (plain e ≡ next) × MayAppend f i e × IsRightlyAppended G f i log e
  appends f i generation next own made mem to gen unsettled fit d =
      let r = appends_kept f i generation next own made mem to gen unsettled fit d in
      (r.0, r.1, r.3, r.4)

  -- ---- refusals

  told_key : (o : Option KeyName) → is_some o ≡ true → (n : KeyName) × (o ≡ Some n)
  told_key None is = absurd cc
  told_key (Some n) is = (n, refl)

  pub duplicates : (generation position table key : ℕ) → Decides footing request (stored_entries log) generation (decision.Duplicate position table key)
      → (n : KeyName) × (named G.tables (Some (record { table = table; key = key })) ≡ Some n) × IsRightRefusal G log sent (reply.Duplicate position n.table n.key)
  duplicates generation position table key d = (
    n.0,
    sym (broken_now (Some (record { table = table; key = key })) d.broken) ∙ n.1,
    record {
      has_ops = k.some;
      begun = let w = k.within in omega (arith, w, at);
      within = omega (arith, at);
      untouched = λ j after before. untouched d.free j after (omega (arith, before, at));
      breaks = ap (λ z. first_broken G.tables (apply_all (state_of (take z log)) sent.ops).tables) at ∙ (ap (λ z. first_broken G.tables (apply_all (state_of z) sent.ops).tables) (take_all log) ∙ n.1);
    },
  )
    where
      at : position ≡ length log
      at = d.now ∙ length-map log plain

      n : (n : KeyName) × (first_broken G.tables (apply_all (state_of log) sent.ops).tables ≡ Some n)
      n = told_key (first_broken G.tables (apply_all (state_of log) sent.ops).tables) (first_is_told G.tables (apply_all (state_of log) sent.ops) ∙ ap (λ z. is_some z) (sym (broken_at (rows_over footing (stored_entries log)) (state_of log) request.ops sent.ops (tables_of (stored_entries log)) G.tables k.rows k.its_ops k.tables) ∙ d.broken))

  pub conflicts : (generation position : ℕ) (item : Item) → Decides footing request (stored_entries log) generation (decision.Conflict position item)
      → (u : Used) × (item_of u ≡ item) × ((told : Reply) → conflict_line G.tables position u ≡ Some told → IsConflict (basis G) (log_view G log) sent.begin position sent.used sent.ops told)
  conflicts generation position item d = (
    f.0.item,
    ap (λ z. z.item) f.2,
    λ told named. record {
      has_ops = k.some;
      later = let a = since.after in omega (arith, a, at);
      within = let w = since.within in let n = counted log in omega (arith, w, n, at);
      item = f.0.item;
      touched = touched_there position ∙ (ap (λ z. first_used G.tables (unwrap_or (slice_get (changed_in (stored_entries log)) (z - 1)) []) sent.used) (sym at) ∙ since.touched);
      untouched = λ j after before. touched_there j ∙ since.before j after (omega (arith, before, at));
      is_told = named;
    },
  )
    where
      f : (f : FirstUse) × (first_use G.tables sent.begin (drop sent.begin (changed_in (stored_entries log))) sent.used ≡ Some f) × (found_of f ≡ record { position = position; item = item })
      f = the_use found_of _ _ (sym as_use ∙ d.first)

      at : f.0.position ≡ position
      at = ap (λ z. z.position) f.2

      since : IsFirstUse G.tables sent.begin (changed_in (stored_entries log)) sent.used f.0
      since = one_used G.tables sent.used sent.begin (changed_in (stored_entries log)) f.0 f.1

-- ---- the rows over the ground at a request's begin

pub over_begin : (log : List KeptEntry) (begin : ℕ) → begin ≤ length log → AreMadeBehind begin log → rows_over (ground_at (state_of (take begin log)) begin) (stored_entries log) ≡ state_of log
over_begin log begin within all =
    let less = length_take begin log in
    let more = take_length begin log within in
    let size : length (take begin log) ≡ begin = omega arith in
    subst (λ (n : ℕ). rows_over (ground_at (state_of (take begin log)) n) (stored_entries log) ≡ state_of log) size
    (over_ground (take begin log) log (front_take begin log) (λ xs e p far. (let far' : length (take begin log) ≤ length xs = far in all xs e p (omega arith))))

-- a decided entry is made of the state_of before it
dropped : {A : Type 0} (n : ℕ) (xs : List A) (x : A) → n ≤ length xs → drop n (xs ++ x ∷ []) ≡ drop n xs ++ x ∷ []
dropped zero xs x h = refl
dropped (suc n) [] x h = absurd (omega (arith, h))
dropped (suc n) (y ∷ xs) x h = dropped n xs x (omega (arith, h))

from_last : (r : Rows) (l : List PlainEntry) (e : PlainEntry) → rows_from r (l ++ e ∷ []) ≡ rows_after (rows_from r l) e
from_last r [] e = refl
from_last r (x ∷ l) e = from_last (rows_after r x) l e

pub decided_made : (G : Setting) (log : List KeptEntry) (footing : Ground) (sent : Sent) (request : CommitRequest) (generation : ℕ) (next : PlainEntry) → IsRequestOf G log footing sent request
    → Decides footing request (stored_entries log) generation (decision.Commit next) → apply_all (state_of log) sent.ops ≡ rows_after (state_of log) next
decided_made G log footing sent request generation next k d =
    sym (ap (λ r. rows_after r next) (sym k.rows)
    ∙ (sym (from_last footing.rows (drop footing.position (stored_entries log)) next)
    ∙ (ap (λ z. rows_from footing.rows z) (sym (dropped footing.position (stored_entries log) next (let n = length-map log plain in let b = k.behind in omega (arith, n, b))))
    ∙ (d.rows ∙ (ap (λ r. apply_all r request.ops) k.rows ∙ ap (λ o. apply_all (state_of log) o) k.its_ops)))))
