-- What a session asks at its commit can be decided on, and what is decided of it is what the definitions decide: versions
-- without repeats are touched as those with repeats are.
use Rattle.std.proofs.Common.{◌≡◌, ◌≢◌, ℕ, ◌==◌, ◌++◌, ◌∷◌, [], List, Bool, true, false, ◌&&◌, ◌||◌, if◌then◌else◌, refl, sym, ◌∙◌, ap, map, subst, arith, Option, Some, inl, inr, unwrap_or}
use Rattle.std.proofs.lemmas.Str.{IsUtf8-from_is_utf8}
use Rattle.std.specs.List.{AllByRecursion}
use Rattle.block_processor.specs.Asked.{IsAsked, Writes}
use Rattle.block_processor.proofs.ChangedLemmas.{same_uses}
use Rattle.cdb_values.specs.Changes.{taken_by}
use Rattle.cdb_values.specs.declared.items.GenidItem.{GenidItem}
use Rattle.cdb_values.specs.declared.items.Interval.{Interval}
use Rattle.cdb_values.specs.declared.rows.Change.{Change}
use Rattle.cdb_values.specs.declared.rows.RowOp.{RowOp}
use Rattle.cdb_values.specs.declared.rows.RowOp.TheVariants.{Insert, Update, Delete}
use Rattle.cdb_values.specs.declared.tables.TableDef.{TableDef}
use Rattle.cdb_values.specs.declared.values.Value.{Value}
use Rattle.cdb_values.specs.declared.values.Value.TheVariants.{Null, Int, Text, Blob}
use Rattle.key_code.specs.Codes.{IsText}
use Rattle.live_operations.proofs.CodedLaws.{sound_fit}
use Rattle.log_replay.specs.Answers.{schema_of}
use Rattle.log_rows.proofs.HistoryLemmas.{stand_whole}
use Rattle.log_rows.specs.History.{rows_over, tables_of}
use Rattle.osql_session.proofs.RepeatLemmas.{same_is}
use Rattle.osql_session.proofs.TouchedLemmas.{used_once}
use Rattle.osql_session.specs.Items.{with_item, with_items, without_repeats, is_among}
use Rattle.osql_session.specs.Requests.{request_if, request_of, request_with}
use Rattle.osql_session.specs.Sessions.{Session}
use Rattle.phys_log.specs.Logs.{pages_of}
use Rattle.phys_log.specs.declared.entries.Entry.{Entry}
use Rattle.phys_log.specs.declared.requests.CommitRequest.{CommitRequest}
use Rattle.session_language.specs.Spelled.{IsToldRow, IsToldValue, WritesRow}
use Rattle.session_language.specs.Touched.{TheVersion, TheRange, is_same_item, first_use}
use Rattle.script_play.proofs.SoundLaws.{kept_sound, kept_told}
use Rattle.script_play.specs.Ready.{IsAble, IsReady}
use Rattle.script_play.specs.Start.{Start, ground_of}
use Rattle.table_edits.specs.Fits.{WritesFitting}
use Rattle.table_store.specs.Listings.{IsAmong}
use Rattle.table_store.specs.Stored.{Stands}

-- ---- versions without repeats

-- the first conflict is that over the versions with repeats
pub conflict_once : (tables : List TableDef) (position : ℕ) (later : List (List Change)) (genids : List GenidItem) (ranges : List Interval)
    → first_use tables position later (map TheVersion (without_repeats genids) ++ map TheRange ranges) ≡ first_use tables position later (map TheVersion genids ++ map TheRange ranges)
conflict_once tables position later genids ranges =
    same_uses tables position later (map TheVersion (without_repeats genids) ++ map TheRange ranges) (map TheVersion genids ++ map TheRange ranges) (λ changes. used_once tables changes genids ranges)

among_is : (items : List GenidItem) (item : GenidItem) → is_among items item ≡ true → IsAmong item items
among_is [] item is = absurd cc
among_is (first ∷ items) item is = pick (is_same_item item first) refl (among_is items item) is
  where
    pick : (b : Bool) → is_same_item item first ≡ b → (is_among items item ≡ true → IsAmong item items) → (b || is_among items item) ≡ true → IsAmong item (first ∷ items)
    pick true same later found = inl (same_is item first same)
    pick false other later found = inr (later found)

-- each of some versions is among these without repeats, and those behind them
among_known : (known : List GenidItem) (item first : GenidItem) → is_among known item ≡ true → is_among (with_item known first) item ≡ true
among_known known item first is = pick (is_among known first)
  where
    at_end : (items : List GenidItem) → is_among items item ≡ true → is_among (items ++ first ∷ []) item ≡ true
    at_end [] found = absurd cc
    at_end (i ∷ items) found = step (is_same_item item i) (at_end items) found
      where
        step : (b : Bool) → (is_among items item ≡ true → is_among (items ++ first ∷ []) item ≡ true) → (b || is_among items item) ≡ true → (b || is_among (items ++ first ∷ []) item) ≡ true
        step true later all = refl
        step false later all = later all

    pick : (b : Bool) → is_among (if b then known else known ++ first ∷ []) item ≡ true
    pick true = is
    pick false = at_end known is

kept_known : (known items : List GenidItem) (item : GenidItem) → is_among known item ≡ true → is_among (with_items known items) item ≡ true
kept_known known [] item is = is
kept_known known (first ∷ items) item is = kept_known (with_item known first) items item (among_known known item first is)

same_itself : (item : GenidItem) → is_same_item item item ≡ true
same_itself item = both (item.table == item.table) (item.genid == item.genid) (grind arith) (grind arith)
  where
    both : (a b : Bool) → a ≡ true → b ≡ true → (a && b) ≡ true
    both a b first second = rw (first, second) refl

added_known : (known : List GenidItem) (item : GenidItem) → is_among (with_item known item) item ≡ true
added_known known item = pick (is_among known item) refl
  where
    at_end : (items : List GenidItem) → is_among (items ++ item ∷ []) item ≡ true
    at_end [] = rw (same_itself item) refl
    at_end (i ∷ items) = or_true (is_same_item item i) (is_among (items ++ item ∷ []) item) (at_end items)
      where
        or_true : (a b : Bool) → b ≡ true → (a || b) ≡ true
        or_true true b is = refl
        or_true false b is = is

    pick : (b : Bool) → is_among known item ≡ b → is_among (if is_among known item then known else known ++ item ∷ []) item ≡ true
    pick true is = rw is is
    pick false is = rw is (at_end known)

all_known : (known front behind : List GenidItem) → AllByRecursion (λ i. IsAmong i (with_items known (front ++ behind))) front
all_known known [] behind = tt
all_known known (item ∷ front) behind =
    (among_is (with_items (with_item known item) (front ++ behind)) item (kept_known (with_item known item) (front ++ behind) item (added_known known item)), all_known (with_item known item) front behind)

-- ---- what is written

value_text : (v : Value) → IsToldValue v → IsText v
value_text Null told = tt
value_text (Int n) told = tt
value_text (Text text) told = IsUtf8-from_is_utf8 text told
value_text (Blob blob) told = tt

values_text : (row : List Value) → IsToldRow row → AllByRecursion IsText row
values_text [] told = tt
values_text (v ∷ vs) told = (value_text v told.0, values_text vs told.1)

writes_text : (op : RowOp) → WritesRow op → Writes IsText op
writes_text (Insert table row) told = values_text row told
writes_text (Update table target old row) told = values_text row told
writes_text (Delete table target old) told = tt

all_write_text : (ops : List RowOp) → AllByRecursion WritesRow ops → AllByRecursion (Writes IsText) ops
all_write_text [] told = tt
all_write_text (op ∷ ops) told = (writes_text op told.0, all_write_text ops told.1)

-- ---- requests

-- the request of a session, where it has operations
pub its_request : (s : Session) (ops : List RowOp) (request : CommitRequest) → request_if s ops ≡ Some request → (request ≡ request_with s ops) × (ops ≢ [])
its_request s [] request is = absurd cc
its_request s (op ∷ ops) request is = (let same : request_with s (op ∷ ops) ≡ request = cc in sym same, some)
  where
    some : op ∷ ops ≢ []
    some none = absurd cc

pub log_tables : (tables : List TableDef) (log : List Entry) → schema_of log ≡ Some tables → tables_of log ≡ tables
log_tables tables log schema = ap (λ (found : Option (List TableDef)). unwrap_or found []) schema

pub is_asked : (start : Start) (tables : List TableDef) (now : ℕ) (log : List Entry) (s : Session) (request : CommitRequest) → IsReady start tables now log → IsAble start tables now log s.begin s.ops → request_of s ≡ Some request → IsAsked (ground_of start) request log
is_asked start tables now log s request ready able asked = subst (λ (r : CommitRequest). IsAsked (ground_of start) r log) (sym its.0) (record {
  some = its.1;
  begun = able.first;
  within = let w = able.within in let n = ready.logged.count in omega (arith, w, n);
  schema = ready.logged.schema ∙ ap (λ (ts : List TableDef). Some ts) (sym same);
  stands = subst (λ (ts : List TableDef). Stands (pages_of log) ts (rows_over (ground_of start) log)) (sym same) (stand_whole (ground_of start) tables log (let o = ready.opened.0 in let n = ready.logged.count in omega (arith, o, n)) (let o = ready.opened.1 in let n = ready.logged.count in omega (arith, o, n)) ready.logged.stands);
  there = able.live.there;
  once = able.live.once;
  named = all_known [] (taken_by s.ops) s.genids;
  fits = subst (λ (ts : List TableDef). AllByRecursion (WritesFitting ts) s.ops) (sym same) (sound_fit tables (rows_over (ground_of start) log).next s.ops (kept_sound tables (rows_over (ground_of start) log).next s.ops able.kept));
  texts = all_write_text s.ops (kept_told tables (rows_over (ground_of start) log).next s.ops able.kept);
})
  where
    its : (request ≡ request_with s s.ops) × (s.ops ≢ [])
    its = its_request s s.ops request asked

    same : tables_of log ≡ tables
    same = log_tables tables log ready.logged.schema
