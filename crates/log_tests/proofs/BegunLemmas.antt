-- What is asked of inserts over a log that has begun, and the log with their entry.
use Rattle.std.proofs.Common.{◌≡◌, ℕ, ◌+◌, ◌==◌, Bool, false, inl, inr, List, [], ◌∷◌, ◌++◌, length, unwrap_or, Option, Some, Result, Ok, Err, IfOk, OnOk, refl, sym, ap, ◌∙◌, subst, arith}
use Rattle.std.proofs.lemmas.List.{length-append}
use Rattle.std.specs.List.{AllByRecursion}
use Rattle.blkseq_table.proofs.LogLemmas.{of_more, of_stands}
use Rattle.blkseq_table.specs.Known.{Known, known_at, StandsAt, IsAbsent, AreApart}
use Rattle.blkseq_table.specs.OfLogs.{known_of, identities_of}
use Rattle.cdb_values.specs.Changes.{taken_by}
use Rattle.cdb_values.specs.Rows.{versions_of}
use Rattle.cdb_values.specs.declared.items.GenidItem.{GenidItem}
use Rattle.cdb_values.specs.declared.rows.RowOp.{RowOp}
use Rattle.cdb_values.specs.declared.rows.RowOp.TheVariants.{Insert, Update, Delete}
use Rattle.cdb_values.specs.declared.rows.Version.{Version}
use Rattle.cdb_values.specs.declared.tables.TableDef.{TableDef}
use Rattle.key_code.specs.Codes.{IsText}
use Rattle.phys_log.specs.Logs.{pages_of}
use Rattle.phys_log.specs.declared.entries.Entry.{Entry}
use Rattle.phys_log.specs.declared.entries.CommitId.{CommitId}
use Rattle.phys_log.specs.declared.requests.CommitRequest.{CommitRequest}
use Rattle.phys_log.specs.declared.requests.Decision.{Decision}
use Rattle.phys_log.specs.declared.requests.Decision.TheVariants.{Repeat, Conflict, Duplicate, Commit}
use Rattle.log_replay.specs.Answers.{schema_of}
use Rattle.table_store.specs.Listings.{IsAmong}
use Rattle.table_store.specs.Operations.{gone, NoTwice}
use Rattle.table_store.specs.Stored.{Stands}
use Rattle.table_edits.specs.Fits.{WritesFitting}
use Rattle.log_rows.specs.History.{no_ground, rows_of, rows_at, tables_of}
use Rattle.block_processor.specs.Asked.{IsAsked, Writes}
use Rattle.block_processor.specs.Decided.{Decides, IsNextEntry}
use Rattle.log_tests.specs.Begun.{IsBegun, IsInsert, AsksInserts, GoesOnWith, GoesOn}

-- inserts, and one more
pub inserts_more : (ops : List RowOp) (op : RowOp) → AllByRecursion IsInsert ops → IsInsert op → AllByRecursion IsInsert (ops ++ op ∷ [])
inserts_more [] op all is = (is, tt)
inserts_more (first ∷ ops) op all is = (all.0, inserts_more ops op all.1 is)

pub some_ops : (ops : List RowOp) (is_empty : Bool) → is_empty ≡ (length ops == 0) → is_empty ≡ false → ops ≡ [] → ⊥
some_ops [] is_empty is not_empty none = absurd cc
some_ops (op ∷ ops) is_empty is not_empty none = cc

-- they take nothing away
none_gone : (table : ℕ) (ops : List RowOp) → AllByRecursion IsInsert ops → gone table ops ≡ []
none_gone table [] all = refl
none_gone table (Insert place row ∷ ops) all = none_gone table ops all.1
none_gone table (Update place target old row ∷ ops) all = absurd all.0
none_gone table (Delete place target old ∷ ops) all = absurd all.0

none_taken : (ops : List RowOp) → AllByRecursion IsInsert ops → taken_by ops ≡ []
none_taken [] all = refl
none_taken (Insert place row ∷ ops) all = none_taken ops all.1
none_taken (Update place target old row ∷ ops) all = absurd all.0
none_taken (Delete place target old ∷ ops) all = absurd all.0

-- and write texts of UTF-8
texts_are : (ops : List RowOp) → AllByRecursion IsInsert ops → AllByRecursion (Writes IsText) ops
texts_are [] all = tt
texts_are (Insert place row ∷ ops) all = (all.0, texts_are ops all.1)
texts_are (Update place target old row ∷ ops) all = absurd all.0
texts_are (Delete place target old ∷ ops) all = absurd all.0

pub asked : (request : CommitRequest) (entries : List Entry) (tables : List TableDef) → IsBegun tables entries → AsksInserts entries request
    → (request.ops ≡ [] → ⊥) → AllByRecursion (WritesFitting tables) request.ops → IsAsked no_ground request entries
asked request entries tables begun asks some fit =
    let same : tables_of entries ≡ tables = ap (λ (o : Option (List TableDef)). unwrap_or o []) begun.schema in
    let gone_none : (table : ℕ) → gone table request.ops ≡ [] = (λ table. none_gone table request.ops asks.inserts) in
    record {
      some = some;
      begun = (asks.begun, omega arith);
      within = asks.within;
      schema = begun.schema ∙ ap (λ (t : List TableDef). Some t) (sym same);
      stands = subst (λ (t : List TableDef). Stands (pages_of entries) t (rows_of entries)) (sym same) begun.stands;
      there = λ table. subst (λ (l : List Version). AllByRecursion (λ v. IsAmong v (versions_of (rows_at entries request.begin) table)) l) (sym (gone_none table)) tt;
      once = λ table. subst NoTwice (sym (gone_none table)) tt;
      named = subst (λ (l : List GenidItem). AllByRecursion (λ i. IsAmong i request.genids) l) (sym (none_taken request.ops asks.inserts)) tt;
      fits = subst (λ (t : List TableDef). AllByRecursion (WritesFitting t) request.ops) (sym same) fit;
      texts = texts_are request.ops asks.inserts;
    }

-- an identity that stands at no position stands nowhere, and put behind others keeps them apart
nowhere_absent : (known : List Known) (id : CommitId) → ((position : ℕ) → StandsAt known id position → ⊥) → IsAbsent known id
nowhere_absent [] id none = tt
nowhere_absent (k ∷ known) id none = (λ same. none k.position (inl (same, refl)), nowhere_absent known id (λ position at. none position (inr at)))

absent_more : (known : List Known) (id : CommitId) (k : Known) → IsAbsent known id → (k.id ≡ id → ⊥) → IsAbsent (known ++ k ∷ []) id
absent_more [] id k absent other = (other, tt)
absent_more (x ∷ known) id k absent other = (absent.0, absent_more known id k absent.1 other)

apart_more : (known : List Known) (k : Known) → AreApart known → IsAbsent known k.id → AreApart (known ++ k ∷ [])
apart_more [] k apart absent = (tt, tt)
apart_more (x ∷ known) k apart absent = (absent_more known x.id k apart.0 (λ same. absent.0 (sym same)), apart_more known k apart.1 absent.1)

schema_more : (entries : List Entry) (next : Entry) (tables : List TableDef) → schema_of entries ≡ Some tables → schema_of (entries ++ next ∷ []) ≡ Some tables
schema_more [] next tables is = absurd (none is)
  where
    none : schema_of [] ≡ Some tables → ⊥
    none e = cc
schema_more (e ∷ es) next tables is = is

-- the log goes on with an entry that was decided on
next_begun : (request : CommitRequest) (entries : List Entry) (tables : List TableDef) (generation : ℕ) (next : Entry) → IsBegun tables entries
    → IsNextEntry no_ground request entries generation next → GoesOnWith tables entries request.id next
next_begun request entries tables generation next begun is =
    let same : tables_of entries ≡ tables = ap (λ (o : Option (List TableDef)). unwrap_or o []) begun.schema in
    let long : length (entries ++ next ∷ []) ≡ length entries + 1 = length-append entries (next ∷ []) in
    record {
      begun = record {
        some = omega (arith, long);
        schema = schema_more entries next tables begun.schema;
        stands = subst (λ (t : List TableDef). Stands (pages_of (entries ++ next ∷ [])) t (rows_of (entries ++ next ∷ []))) same is.stands;
        apart = subst AreApart (sym known) (apart_more (identities_of entries) (known_at request.id (length entries + 1)) begun.apart absent);
      };
      fresh = absent;
      known = known;
    }
  where
    absent : IsAbsent (identities_of entries) request.id
    absent = nowhere_absent (identities_of entries) request.id (λ position at. is.fresh.nowhere position ((of_stands entries request.id position).0 at))

    known : identities_of (entries ++ next ∷ []) ≡ identities_of entries ++ known_at request.id (length entries + 1) ∷ []
    known = of_more entries next ∙ ap (λ (e : Entry). identities_of entries ++ known_of (length entries + 1) e) is.made

pub goes_on : (request : CommitRequest) (entries : List Entry) (tables : List TableDef) (generation : ℕ) (d : Decision) → IsBegun tables entries
    → Decides no_ground request entries generation d → GoesOn tables entries request.id d
goes_on request entries tables generation (Repeat position) begun is = tt
goes_on request entries tables generation (Conflict position item) begun is = tt
goes_on request entries tables generation (Duplicate position table key) begun is = tt
goes_on request entries tables generation (Commit next) begun is = next_begun request entries tables generation next begun is

pub each_ok : {T E : Type 0} {P Q : T → Type 0} (r : Result T E) → ((x : T) → P x → Q x) → IfOk r P → IfOk r Q
each_ok (Ok x) f is = f x is
each_ok (Err e) f is = tt

-- the identities of the log that went on
pub follows : {T E : Type 0} (r : Result T E) (tables : List TableDef) (entries now : List Entry) (next : Entry) (known after : List Known) (id : CommitId)
    → GoesOnWith tables entries id next → known ≡ identities_of entries → OnOk r (now ≡ entries ++ next ∷ [])
    → OnOk r (after ≡ known ++ known_at id (length entries + 1) ∷ []) → OnOk r (after ≡ identities_of now)
follows (Ok x) tables entries now next known after id goes are log more =
    more ∙ ap (λ (l : List Known). l ++ known_at id (length entries + 1) ∷ []) are ∙ sym goes.known ∙ ap identities_of (sym log)
follows (Err e) tables entries now next known after id goes are log more = tt

pub longer : {T E : Type 0} (r : Result T E) (entries now : List Entry) (next : Entry) → OnOk r (now ≡ entries ++ next ∷ []) → OnOk r (length now ≡ length entries + 1)
longer (Ok x) entries now next is = ap length is ∙ length-append entries (next ∷ [])
longer (Err e) entries now next is = tt
