-- An entry whose parts fit their fields has a spelling.
use Rattle.std.proofs.Common.{ℕ, ◌+◌, ◌*◌, ◌<◌, ◌≤◌, ◌^◌, List, [], ◌∷◌, ◌++◌, length, arith}
use Rattle.std.specs.List.{flat_map}
use Rattle.cdb_values.specs.declared.rows.Change.{Change}
use Rattle.cdb_values.specs.declared.rows.Level.{Level}
use Rattle.cdb_values.specs.declared.tables.TableDef.{TableDef}
use Rattle.phys_log.specs.declared.entries.CommitId.{CommitId}
use Rattle.phys_log.specs.declared.entries.Entry.{Entry}
use Rattle.phys_log.specs.declared.entries.Entry.TheVariants.{Setup, Commit}
use Rattle.phys_log.specs.declared.entries.LogRecord.{LogRecord}
use Rattle.frame_code.specs.Codes.{byte, number, many, name_code, schema_code, change_code, record_code, level_code, entry_code}
use Rattle.frame_code.specs.Spelled.{AreMany, IsChange, IsRecord, IsSpelled, Grow}
use Rattle.frame_code.specs.declared.frames.Frame.TheVariants as frame
use Rattle.entry_spelling.specs.Fields.{AreWithin, HasSetupFields, HasCommitFields, HasFields, IsGrown}
use Rattle.entry_spelling.proofs.SizeLaws.{joined, size_of_parts, number_size, name_size, schema_size, change_size, record_size}
use Rattle.entry_spelling.proofs.TableLaws.{grown_are_short, grown_fit}

-- parts that are few enough: they are many, and so long at most
within_many : {A : Type 0} (Has : A → Type 0) (xs : List A) → AreWithin Has xs → AreMany Has xs
within_many Has xs h = let few : length xs < 2 ^ 28 = h.count in record { count = omega arith; each = h.each }

changes_size : (cs : List Change) → AreWithin IsChange cs → length (many change_code cs) ≤ 8 + 2 ^ 62
changes_size cs h =
    let few : length cs < 2 ^ 28 = h.count in
    let parts : length (flat_map change_code cs) ≤ 2 ^ 34 * length cs = size_of_parts change_code IsChange (2 ^ 34) change_size cs h.each in
    joined (number (length cs)) (flat_map change_code cs) 8 (2 ^ 62) (number_size (length cs)) (omega arith)

records_size : (rs : List LogRecord) → AreWithin IsRecord rs → length (many record_code rs) ≤ 8 + 2 ^ 46
records_size rs h =
    let few : length rs < 2 ^ 28 = h.count in
    let parts : length (flat_map record_code rs) ≤ 2 ^ 18 * length rs = size_of_parts record_code IsRecord (2 ^ 18) record_size rs h.each in
    joined (number (length rs)) (flat_map record_code rs) 8 (2 ^ 46) (number_size (length rs)) (omega arith)

setup_size : (g : ℕ) (tables : List TableDef) (rs : List LogRecord) → HasSetupFields g rs → Grow [] tables
    → length (entry_code (Setup g tables rs)) ≤ 8 + (1 + (2 ^ 18 + (8 + 2 ^ 46)))
setup_size g tables rs h grow =
    let short = grown_are_short [] tables grow in
    let few : length tables ≤ 64 = omega (arith, short.few (omega arith)) in
    joined (number g) (0 ∷ (schema_code tables ++ many record_code rs)) 8 (1 + (2 ^ 18 + (8 + 2 ^ 46))) (number_size g)
    (joined (byte 0) (schema_code tables ++ many record_code rs) 1 (2 ^ 18 + (8 + 2 ^ 46)) (omega arith)
    (joined (schema_code tables) (many record_code rs) (2 ^ 18) (8 + 2 ^ 46) (schema_size tables few short.each) (records_size rs h.records)))

commit_size : (g : ℕ) (id : CommitId) (begin : ℕ) (level : Level) (cs : List Change) (rs : List LogRecord) → HasCommitFields g id begin cs rs
    → length (entry_code (Commit g id begin level cs rs)) ≤ 8 + (1 + (8 + (256 + (8 + (8 + ((8 + 2 ^ 62) + (8 + 2 ^ 46)))))))
commit_size g id begin level cs rs h =
    let name : length id.session < 256 = h.id.session in
    joined (number g) (level_code level ∷ (number id.began ++ (name_code id.session ++ (number id.txn ++ (number begin ++ (many change_code cs ++ many record_code rs))))))
    8 (1 + (8 + (256 + (8 + (8 + ((8 + 2 ^ 62) + (8 + 2 ^ 46))))))) (number_size g)
    (joined (byte (level_code level)) (number id.began ++ (name_code id.session ++ (number id.txn ++ (number begin ++ (many change_code cs ++ many record_code rs)))))
    1 (8 + (256 + (8 + (8 + ((8 + 2 ^ 62) + (8 + 2 ^ 46)))))) (omega arith)
    (joined (number id.began) (name_code id.session ++ (number id.txn ++ (number begin ++ (many change_code cs ++ many record_code rs))))
    8 (256 + (8 + (8 + ((8 + 2 ^ 62) + (8 + 2 ^ 46))))) (number_size id.began)
    (joined (name_code id.session) (number id.txn ++ (number begin ++ (many change_code cs ++ many record_code rs)))
    256 (8 + (8 + ((8 + 2 ^ 62) + (8 + 2 ^ 46)))) (name_size id.session 255 (omega arith))
    (joined (number id.txn) (number begin ++ (many change_code cs ++ many record_code rs))
    8 (8 + ((8 + 2 ^ 62) + (8 + 2 ^ 46))) (number_size id.txn)
    (joined (number begin) (many change_code cs ++ many record_code rs) 8 ((8 + 2 ^ 62) + (8 + 2 ^ 46)) (number_size begin)
    (joined (many change_code cs) (many record_code rs) (8 + 2 ^ 62) (8 + 2 ^ 46) (changes_size cs h.changes) (records_size rs h.records)))))))

pub fields_spell : (entry : Entry) → HasFields entry → IsGrown entry → IsSpelled (frame.Entry entry)
fields_spell (Setup g tables rs) h grow =
    let size : length (entry_code (Setup g tables rs)) ≤ 8 + (1 + (2 ^ 18 + (8 + 2 ^ 46))) = setup_size g tables rs h grow in
    record {
      parts = record { generation = h.generation; schema = grown_fit tables grow; records = within_many IsRecord rs h.records };
      size = omega arith;
    }
fields_spell (Commit g id begin level cs rs) h grow =
    let size : length (entry_code (Commit g id begin level cs rs)) ≤ 8 + (1 + (8 + (256 + (8 + (8 + ((8 + 2 ^ 62) + (8 + 2 ^ 46))))))) =
    commit_size g id begin level cs rs h in
    record {
      parts = record {
        generation = h.generation;
        began = h.id.began;
        session = h.id.session;
        txn = h.id.txn;
        begin = h.begin;
        changes = within_many IsChange cs h.changes;
        records = within_many IsRecord rs h.records;
      };
      size = omega arith;
    }
