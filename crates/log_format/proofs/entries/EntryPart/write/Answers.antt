-- Each part is added behind those before it.
use Rattle.std.proofs.Common.{◌≡◌, ℕ, [], ◌∷◌, ◌++◌, ap, ◌∙◌}
use Rattle.frame_code.specs.Codes.{number, name_code, schema_code, many, change_code, record_code, level_code}
use Rattle.log_format.proofs.PutLemmas.{put_then, two_then, four_then}
use Rattle.log_format.proofs.entries.EntryPart.write.Goals as goal

pub returns-in_ok-write-in-Setup : goal.returns-in_ok-write-in-Setup
returns-in_ok-write-in-Setup c =
    rw c.in-Setup.is
    (two_then c.write-in-Setup.result c.args.out.now.items c.write_tag.new.out.items c.write-in-Setup.new.out.items (number c.in-Setup.generation)
    (0 ∷ []) (schema_code c.in-Setup.schema ++ many record_code c.in-Setup.records) c.in_ok-write_tag-in-Setup.ensures
    (put_then c.write-in-Setup.result c.write_tag.new.out.items c.write.new.out.items c.write-in-Setup.new.out.items (schema_code c.in-Setup.schema)
    (many record_code c.in-Setup.records) c.in_ok-write-in-Setup.ensures c.write-in-Setup.ensures))

pub returns-in_ok-write_id-in-Commit : goal.returns-in_ok-write_id-in-Commit
returns-in_ok-write_id-in-Commit c =
    let began = number c.in-Commit.id.began in
    let session = name_code c.in-Commit.id.session in
    let txn = number c.in-Commit.id.txn in
    let begin = number c.in-Commit.begin in
    let work = many change_code c.in-Commit.changes ++ many record_code c.in-Commit.records in
    let tagged : c.write_tag-in-Commit.new.out.items ≡ c.args.out.now.items ++ (number c.in-Commit.generation ++ (level_code c.in-Commit.level ∷ [])) =
    c.in_ok-write_tag-in-Commit.ensures ∙ ap (λ (n : ℕ). c.args.out.now.items ++ (number c.in-Commit.generation ++ (n ∷ []))) c.level_byte.ensures in
    rw c.in-Commit.is
    (two_then c.write_work.result c.args.out.now.items c.write_tag-in-Commit.new.out.items c.write_work.new.out.items (number c.in-Commit.generation)
    (level_code c.in-Commit.level ∷ []) (began ++ (session ++ (txn ++ (begin ++ work)))) tagged
    (four_then c.write_work.result c.write_tag-in-Commit.new.out.items c.write_id.new.out.items c.write_work.new.out.items began session txn begin
    work c.in_ok-write_id-in-Commit.ensures c.write_work.ensures))
