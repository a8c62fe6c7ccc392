-- Where the parts of an entry are not at the front, it is not.
use Rattle.std.proofs.Common.{◌≡◌, ℕ, List, [], ◌∷◌, ◌++◌, sym, ◌∙◌, append_assoc, arith}
use Rattle.cdb_values.specs.declared.rows.Change.{Change}
use Rattle.cdb_values.specs.declared.rows.Level.{Level}
use Rattle.cdb_values.specs.declared.rows.Level.TheVariants.{Snapshot, Serializable}
use Rattle.phys_log.specs.declared.entries.CommitId.{CommitId}
use Rattle.phys_log.specs.declared.entries.Entry.TheVariants.{Setup, Commit}
use Rattle.phys_log.specs.declared.entries.LogRecord.{LogRecord}
use Rattle.frame_code.specs.Codes.{byte, number, level_code, entry_code}
use Rattle.frame_code.specs.Spelled.{IsByte, IsNumber, IsEntry}
use Rattle.frame_code.specs.Tells.{Lacks}
use Rattle.frame_code.proofs.FormLaws.{Both, both, numbers_tell}
use Rattle.frame_code.proofs.EntryLaws.{setup_parts, AreSetupParts, CommitParts, commit_parts, AreCommitParts, no_level}

-- the parts of a commit behind its tag
abbrev pub parts_of : CommitId → ℕ → List Change → List LogRecord → CommitParts
parts_of id begin changes records = (id.began, (id.session, (id.txn, (begin, (changes, records)))))

-- no generation and tag
pub no_entry_head : (bytes : List ℕ) → Lacks (both number byte) (Both IsNumber IsByte) bytes → Lacks entry_code IsEntry bytes
no_entry_head bytes none (Setup g s r) more h e =
    none (g, 0) (setup_parts (s, r) ++ more) (h.generation, omega arith)
    (append_assoc (number g) (0 ∷ []) (setup_parts (s, r) ++ more) ∙ sym (append_assoc (number g) (0 ∷ setup_parts (s, r)) more) ∙ e)
no_entry_head bytes none (Commit g i b Snapshot c r) more h e =
    none (g, 1) (commit_parts (parts_of i b c r) ++ more) (h.generation, omega arith)
    (append_assoc (number g) (1 ∷ []) (commit_parts (parts_of i b c r) ++ more) ∙ sym (append_assoc (number g) (1 ∷ commit_parts (parts_of i b c r)) more) ∙ e)
no_entry_head bytes none (Commit g i b Serializable c r) more h e =
    none (g, 2) (commit_parts (parts_of i b c r) ++ more) (h.generation, omega arith)
    (append_assoc (number g) (2 ∷ []) (commit_parts (parts_of i b c r) ++ more) ∙ sym (append_assoc (number g) (2 ∷ commit_parts (parts_of i b c r)) more) ∙ e)

-- the generation and the tag of an entry, and what stands behind them
pub behind_tag : (g h s t : ℕ) (x more rest : List ℕ) → IsNumber g → IsNumber h → (number g ++ (s ∷ x)) ++ more ≡ number h ++ (t ∷ rest)
    → (g ≡ h) × (s ≡ t) × (x ++ more ≡ rest)
behind_tag g h s t x more rest hg hh e =
    let moved : number g ++ (s ∷ (x ++ more)) ≡ number h ++ (t ∷ rest) = sym (append_assoc (number g) (s ∷ x) more) ∙ e in
    let one = numbers_tell g h (s ∷ (x ++ more)) (t ∷ rest) hg hh moved in
    let behind : s ∷ (x ++ more) ≡ t ∷ rest = one.1 in
    let tags : s ≡ t = cc in
    let left : x ++ more ≡ rest = cc in
    (one.0, tags, left)

pub no_setup : (g : ℕ) (rest : List ℕ) → IsNumber g → Lacks setup_parts AreSetupParts rest → Lacks entry_code IsEntry (number g ++ (0 ∷ rest))
no_setup g rest hg none (Setup h s r) more k e =
    let tags = behind_tag h g 0 0 (setup_parts (s, r)) more rest k.generation hg e in
    none (s, r) more (k.schema, k.records) tags.2
no_setup g rest hg none (Commit h i b l c r) more k e =
    let tags = behind_tag h g (level_code l) 0 (commit_parts (parts_of i b c r)) more rest k.generation hg e in
    no_level l tags.1

pub no_commit : (g : ℕ) (l : Level) (rest : List ℕ) → IsNumber g → Lacks commit_parts AreCommitParts rest
    → Lacks entry_code IsEntry (number g ++ (level_code l ∷ rest))
no_commit g l rest hg none (Setup h s r) more k e =
    let tags = behind_tag h g 0 (level_code l) (setup_parts (s, r)) more rest k.generation hg e in
    no_level l (sym tags.1)
no_commit g l rest hg none (Commit h i b m c r) more k e =
    let tags = behind_tag h g (level_code m) (level_code l) (commit_parts (parts_of i b c r)) more rest k.generation hg e in
    none (parts_of i b c r) more (k.began, (k.session, (k.txn, (k.begin, (k.changes, k.records))))) tags.2
