-- Entries tell themselves.
use Rattle.std.proofs.Common.{◌≡◌, ℕ, List, ◌∷◌, ◌++◌, refl, sym, ap, ◌∙◌, append_assoc, arith}
use Rattle.cdb_values.specs.declared.rows.Change.{Change}
use Rattle.cdb_values.specs.declared.rows.Level.{Level}
use Rattle.cdb_values.specs.declared.rows.Level.TheVariants.{Snapshot, Serializable}
use Rattle.cdb_values.specs.declared.tables.TableDef.{TableDef}
use Rattle.phys_log.specs.declared.entries.Entry.TheVariants.{Setup, Commit}
use Rattle.phys_log.specs.declared.entries.LogRecord.{LogRecord}
use Rattle.frame_code.specs.Codes.{number, many, name_code, schema_code, change_code, record_code, level_code, entry_code}
use Rattle.frame_code.specs.Spelled.{IsNumber, AreMany, IsNameBytes, IsSchema, IsChange, IsRecord, IsEntry}
use Rattle.frame_code.specs.Tells.{Tells}
use Rattle.frame_code.proofs.FormLaws.{Both, both, both_tell, numbers_tell, many_tell}
use Rattle.frame_code.proofs.PartLaws.{names_tell, schemas_tell, changes_tell, records_tell}

-- what stands behind the tag of a setup
abbrev pub setup_parts : List TableDef × List LogRecord → List ℕ
setup_parts p = both schema_code (many record_code) p

abbrev pub AreSetupParts : List TableDef × List LogRecord → Type 0
AreSetupParts p = Both IsSchema (AreMany IsRecord) p

pub setup_parts_tell : Tells setup_parts AreSetupParts
setup_parts_tell =
    both_tell schema_code IsSchema (many record_code) (AreMany IsRecord) schemas_tell (many_tell record_code IsRecord records_tell)

-- what stands behind the tag of a commit
abbrev pub CommitParts : Type 0
CommitParts = ℕ × (List ℕ × (ℕ × (ℕ × (List Change × List LogRecord))))

abbrev pub commit_parts : CommitParts → List ℕ
commit_parts p = both number (both name_code (both number (both number (both (many change_code) (many record_code))))) p

abbrev pub AreCommitParts : CommitParts → Type 0
AreCommitParts p = Both IsNumber (Both IsNameBytes (Both IsNumber (Both IsNumber (Both (AreMany IsChange) (AreMany IsRecord))))) p

pub commit_parts_tell : Tells commit_parts AreCommitParts
commit_parts_tell =
    both_tell number IsNumber (both name_code (both number (both number (both (many change_code) (many record_code)))))
    (Both IsNameBytes (Both IsNumber (Both IsNumber (Both (AreMany IsChange) (AreMany IsRecord))))) numbers_tell
    (both_tell name_code IsNameBytes (both number (both number (both (many change_code) (many record_code))))
    (Both IsNumber (Both IsNumber (Both (AreMany IsChange) (AreMany IsRecord)))) names_tell
    (both_tell number IsNumber (both number (both (many change_code) (many record_code)))
    (Both IsNumber (Both (AreMany IsChange) (AreMany IsRecord))) numbers_tell
    (both_tell number IsNumber (both (many change_code) (many record_code)) (Both (AreMany IsChange) (AreMany IsRecord)) numbers_tell
    (both_tell (many change_code) (AreMany IsChange) (many record_code) (AreMany IsRecord)
    (many_tell change_code IsChange changes_tell) (many_tell record_code IsRecord records_tell)))))

-- the generation, the tag and what stands behind it
abbrev pub tagged : ℕ × (ℕ × List ℕ) → List ℕ
tagged p = number p.0 ++ (p.1.0 ∷ p.1.1)

-- an entry's generation and tag are told
pub tags_tell : (g h s t : ℕ) (x y ps qs : List ℕ) → IsNumber g → IsNumber h → (number g ++ (s ∷ x)) ++ ps ≡ (number h ++ (t ∷ y)) ++ qs
    → (g ≡ h) × (s ≡ t) × (x ++ ps ≡ y ++ qs)
tags_tell g h s t x y ps qs hg hh e =
    let moved : number g ++ (s ∷ (x ++ ps)) ≡ number h ++ (t ∷ (y ++ qs)) =
    sym (append_assoc (number g) (s ∷ x) ps) ∙ e ∙ append_assoc (number h) (t ∷ y) qs in
    let one = numbers_tell g h (s ∷ (x ++ ps)) (t ∷ (y ++ qs)) hg hh moved in
    let behind : s ∷ (x ++ ps) ≡ t ∷ (y ++ qs) = one.1 in
    let tags : s ≡ t = cc in
    let rest : x ++ ps ≡ y ++ qs = cc in
    (one.0, tags, rest)

levels_tell : (l m : Level) → level_code l ≡ level_code m → l ≡ m
levels_tell Snapshot Snapshot e = refl
levels_tell Serializable Serializable e = refl
levels_tell Snapshot Serializable e = absurd (omega arith)
levels_tell Serializable Snapshot e = absurd (omega arith)

pub no_level : (l : Level) → level_code l ≡ 0 → ⊥
no_level Snapshot e = omega arith
no_level Serializable e = omega arith

pub entries_tell : Tells entry_code IsEntry
entries_tell (Setup g s r) (Setup h t u) ps qs hv hw e =
    let tags = tags_tell g h 0 0 (setup_parts (s, r)) (setup_parts (t, u)) ps qs hv.generation hw.generation e in
    let parts = setup_parts_tell (s, r) (t, u) ps qs (hv.schema, hv.records) (hw.schema, hw.records) tags.2 in
    (ap (λ n. Setup n s r) tags.0 ∙ ap (λ (p : List TableDef × List LogRecord). Setup h p.0 p.1) parts.0, parts.1)
entries_tell (Commit g i b l c r) (Commit h j d m x u) ps qs hv hw e =
    let mine : CommitParts = (i.began, (i.session, (i.txn, (b, (c, r))))) in
    let other : CommitParts = (j.began, (j.session, (j.txn, (d, (x, u))))) in
    let tags = tags_tell g h (level_code l) (level_code m) (commit_parts mine) (commit_parts other) ps qs hv.generation hw.generation e in
    let parts = commit_parts_tell mine other ps qs
    (hv.began, (hv.session, (hv.txn, (hv.begin, (hv.changes, hv.records)))))
    (hw.began, (hw.session, (hw.txn, (hw.begin, (hw.changes, hw.records))))) tags.2 in (
      ap (λ n. Commit n i b l c r) tags.0
          ∙ ap (λ k. Commit h i b k c r) (levels_tell l m tags.1)
          ∙ ap (λ (p : CommitParts). Commit h (record { began = p.0; session = p.1.0; txn = p.1.1.0 }) p.1.1.1.0 m p.1.1.1.1.0 p.1.1.1.1.1) parts.0,
      parts.1,
    )
entries_tell (Setup g s r) (Commit h j d m x u) ps qs hv hw e =
    let other : CommitParts = (j.began, (j.session, (j.txn, (d, (x, u))))) in
    let tags = tags_tell g h 0 (level_code m) (setup_parts (s, r)) (commit_parts other) ps qs hv.generation hw.generation e in
    absurd (no_level m (sym tags.1))
entries_tell (Commit g i b l c r) (Setup h t u) ps qs hv hw e =
    let mine : CommitParts = (i.began, (i.session, (i.txn, (b, (c, r))))) in
    let tags = tags_tell g h (level_code l) 0 (commit_parts mine) (setup_parts (t, u)) ps qs hv.generation hw.generation e in
    absurd (no_level l tags.1)
