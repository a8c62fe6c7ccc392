-- An entry appended, as the code tells it.
use Rattle.std.proofs.Common.{◌≡◌, ℕ, ◌+◌, List, [], ◌∷◌, ◌++◌, sym, subst, length, Option, IfSome}
use Rattle.page_store.specs.Image.{Image, blank_image}
use Rattle.phys_log.specs.declared.entries.LogRecord.{LogRecord}
use Rattle.phys_log.specs.declared.entries.Entry.{Entry}
use Rattle.phys_log.specs.Logs.{records_of, replayed, last_lsn_of, AreNext}
use Rattle.log_replay.specs.declared.kept.KeptPages.{KeptPages}
use Rattle.log_replay.specs.Chains.{links_on}
use Rattle.log_replay.specs.Kept.{page_in, chain_in, IsKept}
use Rattle.log_replay.proofs.LogLemmas.{kept_more}

-- the records, their first LSN and their position, by the log and the entry
pub next_told : (entries : List Entry) (entry : Entry) (p : KeptPages) (rs : List LogRecord) (last : ℕ) → rs ≡ records_of entry → last ≡ last_lsn_of entries
    → AreNext (page_in p) (last + 1) rs → AreNext (page_in p) (last_lsn_of entries + 1) (records_of entry)
next_told entries entry p rs last is at h =
    subst (λ (n : ℕ). AreNext (page_in p) (n + 1) (records_of entry)) at (subst (λ (l : List LogRecord). AreNext (page_in p) (last + 1) l) is h)

pub next_asked : (entries : List Entry) (entry : Entry) (p : KeptPages) (rs : List LogRecord) (last : ℕ) → rs ≡ records_of entry → last ≡ last_lsn_of entries
    → AreNext (page_in p) (last_lsn_of entries + 1) (records_of entry) → AreNext (page_in p) (last + 1) rs
next_asked entries entry p rs last is at h =
    subst (λ (l : List LogRecord). AreNext (page_in p) (last + 1) l) (sym is) (subst (λ (n : ℕ). AreNext (page_in p) (n + 1) (records_of entry)) (sym at) h)

pub kept_append : (entries more : List Entry) (entry : Entry) (rs : List LogRecord) (last position : ℕ) (p q : KeptPages) (b d : Option Image)
    → IsKept entries p b → more ≡ entries ++ entry ∷ [] → rs ≡ records_of entry → last ≡ last_lsn_of entries → position ≡ length entries + 1
    → AreNext (page_in p) (last + 1) rs → ((n : ℕ) → page_in q n ≡ replayed (page_in p) rs n)
    → ((n : ℕ) → chain_in q n ≡ chain_in p n ++ links_on n position rs) → IfSome d (λ i. i ≡ blank_image) → IsKept more q d
kept_append entries more entry rs last position p q b d kept is told at place next made linked lent =
    let K : List Entry → Type 0 = λ l. IsKept l q d in
    let M : List LogRecord → Type 0 = λ l. (n : ℕ) → page_in q n ≡ replayed (page_in p) l n in
    let L : List LogRecord → Type 0 = λ l. (n : ℕ) → chain_in q n ≡ chain_in p n ++ links_on n position l in
    let N : ℕ → Type 0 = λ k. (n : ℕ) → chain_in q n ≡ chain_in p n ++ links_on n k (records_of entry) in
    subst K (sym is) (kept_more entries entry p q b d kept (next_told entries entry p rs last told at next) (subst M told made) (subst N place (subst L told linked)) lent)
