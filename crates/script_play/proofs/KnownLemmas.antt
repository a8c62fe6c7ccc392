-- The identities of a log's entries: what stands before an entry is appended, behind it, and where it was not kept.
use Rattle.std.proofs.Common.{◌≡◌, ℕ, ◌+◌, List, [], ◌∷◌, ◌++◌, length, take, false, Some, refl, sym, subst, ap, arith, ◌∙◌, inl, inr}
use Rattle.std.proofs.Math.Seq.{take-append_seam}
use Rattle.blkseq_table.proofs.LogLemmas.{of_first, of_more, of_stands}
use Rattle.blkseq_table.specs.Known.{Known, up_to, AreApart, IsAbsent, StandsAt}
use Rattle.blkseq_table.specs.OfLogs.{id_of, identities_of, known_of}
use Rattle.cdb_values.specs.Rows.{Rows}
use Rattle.cdb_values.specs.declared.tables.TableDef.{TableDef}
use Rattle.node_log.specs.Logged.{Logged}
use Rattle.phys_log.specs.declared.entries.CommitId.{CommitId}
use Rattle.phys_log.specs.declared.entries.Entry.{Entry}
use Rattle.script_play.specs.Effects.{IsFreshIn}
use Rattle.script_play.specs.Ready.{CanBegin}
use Rattle.script_play.specs.RunViews.{IsOpenedBehind}

-- the identities of a log whose store did not fail
pub known_up : (log now : Logged) (known : List Known) → log ≡ now → now.failed ≡ false → (log.failed ≡ false → known ≡ identities_of log.entries) → known ≡ identities_of log.entries
known_up log now known same up were = were (ap (λ (l : Logged). l.failed) same ∙ up)

-- an identity that stands at no position is not there
absent_where : (known : List Known) (id : CommitId) → ((position : ℕ) → StandsAt known id position → ⊥) → IsAbsent known id
absent_where [] id nowhere = tt
absent_where (k ∷ known) id nowhere = (λ same. nowhere k.position (inl (same, refl)), absent_where known id (λ position at. nowhere position (inr at)))

-- the identity of an entry that none before it has
pub fresh_absent : (log : List Entry) (entry : Entry) → IsFreshIn log entry → (id : CommitId) → id_of entry ≡ Some id → IsAbsent (identities_of log) id
fresh_absent log entry fresh id its = absent_where (identities_of log) id (λ position at. fresh position id its ((of_stands log id position).0 at))

-- with it put behind those of a log, they are those of the longer log
pub known_more : (log : List Entry) (entry : Entry) (known mid : List Known) → known ≡ identities_of log → mid ≡ known ++ known_of (length log + 1) entry → mid ≡ identities_of (log ++ entry ∷ [])
known_more log entry known mid were is = is ∙ ap (λ (ks : List Known). ks ++ known_of (length log + 1) entry) were ∙ sym (of_more log entry)

-- and without those above the log's last position, those of the log again
pub known_back : (log : List Entry) (entry : Entry) (mid known : List Known) (last : ℕ) → mid ≡ identities_of (log ++ entry ∷ []) → last ≡ length log → known ≡ up_to last mid → known ≡ identities_of log
known_back log entry mid known last were at is =
    is ∙ ap (λ (ks : List Known). up_to last ks) were ∙ of_first (log ++ entry ∷ []) last
    ∙ ap (λ (n : ℕ). identities_of (take n (log ++ entry ∷ []))) at ∙ ap identities_of (take-append_seam log (entry ∷ []))

-- the identities of a log at the opening of a run are apart
pub opened_apart : (tables : List TableDef) (generation : ℕ) (before : List Entry) (rows : Rows) (log : List Entry) → IsOpenedBehind tables generation before log → CanBegin tables before rows → AreApart (identities_of log)
opened_apart tables generation [] rows log is begin = subst (λ (es : List Entry). AreApart (identities_of es)) (sym (is.first refl).is) tt
opened_apart tables generation (e ∷ es) rows log is begin = subst (λ (all : List Entry). AreApart (identities_of all)) (sym (is.later (omega arith))) begin.apart
