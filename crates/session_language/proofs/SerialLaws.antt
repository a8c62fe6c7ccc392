-- The operations of a transaction without its texts that failed.
use Rattle.std.proofs.Common.{◌≡◌, ℕ, List, [], ◌∷◌, refl, sym, ap, ◌∙◌, Bool, true, false, not, if◌then◌else◌}
use Rattle.cdb_values.specs.Rows.{Rows}
use Rattle.cdb_values.specs.declared.rows.RowOp.{RowOp}
use Rattle.cdb_values.specs.declared.rows.Version.{Version}
use Rattle.cdb_values.specs.declared.tables.TableDef.{TableDef}
use Rattle.session_language.specs.Language.{Language, Answered, answers_from, together, alone}
use Rattle.session_language.specs.Serial.{without_failures, answers_on, lasting, IsByReads}

kept_step : (b : Bool) (done : List RowOp) (a : Answered) (kept all : List Answered) → (b ≡ true → a.ops ≡ done) → (together a.ops kept).ops ≡ (together a.ops all).ops →
    (together done (if not b then a ∷ kept else kept)).ops ≡ (together a.ops all).ops
kept_step true done a kept all stays same = ap (λ (ops : List RowOp). (together ops kept).ops) (sym (stays refl)) ∙ same
kept_step false done a kept all stays same = same

-- they are the same, as a text that fails leaves them as they are
pub ops_kept : (language : Language) (tables : List TableDef) → IsByReads language tables → (versions : List (List Version)) (done : List RowOp) (texts : List (List ℕ)) →
    (together done (without_failures (answers_from language tables versions done texts))).ops ≡ (together done (answers_from language tables versions done texts)).ops
ops_kept language tables is versions done [] = refl
ops_kept language tables is versions done (text ∷ texts) =
    kept_step (language.answer tables versions done text).failed done (language.answer tables versions done text)
    (without_failures (answers_from language tables versions (language.answer tables versions done text).ops texts))
    (answers_from language tables versions (language.answer tables versions done text).ops texts)
    (is.fails versions done text)
    (ops_kept language tables is versions (language.answer tables versions done text).ops texts)

-- so where the answers on other rows are those that did not fail, the operations there are the same
pub ops_same : (language : Language) (tables : List TableDef) → IsByReads language tables → (rows others : Rows) (texts : List (List ℕ)) →
    answers_on language tables others (lasting language tables rows texts) ≡ without_failures (answers_on language tables rows texts) →
    (alone language tables others (lasting language tables rows texts)).ops ≡ (alone language tables rows texts).ops
ops_same language tables is rows others texts same =
    ap (λ (answers : List Answered). (together [] answers).ops) same ∙ ops_kept language tables is rows.tables [] texts
