-- What a run asks of the language of SQL: each text is answered, and by sound operations over sound rows; and a
-- transaction's texts use what they use, and read what they read, one after the other.
use Rattle.std.proofs.Common.{◌≡◌, ℕ, ◌++◌, ◌∷◌, [], List, ◌∙◌, ap, append_assoc, sym, true}
use Rattle.std.proofs.lemmas.List.{append-nil}
use Rattle.std.specs.List.{AllByRecursion}
use Rattle.std.specs.Str.{is_utf8}
use Rattle.cdb_values.specs.declared.items.GenidItem.{GenidItem}
use Rattle.cdb_values.specs.declared.items.Interval.{Interval}
use Rattle.cdb_values.specs.declared.rows.RowOp.{RowOp}
use Rattle.cdb_values.specs.declared.rows.Version.{Version}
use Rattle.cdb_values.specs.declared.tables.TableDef.{TableDef}
use Rattle.session_language.specs.Answers.{Answers}
use Rattle.session_language.specs.Language.{Language, alone_from}
use Rattle.sql_answer.proofs.LanguageLemmas.{sql_answers}
use Rattle.query_laws.specs.Alone.{reads_of, sql_language}
use Rattle.sql_answer.specs.Language.{sql_binder}
use Rattle.sql_run.proofs.RowLaws.{leaves_such_rows}
use Rattle.sql_run.proofs.SoundLaws.{leaves_sound_ops}
use Rattle.script_play.proofs.SoundLaws.{kept_both, kept_sound, kept_told}
use Rattle.script_play.specs.Ready.{AreKept, IsAskable, IsKeptOp}

pub sql_is_answered : Answers sql_language
sql_is_answered = sql_answers sql_binder reads_of

pub kept_answer : (tables : List TableDef) (versions : List (List Version)) (done : List RowOp) (text : List ℕ) (next : ℕ) → AllByRecursion IsAskable tables → is_utf8 text ≡ true → AreKept tables next versions → AllByRecursion (IsKeptOp tables next) done
    → AllByRecursion (IsKeptOp tables next) (sql_language.answer tables versions done text).ops
kept_answer tables versions done text next askable utf8 kept all =
    kept_both tables next (sql_language.answer tables versions done text).ops
    (leaves_sound_ops tables versions done text next askable kept.0 (kept_sound tables next done all))
    (leaves_such_rows tables versions done text utf8 kept.1 (kept_told tables next done all))

-- one text more uses what it uses behind the texts before it
pub uses_more : (language : Language) (tables : List TableDef) (versions : List (List Version)) (done : List RowOp) (texts : List (List ℕ)) (text : List ℕ) →
    (alone_from language tables versions done (texts ++ text ∷ [])).uses ≡ (alone_from language tables versions done texts).uses ++ (language.answer tables versions (alone_from language tables versions done texts).ops text).uses
uses_more language tables versions done [] text = append-nil (language.answer tables versions done text).uses
uses_more language tables versions done (first ∷ texts) text =
    ap (λ (us : List GenidItem). (language.answer tables versions done first).uses ++ us) (uses_more language tables versions (language.answer tables versions done first).ops texts text)
    ∙ sym (append_assoc (language.answer tables versions done first).uses (alone_from language tables versions (language.answer tables versions done first).ops texts).uses
    (language.answer tables versions (alone_from language tables versions (language.answer tables versions done first).ops texts).ops text).uses)

-- and so it reads the intervals
pub ranges_more : (language : Language) (tables : List TableDef) (versions : List (List Version)) (done : List RowOp) (texts : List (List ℕ)) (text : List ℕ) →
    (alone_from language tables versions done (texts ++ text ∷ [])).ranges ≡ (alone_from language tables versions done texts).ranges ++ (language.answer tables versions (alone_from language tables versions done texts).ops text).ranges
ranges_more language tables versions done [] text = append-nil (language.answer tables versions done text).ranges
ranges_more language tables versions done (first ∷ texts) text =
    ap (λ (rs : List Interval). (language.answer tables versions done first).ranges ++ rs) (ranges_more language tables versions (language.answer tables versions done first).ops texts text)
    ∙ sym (append_assoc (language.answer tables versions done first).ranges (alone_from language tables versions (language.answer tables versions done first).ops texts).ranges
    (language.answer tables versions (alone_from language tables versions (language.answer tables versions done first).ops texts).ops text).ranges)
