-- What the reader reads is the reading of the text, and what is bound of it is its meaning.
use Rattle.std.proofs.Common.{◌≡◌, ℕ, List, sym, ap, Ok, Err}
use Rattle.cdb_values.specs.declared.rows.StatementError.TheVariants as error
use Rattle.cdb_values.specs.declared.tables.TableDef.{TableDef}
use Rattle.session_language.specs.Language.{OtherText}
use Rattle.sql_answer.proofs.ReadingLemmas.{spelled_is_read, refused_is_read}
use Rattle.sql_answer.specs.Language.{sql_binder, cause_of, meaning, meant_as, meant_by}
use Rattle.sql_answer.specs.Reading.{kind_by, kind_of, kind_of_text}
use Rattle.sql_bind.specs.Binding.{binding}
use Rattle.sql_bind.specs.Bound.{BoundStatement}
use Rattle.sql_bind.specs.Faults.{FaultKind}
use Rattle.sql_grammar.specs.Grammar.{StatementS}
use Rattle.sql_grammar.specs.Trees.{Statement}
use Rattle.sql_reader.specs.Promise.{Spells, IsRefusedAt}

pub kind_read : (text : List ℕ) (s : Statement) → Spells StatementS text s → kind_of s ≡ kind_of_text text
unfolding kind_of_text
kind_read text s spells = sym (ap kind_by (spelled_is_read text s spells))

pub meaning_read : (tables : List TableDef) (text : List ℕ) (s : Statement) → Spells StatementS text s → sql_binder tables s ≡ meaning sql_binder tables text
unfolding meaning
meaning_read tables text s spells = sym (ap (meant_by sql_binder tables) (spelled_is_read text s spells))

pub kind_refused : (text : List ℕ) (at : ℕ) → IsRefusedAt StatementS text at → OtherText ≡ kind_of_text text
unfolding kind_of_text
kind_refused text at refused = sym (ap kind_by (refused_is_read text at refused))

pub meaning_refused : (tables : List TableDef) (text : List ℕ) (at : ℕ) → IsRefusedAt StatementS text at → Err (error.Syntax at) ≡ meaning sql_binder tables text
unfolding meaning
meaning_refused tables text at refused = sym (ap (meant_by sql_binder tables) (refused_is_read text at refused))

pub bound_means : (tables : List TableDef) (s : Statement) (b : BoundStatement) → binding tables s ≡ Ok b → Ok b ≡ sql_binder tables s
bound_means tables s b binds = sym (ap meant_as binds)

pub fault_means : (tables : List TableDef) (s : Statement) (kind : FaultKind) → binding tables s ≡ Err kind → Err (cause_of kind) ≡ sql_binder tables s
fault_means tables s kind fails = sym (ap meant_as fails)
