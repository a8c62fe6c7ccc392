-- The readers of statements and of table definitions are exact.
use Rattle.std.proofs.Common.{◌≡◌, ℕ, true, false, List, [], ◌∷◌, ◌++◌, refl}
use Rattle.grammar_forms.specs.Forms.{Spelling, Reader}
use Rattle.grammar_forms.specs.Kinds.{apart}
use Rattle.grammar_forms.specs.Laws.{Exact}
use Rattle.grammar_forms.proofs.Sequence.{exact_as, exact_both}
use Rattle.grammar_forms.proofs.Choice.{exact_either, widen}
use Rattle.grammar_forms.proofs.Repeat.{exact_many}
use Rattle.grammar_forms.proofs.Usual.{exact_optional}
use Rattle.sql_tokens.specs.declared.kinds.Keyword.TheVariants as words
use Rattle.sql_tokens.specs.declared.kinds.Sign.TheVariants as sign
use Rattle.sql_tokens.specs.declared.kinds.Token.{Token}
use Rattle.sql_grammar.specs.declared.types.Kind.TheVariants as kinds
use Rattle.sql_grammar.specs.declared.types.Mark.TheVariants as mark
use Rattle.sql_grammar.specs.Trees.{BeginIt, CommitIt, RollbackIt, SelectOf, PrimaryPart}
use Rattle.sql_grammar.specs.Words.{kind, code, keyword, sign_code, sign_is, a_name}
use Rattle.sql_grammar.specs.Grammar.{pair, OneS, Closed, StatementS, MarkS, TypeS, PartS, column_part, key_part, definition, CreateS}
use Rattle.sql_grammar.specs.Readers.{begins_mark, simple_r, one_r, closed, statement_r, mark_r, type_r, uniqueness_r, part_r, table_r, create_r}
use Rattle.sql_grammar.proofs.OperandLaws.{marks, mark_test, name_test, exact_name, exact_names, exact_word_as, exact_listed, exact_enclosed, after_word, the_word, the_sign}
use Rattle.sql_grammar.proofs.ChangeLaws.{exact_level, exact_insert, exact_update, exact_delete}
use Rattle.sql_grammar.proofs.QueryLaws.{exact_query, after_query}

abbrev one_begins : List ℕ
one_begins = code words.Set ∷ code words.Insert ∷ code words.Update ∷ code words.Delete ∷ code words.Select ∷ code words.Selectv ∷ code words.Begin ∷ code words.Commit ∷ code words.Rollback ∷ []

abbrev after_one : List ℕ
after_one = sign_code sign.Plus ∷ sign_code sign.Minus ∷ after_query

pub exact_statement_part : Exact kind OneS one_r false one_begins after_one
unfolding OneS one_r simple_r keyword sign_is
exact_statement_part = widen kind
    (exact_either kind _ _ _ _ _ exact_level
    (exact_either kind _ _ _ _ _ exact_insert
    (exact_either kind _ _ _ _ _ exact_update
    (exact_either kind _ _ _ _ _ exact_delete
    (exact_either kind _ _ _ _ _ (exact_word_as words.Begin BeginIt refl)
    (exact_either kind _ _ _ _ _ (exact_word_as words.Commit CommitIt refl)
    (exact_either kind _ _ _ _ _ (exact_word_as words.Rollback RollbackIt refl) (exact_as kind SelectOf _ _ exact_query) (λ t. refl) refl)
    (λ t. refl) refl)
    (λ t. refl) refl)
    (λ t. refl) refl)
    (λ t. refl) refl)
    (λ t. refl) refl)
    (λ t. refl) refl)
    refl refl

exact_closed : {A : Type 0} {S : Spelling Token A} {r : Reader Token A} {firsts mores : List ℕ} → Exact kind S r false firsts mores → apart mores (sign_code sign.Semicolon ∷ []) ≡ true → Exact kind (Closed S) (closed r) false (firsts ++ []) (sign_code sign.Semicolon ∷ mores)
unfolding sign_is
exact_closed E seam = exact_both kind _ _ _ _ _ E (exact_optional kind (the_sign sign.Semicolon refl)) seam

abbrev after_statement : List ℕ
after_statement = sign_code sign.Semicolon ∷ after_one

pub exact_statement : Exact kind StatementS statement_r false one_begins after_statement
unfolding StatementS statement_r keyword sign_is
exact_statement = exact_closed exact_statement_part refl

pub exact_mark : Exact kind MarkS mark_r false marks []
unfolding MarkS mark_r keyword sign_is
exact_mark = exact_either kind _ _ _ _ _ (exact_as kind (λ _. mark.NotNull) _ _ (after_word words.Not refl (the_word words.Null refl)))
    (exact_either kind _ _ _ _ _ (exact_as kind (λ _. mark.PrimaryKey) _ _ (after_word words.Primary refl (the_word words.Key refl)))
    (exact_word_as words.Unique mark.Unique refl) (λ t. refl) refl)
    (λ t. refl) refl

abbrev types : List ℕ
types = code words.Integer ∷ code words.Int ∷ code words.Text ∷ code words.Blob ∷ []

exact_type : Exact kind TypeS type_r false types []
unfolding TypeS type_r keyword sign_is
exact_type = exact_either kind _ _ _ _ _ (exact_word_as words.Integer kinds.Integer refl)
    (exact_either kind _ _ _ _ _ (exact_word_as words.Int kinds.Integer refl)
    (exact_either kind _ _ _ _ _ (exact_word_as words.Text kinds.Text refl) (exact_word_as words.Blob kinds.Blob refl) (λ t. refl) refl)
    (λ t. refl) refl)
    (λ t. refl) refl

abbrev pub part_begins : List ℕ
part_begins = code words.Primary ∷ a_name ∷ code words.Unique ∷ code words.Key ∷ []

pub exact_part : Exact kind PartS part_r false part_begins marks
unfolding PartS part_r uniqueness_r keyword sign_is
exact_part = widen kind
    (exact_either kind _ _ _ _ _ (exact_as kind PrimaryPart _ _ (after_word words.Primary refl (after_word words.Key refl exact_names)))
    (exact_either kind _ _ _ _ _
    (exact_both kind column_part _ _ _ _ exact_name
    (exact_both kind pair _ _ _ _ exact_type (exact_many kind begins_mark _ _ exact_mark mark_test refl) refl) refl)
    (exact_both kind key_part _ _ _ _ (exact_either kind _ _ _ _ _ (exact_word_as words.Unique true refl) (exact_word_as words.Key false refl) (λ t. refl) refl)
    (exact_both kind pair _ _ _ _ exact_name exact_names refl) refl)
    name_test refl)
    (λ t. refl) refl)
    refl refl

pub exact_create : Exact kind CreateS create_r false (code words.Create ∷ []) (sign_code sign.Semicolon ∷ [])
unfolding CreateS create_r table_r keyword sign_is
exact_create = exact_closed
    (after_word words.Create refl (after_word words.Table refl (exact_both kind definition _ _ _ _ exact_name (exact_enclosed (exact_listed exact_part refl) refl) refl)))
    refl
