-- The readers of INSERT, UPDATE, DELETE and SET TRANSACTION are exact.
use Rattle.std.proofs.Common.{ℕ, true, false, List, [], ◌∷◌, refl}
use Rattle.grammar_forms.specs.Laws.{Exact}
use Rattle.grammar_forms.proofs.Sequence.{exact_both}
use Rattle.grammar_forms.proofs.Choice.{exact_either, widen}
use Rattle.grammar_forms.proofs.Repeat.{exact_many}
use Rattle.grammar_forms.proofs.Usual.{exact_optional}
use Rattle.sql_tokens.specs.declared.kinds.Keyword.TheVariants as words
use Rattle.sql_tokens.specs.declared.kinds.Sign.TheVariants as sign
use Rattle.sql_grammar.specs.Trees.{DeleteFrom, SnapshotIt, SerializableIt}
use Rattle.sql_grammar.specs.Words.{kind, code, keyword, sign_code, sign_is, a_name}
use Rattle.sql_grammar.specs.Grammar.{ChangeS, change, SettingS, setting, pair, TupleS, InsertS, insert_into, UpdateS, update_of, DeleteS, LevelS}
use Rattle.sql_grammar.specs.Readers.{begins_step, change_r, setting_r, tuple_r, insert_r, update_r, delete_r, level_r}
use Rattle.sql_grammar.proofs.OperandLaws.{steps, step_test, exact_name, exact_names, exact_literal, exact_operand, exact_word_as, exact_sign_as, exact_listed, exact_enclosed, after_word, before_sign}
use Rattle.sql_grammar.proofs.ConditionLaws.{exact_where, dot}

pub exact_change : Exact kind ChangeS change_r false steps dot
unfolding ChangeS change_r keyword sign_is
exact_change = exact_both kind change _ _ _ _ (exact_either kind _ _ _ _ _ (exact_sign_as sign.Plus false refl) (exact_sign_as sign.Minus true refl) (λ t. refl) refl) exact_operand refl

pub exact_setting : Exact kind SettingS setting_r false (a_name ∷ []) (sign_code sign.Dot ∷ steps)
unfolding SettingS setting_r keyword sign_is
exact_setting = widen kind
    (exact_both kind setting _ _ _ _ (before_sign sign.Equal refl exact_name refl)
    (exact_both kind pair _ _ _ _ exact_operand (exact_many kind begins_step _ _ exact_change step_test refl) refl) refl)
    refl refl

pub exact_tuple : Exact kind TupleS tuple_r false (sign_code sign.Open ∷ []) []
unfolding TupleS tuple_r keyword sign_is
exact_tuple = exact_enclosed (exact_listed exact_literal refl) refl

pub exact_insert : Exact kind InsertS insert_r false (code words.Insert ∷ []) (sign_code sign.Comma ∷ [])
unfolding InsertS insert_r keyword sign_is
exact_insert = after_word words.Insert refl (after_word words.Into refl
    (exact_both kind insert_into _ _ _ _ exact_name
    (exact_both kind pair _ _ _ _ (exact_optional kind exact_names) (after_word words.Values refl (exact_listed exact_tuple refl)) refl) refl))

-- what may carry on a statement with a condition at its end
abbrev pub after_where : List ℕ
after_where = code words.Or ∷ code words.And ∷ sign_code sign.Dot ∷ code words.Where ∷ []

abbrev pub after_settings : List ℕ
after_settings = sign_code sign.Comma ∷ sign_code sign.Plus ∷ sign_code sign.Minus ∷ after_where

pub exact_update : Exact kind UpdateS update_r false (code words.Update ∷ []) after_settings
unfolding UpdateS update_r keyword sign_is
exact_update = widen kind
    (after_word words.Update refl
    (exact_both kind update_of _ _ _ _ exact_name
    (after_word words.Set refl (exact_both kind pair _ _ _ _ (exact_listed exact_setting refl) exact_where refl)) refl))
    refl refl

pub exact_delete : Exact kind DeleteS delete_r false (code words.Delete ∷ []) after_where
unfolding DeleteS delete_r keyword sign_is
exact_delete = widen kind (after_word words.Delete refl (after_word words.From refl (exact_both kind DeleteFrom _ _ _ _ exact_name exact_where refl))) refl refl

pub exact_level : Exact kind LevelS level_r false (code words.Set ∷ []) []
unfolding LevelS level_r keyword sign_is
exact_level = after_word words.Set refl (after_word words.Transaction refl
    (exact_either kind _ _ _ _ _ (exact_word_as words.Snapshot SnapshotIt refl) (exact_word_as words.Serializable SerializableIt refl) (λ t. refl) refl))
