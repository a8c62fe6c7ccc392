-- The worked example and three refusals, computed by the definitions.
use Rattle.std.proofs.Common.{◌≡◌, [], ◌∷◌, true, false, Ok, Err, codes, refl}
use Rattle.cdb_values.specs.declared.tables.ColumnType.TheVariants as types
use Rattle.grammar_forms.specs.Forms.{many}
use Rattle.sql_tokens.specs.Reading.{next, word_found, keyword_of, sign_found}
use Rattle.sql_grammar.specs.Words.{keyword, sign_is}
use Rattle.sql_grammar.specs.Readers.{create_r, table_r, part_r, mark_r, type_r, uniqueness_r, names_r, name_r, is_name, begins_mark}
use Rattle.table_read.specs.Reading.{definition_of}
use Rattle.table_read.specs.Tables.{table_said}
use Rattle.table_read.specs.Verdict.{table_of, Unlawful, Limit}

pub is_read : table_of [] (codes "create table t (id int primary key, v text, key by_v (v))") ≡ Ok (record {
  name = codes "t";
  columns = record { name = codes "id"; kind = types.Integer; nullable = false } ∷ record { name = codes "v"; kind = types.Text; nullable = true } ∷ [];
  keys = record { name = codes "pk"; columns = 0 ∷ []; unique = true } ∷ record { name = codes "by_v"; columns = 1 ∷ []; unique = false } ∷ [];
})
unfolding table_of definition_of table_said create_r table_r part_r mark_r type_r uniqueness_r names_r name_r is_name begins_mark keyword sign_is many next word_found keyword_of sign_found
is_read = refl

pub two_primary_keys : table_of [] (codes "create table t (a int primary key, primary key (a))") ≡ Err Unlawful
unfolding table_of definition_of table_said create_r table_r part_r mark_r type_r names_r name_r is_name begins_mark keyword sign_is many next word_found keyword_of sign_found
two_primary_keys = refl

pub a_mark_twice : table_of [] (codes "create table t (a int not null unique unique)") ≡ Err Unlawful
unfolding table_of definition_of table_said create_r table_r part_r mark_r type_r name_r is_name begins_mark keyword sign_is many next word_found keyword_of sign_found
a_mark_twice = refl

pub nine_columns_of_a_key : table_of [] (codes "create table t (a int, key k (a,a,a,a,a,a,a,a,a))") ≡ Err Limit
unfolding table_of definition_of table_said create_r table_r part_r type_r uniqueness_r names_r name_r is_name begins_mark keyword sign_is many next word_found keyword_of sign_found
nine_columns_of_a_key = refl
