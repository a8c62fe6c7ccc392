-- The reader of each rule of the grammar, in the words of the grammar. What a reader takes by the next token alone is
-- written as a test, the first argument of `either`, `optional`, `many` and `up_to`.
use Rattle.std.specs.Prelude.{ℕ, zero, suc, ◌^◌, Bool, true, false, cond, nat_le, nat_lt, length, List, [], Option, Some, None}
use Rattle.grammar_forms.specs.Forms.{Reader, Read, only, one, nothing, both, either, as_of, many}
use Rattle.grammar_forms.specs.Parts.{word, after, before, optional, separated, up_to, first_of_two, list_of}
use Rattle.sql_tokens.specs.declared.kinds.Keyword.{Keyword}
use Rattle.sql_tokens.specs.declared.kinds.Keyword.TheVariants as words
use Rattle.sql_tokens.specs.declared.kinds.Sign.{Sign}
use Rattle.sql_tokens.specs.declared.kinds.Sign.TheVariants as sign
use Rattle.sql_tokens.specs.declared.kinds.Token.{Token}
use Rattle.sql_tokens.specs.declared.kinds.Token.TheVariants as token
use Rattle.sql_grammar.specs.declared.types.Comparison.{Comparison}
use Rattle.sql_grammar.specs.declared.types.Comparison.TheVariants as comparison
use Rattle.sql_grammar.specs.declared.types.Kind.{Kind}
use Rattle.sql_grammar.specs.declared.types.Kind.TheVariants as kinds
use Rattle.sql_grammar.specs.declared.types.Mark.{Mark}
use Rattle.sql_grammar.specs.declared.types.Mark.TheVariants as mark
use Rattle.sql_grammar.specs.Trees.{Name, Constant, NullValue, Column, Side, OfLiteral, OfColumn, Cond, AnyOf, AllOf, NotOf, Grouped, Item, OfItem, CountAll, SumOf, MinOf, MaxOf, Key, Source, Change, Setting, Query, Statement, BeginIt, CommitIt, RollbackIt, SnapshotIt, SerializableIt, DeleteFrom, SelectOf, Part, PrimaryPart, Definition}
use Rattle.sql_grammar.specs.Words.{keyword, sign_is, name_of, constant_of, negated, limit_of}
use Rattle.sql_grammar.specs.Grammar.{pair, column_of, Tested, IsNullTest, CompareTest, tested, joined, change, setting, insert_into, update_of, source, key, Tail, tail, query, column_part, key_part, definition}

-- Whether a name, a literal, a step of SET or a mark of a column begins with this token.
unfoldable pub is_name : Token → Bool
is_name (token.Name n) = nat_le (length n) 32
is_name _ = false

unfoldable pub begins_literal : Token → Bool
begins_literal (token.Number n) = nat_lt n (2 ^ 63)
begins_literal (token.Text t) = true
begins_literal (token.Blob b) = true
begins_literal t = cond (sign_is sign.Minus t) true (keyword words.Null t)

unfoldable pub begins_step : Token → Bool
begins_step t = cond (sign_is sign.Plus t) true (sign_is sign.Minus t)

unfoldable pub begins_mark : Token → Bool
begins_mark t = cond (keyword words.Not t) true (cond (keyword words.Primary t) true (keyword words.Unique t))

unfoldable pub name_r : Reader Token Name
name_r = one name_of

abbrev pub enclosed : {A : Type 0} → Reader Token A → Reader Token A
enclosed r = after (sign_is sign.Open) (before (sign_is sign.Close) r)

abbrev pub listed : {A : Type 0} → Reader Token A → Reader Token (List A)
listed r = separated (sign_is sign.Comma) r

unfoldable pub names_r : Reader Token (List Name)
names_r = enclosed (listed name_r)

abbrev pub word_as : {A : Type 0} → Keyword → A → Reader Token A
word_as k x = as_of (λ _. x) (word (keyword k))

abbrev pub sign_as : {A : Type 0} → Sign → A → Reader Token A
sign_as s x = as_of (λ _. x) (word (sign_is s))

unfoldable pub literal_r : Reader Token Constant
literal_r = either (sign_is sign.Minus) (after (sign_is sign.Minus) (one negated)) (either (keyword words.Null) (word_as words.Null NullValue) (one constant_of))

unfoldable pub column_r : Reader Token Column
column_r = both column_of name_r (optional (sign_is sign.Dot) (after (sign_is sign.Dot) name_r))

unfoldable pub operand_r : Reader Token Side
operand_r = either begins_literal (as_of OfLiteral literal_r) (as_of OfColumn column_r)

unfoldable pub sign_r : Reader Token Comparison
sign_r = either (sign_is sign.Equal) (sign_as sign.Equal comparison.Eq) (either (sign_is sign.NotEqual) (sign_as sign.NotEqual comparison.Ne)
    (either (sign_is sign.Less) (sign_as sign.Less comparison.Lt) (either (sign_is sign.LessEqual) (sign_as sign.LessEqual comparison.Le)
    (either (sign_is sign.Greater) (sign_as sign.Greater comparison.Gt) (sign_as sign.GreaterEqual comparison.Ge)))))

unfoldable pub negation_r : Reader Token Bool
negation_r = either (keyword words.Not) (word_as words.Not true) (nothing false)

unfoldable pub test_r : Reader Token Tested
test_r = either (keyword words.Is)
    (as_of IsNullTest (after (keyword words.Is) (before (keyword words.Null) negation_r)))
    (both CompareTest sign_r operand_r)

unfoldable pub comparison_r : Reader Token Cond
comparison_r = both tested operand_r test_r

abbrev pub and_of : Reader Token Cond → Reader Token Cond
and_of r = as_of (joined AllOf) (separated (keyword words.And) r)

abbrev pub or_of : Reader Token Cond → Reader Token Cond
or_of r = as_of (joined AnyOf) (separated (keyword words.Or) (and_of r))

-- with so many levels to open
unfoldable pub not_r : ℕ → Reader Token Cond
not_r zero = comparison_r
not_r (suc levels) = either (keyword words.Not)
    (after (keyword words.Not) (as_of NotOf (not_r levels)))
    (either (sign_is sign.Open) (as_of Grouped (enclosed (or_of (not_r levels)))) comparison_r)

unfoldable pub and_r : ℕ → Reader Token Cond
and_r levels = and_of (not_r levels)

unfoldable pub condition_r : ℕ → Reader Token Cond
condition_r levels = or_of (not_r levels)

unfoldable pub where_r : Reader Token (Option Cond)
where_r = optional (keyword words.Where) (after (keyword words.Where) (condition_r 100))

unfoldable pub change_r : Reader Token Change
change_r = both change (either (sign_is sign.Plus) (sign_as sign.Plus false) (sign_as sign.Minus true)) operand_r

unfoldable pub setting_r : Reader Token Setting
setting_r = both setting (before (sign_is sign.Equal) name_r) (both pair operand_r (many begins_step change_r))

unfoldable pub tuple_r : Reader Token (List Constant)
tuple_r = enclosed (listed literal_r)

unfoldable pub insert_r : Reader Token Statement
insert_r = after (keyword words.Insert) (after (keyword words.Into)
    (both insert_into name_r (both pair (optional (sign_is sign.Open) names_r) (after (keyword words.Values) (listed tuple_r)))))

unfoldable pub update_r : Reader Token Statement
update_r = after (keyword words.Update)
    (both update_of name_r (after (keyword words.Set) (both pair (listed setting_r) where_r)))

unfoldable pub delete_r : Reader Token Statement
delete_r = after (keyword words.Delete) (after (keyword words.From) (both DeleteFrom name_r where_r))

-- the alias of a table, if there is one
abbrev pub alias_r : Reader Token (Option Name)
alias_r = either (keyword words.As) (as_of Some (after (keyword words.As) name_r)) (optional is_name name_r)

unfoldable pub source_r : Reader Token Source
source_r = both source name_r alias_r

unfoldable pub from_r : Reader Token (List Source)
from_r = after (keyword words.From) (both list_of source_r (up_to 2 (sign_is sign.Comma) (after (sign_is sign.Comma) source_r)))

unfoldable pub argument_r : Reader Token Column
argument_r = enclosed column_r

unfoldable pub count_r : Reader Token Item
count_r = as_of (λ _. CountAll) (after (keyword words.Count) (enclosed (word (sign_is sign.Star))))

unfoldable pub item_r : Reader Token Item
item_r = either (keyword words.Sum) (as_of SumOf (after (keyword words.Sum) argument_r))
    (either (keyword words.Min) (as_of MinOf (after (keyword words.Min) argument_r))
    (either (keyword words.Max) (as_of MaxOf (after (keyword words.Max) argument_r))
    (either (keyword words.Count) count_r (as_of OfItem column_r))))

unfoldable pub items_r : Reader Token (Option (List Item))
items_r = either (sign_is sign.Star) (as_of (λ _. None) (word (sign_is sign.Star))) (as_of Some (listed item_r))

unfoldable pub direction_r : Reader Token Bool
direction_r = either (keyword words.Desc) (word_as words.Desc true) (either (keyword words.Asc) (word_as words.Asc false) (nothing false))

unfoldable pub key_r : Reader Token Key
key_r = both key item_r direction_r

unfoldable pub group_r : Reader Token (List Column)
group_r = either (keyword words.Group) (after (keyword words.Group) (after (keyword words.By) (listed column_r))) (nothing [])

unfoldable pub order_r : Reader Token (List Key)
order_r = either (keyword words.Order) (after (keyword words.Order) (after (keyword words.By) (listed key_r))) (nothing [])

unfoldable pub limit_r : Reader Token (Option ℕ)
limit_r = optional (keyword words.Limit) (after (keyword words.Limit) (one limit_of))

unfoldable pub tail_r : Reader Token Tail
tail_r = both tail where_r (both pair group_r (both pair order_r limit_r))

abbrev pub verb_r : Reader Token Bool
verb_r = either (keyword words.Selectv) (word_as words.Selectv true) (word_as words.Select false)

unfoldable pub query_r : Reader Token Query
query_r = both query verb_r (both pair items_r (both pair from_r tail_r))

unfoldable pub level_r : Reader Token Statement
level_r = after (keyword words.Set) (after (keyword words.Transaction) (either (keyword words.Snapshot) (word_as words.Snapshot SnapshotIt) (word_as words.Serializable SerializableIt)))

-- a statement of one word, or a query
unfoldable pub simple_r : Reader Token Statement
simple_r = either (keyword words.Begin) (word_as words.Begin BeginIt)
    (either (keyword words.Commit) (word_as words.Commit CommitIt)
    (either (keyword words.Rollback) (word_as words.Rollback RollbackIt) (as_of SelectOf query_r)))

unfoldable pub one_r : Reader Token Statement
one_r = either (keyword words.Set) level_r
    (either (keyword words.Insert) insert_r
    (either (keyword words.Update) update_r
    (either (keyword words.Delete) delete_r
    simple_r)))

-- a closing sign, if there is one
abbrev pub closing : Reader Token (Option (Unit {0}))
closing = optional (sign_is sign.Semicolon) (word (sign_is sign.Semicolon))

abbrev pub done : {A : Type 0} → A → Unit {0}
done x = tt

-- no token more
abbrev pub no_more : Reader Token (Unit {0})
no_more ts = only (Read tt ts)

-- no token more but a closing sign
abbrev pub ended : Reader Token (Unit {0})
ended ts = only (as_of done closing ts)

abbrev pub closed : {A : Type 0} → Reader Token A → Reader Token A
closed r = both first_of_two r closing

unfoldable pub statement_r : Reader Token Statement
statement_r = closed one_r

unfoldable pub mark_r : Reader Token Mark
mark_r = either (keyword words.Not) (as_of (λ _. mark.NotNull) (after (keyword words.Not) (word (keyword words.Null))))
    (either (keyword words.Primary) (as_of (λ _. mark.PrimaryKey) (after (keyword words.Primary) (word (keyword words.Key))))
    (word_as words.Unique mark.Unique))

unfoldable pub type_r : Reader Token Kind
type_r = either (keyword words.Integer) (word_as words.Integer kinds.Integer) (either (keyword words.Int) (word_as words.Int kinds.Integer)
    (either (keyword words.Text) (word_as words.Text kinds.Text) (word_as words.Blob kinds.Blob)))

unfoldable pub uniqueness_r : Reader Token Bool
uniqueness_r = either (keyword words.Unique) (word_as words.Unique true) (word_as words.Key false)

unfoldable pub part_r : Reader Token Part
part_r = either (keyword words.Primary) (as_of PrimaryPart (after (keyword words.Primary) (after (keyword words.Key) names_r)))
    (either is_name (both column_part name_r (both pair type_r (many begins_mark mark_r)))
    (both key_part uniqueness_r (both pair name_r names_r)))

unfoldable pub table_r : Reader Token Definition
table_r = after (keyword words.Create) (after (keyword words.Table) (both definition name_r (enclosed (listed part_r))))

unfoldable pub create_r : Reader Token Definition
create_r = closed table_r
