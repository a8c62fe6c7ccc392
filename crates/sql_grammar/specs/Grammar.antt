-- The grammar of SQL: which tokens spell which statement, line for line.
--
--   statement  = one [";"]
--   one        = "begin" | "commit" | "rollback" | set | insert | update | delete | select
--   set        = "set" "transaction" ("snapshot" | "serializable")
--   insert     = "insert" "into" name [names] "values" tuple {"," tuple}
--   update     = "update" name "set" setting {"," setting} [where]
--   delete     = "delete" "from" name [where]
--   select     = ("select" | "selectv") ("*" | item {"," item}) from [where] [group] [order] [limit]
--   from       = "from" source ["," source] ["," source]
--   group      = "group" "by" column {"," column}
--   order      = "order" "by" key {"," key}
--   limit      = "limit" number                          below 2 ^ 63
--   names      = "(" name {"," name} ")"
--   tuple      = "(" literal {"," literal} ")"
--   setting    = name "=" operand {("+" | "-") operand}
--   source     = name ["as" name | name]
--   item       = "sum" argument | "min" argument | "max" argument | "count" "(" "*" ")" | column
--   argument   = "(" column ")"
--   key        = item ["asc" | "desc"]
--   where      = "where" or                              with 100 levels to open
--   or         = and {"or" and}
--   and        = not {"and" not}
--   not        = "not" not | "(" or ")" | comparison     each of the first two opens a level
--   comparison = operand ("is" ["not"] "null" | sign operand)
--   operand    = literal | column
--   literal    = "-" number | number | text | blob | "null"   up to 2 ^ 63 behind the minus, else below it
--   column     = name ["." name]
--   create     = "create" "table" name "(" part {"," part} ")" [";"]
--   part       = "primary" "key" names | ("unique" | "key") name names | name type {mark}
--   type       = "integer" | "int" | "text" | "blob"
--   mark       = "not" "null" | "primary" "key" | "unique"
use Rattle.std.specs.Prelude.{ℕ, zero, suc, Bool, true, false, List, [], ◌∷◌, Option, Some, None}
use Rattle.grammar_forms.specs.Forms.{Spelling, One, Nothing, Both, Either, As, Many}
use Rattle.grammar_forms.specs.Parts.{Word, After, Before, Optional, Separated, UpTo, first_of_two, list_of}
use Rattle.sql_tokens.specs.declared.kinds.Keyword.{Keyword}
use Rattle.sql_tokens.specs.declared.kinds.Keyword.TheVariants as word
use Rattle.sql_tokens.specs.declared.kinds.Sign.{Sign}
use Rattle.sql_tokens.specs.declared.kinds.Sign.TheVariants as sign
use Rattle.sql_tokens.specs.declared.kinds.Token.{Token}
use Rattle.sql_grammar.specs.declared.types.Comparison.{Comparison}
use Rattle.sql_grammar.specs.declared.types.Comparison.TheVariants as comparison
use Rattle.sql_grammar.specs.declared.types.Kind.{Kind}
use Rattle.sql_grammar.specs.declared.types.Kind.TheVariants as kinds
use Rattle.sql_grammar.specs.declared.types.Mark.{Mark}
use Rattle.sql_grammar.specs.declared.types.Mark.TheVariants as mark
use Rattle.sql_grammar.specs.Trees.{Name, Constant, NullValue, Column, Side, OfLiteral, OfColumn, Cond, Conds, AnyOf, AllOf, NotOf, Grouped, Compares, TestsNull, no_cond, conds, Item, OfItem, CountAll, SumOf, MinOf, MaxOf, Key, Source, Change, Setting, Query, Statement, BeginIt, CommitIt, RollbackIt, SnapshotIt, SerializableIt, InsertInto, UpdateOf, DeleteFrom, SelectOf, Part, ColumnPart, PrimaryPart, KeyPart, Definition}
use Rattle.sql_grammar.specs.Words.{keyword, sign_is, name_of, constant_of, negated, limit_of}

abbrev pub pair : {A B : Type 0} → A → B → A × B
pair x y = (x, y)

unfoldable pub NameS : Spelling Token Name
NameS = One name_of

-- in parentheses
abbrev pub Enclosed : {A : Type 0} → Spelling Token A → Spelling Token A
Enclosed S = After (sign_is sign.Open) (Before (sign_is sign.Close) S)

abbrev pub Listed : {A : Type 0} → Spelling Token A → Spelling Token (List A)
Listed S = Separated (sign_is sign.Comma) S

unfoldable pub NamesS : Spelling Token (List Name)
NamesS = Enclosed (Listed NameS)

-- a word or a sign that means this
abbrev pub WordAs : {A : Type 0} → Keyword → A → Spelling Token A
WordAs k x = As (λ _. x) (Word (keyword k))

abbrev pub SignAs : {A : Type 0} → Sign → A → Spelling Token A
SignAs s x = As (λ _. x) (Word (sign_is s))

unfoldable pub LiteralS : Spelling Token Constant
LiteralS = Either (After (sign_is sign.Minus) (One negated)) (Either (WordAs word.Null NullValue) (One constant_of))

abbrev pub column_of : Name → Option Name → Column
column_of n None = record { qualifier = None; name = n }
column_of q (Some n) = record { qualifier = Some q; name = n }

unfoldable pub ColumnS : Spelling Token Column
ColumnS = Both column_of NameS (Optional (After (sign_is sign.Dot) NameS))

unfoldable pub OperandS : Spelling Token Side
OperandS = Either (As OfLiteral LiteralS) (As OfColumn ColumnS)

-- what stands behind the operand of a comparison
pub data Tested : Type 0 where
  IsNullTest : Bool → Tested
  CompareTest : Comparison → Side → Tested

abbrev pub tested : Side → Tested → Cond
tested x (IsNullTest negated) = TestsNull x negated
tested x (CompareTest op y) = Compares op x y

unfoldable pub SignS : Spelling Token Comparison
SignS = Either (SignAs sign.Equal comparison.Eq) (Either (SignAs sign.NotEqual comparison.Ne)
    (Either (SignAs sign.Less comparison.Lt) (Either (SignAs sign.LessEqual comparison.Le)
    (Either (SignAs sign.Greater comparison.Gt) (SignAs sign.GreaterEqual comparison.Ge)))))

-- whether `not` stands here
unfoldable pub NegationS : Spelling Token Bool
NegationS = Either (WordAs word.Not true) (Nothing false)

unfoldable pub TestS : Spelling Token Tested
TestS = Either
    (As IsNullTest (After (keyword word.Is) (Before (keyword word.Null) NegationS)))
    (Both CompareTest SignS OperandS)

unfoldable pub ComparisonS : Spelling Token Cond
ComparisonS = Both tested OperandS TestS

-- one part stands as itself
abbrev pub joined : (Conds → Cond) → List Cond → Cond
joined f [] = f no_cond
joined f (c ∷ []) = c
joined f (c ∷ d ∷ cs) = f (conds (c ∷ d ∷ cs))

abbrev pub AndS : Spelling Token Cond → Spelling Token Cond
AndS N = As (joined AllOf) (Separated (keyword word.And) N)

abbrev pub OrS : Spelling Token Cond → Spelling Token Cond
OrS N = As (joined AnyOf) (Separated (keyword word.Or) (AndS N))

-- with so many levels to open
unfoldable pub NotS : ℕ → Spelling Token Cond
NotS zero = ComparisonS
NotS (suc levels) = Either
    (After (keyword word.Not) (As NotOf (NotS levels)))
    (Either (As Grouped (Enclosed (OrS (NotS levels)))) ComparisonS)

unfoldable pub ConditionS : ℕ → Spelling Token Cond
ConditionS levels = OrS (NotS levels)

unfoldable pub WhereS : Spelling Token (Option Cond)
WhereS = Optional (After (keyword word.Where) (ConditionS 100))

abbrev pub change : Bool → Side → Change
change m x = record { minus = m; side = x }

unfoldable pub ChangeS : Spelling Token Change
ChangeS = Both change (Either (SignAs sign.Plus false) (SignAs sign.Minus true)) OperandS

abbrev pub setting : Name → Side × List Change → Setting
setting n p = record { column = n; first = p.0; rest = p.1 }

unfoldable pub SettingS : Spelling Token Setting
SettingS = Both setting (Before (sign_is sign.Equal) NameS) (Both pair OperandS (Many ChangeS))

unfoldable pub TupleS : Spelling Token (List Constant)
TupleS = Enclosed (Listed LiteralS)

abbrev pub insert_into : Name → Option (List Name) × List (List Constant) → Statement
insert_into n p = InsertInto n p.0 p.1

unfoldable pub InsertS : Spelling Token Statement
InsertS = After (keyword word.Insert) (After (keyword word.Into)
    (Both insert_into NameS (Both pair (Optional NamesS) (After (keyword word.Values) (Listed TupleS)))))

abbrev pub update_of : Name → List Setting × Option Cond → Statement
update_of n p = UpdateOf n p.0 p.1

unfoldable pub UpdateS : Spelling Token Statement
UpdateS = After (keyword word.Update)
    (Both update_of NameS (After (keyword word.Set) (Both pair (Listed SettingS) WhereS)))

unfoldable pub DeleteS : Spelling Token Statement
DeleteS = After (keyword word.Delete) (After (keyword word.From) (Both DeleteFrom NameS WhereS))

abbrev pub source : Name → Option Name → Source
source n a = record { table = n; alias = a }

unfoldable pub SourceS : Spelling Token Source
SourceS = Both source NameS (Either (As Some (After (keyword word.As) NameS)) (Optional NameS))

unfoldable pub FromS : Spelling Token (List Source)
FromS = After (keyword word.From) (Both list_of SourceS (UpTo 2 (After (sign_is sign.Comma) SourceS)))

unfoldable pub ArgumentS : Spelling Token Column
ArgumentS = Enclosed ColumnS

unfoldable pub CountS : Spelling Token Item
CountS = As (λ _. CountAll) (After (keyword word.Count) (Enclosed (Word (sign_is sign.Star))))

unfoldable pub ItemS : Spelling Token Item
ItemS = Either (As SumOf (After (keyword word.Sum) ArgumentS))
    (Either (As MinOf (After (keyword word.Min) ArgumentS))
    (Either (As MaxOf (After (keyword word.Max) ArgumentS))
    (Either CountS (As OfItem ColumnS))))

unfoldable pub ItemsS : Spelling Token (Option (List Item))
ItemsS = Either (As (λ _. None) (Word (sign_is sign.Star))) (As Some (Listed ItemS))

abbrev pub key : Item → Bool → Key
key x d = record { item = x; descending = d }

-- whether a key descends
unfoldable pub DirectionS : Spelling Token Bool
DirectionS = Either (WordAs word.Desc true) (Either (WordAs word.Asc false) (Nothing false))

unfoldable pub KeyS : Spelling Token Key
KeyS = Both key ItemS DirectionS

unfoldable pub GroupS : Spelling Token (List Column)
GroupS = Either (After (keyword word.Group) (After (keyword word.By) (Listed ColumnS))) (Nothing [])

unfoldable pub OrderS : Spelling Token (List Key)
OrderS = Either (After (keyword word.Order) (After (keyword word.By) (Listed KeyS))) (Nothing [])

unfoldable pub LimitS : Spelling Token (Option ℕ)
LimitS = Optional (After (keyword word.Limit) (One limit_of))

-- what stands behind FROM
pub record Tail : Type 0 where
  pub filter : Option Cond
  pub group : List Column
  pub order : List Key
  pub limit : Option ℕ

abbrev pub tail : Option Cond → List Column × (List Key × Option ℕ) → Tail
tail f p = record { filter = f; group = p.0; order = p.1.0; limit = p.1.1 }

unfoldable pub TailS : Spelling Token Tail
TailS = Both tail WhereS (Both pair GroupS (Both pair OrderS LimitS))

abbrev pub query : Bool → Option (List Item) × (List Source × Tail) → Query
query v p = record { selectv = v; items = p.0; tables = p.1.0; filter = p.1.1.filter; group = p.1.1.group; order = p.1.1.order; limit = p.1.1.limit }

unfoldable pub QueryS : Spelling Token Query
QueryS = Both query (Either (WordAs word.Selectv true) (WordAs word.Select false)) (Both pair ItemsS (Both pair FromS TailS))

unfoldable pub LevelS : Spelling Token Statement
LevelS = After (keyword word.Set) (After (keyword word.Transaction) (Either (WordAs word.Snapshot SnapshotIt) (WordAs word.Serializable SerializableIt)))

unfoldable pub OneS : Spelling Token Statement
OneS = Either LevelS (Either InsertS (Either UpdateS (Either DeleteS
    (Either (WordAs word.Begin BeginIt) (Either (WordAs word.Commit CommitIt) (Either (WordAs word.Rollback RollbackIt) (As SelectOf QueryS)))))))

-- a closing sign that may be left out
abbrev pub Closed : {A : Type 0} → Spelling Token A → Spelling Token A
Closed S = Both first_of_two S (Optional (Word (sign_is sign.Semicolon)))

unfoldable pub StatementS : Spelling Token Statement
StatementS = Closed OneS

unfoldable pub MarkS : Spelling Token Mark
MarkS = Either (As (λ _. mark.NotNull) (After (keyword word.Not) (Word (keyword word.Null))))
    (Either (As (λ _. mark.PrimaryKey) (After (keyword word.Primary) (Word (keyword word.Key))))
    (WordAs word.Unique mark.Unique))

abbrev pub column_part : Name → Kind × List Mark → Part
column_part n p = ColumnPart n p.0 p.1

abbrev pub key_part : Bool → Name × List Name → Part
key_part u p = KeyPart u p.0 p.1

unfoldable pub TypeS : Spelling Token Kind
TypeS = Either (WordAs word.Integer kinds.Integer) (Either (WordAs word.Int kinds.Integer) (Either (WordAs word.Text kinds.Text) (WordAs word.Blob kinds.Blob)))

unfoldable pub PartS : Spelling Token Part
PartS = Either (As PrimaryPart (After (keyword word.Primary) (After (keyword word.Key) NamesS)))
    (Either (Both column_part NameS (Both pair TypeS (Many MarkS)))
    (Both key_part (Either (WordAs word.Unique true) (WordAs word.Key false)) (Both pair NameS NamesS)))

abbrev pub definition : Name → List Part → Definition
definition n ps = record { name = n; parts = ps }

unfoldable pub CreateS : Spelling Token Definition
CreateS = Closed (After (keyword word.Create) (After (keyword word.Table) (Both definition NameS (Enclosed (Listed PartS)))))
