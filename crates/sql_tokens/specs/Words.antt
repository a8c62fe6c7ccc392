-- Words: a letter or `_`, then letters, digits and `_`, as many as there are. Letters are folded to lower case. A word
-- that spells a keyword is that keyword; any other is a name. An `x` directly before a quote is no word: it begins a blob.
use Rattle.std.specs.Prelude.{◌≡◌, ℕ, true, false, List, ◌++◌, map, codes}
use Rattle.std.specs.Char.{to_ascii_lowercase}
use Rattle.sql_tokens.specs.Letters.{is_word_start, is_word_byte, next_is, Each, begins_blob}
use Rattle.sql_tokens.specs.declared.kinds.Keyword.{Keyword}
use Rattle.sql_tokens.specs.declared.kinds.Keyword.TheVariants.{All, And, As, Asc, Begin, Blob, By, Commit, Count, Create, Delete, Desc, From, Group, Insert, Int, Integer, Into, Is, Key, Limit, Lost, Max, Min, NoMajority, Not, Null, Or, Order, Pk, Primary, Rollback, Select, Selectv, Serializable, Set, Snapshot, Sum, Table, Text, TooOld, Transaction, Unique, Update, Values, Where}

-- w is a whole word, where rest stands behind it
pub record IsWord (w rest : List ℕ) : Type 0 where
  pub begins : next_is is_word_start w ≡ true
  pub each : Each is_word_byte w
  pub ends : next_is is_word_byte rest ≡ false
  pub no_blob : begins_blob (w ++ rest) ≡ false

-- the letters in lower case
abbrev pub folded : List ℕ → List ℕ
folded w = map to_ascii_lowercase w

-- how a keyword is spelled, in lower case
abbrev pub spelling : Keyword → List ℕ
spelling All = codes "all"
spelling And = codes "and"
spelling As = codes "as"
spelling Asc = codes "asc"
spelling Begin = codes "begin"
spelling Blob = codes "blob"
spelling By = codes "by"
spelling Commit = codes "commit"
spelling Count = codes "count"
spelling Create = codes "create"
spelling Delete = codes "delete"
spelling Desc = codes "desc"
spelling From = codes "from"
spelling Group = codes "group"
spelling Insert = codes "insert"
spelling Int = codes "int"
spelling Integer = codes "integer"
spelling Into = codes "into"
spelling Is = codes "is"
spelling Key = codes "key"
spelling Limit = codes "limit"
spelling Lost = codes "lost"
spelling Max = codes "max"
spelling Min = codes "min"
spelling NoMajority = codes "nomajority"
spelling Not = codes "not"
spelling Null = codes "null"
spelling Or = codes "or"
spelling Order = codes "order"
spelling Pk = codes "pk"
spelling Primary = codes "primary"
spelling Rollback = codes "rollback"
spelling Select = codes "select"
spelling Selectv = codes "selectv"
spelling Serializable = codes "serializable"
spelling Set = codes "set"
spelling Snapshot = codes "snapshot"
spelling Sum = codes "sum"
spelling Table = codes "table"
spelling Text = codes "text"
spelling TooOld = codes "tooold"
spelling Transaction = codes "transaction"
spelling Unique = codes "unique"
spelling Update = codes "update"
spelling Values = codes "values"
spelling Where = codes "where"
