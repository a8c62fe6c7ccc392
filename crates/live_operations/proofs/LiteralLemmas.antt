-- The integers of a text are of 64 bits: those of the rows of an INSERT, and those that SET begins with.
use Rattle.std.proofs.Common.{◌≡◌, ℕ, zero, suc, ◌≤◌, ◌^◌, List, [], ◌∷◌, map, Bool, true, false, cond, ltb, leb, inl, inr, refl, sym, subst, arith, Option, Some, None, Result, Ok, Err, pos}
use Rattle.std.specs.Prelude.{neg_ℤ, bytes_eq}
use Rattle.std.specs.List.{AllByRecursion}
use Rattle.std.proofs.lemmas.Bool.{ltb-true, leb-true}
use Rattle.std.proofs.lemmas.Option.{same_Some}
use Rattle.cdb_values.specs.declared.tables.ColumnDef.{ColumnDef}
use Rattle.cdb_values.specs.declared.tables.TableDef.{TableDef}
use Rattle.grammar_forms.specs.Forms.{Spelling, One, Both, Either, As, Many}
use Rattle.grammar_forms.specs.Parts.{Word, After, Before, Optional, Separated, first_of_two, second_of_two, list_of}
use Rattle.key_code.specs.Codes.{IsInRange}
use Rattle.sql_answer.proofs.ReadingLemmas.{reading_spells}
use Rattle.sql_answer.specs.Answers.{Meaning}
use Rattle.sql_answer.specs.Language.{sql_binder, meaning, meant_by, meant_as}
use Rattle.sql_answer.specs.Reading.{reading}
use Rattle.sql_bind.specs.Binding.{binding}
use Rattle.sql_bind.specs.Bound.{BoundStatement, BeginIt, CommitIt, RollbackIt, SetIt, InsertInto, UpdateOf, DeleteFrom, SelectOf}
use Rattle.sql_bind.specs.Faults.{FaultKind}
use Rattle.sql_bind.specs.Meaning.{value_of, bound_side, listed_value, bound_row, bound_setting, bound_as}
use Rattle.sql_bind.specs.Scope.{Visible, target}
use Rattle.sql_bind.specs.declared.types.BoundAssign.{BoundAssign}
use Rattle.sql_bind.specs.declared.types.BoundOperand.{BoundOperand}
use Rattle.sql_bind.specs.declared.types.BoundOperand.TheVariants as operand
use Rattle.sql_grammar.specs.Grammar.{pair, setting, insert_into, update_of, LiteralS, OperandS, ChangeS, SettingS, TupleS, InsertS, UpdateS, DeleteS, LevelS, QueryS, OneS, StatementS, WhereS, NameS, NamesS, ColumnS}
use Rattle.sql_grammar.specs.Trees as written
use Rattle.sql_grammar.specs.Trees.{Name, Constant, NullValue, IntValue, TextValue, BlobValue, Side, OfLiteral, OfColumn, Cond, Change, Setting, Statement}
use Rattle.sql_grammar.specs.Words.{constant_of, negated}
use Rattle.sql_reader.specs.Promise.{Spells}
use Rattle.sql_run.proofs.BoundLemmas.{faultless}
use Rattle.sql_tokens.specs.Spot.{token_of}
use Rattle.sql_tokens.specs.declared.kinds.Token.{Token}
use Rattle.sql_tokens.specs.declared.kinds.Token.TheVariants as token
use Rattle.live_operations.specs.Ranged.{IsRanged}

abbrev IsSmall : Constant → Type 0
IsSmall constant = IsInRange (value_of constant)

-- an operand that is such a literal, or a column
abbrev HasSmall : Side → Type 0
HasSmall (OfLiteral constant) = IsSmall constant
HasSmall (OfColumn column) = Unit {0}

abbrev BeginsSmall : Setting → Type 0
BeginsSmall s = HasSmall s.first

abbrev IsSmallStatement : Statement → Type 0
IsSmallStatement (written.InsertInto table names rows) = AllByRecursion (AllByRecursion IsSmall) rows
IsSmallStatement (written.UpdateOf table settings filter) = AllByRecursion BeginsSmall settings
IsSmallStatement _ = Unit {0}

-- ---- what parts of the grammar give

abbrev Gives : {A : Type 0} → Spelling Token A → (A → Type 0) → Type 0
Gives {A} S P = (x : A) (w : List Token) → S x w → P x

any : {A : Type 0} (S : Spelling Token A) → Gives S (λ x. Unit {0})
any S x w is = tt

one_gives : {A : Type 0} (f : Token → Option A) (P : A → Type 0) → ((t : Token) (x : A) → f t ≡ Some x → P x) → Gives (One f) P
one_gives f P each x w (t, means, is) = each t x means

both_gives : {A B C : Type 0} (f : A → B → C) (S : Spelling Token A) (R : Spelling Token B) (P : A → Type 0) (Q : B → Type 0) (T : C → Type 0)
    → Gives S P → Gives R Q → ((x : A) (y : B) → P x → Q y → T (f x y)) → Gives (Both f S R) T
both_gives f S R P Q T first second joins z w (x, y, u, v, is, splits, s, r) = subst T (sym is) (joins x y (first x u s) (second y v r))

either_gives : {A : Type 0} (S R : Spelling Token A) (P : A → Type 0) → Gives S P → Gives R P → Gives (Either S R) P
either_gives S R P first second x w (inl s) = first x w s
either_gives S R P first second x w (inr r) = second x w r

as_gives : {A B : Type 0} (f : A → B) (S : Spelling Token A) (P : A → Type 0) (Q : B → Type 0) → Gives S P → ((x : A) → P x → Q (f x)) → Gives (As f S) Q
as_gives f S P Q each turns y w (x, is, s) = subst Q (sym is) (turns x (each x w s))

many_gives : {A : Type 0} (S : Spelling Token A) (P : A → Type 0) → Gives S P → Gives (Many S) (AllByRecursion P)
many_gives S P each [] w is = tt
many_gives S P each (x ∷ xs) w (u, v, splits, s, more) = (each x u s, many_gives S P each xs v more)

after_gives : {A : Type 0} (p : Token → Bool) (S : Spelling Token A) (P : A → Type 0) → Gives S P → Gives (After p S) P
after_gives p S P each = both_gives second_of_two (Word p) S (λ x. Unit {0}) P P (any (Word p)) each (λ x y is goes. goes)

before_gives : {A : Type 0} (p : Token → Bool) (S : Spelling Token A) (P : A → Type 0) → Gives S P → Gives (Before p S) P
before_gives p S P each = both_gives first_of_two S (Word p) P (λ x. Unit {0}) P each (any (Word p)) (λ x y is goes. is)

separated_gives : {A : Type 0} (p : Token → Bool) (S : Spelling Token A) (P : A → Type 0) → Gives S P → Gives (Separated p S) (AllByRecursion P)
separated_gives p S P each =
    both_gives list_of S (Many (After p S)) P (AllByRecursion P) (AllByRecursion P) each (many_gives (After p S) P (after_gives p S P each)) (λ x xs is all. (is, all))

-- ---- literals

number_is : (n : ℕ) (x : Constant) → cond (ltb n (2 ^ 63)) (Some (IntValue (pos n))) None ≡ Some x → IsSmall x
number_is n x means = go (ltb n (2 ^ 63)) refl means
  where
    go : (b : Bool) → ltb n (2 ^ 63) ≡ b → cond b (Some (IntValue (pos n))) None ≡ Some x → IsSmall x
    go true small same = subst IsSmall (same_Some (IntValue (pos n)) x same) (ltb-true n (2 ^ 63) small)
    go false large same = absurd cc

constant_is : (t : Token) (x : Constant) → constant_of t ≡ Some x → IsSmall x
constant_is (token.Keyword k) x means = absurd cc
constant_is (token.Name n) x means = absurd cc
constant_is (token.Number n) x means = number_is n x means
constant_is (token.Text cs) x means = subst IsSmall (same_Some (TextValue cs) x means) tt
constant_is (token.Blob bs) x means = subst IsSmall (same_Some (BlobValue bs) x means) tt
constant_is (token.Sign s) x means = absurd cc
constant_is token.Unknown x means = absurd cc

minus_is : (n : ℕ) → n ≤ 2 ^ 63 → IsSmall (IntValue (neg_ℤ (pos n)))
minus_is zero small = omega arith
minus_is (suc n) small = omega (arith, small)

minus_number_is : (n : ℕ) (x : Constant) → cond (leb n (2 ^ 63)) (Some (IntValue (neg_ℤ (pos n)))) None ≡ Some x → IsSmall x
minus_number_is n x means = go (leb n (2 ^ 63)) refl means
  where
    go : (b : Bool) → leb n (2 ^ 63) ≡ b → cond b (Some (IntValue (neg_ℤ (pos n)))) None ≡ Some x → IsSmall x
    go true small same = subst IsSmall (same_Some (IntValue (neg_ℤ (pos n))) x same) (minus_is n (leb-true n (2 ^ 63) small))
    go false large same = absurd cc

negated_is : (t : Token) (x : Constant) → negated t ≡ Some x → IsSmall x
negated_is (token.Keyword k) x means = absurd cc
negated_is (token.Name n) x means = absurd cc
negated_is (token.Number n) x means = minus_number_is n x means
negated_is (token.Text cs) x means = absurd cc
negated_is (token.Blob bs) x means = absurd cc
negated_is (token.Sign s) x means = absurd cc
negated_is token.Unknown x means = absurd cc

literal_gives : Gives LiteralS IsSmall
unfolding LiteralS
literal_gives =
    either_gives _ _ IsSmall (after_gives _ (One negated) IsSmall (one_gives negated IsSmall negated_is))
    (either_gives _ _ IsSmall (as_gives (λ _. NullValue) _ (λ x. Unit {0}) IsSmall (any _) (λ x is. tt))
    (one_gives constant_of IsSmall constant_is))

side_gives : Gives OperandS HasSmall
unfolding OperandS
side_gives = either_gives _ _ HasSmall (as_gives OfLiteral LiteralS IsSmall HasSmall literal_gives (λ x is. is)) (as_gives OfColumn ColumnS (λ x. Unit {0}) HasSmall (any ColumnS) (λ x is. tt))

-- ---- statements

tuple_gives : Gives TupleS (AllByRecursion IsSmall)
unfolding TupleS
tuple_gives = after_gives _ _ (AllByRecursion IsSmall) (before_gives _ _ (AllByRecursion IsSmall) (separated_gives _ LiteralS IsSmall literal_gives))

abbrev Tuples : Option (List Name) × List (List Constant) → Type 0
Tuples p = AllByRecursion (AllByRecursion IsSmall) p.1

insert_gives : Gives InsertS IsSmallStatement
unfolding InsertS
insert_gives =
    after_gives _ _ IsSmallStatement (after_gives _ _ IsSmallStatement
    (both_gives insert_into NameS _ (λ n. Unit {0}) Tuples IsSmallStatement (any NameS)
    (both_gives pair (Optional NamesS) _ (λ names. Unit {0}) (AllByRecursion (AllByRecursion IsSmall)) Tuples (any (Optional NamesS))
    (after_gives _ _ (AllByRecursion (AllByRecursion IsSmall)) (separated_gives _ TupleS (AllByRecursion IsSmall) tuple_gives)) (λ names rows is all. all))
    (λ n p is all. all)))

setting_gives : Gives SettingS BeginsSmall
unfolding SettingS
setting_gives =
    both_gives setting _ _ (λ n. Unit {0}) (λ (p : Side × List Change). HasSmall p.0) BeginsSmall (any _)
    (both_gives pair OperandS (Many ChangeS) HasSmall (λ cs. Unit {0}) (λ (p : Side × List Change). HasSmall p.0) side_gives (any (Many ChangeS)) (λ x y is all. is))
    (λ n p is goes. goes)

abbrev Settings : List Setting × Option Cond → Type 0
Settings p = AllByRecursion BeginsSmall p.0

update_gives : Gives UpdateS IsSmallStatement
unfolding UpdateS
update_gives =
    after_gives _ _ IsSmallStatement
    (both_gives update_of NameS _ (λ n. Unit {0}) Settings IsSmallStatement (any NameS)
    (after_gives _ _ Settings
    (both_gives pair _ WhereS (AllByRecursion BeginsSmall) (λ f. Unit {0}) Settings (separated_gives _ SettingS BeginsSmall setting_gives) (any WhereS) (λ x y is all. is)))
    (λ n p is goes. goes))

delete_gives : Gives DeleteS IsSmallStatement
unfolding DeleteS
delete_gives =
    after_gives _ _ IsSmallStatement (after_gives _ _ IsSmallStatement
    (both_gives written.DeleteFrom NameS WhereS (λ n. Unit {0}) (λ f. Unit {0}) IsSmallStatement (any NameS) (any WhereS) (λ n f is goes. tt)))

level_gives : Gives LevelS IsSmallStatement
unfolding LevelS
level_gives =
    after_gives _ _ IsSmallStatement (after_gives _ _ IsSmallStatement
    (either_gives _ _ IsSmallStatement
    (as_gives (λ _. written.SnapshotIt) _ (λ x. Unit {0}) IsSmallStatement (any _) (λ x is. tt))
    (as_gives (λ _. written.SerializableIt) _ (λ x. Unit {0}) IsSmallStatement (any _) (λ x is. tt))))

one_gives_small : Gives OneS IsSmallStatement
unfolding OneS
one_gives_small =
    either_gives LevelS _ IsSmallStatement level_gives
    (either_gives InsertS _ IsSmallStatement insert_gives
    (either_gives UpdateS _ IsSmallStatement update_gives
    (either_gives DeleteS _ IsSmallStatement delete_gives
    (either_gives _ _ IsSmallStatement (as_gives (λ _. written.BeginIt) _ (λ x. Unit {0}) IsSmallStatement (any _) (λ x is. tt))
    (either_gives _ _ IsSmallStatement (as_gives (λ _. written.CommitIt) _ (λ x. Unit {0}) IsSmallStatement (any _) (λ x is. tt))
    (either_gives _ _ IsSmallStatement (as_gives (λ _. written.RollbackIt) _ (λ x. Unit {0}) IsSmallStatement (any _) (λ x is. tt))
    (as_gives written.SelectOf QueryS (λ q. Unit {0}) IsSmallStatement (any QueryS) (λ q is. tt))))))))

statement_gives : Gives StatementS IsSmallStatement
unfolding StatementS
statement_gives = both_gives first_of_two OneS _ IsSmallStatement (λ x. Unit {0}) IsSmallStatement one_gives_small (any _) (λ x y is goes. is)

spelled_small : (text : List ℕ) (s : Statement) → Spells StatementS text s → IsSmallStatement s
spelled_small text s spells = statement_gives s (map token_of spells.spots) spells.spelled

-- ---- what statements mean

-- an operand that is a value in range, or a column
abbrev pub IsRangedOperand : BoundOperand → Type 0
IsRangedOperand (operand.Value value) = IsInRange value
IsRangedOperand (operand.Column column) = Unit {0}

abbrev pub BeginsRanged : BoundAssign → Type 0
BeginsRanged assign = IsRangedOperand assign.first

-- the rows of an INSERT are of 64 bits, and so are the values that SET begins with
abbrev pub IsRangedStatement : BoundStatement → Type 0
IsRangedStatement BeginIt = Unit {0}
IsRangedStatement CommitIt = Unit {0}
IsRangedStatement RollbackIt = Unit {0}
IsRangedStatement (SetIt level) = Unit {0}
IsRangedStatement (InsertInto table rows) = AllByRecursion IsRanged rows
IsRangedStatement (UpdateOf table assigns filter) = AllByRecursion BeginsRanged assigns
IsRangedStatement (DeleteFrom table filter) = Unit {0}
IsRangedStatement (SelectOf query) = Unit {0}

values_are : (literals : List Constant) → AllByRecursion IsSmall literals → IsRanged (map value_of literals)
values_are [] all = tt
values_are (l ∷ ls) all = (all.0, values_are ls all.1)

listed_is : (names : List Name) (literals : List Constant) (column : Name) → AllByRecursion IsSmall literals → IsInRange (listed_value names literals column)
listed_is [] literals column all = tt
listed_is (name ∷ names) [] column all = tt
listed_is (name ∷ names) (literal ∷ literals) column all = pick (bytes_eq name column) (listed_is names literals column all.1)
  where
    pick : (b : Bool) → IsInRange (listed_value names literals column) → IsInRange (cond b (value_of literal) (listed_value names literals column))
    pick true later = all.0
    pick false later = later

all_listed : (names : List Name) (literals : List Constant) (columns : List ColumnDef) → AllByRecursion IsSmall literals → IsRanged (map (λ column. listed_value names literals column.name) columns)
all_listed names literals [] all = tt
all_listed names literals (column ∷ columns) all = (listed_is names literals column.name all, all_listed names literals columns all)

row_is : (table : Visible) (names : Option (List Name)) (literals : List Constant) → AllByRecursion IsSmall literals → IsRanged (bound_row table names literals)
row_is table None literals all = values_are literals all
row_is table (Some names) literals all = all_listed names literals table.columns all

rows_are : (table : Visible) (names : Option (List Name)) (rows : List (List Constant)) → AllByRecursion (AllByRecursion IsSmall) rows → AllByRecursion IsRanged (map (bound_row table names) rows)
rows_are table names [] all = tt
rows_are table names (row ∷ rows) all = (row_is table names row all.0, rows_are table names rows all.1)

side_is : (scope : List Visible) (side : Side) → HasSmall side → IsRangedOperand (bound_side scope side)
side_is scope (OfLiteral literal) is = is
side_is scope (OfColumn column) is = tt

settings_are : (scope : List Visible) (settings : List Setting) → AllByRecursion BeginsSmall settings → AllByRecursion BeginsRanged (map (bound_setting scope) settings)
settings_are scope [] all = tt
settings_are scope (s ∷ ss) all = (side_is scope s.first all.0, settings_are scope ss all.1)

bound_is : (tables : List TableDef) (s : Statement) → IsSmallStatement s → IsRangedStatement (bound_as tables s)
unfolding bound_as
bound_is tables written.BeginIt is = tt
bound_is tables written.CommitIt is = tt
bound_is tables written.RollbackIt is = tt
bound_is tables written.SnapshotIt is = tt
bound_is tables written.SerializableIt is = tt
bound_is tables (written.InsertInto table names rows) is = rows_are (target tables table) names rows is
bound_is tables (written.UpdateOf table settings filter) is = settings_are (target tables table ∷ []) settings is
bound_is tables (written.DeleteFrom table filter) is = tt
bound_is tables (written.SelectOf query) is = tt

abbrev IsRangedMeaning : Meaning → Type 0
IsRangedMeaning (Ok s) = IsRangedStatement s
IsRangedMeaning (Err cause) = Unit {0}

meant_ranged : (tables : List TableDef) (s : Statement) → IsSmallStatement s → IsRangedMeaning (sql_binder tables s)
meant_ranged tables s is = go (binding tables s) refl
  where
    go : (r : Result BoundStatement FaultKind) → binding tables s ≡ r → IsRangedMeaning (meant_as r)
    go (Ok b) binds = let f = faultless tables s b binds in subst IsRangedStatement f.is (bound_is tables s is)
    go (Err kind) binds = tt

meaning_ranged : (tables : List TableDef) (text : List ℕ) → IsRangedMeaning (meaning sql_binder tables text)
unfolding meaning
meaning_ranged tables text = go (reading text) refl
  where
    go : (r : Result Statement ℕ) → reading text ≡ r → IsRangedMeaning (meant_by sql_binder tables r)
    go (Ok s) read = meant_ranged tables s (spelled_small text s (reading_spells text s read))
    go (Err at) read = tt

-- what a text means
pub text_ranged : (tables : List TableDef) (text : List ℕ) (s : BoundStatement) → meaning sql_binder tables text ≡ Ok s → IsRangedStatement s
text_ranged tables text s means = subst IsRangedMeaning means (meaning_ranged tables text)
