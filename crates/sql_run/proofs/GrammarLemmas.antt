-- What the grammar gives of the tokens of a text: values of the grammar of reports, a table or more behind FROM, and an
-- item or more.
use Rattle.std.proofs.Common.{◌≡◌, ℕ, zero, suc, ◌≤◌, ◌^◌, List, [], ◌∷◌, ◌++◌, map, Bool, true, false, cond, ltb, leb, inl, inr, refl, sym, subst, arith, Option, Some, None, pos}
use Rattle.std.specs.Prelude.{neg_ℤ}
use Rattle.std.specs.List.{AllByRecursion}
use Rattle.std.specs.Str.{is_utf8}
use Rattle.std.proofs.lemmas.Option.{same_Some}
use Rattle.std.proofs.lemmas.Str.{IsUtf8-from_is_utf8}
use Rattle.grammar_forms.specs.Forms.{Spelling, One, Both, Either, As, Many}
use Rattle.grammar_forms.specs.Parts.{Word, After, Before, Optional, Separated, first_of_two, second_of_two, list_of}
use Rattle.session_language.specs.Spelled.{IsToldValue}
use Rattle.sql_bind.specs.Meaning.{value_of}
use Rattle.sql_grammar.specs.Grammar.{pair, setting, insert_into, update_of, query, Tail, LiteralS, OperandS, ChangeS, SettingS, TupleS, InsertS, UpdateS, DeleteS, SourceS, FromS, ItemS, ItemsS, TailS, QueryS, LevelS, OneS, StatementS, WhereS, NameS, NamesS, ColumnS}
use Rattle.sql_grammar.specs.Trees.{Name, Constant, NullValue, IntValue, TextValue, BlobValue, Side, OfLiteral, OfColumn, Cond, Item, Source, Change, Setting, Statement, BeginIt, CommitIt, RollbackIt, SnapshotIt, SerializableIt, InsertInto, UpdateOf, DeleteFrom, SelectOf}
use Rattle.sql_grammar.specs.Words.{constant_of, negated}
use Rattle.sql_reader.specs.Promise.{Spells}
use Rattle.sql_run.proofs.TextLemmas.{IsFine, fine_tokens}
use Rattle.sql_tokens.specs.Spot.{token_of}
use Rattle.sql_tokens.specs.declared.kinds.Token.{Token}
use Rattle.sql_tokens.specs.declared.kinds.Token.TheVariants as token

-- a literal whose value is one of the grammar
abbrev pub IsConstant : Constant → Type 0
IsConstant constant = IsToldValue (value_of constant)

-- an operand that is such a literal, or a column
abbrev pub HasValue : Side → Type 0
HasValue (OfLiteral constant) = IsConstant constant
HasValue (OfColumn column) = Unit {0}

-- a list has something
abbrev pub HasOne : {A : Type 0} → List A → Type 0
HasOne [] = ⊥
HasOne (x ∷ xs) = Unit {0}

-- `*`, or an item or more
abbrev pub HasItems : Option (List Item) → Type 0
HasItems None = Unit {0}
HasItems (Some items) = HasOne items

abbrev pub IsWritten : Statement → Type 0
IsWritten (InsertInto table names rows) = AllByRecursion (AllByRecursion IsConstant) rows
IsWritten (UpdateOf table settings filter) = AllByRecursion (λ s. HasValue s.first) settings
IsWritten (SelectOf query) = HasItems query.items × HasOne query.tables
IsWritten _ = Unit {0}

abbrev AreFine : List Token → Type 0
AreFine ts = AllByRecursion IsFine ts

front_fine : (u v : List Token) → AreFine (u ++ v) → AreFine u
front_fine [] v all = tt
front_fine (t ∷ u) v all = (all.0, front_fine u v all.1)

back_fine : (u v : List Token) → AreFine (u ++ v) → AreFine v
back_fine [] v all = all
back_fine (t ∷ u) v all = back_fine u v all.1

-- what a part means is so, where its tokens are fine
abbrev Gives : {A : Type 0} → Spelling Token A → (A → Type 0) → Type 0
Gives {A} S P = (x : A) (w : List Token) → AreFine w → S x w → P x

-- any part
any : {A : Type 0} (S : Spelling Token A) → Gives S (λ x. Unit {0})
any S x w fine is = tt

one_gives : {A : Type 0} (f : Token → Option A) (P : A → Type 0) → ((t : Token) (x : A) → IsFine t → f t ≡ Some x → P x) → Gives (One f) P
one_gives f P each x w fine (t, means, is) = each t x ((subst AreFine is fine).0) means

both_gives : {A B C : Type 0} (f : A → B → C) (S : Spelling Token A) (R : Spelling Token B) (P : A → Type 0) (Q : B → Type 0) (T : C → Type 0)
    → Gives S P → Gives R Q → ((x : A) (y : B) → P x → Q y → T (f x y)) → Gives (Both f S R) T
both_gives f S R P Q T first second joins z w fine (x, y, u, v, is, splits, s, r) =
    let all : AreFine (u ++ v) = subst AreFine splits fine in
    subst T (sym is) (joins x y (first x u (front_fine u v all) s) (second y v (back_fine u v all) r))

either_gives : {A : Type 0} (S R : Spelling Token A) (P : A → Type 0) → Gives S P → Gives R P → Gives (Either S R) P
either_gives S R P first second x w fine (inl s) = first x w fine s
either_gives S R P first second x w fine (inr r) = second x w fine r

as_gives : {A B : Type 0} (f : A → B) (S : Spelling Token A) (P : A → Type 0) (Q : B → Type 0) → Gives S P → ((x : A) → P x → Q (f x)) → Gives (As f S) Q
as_gives f S P Q each turns y w fine (x, is, s) = subst Q (sym is) (turns x (each x w fine s))

many_gives : {A : Type 0} (S : Spelling Token A) (P : A → Type 0) → Gives S P → Gives (Many S) (AllByRecursion P)
many_gives S P each [] w fine is = tt
many_gives S P each (x ∷ xs) w fine (u, v, splits, s, more) =
    let all : AreFine (u ++ v) = subst AreFine splits fine in
    (each x u (front_fine u v all) s, many_gives S P each xs v (back_fine u v all) more)

after_gives : {A : Type 0} (p : Token → Bool) (S : Spelling Token A) (P : A → Type 0) → Gives S P → Gives (After p S) P
after_gives p S P each = both_gives second_of_two (Word p) S (λ x. Unit {0}) P P (any (Word p)) each (λ x y is goes. goes)

before_gives : {A : Type 0} (p : Token → Bool) (S : Spelling Token A) (P : A → Type 0) → Gives S P → Gives (Before p S) P
before_gives p S P each = both_gives first_of_two S (Word p) P (λ x. Unit {0}) P each (any (Word p)) (λ x y is goes. is)

separated_gives : {A : Type 0} (p : Token → Bool) (S : Spelling Token A) (P : A → Type 0) → Gives S P → Gives (Separated p S) (AllByRecursion P)
separated_gives p S P each = both_gives list_of S (Many (After p S)) P (AllByRecursion P) (AllByRecursion P) each (many_gives (After p S) P (after_gives p S P each)) (λ x xs is all. (is, all))

-- a list with a separator has one part or more
separated_has : {A : Type 0} (p : Token → Bool) (S : Spelling Token A) → Gives (Separated p S) HasOne
separated_has p S = both_gives list_of S (Many (After p S)) (λ x. Unit {0}) (λ x. Unit {0}) HasOne (any S) (any (Many (After p S))) (λ x xs is all. tt)

-- ---- literals

number_is : (n : ℕ) (x : Constant) → cond (ltb n (2 ^ 63)) (Some (IntValue (pos n))) None ≡ Some x → IsConstant x
number_is n x means = go (ltb n (2 ^ 63)) refl means
  where
    go : (b : Bool) → ltb n (2 ^ 63) ≡ b → cond b (Some (IntValue (pos n))) None ≡ Some x → IsConstant x
    go true small same = subst IsConstant (same_Some (IntValue (pos n)) x same) tt
    go false large same = absurd cc

constant_is : (t : Token) (x : Constant) → IsFine t → constant_of t ≡ Some x → IsConstant x
constant_is (token.Keyword k) x fine means = absurd cc
constant_is (token.Name n) x fine means = absurd cc
constant_is (token.Number n) x fine means = number_is n x means
constant_is (token.Text cs) x fine means = subst IsConstant (same_Some (TextValue cs) x means) fine
constant_is (token.Blob bs) x fine means = subst IsConstant (same_Some (BlobValue bs) x means) fine
constant_is (token.Sign s) x fine means = absurd cc
constant_is token.Unknown x fine means = absurd cc

minus_number_is : (n : ℕ) (x : Constant) → cond (leb n (2 ^ 63)) (Some (IntValue (neg_ℤ (pos n)))) None ≡ Some x → IsConstant x
minus_number_is n x means = go (leb n (2 ^ 63)) refl means
  where
    go : (b : Bool) → leb n (2 ^ 63) ≡ b → cond b (Some (IntValue (neg_ℤ (pos n)))) None ≡ Some x → IsConstant x
    go true small same = subst IsConstant (same_Some (IntValue (neg_ℤ (pos n))) x same) tt
    go false large same = absurd cc

negated_is : (t : Token) (x : Constant) → IsFine t → negated t ≡ Some x → IsConstant x
negated_is (token.Keyword k) x fine means = absurd cc
negated_is (token.Name n) x fine means = absurd cc
negated_is (token.Number n) x fine means = minus_number_is n x means
negated_is (token.Text cs) x fine means = absurd cc
negated_is (token.Blob bs) x fine means = absurd cc
negated_is (token.Sign s) x fine means = absurd cc
negated_is token.Unknown x fine means = absurd cc

literal_gives : Gives LiteralS IsConstant
unfolding LiteralS
literal_gives =
    either_gives _ _ IsConstant (after_gives _ (One negated) IsConstant (one_gives negated IsConstant negated_is))
    (either_gives _ _ IsConstant (as_gives (λ _. NullValue) _ (λ x. Unit {0}) IsConstant (any _) (λ x is. tt))
    (one_gives constant_of IsConstant constant_is))

side_gives : Gives OperandS HasValue
unfolding OperandS
side_gives = either_gives _ _ HasValue (as_gives OfLiteral LiteralS IsConstant HasValue literal_gives (λ x is. is)) (as_gives OfColumn ColumnS (λ x. Unit {0}) HasValue (any ColumnS) (λ x is. tt))

-- ---- statements

tuple_gives : Gives TupleS (AllByRecursion IsConstant)
unfolding TupleS
tuple_gives = after_gives _ _ (AllByRecursion IsConstant) (before_gives _ _ (AllByRecursion IsConstant) (separated_gives _ LiteralS IsConstant literal_gives))

abbrev Tuples : Option (List Name) × List (List Constant) → Type 0
Tuples p = AllByRecursion (AllByRecursion IsConstant) p.1

insert_gives : Gives InsertS IsWritten
unfolding InsertS
insert_gives =
    after_gives _ _ IsWritten (after_gives _ _ IsWritten
    (both_gives insert_into NameS _ (λ n. Unit {0}) Tuples IsWritten (any NameS)
    (both_gives pair (Optional NamesS) _ (λ names. Unit {0}) (AllByRecursion (AllByRecursion IsConstant)) Tuples (any (Optional NamesS))
    (after_gives _ _ (AllByRecursion (AllByRecursion IsConstant)) (separated_gives _ TupleS (AllByRecursion IsConstant) tuple_gives)) (λ names rows is all. all))
    (λ n p is all. all)))

abbrev HasFirst : Setting → Type 0
HasFirst s = HasValue s.first

setting_gives : Gives SettingS HasFirst
unfolding SettingS
setting_gives =
    both_gives setting _ _ (λ n. Unit {0}) (λ (p : Side × List Change). HasValue p.0) HasFirst (any _)
    (both_gives pair OperandS (Many ChangeS) HasValue (λ cs. Unit {0}) (λ (p : Side × List Change). HasValue p.0) side_gives (any (Many ChangeS)) (λ x y is all. is))
    (λ n p is goes. goes)

abbrev Settings : List Setting × Option Cond → Type 0
Settings p = AllByRecursion HasFirst p.0

update_gives : Gives UpdateS IsWritten
unfolding UpdateS
update_gives =
    after_gives _ _ IsWritten
    (both_gives update_of NameS _ (λ n. Unit {0}) Settings IsWritten (any NameS)
    (after_gives _ _ Settings
    (both_gives pair _ WhereS (AllByRecursion HasFirst) (λ f. Unit {0}) Settings (separated_gives _ SettingS HasFirst setting_gives) (any WhereS) (λ x y is all. is)))
    (λ n p is goes. goes))

delete_gives : Gives DeleteS IsWritten
unfolding DeleteS
delete_gives =
    after_gives _ _ IsWritten (after_gives _ _ IsWritten
    (both_gives DeleteFrom NameS WhereS (λ n. Unit {0}) (λ f. Unit {0}) IsWritten (any NameS) (any WhereS) (λ n f is goes. tt)))

level_gives : Gives LevelS IsWritten
unfolding LevelS
level_gives =
    after_gives _ _ IsWritten (after_gives _ _ IsWritten
    (either_gives _ _ IsWritten
    (as_gives (λ _. SnapshotIt) _ (λ x. Unit {0}) IsWritten (any _) (λ x is. tt))
    (as_gives (λ _. SerializableIt) _ (λ x. Unit {0}) IsWritten (any _) (λ x is. tt))))

items_gives : Gives ItemsS HasItems
unfolding ItemsS
items_gives = either_gives _ _ HasItems (as_gives (λ _. None) _ (λ x. Unit {0}) HasItems (any _) (λ x is. tt)) (as_gives Some _ HasOne HasItems (separated_has _ ItemS) (λ x is. is))

from_gives : Gives FromS HasOne
unfolding FromS
from_gives = after_gives _ _ HasOne (both_gives list_of SourceS _ (λ x. Unit {0}) (λ xs. Unit {0}) HasOne (any SourceS) (any _) (λ x xs is all. tt))

abbrev Parts : Option (List Item) × (List Source × Tail) → Type 0
Parts p = HasItems p.0 × HasOne p.1.0

query_gives : Gives QueryS (λ q. HasItems q.items × HasOne q.tables)
unfolding QueryS
query_gives =
    both_gives query _ _ (λ b. Unit {0}) Parts (λ q. HasItems q.items × HasOne q.tables) (any _)
    (both_gives pair ItemsS _ HasItems (λ (p : List Source × Tail). HasOne p.0) Parts items_gives
    (both_gives pair FromS TailS HasOne (λ t. Unit {0}) (λ (p : List Source × Tail). HasOne p.0) from_gives (any TailS) (λ x y is all. is))
    (λ x y is goes. (is, goes)))
    (λ b p is goes. goes)

one_gives_written : Gives OneS IsWritten
unfolding OneS
one_gives_written =
    either_gives LevelS _ IsWritten level_gives
    (either_gives InsertS _ IsWritten insert_gives
    (either_gives UpdateS _ IsWritten update_gives
    (either_gives DeleteS _ IsWritten delete_gives
    (either_gives _ _ IsWritten (as_gives (λ _. BeginIt) _ (λ x. Unit {0}) IsWritten (any _) (λ x is. tt))
    (either_gives _ _ IsWritten (as_gives (λ _. CommitIt) _ (λ x. Unit {0}) IsWritten (any _) (λ x is. tt))
    (either_gives _ _ IsWritten (as_gives (λ _. RollbackIt) _ (λ x. Unit {0}) IsWritten (any _) (λ x is. tt))
    (as_gives SelectOf QueryS (λ q. HasItems q.items × HasOne q.tables) IsWritten query_gives (λ q is. is))))))))

statement_gives : Gives StatementS IsWritten
unfolding StatementS
statement_gives = both_gives first_of_two OneS _ IsWritten (λ x. Unit {0}) IsWritten one_gives_written (any _) (λ x y is goes. is)

-- what a text that is UTF-8 spells
pub written : (text : List ℕ) (s : Statement) → is_utf8 text ≡ true → Spells StatementS text s → IsWritten s
written text s utf8 spells = statement_gives s (map token_of spells.spots) (fine_tokens 0 text spells.spots spells.are (IsUtf8-from_is_utf8 text utf8)) spells.spelled
