-- The readers of names, literals, columns and operands are exact.
use Rattle.std.proofs.Common.{◌≡◌, ℕ, pos, ◌^◌, Bool, true, false, cond, ◌&&◌, nat_le, nat_lt, List, [], ◌∷◌, ◌++◌, length, Some, None, refl, sym, ap, ◌∙◌}
use Rattle.grammar_forms.specs.Forms.{Spelling, Reader}
use Rattle.grammar_forms.specs.Parts.{Word, word, After, after, Before, before}
use Rattle.grammar_forms.specs.Kinds.{has, when, apart}
use Rattle.grammar_forms.specs.Laws.{Exact}
use Rattle.grammar_forms.proofs.Alike.{has_append}
use Rattle.grammar_forms.proofs.Sequence.{exact_one, exact_as, exact_both}
use Rattle.grammar_forms.proofs.Choice.{exact_either, widen}
use Rattle.grammar_forms.proofs.Usual.{exact_word, exact_after, exact_before, exact_optional, exact_separated}
use Rattle.sql_tokens.specs.declared.kinds.Keyword.{Keyword}
use Rattle.sql_tokens.specs.declared.kinds.Keyword.TheVariants as words
use Rattle.sql_tokens.specs.declared.kinds.Sign.{Sign}
use Rattle.sql_tokens.specs.declared.kinds.Sign.TheVariants as sign
use Rattle.sql_tokens.specs.declared.kinds.Token.{Token}
use Rattle.sql_tokens.specs.declared.kinds.Token.TheVariants as token
use Rattle.sql_grammar.specs.Trees.{Name, Constant, NullValue, IntValue, TextValue, OfLiteral, OfColumn}
use Rattle.sql_grammar.specs.Words.{kind, code, keyword, sign_code, sign_is, a_name, a_number, a_large, a_text, a_blob, name_of, constant_of, negated}
use Rattle.sql_grammar.specs.Grammar.{WordAs, SignAs, NameS, NamesS, Enclosed, Listed, LiteralS, ColumnS, OperandS, column_of}
use Rattle.sql_grammar.specs.Readers.{word_as, sign_as, is_name, begins_literal, begins_step, begins_mark, name_r, names_r, literal_r, column_r, operand_r, enclosed, listed}

-- The kinds with which a literal, a step of SET and a mark of a column begin, and the tests of the readers by them.
abbrev pub literals : List ℕ
literals = sign_code sign.Minus ∷ code words.Null ∷ a_number ∷ a_text ∷ a_blob ∷ []

abbrev pub steps : List ℕ
steps = sign_code sign.Plus ∷ sign_code sign.Minus ∷ []

abbrev pub marks : List ℕ
marks = code words.Not ∷ code words.Primary ∷ code words.Unique ∷ []

sized : (b : Bool) → b ≡ has (a_name ∷ []) (cond b a_name 80)
sized true = refl
sized false = refl

pub name_test : (t : Token) → is_name t ≡ has (a_name ∷ []) (kind t)
unfolding is_name
name_test (token.Name n) = sized (nat_le (length n) 32)
name_test (token.Number n) = other (nat_lt n (2 ^ 63))
  where
    other : (b : Bool) → false ≡ has (a_name ∷ []) (cond b a_number a_large)
    other true = refl
    other false = refl
name_test (token.Keyword words.All) = refl
name_test (token.Keyword _) = refl
name_test (token.Sign sign.Open) = refl
name_test (token.Sign _) = refl
name_test (token.Text t) = refl
name_test (token.Blob t) = refl
name_test token.Unknown = refl

below_large : (b : Bool) → b ≡ has literals (cond b a_number a_large)
below_large true = refl
below_large false = refl

no_literal : (b : Bool) → cond (has (sign_code sign.Minus ∷ []) (cond b a_name 80)) true (has (code words.Null ∷ []) (cond b a_name 80)) ≡ has literals (cond b a_name 80)
no_literal true = refl
no_literal false = refl

pub literal_test : (t : Token) → begins_literal t ≡ has literals (kind t)
unfolding begins_literal keyword sign_is
literal_test (token.Number n) = below_large (nat_lt n (2 ^ 63))
literal_test (token.Text t) = refl
literal_test (token.Blob t) = refl
literal_test (token.Name n) = no_literal (nat_le (length n) 32)
literal_test (token.Keyword words.All) = refl
literal_test (token.Keyword _) = refl
literal_test (token.Sign sign.Open) = refl
literal_test (token.Sign _) = refl
literal_test token.Unknown = refl

pub step_test : (t : Token) → begins_step t ≡ has steps (kind t)
unfolding begins_step sign_is
step_test t = sym (has_append (sign_code sign.Plus ∷ []) (sign_code sign.Minus ∷ []) (kind t))

pub mark_test : (t : Token) → begins_mark t ≡ has marks (kind t)
unfolding begins_mark keyword
mark_test t =
    ap (λ b. cond (has (code words.Not ∷ []) (kind t)) true b) (sym (has_append (code words.Primary ∷ []) (code words.Unique ∷ []) (kind t)))
    ∙ sym (has_append (code words.Not ∷ []) (code words.Primary ∷ code words.Unique ∷ []) (kind t))

-- a name of one letter
abbrev a_word : Token
a_word = token.Name (97 ∷ [])

-- what a token means only under a test, it has a kind of the set where the test holds
tested_kind : {A : Type 0} (b : Bool) (x y : A) (k l : ℕ) (ks : List ℕ) → has ks k ≡ true → cond b (Some x) None ≡ Some y → has ks (cond b k l) ≡ true
tested_kind true x y k l ks h e = h
tested_kind false x y k l ks h e = cc

name_kind : (t : Token) (x : Name) → name_of t ≡ Some x → has (a_name ∷ []) (kind t) ≡ true
name_kind (token.Name n) x e = tested_kind (nat_le (length n) 32) n x a_name 80 (a_name ∷ []) refl e
name_kind (token.Keyword k) x e = cc
name_kind (token.Number n) x e = cc
name_kind (token.Text n) x e = cc
name_kind (token.Blob n) x e = cc
name_kind (token.Sign n) x e = cc
name_kind token.Unknown x e = cc

pub exact_name : Exact kind NameS name_r false (a_name ∷ []) []
unfolding NameS name_r keyword sign_is
exact_name = exact_one kind name_of (a_name ∷ []) name_kind a_word (97 ∷ []) refl

-- The parts with a word of the grammar or a sign.
module _ {A : Type 0} {S : Spelling Token A} {r : Reader Token A} {n : Bool} {firsts mores : List ℕ} where
  pub after_word : (k : Keyword) → has (code k ∷ []) (code k) ≡ true → Exact kind S r n firsts mores → Exact kind (After (keyword k) S) (after (keyword k) r) false (code k ∷ []) mores
  unfolding keyword
  after_word k e E = exact_after kind (code k ∷ []) (token.Keyword k) e E

  pub after_sign : (s : Sign) → has (sign_code s ∷ []) (sign_code s) ≡ true → Exact kind S r n firsts mores → Exact kind (After (sign_is s) S) (after (sign_is s) r) false (sign_code s ∷ []) mores
  unfolding sign_is
  after_sign s e E = exact_after kind (sign_code s ∷ []) (token.Sign s) e E

  pub before_sign : (s : Sign) → has (sign_code s ∷ []) (sign_code s) ≡ true → Exact kind S r n firsts mores → apart mores (sign_code s ∷ []) ≡ true → Exact kind (Before (sign_is s) S) (before (sign_is s) r) (n && false) (firsts ++ when n (sign_code s ∷ [])) []
  unfolding sign_is
  before_sign s e E seam = exact_before kind (sign_code s ∷ []) (token.Sign s) e E seam

pub exact_enclosed : {A : Type 0} {S : Spelling Token A} {r : Reader Token A} {n : Bool} {firsts mores : List ℕ} → Exact kind S r n firsts mores → apart mores (sign_code sign.Close ∷ []) ≡ true → Exact kind (Enclosed S) (enclosed r) false (sign_code sign.Open ∷ []) []
exact_enclosed E seam = after_sign sign.Open refl (before_sign sign.Close refl E seam)

pub exact_listed : {A : Type 0} {S : Spelling Token A} {r : Reader Token A} {firsts mores : List ℕ} → Exact kind S r false firsts mores → apart mores (sign_code sign.Comma ∷ []) ≡ true → Exact kind (Listed S) (listed r) false firsts (sign_code sign.Comma ∷ mores)
unfolding sign_is
exact_listed E seam = exact_separated kind E (sign_code sign.Comma ∷ []) (token.Sign sign.Comma) refl seam

pub the_word : (k : Keyword) → has (code k ∷ []) (code k) ≡ true → Exact kind (Word (keyword k)) (word (keyword k)) false (code k ∷ []) []
unfolding keyword
the_word k e = exact_word kind (code k ∷ []) (token.Keyword k) e

pub the_sign : (s : Sign) → has (sign_code s ∷ []) (sign_code s) ≡ true → Exact kind (Word (sign_is s)) (word (sign_is s)) false (sign_code s ∷ []) []
unfolding sign_is
the_sign s e = exact_word kind (sign_code s ∷ []) (token.Sign s) e

pub exact_word_as : {A : Type 0} (k : Keyword) (x : A) → has (code k ∷ []) (code k) ≡ true → Exact kind (WordAs k x) (word_as k x) false (code k ∷ []) []
exact_word_as k x e = exact_as kind (λ _. x) _ _ (the_word k e)

pub exact_sign_as : {A : Type 0} (s : Sign) (x : A) → has (sign_code s ∷ []) (sign_code s) ≡ true → Exact kind (SignAs s x) (sign_as s x) false (sign_code s ∷ []) []
exact_sign_as s x e = exact_as kind (λ _. x) _ _ (the_sign s e)

pub exact_names : Exact kind NamesS names_r false (sign_code sign.Open ∷ []) []
unfolding NamesS names_r keyword sign_is
exact_names = exact_enclosed (exact_listed exact_name refl) refl

constant_kind : (t : Token) (x : Constant) → constant_of t ≡ Some x → has (71 ∷ 72 ∷ 73 ∷ []) (kind t) ≡ true
constant_kind (token.Number n) x e = tested_kind (nat_lt n (2 ^ 63)) (IntValue (pos n)) x a_number a_large (71 ∷ 72 ∷ 73 ∷ []) refl e
constant_kind (token.Text n) x e = refl
constant_kind (token.Blob n) x e = refl
constant_kind (token.Keyword _) x e = cc
constant_kind (token.Name n) x e = cc
constant_kind (token.Sign n) x e = cc
constant_kind token.Unknown x e = cc

negated_kind : (t : Token) (x : Constant) → negated t ≡ Some x → has (a_number ∷ a_large ∷ []) (kind t) ≡ true
negated_kind (token.Number n) x e = number_kind (nat_lt n (2 ^ 63))
  where
    number_kind : (b : Bool) → has (a_number ∷ a_large ∷ []) (cond b a_number a_large) ≡ true
    number_kind true = refl
    number_kind false = refl
negated_kind (token.Text n) x e = cc
negated_kind (token.Blob n) x e = cc
negated_kind (token.Keyword _) x e = cc
negated_kind (token.Name n) x e = cc
negated_kind (token.Sign n) x e = cc
negated_kind token.Unknown x e = cc

pub exact_literal : Exact kind LiteralS literal_r false literals []
unfolding LiteralS literal_r keyword sign_is
exact_literal = widen kind
    (exact_either kind _ _ _ _ _
    (after_sign sign.Minus refl (exact_one kind negated (a_number ∷ a_large ∷ []) negated_kind (token.Number 0) _ refl))
    (exact_either kind _ _ _ _ _ (exact_word_as words.Null NullValue refl)
    (exact_one kind constant_of (71 ∷ 72 ∷ 73 ∷ []) constant_kind (token.Text []) (TextValue []) refl) (λ t. refl) refl)
    (λ t. refl) refl)
    refl refl

pub exact_column : Exact kind ColumnS column_r false (a_name ∷ []) (sign_code sign.Dot ∷ [])
unfolding ColumnS column_r keyword sign_is
exact_column = exact_both kind column_of _ _ _ _ exact_name
    (exact_optional kind (after_sign sign.Dot refl exact_name)) refl

pub exact_operand : Exact kind OperandS operand_r false (literals ++ a_name ∷ []) (sign_code sign.Dot ∷ [])
unfolding OperandS operand_r keyword sign_is
exact_operand = exact_either kind _ _ _ _ _ (exact_as kind OfLiteral LiteralS literal_r exact_literal) (exact_as kind OfColumn ColumnS column_r exact_column) literal_test refl
