-- The readers of queries are exact.
use Rattle.std.proofs.Common.{◌≡◌, ℕ, ◌^◌, Bool, true, false, cond, nat_lt, List, [], ◌∷◌, Some, None, refl}
use Rattle.grammar_forms.specs.Parts.{Optional, optional, list_of}
use Rattle.grammar_forms.specs.Kinds.{has}
use Rattle.grammar_forms.specs.Laws.{Exact}
use Rattle.grammar_forms.proofs.Sequence.{exact_one, exact_nothing, exact_as, exact_both}
use Rattle.grammar_forms.proofs.Choice.{exact_either, widen}
use Rattle.grammar_forms.proofs.Usual.{exact_optional, exact_up_to}
use Rattle.sql_tokens.specs.declared.kinds.Keyword.TheVariants as words
use Rattle.sql_tokens.specs.declared.kinds.Sign.TheVariants as sign
use Rattle.sql_tokens.specs.declared.kinds.Token.{Token}
use Rattle.sql_tokens.specs.declared.kinds.Token.TheVariants as token
use Rattle.sql_grammar.specs.Trees.{OfItem, CountAll, SumOf, MinOf, MaxOf}
use Rattle.sql_grammar.specs.Words.{kind, code, keyword, sign_code, sign_is, a_name, a_number, a_large, limit_of}
use Rattle.sql_grammar.specs.Grammar.{NameS, pair, SourceS, source, FromS, ArgumentS, CountS, ItemS, ItemsS, DirectionS, KeyS, key, GroupS, OrderS, LimitS, tail, TailS, query, QueryS}
use Rattle.sql_grammar.specs.Readers.{is_name, name_r, source_r, from_r, argument_r, count_r, item_r, items_r, direction_r, key_r, group_r, order_r, limit_r, tail_r, query_r}
use Rattle.sql_grammar.proofs.OperandLaws.{name_test, exact_name, exact_column, exact_word_as, exact_listed, exact_enclosed, after_word, after_sign, the_sign}
use Rattle.sql_grammar.proofs.ConditionLaws.{exact_where, dot}

exact_optional_name : Exact kind (Optional NameS) (optional is_name name_r) true (a_name ∷ []) (a_name ∷ [])
exact_optional_name = exact_either kind is_name _ _ _ _ (exact_as kind Some _ _ exact_name) (exact_nothing kind None) name_test refl

pub exact_source : Exact kind SourceS source_r false (a_name ∷ []) (code words.As ∷ a_name ∷ [])
unfolding SourceS source_r keyword sign_is
exact_source = widen kind
    (exact_both kind source _ _ _ _ exact_name
    (exact_either kind _ _ _ _ _ (exact_as kind Some _ _ (after_word words.As refl exact_name)) (exact_optional_name) (λ t. refl) refl) refl)
    refl refl

pub exact_from : Exact kind FromS from_r false (code words.From ∷ []) (sign_code sign.Comma ∷ code words.As ∷ a_name ∷ [])
unfolding FromS from_r keyword sign_is
exact_from = widen kind
    (after_word words.From refl (exact_both kind list_of _ _ _ _ exact_source (exact_up_to kind (after_sign sign.Comma refl exact_source) refl 2) refl))
    refl refl

pub exact_argument : Exact kind ArgumentS argument_r false (sign_code sign.Open ∷ []) []
unfolding ArgumentS argument_r keyword sign_is
exact_argument = exact_enclosed exact_column refl

pub exact_count : Exact kind CountS count_r false (code words.Count ∷ []) []
unfolding CountS count_r keyword sign_is
exact_count = exact_as kind (λ _. CountAll) _ _ (after_word words.Count refl (exact_enclosed (the_sign sign.Star refl) refl))

abbrev directions : List ℕ
directions = code words.Desc ∷ code words.Asc ∷ []

abbrev pub item_begins : List ℕ
item_begins = code words.Sum ∷ code words.Min ∷ code words.Max ∷ code words.Count ∷ a_name ∷ []

pub exact_item : Exact kind ItemS item_r false item_begins dot
unfolding ItemS item_r keyword sign_is
exact_item = widen kind
    (exact_either kind _ _ _ _ _ (exact_as kind SumOf _ _ (after_word words.Sum refl exact_argument))
    (exact_either kind _ _ _ _ _ (exact_as kind MinOf _ _ (after_word words.Min refl exact_argument))
    (exact_either kind _ _ _ _ _ (exact_as kind MaxOf _ _ (after_word words.Max refl exact_argument))
    (exact_either kind _ _ _ _ _ exact_count (exact_as kind OfItem _ _ exact_column) (λ t. refl) refl)
    (λ t. refl) refl)
    (λ t. refl) refl)
    (λ t. refl) refl)
    refl refl

pub exact_items : Exact kind ItemsS items_r false (sign_code sign.Star ∷ item_begins) (sign_code sign.Comma ∷ dot)
unfolding ItemsS items_r keyword sign_is
exact_items = widen kind
    (exact_either kind _ _ _ _ _ (exact_as kind (λ _. None) _ _ (the_sign sign.Star refl)) (exact_as kind Some _ _ (exact_listed exact_item refl)) (λ t. refl) refl)
    refl refl

exact_direction : Exact kind DirectionS direction_r true directions (code words.Asc ∷ code words.Desc ∷ [])
unfolding DirectionS direction_r keyword sign_is
exact_direction = exact_either kind _ _ _ _ _ (exact_word_as words.Desc true refl)
    (exact_either kind _ _ _ _ _ (exact_word_as words.Asc false refl) (exact_nothing kind false) (λ t. refl) refl) (λ t. refl) refl

pub exact_key : Exact kind KeyS key_r false item_begins (sign_code sign.Dot ∷ code words.Asc ∷ code words.Desc ∷ [])
unfolding KeyS key_r keyword sign_is
exact_key = widen kind
    (exact_both kind key _ _ _ _ exact_item
    exact_direction refl)
    refl refl

pub exact_group : Exact kind GroupS group_r true (code words.Group ∷ []) (sign_code sign.Comma ∷ sign_code sign.Dot ∷ code words.Group ∷ [])
unfolding GroupS group_r keyword sign_is
exact_group = exact_either kind _ _ _ _ _ (after_word words.Group refl (after_word words.By refl (exact_listed exact_column refl))) (exact_nothing kind []) (λ t. refl) refl

pub exact_order : Exact kind OrderS order_r true (code words.Order ∷ []) (sign_code sign.Comma ∷ sign_code sign.Dot ∷ code words.Asc ∷ code words.Desc ∷ code words.Order ∷ [])
unfolding OrderS order_r keyword sign_is
exact_order = exact_either kind _ _ _ _ _ (after_word words.Order refl (after_word words.By refl (exact_listed exact_key refl))) (exact_nothing kind []) (λ t. refl) refl

limit_kind : (t : Token) (x : ℕ) → limit_of t ≡ Some x → has (a_number ∷ []) (kind t) ≡ true
limit_kind (token.Number n) x e = below (nat_lt n (2 ^ 63)) x e
  where
    below : (b : Bool) (y : ℕ) → cond b (Some n) None ≡ Some y → has (a_number ∷ []) (cond b a_number a_large) ≡ true
    below true y h = refl
    below false y h = cc
limit_kind (token.Keyword k) x e = cc
limit_kind (token.Sign s) x e = cc
limit_kind (token.Name n) x e = cc
limit_kind (token.Text n) x e = cc
limit_kind (token.Blob n) x e = cc
limit_kind token.Unknown x e = cc

pub exact_limit : Exact kind LimitS limit_r true (code words.Limit ∷ []) (code words.Limit ∷ [])
unfolding LimitS limit_r keyword sign_is
exact_limit = exact_optional kind (after_word words.Limit refl (exact_one kind limit_of (a_number ∷ []) limit_kind (token.Number 0) 0 refl))

abbrev tail_begins : List ℕ
tail_begins = code words.Where ∷ code words.Group ∷ code words.Order ∷ code words.Limit ∷ []

-- what may carry on a query
abbrev pub after_query : List ℕ
after_query = code words.Or ∷ code words.And ∷ sign_code sign.Dot ∷ sign_code sign.Comma ∷ code words.Asc ∷ code words.Desc ∷ code words.As ∷ a_name ∷ tail_begins

pub exact_tail : Exact kind TailS tail_r true tail_begins after_query
unfolding TailS tail_r keyword sign_is
exact_tail = widen kind
    (exact_both kind tail _ _ _ _ exact_where
    (exact_both kind pair _ _ _ _ exact_group (exact_both kind pair _ _ _ _ exact_order exact_limit refl) refl) refl)
    refl refl

pub exact_query : Exact kind QueryS query_r false (code words.Select ∷ code words.Selectv ∷ []) after_query
unfolding QueryS query_r keyword sign_is
exact_query = widen kind
    (exact_both kind query _ _ _ _ (exact_either kind _ _ _ _ _ (exact_word_as words.Selectv true refl) (exact_word_as words.Select false refl) (λ t. refl) refl)
    (exact_both kind pair _ _ _ _ exact_items (exact_both kind pair _ _ _ _ exact_from exact_tail refl) refl) refl)
    refl refl
