-- The rows that a query gives of combinations of rows whose values can be told are rows of the grammar: it has an item or more,
-- SUM stays within 64 bits, and COUNT counts fewer combinations than 2 ^ 63.
use Rattle.std.proofs.Common.{◌≡◌, ℕ, zero, suc, ◌+◌, List, [], ◌∷◌, ◌++◌, length, map, take, Bool, true, false, cond, refl, subst, Option, Some, None, pos}
use Rattle.std.specs.Prelude.{ℤ, slice_get, option_map}
use Rattle.std.specs.Option.{option_and_then}
use Rattle.std.specs.Ordering.{is_lt, is_gt}
use Rattle.std.specs.List.{AllByRecursion}
use Rattle.std.proofs.lemmas.Option.{same_Some}
use Rattle.cdb_values.specs.Good.{same_values}
use Rattle.cdb_values.specs.Order.{value_order}
use Rattle.cdb_values.specs.declared.values.Value.{Value}
use Rattle.cdb_values.specs.declared.values.Value.TheVariants.{Null, Int}
use Rattle.session_language.proofs.EachLaws.{all_append}
use Rattle.session_language.proofs.AllLaws.{all_filtered}
use Rattle.session_language.specs.Spelled.{IsToldValue, IsToldRow, SpellsRow}
use Rattle.session_language.specs.Intervals.{cell}
use Rattle.sql_answer.specs.Aggregates.{is_64_bits, int_value, integers, total, sum_of, known, least_from, least, greatest_from, greatest, values_in, first_of, item_value, all_there, item_values}
use Rattle.sql_answer.specs.Conditions.{cell_of, column_value}
use Rattle.sql_answer.specs.Shapes.{Group, group, Keyed, keyed, is_below, is_grouped, key_items, grouped_with, values_at, grouped_from, grouped, groups_by, groups_of, projected, placed, sorted, ordered, limited, projections, arranged, shape}
use Rattle.sql_bind.specs.Bound.{BoundQuery}
use Rattle.sql_bind.specs.declared.types.BoundColumn.{BoundColumn}
use Rattle.sql_bind.specs.declared.types.BoundItem.{BoundItem}
use Rattle.sql_bind.specs.declared.types.BoundItem.TheVariants as item
use Rattle.sql_run.proofs.BoundLemmas.{row_from}
use Rattle.sql_run.proofs.GrammarLemmas.{HasOne}

abbrev Rows : Type 0
Rows = List (List Value)

-- ---- values

cell_is : (row : List Value) (column : ℕ) → AllByRecursion IsToldValue row → IsToldValue (cell row column)
cell_is [] column all = tt
cell_is (v ∷ vs) zero all = all.0
cell_is (v ∷ vs) (suc column) all = cell_is vs column all.1

-- the value of a column in rows of values that can be told
pub column_is : (rows : Rows) (column : BoundColumn) → AllByRecursion IsToldRow rows → IsToldValue (column_value rows column)
column_is rows column all = go rows column.place all
  where
    go : (rest : Rows) (place : ℕ) → AllByRecursion IsToldRow rest → IsToldValue (cell_of (slice_get rest place) column.column)
    go [] place all = tt
    go (row ∷ rest) zero all = cell_is row column.column all.0
    go (row ∷ rest) (suc place) all = go rest place all.1

values_are : (members : List Rows) (column : BoundColumn) → AllByRecursion (AllByRecursion IsToldRow) members → AllByRecursion IsToldValue (values_in members column)
values_are [] column all = tt
values_are (rows ∷ members) column all = (column_is rows column all.0, values_are members column all.1)

first_is : (values : List Value) → AllByRecursion IsToldValue values → IsToldValue (first_of values)
first_is [] all = tt
first_is (v ∷ vs) all = all.0

-- an integer that stays within 64 bits
bits_are : (x : ℤ) → is_64_bits x ≡ true → IsToldValue (Int x)
bits_are x is = tt

pub int_is : (x : ℤ) (v : Value) → int_value x ≡ Some v → IsToldValue v
int_is x v is = go (is_64_bits x) refl is
  where
    go : (b : Bool) → is_64_bits x ≡ b → cond b (Some (Int x)) None ≡ Some v → IsToldValue v
    go true within same = subst IsToldValue (same_Some (Int x) v same) (bits_are x within)
    go false past same = absurd cc

sum_is : (xs : List ℤ) (v : Value) → sum_of xs ≡ Some v → IsToldValue v
sum_is [] v is = subst IsToldValue (same_Some Null v is) tt
sum_is (x ∷ xs) v is = int_is (total (x ∷ xs)) v is

one_of : (b : Bool) (x y : Value) → IsToldValue x → IsToldValue y → IsToldValue (cond b x y)
one_of true x y first second = first
one_of false x y first second = second

least_from_is : (best : Value) (values : List Value) → IsToldValue best → AllByRecursion IsToldValue values → IsToldValue (least_from best values)
least_from_is best [] is all = is
least_from_is best (v ∷ vs) is all = least_from_is (cond (is_lt (value_order v best)) v best) vs (one_of (is_lt (value_order v best)) v best all.0 is) all.1

least_is : (values : List Value) → AllByRecursion IsToldValue values → IsToldValue (least values)
least_is [] all = tt
least_is (v ∷ vs) all = least_from_is v vs all.0 all.1

greatest_from_is : (best : Value) (values : List Value) → IsToldValue best → AllByRecursion IsToldValue values → IsToldValue (greatest_from best values)
greatest_from_is best [] is all = is
greatest_from_is best (v ∷ vs) is all = greatest_from_is (cond (is_gt (value_order v best)) v best) vs (one_of (is_gt (value_order v best)) v best all.0 is) all.1

greatest_is : (values : List Value) → AllByRecursion IsToldValue values → IsToldValue (greatest values)
greatest_is [] all = tt
greatest_is (v ∷ vs) all = greatest_from_is v vs all.0 all.1

-- ---- the items of a group

-- a group of such rows
abbrev IsGroup : List Rows → Type 0
IsGroup members = AllByRecursion (AllByRecursion IsToldRow) members

item_is : (members : List Rows) (i : BoundItem) (v : Value) → IsGroup members → item_value members i ≡ Some v → IsToldValue v
item_is members (item.Column column) v is same = subst IsToldValue (same_Some (first_of (values_in members column)) v same) (first_is (values_in members column) (values_are members column is))
item_is members item.Count v is same = subst IsToldValue (same_Some (Int (pos (length members))) v same) tt
item_is members (item.Sum column) v is same = sum_is (integers (values_in members column)) v same
item_is members (item.Min column) v is same =
    subst IsToldValue (same_Some (least (known (values_in members column))) v same) (least_is (known (values_in members column)) (all_filtered IsToldValue _ (values_in members column) (values_are members column is)))
item_is members (item.Max column) v is same =
    subst IsToldValue (same_Some (greatest (known (values_in members column))) v same) (greatest_is (known (values_in members column)) (all_filtered IsToldValue _ (values_in members column) (values_are members column is)))

-- each that is there has what each has
all_there_are : {A B : Type 0} (f : A → Option B) (P : A → Type 0) (Q : B → Type 0) → ((x : A) (y : B) → P x → f x ≡ Some y → Q y)
    → (xs : List A) (ys : List B) → AllByRecursion P xs → all_there (map f xs) ≡ Some ys → AllByRecursion Q ys
all_there_are {A} {B} f P Q each [] ys all is = subst (AllByRecursion Q) (same_Some [] ys is) tt
all_there_are {A} {B} f P Q each (x ∷ xs) ys all is = step (f x) refl (λ zs rest. all_there_are f P Q each xs zs all.1 rest) is
  where
    behind : (y : B) (o : Option (List B)) → f x ≡ Some y → ((zs : List B) → o ≡ Some zs → AllByRecursion Q zs) → option_map (λ zs. y ∷ zs) o ≡ Some ys → AllByRecursion Q ys
    behind y None first later is = absurd cc
    behind y (Some zs) first later is = subst (AllByRecursion Q) (same_Some (y ∷ zs) ys is) (each x y all.0 first, later zs refl)

    step : (o : Option B) → f x ≡ o → ((zs : List B) → all_there (map f xs) ≡ Some zs → AllByRecursion Q zs) → all_there (o ∷ map f xs) ≡ Some ys → AllByRecursion Q ys
    step None first later is = absurd cc
    step (Some y) first later is = behind y (all_there (map f xs)) first later is

there_has : {B : Type 0} (os : List (Option B)) (ys : List B) → HasOne os → all_there os ≡ Some ys → HasOne ys
there_has {B} [] ys has is = absurd has
there_has {B} (None ∷ os) ys has is = absurd cc
there_has {B} (Some y ∷ os) ys has is = go (all_there os) is
  where
    go : (o : Option (List B)) → option_map (λ zs. y ∷ zs) o ≡ Some ys → HasOne ys
    go None is = absurd cc
    go (Some zs) is = subst HasOne (same_Some (y ∷ zs) ys is) tt

free : {A : Type 0} (xs : List A) → AllByRecursion (λ (x : A). Unit {0}) xs
free [] = tt
free (x ∷ xs) = (tt, free xs)

mapped_has : {A B : Type 0} (f : A → B) (xs : List A) → HasOne xs → HasOne (map f xs)
mapped_has f [] has = absurd has
mapped_has f (x ∷ xs) has = tt

row_is : (members : List Rows) (items : List BoundItem) (row : List Value) → HasOne items → IsGroup members → item_values members items ≡ Some row → SpellsRow row
row_is members items row has is same =
    row_from row (there_has (map (item_value members) items) row (mapped_has (item_value members) items has) same)
    (all_there_are (item_value members) (λ (i : BoundItem). Unit {0}) IsToldValue (λ i v any given. item_is members i v is given) items row (free items) same)

-- ---- groups

abbrev IsGroupIn : Group → Type 0
IsGroupIn g = IsGroup g.members

with_one : (values : List Value) (rows : Rows) (groups : List Group) → AllByRecursion IsToldRow rows → AllByRecursion IsGroupIn groups → AllByRecursion IsGroupIn (grouped_with values rows groups)
with_one values rows [] is all = ((is, tt), tt)
with_one values rows (g ∷ gs) is all = pick (same_values g.values values) (with_one values rows gs is all.1)
  where
    pick : (b : Bool) → AllByRecursion IsGroupIn (grouped_with values rows gs)
        → AllByRecursion IsGroupIn (cond b (group g.values (g.members ++ rows ∷ []) ∷ gs) (g ∷ grouped_with values rows gs))
    pick true later = (all_append (AllByRecursion IsToldRow) g.members (rows ∷ []) all.0 (is, tt), all.1)
    pick false later = (all.0, later)

with_all : (columns : List BoundColumn) (groups : List Group) (combinations : List Rows) → AllByRecursion (AllByRecursion IsToldRow) combinations
    → AllByRecursion IsGroupIn groups → AllByRecursion IsGroupIn (grouped_from columns groups combinations)
with_all columns groups [] are all = all
with_all columns groups (rows ∷ combinations) are all =
    with_all columns (grouped_with (values_at columns rows) rows groups) combinations are.1 (with_one (values_at columns rows) rows groups are.0 all)

members_are : (groups : List Group) → AllByRecursion IsGroupIn groups → AllByRecursion IsGroup (map (λ g. g.members) groups)
members_are [] all = tt
members_are (g ∷ gs) all = (all.0, members_are gs all.1)

singles_are : (combinations : List Rows) → AllByRecursion (AllByRecursion IsToldRow) combinations → AllByRecursion IsGroup (map (λ rows. rows ∷ []) combinations)
singles_are [] all = tt
singles_are (rows ∷ combinations) all = ((all.0, tt), singles_are combinations all.1)

groups_are : (is_grouped : Bool) (columns : List BoundColumn) (combinations : List Rows) → AllByRecursion (AllByRecursion IsToldRow) combinations
    → AllByRecursion IsGroup (groups_by is_grouped columns combinations)
groups_are false columns combinations all = singles_are combinations all
groups_are true [] combinations all = (all, tt)
groups_are true (column ∷ columns) combinations all =
    members_are (grouped (column ∷ columns) combinations) (with_all (column ∷ columns) [] combinations all tt)

-- ---- rows with their keys

abbrev IsKeyed : Keyed → Type 0
IsKeyed k = SpellsRow k.row

projected_is : (query : BoundQuery) (members : List Rows) (k : Keyed) → HasOne query.items → IsGroup members → projected query members ≡ Some k → IsKeyed k
projected_is query members k has is same = go (item_values members query.items) refl same
  where
    with_keys : (row : List Value) → SpellsRow row → (o : Option (List Value)) → option_map (keyed row) o ≡ Some k → IsKeyed k
    with_keys row good None same = absurd cc
    with_keys row good (Some keys) same = subst IsKeyed (same_Some (keyed row keys) k same) good

    go : (o : Option (List Value)) → item_values members query.items ≡ o → option_and_then (λ row. option_map (keyed row) (item_values members (key_items query))) o ≡ Some k → IsKeyed k
    go None given same = absurd cc
    go (Some row) given same = with_keys row (row_is members query.items row has is given) (item_values members (key_items query)) same

placed_are : (below : Keyed → Keyed → Bool) (k : Keyed) (ks : List Keyed) → IsKeyed k → AllByRecursion IsKeyed ks → AllByRecursion IsKeyed (placed below k ks)
placed_are below k [] is all = (is, tt)
placed_are below k (other ∷ ks) is all = pick (below other k) (placed_are below k ks is all.1)
  where
    pick : (b : Bool) → AllByRecursion IsKeyed (placed below k ks) → AllByRecursion IsKeyed (cond b (other ∷ placed below k ks) (k ∷ other ∷ ks))
    pick true later = (all.0, later)
    pick false later = (is, all)

sorted_are : (below : Keyed → Keyed → Bool) (ks : List Keyed) → AllByRecursion IsKeyed ks → AllByRecursion IsKeyed (sorted below ks)
sorted_are below [] all = tt
sorted_are below (k ∷ ks) all = placed_are below k (sorted below ks) all.0 (sorted_are below ks all.1)

told_are : (ks : List Keyed) → AllByRecursion IsKeyed ks → AllByRecursion SpellsRow (map (λ k. k.row) ks)
told_are [] all = tt
told_are (k ∷ ks) all = (all.0, told_are ks all.1)

taken_are : (most : ℕ) (rows : Rows) → AllByRecursion SpellsRow rows → AllByRecursion SpellsRow (take most rows)
taken_are zero rows all = tt
taken_are (suc most) [] all = tt
taken_are (suc most) (row ∷ rows) all = (all.0, taken_are most rows all.1)

limited_are : (limit : Option ℕ) (rows : Rows) → AllByRecursion SpellsRow rows → AllByRecursion SpellsRow (limited limit rows)
limited_are None rows all = all
limited_are (Some most) rows all = taken_are most rows all

arranged_are : (query : BoundQuery) (ks : List Keyed) → AllByRecursion IsKeyed ks → AllByRecursion SpellsRow (arranged query ks)
arranged_are query ks all = limited_are query.limit (map (λ k. k.row) (ordered query.order ks)) (told_are (ordered query.order ks) (sorted_are (is_below query.order) ks all))

-- the rows of a query
pub shaped : (query : BoundQuery) (combinations : List Rows) (rows : Rows) → HasOne query.items → AllByRecursion (AllByRecursion IsToldRow) combinations
    → shape query combinations ≡ Some rows → AllByRecursion SpellsRow rows
unfolding shape
shaped query combinations rows has all same = go (projections query combinations) refl same
  where
    go : (o : Option (List Keyed)) → projections query combinations ≡ o → option_map (arranged query) o ≡ Some rows → AllByRecursion SpellsRow rows
    go None given same = absurd cc
    go (Some ks) given same =
        subst (AllByRecursion SpellsRow) (same_Some (arranged query ks) rows same)
        (arranged_are query ks
        (all_there_are (projected query) IsGroup IsKeyed (λ members k is given. projected_is query members k has is given) (groups_of query combinations) ks
        (groups_are (is_grouped query) query.group combinations all) given))
