-- The two rows that are written out stand on their pages, by computation.
use Rattle.std.proofs.Common.{◌≡◌, ◌⊎◌, inl, inr, ℕ, zero, suc, ◌+◌, ◌^◌, ◌≤◌, ◌<◌, pos, true, false, List, [], ◌∷◌, length, map, Option, Some, None, refl, sym, ap, ◌∙◌, arith}
use Rattle.std.specs.List.{AllByRecursion}
use Rattle.page_store.specs.Image.{Image, HasRoom, blank_image}
use Rattle.page_workspace.specs.Spare.{IsIn, AreFree, IsMeta, count_of}
use Rattle.btree_index.specs.Keys.{before}
use Rattle.btree_index.specs.Cells.{key_of_cell, IsLeafCell}
use Rattle.btree_index.specs.Trees.{Holds, IsLeafPage, IsFenced, top, pair_of}
use Rattle.cdb_values.specs.declared.rows.Version.{Version}
use Rattle.cdb_values.specs.declared.tables.KeyDef.{KeyDef}
use Rattle.cdb_values.specs.declared.values.Value.{Value}
use Rattle.cdb_values.specs.declared.values.Value.TheVariants.{Int}
use Rattle.key_code.specs.Codes.{IsRowValue, HasRowCode}
use Rattle.table_store.specs.Forests.{Pair, IsTree, Forest, joined}
use Rattle.table_store.specs.Plans.{plan_from}
use Rattle.table_store.specs.Listings.{IsAmong, Lists, AreLists, pair_of_version}
use Rattle.table_store.specs.States.{Rise, AreVersions, IsState}
use Rattle.table_store.specs.Stored.{Stands}
use Rattle.table_store.specs.Worked.{by_id, worked_tables, with_id, worked_rows, row_cell, key_cell, lone_leaf, worked_pages}

abbrev first : Version
first = with_id 1 (pos 9)

abbrev second : Version
second = with_id 3 (pos 4)

abbrev both : List Version
both = first ∷ second ∷ []

-- a cell of one row, and of one key
row_fits : (genid id : ℕ) → IsLeafCell (row_cell genid id)
row_fits genid id =
    let whole : 10 ≤ 19 = omega arith in
    let key : 8 ≤ 1630 = omega arith in
    let size : 19 ≤ 1640 = omega arith in
    record { whole = whole; key = key; size = size }

key_fits : (id genid : ℕ) → IsLeafCell (key_cell id genid)
key_fits id genid =
    let whole : 11 ≤ 19 = omega arith in
    let key : 9 ≤ 1630 = omega arith in
    let size : 19 ≤ 1640 = omega arith in
    record { whole = whole; key = key; size = size }

two_fit : 46 ≤ 4072
two_fit = omega arith

rows_leaf : IsLeafPage (worked_pages 1)
rows_leaf = record { kind = refl; level = refl; cells = (row_fits 1 9, (row_fits 3 4, tt)); fits = two_fit }

keys_leaf : IsLeafPage (worked_pages 2)
keys_leaf = record { kind = refl; level = refl; cells = (key_fits 4 3, (key_fits 9 1, tt)); fits = two_fit }

rows_fenced : IsFenced [] (worked_pages 1).cells []
unfolding before
rows_fenced = record { from = (refl, (refl, tt)); to = (tt, (tt, tt)); ascends = (refl, tt); next = tt }

keys_fenced : IsFenced [] (worked_pages 2).cells []
unfolding before
keys_fenced = record { from = (refl, (refl, tt)); to = (tt, (tt, tt)); ascends = (refl, tt); next = tt }

rows_held : Holds worked_pages 0 (top 1) (row_cell 1 9 ∷ row_cell 3 4 ∷ [])
rows_held = record {
  shaped = (rows_leaf, tt);
  fenced = (rows_fenced, tt);
  linked = refl;
  apart = ((λ i. i), tt);
  is = refl;
}

keys_held : Holds worked_pages 0 (top 2) (key_cell 4 3 ∷ key_cell 9 1 ∷ [])
keys_held = record {
  shaped = (keys_leaf, tt);
  fenced = (keys_fenced, tt);
  linked = refl;
  apart = ((λ i. i), tt);
  is = refl;
}

abbrev row_list : List Pair
row_list = pair_of_version None first ∷ pair_of_version None second ∷ []

abbrev key_list : List Pair
key_list = pair_of_version (Some by_id) second ∷ pair_of_version (Some by_id) first ∷ []

rows_tree : IsTree worked_pages 1 (1 ∷ []) row_list
rows_tree = record { height = 0; cells = row_cell 1 9 ∷ row_cell 3 4 ∷ []; holds = rows_held; own_is = refl; pairs = refl }

keys_tree : IsTree worked_pages 2 (2 ∷ []) key_list
keys_tree = record { height = 0; cells = key_cell 4 3 ∷ key_cell 9 1 ∷ []; holds = keys_held; own_is = refl; pairs = refl }

none_free : AreFree worked_pages []
none_free = record {
  meta = record { kind = refl; one = refl; size = refl };
  chain = refl;
  apart = tt;
  written = tt;
  kept = tt;
  past = past;
}
  where
    low : (n : ℕ) → n < 3 → 3 ≤ n → ⊥
    low n few many = omega arith

    past : (id : ℕ) → count_of worked_pages ≤ id → worked_pages id ≡ blank_image
    past zero h = absurd (low 0 (omega arith) h)
    past (suc zero) h = absurd (low 1 (omega arith) h)
    past (suc (suc zero)) h = absurd (low 2 (omega arith) h)
    past (suc (suc (suc n))) h = refl

forest : Forest worked_pages 1 ((1 ∷ []) ∷ (2 ∷ []) ∷ []) [] (row_list ∷ key_list ∷ [])
forest = record {
  trees = (rows_tree, (keys_tree, tt));
  apart = (not_two, ((λ i. i), tt));
  spare = none_free;
  off_meta = not_meta;
  off_free = λ n i j. j;
  below = below;
}
  where
    clash : (m n : ℕ) → m < n → m ≡ n → ⊥
    clash m n h e = omega arith

    not_two : IsIn 1 (2 ∷ []) → ⊥
    not_two (inl e) = clash 1 2 (omega arith) e
    not_two (inr i) = i

    not_meta : IsIn 0 (1 ∷ 2 ∷ []) → ⊥
    not_meta (inl e) = clash 0 1 (omega arith) e
    not_meta (inr (inl e)) = clash 0 2 (omega arith) e
    not_meta (inr (inr i)) = i

    few : (m n : ℕ) → n < 3 → m ≡ n → m < 3
    few m n h e = omega arith

    below : (n : ℕ) → IsIn n (1 ∷ 2 ∷ []) → n < count_of worked_pages
    below n (inl e) = few n 1 (omega arith) e
    below n (inr (inl e)) = few n 2 (omega arith) e
    below n (inr (inr i)) = absurd i

rows_listed : Lists None both row_list
rows_listed = record { all = all; only = only }
  where
    all : (v : Version) → IsAmong v both → IsAmong (pair_of_version None v) row_list
    all v (inl e) = inl (ap (pair_of_version None) e)
    all v (inr (inl e)) = inr (inl (ap (pair_of_version None) e))
    all v (inr (inr i)) = absurd i

    only : (p : Pair) → IsAmong p row_list → (v : Version) × IsAmong v both × (p ≡ pair_of_version None v)
    only p (inl e) = (first, inl refl, e)
    only p (inr (inl e)) = (second, inr (inl refl), e)
    only p (inr (inr i)) = absurd i

keys_listed : Lists (Some by_id) both key_list
keys_listed = record { all = all; only = only }
  where
    all : (v : Version) → IsAmong v both → IsAmong (pair_of_version (Some by_id) v) key_list
    all v (inl e) = inr (inl (ap (pair_of_version (Some by_id)) e))
    all v (inr (inl e)) = inl (ap (pair_of_version (Some by_id)) e)
    all v (inr (inr i)) = absurd i

    only : (p : Pair) → IsAmong p key_list → (v : Version) × IsAmong v both × (p ≡ pair_of_version (Some by_id) v)
    only p (inl e) = (second, inr (inl refl), e)
    only p (inr (inl e)) = (first, inl refl, e)
    only p (inr (inr i)) = absurd i

readable : (n : ℕ) → n < 2 ^ 63 → IsRowValue (Int (pos n))
readable n few = record { written = record { range = few; short = tt }; text = tt }

versions : AreVersions 4 both
versions =
    let low : 1 < 4 = omega arith in
    let rises : 1 < 3 = omega arith in
    let high : 3 < 4 = omega arith in
    record {
      rise = (low, (rises, tt), (high, tt, tt));
      coded = ((readable 9 (omega arith), tt), ((readable 4 (omega arith), tt), tt));
    }

state : IsState worked_tables worked_rows
state = record { tables_are = refl; next = omega arith; versions = (versions, tt) }

pub two_rows : Stands worked_pages worked_tables worked_rows
two_rows = record {
  owns = (1 ∷ []) ∷ (2 ∷ []) ∷ [];
  free = [];
  lists = row_list ∷ key_list ∷ [];
  forest = forest;
  listed = (rows_listed, (keys_listed, tt));
  genid = refl;
  state = state;
}
