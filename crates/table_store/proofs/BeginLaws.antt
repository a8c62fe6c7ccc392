-- The edits that make a store, and what they leave on pages that were never written.
use Rattle.std.proofs.Common.{◌≡◌, ◌⊎◌, inl, inr, ℕ, zero, suc, ◌+◌, ◌^◌, ◌≤◌, ◌<◌, ◌==◌, Bool, true, false, List, [], ◌∷◌, ◌++◌, length, map, drop, Option, Some, None, unwrap_or, refl, sym, ap, ◌∙◌, subst, arith, length-append}
use Rattle.std.proofs.lemmas.Bool.{eqb-true}
use Rattle.std.specs.List.{AllByRecursion, slice_get}
use Rattle.byteorder.specs.Endian.{big_number}
use Rattle.page_store.specs.Image.{Image, HasRoom, blank_image}
use Rattle.page_store.specs.Edits.{IsFit, after_edit}
use Rattle.page_store.specs.declared.edits.Edit.{Edit}
use Rattle.page_store.specs.declared.edits.Edit.TheVariants.{PutCell, SetHead}
use Rattle.page_store.specs.declared.pages.PageKind.TheVariants.{Free, Leaf, Meta}
use Rattle.page_workspace.specs.Drafts.{edited, edited_by, AreFit}
use Rattle.page_workspace.specs.Spare.{IsIn, AreApart, AreFree, IsMeta, first_cell, next_genid, count_of, first_free}
use Rattle.page_workspace.specs.declared.metas.Meta.{Meta as Told}
use Rattle.page_workspace.proofs.MetaLaws.{length-cell_of, next-cell_of, count-cell_of, free-cell_of}
use Rattle.page_workspace.proofs.DraftLaws.{edited_by-more, fit_more, edited_here, edited_other}
use Rattle.btree_index.specs.Trees.{Holds, IsLeafPage, IsFenced, top}
use Rattle.cdb_values.specs.Rows.{Rows, no_rows, versions_of}
use Rattle.cdb_values.specs.declared.rows.Version.{Version}
use Rattle.cdb_values.specs.declared.tables.TableDef.{TableDef}
use Rattle.cdb_values.specs.declared.tables.KeyDef.{KeyDef}
use Rattle.table_store.specs.Forests.{Pair, IsTree, AreTrees, joined, Forest}
use Rattle.table_store.specs.Plans.{Planned, key_trees, plan_from}
use Rattle.table_store.specs.Listings.{IsAmong, Lists, AreLists}
use Rattle.table_store.specs.States.{AreVersions, IsState}
use Rattle.table_store.specs.Stored.{Stands}
use Rattle.table_store.specs.Begins.{AreBlank, lone_head, turns, leaf_edits, first_cell_of, meta_edits}

-- the number of trees
pub key_count : (place : ℕ) (keys : List KeyDef) → length (key_trees place keys) ≡ length keys
key_count place [] = refl
key_count place (key ∷ keys) = ap (λ (n : ℕ). suc n) (key_count place keys)

pub plan_count : (place other : ℕ) (tables : List TableDef) → length (plan_from place tables) ≡ length (plan_from other tables)
plan_count place other [] = refl
plan_count place other (table ∷ tables) =
    let a = length-append (key_trees place table.keys) (plan_from (suc place) tables) in
    let b = length-append (key_trees other table.keys) (plan_from (suc other) tables) in
    let c = key_count place table.keys in
    let d = key_count other table.keys in
    let e : length (plan_from (suc place) tables) ≡ length (plan_from (suc other) tables) = plan_count (suc place) (suc other) tables in
    omega (arith, a, b, c, d, e)

pub plan_more : (table : TableDef) (tables : List TableDef) → length (plan_from 0 (table ∷ tables)) ≡ 1 + length table.keys + length (plan_from 0 tables)
plan_more table tables =
    let a = length-append (key_trees 0 table.keys) (plan_from 1 tables) in
    let b = key_count 0 table.keys in
    let c : length (plan_from 1 tables) ≡ length (plan_from 0 tables) = plan_count 1 0 tables in
    omega (arith, a, b, c)

-- one leaf more
pub leaves_more : (last : ℕ) → leaf_edits (last + 1) ≡ leaf_edits last ++ (last + 1, turns Leaf) ∷ []
leaves_more last =
    let next : suc last ≡ last + 1 = omega arith in
    subst (λ (n : ℕ). leaf_edits n ≡ leaf_edits last ++ (n, turns Leaf) ∷ []) next refl

-- edits in two parts
after_both : (xs ys : List (ℕ × Edit)) (pages : ℕ → Image) → edited_by (xs ++ ys) pages ≡ edited_by ys (edited_by xs pages)
after_both [] ys pages = refl
after_both (x ∷ xs) ys pages = after_both xs ys (edited pages x.0 x.1)

fit_both : (xs ys : List (ℕ × Edit)) (pages : ℕ → Image) → AreFit xs pages → AreFit ys (edited_by xs pages) → AreFit (xs ++ ys) pages
fit_both [] ys pages a b = b
fit_both (x ∷ xs) ys pages a b = (a.0, fit_both xs ys (edited pages x.0 x.1) a.1 b)

-- a leaf without cells
abbrev empty_leaf : Image
empty_leaf = record { head = lone_head Leaf; lsn = 0; cells = [] }

-- the meta page as it begins
abbrev first_meta : ℕ → Image
first_meta trees = record { head = lone_head Meta; lsn = 0; cells = first_cell_of trees ∷ [] }

-- the first pages are leaves, but for page 0, and all others are blank
record AreLeaves (last : ℕ) (pages : ℕ → Image) : Type 0 where
  leaf : (n : ℕ) → 0 < n → n ≤ last → pages n ≡ empty_leaf
  meta : pages 0 ≡ blank_image
  past : (n : ℕ) → last < n → pages n ≡ blank_image

nothing_taken : 0 ≤ 4072
nothing_taken = omega arith

turn_fits : (image : Image) → image ≡ blank_image → IsFit image (turns Leaf)
turn_fits image e = subst (λ (i : Image). IsFit i (turns Leaf)) (sym e) (record { found = refl; fits = nothing_taken })

meta_fits : (image : Image) → image ≡ blank_image → IsFit image (turns Meta)
meta_fits image e = subst (λ (i : Image). IsFit i (turns Meta)) (sym e) (record { found = refl; fits = nothing_taken })

leaves_made : (pages : ℕ → Image) → AreBlank pages → (last : ℕ) → AreLeaves last (edited_by (leaf_edits last) pages)
leaves_made pages blank zero = record { leaf = λ n low high. absurd (none n low high); meta = blank 0; past = λ n h. blank n }
  where
    none : (n : ℕ) → 0 < n → n ≤ 0 → ⊥
    none n low high = omega arith
leaves_made pages blank (suc last) =
    subst (AreLeaves (suc last)) (sym (edited_by-more (leaf_edits last) pages (suc last) (turns Leaf))) (more (leaves_made pages blank last))
  where
    before : ℕ → Image
    before = edited_by (leaf_edits last) pages

    more : AreLeaves last before → AreLeaves (suc last) (edited before (suc last) (turns Leaf))
    more made = record {
      leaf = λ n low high. go n low high (n == suc last) refl;
      meta = edited_other before (suc last) (turns Leaf) 0 first ∙ made.meta;
      past = λ n h. edited_other before (suc last) (turns Leaf) n (beyond n h) ∙ made.past n (less n h);
    }
      where
        first : 0 ≡ suc last → ⊥
        first e = omega arith

        beyond : (n : ℕ) → suc last < n → n ≡ suc last → ⊥
        beyond n h e = omega arith

        less : (n : ℕ) → suc last < n → last < n
        less n h = omega arith

        off : (n : ℕ) → (n == suc last) ≡ false → n ≡ suc last → ⊥
        off n h e = grind arith

        within : (n : ℕ) → n ≤ suc last → (n ≡ suc last → ⊥) → n ≤ last
        within n h other = grind arith

        go : (n : ℕ) → 0 < n → n ≤ suc last → (t : Bool) → (n == suc last) ≡ t → edited before (suc last) (turns Leaf) n ≡ empty_leaf
        go n low high true e =
            ap (edited before (suc last) (turns Leaf)) (eqb-true n (suc last) e)
            ∙ edited_here before (suc last) (turns Leaf)
            ∙ ap (λ (i : Image). after_edit i (turns Leaf) i.lsn) (made.past (suc last) (omega arith))
        go n low high false e = edited_other before (suc last) (turns Leaf) n (off n e) ∙ made.leaf n low (within n high (off n e))

leaves_fit : (pages : ℕ → Image) → AreBlank pages → (last : ℕ) → AreFit (leaf_edits last) pages
leaves_fit pages blank zero = tt
leaves_fit pages blank (suc last) =
    fit_more (leaf_edits last) pages (suc last) (turns Leaf) (leaves_fit pages blank last)
    (turn_fits (edited_by (leaf_edits last) pages (suc last)) ((leaves_made pages blank last).past (suc last) (omega arith)))

-- the pages of a store that begins
record IsBegun (last : ℕ) (pages : ℕ → Image) : Type 0 where
  leaf : (n : ℕ) → 0 < n → n ≤ last → pages n ≡ empty_leaf
  meta : pages 0 ≡ first_meta last
  past : (n : ℕ) → last < n → pages n ≡ blank_image

-- what the meta page tells as it begins
abbrev first_told : ℕ → Told
first_told trees = record { next = 1; count = trees + 1; free = 0 }

cell_length : (trees : ℕ) → length (first_cell_of trees) ≡ 24
cell_length trees = length-cell_of (first_told trees)

cell_fits : (trees : ℕ) (image : Image) → image ≡ after_edit blank_image (turns Meta) 0 → IsFit image (PutCell 0 (first_cell_of trees))
cell_fits trees image e = subst (λ (i : Image). IsFit i (PutCell 0 (first_cell_of trees))) (sym e) (record { found = low; fits = room })
  where
    low : 0 ≤ 0
    low = omega arith

    room : 4 + length (first_cell_of trees) + 0 ≤ 4072
    room = let long = cell_length trees in omega (arith, long)

meta_here : (pages : ℕ → Image) → pages 0 ≡ blank_image → edited pages 0 (turns Meta) 0 ≡ after_edit blank_image (turns Meta) 0
meta_here pages e = edited_here pages 0 (turns Meta) ∙ ap (λ (i : Image). after_edit i (turns Meta) i.lsn) e

begun : (pages : ℕ → Image) → AreBlank pages → (last : ℕ) → IsBegun last (edited_by (leaf_edits last ++ meta_edits last) pages)
begun pages blank last =
    subst (IsBegun last) (sym (after_both (leaf_edits last) (meta_edits last) pages)) (record {
      leaf = λ n low high. beside n (above n low) ∙ made.leaf n low high;
      meta = edited_here turned 0 put ∙ ap (λ (i : Image). after_edit i put i.lsn) (meta_here leaves made.meta);
      past = λ n h. beside n (beyond n h) ∙ made.past n h;
    })
  where
    leaves : ℕ → Image
    leaves = edited_by (leaf_edits last) pages

    made : AreLeaves last leaves
    made = leaves_made pages blank last

    turned : ℕ → Image
    turned = edited leaves 0 (turns Meta)

    put : Edit
    put = PutCell 0 (first_cell_of last)

    above : (n : ℕ) → 0 < n → n ≡ 0 → ⊥
    above n h e = omega arith

    beyond : (n : ℕ) → last < n → n ≡ 0 → ⊥
    beyond n h e = omega arith

    beside : (n : ℕ) → (n ≡ 0 → ⊥) → edited turned 0 put n ≡ leaves n
    beside n off = edited_other turned 0 put n off ∙ edited_other leaves 0 (turns Meta) n off

pub begin_fits : (pages : ℕ → Image) → AreBlank pages → (last : ℕ) → AreFit (leaf_edits last ++ meta_edits last) pages
begin_fits pages blank last =
    let leaves = edited_by (leaf_edits last) pages in
    let meta = (leaves_made pages blank last).meta in
    fit_both (leaf_edits last) (meta_edits last) pages (leaves_fit pages blank last)
    (meta_fits (leaves 0) meta, (cell_fits last (edited leaves 0 (turns Meta) 0) (meta_here leaves meta), tt))

-- what the meta page says
genid_is : (trees : ℕ) → big_number 8 (first_cell_of trees) ≡ 1
genid_is trees = next-cell_of (first_told trees) (omega arith)

count_is : (trees : ℕ) → trees + 1 < 2 ^ 62 → big_number 8 (drop 8 (first_cell_of trees)) ≡ trees + 1
count_is trees few =
    let room : trees + 1 < 2 ^ 64 = omega arith in
    count-cell_of (first_told trees) room

free_is : (trees : ℕ) → big_number 8 (drop 16 (first_cell_of trees)) ≡ 0
free_is trees = free-cell_of (first_told trees) (omega arith)

-- the trees
abbrev owns_from : ℕ → ℕ → List (List ℕ)
owns_from root zero = []
owns_from root (suc n) = (root ∷ []) ∷ owns_from (suc root) n

abbrev nothings : ℕ → List (List Pair)
nothings zero = []
nothings (suc n) = [] ∷ nothings n

leaf_tree : (pages : ℕ → Image) (root : ℕ) → pages root ≡ empty_leaf → IsTree pages root (root ∷ []) []
leaf_tree pages root e = record { height = 0; cells = []; holds = held; own_is = refl; pairs = refl }
  where
    held : Holds pages 0 (top root) []
    held = record {
      shaped = (subst IsLeafPage (sym e) (record { kind = refl; level = refl; cells = tt; fits = nothing_taken }), tt);
      fenced = (subst (λ (i : Image). IsFenced [] i.cells []) (sym e) (record { from = tt; to = tt; ascends = tt; next = tt }), tt);
      linked = ap (λ (i : Image). i.head.right) e;
      apart = ((λ i. i), tt);
      is = ap (λ (i : Image). i.cells ++ []) e;
    }

leaf_trees : (pages : ℕ → Image) (root n : ℕ) → ((k : ℕ) → root ≤ k → k < root + n → pages k ≡ empty_leaf) → AreTrees pages root (owns_from root n) (nothings n)
leaf_trees pages root zero h = tt
leaf_trees pages root (suc n) h =
    (leaf_tree pages root (h root (omega arith) (omega arith)), leaf_trees pages (suc root) n (λ k low high. h k (omega arith) (omega arith)))

record IsWithin (n root count : ℕ) : Type 0 where
  low : root ≤ n
  high : n < root + count

in_owns : (n root count : ℕ) → IsIn n (joined (owns_from root count)) → IsWithin n root count
in_owns n root zero i = absurd i
in_owns n root (suc count) (inl e) = record { low = omega arith; high = omega arith }
in_owns n root (suc count) (inr i) =
    let w = in_owns n (suc root) count i in
    let low : suc root ≤ n = w.low in
    let high : n < suc root + count = w.high in
    record { low = omega arith; high = omega arith }

apart_owns : (root count : ℕ) → AreApart (joined (owns_from root count))
apart_owns root zero = tt
apart_owns root (suc count) = ((λ i. above (in_owns root (suc root) count i).low), apart_owns (suc root) count)
  where
    above : suc root ≤ root → ⊥
    above h = omega arith

-- how many pages there are
begun_count : (pages : ℕ → Image) (last : ℕ) → IsBegun last pages → last + 1 < 2 ^ 62 → count_of pages ≡ last + 1
begun_count pages last b few = ap (λ (i : Image). big_number 8 (drop 8 (first_cell i.cells))) b.meta ∙ count_is last few

begun_forest : (pages : ℕ → Image) (last : ℕ) → IsBegun last pages → last + 1 < 2 ^ 62 → Forest pages 1 (owns_from 1 last) [] (nothings last)
begun_forest pages last b few = record {
  trees = leaf_trees pages 1 last (λ k low high. b.leaf k (omega arith) (omega arith));
  apart = apart_owns 1 last;
  spare = record {
    meta = subst IsMeta (sym b.meta) (record { kind = refl; one = refl; size = cell_length last });
    chain = ap (λ (i : Image). big_number 8 (drop 16 (first_cell i.cells))) b.meta ∙ free_is last;
    apart = tt;
    written = tt;
    kept = tt;
    past = λ n h. b.past n (behind n h);
  };
  off_meta = λ i. low (in_owns 0 1 last i).low;
  off_free = λ n i j. j;
  below = λ n i. under n (in_owns n 1 last i).high;
}
  where
    counted : count_of pages ≡ last + 1
    counted = begun_count pages last b few

    behind : (n : ℕ) → count_of pages ≤ n → last < n
    behind n h = let h : last + 1 ≤ n = subst (λ (k : ℕ). k ≤ n) counted h in omega arith

    low : 1 ≤ 0 → ⊥
    low h = omega arith

    under : (n : ℕ) → n < 1 + last → n < count_of pages
    under n h = subst (λ (k : ℕ). n < k) (sym counted) (omega arith)

-- the rows
empty_table : (tables : List TableDef) (t : ℕ) → versions_of (no_rows tables) t ≡ []
empty_table [] t = refl
empty_table (table ∷ tables) zero = refl
empty_table (table ∷ tables) (suc t) = empty_table tables t

nothing_listed : (rows : Rows) → ((t : ℕ) → versions_of rows t ≡ []) → (plan : List Planned) → AreLists rows plan (nothings (length plan))
nothing_listed rows none [] = tt
nothing_listed rows none (p ∷ ps) = (
  subst (λ (vs : List Version). Lists p.key vs []) (sym (none p.table)) (record { all = λ v i. absurd i; only = λ q i. absurd i }),
  nothing_listed rows none ps,
)

as_many : (tables : List TableDef) → length (no_rows tables).tables ≡ length tables
as_many [] = refl
as_many (table ∷ tables) = ap (λ (n : ℕ). suc n) (as_many tables)

all_empty : (tables : List TableDef) → AllByRecursion (AreVersions 1) (no_rows tables).tables
all_empty [] = tt
all_empty (table ∷ tables) = (record { rise = tt; coded = tt }, all_empty tables)

begun_state : (tables : List TableDef) → IsState tables (no_rows tables)
begun_state tables = record { tables_are = as_many tables; next = omega arith; versions = all_empty tables }

-- what the edits leave stands for the schema without rows
pub begin_stands : (pages : ℕ → Image) → AreBlank pages → (tables : List TableDef) (last : ℕ) → last ≡ length (plan_from 0 tables) → last + 1 < 2 ^ 62
    → Stands (edited_by (leaf_edits last ++ meta_edits last) pages) tables (no_rows tables)
begin_stands pages blank tables last e few =
    let b = begun pages blank last in
    record {
      owns = owns_from 1 last;
      free = [];
      lists = nothings last;
      forest = begun_forest (edited_by (leaf_edits last ++ meta_edits last) pages) last b few;
      listed = subst (λ (n : ℕ). AreLists (no_rows tables) (plan_from 0 tables) (nothings n)) (sym e)
          (nothing_listed (no_rows tables) (empty_table tables) (plan_from 0 tables));
      genid = ap (λ (i : Image). big_number 8 (first_cell i.cells)) b.meta ∙ genid_is last;
      state = begun_state tables;
    }

-- what the edits leave has few pages
pub begin_counts : (pages : ℕ → Image) → AreBlank pages → (last : ℕ) → last + 1 < 2 ^ 62
    → count_of (edited_by (leaf_edits last ++ meta_edits last) pages) < 2 ^ 62
begin_counts pages blank last few =
    let after = edited_by (leaf_edits last ++ meta_edits last) pages in
    subst (λ (n : ℕ). n < 2 ^ 62) (sym (begun_count after last (begun pages blank last) few)) few
