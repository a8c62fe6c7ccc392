-- The versions that the cells of a rows' tree have.
use Rattle.std.proofs.Common.{◌≡◌, ℕ, suc, ◌+◌, ◌^◌, ◌≤◌, ◌<◌, List, [], ◌∷◌, ◌++◌, map, length, None, Some, refl, sym, ap, ◌∙◌, subst, arith, append_assoc, append-nil, length-append}
use Rattle.byteorder.specs.Endian.{big_bytes}
use Rattle.byteorder.specs.Numbers.{length-bytes_high_first}
use Rattle.btree_index.specs.Trees.{pair_of}
use Rattle.btree_index.specs.Cells.{key_of_cell, value_of_cell}
use Rattle.cdb_values.specs.Good.{FitsTable}
use Rattle.cdb_values.specs.declared.rows.Version.{Version}
use Rattle.cdb_values.specs.declared.tables.TableDef.{TableDef}
use Rattle.cdb_values.specs.declared.values.Value.{Value}
use Rattle.key_code.specs.Codes.{row_value, IsRowValue}
use Rattle.key_code.specs.Reads.{Decodes}
use Rattle.table_store.specs.Forests.{Pair}
use Rattle.table_store.specs.Listings.{pair_of_version}
use Rattle.table_store.specs.Readings.{row_pairs}
use Rattle.table_store.proofs.ListingLaws.{genid_tells}
use Rattle.table_store.proofs.StateLaws.{row_pair_tells, rows_tell}
use Rattle.table_state.specs.Listed.{IsCellOf, AreCellsOf}
use Rattle.table_store.proofs.ReadLaws.{no_pair}

-- of all versions some were found; these cells have those that are left
pub record IsLeft (table : TableDef) (least next : ℕ) (cells : List (List ℕ)) (found all : List Version) : Type 0 where
  pub left : List Version
  pub whole : found ++ left ≡ all
  pub cells_are : AreCellsOf table least next cells left

-- the first pair of a list, and the others
abbrev pub first_or : Pair → List Pair → Pair
first_or p [] = p
first_or p (q ∷ qs) = q

abbrev pub others_of : List Pair → List Pair
others_of [] = []
others_of (q ∷ qs) = qs

-- the cells of one version and of others
pub cells_more : (table : TableDef) (least next : ℕ) (cell : List ℕ) (cells : List (List ℕ)) (v : Version) (vs : List Version)
    → IsCellOf table least next cell v → AreCellsOf table (suc v.genid) next cells vs → AreCellsOf table least next (cell ∷ cells) (v ∷ vs)
cells_more table least next cell cells v vs h k = record {
  fitting = (h.fitting, k.fitting);
  pairs = ap (λ (p : Pair). p ∷ map pair_of cells) h.pair ∙ ap (λ (l : List Pair). pair_of_version None v ∷ l) k.pairs;
}

record IsCut (table : TableDef) (least next : ℕ) (cell : List ℕ) (cells : List (List ℕ)) (all : List Version) : Type 0 where
  first : Version
  others : List Version
  is : first ∷ others ≡ all
  here : IsCellOf table least next cell first
  more : AreCellsOf table (suc first.genid) next cells others

cells_cut : (table : TableDef) (least next : ℕ) (cell : List ℕ) (cells : List (List ℕ)) (all : List Version) → AreCellsOf table least next (cell ∷ cells) all
    → IsCut table least next cell cells all
cells_cut table least next cell cells [] h = absurd (no_pair (pair_of cell) (map pair_of cells) h.pairs)
cells_cut table least next cell cells (v ∷ vs) h = record {
  first = v;
  others = vs;
  is = refl;
  here = record { fitting = h.fitting.0; pair = ap (first_or (pair_of cell)) h.pairs };
  more = record { fitting = h.fitting.1; pairs = ap others_of h.pairs };
}

-- a cell has one version at most
pub one_version : (table : TableDef) (least next : ℕ) (cell : List ℕ) (v w : Version) → next < 2 ^ 62 → IsCellOf table least next cell v → IsCellOf table least next cell w
    → v ≡ w
one_version table least next cell v w small h k =
    let below : v.genid < next = h.fitting.below in
    let under : w.genid < next = k.fitting.below in
    row_pair_tells v w (omega (arith, below, small)) (omega (arith, under, small)) h.fitting.coded k.fitting.coded (sym h.pair ∙ k.pair)

-- none is there where the first cell has none
pub read_none : (table : TableDef) (least next : ℕ) (cell : List ℕ) (rest after cells : List (List ℕ)) (found : List Version) → rest ≡ cell ∷ after
    → ((v : Version) → IsCellOf table least next cell v → ⊥)
    → ((all : List Version) → AreCellsOf table 0 next cells all → IsLeft table least next rest found all) → (all : List Version) → AreCellsOf table 0 next cells all → ⊥
read_none table least next cell rest after cells found e none from all h =
    let l = from all h in
    let c = cells_cut table least next cell after l.left (subst (λ (r : List (List ℕ)). AreCellsOf table least next r l.left) e l.cells_are) in
    none c.first c.here

-- one version more
pub read_to : (table : TableDef) (least later next : ℕ) (cell : List ℕ) (rest after cells : List (List ℕ)) (found more : List Version) (v : Version) → rest ≡ cell ∷ after
    → later ≡ v.genid + 1 → more ≡ found ++ v ∷ [] → IsCellOf table least next cell v
    → ((left : List Version) → AreCellsOf table least next rest left → AreCellsOf table 0 next cells (found ++ left))
    → (left : List Version) → AreCellsOf table later next after left → AreCellsOf table 0 next cells (more ++ left)
read_to table least later next cell rest after cells found more v e l m h to left k =
    let same : later ≡ suc v.genid = omega (arith, l) in
    let joined : found ++ (v ∷ left) ≡ more ++ left = sym (append_assoc found (v ∷ []) left) ∙ ap (λ (x : List Version). x ++ left) (sym m) in
    subst (λ (x : List Version). AreCellsOf table 0 next cells x) joined
    (to (v ∷ left) (subst (λ (r : List (List ℕ)). AreCellsOf table least next r (v ∷ left)) (sym e)
    (cells_more table least next cell after v left h (subst (λ (n : ℕ). AreCellsOf table n next after left) same k))))

pub read_from : (table : TableDef) (least later next : ℕ) (cell : List ℕ) (rest after cells : List (List ℕ)) (found more : List Version) (v : Version) → next < 2 ^ 62
    → rest ≡ cell ∷ after → later ≡ v.genid + 1 → more ≡ found ++ v ∷ [] → IsCellOf table least next cell v
    → ((all : List Version) → AreCellsOf table 0 next cells all → IsLeft table least next rest found all)
    → (all : List Version) → AreCellsOf table 0 next cells all → IsLeft table later next after more all
read_from table least later next cell rest after cells found more v small e l m h from all k =
    let left = from all k in
    let c = cells_cut table least next cell after left.left (subst (λ (r : List (List ℕ)). AreCellsOf table least next r left.left) e left.cells_are) in
    let same : c.first ≡ v = one_version table least next cell c.first v small c.here h in
    let number : suc c.first.genid ≡ later = let g : c.first.genid ≡ v.genid = ap (λ (x : Version). x.genid) same in omega (arith, g, l) in
    record {
      left = c.others;
      whole = ap (λ (x : List Version). x ++ c.others) m ∙ append_assoc found (v ∷ []) c.others
          ∙ ap (λ (x : Version). found ++ x ∷ c.others) (sym same) ∙ ap (λ (x : List Version). found ++ x) c.is ∙ left.whole;
      cells_are = subst (λ (n : ℕ). AreCellsOf table n next after c.others) number c.more;
    }

pub read_ends : (table : TableDef) (least next : ℕ) (rest cells : List (List ℕ)) (found : List Version) → rest ≡ []
    → ((left : List Version) → AreCellsOf table least next rest left → AreCellsOf table 0 next cells (found ++ left)) → AreCellsOf table 0 next cells found
read_ends table least next rest cells found e to =
    subst (λ (x : List Version). AreCellsOf table 0 next cells x) (append-nil found)
    (to [] (record { fitting = tt; pairs = ap (map pair_of) e }))

pub read_begins : (table : TableDef) (next : ℕ) (cells : List (List ℕ)) (all : List Version) → AreCellsOf table 0 next cells all → IsLeft table 0 next cells [] all
read_begins table next cells all h = record { left = all; whole = refl; cells_are = h }

-- one cell
pub cell_there : (table : TableDef) (least next genid : ℕ) (row : List Value) (cell : List ℕ) → big_bytes 8 genid ≡ key_of_cell cell
    → Decodes row_value IsRowValue (Some row) (value_of_cell cell) → least ≤ genid → genid < next → FitsTable table row
    → IsCellOf table least next cell (record { genid = genid; row = row })
cell_there table least next genid row cell key value from below fits = record {
  fitting = record { from = from; below = below; coded = value.0; fits = fits };
  pair = ap (λ (k : List ℕ). (k, value_of_cell cell)) (sym key) ∙ ap (λ (l : List ℕ). (big_bytes 8 genid, l)) (sym value.1);
}

pub cell_unkeyed : (table : TableDef) (least next : ℕ) (cell : List ℕ) → next < 2 ^ 62 → ((n : ℕ) → n < 2 ^ 64 → key_of_cell cell ≡ big_bytes 8 n → ⊥)
    → (v : Version) → IsCellOf table least next cell v → ⊥
cell_unkeyed table least next cell small none v h =
    let below : v.genid < next = h.fitting.below in
    none v.genid (omega (arith, below, small)) (ap (λ (p : Pair). p.0) h.pair)

-- the genid of a version is that of its cell
same_genid : (table : TableDef) (least next genid : ℕ) (cell : List ℕ) (v : Version) → next < 2 ^ 62 → genid < 2 ^ 64 → big_bytes 8 genid ≡ key_of_cell cell
    → IsCellOf table least next cell v → genid ≡ v.genid
same_genid table least next genid cell v small fits key h =
    let below : v.genid < next = h.fitting.below in
    genid_tells genid v.genid fits (omega (arith, below, small)) (key ∙ ap (λ (p : Pair). p.0) h.pair)

pub cell_outside : (table : TableDef) (least next genid : ℕ) (cell : List ℕ) → next < 2 ^ 62 → genid < 2 ^ 64 → big_bytes 8 genid ≡ key_of_cell cell
    → (least ≤ genid → genid < next → ⊥) → (v : Version) → IsCellOf table least next cell v → ⊥
cell_outside table least next genid cell small fits key out v h =
    let same = same_genid table least next genid cell v small fits key h in
    out (subst (λ (n : ℕ). least ≤ n) (sym same) h.fitting.from) (subst (λ (n : ℕ). n < next) (sym same) h.fitting.below)

pub cell_uncoded : (table : TableDef) (least next : ℕ) (cell : List ℕ) → Decodes row_value IsRowValue None (value_of_cell cell) → (v : Version)
    → IsCellOf table least next cell v → ⊥
cell_uncoded table least next cell none v h = none v.row h.fitting.coded (sym (ap (λ (p : Pair). p.1) h.pair))

pub cell_unfit : (table : TableDef) (least next : ℕ) (row : List Value) (cell : List ℕ) → Decodes row_value IsRowValue (Some row) (value_of_cell cell)
    → (FitsTable table row → ⊥) → (v : Version) → IsCellOf table least next cell v → ⊥
cell_unfit table least next row cell d unfit v h =
    let same : row ≡ v.row = rows_tell row v.row d.0 h.fitting.coded (d.1 ∙ ap (λ (p : Pair). p.1) h.pair) in
    unfit (subst (λ (r : List Value). FitsTable table r) (sym same) h.fitting.fits)

pub no_genid : (bytes : List ℕ) → length bytes < 8 → (n : ℕ) → bytes ≡ big_bytes 8 n → ⊥
no_genid bytes short n e = let long : length bytes ≡ 8 = ap length e ∙ length-bytes_high_first 8 n in omega (arith, short, long)

pub long_genid : (bytes rest : List ℕ) (g : ℕ) → big_bytes 8 g ++ rest ≡ bytes → (rest ≡ [] → ⊥) → (n : ℕ) → bytes ≡ big_bytes 8 n → ⊥
long_genid bytes rest g e some n f = some (none rest (big_bytes 8 g) (length-bytes_high_first 8 g) (ap length (e ∙ f) ∙ length-bytes_high_first 8 n))
  where
    none : (r front : List ℕ) → length front ≡ 8 → length (front ++ r) ≡ 8 → r ≡ []
    none [] front a b = refl
    none (x ∷ xs) front a b = absurd (let sum = length-append front (x ∷ xs) in let more : length (x ∷ xs) ≡ suc (length xs) = refl in omega (arith, a, b, sum, more))

-- cells have one list of versions at most
pub one_reading : (table : TableDef) (least next : ℕ) (cells : List (List ℕ)) (vs ws : List Version) → next < 2 ^ 62 → AreCellsOf table least next cells vs
    → AreCellsOf table least next cells ws → vs ≡ ws
one_reading table least next [] [] [] small h k = refl
one_reading table least next [] (v ∷ vs) ws small h k = absurd (no_pair (pair_of_version None v) (row_pairs vs) (sym h.pairs))
one_reading table least next [] [] (w ∷ ws) small h k = absurd (no_pair (pair_of_version None w) (row_pairs ws) (sym k.pairs))
one_reading table least next (c ∷ cs) vs ws small h k =
    let a = cells_cut table least next c cs vs h in
    let b = cells_cut table least next c cs ws k in
    let same : a.first ≡ b.first = one_version table least next c a.first b.first small a.here b.here in
    sym a.is ∙ ap (λ (x : Version). x ∷ a.others) same
    ∙ ap (λ (l : List Version). b.first ∷ l) (one_reading table (suc b.first.genid) next cs a.others b.others small
    (subst (λ (x : Version). AreCellsOf table (suc x.genid) next cs a.others) same a.more) b.more)
    ∙ b.is
