-- What a change of a tree needs of the pages, and what it leaves.
use Rattle.std.specs.Prelude.{◌≡◌, ◌⊎◌, ℕ, zero, suc, ◌≤◌, ◌<◌, ◌^◌, List, map, Option, None, Some, is_some, Bool, true, false, Result, Ok, Err}
use Rattle.page_store.specs.Image.{Image}
use Rattle.page_store.specs.Sources.{Rose}
use Rattle.page_store.specs.declared.pages.PageKind.TheVariants.{Leaf, Inner}
use Rattle.page_workspace.specs.Spare.{IsIn, AreFree, next_genid, count_of}
use Rattle.btree_index.specs.Keys.{Key}
use Rattle.btree_index.specs.Trees.{Holds, top, tree_pages, leaves, pair_of}
use Rattle.btree_index.specs.Ways.{IsAt}
use Rattle.btree_index.specs.Pairs.{HasKeyAt, choice, value_at, with_pair}
use Rattle.btree_index.specs.Fits.{HasSpare, IsFullUntil}
use Rattle.btree_index.specs.declared.paths.Way.{Way}
use Rattle.btree_index.specs.declared.inserts.InsertFault.{InsertFault}
use Rattle.btree_index.specs.declared.inserts.InsertFault.TheVariants.{Duplicate, Gone, NoMemory}
use Rattle.btree_index.specs.declared.inserts.Pass.{Pass}
use Rattle.btree_index.specs.declared.inserts.Pass.TheVariants.{Done, Again}

-- the tree of this list stands below the root, on its own pages; these, the meta page and the free pages are apart and
-- below the number of pages, and the pages from there on are blank
pub record TreeStands (pages : ℕ → Image) (root : ℕ) (own free : List ℕ) (list : List (Key × List ℕ)) : Type 0 where
  pub height : ℕ
  pub cells : List (List ℕ)
  pub holds : Holds pages height (top root) cells
  pub own_is : tree_pages pages height (top root) ≡ own
  pub pairs : map pair_of cells ≡ list
  pub spare : AreFree pages free
  pub off_meta : IsIn 0 own → ⊥
  pub off_free : (n : ℕ) → IsIn n own → IsIn n free → ⊥
  pub below : (n : ℕ) → IsIn n own → n < count_of pages

-- the next genid stays, and so does each page below the number of pages that is neither the meta page nor free nor of
-- the tree; what is of the tree or free now was one of these, or was never written. The number of pages does not fall, and
-- where it was below 2^62 it still is.
pub record Changes (old new : ℕ → Image) (own more free spare : List ℕ) : Type 0 where
  pub genid : next_genid new ≡ next_genid old
  pub count : count_of old ≤ count_of new
  pub few : count_of old < 2 ^ 62 → count_of new < 2 ^ 62
  pub others : (n : ℕ) → n < count_of old → (n ≡ 0 → ⊥) → (IsIn n own → ⊥) → (IsIn n free → ⊥) → new n ≡ old n
  pub tree : (n : ℕ) → IsIn n more → IsIn n own ⊎ IsIn n free ⊎ (count_of old ≤ n)
  pub unused : (n : ℕ) → IsIn n spare → IsIn n own ⊎ IsIn n free ⊎ (count_of old ≤ n)

-- no page is lost: each page of the tree and each free page is of the tree or free now, and so is each page that was taken
-- from the end
pub record LosesNone (old new : ℕ → Image) (own more free spare : List ℕ) : Type 0 where
  pub tree : (n : ℕ) → IsIn n own → IsIn n more ⊎ IsIn n spare
  pub unused : (n : ℕ) → IsIn n free → IsIn n more ⊎ IsIn n spare
  pub taken : (n : ℕ) → count_of old ≤ n → n < count_of new → IsIn n more ⊎ IsIn n spare

-- the tree of another list stands below the root, after such a change, and no page is lost
pub record Becomes (old new : ℕ → Image) (root : ℕ) (own free : List ℕ) (list : List (Key × List ℕ)) : Type 0 where
  pub more : List ℕ
  pub spare : List ℕ
  pub stands : TreeStands new root more spare list
  pub changes : Changes old new own more free spare
  pub lost : LosesNone old new own more free spare

-- an answer of an insert: the pair stands in the list where its key was not there before; `Duplicate` comes where it was
abbrev pub IsInserted : (ℕ → Image) → (ℕ → Image) → ℕ → List ℕ → List ℕ → Key → List ℕ → List (Key × List ℕ) → Result (Unit {0}) InsertFault → Type 0
IsInserted old new root own free key value list (Ok x) = (value_at key list ≡ None) × Becomes old new root own free (with_pair key value list)
IsInserted old new root own free key value list (Err Duplicate) = is_some (value_at key list) ≡ true
IsInserted old new root own free key value list (Err Gone) = Unit {0}
IsInserted old new root own free key value list (Err NoMemory) = Unit {0}

-- whether the pair was put: it was where its key was not there
abbrev pub IsPutAbsent : (ℕ → Image) → (ℕ → Image) → ℕ → List ℕ → List ℕ → Key → List ℕ → List (Key × List ℕ) → Bool → Type 0
IsPutAbsent old new root own free key value list true = (value_at key list ≡ None) × Becomes old new root own free (with_pair key value list)
IsPutAbsent old new root own free key value list false = is_some (value_at key list) ≡ true

-- one pass of an insert whose key is not there: it put the pair, or made room and left the list
abbrev pub IsPassed : (ℕ → Image) → (ℕ → Image) → ℕ → List ℕ → List ℕ → Key → List ℕ → List (Key × List ℕ) → Pass → Type 0
IsPassed old new root own free key value list Done = Becomes old new root own free (with_pair key value list)
IsPassed old new root own free key value list Again = Becomes old new root own free list

-- over any pages, the page so many steps below a root, where each step goes to the child below which the key may stand
abbrev pub way_down : (ℕ → Image) → ℕ → Key → ℕ → ℕ
way_down pages root key zero = root
way_down pages root key (suc steps) = choice key (pages (way_down pages root key steps)).cells

-- over any pages, a page is some steps below a root on the way to a key
pub record IsBelow (pages : ℕ → Image) (root : ℕ) (key : Key) (page : ℕ) : Type 0 where
  pub steps : ℕ
  pub is : way_down pages root key steps ≡ page

-- over any pages, the way from a root to a key ends at a leaf that has the key
pub record IsHeld (pages : ℕ → Image) (root : ℕ) (key : Key) : Type 0 where
  pub leaf : ℕ
  pub below : IsBelow pages root key leaf
  pub kind : (pages leaf).head.kind ≡ Leaf
  pub at : ℕ
  pub has : HasKeyAt key (pages leaf).cells at

-- an answer of an insert against the counts of losses before and after, which never fall: `Gone` comes only where they rose
abbrev pub IsExcusedInsert : {T : Type 0} → Result T InsertFault → ℕ → ℕ → Type 0
IsExcusedInsert (Ok x) before now = before ≤ now
IsExcusedInsert (Err Duplicate) before now = before ≤ now
IsExcusedInsert (Err Gone) before now = (before ≤ now) × Rose before now
IsExcusedInsert (Err NoMemory) before now = before ≤ now

-- a height with so many levels more
abbrev pub raise : ℕ → ℕ → ℕ
raise zero height = height
raise (suc depth) height = suc (raise depth height)

-- a page so deep on the way to a key, in a tree of this height
pub record IsPath (pages : ℕ → Image) (root : ℕ) (key : Key) (page height : ℕ) : Type 0 where
  pub depth : ℕ
  pub rest : ℕ
  pub tall : raise depth rest ≡ height
  pub at : IsAt (leaves pages depth (top root)) key page

-- over pages that hold a tree at the root, the page is on the way to the key
abbrev pub Leads : (ℕ → Image) → ℕ → Key → ℕ → Type 0
Leads pages root key page = (height : ℕ) (cells : List (List ℕ)) → Holds pages height (top root) cells → IsPath pages root key page height

-- a page above the leaves on the way, with room for a cell more, where one is told
abbrev pub LeadsOver : (ℕ → Image) → ℕ → Key → Option ℕ → Type 0
LeadsOver pages root key None = Unit {0}
LeadsOver pages root key (Some page) = Leads pages root key page × ((pages page).head.kind ≡ Inner) × HasSpare (pages page)

-- the way to a key: its leaf, and the last page above the leaves that has room for a cell more
pub record IsWay (pages : ℕ → Image) (root : ℕ) (key : Key) (way : Way) : Type 0 where
  pub leaf : Leads pages root key way.leaf
  pub kind : (pages way.leaf).head.kind ≡ Leaf
  pub roomy : LeadsOver pages root key way.roomy
  pub full : IsFullUntil pages key way.roomy way.leaf

-- whether a key is in the list, and where it is not the way to its leaf
abbrev pub IsPlace : (ℕ → Image) → ℕ → Key → List (Key × List ℕ) → Option Way → Type 0
IsPlace pages root key list None = is_some (value_at key list) ≡ true
IsPlace pages root key list (Some way) = (value_at key list ≡ None) × IsWay pages root key way
