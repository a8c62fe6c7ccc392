-- What operations make of one tree, from pages that stand: all that goes first, then all that comes.
use Rattle.std.proofs.Common.{◌≡◌, ◌⊎◌, inl, inr, ℕ, zero, suc, ◌+◌, ◌^◌, ◌≤◌, ◌<◌, ◌==◌, Bool, true, false, not, if◌then◌else◌, List, [], ◌∷◌, ◌++◌, length, Option, Some, None, refl, sym, ap, ◌∙◌, subst, arith}
use Rattle.std.specs.List.{AllByRecursion, filter}
use Rattle.page_store.specs.Image.{Image}
use Rattle.cdb_values.specs.Rows.{Rows, version, without, versions_of, apply, apply_all}
use Rattle.cdb_values.specs.declared.rows.RowOp.{RowOp}
use Rattle.cdb_values.specs.declared.rows.RowOp.TheVariants.{Insert, Update, Delete}
use Rattle.cdb_values.specs.declared.rows.RowRef.TheVariants.{Base, Own}
use Rattle.cdb_values.specs.declared.rows.Version.{Version}
use Rattle.cdb_values.specs.declared.tables.KeyDef.{KeyDef}
use Rattle.cdb_values.specs.declared.values.Value.{Value}
use Rattle.key_code.specs.Codes.{IsRowValue}
use Rattle.table_store.specs.Forests.{Pair, IsTree}
use Rattle.table_store.specs.Listings.{IsAmong, Lists}
use Rattle.table_store.specs.States.{Rise, AreVersions}
use Rattle.table_store.specs.Operations.{AreDoable, gone, born, removed, put_all, NoTwice, breaks_in}
use Rattle.table_store.proofs.AmongLaws.{among_all, among_filter, all_among}
use Rattle.table_store.proofs.ListingLaws.{without_all, IsSmall}
use Rattle.table_store.proofs.BrokenLaws.{Ranged}
use Rattle.table_store.proofs.TreeLemmas.{Later, Change, tree_kept, tree_broken}
use Rattle.table_store.proofs.ApplyLemmas.{after_all}
use Rattle.table_store.proofs.StateLaws.{rise_below}
use Rattle.table_store.proofs.RisingLaws.{tree_once}
use Rattle.table_store.proofs.KeptLaws.{later_from, one_genid, all_ranged}

-- the next genid after operations
abbrev pub next_after : ℕ → List RowOp → ℕ
next_after next [] = next
next_after next (Insert place row ∷ ops) = next_after (next + 1) ops
next_after next (Update place (Base genid) old row ∷ ops) = next_after (next + 1) ops
next_after next (Update place (Own write) old row ∷ ops) = next_after next ops
next_after next (Delete place target old ∷ ops) = next_after next ops

next_is : (rows : Rows) (ops : List RowOp) → (apply_all rows ops).next ≡ next_after rows.next ops
next_is rows [] = refl
next_is rows (Insert place row ∷ ops) = next_is (apply rows (Insert place row)) ops
next_is rows (Update place (Base genid) old row ∷ ops) = next_is (apply rows (Update place (Base genid) old row)) ops
next_is rows (Update place (Own write) old row ∷ ops) = next_is rows ops
next_is rows (Delete place (Base genid) old ∷ ops) = next_is (apply rows (Delete place (Base genid) old)) ops
next_is rows (Delete place (Own write) old ∷ ops) = next_is rows ops

next_rises : (next : ℕ) (ops : List RowOp) → next ≤ next_after next ops
next_rises next [] = omega arith
next_rises next (Insert place row ∷ ops) = let h = next_rises (next + 1) ops in omega (arith, h)
next_rises next (Update place (Base genid) old row ∷ ops) = let h = next_rises (next + 1) ops in omega (arith, h)
next_rises next (Update place (Own write) old row ∷ ops) = next_rises next ops
next_rises next (Delete place target old ∷ ops) = next_rises next ops

-- versions of rising genids from a number on
pub record From (next last : ℕ) (versions : List Version) : Type 0 where
  pub from : AllByRecursion (λ v. next ≤ v.genid) versions
  pub rise : Rise versions last

from_later : (next last : ℕ) (versions : List Version) → From (next + 1) last versions → From next last versions
from_later next last versions h = record { from = later versions h.from; rise = h.rise }
  where
    later : (vs : List Version) → AllByRecursion (λ v. next + 1 ≤ v.genid) vs → AllByRecursion (λ v. next ≤ v.genid) vs
    later [] a = tt
    later (v ∷ vs) a = (let here : next + 1 ≤ v.genid = a.0 in omega (arith, here), later vs a.1)

from_more : (next last : ℕ) (row : List Value) (versions : List Version) (t : Bool) → next + 1 ≤ last → From (next + 1) last versions
    → From next last (if t then version next row ∷ versions else versions)
from_more next last row versions false less h = from_later next last versions h
from_more next last row versions true less h = record {
  from = (omega arith, (from_later next last versions h).from);
  rise = (omega (arith, less), above versions h.from, h.rise);
}
  where
    above : (vs : List Version) → AllByRecursion (λ v. next + 1 ≤ v.genid) vs → AllByRecursion (λ v. next < v.genid) vs
    above [] a = tt
    above (v ∷ vs) a = (let here : next + 1 ≤ v.genid = a.0 in omega (arith, here), above vs a.1)

pub born_from : (table next : ℕ) (ops : List RowOp) → From next (next_after next ops) (born table next ops)
born_from table next [] = record { from = tt; rise = tt }
born_from table next (Insert place row ∷ ops) =
    from_more next (next_after (next + 1) ops) row (born table (next + 1) ops) (place == table) (next_rises (next + 1) ops) (born_from table (next + 1) ops)
born_from table next (Update place (Base genid) old row ∷ ops) =
    from_more next (next_after (next + 1) ops) row (born table (next + 1) ops) (place == table) (next_rises (next + 1) ops) (born_from table (next + 1) ops)
born_from table next (Update place (Own write) old row ∷ ops) = born_from table next ops
born_from table next (Delete place target old ∷ ops) = born_from table next ops

pub all_filter : {A : Type 0} (P : A → Type 0) (test : A → Bool) (xs : List A) → AllByRecursion P xs → AllByRecursion P (filter test xs)
all_filter P test xs h = all_among P (filter test xs) (λ x i. among_all P x xs h (among_filter test x xs i).0)

pub rise_without : (genid next : ℕ) (vs : List Version) → Rise vs next → Rise (without genid vs) next
rise_without genid next [] h = tt
rise_without genid next (v ∷ vs) h = go (not (v.genid == genid)) (rise_without genid next vs h.2)
  where
    go : (t : Bool) → Rise (without genid vs) next → Rise (if t then v ∷ without genid vs else without genid vs) next
    go true r = (h.0, all_filter (λ w. v.genid < w.genid) (λ w. not (w.genid == genid)) vs h.1, r)
    go false r = r

versions_without : (gs : List Version) (next : ℕ) (vs : List Version) → AreVersions next vs → AreVersions next (without_all gs vs)
versions_without [] next vs h = h
versions_without (g ∷ gs) next vs h = versions_without gs next (without g.genid vs) (record {
  rise = rise_without g.genid next vs h.rise;
  coded = all_filter (λ v. AllByRecursion IsRowValue v.row) (λ w. not (w.genid == g.genid)) vs h.coded;
})

all_small : (vs : List Version) (next : ℕ) → next < 2 ^ 64 → Rise vs next → AllByRecursion IsSmall vs
all_small vs next small h = all_among IsSmall vs (λ v i. (let below : v.genid < next = rise_below v vs next h i in omega (arith, below, small)))

-- a tree of pages that stand, and operations whose targets are there, each once, with the rows that they tell
pub change_of : (pages : ℕ → Image) (root table next : ℕ) (own : List ℕ) (list : List Pair) (key : Option KeyDef) (versions : List Version) (ops : List RowOp)
    → IsTree pages root own list → Lists key versions list → AreVersions next versions → next_after next ops < 2 ^ 64
    → AllByRecursion (λ v. IsAmong v versions) (gone table ops) → NoTwice (gone table ops)
    → AllByRecursion (λ v. AllByRecursion IsRowValue v.row) (born table next ops) → Change key versions (gone table ops) (born table next ops) list
change_of pages root table next own list key versions ops t lists are small there once coded =
    let less = next_rises next ops in
    let first : next < 2 ^ 64 = omega (arith, less, small) in
    let left : AreVersions next (without_all (gone table ops) versions) = versions_without (gone table ops) next versions are in
    let came = born_from table next ops in
    record {
      lists = lists;
      each = tree_once pages root own list t;
      ones = one_genid versions next first are.rise;
      there = there;
      once = once;
      small = all_small (without_all (gone table ops) versions) next first left.rise;
      ranged = all_ranged (without_all (gone table ops) versions) left.coded;
      rising = later_from [] (without_all (gone table ops) versions) next left.rise (λ w i. absurd i);
      born_small = all_small (born table next ops) (next_after next ops) small came.rise;
      born_ranged = all_ranged (born table next ops) coded;
      born_later = later_from (without_all (gone table ops) versions) (born table next ops) (next_after next ops) came.rise
          (λ w i. above w (rise_below w (without_all (gone table ops) versions) next left.rise i) (born table next ops) came.from);
    }
  where
    above : (w : Version) → w.genid < next → (vs : List Version) → AllByRecursion (λ v. next ≤ v.genid) vs → AllByRecursion (λ v. w.genid < v.genid) vs
    above w h [] a = tt
    above w h (v ∷ vs) a = (let here : next ≤ v.genid = a.0 in omega (arith, here, h), above w h vs a.1)

gone_below : (gs versions : List Version) (next : ℕ) → Rise versions next → AllByRecursion (λ v. IsAmong v versions) gs → AllByRecursion (λ (g : Version). g.genid < next) gs
gone_below [] versions next h a = tt
gone_below (g ∷ gs) versions next h a = (rise_below g versions next h a.0, gone_below gs versions next h a.1)

-- the law of one tree: what follows from all being put in, and from that not being so
pub record TreeAfter (key : Option KeyDef) (versions gone born : List Version) (list : List Pair) : Type 0 where
  pub listed : (after : List Pair) → put_all key born (removed key gone list) ≡ Some after → Lists key versions after
  pub kept : (after : List Pair) → put_all key born (removed key gone list) ≡ Some after → breaks_in key versions ≡ false
  pub broken : put_all key born (removed key gone list) ≡ None → breaks_in key versions ≡ true

pub tree_after : (pages : ℕ → Image) (root table : ℕ) (own : List ℕ) (list : List Pair) (key : Option KeyDef) (rows : Rows) (ops : List RowOp)
    → IsTree pages root own list → Lists key (versions_of rows table) list → AreVersions rows.next (versions_of rows table)
    → table < length rows.tables → AreDoable rows table ops
    → TreeAfter key (versions_of (apply_all rows ops) table) (gone table ops) (born table rows.next ops) list
tree_after pages root table own list key rows ops t lists are known able =
    let few : next_after rows.next ops < 2 ^ 64 = subst (λ (n : ℕ). n < 2 ^ 64) (next_is rows ops) able.next in
    let change = change_of pages root table rows.next own list key (versions_of rows table) ops t lists are few able.there able.once able.coded in
    let same = sym (after_all ops rows table known (gone_below (gone table ops) (versions_of rows table) rows.next are.rise able.there)) in
    record {
      listed = λ after put. subst (λ (vs : List Version). Lists key vs after) same
          (tree_kept key (versions_of rows table) (gone table ops) (born table rows.next ops) list after change put).0;
      kept = λ after put. subst (λ (vs : List Version). breaks_in key vs ≡ false) same
          (tree_kept key (versions_of rows table) (gone table ops) (born table rows.next ops) list after change put).1;
      broken = λ none. subst (λ (vs : List Version). breaks_in key vs ≡ true) same
          (tree_broken key (versions_of rows table) (gone table ops) (born table rows.next ops) list change none);
    }
