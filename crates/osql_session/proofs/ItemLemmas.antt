-- Used versions without repeats.
use Rattle.std.proofs.Common.{◌≡◌, ◌==◌, ◌&&◌, ◌||◌, ℕ, Bool, true, false, List, [], ◌∷◌, ◌++◌, if◌then◌else◌, refl, sym, ap, ◌∙◌}
use Rattle.std.specs.Prelude.{Some}
use Rattle.std.specs.List.{list_any}
use Rattle.cdb_values.specs.Changes.{taken_by}
use Rattle.cdb_values.specs.declared.items.GenidItem.{GenidItem}
use Rattle.cdb_values.specs.declared.rows.RowOp.{RowOp}
use Rattle.cdb_values.specs.declared.rows.RowOp.TheVariants.{Insert, Update, Delete}
use Rattle.cdb_values.specs.declared.rows.RowRef.TheVariants.{Base, Own}
use Rattle.indexmap.specs.IndexSet.{insert_key}
use Rattle.session_language.specs.Touched.{is_same_item}
use Rattle.osql_session.specs.Items.{with_item, with_items, without_repeats, item_in, items_in}

with_both : (items a b : List GenidItem) → with_items (with_items items a) b ≡ with_items items (a ++ b)
with_both items [] b = refl
with_both items (item ∷ a) b = with_both (with_item items item) a b

-- one list after the other
pub one_after_the_other : (a b : List GenidItem) → with_items (with_items [] a) b ≡ without_repeats (a ++ b)
one_after_the_other a b = with_both [] a b

-- the versions that an operation and those after it take away
pub taken_first : (items : List GenidItem) (op : RowOp) (ops : List RowOp) (item : GenidItem) → Some item ∷ [] ≡ Some item ∷ [] → item ∷ [] ≡ taken_by (op ∷ []) →
    with_items (with_item items item) (taken_by ops) ≡ with_items items (taken_by (op ∷ ops))
taken_first items op ops item _ is = ap (λ l. with_items items (l ++ taken_by ops)) is ∙ ap (with_items items) (sym (taken_more op ops))
  where
    taken_more : (op : RowOp) (ops : List RowOp) → taken_by (op ∷ ops) ≡ taken_by (op ∷ []) ++ taken_by ops
    taken_more (Insert table row) ops = refl
    taken_more (Update table (Base genid) old row) ops = refl
    taken_more (Update table (Own write) old row) ops = refl
    taken_more (Delete table (Base genid) old) ops = refl
    taken_more (Delete table (Own write) old) ops = refl

pub none_taken : (items : List GenidItem) (op : RowOp) (ops : List RowOp) → [] ≡ taken_by (op ∷ []) →
    with_items items (taken_by ops) ≡ with_items items (taken_by (op ∷ ops))
none_taken items op ops is = ap (λ l. with_items items (l ++ taken_by ops)) is ∙ ap (with_items items) (sym (taken_more op ops))
  where
    taken_more : (op : RowOp) (ops : List RowOp) → taken_by (op ∷ ops) ≡ taken_by (op ∷ []) ++ taken_by ops
    taken_more (Insert table row) ops = refl
    taken_more (Update table (Base genid) old row) ops = refl
    taken_more (Update table (Own write) old row) ops = refl
    taken_more (Delete table (Base genid) old) ops = refl
    taken_more (Delete table (Own write) old) ops = refl

-- tables and genids are the same where the versions are
are_same : ℕ × ℕ → ℕ × ℕ → Bool
are_same a b = (a.0 == b.0) && (a.1 == b.1)

known_in : (item : GenidItem) (known : List (ℕ × ℕ)) →
    list_any (λ k. (item.table == k.0) && (item.genid == k.1)) known ≡ list_any (is_same_item item) (items_in known)
known_in item [] = refl
known_in item (k ∷ known) = ap (λ b. ((item.table == k.0) && (item.genid == k.1)) || b) (known_in item known)

items_back : (known : List (ℕ × ℕ)) (k : ℕ × ℕ) → items_in (known ++ k ∷ []) ≡ items_in known ++ item_in k ∷ []
items_back [] k = refl
items_back (first ∷ known) k = ap (λ l. item_in first ∷ l) (items_back known k)

pub added : (known : List (ℕ × ℕ)) (item : GenidItem) →
    items_in (insert_key (λ a b. (a.0 == b.0) && (a.1 == b.1)) known (item.table, item.genid)) ≡ with_item (items_in known) item
added known item = by (list_any (λ k. (item.table == k.0) && (item.genid == k.1)) known) ∙ ap (λ b. if b then items_in known else items_in known ++ item ∷ []) (known_in item known)
  where
    by : (b : Bool) → items_in (if b then known else known ++ (item.table, item.genid) ∷ []) ≡ (if b then items_in known else items_in known ++ item ∷ [])
    by true = refl
    by false = items_back known (item.table, item.genid)
