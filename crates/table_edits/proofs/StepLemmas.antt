-- One tree more: it was changed, or no operation names its table.
use Rattle.std.proofs.Common.{◌≡◌, ℕ, suc, ◌+◌, ◌<◌, ◌==◌, Bool, true, false, if◌then◌else◌, List, [], ◌∷◌, ◌++◌, length, Option, Some, None, refl, sym, ap, ◌∙◌, subst, arith, append_assoc, length-append}
use Rattle.std.specs.Prelude.{Result, Ok, Err, OnOk}
use Rattle.std.specs.List.{slice_get, slice_set, list_any}
use Rattle.page_store.specs.Image.{Image}
use Rattle.btree_index.specs.Filled.{KeepsFilled}
use Rattle.btree_index.proofs.FilledLemmas.{filled_none}
use Rattle.btree_index.specs.Changes.{TreeStands, Changes, LosesNone, Becomes}
use Rattle.btree_index.specs.declared.inserts.InsertFault.{InsertFault}
use Rattle.btree_index.specs.declared.inserts.InsertFault.TheVariants.{Duplicate, Gone, NoMemory}
use Rattle.btree_index.proofs.StandLemmas.{changes_none, changes_after, loses_none, loses_after}
use Rattle.cdb_values.specs.Rows.{Rows, version, versions_of, apply_all}
use Rattle.cdb_values.specs.declared.rows.RowOp.{RowOp}
use Rattle.cdb_values.specs.declared.rows.RowOp.TheVariants.{Insert, Update, Delete}
use Rattle.cdb_values.specs.declared.rows.RowRef.TheVariants.{Base, Own}
use Rattle.cdb_values.specs.declared.rows.Version.{Version}
use Rattle.cdb_values.specs.declared.tables.KeyDef.{KeyDef}
use Rattle.table_store.specs.Forests.{Pair, IsTree, AreTrees, joined, Forest}
use Rattle.table_store.specs.Listings.{Lists, AreLists}
use Rattle.table_store.specs.Plans.{Planned}
use Rattle.table_store.specs.States.{AreVersions}
use Rattle.table_store.specs.Operations.{gone, born, removed, put_all, breaks_in, AreDoable}
use Rattle.table_changes.specs.Changed.{IsPut}
use Rattle.table_changes.specs.Freed.{TakesThenPuts}
use Rattle.table_edits.specs.Answers.{TellsOne}
use Rattle.table_edits.specs.Fits.{names}
use Rattle.table_edits.specs.Halfway.{IsHalfway}
use Rattle.table_edits.specs.Kept.{Store, LeavesUnnamed}
use Rattle.table_edits.proofs.FreedLemmas.{left_alone, trees_more}
use Rattle.table_edits.proofs.FilledLemmas.{tree_filled}
use Rattle.table_edits.proofs.KeptLemmas.{forest_changes, forest_loses, unnamed_beside, unnamed_after, unnamed_none}
use Rattle.table_edits.proofs.ListLemmas.{get_middle, set_middle, set_none, get_some, or_false}
use Rattle.table_edits.proofs.StateLemmas.{versions_at}

-- the laws of several trees, and of one tree after operations
pub record Laws : Type 0 where
  pub stands : (pages : ℕ → Image) (root at : ℕ) (owns : List (List ℕ)) (free own : List ℕ)
      (lists : List (List Pair)) (list : List Pair) → Forest pages root owns free lists →
      slice_get owns at ≡ Some own → slice_get lists at ≡ Some list → TreeStands pages (root + at) own free list
  pub keeps : (old new : ℕ → Image) (root at : ℕ) (owns : List (List ℕ)) (free own : List ℕ)
      (lists : List (List Pair)) (list after : List Pair) → Forest old root owns free lists →
      slice_get owns at ≡ Some own → slice_get lists at ≡ Some list →
      (change : Becomes old new (root + at) own free after) →
      Forest new root (slice_set owns at change.more) change.spare (slice_set lists at after)
  pub listed : (pages : ℕ → Image) (root table : ℕ) (own : List ℕ) (list after : List Pair) (key : Option KeyDef)
      (rows : Rows) (ops : List RowOp) → IsTree pages root own list → Lists key (versions_of rows table) list →
      AreVersions rows.next (versions_of rows table) → table < length rows.tables → AreDoable rows table ops →
      put_all key (born table rows.next ops) (removed key (gone table ops) list) ≡ Some after →
      Lists key (versions_of (apply_all rows ops) table) after
  pub kept : (pages : ℕ → Image) (root table : ℕ) (own : List ℕ) (list after : List Pair) (key : Option KeyDef)
      (rows : Rows) (ops : List RowOp) → IsTree pages root own list → Lists key (versions_of rows table) list →
      AreVersions rows.next (versions_of rows table) → table < length rows.tables → AreDoable rows table ops →
      put_all key (born table rows.next ops) (removed key (gone table ops) list) ≡ Some after →
      breaks_in key (versions_of (apply_all rows ops) table) ≡ false
  pub broken : (pages : ℕ → Image) (root table : ℕ) (own : List ℕ) (list : List Pair) (key : Option KeyDef)
      (rows : Rows) (ops : List RowOp) → IsTree pages root own list → Lists key (versions_of rows table) list →
      AreVersions rows.next (versions_of rows table) → table < length rows.tables → AreDoable rows table ops →
      put_all key (born table rows.next ops) (removed key (gone table ops) list) ≡ None →
      breaks_in key (versions_of (apply_all rows ops) table) ≡ true

-- as many lists as trees
lists_long : (rows : Rows) (ps : List Planned) (ls : List (List Pair)) → AreLists rows ps ls → length ps ≡ length ls
lists_long rows [] [] h = refl
lists_long rows [] (l ∷ ls) h = absurd h
lists_long rows (p ∷ ps) [] h = absurd h
lists_long rows (p ∷ ps) (l ∷ ls) h = ap (λ (n : ℕ). suc n) (lists_long rows ps ls h.1)

owns_long : (pages : ℕ → Image) (root : ℕ) (owns : List (List ℕ)) (lists : List (List Pair)) → AreTrees pages root owns lists → length owns ≡ length lists
owns_long pages root [] [] h = refl
owns_long pages root [] (l ∷ ls) h = absurd h
owns_long pages root (o ∷ os) [] h = absurd h
owns_long pages root (o ∷ os) (l ∷ ls) h = ap (λ (n : ℕ). suc n) (owns_long pages (suc root) os ls h.1)

lists_more : (rows : Rows) (ps : List Planned) (ls : List (List Pair)) (p : Planned) (list : List Pair) → AreLists rows ps ls
    → Lists p.key (versions_of rows p.table) list → AreLists rows (ps ++ p ∷ []) (ls ++ list ∷ [])
lists_more rows [] [] p list h one = (one, tt)
lists_more rows [] (l ∷ ls) p list h one = absurd h
lists_more rows (q ∷ ps) [] p list h one = absurd h
lists_more rows (q ∷ ps) (l ∷ ls) p list h one = (h.0, lists_more rows ps ls p list h.1 one)

-- the first tree that is left
record IsNext (pages : ℕ → Image) (rows : Rows) (p : Planned) (left : List Planned) (owns : List (List ℕ)) (free : List ℕ)
    (before behind : List (List Pair)) (root : ℕ) : Type 0 where
  list : List Pair
  rest : List (List Pair)
  own : List ℕ
  is : behind ≡ list ∷ rest
  own_at : slice_get owns (length before) ≡ Some own
  list_at : slice_get (before ++ behind) (length before) ≡ Some list
  lists : Lists p.key (versions_of rows p.table) list
  same : AreLists rows left rest
  alone : TreeStands pages root own free list

next_from : Laws → (pages : ℕ → Image) (rows : Rows) (p : Planned) (left : List Planned) (owns : List (List ℕ)) (free : List ℕ)
    (before behind : List (List Pair)) (root : ℕ) → root ≡ 1 + length before → Forest pages 1 owns free (before ++ behind) → AreLists rows (p ∷ left) behind
    → IsNext pages rows p left owns free before behind root
next_from laws pages rows p left owns free before [] root r f h = absurd h
next_from laws pages rows p left owns free before (list ∷ rest) root r f h =
    let long : length owns ≡ length (before ++ list ∷ rest) = owns_long pages 1 owns (before ++ list ∷ rest) f.trees in
    let both = length-append before (list ∷ rest) in
    let within : length before < length owns = omega (arith, long, both) in
    let found = get_some owns (length before) within in
    let there = get_middle before list rest in
    record {
      list = list;
      rest = rest;
      own = found.0;
      is = refl;
      own_at = found.1;
      list_at = there;
      lists = h.0;
      same = h.1;
      alone = subst (λ (n : ℕ). TreeStands pages n found.0 free list) (sym r) (laws.stands pages 1 (length before) owns free found.0 (before ++ list ∷ rest) list f found.1 there);
    }

next_tree : Laws → (start : Store) (pages : ℕ → Image) (rows : Rows) (ops : List RowOp) (plan : List Planned) (next root : ℕ) (p : Planned) (left : List Planned)
    → (h : IsHalfway start pages rows ops plan next root (p ∷ left)) → IsNext pages rows p left h.owns h.free h.before h.behind root
next_tree laws start pages rows ops plan next root p left h =
    let long = lists_long (apply_all rows ops) h.done h.before h.changed in
    let is : root ≡ 1 + length h.done = h.root_is in
    next_from laws pages rows p left h.owns h.free h.before h.behind root (omega (arith, is, long)) h.forest h.same

tree_of : (pages : ℕ → Image) (root : ℕ) (own free : List ℕ) (list : List Pair) → TreeStands pages root own free list → IsTree pages root own list
tree_of pages root own free list s = record { height = s.height; cells = s.cells; holds = s.holds; own_is = s.own_is; pairs = s.pairs }

-- what the pages are after it
record IsAfter (old new : ℕ → Image) (first : List (List ℕ)) (unused : List ℕ) (plan : List Planned) (ops : List RowOp) (before behind : List (List Pair)) (after : List Pair) : Type 0 where
  owns : List (List ℕ)
  free : List ℕ
  forest : Forest new 1 owns free ((before ++ after ∷ []) ++ behind)
  changes : Changes old new (joined first) (joined owns) unused free
  lost : LosesNone old new (joined first) (joined owns) unused free
  unnamed : LeavesUnnamed (record { pages = old; owns = first; free = unused }) (record { pages = new; owns = owns; free = free }) plan ops

advanced : (start : Store) (old new : ℕ → Image) (rows : Rows) (ops : List RowOp) (plan : List Planned) (next root later : ℕ) (p : Planned) (left : List Planned)
    → later ≡ root + 1 → (h : IsHalfway start old rows ops plan next root (p ∷ left)) → (rest : List (List Pair)) → AreLists rows left rest
    → (after : List Pair) → Lists p.key (versions_of (apply_all rows ops) p.table) after → IsAfter old new h.owns h.free plan ops h.before rest after
    → TakesThenPuts old new root p.key (gone p.table ops) (born p.table next ops) → KeepsFilled old new root
    → IsHalfway start new rows ops plan next later left
advanced start old new rows ops plan next root later p left e h rest same after listed a freed filled =
    let is : root ≡ 1 + length h.done = h.root_is in
    let both = length-append h.done (p ∷ []) in
    record {
      able = h.able;
      versions = h.versions;
      next_is = h.next_is;
      done = h.done ++ p ∷ [];
      whole = append_assoc h.done (p ∷ []) left ∙ h.whole;
      root_is = omega (arith, is, both, e);
      owns = a.owns;
      free = a.free;
      before = h.before ++ after ∷ [];
      behind = rest;
      forest = a.forest;
      changed = lists_more (apply_all rows ops) h.done h.before p after h.changed listed;
      same = same;
      genid = a.changes.genid ∙ h.genid;
      changes = changes_after start.pages old new (joined start.owns) (joined h.owns) (joined a.owns) start.free h.free a.free h.changes a.changes;
      lost = loses_after start.pages old new (joined start.owns) (joined h.owns) (joined a.owns) start.free h.free a.free h.lost a.lost;
      freed = trees_more start.pages old new next ops 1 root h.done p h.root_is h.freed freed;
      filled = tree_filled start.pages old new root plan h.done left p h.root_is h.whole h.filled filled;
      unnamed = unnamed_after start (record { pages = old; owns = h.owns; free = h.free }) (record { pages = new; owns = a.owns; free = a.free }) plan ops h.unnamed a.unnamed;
    }

-- the tree was changed
became : Laws → (old new : ℕ → Image) (root : ℕ) (owns : List (List ℕ)) (free own : List ℕ) (before behind rest : List (List Pair)) (list after : List Pair)
    (plan : List Planned) (ops : List RowOp) (p : Planned)
    → root ≡ 1 + length before → behind ≡ list ∷ rest → slice_get owns (length before) ≡ Some own → slice_get (before ++ behind) (length before) ≡ Some list
    → Forest old 1 owns free (before ++ behind) → slice_get plan (length before) ≡ Some p → list_any (names p.table) ops ≡ true → Becomes old new root own free after
    → IsAfter old new owns free plan ops before rest after
became laws old new root owns free own before behind rest list after plan ops p r is own_at list_at f here named b =
    let c : Becomes old new (1 + length before) own free after = subst (λ (n : ℕ). Becomes old new n own free after) r b in
    let set : slice_set (before ++ behind) (length before) after ≡ (before ++ after ∷ []) ++ rest =
    ap (λ (l : List (List Pair)). slice_set (before ++ l) (length before) after) is ∙ set_middle before list after rest in
    record {
      owns = slice_set owns (length before) c.more;
      free = c.spare;
      forest = subst (λ (l : List (List Pair)). Forest new 1 (slice_set owns (length before) c.more) c.spare l) set
          (laws.keeps old new 1 (length before) owns free own (before ++ behind) list after f own_at list_at c);
      changes = forest_changes old new (1 + length before) (length before) owns own free after own_at c;
      lost = forest_loses old new (1 + length before) (length before) owns own free after own_at c;
      unnamed = unnamed_beside old new (1 + length before) (length before) owns own free (before ++ behind) after plan ops p f own_at c here named;
    }

pub stepped : Laws → (start : Store) (old new : ℕ → Image) (rows : Rows) (ops : List RowOp) (plan : List Planned) (next root later : ℕ) (p : Planned) (left : List Planned)
    → later ≡ root + 1 → p.table < length rows.tables → list_any (names p.table) ops ≡ true → IsHalfway start old rows ops plan next root (p ∷ left) → (result : Result (Unit {0}) InsertFault)
    → ((own free : List ℕ) (list : List Pair) → TreeStands old root own free list
    → IsPut old new root own free (put_all p.key (born p.table next ops) (removed p.key (gone p.table ops) list)) result)
    → OnOk result (TakesThenPuts old new root p.key (gone p.table ops) (born p.table next ops))
    → ((own free : List ℕ) (list : List Pair) → TreeStands old root own free list → OnOk result (KeepsFilled old new root))
    → TellsOne result (IsHalfway start new rows ops plan next later left) (breaks_in p.key (versions_of (apply_all rows ops) p.table))
stepped laws start old new rows ops plan next root later p left e known named h result put freed filled =
    go (put_all p.key (born p.table next ops) (removed p.key (gone p.table ops) n.list)) refl result (put n.own h.free n.list n.alone) freed
    (filled n.own h.free n.list n.alone)
  where
    n : IsNext old rows p left h.owns h.free h.before h.behind root
    n = next_tree laws start old rows ops plan next root p left h

    tree : IsTree old root n.own n.list
    tree = tree_of old root n.own h.free n.list n.alone

    are : AreVersions rows.next (versions_of rows p.table)
    are = versions_at rows p.table h.versions

    whole : (o : Option (List Pair)) → put_all p.key (born p.table next ops) (removed p.key (gone p.table ops) n.list) ≡ o
        → put_all p.key (born p.table rows.next ops) (removed p.key (gone p.table ops) n.list) ≡ o
    whole o same = ap (λ (k : ℕ). put_all p.key (born p.table k ops) (removed p.key (gone p.table ops) n.list)) h.next_is ∙ same

    root_is : root ≡ 1 + length h.before
    root_is = (
        let long = lists_long (apply_all rows ops) h.done h.before h.changed in
        let is : root ≡ 1 + length h.done = h.root_is in
        omega (arith, is, long)
        )

    here : slice_get plan (length h.before) ≡ Some p
    here = (
        let long : length h.done ≡ length h.before = lists_long (apply_all rows ops) h.done h.before h.changed in
        ap (λ (k : ℕ). slice_get plan k) (sym long) ∙ ap (λ (ps : List Planned). slice_get ps (length h.done)) (sym h.whole) ∙ get_middle h.done p left
        )

    go : (o : Option (List Pair)) → put_all p.key (born p.table next ops) (removed p.key (gone p.table ops) n.list) ≡ o → (r : Result (Unit {0}) InsertFault)
        → IsPut old new root n.own h.free o r → OnOk r (TakesThenPuts old new root p.key (gone p.table ops) (born p.table next ops))
        → OnOk r (KeepsFilled old new root)
        → TellsOne r (IsHalfway start new rows ops plan next later left) (breaks_in p.key (versions_of (apply_all rows ops) p.table))
    go (Some after) same (Ok x) b f k = (
      advanced start old new rows ops plan next root later p left e h n.rest n.same after
          (laws.listed old root p.table n.own n.list after p.key rows ops tree n.lists are known (h.able p.table known) (whole (Some after) same))
          (became laws old new root h.owns h.free n.own h.before h.behind n.rest n.list after plan ops p root_is n.is n.own_at n.list_at h.forest here named b) f k,
      laws.kept old root p.table n.own n.list after p.key rows ops tree n.lists are known (h.able p.table known) (whole (Some after) same),
    )
    go None same (Ok x) b f k = absurd b
    go (Some after) same (Err Duplicate) b f k = absurd b
    go None same (Err Duplicate) b f k = laws.broken old root p.table n.own n.list p.key rows ops tree n.lists are known (h.able p.table known) (whole None same)
    go o same (Err Gone) b f k = tt
    go o same (Err NoMemory) b f k = tt

-- operations that do not name a table take nothing from it, and write nothing to it
pub record IsUntouched (table next : ℕ) (ops : List RowOp) : Type 0 where
  pub gone_none : gone table ops ≡ []
  pub born_none : born table next ops ≡ []

untouched_front : {A : Type 0} (t : Bool) (x : A) (xs : List A) → t ≡ false → xs ≡ [] → (if t then x ∷ xs else xs) ≡ []
untouched_front t x xs e h = ap (λ (b : Bool). if b then x ∷ xs else xs) e ∙ h

pub unnamed : (table : ℕ) (ops : List RowOp) (next : ℕ) → list_any (names table) ops ≡ false → IsUntouched table next ops
unnamed table [] next h = record { gone_none = refl; born_none = refl }
unnamed table (Insert place row ∷ ops) next h =
    let o = or_false (place == table) (list_any (names table) ops) h in
    let rest = unnamed table ops (next + 1) o.1 in
    record { gone_none = rest.gone_none; born_none = untouched_front (place == table) (version next row) (born table (next + 1) ops) o.0 rest.born_none }
unnamed table (Update place (Base genid) old row ∷ ops) next h =
    let o = or_false (place == table) (list_any (names table) ops) h in
    let rest = unnamed table ops (next + 1) o.1 in
    record {
      gone_none = untouched_front (place == table) (version genid old) (gone table ops) o.0 rest.gone_none;
      born_none = untouched_front (place == table) (version next row) (born table (next + 1) ops) o.0 rest.born_none;
    }
unnamed table (Update place (Own write) old row ∷ ops) next h =
    let o = or_false (place == table) (list_any (names table) ops) h in
    let rest = unnamed table ops next o.1 in
    record { gone_none = rest.gone_none; born_none = rest.born_none }
unnamed table (Delete place (Base genid) old ∷ ops) next h =
    let o = or_false (place == table) (list_any (names table) ops) h in
    let rest = unnamed table ops next o.1 in
    record { gone_none = untouched_front (place == table) (version genid old) (gone table ops) o.0 rest.gone_none; born_none = rest.born_none }
unnamed table (Delete place (Own write) old ∷ ops) next h =
    let o = or_false (place == table) (list_any (names table) ops) h in
    let rest = unnamed table ops next o.1 in
    record { gone_none = rest.gone_none; born_none = rest.born_none }

-- a tree of a table that no operation names
pub skipped : Laws → (start : Store) (pages : ℕ → Image) (rows : Rows) (ops : List RowOp) (plan : List Planned) (next root later : ℕ) (p : Planned) (left : List Planned)
    → later ≡ root + 1 → p.table < length rows.tables → IsUntouched p.table next ops → IsHalfway start pages rows ops plan next root (p ∷ left)
    → IsHalfway start pages rows ops plan next later left × (breaks_in p.key (versions_of (apply_all rows ops) p.table) ≡ false)
skipped laws start pages rows ops plan next root later p left e known u h =
    let n : IsNext pages rows p left h.owns h.free h.before h.behind root = next_tree laws start pages rows ops plan next root p left h in
    let tree : IsTree pages root n.own n.list = tree_of pages root n.own h.free n.list n.alone in
    let are : AreVersions rows.next (versions_of rows p.table) = versions_at rows p.table h.versions in
    let born_none : born p.table rows.next ops ≡ [] = ap (λ (k : ℕ). born p.table k ops) h.next_is ∙ u.born_none in
    let put : put_all p.key (born p.table rows.next ops) (removed p.key (gone p.table ops) n.list) ≡ Some n.list =
    ap (λ (vs : List Version). put_all p.key vs (removed p.key (gone p.table ops) n.list)) born_none ∙ ap (λ (vs : List Version). Some (removed p.key vs n.list)) u.gone_none in
    let lists : h.before ++ h.behind ≡ (h.before ++ n.list ∷ []) ++ n.rest =
    ap (λ (l : List (List Pair)). h.before ++ l) n.is ∙ set_none h.before n.list n.rest in (
      advanced start pages pages rows ops plan next root later p left e h n.rest n.same n.list
          (laws.listed pages root p.table n.own n.list n.list p.key rows ops tree n.lists are known (h.able p.table known) put)
          (record {
            owns = h.owns;
            free = h.free;
            forest = subst (λ (l : List (List Pair)). Forest pages 1 h.owns h.free l) lists h.forest;
            changes = changes_none pages (joined h.owns) h.free;
            lost = loses_none pages (joined h.owns) h.free;
            unnamed = unnamed_none (record { pages = pages; owns = h.owns; free = h.free }) plan ops;
          })
          (left_alone pages root p.key (gone p.table ops) (born p.table next ops) u.gone_none u.born_none) (filled_none pages root),
      laws.kept pages root p.table n.own n.list n.list p.key rows ops tree n.lists are known (h.able p.table known) put,
    )
