-- Tree after tree: how it begins, one table or key more, where it stops, and how it ends.
use Rattle.std.proofs.Common.{◌≡◌, ◌⊎◌, inl, inr, ℕ, suc, ◌+◌, ◌≤◌, ◌<◌, ◌^◌, Bool, true, false, if◌then◌else◌, List, [], ◌∷◌, ◌++◌, length, drop, Option, Some, None, refl, sym, ap, ◌∙◌, subst, arith}
use Rattle.std.proofs.lemmas.Option.{none-some}
use Rattle.std.proofs.Math.ListN.{drop_of_length-le}
use Rattle.std.specs.Prelude.{Ok, Err}
use Rattle.std.specs.List.{slice_get, list_any}
use Rattle.page_store.specs.Image.{Image}
use Rattle.page_workspace.specs.Spare.{IsIn, count_of, next_genid}
use Rattle.btree_index.proofs.StandLemmas.{changes_none, loses_none}
use Rattle.cdb_values.specs.Good.{breaks}
use Rattle.cdb_values.specs.Rows.{Rows, versions_of, apply_all}
use Rattle.cdb_values.specs.declared.rows.RowOp.{RowOp}
use Rattle.cdb_values.specs.declared.rows.Version.{Version}
use Rattle.cdb_values.specs.declared.tables.TableDef.{TableDef}
use Rattle.cdb_values.specs.declared.tables.KeyDef.{KeyDef}
use Rattle.table_store.specs.Forests.{Pair, joined, Forest}
use Rattle.table_store.specs.Listings.{AreLists}
use Rattle.table_store.specs.Plans.{Planned, key_trees, plan_from}
use Rattle.table_store.specs.Stored.{Stands}
use Rattle.table_store.proofs.ForestLaws.{joined_own}
use Rattle.table_edits.specs.declared.faults.OpsFault.{OpsFault}
use Rattle.table_edits.specs.declared.faults.OpsFault.TheVariants.{Duplicate, Gone, NoMemory}
use Rattle.table_edits.specs.Answers.{Tells}
use Rattle.table_edits.specs.Broken.{KeyPlace, broken_from, broken_place, or_later}
use Rattle.table_edits.specs.Fits.{names, AreAllDoable}
use Rattle.table_edits.specs.Genids.{next_after, SetsGenid}
use Rattle.table_edits.specs.Halfway.{planned, IsHalfway}
use Rattle.table_edits.specs.Kept.{Store, store_of, IsNoneLost, Leaves}
use Rattle.table_edits.proofs.FilledLemmas.{genid_filled}
use Rattle.table_edits.proofs.ForestLemmas.{forest_kept}
use Rattle.table_edits.proofs.GenidLemmas.{next_is}
use Rattle.table_edits.proofs.KeptLemmas.{unnamed_none}
use Rattle.table_edits.proofs.ListLemmas.{append_none, drop_at}
use Rattle.table_edits.proofs.StateLemmas.{state_after}
use Rattle.table_edits.proofs.StepLemmas.{Laws, IsUntouched, skipped}

-- how it begins
pub begins : (pages : ℕ → Image) (tables : List TableDef) (rows : Rows) (ops : List RowOp) (next : ℕ) → (s : Stands pages tables rows) → AreAllDoable rows ops
    → next ≡ next_genid pages → IsHalfway (store_of pages tables rows s) pages rows ops (plan_from 0 tables) next 1 (plan_from 0 tables)
begins pages tables rows ops next s able e = record {
  able = able;
  versions = s.state.versions;
  next_is = sym s.genid ∙ sym e;
  done = [];
  whole = refl;
  root_is = refl;
  owns = s.owns;
  free = s.free;
  before = [];
  behind = s.lists;
  forest = s.forest;
  changed = tt;
  same = s.listed;
  genid = s.genid;
  changes = changes_none pages (joined s.owns) s.free;
  lost = loses_none pages (joined s.owns) s.free;
  freed = refl;
  filled = λ n beyond e. e;
  unnamed = unnamed_none (store_of pages tables rows s) (plan_from 0 tables) ops;
}

-- and how it ends
below_or_not : (a b : ℕ) → (a < b) ⊎ (b ≤ a)
below_or_not a b = grind arith

no_more : (rows : Rows) (before behind : List (List Pair)) → AreLists rows [] behind → before ++ behind ≡ before
no_more rows before [] h = append_none before
no_more rows before (l ∷ ls) h = absurd h

pub ends : (start pages new : ℕ → Image) (tables : List TableDef) (rows : Rows) (ops : List RowOp) (next root genid : ℕ) → (stands : Stands start tables rows)
    → IsHalfway (store_of start tables rows stands) pages rows ops (plan_from 0 tables) next root [] → SetsGenid pages new genid → genid ≡ next_after next ops
    → genid < 2 ^ 62 → Leaves start new tables rows ops stands
ends start pages new tables rows ops next root genid stands h s e small =
    let genid_is : genid ≡ next_after rows.next ops = e ∙ ap (λ (n : ℕ). next_after n ops) (sym h.next_is) in
    let last : next_after rows.next ops < 2 ^ 62 = subst (λ (n : ℕ). n < 2 ^ 62) genid_is small in
    let plan : h.done ≡ plan_from 0 tables = sym (append_none h.done) ∙ h.whole in
    let lists : h.before ++ h.behind ≡ h.before = no_more rows h.before h.behind h.same in
    record {
      after = record {
        owns = h.owns;
        free = h.free;
        lists = h.before;
        forest = forest_kept pages new 1 genid h.owns h.free h.before s (subst (λ (l : List (List Pair)). Forest pages 1 h.owns h.free l) lists h.forest);
        listed = subst (λ (ps : List Planned). AreLists (apply_all rows ops) ps h.before) plan h.changed;
        genid = s.genid ∙ genid_is ∙ sym (next_is ops rows);
        state = state_after tables rows ops stands.state h.able last;
      };
      within = record {
        genid = subst (λ (n : ℕ). n < 2 ^ 62) (sym s.genid) small;
        count = λ k. subst (λ (n : ℕ). n < 2 ^ 62) (sym s.count) (h.changes.few k);
      };
      filled = genid_filled start pages new genid (length (plan_from 0 tables)) s h.filled;
      kept = record {
        tree = h.lost.tree;
        unused = h.lost.unused;
        taken = λ n from to. h.lost.taken n from (subst (λ (c : ℕ). n < c) s.count to);
        whole = λ all n to. whole all n (subst (λ (c : ℕ). n < c) s.count to);
        others = λ n below some off_own off_free. s.others n some ∙ h.changes.others n below some off_own off_free;
        unnamed = λ at p own here untold there. unnamed at p own here untold there;
      };
    }
  where
    unnamed : (at : ℕ) (p : Planned) (own : List ℕ) → slice_get (plan_from 0 tables) at ≡ Some p → list_any (names p.table) ops ≡ false → slice_get stands.owns at ≡ Some own
        → (slice_get h.owns at ≡ Some own) × ((n : ℕ) → IsIn n own → new n ≡ start n)
    unnamed at p own here untold there =
        let left = h.unnamed at p own here untold there in
        (left.0, λ n i. s.others n (λ z. h.forest.off_meta (joined_own 0 at h.owns own left.0 (subst (λ (k : ℕ). IsIn k own) z i))) ∙ left.1 n i)

    whole : IsNoneLost (store_of start tables rows stands) → (n : ℕ) → n < count_of pages → (n ≡ 0) ⊎ IsIn n (joined h.owns) ⊎ IsIn n h.free
    whole all n to = among (below_or_not n (count_of start))
      where
        before : (n ≡ 0) ⊎ IsIn n (joined stands.owns) ⊎ IsIn n stands.free → (n ≡ 0) ⊎ IsIn n (joined h.owns) ⊎ IsIn n h.free
        before (inl meta) = inl meta
        before (inr (inl own)) = inr (h.lost.tree n own)
        before (inr (inr free)) = inr (h.lost.unused n free)

        among : (n < count_of start) ⊎ (count_of start ≤ n) → (n ≡ 0) ⊎ IsIn n (joined h.owns) ⊎ IsIn n h.free
        among (inl below) = before (all n below)
        among (inr from) = inr (h.lost.taken n from to)

-- the trees of a table that no operation names
skipped_keys : Laws → (start : Store) (pages : ℕ → Image) (rows : Rows) (ops : List RowOp) (plan : List Planned) (next root later place at : ℕ) (keys : List KeyDef) (left : List Planned)
    → later ≡ root + length keys → place < length rows.tables → IsUntouched place next ops → IsHalfway start pages rows ops plan next root (key_trees place keys ++ left)
    → IsHalfway start pages rows ops plan next later left × (broken_from at (versions_of (apply_all rows ops) place) keys ≡ None)
skipped_keys laws start pages rows ops plan next root later place at [] left e known u h =
    let same : root ≡ later = omega (arith, e) in
    (subst (λ (n : ℕ). IsHalfway start pages rows ops plan next n left) same h, refl)
skipped_keys laws start pages rows ops plan next root later place at (key ∷ keys) left e known u h =
    let more : later ≡ (root + 1) + length keys = omega (arith, e) in
    let one = skipped laws start pages rows ops plan next root (root + 1) (planned place (Some key)) (key_trees place keys ++ left) refl known u h in
    let rest = skipped_keys laws start pages rows ops plan next (root + 1) later place (suc at) keys left more known u one.0 in (
      rest.0,
      ap (λ (t : Bool). if t then Some at else broken_from (suc at) (versions_of (apply_all rows ops) place) keys) one.1 ∙ rest.1,
    )

pub skipped_table : Laws → (start : Store) (pages : ℕ → Image) (rows : Rows) (ops : List RowOp) (plan : List Planned) (next root later place : ℕ) (keys : List KeyDef) (left : List Planned)
    → later ≡ root + 1 + length keys → place < length rows.tables → IsUntouched place next ops
    → IsHalfway start pages rows ops plan next root (planned place None ∷ (key_trees place keys ++ left))
    → IsHalfway start pages rows ops plan next later left × (or_later place (broken_from 0 (versions_of (apply_all rows ops) place) keys) None ≡ None)
skipped_table laws start pages rows ops plan next root later place keys left e known u h =
    let one = skipped laws start pages rows ops plan next root (root + 1) (planned place None) (key_trees place keys ++ left) refl known u h in
    let rest = skipped_keys laws start pages rows ops plan next (root + 1) later place 0 keys left e known u one.0 in
    (rest.0, ap (λ (o : Option ℕ). or_later place o None) rest.1)

-- where no key can be told, a fault tells none
pub never_told : (Done : Unit {0} → Type 0) (All : ℕ → Type 0) (found : Option KeyPlace) (fault : OpsFault) → Tells {T = Unit {0}} (Err fault) Done None → Tells {T = ℕ} (Err fault) All found
never_told Done All found (Duplicate table key) h = absurd (none-some (record { table = table; key = key }) h)
never_told Done All found Gone h = tt
never_told Done All found NoMemory h = tt

-- what a place tells
not_told : (place : ℕ) (o : Option ℕ) → or_later place o None ≡ None → o ≡ None
not_told place None h = refl
not_told place (Some key) h = absurd (none-some (record { table = place; key = key }) (sym h))

later_told : (place : ℕ) (o : Option ℕ) (later : Option KeyPlace) (found : KeyPlace) → or_later place o None ≡ Some found → or_later place o later ≡ Some found
later_told place None later found h = absurd (none-some found h)
later_told place (Some key) later found h = h

one_none : (at : ℕ) (t : Bool) → (if t then Some at else None) ≡ None → t ≡ false
one_none at true h = absurd (none-some at (sym h))
one_none at false h = refl

-- the keys so far
pub record IsKeysDone (start : Store) (pages : ℕ → Image) (rows : Rows) (ops : List RowOp) (plan : List Planned) (next root place at : ℕ) (rest keys : List KeyDef) (left : List Planned) : Type 0 where
  pub half : IsHalfway start pages rows ops plan next root (key_trees place rest ++ left)
  pub broken : broken_from at (versions_of (apply_all rows ops) place) rest ≡ broken_from 0 (versions_of (apply_all rows ops) place) keys

rest_half : (start : Store) (pages : ℕ → Image) (rows : Rows) (ops : List RowOp) (plan : List Planned) (next root place : ℕ) (rest others : List KeyDef) (left : List Planned)
    → rest ≡ others → IsHalfway start pages rows ops plan next root (key_trees place rest ++ left) → IsHalfway start pages rows ops plan next root (key_trees place others ++ left)
rest_half start pages rows ops plan next root place rest others left e h =
    subst (λ (ks : List KeyDef). IsHalfway start pages rows ops plan next root (key_trees place ks ++ left)) e h

pub keys_begin : (start : Store) (pages : ℕ → Image) (rows : Rows) (ops : List RowOp) (plan : List Planned) (next root later place : ℕ) (keys : List KeyDef) (left : List Planned)
    → root ≡ later → IsHalfway start pages rows ops plan next root (key_trees place keys ++ left) → IsKeysDone start pages rows ops plan next later place 0 keys keys left
keys_begin start pages rows ops plan next root later place keys left e h =
    record { half = subst (λ (n : ℕ). IsHalfway start pages rows ops plan next n (key_trees place keys ++ left)) e h; broken = refl }

pub keys_more : (start : Store) (old new : ℕ → Image) (rows : Rows) (ops : List RowOp) (plan : List Planned) (next root after place at later : ℕ) (key : KeyDef) (others rest keys : List KeyDef) (left : List Planned)
    → rest ≡ key ∷ others → later ≡ suc at → root + 1 ≡ after → IsKeysDone start old rows ops plan next root place at rest keys left
    → (IsHalfway start old rows ops plan next root (planned place (Some key) ∷ (key_trees place others ++ left))
    → Tells {T = Unit {0}} (Ok tt) (λ x. IsHalfway start new rows ops plan next (root + 1) (key_trees place others ++ left))
    (or_later place (broken_from at (versions_of (apply_all rows ops) place) (key ∷ [])) None))
    → IsKeysDone start new rows ops plan next after place later others keys left
keys_more start old new rows ops plan next root after place at later key others rest keys left e l a h step =
    let vs = versions_of (apply_all rows ops) place in
    let done = step (rest_half start old rows ops plan next root place rest (key ∷ others) left e h.half) in
    let kept : breaks vs key ≡ false = one_none at (breaks vs key) (not_told place (if breaks vs key then Some at else None) done.1) in
    let passed : broken_from at vs (key ∷ others) ≡ broken_from (suc at) vs others =
    ap (λ (t : Bool). if t then Some at else broken_from (suc at) vs others) kept in
    record {
      half = subst (λ (n : ℕ). IsHalfway start new rows ops plan next n (key_trees place others ++ left)) a done.0;
      broken = ap (λ (n : ℕ). broken_from n vs others) l ∙ sym passed ∙ sym (ap (λ (ks : List KeyDef). broken_from at vs ks) e) ∙ h.broken;
    }

pub keys_stop : (start : Store) (old new : ℕ → Image) (rows : Rows) (ops : List RowOp) (plan : List Planned) (next root place at : ℕ) (key : KeyDef) (others rest keys : List KeyDef) (left : List Planned)
    (Done : Unit {0} → Type 0) (All : ℕ → Type 0) (fault : OpsFault) → rest ≡ key ∷ others → IsKeysDone start old rows ops plan next root place at rest keys left
    → (IsHalfway start old rows ops plan next root (planned place (Some key) ∷ (key_trees place others ++ left))
    → Tells {T = Unit {0}} (Err fault) Done (or_later place (broken_from at (versions_of (apply_all rows ops) place) (key ∷ [])) None))
    → Tells {T = ℕ} (Err fault) All (or_later place (broken_from 0 (versions_of (apply_all rows ops) place) keys) None)
keys_stop start old new rows ops plan next root place at key others rest keys left Done All fault e h step =
    go fault (step (rest_half start old rows ops plan next root place rest (key ∷ others) left e h.half))
  where
    vs : List Version
    vs = versions_of (apply_all rows ops) place

    whole : broken_from at vs (key ∷ others) ≡ broken_from 0 vs keys
    whole = sym (ap (λ (ks : List KeyDef). broken_from at vs ks) e) ∙ h.broken

    told : (t : Bool) (found : KeyPlace) → or_later place (if t then Some at else None) None ≡ Some found
        → or_later place (if t then Some at else broken_from (suc at) vs others) None ≡ Some found
    told true found f = f
    told false found f = absurd (none-some found f)

    go : (f : OpsFault) → Tells {T = Unit {0}} (Err f) Done (or_later place (broken_from at vs (key ∷ [])) None)
        → Tells {T = ℕ} (Err f) All (or_later place (broken_from 0 vs keys) None)
    go (Duplicate table k) f =
        sym (ap (λ (o : Option ℕ). or_later place o None) whole) ∙ told (breaks vs key) (record { table = table; key = k }) f
    go Gone f = tt
    go NoMemory f = tt

pub keys_end : (start : Store) (pages : ℕ → Image) (rows : Rows) (ops : List RowOp) (plan : List Planned) (next root place at : ℕ) (rest keys : List KeyDef) (left : List Planned)
    → rest ≡ [] → IsKeysDone start pages rows ops plan next root place at rest keys left
    → IsHalfway start pages rows ops plan next root left × (or_later place (broken_from 0 (versions_of (apply_all rows ops) place) keys) None ≡ None)
keys_end start pages rows ops plan next root place at rest keys left e h =
    let vs = versions_of (apply_all rows ops) place in
    let none : broken_from 0 vs keys ≡ None = sym h.broken ∙ ap (λ (ks : List KeyDef). broken_from at vs ks) e in
    (rest_half start pages rows ops plan next root place rest [] left e h.half, ap (λ (o : Option ℕ). or_later place o None) none)

-- the tables so far
pub record IsTablesDone (start : Store) (pages : ℕ → Image) (rows : Rows) (ops : List RowOp) (tables : List TableDef) (next root place : ℕ) : Type 0 where
  pub half : IsHalfway start pages rows ops (plan_from 0 tables) next root (plan_from place (drop place tables))
  pub broken : broken_place (apply_all rows ops) place (drop place tables) ≡ broken_place (apply_all rows ops) 0 tables

pub tables_begin : (start : Store) (pages : ℕ → Image) (rows : Rows) (ops : List RowOp) (tables : List TableDef) (next : ℕ)
    → IsHalfway start pages rows ops (plan_from 0 tables) next 1 (plan_from 0 tables) → IsTablesDone start pages rows ops tables next 1 0
tables_begin start pages rows ops tables next h = record { half = h; broken = refl }

table_half : (start : Store) (pages : ℕ → Image) (rows : Rows) (ops : List RowOp) (tables : List TableDef) (next root place : ℕ) (table : TableDef) (keys : List KeyDef)
    → slice_get tables place ≡ Some table → keys ≡ table.keys → IsTablesDone start pages rows ops tables next root place
    → IsHalfway start pages rows ops (plan_from 0 tables) next root (planned place None ∷ (key_trees place keys ++ plan_from (suc place) (drop (suc place) tables)))
table_half start pages rows ops tables next root place table keys at same h =
    subst (λ (ks : List KeyDef). IsHalfway start pages rows ops (plan_from 0 tables) next root (planned place None ∷ (key_trees place ks ++ plan_from (suc place) (drop (suc place) tables)))) (sym same)
    (subst (λ (ts : List TableDef). IsHalfway start pages rows ops (plan_from 0 tables) next root (plan_from place ts)) (drop_at tables place table at) h.half)

broken_here : (rows : Rows) (tables : List TableDef) (place : ℕ) (table : TableDef) (keys : List KeyDef) → slice_get tables place ≡ Some table → keys ≡ table.keys
    → broken_place rows place (drop place tables) ≡ or_later place (broken_from 0 (versions_of rows place) keys) (broken_place rows (suc place) (drop (suc place) tables))
broken_here rows tables place table keys at same =
    ap (λ (ts : List TableDef). broken_place rows place ts) (drop_at tables place table at)
    ∙ ap (λ (ks : List KeyDef). or_later place (broken_from 0 (versions_of rows place) ks) (broken_place rows (suc place) (drop (suc place) tables))) (sym same)

pub tables_more : (start : Store) (old new : ℕ → Image) (rows : Rows) (ops : List RowOp) (tables : List TableDef) (next root after place later : ℕ) (table : TableDef) (keys : List KeyDef)
    → slice_get tables place ≡ Some table → keys ≡ table.keys → later ≡ suc place → IsTablesDone start old rows ops tables next root place
    → ((left : List Planned) → IsHalfway start old rows ops (plan_from 0 tables) next root (planned place None ∷ (key_trees place keys ++ left))
    → Tells {T = ℕ} (Ok after) (λ behind. IsHalfway start new rows ops (plan_from 0 tables) next behind left)
    (or_later place (broken_from 0 (versions_of (apply_all rows ops) place) keys) None))
    → IsTablesDone start new rows ops tables next after later
tables_more start old new rows ops tables next root after place later table keys at same l h step =
    let rest = drop (suc place) tables in
    let done = step (plan_from (suc place) rest) (table_half start old rows ops tables next root place table keys at same h) in
    let kept : broken_from 0 (versions_of (apply_all rows ops) place) keys ≡ None = not_told place (broken_from 0 (versions_of (apply_all rows ops) place) keys) done.1 in
    let passed : broken_place (apply_all rows ops) place (drop place tables) ≡ broken_place (apply_all rows ops) (suc place) rest =
    broken_here (apply_all rows ops) tables place table keys at same ∙ ap (λ (o : Option ℕ). or_later place o (broken_place (apply_all rows ops) (suc place) rest)) kept in
    subst (λ (n : ℕ). IsTablesDone start new rows ops tables next after n) (sym l) (record { half = done.0; broken = sym passed ∙ h.broken })

pub tables_stop : (start : Store) (old new : ℕ → Image) (rows : Rows) (ops : List RowOp) (tables : List TableDef) (next root place : ℕ) (table : TableDef) (keys : List KeyDef)
    (Done : List Planned → ℕ → Type 0) (All : Unit {0} → Type 0) (fault : OpsFault)
    → slice_get tables place ≡ Some table → keys ≡ table.keys → IsTablesDone start old rows ops tables next root place
    → ((left : List Planned) → IsHalfway start old rows ops (plan_from 0 tables) next root (planned place None ∷ (key_trees place keys ++ left))
    → Tells {T = ℕ} (Err fault) (Done left) (or_later place (broken_from 0 (versions_of (apply_all rows ops) place) keys) None))
    → Tells {T = Unit {0}} (Err fault) All (broken_place (apply_all rows ops) 0 tables)
tables_stop start old new rows ops tables next root place table keys Done All fault at same h step =
    go fault (step (plan_from (suc place) rest) (table_half start old rows ops tables next root place table keys at same h))
  where
    rest : List TableDef
    rest = drop (suc place) tables

    here : Option ℕ
    here = broken_from 0 (versions_of (apply_all rows ops) place) keys

    go : (f : OpsFault) → Tells {T = ℕ} (Err f) (Done (plan_from (suc place) rest)) (or_later place here None) → Tells {T = Unit {0}} (Err f) All (broken_place (apply_all rows ops) 0 tables)
    go (Duplicate t k) f =
        sym h.broken ∙ broken_here (apply_all rows ops) tables place table keys at same
        ∙ later_told place here (broken_place (apply_all rows ops) (suc place) rest) (record { table = t; key = k }) f
    go Gone f = tt
    go NoMemory f = tt

pub tables_end : (start : Store) (pages : ℕ → Image) (rows : Rows) (ops : List RowOp) (tables : List TableDef) (next root place : ℕ) → length tables ≤ place
    → IsTablesDone start pages rows ops tables next root place
    → ((root : ℕ) × IsHalfway start pages rows ops (plan_from 0 tables) next root []) × (broken_place (apply_all rows ops) 0 tables ≡ None)
tables_end start pages rows ops tables next root place past h =
    let none : drop place tables ≡ [] = drop_of_length-le tables past in (
      (root, subst (λ (ts : List TableDef). IsHalfway start pages rows ops (plan_from 0 tables) next root (plan_from place ts)) none h.half),
      sym h.broken ∙ ap (λ (ts : List TableDef). broken_place (apply_all rows ops) place ts) none,
    )
