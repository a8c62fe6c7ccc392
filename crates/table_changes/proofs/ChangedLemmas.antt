-- Operations one after the other on one tree.
use Rattle.std.proofs.Common.{◌≡◌, ℕ, ◌+◌, ◌≤◌, ◌==◌, Bool, true, false, if◌then◌else◌, List, [], ◌∷◌, ◌++◌, refl, sym, ap, ◌∙◌, subst, arith}
use Rattle.std.specs.Prelude.{Option, Some, None, Result, Ok, Err, OnOk}
use Rattle.std.specs.List.{AllByRecursion}
use Rattle.std.specs.Option.{is_some}
use Rattle.page_store.specs.Image.{Image}
use Rattle.std.proofs.lemmas.Bool.{false≢true}
use Rattle.btree_index.specs.Changes.{TreeStands, Becomes, IsInserted}
use Rattle.btree_index.specs.Pairs.{value_at, with_pair}
use Rattle.btree_index.specs.declared.inserts.InsertFault.{InsertFault}
use Rattle.btree_index.specs.declared.inserts.InsertFault.TheVariants.{Duplicate, Gone, NoMemory}
use Rattle.btree_index.proofs.StandLemmas.{becomes_none, becomes_after}
use Rattle.cdb_values.specs.Rows.{version}
use Rattle.cdb_values.specs.declared.rows.RowOp.{RowOp}
use Rattle.cdb_values.specs.declared.rows.RowOp.TheVariants.{Insert, Update, Delete}
use Rattle.cdb_values.specs.declared.rows.RowRef.{RowRef}
use Rattle.cdb_values.specs.declared.rows.RowRef.TheVariants.{Base, Own}
use Rattle.cdb_values.specs.declared.rows.Version.{Version}
use Rattle.cdb_values.specs.declared.tables.KeyDef.{KeyDef}
use Rattle.cdb_values.specs.declared.values.Value.{Value}
use Rattle.table_store.specs.Forests.{Pair}
use Rattle.table_store.specs.Listings.{pair_of_version}
use Rattle.table_store.specs.Operations.{gone, born, removed, put_all}
use Rattle.table_changes.specs.Changed.{gone_by, born_by, born_if, next_of, IsPuttable, IsPut, BecomesSome}

-- one operation
only_if : (b : Bool) (genid : ℕ) (row : List Value) → (if b then version genid row ∷ [] else []) ≡ born_if b genid row
only_if true genid row = refl
only_if false genid row = refl

pub gone_update : (table place : ℕ) (target : RowRef) (old row : List Value) → gone table (Update place target old row ∷ []) ≡ gone_by (place == table) target old
gone_update table place (Base genid) old row = only_if (place == table) genid old
gone_update table place (Own write) old row = refl

pub gone_delete : (table place : ℕ) (target : RowRef) (old : List Value) → gone table (Delete place target old ∷ []) ≡ gone_by (place == table) target old
gone_delete table place (Base genid) old = only_if (place == table) genid old
gone_delete table place (Own write) old = refl

pub born_insert : (table next place : ℕ) (row : List Value) → born table next (Insert place row ∷ []) ≡ born_if (place == table) next row
born_insert table next place row = only_if (place == table) next row

pub born_update : (table next place : ℕ) (target : RowRef) (old row : List Value) → born table next (Update place target old row ∷ []) ≡ born_by (place == table) next target row
born_update table next place (Base genid) old row = only_if (place == table) next row
born_update table next place (Own write) old row = refl

-- one operation more
if_front : {A : Type 0} (b : Bool) (x : A) (xs : List A) → (if b then x ∷ xs else xs) ≡ (if b then x ∷ [] else []) ++ xs
if_front true x xs = refl
if_front false x xs = refl

pub gone_more : (table : ℕ) (op : RowOp) (ops : List RowOp) → gone table (op ∷ ops) ≡ gone table (op ∷ []) ++ gone table ops
gone_more table (Insert place row) ops = refl
gone_more table (Update place (Base genid) old row) ops = if_front (place == table) (version genid old) (gone table ops)
gone_more table (Update place (Own write) old row) ops = refl
gone_more table (Delete place (Base genid) old) ops = if_front (place == table) (version genid old) (gone table ops)
gone_more table (Delete place (Own write) old) ops = refl

born_more : (table next : ℕ) (op : RowOp) (ops : List RowOp) → born table next (op ∷ ops) ≡ born table next (op ∷ []) ++ born table (next_of next op) ops
born_more table next (Insert place row) ops = if_front (place == table) (version next row) (born table (next + 1) ops)
born_more table next (Update place (Base genid) old row) ops = if_front (place == table) (version next row) (born table (next + 1) ops)
born_more table next (Update place (Own write) old row) ops = refl
born_more table next (Delete place target old) ops = refl

removed_both : (key : Option KeyDef) (a b : List Version) (list : List Pair) → removed key (a ++ b) list ≡ removed key b (removed key a list)
removed_both key [] b list = refl
removed_both key (v ∷ a) b list = removed_both key a b _

-- what is put behind what was put, if it could be
abbrev pub put_behind : Option KeyDef → List Version → Option (List Pair) → Option (List Pair)
put_behind key vs None = None
put_behind key vs (Some list) = put_all key vs list

put_both : (key : Option KeyDef) (a b : List Version) (list : List Pair) → put_all key (a ++ b) list ≡ put_behind key b (put_all key a list)
put_both key [] b list = refl
put_both key (v ∷ a) b list =
    by (is_some (value_at (pair_of_version key v).0 list)) (put_both key a b (with_pair (pair_of_version key v).0 (pair_of_version key v).1 list))
  where
    by : (t : Bool) → put_all key (a ++ b) (with_pair (pair_of_version key v).0 (pair_of_version key v).1 list)
        ≡ put_behind key b (put_all key a (with_pair (pair_of_version key v).0 (pair_of_version key v).1 list))
        → (if t then None else put_all key (a ++ b) (with_pair (pair_of_version key v).0 (pair_of_version key v).1 list))
        ≡ put_behind key b (if t then None else put_all key a (with_pair (pair_of_version key v).0 (pair_of_version key v).1 list))
    by true later = refl
    by false later = later

-- all that goes: what is left to be taken out leaves what is to be left
pub taken_more : (old now next : ℕ → Image) (root table : ℕ) (own free : List ℕ) (key : Option KeyDef) (op : RowOp) (ops rest : List RowOp) (all : List Pair)
    → rest ≡ op ∷ ops → BecomesSome old now root own free (λ list. removed key (gone table rest) list ≡ all)
    → ((own free : List ℕ) (list : List Pair) → TreeStands now root own free list → Becomes now next root own free (removed key (gone table (op ∷ [])) list))
    → BecomesSome old next root own free (λ list. removed key (gone table ops) list ≡ all)
taken_more old now next root table own free key op ops rest all is before step = record {
  list = removed key (gone table (op ∷ [])) before.list;
  becomes = becomes_after old now next root own free before.list (removed key (gone table (op ∷ [])) before.list) before.becomes
      (step before.becomes.more before.becomes.spare before.list before.becomes.stands);
  is = sym (removed_both key (gone table (op ∷ [])) (gone table ops) before.list)
      ∙ sym (ap (λ vs. removed key vs before.list) (gone_more table op ops))
      ∙ sym (ap (λ (l : List RowOp). removed key (gone table l) before.list) is) ∙ before.is;
}

pub taken_all : (old now : ℕ → Image) (root table : ℕ) (own free : List ℕ) (key : Option KeyDef) (rest : List RowOp) (all : List Pair)
    → rest ≡ [] → BecomesSome old now root own free (λ list. removed key (gone table rest) list ≡ all) → Becomes old now root own free all
taken_all old now root table own free key rest all is before =
    subst (λ (l : List Pair). Becomes old now root own free l) (sym (ap (λ (l : List RowOp). removed key (gone table l) before.list) is) ∙ before.is) before.becomes

pub begins : (pages : ℕ → Image) (root : ℕ) (own free : List ℕ) (list : List Pair) (P : List Pair → Type 0) → TreeStands pages root own free list → P list
    → BecomesSome pages pages root own free P
begins pages root own free list P stands p = record { list = list; becomes = becomes_none pages root own free list stands; is = p }

-- all that comes: what is left to be put gives what all gives
pub put_more : (old now next : ℕ → Image) (root table n : ℕ) (own free : List ℕ) (key : Option KeyDef) (op : RowOp) (ops rest : List RowOp) (all : Option (List Pair))
    → rest ≡ op ∷ ops → BecomesSome old now root own free (λ list. put_all key (born table n rest) list ≡ all)
    → ((own free : List ℕ) (list : List Pair) → TreeStands now root own free list → IsPut now next root own free (put_all key (born table n (op ∷ [])) list) (Ok tt))
    → BecomesSome old next root own free (λ list. put_all key (born table (next_of n op) ops) list ≡ all)
put_more old now next root table n own free key op ops rest all is before step =
    go (put_all key (born table n (op ∷ [])) before.list) refl (step before.becomes.more before.becomes.spare before.list before.becomes.stands)
  where
    whole : put_behind key (born table (next_of n op) ops) (put_all key (born table n (op ∷ [])) before.list) ≡ all
    whole = sym (put_both key (born table n (op ∷ [])) (born table (next_of n op) ops) before.list)
        ∙ sym (ap (λ vs. put_all key vs before.list) (born_more table n op ops))
        ∙ sym (ap (λ (l : List RowOp). put_all key (born table n l) before.list) is) ∙ before.is

    go : (o : Option (List Pair)) → put_all key (born table n (op ∷ [])) before.list ≡ o → IsPut now next root before.becomes.more before.becomes.spare o (Ok tt)
        → BecomesSome old next root own free (λ list. put_all key (born table (next_of n op) ops) list ≡ all)
    go None same done = absurd done
    go (Some after) same done = record {
      list = after;
      becomes = becomes_after old now next root own free before.list after before.becomes done;
      is = sym (ap (put_behind key (born table (next_of n op) ops)) same) ∙ whole;
    }

-- where one pair cannot be put, not all can
pub put_stops : (old now next : ℕ → Image) (root table n : ℕ) (own free : List ℕ) (key : Option KeyDef) (op : RowOp) (ops rest : List RowOp) (all : Option (List Pair))
    (fault : InsertFault) → rest ≡ op ∷ ops → BecomesSome old now root own free (λ list. put_all key (born table n rest) list ≡ all)
    → ((own free : List ℕ) (list : List Pair) → TreeStands now root own free list → IsPut now next root own free (put_all key (born table n (op ∷ [])) list) (Err fault))
    → IsPut old next root own free all (Err fault)
put_stops old now next root table n own free key op ops rest all fault is before step =
    go (put_all key (born table n (op ∷ [])) before.list) refl (step before.becomes.more before.becomes.spare before.list before.becomes.stands)
  where
    whole : put_behind key (born table (next_of n op) ops) (put_all key (born table n (op ∷ [])) before.list) ≡ all
    whole = sym (put_both key (born table n (op ∷ [])) (born table (next_of n op) ops) before.list)
        ∙ sym (ap (λ vs. put_all key vs before.list) (born_more table n op ops))
        ∙ sym (ap (λ (l : List RowOp). put_all key (born table n l) before.list) is) ∙ before.is

    stop : (f : InsertFault) (o : Option (List Pair)) → IsPut now next root before.becomes.more before.becomes.spare o (Err f) → put_behind key (born table (next_of n op) ops) o ≡ all
        → IsPut old next root own free all (Err f)
    stop Duplicate None done w = subst (λ a. IsPut old next root own free a (Err Duplicate)) w tt
    stop Duplicate (Some after) done w = absurd done
    stop Gone o done w = excused all
      where
        excused : (a : Option (List Pair)) → IsPut old next root own free a (Err Gone)
        excused None = tt
        excused (Some l) = tt
    stop NoMemory o done w = excused all
      where
        excused : (a : Option (List Pair)) → IsPut old next root own free a (Err NoMemory)
        excused None = tt
        excused (Some l) = tt

    go : (o : Option (List Pair)) → put_all key (born table n (op ∷ [])) before.list ≡ o → IsPut now next root before.becomes.more before.becomes.spare o (Err fault)
        → IsPut old next root own free all (Err fault)
    go o same done = stop fault o done (sym (ap (put_behind key (born table (next_of n op) ops)) same) ∙ whole)

pub put_ends : (old now : ℕ → Image) (root table n : ℕ) (own free : List ℕ) (key : Option KeyDef) (rest : List RowOp) (all : Option (List Pair))
    → rest ≡ [] → BecomesSome old now root own free (λ list. put_all key (born table n rest) list ≡ all) → IsPut old now root own free all (Ok tt)
put_ends old now root table n own free key rest all is before =
    subst (λ a. IsPut old now root own free a (Ok tt)) (sym (ap (λ (l : List RowOp). put_all key (born table n l) before.list) is) ∙ before.is) before.becomes

-- the same versions
pub taken_as : {T E : Type 0} (old new : ℕ → Image) (root : ℕ) (own free : List ℕ) (key : Option KeyDef) (a b : List Version) (list : List Pair) (result : Result T E)
    → a ≡ b → OnOk result (Becomes old new root own free (removed key b list)) → OnOk result (Becomes old new root own free (removed key a list))
taken_as old new root own free key a b list result e h = subst (λ (vs : List Version). OnOk result (Becomes old new root own free (removed key vs list))) (sym e) h

-- putting behind a change
pub put_behind_taken : (a b c : ℕ → Image) (root : ℕ) (own free : List ℕ) (one : List Pair) (after : Option (List Pair)) (result : Result (Unit {0}) InsertFault)
    → (first : Becomes a b root own free one) → IsPut b c root first.more first.spare after result → IsPut a c root own free after result
put_behind_taken a b c root own free one (Some list) (Ok x) first put = becomes_after a b c root own free one list first put
put_behind_taken a b c root own free one None (Ok x) first put = absurd put
put_behind_taken a b c root own free one (Some list) (Err Duplicate) first put = absurd put
put_behind_taken a b c root own free one None (Err Duplicate) first put = tt
put_behind_taken a b c root own free one (Some list) (Err Gone) first put = tt
put_behind_taken a b c root own free one None (Err Gone) first put = tt
put_behind_taken a b c root own free one (Some list) (Err NoMemory) first put = tt
put_behind_taken a b c root own free one None (Err NoMemory) first put = tt

-- what can be put of all operations can be put of those behind the first
all_back : {A : Type 0} (P : A → Type 0) (xs ys : List A) → AllByRecursion P (xs ++ ys) → AllByRecursion P ys
all_back P [] ys h = h
all_back P (x ∷ xs) ys h = all_back P xs ys h.1

pub fit_rest : (key : Option KeyDef) (table n : ℕ) (op : RowOp) (ops rest : List RowOp) → rest ≡ op ∷ ops → AllByRecursion (IsPuttable key) (born table n rest)
    → AllByRecursion (IsPuttable key) (born table (next_of n op) ops)
fit_rest key table n op ops rest is h =
    all_back (IsPuttable key) (born table n (op ∷ [])) (born table (next_of n op) ops)
    (subst (λ (vs : List Version). AllByRecursion (IsPuttable key) vs) (ap (λ (l : List RowOp). born table n l) is ∙ born_more table n op ops) h)

pub next_few : (n : ℕ) (op : RowOp) → next_of n op ≤ n + 1
next_few n (Insert table row) = omega arith
next_few n (Update table (Base genid) old row) = omega arith
next_few n (Update table (Own write) old row) = omega arith
next_few n (Delete table target old) = omega arith

-- what an insert answers
pub one_put : (old new : ℕ → Image) (root : ℕ) (own free : List ℕ) (k v : List ℕ) (p : Pair) (list : List Pair) (result : Result (Unit {0}) InsertFault)
    → k ≡ p.0 → v ≡ p.1 → IsInserted old new root own free k v list result
    → IsPut old new root own free (if is_some (value_at p.0 list) then None else Some (with_pair p.0 p.1 list)) result
one_put old new root own free k v p list result key value h =
    go (is_some (value_at p.0 list)) refl result (subst (λ (b : List ℕ). IsInserted old new root own free p.0 b list result) value (subst (λ (a : List ℕ). IsInserted old new root own free a v list result) key h))
  where
    go : (t : Bool) → is_some (value_at p.0 list) ≡ t → (r : Result (Unit {0}) InsertFault) → IsInserted old new root own free p.0 p.1 list r
        → IsPut old new root own free (if t then None else Some (with_pair p.0 p.1 list)) r
    go true e (Ok x) h = false≢true (sym (ap is_some h.0) ∙ e)
    go false e (Ok x) h = h.1
    go true e (Err Duplicate) h = tt
    go false e (Err Duplicate) h = false≢true (sym e ∙ h)
    go true e (Err Gone) h = tt
    go false e (Err Gone) h = tt
    go true e (Err NoMemory) h = tt
    go false e (Err NoMemory) h = tt
