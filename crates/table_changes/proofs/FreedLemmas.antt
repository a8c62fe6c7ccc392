-- Versions whose pairs are taken out one after the other.
use Rattle.std.proofs.Common.{◌≡◌, ℕ, true, List, [], ◌∷◌, ◌++◌, refl, sym, ap, ◌∙◌, subst}
use Rattle.std.specs.Prelude.{Option, Some, None, Result, Ok, Err, OnOk}
use Rattle.std.specs.Option.{is_some}
use Rattle.page_store.specs.Image.{Image}
use Rattle.btree_index.specs.Changes.{TreeStands, Becomes}
use Rattle.btree_index.specs.Pairs.{value_at, without_key}
use Rattle.btree_index.specs.Prunes.{FreesEmptied}
use Rattle.btree_index.specs.declared.inserts.InsertFault.{InsertFault}
use Rattle.cdb_values.specs.declared.rows.RowOp.{RowOp}
use Rattle.cdb_values.specs.declared.rows.Version.{Version}
use Rattle.cdb_values.specs.declared.tables.KeyDef.{KeyDef}
use Rattle.table_store.specs.Forests.{Pair}
use Rattle.table_store.specs.Listings.{pair_of_version}
use Rattle.table_store.specs.Operations.{gone, put_all}
use Rattle.table_changes.specs.Changed.{IsPut}
use Rattle.table_changes.specs.Freed.{TakesPairs, TakesThenPuts}
use Rattle.table_changes.proofs.ChangedLemmas.{gone_more}

-- one version alone
pub pair_taken : (old new : ℕ → Image) (root : ℕ) (key : Option KeyDef) (v : Version) (k : List ℕ) → k ≡ (pair_of_version key v).0
    → ((own free : List ℕ) (list : List Pair) → TreeStands old root own free list → Becomes old new root own free (without_key k list))
    → ((own free : List ℕ) (list : List Pair) → TreeStands old root own free list → is_some (value_at k list) ≡ true → FreesEmptied old new root k)
    → TakesPairs old new root key (v ∷ [])
pair_taken old new root key v k is becomes freed = (
  new,
  record {
    becomes = λ own free list stands. subst (λ (l : List ℕ). Becomes old new root own free (without_key l list)) is (becomes own free list stands);
    freed = λ own free list stands there.
        subst (λ (l : List ℕ). FreesEmptied old new root l) is
        (freed own free list stands (ap (λ (l : List ℕ). is_some (value_at l list)) is ∙ there));
  },
  refl,
)

-- versions behind others
both_taken : (old between new : ℕ → Image) (root : ℕ) (key : Option KeyDef) (vs ws : List Version) → TakesPairs old between root key vs
    → TakesPairs between new root key ws → TakesPairs old new root key (vs ++ ws)
both_taken old between new root key [] ws one two = subst (λ (pages : ℕ → Image). TakesPairs pages new root key ws) one two
both_taken old between new root key (v ∷ vs) ws one two = (one.0, one.1, both_taken one.0 between new root key vs ws one.2 two)

-- the same versions
pub pairs_as : {T E : Type 0} (old new : ℕ → Image) (root : ℕ) (key : Option KeyDef) (a b : List Version) (result : Result T E) → a ≡ b
    → OnOk result (TakesPairs old new root key b) → OnOk result (TakesPairs old new root key a)
pairs_as old new root key a b result e h = subst (λ (vs : List Version). OnOk result (TakesPairs old new root key vs)) (sym e) h

-- one operation more, before those that are left
pub pairs_more : (old between new : ℕ → Image) (root table : ℕ) (key : Option KeyDef) (op : RowOp) (ops rest : List RowOp) → rest ≡ op ∷ ops
    → TakesPairs old between root key (gone table (op ∷ [])) → TakesPairs between new root key (gone table ops)
    → TakesPairs old new root key (gone table rest)
pairs_more old between new root table key op ops rest is one two =
    subst (λ (vs : List Version). TakesPairs old new root key vs) (sym (ap (λ (l : List RowOp). gone table l) is ∙ gone_more table op ops))
    (both_taken old between new root key (gone table (op ∷ [])) (gone table ops) one two)

-- no operation left
pub pairs_none : (pages : ℕ → Image) (root table : ℕ) (key : Option KeyDef) (rest : List RowOp) → rest ≡ [] → TakesPairs pages pages root key (gone table rest)
pairs_none pages root table key rest is = subst (λ (l : List RowOp). TakesPairs pages pages root key (gone table l)) (sym is) refl

-- what comes is put behind what was taken
pub then_put : (old between new : ℕ → Image) (root : ℕ) (key : Option KeyDef) (gone born : List Version) (result : Result (Unit {0}) InsertFault)
    → TakesPairs old between root key gone
    → ((own free : List ℕ) (list : List Pair) → TreeStands between root own free list → IsPut between new root own free (put_all key born list) result)
    → OnOk result (TakesThenPuts old new root key gone born)
then_put old between new root key gone born (Ok x) taken put = record {
  between = between;
  taken = taken;
  put = λ own free list stands. done own free (put_all key born list) (put own free list stands);
}
  where
    done : (own free : List ℕ) (after : Option (List Pair)) → IsPut between new root own free after (Ok x) → IsPut between new root own free after (Ok tt)
    done own free (Some list) h = h
    done own free None h = h
then_put old between new root key gone born (Err fault) taken put = tt
