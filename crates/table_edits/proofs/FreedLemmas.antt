-- Trees on which operations are done one after the other.
use Rattle.std.proofs.Common.{◌≡◌, ℕ, suc, ◌+◌, List, [], ◌∷◌, ◌++◌, length, refl, sym, ap, ◌∙◌, subst, arith}
use Rattle.std.specs.Prelude.{Option}
use Rattle.page_store.specs.Image.{Image}
use Rattle.page_workspace.specs.Spare.{next_genid}
use Rattle.btree_index.proofs.StandLemmas.{becomes_none}
use Rattle.cdb_values.specs.Rows.{Rows}
use Rattle.cdb_values.specs.declared.rows.RowOp.{RowOp}
use Rattle.cdb_values.specs.declared.rows.Version.{Version}
use Rattle.cdb_values.specs.declared.tables.KeyDef.{KeyDef}
use Rattle.cdb_values.specs.declared.tables.TableDef.{TableDef}
use Rattle.table_store.specs.Operations.{gone, born}
use Rattle.table_store.specs.Plans.{Planned, plan_from}
use Rattle.table_store.specs.Stored.{Stands}
use Rattle.table_changes.specs.Freed.{TakesThenPuts}
use Rattle.table_edits.specs.Freed.{DoesTrees, FreesLeaves}
use Rattle.table_edits.specs.Genids.{next_after, SetsGenid}
use Rattle.table_edits.specs.Halfway.{IsHalfway}
use Rattle.table_edits.specs.Kept.{store_of}
use Rattle.table_edits.proofs.ListLemmas.{append_none}

-- nothing goes, and nothing comes
nothing : (pages : ℕ → Image) (root : ℕ) (key : Option KeyDef) → TakesThenPuts pages pages root key [] []
nothing pages root key = record {
  between = pages;
  taken = refl;
  put = λ own free list stands. becomes_none pages root own free list stands;
}

pub left_alone : (pages : ℕ → Image) (root : ℕ) (key : Option KeyDef) (gone born : List Version) → gone ≡ [] → born ≡ [] → TakesThenPuts pages pages root key gone born
left_alone pages root key gone born g b =
    subst (λ (vs : List Version). TakesThenPuts pages pages root key vs born) (sym g)
    (subst (λ (vs : List Version). TakesThenPuts pages pages root key [] vs) (sym b) (nothing pages root key))

-- one tree more
pub trees_more : (old between new : ℕ → Image) (next : ℕ) (ops : List RowOp) (first root : ℕ) (done : List Planned) (p : Planned) → root ≡ first + length done
    → DoesTrees old between next ops first done → TakesThenPuts between new root p.key (gone p.table ops) (born p.table next ops)
    → DoesTrees old new next ops first (done ++ p ∷ [])
trees_more old between new next ops first root [] p at before one =
    let same : root ≡ first = omega arith in (
      new,
      subst (λ (pages : ℕ → Image). TakesThenPuts pages new first p.key (gone p.table ops) (born p.table next ops)) before
          (subst (λ (n : ℕ). TakesThenPuts between new n p.key (gone p.table ops) (born p.table next ops)) same one),
      refl,
    )
trees_more old between new next ops first root (q ∷ done) p at before one =
    let later : root ≡ suc first + length done = omega arith in
    (before.0, before.1, trees_more before.0 between new next ops (suc first) root done p later before.2 one)

-- all trees, and then the next genid
pub frees_leaves : (start pages new : ℕ → Image) (tables : List TableDef) (rows : Rows) (ops : List RowOp) (next root genid : ℕ) → (stands : Stands start tables rows)
    → IsHalfway (store_of start tables rows stands) pages rows ops (plan_from 0 tables) next root [] → SetsGenid pages new genid → genid ≡ next_after next ops
    → FreesLeaves start new tables ops
frees_leaves start pages new tables rows ops next root genid stands h set e =
    let plan : h.done ≡ plan_from 0 tables = sym (append_none h.done) ∙ h.whole in
    let from : next ≡ next_genid start = sym h.next_is ∙ sym stands.genid in
    record {
      between = pages;
      done = subst (λ (n : ℕ). DoesTrees start pages n ops 1 (plan_from 0 tables)) from
          (subst (λ (ps : List Planned). DoesTrees start pages next ops 1 ps) plan h.freed);
      told = subst (λ (n : ℕ). SetsGenid pages new n) (e ∙ ap (λ (n : ℕ). next_after n ops) from) set;
    }
