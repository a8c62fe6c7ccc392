-- The next genid behind operations, and the meta page with another one.
use Rattle.std.proofs.Common.{◌≡◌, ℕ, List, [], ◌∷◌, refl, ◌∙◌}
use Rattle.std.specs.Prelude.{Result, Ok, Err, OnOk}
use Rattle.page_store.specs.Image.{Image}
use Rattle.page_workspace.specs.declared.metas.Meta.{Meta}
use Rattle.page_workspace.specs.Metas.{TellsMeta, SetsMeta}
use Rattle.cdb_values.specs.Rows.{Rows, apply, apply_all}
use Rattle.cdb_values.specs.declared.rows.RowOp.{RowOp}
use Rattle.cdb_values.specs.declared.rows.RowOp.TheVariants.{Insert, Update, Delete}
use Rattle.cdb_values.specs.declared.rows.RowRef.TheVariants.{Base, Own}
use Rattle.table_edits.specs.Genids.{next_after, SetsGenid}

-- operations
pub next_is : (ops : List RowOp) (rows : Rows) → (apply_all rows ops).next ≡ next_after rows.next ops
next_is [] rows = refl
next_is (Insert place row ∷ ops) rows = next_is ops (apply rows (Insert place row))
next_is (Update place (Base genid) old row ∷ ops) rows = next_is ops (apply rows (Update place (Base genid) old row))
next_is (Update place (Own write) old row ∷ ops) rows = next_is ops rows
next_is (Delete place (Base genid) old ∷ ops) rows = next_is ops (apply rows (Delete place (Base genid) old))
next_is (Delete place (Own write) old ∷ ops) rows = next_is ops rows

-- the meta page with another next genid
pub sets : (old new : ℕ → Image) (m : Meta) (genid : ℕ) → TellsMeta old m → SetsMeta old new (record { next = genid; count = m.count; free = m.free })
    → SetsGenid old new genid
sets old new m genid told set = record {
  genid = set.next;
  count = set.count ∙ told.count;
  free = set.free ∙ told.free;
  meta = λ _. set.is;
  others = set.others;
}

-- what follows from what is true after no error
pub after_ok : {T E : Type 0} (result : Result T E) (P Q : Type 0) → (P → Q) → OnOk result P → OnOk result Q
after_ok (Ok x) P Q f h = f h
after_ok (Err fault) P Q f h = tt
