-- What is told of some stores, computed.
use Rattle.std.proofs.Common.{◌≡◌, ◌<◌, List, [], ◌∷◌, Some, None, refl, inl, inr, arith}
use Rattle.std.specs.declared.snapshot.Snapshot.{Snapshot}
use Rattle.cdb_values.specs.Rows.{Rows}
use Rattle.cdb_values.specs.declared.tables.TableDef.{TableDef}
use Rattle.node_opening.specs.Tables.{IsDifference}
use Rattle.node_openings.specs.declared.found.StoreFound.TheVariants as store
use Rattle.node_openings.specs.declared.found.WhyNotOpened.TheVariants as why
use Rattle.node_openings.specs.Facts.{log_found}
use Rattle.node_openings.specs.Told.{IsToldOf, MayPlayOf}
use Rattle.node_openings.proofs.ToldLemmas.{told_bad, told_unsound, told_unfit_by, told_differs_by, may_play_by}

pub two_bad : (given : List TableDef) → IsToldOf given (store.NotSound ∷ store.Bad 27 ∷ store.Bad 40 ∷ []) (why.StoreRefused 2 27)
two_bad given = told_bad given (store.NotSound ∷ store.Bad 27 ∷ store.Bad 40 ∷ []) (why.StoreRefused 2 27) refl

pub unsound_before : (given : List TableDef) (rows : Snapshot Rows) → IsToldOf given (store.Whole (log_found 5 5 0 None rows) ∷ store.NotSound ∷ store.NotSound ∷ []) (why.Unsound 2)
unsound_before given rows = told_unsound given (store.Whole (log_found 5 5 0 None rows) ∷ store.NotSound ∷ store.NotSound ∷ []) 2 refl refl

pub not_promised : (given : List TableDef) (rows : Snapshot Rows) → IsToldOf given (store.Whole (log_found 5 5 0 None rows) ∷ store.Whole (log_found 0 0 0 None rows) ∷ store.Whole (log_found 0 0 0 None rows) ∷ []) (why.Unsound 1)
not_promised given rows = told_unfit_by given (store.Whole (log_found 5 5 0 None rows) ∷ store.Whole (log_found 0 0 0 None rows) ∷ store.Whole (log_found 0 0 0 None rows) ∷ []) 1 refl refl refl

pub not_read : (given : List TableDef) (rows : Snapshot Rows) → MayPlayOf given (store.Whole (log_found 5 5 0 None rows) ∷ store.Whole (log_found 0 0 0 None rows) ∷ store.Failed ∷ [])
not_read given rows = may_play_by given (store.Whole (log_found 5 5 0 None rows) ∷ store.Whole (log_found 0 0 0 None rows) ∷ store.Failed ∷ []) refl refl refl tt

first_differs : (t u : TableDef) → (t ≡ u → ⊥) → IsDifference (t ∷ []) (u ∷ []) 0
first_differs t u other = record { within = (let w : 0 < 1 = omega arith in w); before = refl; differs = inl (λ same. other (some_table t u same)) }
  where
    some_table : (t u : TableDef) → Some t ≡ Some u → t ≡ u
    some_table t u e = cc

pub best_differs : (t u : TableDef) (rows : Snapshot Rows) → (t ≡ u → ⊥)
    → IsToldOf (t ∷ []) (store.Whole (log_found 3 2 2 (Some (t ∷ [])) rows) ∷ store.Whole (log_found 3 3 1 (Some (u ∷ [])) rows) ∷ store.Whole (log_found 3 0 0 None rows) ∷ []) (why.Differs 0)
best_differs t u rows other = told_differs_by (t ∷ []) (store.Whole (log_found 3 2 2 (Some (t ∷ [])) rows) ∷ store.Whole (log_found 3 3 1 (Some (u ∷ [])) rows) ∷ store.Whole (log_found 3 0 0 None rows) ∷ []) 0 refl refl refl (first_differs t u other)

pub another_differs : (t u : TableDef) (rows : Snapshot Rows)
    → MayPlayOf (t ∷ []) (store.Whole (log_found 3 2 2 (Some (u ∷ [])) rows) ∷ store.Whole (log_found 3 3 1 (Some (t ∷ [])) rows) ∷ store.Whole (log_found 3 0 0 None rows) ∷ [])
another_differs t u rows = may_play_by (t ∷ []) (store.Whole (log_found 3 2 2 (Some (u ∷ [])) rows) ∷ store.Whole (log_found 3 3 1 (Some (t ∷ [])) rows) ∷ store.Whole (log_found 3 0 0 None rows) ∷ []) refl refl refl (inr refl)
