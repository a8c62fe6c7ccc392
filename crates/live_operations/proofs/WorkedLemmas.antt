-- The two deletes of the worked example, on the rows that another transaction left.
use Rattle.std.proofs.Common.{◌≡◌, inl, inr, ◌==◌, Bool, true, false, cond, [], ◌∷◌, refl, ap, arith}
use Rattle.cdb_values.specs.Rows.{apply_all}
use Rattle.cdb_values.specs.declared.rows.Version.{Version}
use Rattle.sql_answer.specs.Worked.{int, version_of_two}
use Rattle.table_store.specs.Listings.{IsAmong}
use Rattle.table_store.specs.Operations.{NoTwice}
use Rattle.live_operations.specs.Live.{AreLive}
use Rattle.live_operations.specs.Worked.{two, rows, both_deleted, one_more, one_less}
use Rattle.live_operations.proofs.LiveLaws.{gone_there}
use Rattle.live_operations.proofs.StayLaws.{live_stay_live}

abbrev first : Version
first = version_of_two 3 (int 1) (int 10)

abbrev second : Version
second = version_of_two 5 (int 2) (int 20)

genids_differ : second.genid ≡ first.genid → ⊥
genids_differ same = omega (arith, same)

both_live : AreLive two both_deleted
both_live = record { there = gone_there two both_deleted (inl refl, (inr (inl refl), tt)); once = λ table. once (0 == table) }
  where
    once : (here : Bool) → NoTwice (cond here (first ∷ cond here (second ∷ []) []) (cond here (second ∷ []) []))
    once true = ((genids_differ, tt), (tt, tt))
    once false = tt

pub both_stay : AreLive (apply_all rows one_more).tables both_deleted
both_stay = live_stay_live rows both_deleted one_more both_live refl

alone : IsAmong second (first ∷ []) → ⊥
alone (inl same) = genids_differ (ap (λ (v : Version). v.genid) same)
alone (inr none) = none

pub one_went : AreLive (apply_all rows one_less).tables both_deleted → ⊥
one_went live = alone (live.there 0).1.0
