-- What the tests of an opening look for, over what stores were found to be.
use Rattle.std.specs.Prelude.{ℕ, ◌+◌, ◌-◌, ◌==◌, ◌&&◌, ◌||◌, ◌++◌, ltb, Bool, true, false, List, [], ◌∷◌, Option, Some, None, slice_get, if◌then◌else◌}
use Rattle.cdb_values.specs.declared.tables.TableDef.{TableDef}
use Rattle.cluster_consensus.specs.Facts.{Admit}
use Rattle.node_opening.specs.Tables.{AreMatched, IsDifference}
use Rattle.node_openings.specs.declared.found.RankedLog.{RankedLog}
use Rattle.node_openings.specs.declared.found.StoreFound.{StoreFound}
use Rattle.node_openings.specs.declared.found.StoreFound.TheVariants as store
use Rattle.node_openings.specs.declared.found.WhyNotOpened.{WhyNotOpened}
use Rattle.node_openings.specs.declared.found.WhyNotOpened.TheVariants as why

-- where a store is bad
abbrev pub bad_place : StoreFound → Option ℕ
bad_place store.Failed = None
bad_place (store.Bad at) = Some at
bad_place store.NotSound = None
bad_place (store.Whole r) = None

abbrev pub refused_or : ℕ → Option ℕ → Option WhyNotOpened → Option WhyNotOpened
refused_or node None rest = rest
refused_or node (Some at) rest = Some (why.StoreRefused node at)

-- the first store that is bad, from that of a node on
abbrev pub bad_from : ℕ → List StoreFound → Option WhyNotOpened
bad_from node [] = None
bad_from node (f ∷ fs) = refused_or node (bad_place f) (bad_from (node + 1) fs)

-- whether its log is not sound
abbrev pub is_unsound : StoreFound → Bool
is_unsound store.Failed = false
is_unsound (store.Bad at) = false
is_unsound store.NotSound = true
is_unsound (store.Whole r) = false

-- the first store whose log is not sound
abbrev pub unsound_from : ℕ → List StoreFound → Option ℕ
unsound_from node [] = None
unsound_from node (f ∷ fs) = if is_unsound f then Some node else unsound_from (node + 1) fs

-- what a store promised and accepted whose log is sound; and all of them
abbrev pub admit_of : ℕ → StoreFound → List Admit
admit_of node store.Failed = []
admit_of node (store.Bad at) = []
admit_of node store.NotSound = []
admit_of node (store.Whole r) = record { node = node; promised = r.promised; accepted = r.accepted } ∷ []

abbrev pub admits_of : ℕ → List StoreFound → List Admit
admits_of node [] = []
admits_of node (f ∷ fs) = admit_of node f ++ admits_of (node + 1) fs

-- the best log of those before, and of these
abbrev pub is_better : RankedLog → Option RankedLog → Bool
is_better log None = true
is_better log (Some best) = ltb best.accepted log.accepted || ((log.accepted == best.accepted) && ltb best.length log.length)

abbrev pub better_of : RankedLog → Option RankedLog → Option RankedLog
better_of log best = if is_better log best then Some log else best

abbrev pub better_with : ℕ → StoreFound → Option RankedLog → Option RankedLog
better_with node store.Failed best = best
better_with node (store.Bad at) best = best
better_with node store.NotSound best = best
better_with node (store.Whole r) best = better_of (record { node = node; accepted = r.accepted; length = r.length }) best

abbrev pub best_from : ℕ → Option RankedLog → List StoreFound → Option RankedLog
best_from node best [] = best
best_from node best (f ∷ fs) = best_from (node + 1) (better_with node f best) fs

-- the tables of a log, where it has entries
abbrev pub tables_read : Option StoreFound → Option (List TableDef)
tables_read (Some (store.Whole r)) = r.tables
tables_read _ = None

abbrev pub tables_found : List StoreFound → Option RankedLog → Option (List TableDef)
tables_found fs None = None
tables_found fs (Some best) = tables_read (slice_get fs (best.node - 1))

-- those of the best log
abbrev pub best_tables_of : List StoreFound → Option (List TableDef)
best_tables_of fs = tables_found fs (best_from 1 None fs)

-- the given tables are those, or there are none; or this is the place of the first that differs
abbrev pub AreMatchedBest : List TableDef → Option (List TableDef) → Type 0
AreMatchedBest given None = Unit {0}
AreMatchedBest given (Some logged) = AreMatched given logged

abbrev pub IsOtherBest : List TableDef → Option (List TableDef) → ℕ → Type 0
IsOtherBest given None place = ⊥
IsOtherBest given (Some logged) place = IsDifference given logged place
