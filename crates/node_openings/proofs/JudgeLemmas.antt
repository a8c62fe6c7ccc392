-- The tests of an opening, store by store.
use Rattle.std.proofs.Common.{◌≡◌, ℕ, ◌+◌, List, ◌∷◌, ◌++◌, append_assoc, true, false, Option, Some, None, MatchOption, slice_get, refl, subst, ap, ◌∙◌, if◌then◌else◌}
use Rattle.cdb_values.specs.declared.tables.TableDef.{TableDef}
use Rattle.cluster_consensus.specs.Facts.{Admit}
use Rattle.node_opening.specs.Tables.{AreMatched, IsDifference}
use Rattle.node_openings.specs.declared.found.RankedLog.{RankedLog}
use Rattle.node_openings.specs.declared.found.StoreFound.{StoreFound}
use Rattle.node_openings.specs.declared.found.WhyNotOpened.TheVariants as why
use Rattle.node_openings.specs.Judged.{AreMatchedBest, IsOtherBest, admit_of, admits_of, bad_from, bad_place, is_unsound, refused_or, tables_found, tables_read, unsound_from}

pub bad_next : (k : ℕ) (s : StoreFound) (ss : List StoreFound) → bad_place s ≡ None → bad_from k (s ∷ ss) ≡ bad_from (k + 1) ss
bad_next k s ss none = ap (λ o. refused_or k o (bad_from (k + 1) ss)) none

pub bad_here : (k at : ℕ) (s : StoreFound) (ss : List StoreFound) → bad_place s ≡ Some at → bad_from k (s ∷ ss) ≡ Some (why.StoreRefused k at)
bad_here k at s ss is = ap (λ o. refused_or k o (bad_from (k + 1) ss)) is

pub unsound_next : (k : ℕ) (s : StoreFound) (ss : List StoreFound) → is_unsound s ≡ false → unsound_from k (s ∷ ss) ≡ unsound_from (k + 1) ss
unsound_next k s ss sound = ap (λ b. if b then Some k else unsound_from (k + 1) ss) sound

pub unsound_here : (k : ℕ) (s : StoreFound) (ss : List StoreFound) → is_unsound s ≡ true → unsound_from k (s ∷ ss) ≡ Some k
unsound_here k s ss unsound = ap (λ b. if b then Some k else unsound_from (k + 1) ss) unsound

pub admits_next : (k : ℕ) (s : StoreFound) (ss : List StoreFound) (done all : List Admit) → done ++ admits_of k (s ∷ ss) ≡ all → (done ++ admit_of k s) ++ admits_of (k + 1) ss ≡ all
admits_next k s ss done all e = append_assoc done (admit_of k s) (admits_of (k + 1) ss) ∙ e

-- the tables of the best log, where it is at hand
pub differs_by : (o : Option ℕ) (given logged : List TableDef) (best : Option (List TableDef)) → Some logged ≡ best → MatchOption o (AreMatched given logged) (IsDifference given logged)
    → MatchOption o (AreMatchedBest given best) (IsOtherBest given best)
differs_by o given logged best is told = subst (λ b. MatchOption o (AreMatchedBest given b) (IsOtherBest given b)) is told

pub differs_none : (given : List TableDef) (best : Option (List TableDef)) → None ≡ best → MatchOption None (AreMatchedBest given best) (IsOtherBest given best)
differs_none given best is = subst (λ b. MatchOption None (AreMatchedBest given b) (IsOtherBest given b)) is tt

-- and in their place among what was found
pub best_there : (ss : List StoreFound) (r : RankedLog) (best : Option RankedLog) (o : Option (List TableDef)) → Some r ≡ best → o ≡ tables_found ss (Some r) → o ≡ tables_found ss best
best_there ss r best o is tables = subst (λ b. o ≡ tables_found ss b) is tables

pub best_missing : (ss : List StoreFound) (best : Option RankedLog) → None ≡ best → None ≡ tables_found ss best
best_missing ss best is = subst (λ b. None ≡ tables_found ss b) is refl

pub tables_there : (ss : List StoreFound) (k : ℕ) (s : StoreFound) (o : Option (List TableDef)) → Some s ≡ slice_get ss k → o ≡ tables_read (Some s) → o ≡ tables_read (slice_get ss k)
tables_there ss k s o is tables = subst (λ b. o ≡ tables_read b) is tables

pub tables_missing : (ss : List StoreFound) (k : ℕ) → None ≡ slice_get ss k → None ≡ tables_read (slice_get ss k)
tables_missing ss k is = subst (λ b. None ≡ tables_read b) is refl
