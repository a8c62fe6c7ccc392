-- What is told at an opening in place of a report, computed.
use Rattle.std.proofs.Common.{◌≡◌, ℕ, [], ◌∷◌, refl, ap, arith, Bool, false, Option, Some, None, inl, inr, bytes_eq, codes, map}
use Rattle.std.proofs.lemmas.Bool.{true≢false}
use Rattle.cdb_outside.specs.declared.statuses.Status.TheVariants as status
use Rattle.cdb_values.specs.declared.tables.TableDef.{TableDef}
use Rattle.report_text.specs.declared.reports.EntryLine.TheVariants.{Setup}
use Rattle.report_worked.specs.Worked.{worked_table}
use Rattle.play_order.specs.Openings.{BadAt, IsToldAtOpening, MayPlay, first_unfit, peer_of, read_late}
use Rattle.play_order.specs.Openings.Finding.{BadFrame, NotSound, WholeLog}
use Rattle.play_worked.specs.Plays.{reads_go_on}
use Rattle.play_worked.specs.Stores.{earlier_log, empty_stores, half_read, holding, other_table, with_log, with_other}
use Rattle.play_worked.proofs.StoreLemmas.{empty_may, same_may, some_none}

-- whether a table is called t
is_called_t : Option TableDef → Bool
is_called_t None = false
is_called_t (Some table) = bytes_eq table.name (codes "t")

tables_differ : Some worked_table ≡ Some other_table → ⊥
unfolding is_called_t
tables_differ same = true≢false (ap is_called_t same)

pub differs_from_the_best : IsToldAtOpening reads_go_on (with_log 2 2 (Setup 1 ∷ []) ∷ with_other 2 2 earlier_log ∷ WholeLog (holding 2 0 []) [] ∷ []) (status.Refused 4 9)
differs_from_the_best = (
  ((refl, refl), refl),
  refl,
  record {
    best = record { node = 2; has = holding 2 2 earlier_log };
    is_best = refl;
    some = omega arith;
    place = 0;
    difference = record { within = omega arith; before = refl; differs = inl tables_differ };
    said = record { line = 4; table = worked_table };
    at = refl;
    line_is = refl;
  },
)

some_bad : (b : BadAt) → Some b ≡ None → ⊥
some_bad b is = let no_such : Some b ≡ None = is in cc

two_is_one : ◌≡◌ {A = Option ℕ} (Some 2) (Some 1) → ⊥
two_is_one is = let no_such : ◌≡◌ {A = Option ℕ} (Some 2) (Some 1) = is in cc

pub not_the_first : IsToldAtOpening reads_go_on (NotSound ∷ BadFrame 27 ∷ BadFrame 40 ∷ []) (status.Unsound 1) → ⊥
not_the_first (inl (whole, unsound)) = some_bad _ whole
not_the_first (inr (sound, unfit)) = some_bad _ sound.0

pub not_unfit_first : IsToldAtOpening reads_go_on (WholeLog (holding 5 5 []) [] ∷ NotSound ∷ WholeLog (holding 0 0 []) [] ∷ []) (status.Unsound 1) → ⊥
not_unfit_first (inl (whole, unsound)) = two_is_one unsound
not_unfit_first (inr (sound, unfit)) = some_none 2 sound.1

-- one store was not read, and counts for the accepted generation
pub half_read_is_played : MayPlay reads_go_on half_read
half_read_is_played = empty_may _ _ (record { node = 1; has = holding 5 5 [] }) refl ((refl, refl), refl) refl refl

-- the best log has the script's table, though another one is longer
pub other_is_not_the_best : MayPlay reads_go_on (with_other 2 2 earlier_log ∷ with_log 3 3 (Setup 1 ∷ []) ∷ WholeLog (holding 3 0 []) [] ∷ [])
other_is_not_the_best = same_may _ _ (record { node = 2; has = holding 3 3 (Setup 1 ∷ []) }) refl ((refl, refl), refl) refl refl

-- once it is read, and promised less, the stores do not fit
pub read_late_is_unfit : first_unfit 3 (read_late half_read (map peer_of (empty_stores 3))) ≡ Some 1
read_late_is_unfit = refl
