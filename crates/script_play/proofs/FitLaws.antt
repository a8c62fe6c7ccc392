-- Sound rows fit their tables.
use Rattle.std.proofs.Common.{ℕ, ◌∷◌, [], List}
use Rattle.std.specs.List.{AllByRecursion}
use Rattle.cdb_values.specs.Good.{AllFit, FitsTable}
use Rattle.cdb_values.specs.declared.rows.Version.{Version}
use Rattle.cdb_values.specs.declared.tables.TableDef.{TableDef}
use Rattle.sql_run.specs.Sound.{AreSound, IsSoundVersion}

versions_fit : (table : TableDef) (next : ℕ) (versions : List Version) → AllByRecursion (IsSoundVersion table next) versions → AllByRecursion (λ (v : Version). FitsTable table v.row) versions
versions_fit table next [] all = tt
versions_fit table next (v ∷ vs) all = (all.0.0, versions_fit table next vs all.1)

pub sound_fits : (tables : List TableDef) (next : ℕ) (versions : List (List Version)) → AreSound tables next versions → AllFit tables versions
sound_fits [] next [] sound = tt
sound_fits [] next (vs ∷ others) sound = absurd sound
sound_fits (table ∷ tables) next [] sound = absurd sound
sound_fits (table ∷ tables) next (vs ∷ others) sound = (versions_fit table next vs sound.0, sound_fits tables next others sound.1)
