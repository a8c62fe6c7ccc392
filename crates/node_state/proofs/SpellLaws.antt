-- Entries that have spellings, one after the other.
use Rattle.std.proofs.Common.{◌≡◌, List, [], ◌∷◌, ◌++◌, sym, subst}
use Rattle.std.specs.Prelude.{None}
use Rattle.cdb_values.specs.Tables.{add_fault}
use Rattle.cdb_values.specs.declared.tables.TableDef.{TableDef}
use Rattle.frame_code.specs.Spelled.{Grow, IsSpelled}
use Rattle.frame_code.specs.declared.frames.Frame.TheVariants as frame
use Rattle.node_log.specs.Logged.{AreSpelled}
use Rattle.phys_log.specs.declared.entries.Entry.{Entry}

-- a table more is added
pub grows_on : (whole schema new rest behind : List TableDef) (table : TableDef) → (Grow schema rest → Grow [] whole) → rest ≡ table ∷ behind → add_fault schema table ≡ None → new ≡ schema ++ table ∷ [] → Grow new behind → Grow [] whole
grows_on whole schema new rest behind table all e fits q g = all (subst (λ r. Grow schema r) (sym e) (fits, subst (λ s. Grow s behind) q g))

pub grown_all : (whole schema rest : List TableDef) → (Grow schema rest → Grow [] whole) → rest ≡ [] → Grow [] whole
grown_all whole schema rest all e = all (subst (λ r. Grow schema r) (sym e) tt)

-- an entry more
pub spelled_on : (whole rest behind : List Entry) (e : Entry) → (AreSpelled rest → AreSpelled whole) → rest ≡ e ∷ behind → IsSpelled (frame.Entry e) → AreSpelled behind → AreSpelled whole
spelled_on whole rest behind e all is s more = all (subst (λ r. AreSpelled r) (sym is) (s, more))

pub spelled_all : (whole rest : List Entry) → (AreSpelled rest → AreSpelled whole) → rest ≡ [] → AreSpelled whole
spelled_all whole rest all e = all (subst (λ r. AreSpelled r) (sym e) tt)
