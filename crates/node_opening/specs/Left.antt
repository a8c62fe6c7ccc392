-- What is left of a store whose node is not up.
use Rattle.std.specs.Prelude.{◌≡◌, ◌⊎◌, ℕ, ◌+◌, List, [], ◌∷◌, length}
use Rattle.cdb_values.specs.declared.tables.TableDef.{TableDef}
use Rattle.phys_log.specs.declared.entries.Entry.{Entry}
use Rattle.store_log.specs.declared.standings.Standing.TheVariants.{Log}
use Rattle.store_log.specs.Held.{StandsFor}
use Rattle.store_log.specs.Opens.{StandsAlike}
use Rattle.node_opening.specs.declared.up.WhyNotUp.{WhyNotUp}
use Rattle.node_opening.specs.declared.up.WhyNotUp.TheVariants as why
use Rattle.node_opening.specs.Goods.{StandsForGood}
use Rattle.node_opening.specs.Up.{IsBegin}

-- a log without entries, with the promise, the acceptance and the setup behind it
pub record StandsBegun (node cluster : ℕ) (bytes : List ℕ) (given : List TableDef) (p : ℕ) (es : List Entry) : Type 0 where
  pub none : es ≡ []
  pub entry : Entry
  pub begin : IsBegin (p + 1) given entry
  pub stands : StandsFor node cluster bytes (Log (p + 1) (p + 1) (entry ∷ []))

-- bytes stand for a log, for this log with the next promise, for both with the acceptance, or for these with the setup
abbrev pub StandsPartway : ℕ → ℕ → List ℕ → List TableDef → ℕ → ℕ → List Entry → Type 0
StandsPartway node cluster bytes given p a es =
    StandsFor node cluster bytes (Log p a es)
    ⊎ (StandsFor node cluster bytes (Log (p + 1) a es)
    ⊎ (StandsFor node cluster bytes (Log (p + 1) (p + 1) es)
    ⊎ StandsBegun node cluster bytes given p es))

-- the node stopped where it was to stand, or to begin its log
pub record StopsPartway (node cluster : ℕ) (old new : List ℕ) (given : List TableDef) : Type 0 where
  pub promised : ℕ
  pub accepted : ℕ
  pub entries : List Entry
  pub stood : StandsForGood node cluster old given promised accepted entries
  pub stands : ∥ StandsPartway node cluster new given promised accepted entries ∥₁

-- the same where the store failed there, once a log of that size was read
pub record FailsPartway (node cluster : ℕ) (old new : List ℕ) (given : List TableDef) (size : ℕ) : Type 0 where
  pub partway : StopsPartway node cluster old new given
  pub had : size ≡ length partway.entries

-- a store that was refused stands for what it stood for
abbrev pub IsLeft : WhyNotUp → ℕ → ℕ → List ℕ → List ℕ → List TableDef → Type 0
IsLeft (why.StoreFault size) node cluster old new given = StandsAlike node cluster old new ⊎ FailsPartway node cluster old new given size
IsLeft (why.Refused at) node cluster old new given = StandsAlike node cluster old new
IsLeft why.Unsound node cluster old new given = StandsAlike node cluster old new
IsLeft (why.Differs table) node cluster old new given = StandsAlike node cluster old new
IsLeft why.NoMemory node cluster old new given = StandsAlike node cluster old new ⊎ StopsPartway node cluster old new given
