-- What contracts see of a store in a file.
use Rattle.std.specs.Prelude.{ℕ, ◌==◌, List, length, Option, Some, if◌then◌else◌}
use Rattle.file_store.specs.declared.files.FileState.{FileState}
use Rattle.file_store.specs.declared.files.CutOff.{CutOff}

-- a store in a file: its synced and its pending bytes, how the file stands to the synced ones, what was cut off last, how many
-- calls wrote to it, and how many failed
pub record HeldFile : Type 0 where
  pub durable : List ℕ
  pub waiting : List ℕ
  pub state : FileState
  pub cut_off : Option CutOff
  pub writes : ℕ
  pub failures : ℕ

-- what was cut off last, once a cut at an offset took these bytes off, where there was this before
abbrev pub last_cut : ℕ → List ℕ → Option CutOff → Option CutOff
last_cut at bytes before = if length bytes == 0 then before else Some (record { at = at; count = length bytes })
