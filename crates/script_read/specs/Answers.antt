-- What an answer of the code says of the reading that the definitions give: the value, or the refusal
-- at its line with its reason, unless memory ran out.
use Rattle.std.specs.Prelude.{◌≡◌, ℕ, Result, Ok, Err}
use Rattle.script_read.specs.declared.scripts.ScriptStop.{ScriptStop}
use Rattle.script_read.specs.declared.scripts.ScriptStop.TheVariants as stops

-- the first line that has a reason against it, and its smallest reason
pub record Refusal : Type 0 where
  pub line : ℕ
  pub why : ℕ

abbrev pub refusal : ℕ → ℕ → Refusal
refusal line why = record { line = line; why = why }

abbrev pub Stops : {Y : Type 0} → ScriptStop → Result Y Refusal → Type 0
Stops (stops.Refused line why) reading = reading ≡ Err (refusal line why)
Stops stops.NoMemory reading = Unit {0}

abbrev pub AnswersReading : {X Y : Type 0} → (X → Y) → Result X ScriptStop → Result Y Refusal → Type 0
AnswersReading view (Ok x) reading = reading ≡ Ok (view x)
AnswersReading view (Err stop) reading = Stops stop reading
