-- The status with which the process ends.
use Rattle.std.specs.Prelude.{ℕ}
use Rattle.cdb_outside.specs.declared.statuses.Status.{Status}
use Rattle.cdb_outside.specs.declared.statuses.Status.TheVariants as status

abbrev pub exit_of : Status → ℕ
exit_of status.Done = 0
exit_of status.Usage = 2
exit_of (status.Refused line why) = 3
exit_of status.ReadFault = 4
exit_of status.WriteFault = 5
exit_of (status.StoreRefused node at) = 6
exit_of status.NoMemory = 7
exit_of (status.Unsound node) = 9
