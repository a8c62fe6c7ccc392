use Rattle.std.proofs.Common.{◌≡◌, drop}
use Rattle.range_validate.specs.Touches.{first_touch_of, first_touch_from}
use Rattle.range_validate.proofs.touches.first_among.Given as goal

abbrev pub invariant-entries : goal.invariant-entries
invariant-entries l = first_touch_of l.tables l.entries l.genids l.ranges ≡ first_touch_from l.tables l.place (drop l.place l.entries) l.genids l.ranges
