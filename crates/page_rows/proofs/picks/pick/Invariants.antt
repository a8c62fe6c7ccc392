-- the source means what it meant, and what was found, with what the other genids pick, is all
use Rattle.std.proofs.Common.{◌≡◌, ◌≤◌, ◌++◌, List, None, length}
use Rattle.cdb_values.specs.declared.rows.Version.{Version}
use Rattle.query_laws.specs.Intervals.{lies}
use Rattle.query_plan.specs.Views.{interval_in}
use Rattle.page_rows.specs.Listed.{IsTreeOf, AreReadable}
use Rattle.page_rows.specs.Picks.{picked}
use Rattle.page_rows.proofs.picks.pick.Given as goal

abbrev pub invariant-genids : goal.invariant-genids
invariant-genids g l = record {
  pages : g.P.PageSource.pages l.pages ≡ g.P.PageSource.pages l.fn.pages;
  below : g.P.PageSource.below l.pages ≡ g.P.PageSource.below l.fn.pages;
  losses : g.P.PageSource.losses l.fn.pages ≤ g.P.PageSource.losses l.pages;
  found : (versions : List Version) → IsTreeOf (g.P.PageSource.pages l.fn.pages) l.root None versions → AreReadable versions
      → l.found ++ picked (λ v. lies l.tables (interval_in l.interval) v.row) versions l.rest
      ≡ picked (λ v. lies l.tables (interval_in l.interval) v.row) versions l.fn.genids;
}

abbrev pub decreases-genids : goal.decreases-genids
decreases-genids g l = length l.rest
