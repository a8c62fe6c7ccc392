-- A script that watches tables of its own has feeds that fit.
use Rattle.std.proofs.Common.{◌≡◌, ℕ, ◌+◌, ◌-◌, ◌<◌, List, [], ◌∷◌, length, arith, refl, ap}
use Rattle.std.specs.Prelude.{zero, suc, Some, slice_get, option_map}
use Rattle.std.specs.List.{AllByRecursion}
use Rattle.node_reports.specs.Fed.{events, IsFeedTold, AreFeeds}
use Rattle.report_laws.specs.History.{Basis}
use Rattle.report_laws.specs.View.{View}
use Rattle.report_text.specs.declared.reports.FeedLine.{FeedLine}

got : {A : Type 0} (xs : List A) (k : ℕ) → k < length xs → (x : A) × (slice_get xs k ≡ Some x)
got [] k le = absurd (omega arith)
got (x ∷ xs) zero le = (x, refl)
got (x ∷ xs) (suc k) le = got xs k (omega arith)

pub feeds_fit : (basis : Basis) (view : View) (position place : ℕ) (ws : List ℕ) → AllByRecursion (λ w. w < length basis.script.tables) ws → (feeds : List FeedLine) × AreFeeds basis view position place ws feeds
feeds_fit basis view position place [] all = ([], refl)
feeds_fit basis view position place (w ∷ ws) all =
    let t = got basis.script.tables w all.0 in
    let rest = feeds_fit basis view position (place + 1) ws all.1 in
    let taken = events view t.0.table.name basis.origin.position (position - basis.origin.position) in
    let feed : FeedLine = record { place = place; table = t.0.table.name; taken = taken; dropped = 0 } in
    let told : IsFeedTold basis view position place w feed = record { is_place = refl; is_table = ap (λ z. option_map (λ t. t.table.name) z) t.1; most = omega arith; whole = λ q. refl } in
    (feed ∷ rest.0, (told, rest.1))
