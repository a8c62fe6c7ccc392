-- How versions are put together from genids that rise: of each genid the version that it names, where it is wanted.
--
--     versions      1, 3, 5, 7
--     genids        3, 5, 9
--     wanted        3, 7
--     picked        3
use Rattle.std.specs.Prelude.{ℕ, ◌<◌, ◌==◌, Bool, List, [], ◌∷◌}
use Rattle.std.specs.List.{AllByRecursion, filter, flat_map}
use Rattle.cdb_values.specs.declared.rows.Version.{Version}

-- each number is below all later ones
abbrev pub AreRising : List ℕ → Type 0
AreRising [] = Unit {0}
AreRising (n ∷ ns) = AllByRecursion (λ m. n < m) ns × AreRising ns

-- each version's genid is below those of all later ones
abbrev pub Ascend : List Version → Type 0
Ascend [] = Unit {0}
Ascend (v ∷ vs) = AllByRecursion (λ w. v.genid < w.genid) vs × Ascend vs

-- the versions of a genid; a table has at most one
abbrev pub of_genid : ℕ → List Version → List Version
of_genid genid versions = filter (λ v. v.genid == genid) versions

-- the versions of these genids that are wanted, in the order of the genids
abbrev pub picked : (Version → Bool) → List Version → List ℕ → List Version
picked wanted versions genids = flat_map (λ genid. filter wanted (of_genid genid versions)) genids
