-- The rows of a table that a transaction sees, as they are gathered from the left.
use Rattle.std.proofs.Common.{◌≡◌, List, [], ◌∷◌, ◌++◌, map, Bool, true, false, not, cond, ap, append_assoc, append-nil}
use Rattle.cdb_values.specs.declared.rows.Version.{Version}
use Rattle.sql_answer.specs.Combinations as laws
use Rattle.sql_answer.specs.Combinations.{seen_version}

-- one version more, which may have been taken away
pub left_more : (gone : Bool) (rows : List laws.Seen) (v : Version) (versions : List Version) →
    (rows ++ cond gone [] (seen_version v ∷ [])) ++ map seen_version versions ≡ rows ++ map seen_version (cond (not gone) (v ∷ versions) versions)
left_more true rows v versions = ap (λ l. l ++ map seen_version versions) (append-nil rows)
left_more false rows v versions = append_assoc rows (seen_version v ∷ []) (map seen_version versions)
