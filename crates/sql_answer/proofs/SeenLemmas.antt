-- What a transaction sees, without where it comes from, is the view of its operations.
use Rattle.std.proofs.Common.{◌≡◌, ℕ, ◌+◌, List, [], ◌∷◌, ◌++◌, refl, ap, map, ◌∙◌, Bool, true, false, cond, eqb}
use Rattle.std.specs.List.{filter}
use Rattle.std.proofs.lemmas.List.{map-append}
use Rattle.cdb_values.specs.Rows.{Rows, versions_of, written, view}
use Rattle.cdb_values.specs.declared.rows.RowOp.{RowOp}
use Rattle.cdb_values.specs.declared.rows.RowOp.TheVariants.{Insert, Update, Delete}
use Rattle.cdb_values.specs.declared.rows.Version.{Version}
use Rattle.cdb_values.specs.declared.values.Value.{Value}
use Rattle.sql_answer.specs.Combinations.{Seen, seen_version, own_or, own_from, is_left, seen, rows_of}

own_row : (b : Bool) (number : ℕ) (row : List Value) (later : List Seen) (rows : List (List Value)) → rows_of later ≡ rows → rows_of (own_or number row b later) ≡ cond b (row ∷ rows) rows
own_row true number row later rows is = ap (λ l. row ∷ l) is
own_row false number row later rows is = is

own_rows : (number table : ℕ) (ops : List RowOp) → rows_of (own_from number table ops) ≡ written table ops
own_rows number table [] = refl
own_rows number table (Insert place row ∷ ops) = own_row (eqb place table) number row (own_from (number + 1) table ops) (written table ops) (own_rows (number + 1) table ops)
own_rows number table (Update place target old row ∷ ops) = own_row (eqb place table) number row (own_from (number + 1) table ops) (written table ops) (own_rows (number + 1) table ops)
own_rows number table (Delete place target old ∷ ops) = own_rows (number + 1) table ops

base_rows : (versions : List Version) → rows_of (map seen_version versions) ≡ map (λ v. v.row) versions
base_rows [] = refl
base_rows (v ∷ versions) = ap (λ l. v.row ∷ l) (base_rows versions)

pub seen_is_view : (rows : Rows) (ops : List RowOp) (table : ℕ) → rows_of (seen rows.tables ops table) ≡ view rows ops table
seen_is_view rows ops table =
    let left : List Version = filter (is_left ops table) (versions_of rows table) in
    map-append (λ (s : Seen). s.row) (map seen_version left) (own_from 1 table ops)
    ∙ ap (λ front. front ++ rows_of (own_from 1 table ops)) (base_rows left)
    ∙ ap (λ back. map (λ (v : Version). v.row) left ++ back) (own_rows 1 table ops)
