-- Logs in parts: their rows, what they take away, and the positions at which their pages stand for their rows.
use Rattle.std.proofs.Common.{◌≡◌, ◌⊎◌, ℕ, zero, suc, ◌≤◌, inl, inr, List, [], ◌∷◌, ◌++◌, length, take, drop, unwrap_or, Option, refl, sym, ap, ◌∙◌, subst, arith, length-append}
use Rattle.std.proofs.lemmas.List.{take-append-drop, take-append-le}
use Rattle.std.specs.List.{AllByRecursion}
use Rattle.cdb_values.specs.Rows.{Rows, versions_of}
use Rattle.cdb_values.specs.declared.items.GenidItem.{GenidItem}
use Rattle.cdb_values.specs.declared.rows.Version.{Version}
use Rattle.cdb_values.specs.declared.tables.TableDef.{TableDef}
use Rattle.phys_log.specs.Logs.{pages_of, page_at}
use Rattle.phys_log.specs.declared.entries.Entry.{Entry}
use Rattle.phys_log.specs.declared.entries.Entry.TheVariants.{Setup, Commit}
use Rattle.log_replay.specs.Answers.{schema_of}
use Rattle.table_store.specs.Listings.{IsAmong}
use Rattle.table_store.specs.Stored.{Stands}
use Rattle.log_rows.specs.History.{Ground, rows_after, rows_from, rows_over, rows_over_at, takes_of, takes_in, tables_of, StandsOver, IsCommit, IsUntaken}
use Rattle.log_rows.proofs.RowLemmas.{changes_stay}

rows_from-append : (rows : Rows) (xs ys : List Entry) → rows_from rows (xs ++ ys) ≡ rows_from (rows_from rows xs) ys
rows_from-append rows [] ys = refl
rows_from-append rows (x ∷ xs) ys = rows_from-append (rows_after rows x) xs ys

take_all : {A : Type 0} (xs : List A) → take (length xs) xs ≡ xs
take_all [] = refl
take_all (x ∷ xs) = ap (λ l. x ∷ l) (take_all xs)

-- what is left behind a position of entries, in parts
drop_all : (position : ℕ) (entries : List Entry) → length entries ≤ position → drop position entries ≡ []
drop_all zero [] h = refl
drop_all zero (e ∷ es) h = absurd (none h)
  where
    none : length (e ∷ es) ≤ 0 → ⊥
    none h = omega (arith, h)
drop_all (suc position) [] h = refl
drop_all (suc position) (e ∷ es) h = drop_all position es (omega (arith, h))

drop_more : (position : ℕ) (entries : List Entry) (entry : Entry) → position ≤ length entries → drop position (entries ++ entry ∷ []) ≡ drop position entries ++ entry ∷ []
drop_more zero entries entry h = refl
drop_more (suc position) [] entry h = absurd (none h)
  where
    none : suc position ≤ 0 → ⊥
    none h = omega (arith, h)
drop_more (suc position) (e ∷ es) entry h = drop_more position es entry (omega (arith, h))

drop_parts : (position begin : ℕ) (entries : List Entry) → position ≤ begin → drop position (take begin entries) ++ drop begin entries ≡ drop position entries
drop_parts zero begin entries h = take-append-drop begin entries
drop_parts (suc position) zero entries h = absurd (none h)
  where
    none : suc position ≤ 0 → ⊥
    none h = omega (arith, h)
drop_parts (suc position) (suc begin) [] h = refl
drop_parts (suc position) (suc begin) (e ∷ es) h = drop_parts position begin es (omega (arith, h))

pub rows_ground : (footing : Ground) (entries : List Entry) → length entries ≤ footing.position → rows_over footing entries ≡ footing.rows
rows_ground footing entries h = ap (λ (es : List Entry). rows_from footing.rows es) (drop_all footing.position entries h)

pub rows_earlier : (footing : Ground) (entries more : List Entry) (k : ℕ) → k ≤ length entries → rows_over_at footing (entries ++ more) k ≡ rows_over_at footing entries k
rows_earlier footing entries more k h = ap (rows_over footing) (take-append-le k entries more h)

pub rows_whole : (footing : Ground) (entries : List Entry) → rows_over_at footing entries (length entries) ≡ rows_over footing entries
rows_whole footing entries = ap (rows_over footing) (take_all entries)

pub rows_last : (footing : Ground) (entries : List Entry) (entry : Entry) → footing.position ≤ length entries
    → rows_over footing (entries ++ entry ∷ []) ≡ rows_after (rows_over footing entries) entry
rows_last footing entries entry within =
    ap (λ (es : List Entry). rows_from footing.rows es) (drop_more footing.position entries entry within)
    ∙ rows_from-append footing.rows (drop footing.position entries) (entry ∷ [])

-- the last position, or one before it
last_or : (k n : ℕ) → k ≤ suc n → (k ≤ n) ⊎ (k ≡ suc n)
last_or zero n h = inl (omega arith)
last_or (suc k) zero h = inr (omega arith)
last_or (suc k) (suc n) h = go (last_or k n (omega arith))
  where
    go : (k ≤ n) ⊎ (k ≡ suc n) → (suc k ≤ suc n) ⊎ (suc k ≡ suc (suc n))
    go (inl l) = inl (omega arith)
    go (inr e) = inr (ap (λ (m : ℕ). suc m) e)

-- pages that stand for rows, of the same entries
same_stand : (footing : Ground) (tables : List TableDef) (xs ys : List Entry) → xs ≡ ys → Stands (pages_of xs) tables (rows_over footing xs)
    → Stands (pages_of ys) tables (rows_over footing ys)
same_stand footing tables xs ys e h = subst (λ (l : List Entry). Stands (pages_of l) tables (rows_over footing l)) e h

pub stand_begun : (footing : Ground) (tables : List TableDef) (entries : List Entry) → length entries ≡ footing.position
    → (1 ≤ length entries → Stands (pages_of entries) tables footing.rows) → StandsOver footing tables entries
stand_begun footing tables entries long stands k from high =
    let some : 1 ≤ length entries = (let low = from.0 in omega (arith, low, high)) in
    let last : length entries ≡ k = (let base = from.1 in omega (arith, long, base, high)) in
    let ends : length entries ≤ footing.position = omega (arith, long) in
    same_stand footing tables entries (take k entries) (sym (ap (λ (n : ℕ). take n entries) (sym last) ∙ take_all entries))
    (subst (λ (r : Rows). Stands (pages_of entries) tables r) (sym (rows_ground footing entries ends)) (stands some))

pub stand_more : (footing : Ground) (tables : List TableDef) (entries : List Entry) (entry : Entry) → StandsOver footing tables entries
    → Stands (pages_of (entries ++ entry ∷ [])) tables (rows_over footing (entries ++ entry ∷ [])) → StandsOver footing tables (entries ++ entry ∷ [])
stand_more footing tables entries entry before now k from high =
    let long = length-append entries (entry ∷ []) in
    let within : k ≤ suc (length entries) = omega (arith, long) in
    go (last_or k (length entries) within)
  where
    all : List Entry
    all = entries ++ entry ∷ []

    go : (k ≤ length entries) ⊎ (k ≡ suc (length entries)) → Stands (page_at all k) tables (rows_over_at footing all k)
    go (inl l) = same_stand footing tables (take k entries) (take k all) (sym (take-append-le k entries (entry ∷ []) l)) (before k from l)
    go (inr e) =
        let long = length-append entries (entry ∷ []) in
        let last : k ≡ length all = omega (arith, long, e) in
        same_stand footing tables all (take k all) (sym (ap (λ (n : ℕ). take n all) last ∙ take_all all)) now

pub stand_front : (footing : Ground) (tables : List TableDef) (entries more : List Entry) → StandsOver footing tables (entries ++ more) → StandsOver footing tables entries
stand_front footing tables entries more h k from high =
    let long = length-append entries more in
    let within : k ≤ length (entries ++ more) = omega (arith, long) in
    same_stand footing tables (take k (entries ++ more)) (take k entries) (take-append-le k entries more high) (h k from within)

pub stand_whole : (footing : Ground) (tables : List TableDef) (entries : List Entry) → 1 ≤ length entries → footing.position ≤ length entries
    → StandsOver footing tables entries → Stands (pages_of entries) tables (rows_over footing entries)
stand_whole footing tables entries some base h =
    let last : length entries ≤ length entries = omega arith in
    same_stand footing tables (take (length entries) entries) entries (take_all entries) (h (length entries) (some, base) last)

-- the schema of the first entry
pub schema_front : (entries more : List Entry) → 1 ≤ length entries → schema_of (entries ++ more) ≡ schema_of entries
schema_front [] more some = absurd (none some)
  where
    none : 1 ≤ 0 → ⊥
    none h = omega arith
schema_front (e ∷ es) more some = refl

pub tables_front : (entries more : List Entry) → 1 ≤ length entries → tables_of (entries ++ more) ≡ tables_of entries
tables_front entries more some = ap (λ (o : Option (List TableDef)). unwrap_or o []) (schema_front entries more some)

pub takes_more : (entries : List Entry) (entry : Entry) → takes_in (entries ++ entry ∷ []) ≡ takes_in entries ++ takes_of entry ∷ []
takes_more [] entry = refl
takes_more (e ∷ es) entry = ap (λ (l : List (List GenidItem)). takes_of e ∷ l) (takes_more es entry)

pub takes_behind : (begin : ℕ) (entries : List Entry) → drop begin (takes_in entries) ≡ takes_in (drop begin entries)
takes_behind zero entries = refl
takes_behind (suc begin) [] = refl
takes_behind (suc begin) (e ∷ es) = takes_behind begin es

-- a version that no entry takes away
entry_stays : (entry : Entry) (rows : Rows) (table : ℕ) (v : Version) → IsCommit entry → IsUntaken table v.genid (takes_of entry)
    → IsAmong v (versions_of rows table) → IsAmong v (versions_of (rows_after rows entry) table)
entry_stays (Setup generation schema records) rows table v commit off h = absurd commit
entry_stays (Commit generation id begin level changes records) rows table v commit off h = changes_stay changes rows table v off h

entries_stay : (entries : List Entry) (rows : Rows) (table : ℕ) (v : Version) → AllByRecursion IsCommit entries
    → AllByRecursion (IsUntaken table v.genid) (takes_in entries) → IsAmong v (versions_of rows table) → IsAmong v (versions_of (rows_from rows entries) table)
entries_stay [] rows table v commits off h = h
entries_stay (e ∷ es) rows table v commits off h =
    entries_stay es (rows_after rows e) table v commits.1 off.1 (entry_stays e rows table v commits.0 off.0 h)

pub stays : (footing : Ground) (entries : List Entry) (begin table : ℕ) (v : Version) → footing.position ≤ begin → AllByRecursion IsCommit (drop begin entries)
    → IsAmong v (versions_of (rows_over_at footing entries begin) table) → AllByRecursion (IsUntaken table v.genid) (drop begin (takes_in entries))
    → IsAmong v (versions_of (rows_over footing entries) table)
stays footing entries begin table v base commits h off =
    let parts : rows_from (rows_over_at footing entries begin) (drop begin entries) ≡ rows_over footing entries =
    sym (rows_from-append footing.rows (drop footing.position (take begin entries)) (drop begin entries))
    ∙ ap (λ (es : List Entry). rows_from footing.rows es) (drop_parts footing.position begin entries base) in
    subst (λ (r : Rows). IsAmong v (versions_of r table)) parts
    (entries_stay (drop begin entries) (rows_over_at footing entries begin) table v commits
    (subst (λ (l : List (List GenidItem)). AllByRecursion (IsUntaken table v.genid) l) (takes_behind begin entries) off) h)
