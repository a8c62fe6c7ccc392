-- What is read by a key is what lies in the interval.
use Rattle.std.proofs.Common.{◌≡◌, inl, inr, ℕ, zero, suc, ◌^◌, ◌<◌, ◌≤◌, Bool, true, false, not, cond, ◌&&◌, if◌then◌else◌, List, [], ◌∷◌, ◌++◌, length, map, Option, Some, None, unwrap_or, refl, sym, ap, ◌∙◌, arith}
use Rattle.std.specs.Prelude.{MatchOption}
use Rattle.std.proofs.lemmas.Bool.{false≢true}
use Rattle.std.proofs.lemmas.List.{append-nil}
use Rattle.std.proofs.lemmas.Option.{none-some}
use Rattle.std.specs.List.{AllByRecursion, filter, slice_get}
use Rattle.byteorder.specs.Endian.{big_bytes}
use Rattle.page_workspace.specs.Spare.{IsIn}
use Rattle.btree_index.specs.Keys.{Key, before}
use Rattle.btree_index.specs.Pairs.{is_key_between, between}
use Rattle.cdb_values.specs.Good.{key_of}
use Rattle.cdb_values.specs.declared.rows.Version.{Version}
use Rattle.cdb_values.specs.declared.tables.TableDef.{TableDef}
use Rattle.cdb_values.specs.declared.tables.KeyDef.{KeyDef}
use Rattle.cdb_values.specs.declared.values.Value.{Value}
use Rattle.cdb_values.specs.declared.values.Value.TheVariants.{Null}
use Rattle.key_code.specs.Codes.{key_code, IsInRange, IsRowValue}
use Rattle.sql_answer.specs.Writes.{keys_of}
use Rattle.query_laws.specs.Intervals.{Interval, lies, lies_at, lies_by}
use Rattle.table_store.specs.Forests.{Pair}
use Rattle.table_store.specs.Listings.{IsAmong, keyed, pair_of_version, Lists}
use Rattle.table_store.specs.Readings.{IsReadable}
use Rattle.page_rows.specs.Bounds.{AreEnds}
use Rattle.page_rows.specs.Picks.{AreRising, Ascend, picked}
use Rattle.table_store.proofs.AmongLaws.{among_all, all_among}
use Rattle.page_rows.proofs.BoundLemmas.{both}
use Rattle.page_rows.proofs.OrderLemmas.{no_tail, genid_tail}
use Rattle.page_rows.proofs.PickLemmas.{Covers, merged}

-- a pair that is between, among those that are
between_among : (low : Key) (high : Option Key) (p : Pair) (list : List Pair) → IsAmong p list → is_key_between low high p.0 ≡ true → IsAmong p (between low high list)
between_among low high p [] i e = i
between_among low high p (x ∷ xs) i e = go (is_key_between low high x.0) refl i (λ j. between_among low high p xs j e)
  where
    go : (b : Bool) → is_key_between low high x.0 ≡ b → IsAmong p (x ∷ xs) → (IsAmong p xs → IsAmong p (between low high xs))
        → IsAmong p (if b then x ∷ between low high xs else between low high xs)
    go true k (inl same) more = inl same
    go true k (inr j) more = inr (more j)
    go false k (inl same) more = absurd (false≢true (sym k ∙ ap (λ (q : Pair). is_key_between low high q.0) (sym same) ∙ e))
    go false k (inr j) more = more j

-- the values of a key are in range
cell_ranged : (row : List Value) (column : ℕ) → AllByRecursion IsRowValue row → IsInRange (unwrap_or (slice_get row column) Null)
cell_ranged [] zero h = tt
cell_ranged [] (suc c) h = tt
cell_ranged (v ∷ vs) zero h = h.0.written.range
cell_ranged (v ∷ vs) (suc c) h = cell_ranged vs c h.1

cells_ranged : (columns : List ℕ) (row : List Value) → AllByRecursion IsRowValue row → AllByRecursion IsInRange (map (λ column. unwrap_or (slice_get row column) Null) columns)
cells_ranged [] row h = tt
cells_ranged (c ∷ cs) row h = (cell_ranged row c h, cells_ranged cs row h)

-- the pair of a version in the interval is between
pair_between : (key : KeyDef) (interval : Interval) (low high : Key) (v : Version) → AreEnds key interval low high → AllByRecursion IsRowValue v.row
    → lies_by (Some key) interval v.row ≡ true → is_key_between low (Some high) (pair_of_version (Some key) v).0 ≡ true
pair_between key interval low high v ends ranged e = go key.unique
  where
    code : List ℕ
    code = key_code (key_of key v.row)

    ok : (bytes : List ℕ) → (before bytes low ≡ false) × (before bytes high ≡ true) → (not (before bytes low) && before bytes high) ≡ true
    ok bytes h = ap (λ (b : Bool). not b && before bytes high) h.0 ∙ h.1

    go : (u : Bool) → is_key_between low (Some high) (keyed u (key_code (key_of key v.row)) (big_bytes 8 v.genid)).0 ≡ true
    go true =
        ap (λ (l : List ℕ). not (before l low) && before l high) (sym (append-nil (key_code (key_of key v.row))))
        ∙ ok (key_code (key_of key v.row) ++ []) (ends v.row [] no_tail (cells_ranged key.columns v.row ranged) e)
    go false =
        ok (key_code (key_of key v.row) ++ big_bytes 8 v.genid)
        (ends v.row (big_bytes 8 v.genid) (genid_tail v.genid) (cells_ranged key.columns v.row ranged) e)

-- the genids of what is between have those of all versions in the interval
pub between_covers : (key : KeyDef) (interval : Interval) (low high : Key) (versions : List Version) (list : List Pair) (genids : List ℕ) → AreEnds key interval low high
    → Lists (Some key) versions list → AllByRecursion IsReadable versions
    → ((genid : ℕ) (code : List ℕ) → genid < 2 ^ 64 → IsAmong (keyed key.unique code (big_bytes 8 genid)) (between low (Some high) list) → IsIn genid genids)
    → AllByRecursion (λ v. lies_by (Some key) interval v.row ≡ true → IsIn v.genid genids) versions
between_covers key interval low high versions list genids ends h each has =
    all_among (λ v. lies_by (Some key) interval v.row ≡ true → IsIn v.genid genids) versions (λ v i e.
    (let read : IsReadable v = among_all IsReadable v versions each i in
    has v.genid (key_code (key_of key v.row)) read.genid
    (between_among low (Some high) (pair_of_version (Some key) v) list (h.all v i) (pair_between key interval low high v ends read.row e))))

-- the keys of a table
pub keys_same : (tables : List TableDef) (table : ℕ) (keys : List KeyDef) → MatchOption (slice_get tables table) (keys ≡ []) (λ t. keys ≡ t.keys)
    → keys ≡ keys_of (slice_get tables table)
keys_same tables table keys h = go (slice_get tables table) h
  where
    go : (found : Option TableDef) → MatchOption found (keys ≡ []) (λ t. keys ≡ t.keys) → keys ≡ keys_of found
    go None e = e
    go (Some t) e = e

pub record IsKeyOf (tables : List TableDef) (table place : ℕ) (key : KeyDef) : Type 0 where
  pub found : TableDef
  pub here : slice_get tables table ≡ Some found
  pub there : slice_get found.keys place ≡ Some key

pub key_of_table : (tables : List TableDef) (table place : ℕ) (key : KeyDef) → slice_get (keys_of (slice_get tables table)) place ≡ Some key → IsKeyOf tables table place key
key_of_table tables table place key h = go (slice_get tables table) refl h
  where
    go : (found : Option TableDef) → slice_get tables table ≡ found → slice_get (keys_of found) place ≡ Some key → IsKeyOf tables table place key
    go None e k = absurd (none-some key k)
    go (Some t) e k = record { found = t; here = e; there = k }

pub known_table : (tables : List TableDef) (table : ℕ) (found : TableDef) → slice_get tables table ≡ Some found → table < length tables
known_table [] table found e = absurd (none-some found e)
known_table (t ∷ ts) zero found e = omega arith
known_table (t ∷ ts) (suc n) found e = let less : n < length ts = known_table ts n found e in omega arith

-- whether rows lie in an interval by this key
pub lies_key : (tables : List TableDef) (interval : Interval) (place : ℕ) (key : KeyDef) (row : List Value) → interval.key ≡ Some place
    → slice_get (keys_of (slice_get tables interval.table)) place ≡ Some key → lies tables interval row ≡ true → lies_by (Some key) interval row ≡ true
lies_key tables interval place key row chosen there e =
    let at = (both (not interval.empty) (lies_at (keys_of (slice_get tables interval.table)) interval.key interval row) e).1 in
    ap (λ (k : Option KeyDef). lies_by k interval row) (sym there)
    ∙ ap (λ (k : Option ℕ). lies_at (keys_of (slice_get tables interval.table)) k interval row) (sym chosen) ∙ at

covers_all : (tables : List TableDef) (interval : Interval) (place : ℕ) (key : KeyDef) (genids : List ℕ) (versions : List Version) → interval.key ≡ Some place
    → slice_get (keys_of (slice_get tables interval.table)) place ≡ Some key
    → AllByRecursion (λ v. lies_by (Some key) interval v.row ≡ true → IsIn v.genid genids) versions → Covers (λ v. lies tables interval v.row) genids versions
covers_all tables interval place key genids [] chosen there c = tt
covers_all tables interval place key genids (v ∷ vs) chosen there c =
    (λ e. c.0 (lies_key tables interval place key v.row chosen there e), covers_all tables interval place key genids vs chosen there c.1)

-- what is picked by such genids
pub read_by : (tables : List TableDef) (interval : Interval) (place : ℕ) (key : KeyDef) (genids : List ℕ) (versions : List Version) → interval.key ≡ Some place
    → slice_get (keys_of (slice_get tables interval.table)) place ≡ Some key → AreRising genids → Ascend versions
    → AllByRecursion (λ v. lies_by (Some key) interval v.row ≡ true → IsIn v.genid genids) versions
    → picked (λ v. lies tables interval v.row) versions genids ≡ filter (λ v. lies tables interval v.row) versions
read_by tables interval place key genids versions chosen there rise ascend c =
    merged (λ v. lies tables interval v.row) genids versions rise ascend (covers_all tables interval place key genids versions chosen there c)

-- intervals that are empty, are by no key, or by one that is not there
filter_none : (test : Version → Bool) (versions : List Version) → ((v : Version) → test v ≡ false) → [] ≡ filter test versions
filter_none test [] h = refl
filter_none test (v ∷ vs) h = filter_none test vs h ∙ sym (ap (λ (b : Bool). cond b (v ∷ filter test vs) (filter test vs)) (h v))

filter_all : (test : Version → Bool) (versions : List Version) → ((v : Version) → test v ≡ true) → versions ≡ filter test versions
filter_all test [] h = refl
filter_all test (v ∷ vs) h =
    ap (λ (l : List Version). v ∷ l) (filter_all test vs h) ∙ sym (ap (λ (b : Bool). cond b (v ∷ filter test vs) (filter test vs)) (h v))

pub none_of_empty : (tables : List TableDef) (interval : Interval) (versions : List Version) → interval.empty ≡ true → [] ≡ filter (λ v. lies tables interval v.row) versions
none_of_empty tables interval versions e =
    filter_none (λ v. lies tables interval v.row) versions
    (λ v. ap (λ (b : Bool). not b && lies_at (keys_of (slice_get tables interval.table)) interval.key interval v.row) e)

pub all_of_no_key : (tables : List TableDef) (interval : Interval) (versions : List Version) → interval.empty ≡ false → interval.key ≡ None
    → versions ≡ filter (λ v. lies tables interval v.row) versions
all_of_no_key tables interval versions e none =
    filter_all (λ v. lies tables interval v.row) versions
    (λ v. ap (λ (b : Bool). not b && lies_at (keys_of (slice_get tables interval.table)) interval.key interval v.row) e
    ∙ ap (λ (k : Option ℕ). lies_at (keys_of (slice_get tables interval.table)) k interval v.row) none)

and_false : (b : Bool) → (b && false) ≡ false
and_false true = refl
and_false false = refl

pub none_of_no_key : (tables : List TableDef) (interval : Interval) (place : ℕ) (versions : List Version) → interval.key ≡ Some place
    → slice_get (keys_of (slice_get tables interval.table)) place ≡ None → [] ≡ filter (λ v. lies tables interval v.row) versions
none_of_no_key tables interval place versions chosen none =
    filter_none (λ v. lies tables interval v.row) versions
    (λ v. ap (λ (k : Option ℕ). not interval.empty && lies_at (keys_of (slice_get tables interval.table)) k interval v.row) chosen
    ∙ ap (λ (k : Option KeyDef). not interval.empty && lies_by k interval v.row) none ∙ and_false (not interval.empty))

-- past the end of a list
pub none_past : {A : Type 0} (xs : List A) (n : ℕ) → length xs ≤ n → slice_get xs n ≡ None
none_past [] n h = refl
none_past (x ∷ xs) zero h = absurd (none (length xs) h)
  where
    none : (m : ℕ) → suc m ≤ 0 → ⊥
    none m h = omega arith
none_past (x ∷ xs) (suc n) h = none_past xs n (omega arith)
