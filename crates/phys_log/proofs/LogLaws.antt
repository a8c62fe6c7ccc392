-- Logs: the records of entries in order.
use Rattle.std.proofs.Common.{◌≡◌, ℕ, zero, suc, ◌+◌, ◌-◌, ◌<◌, ◌≤◌, List, [], ◌∷◌, ◌++◌, refl, sym, ap, ◌∙◌, subst, length, take, drop, arith, Some, None, append_assoc, length-append}
use Rattle.std.proofs.lemmas.List.{take-append-drop, take-append-le}
use Rattle.std.proofs.lemmas.Option.{none-some, same_Some}
use Rattle.std.specs.List.{slice_get}
use Rattle.page_store.specs.Image.{Image}
use Rattle.phys_log.specs.declared.entries.LogRecord.{LogRecord}
use Rattle.phys_log.specs.declared.entries.Entry.{Entry}
use Rattle.phys_log.specs.Logs.{records_of, records_in, replayed, blank_pages, pages_of, page_at, lsn_after, last_lsn_of, lsn_of_first, first_lsn, AreNext, Fits, IsLog}
use Rattle.phys_log.specs.Undone.{newest_first, later_records, undone, IsLinked}
use Rattle.phys_log.proofs.ReplayLaws.{replayed-append, lsn_after-append, next_front, next_behind, next_both, next_last, undone_is, linked_is, lsn_below}

pub records_in-append : (xs ys : List Entry) → records_in (xs ++ ys) ≡ records_in xs ++ records_in ys
records_in-append [] ys = refl
records_in-append (x ∷ xs) ys =
    ap (λ (l : List LogRecord). records_of x ++ l) (records_in-append xs ys)
    ∙ sym (append_assoc (records_of x) (records_in xs) (records_in ys))

append_none : (xs : List LogRecord) → xs ++ [] ≡ xs
append_none [] = refl
append_none (x ∷ xs) = ap (λ (l : List LogRecord). x ∷ l) (append_none xs)

pub records_more : (entries : List Entry) (entry : Entry) → records_in (entries ++ entry ∷ []) ≡ records_in entries ++ records_of entry
records_more entries entry =
    records_in-append entries (entry ∷ []) ∙ ap (λ (l : List LogRecord). records_in entries ++ l) (append_none (records_of entry))

-- the pages of a log with one entry more
pub pages_more : (entries : List Entry) (entry : Entry) → pages_of (entries ++ entry ∷ []) ≡ replayed (pages_of entries) (records_of entry)
pages_more entries entry =
    ap (λ (l : List LogRecord). replayed blank_pages l) (records_more entries entry)
    ∙ replayed-append blank_pages (records_in entries) (records_of entry)

pub last_lsn_more : (entries : List Entry) (entry : Entry) → last_lsn_of (entries ++ entry ∷ []) ≡ lsn_after (last_lsn_of entries) (records_of entry)
last_lsn_more entries entry =
    ap (lsn_after 0) (records_more entries entry) ∙ lsn_after-append 0 (records_in entries) (records_of entry)

pub last_is : (entries : List Entry) → IsLog entries → last_lsn_of entries ≡ length (records_in entries)
last_is entries h = let e : lsn_after 0 (records_in entries) ≡ 0 + length (records_in entries) = next_last blank_pages 0 (records_in entries) h in omega arith

next_from : (entries : List Entry) → IsLog entries → 1 + length (records_in entries) ≡ last_lsn_of entries + 1
next_from entries h = let e : last_lsn_of entries ≡ length (records_in entries) = last_is entries h in omega arith

pub log_more : (entries : List Entry) (entry : Entry) → IsLog entries → Fits entries entry → IsLog (entries ++ entry ∷ [])
log_more entries entry h fits =
    let behind : AreNext (pages_of entries) (1 + length (records_in entries)) (records_of entry)
    = subst (λ (n : ℕ). AreNext (pages_of entries) n (records_of entry)) (sym (next_from entries h)) fits in
    subst (λ (l : List LogRecord). AreNext blank_pages 1 l) (sym (records_more entries entry))
    (next_both blank_pages 1 (records_in entries) (records_of entry) h behind)

pub log_front : (xs ys : List Entry) → IsLog (xs ++ ys) → IsLog xs
log_front xs ys h =
    next_front blank_pages 1 (records_in xs) (records_in ys) (subst (λ (l : List LogRecord). AreNext blank_pages 1 l) (records_in-append xs ys) h)

pub log_fits : (entries : List Entry) (entry : Entry) → IsLog (entries ++ entry ∷ []) → Fits entries entry
log_fits entries entry h =
    let front : IsLog entries = log_front entries (entry ∷ []) h in
    subst (λ (n : ℕ). AreNext (pages_of entries) n (records_of entry)) (next_from entries front)
    (next_behind blank_pages 1 (records_in entries) (records_of entry)
    (subst (λ (l : List LogRecord). AreNext blank_pages 1 l) (records_more entries entry) h))

-- a log in two parts
pub log_parts : (entries : List Entry) (position : ℕ) → records_in entries ≡ records_in (take position entries) ++ records_in (drop position entries)
log_parts entries position =
    ap records_in (sym (take-append-drop position entries)) ∙ records_in-append (take position entries) (drop position entries)

pub parts_next : (entries : List Entry) (position : ℕ) → IsLog entries
    → AreNext (pages_of (take position entries)) (1 + length (records_in (take position entries))) (records_in (drop position entries))
parts_next entries position h =
    next_behind blank_pages 1 (records_in (take position entries)) (records_in (drop position entries))
    (subst (λ (l : List LogRecord). AreNext blank_pages 1 l) (log_parts entries position) h)

pub parts_pages : (entries : List Entry) (position : ℕ) → pages_of entries ≡ replayed (pages_of (take position entries)) (records_in (drop position entries))
parts_pages entries position =
    ap (λ (l : List LogRecord). replayed blank_pages l) (log_parts entries position)
    ∙ replayed-append blank_pages (records_in (take position entries)) (records_in (drop position entries))

pub undone_at : (entries : List Entry) (position id : ℕ) → IsLog entries
    → undone (pages_of entries id) (later_records entries position id) ≡ page_at entries position id
undone_at entries position id h =
    ap (λ (f : ℕ → Image). undone (f id) (later_records entries position id)) (parts_pages entries position)
    ∙ undone_is (pages_of (take position entries)) (1 + length (records_in (take position entries))) (records_in (drop position entries)) id (parts_next entries position h)

pub linked_at : (entries : List Entry) (position id : ℕ) → IsLog entries
    → IsLinked (pages_of entries id).lsn (later_records entries position id) (page_at entries position id).lsn
linked_at entries position id h =
    subst (λ (f : ℕ → Image). IsLinked (f id).lsn (later_records entries position id) (page_at entries position id).lsn) (sym (parts_pages entries position))
    (linked_is (pages_of (take position entries)) (1 + length (records_in (take position entries))) (records_in (drop position entries)) id (parts_next entries position h))

take_all : (xs : List Entry) → take (length xs) xs ≡ xs
take_all [] = refl
take_all (x ∷ xs) = ap (λ (l : List Entry). x ∷ l) (take_all xs)

pub page_first : (entries more : List Entry) (position id : ℕ) → position ≤ length entries → page_at (entries ++ more) position id ≡ page_at entries position id
page_first entries more position id h = ap (λ (l : List Entry). pages_of l id) (take-append-le position entries more h)

pub page_whole : (entries : List Entry) (id : ℕ) → page_at entries (length entries) id ≡ pages_of entries id
page_whole entries id = ap (λ (l : List Entry). pages_of l id) (take_all entries)

-- each entry's first record stands among the records of the log
first_among : (rs others : List LogRecord) (lsn : ℕ) → lsn_of_first rs ≡ Some lsn → (r : LogRecord) × (slice_get (rs ++ others) 0 ≡ Some r) × (r.lsn ≡ lsn)
first_among [] others lsn h = absurd (none-some lsn h)
first_among (r ∷ rs) others lsn h = (r, refl, same_Some r.lsn lsn h)

below_first : (pages : ℕ → Image) (from : ℕ) (xs : List LogRecord) (es : List Entry) (place : ℕ) (other : Entry) (lsn : ℕ)
    → AreNext pages from (xs ++ records_in es) → slice_get es place ≡ Some other → first_lsn other ≡ Some lsn
    → lsn < from + length (xs ++ records_in es)
below_first pages from xs [] place other lsn h k f = absurd (none-some other k)
below_first pages from xs (e ∷ es) zero other lsn h k f =
    let is : e ≡ other = same_Some e other k in
    let first : first_lsn e ≡ Some lsn = ap first_lsn is ∙ f in
    let one = first_among (records_of e) (records_in es) lsn first in
    let behind = next_behind pages from xs (records_of e ++ records_in es) h in
    let under : one.0.lsn < (from + length xs) + length (records_of e ++ records_in es)
    = lsn_below (replayed pages xs) (from + length xs) (records_of e ++ records_in es) 0 one.0 behind one.1 in
    let same : one.0.lsn ≡ lsn = one.2 in
    let len = length-append xs (records_of e ++ records_in es) in
    omega (arith, len)
below_first pages from xs (e ∷ es) (suc place) other lsn h k f =
    let join : xs ++ (records_of e ++ records_in es) ≡ (xs ++ records_of e) ++ records_in es = sym (append_assoc xs (records_of e) (records_in es)) in
    let under : lsn < from + length ((xs ++ records_of e) ++ records_in es)
    = below_first pages from (xs ++ records_of e) es place other lsn (subst (λ (l : List LogRecord). AreNext pages from l) join h) k f in
    subst (λ (l : List LogRecord). lsn < from + length l) (sym join) under

pub first_tells : (entries : List Entry) (entry other : Entry) (place lsn : ℕ) → IsLog entries → Fits entries entry
    → slice_get entries place ≡ Some other → first_lsn entry ≡ Some lsn → first_lsn other ≡ Some lsn → ⊥
first_tells entries entry other place lsn h fits k mine its =
    let under : lsn < 1 + length (records_in entries) = below_first blank_pages 1 [] entries place other lsn h k its in
    let next : lsn ≡ last_lsn_of entries + 1 = first_next (pages_of entries) (last_lsn_of entries + 1) (records_of entry) fits mine in
    let last : last_lsn_of entries ≡ length (records_in entries) = last_is entries h in
    absurd (omega arith)
  where
    first_next : (pages : ℕ → Image) (from : ℕ) (rs : List LogRecord) → AreNext pages from rs → lsn_of_first rs ≡ Some lsn → lsn ≡ from
    first_next pages from [] n m = absurd (none-some lsn m)
    first_next pages from (r ∷ rs) n m = sym (same_Some r.lsn lsn m) ∙ n.0.number

-- the last LSN by the last entry: its last record's, or that of the entries before it
pub last_lsn_told : (all before : List Entry) (last : Entry) (others : List LogRecord) (r : LogRecord) → all ≡ before ++ last ∷ []
    → records_of last ≡ others ++ r ∷ [] → last_lsn_of all ≡ r.lsn
last_lsn_told all before last others r is h =
    ap last_lsn_of is ∙ last_lsn_more before last ∙ ap (lsn_after (last_lsn_of before)) h ∙ lsn_after-append (last_lsn_of before) others (r ∷ [])

lsn_of_nothing : (before : ℕ) (rs : List LogRecord) → length rs ≡ 0 → lsn_after before rs ≡ before
lsn_of_nothing before [] h = refl
lsn_of_nothing before (x ∷ xs) h = absurd (omega arith)

pub last_lsn_before : (all before : List Entry) (last : Entry) → all ≡ before ++ last ∷ []
    → length (records_of last) ≡ 0 → last_lsn_of all ≡ last_lsn_of before
last_lsn_before all before last is h =
    ap last_lsn_of is ∙ last_lsn_more before last ∙ lsn_of_nothing (last_lsn_of before) (records_of last) h
