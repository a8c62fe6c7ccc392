-- The records of a chain after a position are the later records of its page.
use Rattle.std.proofs.Common.{◌≡◌, ℕ, zero, suc, ◌+◌, ◌-◌, ◌<◌, ◌≤◌, nat_lt, if◌then◌else◌, Bool, true, false, List, [], ◌∷◌, ◌++◌, refl, sym, ap, ◌∙◌, subst, length, drop, arith, append_assoc, length-append, inl, inr, option_to_list, Option, Some}
use Rattle.std.proofs.lemmas.Bool.{cases_eq, cases_lt}
use Rattle.std.proofs.lemmas.Bool.Decides.{nat_tests}
use Rattle.std.specs.List.{slice_get, AllByRecursion}
use Rattle.page_store.specs.Image.{Image}
use Rattle.phys_log.specs.declared.entries.LogRecord.{LogRecord}
use Rattle.phys_log.specs.declared.entries.Entry.{Entry}
use Rattle.phys_log.specs.Logs.{records_of, records_in, after_record, replayed, blank_pages, pages_of, AreNext, IsLog}
use Rattle.phys_log.specs.Undone.{newest_first, later_records, IsLinked}
use Rattle.phys_log.proofs.ReplayLaws.{next_front, next_behind, newest_here, newest_other, linked_is}
use Rattle.log_replay.specs.declared.chains.ChainLink.{ChainLink}
use Rattle.log_replay.specs.Chains.{links_on, chain_from, chain_of, in_records, in_entry, record_by, granted}
use Rattle.log_replay.specs.Answers.{Rises}
use Rattle.log_replay.specs.Kept.{link_of}
use Rattle.log_replay.proofs.ChainLemmas.{links_here, links_off, rises_last}

append_nil : (xs : List LogRecord) → xs ++ [] ≡ xs
append_nil [] = refl
append_nil (x ∷ xs) = ap (λ (l : List LogRecord). x ∷ l) (append_nil xs)

-- the record of one link after a position
abbrev pub one_granted : List Entry → ℕ → ChainLink → List LogRecord
one_granted entries position k = if nat_lt position k.position then option_to_list (record_by entries k) else []

pub granted-append : (entries : List Entry) (position : ℕ) (xs ys : List ChainLink) → granted entries position (xs ++ ys) ≡ granted entries position ys ++ granted entries position xs
granted-append entries position [] ys = sym (append_nil (granted entries position ys))
granted-append entries position (x ∷ xs) ys =
    ap (λ (l : List LogRecord). l ++ one_granted entries position x) (granted-append entries position xs ys)
    ∙ append_assoc (granted entries position ys) (granted entries position xs) (one_granted entries position x)

newest-append : (id : ℕ) (xs ys : List LogRecord) → newest_first id (xs ++ ys) ≡ newest_first id ys ++ newest_first id xs
newest-append id [] ys = sym (append_nil (newest_first id ys))
newest-append id (x ∷ xs) ys = elim (cases_eq id x.page) [
  | inl here ↦ newest_here id x (xs ++ ys) here ∙ ap (λ (l : List LogRecord). l ++ x ∷ []) (newest-append id xs ys)
      ∙ append_assoc (newest_first id ys) (newest_first id xs) (x ∷ [])
      ∙ ap (λ (l : List LogRecord). newest_first id ys ++ l) (sym (newest_here id x xs here))
  | inr off ↦ newest_other id x (xs ++ ys) off ∙ newest-append id xs ys
      ∙ ap (λ (l : List LogRecord). newest_first id ys ++ l) (sym (newest_other id x xs off))
]

nat_lt_yes : (a b : ℕ) → a < b → nat_lt a b ≡ true
nat_lt_yes a b h = grind (arith, nat_tests)

nat_lt_no : (a b : ℕ) → b ≤ a → nat_lt a b ≡ false
nat_lt_no a b h = grind (arith, nat_tests)

one_later : (entries : List Entry) (position : ℕ) (k : ChainLink) → position < k.position → one_granted entries position k ≡ option_to_list (record_by entries k)
one_later entries position k h = ap (λ (t : Bool). if t then option_to_list (record_by entries k) else []) (nat_lt_yes position k.position h)

one_earlier : (entries : List Entry) (position : ℕ) (k : ChainLink) → k.position ≤ position → one_granted entries position k ≡ []
one_earlier entries position k h = ap (λ (t : Bool). if t then option_to_list (record_by entries k) else []) (nat_lt_no position k.position h)

granted_none : (entries : List Entry) (position : ℕ) (ks : List ChainLink) → AllByRecursion (λ (l : ChainLink). l.position ≤ position) ks → granted entries position ks ≡ []
granted_none entries position [] h = refl
granted_none entries position (k ∷ ks) h =
    ap (λ (l : List LogRecord). l ++ one_granted entries position k) (granted_none entries position ks h.1) ∙ one_earlier entries position k h.0

all_below : (a b : ℕ) (ks : List ChainLink) → a ≤ b → AllByRecursion (λ (l : ChainLink). l.position ≤ a) ks → AllByRecursion (λ (l : ChainLink). l.position ≤ b) ks
all_below a b [] h k = tt
all_below a b (x ∷ xs) h k = let under : x.position ≤ a = k.0 in (omega arith, all_below a b xs h k.1)

-- at the last link of a chain: its record comes first, or no record is later
pub last_granted : (entries : List Entry) (position : ℕ) (rest before : List ChainLink) (k : ChainLink) → rest ≡ before ++ k ∷ [] → position < k.position
    → granted entries position rest ≡ option_to_list (record_by entries k) ++ granted entries position before
last_granted entries position rest before k is h =
    ap (granted entries position) is ∙ granted-append entries position before (k ∷ [])
    ∙ ap (λ (l : List LogRecord). l ++ granted entries position before) (one_later entries position k h)

pub none_granted : (entries : List Entry) (position : ℕ) (rest before : List ChainLink) (k : ChainLink) → rest ≡ before ++ k ∷ [] → k.position ≤ position → Rises rest
    → granted entries position rest ≡ []
none_granted entries position rest before k is h rises =
    ap (granted entries position) is ∙ granted-append entries position before (k ∷ [])
    ∙ ap (λ (l : List LogRecord). l ++ granted entries position before) (one_earlier entries position k h)
    ∙ granted_none entries position before (all_below k.position position before h (rises_last before k (subst Rises is rises)))

-- the place of a record in its entry
get_behind : (done : List LogRecord) (r : LogRecord) (rest : List LogRecord) → slice_get (done ++ r ∷ rest) (length done) ≡ Some r
get_behind [] r rest = refl
get_behind (x ∷ xs) r rest = get_behind xs r rest

pub resolved : (pages : ℕ → Image) (from : ℕ) (rs done : List LogRecord) (r : LogRecord) (rest : List LogRecord) → rs ≡ done ++ r ∷ rest → AreNext pages from rs
    → in_records rs r.lsn ≡ Some r
resolved pages from [] done r rest is h =
    let a = ap length is in
    let b = length-append done (r ∷ rest) in
    absurd (omega (arith, a, b))
resolved pages from (x ∷ xs) done r rest is h =
    let behind = next_behind pages from done (r ∷ rest) (subst (λ (l : List LogRecord). AreNext pages from l) is h) in
    let mine : r.lsn ≡ from + length done = behind.0.number in
    let first : x.lsn ≡ from = h.0.number in
    let place : r.lsn - x.lsn ≡ length done = omega arith in
    ap (slice_get (x ∷ xs)) place ∙ ap (λ (l : List LogRecord). slice_get l (length done)) is ∙ get_behind done r rest

-- the links of one entry give its records of the page, where the entry is later, and none else
pub entry_granted : (entries : List Entry) (position place id : ℕ) (e : Entry) (pages : ℕ → Image) (from : ℕ) (done rest : List LogRecord)
    → slice_get entries place ≡ Some e → AreNext pages from (records_of e) → records_of e ≡ done ++ rest → position < place + 1
    → granted entries position (links_on id (place + 1) rest) ≡ newest_first id rest
entry_granted entries position place id e pages from done [] there next is h = refl
entry_granted entries position place id e pages from done (r ∷ rest) there next is h =
    let more : records_of e ≡ (done ++ r ∷ []) ++ rest = is ∙ sym (append_assoc done (r ∷ []) rest) in
    let tail : granted entries position (links_on id (place + 1) rest) ≡ newest_first id rest
    = entry_granted entries position place id e pages from (done ++ r ∷ []) rest there next more h in
    let at : (place + 1) - 1 ≡ place = omega arith in
    let one : record_by entries (link_of (place + 1) r) ≡ Some r =
    ap (λ (k : ℕ). in_entry (slice_get entries k) r.lsn) at ∙ ap (λ (o : Option Entry). in_entry o r.lsn) there
    ∙ resolved pages from (records_of e) done r rest is next in
    elim (cases_eq id r.page) [
      | inl here ↦ ap (granted entries position) (links_here id (place + 1) r rest here)
          ∙ ap (λ (l : List LogRecord). l ++ one_granted entries position (link_of (place + 1) r)) tail
          ∙ ap (λ (l : List LogRecord). newest_first id rest ++ l) (one_later entries position (link_of (place + 1) r) h ∙ ap option_to_list one)
          ∙ sym (newest_here id r rest here)
      | inr off ↦ ap (granted entries position) (links_off id (place + 1) r rest off) ∙ tail ∙ sym (newest_other id r rest off)
    ]

links_level : (id position low : ℕ) (rs : List LogRecord) → position ≤ low → AllByRecursion (λ (l : ChainLink). l.position ≤ low) (links_on id position rs)
links_level id position low [] h = tt
links_level id position low (r ∷ rs) h = elim (cases_eq id r.page) [
  | inl here ↦ subst (λ (l : List ChainLink). AllByRecursion (λ (m : ChainLink). m.position ≤ low) l) (sym (links_here id position r rs here)) (h, links_level id position low rs h)
  | inr off ↦ subst (λ (l : List ChainLink). AllByRecursion (λ (m : ChainLink). m.position ≤ low) l) (sym (links_off id position r rs off)) (links_level id position low rs h)
]

abbrev no_entries : List Entry
no_entries = []

drop_none : (k : ℕ) → drop k no_entries ≡ no_entries
drop_none zero = refl
drop_none (suc k) = refl

get_place : (front : List Entry) (e : Entry) (es : List Entry) → slice_get (front ++ e ∷ es) (length front) ≡ Some e
get_place [] e es = refl
get_place (x ∷ xs) e es = get_place xs e es

pub all_granted : (entries front es : List Entry) (position id : ℕ) (pages : ℕ → Image) (from : ℕ) → entries ≡ front ++ es → AreNext pages from (records_in es)
    → granted entries position (chain_from id (length front + 1) es) ≡ newest_first id (records_in (drop (position - length front) es))
all_granted entries front [] position id pages from is next =
    sym (ap (λ (l : List Entry). newest_first id (records_in l)) (drop_none (position - length front)))
all_granted entries front (e ∷ es) position id pages from is next =
    let mine : AreNext pages from (records_of e) = next_front pages from (records_of e) (records_in es) next in
    let behind = next_behind pages from (records_of e) (records_in es) next in
    let again : entries ≡ (front ++ e ∷ []) ++ es = is ∙ sym (append_assoc front (e ∷ []) es) in
    let long : length (front ++ e ∷ []) ≡ length front + 1 = let l = length-append front (e ∷ []) in omega (arith, l) in
    let tail : granted entries position (chain_from id ((length front + 1) + 1) es) ≡ newest_first id (records_in (drop (position - (length front + 1)) es))
    = subst (λ (k : ℕ). granted entries position (chain_from id (k + 1) es) ≡ newest_first id (records_in (drop (position - k) es))) long
    (all_granted entries (front ++ e ∷ []) es position id (replayed pages (records_of e)) (from + length (records_of e)) again behind) in
    let there : slice_get entries (length front) ≡ Some e = ap (λ (l : List Entry). slice_get l (length front)) is ∙ get_place front e es in
    let both = granted-append entries position (links_on id (length front + 1) (records_of e)) (chain_from id ((length front + 1) + 1) es) in
    elim (cases_lt (length front) position) [
      | inl high ↦
          let level : length front + 1 ≤ position = omega arith in
          let more : position - length front ≡ suc (position - (length front + 1)) = omega arith in
          both
          ∙ ap (λ (l : List LogRecord). l ++ granted entries position (links_on id (length front + 1) (records_of e))) tail
          ∙ ap (λ (l : List LogRecord). newest_first id (records_in (drop (position - (length front + 1)) es)) ++ l)
          (granted_none entries position (links_on id (length front + 1) (records_of e)) (links_level id (length front + 1) position (records_of e) level))
          ∙ append_nil (newest_first id (records_in (drop (position - (length front + 1)) es)))
          ∙ ap (λ (k : ℕ). newest_first id (records_in (drop k (e ∷ es)))) (sym more)
      | inr low ↦
          let none : position - (length front + 1) ≡ 0 = omega arith in
          let zero_ : position - length front ≡ 0 = omega arith in
          both
          ∙ ap (λ (l : List LogRecord). l ++ granted entries position (links_on id (length front + 1) (records_of e)))
          (tail ∙ ap (λ (k : ℕ). newest_first id (records_in (drop k es))) none)
          ∙ ap (λ (l : List LogRecord). newest_first id (records_in es) ++ l)
          (entry_granted entries position (length front) id e pages from [] (records_of e) there mine refl (omega arith))
          ∙ sym (newest-append id (records_of e) (records_in es))
          ∙ ap (λ (k : ℕ). newest_first id (records_in (drop k (e ∷ es)))) (sym zero_)
    ]

pub granted_is : (entries : List Entry) (position id : ℕ) → IsLog entries → granted entries position (chain_of entries id) ≡ later_records entries position id
granted_is entries position id h =
    let one : 0 + 1 ≡ 1 = refl in
    let none : position - 0 ≡ position = omega arith in
    all_granted entries [] entries position id blank_pages 1 refl h ∙ ap (λ (k : ℕ). newest_first id (records_in (drop k entries))) none

-- a page that no record edited
newest_positive : (id : ℕ) (pages : ℕ → Image) (from : ℕ) (rs : List LogRecord) → AreNext pages from rs → 1 ≤ from → AllByRecursion (λ (r : LogRecord). 1 ≤ r.lsn) (newest_first id rs)
newest_positive id pages from [] h k = tt
newest_positive id pages from (r ∷ rs) h k =
    let tail = newest_positive id (after_record pages r) (from + 1) rs h.1 (omega arith) in
    let number : r.lsn ≡ from = h.0.number in
    let mine : 1 ≤ r.lsn = omega arith in
    elim (cases_eq id r.page) [
      | inl here ↦ subst (λ (l : List LogRecord). AllByRecursion (λ (x : LogRecord). 1 ≤ x.lsn) l) (sym (newest_here id r rs here)) (positive_more (newest_first id rs) r tail mine)
      | inr off ↦ subst (λ (l : List LogRecord). AllByRecursion (λ (x : LogRecord). 1 ≤ x.lsn) l) (sym (newest_other id r rs off)) tail
    ]
  where
    positive_more : (xs : List LogRecord) (r : LogRecord) → AllByRecursion (λ (x : LogRecord). 1 ≤ x.lsn) xs → 1 ≤ r.lsn → AllByRecursion (λ (x : LogRecord). 1 ≤ x.lsn) (xs ++ r ∷ [])
    positive_more [] r h k = (k, tt)
    positive_more (x ∷ xs) r h k = (h.0, positive_more xs r h.1 k)

nothing_linked : (ks : List LogRecord) (lsn end : ℕ) → lsn ≡ 0 → IsLinked lsn ks end → AllByRecursion (λ (r : LogRecord). 1 ≤ r.lsn) ks → ks ≡ []
nothing_linked [] lsn end h l p = refl
nothing_linked (r ∷ rs) lsn end h l p =
    let a : r.lsn ≡ lsn = l.0 in
    let b : 1 ≤ r.lsn = p.0 in
    absurd (omega arith)

pub unedited : (entries : List Entry) (id : ℕ) → IsLog entries → (pages_of entries id).lsn ≡ 0 → later_records entries 0 id ≡ []
unedited entries id h blank =
    nothing_linked (newest_first id (records_in entries)) (pages_of entries id).lsn (blank_pages id).lsn blank
    (linked_is blank_pages 1 (records_in entries) id h) (newest_positive id blank_pages 1 (records_in entries) h (omega arith))

pub nothing_granted : (entries : List Entry) (position : ℕ) (rest : List ChainLink) → length rest ≡ 0 → granted entries position rest ≡ []
nothing_granted entries position [] h = refl
nothing_granted entries position (k ∷ ks) h = absurd (omega arith)

pub all_given : (records more all : List LogRecord) → more ≡ [] → records ++ more ≡ all → records ≡ all
all_given records more all none whole = sym (append_nil records) ∙ ap (λ (l : List LogRecord). records ++ l) (sym none) ∙ whole
