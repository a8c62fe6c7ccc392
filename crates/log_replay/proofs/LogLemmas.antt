-- What a log keeps, with one entry more and with fewer.
use Rattle.std.proofs.Common.{◌≡◌, ℕ, ◌+◌, ◌<◌, List, [], ◌∷◌, ◌++◌, refl, sym, ap, ◌∙◌, subst, length, take, drop, arith, inl, inr, Option, None, IfSome}
use Rattle.std.proofs.lemmas.Bool.{cases_eq}
use Rattle.std.proofs.lemmas.List.{take-append-drop}
use Rattle.std.proofs.Math.Logic.{∥∥₁_elim, ∥∥₁_map}
use Rattle.std.specs.Coded.{×_prop, Unit-prop, le_prop}
use Rattle.std.proofs.Props.{props}
use mathlib.Core.Path.{fun_ext}
use Rattle.page_store.specs.Image.{Image, blank_image, HasRoom}
use Rattle.page_store.proofs.EditLaws.{fit_prop}
use Rattle.phys_log.specs.declared.entries.LogRecord.{LogRecord}
use Rattle.phys_log.specs.declared.entries.Entry.{Entry}
use Rattle.phys_log.specs.Logs.{records_of, records_in, after_record, replayed, blank_pages, pages_of, last_lsn_of, IsNext, AreNext, Fits, IsLog}
use Rattle.phys_log.specs.Undone.{later_records, IsLinked}
use Rattle.phys_log.proofs.ReplayLaws.{next_front, linked_is, written_here, written_other}
use Rattle.phys_log.proofs.LogLaws.{pages_more, log_more, log_parts, log_front, parts_next, parts_pages}
use Rattle.log_replay.specs.declared.chains.ChainLink.{ChainLink}
use Rattle.log_replay.specs.declared.kept.KeptPages.{KeptPages}
use Rattle.log_replay.specs.Chains.{links_on, chain_from, chain_of, granted}
use Rattle.log_replay.specs.Kept.{found, image_of, links_of, page_in, chain_in, Came, IsKept}
use Rattle.log_replay.specs.Answers.{Rises}
use Rattle.log_replay.proofs.ChainLemmas.{chain-append, chain_parts, chain_rises}
use Rattle.log_replay.proofs.GrantLemmas.{granted_is, unedited}
use Rattle.log_replay.proofs.UndoLemmas.{room_replayed}

next_prop : (pages : ℕ → Image) (lsn : ℕ) (r : LogRecord) → IsProp (IsNext pages lsn r)
next_prop pages lsn r = hlevel (fit_prop, le_prop, props)

all_next_prop : (pages : ℕ → Image) (lsn : ℕ) (rs : List LogRecord) → IsProp (AreNext pages lsn rs)
all_next_prop pages lsn [] = Unit-prop
all_next_prop pages lsn (r ∷ rs) = ×_prop (next_prop pages lsn r) (all_next_prop (after_record pages r) (lsn + 1) rs)

-- that entries are a log is one fact
pub log_out : (entries : List Entry) → ∥ IsLog entries ∥₁ → IsLog entries
log_out entries h = ∥∥₁_elim h (all_next_prop blank_pages 1 (records_in entries)) (λ f. f)

-- nothing is kept of no entries
pub kept_none : (entries : List Entry) (pages : KeptPages) (blank : Option Image) → entries ≡ [] → ((n : ℕ) → found pages n ≡ None) → blank ≡ None → IsKept entries pages blank
kept_none entries pages blank e p c =
    let K : List Entry → Type 0 = λ x. IsKept x pages blank in
    let M : Option Image → Type 0 = λ x. IsKept [] pages x in
    subst K (sym e) (subst M (sym c) (record { logged = ∣ tt ∣₁; replay = λ n. ap image_of (p n); links = λ n. ap links_of (p n); lent = tt }))

-- the fit of an entry, by the pages that are kept
pub fits_is : (entries : List Entry) (entry : Entry) (p : KeptPages) (b : Option Image) → IsKept entries p b
    → AreNext (page_in p) (last_lsn_of entries + 1) (records_of entry) → Fits entries entry
fits_is entries entry p b kept h = subst (λ (f : ℕ → Image). AreNext f (last_lsn_of entries + 1) (records_of entry)) (fun_ext kept.replay) h

pub fits_not : (entries : List Entry) (entry : Entry) (p : KeptPages) (b : Option Image) → IsKept entries p b
    → (AreNext (page_in p) (last_lsn_of entries + 1) (records_of entry) → ⊥) → Fits entries entry → ⊥
fits_not entries entry p b kept h fits = h (subst (λ (f : ℕ → Image). AreNext f (last_lsn_of entries + 1) (records_of entry)) (sym (fun_ext kept.replay)) fits)

-- one entry more
pub kept_more : (entries : List Entry) (entry : Entry) (p q : KeptPages) (b d : Option Image) → IsKept entries p b
    → AreNext (page_in p) (last_lsn_of entries + 1) (records_of entry)
    → ((n : ℕ) → page_in q n ≡ replayed (page_in p) (records_of entry) n)
    → ((n : ℕ) → chain_in q n ≡ chain_in p n ++ links_on n (length entries + 1) (records_of entry))
    → IfSome d (λ i. i ≡ blank_image) → IsKept (entries ++ entry ∷ []) q d
kept_more entries entry p q b d kept next made linked lent =
    let behind : length entries + 1 ≡ 1 + length entries = omega arith in
    record {
      logged = ∥∥₁_map kept.logged (λ log. log_more entries entry log (fits_is entries entry p b kept next));
      replay = λ n. made n ∙ ap (λ (f : ℕ → Image). replayed f (records_of entry) n) (fun_ext kept.replay) ∙ sym (ap (λ (f : ℕ → Image). f n) (pages_more entries entry));
      links = λ n. linked n ∙ ap (λ (l : List ChainLink). l ++ links_on n (length entries + 1) (records_of entry)) (kept.links n)
          ∙ ap (λ (k : ℕ). chain_of entries n ++ links_on n k (records_of entry)) behind ∙ sym (chain-append n 1 entries entry);
      lent = lent;
    }

-- the same entries, by pages that are the same
pub kept_same : (entries : List Entry) (p q : KeptPages) (b d : Option Image) → IsKept entries p b
    → ((n : ℕ) → page_in q n ≡ page_in p n) → ((n : ℕ) → chain_in q n ≡ chain_in p n) → IfSome d (λ i. i ≡ blank_image) → IsKept entries q d
kept_same entries p q b d kept pages chains lent = record {
  logged = kept.logged;
  replay = λ n. pages n ∙ kept.replay n;
  links = λ n. chains n ∙ kept.links n;
  lent = lent;
}

blank_room : (n : ℕ) → HasRoom (blank_pages n).cells
blank_room n = omega arith

pub parts_room : (entries : List Entry) (k : ℕ) → IsLog entries → (n : ℕ) → HasRoom (pages_of (take k entries) n).cells
parts_room entries k log =
    room_replayed blank_pages 1 (records_in (take k entries))
    (next_front blank_pages 1 (records_in (take k entries)) (records_in (drop k entries)) (subst (λ (l : List LogRecord). AreNext blank_pages 1 l) (log_parts entries k) log)) blank_room

pub first_log : (entries : List Entry) (k : ℕ) → IsLog entries → IsLog (take k entries)
first_log entries k log = log_front (take k entries) (drop k entries) (subst IsLog (sym (take-append-drop k entries)) log)

-- a kept page keeps the space rule
pub kept_room : (entries : List Entry) (p : KeptPages) (b : Option Image) → IsKept entries p b → (n : ℕ) → HasRoom (page_in p n).cells
kept_room entries p b kept n =
    subst (λ (i : Image). HasRoom i.cells) (sym (kept.replay n)) (room_replayed blank_pages 1 (records_in entries) (log_out entries kept.logged) blank_room n)

pub pages_parts : (entries : List Entry) (p : KeptPages) (b : Option Image) (k : ℕ) → IsKept entries p b
    → page_in p ≡ replayed (pages_of (take k entries)) (records_in (drop k entries))
pages_parts entries p b k kept = fun_ext kept.replay ∙ parts_pages entries k

-- what undoing the last entries needs
pub kept_came : (entries : List Entry) (p : KeptPages) (b : Option Image) (k : ℕ) (dropped : List Entry) → IsKept entries p b
    → dropped ≡ drop k entries → Came (page_in p) (records_in dropped)
kept_came entries p b k dropped kept is =
    let log = log_out entries kept.logged in
    subst (λ (l : List Entry). Came (page_in p) (records_in l)) (sym is) (record {
      base = pages_of (take k entries);
      lsn = 1 + length (records_in (take k entries));
      numbered = omega arith;
      room = parts_room entries k log;
      next = parts_next entries k log;
      is = pages_parts entries p b k kept;
    })

pub kept_pages : (entries : List Entry) (p q : KeptPages) (b : Option Image) (k : ℕ) (dropped : List Entry) → IsKept entries p b
    → dropped ≡ drop k entries
    → ((base : ℕ → Image) (lsn : ℕ) → AreNext base lsn (records_in dropped) → page_in p ≡ replayed base (records_in dropped) → page_in q ≡ base)
    → page_in q ≡ pages_of (take k entries)
kept_pages entries p q b k dropped kept is undone =
    let log = log_out entries kept.logged in
    let N : List Entry → Type 0 = λ l. AreNext (pages_of (take k entries)) (1 + length (records_in (take k entries))) (records_in l) in
    let E : List Entry → Type 0 = λ l. page_in p ≡ replayed (pages_of (take k entries)) (records_in l) in
    undone (pages_of (take k entries)) (1 + length (records_in (take k entries)))
    (subst N (sym is) (parts_next entries k log)) (subst E (sym is) (pages_parts entries p b k kept))

pub kept_chains : (entries : List Entry) (p q : KeptPages) (b : Option Image) (k : ℕ) (dropped : List Entry) → IsKept entries p b
    → dropped ≡ drop k entries
    → ((base : ℕ → List ChainLink) (position : ℕ) → ((n : ℕ) → chain_in p n ≡ base n ++ chain_from n position dropped) → (n : ℕ) → chain_in q n ≡ base n)
    → (n : ℕ) → chain_in q n ≡ chain_of (take k entries) n
kept_chains entries p q b k dropped kept is gone =
    gone (chain_of (take k entries)) (1 + length (take k entries)) (λ n.
    kept.links n ∙ ap (λ (l : List Entry). chain_of l n) (sym (take-append-drop k entries))
    ∙ chain_parts n 1 (take k entries) (drop k entries)
    ∙ ap (λ (l : List Entry). chain_of (take k entries) n ++ chain_from n (1 + length (take k entries)) l) (sym is))

-- the first entries alone
pub kept_first : (entries : List Entry) (p q : KeptPages) (b : Option Image) (k : ℕ) → IsKept entries p b
    → page_in q ≡ pages_of (take k entries) → ((n : ℕ) → chain_in q n ≡ chain_of (take k entries) n) → IsKept (take k entries) q b
kept_first entries p q b k kept pages chains = record {
  logged = ∥∥₁_map kept.logged (first_log entries k);
  replay = λ n. ap (λ (f : ℕ → Image). f n) pages;
  links = chains;
  lent = kept.lent;
}

-- a page without a record is blank, and none edited it
pub zero_blank : (base : ℕ → Image) (lsn : ℕ) (rs : List LogRecord) (id : ℕ) → 0 < lsn → AreNext base lsn rs
    → ((base id).lsn ≡ 0 → base id ≡ blank_image) → (replayed base rs id).lsn ≡ 0 → replayed base rs id ≡ blank_image
zero_blank base lsn [] id some next plain h = plain h
zero_blank base lsn (r ∷ rs) id some next plain h =
    zero_blank (after_record base r) (lsn + 1) rs id (omega arith) next.1 (λ zero. elim (cases_eq id r.page) [
      | inl here ↦
          let e : (after_record base r id).lsn ≡ r.lsn = ap (λ (i : Image). i.lsn) (written_here base r id here) in
          let k : r.lsn ≡ lsn = next.0.number in
          absurd (omega arith)
      | inr off ↦
          let same : after_record base r id ≡ base id = written_other base r id off in
          same ∙ plain (sym (ap (λ (i : Image). i.lsn) same) ∙ zero)
    ]) h

pub page_blank : (entries : List Entry) (p : KeptPages) (b : Option Image) (id : ℕ) → IsKept entries p b
    → (page_in p id).lsn ≡ 0 → pages_of entries id ≡ blank_image
page_blank entries p b id kept h =
    zero_blank blank_pages 1 (records_in entries) id (omega arith) (log_out entries kept.logged) (λ z. refl)
    (sym (ap (λ (i : Image). i.lsn) (kept.replay id)) ∙ h)

pub page_unedited : (entries : List Entry) (p : KeptPages) (b : Option Image) (id : ℕ) → IsKept entries p b
    → (page_in p id).lsn ≡ 0 → later_records entries 0 id ≡ []
page_unedited entries p b id kept h =
    unedited entries id (log_out entries kept.logged) (sym (ap (λ (i : Image). i.lsn) (kept.replay id)) ∙ h)

-- a page that no record edited has none
pub page_edited : (entries : List Entry) (p : KeptPages) (b : Option Image) (id : ℕ) → IsKept entries p b
    → later_records entries 0 id ≡ [] → (page_in p id).lsn ≡ 0
page_edited entries p b id kept none =
    let linked : IsLinked (pages_of entries id).lsn (later_records entries 0 id) 0 = linked_is blank_pages 1 (records_in entries) id (log_out entries kept.logged) in
    let zero_ : (pages_of entries id).lsn ≡ 0 = subst (λ (l : List LogRecord). IsLinked (pages_of entries id).lsn l 0) none linked in
    ap (λ (i : Image). i.lsn) (kept.replay id) ∙ zero_

-- the later records, by the chain of the page
pub later_is : (entries : List Entry) (p : KeptPages) (b : Option Image) (position id : ℕ) (chain : List ChainLink) → IsKept entries p b
    → chain ≡ chain_of entries id → granted entries position chain ≡ later_records entries position id
later_is entries p b position id chain kept is = ap (granted entries position) is ∙ granted_is entries position id (log_out entries kept.logged)

pub rises_is : (entries : List Entry) (id : ℕ) (chain : List ChainLink) → chain ≡ chain_of entries id → Rises chain
rises_is entries id chain is = subst Rises (sym is) (chain_rises id 1 entries)
