-- Records taken back, the last first.
use Rattle.std.proofs.Common.{◌≡◌, ℕ, ◌+◌, ◌<◌, arith, List, [], ◌∷◌, ◌++◌, refl, sym, ap, ◌∙◌, subst, length, inl, inr, Option, Some, None, IsSome}
use Rattle.std.proofs.lemmas.Bool.{cases_eq}
use mathlib.Core.Path.{fun_ext}
use Rattle.page_store.specs.Image.{Image, HasRoom}
use Rattle.page_store.specs.Edits.{IsAfter, after_edit, before_edit}
use Rattle.page_store.proofs.EditLaws.{edit_back}
use Rattle.phys_log.specs.declared.entries.LogRecord.{LogRecord}
use Rattle.phys_log.specs.declared.entries.Entry.{Entry}
use Rattle.phys_log.specs.Logs.{after_record, replayed, IsNext, AreNext, records_of, records_in}
use Rattle.phys_log.proofs.ReplayLaws.{replayed-append, next_front, next_behind, written_here, written_other}
use Rattle.phys_log.proofs.LogLaws.{records_more}
use Rattle.log_replay.specs.declared.kept.KeptPage.{KeptPage}
use Rattle.log_replay.specs.declared.kept.KeptPages.{KeptPages}
use Rattle.log_replay.specs.Kept.{found, image_of, page_in, put_at, Came}
use Rattle.log_replay.proofs.KeptLemmas.{put_at_here, put_at_off}
use Rattle.log_replay.proofs.WriteLemmas.{Backs}

-- each page keeps the space rule
pub room_replayed : (base : ℕ → Image) (lsn : ℕ) (records : List LogRecord) → AreNext base lsn records → ((n : ℕ) → HasRoom (base n).cells)
    → (n : ℕ) → HasRoom (replayed base records n).cells
room_replayed base lsn [] h room n = room n
room_replayed base lsn (r ∷ rs) h room n = room_replayed (after_record base r) (lsn + 1) rs h.1 (λ m. elim (cases_eq m r.page) [
  | inl here ↦ subst (λ (i : Image). HasRoom i.cells) (sym (written_here base r m here)) h.0.fits.fits
  | inr off ↦ subst (λ (i : Image). HasRoom i.cells) (sym (written_other base r m off)) (room m)
]) n

-- the last record is next, over the pages before it
pub last_next : (base : ℕ → Image) (lsn : ℕ) (pages : ℕ → Image) (rest before : List LogRecord) (r : LogRecord) → rest ≡ before ++ r ∷ []
    → Backs base lsn pages rest → IsNext (replayed base before) (lsn + length before) r
last_next base lsn pages rest before r is b =
    (next_behind base lsn before (r ∷ []) (subst (λ (l : List LogRecord). AreNext base lsn l) is b.next)).0

pub last_written : (base : ℕ → Image) (lsn : ℕ) (pages : ℕ → Image) (rest before : List LogRecord) (r : LogRecord) → rest ≡ before ++ r ∷ []
    → Backs base lsn pages rest → pages ≡ after_record (replayed base before) r
last_written base lsn pages rest before r is b =
    b.is ∙ ap (replayed base) is ∙ replayed-append base before (r ∷ [])

-- the page of the last record came of its edit
pub last_after : (base : ℕ → Image) (lsn : ℕ) (pages : ℕ → Image) (rest before : List LogRecord) (r : LogRecord) → rest ≡ before ++ r ∷ []
    → ((n : ℕ) → HasRoom (base n).cells) → Backs base lsn pages rest → IsAfter r.edit (pages r.page)
last_after base lsn pages rest before r is room b =
    let next = last_next base lsn pages rest before r is b in
    let front : AreNext base lsn before = next_front base lsn before (r ∷ []) (subst (λ (l : List LogRecord). AreNext base lsn l) is b.next) in
    record {
      before = replayed base before r.page;
      lsn = r.lsn;
      fits = room_replayed base lsn before front room r.page;
      found = next.fits.found;
      is = ap (λ (f : ℕ → Image). f r.page) (last_written base lsn pages rest before r is b) ∙ written_here (replayed base before) r r.page refl;
    }

-- so it is kept: its LSN is not 0
pub last_held : (base : ℕ → Image) (lsn : ℕ) (pages : KeptPages) (rest before : List LogRecord) (r : LogRecord) → rest ≡ before ++ r ∷ []
    → 0 < lsn → Backs base lsn (page_in pages) rest → IsSome (found pages r.page)
last_held base lsn pages rest before r is some b = go (found pages r.page) refl
  where
    go : (o : Option KeptPage) → found pages r.page ≡ o → IsSome o
    go (Some k) h = refl
    go None h =
        let next = last_next base lsn (page_in pages) rest before r is b in
        let number : r.lsn ≡ lsn + length before = next.number in
        let page : page_in pages r.page ≡ after_edit (replayed base before r.page) r.edit r.lsn =
        ap (λ (f : ℕ → Image). f r.page) (last_written base lsn (page_in pages) rest before r is b) ∙ written_here (replayed base before) r r.page refl in
        let zero_ : 0 ≡ r.lsn = ap (λ (o : Option KeptPage). (image_of o).lsn) (sym h) ∙ ap (λ (i : Image). i.lsn) page in
        absurd (omega arith)

-- a record taken back
pub one_undone : (base pages after : ℕ → Image) (lsn : ℕ) (r : LogRecord) → IsNext base lsn r → pages ≡ after_record base r
    → ((n : ℕ) → after n ≡ put_at pages r.page (before_edit (pages r.page) r.edit r.prev) n) → (n : ℕ) → after n ≡ base n
one_undone base pages after lsn r next is undone n =
    let page : pages r.page ≡ after_edit (base r.page) r.edit r.lsn = ap (λ (f : ℕ → Image). f r.page) is ∙ written_here base r r.page refl in
    let back : before_edit (pages r.page) r.edit r.prev ≡ base r.page =
    ap (λ (i : Image). before_edit i r.edit r.prev) page ∙ edit_back (base r.page) r.edit r.lsn r.prev next.fits.found
    ∙ ap (λ (k : ℕ). record (base r.page) { lsn = k }) next.before in
    undone n ∙ elim (cases_eq n r.page) [
      | inl here ↦ put_at_here pages r.page (before_edit (pages r.page) r.edit r.prev) n here ∙ back ∙ ap base (sym here)
      | inr off ↦ put_at_off pages r.page (before_edit (pages r.page) r.edit r.prev) n off
          ∙ ap (λ (f : ℕ → Image). f n) is ∙ written_other base r n off
    ]

pub backs_on : (base : ℕ → Image) (lsn : ℕ) (pages after : ℕ → Image) (rest before : List LogRecord) (r : LogRecord) → rest ≡ before ++ r ∷ []
    → Backs base lsn pages rest → ((n : ℕ) → after n ≡ put_at pages r.page (before_edit (pages r.page) r.edit r.prev) n) → Backs base lsn after before
backs_on base lsn pages after rest before r is b undone = record {
  next = next_front base lsn before (r ∷ []) (subst (λ (l : List LogRecord). AreNext base lsn l) is b.next);
  is = fun_ext (one_undone (replayed base before) pages after (lsn + length before) r
      (last_next base lsn pages rest before r is b) (last_written base lsn pages rest before r is b) undone);
}

-- the records of the last entry, over those before it
pub entry_records : (rest before : List Entry) (e : Entry) → rest ≡ before ++ e ∷ [] → records_in rest ≡ records_in before ++ records_of e
entry_records rest before e is = ap records_in is ∙ records_more before e

pub entry_backs : (base : ℕ → Image) (lsn : ℕ) (pages : ℕ → Image) (rest before : List Entry) (e : Entry) → rest ≡ before ++ e ∷ []
    → Backs base lsn pages (records_in rest) → Backs (replayed base (records_in before)) (lsn + length (records_in before)) pages (records_of e)
entry_backs base lsn pages rest before e is b = record {
  next = next_behind base lsn (records_in before) (records_of e) (subst (λ (l : List LogRecord). AreNext base lsn l) (entry_records rest before e is) b.next);
  is = b.is ∙ ap (replayed base) (entry_records rest before e is) ∙ replayed-append base (records_in before) (records_of e);
}

pub entry_before : (base : ℕ → Image) (lsn : ℕ) (pages after : ℕ → Image) (rest before : List Entry) (e : Entry) → rest ≡ before ++ e ∷ []
    → Backs base lsn pages (records_in rest) → after ≡ replayed base (records_in before) → Backs base lsn after (records_in before)
entry_before base lsn pages after rest before e is b done = record {
  next = next_front base lsn (records_in before) (records_of e) (subst (λ (l : List LogRecord). AreNext base lsn l) (entry_records rest before e is) b.next);
  is = done;
}

-- what undoing an entry needs
pub entry_came : (pages : ℕ → Image) (rest before : List Entry) (e : Entry) → rest ≡ before ++ e ∷ []
    → Came pages (records_in rest) → Came pages (records_of e)
entry_came pages rest before e is came =
    let b = entry_backs came.base came.lsn pages rest before e is (record { next = came.next; is = came.is }) in
    record {
      base = replayed came.base (records_in before);
      lsn = came.lsn + length (records_in before);
      numbered = let some : 0 < came.lsn = came.numbered in omega arith;
      room = room_replayed came.base came.lsn (records_in before)
          (next_front came.base came.lsn (records_in before) (records_of e) (subst (λ (l : List LogRecord). AreNext came.base came.lsn l) (entry_records rest before e is) came.next)) came.room;
      next = b.next;
      is = b.is;
    }
