-- Going back over the records of one page, and over the records of its links.
use Rattle.std.proofs.Common.{◌≡◌, ℕ, ◌+◌, ◌<◌, List, [], ◌∷◌, ◌++◌, refl, sym, ap, ◌∙◌, subst, length, take, drop, inl, inr, Option, option_to_list}
use Rattle.std.proofs.lemmas.Bool.{cases_eq}
use Rattle.page_store.specs.Image.{Image, HasRoom}
use Rattle.page_store.specs.Edits.{IsAfter, before_edit}
use Rattle.phys_log.specs.declared.entries.LogRecord.{LogRecord}
use Rattle.phys_log.specs.declared.entries.Entry.{Entry}
use Rattle.phys_log.specs.Logs.{records_in, after_record, replayed, pages_of, page_at, IsNext, AreNext, IsLog}
use Rattle.phys_log.specs.Undone.{newest_first, later_records, undone}
use Rattle.phys_log.proofs.ReplayLaws.{written_here, written_other, newest_here, newest_other, undone_is}
use Rattle.phys_log.proofs.LogLaws.{parts_next, parts_pages, undone_at}
use Rattle.log_replay.specs.declared.chains.ChainLink.{ChainLink}
use Rattle.log_replay.specs.declared.kept.KeptPages.{KeptPages}
use Rattle.log_replay.specs.Chains.{CanUndo, granted, record_by, chain_of}
use Rattle.log_replay.specs.Kept.{IsKept}
use Rattle.log_replay.proofs.GrantLemmas.{last_granted}
use Rattle.log_replay.proofs.LogLemmas.{log_out, parts_room, later_is}

-- one record more, that was made first
can_undo_more : (image : Image) (xs : List LogRecord) (r : LogRecord) → CanUndo image xs → IsAfter r.edit (undone image xs) → CanUndo image (xs ++ r ∷ [])
can_undo_more image [] r h k = (k, tt)
can_undo_more image (x ∷ xs) r h k = (h.0, can_undo_more (before_edit image x.edit x.prev) xs r h.1 k)

-- each page keeps the space rule after a record
room_written : (pages : ℕ → Image) (lsn : ℕ) (r : LogRecord) → IsNext pages lsn r → ((n : ℕ) → HasRoom (pages n).cells)
    → (n : ℕ) → HasRoom (after_record pages r n).cells
room_written pages lsn r next room n = elim (cases_eq n r.page) [
  | inl here ↦ subst (λ (i : Image). HasRoom i.cells) (sym (written_here pages r n here)) next.fits.fits
  | inr off ↦ subst (λ (i : Image). HasRoom i.cells) (sym (written_other pages r n off)) (room n)
]

-- the records of a page can be undone, newest first, on the page that they made
can_undo_is : (pages : ℕ → Image) (lsn : ℕ) (rs : List LogRecord) (id : ℕ) → AreNext pages lsn rs → ((n : ℕ) → HasRoom (pages n).cells)
    → CanUndo (replayed pages rs id) (newest_first id rs)
can_undo_is pages lsn [] id h room = tt
can_undo_is pages lsn (r ∷ rs) id h room =
    let image = replayed (after_record pages r) rs id in
    let later : CanUndo image (newest_first id rs)
    = can_undo_is (after_record pages r) (lsn + 1) rs id h.1 (room_written pages lsn r h.0 room) in
    elim (cases_eq id r.page) [
      | inl here ↦
          let back : undone image (newest_first id rs) ≡ after_record pages r id = undone_is (after_record pages r) (lsn + 1) rs id h.1 in
          let made : IsAfter r.edit (undone image (newest_first id rs)) = record {
            before = pages r.page;
            lsn = r.lsn;
            fits = room r.page;
            found = h.0.fits.found;
            is = back ∙ written_here pages r id here;
          } in
          subst (λ (l : List LogRecord). CanUndo image l) (sym (newest_here id r rs here)) (can_undo_more image (newest_first id rs) r later made)
      | inr off ↦ subst (λ (l : List LogRecord). CanUndo image l) (sym (newest_other id r rs off)) later
    ]

-- so can those of a page after a position of a log
pub can_undo_at : (log : List Entry) (position id : ℕ) → IsLog log → CanUndo (pages_of log id) (later_records log position id)
can_undo_at log position id h =
    subst (λ (f : ℕ → Image). CanUndo (f id) (later_records log position id)) (sym (parts_pages log position))
    (can_undo_is (pages_of (take position log)) (1 + length (records_in (take position log))) (records_in (drop position log)) id
    (parts_next log position h) (parts_room log position h))

-- records in two parts
can_undo_front : (image : Image) (xs ys : List LogRecord) → CanUndo image (xs ++ ys) → CanUndo image xs
can_undo_front image [] ys h = tt
can_undo_front image (x ∷ xs) ys h = (h.0, can_undo_front (before_edit image x.edit x.prev) xs ys h.1)

can_undo_behind : (image : Image) (xs ys : List LogRecord) → CanUndo image (xs ++ ys) → CanUndo (undone image xs) ys
can_undo_behind image [] ys h = h
can_undo_behind image (x ∷ xs) ys h = can_undo_behind (before_edit image x.edit x.prev) xs ys h.1

undone_parts : (image : Image) (xs ys : List LogRecord) → undone image (xs ++ ys) ≡ undone (undone image xs) ys
undone_parts image [] ys = refl
undone_parts image (x ∷ xs) ys = undone_parts (before_edit image x.edit x.prev) xs ys

-- at the last link: its record comes first
pub last_can : (entries : List Entry) (position : ℕ) (image : Image) (rest before : List ChainLink) (k : ChainLink) → rest ≡ before ++ k ∷ []
    → position < k.position → CanUndo image (granted entries position rest) → CanUndo image (option_to_list (record_by entries k))
last_can entries position image rest before k is above can =
    can_undo_front image (option_to_list (record_by entries k)) (granted entries position before)
    (subst (λ (l : List LogRecord). CanUndo image l) (last_granted entries position rest before k is above) can)

pub more_can : (entries : List Entry) (position : ℕ) (image after : Image) (rest before : List ChainLink) (k : ChainLink) → rest ≡ before ++ k ∷ []
    → position < k.position → after ≡ undone image (option_to_list (record_by entries k)) → CanUndo image (granted entries position rest)
    → CanUndo after (granted entries position before)
more_can entries position image after rest before k is above made can =
    subst (λ (i : Image). CanUndo i (granted entries position before)) (sym made)
    (can_undo_behind image (option_to_list (record_by entries k)) (granted entries position before)
    (subst (λ (l : List LogRecord). CanUndo image l) (last_granted entries position rest before k is above) can))

pub more_undone : (entries : List Entry) (position : ℕ) (image after : Image) (rest before : List ChainLink) (k : ChainLink) → rest ≡ before ++ k ∷ []
    → position < k.position → after ≡ undone image (option_to_list (record_by entries k))
    → undone after (granted entries position before) ≡ undone image (granted entries position rest)
more_undone entries position image after rest before k is above made =
    ap (λ (i : Image). undone i (granted entries position before)) made
    ∙ sym (undone_parts image (option_to_list (record_by entries k)) (granted entries position before))
    ∙ ap (λ (l : List LogRecord). undone image l) (sym (last_granted entries position rest before k is above))

-- a page of a log, and the records of its chain after a position
pub chain_can : (entries : List Entry) (p : KeptPages) (b : Option Image) (position id : ℕ) (image : Image) (chain : List ChainLink) → IsKept entries p b
    → image ≡ pages_of entries id → chain ≡ chain_of entries id → CanUndo image (granted entries position chain)
chain_can entries p b position id image chain kept is links =
    subst (λ (i : Image). CanUndo i (granted entries position chain)) (sym is)
    (subst (λ (l : List LogRecord). CanUndo (pages_of entries id) l) (sym (later_is entries p b position id chain kept links))
    (can_undo_at entries position id (log_out entries kept.logged)))

pub chain_undone : (entries : List Entry) (p : KeptPages) (b : Option Image) (position id : ℕ) (image : Image) (chain : List ChainLink) → IsKept entries p b
    → image ≡ pages_of entries id → chain ≡ chain_of entries id → undone image (granted entries position chain) ≡ page_at entries position id
chain_undone entries p b position id image chain kept is links =
    ap (λ (i : Image). undone i (granted entries position chain)) is
    ∙ ap (λ (l : List LogRecord). undone (pages_of entries id) l) (later_is entries p b position id chain kept links)
    ∙ undone_at entries position id (log_out entries kept.logged)
