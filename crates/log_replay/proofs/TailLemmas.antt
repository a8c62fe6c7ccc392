-- The entries behind a place, taken back, put back, and others in their place.
use Rattle.std.proofs.Common.{◌≡◌, ℕ, ◌+◌, ◌<◌, ◌≤◌, List, [], ◌∷◌, ◌++◌, refl, sym, ap, ◌∙◌, subst, length, take, drop, arith, inl, inr, Option, Some, None, IfSome, append_assoc, length-append, suc}
use Rattle.std.proofs.lemmas.Bool.{cases_eq}
use Rattle.std.proofs.lemmas.List.{take-append-drop}
use mathlib.Core.Path.{fun_ext}
use Rattle.page_store.specs.Image.{Image, blank_image}
use Rattle.phys_log.specs.declared.entries.LogRecord.{LogRecord}
use Rattle.phys_log.specs.declared.entries.Entry.{Entry}
use Rattle.phys_log.specs.Logs.{records_of, records_in, after_record, replayed, last_lsn_of, IsNext, AreNext, IsLog}
use Rattle.phys_log.proofs.LogLaws.{log_front, log_fits, last_is, records_more}
use Rattle.log_replay.specs.declared.chains.ChainLink.{ChainLink}
use Rattle.log_replay.specs.declared.kept.KeptPage.{KeptPage}
use Rattle.log_replay.specs.declared.kept.KeptPages.{KeptPages}
use Rattle.log_replay.specs.Chains.{links_on, chain_from, chain_of}
use Rattle.log_replay.specs.Kept.{found, links_of, room_of, page_in, chain_in, room_in, link_of, put_at, AreMade, Came, IsKept}
use Rattle.log_replay.proofs.AppendLemmas.{kept_append}
use Rattle.log_replay.proofs.ChainLemmas.{links_here, links_off, chain-append, chain_parts}
use Rattle.log_replay.proofs.KeptLemmas.{put_at_here, put_at_off}
use Rattle.log_replay.proofs.LogLemmas.{log_out, kept_came, kept_pages, kept_chains, kept_first}

-- the first of the records is the next one
pub made_first : (pages : ℕ → Image) (rest behind : List LogRecord) (r : LogRecord) → rest ≡ r ∷ behind → (m : AreMade pages rest) → IsNext pages m.lsn r
made_first pages rest behind r is m = (subst (λ (l : List LogRecord). AreNext pages m.lsn l) is m.next).0

pub made_behind : (pages after : ℕ → Image) (rest behind : List LogRecord) (r : LogRecord) → rest ≡ r ∷ behind → AreMade pages rest → ((n : ℕ) → after n ≡ after_record pages r n) → AreMade after behind
made_behind pages after rest behind r is m made = record {
  lsn = m.lsn + 1;
  next = subst (λ (f : ℕ → Image). AreNext f (m.lsn + 1) behind) (sym (fun_ext made)) (subst (λ (l : List LogRecord). AreNext pages m.lsn l) is m.next).1;
}

pub whole_behind : (pages after : ℕ → Image) (rest behind : List LogRecord) (r : LogRecord) → rest ≡ r ∷ behind → ((n : ℕ) → after n ≡ after_record pages r n) → replayed after behind ≡ replayed pages rest
whole_behind pages after rest behind r is made = ap (λ (f : ℕ → Image). replayed f behind) (fun_ext made) ∙ ap (replayed pages) (sym is)

pub links_behind : (now after : ℕ → List ChainLink) (position : ℕ) (rest behind : List LogRecord) (r : LogRecord) → rest ≡ r ∷ behind
    → ((n : ℕ) → after n ≡ put_at now r.page (now r.page ++ link_of position r ∷ []) n)
    → (n : ℕ) → after n ++ links_on n position behind ≡ now n ++ links_on n position rest
links_behind now after position rest behind r is made n = elim (cases_eq n r.page) [
  | inl here ↦
      ap (λ (l : List ChainLink). l ++ links_on n position behind) (made n ∙ put_at_here now r.page (now r.page ++ link_of position r ∷ []) n here)
      ∙ append_assoc (now r.page) (link_of position r ∷ []) (links_on n position behind)
      ∙ ap (λ (l : List ChainLink). now r.page ++ l) (sym (links_here n position r behind here))
      ∙ ap (λ (m : ℕ). now m ++ links_on n position (r ∷ behind)) (sym here)
      ∙ ap (λ (l : List LogRecord). now n ++ links_on n position l) (sym is)
  | inr off ↦
      ap (λ (l : List ChainLink). l ++ links_on n position behind) (made n ∙ put_at_off now r.page (now r.page ++ link_of position r ∷ []) n off)
      ∙ ap (λ (l : List ChainLink). now n ++ l) (sym (links_off n position r behind off))
      ∙ ap (λ (l : List LogRecord). now n ++ links_on n position l) (sym is)
]

-- its chain has room for one link more
pub room_first : (now whole : ℕ → List ChainLink) (position : ℕ) (rest behind : List LogRecord) (r : LogRecord) (room had : ℕ) → rest ≡ r ∷ behind
    → ((n : ℕ) → now n ++ links_on n position rest ≡ whole n) → length (whole r.page) ≤ had → had ≤ room → length (now r.page) < room
room_first now whole position rest behind r room had is all fits more =
    let id = r.page in
    let e : whole id ≡ now id ++ link_of position r ∷ links_on id position behind =
    sym (all id) ∙ ap (λ (l : List LogRecord). now id ++ links_on id position l) is ∙ ap (λ (l : List ChainLink). now id ++ l) (links_here id position r behind refl) in
    let n : length (whole id) ≡ length (now id ++ link_of position r ∷ links_on id position behind) = ap length e in
    let m : length (now id ++ link_of position r ∷ links_on id position behind) ≡ length (now id) + length (link_of position r ∷ links_on id position behind)
    = length-append (now id) (link_of position r ∷ links_on id position behind) in
    let s : length (link_of position r ∷ links_on id position behind) ≡ suc (length (links_on id position behind)) = refl in
    omega arith

pub none_left : {A : Type 0} (xs : List A) → length xs ≡ 0 → xs ≡ []
none_left [] h = refl
none_left (x ∷ xs) h = absurd (omega arith)

-- a chain has room for the links that it has
pub chain_room : (pages : KeptPages) (n : ℕ) → length (chain_in pages n) ≤ room_in pages n
chain_room pages n = go (found pages n)
  where
    go : (o : Option KeptPage) → length (links_of o) ≤ room_of o
    go None = omega arith
    go (Some k) = let a : k.chain.len ≡ length k.chain.items = k.chain.ok.0 in let b : k.chain.len ≤ k.chain.cap = k.chain.ok.1 in omega arith

-- the same log, whatever page is lent
pub lent_none : (entries : List Entry) (p : KeptPages) (b : Option Image) → IsKept entries p b → IsKept entries p None
lent_none entries p b kept = record { logged = kept.logged; replay = kept.replay; links = kept.links; lent = tt }

pub lent_too : (entries : List Entry) (p : KeptPages) (b : Option Image) → IsKept entries p None → IfSome b (λ i. i ≡ blank_image) → IsKept entries p b
lent_too entries p b kept lent = record { logged = kept.logged; replay = kept.replay; links = kept.links; lent = lent }

-- one entry more of a log
pub front_more : (entries : List Entry) (i : ℕ) (e : Entry) → i < length entries → IsLog entries → take (i + 1) entries ≡ take i entries ++ e ∷ [] → IsLog (take i entries ++ e ∷ [])
front_more entries i e within log more =
    subst IsLog more (log_front (take (i + 1) entries) (drop (i + 1) entries) (subst IsLog (sym (take-append-drop (i + 1) entries)) log))

-- it fits the pages of those before it
pub next_on : (entries : List Entry) (e : Entry) (p : KeptPages) (b : Option Image) → IsKept entries p b → IsLog (entries ++ e ∷ []) → AreNext (page_in p) (last_lsn_of entries + 1) (records_of e)
next_on entries e p b kept log = subst (λ (f : ℕ → Image). AreNext f (last_lsn_of entries + 1) (records_of e)) (sym (fun_ext kept.replay)) (log_fits entries e log)

pub made_on : (entries : List Entry) (e : Entry) (p : KeptPages) (rs : List LogRecord) → IsKept entries p None → IsLog (entries ++ e ∷ []) → rs ≡ records_of e → AreMade (page_in p) rs
made_on entries e p rs kept log is = record {
  lsn = last_lsn_of entries + 1;
  next = subst (λ (l : List LogRecord). AreNext (page_in p) (last_lsn_of entries + 1) l) (sym is) (next_on entries e p None kept log);
}

-- its links have room, where the chains of the whole log have
pub room_on : (entries front behind : List Entry) (e : Entry) (p : KeptPages) (rs : List LogRecord) (position n room : ℕ) → entries ≡ (front ++ e ∷ []) ++ behind → IsKept front p None
    → rs ≡ records_of e → position ≡ 1 + length front → length (chain_of entries n) ≤ room → length (chain_in p n ++ links_on n position rs) ≤ room
room_on entries front behind e p rs position n room split kept is at fits =
    let a : chain_in p n ++ links_on n position rs ≡ chain_of front n ++ links_on n (1 + length front) (records_of e) =
    ap (λ (l : List ChainLink). l ++ links_on n position rs) (kept.links n) ∙ ap (λ (k : ℕ). chain_of front n ++ links_on n k rs) at
    ∙ ap (λ (l : List LogRecord). chain_of front n ++ links_on n (1 + length front) l) is in
    let b : chain_of (front ++ e ∷ []) n ≡ chain_of front n ++ links_on n (1 + length front) (records_of e) = chain-append n 1 front e in
    let c : chain_of entries n ≡ chain_of (front ++ e ∷ []) n ++ chain_from n (1 + length (front ++ e ∷ [])) behind = ap (λ (l : List Entry). chain_of l n) split ∙ chain_parts n 1 (front ++ e ∷ []) behind in
    let d : length (chain_of entries n) ≡ length (chain_of (front ++ e ∷ []) n ++ chain_from n (1 + length (front ++ e ∷ [])) behind) = ap length c in
    let f : length (chain_of (front ++ e ∷ []) n ++ chain_from n (1 + length (front ++ e ∷ [])) behind) ≡ length (chain_of (front ++ e ∷ []) n) + length (chain_from n (1 + length (front ++ e ∷ [])) behind)
    = length-append (chain_of (front ++ e ∷ []) n) (chain_from n (1 + length (front ++ e ∷ [])) behind) in
    let g : length (chain_in p n ++ links_on n position rs) ≡ length (chain_of (front ++ e ∷ []) n) = ap length (a ∙ sym b) in omega arith

-- the last LSN of a log, with one entry more
last_more : (entries : List Entry) (e : Entry) → IsLog entries → IsLog (entries ++ e ∷ []) → last_lsn_of (entries ++ e ∷ []) ≡ last_lsn_of entries + length (records_of e)
last_more entries e log more =
    let a : last_lsn_of (entries ++ e ∷ []) ≡ length (records_in (entries ++ e ∷ [])) = last_is (entries ++ e ∷ []) more in
    let b : last_lsn_of entries ≡ length (records_in entries) = last_is entries log in
    let c : length (records_in (entries ++ e ∷ [])) ≡ length (records_in entries ++ records_of e) = ap length (records_more entries e) in
    let d : length (records_in entries ++ records_of e) ≡ length (records_in entries) + length (records_of e) = length-append (records_in entries) (records_of e) in omega arith

-- one entry written
pub entry_kept : (entries : List Entry) (e : Entry) (rs : List LogRecord) (last position next : ℕ) (p q : KeptPages) → IsKept entries p None → rs ≡ records_of e → last ≡ last_lsn_of entries
    → position ≡ length entries + 1 → next ≡ last + length rs → AreNext (page_in p) (last + 1) rs → ((n : ℕ) → page_in q n ≡ replayed (page_in p) rs n)
    → ((n : ℕ) → chain_in q n ≡ chain_in p n ++ links_on n position rs) → IsKept (entries ++ e ∷ []) q None × (next ≡ last_lsn_of (entries ++ e ∷ []))
entry_kept entries e rs last position next p q kept is at place more fits made linked =
    let k : IsKept (entries ++ e ∷ []) q None = kept_append entries (entries ++ e ∷ []) e rs last position p q None None kept refl is at place fits made linked tt in
    let l : last_lsn_of (entries ++ e ∷ []) ≡ last_lsn_of entries + length (records_of e) = last_more entries e (log_out entries kept.logged) (log_out (entries ++ e ∷ []) k.logged) in
    let m : length rs ≡ length (records_of e) = ap length is in
    (k, omega arith)

take_front : (xs ys : List Entry) → take (length xs) (xs ++ ys) ≡ xs
take_front [] ys = refl
take_front (x ∷ xs) ys = ap (λ (l : List Entry). x ∷ l) (take_front xs ys)

drop_front : (xs ys : List Entry) → drop (length xs) (xs ++ ys) ≡ ys
drop_front [] ys = refl
drop_front (x ∷ xs) ys = drop_front xs ys

-- what taking back the entries behind a log needs, and what it leaves
pub tail_came : (front done : List Entry) (p : KeptPages) → IsKept (front ++ done) p None → Came (page_in p) (records_in done)
tail_came front done p kept = kept_came (front ++ done) p None (length front) done kept (sym (drop_front front done))

pub tail_gone : (front done : List Entry) (p q : KeptPages) → IsKept (front ++ done) p None
    → ((base : ℕ → Image) (lsn : ℕ) → AreNext base lsn (records_in done) → page_in p ≡ replayed base (records_in done) → page_in q ≡ base)
    → ((base : ℕ → List ChainLink) (position : ℕ) → ((n : ℕ) → chain_in p n ≡ base n ++ chain_from n position done) → (n : ℕ) → chain_in q n ≡ base n) → IsKept front q None
tail_gone front done p q kept undone unlinked =
    let is : done ≡ drop (length front) (front ++ done) = sym (drop_front front done) in
    subst (λ (l : List Entry). IsKept l q None) (take_front front done)
    (kept_first (front ++ done) p q None (length front) kept (kept_pages (front ++ done) p q None (length front) done kept is undone) (kept_chains (front ++ done) p q None (length front) done kept is unlinked))

-- that the whole is a log tells that its entry fits those before it
pub fits_there : (front entries : List Entry) (i : ℕ) (e : Entry) (p : KeptPages) (last : ℕ) → i < length entries → take (i + 1) entries ≡ take i entries ++ e ∷ []
    → IsKept (front ++ take i entries) p None → last ≡ last_lsn_of (front ++ take i entries) → ∥ IsLog (front ++ entries) ∥₁ → AreNext (page_in p) (last + 1) (records_of e)
fits_there front entries i e p last within more kept at whole =
    let log : IsLog (front ++ entries) = log_out (front ++ entries) whole in
    let split : front ++ entries ≡ ((front ++ take i entries) ++ e ∷ []) ++ drop (i + 1) entries =
    ap (λ (l : List Entry). front ++ l) (sym (take-append-drop (i + 1) entries) ∙ ap (λ (l : List Entry). l ++ drop (i + 1) entries) more)
    ∙ sym (append_assoc front (take i entries ++ e ∷ []) (drop (i + 1) entries)) ∙ ap (λ (l : List Entry). l ++ drop (i + 1) entries) (sym (append_assoc front (take i entries) (e ∷ []))) in
    let to : IsLog ((front ++ take i entries) ++ e ∷ []) = log_front ((front ++ take i entries) ++ e ∷ []) (drop (i + 1) entries) (subst IsLog split log) in
    subst (λ (n : ℕ). AreNext (page_in p) (n + 1) (records_of e)) (sym at) (next_on (front ++ take i entries) e p None kept to)
