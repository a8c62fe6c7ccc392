-- Pages that are kept of several positions of a log.
use Rattle.std.proofs.Common.{◌≡◌, ℕ, ◌≤◌, nat_eq, List, [], ◌++◌, Option, Some, None, length, take, unwrap_or, refl, sym, ap, ◌∙◌, subst, inl, inr, arith}
use Rattle.std.proofs.lemmas.Bool.{eqb-true, eq-eqb}
use Rattle.std.proofs.lemmas.List.{length-append, take-append-le}
use Rattle.std.specs.Map.{lookup, lookup_entry}
use Rattle.lru.specs.LruCache.{LruCache, lru_cache, put_entries}
use Rattle.lru.proofs.CallerLemmas.{Contains-lookup, Contains-lookup_entry, Contains-put_entries}
use Rattle.lru.proofs.Splits.{Contains-nil}
use Rattle.page_store.specs.Image.{Image}
use Rattle.phys_log.specs.Logs.{pages_of}
use Rattle.phys_log.specs.declared.entries.Entry.{Entry}
use Rattle.undo_snapshot.specs.Kept.{AreOf, Further}
use Rattle.undo_snapshot.specs.Positions.{kept_before, most_positions, put_pages, AreAt, AreOfLog, Served, none_served, one_served}
use Rattle.undo_snapshot.proofs.KeptLemmas.{none_kept}

-- what a cache of positions has after a put
pub put_in : (cache : LruCache ℕ (List (ℕ × Image))) (old : List (ℕ × List (ℕ × Image))) (position : ℕ) (pages : List (ℕ × Image)) → cache.entries ≡ old → cache.cap ≡ most_positions
    → put_entries nat_eq cache position pages ≡ put_pages old position pages
put_in cache old position pages has small =
    subst (λ (n : ℕ). put_entries nat_eq (lru_cache cache.entries n) position pages ≡ put_entries nat_eq (lru_cache old most_positions) position pages) (sym small)
    (ap (λ (es : List (ℕ × List (ℕ × Image))). put_entries nat_eq (lru_cache es most_positions) position pages) has)

-- the pages that are kept of a position are its pages
pub begun_pages : (log : List Entry) (kept : List (ℕ × List (ℕ × Image))) (position : ℕ) → AreOfLog log kept → AreOf (pages_of (take position log)) (kept_before kept position)
begun_pages log kept position are = go (lookup (nat_eq position) kept) refl
  where
    go : (o : Option (List (ℕ × Image))) → lookup (nat_eq position) kept ≡ o → AreOf (pages_of (take position log)) (unwrap_or o [])
    go None h = none_kept (pages_of (take position log)) [] refl
    go (Some pages) h =
        let found = Contains-lookup (nat_eq position) kept pages h in
        subst (λ (n : ℕ). AreOf (pages_of (take n log)) pages) (sym (eqb-true position found.0 found.2)) (are.each found.0 pages found.1).those

-- one more position
pub put_stays : (log : List Entry) (kept : List (ℕ × List (ℕ × Image))) (position : ℕ) (pages : List (ℕ × Image)) → position ≤ length log → AreOf (pages_of (take position log)) pages → AreOfLog log kept →
    AreOfLog log (put_pages kept position pages)
put_stays log kept position pages within of are = record {
  each = λ n others has. elim (Contains-put_entries nat_eq (lru_cache kept most_positions) position pages (n, others) has) [
    | inl old ↦ are.each n others old
    | inr new ↦ its n others (elim new.1 [
      | inl same ↦ same
      | inr was ↦ sym (eqb-true position n was.2)
    ]) new.0
  ];
}
  where
    its : (n : ℕ) (others : List (ℕ × Image)) → n ≡ position → others ≡ pages → AreAt log n others
    its n others at same = subst (λ (k : ℕ). AreAt log k others) (sym at) (subst (λ (ps : List (ℕ × Image)). AreAt log position ps) (sym same) (record { within = within; those = of }))

-- a place without pages
pub place_stays : (log : List Entry) (kept : List (ℕ × List (ℕ × Image))) (position : ℕ) → position ≤ length log → AreOfLog log kept → AreOfLog log (put_pages kept position [])
place_stays log kept position within are = put_stays log kept position [] within (none_kept (pages_of (take position log)) [] refl) are

-- no position
pub none_of_log : (log : List Entry) (kept : List (ℕ × List (ℕ × Image))) → kept ≡ [] → AreOfLog log kept
none_of_log log kept is = subst (λ (l : List (ℕ × List (ℕ × Image))). AreOfLog log l) (sym is) (record { each = λ n pages has. absurd (Contains-nil (n, pages) has) })

-- the log has further entries
pub grown_of_log : (log more : List Entry) (kept : List (ℕ × List (ℕ × Image))) → AreOfLog log kept → AreOfLog (log ++ more) kept
grown_of_log log more kept are = record {
  each = λ n pages has. let was = are.each n pages has in record {
    within = let w = was.within in omega (arith, w, length-append log more);
    those = subst (λ (es : List Entry). AreOf (pages_of es) pages) (sym (take-append-le n log more was.within)) was.those;
  };
}

-- pages that are put again take the place of those before
pub put_again : (kept : List (ℕ × List (ℕ × Image))) (position : ℕ) (first pages : List (ℕ × Image)) → put_pages (put_pages kept position first) position pages ≡ put_pages kept position pages
put_again kept position first pages = go (lookup_entry (nat_eq position) kept) refl
  where
    go : (o : Option (ℕ × List (ℕ × Image))) → lookup_entry (nat_eq position) kept ≡ o → put_pages (put_pages kept position first) position pages ≡ put_pages kept position pages
    go None h = rw h (rw (eq-eqb position position refl) refl)
    go (Some e) h = rw h (rw (Contains-lookup_entry (nat_eq position) kept e h).1 refl)

-- a reader that was served at a position
pub served_once : (log : List Entry) (before place now : List (ℕ × List (ℕ × Image))) (position : ℕ) (pages : List (ℕ × Image)) → place ≡ put_pages before position [] → now ≡ put_pages place position pages
    → Further (pages_of (take position log)) (kept_before before position) pages → Served log before now
served_once log before place now position pages first then further =
    subst (λ (k : List (ℕ × List (ℕ × Image))). Served log before k)
    (sym (then ∙ ap (λ (p : List (ℕ × List (ℕ × Image))). put_pages p position pages) first ∙ put_again before position [] pages))
    (one_served position pages none_served further)

-- readers that were served behind others
pub served_on : (log : List Entry) (first before now : List (ℕ × List (ℕ × Image))) → Served log first before → Served log before now → Served log first now
served_on log first before _ earlier none_served = earlier
served_on log first before _ earlier (one_served {between} position pages rest further) = one_served position pages (served_on log first before between earlier rest) further
