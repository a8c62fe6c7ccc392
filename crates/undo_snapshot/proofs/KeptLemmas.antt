-- Kept pages, and one of them used.
use Rattle.std.proofs.Common.{◌≡◌, ℕ, nat_eq, Bool, true, false, List, [], ◌∷◌, Option, Some, None, Result, Ok, Err, OnOk, OnErr, refl, sym, ap, ◌∙◌, subst, inl, inr}
use Rattle.std.proofs.lemmas.Bool.{eqb-true}
use Rattle.std.specs.Cmp.{nat_eq_equiv}
use Rattle.std.specs.Option.{is_some}
use Rattle.std.specs.Map.{lookup, lookup_entry, remove_entry}
use Rattle.lru.specs.LruCache.{lru_cache, promoted}
use Rattle.lru.proofs.Splits.{Contains-nil}
use Rattle.lru.proofs.Pairs.{promoted_absent}
use Rattle.lru.proofs.CallerLemmas.{Contains-lookup, Contains-lookup_entry, Contains-put_entries, lookup-put_entries}
use Rattle.page_store.specs.Image.{Image}
use Rattle.phys_log.specs.declared.entries.Entry.{Entry}
use Rattle.phys_log.specs.Logs.{pages_of}
use Rattle.undo_snapshot.specs.Kept.{most_kept, kept_page, used_page, AreOf, Further, used_on}
use Rattle.undo_snapshot.specs.Snapshots.{IsSnapshot}

-- nothing is kept
pub none_kept : (pages : ℕ → Image) (kept : List (ℕ × Image)) → kept ≡ [] → AreOf pages kept
none_kept pages kept is =
    subst (λ (l : List (ℕ × Image)). AreOf pages l) (sym is) (record { each = λ id image h. absurd (Contains-nil (id, image) h) })

-- a page that was used is kept
pub used_found : (kept : List (ℕ × Image)) (id : ℕ) (image : Image) → kept_page (used_page kept id image) id ≡ Some image
used_found kept id image = lookup-put_entries nat_eq (lru_cache kept most_kept) id image nat_eq_equiv

-- what is kept is of the pages, after a use of one of them too
pub used_of : (pages : ℕ → Image) (kept : List (ℕ × Image)) (id : ℕ) → AreOf pages kept → AreOf pages (used_page kept id (pages id))
used_of pages kept id are = record {
  each = λ n image h. elim (Contains-put_entries nat_eq (lru_cache kept most_kept) id (pages id) (n, image) h) [
    | inl old ↦ are.each n image old
    | inr new ↦ new.0 ∙ ap pages (sym (elim new.1 [
      | inl same ↦ same
      | inr was ↦ sym (eqb-true id n was.2)
    ]))
  ];
}

-- the kept page of a number is the page
pub kept_is : (pages : ℕ → Image) (kept : List (ℕ × Image)) (id : ℕ) (image : Image) → AreOf pages kept
    → kept_page kept id ≡ Some image → image ≡ pages id
kept_is pages kept id image are h =
    let found = Contains-lookup (nat_eq id) kept image h in
    are.each found.0 image found.1 ∙ ap pages (sym (eqb-true id found.0 found.2))

-- no entry, no page
no_entry : (test : ℕ → Bool) (kept : List (ℕ × Image)) → lookup_entry test kept ≡ None → lookup test kept ≡ None
no_entry test [] h = refl
no_entry test (e ∷ es) h = (elim (test e.0) as (λ y. test e.0 ≡ y → lookup test (e ∷ es) ≡ None) [
  | true ↦ λ t. let bad : Some e ≡ None = rw t at h in cc
  | false ↦ λ t. rw t (no_entry test es (rw t at h))
]) refl

-- the kept page made the one that was used last is a use of it
pub promoted_is : (pages : ℕ → Image) (kept : List (ℕ × Image)) (id : ℕ) → AreOf pages kept → is_some (kept_page kept id) ≡ true
    → promoted (nat_eq id) kept ≡ used_page kept id (pages id)
promoted_is pages kept id are there = go (lookup_entry (nat_eq id) kept) refl
  where
    go : (o : Option (ℕ × Image)) → lookup_entry (nat_eq id) kept ≡ o
        → promoted (nat_eq id) kept ≡ used_page kept id (pages id)
    go None h = let bad : lookup (nat_eq id) kept ≡ None = no_entry (nat_eq id) kept h in cc
    go (Some e) h =
        let in_it = Contains-lookup_entry (nat_eq id) kept e h in
        let key : id ≡ e.0 = eqb-true id e.0 in_it.1 in
        let image : e.1 ≡ pages id = are.each e.0 e.1 in_it.0 ∙ ap pages (sym key) in
        rw h (ap (λ (i : Image). (e.0, i) ∷ remove_entry (nat_eq id) kept) image)

-- and where there is none, nothing changes
pub promoted_none : (kept : List (ℕ × Image)) (id : ℕ) → is_some (kept_page kept id) ≡ false → promoted (nat_eq id) kept ≡ kept
promoted_none kept id none = (promoted_absent nat_eq (lru_cache kept most_kept) id none).1

-- a source whose granter has the same first entries, and which keeps the same pages
pub still_snapshot : (front now : List Entry) (position : ℕ) (kept after : List (ℕ × Image)) → IsSnapshot front position kept → now ≡ front → after ≡ kept
    → IsSnapshot now position after
still_snapshot front now position kept after is same stays =
    subst (λ (f : List Entry). IsSnapshot f position after) (sym same)
    (subst (λ (k : List (ℕ × Image)). IsSnapshot front position k) (sym stays) is)

-- and one that used a page
pub used_snapshot : (front now : List Entry) (position id : ℕ) (kept after : List (ℕ × Image)) → IsSnapshot front position kept → now ≡ front
    → after ≡ used_page kept id (pages_of front id) → IsSnapshot now position after
used_snapshot front now position id kept after is same used =
    still_snapshot front now position (used_page kept id (pages_of front id)) after
    (record { length = is.length; pages = used_of (pages_of front) kept id is.pages }) same used

-- what is kept after a load is further of what was kept first
pub further_load : {T E : Type 0} (r : Result T E) (front own : List Entry) (before kept now : List (ℕ × Image)) (id : ℕ) → own ≡ front → Further (pages_of front) before kept
    → OnOk r (now ≡ used_page kept id (pages_of own id)) → OnErr r (now ≡ kept) → Further (pages_of front) before now
further_load (Ok x) front own before kept now id same further on_ok on_err =
    subst (λ (k : List (ℕ × Image)). Further (pages_of front) before k) (sym (on_ok ∙ ap (λ (es : List Entry). used_page kept id (pages_of es id)) same)) (used_on id further)
further_load (Err e) front own before kept now id same further on_ok on_err = subst (λ (k : List (ℕ × Image)). Further (pages_of front) before k) (sym on_err) further
