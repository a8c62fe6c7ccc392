-- What is found after a put, and that nothing is let go as long as there is room.
use Rattle.std.proofs.Common.{◌≡◌, ℕ, ◌+◌, ◌-◌, ◌<◌, nat_eq, Bool, true, false, List, [], ◌∷◌, Option, Some, None, IsSome, length, take, refl, sym, ap, ◌∙◌, subst, arith}
use Rattle.std.proofs.lemmas.Bool.{eqb-true, eq-eqb}
use Rattle.std.proofs.lemmas.List.{length-take, take_all}
use Rattle.std.specs.Cmp.{nat_eq_equiv}
use Rattle.std.specs.Map.{lookup, lookup_entry, remove_entry}
use Rattle.lru.specs.LruCache.{lru_cache, put_entries}
use Rattle.lru.proofs.CallerLemmas.{Contains-lookup_entry, lookup-put_entries}
use Rattle.page_store.specs.Image.{Image}
use Rattle.undo_snapshot.specs.Kept.{kept_page, most_kept, used_page, Further, as_before, used_on}
use Rattle.undo_snapshot.specs.Positions.{most_positions, pages_at, put_pages}

-- a look-up of one key where another was taken out
other_found : {A : Type 0} (key other : ℕ) (es : List (ℕ × A)) → nat_eq other key ≡ false → lookup (nat_eq other) (remove_entry (nat_eq key) es) ≡ lookup (nat_eq other) es
other_found key other [] apart = refl
other_found {A} key other (e ∷ es) apart = go (nat_eq key e.0) refl (nat_eq other e.0) refl (other_found key other es apart)
  where
    go : (a : Bool) → nat_eq key e.0 ≡ a → (b : Bool) → nat_eq other e.0 ≡ b → lookup (nat_eq other) (remove_entry (nat_eq key) es) ≡ lookup (nat_eq other) es
        → lookup (nat_eq other) (remove_entry (nat_eq key) (e ∷ es)) ≡ lookup (nat_eq other) (e ∷ es)
    go true its true it rest =
        let same : other ≡ key = eqb-true other e.0 it ∙ sym (eqb-true key e.0 its) in
        let bad : true ≡ false = sym (eq-eqb other key same) ∙ apart in absurd cc
    go true its false it rest = rw its (rw it refl)
    go false its true it rest = rw its (rw it refl)
    go false its false it rest = rw its (rw it rest)

-- a list without an entry that it had is one shorter
one_shorter : {A : Type 0} (key : ℕ) (es : List (ℕ × A)) (f : ℕ × A) → lookup_entry (nat_eq key) es ≡ Some f → length (remove_entry (nat_eq key) es) + 1 ≡ length es
one_shorter key [] f h = cc
one_shorter {A} key (e ∷ es) f h = go (nat_eq key e.0) refl (λ on. one_shorter key es f on)
  where
    go : (a : Bool) → nat_eq key e.0 ≡ a → (lookup_entry (nat_eq key) es ≡ Some f → length (remove_entry (nat_eq key) es) + 1 ≡ length es)
        → length (remove_entry (nat_eq key) (e ∷ es)) + 1 ≡ length (e ∷ es)
    go true its rest = rw its (omega arith)
    go false its rest = let r : length (remove_entry (nat_eq key) es) + 1 ≡ length es = rest (rw its at h) in rw its (omega (arith, r))

-- another key is found after a put as before, where there was room
other_stays : {A : Type 0} (most : ℕ) (es : List (ℕ × A)) (key other : ℕ) (value : A) → nat_eq other key ≡ false → length es < most
    → lookup (nat_eq other) (put_entries nat_eq (lru_cache es most) key value) ≡ lookup (nat_eq other) es
other_stays {A} most es key other value apart room = go (lookup_entry (nat_eq key) es) refl
  where
    go : (o : Option (ℕ × A)) → lookup_entry (nat_eq key) es ≡ o → lookup (nat_eq other) (put_entries nat_eq (lru_cache es most) key value) ≡ lookup (nat_eq other) es
    go None h = rw h (rw apart (ap (λ (l : List (ℕ × A)). lookup (nat_eq other) l) (take_all (most - 1) es (omega (arith, room)))))
    go (Some e) h =
        let same : key ≡ e.0 = eqb-true key e.0 (Contains-lookup_entry (nat_eq key) es e h).1 in
        rw h (rw (subst (λ (k : ℕ). nat_eq other k ≡ false) same apart) (other_found key other es apart))

-- where there is room after a put, there was before
room_before : {A : Type 0} (most : ℕ) (es : List (ℕ × A)) (key : ℕ) (value : A) → length (put_entries nat_eq (lru_cache es most) key value) < most → length es < most
room_before {A} most es key value room = go (lookup_entry (nat_eq key) es) refl
  where
    go : (o : Option (ℕ × A)) → lookup_entry (nat_eq key) es ≡ o → length es < most
    go None h =
        let now : length ((key, value) ∷ take (most - 1) es) < most = rw h at room in
        let long : length (take (most - 1) es) + 1 ≡ length ((key, value) ∷ take (most - 1) es) = omega arith in
        omega (arith, now, long, length-take (most - 1) es)
    go (Some e) h =
        let now : length ((e.0, value) ∷ remove_entry (nat_eq key) es) < most = rw h at room in
        let long : length (remove_entry (nat_eq key) es) + 1 ≡ length ((e.0, value) ∷ remove_entry (nat_eq key) es) = omega arith in
        omega (arith, now, long, one_shorter key es e h)

-- pages that were put are found
pub put_found : (kept : List (ℕ × List (ℕ × Image))) (position : ℕ) (pages : List (ℕ × Image)) → pages_at (put_pages kept position pages) position ≡ Some pages
put_found kept position pages = lookup-put_entries nat_eq (lru_cache kept most_positions) position pages nat_eq_equiv

-- a place that was made is there
pub place_there : (kept place : List (ℕ × List (ℕ × Image))) (position : ℕ) → place ≡ put_pages kept position [] → IsSome (pages_at place position)
place_there kept place position is =
    subst (λ (o : Option (List (ℕ × Image))). IsSome o) (sym (subst (λ (p : List (ℕ × List (ℕ × Image))). pages_at p position ≡ Some []) (sym is) (put_found kept position []))) refl

-- and those of another position, where there was room
pub put_others : (kept : List (ℕ × List (ℕ × Image))) (position other : ℕ) (pages : List (ℕ × Image)) → nat_eq other position ≡ false → length kept < most_positions
    → pages_at (put_pages kept position pages) other ≡ pages_at kept other
put_others kept position other pages = other_stays most_positions kept position other pages

-- a page that is kept stays kept, as long as there is room
pub kept_stays : (pages : ℕ → Image) (before now : List (ℕ × Image)) (id : ℕ) → Further pages before now → length now < most_kept → IsSome (kept_page before id) → IsSome (kept_page now id)
kept_stays pages before _ id as_before room had = had
kept_stays pages before _ id (used_on {between} other rest) room had = go (nat_eq id other) refl (kept_stays pages before between id rest few had)
  where
    few : length between < most_kept
    few = room_before most_kept between other (pages other) room

    go : (a : Bool) → nat_eq id other ≡ a → IsSome (kept_page between id) → IsSome (kept_page (used_page between other (pages other)) id)
    go true same there =
        let one : id ≡ other = eqb-true id other same in
        subst (λ (o : Option Image). IsSome o) (sym (subst (λ (n : ℕ). kept_page (used_page between other (pages other)) n ≡ Some (pages other)) (sym one)
        (lookup-put_entries nat_eq (lru_cache between most_kept) other (pages other) nat_eq_equiv))) refl
    go false apart there =
        subst (λ (o : Option Image). IsSome o) (sym (other_stays most_kept between other id (pages other) apart few)) there
