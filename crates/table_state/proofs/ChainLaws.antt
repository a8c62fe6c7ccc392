-- The free pages as they are read are the chain of free pages.
use Rattle.std.proofs.Common.{◌≡◌, ◌⊎◌, inl, inr, ℕ, zero, suc, ◌-◌, ◌≤◌, ◌<◌, ◌==◌, ◌&&◌, ◌||◌, Bool, true, false, if◌then◌else◌, List, [], ◌∷◌, ◌++◌, length, Option, None, Some, refl, sym, ap, ◌∙◌, subst, arith, append_assoc, append-nil}
use Rattle.std.specs.Prelude.{nat_lt}
use Rattle.std.specs.Option.{option_map}
use Rattle.std.specs.Bool.{Decides}
use Rattle.std.proofs.lemmas.Bool.{eqb-true, eq-eqb, ltb-true, false≢true}
use Rattle.std.proofs.lemmas.Bool.Decides.{Decides-and, Decides-like}
use Rattle.std.proofs.lemmas.Option.{none-some, same_Some}
use Rattle.std.specs.List.{AllByRecursion}
use Rattle.page_store.specs.Image.{Image, blank_image}
use Rattle.page_store.specs.declared.pages.PageKind.{PageKind}
use Rattle.page_store.specs.declared.pages.PageKind.TheVariants.{Free, Leaf, Inner, Meta}
use Rattle.page_workspace.specs.Spare.{IsIn, IsChain, IsFreePage}
use Rattle.table_state.specs.Chains.{is_free_kind, is_free_page, is_blank, is_past, are_past, chain_from}

free_kind_decides : (kind : PageKind) → Decides (is_free_kind kind) (kind ≡ Free)
free_kind_decides Free = (λ e. refl, λ e. refl)
free_kind_decides Leaf = (λ e. absurd (false≢true e), λ e. cc)
free_kind_decides Inner = (λ e. absurd (false≢true e), λ e. cc)
free_kind_decides Meta = (λ e. absurd (false≢true e), λ e. cc)

none_decides : (cells : List (List ℕ)) → Decides (length cells == 0) (cells ≡ [])
none_decides [] = (λ e. refl, λ e. refl)
none_decides (c ∷ cs) = (λ e. absurd (none (length cs) (eqb-true (suc (length cs)) 0 e)), λ e. absurd (none (length cs) (ap length e)))
  where
    none : (n : ℕ) → suc n ≡ 0 → ⊥
    none n e = omega arith

pub free_decides : (image : Image) → Decides (is_free_page image) (IsFreePage image)
free_decides image =
    let cells = length image.cells == 0 in
    Decides-like (is_free_page image) (λ h. record { kind = h.0; level = h.1.0; cells = h.1.1 }) (λ r. (r.kind, (r.level, r.cells)))
    (Decides-and (is_free_kind image.head.kind) ((image.head.level == 0) && cells) (free_kind_decides image.head.kind)
    (Decides-and (image.head.level == 0) cells (eqb-true image.head.level 0, eq-eqb image.head.level 0) (none_decides image.cells)))

record IsNew (image : Image) : Type 0 where
  free : IsFreePage image
  right : image.head.right ≡ 0
  lsn : image.lsn ≡ 0

new_decides : (image : Image) → Decides (is_blank image) (IsNew image)
new_decides image =
    let lsn = image.lsn == 0 in
    Decides-like (is_blank image) (λ h. record { free = h.0; right = h.1.0; lsn = h.1.1 }) (λ r. (r.free, (r.right, r.lsn)))
    (Decides-and (is_free_page image) ((image.head.right == 0) && lsn) (free_decides image)
    (Decides-and (image.head.right == 0) lsn (eqb-true image.head.right 0, eq-eqb image.head.right 0) (eqb-true image.lsn 0, eq-eqb image.lsn 0)))

-- a page is known from its parts
new_is : (image : Image) → IsNew image → image ≡ blank_image
new_is image n =
    let kind = ap (λ (k : PageKind). record { head = record { kind = k; level = image.head.level; right = image.head.right }; lsn = image.lsn; cells = image.cells }) n.free.kind in
    let level = ap (λ (k : ℕ). record { head = record { kind = Free; level = k; right = image.head.right }; lsn = image.lsn; cells = image.cells }) n.free.level in
    let right = ap (λ (k : ℕ). record { head = record { kind = Free; level = 0; right = k }; lsn = image.lsn; cells = image.cells }) n.right in
    let lsn = ap (λ (k : ℕ). record { head = record { kind = Free; level = 0; right = 0 }; lsn = k; cells = image.cells }) n.lsn in
    let cells = ap (λ (k : List (List ℕ)). record { head = record { kind = Free; level = 0; right = 0 }; lsn = 0; cells = k }) n.free.cells in
    kind ∙ level ∙ right ∙ lsn ∙ cells

is_new : (image : Image) → image ≡ blank_image → IsNew image
is_new image e = subst IsNew (sym e) (record { free = record { kind = refl; level = refl; cells = refl }; right = refl; lsn = refl })

pub blank_decides : (image : Image) → Decides (is_blank image) (image ≡ blank_image)
blank_decides image = Decides-like (is_blank image) (new_is image) (is_new image) (new_decides image)

-- the pages past the end
or_true : (a b : Bool) → (a || b) ≡ true → (a ≡ true) ⊎ (b ≡ true)
or_true true b e = inl refl
or_true false b e = inr e

pub and_true : (a b : Bool) → (a && b) ≡ true → (a ≡ true) × (b ≡ true)
and_true true b e = (refl, e)
and_true false b e = absurd (false≢true e)

pub past_sound : (pages : ℕ → Image) (count : ℕ) (ids : List ℕ) → are_past pages count ids ≡ true → (n : ℕ) → IsIn n ids → count ≤ n → pages n ≡ blank_image
past_sound pages count [] h n i late = absurd i
past_sound pages count (id ∷ ids) h n (inr i) late = past_sound pages count ids (and_true (is_past pages count id) (are_past pages count ids) h).1 n i late
past_sound pages count (id ∷ ids) h n (inl e) late = go (or_true (nat_lt id count) (is_blank (pages id)) (and_true (is_past pages count id) (are_past pages count ids) h).0)
  where
    go : (nat_lt id count ≡ true) ⊎ (is_blank (pages id) ≡ true) → pages n ≡ blank_image
    go (inl l) = let less : id < count = ltb-true id count l in absurd (omega (arith, less, e, late))
    go (inr b) = ap pages e ∙ (blank_decides (pages id)).0 b

pub past_full : (pages : ℕ → Image) (count : ℕ) (ids : List ℕ) → ((n : ℕ) → count ≤ n → pages n ≡ blank_image) → are_past pages count ids ≡ true
past_full pages count [] h = refl
past_full pages count (id ∷ ids) h = ap (λ (t : Bool). t && are_past pages count ids) (go (nat_lt id count) refl) ∙ past_full pages count ids h
  where
    late : nat_lt id count ≡ false → count ≤ id
    late e = grind arith

    go : (t : Bool) → nat_lt id count ≡ t → (t || is_blank (pages id)) ≡ true
    go true e = refl
    go false e = (blank_decides (pages id)).1 (h id (late e))

-- the chain
map_some : (x : ℕ) (o : Option (List ℕ)) (all : List ℕ) → option_map (λ (ids : List ℕ). x ∷ ids) o ≡ Some all → (ids : List ℕ) × (o ≡ Some ids) × (x ∷ ids ≡ all)
map_some x None all e = absurd (none-some all e)
map_some x (Some ids) all e = (ids, refl, same_Some (x ∷ ids) all e)

abbrev pub FreeChain : (ℕ → Image) → ℕ → List ℕ → Type 0
FreeChain pages id ids = IsChain pages id ids × AllByRecursion (λ n. IsFreePage (pages n)) ids

chain_end : (pages : ℕ → Image) (id : ℕ) (ids : List ℕ) → id ≡ 0 → Some [] ≡ Some ids → FreeChain pages id ids
chain_end pages id ids e h = subst (FreeChain pages id) (same_Some [] ids h) (e, tt)

pub chain_sound : (pages : ℕ → Image) (turns id : ℕ) (ids : List ℕ) → chain_from pages turns id ≡ Some ids → FreeChain pages id ids
chain_sound pages zero id ids h = go (id == 0) refl h
  where
    go : (t : Bool) → (id == 0) ≡ t → (if t then Some [] else None) ≡ Some ids → FreeChain pages id ids
    go true e k = chain_end pages id ids (eqb-true id 0 e) k
    go false e k = absurd (none-some ids k)
chain_sound pages (suc turns) id ids h = go (id == 0) refl h (chain_sound pages turns (pages id).head.right)
  where
    not_zero : (id == 0) ≡ false → id ≡ 0 → ⊥
    not_zero e k = grind arith

    deeper : (t : Bool) → is_free_page (pages id) ≡ t → (id == 0) ≡ false
        → (if t then option_map (λ (l : List ℕ). id ∷ l) (chain_from pages turns (pages id).head.right) else None) ≡ Some ids
        → ((l : List ℕ) → chain_from pages turns (pages id).head.right ≡ Some l → FreeChain pages (pages id).head.right l) → FreeChain pages id ids
    deeper false f e k more = absurd (none-some ids k)
    deeper true f e k more =
        let m = map_some id (chain_from pages turns (pages id).head.right) ids k in
        let c = more m.0 m.1 in
        subst (FreeChain pages id) m.2 ((refl, not_zero e, c.0), ((free_decides (pages id)).0 f, c.1))

    go : (t : Bool) → (id == 0) ≡ t
        → (if t then Some [] else if is_free_page (pages id) then option_map (λ (l : List ℕ). id ∷ l) (chain_from pages turns (pages id).head.right) else None) ≡ Some ids
        → ((l : List ℕ) → chain_from pages turns (pages id).head.right ≡ Some l → FreeChain pages (pages id).head.right l) → FreeChain pages id ids
    go true e k more = chain_end pages id ids (eqb-true id 0 e) k
    go false e k more = deeper (is_free_page (pages id)) refl e k more

pub chain_full : (pages : ℕ → Image) (turns id : ℕ) (ids : List ℕ) → IsChain pages id ids → AllByRecursion (λ n. IsFreePage (pages n)) ids → length ids ≤ turns
    → chain_from pages turns id ≡ Some ids
chain_full pages zero id [] c f few = ap (λ (t : Bool). if t then Some [] else None) (eq-eqb id 0 c)
chain_full pages zero id (x ∷ xs) c f few = absurd (none (length xs) few)
  where
    none : (n : ℕ) → suc n ≤ 0 → ⊥
    none n h = omega arith
chain_full pages (suc turns) id [] c f few =
    ap (λ (t : Bool). if t then Some [] else if is_free_page (pages id) then option_map (λ (l : List ℕ). id ∷ l) (chain_from pages turns (pages id).head.right) else None) (eq-eqb id 0 c)
chain_full pages (suc turns) id (x ∷ xs) c f few =
    let zero_not : (id == 0) ≡ false = go (id == 0) refl in
    let here : is_free_page (pages id) ≡ true = (free_decides (pages id)).1 (subst (λ (n : ℕ). IsFreePage (pages n)) (sym c.0) f.0) in
    let next : chain_from pages turns (pages id).head.right ≡ Some xs =
    chain_full pages turns (pages id).head.right xs (subst (λ (n : ℕ). IsChain pages (pages n).head.right xs) (sym c.0) c.2) f.1 (omega arith) in
    ap (λ (t : Bool). if t then Some [] else if is_free_page (pages id) then option_map (λ (l : List ℕ). id ∷ l) (chain_from pages turns (pages id).head.right) else None) zero_not
    ∙ ap (λ (t : Bool). if t then option_map (λ (l : List ℕ). id ∷ l) (chain_from pages turns (pages id).head.right) else None) here
    ∙ ap (option_map (λ (l : List ℕ). id ∷ l)) next ∙ ap (λ (n : ℕ). Some (n ∷ xs)) c.0
  where
    go : (t : Bool) → (id == 0) ≡ t → (id == 0) ≡ false
    go false e = e
    go true e = absurd (c.1 (sym c.0 ∙ eqb-true id 0 e))

-- one page more along the chain
map_map : (xs : List ℕ) (x : ℕ) (o : Option (List ℕ)) → option_map (λ (l : List ℕ). xs ++ l) (option_map (λ (l : List ℕ). x ∷ l) o) ≡ option_map (λ (l : List ℕ). (xs ++ x ∷ []) ++ l) o
map_map xs x None = refl
map_map xs x (Some l) = ap (λ (k : List ℕ). Some k) (sym (append_assoc xs (x ∷ []) l))

pub chain_begins : (o : Option (List ℕ)) → option_map (λ (l : List ℕ). [] ++ l) o ≡ o
chain_begins None = refl
chain_begins (Some l) = refl

pub chain_more : (pages : ℕ → Image) (turns id : ℕ) (ids more : List ℕ) (all : Option (List ℕ)) → (id ≡ 0 → ⊥) → (turns ≡ 0 → ⊥) → is_free_page (pages id) ≡ true
    → more ≡ ids ++ id ∷ [] → option_map (λ (l : List ℕ). ids ++ l) (chain_from pages turns id) ≡ all
    → option_map (λ (l : List ℕ). more ++ l) (chain_from pages (turns - 1) (pages id).head.right) ≡ all
chain_more pages zero id ids more all some turned free m h = absurd (turned refl)
chain_more pages (suc turns) id ids more all some turned free m h =
    let less : suc turns - 1 ≡ turns = omega arith in
    let not_zero : (id == 0) ≡ false = go (id == 0) refl in
    ap (λ (n : ℕ). option_map (λ (l : List ℕ). more ++ l) (chain_from pages n (pages id).head.right)) less
    ∙ ap (λ (k : List ℕ). option_map (λ (l : List ℕ). k ++ l) (chain_from pages turns (pages id).head.right)) m
    ∙ sym (map_map ids id (chain_from pages turns (pages id).head.right))
    ∙ sym (ap (λ (t : Bool). option_map (λ (l : List ℕ). ids ++ l) (if t then Some [] else if is_free_page (pages id) then option_map (λ (l : List ℕ). id ∷ l) (chain_from pages turns (pages id).head.right) else None)) not_zero
    ∙ ap (λ (t : Bool). option_map (λ (l : List ℕ). ids ++ l) (if t then option_map (λ (l : List ℕ). id ∷ l) (chain_from pages turns (pages id).head.right) else None)) free)
    ∙ h
  where
    go : (t : Bool) → (id == 0) ≡ t → (id == 0) ≡ false
    go false e = e
    go true e = absurd (some (eqb-true id 0 e))

pub chain_ends : (pages : ℕ → Image) (turns id : ℕ) (ids : List ℕ) (all : Option (List ℕ)) → id ≡ 0 → option_map (λ (l : List ℕ). ids ++ l) (chain_from pages turns id) ≡ all
    → Some ids ≡ all
chain_ends pages turns id ids all e h =
    ap (λ (l : List ℕ). Some l) (sym (append-nil ids)) ∙ sym (ap (option_map (λ (l : List ℕ). ids ++ l)) (ended turns)) ∙ h
  where
    ended : (turns : ℕ) → chain_from pages turns id ≡ Some []
    ended zero = ap (λ (t : Bool). if t then Some [] else None) (eq-eqb id 0 e)
    ended (suc turns) =
        ap (λ (t : Bool). if t then Some [] else if is_free_page (pages id) then option_map (λ (l : List ℕ). id ∷ l) (chain_from pages turns (pages id).head.right) else None) (eq-eqb id 0 e)
