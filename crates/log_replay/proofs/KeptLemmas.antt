-- What is kept under numbers.
use Rattle.std.proofs.Common.{◌≡◌, ℕ, zero, suc, ◌<◌, ◌≤◌, if◌then◌else◌, cond, List, [], ◌∷◌, ◌++◌, Bool, true, false, refl, sym, ap, subst, ◌∙◌, length, arith, inl, inr, set, Option, Some, None, IsSome, get_or}
use Rattle.std.specs.Map.{lookup}
use Rattle.std.specs.Option.{option_flatten}
use Rattle.std.specs.BTreeMap.{is_at}
use Rattle.std.specs.Ordering.{nat_cmp, is_eq}
use Rattle.std.specs.declared.cmp.Ordering.{Ordering}
use Rattle.std.specs.declared.cmp.Ordering.TheVariants.{Less, Equal, Greater}
use Rattle.std.proofs.lemmas.Cmp.{ranked}
use Rattle.std.proofs.lemmas.Bool.{eq-eqb, ne_eqb, cases_eq, cases_lt, false≢true}
use Rattle.std.proofs.lemmas.List.{get_or-set_other, get_or_past}
use Rattle.std.proofs.lemmas.Grind.{get_or-set_at}
use Rattle.page_store.specs.Image.{Image}
use Rattle.log_replay.specs.declared.chains.ChainLink.{ChainLink}
use Rattle.log_replay.specs.declared.kept.KeptPage.{KeptPage}
use Rattle.log_replay.specs.declared.kept.KeptPages.{KeptPages}
use Rattle.log_replay.specs.Kept.{far_at, found, put_at, HasSlot, image_of, links_of, room_of, page_in, chain_in, room_in, Roomier}

-- a number compared with itself, and with another
is_eq_same : (x y : ℕ) (o : Ordering) → o ≡ nat_cmp x y → y ≡ x → is_eq o ≡ true
is_eq_same x y Less e h = let r : x < y = ranked x y Less e in absurd (omega arith)
is_eq_same x y Equal e h = refl
is_eq_same x y Greater e h = let r : y < x = ranked x y Greater e in absurd (omega arith)

is_eq_other : (x y : ℕ) (o : Ordering) → o ≡ nat_cmp x y → (y ≡ x → ⊥) → is_eq o ≡ false
is_eq_other x y Less e h = refl
is_eq_other x y Equal e h = let r : x ≡ y = ranked x y Equal e in absurd (h (sym r))
is_eq_other x y Greater e h = refl

pub is_here : (id n : ℕ) → n ≡ id → is_at (nat_cmp id) n ≡ true
is_here id n h = is_eq_same id n (nat_cmp id n) refl h

pub is_off : (id n : ℕ) → (n ≡ id → ⊥) → is_at (nat_cmp id) n ≡ false
is_off id n h = is_eq_other id n (nat_cmp id n) refl h

pub put_at_here : {X : Type 0} (f : ℕ → X) (id : ℕ) (x : X) (n : ℕ) → n ≡ id → put_at f id x n ≡ x
put_at_here f id x n h = ap (λ (t : Bool). if t then x else f n) (eq-eqb n id h)

pub put_at_off : {X : Type 0} (f : ℕ → X) (id : ℕ) (x : X) (n : ℕ) → (n ≡ id → ⊥) → put_at f id x n ≡ f n
put_at_off f id x n h = ap (λ (t : Bool). if t then x else f n) (ne_eqb n id h)

-- one place more in a list, and another value beyond it
push_at : {X : Type 0} (xs : List X) (x : X) (n : ℕ) (d e : X) → (n ≡ length xs → x ≡ e) → ((n ≡ length xs → ⊥) → d ≡ e) → get_or (xs ++ x ∷ []) n d ≡ get_or xs n e
push_at [] x zero d e here off = here refl
push_at [] x (suc n) d e here off = off (λ h. omega arith)
push_at (y ∷ ys) x zero d e here off = refl
push_at (y ∷ ys) x (suc n) d e here off =
    push_at ys x n d e (λ h. here (let g : n ≡ length ys = h in omega arith)) (λ no. off (λ h. no (let g : suc n ≡ suc (length ys) = h in omega arith)))

-- within a list, what is beyond it does not matter
pub within_at : {X : Type 0} (xs : List X) (n : ℕ) (d e : X) → n < length xs → get_or xs n d ≡ get_or xs n e
within_at [] n d e h = absurd (omega arith)
within_at (x ∷ xs) zero d e h = refl
within_at (x ∷ xs) (suc n) d e h = within_at xs n d e (omega arith)

-- what the map keeps moves to the end of the list
pub found_drawn : (p q : KeptPages) (moved : Option KeptPage) → q.near.items ≡ p.near.items ++ moved ∷ [] → moved ≡ far_at p.far.entries (length p.near.items)
    → ((n : ℕ) → is_at (nat_cmp (length p.near.items)) n ≡ false → lookup (is_at (nat_cmp n)) q.far.entries ≡ lookup (is_at (nat_cmp n)) p.far.entries)
    → (n : ℕ) → found q n ≡ found p n
found_drawn p q moved longer is others n =
    ap (λ (l : List (Option KeptPage)). get_or l n (far_at q.far.entries n)) longer
    ∙ push_at p.near.items moved n (far_at q.far.entries n) (far_at p.far.entries n)
    (λ h. is ∙ ap (far_at p.far.entries) (sym h))
    (λ no. ap option_flatten (others n (is_off (length p.near.items) n no)))

-- another page at a number of the list
pub found_near : (p q : KeptPages) (id : ℕ) (k : Option KeptPage) → q.near.items ≡ set p.near.items id k → q.far.entries ≡ p.far.entries → id < length p.near.items
    → (n : ℕ) → found q n ≡ put_at (found p) id k n
found_near p q id k near far within n =
    ap (λ (l : List (Option KeptPage)). get_or l n (far_at q.far.entries n)) near
    ∙ ap (λ (l : List (ℕ × Option KeptPage)). get_or (set p.near.items id k) n (far_at l n)) far
    ∙ elim (cases_eq n id) [
      | inl here ↦ get_or-set_at p.near.items id n k (far_at p.far.entries n) here within ∙ sym (put_at_here (found p) id k n here)
      | inr off ↦ get_or-set_other p.near.items id n k (far_at p.far.entries n) off ∙ sym (put_at_off (found p) id k n off)
    ]

-- another page beyond the list
pub found_far : (p q : KeptPages) (id : ℕ) (k : Option KeptPage) → q.near.items ≡ p.near.items → length p.near.items ≤ id
    → ((n : ℕ) → lookup (is_at (nat_cmp n)) q.far.entries ≡ cond (is_at (nat_cmp id) n) (Some k) (lookup (is_at (nat_cmp n)) p.far.entries))
    → (n : ℕ) → found q n ≡ put_at (found p) id k n
found_far p q id k near past update n =
    ap (λ (l : List (Option KeptPage)). get_or l n (far_at q.far.entries n)) near
    ∙ elim (cases_eq n id) [
      | inl here ↦
          let past_n : length p.near.items ≤ n = omega arith in
          get_or_past p.near.items n (far_at q.far.entries n) past_n
          ∙ ap option_flatten (update n ∙ ap (λ (t : Bool). cond t (Some k) (lookup (is_at (nat_cmp n)) p.far.entries)) (is_here id n here))
          ∙ sym (put_at_here (found p) id k n here)
      | inr off ↦
          ap (λ (d : Option KeptPage). get_or p.near.items n d)
          (ap option_flatten (update n ∙ ap (λ (t : Bool). cond t (Some k) (lookup (is_at (nat_cmp n)) p.far.entries)) (is_off id n off)))
          ∙ sym (put_at_off (found p) id k n off)
    ]

-- a page that is kept has its place
pub slot_found : (pages : KeptPages) (id : ℕ) → IsSome (found pages id) → HasSlot pages id
slot_found pages id there = elim (cases_lt id (length pages.near.items)) [
  | inl within ↦ inl within
  | inr past ↦
      let past_id : length pages.near.items ≤ id = omega arith in
      inr (go (lookup (is_at (nat_cmp id)) pages.far.entries) (subst IsSome (get_or_past pages.near.items id (far_at pages.far.entries id) past_id) there))
]
  where
    go : (o : Option (Option KeptPage)) → IsSome (option_flatten o) → IsSome o
    go None h = absurd (false≢true h)
    go (Some k) h = refl

-- one place has another page: no chain lost room, where that one did not
pub roomy_put : (p q : KeptPages) (id : ℕ) (k : Option KeptPage) → ((n : ℕ) → found q n ≡ put_at (found p) id k n) → room_of (found p id) ≤ room_of k → Roomier p q
roomy_put p q id k same more n = elim (cases_eq n id) [
  | inl here ↦
      let e : found q n ≡ k = same n ∙ put_at_here (found p) id k n here in
      let a : room_in q n ≡ room_of k = ap room_of e in
      let b : room_in p n ≡ room_in p id = ap (λ (m : ℕ). room_in p m) here in omega arith
  | inr off ↦
      let e : found q n ≡ found p n = same n ∙ put_at_off (found p) id k n off in
      let a : room_in q n ≡ room_in p n = ap room_of e in omega arith
]

pub roomy_same : (p q : KeptPages) → ((n : ℕ) → found q n ≡ found p n) → Roomier p q
roomy_same p q same n = let a : room_in q n ≡ room_in p n = ap room_of (same n) in omega arith

pub roomy_on : (p q r : KeptPages) → Roomier p q → Roomier q r → Roomier p r
roomy_on p q r a b n = let x : room_in p n ≤ room_in q n = a n in let y : room_in q n ≤ room_in r n = b n in omega arith

-- what was put twice under one number is what was put last
put_twice : {X : Type 0} (f g h : ℕ → X) (id : ℕ) (x y : X) → ((n : ℕ) → g n ≡ put_at f id x n) → ((n : ℕ) → h n ≡ put_at g id y n) → (n : ℕ) → h n ≡ put_at f id y n
put_twice f g h id x y one two n = elim (cases_eq n id) [
  | inl here ↦ two n ∙ put_at_here g id y n here ∙ sym (put_at_here f id y n here)
  | inr off ↦ two n ∙ put_at_off g id y n off ∙ one n ∙ put_at_off f id x n off ∙ sym (put_at_off f id y n off)
]

put_by : {X Y : Type 0} (t : X → Y) (f : ℕ → X) (id : ℕ) (x : X) (n : ℕ) → t (put_at f id x n) ≡ put_at (λ m. t (f m)) id (t x) n
put_by t f id x n = elim (cases_eq n id) [
  | inl here ↦ ap t (put_at_here f id x n here) ∙ sym (put_at_here (λ m. t (f m)) id (t x) n here)
  | inr off ↦ ap t (put_at_off f id x n off) ∙ sym (put_at_off (λ m. t (f m)) id (t x) n off)
]

put_same : {X : Type 0} (f : ℕ → X) (id : ℕ) (x : X) (n : ℕ) → x ≡ f id → put_at f id x n ≡ f n
put_same f id x n same = elim (cases_eq n id) [
  | inl here ↦ put_at_here f id x n here ∙ same ∙ ap f (sym here)
  | inr off ↦ put_at_off f id x n off
]

-- a slot is taken out, and put back with another page
pub page_twice : (p q r : KeptPages) (id : ℕ) (x y : Option KeptPage) (image : Image) → ((n : ℕ) → found q n ≡ put_at (found p) id x n) → ((n : ℕ) → found r n ≡ put_at (found q) id y n)
    → image_of y ≡ image → (n : ℕ) → page_in r n ≡ put_at (page_in p) id image n
page_twice p q r id x y image one two is n =
    ap image_of (put_twice (found p) (found q) (found r) id x y one two n) ∙ put_by image_of (found p) id y n
    ∙ ap (λ (i : Image). put_at (page_in p) id i n) is

pub chain_twice : (p q r : KeptPages) (id : ℕ) (x y : Option KeptPage) (links : List ChainLink) → ((n : ℕ) → found q n ≡ put_at (found p) id x n) → ((n : ℕ) → found r n ≡ put_at (found q) id y n)
    → links_of y ≡ links → (n : ℕ) → chain_in r n ≡ put_at (chain_in p) id links n
chain_twice p q r id x y links one two is n =
    ap links_of (put_twice (found p) (found q) (found r) id x y one two n) ∙ put_by links_of (found p) id y n
    ∙ ap (λ (l : List ChainLink). put_at (chain_in p) id l n) is

-- with the same page, and with the same chain
pub page_back : (p q r : KeptPages) (id : ℕ) (x y : Option KeptPage) → ((n : ℕ) → found q n ≡ put_at (found p) id x n) → ((n : ℕ) → found r n ≡ put_at (found q) id y n)
    → image_of y ≡ page_in p id → (n : ℕ) → page_in r n ≡ page_in p n
page_back p q r id x y one two is n = page_twice p q r id x y (page_in p id) one two is n ∙ put_same (page_in p) id (page_in p id) n refl

pub chain_back : (p q r : KeptPages) (id : ℕ) (x y : Option KeptPage) → ((n : ℕ) → found q n ≡ put_at (found p) id x n) → ((n : ℕ) → found r n ≡ put_at (found q) id y n)
    → links_of y ≡ chain_in p id → (n : ℕ) → chain_in r n ≡ chain_in p n
chain_back p q r id x y one two is n = chain_twice p q r id x y (chain_in p id) one two is n ∙ put_same (chain_in p) id (chain_in p id) n refl

pub roomy_twice : (p q r : KeptPages) (id : ℕ) (x y : Option KeptPage) → ((n : ℕ) → found q n ≡ put_at (found p) id x n) → ((n : ℕ) → found r n ≡ put_at (found q) id y n)
    → room_in p id ≤ room_of y → Roomier p r
roomy_twice p q r id x y one two more = roomy_put p r id y (put_twice (found p) (found q) (found r) id x y one two) more

-- where a chain has room, its page is kept
pub has_room : (pages : KeptPages) (id : ℕ) (k : ℕ) → k < room_in pages id → IsSome (found pages id)
has_room pages id k more = go (found pages id) refl
  where
    go : (o : Option KeptPage) → found pages id ≡ o → IsSome o
    go (Some x) e = refl
    go None e = let z : room_in pages id ≡ 0 = ap room_of e in absurd (omega arith)
