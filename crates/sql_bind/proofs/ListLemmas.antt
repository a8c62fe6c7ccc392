-- Tests of lists that are seen through a view, and lists of lists.
use Rattle.std.proofs.Common.{◌≡◌, ℕ, suc, ◌+◌, ◌<◌, ◌≤◌, List, [], ◌∷◌, ◌++◌, Bool, true, false, cond, ◌||◌, map, take, flat_map, length, drop, get_or, drop-cons, append-nil, append_assoc, add-one, refl, sym, ap, ◌∙◌}
use Rattle.std.specs.List.{list_any, count_by, take-map}
use Rattle.std.proofs.lemmas.List.{drop_all}
use Rattle.std.proofs.lemmas.List.Folds.{list_any-append}
use Rattle.std.proofs.lemmas.List.Sums.{sum_by-cons}

pub any_seen : {X Y : Type 0} (p : Y → Bool) (view : X → Y) (xs : List X) → list_any p (map view xs) ≡ list_any (λ x. p (view x)) xs
any_seen p view [] = refl
any_seen p view (x ∷ xs) = ap (λ b. p (view x) || b) (any_seen p view xs)

pub count_seen : {X Y : Type 0} (p : Y → Bool) (view : X → Y) (xs : List X) → count_by p (map view xs) ≡ count_by (λ x. p (view x)) xs
count_seen p view [] = refl
count_seen p view (x ∷ xs) =
    sum_by-cons (λ y. cond (p y) 1 0) (view x) (map view xs)
    ∙ ap (λ n. cond (p (view x)) 1 0 + n) (count_seen p view xs)
    ∙ sym (sum_by-cons (λ y. cond (p (view y)) 1 0) x xs)

-- a test of a joined list is one of each of its lists
pub any_joined : {X Y : Type 0} (p : Y → Bool) (f : X → List Y) (xs : List X) → list_any p (flat_map f xs) ≡ list_any (λ x. list_any p (f x)) xs
any_joined p f [] = refl
any_joined p f (x ∷ xs) = list_any-append p (f x) (flat_map f xs) ∙ ap (λ b. list_any p (f x) || b) (any_joined p f xs)

-- a loop over a list stops at an item that passes
pub any_stops : {X Y : Type 0} (p : Y → Bool) (view : X → Y) (xs : List X) (i : ℕ) (x : X) → i < length xs → x ≡ get_or xs i x → p (view x) ≡ true
    → list_any p (map view (drop i xs)) ≡ list_any p (map view xs) → true ≡ list_any p (map view xs)
any_stops p view xs i x within is passes rest =
    ap (λ b. b || list_any p (map view (drop (suc i) xs))) (sym passes ∙ ap (λ y. p (view y)) is)
    ∙ ap (λ ys. list_any p (map view ys)) (sym (drop-cons xs i x within))
    ∙ rest

-- and past its end none has passed
pub any_ends : {X Y : Type 0} (p : Y → Bool) (view : X → Y) (xs : List X) (i : ℕ) → length xs ≤ i → list_any p (map view (drop i xs)) ≡ list_any p (map view xs) → false ≡ list_any p (map view xs)
any_ends p view xs i past rest = ap (λ ys. list_any p (map view ys)) (sym (drop_all i xs past)) ∙ rest

-- past its end all items are made
pub all_made : {X Y Z : Type 0} (f : Y → Z) (view : X → Y) (made : List Z) (xs : List X) (i : ℕ) → length xs ≤ i → made ++ map f (map view (drop i xs)) ≡ map f (map view xs) → made ≡ map f (map view xs)
all_made f view made xs i past rest = sym (append-nil made) ∙ ap (λ ys. made ++ map f (map view ys)) (sym (drop_all i xs past)) ∙ rest

-- the first of a list that is seen through a view
pub first_named : {X Y : Type 0} (view : X → Y) (xs : List X) → map view (take 256 xs) ≡ take 256 (map view xs)
first_named view xs = sym (take-map view 256 xs)

-- a test of a list that is seen through two views
pub any_listed : {X Y Z : Type 0} (p : Z → Bool) (f : Y → Z) (view : X → Y) (xs : List X) → list_any p (map f (map view xs)) ≡ list_any (λ x. p (f (view x))) xs
any_listed p f view xs = any_seen p f (map view xs) ∙ any_seen (λ y. p (f y)) view xs

-- the tests of the columns of UPDATE, and of a query
pub any_of_update : {X S C : Type 0} (p : C → Bool) (own : S → C) (read : S → List C) (view : X → S) (xs : List X) (filter : List C)
    → list_any p (map own (map view xs) ++ (flat_map read (map view xs) ++ filter)) ≡ (list_any (λ x. p (own (view x))) xs || (list_any (λ x. list_any p (read (view x))) xs || list_any p filter))
any_of_update p own read view xs filter =
    list_any-append p (map own (map view xs)) (flat_map read (map view xs) ++ filter)
    ∙ ap (λ b. b || list_any p (flat_map read (map view xs) ++ filter)) (any_listed p own view xs)
    ∙ ap (λ b. list_any (λ x. p (own (view x))) xs || b)
    (list_any-append p (flat_map read (map view xs)) filter
    ∙ ap (λ b. b || list_any p filter) (any_joined p read (map view xs) ∙ any_seen (λ s. list_any p (read s)) view xs))

pub any_of_query : {X Y S C : Type 0} (p : C → Bool) (read : S → List C) (view : X → S) (xs : List X) (filter : List C) (column : Y → C) (group : List Y)
    → list_any p (flat_map read (map view xs) ++ (filter ++ map column group)) ≡ (list_any (λ x. list_any p (read (view x))) xs || (list_any p filter || list_any (λ y. p (column y)) group))
any_of_query p read view xs filter column group =
    list_any-append p (flat_map read (map view xs)) (filter ++ map column group)
    ∙ ap (λ b. b || list_any p (filter ++ map column group)) (any_joined p read (map view xs) ∙ any_seen (λ s. list_any p (read s)) view xs)
    ∙ ap (λ b. list_any (λ x. list_any p (read (view x))) xs || b) (list_any-append p filter (map column group) ∙ ap (λ b. list_any p filter || b) (any_seen p column group))

-- what is left of a list at an item
pub next_of : {X : Type 0} (xs : List X) (i : ℕ) (x : X) → i < length xs → get_or xs i x ∷ drop (i + 1) xs ≡ drop i xs
next_of xs i x within = ap (λ k. get_or xs i x ∷ drop k xs) (add-one i) ∙ sym (drop-cons xs i x within)

-- one more item is made, of those that are left
pub one_more : {X Z : Type 0} (left : List X → List Z) (made new whole : List Z) (z : Z) (xs : List X) (i : ℕ) (x : X) → i < length xs → x ≡ get_or xs i x → new ≡ made ++ (z ∷ [])
    → ((ys : List X) → z ∷ left ys ≡ left (x ∷ ys)) → made ++ left (drop i xs) ≡ whole → new ++ left (drop (i + 1) xs) ≡ whole
one_more left made new whole z xs i x within is added head rest =
    ap (λ zs. zs ++ left (drop (i + 1) xs)) added
    ∙ append_assoc made (z ∷ []) (left (drop (i + 1) xs))
    ∙ ap (λ zs. made ++ zs) (head (drop (i + 1) xs))
    ∙ ap (λ y. made ++ left (y ∷ drop (i + 1) xs)) is
    ∙ ap (λ ys. made ++ left ys) (next_of xs i x within)
    ∙ rest

-- none is left
pub no_more : {X Z : Type 0} (left : List X → List Z) (made whole : List Z) (xs : List X) (i : ℕ) → left [] ≡ [] → length xs ≤ i → made ++ left (drop i xs) ≡ whole → made ≡ whole
no_more left made whole xs i none past rest = sym (append-nil made) ∙ ap (λ zs. made ++ zs) (sym none) ∙ ap (λ ys. made ++ left ys) (sym (drop_all i xs past)) ∙ rest

-- one more item, as it is seen
one_seen : {W Z : Type 0} (seen : W → Z) (made : List W) (w : W) → map seen (made ++ (w ∷ [])) ≡ map seen made ++ (seen w ∷ [])
one_seen seen [] w = refl
one_seen seen (m ∷ ms) w = ap (λ zs. seen m ∷ zs) (one_seen seen ms w)

pub seen_too : {W Z : Type 0} (seen : W → Z) (made new : List W) (w : W) → new ≡ made ++ (w ∷ []) → map seen new ≡ map seen made ++ (seen w ∷ [])
seen_too seen made new w added = ap (map seen) added ∙ one_seen seen made w

-- a loop over a list goes on past an item that does not pass
pub any_goes_on : {X : Type 0} (left : List X → Bool) (whole : Bool) (xs : List X) (i : ℕ) (x : X) → i < length xs → x ≡ get_or xs i x
    → ((ys : List X) → left (x ∷ ys) ≡ left ys) → left (drop i xs) ≡ whole → left (drop (i + 1) xs) ≡ whole
any_goes_on left whole xs i x within is head rest = sym (head (drop (i + 1) xs)) ∙ ap (λ y. left (y ∷ drop (i + 1) xs)) is ∙ ap left (next_of xs i x within) ∙ rest
