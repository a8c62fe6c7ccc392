-- The bytes of numbers, and their order.
use Rattle.std.proofs.Common.{◌≡◌, ℕ, zero, suc, ◌+◌, ◌*◌, ◌/◌, ◌%◌, ◌^◌, ◌<◌, ◌≤◌, List, ◌++◌, refl, sym, ap, ◌∙◌, subst, arith}
use Rattle.std.proofs.Math.Nat.{add-mul, add_assoc, div-add-mod', div-one, mod-eq_of_lt, mod-lt, mul-add-mod_self_right, mul-le-mul_right, mul_assoc, one-le-pow, pow-succ'}
use Rattle.std.proofs.lemmas.Bool.Decides.{nat_tests}
use Rattle.std.specs.Int.{byte_at, bytes_high_first}
use Rattle.std.specs.declared.cmp.Ordering.{Ordering}
use Rattle.std.specs.declared.cmp.Ordering.TheVariants.{Less, Equal, Greater}
use Rattle.std.specs.Ordering.{nat_cmp, ordering_then}
use Rattle.std.specs.Cmp.Lexicographic.{slice_cmp}

-- the order of bytes
abbrev pub byte_order : List ℕ → List ℕ → Ordering
byte_order xs ys = slice_cmp nat_cmp xs ys

pub less : (a b : ℕ) → a < b → nat_cmp a b ≡ Less
less a b h = grind (arith, nat_tests)

pub greater : (a b : ℕ) → b < a → nat_cmp a b ≡ Greater
greater a b h = grind (arith, nat_tests)

pub equal : (a b : ℕ) → a ≡ b → nat_cmp a b ≡ Equal
equal a b h = grind (arith, nat_tests)

pub then_assoc : (o p q : Ordering) → ordering_then (ordering_then o p) q ≡ ordering_then o (ordering_then p q)
then_assoc Less p q = refl
then_assoc Equal p q = refl
then_assoc Greater p q = refl

-- two numbers are in one of three orders
pub data Trichotomy (a b : ℕ) : Type 0 where
  before : a < b → Trichotomy a b
  same : a ≡ b → Trichotomy a b
  after : b < a → Trichotomy a b

pub trichotomy : (a b : ℕ) → Trichotomy a b
trichotomy zero zero = same refl
trichotomy zero (suc b) = before (omega arith)
trichotomy (suc a) zero = after (omega arith)
trichotomy (suc a) (suc b) =
    elim (trichotomy a b) [ before h ↦ before (omega arith) | same h ↦ same (omega arith) | after h ↦ after (omega arith) ]

-- a place decides before what is below it
pub place_order : (x y p q c : ℕ) → p < c → q < c → nat_cmp (x * c + p) (y * c + q) ≡ ordering_then (nat_cmp x y) (nat_cmp p q)
place_order x y p q c hp hq = elim (trichotomy x y) [
  | before h ↦
      let up : (x + 1) * c ≤ y * c = mul-le-mul_right c (omega arith) in
      let e : (x + 1) * c ≡ x * c + 1 * c = add-mul x 1 c in
      less (x * c + p) (y * c + q) (omega arith) ∙ sym (ap (λ o. ordering_then o (nat_cmp p q)) (less x y h))
  | same h ↦
      subst (λ z. nat_cmp (x * c + p) (z * c + q) ≡ ordering_then (nat_cmp x z) (nat_cmp p q)) h (even x p q c)
  | after h ↦
      let up : (y + 1) * c ≤ x * c = mul-le-mul_right c (omega arith) in
      let e : (y + 1) * c ≡ y * c + 1 * c = add-mul y 1 c in
      greater (x * c + p) (y * c + q) (omega arith) ∙ sym (ap (λ o. ordering_then o (nat_cmp p q)) (greater x y h))
]
  where
    even : (x p q c : ℕ) → nat_cmp (x * c + p) (x * c + q) ≡ ordering_then (nat_cmp x x) (nat_cmp p q)
    even x p q c =
        elim (trichotomy p q) [
          | before h ↦ less (x * c + p) (x * c + q) (omega arith) ∙ sym (less p q h) ∙ sym (ap (λ o. ordering_then o (nat_cmp p q)) (equal x x refl))
          | same h ↦ equal (x * c + p) (x * c + q) (omega arith) ∙ sym (equal p q h) ∙ sym (ap (λ o. ordering_then o (nat_cmp p q)) (equal x x refl))
          | after h ↦ greater (x * c + p) (x * c + q) (omega arith) ∙ sym (greater p q h) ∙ sym (ap (λ o. ordering_then o (nat_cmp p q)) (equal x x refl))
        ]

-- the two low digits of n, to the bases c and then m
mod-split : (n : ℕ) {m c : ℕ} → zero < m → zero < c → n % (m * c) ≡ (n / c % m) * c + n % c
mod-split n {m} {c} hm hc =
    let a = mod-lt (n / c) hm in
    let b = mod-lt n hc in
    let top : (n / c % m + 1) * c ≤ m * c = mul-le-mul_right c (omega arith) in
    let expand : (n / c % m + 1) * c ≡ n / c % m * c + 1 * c = add-mul (n / c % m) 1 c in
    let split : n ≡ n / c / m * (m * c) + (n / c % m * c + n % c) =
    sym (div-add-mod' n c)
    ∙ ap (λ (x : ℕ). x * c + n % c) (sym (div-add-mod' (n / c) m))
    ∙ ap (λ (x : ℕ). x + n % c) (add-mul (n / c / m * m) (n / c % m) c ∙ ap (λ (x : ℕ). x + n / c % m * c) (mul_assoc (n / c / m) m c))
    ∙ add_assoc (n / c / m * (m * c)) (n / c % m * c) (n % c) in
    ap (λ (x : ℕ). x % (m * c)) split ∙ mul-add-mod_self_right (n / c / m) (m * c) (n / c % m * c + n % c) ∙ mod-eq_of_lt (omega arith)

byte_at-pow : (k x : ℕ) → byte_at k x ≡ x / 256 ^ k % 256
byte_at-pow zero x = ap (λ (y : ℕ). y % 256) (sym (div-one x))
byte_at-pow (suc k) x = refl

pow_pos256 : (n : ℕ) → zero < 256 ^ n
pow_pos256 n = let h = one-le-pow n 256 (omega arith) in omega arith

-- one more byte in front
digits_more : (n x : ℕ) → x % 256 ^ suc n ≡ byte_at n x * 256 ^ n + x % 256 ^ n
digits_more n x =
    let split = mod-split x {m = 256} {c = 256 ^ n} (omega arith) (pow_pos256 n) in
    rw (pow-succ' 256 n, byte_at-pow n x) split

-- the order of numbers is that of their bytes, highest first
pub digits_order : (n x y : ℕ) (ps qs : List ℕ)
    → byte_order (bytes_high_first n x ++ ps) (bytes_high_first n y ++ qs)
    ≡ ordering_then (nat_cmp (x % 256 ^ n) (y % 256 ^ n)) (byte_order ps qs)
digits_order zero x y ps qs = sym (ap (λ o. ordering_then o (byte_order ps qs)) (equal (x % 1) (y % 1) (omega arith)))
digits_order (suc n) x y ps qs =
    let low = digits_order n x y ps qs in
    let top = place_order (byte_at n x) (byte_at n y) (x % 256 ^ n) (y % 256 ^ n) (256 ^ n) (mod-lt x (pow_pos256 n)) (mod-lt y (pow_pos256 n)) in
    ap (ordering_then (nat_cmp (byte_at n x) (byte_at n y))) low
    ∙ sym (then_assoc (nat_cmp (byte_at n x) (byte_at n y)) (nat_cmp (x % 256 ^ n) (y % 256 ^ n)) (byte_order ps qs))
    ∙ ap (λ o. ordering_then o (byte_order ps qs)) (sym top ∙ sym (cmp_both (digits_more n x) (digits_more n y)))
  where
    cmp_both : {a b c d : ℕ} → a ≡ b → c ≡ d → nat_cmp a c ≡ nat_cmp b d
    cmp_both {a} {b} {c} {d} e f = ap (λ z. nat_cmp z c) e ∙ ap (nat_cmp b) f
