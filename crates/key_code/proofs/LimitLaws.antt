-- A size that is told as 2^64 - 1 from there on, against a limit.
use Rattle.std.proofs.Common.{◌≡◌, ℕ, ◌-◌, ◌^◌, ◌<◌, min, nat_lt, sym, subst, arith, lit<}
use Rattle.std.proofs.lemmas.Bool.Decides.{same_from_decides, Decides-like, Decides-ltb}

past_cap : (size cap limit : ℕ) → limit < cap → nat_lt limit (min size cap) ≡ nat_lt limit size
past_cap size cap limit below =
    let told : limit < min size cap → limit < size = λ p. omega arith in
    let is : limit < size → limit < min size cap = λ p. omega arith in
    same_from_decides {P = limit < size} (nat_lt limit (min size cap)) (nat_lt limit size)
    (Decides-like {P = limit < min size cap} {Q = limit < size} (nat_lt limit (min size cap)) told is (Decides-ltb limit (min size cap)))
    (Decides-ltb limit size)

pub past_row : (size told : ℕ) → told ≡ min size (2 ^ 64 - 1) → nat_lt 1600 told ≡ nat_lt 1600 size
past_row size told is = subst (λ t. nat_lt 1600 t ≡ nat_lt 1600 size) (sym is) (past_cap size (2 ^ 64 - 1) 1600 (lit< tt))

pub past_key : (size told : ℕ) → told ≡ min size (2 ^ 64 - 1) → nat_lt 512 told ≡ nat_lt 512 size
past_key size told is = subst (λ t. nat_lt 512 t ≡ nat_lt 512 size) (sym is) (past_cap size (2 ^ 64 - 1) 512 (lit< tt))
