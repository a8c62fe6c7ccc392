-- Fronts of a list of bytes: what a source in memory gives, and what a halted store keeps.
use Rattle.std.proofs.Common.{◌≡◌, ℕ, ◌+◌, ◌-◌, ◌<◌, ◌≤◌, List, [], ◌++◌, length, take, drop, min, ap, subst, sym, ◌∙◌, arith, length-drop}
use Rattle.std.proofs.lemmas.Grind.{common_steps}
use Rattle.std.proofs.lemmas.List.{take_min, take_rest, drop-drop, take-append-drop}
use Rattle.std.proofs.Math.ListN.{drop_of_length-le}
use Rattle.std.proofs.Math.Seq.{take-add}

-- after the first `s` bytes, `keeps` of the others or all of them
pub take-kept : (s keeps : ℕ) (bytes : List ℕ)
    → take (s + min keeps (length bytes - s)) bytes ≡ take s bytes ++ take keeps (drop s bytes)
take-kept s keeps bytes =
    take-add s (min keeps (length bytes - s)) bytes
    ∙ ap (λ xs. take s bytes ++ xs)
    (subst (λ n. take (min keeps n) (drop s bytes) ≡ take keeps (drop s bytes)) (length-drop s bytes) (take_min keeps (drop s bytes)))

pub take-own : (n : ℕ) (bytes : List ℕ) → take n (take n bytes) ≡ take n bytes
take-own n bytes = grind (arith, common_steps)

pub drop-own : (n : ℕ) (bytes : List ℕ) → drop n (take n bytes) ≡ []
drop-own n bytes = grind (arith, common_steps)

-- the bytes past the first `given` are the n next ones, as they were shown, and the rest
pub split_next : (bytes shown : List ℕ) (given n : ℕ)
    → shown ≡ take n (take (length bytes - given) (drop given bytes))
    → drop given bytes ≡ shown ++ drop (given + n) bytes
split_next bytes shown given n copied =
    let next : shown ≡ take n (drop given bytes) = copied ∙ ap (take n) (take_rest bytes given) in
    sym (take-append-drop n (drop given bytes))
    ∙ ap (λ xs. take n (drop given bytes) ++ xs) (drop-drop n given bytes)
    ∙ ap (λ xs. xs ++ drop (given + n) bytes) (sym next)

-- none is given into a buffer with room only where none is left
pub ends : (bytes : List ℕ) (given n room : ℕ)
    → n ≡ min room (length (take (length bytes - given) (drop given bytes))) → n ≡ 0 → 0 < room
    → drop (given + n) bytes ≡ []
ends bytes given n room count none some =
    let left : length (take (length bytes - given) (drop given bytes)) ≡ length bytes - given =
    ap length (take_rest bytes given) ∙ length-drop given bytes in
    let past : length bytes ≤ given + n = omega arith in
    drop_of_length-le bytes past
