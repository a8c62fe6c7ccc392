-- A write that is taken out before others.
use Rattle.std.proofs.Common.{◌≡◌, ℕ, zero, suc, ◌+◌, ◌<◌, List, [], ◌∷◌, ◌++◌, refl, ap, ◌∙◌, sym, length, take, drop, arith}
use Rattle.cdb_values.specs.declared.rows.RowOp.{RowOp}

next : (n : ℕ) → suc n + 1 ≡ suc (n + 1)
next n = omega arith

-- a write that is taken out of those before others
pub taken_out : (ops more : List RowOp) (at : ℕ) → at < length ops → take at (ops ++ more) ++ drop (at + 1) (ops ++ more) ≡ (take at ops ++ drop (at + 1) ops) ++ more
taken_out [] more at within = absurd (omega (arith, within))
taken_out (x ∷ ops) more zero within = refl
taken_out (x ∷ ops) more (suc at) within =
    ap (λ n. take (suc at) (x ∷ ops ++ more) ++ drop n (x ∷ ops ++ more)) (next at)
    ∙ ap (λ (l : List RowOp). x ∷ l) (taken_out ops more at (omega (arith, within)))
    ∙ ap (λ n. (take (suc at) (x ∷ ops) ++ drop n (x ∷ ops)) ++ more) (sym (next at))
