-- Fronts of pending bytes and new ones: what an append that failed leaves.
use Rattle.std.proofs.Common.{◌≡◌, ◌≤◌, ℕ, ◌+◌, ◌++◌, List, Result, Ok, Err, OnErr, length, take, drop, take_all, ap, sym, ◌∙◌, arith}
use Rattle.std.proofs.Math.Seq.{take-add, take-append_seam, drop-append_seam}
use Rattle.cdb_outside.specs.Parts.{IsFront, IsFrontFrom}

pub front_kept : (waiting bytes : List ℕ) → IsFront waiting (waiting ++ bytes)
front_kept waiting bytes = (length waiting, sym (take-append_seam waiting bytes))

pub front_part : (n : ℕ) (waiting bytes : List ℕ) → IsFront (waiting ++ take n bytes) (waiting ++ bytes)
front_part n waiting bytes = (
  length waiting + n,
  sym (take-add (length waiting) n (waiting ++ bytes)
      ∙ ap (λ xs. xs ++ take n (drop (length waiting) (waiting ++ bytes))) (take-append_seam waiting bytes)
      ∙ ap (λ xs. waiting ++ take n xs) (drop-append_seam waiting bytes)),
)

-- the whole is a front of itself
pub front_whole : (bytes : List ℕ) → IsFront bytes bytes
front_whole bytes = (length bytes, sym (take_all (length bytes) bytes (omega arith)))

pub front_from_whole : (at : ℕ) (bytes : List ℕ) → at ≤ length bytes → IsFrontFrom at bytes bytes
front_from_whole at bytes within = (length bytes, within, sym (take_all (length bytes) bytes (omega arith)))

-- what holds anyway holds where a call failed
pub on_err : {T E : Type 0} {P : Type 0} (r : Result T E) → P → OnErr r P
on_err (Ok x) p = tt
on_err (Err e) p = p
