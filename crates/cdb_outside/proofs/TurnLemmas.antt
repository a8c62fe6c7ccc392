-- One more turn of a loop that reads or writes.
use Rattle.std.proofs.Common.{ℕ, ◌+◌, ◌-◌, length, List, ◌++◌, take, drop, sym, subst, Option}
use Rattle.std.specs.Io.KnownBytes.{Appends, Consumes}
use Rattle.std.proofs.Math.Seq.{take-add}
use Rattle.std.proofs.lemmas.List.{take_rest}
use Rattle.std.proofs.KnownBytes.{Appends-trans, Consumes-trans}
use Rattle.cdb_outside.specs.Parts.{ConsumesSome}

-- a write of m more bytes
pub writes_more : (a b c : Option (List ℕ)) (bytes : List ℕ) (n m : ℕ)
    → Appends a b (take n bytes) → Appends b c (take m (take (length bytes - n) (drop n bytes)))
    → Appends a c (take (n + m) bytes)
writes_more a b c bytes n m first second =
    let rest : Appends b c (take m (drop n bytes)) = subst (λ r. Appends b c (take m r)) (take_rest bytes n) second in
    subst (Appends a c) (sym (take-add n m bytes)) (Appends-trans a b c _ _ first rest)

-- a read after others
pub consumes_more : (a b c : Option (List ℕ)) (xs ys : List ℕ)
    → Consumes a b xs → Consumes b c ys → ConsumesSome a c
consumes_more a b c xs ys first second = (xs ++ ys, Consumes-trans a b c xs ys first second)
