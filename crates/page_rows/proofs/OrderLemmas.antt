-- The byte order of the codes of values, with a genid or nothing behind them.
use Rattle.std.proofs.Common.{◌≡◌, ℕ, zero, suc, ◌/◌, ◌^◌, ◌<◌, true, false, List, [], ◌∷◌, ◌++◌, length, refl, sym, ap, ◌∙◌, append_assoc, arith}
use Rattle.std.proofs.Math.Nat.{mod-lt}
use Rattle.std.proofs.lemmas.Bool.{false≢true}
use Rattle.std.proofs.lemmas.List.{append-nil}
use Rattle.std.specs.Int.{byte_at, bytes_high_first}
use Rattle.std.specs.List.{AllByRecursion}
use Rattle.std.specs.declared.cmp.Ordering.{Ordering}
use Rattle.std.specs.declared.cmp.Ordering.TheVariants.{Less, Equal, Greater}
use Rattle.std.specs.Ordering.{nat_cmp, ordering_then, is_lt, is_le, is_gt, is_ge}
use Rattle.byteorder.specs.Endian.{big_bytes}
use Rattle.byteorder.specs.Numbers.{length-bytes_high_first}
use Rattle.cdb_values.specs.Order.{value_order}
use Rattle.cdb_values.specs.declared.values.Value.{Value}
use Rattle.cdb_values.specs.declared.values.Value.TheVariants.{Null, Int, Text, Blob}
use Rattle.key_code.specs.Codes.{key_value, key_code, IsInRange}
use Rattle.key_code.proofs.NumberLaws.{byte_order, less, equal, Trichotomy, trichotomy, before as is_less, same as is_same, after as is_more}
use Rattle.key_code.proofs.ValueLaws.{key_keeps}
use Rattle.page_rows.specs.Bounds.{beyond, IsTail}

pub no_tail : IsTail []
no_tail = record { small = tt; short = omega arith }

byte_small : (k n : ℕ) → byte_at k n < 256
byte_small zero n = mod-lt n (omega arith)
byte_small (suc k) n = mod-lt (n / 256 ^ suc k) (omega arith)

bytes_small : (k n : ℕ) → AllByRecursion (λ b. b < 256) (bytes_high_first k n)
bytes_small zero n = tt
bytes_small (suc k) n = (byte_small k n, bytes_small k n)

pub genid_tail : (genid : ℕ) → IsTail (big_bytes 8 genid)
genid_tail genid =
    let long : length (big_bytes 8 genid) ≡ 8 = length-bytes_high_first 8 genid in
    record { small = bytes_small 8 genid; short = omega (arith, long) }

tops : ℕ → List ℕ
tops zero = []
tops (suc n) = 255 ∷ tops n

below_tops : (bytes : List ℕ) (n : ℕ) → AllByRecursion (λ b. b < 256) bytes → length bytes < n → byte_order bytes (tops n) ≡ Less
unfolding tops
below_tops [] zero h l = absurd (none l)
  where
    none : 0 < 0 → ⊥
    none l = omega arith
below_tops [] (suc n) h l = refl
below_tops (b ∷ bs) zero h l = absurd (none (length bs) l)
  where
    none : (m : ℕ) → suc m < 0 → ⊥
    none m l = omega arith
below_tops (b ∷ bs) (suc n) h l = go (below_tops bs n h.1 (omega arith)) (trichotomy b 255)
  where
    past : b < 256 → 255 < b → ⊥
    past h k = omega arith

    go : byte_order bs (tops n) ≡ Less → Trichotomy b 255 → ordering_then (nat_cmp b 255) (byte_order bs (tops n)) ≡ Less
    go ih (is_less k) = ap (λ o. ordering_then o (byte_order bs (tops n))) (less b 255 k)
    go ih (is_same k) = ap (λ o. ordering_then o (byte_order bs (tops n))) (equal b 255 k) ∙ ih
    go ih (is_more k) = absurd (past h.0 k)

nine : tops 9 ≡ beyond
unfolding tops
nine = refl

-- values, and what stands behind their code, come before what is beyond
pub under_beyond : (values : List Value) (tail : List ℕ) → IsTail tail → byte_order (key_code values ++ tail) beyond ≡ Less
under_beyond [] tail t = ap (byte_order tail) (sym nine) ∙ below_tops tail 9 t.small t.short
under_beyond (Null ∷ vs) tail t = refl
under_beyond (Int x ∷ vs) tail t = refl
under_beyond (Text x ∷ vs) tail t = refl
under_beyond (Blob x ∷ vs) tail t = refl

-- nothing comes before no bytes
pub none_under : (bytes : List ℕ) → is_lt (byte_order bytes []) ≡ false
none_under [] = refl
none_under (b ∷ bs) = refl

-- the value in front, and the first byte behind it
pub first_order : (v w : Value) (values : List Value) (tail others : List ℕ) → IsInRange v → IsInRange w
    → byte_order (key_code (v ∷ values) ++ tail) (key_value w ++ others) ≡ ordering_then (value_order v w) (byte_order (key_code values ++ tail) others)
first_order v w values tail others h k =
    ap (λ l. byte_order l (key_value w ++ others)) (append_assoc (key_value v) (key_code values) tail)
    ∙ key_keeps v w (key_code values ++ tail) others h k

then_ge : (o p : Ordering) → is_ge o ≡ true → is_lt p ≡ false → is_lt (ordering_then o p) ≡ false
then_ge Less p h k = absurd (false≢true h)
then_ge Equal p h k = k
then_ge Greater p h k = refl

then_gt : (o p : Ordering) → is_gt o ≡ true → is_lt (ordering_then o p) ≡ false
then_gt Less p h = absurd (false≢true h)
then_gt Equal p h = absurd (false≢true h)
then_gt Greater p h = refl

then_le : (o p : Ordering) → is_le o ≡ true → p ≡ Less → is_lt (ordering_then o p) ≡ true
then_le Less p h k = refl
then_le Equal p h k = ap is_lt k
then_le Greater p h k = absurd (false≢true h)

then_lt : (o p : Ordering) → is_lt o ≡ true → is_lt (ordering_then o p) ≡ true
then_lt Less p h = refl
then_lt Equal p h = absurd (false≢true h)
then_lt Greater p h = absurd (false≢true h)

-- a value that is at least another: not before the other's code
pub from_value : (v w : Value) (values : List Value) (tail : List ℕ) → IsInRange v → IsInRange w → is_ge (value_order v w) ≡ true
    → is_lt (byte_order (key_code (v ∷ values) ++ tail) (key_value w)) ≡ false
from_value v w values tail h k g =
    ap (λ l. is_lt (byte_order (key_code (v ∷ values) ++ tail) l)) (sym (append-nil (key_value w)))
    ∙ ap is_lt (first_order v w values tail [] h k)
    ∙ then_ge (value_order v w) (byte_order (key_code values ++ tail) []) g (none_under (key_code values ++ tail))

-- a value above another: not before anything that begins with the other's code
pub above_value : (v w : Value) (values : List Value) (tail others : List ℕ) → IsInRange v → IsInRange w → is_gt (value_order v w) ≡ true
    → is_lt (byte_order (key_code (v ∷ values) ++ tail) (key_value w ++ others)) ≡ false
above_value v w values tail others h k g =
    ap is_lt (first_order v w values tail others h k) ∙ then_gt (value_order v w) (byte_order (key_code values ++ tail) others) g

-- a value that is at most another: before what is beyond the other's code
pub to_value : (v w : Value) (values : List Value) (tail : List ℕ) → IsTail tail → IsInRange v → IsInRange w → is_le (value_order v w) ≡ true
    → is_lt (byte_order (key_code (v ∷ values) ++ tail) (key_value w ++ beyond)) ≡ true
to_value v w values tail t h k g =
    ap is_lt (first_order v w values tail beyond h k)
    ∙ then_le (value_order v w) (byte_order (key_code values ++ tail) beyond) g (under_beyond values tail t)

-- a value below another: before the other's code
pub below_value : (v w : Value) (values : List Value) (tail : List ℕ) → IsInRange v → IsInRange w → is_lt (value_order v w) ≡ true
    → is_lt (byte_order (key_code (v ∷ values) ++ tail) (key_value w)) ≡ true
below_value v w values tail h k g =
    ap (λ l. is_lt (byte_order (key_code (v ∷ values) ++ tail) l)) (sym (append-nil (key_value w)))
    ∙ ap is_lt (first_order v w values tail [] h k)
    ∙ then_lt (value_order v w) (byte_order (key_code values ++ tail) []) g

-- the same values in front do not decide
pub same_first : (v w : Value) (values : List Value) (tail others : List ℕ) → IsInRange v → IsInRange w → value_order v w ≡ Equal
    → byte_order (key_code (v ∷ values) ++ tail) (key_value w ++ others) ≡ byte_order (key_code values ++ tail) others
same_first v w values tail others h k e =
    first_order v w values tail others h k ∙ ap (λ o. ordering_then o (byte_order (key_code values ++ tail) others)) e
