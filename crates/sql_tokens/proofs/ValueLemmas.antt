-- Lemmas for the loops over the bytes of a number, a text and a blob.
use Rattle.std.proofs.Common.{◌≡◌, ℕ, ◌+◌, ◌-◌, ◌*◌, ◌<◌, ◌≤◌, true, false, List, [], ◌∷◌, ◌++◌, length, Option, Some, None, refl, sym, ◌∙◌, ap, append_assoc, append-nil, arith}
use Rattle.sql_tokens.specs.Letters.{is_quote, next_is, hex_byte}
use Rattle.sql_tokens.specs.Values.{largest, value_from}
use Rattle.sql_tokens.specs.Reading.{copied, with_byte, with_all, text_from, blob_from}
use Rattle.sql_tokens.specs.declared.found.Copied.{Copied}

-- digits make a number no smaller
pub value_grows : (n : ℕ) (ds : List ℕ) → n ≤ value_from n ds
value_grows n [] = omega arith
value_grows n (d ∷ ds) = let h : 10 * n + (d - 48) ≤ value_from (10 * n + (d - 48)) ds = value_grows (10 * n + (d - 48)) ds in omega arith

pub value_stays_large : (n : ℕ) (ds : List ℕ) → largest < n → largest < value_from n ds
value_stays_large n ds h = let g : n ≤ value_from n ds = value_grows n ds in omega arith

pub with_more : (bs : List ℕ) (b : ℕ) (c : Option Copied) → with_all bs (with_byte b c) ≡ with_all (bs ++ b ∷ []) c
with_more bs b None = refl
with_more bs b (Some c) = ap (λ x. Some (copied x c.left)) (sym (append_assoc bs (b ∷ []) c.bytes))

-- a character other than a quote
pub text_other : (c : ℕ) (bs : List ℕ) → is_quote c ≡ false → text_from (c ∷ bs) ≡ with_byte c (text_from bs)
unfolding text_from
text_other c [] h = rw h refl
text_other c (d ∷ bs) h = rw h refl

-- two quotes
pub text_doubled : (c d : ℕ) (bs : List ℕ) → is_quote c ≡ true → is_quote d ≡ true → text_from (c ∷ d ∷ bs) ≡ with_byte c (text_from bs)
unfolding text_from
text_doubled c d bs h k = rw (h, k) refl

-- the quote at the end
pub text_closed : (c : ℕ) (bs : List ℕ) → is_quote c ≡ true → next_is is_quote bs ≡ false → text_from (c ∷ bs) ≡ Some (copied [] (length bs))
unfolding text_from
text_closed c [] h k = rw h refl
text_closed c (d ∷ bs) h k = rw (h, k) refl

-- the end of the bytes
pub text_open : text_from [] ≡ None
unfolding text_from
text_open = refl

-- two digits of a blob
pub blob_pair : (h l b : ℕ) (bs : List ℕ) → is_quote h ≡ false → Some b ≡ hex_byte h l → blob_from (h ∷ l ∷ bs) ≡ with_byte b (blob_from bs)
unfolding blob_from
blob_pair h l b bs q x = rw q (rw (← x) refl)

-- two bytes that are not two digits
pub blob_no_pair : (h l : ℕ) (bs : List ℕ) → is_quote h ≡ false → None ≡ hex_byte h l → blob_from (h ∷ l ∷ bs) ≡ None
unfolding blob_from
blob_no_pair h l bs q x = rw q (rw (← x) refl)

-- the quote at the end of a blob
pub blob_closed : (h : ℕ) (bs : List ℕ) → is_quote h ≡ true → blob_from (h ∷ bs) ≡ Some (copied [] (length bs))
unfolding blob_from
blob_closed h [] q = rw q refl
blob_closed h (l ∷ bs) q = rw q refl

-- one digit alone
pub blob_single : (h : ℕ) → is_quote h ≡ false → blob_from (h ∷ []) ≡ None
unfolding blob_from
blob_single h q = rw q refl

pub blob_open : blob_from [] ≡ None
unfolding blob_from
blob_open = refl

-- steps of the loop over a text: a character, a doubled quote, the last quote, the end of the bytes
pub text_turn : (all rest behind items new : List ℕ) (c : ℕ) → rest ≡ c ∷ behind → is_quote c ≡ false → new ≡ items ++ c ∷ [] → with_all items (text_from rest) ≡ text_from all → with_all new (text_from behind) ≡ text_from all
text_turn all rest behind items new c e q n h = ap (λ x. with_all x (text_from behind)) n ∙ (sym (with_more items c (text_from behind)) ∙ (ap (with_all items) (sym (ap text_from e ∙ text_other c behind q)) ∙ h))

pub text_doubled_turn : (all rest behind further items new : List ℕ) (c : ℕ) → rest ≡ c ∷ behind → behind ≡ 39 ∷ further → is_quote c ≡ true → new ≡ items ++ c ∷ [] → with_all items (text_from rest) ≡ text_from all → with_all new (text_from further) ≡ text_from all
text_doubled_turn all rest behind further items new c e f q n h = ap (λ x. with_all x (text_from further)) n ∙ (sym (with_more items c (text_from further)) ∙ (ap (with_all items) (sym (ap text_from (e ∙ ap (λ x. c ∷ x) f) ∙ text_doubled c 39 further q refl)) ∙ h))

pub text_last : (all rest behind items : List ℕ) (c : ℕ) → rest ≡ c ∷ behind → is_quote c ≡ true → next_is is_quote behind ≡ false → with_all items (text_from rest) ≡ text_from all → Some (copied items (length behind)) ≡ text_from all
text_last all rest behind items c e q n h = sym (ap (λ x. Some (copied x (length behind))) (append-nil items)) ∙ (sym (ap (with_all items) (ap text_from e ∙ text_closed c behind q n)) ∙ h)

pub text_never : (all rest items : List ℕ) → rest ≡ [] → with_all items (text_from rest) ≡ text_from all → None ≡ text_from all
text_never all rest items e h = sym (ap (with_all items) (ap text_from e ∙ text_open)) ∙ h

-- steps of the loop over a blob: two digits, two that spell no byte, the last quote, the end of the bytes
pub blob_turn : (all rest behind further items new : List ℕ) (h l b : ℕ) → rest ≡ h ∷ behind → behind ≡ l ∷ further → is_quote h ≡ false → Some b ≡ hex_byte h l → new ≡ items ++ b ∷ [] → with_all items (blob_from rest) ≡ blob_from all → with_all new (blob_from further) ≡ blob_from all
blob_turn all rest behind further items new h l b e f q x n i = ap (λ y. with_all y (blob_from further)) n ∙ (sym (with_more items b (blob_from further)) ∙ (ap (with_all items) (sym (ap blob_from (e ∙ ap (λ y. h ∷ y) f) ∙ blob_pair h l b further q x)) ∙ i))

pub blob_wrong : (all rest behind further items : List ℕ) (h l : ℕ) → rest ≡ h ∷ behind → behind ≡ l ∷ further → is_quote h ≡ false → None ≡ hex_byte h l → with_all items (blob_from rest) ≡ blob_from all → None ≡ blob_from all
blob_wrong all rest behind further items h l e f q x i = sym (ap (with_all items) (ap blob_from (e ∙ ap (λ y. h ∷ y) f) ∙ blob_no_pair h l further q x)) ∙ i

pub blob_last : (all rest behind items : List ℕ) (h : ℕ) → rest ≡ h ∷ behind → is_quote h ≡ true → with_all items (blob_from rest) ≡ blob_from all → Some (copied items (length behind)) ≡ blob_from all
blob_last all rest behind items h e q i = sym (ap (λ x. Some (copied x (length behind))) (append-nil items)) ∙ (sym (ap (with_all items) (ap blob_from e ∙ blob_closed h behind q)) ∙ i)

pub blob_odd : (all rest behind items : List ℕ) (h : ℕ) → rest ≡ h ∷ behind → behind ≡ [] → is_quote h ≡ false → with_all items (blob_from rest) ≡ blob_from all → None ≡ blob_from all
blob_odd all rest behind items h e f q i = sym (ap (with_all items) (ap blob_from (e ∙ ap (λ y. h ∷ y) f) ∙ blob_single h q)) ∙ i

pub blob_never : (all rest items : List ℕ) → rest ≡ [] → with_all items (blob_from rest) ≡ blob_from all → None ≡ blob_from all
blob_never all rest items e i = sym (ap (with_all items) (ap blob_from e ∙ blob_open)) ∙ i

-- a length of 0 is that of the empty list
pub empty_of : (xs : List ℕ) → length xs ≡ 0 → xs ≡ []
empty_of [] e = refl
empty_of (x ∷ xs) e = absurd (omega arith)
