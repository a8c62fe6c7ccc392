-- The step at the front of the bytes: what it finds is a token, each token is found, and where it finds none none begins.
use Rattle.std.proofs.Common.{◌≡◌, ℕ, ◌+◌, ◌-◌, ◌<◌, ◌≤◌, Bool, true, false, ◌||◌, cond, List, [], ◌∷◌, ◌++◌, length, take, drop, Option, Some, None, refl, sym, ◌∙◌, ap, subst, arith, option_map, inl, inr, ◌⊎◌, append_assoc, eqb, eqb-true, length-append}
use Rattle.std.specs.List.{prefix_len}
use Rattle.std.specs.Char.{is_ascii_digit}
use Rattle.std.proofs.lemmas.Bool.Decides.{nat_tests}
use Rattle.std.proofs.lemmas.List.Folds.{length-prefix_len}
use Rattle.std.proofs.lemmas.List.{take-append-drop}
use Rattle.sql_tokens.specs.Letters.{is_blank, is_word_start, is_word_byte, is_quote, is_x, begins_blob}
use Rattle.sql_tokens.specs.Values.{quoted}
use Rattle.sql_tokens.specs.Signs.{IsSign}
use Rattle.sql_tokens.specs.Token.{IsToken, IsKeyword, IsName, IsNumber, IsText, IsBlob}
use Rattle.sql_tokens.specs.Tokens.{NoneBegins}
use Rattle.sql_tokens.specs.Reading.{found, word_found, number_found, text_from, text_found, blob_from, blob_found, after_two, long_sign, short_sign, sign_found, sign_found_of, next}
use Rattle.sql_tokens.specs.declared.found.Found.{Found}
use Rattle.sql_tokens.specs.declared.kinds.Keyword.{Keyword}
use Rattle.sql_tokens.specs.declared.kinds.Sign.{Sign}
use Rattle.sql_tokens.specs.declared.kinds.Token.{Token}
use Rattle.sql_tokens.specs.declared.kinds.Token.TheVariants as token
use Rattle.sql_tokens.proofs.BasicLaws.{bool_cases, never_both, IsMapped, mapped}
use Rattle.sql_tokens.proofs.FindLaws.{IsFound}
use Rattle.sql_tokens.proofs.WordLaws.{keyword_word, name_word, word_is_token, word_begins}
use Rattle.sql_tokens.proofs.ValueLaws.{IsCopied, text_is_copied, text_is_found, IsBlobCopied, blob_is_copied, blob_is_found, number_is_found, number_is_token}
use Rattle.sql_tokens.proofs.SignLaws.{sign_size, short_is_found, long_is_found, long_is_sign, short_is_sign, sign_byte, sign_begins}

pub taken : {A : Type 0} (p : Bool) (x y : A) → p ≡ true → cond p x y ≡ x
taken p x y h = ap (λ v. cond v x y) h

pub passed : {A : Type 0} (p : Bool) (x y : A) → p ≡ false → cond p x y ≡ y
passed p x y h = ap (λ v. cond v x y) h

pub both_true : (p q : Bool) → cond p q false ≡ true → (p ≡ true) × (q ≡ true)
both_true true q h = (refl, h)
both_true false q h = cc

pub one_true : (p q : Bool) → (p || q) ≡ true → (p ≡ true) ⊎ (q ≡ true)
one_true true q h = inl refl
one_true false q h = inr h

pub all_false : (p q r s : Bool) → cond p false (cond q false (cond r false (cond s false true))) ≡ true → (p ≡ false) × (q ≡ false) × (r ≡ false) × (s ≡ false)
all_false true q r s h = cc
all_false false true r s h = cc
all_false false false true s h = cc
all_false false false false true h = cc
all_false false false false false h = (refl, refl, refl, refl)

-- which step is taken
pub next_blob : (b : ℕ) (bs : List ℕ) → begins_blob (b ∷ bs) ≡ true → next (b ∷ bs) ≡ blob_found (after_two (b ∷ bs))
unfolding next
next_blob b bs h = taken (begins_blob (b ∷ bs)) _ _ h

pub next_word : (b : ℕ) (bs : List ℕ) → begins_blob (b ∷ bs) ≡ false → is_word_start b ≡ true → next (b ∷ bs) ≡ Some (word_found (b ∷ bs))
unfolding next
next_word b bs h k = passed (begins_blob (b ∷ bs)) _ _ h ∙ taken (is_word_start b) _ _ k

pub next_number : (b : ℕ) (bs : List ℕ) → begins_blob (b ∷ bs) ≡ false → is_word_start b ≡ false → is_ascii_digit b ≡ true → next (b ∷ bs) ≡ number_found (b ∷ bs)
unfolding next
next_number b bs h k l = passed (begins_blob (b ∷ bs)) _ _ h ∙ (passed (is_word_start b) _ _ k ∙ taken (is_ascii_digit b) _ _ l)

pub next_text : (b : ℕ) (bs : List ℕ) → begins_blob (b ∷ bs) ≡ false → is_word_start b ≡ false → is_ascii_digit b ≡ false → is_quote b ≡ true → next (b ∷ bs) ≡ text_found bs
unfolding next
next_text b bs h k l m = passed (begins_blob (b ∷ bs)) _ _ h ∙ (passed (is_word_start b) _ _ k ∙ (passed (is_ascii_digit b) _ _ l ∙ taken (is_quote b) _ _ m))

pub next_sign : (b : ℕ) (bs : List ℕ) → begins_blob (b ∷ bs) ≡ false → is_word_start b ≡ false → is_ascii_digit b ≡ false → is_quote b ≡ false → next (b ∷ bs) ≡ sign_found (b ∷ bs)
unfolding next
next_sign b bs h k l m = passed (begins_blob (b ∷ bs)) _ _ h ∙ (passed (is_word_start b) _ _ k ∙ (passed (is_ascii_digit b) _ _ l ∙ passed (is_quote b) _ _ m))

pub no_x_no_blob : (b : ℕ) (bs : List ℕ) → is_x b ≡ false → begins_blob (b ∷ bs) ≡ false
no_x_no_blob b bs h = passed (is_x b) _ _ h

-- a digit begins neither a blob nor a word
pub digit_is_no_x : (b : ℕ) → is_ascii_digit b ≡ true → is_x b ≡ false
digit_is_no_x b h = grind (arith, nat_tests)

pub digit_begins_no_word : (b : ℕ) → is_ascii_digit b ≡ true → is_word_start b ≡ false
digit_begins_no_word b h = grind (arith, nat_tests)

-- what the steps find is a token
blob_found_token : (b c : ℕ) (bs : List ℕ) (f : Found) → is_x b ≡ true → is_quote c ≡ true → blob_found bs ≡ Some f → IsFound (b ∷ c ∷ bs) f
blob_found_token b c bs f x q h =
    let m : IsMapped (λ d. found (token.Blob d.bytes) (length bs - d.left + 2)) (blob_from bs) f = mapped (λ d. found (token.Blob d.bytes) (length bs - d.left + 2)) (blob_from bs) f h in
    let d : IsBlobCopied bs m.from = blob_is_copied bs m.from m.there in
    let s : length (d.digits ++ (39 ∷ [])) ≡ length d.digits + 1 = length-append d.digits (39 ∷ []) in
    let l : length bs ≡ length d.digits + length {A = ℕ} (39 ∷ d.rest) = ap length d.whole ∙ length-append d.digits (39 ∷ d.rest) in
    let n : m.from.left ≡ length d.rest = d.left in
    subst (λ z. IsFound (b ∷ c ∷ bs) z) (sym m.made) (record {
      front = b ∷ c ∷ (d.digits ++ (39 ∷ []));
      rest = d.rest;
      whole = ap (λ z. b ∷ c ∷ z) (d.whole ∙ sym (append_assoc d.digits (39 ∷ []) d.rest));
      size = omega arith;
      token = record { x = b; digits = d.digits; is_x = x; each = d.each; spelled = ap (λ z. b ∷ z ∷ (d.digits ++ (39 ∷ []))) (eqb-true c 39 q) };
    })

text_found_token : (b : ℕ) (bs : List ℕ) (f : Found) → is_quote b ≡ true → text_found bs ≡ Some f → IsFound (b ∷ bs) f
text_found_token b bs f q h =
    let m : IsMapped (λ c. found (token.Text c.bytes) (length bs - c.left + 1)) (text_from bs) f = mapped (λ c. found (token.Text c.bytes) (length bs - c.left + 1)) (text_from bs) f h in
    let d : IsCopied bs m.from = text_is_copied bs m.from m.there in
    let l : length bs ≡ length (quoted m.from.bytes) + length d.rest = ap length d.whole ∙ length-append (quoted m.from.bytes) d.rest in
    let n : m.from.left ≡ length d.rest = d.left in
    subst (λ z. IsFound (b ∷ bs) z) (sym m.made) (record {
      front = b ∷ quoted m.from.bytes;
      rest = d.rest;
      whole = ap (λ z. b ∷ z) d.whole;
      size = omega arith;
      token = record { spelled = ap (λ z. z ∷ quoted m.from.bytes) (eqb-true b 39 q); ends = d.ends };
    })

word_found_token : (b : ℕ) (bs : List ℕ) (f : Found) → begins_blob (b ∷ bs) ≡ false → is_word_start b ≡ true → Some (word_found (b ∷ bs)) ≡ Some f → IsFound (b ∷ bs) f
unfolding word_found
word_found_token b bs f x s h =
    let m : word_found (b ∷ bs) ≡ f = cc in
    subst (λ z. IsFound (b ∷ bs) z) m (record {
      front = take (prefix_len is_word_byte (b ∷ bs)) (b ∷ bs);
      rest = drop (prefix_len is_word_byte (b ∷ bs)) (b ∷ bs);
      whole = sym (take-append-drop (prefix_len is_word_byte (b ∷ bs)) (b ∷ bs));
      size = length-prefix_len is_word_byte (b ∷ bs);
      token = word_is_token (take (prefix_len is_word_byte (b ∷ bs)) (b ∷ bs)) (drop (prefix_len is_word_byte (b ∷ bs)) (b ∷ bs)) (word_begins b bs s x);
    })

short_found_token : (b : ℕ) (bs : List ℕ) (f : Found) → ((c : ℕ) (more : List ℕ) → bs ≡ c ∷ more → long_sign b c ≡ None) → sign_found_of None (short_sign b) ≡ Some f → IsFound (b ∷ bs) f
short_found_token b bs f alone h =
    let m : IsMapped (λ s. found (token.Sign s) 1) (short_sign b) f = mapped (λ s. found (token.Sign s) 1) (short_sign b) f h in
    subst (λ z. IsFound (b ∷ bs) z) (sym m.made) (record { front = b ∷ []; rest = bs; whole = refl; size = refl; token = short_is_sign b m.from bs m.there alone })

sign_found_token : (b : ℕ) (bs : List ℕ) (f : Found) → sign_found (b ∷ bs) ≡ Some f → IsFound (b ∷ bs) f
unfolding sign_found
sign_found_token b [] f h = short_found_token b [] f (λ c more e. cc) h
sign_found_token b (c ∷ bs) f h = go (long_sign b c) refl h
  where
    go : (o : Option Sign) → long_sign b c ≡ o → sign_found_of o (short_sign b) ≡ Some f → IsFound (b ∷ c ∷ bs) f
    go None o h = short_found_token b (c ∷ bs) f (λ d more e. let k : c ≡ d = cc in ap (long_sign b) (sym k) ∙ o) h
    go (Some s) o h = let m : found (token.Sign s) 2 ≡ f = cc in
        subst (λ z. IsFound (b ∷ c ∷ bs) z) m (record { front = b ∷ c ∷ []; rest = bs; whole = refl; size = refl; token = long_is_sign b c s bs o })

blob_start_token : (b : ℕ) (bs : List ℕ) (f : Found) → begins_blob (b ∷ bs) ≡ true → blob_found (after_two (b ∷ bs)) ≡ Some f → IsFound (b ∷ bs) f
blob_start_token b [] f h k = never_both false (both_true (is_x b) false h).1 refl
blob_start_token b (c ∷ bs) f h k = let p : (is_x b ≡ true) × (is_quote c ≡ true) = both_true (is_x b) (is_quote c) h in blob_found_token b c bs f p.0 p.1 k

-- what is found is a token
pub next_is_token : (bs : List ℕ) (f : Found) → next bs ≡ Some f → IsFound bs f
unfolding next
next_is_token [] f h = cc
next_is_token (b ∷ bs) f h = elim (bool_cases (begins_blob (b ∷ bs))) [
  | inl x ↦ blob_start_token b bs f x (sym (next_blob b bs x) ∙ h)
  | inr x ↦ elim (bool_cases (is_word_start b)) [
    | inl w ↦ word_found_token b bs f x w (sym (next_word b bs x w) ∙ h)
    | inr w ↦ elim (bool_cases (is_ascii_digit b)) [
      | inl d ↦ number_is_token b bs f d (sym (next_number b bs x w d) ∙ h)
      | inr d ↦ elim (bool_cases (is_quote b)) [
        | inl q ↦ text_found_token b bs f q (sym (next_text b bs x w d q) ∙ h)
        | inr q ↦ sign_found_token b bs f (sym (next_sign b bs x w d q) ∙ h)
      ]
    ]
  ]
]

-- each token is found
keyword_found : (k : Keyword) (w rest : List ℕ) → IsKeyword k w rest → next (w ++ rest) ≡ Some (found (token.Keyword k) (length w))
keyword_found k [] rest h = never_both false h.word.begins refl
keyword_found k (b ∷ w) rest h = next_word b (w ++ rest) h.word.no_blob h.word.begins ∙ ap (λ z. Some z) (keyword_word k (b ∷ w) rest h)

name_found : (n w rest : List ℕ) → IsName n w rest → next (w ++ rest) ≡ Some (found (token.Name n) (length w))
name_found n [] rest h = never_both false h.word.begins refl
name_found n (b ∷ w) rest h = next_word b (w ++ rest) h.word.no_blob h.word.begins ∙ ap (λ z. Some z) (name_word n (b ∷ w) rest h)

number_at_front : (n : ℕ) (w rest : List ℕ) → IsNumber n w rest → next (w ++ rest) ≡ Some (found (token.Number n) (length w))
number_at_front n [] rest h = never_both false h.begins refl
number_at_front n (b ∷ w) rest h = next_number b (w ++ rest) (no_x_no_blob b (w ++ rest) (digit_is_no_x b h.begins)) (digit_begins_no_word b h.begins) h.begins ∙ number_is_found n (b ∷ w) rest h

text_at_front : (cs w rest : List ℕ) → IsText cs w rest → next (w ++ rest) ≡ Some (found (token.Text cs) (length w))
text_at_front cs w rest h =
    let l : length (quoted cs ++ rest) ≡ length (quoted cs) + length rest = length-append (quoted cs) rest in
    let s : length (quoted cs ++ rest) - length rest + 1 ≡ length (39 ∷ quoted cs) = omega arith in
    ap (λ z. next (z ++ rest)) h.spelled
    ∙ (next_text 39 (quoted cs ++ rest) refl refl refl refl
    ∙ (ap (λ o. option_map (λ c. found (token.Text c.bytes) (length (quoted cs ++ rest) - c.left + 1)) o) (text_is_found cs rest h.ends)
    ∙ ap (λ m. Some (found (token.Text cs) m)) (s ∙ ap length (sym h.spelled))))

blob_at_front : (bs w rest : List ℕ) → IsBlob bs w → next (w ++ rest) ≡ Some (found (token.Blob bs) (length w))
blob_at_front bs w rest h =
    let a : (h.digits ++ (39 ∷ [])) ++ rest ≡ h.digits ++ (39 ∷ rest) = append_assoc h.digits (39 ∷ []) rest in
    let l : length (h.digits ++ (39 ∷ rest)) ≡ length h.digits + length {A = ℕ} (39 ∷ rest) = length-append h.digits (39 ∷ rest) in
    let k : length (h.digits ++ (39 ∷ [])) ≡ length h.digits + 1 = length-append h.digits (39 ∷ []) in
    let s : length (h.digits ++ (39 ∷ rest)) - length rest + 2 ≡ length (h.x ∷ 39 ∷ (h.digits ++ (39 ∷ []))) = omega arith in
    ap (λ z. next (z ++ rest)) h.spelled
    ∙ (ap (λ z. next (h.x ∷ 39 ∷ z)) a
    ∙ (next_blob h.x (39 ∷ (h.digits ++ (39 ∷ rest))) (taken (is_x h.x) _ _ h.is_x)
    ∙ (ap (λ o. option_map (λ c. found (token.Blob c.bytes) (length (h.digits ++ (39 ∷ rest)) - c.left + 2)) o) (blob_is_found h.digits bs rest h.each)
    ∙ ap (λ m. Some (found (token.Blob bs) m)) (s ∙ ap length (sym h.spelled)))))

sign_step : (a : ℕ) (bs : List ℕ) → sign_byte a ≡ true → next (a ∷ bs) ≡ sign_found (a ∷ bs)
sign_step a bs h = let p : (is_x a ≡ false) × (is_word_start a ≡ false) × (is_ascii_digit a ≡ false) × (is_quote a ≡ false) = all_false (is_x a) (is_word_start a) (is_ascii_digit a) (is_quote a) h in
    next_sign a bs (no_x_no_blob a bs p.0) p.1 p.2 p.3

short_alone : (s : Sign) (a b : ℕ) (bs : List ℕ) → IsSign s (a ∷ []) (b ∷ bs) → long_sign a b ≡ None
short_alone s a b bs h = go (long_sign a b) refl
  where
    go : (o : Option Sign) → long_sign a b ≡ o → o ≡ None
    go None e = refl
    go (Some longer) e = absurd (h.longest longer b [] bs refl (long_is_sign a b longer bs e).spelled)

sign_at_front : (s : Sign) (w rest : List ℕ) → IsSign s w rest → next (w ++ rest) ≡ Some (found (token.Sign s) (length w))
unfolding sign_found
sign_at_front s [] rest h = let z : 0 < length {A = ℕ} [] = (sign_size s [] h.spelled).0 in absurd (omega arith)
sign_at_front s (a ∷ []) [] h = sign_step a [] (sign_begins s (a ∷ []) h.spelled) ∙ ap (λ o. sign_found_of None o) (short_is_found s a h.spelled)
sign_at_front s (a ∷ []) (b ∷ bs) h = sign_step a (b ∷ bs) (sign_begins s (a ∷ []) h.spelled) ∙ (ap (λ o. sign_found_of o (short_sign a)) (short_alone s a b bs h) ∙ ap (λ o. sign_found_of None o) (short_is_found s a h.spelled))
sign_at_front s (a ∷ b ∷ []) rest h = sign_step a (b ∷ rest) (sign_begins s (a ∷ b ∷ []) h.spelled) ∙ ap (λ o. sign_found_of o (short_sign a)) (long_is_found s a b h.spelled)
sign_at_front s (a ∷ b ∷ c ∷ w) rest h = let z : length (a ∷ b ∷ c ∷ w) ≤ 2 = (sign_size s (a ∷ b ∷ c ∷ w) h.spelled).1 in absurd (omega arith)

pub token_is_next : (t : Token) (w rest : List ℕ) → IsToken t w rest → next (w ++ rest) ≡ Some (found t (length w))
token_is_next (token.Keyword k) w rest h = keyword_found k w rest h
token_is_next (token.Name n) w rest h = name_found n w rest h
token_is_next (token.Number n) w rest h = number_at_front n w rest h
token_is_next (token.Text cs) w rest h = text_at_front cs w rest h
token_is_next (token.Blob bs) w rest h = blob_at_front bs w rest h
token_is_next (token.Sign s) w rest h = sign_at_front s w rest h
token_is_next token.Unknown w rest h = absurd h

-- where nothing is found no token begins
pub none_is_next : (bs : List ℕ) → next bs ≡ None → NoneBegins bs
none_is_next bs h t w rest e k = let n : None ≡ Some (found t (length w)) = sym h ∙ (ap next e ∙ token_is_next t w rest k) in cc

-- a token has a byte
pub token_has_a_byte : (t : Token) (rest : List ℕ) → IsToken t [] rest → ⊥
token_has_a_byte (token.Keyword k) rest h = never_both false h.word.begins refl
token_has_a_byte (token.Name n) rest h = never_both false h.word.begins refl
token_has_a_byte (token.Number n) rest h = never_both false h.begins refl
token_has_a_byte (token.Text cs) rest h = let e : [] ≡ 39 ∷ quoted cs = h.spelled in cc
token_has_a_byte (token.Blob bs) rest h = let e : [] ≡ h.x ∷ 39 ∷ (h.digits ++ (39 ∷ [])) = h.spelled in cc
token_has_a_byte (token.Sign s) rest h = let z : 0 < length {A = ℕ} [] = (sign_size s [] h.spelled).0 in absurd (omega arith)
token_has_a_byte token.Unknown rest h = h

-- a blank begins no token
space_begins_none : (bs : List ℕ) → next (32 ∷ bs) ≡ None
unfolding next sign_found
space_begins_none [] = refl
space_begins_none (c ∷ bs) = refl

tab_begins_none : (bs : List ℕ) → next (9 ∷ bs) ≡ None
unfolding next sign_found
tab_begins_none [] = refl
tab_begins_none (c ∷ bs) = refl

pub blank_begins_none : (b : ℕ) (bs : List ℕ) → is_blank b ≡ true → next (b ∷ bs) ≡ None
blank_begins_none b bs h = elim (one_true (eqb b 32) (eqb b 9) h) [
  | inl e ↦ ap (λ z. next (z ∷ bs)) (eqb-true b 32 e) ∙ space_begins_none bs
  | inr e ↦ ap (λ z. next (z ∷ bs)) (eqb-true b 9 e) ∙ tab_begins_none bs
]
