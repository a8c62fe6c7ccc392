-- Numbers, texts and blobs: what the steps over them find is such a token, and each such token is found.
use Rattle.std.proofs.Common.{◌≡◌, ℕ, ◌≤◌, Bool, true, false, cond, List, [], ◌∷◌, ◌++◌, length, take, drop, Option, Some, None, refl, sym, ◌∙◌, ap, subst, arith, option_map, nat_le, inl, inr, eqb-true}
use Rattle.std.specs.List.{prefix_len}
use Rattle.std.specs.Char.{is_ascii_digit}
use Rattle.std.proofs.lemmas.List.{take-append-drop}
use Rattle.std.proofs.Math.Seq.{take-append_seam}
use Rattle.sql_tokens.specs.Letters.{is_quote, next_is, hex_byte}
use Rattle.sql_tokens.specs.Values.{largest, value_of, quoted, SpellsHex}
use Rattle.sql_tokens.specs.Reading.{found, copied, with_byte, text_from, blob_from, number_value, number_found}
use Rattle.sql_tokens.specs.Token.{IsNumber}
use Rattle.sql_tokens.specs.declared.found.Found.{Found}
use Rattle.sql_tokens.specs.declared.kinds.Token.TheVariants as token
use Rattle.sql_tokens.proofs.FindLaws.{IsFound}
use Rattle.std.proofs.lemmas.List.Folds.{length-prefix_len}
use Rattle.std.proofs.lemmas.Bool.Decides.{nat_tests}
use Rattle.sql_tokens.specs.declared.found.Copied.{Copied}
use Rattle.sql_tokens.proofs.BasicLaws.{bool_cases, front_is, front_passes, front_ends, front_begins, IsMapped, mapped}
use Rattle.sql_tokens.proofs.ValueLemmas.{text_other, text_doubled, text_closed, text_open, blob_pair, blob_no_pair, blob_closed, blob_single, blob_open}

-- each text is found
pub text_is_found : (cs rest : List ℕ) → next_is is_quote rest ≡ false → text_from (quoted cs ++ rest) ≡ Some (copied cs (length rest))
text_is_found [] rest e = text_closed 39 rest refl e
text_is_found (c ∷ cs) rest e = go (is_quote c) refl (text_is_found cs rest e)
  where
    go : (v : Bool) → is_quote c ≡ v → text_from (quoted cs ++ rest) ≡ Some (copied cs (length rest)) → text_from ((cond v (c ∷ c ∷ quoted cs) (c ∷ quoted cs)) ++ rest) ≡ Some (copied (c ∷ cs) (length rest))
    go true q h = text_doubled c c (quoted cs ++ rest) q q ∙ ap (with_byte c) h
    go false q h = text_other c (quoted cs ++ rest) q ∙ ap (with_byte c) h

-- what was copied from a text, and what is left behind it
pub record IsCopied (bs : List ℕ) (c : Copied) : Type 0 where
  pub rest : List ℕ
  pub whole : bs ≡ quoted c.bytes ++ rest
  pub ends : next_is is_quote rest ≡ false
  pub left : c.left ≡ length rest

-- the copy to which a byte was added
pub record IsWith (b : ℕ) (o : Option Copied) (c : Copied) : Type 0 where
  pub from : Copied
  pub there : o ≡ Some from
  pub made : copied (b ∷ from.bytes) from.left ≡ c

pub with_some : (b : ℕ) (o : Option Copied) (c : Copied) → with_byte b o ≡ Some c → IsWith b o c
with_some b None c h = cc
with_some b (Some x) c h = record { from = x; there = refl; made = (cc) }

pub quoted_other : (c : ℕ) (cs : List ℕ) → is_quote c ≡ false → quoted (c ∷ cs) ≡ c ∷ quoted cs
quoted_other c cs q = ap (λ v. cond v (c ∷ c ∷ quoted cs) (c ∷ quoted cs)) q

pub quoted_quote : (c : ℕ) (cs : List ℕ) → is_quote c ≡ true → quoted (c ∷ cs) ≡ c ∷ c ∷ quoted cs
quoted_quote c cs q = ap (λ v. cond v (c ∷ c ∷ quoted cs) (c ∷ quoted cs)) q

-- the three ways in which a text goes on
pub copied_other : (a : ℕ) (bs : List ℕ) (c : Copied) → is_quote a ≡ false → ((d : Copied) → text_from bs ≡ Some d → IsCopied bs d) → text_from (a ∷ bs) ≡ Some c → IsCopied (a ∷ bs) c
copied_other a bs c q f h =
    let w : IsWith a (text_from bs) c = with_some a (text_from bs) c (sym (text_other a bs q) ∙ h) in
    let r : IsCopied bs w.from = f w.from w.there in
    subst (λ x. IsCopied (a ∷ bs) x) w.made (record {
      rest = r.rest;
      whole = ap (λ x. a ∷ x) r.whole ∙ sym (ap (λ x. x ++ r.rest) (quoted_other a w.from.bytes q));
      ends = r.ends;
      left = r.left;
    })

pub copied_quote : (a d : ℕ) (bs : List ℕ) (c : Copied) → is_quote a ≡ true → is_quote d ≡ true → ((d : Copied) → text_from bs ≡ Some d → IsCopied bs d) → text_from (a ∷ d ∷ bs) ≡ Some c → IsCopied (a ∷ d ∷ bs) c
copied_quote a d bs c q p f h =
    let w : IsWith a (text_from bs) c = with_some a (text_from bs) c (sym (text_doubled a d bs q p) ∙ h) in
    let r : IsCopied bs w.from = f w.from w.there in
    let s : d ≡ a = eqb-true d 39 p ∙ sym (eqb-true a 39 q) in
    subst (λ x. IsCopied (a ∷ d ∷ bs) x) w.made (record {
      rest = r.rest;
      whole = ap (λ x. a ∷ x ∷ bs) s ∙ (ap (λ x. a ∷ a ∷ x) r.whole ∙ sym (ap (λ x. x ++ r.rest) (quoted_quote a w.from.bytes q)));
      ends = r.ends;
      left = r.left;
    })

pub copied_last : (a : ℕ) (bs : List ℕ) (c : Copied) → is_quote a ≡ true → next_is is_quote bs ≡ false → text_from (a ∷ bs) ≡ Some c → IsCopied (a ∷ bs) c
copied_last a bs c q n h =
    let e : Some (copied [] (length bs)) ≡ Some c = sym (text_closed a bs q n) ∙ h in
    let m : copied [] (length bs) ≡ c = cc in
    subst (λ x. IsCopied (a ∷ bs) x) m (record { rest = bs; whole = ap (λ x. x ∷ bs) (eqb-true a 39 q); ends = n; left = refl })

-- what is found is a text
pub text_is_copied : (bs : List ℕ) (c : Copied) → text_from bs ≡ Some c → IsCopied bs c
text_is_copied [] c h = let e : None ≡ Some c = sym text_open ∙ h in (cc)
text_is_copied (a ∷ []) c h = elim (bool_cases (is_quote a)) [ inl q ↦ copied_last a [] c q refl h | inr q ↦ copied_other a [] c q (λ d e. let k : None ≡ Some d = sym text_open ∙ e in (cc)) h ]
text_is_copied (a ∷ b ∷ bs) c h = go (text_is_copied bs) (text_is_copied (b ∷ bs))
  where
    go : ((d : Copied) → text_from bs ≡ Some d → IsCopied bs d) → ((d : Copied) → text_from (b ∷ bs) ≡ Some d → IsCopied (b ∷ bs) d) → IsCopied (a ∷ b ∷ bs) c
    go f g = elim (bool_cases (is_quote a)) [
      | inl q ↦ elim (bool_cases (is_quote b)) [ inl p ↦ copied_quote a b bs c q p f h | inr p ↦ copied_last a (b ∷ bs) c q p h ]
      | inr q ↦ copied_other a (b ∷ bs) c q g h
    ]

-- a quote is no hexadecimal digit
pub hex_is_no_quote : (h l b : ℕ) → hex_byte h l ≡ Some b → is_quote h ≡ false
hex_is_no_quote h l b e = elim (bool_cases (is_quote h)) [ inl q ↦ (let n : None ≡ Some b = sym (ap (λ x. hex_byte x l) (eqb-true h 39 q)) ∙ e in (cc)) | inr q ↦ q ]

-- each blob is found
pub blob_is_found : (ds bs rest : List ℕ) → SpellsHex ds bs → blob_from (ds ++ (39 ∷ rest)) ≡ Some (copied bs (length rest))
blob_is_found [] [] rest h = blob_closed 39 rest refl
blob_is_found [] (b ∷ bs) rest h = absurd h
blob_is_found (x ∷ []) bs rest h = absurd h
blob_is_found (x ∷ y ∷ ds) [] rest h = absurd h
blob_is_found (x ∷ y ∷ ds) (b ∷ bs) rest h = blob_pair x y b (ds ++ (39 ∷ rest)) (hex_is_no_quote x y b h.0) (sym h.0) ∙ ap (with_byte b) (blob_is_found ds bs rest h.1)

-- what was copied from a blob, and what is left behind it
pub record IsBlobCopied (bs : List ℕ) (c : Copied) : Type 0 where
  pub digits : List ℕ
  pub rest : List ℕ
  pub whole : bs ≡ digits ++ (39 ∷ rest)
  pub each : SpellsHex digits c.bytes
  pub left : c.left ≡ length rest

pub blob_copied_last : (a : ℕ) (bs : List ℕ) (c : Copied) → is_quote a ≡ true → blob_from (a ∷ bs) ≡ Some c → IsBlobCopied (a ∷ bs) c
blob_copied_last a bs c q h =
    let e : Some (copied [] (length bs)) ≡ Some c = sym (blob_closed a bs q) ∙ h in
    let m : copied [] (length bs) ≡ c = cc in
    subst (λ x. IsBlobCopied (a ∷ bs) x) m (record { digits = []; rest = bs; whole = ap (λ x. x ∷ bs) (eqb-true a 39 q); each = tt; left = refl })

pub blob_copied_pair : (x y : ℕ) (bs : List ℕ) (c : Copied) (o : Option ℕ) → hex_byte x y ≡ o → is_quote x ≡ false → ((d : Copied) → blob_from bs ≡ Some d → IsBlobCopied bs d) → blob_from (x ∷ y ∷ bs) ≡ Some c → IsBlobCopied (x ∷ y ∷ bs) c
blob_copied_pair x y bs c None o q f h = let e : None ≡ Some c = sym (blob_no_pair x y bs q (sym o)) ∙ h in (cc)
blob_copied_pair x y bs c (Some b) o q f h =
    let w : IsWith b (blob_from bs) c = with_some b (blob_from bs) c (sym (blob_pair x y b bs q (sym o)) ∙ h) in
    let r : IsBlobCopied bs w.from = f w.from w.there in
    subst (λ z. IsBlobCopied (x ∷ y ∷ bs) z) w.made (record {
      digits = x ∷ y ∷ r.digits;
      rest = r.rest;
      whole = ap (λ z. x ∷ y ∷ z) r.whole;
      each = (o, r.each);
      left = r.left;
    })

-- what is found is a blob's digits
pub blob_is_copied : (bs : List ℕ) (c : Copied) → blob_from bs ≡ Some c → IsBlobCopied bs c
blob_is_copied [] c h = let e : None ≡ Some c = sym blob_open ∙ h in (cc)
blob_is_copied (x ∷ []) c h = elim (bool_cases (is_quote x)) [ inl q ↦ blob_copied_last x [] c q h | inr q ↦ (let e : None ≡ Some c = sym (blob_single x q) ∙ h in (cc)) ]
blob_is_copied (x ∷ y ∷ bs) c h = go (blob_is_copied bs)
  where
    go : ((d : Copied) → blob_from bs ≡ Some d → IsBlobCopied bs d) → IsBlobCopied (x ∷ y ∷ bs) c
    go f = elim (bool_cases (is_quote x)) [ inl q ↦ blob_copied_last x (y ∷ bs) c q h | inr q ↦ blob_copied_pair x y bs c (hex_byte x y) refl q f h ]

-- the test of a number's size
pub small_passes : (n : ℕ) → n ≤ largest → nat_le n largest ≡ true
small_passes n h = grind (arith, nat_tests)

pub passes_small : (n : ℕ) → nat_le n largest ≡ true → n ≤ largest
passes_small n h = grind (arith, nat_tests)

-- each number is found
pub number_is_found : (n : ℕ) (w rest : List ℕ) → IsNumber n w rest → number_found (w ++ rest) ≡ Some (found (token.Number n) (length w))
unfolding number_found
number_is_found n w rest h =
    let l : prefix_len is_ascii_digit (w ++ rest) ≡ length w = front_is is_ascii_digit w rest h.each h.ends in
    let t : take (length w) (w ++ rest) ≡ w = take-append_seam w rest in
    let v : value_of w ≡ n = sym h.value in
    ap (λ m. option_map (λ v. found (token.Number v) m) (number_value (take m (w ++ rest)))) l
    ∙ (ap (λ x. option_map (λ v. found (token.Number v) (length w)) (number_value x)) t
    ∙ (ap (λ m. option_map (λ v. found (token.Number v) (length w)) (cond (nat_le m largest) (Some m) None)) v
    ∙ ap (λ b. option_map (λ v. found (token.Number v) (length w)) (cond b (Some n) None)) (small_passes n h.fits)))

-- the value of a number that passed the test
pub record IsSmall (v n : ℕ) : Type 0 where
  pub same : n ≡ v
  pub small : n ≤ largest

pub small_value : (v n : ℕ) → cond (nat_le v largest) (Some v) None ≡ Some n → IsSmall v n
small_value v n h = go (nat_le v largest) refl h
  where
    go : (b : Bool) → nat_le v largest ≡ b → cond b (Some v) None ≡ Some n → IsSmall v n
    go true e k = let s : v ≡ n = cc in record { same = sym s; small = subst (λ x. x ≤ largest) s (passes_small v e) }
    go false e k = cc

-- what stands at the front where a number begins
pub number_is_token : (b : ℕ) (bs : List ℕ) (f : Found) → is_ascii_digit b ≡ true → number_found (b ∷ bs) ≡ Some f → IsFound (b ∷ bs) f
unfolding number_found
number_is_token b bs f d h =
    let m : IsMapped (λ v. found (token.Number v) (prefix_len is_ascii_digit (b ∷ bs))) (number_value (take (prefix_len is_ascii_digit (b ∷ bs)) (b ∷ bs))) f
    = mapped (λ v. found (token.Number v) (prefix_len is_ascii_digit (b ∷ bs))) (number_value (take (prefix_len is_ascii_digit (b ∷ bs)) (b ∷ bs))) f h in
    let n : IsSmall (value_of (take (prefix_len is_ascii_digit (b ∷ bs)) (b ∷ bs))) m.from = small_value (value_of (take (prefix_len is_ascii_digit (b ∷ bs)) (b ∷ bs))) m.from m.there in
    subst (λ x. IsFound (b ∷ bs) x) (sym m.made) (record {
      front = take (prefix_len is_ascii_digit (b ∷ bs)) (b ∷ bs);
      rest = drop (prefix_len is_ascii_digit (b ∷ bs)) (b ∷ bs);
      whole = sym (take-append-drop (prefix_len is_ascii_digit (b ∷ bs)) (b ∷ bs));
      size = length-prefix_len is_ascii_digit (b ∷ bs);
      token = record {
        begins = ap (next_is is_ascii_digit) (front_begins is_ascii_digit b bs d) ∙ d;
        each = front_passes is_ascii_digit (b ∷ bs);
        ends = front_ends is_ascii_digit (b ∷ bs);
        value = n.same;
        fits = n.small;
      };
    })
