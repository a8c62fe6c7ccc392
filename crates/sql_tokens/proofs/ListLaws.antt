-- The list of a text's tokens: there is one, and only one; and how a loop comes to it, token by token.
use Rattle.std.proofs.Common.{◌≡◌, ℕ, ◌+◌, ◌-◌, ◌<◌, ◌≤◌, true, false, List, [], ◌∷◌, ◌++◌, length, drop, Option, Some, None, refl, sym, ◌∙◌, ap, subst, arith, inl, inr, append_assoc, append-nil, length-append, suc, zero}
use Rattle.std.specs.Char.{to_ascii_lowercase}
use Rattle.std.proofs.lemmas.List.{length-map}
use Rattle.std.proofs.Math.Seq.{drop-append_seam}
use Rattle.sql_tokens.specs.Letters.{is_blank}
use Rattle.sql_tokens.specs.Token.{IsToken}
use Rattle.sql_tokens.specs.Spot.{Spot, spot}
use Rattle.sql_tokens.specs.Tokens.{Tokens, no_more, a_blank, a_token, none_begins}
use Rattle.sql_tokens.specs.Laws.{ArePlacesIn, IsUnknownOnlyLast, IsInBounds, AreInBounds}
use Rattle.sql_tokens.specs.Reading.{found, next, IsSoFar}
use Rattle.sql_tokens.specs.declared.found.Found.{Found}
use Rattle.sql_tokens.specs.declared.kinds.Token.{Token}
use Rattle.sql_tokens.specs.declared.kinds.Token.TheVariants as token
use Rattle.sql_tokens.proofs.BasicLaws.{bool_cases, never_both, cancel_front}
use Rattle.sql_tokens.proofs.FindLaws.{IsFound}
use Rattle.sql_tokens.proofs.NextLaws.{next_is_token, token_is_next, none_is_next, token_has_a_byte, blank_begins_none}

-- a token does not begin with a blank
pub token_at_no_blank : (b : ℕ) (bs : List ℕ) (t : Token) (w rest : List ℕ) → is_blank b ≡ true → b ∷ bs ≡ w ++ rest → IsToken t w rest → ⊥
token_at_no_blank b bs t w rest h e k = let n : None ≡ Some (found t (length w)) = sym (blank_begins_none b bs h) ∙ (ap next e ∙ token_is_next t w rest k) in cc

-- no token stands in no bytes
pub token_in_nothing : (t : Token) (w rest : List ℕ) → [] ≡ w ++ rest → IsToken t w rest → ⊥
token_in_nothing t [] rest e k = token_has_a_byte t rest k
token_in_nothing t (b ∷ w) rest e k = cc

-- a token's front is not empty
pub front_is_longer : (w rest : List ℕ) (t : Token) → IsToken t w rest → 0 < length w
front_is_longer [] rest t h = absurd (token_has_a_byte t rest h)
front_is_longer (b ∷ w) rest t h = omega arith

-- two tokens at one place are one
pub record IsSame (t u : Token) (w v rest after : List ℕ) : Type 0 where
  pub token : t ≡ u
  pub size : length w ≡ length v
  pub behind : rest ≡ after

pub one_token : (bs : List ℕ) (t u : Token) (w v rest after : List ℕ) → bs ≡ w ++ rest → IsToken t w rest → bs ≡ v ++ after → IsToken u v after → IsSame t u w v rest after
one_token bs t u w v rest after e h f k =
    let s : Some (found t (length w)) ≡ Some (found u (length v)) = sym (token_is_next t w rest h) ∙ (ap next (sym e ∙ f) ∙ token_is_next u v after k) in
    let r : found t (length w) ≡ found u (length v) = cc in
    let n : length w ≡ length v = ap (λ x. x.size) r in
    record { token = ap (λ x. x.token) r; size = n; behind = cancel_front w v rest after n (sym e ∙ f) }

-- a list that begins with a token, and any other list of the same bytes
pub with_token : (at : ℕ) (bs : List ℕ) (t : Token) (w rest : List ℕ) (ss us : List Spot) → bs ≡ w ++ rest → IsToken t w rest → ((vs : List Spot) → Tokens (at + length w) rest vs → ss ≡ vs) → Tokens at bs us → spot at t ∷ ss ≡ us
with_token at bs t w rest ss us e h f (no_more _) = absurd (token_in_nothing t w rest e h)
with_token at bs t w rest ss us e h f (a_blank _ b cs vs k d) = absurd (token_at_no_blank b cs t w rest k e h)
with_token at bs t w rest ss us e h f (a_token _ _ u v after vs g k d) =
    let s : IsSame t u w v rest after = one_token bs t u w v rest after e h g k in
    let d' : Tokens (at + length w) rest vs = subst (λ x. Tokens (at + length w) x vs) (sym s.behind) (subst (λ n. Tokens (at + n) after vs) (sym s.size) d) in
    ap (λ x. spot at x ∷ ss) s.token ∙ ap (λ x. spot at u ∷ x) (f vs d')
with_token at bs t w rest ss us e h f (none_begins _ b cs k n) = absurd (n t w rest e h)

-- each text has one list of tokens
pub one_list : (at : ℕ) (bs : List ℕ) (ss us : List Spot) → Tokens at bs ss → Tokens at bs us → ss ≡ us
one_list at bs ss us (no_more _) (no_more _) = refl
one_list at bs ss us (no_more _) (a_token _ _ t w rest vs e k d) = absurd (token_in_nothing t w rest e k)
one_list at bs ss us (a_blank _ b cs vs h d) (a_blank _ _ _ ws k g) = one_list (at + 1) cs vs ws d g
one_list at bs ss us (a_blank _ b cs vs h d) (a_token _ _ t w rest ws e k g) = absurd (token_at_no_blank b cs t w rest h e k)
one_list at bs ss us (a_blank _ b cs vs h d) (none_begins _ _ _ k g) = never_both (is_blank b) h k
one_list at bs ss us (a_token _ _ t w rest vs e h d) other = with_token at bs t w rest vs us e h (λ ws g. one_list (at + length w) rest vs ws d g) other
one_list at bs ss us (none_begins _ b cs h n) (a_blank _ _ _ ws k g) = never_both (is_blank b) k h
one_list at bs ss us (none_begins _ b cs h n) (a_token _ _ t w rest ws e k g) = absurd (n t w rest e k)
one_list at bs ss us (none_begins _ b cs h n) (none_begins _ _ _ k g) = refl

-- each text has a list of tokens
pub record HasTokens (at : ℕ) (bs : List ℕ) : Type 0 where
  pub spots : List Spot
  pub are : Tokens at bs spots

pub has_tokens_within : (n at : ℕ) (bs : List ℕ) → length bs ≤ n → HasTokens at bs
has_tokens_within n at [] l = record { spots = []; are = no_more at }
has_tokens_within zero at (b ∷ bs) l = absurd (omega arith)
has_tokens_within (suc n) at (b ∷ bs) l = go (has_tokens_within n)
  where
    found_at : (f : Found) → next (b ∷ bs) ≡ Some f → ((at : ℕ) (cs : List ℕ) → length cs ≤ n → HasTokens at cs) → HasTokens at (b ∷ bs)
    found_at f e shorter =
        let t : IsFound (b ∷ bs) f = next_is_token (b ∷ bs) f e in
        let p : 0 < length t.front = front_is_longer t.front t.rest f.token t.token in
        let q : length (b ∷ bs) ≡ length t.front + length t.rest = ap length t.whole ∙ length-append t.front t.rest in
        let r : length t.rest ≤ n = omega arith in
        let s : HasTokens (at + length t.front) t.rest = shorter (at + length t.front) t.rest r in
        record { spots = spot at f.token ∷ s.spots; are = a_token at (b ∷ bs) f.token t.front t.rest s.spots t.whole t.token s.are }

    at_option : (o : Option Found) → next (b ∷ bs) ≡ o → is_blank b ≡ false → ((at : ℕ) (cs : List ℕ) → length cs ≤ n → HasTokens at cs) → HasTokens at (b ∷ bs)
    at_option None e k shorter = record { spots = spot at token.Unknown ∷ []; are = none_begins at b bs k (none_is_next (b ∷ bs) e) }
    at_option (Some f) e k shorter = found_at f e shorter

    go : ((at : ℕ) (cs : List ℕ) → length cs ≤ n → HasTokens at cs) → HasTokens at (b ∷ bs)
    go shorter = elim (bool_cases (is_blank b)) [
      | inl k ↦ (let r : length bs ≤ n = omega arith in let s : HasTokens (at + 1) bs = shorter (at + 1) bs r in record { spots = s.spots; are = a_blank at b bs s.spots k s.are })
      | inr k ↦ at_option (next (b ∷ bs)) refl k shorter
    ]

pub has_tokens : (at : ℕ) (bs : List ℕ) → (ss : List Spot) × Tokens at bs ss
has_tokens at bs = let l : length bs ≤ length bs = omega arith in let h : HasTokens at bs = has_tokens_within (length bs) at bs l in (h.spots, h.are)

-- places rise and stay within the text
pub places_later : (first later end : ℕ) (ss : List Spot) → first ≤ later → ArePlacesIn later end ss → ArePlacesIn first end ss
places_later first later end [] h k = tt
places_later first later end (s ∷ ss) h k = let a : later ≤ s.place = k.0 in (omega arith, k.1, k.2)

pub places_rise : (at : ℕ) (bs : List ℕ) (ss : List Spot) → Tokens at bs ss → ArePlacesIn at (at + length bs) ss
places_rise at bs ss (no_more _) = tt
places_rise at bs ss (a_blank _ b cs vs h d) =
    let e : at + 1 + length cs ≡ at + length (b ∷ cs) = omega arith in
    let l : at ≤ at + 1 = omega arith in
    places_later at (at + 1) (at + length (b ∷ cs)) vs l (subst (λ n. ArePlacesIn (at + 1) n vs) e (places_rise (at + 1) cs vs d))
places_rise at bs ss (a_token _ _ t w rest vs e h d) =
    let p : 0 < length w = front_is_longer w rest t h in
    let q : length bs ≡ length w + length rest = ap length e ∙ length-append w rest in
    let r : at + length w + length rest ≡ at + length bs = omega arith in
    let l : at + 1 ≤ at + length w = omega arith in
    (omega arith, omega arith, places_later (at + 1) (at + length w) (at + length bs) vs l (subst (λ n. ArePlacesIn (at + length w) n vs) r (places_rise (at + length w) rest vs d)))
places_rise at bs ss (none_begins _ b cs h n) = (omega arith, omega arith, tt)

pub token_is_known : (t : Token) (w rest : List ℕ) → IsToken t w rest → t ≡ token.Unknown → ⊥
token_is_known t w rest h e = subst (λ x. IsToken x w rest) e h

pub unknown_last : (at : ℕ) (bs : List ℕ) (ss : List Spot) → Tokens at bs ss → IsUnknownOnlyLast ss
unknown_last at bs ss (no_more _) = tt
unknown_last at bs ss (a_blank _ b cs vs h d) = unknown_last (at + 1) cs vs d
unknown_last at bs ss (a_token _ _ t w rest vs e h d) = before vs (unknown_last (at + length w) rest vs d)
  where
    before : (vs : List Spot) → IsUnknownOnlyLast vs → IsUnknownOnlyLast (spot at t ∷ vs)
    before [] k = tt
    before (v ∷ vs) k = (token_is_known t w rest h, k)
unknown_last at bs ss (none_begins _ b cs h n) = tt

pub token_in_bounds : (t : Token) (w rest : List ℕ) → IsToken t w rest → IsInBounds t
token_in_bounds (token.Name n) w rest h = let p : 0 < length w = front_is_longer w rest (token.Name n) h in let e : length n ≡ length w = ap length h.spelled ∙ length-map w to_ascii_lowercase in omega arith
token_in_bounds (token.Number n) w rest h = h.fits
token_in_bounds (token.Keyword k) w rest h = tt
token_in_bounds (token.Text cs) w rest h = tt
token_in_bounds (token.Blob bs) w rest h = tt
token_in_bounds (token.Sign s) w rest h = tt
token_in_bounds token.Unknown w rest h = tt

pub tokens_in_bounds : (at : ℕ) (bs : List ℕ) (ss : List Spot) → Tokens at bs ss → AreInBounds ss
tokens_in_bounds at bs ss (no_more _) = tt
tokens_in_bounds at bs ss (a_blank _ b cs vs h d) = tokens_in_bounds (at + 1) cs vs d
tokens_in_bounds at bs ss (a_token _ _ t w rest vs e h d) = (token_in_bounds t w rest h, tokens_in_bounds (at + length w) rest vs d)
tokens_in_bounds at bs ss (none_begins _ b cs h n) = (tt, tt)

-- a loop over a text: blanks, tokens, the place where none begins, the end of the text
pub blank_step : (text rest behind : List ℕ) (b : ℕ) (out : List Spot) → rest ≡ b ∷ behind → length rest ≤ length text → is_blank b ≡ true → IsSoFar text rest out → IsSoFar text behind out
blank_step text rest behind b out e l h k = record { goes_on = λ ss d. go ss d }
  where
    go : (ss : List Spot) → Tokens (length text - length behind) behind ss → Tokens 0 text (out ++ ss)
    go ss d =
        let n : length rest ≡ length (b ∷ behind) = ap length e in
        let m : length text - length behind ≡ length text - length rest + 1 = omega arith in
        k.goes_on ss (subst (λ x. Tokens (length text - length rest) x ss) (sym e) (a_blank (length text - length rest) b behind ss h (subst (λ x. Tokens x behind ss) m d)))

pub token_step : (text rest : List ℕ) (f : Found) (out : List Spot) → length rest ≤ length text → next rest ≡ Some f → IsSoFar text rest out → IsSoFar text (drop f.size rest) (out ++ spot (length text - length rest) f.token ∷ [])
token_step text rest f out l e k =
    let t : IsFound rest f = next_is_token rest f e in
    let b : drop f.size rest ≡ t.rest = ap (λ n. drop n rest) (sym t.size) ∙ (ap (drop (length t.front)) t.whole ∙ drop-append_seam t.front t.rest) in
    let n : length rest ≡ length t.front + length t.rest = ap length t.whole ∙ length-append t.front t.rest in
    let m : length text - length t.rest ≡ length text - length rest + length t.front = omega arith in
    let o : (ss : List Spot) → Tokens (length text - length t.rest) t.rest ss → Tokens 0 text ((out ++ spot (length text - length rest) f.token ∷ []) ++ ss)
    = λ ss d. subst (Tokens 0 text) (sym (append_assoc out (spot (length text - length rest) f.token ∷ []) ss)) (k.goes_on (spot (length text - length rest) f.token ∷ ss) (a_token (length text - length rest) rest f.token t.front t.rest ss t.whole t.token (subst (λ x. Tokens x t.rest ss) m d))) in
    subst (λ x. IsSoFar text x (out ++ spot (length text - length rest) f.token ∷ [])) (sym b) (record { goes_on = o })

pub unknown_step : (text rest behind : List ℕ) (b : ℕ) (out : List Spot) → rest ≡ b ∷ behind → is_blank b ≡ false → next rest ≡ None → IsSoFar text rest out → Tokens 0 text (out ++ spot (length text - length rest) token.Unknown ∷ [])
unknown_step text rest behind b out e h n k = k.goes_on (spot (length text - length rest) token.Unknown ∷ []) (subst (λ x. Tokens (length text - length rest) x (spot (length text - length rest) token.Unknown ∷ [])) (sym e) (none_begins (length text - length rest) b behind h (none_is_next (b ∷ behind) (ap next (sym e) ∙ n))))

pub last_step : (text rest : List ℕ) (out : List Spot) → rest ≡ [] → IsSoFar text rest out → Tokens 0 text out
last_step text rest out e k = subst (Tokens 0 text) (append-nil out) (k.goes_on [] (subst (λ x. Tokens (length text - length rest) x []) (sym e) (no_more (length text - length rest))))

pub first_step : (text : List ℕ) → IsSoFar text text []
first_step text = let z : length text - length text ≡ 0 = omega arith in record { goes_on = λ ss d. subst (λ n. Tokens n text ss) z d }

-- what is found is not empty, and stands within the bytes
pub next_size : (bs : List ℕ) (f : Found) → next bs ≡ Some f → (0 < f.size) × (f.size ≤ length bs)
next_size bs f e =
    let t : IsFound bs f = next_is_token bs f e in
    let p : 0 < length t.front = front_is_longer t.front t.rest f.token t.token in
    let q : length bs ≡ length t.front + length t.rest = ap length t.whole ∙ length-append t.front t.rest in
    let s : length t.front ≡ f.size = t.size in
    (omega arith, omega arith)
