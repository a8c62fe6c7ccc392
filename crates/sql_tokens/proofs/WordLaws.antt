-- Words: what the step over a word finds is a word, and each word is found.
use Rattle.std.proofs.Common.{◌≡◌, ℕ, Bool, true, false, ◌||◌, cond, List, [], ◌∷◌, ◌++◌, length, take, drop, Option, Some, None, refl, sym, ◌∙◌, ap}
use Rattle.std.specs.Prelude.{find, bytes_eq}
use Rattle.std.specs.List.{prefix_len}
use Rattle.std.specs.Char.{is_ascii_digit}
use Rattle.std.proofs.lemmas.List.{take-append-drop}
use Rattle.std.proofs.Math.Seq.{take-append_seam}
use Rattle.std.proofs.lemmas.Slice.Eq.{bytes_eq-Decides}
use Rattle.sql_tokens.specs.Letters.{is_word_byte, is_word_start, next_is, begins_blob}
use Rattle.sql_tokens.specs.Words.{IsWord, folded, spelling}
use Rattle.sql_tokens.specs.Token.{IsToken, IsKeyword, IsName}
use Rattle.sql_tokens.specs.Reading.{found, keyword_of, word_token, word_found}
use Rattle.sql_tokens.specs.declared.words.TheConstants.{KEYWORDS}
use Rattle.sql_tokens.specs.declared.kinds.Keyword.{Keyword}
use Rattle.sql_tokens.specs.declared.kinds.Keyword.TheVariants as keyword
use Rattle.sql_tokens.specs.declared.kinds.Token.TheVariants as token
use Rattle.sql_tokens.proofs.BasicLaws.{front_passes, front_ends, front_is, front_begins}

-- an element that a search finds passes its test
pub find_passes : {X : Type 0} (p : X → Bool) (xs : List X) (x : X) → find p xs ≡ Some x → p x ≡ true
find_passes p [] x h = cc
find_passes p (y ∷ ys) x h = go (p y) refl (find_passes p ys x) h
  where
    go : (v : Bool) → p y ≡ v → (find p ys ≡ Some x → p x ≡ true) → cond v (Some y) (find p ys) ≡ Some x → p x ≡ true
    go true e f h = let k : y ≡ x = cc in ap p (sym k) ∙ e
    go false e f h = f h

pub keyword_is_spelled : (w : List ℕ) (k : Keyword) → keyword_of w ≡ Some k → spelling k ≡ w
unfolding keyword_of
keyword_is_spelled w k h = (bytes_eq-Decides (spelling k) w).0 (find_passes (λ k. bytes_eq (spelling k) w) KEYWORDS k h)

-- each keyword is found by its spelling
pub spelled_keyword : (k : Keyword) → keyword_of (spelling k) ≡ Some k
unfolding keyword_of
spelled_keyword keyword.All = refl
spelled_keyword keyword.And = refl
spelled_keyword keyword.As = refl
spelled_keyword keyword.Asc = refl
spelled_keyword keyword.Begin = refl
spelled_keyword keyword.Blob = refl
spelled_keyword keyword.By = refl
spelled_keyword keyword.Commit = refl
spelled_keyword keyword.Count = refl
spelled_keyword keyword.Create = refl
spelled_keyword keyword.Delete = refl
spelled_keyword keyword.Desc = refl
spelled_keyword keyword.From = refl
spelled_keyword keyword.Group = refl
spelled_keyword keyword.Insert = refl
spelled_keyword keyword.Int = refl
spelled_keyword keyword.Integer = refl
spelled_keyword keyword.Into = refl
spelled_keyword keyword.Is = refl
spelled_keyword keyword.Key = refl
spelled_keyword keyword.Limit = refl
spelled_keyword keyword.Lost = refl
spelled_keyword keyword.Max = refl
spelled_keyword keyword.Min = refl
spelled_keyword keyword.NoMajority = refl
spelled_keyword keyword.Not = refl
spelled_keyword keyword.Null = refl
spelled_keyword keyword.Or = refl
spelled_keyword keyword.Order = refl
spelled_keyword keyword.Pk = refl
spelled_keyword keyword.Primary = refl
spelled_keyword keyword.Rollback = refl
spelled_keyword keyword.Select = refl
spelled_keyword keyword.Selectv = refl
spelled_keyword keyword.Serializable = refl
spelled_keyword keyword.Set = refl
spelled_keyword keyword.Snapshot = refl
spelled_keyword keyword.Sum = refl
spelled_keyword keyword.Table = refl
spelled_keyword keyword.Text = refl
spelled_keyword keyword.TooOld = refl
spelled_keyword keyword.Transaction = refl
spelled_keyword keyword.Unique = refl
spelled_keyword keyword.Update = refl
spelled_keyword keyword.Values = refl
spelled_keyword keyword.Where = refl

pub keyword_is_found : (w : List ℕ) (k : Keyword) → w ≡ spelling k → keyword_of w ≡ Some k
keyword_is_found w k e = ap keyword_of e ∙ spelled_keyword k

pub no_keyword : (w : List ℕ) → ((k : Keyword) → w ≡ spelling k → ⊥) → keyword_of w ≡ None
no_keyword w h = go (keyword_of w) refl
  where
    go : (o : Option Keyword) → keyword_of w ≡ o → o ≡ None
    go None e = refl
    go (Some k) e = absurd (h k (sym (keyword_is_spelled w k e)))

-- the step over a word finds it
pub word_is_found : (w rest : List ℕ) → IsWord w rest → word_found (w ++ rest) ≡ found (word_token (folded w) (keyword_of (folded w))) (length w)
unfolding word_found
word_is_found w rest h = let n : prefix_len is_word_byte (w ++ rest) ≡ length w = front_is is_word_byte w rest h.each h.ends in
    let t : take (prefix_len is_word_byte (w ++ rest)) (w ++ rest) ≡ w = ap (λ m. take m (w ++ rest)) n ∙ take-append_seam w rest in
    ap (λ m. found (word_token (folded (take (prefix_len is_word_byte (w ++ rest)) (w ++ rest))) (keyword_of (folded (take (prefix_len is_word_byte (w ++ rest)) (w ++ rest))))) m) n ∙ ap (λ v. found (word_token (folded v) (keyword_of (folded v))) (length w)) t

pub keyword_word : (k : Keyword) (w rest : List ℕ) → IsKeyword k w rest → word_found (w ++ rest) ≡ found (token.Keyword k) (length w)
keyword_word k w rest h = word_is_found w rest h.word ∙ ap (λ o. found (word_token (folded w) o) (length w)) (keyword_is_found (folded w) k h.spelled)

pub name_word : (n w rest : List ℕ) → IsName n w rest → word_found (w ++ rest) ≡ found (token.Name n) (length w)
name_word n w rest h = word_is_found w rest h.word ∙ (ap (λ o. found (word_token (folded w) o) (length w)) (no_keyword (folded w) (λ k e. h.free k (h.spelled ∙ e))) ∙ ap (λ v. found (token.Name v) (length w)) (sym h.spelled))

-- a word is a keyword or a name
pub word_is_token : (w rest : List ℕ) → IsWord w rest → IsToken (word_token (folded w) (keyword_of (folded w))) w rest
word_is_token w rest h = go (keyword_of (folded w)) refl
  where
    go : (o : Option Keyword) → keyword_of (folded w) ≡ o → IsToken (word_token (folded w) o) w rest
    go None e = record { word = h; spelled = refl; free = λ k s. let x : None ≡ Some k = sym e ∙ keyword_is_found (folded w) k s in (cc) }
    go (Some k) e = record { word = h; spelled = sym (keyword_is_spelled (folded w) k e) }

-- what stands at the front where a word begins
pub word_begins : (b : ℕ) (bs : List ℕ) → is_word_start b ≡ true → begins_blob (b ∷ bs) ≡ false → IsWord (take (prefix_len is_word_byte (b ∷ bs)) (b ∷ bs)) (drop (prefix_len is_word_byte (b ∷ bs)) (b ∷ bs))
word_begins b bs s x = let p : is_word_byte b ≡ true = ap (λ v. v || is_ascii_digit b) s in record {
  begins = ap (next_is is_word_start) (front_begins is_word_byte b bs p) ∙ s;
  each = front_passes is_word_byte (b ∷ bs);
  ends = front_ends is_word_byte (b ∷ bs);
  no_blob = ap begins_blob (take-append-drop (prefix_len is_word_byte (b ∷ bs)) (b ∷ bs)) ∙ x;
}
