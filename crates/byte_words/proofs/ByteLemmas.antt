-- Splitting bytes at the first one that is not of a kind.
use Rattle.std.proofs.Common.{◌≡◌, ℕ, suc, ◌+◌, ◌<◌, List, [], ◌∷◌, ◌++◌, length, get_or, take, drop, Bool, true, false, refl, sym, ◌∙◌, ap, append_assoc, add-one}
use Rattle.std.proofs.Math.Seq.{drop-cons}
use Rattle.std.proofs.lemmas.List.{take_more}
use Rattle.byte_words.specs.Words.{front, behind}

-- how far the split has come: all bytes before a place are of the kind
pub record WhileAt (test : ℕ → Bool) (bytes : List ℕ) (at : ℕ) : Type 0 where
  pub before : front test bytes ≡ take at bytes ++ front test (drop at bytes)
  pub after : behind test bytes ≡ behind test (drop at bytes)

front_pass : (test : ℕ → Bool) (b : ℕ) (bs : List ℕ) → test b ≡ true → front test (b ∷ bs) ≡ b ∷ front test bs
front_pass test b bs h = rw h refl

front_stop : (test : ℕ → Bool) (b : ℕ) (bs : List ℕ) → test b ≡ false → front test (b ∷ bs) ≡ []
front_stop test b bs h = rw h refl

behind_pass : (test : ℕ → Bool) (b : ℕ) (bs : List ℕ) → test b ≡ true → behind test (b ∷ bs) ≡ behind test bs
behind_pass test b bs h = rw h refl

behind_stop : (test : ℕ → Bool) (b : ℕ) (bs : List ℕ) → test b ≡ false → behind test (b ∷ bs) ≡ b ∷ bs
behind_stop test b bs h = rw h refl

front_at : (test : ℕ → Bool) (bytes : List ℕ) (at : ℕ) → at < length bytes → test (get_or bytes at 0) ≡ true → front test (drop at bytes) ≡ get_or bytes at 0 ∷ front test (drop (suc at) bytes)
front_at test bytes at h t = ap (front test) (drop-cons bytes at 0 h) ∙ front_pass test (get_or bytes at 0) (drop (suc at) bytes) t

pub while_more : (test : ℕ → Bool) (bytes : List ℕ) (at : ℕ) → WhileAt test bytes at → at < length bytes → test (get_or bytes at 0) ≡ true → WhileAt test bytes (at + 1)
while_more test bytes at w h t = record {
  before =
      let f = front_at test bytes at h t in
      let k = take_more bytes at 0 h in
      let a = append_assoc (take at bytes) (get_or bytes at 0 ∷ []) (front test (drop (suc at) bytes)) in
      w.before ∙ (ap (λ x. take at bytes ++ x) f ∙ (sym a ∙ (ap (λ x. x ++ front test (drop (suc at) bytes)) (sym k) ∙ ap (λ n. take (at + 1) bytes ++ front test (drop n bytes)) (sym (add-one at)))));
  after = w.after ∙ (ap (behind test) (drop-cons bytes at 0 h) ∙ (behind_pass test (get_or bytes at 0) (drop (suc at) bytes) t ∙ ap (λ n. behind test (drop n bytes)) (sym (add-one at))));
}

append_nil : {A : Type 0} (xs : List A) → xs ++ [] ≡ xs
append_nil [] = refl
append_nil (x ∷ xs) = ap (λ ys. x ∷ ys) (append_nil xs)

pub while_before : (test : ℕ → Bool) (bytes : List ℕ) (at : ℕ) → WhileAt test bytes at → at < length bytes → test (get_or bytes at 0) ≡ false → take at bytes ≡ front test bytes
while_before test bytes at w h t =
    let e = ap (front test) (drop-cons bytes at 0 h) ∙ front_stop test (get_or bytes at 0) (drop (suc at) bytes) t in
    sym (w.before ∙ (ap (λ x. take at bytes ++ x) e ∙ append_nil (take at bytes)))

pub while_after : (test : ℕ → Bool) (bytes : List ℕ) (at : ℕ) → WhileAt test bytes at → at < length bytes → test (get_or bytes at 0) ≡ false → drop at bytes ≡ behind test bytes
while_after test bytes at w h t =
    let d = drop-cons bytes at 0 h in
    sym (w.after ∙ (ap (behind test) d ∙ (behind_stop test (get_or bytes at 0) (drop (suc at) bytes) t ∙ sym d)))

drop_whole : (bytes : List ℕ) → drop (length bytes) bytes ≡ []
drop_whole [] = refl
drop_whole (b ∷ bs) = drop_whole bs

pub while_end_before : (test : ℕ → Bool) (bytes : List ℕ) → WhileAt test bytes (length bytes) → take (length bytes) bytes ≡ front test bytes
while_end_before test bytes w = sym (w.before ∙ (ap (λ x. take (length bytes) bytes ++ front test x) (drop_whole bytes) ∙ append_nil (take (length bytes) bytes)))

pub while_end_after : (test : ℕ → Bool) (bytes : List ℕ) → WhileAt test bytes (length bytes) → drop (length bytes) bytes ≡ behind test bytes
while_end_after test bytes w = drop_whole bytes ∙ sym (w.after ∙ ap (behind test) (drop_whole bytes))
