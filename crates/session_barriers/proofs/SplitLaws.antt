-- The lines behind some texts are those behind the last of them, from the place where the others end.
use Rattle.std.proofs.Common.{◌≡◌, append_assoc, ℕ, List, [], ◌∷◌, ◌++◌, refl, sym, ap, ◌∙◌, Bool, true, false, Option, Some, None, if◌then◌else◌}
use Rattle.std.proofs.lemmas.Bool.Decides.{Decides-eqb}
use Rattle.std.proofs.lemmas.List.{append-nil}
use Rattle.cdb_values.specs.declared.replies.Reply.{Reply}
use Rattle.cluster_answers.proofs.OutcomeLaws.{some_same}
use Rattle.cluster_reports.proofs.RestLaws.{first_text, not_some, piece_is, piece_more, skip_so, tell_so}
use Rattle.cluster_reports.proofs.RestLaws.FirstText.{skipped, told_it}
use Rattle.cluster_reports.specs.SessionLines.{behind_piece, lines_behind, piece_at, with_reply}
use Rattle.node_reports.specs.Pieces.{is_over}
use Rattle.report_laws.specs.Play.{is_own, number_told}
use Rattle.report_laws.specs.Told.{numbered, Numbered}
use Rattle.report_laws.specs.Work.{Place, next_place, place_from}
use Rattle.session_language.specs.Language.{Language}
use Rattle.session_language.specs.Replies.{is_last_of}

pub record Split (L : Language) (b : List Numbered) (p : Place) (ts : List (List ℕ)) (xs part : List Numbered) : Type 0 where
  pub earlier : List Numbered
  pub before : xs ≡ earlier ++ part
  pub goes : (ys : List Numbered) (us : List (List ℕ)) → lines_behind L b p (ts ++ us) (xs ++ ys) ≡ lines_behind L (b ++ earlier) (place_from L p ts) us (part ++ ys)

pub split : (L : Language) (b : List Numbered) (p : Place) (ts : List (List ℕ)) (xs part : List Numbered) → lines_behind L b p ts xs ≡ Some part → Split L b p ts xs part
split L b p [] xs part e = record {
  earlier = [];
  before = some_same e;
  goes = λ ys us. ap (λ (z : List Numbered). lines_behind L b p us (z ++ ys)) (some_same e) ∙ ap (λ z. lines_behind L z p us (part ++ ys)) (sym (append-nil b));
}
split L b p (t ∷ ts) xs part e = elim (first_text L b p t ts xs part e) [
  | skipped q w ↦ (let k = split L b (next_place L p t) ts xs part w in
      record {
        earlier = k.earlier;
        before = k.before;
        goes = λ ys us. skip_so L b p t (ts ++ us) (xs ++ ys) q ∙ k.goes ys us;
      })
  | told_it q c v w ↦ (let n = number_told L p t in
      let f = is_last_of (is_own L p t) in
      let k = split L (b ++ numbered n c.0) (next_place L p t) ts c.1 part w in
      let is = piece_is n f xs c v in
      record {
        earlier = numbered n c.0 ++ k.earlier;
        before = is.0 ∙ (ap (λ z. numbered n c.0 ++ z) k.before ∙ sym (append_assoc (numbered n c.0) k.earlier part));
        goes = λ ys us. tell_so L b p t (ts ++ us) (xs ++ ys) (c.0, c.1 ++ ys) q (piece_more n f xs ys c v)
            ∙ (k.goes ys us ∙ ap (λ z. lines_behind L z (place_from L (next_place L p t) ts) us (part ++ ys)) (append_assoc b (numbered n c.0) k.earlier));
      })
]

-- a first line of that number
last_so : (n : ℕ) (f : Reply → Bool) (r : Reply) (xs : List Numbered) → f r ≡ true → piece_at n f ((n, r) ∷ xs) ≡ Some (r ∷ [], xs)
last_so n f r xs p =
    ap (λ b. if b then (if f r then Some (r ∷ [], xs) else with_reply r (piece_at n f xs)) else None) ((Decides-eqb n n).1 refl)
    ∙ ap (λ l. if l then Some (r ∷ [], xs) else with_reply r (piece_at n f xs)) p

goes_so : (n : ℕ) (f : Reply → Bool) (r : Reply) (xs : List Numbered) → f r ≡ false → piece_at n f ((n, r) ∷ xs) ≡ with_reply r (piece_at n f xs)
goes_so n f r xs p =
    ap (λ b. if b then (if f r then Some (r ∷ [], xs) else with_reply r (piece_at n f xs)) else None) ((Decides-eqb n n).1 refl)
    ∙ ap (λ l. if l then Some (r ∷ [], xs) else with_reply r (piece_at n f xs)) p

none_within : (r : Reply) (o : Option (List Reply × List Numbered)) → with_reply r o ≡ None → o ≡ None
none_within r None e = refl
none_within r (Some d) e = not_some (sym e)

-- a reply more of that number, where none so far is a last one
pub piece_goes : (n : ℕ) (f : Reply → Bool) (rs : List Reply) (r : Reply) → piece_at n f (numbered n rs) ≡ None → f r ≡ false → piece_at n f (numbered n rs ++ (n, r) ∷ []) ≡ None
piece_goes n f [] r none p = goes_so n f r [] p
piece_goes n f (y ∷ rs) r none p = go (f y) refl (λ k. piece_goes n f rs r k p)
  where
    go : (b : Bool) → f y ≡ b → (piece_at n f (numbered n rs) ≡ None → piece_at n f (numbered n rs ++ (n, r) ∷ []) ≡ None) → piece_at n f ((n, y) ∷ (numbered n rs ++ (n, r) ∷ [])) ≡ None
    go true q within = not_some (sym none ∙ last_so n f y (numbered n rs) q)
    go false q within = goes_so n f y (numbered n rs ++ (n, r) ∷ []) q ∙ ap (λ z. with_reply y z) (within (none_within y (piece_at n f (numbered n rs)) (sym (goes_so n f y (numbered n rs) q) ∙ none)))

pub piece_ends : (n : ℕ) (f : Reply → Bool) (rs : List Reply) (r : Reply) → piece_at n f (numbered n rs) ≡ None → f r ≡ true → piece_at n f (numbered n rs ++ (n, r) ∷ []) ≡ Some (rs ++ r ∷ [], [])
piece_ends n f [] r none p = last_so n f r [] p
piece_ends n f (y ∷ rs) r none p = go (f y) refl (λ k. piece_ends n f rs r k p)
  where
    go : (b : Bool) → f y ≡ b → (piece_at n f (numbered n rs) ≡ None → piece_at n f (numbered n rs ++ (n, r) ∷ []) ≡ Some (rs ++ r ∷ [], [])) → piece_at n f ((n, y) ∷ (numbered n rs ++ (n, r) ∷ [])) ≡ Some (y ∷ (rs ++ r ∷ []), [])
    go true q within = not_some (sym none ∙ last_so n f y (numbered n rs) q)
    go false q within = goes_so n f y (numbered n rs ++ (n, r) ∷ []) q ∙ ap (λ z. with_reply y z) (within (none_within y (piece_at n f (numbered n rs)) (sym (goes_so n f y (numbered n rs) q) ∙ none)))

-- one text that is not over, of which these lines are not whole
pub none_so : (L : Language) (b : List Numbered) (p : Place) (t : List ℕ) (xs : List Numbered) → is_over (number_told L p t) b ≡ false → piece_at (number_told L p t) (is_last_of (is_own L p t)) xs ≡ None → lines_behind L b p (t ∷ []) xs ≡ None
none_so L b p t xs q w =
    ap (λ o. if o then lines_behind L b (next_place L p t) [] xs else behind_piece (piece_at (number_told L p t) (is_last_of (is_own L p t)) xs) (λ mine rest. lines_behind L (b ++ numbered (number_told L p t) mine) (next_place L p t) [] rest)) q
    ∙ ap (λ z. behind_piece z (λ mine rest. lines_behind L (b ++ numbered (number_told L p t) mine) (next_place L p t) [] rest)) w

-- and where they are not whole, it is not over
pub so_none : (L : Language) (b : List Numbered) (p : Place) (t : List ℕ) (xs : List Numbered) → lines_behind L b p (t ∷ []) xs ≡ None → (is_over (number_told L p t) b ≡ false) × (piece_at (number_told L p t) (is_last_of (is_own L p t)) xs ≡ None)
so_none L b p t xs none = go (is_over (number_told L p t) b) refl (piece_at (number_told L p t) (is_last_of (is_own L p t)) xs) refl
  where
    go : (o : Bool) → is_over (number_told L p t) b ≡ o → (c : Option (List Reply × List Numbered)) → piece_at (number_told L p t) (is_last_of (is_own L p t)) xs ≡ c → (is_over (number_told L p t) b ≡ false) × (piece_at (number_told L p t) (is_last_of (is_own L p t)) xs ≡ None)
    go true q c w = not_some (sym none ∙ skip_so L b p t [] xs q)
    go false q None w = (q, w)
    go false q (Some c) w = not_some (sym none ∙ tell_so L b p t [] xs c q w)

pub numbered_more : (n : ℕ) (rs : List Reply) (r : Reply) → numbered n (rs ++ r ∷ []) ≡ numbered n rs ++ (n, r) ∷ []
numbered_more n [] r = refl
numbered_more n (y ∷ rs) r = ap (λ (z : List Numbered). (n, y) ∷ z) (numbered_more n rs r)
