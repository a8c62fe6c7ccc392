-- The lines of a session behind those of its lines of the script that are over.
use Rattle.std.proofs.Common.{◌≡◌, append_assoc, ℕ, ◌==◌, List, [], ◌∷◌, ◌++◌, refl, sym, subst, ap, ◌∙◌, Bool, true, false, Option, Some, None, if◌then◌else◌}
use Rattle.std.proofs.lemmas.Bool.Decides.{Decides-eqb}
use mathlib.Core.Logic.{◌⊎◌, inl, inr}
use Rattle.cdb_values.specs.declared.replies.Reply.{Reply}
use Rattle.std.proofs.lemmas.List.{append-nil}
use Rattle.cluster_answers.proofs.OutcomeLaws.{some_same}
use Rattle.cluster_reports.specs.SessionLines.{with_reply, piece_at, behind_piece, lines_behind}
use Rattle.node_reports.specs.Pieces.{is_over, IsItsPiece, ArePieces}
use Rattle.report_laws.specs.Play.{is_own, number_told}
use Rattle.report_laws.specs.Told.{numbered, Numbered}
use Rattle.report_laws.specs.Work.{Place, next_place, place_from}
use Rattle.session_language.specs.Language.{Language}
use Rattle.session_language.specs.Replies.{are_none, are_up_to, is_last_of}

pub not_some : {A B : Type 0} {x : A} → None ≡ Some x → B
not_some e = absurd (cc)

pub false_true : {A : Type 0} → false ≡ true → A
false_true e = absurd (cc)

-- one piece

abbrev Piece : Type 0
Piece = Option (List Reply × List Numbered)

-- what a first line does
data FirstLine (n : ℕ) (f : Reply → Bool) (x : Numbered) (xs : List Numbered) (c : List Reply × List Numbered) : Type 0 where
  ends : x.0 ≡ n → f x.1 ≡ true → (x.1 ∷ [], xs) ≡ c → FirstLine n f x xs c
  goes : x.0 ≡ n → f x.1 ≡ false → (d : List Reply × List Numbered) → piece_at n f xs ≡ Some d → (x.1 ∷ d.0, d.1) ≡ c → FirstLine n f x xs c

first_line : (n : ℕ) (f : Reply → Bool) (x : Numbered) (xs : List Numbered) (c : List Reply × List Numbered) → piece_at n f (x ∷ xs) ≡ Some c → FirstLine n f x xs c
first_line n f x xs c e = go (x.0 == n) refl (f x.1) refl (piece_at n f xs) refl e
  where
    go : (b : Bool) → (x.0 == n) ≡ b → (l : Bool) → f x.1 ≡ l → (o : Piece) → piece_at n f xs ≡ o → (if b then (if l then Some (x.1 ∷ [], xs) else with_reply x.1 o) else None) ≡ Some c → FirstLine n f x xs c
    go false q l p o w e = not_some e
    go true q true p o w e = ends ((Decides-eqb x.0 n).0 q) p (some_same e)
    go true q false p None w e = not_some e
    go true q false p (Some d) w e = goes ((Decides-eqb x.0 n).0 q) p d w (some_same e)

ends_so : (n : ℕ) (f : Reply → Bool) (x : Numbered) (xs : List Numbered) → x.0 ≡ n → f x.1 ≡ true → piece_at n f (x ∷ xs) ≡ Some (x.1 ∷ [], xs)
ends_so n f x xs q p =
    ap (λ b. if b then (if f x.1 then Some (x.1 ∷ [], xs) else with_reply x.1 (piece_at n f xs)) else None) ((Decides-eqb x.0 n).1 q)
    ∙ ap (λ l. if l then Some (x.1 ∷ [], xs) else with_reply x.1 (piece_at n f xs)) p

goes_so : (n : ℕ) (f : Reply → Bool) (x : Numbered) (xs : List Numbered) → x.0 ≡ n → f x.1 ≡ false → piece_at n f (x ∷ xs) ≡ with_reply x.1 (piece_at n f xs)
goes_so n f x xs q p =
    ap (λ b. if b then (if f x.1 then Some (x.1 ∷ [], xs) else with_reply x.1 (piece_at n f xs)) else None) ((Decides-eqb x.0 n).1 q)
    ∙ ap (λ l. if l then Some (x.1 ∷ [], xs) else with_reply x.1 (piece_at n f xs)) p

-- lines behind it change nothing
pub piece_more : (n : ℕ) (f : Reply → Bool) (xs ys : List Numbered) (c : List Reply × List Numbered) → piece_at n f xs ≡ Some c → piece_at n f (xs ++ ys) ≡ Some (c.0, c.1 ++ ys)
piece_more n f [] ys c e = not_some e
piece_more n f (x ∷ xs) ys c e = elim (first_line n f x xs c e) [
  | ends q p w ↦ ends_so n f x (xs ++ ys) q p ∙ ap (λ (z : List Reply × List Numbered). Some (z.0, z.1 ++ ys)) w
  | goes q p d v w ↦ goes_so n f x (xs ++ ys) q p ∙ (ap (λ z. with_reply x.1 z) (piece_more n f xs ys d v) ∙ ap (λ (z : List Reply × List Numbered). Some (z.0, z.1 ++ ys)) w)
]

-- what it is
pub piece_is : (n : ℕ) (f : Reply → Bool) (xs : List Numbered) (c : List Reply × List Numbered) → piece_at n f xs ≡ Some c → (xs ≡ numbered n c.0 ++ c.1) × (are_up_to f c.0 ≡ true)
piece_is n f [] c e = not_some e
piece_is n f (x ∷ xs) c e = elim (first_line n f x xs c e) [
  | ends q p w ↦ (
    ap (λ (k : ℕ). (k, x.1) ∷ xs) q ∙ ap (λ (z : List Reply × List Numbered). numbered n z.0 ++ z.1) w,
    subst (λ (z : List Reply × List Numbered). are_up_to f z.0 ≡ true) w (ap (λ b. if b then true else false) p),
  )
  | goes q p d v w ↦ (
    ap (λ (z : List Numbered). x ∷ z) (piece_is n f xs d v).0 ∙ (ap (λ (k : ℕ). (k, x.1) ∷ (numbered n d.0 ++ d.1)) q ∙ ap (λ (z : List Reply × List Numbered). numbered n z.0 ++ z.1) w),
    subst (λ (z : List Reply × List Numbered). are_up_to f z.0 ≡ true) w (ap (λ b. if b then are_none d.0 else are_up_to f d.0) p ∙ (piece_is n f xs d v).1),
  )
]

-- without the last line: it is behind the piece, or ends it
pub piece_less : (n : ℕ) (f : Reply → Bool) (xs : List Numbered) (x : Numbered) (c : List Reply × List Numbered) → piece_at n f (xs ++ x ∷ []) ≡ Some c → (c.1 ≡ []) ⊎ ((r : List Numbered) × (c.1 ≡ r ++ x ∷ []) × (piece_at n f xs ≡ Some (c.0, r)))
piece_less n f [] x c e = elim (first_line n f x [] c e) [
  | ends q p w ↦ inl (sym (ap (λ (z : List Reply × List Numbered). z.1) w))
  | goes q p d v w ↦ not_some v
]
piece_less n f (y ∷ xs) x c e = elim (first_line n f y (xs ++ x ∷ []) c e) [
  | ends q p w ↦ inr (xs, sym (ap (λ (z : List Reply × List Numbered). z.1) w), ends_so n f y xs q p ∙ ap (λ (z : List Reply × List Numbered). Some (z.0, xs)) w)
  | goes q p d v w ↦ elim (piece_less n f xs x d v) [
    | inl z ↦ inl (sym (ap (λ (z : List Reply × List Numbered). z.1) w) ∙ z)
    | inr k ↦ inr (k.0, sym (ap (λ (z : List Reply × List Numbered). z.1) w) ∙ k.1, goes_so n f y xs q p ∙ (ap (λ z. with_reply y.1 z) k.2 ∙ ap (λ (z : List Reply × List Numbered). Some (z.0, k.0)) w))
  ]
]

-- a piece that is not told whole yet goes on in the lines behind
pub piece_across : (n : ℕ) (f : Reply → Bool) (xs ys : List Numbered) (c : List Reply × List Numbered) → piece_at n f xs ≡ None → piece_at n f (xs ++ ys) ≡ Some c → (left : List Numbered) × (numbered n c.0 ≡ xs ++ left) × (ys ≡ left ++ c.1)
piece_across n f [] ys c none e = (numbered n c.0, refl, (piece_is n f ys c e).0)
piece_across n f (x ∷ xs) ys c none e = elim (first_line n f x (xs ++ ys) c e) [
  | ends q p w ↦ not_some (sym none ∙ ends_so n f x xs q p)
  | goes q p d v w ↦ later q w (piece_across n f xs ys d (no_more (sym (goes_so n f x xs q p) ∙ none)) v)
]
  where
    no_more : with_reply x.1 (piece_at n f xs) ≡ None → piece_at n f xs ≡ None
    no_more e = go (piece_at n f xs) e
      where
        go : (o : Piece) → with_reply x.1 o ≡ None → o ≡ None
        go None e = refl
        go (Some d) e = not_some (sym e)

    later : {d : List Reply × List Numbered} → x.0 ≡ n → (x.1 ∷ d.0, d.1) ≡ c → (left : List Numbered) × (numbered n d.0 ≡ xs ++ left) × (ys ≡ left ++ d.1) → (left : List Numbered) × (numbered n c.0 ≡ (x ∷ xs) ++ left) × (ys ≡ left ++ c.1)
    later {d} q w k = (
      k.0,
      sym (ap (λ (z : List Reply × List Numbered). numbered n z.0) w) ∙ (ap (λ (j : ℕ). (j, x.1) ∷ numbered n d.0) (sym q) ∙ ap (λ (z : List Numbered). x ∷ z) k.1),
      k.2 ∙ ap (λ (z : List Reply × List Numbered). k.0 ++ z.1) w,
    )

-- all pieces

abbrev number_of_text : Language → Place → List ℕ → ℕ
number_of_text L p t = number_told L p t

-- what a first text does
pub data FirstText (L : Language) (b : List Numbered) (p : Place) (t : List ℕ) (ts : List (List ℕ)) (xs : List Numbered) (r : List Numbered) : Type 0 where
  skipped : is_over (number_told L p t) b ≡ true → lines_behind L b (next_place L p t) ts xs ≡ Some r → FirstText L b p t ts xs r
  told_it : is_over (number_told L p t) b ≡ false → (c : List Reply × List Numbered) → piece_at (number_told L p t) (is_last_of (is_own L p t)) xs ≡ Some c → lines_behind L (b ++ numbered (number_told L p t) c.0) (next_place L p t) ts c.1 ≡ Some r → FirstText L b p t ts xs r

pub first_text : (L : Language) (b : List Numbered) (p : Place) (t : List ℕ) (ts : List (List ℕ)) (xs r : List Numbered) → lines_behind L b p (t ∷ ts) xs ≡ Some r → FirstText L b p t ts xs r
first_text L b p t ts xs r e = go (is_over (number_told L p t) b) refl (piece_at (number_told L p t) (is_last_of (is_own L p t)) xs) refl e
  where
    go : (o : Bool) → is_over (number_told L p t) b ≡ o → (c : Piece) → piece_at (number_told L p t) (is_last_of (is_own L p t)) xs ≡ c → (if o then lines_behind L b (next_place L p t) ts xs else behind_piece c (λ mine rest. lines_behind L (b ++ numbered (number_told L p t) mine) (next_place L p t) ts rest)) ≡ Some r → FirstText L b p t ts xs r
    go true q c w e = skipped q e
    go false q None w e = not_some e
    go false q (Some d) w e = told_it q d w e

pub skip_so : (L : Language) (b : List Numbered) (p : Place) (t : List ℕ) (ts : List (List ℕ)) (xs : List Numbered) → is_over (number_told L p t) b ≡ true → lines_behind L b p (t ∷ ts) xs ≡ lines_behind L b (next_place L p t) ts xs
skip_so L b p t ts xs q = ap (λ o. if o then lines_behind L b (next_place L p t) ts xs else behind_piece (piece_at (number_told L p t) (is_last_of (is_own L p t)) xs) (λ mine rest. lines_behind L (b ++ numbered (number_told L p t) mine) (next_place L p t) ts rest)) q

pub tell_so : (L : Language) (b : List Numbered) (p : Place) (t : List ℕ) (ts : List (List ℕ)) (xs : List Numbered) (c : List Reply × List Numbered) → is_over (number_told L p t) b ≡ false → piece_at (number_told L p t) (is_last_of (is_own L p t)) xs ≡ Some c → lines_behind L b p (t ∷ ts) xs ≡ lines_behind L (b ++ numbered (number_told L p t) c.0) (next_place L p t) ts c.1
tell_so L b p t ts xs c q w =
    ap (λ o. if o then lines_behind L b (next_place L p t) ts xs else behind_piece (piece_at (number_told L p t) (is_last_of (is_own L p t)) xs) (λ mine rest. lines_behind L (b ++ numbered (number_told L p t) mine) (next_place L p t) ts rest)) q
    ∙ ap (λ z. behind_piece z (λ mine rest. lines_behind L (b ++ numbered (number_told L p t) mine) (next_place L p t) ts rest)) w

-- lines behind them change nothing
pub behind_more : (L : Language) (b : List Numbered) (p : Place) (ts : List (List ℕ)) (xs ys r : List Numbered) → lines_behind L b p ts xs ≡ Some r → lines_behind L b p ts (xs ++ ys) ≡ Some (r ++ ys)
behind_more L b p [] xs ys r e = ap (λ z. Some (z ++ ys)) (some_same e)
behind_more L b p (t ∷ ts) xs ys r e = elim (first_text L b p t ts xs r e) [
  | skipped q w ↦ skip_so L b p t ts (xs ++ ys) q ∙ behind_more L b (next_place L p t) ts xs ys r w
  | told_it q c v w ↦ tell_so L b p t ts (xs ++ ys) (c.0, c.1 ++ ys) q (piece_more (number_told L p t) (is_last_of (is_own L p t)) xs ys c v) ∙ behind_more L (b ++ numbered (number_told L p t) c.0) (next_place L p t) ts c.1 ys r w
]

-- they are pieces
pub behind_pieces : (L : Language) (b : List Numbered) (p : Place) (ts : List (List ℕ)) (xs r : List Numbered) → lines_behind L b p ts xs ≡ Some r → (earlier : List Numbered) × (xs ≡ earlier ++ r) × ArePieces L b p ts earlier
behind_pieces L b p [] xs r e = ([], some_same e, refl)
behind_pieces L b p (t ∷ ts) xs r e = elim (first_text L b p t ts xs r e) [
  | skipped q w ↦ (let k = behind_pieces L b (next_place L p t) ts xs r w in
      (k.0, k.1, ([], k.0, refl, inr (refl, q), subst (λ z. ArePieces L z (next_place L p t) ts k.0) (sym (append-nil b)) k.2)))
  | told_it q c v w ↦ (let k = behind_pieces L (b ++ numbered (number_told L p t) c.0) (next_place L p t) ts c.1 r w in
      let is = piece_is (number_told L p t) (is_last_of (is_own L p t)) xs c v in
      (numbered (number_told L p t) c.0 ++ k.0, is.0 ∙ (ap (λ z. numbered (number_told L p t) c.0 ++ z) k.1 ∙ sym (append_assoc (numbered (number_told L p t) c.0) k.0 r)), (c.0, k.0, refl, inl is.1, k.2)))
]

-- without the last line: it is behind them, or they end with it
pub behind_none : (L : Language) (b : List Numbered) (p : Place) (ts : List (List ℕ)) (r : List Numbered) → lines_behind L b p ts [] ≡ Some r → r ≡ []
behind_none L b p [] r e = sym (some_same e)
behind_none L b p (t ∷ ts) r e = elim (first_text L b p t ts [] r e) [
  | skipped q w ↦ behind_none L b (next_place L p t) ts r w
  | told_it q c v w ↦ not_some v
]

pub behind_less : (L : Language) (b : List Numbered) (p : Place) (ts : List (List ℕ)) (xs : List Numbered) (x : Numbered) (r : List Numbered) → lines_behind L b p ts (xs ++ x ∷ []) ≡ Some r → (r ≡ []) ⊎ ((s : List Numbered) × (lines_behind L b p ts xs ≡ Some s))
behind_less L b p [] xs x r e = inr (xs, refl)
behind_less L b p (t ∷ ts) xs x r e = elim (first_text L b p t ts (xs ++ x ∷ []) r e) [
  | skipped q w ↦ elim (behind_less L b (next_place L p t) ts xs x r w) [ inl z ↦ inl z | inr k ↦ inr (k.0, skip_so L b p t ts xs q ∙ k.1) ]
  | told_it q c v w ↦ elim (piece_less (number_told L p t) (is_last_of (is_own L p t)) xs x c v) [
    | inl z ↦ inl (behind_none L (b ++ numbered (number_told L p t) c.0) (next_place L p t) ts r (subst (λ z. lines_behind L (b ++ numbered (number_told L p t) c.0) (next_place L p t) ts z ≡ Some r) z w))
    | inr k ↦ elim (behind_less L (b ++ numbered (number_told L p t) c.0) (next_place L p t) ts k.0 x r (subst (λ z. lines_behind L (b ++ numbered (number_told L p t) c.0) (next_place L p t) ts z ≡ Some r) k.1 w)) [
      | inl z ↦ inl z
      | inr m ↦ inr (m.0, tell_so L b p t ts xs (c.0, k.0) q k.2 ∙ m.1)
    ]
  ]
]

-- where more texts are over, so are the first of them
pub behind_front : (L : Language) (b : List Numbered) (p : Place) (ts us : List (List ℕ)) (xs r : List Numbered) → lines_behind L b p (ts ++ us) xs ≡ Some r → (s : List Numbered) × (lines_behind L b p ts xs ≡ Some s)
behind_front L b p [] us xs r e = (xs, refl)
behind_front L b p (t ∷ ts) us xs r e = elim (first_text L b p t (ts ++ us) xs r e) [
  | skipped q w ↦ (let k = behind_front L b (next_place L p t) ts us xs r w in (k.0, skip_so L b p t ts xs q ∙ k.1))
  | told_it q c v w ↦ (let k = behind_front L (b ++ numbered (number_told L p t) c.0) (next_place L p t) ts us c.1 r w in (k.0, tell_so L b p t ts xs c q v ∙ k.1))
]

-- the piece of the text at which a session is: a part of it was told, and the rest is told later
pub record Across (L : Language) (b : List Numbered) (p : Place) (ts : List (List ℕ)) (t : List ℕ) (xs ys part : List Numbered) : Type 0 where
  pub earlier : List Numbered
  pub mine : List Reply
  pub left : List Numbered
  pub others : List Numbered
  pub before : xs ≡ earlier ++ part
  pub pieces : ArePieces L b p ts earlier
  pub after : ys ≡ left ++ others
  pub its : part ++ left ≡ numbered (number_told L (place_from L p ts) t) mine
  pub is : IsItsPiece L (b ++ earlier) (place_from L p ts) t mine

pub across : (L : Language) (b : List Numbered) (p : Place) (ts : List (List ℕ)) (t : List ℕ) (us : List (List ℕ)) (xs ys part r : List Numbered) → lines_behind L b p ts xs ≡ Some part → lines_behind L b p (ts ++ t ∷ []) xs ≡ None → lines_behind L b p (ts ++ t ∷ us) (xs ++ ys) ≡ Some r → Across L b p ts t xs ys part
across L b p [] t us xs ys part r over at_it all = elim (first_text L b p t us (xs ++ ys) r all) [
  | skipped q w ↦ not_some (sym at_it ∙ skip_so L b p t [] xs q)
  | told_it q c v w ↦ (
      let k = piece_across (number_told L p t) (is_last_of (is_own L p t)) xs ys c (no_piece q) v in
      record {
        earlier = [];
        mine = c.0;
        left = k.0;
        others = c.1;
        before = some_same over;
        pieces = refl;
        after = k.2;
        its = ap (λ z. z ++ k.0) (sym (some_same over)) ∙ sym k.1;
        is = inl (piece_is (number_told L p t) (is_last_of (is_own L p t)) (xs ++ ys) c v).1;
      })
]
  where
    no_piece : is_over (number_told L p t) b ≡ false → piece_at (number_told L p t) (is_last_of (is_own L p t)) xs ≡ None
    no_piece q = go (piece_at (number_told L p t) (is_last_of (is_own L p t)) xs) refl
      where
        go : (o : Piece) → piece_at (number_told L p t) (is_last_of (is_own L p t)) xs ≡ o → o ≡ None
        go None w = refl
        go (Some c) w = not_some (sym at_it ∙ tell_so L b p t [] xs c q w)
across L b p (d ∷ ts) t us xs ys part r over at_it all = elim (first_text L b p d ts xs part over) [
  | skipped q w ↦ (
      let k = across L b (next_place L p d) ts t us xs ys part r w (sym (skip_so L b p d (ts ++ t ∷ []) xs q) ∙ at_it) (sym (skip_so L b p d (ts ++ t ∷ us) (xs ++ ys) q) ∙ all) in
      record {
        earlier = k.earlier;
        mine = k.mine;
        left = k.left;
        others = k.others;
        before = k.before;
        pieces = ([], k.earlier, refl, inr (refl, q), subst (λ z. ArePieces L z (next_place L p d) ts k.earlier) (sym (append-nil b)) k.pieces);
        after = k.after;
        its = k.its;
        is = k.is;
      })
  | told_it q c v w ↦ (
      let n = number_told L p d in
      let is = piece_is n (is_last_of (is_own L p d)) xs c v in
      let k = across L (b ++ numbered n c.0) (next_place L p d) ts t us c.1 ys part r w
      (sym (tell_so L b p d (ts ++ t ∷ []) xs c q v) ∙ at_it)
      (sym (tell_so L b p d (ts ++ t ∷ us) (xs ++ ys) (c.0, c.1 ++ ys) q (piece_more n (is_last_of (is_own L p d)) xs ys c v)) ∙ all) in
      record {
        earlier = numbered n c.0 ++ k.earlier;
        mine = k.mine;
        left = k.left;
        others = k.others;
        before = is.0 ∙ (ap (λ z. numbered n c.0 ++ z) k.before ∙ sym (append_assoc (numbered n c.0) k.earlier part));
        pieces = (c.0, k.earlier, refl, inl is.1, k.pieces);
        after = k.after;
        its = k.its;
        is = subst (λ z. IsItsPiece L z (place_from L (next_place L p d) ts) t k.mine) (append_assoc b (numbered n c.0) k.earlier) k.is;
      })
]
