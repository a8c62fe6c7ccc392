-- The reading of a text is what the text spells, and the place where it is refused.
use Rattle.std.proofs.Common.{◌≡◌, ℕ, zero, suc, ◌+◌, ◌≤◌, ◌<◌, Bool, true, false, List, [], ◌∷◌, ◌++◌, length, drop, map, Some, None, Ok, Err, refl, sym, ap, subst, ◌∙◌, arith}
use Rattle.std.proofs.Math.Seq.{drop-append_seam}
use Rattle.grammar_forms.specs.Forms.{ReadOutcome, Read, Refused, only}
use Rattle.sql_tokens.specs.Letters.{is_blank}
use Rattle.sql_tokens.specs.Reading.{next}
use Rattle.sql_tokens.specs.Spot.{Spot, spot, token_of}
use Rattle.sql_tokens.specs.Tokens.{Tokens, no_more, a_blank, a_token, none_begins}
use Rattle.sql_tokens.specs.declared.kinds.Token.{Token}
use Rattle.sql_tokens.specs.Token.{IsToken}
use Rattle.sql_tokens.proofs.NextLaws.{next_is_token, none_is_next}
use Rattle.sql_tokens.proofs.ListLaws.{next_size, one_list}
use Rattle.sql_grammar.specs.Words.{kind}
use Rattle.grammar_forms.specs.Faults.{IsFault}
use Rattle.grammar_forms.proofs.Verdicts.{fault_at, one_fault}
use Rattle.std.proofs.Common.{◌-◌, length-drop, length-append}
use Rattle.std.proofs.lemmas.List.{length-map, map-append}
use Rattle.sql_grammar.specs.Grammar.{StatementS}
use Rattle.sql_grammar.specs.Readers.{statement_r}
use Rattle.sql_grammar.specs.Trees.{Statement}
use Rattle.sql_grammar.proofs.StatementLaws.{exact_statement}
use Rattle.sql_reader.specs.Promise.{Spells, IsRefusedAt, offset_of}
use Rattle.sql_reader.proofs.TopLaws.{found, reads_it, no_refusal}
use Rattle.sql_answer.specs.Reading.{first_token, spots_by, spots_behind, spots_within, spots_of, spots_left, verdict, reading}

-- The spots are the tokens of the text.
abbrev Cuts : (ℕ → List ℕ → List Spot) → ℕ → Type 0
Cuts later most = (at : ℕ) (bytes : List ℕ) → length bytes ≤ most → Tokens at bytes (later at bytes)

-- a token at the front, and the spots of what stands behind it
token_spots : (at : ℕ) (bytes : List ℕ) (later : ℕ → List ℕ → List Spot) (most : ℕ) → Cuts later most → length bytes ≤ most + 1 →
    (t : Token) (size : ℕ) (front rest : List ℕ) → bytes ≡ front ++ rest → length front ≡ size → (0 < size) × (size ≤ length bytes) → IsToken t front rest →
    Tokens at bytes (spot at t ∷ later (at + size) (drop size bytes))
token_spots at bytes later most cuts fits t size front rest whole sized within is =
    let some : 0 < size = within.0 in
    let behind : drop size bytes ≡ rest = ap (λ n. drop n bytes) (sym sized) ∙ (ap (drop (length front)) whole ∙ drop-append_seam front rest) in
    let left : length (drop size bytes) ≤ most = omega (arith, length-drop size bytes) in
    let later_are : Tokens (at + size) (drop size bytes) (later (at + size) (drop size bytes)) = cuts (at + size) (drop size bytes) left in
    a_token at bytes t front rest (later (at + size) (drop size bytes)) whole is
    (subst (λ r. Tokens (at + length front) r (later (at + size) (drop size bytes))) behind
    (subst (λ n. Tokens (at + n) (drop size bytes) (later (at + size) (drop size bytes))) (sym sized) later_are))

token_are : (at byte : ℕ) (bytes : List ℕ) (later : ℕ → List ℕ → List Spot) (most : ℕ) → Cuts later most → length bytes ≤ most → is_blank byte ≡ false →
    Tokens at (byte ∷ bytes) (spots_by at (byte ∷ bytes) later (first_token (byte ∷ bytes)))
token_are at byte bytes later most cuts fits dark =
    elim (next (byte ∷ bytes)) as (λ o. next (byte ∷ bytes) ≡ o → Tokens at (byte ∷ bytes) (spots_by at (byte ∷ bytes) later (elim o [ None ↦ None | Some found ↦ Some (found.token, found.size) ]))) [
      | None ↦ λ is. none_begins at byte bytes dark (none_is_next (byte ∷ bytes) is)
      | Some f ↦ λ is.
          let t = next_is_token (byte ∷ bytes) f is in
          let fits_more : length (byte ∷ bytes) ≤ most + 1 = omega (arith, fits) in
          token_spots at (byte ∷ bytes) later most cuts fits_more f.token f.size t.front t.rest t.whole t.size (next_size (byte ∷ bytes) f is) t.token
    ] refl

behind_are : (at byte : ℕ) (bytes : List ℕ) (later : ℕ → List ℕ → List Spot) (most : ℕ) → Cuts later most → length bytes ≤ most → (b : Bool) → is_blank byte ≡ b →
    Tokens at (byte ∷ bytes) (spots_behind at byte bytes later b)
behind_are at byte bytes later most cuts fits true is = a_blank at byte bytes (later (at + 1) bytes) is (cuts (at + 1) bytes fits)
behind_are at byte bytes later most cuts fits false is = token_are at byte bytes later most cuts fits is

within_are : (most : ℕ) → Cuts (spots_within most) most
within_are zero at [] fits = no_more at
within_are zero at (byte ∷ bytes) fits = absurd (omega arith)
within_are (suc most) at [] fits = no_more at
within_are (suc most) at (byte ∷ bytes) fits = behind_are at byte bytes (spots_within most) most (within_are most) (omega arith) (is_blank byte) refl

pub spots_are : (text : List ℕ) → Tokens 0 text (spots_of text)
unfolding spots_of
spots_are text = let fits : length text ≤ length text = omega arith in within_are (length text) 0 text fits

-- Verdicts: what was read and refused of the whole list.
abbrev seen : List ℕ → ReadOutcome Token Statement
seen text = only (statement_r (map token_of (spots_of text)))

nothing_behind : {A : Type 0} (o : ReadOutcome Token A) (x : A) (rest : List Token) → only o ≡ Read x rest → rest ≡ []
nothing_behind (Read y []) x rest is = cc
nothing_behind (Read y (t ∷ ts)) x rest is = cc
nothing_behind (Refused ts) x rest is = cc

-- spots split as their tokens do
record Split (spots : List Spot) (front back : List Token) : Type 0 where
  before : List Spot
  rest : List Spot
  all : spots ≡ before ++ rest
  front_is : map token_of before ≡ front
  back_is : map token_of rest ≡ back

one_more : (s : Spot) (spots : List Spot) (t : Token) (front back : List Token) → token_of s ≡ t → Split spots front back → Split (s ∷ spots) (t ∷ front) back
one_more s spots t front back is p = record {
  before = s ∷ p.before;
  rest = p.rest;
  all = ap (λ l. s ∷ l) p.all;
  front_is = ap (λ l. token_of s ∷ l) p.front_is ∙ ap (λ x. x ∷ front) is;
  back_is = p.back_is;
}

split : (spots : List Spot) (front back : List Token) → map token_of spots ≡ front ++ back → Split spots front back
split spots [] back is = record { before = []; rest = spots; all = refl; front_is = refl; back_is = is }
split [] (t ∷ front) back is = cc
split (s ∷ spots) (t ∷ front) back is = one_more s spots t front back (cc) (split spots front back (cc))

left_is : (spots before rest : List Spot) (tokens : List Token) → spots ≡ before ++ rest → map token_of rest ≡ tokens → spots_left spots tokens ≡ rest
left_is spots before rest tokens all back =
    let size : length spots - length tokens ≡ length before = omega (arith, ap length all, length-append before rest, ap length back, length-map rest token_of) in
    ap (λ n. drop n spots) size ∙ ap (drop (length before)) all ∙ drop-append_seam before rest

module _ (text : List ℕ) where
  abbrev at_end : List Token → ℕ
  at_end left = offset_of (spots_left (spots_of text) left) (length text)

  refused_split : (front left : List Token) → IsFault StatementS front left → Split (spots_of text) front left → IsRefusedAt StatementS text (at_end left)
  refused_split front left fault p = record {
    before = p.before;
    rest = p.rest;
    are = subst (Tokens 0 text) p.all (spots_are text);
    fault = subst (λ l. IsFault StatementS l (map token_of p.rest)) (sym p.front_is) (subst (IsFault StatementS front) (sym p.back_is) fault);
    place = ap (λ l. offset_of l (length text)) (left_is (spots_of text) p.before p.rest left p.all p.back_is);
  }

  refused_there : (left : List Token) → seen text ≡ Refused left → IsRefusedAt StatementS text (at_end left)
  refused_there left is =
      let f = fault_at kind StatementS statement_r exact_statement (map token_of (spots_of text)) left is in
      refused_split f.0 left f.2 (split (spots_of text) f.0 left f.1)

  one_place : (left : List Token) (at : ℕ) → seen text ≡ Refused left → IsRefusedAt StatementS text at → at_end left ≡ at
  one_place left at is p =
      let f = fault_at kind StatementS statement_r exact_statement (map token_of (spots_of text)) left is in
      let all : spots_of text ≡ p.before ++ p.rest = one_list 0 text (spots_of text) (p.before ++ p.rest) (spots_are text) p.are in
      let same = one_fault StatementS f.0 left (map token_of p.before) (map token_of p.rest) f.2 p.fault (sym f.1 ∙ ap (map token_of) all ∙ map-append token_of p.before p.rest) in
      ap (λ l. offset_of l (length text)) (left_is (spots_of text) p.before p.rest left all (sym same.1)) ∙ sym p.place

  spelled_by : (o : ReadOutcome Token Statement) → seen text ≡ o → (x : Statement) → verdict (spots_of text) (length text) o ≡ Ok x → Spells StatementS text x
  spelled_by (Read y rest) is x h =
      let same : y ≡ x = cc in
      let whole : seen text ≡ Read x [] = is ∙ ap (λ r. Read y r) (nothing_behind (statement_r (map token_of (spots_of text))) y rest is) ∙ ap (λ z. Read z []) same in
      found StatementS statement_r exact_statement text (spots_of text) (spots_are text) x whole
  spelled_by (Refused left) is x h = cc

  refused_by : (o : ReadOutcome Token Statement) → seen text ≡ o → (at : ℕ) → verdict (spots_of text) (length text) o ≡ Err at → IsRefusedAt StatementS text at
  refused_by (Read y rest) is at h = cc
  refused_by (Refused left) is at h = let same : at_end left ≡ at = cc in subst (IsRefusedAt StatementS text) same (refused_there left is)

  verdict_refused : (o : ReadOutcome Token Statement) → seen text ≡ o → (at : ℕ) → IsRefusedAt StatementS text at → verdict (spots_of text) (length text) o ≡ Err at
  verdict_refused (Read y rest) is at p =
      let whole : seen text ≡ Read y [] = is ∙ ap (λ r. Read y r) (nothing_behind (statement_r (map token_of (spots_of text))) y rest is) in
      absurd (no_refusal StatementS statement_r exact_statement text (spots_of text) (spots_are text) y at whole p)
  verdict_refused (Refused left) is at p = ap Err (one_place left at is p)

  pub reading_spells : (x : Statement) → reading text ≡ Ok x → Spells StatementS text x
  unfolding reading
  reading_spells x h = spelled_by (seen text) refl x h

  pub spelled_is_read : (x : Statement) → Spells StatementS text x → reading text ≡ Ok x
  unfolding reading
  spelled_is_read x p = ap (verdict (spots_of text) (length text)) (reads_it StatementS statement_r exact_statement text (spots_of text) (spots_are text) x p)

  pub reading_refuses : (at : ℕ) → reading text ≡ Err at → IsRefusedAt StatementS text at
  unfolding reading
  reading_refuses at h = refused_by (seen text) refl at h

  pub refused_is_read : (at : ℕ) → IsRefusedAt StatementS text at → reading text ≡ Err at
  unfolding reading
  refused_is_read at p = verdict_refused (seen text) refl at p
