-- The tokens of a text are those that the function cuts, and its definition is the one that they spell.
use Rattle.std.proofs.Common.{◌≡◌, ℕ, zero, suc, ◌+◌, ◌<◌, ◌≤◌, false, List, [], ◌∷◌, ◌++◌, length, map, drop, Option, Some, None, if◌then◌else◌, refl, sym, ◌∙◌, ap, subst, arith, inl, inr, length-append}
use Rattle.std.proofs.Math.Seq.{drop-append_seam}
use Rattle.grammar_forms.specs.Forms.{ReadOutcome, Read, Refused, only}
use Rattle.grammar_forms.proofs.Verdicts.{is_read, was_spelled}
use Rattle.sql_tokens.specs.Letters.{is_blank}
use Rattle.sql_tokens.specs.Spot.{Spot, spot, token_of}
use Rattle.sql_tokens.specs.Tokens.{Tokens, no_more, a_blank, a_token, none_begins}
use Rattle.sql_tokens.specs.Reading.{next}
use Rattle.sql_tokens.specs.declared.kinds.Token.{Token}
use Rattle.sql_tokens.specs.declared.kinds.Token.TheVariants as token
use Rattle.sql_tokens.proofs.BasicLaws.{bool_cases}
use Rattle.sql_tokens.proofs.FindLaws.{IsFound}
use Rattle.sql_tokens.proofs.NextLaws.{next_is_token, none_is_next, taken, passed}
use Rattle.sql_tokens.proofs.ListLaws.{one_list, front_is_longer}
use Rattle.sql_grammar.specs.Trees.{Definition}
use Rattle.sql_grammar.specs.Words.{kind}
use Rattle.sql_grammar.specs.Grammar.{CreateS}
use Rattle.sql_grammar.specs.Readers.{create_r}
use Rattle.sql_grammar.proofs.StatementLaws.{exact_create}
use Rattle.sql_reader.specs.Promise.{Spells}
use Rattle.table_read.specs.Reading.{where_found, with_token, tokens_within, tokens_of, all_of, definition_of}

-- a text has spots with these tokens
pub record HasTokens (at : ℕ) (bytes : List ℕ) (tokens : List Token) : Type 0 where
  pub spots : List Spot
  pub are : Tokens at bytes spots
  pub same : map token_of spots ≡ tokens

behind_front : (bytes front rest : List ℕ) (size : ℕ) → bytes ≡ front ++ rest → length front ≡ size → drop size bytes ≡ rest
behind_front bytes front rest size whole s = ap (λ n. drop n bytes) (sym s) ∙ ap (drop (length front)) whole ∙ drop-append_seam front rest

has_tokens_within : (most at : ℕ) (bytes : List ℕ) → length bytes ≤ most → HasTokens at bytes (tokens_within most bytes)
has_tokens_within zero at [] l = record { spots = []; are = no_more at; same = refl }
has_tokens_within zero at (b ∷ bs) l = absurd (omega arith)
has_tokens_within (suc n) at [] l = record { spots = []; are = no_more at; same = refl }
has_tokens_within (suc n) at (b ∷ bs) l = go (has_tokens_within n)
  where
    found_at : (f : _) → next (b ∷ bs) ≡ Some f → ((at : ℕ) (cs : List ℕ) → length cs ≤ n → HasTokens at cs (tokens_within n cs)) → HasTokens at (b ∷ bs) (f.token ∷ tokens_within n (drop f.size (b ∷ bs)))
    found_at f e shorter =
        let t : IsFound (b ∷ bs) f = next_is_token (b ∷ bs) f e in
        let p : 0 < length t.front = front_is_longer t.front t.rest f.token t.token in
        let q : length (b ∷ bs) ≡ length t.front + length t.rest = ap length t.whole ∙ length-append t.front t.rest in
        let r : length t.rest ≤ n = omega arith in
        let s : HasTokens (at + length t.front) t.rest (tokens_within n t.rest) = shorter (at + length t.front) t.rest r in
        let d : drop f.size (b ∷ bs) ≡ t.rest = behind_front (b ∷ bs) t.front t.rest f.size t.whole t.size in
        record {
          spots = spot at f.token ∷ s.spots;
          are = a_token at (b ∷ bs) f.token t.front t.rest s.spots t.whole t.token s.are;
          same = ap (λ ts. f.token ∷ ts) (s.same ∙ ap (tokens_within n) (sym d));
        }

    at_option : (o : Option _) → next (b ∷ bs) ≡ o → is_blank b ≡ false → ((at : ℕ) (cs : List ℕ) → length cs ≤ n → HasTokens at cs (tokens_within n cs)) → HasTokens at (b ∷ bs) (where_found o (token.Unknown ∷ []) (λ found. found.token ∷ tokens_within n (drop found.size (b ∷ bs))))
    at_option None e k shorter = record { spots = spot at token.Unknown ∷ []; are = none_begins at b bs k (none_is_next (b ∷ bs) e); same = refl }
    at_option (Some f) e k shorter = found_at f e shorter

    go : ((at : ℕ) (cs : List ℕ) → length cs ≤ n → HasTokens at cs (tokens_within n cs)) → HasTokens at (b ∷ bs) (if is_blank b then tokens_within n bs else with_token (tokens_within n) (b ∷ bs))
    go shorter = elim (bool_cases (is_blank b)) [
      | inl k ↦ (
          let r : length bs ≤ n = omega arith in
          let s : HasTokens (at + 1) bs (tokens_within n bs) = shorter (at + 1) bs r in
          record { spots = s.spots; are = a_blank at b bs s.spots k s.are; same = s.same ∙ sym (taken (is_blank b) (tokens_within n bs) (with_token (tokens_within n) (b ∷ bs)) k) })
      | inr k ↦ subst (HasTokens at (b ∷ bs)) (sym (passed (is_blank b) (tokens_within n bs) (with_token (tokens_within n) (b ∷ bs)) k)) (at_option (next (b ∷ bs)) refl k shorter)
    ]

has_tokens : (text : List ℕ) → HasTokens 0 text (tokens_of text)
has_tokens text = let l : length text ≤ length text = omega arith in has_tokens_within (length text) 0 text l

-- the tokens of a text are those that are cut
tokens_are : (text : List ℕ) (ss : List Spot) → Tokens 0 text ss → map token_of ss ≡ tokens_of text
tokens_are text ss are = let h : HasTokens 0 text (tokens_of text) = has_tokens text in ap (map token_of) (one_list 0 text ss h.spots are h.are) ∙ h.same

all_read : {T A : Type 0} (o : ReadOutcome T A) (x : A) → all_of o ≡ Some x → only o ≡ Read x []
all_read (Read y []) x e = let h : y ≡ x = cc in ap (λ z. Read z []) h
all_read (Read y (t ∷ ts)) x e = cc
all_read (Refused ts) x e = cc

read_all : {T A : Type 0} (o : ReadOutcome T A) (x : A) → only o ≡ Read x [] → all_of o ≡ Some x
read_all (Read y []) x e = let h : y ≡ x = cc in ap (λ z. Some z) h
read_all (Read y (t ∷ ts)) x e = cc
read_all (Refused ts) x e = cc

pub is_spelled : (text : List ℕ) (x : Definition) → definition_of text ≡ Some x → Spells CreateS text x
unfolding definition_of
is_spelled text x e =
    let h : HasTokens 0 text (tokens_of text) = has_tokens text in
    let s : CreateS x (tokens_of text) = was_spelled kind CreateS create_r exact_create x (tokens_of text) (all_read (create_r (tokens_of text)) x e) in
    record { spots = h.spots; are = h.are; spelled = subst (CreateS x) (sym h.same) s }

pub is_found : (text : List ℕ) (x : Definition) → Spells CreateS text x → definition_of text ≡ Some x
unfolding definition_of
is_found text x p =
    read_all (create_r (tokens_of text)) x (subst (λ ts. only (create_r ts) ≡ Read x []) (tokens_are text p.spots p.are) (is_read kind CreateS create_r exact_create x (map token_of p.spots) p.spelled))

-- a text that spells nothing has no definition
pub none_found : (text : List ℕ) → ((x : Definition) → Spells CreateS text x → ⊥) → definition_of text ≡ None
none_found text none = go (definition_of text) refl
  where
    go : (o : Option Definition) → definition_of text ≡ o → o ≡ None
    go None e = refl
    go (Some x) e = absurd (none x (is_spelled text x e))
