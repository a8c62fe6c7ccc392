-- What a text spells and where it is refused, by what an exact reader finds in its tokens.
use Rattle.std.proofs.Common.{◌≡◌, ℕ, ◌-◌, List, [], ◌∷◌, ◌++◌, length, map, option_map, slice_get, unwrap_or, Err, refl, sym, ap, subst, ◌∙◌, arith}
use Rattle.std.proofs.Common.{length-append}
use Rattle.std.proofs.lemmas.List.{length-map, map-append}
use Rattle.grammar_forms.specs.Forms.{Spelling, Reader, Read, Refused, only}
use Rattle.grammar_forms.specs.Faults.{IsFault}
use Rattle.grammar_forms.specs.Laws.{Exact}
use Rattle.grammar_forms.proofs.Verdicts.{is_read, was_spelled, fault_at, one_fault, no_fault, one_value}
use Rattle.sql_tokens.specs.declared.kinds.Token.{Token}
use Rattle.sql_tokens.specs.Spot.{Spot, token_of, place_of}
use Rattle.sql_tokens.specs.Tokens.{Tokens}
use Rattle.sql_tokens.proofs.ListLaws.{one_list}
use Rattle.sql_grammar.specs.Words.{kind}
use Rattle.sql_reader.specs.Promise.{Spells, IsRefusedAt, offset_of, StopsRight, ReadsAs, Refuses}
use Rattle.sql_reader.specs.Stops.{place_left, StopsAs}
use Rattle.sql_reader.specs.Gives.{Fails}
use Rattle.sql_reader.specs.declared.ReadStop.{ReadStop}
use Rattle.sql_reader.specs.declared.cursor.ReadError.{ReadError}
use Rattle.sql_reader.specs.declared.cursor.ReadError.TheVariants as errors

-- spots split as their tokens do
pub record SpotsSplit (ss : List Spot) (w k : List Token) : Type 0 where
  pub before : List Spot
  pub rest : List Spot
  pub all : ss ≡ before ++ rest
  pub front : map token_of before ≡ w
  pub back : map token_of rest ≡ k

more_split : (s : Spot) (ss : List Spot) (t : Token) (w k : List Token) → token_of s ≡ t → SpotsSplit ss w k → SpotsSplit (s ∷ ss) (t ∷ w) k
more_split s ss t w k e p = record { before = s ∷ p.before; rest = p.rest; all = ap (λ l. s ∷ l) p.all; front = let f = p.front in cc; back = p.back }

split_spots : (ss : List Spot) (w k : List Token) → map token_of ss ≡ w ++ k → SpotsSplit ss w k
split_spots ss [] k e = record { before = []; rest = ss; all = refl; front = refl; back = e }
split_spots [] (t ∷ w) k e = cc
split_spots (s ∷ ss) (t ∷ w) k e = more_split s ss t w k (cc) (split_spots ss w k (cc))

-- the place of the first spot of the rest
at_front : (rest : List Spot) (end : ℕ) → unwrap_or (option_map place_of (slice_get rest 0)) end ≡ offset_of rest end
at_front [] end = refl
at_front (s ∷ ss) end = refl

behind_front : (before rest : List Spot) (end : ℕ) → unwrap_or (option_map place_of (slice_get (before ++ rest) (length before))) end ≡ offset_of rest end
behind_front [] rest end = at_front rest end
behind_front (s ∷ before) rest end = behind_front before rest end

left_place : (ss before rest : List Spot) (k : List Token) (end : ℕ) → ss ≡ before ++ rest → map token_of rest ≡ k → place_left ss end (length k) ≡ offset_of rest end
left_place ss before rest k end e b =
    let sizes : length ss - length k ≡ length before = omega (arith, ap length e, length-append before rest, ap length b, length-map rest token_of) in
    ap (λ n. unwrap_or (option_map place_of (slice_get ss n)) end) sizes ∙ ap (λ l. unwrap_or (option_map place_of (slice_get l (length before))) end) e ∙ behind_front before rest end

-- a text spells one value at most
pub one_reading : {A : Type 0} (S : Spelling Token A) (r : Reader Token A) {null : _} {first more : List ℕ} → Exact kind S r null first more → (text : List ℕ) (x y : A) → Spells S text x → Spells S text y → x ≡ y
one_reading S r E text x y p q =
    one_value kind S r E x y (map token_of q.spots) (subst (λ l. S x (map token_of l)) (one_list 0 text p.spots q.spots p.are q.are) p.spelled) q.spelled

module _ {A : Type 0} (S : Spelling Token A) (r : Reader Token A) {null : _} {first more : List ℕ} (E : Exact kind S r null first more) (text : List ℕ) (ss : List Spot) (are : Tokens 0 text ss) where
  pub found : (x : A) → only (r (map token_of ss)) ≡ Read x [] → Spells S text x
  found x h = record { spots = ss; are = are; spelled = was_spelled kind S r E x (map token_of ss) h }

  spelled_here : (x : A) → Spells S text x → S x (map token_of ss)
  spelled_here x p = subst (λ l. S x (map token_of l)) (one_list 0 text p.spots ss p.are are) p.spelled

  pub reads_it : (x : A) → Spells S text x → only (r (map token_of ss)) ≡ Read x []
  reads_it x p = is_read kind S r E x (map token_of ss) (spelled_here x p)

  refused_split : (k : List Token) (w : List Token) → map token_of ss ≡ w ++ k → IsFault S w k → SpotsSplit ss w k → IsRefusedAt S text (place_left ss (length text) (length k))
  refused_split k w e f p = record {
    before = p.before;
    rest = p.rest;
    are = subst (Tokens 0 text) p.all are;
    fault = subst (λ l. IsFault S l (map token_of p.rest)) (sym p.front) (subst (λ l. IsFault S w l) (sym p.back) f);
    place = left_place ss p.before p.rest k (length text) p.all p.back;
  }

  refused : (k : List Token) → only (r (map token_of ss)) ≡ Refused k → IsRefusedAt S text (place_left ss (length text) (length k))
  refused k h = let f = fault_at kind S r E (map token_of ss) k h in refused_split k f.0 f.1 f.2 (split_spots ss f.0 k f.1)

  -- a text is refused at one place
  one_split : (k w : List Token) (b : List Spot) (e : List Spot) → map token_of ss ≡ w ++ k → IsFault S w k → ss ≡ b ++ e → IsFault S (map token_of b) (map token_of e) → k ≡ map token_of e
  one_split k w b e h f a g =
      (one_fault S w k (map token_of b) (map token_of e) f g (sym h ∙ ap (map token_of) a ∙ map-append token_of b e)).1

  same_place : (k : List Token) (at : ℕ) → only (r (map token_of ss)) ≡ Refused k → IsRefusedAt S text at → place_left ss (length text) (length k) ≡ at
  same_place k at h p =
      let f = fault_at kind S r E (map token_of ss) k h in
      let all : ss ≡ p.before ++ p.rest = one_list 0 text ss (p.before ++ p.rest) are p.are in
      let same : k ≡ map token_of p.rest = one_split k f.0 p.before p.rest f.1 f.2 all p.fault in
      left_place ss p.before p.rest k (length text) all (sym same) ∙ sym p.place

  pub no_refusal : (x : A) (at : ℕ) → only (r (map token_of ss)) ≡ Read x [] → IsRefusedAt S text at → ⊥
  no_refusal x at h p =
      let all : ss ≡ p.before ++ p.rest = one_list 0 text ss (p.before ++ p.rest) are p.are in
      let s : S x (map token_of p.before ++ map token_of p.rest) = subst (S x) (ap (map token_of) all ∙ map-append token_of p.before p.rest) (was_spelled kind S r E x (map token_of ss) h) in
      no_fault S x (map token_of p.before) (map token_of p.rest) s p.fault

  -- the four clauses, by what was read and by what stopped it
  module _ {X : Type 0} (value : X → A) where
    pub stops_right : (e : ReadError) (stop : ReadStop) → Fails e (only (r (map token_of ss))) → StopsAs ss (length text) e stop → StopsRight S text stop
    stops_right errors.Memory stop f e = subst (StopsRight S text) (sym e) tt
    stops_right (errors.Refused k) stop f e = subst (StopsRight S text) (sym e) (refused k.now f)

    pub answers_ok : (y : X) (x : A) → only (r (map token_of ss)) ≡ Read (value y) [] → Spells S text x → value y ≡ x
    answers_ok y x h p = let e = sym h ∙ reads_it x p in cc

    pub answers_stop : (e : ReadError) (stop : ReadStop) (x : A) → Fails e (only (r (map token_of ss))) → StopsAs ss (length text) e stop → Spells S text x → ReadsAs value x (Err stop)
    answers_stop errors.Memory stop x f e p = subst (λ s. ReadsAs value x (Err s)) (sym e) tt
    answers_stop (errors.Refused k) stop x f e p = let h = sym f ∙ reads_it x p in cc

    pub refuses_stop : (e : ReadError) (stop : ReadStop) (at : ℕ) → Fails e (only (r (map token_of ss))) → StopsAs ss (length text) e stop → IsRefusedAt S text at → Refuses {X = X} at (Err stop)
    refuses_stop errors.Memory stop at f e p = subst (λ s. Refuses {X = X} at (Err s)) (sym e) tt
    refuses_stop (errors.Refused k) stop at f e p = subst (λ s. Refuses {X = X} at (Err s)) (sym e) (same_place k.now at f p)
