-- Tokens and places side by side.
use Rattle.std.proofs.Common.{◌≡◌, ℕ, ◌<◌, ◌≤◌, List, [], ◌∷◌, ◌++◌, length, map, Option, Some, None, refl, sym, ◌∙◌, ap, arith, option_map, get_or, Bor, suc, zero}
use Rattle.std.specs.Prelude.{slice_get, IfSome, MatchOption}
use Rattle.std.specs.Option.{option_copied}
use Rattle.std.specs.List.{HoldsAt}
use Rattle.std.proofs.lemmas.Option.{slice_get-get_or, slice_get_past}
use Rattle.sql_tokens.specs.Spot.{spot, token_of, place_of, spots_of}
use Rattle.sql_tokens.specs.declared.kinds.Token.{Token}

pub spots_length : (ts : List Token) (ps : List ℕ) → length ts ≡ length ps → length (spots_of ts ps) ≡ length ts
spots_length [] ps e = refl
spots_length (t ∷ ts) [] e = absurd (omega arith)
spots_length (t ∷ ts) (p ∷ ps) e = let h : length ts ≡ length ps = omega arith in ap suc (spots_length ts ps h)

pub spots_tokens : (ts : List Token) (ps : List ℕ) → length ts ≡ length ps → map token_of (spots_of ts ps) ≡ ts
spots_tokens [] ps e = refl
spots_tokens (t ∷ ts) [] e = absurd (omega arith)
spots_tokens (t ∷ ts) (p ∷ ps) e = let h : length ts ≡ length ps = omega arith in ap (λ xs. t ∷ xs) (spots_tokens ts ps h)

pub spots_push : (ts : List Token) (ps : List ℕ) (t : Token) (p : ℕ) → length ts ≡ length ps → spots_of (ts ++ t ∷ []) (ps ++ p ∷ []) ≡ spots_of ts ps ++ spot p t ∷ []
spots_push [] [] t p e = refl
spots_push [] (q ∷ ps) t p e = absurd (omega arith)
spots_push (u ∷ ts) [] t p e = absurd (omega arith)
spots_push (u ∷ ts) (q ∷ ps) t p e = let h : length ts ≡ length ps = omega arith in ap (λ xs. spot q u ∷ xs) (spots_push ts ps t p h)

pub spots_place : (ts : List Token) (ps : List ℕ) (i : ℕ) → length ts ≡ length ps → slice_get ps i ≡ option_map place_of (slice_get (spots_of ts ps) i)
spots_place [] [] i e = refl
spots_place [] (p ∷ ps) i e = absurd (omega arith)
spots_place (t ∷ ts) [] i e = absurd (omega arith)
spots_place (t ∷ ts) (p ∷ ps) zero e = refl
spots_place (t ∷ ts) (p ∷ ps) (suc i) e = let h : length ts ≡ length ps = omega arith in spots_place ts ps i h

-- what `get` of a slice gives
pub get_is : (xs : List ℕ) (i : ℕ) (o : Option (Bor ℕ)) → IfSome o (λ x. x.now ≡ get_or xs i x.now) → MatchOption o (length xs ≤ i) (λ x. (i < length xs) × HoldsAt (λ y. x.now ≡ y) xs i) → option_copied o ≡ slice_get xs i
get_is xs i None p q = sym (slice_get_past xs i q)
get_is xs i (Some x) p q = ap (λ y. Some y) p ∙ sym (slice_get-get_or xs i x.now q.0)
