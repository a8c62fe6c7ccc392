-- What the bytes of a store stand for is one thing: so one cause alone can refuse a script over it, and no run comes of a
-- store that is refused.
use Rattle.std.proofs.Common.{◌⊎◌, ◌≡◌, ℕ, zero, suc, ◌<◌, ◌≤◌, ◌^◌, List, [], ◌∷◌, length, take, slice_get, refl, sym, subst, ap, ◌∙◌, inl, inr, arith}
use Rattle.cdb_values.specs.declared.tables.TableDef.{TableDef}
use Rattle.log_rows.specs.History.{tables_of}
use Rattle.node_opening.specs.Goods.{HasTables, StandsForGood}
use Rattle.node_opening.specs.Tables.{AreMatched, IsDifference, IsLast}
use Rattle.node_opening.specs.Why.{IsOther, WasOther, WasUnsound}
use Rattle.phys_log.specs.declared.entries.Entry.{Entry}
use Rattle.sound_log.specs.Sound.{IsSound}
use Rattle.store_log.proofs.HeldLaws.{one_standing}
use Rattle.store_log.specs.declared.standings.Standing.TheVariants.{Log, Bad, Foreign}
use Rattle.store_log.specs.Held.{StandsFor}

-- the accepted generation and the entries of two logs are the same
record AreSame (a b : ℕ) (es fs : List Entry) : Type 0 where
  accepted : a ≡ b
  entries : es ≡ fs

one_log : (c : ℕ) (bytes : List ℕ) (p q a b : ℕ) (es fs : List Entry) → c < 2 ^ 128 → StandsFor 1 c bytes (Log p a es) → StandsFor 1 c bytes (Log q b fs) → AreSame a b es fs
one_log c bytes p q a b es fs below r s =
    let e : Log p a es ≡ Log q b fs = one_standing 1 c bytes (Log p a es) (Log q b fs) (omega arith) below r s in
    record { accepted = cc; entries = cc }

-- a bad frame, or another's header
abbrev pub IsRefusedBy : ℕ → List ℕ → ℕ → Type 0
IsRefusedBy c bytes at = StandsFor 1 c bytes (Bad at) ⊎ (StandsFor 1 c bytes Foreign × (at ≡ 0))

pub log_not_refused : (c : ℕ) (bytes : List ℕ) (p a : ℕ) (es : List Entry) (at : ℕ) → c < 2 ^ 128 → StandsFor 1 c bytes (Log p a es) → IsRefusedBy c bytes at → ⊥
log_not_refused c bytes p a es at below r (inl s) = log_bad (one_standing 1 c bytes (Log p a es) (Bad at) (omega arith) below r s)
  where
    log_bad : Log p a es ≡ Bad at → ⊥
    log_bad e = cc
log_not_refused c bytes p a es at below r (inr s) = log_foreign (one_standing 1 c bytes (Log p a es) Foreign (omega arith) below r s.0)
  where
    log_foreign : Log p a es ≡ Foreign → ⊥
    log_foreign e = cc

pub one_offset : (c : ℕ) (bytes : List ℕ) (at other : ℕ) → c < 2 ^ 128 → IsRefusedBy c bytes at → IsRefusedBy c bytes other → at ≡ other
one_offset c bytes at other below (inl r) (inl s) = same (one_standing 1 c bytes (Bad at) (Bad other) (omega arith) below r s)
  where
    same : Bad at ≡ Bad other → at ≡ other
    same e = cc
one_offset c bytes at other below (inl r) (inr s) = absurd (apart (one_standing 1 c bytes (Bad at) Foreign (omega arith) below r s.0))
  where
    apart : Bad at ≡ Foreign → ⊥
    apart e = cc
one_offset c bytes at other below (inr r) (inl s) = absurd (apart (one_standing 1 c bytes Foreign (Bad other) (omega arith) below r.0 s))
  where
    apart : Foreign ≡ Bad other → ⊥
    apart e = cc
one_offset c bytes at other below (inr r) (inr s) = r.1 ∙ sym s.1

-- at a place before the end of two fronts that are the same, both lists have the same
same_at : (p q : ℕ) (xs ys : List TableDef) → p < q → take q xs ≡ take q ys → slice_get xs p ≡ slice_get ys p
same_at p zero xs ys l e = absurd (omega arith)
same_at p (suc q) [] [] l e = refl
same_at p (suc q) [] (y ∷ ys) l e = absurd cc
same_at p (suc q) (x ∷ xs) [] l e = absurd cc
same_at zero (suc q) (x ∷ xs) (y ∷ ys) l e = cc
same_at (suc p) (suc q) (x ∷ xs) (y ∷ ys) l e = let f : take q xs ≡ take q ys = cc in same_at p q xs ys (omega arith) f

-- no difference lies before another
not_before : (given logged : List TableDef) (p q : ℕ) → IsDifference given logged p → IsDifference given logged q → p < q → ⊥
not_before given logged p q d f l = go d.differs
  where
    go : ((slice_get given p ≡ slice_get logged p → ⊥) ⊎ IsLast given logged p) → ⊥
    go (inl differs) = differs (same_at p q given logged l f.before)
    go (inr last) = let w = f.within in let n = last.last in omega (arith, w, n)

pub one_place : (given logged : List TableDef) (p q : ℕ) → IsDifference given logged p → IsDifference given logged q → p ≡ q
one_place given logged p q d f =
    let a : p < q → ⊥ = not_before given logged p q d f in
    let b : q < p → ⊥ = not_before given logged q p f d in
    go (lt_or p q) a b
  where
    lt_or : (m n : ℕ) → (m < n) ⊎ ((m ≡ n) ⊎ (n < m))
    lt_or m n = grind arith

    go : (p < q) ⊎ ((p ≡ q) ⊎ (q < p)) → (p < q → ⊥) → (q < p → ⊥) → p ≡ q
    go (inl l) a b = absurd (a l)
    go (inr (inl e)) a b = e
    go (inr (inr l)) a b = absurd (b l)

-- tables that are matched do not differ
not_matched : (given logged : List TableDef) (place : ℕ) → AreMatched given logged → IsDifference given logged place → ⊥
not_matched given logged place (inl none) d = let w : place < 0 = subst (λ (g : List TableDef). place < length g) none d.within in omega arith
not_matched given logged place (inr same) d = go d.differs
  where
    go : ((slice_get given place ≡ slice_get logged place → ⊥) ⊎ IsLast given logged place) → ⊥
    go (inl differs) = differs (ap (λ (g : List TableDef). slice_get g place) same)
    go (inr last) = let m : length logged < length logged = subst (λ (g : List TableDef). length g < length logged) same last.more in omega arith

not_other : (given : List TableDef) (a : ℕ) (es : List Entry) (place : ℕ) → HasTables given es → IsOther a es given place → ⊥
not_other given a es place (inl none) o = let s : 1 ≤ 0 = subst (λ (fs : List Entry). 1 ≤ length fs) none o.some in omega arith
not_other given a es place (inr matched) o = not_matched given (tables_of es) place matched o.difference

pub log_not_other : (c : ℕ) (bytes : List ℕ) (given : List TableDef) (p a : ℕ) (es : List Entry) (place : ℕ) → c < 2 ^ 128 → StandsFor 1 c bytes (Log p a es) → HasTables given es → WasOther 1 c bytes given place → ⊥
log_not_other c bytes given p a es place below stands tables o =
    let s = one_log c bytes p o.promised a o.accepted es o.entries below stands o.stood in
    not_other given o.accepted o.entries place (subst (HasTables given) s.entries tables) o.other

pub log_not_unsound : (c : ℕ) (bytes : List ℕ) (p a : ℕ) (es : List Entry) → c < 2 ^ 128 → StandsFor 1 c bytes (Log p a es) → IsSound a es → WasUnsound 1 c bytes → ⊥
log_not_unsound c bytes p a es below stands sound u =
    let s = one_log c bytes p u.promised a u.accepted es u.entries below stands u.stood in
    u.unsound (subst (λ (n : ℕ). IsSound n u.entries) s.accepted (subst (IsSound a) s.entries sound))

pub good_not_other : (c : ℕ) (bytes : List ℕ) (given : List TableDef) (p a : ℕ) (es : List Entry) (place : ℕ) → c < 2 ^ 128 → StandsForGood 1 c bytes given p a es → WasOther 1 c bytes given place → ⊥
good_not_other c bytes given p a es place below g o = log_not_other c bytes given p a es place below g.stands g.good.tables o

pub good_not_unsound : (c : ℕ) (bytes : List ℕ) (given : List TableDef) (p a : ℕ) (es : List Entry) → c < 2 ^ 128 → StandsForGood 1 c bytes given p a es → WasUnsound 1 c bytes → ⊥
good_not_unsound c bytes given p a es below g u = log_not_unsound c bytes p a es below g.stands g.good.sound u

pub other_not_unsound : (c : ℕ) (bytes : List ℕ) (given : List TableDef) (place : ℕ) → c < 2 ^ 128 → WasOther 1 c bytes given place → WasUnsound 1 c bytes → ⊥
other_not_unsound c bytes given place below o u =
    let s = one_log c bytes o.promised u.promised o.accepted u.accepted o.entries u.entries below o.stood u.stood in
    u.unsound (subst (λ (n : ℕ). IsSound n u.entries) s.accepted (subst (IsSound o.accepted) s.entries o.other.sound))

pub same_place : (c : ℕ) (bytes : List ℕ) (given : List TableDef) (place other : ℕ) → c < 2 ^ 128 → WasOther 1 c bytes given place → WasOther 1 c bytes given other → place ≡ other
same_place c bytes given place other below o w =
    let s = one_log c bytes o.promised w.promised o.accepted w.accepted o.entries w.entries below o.stood w.stood in
    one_place given (tables_of w.entries) place other (subst (λ (fs : List Entry). IsDifference given (tables_of fs) place) s.entries o.other.difference) w.other.difference
