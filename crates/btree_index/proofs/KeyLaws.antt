-- The order of keys is total. A key is at most another where the other is not before it.
use Rattle.std.proofs.Common.{◌≡◌, Bool, true, false, [], ◌∷◌, refl, sym, ap, ◌∙◌}
use Rattle.std.proofs.lemmas.Bool.{false≢true}
use Rattle.std.specs.declared.cmp.Ordering.{Ordering}
use Rattle.std.specs.declared.cmp.Ordering.TheVariants.{Less, Equal, Greater}
use Rattle.std.specs.Ordering.{nat_cmp, is_lt, is_gt, is_eq, ordering_reverse}
use Rattle.std.specs.Cmp.Lexicographic.{slice_cmp}
use Rattle.std.proofs.lemmas.Cmp.{nat_list_cmp_total, upto, tied_itself}
use Rattle.btree_index.specs.Keys.{Key, before, same_key}

gt_reverse : (o : Ordering) → is_gt (ordering_reverse o) ≡ is_lt o
gt_reverse Less = refl
gt_reverse Equal = refl
gt_reverse Greater = refl

-- the same comparison from the other side
back : (a b : Key) → is_gt (slice_cmp nat_cmp b a) ≡ before a b
unfolding before
back a b = ap is_gt (nat_list_cmp_total.antisymm b a) ∙ gt_reverse (slice_cmp nat_cmp a b)

clash : (b : Bool) → b ≡ true → b ≡ false → ⊥
clash b t f = false≢true (sym f ∙ t)

-- a is at most b, and b at most c
pub atmost_atmost : (a b c : Key) → before b a ≡ false → before c b ≡ false → before c a ≡ false
atmost_atmost a b c h k =
    sym (back c a) ∙ upto nat_list_cmp_total a b c (back b a ∙ h) (back c b ∙ k)

-- a is before b, and b at most c
pub before_atmost : (a b c : Key) → before a b ≡ true → before c b ≡ false → before a c ≡ true
before_atmost a b c h k = go (before a c) refl
  where
    go : (t : Bool) → before a c ≡ t → before a c ≡ true
    go true e = e
    go false e = absurd (clash (before a b) h (atmost_atmost b c a k e))

-- a is at most b, and b before c
pub atmost_before : (a b c : Key) → before b a ≡ false → before b c ≡ true → before a c ≡ true
atmost_before a b c h k = go (before a c) refl
  where
    go : (t : Bool) → before a c ≡ t → before a c ≡ true
    go true e = e
    go false e = absurd (clash (before b c) k (atmost_atmost c a b e h))

-- no key is before itself
pub irreflexive : (a : Key) → before a a ≡ false
unfolding before
irreflexive a = ap is_lt (tied_itself nat_list_cmp_total a)

lt_alone : (o : Ordering) → is_lt o ≡ true → is_gt o ≡ false
lt_alone Less h = refl
lt_alone Equal h = refl
lt_alone Greater h = absurd (false≢true h)

-- what is before is not behind
pub not_back : (a b : Key) → before a b ≡ true → before b a ≡ false
unfolding before
not_back a b h = sym (back b a) ∙ lt_alone (slice_cmp nat_cmp a b) h

pub before_before : (a b c : Key) → before a b ≡ true → before b c ≡ true → before a c ≡ true
before_before a b c h k = before_atmost a b c h (not_back b c k)

lt_not_eq : (o : Ordering) → is_lt o ≡ true → is_eq o ≡ false
lt_not_eq Less h = refl
lt_not_eq Equal h = absurd (false≢true h)
lt_not_eq Greater h = absurd (false≢true h)

gt_not_eq : (o : Ordering) → is_gt o ≡ true → is_eq o ≡ false
gt_not_eq Less h = absurd (false≢true h)
gt_not_eq Equal h = absurd (false≢true h)
gt_not_eq Greater h = refl

-- a key is not the same as one behind it
pub not_same_before : (a b : Key) → before a b ≡ true → same_key a b ≡ false
unfolding before same_key
not_same_before a b h = lt_not_eq (slice_cmp nat_cmp a b) h

-- nor as one before it
pub not_same_behind : (a b : Key) → before b a ≡ true → same_key a b ≡ false
unfolding before same_key
not_same_behind a b h = gt_not_eq (slice_cmp nat_cmp a b) (back b a ∙ h)

-- no key is before the empty one
pub none_before_empty : (a : Key) → before a [] ≡ false
unfolding before
none_before_empty [] = refl
none_before_empty (x ∷ xs) = refl

eq_alone : (o : Ordering) → is_eq o ≡ true → (is_lt o ≡ false) × (is_gt o ≡ false)
eq_alone Less h = absurd (false≢true h)
eq_alone Equal h = (refl, refl)
eq_alone Greater h = absurd (false≢true h)

-- the same key is neither before nor behind
pub same_not_before : (a b : Key) → same_key a b ≡ true → before a b ≡ false
unfolding before same_key
same_not_before a b h = (eq_alone (slice_cmp nat_cmp a b) h).0

pub same_not_behind : (a b : Key) → same_key a b ≡ true → before b a ≡ false
unfolding before same_key
same_not_behind a b h = sym (back b a) ∙ (eq_alone (slice_cmp nat_cmp a b) h).1

others_gone : (o : Ordering) → is_eq o ≡ false → is_gt o ≡ false → is_lt o ≡ true
others_gone Less h k = refl
others_gone Equal h k = absurd (false≢true (sym h))
others_gone Greater h k = absurd (false≢true (sym k))

-- a key that is neither the same nor behind is before
pub else_before : (a b : Key) → same_key a b ≡ false → before b a ≡ false → before a b ≡ true
unfolding before same_key
else_before a b h k = others_gone (slice_cmp nat_cmp a b) h (back b a ∙ k)
