-- Versions without repeats: which there are, and that none comes twice.
use Rattle.std.proofs.Common.{◌≡◌, ◌==◌, ◌&&◌, ◌||◌, Bool, true, false, List, [], ◌∷◌, ◌++◌, if◌then◌else◌, refl, sym, ap, ◌∙◌}
use Rattle.std.proofs.lemmas.Bool.{eqb-true}
use Rattle.cdb_values.specs.declared.items.GenidItem.{GenidItem}
use Rattle.session_language.specs.Touched.{is_same_item}
use Rattle.osql_session.specs.Items.{with_item, with_items, without_repeats, is_among, AreApart}

both_first : (a b : Bool) → (a && b) ≡ true → a ≡ true
both_first true b is = refl
both_first false b is = cc

both_second : (a b : Bool) → (a && b) ≡ true → b ≡ true
both_second true b is = is
both_second false b is = cc

or_assoc : (a b c : Bool) → ((a || b) || c) ≡ (a || (b || c))
or_assoc true b c = refl
or_assoc false b c = refl

or_false : (a : Bool) → (a || false) ≡ a
or_false true = refl
or_false false = refl

or_absorbs : (a b : Bool) → (b ≡ true → a ≡ true) → a ≡ (a || b)
or_absorbs true b is = refl
or_absorbs false true is = is refl
or_absorbs false false is = refl

-- one version is the other
pub same_is : (a b : GenidItem) → is_same_item a b ≡ true → a ≡ b
same_is a b is =
    let table : a.table ≡ b.table = eqb-true a.table b.table (both_first (a.table == b.table) (a.genid == b.genid) is) in
    let genid : a.genid ≡ b.genid = eqb-true a.genid b.genid (both_second (a.table == b.table) (a.genid == b.genid) is) in
    (λ j. record { table = table j; genid = genid j })

back : (a b : GenidItem) → is_same_item a b ≡ true → is_same_item b a ≡ true
back a b is = ap (λ x. is_same_item x a) (sym (same_is a b is)) ∙ ap (is_same_item a) (same_is a b is) ∙ is

other_false : (a b : Bool) → (b ≡ true → a ≡ true) → a ≡ false → b ≡ false
other_false a true is absent = sym (is refl) ∙ absent
other_false a false is absent = refl

among_back : (items : List GenidItem) (m x : GenidItem) → is_among (items ++ m ∷ []) x ≡ (is_among items x || is_same_item x m)
among_back [] m x = or_false (is_same_item x m)
among_back (item ∷ items) m x =
    ap (λ b. is_same_item x item || b) (among_back items m x) ∙ sym (or_assoc (is_same_item x item) (is_among items x) (is_same_item x m))

-- one more
among_one : (items : List GenidItem) (m x : GenidItem) → is_among (with_item items m) x ≡ (is_among items x || is_same_item x m)
among_one items m x = by (is_among items m) refl
  where
    by : (b : Bool) → is_among items m ≡ b → is_among (if b then items else items ++ m ∷ []) x ≡ (is_among items x || is_same_item x m)
    by true is = or_absorbs (is_among items x) (is_same_item x m) (λ same. ap (is_among items) (same_is x m same) ∙ is)
    by false is = among_back items m x

among_all : (items more : List GenidItem) (x : GenidItem) → is_among (with_items items more) x ≡ (is_among items x || is_among more x)
among_all items [] x = sym (or_false (is_among items x))
among_all items (m ∷ more) x =
    among_all (with_item items m) more x
    ∙ ap (λ b. b || is_among more x) (among_one items m x)
    ∙ or_assoc (is_among items x) (is_same_item x m) (is_among more x)

pub same_among : (items : List GenidItem) (item : GenidItem) → is_among (without_repeats items) item ≡ is_among items item
same_among items item = among_all [] items item

-- one that is not among them leaves them apart
apart_back : (items : List GenidItem) (m : GenidItem) → is_among items m ≡ false → AreApart items → AreApart (items ++ m ∷ [])
apart_back [] m absent apart = (refl, tt)
apart_back (item ∷ items) m absent apart = (
  among_back items m item ∙ ap (λ b. b || is_same_item item m) apart.0
      ∙ other_false (is_same_item m item) (is_same_item item m) (back item m) (first_false (is_same_item m item) (is_among items m) absent),
  apart_back items m (second_false (is_same_item m item) (is_among items m) absent) apart.1,
)
  where
    first_false : (a b : Bool) → (a || b) ≡ false → a ≡ false
    first_false true b absent = absent
    first_false false b absent = refl

    second_false : (a b : Bool) → (a || b) ≡ false → b ≡ false
    second_false true b absent = cc
    second_false false b absent = absent

apart_one : (items : List GenidItem) (m : GenidItem) → AreApart items → AreApart (with_item items m)
apart_one items m apart = by (is_among items m) refl
  where
    by : (b : Bool) → is_among items m ≡ b → AreApart (if b then items else items ++ m ∷ [])
    by true is = apart
    by false is = apart_back items m is apart

apart_all : (items more : List GenidItem) → AreApart items → AreApart (with_items items more)
apart_all items [] apart = apart
apart_all items (m ∷ more) apart = apart_all (with_item items m) more (apart_one items m apart)

pub none_twice : (items : List GenidItem) → AreApart (without_repeats items)
none_twice items = apart_all [] items tt
