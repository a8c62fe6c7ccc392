-- How often a genid stands among versions, and among those that operations take away.
use Rattle.std.proofs.Common.{◌≡◌, ℕ, ◌+◌, ◌≤◌, ◌==◌, List, [], ◌∷◌, ◌++◌, filter, Bool, true, false, cond, ◌&&◌, refl, sym, ◌∙◌, ap, arith}
use Rattle.std.specs.List.{AllByRecursion, list_any}
use Rattle.std.proofs.lemmas.Bool.{or_parts, eqb-true, eqb-false, true≢false}
use Rattle.cdb_values.specs.Rows.{takes, version}
use Rattle.cdb_values.specs.declared.rows.RowOp.{RowOp}
use Rattle.cdb_values.specs.declared.rows.RowOp.TheVariants.{Insert, Update, Delete}
use Rattle.cdb_values.specs.declared.rows.RowRef.TheVariants.{Base, Own}
use Rattle.cdb_values.specs.declared.rows.Version.{Version}
use Rattle.cdb_values.specs.declared.values.Value.{Value}
use Rattle.table_store.specs.Operations.{gone, NoTwice}

-- one more where it is
abbrev pub one_if : Bool → ℕ
one_if true = 1
one_if false = 0

-- how many versions have this genid
abbrev pub times : ℕ → List Version → ℕ
times genid [] = 0
times genid (v ∷ vs) = one_if (v.genid == genid) + times genid vs

-- ---- no genid twice

same_is : (n : ℕ) → one_if (n == n) ≡ 1
same_is n = go (n == n) refl
  where
    go : (b : Bool) → (n == n) ≡ b → one_if b ≡ 1
    go true e = refl
    go false e = absurd (eqb-false n n e refl)

other_is : (n m : ℕ) → (n ≡ m → ⊥) → one_if (n == m) ≡ 0
other_is n m differ = go (n == m) refl
  where
    go : (b : Bool) → (n == m) ≡ b → one_if b ≡ 0
    go true e = absurd (differ (eqb-true n m e))
    go false e = refl

none_of : (genid : ℕ) (vs : List Version) → AllByRecursion (λ w. w.genid ≡ genid → ⊥) vs → times genid vs ≡ 0
none_of genid [] all = refl
none_of genid (v ∷ vs) all = let here = other_is v.genid genid all.0 in let later = none_of genid vs all.1 in omega (arith, here, later)

pub at_most_once : (genid : ℕ) (vs : List Version) → NoTwice vs → times genid vs ≤ 1
at_most_once genid [] once = omega arith
at_most_once genid (v ∷ vs) once = go (v.genid == genid) refl (at_most_once genid vs once.1)
  where
    go : (b : Bool) → (v.genid == genid) ≡ b → times genid vs ≤ 1 → one_if b + times genid vs ≤ 1
    go true e later =
        let none : times genid vs ≡ 0 = ap (λ g. times g vs) (sym (eqb-true v.genid genid e)) ∙ none_of v.genid vs once.0 in
        omega (arith, none)
    go false e later = omega (arith, later)

none_here : (genid : ℕ) (vs : List Version) → times genid vs ≤ 0 → AllByRecursion (λ w. w.genid ≡ genid → ⊥) vs
none_here genid [] few = tt
none_here genid (v ∷ vs) few = (
  λ same. (let one : one_if (v.genid == genid) ≡ 1 = ap (λ g. one_if (v.genid == g)) (sym same) ∙ same_is v.genid in omega (arith, one, few)),
  none_here genid vs (omega (arith, few)),
)

pub no_twice : (vs : List Version) → ((genid : ℕ) → times genid vs ≤ 1) → NoTwice vs
no_twice [] few = tt
no_twice (v ∷ vs) few = (
  none_here v.genid vs (let one = same_is v.genid in let all = few v.genid in omega (arith, one, all)),
  no_twice vs (λ genid. (let all = few genid in omega (arith, all))),
)

-- ---- what a filter leaves

pub fewer : (test : Version → Bool) (genid : ℕ) (vs : List Version) → times genid (filter test vs) ≤ times genid vs
fewer test genid [] = omega arith
fewer test genid (v ∷ vs) = go (test v) (fewer test genid vs)
  where
    go : (b : Bool) → times genid (filter test vs) ≤ times genid vs
        → times genid (cond b (v ∷ filter test vs) (filter test vs)) ≤ one_if (v.genid == genid) + times genid vs
    go true later = omega (arith, later)
    go false later = omega (arith, later)

pub none_left : (test : Version → Bool) (genid : ℕ) (vs : List Version) → ((v : Version) → v.genid ≡ genid → test v ≡ false)
    → times genid (filter test vs) ≡ 0
none_left test genid [] out = refl
none_left test genid (v ∷ vs) out = go (test v) refl (none_left test genid vs out)
  where
    go : (b : Bool) → test v ≡ b → times genid (filter test vs) ≡ 0 → times genid (cond b (v ∷ filter test vs) (filter test vs)) ≡ 0
    go true kept later =
        let here = other_is v.genid genid (λ same. true≢false (sym kept ∙ out v same)) in
        omega (arith, here, later)
    go false left later = later

-- ---- what operations take away

-- how often one operation takes the version of that genid away from that table
abbrev pub taken_by : ℕ → ℕ → RowOp → ℕ
taken_by table genid op = times genid (gone table (op ∷ []))

one_gone : (genid : ℕ) (v : Version) (vs : List Version) (here : Bool)
    → times genid (cond here (v ∷ vs) vs) ≡ times genid (cond here (v ∷ []) []) + times genid vs
one_gone genid v vs true = omega arith
one_gone genid v vs false = omega arith

pub gone_first : (table genid : ℕ) (op : RowOp) (ops : List RowOp)
    → times genid (gone table (op ∷ ops)) ≡ taken_by table genid op + times genid (gone table ops)
gone_first table genid (Insert place row) ops = omega arith
gone_first table genid (Update place (Base target) old row) ops = one_gone genid (version target old) (gone table ops) (place == table)
gone_first table genid (Update place (Own write) old row) ops = omega arith
gone_first table genid (Delete place (Base target) old) ops = one_gone genid (version target old) (gone table ops) (place == table)
gone_first table genid (Delete place (Own write) old) ops = omega arith

pub gone_both : (table genid : ℕ) (xs ys : List RowOp) → times genid (gone table (xs ++ ys)) ≡ times genid (gone table xs) + times genid (gone table ys)
gone_both table genid [] ys = omega arith
gone_both table genid (op ∷ xs) ys =
    let all = gone_first table genid op (xs ++ ys) in
    let front = gone_first table genid op xs in
    let later = gone_both table genid xs ys in
    omega (arith, all, front, later)

-- an operation that takes no such version
not_taken : (target genid : ℕ) (old : List Value) (here same : Bool) → (here && same) ≡ false → (target == genid) ≡ same
    → times genid (cond here (version target old ∷ []) []) ≡ 0
not_taken target genid old true true is e = absurd (true≢false is)
not_taken target genid old true false is e = let here : one_if (target == genid) ≡ 0 = ap one_if e in omega (arith, here)
not_taken target genid old false same is e = refl

untaken : (table genid : ℕ) (op : RowOp) → takes table genid op ≡ false → taken_by table genid op ≡ 0
untaken table genid (Insert place row) is = refl
untaken table genid (Update place (Base target) old row) is = not_taken target genid old (place == table) (target == genid) is refl
untaken table genid (Update place (Own write) old row) is = refl
untaken table genid (Delete place (Base target) old) is = not_taken target genid old (place == table) (target == genid) is refl
untaken table genid (Delete place (Own write) old) is = refl

pub all_untaken : (table genid : ℕ) (ops : List RowOp) → list_any (takes table genid) ops ≡ false → times genid (gone table ops) ≡ 0
all_untaken table genid [] is = refl
all_untaken table genid (op ∷ ops) is =
    let parts = or_parts (takes table genid op) (list_any (takes table genid) ops) is in
    let all = gone_first table genid op ops in
    let here = untaken table genid op parts.0 in
    let later = all_untaken table genid ops parts.1 in
    omega (arith, all, here, later)
