-- The versions that a transaction wrote itself, and those of the base that its writes took away.
use Rattle.std.proofs.Common.{◌≡◌, ℕ, zero, suc, ◌+◌, ◌<◌, ◌≤◌, ◌==◌, ◌++◌, ◌∷◌, [], List, Bool, true, false, ◌&&◌, ◌||◌, not, map, filter, refl, sym, ◌∙◌, ap, subst, append-nil, append_assoc, arith}
use Rattle.std.specs.Prelude.{slice_get, slice_set, if◌then◌else◌, Option, Some, None}
use Rattle.std.proofs.lemmas.Bool.Decides.{nat_tests}
use Rattle.std.specs.List.{list_any, AllByRecursion}
use Rattle.std.proofs.lemmas.List.Elements.{filter-append}
use Rattle.std.proofs.lemmas.List.Folds.{list_any-append}
use Rattle.cdb_values.specs.Rows.{takes, written, version}
use Rattle.cdb_values.specs.declared.rows.RowOp.{RowOp}
use Rattle.cdb_values.specs.declared.rows.RowOp.TheVariants.{Insert, Update, Delete}
use Rattle.cdb_values.specs.declared.rows.Version.{Version}
use Rattle.cdb_values.specs.declared.values.Value.{Value}
use Rattle.net_writes.specs.Net.{standing}
use Rattle.cdb_values.specs.Views.{IsOnBase}

-- the version that a write of this genid left in a table, if it left one there
abbrev pub own_one : ℕ → ℕ → Option RowOp → List Version
own_one table genid None = []
own_one table genid (Some (Insert place row)) = if place == table then version genid row ∷ [] else []
own_one table genid (Some (Update place target old row)) = if place == table then version genid row ∷ [] else []
own_one table genid (Some (Delete place target old)) = []

-- the own versions of a table, in the order of the writes
abbrev pub own : ℕ → List ℕ → List (Option RowOp) → List Version
own table [] held = []
own table (genid ∷ made) [] = []
own table (genid ∷ made) (one ∷ held) = own_one table genid one ++ own table made held

-- whether what a write is held as takes the version of that genid away from that table
abbrev pub takes_held : ℕ → ℕ → Option RowOp → Bool
takes_held table genid None = false
takes_held table genid (Some op) = takes table genid op

abbrev pub gone : ℕ → ℕ → List (Option RowOp) → Bool
gone table genid held = list_any (takes_held table genid) held

-- what a write is held as names the base alone
abbrev pub IsHeldOn : ℕ → ℕ → Option RowOp → Type 0
IsHeldOn tables next None = Unit {0}
IsHeldOn tables next (Some op) = IsOnBase tables next op

-- what a write is held as leaves no version
abbrev pub LeavesNone : Option RowOp → Type 0
LeavesNone None = Unit {0}
LeavesNone (Some (Insert place row)) = ⊥
LeavesNone (Some (Update place target old row)) = ⊥
LeavesNone (Some (Delete place target old)) = Unit {0}

-- the writes gave these genids, each above those before it, from one number up to below another;
-- a write without a genid, which is told as 0, left no version
abbrev pub Recorded : ℕ → ℕ → List ℕ → List (Option RowOp) → Type 0
Recorded low next [] [] = low ≤ next
Recorded low next [] (_ ∷ _) = ⊥
Recorded low next (_ ∷ _) [] = ⊥
Recorded low next (zero ∷ made) (one ∷ held) = (0 < low → LeavesNone one) × Recorded low next made held
Recorded low next (suc genid ∷ made) (one ∷ held) = (low ≤ suc genid) × Recorded (suc genid + 1) next made held

-- a write of that table that left its version there
abbrev pub IsWrittenTo : ℕ → Option RowOp → Type 0
IsWrittenTo table None = ⊥
IsWrittenTo table (Some (Insert place row)) = place ≡ table
IsWrittenTo table (Some (Update place target old row)) = place ≡ table
IsWrittenTo table (Some (Delete place target old)) = ⊥

-- what a write is held as takes away what the operation takes away, if it stands for one
pub gone_is : (table genid : ℕ) (held : List (Option RowOp)) → list_any (takes table genid) (standing held) ≡ gone table genid held
gone_is table genid [] = refl
gone_is table genid (None ∷ held) = gone_is table genid held
gone_is table genid (Some op ∷ held) = ap (λ b. takes table genid op || b) (gone_is table genid held)

-- operations that are held on a base stand on it
pub stands_on : (tables next : ℕ) (held : List (Option RowOp)) → AllByRecursion (IsHeldOn tables next) held → AllByRecursion (IsOnBase tables next) (standing held)
stands_on tables next [] all = tt
stands_on tables next (None ∷ held) all = stands_on tables next held all.1
stands_on tables next (Some op ∷ held) all = (all.0, stands_on tables next held all.1)

rows_front : (b : Bool) (genid : ℕ) (row : List Value) (vs : List Version) (rest : List (List Value)) → map (λ (v : Version). v.row) vs ≡ rest
    → map (λ (v : Version). v.row) ((if b then version genid row ∷ [] else []) ++ vs) ≡ (if b then row ∷ rest else rest)
rows_front true genid row vs rest is = ap (λ l. row ∷ l) is
rows_front false genid row vs rest is = is

own_one_rows : (table genid : ℕ) (made : List ℕ) (one : Option RowOp) (held : List (Option RowOp)) → map (λ (v : Version). v.row) (own table made held) ≡ written table (standing held)
    → map (λ (v : Version). v.row) (own_one table genid one ++ own table made held) ≡ written table (standing (one ∷ held))
own_one_rows table genid made None held is = is
own_one_rows table genid made (Some (Insert place row)) held is = rows_front (place == table) genid row (own table made held) (written table (standing held)) is
own_one_rows table genid made (Some (Update place target old row)) held is = rows_front (place == table) genid row (own table made held) (written table (standing held)) is
own_one_rows table genid made (Some (Delete place target old)) held is = is

-- the rows of the own versions are those that the standing operations write
pub own_rows : (table low next : ℕ) (made : List ℕ) (held : List (Option RowOp)) → Recorded low next made held → map (λ (v : Version). v.row) (own table made held) ≡ written table (standing held)
own_rows table low next [] [] told = refl
own_rows table low next [] (one ∷ held) told = absurd told
own_rows table low next (genid ∷ made) [] told = absurd told
own_rows table low next (zero ∷ made) (one ∷ held) told = own_one_rows table zero made one held (own_rows table low next made held told.1)
own_rows table low next (suc genid ∷ made) (one ∷ held) told = own_one_rows table (suc genid) made one held (own_rows table (suc genid + 1) next made held told.1)

-- one more write, and the version that it left
pub own_more : (table low next genid : ℕ) (made : List ℕ) (held : List (Option RowOp)) (one : Option RowOp) → Recorded low next made held
    → own table (made ++ genid ∷ []) (held ++ one ∷ []) ≡ own table made held ++ own_one table genid one
own_more table low next genid [] [] one told = append-nil (own_one table genid one)
own_more table low next genid [] (x ∷ held) one told = absurd told
own_more table low next genid (g ∷ made) [] one told = absurd told
own_more table low next genid (zero ∷ made) (x ∷ held) one told =
    ap (λ l. own_one table zero x ++ l) (own_more table low next genid made held one told.1) ∙ sym (append_assoc (own_one table zero x) (own table made held) (own_one table genid one))
own_more table low next genid (suc g ∷ made) (x ∷ held) one told =
    ap (λ l. own_one table (suc g) x ++ l) (own_more table (suc g + 1) next genid made held one told.1)
    ∙ sym (append_assoc (own_one table (suc g) x) (own table made held) (own_one table genid one))

-- a write that gave the next genid
pub recorded_next : (low next : ℕ) (made : List ℕ) (held : List (Option RowOp)) (one : Option RowOp) → Recorded low next made held → Recorded low (next + 1) (made ++ next ∷ []) (held ++ one ∷ [])
recorded_next low zero [] [] one told = (λ some. absurd (omega arith), omega arith)
recorded_next low (suc next) [] [] one told = (told, omega arith)
recorded_next low next [] (x ∷ held) one told = absurd told
recorded_next low next (g ∷ made) [] one told = absurd told
recorded_next low next (zero ∷ made) (x ∷ held) one told = (told.0, recorded_next low next made held one told.1)
recorded_next low next (suc g ∷ made) (x ∷ held) one told = (told.0, recorded_next (suc g + 1) next made held one told.1)

-- a write that gave none
pub recorded_none : (low next : ℕ) (made : List ℕ) (held : List (Option RowOp)) (one : Option RowOp) → LeavesNone one → Recorded low next made held → Recorded low next (made ++ 0 ∷ []) (held ++ one ∷ [])
recorded_none low next [] [] one leaves told = (λ _. leaves, told)
recorded_none low next [] (x ∷ held) one leaves told = absurd told
recorded_none low next (g ∷ made) [] one leaves told = absurd told
recorded_none low next (zero ∷ made) (x ∷ held) one leaves told = (told.0, recorded_none low next made held one leaves told.1)
recorded_none low next (suc g ∷ made) (x ∷ held) one leaves told = (told.0, recorded_none (suc g + 1) next made held one leaves told.1)

-- the genids do not ask what a write is held as
pub recorded_out : (low next i : ℕ) (made : List ℕ) (held : List (Option RowOp)) → Recorded low next made held → Recorded low next made (slice_set held i None)
recorded_out low next i [] [] told = told
recorded_out low next i [] (x ∷ held) told = absurd told
recorded_out low next i (g ∷ made) [] told = absurd told
recorded_out low next zero (zero ∷ made) (x ∷ held) told = (λ _. tt, told.1)
recorded_out low next zero (suc g ∷ made) (x ∷ held) told = told
recorded_out low next (suc i) (zero ∷ made) (x ∷ held) told = (told.0, recorded_out low next i made held told.1)
recorded_out low next (suc i) (suc g ∷ made) (x ∷ held) told = (told.0, recorded_out (suc g + 1) next i made held told.1)

-- what was recorded is not below where the genids began
pub recorded_above : (low next i genid : ℕ) (made : List ℕ) (held : List (Option RowOp)) → Recorded low next made held → slice_get made i ≡ Some (suc genid) → low ≤ suc genid
recorded_above low next i genid [] held told is = cc
recorded_above low next i genid (g ∷ made) [] told is = absurd told
recorded_above low next zero genid (zero ∷ made) (x ∷ held) told is = let e : 0 ≡ suc genid = cc in omega arith
recorded_above low next zero genid (suc g ∷ made) (x ∷ held) told is = let e : suc g ≡ suc genid = cc in subst (λ n. low ≤ n) e told.0
recorded_above low next (suc i) genid (zero ∷ made) (x ∷ held) told is = recorded_above low next i genid made held told.1 is
recorded_above low next (suc i) genid (suc g ∷ made) (x ∷ held) told is =
    let first : low ≤ suc g = told.0 in
    let later : suc g + 1 ≤ suc genid = recorded_above (suc g + 1) next i genid made held told.1 is in omega arith

-- the versions that are not of that genid, where the table is this one
abbrev pub others : Bool → ℕ → List Version → List Version
others here genid vs = filter (λ v. not (here && (genid == v.genid))) vs

others_if : (here b : Bool) (genid g : ℕ) (row : List Value) → (genid ≡ g → ⊥) → others here genid (if b then version g row ∷ [] else []) ≡ (if b then version g row ∷ [] else [])
others_if here false genid g row apart = refl
others_if false true genid g row apart = refl
others_if true true genid g row apart = let e : (genid == g) ≡ false = grind (arith, nat_tests) in ap (λ b. if not b then version g row ∷ [] else []) e

-- a version of another genid is left
others_one : (here : Bool) (table genid g : ℕ) (one : Option RowOp) → (genid ≡ g → ⊥) → others here genid (own_one table g one) ≡ own_one table g one
others_one here table genid g None apart = refl
others_one here table genid g (Some (Insert place row)) apart = others_if here (place == table) genid g row apart
others_one here table genid g (Some (Update place target old row)) apart = others_if here (place == table) genid g row apart
others_one here table genid g (Some (Delete place target old)) apart = refl

others_front : (here : Bool) (genid : ℕ) (xs ys zs : List Version) → others here genid xs ≡ xs → others here genid ys ≡ zs → others here genid (xs ++ ys) ≡ xs ++ zs
others_front here genid xs ys zs first later = filter-append (λ v. not (here && (genid == v.genid))) xs ys ∙ (λ j. first j ++ later j)

others_none : (here : Bool) (table genid : ℕ) (one : Option RowOp) → LeavesNone one → others here genid (own_one table zero one) ≡ own_one table zero one
others_none here table genid None leaves = refl
others_none here table genid (Some (Insert place row)) leaves = absurd leaves
others_none here table genid (Some (Update place target old row)) leaves = absurd leaves
others_none here table genid (Some (Delete place target old)) leaves = refl

above_none : (low genid : ℕ) → genid < low → 0 < low
above_none low genid below = omega arith

-- own versions are not those of a lower genid
pub others_own : (here : Bool) (table genid low next : ℕ) (made : List ℕ) (held : List (Option RowOp)) → Recorded low next made held → genid < low
    → others here genid (own table made held) ≡ own table made held
others_own here table genid low next [] held told below = refl
others_own here table genid low next (g ∷ made) [] told below = refl
others_own here table genid low next (zero ∷ made) (x ∷ held) told below =
    others_front here genid (own_one table zero x) (own table made held) (own table made held) (others_none here table genid x (told.0 (above_none low genid below)))
    (others_own here table genid low next made held told.1 below)
others_own here table genid low next (suc g ∷ made) (x ∷ held) told below =
    let above : low ≤ suc g = told.0 in
    others_front here genid (own_one table (suc g) x) (own table made held) (own table made held) (others_one here table genid (suc g) x (λ e. omega arith))
    (others_own here table genid (suc g + 1) next made held told.1 (omega arith))

out_if : (here : Bool) (genid : ℕ) (row : List Value) → others here genid (if here then version genid row ∷ [] else []) ≡ []
out_if false genid row = refl
out_if true genid row = let e : (genid == genid) ≡ true = grind (arith, nat_tests) in ap (λ b. if not b then version genid row ∷ [] else []) e

-- the version of that write is not left
out_one : (place table genid : ℕ) (one : Option RowOp) → IsWrittenTo place one → others (place == table) genid (own_one table genid one) ≡ []
out_one place table genid None to = absurd to
out_one place table genid (Some (Insert at row)) to =
    subst (λ p. others (place == table) genid (if p == table then version genid row ∷ [] else []) ≡ []) (sym to) (out_if (place == table) genid row)
out_one place table genid (Some (Update at target old row)) to =
    subst (λ p. others (place == table) genid (if p == table then version genid row ∷ [] else []) ≡ []) (sym to) (out_if (place == table) genid row)
out_one place table genid (Some (Delete at target old)) to = absurd to

-- the own versions without that of a write are those without the write
pub others_out : (place table i genid low next : ℕ) (made : List ℕ) (held : List (Option RowOp)) (one : Option RowOp) → Recorded low next made held → slice_get made i ≡ Some (suc genid)
    → slice_get held i ≡ Some one → IsWrittenTo place one → others (place == table) (suc genid) (own table made held) ≡ own table made (slice_set held i None)
others_out place table i genid low next [] held one told gave is to = cc
others_out place table i genid low next (g ∷ made) [] one told gave is to = absurd told
others_out place table zero genid low next (zero ∷ made) (x ∷ held) one told gave is to = let e : 0 ≡ suc genid = cc in absurd (omega arith)
others_out place table zero genid low next (suc g ∷ made) (x ∷ held) one told gave is to =
    let e : suc g ≡ suc genid = cc in
    let same : one ≡ x = cc in
    subst (λ n. others (place == table) n (own_one table (suc g) x ++ own table made held) ≡ own table made held) e (
    filter-append (λ v. not ((place == table) && (suc g == v.genid))) (own_one table (suc g) x) (own table made held)
    ∙ ap (λ l. l ++ others (place == table) (suc g) (own table made held)) (out_one place table (suc g) x (subst (IsWrittenTo place) same to))
    ∙ others_own (place == table) table (suc g) (suc g + 1) next made held told.1 (omega arith)
    )
others_out place table (suc i) genid low next (zero ∷ made) (x ∷ held) one told gave is to =
    others_front (place == table) (suc genid) (own_one table zero x) (own table made held) (own table made (slice_set held i None)) (others_one (place == table) table (suc genid) zero x (λ e. omega arith))
    (others_out place table i genid low next made held one told.1 gave is to)
others_out place table (suc i) genid low next (suc g ∷ made) (x ∷ held) one told gave is to =
    let above : suc g + 1 ≤ suc genid = recorded_above (suc g + 1) next i genid made held told.1 gave in
    others_front (place == table) (suc genid) (own_one table (suc g) x) (own table made held) (own table made (slice_set held i None)) (others_one (place == table) table (suc genid) (suc g) x (λ e. omega arith))
    (others_out place table i genid (suc g + 1) next made held one told.1 gave is to)

or_first : (a b : Bool) → (a || b) ≡ true → b ≡ false → a ≡ true
or_first true b is lacks = refl
or_first false b is lacks = cc

or_second : (a b : Bool) → (a || b) ≡ true → a ≡ false → b ≡ true
or_second true b is lacks = cc
or_second false b is lacks = is

-- of the parts of a list, the one that has the genid
pub in_first : (genid : ℕ) (xs ys : List Version) → list_any (λ v. v.genid == genid) (xs ++ ys) ≡ true → list_any (λ v. v.genid == genid) ys ≡ false → list_any (λ v. v.genid == genid) xs ≡ true
in_first genid xs ys is lacks = or_first _ _ (sym (list_any-append (λ v. v.genid == genid) xs ys) ∙ is) lacks

pub in_second : (genid : ℕ) (xs ys : List Version) → list_any (λ v. v.genid == genid) (xs ++ ys) ≡ true → list_any (λ v. v.genid == genid) xs ≡ false → list_any (λ v. v.genid == genid) ys ≡ true
in_second genid xs ys is lacks = or_second _ _ (sym (list_any-append (λ v. v.genid == genid) xs ys) ∙ is) lacks

absent_if : (b : Bool) (genid g : ℕ) (row : List Value) → (genid ≡ g → ⊥) → list_any (λ v. v.genid == genid) (if b then version g row ∷ [] else []) ≡ false
absent_if false genid g row apart = refl
absent_if true genid g row apart = let e : (g == genid) ≡ false = grind (arith, nat_tests) in ap (λ b. b || false) e

absent_one : (table genid g : ℕ) (one : Option RowOp) → (genid ≡ g → ⊥) → list_any (λ v. v.genid == genid) (own_one table g one) ≡ false
absent_one table genid g None apart = refl
absent_one table genid g (Some (Insert place row)) apart = absent_if (place == table) genid g row apart
absent_one table genid g (Some (Update place target old row)) apart = absent_if (place == table) genid g row apart
absent_one table genid g (Some (Delete place target old)) apart = refl

absent_front : (genid : ℕ) (xs ys : List Version) → list_any (λ v. v.genid == genid) xs ≡ false → list_any (λ v. v.genid == genid) ys ≡ false → list_any (λ v. v.genid == genid) (xs ++ ys) ≡ false
absent_front genid xs ys first later = list_any-append (λ v. v.genid == genid) xs ys ∙ (λ j. first j || later j)

-- no own version has a lower genid
absent_own : (table genid low next : ℕ) (made : List ℕ) (held : List (Option RowOp)) → Recorded low next made held → 0 < genid → genid < low → list_any (λ v. v.genid == genid) (own table made held) ≡ false
absent_own table genid low next [] held told some below = refl
absent_own table genid low next (g ∷ made) [] told some below = refl
absent_own table genid low next (zero ∷ made) (x ∷ held) told some below =
    absent_front genid (own_one table zero x) (own table made held) (absent_one table genid zero x (λ e. omega arith)) (absent_own table genid low next made held told.1 some below)
absent_own table genid low next (suc g ∷ made) (x ∷ held) told some below =
    let above : low ≤ suc g = told.0 in
    absent_front genid (own_one table (suc g) x) (own table made held) (absent_one table genid (suc g) x (λ e. omega arith)) (absent_own table genid (suc g + 1) next made held told.1 some (omega arith))

to_if : (b : Bool) (place table genid : ℕ) (row : List Value) → (place == table) ≡ b → list_any (λ v. v.genid == genid) (if b then version genid row ∷ [] else []) ≡ true → place ≡ table
to_if true place table genid row same is = grind (arith, nat_tests)
to_if false place table genid row same is = cc

to_one : (table genid : ℕ) (one : Option RowOp) → list_any (λ v. v.genid == genid) (own_one table genid one) ≡ true → IsWrittenTo table one
to_one table genid None is = cc
to_one table genid (Some (Insert place row)) is = to_if (place == table) place table genid row refl is
to_one table genid (Some (Update place target old row)) is = to_if (place == table) place table genid row refl is
to_one table genid (Some (Delete place target old)) is = cc

-- the write whose own version is in the table is held as a write of that table
pub record IsStillThere (table i : ℕ) (held : List (Option RowOp)) : Type 0 where
  pub one : Option RowOp
  pub is : slice_get held i ≡ Some one
  pub to : IsWrittenTo table one

pub still_there : (table i genid low next : ℕ) (made : List ℕ) (held : List (Option RowOp)) → Recorded low next made held → slice_get made i ≡ Some (suc genid)
    → list_any (λ v. v.genid == suc genid) (own table made held) ≡ true → IsStillThere table i held
still_there table i genid low next [] held told gave is = cc
still_there table i genid low next (g ∷ made) [] told gave is = absurd told
still_there table zero genid low next (zero ∷ made) (x ∷ held) told gave is = let e : 0 ≡ suc genid = cc in absurd (omega arith)
still_there table zero genid low next (suc g ∷ made) (x ∷ held) told gave is =
    let e : suc genid ≡ suc g = cc in
    let lacks : list_any (λ v. v.genid == suc g) (own table made held) ≡ false = absent_own table (suc g) (suc g + 1) next made held told.1 (omega arith) (omega arith) in
    let here : list_any (λ v. v.genid == suc g) (own_one table (suc g) x ++ own table made held) ≡ true = subst (λ n. list_any (λ v. v.genid == n) (own_one table (suc g) x ++ own table made held) ≡ true) e is in
    record { one = x; is = refl; to = to_one table (suc g) x (in_first (suc g) (own_one table (suc g) x) (own table made held) here lacks) }
still_there table (suc i) genid low next (zero ∷ made) (x ∷ held) told gave is =
    let later = still_there table i genid low next made held told.1 gave (in_second (suc genid) (own_one table zero x) (own table made held) is (absent_one table (suc genid) zero x (λ e. omega arith))) in
    record { one = later.one; is = later.is; to = later.to }
still_there table (suc i) genid low next (suc g ∷ made) (x ∷ held) told gave is =
    let above : suc g + 1 ≤ suc genid = recorded_above (suc g + 1) next i genid made held told.1 gave in
    let later =
    still_there table i genid (suc g + 1) next made held told.1 gave (in_second (suc genid) (own_one table (suc g) x) (own table made held) is (absent_one table (suc genid) (suc g) x (λ e. omega arith))) in
    record { one = later.one; is = later.is; to = later.to }

or_last : (a b : Bool) → (a || (b || false)) ≡ (a || b)
or_last true b = refl
or_last false true = refl
or_last false false = refl

-- one more write takes away what it is held as, beside the others
pub gone_more : (table genid : ℕ) (held : List (Option RowOp)) (one : Option RowOp) → gone table genid (held ++ one ∷ []) ≡ (gone table genid held || takes_held table genid one)
gone_more table genid held one = list_any-append (takes_held table genid) held (one ∷ []) ∙ or_last (gone table genid held) (takes_held table genid one)

or_moved : (a b c : Bool) → (a || (b || c)) ≡ ((a || b) || c)
or_moved true b c = refl
or_moved false b c = refl

or_flip : (a b : Bool) → (a || b) ≡ (b || a)
or_flip true true = refl
or_flip true false = refl
or_flip false true = refl
or_flip false false = refl

-- a write that is taken out leaves what the others take away
pub gone_out : (table genid i : ℕ) (held : List (Option RowOp)) (one : Option RowOp) → slice_get held i ≡ Some one → gone table genid held ≡ (gone table genid (slice_set held i None) || takes_held table genid one)
gone_out table genid i [] one is = cc
gone_out table genid zero (x ∷ held) one is =
    let same : x ≡ one = cc in ap (λ o. takes_held table genid o || gone table genid held) same ∙ or_flip (takes_held table genid one) (gone table genid held)
gone_out table genid (suc i) (x ∷ held) one is =
    ap (λ b. takes_held table genid x || b) (gone_out table genid i held one is) ∙ or_moved (takes_held table genid x) (gone table genid (slice_set held i None)) (takes_held table genid one)

pub held_more : (tables next : ℕ) (held : List (Option RowOp)) (one : Option RowOp) → AllByRecursion (IsHeldOn tables next) held → IsHeldOn tables next one → AllByRecursion (IsHeldOn tables next) (held ++ one ∷ [])
held_more tables next [] one all is = (is, tt)
held_more tables next (x ∷ held) one all is = (all.0, held_more tables next held one all.1 is)

pub held_out : (tables next i : ℕ) (held : List (Option RowOp)) → AllByRecursion (IsHeldOn tables next) held → AllByRecursion (IsHeldOn tables next) (slice_set held i None)
held_out tables next i [] all = tt
held_out tables next zero (x ∷ held) all = (tt, all.1)
held_out tables next (suc i) (x ∷ held) all = (all.0, held_out tables next i held all.1)

pub held_there : (tables next i : ℕ) (held : List (Option RowOp)) (one : Option RowOp) → AllByRecursion (IsHeldOn tables next) held → slice_get held i ≡ Some one → IsHeldOn tables next one
held_there tables next i [] one all is = cc
held_there tables next zero (x ∷ held) one all is = let same : x ≡ one = cc in subst (IsHeldOn tables next) same all.0
held_there tables next (suc i) (x ∷ held) one all is = held_there tables next i held one all.1 is
