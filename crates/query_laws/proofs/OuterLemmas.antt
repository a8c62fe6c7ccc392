-- The outer combinations of the walk are those that lie in their intervals and pass their conjuncts.
use Rattle.std.proofs.Common.{◌≡◌, ℕ, ◌+◌, ◌≤◌, List, [], ◌∷◌, ◌++◌, length, refl, sym, ap, subst, arith, ◌∙◌, Bool, true, false, ◌&&◌, cond, map, append_assoc, append-nil, leb}
use Rattle.std.proofs.lemmas.Bool.{cond_both, and_parts, leb-true, le-leb}
use Rattle.std.proofs.lemmas.List.{length-append}
use Rattle.std.proofs.lemmas.List.Elements.{filter-append}
use Rattle.std.specs.List.{AllByRecursion, filter, flat_map}
use Rattle.cdb_values.specs.declared.tables.TableDef.{TableDef}
use Rattle.cdb_values.specs.declared.values.Value.{Value}
use Rattle.query_laws.proofs.ConditionLaws.{truth_front}
use Rattle.query_laws.proofs.ListLaws.{false_since}
use Rattle.session_language.proofs.EachLaws.{all_append}
use Rattle.session_language.proofs.RowsLaws.{filter_true, filter_false}
use Rattle.query_laws.proofs.WalkLaws.{rows_append}
use Rattle.sql_bind.specs.Bound.{Cond}
use Rattle.sql_answer.specs.Truth.{is_yes}
use Rattle.sql_answer.specs.Conditions.{holds}
use Rattle.query_laws.specs.Conjuncts.{reach}
use Rattle.query_laws.specs.Intervals.{lies}
use Rattle.query_laws.specs.Plans.{interval_at}
use Rattle.sql_answer.specs.Combinations.{Seen, seen, rows_of, extended, combinations_from}
use Rattle.query_laws.specs.Walks.{holds_yet, is_outer, outer, within, reached, ranges_from, lies_from, outer_of, ranges_by}

-- what holds of the places so far holds of fewer of them
yet_front : (rows more : List (List Value)) (c : Cond) → holds_yet (rows ++ more) c ≡ true → holds_yet rows c ≡ true
yet_front rows more c is =
    cond_both (leb (reach c) (length rows)) (holds rows c) true (λ b. b ≡ true)
    (λ near.
    let close : reach c ≤ length rows = leb-true (reach c) (length rows) near in
    let within : reach c ≤ length (rows ++ more) = omega (arith, close, length-append rows more) in
    sym (ap is_yes (truth_front c rows more close)) ∙ sym (ap (λ b. cond b (holds (rows ++ more) c) true) (le-leb (reach c) (length (rows ++ more)) within)) ∙ is)
    (λ far. refl)

outer_front : (cs : List Cond) (rows more : List (List Value)) → is_outer cs (rows ++ more) ≡ true → is_outer cs rows ≡ true
outer_front [] rows more is = refl
outer_front (c ∷ cs) rows more is =
    let both = and_parts (holds_yet (rows ++ more) c) (is_outer cs (rows ++ more)) is in
    ap (λ b. b && is_outer cs rows) (yet_front rows more c both.0) ∙ outer_front cs rows more both.1

not_more : (cs : List Cond) (rows : List Seen) (s : Seen) → is_outer cs (rows_of rows) ≡ false → is_outer cs (rows_of (rows ++ s ∷ [])) ≡ false
not_more cs rows s is = ap (is_outer cs) (rows_append rows (s ∷ [])) ∙ false_since (is_outer cs (rows_of rows ++ s.row ∷ [])) (is_outer cs (rows_of rows)) (outer_front cs (rows_of rows) (s.row ∷ [])) is

and_assoc : (a b c : Bool) → ((a && b) && c) ≡ (a && (b && c))
and_assoc true b c = refl
and_assoc false b c = refl

and_one : (b : Bool) → (b && true) ≡ b
and_one true = refl
and_one false = refl

-- one more row lies where the rows before it choose
lies_more : (tables : List TableDef) (cs : List Cond) (ts : List ℕ) (t : ℕ) (before rest : List Seen) (s : Seen) → length rest ≡ length ts →
    lies_from tables cs (ts ++ t ∷ []) before (rest ++ s ∷ []) ≡ (lies_from tables cs ts before rest && lies tables (interval_at tables cs t (rows_of (before ++ rest))) s.row)
lies_more tables cs [] t before [] s count =
    and_one (lies tables (interval_at tables cs t (rows_of before)) s.row) ∙ ap (λ (l : List Seen). lies tables (interval_at tables cs t (rows_of l)) s.row) (sym (append-nil before))
lies_more tables cs [] t before (r ∷ rest) s count = absurd (omega (arith, count))
lies_more tables cs (u ∷ ts) t before [] s count = absurd (omega (arith, count))
lies_more tables cs (u ∷ ts) t before (r ∷ rest) s count =
    ap (λ b. lies tables (interval_at tables cs u (rows_of before)) r.row && b) (lies_more tables cs ts t (before ++ r ∷ []) rest s (omega (arith, count)))
    ∙ sym (and_assoc (lies tables (interval_at tables cs u (rows_of before)) r.row) (lies_from tables cs ts (before ++ r ∷ []) rest) _)
    ∙ ap (λ (l : List Seen). lies_from tables cs (u ∷ ts) before (r ∷ rest) && lies tables (interval_at tables cs t (rows_of l)) s.row) (append_assoc before (r ∷ []) rest)

all_from_more : (views : ℕ → List Seen) (ts : List ℕ) (t : ℕ) (combos : List (List Seen)) → combinations_from views (ts ++ t ∷ []) combos ≡ flat_map (extended (views t)) (combinations_from views ts combos)
all_from_more views [] t combos = refl
all_from_more views (u ∷ ts) t combos = all_from_more views ts t (flat_map (extended (views u)) combos)

-- combinations of so many tables are so long
abbrev IsLong : ℕ → List Seen → Type 0
IsLong n rows = length rows ≡ n

extended_long : (n : ℕ) (seen : List Seen) (rows : List Seen) → IsLong n rows → AllByRecursion (IsLong (n + 1)) (extended seen rows)
extended_long n [] rows is = tt
extended_long n (s ∷ seen) rows is = (omega (arith, is, length-append rows (s ∷ [])), extended_long n seen rows is)

flat_long : (n : ℕ) (seen : List Seen) (combos : List (List Seen)) → AllByRecursion (IsLong n) combos → AllByRecursion (IsLong (n + 1)) (flat_map (extended seen) combos)
flat_long n seen [] a = tt
flat_long n seen (rows ∷ combos) a = all_append (IsLong (n + 1)) (extended seen rows) (flat_map (extended seen) combos) (extended_long n seen rows a.0) (flat_long n seen combos a.1)

all_long : (views : ℕ → List Seen) (ts : List ℕ) (n : ℕ) (combos : List (List Seen)) → AllByRecursion (IsLong n) combos → AllByRecursion (IsLong (n + length ts)) (combinations_from views ts combos)
all_long views [] n combos a = subst (λ (k : ℕ). AllByRecursion (IsLong k) combos) (omega arith) a
all_long views (t ∷ ts) n combos a =
    subst (λ (k : ℕ). AllByRecursion (IsLong k) (combinations_from views ts (flat_map (extended (views t)) combos))) (omega arith) (all_long views ts (n + 1) (flat_map (extended (views t)) combos) (flat_long n (views t) combos a))

-- whether a combination of the rows of these tables is an outer one
abbrev is_out : List TableDef → List Cond → List ℕ → List Seen → Bool
is_out tables cs ts rows = lies_from tables cs ts [] rows && is_outer cs (rows_of rows)

abbrev is_on : List Cond → List Seen → Bool
is_on cs rows = is_outer cs (rows_of rows)

-- for one more row of an outer combination there is its interval and its conjuncts
on_more : (tables : List TableDef) (cs : List Cond) (ts : List ℕ) (t : ℕ) (rows : List Seen) (s : Seen) → length rows ≡ length ts → (b : Bool) → lies tables (interval_at tables cs t (rows_of rows)) s.row ≡ b →
    lies_from tables cs ts [] rows ≡ true → is_out tables cs (ts ++ t ∷ []) (rows ++ s ∷ []) ≡ (b && is_on cs (rows ++ s ∷ []))
on_more tables cs ts t rows s count b is all =
    ap (λ l. l && is_on cs (rows ++ s ∷ []))
    (lies_more tables cs ts t [] rows s count ∙ ap (λ l. l && lies tables (interval_at tables cs t (rows_of rows)) s.row) all ∙ is)

kept_step : (tables : List TableDef) (cs : List Cond) (ts : List ℕ) (t : ℕ) (rows : List Seen) → length rows ≡ length ts → lies_from tables cs ts [] rows ≡ true → (s : Seen) (seen : List Seen) →
    filter (is_out tables cs (ts ++ t ∷ [])) (extended seen rows) ≡ filter (is_on cs) (extended (within tables (interval_at tables cs t (rows_of rows)) seen) rows) →
    (b : Bool) → lies tables (interval_at tables cs t (rows_of rows)) s.row ≡ b →
    filter (is_out tables cs (ts ++ t ∷ [])) (extended (s ∷ seen) rows) ≡ filter (is_on cs) (extended (within tables (interval_at tables cs t (rows_of rows)) (s ∷ seen)) rows)
kept_step tables cs ts t rows count all s seen same true is =
    let q : Seen → Bool = λ s. lies tables (interval_at tables cs t (rows_of rows)) s.row in
    let p : List Seen → Bool = is_out tables cs (ts ++ t ∷ []) in
    ap (λ b. cond b ((rows ++ s ∷ []) ∷ filter p (extended seen rows)) (filter p (extended seen rows))) (on_more tables cs ts t rows s count true is all)
    ∙ ap (λ rest. cond (is_on cs (rows ++ s ∷ [])) ((rows ++ s ∷ []) ∷ rest) rest) same
    ∙ sym (ap (λ l. filter (is_on cs) (extended l rows)) (filter_true q s seen is))
kept_step tables cs ts t rows count all s seen same false is =
    let q : Seen → Bool = λ s. lies tables (interval_at tables cs t (rows_of rows)) s.row in
    filter_false (is_out tables cs (ts ++ t ∷ [])) (rows ++ s ∷ []) (extended seen rows) (on_more tables cs ts t rows s count false is all)
    ∙ same ∙ sym (ap (λ l. filter (is_on cs) (extended l rows)) (filter_false q s seen is))

kept : (tables : List TableDef) (cs : List Cond) (ts : List ℕ) (t : ℕ) (rows : List Seen) → length rows ≡ length ts → lies_from tables cs ts [] rows ≡ true → (seen : List Seen) →
    filter (is_out tables cs (ts ++ t ∷ [])) (extended seen rows) ≡ filter (is_on cs) (extended (within tables (interval_at tables cs t (rows_of rows)) seen) rows)
kept tables cs ts t rows count all [] = refl
kept tables cs ts t rows count all (s ∷ seen) = kept_step tables cs ts t rows count all s seen (kept tables cs ts t rows count all seen) (lies tables (interval_at tables cs t (rows_of rows)) s.row) refl

false_and : (a b : Bool) → a ≡ false → (a && b) ≡ false
false_and a b is = ap (λ x. x && b) is

and_false : (a b : Bool) → b ≡ false → (a && b) ≡ false
and_false true b is = is
and_false false b is = refl

-- there is none for a combination that is no outer one
out_not : (tables : List TableDef) (cs : List Cond) (ts : List ℕ) (t : ℕ) (rows : List Seen) (s : Seen) → length rows ≡ length ts → (a : Bool) → lies_from tables cs ts [] rows ≡ a → (a && is_on cs rows) ≡ false →
    is_out tables cs (ts ++ t ∷ []) (rows ++ s ∷ []) ≡ false
out_not tables cs ts t rows s count false all is =
    false_and _ (is_on cs (rows ++ s ∷ [])) (lies_more tables cs ts t [] rows s count ∙ false_and _ (lies tables (interval_at tables cs t (rows_of rows)) s.row) all)
out_not tables cs ts t rows s count true all is = and_false (lies_from tables cs (ts ++ t ∷ []) [] (rows ++ s ∷ [])) (is_on cs (rows ++ s ∷ [])) (not_more cs rows s is)

dropped : (tables : List TableDef) (cs : List Cond) (ts : List ℕ) (t : ℕ) (rows : List Seen) → length rows ≡ length ts → is_out tables cs ts rows ≡ false → (seen : List Seen) → filter (is_out tables cs (ts ++ t ∷ [])) (extended seen rows) ≡ []
dropped tables cs ts t rows count is [] = refl
dropped tables cs ts t rows count is (s ∷ seen) =
    filter_false (is_out tables cs (ts ++ t ∷ [])) (rows ++ s ∷ []) (extended seen rows) (out_not tables cs ts t rows s count (lies_from tables cs ts [] rows) refl is)
    ∙ dropped tables cs ts t rows count is seen

step_out : (tables : List TableDef) (cs : List Cond) (views : ℕ → List Seen) (ts : List ℕ) (t : ℕ) (rows : List Seen) (combos : List (List Seen)) → length rows ≡ length ts →
    filter (is_out tables cs (ts ++ t ∷ [])) (flat_map (extended (views t)) combos) ≡ filter (is_on cs) (flat_map (reached tables cs views t) (filter (is_out tables cs ts) combos)) →
    (b : Bool) → is_out tables cs ts rows ≡ b →
    filter (is_out tables cs (ts ++ t ∷ [])) (flat_map (extended (views t)) (rows ∷ combos)) ≡ filter (is_on cs) (flat_map (reached tables cs views t) (filter (is_out tables cs ts) (rows ∷ combos)))
step_out tables cs views ts t rows combos count same true is =
    let all = and_parts (lies_from tables cs ts [] rows) (is_on cs rows) is in
    filter-append (is_out tables cs (ts ++ t ∷ [])) (extended (views t) rows) (flat_map (extended (views t)) combos)
    ∙ ap (λ l. l ++ filter (is_out tables cs (ts ++ t ∷ [])) (flat_map (extended (views t)) combos)) (kept tables cs ts t rows count all.0 (views t))
    ∙ ap (λ l. filter (is_on cs) (reached tables cs views t rows) ++ l) same
    ∙ sym (filter-append (is_on cs) (reached tables cs views t rows) (flat_map (reached tables cs views t) (filter (is_out tables cs ts) combos)))
    ∙ sym (ap (λ l. filter (is_on cs) (flat_map (reached tables cs views t) l)) (filter_true (is_out tables cs ts) rows combos is))
step_out tables cs views ts t rows combos count same false is =
    filter-append (is_out tables cs (ts ++ t ∷ [])) (extended (views t) rows) (flat_map (extended (views t)) combos)
    ∙ ap (λ l. l ++ filter (is_out tables cs (ts ++ t ∷ [])) (flat_map (extended (views t)) combos)) (dropped tables cs ts t rows count is (views t))
    ∙ same
    ∙ sym (ap (λ l. filter (is_on cs) (flat_map (reached tables cs views t) l)) (filter_false (is_out tables cs ts) rows combos is))

all_out : (tables : List TableDef) (cs : List Cond) (views : ℕ → List Seen) (ts : List ℕ) (t : ℕ) (combos : List (List Seen)) → AllByRecursion (IsLong (length ts)) combos →
    filter (is_out tables cs (ts ++ t ∷ [])) (flat_map (extended (views t)) combos) ≡ filter (is_on cs) (flat_map (reached tables cs views t) (filter (is_out tables cs ts) combos))
all_out tables cs views ts t [] long = refl
all_out tables cs views ts t (rows ∷ combos) long = step_out tables cs views ts t rows combos long.0 (all_out tables cs views ts t combos long.1) (is_out tables cs ts rows) refl

-- the outer combinations of the next place
outer_next : (tables : List TableDef) (cs : List Cond) (views : ℕ → List Seen) (ts : List ℕ) (t : ℕ) → outer_of tables cs views (ts ++ t ∷ []) ≡ outer cs (flat_map (reached tables cs views t) (outer_of tables cs views ts))
outer_next tables cs views ts t =
    ap (filter (is_out tables cs (ts ++ t ∷ []))) (all_from_more views ts t ([] ∷ []))
    ∙ all_out tables cs views ts t (combinations_from views ts ([] ∷ [])) (subst (λ (k : ℕ). AllByRecursion (IsLong k) (combinations_from views ts ([] ∷ []))) (omega arith) (all_long views ts 0 ([] ∷ []) (refl, tt)))

ranges_are : (tables : List TableDef) (cs : List Cond) (views : ℕ → List Seen) (before ts : List ℕ) (combos : List (List Seen)) → outer cs combos ≡ outer_of tables cs views before →
    ranges_from tables cs views ts combos ≡ ranges_by tables cs views before ts
ranges_are tables cs views before [] combos is = refl
ranges_are tables cs views before (t ∷ ts) combos is =
    ap (λ (l : List (List Seen)). map (λ rows. interval_at tables cs t (rows_of rows)) l ++ ranges_from tables cs views ts (flat_map (reached tables cs views t) (outer cs combos))) is
    ∙ ap (λ l. map (λ rows. interval_at tables cs t (rows_of rows)) (outer_of tables cs views before) ++ l)
    (ranges_are tables cs views (before ++ t ∷ []) ts (flat_map (reached tables cs views t) (outer cs combos))
    (ap (λ l. outer cs (flat_map (reached tables cs views t) l)) is ∙ sym (outer_next tables cs views before t)))

-- THE RANGES OF THE WALK ARE THOSE OF THE OUTER COMBINATIONS, PLACE BY PLACE
pub walk_reads : (tables : List TableDef) (cs : List Cond) (views : ℕ → List Seen) (ts : List ℕ) → ranges_from tables cs views ts ([] ∷ []) ≡ ranges_by tables cs views [] ts
walk_reads tables cs views ts = ranges_are tables cs views [] ts ([] ∷ []) refl
