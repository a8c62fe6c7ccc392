-- The writes in turn leave what their net operations leave.
use Rattle.std.proofs.Common.{◌≡◌, ℕ, zero, suc, ◌+◌, ◌-◌, ◌<◌, ◌≤◌, ◌==◌, ◌++◌, ◌∷◌, [], List, Bool, true, false, ◌&&◌, ◌||◌, not, map, filter, refl, sym, ◌∙◌, ap, subst, length, append-nil, append_assoc, arith}
use Rattle.std.specs.Prelude.{slice_get, slice_set, unwrap_or, if◌then◌else◌, Option, Some, None}
use Rattle.std.proofs.lemmas.Bool.Decides.{nat_tests}
use Rattle.std.specs.List.{list_any, AllByRecursion}
use Rattle.std.proofs.Math.ListN.{length-set}
use Rattle.std.proofs.lemmas.List.{map-append}
use Rattle.std.proofs.lemmas.List.Elements.{filter-append}
use Rattle.cdb_values.specs.Rows.{Rows, versions_of, view, added, taken, without, version, is_live, apply}
use Rattle.cdb_values.specs.declared.rows.RowOp.{RowOp}
use Rattle.cdb_values.specs.declared.rows.RowOp.TheVariants.{Insert, Update, Delete}
use Rattle.cdb_values.specs.declared.rows.RowRef.TheVariants.{Base, Own}
use Rattle.cdb_values.specs.declared.rows.Version.{Version}
use Rattle.cdb_values.specs.declared.tables.TableDef.{TableDef}
use Rattle.cdb_values.specs.declared.values.Value.{Value}
use Rattle.genid_rows.specs.Targets.{based, own_genid, genid_of, is_genid_live, or_own}
use Rattle.net_writes.specs.Net.{held_with, held_after, held_at, held_of, taken_out, rewritten, undone, standing}
use Rattle.cdb_values.specs.Views.{table_rows}
use Rattle.genid_rows.specs.InTurn.{IsNumbered, Applies, ApplyInTurn, in_turn, made_with, NetIsInTurn, NoRowsAreNumbered, StaysNumbered}
use Rattle.cdb_values.proofs.ViewLaws.{view_applied, placed_here, placed_there, same_place, other_place, eq_flip, neither}
use Rattle.genid_rows.proofs.OwnLemmas.{own, own_one, own_rows, own_more, gone, gone_is, gone_more, gone_out, takes_held, others, others_own, others_out, in_second, still_there, IsStillThere, IsWrittenTo, LeavesNone, IsHeldOn, stands_on, held_more, held_out, held_there, Recorded, recorded_next, recorded_none, recorded_out, recorded_above}

-- the versions of the base that the writes have left in a table
abbrev pub left : Rows → List (Option RowOp) → ℕ → List Version
left base held table = filter (λ v. not (gone table v.genid held)) (versions_of base table)

-- after some writes, a table has the versions of the base that they left, and then the own ones
pub record IsSoFar (base rows : Rows) (made : List ℕ) (held : List (Option RowOp)) : Type 0 where
  pub tables : length rows.tables ≡ length base.tables
  pub recorded : Recorded base.next rows.next made held
  pub on_base : AllByRecursion (IsHeldOn (length base.tables) base.next) held
  pub versions : (table : ℕ) → versions_of rows table ≡ left base held table ++ own table made held

-- a row that was added is at the end of its table
added_here : (here : Bool) (rows : Rows) (place : ℕ) (row : List Value) (table : ℕ) → (place == table) ≡ here → place < length rows.tables
    → versions_of (added rows place row) table ≡ versions_of rows table ++ (if here then version rows.next row ∷ [] else [])
added_here true rows place row table is within =
    subst (λ k. versions_of (added rows place row) k ≡ versions_of rows k ++ version rows.next row ∷ []) (same_place place table is)
    (placed_here rows.tables place (versions_of rows place ++ version rows.next row ∷ []) within)
added_here false rows place row table is within =
    placed_there rows.tables place table (versions_of rows place ++ version rows.next row ∷ []) (other_place place table is) ∙ sym (append-nil (versions_of rows table))

all_left : (vs : List Version) → filter (λ _. true) vs ≡ vs
all_left [] = refl
all_left (x ∷ xs) = ap (λ l. x ∷ l) (all_left xs)

-- a version that was taken away is not in its table
taken_here : (here : Bool) (rows : Rows) (place genid table : ℕ) → (place == table) ≡ here → place < length rows.tables
    → versions_of (taken rows place genid) table ≡ others here genid (versions_of rows table)
taken_here true rows place genid table is within =
    subst (λ k. versions_of (taken rows place genid) k ≡ without genid (versions_of rows k)) (same_place place table is)
    (placed_here rows.tables place (without genid (versions_of rows place)) within)
    ∙ (λ j. filter (λ (v : Version). not (eq_flip v.genid genid j)) (versions_of rows table))
taken_here false rows place genid table is within =
    placed_there rows.tables place table (without genid (versions_of rows place)) (other_place place table is) ∙ sym (all_left (versions_of rows table))

both_front : (p q : Version → Bool) (b c : Bool) (x : Version) (ls vs : List Version) → p x ≡ b → q x ≡ c → filter q ls ≡ vs
    → filter q (if b then x ∷ ls else ls) ≡ (if b && c then x ∷ vs else vs)
both_front p q false c x ls vs first second is = is
both_front p q true c x ls vs first second is = (λ j. if second j then x ∷ is j else is j)

-- what passes both tests
filter_both : (p q : Version → Bool) (vs : List Version) → filter q (filter p vs) ≡ filter (λ v. p v && q v) vs
filter_both p q [] = refl
filter_both p q (x ∷ xs) = both_front p q (p x) (q x) x (filter p xs) (filter (λ v. p v && q v) xs) refl refl (filter_both p q xs)

-- a write that takes a version of the base away leaves the others
left_more : (base : Rows) (held : List (Option RowOp)) (one : Option RowOp) (place genid table : ℕ) → ((g : ℕ) → takes_held table g one ≡ ((place == table) && (genid == g)))
    → others (place == table) genid (left base held table) ≡ left base (held ++ one ∷ []) table
left_more base held one place genid table is =
    filter_both (λ v. not (gone table v.genid held)) (λ v. not ((place == table) && (genid == v.genid))) (versions_of base table)
    ∙ (λ j. filter (λ (v : Version). sym (neither (gone table v.genid held) ((place == table) && (genid == v.genid))) j) (versions_of base table))
    ∙ (λ j. filter (λ (v : Version). not (gone table v.genid held || sym (is v.genid) j)) (versions_of base table))
    ∙ (λ j. filter (λ (v : Version). not (sym (gone_more table v.genid held one) j)) (versions_of base table))

-- writes that take away the same leave the same
left_same : (base : Rows) (held other : List (Option RowOp)) (table : ℕ) → ((g : ℕ) → gone table g held ≡ gone table g other) → left base held table ≡ left base other table
left_same base held other table is = λ j. filter (λ (v : Version). not (is v.genid j)) (versions_of base table)

kept_front : (here b : Bool) (genid : ℕ) (x : Version) (ls : List Version) → (genid ≡ x.genid → ⊥) → others here genid ls ≡ ls
    → others here genid (if b then x ∷ ls else ls) ≡ (if b then x ∷ ls else ls)
kept_front here false genid x ls apart is = is
kept_front false true genid x ls apart is = ap (λ l. x ∷ l) is
kept_front true true genid x ls apart is =
    let e : (genid == x.genid) ≡ false = grind (arith, nat_tests) in λ j. if not (e j) then x ∷ is j else is j

-- no version of the base has a later genid
others_left : (here : Bool) (next genid : ℕ) (keep : Version → Bool) (vs : List Version) → AllByRecursion (λ v. v.genid < next) vs → next ≤ genid
    → others here genid (filter keep vs) ≡ filter keep vs
others_left here next genid keep [] all later = refl
others_left here next genid keep (x ∷ xs) all later =
    let below : x.genid < next = all.0 in
    kept_front here (keep x) genid x (filter keep xs) (λ e. omega arith) (others_left here next genid keep xs all.1 later)

absent_front : (b : Bool) (genid : ℕ) (x : Version) (ls : List Version) → (genid ≡ x.genid → ⊥) → list_any (λ v. v.genid == genid) ls ≡ false
    → list_any (λ v. v.genid == genid) (if b then x ∷ ls else ls) ≡ false
absent_front false genid x ls apart is = is
absent_front true genid x ls apart is = let e : (x.genid == genid) ≡ false = grind (arith, nat_tests) in λ j. e j || is j

absent_left : (next genid : ℕ) (keep : Version → Bool) (vs : List Version) → AllByRecursion (λ v. v.genid < next) vs → next ≤ genid → list_any (λ v. v.genid == genid) (filter keep vs) ≡ false
absent_left next genid keep [] all later = refl
absent_left next genid keep (x ∷ xs) all later =
    let below : x.genid < next = all.0 in
    absent_front (keep x) genid x (filter keep xs) (λ e. omega arith) (absent_left next genid keep xs all.1 later)

-- the versions at a place, of lists that all have genids below one
all_at : (next : ℕ) (lists : List (List Version)) (i : ℕ) → AllByRecursion (AllByRecursion (λ v. v.genid < next)) lists → AllByRecursion (λ v. v.genid < next) (unwrap_or (slice_get lists i) [])
all_at next [] i all = tt
all_at next (vs ∷ lists) zero all = all.0
all_at next (vs ∷ lists) (suc i) all = all_at next lists i all.1

all_put : (next : ℕ) (lists : List (List Version)) (i : ℕ) (vs : List Version) → AllByRecursion (AllByRecursion (λ v. v.genid < next)) lists → AllByRecursion (λ v. v.genid < next) vs
    → AllByRecursion (AllByRecursion (λ v. v.genid < next)) (slice_set lists i vs)
all_put next [] i vs all here = tt
all_put next (x ∷ lists) zero vs all here = (here, all.1)
all_put next (x ∷ lists) (suc i) vs all here = (all.0, all_put next lists i vs all.1 here)

all_later : (next later : ℕ) (vs : List Version) → next ≤ later → AllByRecursion (λ v. v.genid < next) vs → AllByRecursion (λ v. v.genid < later) vs
all_later next later [] above all = tt
all_later next later (x ∷ xs) above all = let below : x.genid < next = all.0 in (omega arith, all_later next later xs above all.1)

lists_later : (next later : ℕ) (lists : List (List Version)) → next ≤ later → AllByRecursion (AllByRecursion (λ v. v.genid < next)) lists → AllByRecursion (AllByRecursion (λ v. v.genid < later)) lists
lists_later next later [] above all = tt
lists_later next later (vs ∷ lists) above all = (all_later next later vs above all.0, lists_later next later lists above all.1)

all_with : (next : ℕ) (row : List Value) (vs : List Version) → AllByRecursion (λ v. v.genid < next) vs → AllByRecursion (λ v. v.genid < next + 1) (vs ++ version next row ∷ [])
all_with next row [] all = (omega arith, tt)
all_with next row (x ∷ xs) all = let below : x.genid < next = all.0 in (omega arith, all_with next row xs all.1)

without_front : (next : ℕ) (b : Bool) (x : Version) (ls : List Version) → x.genid < next → AllByRecursion (λ v. v.genid < next) ls → AllByRecursion (λ v. v.genid < next) (if b then x ∷ ls else ls)
without_front next true x ls below all = (below, all)
without_front next false x ls below all = all

all_without : (next genid : ℕ) (vs : List Version) → AllByRecursion (λ v. v.genid < next) vs → AllByRecursion (λ v. v.genid < next) (without genid vs)
all_without next genid [] all = tt
all_without next genid (x ∷ xs) all = without_front next (not (x.genid == genid)) x (without genid xs) all.0 (all_without next genid xs all.1)

added_numbered : (rows : Rows) (place : ℕ) (row : List Value) → IsNumbered rows → IsNumbered (added rows place row)
added_numbered rows place row numbered =
    let e : rows.next ≤ rows.next + 1 = omega arith in record {
      below = all_put (rows.next + 1) rows.tables place (versions_of rows place ++ version rows.next row ∷ []) (lists_later rows.next (rows.next + 1) rows.tables e numbered.below)
          (all_with rows.next row (versions_of rows place) (all_at rows.next rows.tables place numbered.below));
    }

taken_numbered : (rows : Rows) (place genid : ℕ) → IsNumbered rows → IsNumbered (taken rows place genid)
taken_numbered rows place genid numbered =
    record { below = all_put rows.next rows.tables place (without genid (versions_of rows place)) numbered.below (all_without rows.next genid (versions_of rows place) (all_at rows.next rows.tables place numbered.below)) }

empty_below : (tables : List TableDef) → AllByRecursion (AllByRecursion (λ (v : Version). v.genid < 1)) (map (λ _. []) tables)
empty_below [] = tt
empty_below (table ∷ tables) = (tt, empty_below tables)

pub begins : NoRowsAreNumbered
begins tables = record { below = empty_below tables }

pub stays : StaysNumbered
stays rows (Insert place row) numbered = added_numbered rows place row numbered
stays rows (Update place (Base genid) old row) numbered = added_numbered (taken rows place genid) place row (taken_numbered rows place genid numbered)
stays rows (Update place (Own write) old row) numbered = numbered
stays rows (Delete place (Base genid) old) numbered = taken_numbered rows place genid numbered
stays rows (Delete place (Own write) old) numbered = numbered

-- a row that is written adds an own version
wrote : (low : ℕ) (mid : Rows) (made : List ℕ) (out : List (Option RowOp)) (one : Option RowOp) (place : ℕ) (row : List Value) (front : List Version) (table : ℕ) → place < length mid.tables
    → Recorded low mid.next made out → own_one table mid.next one ≡ (if place == table then version mid.next row ∷ [] else []) → versions_of mid table ≡ front ++ own table made out
    → versions_of (added mid place row) table ≡ front ++ own table (made ++ mid.next ∷ []) (out ++ one ∷ [])
wrote low mid made out one place row front table within told leaves is =
    added_here (place == table) mid place row table refl within
    ∙ (λ j. is j ++ sym leaves j)
    ∙ append_assoc front (own table made out) (own_one table mid.next one)
    ∙ ap (λ l. front ++ l) (sym (own_more table low mid.next mid.next made out one told))

-- what a base version that is taken away leaves
took_base : (base rows : Rows) (made : List ℕ) (held : List (Option RowOp)) (one : Option RowOp) (place genid table : ℕ) → IsSoFar base rows made held → place < length rows.tables → genid < base.next
    → ((g : ℕ) → takes_held table g one ≡ ((place == table) && (genid == g))) → versions_of (taken rows place genid) table ≡ left base (held ++ one ∷ []) table ++ own table made held
took_base base rows made held one place genid table far within below is =
    taken_here (place == table) rows place genid table refl within
    ∙ ap (others (place == table) genid) (far.versions table)
    ∙ filter-append (λ (v : Version). not ((place == table) && (genid == v.genid))) (left base held table) (own table made held)
    ∙ (λ j. left_more base held one place genid table is j ++ others_own (place == table) table genid base.next rows.next made held far.recorded below j)

-- what an own version that is taken away leaves
took_own : (base rows : Rows) (made : List ℕ) (held : List (Option RowOp)) (one : Option RowOp) (place i genid table : ℕ) → IsNumbered base → IsSoFar base rows made held → place < length rows.tables
    → slice_get made i ≡ Some (suc genid) → slice_get held i ≡ Some one → IsWrittenTo place one
    → versions_of (taken rows place (suc genid)) table ≡ left base held table ++ own table made (slice_set held i None)
took_own base rows made held one place i genid table numbered far within gave is to =
    let later : base.next ≤ suc genid = recorded_above base.next rows.next i genid made held far.recorded gave in
    taken_here (place == table) rows place (suc genid) table refl within
    ∙ ap (others (place == table) (suc genid)) (far.versions table)
    ∙ filter-append (λ (v : Version). not ((place == table) && (suc genid == v.genid))) (left base held table) (own table made held)
    ∙ (λ j. others_left (place == table) base.next (suc genid) (λ v. not (gone table v.genid held)) (versions_of base table) (all_at base.next base.tables table numbered.below) later j
    ++ others_out place table i genid base.next rows.next made held one far.recorded gave is to j)

or_none : (b : Bool) → (b || false) ≡ b
or_none true = refl
or_none false = refl

-- an insert
inserted : (base rows : Rows) (made : List ℕ) (held : List (Option RowOp)) (place : ℕ) (row : List Value) → IsSoFar base rows made held → place < length rows.tables
    → IsSoFar base (added rows place row) (made ++ rows.next ∷ []) (held ++ Some (Insert place row) ∷ [])
inserted base rows made held place row far within =
    let one : Option RowOp = Some (Insert place row) in record {
      tables = length-set rows.tables place (versions_of rows place ++ version rows.next row ∷ []) ∙ far.tables;
      recorded = recorded_next base.next rows.next made held one far.recorded;
      on_base = held_more (length base.tables) base.next held one far.on_base (subst (λ n. place < n) far.tables within);
      versions = λ t. wrote base.next rows made held one place row (left base held t) t within far.recorded refl (far.versions t)
          ∙ ap (λ l. l ++ own t (made ++ rows.next ∷ []) (held ++ one ∷ [])) (left_same base held (held ++ one ∷ []) t (λ g. sym (gone_more t g held one ∙ or_none (gone t g held))));
    }

-- an update of a base version
updated : (base rows : Rows) (made : List ℕ) (held : List (Option RowOp)) (place genid : ℕ) (old row : List Value) → IsSoFar base rows made held → place < length rows.tables → genid < base.next
    → IsSoFar base (added (taken rows place genid) place row) (made ++ rows.next ∷ []) (held ++ Some (Update place (Base genid) old row) ∷ [])
updated base rows made held place genid old row far within below =
    let one : Option RowOp = Some (Update place (Base genid) old row) in
    let mid : Rows = taken rows place genid in
    let long : length mid.tables ≡ length rows.tables = length-set rows.tables place (without genid (versions_of rows place)) in record {
      tables = length-set mid.tables place (versions_of mid place ++ version mid.next row ∷ []) ∙ long ∙ far.tables;
      recorded = recorded_next base.next rows.next made held one far.recorded;
      on_base = held_more (length base.tables) base.next held one far.on_base (subst (λ n. place < n) far.tables within, below);
      versions = λ t. wrote base.next mid made held one place row (left base (held ++ one ∷ []) t) t (subst (λ n. place < n) (sym long) within) far.recorded refl
          (took_base base rows made held one place genid t far within below (λ g. refl));
    }

-- a delete of a base version
deleted : (base rows : Rows) (made : List ℕ) (held : List (Option RowOp)) (place genid : ℕ) (old : List Value) → IsSoFar base rows made held → place < length rows.tables → genid < base.next
    → IsSoFar base (taken rows place genid) (made ++ 0 ∷ []) (held ++ Some (Delete place (Base genid) old) ∷ [])
deleted base rows made held place genid old far within below =
    let one : Option RowOp = Some (Delete place (Base genid) old) in record {
      tables = length-set rows.tables place (without genid (versions_of rows place)) ∙ far.tables;
      recorded = recorded_none base.next rows.next made held one tt far.recorded;
      on_base = held_more (length base.tables) base.next held one far.on_base (subst (λ n. place < n) far.tables within, below);
      versions = λ t. took_base base rows made held one place genid t far within below (λ g. refl)
          ∙ ap (λ l. left base (held ++ one ∷ []) t ++ l) (sym (own_more t base.next rows.next 0 made held one far.recorded ∙ append-nil (own t made held)));
    }

-- a write that is taken out for one that takes the same away
gone_moved : (table genid i : ℕ) (held : List (Option RowOp)) (one next : Option RowOp) → slice_get held i ≡ Some one → takes_held table genid next ≡ takes_held table genid one
    → gone table genid held ≡ gone table genid (slice_set held i None ++ next ∷ [])
gone_moved table genid i held one next is alike =
    gone_out table genid i held one is ∙ ap (λ b. gone table genid (slice_set held i None) || b) (sym alike) ∙ sym (gone_more table genid (slice_set held i None) next)

rewritten_takes : (table genid : ℕ) (one : Option RowOp) (row : List Value) (place : ℕ) → IsWrittenTo place one → takes_held table genid (rewritten one row) ≡ takes_held table genid one
rewritten_takes table genid None row place to = refl
rewritten_takes table genid (Some (Insert at was)) row place to = refl
rewritten_takes table genid (Some (Update at (Base target) old was)) row place to = refl
rewritten_takes table genid (Some (Update at (Own write) old was)) row place to = refl
rewritten_takes table genid (Some (Delete at target old)) row place to = absurd to

rewritten_own : (table genid : ℕ) (one : Option RowOp) (row : List Value) (place : ℕ) → IsWrittenTo place one → own_one table genid (rewritten one row) ≡ (if place == table then version genid row ∷ [] else [])
rewritten_own table genid None row place to = absurd to
rewritten_own table genid (Some (Insert at was)) row place to = ap (λ p. if p == table then version genid row ∷ [] else []) to
rewritten_own table genid (Some (Update at target old was)) row place to = ap (λ p. if p == table then version genid row ∷ [] else []) to
rewritten_own table genid (Some (Delete at target old)) row place to = absurd to

rewritten_on : (tables next : ℕ) (one : Option RowOp) (row : List Value) → IsHeldOn tables next one → IsHeldOn tables next (rewritten one row)
rewritten_on tables next None row on = tt
rewritten_on tables next (Some (Insert at was)) row on = on
rewritten_on tables next (Some (Update at target old was)) row on = on
rewritten_on tables next (Some (Delete at target old)) row on = tt

undone_takes : (table genid : ℕ) (one : Option RowOp) (place : ℕ) → IsWrittenTo place one → takes_held table genid (undone one) ≡ takes_held table genid one
undone_takes table genid None place to = refl
undone_takes table genid (Some (Insert at was)) place to = refl
undone_takes table genid (Some (Update at (Base target) old was)) place to = refl
undone_takes table genid (Some (Update at (Own write) old was)) place to = refl
undone_takes table genid (Some (Delete at target old)) place to = absurd to

undone_own : (table genid : ℕ) (one : Option RowOp) → own_one table genid (undone one) ≡ []
undone_own table genid None = refl
undone_own table genid (Some (Insert at was)) = refl
undone_own table genid (Some (Update at target old was)) = refl
undone_own table genid (Some (Delete at target old)) = refl

undone_leaves : (one : Option RowOp) → LeavesNone (undone one)
undone_leaves None = tt
undone_leaves (Some (Insert at was)) = tt
undone_leaves (Some (Update at target old was)) = tt
undone_leaves (Some (Delete at target old)) = tt

undone_on : (tables next : ℕ) (one : Option RowOp) → IsHeldOn tables next one → IsHeldOn tables next (undone one)
undone_on tables next None on = tt
undone_on tables next (Some (Insert at was)) on = tt
undone_on tables next (Some (Update at target old was)) on = on
undone_on tables next (Some (Delete at target old)) on = tt

-- an update of the own version of a write
own_updated : (base rows : Rows) (made : List ℕ) (held : List (Option RowOp)) (place i genid : ℕ) (row : List Value) → IsNumbered base → IsSoFar base rows made held → place < length rows.tables
    → slice_get made i ≡ Some (suc genid) → (there : IsStillThere place i held)
    → IsSoFar base (added (taken rows place (suc genid)) place row) (made ++ rows.next ∷ []) (slice_set held i None ++ rewritten there.one row ∷ [])
own_updated base rows made held place i genid row numbered far within gave there =
    let out : List (Option RowOp) = slice_set held i None in
    let one : Option RowOp = rewritten there.one row in
    let mid : Rows = taken rows place (suc genid) in
    let long : length mid.tables ≡ length rows.tables = length-set rows.tables place (without (suc genid) (versions_of rows place)) in
    let told : Recorded base.next rows.next made out = recorded_out base.next rows.next i made held far.recorded in record {
      tables = length-set mid.tables place (versions_of mid place ++ version mid.next row ∷ []) ∙ long ∙ far.tables;
      recorded = recorded_next base.next rows.next made out one told;
      on_base = held_more (length base.tables) base.next out one (held_out (length base.tables) base.next i held far.on_base)
          (rewritten_on (length base.tables) base.next there.one row (held_there (length base.tables) base.next i held there.one far.on_base there.is));
      versions = λ t. wrote base.next mid made out one place row (left base held t) t (subst (λ n. place < n) (sym long) within) told (rewritten_own t rows.next there.one row place there.to)
          (took_own base rows made held there.one place i genid t numbered far within gave there.is there.to)
          ∙ ap (λ l. l ++ own t (made ++ rows.next ∷ []) (out ++ one ∷ []))
          (left_same base held (out ++ one ∷ []) t (λ g. gone_moved t g i held there.one one there.is (rewritten_takes t g there.one row place there.to)));
    }

-- a delete of the own version of a write
own_deleted : (base rows : Rows) (made : List ℕ) (held : List (Option RowOp)) (place i genid : ℕ) → IsNumbered base → IsSoFar base rows made held → place < length rows.tables
    → slice_get made i ≡ Some (suc genid) → (there : IsStillThere place i held)
    → IsSoFar base (taken rows place (suc genid)) (made ++ 0 ∷ []) (slice_set held i None ++ undone there.one ∷ [])
own_deleted base rows made held place i genid numbered far within gave there =
    let out : List (Option RowOp) = slice_set held i None in
    let one : Option RowOp = undone there.one in
    let told : Recorded base.next rows.next made out = recorded_out base.next rows.next i made held far.recorded in record {
      tables = length-set rows.tables place (without (suc genid) (versions_of rows place)) ∙ far.tables;
      recorded = recorded_none base.next rows.next made out one (undone_leaves there.one) told;
      on_base = held_more (length base.tables) base.next out one (held_out (length base.tables) base.next i held far.on_base)
          (undone_on (length base.tables) base.next there.one (held_there (length base.tables) base.next i held there.one far.on_base there.is));
      versions = λ t. took_own base rows made held there.one place i genid t numbered far within gave there.is there.to
          ∙ (λ j. left_same base held (out ++ one ∷ []) t (λ g. gone_moved t g i held there.one one there.is (undone_takes t g there.one place there.to)) j
          ++ sym (own_more t base.next rows.next 0 made out one told ∙ ap (λ l. own t made out ++ l) (undone_own t 0 there.one) ∙ append-nil (own t made out)) j);
    }

-- the genid of an own write whose version is live
record IsOwnLive (rows : Rows) (place : ℕ) (made : List ℕ) (write : ℕ) : Type 0 where
  genid : ℕ
  counted : (write == 0) ≡ false
  gave : slice_get made (write - 1) ≡ Some (suc genid)
  live : is_live rows place (suc genid) ≡ true

genid_some : (genid : ℕ) → genid_of (Some (suc genid)) ≡ Some (suc genid)
genid_some genid = let e : (suc genid == 0) ≡ false = grind (arith, nat_tests) in ap (λ b. if b then None else Some (suc genid)) e

given_live : (rows : Rows) (place : ℕ) (made : List ℕ) (write : ℕ) (gave : Option ℕ) → (write == 0) ≡ false → slice_get made (write - 1) ≡ gave → is_genid_live rows place (genid_of gave) ≡ true
    → IsOwnLive rows place made write
given_live rows place made write None counted is live = cc
given_live rows place made write (Some zero) counted is live = cc
given_live rows place made write (Some (suc genid)) counted is live = record { genid = genid; counted = counted; gave = is; live = sym (ap (is_genid_live rows place) (genid_some genid)) ∙ live }

own_live : (rows : Rows) (place : ℕ) (made : List ℕ) (write : ℕ) (b : Bool) → (write == 0) ≡ b → is_genid_live rows place (if b then None else genid_of (slice_get made (write - 1))) ≡ true
    → IsOwnLive rows place made write
own_live rows place made write true counted live = cc
own_live rows place made write false counted live = given_live rows place made write (slice_get made (write - 1)) counted refl live

-- and what that write is held as
live_there : (base rows : Rows) (made : List ℕ) (held : List (Option RowOp)) (place write : ℕ) → IsNumbered base → IsSoFar base rows made held → (own_is : IsOwnLive rows place made write)
    → IsStillThere place (write - 1) held
live_there base rows made held place write numbered far own_is =
    let later : base.next ≤ suc own_is.genid = recorded_above base.next rows.next (write - 1) own_is.genid made held far.recorded own_is.gave in
    still_there place (write - 1) own_is.genid base.next rows.next made held far.recorded own_is.gave (
    in_second (suc own_is.genid) (left base held place) (own place made held) (sym (ap (list_any (λ v. v.genid == suc own_is.genid)) (far.versions place)) ∙ own_is.live)
    (absent_left base.next (suc own_is.genid) (λ v. not (gone place v.genid held)) (versions_of base place) (all_at base.next base.tables place numbered.below) later)
    )

-- one more write that applies
step : (base rows : Rows) (made : List ℕ) (held : List (Option RowOp)) (op : RowOp) → IsNumbered base → IsSoFar base rows made held → Applies base.next rows made op
    → IsSoFar base (apply rows (based made op)) (made_with made rows op) (held_with held op)
step base rows made held (Insert place row) numbered far applies = inserted base rows made held place row far applies.table
step base rows made held (Update place (Base genid) old row) numbered far applies = updated base rows made held place genid old row far applies.table applies.named
step base rows made held (Delete place (Base genid) old) numbered far applies = deleted base rows made held place genid old far applies.table applies.named
step base rows made held (Update place (Own write) old row) numbered far applies =
    let own_is = own_live rows place made write (write == 0) refl applies.live in
    let there = live_there base rows made held place write numbered far own_is in
    let names : own_genid made write ≡ Some (suc own_is.genid) = ap (λ b. if b then None else genid_of (slice_get made (write - 1))) own_is.counted ∙ ap genid_of own_is.gave ∙ genid_some own_is.genid in
    let out : taken_out held write ≡ slice_set held (write - 1) None = ap (λ b. if b then held else slice_set held (write - 1) None) own_is.counted in
    let was : held_at held write ≡ there.one = ap (λ b. if b then None else held_of (slice_get held (write - 1))) own_is.counted ∙ ap held_of there.is in
    subst (λ (o : Option ℕ). IsSoFar base (apply rows (Update place (or_own (Own write) o) old row)) (made ++ rows.next ∷ []) (taken_out held write ++ rewritten (held_at held write) row ∷ [])) (sym names)
    (subst (λ (hs : List (Option RowOp)). IsSoFar base (added (taken rows place (suc own_is.genid)) place row) (made ++ rows.next ∷ []) (hs ++ rewritten (held_at held write) row ∷ [])) (sym out)
    (subst (λ (h : Option RowOp). IsSoFar base (added (taken rows place (suc own_is.genid)) place row) (made ++ rows.next ∷ []) (slice_set held (write - 1) None ++ rewritten h row ∷ [])) (sym was)
    (own_updated base rows made held place (write - 1) own_is.genid row numbered far applies.table own_is.gave there)))
step base rows made held (Delete place (Own write) old) numbered far applies =
    let own_is = own_live rows place made write (write == 0) refl applies.live in
    let there = live_there base rows made held place write numbered far own_is in
    let names : own_genid made write ≡ Some (suc own_is.genid) = ap (λ b. if b then None else genid_of (slice_get made (write - 1))) own_is.counted ∙ ap genid_of own_is.gave ∙ genid_some own_is.genid in
    let out : taken_out held write ≡ slice_set held (write - 1) None = ap (λ b. if b then held else slice_set held (write - 1) None) own_is.counted in
    let was : held_at held write ≡ there.one = ap (λ b. if b then None else held_of (slice_get held (write - 1))) own_is.counted ∙ ap held_of there.is in
    subst (λ (o : Option ℕ). IsSoFar base (apply rows (Delete place (or_own (Own write) o) old)) (made ++ 0 ∷ []) (taken_out held write ++ undone (held_at held write) ∷ [])) (sym names)
    (subst (λ (hs : List (Option RowOp)). IsSoFar base (taken rows place (suc own_is.genid)) (made ++ 0 ∷ []) (hs ++ undone (held_at held write) ∷ [])) (sym out)
    (subst (λ (h : Option RowOp). IsSoFar base (taken rows place (suc own_is.genid)) (made ++ 0 ∷ []) (slice_set held (write - 1) None ++ undone h ∷ [])) (sym was)
    (own_deleted base rows made held place (write - 1) own_is.genid numbered far applies.table own_is.gave there)))

-- where the writes end
record IsEnd (base rows : Rows) (held : List (Option RowOp)) : Type 0 where
  made : List ℕ
  far : IsSoFar base rows made held

run : (base rows : Rows) (made : List ℕ) (held : List (Option RowOp)) (ops : List RowOp) → IsNumbered base → IsSoFar base rows made held → ApplyInTurn base.next rows made ops
    → IsEnd base (in_turn rows made ops) (held_after held ops)
run base rows made held [] numbered far applies = record { made = made; far = far }
run base rows made held (op ∷ ops) numbered far applies =
    run base (apply rows (based made op)) (made_with made rows op) (held_with held op) ops numbered (step base rows made held op numbered far applies.0) applies.1

-- before the first write
at_first : (base : Rows) → IsSoFar base base [] []
at_first base = record {
  tables = refl;
  recorded = omega arith;
  on_base = tt;
  versions = λ t. sym (append-nil (left base [] t) ∙ all_left (versions_of base t));
}

-- the rows are those that a transaction sees of what stands
seen : (base rows : Rows) (made : List ℕ) (held : List (Option RowOp)) (table : ℕ) → IsSoFar base rows made held → table_rows rows table ≡ view base (standing held) table
seen base rows made held table far =
    ap (map (λ (v : Version). v.row)) (far.versions table)
    ∙ map-append (λ (v : Version). v.row) (left base held table) (own table made held)
    ∙ (λ j. map (λ (v : Version). v.row) (filter (λ (v : Version). not (sym (gone_is table v.genid held) j)) (versions_of base table))
    ++ own_rows table base.next rows.next made held far.recorded j)

pub same : NetIsInTurn
same rows ops table numbered applies =
    let end = run rows rows [] [] ops numbered (at_first rows) applies in
    seen rows (in_turn rows [] ops) end.made (held_after [] ops) table end.far
    ∙ view_applied rows (standing (held_after [] ops)) table (stands_on (length rows.tables) rows.next (held_after [] ops) end.far.on_base)
