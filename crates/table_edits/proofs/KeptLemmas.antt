-- The pages of a store where one tree of it was changed, or none.
use Rattle.std.proofs.Common.{◌≡◌, ◌⊎◌, inl, inr, ℕ, zero, suc, ◌≤◌, true, false, List, [], ◌∷◌, Some, refl, sym, ap, ◌∙◌, subst}
use Rattle.std.proofs.lemmas.Bool.{false≢true}
use Rattle.std.proofs.lemmas.Option.{none-some, same_Some}
use Rattle.std.specs.List.{slice_get, slice_set, list_any, remove}
use Rattle.page_store.specs.Image.{Image}
use Rattle.page_workspace.specs.Spare.{IsIn, AreApart, count_of}
use Rattle.btree_index.specs.Changes.{Changes, LosesNone, Becomes}
use Rattle.btree_index.proofs.ApartLaws.{in_left, in_right, in_either, apart_right, apart_cross}
use Rattle.cdb_values.specs.declared.rows.RowOp.{RowOp}
use Rattle.table_store.specs.Forests.{Pair, joined, Forest}
use Rattle.table_store.specs.Plans.{Planned}
use Rattle.table_store.proofs.ForestLaws.{joined_own, joined_rest, in_set}
use Rattle.table_edits.specs.Fits.{names}
use Rattle.table_edits.specs.Kept.{Store, LeavesUnnamed}

-- the pages of the tree at a place are among all
set_in : (n at : ℕ) (owns : List (List ℕ)) (own more : List ℕ) → slice_get owns at ≡ Some own → IsIn n more → IsIn n (joined (slice_set owns at more))
set_in n at [] own more o i = absurd (none-some own o)
set_in n zero (x ∷ xs) own more o i = in_left n more (joined xs) i
set_in n (suc at) (x ∷ xs) own more o i = in_right n x (joined (slice_set xs at more)) (set_in n at xs own more o i)

-- where its pages stay or are free, so do all
set_keeps : (n at : ℕ) (owns : List (List ℕ)) (own more spare : List ℕ) → slice_get owns at ≡ Some own → (IsIn n own → IsIn n more ⊎ IsIn n spare)
    → IsIn n (joined owns) → IsIn n (joined (slice_set owns at more)) ⊎ IsIn n spare
set_keeps n at [] own more spare o f i = absurd (none-some own o)
set_keeps n zero (x ∷ xs) own more spare o f i = go (in_either n x (joined xs) i)
  where
    mine : IsIn n more ⊎ IsIn n spare → IsIn n (joined (more ∷ xs)) ⊎ IsIn n spare
    mine (inl k) = inl (in_left n more (joined xs) k)
    mine (inr k) = inr k

    go : IsIn n x ⊎ IsIn n (joined xs) → IsIn n (joined (more ∷ xs)) ⊎ IsIn n spare
    go (inl j) = mine (f (subst (λ (k : List ℕ). IsIn n k) (same_Some x own o) j))
    go (inr j) = inl (in_right n more (joined xs) j)
set_keeps n (suc at) (x ∷ xs) own more spare o f i = go (set_keeps n at xs own more spare o f) (in_either n x (joined xs) i)
  where
    deeper : IsIn n (joined (slice_set xs at more)) ⊎ IsIn n spare → IsIn n (joined (x ∷ slice_set xs at more)) ⊎ IsIn n spare
    deeper (inl k) = inl (in_right n x (joined (slice_set xs at more)) k)
    deeper (inr k) = inr k

    go : (IsIn n (joined xs) → IsIn n (joined (slice_set xs at more)) ⊎ IsIn n spare) → IsIn n x ⊎ IsIn n (joined xs)
        → IsIn n (joined (x ∷ slice_set xs at more)) ⊎ IsIn n spare
    go ih (inl j) = inl (in_left n x (joined (slice_set xs at more)) j)
    go ih (inr j) = deeper (ih j)

-- the trees at other places stay
set_beside : (at other : ℕ) (owns : List (List ℕ)) (own more : List ℕ) → (other ≡ at → ⊥) → slice_get owns other ≡ Some own
    → slice_get (slice_set owns at more) other ≡ Some own
set_beside at other [] own more off o = absurd (none-some own o)
set_beside zero zero (x ∷ xs) own more off o = absurd (off refl)
set_beside zero (suc other) (x ∷ xs) own more off o = o
set_beside (suc at) zero (x ∷ xs) own more off o = o
set_beside (suc at) (suc other) (x ∷ xs) own more off o = set_beside at other xs own more (λ e. off (ap (λ (n : ℕ). suc n) e)) o

-- and their pages are others
apart_places : (n at other : ℕ) (owns : List (List ℕ)) (own beside : List ℕ) → (other ≡ at → ⊥) → AreApart (joined owns) → slice_get owns at ≡ Some own
    → slice_get owns other ≡ Some beside → IsIn n own → IsIn n beside → ⊥
apart_places n at other [] own beside off a o b i j = none-some own o
apart_places n zero zero (x ∷ xs) own beside off a o b i j = off refl
apart_places n zero (suc other) (x ∷ xs) own beside off a o b i j =
    apart_cross n x (joined xs) a (subst (λ (k : List ℕ). IsIn n k) (sym (same_Some x own o)) i) (joined_own n other xs beside b j)
apart_places n (suc at) zero (x ∷ xs) own beside off a o b i j =
    apart_cross n x (joined xs) a (subst (λ (k : List ℕ). IsIn n k) (sym (same_Some x beside b)) j) (joined_own n at xs own o i)
apart_places n (suc at) (suc other) (x ∷ xs) own beside off a o b i j =
    apart_places n at other xs own beside (λ e. off (ap (λ (n : ℕ). suc n) e)) (apart_right x (joined xs) a) o b i j

-- a change of one tree is a change of all
pub forest_changes : (old new : ℕ → Image) (root at : ℕ) (owns : List (List ℕ)) (own free : List ℕ) (after : List Pair) → slice_get owns at ≡ Some own
    → (b : Becomes old new root own free after) → Changes old new (joined owns) (joined (slice_set owns at b.more)) free b.spare
forest_changes old new root at owns own free after o b = record {
  genid = b.changes.genid;
  count = b.changes.count;
  few = b.changes.few;
  others = λ n below some off_own off_free. b.changes.others n below some (λ i. off_own (joined_own n at owns own o i)) off_free;
  tree = λ n i. either n (in_set n at owns own b.more o i);
  unused = λ n i. wider n (b.changes.unused n i);
}
  where
    wider : (n : ℕ) → IsIn n own ⊎ IsIn n free ⊎ (count_of old ≤ n) → IsIn n (joined owns) ⊎ IsIn n free ⊎ (count_of old ≤ n)
    wider n (inl i) = inl (joined_own n at owns own o i)
    wider n (inr i) = inr i

    either : (n : ℕ) → IsIn n b.more ⊎ IsIn n (joined (remove owns at)) → IsIn n (joined owns) ⊎ IsIn n free ⊎ (count_of old ≤ n)
    either n (inl i) = wider n (b.changes.tree n i)
    either n (inr i) = inl (joined_rest n at owns i)

pub forest_loses : (old new : ℕ → Image) (root at : ℕ) (owns : List (List ℕ)) (own free : List ℕ) (after : List Pair) → slice_get owns at ≡ Some own
    → (b : Becomes old new root own free after) → LosesNone old new (joined owns) (joined (slice_set owns at b.more)) free b.spare
forest_loses old new root at owns own free after o b = record {
  tree = λ n i. set_keeps n at owns own b.more b.spare o (b.lost.tree n) i;
  unused = λ n i. either n (b.lost.unused n i);
  taken = λ n from to. either n (b.lost.taken n from to);
}
  where
    either : (n : ℕ) → IsIn n b.more ⊎ IsIn n b.spare → IsIn n (joined (slice_set owns at b.more)) ⊎ IsIn n b.spare
    either n (inl i) = inl (set_in n at owns own b.more o i)
    either n (inr i) = inr i

-- a page of another tree is as it was
other_stays : (old new : ℕ → Image) (root at other n : ℕ) (owns : List (List ℕ)) (own free beside : List ℕ) (lists : List (List Pair)) (after : List Pair)
    → Forest old 1 owns free lists → slice_get owns at ≡ Some own → Becomes old new root own free after → (other ≡ at → ⊥) → slice_get owns other ≡ Some beside
    → IsIn n beside → new n ≡ old n
other_stays old new root at other n owns own free beside lists after f o b off there i =
    let all : IsIn n (joined owns) = joined_own n other owns beside there i in
    b.changes.others n (f.below n all) (λ z. f.off_meta (subst (λ (k : ℕ). IsIn k (joined owns)) z all))
    (λ j. apart_places n at other owns own beside off f.apart o there j i) (λ j. f.off_free n all j)

-- places of trees of which one is named, and the other not
named_apart : (plan : List Planned) (ops : List RowOp) (at other : ℕ) (p q : Planned) → slice_get plan at ≡ Some p → slice_get plan other ≡ Some q
    → list_any (names p.table) ops ≡ true → list_any (names q.table) ops ≡ false → other ≡ at → ⊥
named_apart plan ops at other p q a b told untold e =
    let same : p ≡ q = same_Some p q (sym a ∙ ap (λ (n : ℕ). slice_get plan n) (sym e) ∙ b) in
    false≢true (sym untold ∙ ap (λ (r : Planned). list_any (names r.table) ops) (sym same) ∙ told)

-- trees of tables that no operation names are left, where the tree of another table was changed
pub unnamed_beside : (old new : ℕ → Image) (root at : ℕ) (owns : List (List ℕ)) (own free : List ℕ) (lists : List (List Pair)) (after : List Pair)
    (plan : List Planned) (ops : List RowOp) (p : Planned) → Forest old 1 owns free lists → slice_get owns at ≡ Some own → (b : Becomes old new root own free after)
    → slice_get plan at ≡ Some p → list_any (names p.table) ops ≡ true
    → LeavesUnnamed (record { pages = old; owns = owns; free = free }) (record { pages = new; owns = slice_set owns at b.more; free = b.spare }) plan ops
unnamed_beside old new root at owns own free lists after plan ops p f o b here named other q beside there untold at_other =
    let off : other ≡ at → ⊥ = named_apart plan ops at other p q here there named untold in
    (set_beside at other owns beside b.more off at_other, λ n i. other_stays old new root at other n owns own free beside lists after f o b off at_other i)

-- one step after others
pub unnamed_after : (a b c : Store) (plan : List Planned) (ops : List RowOp) → LeavesUnnamed a b plan ops → LeavesUnnamed b c plan ops → LeavesUnnamed a c plan ops
unnamed_after a b c plan ops one two at p own here untold there =
    let first = one at p own here untold there in
    let second = two at p own here untold first.0 in
    (second.0, λ n i. second.1 n i ∙ first.1 n i)

pub unnamed_none : (a : Store) (plan : List Planned) (ops : List RowOp) → LeavesUnnamed a a plan ops
unnamed_none a plan ops at p own here untold there = (there, λ n i. refl)
