-- What is told of stores is told in place of a report.
use Rattle.std.proofs.Common.{◌≡◌, inl, inr, ℕ, zero, suc, ◌<◌, List, [], ◌∷◌, length, map, Option, Some, None, slice_get, refl, sym, subst, ap, arith}
use Rattle.cdb_outside.specs.declared.statuses.Status.{Status}
use Rattle.play_order.specs.Openings.{AreAllFit, DiffersAt, Finding, IsToldAtOpening, MayPlay, first_unfit}
use Rattle.script_form.specs.CanRun.{script_tables}
use Rattle.script_form.specs.declared.scripts.Script.{Script}
use Rattle.script_form.specs.declared.scripts.TableLine.{TableLine}
use Rattle.node_openings.specs.declared.found.WhyNotOpened.{WhyNotOpened}
use Rattle.node_openings.specs.declared.found.WhyNotOpened.TheVariants as why
use Rattle.node_openings.specs.Told.{DiffersFromBest, IsStatusOf, IsToldOver, MayPlayOver}

unfit_of : (script : Script) (fs : List Finding) (o : Option ℕ) → length fs ≡ script.nodes → first_unfit (length fs) fs ≡ o → first_unfit script.nodes fs ≡ o
unfit_of script fs o each is = subst (λ n. first_unfit n fs ≡ o) each is

all_fit : (script : Script) (fs : List Finding) → length fs ≡ script.nodes → AreAllFit (length fs) fs → AreAllFit script.nodes fs
all_fit script fs each fit = (fit.0, unfit_of script fs None each fit.1)

differs_at : (script : Script) (fs : List Finding) (place : ℕ) (said : TableLine) → slice_get script.tables place ≡ Some said → DiffersFromBest (script_tables script) fs place → DiffersAt script fs said.line
differs_at script fs place said at d = record { best = d.best; is_best = d.is_best; some = d.some; place = place; difference = d.difference; said = said; at = at; line_is = refl }

pub told_at_opening : (script : Script) (fs : List Finding) (w : WhyNotOpened) (told : Status) → length fs ≡ script.nodes → IsToldOver (script_tables script) fs w → IsStatusOf script w told → IsToldAtOpening script fs told
told_at_opening script fs (why.StoreRefused node at) told each t is = subst (λ (x : Status). IsToldAtOpening script fs x) (sym is) t
told_at_opening script fs (why.Unsound node) told each (inl t) is = subst (λ (x : Status). IsToldAtOpening script fs x) (sym is) (inl t)
told_at_opening script fs (why.Unsound node) told each (inr (sound, unfit)) is = subst (λ (x : Status). IsToldAtOpening script fs x) (sym is) (inr (sound, unfit_of script fs (Some node) each unfit))
told_at_opening script fs (why.Differs place) told each (fit, differs) (said, at, is) = subst (λ (x : Status). IsToldAtOpening script fs x) (sym is) (all_fit script fs each fit, refl, differs_at script fs place said at differs)
told_at_opening script fs why.NoMemory told each t is = absurd is

-- the place of a table is that of its line
there_is : {A : Type 0} (xs : List A) (n : ℕ) → n < length xs → (x : A) × (slice_get xs n ≡ Some x)
there_is [] n h = absurd (omega arith)
there_is (x ∷ xs) zero h = (x, refl)
there_is (x ∷ xs) (suc n) h = there_is xs n (let l : length (x ∷ xs) ≡ suc (length xs) = refl in omega arith)

map_size : (ts : List TableLine) → length (map (λ (t : TableLine). t.table) ts) ≡ length ts
map_size [] = refl
map_size (t ∷ ts) = ap suc (map_size ts)

pub line_of_place : (script : Script) (fs : List Finding) (place : ℕ) → IsToldOver (script_tables script) fs (why.Differs place) → (said : TableLine) × (slice_get script.tables place ≡ Some said)
line_of_place script fs place t =
    let within : place < length (script_tables script) = t.1.difference.within in
    let size : length (script_tables script) ≡ length script.tables = map_size script.tables in
    there_is script.tables place (omega arith)

-- a script is played over stores exactly so
difference_of : (script : Script) (fs : List Finding) (line : ℕ) (d : DiffersAt script fs line) → DiffersFromBest (script_tables script) fs d.place
difference_of script fs line d = record { best = d.best; is_best = d.is_best; some = d.some; difference = d.difference }

pub may_be_played : (script : Script) (fs : List Finding) → length fs ≡ script.nodes → MayPlayOver (script_tables script) fs → MayPlay script fs
may_be_played script fs each may = record { one_each = each; fit = all_fit script fs each may.fit; same = λ line d. may.same d.place (difference_of script fs line d) }
