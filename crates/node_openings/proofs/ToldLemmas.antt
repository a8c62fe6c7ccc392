-- What the tests of an opening tell, in the words of reports.
use Rattle.std.proofs.Common.{◌≡◌, ◌⊎◌, inl, inr, ℕ, ◌<◌, ◌≤◌, List, length, Option, Some, None, slice_get, refl, sym, subst, ap, ◌∙◌, arith}
use Rattle.cdb_values.specs.declared.tables.TableDef.{TableDef}
use Rattle.cluster_consensus.specs.Enabled.{Fit}
use Rattle.cluster_consensus.specs.Facts.{Admit}
use Rattle.election_core.specs.Fits.{IsLowestUnfit, lacks_cover}
use Rattle.node_opening.specs.Tables.{AreMatched, IsDifference, IsLast}
use Rattle.play_order.specs.Elections.{Ranked}
use Rattle.play_order.specs.Openings.{BadAt, Finding, admits_from, best_log, first_bad, first_unfit, first_unsound, first_where, tables_at}
use Rattle.play_order.specs.Peers.{numbers_to}
use Rattle.node_openings.specs.declared.found.StoreFound.{StoreFound}
use Rattle.node_openings.specs.declared.found.WhyNotOpened.{WhyNotOpened}
use Rattle.node_openings.specs.declared.found.WhyNotOpened.TheVariants as why
use Rattle.node_openings.specs.Findings.{AreSeenAs}
use Rattle.node_openings.specs.Judged.{AreMatchedBest, IsOtherBest, admits_of, bad_from, best_tables_of, unsound_from}
use Rattle.kept_log.specs.Kept.{OverStore}
use Rattle.node_openings.specs.Found.{AreFound}
use Rattle.node_openings.specs.Told.{AreTablesOfBest, DiffersFromBest, IsToldOf, IsToldOver, IsWhyNotOpened, MayPlayOf, MayPlayOver}
use Rattle.node_openings.proofs.ReadLemmas.{found_count}
use Rattle.node_openings.proofs.FitLemmas.{all_numbered, lowest_unfit, none_unfit}
use Rattle.node_openings.proofs.SeenLemmas.{admits_seen, bad_seen, bad_told, best_has, best_none, size_seen, unsound_seen}

none_some : {A : Type 0} {T : Type 0} (x : A) → None ≡ Some x → T
none_some x e = absurd (let no_such : None ≡ Some x = e in cc)

some_is : {A : Type 0} (x y : A) → Some x ≡ Some y → x ≡ y
some_is x y e = cc

-- no store is bad
no_bad : (ss : List StoreFound) (fs : List Finding) → AreSeenAs ss fs → bad_from 1 ss ≡ None → first_bad 1 fs ≡ None
no_bad ss fs seen none = go (first_bad 1 fs) refl
  where
    go : (o : Option BadAt) → first_bad 1 fs ≡ o → o ≡ None
    go None e = refl
    go (Some b) e = none_some (why.StoreRefused b.node b.at) (sym none ∙ (bad_seen 1 ss fs seen ∙ ap bad_told e))

no_unsound : (ss : List StoreFound) (fs : List Finding) → AreSeenAs ss fs → unsound_from 1 ss ≡ None → first_unsound 1 fs ≡ None
no_unsound ss fs seen none = sym (unsound_seen 1 ss fs seen) ∙ none

-- want of memory tells nothing
pub told_nothing : (given : List TableDef) (ss : List StoreFound) → IsToldOf given ss why.NoMemory
told_nothing given ss = record { over = λ fs seen. tt }

-- a store is bad
told_bad_over : (given : List TableDef) (ss : List StoreFound) (w : WhyNotOpened) → bad_from 1 ss ≡ Some w → (fs : List Finding) → AreSeenAs ss fs → IsToldOver given fs w
told_bad_over given ss w is fs seen = go (first_bad 1 fs) refl
  where
    go : (o : Option BadAt) → first_bad 1 fs ≡ o → IsToldOver given fs w
    go None e = none_some w (sym (bad_seen 1 ss fs seen ∙ ap bad_told e) ∙ is)
    go (Some b) e =
        let same : why.StoreRefused b.node b.at ≡ w = some_is (why.StoreRefused b.node b.at) w (sym (bad_seen 1 ss fs seen ∙ ap bad_told e) ∙ is) in
        subst (λ (x : WhyNotOpened). IsToldOver given fs x) same e

pub told_bad : (given : List TableDef) (ss : List StoreFound) (w : WhyNotOpened) → bad_from 1 ss ≡ Some w → IsToldOf given ss w
told_bad given ss w is = record { over = λ fs seen. told_bad_over given ss w is fs seen }

-- none is, and the log of one is not sound
told_unsound_over : (given : List TableDef) (ss : List StoreFound) (node : ℕ) → bad_from 1 ss ≡ None → unsound_from 1 ss ≡ Some node → (fs : List Finding) → AreSeenAs ss fs → IsToldOver given fs (why.Unsound node)
told_unsound_over given ss node whole is fs seen = inl (no_bad ss fs seen whole, sym (unsound_seen 1 ss fs seen) ∙ is)

pub told_unsound : (given : List TableDef) (ss : List StoreFound) (node : ℕ) → bad_from 1 ss ≡ None → unsound_from 1 ss ≡ Some node → IsToldOf given ss (why.Unsound node)
told_unsound given ss node whole is = record { over = λ fs seen. told_unsound_over given ss node whole is fs seen }

unfit_as : (ss : List StoreFound) (fs : List Finding) (o : Option ℕ) → AreSeenAs ss fs
    → first_where (λ k. lacks_cover (length ss) (admits_of 1 ss) k (admits_of 1 ss)) (numbers_to (length ss)) ≡ o → first_unfit (length fs) fs ≡ o
unfit_as ss fs o seen is =
    subst (λ (n : ℕ). first_where (λ k. lacks_cover n (admits_from 1 fs) k (admits_from 1 fs)) (numbers_to n) ≡ o) (size_seen ss fs seen)
    (subst (λ (xs : List Admit). first_where (λ k. lacks_cover (length ss) xs k xs) (numbers_to (length ss)) ≡ o) (admits_seen 1 ss fs seen) is)

-- all are sound, and they do not fit
told_unfit_over : (given : List TableDef) (ss : List StoreFound) (node : ℕ) → bad_from 1 ss ≡ None → unsound_from 1 ss ≡ None → IsLowestUnfit (length ss) (admits_of 1 ss) node
    → (fs : List Finding) → AreSeenAs ss fs → IsToldOver given fs (why.Unsound node)
told_unfit_over given ss node whole sound unfit fs seen =
    inr ((no_bad ss fs seen whole, no_unsound ss fs seen sound), unfit_as ss fs (Some node) seen (lowest_unfit (length ss) (admits_of 1 ss) node (all_numbered ss) unfit))

pub told_unfit : (given : List TableDef) (ss : List StoreFound) (node : ℕ) → bad_from 1 ss ≡ None → unsound_from 1 ss ≡ None → IsLowestUnfit (length ss) (admits_of 1 ss) node
    → IsToldOf given ss (why.Unsound node)
told_unfit given ss node whole sound unfit = record { over = λ fs seen. told_unfit_over given ss node whole sound unfit fs seen }

fits_as : (ss : List StoreFound) (fs : List Finding) → AreSeenAs ss fs → Fit (length ss) (admits_of 1 ss) → first_unfit (length fs) fs ≡ None
fits_as ss fs seen fit = unfit_as ss fs None seen (none_unfit (length ss) (admits_of 1 ss) fit)

-- the tables that are told of the best log are its tables
pub tables_of_best : (ss : List StoreFound) (fs : List Finding) (r : Ranked) → AreSeenAs ss fs → best_log fs ≡ Some r → AreTablesOfBest fs r (best_tables_of ss)
tables_of_best ss fs r seen is = (best_has ss fs r seen is).tables

pub no_best_tables : (ss : List StoreFound) (fs : List Finding) → AreSeenAs ss fs → best_log fs ≡ None → best_tables_of ss ≡ None
no_best_tables ss fs seen none = best_none ss fs seen none

-- they fit, and the tables differ from those of the best log
differs_as : (given : List TableDef) (ss : List StoreFound) (fs : List Finding) (place : ℕ) → AreSeenAs ss fs → IsOtherBest given (best_tables_of ss) place → DiffersFromBest given fs place
differs_as given ss fs place seen other = go (best_log fs) refl
  where
    of_none : best_tables_of ss ≡ None → DiffersFromBest given fs place
    of_none none = absurd (subst (λ o. IsOtherBest given o place) none other)

    go : (o : Option Ranked) → best_log fs ≡ o → DiffersFromBest given fs place
    go None is = of_none (best_none ss fs seen is)
    go (Some r) is = which (best_has ss fs r seen is).tables
      where
        which : ((best_tables_of ss ≡ None) × (length r.has.log ≡ 0)) ⊎ ((best_tables_of ss ≡ Some (tables_at fs r.node)) × (1 ≤ length r.has.log)) → DiffersFromBest given fs place
        which (inl (none, empty)) = of_none none
        which (inr (tables, some)) = record { best = r; is_best = is; some = some; difference = subst (λ o. IsOtherBest given o place) tables other }

told_differs_over : (given : List TableDef) (ss : List StoreFound) (place : ℕ) → bad_from 1 ss ≡ None → unsound_from 1 ss ≡ None → Fit (length ss) (admits_of 1 ss)
    → IsOtherBest given (best_tables_of ss) place → (fs : List Finding) → AreSeenAs ss fs → IsToldOver given fs (why.Differs place)
told_differs_over given ss place whole sound fit other fs seen =
    (((no_bad ss fs seen whole, no_unsound ss fs seen sound), fits_as ss fs seen fit), differs_as given ss fs place seen other)

pub told_differs : (given : List TableDef) (ss : List StoreFound) (place : ℕ) → bad_from 1 ss ≡ None → unsound_from 1 ss ≡ None → Fit (length ss) (admits_of 1 ss)
    → IsOtherBest given (best_tables_of ss) place → IsToldOf given ss (why.Differs place)
told_differs given ss place whole sound fit other = record { over = λ fs seen. told_differs_over given ss place whole sound fit other fs seen }

-- tables that match do not differ
not_both : (given logged : List TableDef) (place : ℕ) → AreMatched given logged → IsDifference given logged place → ⊥
not_both given logged place (inl none) d = let within : place < length given = d.within in let size : length given ≡ 0 = ap length none in omega arith
not_both given logged place (inr same) d = go d.differs
  where
    go : (slice_get given place ≡ slice_get logged place → ⊥) ⊎ IsLast given logged place → ⊥
    go (inl other) = other (ap (λ (ts : List TableDef). slice_get ts place) same)
    go (inr last) = let more : length given < length logged = last.more in let size : length given ≡ length logged = ap length same in omega arith

no_difference : (given : List TableDef) (ss : List StoreFound) (fs : List Finding) (place : ℕ) → AreSeenAs ss fs → AreMatchedBest given (best_tables_of ss) → DiffersFromBest given fs place → ⊥
no_difference given ss fs place seen same d = which (best_has ss fs d.best seen d.is_best).tables
  where
    which : ((best_tables_of ss ≡ None) × (length d.best.has.log ≡ 0)) ⊎ ((best_tables_of ss ≡ Some (tables_at fs d.best.node)) × (1 ≤ length d.best.has.log)) → ⊥
    which (inl (none, empty)) = let some : 1 ≤ length d.best.has.log = d.some in omega arith
    which (inr (tables, some)) = not_both given (tables_at fs d.best.node) place (subst (λ o. AreMatchedBest given o) tables same) d.difference

-- there is no cause
may_play_over : (given : List TableDef) (ss : List StoreFound) → bad_from 1 ss ≡ None → unsound_from 1 ss ≡ None → Fit (length ss) (admits_of 1 ss)
    → AreMatchedBest given (best_tables_of ss) → (fs : List Finding) → AreSeenAs ss fs → MayPlayOver given fs
may_play_over given ss whole sound fit same fs seen = record {
  fit = ((no_bad ss fs seen whole, no_unsound ss fs seen sound), fits_as ss fs seen fit);
  same = λ place d. no_difference given ss fs place seen same d;
}

pub may_play : (given : List TableDef) (ss : List StoreFound) → bad_from 1 ss ≡ None → unsound_from 1 ss ≡ None → Fit (length ss) (admits_of 1 ss)
    → AreMatchedBest given (best_tables_of ss) → MayPlayOf given ss
may_play given ss whole sound fit same = record { over = λ fs seen. may_play_over given ss whole sound fit same fs seen }

-- the same, where it is computed who does not fit
told_unfit_by_over : (given : List TableDef) (ss : List StoreFound) (node : ℕ) → bad_from 1 ss ≡ None → unsound_from 1 ss ≡ None
    → first_where (λ k. lacks_cover (length ss) (admits_of 1 ss) k (admits_of 1 ss)) (numbers_to (length ss)) ≡ Some node → (fs : List Finding) → AreSeenAs ss fs → IsToldOver given fs (why.Unsound node)
told_unfit_by_over given ss node whole sound unfit fs seen = inr ((no_bad ss fs seen whole, no_unsound ss fs seen sound), unfit_as ss fs (Some node) seen unfit)

pub told_unfit_by : (given : List TableDef) (ss : List StoreFound) (node : ℕ) → bad_from 1 ss ≡ None → unsound_from 1 ss ≡ None
    → first_where (λ k. lacks_cover (length ss) (admits_of 1 ss) k (admits_of 1 ss)) (numbers_to (length ss)) ≡ Some node → IsToldOf given ss (why.Unsound node)
told_unfit_by given ss node whole sound unfit = record { over = λ fs seen. told_unfit_by_over given ss node whole sound unfit fs seen }

told_differs_by_over : (given : List TableDef) (ss : List StoreFound) (place : ℕ) → bad_from 1 ss ≡ None → unsound_from 1 ss ≡ None
    → first_where (λ k. lacks_cover (length ss) (admits_of 1 ss) k (admits_of 1 ss)) (numbers_to (length ss)) ≡ None → IsOtherBest given (best_tables_of ss) place → (fs : List Finding) → AreSeenAs ss fs → IsToldOver given fs (why.Differs place)
told_differs_by_over given ss place whole sound fit other fs seen =
    (((no_bad ss fs seen whole, no_unsound ss fs seen sound), unfit_as ss fs None seen fit), differs_as given ss fs place seen other)

pub told_differs_by : (given : List TableDef) (ss : List StoreFound) (place : ℕ) → bad_from 1 ss ≡ None → unsound_from 1 ss ≡ None
    → first_where (λ k. lacks_cover (length ss) (admits_of 1 ss) k (admits_of 1 ss)) (numbers_to (length ss)) ≡ None → IsOtherBest given (best_tables_of ss) place → IsToldOf given ss (why.Differs place)
told_differs_by given ss place whole sound fit other = record { over = λ fs seen. told_differs_by_over given ss place whole sound fit other fs seen }

may_play_by_over : (given : List TableDef) (ss : List StoreFound) → bad_from 1 ss ≡ None → unsound_from 1 ss ≡ None
    → first_where (λ k. lacks_cover (length ss) (admits_of 1 ss) k (admits_of 1 ss)) (numbers_to (length ss)) ≡ None → AreMatchedBest given (best_tables_of ss) → (fs : List Finding) → AreSeenAs ss fs → MayPlayOver given fs
may_play_by_over given ss whole sound fit same fs seen = record {
  fit = ((no_bad ss fs seen whole, no_unsound ss fs seen sound), unfit_as ss fs None seen fit);
  same = λ place d. no_difference given ss fs place seen same d;
}

pub may_play_by : (given : List TableDef) (ss : List StoreFound) → bad_from 1 ss ≡ None → unsound_from 1 ss ≡ None
    → first_where (λ k. lacks_cover (length ss) (admits_of 1 ss) k (admits_of 1 ss)) (numbers_to (length ss)) ≡ None → AreMatchedBest given (best_tables_of ss) → MayPlayOf given ss
may_play_by given ss whole sound fit same = record { over = λ fs seen. may_play_by_over given ss whole sound fit same fs seen }

-- what is told of the stores that were read, or of none
pub no_memory : (given : List TableDef) (old new : List OverStore) → IsWhyNotOpened given old new why.NoMemory
no_memory given old new = inl refl

pub why_told : (given : List TableDef) (old new : List OverStore) (w : WhyNotOpened) (ss seen : List StoreFound) → AreFound ss old new → seen ≡ ss → IsToldOf given seen w → IsWhyNotOpened given old new w
why_told given old new w ss seen found same told = inr (ss, found, subst (λ l. IsToldOf given l w) same told)

pub may_as : (given : List TableDef) (ss seen : List StoreFound) → seen ≡ ss → MayPlayOf given seen → MayPlayOf given ss
may_as given ss seen same may = subst (λ l. MayPlayOf given l) same may

pub fit_as : (ss seen : List StoreFound) → seen ≡ ss → Fit (length seen) (admits_of 1 seen) → Fit (length ss) (admits_of 1 ss)
fit_as ss seen same fit = subst (λ l. Fit (length l) (admits_of 1 l)) same fit

pub few_as : (ss seen : List StoreFound) (old new : List OverStore) → seen ≡ ss → AreFound ss old new → length old ≤ 7 → length seen ≤ 7
few_as ss seen old new same found few =
    let a : length seen ≡ length ss = ap length same in
    let b : length ss ≡ length old = found_count found in
    omega arith
