-- The log that the first master adopted is that of a best store.
use Rattle.std.proofs.Common.{ℕ, zero, suc, ◌≡◌, ◌+◌, ◌<◌, ◌≤◌, List, [], ◌∷◌, length, map, arith, refl, sym, subst, ap}
use Rattle.std.specs.Prelude.{Option, Some, IfSome, true, slice_get}
use Rattle.std.proofs.lemmas.List.{length-map}
use mathlib.Core.Logic.{◌⊎◌, inl, inr}
use Rattle.cluster_consensus.specs.Enabled.{Below}
use Rattle.cluster_consensus.specs.Facts.{Claim}
use Rattle.cluster_events.specs.Settings.{Setting}
use Rattle.cluster_masters.specs.FirstMaster.{HasNoMaster, IsFirstMaster}
use Rattle.cluster_origins.proofs.OriginLaws.{adopted_from, kept_from}
use Rattle.cluster_origins.specs.Origins.{HadAtEntry, IsBestAtEntry, IsFrom, IsSetupAlone}
use Rattle.cluster_requests.specs.KeptEntries.{KeptEntry, plain}
use Rattle.cluster_requests.specs.KeptEntries.KeptEntry.{SetupKept, CommitKept}
use Rattle.cluster_steps.proofs.StepLaws.{legal_steps}
use Rattle.cluster_steps.specs.Named.{steps, world}
use Rattle.cluster_steps.specs.declared.events.Event.{Event}
use Rattle.kept_log.specs.Kept.{Kept, StandForAny, kept}
use Rattle.run_results.specs.Stores.{AreStoresOf, first_up}
use Rattle.store_log.specs.Keeps.{Stored}
use Rattle.run_stores.proofs.FirstLaws.{booted}
use Rattle.run_stores.specs.Best.{HeldBefore, IsBestBefore, IsOfBestStore, IsOfStore, IsSetup}

some_at : {A : Type 0} (xs : List A) (k : ℕ) → k < length xs → (x : A) × (slice_get xs k ≡ Some x)
some_at [] k low = absurd (let l : k < 0 = low in omega arith)
some_at (x ∷ xs) zero low = (x, refl)
some_at (x ∷ xs) (suc k) low = some_at xs k (let l : suc k < suc (length xs) = low in omega arith)

-- with what a node came up first its store stood for before the run
held_at : (G : Setting) (h : List (ℕ × Event)) (cluster : ℕ) (old new : List Stored) (place p a : ℕ) (l : List KeptEntry) → AreStoresOf G h cluster old new → place < length old → first_up (place + 1) h ≡ Some (kept p a (map plain l))
    → HeldBefore cluster old (place + 1) a (map plain l)
held_at G h cluster old new place p a l are low first =
    let o = some_at old place low in
    let size : length new ≡ length old = are.count in
    let n = some_at new place (let low' : place < length old = low in omega arith) in
    let is = are.each place o.0 n.0 o.1 n.1 in
    record {
      place = place;
      behind = refl;
      store = o.0;
      is = o.1;
      promised = p;
      stood = subst (λ (x : Option Kept). IfSome x (λ y. ∥ StandForAny (place + 1) cluster o.0.synced (y ∷ []) ∥₁)) first is.read;
    }

held_before : (G : Setting) (h : List (ℕ × Event)) (cluster : ℕ) (old new : List Stored) (k a : ℕ) (l : List KeptEntry) → AreStoresOf G h cluster old new → HadAtEntry (steps G h) k a l → HeldBefore cluster old k a (map plain l)
held_before G h cluster old new zero a l are had =
    let b = booted G zero had.0 a l h are.legal had.1 in
    let least : 1 ≤ 0 = b.least in
    absurd (omega (arith, least))
held_before G h cluster old new (suc place) a l are had =
    let b = booted G (suc place) had.0 a l h are.legal had.1 in
    let most : suc place ≤ G.nodes = b.most in
    let size : length old ≡ G.nodes = are.size in
    let low : place < length old = omega (arith, most, size) in
    let same : suc place ≡ place + 1 = omega arith in
    let first : first_up (place + 1) h ≡ Some (kept had.0 a (map plain l)) = subst (λ k. first_up k h ≡ Some (kept had.0 a (map plain l))) same b.first in
    subst (λ k. HeldBefore cluster old k a (map plain l)) (sym same) (held_at G h cluster old new place had.0 a l are low first)

setup_of : (log : List KeptEntry) → IsSetupAlone log → IsSetup (map plain log)
setup_of [] is = absurd is
setup_of (SetupKept generation schema records reached ∷ []) is = tt
setup_of (SetupKept generation schema records reached ∷ (e ∷ es)) is = absurd is
setup_of (CommitKept generation id begin level changes records reached ∷ es) is = absurd is

is_of : (store log : List KeptEntry) → (log ≡ store) ⊎ ((store ≡ []) × IsSetupAlone log) → (map plain log ≡ map plain store) ⊎ ((map plain store ≡ []) × IsSetup (map plain log))
is_of store log (inl same) = inl (ap (λ (t : List KeptEntry). map plain t) same)
is_of store log (inr (none, alone)) = inr (ap (λ (t : List KeptEntry). map plain t) none, setup_of log alone)

abbrev from_store : (G : Setting) (h : List (ℕ × Event)) (cluster : ℕ) (old new : List Stored) (log : List KeptEntry) → AreStoresOf G h cluster old new → (f : IsFrom (steps G h) log) → IsOfStore cluster old (map plain log)
from_store G h cluster old new log are f = record {
  node = f.node;
  accepted = f.accepted;
  entries = map plain f.store;
  held = held_before G h cluster old new f.node f.accepted f.store are f.had;
  is = is_of f.store log f.is;
}

below_of : (b : ℕ) (k : List KeptEntry) (a : ℕ) (l : List KeptEntry) → Below b (length k) a (length l) → Below b (length (map plain k)) a (length (map plain l))
below_of b k a l low = subst (λ n. Below b n a (length (map plain l))) (sym (length-map k plain)) (subst (λ n. Below b (length k) a n) (sym (length-map l plain)) low)

best_of : (G : Setting) (h : List (ℕ × Event)) (cluster : ℕ) (old new : List Stored) (a : ℕ) (l : List KeptEntry) → AreStoresOf G h cluster old new → IsBestAtEntry G.nodes (steps G h) a l → IsBestBefore G.nodes cluster old a (map plain l)
best_of G h cluster old new a l are best = record {
  who = best.who;
  many = best.many;
  hold = λ j pos le so. (let r = best.hold j pos le so in (r.0, map plain r.1, held_before G h cluster old new j r.0 r.1 are r.2, below_of r.0 r.1 a l r.3));
}

pub adopted_of : (G : Setting) (h : List (ℕ × Event)) (cluster : ℕ) (old new : List Stored) (m : ℕ) (a : Claim KeptEntry) → AreStoresOf G h cluster old new → IsFirstMaster G.nodes (world G h) m a → IsOfBestStore G.nodes cluster old (map plain a.log)
adopted_of G h cluster old new m a are first =
    let f = adopted_from G (steps G h) m a (legal_steps G h are.legal) first in
    record { of_store = from_store G h cluster old new a.log are f.from; best = best_of G h cluster old new f.from.accepted f.from.store are f.best }

pub kept_of : (G : Setting) (h : List (ℕ × Event)) (cluster : ℕ) (old new : List Stored) (k : ℕ) → AreStoresOf G h cluster old new → HasNoMaster G.nodes (world G h) → ((world G h).nodes k).was_up ≡ true → IsOfStore cluster old (map plain ((world G h).nodes k).log)
kept_of G h cluster old new k are none up = from_store G h cluster old new ((world G h).nodes k).log are (kept_from G (steps G h) k (legal_steps G h are.legal) none up)
