-- What a generation and a length find was shipped, and is found ever after.
use Rattle.std.proofs.Common.{ℕ, ◌≡◌, ◌<◌, ◌≤◌, List, [], ◌∷◌, length, take, arith, refl, sym, subst, ap, ◌∙◌}
use Rattle.std.specs.Prelude.{zero, suc, ◌==◌, ◌&&◌, leb, Bool, true, false, cond, Option, Some, None, unwrap_or}
use Rattle.std.proofs.lemmas.Option.{none-some, same_Some}
use Rattle.core_lists.specs.Fronts.{Front}
use Rattle.core_lists.specs.Lists.{In, Has}
use Rattle.core_lists.specs.Lists.In.{here, there}
use Rattle.core_lists.proofs.Fronts.{front_take, length_take, take_length}
use Rattle.cluster_consensus.specs.Facts.{Claim, World}
use Rattle.cluster_consensus.specs.Shipped.{find_ship, either_of, find_log}
use Rattle.cluster_consensus.proofs.Invariant.{Inv}
use Rattle.cluster_consensus.proofs.Lengths.{front_found, passes}
use Rattle.cluster_requests.specs.KeptEntries.{KeptEntry}
use Rattle.cluster_steps.specs.Guards.{IsLogFound}
use Rattle.cluster_steps.specs.Named.{log_named}
use Rattle.election_core.specs.More.{TellsMore}

-- the log is a front of a shipped one of this generation, of this length
abbrev pub IsShip : {E : Type 0} → ℕ → ℕ → List E → List (Claim E) → Type 0
IsShip g n l cs = Has (λ c. (c.gen ≡ g) × Front l c.log × (length l ≡ n)) cs

ship_of : {E : Type 0} (g n : ℕ) (l : List E) (cs : List (Claim E)) → find_ship g n cs ≡ Some l → IsShip g n l cs
ship_of g n l [] e = absurd (none-some l e)
ship_of {E} g n l (c ∷ cs) e = go (ship_of g n l cs) (c.gen == g && leb n (length c.log)) refl e
  where
    go : (find_ship g n cs ≡ Some l → IsShip g n l cs) → (b : Bool) → (c.gen == g && leb n (length c.log)) ≡ b → cond b (Some (take n c.log)) (find_ship g n cs) ≡ Some l → IsShip g n l (c ∷ cs)
    go again true t q =
        let p = passes c.gen g n (length c.log) t in
        let le : n ≤ length c.log = p.1 in
        let a = length_take n c.log in
        let b = take_length n c.log le in
        let s : length (take n c.log) ≡ n = omega arith in
        let same : take n c.log ≡ l = same_Some (take n c.log) l q in
        record { it = c; mem = here; is = (p.0, subst (λ x. Front x c.log) same (front_take n c.log), subst (λ (x : List E). length x ≡ n) same s) }
    go again false t q = let r = again q in record { it = r.it; mem = there r.mem; is = r.is }

-- by a node from 1 to k
pub found_ship : {E : Type 0} (w : World E) (g n k : ℕ) (l : List E) → find_log w g n k ≡ Some l → (m : ℕ) × (0 < m) × (m ≤ k) × IsShip g n l (w.nodes m).ships
found_ship w g n zero l e = absurd (none-some l e)
found_ship {E} w g n (suc k) l e = go (found_ship w g n k l) (find_ship g n (w.nodes (suc k)).ships) refl e
  where
    go : (find_log w g n k ≡ Some l → (m : ℕ) × (0 < m) × (m ≤ k) × IsShip g n l (w.nodes m).ships) → (x : Option (List E)) → find_ship g n (w.nodes (suc k)).ships ≡ x → either_of x (find_log w g n k) ≡ Some l
        → (m : ℕ) × (0 < m) × (m ≤ suc k) × IsShip g n l (w.nodes m).ships
    go again (Some y) t q = (suc k, omega arith, omega arith, ship_of g n l (w.nodes (suc k)).ships (t ∙ q))
    go again None t q = let r = again q in let a : 0 < r.0 = r.1 in let b : r.0 ≤ k = r.2 in (r.0, r.1, omega arith, r.3)

-- it is found where more is told, too
pub found_on : {E : Type 0} {n : ℕ} {w v : World E} → Inv n v → TellsMore w v → (g l : ℕ) (x : List E) → find_log w g l n ≡ Some x → find_log v g l n ≡ Some x
found_on {E} {n} {w} {v} inv more g l x e =
    let f = found_ship w g l n x e in
    let s = f.3 in
    let q : find_log v g (length x) n ≡ Some x = front_found inv g f.0 n s.it x ((more.nodes f.0).ships s.it s.mem) s.is.0 s.is.1 f.1 f.2 in
    subst (λ k. find_log v g k n ≡ Some x) s.is.2 q

-- a name is of the same log
pub log_stays : {n : ℕ} {w v : World KeptEntry} → Inv n v → TellsMore w v → (g l : ℕ) → IsLogFound n w g l → (log_named n v g l ≡ log_named n w g l) × IsLogFound n v g l
log_stays {n} {w} {v} inv more g l x =
    let f : find_log v g l n ≡ Some (log_named n w g l) = found_on inv more g l (log_named n w g l) x in
    let q : log_named n v g l ≡ log_named n w g l = ap (λ t. unwrap_or t []) f in
    (q, f ∙ ap Some (sym q))
