-- What was found of stores, and what a report knows of it, agree in all that is looked for.
use Rattle.std.proofs.Common.{◌≡◌, ◌⊎◌, inl, inr, ℕ, zero, suc, ◌+◌, ◌-◌, ◌≤◌, Bool, true, false, List, [], ◌∷◌, length, map, Option, Some, None, slice_get, refl, sym, subst, ap, ◌∙◌, arith, if◌then◌else◌}
use Rattle.cdb_values.specs.declared.tables.TableDef.{TableDef}
use Rattle.cluster_consensus.specs.Facts.{Admit}
use Rattle.play_order.specs.Elections.{Ranked, greater_of, greatest_pair_from, outranks}
use Rattle.play_order.specs.Openings.{BadAt, Finding, admits_from, best_log, first_bad, first_unsound, read_holding, tables_at}
use Rattle.play_order.specs.Openings.Finding.{BadFrame, FailedRead, NotSound, WholeLog}
use Rattle.play_order.specs.Peers.{Holding}
use Rattle.node_openings.specs.declared.found.RankedLog.{RankedLog}
use Rattle.node_openings.specs.declared.found.ReadLog.{ReadLog}
use Rattle.node_openings.specs.declared.found.StoreFound.{StoreFound}
use Rattle.node_openings.specs.declared.found.StoreFound.TheVariants as store
use Rattle.node_openings.specs.declared.found.WhyNotOpened.{WhyNotOpened}
use Rattle.node_openings.specs.declared.found.WhyNotOpened.TheVariants as why
use Rattle.node_openings.specs.Findings.{AreSeenAs, IsSeenAs, IsSeenLog}
use Rattle.node_openings.specs.Findings.AreSeenAs.{seen_none, seen_more}
use Rattle.node_openings.specs.Findings.IsSeenAs.{seen_failed, seen_bad, seen_unsound, seen_whole}
use Rattle.node_openings.specs.Judged.{admits_of, bad_from, best_from, best_tables_of, better_of, better_with, tables_found, tables_read, unsound_from}

size_of : {ss : List StoreFound} {fs : List Finding} → AreSeenAs ss fs → length ss ≡ length fs
size_of seen_none = refl
size_of (seen_more x rest) = ap suc (size_of rest)

pub size_seen : (ss : List StoreFound) (fs : List Finding) → AreSeenAs ss fs → length ss ≡ length fs
size_seen ss fs seen = size_of seen

abbrev pub bad_told : Option BadAt → Option WhyNotOpened
bad_told None = None
bad_told (Some b) = Some (why.StoreRefused b.node b.at)

bad_of : {ss : List StoreFound} {fs : List Finding} (k : ℕ) → AreSeenAs ss fs → bad_from k ss ≡ bad_told (first_bad k fs)
bad_of k seen_none = refl
bad_of k (seen_more seen_failed rest) = bad_of (k + 1) rest
bad_of k (seen_more seen_bad rest) = refl
bad_of k (seen_more seen_unsound rest) = bad_of (k + 1) rest
bad_of k (seen_more (seen_whole log) rest) = bad_of (k + 1) rest

pub bad_seen : (k : ℕ) (ss : List StoreFound) (fs : List Finding) → AreSeenAs ss fs → bad_from k ss ≡ bad_told (first_bad k fs)
bad_seen k ss fs seen = bad_of k seen

unsound_of : {ss : List StoreFound} {fs : List Finding} (k : ℕ) → AreSeenAs ss fs → unsound_from k ss ≡ first_unsound k fs
unsound_of k seen_none = refl
unsound_of k (seen_more seen_failed rest) = unsound_of (k + 1) rest
unsound_of k (seen_more seen_bad rest) = unsound_of (k + 1) rest
unsound_of k (seen_more seen_unsound rest) = refl
unsound_of k (seen_more (seen_whole log) rest) = unsound_of (k + 1) rest

pub unsound_seen : (k : ℕ) (ss : List StoreFound) (fs : List Finding) → AreSeenAs ss fs → unsound_from k ss ≡ first_unsound k fs
unsound_seen k ss fs seen = unsound_of k seen

same_admit : (k p q a b : ℕ) (xs ys : List Admit) → p ≡ q → a ≡ b → xs ≡ ys
    → ◌≡◌ {A = List Admit} (record { node = k; promised = p; accepted = a } ∷ xs) (record { node = k; promised = q; accepted = b } ∷ ys)
same_admit k p q a b xs ys e f g =
    ap (λ (x : ℕ). let y : Admit = record { node = k; promised = x; accepted = a } in y ∷ xs) e
    ∙ (ap (λ (x : ℕ). let y : Admit = record { node = k; promised = q; accepted = x } in y ∷ xs) f
    ∙ ap (λ (l : List Admit). let y : Admit = record { node = k; promised = q; accepted = b } in y ∷ l) g)

admits_same : {ss : List StoreFound} {fs : List Finding} (k : ℕ) → AreSeenAs ss fs → admits_of k ss ≡ admits_from k fs
admits_same k seen_none = refl
admits_same k (seen_more seen_failed rest) = admits_same (k + 1) rest
admits_same k (seen_more seen_bad rest) = admits_same (k + 1) rest
admits_same k (seen_more seen_unsound rest) = admits_same (k + 1) rest
admits_same k (seen_more {ss = ss} {fs = fs} (seen_whole {r = r} {has = has} log) rest) =
    same_admit k r.promised has.promised r.accepted has.accepted (admits_of (k + 1) ss) (admits_from (k + 1) fs) (sym log.promise) (sym log.acceptance) (admits_same (k + 1) rest)

pub admits_seen : (k : ℕ) (ss : List StoreFound) (fs : List Finding) → AreSeenAs ss fs → admits_of k ss ≡ admits_from k fs
admits_seen k ss fs seen = admits_same k seen

-- the best log
abbrev pub ranked_of : Option Ranked → Option RankedLog
ranked_of None = None
ranked_of (Some r) = Some (record { node = r.node; accepted = r.has.accepted; length = length r.has.log })

abbrev log_ranked : ℕ → ℕ → ℕ → RankedLog
log_ranked k a l = record { node = k; accepted = a; length = l }

abbrev holding_ranked : ℕ → Holding → Ranked
holding_ranked k has = record { node = k; has = has }

better_same : (k : ℕ) (has : Holding) (b : Option Ranked) → better_of (log_ranked k has.accepted (length has.log)) (ranked_of b) ≡ ranked_of (greater_of k (Some has) b)
better_same k has None = refl
better_same k has (Some b) = go (outranks has b.has)
  where
    go : (t : Bool) → (if t then Some (log_ranked k has.accepted (length has.log)) else ranked_of (Some b)) ≡ ranked_of (if t then Some (holding_ranked k has) else Some b)
    go true = refl
    go false = refl

better_seen : (k a l : ℕ) (has : Holding) (b : Option Ranked) → has.accepted ≡ a → length has.log ≡ l → better_of (log_ranked k a l) (ranked_of b) ≡ ranked_of (greater_of k (Some has) b)
better_seen k a l has b e f =
    subst (λ x. better_of (log_ranked k x l) (ranked_of b) ≡ ranked_of (greater_of k (Some has) b)) e
    (subst (λ y. better_of (log_ranked k has.accepted y) (ranked_of b) ≡ ranked_of (greater_of k (Some has) b)) f (better_same k has b))

best_step : {s : StoreFound} {f : Finding} (k : ℕ) (b : Option Ranked) → IsSeenAs s f → better_with k s (ranked_of b) ≡ ranked_of (greater_of k (read_holding f) b)
best_step k b seen_failed = refl
best_step k b seen_bad = refl
best_step k b seen_unsound = refl
best_step k b (seen_whole {r = r} {has = has} log) = better_seen k r.accepted r.length has b log.acceptance log.had

best_same : {ss : List StoreFound} {fs : List Finding} (k : ℕ) (b : Option Ranked) → AreSeenAs ss fs → best_from k (ranked_of b) ss ≡ ranked_of (greatest_pair_from k b (map read_holding fs))
best_same k b seen_none = refl
best_same k b (seen_more {f = f} {ss = ss} x rest) = ap (λ y. best_from (k + 1) y ss) (best_step k b x) ∙ best_same (k + 1) (greater_of k (read_holding f) b) rest

pub best_seen : (k : ℕ) (b : Option Ranked) (ss : List StoreFound) (fs : List Finding) → AreSeenAs ss fs → best_from k (ranked_of b) ss ≡ ranked_of (greatest_pair_from k b (map read_holding fs))
best_seen k b ss fs seen = best_same k b seen

-- the best log stands at its place, or it is the one before
pub record StandsAt (fs : List Finding) (k : ℕ) (r : Ranked) : Type 0 where
  pub place : ℕ
  pub tables : List TableDef
  pub number : r.node ≡ k + place
  pub there : slice_get fs place ≡ Some (WholeLog r.has tables)

behind : (f : Finding) (fs : List Finding) (k : ℕ) (r : Ranked) → StandsAt fs (k + 1) r → StandsAt (f ∷ fs) k r
behind f fs k r s = let number : r.node ≡ (k + 1) + s.place = s.number in record { place = suc s.place; tables = s.tables; number = (let n : r.node ≡ k + suc s.place = omega arith in n); there = s.there }

some_is : {A : Type 0} (x y : A) → Some x ≡ Some y → x ≡ y
some_is x y e = cc

later : (k : ℕ) (b : Option Ranked) (f : Finding) (fs : List Finding) (r : Ranked) → (b ≡ Some r) ⊎ StandsAt fs (k + 1) r → (b ≡ Some r) ⊎ StandsAt (f ∷ fs) k r
later k b f fs r (inl x) = inl x
later k b f fs r (inr s) = inr (behind f fs k r s)

best_stands : (k : ℕ) (b : Option Ranked) (fs : List Finding) (r : Ranked) → greatest_pair_from k b (map read_holding fs) ≡ Some r → (b ≡ Some r) ⊎ StandsAt fs k r
best_stands k b [] r e = inl e
best_stands k b (FailedRead has sound ∷ fs) r e = later k b (FailedRead has sound) fs r (best_stands (k + 1) b fs r e)
best_stands k b (BadFrame at ∷ fs) r e = later k b (BadFrame at) fs r (best_stands (k + 1) b fs r e)
best_stands k b (NotSound ∷ fs) r e = later k b NotSound fs r (best_stands (k + 1) b fs r e)
best_stands k b (WholeLog has tables ∷ fs) r e = here (best_stands (k + 1) (greater_of k (Some has) b) fs r e)
  where
    chosen : (o : Option Ranked) → greater_of k (Some has) b ≡ o → o ≡ Some r → (b ≡ Some r) ⊎ StandsAt (WholeLog has tables ∷ fs) k r
    chosen o is e = pick b e is
      where
        this : Some (holding_ranked k has) ≡ Some r → StandsAt (WholeLog has tables ∷ fs) k r
        this same =
            let r_is : holding_ranked k has ≡ r = some_is (holding_ranked k has) r same in
            let n : k ≡ r.node = ap (λ (x : Ranked). x.node) r_is in
            record { place = 0; tables = tables; number = (let m : r.node ≡ k + 0 = omega arith in m); there = ap (λ (x : Ranked). Some (WholeLog x.has tables)) r_is }

        pick : (c : Option Ranked) → o ≡ Some r → greater_of k (Some has) c ≡ o → (c ≡ Some r) ⊎ StandsAt (WholeLog has tables ∷ fs) k r
        pick None e is = inr (this (is ∙ e))
        pick (Some c) e is = split (outranks has c.has) refl
          where
            split : (t : Bool) → outranks has c.has ≡ t → (Some c ≡ Some r) ⊎ StandsAt (WholeLog has tables ∷ fs) k r
            split true is_true = inr (this (subst (λ (t : Bool). (if t then Some (holding_ranked k has) else Some c) ≡ Some r) is_true (is ∙ e)))
            split false is_false = inl (subst (λ (t : Bool). (if t then Some (holding_ranked k has) else Some c) ≡ Some r) is_false (is ∙ e))

    here : (greater_of k (Some has) b ≡ Some r) ⊎ StandsAt fs (k + 1) r → (b ≡ Some r) ⊎ StandsAt (WholeLog has tables ∷ fs) k r
    here (inl x) = chosen (greater_of k (Some has) b) refl x
    here (inr s) = inr (behind (WholeLog has tables) fs k r s)

tables_there : (fs : List Finding) (j : ℕ) (has : Holding) (tables : List TableDef) → slice_get fs j ≡ Some (WholeLog has tables) → tables_at fs (suc j) ≡ tables
tables_there [] j has tables e = absurd (let no_such : None ≡ Some (WholeLog has tables) = e in cc)
tables_there (f ∷ fs) zero has tables e =
    let same : f ≡ WholeLog has tables = some_is f (WholeLog has tables) e in
    subst (λ (g : Finding). tables_at (g ∷ fs) (suc zero) ≡ tables) (sym same) refl
tables_there (FailedRead h sound ∷ fs) (suc j) has tables e = tables_there fs j has tables e
tables_there (BadFrame at ∷ fs) (suc j) has tables e = tables_there fs j has tables e
tables_there (NotSound ∷ fs) (suc j) has tables e = tables_there fs j has tables e
tables_there (WholeLog h others ∷ fs) (suc j) has tables e = tables_there fs j has tables e

-- a log that a report knows was read
pub record WasSeen (ss : List StoreFound) (j : ℕ) (has : Holding) (tables : List TableDef) : Type 0 where
  pub log : ReadLog
  pub there : slice_get ss j ≡ Some (store.Whole log)
  pub seen : IsSeenLog log has tables

log_seen : {s : StoreFound} {f : Finding} (has : Holding) (tables : List TableDef) → IsSeenAs s f → f ≡ WholeLog has tables → (log : ReadLog) × (s ≡ store.Whole log) × IsSeenLog log has tables
log_seen has tables (seen_failed {has = h} {sound = sound}) e = absurd (let no_such : FailedRead h sound ≡ WholeLog has tables = e in cc)
log_seen has tables (seen_bad {at = at}) e = absurd (let no_such : BadFrame at ≡ WholeLog has tables = e in cc)
log_seen has tables seen_unsound e = absurd (let no_such : NotSound ≡ WholeLog has tables = e in cc)
log_seen has tables (seen_whole {r = r} {has = h} {tables = ts} log) e =
    let same_has : h ≡ has = whole_has h has ts tables e in
    let same_tables : ts ≡ tables = whole_tables h has ts tables e in
    (r, refl, subst (λ x. IsSeenLog r has x) same_tables (subst (λ x. IsSeenLog r x ts) same_has log))
  where
    whole_has : (h k : Holding) (t u : List TableDef) → WholeLog h t ≡ WholeLog k u → h ≡ k
    whole_has h k t u e = cc

    whole_tables : (h k : Holding) (t u : List TableDef) → WholeLog h t ≡ WholeLog k u → t ≡ u
    whole_tables h k t u e = cc

seen_at : {ss : List StoreFound} {fs : List Finding} (j : ℕ) (has : Holding) (tables : List TableDef) → AreSeenAs ss fs → slice_get fs j ≡ Some (WholeLog has tables) → WasSeen ss j has tables
seen_at j has tables seen_none e = absurd (let no_such : None ≡ Some (WholeLog has tables) = e in cc)
seen_at zero has tables (seen_more {f = f} x rest) e =
    let l = log_seen has tables x (some_is f (WholeLog has tables) e) in
    record { log = l.0; there = ap Some l.1; seen = l.2 }
seen_at (suc j) has tables (seen_more x rest) e = let t = seen_at j has tables rest e in record { log = t.log; there = t.there; seen = t.seen }

seen_there : (ss : List StoreFound) (fs : List Finding) (j : ℕ) (has : Holding) (tables : List TableDef) → AreSeenAs ss fs → slice_get fs j ≡ Some (WholeLog has tables) → WasSeen ss j has tables
seen_there ss fs j has tables seen e = seen_at j has tables seen e

-- the best log of a report, and the tables that were read of it
pub record BestHas (ss : List StoreFound) (fs : List Finding) (r : Ranked) : Type 0 where
  pub tables : ((best_tables_of ss ≡ None) × (length r.has.log ≡ 0)) ⊎ ((best_tables_of ss ≡ Some (tables_at fs r.node)) × (1 ≤ length r.has.log))

pub best_none : (ss : List StoreFound) (fs : List Finding) → AreSeenAs ss fs → best_log fs ≡ None → best_tables_of ss ≡ None
best_none ss fs seen none = ap (λ b. tables_found ss b) (best_seen 1 None ss fs seen ∙ ap ranked_of none)

pub best_has : (ss : List StoreFound) (fs : List Finding) (r : Ranked) → AreSeenAs ss fs → best_log fs ≡ Some r → BestHas ss fs r
best_has ss fs r seen is = go (best_stands 1 None fs r is)
  where
    none_some : None ≡ Some r → ⊥
    none_some e = let no_such : None ≡ Some r = e in cc

    found : best_tables_of ss ≡ tables_read (slice_get ss (r.node - 1))
    found = ap (λ b. tables_found ss b) (best_seen 1 None ss fs seen ∙ ap ranked_of is)

    at_place : (s : StandsAt fs 1 r) → BestHas ss fs r
    at_place s =
        let number : r.node ≡ 1 + s.place = s.number in
        let node_is : r.node ≡ suc s.place = omega arith in
        let place_is : r.node - 1 ≡ s.place = omega arith in
        let t = seen_there ss fs s.place r.has s.tables seen s.there in
        let read : best_tables_of ss ≡ t.log.tables = found ∙ (ap (λ j. tables_read (slice_get ss j)) place_is ∙ ap tables_read t.there) in
        let tables_is : tables_at fs r.node ≡ s.tables = ap (λ j. tables_at fs j) node_is ∙ tables_there fs s.place r.has s.tables s.there in
        let had : length r.has.log ≡ t.log.length = t.seen.had in
        which t.log.tables t.log.length t.seen.tables_are read tables_is had
      where
        which : (o : Option (List TableDef)) (l : ℕ) → ((o ≡ None) × (l ≡ 0)) ⊎ ((o ≡ Some s.tables) × (1 ≤ l)) → best_tables_of ss ≡ o → tables_at fs r.node ≡ s.tables → length r.has.log ≡ l → BestHas ss fs r
        which o l (inl (n, z)) read tables_is had = record { tables = inl (read ∙ n, had ∙ z) }
        which o l (inr (t, some)) read tables_is had = record { tables = inr (read ∙ (t ∙ ap Some (sym tables_is)), subst (λ k. 1 ≤ k) (sym had) some) }

    go : (None ≡ Some r) ⊎ StandsAt fs 1 r → BestHas ss fs r
    go (inl e) = absurd (none_some e)
    go (inr s) = at_place s
