-- From a durable adopted log on, pages stand for the rows that the entries make, at each position.
use Rattle.std.proofs.Common.{ℕ, ◌≡◌, ◌+◌, ◌<◌, ◌≤◌, List, [], ◌∷◌, ◌++◌, length, take, drop, map, arith, refl, sym, subst, ap, ◌∙◌, length-append}
use Rattle.std.specs.Prelude.{zero, suc}
use Rattle.std.proofs.lemmas.List.{length-map}
use mathlib.Core.Logic.{◌⊎◌, inl, inr}
use Rattle.cluster_consensus.specs.Durable.{DurableIn}
use Rattle.cluster_consensus.specs.Facts.{Claim, World}
use Rattle.cluster_consensus.specs.Histories.{after}
use Rattle.cluster_core.specs.Kept.{IsMade, ground_of}
use Rattle.cluster_core.proofs.MadeLaws.{all_made}
use Rattle.cluster_core.proofs.PageLaws.{all_leave}
use Rattle.cdb_values.specs.Rows.{Rows, no_rows}
use Rattle.cluster_events.specs.Settings.{Setting}
use Rattle.cluster_events.proofs.LineLists.{append_assoc, append_nil}
use Rattle.cluster_events.proofs.HistoryLaws.{steps as core_steps}
use Rattle.cluster_masters.proofs.BehindLaws.{behind_base}
use Rattle.cluster_masters.proofs.WholeLogs.{wholes, fronts}
use Rattle.cluster_requests.specs.KeptEntries.{KeptEntry, plain, rows_behind, state_from, state_of}
use Rattle.cluster_steps.specs.Guards.{ArePages, PagesStand, AreLegalSteps}
use Rattle.cluster_steps.specs.Named.{steps, world}
use Rattle.cluster_steps.specs.declared.events.Event.{Event}
use Rattle.cluster_steps.proofs.StepLaws.{core_legal, world_is}
use Rattle.core_lists.specs.Fronts.{Front}
use Rattle.core_lists.specs.Fronts.Front.{front_nil, front_cons}
use Rattle.core_lists.proofs.Fronts.{front_take, front_trans, front_append, front_shorter, take_length}
use Rattle.core_lists.specs.Lists.{In}
use Rattle.log_rows.specs.History.{Ground, rows_from, rows_over, rows_over_at, rows_after, tables_of, StandsOver}
use Rattle.phys_log.specs.Logs.{pages_of, page_at}
use Rattle.phys_log.specs.declared.entries.Entry.{Entry}
use Rattle.table_store.specs.Stored.{Stands}

pub state_last : (r : Rows) (l : List KeptEntry) (e : KeptEntry) → state_from r (l ++ e ∷ []) ≡ rows_behind e
state_last r [] e = refl
state_last r (x ∷ l) e = state_last (rows_behind x) l e

-- entries that are kept with what they make
made_from : (l ys : List KeptEntry) → ((zs : List KeptEntry) (e : KeptEntry) → Front (zs ++ e ∷ []) (l ++ ys) → length l ≤ length zs → IsMade 0 zs e) → rows_from (state_of l) (map plain ys) ≡ state_of (l ++ ys)
made_from l [] made = ap (λ z. state_of z) (sym (append_nil l))
made_from l (y ∷ ys) made =
    let q : (l ++ y ∷ []) ++ ys ≡ l ++ y ∷ ys = append_assoc l (y ∷ []) ys in
    let n = length-append l (y ∷ []) in
    let here : IsMade 0 l y = made l y (subst (λ t. Front (l ++ y ∷ []) t) q (front_append (l ++ y ∷ []) ys)) (omega arith) in
    let rest = made_from (l ++ y ∷ []) ys (λ zs e p long. (let long' : length (l ++ y ∷ []) ≤ length zs = long in made zs e (subst (λ t. Front (zs ++ e ∷ []) t) q p) (omega arith))) in
    ap (λ r. rows_from r (map plain ys)) (sym here ∙ sym (state_last (no_rows []) l y)) ∙ (rest ∙ ap (λ z. state_of z) q)

split_front : {A : Type 0} {xs ys : List A} → Front xs ys → (zs : List A) × (ys ≡ xs ++ zs)
split_front {ys = ys} front_nil = (ys, refl)
split_front (front_cons {x = x} p) = let r = split_front p in (r.0, ap (λ t. x ∷ t) r.1)

drop_all : {A B : Type 0} (f : A → B) (xs ys : List A) → drop (length xs) (map f (xs ++ ys)) ≡ map f ys
drop_all f [] ys = refl
drop_all f (x ∷ xs) ys = drop_all f xs ys

-- the rows of a log over its ground
pub over_ground : (l c : List KeptEntry) → Front l c → ((zs : List KeptEntry) (e : KeptEntry) → Front (zs ++ e ∷ []) c → length l ≤ length zs → IsMade 0 zs e) → rows_over (ground_of l) (map plain c) ≡ state_of c
over_ground l c p made =
    let s = split_front p in
    ap (λ z. rows_from (state_of l) (drop (length l) (map plain z))) s.1
    ∙ (ap (λ z. rows_from (state_of l) z) (drop_all plain l s.0)
    ∙ (made_from l s.0 (subst (λ t. (zs : List KeptEntry) (e : KeptEntry) → Front (zs ++ e ∷ []) t → length l ≤ length zs → IsMade 0 zs e) s.1 made)
    ∙ ap (λ z. state_of z) (sym s.1)))

take_map : {A B : Type 0} (f : A → B) (k : ℕ) (xs : List A) → take k (map f xs) ≡ map f (take k xs)
take_map f zero xs = refl
take_map f (suc k) [] = refl
take_map f (suc k) (x ∷ xs) = ap (λ t. f x ∷ t) (take_map f k xs)

-- what is behind an adopted log that is durable in its generation
pub behind_it : (G : Setting) (h : List (ℕ × Event)) → AreLegalSteps G h → (m k : ℕ) (a c : Claim KeptEntry) → In a ((world G h).nodes m).leads → DurableIn G.nodes (world G h) a.gen a.log
    → In c ((world G h).nodes k).accepts → a.gen ≤ c.gen → Front a.log c.log × ((zs : List KeptEntry) (e : KeptEntry) → Front (zs ++ e ∷ []) c.log → length a.log ≤ length zs → IsMade 0 zs e)
behind_it G h l m k a c ha dur hc low =
    let q = world_is G h in
    let b = behind_base IsMade G.nodes k m (core_steps (steps G h)) a c (core_legal G h l) (all_made G h)
    (subst (λ (w : World KeptEntry). In a (w.nodes m).leads) q ha) (subst (λ w. DurableIn G.nodes w a.gen a.log) q dur) (subst (λ (w : World KeptEntry). In c (w.nodes k).accepts) q hc) low in
    (b.0, λ zs e p long. (b.1 zs e p long).rule)

same_tables : (k : ℕ) (es : List Entry) → 1 ≤ k → tables_of (take k es) ≡ tables_of es
same_tables zero es one = absurd (omega arith)
same_tables (suc k) [] one = refl
same_tables (suc k) (e ∷ es) one = refl

-- pages that stand, at a position of the log
stands_at : (l c xs : List KeptEntry) (j : ℕ) → xs ≡ take j c → 1 ≤ j → rows_over (ground_of l) (map plain xs) ≡ state_of xs → ArePages xs
    → Stands (page_at (map plain c) j) (tables_of (map plain c)) (rows_over_at (ground_of l) (map plain c) j)
stands_at l c xs j e one rows are =
    let q : map plain xs ≡ take j (map plain c) = ap (λ z. map plain z) e ∙ sym (take_map plain j c) in
    let t : tables_of (map plain xs) ≡ tables_of (map plain c) = ap (λ z. tables_of z) q ∙ same_tables j (map plain c) one in
    let s : Stands (pages_of (map plain xs)) (tables_of (map plain c)) (rows_over (ground_of l) (map plain xs)) = subst (λ r. Stands (pages_of (map plain xs)) (tables_of (map plain c)) r) (sym rows) (subst (λ z. Stands (pages_of (map plain xs)) z (state_of xs)) t are.stand) in
    subst (λ z. Stands (pages_of z) (tables_of (map plain c)) (rows_over (ground_of l) z)) q s

pub stand_from : (G : Setting) (h : List (ℕ × Event)) → AreLegalSteps G h → (m k : ℕ) (a c : Claim KeptEntry) → In a ((world G h).nodes m).leads → DurableIn G.nodes (world G h) a.gen a.log
    → In c ((world G h).nodes k).accepts → a.gen ≤ c.gen → StandsOver (ground_of a.log) (tables_of (map plain c.log)) (map plain c.log)
stand_from G h l m k a c ha dur hc low j from le = go pages
  where
    le' : j ≤ length c.log
    le' = let n = length-map c.log plain in omega (arith, n, le)

    long : length a.log ≤ j
    long = from.1

    size : j ≤ length (take j c.log)
    size = take_length j c.log le'

    begins : Front a.log c.log × ((zs : List KeptEntry) (e : KeptEntry) → Front (zs ++ e ∷ []) c.log → length a.log ≤ length zs → IsMade 0 zs e)
    begins = behind_it G h l m k a c ha dur hc low

    pages : PagesStand (take j c.log)
    pages =
        let q = world_is G h in
        fronts PagesStand G.nodes (core_steps (steps G h)) (inl refl) (core_legal G h l) (all_leave G h l) m a
        (subst (λ (w : World KeptEntry). In a (w.nodes m).leads) q ha) (subst (λ w. DurableIn G.nodes w a.gen a.log) q dur) k c (subst (λ (w : World KeptEntry). In c (w.nodes k).accepts) q hc) low (take j c.log) (front_take j c.log) (omega (arith, long, size))

    rows : rows_over (ground_of a.log) (map plain (take j c.log)) ≡ state_of (take j c.log)
    rows = over_ground a.log (take j c.log) (front_shorter begins.0 (front_take j c.log) (omega (arith, long, size))) (λ zs e p far. begins.1 zs e (front_trans p (front_take j c.log)) far)

    go : PagesStand (take j c.log) → Stands (page_at (map plain c.log) j) (tables_of (map plain c.log)) (rows_over_at (ground_of a.log) (map plain c.log) j)
    go (inl none) = absurd (let z : length (take j c.log) ≡ 0 = ap (λ t. length t) none in let o : 1 ≤ j = from.0 in omega (arith, size))
    go (inr are) = stands_at a.log c.log (take j c.log) j refl from.0 rows are

-- the pages of the log of each node
pub node_stands : (G : Setting) (h : List (ℕ × Event)) → AreLegalSteps G h → (k : ℕ) → PagesStand ((world G h).nodes k).log
node_stands G h l k =
    subst (λ (w : World KeptEntry). PagesStand (w.nodes k).log) (sym (world_is G h)) (wholes PagesStand G.nodes (core_steps (steps G h)) (inl refl) (core_legal G h l) (all_leave G h l) k).own
