-- The rows that the trees list are the state for which the pages stand.
use Rattle.std.proofs.Common.{◌≡◌, ℕ, suc, ◌+◌, ◌^◌, ◌<◌, List, [], ◌∷◌, ◌++◌, take, drop, length, Option, None, Some, unwrap_or, refl, sym, ap, ◌∙◌, subst, arith}
use Rattle.std.proofs.Common.{Result, Ok, Err}
use Rattle.std.specs.Result.{IfOk, MatchResult, IsErrAnd}
use Rattle.std.specs.Option.{MatchOption}
use Rattle.std.specs.List.{AllByRecursion, slice_get}
use Rattle.btree_index.proofs.FindLemmas.{ok_through}
use Rattle.page_store.specs.Image.{Image}
use Rattle.cdb_values.specs.Good.{AllFit, IsGood}
use Rattle.cdb_values.specs.Rows.{Rows, versions_of}
use Rattle.cdb_values.specs.declared.rows.Version.{Version}
use Rattle.cdb_values.specs.declared.tables.TableDef.{TableDef}
use Rattle.cdb_values.specs.declared.tables.KeyDef.{KeyDef}
use Rattle.tree_walk.specs.declared.walks.Walked.{Walked}
use Rattle.table_store.specs.Forests.{Pair, AreTrees}
use Rattle.table_store.specs.Plans.{Planned, key_trees, plan_from}
use Rattle.table_store.specs.Listings.{Lists, AreLists}
use Rattle.table_store.specs.States.{AreVersions}
use Rattle.table_store.specs.Stored.{Stands}
use Rattle.table_state.specs.declared.forests.Found.{Found}
use Rattle.table_state.specs.Grown.{list_of, lists_of}
use Rattle.table_state.specs.Found.{HasForest, HasNoForest, IsRead}
use Rattle.table_state.specs.Listed.{AllClimb, AreKeyLists, AreTables}
use Rattle.table_state.specs.States.{HasState}
use Rattle.table_state.proofs.TableLaws.{fitting_rise, fitting_coded, fitting_fits, fitting_from, from_zero, drop_lists, drop_climb}
use Rattle.table_state.proofs.OrderLaws.{rows_list, list_rows}

-- the lists of keys, and those of the tables behind
keys_join : (rows : Rows) (place : ℕ) (vs : List Version) (plan : List Planned) (keys : List KeyDef) (lists : List (List Pair)) → versions_of rows place ≡ vs
    → AreKeyLists keys vs (take (length keys) lists) → AreLists rows plan (drop (length keys) lists) → AreLists rows (key_trees place keys ++ plan) lists
keys_join rows place vs plan [] lists e k h = h
keys_join rows place vs plan (key ∷ keys) [] e k h = absurd k
keys_join rows place vs plan (key ∷ keys) (l ∷ ls) e k h =
    (subst (λ (x : List Version). Lists (Some key) x l) (sym e) k.0, keys_join rows place vs plan keys ls e k.1 h)

keys_part : (rows : Rows) (place : ℕ) (vs : List Version) (plan : List Planned) (keys : List KeyDef) (lists : List (List Pair)) → versions_of rows place ≡ vs
    → AreLists rows (key_trees place keys ++ plan) lists → AreKeyLists keys vs (take (length keys) lists) × AreLists rows plan (drop (length keys) lists)
keys_part rows place vs plan [] lists e h = (tt, h)
keys_part rows place vs plan (key ∷ keys) [] e h = absurd h
keys_part rows place vs plan (key ∷ keys) (l ∷ ls) e h =
    let p = keys_part rows place vs plan keys ls e h.1 in ((subst (λ (x : List Version). Lists (Some key) x l) e h.0, p.0), p.1)

-- the versions of these tables are at their places
abbrev AreAt : Rows → ℕ → List (List Version) → Type 0
AreAt rows place all = (n k : ℕ) → k ≡ place + n → versions_of rows k ≡ unwrap_or (slice_get all n) []

tables_listed : (rows : Rows) (next place : ℕ) (tables : List TableDef) (lists : List (List Pair)) (all : List (List Version)) → AreAt rows place all
    → AreTables next tables lists all → AreLists rows (plan_from place tables) lists
tables_listed rows next place [] [] [] at h = tt
tables_listed rows next place [] [] (vs ∷ all) at h = absurd h
tables_listed rows next place [] (l ∷ ls) all at h = absurd h
tables_listed rows next place (t ∷ ts) [] all at h = absurd h
tables_listed rows next place (t ∷ ts) (l ∷ ls) [] at h = absurd h
tables_listed rows next place (t ∷ ts) (l ∷ ls) (vs ∷ all) at h =
    let here : versions_of rows place ≡ vs = at 0 place (omega arith) in (
      subst (λ (x : List Version). Lists None x l) (sym here) (list_rows l vs h.0.rows),
      keys_join rows place vs (plan_from (suc place) ts) t.keys ls here h.0.keys
          (tables_listed rows next (suc place) ts (drop (length t.keys) ls) all (λ n k e. at (suc n) k (omega arith)) h.1),
    )

tables_long : (next : ℕ) (tables : List TableDef) (lists : List (List Pair)) (all : List (List Version)) → AreTables next tables lists all → length all ≡ length tables
tables_long next [] [] [] h = refl
tables_long next [] [] (vs ∷ all) h = absurd h
tables_long next [] (l ∷ ls) all h = absurd h
tables_long next (t ∷ ts) [] all h = absurd h
tables_long next (t ∷ ts) (l ∷ ls) [] h = absurd h
tables_long next (t ∷ ts) (l ∷ ls) (vs ∷ all) h = ap (λ (n : ℕ). suc n) (tables_long next ts (drop (length t.keys) ls) all h.1)

tables_versions : (next : ℕ) (tables : List TableDef) (lists : List (List Pair)) (all : List (List Version)) → AreTables next tables lists all
    → AllByRecursion (AreVersions next) all
tables_versions next [] [] [] h = tt
tables_versions next [] [] (vs ∷ all) h = absurd h
tables_versions next [] (l ∷ ls) all h = absurd h
tables_versions next (t ∷ ts) [] all h = absurd h
tables_versions next (t ∷ ts) (l ∷ ls) [] h = absurd h
tables_versions next (t ∷ ts) (l ∷ ls) (vs ∷ all) h = (
  record { rise = fitting_rise t 0 next vs h.0.fitting; coded = fitting_coded t 0 next vs h.0.fitting },
  tables_versions next ts (drop (length t.keys) ls) all h.1,
)

tables_fit : (next : ℕ) (tables : List TableDef) (lists : List (List Pair)) (all : List (List Version)) → AreTables next tables lists all → AllFit tables all
tables_fit next [] [] [] h = tt
tables_fit next [] [] (vs ∷ all) h = absurd h
tables_fit next [] (l ∷ ls) all h = absurd h
tables_fit next (t ∷ ts) [] all h = absurd h
tables_fit next (t ∷ ts) (l ∷ ls) [] h = absurd h
tables_fit next (t ∷ ts) (l ∷ ls) (vs ∷ all) h = (fitting_fits t 0 next vs h.0.fitting, tables_fit next ts (drop (length t.keys) ls) all h.1)

-- what was read is what the pages stand for
pub read_stands : (pages : ℕ → Image) (tables : List TableDef) (found : Found) (rows : Rows) → HasForest pages (length (plan_from 0 tables)) found
    → IsRead found tables rows → Stands pages tables rows
read_stands pages tables found rows h r =
    let small : found.next < 2 ^ 62 = h.next_small in
    let next : rows.next ≡ found.next = r.next_is in
    record {
      owns = _;
      free = found.free.items;
      lists = lists_of found.trees.items;
      forest = h.forest;
      listed = tables_listed rows found.next 0 tables (lists_of found.trees.items) rows.tables (λ n k e. (let same : k ≡ n = omega (arith, e) in ap (λ (m : ℕ). versions_of rows m) same)) r.are;
      genid = sym h.next ∙ sym next;
      state = record {
        tables_are = tables_long found.next tables (lists_of found.trees.items) rows.tables r.are;
        next = omega (arith, small, next);
        versions = subst (λ (n : ℕ). AllByRecursion (AreVersions n) rows.tables) (sym next) (tables_versions found.next tables (lists_of found.trees.items) rows.tables r.are);
      };
    }

pub read_fits : (tables : List TableDef) (found : Found) (rows : Rows) → IsRead found tables rows → AllFit tables rows.tables
read_fits tables found rows r = tables_fit found.next tables (lists_of found.trees.items) rows.tables r.are

-- and what the pages stand for is what can be read
tables_told : (rows : Rows) (next place : ℕ) (tables : List TableDef) (trees : List Walked) (all : List (List Version)) → next < 2 ^ 62 → AllClimb trees → AreAt rows place all
    → AreLists rows (plan_from place tables) (lists_of trees) → AllByRecursion (AreVersions next) all → AllFit tables all → AreTables next tables (lists_of trees) all
tables_told rows next place [] [] [] small climb at h v f = tt
tables_told rows next place [] (x ∷ xs) all small climb at h v f = absurd h
tables_told rows next place [] [] (vs ∷ all) small climb at h v f = absurd f
tables_told rows next place (t ∷ ts) [] all small climb at h v f = absurd h
tables_told rows next place (t ∷ ts) (x ∷ xs) [] small climb at h v f = absurd f
tables_told rows next place (t ∷ ts) (x ∷ xs) (vs ∷ all) small climb at h v f =
    let here : versions_of rows place ≡ vs = at 0 place (omega arith) in
    let p = keys_part rows place vs (plan_from (suc place) ts) t.keys (lists_of xs) here h.1 in
    let listed : Lists None vs (list_of x) = subst (λ (l : List Version). Lists None l (list_of x)) here h.0 in
    let later : AreTables next ts (lists_of (drop (length t.keys) xs)) all =
    tables_told rows next (suc place) ts (drop (length t.keys) xs) all small (drop_climb (length t.keys) xs (drop (length t.keys) xs) refl climb.1)
    (λ n k e. at (suc n) k (omega arith))
    (subst (λ (l : List (List Pair)). AreLists rows (plan_from (suc place) ts) l) (drop_lists (length t.keys) xs) p.1) v.1 f.1 in (
      record {
        fitting = fitting_from t 0 next vs (from_zero vs) v.0.rise v.0.coded f.0;
        rows = rows_list x.cells.items next vs climb.0 listed (omega (arith, small)) v.0.rise;
        keys = p.0;
      },
      subst (λ (l : List (List Pair)). AreTables next ts l all) (sym (drop_lists (length t.keys) xs)) later,
    )

lists_long : (rows : Rows) (plan : List Planned) (lists : List (List Pair)) → AreLists rows plan lists → length lists ≡ length plan
lists_long rows [] [] h = refl
lists_long rows [] (l ∷ ls) h = absurd h
lists_long rows (p ∷ ps) [] h = absurd h
lists_long rows (p ∷ ps) (l ∷ ls) h = ap (λ (n : ℕ). suc n) (lists_long rows ps ls h.1)

-- no state stands where no forest does
pub state_unfound : (pages : ℕ → Image) (tables : List TableDef) → HasNoForest pages (length (plan_from 0 tables)) → (rows : Rows) → HasState pages tables rows → ⊥
state_unfound pages tables none rows s =
    none s.stands.owns s.stands.free s.stands.lists (lists_long rows (plan_from 0 tables) s.stands.lists s.stands.listed) s.stands.forest
    (subst (λ (n : ℕ). n < 2 ^ 62) (sym s.stands.genid) s.next) s.count

trees_long : (trees : List Walked) → length (lists_of trees) ≡ length trees
trees_long [] = refl
trees_long (t ∷ ts) = ap (λ (n : ℕ). suc n) (trees_long ts)

-- pages tell the lists of their trees
abbrev pub OneForest : Type 0
OneForest = (pages : ℕ → Image) (root : ℕ) (owns others : List (List ℕ)) (lists more : List (List Pair)) → length lists ≡ length more → AreTrees pages root owns lists
    → AreTrees pages root others more → lists ≡ more

-- none stands where its trees list no versions that the tables may have
pub state_unread : (pages : ℕ → Image) (tables : List TableDef) (found : Found) → OneForest → HasForest pages (length (plan_from 0 tables)) found
    → ((all : List (List Version)) → AreTables found.next tables (lists_of found.trees.items) all → ⊥) → (rows : Rows) → HasState pages tables rows → ⊥
state_unread pages tables found one h none rows s =
    let long : length s.stands.lists ≡ length (lists_of found.trees.items) =
    lists_long rows (plan_from 0 tables) s.stands.lists s.stands.listed ∙ sym h.number ∙ sym (trees_long found.trees.items) in
    let same : s.stands.lists ≡ lists_of found.trees.items = one pages 1 s.stands.owns _ s.stands.lists (lists_of found.trees.items) long s.stands.forest.trees h.forest.trees in
    let next : rows.next ≡ found.next = sym s.stands.genid ∙ sym h.next in
    none rows.tables (tables_told rows found.next 0 tables found.trees.items rows.tables h.next_small h.climb
    (λ n k e. (let equal : k ≡ n = omega (arith, e) in ap (λ (m : ℕ). versions_of rows m) equal))
    (subst (λ (l : List (List Pair)). AreLists rows (plan_from 0 tables) l) same s.stands.listed)
    (subst (λ (n : ℕ). AllByRecursion (AreVersions n) rows.tables) next s.stands.state.versions) s.good.rows_fit)

-- rows that fit, for which pages stand, are a good state
abbrev pub FitsAreGood : Type 0
FitsAreGood = (pages : ℕ → Image) (tables : List TableDef) (rows : Rows) → Stands pages tables rows → AllFit tables rows.tables → IsGood tables rows.tables

-- what was read of the trees that were found
abbrev pub TellsRows : Found → List TableDef → Option Rows → Type 0
TellsRows found tables o =
    MatchOption o ((all : List (List Version)) → AreTables found.next tables (lists_of found.trees.items) all → ⊥) (IsRead found tables)

abbrev pub TellsState : (ℕ → Image) → List TableDef → Option Rows → Type 0
TellsState pages tables o = MatchOption o ((rows : Rows) → HasState pages tables rows → ⊥) (λ rows. HasState pages tables rows)

state_told : (pages : ℕ → Image) (tables : List TableDef) (found : Found) (o : Option Rows) → OneForest → FitsAreGood → HasForest pages (length (plan_from 0 tables)) found
    → TellsRows found tables o → TellsState pages tables o
state_told pages tables found None one good h none = state_unread pages tables found one h none
state_told pages tables found (Some rows) one good h r =
    let stands = read_stands pages tables found rows h r in
    record {
      stands = stands;
      good = good pages tables rows stands (read_fits tables found rows r);
      next = subst (λ (n : ℕ). n < 2 ^ 62) (sym r.next_is) h.next_small;
      count = h.count_small;
    }

pub state_answer : {E F : Type 0} (pages : ℕ → Image) (tables : List TableDef) (found : Found) (first : Result (Option Rows) E) (second : Result (Option Rows) F) (Q : E → F → Type 0)
    → OneForest → FitsAreGood → HasForest pages (length (plan_from 0 tables)) found → MatchResult first (λ x. second ≡ Ok x) (λ e. IsErrAnd second (Q e))
    → IfOk first (TellsRows found tables) → IfOk second (TellsState pages tables)
state_answer pages tables found first second Q one good h same told =
    ok_through first second Q (TellsState pages tables) same (go first told)
  where
    go : {E : Type 0} (r : Result (Option Rows) E) → IfOk r (TellsRows found tables) → IfOk r (TellsState pages tables)
    go (Ok o) t = state_told pages tables found o one good h t
    go (Err e) t = tt
