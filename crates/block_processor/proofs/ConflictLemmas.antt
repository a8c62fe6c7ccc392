-- The first conflict, entry by entry, and what is not touched where there is none.
use Rattle.std.proofs.Common.{◌≡◌, ℕ, ◌+◌, ◌-◌, ◌<◌, ◌≤◌, ◌==◌, ◌&&◌, ◌||◌, inl, inr, Bool, true, false, if◌then◌else◌, List, [], ◌∷◌, refl, sym, ◌∙◌, ap, arith, length, drop}
use Rattle.std.proofs.Math.ListN.{length-drop}
use Rattle.std.proofs.lemmas.Bool.{eq-eqb, false≢true}
use Rattle.std.proofs.lemmas.Option.{none-some}
use Rattle.std.specs.Prelude.{Option, Some, None}
use Rattle.std.specs.List.{AllByRecursion}
use Rattle.cdb_values.specs.Changes.{genids_taken}
use Rattle.cdb_values.specs.declared.items.GenidItem.{GenidItem}
use Rattle.cdb_values.specs.declared.items.Interval.{Interval}
use Rattle.cdb_values.specs.declared.items.Item.{Item}
use Rattle.cdb_values.specs.declared.items.Item.TheVariants.{Genid}
use Rattle.cdb_values.specs.declared.rows.Change.{Change}
use Rattle.cdb_values.specs.declared.rows.Level.{Level}
use Rattle.cdb_values.specs.declared.rows.Level.TheVariants.{Snapshot}
use Rattle.cdb_values.specs.declared.tables.TableDef.{TableDef}
use Rattle.phys_log.specs.declared.entries.Entry.{Entry}
use Rattle.phys_log.specs.declared.entries.Entry.TheVariants.{Setup, Commit}
use Rattle.phys_log.specs.declared.requests.CommitRequest.{CommitRequest}
use Rattle.range_validate.specs.Touches.{changes_in, first_item, first_range, first_touch_from, first_touch_of, or_range, touch_or_later}
use Rattle.range_validate.specs.declared.touches.Touch.{Touch}
use Rattle.session_language.specs.Touched.{first_touched, is_same_item, is_touched, ranges_at}
use Rattle.table_store.specs.Listings.{IsAmong}
use Rattle.log_rows.specs.History.{takes_of, takes_in, tables_of, IsUntaken}
use Rattle.log_rows.proofs.HistoryLemmas.{takes_behind}
use Rattle.block_processor.specs.Conflicts.{conflict_of, conflict_since, found_behind, ranges_of}
use Rattle.block_processor.specs.Versions.{Touched, first_conflict, found_by, version_or_later}

takes_changes : (e : Entry) → genids_taken (changes_in e) ≡ takes_of e
takes_changes (Setup generation schema records) = refl
takes_changes (Commit generation id begin level changes records) = refl

-- a touch is told by its position, and none where there is none
pub touch_is_conflict : (tables : List TableDef) (begin : ℕ) (entries since : List Entry) (genids : List GenidItem) (ranges : List Interval) (t : Touch)
    → since ≡ drop begin entries → begin ≤ length entries → first_touch_of tables since genids ranges ≡ Some t
    → Some (record { position = length entries - length since + t.place + 1; item = t.item }) ≡ conflict_since tables begin entries genids ranges
touch_is_conflict tables begin entries since genids ranges t behind within is =
    let long : length (drop begin entries) ≡ length entries - begin = length-drop begin entries in
    let same : length since ≡ length (drop begin entries) = ap length behind in
    let position : length entries - length since + t.place + 1 ≡ begin + t.place + 1 = omega (arith, long, same, within) in
    let found : first_touch_of tables (drop begin entries) genids ranges ≡ Some t = ap (λ (l : List Entry). first_touch_of tables l genids ranges) (sym behind) ∙ is in
    ap (λ (n : ℕ). Some (record { position = n; item = t.item })) position ∙ sym (ap (found_behind begin) found)

pub no_touch_is_none : (tables : List TableDef) (begin : ℕ) (entries : List Entry) (genids : List GenidItem) (ranges : List Interval)
    → first_touch_of tables (drop begin entries) genids ranges ≡ None → conflict_since tables begin entries genids ranges ≡ None
no_touch_is_none tables begin entries genids ranges is = ap (found_behind begin) is

-- a touch stands among the entries that were looked at
here_place : (place : ℕ) (item : Item) (later : Option Touch) (t : Touch) → touch_or_later place (Some item) later ≡ Some t → place ≡ t.place
here_place place item later t is = cc

place_from : (tables : List TableDef) (place : ℕ) (entries : List Entry) (genids : List GenidItem) (ranges : List Interval) (t : Touch)
    → first_touch_from tables place entries genids ranges ≡ Some t → t.place < place + length entries
place_from tables place [] genids ranges t is = absurd (none-some _ is)
place_from tables place (e ∷ es) genids ranges t is = pick (first_item tables (changes_in e) genids ranges) is (place_from tables (place + 1) es genids ranges t)
  where
    pick : (here : Option Item) → touch_or_later place here (first_touch_from tables (place + 1) es genids ranges) ≡ Some t
        → (first_touch_from tables (place + 1) es genids ranges ≡ Some t → t.place < place + 1 + length es) → t.place < place + length (e ∷ es)
    pick None found more = omega (arith, more found)
    pick (Some item) found more = omega (arith, here_place place item (first_touch_from tables (place + 1) es genids ranges) t found)

pub touch_is_within : (tables : List TableDef) (entries : List Entry) (genids : List GenidItem) (ranges : List Interval) (t : Touch)
    → first_touch_of tables entries genids ranges ≡ Some t → t.place < length entries
touch_is_within tables entries genids ranges t is = omega (arith, place_from tables 0 entries genids ranges t is)

-- without intervals it is the conflict over versions alone
item_alone : (tables : List TableDef) (position place begin : ℕ) (changes : List Change) (used : List GenidItem) (later : Option Touch) (others : Option Touched)
    → begin + place ≡ position → found_behind begin later ≡ found_by others
    → found_behind begin (touch_or_later place (first_item tables changes used []) later) ≡ found_by (version_or_later (position + 1) (first_touched (genids_taken changes) used) others)
item_alone tables position place begin changes used later others same more = pick (first_touched (genids_taken changes) used)
  where
    pick : (found : Option GenidItem) → found_behind begin (touch_or_later place (or_range found None) later) ≡ found_by (version_or_later (position + 1) found others)
    pick None = more
    pick (Some item) = ap (λ (n : ℕ). Some (record { position = n + 1; item = Genid item })) same

touch_alone : (tables : List TableDef) (position place begin : ℕ) (entries : List Entry) (used : List GenidItem) → begin + place ≡ position
    → found_behind begin (first_touch_from tables place entries used []) ≡ found_by (first_conflict position (takes_in entries) used)
touch_alone tables position place begin [] used same = refl
touch_alone tables position place begin (e ∷ es) used same =
    let next : begin + (place + 1) ≡ position + 1 = omega (arith, same) in
    item_alone tables position place begin (changes_in e) used (first_touch_from tables (place + 1) es used []) (first_conflict (position + 1) (takes_in es) used) same
    (touch_alone tables (position + 1) (place + 1) begin es used next)
    ∙ ap (λ (l : List GenidItem). found_by (version_or_later (position + 1) (first_touched l used) (first_conflict (position + 1) (takes_in es) used))) (takes_changes e)

pub conflict_alone : (tables : List TableDef) (begin : ℕ) (entries : List Entry) (used : List GenidItem)
    → conflict_since tables begin entries used [] ≡ found_by (first_conflict begin (drop begin (takes_in entries)) used)
conflict_alone tables begin entries used =
    let same : begin + 0 ≡ begin = omega arith in
    touch_alone tables begin 0 begin (drop begin entries) used same
    ∙ ap (λ (l : List (List GenidItem)). found_by (first_conflict begin l used)) (sym (takes_behind begin entries))

-- so it is of a request for which no interval counts, as at level snapshot
pub conflict_unranged : (request : CommitRequest) (entries : List Entry) → ranges_of request ≡ []
    → conflict_of request entries ≡ found_by (first_conflict request.begin (drop request.begin (takes_in entries)) request.genids)
conflict_unranged request entries none =
    ap (λ (r : List Interval). conflict_since (tables_of entries) request.begin entries request.genids r) none
    ∙ conflict_alone (tables_of entries) request.begin entries request.genids

pub conflict_snapshot : (request : CommitRequest) (entries : List Entry) → request.level ≡ Snapshot
    → conflict_of request entries ≡ found_by (first_conflict request.begin (drop request.begin (takes_in entries)) request.genids)
conflict_snapshot request entries level = conflict_unranged request entries (ap (λ (l : Level). ranges_at l request.ranges) level)

-- where there is no conflict, there is none over the versions alone
no_version : (found : Option GenidItem) (later : Option Item) → or_range found later ≡ None → found ≡ None
no_version None later is = refl
no_version (Some item) later is = absurd (none-some _ (sym is))

no_item : (place : ℕ) (here : Option Item) (later : Option Touch) → touch_or_later place here later ≡ None → here ≡ None
no_item place None later is = refl
no_item place (Some item) later is = absurd (none-some _ (sym is))

no_later : (place : ℕ) (here : Option Item) (later : Option Touch) → touch_or_later place here later ≡ None → later ≡ None
no_later place None later is = is
no_later place (Some item) later is = absurd (none-some _ (sym is))

no_found : (begin : ℕ) (found : Option Touch) → found_behind begin found ≡ None → found ≡ None
no_found begin None is = refl
no_found begin (Some t) is = absurd (none-some _ (sym is))

free_from : (tables : List TableDef) (position place : ℕ) (entries : List Entry) (genids : List GenidItem) (ranges : List Interval)
    → first_touch_from tables place entries genids ranges ≡ None → first_conflict position (takes_in entries) genids ≡ None
free_from tables position place [] genids ranges none = refl
free_from tables position place (e ∷ es) genids ranges none =
    ap (λ (found : Option GenidItem). version_or_later (position + 1) found (first_conflict (position + 1) (takes_in es) genids)) here
    ∙ free_from tables (position + 1) (place + 1) es genids ranges (no_later place (first_item tables (changes_in e) genids ranges) (first_touch_from tables (place + 1) es genids ranges) none)
  where
    here : first_touched (takes_of e) genids ≡ None
    here =
        ap (λ (l : List GenidItem). first_touched l genids) (sym (takes_changes e))
        ∙ no_version (first_touched (genids_taken (changes_in e)) genids) (first_range tables (changes_in e) ranges)
        (no_item place (first_item tables (changes_in e) genids ranges) (first_touch_from tables (place + 1) es genids ranges) none)

pub free_versions : (request : CommitRequest) (entries : List Entry) → conflict_of request entries ≡ None
    → first_conflict request.begin (drop request.begin (takes_in entries)) request.genids ≡ None
free_versions request entries none =
    ap (λ (l : List (List GenidItem)). first_conflict request.begin l request.genids) (takes_behind request.begin entries)
    ∙ free_from (tables_of entries) request.begin 0 (drop request.begin entries) request.genids (ranges_of request)
    (no_found request.begin (first_touch_of (tables_of entries) (drop request.begin entries) request.genids (ranges_of request)) none)

-- a used version that entries do not touch is none of those that they take away
or_none : (position : ℕ) (here : Option GenidItem) (later : Option Touched) → version_or_later position here later ≡ None → here ≡ None
or_none position None later is = refl
or_none position (Some item) later is = absurd (none-some _ (sym is))

or_later_none : (position : ℕ) (here : Option GenidItem) (later : Option Touched) → version_or_later position here later ≡ None → later ≡ None
or_later_none position None later is = is
or_later_none position (Some item) later is = absurd (none-some _ (sym is))

not_touched : (taken used : List GenidItem) (item : GenidItem) → first_touched taken used ≡ None → IsAmong item used → is_touched taken item ≡ false
not_touched taken [] item none i = absurd i
not_touched taken (x ∷ used) item none i = go (is_touched taken x) refl none i (not_touched taken used item)
  where
    go : (t : Bool) → is_touched taken x ≡ t → (if t then Some x else first_touched taken used) ≡ None → IsAmong item (x ∷ used)
        → (first_touched taken used ≡ None → IsAmong item used → is_touched taken item ≡ false) → is_touched taken item ≡ false
    go true e none i more = absurd (none-some x (sym none))
    go false e none (inl same) more = ap (is_touched taken) same ∙ e
    go false e none (inr i) more = more none i

same_item : (a b : GenidItem) → b.table ≡ a.table → b.genid ≡ a.genid → is_same_item a b ≡ true
same_item a b table genid =
    ap (λ (t : Bool). t && (a.genid == b.genid)) (eq-eqb a.table b.table (sym table)) ∙ eq-eqb a.genid b.genid (sym genid)

or_false_left : (a b : Bool) → (a || b) ≡ false → a ≡ false
or_false_left true b h = absurd (false≢true (sym h))
or_false_left false b h = refl

or_false_right : (a b : Bool) → (a || b) ≡ false → b ≡ false
or_false_right true b h = absurd (false≢true (sym h))
or_false_right false b h = h

untaken : (taken : List GenidItem) (item : GenidItem) → is_touched taken item ≡ false → IsUntaken item.table item.genid taken
untaken [] item none = tt
untaken (x ∷ xs) item none = (
  λ table genid. false≢true (sym (or_false_left (is_same_item item x) (is_touched xs item) none) ∙ same_item item x table genid),
  untaken xs item (or_false_right (is_same_item item x) (is_touched xs item) none),
)

pub free_untaken : (position : ℕ) (later : List (List GenidItem)) (used : List GenidItem) (item : GenidItem) → first_conflict position later used ≡ None
    → IsAmong item used → AllByRecursion (IsUntaken item.table item.genid) later
free_untaken position [] used item none i = tt
free_untaken position (taken ∷ later) used item none i =
    let here = or_none (position + 1) (first_touched taken used) (first_conflict (position + 1) later used) none in (
      untaken taken item (not_touched taken used item here i),
      free_untaken (position + 1) later used item (or_later_none (position + 1) (first_touched taken used) (first_conflict (position + 1) later used) none) i,
    )
