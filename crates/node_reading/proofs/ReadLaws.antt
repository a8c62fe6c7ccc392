-- What was read may be taken up.
use Rattle.std.proofs.Common.{◌≡◌, ◌⊎◌, inl, inr, ℕ, List, [], ◌∷◌, length, Option, Some, Result, Ok, Err, IfOk, IfErr, OnOk, refl, sym, subst, ap}
use Rattle.std.specs.List.{AllByRecursion}
use mathlib.Core.Logic.{∥∥₁_map}
use Rattle.cdb_values.specs.Rows.{Rows}
use Rattle.cdb_values.specs.declared.tables.TableDef.{TableDef}
use Rattle.phys_log.specs.Logs.{pages_of}
use Rattle.phys_log.specs.declared.entries.Entry.{Entry}
use Rattle.phys_log.specs.declared.entries.Entry.TheVariants as entry
use Rattle.log_replay.specs.Answers.{schema_of}
use Rattle.log_rows.specs.History.{tables_of}
use Rattle.table_store.specs.Stored.{Stands}
use Rattle.sound_log.specs.Identities.{ids_in}
use Rattle.sound_log.specs.Sound.{HasBegunBy, IsSound, IsStateOf}
use Rattle.store_log.specs.declared.opens.OpenFault.{OpenFault}
use Rattle.store_log.specs.declared.opens.OpenFault.TheVariants as fault
use Rattle.store_log.specs.declared.standings.Standing.TheVariants.{Log}
use Rattle.store_log.specs.Held.{StandsFor}
use Rattle.store_log.specs.Opens.{IsLater, IsOpenFault}
use Rattle.kept_log.specs.declared.readings.Reading.{Reading}
use Rattle.kept_log.specs.Kept.{OverStore, StandForAny, StandsStill, kept, stopped_from}
use Rattle.node_reading.specs.declared.readings.Found.{Found}
use Rattle.node_reading.specs.declared.readings.WhyUnread.{WhyUnread}
use Rattle.node_reading.specs.declared.readings.WhyUnread.TheVariants as why
use Rattle.node_reading.specs.Reading.{HasSoundRows, IsBegunBy, IsJudged, IsWhyUnread, MayBegin, WasFound, WasRead, unread_for}
use Rattle.node_reading.proofs.RightLemmas.{stands_right}

all_begun : (a : ℕ) (es : List Entry) → AllByRecursion (HasBegunBy a) (ids_in es) → AllByRecursion (IsBegunBy a) es
all_begun a [] all = tt
all_begun a (entry.Setup generation schema records ∷ es) all = (tt, all_begun a es all)
all_begun a (entry.Commit generation id begin level changes records ∷ es) all = (all.0, all_begun a es all.1)

begun_of : (a : ℕ) (es : List Entry) → IsSound a es → AllByRecursion (IsBegunBy a) es
begun_of a es (inl none) = subst (λ (l : List Entry). AllByRecursion (IsBegunBy a) l) (sym none) tt
begun_of a es (inr h) = all_begun a es h.begun

pages_are : (a : ℕ) (es : List Entry) (rows : Rows) → IsSound a es → IsStateOf es rows → (es ≡ []) ⊎ ((schema_of es ≡ Some (tables_of es)) × Stands (pages_of es) (tables_of es) rows)
pages_are a es rows (inl none) s = inl none
pages_are a es rows (inr h) (inl none) = inl none
pages_are a es rows (inr h) (inr s) = inr (h.setup, s.stands)

may_begin : (node cluster : ℕ) (bytes : List ℕ) (p a : ℕ) (es : List Entry) (rows : Rows) → StandsFor node cluster bytes (Log p a es) → HasSoundRows a es rows → MayBegin p a es rows
may_begin node cluster bytes p a es rows stood good =
    let right = stands_right node cluster bytes p a es stood in
    record { below = right.0; logged = right.1; pages = pages_are a es rows good.sound good.state; begun = begun_of a es good.sound }

was_read : (old new : OverStore) (p a : ℕ) (es : List Entry) (rows : Rows) → new ≡ stopped_from old new.synced new.faults → StandsFor old.node old.cluster old.synced (Log p a es)
    → StandsStill old.node old.cluster old.synced new.synced → HasSoundRows a es rows → WasRead old new p a rows
was_read old new p a es rows same stood still good =
    let one : ∥ StandForAny old.node old.cluster new.synced (kept p a es ∷ []) ∥₁ = ∥∥₁_map (still (Log p a es) stood) (λ x. inl x) in
    record {
      entries = es;
      stood = stood;
      holds = subst (λ k. ∥ StandForAny k new.cluster new.synced (kept p a es ∷ []) ∥₁) (sym (ap (λ (x : OverStore). x.node) same))
          (subst (λ k. ∥ StandForAny old.node k new.synced (kept p a es ∷ []) ∥₁) (sym (ap (λ (x : OverStore). x.cluster) same)) one);
      good = good;
      may = may_begin old.node old.cluster old.synced p a es rows stood good;
    }

pub found_is : (told : Result Found WhyUnread) (old new : OverStore) (r : Reading) → new ≡ stopped_from old new.synced new.faults
    → StandsFor old.node old.cluster old.synced (Log r.promised r.accepted r.entries) → StandsStill old.node old.cluster old.synced new.synced
    → IfOk told (λ f. f.promised ≡ r.promised) → IfOk told (λ f. f.accepted ≡ r.accepted) → IfOk told (λ f. HasSoundRows r.accepted r.entries f.state)
    → IfOk told (λ f. WasRead old new f.promised f.accepted f.state)
found_is (Ok f) old new r same stood still p a good =
    subst (λ k. WasRead old new k f.accepted f.state) (sym p) (subst (λ k. WasRead old new r.promised k f.state) (sym a) (was_read old new r.promised r.accepted r.entries f.state same stood still good))
found_is (Err w) old new r same stood still p a good = tt

-- with its length and its tables
was_found : (old new : OverStore) (p a size : ℕ) (tables : Option (List TableDef)) (es : List Entry) (rows : Rows) → new ≡ stopped_from old new.synced new.faults
    → StandsFor old.node old.cluster old.synced (Log p a es) → StandsStill old.node old.cluster old.synced new.synced → HasSoundRows a es rows
    → size ≡ length es → tables ≡ schema_of es → WasFound old new p a size tables rows
unfolding was_read
was_found old new p a size tables es rows same stood still good had schema =
    record { was = was_read old new p a es rows same stood still good; had = had; schema = schema }

pub log_is : (told : Result Found WhyUnread) (old new : OverStore) (r : Reading) → new ≡ stopped_from old new.synced new.faults
    → StandsFor old.node old.cluster old.synced (Log r.promised r.accepted r.entries) → StandsStill old.node old.cluster old.synced new.synced
    → IfOk told (λ f. f.promised ≡ r.promised) → IfOk told (λ f. f.accepted ≡ r.accepted) → IfOk told (λ f. f.length ≡ length r.entries) → IfOk told (λ f. f.tables ≡ schema_of r.entries)
    → IfOk told (λ f. HasSoundRows r.accepted r.entries f.state) → IfOk told (λ f. WasFound old new f.promised f.accepted f.length f.tables f.state)
log_is (Ok f) old new r same stood still p a had schema good =
    subst (λ k. WasFound old new k f.accepted f.length f.tables f.state) (sym p) (subst (λ k. WasFound old new r.promised k f.length f.tables f.state) (sym a) (was_found old new r.promised r.accepted f.length f.tables r.entries f.state same stood still good had schema))
log_is (Err w) old new r same stood still p a had schema good = tt

pub calm_is : (told : Result Found WhyUnread) (P : Type 0) → P → OnOk told P
calm_is (Ok f) P p = p
calm_is (Err w) P p = tt

judged_is : (w : WhyUnread) (old new : OverStore) (r : Reading) → StandsFor old.node old.cluster old.synced (Log r.promised r.accepted r.entries) → new.faults ≡ old.faults
    → IsJudged w r.accepted r.entries → IsWhyUnread w old.node old.cluster old.synced old.faults new.faults
judged_is why.StoreFault old new r stood calm told = absurd told
judged_is (why.Corrupt at) old new r stood calm told = absurd told
judged_is why.Unsound old new r stood calm told = (record { promised = r.promised; accepted = r.accepted; entries = r.entries; stood = stood; unsound = told }, calm)
judged_is why.NoMemory old new r stood calm told = calm

pub judged_why : (told : Result Found WhyUnread) (old new : OverStore) (r : Reading) → StandsFor old.node old.cluster old.synced (Log r.promised r.accepted r.entries) → new.faults ≡ old.faults
    → IfErr told (λ w. IsJudged w r.accepted r.entries) → IfErr told (λ w. IsWhyUnread w old.node old.cluster old.synced old.faults new.faults)
judged_why (Ok f) old new r stood calm why = tt
judged_why (Err w) old new r stood calm why = judged_is w old new r stood calm why

opened_why : (w : OpenFault) (node cluster : ℕ) (bytes : List ℕ) (before now : ℕ) → IsOpenFault w node cluster bytes before now → IsLater w before now → IsWhyUnread (unread_for w) node cluster bytes before now
opened_why (fault.StoreFault read) node cluster bytes before now x l = x
opened_why fault.Foreign node cluster bytes before now x l = (inr (x, refl), l)
opened_why (fault.Corrupt at) node cluster bytes before now x l = (inl x, l)
opened_why fault.NoMemory node cluster bytes before now x l = l

pub unread_why : (w : OpenFault) (told : WhyUnread) (node cluster : ℕ) (bytes : List ℕ) (before now : ℕ) → told ≡ unread_for w → IsOpenFault w node cluster bytes before now → IsLater w before now
    → IsWhyUnread told node cluster bytes before now
unread_why w told node cluster bytes before now e x l = subst (λ (t : WhyUnread). IsWhyUnread t node cluster bytes before now) (sym e) (opened_why w node cluster bytes before now x l)
