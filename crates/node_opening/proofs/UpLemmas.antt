-- A node is up over its store, or down.
use Rattle.std.proofs.Common.{◌≡◌, ◌∙◌, inl, inr, ℕ, ◌<◌, ◌^◌, List, Some, None, ap, length, refl, sym, subst, arith}
use Rattle.cdb_values.specs.declared.tables.TableDef.{TableDef}
use Rattle.store_log.specs.declared.standings.Standing.TheVariants.{Log}
use Rattle.store_log.specs.Held.{StandsFor}
use Rattle.store_log.specs.declared.opens.OpenFault.{OpenFault}
use Rattle.store_log.specs.declared.opens.OpenFault.TheVariants as fault
use Rattle.store_log.specs.Opens as opens
use Rattle.store_log.specs.Opens.{IsOpened, IsOpenFault, StandsAlike, TellsRead}
use Rattle.node_log.specs.Logged.{Logged}
use Rattle.phys_log.specs.declared.entries.Entry.{Entry}
use Rattle.node_opening.specs.declared.up.WhyNotUp.{WhyNotUp}
use Rattle.node_opening.specs.declared.up.WhyNotUp.TheVariants as why
use Rattle.node_opening.specs.Left.{IsLeft, StandsPartway, StopsPartway}
use Rattle.node_opening.specs.Stands.{IsUpFrom}
use Rattle.node_opening.specs.Up.{IsTakenUp}
use Rattle.node_opening.specs.Why.{unopened, HasRisen, IsWhy, IsLater, StopsOn, IsDown, TellsLength}
use Rattle.node_opening.proofs.OpenedLemmas.{opened_alike}

risen_from : (a b c : ℕ) → b ≡ a → HasRisen b c → HasRisen a c
risen_from a b c e h = subst (λ (n : ℕ). HasRisen n c) e h

-- a log that was opened, of a node of a cluster
pub record WasOpened (node cluster : ℕ) (old : List ℕ) (before : ℕ) (l : Logged) : Type 0 where
  pub stands : StandsFor node cluster old (Log l.promised l.accepted l.entries)
  pub opened : IsOpened node cluster old l.store.synced
  pub node_is : l.node ≡ node
  pub cluster_is : l.cluster ≡ cluster
  pub calm : l.store.faults ≡ before

pub taken_up : (node cluster : ℕ) (old : List ℕ) (before : ℕ) (given : List TableDef) (l : Logged) (size : ℕ) (k : Logged)
    → WasOpened node cluster old before l → IsUpFrom l given size k → IsTakenUp node cluster old given size k
taken_up node cluster old before given l size k w u = record {
  old_promise = l.promised;
  old_accepted = l.accepted;
  old_entries = l.entries;
  stood = record { stands = w.stands; good = u.good };
  had = u.had;
  promised = u.begun.promised;
  accepted = u.begun.accepted;
  entries = u.begun.entries;
}

-- a log that was opened, whose node is not up
pub why_of_down : (w : WhyNotUp) (node cluster : ℕ) (old : List ℕ) (before : ℕ) (l : Logged) (given : List TableDef) (new : List ℕ) (now : ℕ)
    → WasOpened node cluster old before l → IsDown w l given new now → IsWhy w node cluster old given before now
why_of_down (why.StoreFault length) node cluster old before l given new now o d = risen_from before l.store.faults now o.calm d.rose
why_of_down (why.Refused at) node cluster old before l given new now o d = absurd d
why_of_down why.Unsound node cluster old before l given new now o d =
    record { promised = l.promised; accepted = l.accepted; entries = l.entries; stood = o.stands; unsound = d.0 }
why_of_down (why.Differs table) node cluster old before l given new now o d =
    record { promised = l.promised; accepted = l.accepted; entries = l.entries; stood = o.stands; other = d.0 }
why_of_down why.NoMemory node cluster old before l given new now o d = tt

-- the length that is told of it, and of a store that was not opened
pub length_of_down : (w : WhyNotUp) (node cluster : ℕ) (old : List ℕ) (before : ℕ) (l : Logged) (given : List TableDef) (new : List ℕ) (now wrote written : ℕ)
    → WasOpened node cluster old before l → IsDown w l given new now → TellsLength w node cluster old given wrote written
length_of_down (why.StoreFault length) node cluster old before l given new now wrote written o d = inr (inl (record {
  promised = l.promised;
  accepted = l.accepted;
  entries = l.entries;
  stood = record { stands = o.stands; good = d.stops.good };
  had = d.had;
}))
length_of_down (why.Refused at) node cluster old before l given new now wrote written o d = tt
length_of_down why.Unsound node cluster old before l given new now wrote written o d = tt
length_of_down (why.Differs table) node cluster old before l given new now wrote written o d = tt
length_of_down why.NoMemory node cluster old before l given new now wrote written o d = tt

length_by : (f : OpenFault) (node cluster : ℕ) (old : List ℕ) (given : List TableDef) (wrote written : ℕ) → TellsRead f node cluster old wrote written
    → TellsLength (unopened f) node cluster old given wrote written
length_by (fault.StoreFault None) node cluster old given wrote written read = inl (refl, read)
length_by (fault.StoreFault (Some size)) node cluster old given wrote written read = inr (inr read)
length_by fault.Foreign node cluster old given wrote written read = tt
length_by (fault.Corrupt at) node cluster old given wrote written read = tt
length_by fault.NoMemory node cluster old given wrote written read = tt

pub length_of_fault : (w : WhyNotUp) (f : OpenFault) (node cluster : ℕ) (old : List ℕ) (given : List TableDef) (wrote written : ℕ) → w ≡ unopened f
    → TellsRead f node cluster old wrote written → TellsLength w node cluster old given wrote written
length_of_fault w f node cluster old given wrote written same read =
    subst (λ (v : WhyNotUp). TellsLength v node cluster old given wrote written) (sym same) (length_by f node cluster old given wrote written read)

same_alike : (node cluster : ℕ) (old mid new : List ℕ) → node < 256 → cluster < 2 ^ 128 → IsOpened node cluster old mid → new ≡ mid → StandsAlike node cluster old new
same_alike node cluster old mid new n c opened same =
    subst (λ (bytes : List ℕ). StandsAlike node cluster old bytes) (sym same) (opened_alike node cluster old mid n c opened)

-- and the log with which it was to stand is the one that was opened
partway : (node cluster : ℕ) (old : List ℕ) (before : ℕ) (l : Logged) (given : List TableDef) (new : List ℕ) → WasOpened node cluster old before l
    → StopsOn l new given → (s : StopsPartway node cluster old new given) × (s.entries ≡ l.entries)
partway node cluster old before l given new o s = (
  record {
    promised = l.promised;
    accepted = l.accepted;
    entries = l.entries;
    stood = record { stands = o.stands; good = s.good };
    stands = subst (λ (n : ℕ). ∥ StandsPartway n cluster new given l.promised l.accepted l.entries ∥₁) o.node_is
        (subst (λ (c : ℕ). ∥ StandsPartway l.node c new given l.promised l.accepted l.entries ∥₁) o.cluster_is s.stands);
  },
  refl,
)

pub left_of_down : (w : WhyNotUp) (node cluster : ℕ) (old : List ℕ) (before : ℕ) (l : Logged) (given : List TableDef) (new : List ℕ) (now : ℕ)
    → node < 256 → cluster < 2 ^ 128 → WasOpened node cluster old before l → IsDown w l given new now → IsLeft w node cluster old new given
left_of_down (why.StoreFault size) node cluster old before l given new now n c o d =
    let s = partway node cluster old before l given new o d.stops in
    inr (record { partway = s.0; had = d.had ∙ ap (λ (es : List Entry). length es) (sym s.1) })
left_of_down (why.Refused at) node cluster old before l given new now n c o d = absurd d
left_of_down why.Unsound node cluster old before l given new now n c o d = same_alike node cluster old l.store.synced new n c o.opened d.1
left_of_down (why.Differs table) node cluster old before l given new now n c o d = same_alike node cluster old l.store.synced new n c o.opened d.1
left_of_down why.NoMemory node cluster old before l given new now n c o (inl same) = inl (same_alike node cluster old l.store.synced new n c o.opened same)
left_of_down why.NoMemory node cluster old before l given new now n c o (inr stops) = inr (partway node cluster old before l given new o stops).0

-- what is told of a store that was not opened, and what is left of it

why_by : (f : OpenFault) (node cluster : ℕ) (old : List ℕ) (given : List TableDef) (before now : ℕ) → IsOpenFault f node cluster old before now
    → IsWhy (unopened f) node cluster old given before now
why_by (fault.StoreFault None) node cluster old given before now rose = record { told = now; rose = rose; later = omega arith }
why_by (fault.StoreFault (Some size)) node cluster old given before now rose = record { told = now; rose = rose; later = omega arith }
why_by fault.Foreign node cluster old given before now is = inr (is, refl)
why_by (fault.Corrupt at) node cluster old given before now is = inl is
why_by fault.NoMemory node cluster old given before now is = tt

pub why_of_fault : (w : WhyNotUp) (f : OpenFault) (node cluster : ℕ) (old : List ℕ) (given : List TableDef) (before now : ℕ) → w ≡ unopened f
    → IsOpenFault f node cluster old before now → IsWhy w node cluster old given before now
why_of_fault w f node cluster old given before now same is =
    subst (λ (v : WhyNotUp). IsWhy v node cluster old given before now) (sym same) (why_by f node cluster old given before now is)

left_by : (f : OpenFault) (node cluster : ℕ) (old new : List ℕ) (given : List TableDef) → StandsAlike node cluster old new
    → IsLeft (unopened f) node cluster old new given
left_by (fault.StoreFault None) node cluster old new given alike = inl alike
left_by (fault.StoreFault (Some size)) node cluster old new given alike = inl alike
left_by fault.Foreign node cluster old new given alike = alike
left_by (fault.Corrupt at) node cluster old new given alike = alike
left_by fault.NoMemory node cluster old new given alike = inl alike

pub left_of_fault : (w : WhyNotUp) (f : OpenFault) (node cluster : ℕ) (old new : List ℕ) (given : List TableDef) → w ≡ unopened f
    → StandsAlike node cluster old new → IsLeft w node cluster old new given
left_of_fault w f node cluster old new given same alike =
    subst (λ (v : WhyNotUp). IsLeft v node cluster old new given) (sym same) (left_by f node cluster old new given alike)

later_by : (f : OpenFault) (before now : ℕ) → opens.IsLater f before now → IsLater (unopened f) before now
later_by (fault.StoreFault None) before now is = tt
later_by (fault.StoreFault (Some size)) before now is = tt
later_by fault.Foreign before now is = is
later_by (fault.Corrupt at) before now is = is
later_by fault.NoMemory before now is = is

pub later_of_fault : (w : WhyNotUp) (f : OpenFault) (before now : ℕ) → w ≡ unopened f → opens.IsLater f before now → IsLater w before now
later_of_fault w f before now same is = subst (λ (v : WhyNotUp). IsLater v before now) (sym same) (later_by f before now is)
