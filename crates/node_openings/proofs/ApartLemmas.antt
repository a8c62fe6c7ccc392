-- What was found of stores is all that they can be found to be.
use Rattle.std.proofs.Common.{◌≡◌, ◌⊎◌, inl, inr, ℕ, ◌^◌, ◌<◌, ◌≤◌, List, length, Some, None, sym, subst, ap, ◌∙◌, arith}
use Rattle.cdb_outside.specs.Faults.{Rose, last_count}
use Rattle.cdb_values.specs.declared.tables.TableDef.{TableDef}
use Rattle.kept_log.specs.Kept.{OverStore}
use Rattle.log_rows.specs.History.{tables_of}
use Rattle.node_reading.specs.Reading.{WasUnsound}
use Rattle.phys_log.specs.declared.entries.Entry.{Entry}
use Rattle.play_order.specs.Openings.{Finding}
use Rattle.play_order.specs.Openings.Finding.{BadFrame, FailedRead, NotSound, WholeLog}
use Rattle.play_order.specs.Peers.{Holding}
use Rattle.sound_log.specs.Sound.{IsSound}
use Rattle.store_log.specs.declared.standings.Standing.{Standing}
use Rattle.store_log.specs.declared.standings.Standing.TheVariants as standing
use Rattle.store_log.specs.Held.{StandsFor}
use Rattle.store_log.proofs.HeldLaws.{one_standing}
use Rattle.node_openings.specs.declared.found.ReadLog.{ReadLog}
use Rattle.node_openings.specs.declared.found.StoreFound.{StoreFound}
use Rattle.node_openings.specs.declared.found.StoreFound.TheVariants as store
use Rattle.node_openings.specs.Found.{AreFound, IsBadAt, IsFoundAs}
use Rattle.node_openings.specs.Found.AreFound.{found_none, found_more}
use Rattle.node_openings.specs.Findings.{AreFindings, AreSeenAs, AreTold, IsFinding, IsSeenAs, IsSeenLog, StoodForWhole}
use Rattle.node_openings.specs.Findings.AreFindings.{findings_none, findings_more}
use Rattle.node_openings.specs.Findings.AreSeenAs.{seen_none, seen_more}
use Rattle.node_openings.specs.Findings.AreTold.{told_more}
use Rattle.node_openings.specs.Findings.IsSeenAs.{seen_failed, seen_bad, seen_unsound, seen_whole}
use Rattle.node_openings.proofs.FoundLemmas.{tables_seen, told_size}

-- the bytes stand for one thing
one_of : (o : OverStore) (r s : Standing) → o.node < 256 → o.cluster < 2 ^ 128 → StandsFor o.node o.cluster o.synced r → StandsFor o.node o.cluster o.synced s → r ≡ s
one_of o r s node cluster a b = one_standing o.node o.cluster o.synced r s node cluster a b

bad_log : {T : Type 0} (at p a : ℕ) (es : List Entry) → standing.Bad at ≡ standing.Log p a es → T
bad_log at p a es e = absurd (let no_such : standing.Bad at ≡ standing.Log p a es = e in cc)

foreign_log : {T : Type 0} (p a : ℕ) (es : List Entry) → standing.Foreign ≡ standing.Log p a es → T
foreign_log p a es e = absurd (let no_such : standing.Foreign ≡ standing.Log p a es = e in cc)

bad_foreign : {T : Type 0} (at : ℕ) → standing.Bad at ≡ standing.Foreign → T
bad_foreign at e = absurd (let no_such : standing.Bad at ≡ standing.Foreign = e in cc)

same_place : (at b : ℕ) → standing.Bad at ≡ standing.Bad b → at ≡ b
same_place at b e = cc

same_promise : (p q a b : ℕ) (es fs : List Entry) → standing.Log p a es ≡ standing.Log q b fs → p ≡ q
same_promise p q a b es fs e = cc

same_acceptance : (p q a b : ℕ) (es fs : List Entry) → standing.Log p a es ≡ standing.Log q b fs → a ≡ b
same_acceptance p q a b es fs e = cc

same_entries : (p q a b : ℕ) (es fs : List Entry) → standing.Log p a es ≡ standing.Log q b fs → es ≡ fs
same_entries p q a b es fs e = cc

-- a store that is bad has no log
bad_no_log : {T : Type 0} (o : OverStore) (at p a : ℕ) (es : List Entry) → o.node < 256 → o.cluster < 2 ^ 128 → IsBadAt o at → StandsFor o.node o.cluster o.synced (standing.Log p a es) → T
bad_no_log o at p a es node cluster (inl bad) log = bad_log at p a es (one_of o (standing.Bad at) (standing.Log p a es) node cluster bad log)
bad_no_log o at p a es node cluster (inr (foreign, zero)) log = foreign_log p a es (one_of o standing.Foreign (standing.Log p a es) node cluster foreign log)

bad_once : (o : OverStore) (at b : ℕ) → o.node < 256 → o.cluster < 2 ^ 128 → IsBadAt o at → IsBadAt o b → at ≡ b
bad_once o at b node cluster (inl x) (inl y) = same_place at b (one_of o (standing.Bad at) (standing.Bad b) node cluster x y)
bad_once o at b node cluster (inl x) (inr (y, zero)) = bad_foreign at (one_of o (standing.Bad at) standing.Foreign node cluster x y)
bad_once o at b node cluster (inr (x, zero)) (inl y) = bad_foreign b (one_of o (standing.Bad b) standing.Foreign node cluster y x)
bad_once o at b node cluster (inr (x, zero)) (inr (y, none)) = zero ∙ sym none

-- a count that rose is not as it was, where it may rise
rose_not : {T : Type 0} (before now : ℕ) → before < last_count → Rose before now → now ≡ before → T
rose_not before now room (inl more) same = absurd (let m : before < now = more in omega arith)
rose_not before now room (inr last) same = absurd (let l : now ≡ last_count = last in omega arith)

whole_seen : (r : ReadLog) (o n : OverStore) (has : Holding) (tables : List TableDef) → o.node < 256 → o.cluster < 2 ^ 128 → (x : IsFoundAs (store.Whole r) o n) → StoodForWhole o has tables → IsSeenLog r has tables
whole_seen r o n has tables node cluster x w =
    let e = one_of o (standing.Log has.promised has.accepted w.entries) (standing.Log r.promised r.accepted x.0.was.entries) node cluster w.stood x.0.was.stood in
    let same : w.entries ≡ x.0.was.entries = same_entries has.promised r.promised has.accepted r.accepted w.entries x.0.was.entries e in
    record {
      promise = same_promise has.promised r.promised has.accepted r.accepted w.entries x.0.was.entries e;
      acceptance = same_acceptance has.promised r.promised has.accepted r.accepted w.entries x.0.was.entries e;
      had = ap length w.told ∙ (told_size 1 w.entries ∙ (ap length same ∙ sym x.0.had));
      tables_are = subst (λ ts. ((r.tables ≡ None) × (r.length ≡ 0)) ⊎ ((r.tables ≡ Some ts) × (1 ≤ r.length))) (ap tables_of (sym same) ∙ sym w.tables_are) (tables_seen r.tables r.length r.accepted x.0.was.entries x.0.was.good.sound x.0.schema x.0.had);
    }

-- a log is sound or not
unsound_not : {T : Type 0} (o : OverStore) (p a : ℕ) (es : List Entry) → o.node < 256 → o.cluster < 2 ^ 128 → WasUnsound o.node o.cluster o.synced → StandsFor o.node o.cluster o.synced (standing.Log p a es) → IsSound a es → T
unsound_not o p a es node cluster u stood sound =
    let e = one_of o (standing.Log p a es) (standing.Log u.promised u.accepted u.entries) node cluster stood u.stood in
    let entries = same_entries p u.promised a u.accepted es u.entries e in
    let accepted = same_acceptance p u.promised a u.accepted es u.entries e in
    absurd (u.unsound (subst (λ l. IsSound u.accepted l) entries (subst (λ g. IsSound g es) accepted sound)))

bad_unsound : {T : Type 0} (o : OverStore) (at : ℕ) → o.node < 256 → o.cluster < 2 ^ 128 → IsBadAt o at → WasUnsound o.node o.cluster o.synced → T
bad_unsound o at node cluster bad u = bad_no_log o at u.promised u.accepted u.entries node cluster bad u.stood

one_seen : (s : StoreFound) (f : Finding) (o n : OverStore) → o.node < 256 → o.cluster < 2 ^ 128 → o.faults < last_count → IsFoundAs s o n → IsFinding f o n → IsSeenAs s f
one_seen store.Failed (FailedRead has sound) o n node cluster room x y = seen_failed
one_seen store.Failed (BadFrame at) o n node cluster room x y = rose_not o.faults n.faults room x y.1
one_seen store.Failed NotSound o n node cluster room x y = rose_not o.faults n.faults room x y.1
one_seen store.Failed (WholeLog has tables) o n node cluster room x y = rose_not o.faults n.faults room x y.1
one_seen (store.Bad at) (FailedRead has sound) o n node cluster room x y = rose_not o.faults n.faults room y x.1
one_seen (store.Bad at) (BadFrame b) o n node cluster room x y = subst (λ k. IsSeenAs (store.Bad at) (BadFrame k)) (bad_once o at b node cluster x.0 y.0) seen_bad
one_seen (store.Bad at) NotSound o n node cluster room x y = bad_unsound o at node cluster x.0 y.0
one_seen (store.Bad at) (WholeLog has tables) o n node cluster room x y = bad_no_log o at has.promised has.accepted y.0.entries node cluster x.0 y.0.stood
one_seen store.NotSound (FailedRead has sound) o n node cluster room x y = rose_not o.faults n.faults room y x.1
one_seen store.NotSound (BadFrame at) o n node cluster room x y = bad_unsound o at node cluster y.0 x.0
one_seen store.NotSound NotSound o n node cluster room x y = seen_unsound
one_seen store.NotSound (WholeLog has tables) o n node cluster room x y = unsound_not o has.promised has.accepted y.0.entries node cluster x.0 y.0.stood y.0.sound
one_seen (store.Whole r) (FailedRead has sound) o n node cluster room x y = rose_not o.faults n.faults room y x.1
one_seen (store.Whole r) (BadFrame at) o n node cluster room x y = bad_no_log o at r.promised r.accepted x.0.was.entries node cluster y.0 x.0.was.stood
one_seen (store.Whole r) NotSound o n node cluster room x y = unsound_not o r.promised r.accepted x.0.was.entries node cluster y.0 x.0.was.stood x.0.was.good.sound
one_seen (store.Whole r) (WholeLog has tables) o n node cluster room x y = seen_whole (whole_seen r o n has tables node cluster x y.0)

seen_of : {ss : List StoreFound} {fs : List Finding} {olds news : List OverStore} → AreTold olds → AreFound ss olds news → AreFindings fs olds news → AreSeenAs ss fs
seen_of t found_none findings_none = seen_none
seen_of (told_more node cluster room t) (found_more {f = s} {o = o} {n = n} x xs) (findings_more {f = f} y ys) = seen_more (one_seen s f o n node cluster room x y) (seen_of t xs ys)

pub all_seen : (ss : List StoreFound) (fs : List Finding) (olds news : List OverStore) → AreTold olds → AreFound ss olds news → AreFindings fs olds news → AreSeenAs ss fs
all_seen ss fs olds news t found findings = seen_of t found findings
