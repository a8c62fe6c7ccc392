-- What was found of stores are findings of reports.
use Rattle.std.proofs.Common.{◌≡◌, ◌⊎◌, inl, inr, ℕ, suc, ◌+◌, ◌≤◌, true, List, [], ◌∷◌, length, Option, Some, None, refl, sym, subst, ap, ◌∙◌, arith}
use Rattle.cdb_values.specs.declared.tables.TableDef.{TableDef}
use Rattle.kept_log.specs.Kept.{OverStore}
use Rattle.log_replay.specs.Answers.{schema_of}
use Rattle.log_rows.specs.History.{tables_of}
use Rattle.phys_log.specs.declared.entries.Entry.{Entry}
use Rattle.play_order.specs.Openings.{Finding}
use Rattle.play_order.specs.Openings.Finding.{BadFrame, FailedRead, NotSound, WholeLog}
use Rattle.play_order.specs.Peers.{Holding}
use Rattle.sound_log.specs.Sound.{IsSound}
use Rattle.node_openings.specs.declared.found.StoreFound.{StoreFound}
use Rattle.node_openings.specs.declared.found.StoreFound.TheVariants as store
use Rattle.node_openings.specs.Found.{AreFound, IsFoundAs}
use Rattle.node_openings.specs.Found.AreFound.{found_none, found_more}
use Rattle.node_openings.specs.Findings.{AreFindings, AreSeenAs, IsFinding, IsSeenAs, told_entries}
use Rattle.node_openings.specs.Findings.AreFindings.{findings_none, findings_more}
use Rattle.node_openings.specs.Findings.AreSeenAs.{seen_none, seen_more}
use Rattle.node_openings.specs.Findings.IsSeenAs.{seen_failed, seen_bad, seen_unsound, seen_whole}

-- an entry is a line
pub told_size : (k : ℕ) (es : List Entry) → length (told_entries k es) ≡ length es
told_size k [] = refl
told_size k (e ∷ es) = ap suc (told_size (k + 1) es)

-- a sound log has tables exactly where it has entries
pub has_tables : (a : ℕ) (es : List Entry) → IsSound a es → ((schema_of es ≡ None) × (length es ≡ 0)) ⊎ ((schema_of es ≡ Some (tables_of es)) × (1 ≤ length es))
has_tables a [] s = inl (refl, refl)
has_tables a (e ∷ es) (inl none) = absurd (let no_such : e ∷ es ≡ [] = none in cc)
has_tables a (e ∷ es) (inr h) = inr (h.setup, (let n : length (e ∷ es) ≡ suc (length es) = refl in omega arith))

pub tables_seen : (o : Option (List TableDef)) (l a : ℕ) (es : List Entry) → IsSound a es → o ≡ schema_of es → l ≡ length es
    → ((o ≡ None) × (l ≡ 0)) ⊎ ((o ≡ Some (tables_of es)) × (1 ≤ l))
tables_seen o l a es s schema had = go (has_tables a es s)
  where
    go : ((schema_of es ≡ None) × (length es ≡ 0)) ⊎ ((schema_of es ≡ Some (tables_of es)) × (1 ≤ length es)) → ((o ≡ None) × (l ≡ 0)) ⊎ ((o ≡ Some (tables_of es)) × (1 ≤ l))
    go (inl (none, empty)) = inl (schema ∙ none, had ∙ empty)
    go (inr (some, more)) = inr (schema ∙ some, subst (λ k. 1 ≤ k) (sym had) more)

-- how a report tells a log
abbrev pub holding_of : ℕ → ℕ → List Entry → Holding
holding_of p a es = record { promised = p; accepted = a; log = told_entries 1 es }

-- a finding of a store
pub record HasFinding (s : StoreFound) (old new : OverStore) : Type 0 where
  pub finding : Finding
  pub is : IsFinding finding old new
  pub seen : IsSeenAs s finding

abbrev pub finding_of : (s : StoreFound) (old new : OverStore) → IsFoundAs s old new → HasFinding s old new
finding_of store.Failed old new rose = record { finding = FailedRead (holding_of 0 0 []) true; is = rose; seen = seen_failed }
finding_of (store.Bad at) old new bad = record { finding = BadFrame at; is = bad; seen = seen_bad }
finding_of store.NotSound old new unsound = record { finding = NotSound; is = unsound; seen = seen_unsound }
finding_of (store.Whole r) old new x =
    record {
      finding = WholeLog (holding_of r.promised r.accepted x.0.was.entries) (tables_of x.0.was.entries);
      is = (record { entries = x.0.was.entries; stood = x.0.was.stood; sound = x.0.was.good.sound; told = refl; tables_are = refl }, x.1);
      seen = seen_whole (record {
        promise = refl;
        acceptance = refl;
        had = told_size 1 x.0.was.entries ∙ sym x.0.had;
        tables_are = tables_seen r.tables r.length r.accepted x.0.was.entries x.0.was.good.sound x.0.schema x.0.had;
      });
    }

pub record HaveFindings (ss : List StoreFound) (olds news : List OverStore) : Type 0 where
  pub findings : List Finding
  pub are : AreFindings findings olds news
  pub seen : AreSeenAs ss findings

pub findings_of : {ss : List StoreFound} {olds news : List OverStore} → AreFound ss olds news → HaveFindings ss olds news
findings_of found_none = record { findings = []; are = findings_none; seen = seen_none }
findings_of (found_more {f = f} {o = o} {n = n} x xs) =
    let h = finding_of f o n x in
    let t = findings_of xs in
    record { findings = h.finding ∷ t.findings; are = findings_more h.is t.are; seen = seen_more h.seen t.seen }

pub there_are_findings : (ss : List StoreFound) (olds news : List OverStore) → AreFound ss olds news → (fs : List Finding) × AreFindings fs olds news × AreSeenAs ss fs
there_are_findings ss olds news found = let h = findings_of found in (h.findings, h.are, h.seen)
