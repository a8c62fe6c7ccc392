-- What a session asks at its commit is what it sends.
use Rattle.std.proofs.Common.{ℕ, ◌≡◌, List, [], ◌∷◌, ◌++◌, map, refl, sym, subst, ap, ◌∙◌}
use Rattle.std.specs.Prelude.{Some}
use Rattle.cdb_values.specs.Changes.{taken_by}
use Rattle.cdb_values.specs.declared.rows.Change.{Change}
use Rattle.cdb_values.specs.declared.rows.Level.{Level}
use Rattle.cdb_values.specs.declared.rows.Level.TheVariants.{Serializable, Snapshot}
use Rattle.cdb_values.specs.declared.rows.RowOp.{RowOp}
use Rattle.cluster_answers.proofs.AskLaws.{none_some}
use Rattle.cluster_answers.proofs.ToldLaws.{some_eq}
use Rattle.cluster_consensus.specs.Facts.{World}
use Rattle.cluster_decisions.specs.Requested.{IsOfSent}
use Rattle.cluster_events.specs.Parts.{Opened, Part}
use Rattle.cluster_events.specs.Settings.{Setting, run_alone}
use Rattle.cluster_requests.specs.KeptEntries.{KeptEntry}
use Rattle.cluster_steps.specs.Named.{rows_begun, sent_of}
use Rattle.osql_session.proofs.TouchedLemmas.{used_once}
use Rattle.osql_session.specs.Requests.{request_if, request_of, request_with}
use Rattle.osql_session.specs.Sessions.{Session}
use Rattle.phys_log.specs.declared.entries.CommitId.{CommitId}
use Rattle.phys_log.specs.declared.requests.CommitRequest.{CommitRequest}
use Rattle.report_laws.specs.Work.{Transaction}
use Rattle.session_language.specs.Language.{Answered, CommitText, alone}
use Rattle.session_language.specs.Touched.{TheRange, TheVersion, first_used, ranges_at, ranges_used, used_at, versions_used}
use Rattle.session_requests.specs.Asks.{IsSessionOf}
use Rattle.session_standing.specs.Standing.{IsOpenAt}
use Rattle.session_standing.proofs.LineLaws.{commit_at}
use Rattle.session_turns.specs.Views.{IsOf}
use Rattle.session_work.specs.Seats.{answered_at}

-- an identity is its parts
id_is : (a : CommitId) (b : ℕ) (n : List ℕ) (k : ℕ) → a.began ≡ b → a.session ≡ n → a.txn ≡ k → a ≡ record { began = b; session = n; txn = k }
id_is a b n k p q r =
    let f : ℕ → CommitId = λ z. record { began = z; session = a.session; txn = a.txn } in
    let g : List ℕ → CommitId = λ z. record { began = b; session = z; txn = a.txn } in
    let h : ℕ → CommitId = λ z. record { began = b; session = n; txn = z } in
    ap f p ∙ (ap g q ∙ ap h r)

-- a session whose texts so far are all those of its transaction
pub of_texts : (G : Setting) (w : World KeptEntry) (i : ℕ) (t : Transaction) (o : Opened) (texts : List (List ℕ)) (s : Session) → t.texts ≡ texts → IsOf o.gen (G.names i) t.number t.level s → s.begin ≡ o.begin
    → s.ops ≡ (answered_at G w o texts).ops → s.genids ≡ (answered_at G w o texts).uses → s.ranges ≡ (answered_at G w o texts).ranges → IsSessionOf G w i t o s
of_texts G w i t o texts s all its begin ops uses ranges = record {
  id = id_is s.id o.gen (G.names i) t.number its.began its.session its.txn;
  begin = begin;
  level = its.level;
  ops = ops ∙ ap (λ z. (alone G.language G.tables (rows_begun G w o) z).ops) (sym all);
  genids = uses ∙ ap (λ z. (alone G.language G.tables (rows_begun G w o) z).uses) (sym all);
  ranges = ranges ∙ ap (λ z. (alone G.language G.tables (rows_begun G w o) z).ranges) (sym all);
}

-- so it is at a commit
pub at_commit : (G : Setting) (w : World KeptEntry) (p : Part) (i number : ℕ) (level : Level) (texts : List (List ℕ)) (text : List ℕ) (rest : List (List ℕ)) (s : Session) (at : IsOpenAt G w p number level texts (text ∷ rest) s.begin s.ops s.genids s.ranges)
    → G.language.kind text ≡ CommitText → IsOf at.start.gen (G.names i) number level s → IsSessionOf G w i at.txn at.start s
at_commit G w p i number level texts text rest s at is its =
    let e = (commit_at G w p number level texts text rest s.begin s.ops s.genids s.ranges at is).0 in
    let its_number : at.txn.number ≡ number = ap (λ (t : Transaction). t.number) e in
    let its_level : at.txn.level ≡ level = ap (λ (t : Transaction). t.level) e in
    of_texts G w i at.txn at.start texts s (ap (λ (t : Transaction). t.texts) e)
    (record { began = its.began; session = its.session; txn = its.txn ∙ sym its_number; level = its.level ∙ sym its_level })
    at.begin_is at.ops_are at.uses_are at.ranges_are

same_ranges : (level : Level) (a : Answered) → ranges_at level a.ranges ≡ ranges_used level a
same_ranges Snapshot a = refl
same_ranges Serializable a = refl

its_request : (s : Session) (ops : List RowOp) (request : CommitRequest) → request_if s ops ≡ Some request → request ≡ request_with s ops
its_request s [] request is = none_some is
its_request s (op ∷ ops) request is = sym (some_eq is)

-- and its request says what is sent
pub says : (G : Setting) (w : World KeptEntry) (i master gen : ℕ) (t : Transaction) (o : Opened) (s : Session) (request : CommitRequest) → IsSessionOf G w i t o s → request_of s ≡ Some request → IsOfSent G (sent_of G w i master gen t o) request
says G w i master gen t o s request of asked = subst (λ r. IsOfSent G (sent_of G w i master gen t o) r) (sym (its_request s s.ops request asked)) said
  where
    used : (changes : List Change) → first_used G.tables changes (map TheVersion (request_with s s.ops).genids ++ map TheRange (ranges_at s.level s.ranges)) ≡ first_used G.tables changes (used_at t.level (run_alone G (rows_begun G w o) t))
    used changes =
        used_once G.tables changes (taken_by s.ops ++ s.genids) (ranges_at s.level s.ranges)
        ∙ (ap (λ z. first_used G.tables changes (map TheVersion (taken_by z ++ s.genids) ++ map TheRange (ranges_at s.level s.ranges))) of.ops
        ∙ (ap (λ z. first_used G.tables changes (map TheVersion (taken_by (run_alone G (rows_begun G w o) t).ops ++ z) ++ map TheRange (ranges_at s.level s.ranges))) of.genids
        ∙ (ap (λ z. first_used G.tables changes (map TheVersion (versions_used (run_alone G (rows_begun G w o) t)) ++ map TheRange (ranges_at z s.ranges))) of.level
        ∙ (ap (λ z. first_used G.tables changes (map TheVersion (versions_used (run_alone G (rows_begun G w o) t)) ++ map TheRange (ranges_at t.level z))) of.ranges
        ∙ ap (λ z. first_used G.tables changes (map TheVersion (versions_used (run_alone G (rows_begun G w o) t)) ++ map TheRange z)) (same_ranges t.level (run_alone G (rows_begun G w o) t))))))

    said : IsOfSent G (sent_of G w i master gen t o) (request_with s s.ops)
    said = record { its_id = of.id; its_begin = of.begin; its_level = of.level; its_ops = of.ops; its_used = used }
