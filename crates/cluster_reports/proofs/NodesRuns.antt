-- The report of a finished history is lawful, with any feeds that fit.
use Rattle.std.proofs.Common.{◌≡◌, ℕ, List, [], ◌∷◌, ◌++◌, length, sym, subst, ◌∙◌}
use Rattle.cluster_consensus.specs.Facts.{Claim}
use Rattle.cluster_events.proofs.HistoryLaws.{Later, pinged_later, pinged_by, legal_rest}
use Rattle.cluster_events.proofs.LineLists.{append_assoc}
use Rattle.cluster_events.specs.Guards.{IsLegalHistory}
use Rattle.cluster_events.specs.Parts.{ActorEvent, field}
use Rattle.cluster_events.specs.Parts.ActorEvent.{Fed}
use Rattle.cluster_events.specs.Settings.{Setting, basis_from, kept_rows_at}
use Rattle.cluster_feeds.proofs.FedLaws.{fed_at, none_answered}
use Rattle.cluster_masters.specs.FirstMaster.{IsFirstMaster, HasNoMaster}
use Rattle.cluster_masters.specs.Reported.{IsReported}
use Rattle.cluster_reports.proofs.LastFeed.{later_since}
use Rattle.cluster_reports.proofs.LawfulRuns as mastered
use Rattle.cluster_reports.proofs.MasterlessRuns as masterless
use Rattle.cluster_reports.proofs.Operating.{lawful_of_nodes}
use Rattle.cluster_reports.specs.Runs.{FitsScript, FollowsScript, IsFinished, IsLawfulWithFeeds}
use Rattle.cluster_requests.specs.KeptEntries.{KeptEntry}
use Rattle.report_laws.specs.History.{view_of}

-- an event of the history was legal, and its facts stay
legal_at : (G : Setting) (H w h : List (ℕ × ActorEvent)) → IsLegalHistory G H → w ++ h ≡ H → IsLegalHistory G h
legal_at G H w h legal e = legal_rest G w h (subst (λ z. IsLegalHistory G z) (sym e) legal)

later_at : (G : Setting) (H w : List (ℕ × ActorEvent)) (x : ℕ × ActorEvent) (h : List (ℕ × ActorEvent)) → IsLegalHistory G H → w ++ x ∷ h ≡ H → Later (field h) (field H)
later_at G H w x h legal e =
    let e' : (w ++ x ∷ []) ++ h ≡ H = append_assoc w (x ∷ []) h ∙ e in
    subst (λ z. Later (field h) (field z)) e' (later_since G (w ++ x ∷ []) h (subst (λ z. IsLegalHistory G z) (sym e') legal))

pub with_master : (G : Setting) (fits : FitsScript G) → FollowsScript G → (H : List (ℕ × ActorEvent)) (legal : IsLegalHistory G H) (done : IsFinished G H) (r m : ℕ) (a : Claim KeptEntry) (top : IsReported G.nodes (field H).core r) (first : IsFirstMaster G.nodes (field H).core m a)
    → IsLawfulWithFeeds (basis_from G (length a.log) (kept_rows_at G ((field H).core.nodes r).log (length a.log))) (mastered.report G fits H legal done.sessions r top m a first)
with_master G fits follows H legal done r m a top first feeds are =
    let report = mastered.report G fits H legal done.sessions r top m a first in
    let beside = mastered.lawful G fits H legal done.sessions r top m a first in
    let rows = kept_rows_at G ((field H).core.nodes r).log (length a.log) in
    lawful_of_nodes G fits follows H legal done.by_script done.operator (length a.log) rows report.entries report.end beside
    (λ h w i d g e. (
    let l = legal_at G H w ((i, Fed d g) ∷ h) legal e in
    fed_at G fits.apart fits.nodes H legal r m a top first rows (view_of (basis_from G (length a.log) rows) report.entries) (sym beside.end) h i d g l.1 (later_at G H w (i, Fed d g) h legal e) l.0))
    feeds are

pub without_master : (G : Setting) (fits : FitsScript G) → FollowsScript G → (H : List (ℕ × ActorEvent)) (legal : IsLegalHistory G H) (done : IsFinished G H) (r : ℕ) (top : IsReported G.nodes (field H).core r) (none : HasNoMaster G.nodes (field H).core)
    → IsLawfulWithFeeds (basis_from G (length ((field H).core.nodes r).log) (kept_rows_at G ((field H).core.nodes r).log (length ((field H).core.nodes r).log))) (masterless.report G fits H legal done.sessions r top none)
without_master G fits follows H legal done r top none feeds are =
    let base = length ((field H).core.nodes r).log in
    let rows = kept_rows_at G ((field H).core.nodes r).log (length ((field H).core.nodes r).log) in
    lawful_of_nodes G fits follows H legal done.by_script done.operator base rows [] base (masterless.lawful G fits H legal done.sessions r top none)
    (λ h w i d g e. (
    let l = legal_at G H w ((i, Fed d g) ∷ h) legal e in
    absurd (none_answered G H legal none d g (pinged_later (later_at G H w (i, Fed d g) h legal e) (pinged_by G.nodes (field h) l.0.1 d g l.0.3)))))
    feeds are
