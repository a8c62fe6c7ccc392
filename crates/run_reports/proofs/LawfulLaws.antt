-- What a run's history tells is a lawful report, with the reported node's log behind what the first master adopted.
use Rattle.std.proofs.Common.{ℕ, ◌≡◌, ◌+◌, List, [], ◌∷◌, ◌++◌, length, map, refl, sym, subst, ap, ◌∙◌}
use Rattle.std.specs.Prelude.{drop, Option}
use Rattle.std.proofs.Math.Seq.{drop-append_seam, drop-length}
use Rattle.std.proofs.lemmas.List.{drop-map, length-map}
use Rattle.cluster_consensus.specs.Facts.{Claim}
use Rattle.cluster_events.specs.Guards.{IsDone}
use Rattle.cluster_events.specs.Operator.{duty}
use Rattle.cluster_events.specs.Parts.{lines}
use Rattle.cluster_events.specs.Settings.{Setting, basis_from, kept_rows_at, line_of, lines_to_do}
use Rattle.cluster_masters.specs.FirstMaster.{HasNoMaster, IsFirstMaster}
use Rattle.cluster_masters.specs.Reported.{IsReported}
use Rattle.cluster_reports.specs.Runs.{FitsScript, FollowsScript, lines_from}
use Rattle.cluster_reports.proofs.LawfulRuns.{begins', report}
use Rattle.cluster_reports.proofs.MasterlessRuns as masterless
use Rattle.cluster_reports.proofs.NodesRuns.{with_master, without_master}
use Rattle.cluster_requests.specs.KeptEntries.{KeptEntry, plain}
use Rattle.cluster_requests.specs.KeptEntries.KeptEntry.{SetupKept, CommitKept}
use Rattle.cluster_runs.proofs.RunLaws.{finished}
use Rattle.cluster_steps.specs.Guards.{AreLegalSteps}
use Rattle.cluster_steps.specs.Named.{steps, world}
use Rattle.cluster_steps.specs.declared.events.Event.{Event}
use Rattle.cluster_steps.proofs.StepLaws.{legal_steps}
use Rattle.core_lists.proofs.Fronts.{front_rest}
use Rattle.node_reports.specs.Fed.{AreFeeds}
use Rattle.node_reports.specs.Lawful.{LawfulOfNodes}
use Rattle.node_reports.specs.Order.{last_fed}
use Rattle.phys_log.specs.declared.entries.Entry.{Entry}
use Rattle.report_laws.specs.History.{Basis, view_of}
use Rattle.report_laws.specs.Lawful.{base_line}
use Rattle.report_text.specs.declared.reports.EntryLine.{EntryLine}
use Rattle.report_text.specs.declared.reports.Line.{Line}
use Rattle.report_text.specs.declared.reports.Report.{Report}
use Rattle.script_form.specs.declared.scripts.SessionLine.{SessionLine}
use Rattle.history_report.specs.Tail.{entry_line, entry_lines, report_with}
use Rattle.history_report.specs.Told.{CallsSessions, told_by}
use Rattle.history_report.proofs.ToldLaws.{all_told}

-- entries are told as kept ones are
entry_told : (k : ℕ) (e : KeptEntry) → entry_line k (plain e) ≡ line_of k e
entry_told k (SetupKept generation schema records reached) = refl
entry_told k (CommitKept generation id begin level changes records reached) = refl

entries_told : (k : ℕ) (es : List KeptEntry) → entry_lines k (map plain es) ≡ lines_from k es
entries_told k [] = refl
entries_told k (e ∷ es) = ap (λ (l : EntryLine). l ∷ entry_lines (k + 1) (map plain es)) (entry_told k e) ∙ ap (λ (ls : List EntryLine). line_of k e ∷ ls) (entries_told (k + 1) es)

-- those behind a front of a log
pub behind_told : (first own log : List KeptEntry) → first ++ own ≡ log → entry_lines (length first + 1) (drop (length first) (map plain log)) ≡ lines_from (length first + 1) own
behind_told first own log whole =
    let k = length first in
    ap (λ (es : List Entry). entry_lines (k + 1) es) (drop-map plain k log ∙ (ap (λ (es : List KeptEntry). map plain (drop k es)) (sym whole) ∙ ap (λ (es : List KeptEntry). map plain es) (drop-append_seam first own)))
    ∙ entries_told (k + 1) own

none_told : (log : List KeptEntry) → entry_lines (length log + 1) (drop (length log) (map plain log)) ≡ []
none_told log = ap (λ (es : List Entry). entry_lines (length log + 1) es) (drop-map plain (length log) log ∙ ap (λ (es : List KeptEntry). map plain es) (drop-length log))

-- reports of the same parts are the same
abbrev unfed : List Line → Option ℕ → List EntryLine → ℕ → Report
unfed lines base entries end = record { lines = lines; base = base; entries = entries; feeds = []; end = end }

same_parts : (a b : List Line) (c d : Option ℕ) (e f : List EntryLine) (m n : ℕ) → a ≡ b → c ≡ d → e ≡ f → m ≡ n → unfed a c e m ≡ unfed b d f n
same_parts a b c d e f m n p q r s = ap (λ (x : List Line). unfed x c e m) p ∙ (ap (λ (x : Option ℕ). unfed b x e m) q ∙ (ap (λ (x : List EntryLine). unfed b d x m) r ∙ ap (λ x. unfed b d f x) s))

same_report : (r : Report) (ls : List Line) (base : ℕ) (log : List KeptEntry) → ls ≡ r.lines → r.base ≡ base_line base → entry_lines (base + 1) (drop base (map plain log)) ≡ r.entries → r.end ≡ length log
    → record r { feeds = [] } ≡ report_with ls base (map plain log)
same_report r ls base log lines_are base_is entries_are end_is =
    same_parts r.lines ls r.base (base_line base) r.entries (entry_lines (base + 1) (drop base (map plain log))) r.end (length (map plain log)) (sym lines_are) base_is (sym entries_are) (end_is ∙ sym (length-map log plain))

-- nothing is watched, so there are no feeds
no_feeds : (basis : Basis) (r : Report) (watched : List ℕ) → watched ≡ [] → AreFeeds basis (view_of basis r.entries) (last_fed 0 r.lines) 1 watched []
no_feeds basis r watched none = subst (λ (z : List ℕ). AreFeeds basis (view_of basis r.entries) (last_fed 0 r.lines) 1 z []) (sym none) refl

pub told_with_master : (G : Setting) (sessions : List SessionLine) (h : List (ℕ × Event)) (r m : ℕ) (a : Claim KeptEntry) → FitsScript G → FollowsScript G → CallsSessions G sessions → G.script.watches ≡ [] → AreLegalSteps G h
    → (duty (lines_to_do G) (steps G h)).left ≡ [] → ((s : ℕ) → IsDone G (steps G h) s) → IsReported G.nodes (world G h) r → IsFirstMaster G.nodes (world G h) m a
    → LawfulOfNodes (basis_from G (length a.log) (kept_rows_at G ((world G h).nodes r).log (length a.log))) (report_with (told_by G.nodes sessions h).lines (length a.log) (map plain ((world G h).nodes r).log))
told_with_master G sessions h r m a fits follows calls none legal over done top first =
    let g = steps G h in
    let l = legal_steps G h legal in
    let f = finished G h legal over done in
    let log = ((world G h).nodes r).log in
    let told = report G fits g l f.sessions r top m a first in
    let basis = basis_from G (length a.log) (kept_rows_at G log (length a.log)) in
    let own = front_rest (begins' G fits g l f.sessions r top m a first) in
    subst (λ (z : Report). LawfulOfNodes basis z)
    (same_report told (told_by G.nodes sessions h).lines (length a.log) log (all_told G sessions h calls legal).lines_are refl (behind_told a.log own.0 log own.1) refl)
    (with_master G fits follows g l f r m a top first [] (no_feeds basis told G.script.watches none))

pub told_without_master : (G : Setting) (sessions : List SessionLine) (h : List (ℕ × Event)) (r : ℕ) → FitsScript G → FollowsScript G → CallsSessions G sessions → G.script.watches ≡ [] → AreLegalSteps G h
    → (duty (lines_to_do G) (steps G h)).left ≡ [] → ((s : ℕ) → IsDone G (steps G h) s) → IsReported G.nodes (world G h) r → HasNoMaster G.nodes (world G h)
    → LawfulOfNodes (basis_from G (length ((world G h).nodes r).log) (kept_rows_at G ((world G h).nodes r).log (length ((world G h).nodes r).log))) (report_with (told_by G.nodes sessions h).lines (length ((world G h).nodes r).log) (map plain ((world G h).nodes r).log))
told_without_master G sessions h r fits follows calls none legal over done top masterless_is =
    let g = steps G h in
    let l = legal_steps G h legal in
    let f = finished G h legal over done in
    let log = ((world G h).nodes r).log in
    let told = masterless.report G fits g l f.sessions r top masterless_is in
    let basis = basis_from G (length log) (kept_rows_at G log (length log)) in
    subst (λ (z : Report). LawfulOfNodes basis z)
    (same_report told (told_by G.nodes sessions h).lines (length log) log (all_told G sessions h calls legal).lines_are refl (none_told log) refl)
    (without_master G fits follows g l f r top masterless_is [] (no_feeds basis told G.script.watches none))
