-- Without a first master nothing begins, and the report is lawful.
use Rattle.std.proofs.Common.{◌≡◌, ℕ, List, [], ◌∷◌, ◌++◌, length, arith, refl, sym, subst}
use Rattle.std.specs.Prelude.{false}
use Rattle.std.specs.Str.{bytes_eq}
use mathlib.Core.Logic.{◌⊎◌, inl, inr}
use Rattle.core_lists.specs.Lists.{Each}
use Rattle.core_lists.specs.Lists.In.{here, there}
use Rattle.core_lists.proofs.Lists.{each_more}
use Rattle.core_lists.proofs.Fronts.{front_refl}
use Rattle.cluster_consensus.specs.Durable.{DurableIn}
use Rattle.cluster_masters.specs.Reported.{IsReported}
use Rattle.cluster_requests.specs.KeptEntries.{KeptEntry}
use Rattle.cdb_values.specs.Rows.{no_rows}
use Rattle.report_laws.specs.Lawful.{IsFreshLine}
use Rattle.report_laws.specs.Told.{told, Along}
use Rattle.report_text.specs.declared.reports.Line.{Line}
use Rattle.report_text.specs.declared.reports.Line.TheVariants as line
use Rattle.cdb_values.specs.declared.replies.Reply.{Reply}
use Rattle.cdb_values.specs.declared.replies.Reply.TheVariants as reply
use Rattle.session_language.specs.Each.{EachAfter}
use Rattle.cluster_events.specs.Settings.{Setting, basis, basis_from, work_of, kept_rows_at, log_view}
use Rattle.cluster_events.specs.Parts.{ActorEvent, field, lines}
use Rattle.cluster_events.specs.Guards.{IsLegalHistory, IsDone}
use Rattle.cluster_masters.proofs.MasterLaws.{first_of}
use Rattle.report_laws.specs.History.{Origin, Basis, view_of}
use Rattle.report_laws.specs.Lawful.{base_line}
use Rattle.report_laws.specs.Work.{work}
use Rattle.report_text.specs.declared.reports.Report.{Report}
use Rattle.node_reports.specs.Told.{IsToldAlong}
use Rattle.cluster_reports.specs.Lawful.{IsLawfulBesideOperator}
use Rattle.cluster_reports.specs.Runs.{FitsScript}
use Rattle.cluster_masters.specs.FirstMaster.{HasNoMaster}
use Rattle.cluster_events.proofs.HistoryLaws.{good_of, begins_of, Pinged}
use Rattle.cluster_answers.proofs.BeginLaws.{Stated, stated_lines}
use Rattle.cluster_answers.proofs.AgreeLaws.{Agree, told_on}
use Rattle.cluster_answers.proofs.ToldLaws.{replies_right}
use Rattle.cluster_reports.proofs.TrackLaws.{track_first}
use Rattle.cluster_events.proofs.LinePlaces.{lines_placed}
use Rattle.cluster_reports.proofs.LawfulRuns.{none_told, along_low, told_low, all_low}

no_ping : (G : Setting) (h : List (ℕ × ActorEvent)) → IsLegalHistory G h → HasNoMaster G.nodes (field h).core → (b g : ℕ) → Pinged (field h) b g → ⊥
no_ping G h legal none b g p =
    let k = begins_of G h legal b g p in
    let f = first_of (good_of G h legal).inv k.gen k.log k.durable in
    none f.0 f.1.it f.1.mem (subst (λ z. DurableIn G.nodes (field h).core z f.1.it.log) (sym f.1.is.0) f.1.is.1)

-- no line is a begin
abbrev NoBegin : Line → Type 0
NoBegin (line.Session s t (reply.Begin b)) = ⊥
NoBegin _ = Unit {0}

no_reply : (G : Setting) (h : List (ℕ × ActorEvent)) → IsLegalHistory G h → HasNoMaster G.nodes (field h).core → (s : List ℕ) (t : ℕ) (r : Reply) → Stated (field h) (line.Session s t r) → NoBegin (line.Session s t r)
no_reply G h legal none s t (reply.Begin b) k = no_ping G h legal none b k.0 k.1
no_reply G h legal none s t _ k = tt

no_begin : (G : Setting) (h : List (ℕ × ActorEvent)) → IsLegalHistory G h → HasNoMaster G.nodes (field h).core → (l : Line) → Stated (field h) l → NoBegin l
no_begin G h legal none (line.Session s t r) k = no_reply G h legal none s t r k
no_begin G h legal none _ k = tt

no_begins : (G : Setting) (h : List (ℕ × ActorEvent)) → IsLegalHistory G h → HasNoMaster G.nodes (field h).core → Each NoBegin (lines G h)
no_begins G h legal none = each_more (λ l k. no_begin G h legal none l k) (stated_lines G h legal)

free_reply : (origin : Origin) (before : List Line) (s : List ℕ) (t : ℕ) (r : Reply) → NoBegin (line.Session s t r) → IsFreshLine origin before (line.Session s t r)
free_reply origin before s t (reply.Begin b) k = absurd k
free_reply origin before s t _ k = tt

free_line : (origin : Origin) (before : List Line) (l : Line) → NoBegin l → IsFreshLine origin before l
free_line origin before (line.Session s t r) k = free_reply origin before s t r k
free_line origin before _ k = tt

free_lines : (origin : Origin) (before ls : List Line) → Each NoBegin ls → EachAfter (IsFreshLine origin) before ls
free_lines origin before [] k = tt
free_lines origin before (l ∷ ls) k = (free_line origin before l (k.at l here), free_lines origin (before ++ l ∷ []) ls (record { at = λ y m. k.at y (there m) }))

module _ (G : Setting) (fits : FitsScript G) (h : List (ℕ × ActorEvent)) (legal : IsLegalHistory G h) (done : (s : ℕ) → IsDone G h s) (r : ℕ) (top : IsReported G.nodes (field h).core r) (none : HasNoMaster G.nodes (field h).core) where
  abbrev R : List KeptEntry
  R = ((field h).core.nodes r).log

  abbrev B : Basis
  B = basis_from G (length ((field h).core.nodes r).log) (kept_rows_at G ((field h).core.nodes r).log (length ((field h).core.nodes r).log))

  agree : Agree (length R) (log_view G R) (view_of B [])
  agree = (track_first G fits.apart h fits.rising legal (length R) (kept_rows_at G R (length R)) R R refl (front_refl R) refl).agree

  fresh : EachAfter (IsFreshLine B.origin) [] (lines G h)
  fresh = free_lines B.origin [] (lines G h) (no_begins G h legal none)

  of_session : (s : ℕ) → Along (IsToldAlong B (view_of B []) (G.names s)) (work_of G s) (told (G.names s) (lines G h))
  of_session s = along_low (IsToldAlong (basis G) (log_view G R) (G.names s)) (IsToldAlong B (view_of B []) (G.names s)) (length R) (λ i mine low k. told_on G 0 (length R) (no_rows []) (kept_rows_at G R (length R)) (log_view G R) (view_of B []) agree (omega arith) (G.names s) i mine low k) (work_of G s) (told (G.names s) (lines G h)) (told_low (length R) (G.names s) (lines G h) (all_low B.origin [] (lines G h) fresh)) (replies_right G fits.apart h r s (fits.rising s) legal top (done s))

  of_name : (name : List ℕ) → Along (IsToldAlong B (view_of B []) name) (work G.language name G.script.body) (told name (lines G h))
  of_name name = go (fits.covers name)
    where
      go : ((s : ℕ) × (G.names s ≡ name)) ⊎ ((work G.language name G.script.body ≡ []) × ((i : ℕ) → bytes_eq (G.names i) name ≡ false)) → Along (IsToldAlong B (view_of B []) name) (work G.language name G.script.body) (told name (lines G h))
      go (inl s) = subst (λ z. Along (IsToldAlong B (view_of B []) z) (work G.language z G.script.body) (told z (lines G h))) s.1 (of_session s.0)
      go (inr n) = subst (λ z. Along (IsToldAlong B (view_of B []) name) z (told name (lines G h))) (sym n.0) (none_told G name n.1 h)

  abbrev pub report : Report
  report = record { lines = lines G h; base = base_line (length R); entries = []; feeds = []; end = length R }

  pub lawful : IsLawfulBesideOperator B report
  lawful = record {
    replies = of_name;
    begins = fresh;
    history = tt;
    answered = tt;
    places = lines_placed G fits.nodes h legal;
    base = refl;
    end = omega arith;
  }
