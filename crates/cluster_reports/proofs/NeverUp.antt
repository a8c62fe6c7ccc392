-- Where no node came up there is no log.
use Rattle.std.proofs.Common.{◌≡◌, ℕ, List, [], ◌∷◌, length, arith, refl, ap, sym, subst, ◌∙◌}
use Rattle.std.specs.Prelude.{◌==◌, Bool, true, false, cond}
use mathlib.Core.Logic.{inr}
use Rattle.cluster_consensus.specs.Enabled.{Enabled}
use Rattle.cluster_consensus.specs.Events.{NodeEvent, change}
use Rattle.cluster_consensus.specs.Events.NodeEvent.{Admits, Boot, Down, Back, BackLead, BackTake, BackGrow, BackAppend, Stand, Grants, Lead, Take, Grow, Append, LearnLead, LearnFollow, Asks, Probe, Confirm}
use Rattle.cluster_consensus.specs.Facts.{Own, World}
use Rattle.cluster_events.specs.Guards.{MayDo, IsLegalHistory}
use Rattle.cluster_events.specs.Parts.{ActorEvent, field, lines}
use Rattle.cluster_events.specs.Parts.ActorEvent.{Node, Stop, Ask}
use Rattle.cluster_events.specs.Settings.{Setting, basis_from, kept_rows_at}
use Rattle.cluster_masters.specs.FirstMaster.{HasNoMaster}
use Rattle.cluster_masters.specs.Reported.{IsReported}
use Rattle.cluster_reports.proofs.MasterlessRuns.{report}
use Rattle.cluster_reports.proofs.NodesRuns.{without_master}
use Rattle.cluster_reports.specs.Runs.{FitsScript, FollowsScript, IsFinished, IsLawfulWithFeeds}
use Rattle.cluster_requests.specs.KeptEntries.{KeptEntry}
use Rattle.core_lists.proofs.Lists.{nothing}
use Rattle.core_lists.specs.Lists.{In}
use Rattle.report_text.specs.declared.reports.Report.{Report}

-- a part as it is before its node's first event
record IsBlank (o : Own KeptEntry) : Type 0 where
  up : o.up ≡ false
  accepted : o.accepted ≡ 0
  log : o.log ≡ []
  leads : o.leads ≡ []

abbrev Stays : Own KeptEntry → Type 0
Stays o = o.was_up ≡ false → IsBlank o

is_up : {A : Type 0} (o : Own KeptEntry) → IsBlank o → o.up ≡ true → A
is_up o k e = absurd (let q = sym k.up ∙ e in cc)

was_up : {A : Type 0} (o : Own KeptEntry) → o.was_up ≡ false → o.was_up ≡ true → A
was_up o q e = absurd (let w = sym q ∙ e in cc)

own_blank : (n : ℕ) (w : World KeptEntry) (i : ℕ) (o : Own KeptEntry) (e : NodeEvent KeptEntry) → Enabled n w i o e → Stays o → Stays (change i o e)
own_blank n w i o (Admits k p a) may old q = old q
own_blank n w i o (Asks t) may old q = old q
own_blank n w i o Down may old q = let b = old q in record { up = refl; accepted = b.accepted; log = b.log; leads = b.leads }
own_blank n w i o (Boot p a l) may old q = absurd (cc)
own_blank n w i o (Back p) may old q = was_up o q may.1
own_blank n w i o BackLead may old q = was_up o q may.1
own_blank n w i o (BackTake g l) may old q = was_up o q may.1
own_blank n w i o (BackGrow l) may old q = was_up o q may.1
own_blank n w i o (BackAppend x) may old q = was_up o q may.1
own_blank n w i o (Stand g) may old q = is_up o (old q) may.0
own_blank n w i o (Grants g to) may old q = is_up o (old q) may.0
own_blank n w i o Lead may old q = is_up o (old q) may.0
own_blank n w i o (Take g l) may old q = is_up o (old q) may.0
own_blank n w i o (Grow l) may old q = is_up o (old q) may.0
own_blank n w i o (Append x) may old q = is_up o (old q) may.0
own_blank n w i o (LearnLead l) may old q = is_up o (old q) may.0
own_blank n w i o (LearnFollow l) may old q = is_up o (old q) may.0
own_blank n w i o (Probe t) may old q = is_up o (old q) may.0
own_blank n w i o (Confirm t g) may old q = is_up o (old q) may.0

stays_row : (G : Setting) (h : List (ℕ × ActorEvent)) (i : ℕ) (e : NodeEvent KeptEntry) → Enabled G.nodes (field h).core i ((field h).core.nodes i) e → ((k : ℕ) → Stays ((field h).core.nodes k)) → (k : ℕ) → Stays (cond (k == i) (change i ((field h).core.nodes i) e) ((field h).core.nodes k))
stays_row G h i e may old k = go (k == i)
  where
    go : (b : Bool) → Stays (cond b (change i ((field h).core.nodes i) e) ((field h).core.nodes k))
    go true = own_blank G.nodes (field h).core i ((field h).core.nodes i) e may (old i)
    go false = old k

event_stays : (G : Setting) (h : List (ℕ × ActorEvent)) (i : ℕ) (e : ActorEvent) → MayDo G h i e → ((k : ℕ) → Stays ((field h).core.nodes k)) → (k : ℕ) → Stays ((field ((i, e) ∷ h)).core.nodes k)
event_stays G h i (Node e) may old k = stays_row G h i e may.0.0 old k
event_stays G h i Stop may old k = stays_row G h i Down may.0.0 old k
event_stays G h i (Ask t) may old k = stays_row G h i (Asks t) may.0.0 old k
event_stays G h i _ may old k = old k

never_up : (G : Setting) (h : List (ℕ × ActorEvent)) → IsLegalHistory G h → (k : ℕ) → Stays ((field h).core.nodes k)
never_up G [] legal k q = record { up = refl; accepted = refl; log = refl; leads = refl }
never_up G (x ∷ h) legal k q = event_stays G h x.0 x.1 legal.0 (never_up G h legal.1) k q

abbrev Reports : Setting → List (ℕ × ActorEvent) → List KeptEntry → Type 0
Reports G h log = (report : Report) × (report.lines ≡ lines G h) × (report.entries ≡ []) × (report.end ≡ length log) × IsLawfulWithFeeds (basis_from G (length log) (kept_rows_at G log (length log))) report

-- each node is as good as another, and none leads
pub without_nodes : (G : Setting) (fits : FitsScript G) → FollowsScript G → (h : List (ℕ × ActorEvent)) → IsLegalHistory G h → IsFinished G h → ((k : ℕ) → ((field h).core.nodes k).was_up ≡ false)
    → (report : Report) × (report.lines ≡ lines G h) × (report.entries ≡ []) × (report.end ≡ 0) × IsLawfulWithFeeds (basis_from G 0 (kept_rows_at G [] 0)) report
without_nodes G fits follows h legal done none = subst (λ z. Reports G h z) (blank 1).log (report G fits h legal done.sessions 1 top masterless, refl, refl, refl, without_master G fits follows h legal done 1 top masterless)
  where
    blank : (k : ℕ) → IsBlank ((field h).core.nodes k)
    blank k = never_up G h legal k (none k)

    top : IsReported G.nodes (field h).core 1
    top k lo hi =
        let a : ((field h).core.nodes k).accepted ≡ 0 = (blank k).accepted in
        let b : ((field h).core.nodes 1).accepted ≡ 0 = (blank 1).accepted in
        let c : length ((field h).core.nodes k).log ≡ 0 = ap (λ z. length z) (blank k).log in
        inr (a ∙ sym b, omega arith)

    masterless : HasNoMaster G.nodes (field h).core
    masterless k l m d = nothing (subst (λ z. In l z) (blank k).leads m)
