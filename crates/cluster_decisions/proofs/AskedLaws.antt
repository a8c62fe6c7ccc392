-- A request that a leader has in its generation is one that the block processor can decide over the leader's log.
use Rattle.std.proofs.Common.{◌≡◌, ℕ, zero, suc, ◌<◌, ◌≤◌, List, [], ◌∷◌, ◌++◌, length, take, drop, map, arith, refl, ap, sym, subst, ◌∙◌}
use Rattle.std.specs.Prelude.{true}
use Rattle.std.proofs.lemmas.List.{length-map}
use Rattle.std.specs.List.{AllByRecursion}
use mathlib.Core.Logic.{◌⊎◌, inl, inr}
use Rattle.block_processor.specs.Asked.{IsAsked}
use Rattle.cdb_values.specs.Rows.{Rows, versions_of}
use Rattle.cluster_answers.proofs.EntryLaws.{SentOk, sends_ok, request_at}
use Rattle.cluster_consensus.specs.Durable.{DurableIn}
use Rattle.cluster_consensus.specs.Facts.{Claim, World}
use Rattle.cluster_consensus.specs.Histories.{after}
use Rattle.cluster_consensus.proofs.FactSteps.{holds, leads_log}
use Rattle.cluster_core.proofs.BaseLaws.{behind_it, node_stands}
use Rattle.cluster_decisions.specs.Requested.{stored_entries, AreMadeBehind, FitsRows, IsOfSent, IsRequestOf, ground_at}
use Rattle.cluster_decisions.proofs.DecisionLaws.{over_begin}
use Rattle.cluster_events.specs.Parts.{field}
use Rattle.cluster_events.specs.Settings.{Setting}
use Rattle.cluster_events.proofs.HistoryLaws.{steps as core_steps}
use Rattle.cluster_decisions.proofs.LedLaws.{at_least_led}
use Rattle.cluster_masters.proofs.Bases.{some_founded, at_least_one}
use Rattle.cluster_requests.specs.KeptEntries.{KeptEntry, plain, state_of}
use Rattle.cluster_requests.specs.Requests.{Sent}
use Rattle.cluster_steps.specs.Guards.{ArePages, PagesStand, AreLegalSteps}
use Rattle.cluster_steps.specs.Named.{steps, world}
use Rattle.cluster_steps.specs.declared.events.Event.{Event}
use Rattle.cluster_steps.proofs.StepLaws.{legal_steps, core_legal, inv_of, world_is}
use Rattle.core_lists.specs.Fronts.{Front}
use Rattle.core_lists.specs.Lists.{In, Has}
use Rattle.log_rows.specs.History.{Ground, rows_from, rows_over, rows_over_at, tables_of}
use Rattle.phys_log.specs.Logs.{pages_of}
use Rattle.phys_log.specs.declared.entries.Entry.{Entry as PlainEntry}
use Rattle.phys_log.specs.declared.requests.CommitRequest.{CommitRequest}
use Rattle.table_store.specs.Listings.{IsAmong}
use Rattle.table_store.specs.Operations.{gone}
use Rattle.table_store.specs.Stored.{Stands}

-- a leader whose adopted log is durable in its generation, below a begin
pub record IsFounded (G : Setting) (h : List (ℕ × Event)) (begin gen : ℕ) : Type 0 where
  pub positive : 1 ≤ begin
  pub by : ℕ
  pub lead : Claim KeptEntry
  pub mem : In lead ((world G h).nodes by).leads
  pub durable : DurableIn G.nodes (world G h) lead.gen lead.log
  pub within : length lead.log ≤ begin
  pub low : lead.gen ≤ gen

founded : (G : Setting) (h : List (ℕ × Event)) → AreLegalSteps G h → (x : Sent) → In x (field (steps G h)).sends → IsFounded G h x.begin x.gen
founded G h l x mem =
    let k = (sends_ok G (steps G h) (legal_steps G h l)).at x mem in
    let p = k.pinged in
    let q = world_is G h in
    let c = core_legal G h l in
    let at = subst (λ (w : World KeptEntry). In p.ping (w.nodes p.node).pings) q p.mem in
    let f = some_founded G.nodes p.node (core_steps (steps G h)) p.ping c at in
    let pg : p.ping.gen ≡ x.id.began = p.gen in
    let pd : p.ping.durable ≡ x.begin = p.durable in
    let low : x.id.began ≤ x.gen = k.low in
    let fl : f.1.it.gen ≤ p.ping.gen = f.1.is.0 in
    let one : 1 ≤ p.ping.durable = at_least_one G.nodes p.node (core_steps (steps G h)) p.ping c at in
    let long : length f.1.it.log ≤ p.ping.durable = at_least_led G.nodes p.node f.0 (core_steps (steps G h)) p.ping f.1.it c at f.1.mem f.1.is.1 f.1.is.0 in
    record {
      positive = omega arith;
      by = f.0;
      lead = f.1.it;
      mem = subst (λ (w : World KeptEntry). In f.1.it (w.nodes f.0).leads) (sym q) f.1.mem;
      durable = subst (λ w. DurableIn G.nodes w f.1.it.gen f.1.it.log) (sym q) f.1.is.1;
      within = omega arith;
      low = omega arith;
    }

-- each entry behind a begin is kept with what it makes
made_behind : (G : Setting) (h : List (ℕ × Event)) → AreLegalSteps G h → (i : ℕ) → ((world G h).nodes i).leading ≡ true → (begin : ℕ) → IsFounded G h begin ((world G h).nodes i).accepted
    → AreMadeBehind begin ((world G h).nodes i).log
made_behind G h l i lead begin f xs e p long =
    let inv = inv_of G h l in
    let o = leads_log inv i lead in
    let og : o.it.gen ≡ ((world G h).nodes i).accepted = o.is.0 in
    let c = holds inv i i o.it o.mem (omega arith) in
    let cg : c.it.gen ≡ ((world G h).nodes i).accepted = c.is.0 in
    let low : f.lead.gen ≤ ((world G h).nodes i).accepted = f.low in
    let within : length f.lead.log ≤ begin = f.within in
    let b = behind_it G h l f.by i f.lead c.it f.mem f.durable c.mem (omega arith) in
    b.1 xs e (subst (λ t. Front (xs ++ e ∷ []) t) (sym c.is.1) p) (omega arith)

none_left : {A : Type 0} (k : ℕ) (xs : List A) → drop k (take k xs) ≡ []
none_left zero xs = refl
none_left (suc k) [] = refl
none_left (suc k) (x ∷ xs) = none_left k xs

-- the rows at a begin
at_begin : (rows : Rows) (begin : ℕ) (entries : List PlainEntry) → rows_over_at (ground_at rows begin) entries begin ≡ rows
at_begin rows begin entries = ap (λ z. rows_from rows z) (none_left begin entries)

standing : (log : List KeptEntry) → PagesStand log → 1 ≤ length log → ArePages log
standing log (inl none) one = absurd (let z : length log ≡ 0 = ap (λ t. length t) none in omega arith)
standing log (inr are) one = are

-- it is asked so
pub asked_at : (G : Setting) (h : List (ℕ × Event)) → AreLegalSteps G h → (i : ℕ) (x : Sent) (request : CommitRequest) → ((world G h).nodes i).leading ≡ true → In x (field (steps G h)).sends
    → x.gen ≡ ((world G h).nodes i).accepted → request.ops ≡ x.ops → request.begin ≡ x.begin
    → FitsRows (tables_of (stored_entries ((world G h).nodes i).log)) (state_of (take x.begin ((world G h).nodes i).log)) request
    → IsAsked (ground_at (state_of (take x.begin ((world G h).nodes i).log)) x.begin) request (stored_entries ((world G h).nodes i).log)
asked_at G h l i x request lead mem gen ops begin fits =
    let log = ((world G h).nodes i).log in
    let r = request_at G (steps G h) (legal_steps G h l) i lead x mem gen in
    let within : x.begin ≤ length log = r.within in
    let f = subst (λ g. IsFounded G h x.begin g) gen (founded G h l x mem) in
    let one : 1 ≤ x.begin = f.positive in
    let rows = state_of (take x.begin log) in
    let over = over_begin log x.begin within (made_behind G h l i lead x.begin f) in
    let are = standing log (node_stands G h l i) (omega arith) in
    let n = length-map log plain in
    record {
      some = λ none. r.has_ops (sym ops ∙ none);
      begun = (omega arith, omega arith);
      within = omega arith;
      schema = are.schema;
      stands = subst (λ s. Stands (pages_of (stored_entries log)) (tables_of (stored_entries log)) s) (sym over) are.stand;
      there = λ table. subst (λ (s : Rows). AllByRecursion (λ v. IsAmong v (versions_of s table)) (gone table request.ops)) (sym (ap (λ b. rows_over_at (ground_at rows x.begin) (stored_entries log) b) begin ∙ at_begin rows x.begin (stored_entries log))) (fits.there table);
      once = fits.once;
      named = fits.named;
      fits = fits.fits;
      texts = fits.texts;
    }

-- and it is the one that its session sent
pub of_log : (G : Setting) (h : List (ℕ × Event)) → AreLegalSteps G h → (i : ℕ) (x : Sent) (request : CommitRequest) → ((world G h).nodes i).leading ≡ true → In x (field (steps G h)).sends
    → x.gen ≡ ((world G h).nodes i).accepted → tables_of (stored_entries ((world G h).nodes i).log) ≡ G.tables → IsOfSent G x request
    → IsRequestOf G ((world G h).nodes i).log (ground_at (state_of (take x.begin ((world G h).nodes i).log)) x.begin) x request
of_log G h l i x request lead mem gen tables is =
    let log = ((world G h).nodes i).log in
    let r = request_at G (steps G h) (legal_steps G h l) i lead x mem gen in
    let f = subst (λ g. IsFounded G h x.begin g) gen (founded G h l x mem) in
    record {
      tables = tables;
      rows = over_begin log x.begin r.within (made_behind G h l i lead x.begin f);
      its_id = is.its_id;
      its_begin = is.its_begin;
      its_level = is.its_level;
      its_ops = is.its_ops;
      its_used = is.its_used;
      some = r.has_ops;
      within = r.within;
      behind = r.within;
    }
