-- The pages of what is known at a begin stand for its rows; and its tables are those of each durable log.
use Rattle.std.proofs.Common.{ℕ, ◌≡◌, ◌<◌, ◌≤◌, List, [], ◌∷◌, length, map, arith, refl, sym, subst, ap, ◌∙◌}
use Rattle.std.specs.Prelude.{Some}
use Rattle.std.proofs.lemmas.Option.{none-some}
use mathlib.Core.Logic.{◌⊎◌, inl, inr}
use Rattle.core_lists.specs.Fronts.{Front}
use Rattle.core_lists.specs.Fronts.Front.{front_cons}
use Rattle.core_lists.specs.Lists.{In}
use Rattle.core_lists.proofs.Fronts.{front_length}
use Rattle.core_lists.proofs.Numbers.{lt_or_eq}
use Rattle.cdb_values.specs.declared.tables.TableDef.{TableDef}
use Rattle.cluster_consensus.specs.Durable.{DurableIn}
use Rattle.cluster_consensus.specs.Events.{NodeEvent}
use Rattle.cluster_consensus.specs.Facts.{Claim, World}
use Rattle.cluster_consensus.specs.Histories.{Legal, after}
use Rattle.cluster_consensus.proofs.Generations.{adopts, one_leader, one_log}
use Rattle.cluster_consensus.proofs.Invariant.{Inv}
use Rattle.cluster_core.proofs.DurableLaws.{logs_agree}
use Rattle.cluster_core.proofs.PageLaws.{all_leave}
use Rattle.cluster_events.specs.Parts.{Opened}
use Rattle.cluster_events.specs.Settings.{Setting}
use Rattle.cluster_events.proofs.HistoryLaws.{steps as core_steps, begins_of}
use Rattle.cluster_facts.proofs.ToldLaws.{shipped_accepted}
use Rattle.cluster_masters.specs.WholeLogs.{AllLeave}
use Rattle.cluster_masters.proofs.MasterLaws.{first_of}
use Rattle.cluster_masters.proofs.WholeLogs.{fronts}
use Rattle.cluster_requests.specs.KeptEntries.{KeptEntry, plain}
use Rattle.cluster_steps.specs.Guards.{ArePages, AreLegalSteps, PagesStand}
use Rattle.cluster_steps.specs.Named.{steps, world}
use Rattle.cluster_steps.specs.declared.events.Event.{Event}
use Rattle.cluster_steps.proofs.FoundLaws.{found_ship}
use Rattle.cluster_steps.proofs.StepLaws.{core_legal, inv_of, legal_steps, world_is}
use Rattle.log_replay.specs.Answers.{schema_of}
use Rattle.session_fronts.specs.Fronts.{front_of, IsAnswered, IsKnown}
use Rattle.session_fronts.proofs.KnownLaws.{answered_known, durable_front, front_size, pinged}

-- the pages of each front stand that was shipped from a generation on in which what was adopted became durable
abbrev pub FrontsStand : ℕ → World KeptEntry → Type 0
FrontsStand n w = (m k : ℕ) (a c : Claim KeptEntry) (xs : List KeptEntry) → In a (w.nodes m).leads → DurableIn n w a.gen a.log → In c (w.nodes k).ships → a.gen ≤ c.gen → Front xs c.log → length a.log ≤ length xs → PagesStand xs

core_fronts : (n : ℕ) (cs : List (ℕ × NodeEvent KeptEntry)) → Legal n cs → AllLeave PagesStand cs → FrontsStand n (after cs)
core_fronts n cs legal all m k a c xs ha dur hc low p long = fronts PagesStand n cs (inl refl) legal all m a ha dur k c (shipped_accepted n k cs c legal hc) low xs p long

fronts_stand : (G : Setting) (h : List (ℕ × Event)) → AreLegalSteps G h → FrontsStand G.nodes (world G h)
fronts_stand G h l = subst (λ (w : World KeptEntry). FrontsStand G.nodes w) (sym (world_is G h)) (core_fronts G.nodes (core_steps (steps G h)) (core_legal G h l) (all_leave G h l))

-- what was adopted in a generation and is durable there is no longer than what a leader adopted from then on
adopted_within : {n : ℕ} {w : World KeptEntry} → Inv n w → (m k : ℕ) (a l : Claim KeptEntry) → In a (w.nodes m).leads → DurableIn n w a.gen a.log → In l (w.nodes k).leads → a.gen ≤ l.gen → length a.log ≤ length l.log
adopted_within {n} {w} inv m k a l ha dur hl low = go (lt_or_eq a.gen l.gen low)
  where
    go : (a.gen < l.gen) ⊎ (a.gen ≡ l.gen) → length a.log ≤ length l.log
    go (inl lt) = front_length (adopts inv a.gen a.log dur l.gen k l hl (omega arith) lt)
    go (inr eq) =
        let same : m ≡ k = one_leader inv m k a l ha hl eq in
        let here : In a (w.nodes k).leads = subst (λ t. In a (w.nodes t).leads) same ha in
        let logs : a.log ≡ l.log = one_log inv k a l here hl eq in
        let e : length a.log ≡ length l.log = ap (λ t. length t) logs in
        omega arith

some_pages : (l : List KeptEntry) → 1 ≤ length l → PagesStand l → ArePages l
some_pages l some (inl none) = absurd (let e : length l ≡ 0 = ap (λ t. length t) none in omega arith)
some_pages l some (inr pages) = pages

-- a begin's pages stand
pub begin_pages : (G : Setting) (h : List (ℕ × Event)) → AreLegalSteps G h → (o : Opened) → IsAnswered (world G h) o → ArePages (front_of G (world G h) o)
begin_pages G h l o answered = some_pages (front_of G (world G h) o) (omega (arith, size, first)) stands
  where
    inv : Inv G.nodes (world G h)
    inv = inv_of G h l

    known : IsKnown G (world G h) o
    known = answered_known G h l o answered

    size : length (front_of G (world G h) o) ≡ o.begin
    size = front_size G (world G h) o known.found

    first : 1 ≤ o.begin
    first = (begins_of G (steps G h) (legal_steps G h l) o.begin o.gen (pinged G h o answered)).first

    stands : PagesStand (front_of G (world G h) o)
    stands =
        let b = begins_of G (steps G h) (legal_steps G h l) o.begin o.gen (pinged G h o answered) in
        let f = first_of inv b.gen b.log b.durable in
        let dur : DurableIn G.nodes (world G h) f.1.it.gen f.1.it.log = subst (λ t. DurableIn G.nodes (world G h) t f.1.it.log) (sym f.1.is.0) f.1.is.1 in
        let s = found_ship (world G h) o.gen o.begin G.nodes (front_of G (world G h) o) known.found in
        let g0 : f.1.it.gen ≡ b.gen = f.1.is.0 in
        let g1 : b.gen ≤ o.gen = b.low in
        let g2 : s.3.it.gen ≡ o.gen = s.3.is.0 in
        let g3 : b.led.it.gen ≡ o.gen = b.led.is.0 in
        let l0 : length b.led.it.log ≤ o.begin = b.led.is.1 in
        let l1 : length f.1.it.log ≤ length b.led.it.log = adopted_within inv f.0 b.node f.1.it b.led.it f.1.mem dur b.led.mem (omega arith) in
        fronts_stand G h l f.0 s.0 f.1.it s.3.it (front_of G (world G h) o) f.1.mem dur s.3.mem (omega arith) s.3.is.1 (omega (arith, size, l0, l1))

-- logs of which one begins with the other have the same schema
same_schema : (a b : List KeptEntry) → Front a b → 1 ≤ length a → schema_of (map plain b) ≡ schema_of (map plain a)
same_schema [] b p some = absurd (omega arith)
same_schema (x ∷ a) [] p some = elim p [ ]
same_schema (x ∷ a) (y ∷ b) (front_cons p) some = refl

some_entry : (d : List KeptEntry) (tables : List TableDef) → schema_of (map plain d) ≡ Some tables → 1 ≤ length d
some_entry [] tables is = absurd (none-some tables is)
some_entry (x ∷ d) tables is = omega arith

pub known_schema : (G : Setting) (h : List (ℕ × Event)) → AreLegalSteps G h → (o : Opened) → IsKnown G (world G h) o → 1 ≤ o.begin → (g : ℕ) (d : List KeptEntry) (tables : List TableDef) → DurableIn G.nodes (world G h) g d
    → schema_of (map plain d) ≡ Some tables → schema_of (map plain (front_of G (world G h) o)) ≡ Some tables
known_schema G h l o k some g d tables dur is = go (logs_agree G h k.gen g (front_of G (world G h) o) d l (durable_front G.nodes (world G h) k.gen (front_of G (world G h) o) k.log k.begins k.durable) dur)
  where
    size : length (front_of G (world G h) o) ≡ o.begin
    size = front_size G (world G h) o k.found

    go : Front (front_of G (world G h) o) d ⊎ Front d (front_of G (world G h) o) → schema_of (map plain (front_of G (world G h) o)) ≡ Some tables
    go (inl p) = sym (same_schema (front_of G (world G h) o) d p (omega (arith, size, some))) ∙ is
    go (inr p) = same_schema d (front_of G (world G h) o) p (some_entry d tables is) ∙ is
