-- What a session knows is the same wherever it is read, and stays so.
use Rattle.std.proofs.Common.{ℕ, ◌≡◌, ◌+◌, ◌<◌, ◌≤◌, List, [], ◌∷◌, ◌++◌, length, take, arith, sym, subst, ap, ◌∙◌}
use Rattle.std.specs.Prelude.{Some, suc, unwrap_or}
use mathlib.Core.Logic.{◌⊎◌, inl, inr}
use Rattle.core_lists.specs.Fronts.{Front}
use Rattle.core_lists.specs.Fronts.Front.{front_nil}
use Rattle.core_lists.proofs.Fronts.{front_trans, front_same, front_take, take_length}
use Rattle.core_lists.proofs.Majorities.{majority_weaker}
use Rattle.core_lists.proofs.Numbers.{lt_or_eq}
use Rattle.cluster_answers.proofs.EntryLaws.{same_take}
use Rattle.cluster_begins.specs.Begins.{IsPositionAnswered}
use Rattle.cluster_consensus.specs.Durable.{DurableIn}
use Rattle.cluster_consensus.specs.Facts.{World}
use Rattle.cluster_consensus.specs.Histories.{Legal, after}
use Rattle.cluster_consensus.proofs.Laws.{durable_stays}
use Rattle.cluster_core.proofs.DurableLaws.{logs_agree, positions_durable, positions_within}
use Rattle.cluster_events.specs.Parts.{Opened, field}
use Rattle.cluster_events.specs.Settings.{Setting}
use Rattle.cluster_events.proofs.HistoryLaws.{steps as core_steps, steps_append as core_append, Pinged, begins_of}
use Rattle.cluster_requests.specs.KeptEntries.{KeptEntry}
use Rattle.cluster_sessions.proofs.FoundLaws.{IsFoundAt, found_by}
use Rattle.cluster_steps.specs.Guards.{AreLegalSteps, IsLogFound}
use Rattle.cluster_steps.specs.Named.{steps, world}
use Rattle.cluster_steps.specs.declared.events.Event.{Event}
use Rattle.cluster_steps.proofs.FoundLaws.{found_ship, log_stays}
use Rattle.cluster_steps.proofs.StepLaws.{core_legal, inv_of, legal_steps, more_steps, steps_append, world_is}
use Rattle.cluster_steps.proofs.TellsLaws.{tells}
use Rattle.election_core.specs.More.{TellsMore}
use Rattle.session_fronts.specs.Fronts.{front_of, IsAnswered, IsKnown}

-- a front of a log is what stands there up to its length
pub whole_take : {A : Type 0} (b : ℕ) (f : List A) → length f ≡ b → take b f ≡ f
whole_take b f s = let t = take_length b f (omega (arith, s)) in front_same (front_take b f) (omega (arith, s, t))

pub take_front : {A : Type 0} (b : ℕ) (f d : List A) → Front f d → length f ≡ b → take b d ≡ f
take_front b f d p s = sym (same_take p b (omega (arith, s))) ∙ whole_take b f s

none_front : {A : Type 0} (f d : List A) → length f ≡ 0 → Front f d
none_front [] d e = front_nil
none_front (x ∷ f) d e = absurd (let q : suc (length f) ≡ 0 = e in omega arith)

pub front_size : (G : Setting) (w : World KeptEntry) (o : Opened) → IsLogFound G.nodes w o.gen o.begin → length (front_of G w o) ≡ o.begin
front_size G w o f = (found_ship w o.gen o.begin G.nodes (front_of G w o) f).3.is.2

pub durable_front : (n : ℕ) (w : World KeptEntry) (g : ℕ) (e d : List KeptEntry) → Front e d → DurableIn n w g d → DurableIn n w g e
durable_front n w g e d p dur = majority_weaker (λ k x. record { it = x.it; mem = x.mem; is = (x.is.0, front_trans p x.is.1) }) dur

-- it is what each durable log has there
pub agrees : (G : Setting) (h : List (ℕ × Event)) → AreLegalSteps G h → (o : Opened) → IsKnown G (world G h) o → (g : ℕ) (d : List KeptEntry) → DurableIn G.nodes (world G h) g d → o.begin ≤ length d
    → take o.begin d ≡ front_of G (world G h) o
agrees G h l o k g d dur within = go (logs_agree G h k.gen g (front_of G (world G h) o) d l (durable_front G.nodes (world G h) k.gen (front_of G (world G h) o) k.log k.begins k.durable) dur)
  where
    size : length (front_of G (world G h) o) ≡ o.begin
    size = front_size G (world G h) o k.found

    go : Front (front_of G (world G h) o) d ⊎ Front d (front_of G (world G h) o) → take o.begin d ≡ front_of G (world G h) o
    go (inl p) = take_front o.begin (front_of G (world G h) o) d p size
    go (inr p) =
        let same : d ≡ front_of G (world G h) o = front_same p (omega (arith, size, within)) in
        ap (λ z. take o.begin z) same ∙ whole_take o.begin (front_of G (world G h) o) size

-- and what a node has that knows so much as durable
pub at_node : (G : Setting) (h : List (ℕ × Event)) → AreLegalSteps G h → (o : Opened) → IsKnown G (world G h) o → (k : ℕ) → o.begin ≤ ((world G h).nodes k).durable → take o.begin ((world G h).nodes k).log ≡ front_of G (world G h) o
at_node G h l o known k reaches = go (lt_or_eq 0 ((world G h).nodes k).durable (omega arith))
  where
    size : length (front_of G (world G h) o) ≡ o.begin
    size = front_size G (world G h) o known.found

    go : (0 < ((world G h).nodes k).durable) ⊎ (0 ≡ ((world G h).nodes k).durable) → take o.begin ((world G h).nodes k).log ≡ front_of G (world G h) o
    go (inl some) =
        let d = positions_durable G h k l some in
        let within = positions_within G h k l in
        let long = take_length ((world G h).nodes k).durable ((world G h).nodes k).log within in
        let all : o.begin ≤ length (take ((world G h).nodes k).durable ((world G h).nodes k).log) = omega (arith, long, reaches) in
        sym (same_take (front_take ((world G h).nodes k).durable ((world G h).nodes k).log) o.begin all)
        ∙ agrees G h l o known d.0 (take ((world G h).nodes k).durable ((world G h).nodes k).log) d.1 all
    go (inr none) =
        let zero : length (front_of G (world G h) o) ≡ 0 = omega (arith, size, reaches, none) in
        take_front o.begin (front_of G (world G h) o) ((world G h).nodes k).log (none_front (front_of G (world G h) o) ((world G h).nodes k).log zero) size

-- of two that are known the shorter begins the longer
pub longer : (G : Setting) (h : List (ℕ × Event)) → AreLegalSteps G h → (o p : Opened) → IsKnown G (world G h) o → IsKnown G (world G h) p → o.begin ≤ p.begin → take o.begin (front_of G (world G h) p) ≡ front_of G (world G h) o
longer G h l o p a b le =
    let size = front_size G (world G h) p b.found in
    agrees G h l o a b.gen (front_of G (world G h) p) (durable_front G.nodes (world G h) b.gen (front_of G (world G h) p) b.log b.begins b.durable) (omega (arith, size, le))

-- what was answered stays answered
answered_stays : {w v : World KeptEntry} → TellsMore w v → (p g : ℕ) → IsPositionAnswered w p g → IsPositionAnswered v p g
answered_stays more p g (inl x) = inl (x.0, record { it = x.1.it; mem = (more.nodes x.0).durables x.1.it x.1.mem; is = x.1.is })
answered_stays more p g (inr x) = inr (x.0, record { it = x.1.it; mem = (more.nodes x.0).pings x.1.it x.1.mem; is = x.1.is })

pub durable_on : (G : Setting) (later h : List (ℕ × Event)) → AreLegalSteps G (later ++ h) → (g : ℕ) (d : List KeptEntry) → DurableIn G.nodes (world G h) g d → DurableIn G.nodes (world G (later ++ h)) g d
durable_on G later h l g d dur =
    let q : core_steps (steps G (later ++ h)) ≡ core_steps (more_steps G later h) ++ core_steps (steps G h) = ap core_steps (steps_append G later h) ∙ core_append (more_steps G later h) (steps G h) in
    let legal : Legal G.nodes (core_steps (more_steps G later h) ++ core_steps (steps G h)) = subst (λ z. Legal G.nodes z) q (core_legal G (later ++ h) l) in
    let old : DurableIn G.nodes (after (core_steps (steps G h))) g d = subst (λ (v : World KeptEntry). DurableIn G.nodes v g d) (world_is G h) dur in
    let is_new : world G (later ++ h) ≡ after (core_steps (more_steps G later h) ++ core_steps (steps G h)) = world_is G (later ++ h) ∙ ap after q in
    subst (λ (v : World KeptEntry). DurableIn G.nodes v g d) (sym is_new) (durable_stays G.nodes g (core_steps (steps G h)) (core_steps (more_steps G later h)) d legal old)

-- what is known stays known, and the same
pub known_stays : (G : Setting) (later h : List (ℕ × Event)) → AreLegalSteps G (later ++ h) → (o : Opened) → IsKnown G (world G h) o
    → (front_of G (world G (later ++ h)) o ≡ front_of G (world G h) o) × IsKnown G (world G (later ++ h)) o
known_stays G later h l o k =
    let same = log_stays (inv_of G (later ++ h) l) (tells G later h) o.gen o.begin k.found in (
      same.0,
      record {
        found = same.1;
        gen = k.gen;
        log = k.log;
        durable = durable_on G later h l k.gen k.log k.durable;
        begins = subst (λ z. Front z k.log) (sym same.0) k.begins;
        by = k.by;
        answered = answered_stays (tells G later h) o.begin k.by k.answered;
      },
    )

-- a begin that was answered is known
pub pinged : (G : Setting) (h : List (ℕ × Event)) (o : Opened) → IsAnswered (world G h) o → Pinged (field (steps G h)) o.begin o.gen
pinged G h o a = record { node = a.node; ping = a.ping.it; mem = a.ping.mem; gen = a.ping.is.0; durable = a.ping.is.1 }

pub answered_known : (G : Setting) (h : List (ℕ × Event)) → AreLegalSteps G h → (o : Opened) → IsAnswered (world G h) o → IsKnown G (world G h) o
answered_known G h l o a =
    let p = pinged G h o a in
    let f : IsFoundAt G h o = found_by G h l o p in
    let named : front_of G (world G h) o ≡ f.log = ap (λ z. unwrap_or z []) f.found in
    let b = begins_of G (steps G h) (legal_steps G h l) o.begin o.gen p in
    let at : a.ping.it.durable ≡ o.begin = a.ping.is.1 in
    record {
      found = f.found ∙ ap (λ z. Some z) (sym named);
      gen = b.gen;
      log = b.log;
      durable = b.durable;
      begins = subst (λ z. Front z b.log) (sym (named ∙ f.as_durable b.gen b.log b.durable b.within)) (front_take o.begin b.log);
      by = o.gen;
      answered = inr (a.node, record { it = a.ping.it; mem = a.ping.mem; is = (a.ping.is.0, omega arith) });
    }
