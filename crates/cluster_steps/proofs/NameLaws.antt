-- A name means the same behind a longer history, while its actor does nothing; only an ask has another ticket.
use Rattle.std.proofs.Common.{ℕ, ◌≡◌, List, [], ◌∷◌, length, refl, sym, subst, ap, ◌∙◌}
use Rattle.std.specs.Prelude.{◌==◌, cond, Some, Option}
use Rattle.cluster_consensus.specs.Events.{NodeEvent, change}
use Rattle.cluster_consensus.specs.Facts.{Own, World}
use Rattle.cluster_consensus.proofs.Invariant.{Inv}
use Rattle.cluster_events.specs.Parts.{ActorEvent, Opened, Part, part, field}
use Rattle.cluster_events.specs.Settings.{Setting}
use Rattle.cluster_requests.specs.KeptEntries.{KeptEntry, state_of}
use Rattle.cluster_steps.specs.Guards.{ComesUpWith, IsTakenLogFound, IsLineOf, IsToSend, IsLogFound, IsExact, answer_at}
use Rattle.cluster_steps.specs.Named.{log_named, named_up, named_reply, kept_over, sent_over, sent_of, rows_begun, current_transaction, begin_of, reply_in, named}
use Rattle.cluster_steps.specs.declared.events.Event.{Event}
use Rattle.cluster_steps.specs.declared.events.Event.TheVariants as event
use Rattle.cluster_steps.specs.declared.events.Woken.{Woken}
use Rattle.cluster_steps.specs.declared.events.Woken.TheVariants as woken
use Rattle.cluster_steps.proofs.FoundLaws.{log_stays}
use Rattle.cluster_steps.proofs.StepLaws.{ticket}
use Rattle.election_core.specs.More.{TellsMore}
use Rattle.phys_log.specs.declared.entries.Entry.{Entry}
use Rattle.report_laws.specs.Work.{WorkItem, Does, Lone}

-- how a node comes up
pub up_same : (n : ℕ) (w v : World KeptEntry) (o : Own KeptEntry) (how : Woken) (p a : ℕ) (es : List Entry) → Inv n v → TellsMore w v → IsTakenLogFound n w how a es
    → (named_up n v o how p a es ≡ named_up n w o how p a es) × IsTakenLogFound n v how a es
up_same n w v o (woken.First rows) p a es inv more x = (refl, tt)
up_same n w v o woken.AsLeft p a es inv more x = (refl, tt)
up_same n w v o woken.Led p a es inv more x = (refl, tt)
up_same n w v o woken.Took p a es inv more x =
    let f = log_stays inv more a (length es) x in
    (ap (λ (t : List KeptEntry). cond (a == o.accepted) (NodeEvent.BackGrow t) (NodeEvent.BackTake a t)) f.0, f.1)
up_same n w v o woken.Appended p a es inv more x = (refl, tt)

pub up_stays : (n i : ℕ) (w v : World KeptEntry) (how : Woken) (p a : ℕ) (es : List Entry) → Inv n v → TellsMore w v → v.nodes i ≡ w.nodes i
    → IsTakenLogFound n w how a es → ComesUpWith (change i (w.nodes i) (named_up n w (w.nodes i) how p a es)) p a es
    → (named_up n v (v.nodes i) how p a es ≡ named_up n w (w.nodes i) how p a es) × IsTakenLogFound n v how a es × ComesUpWith (change i (v.nodes i) (named_up n v (v.nodes i) how p a es)) p a es
up_stays n i w v how p a es inv more node told found =
    let s = up_same n w v (w.nodes i) how p a es inv more told in
    let q : named_up n v (v.nodes i) how p a es ≡ named_up n w (w.nodes i) how p a es = ap (λ (o : Own KeptEntry). named_up n v o how p a es) node ∙ s.0 in
    (q, s.1, subst (λ (o : Own KeptEntry). ComesUpWith (change i o (named_up n v o how p a es)) p a es) (sym node) (subst (λ c. ComesUpWith (change i (w.nodes i) c) p a es) (sym s.0) found))

-- the log over whose rows a session runs
begun_stays : (G : Setting) (w v : World KeptEntry) (o : Opened) → Inv G.nodes v → TellsMore w v → IsLogFound G.nodes w o.gen o.begin → (rows_begun G v o ≡ rows_begun G w o) × IsLogFound G.nodes v o.gen o.begin
begun_stays G w v o inv more x = let f = log_stays inv more o.gen o.begin x in (ap (λ l. state_of l) f.0, f.1)

send_same : (G : Setting) (w v : World KeptEntry) (i m g : ℕ) (p : Part) → Inv G.nodes v → TellsMore w v → IsToSend G w p
    → (sent_of G v i m g (current_transaction p.left) (begin_of p.opened) ≡ sent_of G w i m g (current_transaction p.left) (begin_of p.opened)) × IsToSend G v p
send_same G w v i m g p inv more x =
    let o : begin_of p.opened ≡ x.start = ap begin_of x.at.opened in
    let f = begun_stays G w v x.start inv more x.found in
    let q : rows_begun G v (begin_of p.opened) ≡ rows_begun G w (begin_of p.opened) = ap (λ z. rows_begun G v z) o ∙ (f.0 ∙ ap (λ z. rows_begun G w z) (sym o)) in (
      ap (λ rows. sent_over G rows i m g (current_transaction p.left) (begin_of p.opened)) q,
      record { txn = x.txn; start = x.start; at = x.at; found = f.1 },
    )

-- all events but an ask
pub same_name : (G : Setting) (g k : List (ℕ × ActorEvent)) (i : ℕ) (e : Event) → Inv G.nodes (field k).core → TellsMore (field g).core (field k).core
    → (field k).core.nodes i ≡ (field g).core.nodes i → part G i k ≡ part G i g → ((t : ℕ) → ticket (length g) e ≡ Some t → ⊥)
    → IsExact G g i e → (named G k i e ≡ named G g i e) × IsExact G k i e
same_name G g k i (event.Up how p a es) inv more node own other x =
    let u = up_stays G.nodes i (field g).core (field k).core how p a es.value inv more node x.0 x.1 in
    (ap ActorEvent.Node u.0, (u.1, u.2))
same_name G g k i (event.Lead gen) inv more node own other x = (refl, x ∙ ap (λ (o : Own KeptEntry). o.promised) (sym node))
same_name G g k i (event.Take gen l) inv more node own other x =
    let f = log_stays inv more gen l x in (
      ap (λ (o : Own KeptEntry). ActorEvent.Node (cond (gen == o.accepted) (NodeEvent.Grow (log_named G.nodes (field k).core gen l)) (NodeEvent.Take gen (log_named G.nodes (field k).core gen l)))) node
          ∙ ap (λ (t : List KeptEntry). ActorEvent.Node (cond (gen == ((field g).core.nodes i).accepted) (NodeEvent.Grow t) (NodeEvent.Take gen t))) f.0,
      f.1,
    )
same_name G g k i (event.Append next) inv more node own other x = (ap (λ (o : Own KeptEntry). ActorEvent.Node (NodeEvent.Append (kept_over o.log next.value))) node, tt)
same_name G g k i (event.Learn l) inv more node own other x = (ap (λ (o : Own KeptEntry). ActorEvent.Node (cond o.leading (NodeEvent.LearnLead l) (NodeEvent.LearnFollow l))) node, tt)
same_name G g k i (event.Reply told) inv more node own other x = (ap (λ (p : Part). named_reply p.left (reply_in told)) own, subst (λ (p : Part). IsLineOf G i p told (answer_at p.left (reply_in told))) (sym own) x)
same_name G g k i (event.Send m gen) inv more node own other x =
    let f = send_same G (field g).core (field k).core i m gen (part G i g) inv more x in (
      ap (λ (p : Part). ActorEvent.Send (sent_of G (field k).core i m gen (current_transaction p.left) (begin_of p.opened))) own ∙ ap ActorEvent.Send f.0,
      subst (λ (p : Part). IsToSend G (field k).core p) (sym own) f.1,
    )
same_name G g k i (event.Outcome told) inv more node own other x = (refl, subst (λ (p : Part). IsLineOf G i p told (reply_in told)) (sym own) x)
same_name G g k i event.Ask inv more node own other x = absurd (other (length g) refl)
same_name G g k i _ inv more node own other x = (refl, tt)
