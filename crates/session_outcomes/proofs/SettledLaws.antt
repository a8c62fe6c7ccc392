-- What a leader told of a request by its last step.
use Rattle.std.proofs.Common.{ℕ, ◌≡◌, ◌≤◌, List, [], ◌∷◌, ◌++◌, length, arith, refl, sym, subst, ap, ◌∙◌}
use Rattle.std.specs.Prelude.{◌==◌, Bool, true, false, cond, Some, unwrap_or}
use Rattle.std.proofs.lemmas.Bool.Decides.{Decides-eqb}
use Rattle.std.proofs.lemmas.List.{same_from_push}
use Rattle.std.proofs.lemmas.Option.{none-some}
use Rattle.std.specs.declared.snapshot.Snapshot.{Snapshot}
use Rattle.actor_trace.specs.History.{entries_of}
use Rattle.cdb_values.specs.declared.replies.Reply.{Reply}
use Rattle.cdb_values.specs.declared.replies.Reply.TheVariants as reply
use Rattle.cdb_values.specs.declared.tables.TableDef.{TableDef}
use Rattle.cluster_consensus.specs.Facts.{Own, World}
use Rattle.cluster_events.specs.Guards.{IsRefused}
use Rattle.cluster_events.specs.Parts.{ActorEvent, add_act, acts, field}
use Rattle.cluster_events.specs.Settings.{Setting}
use Rattle.cluster_requests.specs.KeptEntries.{KeptEntry}
use Rattle.cluster_requests.specs.Requests.{Field, Settled, field_after}
use Rattle.cluster_steps.specs.Named.{named, named_settled, refusal_line, steps, world}
use Rattle.cluster_steps.specs.declared.events.Event.{Event}
use Rattle.cluster_steps.specs.declared.events.Event.TheVariants as event
use Rattle.cluster_steps.proofs.StepLaws.{idle}
use Rattle.core_lists.specs.Lists.{In, Has}
use Rattle.core_lists.specs.Lists.In.{here, there}
use Rattle.core_lists.proofs.Lists.{each_more}
use Rattle.phys_log.specs.declared.entries.CommitId.{CommitId}
use Rattle.phys_log.specs.declared.requests.Decision.{Decision}
use Rattle.phys_log.specs.declared.requests.Decision.TheVariants as decision
use Rattle.session_fronts.specs.Rounds.{EndsWith}
use Rattle.session_fronts.proofs.RoundLaws.{no_push}
use Rattle.session_outcomes.specs.Sends.{IsSentAlone}

-- where an actor's last step stands in a history
pub record LastAt (k : ℕ) (e : Event) (h : List (ℕ × Event)) : Type 0 where
  pub later : List (ℕ × Event)
  pub before : List (ℕ × Event)
  pub whole : later ++ (k, e) ∷ before ≡ h
  pub none : entries_of k (later ++ (k, e) ∷ before) ≡ entries_of k ((k, e) ∷ before)

pub last_at : (k : ℕ) (e : Event) (h front : List (ℕ × Event)) (ticket : ℕ) → entries_of k h ≡ front ++ (ticket, e) ∷ [] → LastAt k e h
last_at k e [] front ticket is = no_push front (ticket, e) is
last_at k e (x ∷ h) front ticket is = go (last_at k e h front ticket) (k == x.0) refl is
  where
    go : (entries_of k h ≡ front ++ (ticket, e) ∷ [] → LastAt k e h) → (b : Bool) → (k == x.0) ≡ b → cond b (entries_of k h ++ (length h, x.1) ∷ []) (entries_of k h) ≡ front ++ (ticket, e) ∷ [] → LastAt k e (x ∷ h)
    go again true q is =
        let same : k ≡ x.0 = (Decides-eqb k x.0).0 q in
        let last : (length h, x.1) ≡ (ticket, e) = (same_from_push (entries_of k h) front (length h, x.1) (ticket, e) is).1 in
        let its : x.1 ≡ e = ap (λ (t : ℕ × Event). t.1) last in
        let y : (k, e) ≡ (x.0, x.1) = ap (λ t. (t, e)) same ∙ ap (λ t. (x.0, t)) (sym its) in
        record { later = []; before = h; whole = ap (λ (t : ℕ × Event). t ∷ h) y; none = refl }
    go again false q is =
        let r = again is in
        let own : entries_of k (x ∷ h) ≡ entries_of k h = ap (λ b. cond b (entries_of k h ++ (length h, x.1) ∷ []) (entries_of k h)) q in
        record {
          later = x ∷ r.later;
          before = r.before;
          whole = ap (λ t. x ∷ t) r.whole;
          none = ap (λ t. entries_of k (x ∷ t)) r.whole ∙ (own ∙ (ap (λ t. entries_of k t) (sym r.whole) ∙ r.none));
        }

-- a refusal that was told stays told
settles_step : (g : List (ℕ × ActorEvent)) (i : ℕ) (e : ActorEvent) (x : Settled) → In x (field g).settles → In x (field_after (add_act i e (acts g))).settles
settles_step g i (ActorEvent.Settle id why) x m = there m
settles_step g i (ActorEvent.Node e) x m = m
settles_step g i _ x m = m

pub settles_on : (G : Setting) (later h : List (ℕ × Event)) (x : Settled) → In x (field (steps G h)).settles → In x (field (steps G (later ++ h))).settles
settles_on G [] h x m = m
settles_on G (y ∷ later) h x m = settles_step (steps G (later ++ h)) y.0 (named G (steps G (later ++ h)) y.0 y.1) x (settles_on G later h x m)

-- a refusal of a request, by a node in a generation
abbrev pub IsSettledBy : Setting → List (ℕ × Event) → CommitId → Reply → ℕ → Type 0
IsSettledBy G h id told gen = Has (λ x. (x.id ≡ id) × (x.why ≡ told) × (x.gen ≡ gen)) (field (steps G h)).settles

settled_now : (G : Setting) (g : List (ℕ × ActorEvent)) (i : ℕ) (id : CommitId) (d : Decision) (told : Reply) → refusal_line G.tables d ≡ Some told
    → Has (λ x. (x.id ≡ id) × (x.why ≡ told) × (x.gen ≡ ((field g).core.nodes i).accepted)) (field ((i, named_settled G.tables id d) ∷ g)).settles
settled_now G g i id (decision.Repeat position) told is = absurd (none-some told is)
settled_now G g i id (decision.Conflict position item) told is =
    record { it = record { id = id; gen = ((field g).core.nodes i).accepted; by = i; log = ((field g).core.nodes i).log; why = unwrap_or (refusal_line G.tables (decision.Conflict position item)) reply.NoMemory }; mem = here; is = (refl, ap (λ z. unwrap_or z reply.NoMemory) is, refl) }
settled_now G g i id (decision.Duplicate position table key) told is =
    record { it = record { id = id; gen = ((field g).core.nodes i).accepted; by = i; log = ((field g).core.nodes i).log; why = unwrap_or (refusal_line G.tables (decision.Duplicate position table key)) reply.NoMemory }; mem = here; is = (refl, ap (λ z. unwrap_or z reply.NoMemory) is, refl) }
settled_now G g i id (decision.Commit next) told is = absurd (none-some told is)

core_same : (tables : List TableDef) (id : CommitId) (d : Decision) (i : ℕ) (g : List (ℕ × ActorEvent)) → (field ((i, named_settled tables id d) ∷ g)).core ≡ (field g).core
core_same tables id (decision.Repeat position) i g = refl
core_same tables id (decision.Conflict position item) i g = refl
core_same tables id (decision.Duplicate position table key) i g = refl
core_same tables id (decision.Commit next) i g = refl

-- whose last step told a refusal told it in the generation that it accepts
pub last_settled : (G : Setting) (h : List (ℕ × Event)) (i : ℕ) (id : Snapshot CommitId) (d : Snapshot Decision) (told : Reply) → refusal_line G.tables d.value ≡ Some told → EndsWith (event.Settle id d) (entries_of i h)
    → IsSettledBy G h id.value told ((world G h).nodes i).accepted
last_settled G h i id d told is ends = subst (λ z. IsSettledBy G z id.value told ((world G z).nodes i).accepted) r.whole there_on
  where
    r : LastAt i (event.Settle id d) h
    r = last_at i (event.Settle id d) h ends.front ends.ticket ends.is

    own : ((world G (r.later ++ (i, event.Settle id d) ∷ r.before)).nodes i).accepted ≡ ((world G r.before).nodes i).accepted
    own =
        ap (λ (o : Own KeptEntry). o.accepted) (idle G i r.later ((i, event.Settle id d) ∷ r.before) r.none)
        ∙ ap (λ (w : World KeptEntry). (w.nodes i).accepted) (core_same G.tables id.value d.value i (steps G r.before))

    there_on : IsSettledBy G (r.later ++ (i, event.Settle id d) ∷ r.before) id.value told ((world G (r.later ++ (i, event.Settle id d) ∷ r.before)).nodes i).accepted
    there_on =
        let x = settled_now G (steps G r.before) i id.value d.value told is in
        record { it = x.it; mem = settles_on G r.later ((i, event.Settle id d) ∷ r.before) x.it x.mem; is = (x.is.0, x.is.1, x.is.2 ∙ sym own) }

-- a refusal of a request that was sent there alone may be told, once its position is told durable in that generation
pub refused_by : (f : Field) (id : CommitId) (k : ℕ) (why : Reply) (master gen j : ℕ) → Has (λ x. (x.id ≡ id) × (x.why ≡ why) × (x.gen ≡ gen)) f.settles → IsSentAlone id master gen f.sends
    → Has (λ c. (c.gen ≡ gen) × (k ≤ length c.log)) (f.core.nodes j).durables → IsRefused f id k why
refused_by f id k why master gen j told sent long = record {
  settled = told.it;
  mem = told.mem;
  its_id = told.is.0;
  its_refusal = told.is.1;
  last = each_more (λ y its e. last_of y.gen told.it.gen gen (its e).1 told.is.2) sent.alone;
  node = j;
  durable = record { it = long.it; mem = long.mem; is = (long.is.0 ∙ sym told.is.2, long.is.1) };
}
  where
    last_of : (a b c : ℕ) → a ≡ c → b ≡ c → a ≤ b
    last_of a b c p q = omega (arith, p, q)
