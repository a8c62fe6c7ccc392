-- Whether a session sent its commit since its transaction began, by its own events; and where the commit was sent.
use Rattle.std.specs.Prelude.{ℕ, ◌≡◌, ◌==◌, cond, Bool, true, false, List, [], ◌∷◌}
use Rattle.cluster_events.specs.Parts.{ActorEvent}
use Rattle.cluster_events.specs.Parts.ActorEvent.{Begun, Send}
use Rattle.cluster_steps.specs.declared.events.Event.{Event}
use Rattle.cluster_steps.specs.declared.events.Event.TheVariants as event
use Rattle.core_lists.specs.Lists.{Each, Has}
use Rattle.cluster_requests.specs.Requests.{Sent}
use Rattle.phys_log.specs.declared.entries.CommitId.{CommitId}

abbrev pub sent_by : Bool → ActorEvent → Bool
sent_by b (Begun begin gen) = false
sent_by b (Send x) = true
sent_by b _ = b

-- whether it sent a commit since it began last, behind a history
abbrev pub has_sent : ℕ → List (ℕ × ActorEvent) → Bool
has_sent s [] = false
has_sent s (x ∷ h) = cond (s == x.0) (sent_by (has_sent s h) x.1) (has_sent s h)

-- an event that neither begins nor sends
abbrev pub IsNoSend : Event → Type 0
IsNoSend (event.Begun position generation) = ⊥
IsNoSend (event.Send master generation) = ⊥
IsNoSend _ = Unit {0}

-- no request with this identity was sent
abbrev pub AreUnsent : CommitId → List Sent → Type 0
AreUnsent id sends = Each (λ x. x.id ≡ id → ⊥) sends

-- a request with this identity was sent to this node in this generation, and none was sent elsewhere
pub record IsSentAlone (id : CommitId) (master gen : ℕ) (sends : List Sent) : Type 0 where
  pub sent : Has (λ x. (x.id ≡ id) × (x.to ≡ master) × (x.gen ≡ gen)) sends
  pub alone : Each (λ x. x.id ≡ id → (x.to ≡ master) × (x.gen ≡ gen)) sends
