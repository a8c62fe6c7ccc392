-- What is asked of a setting.
use Rattle.std.specs.Prelude.{ℕ, ◌≤◌, List, ◌∷◌}
use Rattle.cluster_events.specs.Guards.{IsLegalHistory}
use Rattle.cluster_events.specs.Parts.{ActorEvent, part}
use Rattle.cluster_events.specs.Settings.{Setting}

-- how far a session is in the barriers never falls
abbrev pub Steady : Setting → Type 0
Steady G = (s : ℕ) (x : ℕ × ActorEvent) (h : List (ℕ × ActorEvent)) → IsLegalHistory G (x ∷ h) → G.phase s (part G s h).told ≤ G.phase s (part G s (x ∷ h)).told
