-- What the events of a node tell of the length of its log: how long it is, in which generation it is accepted, and
-- how long each log was that the node accepted, or led with.
--
-- With how long a log a node comes up no event tells; that is noted beside the history, of each time that the node
-- came up, the first one first.
use Rattle.std.specs.Prelude.{ℕ, ◌+◌, ◌==◌, ◌-◌, Bool, cond, true, false, List, [], ◌∷◌, ◌++◌, length, ltb, if◌then◌else◌, slice_get, unwrap_or}
use Rattle.cluster_steps.specs.declared.events.Event.{Event}
use Rattle.cluster_steps.specs.declared.events.Event.TheVariants as event
use Rattle.cluster_steps.specs.declared.events.Woken.{Woken}
use Rattle.cluster_steps.specs.declared.events.Woken.TheVariants as woken
use Rattle.history_base.specs.declared.sizes.Size.{Size}

-- how often the node came up, its log, and those that it accepted or led with, the first one first
pub record Sizes : Type 0 where
  pub ups : ℕ
  pub accepted : ℕ
  pub length : ℕ
  pub accepts : List Size
  pub leads : List Size

abbrev pub size : ℕ → ℕ → Size
size g l = record { generation = g; length = l }

abbrev pub no_sizes : Sizes
no_sizes = record { ups = 0; accepted = 0; length = 0; accepts = []; leads = [] }

-- it has a log in a generation
abbrev pub with_log : Sizes → ℕ → ℕ → Sizes
with_log t g l = record { ups = t.ups; accepted = g; length = l; accepts = t.accepts; leads = t.leads }

-- and accepted it, by this event
abbrev pub with_accepted : Sizes → ℕ → ℕ → Sizes
with_accepted t g l = record { ups = t.ups; accepted = g; length = l; accepts = t.accepts ++ size g l ∷ []; leads = t.leads }

-- and leads with it, or was about to
abbrev pub with_led : Sizes → ℕ → ℕ → Sizes
with_led t g l = record { ups = t.ups; accepted = g; length = l; accepts = t.accepts ++ size g l ∷ []; leads = t.leads ++ size g l ∷ [] }

abbrev pub once_more_up : Sizes → Sizes
once_more_up t = record { ups = t.ups + 1; accepted = t.accepted; length = t.length; accepts = t.accepts; leads = t.leads }

-- it comes up with a log: as it was, or with what was under way. An entry that was under way stands in it, or does not
abbrev pub woken_with : Sizes → Woken → ℕ → ℕ → Sizes
woken_with t (woken.First rows) g l = with_log t g l
woken_with t woken.AsLeft g l = with_log t g l
woken_with t woken.Led g l = with_led t g l
woken_with t woken.Took g l = with_accepted t g l
woken_with t woken.Appended g l = if ltb t.length l then with_accepted t g l else with_log t g l

abbrev pub up_with : Sizes → Woken → ℕ → ℕ → Sizes
up_with t how g l = once_more_up (woken_with t how g l)

-- the length that is noted of the time that it comes up next
abbrev pub length_at : List ℕ → ℕ → ℕ
length_at lengths at = unwrap_or (slice_get lengths at) 0

-- an event of the node
abbrev pub sized_by : List ℕ → Sizes → Event → Sizes
sized_by lengths t (event.Up how promised accepted entries) = up_with t how accepted (length_at lengths t.ups)
sized_by lengths t (event.Lead generation) = with_led t generation t.length
sized_by lengths t (event.Take generation l) = with_accepted t generation l
sized_by lengths t (event.Append next) = with_accepted t t.accepted (t.length + 1)
sized_by lengths t _ = t

-- a node's sizes after a history, the newest event first
abbrev pub sizes_of : ℕ → List ℕ → List (ℕ × Event) → Sizes
sizes_of k lengths [] = no_sizes
sizes_of k lengths (x ∷ h) = cond (k == x.0) (sized_by lengths (sizes_of k lengths h) x.1) (sizes_of k lengths h)

-- with how long a log it came up each time, the first one first
abbrev pub lengths_with : List ℕ → Event → List ℕ
lengths_with ls (event.Up how promised accepted entries) = ls ++ length entries.value ∷ []
lengths_with ls _ = ls

abbrev pub up_lengths : ℕ → List (ℕ × Event) → List ℕ
up_lengths k [] = []
up_lengths k (x ∷ h) = cond (k == x.0) (lengths_with (up_lengths k h) x.1) (up_lengths k h)
