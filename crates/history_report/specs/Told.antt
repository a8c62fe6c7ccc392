-- What the events of a run tell, one after the other: the lines of its report.
--
-- An event of a node tells that this went down or came up; one of a session the line that it has, or its begin, with
-- the number of the session's transaction; one of the operator a barrier or a feed. Of the first time that a node
-- comes up nothing is told, unless the lines have it down.
use Rattle.std.specs.Prelude.{ℕ, ◌≡◌, ◌+◌, ◌-◌, Bool, List, [], ◌∷◌, ◌++◌, length, replicate, ltb, if◌then◌else◌, Option, Some, None, slice_get, slice_set, unwrap_or}
use Rattle.cluster_events.specs.Parts.{up_line}
use Rattle.cluster_events.specs.Settings.{Setting, work_of}
use Rattle.cluster_steps.specs.declared.events.Event.{Event}
use Rattle.cluster_steps.specs.declared.events.Event.TheVariants as event
use Rattle.cluster_steps.specs.declared.events.Woken.{Woken}
use Rattle.cluster_steps.specs.declared.events.Woken.TheVariants as woken
use Rattle.cdb_values.specs.declared.replies.Reply.TheVariants as reply
use Rattle.report_laws.specs.Nodes.{is_up}
use Rattle.report_text.specs.declared.reports.Line.{Line}
use Rattle.report_text.specs.declared.reports.Line.TheVariants as line
use Rattle.script_form.specs.declared.scripts.SessionLine.{SessionLine}

-- the lines so far, how many of them tell that a node went down, and how many transactions of each actor ended
pub record SoFar : Type 0 where
  pub lines : List Line
  pub downs : ℕ
  pub ended : List ℕ

-- the session that is an actor, of n nodes: the operator is the first actor, and the nodes come behind it
abbrev pub session_at : ℕ → List SessionLine → ℕ → Option SessionLine
session_at n sessions i = if ltb n i then slice_get sessions (i - (n + 1)) else None

abbrev pub name_of : Option SessionLine → List ℕ
name_of None = []
name_of (Some session) = session.name

-- the number of an actor's transaction where so many ended
abbrev pub number_in : List ℕ → ℕ → ℕ
number_in ended i = unwrap_or (slice_get ended i) 0 + 1

abbrev pub ended_in : List ℕ → ℕ → List ℕ
ended_in ended i = if ltb i (length ended) then slice_set ended i (number_in ended i) else ended

abbrev pub with_line : SoFar → Line → SoFar
with_line t l = record { lines = t.lines ++ l ∷ []; downs = t.downs; ended = t.ended }

-- a node went down
abbrev pub with_down : SoFar → ℕ → Bool → SoFar
with_down t i fault = record { lines = t.lines ++ line.Down (t.downs + 1) i fault ∷ []; downs = t.downs + 1; ended = t.ended }

-- it came up
abbrev pub up_lines : Woken → ℕ → List Line → List Line
up_lines (woken.First rows) i before = up_line (is_up i before) i
up_lines woken.AsLeft i before = line.Up i ∷ []
up_lines woken.Led i before = line.Up i ∷ []
up_lines woken.Took i before = line.Up i ∷ []
up_lines woken.Appended i before = line.Up i ∷ []

abbrev pub with_up : SoFar → Woken → ℕ → SoFar
with_up t how i = record { lines = t.lines ++ up_lines how i t.lines; downs = t.downs; ended = t.ended }

-- a session was told its begin
abbrev pub with_begin : SoFar → Option SessionLine → ℕ → ℕ → SoFar
with_begin t session i begin = with_line t (line.Session (name_of session) (number_in t.ended i) (reply.Begin begin))

-- how its transaction ended
abbrev pub with_outcome : SoFar → ℕ → Line → SoFar
with_outcome t i l = record { lines = t.lines ++ l ∷ []; downs = t.downs; ended = ended_in t.ended i }

-- an actor's event
abbrev pub with_event : ℕ → List SessionLine → SoFar → ℕ → Event → SoFar
with_event n sessions t i (event.Up how promised accepted entries) = with_up t how i
with_event n sessions t i (event.Down fault) = with_down t i fault
with_event n sessions t i (event.Begun position generation) = with_begin t (session_at n sessions i) i position
with_event n sessions t i (event.Reply told) = with_line t told
with_event n sessions t i (event.Outcome told) = with_outcome t i told
with_event n sessions t i event.Barrier = with_line t line.Barrier
with_event n sessions t i (event.Fed position generation) = with_line t (line.Fed position)
with_event n sessions t i (event.FedAgain position) = with_line t (line.Fed position)
with_event n sessions t i _ = t

abbrev pub nothing_told : ℕ → SoFar
nothing_told actors = record { lines = []; downs = 0; ended = replicate actors 0 }

-- a history, the newest event first, of n nodes and these sessions
abbrev pub told_by : ℕ → List SessionLine → List (ℕ × Event) → SoFar
told_by n sessions [] = nothing_told (n + 1 + length sessions)
told_by n sessions (x ∷ h) = with_event n sessions (told_by n sessions h) x.0 x.1

-- the actors that have work are the sessions, and are called so
pub record CallsSessions (G : Setting) (sessions : List SessionLine) : Type 0 where
  pub called : (i : ℕ) → (work_of G i ≡ [] → ⊥) → (session : SessionLine) × (session_at G.nodes sessions i ≡ Some session) × (G.names i ≡ session.name)
