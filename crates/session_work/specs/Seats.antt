-- Where a session stands in a history, and what its transaction was told.
--
--   the script         begin          a select of two rows        commit
--   the transaction    begun at 2     row, row, done              not told yet
--   told so far        begin 2        row                         due are: row, done
use Rattle.std.specs.Prelude.{ℕ, ◌≡◌, ◌==◌, ◌++◌, ◌∷◌, [], List, Some, None, false}
use Rattle.cdb_values.specs.declared.replies.Reply.{Reply}
use Rattle.cdb_values.specs.declared.replies.Reply.TheVariants as reply
use Rattle.cluster_consensus.specs.Facts.{World}
use Rattle.cluster_events.specs.Arms.{last_fired}
use Rattle.cluster_events.specs.Parts.{ActorEvent, Opened, Part}
use Rattle.cluster_events.specs.Settings.{Setting}
use Rattle.cluster_requests.specs.KeptEntries.{KeptEntry}
use Rattle.cluster_steps.specs.Guards.{AreLegalSteps, IsPlan}
use Rattle.cluster_steps.specs.Named.{rows_begun, steps}
use Rattle.cluster_steps.specs.declared.events.Event.{Event}
use Rattle.report_laws.specs.Told.{Numbered}
use Rattle.report_laws.specs.Work.{Transaction, WorkItem, Does}
use Rattle.session_fronts.specs.Fronts.{IsKnown}
use Rattle.session_language.specs.Answers.{Answers}
use Rattle.session_language.specs.Language.{Answered, alone}

-- an actor is a session: it let no arm fire, and waits for no barrier
pub record IsSeat (G : Setting) (s : ℕ) (seen : List (ℕ × Event)) : Type 0 where
  pub plan : IsPlan G
  pub legal : AreLegalSteps G seen
  pub other : (s == 0) ≡ false
  pub unarmed : last_fired s (steps G seen) ≡ None
  pub unbarred : (told : List Numbered) → G.phase s told ≡ 0
  pub answers : Answers G.language

-- what these texts are answered in a transaction that began so
abbrev pub answered_at : Setting → World KeptEntry → Opened → List (List ℕ) → Answered
answered_at G w o texts = alone G.language G.tables (rows_begun G w o) texts

-- a session is in a transaction that began so, with these items behind it; these of its texts are answered, and these replies to
-- them are still due
pub record Runs (G : Setting) (w : World KeptEntry) (p : Part) (t : Transaction) (others : List WorkItem) (o : Opened) (texts : List (List ℕ)) (due : List Reply) : Type 0 where
  pub left : p.left ≡ Does t ∷ others
  pub opened : p.opened ≡ Some o
  pub known : IsKnown G w o
  pub more : List (List ℕ)
  pub texts_are : t.texts ≡ texts ++ more
  pub said : List Reply
  pub mine : p.mine ≡ reply.Begin o.begin ∷ said
  pub rest : said ++ due ≡ (answered_at G w o texts).replies

-- a session is in no transaction, and these items are left
pub record Rests (p : Part) (items : List WorkItem) : Type 0 where
  pub left : p.left ≡ items
  pub opened : p.opened ≡ None
  pub mine : p.mine ≡ []

-- an event that sessions do
abbrev pub IsOfSession : ActorEvent → Type 0
IsOfSession (ActorEvent.Ask t) = Unit {0}
IsOfSession (ActorEvent.Begun b g) = Unit {0}
IsOfSession (ActorEvent.Say r) = Unit {0}
IsOfSession ActorEvent.Note = Unit {0}
IsOfSession (ActorEvent.Send x) = Unit {0}
IsOfSession (ActorEvent.Finish a) = Unit {0}
IsOfSession (ActorEvent.Move node) = Unit {0}
IsOfSession _ = ⊥
