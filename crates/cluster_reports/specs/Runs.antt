-- What a setting is of its script.
use Rattle.std.specs.Prelude.{ℕ, ◌≡◌, ◌+◌, ◌==◌, List, [], ◌∷◌, ◌++◌, length, true, false, ◌⊎◌}
use Rattle.std.specs.Str.{bytes_eq}
use Rattle.cluster_events.specs.ByScript.{AllHeed}
use Rattle.cluster_events.specs.Guards.{AreNamedApart, IsDone, IsLegalHistory, Rising}
use Rattle.cluster_events.specs.Operator.{duty}
use Rattle.cluster_events.specs.Parts.{ActorEvent, part}
use Rattle.cluster_events.specs.Settings.{Setting, line_of, lines_to_do, work_of}
use Rattle.cluster_reports.specs.SessionLines.{barriers_passed, IsAtNext}
use Rattle.cluster_requests.specs.KeptEntries.{KeptEntry}
use Rattle.node_reports.specs.Fed.{AreFeeds}
use Rattle.node_reports.specs.Lawful.{LawfulOfNodes}
use Rattle.node_reports.specs.Order.{last_fed}
use Rattle.report_laws.specs.History.{Basis, view_of}
use Rattle.report_laws.specs.Told.{Numbered}
use Rattle.report_laws.specs.Work.{said, work}
use Rattle.report_text.specs.declared.reports.EntryLine.{EntryLine}
use Rattle.report_text.specs.declared.reports.FeedLine.{FeedLine}
use Rattle.report_text.specs.declared.reports.Report.{Report}
use Rattle.session_language.specs.Answers.{Answers}

-- each name is that of an actor, or nobody's and without work
abbrev pub Covers : Setting → Type 0
Covers G = (name : List ℕ) → ((s : ℕ) × (G.names s ≡ name)) ⊎ ((work G.language name G.script.body ≡ []) × ((i : ℕ) → bytes_eq (G.names i) name ≡ false))

-- actors have names of their own, which are all names; the nodes are those of the script; and transactions are numbered upwards
pub record FitsScript (G : Setting) : Type 0 where
  pub apart : AreNamedApart G
  pub covers : Covers G
  pub nodes : G.nodes ≡ G.script.nodes
  pub rising : (s : ℕ) → Rising 0 (work_of G s)

-- what a setting says of the lines at which sessions are, it says by the script: each text is answered as it should; the
-- operator, who is called by a name too, says no line, and waits for no barrier, since it tells them; the barriers before a
-- session's line, and the arms that wait for it, are those of the script
pub record FollowsScript (G : Setting) : Type 0 where
  pub answers : Answers G.language
  pub operator : said (G.names 0) G.script.body ≡ []
  pub free : (told : List Numbered) → G.phase 0 told ≡ 0
  pub phase : (s : ℕ) → (s == 0) ≡ false → (told : List Numbered) → G.phase s told ≡ barriers_passed G.language (G.names s) [] G.script.body told
  pub armed : (s : ℕ) (told : List Numbered) (line : ℕ) → G.armed s told line ≡ true → IsAtNext G.language (G.names s) G.script.body line told

-- a history is by the script, and finished: the operator and the sessions did all their lines
pub record IsFinished (G : Setting) (h : List (ℕ × ActorEvent)) : Type 0 where
  pub by_script : AllHeed G (lines_to_do G) h
  pub operator : (duty (lines_to_do G) h).left ≡ []
  pub sessions : (s : ℕ) → IsDone G h s

-- entries of a log as a report tells them, of which the first one stands at that position
abbrev pub lines_from : ℕ → List KeptEntry → List EntryLine
lines_from k [] = []
lines_from k (e ∷ es) = line_of k e ∷ lines_from (k + 1) es

-- a report tells the entries of a log behind its first ones
abbrev pub AreEntriesBehind : List KeptEntry → List KeptEntry → List EntryLine → Type 0
AreEntriesBehind first log entries = (own : List KeptEntry) × (first ++ own ≡ log) × (entries ≡ lines_from (length first + 1) own)

-- a report is lawful with any feeds whose numbers fit its history: what consumers took is theirs to say
abbrev pub IsLawfulWithFeeds : Basis → Report → Type 0
IsLawfulWithFeeds basis report =
    (feeds : List FeedLine) → AreFeeds basis (view_of basis report.entries) (last_fed 0 report.lines) 1 basis.script.watches feeds → LawfulOfNodes basis (record report { feeds = feeds })
