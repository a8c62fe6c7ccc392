-- What an entry of a log is: of the run, or of a store of an earlier one.
--
-- A request is a transaction of its session with what that was answered on the rows at its begin position. An entry of the run
-- is the setup of the script's tables, over the empty log, or what is decided of a request over the entries before it.
use Rattle.std.specs.Prelude.{◌≡◌, ◌≢◌, ℕ, ◌+◌, ◌≤◌, List, [], ◌∷◌, ◌++◌, length, Some, None, ◌⊎◌}
use Rattle.cdb_values.specs.Changes.{changes_of}
use Rattle.cdb_values.specs.Good.{IsGood}
use Rattle.cdb_values.specs.Rows.{Rows, no_rows, apply_all}
use Rattle.cluster_events.specs.Parts.{ActorEvent, part, field}
use Rattle.cluster_events.specs.Settings.{Setting, work_of, kept_rows_at, run_alone, line_of, changes_in, log_view}
use Rattle.cluster_requests.specs.Identities.{identity_of, Lacks}
use Rattle.cluster_requests.specs.KeptEntries.{KeptEntry, state_of}
use Rattle.cluster_requests.specs.Requests.{Sent}
use Rattle.core_lists.specs.Lists.{In, Has}
use Rattle.phys_log.specs.declared.entries.CommitId.{CommitId}
use Rattle.report_laws.specs.Told.{IsToCommit}
use Rattle.report_laws.specs.View.{IsUntouched}
use Rattle.report_laws.specs.Work.{Transaction, Does}
use Rattle.report_text.specs.declared.reports.EntryLine.TheVariants as entries
use Rattle.session_language.specs.Touched.{used_at}

-- a request, over a log that it fits
pub record Request (G : Setting) (h : List (ℕ × ActorEvent)) (log : List KeptEntry) (x : Sent) : Type 0 where
  pub txn : Transaction
  pub in_work : In (Does txn) (work_of G x.by)
  pub name : x.id.session ≡ G.names x.by
  pub number : x.id.txn ≡ txn.number
  pub commits : IsToCommit txn.end
  pub level : x.level ≡ txn.level
  pub has_ops : x.ops ≢ []
  pub within : x.begin ≤ length log
  pub rows : Rows
  pub is_rows : rows ≡ kept_rows_at G log x.begin
  pub ops : x.ops ≡ (run_alone G rows txn).ops
  pub used : x.used ≡ used_at txn.level (run_alone G rows txn)
  pub began : In (record { txn = x.id.txn; begin = x.begin; gen = x.id.began }) (part G x.by h).begins

-- a commit of this run, over the entries before it
pub record Appended (G : Setting) (h : List (ℕ × ActorEvent)) (xs : List KeptEntry) (e : KeptEntry) : Type 0 where
  pub sent : Sent
  pub mem : In sent (field h).sends
  pub its_id : identity_of e ≡ Some sent.id
  pub its_line : (k : ℕ) → line_of k e ≡ entries.Commit k sent.id.session sent.id.txn sent.begin sent.level
  pub request : Request G h xs sent
  pub changes' : changes_in (Some e) ≡ changes_of sent.ops (state_of xs).next
  pub rows' : state_of (xs ++ e ∷ []) ≡ apply_all (state_of xs) sent.ops
  pub untouched : IsUntouched (log_view G xs) sent.begin (length xs + 1) sent.used
  pub good' : IsGood G.tables (apply_all (state_of xs) sent.ops).tables
  pub lacks : Lacks sent.id xs

-- the setup of this run
pub record SetUp (G : Setting) (xs : List KeptEntry) (e : KeptEntry) : Type 0 where
  pub none : xs ≡ []
  pub no_id : identity_of e ≡ None
  pub its_line : (k : ℕ) → line_of k e ≡ entries.Setup k
  pub changes' : changes_in (Some e) ≡ []
  pub rows' : state_of (xs ++ e ∷ []) ≡ no_rows G.tables

-- an entry of this run
abbrev pub New : Setting → List (ℕ × ActorEvent) → List KeptEntry → KeptEntry → Type 0
New G h xs e = SetUp G xs e ⊎ Appended G h xs e

-- of an earlier run
abbrev pub Old : List (ℕ × ActorEvent) → KeptEntry → Type 0
Old h e = (id : CommitId) → identity_of e ≡ Some id → Has (λ a. id.began ≤ a.accepted) (field h).core.admits

-- of an earlier run, or of this one
abbrev pub Rule : Setting → List (ℕ × ActorEvent) → List KeptEntry → KeptEntry → Type 0
Rule G h xs e = Old h e ⊎ New G h xs e
