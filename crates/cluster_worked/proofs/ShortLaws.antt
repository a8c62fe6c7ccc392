-- The runs without a master are legal, by their script, and finished; and their reports are lawful by the laws.
use Rattle.std.proofs.Common.{◌≡◌, ℕ, List, [], ◌∷◌, length, arith, refl, ap, subst, ◌∙◌}
use Rattle.std.specs.Prelude.{◌==◌, Bool, true, false, if◌then◌else◌}
use Rattle.std.specs.Str.{bytes_eq}
use Rattle.std.proofs.lemmas.Bool.Decides.{Decides-eqb}
use mathlib.Core.Logic.{inl, inr}
use Rattle.cdb_values.specs.Rows.{no_rows}
use Rattle.cdb_values.specs.declared.replies.Reply.TheVariants as reply
use Rattle.cdb_values.specs.declared.rows.Level.TheVariants.{Snapshot}
use Rattle.cluster_consensus.proofs.ThreeNodes.{first_has}
use Rattle.cluster_consensus.specs.Enabled.{Below}
use Rattle.cluster_consensus.specs.Events.NodeEvent.{Down, Asks}
use Rattle.cluster_consensus.specs.Facts.{Own}
use Rattle.cluster_events.specs.ByScript.{AllHeed}
use Rattle.cluster_events.specs.Guards.{IsLegalHistory, Rising}
use Rattle.cluster_events.specs.Parts.{ActorEvent, field, part}
use Rattle.cluster_events.specs.Parts.ActorEvent.{Finish}
use Rattle.cluster_events.specs.Settings.{basis_from, lines_to_do}
use Rattle.cluster_events.proofs.Stays.{part_left}
use Rattle.cluster_masters.proofs.MasterLaws.{some_in}
use Rattle.cluster_masters.specs.FirstMaster.{HasNoMaster}
use Rattle.cluster_masters.specs.Reported.{IsReported}
use Rattle.cluster_reports.proofs.NodesRuns as laws
use Rattle.cluster_reports.specs.Runs.{Covers, FitsScript, FollowsScript, IsFinished}
use Rattle.cluster_requests.specs.KeptEntries.{KeptEntry}
use Rattle.cluster_runs.proofs.WrittenLaws.{follows}
use Rattle.cluster_worked.proofs.Nodes.{keeps, of_three}
use Rattle.cluster_worked.proofs.SetUpLaws.{opened_heeded, opened_legal}
use Rattle.cluster_worked.proofs.WordLaws.{apart_names, long_name, no_name, other_name, words_answer}
use Rattle.cluster_worked.specs.Short.{body, setting, stopped_one, stopped, stopped_ask, without_master, refused_one, refused, refused_obeyed, refused_ask, without_nodes, report_by}
use Rattle.cluster_worked.specs.Words.{unwritten_of, words}
use Rattle.core_lists.proofs.Lists.{each_none, nothing}
use Rattle.core_lists.specs.Fronts.{Front}
use Rattle.core_lists.specs.Lists.{Has}
use Rattle.node_reports.specs.Fed.{AreFeeds}
use Rattle.node_reports.specs.Lawful.{LawfulOfNodes}
use Rattle.report_laws.specs.History.{view_of}
use Rattle.report_laws.specs.Work.{Transaction, WorkItem, WithItsLine, items_at, place_from, start, work}
use Rattle.report_text.specs.declared.reports.FeedLine.{FeedLine}
use Rattle.report_text.specs.declared.reports.Line.TheVariants as line
use Rattle.script_form.specs.declared.scripts.Act.TheVariants as act

-- a's one line is all work
abbrev work_by : Bool → List WorkItem
work_by is_a = items_at (place_from words start (if is_a then (119 ∷ []) ∷ [] else []))

work_is : (name : List ℕ) → work words name body ≡ work_by (bytes_eq (97 ∷ []) name)
work_is name = refl

no_work : (name : List ℕ) → bytes_eq (97 ∷ []) name ≡ false → work words name body ≡ []
no_work name a = work_is name ∙ ap (λ z. work_by z) a

no_left : (s : ℕ) → (97 == s) ≡ false → (h : List (ℕ × ActorEvent)) → (part setting s h).left ≡ []
no_left s a [] = no_work (s ∷ []) (other_name 97 s a)
no_left s a (x ∷ h) = part_left setting s x h (no_left s a h)

-- who did it where a did
done_by : (h : List (ℕ × ActorEvent)) → (part setting 97 h).left ≡ [] → (s : ℕ) → (part setting s h).left ≡ []
done_by h a s = go (97 == s) refl
  where
    go : (b : Bool) → (97 == s) ≡ b → (part setting s h).left ≡ []
    go true p = subst (λ j. (part setting j h).left ≡ []) ((Decides-eqb 97 s).0 p) a
    go false p = no_left s p h

-- the setting is of its script
rising_by : (a : Bool) → Rising 0 (work_by a)
rising_by true = (omega arith, tt)
rising_by false = tt

covered : Covers setting
covered [] = inr (no_work [] (no_name 97), λ i. no_name i)
covered (a ∷ []) = inl (a, refl)
covered (a ∷ b ∷ more) = inr (no_work (a ∷ b ∷ more) (long_name 97 a b more), λ i. long_name i a b more)

pub setting_fits : FitsScript setting
setting_fits = record { apart = apart_names body; covers = covered; nodes = refl; rising = λ s. rising_by (bytes_eq (97 ∷ []) (s ∷ [])) }

pub setting_follows : FollowsScript setting
setting_follows = follows (unwritten_of body) words_answer refl

abbrev its_txn : Transaction
its_txn = record { number = 1; texts = (119 ∷ []) ∷ []; level = Snapshot; end = WithItsLine }

-- two nodes are stopped
stopped_legal : IsLegalHistory setting stopped
stopped_legal = (refl, (((tt, tt), refl, omega arith, omega arith), (refl, (refl, (((tt, tt), refl, omega arith, omega arith), (refl, opened_legal body))))))

pub without_master_legal : IsLegalHistory setting without_master
without_master_legal = (
  (refl, refl, record { ask = 13; asked = refl; later = []; before = stopped_ask; split = refl; since = refl; few = refl }),
  (
    ((each_none, tt), omega arith, inr refl),
    (
      ((its_txn, record { others = []; is = refl }, record { are_all = refl; front = line.Down 1 1 false ∷ line.Down 2 2 false ∷ []; back = []; stands = refl; since = refl; are_up = refl; few = refl }, inl refl), omega arith),
      stopped_legal,
    ),
  ),
)

stopped_one_heeded : AllHeed setting (lines_to_do setting) stopped_one
stopped_one_heeded = (
  record { heeds = record { later = []; before = _; split = refl; same = refl; ordered = refl; line = 0; act = act.Stop 1; rest = (1, act.Stop 2) ∷ (3, act.Feed) ∷ []; next = refl; of_node = tt; since = refl; heeded = refl }; goes_on = tt },
  (
    record { heeds = (refl, inl (first_has (refl, refl))); goes_on = tt },
    (record { heeds = record { unordered = refl; line = 0; act = act.Stop 1; rest = (1, act.Stop 2) ∷ (3, act.Feed) ∷ []; next = refl; of_node = tt }; goes_on = tt }, opened_heeded body),
  ),
)

stopped_heeded : AllHeed setting (lines_to_do setting) stopped
stopped_heeded = (
  record { heeds = record { later = []; before = _; split = refl; same = refl; ordered = refl; line = 1; act = act.Stop 2; rest = (3, act.Feed) ∷ []; next = refl; of_node = tt; since = refl; heeded = refl }; goes_on = tt },
  (
    record { heeds = (refl, inl (first_has (refl, refl))); goes_on = tt },
    (record { heeds = record { unordered = refl; line = 1; act = act.Stop 2; rest = (3, act.Feed) ∷ []; next = refl; of_node = tt }; goes_on = tt }, stopped_one_heeded),
  ),
)

pub without_master_heeded : AllHeed setting (lines_to_do setting) without_master
without_master_heeded = (
  record { heeds = (3, [], refl); goes_on = tt },
  (
    record { heeds = λ z. (3, [], refl, λ e s ns some. absurd (some (done_by ((97, Finish (reply.NoMajority 1 3)) ∷ stopped) refl s))); goes_on = tt },
    (record { heeds = tt; goes_on = tt }, stopped_heeded),
  ),
)

pub without_master_done : IsFinished setting without_master
without_master_done = record { by_script = without_master_heeded; operator = refl; sessions = λ s. inl (done_by without_master refl s) }

-- no node accepted anything, so nobody is a master
pub nobody_led : HasNoMaster 3 (field without_master).core
nobody_led k l m d =
    let some = some_in d in
    of_three (λ j. Has (λ c. (c.gen ≡ l.gen) × Front l.log c.log) ((field without_master).core.nodes j).accepts → ⊥) (λ x. nothing x.mem) (λ x. nothing x.mem) (λ x. nothing x.mem) some.0 some.1 some.2 some.3

pub stopped_reported : IsReported 3 (field without_master).core 1
stopped_reported = of_three (λ k. Below ((field without_master).core.nodes k).accepted (length ((field without_master).core.nodes k).log) 0 0) (inr (refl, omega arith)) (inr (refl, omega arith)) (inr (refl, omega arith))

-- the feeds of a history without entries
abbrev its_feeds : List FeedLine
its_feeds = record { place = 1; table = 116 ∷ []; taken = 0; dropped = 0 } ∷ []

feeds_fit : AreFeeds (basis_from setting 0 (no_rows [])) (view_of (basis_from setting 0 (no_rows [])) []) 0 1 (0 ∷ []) its_feeds
feeds_fit = (record { is_place = refl; is_table = refl; most = omega arith; whole = λ e. refl }, refl)

pub stopped_lawful : LawfulOfNodes (basis_from setting 0 (no_rows [])) (report_by false)
stopped_lawful = laws.without_master setting setting_fits setting_follows without_master without_master_legal without_master_done 1 stopped_reported nobody_led its_feeds feeds_fit

-- the stores of two nodes are refused, and the third is not read
refused_legal : IsLegalHistory setting refused
refused_legal = (((tt, tt), tt, (omega arith, omega arith)), (((tt, tt), tt, (omega arith, omega arith)), tt))

pub without_nodes_legal : IsLegalHistory setting without_nodes
without_nodes_legal = (
  (refl, refl, record { ask = 7; asked = refl; later = []; before = refused_ask; split = refl; since = refl; few = refl }),
  (
    ((each_none, tt), omega arith, inr refl),
    (
      ((its_txn, record { others = []; is = refl }, record { are_all = refl; front = line.Down 1 1 true ∷ line.Down 2 2 true ∷ []; back = []; stands = refl; since = refl; are_up = refl; few = refl }, inl refl), omega arith),
      (refl, (refl, (refl, (refl, refused_legal)))),
    ),
  ),
)

refused_heeded : AllHeed setting (lines_to_do setting) refused
refused_heeded = (record { heeds = tt; goes_on = tt }, (record { heeds = tt; goes_on = tt }, tt))

refused_obeyed_heeded : AllHeed setting (lines_to_do setting) refused_obeyed
refused_obeyed_heeded = (
  record { heeds = record { later = []; before = _; split = refl; same = refl; ordered = refl; line = 1; act = act.Stop 2; rest = (3, act.Feed) ∷ []; next = refl; of_node = tt; since = refl; heeded = refl }; goes_on = tt },
  (
    record { heeds = record { unordered = refl; line = 1; act = act.Stop 2; rest = (3, act.Feed) ∷ []; next = refl; of_node = tt }; goes_on = tt },
    (
      record { heeds = record { later = []; before = _; split = refl; same = refl; ordered = refl; line = 0; act = act.Stop 1; rest = (1, act.Stop 2) ∷ (3, act.Feed) ∷ []; next = refl; of_node = tt; since = refl; heeded = refl }; goes_on = tt },
      (record { heeds = record { unordered = refl; line = 0; act = act.Stop 1; rest = (1, act.Stop 2) ∷ (3, act.Feed) ∷ []; next = refl; of_node = tt }; goes_on = tt }, refused_heeded),
    ),
  ),
)

without_nodes_heeded : AllHeed setting (lines_to_do setting) without_nodes
without_nodes_heeded = (
  record { heeds = (3, [], refl); goes_on = tt },
  (
    record { heeds = λ z. (3, [], refl, λ e s ns some. absurd (some (done_by ((97, Finish (reply.NoMajority 1 3)) ∷ refused_obeyed) refl s))); goes_on = tt },
    (record { heeds = tt; goes_on = tt }, refused_obeyed_heeded),
  ),
)

pub without_nodes_done : IsFinished setting without_nodes
without_nodes_done = record { by_script = without_nodes_heeded; operator = refl; sessions = λ s. inl (done_by without_nodes refl s) }

abbrev IsNew : Own KeptEntry → Type 0
IsNew o = o.was_up ≡ false

pub never_up : (k : ℕ) → ((field without_nodes).core.nodes k).was_up ≡ false
never_up k = keeps IsNew (field refused).core 0 (Asks 7) refl (keeps IsNew (field refused_one).core 2 Down refl (keeps IsNew (field []).core 1 Down refl (λ j. refl))) k

nobody_ever_led : HasNoMaster 3 (field without_nodes).core
nobody_ever_led k l m d =
    let some = some_in d in
    of_three (λ j. Has (λ c. (c.gen ≡ l.gen) × Front l.log c.log) ((field without_nodes).core.nodes j).accepts → ⊥) (λ x. nothing x.mem) (λ x. nothing x.mem) (λ x. nothing x.mem) some.0 some.1 some.2 some.3

refused_reported : IsReported 3 (field without_nodes).core 1
refused_reported = of_three (λ k. Below ((field without_nodes).core.nodes k).accepted (length ((field without_nodes).core.nodes k).log) 0 0) (inr (refl, omega arith)) (inr (refl, omega arith)) (inr (refl, omega arith))

pub refused_lawful : LawfulOfNodes (basis_from setting 0 (no_rows [])) (report_by true)
refused_lawful = laws.without_master setting setting_fits setting_follows without_nodes without_nodes_legal without_nodes_done 1 refused_reported nobody_ever_led its_feeds feeds_fit
