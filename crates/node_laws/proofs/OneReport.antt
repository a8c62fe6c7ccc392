-- The law of one report of several nodes: two reports of a script without arms of a commit, in which nothing fails, are the same, by
-- induction over the script's lines.
use Rattle.std.proofs.Common.{◌≡◌, ℕ, ◌+◌, ◌-◌, ◌≤◌, List, [], ◌∷◌, ◌++◌, refl, sym, subst, ap, arith, ◌∙◌, Some, append_assoc, Bool, true, false, if◌then◌else◌, ◌⊎◌, inl, inr}
use Rattle.std.proofs.lemmas.Bool.{both_ways, true≢false}
use Rattle.std.specs.List.{AllByRecursion, list_any}
use Rattle.std.specs.Str.{bytes_eq}
use Rattle.report_laws.specs.History.{Basis, last_position, view_of}
use Rattle.report_laws.specs.Nodes.{are_few, downs, is_up, up_count}
use Rattle.report_laws.specs.View.{View}
use Rattle.report_text.specs.declared.reports.EntryLine.{EntryLine}
use Rattle.report_text.specs.declared.reports.FeedLine.{FeedLine}
use Rattle.report_text.specs.declared.reports.Line.{Line}
use Rattle.report_text.specs.declared.reports.Line.TheVariants as line
use Rattle.report_text.specs.declared.reports.Report.{Report}
use Rattle.script_form.specs.declared.scripts.Act.{Act}
use Rattle.script_form.specs.declared.scripts.Act.TheVariants as act
use Rattle.script_form.specs.declared.scripts.BodyLine.{BodyLine}
use Rattle.script_form.specs.declared.scripts.Moment.{Moment}
use Rattle.script_form.specs.declared.scripts.Moment.TheVariants as moment
use Rattle.script_form.specs.declared.scripts.Script.{Script}
use Rattle.session_language.proofs.AllLaws.{all_behind}
use Rattle.session_language.proofs.EachLaws.{all_append, all_front, all_map}
use Rattle.session_language.specs.Answers.{Answers}
use Rattle.session_language.specs.Each.{EachAfter}
use Rattle.node_reports.specs.Arms.{of_commit, waiting_by, waiting_from}
use Rattle.node_reports.specs.Fed.{AreFeeds, IsFeedTold, events}
use Rattle.node_reports.specs.Lawful.{LawfulOfNodes}
use Rattle.node_reports.specs.Order.{Changes, InNodesOrder, InTurnsOfNodes, IsFault, IsOpened, IsStarted, IsStopped, IsTurnOfNodes, is_fault, is_up_line, last_fed}
use Rattle.node_laws.specs.Unhurt.{HasNoCommitArms, IsNoCommitArm, IsOfARow, IsUnhurt, IsUnhurtLine}
use Rattle.node_laws.proofs.Known.{BeginUpTo, IsAcknowledged, Known, begin_told, known_more}
use Rattle.node_laws.proofs.SamePiece.{Whole, one_piece}

-- no arm of a commit waits where the script has none

row_arm : (arms : List Moment) (when : Moment) → IsOfARow when → of_commit (arms ++ when ∷ []) ≡ of_commit arms
row_arm [] (moment.Row row) is = refl
row_arm [] moment.Append is = absurd is
row_arm [] moment.Ship is = absurd is
row_arm (moment.Row row ∷ arms) when is = row_arm arms when is
row_arm (moment.Append ∷ arms) when is = ap (λ (k : ℕ). k + 1) (row_arm arms when is)
row_arm (moment.Ship ∷ arms) when is = ap (λ (k : ℕ). k + 1) (row_arm arms when is)

rows_wait : (session : List ℕ) (arms : List Moment) (done : List BodyLine) → AllByRecursion (λ (b : BodyLine). IsNoCommitArm b.act) done → of_commit arms ≡ 0 → of_commit (waiting_from session arms done) ≡ 0
rows_wait session arms [] all none = none
rows_wait session arms (b ∷ bs) all none = rows_wait session (waiting_by session arms b.act) bs all.1 (by b.act all.0)
  where
    by : (a : Act) → IsNoCommitArm a → of_commit (waiting_by session arms a) ≡ 0
    by (act.Say name text) is = go (bytes_eq name session)
      where
        go : (b : Bool) → of_commit (if b then [] else arms) ≡ 0
        go true = refl
        go false = none
    by (act.Stop node) is = none
    by (act.Start node) is = none
    by (act.Arm name when) is = go (bytes_eq name session)
      where
        go : (b : Bool) → of_commit (if b then arms ++ when ∷ [] else arms) ≡ 0
        go true = row_arm arms when is ∙ none
        go false = none
    by act.Barrier is = none
    by act.Feed is = none

-- lines of which none tells of a fault
no_fault : (ls : List Line) → AllByRecursion IsUnhurtLine ls → list_any is_fault ls ≡ false
no_fault [] all = refl
no_fault (line.Session name txn r ∷ ls) all = no_fault ls all.1
no_fault (line.Down count node true ∷ ls) all = absurd (true≢false all.0)
no_fault (line.Down count node false ∷ ls) all = no_fault ls all.1
no_fault (line.Up node ∷ ls) all = no_fault ls all.1
no_fault (line.Barrier ∷ ls) all = no_fault ls all.1
no_fault (line.Fed position ∷ ls) all = no_fault ls all.1

no_faults : (script : Script) (before ls : List Line) → EachAfter (IsFault script) before ls → AllByRecursion IsUnhurtLine ls → ls ≡ []
no_faults script before [] each all = refl
no_faults script before (line.Session name txn r ∷ ls) each all = absurd each.0
no_faults script before (line.Down count node fault ∷ ls) each all = absurd (true≢false (sym each.0.by_fault ∙ all.0))
no_faults script before (line.Up node ∷ ls) each all = absurd each.0
no_faults script before (line.Barrier ∷ ls) each all = absurd each.0
no_faults script before (line.Fed position ∷ ls) each all = absurd each.0

-- where the schema's entry must not come in, it does not
not_both : (basis : Basis) (history : List EntryLine) (before mine : List Line) (e : EntryLine) (es : List EntryLine) → AllByRecursion IsUnhurtLine mine → IsOpened basis history before mine [] → IsOpened basis history before mine (e ∷ es) → ⊥
not_both basis history before mine e es unhurt is is' = go is'.4
  where
    go : (are_few basis.script.nodes (before ++ mine) ≡ false) ⊎ ((list_any is_fault mine ≡ true) × ((1 ≤ up_count basis.script.nodes (before ++ mine)) ⊎ (list_any is_up_line mine ≡ true))) → ⊥
    go (inl majority) = both_ways (are_few basis.script.nodes (before ++ mine)) majority (is is'.2 is'.3)
    go (inr (fault, some)) = both_ways (list_any is_fault mine) (no_fault mine unhurt) fault

-- the schema's entry comes in by both, or by neither
opened_one : (basis : Basis) (history : List EntryLine) (before mine : List Line) (added added' : List EntryLine) → AllByRecursion IsUnhurtLine mine → IsOpened basis history before mine added → IsOpened basis history before mine added' → added ≡ added'
opened_one basis history before mine [] [] unhurt is is' = refl
opened_one basis history before mine [] (e ∷ es) unhurt is is' = absurd (not_both basis history before mine e es unhurt is is')
opened_one basis history before mine (e ∷ es) [] unhurt is is' = absurd (not_both basis history before mine e es unhurt is' is)
opened_one basis history before mine (e ∷ es) (e' ∷ es') unhurt is is' =
    ap (λ (d : EntryLine). d ∷ es) (is.1 ∙ sym is'.1) ∙ ap (λ (ds : List EntryLine). e' ∷ ds) (is.0 ∙ sym is'.0)

opened_known : (basis : Basis) (history : List EntryLine) (before mine lines : List Line) (added : List EntryLine) → IsOpened basis history before mine added → AllByRecursion (IsAcknowledged lines) added
opened_known basis history before mine lines [] is = tt
opened_known basis history before mine lines (e ∷ es) is = (subst (IsAcknowledged lines) (sym is.1) tt, subst (AllByRecursion (IsAcknowledged lines)) (sym is.0) tt)

-- a stop and a start print the same
changed_one : (script : Script) (before : List Line) (node : ℕ) (up : Bool) (told : Line) (mine : List Line) → AllByRecursion IsUnhurtLine mine → Changes script before node up told mine → mine ≡ told ∷ []
changed_one script before node up told mine unhurt is =
    is.says ∙ ap (λ (ls : List Line). told ∷ ls) (no_faults script (before ++ told ∷ []) is.faults is.each (subst (AllByRecursion IsUnhurtLine) is.says unhurt).1)

-- what it prints: nothing, or that line
abbrev IsThat : List Line → ℕ → Bool → Line → List Line → Type 0
IsThat before node up told mine = ((is_up node before ≡ up) × (mine ≡ [])) ⊎ ((is_up node before ≡ up → ⊥) × (mine ≡ told ∷ []))

that_one : (before : List Line) (node : ℕ) (up : Bool) (told : Line) (mine mine' : List Line) → IsThat before node up told mine → IsThat before node up told mine' → mine ≡ mine'
that_one before node up told mine mine' (inl (was, is)) (inl (was', is')) = is ∙ sym is'
that_one before node up told mine mine' (inl (was, is)) (inr (not, is')) = absurd (not was)
that_one before node up told mine mine' (inr (not, is)) (inl (was, is')) = absurd (not was)
that_one before node up told mine mine' (inr (not, is)) (inr (not', is')) = is ∙ sym is'

other_way : (b : Bool) → b ≡ true → b ≡ false → ⊥
other_way b is is' = true≢false (sym is ∙ is')

stopped_that : (script : Script) (before : List Line) (node : ℕ) (mine : List Line) → AllByRecursion IsUnhurtLine mine → IsStopped script before node mine → IsThat before node false (line.Down (downs before + 1) node false) mine
stopped_that script before node mine unhurt (inl so) = inl (so.was, so.says)
stopped_that script before node mine unhurt (inr changes) = inr (other_way (is_up node before) changes.was, changed_one script before node true (line.Down (downs before + 1) node false) mine unhurt changes)

started_that : (script : Script) (before : List Line) (node : ℕ) (mine : List Line) → AllByRecursion IsUnhurtLine mine → IsStarted script before node mine → IsThat before node true (line.Up node) mine
started_that script before node mine unhurt (inl so) = inl (so.was, so.says)
started_that script before node mine unhurt (inr (inl changes)) = inr ((λ up. other_way (is_up node before) up changes.was), changed_one script before node false (line.Up node) mine unhurt changes)
started_that script before node mine unhurt (inr (inr fails)) = absurd (true≢false (subst (AllByRecursion IsUnhurtLine) fails.says unhurt).0)

that_begins : (now : ℕ) (before : List Line) (node : ℕ) (up : Bool) (told : Line) (mine : List Line) → BeginUpTo now (told ∷ []) → IsThat before node up told mine → BeginUpTo now mine
that_begins now before node up told mine none (inl (was, is)) = subst (BeginUpTo now) (sym is) tt
that_begins now before node up told mine none (inr (not, is)) = subst (BeginUpTo now) (sym is) none

-- at each line of the script

module _ (basis : Basis) (answers : Answers basis.language) where
  whole_on : (lines lines' : List Line) (entries entries' : List EntryLine) → lines ≡ lines' → entries ≡ entries' → Whole basis lines entries → Whole basis lines' entries'
  whole_on lines lines' entries entries' same_lines same_entries whole = subst (λ (ls : List Line). Whole basis ls entries') same_lines (subst (λ (es : List EntryLine). Whole basis lines es) same_entries whole)

  module _ (done : List BodyLine) (before : List Line) (history : List EntryLine) (no_arms : AllByRecursion (λ (b : BodyLine). IsNoCommitArm b.act) done) (known : Known basis.origin before history) where
    abbrev Step : List Line → List Line → List EntryLine → List EntryLine → Type 0
    Step mine mine' added added' = (mine ≡ mine') × (added ≡ added') × Known basis.origin (before ++ mine) (history ++ added)

    unhurt_mine : (mine others : List Line) (entries : List EntryLine) → Whole basis (before ++ (mine ++ others)) entries → AllByRecursion IsUnhurtLine mine
    unhurt_mine mine others entries whole = all_front IsUnhurtLine mine others (all_behind IsUnhurtLine before (mine ++ others) whole.unhurt)

    -- a line that is said, or nothing, and no entry
    plain_step : (mine mine' told : List Line) (added added' : List EntryLine) → BeginUpTo 0 told → mine ≡ told → mine' ≡ told → added ≡ [] → added' ≡ [] → Step mine mine' added added'
    plain_step mine mine' told added added' none is is' empty empty' = (
      is ∙ sym is',
      empty ∙ sym empty',
      known_more basis.origin before mine history added known
          (subst (BeginUpTo (last_position basis.origin (history ++ added))) (sym is) (all_map (λ (l : Line). begin_told l ≤ 0) (λ (l : Line). begin_told l ≤ last_position basis.origin (history ++ added)) (λ l le. omega (arith, le)) told none))
          (subst (AllByRecursion (IsAcknowledged (before ++ mine))) (sym empty) tt),
    )

    opened_step : (node : ℕ) (up : Bool) (told : Line) (mine mine' : List Line) (added added' : List EntryLine) → ((now : ℕ) → BeginUpTo now (told ∷ [])) → AllByRecursion IsUnhurtLine mine →
        IsThat before node up told mine → IsThat before node up told mine' → IsOpened basis history before mine added → IsOpened basis history before mine' added' → Step mine mine' added added'
    opened_step node up told mine mine' added added' none unhurt that that' opened opened' =
        let same : mine ≡ mine' = that_one before node up told mine mine' that that' in (
          same,
          opened_one basis history before mine added added' unhurt opened (subst (λ (ls : List Line). IsOpened basis history before ls added') (sym same) opened'),
          known_more basis.origin before mine history added known (that_begins _ before node up told mine (none (last_position basis.origin (history ++ added))) that) (opened_known basis history before mine (before ++ mine) added opened),
        )

    one_step : (a : Act) (mine mine' others others' : List Line) (added added' later later' : List EntryLine) → IsNoCommitArm a → Whole basis (before ++ (mine ++ others)) (history ++ (added ++ later)) → Whole basis (before ++ (mine' ++ others')) (history ++ (added' ++ later')) →
        IsTurnOfNodes basis (view_of basis (history ++ (added ++ later))) done before history a mine others added → IsTurnOfNodes basis (view_of basis (history ++ (added' ++ later'))) done before history a mine' others' added' → Step mine mine' added added'
    one_step (act.Say session text) mine mine' others others' added added' later later' arm whole whole' turn turn' =
        one_piece basis answers done before history session text known mine mine' others others' added added' later later' (rows_wait session [] done no_arms refl) whole whole' turn turn'
    one_step (act.Stop node) mine mine' others others' added added' later later' arm whole whole' turn turn' =
        opened_step node false (line.Down (downs before + 1) node false) mine mine' added added' (λ now. (omega arith, tt)) (unhurt_mine mine others _ whole)
        (stopped_that basis.script before node mine (unhurt_mine mine others _ whole) turn.0) (stopped_that basis.script before node mine' (unhurt_mine mine' others' _ whole') turn'.0) turn.1 turn'.1
    one_step (act.Start node) mine mine' others others' added added' later later' arm whole whole' turn turn' =
        opened_step node true (line.Up node) mine mine' added added' (λ now. (omega arith, tt)) (unhurt_mine mine others _ whole)
        (started_that basis.script before node mine (unhurt_mine mine others _ whole) turn.0) (started_that basis.script before node mine' (unhurt_mine mine' others' _ whole') turn'.0) turn.1 turn'.1
    one_step (act.Arm session moment) mine mine' others others' added added' later later' arm whole whole' turn turn' = plain_step mine mine' [] added added' tt turn.0 turn'.0 turn.1 turn'.1
    one_step act.Barrier mine mine' others others' added added' later later' arm whole whole' turn turn' = plain_step mine mine' (line.Barrier ∷ []) added added' (omega arith, tt) turn.0 turn'.0 turn.1 turn'.1
    one_step act.Feed mine mine' others others' added added' later later' arm whole whole' turn turn' = plain_step mine mine' _ added added' (omega arith, tt) turn.0 turn'.0 turn.1 turn'.1

  -- the lines and entries that are left are the same where those before are
  one_rest : (bs done : List BodyLine) (before : List Line) (history : List EntryLine) → AllByRecursion (λ (b : BodyLine). IsNoCommitArm b.act) done → AllByRecursion (λ (b : BodyLine). IsNoCommitArm b.act) bs → Known basis.origin before history →
      (lines lines' : List Line) (entries entries' : List EntryLine) → Whole basis (before ++ lines) (history ++ entries) → Whole basis (before ++ lines') (history ++ entries') →
      InTurnsOfNodes basis (view_of basis (history ++ entries)) done before history bs lines entries → InTurnsOfNodes basis (view_of basis (history ++ entries')) done before history bs lines' entries' → (lines ≡ lines') × (entries ≡ entries')
  one_rest [] done before history no_arms none known lines lines' entries entries' whole whole' turns turns' = (turns.0 ∙ sym turns'.0, turns.1 ∙ sym turns'.1)
  one_rest (b ∷ bs) done before history no_arms none known lines lines' entries entries' whole whole' (mine, others, added, later, ls_are, es_are, turn, rest) (mine', others', added', later', ls_are', es_are', turn', rest') =
      let split : Whole basis (before ++ (mine ++ others)) (history ++ (added ++ later)) = whole_on _ _ _ _ (ap (λ (ls : List Line). before ++ ls) ls_are) (ap (λ (es : List EntryLine). history ++ es) es_are) whole in
      let split' : Whole basis (before ++ (mine' ++ others')) (history ++ (added' ++ later')) = whole_on _ _ _ _ (ap (λ (ls : List Line). before ++ ls) ls_are') (ap (λ (es : List EntryLine). history ++ es) es_are') whole' in
      let step : (mine ≡ mine') × (added ≡ added') × Known basis.origin (before ++ mine) (history ++ added) =
      one_step done before history no_arms known b.act mine mine' others others' added added' later later' none.0 split split'
      (subst (λ (es : List EntryLine). IsTurnOfNodes basis (view_of basis (history ++ es)) done before history b.act mine others added) es_are turn)
      (subst (λ (es : List EntryLine). IsTurnOfNodes basis (view_of basis (history ++ es)) done before history b.act mine' others' added') es_are' turn') in
      let further : (others ≡ others') × (later ≡ later') =
      one_rest bs (done ++ b ∷ []) (before ++ mine) (history ++ added) (all_append (λ (c : BodyLine). IsNoCommitArm c.act) done (b ∷ []) no_arms (none.0, tt)) none.1 step.2 others others' later later'
      (whole_on _ _ _ _ (sym (append_assoc before mine others)) (sym (append_assoc history added later)) split)
      (whole_on _ _ _ _ (ap (λ (ls : List Line). before ++ (ls ++ others')) (sym step.0) ∙ sym (append_assoc before mine others'))
      (ap (λ (es : List EntryLine). history ++ (es ++ later')) (sym step.1) ∙ sym (append_assoc history added later')) split')
      (subst (λ (es : List EntryLine). InTurnsOfNodes basis (view_of basis es) (done ++ b ∷ []) (before ++ mine) (history ++ added) bs others later) (ap (λ (es : List EntryLine). history ++ es) es_are ∙ sym (append_assoc history added later)) rest)
      (subst (λ (ls : List Line). InTurnsOfNodes basis (view_of basis ((history ++ added) ++ later')) (done ++ b ∷ []) (before ++ ls) (history ++ added) bs others' later') (sym step.0)
      (subst (λ (es : List EntryLine). InTurnsOfNodes basis (view_of basis ((history ++ es) ++ later')) (done ++ b ∷ []) (before ++ mine') (history ++ es) bs others' later') (sym step.1)
      (subst (λ (es : List EntryLine). InTurnsOfNodes basis (view_of basis es) (done ++ b ∷ []) (before ++ mine') (history ++ added') bs others' later') (ap (λ (es : List EntryLine). history ++ es) es_are' ∙ sym (append_assoc history added' later')) rest'))) in (
        ls_are ∙ ap (λ (ls : List Line). mine ++ ls) further.0 ∙ ap (λ (ls : List Line). ls ++ others') step.0 ∙ sym ls_are',
        es_are ∙ ap (λ (es : List EntryLine). added ++ es) further.1 ∙ ap (λ (es : List EntryLine). es ++ later') step.1 ∙ sym es_are',
      )

  -- a report in which nothing fails, from the first line on
  record FromFirst (report : Report) : Type 0 where
    opening : List EntryLine
    later : List EntryLine
    opened : IsOpened basis [] [] [] opening
    entries_are : report.entries ≡ opening ++ later
    order : InTurnsOfNodes basis (view_of basis (opening ++ later)) [] [] opening basis.script.body report.lines later
    whole : Whole basis report.lines (opening ++ later)

  from_first : (report : Report) → LawfulOfNodes basis report → InNodesOrder basis report → IsUnhurt report → FromFirst report
  from_first report lawful order unhurt = record {
    opening = order.opening;
    later = order.later;
    opened = subst (λ (ls : List Line). IsOpened basis [] [] ls order.opening) none order.opened;
    entries_are = order.entries_are;
    order = subst (λ (es : List EntryLine). InTurnsOfNodes basis (view_of basis es) [] [] order.opening basis.script.body report.lines order.later) order.entries_are
        (subst (λ (ls : List Line). InTurnsOfNodes basis (view_of basis report.entries) [] [] order.opening basis.script.body ls order.later) (sym lines)
        (subst (λ (ls : List Line). InTurnsOfNodes basis (view_of basis report.entries) [] ls order.opening basis.script.body order.rest order.later) none order.order));
    whole = whole_on report.lines report.lines report.entries (order.opening ++ order.later) refl order.entries_are (record { replies = lawful.replies; history = lawful.history; answered = lawful.answered; unhurt = unhurt.lines });
  }
    where
      none : order.first ≡ []
      none = no_faults basis.script [] order.first order.go_down (all_front IsUnhurtLine order.first order.rest (subst (AllByRecursion IsUnhurtLine) order.lines_are unhurt.lines))

      lines : report.lines ≡ order.rest
      lines = order.lines_are ∙ ap (λ (ls : List Line). ls ++ order.rest) none

  -- feeds whose consumers all stayed are the same
  one_feed : (view : View) (position place watched : ℕ) (feed feed' : FeedLine) → feed.dropped ≡ 0 → feed'.dropped ≡ 0 → IsFeedTold basis view position place watched feed → IsFeedTold basis view position place watched feed' → feed ≡ feed'
  one_feed view position place watched feed feed' kept kept' is is' = λ j. record { place = places j; table = tables j; taken = takens j; dropped = droppeds j }
    where
      places : feed.place ≡ feed'.place
      places = is.is_place ∙ sym is'.is_place

      same_name : (t u : List ℕ) → Some t ≡ Some u → t ≡ u
      same_name t u e = cc

      tables : feed.table ≡ feed'.table
      tables = same_name feed.table feed'.table (sym is.is_table ∙ is'.is_table)

      takens : feed.taken ≡ feed'.taken
      takens = is.whole kept ∙ ap (λ (table : List ℕ). events view table basis.origin.position (position - basis.origin.position)) tables ∙ sym (is'.whole kept')

      droppeds : feed.dropped ≡ feed'.dropped
      droppeds = kept ∙ sym kept'

  one_feeds : (view : View) (position place : ℕ) (watches : List ℕ) (feeds feeds' : List FeedLine) → AllByRecursion (λ (f : FeedLine). f.dropped ≡ 0) feeds → AllByRecursion (λ (f : FeedLine). f.dropped ≡ 0) feeds' →
      AreFeeds basis view position place watches feeds → AreFeeds basis view position place watches feeds' → feeds ≡ feeds'
  one_feeds view position place [] feeds feeds' kept kept' is is' = is ∙ sym is'
  one_feeds view position place (watched ∷ more) [] feeds' kept kept' is is' = absurd is
  one_feeds view position place (watched ∷ more) (f ∷ fs) [] kept kept' is is' = absurd is'
  one_feeds view position place (watched ∷ more) (f ∷ fs) (f' ∷ fs') kept kept' is is' =
      ap (λ (x : FeedLine). x ∷ fs) (one_feed view position place watched f f' kept.0 kept'.0 is.0 is'.0) ∙ ap (λ (xs : List FeedLine). f' ∷ xs) (one_feeds view position (place + 1) more fs fs' kept.1 kept'.1 is.1 is'.1)

  pub one_report : (report other : Report) → HasNoCommitArms basis.script → LawfulOfNodes basis report → InNodesOrder basis report → IsUnhurt report → LawfulOfNodes basis other → InNodesOrder basis other → IsUnhurt other → report ≡ other
  one_report report other none lawful order unhurt lawful' order' unhurt' = λ j. record { lines = same.0 j; base = bases j; entries = entries j; feeds = feeds j; end = ends j }
    where
      w : FromFirst report
      w = from_first report lawful order unhurt

      w' : FromFirst other
      w' = from_first other lawful' order' unhurt'

      openings : w.opening ≡ w'.opening
      openings = opened_one basis [] [] [] w.opening w'.opening tt w.opened w'.opened

      known : Known basis.origin [] w.opening
      known = record { begins = tt; told = opened_known basis [] [] [] [] w.opening w.opened }

      same : (report.lines ≡ other.lines) × (w.later ≡ w'.later)
      same = one_rest basis.script.body [] [] w.opening tt none known report.lines other.lines w.later w'.later w.whole
          (subst (λ (es : List EntryLine). Whole basis other.lines (es ++ w'.later)) (sym openings) w'.whole) w.order
          (subst (λ (es : List EntryLine). InTurnsOfNodes basis (view_of basis (es ++ w'.later)) [] [] es basis.script.body other.lines w'.later) (sym openings) w'.order)

      entries : report.entries ≡ other.entries
      entries = w.entries_are ∙ ap (λ (es : List EntryLine). w.opening ++ es) same.1 ∙ ap (λ (es : List EntryLine). es ++ w'.later) openings ∙ sym w'.entries_are

      bases : report.base ≡ other.base
      bases = lawful.base ∙ sym lawful'.base

      ends : report.end ≡ other.end
      ends = lawful.end ∙ ap (λ (es : List EntryLine). last_position basis.origin es) entries ∙ sym lawful'.end

      feeds : report.feeds ≡ other.feeds
      feeds = one_feeds (view_of basis other.entries) (last_fed 0 other.lines) 1 basis.script.watches report.feeds other.feeds unhurt.feeds unhurt'.feeds
          (subst (λ (es : List EntryLine). AreFeeds basis (view_of basis es) (last_fed 0 other.lines) 1 basis.script.watches report.feeds) entries
          (subst (λ (ls : List Line). AreFeeds basis (view_of basis report.entries) (last_fed 0 ls) 1 basis.script.watches report.feeds) same.0 lawful.feeds))
          lawful'.feeds
