-- Reports of several nodes that are not lawful, each by one law; and one that is none of a run by workers.
use Rattle.std.proofs.Common.{◌≡◌, ℕ, ◌+◌, ◌≤◌, List, [], ◌∷◌, ◌++◌, refl, sym, subst, ap, arith, ◌∙◌, Option, Some, None, true, false, not, if◌then◌else◌, ◌⊎◌, inl, inr, codes, take, drop}
use Rattle.std.proofs.lemmas.Bool.{true≢false}
use Rattle.std.specs.List.{AllByRecursion}
use Rattle.cdb_values.specs.declared.replies.Reply.TheVariants as reply
use Rattle.script_form.specs.declared.scripts.Act.{Act}
use Rattle.script_form.specs.declared.scripts.Act.TheVariants as act
use Rattle.script_form.specs.declared.scripts.BodyLine.{BodyLine}
use Rattle.script_form.specs.declared.scripts.Moment.{Moment}
use Rattle.session_language.proofs.AllLaws.{all_standing}
use Rattle.session_language.proofs.UpToLaws.{same_head, same_tail}
use Rattle.report_laws.specs.History.{view_of, Basis}
use Rattle.report_laws.specs.Told.{alone_at, numbered, IsCommitTold, IsToCommit, Numbered}
use Rattle.report_laws.specs.Work.{Transaction, transaction, ByRollback}
use Rattle.cdb_values.specs.declared.rows.Level.TheVariants.{Snapshot}
use Rattle.report_laws.proofs.EntryToldLaws.{commit_stands}
use Rattle.report_laws.proofs.PieceLaws.{all_at}
use Rattle.report_text.specs.declared.reports.Line.{Line}
use Rattle.report_text.specs.declared.reports.Line.TheVariants as line
use Rattle.node_laws.proofs.Reply.{same_some}
use Rattle.report_worked.specs.Small.{from_nothing}
use Rattle.report_worked.specs.Worked.{to_a}
use Rattle.node_reports.specs.Lawful.{LawfulOfNodes}
use Rattle.node_reports.specs.Operator.{barrier_lines, is_barrier, operators, StopsThere, BarsThere}
use Rattle.node_reports.specs.Site.{is_some}
use Rattle.node_reports.specs.Told.{MayEnd}
use Rattle.node_reports.specs.Workers.{IsToldAll, LawfulByWorkers}
use Rattle.node_stories.specs.StoriesWrong.{start_then_stop, up_by_an_earlier_start, barred_arm, stopped_before_the_barrier, rolled_and_lost, entry_of_a_rollback, watched_insert, too_many_taken, insert_and_select, read_ahead}

-- a line of the script that is no arm
abbrev IsNoArm : Act → Type 0
IsNoArm (act.Say session text) = Unit {0}
IsNoArm (act.Stop node) = Unit {0}
IsNoArm (act.Start node) = Unit {0}
IsNoArm (act.Arm session moment) = ⊥
IsNoArm act.Barrier = Unit {0}
IsNoArm act.Feed = Unit {0}

not_none : (l : Line) (ls : List Line) → l ∷ ls ≡ [] → ⊥
not_none l ls is = cc

down_or_up : (ls ms : List Line) → line.Down 1 2 false ∷ ls ≡ line.Up 2 ∷ ms → ⊥
down_or_up ls ms is = let head : line.Down 1 2 false ≡ line.Up 2 = same_head (line.Down 1 2 false) (line.Up 2) ls ms is in cc

down_or_barrier : (ls ms : List Line) → line.Down 1 2 false ∷ ls ≡ line.Barrier ∷ ms → ⊥
down_or_barrier ls ms is = let head : line.Down 1 2 false ≡ line.Barrier = same_head (line.Down 1 2 false) line.Barrier ls ms is in cc

no_arm_there : (what : Act) (session : List ℕ) (moment : Moment) → IsNoArm what → what ≡ act.Arm session moment → ⊥
no_arm_there what session moment is same = subst IsNoArm same is

-- where the first stop is by no arm, it is the operator's
module _ (arms : ℕ → Option ℕ) (none : arms 1 ≡ None) where
  down_told : (ms : List Line) → operators arms (line.Down 1 2 false ∷ ms) ≡ line.Down 1 2 false ∷ operators arms ms
  down_told ms = ap (λ (o : Option ℕ). if not (is_some o) then line.Down 1 2 false ∷ operators arms ms else operators arms ms) none

  some_told : (ms : List Line) → operators arms (line.Down 1 2 false ∷ ms) ≡ [] → ⊥
  some_told ms e = not_none (line.Down 1 2 false) (operators arms ms) (sym (down_told ms) ∙ e)

  both_told : (ms : List Line) → (operators arms (line.Down 1 2 false ∷ line.Up 2 ∷ ms) ≡ []) ⊎ ((count : ℕ) × (operators arms (line.Down 1 2 false ∷ line.Up 2 ∷ ms) ≡ line.Down count 2 false ∷ [])) → ⊥
  both_told ms (inl e) = some_told (line.Up 2 ∷ ms) e
  both_told ms (inr (count, e)) = not_none (line.Up 2) (operators arms ms) (same_tail (line.Down 1 2 false) (line.Down count 2 false) (line.Up 2 ∷ operators arms ms) [] (sym (down_told (line.Up 2 ∷ ms)) ∙ e))

  -- a stop that has its place there leaves the line that the node comes up to nobody
  stop_first : (mine later : List Line) → line.Down 1 2 false ∷ line.Up 2 ∷ [] ≡ mine ++ later → StopsThere arms [] mine 2 → operators arms later ≡ [] → ⊥
  stop_first [] later split stops closes = true≢false stops.is_down
  stop_first (x ∷ []) later split stops closes = not_none (line.Up 2) [] (ap (operators arms) (same_tail (line.Down 1 2 false) x (line.Up 2 ∷ []) later split) ∙ closes)
  stop_first (x ∷ y ∷ ms) later split stops closes = both_told ms (subst (λ (ls : List Line). (operators arms ls ≡ []) ⊎ ((count : ℕ) × (operators arms ls ≡ line.Down count 2 false ∷ []))) (sym both) stops.told)
    where
      both : line.Down 1 2 false ∷ line.Up 2 ∷ ms ≡ x ∷ y ∷ ms
      both = ap (λ (l : Line). l ∷ line.Up 2 ∷ ms) (same_head (line.Down 1 2 false) x (line.Up 2 ∷ []) (y ∷ (ms ++ later)) split)
          ∙ ap (λ (l : Line). x ∷ l ∷ ms) (same_head (line.Up 2) y [] (ms ++ later) (same_tail (line.Down 1 2 false) x (line.Up 2 ∷ []) (y ∷ (ms ++ later)) split))

  -- a start that stands before has none of the lines
  start_none : (mine later : List Line) → line.Down 1 2 false ∷ line.Up 2 ∷ [] ≡ mine ++ later → (operators arms mine ≡ []) ⊎ (operators arms mine ≡ line.Up 2 ∷ []) → mine ≡ []
  start_none [] later split told = refl
  start_none (x ∷ ms) later split told = absurd (go (subst (λ (ls : List Line). (operators arms ls ≡ []) ⊎ (operators arms ls ≡ line.Up 2 ∷ [])) (sym first) told))
    where
      first : line.Down 1 2 false ∷ ms ≡ x ∷ ms
      first = ap (λ (l : Line). l ∷ ms) (same_head (line.Down 1 2 false) x (line.Up 2 ∷ []) (ms ++ later) split)

      go : (operators arms (line.Down 1 2 false ∷ ms) ≡ []) ⊎ (operators arms (line.Down 1 2 false ∷ ms) ≡ line.Up 2 ∷ []) → ⊥
      go (inl e) = some_told ms e
      go (inr e) = down_or_up (operators arms ms) [] (sym (down_told ms) ∙ e)

  -- a barrier has it not before itself
  bar_first : (basis : Basis) (done : List BodyLine) (rest mine later : List Line) → line.Down 1 2 false ∷ rest ≡ mine ++ later → BarsThere basis arms done [] mine → ⊥
  bar_first basis done rest mine later split bars = go bars.front bars.alone (split ∙ ap (λ (ls : List Line). ls ++ later) bars.says)
    where
      go : (front : List Line) → operators arms front ≡ [] → line.Down 1 2 false ∷ rest ≡ (front ++ line.Barrier ∷ []) ++ later → ⊥
      go [] alone is = down_or_barrier rest later is
      go (x ∷ xs) alone is = some_told xs (ap (λ (l : Line). operators arms (l ∷ xs)) (same_head (line.Down 1 2 false) x rest ((xs ++ line.Barrier ∷ []) ++ later) is) ∙ alone)

-- a node does not come up by a start that stands before its stop
pub up_earlier_is_refused : LawfulOfNodes (from_nothing start_then_stop) up_by_an_earlier_start → ⊥
up_earlier_is_refused is = go (is.operator.arms 1) refl
  where
    walk : is.operator.arms 1 ≡ None → (mine later : List Line) → line.Down 1 2 false ∷ line.Up 2 ∷ [] ≡ mine ++ later → mine ≡ [] → (again rest : List Line) → later ≡ again ++ rest → StopsThere is.operator.arms ([] ++ mine) again 2 → operators is.operator.arms rest ≡ [] → ⊥
    walk none mine later split empty again rest more stops closes =
        stop_first is.operator.arms none again rest (split ∙ ap (λ (ls : List Line). ls ++ later) empty ∙ more) (subst (λ (ls : List Line). StopsThere is.operator.arms ls again 2) empty stops) closes

    go : (o : Option ℕ) → is.operator.arms 1 ≡ o → ⊥
    go None none =
        let h = is.operator.heeded in
        let k = h.4 in
        walk none h.0 h.1 h.2 (start_none is.operator.arms none h.0 h.1 h.2 h.3.told) k.0 k.1 k.2 k.3 k.4
    go (Some place) at =
        let it = is.operator.armed [] (line.Up 2 ∷ []) 1 2 place refl at in
        no_arm_there it.arm.act it.session it.moment (all_standing (λ (b : BodyLine). IsNoArm b.act) it.done (it.middle ++ it.next ∷ it.later) it.arm (subst (AllByRecursion (λ (b : BodyLine). IsNoArm b.act)) it.stands (tt, (tt, tt)))) it.is_arm

abbrev counts : Act → ℕ
counts a = if is_barrier a then 1 else 0

-- behind the arm the barrier stands before the session's next line
behind_bar : (second third : BodyLine) (middle later : List BodyLine) (next : BodyLine) (session text : List ℕ) → second ∷ third ∷ [] ≡ middle ++ next ∷ later → second.act ≡ act.Barrier → next.act ≡ act.Say session text → 0 ≡ barrier_lines middle → ⊥
behind_bar second third [] later next session text is bar says none = let same : second ≡ next = same_head second next (third ∷ []) later is in let no_such : act.Barrier ≡ act.Say session text = sym bar ∙ ap (λ (b : BodyLine). b.act) same ∙ says in cc
behind_bar second third (m ∷ middle) later next session text is bar says none =
    let same : second ≡ m = same_head second m (third ∷ []) (middle ++ next ∷ later) is in
    let one : counts m.act ≡ 1 = ap counts (ap (λ (b : BodyLine). b.act) (sym same) ∙ bar) in
    let all : 0 ≡ barrier_lines middle + counts m.act = none in
    omega (arith, all, one)

armed_behind : (done : List BodyLine) (first second third arm : BodyLine) (rest : List BodyLine) (session : List ℕ) (moment : Moment) → first ∷ second ∷ third ∷ [] ≡ done ++ arm ∷ rest → IsNoArm second.act → IsNoArm third.act → arm.act ≡ act.Arm session moment → (done ≡ []) × (second ∷ third ∷ [] ≡ rest)
armed_behind [] first second third arm rest session moment is no_second no_third armed = (refl, same_tail first arm (second ∷ third ∷ []) rest is)
armed_behind (d ∷ done) first second third arm rest session moment is no_second no_third armed =
    absurd (no_arm_there arm.act session moment (all_standing (λ (b : BodyLine). IsNoArm b.act) done rest arm (subst (AllByRecursion (λ (b : BodyLine). IsNoArm b.act)) (same_tail first d (second ∷ third ∷ []) (done ++ arm ∷ rest) is) (no_second, (no_third, tt)))) armed)

pub before_barrier_is_refused : LawfulOfNodes (from_nothing barred_arm) stopped_before_the_barrier → ⊥
before_barrier_is_refused is = go (is.operator.arms 1) refl
  where
    walk : is.operator.arms 1 ≡ None → (mine later : List Line) → stopped_before_the_barrier.lines ≡ mine ++ later → mine ≡ [] → (again rest : List Line) → later ≡ again ++ rest → BarsThere (from_nothing barred_arm) is.operator.arms (take 1 barred_arm.body) ([] ++ mine) again → ⊥
    walk none mine later split empty again rest more bars =
        bar_first is.operator.arms none (from_nothing barred_arm) (take 1 barred_arm.body) (drop 1 stopped_before_the_barrier.lines) again rest (split ∙ ap (λ (ls : List Line). ls ++ later) empty ∙ more)
        (subst (λ (ls : List Line). BarsThere (from_nothing barred_arm) is.operator.arms (take 1 barred_arm.body) ls again) empty bars)

    go : (o : Option ℕ) → is.operator.arms 1 ≡ o → ⊥
    go None none =
        let h = is.operator.heeded in
        let k = h.4 in
        walk none h.0 h.1 h.2 h.3 k.0 k.1 k.2 k.3
    go (Some place) at =
        let it = is.operator.armed [] (drop 1 stopped_before_the_barrier.lines) 1 2 place refl at in
        let where_ = armed_behind it.done _ _ _ it.arm (it.middle ++ it.next ∷ it.later) it.session it.moment it.stands tt tt it.is_arm in
        let done : it.done ≡ [] = where_.0 in
        let side : 0 ≡ barrier_lines it.done + barrier_lines it.middle = it.side in
        let none : barrier_lines it.done ≡ 0 = ap barrier_lines done in
        behind_bar _ _ it.middle it.later it.next it.session it.text where_.1 refl it.is_next (omega (arith, side, none))

-- lines that tell of no commit
abbrev IsNoCommitLine : Line → Type 0
IsNoCommitLine (line.Session name txn (reply.Committed position)) = ⊥
IsNoCommitLine _ = Unit {0}

-- an entry of what was rolled back
pub rollback_is_refused : LawfulOfNodes (from_nothing rolled_and_lost) entry_of_a_rollback → ⊥
rollback_is_refused is = go is.answered.1.0.ends
  where
    its : transaction 1 (codes "insert into t values(1, 10)" ∷ []) Snapshot ByRollback ≡ is.answered.1.0.transaction
    its = same_some _ _ is.answered.1.0.is_its

    go : MayEnd 2 is.answered.1.0.transaction.end is.answered.1.0.outcome → ⊥
    go (inl at) =
        let h = is.answered.1.0 in
        let told : IsCommitTold (from_nothing rolled_and_lost) (view_of (from_nothing rolled_and_lost) entry_of_a_rollback.entries) entry_of_a_rollback.lines 2 (codes "a") 1 1 = record { transaction = h.transaction; is_its = h.is_its; within = h.within; ran = h.ran; is_ran = h.is_ran; outcome = h.outcome; ends = at; before = h.before; after = h.after; says = h.says } in
        all_at IsNoCommitLine entry_of_a_rollback.lines (to_a 1 (reply.Committed 2)) (tt, (tt, (tt, (tt, tt)))) (commit_stands _ _ entry_of_a_rollback.lines 2 (codes "a") 1 1 told)
    go (inr (cut, commit)) = subst (λ (t : Transaction). IsToCommit t.end) (sym its) commit

-- more is taken than was changed
pub too_many_is_refused : LawfulOfNodes (from_nothing watched_insert) too_many_taken → ⊥
too_many_is_refused is = let most : 2 ≤ 1 = is.feeds.0.most in omega (arith, most)

-- what is read ahead of its transaction is none of a run by workers
pub read_ahead_is_refused : LawfulByWorkers (from_nothing insert_and_select) read_ahead → ⊥
read_ahead_is_refused is = go told.before told.says
  where
    told : IsToldAll (from_nothing insert_and_select) (view_of (from_nothing insert_and_select) read_ahead.entries) [] (codes "a") 1 1
    told = is.none_ahead.0.0 (codes "a") 1 1 Snapshot (omega arith) refl

    go : (before : List Numbered) → [] ≡ before ++ (numbered 1 (reply.Begin 1 ∷ (alone_at (from_nothing insert_and_select) (view_of (from_nothing insert_and_select) read_ahead.entries) told.transaction 1).replies) ++ told.after) → ⊥
    go [] says = cc
    go (x ∷ xs) says = cc
