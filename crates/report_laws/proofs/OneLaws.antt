-- The law of one report: two reports of a script in which no transaction is cut short are the same, by induction over the script's lines.
use Rattle.std.proofs.Common.{◌≡◌, ℕ, ◌+◌, ◌-◌, ◌<◌, ◌≤◌, List, [], ◌∷◌, ◌++◌, refl, sym, subst, ap, arith, ◌∙◌, Option, Some, None, append_assoc, Bool, true, false, ◌==◌, if◌then◌else◌, ◌⊎◌, inl, inr}
use Rattle.std.proofs.lemmas.Bool.{true≢false}
use Rattle.std.proofs.lemmas.List.{append-nil}
use Rattle.std.specs.List.{AllByRecursion}
use Rattle.script_form.specs.declared.scripts.BodyLine.{BodyLine}
use Rattle.script_form.specs.declared.scripts.Act.{Act}
use Rattle.script_form.specs.declared.scripts.Act.TheVariants as act
use Rattle.script_form.specs.declared.scripts.Script.{Script}
use Rattle.report_laws.specs.History.{Basis, last_position, view_of}
use Rattle.session_language.specs.Answers.{Answers}
use Rattle.session_language.specs.Language.{Language, Kind}
use Rattle.report_laws.specs.Lawful.{Lawful}
use Rattle.report_laws.specs.One.{IsUncutLine, IsUncut}
use Rattle.report_laws.specs.Cut.{cuts}
use Rattle.report_laws.specs.Nodes.{are_few, up_count}
use Rattle.report_laws.specs.Play.{InPlayOrder, InTurns, IsTurn, IsTurnOf, IsSaid, IsLineAnswered, IsDownLine, opened_behind, node_of, number_told, is_own_by}
use Rattle.report_laws.specs.Told.{told, Along, IsTold, lines_of}
use Rattle.report_laws.specs.Work.{Transaction, WorkItem, Does, Lone, Place, start, work, items_at, place_from, place_after, said, said_by, transaction_of, numbered_among}
use Rattle.report_text.specs.declared.reports.Report.{Report}
use Rattle.report_text.specs.declared.reports.EntryLine.{EntryLine}
use Rattle.report_text.specs.declared.reports.EntryLine.TheVariants.{Setup, Commit}
use Rattle.report_text.specs.declared.reports.Line.{Line}
use Rattle.report_text.specs.declared.reports.Line.TheVariants as line
use Rattle.cdb_values.specs.declared.replies.Reply.{Reply}
use Rattle.cdb_values.specs.declared.replies.Reply.TheVariants as reply
use Rattle.session_language.proofs.AllLaws.{all_behind}
use Rattle.session_language.proofs.EachLaws.{all_front, all_map, all_found}
use Rattle.report_laws.proofs.PieceLaws.{under, under_append, under_own}
use Rattle.report_laws.proofs.RestLemmas.{items_are, rest_of, rest_rises, Rising, of_its_rest, told_lones, lones, lones_append}
use Rattle.report_laws.proofs.SoFarLemmas.{IsEnded, IsHeard, SoFar, same_name, so_far_next}
use Rattle.report_laws.proofs.DownLaws.{or_memory}
use Rattle.report_laws.proofs.TurnedLaws.{Given, Turned, begun_at, one_turn, turned}
use Rattle.report_laws.proofs.WorkLaws.{IsBelow, IsBegun, first_left, after_more, are_numbered, numbered_last, others_below}

-- what a lawful report in which no transaction is cut short says of its lines and entries
record Laws (basis : Basis) (lines : List Line) (entries : List EntryLine) : Type 0 where
  replies : (name : List ℕ) → Along (IsTold basis (view_of basis entries) name) (work basis.language name basis.script.body) (told name lines)
  uncut : AllByRecursion IsUncutLine lines

laws_on : (basis : Basis) (lines lines' : List Line) (entries entries' : List EntryLine) → lines ≡ lines' → entries ≡ entries' → Laws basis lines entries → Laws basis lines' entries'
laws_on basis lines lines' entries entries' same_lines same_entries laws =
    subst (λ (ls : List Line). Laws basis ls entries') same_lines (subst (λ (es : List EntryLine). Laws basis lines es) same_entries laws)

first_bound : (number : ℕ) (pending : Option (List (List ℕ))) → IsBegun number pending → 1 ≤ first_left number pending
first_bound number None begun = omega arith
first_bound number (Some texts) begun = begun

-- a line of the script that says nothing
abbrev pub IsQuiet : Act → Type 0
IsQuiet (act.Say session text) = ⊥
IsQuiet (act.Stop node) = Unit {0}
IsQuiet (act.Start node) = Unit {0}
IsQuiet (act.Arm session moment) = Unit {0}
IsQuiet act.Barrier = Unit {0}
IsQuiet act.Feed = Unit {0}

pub said_or_quiet : (a : Act) → ((session : List ℕ) × (text : List ℕ) × (a ≡ act.Say session text)) ⊎ IsQuiet a
said_or_quiet (act.Say session text) = inl (session, text, refl)
said_or_quiet (act.Stop node) = inr tt
said_or_quiet (act.Start node) = inr tt
said_or_quiet (act.Arm session moment) = inr tt
said_or_quiet act.Barrier = inr tt
said_or_quiet act.Feed = inr tt

pub quiet_turn : (basis : Basis) (now : ℕ) (done : List BodyLine) (before : List Line) (a : Act) (mine : List Line) (added : List EntryLine) → IsQuiet a → IsTurnOf basis now done before a mine added → (mine ≡ []) × (added ≡ [])
quiet_turn basis now done before (act.Say session text) mine added quiet turn = absurd quiet
quiet_turn basis now done before (act.Stop node) mine added quiet turn = turn
quiet_turn basis now done before (act.Start node) mine added quiet turn = turn
quiet_turn basis now done before (act.Arm session moment) mine added quiet turn = turn
quiet_turn basis now done before act.Barrier mine added quiet turn = turn
quiet_turn basis now done before act.Feed mine added quiet turn = turn

-- a line of a session that cuts nothing short, and by which no node goes down, is answered
uncut_answer : (script : Script) (now : ℕ) (before : List Line) (session : List ℕ) (number : ℕ) (kind : Kind) (pending : Option (List (List ℕ))) (mine : List Line) (added : List EntryLine) →
    AllByRecursion IsUncutLine mine → IsSaid script now before session number kind pending mine added → IsLineAnswered script now before session number kind pending mine added
uncut_answer script now before session number kind pending mine added uncut (inl is) = is
uncut_answer script now before session number kind pending mine added uncut (inr (inl is)) =
    absurd (true≢false (sym (or_memory (λ (r : Reply). cuts r ≡ true) (reply.Lost (node_of script session) is.down) is.told is.is_told refl refl) ∙ (subst (AllByRecursion IsUncutLine) is.says uncut).0))
uncut_answer script now before session number kind pending mine added uncut (inr (inr (inl is))) =
    absurd (true≢false (sym (or_memory (λ (r : Reply). cuts r ≡ true) (reply.NoMajority (up_count script.nodes before) script.nodes) is.told is.is_told refl refl) ∙ (subst (AllByRecursion IsUncutLine) is.says uncut).0))
uncut_answer script now before session number kind pending mine added uncut (inr (inr (inr is))) =
    absurd (all_behind IsUncutLine (lines_of session number is.front) _ (subst (AllByRecursion IsUncutLine) is.says uncut)).0

quiet_said : (name : List ℕ) (a : Act) → IsQuiet a → said_by name a [] ≡ []
quiet_said name (act.Say session text) quiet = absurd quiet
quiet_said name (act.Stop node) quiet = refl
quiet_said name (act.Start node) quiet = refl
quiet_said name (act.Arm session moment) quiet = refl
quiet_said name act.Barrier quiet = refl
quiet_said name act.Feed quiet = refl

-- after such a line each session is where it was
pub quiet_place : (language : Language) (name : List ℕ) (done : List BodyLine) (b : BodyLine) → IsQuiet b.act → place_after language name (done ++ b ∷ []) ≡ place_after language name done
quiet_place language name done b quiet =
    after_more language name done (b ∷ []) ∙ ap (λ (texts : List (List ℕ)). place_from language (place_after language name done) texts) (quiet_said name b.act quiet)

quiet_ended : (language : Language) (done : List BodyLine) (b : BodyLine) (e : EntryLine) → IsQuiet b.act → IsEnded language done e → IsEnded language (done ++ b ∷ []) e
quiet_ended language done b (Setup position) quiet is = tt
quiet_ended language done b (Commit position session txn begin level) quiet is = subst (λ (p : Place). txn < first_left p.number p.pending) (sym (quiet_place language session done b quiet)) is

quiet_so_far : (basis : Basis) (done : List BodyLine) (b : BodyLine) (before : List Line) (history : List EntryLine) → IsQuiet b.act → SoFar basis done before history → SoFar basis (done ++ b ∷ []) before history
quiet_so_far basis done b before history quiet was = record {
  heard = λ name. subst (λ (p : Place). IsHeard basis history p name before) (sym (quiet_place basis.language name done b quiet)) (was.heard name);
  ended = all_map (IsEnded basis.language done) (IsEnded basis.language (done ++ b ∷ [])) (λ e is. quiet_ended basis.language done b e quiet is) history was.ended;
}

said_first : (session text : List ℕ) (b : BodyLine) (bs : List BodyLine) → b.act ≡ act.Say session text → said session (b ∷ bs) ≡ text ∷ said session bs
said_first session text b bs is = rw is (rw (same_name session) refl)

-- a line of a session is answered, behind the script's lines `done`
abbrev IsAnsweredAt : Basis → List BodyLine → List Line → List EntryLine → List ℕ → List ℕ → List Line → List EntryLine → Type 0
IsAnsweredAt basis done before history session text mine added =
    IsLineAnswered basis.script (last_position basis.origin history) before session (number_told basis.language (place_after basis.language session done) text) (basis.language.kind text) (place_after basis.language session done).pending mine added

-- a piece of lines of which none cuts a transaction short
uncut_piece : (before mine others : List Line) → AllByRecursion IsUncutLine (before ++ (mine ++ others)) → AllByRecursion IsUncutLine mine
uncut_piece before mine others uncut = all_front IsUncutLine mine others (all_behind IsUncutLine before (mine ++ others) uncut)

-- at one line of the script
module _ (basis : Basis) (answers : Answers basis.language) (done : List BodyLine) (b : BodyLine) (bs : List BodyLine) (session text : List ℕ) (is_act : b.act ≡ act.Say session text) (is_body : basis.script.body ≡ done ++ b ∷ bs) where
  abbrev p : Place
  p = place_after basis.language session done

  work_is : work basis.language session basis.script.body ≡ p.over ++ rest_of basis.language p (text ∷ said session bs)
  work_is = ap (λ (body : List BodyLine). work basis.language session body) is_body
      ∙ ap items_at (after_more basis.language session done (b ∷ bs))
      ∙ ap (λ (texts : List (List ℕ)). items_at (place_from basis.language p texts)) (said_first session text b bs is_act)
      ∙ items_are basis.language p (text ∷ said session bs)

  begun : IsBegun p.number p.pending
  begun = (are_numbered basis.language (said session done)).begun

  abbrev bound : ℕ
  bound = first_left p.number p.pending

  -- what a report gives there
  given : (before others : List Line) (history added later : List EntryLine) (replies : List Reply) → SoFar basis done before history →
      Laws basis (before ++ (lines_of session (number_told basis.language p text) replies ++ others)) (history ++ (added ++ later)) →
      IsTurn (last_position basis.origin history) before session (number_told basis.language p text) (is_own_by (basis.language.kind text) p.pending) replies added →
      Given basis history added later (before ++ (lines_of session (number_told basis.language p text) replies ++ others)) before others session p text (said session bs) replies (basis.language.kind text) p.pending
  given before others history added later replies so_far laws turn = record {
    turn = turn;
    told = its;
    lone = lone;
    is_new = λ txn le at begin level stands. (let less : txn < first_left p.number p.pending = all_found (IsEnded basis.language done) history (at - (basis.origin.position + 1)) (Commit at session txn begin level) so_far.ended stands in omega (arith, le, less));
    mine = under_append session (number_told basis.language p text) before (lines_of session (number_told basis.language p text) replies ++ others)
        ∙ ap (λ (rs : List Reply). under session (number_told basis.language p text) before ++ rs) (under_append session (number_told basis.language p text) (lines_of session (number_told basis.language p text) replies) others
        ∙ ap (λ (rs : List Reply). rs ++ under session (number_told basis.language p text) others) (under_own session session (number_told basis.language p text) replies (same_name session)));
    unsaid = (so_far.heard session).unsaid;
    outside = (so_far.heard session).outside;
    going = (so_far.heard session).going;
    memory = laws.uncut;
    memory_before = all_front IsUncutLine before (lines_of session (number_told basis.language p text) replies ++ others) laws.uncut;
    answers = answers;
  }
    where
      lines : List Line
      lines = before ++ (lines_of session (number_told basis.language p text) replies ++ others)

      entries : List EntryLine
      entries = history ++ (added ++ later)

      its : (t : Transaction) (items : List WorkItem) → first_left p.number p.pending ≤ t.number → rest_of basis.language p (text ∷ said session bs) ≡ Does t ∷ items →
          IsTold basis (view_of basis entries) session (Does t) (under session t.number lines) × (transaction_of basis.language session t.number basis.script.body ≡ Some t)
      its t items le is = (
        of_its_rest (IsTold basis (view_of basis entries) session) bound p.over t items (told session lines) (first_bound p.number p.pending begun) le below rising (subst (λ (all : List WorkItem). Along (IsTold basis (view_of basis entries) session) all (told session lines)) split (laws.replies session)),
        ap (λ (all : List WorkItem). numbered_among t.number all) split ∙ numbered_last t.number t p.over items (others_below bound t.number p.over le below) refl,
      )
        where
          split : work basis.language session basis.script.body ≡ p.over ++ Does t ∷ items
          split = work_is ∙ ap (λ (rest : List WorkItem). p.over ++ rest) is

          below : AllByRecursion (IsBelow bound) p.over
          below = (are_numbered basis.language (said session done)).below

          rising : Rising bound (Does t ∷ items)
          rising = subst (λ (rest : List WorkItem). Rising bound rest) is (rest_rises basis.language p (text ∷ said session bs))

      lone : (answer : Reply) (items : List WorkItem) → rest_of basis.language p (text ∷ said session bs) ≡ Lone answer ∷ items → under session 0 lines ≡ lones p.over ++ answer ∷ lones items
      lone answer items is =
          told_lones (IsTold basis (view_of basis entries) session) (λ a mine told. told) (work basis.language session basis.script.body) (told session lines) 1 (omega arith)
          (subst (λ (all : List WorkItem). Rising 1 all) (sym (items_are basis.language start (said session basis.script.body))) (rest_rises basis.language start (said session basis.script.body)))
          (laws.replies session)
          ∙ ap lones (work_is ∙ ap (λ (rest : List WorkItem). p.over ++ rest) is)
          ∙ lones_append p.over (Lone answer ∷ items)

-- at a line of a session that is answered two reports print the same and append the same, and what is known of both goes on
answered_step : (basis : Basis) → Answers basis.language → (b : BodyLine) (session text : List ℕ) → b.act ≡ act.Say session text → (bs done : List BodyLine) (before : List Line) (history : List EntryLine) → basis.script.body ≡ done ++ b ∷ bs →
    SoFar basis done before history →
    (mine mine' others others' : List Line) (added added' later later' : List EntryLine) → Laws basis (before ++ (mine ++ others)) (history ++ (added ++ later)) → Laws basis (before ++ (mine' ++ others')) (history ++ (added' ++ later')) →
    IsAnsweredAt basis done before history session text mine added → IsAnsweredAt basis done before history session text mine' added' →
    (mine ≡ mine') × (added ≡ added') × SoFar basis (done ++ b ∷ []) (before ++ mine) (history ++ added)
unfolding given
answered_step basis answers b session text is_act bs done before history is_body so_far mine mine' others others' added added' later later' laws laws' is is' = (says ∙ ap lines_at same.0 ∙ sym says', same.1, so_far')
  where
    at : Place
    at = place_after basis.language session done

    rs : List Reply
    rs = is.replies

    rs' : List Reply
    rs' = is'.replies

    lines_at : List Reply → List Line
    lines_at r = lines_of session (number_told basis.language at text) r

    says : mine ≡ lines_at rs
    says = is.says

    says' : mine' ≡ lines_at rs'
    says' = is'.says

    g : Given basis history added later (before ++ (lines_at rs ++ others)) before others session at text (said session bs) rs (basis.language.kind text) at.pending
    g = given basis answers done b bs session text is_act is_body before others history added later rs so_far
        (subst (λ (ls : List Line). Laws basis (before ++ (ls ++ others)) (history ++ (added ++ later))) says laws) is.turn

    g' : Given basis history added' later' (before ++ (lines_at rs' ++ others')) before others' session at text (said session bs) rs' (basis.language.kind text) at.pending
    g' = given basis answers done b bs session text is_act is_body before others' history added' later' rs' so_far
        (subst (λ (ls : List Line). Laws basis (before ++ (ls ++ others')) (history ++ (added' ++ later'))) says' laws') is'.turn

    begin : ℕ
    begin = begun_at basis history at.pending (under session at.number before) (so_far.heard session).going

    does : Turned basis history session at text (basis.language.kind text) at.pending begin rs added
    does = turned basis history added later (before ++ (lines_at rs ++ others)) before others session at text (said session bs) rs (basis.language.kind text) at.pending g

    does' : Turned basis history session at text (basis.language.kind text) at.pending begin rs' added'
    does' = turned basis history added' later' (before ++ (lines_at rs' ++ others')) before others' session at text (said session bs) rs' (basis.language.kind text) at.pending g'

    same : (rs ≡ rs') × (added ≡ added')
    same = one_turn basis history session at text (basis.language.kind text) at.pending begin rs rs' added added' does does'

    so_far' : SoFar basis (done ++ b ∷ []) (before ++ mine) (history ++ added)
    so_far' = subst (λ (ls : List Line). SoFar basis (done ++ b ∷ []) (before ++ ls) (history ++ added)) (sym says)
        (so_far_next basis done b session text is_act before history added rs so_far (are_numbered basis.language (said session done)).begun does)

quiet_step : (basis : Basis) (b : BodyLine) → IsQuiet b.act → (done : List BodyLine) (before : List Line) (history : List EntryLine) → SoFar basis done before history →
    (mine mine' : List Line) (added added' : List EntryLine) →
    IsTurnOf basis (last_position basis.origin history) done before b.act mine added → IsTurnOf basis (last_position basis.origin history) done before b.act mine' added' →
    (mine ≡ mine') × (added ≡ added') × SoFar basis (done ++ b ∷ []) (before ++ mine) (history ++ added)
quiet_step basis b quiet done before history so_far mine mine' added added' turn turn' =
    let none : (mine ≡ []) × (added ≡ []) = quiet_turn basis (last_position basis.origin history) done before b.act mine added quiet turn in
    let none' : (mine' ≡ []) × (added' ≡ []) = quiet_turn basis (last_position basis.origin history) done before b.act mine' added' quiet turn' in (
      none.0 ∙ sym none'.0,
      none.1 ∙ sym none'.1,
      subst (λ (ls : List Line). SoFar basis (done ++ b ∷ []) ls (history ++ added)) (sym (ap (λ (ls : List Line). before ++ ls) none.0 ∙ append-nil before))
          (subst (λ (es : List EntryLine). SoFar basis (done ++ b ∷ []) before es) (sym (ap (λ (es : List EntryLine). history ++ es) none.1 ∙ append-nil history))
          (quiet_so_far basis done b before history quiet so_far)),
    )

-- and at each line of the script
one_step : (basis : Basis) → Answers basis.language → (b : BodyLine) (bs done : List BodyLine) (before : List Line) (history : List EntryLine) → basis.script.body ≡ done ++ b ∷ bs →
    SoFar basis done before history →
    (mine mine' others others' : List Line) (added added' later later' : List EntryLine) → Laws basis (before ++ (mine ++ others)) (history ++ (added ++ later)) → Laws basis (before ++ (mine' ++ others')) (history ++ (added' ++ later')) →
    IsTurnOf basis (last_position basis.origin history) done before b.act mine added → IsTurnOf basis (last_position basis.origin history) done before b.act mine' added' →
    (mine ≡ mine') × (added ≡ added') × SoFar basis (done ++ b ∷ []) (before ++ mine) (history ++ added)
one_step basis answers b bs done before history is_body so_far mine mine' others others' added added' later later' laws laws' turn turn' = go (said_or_quiet b.act)
  where
    go : ((session : List ℕ) × (text : List ℕ) × (b.act ≡ act.Say session text)) ⊎ IsQuiet b.act → (mine ≡ mine') × (added ≡ added') × SoFar basis (done ++ b ∷ []) (before ++ mine) (history ++ added)
    go (inl (session, text, is_act)) =
        answered_step basis answers b session text is_act bs done before history is_body so_far mine mine' others others' added added' later later' laws laws'
        (uncut_answer basis.script _ before session _ _ _ mine added (uncut_piece before mine others laws.uncut) (subst (λ (a : Act). IsTurnOf basis (last_position basis.origin history) done before a mine added) is_act turn))
        (uncut_answer basis.script _ before session _ _ _ mine' added' (uncut_piece before mine' others' laws'.uncut) (subst (λ (a : Act). IsTurnOf basis (last_position basis.origin history) done before a mine' added') is_act turn'))
    go (inr quiet) = quiet_step basis b quiet done before history so_far mine mine' added added' turn turn'

-- the lines and entries that are left are the same where those before are
one_rest : (basis : Basis) → Answers basis.language → (bs done : List BodyLine) (before : List Line) (history : List EntryLine) → basis.script.body ≡ done ++ bs →
    SoFar basis done before history →
    (lines lines' : List Line) (entries entries' : List EntryLine) → Laws basis (before ++ lines) (history ++ entries) → Laws basis (before ++ lines') (history ++ entries') →
    InTurns basis done before history bs lines entries → InTurns basis done before history bs lines' entries' → (lines ≡ lines') × (entries ≡ entries')
one_rest basis answers [] done before history is_body so_far lines lines' entries entries' laws laws' turns turns' = (turns.0 ∙ sym turns'.0, turns.1 ∙ sym turns'.1)
one_rest basis answers (b ∷ bs) done before history is_body so_far lines lines' entries entries' laws laws' (mine, others, added, later, ls_are, es_are, turn, rest) (mine', others', added', later', ls_are', es_are', turn', rest') =
    let split : Laws basis (before ++ (mine ++ others)) (history ++ (added ++ later)) = laws_on basis _ _ _ _ (ap (λ (ls : List Line). before ++ ls) ls_are) (ap (λ (es : List EntryLine). history ++ es) es_are) laws in
    let split' : Laws basis (before ++ (mine' ++ others')) (history ++ (added' ++ later')) = laws_on basis _ _ _ _ (ap (λ (ls : List Line). before ++ ls) ls_are') (ap (λ (es : List EntryLine). history ++ es) es_are') laws' in
    let step : (mine ≡ mine') × (added ≡ added') × SoFar basis (done ++ b ∷ []) (before ++ mine) (history ++ added) =
    one_step basis answers b bs done before history is_body so_far mine mine' others others' added added' later later' split split' turn turn' in
    let further : (others ≡ others') × (later ≡ later') =
    one_rest basis answers bs (done ++ b ∷ []) (before ++ mine) (history ++ added) (is_body ∙ sym (append_assoc done (b ∷ []) bs)) step.2 others others' later later'
    (laws_on basis _ _ _ _ (sym (append_assoc before mine others)) (sym (append_assoc history added later)) split)
    (laws_on basis _ _ _ _ (ap (λ (ls : List Line). before ++ (ls ++ others')) (sym step.0) ∙ sym (append_assoc before mine others'))
    (ap (λ (es : List EntryLine). history ++ (es ++ later')) (sym step.1) ∙ sym (append_assoc history added later')) split')
    rest
    (subst (λ (ls : List Line). InTurns basis (done ++ b ∷ []) (before ++ ls) (history ++ added) bs others' later') (sym step.0)
    (subst (λ (es : List EntryLine). InTurns basis (done ++ b ∷ []) (before ++ mine') (history ++ es) bs others' later') (sym step.1) rest')) in (
      ls_are ∙ ap (λ (ls : List Line). mine ++ ls) further.0 ∙ ap (λ (ls : List Line). ls ++ others') step.0 ∙ sym ls_are',
      es_are ∙ ap (λ (es : List EntryLine). added ++ es) further.1 ∙ ap (λ (es : List EntryLine). es ++ later') step.1 ∙ sym es_are',
    )

-- nothing is known, and nothing wrong, before the first line
so_far_none : (basis : Basis) → SoFar basis [] [] (opened_behind basis [])
so_far_none basis = record { heard = λ name. record { outside = refl; unsaid = λ n new. refl; going = tt }; ended = none (are_few basis.script.nodes []) (basis.origin.position == 0) }
  where
    none : (few b : Bool) → AllByRecursion (IsEnded basis.language []) (if few then [] else if b then Setup 1 ∷ [] else [])
    none true b = tt
    none false true = (tt, tt)
    none false false = tt

-- no node goes down before the first line
no_first : (first rest : List Line) → AllByRecursion IsDownLine first → AllByRecursion IsUncutLine (first ++ rest) → first ≡ []
no_first [] rest down uncut = refl
no_first (line.Session name number answer ∷ ls) rest down uncut = absurd down.0
no_first (line.Down count node fault ∷ ls) rest down uncut = absurd uncut.0
no_first (line.Up node ∷ ls) rest down uncut = absurd down.0
no_first (line.Barrier ∷ ls) rest down uncut = absurd down.0
no_first (line.Fed position ∷ ls) rest down uncut = absurd down.0

-- what a report in which no transaction is cut short is from the first line on
record Whole (basis : Basis) (report : Report) : Type 0 where
  later : List EntryLine
  entries_are : report.entries ≡ opened_behind basis [] ++ later
  order : InTurns basis [] [] (opened_behind basis []) basis.script.body report.lines later
  laws : Laws basis report.lines (opened_behind basis [] ++ later)

whole_report : (basis : Basis) (report : Report) → Lawful basis report → InPlayOrder basis report → IsUncut report → Whole basis report
whole_report basis report lawful order uncut = record {
  later = order.later;
  entries_are = entries;
  order = subst (λ (ls : List Line). InTurns basis [] [] (opened_behind basis []) basis.script.body ls order.later) (sym lines)
      (subst (λ (ls : List Line). InTurns basis [] ls (opened_behind basis ls) basis.script.body order.rest order.later) none order.order);
  laws = laws_on basis report.lines report.lines report.entries (opened_behind basis [] ++ order.later) refl entries (record { replies = lawful.replies; uncut = uncut });
}
  where
    none : order.first ≡ []
    none = no_first order.first order.rest order.go_down (subst (AllByRecursion IsUncutLine) order.lines_are uncut)

    lines : report.lines ≡ order.rest
    lines = order.lines_are ∙ ap (λ (ls : List Line). ls ++ order.rest) none

    entries : report.entries ≡ opened_behind basis [] ++ order.later
    entries = order.opened ∙ ap (λ (ls : List Line). opened_behind basis ls ++ order.later) none

pub one_report : (basis : Basis) (report other : Report) → Answers basis.language →
    Lawful basis report → InPlayOrder basis report → IsUncut report → Lawful basis other → InPlayOrder basis other → IsUncut other → report ≡ other
unfolding whole_report
one_report basis report other answers lawful order uncut lawful' order' uncut' =
    λ j. record { lines = same.0 j; base = bases j; entries = entries j; feeds = feeds j; end = ends j }
  where
    w : Whole basis report
    w = whole_report basis report lawful order uncut

    w' : Whole basis other
    w' = whole_report basis other lawful' order' uncut'

    same : (report.lines ≡ other.lines) × (w.later ≡ w'.later)
    same = one_rest basis answers basis.script.body [] [] (opened_behind basis []) refl (so_far_none basis) report.lines other.lines w.later w'.later w.laws w'.laws w.order w'.order

    entries : report.entries ≡ other.entries
    entries = w.entries_are ∙ ap (λ (es : List EntryLine). opened_behind basis [] ++ es) same.1 ∙ sym w'.entries_are

    bases : report.base ≡ other.base
    bases = lawful.base ∙ sym lawful'.base

    feeds : report.feeds ≡ other.feeds
    feeds = lawful.feeds ∙ sym lawful'.feeds

    ends : report.end ≡ other.end
    ends = lawful.end ∙ ap (λ (es : List EntryLine). last_position basis.origin es) entries ∙ sym lawful'.end
