-- On one node a report in the order of play of many is in that of one.
use Rattle.std.proofs.Common.{◌≡◌, ℕ, ◌+◌, ◌*◌, ◌≤◌, ◌==◌, ◌&&◌, List, [], ◌∷◌, ◌++◌, refl, sym, subst, ap, arith, append_assoc, ◌∙◌, Bool, true, false, if◌then◌else◌, ◌⊎◌, inl, inr, leb, length}
use Rattle.std.proofs.lemmas.Bool.{both_ways, false≢true, eqb-true, leb-true, eq-eqb}
use Rattle.std.specs.List.{AllByRecursion, list_any}
use Rattle.std.specs.Str.{bytes_eq}
use Rattle.script_form.specs.declared.scripts.BodyLine.{BodyLine}
use Rattle.script_form.specs.declared.scripts.Moment.{Moment}
use Rattle.script_form.specs.declared.scripts.Act.{Act}
use Rattle.script_form.specs.declared.scripts.Act.TheVariants as act
use Rattle.script_form.specs.declared.scripts.Script.{Script}
use Rattle.session_language.specs.Each.{EachAfter}
use Rattle.session_language.proofs.EachLaws.{all_append}
use Rattle.report_laws.specs.History.{Basis, view_of}
use Rattle.report_laws.specs.Nodes.{up_count, are_few}
use Rattle.report_laws.specs.Places.{HasItsPlace}
use Rattle.report_laws.specs.Play as today
use Rattle.report_laws.specs.View.{View}
use Rattle.report_text.specs.declared.reports.Report.{Report}
use Rattle.report_text.specs.declared.reports.EntryLine.{EntryLine}
use Rattle.report_text.specs.declared.reports.EntryLine.TheVariants.{Setup}
use Rattle.report_text.specs.declared.reports.Line.{Line}
use Rattle.report_text.specs.declared.reports.Line.TheVariants as line
use Rattle.report_laws.proofs.NodesLaws.{IsNoUp}
use Rattle.node_reports.specs.Arms.{waiting_by, waiting_from}
use Rattle.node_reports.specs.OneNode.{IsForOneNode, AreForOneNode, IsOfOneNode}
use Rattle.node_reports.specs.Order as new
use Rattle.node_reports.specs.Piece.{Saying, IsDue}
use Rattle.node_reports.proofs.OneNode.{IsFirstIfBegin, IsOnes}
use Rattle.node_reports.proofs.OnePiece.{one_piece, back_piece}
use Rattle.node_reports.proofs.PieceLines.{FallAtChanges, falls_are, and_one, each_front, each_back}

-- no arm waits
no_arms : (script : Script) (session : List ℕ) (arms : List Moment) (done : List BodyLine) → arms ≡ [] → AreForOneNode script done → waiting_from session arms done ≡ []
no_arms script session arms [] none plain = none
no_arms script session arms (b ∷ bs) none plain = go b.act plain.0 (λ next is. no_arms script session next bs is plain.1)
  where
    pick : (c : Bool) → (if c then [] else arms) ≡ []
    pick true = refl
    pick false = none

    go : (a : Act) → IsForOneNode script a → ((next : List Moment) → next ≡ [] → waiting_from session next bs ≡ []) → waiting_from session (waiting_by session arms a) bs ≡ []
    go (act.Say name text) is more = more _ (pick (bytes_eq name session))
    go (act.Stop node) is more = absurd is
    go (act.Start node) is more = absurd is
    go (act.Arm name when) is more = absurd is
    go act.Barrier is more = absurd is
    go act.Feed is more = absurd is

one_of : (n node : ℕ) → n ≡ 1 → (1 ≤ node) × (node ≤ n) → node ≡ 1
one_of n node one of = omega (arith, of.0, of.1, one)

-- the lines of a piece, and those of the opening, are of node 1
piece_ones : (s : Saying) (now after : ℕ) (front ls : List Line) → s.basis.script.nodes ≡ 1 → EachAfter (IsDue s now after) front ls → AllByRecursion IsOnes ls
piece_ones s now after front [] one each = tt
piece_ones s now after front (line.Session name txn r ∷ ls) one each = (tt, piece_ones s now after _ ls one each.1)
piece_ones s now after front (line.Down count node fault ∷ ls) one each = (one_of s.basis.script.nodes node one each.0.of_script, piece_ones s now after _ ls one each.1)
piece_ones s now after front (line.Up node ∷ ls) one each = absurd each.0
piece_ones s now after front (line.Barrier ∷ ls) one each = absurd each.0
piece_ones s now after front (line.Fed position ∷ ls) one each = absurd each.0

pub fault_ones : (script : Script) (before ls : List Line) → script.nodes ≡ 1 → EachAfter (new.IsFault script) before ls → AllByRecursion IsOnes ls
fault_ones script before [] one each = tt
fault_ones script before (line.Session name txn r ∷ ls) one each = absurd each.0
fault_ones script before (line.Down count node fault ∷ ls) one each = (one_of script.nodes node one each.0.of_script, fault_ones script _ ls one each.1)
fault_ones script before (line.Up node ∷ ls) one each = absurd each.0
fault_ones script before (line.Barrier ∷ ls) one each = absurd each.0
fault_ones script before (line.Fed position ∷ ls) one each = absurd each.0

fault_downs : (script : Script) (before ls : List Line) → EachAfter (new.IsFault script) before ls → AllByRecursion today.IsDownLine ls
fault_downs script before [] each = tt
fault_downs script before (line.Session name txn r ∷ ls) each = absurd each.0
fault_downs script before (line.Down count node fault ∷ ls) each = (tt, fault_downs script _ ls each.1)
fault_downs script before (line.Up node ∷ ls) each = absurd each.0
fault_downs script before (line.Barrier ∷ ls) each = absurd each.0
fault_downs script before (line.Fed position ∷ ls) each = absurd each.0

pub no_ups : (ls : List Line) → AllByRecursion IsOnes ls → AllByRecursion IsNoUp ls
no_ups [] all = tt
no_ups (line.Session name txn r ∷ ls) all = (tt, no_ups ls all.1)
no_ups (line.Down count node fault ∷ ls) all = (tt, no_ups ls all.1)
no_ups (line.Up node ∷ ls) all = absurd all.0
no_ups (line.Barrier ∷ ls) all = absurd all.0
no_ups (line.Fed position ∷ ls) all = absurd all.0

no_up_line : (ls : List Line) → AllByRecursion IsOnes ls → list_any new.is_up_line ls ≡ false
no_up_line [] all = refl
no_up_line (line.Session name txn r ∷ ls) all = no_up_line ls all.1
no_up_line (line.Down count node fault ∷ ls) all = no_up_line ls all.1
no_up_line (line.Up node ∷ ls) all = absurd all.0
no_up_line (line.Barrier ∷ ls) all = absurd all.0
no_up_line (line.Fed position ∷ ls) all = absurd all.0

turn_ones : (basis : Basis) (view : View) (done : List BodyLine) (before : List Line) (history : List EntryLine) (a : Act) (mine others : List Line) (added : List EntryLine) → basis.script.nodes ≡ 1 → IsForOneNode basis.script a →
    new.IsTurnOfNodes basis view done before history a mine others added → AllByRecursion IsOnes mine
turn_ones basis view done before history (act.Say session text) mine others added one plain is = piece_ones (new.saying basis view done before session text) (view_of basis history).last ((view_of basis history).last + length added) [] mine one is.each
turn_ones basis view done before history (act.Stop node) mine others added one plain is = absurd plain
turn_ones basis view done before history (act.Start node) mine others added one plain is = absurd plain
turn_ones basis view done before history (act.Arm session when) mine others added one plain is = absurd plain
turn_ones basis view done before history act.Barrier mine others added one plain is = absurd plain
turn_ones basis view done before history act.Feed mine others added one plain is = absurd plain

pub turns_ones : (basis : Basis) (view : View) (done : List BodyLine) (before : List Line) (history : List EntryLine) (bs : List BodyLine) (lines : List Line) (entries : List EntryLine) → basis.script.nodes ≡ 1 → basis.script.watches ≡ [] → AreForOneNode basis.script bs →
    new.InTurnsOfNodes basis view done before history bs lines entries → AllByRecursion IsOnes lines
turns_ones basis view done before history [] lines entries one unwatched plain is = subst (AllByRecursion IsOnes) (sym (is.0 ∙ ap (new.fed_of _) unwatched)) tt
turns_ones basis view done before history (b ∷ bs) lines entries one unwatched plain (mine, others, added, later, lines_are, entries_are, turn, rest) =
    subst (AllByRecursion IsOnes) (sym lines_are) (all_append IsOnes mine others (turn_ones basis view done before history b.act mine others added one plain.0 turn) (turns_ones basis view (done ++ b ∷ []) (before ++ mine) (history ++ added) bs others later one unwatched plain.1 rest))

one_turn : (basis : Basis) (view : View) (done : List BodyLine) (before : List Line) (history : List EntryLine) (a : Act) (mine others : List Line) (added : List EntryLine) → basis.script.nodes ≡ 1 → AreForOneNode basis.script done → IsForOneNode basis.script a →
    AllByRecursion IsOnes before → AllByRecursion IsNoUp others → new.IsTurnOfNodes basis view done before history a mine others added → today.IsTurnOf basis (view_of basis history).last done before a mine added × ((later : List Line) → FallAtChanges basis view (before ++ mine) later → FallAtChanges basis view before (mine ++ later))
one_turn basis view done before history (act.Say session text) mine others added one was plain ones no_up is =
    one_piece (new.saying basis view done before session text) one plain.0 plain.1 (no_arms basis.script session [] done refl was) ones (view_of basis history).last added mine others is no_up
one_turn basis view done before history (act.Stop node) mine others added one was plain ones no_up is = absurd plain
one_turn basis view done before history (act.Start node) mine others added one was plain ones no_up is = absurd plain
one_turn basis view done before history (act.Arm session when) mine others added one was plain ones no_up is = absurd plain
one_turn basis view done before history act.Barrier mine others added one was plain ones no_up is = absurd plain
one_turn basis view done before history act.Feed mine others added one was plain ones no_up is = absurd plain

one_more : (basis : Basis) (view : View) (done : List BodyLine) (before : List Line) (history : List EntryLine) (b : BodyLine) (bs : List BodyLine) (lines : List Line) (entries : List EntryLine) (mine others : List Line) (added later : List EntryLine) → lines ≡ mine ++ others → entries ≡ added ++ later →
    today.IsTurnOf basis (view_of basis history).last done before b.act mine added × ((more : List Line) → FallAtChanges basis view (before ++ mine) more → FallAtChanges basis view before (mine ++ more)) →
    today.InTurns basis (done ++ b ∷ []) (before ++ mine) (history ++ added) bs others later × FallAtChanges basis view (before ++ mine) others →
    today.InTurns basis done before history (b ∷ bs) lines entries × FallAtChanges basis view before lines
one_more basis view done before history b bs lines entries mine others added later lines_are entries_are here more =
    ((mine, others, added, later, lines_are, entries_are, here.0, more.0), subst (FallAtChanges basis view before) (sym lines_are) (here.1 others more.1))

pub one_turns : (basis : Basis) (view : View) (done : List BodyLine) (before : List Line) (history : List EntryLine) (bs : List BodyLine) (lines : List Line) (entries : List EntryLine) → basis.script.nodes ≡ 1 → basis.script.watches ≡ [] → AreForOneNode basis.script done → AreForOneNode basis.script bs →
    AllByRecursion IsOnes before → new.InTurnsOfNodes basis view done before history bs lines entries → today.InTurns basis done before history bs lines entries × FallAtChanges basis view before lines
one_turns basis view done before history [] lines entries one unwatched was plain ones is = ((is.0 ∙ ap (new.fed_of _) unwatched, is.1), subst (FallAtChanges basis view before) (sym (is.0 ∙ ap (new.fed_of _) unwatched)) tt)
one_turns basis view done before history (b ∷ bs) lines entries one unwatched was plain ones (mine, others, added, later, lines_are, entries_are, turn, rest) =
    one_more basis view done before history b bs lines entries mine others added later lines_are entries_are
    (one_turn basis view done before history b.act mine others added one was plain.0 ones (no_ups others (turns_ones basis view (done ++ b ∷ []) (before ++ mine) (history ++ added) bs others later one unwatched plain.1 rest)) turn)
    (one_turns basis view (done ++ b ∷ []) (before ++ mine) (history ++ added) bs others later one unwatched (all_append (λ b. IsForOneNode basis.script b.act) done (b ∷ []) was (plain.0, tt)) plain.1
    (all_append IsOnes before mine ones (turn_ones basis view done before history b.act mine others added one plain.0 turn)) rest)

-- at the opening: few are none, so the schema's entry stands where not few are up
few_none : (n up : ℕ) → n ≡ 1 → 1 ≤ up → (leb 1 n && leb (2 * up) n) ≡ true → ⊥
few_none n up one some few = let most : 2 * up ≤ n = (leb-true (2 * up) n) (and_one (leb 1 n) (leb (2 * up) n) few).1 in omega (arith, one, some, most)

opening_one : (basis : Basis) (first : List Line) (opened : List EntryLine) → basis.script.nodes ≡ 1 → AllByRecursion IsOnes first → new.IsOpened basis [] [] first opened → opened ≡ today.opened_behind basis first
opening_one basis first [] one ones is = go (are_few basis.script.nodes first) (basis.origin.position == 0) (λ e. is (eqb-true basis.origin.position 0 e) refl)
  where
    go : (few base : Bool) → (base ≡ true → few ≡ true) → [] ≡ (if few then [] else (if base then Setup 1 ∷ [] else []))
    go true base must = refl
    go false true must = absurd (false≢true (must refl))
    go false false must = refl
opening_one basis first (e ∷ es) one ones (none, is_setup, base, empty, why) =
    ap (λ (x : EntryLine). x ∷ es) is_setup ∙ ap (λ (x : List EntryLine). Setup 1 ∷ x) none ∙ go (are_few basis.script.nodes first) (basis.origin.position == 0) (eq-eqb basis.origin.position 0 base) (many why)
  where
    many : (are_few basis.script.nodes first ≡ false) ⊎ ((list_any new.is_fault first ≡ true) × ((1 ≤ up_count basis.script.nodes first) ⊎ (list_any new.is_up_line first ≡ true))) → are_few basis.script.nodes first ≡ true → ⊥
    many (inl enough) few = both_ways (are_few basis.script.nodes first) enough few
    many (inr (fault, inl some)) few = few_none basis.script.nodes (up_count basis.script.nodes first) one some few
    many (inr (fault, inr came)) few = both_ways (list_any new.is_up_line first) (no_up_line first ones) came

    go : (few base : Bool) → base ≡ true → (few ≡ true → ⊥) → Setup 1 ∷ [] ≡ (if few then [] else (if base then Setup 1 ∷ [] else []))
    go true base is never = absurd (never refl)
    go false true is never = refl
    go false false is never = absurd (false≢true is)

pub one_order : (basis : Basis) (report : Report) → IsOfOneNode basis.script → new.InNodesOrder basis report → today.InPlayOrder basis report
one_order basis report of order = record {
  first = order.first;
  go_down = fault_downs basis.script [] order.first order.go_down;
  rest = order.rest;
  lines_are = order.lines_are;
  later = order.later;
  opened = order.entries_are ∙ ap (λ (es : List EntryLine). es ++ order.later) opens;
  order = subst (λ (es : List EntryLine). today.InTurns basis [] order.first es basis.script.body order.rest order.later) opens turns.0;
  changes = falls_are basis (view_of basis report.entries) order.first order.rest turns.1;
}
  where
    ones : AllByRecursion IsOnes order.first
    ones = fault_ones basis.script [] order.first of.one order.go_down

    turns : today.InTurns basis [] order.first order.opening basis.script.body order.rest order.later × FallAtChanges basis (view_of basis report.entries) order.first order.rest
    turns = one_turns basis (view_of basis report.entries) [] order.first order.opening basis.script.body order.rest order.later of.one of.unwatched tt of.plain ones order.order

    opens : order.opening ≡ today.opened_behind basis order.first
    opens = opening_one basis order.first order.opening of.one ones order.opened

-- the other way

place_ones : (script : Script) (before ls : List Line) → script.nodes ≡ 1 → EachAfter (HasItsPlace script) before ls → AllByRecursion IsOnes ls
place_ones script before [] one each = tt
place_ones script before (line.Session name txn r ∷ ls) one each = (tt, place_ones script _ ls one each.1)
place_ones script before (line.Down count node fault ∷ ls) one each = (one_of script.nodes node one each.0.of_script, place_ones script _ ls one each.1)
place_ones script before (line.Up node ∷ ls) one each = absurd each.0
place_ones script before (line.Barrier ∷ ls) one each = absurd each.0
place_ones script before (line.Fed position ∷ ls) one each = absurd each.0

place_faults : (script : Script) (before ls : List Line) → EachAfter (HasItsPlace script) before ls → AllByRecursion today.IsDownLine ls → EachAfter (new.IsFault script) before ls
place_faults script before [] each all = tt
place_faults script before (line.Session name txn r ∷ ls) each all = absurd all.0
place_faults script before (line.Down count node fault ∷ ls) each all = (record { counted = each.0.counted; of_script = each.0.of_script; was_up = each.0.was_up; by_fault = each.0.by_fault }, place_faults script _ ls each.1 all.1)
place_faults script before (line.Up node ∷ ls) each all = absurd all.0
place_faults script before (line.Barrier ∷ ls) each all = absurd all.0
place_faults script before (line.Fed position ∷ ls) each all = absurd all.0

-- what a node that goes down finds, in a part of the lines
changes_front : (basis : Basis) (view : View) (before mine others : List Line) → today.GoDownAtChanges basis view before (mine ++ others) → today.GoDownAtChanges basis view before mine
changes_front basis view before mine others changes front back count node fault session number told is =
    changes front (back ++ others) count node fault session number told (ap (λ (ls : List Line). ls ++ others) is ∙ append_assoc front (line.Down count node fault ∷ line.Session session number told ∷ back) others)

changes_back : (basis : Basis) (view : View) (before mine others : List Line) → today.GoDownAtChanges basis view before (mine ++ others) → today.GoDownAtChanges basis view (before ++ mine) others
changes_back basis view before mine others changes front back count node fault session number told is =
    subst (λ (ls : List Line). today.HasChanges basis view ls session number) (sym (append_assoc before mine front))
    (changes (mine ++ front) back count node fault session number told (ap (λ (ls : List Line). mine ++ ls) is ∙ sym (append_assoc mine front (line.Down count node fault ∷ line.Session session number told ∷ back))))

back_turn : (basis : Basis) (view : View) (done : List BodyLine) (before : List Line) (history : List EntryLine) (a : Act) (mine others : List Line) (added : List EntryLine) → basis.script.nodes ≡ 1 → AreForOneNode basis.script done → IsForOneNode basis.script a →
    AllByRecursion IsOnes before → EachAfter IsFirstIfBegin before mine → today.GoDownAtChanges basis view before mine → today.IsTurnOf basis (view_of basis history).last done before a mine added → new.IsTurnOfNodes basis view done before history a mine others added
back_turn basis view done before history (act.Say session text) mine others added one was plain ones firsts changes is =
    back_piece (new.saying basis view done before session text) one plain.0 plain.1 (no_arms basis.script session [] done refl was) ones (view_of basis history).last mine others added firsts changes is
back_turn basis view done before history (act.Stop node) mine others added one was plain ones firsts changes is = absurd plain
back_turn basis view done before history (act.Start node) mine others added one was plain ones firsts changes is = absurd plain
back_turn basis view done before history (act.Arm session when) mine others added one was plain ones firsts changes is = absurd plain
back_turn basis view done before history act.Barrier mine others added one was plain ones firsts changes is = absurd plain
back_turn basis view done before history act.Feed mine others added one was plain ones firsts changes is = absurd plain

back_turns : (basis : Basis) (view : View) (done : List BodyLine) (before : List Line) (history : List EntryLine) (bs : List BodyLine) (lines : List Line) (entries : List EntryLine) → basis.script.nodes ≡ 1 → basis.script.watches ≡ [] → AreForOneNode basis.script done → AreForOneNode basis.script bs →
    AllByRecursion IsOnes before → EachAfter (HasItsPlace basis.script) before lines → EachAfter IsFirstIfBegin before lines → today.GoDownAtChanges basis view before lines → today.InTurns basis done before history bs lines entries → new.InTurnsOfNodes basis view done before history bs lines entries
back_turns basis view done before history [] lines entries one unwatched was plain ones places firsts changes is = (is.0 ∙ sym (ap (new.fed_of _) unwatched), is.1)
back_turns basis view done before history (b ∷ bs) lines entries one unwatched was plain ones places firsts changes (mine, others, added, later, lines_are, entries_are, turn, rest) = (
  mine,
  others,
  added,
  later,
  lines_are,
  entries_are,
  back_turn basis view done before history b.act mine others added one was plain.0 ones (each_front IsFirstIfBegin before mine others (subst (EachAfter IsFirstIfBegin before) lines_are firsts)) (changes_front basis view before mine others (subst (today.GoDownAtChanges basis view before) lines_are changes)) turn,
  back_turns basis view (done ++ b ∷ []) (before ++ mine) (history ++ added) bs others later one unwatched (all_append (λ b. IsForOneNode basis.script b.act) done (b ∷ []) was (plain.0, tt)) plain.1
      (all_append IsOnes before mine ones (place_ones basis.script before mine one (each_front (HasItsPlace basis.script) before mine others (subst (EachAfter (HasItsPlace basis.script) before) lines_are places))))
      (each_back (HasItsPlace basis.script) before mine others (subst (EachAfter (HasItsPlace basis.script) before) lines_are places)) (each_back IsFirstIfBegin before mine others (subst (EachAfter IsFirstIfBegin before) lines_are firsts)) (changes_back basis view before mine others (subst (today.GoDownAtChanges basis view before) lines_are changes)) rest,
)

back_opening : (basis : Basis) (first : List Line) → new.IsOpened basis [] [] first (today.opened_behind basis first)
back_opening basis first = go (are_few basis.script.nodes first) (basis.origin.position == 0) refl refl
  where
    go : (few base : Bool) → are_few basis.script.nodes first ≡ few → (basis.origin.position == 0) ≡ base → new.IsOpened basis [] [] first (if few then [] else (if base then Setup 1 ∷ [] else []))
    go true base is_few is_base = λ at empty. is_few
    go false true is_few is_base = (refl, refl, eqb-true basis.origin.position 0 is_base, refl, inl is_few)
    go false false is_few is_base = λ at empty. absurd (both_ways (basis.origin.position == 0) is_base (eq-eqb basis.origin.position 0 at))

pub back_order : (basis : Basis) (report : Report) → IsOfOneNode basis.script → EachAfter (HasItsPlace basis.script) [] report.lines → EachAfter IsFirstIfBegin [] report.lines → today.InPlayOrder basis report → new.InNodesOrder basis report
back_order basis report of places firsts order = record {
  first = order.first;
  go_down = place_faults basis.script [] order.first places_first order.go_down;
  opening = today.opened_behind basis order.first;
  opened = back_opening basis order.first;
  rest = order.rest;
  lines_are = order.lines_are;
  later = order.later;
  entries_are = order.opened;
  order = back_turns basis (view_of basis report.entries) [] order.first (today.opened_behind basis order.first) basis.script.body order.rest order.later of.one of.unwatched tt of.plain (place_ones basis.script [] order.first of.one places_first)
      (each_back (HasItsPlace basis.script) [] order.first order.rest placed) (each_back IsFirstIfBegin [] order.first order.rest (subst (EachAfter IsFirstIfBegin []) order.lines_are firsts)) order.changes order.order;
}
  where
    placed : EachAfter (HasItsPlace basis.script) [] (order.first ++ order.rest)
    placed = subst (EachAfter (HasItsPlace basis.script) []) order.lines_are places

    places_first : EachAfter (HasItsPlace basis.script) [] order.first
    places_first = each_front (HasItsPlace basis.script) [] order.first order.rest placed
