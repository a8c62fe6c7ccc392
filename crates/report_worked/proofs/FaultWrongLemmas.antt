-- Reports in which the node goes down, or does not, that are wrong in one place, refuted.
use Rattle.std.proofs.Common.{◌≡◌, ℕ, ◌+◌, List, [], ◌∷◌, ◌++◌, refl, sym, subst, ap, arith, codes, inl, true, false, Bool, take, drop, ◌∙◌}
use Rattle.std.proofs.lemmas.List.{append-nil}
use Rattle.std.specs.List.{AllByRecursion}
use Rattle.report_laws.specs.History.{nothing_before, view_of}
use Rattle.report_laws.specs.Lawful.{Lawful}
use Rattle.report_laws.specs.Nodes.{downs}
use Rattle.report_laws.specs.Places.{IsLost}
use Rattle.report_laws.specs.Play.{InPlayOrder, opened_behind}
use Rattle.report_laws.specs.Told.{told, Along, IsTold, Numbered}
use Rattle.report_laws.specs.Work.{WorkItem, work}
use Rattle.report_text.specs.declared.reports.EntryLine.{EntryLine}
use Rattle.report_text.specs.declared.reports.EntryLine.TheVariants.{Setup}
use Rattle.report_text.specs.declared.reports.Line.{Line}
use Rattle.report_text.specs.declared.reports.Line.TheVariants as line
use Rattle.cdb_values.specs.declared.replies.Reply.{Reply}
use Rattle.cdb_values.specs.declared.replies.Reply.TheVariants as reply
use Rattle.session_language.proofs.UpToLaws.{same_tail}
use Rattle.report_laws.proofs.BeginLaws.{none_begins}
use Rattle.report_laws.proofs.LineLaws.{fresh_begin}
use Rattle.report_laws.proofs.NodesLaws.{downs_append, short_needs_down}
use Rattle.report_worked.specs.Worked.{insert_select, nothing_said, worked_table}
use Rattle.report_worked.specs.WorkedWrong.{IsRefusedBy, LinesHavePlaces, lost_twice, lost_late, short_while_up, down_misnumbered, down_twice, opened_while_down, begun_behind}
use Rattle.report_worked.specs.Small.{from_nothing, small_language}
use Rattle.report_worked.proofs.FaultLemmas.{down_at_first_is_lawful, lost_insert_is_lawful}
use Rattle.report_worked.proofs.InsertSelectLemmas.{items_of_a, work_of_a}
use Rattle.report_worked.proofs.SmallLaws.{statements_answer}
use Rattle.report_worked.proofs.WorkedLemmas.{along_each, along_parts, EachPart, cut, whole}

-- lost twice by one down line
named_twice : LinesHavePlaces insert_select lost_twice → ⊥
named_twice law = let once : true ≡ false = law.1.1.1.1.0.1.once.1.1.0 in cc

pub lost_twice_is_refused : IsRefusedBy (LinesHavePlaces insert_select lost_twice) insert_select lost_twice
lost_twice_is_refused = (named_twice, λ is. named_twice is.places)

-- lost by a line behind which its session was told of another transaction
told_since : (front back : List Line) (fault : Bool) → take 5 lost_late.lines ≡ front ++ line.Down 1 1 fault ∷ back → AllByRecursion (λ (l : Numbered). l.0 ≡ 2) (told (codes "a") back) → ⊥
told_since [] back fault is since =
    let same : drop 1 (take 5 lost_late.lines) ≡ back = same_tail (line.Down 1 1 true) (line.Down 1 1 fault) (drop 1 (take 5 lost_late.lines)) back is in
    let all : AllByRecursion (λ (l : Numbered). l.0 ≡ 2) (told (codes "a") (drop 1 (take 5 lost_late.lines))) = subst (λ (ls : List Line). AllByRecursion (λ (l : Numbered). l.0 ≡ 2) (told (codes "a") ls)) (sym same) since in
    let number : 1 ≡ 2 = all.0 in
    omega (arith, number)
told_since (x ∷ front) back fault is since =
    let rest : drop 1 (take 5 lost_late.lines) ≡ front ++ line.Down 1 1 fault ∷ back = same_tail (line.Down 1 1 true) x (drop 1 (take 5 lost_late.lines)) (front ++ line.Down 1 1 fault ∷ back) is in
    let none : 0 ≡ downs (front ++ line.Down 1 1 fault ∷ back) = ap downs rest in
    let parts : downs (front ++ line.Down 1 1 fault ∷ back) ≡ downs front + (downs back + 1) = downs_append front (line.Down 1 1 fault ∷ back) in
    omega (arith, none, parts)

lost_too_late : LinesHavePlaces insert_select lost_late → ⊥
lost_too_late law = let is : IsLost (take 5 lost_late.lines) (codes "a") 2 1 1 = law.1.1.1.1.1.0.1 in told_since is.front is.back is.fault is.stands is.since

pub lost_late_is_refused : IsRefusedBy (LinesHavePlaces insert_select lost_late) insert_select lost_late
lost_late_is_refused = (lost_too_late, λ is. lost_too_late is.places)

-- no majority while the node is up
not_short : LinesHavePlaces insert_select short_while_up → ⊥
not_short law = short_needs_down insert_select (take 3 short_while_up.lines) (codes "a") 0 1 refl law.1.1.1.0

pub short_while_up_is_refused : IsRefusedBy (LinesHavePlaces insert_select short_while_up) insert_select short_while_up
short_while_up_is_refused = (not_short, λ is. not_short is.places)

-- a first down line of another number
misnumbered : LinesHavePlaces insert_select down_misnumbered → ⊥
misnumbered law = let counted : 2 ≡ 1 = law.1.1.0.counted in omega (arith, counted)

pub down_misnumbered_is_refused : IsRefusedBy (LinesHavePlaces insert_select down_misnumbered) insert_select down_misnumbered
down_misnumbered_is_refused = (misnumbered, λ is. misnumbered is.places)

-- a node that goes down while it is down
was_down : LinesHavePlaces insert_select down_twice → ⊥
was_down law = let up : false ≡ true = law.1.1.1.0.was_up in cc

pub down_twice_is_refused : IsRefusedBy (LinesHavePlaces insert_select down_twice) insert_select down_twice
down_twice_is_refused = (was_down, λ is. was_down is.places)

-- an entry behind an opening at which the node goes down: lawful, but not in the order of play
pub opened_while_down_is_lawful : Lawful (from_nothing nothing_said) opened_while_down
opened_while_down_is_lawful = record {
  replies = down_at_first_is_lawful.replies;
  begins = (tt, tt);
  history = ((refl, refl, refl), tt);
  answered = (tt, tt);
  places = down_at_first_is_lawful.places;
  feeds = refl;
  base = refl;
  end = refl;
}

no_entry_left : (first rest : List Line) (later : List EntryLine) → line.Down 1 1 true ∷ [] ≡ first ++ rest → rest ≡ [] → later ≡ [] → Setup 1 ∷ [] ≡ opened_behind (from_nothing nothing_said) first ++ later → ⊥
no_entry_left first rest later lines none no_more entries =
    let all : line.Down 1 1 true ∷ [] ≡ first = lines ∙ ap (λ (ls : List Line). first ++ ls) none ∙ append-nil first in
    let opens : opened_behind (from_nothing nothing_said) first ≡ [] = ap (λ (ls : List Line). opened_behind (from_nothing nothing_said) ls) (sym all) in
    let is : Setup 1 ∷ [] ≡ [] = entries ∙ ap (λ (es : List EntryLine). es ++ later) opens ∙ no_more in
    cc

pub opened_while_down_is_not_in_order : InPlayOrder (from_nothing nothing_said) opened_while_down → ⊥
opened_while_down_is_not_in_order order = no_entry_left order.first order.rest order.later order.lines_are order.order.0 order.order.1 order.opened

-- a begin behind the fault: lawful, but not in the order of play
abbrev behind_of_a : List (List Reply)
behind_of_a = (reply.Begin 1 ∷ reply.Changed 1 ∷ reply.Lost 1 1 ∷ []) ∷ (reply.Begin 1 ∷ reply.Done 0 ∷ reply.Committed 1 ∷ []) ∷ []

along_behind : (P : List ℕ → WorkItem → List Reply → Type 0) → EachPart (P (codes "a")) items_of_a behind_of_a → (name : List ℕ) → Along (P name) (work small_language name insert_select.body) (told name begun_behind.lines)
along_behind P is =
    along_each P insert_select.body begun_behind.lines
    (inl refl, (inl refl, tt)) (inl refl, (inl refl, (tt, (inl refl, (inl refl, (inl refl, (inl refl, tt)))))))
    (subst (λ (items : List WorkItem). Along (P (codes "a")) items (told (codes "a") begun_behind.lines)) (sym work_of_a) (along_parts (P (codes "a")) items_of_a behind_of_a is))
    refl

pub begun_behind_is_lawful : Lawful (from_nothing insert_select) begun_behind
begun_behind_is_lawful = record {
  replies = along_behind (IsTold (from_nothing insert_select) (view_of (from_nothing insert_select) (Setup 1 ∷ []))) (
    cut 1 (reply.Begin 1 ∷ reply.Changed 1 ∷ []) [] (reply.Lost 1 1) (omega arith) (omega arith) refl refl (λ is. cc) refl,
    (whole 1 (reply.Committed 1) (omega arith) (omega arith) tt refl refl, tt),
  );
  begins = (
    fresh_begin (nothing_before (worked_table ∷ [])) _ (codes "a") 1 (omega arith) (omega arith) tt,
    (tt, (tt, (tt, (fresh_begin (nothing_before (worked_table ∷ [])) _ (codes "a") 1 (omega arith) (omega arith) ((omega arith, tt), (tt, (tt, (tt, tt)))), (tt, (tt, tt)))))),
  );
  history = ((refl, refl, refl), tt);
  answered = (tt, tt);
  places = (tt, (tt, (lost_insert_is_lawful.places.1.1.0, (lost_insert_is_lawful.places.1.1.1.0, (tt, (tt, (tt, tt)))))));
  feeds = refl;
  base = refl;
  end = refl;
}

pub begun_behind_is_not_in_order : InPlayOrder (from_nothing insert_select) begun_behind → ⊥
begun_behind_is_not_in_order order =
    none_begins (from_nothing insert_select) begun_behind (take 2 begun_behind.lines) (drop 3 begun_behind.lines) 1 1 true (codes "a") 2 1 refl statements_answer begun_behind_is_lawful order refl
    (take 1 (drop 3 begun_behind.lines), drop 5 begun_behind.lines, refl)
