-- What the order of play says of the first line of a script, where it is answered.
use Rattle.std.proofs.Common.{◌≡◌, ℕ, ◌+◌, List, [], ◌∷◌, ◌++◌, refl, sym, subst, ap, arith, ◌∙◌, Bool, true, false, if◌then◌else◌, None, inl, inr, ◌⊎◌}
use Rattle.std.specs.List.{AllByRecursion}
use Rattle.script_form.specs.declared.scripts.Script.{Script}
use Rattle.session_language.specs.Language.{Kind}
use Rattle.session_language.specs.Replies.{are_up_to, are_none, is_last_of}
use Rattle.session_language.proofs.UpToLaws.{same_head, same_tail, none_only}
use Rattle.report_laws.specs.Nodes.{downs}
use Rattle.report_laws.specs.Play.{InPlayOrder, InTurns, IsDownLine, IsSaid, IsTurn, is_own_by, lacks_majority, opened_behind, was_cut}
use Rattle.report_laws.specs.Told.{lines_of}
use Rattle.report_laws.proofs.NodesLaws.{downs_append, downs_of}
use Rattle.report_text.specs.declared.reports.EntryLine.{EntryLine}
use Rattle.report_text.specs.declared.reports.Line.{Line}
use Rattle.report_text.specs.declared.reports.Line.TheVariants as line
use Rattle.cdb_values.specs.declared.replies.Reply.{Reply}
use Rattle.report_text.specs.declared.reports.Report.{Report}
use Rattle.report_worked.specs.Small.{from_nothing}

same_answer : (name : List ℕ) (number : ℕ) (x y : Reply) → line.Session name number x ≡ line.Session name number y → x ≡ y
same_answer name number x y is = cc

-- of two lists of replies that begin the same lines and go up to their first last reply, each is the other
lines_up_to : (f : Reply → Bool) (name : List ℕ) (number : ℕ) (xs ys : List Reply) (more others : List Line) → are_up_to f xs ≡ true → are_up_to f ys ≡ true →
    lines_of name number xs ++ more ≡ lines_of name number ys ++ others → xs ≡ ys
lines_up_to f name number [] ys more others ends ends' is = absurd cc
lines_up_to f name number (x ∷ xs) [] more others ends ends' is = absurd cc
lines_up_to f name number (x ∷ xs) (y ∷ ys) more others ends ends' is =
    go (f x) refl ends (subst (λ (r : Reply). (if f r then are_none ys else are_up_to f ys) ≡ true) (sym head) ends')
    (λ e e'. lines_up_to f name number xs ys more others e e' (same_tail (line.Session name number x) (line.Session name number y) (lines_of name number xs ++ more) (lines_of name number ys ++ others) is))
  where
    head : x ≡ y
    head = same_answer name number x y (same_head (line.Session name number x) (line.Session name number y) (lines_of name number xs ++ more) (lines_of name number ys ++ others) is)

    go : (b : Bool) → f x ≡ b → (if b then are_none xs else are_up_to f xs) ≡ true → (if b then are_none ys else are_up_to f ys) ≡ true →
        (are_up_to f xs ≡ true → are_up_to f ys ≡ true → xs ≡ ys) → x ∷ xs ≡ y ∷ ys
    go true at e e' later = ap (λ r. r ∷ xs) head ∙ ap (λ rs. y ∷ rs) (none_only xs e ∙ sym (none_only ys e'))
    go false at e e' later = ap (λ r. r ∷ xs) head ∙ ap (λ rs. y ∷ rs) (later e e')

-- where lines without a down line begin with the replies to the first line of a script, that line is answered by them
pub said_first : (script : Script) (now number : ℕ) (name : List ℕ) (kind : Kind) (mine others more : List Line) (added : List EntryLine) (replies : List Reply) →
    are_up_to (is_last_of (is_own_by kind None)) replies ≡ true → downs more ≡ 0 → lacks_majority script [] kind None ≡ false →
    lines_of name number replies ++ more ≡ mine ++ others → IsSaid script now [] name number kind None mine added → IsTurn now [] name number (is_own_by kind None) replies added
said_first script now number name kind mine others more added replies ends none enough are (inl a) = go a.turn.told
  where
    go : (are_up_to (is_last_of (is_own_by kind None)) a.replies ≡ true) ⊎ ((a.replies ≡ []) × (was_cut [] name number ≡ true)) → IsTurn now [] name number (is_own_by kind None) replies added
    go (inl up) =
        subst (λ (rs : List Reply). IsTurn now [] name number (is_own_by kind None) rs added)
        (sym (lines_up_to (is_last_of (is_own_by kind None)) name number replies a.replies more others ends up (are ∙ ap (λ (ls : List Line). ls ++ others) a.says)))
        a.turn
    go (inr (nothing, cut)) = absurd cc
said_first script now number name kind mine others more added replies ends none enough are (inr (inl l)) = let lost = l.is_lost in absurd cc
said_first script now number name kind mine others more added replies ends none enough are (inr (inr (inl s))) = let lacks = s.lacks in absurd cc
said_first script now number name kind mine others more added replies ends none enough are (inr (inr (inr f))) =
    let front : List Line = lines_of name number f.front in
    let back : List Line = line.Down (downs [] + 1) f.node true ∷ lines_of name number (f.told ∷ []) in
    let all : downs (lines_of name number replies ++ more) ≡ downs (mine ++ others) = ap downs are in
    let left : downs (lines_of name number replies ++ more) ≡ downs (lines_of name number replies) + downs more = downs_append (lines_of name number replies) more in
    let its : downs (lines_of name number replies) ≡ 0 = downs_of name number replies in
    let right : downs (mine ++ others) ≡ downs mine + downs others = downs_append mine others in
    let says : downs mine ≡ downs (front ++ back) = ap downs f.says in
    let parts : downs (front ++ back) ≡ downs front + downs back = downs_append front back in
    let one : downs back ≡ 1 = refl in
    absurd (omega (arith, all, left, its, none, right, says, parts, one))

-- where the first line of a report is a session's, no node goes down at the opening
pub played_first : (script : Script) (report : Report) (name : List ℕ) (number : ℕ) (answer : Reply) (lines : List Line) → report.lines ≡ line.Session name number answer ∷ lines → InPlayOrder (from_nothing script) report →
    (later : List EntryLine) × (report.entries ≡ opened_behind (from_nothing script) [] ++ later)
    × InTurns (from_nothing script) [] [] (opened_behind (from_nothing script) []) script.body report.lines later
played_first script report name number answer lines begins order = go order.first order.rest order.later order.go_down order.lines_are order.opened order.order
  where
    go : (first rest : List Line) (later : List EntryLine) → AllByRecursion IsDownLine first → report.lines ≡ first ++ rest → report.entries ≡ opened_behind (from_nothing script) first ++ later →
        InTurns (from_nothing script) [] first (opened_behind (from_nothing script) first) script.body rest later →
        (entries : List EntryLine) × (report.entries ≡ opened_behind (from_nothing script) [] ++ entries)
        × InTurns (from_nothing script) [] [] (opened_behind (from_nothing script) []) script.body report.lines entries
    go [] rest later down are opened is = (later, opened, subst (λ (ls : List Line). InTurns (from_nothing script) [] [] (opened_behind (from_nothing script) []) script.body ls later) (sym are) is)
    go (line.Session session txn reply ∷ first) rest later down are opened is = absurd down.0
    go (line.Down count node fault ∷ first) rest later down are opened is = let same : line.Session name number answer ∷ lines ≡ line.Down count node fault ∷ (first ++ rest) = sym begins ∙ are in absurd cc
    go (line.Up node ∷ first) rest later down are opened is = absurd down.0
    go (line.Barrier ∷ first) rest later down are opened is = absurd down.0
    go (line.Fed position ∷ first) rest later down are opened is = absurd down.0
