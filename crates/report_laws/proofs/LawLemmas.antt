-- What a lawful report says of each begin, of each entry, and of two entries.
use Rattle.std.proofs.Common.{◌≡◌, ◌==◌, ◌&&◌, ℕ, ◌+◌, ◌<◌, ◌≤◌, arith, List, [], ◌∷◌, ◌++◌, refl, sym, subst, ap, ◌∙◌, Bool, true, false, append_assoc, if◌then◌else◌, Some, ◌⊎◌, inl, inr}
use Rattle.std.proofs.lemmas.Bool.{eq-eqb, both_ways}
use Rattle.std.specs.List.{AllByRecursion}
use Rattle.std.specs.Str.{bytes_eq}
use Rattle.cdb_values.specs.declared.rows.Level.{Level}
use Rattle.session_language.specs.Each.{EachAfter, StandsIn}
use Rattle.report_laws.specs.History.{Basis, IsEntryAfter, alone_on, rows_at, last_position, view_of}
use Rattle.session_language.specs.Language.{Answered}
use Rattle.report_laws.specs.Lawful.{Lawful, IsFreshLine, NameUpTo}
use Rattle.report_laws.specs.Nodes.{are_few, downs}
use Rattle.report_laws.specs.Places.{HasItsPlace, IsLost, is_loss_by}
use Rattle.report_laws.specs.Play.{InPlayOrder, IsDownLine}
use Rattle.report_laws.specs.Told.{told, numbered, Numbered, IsCommitTold, IsEntryTold}
use Rattle.report_laws.specs.Work.{Transaction, transaction_of}
use Rattle.report_text.specs.declared.reports.Report.{Report}
use Rattle.report_text.specs.declared.reports.EntryLine.{EntryLine}
use Rattle.report_text.specs.declared.reports.EntryLine.TheVariants.{Setup, Commit}
use Rattle.report_text.specs.declared.reports.Line.{Line}
use Rattle.report_text.specs.declared.reports.Line.TheVariants as line
use Rattle.cdb_values.specs.declared.replies.Reply.{Reply}
use Rattle.cdb_values.specs.declared.replies.Reply.TheVariants as reply
use Rattle.report_laws.proofs.EntryToldLaws.{begin_stands, commit_stands, committed_there}
use Rattle.report_laws.proofs.FrontLemmas.{entry_next}
use Rattle.report_laws.proofs.NodesLaws.{downs_append, none_few, lost_needs_down, short_needs_down}
use Rattle.report_laws.proofs.PieceLaws.{all_at}
use Rattle.report_laws.proofs.SoFarLemmas.{same_name}
use Rattle.report_laws.proofs.ToldLaws.{told_append}
use Rattle.session_language.proofs.AllLaws.{all_behind}

-- a member that stands behind others is right after them
pub each_at : {A : Type 0} (P : List A → A → Type 0) (before xs : List A) (x : A) (ys : List A) → EachAfter P before (xs ++ x ∷ ys) → P (before ++ xs) x
each_at P before [] x ys each = subst (λ b. P b x) (sym (append_none before)) each.0
  where
    append_none : {A : Type 0} (zs : List A) → zs ++ [] ≡ zs
    append_none [] = refl
    append_none (z ∷ zs) = ap (λ rest. z ∷ rest) (append_none zs)
each_at P before (z ∷ xs) x ys each = subst (λ b. P b x) (append_assoc before (z ∷ []) xs) (each_at P (before ++ z ∷ []) xs x ys each.1)

pub begins_reach : (basis : Basis) (report : Report) (name : List ℕ) (first second third : List Line) (earlier later : ℕ) (answer : Reply) (begin : ℕ) → Lawful basis report →
    report.lines ≡ first ++ line.Session name earlier answer ∷ (second ++ line.Session name later (reply.Begin begin) ∷ third) → NameUpTo begin first
begins_reach basis report name first second third earlier later answer begin lawful is =
    (each_at (IsFreshLine basis.origin) [] (first ++ line.Session name earlier answer ∷ second) (line.Session name later (reply.Begin begin)) third
    (subst (λ (ls : List Line). EachAfter (IsFreshLine basis.origin) [] ls) (is ∙ sym (append_assoc first (line.Session name earlier answer ∷ second) (line.Session name later (reply.Begin begin) ∷ third))) lawful.begins)).heard
    first (line.Session name earlier answer) second refl (same_name name)

pub told_whole : (basis : Basis) (report : Report) (position : ℕ) (session : List ℕ) (txn begin : ℕ) (level : Level) → Lawful basis report → StandsIn report.entries (Commit position session txn begin level) →
    IsCommitTold basis (view_of basis report.entries) report.lines position session txn begin
told_whole basis report position session txn begin level lawful stands =
    all_at (IsEntryTold basis (view_of basis report.entries) report.lines) report.entries (Commit position session txn begin level) lawful.answered stands

pub entries_told : (basis : Basis) (report : Report) (position : ℕ) (session : List ℕ) (txn begin : ℕ) (level : Level) → Lawful basis report → StandsIn report.entries (Commit position session txn begin level) →
    StandsIn report.lines (line.Session session txn (reply.Begin begin)) × StandsIn report.lines (line.Session session txn (reply.Committed position))
entries_told basis report position session txn begin level lawful stands =
    let its = told_whole basis report position session txn begin level lawful stands in
    (begin_stands basis (view_of basis report.entries) report.lines position session txn begin its, commit_stands basis (view_of basis report.entries) report.lines position session txn begin its)

pub told_together : (basis : Basis) (report : Report) (position : ℕ) (session : List ℕ) (txn begin : ℕ) (level : Level) → Lawful basis report → StandsIn report.entries (Commit position session txn begin level) →
    (transaction : Transaction) × (before : List Numbered) × (after : List Numbered) × (transaction_of basis.language session txn basis.script.body ≡ Some transaction)
    × (told session report.lines ≡ before ++ (numbered txn (reply.Begin begin ∷ ((alone_on basis (rows_at basis report.entries begin) transaction.texts).replies ++ reply.Committed position ∷ [])) ++ after))
told_together basis report position session txn begin level lawful stands =
    let its : IsCommitTold basis (view_of basis report.entries) report.lines position session txn begin = told_whole basis report position session txn begin level lawful stands in (
      its.transaction,
      its.before,
      its.after,
      its.is_its,
      its.says
          ∙ ap (λ (a : Answered). its.before ++ (numbered txn (reply.Begin begin ∷ (a.replies ++ its.outcome ∷ [])) ++ its.after)) its.is_ran
          ∙ ap (λ (o : Reply). its.before ++ (numbered txn (reply.Begin begin ∷ ((alone_on basis (rows_at basis report.entries begin) its.transaction.texts).replies ++ o ∷ [])) ++ its.after)) (committed_there position its.outcome its.ends),
    )

-- a line has its place behind the lines before it
pub has_its_place : (basis : Basis) (report : Report) (front back : List Line) (l : Line) → Lawful basis report → report.lines ≡ front ++ l ∷ back → HasItsPlace basis.script front l
has_its_place basis report front back l lawful is = each_at (HasItsPlace basis.script) [] front l back (subst (λ (ls : List Line). EachAfter (HasItsPlace basis.script) [] ls) is lawful.places)

not_both : (a b : Bool) → a ≡ true → b ≡ true → (a && b) ≡ false → ⊥
not_both true true is is' off = cc
not_both true false is is' off = cc
not_both false b is is' off = cc

pub stand_once : (basis : Basis) (report : Report) (session : List ℕ) (txn : ℕ) (first second third : List EntryLine) (p q begin begin' : ℕ) (level level' : Level) → Lawful basis report →
    report.entries ≡ first ++ Commit p session txn begin level ∷ (second ++ Commit q session txn begin' level' ∷ third) → ⊥
stand_once basis report session txn first second third p q begin begin' level level' lawful is =
    not_both (bytes_eq session session) (txn == txn) (same_name session) (eq-eqb txn txn refl)
    ((each_at (IsEntryAfter basis) [] (first ++ Commit p session txn begin level ∷ second) (Commit q session txn begin' level') third
    (subst (λ (es : List EntryLine). EachAfter (IsEntryAfter basis) [] es) (is ∙ sym (append_assoc first (Commit p session txn begin level ∷ second) (Commit q session txn begin' level' ∷ third))) lawful.history)).once
    (last_position basis.origin first + 1) (Commit p session txn begin level) (omega arith) (entry_next basis.origin first second (Commit p session txn begin level)))

pub schema_first : (basis : Basis) (report : Report) → basis.origin.position ≡ 0 → InPlayOrder basis report →
    ((later : List EntryLine) × (report.entries ≡ Setup 1 ∷ later)) ⊎ ((first : List Line) × (rest : List Line) × (report.lines ≡ first ++ rest) × AllByRecursion IsDownLine first × (are_few basis.script.nodes first ≡ true))
schema_first basis report none order = go (are_few basis.script.nodes order.first) refl
  where
    go : (few : Bool) → are_few basis.script.nodes order.first ≡ few →
        ((later : List EntryLine) × (report.entries ≡ Setup 1 ∷ later)) ⊎ ((first : List Line) × (rest : List Line) × (report.lines ≡ first ++ rest) × AllByRecursion IsDownLine first × (are_few basis.script.nodes first ≡ true))
    go true is = inr (order.first, order.rest, order.lines_are, order.go_down, is)
    go false is = inl (
      order.later,
      order.opened
          ∙ ap (λ (few : Bool). (if few then [] else if basis.origin.position == 0 then Setup 1 ∷ [] else []) ++ order.later) is
          ∙ ap (λ (b : Bool). (if b then Setup 1 ∷ [] else []) ++ order.later) (eq-eqb basis.origin.position 0 none),
    )

-- where no node goes down, the schema's entry stands first
pub schema_unhurt : (basis : Basis) (report : Report) → basis.origin.position ≡ 0 → downs report.lines ≡ 0 → InPlayOrder basis report → (later : List EntryLine) × (report.entries ≡ Setup 1 ∷ later)
schema_unhurt basis report none whole order = go (schema_first basis report none order)
  where
    go : ((later : List EntryLine) × (report.entries ≡ Setup 1 ∷ later)) ⊎ ((first : List Line) × (rest : List Line) × (report.lines ≡ first ++ rest) × AllByRecursion IsDownLine first × (are_few basis.script.nodes first ≡ true)) →
        (later : List EntryLine) × (report.entries ≡ Setup 1 ∷ later)
    go (inl is) = is
    go (inr (first, rest, are, go_down, few)) =
        let parts : downs (first ++ rest) ≡ downs first + downs rest = downs_append first rest in
        let all : downs report.lines ≡ downs (first ++ rest) = ap downs are in
        absurd (both_ways (are_few basis.script.nodes first) (none_few basis.script.nodes first (omega (arith, parts, all, whole))) few)

-- a history that begins with the run is empty, or begins with the schema's entry
pub schema_or_none : (basis : Basis) (report : Report) → basis.origin.position ≡ 0 → Lawful basis report → (report.entries ≡ []) ⊎ ((later : List EntryLine) × (report.entries ≡ Setup 1 ∷ later))
schema_or_none basis report none lawful = go report.entries lawful.history
  where
    go : (entries : List EntryLine) → EachAfter (IsEntryAfter basis) [] entries → (entries ≡ []) ⊎ ((later : List EntryLine) × (entries ≡ Setup 1 ∷ later))
    go [] each = inl refl
    go (Setup position ∷ es) each = inr (es, ap (λ p. Setup p ∷ es) each.0.2)
    go (Commit position session txn begin level ∷ es) each =
        let placed : position ≡ basis.origin.position + 0 + 1 = each.0.placed in
        let begun : 1 ≤ begin = each.0.begun.0 in
        let before : begin < position = each.0.begun.2 in
        absurd (omega (arith, none, placed, begun, before))

-- where no node went down nothing is lost, and no majority is wanting
none_before : (report : Report) (front back : List Line) (l : Line) → report.lines ≡ front ++ l ∷ back → downs report.lines ≡ 0 → downs front ≡ 0
none_before report front back l is none =
    let all : downs report.lines ≡ downs (front ++ l ∷ back) = ap downs is in
    let parts : downs (front ++ l ∷ back) ≡ downs front + downs (l ∷ back) = downs_append front (l ∷ back) in
    omega (arith, none, all, parts)

pub no_loss : (basis : Basis) (report : Report) (name : List ℕ) (txn node down : ℕ) → Lawful basis report → downs report.lines ≡ 0 → StandsIn report.lines (line.Session name txn (reply.Lost node down)) → ⊥
no_loss basis report name txn node down lawful none (front, back, is) =
    lost_needs_down front name txn node down (none_before report front back (line.Session name txn (reply.Lost node down)) is none)
    (has_its_place basis report front back (line.Session name txn (reply.Lost node down)) lawful is).1

pub no_shortage : (basis : Basis) (report : Report) (name : List ℕ) (txn up nodes : ℕ) → Lawful basis report → downs report.lines ≡ 0 → StandsIn report.lines (line.Session name txn (reply.NoMajority up nodes)) → ⊥
no_shortage basis report name txn up nodes lawful none (front, back, is) =
    short_needs_down basis.script front name up nodes (none_before report front back (line.Session name txn (reply.NoMajority up nodes)) is none)
    (has_its_place basis report front back (line.Session name txn (reply.NoMajority up nodes)) lawful is)

-- a session is told once of a loss by one down line
pub lost_once : (basis : Basis) (report : Report) (name : List ℕ) (first second third : List Line) (txn node other again down : ℕ) → Lawful basis report →
    report.lines ≡ first ++ line.Session name txn (reply.Lost node down) ∷ (second ++ line.Session name other (reply.Lost again down) ∷ third) → ⊥
lost_once basis report name first second third txn node other again down lawful is =
    let split : report.lines ≡ (first ++ line.Session name txn (reply.Lost node down) ∷ second) ++ line.Session name other (reply.Lost again down) ∷ third
    = is ∙ sym (append_assoc first (line.Session name txn (reply.Lost node down) ∷ second) (line.Session name other (reply.Lost again down) ∷ third)) in
    let its : IsLost (first ++ line.Session name txn (reply.Lost node down) ∷ second) name other again down
    = (has_its_place basis report (first ++ line.Session name txn (reply.Lost node down) ∷ second) third (line.Session name other (reply.Lost again down)) lawful split).1 in
    let told_are : told name (first ++ line.Session name txn (reply.Lost node down) ∷ second) ≡ told name first ++ (txn, reply.Lost node down) ∷ told name second
    = told_append name first (line.Session name txn (reply.Lost node down) ∷ second)
    ∙ ap (λ (b : Bool). told name first ++ ((if b then (txn, reply.Lost node down) ∷ [] else []) ++ told name second)) (same_name name) in
    let all : AllByRecursion (λ (l : Numbered). is_loss_by down l.1 ≡ false) (told name first ++ (txn, reply.Lost node down) ∷ told name second)
    = subst (λ (ls : List Numbered). AllByRecursion (λ (l : Numbered). is_loss_by down l.1 ≡ false) ls) told_are its.once in
    let here : (down == down) ≡ false = (all_behind (λ (l : Numbered). is_loss_by down l.1 ≡ false) (told name first) ((txn, reply.Lost node down) ∷ told name second) all).0 in
    both_ways (down == down) here (eq-eqb down down refl)
