-- Laws of lawful reports of several nodes that follow from these laws as on one node.
use Rattle.std.proofs.Common.{◌≡◌, ℕ, ◌==◌, List, [], ◌∷◌, ◌++◌, refl, sym, subst, ap, ◌∙◌, append_assoc, Bool, false, if◌then◌else◌}
use Rattle.std.proofs.lemmas.Bool.{both_ways, eq-eqb}
use Rattle.std.specs.List.{AllByRecursion}
use Rattle.cdb_values.specs.declared.replies.Reply.{Reply}
use Rattle.cdb_values.specs.declared.replies.Reply.TheVariants as reply
use Rattle.cdb_values.specs.declared.rows.Level.TheVariants.{Serializable}
use Rattle.session_language.proofs.AllLaws.{all_behind}
use Rattle.session_language.specs.Each.{EachAfter, StandsIn}
use Rattle.session_language.specs.Serial.{IsByReads, IsSound}
use Rattle.report_laws.proofs.LawLemmas.{each_at}
use Rattle.report_laws.proofs.SerialLaws.{serial_there}
use Rattle.report_laws.proofs.SoFarLemmas.{same_name}
use Rattle.report_laws.proofs.ToldLaws.{told_append}
use Rattle.report_laws.specs.History.{Basis, IsEntryAfter}
use Rattle.report_laws.specs.Lawful.{IsFreshLine, NameUpTo}
use Rattle.report_laws.specs.Places.{is_loss_by, IsLost}
use Rattle.report_laws.specs.Serial.{IsSerialAt}
use Rattle.report_laws.specs.Told.{told, Numbered}
use Rattle.report_text.specs.declared.reports.EntryLine.{EntryLine}
use Rattle.report_text.specs.declared.reports.EntryLine.TheVariants.{Commit}
use Rattle.report_text.specs.declared.reports.Line.{Line}
use Rattle.report_text.specs.declared.reports.Line.TheVariants as line
use Rattle.report_text.specs.declared.reports.Report.{Report}
use Rattle.node_reports.specs.Lawful.{LawfulOfNodes}
use Rattle.node_reports.specs.Places.{HasPlace}
use Rattle.node_reports.proofs.PieceLines.{each_front}

-- each entry at level serializable is serial
pub entries_serial : (basis : Basis) (report : Report) (position : ℕ) (session : List ℕ) (txn begin : ℕ) → IsByReads basis.language basis.origin.tables → IsSound basis.origin.rows → LawfulOfNodes basis report →
    StandsIn report.entries (Commit position session txn begin Serializable) → IsSerialAt basis report.entries position session txn begin
entries_serial basis report position session txn begin reads sound lawful (front, back, is) =
    let each : EachAfter (IsEntryAfter basis) [] (front ++ Commit position session txn begin Serializable ∷ back) =
    subst (λ (es : List EntryLine). EachAfter (IsEntryAfter basis) [] es) is lawful.history in
    subst (λ (es : List EntryLine). IsSerialAt basis es position session txn begin) (sym is)
    (serial_there basis reads sound front back (each_front (IsEntryAfter basis) [] front (Commit position session txn begin Serializable ∷ back) each) position session txn begin
    (each_at (IsEntryAfter basis) [] front (Commit position session txn begin Serializable) back each))

-- a begin is at least every position that was named before an earlier line of its session
pub begins_reach : (basis : Basis) (report : Report) (name : List ℕ) (first second third : List Line) (earlier later : ℕ) (answer : Reply) (begin : ℕ) → LawfulOfNodes basis report →
    report.lines ≡ first ++ line.Session name earlier answer ∷ (second ++ line.Session name later (reply.Begin begin) ∷ third) → NameUpTo begin first
begins_reach basis report name first second third earlier later answer begin lawful is =
    (each_at (IsFreshLine basis.origin) [] (first ++ line.Session name earlier answer ∷ second) (line.Session name later (reply.Begin begin)) third
    (subst (λ (ls : List Line). EachAfter (IsFreshLine basis.origin) [] ls) (is ∙ sym (append_assoc first (line.Session name earlier answer ∷ second) (line.Session name later (reply.Begin begin) ∷ third))) lawful.begins)).heard
    first (line.Session name earlier answer) second refl (same_name name)

-- and at least every position that was named before a barrier
pub begins_reach_barriers : (basis : Basis) (report : Report) (name : List ℕ) (first second third : List Line) (later begin : ℕ) → LawfulOfNodes basis report →
    report.lines ≡ first ++ line.Barrier ∷ (second ++ line.Session name later (reply.Begin begin) ∷ third) → NameUpTo begin first
begins_reach_barriers basis report name first second third later begin lawful is =
    (each_at (IsFreshLine basis.origin) [] (first ++ line.Barrier ∷ second) (line.Session name later (reply.Begin begin)) third
    (subst (λ (ls : List Line). EachAfter (IsFreshLine basis.origin) [] ls) (is ∙ sym (append_assoc first (line.Barrier ∷ second) (line.Session name later (reply.Begin begin) ∷ third))) lawful.begins)).heard
    first line.Barrier second refl refl

-- a session is told once of a loss by one down line
pub lost_once : (basis : Basis) (report : Report) (name : List ℕ) (first second third : List Line) (txn node other again down : ℕ) → LawfulOfNodes basis report →
    report.lines ≡ first ++ line.Session name txn (reply.Lost node down) ∷ (second ++ line.Session name other (reply.Lost again down) ∷ third) → ⊥
lost_once basis report name first second third txn node other again down lawful is =
    let split : report.lines ≡ (first ++ line.Session name txn (reply.Lost node down) ∷ second) ++ line.Session name other (reply.Lost again down) ∷ third
    = is ∙ sym (append_assoc first (line.Session name txn (reply.Lost node down) ∷ second) (line.Session name other (reply.Lost again down) ∷ third)) in
    let its : IsLost (first ++ line.Session name txn (reply.Lost node down) ∷ second) name other again down
    = (each_at (HasPlace basis.script) [] (first ++ line.Session name txn (reply.Lost node down) ∷ second) (line.Session name other (reply.Lost again down)) third (subst (λ (ls : List Line). EachAfter (HasPlace basis.script) [] ls) split lawful.places)).1 in
    let told_are : told name (first ++ line.Session name txn (reply.Lost node down) ∷ second) ≡ told name first ++ (txn, reply.Lost node down) ∷ told name second
    = told_append name first (line.Session name txn (reply.Lost node down) ∷ second)
    ∙ ap (λ (b : Bool). told name first ++ ((if b then (txn, reply.Lost node down) ∷ [] else []) ++ told name second)) (same_name name) in
    let all : AllByRecursion (λ (l : Numbered). is_loss_by down l.1 ≡ false) (told name first ++ (txn, reply.Lost node down) ∷ told name second)
    = subst (λ (ls : List Numbered). AllByRecursion (λ (l : Numbered). is_loss_by down l.1 ≡ false) ls) told_are its.once in
    let here : (down == down) ≡ false = (all_behind (λ (l : Numbered). is_loss_by down l.1 ≡ false) (told name first) ((txn, reply.Lost node down) ∷ told name second) all).0 in
    both_ways (down == down) here (eq-eqb down down refl)
