-- On one node a lawful report is lawful as one of several nodes.
use Rattle.std.proofs.Common.{◌≡◌, ℕ, ◌&&◌, ◌||◌, List, [], ◌∷◌, ◌++◌, refl, sym, subst, ap, ◌∙◌, Option, Some, None, Bool, true, false, not, if◌then◌else◌, ◌⊎◌, inl, inr}
use Rattle.std.proofs.lemmas.List.{append-nil}
use Rattle.std.specs.List.{AllByRecursion, list_any}
use Rattle.std.specs.Str.{bytes_eq}
use Rattle.cdb_values.specs.declared.replies.Reply.{Reply}
use Rattle.script_form.specs.declared.scripts.Act.{Act}
use Rattle.script_form.specs.declared.scripts.Act.TheVariants as act
use Rattle.script_form.specs.declared.scripts.BodyLine.{BodyLine}
use Rattle.script_form.specs.declared.scripts.Script.{Script}
use Rattle.script_form.specs.declared.scripts.SessionLine.{SessionLine}
use Rattle.session_language.specs.Each.{EachAfter}
use Rattle.session_language.proofs.EachLaws.{all_map}
use Rattle.report_laws.specs.History.{Basis, view_of}
use Rattle.report_laws.specs.Lawful.{Lawful}
use Rattle.report_laws.specs.Places.{HasItsPlace}
use Rattle.report_laws.specs.Told as today
use Rattle.report_laws.specs.Told.{Along, Numbered}
use Rattle.report_laws.specs.View.{View}
use Rattle.report_laws.specs.Work.{WorkItem, Does, Lone, number_of}
use Rattle.report_text.specs.declared.reports.EntryLine.{EntryLine}
use Rattle.report_text.specs.declared.reports.EntryLine.TheVariants.{Setup, Commit}
use Rattle.report_text.specs.declared.reports.Report.{Report}
use Rattle.report_text.specs.declared.reports.Line.{Line}
use Rattle.report_text.specs.declared.reports.Line.TheVariants as line
use Rattle.node_reports.specs.Fed.{AreFeeds}
use Rattle.node_reports.specs.Lawful.{LawfulOfNodes}
use Rattle.node_reports.specs.OneNode.{IsForOneNode, AreForOneNode, IsOfOneNode}
use Rattle.node_reports.specs.Operator.{operators, AreHeeded, Closes, IsHeeded}
use Rattle.node_reports.specs.Order.{last_fed}
use Rattle.node_reports.specs.Places.{HasPlace}
use Rattle.node_reports.specs.Told.{IsToldAlong, IsHeard}

pub along_each : (P Q : WorkItem → List Reply → Type 0) → ((item : WorkItem) (mine : List Reply) → P item mine → Q item mine) → (items : List WorkItem) (lines : List Numbered) → Along P items lines → Along Q items lines
along_each P Q more [] lines is = is
along_each P Q more (item ∷ items) lines (mine, others, splits, p, rest) = (mine, others, splits, more item mine p, along_each P Q more items others rest)

pub each_each : {A : Type 0} (P Q : List A → A → Type 0) → ((before : List A) (x : A) → P before x → Q before x) → (before xs : List A) → EachAfter P before xs → EachAfter Q before xs
each_each P Q more before [] is = tt
each_each P Q more before (x ∷ xs) is = (more before x is.0, each_each P Q more (before ++ x ∷ []) xs is.1)

told_along : (basis : Basis) (view : View) (name : List ℕ) (item : WorkItem) (mine : List Reply) → today.IsTold basis view name item mine → IsToldAlong basis view name item mine
told_along basis view name (Does t) mine (inl whole) = inl whole
told_along basis view name (Does t) mine (inr cut) = inr (record {
  begin = cut.begin;
  base = cut.base;
  within = cut.within;
  ran = cut.ran;
  is_ran = cut.is_ran;
  front = cut.front;
  rest = cut.rest;
  fits = cut.fits;
  cause = cut.cause;
  is_cause = cut.is_cause;
  may = inl cut.may;
  says = cut.says;
})
told_along basis view name (Lone answer) mine is = is

heard : (basis : Basis) (view : View) (lines : List Line) (e : EntryLine) → today.IsEntryTold basis view lines e → IsHeard basis view lines e
heard basis view lines (Setup position) is = tt
heard basis view lines (Commit position session txn begin level) is = record {
  transaction = is.transaction;
  is_its = is.is_its;
  within = is.within;
  ran = is.ran;
  is_ran = is.is_ran;
  outcome = is.outcome;
  ends = inl is.ends;
  before = is.before;
  after = is.after;
  says = is.says;
}

placed : (script : Script) (before : List Line) (l : Line) → HasItsPlace script before l → HasPlace script before l
placed script before (line.Session name txn answer) is = is
placed script before (line.Down count node fault) is = record { counted = is.counted; of_script = is.of_script; was_up = λ stop. is.was_up }
placed script before (line.Up node) is = absurd is
placed script before line.Barrier is = absurd is
placed script before (line.Fed position) is = absurd is

abbrev no_arms : ℕ → Option ℕ
no_arms count = None

none_said : (place : ℕ) → None ≡ Some place → ⊥
none_said place is = cc

-- no line is the operator's
none_operates : (script : Script) (before ls : List Line) → EachAfter (HasItsPlace script) before ls → operators no_arms ls ≡ []
none_operates script before [] is = refl
none_operates script before (line.Session name txn answer ∷ ls) is = none_operates script (before ++ line.Session name txn answer ∷ []) ls is.1
none_operates script before (line.Down count node fault ∷ ls) is =
    ap (λ (b : Bool). if (not b && true) then line.Down count node fault ∷ operators no_arms ls else operators no_arms ls) is.0.by_fault ∙ none_operates script (before ++ line.Down count node fault ∷ []) ls is.1
none_operates script before (line.Up node ∷ ls) is = absurd is.0
none_operates script before (line.Barrier ∷ ls) is = absurd is.0
none_operates script before (line.Fed position ∷ ls) is = absurd is.0

plain_heeded : (basis : Basis) (view : View) (done : List BodyLine) (before : List Line) (a : Act) → IsForOneNode basis.script a → IsHeeded basis view no_arms done before a []
plain_heeded basis view done before (act.Say session text) plain = refl
plain_heeded basis view done before (act.Stop node) plain = absurd plain
plain_heeded basis view done before (act.Start node) plain = absurd plain
plain_heeded basis view done before (act.Arm session moment) plain = absurd plain
plain_heeded basis view done before act.Barrier plain = absurd plain
plain_heeded basis view done before act.Feed plain = absurd plain

closed : (basis : Basis) (view : View) (watches : List ℕ) (before rest : List Line) → watches ≡ [] → operators no_arms rest ≡ [] → Closes basis view no_arms watches before rest
closed basis view [] before rest none is = is
closed basis view (w ∷ ws) before rest none is = absurd (let no_such : w ∷ ws ≡ [] = none in cc)

all_heeded : (basis : Basis) (view : View) (done bs : List BodyLine) (before rest : List Line) → basis.script.watches ≡ [] → AreForOneNode basis.script bs → operators no_arms rest ≡ [] → AreHeeded basis view no_arms done bs before rest
all_heeded basis view done [] before rest unwatched plain none = closed basis view basis.script.watches before rest unwatched none
all_heeded basis view done (b ∷ bs) before rest unwatched plain none =
    ([], rest, refl, plain_heeded basis view done before b.act plain.0, all_heeded basis view (done ++ b ∷ []) bs (before ++ []) rest unwatched plain.1 none)

no_feeds : (basis : Basis) (view : View) (position place : ℕ) (watches : List ℕ) (report : Report) → watches ≡ [] → report.feeds ≡ [] → AreFeeds basis view position place watches report.feeds
no_feeds basis view position place [] report unwatched none = none
no_feeds basis view position place (w ∷ ws) report unwatched none = absurd (let no_such : w ∷ ws ≡ [] = unwatched in cc)

pub lawful_of : (basis : Basis) (report : Report) → IsOfOneNode basis.script → Lawful basis report → LawfulOfNodes basis report
lawful_of basis report of is = record {
  replies = λ name. along_each (today.IsTold basis (view_of basis report.entries) name) (IsToldAlong basis (view_of basis report.entries) name) (told_along basis (view_of basis report.entries) name) _ _ (is.replies name);
  begins = is.begins;
  history = is.history;
  answered = all_map (today.IsEntryTold basis (view_of basis report.entries) report.lines) (IsHeard basis (view_of basis report.entries) report.lines) (heard basis (view_of basis report.entries) report.lines) report.entries is.answered;
  places = each_each (HasItsPlace basis.script) (HasPlace basis.script) (placed basis.script) [] report.lines is.places;
  operator = record {
    arms = no_arms;
    armed = λ before after count node place stands arm. absurd (none_said place arm);
    apart = λ count other place arm again. absurd (none_said place arm);
    heeded = all_heeded basis (view_of basis report.entries) [] basis.script.body [] report.lines of.unwatched of.plain (none_operates basis.script [] report.lines is.places);
  };
  feeds = no_feeds basis (view_of basis report.entries) (last_fed 0 report.lines) 1 basis.script.watches report of.unwatched is.feeds;
  base = is.base;
  end = is.end;
}
