-- The laws hold of the empty report.
use Rattle.std.proofs.Common.{◌≡◌, ℕ, List, [], ◌∷◌, ◌++◌, refl, sym, subst, ap, Bool, if◌then◌else◌}
use Rattle.script_form.specs.declared.scripts.Script.{Script}
use Rattle.script_form.specs.declared.scripts.BodyLine.{BodyLine}
use Rattle.report_laws.specs.History.{view_of}
use Rattle.report_laws.specs.Lawful.{Lawful}
use Rattle.report_laws.specs.Play.{InPlayOrder, InTurns, opened_behind}
use Rattle.report_laws.specs.Told.{Along, IsTold}
use Rattle.report_laws.specs.Work.{WorkItem, work}
use Rattle.report_laws.proofs.DownLaws.{none_go_down}
use Rattle.report_worked.specs.Worked.{empty_report, report_with}
use Rattle.report_text.specs.declared.reports.EntryLine.{EntryLine}
use Rattle.report_text.specs.declared.reports.EntryLine.TheVariants.{Setup}
use Rattle.cdb_values.specs.declared.replies.Reply.{Reply}
use Rattle.report_laws.proofs.LawLemmas.{schema_unhurt}
use Rattle.report_laws.proofs.NodesLaws.{none_few}
use Rattle.report_worked.specs.Small.{from_nothing, small_language}

pub along_none : (P : WorkItem → List Reply → Type 0) (name : List ℕ) (body : List BodyLine) → body ≡ [] → Along P (work small_language name body) []
along_none P name body is = subst (λ (b : List BodyLine). Along P (work small_language name b) []) (sym is) refl

pub empty_is_lawful : (script : Script) → script.body ≡ [] → Lawful (from_nothing script) empty_report
empty_is_lawful script is = record {
  replies = λ name. along_none (IsTold (from_nothing script) (view_of (from_nothing script) (Setup 1 ∷ [])) name) name script.body is;
  begins = tt;
  history = ((refl, refl, refl), tt);
  answered = (tt, tt);
  places = tt;
  feeds = refl;
  base = refl;
  end = refl;
}

-- at the opening no node is down
open_at_first : (script : Script) → opened_behind (from_nothing script) [] ≡ Setup 1 ∷ []
open_at_first script = ap (λ (few : Bool). if few then [] else Setup 1 ∷ []) (none_few script.nodes [] refl)

pub empty_is_in_order : (script : Script) → script.body ≡ [] → InPlayOrder (from_nothing script) empty_report
empty_is_in_order script is = record {
  first = [];
  go_down = tt;
  rest = [];
  lines_are = refl;
  later = [];
  opened = sym (ap (λ (es : List EntryLine). es ++ []) (open_at_first script));
  order = subst (λ (body : List BodyLine). InTurns (from_nothing script) [] [] (opened_behind (from_nothing script) []) body [] []) (sym is) (refl, refl);
  changes = none_go_down (from_nothing script) (view_of (from_nothing script) (Setup 1 ∷ [])) [] [] refl;
}

-- the schema's entry stands in the history of each run in which no node goes down
no_entry_at_all : (later : List EntryLine) → [] ≡ Setup 1 ∷ later → ⊥
no_entry_at_all later is = cc

pub no_entry_is_not_in_order : (script : Script) → InPlayOrder (from_nothing script) (report_with [] []) → ⊥
no_entry_is_not_in_order script order =
    let first : (later : List EntryLine) × ([] ≡ Setup 1 ∷ later) = schema_unhurt (from_nothing script) (report_with [] []) refl refl order in no_entry_at_all first.0 first.1
