-- A session's lines stay those of its work when the history grows, and when a line of its own is done.
use Rattle.std.proofs.Common.{◌≡◌, ℕ, ◌≤◌, List, [], ◌∷◌, ◌++◌, length, refl, sym, subst, ap, arith, Option, Some, None, ◌∙◌, ◌⊎◌, inl, inr}
use Rattle.std.proofs.lemmas.List.{length-append, append-nil}
use Rattle.cdb_values.specs.Rows.{Rows}
use Rattle.cdb_values.specs.declared.rows.Level.{Level}
use Rattle.cdb_values.specs.declared.items.GenidItem.{GenidItem}
use Rattle.cdb_values.specs.declared.items.Interval.{Interval}
use Rattle.cdb_values.specs.declared.rows.RowOp.{RowOp}
use Rattle.script_form.specs.declared.scripts.Script.{Script}
use Rattle.report_text.specs.declared.reports.EntryLine.{EntryLine}
use Rattle.cdb_values.specs.declared.replies.Reply.{Reply}
use Rattle.cdb_values.specs.declared.replies.Reply.TheVariants as reply
use Rattle.script_form.specs.CanRun.{script_tables}
use Rattle.report_laws.specs.History.{rows_at, view_of}
use Rattle.session_language.specs.Language.{Answered, alone}
use Rattle.report_laws.specs.Told.{Along, Numbered, IsTold, numbered}
use Rattle.report_laws.specs.Work.{WorkItem, Place, Nowhere, transaction, with_open, number_of}
use Rattle.script_play.specs.Basis.{from_start}
use Rattle.query_laws.specs.Alone.{sql_language}
use Rattle.report_laws.proofs.GrowLaws.{told_stays, cut_stays}
use Rattle.report_laws.proofs.HistoryLaws.{rows_stay}
use Rattle.report_laws.proofs.ToldLaws.{along_append, along_one, along_map}
use Rattle.script_play.proofs.SoundLaws.{kept_later}
use Rattle.script_play.specs.Start.{Start}
use Rattle.script_play.specs.SoFar.{now_of, IsOpen, IsDoing, Standing}
use Rattle.session_turns.specs.Step.{state}
use Rattle.session_turns.specs.Doing.{SessionAt, Doing}
use Rattle.session_turns.specs.Doing as doing

-- the history stays, or grows by an entry
abbrev pub Grows : List EntryLine → List EntryLine → Type 0
Grows entries entries' = (entries' ≡ entries) ⊎ ((e : EntryLine) × (entries' ≡ entries ++ e ∷ []))

module _ (script : Script) (start : Start) (entries : List EntryLine) (e : EntryLine) where
  abbrev pub grown : List EntryLine
  grown = entries ++ e ∷ []

  longer : now_of start entries ≤ now_of start grown
  longer = omega (arith, length-append entries (e ∷ []))

  pub alone_stays : (texts : List (List ℕ)) (begin : ℕ) → begin ≤ now_of start entries →
      alone sql_language (script_tables script) (rows_at (from_start script start) grown begin) texts ≡ alone sql_language (script_tables script) (rows_at (from_start script start) entries begin) texts
  alone_stays texts begin within = ap (λ (r : Rows). alone sql_language (script_tables script) r texts) (rows_stay (from_start script start) entries e begin (omega (arith, within)))

  open_stays : (next next' : ℕ) (texts : List (List ℕ)) (begin : ℕ) (ops : List RowOp) (uses : List GenidItem) (ranges : List Interval) (mine : List Reply) → next ≤ next' → IsOpen script start entries next texts begin ops uses ranges mine → IsOpen script start grown next' texts begin ops uses ranges mine
  open_stays next next' texts begin ops uses ranges mine le is = record {
    first = is.first;
    within = let w = is.within in omega (arith, w, longer);
    says = is.says ∙ ap (λ (a : Answered). reply.Begin begin ∷ a.replies) (sym (alone_stays texts begin is.within));
    ops_are = is.ops_are ∙ ap (λ (a : Answered). a.ops) (sym (alone_stays texts begin is.within));
    uses_are = is.uses_are ∙ ap (λ (a : Answered). a.uses) (sym (alone_stays texts begin is.within));
    ranges_are = is.ranges_are ∙ ap (λ (a : Answered). a.ranges) (sym (alone_stays texts begin is.within));
    sound = kept_later (script_tables script) next next' ops le is.sound;
  }

  doing_stays : (next next' : ℕ) (p : Place) (q : Option (List (List ℕ))) (d : Doing) (mine : List Reply) → next ≤ next' → IsDoing script start entries next p q d mine → IsDoing script start grown next' p q d mine
  doing_stays next next' p None doing.No mine le is = is
  doing_stays next next' p None (doing.Open begin ops uses ranges) mine le is = absurd is
  doing_stays next next' p None doing.Aborted mine le is = absurd is
  doing_stays next next' p (Some texts) doing.No mine le is = absurd is
  doing_stays next next' p (Some texts) (doing.Open begin ops uses ranges) mine le is = open_stays next next' texts begin ops uses ranges mine le is
  doing_stays next next' p (Some texts) doing.Aborted mine le is = cut_stays (from_start script start) entries e (transaction p.number texts p.level Nowhere) mine is

  grown_stands : (next next' : ℕ) (name : List ℕ) (p : Place) (lines : List Numbered) (at : SessionAt) → next ≤ next' → Standing script start entries next name p lines at → Standing script start grown next' name p lines at
  grown_stands next next' name p lines at le was = record {
    before = was.before;
    mine = was.mine;
    is = was.is;
    past = along_map (IsTold (from_start script start) (view_of (from_start script start) entries) name) (IsTold (from_start script start) (view_of (from_start script start) grown) name) (told_stays (from_start script start) entries e name) p.over was.before was.past;
    number = was.number;
    level = was.level;
    doing = doing_stays next next' p p.pending at.doing was.mine le was.doing;
  }

-- the same open transaction, below a greater next genid
open_later : (script : Script) (start : Start) (entries : List EntryLine) (next next' : ℕ) (p : Place) (q : Option (List (List ℕ))) (d : Doing) (mine : List Reply) → next ≤ next' → IsDoing script start entries next p q d mine → IsDoing script start entries next' p q d mine
open_later script start entries next next' p None doing.No mine le is = is
open_later script start entries next next' p None (doing.Open begin ops uses ranges) mine le is = absurd is
open_later script start entries next next' p None doing.Aborted mine le is = absurd is
open_later script start entries next next' p (Some texts) doing.No mine le is = absurd is
open_later script start entries next next' p (Some texts) (doing.Open begin ops uses ranges) mine le is = record {
  first = is.first;
  within = is.within;
  says = is.says;
  ops_are = is.ops_are;
  uses_are = is.uses_are;
  ranges_are = is.ranges_are;
  sound = kept_later (script_tables script) next next' ops le is.sound;
}
open_later script start entries next next' p (Some texts) doing.Aborted mine le is = is

-- a session stays where it is when the history grows
pub stands_on : (script : Script) (start : Start) (entries entries' : List EntryLine) (next next' : ℕ) (name : List ℕ) (p : Place) (lines : List Numbered) (at : SessionAt) → Grows entries entries' → next ≤ next' →
    Standing script start entries next name p lines at → Standing script start entries' next' name p lines at
stands_on script start entries entries' next next' name p lines at (inl same) le was = subst (λ es. Standing script start es next' name p lines at) (sym same) (record {
  before = was.before;
  mine = was.mine;
  is = was.is;
  past = was.past;
  number = was.number;
  level = was.level;
  doing = open_later script start entries next next' p p.pending at.doing was.mine le was.doing;
})
stands_on script start entries entries' next next' name p lines at (inr (e, grows)) le was = subst (λ es. Standing script start es next' name p lines at) (sym grows) (grown_stands script start entries e next next' name p lines at le was)

-- what is over stays so, and so does what a transaction run alone gives
pub overs_on : (script : Script) (start : Start) (entries entries' : List EntryLine) (name : List ℕ) (items : List WorkItem) (lines : List Numbered) → Grows entries entries' → Along (IsTold (from_start script start) (view_of (from_start script start) entries) name) items lines → Along (IsTold (from_start script start) (view_of (from_start script start) entries') name) items lines
overs_on script start entries entries' name items lines (inl same) was = subst (λ es. Along (IsTold (from_start script start) (view_of (from_start script start) es) name) items lines) (sym same) was
overs_on script start entries entries' name items lines (inr (e, grows)) was = subst (λ es. Along (IsTold (from_start script start) (view_of (from_start script start) es) name) items lines) (sym grows) (along_map (IsTold (from_start script start) (view_of (from_start script start) entries) name) (IsTold (from_start script start) (view_of (from_start script start) (entries ++ e ∷ [])) name) (told_stays (from_start script start) entries e name) items lines was)

pub alone_on : (script : Script) (start : Start) (entries entries' : List EntryLine) (texts : List (List ℕ)) (begin : ℕ) → Grows entries entries' → begin ≤ now_of start entries →
    alone sql_language (script_tables script) (rows_at (from_start script start) entries' begin) texts ≡ alone sql_language (script_tables script) (rows_at (from_start script start) entries begin) texts
alone_on script start entries entries' texts begin (inl same) within = ap (λ es. alone sql_language (script_tables script) (rows_at (from_start script start) es begin) texts) same
alone_on script start entries entries' texts begin (inr (e, grows)) within = ap (λ es. alone sql_language (script_tables script) (rows_at (from_start script start) es begin) texts) grows ∙ alone_stays script start entries e texts begin within

pub grows_length : (entries entries' : List EntryLine) → Grows entries entries' → length entries ≤ length entries'
grows_length entries entries' (inl same) = let n = ap (λ es. length es) same in omega (arith, n)
grows_length entries entries' (inr (e, grows)) = let n = ap (λ es. length es) grows in omega (arith, n, length-append entries (e ∷ []))

module _ (script : Script) (start : Start) (entries entries' : List EntryLine) (grows : Grows entries entries') (name : List ℕ) (p : Place) (before : List Numbered) (past : Along (IsTold (from_start script start) (view_of (from_start script start) entries) name) p.over before) where
  -- one thing more is over
  over_more : (item : WorkItem) (mine : List Reply) → IsTold (from_start script start) (view_of (from_start script start) entries') name item mine → Along (IsTold (from_start script start) (view_of (from_start script start) entries') name) (p.over ++ item ∷ []) (before ++ numbered (number_of item) mine)
  over_more item mine is = along_append (IsTold (from_start script start) (view_of (from_start script start) entries') name) p.over (item ∷ []) before _ (overs_on script start entries entries' name p.over before grows past) (along_one (IsTold (from_start script start) (view_of (from_start script start) entries') name) item mine is)

  -- a session that did something is idle behind it
  pub idle_after : (item : WorkItem) (mine : List Reply) (lines : List Numbered) (next number : ℕ) (level : Level) → IsTold (from_start script start) (view_of (from_start script start) entries') name item mine → lines ≡ before ++ numbered (number_of item) mine →
      Standing script start entries' next name (record { over = p.over ++ item ∷ []; number = number; level = level; pending = None }) lines (state number level doing.No)
  idle_after item mine lines next number level is all = record {
    before = before ++ numbered (number_of item) mine;
    mine = [];
    is = all ∙ sym (append-nil (before ++ numbered (number_of item) mine));
    past = over_more item mine is;
    number = refl;
    level = refl;
    doing = refl;
  }

  -- a session is in a transaction, of which these lines were told
  pub in_transaction : (texts : List (List ℕ)) (mine : List Reply) (lines : List Numbered) (next number : ℕ) (d : Doing) →
      IsDoing script start entries' next (with_open p (Some texts) number) (Some texts) d mine → lines ≡ before ++ numbered number mine →
      Standing script start entries' next name (with_open p (Some texts) number) lines (state number p.level d)
  in_transaction texts mine lines next number d is all = record {
    before = before;
    mine = mine;
    is = all;
    past = overs_on script start entries entries' name p.over before grows past;
    number = refl;
    level = refl;
    doing = is;
  }
