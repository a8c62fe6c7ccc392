-- The run from its opening to its end: what holds at first, and that it gives a lawful report.
use Rattle.std.proofs.Common.{◌≡◌, ℕ, ◌==◌, List, [], ◌∷◌, ◌++◌, map, refl, sym, subst, ap, arith, Option, Some, None, ◌∙◌, Bool, true, false, inl, inr, if◌then◌else◌}
use Rattle.std.proofs.lemmas.List.{append-nil}
use Rattle.std.specs.List.{AllByRecursion}
use Rattle.std.specs.Str.{bytes_eq}
use Rattle.cdb_values.specs.declared.rows.RowOp.{RowOp}
use Rattle.session_turns.specs.Seen.{SeenRows}
use Rattle.script_play.specs.Start.{Start, base}
use Rattle.script_form.specs.declared.scripts.Script.{Script}
use Rattle.script_form.specs.declared.scripts.BodyLine.{BodyLine}
use Rattle.script_form.specs.declared.scripts.SessionLine.{SessionLine}
use Rattle.report_text.specs.declared.reports.EntryLine.{EntryLine}
use Rattle.report_text.specs.declared.reports.EntryLine.TheVariants.{Setup}
use Rattle.report_text.specs.declared.reports.Line.{Line}
use Rattle.cdb_values.specs.declared.replies.Reply.{Reply}
use Rattle.cdb_values.specs.declared.replies.Reply.TheVariants as reply
use Rattle.script_form.specs.CanRun.{script_tables}
use Rattle.report_laws.specs.History.{rows_at, view_of}
use Rattle.session_language.specs.Language.{alone}
use Rattle.script_play.specs.Basis.{from_start}
use Rattle.query_laws.specs.Alone.{sql_language}
use Rattle.report_laws.specs.Lawful.{Lawful}
use Rattle.report_laws.specs.Outcome.{Ends}
use Rattle.report_laws.specs.Play.{GoDownAtChanges, InPlayOrder, InTurns, opening, opened_behind}
use Rattle.report_laws.specs.Told.{Along, Numbered, IsTold, IsEntryTold, IsCut, told, numbered, alone_at}
use Rattle.report_laws.specs.Work.{Transaction, WorkItem, Does, Place, Nowhere, transaction, work, place_after, items_at, open_item, start as place_first}
use Rattle.cdb_values.specs.declared.items.GenidItem.{GenidItem}
use Rattle.cdb_values.specs.declared.items.Interval.{Interval}
use Rattle.cdb_values.specs.declared.rows.Change.{Change}
use Rattle.report_laws.proofs.NodesLaws.{none_few}
use Rattle.report_laws.proofs.ToldLaws.{along_append, along_one, along_map}
use Rattle.script_play.specs.SoFar.{now_of, SoFar, IsStoredSoFar, Standing, IsEnded, IsOpen, IsDoing, at_start, state_of, report_of}
use Rattle.session_turns.specs.Doing.{SessionAt, Doing}
use Rattle.session_turns.specs.Doing as doing

-- a session that has done nothing is at its start
pub starts : (name : List ℕ) (sessions : List SessionLine) → state_of name sessions (map (λ _. at_start) sessions) ≡ at_start
starts name [] = refl
starts name (s ∷ ss) = pick (bytes_eq s.name name) (starts name ss)
  where
    pick : (b : Bool) → state_of name ss (map (λ _. at_start) ss) ≡ at_start → (if b then at_start else state_of name ss (map (λ _. at_start) ss)) ≡ at_start
    pick true is = refl
    pick false is = is

-- the entries that stand at first
all_opening : (P : EntryLine → Type 0) → P (Setup 1) → (b : Bool) → AllByRecursion P (if b then Setup 1 ∷ [] else [])
all_opening P is true = (is, tt)
all_opening P is false = tt

-- the run as it begins
pub begins_so : (script : Script) (start : Start) (changed : List (List Change)) (seen : SeenRows) → IsStoredSoFar script start (opening (from_start script start).origin) changed seen →
    SoFar script start false [] script.body [] (opening (from_start script start).origin) changed seen (map (λ _. at_start) script.sessions)
begins_so script start changed seen stored = record {
  body = refl;
  stored = stored;
  standing = λ name. subst (λ (x : SessionAt). Standing script start at_first seen.next name place_first [] x) (sym (starts name script.sessions)) (record { before = []; mine = []; is = refl; past = refl; number = refl; level = refl; doing = refl });
  fresh = tt;
  later = [];
  begins = sym (append-nil at_first);
  order = (refl, refl);
  named = tt;
  answered = all_opening (IsEntryTold (from_start script start) (view_of (from_start script start) at_first) []) tt ((from_start script start).origin.position == 0);
  ended = all_opening (IsEnded []) tt ((from_start script start).origin.position == 0);
  placed = tt;
  node = refl;
}
  where
    at_first : List EntryLine
    at_first = opening (from_start script start).origin

-- the open transaction, as it was told so far
open_told : (script : Script) (start : Start) (entries : List EntryLine) (name : List ℕ) (next : ℕ) (texts : List (List ℕ)) (begin : ℕ) (ops : List RowOp) (uses : List GenidItem) (ranges : List Interval) (mine : List Reply) (t : Transaction) → t.texts ≡ texts → t.end ≡ Nowhere → IsOpen script start entries next texts begin ops uses ranges mine →
    IsTold (from_start script start) (view_of (from_start script start) entries) name (Does t) mine
open_told script start entries name next texts begin ops uses ranges mine t same end is = inl (record {
  begin = begin;
  base = is.first.1;
  within = let w = is.within in omega (arith, w);
  ran = alone_at (from_start script start) (view_of (from_start script start) entries) t begin;
  is_ran = refl;
  last = [];
  ends = subst (λ e. Ends e []) (sym end) refl;
  right = tt;
  says = is.says ∙ ap (λ (x : List (List ℕ)). reply.Begin begin ∷ (alone sql_language (script_tables script) (rows_at (from_start script start) entries begin) x).replies) (sym same)
      ∙ ap (λ rs. reply.Begin begin ∷ rs) (sym (append-nil (alone_at (from_start script start) (view_of (from_start script start) entries) t begin).replies));
})

-- along all that a session did up to a place of its work
along_place : (P : WorkItem → List Reply → Type 0) (script : Script) (start : Start) (entries : List EntryLine) (next : ℕ) (name : List ℕ) (p : Place) (pending : Option (List (List ℕ))) (d : Doing) (before : List Numbered) (mine : List Reply) →
    ((item : WorkItem) (rs : List Reply) → IsTold (from_start script start) (view_of (from_start script start) entries) name item rs → P item rs) →
    ((texts : List (List ℕ)) (begin : ℕ) (ops : List RowOp) (uses : List GenidItem) (ranges : List Interval) → IsOpen script start entries next texts begin ops uses ranges mine → P (Does (transaction p.number texts p.level Nowhere)) mine) →
    ((texts : List (List ℕ)) → IsCut (from_start script start) (view_of (from_start script start) entries) (transaction p.number texts p.level Nowhere) mine → P (Does (transaction p.number texts p.level Nowhere)) mine) →
    Along (IsTold (from_start script start) (view_of (from_start script start) entries) name) p.over before → IsDoing script start entries next p pending d mine → Along P (p.over ++ open_item p pending) (before ++ numbered p.number mine)
along_place P script start entries next name p None doing.No before mine over open_ cut past is =
    subst (λ rs. Along P (p.over ++ []) (before ++ numbered p.number rs)) (sym is)
    (along_append P p.over [] before [] (along_map (IsTold (from_start script start) (view_of (from_start script start) entries) name) P over p.over before past) refl)
along_place P script start entries next name p None (doing.Open begin ops uses ranges) before mine over open_ cut past is = absurd is
along_place P script start entries next name p None doing.Aborted before mine over open_ cut past is = absurd is
along_place P script start entries next name p (Some texts) doing.No before mine over open_ cut past is = absurd is
along_place P script start entries next name p (Some texts) (doing.Open begin ops uses ranges) before mine over open_ cut past is =
    along_append P p.over (Does (transaction p.number texts p.level Nowhere) ∷ []) before (numbered p.number mine) (along_map (IsTold (from_start script start) (view_of (from_start script start) entries) name) P over p.over before past)
    (along_one P (Does (transaction p.number texts p.level Nowhere)) mine (open_ texts begin ops uses ranges is))
along_place P script start entries next name p (Some texts) doing.Aborted before mine over open_ cut past is =
    along_append P p.over (Does (transaction p.number texts p.level Nowhere) ∷ []) before (numbered p.number mine) (along_map (IsTold (from_start script start) (view_of (from_start script start) entries) name) P over p.over before past)
    (along_one P (Does (transaction p.number texts p.level Nowhere)) mine (cut texts is))

module _ (script : Script) (start : Start) (down : Bool) (done : List BodyLine) (lines : List Line) (entries : List EntryLine) (changed : List (List Change)) (seen : SeenRows) (states : List SessionAt) (was : SoFar script start down done [] lines entries changed seen states) where
  all_done : script.body ≡ done
  all_done = was.body ∙ append-nil done

  told_along : (name : List ℕ) → Along (IsTold (from_start script start) (view_of (from_start script start) entries) name) (work sql_language name script.body) (told name lines)
  told_along name =
      subst (λ (b : List BodyLine). Along (IsTold (from_start script start) (view_of (from_start script start) entries) name) (work sql_language name b) (told name lines)) (sym all_done)
      (subst (λ ls. Along (IsTold (from_start script start) (view_of (from_start script start) entries) name) (items_at (place_after sql_language name done)) ls) (sym stands.is)
      (along_place (IsTold (from_start script start) (view_of (from_start script start) entries) name) script start entries seen.next name (place_after sql_language name done) (place_after sql_language name done).pending (state_of name script.sessions states).doing stands.before stands.mine
      (λ item rs is. is)
      (λ texts begin ops uses ranges is. open_told script start entries name seen.next texts begin ops uses ranges stands.mine (transaction (place_after sql_language name done).number texts (place_after sql_language name done).level Nowhere) refl refl is)
      (λ texts cut. inr cut) stands.past stands.doing))
    where
      stands : Standing script start entries seen.next name (place_after sql_language name done) (told name lines) (state_of name script.sessions states)
      stands = was.standing name

  -- the run at its end gives a lawful report
  pub ends_lawful : Lawful (from_start script start) (report_of (base start) (now_of start entries) lines entries)
  ends_lawful = record {
    replies = told_along;
    begins = was.fresh;
    history = was.stored.history;
    answered = was.answered;
    places = was.placed;
    feeds = refl;
    base = refl;
    end = omega arith;
  }

  -- and its lines stand in the order of play
  pub ends_in_order : GoDownAtChanges (from_start script start) (view_of (from_start script start) entries) [] lines → InPlayOrder (from_start script start) (report_of (base start) (now_of start entries) lines entries)
  ends_in_order changes = record {
    first = [];
    go_down = tt;
    rest = lines;
    lines_are = refl;
    later = was.later;
    opened = was.begins ∙ ap (λ (es : List EntryLine). es ++ was.later) (sym opens);
    order = subst (λ (es : List EntryLine). InTurns (from_start script start) [] [] es script.body lines was.later) (sym opens)
        (subst (λ (body : List BodyLine). InTurns (from_start script start) [] [] (opening (from_start script start).origin) body lines was.later) (sym all_done) was.order);
    changes = changes;
  }
    where
      -- no node is down at the opening
      opens : opened_behind (from_start script start) [] ≡ opening (from_start script start).origin
      opens = ap (λ (few : Bool). if few then [] else opening (from_start script start).origin) (none_few script.nodes [] refl)
