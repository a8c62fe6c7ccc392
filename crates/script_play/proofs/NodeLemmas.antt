-- A line keeps the run so far, wherever the node stands before it and behind it.
use Rattle.std.proofs.Common.{◌≡◌, ℕ, List, [], ◌∷◌, ◌++◌, length, refl, sym, subst, ap, arith, ◌∙◌, ◌≤◌, inl, Bool, true, false, append_assoc}
use Rattle.std.proofs.lemmas.List.{append-nil}
use Rattle.std.specs.Str.{bytes_eq}
use Rattle.std.specs.List.{AllByRecursion}
use Rattle.cdb_values.specs.declared.rows.Change.{Change}
use Rattle.report_laws.specs.History.{last_position, view_of}
use Rattle.report_laws.specs.Lawful.{IsFreshLine, NameUpTo}
use Rattle.report_laws.specs.Places.{HasItsPlace}
use Rattle.report_laws.specs.Play.{opening, IsTurnOf}
use Rattle.report_laws.specs.Told.{IsEntryTold, told}
use Rattle.report_laws.specs.Work.{next_place, place_after}
use Rattle.report_laws.proofs.EntryToldLaws.{entry_told_more}
use Rattle.report_laws.proofs.LineLaws.{in_turns_more, named_more}
use Rattle.report_laws.proofs.ToldLaws.{told_append}
use Rattle.report_laws.proofs.WorkLaws.{after_own, after_other}
use Rattle.report_text.specs.declared.reports.EntryLine.{EntryLine}
use Rattle.report_text.specs.declared.reports.Line.{Line}
use Rattle.script_form.specs.declared.scripts.Act.TheVariants.{Say}
use Rattle.script_form.specs.declared.scripts.BodyLine.{BodyLine}
use Rattle.script_form.specs.declared.scripts.Script.{Script}
use Rattle.session_language.specs.Each.{EachAfter}
use Rattle.session_language.proofs.EachLaws.{each_append, all_append, all_map}
use Rattle.query_laws.specs.Alone.{sql_language}
use Rattle.script_play.specs.Basis.{from_start}
use Rattle.session_turns.specs.Doing.{SessionAt}
use Rattle.session_turns.specs.Seen.{SeenRows}
use Rattle.script_play.specs.SoFar.{now_of, state_of, IsAtNode, IsEnded, SoFar, Standing, IsStoredSoFar}
use Rattle.script_play.specs.Start.{Start}
use Rattle.script_play.proofs.ComesLemmas.{ended_later, same_itself, same_name}
use Rattle.script_play.proofs.StandingLemmas.{Grows, grows_length, stands_on}

-- what a line adds to the report, and to the history if it appends an entry
pub record Adds (script : Script) (start : Start) (down' : Bool) (done : List BodyLine) (l : BodyLine) (lines mine : List Line) (entries entries' : List EntryLine) (changed' : List (List Change)) (seen seen' : SeenRows) (name text : List ℕ) (sites' : List SessionAt) : Type 0 where
  pub stored : IsStoredSoFar script start entries' changed' seen'
  pub grows : Grows entries entries'
  pub next : seen.next ≤ seen'.next
  pub stands : Standing script start entries' seen'.next name (next_place sql_language (place_after sql_language name done) text) (told name lines ++ told name mine) (state_of name script.sessions sites')
  pub others : (m : List ℕ) → bytes_eq name m ≡ false → told m mine ≡ []
  pub fresh : EachAfter (IsFreshLine (from_start script start).origin) lines mine
  pub placed : EachAfter (HasItsPlace script) lines mine
  pub named : NameUpTo (now_of start entries') mine
  pub added : List EntryLine
  pub grown : entries' ≡ entries ++ added
  pub turn : IsTurnOf (from_start script start) (now_of start entries) done lines l.act mine added
  pub answered : AllByRecursion (IsEntryTold (from_start script start) (view_of (from_start script start) entries') (lines ++ mine)) entries'
  pub ended : AllByRecursion (IsEnded (done ++ l ∷ [])) entries'
  pub node : IsAtNode down' script (lines ++ mine) sites'

-- the same of a line that appends none
pub record AddsLines (script : Script) (start : Start) (down' : Bool) (done : List BodyLine) (l : BodyLine) (lines mine : List Line) (entries : List EntryLine) (seen : SeenRows) (name text : List ℕ) (sites' : List SessionAt) : Type 0 where
  pub stands : Standing script start entries seen.next name (next_place sql_language (place_after sql_language name done) text) (told name lines ++ told name mine) (state_of name script.sessions sites')
  pub others : (m : List ℕ) → bytes_eq name m ≡ false → told m mine ≡ []
  pub fresh : EachAfter (IsFreshLine (from_start script start).origin) lines mine
  pub placed : EachAfter (HasItsPlace script) lines mine
  pub named : NameUpTo (now_of start entries) mine
  pub turn : IsTurnOf (from_start script start) (now_of start entries) done lines l.act mine []
  pub node : IsAtNode down' script (lines ++ mine) sites'

module _ (script : Script) (start : Start) (down down' : Bool) (done left : List BodyLine) (l : BodyLine) (lines mine : List Line) (entries : List EntryLine) (changed : List (List Change)) (seen : SeenRows) (states sites' : List SessionAt) (name text : List ℕ)
    (was : SoFar script start down done (l ∷ left) lines entries changed seen states) (is_act : l.act ≡ Say name text) where
  pub adds_lines : AddsLines script start down' done l lines mine entries seen name text sites' → Adds script start down' done l lines mine entries entries changed seen seen name text sites'
  adds_lines adds = record {
    stored = was.stored;
    grows = inl refl;
    next = omega arith;
    stands = adds.stands;
    others = adds.others;
    fresh = adds.fresh;
    placed = adds.placed;
    named = adds.named;
    added = [];
    grown = sym (append-nil entries);
    turn = adds.turn;
    answered = all_map (IsEntryTold (from_start script start) (view_of (from_start script start) entries) lines) _ (λ e is. entry_told_more (from_start script start) (view_of (from_start script start) entries) lines mine e is) entries was.answered;
    ended = all_map (IsEnded done) _ (ended_later done l name text is_act) entries was.ended;
    node = adds.node;
  }

  module _ (entries' : List EntryLine) (changed' : List (List Change)) (seen' : SeenRows) (adds : Adds script start down' done l lines mine entries entries' changed' seen seen' name text sites')
      (stay : (m : List ℕ) → bytes_eq name m ≡ false → state_of m script.sessions sites' ≡ state_of m script.sessions states) where
    abbrev pub StandsAt : List ℕ → Type 0
    StandsAt m = Standing script start entries' seen'.next m (place_after sql_language m (done ++ l ∷ [])) (told m (lines ++ mine)) (state_of m script.sessions sites')

    own_stands : StandsAt name
    own_stands =
        subst (λ p. Standing script start entries' seen'.next name p (told name (lines ++ mine)) (state_of name script.sessions sites')) (sym (after_own sql_language name name text l done is_act (same_itself name)))
        (subst (λ ls. Standing script start entries' seen'.next name (next_place sql_language (place_after sql_language name done) text) ls (state_of name script.sessions sites')) (sym (told_append name lines mine)) adds.stands)

    other_stands : (m : List ℕ) → bytes_eq name m ≡ false → StandsAt m
    other_stands m differs =
        subst (λ p. Standing script start entries' seen'.next m p (told m (lines ++ mine)) (state_of m script.sessions sites')) (sym (after_other sql_language m name text l done is_act differs))
        (subst (λ ls. Standing script start entries' seen'.next m (place_after sql_language m done) ls (state_of m script.sessions sites')) (sym (told_append m lines mine ∙ ap (λ ls. told m lines ++ ls) (adds.others m differs) ∙ append-nil (told m lines)))
        (subst (λ (x : SessionAt). Standing script start entries' seen'.next m (place_after sql_language m done) (told m lines) x) (sym (stay m differs))
        (stands_on script start entries entries' seen.next seen'.next m (place_after sql_language m done) (told m lines) (state_of m script.sessions states) adds.grows adds.next (was.standing m))))

    stand : (m : List ℕ) → StandsAt m
    stand m = pick (bytes_eq name m) refl
      where
        pick : (b : Bool) → bytes_eq name m ≡ b → StandsAt m
        pick true same = subst (λ n. StandsAt n) (same_name name m same) own_stands
        pick false differs = other_stands m differs

    its_turn_of : IsTurnOf (from_start script start) (last_position (from_start script start).origin (opening (from_start script start).origin ++ was.later)) done lines l.act mine adds.added
    its_turn_of =
        let count : length entries ≡ length (opening (from_start script start).origin ++ was.later) = ap (λ (es : List EntryLine). length es) was.begins in
        let now : now_of start entries ≡ last_position (from_start script start).origin (opening (from_start script start).origin ++ was.later) = omega (arith, count) in
        subst (λ n. IsTurnOf (from_start script start) n done lines l.act mine adds.added) now adds.turn

    longer : now_of start entries ≤ now_of start entries'
    longer = let le = grows_length entries entries' adds.grows in omega (arith, le)

    pub went : SoFar script start down' (done ++ l ∷ []) left (lines ++ mine) entries' changed' seen' sites'
    went = record {
      body = was.body ∙ sym (append_assoc done (l ∷ []) left);
      stored = adds.stored;
      standing = stand;
      fresh = each_append (IsFreshLine (from_start script start).origin) [] lines mine was.fresh adds.fresh;
      later = was.later ++ adds.added;
      begins = adds.grown ∙ ap (λ (es : List EntryLine). es ++ adds.added) was.begins ∙ append_assoc (opening (from_start script start).origin) was.later adds.added;
      order = in_turns_more (from_start script start) [] done l [] lines (opening (from_start script start).origin) was.later mine adds.added was.order its_turn_of;
      named = all_append _ lines mine (named_more (now_of start entries) (now_of start entries') lines longer was.named) adds.named;
      answered = adds.answered;
      ended = adds.ended;
      placed = each_append (HasItsPlace script) [] lines mine was.placed adds.placed;
      node = adds.node;
    }
