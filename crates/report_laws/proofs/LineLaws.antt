-- How the laws on lines and what stands before them grow by a piece of a session's lines.
use Rattle.std.proofs.Common.{◌≡◌, ℕ, ◌≤◌, List, [], ◌∷◌, ◌++◌, refl, sym, subst, ap, arith, ◌∙◌, append_assoc}
use Rattle.std.proofs.lemmas.List.{append-nil}
use Rattle.std.specs.List.{AllByRecursion}
use Rattle.script_form.specs.declared.scripts.BodyLine.{BodyLine}
use Rattle.script_form.specs.declared.scripts.Act.{Act}
use Rattle.script_form.specs.declared.scripts.Script.{Script}
use Rattle.session_language.specs.Each.{EachAfter}
use Rattle.report_laws.specs.History.{Origin, Basis, last_position}
use Rattle.report_laws.specs.Lawful.{IsFresh, IsFreshLine, NameUpTo, positions, named_by}
use Rattle.report_laws.specs.Paced.{Paced}
use Rattle.report_laws.specs.Places.{HasItsPlace}
use Rattle.report_laws.specs.Play.{InTurns, IsTurnOf, IsTimely}
use Rattle.report_laws.specs.Told.{lines_of}
use Rattle.report_text.specs.declared.reports.EntryLine.{EntryLine}
use Rattle.report_text.specs.declared.reports.Line.{Line}
use Rattle.report_text.specs.declared.reports.Line.TheVariants as line
use Rattle.cdb_values.specs.declared.replies.Reply.{Reply}
use Rattle.cdb_values.specs.declared.replies.Reply.TheVariants as reply
use Rattle.session_language.proofs.EachLaws.{all_append, all_front}

-- the positions that were named stay within a greater bound
pub named_more : (b c : ℕ) (lines : List Line) → b ≤ c → NameUpTo b lines → NameUpTo c lines
named_more b c [] le is = tt
named_more b c (l ∷ ls) le is = (up (positions l) is.0, named_more b c ls le is.1)
  where
    up : (ps : List ℕ) → AllByRecursion (λ p. p ≤ b) ps → AllByRecursion (λ p. p ≤ c) ps
    up [] all = tt
    up (p ∷ ps) all = (let h : p ≤ b = all.0 in omega (arith, h, le), up ps all.1)

-- a begin is fresh where all positions that were named before it are at most it
pub fresh_begin : (origin : Origin) (before : List Line) (name : List ℕ) (begin : ℕ) → 1 ≤ begin → origin.position ≤ begin → NameUpTo begin before → IsFresh origin before name begin
fresh_begin origin before name begin first base named = record {
  first = first;
  base = base;
  heard = λ front mark back is _. all_front _ front (mark ∷ back) (subst (λ ls. NameUpTo begin ls) is named);
}

-- a turn speaks of the history, the script's lines and the report's lines before it
turn_on : (basis : Basis) (history history' : List EntryLine) (done done' : List BodyLine) (before before' : List Line) (a : Act) (mine : List Line) (added : List EntryLine) → history ≡ history' → done ≡ done' → before ≡ before' →
    IsTurnOf basis (last_position basis.origin history) done before a mine added → IsTurnOf basis (last_position basis.origin history') done' before' a mine added
turn_on basis history history' done done' before before' a mine added same_history same_done same_before turn =
    subst (λ (es : List EntryLine). IsTurnOf basis (last_position basis.origin es) done' before' a mine added) same_history
    (subst (λ (d : List BodyLine). IsTurnOf basis (last_position basis.origin history) d before' a mine added) same_done
    (subst (λ (ls : List Line). IsTurnOf basis (last_position basis.origin history) done ls a mine added) same_before turn))

-- the turn of a line of the script more comes behind the others
pub in_turns_more : (basis : Basis) (done bs : List BodyLine) (b : BodyLine) (before lines : List Line) (history entries : List EntryLine) (mine : List Line) (added : List EntryLine) → InTurns basis done before history bs lines entries →
    IsTurnOf basis (last_position basis.origin (history ++ entries)) (done ++ bs) (before ++ lines) b.act mine added →
    InTurns basis done before history (bs ++ b ∷ []) (lines ++ mine) (entries ++ added)
in_turns_more basis done [] b before lines history entries mine added is turn = (
  mine,
  [],
  added,
  [],
  ap (λ (ls : List Line). ls ++ mine) is.0 ∙ sym (append-nil mine),
  ap (λ (es : List EntryLine). es ++ added) is.1 ∙ sym (append-nil added),
  turn_on basis (history ++ entries) history (done ++ []) done (before ++ lines) before b.act mine added
      (ap (λ (es : List EntryLine). history ++ es) is.1 ∙ append-nil history) (append-nil done) (ap (λ (ls : List Line). before ++ ls) is.0 ∙ append-nil before) turn,
  (refl, refl),
)
in_turns_more basis done (c ∷ bs) b before lines history entries mine added (own, others, its, later, lines_split, entries_split, first, rest) turn = (
  own,
  others ++ mine,
  its,
  later ++ added,
  ap (λ (ls : List Line). ls ++ mine) lines_split ∙ append_assoc own others mine,
  ap (λ (es : List EntryLine). es ++ added) entries_split ∙ append_assoc its later added,
  first,
  in_turns_more basis (done ++ c ∷ []) bs b (before ++ own) others (history ++ its) later mine added rest
      (turn_on basis (history ++ entries) ((history ++ its) ++ later) (done ++ c ∷ bs) ((done ++ c ∷ []) ++ bs) (before ++ lines) ((before ++ own) ++ others) b.act mine added
      (ap (λ (es : List EntryLine). history ++ es) entries_split ∙ sym (append_assoc history its later)) (sym (append_assoc done (c ∷ []) bs))
      (ap (λ (ls : List Line). before ++ ls) lines_split ∙ sym (append_assoc before own others)) turn),
)

-- replies that are paced are timely
pub timely_paced : (now after : ℕ) (rs : List Reply) → Paced now after rs → AllByRecursion (IsTimely now after) rs
timely_paced now after [] paced = tt
timely_paced now after (reply.Begin position ∷ rs) paced = (paced.0, timely_paced now after rs paced.1)
timely_paced now after ((reply.Row row) ∷ rs) paced = (tt, timely_paced now after rs paced)
timely_paced now after ((reply.Done rows) ∷ rs) paced = (tt, timely_paced now after rs paced)
timely_paced now after ((reply.Changed rows) ∷ rs) paced = (tt, timely_paced now after rs paced)
timely_paced now after ((reply.Error cause) ∷ rs) paced = (tt, timely_paced now after rs paced)
timely_paced now after ((reply.Level level) ∷ rs) paced = (tt, timely_paced now after rs paced)
timely_paced now after (reply.RolledBack ∷ rs) paced = (tt, timely_paced now after rs paced)
timely_paced now after ((reply.Lost node down) ∷ rs) paced = absurd paced
timely_paced now after ((reply.NoMajority up nodes) ∷ rs) paced = absurd paced
timely_paced now after (reply.NoMemory ∷ rs) paced = (tt, timely_paced now after rs paced)
timely_paced now after (reply.Committed position ∷ rs) paced = (paced.1, none_left rs paced.0)
  where
    none_left : (others : List Reply) → others ≡ [] → AllByRecursion (IsTimely now after) others
    none_left others none = subst (λ (r : List Reply). AllByRecursion (IsTimely now after) r) (sym none) tt
timely_paced now after (reply.ConflictGenid position table genid ∷ rs) paced = ((let within : position ≤ after = paced.1 in let same : now ≡ after = paced.2 in omega (arith, within, same)), subst (λ (r : List Reply). AllByRecursion (IsTimely now after) r) (sym paced.0) tt)
timely_paced now after (reply.ConflictRange position table key ∷ rs) paced = ((let within : position ≤ after = paced.1 in let same : now ≡ after = paced.2 in omega (arith, within, same)), subst (λ (r : List Reply). AllByRecursion (IsTimely now after) r) (sym paced.0) tt)
timely_paced now after (reply.Duplicate position table key ∷ rs) paced = (paced.1, subst (λ (r : List Reply). AllByRecursion (IsTimely now after) r) (sym paced.0) tt)

-- the laws on a piece of lines behind others: its begins are fresh, each line has its place, and it names no position
-- above a bound
pub record ArePaced (script : Script) (origin : Origin) (name : List ℕ) (number : ℕ) (lines : List Line) (after : ℕ) (rs : List Reply) : Type 0 where
  pub fresh : EachAfter (IsFreshLine origin) lines (lines_of name number rs)
  pub placed : EachAfter (HasItsPlace script) lines (lines_of name number rs)
  pub named : NameUpTo after (lines_of name number rs)

-- a line and then a piece behind it
paced_head : (script : Script) (origin : Origin) (name : List ℕ) (number : ℕ) (lines : List Line) (after : ℕ) (r : Reply) (rs : List Reply) →
    HasItsPlace script lines (line.Session name number r) → IsFreshLine origin lines (line.Session name number r) → AllByRecursion (λ p. p ≤ after) (named_by r) →
    ArePaced script origin name number (lines ++ line.Session name number r ∷ []) after rs → ArePaced script origin name number lines after (r ∷ rs)
paced_head script origin name number lines after r rs placed fresh named rest = record {
  fresh = (fresh, rest.fresh);
  placed = (placed, rest.placed);
  named = (named, rest.named);
}

-- nothing more
paced_none : (script : Script) (origin : Origin) (name : List ℕ) (number : ℕ) (lines : List Line) (after : ℕ) (rs : List Reply) → rs ≡ [] → ArePaced script origin name number lines after rs
paced_none script origin name number lines after [] none = record { fresh = tt; placed = tt; named = tt }
paced_none script origin name number lines after (r ∷ rs) none = absurd cc

pub paced_laws : (script : Script) (origin : Origin) (name : List ℕ) (number now after : ℕ) (lines : List Line) (rs : List Reply) →
    NameUpTo now lines → 1 ≤ now → origin.position ≤ now → now ≤ after → Paced now after rs → ArePaced script origin name number lines after rs
paced_laws script origin name number now after lines [] named first base le paced = paced_none script origin name number lines after [] refl
paced_laws script origin name number now after lines (reply.Begin position ∷ rs) named first base le paced =
    let at : position ≡ now = paced.0 in
    paced_head script origin name number lines after (reply.Begin position) rs tt
    (fresh_begin origin lines name position (omega (arith, first, at)) (omega (arith, base, at)) (subst (λ p. NameUpTo p lines) (sym at) named))
    ((omega (arith, at, le)), tt)
    (paced_laws script origin name number now after (lines ++ line.Session name number (reply.Begin position) ∷ []) rs
    (all_append _ lines (line.Session name number (reply.Begin position) ∷ []) named ((omega (arith, at), tt), tt))
    first base le paced.1)
paced_laws script origin name number now after lines (reply.Row row ∷ rs) named first base le paced =
    paced_head script origin name number lines after (reply.Row row) rs tt tt tt
    (paced_laws script origin name number now after (lines ++ line.Session name number (reply.Row row) ∷ []) rs (all_append _ lines (line.Session name number (reply.Row row) ∷ []) named (tt, tt)) first base le paced)
paced_laws script origin name number now after lines (reply.Done rows ∷ rs) named first base le paced =
    paced_head script origin name number lines after (reply.Done rows) rs tt tt tt
    (paced_laws script origin name number now after (lines ++ line.Session name number (reply.Done rows) ∷ []) rs (all_append _ lines (line.Session name number (reply.Done rows) ∷ []) named (tt, tt)) first base le paced)
paced_laws script origin name number now after lines (reply.Changed rows ∷ rs) named first base le paced =
    paced_head script origin name number lines after (reply.Changed rows) rs tt tt tt
    (paced_laws script origin name number now after (lines ++ line.Session name number (reply.Changed rows) ∷ []) rs (all_append _ lines (line.Session name number (reply.Changed rows) ∷ []) named (tt, tt)) first base le paced)
paced_laws script origin name number now after lines (reply.Error cause ∷ rs) named first base le paced =
    paced_head script origin name number lines after (reply.Error cause) rs tt tt tt
    (paced_laws script origin name number now after (lines ++ line.Session name number (reply.Error cause) ∷ []) rs (all_append _ lines (line.Session name number (reply.Error cause) ∷ []) named (tt, tt)) first base le paced)
paced_laws script origin name number now after lines (reply.Level level ∷ rs) named first base le paced =
    paced_head script origin name number lines after (reply.Level level) rs tt tt tt
    (paced_laws script origin name number now after (lines ++ line.Session name number (reply.Level level) ∷ []) rs (all_append _ lines (line.Session name number (reply.Level level) ∷ []) named (tt, tt)) first base le paced)
paced_laws script origin name number now after lines (reply.RolledBack ∷ rs) named first base le paced =
    paced_head script origin name number lines after reply.RolledBack rs tt tt tt
    (paced_laws script origin name number now after (lines ++ line.Session name number reply.RolledBack ∷ []) rs (all_append _ lines (line.Session name number reply.RolledBack ∷ []) named (tt, tt)) first base le paced)
paced_laws script origin name number now after lines (reply.Lost node down ∷ rs) named first base le paced = absurd paced
paced_laws script origin name number now after lines (reply.NoMajority up nodes ∷ rs) named first base le paced = absurd paced
paced_laws script origin name number now after lines (reply.NoMemory ∷ rs) named first base le paced =
    paced_head script origin name number lines after reply.NoMemory rs tt tt tt
    (paced_laws script origin name number now after (lines ++ line.Session name number reply.NoMemory ∷ []) rs (all_append _ lines (line.Session name number reply.NoMemory ∷ []) named (tt, tt)) first base le paced)
paced_laws script origin name number now after lines (reply.Committed position ∷ rs) named first base le paced =
    paced_head script origin name number lines after (reply.Committed position) rs tt tt (paced.1, tt)
    (paced_none script origin name number _ after rs paced.0)
paced_laws script origin name number now after lines (reply.ConflictGenid position table genid ∷ rs) named first base le paced =
    paced_head script origin name number lines after (reply.ConflictGenid position table genid) rs tt tt (paced.1, tt) (paced_none script origin name number _ after rs paced.0)
paced_laws script origin name number now after lines (reply.ConflictRange position table key ∷ rs) named first base le paced =
    paced_head script origin name number lines after (reply.ConflictRange position table key) rs tt tt (paced.1, tt) (paced_none script origin name number _ after rs paced.0)
paced_laws script origin name number now after lines (reply.Duplicate position table key ∷ rs) named first base le paced =
    paced_head script origin name number lines after (reply.Duplicate position table key) rs tt tt ((let at : position ≡ now = paced.1 in omega (arith, at, le)), tt) (paced_none script origin name number _ after rs paced.0)
