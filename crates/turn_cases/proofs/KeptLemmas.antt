-- What the plain node decides is right, and what it keeps is what was decided.
use Rattle.std.proofs.Common.{◌≡◌, ◌∙◌, ℕ, zero, suc, ◌+◌, ◌-◌, ◌≤◌, ◌<◌, ◌++◌, ◌∷◌, [], List, Option, Some, None, length, take, drop, slice_get, Result, Ok, Err, IfOk, refl, sym, ap, subst, arith}
use Rattle.std.proofs.lemmas.List.{length-append, map-append}
use Rattle.std.proofs.Math.Seq.{take-append_seam, take-length}
use Rattle.cdb_values.specs.Changes.{changes_of, taken_by}
use Rattle.cdb_values.specs.Rows.{Rows, apply_all}
use Rattle.cdb_values.specs.declared.items.GenidItem.{GenidItem}
use Rattle.cdb_values.specs.declared.items.Interval.{Interval}
use Rattle.cdb_values.specs.declared.replies.Reply.{Reply}
use Rattle.cdb_values.specs.declared.replies.Reply.TheVariants as reply
use Rattle.cdb_values.specs.declared.rows.Change.{Change}
use Rattle.cdb_values.specs.declared.rows.RowOp.{RowOp}
use Rattle.cdb_values.specs.declared.tables.TableDef.{TableDef}
use Rattle.osql_session.proofs.TouchedLemmas.{used_once}
use Rattle.osql_session.specs.Items.{without_repeats}
use Rattle.osql_session.specs.Requests.{request_if, request_of, request_with, versions_used}
use Rattle.osql_session.specs.Sessions.{Session}
use Rattle.phys_log.specs.declared.requests.CommitRequest.{CommitRequest}
use Rattle.session_language.specs.Touched.{FirstUse, Used, first_use, first_used, or_use, ranges_at}
use Rattle.session_turns.specs.Decisions.{decision, judged}
use Rattle.session_turns.specs.Outcomes.{outcome_told, IsRefusal, IsRightFor}
use Rattle.session_turns.specs.Worlds.{Grows, IsEntryBehind, outcome_at}
use Rattle.session_turns.specs.declared.answers.CommitOutcome.{CommitOutcome}
use Rattle.session_turns.specs.declared.answers.CommitOutcome.TheVariants.{Committed, Conflict, Duplicate, Lost, NoMajority}
use Rattle.turn_cases.specs.Decided.{told_by, Decides, Judges}
use Rattle.turn_cases.specs.Plain.{changes_in, rows_at, rows_in, rows_of, used_of, world_by}
use Rattle.turn_cases.specs.declared.plain.Decided.{Decided}
use Rattle.turn_cases.specs.declared.plain.Decided.TheVariants.{Told, Enters}
use Rattle.turn_cases.specs.declared.rows.PlainEntry.{PlainEntry}

-- ---- lists

get_front : {A : Type 0} (xs ys : List A) (k : ℕ) → k < length xs → slice_get (xs ++ ys) k ≡ slice_get xs k
get_front [] ys k within = absurd (omega (arith, within))
get_front (x ∷ xs) ys zero within = refl
get_front (x ∷ xs) ys (suc k) within = get_front xs ys k (omega (arith, within))

get_end : {A : Type 0} (xs : List A) (x : A) → slice_get (xs ++ x ∷ []) (length xs) ≡ Some x
get_end [] x = refl
get_end (y ∷ xs) x = get_end xs x

map_count : (es : List PlainEntry) → length (changes_in es) ≡ length es
map_count [] = refl
map_count (e ∷ es) = ap (λ (n : ℕ). suc n) (map_count es)

-- ---- a history with one entry more

module _ (tables : List TableDef) (es : List PlainEntry) (e : PlainEntry) (some : 0 < length es) where
  count : length (es ++ e ∷ []) ≡ length es + 1
  count = omega (arith, length-append es (e ∷ []))

  changes_more : changes_in (es ++ e ∷ []) ≡ changes_in es ++ e.changes ∷ []
  changes_more = map-append (λ (x : PlainEntry). x.changes) es (e ∷ [])

  changes_count : length (changes_in es) ≡ length es
  changes_count = map_count es

  -- what stood before it
  front_rows : (at : ℕ) → at ≤ length es → rows_at (es ++ e ∷ []) at ≡ rows_at es at
  front_rows at within = ap rows_in (get_front es (e ∷ []) (at - 1) (omega (arith, within, some)))

  front_changes : take (length es) (changes_in (es ++ e ∷ [])) ≡ changes_in es
  front_changes =
      ap (λ (cs : List (List Change)). take (length es) cs) changes_more
      ∙ ap (λ (n : ℕ). take n (changes_in es ++ e.changes ∷ [])) (sym changes_count)
      ∙ take-append_seam (changes_in es) (e.changes ∷ [])

  grows_pushed : Grows (world_by tables es) (world_by tables (es ++ e ∷ []))
  grows_pushed = record {
    tables = refl;
    now = omega (arith, count);
    rows = front_rows;
    changes = λ place within. ap (λ (cs : List (List Change)). slice_get cs place) changes_more ∙ get_front (changes_in es) (e.changes ∷ []) place (omega (arith, within, changes_count));
  }

  entered : (ops : List RowOp) → rows_of e.rows ≡ apply_all (rows_at es (length es)) ops → e.changes ≡ changes_of ops (rows_at es (length es)).next →
      IsEntryBehind (world_by tables (es ++ e ∷ [])) (length es) ops
  entered ops behind made = record {
    within = omega (arith, count);
    changes =
        ap (λ (cs : List (List Change)). slice_get cs (length es)) changes_more
        ∙ ap (λ (n : ℕ). slice_get (changes_in es ++ e.changes ∷ []) n) (sym changes_count)
        ∙ get_end (changes_in es) e.changes
        ∙ ap Some (made ∙ ap (λ (r : Rows). changes_of ops r.next) (sym (front_rows (length es) (omega arith))));
    rows =
        ap (λ (n : ℕ). rows_in (slice_get (es ++ e ∷ []) n)) (let same : length es + 1 - 1 ≡ length es = omega arith in same)
        ∙ ap rows_in (get_end es e)
        ∙ behind
        ∙ ap (λ (r : Rows). apply_all r ops) (sym (front_rows (length es) (omega arith)));
  }

-- ---- what is decided

uses_once : (tables : List TableDef) (position : ℕ) (later : List (List Change)) (genids : List GenidItem) (ranges : List Interval) → first_use tables position later (used_of (without_repeats genids) ranges) ≡ first_use tables position later (used_of genids ranges)
uses_once tables position [] genids ranges = refl
uses_once tables position (changes ∷ later) genids ranges =
    ap (λ (u : Option Used). or_use (position + 1) u (first_use tables (position + 1) later (used_of (without_repeats genids) ranges))) (used_once tables changes genids ranges)
    ∙ ap (λ (o : Option FirstUse). or_use (position + 1) (first_used tables changes (used_of genids ranges)) o) (uses_once tables (position + 1) later genids ranges)

-- what is told of a session's request
abbrev pub told_of : List TableDef → List PlainEntry → Session → Reply
told_of tables es s = told_by tables es s.begin (used_of (versions_used s.ops s.genids) (ranges_at s.level s.ranges)) s.ops

-- it is what is decided on these changes and rows
told_decides : (tables : List TableDef) (es : List PlainEntry) (s : Session) (op : RowOp) (ops : List RowOp) → s.ops ≡ op ∷ ops → (changed : List (List Change)) (rows : Rows) → changed ≡ changes_in es → rows ≡ rows_at es (length es) →
    told_of tables es s ≡ decision tables changed rows s.begin (length es) (used_of (taken_by s.ops ++ s.genids) (ranges_at s.level s.ranges)) s.ops
told_decides tables es s op ops are changed rows same stand =
    ap (judged tables (rows_at es (length es)) (length es) s.ops) (uses_once tables s.begin (drop s.begin (changes_in es)) (taken_by s.ops ++ s.genids) (ranges_at s.level s.ranges))
    ∙ (λ j. judged tables (sym stand j) (length es) s.ops (first_use tables s.begin (drop s.begin (sym same j)) (used_of (taken_by s.ops ++ s.genids) (ranges_at s.level s.ranges))))
    ∙ some s.ops are
  where
    some : (xs : List RowOp) → xs ≡ op ∷ ops → judged tables rows (length es) xs (first_use tables s.begin (drop s.begin changed) (used_of (taken_by s.ops ++ s.genids) (ranges_at s.level s.ranges)))
        ≡ decision tables changed rows s.begin (length es) (used_of (taken_by s.ops ++ s.genids) (ranges_at s.level s.ranges)) xs
    some [] is = absurd cc
    some (x ∷ xs) is = refl

-- at the end of the history
told_at : (tables : List TableDef) (es : List PlainEntry) (s : Session) (op : RowOp) (ops : List RowOp) → s.ops ≡ op ∷ ops → told_of tables es s ≡ outcome_at (world_by tables es) (length es) s.begin s.level s.genids s.ranges s.ops
told_at tables es s op ops are =
    told_decides tables es s op ops are (take (length es) (changes_in es)) (rows_at es (length es)) (ap (λ (n : ℕ). take n (changes_in es)) (sym (map_count es)) ∙ take-length (changes_in es)) refl

-- and with one entry more
told_before : (tables : List TableDef) (es : List PlainEntry) (e : PlainEntry) → 0 < length es → (s : Session) (op : RowOp) (ops : List RowOp) → s.ops ≡ op ∷ ops →
    told_of tables es s ≡ outcome_at (world_by tables (es ++ e ∷ [])) (length es) s.begin s.level s.genids s.ranges s.ops
told_before tables es e some s op ops are =
    told_decides tables es s op ops are (take (length es) (changes_in (es ++ e ∷ []))) (rows_at (es ++ e ∷ []) (length es)) (front_changes tables es e some) (front_rows tables es e some (length es) (omega arith))

-- ---- the outcome of a commit is right

-- a session asks what its operations are, and has some
record IsAsked (s : Session) (r : CommitRequest) : Type 0 where
  op : RowOp
  ops : List RowOp
  are : s.ops ≡ op ∷ ops
  same : r ≡ request_with s s.ops

asked_if : (s : Session) (r : CommitRequest) (xs : List RowOp) → s.ops ≡ xs → Some r ≡ request_if s xs → IsAsked s r
asked_if s r [] are is = absurd cc
asked_if s r (op ∷ ops) are is =
    let one : r ≡ request_with s (op ∷ ops) = let both : Some r ≡ Some (request_with s (op ∷ ops)) = is in cc in
    record { op = op; ops = ops; are = are; same = one ∙ ap (request_with s) (sym are) }

none_told : (w : List RowOp → Reply) (begin : ℕ) (ops : List RowOp) → w [] ≡ reply.Committed begin → ops ≡ [] → reply.Committed begin ≡ w ops
none_told w begin ops at is = sym (ap w is ∙ at)

none_if : (s : Session) (xs : List RowOp) → None ≡ request_if s xs → xs ≡ []
none_if s [] is = refl
none_if s (op ∷ ops) is = absurd cc

-- a transaction that asks for nothing is committed where it began
pub none_right : (tables : List TableDef) (es : List PlainEntry) (s : Session) → None ≡ request_of s → IsRightFor (world_by tables es) (world_by tables es) s (Committed s.begin)
none_right tables es s none =
    let no : s.ops ≡ [] = none_if s s.ops none in
    record {
      before = length es;
      between = record { from = omega arith; to = omega arith };
      decided = none_told (outcome_at (world_by tables es) (length es) s.begin s.level s.genids s.ranges) s.begin s.ops refl no;
      entered = λ op ops is. absurd (let empty : s.ops ≡ [] = no in cc);
    }

-- the told reply of a request is that of its session
abbrev pub told_asked : List TableDef → List PlainEntry → CommitRequest → Reply
told_asked tables es r = told_by tables es r.begin (used_of r.genids (ranges_at r.level r.ranges)) r.ops

-- one that is refused
refused_by : (tables : List TableDef) (es : List PlainEntry) (s : Session) (op : RowOp) (ops : List RowOp) (o : CommitOutcome) → s.ops ≡ op ∷ ops → IsRefusal o → outcome_told tables o ≡ told_of tables es s → IsRightFor (world_by tables es) (world_by tables es) s o
refused_by tables es s op ops (Committed position) are refusal told = absurd refusal
refused_by tables es s op ops (Conflict position item) are refusal told = record { position = length es; between = record { from = omega arith; to = omega arith }; decided = told ∙ told_at tables es s op ops are }
refused_by tables es s op ops (Duplicate position table key) are refusal told = record { position = length es; between = record { from = omega arith; to = omega arith }; decided = told ∙ told_at tables es s op ops are }
refused_by tables es s op ops (Lost node down) are refusal told = tt
refused_by tables es s op ops (NoMajority up nodes) are refusal told = tt

pub refused_right : (tables : List TableDef) (es : List PlainEntry) (s : Session) (r : CommitRequest) (o : CommitOutcome) → Some r ≡ request_of s → Decides tables es (told_asked tables es r) r.ops (Told o) →
    IsRightFor (world_by tables es) (world_by tables es) s o
refused_right tables es s r o is decided =
    let asked : IsAsked s r = asked_if s r s.ops refl is in
    refused_by tables es s asked.op asked.ops o asked.are decided.0 (decided.1 ∙ ap (told_asked tables es) asked.same)

-- one that becomes an entry
pub entered_right : (tables : List TableDef) (es : List PlainEntry) (e : PlainEntry) (s : Session) (r : CommitRequest) → 0 < length es → Some r ≡ request_of s → Decides tables es (told_asked tables es r) r.ops (Enters e) →
    IsRightFor (world_by tables es) (world_by tables (es ++ e ∷ [])) s (Committed (length es + 1))
entered_right tables es e s r some is decided =
    let asked : IsAsked s r = asked_if s r s.ops refl is in
    let ops : r.ops ≡ s.ops = ap (λ (x : CommitRequest). x.ops) asked.same in
    record {
      before = length es;
      between = record { from = omega arith; to = omega (arith, count tables es e some) };
      decided = sym decided.0 ∙ ap (told_asked tables es) asked.same ∙ told_before tables es e some s asked.op asked.ops asked.are;
      entered = λ op more are. (
        refl,
        entered tables es e some s.ops (decided.1 ∙ ap (apply_all (rows_at es (length es))) ops)
            (decided.2 ∙ ap (λ (xs : List RowOp). changes_of xs (rows_at es (length es)).next) ops),
      );
    }

-- ---- the same by what is decided

pub none_judged : (tables : List TableDef) (es : List PlainEntry) (s : Session) (begin : ℕ) → begin ≡ s.begin → None ≡ request_of s → Judges tables es s (Told (Committed begin))
none_judged tables es s begin at none = subst (λ (n : ℕ). IsRightFor (world_by tables es) (world_by tables es) s (Committed n)) (sym at) (none_right tables es s none)

judged_as : (tables : List TableDef) (es : List PlainEntry) (s : Session) (r : CommitRequest) (d : Decided) → 0 < length es → Some r ≡ request_of s → Decides tables es (told_asked tables es r) r.ops d → Judges tables es s d
judged_as tables es s r (Told o) some is decided = refused_right tables es s r o is decided
judged_as tables es s r (Enters e) some is decided = entered_right tables es e s r some is decided

pub asked_judged : {E : Type 0} (result : Result Decided E) (tables : List TableDef) (es : List PlainEntry) (s : Session) (r : CommitRequest) → 0 < length es → Some r ≡ request_of s → IfOk result (Decides tables es (told_asked tables es r) r.ops) →
    IfOk result (Judges tables es s)
asked_judged (Ok d) tables es s r some is decided = judged_as tables es s r d some is decided
asked_judged (Err e) tables es s r some is decided = tt

-- ---- an entry is kept

pub pushed_right : (tables : List TableDef) (es given more : List PlainEntry) (s : Session) (d : Decided) (e : PlainEntry) (k : ℕ) → d ≡ Enters e → given ≡ es → more ≡ es ++ e ∷ [] → k ≡ length more → Judges tables given s d →
    IsRightFor (world_by tables es) (world_by tables more) s (Committed k)
pushed_right tables es given more s d e k is same pushed last judged =
    let enters : Judges tables given s (Enters e) = subst (λ (x : Decided). Judges tables given s x) is judged in
    let here : Judges tables es s (Enters e) = subst (λ (xs : List PlainEntry). Judges tables xs s (Enters e)) same enters in
    let at : length es + 1 ≡ k = omega (arith, last, ap (λ (xs : List PlainEntry). length xs) pushed, length-append es (e ∷ [])) in
    subst (λ (n : ℕ). IsRightFor (world_by tables es) (world_by tables more) s (Committed n)) at
    (subst (λ (xs : List PlainEntry). IsRightFor (world_by tables es) (world_by tables xs) s (Committed (length es + 1))) (sym pushed) here)

pub pushed_grows : (tables : List TableDef) (es more : List PlainEntry) (e : PlainEntry) → more ≡ es ++ e ∷ [] → 0 < length es → Grows (world_by tables es) (world_by tables more)
pushed_grows tables es more e pushed some = subst (λ (xs : List PlainEntry). Grows (world_by tables es) (world_by tables xs)) (sym pushed) (grows_pushed tables es e some)
