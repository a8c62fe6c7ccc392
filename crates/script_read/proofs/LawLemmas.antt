-- Every script that is read is lawful, can run and has names that are names: each line that is read keeps what holds
-- of those before it.
use Rattle.std.proofs.Common.{◌≡◌, ◌≢◌, ℕ, zero, suc, ◌+◌, ◌<◌, ◌≤◌, List, [], ◌∷◌, ◌++◌, length, map, Bool, true, false, not, ◌&&◌, ◌||◌, ◌==◌, Option, Some, None, Result, Ok, Err, refl, sym, ◌∙◌, ap, subst, arith, if◌then◌else◌, nat_lt, nat_le, ◌⊎◌, inl, inr, append_assoc, length-append}
use Rattle.std.proofs.lemmas.Bool.{ltb-false}
use Rattle.std.proofs.lemmas.List.{append-nil}
use Rattle.std.specs.List.{AllByRecursion}
use Rattle.std.specs.Str.{is_utf8}
use Rattle.cdb_values.specs.Tables.{add_fault, place_of}
use Rattle.cdb_values.specs.declared.tables.ColumnDef.{ColumnDef}
use Rattle.cdb_values.specs.declared.tables.TableDef.{TableDef}
use Rattle.byte_words.specs.Lines.{lines_of_bytes, text_of, is_skipped}
use Rattle.byte_words.specs.Words.{after_piece, is_end, is_name}
use Rattle.table_read.proofs.TableLaws.{lawful}
use Rattle.table_read.specs.Verdict.{TableFault, Unlawful, Limit, table_of}
use Rattle.script_read.proofs.LimitLemmas.{within_is_whole}
use Rattle.script_read.proofs.NameLemmas.{well_formed, table_named, says_named}
use Rattle.script_read.proofs.TestLemmas.{and_first, and_second, declared}
use Rattle.script_read.specs.Answers.{Refusal}
use Rattle.script_read.specs.Bodies.{said_of, say_said, stop_said, start_said, arm_of, arm_said, barrier_said, feed_said}
use Rattle.script_read.specs.Built.{is_built}
use Rattle.script_form.specs.CanRun.{AreTaken, IsDeclaredText, CanRun}
use Rattle.byte_words.specs.Names.{IsName}
use Rattle.script_form.specs.Named.{IsNamedTable, SaysNamed, IsNamed}
use Rattle.script_read.specs.Heads.{only_number, only_fitting, is_declared, is_node, nodes_said, cluster_said, workers_said, session_of, session_said, tabled, table_said, watched, watch_said}
use Rattle.script_read.specs.Kinds.{kind_of, keyword_part, part_of, may_come}
use Rattle.script_read.specs.Lawful.{AreNew, IsNode, NamesDeclared, Rise, IsLawful}
use Rattle.script_read.specs.ScriptText.{script_of, finished, script_with, and_then, read_lines, read_line, read_kind, read_placed, told, if_built, tables_with, with_said, with_table, no_draft, most_bytes, most_line_bytes}
use Rattle.script_read.specs.declared.drafts.Draft.{Draft}
use Rattle.script_read.specs.declared.kinds.Keyword.{Keyword}
use Rattle.script_read.specs.declared.kinds.Keyword.TheVariants as keywords
use Rattle.script_read.specs.declared.kinds.LineKind.{LineKind}
use Rattle.script_read.specs.declared.kinds.LineKind.TheVariants as lines
use Rattle.script_read.specs.declared.said.Said.{Said}
use Rattle.script_read.specs.declared.said.Said.TheVariants as said
use Rattle.script_form.specs.declared.scripts.Act.{Act}
use Rattle.script_form.specs.declared.scripts.Act.TheVariants as acts
use Rattle.script_form.specs.declared.scripts.BodyLine.{BodyLine}
use Rattle.script_form.specs.declared.scripts.Moment.{Moment}
use Rattle.script_form.specs.declared.scripts.Script.{Script}
use Rattle.script_form.specs.declared.scripts.SessionLine.{SessionLine}
use Rattle.script_form.specs.declared.scripts.TableLine.{TableLine}

-- what an answer without a refusal says of its parts
and_ok : {A B : Type 0} (read : Result A Refusal) (next : A → Result B Refusal) (y : B) → and_then read next ≡ Ok y → (x : A) × ((read ≡ Ok x) × (next x ≡ Ok y))
and_ok (Ok x) next y e = (x, (refl, e))
and_ok (Err stop) next y e = absurd cc

else_ok : {A : Type 0} (b : Bool) (stop : Refusal) (read : Result A Refusal) (x : A) → (if b then Err stop else read) ≡ Ok x → (b ≡ false) × (read ≡ Ok x)
else_ok true stop read x e = absurd cc
else_ok false stop read x e = (refl, e)

then_ok : {A : Type 0} (b : Bool) (stop : Refusal) (read : Result A Refusal) (x : A) → (if b then read else Err stop) ≡ Ok x → (b ≡ true) × (read ≡ Ok x)
then_ok true stop read x e = (refl, e)
then_ok false stop read x e = absurd cc

abbrev ok_or : {A : Type 0} → A → Result A Refusal → A
ok_or other (Ok x) = x
ok_or other (Err stop) = other

abbrev ok_of : {A : Type 0} → A → Result A Refusal
ok_of x = Ok x

same_ok : {A : Type 0} (x y : A) → ok_of x ≡ ok_of y → x ≡ y
same_ok x y e = ap (ok_or x) e

built_ok : (draft : Draft) (line : ℕ) (x : Said) (next : Draft) → if_built draft line x ≡ Ok next → (is_built x ≡ true) × (with_said draft line x ≡ next)
built_ok draft line x next e = let k = then_ok (is_built x) _ _ next e in (k.0, same_ok _ _ k.1)

-- what says nothing that runs today ends the reading
never : (draft : Draft) (line : ℕ) (read : Result Said Refusal) (next : Draft) → ((x : Said) → read ≡ Ok x → is_built x ≡ false) → and_then read (if_built draft line) ≡ Ok next → ⊥
never draft line read next out e =
    let a = and_ok read (if_built draft line) next e in
    let b : is_built a.0 ≡ true = (built_ok draft line a.0 next a.1.1).0 in
    let c : is_built a.0 ≡ false = out a.0 a.1.0 in
    let d : true ≡ false = sym b ∙ c in
    cc

is_out : (x y : Said) → is_built x ≡ false → ok_of x ≡ ok_of y → is_built y ≡ false
is_out x y h e = subst (λ s. is_built s ≡ false) (same_ok x y e) h

workers_out : (line : ℕ) (workers : Option ℕ) (x : Said) → workers_said line workers ≡ Ok x → is_built x ≡ false
workers_out line None x e = absurd cc
workers_out line (Some workers) x e = is_out (said.Workers workers) x refl (else_ok ((workers == 0) || nat_lt 64 workers) _ _ x e).1

watched_out : (draft : Draft) (line : ℕ) (place : Option ℕ) (x : Said) → watched draft line place ≡ Ok x → is_built x ≡ false
watched_out draft line None x e = absurd cc
watched_out draft line (Some place) x e = is_out (said.Watch place) x refl (else_ok (nat_le 8 (length draft.watches) || nat_le draft.consumers (length draft.watches)) _ _ x e).1

watch_out : (draft : Draft) (line : ℕ) (name : Option (List ℕ)) (x : Said) → watch_said draft line name ≡ Ok x → is_built x ≡ false
watch_out draft line None x e = absurd cc
watch_out draft line (Some name) x e = watched_out draft line (place_of draft.schema name) x (then_ok (is_name name) _ _ x e).1

stop_out : (draft : Draft) (line : ℕ) (node : Option ℕ) (x : Said) → stop_said draft line node ≡ Ok x → is_built x ≡ false
stop_out draft line None x e = absurd cc
stop_out draft line (Some node) x e = is_out (said.Runs (acts.Stop node)) x refl (then_ok (is_node draft.nodes node) _ _ x e).1

start_out : (draft : Draft) (line : ℕ) (node : Option ℕ) (x : Said) → start_said draft line node ≡ Ok x → is_built x ≡ false
start_out draft line None x e = absurd cc
start_out draft line (Some node) x e = is_out (said.Runs (acts.Start node)) x refl (then_ok (is_node draft.nodes node) _ _ x e).1

arm_out : (draft : Draft) (line : ℕ) (arm : Option (List ℕ × Moment)) (x : Said) → arm_said draft line arm ≡ Ok x → is_built x ≡ false
arm_out draft line None x e = absurd cc
arm_out draft line (Some (name, moment)) x e = is_out (said.Runs (acts.Arm name moment)) x refl (then_ok (is_declared name draft.sessions) _ _ x e).1

barrier_out : (line : ℕ) (rest : List ℕ) (x : Said) → barrier_said line rest ≡ Ok x → is_built x ≡ false
barrier_out line rest x e = is_out (said.Runs acts.Barrier) x refl (then_ok (is_end rest) _ _ x e).1

feed_out : (line : ℕ) (rest : List ℕ) (x : Said) → feed_said line rest ≡ Ok x → is_built x ≡ false
feed_out line rest x e = is_out (said.Runs acts.Feed) x refl (then_ok (is_end rest) _ _ x e).1

-- numbers of lines that rise, all of them before a line
record Rising (numbers : List ℕ) (line : ℕ) : Type 0 where
  rise : Rise 1 numbers
  before : AllByRecursion (λ number. number < line) numbers
  past : 1 < line

all_later : (line : ℕ) (numbers : List ℕ) → AllByRecursion (λ number. number < line) numbers → AllByRecursion (λ number. number < line + 1) numbers
all_later line [] all = tt
all_later line (number ∷ numbers) all = let h : number < line = all.0 in (omega arith, all_later line numbers all.1)

all_more : {A : Type 0} (P : A → Type 0) (xs : List A) (x : A) → AllByRecursion P xs → P x → AllByRecursion P (xs ++ x ∷ [])
all_more P [] x all p = (p, tt)
all_more P (y ∷ ys) x all p = (all.0, all_more P ys x all.1 p)

rise_more : (before line : ℕ) (numbers : List ℕ) → Rise before numbers → AllByRecursion (λ number. number < line) numbers → before < line → Rise before (numbers ++ line ∷ [])
rise_more before line [] rise all h = (h, tt)
rise_more before line (number ∷ numbers) rise all h = (rise.0, rise_more number line numbers rise.1 all.1 all.0)

rising_later : (numbers : List ℕ) (line : ℕ) → Rising numbers line → Rising numbers (line + 1)
rising_later numbers line r = let h : 1 < line = r.past in record { rise = r.rise; before = all_later line numbers r.before; past = omega arith }

rising_more : (numbers : List ℕ) (line : ℕ) → Rising numbers line → Rising (numbers ++ line ∷ []) (line + 1)
rising_more numbers line r =
    let h : 1 < line = r.past in
    let now : line < line + 1 = omega arith in
    record {
      rise = rise_more 1 line numbers r.rise r.before r.past;
      before = all_more (λ number. number < line + 1) numbers line (all_later line numbers r.before) now;
      past = omega arith;
    }

-- the lines of sessions, tables and the body
abbrev numbers_of : List SessionLine → List TableLine → List BodyLine → List ℕ
numbers_of sessions tables body = map (λ s. s.line) sessions ++ (map (λ t. t.line) tables ++ map (λ l. l.line) body)

session_numbers : (sessions : List SessionLine) (session : SessionLine) → numbers_of (sessions ++ session ∷ []) [] [] ≡ numbers_of sessions [] [] ++ session.line ∷ []
session_numbers [] session = refl
session_numbers (s ∷ sessions) session = ap (λ ns. s.line ∷ ns) (session_numbers sessions session)

table_numbers : (sessions : List SessionLine) (tables : List TableLine) (table : TableLine) → numbers_of sessions (tables ++ table ∷ []) [] ≡ numbers_of sessions tables [] ++ table.line ∷ []
table_numbers [] [] table = refl
table_numbers [] (t ∷ tables) table = ap (λ ns. t.line ∷ ns) (table_numbers [] tables table)
table_numbers (s ∷ sessions) tables table = ap (λ ns. s.line ∷ ns) (table_numbers sessions tables table)

body_numbers : (sessions : List SessionLine) (tables : List TableLine) (body : List BodyLine) (said : BodyLine) → numbers_of sessions tables (body ++ said ∷ []) ≡ numbers_of sessions tables body ++ said.line ∷ []
body_numbers [] [] [] said = refl
body_numbers [] [] (l ∷ body) said = ap (λ ns. l.line ∷ ns) (body_numbers [] [] body said)
body_numbers [] (t ∷ tables) body said = ap (λ ns. t.line ∷ ns) (body_numbers [] tables body said)
body_numbers (s ∷ sessions) tables body said = ap (λ ns. s.line ∷ ns) (body_numbers sessions tables body said)

new_more : (before sessions : List SessionLine) (session : SessionLine) → AreNew before sessions → is_declared session.name (before ++ sessions) ≡ false → AreNew before (sessions ++ session ∷ [])
new_more before [] session new h = (subst (λ xs. is_declared session.name xs ≡ false) (append-nil before) h, tt)
new_more before (s ∷ sessions) session new h = (new.0, new_more (before ++ s ∷ []) sessions session new.1 (subst (λ xs. is_declared session.name xs ≡ false) (sym (append_assoc before (s ∷ []) sessions)) h))

taken_more : (before tables : List TableDef) (table : TableDef) → AreTaken before tables → add_fault (before ++ tables) table ≡ None → AreTaken before (tables ++ table ∷ [])
taken_more before [] table taken h = (subst (λ xs. add_fault xs table ≡ None) (append-nil before) h, tt)
taken_more before (t ∷ tables) table taken h = (taken.0, taken_more (before ++ t ∷ []) tables table taken.1 (subst (λ xs. add_fault xs table ≡ None) (sym (append_assoc before (t ∷ []) tables)) h))

tables_more : (tables : List TableLine) (table : TableLine) → map (λ t. t.table) (tables ++ table ∷ []) ≡ map (λ t. t.table) tables ++ table.table ∷ []
tables_more [] table = refl
tables_more (t ∷ tables) table = ap (λ ts. t.table ∷ ts) (tables_more tables table)

-- what was read before any line
record Fresh (draft : Draft) (line : ℕ) : Type 0 where
  part : draft.part ≡ 0
  sessions : draft.sessions ≡ []
  schema : draft.schema ≡ []
  tables : draft.tables ≡ []
  watches : draft.watches ≡ []
  body : draft.body ≡ []
  first : 1 ≤ line

-- what was read from the nodes line on, before a line
record Going (draft : Draft) (line : ℕ) : Type 0 where
  begun : (draft.part == 0) ≡ false
  nodes : draft.nodes ≡ 1
  watches : draft.watches ≡ []
  few : length draft.sessions ≤ 64
  sessions : AllByRecursion (λ s. (s.node ≡ 1) × (s.hasql ≡ false)) draft.sessions
  new : AreNew [] draft.sessions
  session_names : AllByRecursion (λ s. IsName s.name) draft.sessions
  schema : draft.schema ≡ map (λ t. t.table) draft.tables
  taken : AreTaken [] draft.schema
  table_names : AllByRecursion (λ t. IsNamedTable t.table) draft.tables
  texts : AllByRecursion (λ l. IsDeclaredText draft.sessions l.act) draft.body
  columns : AllByRecursion (λ t. t.table.columns ≢ []) draft.tables
  tables_part : (draft.tables ≡ []) ⊎ (5 ≤ draft.part)
  body_part : (draft.body ≡ []) ⊎ (7 ≤ draft.part)
  lines : Rising (numbers_of draft.sessions draft.tables draft.body) line

data Stage (draft : Draft) (line : ℕ) : Type 0 where
  at_fresh : Fresh draft line → Stage draft line
  at_going : Going draft line → Stage draft line

later : (draft : Draft) (line : ℕ) → Stage draft line → Stage draft (line + 1)
later draft line (at_fresh f) = let h : 1 ≤ line = f.first in at_fresh (record { part = f.part; sessions = f.sessions; schema = f.schema; tables = f.tables; watches = f.watches; body = f.body; first = omega arith })
later draft line (at_going g) = at_going (record { begun = g.begun; nodes = g.nodes; watches = g.watches; few = g.few; sessions = g.sessions; new = g.new; session_names = g.session_names; schema = g.schema; taken = g.taken; table_names = g.table_names; texts = g.texts; columns = g.columns; tables_part = g.tables_part; body_part = g.body_part; lines = rising_later _ line g.lines })

-- which parts may come behind one
come_later : (before part : ℕ) → (before == 0) ≡ false → may_come before part ≡ true → before ≤ part
come_later before part z m = go (nat_lt before part) refl (subst (λ b. (if b then part == 1 else nat_lt before part || ((before == part) && nat_le 4 part)) ≡ true) z m)
  where
    below : nat_lt before part ≡ true → before ≤ part
    below h = grind arith

    same : (before == part) ≡ true → before ≤ part
    same h = grind arith

    go : (b : Bool) → nat_lt before part ≡ b → (b || ((before == part) && nat_le 4 part)) ≡ true → before ≤ part
    go true h e = below h
    go false h e = same (and_first (before == part) _ e)

no_nodes : (before : ℕ) → (before == 0) ≡ false → may_come before 1 ≡ true → ⊥
no_nodes before z m = go (nat_lt before 1) refl (before == 1) (subst (λ b. (if b then 1 == 1 else nat_lt before 1 || ((before == 1) && nat_le 4 1)) ≡ true) z m)
  where
    below : (before == 0) ≡ false → nat_lt before 1 ≡ true → ⊥
    below z h = grind arith

    go : (b : Bool) → nat_lt before 1 ≡ b → (c : Bool) → (b || (c && false)) ≡ true → ⊥
    go true h c e = below z h
    go false h true e = cc
    go false h false e = cc

not_first : (part : ℕ) → (part == 1) ≡ false → (before : ℕ) → before ≡ 0 → may_come before part ≡ true → ⊥
not_first part h before z m =
    let k : (part == 1) ≡ true = subst (λ b. may_come b part ≡ true) z m in
    let d : true ≡ false = sym k ∙ h in
    cc

nodes_keeps : (draft : Draft) (line : ℕ) (nodes : Option ℕ) (next : Draft) → Fresh draft line → and_then (nodes_said draft line nodes) (if_built draft line) ≡ Ok next → Stage next (line + 1)
nodes_keeps draft line None next f e = absurd cc
nodes_keeps draft line (Some nodes) next f e =
    let a = and_ok (nodes_said draft line (Some nodes)) (if_built draft line) next e in
    let b = else_ok ((nodes == 0) || nat_lt 7 nodes) _ _ a.0 a.1.0 in
    let c = else_ok (nat_lt draft.stores nodes) _ _ a.0 b.1 in
    let same : said.Nodes nodes ≡ a.0 = same_ok _ _ c.1 in
    let built : if_built draft line (said.Nodes nodes) ≡ Ok next = subst (λ s. if_built draft line s ≡ Ok next) (sym same) a.1.1 in
    let k = built_ok draft line (said.Nodes nodes) next built in
    subst (λ d. Stage d (line + 1)) k.1 (at_going (record {
      begun = refl;
      nodes = one nodes k.0;
      watches = f.watches;
      few = subst (λ ss. length ss ≤ 64) (sym f.sessions) (omega arith);
      sessions = subst (λ ss. AllByRecursion (λ s. (s.node ≡ 1) × (s.hasql ≡ false)) ss) (sym f.sessions) tt;
      new = subst (λ ss. AreNew [] ss) (sym f.sessions) tt;
      session_names = subst (λ ss. AllByRecursion (λ s. IsName s.name) ss) (sym f.sessions) tt;
      schema = f.schema ∙ ap (λ ts. map (λ t. t.table) ts) (sym f.tables);
      taken = subst (λ ts. AreTaken [] ts) (sym f.schema) tt;
      table_names = subst (λ ts. AllByRecursion (λ t. IsNamedTable t.table) ts) (sym f.tables) tt;
      texts = subst (λ b. AllByRecursion (λ l. IsDeclaredText draft.sessions l.act) b) (sym f.body) tt;
      columns = subst (λ ts. AllByRecursion (λ t. t.table.columns ≢ []) ts) (sym f.tables) tt;
      tables_part = inl f.tables;
      body_part = inl f.body;
      lines = subst (λ b. Rising (numbers_of draft.sessions draft.tables b) (line + 1)) (sym f.body) (subst (λ t. Rising (numbers_of draft.sessions t []) (line + 1)) (sym f.tables) (subst (λ s. Rising (numbers_of s [] []) (line + 1)) (sym f.sessions) (none f.first)));
    }))
  where
    one : (n : ℕ) → (n == 1) ≡ true → n ≡ 1
    one n h = grind arith

    none : 1 ≤ line → Rising [] (line + 1)
    none h = record { rise = tt; before = tt; past = omega arith }

-- no table, and no line of the body, stands before a part
no_tables : (draft : Draft) → (draft.tables ≡ []) ⊎ (5 ≤ draft.part) → draft.part ≤ 4 → draft.tables ≡ []
no_tables draft (inl e) h = e
no_tables draft (inr k) h = absurd (omega arith)

no_body : (draft : Draft) → (draft.body ≡ []) ⊎ (7 ≤ draft.part) → draft.part ≤ 5 → draft.body ≡ []
no_body draft (inl e) h = e
no_body draft (inr k) h = absurd (omega arith)

or_first : (a b : Bool) → (a || b) ≡ false → a ≡ false
or_first true b e = absurd cc
or_first false b e = refl

or_second : (a b : Bool) → (a || b) ≡ false → b ≡ false
or_second true b e = absurd cc
or_second false b e = e

not_false : (a : Bool) → not a ≡ false → a ≡ true
not_false true e = refl
not_false false e = absurd cc

not_true : (a : Bool) → not a ≡ true → a ≡ false
not_true true e = absurd cc
not_true false e = refl

only_node : (nodes node : ℕ) → nodes ≡ 1 → is_node nodes node ≡ true → node ≡ 1
only_node nodes node h e = within (and_first (nat_le 1 node) _ e) (subst (λ n. nat_le node n ≡ true) h (and_second (nat_le 1 node) _ e))
  where
    within : nat_le 1 node ≡ true → nat_le node 1 ≡ true → node ≡ 1
    within a b = grind arith

cluster_keeps : (draft : Draft) (line : ℕ) (name : Option (List ℕ)) (next : Draft) → Going draft line → draft.part ≤ 2 → and_then (cluster_said line name) (if_built draft line) ≡ Ok next → Stage next (line + 1)
cluster_keeps draft line None next g p e = absurd cc
cluster_keeps draft line (Some name) next g p e =
    let a = and_ok (cluster_said line (Some name)) (if_built draft line) next e in
    let b = then_ok (is_name name) _ _ a.0 a.1.0 in
    let same : said.Cluster name ≡ a.0 = same_ok _ _ b.1 in
    let built : if_built draft line (said.Cluster name) ≡ Ok next = subst (λ s. if_built draft line s ≡ Ok next) (sym same) a.1.1 in
    let k = built_ok draft line (said.Cluster name) next built in
    subst (λ d. Stage d (line + 1)) k.1 (at_going (record {
      begun = refl;
      nodes = g.nodes;
      watches = g.watches;
      few = g.few;
      sessions = g.sessions;
      new = g.new;
      session_names = g.session_names;
      schema = g.schema;
      taken = g.taken;
      table_names = g.table_names;
      texts = g.texts;
      columns = g.columns;
      tables_part = inl (no_tables draft g.tables_part (before_tables p));
      body_part = inl (no_body draft g.body_part (before_body p));
      lines = rising_later _ line g.lines;
    }))
  where
    before_tables : draft.part ≤ 2 → draft.part ≤ 4
    before_tables h = omega arith

    before_body : draft.part ≤ 2 → draft.part ≤ 5
    before_body h = omega arith

session_keeps : (draft : Draft) (line : ℕ) (parts : Option ((List ℕ × ℕ) × Bool)) (next : Draft) → Going draft line → draft.part ≤ 4 → and_then (session_said draft line parts) (if_built draft line) ≡ Ok next → Stage next (line + 1)
session_keeps draft line None next g p e = absurd cc
session_keeps draft line (Some ((name, node), hasql)) next g p e =
    let session : SessionLine = record { line = line; name = name; node = node; hasql = hasql } in
    let a = and_ok (session_said draft line (Some ((name, node), hasql))) (if_built draft line) next e in
    let b = else_ok (not (is_name name) || is_declared name draft.sessions) _ _ a.0 a.1.0 in
    let c = else_ok (not (is_node draft.nodes node)) _ _ a.0 b.1 in
    let d = else_ok (nat_le 64 (length draft.sessions)) _ _ a.0 c.1 in
    let same : said.Session session ≡ a.0 = same_ok _ _ d.1 in
    let built : if_built draft line (said.Session session) ≡ Ok next = subst (λ s. if_built draft line s ≡ Ok next) (sym same) a.1.1 in
    let k = built_ok draft line (said.Session session) next built in
    let tables : draft.tables ≡ [] = no_tables draft g.tables_part p in
    let body : draft.body ≡ [] = no_body draft g.body_part (early p) in
    let at_one : node ≡ 1 = only_node draft.nodes node g.nodes (not_false (is_node draft.nodes node) c.0) in
    subst (λ d. Stage d (line + 1)) k.1 (at_going (record {
      begun = refl;
      nodes = g.nodes;
      watches = g.watches;
      few = fewer draft.sessions session d.0;
      sessions = all_more (λ s. (s.node ≡ 1) × (s.hasql ≡ false)) draft.sessions session g.sessions (at_one, not_true hasql k.0);
      new = new_more [] draft.sessions session g.new (or_second (not (is_name name)) _ b.0);
      session_names = all_more (λ s. IsName s.name) draft.sessions session g.session_names (well_formed name (not_false (is_name name) (or_first (not (is_name name)) _ b.0)));
      schema = g.schema;
      taken = g.taken;
      table_names = g.table_names;
      texts = subst (λ b. AllByRecursion (λ l. IsDeclaredText (draft.sessions ++ session ∷ []) l.act) b) (sym body) tt;
      columns = g.columns;
      tables_part = inl tables;
      body_part = inl body;
      lines = more tables body g.lines;
    }))
  where
    early : draft.part ≤ 4 → draft.part ≤ 5
    early h = omega arith

    fewer : (sessions : List SessionLine) (session : SessionLine) → nat_le 64 (length sessions) ≡ false → length (sessions ++ session ∷ []) ≤ 64
    fewer sessions session h =
        let l : length (sessions ++ session ∷ []) ≡ length sessions + length (session ∷ []) = length-append sessions (session ∷ []) in
        let s : length sessions < 64 = grind arith in
        omega arith

    more : draft.tables ≡ [] → draft.body ≡ [] → Rising (numbers_of draft.sessions draft.tables draft.body) line → Rising (numbers_of (draft.sessions ++ record { line = line; name = name; node = node; hasql = hasql } ∷ []) draft.tables draft.body) (line + 1)
    more t b r =
        let before : Rising (numbers_of draft.sessions [] []) line = subst (λ x. Rising (numbers_of draft.sessions [] x) line) b (subst (λ x. Rising (numbers_of draft.sessions x draft.body) line) t r) in
        let session : SessionLine = record { line = line; name = name; node = node; hasql = hasql } in
        let after : Rising (numbers_of (draft.sessions ++ session ∷ []) [] []) (line + 1) = subst (λ ns. Rising ns (line + 1)) (sym (session_numbers draft.sessions session)) (rising_more (numbers_of draft.sessions [] []) line before) in
        subst (λ x. Rising (numbers_of (draft.sessions ++ session ∷ []) x draft.body) (line + 1)) (sym t) (subst (λ x. Rising (numbers_of (draft.sessions ++ session ∷ []) [] x) (line + 1)) (sym b) after)

-- a table that a line says is the one of its text
tabled_ok : (tables : List TableDef) (line : ℕ) (text : List ℕ) (table : TableDef) → table_said tables line text ≡ Ok table → table_of tables text ≡ Ok table
tabled_ok tables line text table e = go (table_of tables text) refl (then_ok (is_utf8 text) _ _ table e).1
  where
    go : (read : Result TableDef TableFault) → table_of tables text ≡ read → tabled line read ≡ Ok table → table_of tables text ≡ Ok table
    go (Ok found) h e = subst (λ t. table_of tables text ≡ Ok t) (same_ok found table e) h
    go (Err Unlawful) h e = absurd cc
    go (Err Limit) h e = absurd cc

some_columns : (columns : List ColumnDef) → (length columns == 0) ≡ false → columns ≢ []
some_columns [] some is = absurd cc
some_columns (column ∷ columns) some is = absurd cc

table_keeps : (draft : Draft) (line : ℕ) (text : List ℕ) (next : Draft) → Going draft line → draft.part ≤ 5 → and_then (table_said draft.schema line text) (tables_with draft line) ≡ Ok next → Stage next (line + 1)
table_keeps draft line text next g p e =
    let a = and_ok (table_said draft.schema line text) (tables_with draft line) next e in
    let b = else_ok (length a.0.columns == 0) _ _ next a.1.1 in
    let same : with_table draft line a.0 ≡ next = same_ok _ _ b.1 in
    let table : TableLine = record { line = line; table = a.0 } in
    let body : draft.body ≡ [] = no_body draft g.body_part p in
    let of_text : table_of draft.schema text ≡ Ok a.0 = tabled_ok draft.schema line text a.0 a.1.0 in
    subst (λ d. Stage d (line + 1)) same (at_going (record {
      begun = refl;
      nodes = g.nodes;
      watches = g.watches;
      few = g.few;
      sessions = g.sessions;
      new = g.new;
      session_names = g.session_names;
      schema = ap (λ ts. ts ++ a.0 ∷ []) g.schema ∙ sym (tables_more draft.tables table);
      taken = taken_more [] draft.schema a.0 g.taken (lawful draft.schema text a.0 of_text);
      table_names = all_more (λ t. IsNamedTable t.table) draft.tables table g.table_names (table_named draft.schema text a.0 of_text);
      texts = subst (λ b. AllByRecursion (λ l. IsDeclaredText draft.sessions l.act) b) (sym body) tt;
      columns = all_more (λ t. t.table.columns ≢ []) draft.tables table g.columns (some_columns a.0.columns b.0);
      tables_part = inr (omega arith);
      body_part = inl body;
      lines = more a.0 body g.lines;
    }))
  where
    more : (table : TableDef) → draft.body ≡ [] → Rising (numbers_of draft.sessions draft.tables draft.body) line → Rising (numbers_of draft.sessions (draft.tables ++ record { line = line; table = table } ∷ []) draft.body) (line + 1)
    more table b r =
        let added : TableLine = record { line = line; table = table } in
        let before : Rising (numbers_of draft.sessions draft.tables []) line = subst (λ x. Rising (numbers_of draft.sessions draft.tables x) line) b r in
        let after : Rising (numbers_of draft.sessions (draft.tables ++ added ∷ []) []) (line + 1) = subst (λ ns. Rising ns (line + 1)) (sym (table_numbers draft.sessions draft.tables added)) (rising_more (numbers_of draft.sessions draft.tables []) line before) in
        subst (λ x. Rising (numbers_of draft.sessions (draft.tables ++ added ∷ []) x) (line + 1)) (sym b) after

say_keeps : (draft : Draft) (line : ℕ) (parts : Option (List ℕ × List ℕ)) (next : Draft) → Going draft line → and_then (say_said draft line parts) (if_built draft line) ≡ Ok next → Stage next (line + 1)
say_keeps draft line None next g e = absurd cc
say_keeps draft line (Some (name, text)) next g e =
    let a = and_ok (say_said draft line (Some (name, text))) (if_built draft line) next e in
    let b = then_ok (is_declared name draft.sessions) _ _ a.0 a.1.0 in
    let same : said.Runs (acts.Say name text) ≡ a.0 = same_ok _ _ b.1 in
    let built : if_built draft line (said.Runs (acts.Say name text)) ≡ Ok next = subst (λ s. if_built draft line s ≡ Ok next) (sym same) a.1.1 in
    let k = built_ok draft line (said.Runs (acts.Say name text)) next built in
    let added : BodyLine = record { line = line; act = acts.Say name text } in
    subst (λ d. Stage d (line + 1)) k.1 (at_going (record {
      begun = refl;
      nodes = g.nodes;
      watches = g.watches;
      few = g.few;
      sessions = g.sessions;
      new = g.new;
      session_names = g.session_names;
      schema = g.schema;
      taken = g.taken;
      table_names = g.table_names;
      texts = all_more (λ l. IsDeclaredText draft.sessions l.act) draft.body added g.texts (declared name draft.sessions b.0, k.0);
      columns = g.columns;
      tables_part = inr (omega arith);
      body_part = inr (omega arith);
      lines = subst (λ ns. Rising ns (line + 1)) (sym (body_numbers draft.sessions draft.tables draft.body added)) (rising_more (numbers_of draft.sessions draft.tables draft.body) line g.lines);
    }))

told_keeps : (draft : Draft) (line : ℕ) (rest : List ℕ) (keyword : Keyword) (next : Draft) → Stage draft line → may_come draft.part (keyword_part keyword) ≡ true → and_then (told draft line rest keyword) (if_built draft line) ≡ Ok next → Stage next (line + 1)
told_keeps draft line rest keywords.Nodes next (at_fresh f) m e = nodes_keeps draft line (only_number rest) next f e
told_keeps draft line rest keywords.Nodes next (at_going g) m e = absurd (no_nodes draft.part g.begun m)
told_keeps draft line rest keywords.Cluster next (at_fresh f) m e = absurd (not_first 2 refl draft.part f.part m)
told_keeps draft line rest keywords.Cluster next (at_going g) m e = cluster_keeps draft line (only_fitting rest) next g (come_later draft.part 2 g.begun m) e
told_keeps draft line rest keywords.Workers next stage m e = absurd (never draft line (workers_said line (only_number rest)) next (workers_out line (only_number rest)) e)
told_keeps draft line rest keywords.Session next (at_fresh f) m e = absurd (not_first 4 refl draft.part f.part m)
told_keeps draft line rest keywords.Session next (at_going g) m e = session_keeps draft line (session_of rest) next g (come_later draft.part 4 g.begun m) e
told_keeps draft line rest keywords.Watch next stage m e = absurd (never draft line (watch_said draft line (only_fitting rest)) next (watch_out draft line (only_fitting rest)) e)
told_keeps draft line rest keywords.Stop next stage m e = absurd (never draft line (stop_said draft line (only_number rest)) next (stop_out draft line (only_number rest)) e)
told_keeps draft line rest keywords.Start next stage m e = absurd (never draft line (start_said draft line (only_number rest)) next (start_out draft line (only_number rest)) e)
told_keeps draft line rest keywords.Arm next stage m e = absurd (never draft line (arm_said draft line (arm_of rest)) next (arm_out draft line (arm_of rest)) e)
told_keeps draft line rest keywords.Barrier next stage m e = absurd (never draft line (barrier_said line rest) next (barrier_out line rest) e)
told_keeps draft line rest keywords.Feed next stage m e = absurd (never draft line (feed_said line rest) next (feed_out line rest) e)

placed_keeps : (draft : Draft) (line : ℕ) (text : List ℕ) (kind : LineKind) (next : Draft) → Stage draft line → may_come draft.part (part_of kind) ≡ true → read_placed draft line text kind ≡ Ok next → Stage next (line + 1)
placed_keeps draft line text (lines.Told keyword) next stage m e = told_keeps draft line (after_piece text) keyword next stage m e
placed_keeps draft line text lines.Create next (at_fresh f) m e = absurd (not_first 5 refl draft.part f.part m)
placed_keeps draft line text lines.Create next (at_going g) m e = table_keeps draft line text next g (come_later draft.part 5 g.begun m) e
placed_keeps draft line text lines.Say next (at_fresh f) m e = absurd (not_first 7 refl draft.part f.part m)
placed_keeps draft line text lines.Say next (at_going g) m e = say_keeps draft line (said_of text) next g e

kind_keeps : (draft : Draft) (line : ℕ) (text : List ℕ) (kind : Option LineKind) (next : Draft) → Stage draft line → read_kind draft line text kind ≡ Ok next → Stage next (line + 1)
kind_keeps draft line text None next stage e = absurd cc
kind_keeps draft line text (Some kind) next stage e = let k = then_ok (may_come draft.part (part_of kind)) _ _ next e in placed_keeps draft line text kind next stage k.0 k.1

line_keeps : (draft : Draft) (line : ℕ) (bytes : List ℕ) (next : Draft) → Stage draft line → read_line draft line bytes ≡ Ok next → Stage next (line + 1)
unfolding read_line
line_keeps draft line bytes next stage e = skipped (is_skipped (text_of bytes)) (else_ok (nat_lt most_line_bytes (length bytes)) _ _ next (then_ok (is_utf8 bytes) _ _ next e).1).1
  where
    skipped : (b : Bool) → (if b then Ok draft else read_kind draft line (text_of bytes) (kind_of (text_of bytes))) ≡ Ok next → Stage next (line + 1)
    skipped true e = subst (λ d. Stage d (line + 1)) (same_ok draft next e) (later draft line stage)
    skipped false e = kind_keeps draft line (text_of bytes) (kind_of (text_of bytes)) next stage e

lines_keep : (texts : List (List ℕ)) (draft : Draft) (line : ℕ) (last : Draft × ℕ) → Stage draft line → read_lines draft line texts ≡ Ok last → Stage last.0 last.1
unfolding read_lines
lines_keep [] draft line last stage e = subst (λ x. Stage x.0 x.1) (same_ok (draft, line) last e) stage
lines_keep (bytes ∷ texts) draft line last stage e =
    let a = and_ok (read_line draft line bytes) (λ next. read_lines next (line + 1) texts) last e in
    lines_keep texts a.0 (line + 1) last (line_keeps draft line bytes a.0 stage a.1.0) a.1.1

-- what was read in full
record Done (script : Script) : Type 0 where
  draft : Draft
  line : ℕ
  going : Going draft line
  same : script_with draft ≡ script

finished_is : (draft : Draft) (line : ℕ) (script : Script) → Stage draft line → finished draft line ≡ Ok script → Done script
finished_is draft line script (at_fresh f) e =
    let k = else_ok (draft.part == 0) _ _ script e in
    let z : (draft.part == 0) ≡ true = subst (λ p. (p == 0) ≡ true) (sym f.part) refl in
    let d : true ≡ false = sym z ∙ k.0 in
    absurd cc
finished_is draft line script (at_going g) e = record { draft = draft; line = line; going = g; same = same_ok _ _ (else_ok (draft.part == 0) _ _ script e).1 }

done : (stores consumers : ℕ) (bytes : List ℕ) (script : Script) → script_of stores consumers bytes ≡ Ok script → Done script
done stores consumers bytes script e =
    let fresh : Stage (no_draft stores consumers) 1 = at_fresh (record { part = refl; sessions = refl; schema = refl; tables = refl; watches = refl; body = refl; first = omega arith }) in
    let a = and_ok (read_lines (no_draft stores consumers) 1 (lines_of_bytes bytes)) (λ last. finished last.0 last.1) script (within_is_whole most_bytes (no_draft stores consumers) bytes script e) in
    finished_is a.0.0 a.0.1 script (lines_keep (lines_of_bytes bytes) (no_draft stores consumers) 1 a.0 fresh a.1.0) a.1.1

going_can_run : (draft : Draft) (line : ℕ) → Going draft line → CanRun (script_with draft)
going_can_run draft line g = record {
  one_node = g.nodes;
  no_watches = g.watches;
  few_sessions = g.few;
  no_hasql = g.sessions;
  tables_lawful = subst (λ ts. AreTaken [] ts) g.schema g.taken;
  said = g.texts;
}

pub scripts_run : (stores consumers : ℕ) (bytes : List ℕ) (script : Script) → script_of stores consumers bytes ≡ Ok script → CanRun script
scripts_run stores consumers bytes script e = let d = done stores consumers bytes script e in subst CanRun d.same (going_can_run d.draft d.line d.going)

all_map : {A : Type 0} (P Q : A → Type 0) (xs : List A) → ((x : A) → P x → Q x) → AllByRecursion P xs → AllByRecursion Q xs
all_map P Q [] f all = tt
all_map P Q (x ∷ xs) f all = (f x all.0, all_map P Q xs f all.1)

at_node : (nodes node : ℕ) → nodes ≡ 1 → node ≡ 1 → IsNode nodes node
at_node nodes node a b = (omega arith, omega arith)

names_declared : (nodes : ℕ) (sessions : List SessionLine) (act : Act) → IsDeclaredText sessions act → NamesDeclared nodes sessions act
names_declared nodes sessions (acts.Say name text) h = h.0
names_declared nodes sessions (acts.Stop node) h = absurd h
names_declared nodes sessions (acts.Start node) h = absurd h
names_declared nodes sessions (acts.Arm name moment) h = absurd h
names_declared nodes sessions acts.Barrier h = tt
names_declared nodes sessions acts.Feed h = tt

going_is_lawful : (draft : Draft) (line : ℕ) → Going draft line → IsLawful (script_with draft)
going_is_lawful draft line g = record {
  sessions = g.new;
  at_nodes = all_map (λ s. (s.node ≡ 1) × (s.hasql ≡ false)) (λ s. IsNode draft.nodes s.node) draft.sessions (λ s h. at_node draft.nodes s.node g.nodes h.0) g.sessions;
  tables = subst (λ ts. AreTaken [] ts) g.schema g.taken;
  watches = subst (λ ws. AllByRecursion (λ place. place < length draft.tables) ws) (sym g.watches) tt;
  body = all_map (λ l. IsDeclaredText draft.sessions l.act) (λ l. NamesDeclared draft.nodes draft.sessions l.act) draft.body (λ l h. names_declared draft.nodes draft.sessions l.act h) g.texts;
  rising = g.lines.rise;
}

pub scripts_lawful : (stores consumers : ℕ) (bytes : List ℕ) (script : Script) → script_of stores consumers bytes ≡ Ok script → IsLawful script
scripts_lawful stores consumers bytes script e = let d = done stores consumers bytes script e in subst IsLawful d.same (going_is_lawful d.draft d.line d.going)

going_is_named : (draft : Draft) (line : ℕ) → Going draft line → IsNamed (script_with draft)
going_is_named draft line g = record {
  sessions = g.session_names;
  tables = g.table_names;
  columns = g.columns;
  body = all_map (λ l. IsDeclaredText draft.sessions l.act) (λ l. SaysNamed l.act) draft.body (λ l h. says_named draft.sessions l.act g.session_names h) g.texts;
}

pub scripts_named : (stores consumers : ℕ) (bytes : List ℕ) (script : Script) → script_of stores consumers bytes ≡ Ok script → IsNamed script
scripts_named stores consumers bytes script e = let d = done stores consumers bytes script e in subst IsNamed d.same (going_is_named d.draft d.line d.going)

-- where there are no stores, no line says a number of nodes, and no other line may come before that

-- nothing was read, and there is no store
record IsPoor (draft : Draft) : Type 0 where
  part : draft.part ≡ 0
  stores : draft.stores ≡ 0

none_fit : (nodes stores : ℕ) → stores ≡ 0 → ((nodes == 0) || nat_lt 7 nodes) ≡ false → nat_lt stores nodes ≡ false → ⊥
none_fit zero stores none some fits = cc
none_fit (suc n) stores none some fits = let e : suc n ≤ 0 = subst (λ s. suc n ≤ s) none (ltb-false stores (suc n) fits) in omega arith

poor_nodes : (draft : Draft) (line : ℕ) (nodes : Option ℕ) (next : Draft) → IsPoor draft → and_then (nodes_said draft line nodes) (if_built draft line) ≡ Ok next → ⊥
poor_nodes draft line None next p e = cc
poor_nodes draft line (Some nodes) next p e =
    let a = and_ok (nodes_said draft line (Some nodes)) (if_built draft line) next e in
    let b = else_ok ((nodes == 0) || nat_lt 7 nodes) _ _ a.0 a.1.0 in
    let c = else_ok (nat_lt draft.stores nodes) _ _ a.0 b.1 in
    none_fit nodes draft.stores p.stores b.0 c.0

poor_told : (draft : Draft) (line : ℕ) (rest : List ℕ) (keyword : Keyword) (next : Draft) → IsPoor draft → may_come draft.part (keyword_part keyword) ≡ true → and_then (told draft line rest keyword) (if_built draft line) ≡ Ok next → ⊥
poor_told draft line rest keywords.Nodes next p m e = poor_nodes draft line (only_number rest) next p e
poor_told draft line rest keywords.Cluster next p m e = not_first 2 refl draft.part p.part m
poor_told draft line rest keywords.Workers next p m e = not_first 3 refl draft.part p.part m
poor_told draft line rest keywords.Session next p m e = not_first 4 refl draft.part p.part m
poor_told draft line rest keywords.Watch next p m e = not_first 6 refl draft.part p.part m
poor_told draft line rest keywords.Stop next p m e = not_first 7 refl draft.part p.part m
poor_told draft line rest keywords.Start next p m e = not_first 7 refl draft.part p.part m
poor_told draft line rest keywords.Arm next p m e = not_first 7 refl draft.part p.part m
poor_told draft line rest keywords.Barrier next p m e = not_first 7 refl draft.part p.part m
poor_told draft line rest keywords.Feed next p m e = not_first 7 refl draft.part p.part m

poor_placed : (draft : Draft) (line : ℕ) (text : List ℕ) (kind : LineKind) (next : Draft) → IsPoor draft → may_come draft.part (part_of kind) ≡ true → read_placed draft line text kind ≡ Ok next → ⊥
poor_placed draft line text (lines.Told keyword) next p m e = poor_told draft line (after_piece text) keyword next p m e
poor_placed draft line text lines.Create next p m e = not_first 5 refl draft.part p.part m
poor_placed draft line text lines.Say next p m e = not_first 7 refl draft.part p.part m

poor_kind : (draft : Draft) (line : ℕ) (text : List ℕ) (kind : Option LineKind) (next : Draft) → IsPoor draft → read_kind draft line text kind ≡ Ok next → ⊥
poor_kind draft line text None next p e = cc
poor_kind draft line text (Some kind) next p e = let k = then_ok (may_come draft.part (part_of kind)) _ _ next e in poor_placed draft line text kind next p k.0 k.1

poor_line : (draft : Draft) (line : ℕ) (bytes : List ℕ) (next : Draft) → IsPoor draft → read_line draft line bytes ≡ Ok next → IsPoor next
unfolding read_line
poor_line draft line bytes next p e = skipped (is_skipped (text_of bytes)) (else_ok (nat_lt most_line_bytes (length bytes)) _ _ next (then_ok (is_utf8 bytes) _ _ next e).1).1
  where
    skipped : (b : Bool) → (if b then Ok draft else read_kind draft line (text_of bytes) (kind_of (text_of bytes))) ≡ Ok next → IsPoor next
    skipped true e = subst IsPoor (same_ok draft next e) p
    skipped false e = absurd (poor_kind draft line (text_of bytes) (kind_of (text_of bytes)) next p e)

poor_lines : (texts : List (List ℕ)) (draft : Draft) (line : ℕ) (last : Draft × ℕ) → IsPoor draft → read_lines draft line texts ≡ Ok last → IsPoor last.0
unfolding read_lines
poor_lines [] draft line last p e = subst (λ (x : Draft × ℕ). IsPoor x.0) (same_ok (draft, line) last e) p
poor_lines (bytes ∷ texts) draft line last p e =
    let a = and_ok (read_line draft line bytes) (λ next. read_lines next (line + 1) texts) last e in
    poor_lines texts a.0 (line + 1) last (poor_line draft line bytes a.0 p a.1.0) a.1.1

pub scripts_stored : (stores consumers : ℕ) (bytes : List ℕ) (script : Script) → script_of stores consumers bytes ≡ Ok script → 1 ≤ stores
scripts_stored zero consumers bytes script e =
    let a = and_ok (read_lines (no_draft 0 consumers) 1 (lines_of_bytes bytes)) (λ last. finished last.0 last.1) script (within_is_whole most_bytes (no_draft 0 consumers) bytes script e) in
    let p : IsPoor a.0.0 = poor_lines (lines_of_bytes bytes) (no_draft 0 consumers) 1 a.0 (record { part = refl; stores = refl }) a.1.0 in
    let k = else_ok (a.0.0.part == 0) _ _ script a.1.1 in
    let z : (a.0.0.part == 0) ≡ true = subst (λ n. (n == 0) ≡ true) (sym p.part) refl in
    let d : true ≡ false = sym z ∙ k.0 in
    absurd cc
scripts_stored (suc n) consumers bytes script e = omega arith
