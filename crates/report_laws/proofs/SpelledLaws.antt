-- A lawful report in the order of play, whose numbers fit their types, is of the grammar, where what it is
-- told of is called by names and has rows of the grammar.
use Rattle.std.proofs.Common.{◌≡◌, ℕ, zero, suc, ◌-◌, ◌==◌, List, [], ◌∷◌, ◌++◌, map, refl, sym, subst, ap, Bool, true, false, not, if◌then◌else◌, Option, Some, None, unwrap_or, inl, inr, pos, negsuc, arith, codes}
use Rattle.std.specs.Prelude.{slice_get}
use Rattle.std.specs.List.{AllByRecursion}
use Rattle.std.specs.Str.{bytes_eq, is_utf8}
use Rattle.cdb_values.specs.Good.{first_broken, broken_key, breaks, or_broken, KeyName}
use Rattle.cdb_values.specs.Rows.{Rows, versions_of, without, version, added, taken, apply, apply_all}
use Rattle.cdb_values.specs.declared.rows.RowOp.{RowOp}
use Rattle.cdb_values.specs.declared.rows.RowOp.TheVariants.{Insert, Update, Delete}
use Rattle.cdb_values.specs.declared.rows.RowRef.TheVariants.{Base, Own}
use Rattle.cdb_values.specs.declared.rows.Version.{Version}
use Rattle.session_language.specs.Touched.{Used, TheVersion, TheRange, used_at}
use Rattle.session_language.specs.Intervals.{keys_at}
use Rattle.cdb_values.specs.declared.tables.KeyDef.{KeyDef}
use Rattle.cdb_values.specs.declared.tables.TableDef.{TableDef}
use Rattle.cdb_values.specs.declared.values.Value.{Value}
use Rattle.cdb_values.specs.declared.values.Value.TheVariants.{Null, Int, Text, Blob}
use Rattle.script_form.specs.declared.scripts.Act.{Act}
use Rattle.script_form.specs.declared.scripts.Act.TheVariants as act
use Rattle.script_form.specs.declared.scripts.BodyLine.{BodyLine}
use Rattle.script_form.specs.Named.{IsNamedTable}
use Rattle.report_laws.specs.Cut.{cuts}
use Rattle.session_language.specs.Each.{StandsIn}
use Rattle.report_laws.specs.History.{Basis, ops_alone, ops_of, rows_after, rows_among, states_from, states_of, rows_at, view_of}
use Rattle.session_language.specs.Language.{Language, Answered, Kind, BeginText, CommitText, RollbackText, LevelText, OtherText, alone_from}
use Rattle.report_laws.specs.Lawful.{Lawful}
use Rattle.report_laws.specs.Outcome.{IsRight, Ends, IsOneDecision, IsDecided, line_by, range_line, conflict_line, name_or_none, name_of_table, name_of_key, key_name}
use Rattle.report_laws.specs.Play.{InPlayOrder, InTurns, IsTurnOf, IsDownLine, opened_behind}
use Rattle.report_laws.specs.Spelled.{SaysAsNamed, IsSpelled}
use Rattle.session_language.specs.Spelled.{AreTexts, IsToldValue, IsToldRow, SpellsReply, SpellsRow, WritesRow, HaveRows, KeepsRows}
use Rattle.report_laws.specs.Told.{Along, Numbered, numbered, told, told_by, lines_of, IsTold, IsWhole, IsCut, IsEntryTold, alone_at}
use Rattle.report_laws.specs.View.{View}
use Rattle.report_laws.specs.Work.{Transaction, End, ByCommit, ByRollback, WithItsLine, Nowhere, WorkItem, Does, Lone, Place, start, next_by, next_place, place_from, place_after, said, said_by, open_item, work, number_of, numbered_among, transaction_of}
use Rattle.byte_words.specs.Names.{IsName, IsKey}
use Rattle.report_text.specs.Grammar.{IsValue, IsRow, IsReply, IsLine, IsEntry, IsFeed, IsReport}
use Rattle.report_text.specs.Types.{FitsValue, FitsReply, FitsLine, FitsEntry, FitsTypes}
use Rattle.report_text.specs.declared.reports.EntryLine.{EntryLine}
use Rattle.report_text.specs.declared.reports.EntryLine.TheVariants.{Setup, Commit}
use Rattle.report_text.specs.declared.reports.Line.{Line}
use Rattle.report_text.specs.declared.reports.Line.TheVariants as line
use Rattle.cdb_values.specs.declared.replies.Reply.{Reply}
use Rattle.cdb_values.specs.declared.replies.Reply.TheVariants as reply
use Rattle.report_text.specs.declared.reports.Report.{Report}
use Rattle.report_laws.proofs.EntryToldLaws.{begin_stands}
use Rattle.session_language.proofs.AllLaws.{all_got, all_exchanged, all_filtered, all_behind, all_standing}
use Rattle.session_language.proofs.EachLaws.{all_append, all_front}
use Rattle.report_laws.proofs.SoFarLemmas.{same_name}

-- rows

abbrev IsVersion : Version → Type 0
IsVersion v = IsToldRow v.row

added_rows : (rows : Rows) (table : ℕ) (row : List Value) → HaveRows rows.tables → IsToldRow row → HaveRows (added rows table row).tables
added_rows rows table row have is =
    all_exchanged (AllByRecursion IsVersion) rows.tables table (versions_of rows table ++ version rows.next row ∷ []) have
    (all_append IsVersion (versions_of rows table) (version rows.next row ∷ []) (all_got (AllByRecursion IsVersion) rows.tables table [] have tt) (is, tt))

taken_rows : (rows : Rows) (table genid : ℕ) → HaveRows rows.tables → HaveRows (taken rows table genid).tables
taken_rows rows table genid have =
    all_exchanged (AllByRecursion IsVersion) rows.tables table (without genid (versions_of rows table)) have
    (all_filtered IsVersion (λ v. not (v.genid == genid)) (versions_of rows table) (all_got (AllByRecursion IsVersion) rows.tables table [] have tt))

apply_rows : (rows : Rows) (o : RowOp) → HaveRows rows.tables → WritesRow o → HaveRows (apply rows o).tables
apply_rows rows (Insert table row) have is = added_rows rows table row have is
apply_rows rows (Update table (Base genid) old row) have is = added_rows (taken rows table genid) table row (taken_rows rows table genid have) is
apply_rows rows (Update table (Own write) old row) have is = have
apply_rows rows (Delete table (Base genid) old) have is = taken_rows rows table genid have
apply_rows rows (Delete table (Own write) old) have is = have

pub apply_all_rows : (rows : Rows) (ops : List RowOp) → HaveRows rows.tables → AllByRecursion WritesRow ops → HaveRows (apply_all rows ops).tables
apply_all_rows rows [] have all = have
apply_all_rows rows (o ∷ ops) have all = apply_all_rows (apply rows o) ops (apply_rows rows o have all.0) all.1

no_rows_rows : (tables : List TableDef) → HaveRows (map (λ _. []) tables)
no_rows_rows [] = tt
no_rows_rows (table ∷ tables) = (tt, no_rows_rows tables)

said_pick : (b : Bool) (text : List ℕ) (later : List (List ℕ)) → is_utf8 text ≡ true → AreTexts later → AreTexts (if b then text ∷ later else later)
said_pick true text later is are = (is, are)
said_pick false text later is are = are

said_texts : (name : List ℕ) (body : List BodyLine) → AllByRecursion (λ (b : BodyLine). SaysAsNamed b.act) body → AreTexts (said name body)
said_texts name [] all = tt
said_texts name (l ∷ ls) all = by_act l.act all.0 (said_texts name ls all.1)
  where
    by_act : (a : Act) → SaysAsNamed a → AreTexts (said name ls) → AreTexts (said_by name a (said name ls))
    by_act (act.Say session text) is later = said_pick (bytes_eq session name) text (said name ls) is.1 later
    by_act (act.Stop node) is later = later
    by_act (act.Start node) is later = later
    by_act (act.Arm session moment) is later = later
    by_act act.Barrier is later = later
    by_act act.Feed is later = later

-- a transaction run alone

alone_ops : (language : Language) (tables : List TableDef) → KeepsRows language tables → (versions : List (List Version)) (done : List RowOp) (texts : List (List ℕ)) → AreTexts texts →
    HaveRows versions → AllByRecursion WritesRow done → AllByRecursion WritesRow (alone_from language tables versions done texts).ops
alone_ops language tables keeps versions done [] utf8 have all = all
alone_ops language tables keeps versions done (text ∷ texts) utf8 have all =
    alone_ops language tables keeps versions (language.answer tables versions done text).ops texts utf8.1 have (keeps.ops versions done text utf8.0 have all)

alone_replies : (language : Language) (tables : List TableDef) → KeepsRows language tables → (versions : List (List Version)) (done : List RowOp) (texts : List (List ℕ)) → AreTexts texts →
    HaveRows versions → AllByRecursion WritesRow done → AllByRecursion SpellsReply (alone_from language tables versions done texts).replies
alone_replies language tables keeps versions done [] utf8 have all = tt
alone_replies language tables keeps versions done (text ∷ texts) utf8 have all =
    all_append SpellsReply (language.answer tables versions done text).replies _ (keeps.replies versions done text utf8.0 have all)
    (alone_replies language tables keeps versions (language.answer tables versions done text).ops texts utf8.1 have (keeps.ops versions done text utf8.0 have all))

-- what a decision tells

none_is : {A : Type 0} {P : Type 0} (x : A) → None ≡ Some x → P
none_is x e = cc

the_same : {A : Type 0} (x y : A) → Some x ≡ Some y → x ≡ y
the_same x y e = ap (λ found. unwrap_or found y) e

told_by_name : (tables : List TableDef) (place : ℕ) → AllByRecursion IsNamedTable tables → (position genid : ℕ) (answer : Reply) → line_by position genid (name_or_none (slice_get tables place)) ≡ Some answer → SpellsReply answer
told_by_name [] place all position genid answer is = none_is answer is
told_by_name (table ∷ tables) zero all position genid answer is = subst SpellsReply (the_same (reply.ConflictGenid position table.name genid) answer is) all.0.0
told_by_name (table ∷ tables) (suc place) all position genid answer is = told_by_name tables place all.1 position genid answer is

-- a conflict over an interval names its table, and its key or all of the table
all_named : IsName (codes "all")
all_named = record { bytes = refl; begun = refl; short = omega arith }

table_called : (tables : List TableDef) (place : ℕ) → AllByRecursion IsNamedTable tables → (name : List ℕ) → name_or_none (slice_get tables place) ≡ Some name → IsName name
table_called [] place all name is = none_is name is
table_called (table ∷ tables) zero all name is = subst IsName (the_same table.name name is) all.0.0
table_called (table ∷ tables) (suc place) all name is = table_called tables place all.1 name is

keys_called : (tables : List TableDef) (place : ℕ) → AllByRecursion IsNamedTable tables → AllByRecursion (λ (key : KeyDef). IsKey key.name) (keys_at tables place)
keys_called [] place all = tt
keys_called (table ∷ tables) zero all = all.0.1
keys_called (table ∷ tables) (suc place) all = keys_called tables place all.1

key_called : (keys : List KeyDef) (key : Option ℕ) → AllByRecursion (λ (key : KeyDef). IsKey key.name) keys → (name : List ℕ) → name_of_key keys key ≡ Some name → IsName name
key_called keys None all name is = subst IsName (the_same (codes "all") name is) all_named
key_called [] (Some place) all name is = none_is name is
key_called (key ∷ keys) (Some zero) all name is = subst IsName (the_same key.name name is) all.0.name
key_called (key ∷ keys) (Some (suc place)) all name is = key_called keys (Some place) all.1 name is

range_told : (position : ℕ) (table key : Option (List ℕ)) (answer : Reply) → ((name : List ℕ) → table ≡ Some name → IsName name) → ((name : List ℕ) → key ≡ Some name → IsName name) →
    range_line position table key ≡ Some answer → SpellsReply answer
range_told position None key answer tables keys is = none_is answer is
range_told position (Some table) None answer tables keys is = none_is answer is
range_told position (Some table) (Some key) answer tables keys is =
    subst SpellsReply (the_same (reply.ConflictRange position table key) answer is) (tables table refl, keys key refl)

conflict_told : (tables : List TableDef) (position : ℕ) (item : Used) (answer : Reply) → AllByRecursion IsNamedTable tables → conflict_line tables position item ≡ Some answer → SpellsReply answer
conflict_told tables position (TheVersion item) answer all is = told_by_name tables item.table all position item.genid answer is
conflict_told tables position (TheRange interval) answer all is =
    range_told position (name_of_table tables interval.table) (name_of_key (keys_at tables interval.table) interval.key) answer
    (table_called tables interval.table all) (key_called (keys_at tables interval.table) interval.key (keys_called tables interval.table all)) is

broken_step : (b : Bool) (key : KeyDef) (later : Option KeyDef) (found : KeyDef) → IsKey key.name → (later ≡ Some found → IsKey found.name) → (if b then Some key else later) ≡ Some found → IsKey found.name
broken_step true key later found is more e = subst (λ (k : KeyDef). IsKey k.name) (the_same key found e) is
broken_step false key later found is more e = more e

broken_named : (versions : List Version) (keys : List KeyDef) (found : KeyDef) → AllByRecursion (λ (key : KeyDef). IsKey key.name) keys → broken_key versions keys ≡ Some found → IsKey found.name
broken_named versions [] found all is = none_is found is
broken_named versions (key ∷ keys) found all is = broken_step (breaks versions key) key (broken_key versions keys) found all.0 (broken_named versions keys found all.1) is

first_step : (t : TableDef) (b : Option KeyDef) (later : Option KeyName) (table key : List ℕ) → IsName t.name → ((k : KeyDef) → b ≡ Some k → IsKey k.name) →
    (later ≡ Some (key_name table key) → IsName table × IsKey key) → or_broken t b later ≡ Some (key_name table key) → IsName table × IsKey key
first_step t None later table key named keys more e = more e
first_step t (Some k) later table key named keys more e =
    let same : key_name t.name k.name ≡ key_name table key = the_same (key_name t.name k.name) (key_name table key) e in
    (subst IsName (ap (λ (n : KeyName). n.table) same) named, subst IsKey (ap (λ (n : KeyName). n.key) same) (keys k refl))

first_named : (tables : List TableDef) (versions : List (List Version)) (table key : List ℕ) → AllByRecursion IsNamedTable tables → first_broken tables versions ≡ Some (key_name table key) → IsName table × IsKey key
first_named [] versions table key all is = none_is (key_name table key) is
first_named (t ∷ tables) [] table key all is = none_is (key_name table key) is
first_named (t ∷ tables) (vs ∷ rest) table key all is =
    first_step t (broken_key vs t.keys) (first_broken tables rest) table key all.0.0 (λ k e. broken_named vs t.keys k all.0.1 e) (first_named tables rest table key all.1) is

-- a session's work: a line outside a transaction is told nothing that has a name, and transactions have texts of UTF-8

abbrev pub SpellsItem : WorkItem → Type 0
SpellsItem (Does t) = AreTexts t.texts
SpellsItem (Lone answer) = SpellsReply answer

abbrev ArePending : Option (List (List ℕ)) → Type 0
ArePending None = Unit {0}
ArePending (Some texts) = AreTexts texts

abbrev SpellsPlace : Place → Type 0
SpellsPlace p = AllByRecursion SpellsItem p.over × ArePending p.pending

one_more : (over : List WorkItem) (item : WorkItem) → AllByRecursion SpellsItem over → SpellsItem item → AllByRecursion SpellsItem (over ++ item ∷ [])
one_more over item all is = all_append SpellsItem over (item ∷ []) all (is, tt)

next_spelled : (p : Place) (text : List ℕ) (kind : Kind) (pending : Option (List (List ℕ))) → is_utf8 text ≡ true → ArePending pending → AllByRecursion SpellsItem p.over → SpellsPlace (next_by p text kind pending)
next_spelled p text BeginText None utf8 are all = (all, tt)
next_spelled p text CommitText None utf8 are all = (one_more p.over _ all tt, tt)
next_spelled p text RollbackText None utf8 are all = (one_more p.over _ all tt, tt)
next_spelled p text (LevelText level) None utf8 are all = (one_more p.over _ all tt, tt)
next_spelled p text OtherText None utf8 are all = (one_more p.over _ all (utf8, tt), tt)
next_spelled p text BeginText (Some texts) utf8 are all = (all, all_append _ texts (text ∷ []) are (utf8, tt))
next_spelled p text CommitText (Some texts) utf8 are all = (one_more p.over _ all are, tt)
next_spelled p text RollbackText (Some texts) utf8 are all = (one_more p.over _ all are, tt)
next_spelled p text (LevelText level) (Some texts) utf8 are all = (all, all_append _ texts (text ∷ []) are (utf8, tt))
next_spelled p text OtherText (Some texts) utf8 are all = (all, all_append _ texts (text ∷ []) are (utf8, tt))

places_spelled : (language : Language) (p : Place) (texts : List (List ℕ)) → AreTexts texts → SpellsPlace p → SpellsPlace (place_from language p texts)
places_spelled language p [] utf8 all = all
places_spelled language p (text ∷ texts) utf8 all = places_spelled language (next_place language p text) texts utf8.1 (next_spelled p text (language.kind text) p.pending utf8.0 all.1 all.0)

open_spelled : (p : Place) (pending : Option (List (List ℕ))) → ArePending pending → AllByRecursion SpellsItem (open_item p pending)
open_spelled p None are = tt
open_spelled p (Some texts) are = (are, tt)

pub work_spelled : (language : Language) (name : List ℕ) (body : List BodyLine) → AllByRecursion (λ (b : BodyLine). SaysAsNamed b.act) body → AllByRecursion SpellsItem (work language name body)
work_spelled language name body all =
    let p : Place = place_after language name body in
    let there : SpellsPlace p = places_spelled language start (said name body) (said_texts name body all) (tt, tt) in
    all_append SpellsItem p.over (open_item p p.pending) there.0 (open_spelled p p.pending there.1)

-- the texts of a transaction that is looked up
abbrev HasTexts : Option Transaction → Type 0
HasTexts None = Unit {0}
HasTexts (Some t) = AreTexts t.texts

among_texts : (number : ℕ) (items : List WorkItem) → AllByRecursion SpellsItem items → HasTexts (numbered_among number items)
among_texts number [] all = tt
among_texts number (Does t ∷ items) all = pick (t.number == number) (among_texts number items all.1)
  where
    pick : (b : Bool) → HasTexts (numbered_among number items) → HasTexts (if b then Some t else numbered_among number items)
    pick true later = all.0
    pick false later = later
among_texts number (Lone answer ∷ items) all = among_texts number items all.1

pub cut_spelled : (cause : Reply) → cuts cause ≡ true → SpellsReply cause
cut_spelled (reply.Begin position) e = cc
cut_spelled (reply.Row row) e = cc
cut_spelled (reply.Done rows) e = cc
cut_spelled (reply.Changed rows) e = cc
cut_spelled (reply.Error cause) e = cc
cut_spelled (reply.Level level) e = cc
cut_spelled reply.RolledBack e = cc
cut_spelled (reply.Committed position) e = cc
cut_spelled (reply.ConflictGenid position table genid) e = cc
cut_spelled (reply.ConflictRange position table key) e = cc
cut_spelled (reply.Duplicate position table key) e = cc
cut_spelled (reply.Lost node down) e = tt
cut_spelled (reply.NoMajority up nodes) e = tt
cut_spelled reply.NoMemory e = tt

module _ (basis : Basis) (spelled : IsSpelled basis) where
  abbrev HasRows : Rows → Type 0
  HasRows rows = HaveRows rows.tables

  ops_spelled : (rows : Rows) (t : Option Transaction) → HasTexts t → HasRows rows → AllByRecursion WritesRow (ops_alone basis rows t)
  ops_spelled rows None are have = tt
  ops_spelled rows (Some t) are have = alone_ops basis.language basis.origin.tables spelled.language rows.tables [] t.texts are have tt

  its_texts : (session : List ℕ) (txn : ℕ) → HasTexts (transaction_of basis.language session txn basis.script.body)
  its_texts session txn = among_texts txn (work basis.language session basis.script.body) (work_spelled basis.language session basis.script.body spelled.body)

  after_spelled : (states : List Rows) (e : EntryLine) → AllByRecursion HasRows states → HasRows (rows_after basis states e)
  after_spelled states (Setup position) all = no_rows_rows basis.origin.tables
  after_spelled states (Commit position session txn begin level) all =
      apply_all_rows (rows_among basis.origin states (position - 1)) (ops_of basis states (Commit position session txn begin level))
      (all_got HasRows states (position - 1 - basis.origin.position) basis.origin.rows all spelled.rows)
      (ops_spelled (rows_among basis.origin states begin) (transaction_of basis.language session txn basis.script.body) (its_texts session txn) (all_got HasRows states (begin - basis.origin.position) basis.origin.rows all spelled.rows))

  states_spelled : (states : List Rows) (es : List EntryLine) → AllByRecursion HasRows states → AllByRecursion HasRows (states_from basis states es)
  states_spelled states [] all = all
  states_spelled states (e ∷ es) all =
      states_spelled (states ++ rows_after basis states e ∷ []) es (all_append HasRows states (rows_after basis states e ∷ []) all (after_spelled states e all, tt))

  rows_spelled : (es : List EntryLine) (position : ℕ) → HasRows (rows_at basis es position)
  rows_spelled es position =
      all_got HasRows (states_of basis es) (position - basis.origin.position) basis.origin.rows (states_spelled (basis.origin.rows ∷ []) es (spelled.rows, tt)) spelled.rows

  right_spelled : (es : List EntryLine) (name : List ℕ) (t : Transaction) (begin : ℕ) (used : List Used) (ops : List RowOp) (answer : Reply) →
      IsDecided answer → IsRight basis (view_of basis es) name t begin used ops answer → SpellsReply answer
  right_spelled es name t begin used ops (reply.Begin position) decided right = absurd decided
  right_spelled es name t begin used ops (reply.Row row) decided right = absurd decided
  right_spelled es name t begin used ops (reply.Done rows) decided right = absurd decided
  right_spelled es name t begin used ops (reply.Changed rows) decided right = absurd decided
  right_spelled es name t begin used ops (reply.Error cause) decided right = absurd decided
  right_spelled es name t begin used ops (reply.Level level) decided right = absurd decided
  right_spelled es name t begin used ops reply.RolledBack decided right = absurd decided
  right_spelled es name t begin used ops (reply.Committed position) decided right = tt
  right_spelled es name t begin used ops (reply.ConflictGenid position table genid) decided right =
      conflict_told basis.origin.tables position right.item (reply.ConflictGenid position table genid) spelled.tables right.is_told
  right_spelled es name t begin used ops (reply.ConflictRange position table key) decided right =
      conflict_told basis.origin.tables position right.item (reply.ConflictRange position table key) spelled.tables right.is_told
  right_spelled es name t begin used ops (reply.Duplicate position table key) decided right =
      first_named basis.origin.tables (apply_all (rows_at basis es position) ops).tables table key spelled.tables right.breaks
  right_spelled es name t begin used ops (reply.Lost node down) decided right = absurd decided
  right_spelled es name t begin used ops (reply.NoMajority up nodes) decided right = absurd decided
  right_spelled es name t begin used ops reply.NoMemory decided right = absurd decided

  decision_spelled : (es : List EntryLine) (name : List ℕ) (t : Transaction) (begin : ℕ) (used : List Used) (ops : List RowOp) (last : List Reply) →
      IsOneDecision last → AllByRecursion (IsRight basis (view_of basis es) name t begin used ops) last → AllByRecursion SpellsReply last
  decision_spelled es name t begin used ops [] one right = absurd one
  decision_spelled es name t begin used ops (outcome ∷ []) one right = (right_spelled es name t begin used ops outcome one right.0, tt)
  decision_spelled es name t begin used ops (outcome ∷ other ∷ more) one right = absurd one

  end_spelled : (es : List EntryLine) (name : List ℕ) (t : Transaction) (begin : ℕ) (used : List Used) (ops : List RowOp) (end : End) (last : List Reply) →
      Ends end last → AllByRecursion (IsRight basis (view_of basis es) name t begin used ops) last → AllByRecursion SpellsReply last
  end_spelled es name t begin used ops ByCommit last ends right = decision_spelled es name t begin used ops last ends right
  end_spelled es name t begin used ops ByRollback last ends right = subst (AllByRecursion SpellsReply) (sym ends) (tt, tt)
  end_spelled es name t begin used ops WithItsLine last ends right = decision_spelled es name t begin used ops last ends right
  end_spelled es name t begin used ops Nowhere last ends right = subst (AllByRecursion SpellsReply) (sym ends) tt

  pub ran_spelled : (es : List EntryLine) (t : Transaction) (begin : ℕ) (ran : Answered) → AreTexts t.texts → ran ≡ alone_at basis (view_of basis es) t begin → AllByRecursion SpellsReply ran.replies
  ran_spelled es t begin ran are is =
      subst (λ (a : Answered). AllByRecursion SpellsReply a.replies) (sym is)
      (alone_replies basis.language basis.origin.tables spelled.language (rows_at basis es begin).tables [] t.texts are (rows_spelled es begin) tt)

  pub whole_spelled : (es : List EntryLine) (name : List ℕ) (t : Transaction) (mine : List Reply) → AreTexts t.texts → IsWhole basis (view_of basis es) name t mine → AllByRecursion SpellsReply mine
  whole_spelled es name t mine are w =
      subst (AllByRecursion SpellsReply) (sym w.says)
      (tt, all_append SpellsReply w.ran.replies w.last (ran_spelled es t w.begin w.ran are w.is_ran) (end_spelled es name t w.begin (used_at t.level w.ran) w.ran.ops t.end w.last w.ends w.right))

  cut_short_spelled : (es : List EntryLine) (t : Transaction) (mine : List Reply) → AreTexts t.texts → IsCut basis (view_of basis es) t mine → AllByRecursion SpellsReply mine
  cut_short_spelled es t mine are c =
      let all : AllByRecursion SpellsReply (c.front ++ c.rest) = subst (AllByRecursion SpellsReply) (sym c.fits) (tt, ran_spelled es t c.begin c.ran are c.is_ran) in
      subst (AllByRecursion SpellsReply) (sym c.says) (all_append SpellsReply c.front (c.cause ∷ []) (all_front SpellsReply c.front c.rest all) (cut_spelled c.cause c.is_cause, tt))

  told_spelled : (es : List EntryLine) (name : List ℕ) (item : WorkItem) (mine : List Reply) → SpellsItem item → IsTold basis (view_of basis es) name item mine → AllByRecursion SpellsReply mine
  told_spelled es name (Does t) mine is (inl whole) = whole_spelled es name t mine is whole
  told_spelled es name (Does t) mine is (inr cut) = cut_short_spelled es t mine is cut
  told_spelled es name (Lone answer) mine is told = subst (AllByRecursion SpellsReply) (sym told) (is, tt)

  abbrev pub SpellsTold : Numbered → Type 0
  SpellsTold n = SpellsReply n.1

  pub numbered_spelled : (n : ℕ) (replies : List Reply) → AllByRecursion SpellsReply replies → AllByRecursion SpellsTold (numbered n replies)
  numbered_spelled n [] all = tt
  numbered_spelled n (r ∷ rs) all = (all.0, numbered_spelled n rs all.1)

  along_spelled : (es : List EntryLine) (name : List ℕ) (items : List WorkItem) (lines : List Numbered) → AllByRecursion SpellsItem items → Along (IsTold basis (view_of basis es) name) items lines → AllByRecursion SpellsTold lines
  along_spelled es name [] lines all is = subst (AllByRecursion SpellsTold) (sym is) tt
  along_spelled es name (item ∷ items) lines all (mine, others, splits, told, rest) =
      subst (AllByRecursion SpellsTold) (sym splits)
      (all_append SpellsTold (numbered (number_of item) mine) others (numbered_spelled (number_of item) mine (told_spelled es name item mine all.0 told)) (along_spelled es name items others all.1 rest))

-- lines

abbrev pub SpellsLine : Line → Type 0
SpellsLine (line.Session name txn answer) = IsName name × SpellsReply answer
SpellsLine (line.Down count node fault) = Unit {0}
SpellsLine (line.Up node) = Unit {0}
SpellsLine line.Barrier = Unit {0}
SpellsLine (line.Fed position) = Unit {0}

abbrev pub IsNamedLine : Line → Type 0
IsNamedLine (line.Session name txn answer) = IsName name
IsNamedLine (line.Down count node fault) = Unit {0}
IsNamedLine (line.Up node) = Unit {0}
IsNamedLine line.Barrier = Unit {0}
IsNamedLine (line.Fed position) = Unit {0}

own_told : (name : List ℕ) (b : Bool) (l : Numbered) → b ≡ true → AllByRecursion (λ (n : Numbered). SpellsReply n.1) (if b then l ∷ [] else []) → SpellsReply l.1
own_told name true l e all = all.0
own_told name false l e all = cc

-- what each session was told is spelled, and so each line is
pub lines_spelled : (lines : List Line) → ((name : List ℕ) → AllByRecursion (λ (n : Numbered). SpellsReply n.1) (told name lines)) → AllByRecursion IsNamedLine lines → AllByRecursion SpellsLine lines
lines_spelled [] each named = tt
lines_spelled (line.Session name txn answer ∷ ls) each named = (
  (named.0, own_told name (bytes_eq name name) (txn, answer) (same_name name) (all_front (λ (n : Numbered). SpellsReply n.1) (told_by name (line.Session name txn answer)) (told name ls) (each name))),
  lines_spelled ls (λ other. all_behind (λ (n : Numbered). SpellsReply n.1) (told_by other (line.Session name txn answer)) (told other ls) (each other)) named.1,
)
lines_spelled (line.Down count node fault ∷ ls) each named = (tt, lines_spelled ls each named.1)
lines_spelled (line.Up node ∷ ls) each named = (tt, lines_spelled ls each named.1)
lines_spelled (line.Barrier ∷ ls) each named = (tt, lines_spelled ls each named.1)
lines_spelled (line.Fed position ∷ ls) each named = (tt, lines_spelled ls each named.1)

replies_named : (session : List ℕ) (number : ℕ) (replies : List Reply) → IsName session → AllByRecursion IsNamedLine (lines_of session number replies)
replies_named session number [] is = tt
replies_named session number (r ∷ rs) is = (is, replies_named session number rs is)

-- the lines that a line of the script prints are of its session, or of no session
turn_named : (basis : Basis) (now : ℕ) (done : List BodyLine) (before : List Line) (a : Act) (mine : List Line) (added : List EntryLine) → SaysAsNamed a → IsTurnOf basis now done before a mine added → AllByRecursion IsNamedLine mine
turn_named basis now done before (act.Say session text) mine added is (inl answered) = subst (AllByRecursion IsNamedLine) (sym answered.says) (replies_named session _ answered.replies is.0)
turn_named basis now done before (act.Say session text) mine added is (inr (inl lost)) = subst (AllByRecursion IsNamedLine) (sym lost.says) (is.0, tt)
turn_named basis now done before (act.Say session text) mine added is (inr (inr (inl short))) = subst (AllByRecursion IsNamedLine) (sym short.says) (is.0, tt)
turn_named basis now done before (act.Say session text) mine added is (inr (inr (inr fails))) =
    subst (AllByRecursion IsNamedLine) (sym fails.says) (all_append IsNamedLine (lines_of session _ fails.front) _ (replies_named session _ fails.front is.0) (tt, (is.0, tt)))
turn_named basis now done before (act.Stop node) mine added is (none, same) = subst (AllByRecursion IsNamedLine) (sym none) tt
turn_named basis now done before (act.Start node) mine added is (none, same) = subst (AllByRecursion IsNamedLine) (sym none) tt
turn_named basis now done before (act.Arm session moment) mine added is (none, same) = subst (AllByRecursion IsNamedLine) (sym none) tt
turn_named basis now done before act.Barrier mine added is (none, same) = subst (AllByRecursion IsNamedLine) (sym none) tt
turn_named basis now done before act.Feed mine added is (none, same) = subst (AllByRecursion IsNamedLine) (sym none) tt

turns_named : (basis : Basis) (done : List BodyLine) (before : List Line) (history : List EntryLine) (body : List BodyLine) (lines : List Line) (entries : List EntryLine) →
    AllByRecursion (λ (b : BodyLine). SaysAsNamed b.act) body → InTurns basis done before history body lines entries → AllByRecursion IsNamedLine lines
turns_named basis done before history [] lines entries all (none, same) = subst (AllByRecursion IsNamedLine) (sym none) tt
turns_named basis done before history (b ∷ bs) lines entries all (mine, others, added, later, splits, parts, turn, rest) =
    subst (AllByRecursion IsNamedLine) (sym splits)
    (all_append IsNamedLine mine others (turn_named basis _ done before b.act mine added all.0 turn)
    (turns_named basis (done ++ b ∷ []) (before ++ mine) (history ++ added) bs others later all.1 rest))

downs_named : (lines : List Line) → AllByRecursion IsDownLine lines → AllByRecursion IsNamedLine lines
downs_named [] all = tt
downs_named (line.Session name txn answer ∷ ls) all = absurd all.0
downs_named (line.Down count node fault ∷ ls) all = (tt, downs_named ls all.1)
downs_named (line.Up node ∷ ls) all = absurd all.0
downs_named (line.Barrier ∷ ls) all = absurd all.0
downs_named (line.Fed position ∷ ls) all = absurd all.0

order_named : (basis : Basis) (report : Report) → IsSpelled basis → InPlayOrder basis report → AllByRecursion IsNamedLine report.lines
order_named basis report spelled order =
    subst (AllByRecursion IsNamedLine) (sym order.lines_are)
    (all_append IsNamedLine order.first order.rest (downs_named order.first order.go_down)
    (turns_named basis [] order.first (opened_behind basis order.first) basis.script.body order.rest order.later spelled.body order.order))

-- what is spelled and whose numbers fit is of the grammar

value_is : (v : Value) → FitsValue v → IsToldValue v → IsValue v
value_is Null fits told = tt
value_is (Int (pos n)) fits told = fits
value_is (Int (negsuc n)) fits told = fits
value_is (Text text) fits told = told
value_is (Blob blob) fits told = told

values_are : (vs : List Value) → AllByRecursion FitsValue vs → AllByRecursion IsToldValue vs → AllByRecursion IsValue vs
values_are [] fits told = tt
values_are (v ∷ vs) fits told = (value_is v fits.0 told.0, values_are vs fits.1 told.1)

row_is : (row : List Value) → AllByRecursion FitsValue row → SpellsRow row → IsRow row
row_is [] fits told = absurd told
row_is (v ∷ vs) fits told = (value_is v fits.0 told.0, values_are vs fits.1 told.1)

reply_is : (r : Reply) → FitsReply r → SpellsReply r → IsReply r
reply_is (reply.Begin position) fits spells = fits
reply_is (reply.Row row) fits spells = row_is row fits spells
reply_is (reply.Done rows) fits spells = fits
reply_is (reply.Changed rows) fits spells = fits
reply_is (reply.Error cause) fits spells = fits
reply_is (reply.Level level) fits spells = tt
reply_is reply.RolledBack fits spells = tt
reply_is (reply.Committed position) fits spells = fits
reply_is (reply.ConflictGenid position table genid) fits spells = (fits.0, spells, fits.1)
reply_is (reply.ConflictRange position table key) fits spells = (fits, spells.0, spells.1)
reply_is (reply.Duplicate position table key) fits spells = (fits, spells.0, spells.1)
reply_is (reply.Lost node down) fits spells = fits
reply_is (reply.NoMajority up nodes) fits spells = fits
reply_is reply.NoMemory fits spells = tt

pub lines_are : (lines : List Line) → AllByRecursion FitsLine lines → AllByRecursion SpellsLine lines → AllByRecursion IsLine lines
lines_are [] fits spells = tt
lines_are (line.Session name txn answer ∷ ls) fits spells = ((spells.0.0, fits.0.0, reply_is answer fits.0.1 spells.0.1), lines_are ls fits.1 spells.1)
lines_are (line.Down count node fault ∷ ls) fits spells = (fits.0, lines_are ls fits.1 spells.1)
lines_are (line.Up node ∷ ls) fits spells = (fits.0, lines_are ls fits.1 spells.1)
lines_are (line.Barrier ∷ ls) fits spells = (tt, lines_are ls fits.1 spells.1)
lines_are (line.Fed position ∷ ls) fits spells = (fits.0, lines_are ls fits.1 spells.1)

-- an entry's session was told a line, and so has a name
entries_are : (basis : Basis) (view : View) (lines : List Line) (entries : List EntryLine) → AllByRecursion IsNamedLine lines → AllByRecursion (IsEntryTold basis view lines) entries → AllByRecursion FitsEntry entries → AllByRecursion IsEntry entries
entries_are basis view lines [] named answered fits = tt
entries_are basis view lines (Setup position ∷ es) named answered fits = (fits.0, entries_are basis view lines es named answered.1 fits.1)
entries_are basis view lines (Commit position session txn begin level ∷ es) named answered fits =
    let stands : StandsIn lines (line.Session session txn (reply.Begin begin)) = begin_stands basis view lines position session txn begin answered.0 in
    ((fits.0.0, session_named lines session txn begin stands named, fits.0.1, fits.0.2), entries_are basis view lines es named answered.1 fits.1)
  where
    session_named : (lines : List Line) (session : List ℕ) (txn begin : ℕ) → StandsIn lines (line.Session session txn (reply.Begin begin)) → AllByRecursion IsNamedLine lines → IsName session
    session_named lines session txn begin (front, back, is) named = all_standing IsNamedLine front back (line.Session session txn (reply.Begin begin)) (subst (AllByRecursion IsNamedLine) is named)

pub of_the_grammar : (basis : Basis) (report : Report) → IsSpelled basis → Lawful basis report → InPlayOrder basis report → FitsTypes report → IsReport report
of_the_grammar basis report spelled lawful order fits =
    let named : AllByRecursion IsNamedLine report.lines = order_named basis report spelled order in
    let each : (name : List ℕ) → AllByRecursion (λ (n : Numbered). SpellsReply n.1) (told name report.lines)
    = λ name. along_spelled basis spelled report.entries name (work basis.language name basis.script.body) (told name report.lines) (work_spelled basis.language name basis.script.body spelled.body) (lawful.replies name) in
    record {
      lines = lines_are report.lines fits.lines (lines_spelled report.lines each named);
      base = fits.base;
      entries = entries_are basis (view_of basis report.entries) report.lines report.entries named lawful.answered fits.entries;
      feeds = subst (AllByRecursion IsFeed) (sym lawful.feeds) tt;
      end = fits.end;
    }
