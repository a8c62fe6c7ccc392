-- A lawful report of several nodes, whose numbers fit their types, is of the grammar, where what it is told of is called by names.
use Rattle.std.proofs.Common.{◌≡◌, ℕ, ◌+◌, List, [], ◌∷◌, ◌++◌, refl, sym, subst, ap, ◌∙◌, Option, Some, None, append_assoc, Bool, true, false, if◌then◌else◌, ◌⊎◌, inl, inr}
use Rattle.std.specs.Prelude.{option_map, slice_get}
use Rattle.std.proofs.lemmas.Slice.Eq.{bytes_eq-Decides}
use Rattle.std.specs.List.{AllByRecursion}
use Rattle.std.specs.Str.{bytes_eq}
use Rattle.byte_words.specs.Names.{IsName}
use Rattle.cdb_values.specs.declared.replies.Reply.{Reply}
use Rattle.cdb_values.specs.declared.replies.Reply.TheVariants as reply
use Rattle.report_laws.specs.History.{Basis, view_of}
use Rattle.report_laws.specs.Spelled.{IsSpelled, SaysAsNamed}
use Rattle.report_laws.specs.Told.{numbered, told, Along, Numbered}
use Rattle.report_laws.specs.View.{View}
use Rattle.report_laws.specs.Work.{Does, WorkItem, Lone, Transaction, items_at, number_of, place_from, said, said_by, start, work}
use Rattle.report_laws.proofs.EntryToldLaws.{told_stands}
use Rattle.report_laws.proofs.SoFarLemmas.{same_name}
use Rattle.report_laws.proofs.SpelledLaws.{IsNamedLine, SpellsItem, cut_spelled, lines_are, lines_spelled, numbered_spelled, ran_spelled, whole_spelled, work_spelled}
use Rattle.report_laws.proofs.ToldLaws.{told_append}
use Rattle.report_text.specs.Grammar.{IsEntry, IsFeed, IsReport, is_ending}
use Rattle.report_text.specs.Types.{FitsEntry, FitsFeed, FitsTypes}
use Rattle.report_text.specs.declared.reports.EntryLine.{EntryLine}
use Rattle.report_text.specs.declared.reports.EntryLine.TheVariants.{Setup, Commit}
use Rattle.report_text.specs.declared.reports.FeedLine.{FeedLine}
use Rattle.report_text.specs.declared.reports.Line.{Line}
use Rattle.report_text.specs.declared.reports.Line.TheVariants as line
use Rattle.report_text.specs.declared.reports.Report.{Report}
use Rattle.script_form.specs.declared.scripts.Act.{Act}
use Rattle.script_form.specs.declared.scripts.Act.TheVariants as act
use Rattle.script_form.specs.declared.scripts.BodyLine.{BodyLine}
use Rattle.script_form.specs.declared.scripts.TableLine.{TableLine}
use Rattle.session_language.proofs.AllLaws.{all_standing}
use Rattle.session_language.proofs.EachLaws.{all_append, all_front, all_found}
use Rattle.session_language.specs.Each.{StandsIn}
use Rattle.session_language.specs.Spelled.{SpellsReply, AreTexts}
use Rattle.node_reports.specs.Fed.{AreFeeds}
use Rattle.node_reports.specs.Lawful.{LawfulOfNodes}
use Rattle.node_reports.specs.Order.{last_fed}
use Rattle.node_reports.specs.Told.{IsCutShort, IsHeard, IsToldAlong}
use Rattle.node_laws.specs.Watched.{AreTablesNamed}

module _ (basis : Basis) (spelled : IsSpelled basis) where
  -- what each session is told is spelled

  cut_short : (es : List EntryLine) (name : List ℕ) (t : Transaction) (mine : List Reply) → AreTexts t.texts → IsCutShort basis (view_of basis es) name t mine → AllByRecursion SpellsReply mine
  cut_short es name t mine are c =
      let all : AllByRecursion SpellsReply (c.front ++ c.rest) = subst (AllByRecursion SpellsReply) (sym c.fits) (tt, ran_spelled basis spelled es t c.begin c.ran are c.is_ran) in
      subst (AllByRecursion SpellsReply) (sym c.says) (all_append SpellsReply c.front (c.cause ∷ []) (all_front SpellsReply c.front c.rest all) (cut_spelled c.cause c.is_cause, tt))

  told_spelled : (es : List EntryLine) (name : List ℕ) (item : WorkItem) (mine : List Reply) → SpellsItem item → IsToldAlong basis (view_of basis es) name item mine → AllByRecursion SpellsReply mine
  told_spelled es name (Does t) mine is (inl whole) = whole_spelled basis spelled es name t mine is whole
  told_spelled es name (Does t) mine is (inr cut) = cut_short es name t mine is cut
  told_spelled es name (Lone answer) mine is told = subst (AllByRecursion SpellsReply) (sym told) (is, tt)

  along_spelled : (es : List EntryLine) (name : List ℕ) (items : List WorkItem) (lines : List Numbered) → AllByRecursion SpellsItem items → Along (IsToldAlong basis (view_of basis es) name) items lines → AllByRecursion (λ (n : Numbered). SpellsReply n.1) lines
  along_spelled es name [] lines all is = subst (AllByRecursion (λ (n : Numbered). SpellsReply n.1)) (sym is) tt
  along_spelled es name (item ∷ items) lines all (mine, others, splits, told, rest) =
      subst (AllByRecursion (λ (n : Numbered). SpellsReply n.1)) (sym splits)
      (all_append (λ (n : Numbered). SpellsReply n.1) (numbered (number_of item) mine) others (numbered_spelled basis spelled (number_of item) mine (told_spelled es name item mine all.0 told)) (along_spelled es name items others all.1 rest))

-- who is told something said something, and has a name

named_or_silent : (name : List ℕ) (body : List BodyLine) → AllByRecursion (λ (b : BodyLine). SaysAsNamed b.act) body → (said name body ≡ []) ⊎ IsName name
named_or_silent name [] all = inl refl
named_or_silent name (b ∷ bs) all = by b.act all.0 (named_or_silent name bs all.1)
  where
    by : (a : Act) → SaysAsNamed a → (said name bs ≡ []) ⊎ IsName name → (said_by name a (said name bs) ≡ []) ⊎ IsName name
    by (act.Say session text) is later = go (bytes_eq session name) refl later
      where
        go : (c : Bool) → bytes_eq session name ≡ c → (said name bs ≡ []) ⊎ IsName name → ((if c then text ∷ said name bs else said name bs) ≡ []) ⊎ IsName name
        go true same later = inr (subst IsName ((bytes_eq-Decides session name).0 same) is.0)
        go false other later = later
    by (act.Stop node) is later = later
    by (act.Start node) is later = later
    by (act.Arm session moment) is later = later
    by act.Barrier is later = later
    by act.Feed is later = later

silent_told : (basis : Basis) (view : View) (name : List ℕ) (lines : List Line) → said name basis.script.body ≡ [] → Along (IsToldAlong basis view name) (work basis.language name basis.script.body) (told name lines) → told name lines ≡ []
silent_told basis view name lines silent is = subst (λ (items : List WorkItem). Along (IsToldAlong basis view name) items (told name lines)) (ap (λ (texts : List (List ℕ)). items_at (place_from basis.language start texts)) silent) is

told_named : (basis : Basis) (view : View) (lines : List Line) (name : List ℕ) (txn : ℕ) (answer : Reply) → IsSpelled basis → ((other : List ℕ) → Along (IsToldAlong basis view other) (work basis.language other basis.script.body) (told other lines)) → StandsIn lines (line.Session name txn answer) → IsName name
told_named basis view lines name txn answer spelled replies (front, back, is) = go (named_or_silent name basis.script.body spelled.body)
  where
    there : told name lines ≡ told name front ++ (txn, answer) ∷ told name back
    there = ap (told name) is ∙ told_append name front (line.Session name txn answer ∷ back) ∙ ap (λ (b : Bool). told name front ++ ((if b then (txn, answer) ∷ [] else []) ++ told name back)) (same_name name)

    none : (xs ys : List Numbered) (x : Numbered) → [] ≡ xs ++ x ∷ ys → ⊥
    none [] ys x e = cc
    none (z ∷ xs) ys x e = cc

    go : (said name basis.script.body ≡ []) ⊎ IsName name → IsName name
    go (inl silent) = absurd (none (told name front) (told name back) (txn, answer) (sym (silent_told basis view name lines silent (replies name)) ∙ there))
    go (inr is) = is

named_lines : (basis : Basis) (view : View) (lines front ls : List Line) → IsSpelled basis → ((other : List ℕ) → Along (IsToldAlong basis view other) (work basis.language other basis.script.body) (told other lines)) → lines ≡ front ++ ls → AllByRecursion IsNamedLine ls
named_lines basis view lines front [] spelled replies is = tt
named_lines basis view lines front (l ∷ ls) spelled replies is = (here l is, named_lines basis view lines (front ++ l ∷ []) ls spelled replies (is ∙ sym (append_assoc front (l ∷ []) ls)))
  where
    here : (x : Line) → lines ≡ front ++ x ∷ ls → IsNamedLine x
    here (line.Session name txn answer) at = told_named basis view lines name txn answer spelled replies (front, ls, at)
    here (line.Down count node fault) at = tt
    here (line.Up node) at = tt
    here line.Barrier at = tt
    here (line.Fed position) at = tt

-- an entry's session was told a line, and so has a name
entries_are : (basis : Basis) (view : View) (lines : List Line) (entries : List EntryLine) → AllByRecursion IsNamedLine lines → AllByRecursion (IsHeard basis view lines) entries → AllByRecursion FitsEntry entries → AllByRecursion IsEntry entries
entries_are basis view lines [] named answered fits = tt
entries_are basis view lines (Setup position ∷ es) named answered fits = (fits.0, entries_are basis view lines es named answered.1 fits.1)
entries_are basis view lines (Commit position session txn begin level ∷ es) named answered fits =
    ((fits.0.0, session_named (told_stands session txn (reply.Begin begin) lines (answered.0.before, _, answered.0.says)), fits.0.1, fits.0.2), entries_are basis view lines es named answered.1 fits.1)
  where
    session_named : StandsIn lines (line.Session session txn (reply.Begin begin)) → IsName session
    session_named (front, back, is) = all_standing IsNamedLine front back (line.Session session txn (reply.Begin begin)) (subst (AllByRecursion IsNamedLine) is named)

-- a feed's table has a name that ends nothing
table_of : (tables : List TableLine) (watched : ℕ) (name : List ℕ) → AllByRecursion (λ (t : TableLine). IsName t.table.name × (is_ending t.table.name ≡ false)) tables → option_map (λ (t : TableLine). t.table.name) (slice_get tables watched) ≡ Some name → IsName name × (is_ending name ≡ false)
table_of tables watched name all is = go (slice_get tables watched) refl is
  where
    same : (t u : List ℕ) → Some t ≡ Some u → t ≡ u
    same t u e = cc

    go : (found : Option TableLine) → slice_get tables watched ≡ found → option_map (λ (t : TableLine). t.table.name) found ≡ Some name → IsName name × (is_ending name ≡ false)
    go None at e = absurd (let no_such : None ≡ Some name = e in cc)
    go (Some t) at e = subst (λ (n : List ℕ). IsName n × (is_ending n ≡ false)) (same t.table.name name e) (all_found (λ (t : TableLine). IsName t.table.name × (is_ending t.table.name ≡ false)) tables watched t all at)

feeds_are : (basis : Basis) (view : View) (position place : ℕ) (watches : List ℕ) (feeds : List FeedLine) → AreTablesNamed basis.script → AllByRecursion FitsFeed feeds → AreFeeds basis view position place watches feeds → AllByRecursion IsFeed feeds
feeds_are basis view position place [] feeds named fits is = subst (AllByRecursion IsFeed) (sym is) tt
feeds_are basis view position place (watched ∷ more) [] named fits is = absurd is
feeds_are basis view position place (watched ∷ more) (f ∷ fs) named fits is =
    let its = table_of basis.script.tables watched f.table named is.0.is_table in
    (record { place = fits.0.0; table = its.0; free = its.1; taken = fits.0.1; dropped = fits.0.2 }, feeds_are basis view position (place + 1) more fs named fits.1 is.1)

pub of_the_grammar : (basis : Basis) (report : Report) → IsSpelled basis → AreTablesNamed basis.script → LawfulOfNodes basis report → FitsTypes report → IsReport report
of_the_grammar basis report spelled tables lawful fits =
    let named : AllByRecursion IsNamedLine report.lines = named_lines basis (view_of basis report.entries) report.lines [] report.lines spelled lawful.replies refl in
    let each : (name : List ℕ) → AllByRecursion (λ (n : Numbered). SpellsReply n.1) (told name report.lines)
    = λ name. along_spelled basis spelled report.entries name (work basis.language name basis.script.body) (told name report.lines) (work_spelled basis.language name basis.script.body spelled.body) (lawful.replies name) in
    record {
      lines = lines_are report.lines fits.lines (lines_spelled report.lines each named);
      base = fits.base;
      entries = entries_are basis (view_of basis report.entries) report.lines report.entries named lawful.answered fits.entries;
      feeds = feeds_are basis (view_of basis report.entries) (last_fed 0 report.lines) 1 basis.script.watches report.feeds tables fits.feeds lawful.feeds;
      end = fits.end;
    }
