-- On one node a report that is lawful as one of several nodes, and in the order of play, is lawful.
use Rattle.std.proofs.Common.{◌≡◌, ℕ, zero, suc, ◌+◌, ◌≤◌, ◌<◌, ◌==◌, ◌&&◌, ◌||◌, List, [], ◌∷◌, ◌++◌, refl, sym, subst, ap, arith, ◌∙◌, append_assoc, Option, Some, None, Bool, true, false, not, if◌then◌else◌, ◌⊎◌, inl, inr}
use Rattle.std.proofs.lemmas.Bool.{ne_eqb, eq-eqb, eqb-true, both_ways, false≢true, true≢false}
use Rattle.std.proofs.lemmas.Slice.Eq.{bytes_eq-Decides}
use Rattle.std.specs.List.{AllByRecursion, list_any}
use Rattle.std.specs.Str.{bytes_eq}
use Rattle.cdb_values.specs.declared.replies.Reply.{Reply}
use Rattle.cdb_values.specs.declared.replies.Reply.TheVariants as reply
use Rattle.cdb_values.specs.declared.rows.Level.{Level}
use Rattle.script_form.specs.declared.scripts.Act.{Act}
use Rattle.script_form.specs.declared.scripts.Act.TheVariants as act
use Rattle.script_form.specs.declared.scripts.BodyLine.{BodyLine}
use Rattle.script_form.specs.declared.scripts.Script.{Script}
use Rattle.script_form.specs.declared.scripts.SessionLine.{SessionLine}
use Rattle.session_language.specs.Answers.{Answers, IsPlain, ArePlain}
use Rattle.session_language.specs.Each.{EachAfter, StandsIn}
use Rattle.session_language.specs.Language.{Answered, Kind}
use Rattle.session_language.proofs.AllLaws.{all_standing}
use Rattle.session_language.proofs.EachLaws.{all_append, all_front, all_map, stands_added}
use Rattle.session_language.proofs.UpToLaws.{same_tail}
use Rattle.report_laws.specs.Cut.{cuts}
use Rattle.report_laws.specs.History.{Basis, view_of}
use Rattle.report_laws.specs.Lawful.{Lawful}
use Rattle.report_laws.specs.Outcome.{Ends, IsDecided, IsOneDecision}
use Rattle.report_laws.specs.Places.{HasItsPlace, survives}
use Rattle.report_laws.specs.Play.{InPlayOrder, InTurns, IsAppended, IsDownLine, IsOrMemory, IsSaid, IsTurnOf, opened_behind, opening}
use Rattle.report_laws.specs.Nodes.{are_few}
use Rattle.report_laws.specs.Told as today
use Rattle.report_laws.specs.Told.{alone_at, lines_of, numbered, told, Along, Numbered}
use Rattle.report_laws.specs.View.{View}
use Rattle.report_laws.specs.Work.{start, said, work, numbered_among, transaction_of, ByCommit, ByRollback, Does, End, WorkItem, Lone, Nowhere, Transaction, WithItsLine, number_of}
use Rattle.report_laws.proofs.AlongLaws.{of_number, of_its, of_another}
use Rattle.report_laws.proofs.PieceLaws.{under, under_append}
use Rattle.report_laws.proofs.PlainLaws.{plain_alone}
use Rattle.report_laws.proofs.RestLemmas.{items_are, rest_rises, Rising}
use Rattle.report_text.specs.declared.reports.EntryLine.{EntryLine}
use Rattle.report_text.specs.declared.reports.EntryLine.TheVariants.{Setup, Commit}
use Rattle.report_text.specs.declared.reports.Report.{Report}
use Rattle.report_text.specs.declared.reports.Line.{Line}
use Rattle.report_text.specs.declared.reports.Line.TheVariants as line
use Rattle.node_reports.specs.Fed.{AreFeeds}
use Rattle.node_reports.specs.Lawful.{LawfulOfNodes}
use Rattle.node_reports.specs.OneNode.{IsOfOneNode}
use Rattle.node_reports.specs.Order.{InNodesOrder, IsFault, last_fed}
use Rattle.node_reports.specs.Places.{HasPlace}
use Rattle.node_reports.specs.Told.{IsHeard, IsToldAlong, MayBeCut, MayEnd, is_short}
use Rattle.node_reports.proofs.DownOnce.{ones, ups}
use Rattle.node_reports.proofs.OneLawful.{along_each}
use Rattle.node_reports.proofs.OneNode.{IsOnes, WasUp}
use Rattle.node_reports.proofs.OneOrder.{fault_ones, one_order, one_turns}

-- no session goes on at another node
pub none_survives : (name : List ℕ) (sessions : List SessionLine) → AllByRecursion (λ s. s.hasql ≡ false) sessions → list_any (λ s. bytes_eq s.name name && s.hasql) sessions ≡ false
none_survives name [] all = refl
none_survives name (s ∷ ss) all = go (bytes_eq s.name name) s.hasql all.0 (none_survives name ss all.1)
  where
    go : (a b : Bool) → b ≡ false → list_any (λ s. bytes_eq s.name name && s.hasql) ss ≡ false → ((a && b) || list_any (λ s. bytes_eq s.name name && s.hasql) ss) ≡ false
    go true b is more = ap (λ (x : Bool). x || list_any (λ s. bytes_eq s.name name && s.hasql) ss) is ∙ more
    go false b is more = more

told_back : (basis : Basis) (view : View) (name : List ℕ) → survives basis.script name ≡ false → (item : WorkItem) (mine : List Reply) → IsToldAlong basis view name item mine → today.IsTold basis view name item mine
told_back basis view name stays (Does t) mine (inl whole) = inl whole
told_back basis view name stays (Does t) mine (inr cut) = inr (record {
  begin = cut.begin;
  base = cut.base;
  within = cut.within;
  ran = cut.ran;
  is_ran = cut.is_ran;
  front = cut.front;
  rest = cut.rest;
  fits = cut.fits;
  cause = cut.cause;
  is_cause = cut.is_cause;
  may = may cut.may;
  says = cut.says;
})
  where
    may : MayBeCut (survives basis.script name) t.end cut.ran.ops cut.front cut.rest cut.cause → today.MayCut t.end cut.ran.ops cut.front cut.rest cut.cause
    may (inl is) = is
    may (inr (goes, short)) = absurd (both_ways (survives basis.script name) stays goes)
told_back basis view name stays (Lone answer) mine is = is

-- a node goes down by a fault
abbrev IsByFault : Line → Type 0
IsByFault (line.Session name txn answer) = Unit {0}
IsByFault (line.Down count node fault) = fault ≡ true
IsByFault (line.Up node) = Unit {0}
IsByFault line.Barrier = Unit {0}
IsByFault (line.Fed position) = Unit {0}

mine_faults : (name : List ℕ) (number : ℕ) (rs : List Reply) → AllByRecursion IsByFault (lines_of name number rs)
mine_faults name number [] = tt
mine_faults name number (r ∷ rs) = (tt, mine_faults name number rs)

said_faults : (script : Script) (now : ℕ) (before : List Line) (session : List ℕ) (number : ℕ) (kind : Kind) (pending : Option (List (List ℕ))) (mine : List Line) (added : List EntryLine) → IsSaid script now before session number kind pending mine added → AllByRecursion IsByFault mine
said_faults script now before session number kind pending mine added (inl is) = subst (AllByRecursion IsByFault) (sym is.says) (mine_faults session number is.replies)
said_faults script now before session number kind pending mine added (inr (inl is)) = subst (AllByRecursion IsByFault) (sym is.says) (mine_faults session number (is.told ∷ []))
said_faults script now before session number kind pending mine added (inr (inr (inl is))) = subst (AllByRecursion IsByFault) (sym is.says) (mine_faults session number (is.told ∷ []))
said_faults script now before session number kind pending mine added (inr (inr (inr is))) = subst (AllByRecursion IsByFault) (sym is.says) (all_append IsByFault (lines_of session number is.front) _ (mine_faults session number is.front) (refl, (tt, tt)))

none_faults : (mine : List Line) → mine ≡ [] → AllByRecursion IsByFault mine
none_faults mine is = subst (AllByRecursion IsByFault) (sym is) tt

turn_faults : (basis : Basis) (now : ℕ) (done : List BodyLine) (before : List Line) (a : Act) (mine : List Line) (added : List EntryLine) → IsTurnOf basis now done before a mine added → AllByRecursion IsByFault mine
turn_faults basis now done before (act.Say session text) mine added is = said_faults basis.script now before session _ _ _ mine added is
turn_faults basis now done before (act.Stop node) mine added is = none_faults mine is.0
turn_faults basis now done before (act.Start node) mine added is = none_faults mine is.0
turn_faults basis now done before (act.Arm session moment) mine added is = none_faults mine is.0
turn_faults basis now done before act.Barrier mine added is = none_faults mine is.0
turn_faults basis now done before act.Feed mine added is = none_faults mine is.0

turns_faults : (basis : Basis) (done : List BodyLine) (before : List Line) (history : List EntryLine) (bs : List BodyLine) (lines : List Line) (entries : List EntryLine) → InTurns basis done before history bs lines entries → AllByRecursion IsByFault lines
turns_faults basis done before history [] lines entries is = none_faults lines is.0
turns_faults basis done before history (b ∷ bs) lines entries (mine, others, added, later, lines_are, entries_are, turn, rest) =
    subst (AllByRecursion IsByFault) (sym lines_are) (all_append IsByFault mine others (turn_faults basis (view_of basis history).last done before b.act mine added turn) (turns_faults basis (done ++ b ∷ []) (before ++ mine) (history ++ added) bs others later rest))

places_back : (script : Script) (before ls : List Line) → EachAfter (HasPlace script) before ls → EachAfter WasUp before ls → AllByRecursion IsOnes ls → AllByRecursion IsByFault ls → EachAfter (HasItsPlace script) before ls
places_back script before [] places up one faults = tt
places_back script before (l ∷ ls) places up one faults = (here l places.0 up.0 one.0 faults.0, places_back script (before ++ l ∷ []) ls places.1 up.1 one.1 faults.1)
  where
    here : (x : Line) → HasPlace script before x → WasUp before x → IsOnes x → IsByFault x → HasItsPlace script before x
    here (line.Session name txn answer) is was its fault = is
    here (line.Down count node by) is was its fault = record { counted = is.counted; of_script = is.of_script; was_up = was; by_fault = fault }
    here (line.Up node) is was its fault = absurd its
    here line.Barrier is was its fault = absurd its
    here (line.Fed position) is was its fault = absurd its

-- each entry is told committed, among the lines of its line of the script
abbrev IsCommittedIn : List Line → EntryLine → Type 0
IsCommittedIn lines (Setup position) = Unit {0}
IsCommittedIn lines (Commit position session txn begin level) = StandsIn lines (line.Session session txn (reply.Committed position))

in_lines : (session : List ℕ) (number : ℕ) (rs : List Reply) (r : Reply) → StandsIn rs r → StandsIn (lines_of session number rs) (line.Session session number r)
in_lines session number rs r (front, back, is) = (lines_of session number front, lines_of session number back, ap (lines_of session number) is ∙ two front)
  where
    two : (xs : List Reply) → lines_of session number (xs ++ r ∷ back) ≡ lines_of session number xs ++ line.Session session number r ∷ lines_of session number back
    two [] = refl
    two (x ∷ xs) = ap (λ (ls : List Line). line.Session session number x ∷ ls) (two xs)

appended_in : (now : ℕ) (session : List ℕ) (number : ℕ) (rs : List Reply) (mine : List Line) (added : List EntryLine) → mine ≡ lines_of session number rs → IsAppended now session number rs added → AllByRecursion (IsCommittedIn mine) added
appended_in now session number rs mine [] says is = tt
appended_in now session number rs mine (e ∷ es) says (none, begin, level, is, stands) = (
  subst (IsCommittedIn mine) (sym is) (subst (λ (ls : List Line). StandsIn ls (line.Session session number (reply.Committed (now + 1)))) (sym says) (in_lines session number rs (reply.Committed (now + 1)) stands)),
  subst (AllByRecursion (IsCommittedIn mine)) (sym none) tt,
)

none_in : (mine : List Line) (added : List EntryLine) → added ≡ [] → AllByRecursion (IsCommittedIn mine) added
none_in mine added is = subst (AllByRecursion (IsCommittedIn mine)) (sym is) tt

said_in : (script : Script) (now : ℕ) (before : List Line) (session : List ℕ) (number : ℕ) (kind : Kind) (pending : Option (List (List ℕ))) (mine : List Line) (added : List EntryLine) → IsSaid script now before session number kind pending mine added → AllByRecursion (IsCommittedIn mine) added
said_in script now before session number kind pending mine added (inl is) = appended_in now session number is.replies mine added is.says is.turn.appended
said_in script now before session number kind pending mine added (inr (inl is)) = none_in mine added is.none
said_in script now before session number kind pending mine added (inr (inr (inl is))) = none_in mine added is.none
said_in script now before session number kind pending mine added (inr (inr (inr is))) = none_in mine added is.none

turn_in : (basis : Basis) (now : ℕ) (done : List BodyLine) (before : List Line) (a : Act) (mine : List Line) (added : List EntryLine) → IsTurnOf basis now done before a mine added → AllByRecursion (IsCommittedIn mine) added
turn_in basis now done before (act.Say session text) mine added is = said_in basis.script now before session _ _ _ mine added is
turn_in basis now done before (act.Stop node) mine added is = none_in mine added is.1
turn_in basis now done before (act.Start node) mine added is = none_in mine added is.1
turn_in basis now done before (act.Arm session moment) mine added is = none_in mine added is.1
turn_in basis now done before act.Barrier mine added is = none_in mine added is.1
turn_in basis now done before act.Feed mine added is = none_in mine added is.1

in_front : (mine others : List Line) (e : EntryLine) → IsCommittedIn mine e → IsCommittedIn (mine ++ others) e
in_front mine others (Setup position) is = tt
in_front mine others (Commit position session txn begin level) (front, back, is) = (front, back ++ others, ap (λ (ls : List Line). ls ++ others) is ∙ append_assoc front (line.Session session txn (reply.Committed position) ∷ back) others)

in_back : (mine others : List Line) (e : EntryLine) → IsCommittedIn others e → IsCommittedIn (mine ++ others) e
in_back mine others (Setup position) is = tt
in_back mine others (Commit position session txn begin level) is = stands_added mine others (line.Session session txn (reply.Committed position)) is

turns_in : (basis : Basis) (done : List BodyLine) (before : List Line) (history : List EntryLine) (bs : List BodyLine) (lines : List Line) (entries : List EntryLine) → InTurns basis done before history bs lines entries → AllByRecursion (IsCommittedIn lines) entries
turns_in basis done before history [] lines entries is = none_in lines entries is.1
turns_in basis done before history (b ∷ bs) lines entries (mine, others, added, later, lines_are, entries_are, turn, rest) =
    subst (λ (ls : List Line). AllByRecursion (IsCommittedIn ls) entries) (sym lines_are) (subst (AllByRecursion (IsCommittedIn (mine ++ others))) (sym entries_are) (all_append (IsCommittedIn (mine ++ others)) added later
    (all_map (IsCommittedIn mine) (IsCommittedIn (mine ++ others)) (in_front mine others) added (turn_in basis (view_of basis history).last done before b.act mine added turn))
    (all_map (IsCommittedIn others) (IsCommittedIn (mine ++ others)) (in_back mine others) later (turns_in basis (done ++ b ∷ []) (before ++ mine) (history ++ added) bs others later rest))))

opened_in : (basis : Basis) (first lines : List Line) → AllByRecursion (IsCommittedIn lines) (opened_behind basis first)
opened_in basis first lines = go (are_few basis.script.nodes first) (basis.origin.position == 0)
  where
    go : (few base : Bool) → AllByRecursion (IsCommittedIn lines) (if few then [] else (if base then Setup 1 ∷ [] else []))
    go true base = tt
    go false true = (tt, tt)
    go false false = tt

-- what a transaction is told, under its number
none_above : (P : WorkItem → List Reply → Type 0) (items : List WorkItem) (lines : List Numbered) (bound n : ℕ) → Rising bound items → 1 ≤ n → n < bound → Along P items lines → of_number n lines ≡ []
none_above P [] lines bound n rises first below is = ap (of_number n) is
none_above P (Does u ∷ items) lines bound n rises first below (mine, others, splits, p, rest) =
    let least : bound ≤ u.number = rises.0 in
    ap (of_number n) splits ∙ of_another n u.number mine others (ne_eqb u.number n (λ (same : u.number ≡ n). omega (arith, least, below, same))) ∙ none_above P items others (u.number + 1) n rises.1 first (omega (arith, least, below)) rest
none_above P (Lone answer ∷ items) lines bound n rises first below (mine, others, splits, p, rest) =
    ap (of_number n) splits ∙ of_another n 0 mine others (ne_eqb 0 n (λ (same : 0 ≡ n). omega (arith, first, same))) ∙ none_above P items others bound n rises first below rest

its_lines : (P : WorkItem → List Reply → Type 0) (items : List WorkItem) (lines : List Numbered) (bound n : ℕ) (t : Transaction) → 1 ≤ bound → Rising bound items → numbered_among n items ≡ Some t → Along P items lines → (bound ≤ n) × P (Does t) (of_number n lines)
its_lines P [] lines bound n t first rises is along = absurd (let no_such : None ≡ Some t = is in cc)
its_lines P (Does u ∷ items) lines bound n t first rises is (mine, others, splits, p, rest) = go (u.number == n) refl is (λ e. its_lines P items others (u.number + 1) n t (omega arith) rises.1 e rest)
  where
    least : bound ≤ u.number
    least = rises.0

    go : (b : Bool) → (u.number == n) ≡ b → (if b then Some u else numbered_among n items) ≡ Some t → (numbered_among n items ≡ Some t → (u.number + 1 ≤ n) × P (Does t) (of_number n others)) → (bound ≤ n) × P (Does t) (of_number n lines)
    go true e same more =
        let at : u.number ≡ n = eqb-true u.number n e in
        let it : u ≡ t = cc in (
          omega (arith, least, at),
          subst (λ (rs : List Reply). P (Does t) rs)
              (sym (ap (of_number n) splits ∙ ap (λ (k : ℕ). of_number n (numbered k mine ++ others)) at ∙ of_its n mine others ∙ ap (λ (rs : List Reply). mine ++ rs) (none_above P items others (u.number + 1) n rises.1 (omega (arith, first, least, at)) (omega (arith, at)) rest) ∙ nil mine))
              (subst (λ (x : Transaction). P (Does x) mine) it p),
        )
      where
        nil : (rs : List Reply) → rs ++ [] ≡ rs
        nil [] = refl
        nil (r ∷ rs) = ap (λ (x : List Reply). r ∷ x) (nil rs)
    go false e same more = let found = more same in let above : u.number + 1 ≤ n = found.0 in (omega (arith, least, above), subst (λ (rs : List Reply). P (Does t) rs) (sym (ap (of_number n) splits ∙ of_another n u.number mine others e)) found.1)
its_lines P (Lone answer ∷ items) lines bound n t first rises is (mine, others, splits, p, rest) =
    let found = its_lines P items others bound n t first rises is rest in
    let above : bound ≤ n = found.0 in
    (above, subst (λ (rs : List Reply). P (Does t) rs) (sym (ap (of_number n) splits ∙ of_another n 0 mine others (ne_eqb 0 n (λ (same : 0 ≡ n). omega (arith, first, above, same))))) found.1)

-- what is told whole has nothing that cuts it short; what is cut short tells of no commit
abbrev IsUncut : Reply → Type 0
IsUncut r = cuts r ≡ false

abbrev is_commit : Reply → Bool
is_commit (reply.Committed position) = true
is_commit _ = false

abbrev IsNoCommit : Reply → Type 0
IsNoCommit r = is_commit r ≡ false

plain_uncut : (r : Reply) → IsPlain r → IsUncut r
plain_uncut (reply.Begin position) is = absurd is
plain_uncut (reply.Row row) is = refl
plain_uncut (reply.Done rows) is = refl
plain_uncut (reply.Changed rows) is = refl
plain_uncut (reply.Error cause) is = refl
plain_uncut (reply.Level level) is = refl
plain_uncut reply.RolledBack is = absurd is
plain_uncut (reply.Committed position) is = absurd is
plain_uncut (reply.ConflictGenid position table genid) is = absurd is
plain_uncut (reply.ConflictRange position table key) is = absurd is
plain_uncut (reply.Duplicate position table key) is = absurd is
plain_uncut (reply.Lost node down) is = absurd is
plain_uncut (reply.NoMajority up nodes) is = absurd is
plain_uncut reply.NoMemory is = absurd is

plain_no_commit : (r : Reply) → IsPlain r → IsNoCommit r
plain_no_commit (reply.Committed position) is = absurd is
plain_no_commit _ is = refl

decided_uncut : (r : Reply) → IsDecided r → IsUncut r
decided_uncut (reply.Lost node down) is = absurd is
decided_uncut (reply.NoMajority up nodes) is = absurd is
decided_uncut reply.NoMemory is = absurd is
decided_uncut _ is = refl

one_uncut : (last : List Reply) → IsOneDecision last → AllByRecursion IsUncut last
one_uncut [] is = absurd is
one_uncut (o ∷ []) is = (decided_uncut o is, tt)
one_uncut (_ ∷ _ ∷ _) is = absurd is

end_uncut : (end : End) (last : List Reply) → Ends end last → AllByRecursion IsUncut last
end_uncut ByCommit last is = one_uncut last is
end_uncut ByRollback last is = subst (AllByRecursion IsUncut) (sym is) (refl, tt)
end_uncut WithItsLine last is = one_uncut last is
end_uncut Nowhere last is = subst (AllByRecursion IsUncut) (sym is) tt

cut_no_commit : (r : Reply) → cuts r ≡ true → IsNoCommit r
cut_no_commit (reply.Committed position) is = absurd (false≢true is)
cut_no_commit _ is = refl

ran_plain : (basis : Basis) → Answers basis.language → (view : View) (begin : ℕ) (t : Transaction) (ran : Answered) → ran ≡ alone_at basis view t begin → ArePlain ran.replies
ran_plain basis answers view begin t ran is = subst (λ (a : Answered). ArePlain a.replies) (sym is) (plain_alone basis.language answers basis.origin.tables (view.rows begin).tables [] t.texts)

not_both : (basis : Basis) → Answers basis.language → (view : View) (name : List ℕ) (t : Transaction) (rs : List Reply) (position : ℕ) (cause : Reply) → IsToldAlong basis view name (Does t) rs → StandsIn rs (reply.Committed position) → StandsIn rs cause → cuts cause ≡ true → ⊥
not_both basis answers view name t rs position cause (inl w) commit (front, back, is) cut =
    both_ways (cuts cause) (all_standing IsUncut front back cause (subst (AllByRecursion IsUncut) (sym w.says ∙ is) (refl, all_append IsUncut w.ran.replies w.last (all_map IsPlain IsUncut plain_uncut w.ran.replies (ran_plain basis answers view w.begin t w.ran w.is_ran)) (end_uncut t.end w.last w.ends)))) cut
not_both basis answers view name t rs position cause (inr c) (front, back, is) stands cut =
    true≢false (all_standing IsNoCommit front back (reply.Committed position) (subst (AllByRecursion IsNoCommit) (sym c.says ∙ is) (all_append IsNoCommit c.front (c.cause ∷ [])
    (all_front IsNoCommit c.front c.rest (subst (AllByRecursion IsNoCommit) (sym c.fits) (refl, all_map IsPlain IsNoCommit plain_no_commit c.ran.replies (ran_plain basis answers view c.begin t c.ran c.is_ran)))) (cut_no_commit c.cause c.is_cause, tt))))

number_append : (n : ℕ) (xs ys : List Numbered) → of_number n (xs ++ ys) ≡ of_number n xs ++ of_number n ys
number_append n [] ys = refl
number_append n (x ∷ xs) ys = go (x.0 == n) (number_append n xs ys)
  where
    go : (b : Bool) → of_number n (xs ++ ys) ≡ of_number n xs ++ of_number n ys → (if b then x.1 ∷ of_number n (xs ++ ys) else of_number n (xs ++ ys)) ≡ (if b then x.1 ∷ of_number n xs else of_number n xs) ++ of_number n ys
    go true more = ap (λ (rs : List Reply). x.1 ∷ rs) more
    go false more = more

under_stands : (name : List ℕ) (n : ℕ) (lines : List Line) (r : Reply) → StandsIn lines (line.Session name n r) → StandsIn (under name n lines) r
under_stands name n lines r (front, back, is) = (
  under name n front,
  under name n back,
  ap (under name n) is ∙ under_append name n front (line.Session name n r ∷ back) ∙ ap (λ (rs : List Reply). under name n front ++ rs)
      (ap (λ (b : Bool). of_number n ((if b then (n, r) ∷ [] else []) ++ told name back)) ((bytes_eq-Decides name name).1 refl) ∙ ap (λ (b : Bool). if b then r ∷ under name n back else under name n back) (eq-eqb n n refl)),
)

heard_back : (basis : Basis) → Answers basis.language → (view : View) (lines : List Line) → ((name : List ℕ) → Along (IsToldAlong basis view name) (work basis.language name basis.script.body) (told name lines)) →
    (e : EntryLine) → IsCommittedIn lines e → IsHeard basis view lines e → today.IsEntryTold basis view lines e
heard_back basis answers view lines replies (Setup position) committed is = tt
heard_back basis answers view lines replies (Commit position session txn begin level) committed is = record {
  transaction = is.transaction;
  is_its = is.is_its;
  within = is.within;
  ran = is.ran;
  is_ran = is.is_ran;
  outcome = is.outcome;
  ends = ends is.ends;
  before = is.before;
  after = is.after;
  says = is.says;
}
  where
    its : (1 ≤ txn) × IsToldAlong basis view session (Does is.transaction) (of_number txn (told session lines))
    its = its_lines (IsToldAlong basis view session) (work basis.language session basis.script.body) (told session lines) 1 txn is.transaction (omega arith)
        (subst (λ (all : List WorkItem). Rising 1 all) (sym (items_are basis.language start (said session basis.script.body))) (rest_rises basis.language start (said session basis.script.body)))
        is.is_its (replies session)

    outcome_stands : StandsIn (of_number txn (told session lines)) is.outcome
    outcome_stands = (
      of_number txn is.before ++ reply.Begin begin ∷ is.ran.replies,
      of_number txn is.after,
      ap (of_number txn) is.says ∙ number_append txn is.before _ ∙ ap (λ (rs : List Reply). of_number txn is.before ++ rs)
          (of_its txn (reply.Begin begin ∷ (is.ran.replies ++ is.outcome ∷ [])) is.after ∙ ap (λ (rs : List Reply). reply.Begin begin ∷ rs) (append_assoc is.ran.replies (is.outcome ∷ []) (of_number txn is.after)))
          ∙ sym (append_assoc (of_number txn is.before) (reply.Begin begin ∷ is.ran.replies) (is.outcome ∷ of_number txn is.after)),
    )

    ends : MayEnd position is.transaction.end is.outcome → today.EndsAt position is.outcome
    ends (inl at) = at
    ends (inr (cut, commit)) = absurd (not_both basis answers view session is.transaction (of_number txn (told session lines)) position is.outcome its.1 (under_stands session txn lines (reply.Committed position) committed) outcome_stands cut)

all_both : {A : Type 0} (P Q R : A → Type 0) → ((x : A) → P x → Q x → R x) → (xs : List A) → AllByRecursion P xs → AllByRecursion Q xs → AllByRecursion R xs
all_both P Q R more [] p q = tt
all_both P Q R more (x ∷ xs) p q = (more x p.0 q.0, all_both P Q R more xs p.1 q.1)

feeds_back : (basis : Basis) (view : View) (position place : ℕ) (watches : List ℕ) (report : Report) → watches ≡ [] → AreFeeds basis view position place watches report.feeds → report.feeds ≡ []
feeds_back basis view position place [] report unwatched is = is
feeds_back basis view position place (w ∷ ws) report unwatched is = absurd (let no_such : w ∷ ws ≡ [] = unwatched in cc)

opening_faults : (script : Script) (before ls : List Line) → EachAfter (IsFault script) before ls → AllByRecursion IsByFault ls
opening_faults script before [] is = tt
opening_faults script before (line.Session name txn answer ∷ ls) is = absurd is.0
opening_faults script before (line.Down count node fault ∷ ls) is = (is.0.by_fault, opening_faults script (before ++ line.Down count node fault ∷ []) ls is.1)
opening_faults script before (line.Up node ∷ ls) is = absurd is.0
opening_faults script before (line.Barrier ∷ ls) is = absurd is.0
opening_faults script before (line.Fed position ∷ ls) is = absurd is.0

pub lawful_back : (basis : Basis) (report : Report) → IsOfOneNode basis.script → Answers basis.language → LawfulOfNodes basis report → InNodesOrder basis report → Lawful basis report
lawful_back basis report of answers is order = record {
  replies = λ name. along_each (IsToldAlong basis (view_of basis report.entries) name) (today.IsTold basis (view_of basis report.entries) name) (told_back basis (view_of basis report.entries) name (none_survives name basis.script.sessions of.unmoved)) _ _ (is.replies name);
  begins = is.begins;
  history = is.history;
  answered = all_both (IsCommittedIn report.lines) (IsHeard basis (view_of basis report.entries) report.lines) (today.IsEntryTold basis (view_of basis report.entries) report.lines) (heard_back basis answers (view_of basis report.entries) report.lines is.replies) report.entries committed is.answered;
  places = places_back basis.script [] report.lines is.places (ups basis report of order) (ones basis report of order) faults;
  feeds = feeds_back basis (view_of basis report.entries) (last_fed 0 report.lines) 1 basis.script.watches report of.unwatched is.feeds;
  base = is.base;
  end = is.end;
}
  where
    plays : InPlayOrder basis report
    plays = one_order basis report of order

    committed : AllByRecursion (IsCommittedIn report.lines) report.entries
    committed = subst (λ (ls : List Line). AllByRecursion (IsCommittedIn ls) report.entries) (sym plays.lines_are) (subst (AllByRecursion (IsCommittedIn (plays.first ++ plays.rest))) (sym plays.opened)
        (all_append (IsCommittedIn (plays.first ++ plays.rest)) (opened_behind basis plays.first) plays.later (opened_in basis plays.first (plays.first ++ plays.rest))
        (all_map (IsCommittedIn plays.rest) (IsCommittedIn (plays.first ++ plays.rest)) (in_back plays.first plays.rest) plays.later (turns_in basis [] plays.first (opened_behind basis plays.first) basis.script.body plays.rest plays.later plays.order))))

    faults : AllByRecursion IsByFault report.lines
    faults = subst (AllByRecursion IsByFault) (sym order.lines_are) (all_append IsByFault order.first order.rest (opening_faults basis.script [] order.first order.go_down)
        (turns_faults basis [] order.first order.opening basis.script.body order.rest order.later
        (one_turns basis (view_of basis report.entries) [] order.first order.opening basis.script.body order.rest order.later of.one of.unwatched tt of.plain (fault_ones basis.script [] order.first of.one order.go_down) order.order).0))
