-- How laws along the work of each session are shown of the worked examples, and refuted.
use Rattle.std.proofs.Common.{◌≡◌, ◌≤◌, ◌+◌, ℕ, List, length, [], ◌∷◌, ◌++◌, refl, sym, subst, ap, Bool, true, false, ◌∙◌, codes, inl, inr, ◌⊎◌, Some}
use Rattle.std.proofs.lemmas.List.{append-nil}
use Rattle.std.specs.List.{AllByRecursion}
use Rattle.std.specs.Str.{bytes_eq}
use Rattle.std.proofs.lemmas.Slice.Eq.{bytes_eq-Decides}
use Rattle.script_form.specs.declared.scripts.BodyLine.{BodyLine}
use Rattle.script_form.specs.declared.scripts.Act.{Act}
use Rattle.script_form.specs.declared.scripts.Act.TheVariants as act
use Rattle.report_laws.specs.History.{Basis, last_position, view_of}
use Rattle.session_language.specs.Touched.{used_at}
use Rattle.report_laws.specs.Nodes.{downs}
use Rattle.report_laws.specs.Play.{InTurns, IsTurn, IsTurnOf, IsTimely, IsAppended, number_told, is_own}
use Rattle.session_language.specs.Replies.{are_up_to, is_last_of}
use Rattle.report_laws.specs.Told.{Along, IsTold, IsCommitTold, MayCut, told, numbered, Numbered, alone_at, lines_of}
use Rattle.report_laws.specs.View.{View}
use Rattle.report_laws.specs.Work.{Transaction, WorkItem, Does, place_after, work, said, said_by, start, place_from, items_at, number_of, transaction_of}
use Rattle.report_text.specs.declared.reports.EntryLine.{EntryLine}
use Rattle.report_text.specs.declared.reports.Line.{Line}
use Rattle.report_text.specs.declared.reports.Line.TheVariants as line
use Rattle.cdb_values.specs.declared.replies.Reply.{Reply}
use Rattle.cdb_values.specs.declared.replies.Reply.TheVariants as reply
use Rattle.report_laws.proofs.GrowLaws.{first_begin, first_rest, same_last}
use Rattle.report_laws.proofs.NodesLaws.{none_lost, none_lacks, downs_more}
use Rattle.report_worked.specs.Small.{small_language}
use Rattle.report_laws.specs.Cut.{cuts}
use Rattle.session_language.specs.Language.{Language, Answered}
use Rattle.report_laws.specs.Outcome.{IsRight, Ends}

-- the sessions a and b
abbrev pub IsTheirs : List ℕ → Type 0
IsTheirs name = (name ≡ codes "a") ⊎ (name ≡ codes "b")

abbrev pub SaidTheirs : Act → Type 0
SaidTheirs (act.Say session text) = IsTheirs session
SaidTheirs (act.Stop node) = ⊥
SaidTheirs (act.Start node) = ⊥
SaidTheirs (act.Arm session moment) = ⊥
SaidTheirs act.Barrier = ⊥
SaidTheirs act.Feed = ⊥

abbrev pub ToThem : Line → Type 0
ToThem (line.Session session txn answer) = IsTheirs session
ToThem (line.Down count node fault) = Unit {0}
ToThem (line.Up node) = ⊥
ToThem line.Barrier = ⊥
ToThem (line.Fed position) = ⊥

other_name : (name session : List ℕ) → bytes_eq (codes "a") name ≡ false → bytes_eq (codes "b") name ≡ false → IsTheirs session → bytes_eq session name ≡ false
other_name name session a b (inl is) = ap (λ s. bytes_eq s name) is ∙ a
other_name name session a b (inr is) = ap (λ s. bytes_eq s name) is ∙ b

-- no other session says or is told anything
said_none : (name : List ℕ) (body : List BodyLine) → bytes_eq (codes "a") name ≡ false → bytes_eq (codes "b") name ≡ false → AllByRecursion (λ l. SaidTheirs l.act) body → said name body ≡ []
said_none name [] a b all = refl
said_none name (l ∷ ls) a b all = go l.act all.0 (said_none name ls a b all.1)
  where
    go : (what : Act) → SaidTheirs what → said name ls ≡ [] → said_by name what (said name ls) ≡ []
    go (act.Say session text) is none = rw (other_name name session a b is) none
    go (act.Stop node) is none = none
    go (act.Start node) is none = none
    go (act.Arm session moment) is none = none
    go act.Barrier is none = none
    go act.Feed is none = none

told_none : (name : List ℕ) (lines : List Line) → bytes_eq (codes "a") name ≡ false → bytes_eq (codes "b") name ≡ false → AllByRecursion ToThem lines → told name lines ≡ []
told_none name [] a b all = refl
told_none name (line.Session session txn answer ∷ ls) a b all = rw (other_name name session a b all.0) (told_none name ls a b all.1)
told_none name (line.Down count node fault ∷ ls) a b all = told_none name ls a b all.1
told_none name (line.Up node ∷ ls) a b all = told_none name ls a b all.1
told_none name (line.Barrier ∷ ls) a b all = told_none name ls a b all.1
told_none name (line.Fed position ∷ ls) a b all = told_none name ls a b all.1

-- a law along the work of each session holds where it holds along the work of the sessions a and b
pub along_each : (P : List ℕ → WorkItem → List Reply → Type 0) (body : List BodyLine) (lines : List Line) →
    AllByRecursion (λ l. SaidTheirs l.act) body → AllByRecursion ToThem lines →
    Along (P (codes "a")) (work small_language (codes "a") body) (told (codes "a") lines) → Along (P (codes "b")) (work small_language (codes "b") body) (told (codes "b") lines) →
    (name : List ℕ) → Along (P name) (work small_language name body) (told name lines)
along_each P body lines theirs to_them of_a of_b name = go (bytes_eq (codes "a") name) (bytes_eq (codes "b") name) refl refl
  where
    go : (a b : Bool) → bytes_eq (codes "a") name ≡ a → bytes_eq (codes "b") name ≡ b → Along (P name) (work small_language name body) (told name lines)
    go true b is_a is_b = subst (λ (n : List ℕ). Along (P n) (work small_language n body) (told n lines)) ((bytes_eq-Decides (codes "a") name).0 is_a) of_a
    go false true is_a is_b = subst (λ (n : List ℕ). Along (P n) (work small_language n body) (told n lines)) ((bytes_eq-Decides (codes "b") name).0 is_b) of_b
    go false false is_a is_b =
        subst (λ (items : List WorkItem). Along (P name) items (told name lines)) (sym (ap (λ (texts : List (List ℕ)). items_at (place_from small_language start texts)) (said_none name body is_a is_b theirs)))
        (told_none name lines is_a is_b to_them)

-- a transaction is told whole, by its begin and its outcome
pub whole : {basis : Basis} {view : View} {name : List ℕ} {t : Transaction} {mine : List Reply} (begin : ℕ) (o : Reply) → basis.origin.position ≤ begin → begin ≤ view.last → Ends t.end (o ∷ []) →
    IsRight basis view name t begin (used_at t.level (alone_at basis view t begin)) (alone_at basis view t begin).ops o → mine ≡ reply.Begin begin ∷ ((alone_at basis view t begin).replies ++ o ∷ []) → IsTold basis view name (Does t) mine
whole {basis} {view} {name} {t} {mine} begin o base within ends right says = inl (record { begin = begin; base = base; within = within; ran = alone_at basis view t begin; is_ran = refl; last = o ∷ []; ends = ends; right = (right, tt); says = says })

-- a transaction is cut short, behind a front of its begin and its replies
pub cut : {basis : Basis} {view : View} {name : List ℕ} {t : Transaction} {mine : List Reply} (begin : ℕ) (front rest : List Reply) (cause : Reply) → basis.origin.position ≤ begin → begin ≤ view.last →
    front ++ rest ≡ reply.Begin begin ∷ (alone_at basis view t begin).replies → cuts cause ≡ true → MayCut t.end (alone_at basis view t begin).ops front rest cause → mine ≡ front ++ cause ∷ [] → IsTold basis view name (Does t) mine
cut {basis} {view} {name} {t} {mine} begin front rest cause base within fits is may says =
    inr (record { begin = begin; base = base; within = within; ran = alone_at basis view t begin; is_ran = refl; front = front; rest = rest; fits = fits; cause = cause; is_cause = is; may = may; says = says })

-- an entry's transaction is told whole, between these lines of its session
pub entry_told : {basis : Basis} {view : View} {lines : List Line} {position : ℕ} {session : List ℕ} {txn begin : ℕ} (t : Transaction) (before after : List Numbered) → transaction_of basis.language session txn basis.script.body ≡ Some t → begin ≤ view.last →
    told session lines ≡ before ++ (numbered txn (reply.Begin begin ∷ ((alone_at basis view t begin).replies ++ reply.Committed position ∷ [])) ++ after) → IsCommitTold basis view lines position session txn begin
entry_told {basis} {view} {lines} {position} {session} {txn} {begin} t before after its within says =
    record { transaction = t; is_its = its; within = within; ran = alone_at basis view t begin; is_ran = refl; outcome = reply.Committed position; ends = refl; before = before; after = after; says = says }

-- a transaction that is told a begin and an outcome is told the replies at that begin, and its outcome is right
pub record ToldAt (basis : Basis) (entries : List EntryLine) (name : List ℕ) (t : Transaction) (begin : ℕ) (back : List Reply) : Type 0 where
  pub last : List Reply
  pub says : back ≡ (alone_at basis (view_of basis entries) t begin).replies ++ last
  pub right : AllByRecursion (IsRight basis (view_of basis entries) name t begin (used_at t.level (alone_at basis (view_of basis entries) t begin)) (alone_at basis (view_of basis entries) t begin).ops) last

no_cut : (b : Bool) → b ≡ true → b ≡ false → ⊥
no_cut b cut uncut = cc

pub told_at : (basis : Basis) (entries : List EntryLine) (name : List ℕ) (t : Transaction) (begin : ℕ) (back front : List Reply) (outcome : Reply) → reply.Begin begin ∷ back ≡ front ++ outcome ∷ [] → cuts outcome ≡ false →
    IsTold basis (view_of basis entries) name (Does t) (reply.Begin begin ∷ back) → ToldAt basis entries name t begin back
told_at basis entries name t begin back front outcome ends uncut (inl was) = record {
  last = was.last;
  says = first_rest begin was.begin _ _ was.says
      ∙ ap (λ (a : Answered). a.replies ++ was.last) was.is_ran
      ∙ ap (λ (b : ℕ). (alone_at basis (view_of basis entries) t b).replies ++ was.last) (sym (first_begin begin was.begin _ _ was.says));
  right = subst (λ (b : ℕ). AllByRecursion (IsRight basis (view_of basis entries) name t b (used_at t.level (alone_at basis (view_of basis entries) t b)) (alone_at basis (view_of basis entries) t b).ops) was.last) (sym (first_begin begin was.begin _ _ was.says))
      (subst (λ (a : Answered). AllByRecursion (IsRight basis (view_of basis entries) name t was.begin (used_at t.level a) a.ops) was.last) was.is_ran was.right);
}
told_at basis entries name t begin back front outcome ends uncut (inr was) =
    absurd (no_cut (cuts was.cause) was.is_cause (ap cuts (sym (same_last front was.front outcome was.cause (sym ends ∙ was.says))) ∙ uncut))

-- the replies of each of these items, in order, under their numbers
abbrev pub in_parts : List WorkItem → List (List Reply) → List Numbered
in_parts [] parts = []
in_parts (item ∷ items) [] = []
in_parts (item ∷ items) (mine ∷ parts) = numbered (number_of item) mine ++ in_parts items parts

abbrev pub EachPart : (WorkItem → List Reply → Type 0) → List WorkItem → List (List Reply) → Type 0
EachPart P [] parts = Unit {0}
EachPart P (item ∷ items) [] = ⊥
EachPart P (item ∷ items) (mine ∷ parts) = P item mine × EachPart P items parts

pub along_parts : (P : WorkItem → List Reply → Type 0) (items : List WorkItem) (parts : List (List Reply)) → EachPart P items parts → Along P items (in_parts items parts)
along_parts P [] parts is = refl
along_parts P (item ∷ items) [] is = absurd is
along_parts P (item ∷ items) (mine ∷ parts) is = (mine, in_parts items parts, refl, is.0, along_parts P items parts is.1)

-- what each line of a script is answered, and the entries that it appends
abbrev pub Turn : Type 0
Turn = List Reply × List EntryLine

-- the lines that a line of a script prints that is answered so
abbrev pub piece : Language → List BodyLine → Act → List Reply → List Line
piece language done (act.Say session text) replies = lines_of session (number_told language (place_after language session done) text) replies
piece language done (act.Stop node) replies = []
piece language done (act.Start node) replies = []
piece language done (act.Arm session moment) replies = []
piece language done act.Barrier replies = []
piece language done act.Feed replies = []

-- a line of a script is answered so
abbrev pub IsAnsweredBy : Basis → ℕ → List BodyLine → List Line → Act → List Reply → List EntryLine → Type 0
IsAnsweredBy basis now done before (act.Say session text) replies added =
    IsTurn now before session (number_told basis.language (place_after basis.language session done) text) (is_own basis.language (place_after basis.language session done) text) replies added
IsAnsweredBy basis now done before _ replies added = (replies ≡ []) × (added ≡ [])

-- no node went down before, so nothing keeps it from that
answered_turn : (basis : Basis) (now : ℕ) (done : List BodyLine) (before : List Line) (a : Act) (replies : List Reply) (added : List EntryLine) → downs before ≡ 0 →
    IsAnsweredBy basis now done before a replies added → IsTurnOf basis now done before a (piece basis.language done a replies) added
answered_turn basis now done before (act.Say session text) replies added none is =
    inl (record { replies = replies; says = refl; turn = is; kept = none_lost basis.script before session _ _ none; majority = none_lacks basis.script before _ _ none })
answered_turn basis now done before (act.Stop node) replies added none is = (refl, is.1)
answered_turn basis now done before (act.Start node) replies added none is = (refl, is.1)
answered_turn basis now done before (act.Arm session moment) replies added none is = (refl, is.1)
answered_turn basis now done before act.Barrier replies added none is = (refl, is.1)
answered_turn basis now done before act.Feed replies added none is = (refl, is.1)

none_more : (language : Language) (done : List BodyLine) (before : List Line) (a : Act) (replies : List Reply) → downs before ≡ 0 → downs (before ++ piece language done a replies) ≡ 0
none_more language done before (act.Say session text) replies none = downs_more before session _ replies none
none_more language done before (act.Stop node) replies none = ap downs (append-nil before) ∙ none
none_more language done before (act.Start node) replies none = ap downs (append-nil before) ∙ none
none_more language done before (act.Arm session moment) replies none = ap downs (append-nil before) ∙ none
none_more language done before act.Barrier replies none = ap downs (append-nil before) ∙ none
none_more language done before act.Feed replies none = ap downs (append-nil before) ∙ none

-- the lines of these turns, and their entries
abbrev pub lines_in : Basis → List BodyLine → List BodyLine → List Turn → List Line
lines_in basis done [] turns = []
lines_in basis done (b ∷ bs) [] = []
lines_in basis done (b ∷ bs) (turn ∷ turns) = piece basis.language done b.act turn.0 ++ lines_in basis (done ++ b ∷ []) bs turns

abbrev pub entries_in : List Turn → List EntryLine
entries_in [] = []
entries_in (turn ∷ turns) = turn.1 ++ entries_in turns

abbrev pub EachTurn : Basis → List BodyLine → List Line → List EntryLine → List BodyLine → List Turn → Type 0
EachTurn basis done before history [] [] = Unit {0}
EachTurn basis done before history [] (turn ∷ turns) = ⊥
EachTurn basis done before history (b ∷ bs) [] = ⊥
EachTurn basis done before history (b ∷ bs) (turn ∷ turns) =
    IsAnsweredBy basis (last_position basis.origin history) done before b.act turn.0 turn.1 × EachTurn basis (done ++ b ∷ []) (before ++ piece basis.language done b.act turn.0) (history ++ turn.1) bs turns

turns_from : (basis : Basis) (done : List BodyLine) (before : List Line) (history : List EntryLine) (body : List BodyLine) (turns : List Turn) → downs before ≡ 0 →
    EachTurn basis done before history body turns → InTurns basis done before history body (lines_in basis done body turns) (entries_in turns)
turns_from basis done before history [] [] none is = (refl, refl)
turns_from basis done before history [] (turn ∷ turns) none is = absurd is
turns_from basis done before history (b ∷ bs) [] none is = absurd is
turns_from basis done before history (b ∷ bs) (turn ∷ turns) none is = (
  piece basis.language done b.act turn.0,
  lines_in basis (done ++ b ∷ []) bs turns,
  turn.1,
  entries_in turns,
  refl,
  refl,
  answered_turn basis (last_position basis.origin history) done before b.act turn.0 turn.1 none is.0,
  turns_from basis (done ++ b ∷ []) (before ++ piece basis.language done b.act turn.0) (history ++ turn.1) bs turns (none_more basis.language done before b.act turn.0 none) is.1,
)

-- lines that are answered one after the other, and no node goes down
pub in_turns : (basis : Basis) (done : List BodyLine) (history : List EntryLine) (body : List BodyLine) (turns : List Turn) →
    EachTurn basis done [] history body turns → InTurns basis done [] history body (lines_in basis done body turns) (entries_in turns)
in_turns basis done history body turns is = turns_from basis done [] history body turns refl is

-- a turn that is told up to its last reply
pub is_turn : {now : ℕ} {before : List Line} {session : List ℕ} {number : ℕ} {own : Bool} {replies : List Reply} {added : List EntryLine} →
    are_up_to (is_last_of own) replies ≡ true → AllByRecursion (IsTimely now (now + length added)) replies → IsAppended now session number replies added → IsTurn now before session number own replies added
is_turn told timely appended = record { told = inl told; timely = timely; appended = appended }
