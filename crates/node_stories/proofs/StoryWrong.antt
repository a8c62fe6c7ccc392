-- Reports of several nodes that are wrong in one line are not in the order of play.
use Rattle.std.proofs.Common.{◌≡◌, ℕ, ◌+◌, ◌≤◌, ◌&&◌, List, [], ◌∷◌, ◌++◌, refl, sym, subst, ap, arith, ◌∙◌, Option, Some, None, Bool, true, false, ◌⊎◌, inl, inr, codes, length, pos, take, drop}
use Rattle.std.proofs.lemmas.Bool.{both_ways, false≢true, true≢false}
use Rattle.std.proofs.lemmas.List.{append-nil, length-append}
use Rattle.cdb_values.specs.Good.{KeyName, first_broken}
use Rattle.cdb_values.specs.Rows.{apply_all}
use Rattle.cdb_values.specs.declared.rows.Level.TheVariants.{Snapshot}
use Rattle.cdb_values.specs.declared.rows.RowOp.{RowOp}
use Rattle.cdb_values.specs.declared.rows.RowOp.TheVariants as op
use Rattle.cdb_values.specs.declared.values.Value.TheVariants.{Int}
use Rattle.script_form.specs.declared.scripts.Script.{Script}
use Rattle.session_language.specs.Each.{EachAfter, StandsIn}
use Rattle.session_language.specs.Language.{Answered}
use Rattle.session_language.proofs.UpToLaws.{same_head}
use Rattle.report_laws.specs.History.{Basis, view_of}
use Rattle.report_laws.specs.Nodes.{is_up, are_few}
use Rattle.report_laws.specs.Play.{IsOrMemory}
use Rattle.report_laws.specs.Told.{alone_at}
use Rattle.report_laws.specs.Work.{transaction, Transaction, WithItsLine}
use Rattle.report_laws.proofs.PieceLaws.{commit_is_last}
use Rattle.report_text.specs.declared.reports.Report.{Report}
use Rattle.report_text.specs.declared.reports.EntryLine.{EntryLine}
use Rattle.report_text.specs.declared.reports.Line.{Line}
use Rattle.report_text.specs.declared.reports.Line.TheVariants as line
use Rattle.cdb_values.specs.declared.replies.Reply.{Reply}
use Rattle.cdb_values.specs.declared.replies.Reply.TheVariants as reply
use Rattle.report_worked.specs.Small.{from_nothing}
use Rattle.node_reports.specs.Order.{InNodesOrder, InTurnsOfNodes, IsFault, IsOpened, saying}
use Rattle.node_reports.specs.Piece.{Saying, Enters, IsPiece, IsDue, IsGiven, FallsAtCommit, StopsAtRow, Appends, IsUnacknowledged, loss_at, wanes_at, site_at, replies_in}
use Rattle.node_reports.specs.Arms.{waiting, of_commit, stops, is_row_due, is_last_a_down}
use Rattle.node_stories.specs.Stories.{armed_again, over_a_row}
use Rattle.node_stories.specs.StoriesWrong.{armed_insert, ship_not_fired, shipped_nothing, stopped_at_a_duplicate, insert_at, insert_told, other_node, not_lost, few_committed, unarmed_stop, unacknowledged, armed_select, not_fired, started, no_schema}

-- a line of a session stands behind the opening
no_first : (script : Script) (first rest ls : List Line) (name : List ℕ) (txn : ℕ) (r : Reply) → line.Session name txn r ∷ ls ≡ first ++ rest → EachAfter (IsFault script) [] first → first ≡ []
no_first script [] rest ls name txn r is each = refl
no_first script (x ∷ xs) rest ls name txn r is each = absurd (subst (IsFault script []) (sym (same_head (line.Session name txn r) x ls (xs ++ rest) is)) each.0)

-- where the script is one line of a session, the report is its piece
pub record OnePiece (basis : Basis) (report : Report) (session text : List ℕ) : Type 0 where
  pub opening : List EntryLine
  pub added : List EntryLine
  pub entries_are : report.entries ≡ opening ++ added
  pub opened : IsOpened basis [] [] [] opening
  pub piece : IsPiece (saying basis (view_of basis report.entries) [] [] session text) (view_of basis opening).last report.lines [] added

insert_piece : (n node : ℕ) (falls : List Line) (outcome : Reply) → InNodesOrder (from_nothing (insert_at n node)) (insert_told falls outcome) → OnePiece (from_nothing (insert_at n node)) (insert_told falls outcome) (codes "a") (codes "insert into t values(1, 10)")
insert_piece n node falls outcome order = go order.first (no_first (insert_at n node) order.first order.rest _ (codes "a") 1 (reply.Begin 1) order.lines_are order.go_down) order.lines_are order.opened order.order
  where
    basis : Basis
    basis = from_nothing (insert_at n node)

    go : (first : List Line) → first ≡ [] → (insert_told falls outcome).lines ≡ first ++ order.rest → IsOpened basis [] [] first order.opening →
        InTurnsOfNodes basis (view_of basis (insert_told falls outcome).entries) [] first order.opening basis.script.body order.rest order.later → OnePiece basis (insert_told falls outcome) (codes "a") (codes "insert into t values(1, 10)")
    go [] none lines_are opened (mine, others, added, later, parts, entries, turn, ends) = record {
      opening = order.opening;
      added = added;
      entries_are = order.entries_are ∙ ap (λ (es : List EntryLine). order.opening ++ es) (entries ∙ ap (λ (es : List EntryLine). added ++ es) ends.1 ∙ append-nil added);
      opened = opened;
      piece = subst (λ (ls : List Line). IsPiece (saying basis (view_of basis (insert_told falls outcome).entries) [] [] (codes "a") (codes "insert into t values(1, 10)")) (view_of basis order.opening).last ls [] added)
          (sym (append-nil mine) ∙ ap (λ (ls : List Line). mine ++ ls) (sym ends.0) ∙ sym parts ∙ sym lines_are)
          (subst (λ (ls : List Line). IsPiece (saying basis (view_of basis (insert_told falls outcome).entries) [] [] (codes "a") (codes "insert into t values(1, 10)")) (view_of basis order.opening).last mine ls added) ends.0 turn);
    }
    go (x ∷ xs) none lines_are opened turns = absurd (let no_such : x ∷ xs ≡ [] = none in cc)

some_transaction : (t u : Transaction) → Some t ≡ Some u → t ≡ u
some_transaction t u is = cc

some_none : (d : ℕ) → Some d ≡ None → ⊥
some_none d is = cc

-- a line that tells of a loss, where that is due
due_loss : {s : Saying} {now after : ℕ} {front : List Line} {r : Reply} (d : ℕ) → loss_at s front ≡ Some d → IsGiven s now after front r → IsOrMemory (reply.Lost (site_at s front).node d) r
due_loss {s} {now} {after} {front} {r} d due (inl is) = subst (λ (k : ℕ). IsOrMemory (reply.Lost (site_at s front).node k) r) (some_same is.down d (sym is.is_lost ∙ due)) is.says
  where
    some_same : (a b : ℕ) → Some a ≡ Some b → a ≡ b
    some_same a b e = cc
due_loss d due (inr (inl is)) = absurd (some_none d (sym due ∙ is.kept))
due_loss d due (inr (inr (inl is))) = absurd (some_none d (sym due ∙ is.kept.kept))
due_loss d due (inr (inr (inr is))) = absurd (some_none d (sym due ∙ is.kept.kept))

node_of_loss : (a b c d : ℕ) → reply.Lost a b ≡ reply.Lost c d → a ≡ c
node_of_loss a b c d is = cc

pub other_node_is_not_in_order : InNodesOrder (from_nothing (insert_at 3 2)) other_node → ⊥
other_node_is_not_in_order order =
    let piece : OnePiece (from_nothing (insert_at 3 2)) other_node (codes "a") (codes "insert into t values(1, 10)") = insert_piece 3 2 (line.Down 1 2 true ∷ []) (reply.Lost 1 1) order in
    refused (due_loss 1 refl piece.piece.each.1.1.1.0.3)
  where
    refused : IsOrMemory (reply.Lost 2 1) (reply.Lost 1 1) → ⊥
    refused (inl says) = let node : 1 ≡ 2 = node_of_loss 1 1 2 1 says in omega (arith, node)
    refused (inr says) = cc

pub not_lost_is_not_in_order : InNodesOrder (from_nothing (insert_at 3 2)) not_lost → ⊥
not_lost_is_not_in_order order =
    let piece : OnePiece (from_nothing (insert_at 3 2)) not_lost (codes "a") (codes "insert into t values(1, 10)") = insert_piece 3 2 (line.Down 1 2 true ∷ []) (reply.Committed 2) order in
    refused (due_loss 1 refl piece.piece.each.1.1.1.0.3)
  where
    refused : IsOrMemory (reply.Lost 2 1) (reply.Committed 2) → ⊥
    refused (inl says) = cc
    refused (inr says) = cc

same_length : (xs ys : List EntryLine) → xs ≡ ys → length xs ≡ length ys
same_length xs ys is = ap length is

-- the opening of these scripts has the schema's entry alone
opening_length : (n node : ℕ) (opening : List EntryLine) → are_few n [] ≡ false → IsOpened (from_nothing (insert_at n node)) [] [] [] opening → length opening ≡ 1
opening_length n node [] enough is = absurd (both_ways (are_few n []) enough (is refl refl))
opening_length n node (e ∷ es) enough is = ap (λ (x : List EntryLine). length (e ∷ x)) is.0

few_given : {s : Saying} {now after : ℕ} {front : List Line} → loss_at s front ≡ None → wanes_at s front ≡ true → IsGiven s now after front (reply.Committed 2) → after ≡ now
few_given kept wanes (inl is) = absurd (some_none is.down (sym is.is_lost ∙ kept))
few_given kept wanes (inr (inl is)) = absurd (lost is.node is.down is.says)
  where
    lost : (node down : ℕ) → IsOrMemory (reply.Lost node down) (reply.Committed 2) → ⊥
    lost node down (inl says) = cc
    lost node down (inr says) = cc
few_given kept wanes (inr (inr (inl is))) = absurd (short _ _ is.says)
  where
    short : (up nodes : ℕ) → IsOrMemory (reply.NoMajority up nodes) (reply.Committed 2) → ⊥
    short up nodes (inl says) = cc
    short up nodes (inr says) = cc
few_given kept wanes (inr (inr (inr is))) = (is.unsent wanes).0

pub few_committed_is_not_in_order : InNodesOrder (from_nothing (insert_at 3 1)) few_committed → ⊥
few_committed_is_not_in_order order =
    let piece : OnePiece (from_nothing (insert_at 3 1)) few_committed (codes "a") (codes "insert into t values(1, 10)") = insert_piece 3 1 (line.Down 1 2 true ∷ line.Down 2 3 true ∷ []) (reply.Committed 2) order in
    let now : ℕ = (view_of (from_nothing (insert_at 3 1)) piece.opening).last in
    let none : now + length piece.added ≡ now = few_given refl refl piece.piece.each.1.1.1.1.0.3 in
    let one : length piece.opening ≡ 1 = opening_length 3 1 piece.opening refl piece.opened in
    let all : 2 ≡ length (piece.opening ++ piece.added) = same_length few_committed.entries (piece.opening ++ piece.added) piece.entries_are in
    let parts : length (piece.opening ++ piece.added) ≡ length piece.opening + length piece.added = length-append piece.opening piece.added in
    omega (arith, none, one, all, parts)

unarmed : {s : Saying} {front : List Line} {node : ℕ} → of_commit s.arms ≡ 0 → is_row_due s.arms s.session front ≡ false → FallsAtCommit s front false ⊎ (StopsAtRow s front node false ⊎ ((false ≡ true) × (is_last_a_down front ≡ true))) → ⊥
unarmed {s} {front} none due (inl is) = go is.by
  where
    go : (false ≡ true) ⊎ (stops front + 1 ≤ of_commit s.arms) → ⊥
    go (inl e) = false≢true e
    go (inr some) = omega (arith, none, some)
unarmed none due (inr (inl is)) = true≢false (sym is.due ∙ due)
unarmed none due (inr (inr is)) = false≢true is.0

pub unarmed_stop_is_not_in_order : InNodesOrder (from_nothing (insert_at 3 2)) unarmed_stop → ⊥
unarmed_stop_is_not_in_order order =
    let piece : OnePiece (from_nothing (insert_at 3 2)) unarmed_stop (codes "a") (codes "insert into t values(1, 10)") = insert_piece 3 2 (line.Down 1 2 false ∷ []) (reply.Lost 2 1) order in
    unarmed refl refl piece.piece.each.1.1.0.cause

nobody_up : (k : ℕ) → StandsIn [] (line.Up k) → ⊥
nobody_up k ([], back, is) = cc
nobody_up k (x ∷ front, back, is) = cc

unacknowledged_added : (added : List EntryLine) (now : ℕ) → length added ≡ 1 →
    Appends (saying (from_nothing (insert_at 1 1)) (view_of (from_nothing (insert_at 1 1)) unacknowledged.entries) [] [] (codes "a") (codes "insert into t values(1, 10)")) now unacknowledged.lines [] added → ⊥
unacknowledged_added [] now some is = omega (arith, some)
unacknowledged_added (e ∷ es) now some is = go is.4
  where
    go : StandsIn (reply.Begin 1 ∷ reply.Changed 1 ∷ reply.Lost 1 1 ∷ []) (reply.Committed (now + 1)) ⊎ IsUnacknowledged (saying (from_nothing (insert_at 1 1)) (view_of (from_nothing (insert_at 1 1)) unacknowledged.entries) [] [] (codes "a") (codes "insert into t values(1, 10)")) unacknowledged.lines [] → ⊥
    go (inl stands) = let says : reply.Lost 1 1 ≡ reply.Committed (now + 1) = commit_is_last (reply.Begin 1 ∷ reply.Changed 1 ∷ []) (reply.Lost 1 1) (now + 1) (refl, (refl, tt)) stands in cc
    go (inr un) = nobody_up 1 (un.comes_up (take 2 unacknowledged.lines) (drop 3 unacknowledged.lines) 1 1 refl refl)

pub unacknowledged_is_not_in_order : InNodesOrder (from_nothing (insert_at 1 1)) unacknowledged → ⊥
unacknowledged_is_not_in_order order =
    let piece : OnePiece (from_nothing (insert_at 1 1)) unacknowledged (codes "a") (codes "insert into t values(1, 10)") = insert_piece 1 1 (line.Down 1 1 true ∷ []) (reply.Lost 1 1) order in
    let one : length piece.opening ≡ 1 = opening_length 1 1 piece.opening refl piece.opened in
    let all : 2 ≡ length (piece.opening ++ piece.added) = same_length unacknowledged.entries (piece.opening ++ piece.added) piece.entries_are in
    let parts : length (piece.opening ++ piece.added) ≡ length piece.opening + length piece.added = length-append piece.opening piece.added in
    unacknowledged_added piece.added _ (omega (arith, one, all, parts)) piece.piece.appended

no_entries : (xs ys : List EntryLine) → [] ≡ xs ++ ys → (xs ≡ []) × (ys ≡ [])
no_entries [] ys is = (refl, sym is)
no_entries (x ∷ xs) ys is = absurd (let no_such : [] ≡ x ∷ (xs ++ ys) = is in cc)

pub no_schema_is_not_in_order : InNodesOrder (from_nothing started) no_schema → ⊥
no_schema_is_not_in_order order = go order.order
  where
    none : (order.opening ≡ []) × (order.later ≡ [])
    none = no_entries order.opening order.later order.entries_are

    opened : (mine added : List EntryLine) → mine ≡ [] → added ≡ [] → (before ls : List Line) → before ++ ls ≡ no_schema.lines → IsOpened (from_nothing started) mine before ls added → ⊥
    opened mine added empty nothing before ls are is =
        let few : are_few 3 (before ++ ls) ≡ true = subst (IsOpened (from_nothing started) mine before ls) nothing is refl empty in
        both_ways (are_few 3 (before ++ ls)) (ap (are_few 3) are) few

    go : InTurnsOfNodes (from_nothing started) (view_of (from_nothing started) no_schema.entries) [] order.first order.opening started.body order.rest order.later → ⊥
    go (mine, others, added, later, parts, entries, turn, ends) =
        opened order.opening added none.0 (no_entries added later (sym none.1 ∙ entries)).0 order.first mine
        (ap (λ (ls : List Line). order.first ++ ls) (sym (append-nil mine) ∙ ap (λ (ls : List Line). mine ++ ls) (sym ends.0) ∙ sym parts) ∙ sym order.lines_are) turn.1

pub not_fired_is_not_in_order : InNodesOrder (from_nothing armed_select) not_fired → ⊥
not_fired_is_not_in_order order = go order.first (no_first armed_select order.first order.rest _ (codes "a") 1 (reply.Begin 1) order.lines_are order.go_down) order.lines_are order.order
  where
    piece : (s : Saying) (now after : ℕ) (mine : List Line) → (is_row_due s.arms s.session (take 2 not_fired.lines) && is_up (site_at s (take 2 not_fired.lines)).node (s.before ++ take 2 not_fired.lines)) ≡ true → not_fired.lines ≡ mine → EachAfter (IsDue s now after) [] mine → ⊥
    piece s now after mine due is each = let all : EachAfter (IsDue s now after) [] not_fired.lines = subst (EachAfter (IsDue s now after) []) (sym is) each in both_ways _ all.1.1.0.2 due

    last : (before : List Line) (history : List EntryLine) (rest : List Line) (later : List EntryLine) → before ≡ [] → not_fired.lines ≡ rest →
        InTurnsOfNodes (from_nothing armed_select) (view_of (from_nothing armed_select) not_fired.entries) (take 1 armed_select.body) before history (drop 1 armed_select.body) rest later → ⊥
    last [] history rest later nothing is (mine, others, added, more, parts, entries, turn, ends) =
        piece (saying (from_nothing armed_select) (view_of (from_nothing armed_select) not_fired.entries) (take 1 armed_select.body) [] (codes "a") (codes "select * from t")) _ _ mine refl (is ∙ parts ∙ ap (λ (ls : List Line). mine ++ ls) ends.0 ∙ append-nil mine) turn.each
    last (x ∷ xs) history rest later nothing is turns = absurd (let no_such : x ∷ xs ≡ [] = nothing in cc)

    go : (first : List Line) → first ≡ [] → not_fired.lines ≡ first ++ order.rest → InTurnsOfNodes (from_nothing armed_select) (view_of (from_nothing armed_select) not_fired.entries) [] first order.opening armed_select.body order.rest order.later → ⊥
    go [] none lines_are (mine, others, added, later, parts, entries, turn, rest) = last mine (order.opening ++ added) others later turn.0 (lines_are ∙ parts ∙ ap (λ (ls : List Line). ls ++ others) turn.0) rest
    go (x ∷ xs) none lines_are turns = absurd (let no_such : x ∷ xs ≡ [] = none in cc)

-- an arm of the commit that waits, a commit that is told, and no stop
unfired : (mine : List Line) (now : ℕ) → now ≡ 1 → ship_not_fired.lines ≡ mine → (StandsIn (replies_in (codes "a") mine) (reply.Committed (now + 1)) → (of_commit (waiting (codes "a") (take 1 armed_insert.body)) ≡ 0) ⊎ (1 ≤ stops mine)) → ⊥
unfired mine now one is fired =
    go (subst (λ (ls : List Line). StandsIn (replies_in (codes "a") ls) (reply.Committed 2) → (of_commit (waiting (codes "a") (take 1 armed_insert.body)) ≡ 0) ⊎ (1 ≤ stops ls)) (sym is)
    (subst (λ (k : ℕ). StandsIn (replies_in (codes "a") mine) (reply.Committed (k + 1)) → (of_commit (waiting (codes "a") (take 1 armed_insert.body)) ≡ 0) ⊎ (1 ≤ stops mine)) one fired)
    (reply.Begin 1 ∷ reply.Changed 1 ∷ [], [], refl))
  where
    go : (of_commit (waiting (codes "a") (take 1 armed_insert.body)) ≡ 0) ⊎ (1 ≤ stops ship_not_fired.lines) → ⊥
    go (inl none) = let no_such : 1 ≡ 0 = none in omega (arith, no_such)
    go (inr some) = let no_such : 1 ≤ 0 = some in omega (arith, no_such)

opened_once : (opening : List EntryLine) → IsOpened (from_nothing armed_insert) [] [] [] opening → length opening ≡ 1
opened_once [] is = absurd (let few : are_few 3 [] ≡ true = is refl refl in false≢true few)
opened_once (e ∷ es) is = ap (λ (x : List EntryLine). length (e ∷ x)) is.0

pub ship_not_fired_is_not_in_order : InNodesOrder (from_nothing armed_insert) ship_not_fired → ⊥
ship_not_fired_is_not_in_order order = go order.first (no_first armed_insert order.first order.rest _ (codes "a") 1 (reply.Begin 1) order.lines_are order.go_down) order.lines_are order.opened order.order
  where
    last : (before : List Line) (history : List EntryLine) (rest : List Line) (later : List EntryLine) → before ≡ [] → length history ≡ 1 → ship_not_fired.lines ≡ rest →
        InTurnsOfNodes (from_nothing armed_insert) (view_of (from_nothing armed_insert) ship_not_fired.entries) (take 1 armed_insert.body) before history (drop 1 armed_insert.body) rest later → ⊥
    last before history rest later nothing one is (mine, others, added, more, parts, entries, turn, ends) =
        unfired mine (view_of (from_nothing armed_insert) history).last (let at : 0 + length history ≡ 1 = omega (arith, one) in at) (is ∙ parts ∙ ap (λ (ls : List Line). mine ++ ls) ends.0 ∙ append-nil mine) turn.fired

    go : (first : List Line) → first ≡ [] → ship_not_fired.lines ≡ first ++ order.rest → IsOpened (from_nothing armed_insert) [] [] first order.opening →
        InTurnsOfNodes (from_nothing armed_insert) (view_of (from_nothing armed_insert) ship_not_fired.entries) [] first order.opening armed_insert.body order.rest order.later → ⊥
    go [] none lines_are opened (mine, others, added, later, parts, entries, turn, rest) =
        last mine (order.opening ++ added) others later turn.0 (let one : length order.opening ≡ 1 = opened_once order.opening opened in let all : length (order.opening ++ added) ≡ length order.opening + length added = length-append order.opening added in
        let nothing : length added ≡ 0 = ap length turn.1 in omega (arith, one, all, nothing)) (lines_are ∙ parts ∙ ap (λ (ls : List Line). ls ++ others) turn.0) rest
    go (x ∷ xs) none lines_are opened turns = absurd (let no_such : x ∷ xs ≡ [] = none in cc)

no_length : (xs : List EntryLine) → length xs ≡ 0 → xs ≡ []
no_length [] is = refl
no_length (x ∷ xs) is = absurd (omega (arith, is))

-- the arm of a durable entry fires, and no entry stands
pub shipped_nothing_is_not_in_order : InNodesOrder (from_nothing armed_insert) shipped_nothing → ⊥
shipped_nothing_is_not_in_order order = go order.first (no_first armed_insert order.first order.rest _ (codes "a") 1 (reply.Begin 1) order.lines_are order.go_down) order.lines_are order.opened order.order
  where
    last : (before : List Line) (history : List EntryLine) (rest : List Line) (later : List EntryLine) → later ≡ [] → shipped_nothing.lines ≡ rest →
        InTurnsOfNodes (from_nothing armed_insert) (view_of (from_nothing armed_insert) shipped_nothing.entries) (take 1 armed_insert.body) before history (drop 1 armed_insert.body) rest later → ⊥
    last before history rest later none is (mine, others, added, more, parts, entries, turn, ends) =
        (turn.moment (omega arith) (take 2 shipped_nothing.lines) (drop 3 shipped_nothing.lines) 1 1 (sym (is ∙ parts ∙ ap (λ (ls : List Line). mine ++ ls) ends.0 ∙ append-nil mine)) refl).durable refl (no_entries added more (sym none ∙ entries)).0

    go : (first : List Line) → first ≡ [] → shipped_nothing.lines ≡ first ++ order.rest → IsOpened (from_nothing armed_insert) [] [] first order.opening →
        InTurnsOfNodes (from_nothing armed_insert) (view_of (from_nothing armed_insert) shipped_nothing.entries) [] first order.opening armed_insert.body order.rest order.later → ⊥
    go [] none lines_are opened (mine, others, added, later, parts, entries, turn, rest) =
        let one : length order.opening ≡ 1 = opened_once order.opening opened in
        let all : 1 ≡ length (order.opening ++ order.later) = same_length shipped_nothing.entries (order.opening ++ order.later) order.entries_are in
        let sum : length (order.opening ++ order.later) ≡ length order.opening + length order.later = length-append order.opening order.later in
        let nothing : order.later ≡ [] = no_length order.later (omega (arith, one, all, sum)) in
        last mine (order.opening ++ added) others later (no_entries added later (sym nothing ∙ entries)).1 (lines_are ∙ parts ∙ ap (λ (ls : List Line). ls ++ others) turn.0) rest
    go (x ∷ xs) none lines_are opened turns = absurd (let no_such : x ∷ xs ≡ [] = none in cc)

abbrev is_broken : Option KeyName → Bool
is_broken None = false
is_broken (Some key) = true

-- a commit that breaks a key is not appended, so its arm does not fire
never_enters : (before' before : List Line) (now : ℕ) → now ≡ 2 → Enters (saying over_a_row (view_of over_a_row []) (take 1 armed_again.body) before' (codes "a") (codes "insert into t values(1, 2)")) now before → ⊥
never_enters before' before now two e =
    true≢false (ap is_broken (subst (λ (k : ℕ). first_broken over_a_row.origin.tables (apply_all ((view_of over_a_row []).rows k) inserted).tables ≡ None) two
    (subst (λ (ops : List RowOp). first_broken over_a_row.origin.tables (apply_all ((view_of over_a_row []).rows now) ops).tables ≡ None) ops_are e.unbroken)))
  where
    inserted : List RowOp
    inserted = op.Insert 0 (Int (pos 1) ∷ Int (pos 2) ∷ []) ∷ []

    its : transaction 1 (codes "insert into t values(1, 2)" ∷ []) Snapshot WithItsLine ≡ e.transaction
    its = some_transaction _ _ e.is_its

    ops_are : e.ran.ops ≡ inserted
    ops_are = ap (λ (a : Answered). a.ops) e.is_ran ∙ ap (λ (t : Transaction). (alone_at over_a_row (view_of over_a_row []) t e.begin).ops) (sym its)

pub stopped_at_a_duplicate_is_not_in_order : InNodesOrder over_a_row stopped_at_a_duplicate → ⊥
stopped_at_a_duplicate_is_not_in_order order = go order.first (no_first armed_again order.first order.rest _ (codes "a") 1 (reply.Begin 2) order.lines_are order.go_down) order.lines_are order.order
  where
    none : (order.opening ≡ []) × (order.later ≡ [])
    none = no_entries order.opening order.later order.entries_are

    last : (before : List Line) (history : List EntryLine) (rest : List Line) (later : List EntryLine) → history ≡ [] → stopped_at_a_duplicate.lines ≡ rest →
        InTurnsOfNodes over_a_row (view_of over_a_row []) (take 1 armed_again.body) before history (drop 1 armed_again.body) rest later → ⊥
    last before history rest later empty is (mine, others, added, more, parts, entries, turn, ends) =
        never_enters before _ (view_of over_a_row history).last (ap (λ (es : List EntryLine). (view_of over_a_row es).last) empty)
        (turn.moment (omega arith) (take 2 stopped_at_a_duplicate.lines) (drop 3 stopped_at_a_duplicate.lines) 1 1 (sym (is ∙ parts ∙ ap (λ (ls : List Line). mine ++ ls) ends.0 ∙ append-nil mine)) refl).enters

    go : (first : List Line) → first ≡ [] → stopped_at_a_duplicate.lines ≡ first ++ order.rest →
        InTurnsOfNodes over_a_row (view_of over_a_row stopped_at_a_duplicate.entries) [] first order.opening armed_again.body order.rest order.later → ⊥
    go [] nothing lines_are (mine, others, added, later, parts, entries, turn, rest) =
        last mine (order.opening ++ added) others later (ap (λ (es : List EntryLine). es ++ added) none.0 ∙ turn.1) (lines_are ∙ parts ∙ ap (λ (ls : List Line). ls ++ others) turn.0) rest
    go (x ∷ xs) nothing lines_are turns = absurd (let no_such : x ∷ xs ≡ [] = nothing in cc)
