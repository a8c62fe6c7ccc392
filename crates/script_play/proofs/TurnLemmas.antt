-- Whatever a line of a session does keeps the history and the rows in order, and the session where its work is.
use Rattle.std.proofs.Common.{◌≡◌, ℕ, ◌+◌, ◌≤◌, ◌<◌, ◌==◌, ◌&&◌, List, [], ◌∷◌, ◌++◌, map, refl, sym, subst, ap, arith, Option, Some, None, ◌∙◌, Bool, true, false, append_assoc, ◌⊎◌, inl, inr}
use Rattle.std.proofs.lemmas.List.{append-nil}
use Rattle.std.proofs.lemmas.Bool.{ne_eqb}
use Rattle.std.specs.List.{AllByRecursion}
use Rattle.std.specs.Str.{bytes_eq, is_utf8}
use Rattle.cdb_values.specs.declared.rows.Level.{Level}
use Rattle.cdb_values.specs.Rows.{Rows, apply_all}
use Rattle.cdb_values.specs.declared.rows.RowOp.{RowOp}
use Rattle.cdb_values.specs.declared.rows.StatementError.TheVariants.{State}
use Rattle.log_rows.specs.History.{IsFrom}
use Rattle.session_turns.specs.Seen.{SeenRows}
use Rattle.script_play.specs.Start.{Start, base}
use Rattle.script_form.specs.CanRun.{script_tables}
use Rattle.script_form.specs.declared.scripts.Script.{Script}
use Rattle.report_text.specs.declared.reports.EntryLine.{EntryLine}
use Rattle.report_text.specs.declared.reports.EntryLine.TheVariants.{Setup, Commit}
use Rattle.cdb_values.specs.declared.replies.Reply.{Reply}
use Rattle.cdb_values.specs.declared.replies.Reply.TheVariants as reply
use Rattle.session_language.specs.Language.{Answered, alone, Kind, BeginText, CommitText, RollbackText, LevelText, OtherText}
use Rattle.script_play.specs.Basis.{from_start}
use Rattle.query_laws.specs.Alone.{sql_language}
use Rattle.session_language.specs.Each.{StandsIn}
use Rattle.cdb_values.specs.Changes.{changes_of}
use Rattle.report_laws.specs.History.{rows_at, is_entry_of, view_of}
use Rattle.report_laws.specs.Cut.{cuts}
use Rattle.report_laws.specs.Outcome.{IsRight, IsDecided, Ends}
use Rattle.report_laws.specs.Paced.{Paced}
use Rattle.report_laws.specs.Play.{number_by, is_own_by}
use Rattle.session_language.specs.Replies.{are_up_to, is_last_of}
use Rattle.report_laws.specs.Told.{Along, Numbered, IsTold, IsWhole, IsCut, numbered, alone_at}
use Rattle.report_laws.specs.Work.{Transaction, Does, Lone, Place, End, ByCommit, ByRollback, WithItsLine, Nowhere, transaction, transaction_of, with_open, with_own_line, closed, next_by}
use Rattle.cdb_values.specs.declared.items.GenidItem.{GenidItem}
use Rattle.cdb_values.specs.declared.items.Interval.{Interval}
use Rattle.cdb_values.specs.declared.rows.Change.{Change}
use Rattle.session_language.proofs.AnswerLaws.{replies_more, ops_more}
use Rattle.report_laws.proofs.GrowLaws.{may_later}
use Rattle.report_laws.proofs.PieceLaws.{plain_all_quiet}
use Rattle.session_language.proofs.UpToLaws.{up_to_last, up_to_one}
use Rattle.report_laws.proofs.TurnedLaws.{loud, no_row}
use Rattle.session_language.specs.Answers.{ArePlain}
use Rattle.session_language.specs.Touched.{Used}
use Rattle.report_laws.proofs.PlainLaws.{plain_then, plain_paced}
use Rattle.report_laws.proofs.ToldLaws.{numbered_append}
use Rattle.session_turns.specs.Decisions.{added_by, used_by}
use Rattle.script_play.specs.Ready.{AreKept, IsAskable, IsKeptOp}
use Rattle.script_play.proofs.SqlLaws.{sql_is_answered, kept_answer, uses_more, ranges_more}
use Rattle.script_play.proofs.AppliedLaws.{kept_applied}
use Rattle.script_play.proofs.FitLaws.{sound_fits}
use Rattle.script_play.specs.SoFar.{now_of, IsStoredSoFar, IsOpen, IsDoing, IsPast, Standing}
use Rattle.session_turns.specs.Step.{World, Turned, state, told_turn, turn_by, outcome, answer_at, own_line, committed, goes_on}
use Rattle.script_play.specs.Step.{entries_added, IsKept}
use Rattle.session_turns.specs.Doing.{SessionAt, Doing}
use Rattle.session_turns.specs.Doing as doing
use Rattle.script_play.proofs.StoredLemmas.{Commits, entry_of, used_alike, world}
use Rattle.script_play.proofs.DecisionLemmas.{Decided, decides, entries_after, changed_after}
use Rattle.script_play.proofs.StandingLemmas.{Grows, alone_on, grows_length, idle_after, in_transaction}

-- an entry of this session is of a transaction that is over
abbrev pub IsPastOf : List ℕ → ℕ → Option (List (List ℕ)) → EntryLine → Type 0
IsPastOf name number pending (Setup position) = Unit {0}
IsPastOf name number pending (Commit position session txn begin level) = bytes_eq session name ≡ true → IsPast number pending txn

-- the session's transaction of that number, begun there, was told whole by the last of these lines, up to this reply
pub record WasTold (script : Script) (start : Start) (entries : List EntryLine) (name : List ℕ) (number begin : ℕ) (outcome : Reply) (lines : List Numbered) : Type 0 where
  pub transaction : Transaction
  pub is_its : transaction_of sql_language name number script.body ≡ Some transaction
  pub within : begin ≤ now_of start entries
  pub before : List Numbered
  pub says : lines ≡ before ++ numbered number (reply.Begin begin ∷ ((alone_at (from_start script start) (view_of (from_start script start) entries) transaction begin).replies ++ outcome ∷ []))

-- what a line adds to the history: nothing, or the entry of a transaction that it tells as committed
-- there, that was told whole, and that is over behind it
abbrev pub IsNews : Script → Start → List ℕ → List Numbered → List EntryLine → List EntryLine → Place → Turned → Type 0
IsNews script start name lines entries entries' after t = (entries' ≡ entries) ⊎
    ((entries' ≡ entries ++ entry_of name t.number t.begin t.after.level (now_of start entries) ∷ []) × StandsIn t.replies (reply.Committed (now_of start entries + 1)) × IsPast after.number after.pending t.number
    × WasTold script start entries name t.number t.begin (reply.Committed (now_of start entries + 1)) (lines ++ numbered t.number t.replies))

-- the transaction of that number was cut short
abbrev pub WasCutUnder : List Numbered → ℕ → Type 0
WasCutUnder lines told = (cause : Reply) × (cuts cause ≡ true) × StandsIn lines (told, cause)

-- what a line does is right
pub record Turns (script : Script) (start : Start) (entries entries' : List EntryLine) (changed' : List (List Change)) (seen seen' : SeenRows) (name : List ℕ) (after : Place) (lines : List Numbered) (told : ℕ) (own : Bool) (t : Turned) : Type 0 where
  pub stored : IsStoredSoFar script start entries' changed' seen'
  pub grows : Grows entries entries'
  pub next : seen.next ≤ seen'.next
  pub stands : Standing script start entries' seen'.next name after (lines ++ numbered t.number t.replies) t.after
  pub paced : Paced (now_of start entries) (now_of start entries') t.replies
  pub number : t.number ≡ told
  pub up_to : (are_up_to (is_last_of own) t.replies ≡ true) ⊎ ((t.replies ≡ []) × WasCutUnder lines told)
  pub news : IsNews script start name lines entries entries' after t

-- a session before a line of its own
pub record Comes (script : Script) (start : Start) (entries : List EntryLine) (changed : List (List Change)) (seen : SeenRows) (name : List ℕ) (p : Place) (pending : Option (List (List ℕ))) (what : Doing) (text : List ℕ) (k : Kind) (lines : List Numbered) : Type 0 where
  pub askable : AllByRecursion IsAskable (script_tables script)
  pub utf8 : is_utf8 text ≡ true
  pub stored : IsStoredSoFar script start entries changed seen
  pub before : List Numbered
  pub mine : List Reply
  pub is : lines ≡ before ++ numbered p.number mine
  pub past : Along (IsTold (from_start script start) (view_of (from_start script start) entries) name) p.over before
  pub doing : IsDoing script start entries seen.next p pending what mine
  pub entered : AllByRecursion (IsPastOf name p.number pending) entries
  -- a transaction that this line ends is the session's of its number
  pub its : (t : Transaction) → (next_by p text k pending).over ≡ p.over ++ Does t ∷ [] → t.number ≡ (next_by p text k pending).number → transaction_of sql_language name t.number script.body ≡ Some t

-- no entry of a session is of a transaction that is not over
none_past : (name : List ℕ) (number n : ℕ) (pending : Option (List (List ℕ))) → ((txn : ℕ) → IsPast number pending txn → txn < n) → (es : List EntryLine) → AllByRecursion (IsPastOf name number pending) es → AllByRecursion (λ e. is_entry_of name n e ≡ false) es
none_past name number n pending below [] all = tt
none_past name number n pending below (Setup position ∷ es) all = (refl, none_past name number n pending below es all.1)
none_past name number n pending below (Commit position session txn begin level ∷ es) all = (go (bytes_eq session name) all.0, none_past name number n pending below es all.1)
  where
    go : (b : Bool) → (b ≡ true → IsPast number pending txn) → (b && (txn == n)) ≡ false
    go true past = let less = below txn (past refl) in ne_eqb txn n (λ same. absurd (omega (arith, less, same)))
    go false past = refl

-- a piece added to lines
pub piece : (lines before : List Numbered) (number : ℕ) (mine more : List Reply) → lines ≡ before ++ numbered number mine → lines ++ numbered number more ≡ before ++ numbered number (mine ++ more)
piece lines before number mine more is =
    ap (λ ls. ls ++ numbered number more) is ∙ append_assoc before (numbered number mine) (numbered number more) ∙ ap (λ ls. before ++ ls) (sym (numbered_append number mine more))

module _ (script : Script) (start : Start) (entries : List EntryLine) (changed : List (List Change)) (seen seen' : SeenRows) (name : List ℕ) (p : Place) (text : List ℕ) (lines : List Numbered) where
  abbrev pub w : World
  w = world script start entries changed seen

  -- a line that adds nothing to the history
  quiet : (k : Kind) (pending : Option (List (List ℕ))) (what : Doing) → Comes script start entries changed seen name p pending what text k lines → (after : Place) (told number : ℕ) (own : Bool) (replies : List Reply) (at : SessionAt) → seen' ≡ seen →
      Standing script start entries seen.next name after (lines ++ numbered number replies) at → Paced (now_of start entries) (now_of start entries) replies → number ≡ told → (are_up_to (is_last_of own) replies ≡ true) ⊎ ((replies ≡ []) × WasCutUnder lines told) →
      Turns script start entries (entries ++ []) (changed ++ []) seen seen' name after lines told own (told_turn number replies at)
  quiet k pending what c after told number own replies at same stands paced number_is up_to =
      subst (λ (a : SeenRows). Turns script start entries (entries ++ []) (changed ++ []) seen a name after lines told own (told_turn number replies at)) (sym same)
      (subst (λ es. Turns script start entries es (changed ++ []) seen seen name after lines told own (told_turn number replies at)) (sym (append-nil entries))
      (subst (λ ts. Turns script start entries entries ts seen seen name after lines told own (told_turn number replies at)) (sym (append-nil changed)) (record {
        stored = c.stored;
        grows = inl refl;
        next = omega arith;
        stands = stands;
        paced = paced;
        number = number_is;
        up_to = up_to;
        news = inl refl;
      })))

  -- the answer to a line, at a position of the history
  answer_is : (k : Kind) (pending : Option (List (List ℕ))) (what : Doing) → Comes script start entries changed seen name p pending what text k lines → (begin : ℕ) → IsFrom (base start) begin → begin ≤ now_of start entries → (ops : List RowOp) →
      answer_at w begin ops text ≡ sql_language.answer (script_tables script) (rows_at (from_start script start) entries begin).tables ops text
  answer_is k pending what c begin first within ops = ap (λ (r : Rows). sql_language.answer (script_tables script) r.tables ops text) (c.stored.rows_are begin first within)

  answer_sound : (k : Kind) (pending : Option (List (List ℕ))) (what : Doing) → Comes script start entries changed seen name p pending what text k lines → (begin : ℕ) → IsFrom (base start) begin → begin ≤ now_of start entries → (ops : List RowOp) →
      AllByRecursion (IsKeptOp (script_tables script) seen.next) ops → AllByRecursion (IsKeptOp (script_tables script) seen.next) (answer_at w begin ops text).ops
  answer_sound k pending what c begin first within ops all =
      kept_answer (script_tables script) (seen.at begin).tables ops text seen.next c.askable c.utf8 (c.stored.sound begin first within) all

  -- a transaction that a line ends comes to its commit
  comes_to : (k : Kind) (pending : Option (List (List ℕ))) (what : Doing) → Comes script start entries changed seen name p pending what text k lines → (t : Transaction) (begin : ℕ) (uses : List GenidItem) (ranges : List Interval) (ops : List RowOp) → IsFrom (base start) begin → begin ≤ now_of start entries →
      transaction_of sql_language name t.number script.body ≡ Some t → ops ≡ (alone_at (from_start script start) (view_of (from_start script start) entries) t begin).ops → uses ≡ (alone_at (from_start script start) (view_of (from_start script start) entries) t begin).uses → ranges ≡ (alone_at (from_start script start) (view_of (from_start script start) entries) t begin).ranges →
      AllByRecursion (IsKeptOp (script_tables script) seen.next) ops → AllByRecursion (λ e. is_entry_of name t.number e ≡ false) entries → Commits script start entries changed seen name t begin uses ranges ops
  comes_to k pending what c t begin uses ranges ops first within its are uses_are ranges_are sound once = record {
    stored = c.stored;
    first = first;
    within = within;
    is_its = its;
    ops_are = are;
    uses_are = uses_are;
    ranges_are = ranges_are;
    sound = sound;
    once = once;
    applied = applied.0;
    grows = applied.1;
    fits = sound_fits (script_tables script) (apply_all (seen.at (now_of start entries)) ops).next (apply_all (seen.at (now_of start entries)) ops).tables applied.0.0;
  }
    where
      applied : AreKept (script_tables script) (apply_all (seen.at (now_of start entries)) ops).next (apply_all (seen.at (now_of start entries)) ops).tables × (seen.next ≤ (apply_all (seen.at (now_of start entries)) ops).next)
      applied = subst (λ n. AreKept (script_tables script) (apply_all (seen.at (now_of start entries)) ops).next (apply_all (seen.at (now_of start entries)) ops).tables × (n ≤ (apply_all (seen.at (now_of start entries)) ops).next)) (sym c.stored.next_is)
          (kept_applied (script_tables script) (seen.at (now_of start entries)) ops
          (subst (λ n. AreKept (script_tables script) n (seen.at (now_of start entries)).tables) c.stored.next_is (c.stored.sound (now_of start entries) c.stored.opened (omega arith)))
          (subst (λ n. AllByRecursion (IsKeptOp (script_tables script) n) ops) c.stored.next_is sound))

  -- a decision on a transaction that the line ends, behind these replies of it
  decided_turn : (t : Transaction) (begin : ℕ) (uses : List GenidItem) (ranges : List Interval) (ops : List RowOp) (o : Reply) (added : List (List RowOp)) → begin ≤ now_of start entries → IsFrom (base start) begin →
      Decided script start entries changed seen seen' name t begin uses ranges ops o added → Grows entries (entries_after start entries name t.number begin t.level added)
  decided_turn t begin uses ranges ops o added within first d = go d.told
    where
      go : (added ≡ []) ⊎ ((x : List RowOp) × (added ≡ x ∷ []) × (o ≡ reply.Committed (now_of start entries + 1))) → Grows entries (entries_after start entries name t.number begin t.level added)
      go (inl none) = inl (ap (λ (l : List (List RowOp)). entries_after start entries name t.number begin t.level l) none ∙ append-nil entries)
      go (inr (x, one, is)) = inr (entry_of name t.number begin t.level (now_of start entries), ap (λ (l : List (List RowOp)). entries_after start entries name t.number begin t.level l) one)

  news_of : (t : Transaction) (begin : ℕ) (uses : List GenidItem) (ranges : List Interval) (ops : List RowOp) (o : Reply) (added : List (List RowOp)) (after : Place) (turn : Turned) → turn.number ≡ t.number → turn.begin ≡ begin → turn.after.level ≡ t.level → StandsIn turn.replies o → IsPast after.number after.pending t.number → WasTold script start entries name turn.number turn.begin o (lines ++ numbered turn.number turn.replies) →
      Decided script start entries changed seen seen' name t begin uses ranges ops o added → IsNews script start name lines entries (entries_after start entries name t.number begin t.level added) after turn
  news_of t begin uses ranges ops o added after turn number at level stands past begins d = go d.told
    where
      go : (added ≡ []) ⊎ ((x : List RowOp) × (added ≡ x ∷ []) × (o ≡ reply.Committed (now_of start entries + 1))) → IsNews script start name lines entries (entries_after start entries name t.number begin t.level added) after turn
      go (inl none) = inl (ap (λ (l : List (List RowOp)). entries_after start entries name t.number begin t.level l) none ∙ append-nil entries)
      go (inr (x, one, is)) = inr (
        ap (λ (l : List (List RowOp)). entries_after start entries name t.number begin t.level l) one
            ∙ ap (λ n. entries ++ entry_of name n begin t.level (now_of start entries) ∷ []) (sym number) ∙ ap (λ b. entries ++ entry_of name turn.number b t.level (now_of start entries) ∷ []) (sym at)
            ∙ ap (λ (l : Level). entries ++ entry_of name turn.number turn.begin l (now_of start entries) ∷ []) (sym level),
        subst (λ x. StandsIn turn.replies x) is stands,
        subst (λ n. IsPast after.number after.pending n) (sym number) past,
        subst (λ (x : Reply). WasTold script start entries name turn.number turn.begin x (lines ++ numbered turn.number turn.replies)) is begins,
      )

  -- what is kept for a line
  abbrev pub Kept : Turned → Type 0
  Kept t = IsKept (now_of start entries) seen seen' t.added

  abbrev pub Goal : Place → ℕ → Bool → Turned → Type 0
  Goal after told own t = Kept t → Turns script start entries (entries ++ entries_added name (now_of start entries) t) (changed ++ map (λ ops. changes_of ops seen.next) t.added) seen seen' name after lines told own t

  -- outside a transaction nothing of one was told
  pub idle_lines : (k : Kind) (c : Comes script start entries changed seen name p None doing.No text k lines) → lines ≡ c.before
  idle_lines k c = c.is ∙ ap (λ rs. c.before ++ numbered p.number rs) c.doing ∙ append-nil c.before

  begun : (c : Comes script start entries changed seen name p None doing.No text BeginText lines) → Goal (next_by p text BeginText None) (number_by p.number BeginText None) false (turn_by w p.number p.level text BeginText doing.No)
  begun c kept = quiet BeginText None doing.No c (with_open p (Some []) (p.number + 1)) (p.number + 1) (p.number + 1) false (reply.Begin (now_of start entries) ∷ []) (state (p.number + 1) p.level (doing.Open (now_of start entries) [] [] [])) kept
      (in_transaction script start entries entries (inl refl) name p c.before c.past [] (reply.Begin (now_of start entries) ∷ []) (lines ++ numbered (p.number + 1) (reply.Begin (now_of start entries) ∷ [])) seen.next (p.number + 1) (doing.Open (now_of start entries) [] [] [])
      (record { first = c.stored.opened; within = omega arith; says = refl; ops_are = refl; uses_are = refl; ranges_are = refl; sound = tt })
      (ap (λ ls. ls ++ numbered (p.number + 1) (reply.Begin (now_of start entries) ∷ [])) (idle_lines BeginText c)))
      (refl, refl) refl (inl refl)

  -- a line outside a transaction has its one reply
  lone : (k : Kind) (c : Comes script start entries changed seen name p None doing.No text k lines) (answered : Reply) (level : Level) → Paced (now_of start entries) (now_of start entries) (answered ∷ []) → are_up_to (is_last_of false) (answered ∷ []) ≡ true →
      Goal (record { over = p.over ++ Lone answered ∷ []; number = p.number; level = level; pending = None }) 0 false (told_turn 0 (answered ∷ []) (state p.number level doing.No))
  lone k c answered level paced up_to kept = quiet k None doing.No c (record { over = p.over ++ Lone answered ∷ []; number = p.number; level = level; pending = None }) 0 0 false (answered ∷ []) (state p.number level doing.No) kept
      (idle_after script start entries entries (inl refl) name p c.before c.past (Lone answered) (answered ∷ []) (lines ++ numbered 0 (answered ∷ [])) seen.next p.number level refl
      (ap (λ ls. ls ++ numbered 0 (answered ∷ [])) (idle_lines k c)))
      paced refl (inl up_to)

  -- a transaction was told up to its decision
  ends_with : (t : Transaction) (begin : ℕ) (uses : List GenidItem) (ranges : List Interval) (ops : List RowOp) (front : List Reply) (o : Reply) (added : List (List RowOp)) → IsFrom (base start) begin → begin ≤ now_of start entries → (IsDecided o → Ends t.end (o ∷ [])) →
      front ≡ reply.Begin begin ∷ (alone_at (from_start script start) (view_of (from_start script start) entries) t begin).replies → ops ≡ (alone_at (from_start script start) (view_of (from_start script start) entries) t begin).ops →
      uses ≡ (alone_at (from_start script start) (view_of (from_start script start) entries) t begin).uses → ranges ≡ (alone_at (from_start script start) (view_of (from_start script start) entries) t begin).ranges → Decided script start entries changed seen seen' name t begin uses ranges ops o added →
      IsWhole (from_start script start) (view_of (from_start script start) (entries_after start entries name t.number begin t.level added)) name t (front ++ o ∷ [])
  ends_with t begin uses ranges ops front o added first within ends says are uses_are ranges_are d = record {
    begin = begin;
    base = first.1;
    within = let le = grows_length entries longer grows in omega (arith, le, within);
    ran = its;
    is_ran = refl;
    last = o ∷ [];
    ends = ends d.decided;
    right = (
      subst (λ (used : List Used). RightOver used its.ops) (used_alike t.level its)
          (subst (λ (rs : List Interval). RightOver (used_by t.level its.ops its.uses rs) its.ops) (ranges_are ∙ ap (λ (a : Answered). a.ranges) (sym same))
          (subst (λ (us : List GenidItem). RightOver (used_by t.level its.ops us ranges) its.ops) (uses_are ∙ ap (λ (a : Answered). a.uses) (sym same))
          (subst (λ (x : List RowOp). RightOver (used_by t.level x uses ranges) x) (are ∙ ap (λ (a : Answered). a.ops) (sym same)) d.right))),
      tt,
    );
    says = ap (λ rs. rs ++ o ∷ []) says ∙ ap (λ (a : Answered). reply.Begin begin ∷ (a.replies ++ o ∷ [])) (sym same);
  }
    where
      longer : List EntryLine
      longer = entries_after start entries name t.number begin t.level added

      grows : Grows entries longer
      grows = decided_turn t begin uses ranges ops o added within first d

      its : Answered
      its = alone_at (from_start script start) (view_of (from_start script start) longer) t begin

      -- the outcome is right for what is used and these operations
      RightOver : List Used → List RowOp → Type 0
      RightOver used x = IsRight (from_start script start) (view_of (from_start script start) longer) name t begin used x o

      same : alone_at (from_start script start) (view_of (from_start script start) longer) t begin ≡ alone_at (from_start script start) (view_of (from_start script start) entries) t begin
      same = alone_on script start entries longer t.texts begin grows within

  -- a transaction of one line, by its answer
  abbrev pub own_txn : Transaction
  own_txn = transaction (p.number + 1) (text ∷ []) p.level WithItsLine

  abbrev pub own_outcome : Answered → Reply
  own_outcome a = outcome w (now_of start entries) p.level a.uses a.ranges a.ops

  abbrev pub own_added : Answered → List (List RowOp)
  own_added a = added_by (own_outcome a) a.ops

  abbrev pub own_front : Answered → List Reply
  own_front a = reply.Begin (now_of start entries) ∷ a.replies

  abbrev pub own_entries : Answered → List EntryLine
  own_entries a = entries_after start entries name (p.number + 1) (now_of start entries) p.level (own_added a)

  own_by : (c : Comes script start entries changed seen name p None doing.No text OtherText lines) (a : Answered) → ArePlain a.replies →
      own_front a ≡ reply.Begin (now_of start entries) ∷ (alone_at (from_start script start) (view_of (from_start script start) entries) own_txn (now_of start entries)).replies → a.ops ≡ (alone_at (from_start script start) (view_of (from_start script start) entries) own_txn (now_of start entries)).ops →
      a.uses ≡ (alone_at (from_start script start) (view_of (from_start script start) entries) own_txn (now_of start entries)).uses → a.ranges ≡ (alone_at (from_start script start) (view_of (from_start script start) entries) own_txn (now_of start entries)).ranges →
      Decided script start entries changed seen seen' name own_txn (now_of start entries) a.uses a.ranges a.ops (own_outcome a) (own_added a) →
      Turns script start entries (own_entries a) (changed_after seen changed (own_added a)) seen seen' name (with_own_line p text) lines (p.number + 1) true (own_line w (p.number + 1) p.level a)
  own_by c a plain says are uses_are ranges_are d = record {
    stored = d.stored;
    grows = decided_turn own_txn (now_of start entries) a.uses a.ranges a.ops (own_outcome a) (own_added a) (omega arith) c.stored.opened d;
    next = d.grows;
    stands = idle_after script start entries (own_entries a) (decided_turn own_txn (now_of start entries) a.uses a.ranges a.ops (own_outcome a) (own_added a) (omega arith) c.stored.opened d) name p c.before c.past (Does own_txn) (own_front a ++ own_outcome a ∷ []) (lines ++ numbered (p.number + 1) (own_front a ++ own_outcome a ∷ [])) seen'.next (p.number + 1) p.level
        (inl (ends_with own_txn (now_of start entries) a.uses a.ranges a.ops (own_front a) (own_outcome a) (own_added a) c.stored.opened (omega arith) (λ x. x) says are uses_are ranges_are d))
        (ap (λ ls. ls ++ numbered (p.number + 1) (own_front a ++ own_outcome a ∷ [])) (idle_lines OtherText c));
    paced = (refl, plain_then (now_of start entries) (now_of start (own_entries a)) a.replies (own_outcome a ∷ []) plain d.paced);
    number = refl;
    up_to = inl (up_to_last (is_last_of true) (own_front a) (own_outcome a) (refl, plain_all_quiet a.replies plain) (loud (own_outcome a) d.decided));
    news = news_of own_txn (now_of start entries) a.uses a.ranges a.ops (own_outcome a) (own_added a) (with_own_line p text) (own_line w (p.number + 1) p.level a) refl refl refl (own_front a, [], refl) (omega arith) was_told d;
  }
    where
      was_told : WasTold script start entries name (p.number + 1) (now_of start entries) (own_outcome a) (lines ++ numbered (p.number + 1) (own_front a ++ own_outcome a ∷ []))
      was_told = record {
        transaction = own_txn;
        is_its = c.its own_txn refl refl;
        within = omega arith;
        before = lines;
        says = ap (λ (rs : List Reply). lines ++ numbered (p.number + 1) (rs ++ own_outcome a ∷ [])) says;
      }

  own_is : (c : Comes script start entries changed seen name p None doing.No text OtherText lines) → answer_at w (now_of start entries) [] text ≡ sql_language.answer (script_tables script) (rows_at (from_start script start) entries (now_of start entries)).tables [] text
  own_is c = answer_is OtherText None doing.No c (now_of start entries) c.stored.opened (omega arith) []

  -- its replies before its outcome
  pub own_says : (c : Comes script start entries changed seen name p None doing.No text OtherText lines) →
      own_front (answer_at w (now_of start entries) [] text) ≡ reply.Begin (now_of start entries) ∷ (alone_at (from_start script start) (view_of (from_start script start) entries) own_txn (now_of start entries)).replies
  own_says c = ap (λ (x : Answered). reply.Begin (now_of start entries) ∷ x.replies) (own_is c) ∙ ap (λ rs. reply.Begin (now_of start entries) ∷ rs) (sym (append-nil (sql_language.answer (script_tables script) (rows_at (from_start script start) entries (now_of start entries)).tables [] text).replies))

  own : (c : Comes script start entries changed seen name p None doing.No text OtherText lines) → Goal (next_by p text OtherText None) (number_by p.number OtherText None) true (turn_by w p.number p.level text OtherText doing.No)
  own c kept = own_by c (answer_at w (now_of start entries) [] text) (sql_is_answered.plain (script_tables script) (seen.at (now_of start entries)).tables [] text) (own_says c) are uses_are ranges_are
      (decides script start entries changed seen seen' name own_txn (now_of start entries) (answer_at w (now_of start entries) [] text).uses (answer_at w (now_of start entries) [] text).ranges (answer_at w (now_of start entries) [] text).ops commits kept)
    where
      are : (answer_at w (now_of start entries) [] text).ops ≡ (alone_at (from_start script start) (view_of (from_start script start) entries) own_txn (now_of start entries)).ops
      are = ap (λ (x : Answered). x.ops) (own_is c)

      uses_are : (answer_at w (now_of start entries) [] text).uses ≡ (alone_at (from_start script start) (view_of (from_start script start) entries) own_txn (now_of start entries)).uses
      uses_are = ap (λ (x : Answered). x.uses) (own_is c) ∙ sym (append-nil (sql_language.answer (script_tables script) (rows_at (from_start script start) entries (now_of start entries)).tables [] text).uses)

      ranges_are : (answer_at w (now_of start entries) [] text).ranges ≡ (alone_at (from_start script start) (view_of (from_start script start) entries) own_txn (now_of start entries)).ranges
      ranges_are = ap (λ (x : Answered). x.ranges) (own_is c) ∙ sym (append-nil (sql_language.answer (script_tables script) (rows_at (from_start script start) entries (now_of start entries)).tables [] text).ranges)

      commits : Commits script start entries changed seen name own_txn (now_of start entries) (answer_at w (now_of start entries) [] text).uses (answer_at w (now_of start entries) [] text).ranges (answer_at w (now_of start entries) [] text).ops
      commits = comes_to OtherText None doing.No c own_txn (now_of start entries) (answer_at w (now_of start entries) [] text).uses (answer_at w (now_of start entries) [] text).ranges (answer_at w (now_of start entries) [] text).ops c.stored.opened (omega arith) (c.its own_txn refl refl) are uses_are ranges_are
          (answer_sound OtherText None doing.No c (now_of start entries) c.stored.opened (omega arith) [] tt)
          (none_past name p.number (p.number + 1) None (λ txn le. omega (arith, le)) entries c.entered)

  -- what was told of an open transaction, and one statement more
  module _ (texts : List (List ℕ)) (begin : ℕ) (ops : List RowOp) (uses : List GenidItem) (ranges : List Interval) (k : Kind) (c : Comes script start entries changed seen name p (Some texts) (doing.Open begin ops uses ranges) text k lines) where
    more_open : IsOpen script start entries seen.next (texts ++ text ∷ []) begin (answer_at w begin ops text).ops (uses ++ (answer_at w begin ops text).uses) (ranges ++ (answer_at w begin ops text).ranges) (c.mine ++ (answer_at w begin ops text).replies)
    more_open = record {
      first = c.doing.first;
      within = c.doing.within;
      says = ap (λ rs. rs ++ (answer_at w begin ops text).replies) c.doing.says
          ∙ ap (λ (a : Answered). reply.Begin begin ∷ ((alone sql_language (script_tables script) (rows_at (from_start script start) entries begin) texts).replies ++ a.replies)) its
          ∙ ap (λ rs. reply.Begin begin ∷ rs) (sym (replies_more sql_language (script_tables script) (rows_at (from_start script start) entries begin).tables [] texts text));
      ops_are = ap (λ (a : Answered). a.ops) its ∙ sym (ops_more sql_language (script_tables script) (rows_at (from_start script start) entries begin).tables [] texts text);
      uses_are = ap (λ (us : List GenidItem). us ++ (answer_at w begin ops text).uses) c.doing.uses_are
          ∙ ap (λ (a : Answered). (alone sql_language (script_tables script) (rows_at (from_start script start) entries begin) texts).uses ++ a.uses) its
          ∙ sym (uses_more sql_language (script_tables script) (rows_at (from_start script start) entries begin).tables [] texts text);
      ranges_are = ap (λ (rs : List Interval). rs ++ (answer_at w begin ops text).ranges) c.doing.ranges_are
          ∙ ap (λ (a : Answered). (alone sql_language (script_tables script) (rows_at (from_start script start) entries begin) texts).ranges ++ a.ranges) its
          ∙ sym (ranges_more sql_language (script_tables script) (rows_at (from_start script start) entries begin).tables [] texts text);
      sound = answer_sound k (Some texts) (doing.Open begin ops uses ranges) c begin c.doing.first c.doing.within ops c.doing.sound;
    }
      where
        its : answer_at w begin ops text ≡ sql_language.answer (script_tables script) (rows_at (from_start script start) entries begin).tables (alone sql_language (script_tables script) (rows_at (from_start script start) entries begin) texts).ops text
        its = answer_is k (Some texts) (doing.Open begin ops uses ranges) c begin c.doing.first c.doing.within ops
            ∙ ap (λ (o : List RowOp). sql_language.answer (script_tables script) (rows_at (from_start script start) entries begin).tables o text) c.doing.ops_are

    goes : Goal (with_open p (Some (texts ++ text ∷ [])) p.number) p.number false (goes_on p.number p.level begin uses ranges (answer_at w begin ops text))
    goes kept = quiet k (Some texts) (doing.Open begin ops uses ranges) c (with_open p (Some (texts ++ text ∷ [])) p.number) p.number p.number false (answer_at w begin ops text).replies (state p.number p.level (doing.Open begin (answer_at w begin ops text).ops (uses ++ (answer_at w begin ops text).uses) (ranges ++ (answer_at w begin ops text).ranges))) kept
        (in_transaction script start entries entries (inl refl) name p c.before c.past (texts ++ text ∷ []) (c.mine ++ (answer_at w begin ops text).replies) (lines ++ numbered p.number (answer_at w begin ops text).replies) seen.next p.number (doing.Open begin (answer_at w begin ops text).ops (uses ++ (answer_at w begin ops text).uses) (ranges ++ (answer_at w begin ops text).ranges))
        more_open (piece lines c.before p.number c.mine (answer_at w begin ops text).replies c.is))
        (plain_paced (now_of start entries) (answer_at w begin ops text).replies (sql_is_answered.plain (script_tables script) (seen.at begin).tables ops text)) refl (inl (sql_is_answered.closed (script_tables script) (seen.at begin).tables ops text))

    rolled : Goal (closed p texts ByRollback) p.number false (told_turn p.number (reply.RolledBack ∷ []) (state p.number p.level doing.No))
    rolled kept = quiet k (Some texts) (doing.Open begin ops uses ranges) c (closed p texts ByRollback) p.number p.number false (reply.RolledBack ∷ []) (state p.number p.level doing.No) kept
        (idle_after script start entries entries (inl refl) name p c.before c.past (Does (transaction p.number texts p.level ByRollback)) (c.mine ++ reply.RolledBack ∷ []) (lines ++ numbered p.number (reply.RolledBack ∷ [])) seen.next p.number p.level
        (inl (record { begin = begin; base = c.doing.first.1; within = (let w = c.doing.within in omega (arith, w)); ran = alone_at (from_start script start) (view_of (from_start script start) entries) (transaction p.number texts p.level ByRollback) begin; is_ran = refl; last = reply.RolledBack ∷ []; ends = refl; right = (refl, tt); says = ap (λ rs. rs ++ reply.RolledBack ∷ []) c.doing.says }))
        (piece lines c.before p.number c.mine (reply.RolledBack ∷ []) c.is))
        refl refl (inl refl)

    abbrev pub ending : Transaction
    ending = transaction p.number texts p.level ByCommit

    abbrev pub last : Reply
    last = outcome w begin p.level uses ranges ops

    commits_by : transaction_of sql_language name p.number script.body ≡ Some ending → Decided script start entries changed seen seen' name ending begin uses ranges ops last (added_by last ops) →
        Turns script start entries (entries_after start entries name p.number begin p.level (added_by last ops)) (changed_after seen changed (added_by last ops)) seen seen' name (closed p texts ByCommit) lines p.number false (committed w p.number p.level begin uses ranges ops)
    commits_by its d = record {
      stored = d.stored;
      grows = decided_turn ending begin uses ranges ops last (added_by last ops) c.doing.within c.doing.first d;
      next = d.grows;
      stands = idle_after script start entries (entries_after start entries name p.number begin p.level (added_by last ops)) (decided_turn ending begin uses ranges ops last (added_by last ops) c.doing.within c.doing.first d) name p c.before c.past (Does ending) (c.mine ++ last ∷ []) (lines ++ numbered p.number (last ∷ [])) seen'.next p.number p.level
          (inl (ends_with ending begin uses ranges ops c.mine last (added_by last ops) c.doing.first c.doing.within (λ x. x) c.doing.says c.doing.ops_are c.doing.uses_are c.doing.ranges_are d))
          (piece lines c.before p.number c.mine (last ∷ []) c.is);
      paced = d.paced;
      number = refl;
      up_to = inl (up_to_one (is_last_of false) last (no_row last d.decided));
      news = news_of ending begin uses ranges ops last (added_by last ops) (closed p texts ByCommit) (committed w p.number p.level begin uses ranges ops) refl refl refl ([], [], refl) (omega arith) was_told d;
    }
      where
        was_told : WasTold script start entries name p.number begin last (lines ++ numbered p.number (last ∷ []))
        was_told = record {
          transaction = ending;
          is_its = its;
          within = c.doing.within;
          before = c.before;
          says = piece lines c.before p.number c.mine (last ∷ []) c.is ∙ ap (λ (rs : List Reply). c.before ++ numbered p.number (rs ++ last ∷ [])) c.doing.says;
        }

  comes_to_commit : (texts : List (List ℕ)) (begin : ℕ) (ops : List RowOp) (uses : List GenidItem) (ranges : List Interval) (c : Comes script start entries changed seen name p (Some texts) (doing.Open begin ops uses ranges) text CommitText lines) → Goal (closed p texts ByCommit) p.number false (committed w p.number p.level begin uses ranges ops)
  comes_to_commit texts begin ops uses ranges c kept = commits_by texts begin ops uses ranges CommitText c (c.its (transaction p.number texts p.level ByCommit) refl refl)
      (decides script start entries changed seen seen' name (transaction p.number texts p.level ByCommit) begin uses ranges ops
      (comes_to CommitText (Some texts) (doing.Open begin ops uses ranges) c (transaction p.number texts p.level ByCommit) begin uses ranges ops c.doing.first c.doing.within (c.its (transaction p.number texts p.level ByCommit) refl refl) c.doing.ops_are c.doing.uses_are c.doing.ranges_are c.doing.sound
      (none_past name p.number p.number (Some texts) (λ txn less. less) entries c.entered)) kept)

  -- lines of a transaction that want of memory ended are skipped
  module _ (texts : List (List ℕ)) (k : Kind) (c : Comes script start entries changed seen name p (Some texts) doing.Aborted text k lines) where
    skipped_lines : lines ++ numbered p.number [] ≡ c.before ++ numbered p.number c.mine
    skipped_lines = append-nil lines ∙ c.is

    more_cut : IsCut (from_start script start) (view_of (from_start script start) entries) (transaction p.number (texts ++ text ∷ []) p.level Nowhere) c.mine
    more_cut = record {
      begin = c.doing.begin;
      base = c.doing.base;
      within = c.doing.within;
      ran = alone_at (from_start script start) (view_of (from_start script start) entries) (transaction p.number (texts ++ text ∷ []) p.level Nowhere) c.doing.begin;
      is_ran = refl;
      front = c.doing.front;
      rest = c.doing.rest ++ more;
      cause = c.doing.cause;
      is_cause = c.doing.is_cause;
      may = may_later Nowhere c.doing.ran.ops _ c.doing.front c.doing.rest (c.doing.rest ++ more) c.doing.cause c.doing.may;
      fits = sym (append_assoc c.doing.front c.doing.rest more) ∙ ap (λ rs. rs ++ more) c.doing.fits
          ∙ ap (λ (a : Answered). (reply.Begin c.doing.begin ∷ a.replies) ++ more) c.doing.is_ran
          ∙ ap (λ rs. reply.Begin c.doing.begin ∷ rs) (sym (replies_more sql_language (script_tables script) (rows_at (from_start script start) entries c.doing.begin).tables [] texts text));
      says = c.doing.says;
    }
      where
        more : List Reply
        more = (sql_language.answer (script_tables script) (rows_at (from_start script start) entries c.doing.begin).tables (alone sql_language (script_tables script) (rows_at (from_start script start) entries c.doing.begin) texts).ops text).replies

    pub cut_before : WasCutUnder lines p.number
    cut_before = (
      c.doing.cause,
      c.doing.is_cause,
      (
        c.before ++ numbered p.number c.doing.front,
        [],
        c.is ∙ ap (λ (rs : List Reply). c.before ++ numbered p.number rs) c.doing.says ∙ ap (λ (ls : List Numbered). c.before ++ ls) (numbered_append p.number c.doing.front (c.doing.cause ∷ []))
            ∙ sym (append_assoc c.before (numbered p.number c.doing.front) (numbered p.number (c.doing.cause ∷ []))),
      ),
    )

    skips : Goal (with_open p (Some (texts ++ text ∷ [])) p.number) p.number false (told_turn p.number [] (state p.number p.level doing.Aborted))
    skips kept = quiet k (Some texts) doing.Aborted c (with_open p (Some (texts ++ text ∷ [])) p.number) p.number p.number false [] (state p.number p.level doing.Aborted) kept
        (in_transaction script start entries entries (inl refl) name p c.before c.past (texts ++ text ∷ []) c.mine (lines ++ numbered p.number []) seen.next p.number doing.Aborted more_cut skipped_lines)
        refl refl (inr (refl, cut_before))

    skips_end : (end : End) → Goal (closed p texts end) p.number false (told_turn p.number [] (state p.number p.level doing.No))
    skips_end end kept = quiet k (Some texts) doing.Aborted c (closed p texts end) p.number p.number false [] (state p.number p.level doing.No) kept
        (idle_after script start entries entries (inl refl) name p c.before c.past (Does (transaction p.number texts p.level end)) c.mine (lines ++ numbered p.number []) seen.next p.number p.level
        (inr (record { begin = c.doing.begin; base = c.doing.base; within = c.doing.within; ran = c.doing.ran; is_ran = c.doing.is_ran; front = c.doing.front; rest = c.doing.rest; fits = c.doing.fits; cause = c.doing.cause; is_cause = c.doing.is_cause; may = may_later end c.doing.ran.ops c.doing.ran.ops c.doing.front c.doing.rest c.doing.rest c.doing.cause c.doing.may; says = c.doing.says })) skipped_lines)
        refl refl (inr (refl, cut_before))

  -- whatever the line is, and wherever the session is
  pub turns : (k : Kind) (pending : Option (List (List ℕ))) (what : Doing) → Comes script start entries changed seen name p pending what text k lines →
      Goal (next_by p text k pending) (number_by p.number k pending) (is_own_by k pending) (turn_by w p.number p.level text k what)
  turns BeginText None doing.No c = begun c
  turns CommitText None doing.No c = lone CommitText c (reply.Error State) p.level refl refl
  turns RollbackText None doing.No c = lone RollbackText c (reply.Error State) p.level refl refl
  turns (LevelText later) None doing.No c = lone (LevelText later) c (reply.Level later) later refl refl
  turns OtherText None doing.No c = own c
  turns BeginText (Some texts) (doing.Open begin ops uses ranges) c = goes texts begin ops uses ranges BeginText c
  turns CommitText (Some texts) (doing.Open begin ops uses ranges) c = comes_to_commit texts begin ops uses ranges c
  turns RollbackText (Some texts) (doing.Open begin ops uses ranges) c = rolled texts begin ops uses ranges RollbackText c
  turns (LevelText later) (Some texts) (doing.Open begin ops uses ranges) c = goes texts begin ops uses ranges (LevelText later) c
  turns OtherText (Some texts) (doing.Open begin ops uses ranges) c = goes texts begin ops uses ranges OtherText c
  turns BeginText (Some texts) doing.Aborted c = skips texts BeginText c
  turns CommitText (Some texts) doing.Aborted c = skips_end texts CommitText c ByCommit
  turns RollbackText (Some texts) doing.Aborted c = skips_end texts RollbackText c ByRollback
  turns (LevelText later) (Some texts) doing.Aborted c = skips texts (LevelText later) c
  turns OtherText (Some texts) doing.Aborted c = skips texts OtherText c
  turns k None (doing.Open begin ops uses ranges) c = absurd c.doing
  turns k None doing.Aborted c = absurd c.doing
  turns k (Some texts) doing.No c = absurd c.doing
