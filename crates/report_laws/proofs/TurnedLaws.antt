-- What a session is told at a line is determined by what stands before it: the step to the law of one report.
use Rattle.std.proofs.Common.{◌≡◌, ℕ, ◌+◌, ◌<◌, ◌≤◌, List, [], ◌∷◌, ◌++◌, length, refl, sym, subst, ap, arith, ◌∙◌, Option, Some, None, ◌⊎◌, inl, inr, Bool, true, false, append_assoc}
use Rattle.std.proofs.lemmas.List.{append-nil, append_cancel_left}
use Rattle.std.specs.List.{AllByRecursion}
use Rattle.cdb_values.specs.Rows.{Rows}
use Rattle.cdb_values.specs.declared.rows.Level.{Level}
use Rattle.cdb_values.specs.declared.rows.Version.{Version}
use Rattle.cdb_values.specs.declared.rows.StatementError.TheVariants.{State}
use Rattle.session_language.specs.Language.{Answered, alone_from, Kind, BeginText, CommitText, RollbackText, LevelText, OtherText}
use Rattle.session_language.specs.Answers.{Answers}
use Rattle.report_laws.specs.Cut.{cuts}
use Rattle.session_language.specs.Each.{StandsIn}
use Rattle.report_laws.specs.History.{Basis, alone_on, rows_at, entry_at, last_position, view_of}
use Rattle.report_laws.specs.One.{IsUncutLine}
use Rattle.report_laws.specs.Outcome.{IsRight, IsDecided, IsOneDecision, Ends}
use Rattle.report_laws.specs.Play.{IsTurn, was_cut, IsTimely, IsAppended, number_by, is_own_by}
use Rattle.session_language.specs.Replies.{is_last_of, is_outcome, are_up_to}
use Rattle.report_laws.specs.Told.{IsTold, IsWhole, alone_at}
use Rattle.report_laws.specs.Work.{Transaction, WorkItem, Does, Lone, Place, ByCommit, ByRollback, WithItsLine, transaction, with_open, next_by, transaction_of}
use Rattle.report_text.specs.declared.reports.EntryLine.{EntryLine}
use Rattle.session_language.specs.Touched.{used_at}
use Rattle.report_text.specs.declared.reports.EntryLine.TheVariants.{Commit}
use Rattle.report_text.specs.declared.reports.Line.{Line}
use Rattle.cdb_values.specs.declared.replies.Reply.{Reply}
use Rattle.cdb_values.specs.declared.replies.Reply.TheVariants as reply
use Rattle.session_language.proofs.AnswerLaws.{replies_append}
use Rattle.report_laws.proofs.DecideLemmas.{Decides, IsOutcomes, one_decision, decided}
use Rattle.report_laws.proofs.FrontLemmas.{rows_front}
use Rattle.report_laws.proofs.GrowLaws.{first_begin}
use Rattle.report_laws.proofs.PieceLaws.{never_cut, one_of_one, plain_all_quiet, commit_is_last, no_commit, under, are_uncut, all_at}
use Rattle.session_language.proofs.UpToLaws.{up_to_same, up_to_last, up_to_one}
use Rattle.report_laws.proofs.PlainLaws.{plain_alone}
use Rattle.report_laws.proofs.RestLemmas.{over_by, rest_of, rest_opened, IsOpened, lones}
use Rattle.report_laws.proofs.WorkLaws.{first_left}

module _ (basis : Basis) (history : List EntryLine) where
  abbrev pub moment : ℕ
  moment = last_position basis.origin history

  -- texts run alone on the rows at a position
  abbrev pub alone_of : ℕ → List (List ℕ) → Answered
  alone_of begin texts = alone_on basis (rows_at basis history begin) texts

  -- the open transaction, if one is, was told so, and began there
  abbrev pub IsGoing : Option (List (List ℕ)) → List Reply → Type 0
  IsGoing None mine = Unit {0}
  IsGoing (Some texts) mine = (begin : ℕ) × (basis.origin.position ≤ begin) × (begin ≤ moment) × (mine ≡ reply.Begin begin ∷ (alone_of begin texts).replies)

  abbrev pub begun_at : (pending : Option (List (List ℕ))) (mine : List Reply) → IsGoing pending mine → ℕ
  begun_at None mine is = 0
  begun_at (Some texts) mine is = is.0

  -- a transaction ends: behind these replies it is told the decision of that moment
  pub record IsEnding (name : List ℕ) (t : Transaction) (begin : ℕ) (front replies : List Reply) (added : List EntryLine) : Type 0 where
    pub outcome : Reply
    pub says : replies ≡ front ++ outcome ∷ []
    pub decides : Decides basis history name t begin (used_at t.level (alone_of begin t.texts)) (alone_of begin t.texts).ops outcome added

  -- what a line tells and appends, by its kind and the open transaction
  abbrev pub Turned : List ℕ → Place → List ℕ → Kind → Option (List (List ℕ)) → ℕ → List Reply → List EntryLine → Type 0
  Turned name p text BeginText None begin replies added = (replies ≡ reply.Begin moment ∷ []) × (added ≡ [])
  Turned name p text CommitText None begin replies added = (replies ≡ reply.Error State ∷ []) × (added ≡ [])
  Turned name p text RollbackText None begin replies added = (replies ≡ reply.Error State ∷ []) × (added ≡ [])
  Turned name p text (LevelText level) None begin replies added = (replies ≡ reply.Level level ∷ []) × (added ≡ [])
  Turned name p text OtherText None begin replies added =
      IsEnding name (transaction (p.number + 1) (text ∷ []) p.level WithItsLine) moment (reply.Begin moment ∷ (alone_of moment (text ∷ [])).replies) replies added
  Turned name p text BeginText (Some texts) begin replies added =
      (replies ≡ (basis.language.answer basis.origin.tables (rows_at basis history begin).tables (alone_of begin texts).ops text).replies) × (added ≡ [])
  Turned name p text CommitText (Some texts) begin replies added = IsEnding name (transaction p.number texts p.level ByCommit) begin [] replies added
  Turned name p text RollbackText (Some texts) begin replies added = (replies ≡ reply.RolledBack ∷ []) × (added ≡ [])
  Turned name p text (LevelText level) (Some texts) begin replies added =
      (replies ≡ (basis.language.answer basis.origin.tables (rows_at basis history begin).tables (alone_of begin texts).ops text).replies) × (added ≡ [])
  Turned name p text OtherText (Some texts) begin replies added =
      (replies ≡ (basis.language.answer basis.origin.tables (rows_at basis history begin).tables (alone_of begin texts).ops text).replies) × (added ≡ [])

  one_ending : (name : List ℕ) (t : Transaction) (begin : ℕ) (front replies replies' : List Reply) (added added' : List EntryLine) →
      IsEnding name t begin front replies added → IsEnding name t begin front replies' added' → (replies ≡ replies') × (added ≡ added')
  one_ending name t begin front replies replies' added added' is is' =
      let same : (is.outcome ≡ is'.outcome) × (added ≡ added') =
      one_decision basis history name t begin (used_at t.level (alone_of begin t.texts)) (alone_of begin t.texts).ops is.outcome is'.outcome added added' is.decides is'.decides in
      (is.says ∙ ap (λ (o : Reply). front ++ o ∷ []) same.0 ∙ sym is'.says, same.1)

  told_same : (told replies replies' : List Reply) (added added' : List EntryLine) → (replies ≡ told) × (added ≡ []) → (replies' ≡ told) × (added' ≡ []) → (replies ≡ replies') × (added ≡ added')
  told_same told replies replies' added added' is is' = (is.0 ∙ sym is'.0, is.1 ∙ sym is'.1)

  -- there is one such turn
  pub one_turn : (name : List ℕ) (p : Place) (text : List ℕ) (k : Kind) (pending : Option (List (List ℕ))) (begin : ℕ) (replies replies' : List Reply) (added added' : List EntryLine) →
      Turned name p text k pending begin replies added → Turned name p text k pending begin replies' added' → (replies ≡ replies') × (added ≡ added')
  one_turn name p text BeginText None begin replies replies' added added' is is' = told_same _ replies replies' added added' is is'
  one_turn name p text CommitText None begin replies replies' added added' is is' = told_same _ replies replies' added added' is is'
  one_turn name p text RollbackText None begin replies replies' added added' is is' = told_same _ replies replies' added added' is is'
  one_turn name p text (LevelText level) None begin replies replies' added added' is is' = told_same _ replies replies' added added' is is'
  one_turn name p text OtherText None begin replies replies' added added' is is' = one_ending name _ _ _ replies replies' added added' is is'
  one_turn name p text BeginText (Some texts) begin replies replies' added added' is is' = told_same _ replies replies' added added' is is'
  one_turn name p text CommitText (Some texts) begin replies replies' added added' is is' = one_ending name _ _ _ replies replies' added added' is is'
  one_turn name p text RollbackText (Some texts) begin replies replies' added added' is is' = told_same _ replies replies' added added' is is'
  one_turn name p text (LevelText level) (Some texts) begin replies replies' added added' is is' = told_same _ replies replies' added added' is is'
  one_turn name p text OtherText (Some texts) begin replies replies' added added' is is' = told_same _ replies replies' added added' is is'

is_uncut : (b : Bool) → b ≡ true → b ≡ false → ⊥
is_uncut b cut uncut = cc

-- a transaction that was not cut short is told whole
whole_told : (basis : Basis) (entries : List EntryLine) (name : List ℕ) (t : Transaction) (mine : List Reply) → IsTold basis (view_of basis entries) name (Does t) mine → AllByRecursion (λ r. cuts r ≡ false) mine → IsWhole basis (view_of basis entries) name t mine
whole_told basis entries name t mine (inl is) uncut = is
whole_told basis entries name t mine (inr is) uncut = absurd (is_uncut (cuts is.cause) is.is_cause (all_at (λ r. cuts r ≡ false) mine is.cause uncut (is.front, [], is.says)))

one_decided : (last : List Reply) → IsOneDecision last → (o : Reply) × (last ≡ o ∷ []) × IsDecided o
one_decided [] is = absurd is
one_decided (o ∷ []) is = (o, refl, is)
one_decided (_ ∷ _ ∷ _) is = absurd is

pub loud : (o : Reply) → IsDecided o → is_outcome o ≡ true
loud (reply.Begin position) is = absurd is
loud (reply.Row row) is = absurd is
loud (reply.Done rows) is = absurd is
loud (reply.Changed rows) is = absurd is
loud (reply.Error cause) is = absurd is
loud (reply.Level level) is = absurd is
loud reply.RolledBack is = absurd is
loud (reply.Committed position) is = refl
loud (reply.ConflictGenid position table genid) is = refl
loud (reply.ConflictRange position table key) is = refl
loud (reply.Duplicate position table key) is = refl
loud (reply.Lost node down) is = absurd is
loud (reply.NoMajority up nodes) is = absurd is
loud reply.NoMemory is = absurd is

-- a decision is no row
pub no_row : (o : Reply) → IsDecided o → is_last_of false o ≡ true
no_row (reply.Begin position) is = absurd is
no_row (reply.Row row) is = absurd is
no_row (reply.Done rows) is = absurd is
no_row (reply.Changed rows) is = absurd is
no_row (reply.Error cause) is = absurd is
no_row (reply.Level level) is = absurd is
no_row reply.RolledBack is = absurd is
no_row (reply.Committed position) is = refl
no_row (reply.ConflictGenid position table genid) is = refl
no_row (reply.ConflictRange position table key) is = refl
no_row (reply.Duplicate position table key) is = refl
no_row (reply.Lost node down) is = absurd is
no_row (reply.NoMajority up nodes) is = absurd is
no_row reply.NoMemory is = absurd is

-- the entries of a turn are those of its last reply
appended_by : (now : ℕ) (name : List ℕ) (number : ℕ) (replies front : List Reply) (o : Reply) (added : List EntryLine) → replies ≡ front ++ o ∷ [] → AllByRecursion (λ r. is_outcome r ≡ false) front →
    IsAppended now name number replies added → IsOutcomes now name number o added
appended_by now name number replies front o [] says quiet is = inl refl
appended_by now name number replies front o (e ∷ es) says quiet (none, begin, level, at, stands) =
    inr (begin, level, ap (λ (rest : List EntryLine). e ∷ rest) none ∙ ap (λ (d : EntryLine). d ∷ []) at, commit_is_last front o (now + 1) quiet (subst (λ (rs : List Reply). StandsIn rs (reply.Committed (now + 1))) says stands))

-- and there are none where that is no commit
appended_none : (now : ℕ) (name : List ℕ) (number : ℕ) (o : Reply) (added : List EntryLine) → (o ≡ reply.Committed (now + 1) → ⊥) → IsOutcomes now name number o added → added ≡ []
appended_none now name number o added other (inl none) = none
appended_none now name number o added other (inr (begin, level, at, tells)) = absurd (other tells)

-- or where no reply is an outcome
appended_quiet : (now : ℕ) (name : List ℕ) (number : ℕ) (replies : List Reply) (added : List EntryLine) → AllByRecursion (λ r. is_outcome r ≡ false) replies → IsAppended now name number replies added → added ≡ []
appended_quiet now name number replies [] quiet is = refl
appended_quiet now name number replies (e ∷ es) quiet (none, begin, level, at, stands) = absurd (no_commit replies (now + 1) quiet stands)

module _ (basis : Basis) (history added later : List EntryLine) (lines before others : List Line) (name : List ℕ) (p : Place) (text : List ℕ) (said : List (List ℕ)) (replies : List Reply) where
  abbrev whole : List EntryLine
  whole = history ++ (added ++ later)

  abbrev rest_by : Kind → Option (List (List ℕ)) → List WorkItem
  rest_by k pending = over_by p.number p.level text k pending ++ rest_of basis.language (next_by p text k pending) said

  -- what a report gives at a line, of a kind and with an open transaction or none
  pub record Given (k : Kind) (pending : Option (List (List ℕ))) : Type 0 where
    pub turn : IsTurn (moment basis history) before name (number_by p.number k pending) (is_own_by k pending) replies added
    pub told : (t : Transaction) (items : List WorkItem) → first_left p.number pending ≤ t.number → rest_by k pending ≡ Does t ∷ items →
        IsTold basis (view_of basis whole) name (Does t) (under name t.number lines) × (transaction_of basis.language name t.number basis.script.body ≡ Some t)
    pub lone : (answer : Reply) (items : List WorkItem) → rest_by k pending ≡ Lone answer ∷ items → under name 0 lines ≡ lones p.over ++ answer ∷ lones items
    pub is_new : (txn : ℕ) → first_left p.number pending ≤ txn → (at : ℕ) (begin : ℕ) (level : Level) → entry_at basis.origin history at ≡ Some (Commit at name txn begin level) → ⊥
    pub mine : under name (number_by p.number k pending) lines ≡ under name (number_by p.number k pending) before ++ (replies ++ under name (number_by p.number k pending) others)
    pub unsaid : (n : ℕ) → p.number < n → under name n before ≡ []
    pub outside : under name 0 before ≡ lones p.over
    pub going : IsGoing basis history pending (under name p.number before)
    pub memory : AllByRecursion IsUncutLine lines
    pub memory_before : AllByRecursion IsUncutLine before
    pub answers : Answers basis.language

  abbrev Turns : Kind → Option (List (List ℕ)) → ℕ → Type 0
  Turns k pending begin = Turned basis history name p text k pending begin replies added

  up_to : (k : Kind) (pending : Option (List (List ℕ))) → Given k pending → are_up_to (is_last_of (is_own_by k pending)) replies ≡ true
  up_to k pending g = go g.turn.told
    where
      go : (are_up_to (is_last_of (is_own_by k pending)) replies ≡ true) ⊎ ((replies ≡ []) × (was_cut before name (number_by p.number k pending) ≡ true)) → are_up_to (is_last_of (is_own_by k pending)) replies ≡ true
      go (inl ends) = ends
      go (inr (none, cut)) = absurd (is_uncut (was_cut before name (number_by p.number k pending)) cut (never_cut before name (number_by p.number k pending) g.memory_before))

  -- outside a transaction, under a new number, a session is told this alone
  only_mine : (k : Kind) (pending : Option (List (List ℕ))) (g : Given k pending) → p.number < number_by p.number k pending →
      under name (number_by p.number k pending) lines ≡ replies ++ under name (number_by p.number k pending) others
  only_mine k pending g new = g.mine ∙ ap (λ (front : List Reply). front ++ (replies ++ under name (number_by p.number k pending) others)) (g.unsaid _ new)

  whole_of : (k : Kind) (pending : Option (List (List ℕ))) (g : Given k pending) (t : Transaction) (items : List WorkItem) → first_left p.number pending ≤ t.number → rest_by k pending ≡ Does t ∷ items → IsWhole basis (view_of basis whole) name t (under name t.number lines)
  whole_of k pending g t items le is = whole_told basis whole name t (under name t.number lines) (g.told t items le is).0 (are_uncut name t.number lines g.memory)

  -- what a transaction that is told whole is told
  whole_says : (t : Transaction) (mine : List Reply) (w : IsWhole basis (view_of basis whole) name t mine) → mine ≡ reply.Begin w.begin ∷ ((alone_at basis (view_of basis whole) t w.begin).replies ++ w.last)
  whole_says t mine w = w.says ∙ ap (λ (a : Answered). reply.Begin w.begin ∷ (a.replies ++ w.last)) w.is_ran

  -- and its outcome is right at its begin
  abbrev IsRightAt : Transaction → ℕ → Reply → Type 0
  IsRightAt t begin o = IsRight basis (view_of basis whole) name t begin (used_at t.level (alone_at basis (view_of basis whole) t begin)) (alone_at basis (view_of basis whole) t begin).ops o

  right_at : (t : Transaction) (mine : List Reply) (w : IsWhole basis (view_of basis whole) name t mine) (begin : ℕ) (o : Reply) → w.begin ≡ begin → w.last ≡ o ∷ [] → IsRightAt t begin o
  right_at t mine w begin o at last =
      subst (λ b. IsRightAt t b o) at
      (subst (λ (a : Answered). IsRight basis (view_of basis whole) name t w.begin (used_at t.level a) a.ops o) w.is_ran
      (subst (λ (os : List Reply). AllByRecursion (IsRight basis (view_of basis whole) name t w.begin (used_at t.level w.ran) w.ran.ops) os) last w.right).0)

  -- a line outside transactions is answered by its one reply
  lone_case : (k : Kind) (pending : Option (List (List ℕ))) (g : Given k pending) (answer : Reply) (items : List WorkItem) → number_by p.number k pending ≡ 0 → is_own_by k pending ≡ false →
      rest_by k pending ≡ Lone answer ∷ items → is_last_of false answer ≡ true → is_outcome answer ≡ false → (replies ≡ answer ∷ []) × (added ≡ [])
  lone_case k pending g answer items number own is last quiet = (same, appended_quiet _ name _ replies added (subst (λ (rs : List Reply). AllByRecursion (λ r. is_outcome r ≡ false) rs) (sym same) (quiet, tt)) g.turn.appended)
    where
      both : lones p.over ++ (replies ++ under name 0 others) ≡ lones p.over ++ answer ∷ lones items
      both = ap (λ (front : List Reply). front ++ (replies ++ under name 0 others)) (sym g.outside)
          ∙ sym (subst (λ n. under name n lines ≡ under name n before ++ (replies ++ under name n others)) number g.mine)
          ∙ g.lone answer items is

      same : replies ≡ answer ∷ []
      same = up_to_same (is_last_of false) replies (answer ∷ []) (under name 0 others) (lones items)
          (subst (λ b. are_up_to (is_last_of b) replies ≡ true) own (up_to k pending g))
          (up_to_one (is_last_of false) answer last)
          (append_cancel_left (lones p.over) _ _ both)

  -- a line that opens a transaction is told its begin
  begin_case : Given BeginText None → Turns BeginText None 0
  begin_case g = (same ∙ ap (λ b. reply.Begin b ∷ []) at, appended_quiet _ name _ replies added (subst (λ (rs : List Reply). AllByRecursion (λ r. is_outcome r ≡ false) rs) (sym same) (refl, tt)) g.turn.appended)
    where
      opened : IsOpened (with_open p (Some []) (p.number + 1)) [] (rest_of basis.language (with_open p (Some []) (p.number + 1)) said)
      opened = rest_opened basis.language (with_open p (Some []) (p.number + 1)) [] said refl

      w : IsWhole basis (view_of basis whole) name (transaction (p.number + 1) ([] ++ opened.0) p.level opened.1) (under name (p.number + 1) lines)
      w = whole_of BeginText None g (transaction (p.number + 1) ([] ++ opened.0) p.level opened.1) opened.2 (omega arith) opened.3

      same : replies ≡ reply.Begin w.begin ∷ []
      same = up_to_same (is_last_of false) replies (reply.Begin w.begin ∷ []) _ _ (up_to BeginText None g) refl (sym (only_mine BeginText None g (omega arith)) ∙ w.says)

      at : w.begin ≡ moment basis history
      at = (subst (λ (rs : List Reply). AllByRecursion (IsTimely (moment basis history) (moment basis history + length added)) rs) same g.turn.timely).0

  -- what ends a transaction at this line is the decision of its moment
  ending : (k : Kind) (pending : Option (List (List ℕ))) (g : Given k pending) (t : Transaction) (items : List WorkItem) (begin : ℕ) (o : Reply) (front : List Reply) →
      first_left p.number pending ≤ t.number → rest_by k pending ≡ Does t ∷ items → number_by p.number k pending ≡ t.number →
      basis.origin.position ≤ begin → begin ≤ moment basis history → IsDecided o → IsRightAt t begin o →
      replies ≡ front ++ o ∷ [] → AllByRecursion (λ r. is_outcome r ≡ false) front →
      Decides basis history name t begin (used_at t.level (alone_of basis history begin t.texts)) (alone_of basis history begin t.texts).ops o added
  ending k pending g t items begin o front le is number base begun ends right says quiet =
      decided basis history added later name t begin (used_at t.level (alone_of basis history begin t.texts)) base begun (g.told t items le is).1 (λ at level. g.is_new t.number le at begin level) o ends
      (all_at (IsTimely (moment basis history) (moment basis history + length added)) replies o g.turn.timely (front, [], says))
      (appended_by (moment basis history) name t.number replies front o added says quiet (subst (λ n. IsAppended (moment basis history) name n replies added) number g.turn.appended))
      (subst (λ (a : Answered). IsRight basis (view_of basis whole) name t begin (used_at t.level a) a.ops o) same right)
    where
      same : alone_at basis (view_of basis whole) t begin ≡ alone_of basis history begin t.texts
      same = ap (λ (rows : Rows). alone_on basis rows t.texts) (rows_front basis history (added ++ later) begin begun)

  -- a line that is a transaction of its own is told all of it
  own_case : Given OtherText None → Turns OtherText None 0
  own_case g = record { outcome = o; says = says; decides = ending OtherText None g t _ now o (reply.Begin now ∷ (alone_of basis history now t.texts).replies) (omega arith) refl refl (omega arith) (omega arith) one.2 (right_at t _ w now o at one.1) says (refl, quiet) }
    where
      now : ℕ
      now = moment basis history

      t : Transaction
      t = transaction (p.number + 1) (text ∷ []) p.level WithItsLine

      w : IsWhole basis (view_of basis whole) name t (under name (p.number + 1) lines)
      w = whole_of OtherText None g t _ (omega arith) refl

      one : (o : Reply) × (w.last ≡ o ∷ []) × IsDecided o
      one = one_decided w.last w.ends

      o : Reply
      o = one.0

      first : under name (p.number + 1) lines ≡ reply.Begin w.begin ∷ ((alone_at basis (view_of basis whole) t w.begin).replies ++ o ∷ [])
      first = whole_says t _ w ∙ ap (λ (last : List Reply). reply.Begin w.begin ∷ ((alone_at basis (view_of basis whole) t w.begin).replies ++ last)) one.1

      same : replies ≡ reply.Begin w.begin ∷ ((alone_at basis (view_of basis whole) t w.begin).replies ++ o ∷ [])
      same = up_to_same (is_last_of true) replies (reply.Begin w.begin ∷ ((alone_at basis (view_of basis whole) t w.begin).replies ++ o ∷ [])) _ [] (up_to OtherText None g)
          (up_to_last (is_last_of true) (reply.Begin w.begin ∷ (alone_at basis (view_of basis whole) t w.begin).replies) o (refl, plain_all_quiet _ (plain_alone basis.language g.answers basis.origin.tables _ [] (text ∷ []))) (loud o one.2))
          (sym (only_mine OtherText None g (omega arith)) ∙ first ∙ sym (append-nil (reply.Begin w.begin ∷ ((alone_at basis (view_of basis whole) t w.begin).replies ++ o ∷ []))))

      at : w.begin ≡ now
      at = (subst (λ (rs : List Reply). AllByRecursion (IsTimely now (now + length added)) rs) same g.turn.timely).0

      there : reply.Begin w.begin ∷ ((alone_at basis (view_of basis whole) t w.begin).replies ++ o ∷ []) ≡ reply.Begin now ∷ ((alone_of basis history now t.texts).replies ++ o ∷ [])
      there = ap (λ b. reply.Begin b ∷ ((alone_at basis (view_of basis whole) t b).replies ++ o ∷ [])) at
          ∙ ap (λ (rows : Rows). reply.Begin now ∷ ((alone_on basis rows t.texts).replies ++ o ∷ [])) (rows_front basis history (added ++ later) now (omega arith))

      says : replies ≡ (reply.Begin now ∷ (alone_of basis history now t.texts).replies) ++ o ∷ []
      says = same ∙ there

      quiet : AllByRecursion (λ r. is_outcome r ≡ false) (alone_of basis history now t.texts).replies
      quiet = plain_all_quiet _ (plain_alone basis.language g.answers basis.origin.tables _ [] (text ∷ []))

  -- an open transaction is told at its begin, of which its session was told before
  open_is : (k : Kind) (texts : List (List ℕ)) (g : Given k (Some texts)) (t : Transaction) (items : List WorkItem) → p.number ≡ t.number → number_by p.number k (Some texts) ≡ p.number → rest_by k (Some texts) ≡ Does t ∷ items →
      (last : List Reply) × Ends t.end last
      × (under name t.number lines ≡ reply.Begin g.going.0 ∷ ((alone_of basis history g.going.0 t.texts).replies ++ last))
      × ((reply.Begin g.going.0 ∷ (alone_of basis history g.going.0 texts).replies) ++ (replies ++ under name p.number others) ≡ reply.Begin g.going.0 ∷ ((alone_of basis history g.going.0 t.texts).replies ++ last))
      × ((o : Reply) → last ≡ o ∷ [] → IsRightAt t g.going.0 o)
  open_is k texts g t items number told is = (w.last, w.ends, all, sym mine ∙ ap (λ n. under name n lines) number ∙ all, λ o last. right_at t _ w begin o at last)
    where
      begin : ℕ
      begin = g.going.0

      w : IsWhole basis (view_of basis whole) name t (under name t.number lines)
      w = whole_of k (Some texts) g t items (omega (arith, number)) is

      mine : under name p.number lines ≡ (reply.Begin begin ∷ (alone_of basis history begin texts).replies) ++ (replies ++ under name p.number others)
      mine = subst (λ n. under name n lines ≡ under name n before ++ (replies ++ under name n others)) told g.mine
          ∙ ap (λ (front : List Reply). front ++ (replies ++ under name p.number others)) g.going.3

      at : w.begin ≡ begin
      at = first_begin w.begin begin _ _ (sym (whole_says t _ w) ∙ ap (λ n. under name n lines) (sym number) ∙ mine)

      all : under name t.number lines ≡ reply.Begin begin ∷ ((alone_of basis history begin t.texts).replies ++ w.last)
      all = whole_says t _ w
          ∙ ap (λ b. reply.Begin b ∷ ((alone_at basis (view_of basis whole) t b).replies ++ w.last)) at
          ∙ ap (λ (rows : Rows). reply.Begin begin ∷ ((alone_on basis rows t.texts).replies ++ w.last)) (rows_front basis history (added ++ later) begin g.going.2)

  commit_case : (texts : List (List ℕ)) (g : Given CommitText (Some texts)) → Turns CommitText (Some texts) g.going.0
  commit_case texts g = record { outcome = one.0; says = same; decides = ending CommitText (Some texts) g t _ g.going.0 one.0 [] (omega arith) refl refl g.going.1 g.going.2 one.2 (is.4 one.0 one.1) same tt }
    where
      t : Transaction
      t = transaction p.number texts p.level ByCommit

      is : (last : List Reply) × IsOneDecision last
          × (under name p.number lines ≡ reply.Begin g.going.0 ∷ ((alone_of basis history g.going.0 texts).replies ++ last))
          × ((reply.Begin g.going.0 ∷ (alone_of basis history g.going.0 texts).replies) ++ (replies ++ under name p.number others) ≡ reply.Begin g.going.0 ∷ ((alone_of basis history g.going.0 texts).replies ++ last))
          × ((o : Reply) → last ≡ o ∷ [] → IsRightAt t g.going.0 o)
      is = open_is CommitText texts g t _ refl refl refl

      one : (o : Reply) × (is.0 ≡ o ∷ []) × IsDecided o
      one = one_decided is.0 is.1

      same : replies ≡ one.0 ∷ []
      same = one_of_one (is_last_of false) replies (under name p.number others) one.0 (up_to CommitText (Some texts) g)
          (append_cancel_left (reply.Begin g.going.0 ∷ (alone_of basis history g.going.0 texts).replies) _ _ is.3 ∙ one.1)

  rollback_case : (texts : List (List ℕ)) (g : Given RollbackText (Some texts)) → Turns RollbackText (Some texts) g.going.0
  rollback_case texts g = (same, appended_none _ name _ reply.RolledBack added (λ other. cc) (appended_by _ name _ replies [] reply.RolledBack added same tt g.turn.appended))
    where
      is : (last : List Reply) × (last ≡ reply.RolledBack ∷ [])
          × (under name p.number lines ≡ reply.Begin g.going.0 ∷ ((alone_of basis history g.going.0 texts).replies ++ last))
          × ((reply.Begin g.going.0 ∷ (alone_of basis history g.going.0 texts).replies) ++ (replies ++ under name p.number others) ≡ reply.Begin g.going.0 ∷ ((alone_of basis history g.going.0 texts).replies ++ last))
          × ((o : Reply) → last ≡ o ∷ [] → IsRightAt (transaction p.number texts p.level ByRollback) g.going.0 o)
      is = open_is RollbackText texts g (transaction p.number texts p.level ByRollback) _ refl refl refl

      same : replies ≡ reply.RolledBack ∷ []
      same = one_of_one (is_last_of false) replies (under name p.number others) reply.RolledBack (up_to RollbackText (Some texts) g)
          (append_cancel_left (reply.Begin g.going.0 ∷ (alone_of basis history g.going.0 texts).replies) _ _ is.3 ∙ is.1)

  -- a text in an open transaction is answered
  text_case : (k : Kind) (texts : List (List ℕ)) (g : Given k (Some texts)) → number_by p.number k (Some texts) ≡ p.number → is_own_by k (Some texts) ≡ false →
      rest_by k (Some texts) ≡ rest_of basis.language (with_open p (Some (texts ++ text ∷ [])) p.number) said →
      (replies ≡ (basis.language.answer basis.origin.tables (rows_at basis history g.going.0).tables (alone_of basis history g.going.0 texts).ops text).replies) × (added ≡ [])
  text_case k texts g number own rest = (same, appended_quiet _ name _ replies added (subst (λ (rs : List Reply). AllByRecursion (λ r. is_outcome r ≡ false) rs) (sym same) quiet) g.turn.appended)
    where
      begin : ℕ
      begin = g.going.0

      versions : List (List Version)
      versions = (rows_at basis history begin).tables

      opened : IsOpened (with_open p (Some (texts ++ text ∷ [])) p.number) (texts ++ text ∷ []) (rest_of basis.language (with_open p (Some (texts ++ text ∷ [])) p.number) said)
      opened = rest_opened basis.language (with_open p (Some (texts ++ text ∷ [])) p.number) (texts ++ text ∷ []) said refl

      t : Transaction
      t = transaction p.number ((texts ++ text ∷ []) ++ opened.0) p.level opened.1

      is : (last : List Reply) × Ends opened.1 last
          × (under name p.number lines ≡ reply.Begin begin ∷ ((alone_of basis history begin t.texts).replies ++ last))
          × ((reply.Begin begin ∷ (alone_of basis history begin texts).replies) ++ (replies ++ under name p.number others) ≡ reply.Begin begin ∷ ((alone_of basis history begin t.texts).replies ++ last))
          × ((o : Reply) → last ≡ o ∷ [] → IsRightAt t begin o)
      is = open_is k texts g t opened.2 refl number (rest ∙ opened.3)

      mine : List Reply
      mine = (basis.language.answer basis.origin.tables versions (alone_of basis history begin texts).ops text).replies

      quiet : AllByRecursion (λ r. is_outcome r ≡ false) mine
      quiet = plain_all_quiet mine (g.answers.plain basis.origin.tables versions (alone_of basis history begin texts).ops text)

      further : List Reply
      further = (alone_from basis.language basis.origin.tables versions (basis.language.answer basis.origin.tables versions (alone_of basis history begin texts).ops text).ops opened.0).replies

      split : (alone_of basis history begin t.texts).replies ++ is.0 ≡ (alone_of basis history begin texts).replies ++ (mine ++ (further ++ is.0))
      split = ap (λ (all : List (List ℕ)). (alone_of basis history begin all).replies ++ is.0) (append_assoc texts (text ∷ []) opened.0)
          ∙ ap (λ (rs : List Reply). rs ++ is.0) (replies_append basis.language basis.origin.tables versions [] texts (text ∷ opened.0))
          ∙ append_assoc (alone_of basis history begin texts).replies (mine ++ further) is.0
          ∙ ap (λ (rs : List Reply). (alone_of basis history begin texts).replies ++ rs) (append_assoc mine further is.0)

      same : replies ≡ mine
      same = up_to_same (is_last_of false) replies mine (under name p.number others) (further ++ is.0)
          (subst (λ b. are_up_to (is_last_of b) replies ≡ true) own (up_to k (Some texts) g))
          (g.answers.closed basis.origin.tables versions (alone_of basis history begin texts).ops text)
          (append_cancel_left (reply.Begin begin ∷ (alone_of basis history begin texts).replies) _ _ (is.3 ∙ ap (λ (rs : List Reply). reply.Begin begin ∷ rs) split))

  -- so each line is told and appends what the lines before it determine
  pub turned : (k : Kind) (pending : Option (List (List ℕ))) (g : Given k pending) → Turns k pending (begun_at basis history pending (under name p.number before) g.going)
  turned BeginText None g = begin_case g
  turned CommitText None g = lone_case CommitText None g (reply.Error State) _ refl refl refl refl refl
  turned RollbackText None g = lone_case RollbackText None g (reply.Error State) _ refl refl refl refl refl
  turned (LevelText level) None g = lone_case (LevelText level) None g (reply.Level level) _ refl refl refl refl refl
  turned OtherText None g = own_case g
  turned BeginText (Some texts) g = text_case BeginText texts g refl refl refl
  turned CommitText (Some texts) g = commit_case texts g
  turned RollbackText (Some texts) g = rollback_case texts g
  turned (LevelText level) (Some texts) g = text_case (LevelText level) texts g refl refl refl
  turned OtherText (Some texts) g = text_case OtherText texts g refl refl refl
