-- What each kind of line makes of where a session stands.
use Rattle.std.proofs.Common.{ℕ, ◌≡◌, ◌+◌, List, [], ◌∷◌, ◌++◌, refl, sym, ap, ◌∙◌, append_assoc}
use Rattle.std.proofs.lemmas.List.{append-nil}
use Rattle.std.specs.Prelude.{Some, None}
use Rattle.cdb_values.specs.declared.items.GenidItem.{GenidItem}
use Rattle.cdb_values.specs.declared.items.Interval.{Interval}
use Rattle.cdb_values.specs.declared.replies.Reply.TheVariants as reply
use Rattle.cdb_values.specs.declared.rows.Level.{Level}
use Rattle.cdb_values.specs.declared.rows.RowOp.{RowOp}
use Rattle.cdb_values.specs.declared.rows.StatementError.TheVariants.{State}
use Rattle.cdb_values.specs.declared.rows.Version.{Version}
use Rattle.cdb_values.specs.declared.tables.TableDef.{TableDef}
use Rattle.cluster_answers.proofs.BeginLaws.{cons_parts}
use Rattle.cluster_answers.proofs.ToldLaws.{does_eq}
use Rattle.cluster_consensus.specs.Facts.{World}
use Rattle.cluster_events.specs.Parts.{ActorEvent, Opened, Part, moves}
use Rattle.cluster_events.specs.Settings.{Setting}
use Rattle.cluster_requests.specs.KeptEntries.{KeptEntry}
use Rattle.cluster_steps.specs.Named.{rows_begun}
use Rattle.report_laws.specs.Work.{ByCommit, ByRollback, Does, Lone, Transaction, WorkItem, WithItsLine, transaction}
use Rattle.session_fronts.specs.Fronts.{IsKnown}
use Rattle.session_language.specs.Language.{Answered, BeginText, CommitText, Kind, Language, LevelText, OtherText, RollbackText, alone_from}
use Rattle.session_language.proofs.AnswerLaws.{ops_more}
use Rattle.session_work.specs.Seats.{Rests, Runs, answered_at}
use Rattle.session_work.specs.Work.{left_at, place_at}
use Rattle.session_work.proofs.RunLaws.{begun_runs, hears}
use Rattle.session_work.proofs.WorkLaws.{IsHead, left_begin, left_commit, left_head, left_level, left_misplaced, left_own, left_rollback, left_text}
use Rattle.session_standing.specs.Standing.{GoesOn, IsCutAt, IsOpenAt, IsToBegin}

module _ (language : Language) (tables : List TableDef) (versions : List (List Version)) where
  -- what a text more uses, and reads
  uses_more : (done : List RowOp) (texts : List (List ℕ)) (text : List ℕ) → (alone_from language tables versions done (texts ++ text ∷ [])).uses
      ≡ (alone_from language tables versions done texts).uses ++ (language.answer tables versions (alone_from language tables versions done texts).ops text).uses
  uses_more done [] text = append-nil (language.answer tables versions done text).uses
  uses_more done (first ∷ texts) text =
      ap (λ (rest : List GenidItem). (language.answer tables versions done first).uses ++ rest) (uses_more (language.answer tables versions done first).ops texts text)
      ∙ sym (append_assoc (language.answer tables versions done first).uses (alone_from language tables versions (language.answer tables versions done first).ops texts).uses (language.answer tables versions (alone_from language tables versions (language.answer tables versions done first).ops texts).ops text).uses)

  ranges_more : (done : List RowOp) (texts : List (List ℕ)) (text : List ℕ) → (alone_from language tables versions done (texts ++ text ∷ [])).ranges
      ≡ (alone_from language tables versions done texts).ranges ++ (language.answer tables versions (alone_from language tables versions done texts).ops text).ranges
  ranges_more done [] text = append-nil (language.answer tables versions done text).ranges
  ranges_more done (first ∷ texts) text =
      ap (λ (rest : List Interval). (language.answer tables versions done first).ranges ++ rest) (ranges_more (language.answer tables versions done first).ops texts text)
      ∙ sym (append_assoc (language.answer tables versions done first).ranges (alone_from language tables versions (language.answer tables versions done first).ops texts).ranges (language.answer tables versions (alone_from language tables versions (language.answer tables versions done first).ops texts).ops text).ranges)

-- a `begin` outside a transaction
pub to_begin : (G : Setting) (p : Part) (number : ℕ) (level : Level) (text : List ℕ) (rest : List (List ℕ)) → G.language.kind text ≡ BeginText → Rests p (left_at G.language (place_at number level None) (text ∷ rest))
    → IsToBegin G p (number + 1) level rest
to_begin G p number level text rest is rests =
    let h : IsHead (left_at G.language (place_at (number + 1) level (Some [])) rest) (number + 1) level [] = left_head G.language (number + 1) level [] rest in
    record {
      txn = h.txn;
      others = h.others;
      rests = record { left = rests.left ∙ (left_begin G.language number level text rest is ∙ h.is); opened = rests.opened; mine = rests.mine };
      left = h.is;
      numbered = h.number_is;
    }

-- behind its begin
pub begun_stands : (G : Setting) (w : World KeptEntry) (p : Part) (number : ℕ) (level : Level) (rest : List (List ℕ)) (b g : ℕ) → IsToBegin G p number level rest → IsKnown G w (record { begin = b; gen = g })
    → IsOpenAt G w (moves p (ActorEvent.Begun b g)) number level [] rest b [] [] []
begun_stands G w p number level rest b g to known = record {
  txn = to.txn;
  others = to.others;
  start = record { begin = b; gen = g };
  runs = begun_runs G w p to.txn to.others b g to.rests known;
  left = to.left;
  begin_is = refl;
  ops_are = refl;
  uses_are = refl;
  ranges_are = refl;
}

-- each text goes on with it but a commit and a rollback
pub goes_on : (G : Setting) (number : ℕ) (level : Level) (texts : List (List ℕ)) (text : List ℕ) (rest : List (List ℕ)) → (G.language.kind text ≡ CommitText → ⊥) → (G.language.kind text ≡ RollbackText → ⊥) → GoesOn G number level texts text rest
goes_on G number level texts text rest no_commit no_rollback = go (G.language.kind text) refl
  where
    go : (k : Kind) → G.language.kind text ≡ k → GoesOn G number level texts text rest
    go BeginText is = (left_text G.language number level text rest texts).0 is
    go CommitText is = absurd (no_commit is)
    go RollbackText is = absurd (no_rollback is)
    go (LevelText later) is = (left_text G.language number level text rest texts).1 later is
    go OtherText is = (left_text G.language number level text rest texts).2 is

-- any other text there is a transaction of its own
pub own_rests : (G : Setting) (p : Part) (number : ℕ) (level : Level) (text : List ℕ) (rest : List (List ℕ)) → G.language.kind text ≡ OtherText → Rests p (left_at G.language (place_at number level None) (text ∷ rest))
    → Rests p (Does (transaction (number + 1) (text ∷ []) level WithItsLine) ∷ left_at G.language (place_at (number + 1) level None) rest)
own_rests G p number level text rest is rests = record { left = rests.left ∙ left_own G.language number level text rest is; opened = rests.opened; mine = rests.mine }

module _ (G : Setting) (w : World KeptEntry) (p : Part) (number : ℕ) (level : Level) (texts : List (List ℕ)) (text : List ℕ) (rest : List (List ℕ)) (begin : ℕ) (ops : List RowOp) (uses : List GenidItem) (ranges : List Interval) where
  -- what a text of an open transaction is answered
  abbrev pub answer_in : Opened → Answered
  answer_in o = G.language.answer G.tables (rows_begun G w o).tables (answered_at G w o texts).ops text

  -- it is answered where the transaction goes on with it: its replies are due
  pub text_runs : (at : IsOpenAt G w p number level texts (text ∷ rest) begin ops uses ranges)
      → GoesOn G number level texts text rest
      → Runs G w p at.txn at.others at.start (texts ++ text ∷ []) (answer_in at.start).replies
  text_runs at on =
      let h = left_head G.language number level (texts ++ text ∷ []) rest in
      let same : at.txn ≡ h.txn = does_eq (sym at.left ∙ (on ∙ h.is)) in
      hears G w p at.txn at.others at.start texts text h.more (ap (λ (t : Transaction). t.texts) same ∙ h.texts_are) at.runs

  -- and once these are told it stands behind it
  pub text_stands : (q : Part) (at : IsOpenAt G w p number level texts (text ∷ rest) begin ops uses ranges)
      → GoesOn G number level texts text rest
      → Runs G w q at.txn at.others at.start (texts ++ text ∷ []) []
      → IsOpenAt G w q number level (texts ++ text ∷ []) rest begin (answer_in at.start).ops (uses ++ (answer_in at.start).uses) (ranges ++ (answer_in at.start).ranges)
  text_stands q at on runs = record {
    txn = at.txn;
    others = at.others;
    start = at.start;
    runs = runs;
    left = sym on ∙ at.left;
    begin_is = at.begin_is;
    ops_are = sym (ops_more G.language G.tables (rows_begun G w at.start).tables [] texts text);
    uses_are = ap (λ z. z ++ (answer_in at.start).uses) at.uses_are ∙ sym (uses_more G.language G.tables (rows_begun G w at.start).tables [] texts text);
    ranges_are = ap (λ z. z ++ (answer_in at.start).ranges) at.ranges_are ∙ sym (ranges_more G.language G.tables (rows_begun G w at.start).tables [] texts text);
  }

  -- at its commit all its texts are answered
  pub commit_at : (at : IsOpenAt G w p number level texts (text ∷ rest) begin ops uses ranges) → G.language.kind text ≡ CommitText
      → (at.txn ≡ transaction number texts level ByCommit) × (at.others ≡ left_at G.language (place_at number level None) rest)
  commit_at at is =
      let e = sym at.left ∙ left_commit G.language number level text rest texts is in
      (does_eq e, (cons_parts e).1)

  pub rollback_at : (at : IsOpenAt G w p number level texts (text ∷ rest) begin ops uses ranges) → G.language.kind text ≡ RollbackText
      → (at.txn ≡ transaction number texts level ByRollback) × (at.others ≡ left_at G.language (place_at number level None) rest)
  rollback_at at is =
      let e = sym at.left ∙ left_rollback G.language number level text rest texts is in
      (does_eq e, (cons_parts e).1)

  -- where it is cut short there, its other lines are skipped
  pub cut_stands : (q : Part) (at : IsOpenAt G w p number level texts (text ∷ rest) begin ops uses ranges)
      → GoesOn G number level texts text rest
      → Rests q at.others → IsCutAt G q number level (texts ++ text ∷ []) rest
  cut_stands q at on rests = record { txn = at.txn; others = at.others; rests = rests; left = sym on ∙ at.left }

module _ (G : Setting) (p : Part) (number : ℕ) (level : Level) (texts : List (List ℕ)) (text : List ℕ) (rest : List (List ℕ)) (at : IsCutAt G p number level texts (text ∷ rest)) where
  -- a line that is skipped
  pub skipped : GoesOn G number level texts text rest → IsCutAt G p number level (texts ++ text ∷ []) rest
  skipped on = record { txn = at.txn; others = at.others; rests = at.rests; left = sym on ∙ at.left }

  -- and the one that ends it
  rests_behind : (items : List WorkItem) → at.others ≡ items → Rests p items
  rests_behind items e = record { left = at.rests.left ∙ e; opened = at.rests.opened; mine = at.rests.mine }

  pub skipped_by_commit : G.language.kind text ≡ CommitText → Rests p (left_at G.language (place_at number level None) rest)
  skipped_by_commit is = rests_behind (left_at G.language (place_at number level None) rest) (cons_parts (sym at.left ∙ left_commit G.language number level text rest texts is)).1

  pub skipped_by_rollback : G.language.kind text ≡ RollbackText → Rests p (left_at G.language (place_at number level None) rest)
  skipped_by_rollback is = rests_behind (left_at G.language (place_at number level None) rest) (cons_parts (sym at.left ∙ left_rollback G.language number level text rest texts is)).1

-- a transaction that is cut short in place of its begin
pub cut_at_begin : (G : Setting) (p : Part) (number : ℕ) (level : Level) (rest : List (List ℕ)) (q : Part) (to : IsToBegin G p number level rest) → Rests q to.others → IsCutAt G q number level [] rest
cut_at_begin G p number level rest q to rests = record { txn = to.txn; others = to.others; rests = rests; left = to.left }

-- a line alone
rests_with : (p : Part) (items others : List WorkItem) → items ≡ others → Rests p items → Rests p others
rests_with p items others e rests = record { left = rests.left ∙ e; opened = rests.opened; mine = rests.mine }

pub misplaced_commit : (G : Setting) (p : Part) (number : ℕ) (level : Level) (text : List ℕ) (rest : List (List ℕ)) → G.language.kind text ≡ CommitText → Rests p (left_at G.language (place_at number level None) (text ∷ rest))
    → Rests p (Lone (reply.Error State) ∷ left_at G.language (place_at number level None) rest)
misplaced_commit G p number level text rest is rests =
    rests_with p (left_at G.language (place_at number level None) (text ∷ rest)) (Lone (reply.Error State) ∷ left_at G.language (place_at number level None) rest) ((left_misplaced G.language number level text rest).0 is) rests

pub misplaced_rollback : (G : Setting) (p : Part) (number : ℕ) (level : Level) (text : List ℕ) (rest : List (List ℕ)) → G.language.kind text ≡ RollbackText → Rests p (left_at G.language (place_at number level None) (text ∷ rest))
    → Rests p (Lone (reply.Error State) ∷ left_at G.language (place_at number level None) rest)
misplaced_rollback G p number level text rest is rests =
    rests_with p (left_at G.language (place_at number level None) (text ∷ rest)) (Lone (reply.Error State) ∷ left_at G.language (place_at number level None) rest) ((left_misplaced G.language number level text rest).1 is) rests

pub level_alone : (G : Setting) (p : Part) (number : ℕ) (level later : Level) (text : List ℕ) (rest : List (List ℕ)) → G.language.kind text ≡ LevelText later → Rests p (left_at G.language (place_at number level None) (text ∷ rest))
    → Rests p (Lone (reply.Level later) ∷ left_at G.language (place_at number later None) rest)
level_alone G p number level later text rest is rests =
    rests_with p (left_at G.language (place_at number level None) (text ∷ rest)) (Lone (reply.Level later) ∷ left_at G.language (place_at number later None) rest) (left_level G.language number level text rest later is) rests
