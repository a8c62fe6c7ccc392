-- The decision on a commit at its moment: the history so far, the begin position and the operations
-- determine it, and a right outcome of the whole history that is timely is it.
use Rattle.std.proofs.Common.{◌≡◌, ℕ, zero, suc, ◌+◌, ◌-◌, ◌<◌, ◌≤◌, List, [], ◌∷◌, ◌++◌, length, refl, sym, subst, ap, arith, ◌∙◌, Option, Some, None, ◌⊎◌, inl, inr}
use Rattle.cdb_values.specs.Good.{first_broken, KeyName}
use Rattle.cdb_values.specs.Rows.{Rows, apply_all}
use Rattle.cdb_values.specs.declared.rows.Level.{Level}
use Rattle.cdb_values.specs.declared.rows.RowOp.{RowOp}
use Rattle.report_laws.specs.History.{Basis, alone_on, rows_at, rows_after, rows_among, ops_alone, states_of, entry_at, last_position, changes_at, view_of}
use Rattle.report_laws.specs.View.{IsUntouched}
use Rattle.session_language.specs.Touched.{Used, first_used}
use Rattle.report_laws.specs.Outcome.{IsRight, IsCommitted, IsConflict, IsDuplicate, IsDecided, conflict_line, key_name}
use Rattle.report_laws.specs.Play.{IsTimely}
use Rattle.report_laws.specs.Work.{Transaction, transaction_of}
use Rattle.cdb_values.specs.declared.rows.Change.{Change}
use Rattle.report_text.specs.declared.reports.EntryLine.{EntryLine}
use Rattle.report_text.specs.declared.reports.EntryLine.TheVariants.{Commit}
use Rattle.cdb_values.specs.declared.replies.Reply.{Reply}
use Rattle.cdb_values.specs.declared.replies.Reply.TheVariants as reply
use Rattle.report_laws.proofs.FrontLemmas.{rows_front, entry_front, changes_front, untouched_front, entry_next, rows_next}

module _ (basis : Basis) (history : List EntryLine) (name : List ℕ) (t : Transaction) (begin : ℕ) (used : List Used) where
  abbrev pub now : ℕ
  now = last_position basis.origin history

  -- committed at the next position, by operations
  pub record IsNext (position : ℕ) (ops : List RowOp) (added : List EntryLine) : Type 0 where
    pub at : position ≡ now + 1
    pub appends : added ≡ Commit (now + 1) name t.number begin t.level ∷ []
    pub untouched : IsUntouched (view_of basis history) begin (now + 1) used
    pub kept : first_broken basis.origin.tables (apply_all (rows_at basis history now) ops).tables ≡ None

  abbrev pub Commits : ℕ → List RowOp → List EntryLine → Type 0
  Commits position [] added = (position ≡ begin) × (added ≡ [])
  Commits position (op ∷ ops) added = IsNext position (op ∷ ops) added

  -- this is the decision on these operations, and these are the entries that it appends
  abbrev pub Decides : List RowOp → Reply → List EntryLine → Type 0
  Decides ops outcome added =
      ((position : ℕ) × (outcome ≡ reply.Committed position) × Commits position ops added)
      ⊎ (((position : ℕ) × (added ≡ []) × (position ≤ now) × IsConflict basis (view_of basis history) begin position used ops outcome)
      ⊎ ((position : ℕ) × (table : List ℕ) × (key : List ℕ) × (outcome ≡ reply.Duplicate position table key) × (added ≡ []) × (position ≡ now) × IsDuplicate basis (view_of basis history) begin position used ops table key))

-- parts of what was found
abbrev table_or : Option KeyName → List ℕ
table_or None = []
table_or (Some key) = key.table

abbrev key_or : Option KeyName → List ℕ
key_or None = []
key_or (Some key) = key.key

-- one of two numbers is the less, or they are equal
trichotomy : (p q : ℕ) → (p < q) ⊎ ((q < p) ⊎ (p ≡ q))
trichotomy zero zero = inr (inr refl)
trichotomy zero (suc q) = inl (omega arith)
trichotomy (suc p) zero = inr (inl (omega arith))
trichotomy (suc p) (suc q) = go (trichotomy p q)
  where
    go : (p < q) ⊎ ((q < p) ⊎ (p ≡ q)) → (suc p < suc q) ⊎ ((suc q < suc p) ⊎ (suc p ≡ suc q))
    go (inl less) = inl (omega (arith, less))
    go (inr (inl more)) = inr (inl (omega (arith, more)))
    go (inr (inr same)) = inr (inr (ap suc same))

some_none : {A : Type 0} (x : A) (found : Option A) → found ≡ Some x → found ≡ None → ⊥
some_none x found is none = cc

same_some : {A : Type 0} (x y : A) → Some x ≡ Some y → x ≡ y
same_some x y is = cc

module _ (basis : Basis) (history : List EntryLine) (name : List ℕ) (t : Transaction) (begin : ℕ) (used : List Used) where
  abbrev last : ℕ
  last = last_position basis.origin history

  same_conflict : (p q : ℕ) (ops : List RowOp) (o o' : Reply) → IsConflict basis (view_of basis history) begin p used ops o → IsConflict basis (view_of basis history) begin q used ops o' → o ≡ o'
  same_conflict p q ops o o' is is' = go (trichotomy p q)
    where
      go : (p < q) ⊎ ((q < p) ⊎ (p ≡ q)) → o ≡ o'
      go (inl before) = absurd (some_none is.item _ is.touched (is'.untouched p is.later before))
      go (inr (inl after)) = absurd (some_none is'.item _ is'.touched (is.untouched q is'.later after))
      go (inr (inr same)) =
          let found : Some is.item ≡ Some is'.item =
          sym is.touched ∙ ap (λ k. first_used basis.origin.tables (changes_at basis history k) used) same ∙ is'.touched in
          same_some o o' (sym is.is_told
          ∙ ap (λ k. conflict_line basis.origin.tables k is.item) same
          ∙ ap (λ (i : Used). conflict_line basis.origin.tables q i) (same_some is.item is'.item found)
          ∙ is'.is_told)

  same_duplicate : (p q : ℕ) (ops : List RowOp) (table table' key key' : List ℕ) → p ≡ last → q ≡ last → IsDuplicate basis (view_of basis history) begin p used ops table key → IsDuplicate basis (view_of basis history) begin q used ops table' key' →
      reply.Duplicate p table key ≡ reply.Duplicate q table' key'
  same_duplicate p q ops table table' key key' at at' is is' =
      let same : p ≡ q = at ∙ sym at' in
      let found : Some (key_name table key) ≡ Some (key_name table' key') =
      sym is.breaks ∙ ap (λ k. first_broken basis.origin.tables (apply_all (rows_at basis history k) ops).tables) same ∙ is'.breaks in
      ap (λ k. reply.Duplicate k table key) same ∙ ap (λ n. reply.Duplicate q n key) (ap table_or found) ∙ ap (λ k. reply.Duplicate q table' k) (ap key_or found)

  no_commit_and_conflict : (p q : ℕ) (ops : List RowOp) (added : List EntryLine) (o : Reply) → Commits basis history name t begin used p ops added → q ≤ last →
      IsConflict basis (view_of basis history) begin q used ops o → ⊥
  no_commit_and_conflict p q [] added o commits within is = is.has_ops refl
  no_commit_and_conflict p q (op ∷ ops) added o commits within is = some_none is.item _ is.touched (commits.untouched q is.later (omega (arith, within)))

  no_commit_and_duplicate : (p q : ℕ) (ops : List RowOp) (added : List EntryLine) (table key : List ℕ) → Commits basis history name t begin used p ops added → q ≡ last →
      IsDuplicate basis (view_of basis history) begin q used ops table key → ⊥
  no_commit_and_duplicate p q [] added table key commits at is = is.has_ops refl
  no_commit_and_duplicate p q (op ∷ ops) added table key commits at is =
      some_none (key_name table key) _ is.breaks (ap (λ k. first_broken basis.origin.tables (apply_all (rows_at basis history k) (op ∷ ops)).tables) at ∙ commits.kept)

  no_conflict_and_duplicate : (p q : ℕ) (ops : List RowOp) (table key : List ℕ) (o : Reply) → p ≤ last → q ≡ last →
      IsConflict basis (view_of basis history) begin p used ops o → IsDuplicate basis (view_of basis history) begin q used ops table key → ⊥
  no_conflict_and_duplicate p q ops table key o within at is is' = some_none is.item _ is.touched (is'.untouched p is.later (omega (arith, within, at)))

  same_commit : (p q : ℕ) (ops : List RowOp) (added added' : List EntryLine) → Commits basis history name t begin used p ops added → Commits basis history name t begin used q ops added' →
      (reply.Committed p ≡ reply.Committed q) × (added ≡ added')
  same_commit p q [] added added' is is' = (ap reply.Committed (is.0 ∙ sym is'.0), is.1 ∙ sym is'.1)
  same_commit p q (op ∷ ops) added added' is is' = (ap reply.Committed (is.at ∙ sym is'.at), is.appends ∙ sym is'.appends)

  -- there is one decision
  pub one_decision : (ops : List RowOp) (o o' : Reply) (added added' : List EntryLine) → Decides basis history name t begin used ops o added → Decides basis history name t begin used ops o' added' → (o ≡ o') × (added ≡ added')
  one_decision ops o o' added added' (inl (p, e, is)) (inl (q, e', is')) =
      let same : (reply.Committed p ≡ reply.Committed q) × (added ≡ added') = same_commit p q ops added added' is is' in (e ∙ same.0 ∙ sym e', same.1)
  one_decision ops o o' added added' (inl (p, e, is)) (inr (inl (q, none', within', is'))) = absurd (no_commit_and_conflict p q ops added o' is within' is')
  one_decision ops o o' added added' (inl (p, e, is)) (inr (inr (q, table', key', e', none', at', is'))) = absurd (no_commit_and_duplicate p q ops added table' key' is at' is')
  one_decision ops o o' added added' (inr (inl (p, none, within, is))) (inl (q, e', is')) = absurd (no_commit_and_conflict q p ops added' o is' within is)
  one_decision ops o o' added added' (inr (inl (p, none, within, is))) (inr (inl (q, none', within', is'))) = (same_conflict p q ops o o' is is', none ∙ sym none')
  one_decision ops o o' added added' (inr (inl (p, none, within, is))) (inr (inr (q, table', key', e', none', at', is'))) = absurd (no_conflict_and_duplicate p q ops table' key' o within at' is is')
  one_decision ops o o' added added' (inr (inr (p, table, key, e, none, at, is))) (inl (q, e', is')) = absurd (no_commit_and_duplicate q p ops added' table key is' at is)
  one_decision ops o o' added added' (inr (inr (p, table, key, e, none, at, is))) (inr (inl (q, none', within', is'))) = absurd (no_conflict_and_duplicate q p ops table key o' within' at is' is)
  one_decision ops o o' added added' (inr (inr (p, table, key, e, none, at, is))) (inr (inr (q, table', key', e', none', at', is'))) =
      (e ∙ same_duplicate p q ops table table' key key' at at' is is' ∙ sym e', none ∙ sym none')

-- the entries that a line appends behind an outcome: none, or the one that the outcome tells
abbrev pub IsOutcomes : ℕ → List ℕ → ℕ → Reply → List EntryLine → Type 0
IsOutcomes now name number outcome added =
    (added ≡ []) ⊎ ((begin : ℕ) × (level : Level) × (added ≡ Commit (now + 1) name number begin level ∷ []) × (outcome ≡ reply.Committed (now + 1)))

-- a right outcome of the whole history that is timely is the decision of its moment
module _ (basis : Basis) (history added later : List EntryLine) (name : List ℕ) (t : Transaction) (begin : ℕ) (used : List Used)
    (base : basis.origin.position ≤ begin) (begun : begin ≤ last_position basis.origin history)
    (its : transaction_of basis.language name t.number basis.script.body ≡ Some t)
    (is_new : (k : ℕ) (level : Level) → entry_at basis.origin history k ≡ Some (Commit k name t.number begin level) → ⊥) where
  abbrev end : ℕ
  end = last_position basis.origin history

  abbrev whole : List EntryLine
  whole = history ++ (added ++ later)

  abbrev ops_at : List RowOp
  ops_at = (alone_on basis (rows_at basis history begin) t.texts).ops

  changes_are : (k : ℕ) → begin < k → k ≤ end → changes_at basis whole k ≡ changes_at basis history k
  changes_are k after within = changes_front basis history (added ++ later) k (omega (arith, base, after)) within

  untouched_is : (position : ℕ) → position ≤ end + 1 → IsUntouched (view_of basis whole) begin position used → IsUntouched (view_of basis history) begin position used
  untouched_is position within is = untouched_front basis history (added ++ later) begin position used base within is

  conflict_is : (position : ℕ) (ops : List RowOp) (o : Reply) → position ≤ end → IsConflict basis (view_of basis whole) begin position used ops o → IsConflict basis (view_of basis history) begin position used ops o
  conflict_is position ops o within is = record {
    has_ops = is.has_ops;
    later = is.later;
    within = within;
    item = is.item;
    touched = ap (λ (changes : List Change). first_used basis.origin.tables changes used) (sym (changes_are position is.later within)) ∙ is.touched;
    untouched = untouched_is position (omega (arith, within)) is.untouched;
    is_told = is.is_told;
  }

  duplicate_is : (position : ℕ) (ops : List RowOp) (table key : List ℕ) → position ≡ end → IsDuplicate basis (view_of basis whole) begin position used ops table key → IsDuplicate basis (view_of basis history) begin position used ops table key
  duplicate_is position ops table key at is = record {
    has_ops = is.has_ops;
    begun = is.begun;
    within = omega (arith, at);
    untouched = untouched_is (position + 1) (omega (arith, at)) is.untouched;
    breaks = ap (λ (rows : Rows). first_broken basis.origin.tables (apply_all rows ops).tables) (sym (rows_front basis history (added ++ later) position (omega (arith, at)))) ∙ is.breaks;
  }

  -- the rows at the next position, where this entry stands
  rows_are : (level : Level) → rows_after basis (states_of basis history) (Commit (end + 1) name t.number begin level) ≡ apply_all (rows_at basis history end) ops_at
  rows_are level =
      let at : end + 1 - 1 ≡ end = omega arith in
      ap (λ k. apply_all (rows_among basis.origin (states_of basis history) k) (ops_alone basis (rows_at basis history begin) (transaction_of basis.language name t.number basis.script.body))) at
      ∙ ap (λ (found : Option Transaction). apply_all (rows_at basis history end) (ops_alone basis (rows_at basis history begin) found)) its

  commits : (position : ℕ) (ops : List RowOp) → ops_at ≡ ops → position ≤ end + length added → IsOutcomes end name t.number (reply.Committed position) added →
      IsCommitted basis (view_of basis whole) name t begin position used ops → Commits basis history name t begin used position ops added
  commits position [] same within (inl none) is = (is, none)
  commits position [] same within (inr (b, level, appends, tells)) is = absurd (let at : position ≡ end + 1 = cc in let there : position ≡ begin = is in omega (arith, at, there, begun))
  commits position (op ∷ ops) same within (inl none) is =
      let none_added : length added ≡ 0 = ap (λ (es : List EntryLine). length es) none in
      let later_on : begin < position = is.later in
      absurd (is_new position t.level (sym (entry_front basis history (added ++ later) position (omega (arith, base, later_on)) (omega (arith, within, none_added))) ∙ is.stands))
  commits position (op ∷ ops) same within (inr (b, level, appends, tells)) is = record {
    at = at;
    appends = appends_it;
    untouched = untouched_is (end + 1) (omega arith) (subst (λ k. IsUntouched (view_of basis whole) begin k used) at is.untouched);
    kept = ap (λ (rows : Rows). first_broken basis.origin.tables rows.tables) rows_same ∙ is.is_good.keys_kept;
  }
    where
      at : position ≡ end + 1
      at = cc

      found : Some (Commit (end + 1) name t.number b level) ≡ Some (Commit position name t.number begin t.level)
      found = sym (entry_next basis.origin history later (Commit (end + 1) name t.number b level))
          ∙ ap (λ (es : List EntryLine). entry_at basis.origin es (end + 1)) (sym (ap (λ (es : List EntryLine). history ++ (es ++ later)) appends))
          ∙ ap (λ k. entry_at basis.origin whole k) (sym at)
          ∙ is.stands

      appends_it : added ≡ Commit (end + 1) name t.number begin t.level ∷ []
      appends_it = appends ∙ ap (λ (e : EntryLine). e ∷ []) (same_some _ _ found ∙ ap (λ k. Commit k name t.number begin t.level) at)

      rows_same : apply_all (rows_at basis history end) (op ∷ ops) ≡ rows_at basis whole position
      rows_same = ap (λ (os : List RowOp). apply_all (rows_at basis history end) os) (sym same)
          ∙ sym (rows_are t.level)
          ∙ sym (rows_next basis history later (Commit (end + 1) name t.number begin t.level))
          ∙ ap (λ (es : List EntryLine). rows_at basis (history ++ (es ++ later)) (end + 1)) (sym appends_it)
          ∙ ap (λ k. rows_at basis whole k) (sym at)

  none_added : (outcome : Reply) → (outcome ≡ reply.Committed (end + 1) → ⊥) → IsOutcomes end name t.number outcome added → added ≡ []
  none_added outcome other (inl none) = none
  none_added outcome other (inr (b, level, appends, tells)) = absurd (other tells)

  pub decided : (outcome : Reply) → IsDecided outcome → IsTimely end (end + length added) outcome → IsOutcomes end name t.number outcome added →
      IsRight basis (view_of basis whole) name t begin used ops_at outcome → Decides basis history name t begin used ops_at outcome added
  decided (reply.Begin position) ends timely appends right = absurd ends
  decided (reply.Row row) ends timely appends right = absurd ends
  decided (reply.Done rows) ends timely appends right = absurd ends
  decided (reply.Changed rows) ends timely appends right = absurd ends
  decided (reply.Error cause) ends timely appends right = absurd ends
  decided (reply.Level level) ends timely appends right = absurd ends
  decided reply.RolledBack ends timely appends right = absurd ends
  decided (reply.Committed position) ends timely appends right = inl (position, refl, commits position ops_at refl timely appends right)
  decided (reply.ConflictGenid position table genid) ends timely appends right =
      inr (inl (position, none_added _ (λ is. cc) appends, timely, conflict_is position ops_at _ timely right))
  decided (reply.ConflictRange position table key) ends timely appends right =
      inr (inl (position, none_added _ (λ is. cc) appends, timely, conflict_is position ops_at _ timely right))
  decided (reply.Duplicate position table key) ends timely appends right =
      inr (inr (position, table, key, refl, none_added _ (λ is. cc) appends, timely, duplicate_is position ops_at table key timely right))
  decided (reply.Lost node down) ends timely appends right = absurd ends
  decided (reply.NoMajority up nodes) ends timely appends right = absurd ends
  decided reply.NoMemory ends timely appends right = absurd ends
