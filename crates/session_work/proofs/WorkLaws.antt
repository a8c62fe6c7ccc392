-- What is left of a session's work, line by line.
use Rattle.std.proofs.Common.{ℕ, ◌≡◌, ◌+◌, List, [], ◌∷◌, ◌++◌, refl, sym, ap, ◌∙◌, append_assoc}
use Rattle.std.proofs.lemmas.List.{append-nil}
use Rattle.std.specs.Prelude.{Option, Some, None}
use Rattle.cdb_values.specs.declared.rows.Level.{Level}
use Rattle.cdb_values.specs.declared.rows.StatementError.TheVariants.{State}
use Rattle.cdb_values.specs.declared.replies.Reply.TheVariants as reply
use Rattle.report_laws.specs.Work.{Place, WorkItem, Does, Lone, Transaction, transaction, ByCommit, ByRollback, WithItsLine, Nowhere, items_at, open_item, next_by, next_place, place_from}
use Rattle.session_language.specs.Language.{Language, Kind, BeginText, CommitText, RollbackText, LevelText, OtherText}
use Rattle.session_work.specs.Work.{left_at, place_at}

-- a place behind further items that are over
abbrev pub behind : List WorkItem → Place → Place
behind xs p = record { over = xs ++ p.over; number = p.number; level = p.level; pending = p.pending }

next_behind : (xs : List WorkItem) (p : Place) (text : List ℕ) (k : Kind) (pending : Option (List (List ℕ))) → next_by (behind xs p) text k pending ≡ behind xs (next_by p text k pending)
next_behind xs p text BeginText None = refl
next_behind xs p text CommitText None = ap (λ (o : List WorkItem). record { over = o; number = p.number; level = p.level; pending = None }) (append_assoc xs p.over (Lone (reply.Error State) ∷ []))
next_behind xs p text RollbackText None = ap (λ (o : List WorkItem). record { over = o; number = p.number; level = p.level; pending = None }) (append_assoc xs p.over (Lone (reply.Error State) ∷ []))
next_behind xs p text (LevelText level) None = ap (λ (o : List WorkItem). record { over = o; number = p.number; level = level; pending = None }) (append_assoc xs p.over (Lone (reply.Level level) ∷ []))
next_behind xs p text OtherText None =
    ap (λ (o : List WorkItem). record { over = o; number = p.number + 1; level = p.level; pending = None }) (append_assoc xs p.over (Does (transaction (p.number + 1) (text ∷ []) p.level WithItsLine) ∷ []))
next_behind xs p text BeginText (Some texts) = refl
next_behind xs p text CommitText (Some texts) =
    ap (λ (o : List WorkItem). record { over = o; number = p.number; level = p.level; pending = None }) (append_assoc xs p.over (Does (transaction p.number texts p.level ByCommit) ∷ []))
next_behind xs p text RollbackText (Some texts) =
    ap (λ (o : List WorkItem). record { over = o; number = p.number; level = p.level; pending = None }) (append_assoc xs p.over (Does (transaction p.number texts p.level ByRollback) ∷ []))
next_behind xs p text (LevelText level) (Some texts) = refl
next_behind xs p text OtherText (Some texts) = refl

place_behind : (language : Language) (xs : List WorkItem) (p : Place) (texts : List (List ℕ)) → place_from language (behind xs p) texts ≡ behind xs (place_from language p texts)
place_behind language xs p [] = refl
place_behind language xs p (text ∷ texts) = ap (λ q. place_from language q texts) (next_behind xs p text (language.kind text) p.pending) ∙ place_behind language xs (next_place language p text) texts

items_behind : (xs : List WorkItem) (p : Place) (pending : Option (List (List ℕ))) → (xs ++ p.over) ++ open_item (behind xs p) pending ≡ xs ++ (p.over ++ open_item p pending)
items_behind xs p None = append_assoc xs p.over []
items_behind xs p (Some texts) = append_assoc xs p.over (Does (transaction p.number texts p.level Nowhere) ∷ [])

pub left_behind : (language : Language) (xs : List WorkItem) (p : Place) (texts : List (List ℕ)) → left_at language (behind xs p) texts ≡ xs ++ left_at language p texts
left_behind language xs p texts =
    ap items_at (place_behind language xs p texts) ∙ items_behind xs (place_from language p texts) (place_from language p texts).pending

module _ (language : Language) (number : ℕ) (level : Level) (text : List ℕ) (texts : List (List ℕ)) where
  -- outside a transaction
  pub left_begin : language.kind text ≡ BeginText → left_at language (place_at number level None) (text ∷ texts) ≡ left_at language (place_at (number + 1) level (Some [])) texts
  left_begin is = ap (λ k. left_at language (next_by (place_at number level None) text k None) texts) is

  pub left_misplaced : (language.kind text ≡ CommitText → left_at language (place_at number level None) (text ∷ texts) ≡ Lone (reply.Error State) ∷ left_at language (place_at number level None) texts)
      × (language.kind text ≡ RollbackText → left_at language (place_at number level None) (text ∷ texts) ≡ Lone (reply.Error State) ∷ left_at language (place_at number level None) texts)
  left_misplaced = (
    λ is. ap (λ k. left_at language (next_by (place_at number level None) text k None) texts) is ∙ left_behind language (Lone (reply.Error State) ∷ []) (place_at number level None) texts,
    λ is. ap (λ k. left_at language (next_by (place_at number level None) text k None) texts) is ∙ left_behind language (Lone (reply.Error State) ∷ []) (place_at number level None) texts,
  )

  pub left_level : (later : Level) → language.kind text ≡ LevelText later → left_at language (place_at number level None) (text ∷ texts) ≡ Lone (reply.Level later) ∷ left_at language (place_at number later None) texts
  left_level later is = ap (λ k. left_at language (next_by (place_at number level None) text k None) texts) is ∙ left_behind language (Lone (reply.Level later) ∷ []) (place_at number later None) texts

  pub left_own : language.kind text ≡ OtherText → left_at language (place_at number level None) (text ∷ texts) ≡ Does (transaction (number + 1) (text ∷ []) level WithItsLine) ∷ left_at language (place_at (number + 1) level None) texts
  left_own is =
      ap (λ k. left_at language (next_by (place_at number level None) text k None) texts) is
      ∙ left_behind language (Does (transaction (number + 1) (text ∷ []) level WithItsLine) ∷ []) (place_at (number + 1) level None) texts

  -- in one, which has these texts
  pub left_text : (before : List (List ℕ)) → (language.kind text ≡ BeginText → left_at language (place_at number level (Some before)) (text ∷ texts) ≡ left_at language (place_at number level (Some (before ++ text ∷ []))) texts)
      × ((later : Level) → language.kind text ≡ LevelText later → left_at language (place_at number level (Some before)) (text ∷ texts) ≡ left_at language (place_at number level (Some (before ++ text ∷ []))) texts)
      × (language.kind text ≡ OtherText → left_at language (place_at number level (Some before)) (text ∷ texts) ≡ left_at language (place_at number level (Some (before ++ text ∷ []))) texts)
  left_text before = (
    λ is. ap (λ k. left_at language (next_by (place_at number level (Some before)) text k (Some before)) texts) is,
    λ later is. ap (λ k. left_at language (next_by (place_at number level (Some before)) text k (Some before)) texts) is,
    λ is. ap (λ k. left_at language (next_by (place_at number level (Some before)) text k (Some before)) texts) is,
  )

  pub left_commit : (before : List (List ℕ)) → language.kind text ≡ CommitText
      → left_at language (place_at number level (Some before)) (text ∷ texts) ≡ Does (transaction number before level ByCommit) ∷ left_at language (place_at number level None) texts
  left_commit before is =
      ap (λ k. left_at language (next_by (place_at number level (Some before)) text k (Some before)) texts) is
      ∙ left_behind language (Does (transaction number before level ByCommit) ∷ []) (place_at number level None) texts

  pub left_rollback : (before : List (List ℕ)) → language.kind text ≡ RollbackText
      → left_at language (place_at number level (Some before)) (text ∷ texts) ≡ Does (transaction number before level ByRollback) ∷ left_at language (place_at number level None) texts
  left_rollback before is =
      ap (λ k. left_at language (next_by (place_at number level (Some before)) text k (Some before)) texts) is
      ∙ left_behind language (Does (transaction number before level ByRollback) ∷ []) (place_at number level None) texts

-- what is left in a transaction begins with it
pub record IsHead (items : List WorkItem) (number : ℕ) (level : Level) (texts : List (List ℕ)) : Type 0 where
  pub txn : Transaction
  pub others : List WorkItem
  pub is : items ≡ Does txn ∷ others
  pub number_is : txn.number ≡ number
  pub level_is : txn.level ≡ level
  pub more : List (List ℕ)
  pub texts_are : txn.texts ≡ texts ++ more

head_more : (items : List WorkItem) (number : ℕ) (level : Level) (texts : List (List ℕ)) (text : List ℕ) → IsHead items number level (texts ++ text ∷ []) → IsHead items number level texts
head_more items number level texts text h = record {
  txn = h.txn;
  others = h.others;
  is = h.is;
  number_is = h.number_is;
  level_is = h.level_is;
  more = text ∷ h.more;
  texts_are = h.texts_are ∙ append_assoc texts (text ∷ []) h.more;
}

head_is : (items others : List WorkItem) (txn : Transaction) → items ≡ Does txn ∷ others → IsHead items txn.number txn.level txn.texts
head_is items others txn is = record { txn = txn; others = others; is = is; number_is = refl; level_is = refl; more = []; texts_are = sym (append-nil txn.texts) }

pub left_head : (language : Language) (number : ℕ) (level : Level) (texts rest : List (List ℕ)) → IsHead (left_at language (place_at number level (Some texts)) rest) number level texts
left_head language number level texts [] = head_is (left_at language (place_at number level (Some texts)) []) [] (transaction number texts level Nowhere) refl
left_head language number level texts (text ∷ rest) = go (language.kind text) refl (left_head language number level (texts ++ text ∷ []) rest)
  where
    on : left_at language (place_at number level (Some texts)) (text ∷ rest) ≡ left_at language (place_at number level (Some (texts ++ text ∷ []))) rest
        → IsHead (left_at language (place_at number level (Some (texts ++ text ∷ []))) rest) number level (texts ++ text ∷ []) → IsHead (left_at language (place_at number level (Some texts)) (text ∷ rest)) number level texts
    on same h = head_more (left_at language (place_at number level (Some texts)) (text ∷ rest)) number level texts text
        (record { txn = h.txn; others = h.others; is = same ∙ h.is; number_is = h.number_is; level_is = h.level_is; more = h.more; texts_are = h.texts_are })

    go : (k : Kind) → language.kind text ≡ k → IsHead (left_at language (place_at number level (Some (texts ++ text ∷ []))) rest) number level (texts ++ text ∷ []) → IsHead (left_at language (place_at number level (Some texts)) (text ∷ rest)) number level texts
    go BeginText is h = on ((left_text language number level text rest texts).0 is) h
    go CommitText is h = head_is (left_at language (place_at number level (Some texts)) (text ∷ rest)) (left_at language (place_at number level None) rest) (transaction number texts level ByCommit) (left_commit language number level text rest texts is)
    go RollbackText is h = head_is (left_at language (place_at number level (Some texts)) (text ∷ rest)) (left_at language (place_at number level None) rest) (transaction number texts level ByRollback) (left_rollback language number level text rest texts is)
    go (LevelText later) is h = on ((left_text language number level text rest texts).1 later is) h
    go OtherText is h = on ((left_text language number level text rest texts).2 is) h
