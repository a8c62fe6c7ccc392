-- The pace of a piece of a session's lines: it is told at one last position of the history, and
-- afterwards the last position is another. A begin and a duplicate are at the first; an outcome ends
-- the piece, names no position above the second, and only a commit moves the last position. No loss
-- and no missing majority is in it.
use Rattle.std.specs.Prelude.{◌≡◌, ℕ, ◌≤◌, ◌∷◌, [], List, max}
use Rattle.cdb_values.specs.declared.replies.Reply.{Reply}
use Rattle.cdb_values.specs.declared.replies.Reply.TheVariants as reply

abbrev pub Paced : ℕ → ℕ → List Reply → Type 0
Paced now after [] = now ≡ after
Paced now after (reply.Begin position ∷ rs) = (position ≡ now) × Paced now after rs
Paced now after (reply.Row row ∷ rs) = Paced now after rs
Paced now after (reply.Done rows ∷ rs) = Paced now after rs
Paced now after (reply.Changed rows ∷ rs) = Paced now after rs
Paced now after (reply.Error cause ∷ rs) = Paced now after rs
Paced now after (reply.Level level ∷ rs) = Paced now after rs
Paced now after (reply.RolledBack ∷ rs) = Paced now after rs
Paced now after (reply.Committed position ∷ rs) = (rs ≡ []) × (position ≤ after) × (max now position ≡ after)
Paced now after (reply.ConflictGenid position table genid ∷ rs) = (rs ≡ []) × (position ≤ after) × (now ≡ after)
Paced now after (reply.ConflictRange position table key ∷ rs) = (rs ≡ []) × (position ≤ after) × (now ≡ after)
Paced now after (reply.Duplicate position table key ∷ rs) = (rs ≡ []) × (position ≡ now) × (now ≡ after)
Paced now after (reply.Lost node down ∷ rs) = ⊥
Paced now after (reply.NoMajority up nodes ∷ rs) = ⊥
Paced now after (reply.NoMemory ∷ rs) = Paced now after rs
