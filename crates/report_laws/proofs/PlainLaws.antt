-- Replies that name no position leave the last position where it is.
use Rattle.std.proofs.Common.{ℕ, List, [], ◌∷◌, ◌++◌, refl}
use Rattle.cdb_values.specs.declared.rows.RowOp.{RowOp}
use Rattle.cdb_values.specs.declared.rows.Version.{Version}
use Rattle.cdb_values.specs.declared.tables.TableDef.{TableDef}
use Rattle.session_language.specs.Answers.{Answers, IsPlain, ArePlain}
use Rattle.session_language.specs.Language.{Language, alone_from}
use Rattle.report_laws.specs.Paced.{Paced}
use Rattle.cdb_values.specs.declared.replies.Reply.{Reply}
use Rattle.cdb_values.specs.declared.replies.Reply.TheVariants as reply
use Rattle.session_language.proofs.EachLaws.{all_append}

-- plain replies and then others have the pace of these
pub plain_then : (now after : ℕ) (rs last : List Reply) → ArePlain rs → Paced now after last → Paced now after (rs ++ last)
plain_then now after [] last all is = is
plain_then now after (reply.Begin position ∷ rs) last all is = absurd all.0
plain_then now after (reply.Row row ∷ rs) last all is = plain_then now after rs last all.1 is
plain_then now after (reply.Done rows ∷ rs) last all is = plain_then now after rs last all.1 is
plain_then now after (reply.Changed rows ∷ rs) last all is = plain_then now after rs last all.1 is
plain_then now after (reply.Error cause ∷ rs) last all is = plain_then now after rs last all.1 is
plain_then now after (reply.Level level ∷ rs) last all is = plain_then now after rs last all.1 is
plain_then now after (reply.RolledBack ∷ rs) last all is = absurd all.0
plain_then now after (reply.Committed position ∷ rs) last all is = absurd all.0
plain_then now after (reply.ConflictGenid position table genid ∷ rs) last all is = absurd all.0
plain_then now after (reply.ConflictRange position table key ∷ rs) last all is = absurd all.0
plain_then now after (reply.Duplicate position table key ∷ rs) last all is = absurd all.0
plain_then now after (reply.Lost node down ∷ rs) last all is = absurd all.0
plain_then now after (reply.NoMajority up nodes ∷ rs) last all is = absurd all.0
plain_then now after (reply.NoMemory ∷ rs) last all is = absurd all.0

-- plain replies leave the last position
pub plain_paced : (now : ℕ) (rs : List Reply) → ArePlain rs → Paced now now rs
plain_paced now [] all = refl
plain_paced now (reply.Begin position ∷ rs) all = absurd all.0
plain_paced now (reply.Row row ∷ rs) all = plain_paced now rs all.1
plain_paced now (reply.Done rows ∷ rs) all = plain_paced now rs all.1
plain_paced now (reply.Changed rows ∷ rs) all = plain_paced now rs all.1
plain_paced now (reply.Error cause ∷ rs) all = plain_paced now rs all.1
plain_paced now (reply.Level level ∷ rs) all = plain_paced now rs all.1
plain_paced now (reply.RolledBack ∷ rs) all = absurd all.0
plain_paced now (reply.Committed position ∷ rs) all = absurd all.0
plain_paced now (reply.ConflictGenid position table genid ∷ rs) all = absurd all.0
plain_paced now (reply.ConflictRange position table key ∷ rs) all = absurd all.0
plain_paced now (reply.Duplicate position table key ∷ rs) all = absurd all.0
plain_paced now (reply.Lost node down ∷ rs) all = absurd all.0
plain_paced now (reply.NoMajority up nodes ∷ rs) all = absurd all.0
plain_paced now (reply.NoMemory ∷ rs) all = absurd all.0

-- the replies of a transaction run alone are plain, where those to each text are
pub plain_alone : (language : Language) → Answers language → (tables : List TableDef) (versions : List (List Version)) (done : List RowOp) (texts : List (List ℕ)) → ArePlain (alone_from language tables versions done texts).replies
plain_alone language answers tables versions done [] = tt
plain_alone language answers tables versions done (text ∷ texts) =
    all_append IsPlain (language.answer tables versions done text).replies _ (answers.plain tables versions done text) (plain_alone language answers tables versions (language.answer tables versions done text).ops texts)
