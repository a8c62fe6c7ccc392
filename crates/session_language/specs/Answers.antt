-- What the laws ask of a language where they compare two reports: each text is answered, by replies
-- that end at the first one that is no row, and none of which begins or ends a transaction.
use Rattle.std.specs.Prelude.{◌≡◌, ℕ, List, true, false}
use Rattle.std.specs.List.{AllByRecursion}
use Rattle.cdb_values.specs.declared.rows.RowOp.{RowOp}
use Rattle.cdb_values.specs.declared.rows.Version.{Version}
use Rattle.cdb_values.specs.declared.tables.TableDef.{TableDef}
use Rattle.session_language.specs.Language.{Language}
use Rattle.session_language.specs.Replies.{are_up_to, is_last_of}
use Rattle.cdb_values.specs.declared.replies.Reply.{Reply}
use Rattle.cdb_values.specs.declared.replies.Reply.TheVariants as reply

-- a reply that names no position, ends nothing and stands for no loss
abbrev pub IsPlain : Reply → Type 0
IsPlain (reply.Begin position) = ⊥
IsPlain (reply.Row row) = Unit {0}
IsPlain (reply.Done rows) = Unit {0}
IsPlain (reply.Changed rows) = Unit {0}
IsPlain (reply.Error cause) = Unit {0}
IsPlain (reply.Level level) = Unit {0}
IsPlain reply.RolledBack = ⊥
IsPlain (reply.Committed position) = ⊥
IsPlain (reply.ConflictGenid position table genid) = ⊥
IsPlain (reply.ConflictRange position table key) = ⊥
IsPlain (reply.Duplicate position table key) = ⊥
IsPlain (reply.Lost node down) = ⊥
IsPlain (reply.NoMajority up nodes) = ⊥
IsPlain reply.NoMemory = ⊥

abbrev pub ArePlain : List Reply → Type 0
ArePlain rs = AllByRecursion IsPlain rs

pub record Answers (language : Language) : Type 0 where
  pub plain : (tables : List TableDef) (versions : List (List Version)) (done : List RowOp) (text : List ℕ) → ArePlain (language.answer tables versions done text).replies
  pub closed : (tables : List TableDef) (versions : List (List Version)) (done : List RowOp) (text : List ℕ) → are_up_to (is_last_of false) (language.answer tables versions done text).replies ≡ true
