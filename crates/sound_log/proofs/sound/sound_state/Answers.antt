use Rattle.std.proofs.Common.{◌≡◌, true, is_some, IfSome, List, Some, sym, ap, ◌∙◌, subst}
use Rattle.std.specs.Bool.{Decides}
use Rattle.std.specs.Option.{option_copied}
use Rattle.cdb_values.specs.Rows.{Rows}
use Rattle.cdb_values.specs.declared.tables.TableDef.{TableDef}
use Rattle.phys_log.specs.Logs.{pages_of}
use Rattle.log_replay.specs.Answers.{schema_of}
use Rattle.table_state.specs.States.{HasState}
use Rattle.std.proofs.lemmas.Bool.{false≢true}
use Rattle.std.proofs.lemmas.Result.{IfOk-weaker}
use Rattle.sound_log.specs.Bytes.{StandForBytes}
use Rattle.sound_log.specs.Identities.{ids_in, AreApart}
use Rattle.sound_log.proofs.SoundLemmas.{tables_are, not_begun, state_decides, state_found}
use Rattle.sound_log.proofs.sound.sound_state.Goals as goal

pub returns-then-not-are_begun_by-clause-sound : goal.returns-then-not-are_begun_by-clause-sound
returns-then-not-are_begun_by-clause-sound c = (
  λ e. absurd (false≢true e),
  λ h. absurd (not_begun c.args.accepted c.args.log.now c.in-Some.others.now c.in-Some.field-0-0.now (sym c.entries.ensures ∙ c.in-Some.ensures.cases.0)
      (sym c.are_begun_by.ensures ∙ c.if-not-are_begun_by.true) h),
)

pub returns-clause-sound : goal.returns-clause-sound
returns-clause-sound c =
    let apart : AreApart (ids_in c.in-Some.others.now) = c.in_ok-apart.ensures.0 c.if-not-apart.false in
    IfOk-weaker c.state_on.result (λ has. Decides (is_some has) ((rows : Rows) × HasState (pages_of c.args.log.now) c.in-Some-schema.schema.now rows)) _
    (λ has state. state_decides c.args.accepted c.args.log.now c.in-Some.others.now c.in-Some.field-0-0.now c.in-Some-schema.schema.now (is_some has)
    (sym c.entries.ensures ∙ c.in-Some.ensures.cases.0) (sym c.schema.ensures ∙ ap option_copied c.in-Some-schema.is)
    (sym c.are_begun_by.ensures ∙ c.if-not-are_begun_by.false) apart state)
    c.state_on.ensures.state

pub returns-clause-bytes : goal.returns-clause-bytes
returns-clause-bytes c =
    let schema : schema_of c.args.log.now ≡ Some c.in-Some-schema.schema.now = sym c.schema.ensures ∙ ap option_copied c.in-Some-schema.is in
    IfOk-weaker c.state_on.result (λ has. is_some has ≡ true → StandForBytes (pages_of c.args.log.now) c.in-Some-schema.schema.now) _
    (λ has told is. subst (λ (tables : List TableDef). StandForBytes (pages_of c.args.log.now) tables)
    (sym (tables_are c.args.log.now c.in-Some-schema.schema.now schema)) (told is))
    c.state_on.ensures.bytes

pub returns-clause-state : goal.returns-clause-state
returns-clause-state c =
    let schema : schema_of c.args.log.now ≡ Some c.in-Some-schema.schema.now = sym c.schema.ensures ∙ ap option_copied c.in-Some-schema.is in
    IfOk-weaker c.state_on.result (λ has. IfSome has (λ rows. HasState (pages_of c.args.log.now) c.in-Some-schema.schema.now rows)) _
    (λ has told. state_found c.args.log.now c.in-Some-schema.schema.now has schema told)
    c.state_on.ensures.found
