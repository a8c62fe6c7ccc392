use Rattle.std.proofs.Common.{◌≡◌, ℕ, List, ap, ◌∙◌, subst}
use Rattle.cdb_values.specs.declared.rows.Version.{Version}
use Rattle.page_workspace.specs.Spare.{IsIn}
use Rattle.phys_log.specs.Logs.{pages_of}
use Rattle.phys_log.specs.declared.entries.Entry.{Entry}
use Rattle.log_replay.specs.Answers.{LogSource}
use Rattle.table_state.specs.States.{HasState}
use Rattle.sound_log.specs.Bytes.{RowsAreOfBytes}
use Rattle.sound_log.proofs.BytesLemmas.{read_of_bytes}
use Rattle.sound_log.proofs.SoundLemmas.{not_in}
use Rattle.sound_log.proofs.sound.state_on.Goals as goal

pub state_of-requires : goal.state_of-requires
state_of-requires c = λ n off.
    ap (λ (s : LogSource). pages_of s.entries n) c.in_ok-pages.ensures
    ∙ c.in_ok-edited.ensures.others n (not_in n c.in_ok-edited.edited.items (subst (λ (l : List ℕ). IsIn n l → ⊥) c.as_slice.ensures.value off))

pub returns-in-Ok-Some-clause-bytes : goal.returns-in-Ok-Some-clause-bytes
returns-in-Ok-Some-clause-bytes c = λ is.
    let found = c.in-Ok-Some.state in
    let same : c.in_ok-pages.pages.entries ≡ c.args.log.now = ap (λ (s : LogSource). s.entries) c.in_ok-pages.ensures in
    let read = rw c.in-Ok-Some.field-0-is at c.in-Ok-Some.ensures.state in
    let has : HasState (pages_of c.args.log.now) c.args.schema.now found =
    subst (λ (es : List Entry). HasState (pages_of es) c.args.schema.now found) same read in
    let told : RowsAreOfBytes found.tables = subst (λ (l : List (List Version)). RowsAreOfBytes l) (cc) c.tell_bytes.ensures in
    read_of_bytes (pages_of c.args.log.now) c.args.schema.now found
    (c.pages_stand_for_one_state.ensures.one (pages_of c.args.log.now) c.args.schema.now) has told
