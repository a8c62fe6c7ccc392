use Rattle.std.proofs.Common.{◌<◌, length, arith}
use Rattle.std.proofs.lemmas.Result.{err_from_is_err_and}
use Rattle.byte_words.specs.Lines.{lines_of_bytes}
use Rattle.script_read.specs.ScriptText.{read_lines, no_draft}
use Rattle.script_read.proofs.ReadLemmas.{lines_more, lines_stop, lines_done}
use Rattle.script_read.proofs.reading.lines_read.Goals as goal

pub returns-in_err-draft : goal.returns-in_err-draft
returns-in_err-draft c =
    let p = err_from_is_err_and c.from_residual.result c.from_residual.ensures.1 in
    rw (p.1, p.2) (lines_stop c.lines.draft c.lines.line c.lines.rest.now c.in-Some.text.now c.in-Some.after.now (read_lines (no_draft c.args.stores c.args.consumers) 1 (lines_of_bytes c.args.bytes.now)) c.in_err-draft.field-0.0 c.in-Some.ensures.line c.lines.invariant.0 c.in_err-draft.ensures)

pub lines-preserved : goal.lines-preserved
lines-preserved c =
    let shorter : length c.in-Some.after.now < length c.lines.rest.now = c.in-Some.ensures.shorter in
    (lines_more c.lines.draft c.lines.line c.lines.rest.now c.in-Some.text.now c.in-Some.after.now (read_lines (no_draft c.args.stores c.args.consumers) 1 (lines_of_bytes c.args.bytes.now)) _ c.in-Some.ensures.line c.lines.invariant.0 c.in_ok-draft.ensures, omega arith)

pub returns : goal.returns
returns c = lines_done c.lines.draft c.lines.line c.lines.rest.now (read_lines (no_draft c.args.stores c.args.consumers) 1 (lines_of_bytes c.args.bytes.now)) c.in_default.ensures.line c.lines.invariant.0
