-- where nothing goes on, no escaped bytes with an end were there
use Rattle.key_code.proofs.EscapeLemmas.{read_dead}
use Rattle.key_code.proofs.escapes.read_ended.Goals as goal

pub returns-in-Dead : goal.returns-in-Dead
returns-in-Dead c = read_dead c.reading.text.items c.reading.rest.now c.args.bytes.now c.in-Dead.ensures c.reading.invariant
