use Rattle.std.proofs.Common.{◌∙◌, sym, subst}
use Rattle.blkseq_table.specs.declared.keys.NumberedId.{NumberedId}
use Rattle.blkseq_table.specs.Kept.{IsKeyOf}
use Rattle.blkseq_table.proofs.KeyLemmas.{key_stored, numbers_keep}
use Rattle.blkseq_table.proofs.keys.add_session.Goals as goal
use Rattle.blkseq_table.proofs.keys.add_session.Goals.{in-Ok, in-Err}

pub returns-clause-named : goal.returns-clause-named
returns-clause-named c =
    elim c.match-insert_full.branch [
      | in-Ok w ↦ rw w.result-is (subst (λ (key : NumberedId). IsKeyOf c.insert_full.new.self.keys key c.args.id.now) (sym w.of.ensures)
          (key_stored c.insert_full.new.self.keys c.args.id.now c.in_ok-name.name w.in-Ok.session (c.in_ok-name.ensures.items ∙ c.as_bytes.ensures)
          w.in-Ok.ensures.stored))
      | in-Err w ↦ rw w.result-is tt
    ]

pub returns-clause-numbers : goal.returns-clause-numbers
returns-clause-numbers c =
    numbers_keep c.args.sessions.now.keys c.insert_full.new.self.keys c.in_ok-name.name c.insert_full.result c.insert_full.ensures.keys
    c.insert_full.ensures.err
