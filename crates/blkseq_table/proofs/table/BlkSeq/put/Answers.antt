use Rattle.std.proofs.Common.{◌++◌, ◌∷◌, [], List, ◌∙◌, ap, sym, subst}
use Rattle.blkseq_table.specs.Known.{Known, known_at, IsAbsent, AreBelow}
use Rattle.blkseq_table.specs.Kept.{knowns_by}
use Rattle.blkseq_table.proofs.TailLemmas.{grows, on_err, put_is, put_table}
use Rattle.blkseq_table.proofs.table.BlkSeq.put.Goals as goal
use Rattle.blkseq_table.proofs.table.BlkSeq.put.Goals.{in-Ok, in-Err}

pub invariant_of-self : goal.invariant_of-self
invariant_of-self c =
    (grows c.self.inside.sessions.keys c.key_for.new.sessions.keys c.self.inside.map.entries c.self.invariant c.key_for.ensures.numbers c.key_for.ensures.apart).kept

pub returns-in_err-key-clause-unchanged : goal.returns-in_err-key-clause-unchanged
returns-in_err-key-clause-unchanged c =
    on_err c.from_residual.result
    ((grows c.self.inside.sessions.keys c.key_for.new.sessions.keys c.self.inside.map.entries c.self.invariant c.key_for.ensures.numbers c.key_for.ensures.apart).same
    ∙ c.self.view_is)

pub invariant_of-self-2 : goal.invariant_of-self-2
invariant_of-self-2 c =
    put_table c.self.inside.sessions.keys c.key_for.new.sessions.keys c.self.inside.map.entries c.insert.new.self.entries c.in_ok-key.key c.args.id.now c.args.position
    c.insert.result
    (grows c.self.inside.sessions.keys c.key_for.new.sessions.keys c.self.inside.map.entries c.self.invariant c.key_for.ensures.numbers c.key_for.ensures.apart)
    c.in_ok-key.ensures.named c.self.invariant.table
    (subst (λ (known : List Known). IsAbsent known c.args.id.now) (sym c.self.view_is) c.requires.absent)
    (subst (λ (known : List Known). AreBelow known c.args.position) (sym c.self.view_is) c.requires.above) c.insert.ensures.entries c.insert.ensures.err

pub returns-clause-last : goal.returns-clause-last
returns-clause-last c =
    elim c.match-insert.branch [
      | in-Ok w ↦ rw w.result-is (put_is c.self.inside.sessions.keys c.key_for.new.sessions.keys c.self.inside.map.entries c.insert.new.self.entries c.in_ok-key.key
          c.args.id.now c.args.position
          (grows c.self.inside.sessions.keys c.key_for.new.sessions.keys c.self.inside.map.entries c.self.invariant c.key_for.ensures.numbers c.key_for.ensures.apart)
          c.in_ok-key.ensures.named (subst (λ (known : List Known). IsAbsent known c.args.id.now) (sym c.self.view_is) c.requires.absent) w.in-Ok.ensures.entries
          ∙ ap (λ (known : List Known). known ++ known_at c.args.id.now c.args.position ∷ []) c.self.view_is)
      | in-Err w ↦ rw w.result-is tt
    ]

pub returns-clause-unchanged : goal.returns-clause-unchanged
returns-clause-unchanged c =
    elim c.match-insert.branch [
      | in-Ok w ↦ rw w.result-is tt
      | in-Err w ↦ rw w.result-is (ap (knowns_by c.key_for.new.sessions.keys) w.in-Err.ensures.err
          ∙ (grows c.self.inside.sessions.keys c.key_for.new.sessions.keys c.self.inside.map.entries c.self.invariant c.key_for.ensures.numbers c.key_for.ensures.apart).same
          ∙ c.self.view_is)
    ]
