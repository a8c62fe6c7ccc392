use Rattle.std.proofs.Common.{◌≡◌, ◌∙◌, ◌++◌, ◌∷◌, [], OnOk, Err, ap, subst, sym}
use Rattle.phys_log.specs.declared.entries.Entry.{Entry}
use Rattle.script_play.specs.Effects.{IsFreshIn}
use Rattle.script_play.proofs.AppendLemmas.{fallen_at, popped}
use Rattle.script_play.proofs.run.append_entry.Goals as goal

pub append-requires-clause-fresh : goal.append-requires-clause-fresh
append-requires-clause-fresh g c = subst (λ (e : Entry). IsFreshIn c.args.run.now.log.entries e) (sym (c.in_ok-entry-2.ensures.0 ∙ c.in_ok-entry.ensures.0)) c.requires.fresh

pub returns-in-Err-StoreFault-clause-fallen : goal.returns-in-Err-StoreFault-clause-fallen
returns-in-Err-StoreFault-clause-fallen g c = λ _.
    fallen_at c.args.entry c.in_ok-entry-2.entry c.args.run.now.lines.items c.args.run.now.lines.items c.args.run.now.entries.items c.pop-in-Err-StoreFault.new.self.items c.args.run.now.log c.append.new.self
    (c.in_ok-entry-2.ensures.0 ∙ c.in_ok-entry.ensures.0)
    (popped c.args.run.now.entries.items c.add_line.new.entries.items c.pop-in-Err-StoreFault.new.self.items c.in_ok-entry.line c.add_line.new.entries.len told c.add_line.new.entries.ok.0 c.pop-in-Err-StoreFault.ensures.rest)
    (c.in-Err-StoreFault.ensures.failed (ap Err c.in-Err-StoreFault.field-0-is)) (c.in-Err-StoreFault.ensures.rose (ap Err c.in-Err-StoreFault.field-0-is))
    (c.in-Err-StoreFault.ensures.left (ap Err c.in-Err-StoreFault.field-0-is))
  where
    told : c.add_line.new.entries.items ≡ c.args.run.now.entries.items ++ c.in_ok-entry.line ∷ []
    told = subst (λ r. OnOk r (c.add_line.new.entries.items ≡ c.args.run.now.entries.items ++ c.in_ok-entry.line ∷ [])) c.in_ok-entry-2.ensures.1 c.add_line.ensures.ok
