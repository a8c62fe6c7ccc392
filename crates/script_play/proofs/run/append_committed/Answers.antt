use Rattle.std.proofs.Common.{◌≡◌, ◌++◌, ◌∷◌, [], OnOk, subst, sym}
use Rattle.phys_log.specs.declared.entries.Entry.{Entry}
use Rattle.report_laws.specs.Told.{lines_of}
use Rattle.cdb_values.specs.declared.replies.Reply.TheVariants as reply
use Rattle.script_play.specs.Down.{down_line}
use Rattle.script_play.specs.Effects.{IsFreshIn}
use Rattle.script_play.proofs.AppendLemmas.{fell_so}
use Rattle.script_play.proofs.run.append_committed.Goals as goal

pub append_entry-requires-clause-fresh : goal.append_entry-requires-clause-fresh
append_entry-requires-clause-fresh g c = subst (λ (e : Entry). IsFreshIn c.args.run.now.log.entries e) (sym c.in_ok-entry.ensures.0) c.requires.fresh

pub returns-in-Down-clause-done : goal.returns-in-Down-clause-done
returns-in-Down-clause-done g c =
    fell_so c.args.entry c.in_ok-entry.entry c.args.name.now c.args.number c.args.run.now.lines.items c.add_fall-told.new.lines.items c.append_entry.new.run.lines.items c.put_down.new.lines.items
    c.args.run.now.entries.items c.append_entry.new.run.entries.items c.args.run.now.log c.append_entry.new.run.log
    (subst (λ r. OnOk r (c.add_fall-told.new.lines.items ≡ c.args.run.now.lines.items ++ (lines_of c.args.name.now c.args.number (reply.Lost 1 1 ∷ []) ++ down_line ∷ []))) c.in_ok-entry.ensures.1 c.add_fall-told.ensures.ok)
    c.append_entry.ensures.lines c.put_down.ensures c.in_ok-entry.ensures.0 (c.in_ok-append_entry.ensures.fallen c.in-Down.is)
