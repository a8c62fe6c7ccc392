use Rattle.std.proofs.Common.{List, sym, ap, ◌∙◌, subst}
use Rattle.phys_log.specs.declared.entries.Entry.{Entry}
use Rattle.frame_code.specs.Codes.{frame_code}
use Rattle.frame_code.specs.declared.frames.Frame.TheVariants as frame
use Rattle.phys_log.specs.Logs.{Fits}
use Rattle.store_log.specs.Keeps.{AreLeft}
use Rattle.node_log.specs.Logged.{Logged, IsInStep}
use Rattle.node_log.proofs.EntryLemmas.{IsNextOf, entry_in_step, entry_left, entry_next}
use Rattle.node_log.proofs.StepLemmas.{same_kept}
use Rattle.node_log.proofs.node_logs.NodeLog.append.Goals as goal

pub invariant_of-self : goal.invariant_of-self
invariant_of-self g c running =
    let before = c.self.inside in
    let next : IsNextOf before.promised before.accepted before.log c.args.entry = record {
      spelled = c.requires.spelled;
      generation = c.requires.accepted ∙ ap (λ (l : Logged). l.accepted) (sym c.self.view_is);
      fits = subst (λ (l : Logged). Fits l.entries c.args.entry) (sym c.self.view_is) c.requires.fits;
    } in
    subst (λ (es : List Entry). IsInStep before.node before.cluster c.keep_entry.new.held before.promised before.accepted es)
    (sym c.in-Ok.ensures.added)
    (entry_in_step before.node before.cluster before.held c.keep_entry.new.held before.promised before.accepted before.log c.args.entry next
    c.in-Ok.ensures.kept (c.self.invariant running))

pub returns-in-Err-StoreFault-clause-left : goal.returns-in-Err-StoreFault-clause-left
returns-in-Err-StoreFault-clause-left g c told =
    let now = c.args.self.now in
    let next : IsNextOf now.promised now.accepted now.entries c.args.entry = record {
      spelled = c.requires.spelled;
      generation = c.requires.accepted;
      fits = c.requires.fits;
    } in
    let left : AreLeft now.store c.keep_entry.new.held (frame_code (frame.Entry c.args.entry)) =
    subst (λ (l : Logged). AreLeft l.store c.keep_entry.new.held (frame_code (frame.Entry c.args.entry))) c.self.view_is
    (rw c.in-Err-StoreFault.field-0-is at c.in-Err-StoreFault.ensures.kept) in
    entry_left now c.keep_entry.new.held c.args.entry next left (same_kept c.self.view_is c.self.invariant c.requires.running)

pub keep_entry-requires-clause-next : goal.keep_entry-requires-clause-next
keep_entry-requires-clause-next g c =
    let before = c.self.inside in
    let next : IsNextOf before.promised before.accepted before.log c.args.entry = record {
      spelled = c.requires.spelled;
      generation = c.requires.accepted ∙ ap (λ (l : Logged). l.accepted) (sym c.self.view_is);
      fits = subst (λ (l : Logged). Fits l.entries c.args.entry) (sym c.self.view_is) c.requires.fits;
    } in
    let running = ap (λ (l : Logged). l.failed) c.self.view_is ∙ c.requires.running in
    entry_next before.node before.cluster before.held before.promised before.accepted before.log c.args.entry next (c.self.invariant running)
