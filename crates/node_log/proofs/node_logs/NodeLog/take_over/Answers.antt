use Rattle.std.proofs.Common.{◌<◌, ◌^◌, List, refl, sym, ap, ◌∙◌, subst, rules}
use Rattle.std.specs.List.{flat_map}
use Rattle.frame_code.specs.Codes.{frame_code}
use Rattle.phys_log.specs.declared.entries.Entry.{Entry}
use Rattle.store_log.specs.Keeps.{AreLeft}
use Rattle.node_log.specs.Logged.{Logged, IsInStep}
use Rattle.node_log.specs.Taken.{take_frames}
use Rattle.node_log.proofs.TakeLemmas.{IsTaken, take_next, take_in_step, take_left}
use Rattle.node_log.proofs.StepLemmas.{same_kept}
use Rattle.node_log.proofs.node_logs.NodeLog.take_over.Goals as goal

pub keep_taken-requires-clause-next : goal.keep_taken-requires-clause-next
keep_taken-requires-clause-next g c =
    let before = c.self.inside in
    let cut : c.args.kept < 2 ^ 62 = search rules in
    let asked : IsTaken before.promised before.accepted c.args.generation c.args.kept before.log c.args.entries.items =
    subst (λ (l : Logged). IsTaken l.promised l.accepted c.args.generation c.args.kept l.entries c.args.entries.items) (sym c.self.view_is) (record {
      promised = c.requires.promised;
      accepted = c.requires.accepted;
      number = c.requires.number;
      cut = cut;
      within = c.requires.within;
      log = c.requires.fits;
      spelled = c.requires.spelled;
    }) in
    let running = ap (λ (l : Logged). l.failed) c.self.view_is ∙ c.requires.running in
    take_next before.node before.cluster before.held before.promised before.accepted c.args.generation c.args.kept before.log c.args.entries.items
    (flat_map frame_code (take_frames before.promised c.args.generation c.args.kept c.args.entries.items)) asked refl (c.self.invariant running)

pub invariant_of-self : goal.invariant_of-self
invariant_of-self g c running =
    let before = c.self.inside in
    let cut : c.args.kept < 2 ^ 62 = search rules in
    let asked : IsTaken before.promised before.accepted c.args.generation c.args.kept before.log c.args.entries.items =
    subst (λ (l : Logged). IsTaken l.promised l.accepted c.args.generation c.args.kept l.entries c.args.entries.items) (sym c.self.view_is) (record {
      promised = c.requires.promised;
      accepted = c.requires.accepted;
      number = c.requires.number;
      cut = cut;
      within = c.requires.within;
      log = c.requires.fits;
      spelled = c.requires.spelled;
    }) in
    subst (λ (es : List Entry). IsInStep before.node before.cluster c.keep_taken.new.held c.args.generation c.args.generation es)
    (sym c.in-Ok.ensures.taken)
    (take_in_step before.node before.cluster before.held c.keep_taken.new.held before.promised before.accepted c.args.generation c.args.kept before.log c.args.entries.items
    (flat_map frame_code (take_frames before.promised c.args.generation c.args.kept c.args.entries.items)) asked refl c.in-Ok.ensures.kept (c.self.invariant running))

pub returns-in-Err-StoreFault-clause-left : goal.returns-in-Err-StoreFault-clause-left
returns-in-Err-StoreFault-clause-left g c told =
    let now = c.args.self.now in
    let cut : c.args.kept < 2 ^ 62 = search rules in
    let asked : IsTaken now.promised now.accepted c.args.generation c.args.kept now.entries c.args.entries.items = record {
      promised = c.requires.promised;
      accepted = c.requires.accepted;
      number = c.requires.number;
      cut = cut;
      within = c.requires.within;
      log = c.requires.fits;
      spelled = c.requires.spelled;
    } in
    let bytes = flat_map frame_code (take_frames now.promised c.args.generation c.args.kept c.args.entries.items) in
    let left : AreLeft now.store c.keep_taken.new.held bytes =
    subst (λ (l : Logged). AreLeft l.store c.keep_taken.new.held (flat_map frame_code (take_frames l.promised c.args.generation c.args.kept c.args.entries.items))) c.self.view_is
    (rw c.in-Err-StoreFault.field-0-is at c.in-Err-StoreFault.ensures.kept) in
    take_left now c.keep_taken.new.held c.args.generation c.args.kept c.args.entries.items bytes asked refl left (same_kept c.self.view_is c.self.invariant c.requires.running)
