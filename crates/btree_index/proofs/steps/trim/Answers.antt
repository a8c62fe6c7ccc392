use Rattle.std.proofs.Common.{◌≡◌, ◌≤◌, ℕ, length, sym, ap, ◌∙◌, subst, arith}
use Rattle.std.proofs.lemmas.Option.{same_Some}
use Rattle.page_store.specs.Image.{Image}
use Rattle.page_workspace.specs.Drafts.{meant}
use Rattle.btree_index.specs.Steps.{Trimming}
use Rattle.btree_index.proofs.StepLemmas.{trimming_begins, trimming_more, trimming_ends}
use Rattle.btree_index.proofs.steps.trim.Goals as goal

pub trimming-init : goal.trimming-init
trimming-init g c =
    let old = meant g.P.PageSource.pages c.args.space.now in
    record {
      trimming = subst (λ (f : ℕ → Image). Trimming old f c.args.id c.args.at c.args.at) (sym c.in_ok-load_to_edit.ensures.pages)
          (trimming_begins old c.args.id c.args.at);
      base = c.in_ok-load_to_edit.ensures.base;
      losses = c.in_ok-load_to_edit.ensures.excused;
    }

pub trimming-preserved : goal.trimming-preserved
trimming-preserved g c =
    let rose : g.P.PageSource.losses c.trimming.space.base ≤ g.P.PageSource.losses c.take_at.new.space.base = c.in_ok-take_at.ensures.excused in
    let earlier : g.P.PageSource.losses c.args.space.now.base ≤ g.P.PageSource.losses c.trimming.space.base = c.trimming.invariant.losses in
    record {
      trimming = trimming_more (meant g.P.PageSource.pages c.args.space.now) (meant g.P.PageSource.pages c.trimming.space)
          (meant g.P.PageSource.pages c.take_at.new.space) c.args.id c.args.at c.trimming.counter c.trimming.invariant.trimming c.in_ok-take_at.ensures.taken;
      base = c.in_ok-take_at.ensures.base ∙ c.trimming.invariant.base;
      losses = omega arith;
    }

pub returns-clause-trimmed : goal.returns-clause-trimmed
returns-clause-trimmed g c =
    let old = meant g.P.PageSource.pages c.args.space.now in
    let page = c.page.result.now in
    let now : page ≡ old c.args.id = same_Some page (old c.args.id) (sym c.page.ensures ∙ c.in_ok-load_to_edit.ensures.loaded) in
    let count : c.count-count.result ≡ length (old c.args.id).cells = c.count-count.ensures ∙ ap (λ (i : Image). length i.cells) now in
    let all : length (old c.args.id).cells ≤ c.trimming.counter = omega arith in
    trimming_ends old (meant g.P.PageSource.pages c.trimming.space) c.args.id c.args.at c.trimming.counter c.trimming.invariant.trimming all
