-- Lines that grow.
use Rattle.std.proofs.Common.{◌≡◌, List, [], ◌++◌, ap, ◌∙◌, append_assoc, sym}
use Rattle.std.proofs.lemmas.List.{append-nil}
use Rattle.report_text.specs.declared.reports.Line.{Line}
use Rattle.script_play.specs.Effects.{Grown}

pub grown_more : (old mid new more : List Line) → Grown old mid → new ≡ mid ++ more → Grown old new
grown_more old mid new more (first, is) grows = (first ++ more, grows ∙ ap (λ ls. ls ++ more) is ∙ append_assoc old first more)

pub grown_none : (old : List Line) → Grown old old
grown_none old = ([], sym (append-nil old))

pub grown_same : (old mid new : List Line) → Grown old mid → new ≡ mid → Grown old new
grown_same old mid new (first, is) same = (first, same ∙ is)
