-- Each turn reads a part.
use Rattle.std.proofs.Common.{◌≡◌, ◌∷◌, ◌++◌, [], map, sym, ap, subst, ◌∙◌}
use Rattle.std.proofs.lemmas.Result.{err_from_is_err_and}
use Rattle.std.proofs.lemmas.List.{map_push}
use Rattle.grammar_forms.specs.Forms.{Read, many}
use Rattle.grammar_forms.proofs.Repeat.{part_takes}
use Rattle.grammar_forms.proofs.Loops.{with_front, loop_turn, loop_end}
use Rattle.sql_grammar.specs.Words.{kind}
use Rattle.sql_reader.specs.Gives.{Fails}
use Rattle.sql_reader.proofs.StepLemmas.{loop_fails}
use Rattle.sql_reader.proofs.lists.series.Goals as goal

pub returns-in_err-item : goal.returns-in_err-item
returns-in_err-item g c =
    let stop = err_from_is_err_and c.from_residual.result c.from_residual.ensures.1 in
    rw (stop.1, stop.2)
    (subst (Fails c.in_err-item.field-0.0) (sym c.parts.invariant)
    (loop_fails kind g.R.Told.test g.R.Rule.spells g.R.Rule.reads g.met.R.Rule.exact c.in_err-item.field-0.0
    (map g.R.Rule.value c.parts.items.items) c.parts.rest.now (sym c.is_told.ensures ∙ c.parts-test.true) c.in_err-item.ensures))

pub parts-smaller : goal.parts-smaller
parts-smaller g c =
    part_takes kind g.R.Told.test g.R.Rule.spells g.R.Rule.reads g.met.R.Rule.exact c.parts.rest.now (g.R.Rule.value c.in_ok-item.item) c.in_ok-item.behind.now c.in_ok-item.ensures

pub parts-preserved : goal.parts-preserved
parts-preserved g c =
    let value = g.R.Rule.value in
    let all : map value c.push.new.self.items ≡ map value c.parts.items.items ++ value c.in_ok-item.item ∷ [] = rw c.in_ok-push.ensures.items (map_push value c.parts.items.items c.in_ok-item.item) in
    c.parts.invariant
    ∙ loop_turn kind g.R.Told.test g.R.Rule.spells g.R.Rule.reads g.met.R.Rule.exact
    (map value c.parts.items.items) c.parts.rest.now (value c.in_ok-item.item) c.in_ok-item.behind.now (sym c.is_told.ensures ∙ c.parts-test.true) c.in_ok-item.ensures
    ∙ ap (λ l. with_front l (many g.R.Told.test g.R.Rule.reads c.in_ok-item.behind.now)) (sym all)

pub returns : goal.returns
returns g c =
    c.parts.invariant
    ∙ loop_end kind g.R.Told.test g.R.Rule.spells g.R.Rule.reads g.met.R.Rule.exact (map g.R.Rule.value c.parts.items.items) c.parts.rest.now (sym c.is_told.ensures ∙ c.parts-test.false)
    ∙ ap (λ v. Read (map g.R.Rule.value v.items) c.parts.rest.now) (sym c.from_vec.ensures)
