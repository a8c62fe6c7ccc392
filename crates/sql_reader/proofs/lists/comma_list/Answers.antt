-- Each turn reads a comma and a part.
use Rattle.std.proofs.Common.{◌≡◌, ◌∷◌, ◌++◌, [], map, refl, sym, ap, subst, ◌∙◌}
use Rattle.std.proofs.lemmas.Result.{err_from_is_err_and}
use Rattle.std.proofs.lemmas.List.{map_push}
use Rattle.grammar_forms.specs.Forms.{Read, many}
use Rattle.grammar_forms.specs.Parts.{After, after}
use Rattle.grammar_forms.proofs.Repeat.{part_takes}
use Rattle.grammar_forms.proofs.Loops.{with_front, loop_turn, loop_end}
use Rattle.sql_tokens.specs.declared.kinds.Sign.TheVariants as sign
use Rattle.sql_grammar.specs.Words.{kind, sign_is}
use Rattle.sql_grammar.proofs.OperandLaws.{after_sign}
use Rattle.sql_reader.specs.Gives.{Fails}
use Rattle.sql_reader.proofs.StepLemmas.{after_read, after_fails, loop_fails}
use Rattle.sql_reader.proofs.lists.comma_list.Goals as goal

pub returns-in_err-item : goal.returns-in_err-item
returns-in_err-item g c =
    let stop = err_from_is_err_and c.from_residual-in_err-item.result c.from_residual-in_err-item.ensures.1 in
    rw (stop.1, stop.2)
    (subst (Fails c.in_err-item.field-0.0) (sym c.parts.invariant)
    (loop_fails kind (sign_is sign.Comma) (After (sign_is sign.Comma) g.R.Rule.spells) (after (sign_is sign.Comma) g.R.Rule.reads) (after_sign sign.Comma refl g.met.R.Rule.exact) c.in_err-item.field-0.0
    (map g.R.Rule.value c.parts.items.items) c.parts.rest.now (sym c.is_sign.ensures ∙ c.parts-test.true)
    (after_fails (sign_is sign.Comma) g.R.Rule.reads c.parts.rest.now c.in_ok-expect_sign.field-0.now c.in_ok-expect_sign.ensures c.in_err-item.field-0.0 c.in_err-item.ensures)))

pub parts-smaller : goal.parts-smaller
parts-smaller g c =
    part_takes kind (sign_is sign.Comma) (After (sign_is sign.Comma) g.R.Rule.spells) (after (sign_is sign.Comma) g.R.Rule.reads) (after_sign sign.Comma refl g.met.R.Rule.exact)
    c.parts.rest.now (g.R.Rule.value c.in_ok-item.item) c.in_ok-item.behind.now
    (after_read (sign_is sign.Comma) g.R.Rule.reads c.parts.rest.now c.in_ok-expect_sign.field-0.now c.in_ok-expect_sign.ensures (g.R.Rule.value c.in_ok-item.item) c.in_ok-item.behind.now c.in_ok-item.ensures)

pub parts-preserved : goal.parts-preserved
parts-preserved g c =
    let value = g.R.Rule.value in
    let all : map value c.push-in-parts.new.self.items ≡ map value c.parts.items.items ++ value c.in_ok-item.item ∷ [] = rw c.in_ok-push-2.ensures.items (map_push value c.parts.items.items c.in_ok-item.item) in
    c.parts.invariant
    ∙ loop_turn kind (sign_is sign.Comma) (After (sign_is sign.Comma) g.R.Rule.spells) (after (sign_is sign.Comma) g.R.Rule.reads) (after_sign sign.Comma refl g.met.R.Rule.exact)
    (map value c.parts.items.items) c.parts.rest.now (value c.in_ok-item.item) c.in_ok-item.behind.now (sym c.is_sign.ensures ∙ c.parts-test.true)
    (after_read (sign_is sign.Comma) g.R.Rule.reads c.parts.rest.now c.in_ok-expect_sign.field-0.now c.in_ok-expect_sign.ensures (value c.in_ok-item.item) c.in_ok-item.behind.now c.in_ok-item.ensures)
    ∙ ap (λ l. with_front l (many (sign_is sign.Comma) (after (sign_is sign.Comma) g.R.Rule.reads) c.in_ok-item.behind.now)) (sym all)

pub returns : goal.returns
returns g c =
    c.parts.invariant
    ∙ loop_end kind (sign_is sign.Comma) (After (sign_is sign.Comma) g.R.Rule.spells) (after (sign_is sign.Comma) g.R.Rule.reads) (after_sign sign.Comma refl g.met.R.Rule.exact)
    (map g.R.Rule.value c.parts.items.items) c.parts.rest.now (sym c.is_sign.ensures ∙ c.parts-test.false)
    ∙ ap (λ v. Read (map g.R.Rule.value v.items) c.parts.rest.now) (sym c.from_vec.ensures)
