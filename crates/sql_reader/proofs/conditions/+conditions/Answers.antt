-- One part stands as itself. Each turn of a loop reads a word and a part.
use Rattle.std.proofs.Common.{◌≡◌, ◌+◌, ◌≤◌, true, false, ◌∷◌, ◌++◌, [], map, length, not, refl, sym, ap, subst, ◌∙◌, arith, length-append, true≢false}
use Rattle.std.proofs.lemmas.Result.{err_from_is_err_and}
use Rattle.std.proofs.lemmas.List.{map_push, length-map}
use Rattle.grammar_forms.specs.Forms.{Read, many}
use Rattle.grammar_forms.specs.Parts.{After, after, word}
use Rattle.grammar_forms.proofs.Repeat.{part_takes}
use Rattle.grammar_forms.proofs.Loops.{with_front, loop_turn}
use Rattle.sql_tokens.specs.declared.kinds.Keyword.TheVariants as words
use Rattle.sql_tokens.specs.declared.kinds.Sign.TheVariants as sign
use Rattle.sql_grammar.specs.Trees.{AllOf, AnyOf, NotOf, Grouped, conds}
use Rattle.sql_grammar.specs.Words.{kind, keyword, sign_is}
use Rattle.sql_grammar.specs.Grammar.{NotS, AndS}
use Rattle.sql_grammar.specs.Readers.{not_r, and_r, condition_r}
use Rattle.sql_grammar.specs.Views.{condition_in}
use Rattle.sql_grammar.proofs.OperandLaws.{after_word}
use Rattle.sql_grammar.proofs.ConditionLaws.{exact_not, exact_all}
use Rattle.sql_reader.specs.Gives.{Gives}
use Rattle.sql_reader.proofs.StepLemmas.{after_read, after_fails}
use Rattle.sql_reader.proofs.JoinedLemmas.{first_fails, joined_one, joined_all, joined_fails, seen_and, seen_or, seen_not, seen_group}
use Rattle.sql_reader.proofs.LevelLemmas.{take_not, take_group}
use Rattle.sql_reader.proofs.conditions.+conditions.Goals as goal

not_true : (b : _) → not b ≡ true → b ≡ false
not_true true e = absurd (true≢false (sym e))
not_true false e = refl

pub all_of-returns-in_err-first : goal.all_of-returns-in_err-first
unfolding and_r
all_of-returns-in_err-first t c =
    let stop = err_from_is_err_and c.from_residual.result c.from_residual.ensures.1 in
    rw (stop.1, stop.2) (first_fails AllOf (keyword words.And) (NotS c.args.levels) (not_r c.args.levels) (after_word words.And refl (exact_not c.args.levels)) c.in_err-first.field-0.0 c.args.tokens.now c.in_err-first.ensures)

pub all_of-returns-then-not-is_next : goal.all_of-returns-then-not-is_next
unfolding and_r
all_of-returns-then-not-is_next t c =
    joined_one AllOf (keyword words.And) (NotS c.args.levels) (not_r c.args.levels) (after_word words.And refl (exact_not c.args.levels)) c.args.tokens.now (condition_in c.in_ok-first.first) c.in_ok-first.after.now
    c.in_ok-first.ensures (sym c.is_next.ensures ∙ c.if-not-is_next.true)

pub all_of-returns-in_err-part : goal.all_of-returns-in_err-part
unfolding and_r
all_of-returns-in_err-part t c =
    let stop = err_from_is_err_and c.from_residual-in_err-part.result c.from_residual-in_err-part.ensures.1 in
    rw (stop.1, stop.2)
    (joined_fails AllOf (keyword words.And) (NotS c.args.levels) (not_r c.args.levels) (after_word words.And refl (exact_not c.args.levels)) c.in_err-part.field-0.0 (map condition_in c.parts.parts.items) c.args.tokens.now c.parts.rest.now
    c.parts.invariant.reads (sym c.is_next-in-parts.ensures ∙ c.parts-test.true)
    (after_fails (keyword words.And) (not_r c.args.levels) c.parts.rest.now c.in_ok-expect.field-0.now c.in_ok-expect.ensures c.in_err-part.field-0.0 c.in_err-part.ensures))

pub all_of-parts-smaller : goal.all_of-parts-smaller
all_of-parts-smaller t c =
    part_takes kind (keyword words.And) (After (keyword words.And) (NotS c.args.levels)) (after (keyword words.And) (not_r c.args.levels)) (after_word words.And refl (exact_not c.args.levels))
    c.parts.rest.now (condition_in c.in_ok-part.part) c.in_ok-part.behind.now
    (after_read (keyword words.And) (not_r c.args.levels) c.parts.rest.now c.in_ok-expect.field-0.now c.in_ok-expect.ensures (condition_in c.in_ok-part.part) c.in_ok-part.behind.now c.in_ok-part.ensures)

pub all_of-parts-preserved : goal.all_of-parts-preserved
all_of-parts-preserved t c =
    let all : map condition_in c.push-in-parts.new.self.items ≡ map condition_in c.parts.parts.items ++ condition_in c.in_ok-part.part ∷ [] = rw c.in_ok-push-2.ensures.items (map_push condition_in c.parts.parts.items c.in_ok-part.part) in
    let one_more : length c.push-in-parts.new.self.items ≡ length c.parts.parts.items + 1 = ap length c.in_ok-push-2.ensures.items ∙ length-append c.parts.parts.items (c.in_ok-part.part ∷ []) in
    let before : 1 ≤ length c.parts.parts.items = c.parts.invariant.some in
    record {
      reads = c.parts.invariant.reads
          ∙ loop_turn kind (keyword words.And) (After (keyword words.And) (NotS c.args.levels)) (after (keyword words.And) (not_r c.args.levels)) (after_word words.And refl (exact_not c.args.levels))
          (map condition_in c.parts.parts.items) c.parts.rest.now (condition_in c.in_ok-part.part) c.in_ok-part.behind.now (sym c.is_next-in-parts.ensures ∙ c.parts-test.true)
          (after_read (keyword words.And) (not_r c.args.levels) c.parts.rest.now c.in_ok-expect.field-0.now c.in_ok-expect.ensures (condition_in c.in_ok-part.part) c.in_ok-part.behind.now c.in_ok-part.ensures)
          ∙ ap (λ l. with_front l (many (keyword words.And) (after (keyword words.And) (not_r c.args.levels)) c.in_ok-part.behind.now)) (sym all);
      some = omega (arith, one_more, before);
      two = λ h. omega (arith, one_more, before);
    }

pub all_of-returns : goal.all_of-returns
unfolding and_r
all_of-returns t c =
    let two : 2 ≤ length c.parts.parts.items = c.parts.invariant.two (sym c.is_next-in-parts.ensures ∙ c.parts-test.false) in
    let seen : 2 ≤ length (map condition_in c.parts.parts.items) = omega (arith, two, length-map c.parts.parts.items condition_in) in
    joined_all AllOf (keyword words.And) (NotS c.args.levels) (not_r c.args.levels) (after_word words.And refl (exact_not c.args.levels)) (map condition_in c.parts.parts.items) c.args.tokens.now c.parts.rest.now
    c.parts.invariant.reads (sym c.is_next-in-parts.ensures ∙ c.parts-test.false) seen
    ∙ ap (λ v. Read (AllOf (conds (map condition_in v.items))) c.parts.rest.now) (sym c.from_vec.ensures)
    ∙ ap (λ d. Read d c.parts.rest.now) (sym (seen_and c.from_vec.result))

pub any_of-returns-in_err-first : goal.any_of-returns-in_err-first
unfolding and_r condition_r
any_of-returns-in_err-first t c =
    let stop = err_from_is_err_and c.from_residual.result c.from_residual.ensures.1 in
    rw (stop.1, stop.2) (first_fails AnyOf (keyword words.Or) (AndS (NotS c.args.levels)) (and_r c.args.levels) (after_word words.Or refl (exact_all c.args.levels)) c.in_err-first.field-0.0 c.args.tokens.now c.in_err-first.ensures)

pub any_of-returns-then-not-is_next : goal.any_of-returns-then-not-is_next
unfolding and_r condition_r
any_of-returns-then-not-is_next t c =
    joined_one AnyOf (keyword words.Or) (AndS (NotS c.args.levels)) (and_r c.args.levels) (after_word words.Or refl (exact_all c.args.levels)) c.args.tokens.now (condition_in c.in_ok-first.first) c.in_ok-first.after.now
    c.in_ok-first.ensures (sym c.is_next.ensures ∙ c.if-not-is_next.true)

pub any_of-returns-in_err-part : goal.any_of-returns-in_err-part
unfolding and_r condition_r
any_of-returns-in_err-part t c =
    let stop = err_from_is_err_and c.from_residual-in_err-part.result c.from_residual-in_err-part.ensures.1 in
    rw (stop.1, stop.2)
    (joined_fails AnyOf (keyword words.Or) (AndS (NotS c.args.levels)) (and_r c.args.levels) (after_word words.Or refl (exact_all c.args.levels)) c.in_err-part.field-0.0 (map condition_in c.parts.parts.items) c.args.tokens.now c.parts.rest.now
    c.parts.invariant.reads (sym c.is_next-in-parts.ensures ∙ c.parts-test.true)
    (after_fails (keyword words.Or) (and_r c.args.levels) c.parts.rest.now c.in_ok-expect.field-0.now c.in_ok-expect.ensures c.in_err-part.field-0.0 c.in_err-part.ensures))

pub any_of-parts-smaller : goal.any_of-parts-smaller
any_of-parts-smaller t c =
    part_takes kind (keyword words.Or) (After (keyword words.Or) (AndS (NotS c.args.levels))) (after (keyword words.Or) (and_r c.args.levels)) (after_word words.Or refl (exact_all c.args.levels))
    c.parts.rest.now (condition_in c.in_ok-part.part) c.in_ok-part.behind.now
    (after_read (keyword words.Or) (and_r c.args.levels) c.parts.rest.now c.in_ok-expect.field-0.now c.in_ok-expect.ensures (condition_in c.in_ok-part.part) c.in_ok-part.behind.now c.in_ok-part.ensures)

pub any_of-parts-preserved : goal.any_of-parts-preserved
any_of-parts-preserved t c =
    let all : map condition_in c.push-in-parts.new.self.items ≡ map condition_in c.parts.parts.items ++ condition_in c.in_ok-part.part ∷ [] = rw c.in_ok-push-2.ensures.items (map_push condition_in c.parts.parts.items c.in_ok-part.part) in
    let one_more : length c.push-in-parts.new.self.items ≡ length c.parts.parts.items + 1 = ap length c.in_ok-push-2.ensures.items ∙ length-append c.parts.parts.items (c.in_ok-part.part ∷ []) in
    let before : 1 ≤ length c.parts.parts.items = c.parts.invariant.some in
    record {
      reads = c.parts.invariant.reads
          ∙ loop_turn kind (keyword words.Or) (After (keyword words.Or) (AndS (NotS c.args.levels))) (after (keyword words.Or) (and_r c.args.levels)) (after_word words.Or refl (exact_all c.args.levels))
          (map condition_in c.parts.parts.items) c.parts.rest.now (condition_in c.in_ok-part.part) c.in_ok-part.behind.now (sym c.is_next-in-parts.ensures ∙ c.parts-test.true)
          (after_read (keyword words.Or) (and_r c.args.levels) c.parts.rest.now c.in_ok-expect.field-0.now c.in_ok-expect.ensures (condition_in c.in_ok-part.part) c.in_ok-part.behind.now c.in_ok-part.ensures)
          ∙ ap (λ l. with_front l (many (keyword words.Or) (after (keyword words.Or) (and_r c.args.levels)) c.in_ok-part.behind.now)) (sym all);
      some = omega (arith, one_more, before);
      two = λ h. omega (arith, one_more, before);
    }

pub any_of-returns : goal.any_of-returns
unfolding and_r condition_r
any_of-returns t c =
    let two : 2 ≤ length c.parts.parts.items = c.parts.invariant.two (sym c.is_next-in-parts.ensures ∙ c.parts-test.false) in
    let seen : 2 ≤ length (map condition_in c.parts.parts.items) = omega (arith, two, length-map c.parts.parts.items condition_in) in
    joined_all AnyOf (keyword words.Or) (AndS (NotS c.args.levels)) (and_r c.args.levels) (after_word words.Or refl (exact_all c.args.levels)) (map condition_in c.parts.parts.items) c.args.tokens.now c.parts.rest.now
    c.parts.invariant.reads (sym c.is_next-in-parts.ensures ∙ c.parts-test.false) seen
    ∙ ap (λ v. Read (AnyOf (conds (map condition_in v.items))) c.parts.rest.now) (sym c.from_vec.ensures)
    ∙ ap (λ d. Read d c.parts.rest.now) (sym (seen_or c.from_vec.result))

pub not-returns-then-is_next : goal.not-returns-then-is_next
not-returns-then-is_next t c =
    take_not c.args.levels c.args.tokens.now c.in_ok-expect.field-0.now (condition_in c.in_ok-inner.inner) (omega arith) c.in_ok-inner.rest.now
    (sym c.is_next.ensures ∙ c.if-is_next.true) c.in_ok-expect.ensures c.in_ok-inner.ensures
    ∙ ap (λ d. Read d c.in_ok-inner.rest.now) (sym (seen_not c.in_ok-new.field-0 ∙ ap (λ d. NotOf (condition_in d)) c.in_ok-new.ensures.ok))

pub not-returns-then-is_sign : goal.not-returns-then-is_sign
not-returns-then-is_sign t c =
    let closed : word (sign_is sign.Close) c.in_ok-inner-2.rest.now ≡ Read tt c.in_ok-inner-3.rest.now = subst (λ r. Gives (λ _. tt) (λ x. x.now) r (word (sign_is sign.Close) c.in_ok-inner-2.rest.now)) c.in_ok-inner-3.ensures.1 c.expect_sign-then-is_sign.ensures in
    take_group c.args.levels c.args.tokens.now c.in_ok-expect_sign.field-0.now (condition_in c.in_ok-inner-2.inner) (omega arith) c.in_ok-inner-2.rest.now c.in_ok-inner-3.rest.now
    (sym c.is_next.ensures ∙ c.if-is_next.false) (sym c.is_sign.ensures ∙ c.if-is_sign.true) c.in_ok-expect_sign.ensures c.in_ok-inner-2.ensures closed
    ∙ ap (λ d. Read d c.in_ok-inner-3.rest.now) (sym (seen_group c.in_ok-new-2.field-0 ∙ ap (λ d. Grouped (condition_in d)) (c.in_ok-new-2.ensures.ok ∙ c.in_ok-inner-3.ensures.0)))
