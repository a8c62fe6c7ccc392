use Rattle.std.proofs.Common.{sym, ◌∙◌, ap, arith, length}
use Rattle.sql_tokens.proofs.ValueLemmas.{text_turn, text_doubled_turn, text_last, text_never, empty_of}
use Rattle.sql_tokens.proofs.values.text_bytes.Goals as goal

pub characters-preserved-then-not-is_quote : goal.characters-preserved-then-not-is_quote
characters-preserved-then-not-is_quote c = record {
  within = omega (arith, c.in-Some.ensures.cases.1, c.characters.invariant.within);
  same = text_turn c.args.after.now c.characters.rest.now c.in-Some.behind.now c.characters.items.items c.push.new.self.items c.in-Some.first.now
      c.in-Some.ensures.cases.0 (sym c.is_quote.ensures ∙ c.if-not-is_quote.true) c.in_ok-push.ensures.items c.characters.invariant.same;
}

pub characters-preserved : goal.characters-preserved
characters-preserved c = record {
  within = omega (arith, c.in-Some.ensures.cases.1, c.characters.invariant.within, ap length c.in-Some-after_quote.ensures.some);
  same = text_doubled_turn c.args.after.now c.characters.rest.now c.in-Some.behind.now c.in-Some-after_quote.behind_both.now c.characters.items.items c.push-in-Some.new.self.items c.in-Some.first.now
      c.in-Some.ensures.cases.0 c.in-Some-after_quote.ensures.some (sym c.is_quote.ensures ∙ c.if-not-is_quote.false) c.in_ok-push-2.ensures.items c.characters.invariant.same;
}

pub returns-in_default-after_quote-clause-value : goal.returns-in_default-after_quote-clause-value
returns-in_default-after_quote-clause-value c =
    rw c.from_vec.ensures (text_last c.args.after.now c.characters.rest.now c.in-Some.behind.now c.characters.items.items c.in-Some.first.now
    c.in-Some.ensures.cases.0 (sym c.is_quote.ensures ∙ c.if-not-is_quote.false) c.in_default-after_quote.ensures.none c.characters.invariant.same)

pub returns-clause-value : goal.returns-clause-value
returns-clause-value c = text_never c.args.after.now c.characters.rest.now c.characters.items.items (empty_of c.characters.rest.now c.in_default.ensures.cases) c.characters.invariant.same
