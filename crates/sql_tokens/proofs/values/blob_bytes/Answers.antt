use Rattle.std.proofs.Common.{sym, ◌∙◌, arith}
use Rattle.sql_tokens.proofs.ValueLemmas.{blob_turn, blob_wrong, blob_last, blob_odd, blob_never, empty_of}
use Rattle.sql_tokens.proofs.values.blob_bytes.Goals as goal

pub digits-preserved : goal.digits-preserved
digits-preserved c = record {
  within = omega (arith, c.in-Some.ensures.cases.1, c.in-Some-split_first.ensures.cases.1, c.digits.invariant.within);
  same = blob_turn c.args.after.now c.digits.rest.now c.in-Some.behind.now c.in-Some-split_first.further.now c.digits.items.items c.push.new.self.items c.in-Some.high.now c.in-Some-split_first.low.now c.in-Some-hex_byte.byte
      c.in-Some.ensures.cases.0 c.in-Some-split_first.ensures.cases.0 (sym c.is_quote.ensures ∙ c.if-is_quote.false) c.in-Some-hex_byte.ensures c.in_ok-push.ensures.items c.digits.invariant.same;
}

pub returns-then-is_quote-clause-value : goal.returns-then-is_quote-clause-value
returns-then-is_quote-clause-value c =
    rw c.from_vec.ensures (blob_last c.args.after.now c.digits.rest.now c.in-Some.behind.now c.digits.items.items c.in-Some.high.now
    c.in-Some.ensures.cases.0 (sym c.is_quote.ensures ∙ c.if-is_quote.true) c.digits.invariant.same)

pub returns-in_default-split_first-clause-value : goal.returns-in_default-split_first-clause-value
returns-in_default-split_first-clause-value c =
    blob_odd c.args.after.now c.digits.rest.now c.in-Some.behind.now c.digits.items.items c.in-Some.high.now
    c.in-Some.ensures.cases.0 (empty_of c.in-Some.behind.now c.in_default-split_first.ensures.cases) (sym c.is_quote.ensures ∙ c.if-is_quote.false) c.digits.invariant.same

pub returns-in_default-hex_byte-clause-value : goal.returns-in_default-hex_byte-clause-value
returns-in_default-hex_byte-clause-value c =
    blob_wrong c.args.after.now c.digits.rest.now c.in-Some.behind.now c.in-Some-split_first.further.now c.digits.items.items c.in-Some.high.now c.in-Some-split_first.low.now
    c.in-Some.ensures.cases.0 c.in-Some-split_first.ensures.cases.0 (sym c.is_quote.ensures ∙ c.if-is_quote.false) c.in_default-hex_byte.ensures c.digits.invariant.same

pub returns-clause-value : goal.returns-clause-value
returns-clause-value c = blob_never c.args.after.now c.digits.rest.now c.digits.items.items (empty_of c.digits.rest.now c.in_default.ensures.cases) c.digits.invariant.same
