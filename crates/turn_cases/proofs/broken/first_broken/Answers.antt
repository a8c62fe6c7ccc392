use Rattle.std.proofs.Common.{◌≡◌, ◌∷◌, ◌∙◌, sym, ap, length, drop, arith, rules}
use Rattle.cdb_values.specs.Good.{first_broken}
use Rattle.turn_cases.proofs.BrokenLemmas.{found_key, no_key, none_more}
use Rattle.turn_cases.proofs.broken.first_broken.Goals as goal

pub returns-in-Some-broken_key : goal.returns-in-Some-broken_key
returns-in-Some-broken_key c =
    let rest : c.as_slice.result.now ∷ c.in-Some.after.now ≡ c.tables.rest.now = search rules in
    found_key c.args.schema.now c.tables.table c.in-Some-broken_key.key c.keys.result.now c.as_slice.result.now c.in-Some.after.now c.keys.ensures.keys
    c.in-Some-broken_key.ensures.within c.in-Some-broken_key.ensures.key
    ∙ ap (first_broken (drop c.tables.table c.args.schema.now)) rest ∙ c.tables.invariant.0

pub tables-preserved : goal.tables-preserved
tables-preserved c =
    let rest : c.as_slice.result.now ∷ c.in-Some.after.now ≡ c.tables.rest.now = search rules in (
      sym (no_key c.args.schema.now c.tables.table c.keys.result.now c.as_slice.result.now c.in-Some.after.now c.keys.ensures.keys c.in_default-broken_key.ensures.key)
          ∙ ap (first_broken (drop c.tables.table c.args.schema.now)) rest ∙ c.tables.invariant.0,
      omega (arith, ap length rest, c.tables.invariant.1),
    )

pub returns : goal.returns
returns c = none_more _ _ _ c.in_default.ensures.cases c.tables.invariant.0
