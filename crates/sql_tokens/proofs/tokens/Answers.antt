use Rattle.std.proofs.Common.{◌≡◌, ◌<◌, ◌+◌, sym, ◌∙◌, ap, subst, arith, length, length-drop}
use Rattle.std.specs.Prelude.{[], ◌∷◌, ◌++◌, ◌-◌}
use Rattle.sql_tokens.specs.Spot.{spot}
use Rattle.sql_tokens.specs.Tokens.{Tokens}
use Rattle.sql_tokens.specs.Reading.{IsSoFar}
use Rattle.sql_tokens.proofs.ListLaws.{blank_step, token_step, unknown_step, last_step, next_size}
use Rattle.sql_tokens.proofs.ValueLemmas.{empty_of}
use Rattle.sql_tokens.proofs.tokens.Goals as goal

pub tokens-preserved-then-is_blank : goal.tokens-preserved-then-is_blank
tokens-preserved-then-is_blank c = record {
  within = omega (arith, c.in-Some.ensures.cases.1, c.tokens.invariant.within);
  so_far = blank_step c.as_bytes-bytes.result.now c.tokens.rest.now c.in-Some.behind.now c.in-Some.first.now c.tokens.spots
      c.in-Some.ensures.cases.0 c.tokens.invariant.within (sym c.is_blank.ensures ∙ c.if-is_blank.true) c.tokens.invariant.so_far;
}

pub returns-in_default-2 : goal.returns-in_default-2
returns-in_default-2 c =
    subst (λ x. Tokens 0 x c.push.new.self) c.as_bytes-bytes.ensures.value
    (subst (Tokens 0 c.as_bytes-bytes.result.now) (sym c.in_ok-push.ensures.ok)
    (unknown_step c.as_bytes-bytes.result.now c.tokens.rest.now c.in-Some.behind.now c.in-Some.first.now c.tokens.spots
    c.in-Some.ensures.cases.0 (sym c.is_blank.ensures ∙ c.if-is_blank.false) (sym c.in_ok-found.ensures ∙ c.in_default-2.is) c.tokens.invariant.so_far))

pub behind_token-rest-requires : goal.behind_token-rest-requires
behind_token-rest-requires c = (next_size c.tokens.rest.now c.in-Some-2.found (sym c.in_ok-found.ensures ∙ c.in-Some-2.is)).1

pub returns : goal.returns
returns c = subst (λ x. Tokens 0 x c.tokens.spots) c.as_bytes-bytes.ensures.value (last_step c.as_bytes-bytes.result.now c.tokens.rest.now c.tokens.spots (empty_of c.tokens.rest.now c.in_default.ensures.cases) c.tokens.invariant.so_far)

pub tokens-smaller : goal.tokens-smaller
tokens-smaller c =
    let s : 0 < c.in-Some-2.found.size = (next_size c.tokens.rest.now c.in-Some-2.found (sym c.in_ok-found.ensures ∙ c.in-Some-2.is)).0 in
    let n : length c.tokens.rest.now ≡ length c.in-Some.behind.now + 1 = sym c.in-Some.ensures.cases.1 in
    let e : length c.behind_token-rest.result.now ≡ length c.tokens.rest.now - c.in-Some-2.found.size = ap length c.behind_token-rest.ensures ∙ length-drop c.in-Some-2.found.size c.tokens.rest.now in
    omega arith

pub tokens-preserved : goal.tokens-preserved
tokens-preserved c = record {
  within = (let e : length c.behind_token-rest.result.now ≡ length c.tokens.rest.now - c.in-Some-2.found.size = ap length c.behind_token-rest.ensures ∙ length-drop c.in-Some-2.found.size c.tokens.rest.now in
      omega (arith, c.tokens.invariant.within));
  so_far = subst (IsSoFar c.as_bytes-bytes.result.now c.behind_token-rest.result.now) (sym c.in_ok-push-2.ensures.ok)
      (subst (λ x. IsSoFar c.as_bytes-bytes.result.now x (c.tokens.spots ++ spot (length c.as_bytes-bytes.result.now - length c.tokens.rest.now) c.in-Some-2.found.token ∷ [])) (sym c.behind_token-rest.ensures)
      (token_step c.as_bytes-bytes.result.now c.tokens.rest.now c.in-Some-2.found c.tokens.spots c.tokens.invariant.within (sym c.in_ok-found.ensures ∙ c.in-Some-2.is) c.tokens.invariant.so_far));
}
