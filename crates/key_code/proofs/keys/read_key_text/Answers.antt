use Rattle.std.proofs.Common.{◌≡◌, ◌++◌, rules}
use Rattle.std.specs.Str.{IsUtf8}
use Rattle.key_code.specs.Codes.{ended}
use Rattle.key_code.proofs.JoinedLaws.{key_no_text}
use Rattle.key_code.proofs.keys.read_key_text.Goals as goal

pub returns-then-not-is_text : goal.returns-then-not-is_text
returns-then-not-is_text c =
    let here : ended c.in-Some.found.bytes.items ++ c.in-Some.found.rest.now ≡ c.args.rest.now = search rules in
    let no : IsUtf8 c.in-Some.found.bytes.items → ⊥ = search rules in
    key_no_text c.in-Some.found.bytes.items c.in-Some.found.rest.now c.args.rest.now here no
