use Rattle.std.proofs.Common.{◌≡◌, ◌++◌, map, drop}
use Rattle.sql_grammar.specs.Views.{key_in}
use Rattle.sql_bind.specs.Meaning.{bound_key}
use Rattle.sql_bind.specs.Seen.{visible_in}
use Rattle.sql_bind.proofs.queries.keys.Given as goal

abbrev pub invariant-keys : goal.invariant-keys
invariant-keys l = l.bound ++ map (bound_key (map visible_in l.scope)) (map key_in (drop l.key-index l.keys)) ≡ map (bound_key (map visible_in l.scope)) (map key_in l.keys)
