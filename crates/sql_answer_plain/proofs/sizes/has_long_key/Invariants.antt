-- none of the keys so far is too long
use Rattle.std.proofs.Common.{◌≡◌, nat_lt, length}
use Rattle.std.specs.List.{list_any}
use Rattle.cdb_values.specs.Good.{bytes_of_key, key_of}
use Rattle.cdb_values.specs.declared.limits.TheConstants.{MOST_KEY_BYTES}
use Rattle.sql_answer_plain.proofs.sizes.has_long_key.Given as goal

abbrev pub invariant-keys : goal.invariant-keys
invariant-keys l =
    list_any (λ key. nat_lt MOST_KEY_BYTES (bytes_of_key (key_of key l.row))) l.rest
    ≡ list_any (λ key. nat_lt MOST_KEY_BYTES (bytes_of_key (key_of key l.row))) l.keys

abbrev pub decreases-keys : goal.decreases-keys
decreases-keys l = length l.rest
