-- What a session asks at its commit: nothing where it has no operations.
--
-- The versions that it used are those that its operations take away, in their order, and then those that SELECTV used,
-- without repeats.
use Rattle.std.specs.Prelude.{◌++◌, ◌∷◌, [], List, Option, Some, None}
use Rattle.cdb_values.specs.Changes.{taken_by}
use Rattle.cdb_values.specs.declared.items.GenidItem.{GenidItem}
use Rattle.cdb_values.specs.declared.rows.RowOp.{RowOp}
use Rattle.phys_log.specs.declared.requests.CommitRequest.{CommitRequest}
use Rattle.osql_session.specs.Items.{without_repeats}
use Rattle.osql_session.specs.Sessions.{Session}

-- the versions that operations and SELECTV used
abbrev pub versions_used : List RowOp → List GenidItem → List GenidItem
versions_used ops genids = without_repeats (taken_by ops ++ genids)

-- the request of a session, with these operations
abbrev pub request_with : Session → List RowOp → CommitRequest
request_with s ops = record { id = s.id; begin = s.begin; level = s.level; ops = ops; genids = versions_used ops s.genids; ranges = s.ranges }

abbrev pub request_if : Session → List RowOp → Option CommitRequest
request_if s [] = None
request_if s (op ∷ ops) = Some (request_with s (op ∷ ops))

-- what a session asks
abbrev pub request_of : Session → Option CommitRequest
request_of s = request_if s s.ops
