-- What a log that has begun gives, and what is asked of it.
use Rattle.std.proofs.Common.{◌≤◌, List, length}
use Rattle.std.specs.List.{AllByRecursion}
use Rattle.cdb_values.specs.declared.tables.TableDef.{TableDef}
use Rattle.phys_log.specs.declared.entries.Entry.{Entry}
use Rattle.phys_log.specs.declared.requests.CommitRequest.{CommitRequest}
use Rattle.log_tests.specs.Begun.{IsBegun, IsInsert, AsksInserts}

pub begun_some : (tables : List TableDef) (entries : List Entry) → IsBegun tables entries → 1 ≤ length entries
begun_some tables entries begun = begun.some

pub asks_within : (entries : List Entry) (request : CommitRequest) → AllByRecursion IsInsert request.ops → 1 ≤ request.begin
    → request.begin ≤ length entries → AsksInserts entries request
asks_within entries request inserts begun within = record { inserts = inserts; begun = begun; within = within }
