-- A worked example: the table t(id integer not null, v integer) of the worked examples of answers, with the versions
-- 3 and 5, and the same rows where one genid stands twice.
use Rattle.std.specs.Prelude.{List, [], ◌∷◌, None, Ok}
use Rattle.cdb_values.specs.Rows.{Rows}
use Rattle.cdb_values.specs.declared.rows.RowOp.{RowOp}
use Rattle.cdb_values.specs.declared.rows.RowOp.TheVariants.{Insert, Update, Delete}
use Rattle.cdb_values.specs.declared.rows.RowRef.TheVariants.{Base}
use Rattle.cdb_values.specs.declared.rows.Version.{Version}
use Rattle.sql_answer.specs.Answers.{answer, ops_after}
use Rattle.sql_answer.specs.Worked.{int, schema, version_of_two}
use Rattle.sql_bind.specs.Bound.{BoundStatement, DeleteFrom}

-- t with two versions, and two tables without rows
abbrev pub two : List (List Version)
two = (version_of_two 3 (int 1) (int 10) ∷ version_of_two 5 (int 2) (int 20) ∷ []) ∷ [] ∷ [] ∷ []

-- two rows under one genid
abbrev pub twice : List (List Version)
twice = (version_of_two 3 (int 1) (int 10) ∷ version_of_two 3 (int 2) (int 20) ∷ []) ∷ [] ∷ [] ∷ []

abbrev pub rows : Rows
rows = record { tables = two; next = 6 }

-- the operations behind a statement
abbrev pub behind : List (List Version) → List RowOp → BoundStatement → List RowOp
behind versions done statement = ops_after done (answer schema versions done (Ok statement))

-- both rows are updated
abbrev pub both_updated : List RowOp
both_updated =
    Update 0 (Base 3) (int 1 ∷ int 10 ∷ []) (int 1 ∷ int 11 ∷ [])
    ∷ Update 0 (Base 5) (int 2 ∷ int 20 ∷ []) (int 2 ∷ int 21 ∷ []) ∷ []

-- delete from t
abbrev pub delete_all : BoundStatement
delete_all = DeleteFrom 0 None

-- both rows are deleted
abbrev pub both_deleted : List RowOp
both_deleted = Delete 0 (Base 3) (int 1 ∷ int 10 ∷ []) ∷ Delete 0 (Base 5) (int 2 ∷ int 20 ∷ []) ∷ []

-- two operations with one target
abbrev pub deleted_twice : List RowOp
deleted_twice = Delete 0 (Base 3) (int 1 ∷ int 10 ∷ []) ∷ Delete 0 (Base 3) (int 2 ∷ int 20 ∷ []) ∷ []

-- what another transaction did: a row more, or a row less
abbrev pub one_more : List RowOp
one_more = Insert 0 (int 3 ∷ int 30 ∷ []) ∷ []

abbrev pub one_less : List RowOp
one_less = Delete 0 (Base 5) (int 2 ∷ int 20 ∷ []) ∷ []
