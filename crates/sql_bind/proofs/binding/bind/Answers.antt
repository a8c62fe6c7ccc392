-- A statement that ends or begins a transaction, or sets its level, has no error.
use Rattle.std.proofs.Common.{ap}
use Rattle.sql_grammar.specs.Views.{statement_in}
use Rattle.sql_bind.specs.Binding.{binding}
use Rattle.sql_bind.specs.Meaning.{bound_as}
use Rattle.sql_bind.proofs.binding.bind.Goals as goal

pub returns-in-Begin-clause-bound : goal.returns-in-Begin-clause-bound
unfolding binding bound_as
returns-in-Begin-clause-bound c = ap (λ s. binding c.args.schema.now (statement_in s)) c.in-Begin.is

pub returns-in-Commit-clause-bound : goal.returns-in-Commit-clause-bound
unfolding binding bound_as
returns-in-Commit-clause-bound c = ap (λ s. binding c.args.schema.now (statement_in s)) c.in-Commit.is

pub returns-in-Rollback-clause-bound : goal.returns-in-Rollback-clause-bound
unfolding binding bound_as
returns-in-Rollback-clause-bound c = ap (λ s. binding c.args.schema.now (statement_in s)) c.in-Rollback.is

pub returns-in-SetSnapshot-clause-bound : goal.returns-in-SetSnapshot-clause-bound
unfolding binding bound_as
returns-in-SetSnapshot-clause-bound c = ap (λ s. binding c.args.schema.now (statement_in s)) c.in-SetSnapshot.is

pub returns-in-SetSerializable-clause-bound : goal.returns-in-SetSerializable-clause-bound
unfolding binding bound_as
returns-in-SetSerializable-clause-bound c = ap (λ s. binding c.args.schema.now (statement_in s)) c.in-SetSerializable.is
