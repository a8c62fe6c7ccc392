-- A table of FROM is found by its name, under its alias if it has one.
use Rattle.std.proofs.Common.{◌≡◌, false, sym, ap, ◌∙◌, subst}
use Rattle.std.specs.Prelude.{IfOk, IfErr, unwrap_or, option_map}
use Rattle.cdb_values.specs.Named.{table_named}
use Rattle.sql_grammar.specs.Trees.{Name}
use Rattle.sql_grammar.specs.Views.{name_in}
use Rattle.sql_bind.specs.Answers.{Misses}
use Rattle.sql_bind.specs.Scope.{is_unknown_table, visible_at}
use Rattle.sql_bind.specs.Seen.{visible_in}
use Rattle.sql_bind.proofs.sources.source.Goals as goal

both : (P : Name → Name → Type 0) (table named name called : Name) → table ≡ named → name ≡ called → P table name → P named called
both P table named name called t n p = subst (λ (x : Name). P x called) t (subst (λ (x : Name). P table x) n p)

pub returns-in-Some-clause-known : goal.returns-in-Some-clause-known
returns-in-Some-clause-known c =
    subst (λ (t : Name). IfOk c.found.result (λ v. is_unknown_table c.args.schema.now t ≡ false)) c.as_bytes-table.ensures c.found.ensures.known

pub returns-in-Some-clause-refused : goal.returns-in-Some-clause-refused
returns-in-Some-clause-refused c =
    subst (λ (t : Name). IfErr c.found.result (λ fault. Misses fault (is_unknown_table c.args.schema.now t))) c.as_bytes-table.ensures c.found.ensures.refused

pub returns-in-None-clause-found : goal.returns-in-None-clause-found
returns-in-None-clause-found c =
    both (λ t n. IfOk c.found-in-None.result (λ v. visible_in v ≡ visible_at n (table_named c.args.schema.now t))) c.as_bytes-table.result.now c.args.source.now.table c.as_bytes-table.result.now (unwrap_or (option_map name_in c.args.source.now.alias) c.args.source.now.table)
    c.as_bytes-table.ensures (c.as_bytes-table.ensures ∙ ap (λ a. unwrap_or (option_map name_in a) c.args.source.now.table) (sym c.in-None.is)) c.found-in-None.ensures.found

pub returns-in-None-clause-known : goal.returns-in-None-clause-known
returns-in-None-clause-known c =
    subst (λ (t : Name). IfOk c.found-in-None.result (λ v. is_unknown_table c.args.schema.now t ≡ false)) c.as_bytes-table.ensures c.found-in-None.ensures.known

pub returns-in-None-clause-refused : goal.returns-in-None-clause-refused
returns-in-None-clause-refused c =
    subst (λ (t : Name). IfErr c.found-in-None.result (λ fault. Misses fault (is_unknown_table c.args.schema.now t))) c.as_bytes-table.ensures c.found-in-None.ensures.refused
