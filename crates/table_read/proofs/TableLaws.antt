-- A table that is given can be added, and the table of a definition is judged as it is said.
use Rattle.std.proofs.Common.{◌≡◌, ℕ, List, Option, Some, None, Ok, refl, ◌∙◌, ap, subst}
use Rattle.cdb_values.specs.Tables.{add_fault}
use Rattle.cdb_values.specs.declared.schemas.AddFault.{AddFault}
use Rattle.cdb_values.specs.declared.tables.TableDef.{TableDef}
use Rattle.cdb_values.specs.declared.tables.ColumnDef.{ColumnDef}
use Rattle.cdb_values.specs.declared.tables.KeyDef.{KeyDef}
use Rattle.sql_grammar.specs.Trees.{Definition}
use Rattle.table_read.specs.declared.keys.WrittenKey.{WrittenKey}
use Rattle.table_read.specs.Reading.{definition_of}
use Rattle.table_read.specs.Keys.{written_keys}
use Rattle.table_read.specs.Tables.{columns_with, table_with, table_over, table_said}
use Rattle.table_read.specs.Verdict.{unless_fault, judged, defined, table_of}

pub added : (tables : List TableDef) (said table : TableDef) (fault : Option AddFault) → add_fault tables said ≡ fault → unless_fault said fault ≡ Ok table → add_fault tables table ≡ None
added tables said table None f e = let same : said ≡ table = cc in subst (λ t. add_fault tables t ≡ None) same f
added tables said table (Some fault) f e = cc

pub lawful : (tables : List TableDef) (text : List ℕ) (table : TableDef) → table_of tables text ≡ Ok table → add_fault tables table ≡ None
unfolding table_of
lawful tables text table e = go (definition_of text) e
  where
    go : (found : Option Definition) → defined tables found ≡ Ok table → add_fault tables table ≡ None
    go None e = cc
    go (Some definition) e = added tables (table_said definition) table (add_fault tables (table_said definition)) refl e

pub said : (definition : Definition) (written : List WrittenKey) (columns : List ColumnDef) (found : List KeyDef) (name : List ℕ) →
    written ≡ written_keys definition.parts → columns ≡ columns_with written definition.parts → name ≡ definition.name →
    ((tables : List TableDef) (name : List ℕ) → judged tables (table_with name columns found) ≡ judged tables (table_over name columns written)) →
    (tables : List TableDef) → judged tables (table_with name columns found) ≡ judged tables (table_said definition)
unfolding table_said
said definition written columns found name w c n h tables =
    h tables name
    ∙ ap (λ m. judged tables (table_over m columns written)) n
    ∙ ap (λ cs. judged tables (table_over definition.name cs written)) (c ∙ ap (λ ws. columns_with ws definition.parts) w)
    ∙ ap (λ ws. judged tables (table_over definition.name (columns_with (written_keys definition.parts) definition.parts) ws)) w
