use Rattle.std.proofs.Common.{◌≡◌, ℕ, ◌+◌, ◌<◌, ◌≤◌, List, [], ◌∷◌, ◌++◌, length, drop, append_assoc, append-nil, refl, sym, ap, ◌∙◌}
use Rattle.std.proofs.lemmas.List.{drop_all}
use Rattle.cdb_values.specs.declared.tables.ColumnDef.{ColumnDef}
use Rattle.sql_bind.specs.declared.types.BoundItem.{BoundItem}
use Rattle.sql_bind.specs.declared.types.BoundItem.TheVariants as items
use Rattle.sql_bind.specs.Meaning.{columns_from}
use Rattle.sql_bind.proofs.ListLemmas.{next_of}
use Rattle.sql_bind.proofs.queries.add_columns.Goals as goal

one_column : (place at : ℕ) (columns : List ColumnDef) (made new whole : List BoundItem) (column : ColumnDef) → at < length columns
    → new ≡ made ++ (items.Column (record { place = place; column = at }) ∷ []) → made ++ columns_from place at (drop at columns) ≡ whole
    → new ++ columns_from place (at + 1) (drop (at + 1) columns) ≡ whole
one_column place at columns made new whole column within pushed rest =
    ap (λ zs. zs ++ columns_from place (at + 1) (drop (at + 1) columns)) pushed
    ∙ append_assoc made (items.Column (record { place = place; column = at }) ∷ []) (columns_from place (at + 1) (drop (at + 1) columns))
    ∙ ap (λ ys. made ++ columns_from place at ys) (next_of columns at column within)
    ∙ rest

all_columns : (place at : ℕ) (columns : List ColumnDef) (made whole : List BoundItem) → length columns ≤ at → made ++ columns_from place at (drop at columns) ≡ whole → made ≡ whole
all_columns place at columns made whole past rest = sym (append-nil made) ∙ ap (λ ys. made ++ columns_from place at ys) (sym (drop_all at columns past)) ∙ rest

pub columns-init : goal.columns-init
columns-init c = refl

pub columns-preserved : goal.columns-preserved
columns-preserved c =
    one_column c.args.place c.columns.at c.args.columns.now c.columns.items c.push.new.self (c.args.items.now ++ columns_from c.args.place 0 c.args.columns.now) c.index-columns-at.result c.columns-test.true c.in_ok-push.ensures.ok c.columns.invariant

pub returns : goal.returns
returns c =
    all_columns c.args.place c.columns.at c.args.columns.now c.columns.items (c.args.items.now ++ columns_from c.args.place 0 c.args.columns.now) c.columns-test.false c.columns.invariant
