use Rattle.std.proofs.Common.{◌≡◌, List, [], ◌∷◌, ◌++◌, map, Bool, cond, sym, ap, ◌∙◌, rules}
use Rattle.std.specs.Prelude.{filter}
use Rattle.std.specs.List.{list_any}
use Rattle.cdb_values.specs.Rows.{takes}
use Rattle.cdb_values.specs.declared.rows.Version.{Version}
use Rattle.sql_answer.specs.Combinations as laws
use Rattle.sql_answer.specs.Combinations.{seen_version, is_left}
use Rattle.sql_answer_plain.specs.Views.{all_seen_in}
use Rattle.sql_answer_plain.proofs.SeenLemmas.{left_more}
use Rattle.sql_answer_plain.proofs.seen.add_left.Goals as goal

pub versions-preserved : goal.versions-preserved
versions-preserved c =
    let version : Version = c.in-Some.version.now in
    let others : List Version = c.in-Some.others.now in
    let is : c.versions.rest.now ≡ version ∷ others = search rules in
    ap (λ (l : List laws.Seen). l ++ map seen_version (filter (is_left c.args.ops.now c.args.table) others))
    (c.in_ok-add_version.ensures ∙ ap (λ (b : Bool). all_seen_in c.versions.rows ++ cond b [] (seen_version version ∷ [])) c.is_taken.ensures)
    ∙ left_more (list_any (takes c.args.table version.genid) c.args.ops.now) (all_seen_in c.versions.rows) version (filter (is_left c.args.ops.now c.args.table) others)
    ∙ sym (ap (λ (l : List Version). all_seen_in c.versions.rows ++ map seen_version (filter (is_left c.args.ops.now c.args.table) l)) is)
    ∙ c.versions.invariant
