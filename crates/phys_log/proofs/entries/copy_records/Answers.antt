-- a clone of a record is equal to it
use Rattle.std.proofs.Common.{rules, ◌∙◌}
use Rattle.std.proofs.lemmas.List.Elements.{same_from_all_zip}
use Rattle.phys_log.proofs.entries.copy_records.Goals as goal

pub returns : goal.returns
returns c =
    c.from_vec.ensures ∙ (c.in_ok-from_clones.ensures.items_if_clones_equal (λ x y is. search (rules, same_from_all_zip)) ∙ c.as_slice.ensures)
