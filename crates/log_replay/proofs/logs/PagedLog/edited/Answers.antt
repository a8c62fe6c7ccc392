use Rattle.std.proofs.Common.{◌≡◌, ◌↔◌, ℕ, List, [], false, nat_eq, sym, subst}
use Rattle.std.specs.List.{list_any}
use Rattle.std.specs.BTreeMap.{IsOrdered}
use Rattle.std.specs.Ordering.{nat_cmp}
use Rattle.std.specs.List.Sorted.{IsStrictlyIncreasing}
use Rattle.page_store.specs.Image.{blank_image}
use Rattle.phys_log.specs.declared.entries.Entry.{Entry}
use Rattle.phys_log.specs.Logs.{pages_of}
use Rattle.phys_log.specs.Undone.{later_records}
use Rattle.log_replay.specs.Kept.{edited_numbers, IsKept}
use Rattle.log_replay.proofs.NumberLemmas.{edited_rise, others_blank, others_unedited, if_ok_all, if_ok_on}
use Rattle.log_replay.proofs.logs.PagedLog.edited.Goals as goal

pub returns-clause-rising : goal.returns-clause-rising
returns-clause-rising c =
    let pages = c.self.inside.pages in
    if_ok_on c.page_numbers.result (IsOrdered nat_cmp pages.far) (λ v. v.items ≡ edited_numbers pages) (λ v. IsStrictlyIncreasing v.items)
    (λ ordered v is. subst IsStrictlyIncreasing (sym is) (edited_rise pages ordered))
    c.page_numbers.ensures.ordered c.page_numbers.ensures.numbers

pub returns-clause-others : goal.returns-clause-others
returns-clause-others c =
    let entries = c.self.inside.entries.items in
    let pages = c.self.inside.pages in
    let kept : IsKept entries pages c.self.inside.blank = c.self.invariant in
    let P : List ℕ → Type 0 = λ l. (id : ℕ) → list_any (nat_eq id) l ≡ false → pages_of c.args.self.now id ≡ blank_image in
    if_ok_all c.page_numbers.result (λ v. v.items ≡ edited_numbers pages) (λ v. P v.items)
    (λ v is. subst P (sym is) (λ id out. subst (λ (l : List Entry). pages_of l id ≡ blank_image) c.self.view_is
    (others_blank entries pages c.self.inside.blank kept id out)))
    c.page_numbers.ensures.numbers

pub returns-clause-unedited : goal.returns-clause-unedited
returns-clause-unedited c =
    let entries = c.self.inside.entries.items in
    let pages = c.self.inside.pages in
    let kept : IsKept entries pages c.self.inside.blank = c.self.invariant in
    let P : List ℕ → Type 0 = λ l. (id : ℕ) → (list_any (nat_eq id) l ≡ false) ↔ (later_records c.args.self.now 0 id ≡ []) in
    if_ok_all c.page_numbers.result (λ v. v.items ≡ edited_numbers pages) (λ v. P v.items)
    (λ v is. subst P (sym is) (λ id. subst (λ (l : List Entry). (list_any (nat_eq id) (edited_numbers pages) ≡ false) ↔ (later_records l 0 id ≡ []))
    c.self.view_is (others_unedited entries pages c.self.inside.blank kept id)))
    c.page_numbers.ensures.numbers
