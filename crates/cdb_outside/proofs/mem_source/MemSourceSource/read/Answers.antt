use Rattle.std.proofs.Common.{◌≡◌, ℕ, ◌-◌, List, length, take, drop, min, subst}
use Rattle.cdb_outside.proofs.FrontLemmas.{split_next, ends}
use Rattle.cdb_outside.proofs.mem_source.MemSourceSource.read.Goals as goal

pub returns-clause-bytes : goal.returns-clause-bytes
returns-clause-bytes c =
    let given = c.self.inside.given in
    let n = c.copy_front-count.result in
    let shown = take n c.copy_front-count.new.buf in
    let room = length c.args.buf.now in
    let Shown : List ℕ → Type 0 = λ xs. shown ≡ take n (take (length xs - given) (drop given xs)) in
    let Counted : List ℕ → Type 0 = λ xs. n ≡ min room (length (take (length xs - given) (drop given xs))) in
    let copied = subst Shown c.deref.ensures.value c.copy_front-count.ensures.copied in
    let count = subst Counted c.deref.ensures.value c.copy_front-count.ensures.count in
    rw (← c.self.view_is) (
      split_next _ _ given n copied,
      λ none some. ends _ given n room count none c.requires,
    )
