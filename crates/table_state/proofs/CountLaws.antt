-- What the meta page tells, and when it tells nothing.
use Rattle.std.proofs.Common.{◌≡◌, ℕ, ◌^◌, ◌<◌, Bool, true, false, if◌then◌else◌, None, Some, refl, sym, ap, ◌∙◌}
use Rattle.std.specs.Prelude.{nat_lt, Option}
use Rattle.std.specs.Bool.{Decides}
use Rattle.std.proofs.lemmas.Bool.{ltb-true, lt-ltb}
use Rattle.std.proofs.lemmas.Bool.Decides.{Decides-and, Decides-like}
use Rattle.std.proofs.lemmas.Option.{none-some, same_Some}
use Rattle.page_store.specs.Image.{Image}
use Rattle.page_workspace.specs.declared.metas.Meta.{Meta}
use Rattle.page_workspace.specs.Spare.{IsMeta, first_cell, next_genid, count_of, first_free}
use Rattle.page_workspace.specs.Metas.{meta_of, meta_in}
use Rattle.page_workspace.proofs.MetaLaws.{tells, meta_told}
use Rattle.table_state.specs.Counts.{are_small, if_small, told}

pub record AreSmall (c : Meta) : Type 0 where
  pub next : c.next < 2 ^ 62
  pub count : c.count < 2 ^ 62

small_decides : (c : Meta) → Decides (are_small c) (AreSmall c)
small_decides c =
    Decides-like (are_small c) (λ h. record { next = h.0; count = h.1 }) (λ r. (r.next, r.count))
    (Decides-and (nat_lt c.next (2 ^ 62)) (nat_lt c.count (2 ^ 62)) (ltb-true c.next (2 ^ 62), lt-ltb c.next (2 ^ 62)) (ltb-true c.count (2 ^ 62), lt-ltb c.count (2 ^ 62)))

-- what is told of pages
pub record IsTold (pages : ℕ → Image) (c : Meta) : Type 0 where
  pub meta : IsMeta (pages 0)
  pub small : AreSmall c
  pub next : c.next ≡ next_genid pages
  pub count : c.count ≡ count_of pages
  pub free : c.free ≡ first_free pages

small_some : (found : Option Meta) (c : Meta) → if_small found ≡ Some c → (found ≡ Some c) × (are_small c ≡ true)
small_some None c e = absurd (none-some c e)
small_some (Some m) c e = go (are_small m) refl e
  where
    go : (t : Bool) → are_small m ≡ t → (if t then Some m else None) ≡ Some c → (Some m ≡ Some c) × (are_small c ≡ true)
    go true h e = (e, ap are_small (sym (same_Some m c e)) ∙ h)
    go false h e = absurd (none-some c e)

pub told_sound : (pages : ℕ → Image) (c : Meta) → told (pages 0) ≡ Some c → IsTold pages c
told_sound pages c h =
    let b = small_some (meta_in (pages 0)) c h in
    let t = tells pages c b.0 in
    record { meta = t.is; small = (small_decides c).0 b.1; next = t.next; count = t.count; free = t.free }

pub told_none : (pages : ℕ → Image) → told (pages 0) ≡ None → IsMeta (pages 0) → next_genid pages < 2 ^ 62 → count_of pages < 2 ^ 62 → ⊥
told_none pages none meta next count =
    let of = meta_of (first_cell (pages 0).cells) in
    none-some of (sym none ∙ ap if_small (meta_told (pages 0) meta)
    ∙ ap (λ (t : Bool). if t then Some of else None) ((small_decides of).1 (record { next = next; count = count })))
