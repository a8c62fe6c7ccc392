-- One pair more is looked at, or none is left.
use Rattle.std.proofs.Common.{inl, inr}
use Rattle.std.proofs.lemmas.List.{nil_from_length}
use Rattle.byteorder.specs.Endian.{big_bytes}
use Rattle.table_store.specs.Listings.{keyed}
use Rattle.page_rows.proofs.GenidLemmas.{first_or_later, none_left}
use Rattle.page_rows.proofs.genids.all_genids.Goals as goal

pub pairs-init : goal.pairs-init
pairs-init c = record { has = λ genid code small i. inr i }

pub pairs-preserved : goal.pairs-preserved
pairs-preserved c = record {
  has = λ genid code small i.
      elim (c.pairs.invariant.has genid code small i) [
        | inl j ↦ inl (c.in_ok-add_genid.ensures.kept genid j)
        | inr j ↦
            elim (first_or_later (keyed c.args.unique code (big_bytes 8 genid)) c.in-Some.pair.now c.pairs.rest.now c.in-Some.after.now c.in-Some.ensures.cases.0 j) [
              | inl e ↦ inl (c.in_ok-add_genid.ensures.added genid code small e)
              | inr k ↦ inr k
            ]
      ];
}

pub returns : goal.returns
returns c = λ genid code small i.
    elim (c.pairs.invariant.has genid code small i) [
      | inl j ↦ j
      | inr j ↦ absurd (none_left (keyed c.args.unique code (big_bytes 8 genid)) c.pairs.rest.now (nil_from_length c.pairs.rest.now c.in_default.ensures.cases) j)
    ]
