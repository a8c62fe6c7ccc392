-- The order of what is under way does not matter, nor how often a packet is.
use Rattle.std.proofs.Common.{ℕ, List}
use mathlib.Core.Logic.{inl, inr}
use Rattle.core_lists.specs.Lists.{In, Each}
use Rattle.election_core.proofs.Acted.{has_in}
use Rattle.election_core.specs.declared.votes.NodeVote.{NodeVote}
use Rattle.quiet_cluster.specs.Deliveries.{HaveSame}
use Rattle.quiet_cluster.specs.Led.{Claim, Led}
use Rattle.quiet_cluster.specs.Led.Claim.{coming, acking, noted}
use Rattle.quiet_cluster.specs.Packets.{Packet}
use Rattle.quiet_cluster.specs.Polled.{Polled, Vow}
use Rattle.quiet_cluster.specs.Polled.Vow.{asked, bound}

each_in : {P : Packet → Type 0} {q r : List Packet} → ((p : Packet) → In p r → In p q) → Each P q → Each P r
each_in f e = record { at = λ p h. e.at p (f p h) }

claim_same : (n : ℕ) (acked : List ℕ) (q r : List Packet) (m g l k : ℕ) (v : NodeVote) → HaveSame q r → Claim n acked q m g l k v → Claim n acked r m g l k v
claim_same n acked q r m g l k v same (coming c) = coming (record { follows = c.follows; under_way = has_in same.0 c.under_way })
claim_same n acked q r m g l k v same (acking c) = acking (record { holds = c.holds; under_way = has_in same.0 c.under_way })
claim_same n acked q r m g l k v same (noted c) = noted (record { holds = c.holds; counted = c.counted; knows = λ x. elim (c.knows x) [ inl a ↦ inl a | inr h ↦ inr (has_in same.0 h) ] })

pub led_same : (n : ℕ) (at : ℕ → NodeVote) (q r : List Packet) (m g l : ℕ) → HaveSame q r → Led n at q m g l → Led n at r m g l
led_same n at q r m g l same old = record {
  few = old.few;
  leads = old.leads;
  own = elim old.own [ inl a ↦ inl a | inr h ↦ inr (has_in same.0 h) ];
  named = old.named;
  claims = λ k apart up le. claim_same n (at m).acked q r m g l k (at k) same (old.claims k apart up le);
  fits = each_in same.1 old.fits;
}

vow_same : (granted : ℕ) (q r : List Packet) (c g a l k : ℕ) (v : NodeVote) → HaveSame q r → Vow granted q c g a l k v → Vow granted r c g a l k v
vow_same granted q r c g a l k v same (asked x) = asked (record { promised = x.promised; accepted = x.accepted; below = x.below; under_way = has_in same.0 x.under_way })
vow_same granted q r c g a l k v same (bound x) = bound (record { promised = x.promised; accepted = x.accepted; follows = x.follows; counted = elim x.counted [ inl e ↦ inl e | inr h ↦ inr (has_in same.0 h) ] })

pub polled_same : (n : ℕ) (at : ℕ → NodeVote) (q r : List Packet) (c g a l : ℕ) → HaveSame q r → Polled n at q c g a l → Polled n at r c g a l
polled_same n at q r c g a l same old = record {
  few = old.few;
  stands = old.stands;
  named = old.named;
  vows = λ k up. vow_same (at c).granted q r c g a l k (at k) same (old.vows k up);
  polls = each_in same.1 old.polls;
}
