use Rattle.std.proofs.Common.{ℕ, List, map, ◌≡◌, ◌+◌, ◌++◌, [], ◌∷◌, ◌∙◌, sym, ap, arith, vec_len, vec_capacity}
use Rattle.actor_trace.specs.Actors.{tag_of}
use Rattle.actor_trace.proofs.Allowing.{enter_allowed}
use Rattle.actor_trace.proofs.Joined.{has_more, popped, map_snoc}
use Rattle.actor_trace.proofs.trace.Trace.gather_shares.Goals as goal

pub load_new_seat-seat-requires : goal.load_new_seat-seat-requires
load_new_seat-seat-requires g c =
    let m = g.M.Machine in
    let t = c.args.self.now in
    let one : t.table.shared.table_id.words ≡ 1 = t.words in
    (omega arith, enter_allowed m.enabled t.table.shared.key t.table.shared.table_id.slots)

pub gathering-preserved : goal.gathering-preserved
gathering-preserved g c =
    let i = c.gathering.invariant in
    let x = c.in-Some.actor in
    let len : vec_len c.push_reserved.new.self ≡ vec_len c.gathering.shares + 1 = c.push_reserved.ensures.len in
    let capacity : vec_capacity c.push_reserved.new.self ≡ vec_capacity c.gathering.shares = c.push_reserved.ensures.capacity in
    let fewer : vec_len c.pop.new.self + 1 ≡ vec_len c.gathering.actors = c.in-Some.ensures.cases in
    let fits : vec_len c.gathering.shares + vec_len c.gathering.actors ≡ vec_capacity c.gathering.shares = i.1 in (
      c.take_in-share.ensures.same ∙ i.0,
      omega arith,
      (
        i.2.0 ++ x ∷ [],
        popped c.args.actors.items i.2.0 c.gathering.actors.items c.pop.new.self.items x i.2.1 c.in-Some.ensures.items,
        c.take_in-share.ensures.me ∙ has_more c.gathering.seat.me i.2.0 x i.2.2,
        c.push_reserved.ensures.items ∙ (ap (λ t. t ++ c.take_in-share.result ∷ []) i.2.3 ∙ (ap (λ (s : ℕ × List (ℕ × g.row.M-Event.Denot)). map tag_of i.2.0 ++ s ∷ []) c.take_in-share.ensures.share ∙ sym (map_snoc (tag_of {E = g.row.M-Event.Denot}) i.2.0 x))),
      ),
    )
