-- Histories that break one guard each.
use Rattle.std.proofs.Common.{◌≡◌, ℕ, ◌≤◌, ◌<◌, List, [], ◌∷◌, arith, refl, ap, sym, ◌∙◌}
use Rattle.std.specs.Prelude.{true, false, Option, Some, None}
use Rattle.core_lists.specs.Lists.In.{here}
use Rattle.cdb_values.specs.declared.replies.Reply.{Reply}
use Rattle.cdb_values.specs.declared.replies.Reply.TheVariants as reply
use Rattle.cluster_consensus.specs.Events.NodeEvent.{Append}
use Rattle.cluster_events.specs.ByScript.{AllHeed}
use Rattle.cluster_events.specs.Guards.{IsLegalHistory}
use Rattle.cluster_events.specs.Parts.ActorEvent.{Node, Stop, Settle, Begun, Note, Send, Order, Barrier, Fed}
use Rattle.cluster_events.specs.Settings.{kept_rows_at}
use Rattle.cluster_stories.specs.Story.{given, script, commit, its_id, its_sent, led, set_up, begun, sent}
use Rattle.cluster_stories.proofs.Story.{its_txn}
use Rattle.cluster_stories.proofs.WrongHistories.{only}
use Rattle.report_laws.specs.Work.{WorkItem, Does, Lone}
use Rattle.script_form.specs.declared.scripts.Act.{Act}
use Rattle.script_form.specs.declared.scripts.Act.TheVariants as act

-- a begin that nobody asked for
pub begun_unasked : IsLegalHistory given ((4, Begun 1 1) ∷ set_up) → ⊥
begun_unasked legal = absurd (let e : None ≡ Some legal.0.0 = legal.0.1 in cc)

-- a conflict with an entry that is not there
pub refused_wrongly : IsLegalHistory given ((1, Settle its_id (reply.ConflictGenid 2 [] 1)) ∷ sent) → ⊥
refused_wrongly legal = let w : 2 ≤ 1 = legal.0.1.is_right.within in omega arith

-- an append of what was settled
pub appended_settled : IsLegalHistory given ((1, Node (Append commit)) ∷ (1, Settle its_id (reply.ConflictGenid 2 [] 1)) ∷ sent) → ⊥
appended_settled legal = legal.0.0.1.unsettled.at its_id here refl

-- a node that is stopped and is down
pub stopped_down : IsLegalHistory given ((1, Stop) ∷ (1, Stop) ∷ led) → ⊥
stopped_down legal = absurd (let e : false ≡ true = legal.0.1 in cc)

-- a line outside a transaction is answered inside one
pub noted_inside : IsLegalHistory given ((4, Note) ∷ begun) → ⊥
noted_inside legal = absurd (let e : Does its_txn ∷ [] ≡ Lone legal.0.0 ∷ legal.0.1 = legal.0.2 in cc)

-- a commit that is sent before its replies are told
tails : {A : Type 0} {x y : A} {xs ys : List A} → x ∷ xs ≡ y ∷ ys → xs ≡ ys
tails e = cc

pub sent_early : IsLegalHistory given ((4, Send its_sent) ∷ begun) → ⊥
sent_early legal = absurd (
    let k = legal.0.1.at in
    let r = only (kept_rows_at given k.answered.log k.start.begin) k.txn k.at.others k.at.is in
    let a : k.ran.replies ≡ reply.Changed 1 ∷ [] = ap (λ z. z.replies) k.answered.alone ∙ r in
    let says : reply.Begin 1 ∷ [] ≡ reply.Begin k.start.begin ∷ k.ran.replies = k.answered.says in
    let q : [] ≡ reply.Changed 1 ∷ [] = tails says ∙ a in
    cc)

-- a barrier before a session's line that stands before it
pub barred_early : IsLegalHistory given ((0, Barrier) ∷ set_up) → ⊥
barred_early legal = let b : 0 < 0 = legal.0.1 4 refl (λ e. (let e' : Does its_txn ∷ [] ≡ [] = e in absurd (cc))) in omega arith

-- an order that is told twice
pub ordered_twice : AllHeed given script.body ((0, Order) ∷ (0, Order) ∷ led) → ⊥
ordered_twice all = absurd (let e : true ≡ false = all.0.heeds.unordered in cc)

-- a feed where the operator's next line is a start
heads : {x y : ℕ × Act} {xs ys : List (ℕ × Act)} → x ∷ xs ≡ y ∷ ys → x ≡ y
heads e = cc

pub fed_out_of_turn : AllHeed given script.body ((0, Fed 1 1) ∷ led) → ⊥
fed_out_of_turn all = absurd (
    let k = all.0.heeds in
    let e : (2, act.Start 1) ∷ [] ≡ (k.0, act.Feed) ∷ k.1 = k.2 in
    let a : act.Start 1 ≡ act.Feed = ap (λ (z : ℕ × Act). z.1) (heads e) in
    cc)
