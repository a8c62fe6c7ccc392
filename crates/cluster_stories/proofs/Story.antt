-- The story is legal.
use Rattle.std.proofs.Common.{◌≡◌, List, [], ◌∷◌, ◌++◌, arith, refl, subst}
use Rattle.std.specs.Prelude.{Bool, false, Some}
use mathlib.Core.Logic.{inl, inr}
use Rattle.core_lists.specs.Lists.In.{here, there}
use Rattle.core_lists.specs.Fronts.{Front}
use Rattle.core_lists.specs.Fronts.Front.{front_nil, front_cons}
use Rattle.core_lists.proofs.Lists.{each_add, each_none, has_one}
use Rattle.core_lists.proofs.Fronts.{front_refl}
use Rattle.cluster_requests.specs.Identities.{identity_of, Lacks}
use Rattle.phys_log.specs.declared.entries.CommitId.{CommitId}
use Rattle.cluster_requests.specs.KeptEntries.{KeptEntry}
use Rattle.report_laws.specs.Work.{Transaction, Does, WithItsLine}
use Rattle.cdb_values.specs.declared.replies.Reply.TheVariants as reply
use Rattle.session_language.specs.Language.{Answered}
use Rattle.cluster_events.specs.Parts.{Opened, field}
use Rattle.cluster_events.specs.Parts.ActorEvent.{Say}
use Rattle.cluster_events.specs.Guards.{DurableNow, BeganBy, Commits, IsLegalHistory}
use Rattle.cdb_values.specs.declared.rows.Level.TheVariants.{Snapshot}
use Rattle.cdb_values.specs.declared.rows.RowOp.TheVariants.{Insert}
use Rattle.cluster_consensus.proofs.ThreeNodes.{first_has, one_and_two, apart, empty_fits}
use Rattle.core_lists.proofs.Lasts.{front_parts, no_more}
use Rattle.cluster_stories.specs.Story.{its_ops, given_as, setup, its_id, commit, its_sent, opened, led, set_up, begun, sent, committed}

pub no_old : (xs : List KeptEntry) (e : KeptEntry) → Front (xs ++ e ∷ []) [] → BeganBy 0 e
no_old xs e p = absurd (no_more xs e p)

pub opened_legal : (q : Bool) → IsLegalHistory (given_as q) opened
opened_legal q = (
  (((refl, refl, omega arith, here), tt), no_old, (omega arith, omega arith)),
  (
    (((refl, refl, omega arith, there here), tt), no_old, (omega arith, omega arith)),
    (
      (((refl, refl, omega arith, there (there here)), tt), no_old, (omega arith, omega arith)),
      ((((each_add (apart 2 3 (omega arith)) (each_add (apart 1 3 (omega arith)) each_none), empty_fits _ (each_add refl (each_add refl (each_add refl each_none)))), tt), tt, refl), ((((each_add (apart 1 2 (omega arith)) each_none, empty_fits _ (each_add refl (each_add refl each_none))), tt), tt, refl), ((((each_none, empty_fits _ (each_add refl each_none)), tt), tt, refl), tt))),
    ),
  ),
)

pub led_legal : (q : Bool) → IsLegalHistory (given_as q) led
led_legal q = ((((refl, (omega arith, omega arith, (1, first_has (refl, refl)))), tt), tt, (omega arith, omega arith)), ((((refl, (omega arith, one_and_two (first_has (refl, refl)) (first_has (refl, refl)))), tt), tt, (omega arith, omega arith)), ((((refl, omega arith, first_has (refl, inr (refl, omega arith))), tt), tt, (omega arith, omega arith)), ((((refl, omega arith), tt), tt, (omega arith, omega arith)), opened_legal q))))

pub set_up_legal : (q : Bool) → IsLegalHistory (given_as q) set_up
set_up_legal q = ((((refl, refl, omega arith, omega arith, one_and_two (first_has (refl, omega arith)) (first_has (refl, omega arith))), tt), tt, (omega arith, omega arith)), ((((refl, (omega arith, 1, first_has (refl, front_refl (setup ∷ []), inl refl))), tt), tt, (omega arith, omega arith)), ((((refl, refl), record { made = refl; asked = refl; unsettled = each_none; new = λ id q. absurd (cc) }), (refl, refl), (omega arith, omega arith)), led_legal q)))

abbrev pub its_txn : Transaction
its_txn = record { number = 1; texts = (120 ∷ []) ∷ []; level = Snapshot; end = WithItsLine }

abbrev pub its_open : Opened
its_open = record { begin = 1; gen = 1 }

abbrev pub its_ran : Answered
its_ran = record { replies = reply.Changed 1 ∷ []; ops = its_ops; uses = []; ranges = []; failed = false }

pub begun_legal : (q : Bool) → IsLegalHistory (given_as q) begun
begun_legal q = ((7, refl, refl, its_txn, record { others = []; is = refl }, (1, first_has (refl, refl, refl), one_and_two (inl refl) (inr (first_has (refl, refl)))), refl), ((((refl, omega arith, 1, first_has (refl, refl)), tt), tt, (omega arith, omega arith)), ((((refl, refl, first_has refl, omega arith, omega arith), tt), tt, (omega arith, omega arith)), (((each_none, tt), omega arith, inl (has_one (Does its_txn))), set_up_legal q))))

durable_then : DurableNow 3 (field begun) (setup ∷ [])
durable_then = (1, one_and_two (first_has (refl, front_refl (setup ∷ []))) (first_has (refl, front_refl (setup ∷ []))))

abbrev at_commit : (q : Bool) → Commits (given_as q) ((4, Say (reply.Changed 1)) ∷ begun) 4
at_commit q = record { txn = its_txn; start = its_open; at = record { others = []; is = refl; opened = refl }; ends = tt; ran = its_ran; answered = record { log = setup ∷ []; durable = durable_then; within = omega arith; alone = refl; says = refl } }

pub sent_legal : (q : Bool) → IsLegalHistory (given_as q) sent
sent_legal q = ((each_none, record { at = at_commit q; has_ops = has_one (Insert 0 []); its_by = refl; its_id = refl; its_begin = refl; its_level = refl; its_ops = refl; its_used = refl; low = omega arith; led = first_has refl }), ((its_txn, its_open, record { others = []; is = refl; opened = refl }, record { log = setup ∷ []; durable = durable_then; within = omega arith; fits = front_refl (reply.Begin 1 ∷ reply.Changed 1 ∷ []) }, tt, omega arith), begun_legal q))

pub lacks : Lacks its_id (setup ∷ [])
lacks [] e p q = absurd (let z : e ≡ setup = (front_parts e setup [] [] p).0 in let w : identity_of setup ≡ Some its_id = subst (λ t. identity_of t ≡ Some its_id) z q in cc)
lacks (x ∷ xs) e p q = no_more xs e (front_parts x setup (xs ++ e ∷ []) [] p).1

lacks_its : (id : CommitId) → identity_of commit ≡ Some id → Lacks id (setup ∷ [])
lacks_its id q = subst (λ z. Lacks z (setup ∷ [])) (let z : Some its_id ≡ Some id = q in cc) lacks

pub committed_legal : (q : Bool) → IsLegalHistory (given_as q) committed
committed_legal q = (
  (
    (
      record { txn = its_txn; start = its_open; at = record { others = []; is = refl; opened = refl }; ends = tt; ran = its_ran; answered = record { log = setup ∷ []; durable = (1, one_and_two (first_has (refl, front_cons front_nil)) (first_has (refl, front_cons front_nil))); within = omega arith; alone = refl; says = refl } },
      inr (has_one (Insert 0 []), record { gen = 1; before = setup ∷ []; entry = commit; kept = (1, 1, first_has (refl, front_refl (setup ∷ commit ∷ [])), first_has (refl, omega arith)); its_id = refl; position = refl }),
    ),
    omega arith,
  ),
  (
    (((refl, refl, omega arith, omega arith, one_and_two (first_has (refl, omega arith)) (first_has (refl, omega arith))), tt), tt, (omega arith, omega arith)),
    (
      (((refl, (omega arith, 1, first_has (refl, front_refl (setup ∷ commit ∷ []), inl refl))), tt), tt, (omega arith, omega arith)),
      (
        (((refl, refl), record { made = refl; asked = first_has (refl, refl, refl); unsettled = each_none; new = λ id q. lacks_its id q }), record { sent = its_sent; mem = here; its_id = refl; gen = refl; its_begin = refl; its_level = refl; changes = refl; rows = refl; untouched = λ j lo hi. absurd (omega arith); good = record { rows_fit = tt; keys_kept = refl } }, (omega arith, omega arith)),
        sent_legal q,
      ),
    ),
  ),
)
