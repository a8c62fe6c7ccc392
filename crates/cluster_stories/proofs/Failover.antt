-- The story goes on: what follows the commit that was sent is legal, and by the script.
use Rattle.std.proofs.Common.{◌≡◌, [], ◌∷◌, arith, refl, subst}
use Rattle.std.specs.Prelude.{Bool, true, false, Some}
use mathlib.Core.Logic.{inl, inr}
use Rattle.cdb_values.specs.declared.rows.RowOp.TheVariants.{Insert}
use Rattle.cluster_consensus.proofs.ThreeNodes.{first_has, one_and_two, two_and_three}
use Rattle.cluster_consensus.specs.Events.NodeEvent.{Stand, Grants, Lead, Take, LearnLead}
use Rattle.cdb_values.specs.declared.replies.Reply.TheVariants as reply
use Rattle.cluster_consensus.specs.Durable.{DurableIn}
use Rattle.cluster_events.specs.ByScript.{AllHeed}
use Rattle.cluster_events.specs.Guards.{Commits, IsLegalHistory}
use Rattle.cluster_events.specs.Parts.{field}
use Rattle.cluster_events.specs.Parts.ActorEvent.{Node}
use Rattle.cluster_requests.specs.Identities.{identity_of, Lacks}
use Rattle.cluster_stories.proofs.Story.{its_txn, its_open, its_ran, lacks, sent_legal}
use Rattle.cluster_stories.specs.Failover.{sent_on, commit_on, appended, sent_again, repeated, fallen, lost, come_back, moved, repeated_on, stopped, moved_on, appended_on, tail_dropped}
use Rattle.cluster_stories.specs.Story.{given, given_as, script, setup, its_id, commit, its_sent, opened, led, set_up, begun}
use Rattle.core_lists.proofs.Fronts.{front_refl}
use Rattle.core_lists.proofs.Lists.{each_add, each_none, has_one}
use Rattle.core_lists.specs.Fronts.Front.{front_nil, front_cons}
use Rattle.core_lists.specs.Lists.In.{here}
use Rattle.phys_log.specs.declared.entries.CommitId.{CommitId}
use Rattle.report_text.specs.declared.reports.Line.TheVariants as line
use Rattle.script_form.specs.declared.scripts.Act.TheVariants as act
use Rattle.script_form.specs.declared.scripts.Moment.TheVariants as moment

lacks_its : (id : CommitId) → identity_of commit ≡ Some id → Lacks id (setup ∷ [])
lacks_its id q = subst (λ z. Lacks z (setup ∷ [])) (let z : Some its_id ≡ Some id = q in cc) lacks

lacks_on : (id : CommitId) → identity_of commit_on ≡ Some id → Lacks id (setup ∷ [])
lacks_on id q = subst (λ z. Lacks z (setup ∷ [])) (let z : Some its_id ≡ Some id = q in cc) lacks

appended_legal : (q : Bool) → IsLegalHistory (given_as q) appended
appended_legal q = (((((refl, refl), record { made = refl; asked = first_has (refl, refl, refl); unsettled = each_none; new = λ id q. lacks_its id q }), record { sent = its_sent; mem = here; its_id = refl; gen = refl; its_begin = refl; its_level = refl; changes = refl; rows = refl; untouched = λ j lo hi. absurd (omega arith); good = record { rows_fit = tt; keys_kept = refl } }, (omega arith, omega arith))), sent_legal q)

-- at its commit, with the replies over a log that is durable then
abbrev at_appended : Commits given appended 4
at_appended = record { txn = its_txn; start = its_open; at = record { others = []; is = refl; opened = refl }; ends = tt; ran = its_ran; answered = record { log = setup ∷ []; durable = (1, one_and_two (first_has (refl, front_cons front_nil)) (first_has (refl, front_cons front_nil))); within = omega arith; alone = refl; says = refl } }

sent_again_legal : IsLegalHistory given sent_again
sent_again_legal = ((each_add (λ q. omega arith) each_none, record { at = at_appended; has_ops = has_one (Insert 0 []); its_by = refl; its_id = refl; its_begin = refl; its_level = refl; its_ops = refl; its_used = refl; low = omega arith; led = first_has refl }), appended_legal true)

pub repeated_legal : IsLegalHistory given repeated
repeated_legal = (
  (
    (
      record { txn = its_txn; start = its_open; at = record { others = []; is = refl; opened = refl }; ends = tt; ran = its_ran; answered = record { log = setup ∷ []; durable = (1, one_and_two (first_has (refl, front_cons front_nil)) (first_has (refl, front_cons front_nil))); within = omega arith; alone = refl; says = refl } },
      inr (has_one (Insert 0 []), record { gen = 1; before = setup ∷ []; entry = commit; kept = (1, 1, first_has (refl, front_refl (setup ∷ commit ∷ [])), first_has (refl, omega arith)); its_id = refl; position = refl }),
    ),
    omega arith,
  ),
  (
    (((refl, refl, omega arith, omega arith, one_and_two (first_has (refl, omega arith)) (first_has (refl, omega arith))), tt), tt, (omega arith, omega arith)),
    (
      (((refl, (omega arith, 1, first_has (refl, front_refl (setup ∷ commit ∷ []), inl refl))), tt), tt, (omega arith, omega arith)),
      (
        (refl, refl, record { before = setup ∷ []; entry = commit; front = front_refl (setup ∷ commit ∷ []); place = refl; is = refl }, first_has (refl, refl, refl)),
        sent_again_legal,
      ),
    ),
  ),
)

fallen_legal : (q : Bool) → IsLegalHistory (given_as q) fallen
fallen_legal q = (
  ((tt, tt), tt, (omega arith, omega arith)),
  (
    (((refl, (omega arith, 1, first_has (refl, front_refl (setup ∷ commit ∷ []), inl refl))), tt), tt, (omega arith, omega arith)),
    appended_legal q,
  ),
)

-- a session that does not survive the fall is told that its transaction is lost
lost_legal : IsLegalHistory (given_as false) lost
lost_legal = (
  (
    (
      its_txn,
      its_open,
      record { others = []; is = refl; opened = refl },
      refl,
      record {
        fault = true;
        front = line.Session (115 ∷ []) 1 (reply.Begin 1) ∷ line.Session (115 ∷ []) 1 (reply.Changed 1) ∷ [];
        back = [];
        stands = refl;
        since = tt;
        begin = 1;
        begun = ([], line.Session (115 ∷ []) 1 (reply.Changed 1) ∷ line.Down 1 1 true ∷ [], refl);
        once = (refl, (refl, tt));
      },
      inl refl,
    ),
    omega arith,
  ),
  fallen_legal false,
)

pub come_back_legal : IsLegalHistory (given_as false) come_back
come_back_legal = (
  (((refl, refl, omega arith, omega arith, two_and_three (first_has (refl, omega arith)) (first_has (refl, omega arith))), tt), tt, (omega arith, omega arith)),
  (
    (((refl, (omega arith, omega arith, (2, first_has (refl, refl)))), tt), tt, (omega arith, omega arith)),
    (
      (((refl, (omega arith, two_and_three (first_has (refl, refl)) (first_has (refl, refl)))), tt), tt, (omega arith, omega arith)),
      (
        (((refl, omega arith, first_has (refl, inl (omega arith))), tt), tt, (omega arith, omega arith)),
        (
          (((refl, omega arith), tt), tt, (omega arith, omega arith)),
          lost_legal,
        ),
      ),
    ),
  ),
)

pub come_back_durable : DurableIn 3 (field come_back).core 2 (setup ∷ commit ∷ [])
come_back_durable = two_and_three (first_has (refl, front_refl (setup ∷ commit ∷ []))) (first_has (refl, front_refl (setup ∷ commit ∷ [])))

moved_legal : IsLegalHistory given moved
moved_legal = (
  record { later = []; between = (2, Node (LearnLead 2)) ∷ (3, Node (Take 2 (setup ∷ commit ∷ []))) ∷ (2, Node Lead) ∷ (3, Node (Grants 2 2)) ∷ (2, Node (Stand 2)) ∷ []; before = fallen; split = refl; stays = refl; down = refl; next = refl },
  (
    (((refl, refl, omega arith, omega arith, two_and_three (first_has (refl, omega arith)) (first_has (refl, omega arith))), tt), tt, (omega arith, omega arith)),
    (
      (((refl, (omega arith, omega arith, (2, first_has (refl, refl)))), tt), tt, (omega arith, omega arith)),
      (
        (((refl, (omega arith, two_and_three (first_has (refl, refl)) (first_has (refl, refl)))), tt), tt, (omega arith, omega arith)),
        (
          (((refl, omega arith, first_has (refl, inl (omega arith))), tt), tt, (omega arith, omega arith)),
          (
            (((refl, omega arith), tt), tt, (omega arith, omega arith)),
            fallen_legal true,
          ),
        ),
      ),
    ),
  ),
)

abbrev at_moved : Commits given moved 4
at_moved = record { txn = its_txn; start = its_open; at = record { others = []; is = refl; opened = refl }; ends = tt; ran = its_ran; answered = record { log = setup ∷ []; durable = (2, two_and_three (first_has (refl, front_cons front_nil)) (first_has (refl, front_cons front_nil))); within = omega arith; alone = refl; says = refl } }

pub repeated_on_legal : IsLegalHistory given repeated_on
repeated_on_legal = (
  (
    (
      record { txn = its_txn; start = its_open; at = record { others = []; is = refl; opened = refl }; ends = tt; ran = its_ran; answered = record { log = setup ∷ []; durable = (2, two_and_three (first_has (refl, front_cons front_nil)) (first_has (refl, front_cons front_nil))); within = omega arith; alone = refl; says = refl } },
      inr (has_one (Insert 0 []), record { gen = 2; before = setup ∷ []; entry = commit; kept = (2, 2, first_has (refl, front_refl (setup ∷ commit ∷ [])), first_has (refl, omega arith)); its_id = refl; position = refl }),
    ),
    omega arith,
  ),
  (
    (refl, refl, record { before = setup ∷ []; entry = commit; front = front_refl (setup ∷ commit ∷ []); place = refl; is = refl }, first_has (refl, refl, refl)),
    (
      (each_add (λ q. omega arith) each_none, record { at = at_moved; has_ops = has_one (Insert 0 []); its_by = refl; its_id = refl; its_begin = refl; its_level = refl; its_ops = refl; its_used = refl; low = omega arith; led = first_has refl }),
      moved_legal,
    ),
  ),
)

stopped_legal : IsLegalHistory given stopped
stopped_legal = (((tt, tt), refl, omega arith, omega arith), (refl, appended_legal true))

moved_on_legal : IsLegalHistory given moved_on
moved_on_legal = (
  record { later = []; between = (3, Node (Take 2 (setup ∷ []))) ∷ (2, Node Lead) ∷ (3, Node (Grants 2 2)) ∷ (2, Node (Stand 2)) ∷ []; before = stopped; split = refl; stays = refl; down = refl; next = refl },
  (
    (((refl, (omega arith, omega arith, (2, first_has (refl, refl)))), tt), tt, (omega arith, omega arith)),
    (
      (((refl, (omega arith, two_and_three (first_has (refl, refl)) (first_has (refl, refl)))), tt), tt, (omega arith, omega arith)),
      (
        (((refl, omega arith, first_has (refl, inl (omega arith))), tt), tt, (omega arith, omega arith)),
        (
          (((refl, omega arith), tt), tt, (omega arith, omega arith)),
          stopped_legal,
        ),
      ),
    ),
  ),
)

abbrev at_moved_on : Commits given moved_on 4
at_moved_on = record { txn = its_txn; start = its_open; at = record { others = []; is = refl; opened = refl }; ends = tt; ran = its_ran; answered = record { log = setup ∷ []; durable = (2, two_and_three (first_has (refl, front_refl (setup ∷ []))) (first_has (refl, front_refl (setup ∷ [])))); within = omega arith; alone = refl; says = refl } }

appended_on_legal : IsLegalHistory given appended_on
appended_on_legal = (
  (
    (
      record { txn = its_txn; start = its_open; at = record { others = []; is = refl; opened = refl }; ends = tt; ran = its_ran; answered = record { log = setup ∷ []; durable = (2, two_and_three (first_has (refl, front_cons front_nil)) (first_has (refl, front_cons front_nil))); within = omega arith; alone = refl; says = refl } },
      inr (has_one (Insert 0 []), record { gen = 2; before = setup ∷ []; entry = commit_on; kept = (2, 2, first_has (refl, front_refl (setup ∷ commit_on ∷ [])), first_has (refl, omega arith)); its_id = refl; position = refl }),
    ),
    omega arith,
  ),
  (
    (((refl, refl, omega arith, omega arith, two_and_three (first_has (refl, omega arith)) (first_has (refl, omega arith))), tt), tt, (omega arith, omega arith)),
    (
      (((refl, (omega arith, 2, first_has (refl, front_refl (setup ∷ commit_on ∷ []), inl refl))), tt), tt, (omega arith, omega arith)),
      (
        (((refl, refl), record { made = refl; asked = first_has (refl, refl, refl); unsettled = each_none; new = λ id q. lacks_on id q }), record { sent = sent_on; mem = here; its_id = refl; gen = refl; its_begin = refl; its_level = refl; changes = refl; rows = refl; untouched = λ j lo hi. absurd (omega arith); good = record { rows_fit = tt; keys_kept = refl } }, (omega arith, omega arith)),
        (
          (each_add (λ q. omega arith) each_none, record { at = at_moved_on; has_ops = has_one (Insert 0 []); its_by = refl; its_id = refl; its_begin = refl; its_level = refl; its_ops = refl; its_used = refl; low = omega arith; led = first_has refl }),
          moved_on_legal,
        ),
      ),
    ),
  ),
)

pub tail_dropped_legal : IsLegalHistory given tail_dropped
tail_dropped_legal = (
  (((refl, (omega arith, omega arith, (2, first_has (refl, refl)))), tt), tt, (omega arith, omega arith)),
  (
    refl,
    (
      (((refl, refl, omega arith), tt), tt, (omega arith, omega arith)),
      (
        refl,
        appended_on_legal,
      ),
    ),
  ),
)

-- by the script: the arm, and the start
opened_heeded : AllHeed given script.body opened
opened_heeded = (record { heeds = (refl, inl refl); goes_on = tt }, (record { heeds = (refl, inl refl); goes_on = tt }, (record { heeds = (refl, inl refl); goes_on = tt }, (record { heeds = tt; goes_on = tt }, (record { heeds = tt; goes_on = tt }, (record { heeds = tt; goes_on = tt }, tt))))))

led_heeded : AllHeed given script.body led
led_heeded = (record { heeds = tt; goes_on = tt }, (record { heeds = tt; goes_on = tt }, (record { heeds = tt; goes_on = tt }, (record { heeds = tt; goes_on = tt }, opened_heeded))))

set_up_heeded : AllHeed given script.body set_up
set_up_heeded = (record { heeds = tt; goes_on = tt }, (record { heeds = tt; goes_on = tt }, (record { heeds = tt; goes_on = tt }, led_heeded)))

begun_heeded : AllHeed given script.body begun
begun_heeded = (record { heeds = tt; goes_on = tt }, (record { heeds = tt; goes_on = tt }, (record { heeds = tt; goes_on = tt }, (record { heeds = λ (z : 4 ≡ 0). absurd (omega arith); goes_on = tt }, set_up_heeded))))

appended_heeded : AllHeed given script.body appended
appended_heeded = (record { heeds = tt; goes_on = tt }, (record { heeds = tt; goes_on = tt }, (record { heeds = tt; goes_on = tt }, begun_heeded)))

stopped_heeded : AllHeed given script.body stopped
stopped_heeded = (
  record { heeds = (refl, inr (first_has (refl, refl))); goes_on = tt },
  (
    record { heeds = record { when = moment.Append; stands = refl; armed = refl; waited = omega arith; once = each_none; due = (at_appended, first_has (setup ∷ [], commit, front_refl (setup ∷ commit ∷ []), refl)) }; goes_on = tt },
    appended_heeded,
  ),
)

moved_on_heeded : AllHeed given script.body moved_on
moved_on_heeded = (
  record { heeds = tt; goes_on = record { later = (3, Node (Take 2 (setup ∷ []))) ∷ (2, Node Lead) ∷ (3, Node (Grants 2 2)) ∷ (2, Node (Stand 2)) ∷ []; before = stopped; split = refl; since = refl; down = refl } },
  (record { heeds = tt; goes_on = tt }, (record { heeds = tt; goes_on = tt }, (record { heeds = tt; goes_on = tt }, (record { heeds = tt; goes_on = tt }, stopped_heeded)))),
)

appended_on_heeded : AllHeed given script.body appended_on
appended_on_heeded = (record { heeds = tt; goes_on = tt }, (record { heeds = tt; goes_on = tt }, (record { heeds = tt; goes_on = tt }, (record { heeds = tt; goes_on = tt }, (record { heeds = tt; goes_on = tt }, moved_on_heeded)))))

pub tail_dropped_heeded : AllHeed given script.body tail_dropped
tail_dropped_heeded = (
  record { heeds = tt; goes_on = tt },
  (
    record { heeds = record { later = []; before = _; split = refl; same = refl; ordered = refl; line = 2; act = act.Start 1; rest = []; next = refl; of_node = tt; since = refl; heeded = inl refl }; goes_on = tt },
    (
      record { heeds = (refl, first_has (refl, refl)); goes_on = tt },
      (
        record { heeds = record { unordered = refl; line = 2; act = act.Start 1; rest = []; next = refl; of_node = tt }; goes_on = tt },
        appended_on_heeded,
      ),
    ),
  ),
)
