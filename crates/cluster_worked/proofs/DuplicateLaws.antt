-- The run with a refusal is legal, by its script, and finished.
use Rattle.std.proofs.Common.{◌≡◌, ◌≢◌, ℕ, List, [], ◌∷◌, ◌++◌, arith, refl, ap, subst, ◌∙◌}
use Rattle.std.specs.Prelude.{◌==◌, Bool, true, false, Some, if◌then◌else◌}
use Rattle.std.specs.Str.{bytes_eq}
use Rattle.std.proofs.lemmas.Bool.Decides.{Decides-eqb}
use mathlib.Core.Logic.{inl, inr}
use Rattle.cdb_values.specs.declared.replies.Reply.TheVariants as reply
use Rattle.cdb_values.specs.declared.rows.Level.TheVariants.{Snapshot}
use Rattle.cdb_values.specs.declared.rows.RowOp.TheVariants.{Insert}
use Rattle.cluster_consensus.proofs.ThreeNodes.{first_has, one_and_two, second_has, apart}
use Rattle.cluster_events.specs.ByScript.{AllHeed}
use Rattle.cluster_events.specs.Guards.{AllBeyond, Commits, DurableNow, IsLegalHistory}
use Rattle.cluster_events.specs.Parts.{ActorEvent, Opened, field, part}
use Rattle.cluster_events.specs.Parts.ActorEvent.{Finish}
use Rattle.cluster_events.specs.Settings.{lines_to_do}
use Rattle.cluster_events.proofs.Stays.{part_left}
use Rattle.cluster_requests.specs.Identities.{identity_of, Lacks}
use Rattle.cluster_worked.proofs.SetUpLaws.{set_up_heeded, set_up_legal}
use Rattle.cluster_worked.proofs.WordLaws.{other_name}
use Rattle.cluster_worked.specs.Duplicate.{body, setting, id_of, sent_by, commit, refusal, begun, begun_both, sent, sent_both, settled, told, finished}
use Rattle.cluster_worked.specs.SetUp.{setup}
use Rattle.cluster_worked.specs.Words.{its_row, its_ops, words}
use Rattle.core_lists.proofs.Fronts.{front_refl}
use Rattle.core_lists.proofs.Lasts.{front_parts, no_more}
use Rattle.core_lists.proofs.Lists.{each_add, each_none, has_one}
use Rattle.core_lists.specs.Fronts.Front.{front_nil, front_cons}
use Rattle.core_lists.specs.Lists.In.{here, there}
use Rattle.phys_log.specs.declared.entries.CommitId.{CommitId}
use Rattle.report_laws.specs.Work.{Transaction, WorkItem, Does, WithItsLine, items_at, place_from, start, work}
use Rattle.session_language.specs.Language.{Answered}

-- the work of a name, by whether it is a's and whether it is b's
abbrev pub work_by : Bool → Bool → List WorkItem
work_by is_a is_b = items_at (place_from words start (if is_a then (119 ∷ []) ∷ (if is_b then (119 ∷ []) ∷ [] else []) else (if is_b then (119 ∷ []) ∷ [] else [])))

work_is : (name : List ℕ) → work words name body ≡ work_by (bytes_eq (97 ∷ []) name) (bytes_eq (98 ∷ []) name)
work_is name = refl

pub no_work : (name : List ℕ) → bytes_eq (97 ∷ []) name ≡ false → bytes_eq (98 ∷ []) name ≡ false → work words name body ≡ []
no_work name a b = work_is name ∙ (ap (λ z. work_by z (bytes_eq (98 ∷ []) name)) a ∙ ap (λ z. work_by false z) b)

no_left : (s : ℕ) → (97 == s) ≡ false → (98 == s) ≡ false → (h : List (ℕ × ActorEvent)) → (part setting s h).left ≡ []
no_left s a b [] = no_work (s ∷ []) (other_name 97 s a) (other_name 98 s b)
no_left s a b (x ∷ h) = part_left setting s x h (no_left s a b h)

-- who did it where both sessions did
done_by : (h : List (ℕ × ActorEvent)) → (part setting 97 h).left ≡ [] → (part setting 98 h).left ≡ [] → (s : ℕ) → (part setting s h).left ≡ []
done_by h a b s = go (97 == s) refl (98 == s) refl
  where
    go : (c : Bool) → (97 == s) ≡ c → (d : Bool) → (98 == s) ≡ d → (part setting s h).left ≡ []
    go true p d q = subst (λ j. (part setting j h).left ≡ []) ((Decides-eqb 97 s).0 p) a
    go false p true q = subst (λ j. (part setting j h).left ≡ []) ((Decides-eqb 98 s).0 q) b
    go false p false q = no_left s p q h

abbrev its_txn : Transaction
its_txn = record { number = 1; texts = (119 ∷ []) ∷ []; level = Snapshot; end = WithItsLine }

abbrev its_open : Opened
its_open = record { begin = 1; gen = 1 }

abbrev its_ran : Answered
its_ran = record { replies = reply.Changed 1 ∷ []; ops = its_ops; uses = []; ranges = []; failed = false }

begun_legal : IsLegalHistory setting begun
begun_legal = (
  (7, refl, refl, its_txn, record { others = []; is = refl }, (1, first_has (refl, refl, refl), one_and_two (inl refl) (inr (first_has (refl, refl)))), refl),
  (
    (((refl, omega arith, 1, first_has (refl, refl)), tt), tt, (omega arith, omega arith)),
    (
      (((refl, refl, first_has refl, omega arith, omega arith), tt), tt, (omega arith, omega arith)),
      (((each_none, tt), omega arith, inl (has_one (Does its_txn))), set_up_legal body),
    ),
  ),
)

begun_both_legal : IsLegalHistory setting begun_both
begun_both_legal = (
  (8, refl, refl, its_txn, record { others = []; is = refl }, (1, first_has (refl, refl, refl), one_and_two (inl refl) (inr (first_has (refl, refl)))), refl),
  (
    (((refl, omega arith, 1, first_has (refl, refl)), tt), tt, (omega arith, omega arith)),
    (
      (((refl, refl, first_has refl, omega arith, omega arith), tt), tt, (omega arith, omega arith)),
      (((each_add (apart 7 8 (omega arith)) each_none, tt), omega arith, inl (has_one (Does its_txn))), begun_legal),
    ),
  ),
)

durable : DurableNow 3 (field begun_both) (setup ∷ [])
durable = (1, one_and_two (first_has (refl, front_refl (setup ∷ []))) (first_has (refl, front_refl (setup ∷ []))))

sent_legal : IsLegalHistory setting sent
sent_legal = (
  (
    each_none,
    record {
      at = record { txn = its_txn; start = its_open; at = record { others = []; is = refl; opened = refl }; ends = tt; ran = its_ran; answered = record { log = setup ∷ []; durable = durable; within = omega arith; alone = refl; says = refl } };
      has_ops = has_one (Insert 0 its_row);
      its_by = refl;
      its_id = refl;
      its_begin = refl;
      its_level = refl;
      its_ops = refl;
      its_used = refl;
      low = omega arith;
      led = first_has refl;
    },
  ),
  (
    (its_txn, its_open, record { others = []; is = refl; opened = refl }, record { log = setup ∷ []; durable = durable; within = omega arith; fits = front_refl (reply.Begin 1 ∷ reply.Changed 1 ∷ []) }, tt, omega arith),
    begun_both_legal,
  ),
)

sent_both_legal : IsLegalHistory setting sent_both
sent_both_legal = (
  (
    each_add (λ q. omega arith) each_none,
    record {
      at = record { txn = its_txn; start = its_open; at = record { others = []; is = refl; opened = refl }; ends = tt; ran = its_ran; answered = record { log = setup ∷ []; durable = durable; within = omega arith; alone = refl; says = refl } };
      has_ops = has_one (Insert 0 its_row);
      its_by = refl;
      its_id = refl;
      its_begin = refl;
      its_level = refl;
      its_ops = refl;
      its_used = refl;
      low = omega arith;
      led = first_has refl;
    },
  ),
  (
    (its_txn, its_open, record { others = []; is = refl; opened = refl }, record { log = setup ∷ []; durable = durable; within = omega arith; fits = front_refl (reply.Begin 1 ∷ reply.Changed 1 ∷ []) }, tt, omega arith),
    sent_legal,
  ),
)

-- the setup has no identity, and the first commit that of a's transaction
lacks_first : (id : CommitId) → Lacks id (setup ∷ [])
lacks_first id [] e p q = absurd (let z : e ≡ setup = (front_parts e setup [] [] p).0 in let w : identity_of setup ≡ Some id = subst (λ t. identity_of t ≡ Some id) z q in cc)
lacks_first id (x ∷ xs) e p q = no_more xs e (front_parts x setup (xs ++ e ∷ []) [] p).1

abbrev name_in : List ℕ → ℕ
name_in [] = 0
name_in (x ∷ xs) = x

other_id : id_of 97 ≢ id_of 98
other_id e = absurd (let z : 97 ≡ 98 = ap (λ (i : CommitId). name_in i.session) e in omega arith)

lacks_second : Lacks (id_of 98) (setup ∷ commit ∷ [])
lacks_second [] e p q = absurd (let z : e ≡ setup = (front_parts e setup [] (commit ∷ []) p).0 in let w : identity_of setup ≡ Some (id_of 98) = subst (λ t. identity_of t ≡ Some (id_of 98)) z q in cc)
lacks_second (x ∷ []) e p q =
    let r = front_parts x setup (e ∷ []) (commit ∷ []) p in
    let z : e ≡ commit = (front_parts e commit [] [] r.1).0 in
    let w : Some (id_of 97) ≡ Some (id_of 98) = subst (λ t. identity_of t ≡ Some (id_of 98)) z q in
    other_id (let v : id_of 97 ≡ id_of 98 = cc in v)
lacks_second (x ∷ y ∷ xs) e p q =
    let r = front_parts x setup (y ∷ (xs ++ e ∷ [])) (commit ∷ []) p in
    no_more xs e (front_parts y commit (xs ++ e ∷ []) [] r.1).1

settled_legal : IsLegalHistory setting settled
settled_legal = (
  (
    (refl, refl, lacks_second),
    record { sent = sent_by 98; mem = here; its_id = refl; its_node = refl; gen = refl; is_right = record { has_ops = has_one (Insert 0 its_row); begun = omega arith; within = omega arith; untouched = λ j lo hi. refl; breaks = refl } },
  ),
  (
    (((refl, refl, omega arith, omega arith, one_and_two (first_has (refl, omega arith)) (first_has (refl, omega arith))), tt), tt, (omega arith, omega arith)),
    (
      (((refl, (omega arith, 1, first_has (refl, front_refl (setup ∷ commit ∷ []), inl refl))), tt), tt, (omega arith, omega arith)),
      (
        (
          ((refl, refl), record { made = refl; asked = second_has (refl, refl, refl); unsettled = each_none; new = λ id q. lacks_first id }),
          record {
            sent = sent_by 97;
            mem = there here;
            its_id = refl;
            gen = refl;
            its_begin = refl;
            its_level = refl;
            changes = refl;
            rows = refl;
            untouched = λ j lo hi. absurd (omega arith);
            good = record { rows_fit = ((record { columns = (refl, tt); size = omega arith; keys = (omega arith, tt) }, tt), tt); keys_kept = refl };
          },
          (omega arith, omega arith),
        ),
        sent_both_legal,
      ),
    ),
  ),
)

-- with the replies over the setup, which is durable then
abbrev commits_a : Commits setting settled 97
commits_a = record { txn = its_txn; start = its_open; at = record { others = []; is = refl; opened = refl }; ends = tt; ran = its_ran; answered = record { log = setup ∷ []; durable = (1, one_and_two (first_has (refl, front_cons front_nil)) (first_has (refl, front_cons front_nil))); within = omega arith; alone = refl; says = refl } }

abbrev commits_b : Commits setting ((97, Finish (reply.Committed 2)) ∷ settled) 98
commits_b = record { txn = its_txn; start = its_open; at = record { others = []; is = refl; opened = refl }; ends = tt; ran = its_ran; answered = record { log = setup ∷ []; durable = (1, one_and_two (first_has (refl, front_cons front_nil)) (first_has (refl, front_cons front_nil))); within = omega arith; alone = refl; says = refl } }

told_legal : IsLegalHistory setting told
told_legal = (
  (
    (
      commits_b,
      record {
        settled = record { id = id_of 98; gen = 1; by = 1; log = setup ∷ commit ∷ []; why = refusal };
        mem = here;
        its_id = refl;
        its_refusal = refl;
        last = each_add (λ q. omega arith) (each_add (λ q. omega arith) each_none);
        node = 1;
        durable = first_has (refl, omega arith);
      },
    ),
    omega arith,
  ),
  (
    (
      (
        commits_a,
        inr (has_one (Insert 0 its_row), record { gen = 1; before = setup ∷ []; entry = commit; kept = (1, 1, first_has (refl, front_refl (setup ∷ commit ∷ [])), first_has (refl, omega arith)); its_id = refl; position = refl }),
      ),
      omega arith,
    ),
    settled_legal,
  ),
)

pub finished_legal : IsLegalHistory setting finished
finished_legal = (
  (refl, 9, refl, (1, first_has (refl, refl, refl), one_and_two (inl refl) (inr (first_has (refl, refl))))),
  (
    (((refl, omega arith, 1, first_has (refl, refl)), tt), tt, (omega arith, omega arith)),
    (
      (((refl, refl, first_has refl, omega arith, omega arith), tt), tt, (omega arith, omega arith)),
      (((each_add (apart 8 9 (omega arith)) (each_add (apart 7 9 (omega arith)) each_none), tt), omega arith, inr refl), told_legal),
    ),
  ),
)

begun_heeded : AllHeed setting (lines_to_do setting) begun
begun_heeded = (record { heeds = tt; goes_on = tt }, (record { heeds = tt; goes_on = tt }, (record { heeds = tt; goes_on = tt }, (record { heeds = λ (z : 97 ≡ 0). absurd (omega arith); goes_on = tt }, set_up_heeded body))))

begun_both_heeded : AllHeed setting (lines_to_do setting) begun_both
begun_both_heeded = (record { heeds = tt; goes_on = tt }, (record { heeds = tt; goes_on = tt }, (record { heeds = tt; goes_on = tt }, (record { heeds = λ (z : 98 ≡ 0). absurd (omega arith); goes_on = tt }, begun_heeded))))

sent_both_heeded : AllHeed setting (lines_to_do setting) sent_both
sent_both_heeded = (record { heeds = tt; goes_on = tt }, (record { heeds = tt; goes_on = tt }, (record { heeds = tt; goes_on = tt }, (record { heeds = tt; goes_on = tt }, begun_both_heeded))))

told_heeded : AllHeed setting (lines_to_do setting) told
told_heeded = (record { heeds = tt; goes_on = tt }, (record { heeds = tt; goes_on = tt }, (record { heeds = tt; goes_on = tt }, (record { heeds = tt; goes_on = tt }, (record { heeds = tt; goes_on = tt }, (record { heeds = tt; goes_on = tt }, sent_both_heeded))))))

feed_beyond : AllBeyond setting told
feed_beyond s ns some = absurd (some (done_by told refl refl s))

pub finished_heeded : AllHeed setting (lines_to_do setting) finished
finished_heeded = (
  record { heeds = (2, [], refl); goes_on = tt },
  (
    record { heeds = tt; goes_on = tt },
    (
      record { heeds = tt; goes_on = tt },
      (record { heeds = λ z. (2, [], refl, λ e. feed_beyond); goes_on = tt }, told_heeded),
    ),
  ),
)

pub all_done : (s : ℕ) → (part setting s finished).left ≡ []
all_done s = done_by finished refl refl s
