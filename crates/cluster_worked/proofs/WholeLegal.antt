-- The whole run is legal.
use Rattle.std.proofs.Common.{◌≡◌, ◌≢◌, ℕ, ◌<◌, List, [], ◌∷◌, ◌++◌, arith, refl, ap, sym, subst, ◌∙◌}
use Rattle.std.specs.Prelude.{◌==◌, Bool, true, false, Some, if◌then◌else◌}
use Rattle.std.specs.Str.{bytes_eq}
use Rattle.std.proofs.lemmas.Bool.Decides.{Decides-eqb}
use mathlib.Core.Logic.{inl, inr}
use Rattle.cdb_values.specs.declared.replies.Reply.TheVariants as reply
use Rattle.cdb_values.specs.declared.rows.Level.TheVariants.{Snapshot}
use Rattle.cdb_values.specs.declared.rows.RowOp.TheVariants.{Insert}
use Rattle.cluster_consensus.proofs.ThreeNodes.{first_has, one_and_two, apart}
use Rattle.cluster_events.specs.Guards.{AllBeyond, DurableNow, IsLegalHistory}
use Rattle.cluster_events.specs.Parts.{ActorEvent, Opened, barriers_printed, field, part}
use Rattle.cluster_events.proofs.Stays.{part_left}
use Rattle.cluster_requests.specs.Identities.{identity_of, Lacks}
use Rattle.cluster_worked.proofs.SetUpLaws.{set_up_legal}
use Rattle.cluster_worked.proofs.WordLaws.{other_name}
use Rattle.cluster_worked.specs.SetUp.{setup}
use Rattle.cluster_worked.specs.Whole.{body, setting, its_id, commit, its_sent, begun, sent, committed, stopped, begun_on, started, fired, lost, started_on, begun_again, read, finished}
use Rattle.cluster_worked.specs.Words.{its_row, its_ops, words}
use Rattle.core_lists.proofs.Fronts.{front_refl}
use Rattle.core_lists.proofs.Lasts.{front_parts, no_more}
use Rattle.core_lists.proofs.Lists.{each_add, each_none, has_one}
use Rattle.core_lists.specs.Fronts.Front.{front_nil, front_cons}
use Rattle.core_lists.specs.Lists.In.{here}
use Rattle.phys_log.specs.declared.entries.CommitId.{CommitId}
use Rattle.report_laws.specs.Work.{Transaction, WorkItem, Does, WithItsLine, items_at, place_from, start, work}
use Rattle.report_text.specs.declared.reports.Line.TheVariants as line
use Rattle.session_language.specs.Language.{Answered}

-- b's texts, where it is b
abbrev pub reads : Bool → List (List ℕ)
reads is_b = if is_b then (114 ∷ []) ∷ (if is_b then (114 ∷ []) ∷ [] else []) else (if is_b then (114 ∷ []) ∷ [] else [])

-- the work of a name, by whether it is a's and whether it is b's
abbrev pub work_by : Bool → Bool → List WorkItem
work_by is_a is_b = items_at (place_from words start (if is_a then (119 ∷ []) ∷ reads is_b else reads is_b))

pub work_is : (name : List ℕ) → work words name body ≡ work_by (bytes_eq (97 ∷ []) name) (bytes_eq (98 ∷ []) name)
work_is name = refl

pub no_work : (name : List ℕ) → bytes_eq (97 ∷ []) name ≡ false → bytes_eq (98 ∷ []) name ≡ false → work words name body ≡ []
no_work name a b = work_is name ∙ (ap (λ z. work_by z (bytes_eq (98 ∷ []) name)) a ∙ ap (λ z. work_by false z) b)

-- an actor without work has none left
pub no_left : (s : ℕ) → (s == 97) ≡ false → (s == 98) ≡ false → (h : List (ℕ × ActorEvent)) → (part setting s h).left ≡ []
no_left s a b [] = no_work (s ∷ []) (other_name 97 s (turned 97 s a)) (other_name 98 s (turned 98 s b))
  where
    turned : (i j : ℕ) → (j == i) ≡ false → (i == j) ≡ false
    turned i j e = go (i == j) refl
      where
        go : (c : Bool) → (i == j) ≡ c → (i == j) ≡ false
        go false q = q
        go true q = absurd (let same : (j == i) ≡ true = (Decides-eqb j i).1 (sym ((Decides-eqb i j).0 q)) in cc)
no_left s a b (x ∷ h) = part_left setting s x h (no_left s a b h)

abbrev its_txn : Transaction
its_txn = record { number = 1; texts = (119 ∷ []) ∷ []; level = Snapshot; end = WithItsLine }

abbrev its_open : Opened
its_open = record { begin = 1; gen = 1 }

abbrev its_ran : Answered
its_ran = record { replies = reply.Changed 1 ∷ []; ops = its_ops; uses = []; ranges = []; failed = false }

begun_legal : IsLegalHistory setting begun
begun_legal = (
  (7, refl, refl, its_txn, record { others = []; is = refl }, (1, first_has (refl, refl, refl), one_and_two (inl refl) (inr (first_has (refl, refl)))), refl),
  (
    (((refl, omega arith, 1, first_has (refl, refl)), tt), tt, (omega arith, omega arith)),
    (
      (((refl, refl, first_has refl, omega arith, omega arith), tt), tt, (omega arith, omega arith)),
      (((each_none, tt), omega arith, inl (has_one (Does its_txn))), set_up_legal body),
    ),
  ),
)

set_up_durable : DurableNow 3 (field begun) (setup ∷ [])
set_up_durable = (1, one_and_two (first_has (refl, front_refl (setup ∷ []))) (first_has (refl, front_refl (setup ∷ []))))

sent_legal : IsLegalHistory setting sent
sent_legal = (
  (
    each_none,
    record {
      at = record { txn = its_txn; start = its_open; at = record { others = []; is = refl; opened = refl }; ends = tt; ran = its_ran; answered = record { log = setup ∷ []; durable = set_up_durable; within = omega arith; alone = refl; says = refl } };
      has_ops = has_one (Insert 0 its_row);
      its_by = refl;
      its_id = refl;
      its_begin = refl;
      its_level = refl;
      its_ops = refl;
      its_used = refl;
      low = omega arith;
      led = first_has refl;
    },
  ),
  (
    (its_txn, its_open, record { others = []; is = refl; opened = refl }, record { log = setup ∷ []; durable = set_up_durable; within = omega arith; fits = front_refl (reply.Begin 1 ∷ reply.Changed 1 ∷ []) }, tt, omega arith),
    begun_legal,
  ),
)

lacks : Lacks its_id (setup ∷ [])
lacks [] e p q = absurd (let z : e ≡ setup = (front_parts e setup [] [] p).0 in let w : identity_of setup ≡ Some its_id = subst (λ t. identity_of t ≡ Some its_id) z q in cc)
lacks (x ∷ xs) e p q = no_more xs e (front_parts x setup (xs ++ e ∷ []) [] p).1

lacks_its : (id : CommitId) → identity_of commit ≡ Some id → Lacks id (setup ∷ [])
lacks_its id q = subst (λ z. Lacks z (setup ∷ [])) (let z : Some its_id ≡ Some id = q in cc) lacks

committed_legal : IsLegalHistory setting committed
committed_legal = (
  (
    (
      record { txn = its_txn; start = its_open; at = record { others = []; is = refl; opened = refl }; ends = tt; ran = its_ran; answered = record { log = setup ∷ []; durable = (1, one_and_two (first_has (refl, front_cons front_nil)) (first_has (refl, front_cons front_nil))); within = omega arith; alone = refl; says = refl } },
      inr (has_one (Insert 0 its_row), record { gen = 1; before = setup ∷ []; entry = commit; kept = (1, 1, first_has (refl, front_refl (setup ∷ commit ∷ [])), first_has (refl, omega arith)); its_id = refl; position = refl }),
    ),
    omega arith,
  ),
  (
    (((refl, refl, omega arith, omega arith, one_and_two (first_has (refl, omega arith)) (first_has (refl, omega arith))), tt), tt, (omega arith, omega arith)),
    (
      (((refl, (omega arith, 1, first_has (refl, front_refl (setup ∷ commit ∷ []), inl refl))), tt), tt, (omega arith, omega arith)),
      (
        (
          ((refl, refl), record { made = refl; asked = first_has (refl, refl, refl); unsettled = each_none; new = λ id q. lacks_its id q }),
          record {
            sent = its_sent;
            mem = here;
            its_id = refl;
            gen = refl;
            its_begin = refl;
            its_level = refl;
            changes = refl;
            rows = refl;
            untouched = λ j lo hi. absurd (omega arith);
            good = record { rows_fit = ((record { columns = (refl, tt); size = omega arith; keys = (omega arith, tt) }, tt), tt); keys_kept = refl };
          },
          (omega arith, omega arith),
        ),
        sent_legal,
      ),
    ),
  ),
)

-- b waits for the barrier, and everybody else has no work left
reader_beyond : barriers_printed committed < setting.phase 98 (part setting 98 committed).told
reader_beyond = omega arith

all_beyond : AllBeyond setting committed
all_beyond s ns some = go (s == 97) refl (s == 98) refl
  where
    go : (b : Bool) → (s == 97) ≡ b → (c : Bool) → (s == 98) ≡ c → barriers_printed committed < setting.phase s (part setting s committed).told
    go true p c q = absurd (some (subst (λ j. (part setting j committed).left ≡ []) (sym ((Decides-eqb s 97).0 p)) refl))
    go false p true q = subst (λ j. barriers_printed committed < setting.phase j (part setting j committed).told) (sym ((Decides-eqb s 98).0 q)) reader_beyond
    go false p false q = absurd (some (no_left s p q committed))

stopped_legal : IsLegalHistory setting stopped
stopped_legal = (((tt, tt), refl, omega arith, omega arith), (refl, ((refl, all_beyond), committed_legal)))

-- b's transaction of that number
abbrev read_txn : ℕ → Transaction
read_txn number = record { number = number; texts = (114 ∷ []) ∷ []; level = Snapshot; end = WithItsLine }

abbrev read_open : Opened
read_open = record { begin = 2; gen = 1 }

abbrev read_ran : Answered
read_ran = record { replies = reply.Row its_row ∷ reply.Done 1 ∷ []; ops = []; uses = []; ranges = []; failed = false }

has_items : (x y : WorkItem) → x ∷ y ∷ [] ≢ []
has_items x y e = absurd (cc)

begun_on_legal : IsLegalHistory setting begun_on
begun_on_legal = (
  (8, refl, refl, read_txn 1, record { others = Does (read_txn 2) ∷ []; is = refl }, (1, first_has (refl, refl, refl), one_and_two (inl refl) (inr (first_has (refl, refl)))), refl),
  (
    (((refl, omega arith, 1, first_has (refl, refl)), tt), tt, (omega arith, omega arith)),
    (
      (((refl, refl, first_has refl, omega arith, omega arith), tt), tt, (omega arith, omega arith)),
      (((each_add (apart 7 8 (omega arith)) each_none, tt), omega arith, inl (has_items (Does (read_txn 1)) (Does (read_txn 2)))), stopped_legal),
    ),
  ),
)

started_legal : IsLegalHistory setting started
started_legal = (
  refl,
  (
    (((refl, refl, omega arith), tt), tt, (omega arith, omega arith)),
    (refl, (refl, begun_on_legal)),
  ),
)

whole_durable : DurableNow 3 (field started) (setup ∷ commit ∷ [])
whole_durable = (1, one_and_two (first_has (refl, front_refl (setup ∷ commit ∷ []))) (first_has (refl, front_refl (setup ∷ commit ∷ []))))

fired_legal : IsLegalHistory setting fired
fired_legal = (
  refl,
  (
    (read_txn 1, read_open, record { others = Does (read_txn 2) ∷ []; is = refl; opened = refl }, record { log = setup ∷ commit ∷ []; durable = whole_durable; within = omega arith; fits = front_cons (front_cons front_nil) }, tt, omega arith),
    started_legal,
  ),
)

lost_legal : IsLegalHistory setting lost
lost_legal = (
  (
    (
      read_txn 1,
      read_open,
      record { others = Does (read_txn 2) ∷ []; is = refl; opened = refl },
      refl,
      record {
        fault = false;
        front = line.Session (97 ∷ []) 1 (reply.Begin 1) ∷ line.Session (97 ∷ []) 1 (reply.Changed 1) ∷ line.Session (97 ∷ []) 1 (reply.Committed 2) ∷ line.Barrier ∷ line.Down 1 3 false ∷ line.Session (98 ∷ []) 1 (reply.Begin 2) ∷ line.Up 3 ∷ line.Session (98 ∷ []) 1 (reply.Row its_row) ∷ [];
        back = [];
        stands = refl;
        since = tt;
        begin = 2;
        begun = (
          line.Session (97 ∷ []) 1 (reply.Begin 1) ∷ line.Session (97 ∷ []) 1 (reply.Changed 1) ∷ line.Session (97 ∷ []) 1 (reply.Committed 2) ∷ line.Barrier ∷ line.Down 1 3 false ∷ [],
          line.Up 3 ∷ line.Session (98 ∷ []) 1 (reply.Row its_row) ∷ line.Down 2 2 false ∷ [],
          refl,
        );
        once = (refl, (refl, tt));
      },
      inl refl,
    ),
    omega arith,
  ),
  (((tt, tt), refl, omega arith, omega arith), fired_legal),
)

started_on_legal : IsLegalHistory setting started_on
started_on_legal = (
  refl,
  (
    (((refl, refl, omega arith), tt), tt, (omega arith, omega arith)),
    (refl, lost_legal),
  ),
)

begun_again_legal : IsLegalHistory setting begun_again
begun_again_legal = (
  (9, refl, refl, read_txn 2, record { others = []; is = refl }, (1, first_has (refl, refl, refl), one_and_two (inl refl) (inr (first_has (refl, refl)))), refl),
  (
    (((refl, omega arith, 1, first_has (refl, refl)), tt), tt, (omega arith, omega arith)),
    (
      (((refl, refl, first_has refl, omega arith, omega arith), tt), tt, (omega arith, omega arith)),
      (((each_add (apart 8 9 (omega arith)) (each_add (apart 7 9 (omega arith)) each_none), tt), omega arith, inl (has_one (Does (read_txn 2)))), started_on_legal),
    ),
  ),
)

again_durable : DurableNow 3 (field begun_again) (setup ∷ commit ∷ [])
again_durable = (1, one_and_two (first_has (refl, front_refl (setup ∷ commit ∷ []))) (first_has (refl, front_refl (setup ∷ commit ∷ []))))

read_legal : IsLegalHistory setting read
read_legal = (
  (
    (
      record { txn = read_txn 2; start = read_open; at = record { others = []; is = refl; opened = refl }; ends = tt; ran = read_ran; answered = record { log = setup ∷ commit ∷ []; durable = again_durable; within = omega arith; alone = refl; says = refl } },
      inl (refl, refl),
    ),
    omega arith,
  ),
  (
    (read_txn 2, read_open, record { others = []; is = refl; opened = refl }, record { log = setup ∷ commit ∷ []; durable = again_durable; within = omega arith; fits = front_refl (reply.Begin 2 ∷ reply.Row its_row ∷ reply.Done 1 ∷ []) }, tt, omega arith),
    (
      (read_txn 2, read_open, record { others = []; is = refl; opened = refl }, record { log = setup ∷ commit ∷ []; durable = again_durable; within = omega arith; fits = front_cons (front_cons front_nil) }, tt, omega arith),
      begun_again_legal,
    ),
  ),
)

pub finished_legal : IsLegalHistory setting finished
finished_legal = (
  (refl, 10, refl, (1, first_has (refl, refl, refl), one_and_two (inl refl) (inr (first_has (refl, refl))))),
  (
    (((refl, omega arith, 1, first_has (refl, refl)), tt), tt, (omega arith, omega arith)),
    (
      (((refl, refl, first_has refl, omega arith, omega arith), tt), tt, (omega arith, omega arith)),
      (((each_add (apart 9 10 (omega arith)) (each_add (apart 8 10 (omega arith)) (each_add (apart 7 10 (omega arith)) each_none)), tt), omega arith, inr refl), read_legal),
    ),
  ),
)
