-- The whole run is by its script, and finished; and its setting is of that script.
use Rattle.std.proofs.Common.{◌≡◌, ℕ, [], ◌∷◌, arith, refl, sym, subst}
use Rattle.std.specs.Prelude.{◌==◌, Bool, true, false}
use Rattle.std.specs.Str.{bytes_eq}
use Rattle.std.proofs.lemmas.Bool.Decides.{Decides-eqb}
use mathlib.Core.Logic.{inl, inr}
use Rattle.cluster_consensus.proofs.ThreeNodes.{first_has}
use Rattle.cluster_events.specs.ByScript.{AllHeed}
use Rattle.cluster_events.specs.Guards.{AllBeyond, Rising}
use Rattle.cluster_events.specs.Parts.{part}
use Rattle.cluster_events.specs.Settings.{lines_to_do}
use Rattle.cluster_reports.specs.Runs.{Covers, FitsScript, FollowsScript, IsFinished}
use Rattle.cluster_runs.proofs.WrittenLaws.{follows}
use Rattle.cluster_worked.proofs.SetUpLaws.{set_up_heeded}
use Rattle.cluster_worked.proofs.WholeLegal.{no_left, no_work, work_by}
use Rattle.cluster_worked.proofs.WordLaws.{apart_names, long_name, no_name, words_answer}
use Rattle.cluster_worked.specs.Whole.{body, setting, begun, sent, committed, stopped, begun_on, started, fired, lost, started_on, begun_again, read, finished}
use Rattle.cluster_worked.specs.Words.{unwritten_of}
use Rattle.core_lists.proofs.Lists.{each_none}
use Rattle.script_form.specs.declared.scripts.Act.TheVariants as act
use Rattle.script_form.specs.declared.scripts.Moment.TheVariants as moment

-- every actor has done its work
pub all_done : (s : ℕ) → (part setting s finished).left ≡ []
all_done s = go (s == 97) refl (s == 98) refl
  where
    go : (b : Bool) → (s == 97) ≡ b → (c : Bool) → (s == 98) ≡ c → (part setting s finished).left ≡ []
    go true p c q = subst (λ j. (part setting j finished).left ≡ []) (sym ((Decides-eqb s 97).0 p)) refl
    go false p true q = subst (λ j. (part setting j finished).left ≡ []) (sym ((Decides-eqb s 98).0 q)) refl
    go false p false q = no_left s p q finished

read_done : (s : ℕ) → (part setting s read).left ≡ []
read_done s = go (s == 97) refl (s == 98) refl
  where
    go : (b : Bool) → (s == 97) ≡ b → (c : Bool) → (s == 98) ≡ c → (part setting s read).left ≡ []
    go true p c q = subst (λ j. (part setting j read).left ≡ []) (sym ((Decides-eqb s 97).0 p)) refl
    go false p true q = subst (λ j. (part setting j read).left ≡ []) (sym ((Decides-eqb s 98).0 q)) refl
    go false p false q = no_left s p q read

begun_heeded : AllHeed setting (lines_to_do setting) begun
begun_heeded = (record { heeds = tt; goes_on = tt }, (record { heeds = tt; goes_on = tt }, (record { heeds = tt; goes_on = tt }, (record { heeds = λ (z : 97 ≡ 0). absurd (omega arith); goes_on = tt }, set_up_heeded body))))

sent_heeded : AllHeed setting (lines_to_do setting) sent
sent_heeded = (record { heeds = tt; goes_on = tt }, (record { heeds = tt; goes_on = tt }, begun_heeded))

committed_heeded : AllHeed setting (lines_to_do setting) committed
committed_heeded = (record { heeds = tt; goes_on = tt }, (record { heeds = tt; goes_on = tt }, (record { heeds = tt; goes_on = tt }, (record { heeds = tt; goes_on = tt }, sent_heeded))))

stopped_heeded : AllHeed setting (lines_to_do setting) stopped
stopped_heeded = (
  record { heeds = (refl, inl (first_has (refl, refl))); goes_on = tt },
  (
    record { heeds = record { unordered = refl; line = 2; act = act.Stop 3; rest = (3, act.Start 3) ∷ (6, act.Start 2) ∷ (8, act.Feed) ∷ []; next = refl; of_node = tt }; goes_on = tt },
    (
      record { heeds = (1, (2, act.Stop 3) ∷ (3, act.Start 3) ∷ (6, act.Start 2) ∷ (8, act.Feed) ∷ [], refl); goes_on = tt },
      committed_heeded,
    ),
  ),
)

begun_on_heeded : AllHeed setting (lines_to_do setting) begun_on
begun_on_heeded = (record { heeds = tt; goes_on = tt }, (record { heeds = tt; goes_on = tt }, (record { heeds = tt; goes_on = tt }, (record { heeds = λ (z : 98 ≡ 0). absurd (omega arith); goes_on = tt }, stopped_heeded))))

started_heeded : AllHeed setting (lines_to_do setting) started
started_heeded = (
  record { heeds = record { later = []; before = _; split = refl; same = refl; ordered = refl; line = 3; act = act.Start 3; rest = (6, act.Start 2) ∷ (8, act.Feed) ∷ []; next = refl; of_node = tt; since = refl; heeded = inl refl }; goes_on = tt },
  (
    record { heeds = (refl, first_has (refl, refl)); goes_on = tt },
    (
      record { heeds = record { unordered = refl; line = 3; act = act.Start 3; rest = (6, act.Start 2) ∷ (8, act.Feed) ∷ []; next = refl; of_node = tt }; goes_on = tt },
      (
        record { heeds = record { later = []; before = begun_on; split = refl; same = refl; ordered = refl; line = 2; act = act.Stop 3; rest = (3, act.Start 3) ∷ (6, act.Start 2) ∷ (8, act.Feed) ∷ []; next = refl; of_node = tt; since = refl; heeded = refl }; goes_on = tt },
        begun_on_heeded,
      ),
    ),
  ),
)

fired_heeded : AllHeed setting (lines_to_do setting) fired
fired_heeded = (
  record { heeds = record { when = moment.Row 1; stands = refl; armed = refl; waited = omega arith; once = each_none; due = refl }; goes_on = tt },
  (record { heeds = tt; goes_on = tt }, started_heeded),
)

lost_heeded : AllHeed setting (lines_to_do setting) lost
lost_heeded = (
  record { heeds = tt; goes_on = record { later = []; before = _; split = refl; since = refl; down = refl } },
  (record { heeds = (refl, inr (first_has (refl, refl))); goes_on = tt }, fired_heeded),
)

started_on_heeded : AllHeed setting (lines_to_do setting) started_on
started_on_heeded = (
  record { heeds = record { later = []; before = _; split = refl; same = refl; ordered = refl; line = 6; act = act.Start 2; rest = (8, act.Feed) ∷ []; next = refl; of_node = tt; since = refl; heeded = inl refl }; goes_on = tt },
  (
    record { heeds = (refl, first_has (refl, refl)); goes_on = tt },
    (record { heeds = record { unordered = refl; line = 6; act = act.Start 2; rest = (8, act.Feed) ∷ []; next = refl; of_node = tt }; goes_on = tt }, lost_heeded),
  ),
)

begun_again_heeded : AllHeed setting (lines_to_do setting) begun_again
begun_again_heeded = (record { heeds = tt; goes_on = tt }, (record { heeds = tt; goes_on = tt }, (record { heeds = tt; goes_on = tt }, (record { heeds = λ (z : 98 ≡ 0). absurd (omega arith); goes_on = tt }, started_on_heeded))))

read_heeded : AllHeed setting (lines_to_do setting) read
read_heeded = (record { heeds = tt; goes_on = tt }, (record { heeds = tt; goes_on = tt }, (record { heeds = tt; goes_on = tt }, begun_again_heeded)))

feed_beyond : AllBeyond setting read
feed_beyond s ns some = absurd (some (read_done s))

pub finished_heeded : AllHeed setting (lines_to_do setting) finished
finished_heeded = (
  record { heeds = (8, [], refl); goes_on = tt },
  (
    record { heeds = tt; goes_on = tt },
    (
      record { heeds = tt; goes_on = tt },
      (record { heeds = λ z. (8, [], refl, λ e. feed_beyond); goes_on = tt }, read_heeded),
    ),
  ),
)

pub finished_done : IsFinished setting finished
finished_done = record { by_script = finished_heeded; operator = refl; sessions = λ s. inl (all_done s) }

-- the setting is of its script
rising_by : (a b : Bool) → Rising 0 (work_by a b)
rising_by true true = (omega arith, (omega arith, (omega arith, tt)))
rising_by true false = (omega arith, tt)
rising_by false true = (omega arith, (omega arith, tt))
rising_by false false = tt

covered : Covers setting
covered [] = inr (no_work [] (no_name 97) (no_name 98), λ i. no_name i)
covered (a ∷ []) = inl (a, refl)
covered (a ∷ b ∷ more) = inr (no_work (a ∷ b ∷ more) (long_name 97 a b more) (long_name 98 a b more), λ i. long_name i a b more)

pub setting_fits : FitsScript setting
setting_fits = record { apart = apart_names body; covers = covered; nodes = refl; rising = λ s. rising_by (bytes_eq (97 ∷ []) (s ∷ [])) (bytes_eq (98 ∷ []) (s ∷ [])) }

pub setting_follows : FollowsScript setting
setting_follows = follows (unwritten_of body) words_answer refl
