-- How each run with a leader begins is legal, and by its script, whatever the script says.
use Rattle.std.proofs.Common.{List, [], ◌∷◌, arith, refl}
use mathlib.Core.Logic.{inl, inr}
use Rattle.cluster_consensus.proofs.ThreeNodes.{first_has, one_and_two, apart, empty_fits}
use Rattle.cluster_events.specs.ByScript.{AllHeed}
use Rattle.cluster_events.specs.Guards.{IsLegalHistory}
use Rattle.cluster_events.specs.Settings.{lines_to_do}
use Rattle.cluster_stories.proofs.Story.{no_old}
use Rattle.cluster_stories.specs.Story.{opened, led}
use Rattle.cluster_worked.specs.SetUp.{setup, set_up}
use Rattle.cluster_worked.specs.Words.{setting_of}
use Rattle.core_lists.proofs.Fronts.{front_refl}
use Rattle.core_lists.proofs.Lists.{each_add, each_none}
use Rattle.core_lists.specs.Lists.In.{here, there}
use Rattle.script_form.specs.declared.scripts.BodyLine.{BodyLine}

pub opened_legal : (body : List BodyLine) → IsLegalHistory (setting_of body) opened
opened_legal body = (
  (((refl, refl, omega arith, here), tt), no_old, (omega arith, omega arith)),
  (
    (((refl, refl, omega arith, there here), tt), no_old, (omega arith, omega arith)),
    (
      (((refl, refl, omega arith, there (there here)), tt), no_old, (omega arith, omega arith)),
      (
        (((each_add (apart 2 3 (omega arith)) (each_add (apart 1 3 (omega arith)) each_none), empty_fits _ (each_add refl (each_add refl (each_add refl each_none)))), tt), tt, refl),
        (
          (((each_add (apart 1 2 (omega arith)) each_none, empty_fits _ (each_add refl (each_add refl each_none))), tt), tt, refl),
          ((((each_none, empty_fits _ (each_add refl each_none)), tt), tt, refl), tt),
        ),
      ),
    ),
  ),
)

pub led_legal : (body : List BodyLine) → IsLegalHistory (setting_of body) led
led_legal body = (
  (((refl, (omega arith, omega arith, (1, first_has (refl, refl)))), tt), tt, (omega arith, omega arith)),
  (
    (((refl, (omega arith, one_and_two (first_has (refl, refl)) (first_has (refl, refl)))), tt), tt, (omega arith, omega arith)),
    (
      (((refl, omega arith, first_has (refl, inr (refl, omega arith))), tt), tt, (omega arith, omega arith)),
      ((((refl, omega arith), tt), tt, (omega arith, omega arith)), opened_legal body),
    ),
  ),
)

pub set_up_legal : (body : List BodyLine) → IsLegalHistory (setting_of body) set_up
set_up_legal body = (
  (((refl, refl, omega arith, omega arith, one_and_two (first_has (refl, omega arith)) (first_has (refl, omega arith))), tt), tt, (omega arith, omega arith)),
  (
    (((refl, (omega arith, 1, first_has (refl, front_refl (setup ∷ []), inl refl))), tt), tt, (omega arith, omega arith)),
    ((((refl, refl), record { made = refl; asked = refl; unsettled = each_none; new = λ id q. absurd (cc) }), (refl, refl), (omega arith, omega arith)), led_legal body),
  ),
)

pub opened_heeded : (body : List BodyLine) → AllHeed (setting_of body) (lines_to_do (setting_of body)) opened
opened_heeded body = (record { heeds = (refl, inl refl); goes_on = tt }, (record { heeds = (refl, inl refl); goes_on = tt }, (record { heeds = (refl, inl refl); goes_on = tt }, (record { heeds = tt; goes_on = tt }, (record { heeds = tt; goes_on = tt }, (record { heeds = tt; goes_on = tt }, tt))))))

pub led_heeded : (body : List BodyLine) → AllHeed (setting_of body) (lines_to_do (setting_of body)) led
led_heeded body = (record { heeds = tt; goes_on = tt }, (record { heeds = tt; goes_on = tt }, (record { heeds = tt; goes_on = tt }, (record { heeds = tt; goes_on = tt }, opened_heeded body))))

pub set_up_heeded : (body : List BodyLine) → AllHeed (setting_of body) (lines_to_do (setting_of body)) set_up
set_up_heeded body = (record { heeds = tt; goes_on = tt }, (record { heeds = tt; goes_on = tt }, (record { heeds = tt; goes_on = tt }, led_heeded body)))
