-- What is told at the opening in place of a report: never where the script is played, and over one store as over that of one node.
use Rattle.std.proofs.Common.{◌≡◌, ℕ, ◌≤◌, [], ◌∷◌, List, refl, sym, ap, ◌∙◌, subst, Option, Some, None, inl, inr, ◌↔◌, le-leb}
use Rattle.cdb_outside.specs.declared.statuses.Status.{Status}
use Rattle.cdb_outside.specs.declared.statuses.Status.TheVariants as status
use Rattle.cdb_values.specs.declared.tables.TableDef.{TableDef}
use Rattle.script_form.specs.declared.scripts.Script.{Script}
use Rattle.play_order.specs.Openings.{BadAt, AreAllFit, DiffersAt, Finding, IsToldAtOpening, MayPlay, first_bad, first_unfit, first_unsound}
use Rattle.play_order.specs.Openings.Finding.{BadFrame, NotSound, WholeLog}
use Rattle.play_order.specs.Peers.{Holding}

none_is_some : {A : Type 0} {P : Type 0} (o : Option A) (x : A) → o ≡ None → o ≡ Some x → P
none_is_some o x none some = absurd (let no : None ≡ Some x = sym none ∙ some in cc)

pub never_both : (script : Script) (stores : List Finding) (told : Status) → MayPlay script stores → IsToldAtOpening script stores told → ⊥
never_both script stores status.Done may refused = refused
never_both script stores status.Usage may refused = refused
never_both script stores (status.Refused line why) may (fit, nine, differs) = may.same line differs
never_both script stores status.ReadFault may refused = refused
never_both script stores status.WriteFault may refused = refused
never_both script stores (status.StoreRefused node at) may refused = none_is_some (first_bad 1 stores) (record { node = node; at = at }) may.fit.0.0 refused
never_both script stores (status.Unsound node) may (inl (whole, unsound)) = none_is_some (first_unsound 1 stores) node may.fit.0.1 unsound
never_both script stores (status.Unsound node) may (inr (sound, unfit)) = none_is_some (first_unfit script.nodes stores) node may.fit.1 unfit
never_both script stores status.NoMemory may refused = refused

bad_is : (a b : BadAt) → Some a ≡ Some b → a ≡ b
bad_is a b same = ap (λ (o : Option BadAt). or_a o) same
  where
    or_a : Option BadAt → BadAt
    or_a None = a
    or_a (Some x) = x

one_is : (a b : ℕ) → Some a ≡ Some b → a ≡ b
one_is a b same = ap (λ (o : Option ℕ). or_a o) same
  where
    or_a : Option ℕ → ℕ
    or_a None = a
    or_a (Some n) = n

pub one_bad : (script : Script) (at : ℕ) (told : Status) → IsToldAtOpening script (BadFrame at ∷ []) told ↔ (told ≡ status.StoreRefused 1 at)
one_bad script at told = (only told, λ is. subst (λ (s : Status). IsToldAtOpening script (BadFrame at ∷ []) s) (sym is) refl)
  where
    only : (s : Status) → IsToldAtOpening script (BadFrame at ∷ []) s → s ≡ status.StoreRefused 1 at
    only status.Done refused = absurd refused
    only status.Usage refused = absurd refused
    only (status.Refused line why) (fit, nine, differs) = none_is_some (first_bad 1 (BadFrame at ∷ [])) (record { node = 1; at = at }) fit.0.0 refl
    only status.ReadFault refused = absurd refused
    only status.WriteFault refused = absurd refused
    only (status.StoreRefused node place) refused = ap (λ (b : BadAt). status.StoreRefused b.node b.at) (sym (bad_is (record { node = 1; at = at }) (record { node = node; at = place }) refused))
    only (status.Unsound node) (inl (whole, unsound)) = none_is_some (first_bad 1 (BadFrame at ∷ [])) (record { node = 1; at = at }) whole refl
    only (status.Unsound node) (inr (sound, unfit)) = none_is_some (first_bad 1 (BadFrame at ∷ [])) (record { node = 1; at = at }) sound.0 refl
    only status.NoMemory refused = absurd refused

pub one_unsound : (script : Script) (told : Status) → IsToldAtOpening script (NotSound ∷ []) told ↔ (told ≡ status.Unsound 1)
one_unsound script told = (only told, λ is. subst (λ (s : Status). IsToldAtOpening script (NotSound ∷ []) s) (sym is) (inl (refl, refl)))
  where
    only : (s : Status) → IsToldAtOpening script (NotSound ∷ []) s → s ≡ status.Unsound 1
    only status.Done refused = absurd refused
    only status.Usage refused = absurd refused
    only (status.Refused line why) (fit, nine, differs) = none_is_some (first_unsound 1 (NotSound ∷ [])) 1 fit.0.1 refl
    only status.ReadFault refused = absurd refused
    only status.WriteFault refused = absurd refused
    only (status.StoreRefused node place) refused = none_is_some (first_bad 1 (NotSound ∷ [])) (record { node = node; at = place }) refl refused
    only (status.Unsound node) (inl (whole, unsound)) = ap (λ (n : ℕ). status.Unsound n) (sym (one_is 1 node unsound))
    only (status.Unsound node) (inr (sound, unfit)) = none_is_some (first_unsound 1 (NotSound ∷ [])) 1 sound.1 refl
    only status.NoMemory refused = absurd refused

-- what one node accepted it promised, so one store fits
one_fits : (has : Holding) (tables : List TableDef) → has.accepted ≤ has.promised → first_unfit 1 (WholeLog has tables ∷ []) ≡ None
one_fits has tables below = rw (le-leb has.accepted has.promised below) refl

pub one_whole : (script : Script) (has : Holding) (tables : List TableDef) (told : Status) → script.nodes ≡ 1 → has.accepted ≤ has.promised →
    IsToldAtOpening script (WholeLog has tables ∷ []) told ↔ ((line : ℕ) × (told ≡ status.Refused line 9) × DiffersAt script (WholeLog has tables ∷ []) line)
one_whole script has tables told one below = (only told, back)
  where
    fits : AreAllFit script.nodes (WholeLog has tables ∷ [])
    fits = ((refl, refl), ap (λ (n : ℕ). first_unfit n (WholeLog has tables ∷ [])) one ∙ one_fits has tables below)

    only : (s : Status) → IsToldAtOpening script (WholeLog has tables ∷ []) s → (line : ℕ) × (s ≡ status.Refused line 9) × DiffersAt script (WholeLog has tables ∷ []) line
    only status.Done refused = absurd refused
    only status.Usage refused = absurd refused
    only (status.Refused line why) (fit, nine, differs) = (line, ap (λ (n : ℕ). status.Refused line n) nine, differs)
    only status.ReadFault refused = absurd refused
    only status.WriteFault refused = absurd refused
    only (status.StoreRefused node place) refused = none_is_some (first_bad 1 (WholeLog has tables ∷ [])) (record { node = node; at = place }) refl refused
    only (status.Unsound node) (inl (whole, unsound)) = none_is_some (first_unsound 1 (WholeLog has tables ∷ [])) node refl unsound
    only (status.Unsound node) (inr (sound, unfit)) = none_is_some (first_unfit script.nodes (WholeLog has tables ∷ [])) node fits.1 unfit
    only status.NoMemory refused = absurd refused

    back : (line : ℕ) × (told ≡ status.Refused line 9) × DiffersAt script (WholeLog has tables ∷ []) line → IsToldAtOpening script (WholeLog has tables ∷ []) told
    back (line, is, differs) = subst (λ (s : Status). IsToldAtOpening script (WholeLog has tables ∷ []) s) (sym is) (fits, refl, differs)
