-- The first conflict over changes, and those before it: which of the changes since a begin touch something that was used.
use Rattle.std.proofs.Common.{◌≡◌, ℕ, ◌+◌, ◌-◌, ◌<◌, ◌∷◌, [], List, refl, sym, ◌∙◌, ap, arith, length, drop, zero, suc}
use Rattle.std.specs.Prelude.{slice_get, unwrap_or, Option, Some, None}
use Rattle.std.proofs.lemmas.List.{length-drop}
use Rattle.std.proofs.lemmas.Option.{none-some}
use Rattle.cdb_values.specs.declared.rows.Change.{Change}
use Rattle.cdb_values.specs.declared.tables.TableDef.{TableDef}
use Rattle.session_language.specs.Touched.{Used, first_used, FirstUse, first_use, or_use}
use Rattle.block_processor.specs.Changed.{AreUnused, IsFirstUse}

or_none : (position : ℕ) (here : Option Used) (later : Option FirstUse) → or_use position here later ≡ None → (here ≡ None) × (later ≡ None)
or_none position None later is = (refl, is)
or_none position (Some item) later is = absurd (none-some _ (sym is))

some_position : (position : ℕ) (item : Used) (later : Option FirstUse) (f : FirstUse) → or_use position (Some item) later ≡ Some f → f.position ≡ position
some_position position item later f is = cc

some_item : (position : ℕ) (item : Used) (later : Option FirstUse) (f : FirstUse) → or_use position (Some item) later ≡ Some f → Some item ≡ Some f.item
some_item position item later f is = cc

get_dropped : (begin : ℕ) (changed : List (List Change)) (i : ℕ) → slice_get (drop begin changed) i ≡ slice_get changed (begin + i)
get_dropped zero changed i = let e : i ≡ 0 + i = omega arith in ap (λ (n : ℕ). slice_get changed n) e
get_dropped (suc begin) [] i = refl
get_dropped (suc begin) (x ∷ changed) i =
    let e : suc (begin + i) ≡ suc begin + i = omega arith in
    get_dropped begin changed i ∙ ap (λ (n : ℕ). slice_get (x ∷ changed) n) e

module _ (tables : List TableDef) (used : List Used) where
  -- what the changes at a place touch first
  abbrev pub used_in : List (List Change) → ℕ → Option Used
  used_in changed place = first_used tables (unwrap_or (slice_get changed place) []) used

  -- where there is no conflict, none of the changes touch what is used
  none_from : (position : ℕ) (later : List (List Change)) → first_use tables position later used ≡ None → (i : ℕ) → i < length later → used_in later i ≡ None
  none_from position [] none i within = absurd (omega (arith, within))
  none_from position (changes ∷ later) none zero within =
      (or_none (position + 1) (first_used tables changes used) (first_use tables (position + 1) later used) none).0
  none_from position (changes ∷ later) none (suc i) within =
      none_from (position + 1) later (or_none (position + 1) (first_used tables changes used) (first_use tables (position + 1) later used) none).1 i (omega (arith, within))

  -- the changes at a place touch that first, and those before them touch nothing
  abbrev pub IsFirstOf : ℕ → List (List Change) → FirstUse → Type 0
  IsFirstOf position later f =
      (i : ℕ) × (i < length later) × (f.position ≡ position + 1 + i) × (used_in later i ≡ Some f.item) × ((j : ℕ) → j < i → used_in later j ≡ None)

  here_first : (position : ℕ) (changes : List Change) (later : List (List Change)) (f : FirstUse) → f.position ≡ position + 1
      → first_used tables changes used ≡ Some f.item → IsFirstOf position (changes ∷ later) f
  here_first position changes later f at touched = (0, omega arith, omega (arith, at), touched, none_before)
    where
      none_before : (j : ℕ) → j < 0 → used_in (changes ∷ later) j ≡ None
      none_before j h = absurd (omega (arith, h))

  later_first : (position : ℕ) (changes : List Change) (later : List (List Change)) (f : FirstUse) → first_used tables changes used ≡ None
      → IsFirstOf (position + 1) later f → IsFirstOf position (changes ∷ later) f
  later_first position changes later f none (i, within, at, touched, untouched) = (suc i, omega (arith, within), omega (arith, at), touched, before)
    where
      before : (j : ℕ) → j < suc i → used_in (changes ∷ later) j ≡ None
      before zero h = none
      before (suc j) h = untouched j (omega (arith, h))

  one_from : (position : ℕ) (later : List (List Change)) (f : FirstUse) → first_use tables position later used ≡ Some f → IsFirstOf position later f
  one_from position [] f is = absurd (none-some _ is)
  one_from position (changes ∷ later) f is = pick (first_used tables changes used) refl (one_from (position + 1) later f) is
    where
      pick : (here : Option Used) → first_used tables changes used ≡ here → (first_use tables (position + 1) later used ≡ Some f → IsFirstOf (position + 1) later f)
          → or_use (position + 1) here (first_use tables (position + 1) later used) ≡ Some f → IsFirstOf position (changes ∷ later) f
      pick (Some item) e go is =
          here_first position changes later f (some_position (position + 1) item (first_use tables (position + 1) later used) f is)
          (e ∙ some_item (position + 1) item (first_use tables (position + 1) later used) f is)
      pick None e go is = later_first position changes later f e (go is)

  -- the place of a position in what is left after a begin
  same_item : (begin : ℕ) (changed : List (List Change)) (i j : ℕ) (found : Option Used) → begin + i ≡ j → used_in (drop begin changed) i ≡ found → used_in changed j ≡ found
  same_item begin changed i j found same is =
      sym (ap (λ (o : Option (List Change)). first_used tables (unwrap_or o []) used) (get_dropped begin changed i ∙ ap (λ (n : ℕ). slice_get changed n) same)) ∙ is

  pub none_used : (begin : ℕ) (changed : List (List Change)) → first_use tables begin (drop begin changed) used ≡ None
      → AreUnused tables begin (length changed + 1) changed used
  none_used begin changed none j after within =
      let long : length (drop begin changed) ≡ length changed - begin = length-drop begin changed in
      let place : begin + (j - 1 - begin) ≡ j - 1 = omega (arith, after) in
      let inside : j - 1 - begin < length (drop begin changed) = omega (arith, long, after, within) in
      same_item begin changed (j - 1 - begin) (j - 1) None place (none_from begin (drop begin changed) none (j - 1 - begin) inside)

  since : (begin : ℕ) (changed : List (List Change)) (f : FirstUse) → IsFirstOf begin (drop begin changed) f → IsFirstUse tables begin changed used f
  since begin changed f (i, within, at, touched, untouched) =
      let long : length (drop begin changed) ≡ length changed - begin = length-drop begin changed in
      let place : begin + i ≡ f.position - 1 = omega (arith, at) in
      record {
        after = omega (arith, at);
        within = omega (arith, long, within, at);
        touched = same_item begin changed i (f.position - 1) (Some f.item) place touched;
        before = before;
      }
    where
      before : (j : ℕ) → begin < j → j < f.position → used_in changed (j - 1) ≡ None
      before j after h =
          let place : begin + (j - 1 - begin) ≡ j - 1 = omega (arith, after) in
          let earlier : j - 1 - begin < i = omega (arith, after, h, at) in
          same_item begin changed (j - 1 - begin) (j - 1) None place (untouched (j - 1 - begin) earlier)

  pub one_used : (begin : ℕ) (changed : List (List Change)) (f : FirstUse) → first_use tables begin (drop begin changed) used ≡ Some f
      → IsFirstUse tables begin changed used f
  one_used begin changed f is = since begin changed f (one_from begin (drop begin changed) f is)
