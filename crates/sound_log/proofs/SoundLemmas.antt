-- Sound logs: what the tests of the parts tell.
use Rattle.std.proofs.Common.{◌≡◌, ◌≤◌, ◌&&◌, ◌||◌, ℕ, Bool, true, false, inl, inr, List, [], ◌∷◌, ◌++◌, nat_eq, nat_le, Option, Some, None, unwrap_or, drop, IfSome, refl, sym, ap, ◌∙◌, subst, arith}
use Rattle.std.specs.Bool.{Decides}
use Rattle.std.specs.List.{AllByRecursion, list_all, list_any}
use Rattle.std.proofs.lemmas.Bool.{false≢true}
use Rattle.std.proofs.lemmas.Bool.Decides.{Decides-and, Decides-like, Decides-eqb, nat_tests}
use Rattle.cdb_values.specs.Rows.{Rows}
use Rattle.cdb_values.specs.declared.tables.TableDef.{TableDef}
use Rattle.page_workspace.specs.Spare.{IsIn}
use Rattle.phys_log.specs.Logs.{pages_of}
use Rattle.phys_log.specs.declared.entries.CommitId.{CommitId}
use Rattle.phys_log.specs.declared.entries.Entry.{Entry}
use Rattle.phys_log.specs.declared.entries.Entry.TheVariants.{Setup, Commit}
use Rattle.log_replay.specs.Answers.{schema_of}
use Rattle.log_rows.specs.History.{tables_of, IsCommit}
use Rattle.table_state.specs.States.{HasState}
use Rattle.sound_log.specs.Identities.{ids_of, ids_in, AreApart}
use Rattle.sound_log.specs.Sound.{HasBegunBy, IsSoundHistory, IsSound, IsStateOf}
use Rattle.sound_log.specs.Begun.{is_begun_by}

-- a number that is not in a list
there : (n : ℕ) (ids : List ℕ) → list_any (nat_eq n) ids ≡ true → IsIn n ids
there n [] e = absurd (false≢true e)
there n (x ∷ xs) e = at (nat_eq n x) refl (λ k. there n xs k) e
  where
    at : (b : Bool) → nat_eq n x ≡ b → (list_any (nat_eq n) xs ≡ true → IsIn n xs) → (b || list_any (nat_eq n) xs) ≡ true → IsIn n (x ∷ xs)
    at true k more e = inl ((Decides-eqb n x).0 k)
    at false k more e = inr (more e)

pub not_in : (n : ℕ) (ids : List ℕ) → (IsIn n ids → ⊥) → list_any (nat_eq n) ids ≡ false
not_in n ids off = go (list_any (nat_eq n) ids) refl
  where
    go : (b : Bool) → list_any (nat_eq n) ids ≡ b → list_any (nat_eq n) ids ≡ false
    go true e = absurd (off (there n ids e))
    go false e = e

-- what the tests of all entries behind the first tell
begun_decides : (accepted : ℕ) (entries : List Entry) →
    Decides (list_all (is_begun_by accepted) entries) (AllByRecursion IsCommit entries × AllByRecursion (HasBegunBy accepted) (ids_in entries))
begun_decides accepted [] = (λ e. (tt, tt), λ h. refl)
begun_decides accepted (Setup generation schema records ∷ es) = (λ e. absurd (false≢true e), λ h. absurd h.0.0)
begun_decides accepted (Commit generation id begin level changes records ∷ es) =
    Decides-like (nat_le id.began accepted && list_all (is_begun_by accepted) es) (λ h. ((tt, h.1.0), (h.0, h.1.1))) (λ h. (h.1.0, (h.0.1, h.1.1)))
    (Decides-and (nat_le id.began accepted) (list_all (is_begun_by accepted) es) (le_decides id.began accepted) (begun_decides accepted es))
  where
    le_decides : (a b : ℕ) → Decides (nat_le a b) (a ≤ b)
    le_decides a b = (λ e. grind (arith, nat_tests), λ h. grind (arith, nat_tests))

-- what holds of identities holds of the last ones
all_behind : (P : CommitId → Type 0) (front back : List CommitId) → AllByRecursion P (front ++ back) → AllByRecursion P back
all_behind P [] back h = h
all_behind P (id ∷ front) back h = all_behind P front back h.1

-- a sound log that has entries
with_entries : (accepted : ℕ) (entries others : List Entry) (first : Entry) → entries ≡ first ∷ others → IsSound accepted entries → IsSoundHistory accepted entries
with_entries accepted entries others first cut (inl none) = absurd (other (sym cut ∙ none))
  where
    other : first ∷ others ≡ [] → ⊥
    other e = cc
with_entries accepted entries others first cut (inr whole) = whole

-- the tables of a log whose first entry is a setup
pub tables_are : (entries : List Entry) (tables : List TableDef) → schema_of entries ≡ Some tables → tables_of entries ≡ tables
tables_are entries tables schema = ap (λ (o : Option (List TableDef)). unwrap_or o []) schema

-- a log that is not sound, since one of the entries behind the first is no transaction, or one that began later
pub not_begun : (accepted : ℕ) (entries others : List Entry) (first : Entry) → entries ≡ first ∷ others
    → list_all (is_begun_by accepted) others ≡ false → IsSound accepted entries → ⊥
not_begun accepted entries others first cut off sound =
    false≢true (sym off ∙ (begun_decides accepted others).1 (commits, begun))
  where
    whole : IsSoundHistory accepted entries
    whole = with_entries accepted entries others first cut sound

    commits : AllByRecursion IsCommit others
    commits = subst (λ (es : List Entry). AllByRecursion IsCommit (drop 1 es)) cut whole.commits

    begun : AllByRecursion (HasBegunBy accepted) (ids_in others)
    begun = all_behind (HasBegunBy accepted) (ids_of first) (ids_in others)
        (subst (λ (es : List Entry). AllByRecursion (HasBegunBy accepted) (ids_in es)) cut whole.begun)

-- a setup has no identity
no_id : (first : Entry) (others : List Entry) (tables : List TableDef) → schema_of (first ∷ others) ≡ Some tables → ids_of first ≡ []
no_id (Setup generation schema records) others tables e = refl
no_id (Commit generation id begin level changes records) others tables e = absurd (other e)
  where
    other : None ≡ Some tables → ⊥
    other e = cc

-- a log all of whose other parts are as in a sound one is sound where its pages stand for a state
pub state_decides : (accepted : ℕ) (entries others : List Entry) (first : Entry) (tables : List TableDef) (has : Bool) → entries ≡ first ∷ others
    → schema_of entries ≡ Some tables → list_all (is_begun_by accepted) others ≡ true
    → AreApart (ids_in others) → Decides has ((rows : Rows) × HasState (pages_of entries) tables rows) → Decides has (IsSound accepted entries)
state_decides accepted entries others first tables has cut schema begun apart state =
    (λ e. inr (whole (state.0 e)), λ h. state.1 (told (with_entries accepted entries others first cut h)))
  where
    are : tables_of entries ≡ tables
    are = tables_are entries tables schema

    ids : ids_in entries ≡ ids_in others
    ids = ap ids_in cut ∙ ap (λ (l : List CommitId). l ++ ids_in others)
        (no_id first others tables (subst (λ (es : List Entry). schema_of es ≡ Some tables) cut schema))

    whole : (rows : Rows) × HasState (pages_of entries) tables rows → IsSoundHistory accepted entries
    whole (rows, stands) = record {
      setup = schema ∙ ap (λ (t : List TableDef). Some t) (sym are);
      commits = subst (λ (es : List Entry). AllByRecursion IsCommit (drop 1 es)) (sym cut) ((begun_decides accepted others).0 begun).0;
      rows = rows;
      state = subst (λ (t : List TableDef). HasState (pages_of entries) t rows) (sym are) stands;
      apart = subst AreApart (sym ids) apart;
      begun = subst (λ (l : List CommitId). AllByRecursion (HasBegunBy accepted) l) (sym ids) ((begun_decides accepted others).0 begun).1;
    }

    told : IsSoundHistory accepted entries → (rows : Rows) × HasState (pages_of entries) tables rows
    told sound = (sound.rows, subst (λ (t : List TableDef). HasState (pages_of entries) t sound.rows) are sound.state)

-- the state of its tables
pub state_found : (entries : List Entry) (tables : List TableDef) (found : Option Rows) → schema_of entries ≡ Some tables
    → IfSome found (λ rows. HasState (pages_of entries) tables rows) → IfSome found (IsStateOf entries)
state_found entries tables None schema told = tt
state_found entries tables (Some rows) schema told =
    inr (subst (λ (t : List TableDef). HasState (pages_of entries) t rows) (sym (tables_are entries tables schema)) told)
