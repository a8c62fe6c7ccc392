-- A sound log with the entries of a later generation behind it.
use Rattle.std.proofs.Common.{◌≡◌, ◌≤◌, ◌<◌, ◌⊎◌, ℕ, inl, inr, List, [], ◌∷◌, ◌++◌, Some, drop, sym, ap, ◌∙◌, subst, arith}
use Rattle.std.specs.List.{AllByRecursion}
use Rattle.std.proofs.lemmas.List.{append_assoc}
use Rattle.cdb_values.specs.Rows.{Rows}
use Rattle.cdb_values.specs.declared.tables.TableDef.{TableDef}
use Rattle.phys_log.specs.Logs.{pages_of}
use Rattle.phys_log.specs.declared.entries.CommitId.{CommitId}
use Rattle.phys_log.specs.declared.entries.Entry.{Entry}
use Rattle.log_replay.specs.Answers.{schema_of}
use Rattle.log_rows.specs.History.{tables_of, IsCommit}
use Rattle.table_store.specs.Listings.{IsAmong}
use Rattle.table_store.proofs.AmongLaws.{among_either}
use Rattle.table_state.specs.States.{HasState}
use Rattle.sound_log.specs.Identities.{ids_of, ids_in, AreApart}
use Rattle.sound_log.specs.Sound.{HasBegunBy, IsBegunIn, IsSound}
use Rattle.sound_log.proofs.GrowthLemmas.{all_later, all_more}
use Rattle.sound_log.proofs.SoundLemmas.{tables_are}

-- the identities of entries behind others
ids_join : (front back : List Entry) → ids_in (front ++ back) ≡ ids_in front ++ ids_in back
ids_join [] back = λ i. ids_in back
ids_join (e ∷ es) back = ap (λ (l : List CommitId). ids_of e ++ l) (ids_join es back) ∙ sym (append_assoc (ids_of e) (ids_in es) (ids_in back))

-- what holds of all holds of one among them
of_one : (P : CommitId → Type 0) (id : CommitId) (ids : List CommitId) → AllByRecursion P ids → IsAmong id ids → P id
of_one P id [] all among = absurd among
of_one P id (x ∷ ids) all (inl e) = subst P (sym e) all.0
of_one P id (x ∷ ids) all (inr among) = of_one P id ids all.1 among

-- identities that are apart, behind others that are apart and have none of them
apart_join : (front back : List CommitId) → AreApart front → AreApart back → ((id : CommitId) → IsAmong id front → IsAmong id back → ⊥)
    → AreApart (front ++ back)
apart_join [] back first later off = later
apart_join (id ∷ front) back first later off =
    (λ among. go (among_either id front back among), apart_join front back first.1 later (λ other early. off other (inr early)))
  where
    go : IsAmong id front ⊎ IsAmong id back → ⊥
    go (inl early) = first.0 early
    go (inr late) = off id (inl (λ i. id)) late

-- what is known of the identities of a sound log
pub record AreKnown (accepted : ℕ) (ids : List CommitId) : Type 0 where
  pub apart : AreApart ids
  pub begun : AllByRecursion (HasBegunBy accepted) ids

known : (accepted : ℕ) (entries : List Entry) → IsSound accepted entries → AreKnown accepted (ids_in entries)
known accepted entries (inl none) = subst (λ (es : List Entry). AreKnown accepted (ids_in es)) (sym none) (record { apart = tt; begun = tt })
known accepted entries (inr sound) = record { apart = sound.apart; begun = sound.begun }

by_then : (generation : ℕ) (ids : List CommitId) → AllByRecursion (IsBegunIn generation) ids → AllByRecursion (HasBegunBy generation) ids
by_then generation [] all = tt
by_then generation (id ∷ ids) all = (at id.began all.0, by_then generation ids all.1)
  where
    at : (n : ℕ) → n ≡ generation → n ≤ generation
    at n e = omega arith

pub sound_on : (accepted generation : ℕ) (before made : List Entry) (tables : List TableDef) (rows : Rows) → accepted < generation
    → IsSound accepted before → schema_of (before ++ made) ≡ Some tables
    → AllByRecursion IsCommit (drop 1 (before ++ made)) → AllByRecursion (IsBegunIn generation) (ids_in made) → AreApart (ids_in made)
    → HasState (pages_of (before ++ made)) tables rows → IsSound generation (before ++ made)
sound_on accepted generation before made tables rows later sound schema commits begun apart state = inr (record {
  setup = schema ∙ ap (λ (t : List TableDef). Some t) (sym are);
  commits = commits;
  rows = rows;
  state = subst (λ (t : List TableDef). HasState (pages_of (before ++ made)) t rows) (sym are) state;
  apart = subst AreApart (sym (ids_join before made)) (apart_join (ids_in before) (ids_in made) old.apart apart off);
  begun = subst (λ (l : List CommitId). AllByRecursion (HasBegunBy generation) l) (sym (ids_join before made))
      (all_more (HasBegunBy generation) (ids_in before) (ids_in made) (all_later accepted generation (ids_in before) up old.begun)
      (by_then generation (ids_in made) begun));
})
  where
    are : tables_of (before ++ made) ≡ tables
    are = tables_are (before ++ made) tables schema

    old : AreKnown accepted (ids_in before)
    old = known accepted before sound

    up : accepted ≤ generation
    up = omega arith

    off : (id : CommitId) → IsAmong id (ids_in before) → IsAmong id (ids_in made) → ⊥
    off id early late =
        let first : id.began ≤ accepted = of_one (HasBegunBy accepted) id (ids_in before) old.begun early in
        let second : id.began ≡ generation = of_one (IsBegunIn generation) id (ids_in made) begun late in
        omega arith
