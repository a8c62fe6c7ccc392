-- Stores over which a script is played: no table differs where the best log has no entry, or the script's tables.
use Rattle.std.proofs.Common.{◌≡◌, ℕ, ◌<◌, ◌≤◌, List, length, sym, ap, arith, ◌∙◌, Option, Some, None, ◌⊎◌, inl, inr}
use Rattle.std.specs.Prelude.{slice_get}
use Rattle.cdb_values.specs.declared.tables.TableDef.{TableDef}
use Rattle.node_opening.specs.Tables.{IsDifference, IsLast}
use Rattle.script_form.specs.CanRun.{script_tables}
use Rattle.script_form.specs.declared.scripts.Script.{Script}
use Rattle.play_order.specs.Elections.{Ranked}
use Rattle.play_order.specs.Openings.{AreAllFit, DiffersAt, Finding, MayPlay, best_log, tables_at}

pub some_none : (n : ℕ) → Some n ≡ None → ⊥
some_none n is = let no_such : Some n ≡ None = is in cc

same_ranked : (r s : Ranked) (o : Option Ranked) → o ≡ Some r → o ≡ Some s → r ≡ s
same_ranked r s o first second = ap (λ (x : Option Ranked). or_r x) (sym first ∙ second)
  where
    or_r : Option Ranked → Ranked
    or_r None = r
    or_r (Some x) = x

no_entry : (script : Script) (fs : List Finding) (r : Ranked) → best_log fs ≡ Some r → length r.has.log ≡ 0 → (line : ℕ) → DiffersAt script fs line → ⊥
no_entry script fs r is none line d =
    let same : r ≡ d.best = same_ranked r d.best (best_log fs) is d.is_best in
    let short : length d.best.has.log ≡ 0 = ap (λ (x : Ranked). length x.has.log) (sym same) ∙ none in
    let long : 1 ≤ length d.best.has.log = d.some in
    omega (arith, short, long)

-- tables that are the same do not differ
same_tables : (given logged : List TableDef) (place : ℕ) → logged ≡ given → IsDifference given logged place → ⊥
same_tables given logged place same d = go d.differs
  where
    go : (slice_get given place ≡ slice_get logged place → ⊥) ⊎ IsLast given logged place → ⊥
    go (inl other) = other (ap (λ (ts : List TableDef). slice_get ts place) (sym same))
    go (inr last) = let more : length given < length logged = last.more in let long : length logged ≡ length given = ap length same in omega (arith, more, long)

pub empty_may : (script : Script) (fs : List Finding) (r : Ranked) → length fs ≡ script.nodes → AreAllFit script.nodes fs → best_log fs ≡ Some r → length r.has.log ≡ 0 → MayPlay script fs
empty_may script fs r each fit is none = record { one_each = each; fit = fit; same = no_entry script fs r is none }

pub same_may : (script : Script) (fs : List Finding) (r : Ranked) → length fs ≡ script.nodes → AreAllFit script.nodes fs → best_log fs ≡ Some r → tables_at fs r.node ≡ script_tables script → MayPlay script fs
same_may script fs r each fit is same = record {
  one_each = each;
  fit = fit;
  same = λ line d. same_tables (script_tables script) (tables_at fs d.best.node) d.place (ap (λ (x : Ranked). tables_at fs x.node) (sym (same_ranked r d.best (best_log fs) is d.is_best)) ∙ same) d.difference;
}
