-- The opening of one store: its node leads at once, in the generation above its promise, with the log that it had, or the setup; the base
-- is how long that log was. A commit that is sent to it adds its entry, and it leads on.
use Rattle.std.proofs.Common.{◌≡◌, ℕ, zero, suc, ◌+◌, ◌*◌, List, [], ◌∷◌, ◌++◌, length, refl, ap, arith, ◌∙◌, Bool, true, false, not, ◌&&◌, ◌||◌, if◌then◌else◌, Some, None, ltb, le-ltb, ◌==◌, eq-eqb, ne_eqb}
use Rattle.std.specs.List.{list_any}
use Rattle.std.proofs.Math.Nat.{max-zero}
use Rattle.cdb_values.specs.declared.tables.TableDef.{TableDef}
use Rattle.report_text.specs.declared.reports.EntryLine.{EntryLine}
use Rattle.report_text.specs.declared.reports.EntryLine.TheVariants.{Setup}
use Rattle.play_order.specs.Deeds.{CommitSent, attempts, does_deed, entry_behind, is_its, sends_in}
use Rattle.play_order.specs.Deeds.Deed.{Sends}
use Rattle.play_order.specs.Elections.{best_of, chooses_in, elects, elects_best, leads, ships, takes_one}
use Rattle.play_order.specs.OneStore.{accepted_by, one_leading, set_up_log}
use Rattle.play_order.specs.Openings.{gathered}
use Rattle.play_order.specs.Openings.Finding.{WholeLog}
use Rattle.play_order.specs.Peers.{Holding, Peers, branch, numbers_to}
use Rattle.play_order.specs.Played.{behind_opening}
use Rattle.play_order.specs.Tail.{base_by, base_in}

not_less : (g : ℕ) → ltb g g ≡ false
not_less g = le-ltb g g (omega arith)

same_number : (g : ℕ) → (g == g) ≡ true
same_number g = eq-eqb g g refl

-- one that leads is not chosen again
stays_chosen : (g adopted : ℕ) (accepts : List ℕ) (log : List EntryLine) (more : ℕ) → chooses_in more 1 (one_leading g adopted accepts log) ≡ one_leading g adopted accepts log
stays_chosen g adopted accepts log zero = refl
stays_chosen g adopted accepts log (suc more) =
    ap (λ (b : Bool). branch (true && ((true && b) || false)) (λ q. chooses_in more 1 (elects_best 1 (best_of (λ v. v.up) q) q)) (λ q. q) (one_leading g adopted accepts log)) (not_less g)

-- the candidate promised a generation
abbrev standing : ℕ → ℕ → List EntryLine → Peers
standing g accepted log = record {
  all = record { up = true; came = true; has = record { promised = g; accepted = accepted; log = log }; keeps = record { promised = g; accepted = accepted; log = log }; accepts = []; late = [] } ∷ [];
  master = None;
  reigns = [];
  falls = [];
  told = [];
}

-- so it leads in it
leads_alone : (g accepted : ℕ) (log : List EntryLine) → leads 1 1 g (standing g accepted log) ≡ one_leading g (length log) (accepted_by g log) (set_up_log log)
leads_alone g accepted [] = refl
leads_alone g accepted (e ∷ es) =
    ap (λ (b : Bool). branch (true && b) (λ q. ships 1 (numbers_to 1) (takes_one 1 (Setup 1) q)) (λ q. q) (one_leading g (length (e ∷ es)) (g ∷ []) (e ∷ es))) (ne_eqb (length (e ∷ es)) 0 none)
  where
    none : length (e ∷ es) ≡ 0 → ⊥
    none is = let no_such : suc (length es) ≡ 0 = is in omega (arith, no_such)

elects_alone : (g : ℕ) (has : Holding) (tables : List TableDef) → elects 1 1 g (gathered (WholeLog has tables ∷ []) []) ≡ leads 1 1 g (standing g has.accepted has.log)
elects_alone g has tables =
    ap (λ (b : Bool). branch (true && ltb 1 (2 * ((if (true && b) then 1 else 0) + 0))) (λ q. leads 1 1 g q) (λ q. q) (standing g has.accepted has.log)) (same_number g)

pub taken_up : (has : Holding) (tables : List TableDef) → behind_opening 1 (WholeLog has tables ∷ []) [] ≡ one_leading (has.promised + 1) (length has.log) (accepted_by (has.promised + 1) has.log) (set_up_log has.log)
taken_up has tables =
    ap (λ (k : ℕ). chooses_in 1 1 (elects 1 1 (k + 1) (gathered (WholeLog has tables ∷ []) []))) (max-zero has.promised)
    ∙ (ap (λ (p : Peers). chooses_in 1 1 p) (elects_alone (has.promised + 1) has tables ∙ leads_alone (has.promised + 1) has.accepted has.log)
    ∙ stays_chosen (has.promised + 1) (length has.log) (accepted_by (has.promised + 1) has.log) (set_up_log has.log) 1)

-- the base is the length of what it adopted
base_of_one : (g adopted : ℕ) (accepts : List ℕ) (log : List EntryLine) → base_in 1 (one_leading g adopted (g ∷ accepts) log) ≡ adopted
base_of_one g adopted accepts log =
    ap (λ (b : Bool). base_by (if ltb 1 (2 * ((if (b || list_any (λ (h : ℕ). h == g) accepts) then 1 else 0) + 0)) then Some (record { generation = g; adopted = adopted }) else None) log) (same_number g)

pub based_on_its_log : (has : Holding) (tables : List TableDef) → base_in 1 (behind_opening 1 (WholeLog has tables ∷ []) []) ≡ length has.log
based_on_its_log has tables = ap (λ (p : Peers). base_in 1 p) (taken_up has tables) ∙ go has.log
  where
    go : (log : List EntryLine) → base_in 1 (one_leading (has.promised + 1) (length log) (accepted_by (has.promised + 1) log) (set_up_log log)) ≡ length log
    go [] = base_of_one (has.promised + 1) 0 ((has.promised + 1) ∷ []) (Setup 1 ∷ [])
    go (e ∷ es) = base_of_one (has.promised + 1) (length (e ∷ es)) [] (e ∷ es)

-- a commit adds its entry, where the log has it not
pub adds_its_entry : (g adopted : ℕ) (accepts : List ℕ) (log : List EntryLine) (sent : CommitSent) → list_any (is_its sent) log ≡ false →
    does_deed 1 (Sends sent 1 []) (one_leading g adopted accepts log) ≡ one_leading g adopted (accepts ++ g ∷ []) (log ++ entry_behind log sent ∷ [])
adds_its_entry g adopted accepts log sent none =
    ap (λ (b : Bool). branch (true && not b) (λ q. attempts (λ left r. sends_in 0 1 sent left r) 1 1 sent [] q) (λ q. q) (one_leading g adopted accepts log)) none
    ∙ stays_chosen g adopted (accepts ++ g ∷ []) (log ++ entry_behind log sent ∷ []) 2
