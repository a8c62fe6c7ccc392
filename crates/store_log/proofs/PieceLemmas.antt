-- A log, and what an open adoption leaves out of it.
use Rattle.std.proofs.Common.{◌≡◌, ℕ, zero, suc, ◌+◌, ◌≤◌, List, [], ◌∷◌, ◌++◌, length, take, drop, min, Option, Some, None, Result, Err, refl, sym, ap, ◌∙◌, subst, append_assoc, arith, length-append}
use Rattle.std.proofs.lemmas.List.{append-nil, take-append-drop, take-append-le, length-take}
use Rattle.std.proofs.Math.Logic.{∥∥₁_map}
use Rattle.phys_log.specs.Logs.{Fits, IsLog}
use Rattle.phys_log.specs.declared.entries.Entry.{Entry}
use Rattle.phys_log.proofs.LogLaws.{log_more, log_front, log_fits}
use Rattle.log_replay.specs.Answers.{TellsFits}
use Rattle.log_replay.specs.declared.logs.AppendFault.{AppendFault}
use Rattle.log_replay.specs.declared.logs.AppendFault.TheVariants as append
use Rattle.log_replay.proofs.LogLemmas.{log_out}
use Rattle.store_log.specs.declared.asides.Aside.{Aside}
use Rattle.store_log.specs.declared.held_logs.TakeFault.{TakeFault}
use Rattle.store_log.specs.Steps.{TellsMay, told}
use Rattle.store_log.specs.Asides.{log_of, IsWithin, ArePieces}

pub take_twice : (n : ℕ) (xs : List Entry) → take n (take n xs) ≡ take n xs
take_twice zero xs = refl
take_twice (suc n) [] = refl
take_twice (suc n) (x ∷ xs) = ap (λ (l : List Entry). x ∷ l) (take_twice n xs)

-- one log and no adoption
pub plain_pieces : (log : List Entry) → ∥ IsLog log ∥₁ → ArePieces log None
plain_pieces log h = record { logged = h; adopted = h; within = tt }

pub no_pieces : ArePieces [] None
no_pieces = plain_pieces [] (∣ tt ∣₁)

-- an entry is added to an adoption
front_stays : (kept : ℕ) (live : List Entry) (e : Entry) → kept ≤ length live → take kept (live ++ e ∷ []) ≡ take kept live
front_stays zero live e n = refl
front_stays (suc k) [] e n = absurd (omega arith)
front_stays (suc k) (x ∷ xs) e n = ap (λ (l : List Entry). x ∷ l) (front_stays k xs e (omega arith))

pub log_stays : (live : List Entry) (e : Entry) (a : Aside) → ArePieces live (Some a) → log_of (live ++ e ∷ []) (Some a) ≡ log_of live (Some a)
log_stays live e a p = ap (λ (l : List Entry). l ++ a.tail) (front_stays a.kept live e p.within)

pub one_more : (live : List Entry) (e : Entry) (a : Aside) → ArePieces live (Some a) → Fits live e → ArePieces (live ++ e ∷ []) (Some a)
one_more live e a p fits =
    let size : length (live ++ e ∷ []) ≡ length live + 1 = length-append live (e ∷ []) in
    let within : a.kept ≤ length live = p.within in
    let more : a.kept ≤ length (live ++ e ∷ []) = omega arith in
    record {
      logged = subst (λ (l : List Entry). ∥ IsLog l ∥₁) (sym (log_stays live e a p)) p.logged;
      adopted = ∥∥₁_map p.adopted (λ log. log_more live e log fits);
      within = more;
    }

-- an entry is added to a log
pub log_and_entry : (live log : List Entry) (e : Entry) → log ≡ live ++ e ∷ [] → ∥ IsLog live ∥₁ → Fits live e → ∥ IsLog log ∥₁
log_and_entry live log e same h fits =
    subst (λ (l : List Entry). ∥ IsLog l ∥₁) (sym same) (∥∥₁_map h (λ is_log. log_more live e is_log fits))

pub told_may : {T : Type 0} (U : Type 0) (r : Result T AppendFault) (f : AppendFault) (t : TakeFault) (fits : Type 0) → r ≡ Err f → t ≡ told f
    → TellsFits r fits → TellsMay {T = U} (Err t) fits
told_may {T} U r f t fits is why tells =
    subst (λ (w : TakeFault). TellsMay {T = U} (Err w) fits) (sym why) (by_cases f (subst (λ (q : Result T AppendFault). TellsFits q fits) is tells))
  where
    by_cases : (g : AppendFault) → TellsFits {T = T} (Err g) fits → TellsMay {T = U} (Err (told g)) fits
    by_cases (append.Unfit e) h = h
    by_cases (append.NoMemory e) h = tt

-- a log is cut
pub cut_log : (log : List Entry) (kept : ℕ) → log_of (take kept log) (Some record { kept = kept; tail = drop kept log }) ≡ log
cut_log log kept = ap (λ (l : List Entry). l ++ drop kept log) (take_twice kept log) ∙ take-append-drop kept log

pub cut_pieces : (log : List Entry) (kept : ℕ) → kept ≤ length log → ∥ IsLog log ∥₁
    → ArePieces (take kept log) (Some record { kept = kept; tail = drop kept log })
cut_pieces log kept n h =
    let size : length (take kept log) ≡ min kept (length log) = length-take kept log in
    let within : kept ≤ length (take kept log) = omega arith in
    record {
      logged = subst (λ (l : List Entry). ∥ IsLog l ∥₁) (sym (cut_log log kept)) h;
      adopted = ∥∥₁_map h (λ log_is. log_front (take kept log) (drop kept log) (subst IsLog (sym (take-append-drop kept log)) log_is));
      within = within;
    }

-- the next of the entries that a log had before fits
pub next_fits : (log rest : List Entry) (e : Entry) → ∥ IsLog (log ++ e ∷ rest) ∥₁ → Fits log e
next_fits log rest e h =
    log_fits log e (log_front (log ++ e ∷ []) rest (subst IsLog (sym (append_assoc log (e ∷ []) rest)) (log_out (log ++ e ∷ rest) h)))
