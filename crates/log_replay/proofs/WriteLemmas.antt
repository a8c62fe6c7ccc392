-- Records written in order.
use Rattle.std.proofs.Common.{◌≡◌, ℕ, ◌+◌, ◌<◌, List, [], ◌∷◌, ◌++◌, refl, sym, ap, ◌∙◌, subst, length, Err}
use mathlib.Core.Path.{fun_ext}
use Rattle.page_store.specs.Image.{Image, HasRoom}
use Rattle.phys_log.specs.declared.entries.LogRecord.{LogRecord}
use Rattle.phys_log.specs.Logs.{after_record, replayed, IsNext, AreNext}
use Rattle.phys_log.proofs.ReplayLaws.{replayed-append, next_behind, next_both}
use Rattle.page_store.specs.declared.edits.ApplyFault.{ApplyFault}
use Rattle.page_store.specs.declared.edits.ApplyFault.TheVariants.{Unfit, NoMemory}
use Rattle.log_replay.specs.Kept.{Came, TellsWhether}

-- pages that are those of records over a base
pub record Backs (base : ℕ → Image) (lsn : ℕ) (pages : ℕ → Image) (records : List LogRecord) : Type 0 where
  pub next : AreNext base lsn records
  pub is : pages ≡ replayed base records

-- no record yet
pub backs_none : (base : ℕ → Image) (lsn : ℕ) → Backs base lsn base []
backs_none base lsn = record { next = tt; is = refl }

-- one record more
pub backs_more : (base : ℕ → Image) (lsn now : ℕ) (pages after : ℕ → Image) (done : List LogRecord) (r : LogRecord) → Backs base lsn pages done
    → now ≡ lsn + length done → IsNext pages now r → ((n : ℕ) → after n ≡ after_record pages r n) → Backs base lsn after (done ++ r ∷ [])
backs_more base lsn now pages after done r b at next made =
    let one : IsNext (replayed base done) (lsn + length done) r =
    subst (λ (f : ℕ → Image). IsNext f (lsn + length done) r) b.is (subst (λ (k : ℕ). IsNext pages k r) at next) in
    record {
      next = next_both base lsn done (r ∷ []) b.next (one, tt);
      is = fun_ext made ∙ ap (λ (f : ℕ → Image). after_record f r) b.is ∙ sym (replayed-append base done (r ∷ []));
    }

-- the record behind them is the next one
pub backs_next : (base : ℕ → Image) (lsn now : ℕ) (pages : ℕ → Image) (done rest : List LogRecord) (r : LogRecord) → Backs base lsn pages done
    → now ≡ lsn + length done → AreNext base lsn (done ++ r ∷ rest) → IsNext pages now r
backs_next base lsn now pages done rest r b at all =
    let one : IsNext (replayed base done) (lsn + length done) r = (next_behind base lsn done (r ∷ rest) all).0 in
    subst (λ (k : ℕ). IsNext pages k r) (sym at) (subst (λ (f : ℕ → Image). IsNext f (lsn + length done) r) (sym b.is) one)

-- what undoing them needs
pub backs_came : (base : ℕ → Image) (lsn : ℕ) (pages : ℕ → Image) (done : List LogRecord) → 0 < lsn → ((n : ℕ) → HasRoom (base n).cells)
    → Backs base lsn pages done → Came pages done
backs_came base lsn pages done some room b = record { base = base; lsn = lsn; numbered = some; room = room; next = b.next; is = b.is }

pub backs_same : (base : ℕ → Image) (lsn : ℕ) (pages after : ℕ → Image) (done : List LogRecord) → Backs base lsn pages done → ((n : ℕ) → after n ≡ pages n)
    → Backs base lsn after done
backs_same base lsn pages after done b same = record { next = b.next; is = fun_ext same ∙ b.is }

-- the same answer, of something that asks for more
pub whether_back : (T S : Type 0) (fault : ApplyFault) (P Q : Type 0) → (Q → P) → TellsWhether {T = T} (Err fault) P → TellsWhether {T = S} (Err fault) Q
whether_back T S Unfit P Q f h = λ q. h (f q)
whether_back T S NoMemory P Q f h = tt
