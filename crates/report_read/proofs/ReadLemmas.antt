-- What the code returns, by the laws of the reader; and its loop over the lines.
use Rattle.std.proofs.Common.{◌≡◌, ℕ, zero, suc, List, length, Option, Some, None, Result, Ok, Err, true, false, eqb, refl, sym, ap, ◌∙◌}
use Rattle.std.specs.Prelude.{IfOk, IfSome, IfNone}
use Rattle.report_text.specs.declared.reports.Report.{Report}
use Rattle.report_read.specs.declared.drafts.Item.{Item}
use Rattle.report_read.specs.declared.drafts.Draft.{Draft}
use Rattle.report_text.specs.Grammar.{IsReport}
use Rattle.report_text.specs.Text.{report_text}
use Rattle.byte_words.specs.Answers.{Finds, Gives}
use Rattle.report_read.specs.Reading.{item_at, added, drafted, report_of}
use Rattle.report_read.proofs.ReportLaws.{report_found, report_again}

some_found : (bytes : List ℕ) (o : Option Report) → Finds (λ r. r) o (report_of bytes) → IfSome o (λ r. IsReport r × (report_text r ≡ bytes))
some_found bytes None h = tt
some_found bytes (Some r) h = report_found bytes r h

pub is_found : {E : Type 0} (bytes : List ℕ) (result : Result (Option Report) E) → Gives (λ r. r) result (report_of bytes) → IfOk result (λ o. IfSome o (λ r. IsReport r × (report_text r ≡ bytes)))
is_found bytes (Ok o) h = some_found bytes o h
is_found bytes (Err e) h = tt

reading_is : (o : Option Report) (read : Option Report) → Finds (λ r. r) o read → o ≡ read
reading_is None read h = sym h
reading_is (Some r) read h = sym h

only_one : (bytes : List ℕ) (o : Option Report) → Finds (λ r. r) o (report_of bytes) → (r : Report) → IsReport r → report_text r ≡ bytes → o ≡ Some r
only_one bytes o h r is e = reading_is o (report_of bytes) h ∙ ap report_of (sym e) ∙ report_again r is

pub is_only : {E : Type 0} (bytes : List ℕ) (result : Result (Option Report) E) → Gives (λ r. r) result (report_of bytes) → IfOk result (λ o. (r : Report) → IsReport r → report_text r ≡ bytes → o ≡ Some r)
is_only bytes (Ok o) h = only_one bytes o h
is_only bytes (Err e) h = tt

no_report : (bytes : List ℕ) (o : Option Report) → Finds (λ r. r) o (report_of bytes) → IfNone o ((r : Report) → IsReport r → report_text r ≡ bytes → ⊥)
no_report bytes None h = λ r is e. let some = only_one bytes None h r is e in absurd cc
no_report bytes (Some r) h = tt

pub is_none : {E : Type 0} (bytes : List ℕ) (result : Result (Option Report) E) → Gives (λ r. r) result (report_of bytes) → IfOk result (λ o. IfNone o ((r : Report) → IsReport r → report_text r ≡ bytes → ⊥))
is_none bytes (Ok o) h = no_report bytes o h
is_none bytes (Err e) h = tt

-- ---- the loop

pub all_drafted : (n : ℕ) (d : Draft) (rest : List ℕ) (total : Option Draft) → eqb (length rest) 0 ≡ true → drafted n d rest ≡ total → total ≡ Some d
unfolding drafted
all_drafted zero d rest total h so_far = sym so_far ∙ rw h refl
all_drafted (suc n) d rest total h so_far = sym so_far ∙ rw h refl

pub no_turn_left : (n : ℕ) (d : Draft) (rest : List ℕ) (total : Option Draft) → n ≡ 0 → eqb (length rest) 0 ≡ false → drafted n d rest ≡ total → total ≡ None
unfolding drafted
no_turn_left n d rest total e h so_far = sym so_far ∙ rw (e, h) refl

pub no_item : (n m : ℕ) (d : Draft) (rest : List ℕ) (total : Option Draft) → n ≡ suc m → eqb (length rest) 0 ≡ false → item_at rest ≡ None → drafted n d rest ≡ total → total ≡ None
unfolding drafted
no_item n m d rest total e h none so_far = sym so_far ∙ rw (e, h, none) refl

pub no_place : (n m : ℕ) (d : Draft) (rest after : List ℕ) (i : Item) (total : Option Draft) → n ≡ suc m → eqb (length rest) 0 ≡ false → item_at rest ≡ Some (i, after) → added d i ≡ None → drafted n d rest ≡ total → total ≡ None
unfolding drafted
no_place n m d rest after i total e h some none so_far = sym so_far ∙ rw (e, h, some, none) refl

pub next_item : (n m : ℕ) (d next : Draft) (rest after : List ℕ) (i : Item) (total : Option Draft) → n ≡ suc m → eqb (length rest) 0 ≡ false → item_at rest ≡ Some (i, after) → added d i ≡ Some next → drafted n d rest ≡ total → drafted m next after ≡ total
unfolding drafted
next_item n m d next rest after i total e h some more so_far = let one : drafted n d rest ≡ drafted m next after = rw (e, h, some, more) refl in sym one ∙ so_far
