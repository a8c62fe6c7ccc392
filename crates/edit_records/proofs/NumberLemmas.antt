-- Edits numbered one after the other.
use Rattle.std.proofs.Common.{◌≡◌, ℕ, ◌+◌, ◌<◌, ◌≤◌, ◌^◌, ◌==◌, if◌then◌else◌, inl, inr, List, [], ◌∷◌, ◌++◌, refl, sym, ap, ◌∙◌, subst, Result, Ok, Err, arith, append_assoc}
use Rattle.std.specs.Result.{IfOk}
use Rattle.page_store.specs.Image.{Image}
use Rattle.page_store.specs.Sources.{Rose, IsExcused}
use Rattle.page_store.specs.declared.edits.Edit.{Edit}
use Rattle.page_store.specs.declared.sources.PageFault.{PageFault}
use Rattle.page_store.specs.declared.sources.PageFault.TheVariants.{Gone, NoMemory}
use Rattle.phys_log.specs.declared.entries.LogRecord.{LogRecord}
use Rattle.edit_records.specs.Numbered.{raised, numbered, lsns_over, AreSmall}

-- the LSNs of pages count one by one
raised_same : (a b : ℕ → ℕ) (page lsn : ℕ) → ((n : ℕ) → a n ≡ b n) → (n : ℕ) → raised a page lsn n ≡ raised b page lsn n
raised_same a b page lsn same n = ap (λ (x : ℕ). if n == page then lsn else x) (same n)

pub numbered_same : (a b : ℕ → ℕ) (lsn : ℕ) (es : List (ℕ × Edit)) → ((n : ℕ) → a n ≡ b n) → numbered a lsn es ≡ numbered b lsn es
numbered_same a b lsn [] same = refl
numbered_same a b lsn (e ∷ es) same =
    ap (λ (x : ℕ). record { lsn = lsn; prev = x; page = e.0; edit = e.1 } ∷ numbered (raised a e.0 lsn) (lsn + 1) es) (same e.0)
    ∙ ap (λ (l : List LogRecord). record { lsn = lsn; prev = b e.0; page = e.0; edit = e.1 } ∷ l)
    (numbered_same (raised a e.0 lsn) (raised b e.0 lsn) (lsn + 1) es (raised_same a b e.0 lsn same))

-- one edit more has its record
pub numbering_on : (lsns after : ℕ → ℕ) (lsn page : ℕ) (edit : Edit) (es : List (ℕ × Edit)) (old new whole : List LogRecord)
    → ((n : ℕ) → after n ≡ raised lsns page lsn n)
    → new ≡ old ++ record { lsn = lsn; prev = lsns page; page = page; edit = edit } ∷ []
    → old ++ numbered lsns lsn ((page, edit) ∷ es) ≡ whole → new ++ numbered after (lsn + 1) es ≡ whole
numbering_on lsns after lsn page edit es old new whole here made is =
    let one : List LogRecord = record { lsn = lsn; prev = lsns page; page = page; edit = edit } ∷ [] in
    ap (λ (l : List LogRecord). l ++ numbered after (lsn + 1) es) made
    ∙ append_assoc old one (numbered after (lsn + 1) es)
    ∙ ap (λ (l : List LogRecord). old ++ (one ++ l)) (numbered_same after (raised lsns page lsn) (lsn + 1) es here)
    ∙ is

-- one small record more
small_behind : (old : List LogRecord) (r : LogRecord) → r.lsn < 2 ^ 62 → AreSmall old → AreSmall (old ++ r ∷ [])
small_behind [] r h all = (h, tt)
small_behind (x ∷ xs) r h all = (all.0, small_behind xs r h all.1)

pub small_more : (old new : List LogRecord) (r : LogRecord) → new ≡ old ++ r ∷ [] → r.lsn < 2 ^ 62 → AreSmall old → AreSmall new
small_more old new r made h all = subst AreSmall (sym made) (small_behind old r h all)

-- an excused call after one that lost nothing
rose_from : (a b c : ℕ) → a ≤ b → Rose b c → Rose a c
rose_from a b c n (inl h) = inl (omega arith)
rose_from a b c n (inr h) = inr h

pub excused_from : {T : Type 0} (r : Result T PageFault) (a b c : ℕ) → a ≤ b → IsExcused r b c → IsExcused r a c
excused_from (Ok x) a b c n h = let k : b ≤ c = h in omega arith
excused_from (Err Gone) a b c n h = let k : b ≤ c = h.0 in let m : a ≤ c = omega arith in (m, rose_from a b c n h.1)
excused_from (Err NoMemory) a b c n h = let k : b ≤ c = h in omega arith

-- what holds of the records that an answer has, holds of the answer
pub ok_of : (r : Result (List LogRecord) PageFault) (made : List LogRecord) (Q : List LogRecord → Type 0) → IfOk r (λ x. x ≡ made) → Q made → IfOk r Q
ok_of (Ok x) made Q is h = subst Q (sym is) h
ok_of (Err e) made Q is h = tt

-- a turn of the loop over the edits that are left
pub one_more : (p q : ℕ → Image) (met more : List (ℕ × ℕ)) (last lsn page : ℕ) (edit : Edit) (left es : List (ℕ × Edit)) (old new whole : List LogRecord)
    → p ≡ q → lsn ≡ last + 1 → left ≡ (page, edit) ∷ es
    → ((n : ℕ) → lsns_over p more n ≡ raised (lsns_over p met) page lsn n)
    → new ≡ old ++ record { lsn = lsn; prev = lsns_over p met page; page = page; edit = edit } ∷ []
    → old ++ numbered (lsns_over q met) (last + 1) left ≡ whole → new ++ numbered (lsns_over q more) (lsn + 1) es ≡ whole
one_more p q met more last lsn page edit left es old new whole same number left_is here made =
    let F : (ℕ → Image) → Type 0 = λ f.
    old ++ numbered (lsns_over f met) (last + 1) left ≡ whole → new ++ numbered (lsns_over f more) (lsn + 1) es ≡ whole in
    subst F same (λ is. numbering_on (lsns_over p met) (lsns_over p more) lsn page edit es old new whole here made
    (ap (λ (l : List (ℕ × Edit)). old ++ numbered (lsns_over p met) lsn l) (sym left_is)
    ∙ ap (λ (k : ℕ). old ++ numbered (lsns_over p met) k left) number
    ∙ is))
