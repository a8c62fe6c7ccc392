-- How what sessions were told grows by the lines of one more piece.
use Rattle.std.proofs.Common.{◌≡◌, ℕ, List, [], ◌∷◌, ◌++◌, refl, sym, subst, ap, ◌∙◌, true, false, append_assoc}
use Rattle.std.proofs.lemmas.List.{append-nil, map-append}
use Rattle.std.specs.Str.{bytes_eq}
use Rattle.report_laws.specs.Told.{told, told_by, Along, Numbered, numbered, lines_of}
use Rattle.report_laws.specs.Work.{WorkItem, number_of}
use Rattle.report_text.specs.declared.reports.Line.{Line}
use Rattle.report_text.specs.declared.reports.Line.TheVariants as line
use Rattle.cdb_values.specs.declared.replies.Reply.{Reply}

pub told_append : (name : List ℕ) (xs ys : List Line) → told name (xs ++ ys) ≡ told name xs ++ told name ys
told_append name [] ys = refl
told_append name (x ∷ xs) ys = ap (λ (rest : List Numbered). told_by name x ++ rest) (told_append name xs ys) ∙ sym (append_assoc (told_by name x) (told name xs) (told name ys))

-- a session is told its own lines
pub told_own : (name session : List ℕ) (number : ℕ) (replies : List Reply) → bytes_eq session name ≡ true → told name (lines_of session number replies) ≡ numbered number replies
told_own name session number [] is = refl
told_own name session number (r ∷ rs) is = rw is (ap (λ rest. (number, r) ∷ rest) (told_own name session number rs is))

-- and none of another's
pub told_other : (name session : List ℕ) (number : ℕ) (replies : List Reply) → bytes_eq session name ≡ false → told name (lines_of session number replies) ≡ []
told_other name session number [] is = refl
told_other name session number (r ∷ rs) is = rw is (told_other name session number rs is)

-- the lines of two pieces, one after the other
pub numbered_append : (number : ℕ) (xs ys : List Reply) → numbered number (xs ++ ys) ≡ numbered number xs ++ numbered number ys
numbered_append number xs ys = map-append (λ r. (number, r)) xs ys

pub lines_append : (name : List ℕ) (number : ℕ) (xs ys : List Reply) → lines_of name number (xs ++ ys) ≡ lines_of name number xs ++ lines_of name number ys
lines_append name number xs ys = map-append (line.Session name number) xs ys

-- lines along a session's work, and then along more of it
pub along_append : (P : WorkItem → List Reply → Type 0) (xs ys : List WorkItem) (ls ms : List Numbered) → Along P xs ls → Along P ys ms → Along P (xs ++ ys) (ls ++ ms)
along_append P [] ys ls ms is more = subst (λ (lines : List Numbered). Along P ys lines) (sym (ap (λ front. front ++ ms) is)) more
along_append P (x ∷ xs) ys ls ms (own, others, splits, p, rest) more =
    (own, others ++ ms, ap (λ front. front ++ ms) splits ∙ append_assoc (numbered (number_of x) own) others ms, p, along_append P xs ys others ms rest more)

-- one item with its lines
pub along_one : (P : WorkItem → List Reply → Type 0) (item : WorkItem) (mine : List Reply) → P item mine → Along P (item ∷ []) (numbered (number_of item) mine)
along_one P item mine is = (mine, [], sym (append-nil (numbered (number_of item) mine)), is, refl)

-- what each item's lines are may be said in other words
pub along_map : (P Q : WorkItem → List Reply → Type 0) → ((item : WorkItem) (mine : List Reply) → P item mine → Q item mine) →
    (items : List WorkItem) (lines : List Numbered) → Along P items lines → Along Q items lines
along_map P Q f [] lines is = is
along_map P Q f (item ∷ items) lines (mine, others, splits, p, rest) = (mine, others, splits, f item mine p, along_map P Q f items others rest)
