-- Lists of lines.
use Rattle.std.proofs.Common.{◌≡◌, ℕ, List, [], ◌∷◌, ◌++◌, refl, ap, sym, subst, ◌∙◌}
use Rattle.report_laws.specs.Told.{told, told_by, Numbered, numbered, Along}
use Rattle.report_laws.specs.Work.{WorkItem, number_of}
use Rattle.report_text.specs.declared.reports.Line.{Line}
use Rattle.cdb_values.specs.declared.replies.Reply.{Reply}
use Rattle.core_lists.specs.Lists.{In}
use Rattle.core_lists.specs.Lists.In.{there}
use Rattle.session_language.specs.Each.{EachAfter}
use Rattle.cluster_events.specs.Parts.{lines}

pub append_assoc : {A : Type 0} (a b c : List A) → (a ++ b) ++ c ≡ a ++ (b ++ c)
append_assoc [] b c = refl
append_assoc (x ∷ a) b c = ap (λ t. x ∷ t) (append_assoc a b c)

pub append_nil : {A : Type 0} (a : List A) → a ++ [] ≡ a
append_nil [] = refl
append_nil (x ∷ a) = ap (λ t. x ∷ t) (append_nil a)

pub told_append : (s : List ℕ) (a b : List Line) → told s (a ++ b) ≡ told s a ++ told s b
told_append s [] b = refl
told_append s (x ∷ a) b = ap (λ t. told_by s x ++ t) (told_append s a b) ∙ sym (append_assoc (told_by s x) (told s a) (told s b))

pub each_after_more : {A : Type 0} (P : List A → A → Type 0) (before xs : List A) (x : A) → EachAfter P before xs → P (before ++ xs) x → EachAfter P before (xs ++ x ∷ [])
each_after_more P before [] x a p = (subst (λ t. P t x) (append_nil before) p, tt)
each_after_more P before (y ∷ xs) x a p = (a.0, each_after_more P (before ++ y ∷ []) xs x a.1 (subst (λ t. P t x) (sym (append_assoc before (y ∷ []) xs)) p))

-- one more item is over
pub along_more : (P : WorkItem → List Reply → Type 0) (items : List WorkItem) (lines : List Numbered) (item : WorkItem) (mine : List Reply) → Along P items lines → P item mine → Along P (items ++ item ∷ []) (lines ++ numbered (number_of item) mine)
along_more P [] lines item mine a p = (mine, [], ap (λ t. t ++ numbered (number_of item) mine) a ∙ sym (append_nil (numbered (number_of item) mine)), p, refl)
along_more P (i ∷ items) lines item mine a p =
    (a.0, a.1 ++ numbered (number_of item) mine, ap (λ t. t ++ numbered (number_of item) mine) a.2 ∙ append_assoc (numbered (number_of i) a.0) a.1 (numbered (number_of item) mine), a.3, along_more P items a.1 item mine a.4 p)

pub along_weaker : (P Q : WorkItem → List Reply → Type 0) (items : List WorkItem) (lines : List Numbered) → ((i : WorkItem) (m : List Reply) → P i m → Q i m) → Along P items lines → Along Q items lines
along_weaker P Q [] lines f a = a
along_weaker P Q (i ∷ items) lines f a = (a.0, a.1, a.2, f i a.0 a.3, along_weaker P Q items a.1 f a.4)

pub in_append : {A : Type 0} {x : A} (xs ys : List A) → In x ys → In x (xs ++ ys)
in_append [] ys m = m
in_append (x ∷ xs) ys m = there (in_append xs ys m)
