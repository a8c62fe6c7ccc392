-- What a session is told under one number, of its lines along its work.
use Rattle.std.proofs.Common.{◌≡◌, ◌==◌, ℕ, List, [], ◌∷◌, ◌++◌, refl, sym, subst, ap, false, ◌∙◌, if◌then◌else◌}
use Rattle.std.specs.List.{AllByRecursion}
use Rattle.std.proofs.lemmas.Bool.{eq-eqb}
use Rattle.std.proofs.lemmas.List.{append-nil}
use Rattle.report_laws.specs.Told.{Along, numbered, Numbered}
use Rattle.report_laws.specs.Work.{WorkItem, number_of}
use Rattle.cdb_values.specs.declared.replies.Reply.{Reply}

-- the replies under one number
abbrev pub of_number : ℕ → List Numbered → List Reply
of_number number [] = []
of_number number (l ∷ ls) = if l.0 == number then l.1 ∷ of_number number ls else of_number number ls

pub of_its : (n : ℕ) (mine : List Reply) (others : List Numbered) → of_number n (numbered n mine ++ others) ≡ mine ++ of_number n others
of_its n [] others = refl
of_its n (r ∷ rs) others = rw (eq-eqb n n refl) (ap (λ (rest : List Reply). r ∷ rest) (of_its n rs others))

pub of_another : (n m : ℕ) (mine : List Reply) (others : List Numbered) → (m == n) ≡ false → of_number n (numbered m mine ++ others) ≡ of_number n others
of_another n m [] others is = refl
of_another n m (r ∷ rs) others is = rw is (of_another n m rs others is)

abbrev pub AllOther : ℕ → List WorkItem → Type 0
AllOther n items = AllByRecursion (λ item. (number_of item == n) ≡ false) items

pub none_of : (P : WorkItem → List Reply → Type 0) (n : ℕ) (items : List WorkItem) (lines : List Numbered) → AllOther n items → Along P items lines → of_number n lines ≡ []
none_of P n [] lines all is = ap (of_number n) is
none_of P n (item ∷ items) lines all (mine, others, splits, p, rest) =
    ap (of_number n) splits ∙ of_another n (number_of item) mine others all.0 ∙ none_of P n items others all.1 rest

-- what holds along a session's work holds of each transaction and the replies under its number
pub along_its : (P : WorkItem → List Reply → Type 0) (before after : List WorkItem) (item : WorkItem) (lines : List Numbered) → AllOther (number_of item) before → AllOther (number_of item) after →
    Along P (before ++ item ∷ after) lines → P item (of_number (number_of item) lines)
along_its P [] after item lines none all (mine, others, splits, p, rest) =
    subst (λ (rs : List Reply). P item rs)
    (sym (ap (of_number (number_of item)) splits ∙ of_its (number_of item) mine others ∙ ap (λ (rs : List Reply). mine ++ rs) (none_of P (number_of item) after others all rest) ∙ append-nil mine))
    p
along_its P (b ∷ before) after item lines none all (mine, others, splits, p, rest) =
    subst (λ (rs : List Reply). P item rs)
    (sym (ap (of_number (number_of item)) splits ∙ of_another (number_of item) (number_of b) mine others none.0))
    (along_its P before after item others none.1 all rest)
