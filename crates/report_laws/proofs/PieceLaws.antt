-- What is told at a line of the script, up to its last reply, and what is told under a number.
use Rattle.std.proofs.Common.{◌≡◌, ℕ, ◌==◌, List, [], ◌∷◌, ◌++◌, refl, sym, subst, ap, ◌∙◌, Bool, true, false, if◌then◌else◌, ◌&&◌}
use Rattle.std.proofs.lemmas.Bool.{eq-eqb, ne_eqb, and_right, and_from, or_from, or_left, or_right}
use Rattle.std.proofs.lemmas.List.{append-nil}
use Rattle.std.proofs.lemmas.Slice.Eq.{bytes_eq-Decides}
use Rattle.std.specs.List.{AllByRecursion}
use Rattle.std.specs.Str.{bytes_eq}
use Rattle.report_laws.specs.Cut.{cuts}
use Rattle.session_language.specs.Each.{StandsIn}
use Rattle.report_laws.specs.One.{IsUncutLine}
use Rattle.report_laws.specs.Play.{is_cut_of, was_cut}
use Rattle.session_language.specs.Replies.{are_up_to, is_outcome}
use Rattle.report_laws.specs.Told.{told, Numbered, numbered, lines_of}
use Rattle.report_text.specs.declared.reports.Line.{Line}
use Rattle.report_text.specs.declared.reports.Line.TheVariants as line
use Rattle.cdb_values.specs.declared.replies.Reply.{Reply}
use Rattle.cdb_values.specs.declared.replies.Reply.TheVariants as reply
use Rattle.session_language.specs.Answers.{IsPlain, ArePlain}
use Rattle.session_language.proofs.UpToLaws.{same_head, same_tail}
use Rattle.report_laws.proofs.ToldLaws.{told_append, told_own, told_other}
use Rattle.report_laws.proofs.AlongLaws.{of_number, of_its, of_another}

-- plain replies are no outcomes
plain_quiet : (r : Reply) → IsPlain r → is_outcome r ≡ false
plain_quiet (reply.Begin position) is = absurd is
plain_quiet (reply.Row row) is = refl
plain_quiet (reply.Done rows) is = refl
plain_quiet (reply.Changed rows) is = refl
plain_quiet (reply.Error cause) is = refl
plain_quiet (reply.Level level) is = refl
plain_quiet reply.RolledBack is = absurd is
plain_quiet (reply.Committed position) is = absurd is
plain_quiet (reply.ConflictGenid position table genid) is = absurd is
plain_quiet (reply.ConflictRange position table key) is = absurd is
plain_quiet (reply.Duplicate position table key) is = absurd is
plain_quiet (reply.Lost node down) is = absurd is
plain_quiet (reply.NoMajority up nodes) is = absurd is
plain_quiet reply.NoMemory is = absurd is

pub plain_all_quiet : (rs : List Reply) → ArePlain rs → AllByRecursion (λ r. is_outcome r ≡ false) rs
plain_all_quiet [] all = tt
plain_all_quiet (r ∷ rs) all = (plain_quiet r all.0, plain_all_quiet rs all.1)

-- the commit that stands among replies up to an outcome is that outcome
pub commit_is_last : (rs : List Reply) (o : Reply) (position : ℕ) → AllByRecursion (λ r. is_outcome r ≡ false) rs → StandsIn (rs ++ o ∷ []) (reply.Committed position) → o ≡ reply.Committed position
commit_is_last [] o position all ([], back, is) = same_head o (reply.Committed position) [] back is
commit_is_last [] o position all (x ∷ front, back, is) = absurd (none_left front back (same_tail o x [] (front ++ reply.Committed position ∷ back) is))
  where
    none_left : (front back : List Reply) → [] ≡ front ++ reply.Committed position ∷ back → ⊥
    none_left [] back is = cc
    none_left (y ∷ front) back is = cc
commit_is_last (r ∷ rs) o position all ([], back, is) =
    absurd (let at : r ≡ reply.Committed position = same_head r (reply.Committed position) (rs ++ o ∷ []) back is in
    let quiet : is_outcome r ≡ false = all.0 in
    let loud : is_outcome r ≡ true = ap is_outcome at in cc)
commit_is_last (r ∷ rs) o position all (x ∷ front, back, is) = commit_is_last rs o position all.1 (front, back, same_tail r x (rs ++ o ∷ []) (front ++ reply.Committed position ∷ back) is)

-- no commit stands among replies of which none is an outcome
pub no_commit : (rs : List Reply) (position : ℕ) → AllByRecursion (λ r. is_outcome r ≡ false) rs → StandsIn rs (reply.Committed position) → ⊥
no_commit [] position all ([], back, is) = cc
no_commit [] position all (x ∷ front, back, is) = cc
no_commit (r ∷ rs) position all ([], back, is) =
    let at : r ≡ reply.Committed position = same_head r (reply.Committed position) rs back is in
    let quiet : is_outcome r ≡ false = all.0 in
    let loud : is_outcome r ≡ true = ap is_outcome at in cc
no_commit (r ∷ rs) position all (x ∷ front, back, is) = no_commit rs position all.1 (front, back, same_tail r x rs (front ++ reply.Committed position ∷ back) is)

-- the replies of a session under a number
abbrev pub under : List ℕ → ℕ → List Line → List Reply
under name number lines = of_number number (told name lines)

of_number_append : (n : ℕ) (xs ys : List Numbered) → of_number n (xs ++ ys) ≡ of_number n xs ++ of_number n ys
of_number_append n [] ys = refl
of_number_append n (x ∷ xs) ys = go (x.0 == n) (of_number_append n xs ys)
  where
    go : (b : Bool) → of_number n (xs ++ ys) ≡ of_number n xs ++ of_number n ys →
        (if b then x.1 ∷ of_number n (xs ++ ys) else of_number n (xs ++ ys)) ≡ (if b then x.1 ∷ of_number n xs else of_number n xs) ++ of_number n ys
    go true is = ap (λ rest. x.1 ∷ rest) is
    go false is = is

pub under_append : (name : List ℕ) (n : ℕ) (xs ys : List Line) → under name n (xs ++ ys) ≡ under name n xs ++ under name n ys
under_append name n xs ys = ap (of_number n) (told_append name xs ys) ∙ of_number_append n (told name xs) (told name ys)

pub under_own : (name session : List ℕ) (n : ℕ) (rs : List Reply) → bytes_eq session name ≡ true → under name n (lines_of session n rs) ≡ rs
under_own name session n rs same =
    ap (of_number n) (told_own name session n rs same ∙ sym (append-nil (numbered n rs))) ∙ of_its n rs [] ∙ append-nil rs

pub under_number : (name session : List ℕ) (n m : ℕ) (rs : List Reply) → bytes_eq session name ≡ true → (m ≡ n → ⊥) → under name n (lines_of session m rs) ≡ []
under_number name session n m rs same other =
    ap (of_number n) (told_own name session m rs same ∙ sym (append-nil (numbered m rs))) ∙ of_another n m rs [] (ne_eqb m n other)

pub under_other : (name session : List ℕ) (n m : ℕ) (rs : List Reply) → bytes_eq session name ≡ false → under name n (lines_of session m rs) ≡ []
under_other name session n m rs other = ap (of_number n) (told_other name session m rs other)

-- where no line cuts a transaction short, no reply under a number does
pub are_uncut : (name : List ℕ) (n : ℕ) (lines : List Line) → AllByRecursion IsUncutLine lines → AllByRecursion (λ r. cuts r ≡ false) (under name n lines)
are_uncut name n [] all = tt
are_uncut name n (line.Session session txn answer ∷ ls) all = go (bytes_eq session name) (are_uncut name n ls all.1)
  where
    pick : (b : Bool) → AllByRecursion (λ r. cuts r ≡ false) (under name n ls) → AllByRecursion (λ r. cuts r ≡ false) (if b then answer ∷ under name n ls else under name n ls)
    pick true later = (all.0, later)
    pick false later = later

    go : (b : Bool) → AllByRecursion (λ r. cuts r ≡ false) (under name n ls) → AllByRecursion (λ r. cuts r ≡ false) (of_number n ((if b then (txn, answer) ∷ [] else []) ++ told name ls))
    go true later = pick (txn == n) later
    go false later = later
are_uncut name n (line.Down count node fault ∷ ls) all = absurd all.0
are_uncut name n (line.Up node ∷ ls) all = are_uncut name n ls all.1
are_uncut name n (line.Barrier ∷ ls) all = are_uncut name n ls all.1
are_uncut name n (line.Fed position ∷ ls) all = are_uncut name n ls all.1

-- and no transaction was cut short by then
uncut_line : (l : Line) (session : List ℕ) (number : ℕ) → IsUncutLine l → is_cut_of session number l ≡ false
uncut_line (line.Session name txn answer) session number uncut = and_right (bytes_eq name session) ((txn == number) && cuts answer) (and_right (txn == number) (cuts answer) uncut)
uncut_line (line.Down count node fault) session number uncut = refl
uncut_line (line.Up node) session number uncut = refl
uncut_line line.Barrier session number uncut = refl
uncut_line (line.Fed position) session number uncut = refl

pub never_cut : (lines : List Line) (session : List ℕ) (number : ℕ) → AllByRecursion IsUncutLine lines → was_cut lines session number ≡ false
never_cut [] session number all = refl
never_cut (l ∷ ls) session number all = or_from (is_cut_of session number l) (was_cut ls session number) (uncut_line l session number all.0) (never_cut ls session number all.1)

-- and one that was told what cuts it short was
pub cut_at : (lines : List Line) (session : List ℕ) (number : ℕ) (cause : Reply) → cuts cause ≡ true → StandsIn lines (line.Session session number cause) → was_cut lines session number ≡ true
cut_at lines session number cause cut (front, back, is) = subst (λ (ls : List Line). was_cut ls session number ≡ true) (sym is) (among front)
  where
    among : (xs : List Line) → was_cut (xs ++ line.Session session number cause ∷ back) session number ≡ true
    among [] = or_left (is_cut_of session number (line.Session session number cause)) (was_cut back session number)
        (and_from (bytes_eq session session) ((number == number) && cuts cause) ((bytes_eq-Decides session session).1 refl) (and_from (number == number) (cuts cause) (eq-eqb number number refl) cut))
    among (x ∷ xs) = or_right (is_cut_of session number x) (was_cut (xs ++ line.Session session number cause ∷ back) session number) (among xs)

-- what holds of each member of a list holds of one that stands in it
pub all_at : {A : Type 0} (P : A → Type 0) (xs : List A) (x : A) → AllByRecursion P xs → StandsIn xs x → P x
all_at P [] x all ([], back, is) = absurd cc
all_at P [] x all (y ∷ front, back, is) = absurd cc
all_at P (z ∷ xs) x all ([], back, is) = subst P (same_head z x xs back is) all.0
all_at P (z ∷ xs) x all (y ∷ front, back, is) = all_at P xs x all.1 (front, back, same_tail z y xs (front ++ x ∷ back) is)

-- of one reply there is one that is not none
pub one_of_one : (f : Reply → Bool) (rs more : List Reply) (r : Reply) → are_up_to f rs ≡ true → rs ++ more ≡ r ∷ [] → rs ≡ r ∷ []
one_of_one f [] more r ends is = absurd cc
one_of_one f (x ∷ []) more r ends is = ap (λ y. y ∷ []) (same_head x r more [] is)
one_of_one f (x ∷ y ∷ xs) more r ends is = absurd (let rest : y ∷ (xs ++ more) ≡ [] = same_tail x r (y ∷ (xs ++ more)) [] is in cc)
