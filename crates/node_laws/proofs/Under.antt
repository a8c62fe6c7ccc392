-- What a session is told under a number: by its transaction of that number, or outside transactions.
use Rattle.std.proofs.Common.{◌≡◌, ℕ, ◌+◌, ◌<◌, ◌≤◌, ◌==◌, ◌&&◌, ◌||◌, List, [], ◌∷◌, ◌++◌, map, refl, sym, subst, ap, arith, ◌∙◌, Option, Some, None, Bool, true, false, if◌then◌else◌, ◌⊎◌, inl, inr}
use Rattle.std.proofs.lemmas.Bool.{and_parts, eqb-true, false≢true, ne_eqb}
use Rattle.std.proofs.lemmas.List.{append-nil}
use Rattle.std.proofs.lemmas.Slice.Eq.{bytes_eq-Decides}
use Rattle.std.specs.List.{AllByRecursion}
use Rattle.std.specs.Str.{bytes_eq}
use Rattle.cdb_values.specs.declared.replies.Reply.{Reply}
use Rattle.cdb_values.specs.declared.rows.Level.{Level}
use Rattle.report_laws.specs.Cut.{cuts}
use Rattle.report_laws.specs.Play.{is_cut_of, was_cut}
use Rattle.report_laws.specs.Told.{told, numbered, Along, Numbered}
use Rattle.report_laws.specs.Work.{numbered_among, open_item, said, start, work, Does, WorkItem, Lone, Place, Transaction, next_place}
use Rattle.report_laws.proofs.AlongLaws.{AllOther, none_of, of_another, of_its, of_number}
use Rattle.report_laws.proofs.PieceLaws.{under, under_append, under_own}
use Rattle.report_laws.proofs.RestLemmas.{items_are, lones, lones_append, over_by, rest_of, rest_rises, told_lones, Rising}
use Rattle.report_laws.proofs.SoFarLemmas.{same_name}
use Rattle.report_text.specs.declared.reports.Line.{Line}
use Rattle.report_text.specs.declared.reports.Line.TheVariants as line
use Rattle.script_form.specs.declared.scripts.BodyLine.{BodyLine}
use Rattle.session_language.proofs.EachLaws.{all_append}
use Rattle.session_language.specs.Each.{StandsIn}
use Rattle.session_language.specs.Language.{Language, Kind, BeginText, CommitText, RollbackText, LevelText, OtherText}

-- transactions with numbers from a bound on have no number below it
others_above : (bound n : ℕ) (items : List WorkItem) → 1 ≤ n → n < bound → Rising bound items → AllOther n items
others_above bound n [] first less rising = tt
others_above bound n (Does t ∷ items) first less rising =
    let least : bound ≤ t.number = rising.0 in
    (ne_eqb t.number n (λ (same : t.number ≡ n). omega (arith, least, less, same)), others_above (t.number + 1) n items first (omega (arith, least, less)) rising.1)
others_above bound n (Lone answer ∷ items) first less rising = (ne_eqb 0 n (λ (same : 0 ≡ n). omega (arith, first, same)), others_above bound n items first less rising)

-- one transaction of a number, and what it is told

pub record IsIts (P : WorkItem → List Reply → Type 0) (items : List WorkItem) (n : ℕ) (mine : List Reply) : Type 0 where
  pub transaction : Transaction
  pub number : transaction.number ≡ n
  pub among : numbered_among n items ≡ Some transaction
  pub told : P (Does transaction) mine

its_of : (P : WorkItem → List Reply → Type 0) (items : List WorkItem) (lines : List Numbered) (bound n : ℕ) → 1 ≤ n → Rising bound items → Along P items lines → (of_number n lines ≡ []) ⊎ IsIts P items n (of_number n lines)
its_of P [] lines bound n first rising is = inl (ap (of_number n) is)
its_of P (Lone answer ∷ items) lines bound n first rising (mine, others, splits, p, rest) = go (its_of P items others bound n first rising rest)
  where
    same : of_number n lines ≡ of_number n others
    same = ap (of_number n) splits ∙ of_another n 0 mine others (ne_eqb 0 n (λ (e : 0 ≡ n). omega (arith, first, e)))

    go : (of_number n others ≡ []) ⊎ IsIts P items n (of_number n others) → (of_number n lines ≡ []) ⊎ IsIts P (Lone answer ∷ items) n (of_number n lines)
    go (inl none) = inl (same ∙ none)
    go (inr is) = inr (record { transaction = is.transaction; number = is.number; among = is.among; told = subst (λ (rs : List Reply). P (Does is.transaction) rs) (sym same) is.told })
its_of P (Does t ∷ items) lines bound n first rising (mine, others, splits, p, rest) =
    go (t.number == n) refl (let h : bound ≤ t.number = rising.0 in its_of P items others (t.number + 1) n first rising.1 rest)
  where
    go : (b : Bool) → (t.number == n) ≡ b → (of_number n others ≡ []) ⊎ IsIts P items n (of_number n others) → (of_number n lines ≡ []) ⊎ IsIts P (Does t ∷ items) n (of_number n lines)
    go true at later = inr (record { transaction = t; number = same; among = ap (λ (b : Bool). if b then Some t else numbered_among n items) at; told = subst (λ (rs : List Reply). P (Does t) rs) (sym whole) p })
      where
        same : t.number ≡ n
        same = eqb-true t.number n at

        whole : of_number n lines ≡ mine
        whole = ap (of_number n) splits ∙ ap (λ (k : ℕ). of_number n (numbered k mine ++ others)) same ∙ of_its n mine others
            ∙ ap (λ (ls : List Reply). mine ++ ls) (none_of P n items others (others_above (t.number + 1) n items first (omega (arith, same)) rising.1) rest) ∙ append-nil mine
    go false at later = other later
      where
        same : of_number n lines ≡ of_number n others
        same = ap (of_number n) splits ∙ of_another n t.number mine others at

        other : (of_number n others ≡ []) ⊎ IsIts P items n (of_number n others) → (of_number n lines ≡ []) ⊎ IsIts P (Does t ∷ items) n (of_number n lines)
        other (inl none) = inl (same ∙ none)
        other (inr is) = inr (record { transaction = is.transaction; number = is.number; among = ap (λ (b : Bool). if b then Some t else numbered_among n items) at ∙ is.among; told = subst (λ (rs : List Reply). P (Does is.transaction) rs) (sym same) is.told })

module _ (language : Language) (name : List ℕ) (body : List BodyLine) where
  pub work_rises : Rising 1 (work language name body)
  work_rises = subst (λ (all : List WorkItem). Rising 1 all) (sym (items_are language start (said name body))) (rest_rises language start (said name body))

  -- under a number from 1 on
  pub told_under : (P : WorkItem → List Reply → Type 0) (lines : List Line) (n : ℕ) → 1 ≤ n → Along P (work language name body) (told name lines) → (under name n lines ≡ []) ⊎ IsIts P (work language name body) n (under name n lines)
  told_under P lines n first is = its_of P (work language name body) (told name lines) 1 n first work_rises is

  -- and under 0
  pub told_outside : (P : WorkItem → List Reply → Type 0) (lines : List Line) → ((answer : Reply) (mine : List Reply) → P (Lone answer) mine → mine ≡ answer ∷ []) → Along P (work language name body) (told name lines) → under name 0 lines ≡ lones (work language name body)
  told_outside P lines one is = told_lones P one (work language name body) (told name lines) 1 (omega arith) work_rises is

-- no reply outside transactions cuts one short

abbrev AreUncut : List Reply → Type 0
AreUncut rs = AllByRecursion (λ (r : Reply). cuts r ≡ false) rs

over_uncut : (number : ℕ) (level : Level) (text : List ℕ) (k : Kind) (pending : Option (List (List ℕ))) → AreUncut (lones (over_by number level text k pending))
over_uncut number level text BeginText None = tt
over_uncut number level text CommitText None = (refl, tt)
over_uncut number level text RollbackText None = (refl, tt)
over_uncut number level text (LevelText set) None = (refl, tt)
over_uncut number level text OtherText None = tt
over_uncut number level text BeginText (Some texts) = tt
over_uncut number level text CommitText (Some texts) = tt
over_uncut number level text RollbackText (Some texts) = tt
over_uncut number level text (LevelText set) (Some texts) = tt
over_uncut number level text OtherText (Some texts) = tt

rest_uncut : (language : Language) (p : Place) (texts : List (List ℕ)) → AreUncut (lones (rest_of language p texts))
rest_uncut language p [] = go p.pending
  where
    go : (pending : Option (List (List ℕ))) → AreUncut (lones (open_item p pending))
    go None = tt
    go (Some texts) = tt
rest_uncut language p (text ∷ texts) =
    subst AreUncut (sym (lones_append (over_by p.number p.level text (language.kind text) p.pending) (rest_of language (next_place language p text) texts)))
    (all_append (λ (r : Reply). cuts r ≡ false) (lones (over_by p.number p.level text (language.kind text) p.pending)) _ (over_uncut p.number p.level text (language.kind text) p.pending) (rest_uncut language (next_place language p text) texts))

pub lones_uncut : (language : Language) (name : List ℕ) (body : List BodyLine) → AllByRecursion (λ (r : Reply). cuts r ≡ false) (lones (work language name body))
lones_uncut language name body = subst (λ (items : List WorkItem). AreUncut (lones items)) (sym (items_are language start (said name body))) (rest_uncut language start (said name body))

-- lines

-- a line of a session under a number, or that a node went down
abbrev pub IsOf : List ℕ → ℕ → Line → Type 0
IsOf session n (line.Session name txn answer) = (name ≡ session) × (txn ≡ n)
IsOf session n (line.Down count node fault) = Unit {0}
IsOf session n (line.Up node) = ⊥
IsOf session n line.Barrier = ⊥
IsOf session n (line.Fed position) = ⊥

pub under_at : (name : List ℕ) (n : ℕ) (r : Reply) (front rest : List Line) → under name n (front ++ line.Session name n r ∷ rest) ≡ under name n front ++ r ∷ under name n rest
under_at name n r front rest =
    under_append name n front (line.Session name n r ∷ rest)
    ∙ ap (λ (rs : List Reply). under name n front ++ rs) (under_append name n (line.Session name n r ∷ []) rest ∙ ap (λ (rs : List Reply). rs ++ under name n rest) (under_own name name n (r ∷ []) (same_name name)))

-- what stands under a number among the lines was told so
pub under_stands : (name : List ℕ) (n : ℕ) (r : Reply) (lines : List Line) → StandsIn lines (line.Session name n r) → StandsIn (under name n lines) r
under_stands name n r lines (front, back, is) = (under name n front, under name n back, ap (under name n) is ∙ under_at name n r front back)

-- replies of a piece
pub replies_are : (name : List ℕ) (n : ℕ) (lines : List Line) → AllByRecursion (IsOf name n) lines → map (λ t. t.1) (told name lines) ≡ under name n lines
replies_are name n [] all = refl
replies_are name n (line.Session session txn r ∷ ls) all =
    ap (λ (s : List ℕ). map (λ t. t.1) (told name (line.Session s txn r ∷ ls))) all.0.0
    ∙ ap (λ (k : ℕ). map (λ t. t.1) (told name (line.Session name k r ∷ ls))) all.0.1
    ∙ ap (λ (b : Bool). map (λ t. t.1) ((if b then (n, r) ∷ [] else []) ++ told name ls)) (same_name name)
    ∙ ap (λ (rs : List Reply). r ∷ rs) (replies_are name n ls all.1)
    ∙ sym (under_at name n r [] ls)
    ∙ ap (λ (k : ℕ). under name n (line.Session name k r ∷ ls)) (sym all.0.1)
    ∙ ap (λ (s : List ℕ). under name n (line.Session s txn r ∷ ls)) (sym all.0.0)
replies_are name n (line.Down count node fault ∷ ls) all = replies_are name n ls all.1
replies_are name n (line.Up node ∷ ls) all = absurd all.0
replies_are name n (line.Barrier ∷ ls) all = absurd all.0
replies_are name n (line.Fed position ∷ ls) all = absurd all.0

-- a reply of a piece stands among its lines
pub line_of : (name : List ℕ) (n : ℕ) (r : Reply) (lines : List Line) → AllByRecursion (IsOf name n) lines → StandsIn (map (λ t. t.1) (told name lines)) r → StandsIn lines (line.Session name n r)
line_of name n r lines all stands = go lines all (subst (λ (rs : List Reply). StandsIn rs r) (replies_are name n lines all) stands)
  where
    first : (x : Line) (ls : List Line) → IsOf name n x → StandsIn (under name n (x ∷ ls)) r → (StandsIn (under name n ls) r → StandsIn ls (line.Session name n r)) → StandsIn (x ∷ ls) (line.Session name n r)
    first (line.Session session txn q) ls (same, number) stands later =
        at (subst (λ (rs : List Reply). StandsIn rs r) (ap (λ (s : List ℕ). under name n (line.Session s txn q ∷ ls)) same ∙ ap (λ (k : ℕ). under name n (line.Session name k q ∷ ls)) number ∙ under_at name n q [] ls) stands)
      where
        at : StandsIn (q ∷ under name n ls) r → StandsIn (line.Session session txn q ∷ ls) (line.Session name n r)
        at ([], back, is) = ([], ls, ap (λ (s : List ℕ). line.Session s txn q ∷ ls) same ∙ ap (λ (k : ℕ). line.Session name k q ∷ ls) number ∙ ap (λ (p : Reply). line.Session name n p ∷ ls) (let it : q ≡ r = cc in it))
        at (y ∷ front, back, is) = let more = later (front, back, (let rest : under name n ls ≡ front ++ r ∷ back = cc in rest)) in (line.Session session txn q ∷ more.0, more.1, ap (λ (xs : List Line). line.Session session txn q ∷ xs) more.2)
    first (line.Down count node fault) ls its stands later = let more = later stands in (line.Down count node fault ∷ more.0, more.1, ap (λ (xs : List Line). line.Down count node fault ∷ xs) more.2)
    first (line.Up node) ls its stands later = absurd its
    first line.Barrier ls its stands later = absurd its
    first (line.Fed position) ls its stands later = absurd its

    go : (ls : List Line) → AllByRecursion (IsOf name n) ls → StandsIn (under name n ls) r → StandsIn ls (line.Session name n r)
    go [] all ([], back, is) = absurd (let no_such : [] ≡ r ∷ back = is in cc)
    go [] all (y ∷ front, back, is) = absurd (let no_such : [] ≡ y ∷ (front ++ r ∷ back) = is in cc)
    go (x ∷ ls) all stands = first x ls all.0 stands (λ later. go ls all.1 later)

-- a transaction that was cut short was told what cut it
pub cut_stands : (name : List ℕ) (n : ℕ) (lines : List Line) → was_cut lines name n ≡ true → (c : Reply) × (cuts c ≡ true) × StandsIn lines (line.Session name n c)
cut_stands name n [] is = absurd (false≢true is)
cut_stands name n (l ∷ ls) is = go l (is_cut_of name n l) refl is (λ later. cut_stands name n ls later)
  where
    go : (x : Line) (b : Bool) → is_cut_of name n x ≡ b → (b || was_cut ls name n) ≡ true → (was_cut ls name n ≡ true → (c : Reply) × (cuts c ≡ true) × StandsIn ls (line.Session name n c)) → (c : Reply) × (cuts c ≡ true) × StandsIn (x ∷ ls) (line.Session name n c)
    go x false at is later = let more = later is in (more.0, more.1, (x ∷ more.2.0, more.2.1, ap (λ (xs : List Line). x ∷ xs) more.2.2))
    go (line.Session session txn c) true at is later =
        let both = and_parts (bytes_eq session name) ((txn == n) && cuts c) at in
        let more = and_parts (txn == n) (cuts c) both.1 in
        (c, more.1, ([], ls, ap (λ (s : List ℕ). line.Session s txn c ∷ ls) ((bytes_eq-Decides session name).0 both.0) ∙ ap (λ (k : ℕ). line.Session name k c ∷ ls) (eqb-true txn n more.0)))
    go (line.Down count node fault) true at is later = absurd (false≢true at)
    go (line.Up node) true at is later = absurd (false≢true at)
    go line.Barrier true at is later = absurd (false≢true at)
    go (line.Fed position) true at is later = absurd (false≢true at)
