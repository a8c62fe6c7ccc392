-- How the work of a session grows by a line, and where a transaction stands in it.
use Rattle.std.proofs.Common.{◌≡◌, ℕ, ◌+◌, ◌<◌, ◌≤◌, ◌==◌, List, [], ◌∷◌, ◌++◌, refl, sym, subst, ap, arith, Option, Some, None, ◌∙◌, Bool, true, false, append_assoc, if◌then◌else◌}
use Rattle.std.proofs.lemmas.Bool.{eq-eqb, ne_eqb}
use Rattle.std.proofs.lemmas.List.{append-nil, append_cancel_left}
use Rattle.std.specs.List.{AllByRecursion}
use Rattle.std.specs.Str.{bytes_eq}
use Rattle.session_language.specs.Language.{Language, Kind, BeginText, CommitText, RollbackText, LevelText, OtherText}
use Rattle.script_form.specs.declared.scripts.BodyLine.{BodyLine}
use Rattle.script_form.specs.declared.scripts.Act.{Act}
use Rattle.script_form.specs.declared.scripts.Act.TheVariants as act
use Rattle.report_laws.specs.Work.{Transaction, WorkItem, Does, Lone, Place, start, next_by, next_place, place_from, place_after, said, said_by, open_item, items_at, numbered_among, transaction_of}
use Rattle.cdb_values.specs.declared.replies.Reply.{Reply}
use Rattle.session_language.proofs.EachLaws.{all_append, all_map}

pub said_append : (name : List ℕ) (xs ys : List BodyLine) → said name (xs ++ ys) ≡ said name xs ++ said name ys
said_append name [] ys = refl
said_append name (x ∷ xs) ys = go x.act (said_append name xs ys)
  where
    go : (a : Act) → said name (xs ++ ys) ≡ said name xs ++ said name ys → said_by name a (said name (xs ++ ys)) ≡ said_by name a (said name xs) ++ said name ys
    go (act.Say session text) is = pick (bytes_eq session name) is
      where
        pick : (b : Bool) → said name (xs ++ ys) ≡ said name xs ++ said name ys →
            (if b then text ∷ said name (xs ++ ys) else said name (xs ++ ys)) ≡ (if b then text ∷ said name xs else said name xs) ++ said name ys
        pick true same = ap (λ rest. text ∷ rest) same
        pick false same = same
    go (act.Stop node) is = is
    go (act.Start node) is = is
    go (act.Arm session moment) is = is
    go act.Barrier is = is
    go act.Feed is = is

-- a line of a session is said by it
pub said_own : (name session text : List ℕ) (l : BodyLine) → l.act ≡ act.Say session text → bytes_eq session name ≡ true → said name (l ∷ []) ≡ text ∷ []
said_own name session text l is same = rw is (rw same refl)

-- and by no other
pub said_other : (name session text : List ℕ) (l : BodyLine) → l.act ≡ act.Say session text → bytes_eq session name ≡ false → said name (l ∷ []) ≡ []
said_other name session text l is other = rw is (rw other refl)

pub place_append : (language : Language) (p : Place) (xs ys : List (List ℕ)) → place_from language p (xs ++ ys) ≡ place_from language (place_from language p xs) ys
place_append language p [] ys = refl
place_append language p (x ∷ xs) ys = place_append language (next_place language p x) xs ys

-- where a session is after lines and then others
pub after_more : (language : Language) (name : List ℕ) (done more : List BodyLine) → place_after language name (done ++ more) ≡ place_from language (place_after language name done) (said name more)
after_more language name done more = ap (λ (texts : List (List ℕ)). place_from language start texts) (said_append name done more) ∙ place_append language start (said name done) (said name more)

-- after a line of its own a session is one place further
pub after_own : (language : Language) (name session text : List ℕ) (l : BodyLine) (done : List BodyLine) → l.act ≡ act.Say session text → bytes_eq session name ≡ true →
    place_after language name (done ++ l ∷ []) ≡ next_place language (place_after language name done) text
after_own language name session text l done is same =
    after_more language name done (l ∷ []) ∙ ap (λ (texts : List (List ℕ)). place_from language (place_after language name done) texts) (said_own name session text l is same)

-- after one of another it is where it was
pub after_other : (language : Language) (name session text : List ℕ) (l : BodyLine) (done : List BodyLine) → l.act ≡ act.Say session text → bytes_eq session name ≡ false →
    place_after language name (done ++ l ∷ []) ≡ place_after language name done
after_other language name session text l done is other =
    after_more language name done (l ∷ []) ∙ ap (λ (texts : List (List ℕ)). place_from language (place_after language name done) texts) (said_other name session text l is other)

-- what is over stays over
over_next : (p : Place) (text : List ℕ) (k : Kind) (pending : Option (List (List ℕ))) → (more : List WorkItem) × ((next_by p text k pending).over ≡ p.over ++ more)
over_next p text BeginText None = ([], sym (append-nil p.over))
over_next p text CommitText None = (_, refl)
over_next p text RollbackText None = (_, refl)
over_next p text (LevelText level) None = (_, refl)
over_next p text OtherText None = (_, refl)
over_next p text BeginText (Some texts) = ([], sym (append-nil p.over))
over_next p text CommitText (Some texts) = (_, refl)
over_next p text RollbackText (Some texts) = (_, refl)
over_next p text (LevelText level) (Some texts) = ([], sym (append-nil p.over))
over_next p text OtherText (Some texts) = ([], sym (append-nil p.over))

pub over_grows : (language : Language) (p : Place) (texts : List (List ℕ)) → (more : List WorkItem) × ((place_from language p texts).over ≡ p.over ++ more)
over_grows language p [] = ([], sym (append-nil p.over))
over_grows language p (text ∷ texts) =
    let step : (more : List WorkItem) × ((next_place language p text).over ≡ p.over ++ more) = over_next p text (language.kind text) p.pending in
    let rest : (more : List WorkItem) × ((place_from language (next_place language p text) texts).over ≡ (next_place language p text).over ++ more) = over_grows language (next_place language p text) texts in
    (step.0 ++ rest.0, rest.1 ∙ ap (λ (front : List WorkItem). front ++ rest.0) step.1 ∙ append_assoc p.over step.0 rest.0)

-- a transaction found by its number is found in each longer work
pub numbered_front : (n : ℕ) (t : Transaction) (xs ys : List WorkItem) → numbered_among n xs ≡ Some t → numbered_among n (xs ++ ys) ≡ Some t
numbered_front n t [] ys is = cc
numbered_front n t (Lone answer ∷ xs) ys is = numbered_front n t xs ys is
numbered_front n t (Does s ∷ xs) ys is = go (s.number == n) is (λ (found : numbered_among n xs ≡ Some t). numbered_front n t xs ys found)
  where
    go : (b : Bool) → (if b then Some s else numbered_among n xs) ≡ Some t → (numbered_among n xs ≡ Some t → numbered_among n (xs ++ ys) ≡ Some t) →
        (if b then Some s else numbered_among n (xs ++ ys)) ≡ Some t
    go true found later = found
    go false found later = later found

-- an item that is no transaction of that number
abbrev pub HasOther : ℕ → WorkItem → Type 0
HasOther n (Does t) = t.number ≡ n → ⊥
HasOther n (Lone answer) = Unit {0}

-- a transaction behind others of other numbers is found
pub numbered_last : (n : ℕ) (t : Transaction) (xs ys : List WorkItem) → AllByRecursion (HasOther n) xs → t.number ≡ n → numbered_among n (xs ++ Does t ∷ ys) ≡ Some t
numbered_last n t [] ys others is = rw (eq-eqb t.number n is) refl
numbered_last n t (Lone answer ∷ xs) ys others is = numbered_last n t xs ys others.1 is
numbered_last n t (Does s ∷ xs) ys others is = rw (ne_eqb s.number n others.0) (numbered_last n t xs ys others.1 is)

-- an item that is a transaction of a number from 1 and below a bound, or none
abbrev pub IsBelow : ℕ → WorkItem → Type 0
IsBelow bound (Does t) = (1 ≤ t.number) × (t.number < bound)
IsBelow bound (Lone answer) = Unit {0}

-- the number of the first transaction that is not over, where so many were begun
abbrev pub first_left : ℕ → Option (List (List ℕ)) → ℕ
first_left number None = number + 1
first_left number (Some texts) = number

abbrev pub IsBegun : ℕ → Option (List (List ℕ)) → Type 0
IsBegun number None = Unit {0}
IsBegun number (Some texts) = 1 ≤ number

-- the transactions of a session are numbered: those that are over have numbers below that of the open one
pub record AreNumbered (p : Place) : Type 0 where
  pub below : AllByRecursion (IsBelow (first_left p.number p.pending)) p.over
  pub begun : IsBegun p.number p.pending

pub below_more : (a b : ℕ) (xs : List WorkItem) → a ≤ b → AllByRecursion (IsBelow a) xs → AllByRecursion (IsBelow b) xs
below_more a b xs le all = all_map (IsBelow a) (IsBelow b) up xs all
  where
    up : (x : WorkItem) → IsBelow a x → IsBelow b x
    up (Does t) is = (is.0, (let h : t.number < a = is.1 in omega (arith, h, le)))
    up (Lone answer) is = tt

below_next : (p : Place) (text : List ℕ) (k : Kind) (pending : Option (List (List ℕ))) → AllByRecursion (IsBelow (first_left p.number pending)) p.over → IsBegun p.number pending →
    AllByRecursion (IsBelow (first_left (next_by p text k pending).number (next_by p text k pending).pending)) (next_by p text k pending).over
below_next p text BeginText None all begun = all
below_next p text CommitText None all begun = all_append (IsBelow (p.number + 1)) p.over _ all (tt, tt)
below_next p text RollbackText None all begun = all_append (IsBelow (p.number + 1)) p.over _ all (tt, tt)
below_next p text (LevelText level) None all begun = all_append (IsBelow (p.number + 1)) p.over _ all (tt, tt)
below_next p text OtherText None all begun =
    all_append (IsBelow (p.number + 1 + 1)) p.over _ (below_more (p.number + 1) (p.number + 1 + 1) p.over (omega arith) all) ((omega arith, omega arith), tt)
below_next p text BeginText (Some texts) all begun = all
below_next p text CommitText (Some texts) all begun =
    all_append (IsBelow (p.number + 1)) p.over _ (below_more p.number (p.number + 1) p.over (omega arith) all) ((begun, omega arith), tt)
below_next p text RollbackText (Some texts) all begun =
    all_append (IsBelow (p.number + 1)) p.over _ (below_more p.number (p.number + 1) p.over (omega arith) all) ((begun, omega arith), tt)
below_next p text (LevelText level) (Some texts) all begun = all
below_next p text OtherText (Some texts) all begun = all

pub begun_next : (p : Place) (text : List ℕ) (k : Kind) (pending : Option (List (List ℕ))) → IsBegun p.number pending → IsBegun (next_by p text k pending).number (next_by p text k pending).pending
begun_next p text BeginText None begun = omega arith
begun_next p text CommitText None begun = tt
begun_next p text RollbackText None begun = tt
begun_next p text (LevelText level) None begun = tt
begun_next p text OtherText None begun = tt
begun_next p text BeginText (Some texts) begun = begun
begun_next p text CommitText (Some texts) begun = tt
begun_next p text RollbackText (Some texts) begun = tt
begun_next p text (LevelText level) (Some texts) begun = begun
begun_next p text OtherText (Some texts) begun = begun

pub are_numbered_next : (language : Language) (p : Place) (text : List ℕ) → AreNumbered p → AreNumbered (next_place language p text)
are_numbered_next language p text was = record {
  below = below_next p text (language.kind text) p.pending was.below was.begun;
  begun = begun_next p text (language.kind text) p.pending was.begun;
}

pub are_numbered_from : (language : Language) (p : Place) (texts : List (List ℕ)) → AreNumbered p → AreNumbered (place_from language p texts)
are_numbered_from language p [] was = was
are_numbered_from language p (text ∷ texts) was = are_numbered_from language (next_place language p text) texts (are_numbered_next language p text was)

pub are_numbered : (language : Language) (texts : List (List ℕ)) → AreNumbered (place_from language start texts)
are_numbered language texts = are_numbered_from language start texts (record { below = tt; begun = tt })

-- a line with which a transaction is over has a number above those that were over before
lone_or_does : (xs : List WorkItem) (answer : Reply) (t : Transaction) → xs ++ Lone answer ∷ [] ≡ xs ++ Does t ∷ [] → ⊥
lone_or_does xs answer t is = let same = append_cancel_left xs (Lone answer ∷ []) (Does t ∷ []) is in cc

above_next : (p : Place) (text : List ℕ) (k : Kind) (pending : Option (List (List ℕ))) (t : Transaction) → (next_by p text k pending).over ≡ p.over ++ Does t ∷ [] →
    first_left p.number pending ≤ (next_by p text k pending).number
above_next p text BeginText None t is = omega arith
above_next p text CommitText None t is = absurd (lone_or_does p.over _ t is)
above_next p text RollbackText None t is = absurd (lone_or_does p.over _ t is)
above_next p text (LevelText level) None t is = absurd (lone_or_does p.over _ t is)
above_next p text OtherText None t is = omega arith
above_next p text BeginText (Some texts) t is = omega arith
above_next p text CommitText (Some texts) t is = omega arith
above_next p text RollbackText (Some texts) t is = omega arith
above_next p text (LevelText level) (Some texts) t is = omega arith
above_next p text OtherText (Some texts) t is = omega arith

pub others_below : (bound n : ℕ) (xs : List WorkItem) → bound ≤ n → AllByRecursion (IsBelow bound) xs → AllByRecursion (HasOther n) xs
others_below bound n xs le all = all_map (IsBelow bound) (HasOther n) other xs all
  where
    other : (x : WorkItem) → IsBelow bound x → HasOther n x
    other (Does t) is = λ (same : t.number ≡ n). (let h : t.number < bound = is.1 in omega (arith, h, le, same))
    other (Lone answer) is = tt

-- the transaction that ends with a line, in the work of the whole script
pub its_transaction : (language : Language) (name session text : List ℕ) (body done left : List BodyLine) (l : BodyLine) (t : Transaction) →
    body ≡ done ++ l ∷ left → l.act ≡ act.Say session text → bytes_eq session name ≡ true →
    (place_after language name (done ++ l ∷ [])).over ≡ (place_after language name done).over ++ Does t ∷ [] → t.number ≡ (place_after language name (done ++ l ∷ [])).number →
    transaction_of language name t.number body ≡ Some t
its_transaction language name session text body done left l t is_body is_act same ends is =
    let before : Place = place_after language name done in
    let now : Place = place_after language name (done ++ l ∷ []) in
    let step : now ≡ next_place language before text = after_own language name session text l done is_act same in
    let above : first_left before.number before.pending ≤ (next_place language before text).number =
    above_next before text (language.kind text) before.pending t (subst (λ (p : Place). p.over ≡ before.over ++ Does t ∷ []) step ends) in
    let number : t.number ≡ (next_place language before text).number = is ∙ ap (λ (p : Place). p.number) step in
    let others : AllByRecursion (HasOther t.number) before.over =
    others_below (first_left before.number before.pending) t.number before.over (omega (arith, above, number)) (are_numbered language (said name done)).below in
    let split : body ≡ (done ++ l ∷ []) ++ left = is_body ∙ sym (append_assoc done (l ∷ []) left) in
    let last : place_after language name body ≡ place_from language now (said name left) = ap (λ (b : List BodyLine). place_after language name b) split ∙ after_more language name (done ++ l ∷ []) left in
    let grows : (more : List WorkItem) × ((place_from language now (said name left)).over ≡ now.over ++ more) = over_grows language now (said name left) in
    let final : Place = place_from language now (said name left) in
    let items : items_at final ≡ before.over ++ Does t ∷ (grows.0 ++ open_item final final.pending) =
    ap (λ (front : List WorkItem). front ++ open_item final final.pending) (grows.1 ∙ ap (λ (front : List WorkItem). front ++ grows.0) ends ∙ append_assoc before.over (Does t ∷ []) grows.0)
    ∙ append_assoc before.over (Does t ∷ grows.0) (open_item final final.pending) in
    ap (λ (p : Place). numbered_among t.number (items_at p)) last
    ∙ ap (λ (all : List WorkItem). numbered_among t.number all) items
    ∙ numbered_last t.number t before.over (grows.0 ++ open_item final final.pending) others refl
