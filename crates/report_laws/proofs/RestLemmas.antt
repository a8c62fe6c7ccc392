-- What a session still does from a place of its work on: the items that its further lines make.
use Rattle.std.proofs.Common.{◌≡◌, ℕ, ◌+◌, ◌<◌, ◌≤◌, List, [], ◌∷◌, ◌++◌, refl, sym, subst, ap, arith, Option, Some, None, ◌∙◌, append_assoc}
use Rattle.std.proofs.lemmas.Bool.{ne_eqb}
use Rattle.std.proofs.lemmas.List.{append-nil}
use Rattle.std.specs.List.{AllByRecursion}
use Rattle.cdb_values.specs.declared.rows.Level.{Level}
use Rattle.cdb_values.specs.declared.rows.StatementError.TheVariants.{State}
use Rattle.session_language.specs.Language.{Language, Kind, BeginText, CommitText, RollbackText, LevelText, OtherText}
use Rattle.report_laws.specs.Told.{Along, Numbered}
use Rattle.report_laws.specs.Work.{Transaction, WorkItem, Does, Lone, Place, End, ByCommit, ByRollback, WithItsLine, Nowhere, transaction, with_open, next_by, next_place, place_from, open_item, items_at}
use Rattle.cdb_values.specs.declared.replies.Reply.{Reply}
use Rattle.cdb_values.specs.declared.replies.Reply.TheVariants as reply
use Rattle.report_laws.proofs.WorkLaws.{IsBelow, first_left}
use Rattle.report_laws.proofs.AlongLaws.{AllOther, along_its, of_number, of_its, of_another}

-- what is over by a line
abbrev pub over_by : ℕ → Level → List ℕ → Kind → Option (List (List ℕ)) → List WorkItem
over_by number level text BeginText None = []
over_by number level text CommitText None = Lone (reply.Error State) ∷ []
over_by number level text RollbackText None = Lone (reply.Error State) ∷ []
over_by number level text (LevelText set) None = Lone (reply.Level set) ∷ []
over_by number level text OtherText None = Does (transaction (number + 1) (text ∷ []) level WithItsLine) ∷ []
over_by number level text BeginText (Some texts) = []
over_by number level text CommitText (Some texts) = Does (transaction number texts level ByCommit) ∷ []
over_by number level text RollbackText (Some texts) = Does (transaction number texts level ByRollback) ∷ []
over_by number level text (LevelText set) (Some texts) = []
over_by number level text OtherText (Some texts) = []

over_is : (p : Place) (text : List ℕ) (k : Kind) (pending : Option (List (List ℕ))) → (next_by p text k pending).over ≡ p.over ++ over_by p.number p.level text k pending
over_is p text BeginText None = sym (append-nil p.over)
over_is p text CommitText None = refl
over_is p text RollbackText None = refl
over_is p text (LevelText level) None = refl
over_is p text OtherText None = refl
over_is p text BeginText (Some texts) = sym (append-nil p.over)
over_is p text CommitText (Some texts) = refl
over_is p text RollbackText (Some texts) = refl
over_is p text (LevelText level) (Some texts) = sym (append-nil p.over)
over_is p text OtherText (Some texts) = sym (append-nil p.over)

-- the items that are over by these texts or open behind them
abbrev pub rest_of : (language : Language) → Place → List (List ℕ) → List WorkItem
rest_of language p [] = open_item p p.pending
rest_of language p (text ∷ texts) = over_by p.number p.level text (language.kind text) p.pending ++ rest_of language (next_place language p text) texts

pub items_are : (language : Language) (p : Place) (texts : List (List ℕ)) → items_at (place_from language p texts) ≡ p.over ++ rest_of language p texts
items_are language p [] = refl
items_are language p (text ∷ texts) =
    items_are language (next_place language p text) texts
    ∙ ap (λ (front : List WorkItem). front ++ rest_of language (next_place language p text) texts) (over_is p text (language.kind text) p.pending)
    ∙ append_assoc p.over (over_by p.number p.level text (language.kind text) p.pending) (rest_of language (next_place language p text) texts)

-- transactions with rising numbers from a bound on
abbrev pub Rising : ℕ → List WorkItem → Type 0
Rising bound [] = Unit {0}
Rising bound (Does t ∷ items) = (bound ≤ t.number) × Rising (t.number + 1) items
Rising bound (Lone answer ∷ items) = Rising bound items

rises_by : (p : Place) (text : List ℕ) (k : Kind) (pending : Option (List (List ℕ))) (rest : List WorkItem) →
    Rising (first_left (next_by p text k pending).number (next_by p text k pending).pending) rest → Rising (first_left p.number pending) (over_by p.number p.level text k pending ++ rest)
rises_by p text BeginText None rest is = is
rises_by p text CommitText None rest is = is
rises_by p text RollbackText None rest is = is
rises_by p text (LevelText level) None rest is = is
rises_by p text OtherText None rest is = (omega arith, is)
rises_by p text BeginText (Some texts) rest is = is
rises_by p text CommitText (Some texts) rest is = (omega arith, is)
rises_by p text RollbackText (Some texts) rest is = (omega arith, is)
rises_by p text (LevelText level) (Some texts) rest is = is
rises_by p text OtherText (Some texts) rest is = is

open_rises : (p : Place) (pending : Option (List (List ℕ))) → Rising (first_left p.number pending) (open_item p pending)
open_rises p None = tt
open_rises p (Some texts) = (omega arith, tt)

pub rest_rises : (language : Language) (p : Place) (texts : List (List ℕ)) → Rising (first_left p.number p.pending) (rest_of language p texts)
rest_rises language p [] = open_rises p p.pending
rest_rises language p (text ∷ texts) = rises_by p text (language.kind text) p.pending (rest_of language (next_place language p text) texts) (rest_rises language (next_place language p text) texts)

-- the first thing that a session with an open transaction still does is that transaction, with further texts
abbrev pub IsOpened : Place → List (List ℕ) → List WorkItem → Type 0
IsOpened p texts items = (more : List (List ℕ)) × (end : End) × (others : List WorkItem) × (items ≡ Does (transaction p.number (texts ++ more) p.level end) ∷ others)

opened_more : (p : Place) (texts : List (List ℕ)) (text : List ℕ) (items : List WorkItem) → IsOpened (with_open p (Some (texts ++ text ∷ [])) p.number) (texts ++ text ∷ []) items → IsOpened p texts items
opened_more p texts text items (more, end, others, is) =
    (text ∷ more, end, others, is ∙ ap (λ (all : List (List ℕ)). Does (transaction p.number all p.level end) ∷ others) (append_assoc texts (text ∷ []) more))

ended_now : (p : Place) (texts : List (List ℕ)) (end : End) (others : List WorkItem) → IsOpened p texts (Does (transaction p.number texts p.level end) ∷ others)
ended_now p texts end others = ([], end, others, ap (λ (all : List (List ℕ)). Does (transaction p.number all p.level end) ∷ others) (sym (append-nil texts)))

pub rest_opened : (language : Language) (p : Place) (texts said : List (List ℕ)) → p.pending ≡ Some texts → IsOpened p texts (rest_of language p said)
rest_opened language p texts [] is = subst (λ pending. IsOpened p texts (open_item p pending)) (sym is) (ended_now p texts Nowhere [])
rest_opened language p texts (text ∷ said) is =
    subst (λ pending. IsOpened p texts (over_by p.number p.level text (language.kind text) pending ++ rest_of language (next_by p text (language.kind text) pending) said)) (sym is)
    (go (language.kind text) (λ q ts (same : q.pending ≡ Some ts). rest_opened language q ts said same))
  where
    go : (k : Kind) → ((q : Place) (ts : List (List ℕ)) → q.pending ≡ Some ts → IsOpened q ts (rest_of language q said)) →
        IsOpened p texts (over_by p.number p.level text k (Some texts) ++ rest_of language (next_by p text k (Some texts)) said)
    go BeginText later = opened_more p texts text _ (later (with_open p (Some (texts ++ text ∷ [])) p.number) (texts ++ text ∷ []) refl)
    go CommitText later = ended_now p texts ByCommit _
    go RollbackText later = ended_now p texts ByRollback _
    go (LevelText level) later = opened_more p texts text _ (later (with_open p (Some (texts ++ text ∷ [])) p.number) (texts ++ text ∷ []) refl)
    go OtherText later = opened_more p texts text _ (later (with_open p (Some (texts ++ text ∷ [])) p.number) (texts ++ text ∷ []) refl)

others_above : (bound n : ℕ) (items : List WorkItem) → 1 ≤ n → n < bound → Rising bound items → AllOther n items
others_above bound n [] first le is = tt
others_above bound n (Does t ∷ items) first le is =
    (let h : bound ≤ t.number = is.0 in ne_eqb t.number n (λ (same : t.number ≡ n). omega (arith, h, le, same)), (let h : bound ≤ t.number = is.0 in others_above (t.number + 1) n items first (omega (arith, h, le)) is.1))
others_above bound n (Lone answer ∷ items) first le is = (ne_eqb 0 n (λ (same : 0 ≡ n). omega (arith, first, same)), others_above bound n items first le is)

others_before : (bound n : ℕ) (items : List WorkItem) → 1 ≤ n → bound ≤ n → AllByRecursion (IsBelow bound) items → AllOther n items
others_before bound n [] first le all = tt
others_before bound n (Does t ∷ items) first le all =
    (let h : t.number < bound = all.0.1 in ne_eqb t.number n (λ (same : t.number ≡ n). omega (arith, h, le, same)), others_before bound n items first le all.1)
others_before bound n (Lone answer ∷ items) first le all = (ne_eqb 0 n (λ (same : 0 ≡ n). omega (arith, first, same)), others_before bound n items first le all.1)

-- what holds along a session's work holds of the first thing that it still does, where this is a transaction
pub of_its_rest : (P : WorkItem → List Reply → Type 0) (bound : ℕ) (over : List WorkItem) (t : Transaction) (others : List WorkItem) (lines : List Numbered) →
    1 ≤ bound → bound ≤ t.number → AllByRecursion (IsBelow bound) over → Rising bound (Does t ∷ others) → Along P (over ++ Does t ∷ others) lines → P (Does t) (of_number t.number lines)
of_its_rest P bound over t others lines first le below rising along =
    along_its P over others (Does t) lines
    (others_before bound t.number over (omega (arith, first, le)) le below)
    (others_above (t.number + 1) t.number others (omega (arith, first, le)) (omega arith) rising.1)
    along

-- the replies outside transactions
abbrev pub lones : List WorkItem → List Reply
lones [] = []
lones (Does t ∷ items) = lones items
lones (Lone answer ∷ items) = answer ∷ lones items

pub lones_append : (xs ys : List WorkItem) → lones (xs ++ ys) ≡ lones xs ++ lones ys
lones_append [] ys = refl
lones_append (Does t ∷ xs) ys = lones_append xs ys
lones_append (Lone answer ∷ xs) ys = ap (λ rest. answer ∷ rest) (lones_append xs ys)

-- they are what a session is told under the number 0
pub told_lones : (P : WorkItem → List Reply → Type 0) → ((answer : Reply) (mine : List Reply) → P (Lone answer) mine → mine ≡ answer ∷ []) →
    (items : List WorkItem) (lines : List Numbered) (bound : ℕ) → 1 ≤ bound → Rising bound items → Along P items lines → of_number 0 lines ≡ lones items
told_lones P one [] lines bound first rising is = ap (of_number 0) is
told_lones P one (Does t ∷ items) lines bound first rising (mine, others, splits, p, rest) =
    let h : bound ≤ t.number = rising.0 in
    ap (of_number 0) splits
    ∙ of_another 0 t.number mine others (ne_eqb t.number 0 (λ (same : t.number ≡ 0). omega (arith, first, h, same)))
    ∙ told_lones P one items others (t.number + 1) (omega arith) rising.1 rest
told_lones P one (Lone answer ∷ items) lines bound first rising (mine, others, splits, p, rest) =
    ap (of_number 0) splits
    ∙ of_its 0 mine others
    ∙ ap (λ (front : List Reply). front ++ of_number 0 others) (one answer mine p)
    ∙ ap (λ rest. answer ∷ rest) (told_lones P one items others bound first rising rest)
