-- A session that was told its work was told each of its lines of the script.
--
-- Its work is walked along its texts. Outside a transaction a text is an item of its own, or begins one; inside one each text takes
-- its replies, up to the end of the transaction, or up to what cut it short. Behind that the texts of the transaction are over.
use Rattle.std.proofs.Common.{◌≡◌, append_assoc, ℕ, ◌+◌, ◌<◌, ◌==◌, ◌&&◌, ◌||◌, List, [], ◌∷◌, ◌++◌, refl, sym, subst, ap, ◌∙◌, arith, Bool, true, false, Option, Some, None, if◌then◌else◌}
use Rattle.std.proofs.lemmas.Bool.Decides.{Decides-eqb}
use Rattle.std.specs.List.{AllByRecursion}
use mathlib.Core.Logic.{◌⊎◌, inl, inr}
use Rattle.cdb_values.specs.declared.replies.Reply.{Reply}
use Rattle.cdb_values.specs.declared.replies.Reply.TheVariants as reply
use Rattle.cdb_values.specs.declared.rows.Level.{Level}
use Rattle.cdb_values.specs.declared.rows.RowOp.{RowOp}
use Rattle.cdb_values.specs.declared.rows.StatementError.TheVariants.{State}
use Rattle.cdb_values.specs.declared.rows.Version.{Version}
use Rattle.cdb_values.specs.declared.tables.TableDef.{TableDef}
use Rattle.std.proofs.lemmas.List.{append-nil}
use Rattle.cluster_reports.specs.SessionLines.{with_reply, piece_at, behind_piece, lines_behind}
use Rattle.node_reports.specs.Pieces.{is_over}
use Rattle.node_reports.specs.Told.{IsToldAlong}
use Rattle.report_laws.specs.Cut.{cuts}
use Rattle.report_laws.specs.History.{Basis}
use Rattle.report_laws.specs.Outcome.{IsDecided, IsOneDecision, Ends}
use Rattle.report_laws.specs.Play.{is_own_by, number_by}
use Rattle.report_laws.specs.Told.{numbered, Numbered, Along}
use Rattle.report_laws.specs.View.{View}
use Rattle.report_laws.specs.Work.{Place, start, next_by, next_place, place_from, WorkItem, Does, Lone, Transaction, transaction, End, ByCommit, ByRollback, WithItsLine, Nowhere, open_item, items_at, with_open}
use Rattle.session_language.specs.Answers.{Answers, IsPlain, ArePlain}
use Rattle.session_language.specs.Language.{Language, Kind, BeginText, CommitText, RollbackText, LevelText, OtherText, alone_from}
use Rattle.session_language.specs.Replies.{are_none, are_up_to, is_last_of, is_outcome}
use Rattle.session_language.proofs.EachLaws.{all_append, all_front}
use Rattle.session_language.proofs.UpToLaws.{up_to_last, none_only}

-- pieces of replies under one number

up_to_piece : (n : ℕ) (f : Reply → Bool) (mine : List Reply) (others : List Numbered) → are_up_to f mine ≡ true → piece_at n f (numbered n mine ++ others) ≡ Some (mine, others)
up_to_piece n f [] others e = absurd (cc)
up_to_piece n f (r ∷ rs) others e =
    ap (λ b. if b then (if f r then Some (r ∷ [], numbered n rs ++ others) else with_reply r (piece_at n f (numbered n rs ++ others))) else None) ((Decides-eqb n n).1 refl)
    ∙ go (f r) e (λ w. up_to_piece n f rs others w)
  where
    go : (b : Bool) → (if b then are_none rs else are_up_to f rs) ≡ true → (are_up_to f rs ≡ true → piece_at n f (numbered n rs ++ others) ≡ Some (rs, others)) → (if b then Some (r ∷ [], numbered n rs ++ others) else with_reply r (piece_at n f (numbered n rs ++ others))) ≡ Some (r ∷ rs, others)
    go true w old = ap (λ (z : List Reply). Some (r ∷ [], numbered n z ++ others)) (none_only rs w) ∙ ap (λ (z : List Reply). Some (r ∷ z, others)) (sym (none_only rs w))
    go false w old = ap (λ z. with_reply r z) (old w)

-- whether a number was cut short

over_append : (n : ℕ) (a b : List Numbered) → is_over n (a ++ b) ≡ is_over n a || is_over n b
over_append n [] b = refl
over_append n (x ∷ a) b = ap (λ z. ((x.0 == n) && cuts x.1) || z) (over_append n a b) ∙ assoc ((x.0 == n) && cuts x.1) (is_over n a) (is_over n b)
  where
    assoc : (x y z : Bool) → x || (y || z) ≡ (x || y) || z
    assoc true y z = refl
    assoc false y z = refl

over_other : (n m : ℕ) (mine : List Reply) → (m == n) ≡ false → is_over n (numbered m mine) ≡ false
over_other n m [] e = refl
over_other n m (r ∷ rs) e = ap (λ z. (z && cuts r) || is_over n (numbered m rs)) e ∙ over_other n m rs e

no_cuts : (n m : ℕ) (mine : List Reply) → AllByRecursion (λ r. cuts r ≡ false) mine → is_over n (numbered m mine) ≡ false
no_cuts n m [] k = refl
no_cuts n m (r ∷ rs) k = ap (λ z. ((m == n) && z) || is_over n (numbered m rs)) k.0 ∙ (ap (λ z. z || is_over n (numbered m rs)) (never (m == n)) ∙ no_cuts n m rs k.1)
  where
    never : (b : Bool) → b && false ≡ false
    never true = refl
    never false = refl

with_cut : (n : ℕ) (rs : List Reply) (c : Reply) → cuts c ≡ true → is_over n (numbered n (rs ++ c ∷ [])) ≡ true
with_cut n [] c e = ap (λ z. (z && cuts c) || false) ((Decides-eqb n n).1 refl) ∙ ap (λ z. z || false) e
with_cut n (r ∷ rs) c e = ap (λ z. ((n == n) && cuts r) || z) (with_cut n rs c e) ∙ always ((n == n) && cuts r)
  where
    always : (b : Bool) → b || true ≡ true
    always true = refl
    always false = refl

plain_no_cut : (r : Reply) → IsPlain r → cuts r ≡ false
plain_no_cut (reply.Row row) k = refl
plain_no_cut (reply.Done n) k = refl
plain_no_cut (reply.Changed n) k = refl
plain_no_cut (reply.Error c) k = refl
plain_no_cut (reply.Level l) k = refl
plain_no_cut (reply.Begin b) k = absurd k
plain_no_cut reply.RolledBack k = absurd k
plain_no_cut (reply.Committed p) k = absurd k
plain_no_cut (reply.ConflictGenid p t g) k = absurd k
plain_no_cut (reply.ConflictRange p t g) k = absurd k
plain_no_cut (reply.Duplicate p t g) k = absurd k
plain_no_cut (reply.Lost n d) k = absurd k
plain_no_cut (reply.NoMajority u n) k = absurd k
plain_no_cut reply.NoMemory k = absurd k

plain_no_end : (r : Reply) → IsPlain r → is_outcome r ≡ false
plain_no_end (reply.Row row) k = refl
plain_no_end (reply.Done n) k = refl
plain_no_end (reply.Changed n) k = refl
plain_no_end (reply.Error c) k = refl
plain_no_end (reply.Level l) k = refl
plain_no_end (reply.Begin b) k = absurd k
plain_no_end reply.RolledBack k = absurd k
plain_no_end (reply.Committed p) k = absurd k
plain_no_end (reply.ConflictGenid p t g) k = absurd k
plain_no_end (reply.ConflictRange p t g) k = absurd k
plain_no_end (reply.Duplicate p t g) k = absurd k
plain_no_end (reply.Lost n d) k = absurd k
plain_no_end (reply.NoMajority u n) k = absurd k
plain_no_end reply.NoMemory k = absurd k

cut_no_row : (r : Reply) → cuts r ≡ true → is_last_of false r ≡ true
cut_no_row (reply.Row row) k = absurd (cc)
cut_no_row (reply.Lost n d) k = refl
cut_no_row (reply.NoMajority u n) k = refl
cut_no_row reply.NoMemory k = refl
cut_no_row (reply.Done n) k = refl
cut_no_row (reply.Changed n) k = refl
cut_no_row (reply.Error c) k = refl
cut_no_row (reply.Level l) k = refl
cut_no_row (reply.Begin b) k = refl
cut_no_row reply.RolledBack k = refl
cut_no_row (reply.Committed p) k = refl
cut_no_row (reply.ConflictGenid p t g) k = refl
cut_no_row (reply.ConflictRange p t g) k = refl
cut_no_row (reply.Duplicate p t g) k = refl

cut_ends : (r : Reply) → cuts r ≡ true → is_outcome r ≡ true
cut_ends (reply.Lost n d) k = refl
cut_ends (reply.NoMajority u n) k = refl
cut_ends reply.NoMemory k = refl
cut_ends (reply.Row row) k = absurd (cc)
cut_ends (reply.Done n) k = absurd (cc)
cut_ends (reply.Changed n) k = absurd (cc)
cut_ends (reply.Error c) k = absurd (cc)
cut_ends (reply.Level l) k = absurd (cc)
cut_ends (reply.Begin b) k = absurd (cc)
cut_ends reply.RolledBack k = absurd (cc)
cut_ends (reply.Committed p) k = absurd (cc)
cut_ends (reply.ConflictGenid p t g) k = absurd (cc)
cut_ends (reply.ConflictRange p t g) k = absurd (cc)
cut_ends (reply.Duplicate p t g) k = absurd (cc)

decided_ends : (r : Reply) → IsDecided r → (is_outcome r ≡ true) × (is_last_of false r ≡ true)
decided_ends (reply.Committed p) k = (refl, refl)
decided_ends (reply.ConflictGenid p t g) k = (refl, refl)
decided_ends (reply.ConflictRange p t g) k = (refl, refl)
decided_ends (reply.Duplicate p t g) k = (refl, refl)
decided_ends (reply.Row row) k = absurd k
decided_ends (reply.Done n) k = absurd k
decided_ends (reply.Changed n) k = absurd k
decided_ends (reply.Error c) k = absurd k
decided_ends (reply.Level l) k = absurd k
decided_ends (reply.Begin b) k = absurd k
decided_ends reply.RolledBack k = absurd k
decided_ends (reply.Lost n d) k = absurd k
decided_ends (reply.NoMajority u n) k = absurd k
decided_ends reply.NoMemory k = absurd k

-- what is left to be told of a transaction, behind its begin

-- the replies of these texts: one piece for each
abbrev PiecesOf : List (List ℕ) → List Reply → Type 0
PiecesOf [] rs = rs ≡ []
PiecesOf (t ∷ ts) rs = (mine : List Reply) × (rest : List Reply) × (rs ≡ mine ++ rest) × (are_up_to (is_last_of false) mine ≡ true) × ArePlain mine × PiecesOf ts rest

abbrev IsLastPiece : End → List Reply → Type 0
IsLastPiece Nowhere left = Unit {0}
IsLastPiece WithItsLine left = Unit {0}
IsLastPiece ByCommit left = (o : Reply) × (left ≡ o ∷ []) × (is_last_of false o ≡ true)
IsLastPiece ByRollback left = (o : Reply) × (left ≡ o ∷ []) × (is_last_of false o ≡ true)

abbrev Left : List (List ℕ) → End → List Reply → Type 0
Left [] end left = IsLastPiece end left
Left (t ∷ ts) end left =
    ((mine : List Reply) × (rest : List Reply) × (left ≡ mine ++ rest) × (are_up_to (is_last_of false) mine ≡ true) × AllByRecursion (λ r. cuts r ≡ false) mine × Left ts end rest)
    ⊎ ((front : List Reply) × (c : Reply) × (left ≡ front ++ c ∷ []) × (are_up_to (is_last_of false) (front ++ c ∷ []) ≡ true) × (cuts c ≡ true))

all_plain_no_cut : (rs : List Reply) → ArePlain rs → AllByRecursion (λ r. cuts r ≡ false) rs
all_plain_no_cut [] k = tt
all_plain_no_cut (r ∷ rs) k = (plain_no_cut r k.0, all_plain_no_cut rs k.1)

all_plain_no_end : (rs : List Reply) → ArePlain rs → AllByRecursion (λ r. is_outcome r ≡ false) rs
all_plain_no_end [] k = tt
all_plain_no_end (r ∷ rs) k = (plain_no_end r k.0, all_plain_no_end rs k.1)

last_piece : (end : End) (last : List Reply) → Ends end last → IsLastPiece end last
last_piece Nowhere last k = tt
last_piece WithItsLine last k = tt
last_piece ByCommit [] k = absurd k
last_piece ByCommit (o ∷ []) k = (o, refl, (decided_ends o k).1)
last_piece ByCommit (o ∷ p ∷ rs) k = absurd k
last_piece ByRollback last k = (reply.RolledBack, k, refl)

whole_left : (ts : List (List ℕ)) (end : End) (rs last : List Reply) → PiecesOf ts rs → Ends end last → Left ts end (rs ++ last)
whole_left [] end rs last p k = subst (λ (z : List Reply). IsLastPiece end (z ++ last)) (sym p) (last_piece end last k)
whole_left (t ∷ ts) end rs last p k = inl (p.0, p.1 ++ last, ap (λ (z : List Reply). z ++ last) p.2 ∙ append_assoc p.0 p.1 last, p.3, all_plain_no_cut p.0 p.4, whole_left ts end p.1 last p.5 k)

-- of two fronts of one list one begins with the other
two_fronts : (xs a ys b : List Reply) → xs ++ a ≡ ys ++ b → ((m : List Reply) × (xs ≡ ys ++ m) × (m ++ a ≡ b)) ⊎ ((x : Reply) × (m : List Reply) × (ys ≡ xs ++ x ∷ m))
two_fronts xs a [] b e = inl (xs, refl, e)
two_fronts [] a (y ∷ ys) b e = inr (y, ys, refl)
two_fronts (x ∷ xs) a (y ∷ ys) b e =
    let h : x ≡ y = cc in
    let t : xs ++ a ≡ ys ++ b = cc in
    elim (two_fronts xs a ys b t) [
      | inl k ↦ inl (k.0, ap (λ (z : Reply). z ∷ xs) h ∙ ap (λ z. y ∷ z) k.1, k.2)
      | inr k ↦ inr (k.0, k.1, ap (λ z. y ∷ z) k.2 ∙ ap (λ (z : Reply). z ∷ (xs ++ k.0 ∷ k.1)) (sym h))
    ]

-- before the last one of a piece stand rows
not_last : (f : Reply → Bool) (xs : List Reply) (x : Reply) (m : List Reply) → are_up_to f (xs ++ x ∷ m) ≡ true → AllByRecursion (λ r. f r ≡ false) xs
not_last f [] x m e = tt
not_last f (y ∷ xs) x m e = go (f y) refl e (λ w. not_last f xs x m w)
  where
    some_none : (xs : List Reply) → are_none (xs ++ x ∷ m) ≡ true → ⊥
    some_none [] w = absurd (cc)
    some_none (z ∷ zs) w = absurd (cc)

    go : (b : Bool) → f y ≡ b → (if b then are_none (xs ++ x ∷ m) else are_up_to f (xs ++ x ∷ m)) ≡ true → (are_up_to f (xs ++ x ∷ m) ≡ true → AllByRecursion (λ r. f r ≡ false) xs) → AllByRecursion (λ r. f r ≡ false) (y ∷ xs)
    go true q w old = absurd (some_none xs w)
    go false q w old = (q, old w)

cut_left : (ts : List (List ℕ)) (end : End) (rs front rest : List Reply) (c : Reply) → PiecesOf ts rs → front ++ rest ≡ rs → cuts c ≡ true → Left ts end (front ++ c ∷ [])
cut_left [] end rs front rest c p e k = last end
  where
    front_none : (front : List Reply) → front ++ rest ≡ [] → front ≡ []
    front_none [] q = refl
    front_none (x ∷ xs) q = absurd (cc)

    last : (end : End) → IsLastPiece end (front ++ c ∷ [])
    last Nowhere = tt
    last WithItsLine = tt
    last ByCommit = (c, ap (λ (z : List Reply). z ++ c ∷ []) (front_none front (e ∙ p)), cut_no_row c k)
    last ByRollback = (c, ap (λ (z : List Reply). z ++ c ∷ []) (front_none front (e ∙ p)), cut_no_row c k)
cut_left (t ∷ ts) end rs front rest c p e k = elim (two_fronts front rest p.0 p.1 (e ∙ p.2)) [
  | inl m ↦ inl (p.0, m.0 ++ c ∷ [], ap (λ (z : List Reply). z ++ c ∷ []) m.1 ∙ append_assoc p.0 m.0 (c ∷ []), p.3, all_plain_no_cut p.0 p.4, cut_left ts end p.1 m.0 rest c p.5 m.2 k)
  | inr m ↦ inr (front, c, refl, up_to_last (is_last_of false) front c (not_last (is_last_of false) front m.0 m.1 (subst (λ (z : List Reply). are_up_to (is_last_of false) z ≡ true) m.2 p.3)) (cut_no_row c k), k)
]

-- the replies of a transaction are its texts' pieces
replies_pieces : (L : Language) → Answers L → (tables : List TableDef) (versions : List (List Version)) (done : List RowOp) (texts : List (List ℕ)) → PiecesOf texts (alone_from L tables versions done texts).replies
replies_pieces L k tables versions done [] = refl
replies_pieces L k tables versions done (t ∷ ts) =
    let a = L.answer tables versions done t in
    (a.replies, (alone_from L tables versions a.ops ts).replies, refl, k.closed tables versions done t, k.plain tables versions done t, replies_pieces L k tables versions a.ops ts)

-- an item, as it is told

pub data ToldWhole (t : Transaction) (mine : List Reply) : Type 0 where
  whole : (b : ℕ) (rs last : List Reply) → PiecesOf t.texts rs → Ends t.end last → mine ≡ reply.Begin b ∷ (rs ++ last) → ToldWhole t mine
  short : (b : ℕ) (rs front rest : List Reply) (c : Reply) → PiecesOf t.texts rs → front ++ rest ≡ reply.Begin b ∷ rs → cuts c ≡ true → mine ≡ front ++ c ∷ [] → ToldWhole t mine

abbrev pub IsShaped : WorkItem → List Reply → Type 0
IsShaped (Does t) mine = ToldWhole t mine
IsShaped (Lone r) mine = mine ≡ r ∷ []

pub shaped : (basis : Basis) (view : View) (name : List ℕ) → Answers basis.language → (i : WorkItem) (mine : List Reply) → IsToldAlong basis view name i mine → IsShaped i mine
shaped basis view name k (Lone r) mine e = e
shaped basis view name k (Does t) mine (inl w) = whole w.begin w.ran.replies w.last (subst (λ a. PiecesOf t.texts a.replies) (sym w.is_ran) (replies_pieces basis.language k basis.origin.tables (view.rows w.begin).tables [] t.texts)) w.ends w.says
shaped basis view name k (Does t) mine (inr w) = short w.begin w.ran.replies w.front w.rest w.cause (subst (λ a. PiecesOf t.texts a.replies) (sym w.is_ran) (replies_pieces basis.language k basis.origin.tables (view.rows w.begin).tables [] t.texts)) w.fits w.is_cause w.says

-- the work that is left from a place on

abbrev pub Inner : Type 0
Inner = List (List ℕ) × End × List (List ℕ)

-- the texts of a transaction that is open, its end, and the texts behind it
abbrev pub inner_with : List ℕ → Inner → Inner
inner_with t i = (t ∷ i.0, i.1, i.2)

abbrev pub inner_by : Kind → List ℕ → List (List ℕ) → Inner → Inner
inner_by CommitText t ts later = ([], ByCommit, ts)
inner_by RollbackText t ts later = ([], ByRollback, ts)
inner_by BeginText t ts later = inner_with t later
inner_by (LevelText level) t ts later = inner_with t later
inner_by OtherText t ts later = inner_with t later

abbrev pub inner : Language → List (List ℕ) → Inner
inner L [] = ([], Nowhere, [])
inner L (t ∷ ts) = inner_by (L.kind t) t ts (inner L ts)

abbrev pub open_of : ℕ → Level → Option (List (List ℕ)) → List WorkItem
open_of n l None = []
open_of n l (Some texts) = Does (transaction n texts l Nowhere) ∷ []

abbrev pub More : Type 0
More = ℕ → Level → Option (List (List ℕ)) → List WorkItem

abbrev pub todo_by : ℕ → Level → List ℕ → Kind → Option (List (List ℕ)) → More → List WorkItem
todo_by n l t BeginText None k = k (n + 1) l (Some [])
todo_by n l t CommitText None k = Lone (reply.Error State) ∷ k n l None
todo_by n l t RollbackText None k = Lone (reply.Error State) ∷ k n l None
todo_by n l t (LevelText level) None k = Lone (reply.Level level) ∷ k n level None
todo_by n l t OtherText None k = Does (transaction (n + 1) (t ∷ []) l WithItsLine) ∷ k (n + 1) l None
todo_by n l t BeginText (Some texts) k = k n l (Some (texts ++ t ∷ []))
todo_by n l t CommitText (Some texts) k = Does (transaction n texts l ByCommit) ∷ k n l None
todo_by n l t RollbackText (Some texts) k = Does (transaction n texts l ByRollback) ∷ k n l None
todo_by n l t (LevelText level) (Some texts) k = k n l (Some (texts ++ t ∷ []))
todo_by n l t OtherText (Some texts) k = k n l (Some (texts ++ t ∷ []))

-- the items from a place on
abbrev pub todo : Language → ℕ → Level → Option (List (List ℕ)) → List (List ℕ) → List WorkItem
todo L n l pending [] = open_of n l pending
todo L n l pending (t ∷ ts) = todo_by n l t (L.kind t) pending (λ n' l' pending'. todo L n' l' pending' ts)

pub items_todo : (L : Language) (p : Place) (texts : List (List ℕ)) → items_at (place_from L p texts) ≡ p.over ++ todo L p.number p.level p.pending texts
items_todo L p [] = of_open p.pending
  where
    of_open : (o : Option (List (List ℕ))) → p.over ++ open_item p o ≡ p.over ++ open_of p.number p.level o
    of_open None = refl
    of_open (Some texts) = refl
items_todo L p (t ∷ ts) = items_todo L (next_place L p t) ts ∙ step (L.kind t) p.pending
  where
    step : (k : Kind) (o : Option (List (List ℕ))) → (next_by p t k o).over ++ todo L (next_by p t k o).number (next_by p t k o).level (next_by p t k o).pending ts ≡ p.over ++ todo_by p.number p.level t k o (λ n' l' pending'. todo L n' l' pending' ts)
    step BeginText None = refl
    step CommitText None = append_assoc p.over (Lone (reply.Error State) ∷ []) _
    step RollbackText None = append_assoc p.over (Lone (reply.Error State) ∷ []) _
    step (LevelText level) None = append_assoc p.over (Lone (reply.Level level) ∷ []) _
    step OtherText None = append_assoc p.over (Does (transaction (p.number + 1) (t ∷ []) p.level WithItsLine) ∷ []) _
    step BeginText (Some texts) = refl
    step CommitText (Some texts) = append_assoc p.over (Does (transaction p.number texts p.level ByCommit) ∷ []) _
    step RollbackText (Some texts) = append_assoc p.over (Does (transaction p.number texts p.level ByRollback) ∷ []) _
    step (LevelText level) (Some texts) = refl
    step OtherText (Some texts) = refl

-- inside a transaction it is the first of them
pub open_todo : (L : Language) (n : ℕ) (l : Level) (texts ts : List (List ℕ)) → todo L n l (Some texts) ts ≡ Does (transaction n (texts ++ (inner L ts).0) l (inner L ts).1) ∷ todo L n l None (inner L ts).2
open_todo L n l texts [] = ap (λ (z : List (List ℕ)). Does (transaction n z l Nowhere) ∷ []) (sym (append-nil texts))
open_todo L n l texts (t ∷ ts) = step (L.kind t) (open_todo L n l (texts ++ t ∷ []) ts)
  where
    later : todo L n l (Some (texts ++ t ∷ [])) ts ≡ Does (transaction n ((texts ++ t ∷ []) ++ (inner L ts).0) l (inner L ts).1) ∷ todo L n l None (inner L ts).2 → todo L n l (Some (texts ++ t ∷ [])) ts ≡ Does (transaction n (texts ++ t ∷ (inner L ts).0) l (inner L ts).1) ∷ todo L n l None (inner L ts).2
    later e = e ∙ ap (λ (z : List (List ℕ)). Does (transaction n z l (inner L ts).1) ∷ todo L n l None (inner L ts).2) (append_assoc texts (t ∷ []) (inner L ts).0)

    step : (k : Kind) → todo L n l (Some (texts ++ t ∷ [])) ts ≡ Does (transaction n ((texts ++ t ∷ []) ++ (inner L ts).0) l (inner L ts).1) ∷ todo L n l None (inner L ts).2 → todo_by n l t k (Some texts) (λ n' l' pending'. todo L n' l' pending' ts) ≡ Does (transaction n (texts ++ (inner_by k t ts (inner L ts)).0) l (inner_by k t ts (inner L ts)).1) ∷ todo L n l None (inner_by k t ts (inner L ts)).2
    step CommitText old = ap (λ (z : List (List ℕ)). Does (transaction n z l ByCommit) ∷ todo L n l None ts) (sym (append-nil texts))
    step RollbackText old = ap (λ (z : List (List ℕ)). Does (transaction n z l ByRollback) ∷ todo L n l None ts) (sym (append-nil texts))
    step BeginText old = later old
    step (LevelText level) old = later old
    step OtherText old = later old

-- the walk

abbrev pub AreOverAt : Language → List Numbered → Place → List (List ℕ) → List Numbered → Type 0
AreOverAt L b p ts lines = (r : List Numbered) × (lines_behind L b p ts lines ≡ Some r)

abbrev behind_by : Language → List Numbered → Place → List ℕ → List (List ℕ) → List Numbered → Kind → Option (List (List ℕ)) → Option (List Numbered)
behind_by L b p t ts lines k o =
    if is_over (number_by p.number k o) b then lines_behind L b (next_by p t k o) ts lines
    else behind_piece (piece_at (number_by p.number k o) (is_last_of (is_own_by k o)) lines) (λ mine rest. lines_behind L (b ++ numbered (number_by p.number k o) mine) (next_by p t k o) ts rest)

-- no number that comes later was cut short
abbrev IsClear : List Numbered → ℕ → Type 0
IsClear b n = (m : ℕ) → (m ≡ 0) ⊎ (n < m) → is_over m b ≡ false

abbrev Out : Language → List (List ℕ) → Type 0
Out L ts = (p : Place) (b lines : List Numbered) → p.pending ≡ None → IsClear b p.number → Along IsShaped (todo L p.number p.level None ts) lines → AreOverAt L b p ts lines

abbrev Inside : Language → List (List ℕ) → Type 0
Inside L ts = (p : Place) (b : List Numbered) (texts : List (List ℕ)) (left : List Reply) (others : List Numbered) → p.pending ≡ Some texts → 0 < p.number → IsClear b p.number → is_over p.number b ≡ false → Left (inner L ts).0 (inner L ts).1 left
    → Along IsShaped (todo L p.number p.level None (inner L ts).2) others → AreOverAt L b p ts (numbered p.number left ++ others)

abbrev Cut : Language → List (List ℕ) → Type 0
Cut L ts = (p : Place) (b : List Numbered) (texts : List (List ℕ)) (lines : List Numbered) → p.pending ≡ Some texts → 0 < p.number → IsClear b p.number → is_over p.number b ≡ true
    → Along IsShaped (todo L p.number p.level None (inner L ts).2) lines → AreOverAt L b p ts lines

skip_by : (L : Language) (b : List Numbered) (p : Place) (t : List ℕ) (ts : List (List ℕ)) (lines : List Numbered) (k : Kind) (o : Option (List (List ℕ))) → is_over (number_by p.number k o) b ≡ true → AreOverAt L b (next_by p t k o) ts lines → (r : List Numbered) × (behind_by L b p t ts lines k o ≡ Some r)
skip_by L b p t ts lines k o q old = (old.0, ap (λ z. if z then lines_behind L b (next_by p t k o) ts lines else behind_piece (piece_at (number_by p.number k o) (is_last_of (is_own_by k o)) lines) (λ mine rest. lines_behind L (b ++ numbered (number_by p.number k o) mine) (next_by p t k o) ts rest)) q ∙ old.1)

tell_by : (L : Language) (b : List Numbered) (p : Place) (t : List ℕ) (ts : List (List ℕ)) (k : Kind) (o : Option (List (List ℕ))) (mine : List Reply) (rest lines : List Numbered) → lines ≡ numbered (number_by p.number k o) mine ++ rest → is_over (number_by p.number k o) b ≡ false → are_up_to (is_last_of (is_own_by k o)) mine ≡ true → AreOverAt L (b ++ numbered (number_by p.number k o) mine) (next_by p t k o) ts rest → (r : List Numbered) × (behind_by L b p t ts lines k o ≡ Some r)
tell_by L b p t ts k o mine rest lines is q up old = (
  old.0,
  ap (λ z. if z then lines_behind L b (next_by p t k o) ts lines else behind_piece (piece_at (number_by p.number k o) (is_last_of (is_own_by k o)) lines) (λ mine rest. lines_behind L (b ++ numbered (number_by p.number k o) mine) (next_by p t k o) ts rest)) q
      ∙ (ap (λ z. behind_piece z (λ mine rest. lines_behind L (b ++ numbered (number_by p.number k o) mine) (next_by p t k o) ts rest)) (ap (λ z. piece_at (number_by p.number k o) (is_last_of (is_own_by k o)) z) is ∙ up_to_piece (number_by p.number k o) (is_last_of (is_own_by k o)) mine rest up) ∙ old.1),
)

none_over : (n : ℕ) (a b : List Numbered) → is_over n a ≡ false → is_over n b ≡ false → is_over n (a ++ b) ≡ false
none_over n a b e f = over_append n a b ∙ (ap (λ z. z || is_over n b) e ∙ f)

some_over : (n : ℕ) (a b : List Numbered) → is_over n b ≡ true → is_over n (a ++ b) ≡ true
some_over n a b f = over_append n a b ∙ (ap (λ z. is_over n a || z) f ∙ always (is_over n a))
  where
    always : (b : Bool) → b || true ≡ true
    always true = refl
    always false = refl

apart : (n m : ℕ) → (m ≡ 0) ⊎ (n < m) → 0 < n → (n == m) ≡ false
apart n m k lo = go (n == m) refl
  where
    go : (b : Bool) → (n == m) ≡ b → (n == m) ≡ false
    go false e = e
    go true e = absurd (let q : n ≡ m = (Decides-eqb n m).0 e in elim k [ inl z ↦ (let z' : m ≡ 0 = z in omega arith) | inr l ↦ (let l' : n < m = l in omega arith) ])

-- lines under a number leave the later ones clear
clear_same : (b : List Numbered) (n : ℕ) (mine : List Reply) → 0 < n → IsClear b n → IsClear (b ++ numbered n mine) n
clear_same b n mine lo c m k = none_over m b (numbered n mine) (c m k) (over_other m n mine (apart n m k lo))

clear_next : (b : List Numbered) (n : ℕ) (mine : List Reply) → IsClear b n → IsClear (b ++ numbered (n + 1) mine) (n + 1)
clear_next b n mine c m k = none_over m b (numbered (n + 1) mine) (c m (elim k [ inl z ↦ inl z | inr l ↦ inr (let l' : n + 1 < m = l in omega arith) ])) (over_other m (n + 1) mine (apart (n + 1) m k (omega arith)))

clear_lone : (b : List Numbered) (n : ℕ) (r : Reply) → cuts r ≡ false → IsClear b n → IsClear (b ++ numbered 0 (r ∷ [])) n
clear_lone b n r e c m k = none_over m b (numbered 0 (r ∷ [])) (c m k) (no_cuts m 0 (r ∷ []) (e, tt))

number_join : (n : ℕ) (a b : List Reply) → numbered n (a ++ b) ≡ numbered n a ++ numbered n b
number_join n [] b = refl
number_join n (r ∷ a) b = ap (λ (z : List Numbered). (n, r) ∷ z) (number_join n a b)

pieces_plain : (ts : List (List ℕ)) (rs : List Reply) → PiecesOf ts rs → ArePlain rs
pieces_plain [] rs p = subst (λ (z : List Reply). ArePlain z) (sym p) tt
pieces_plain (t ∷ ts) rs p = subst (λ (z : List Reply). ArePlain z) (sym p.2) (all_append IsPlain p.0 p.1 p.4 (pieces_plain ts p.1 p.5))

front_plain : (front rest : List Reply) (b : ℕ) (rs : List Reply) → front ++ rest ≡ reply.Begin b ∷ rs → ArePlain rs → AllByRecursion (λ r. is_outcome r ≡ false) front
front_plain [] rest b rs e k = tt
front_plain (x ∷ front) rest b rs e k =
    let h : x ≡ reply.Begin b = cc in
    let t : front ++ rest ≡ rs = cc in
    (ap (λ r. is_outcome r) h, all_front (λ r. is_outcome r ≡ false) front rest (subst (λ (z : List Reply). AllByRecursion (λ r. is_outcome r ≡ false) z) (sym t) (all_plain_no_end rs k)))

one_decision : (last : List Reply) → IsOneDecision last → (o : Reply) × (last ≡ o ∷ []) × IsDecided o
one_decision [] k = absurd k
one_decision (o ∷ []) k = (o, refl, k)
one_decision (o ∷ p ∷ rs) k = absurd k

-- a transaction of its own goes up to its outcome
own_up_to : (n : ℕ) (t : List ℕ) (l : Level) (mine : List Reply) → ToldWhole (transaction n (t ∷ []) l WithItsLine) mine → are_up_to is_outcome mine ≡ true
own_up_to n t l mine (whole b rs last p k e) =
    let d = one_decision last k in
    let all : AllByRecursion (λ r. is_outcome r ≡ false) (reply.Begin b ∷ rs) = (refl, all_plain_no_end rs (pieces_plain (t ∷ []) rs p)) in
    subst (λ (z : List Reply). are_up_to is_outcome z ≡ true) (sym (e ∙ ap (λ (z : List Reply). reply.Begin b ∷ (rs ++ z)) d.1)) (up_to_last is_outcome (reply.Begin b ∷ rs) d.0 all (decided_ends d.0 d.2).0)
own_up_to n t l mine (short b rs front rest c p f k e) =
    subst (λ (z : List Reply). are_up_to is_outcome z ≡ true) (sym e) (up_to_last is_outcome front c (front_plain front rest b rs f (pieces_plain (t ∷ []) rs p)) (cut_ends c k))

module _ (L : Language) (t : List ℕ) (ts : List (List ℕ)) (out : Out L ts) (inside : Inside L ts) (cut : Cut L ts) where
  -- a text that begins a transaction
  begins : (p : Place) (b : List Numbered) (mine : List Reply) (others lines : List Numbered) → IsClear b p.number → lines ≡ numbered (p.number + 1) mine ++ others → ToldWhole (transaction (p.number + 1) (inner L ts).0 p.level (inner L ts).1) mine
      → Along IsShaped (todo L (p.number + 1) p.level None (inner L ts).2) others → (r : List Numbered) × (behind_by L b p t ts lines BeginText None ≡ Some r)
  begins p b mine others lines clear is (whole bg rs last pc en says) rest =
      tell_by L b p t ts BeginText None (reply.Begin bg ∷ []) (numbered (p.number + 1) (rs ++ last) ++ others) lines (is ∙ ap (λ (z : List Reply). numbered (p.number + 1) z ++ others) says) (clear (p.number + 1) (inr (omega arith))) refl
      (inside (next_by p t BeginText None) (b ++ numbered (p.number + 1) (reply.Begin bg ∷ [])) [] (rs ++ last) others refl (omega arith) (clear_next b p.number (reply.Begin bg ∷ []) clear)
      (none_over (p.number + 1) b (numbered (p.number + 1) (reply.Begin bg ∷ [])) (clear (p.number + 1) (inr (omega arith))) (no_cuts (p.number + 1) (p.number + 1) (reply.Begin bg ∷ []) (refl, tt)))
      (whole_left (inner L ts).0 (inner L ts).1 rs last pc en) rest)
  begins p b mine others lines clear is (short bg rs [] rest c pc fits k says) more =
      tell_by L b p t ts BeginText None (c ∷ []) others lines (is ∙ ap (λ (z : List Reply). numbered (p.number + 1) z ++ others) says) (clear (p.number + 1) (inr (omega arith))) (up_to_last (is_last_of false) [] c tt (cut_no_row c k))
      (cut (next_by p t BeginText None) (b ++ numbered (p.number + 1) (c ∷ [])) [] others refl (omega arith) (clear_next b p.number (c ∷ []) clear) (some_over (p.number + 1) b (numbered (p.number + 1) (c ∷ [])) (with_cut (p.number + 1) [] c k)) more)
  begins p b mine others lines clear is (short bg rs (x ∷ front) rest c pc fits k says) more =
      let h : x ≡ reply.Begin bg = cc in
      let f : front ++ rest ≡ rs = cc in
      tell_by L b p t ts BeginText None (reply.Begin bg ∷ []) (numbered (p.number + 1) (front ++ c ∷ []) ++ others) lines (is ∙ (ap (λ (z : List Reply). numbered (p.number + 1) z ++ others) says ∙ ap (λ (z : Reply). (p.number + 1, z) ∷ (numbered (p.number + 1) (front ++ c ∷ []) ++ others)) h)) (clear (p.number + 1) (inr (omega arith))) refl
      (inside (next_by p t BeginText None) (b ++ numbered (p.number + 1) (reply.Begin bg ∷ [])) [] (front ++ c ∷ []) others refl (omega arith) (clear_next b p.number (reply.Begin bg ∷ []) clear)
      (none_over (p.number + 1) b (numbered (p.number + 1) (reply.Begin bg ∷ [])) (clear (p.number + 1) (inr (omega arith))) (no_cuts (p.number + 1) (p.number + 1) (reply.Begin bg ∷ []) (refl, tt)))
      (cut_left (inner L ts).0 (inner L ts).1 rs front rest c pc f k) more)

  outside : (p : Place) (b lines : List Numbered) → IsClear b p.number → (k : Kind) → Along IsShaped (todo_by p.number p.level t k None (λ n' l' pending'. todo L n' l' pending' ts)) lines → (r : List Numbered) × (behind_by L b p t ts lines k None ≡ Some r)
  outside p b lines clear BeginText a = let a' = subst (λ z. Along IsShaped z lines) (open_todo L (p.number + 1) p.level [] ts) a in begins p b a'.0 a'.1 lines clear a'.2 a'.3 a'.4
  outside p b lines clear CommitText a =
      tell_by L b p t ts CommitText None (reply.Error State ∷ []) a.1 lines (a.2 ∙ ap (λ (z : List Reply). numbered 0 z ++ a.1) a.3) (clear 0 (inl refl)) refl
      (out (next_by p t CommitText None) (b ++ numbered 0 (reply.Error State ∷ [])) a.1 refl (clear_lone b p.number (reply.Error State) refl clear) a.4)
  outside p b lines clear RollbackText a =
      tell_by L b p t ts RollbackText None (reply.Error State ∷ []) a.1 lines (a.2 ∙ ap (λ (z : List Reply). numbered 0 z ++ a.1) a.3) (clear 0 (inl refl)) refl
      (out (next_by p t RollbackText None) (b ++ numbered 0 (reply.Error State ∷ [])) a.1 refl (clear_lone b p.number (reply.Error State) refl clear) a.4)
  outside p b lines clear (LevelText level) a =
      tell_by L b p t ts (LevelText level) None (reply.Level level ∷ []) a.1 lines (a.2 ∙ ap (λ (z : List Reply). numbered 0 z ++ a.1) a.3) (clear 0 (inl refl)) refl
      (out (next_by p t (LevelText level) None) (b ++ numbered 0 (reply.Level level ∷ [])) a.1 refl (clear_lone b p.number (reply.Level level) refl clear) a.4)
  outside p b lines clear OtherText a =
      tell_by L b p t ts OtherText None a.0 a.1 lines a.2 (clear (p.number + 1) (inr (omega arith))) (own_up_to (p.number + 1) t p.level a.0 a.3)
      (out (next_by p t OtherText None) (b ++ numbered (p.number + 1) a.0) a.1 refl (clear_next b p.number a.0 clear) a.4)

  -- a text inside a transaction
  one_inside : (k : Kind) (p : Place) (b : List Numbered) (texts : List (List ℕ)) (left : List Reply) (others : List Numbered) → (number_by p.number k (Some texts) ≡ p.number) → (is_own_by k (Some texts) ≡ false) → (next_by p t k (Some texts) ≡ with_open p (Some (texts ++ t ∷ [])) p.number) → 0 < p.number → IsClear b p.number → is_over p.number b ≡ false
      → Left (t ∷ (inner L ts).0) (inner L ts).1 left → Along IsShaped (todo L p.number p.level None (inner L ts).2) others → (r : List Numbered) × (behind_by L b p t ts (numbered p.number left ++ others) k (Some texts) ≡ Some r)
  one_inside k p b texts left others num own next lo clear q (inl m) a =
      tell_by L b p t ts k (Some texts) m.0 (numbered p.number m.1 ++ others) (numbered p.number left ++ others)
      (ap (λ (z : List Reply). numbered p.number z ++ others) m.2 ∙ (ap (λ (z : List Numbered). z ++ others) (number_join p.number m.0 m.1) ∙ (append_assoc (numbered p.number m.0) (numbered p.number m.1) others ∙ ap (λ z. numbered z m.0 ++ (numbered p.number m.1 ++ others)) (sym num))))
      (subst (λ z. is_over z b ≡ false) (sym num) q) (subst (λ z. are_up_to (is_last_of z) m.0 ≡ true) (sym own) m.3)
      (subst (λ z. AreOverAt L (b ++ numbered z m.0) (next_by p t k (Some texts)) ts (numbered p.number m.1 ++ others)) (sym num)
      (subst (λ z. AreOverAt L (b ++ numbered p.number m.0) z ts (numbered p.number m.1 ++ others)) (sym next)
      (inside (with_open p (Some (texts ++ t ∷ [])) p.number) (b ++ numbered p.number m.0) (texts ++ t ∷ []) m.1 others refl lo (clear_same b p.number m.0 lo clear) (none_over p.number b (numbered p.number m.0) q (no_cuts p.number p.number m.0 m.4)) m.5 a)))
  one_inside k p b texts left others num own next lo clear q (inr m) a =
      tell_by L b p t ts k (Some texts) (m.0 ++ m.1 ∷ []) others (numbered p.number left ++ others)
      (ap (λ (z : List Reply). numbered p.number z ++ others) m.2 ∙ ap (λ z. numbered z (m.0 ++ m.1 ∷ []) ++ others) (sym num))
      (subst (λ z. is_over z b ≡ false) (sym num) q) (subst (λ z. are_up_to (is_last_of z) (m.0 ++ m.1 ∷ []) ≡ true) (sym own) m.3)
      (subst (λ z. AreOverAt L (b ++ numbered z (m.0 ++ m.1 ∷ [])) (next_by p t k (Some texts)) ts others) (sym num)
      (subst (λ z. AreOverAt L (b ++ numbered p.number (m.0 ++ m.1 ∷ [])) z ts others) (sym next)
      (cut (with_open p (Some (texts ++ t ∷ [])) p.number) (b ++ numbered p.number (m.0 ++ m.1 ∷ [])) (texts ++ t ∷ []) others refl lo (clear_same b p.number (m.0 ++ m.1 ∷ []) lo clear) (some_over p.number b (numbered p.number (m.0 ++ m.1 ∷ [])) (with_cut p.number m.0 m.1 m.4)) a)))

  within : (p : Place) (b : List Numbered) (texts : List (List ℕ)) (left : List Reply) (others : List Numbered) → 0 < p.number → IsClear b p.number → is_over p.number b ≡ false → (k : Kind) → Left (inner_by k t ts (inner L ts)).0 (inner_by k t ts (inner L ts)).1 left
      → Along IsShaped (todo L p.number p.level None (inner_by k t ts (inner L ts)).2) others → (r : List Numbered) × (behind_by L b p t ts (numbered p.number left ++ others) k (Some texts) ≡ Some r)
  within p b texts left others lo clear q CommitText m a =
      tell_by L b p t ts CommitText (Some texts) (m.0 ∷ []) others (numbered p.number left ++ others) (ap (λ (z : List Reply). numbered p.number z ++ others) m.1) q (up_to_last (is_last_of false) [] m.0 tt m.2)
      (out (next_by p t CommitText (Some texts)) (b ++ numbered p.number (m.0 ∷ [])) others refl (clear_same b p.number (m.0 ∷ []) lo clear) a)
  within p b texts left others lo clear q RollbackText m a =
      tell_by L b p t ts RollbackText (Some texts) (m.0 ∷ []) others (numbered p.number left ++ others) (ap (λ (z : List Reply). numbered p.number z ++ others) m.1) q (up_to_last (is_last_of false) [] m.0 tt m.2)
      (out (next_by p t RollbackText (Some texts)) (b ++ numbered p.number (m.0 ∷ [])) others refl (clear_same b p.number (m.0 ∷ []) lo clear) a)
  within p b texts left others lo clear q BeginText m a = one_inside BeginText p b texts left others refl refl refl lo clear q m a
  within p b texts left others lo clear q (LevelText level) m a = one_inside (LevelText level) p b texts left others refl refl refl lo clear q m a
  within p b texts left others lo clear q OtherText m a = one_inside OtherText p b texts left others refl refl refl lo clear q m a

  -- and inside one that was cut short
  skips : (p : Place) (b : List Numbered) (texts : List (List ℕ)) (lines : List Numbered) → 0 < p.number → IsClear b p.number → is_over p.number b ≡ true → (k : Kind)
      → Along IsShaped (todo L p.number p.level None (inner_by k t ts (inner L ts)).2) lines → (r : List Numbered) × (behind_by L b p t ts lines k (Some texts) ≡ Some r)
  skips p b texts lines lo clear q CommitText a = skip_by L b p t ts lines CommitText (Some texts) q (out (next_by p t CommitText (Some texts)) b lines refl clear a)
  skips p b texts lines lo clear q RollbackText a = skip_by L b p t ts lines RollbackText (Some texts) q (out (next_by p t RollbackText (Some texts)) b lines refl clear a)
  skips p b texts lines lo clear q BeginText a = skip_by L b p t ts lines BeginText (Some texts) q (cut (next_by p t BeginText (Some texts)) b (texts ++ t ∷ []) lines refl lo clear q a)
  skips p b texts lines lo clear q (LevelText level) a = skip_by L b p t ts lines (LevelText level) (Some texts) q (cut (next_by p t (LevelText level) (Some texts)) b (texts ++ t ∷ []) lines refl lo clear q a)
  skips p b texts lines lo clear q OtherText a = skip_by L b p t ts lines OtherText (Some texts) q (cut (next_by p t OtherText (Some texts)) b (texts ++ t ∷ []) lines refl lo clear q a)

walks : (L : Language) (ts : List (List ℕ)) → Out L ts × Inside L ts × Cut L ts
walks L [] = (λ p b lines e c a. (lines, refl), λ p b texts left others e lo c q m a. (numbered p.number left ++ others, refl), λ p b texts lines e lo c q a. (lines, refl))
walks L (t ∷ ts) =
    let w = walks L ts in (
      λ p b lines e c a. subst (λ z. (r : List Numbered) × (behind_by L b p t ts lines (L.kind t) z ≡ Some r)) (sym e) (outside L t ts w.0 w.1 w.2 p b lines c (L.kind t) a),
      λ p b texts left others e lo c q m a. subst (λ z. (r : List Numbered) × (behind_by L b p t ts (numbered p.number left ++ others) (L.kind t) z ≡ Some r)) (sym e) (within L t ts w.0 w.1 w.2 p b texts left others lo c q (L.kind t) m a),
      λ p b texts lines e lo c q a. subst (λ z. (r : List Numbered) × (behind_by L b p t ts lines (L.kind t) z ≡ Some r)) (sym e) (skips L t ts w.0 w.1 w.2 p b texts lines lo c q (L.kind t) a),
    )

-- where a session was told its work, its texts are over
pub work_over : (L : Language) (texts : List (List ℕ)) (lines : List Numbered) → Along IsShaped (items_at (place_from L start texts)) lines → AreOverAt L [] start texts lines
work_over L texts lines a = (walks L texts).0 start [] lines refl (λ m k. refl) (subst (λ z. Along IsShaped z lines) (items_todo L start texts) a)
