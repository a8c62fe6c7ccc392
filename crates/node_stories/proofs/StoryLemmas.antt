-- What the stories use: lines that are due.
use Rattle.std.proofs.Common.{◌≡◌, ℕ, zero, suc, ◌+◌, ◌≤◌, ◌==◌, ◌&&◌, List, [], ◌∷◌, ◌++◌, length, refl, sym, subst, ap, arith, ◌∙◌, append_assoc, None, Bool, true, false, if◌then◌else◌, ◌⊎◌, inl, inr}
use Rattle.std.specs.Prelude.{◌≢◌}
use Rattle.std.proofs.lemmas.Bool.{both_ways, true≢false, or_parts, or_from, eqb-true, eqb-false}
use Rattle.std.specs.List.{AllByRecursion, list_any}
use Rattle.session_language.specs.Each.{EachAfter, StandsIn}
use Rattle.session_language.specs.Replies.{are_up_to, is_last_of}
use Rattle.report_laws.proofs.PieceLaws.{all_at}
use Rattle.session_language.proofs.UpToLaws.{same_tail}
use Rattle.report_laws.specs.Nodes.{downs, is_up, up_from, up_count}
use Rattle.report_laws.specs.Play.{IsTimely, is_own_by}
use Rattle.report_laws.specs.Places.{survives}
use Rattle.report_text.specs.declared.reports.EntryLine.{EntryLine}
use Rattle.report_text.specs.declared.reports.Line.{Line}
use Rattle.report_text.specs.declared.reports.Line.TheVariants as line
use Rattle.cdb_values.specs.declared.replies.Reply.{Reply}
use Rattle.node_reports.specs.Arms.{of_append, of_commit, stops, is_row_due, is_last_a_down}
use Rattle.node_reports.specs.Order.{is_fault}
use Rattle.node_reports.specs.Piece.{Saying, Appends, Enters, IsDue, IsPiece, replies_in, loss_at, lacks_at, wanes_at, commits_at, site_at}

pub no_true : {P : Type 0} (b : Bool) → b ≡ false → b ≡ true → P
no_true b is e = absurd (both_ways b is e)

-- a line that is answered
pub answers : {s : Saying} {now after : ℕ} {front : List Line} {r : Reply} → loss_at s front ≡ None → ((survives s.basis.script s.session ≡ true) ⊎ (stops front ≡ 0)) → lacks_at s front ≡ false → wanes_at s front ≡ false →
    IsTimely now after r → (is_row_due s.arms s.session front && is_up (site_at s front).node (s.before ++ front)) ≡ false → (commits_at s front && is_last_a_down front) ≡ false → IsDue s now after front (line.Session s.session s.number r)
answers {s} {now} {after} {front} {r} kept unstopped lacks wanes timely due unhurt =
    (refl, refl, due, inr (inr (inr (record { kept = record { kept = kept; unstopped = unstopped }; majority = lacks; unsent = λ e. no_true (wanes_at s front) wanes e; sent = λ e. no_true (commits_at s front && is_last_a_down front) unhurt e; timely = timely }))))

-- of these lines none tells of a fault
pub no_fault : (mine front back : List Line) (count node : ℕ) → list_any is_fault mine ≡ false → mine ≡ front ++ line.Down count node true ∷ back → ⊥
no_fault mine [] back count node none is = true≢false (sym (ap (list_any is_fault) is) ∙ none)
no_fault mine (x ∷ front) back count node none is = go mine none is
  where
    go : (ls : List Line) → list_any is_fault ls ≡ false → ls ≡ x ∷ (front ++ line.Down count node true ∷ back) → ⊥
    go [] none e = cc
    go (y ∷ ls) none e = any (front) (subst (λ (t : List Line). list_any is_fault t ≡ false) (same_tail y x ls (front ++ line.Down count node true ∷ back) e) (or_parts (is_fault y) (list_any is_fault ls) none).1)
      where
        any : (xs : List Line) → list_any is_fault (xs ++ line.Down count node true ∷ back) ≡ false → ⊥
        any [] n = true≢false n
        any (z ∷ zs) n = any zs (or_parts (is_fault z) (list_any is_fault (zs ++ line.Down count node true ∷ back)) n).1

-- whether one of these lines tells that a node went down
abbrev pub falls : ℕ → Line → Bool
falls node (line.Down count other fault) = other == node
falls node (line.Session name txn answer) = false
falls node (line.Up other) = false
falls node line.Barrier = false
falls node (line.Fed position) = false

pub stays : (node : ℕ) (was : Bool) (xs : List Line) → was ≡ true → list_any (falls node) xs ≡ false → up_from node was xs ≡ true
stays node was [] up none = up
stays node was (line.Session name txn answer ∷ xs) up none = stays node was xs up none
stays node was (line.Down count other fault ∷ xs) up none = stays node (if other == node then false else was) xs (go (other == node) (or_parts (other == node) (list_any (falls node) xs) none).0) (or_parts (other == node) (list_any (falls node) xs) none).1
  where
    go : (b : Bool) → b ≡ false → (if b then false else was) ≡ true
    go true e = absurd (true≢false e)
    go false e = up
stays node was (line.Up other ∷ xs) up none = stays node (if other == node then true else was) xs (go (other == node)) none
  where
    go : (b : Bool) → (if b then true else was) ≡ true
    go true = refl
    go false = up
stays node was (line.Barrier ∷ xs) up none = stays node was xs up none
stays node was (line.Fed position ∷ xs) up none = stays node was xs up none

pub front_none : (node : ℕ) (xs ys : List Line) → list_any (falls node) (xs ++ ys) ≡ false → list_any (falls node) xs ≡ false
front_none node [] ys none = refl
front_none node (x ∷ xs) ys none = or_from (falls node x) (list_any (falls node) xs) (or_parts (falls node x) (list_any (falls node) (xs ++ ys)) none).0 (front_none node xs ys (or_parts (falls node x) (list_any (falls node) (xs ++ ys)) none).1)

counts : (n j : ℕ) (lines : List Line) → 1 ≤ j → j ≤ n → is_up j lines ≡ true → 1 ≤ up_count n lines
counts zero j lines first within up = absurd (omega (arith, first, within))
counts (suc n) j lines first within up = go (j == suc n) (eqb-true j (suc n)) (eqb-false j (suc n)) (λ less. counts n j lines first less up)
  where
    go : (c : Bool) → (c ≡ true → j ≡ suc n) → (c ≡ false → j ≡ suc n → ⊥) → (j ≤ n → 1 ≤ up_count n lines) → 1 ≤ up_count n lines + (if is_up (suc n) lines then 1 else 0)
    go true same other less = let one : is_up (suc n) lines ≡ true = ap (λ (k : ℕ). is_up k lines) (sym (same refl)) ∙ up in subst (λ (b : Bool). 1 ≤ up_count n lines + (if b then 1 else 0)) (sym one) (omega arith)
    go false same other less = let ne : j ≡ suc n → ⊥ = other refl in let some : 1 ≤ up_count n lines = less (omega (arith, within, ne)) in omega (arith, some)

-- where a node does not go down, not all do
pub never_alone : {P : Type 0} (n j : ℕ) (before mine front back : List Line) (count node : ℕ) → 1 ≤ j → j ≤ n → list_any (falls j) (before ++ mine) ≡ false →
    mine ≡ front ++ line.Down count node true ∷ back → up_count n (before ++ (front ++ line.Down count node true ∷ [])) ≡ 0 → P
never_alone n j before mine front back count node first within none is nobody =
    absurd (let some : 1 ≤ up_count n (before ++ (front ++ line.Down count node true ∷ [])) = counts n j _ first within (stays j true (before ++ (front ++ line.Down count node true ∷ [])) refl
    (front_none j (before ++ (front ++ line.Down count node true ∷ [])) back (ap (list_any (falls j)) (append_assoc before (front ++ line.Down count node true ∷ []) back ∙ ap (λ (ls : List Line). before ++ ls) (append_assoc front (line.Down count node true ∷ []) back ∙ sym is)) ∙ none))) in
    omega (arith, some, nobody))

-- a history that is not empty
pub some_entry : {P : Type 0} {E : Type 0} (e : E) (es : List E) → e ∷ es ≡ [] → P
some_entry e es is = absurd (let no_such : e ∷ es ≡ [] = is in cc)

-- a fault of these lines is of that node
abbrev pub IsFaultOf : ℕ → Line → Type 0
IsFaultOf k (line.Down count node true) = node ≡ k
IsFaultOf k (line.Down count node false) = Unit {0}
IsFaultOf k (line.Session name txn answer) = Unit {0}
IsFaultOf k (line.Up node) = Unit {0}
IsFaultOf k line.Barrier = Unit {0}
IsFaultOf k (line.Fed position) = Unit {0}

pub comes_up : (k : ℕ) (mine front back others : List Line) (count node : ℕ) → AllByRecursion (IsFaultOf k) mine → mine ≡ front ++ line.Down count node true ∷ back → StandsIn others (line.Up k) → StandsIn others (line.Up node)
comes_up k mine front back others count node all is stands = subst (λ (i : ℕ). StandsIn others (line.Up i)) (sym (all_at (IsFaultOf k) mine (line.Down count node true) all (front, back, is))) stands

-- a piece during which no arm of the commit waits
pub plain : {s : Saying} {now : ℕ} {mine others : List Line} {added : List EntryLine} → are_up_to (is_last_of (is_own_by s.kind s.pending)) (replies_in s.session mine) ≡ true → EachAfter (IsDue s now (now + length added)) [] mine → Appends s now mine others added → of_commit s.arms ≡ 0 → IsPiece s now mine others added
plain {s} {now} {mine} {others} {added} up each appended none =
    record { up_to = inl up; each = each; appended = appended; fires = inr (inl none); fired = λ told. inl none; moment = λ armed front back count node is at. absurd (omega (arith, armed, none)) }

-- one during which it fires
pub armed : {s : Saying} {now : ℕ} {mine others : List Line} {added : List EntryLine} → are_up_to (is_last_of (is_own_by s.kind s.pending)) (replies_in s.session mine) ≡ true → EachAfter (IsDue s now (now + length added)) [] mine → Appends s now mine others added → Enters s now (s.before ++ mine) → (of_append s.arms ≡ 0 → added ≢ []) → 1 ≤ stops mine → 1 ≤ downs mine → IsPiece s now mine others added
armed {s} {now} {mine} {others} {added} up each appended enters durable stopped fell =
    record { up_to = inl up; each = each; appended = appended; fires = inr (inr fell); fired = λ told. inr stopped; moment = λ waits front back count node is at. record { enters = enters; durable = durable } }
