-- What a report says over a view it says over each view that shows as much.
use Rattle.std.proofs.Common.{◌≡◌, ℕ, ◌+◌, ◌-◌, ◌<◌, ◌≤◌, List, [], ◌∷◌, ◌++◌, length, arith, refl, ap, sym, subst, ◌∙◌}
use Rattle.std.specs.Prelude.{zero, suc, Bool, Option, Some, None, slice_get, option_map}
use mathlib.Core.Logic.{inl, inr}
use Rattle.core_lists.specs.Fronts.{Front}
use Rattle.core_lists.specs.Fronts.Front.{front_nil, front_cons}
use Rattle.core_lists.proofs.Fronts.{front_length}
use Rattle.cluster_requests.specs.KeptEntries.{KeptEntry}
use Rattle.cdb_values.specs.Rows.{Rows, apply_all}
use Rattle.cdb_values.specs.declared.rows.RowOp.{RowOp}
use Rattle.report_laws.specs.Told.{told}
use Rattle.report_laws.specs.View.{View, touched_in, IsUntouched}
use Rattle.report_laws.specs.Work.{Transaction, WorkItem, Does, Lone, End}
use Rattle.cdb_values.specs.declared.replies.Reply.{Reply}
use Rattle.cdb_values.specs.declared.replies.Reply.TheVariants as reply
use Rattle.session_language.specs.Touched.{Used, used_at}
use Rattle.cluster_events.specs.Settings.{Setting, basis_from, run_alone, line_of, changes_in, log_view}
use Rattle.std.specs.List.{AllByRecursion}
use Rattle.cdb_values.specs.Good.{IsGood, first_broken}
use Rattle.report_laws.specs.History.{Basis}
use Rattle.report_laws.specs.Outcome.{IsEntered, IsCommitted as IsCommittedAt, IsConflict, IsDuplicate, IsRight}
use Rattle.report_laws.specs.Places.{survives}
use Rattle.report_text.specs.declared.reports.EntryLine.{EntryLine}
use Rattle.session_language.specs.Touched.{first_used}
use Rattle.node_reports.specs.Told.{IsToldAlong, IsCutShort, MayBeCut}
use Rattle.report_laws.specs.Told.{MayCut}
use Rattle.cluster_answers.proofs.EntryLaws.{same_rows}

pub get_of : {A : Type 0} {a b : List A} → Front a b → (i : ℕ) → i < length a → slice_get a i ≡ slice_get b i
get_of front_nil i lt = absurd (omega arith)
get_of (front_cons p) zero lt = refl
get_of (front_cons p) (suc i) lt = get_of p i (omega arith)

pub get_within : {A : Type 0} (a : List A) (i : ℕ) (x : A) → slice_get a i ≡ Some x → i < length a
get_within [] i x q = absurd (cc)
get_within (y ∷ a) zero x q = omega arith
get_within (y ∷ a) (suc i) x q = let r = get_within a i x q in omega arith

pub get_last : {A : Type 0} (a : List A) (x : A) → slice_get (a ++ x ∷ []) (length a) ≡ Some x
get_last [] x = refl
get_last (y ∷ a) x = get_last a x

-- what one view shows from a position on, another shows
pub record Agree (q : ℕ) (v w : View) : Type 0 where
  pub tables : v.tables ≡ w.tables
  pub last : v.last ≤ w.last
  pub rows : (k : ℕ) → q ≤ k → k ≤ v.last → v.rows k ≡ w.rows k
  pub entry : (k : ℕ) → q < k → k ≤ v.last → v.entry k ≡ w.entry k
  pub within : (k : ℕ) (e : EntryLine) → q < k → v.entry k ≡ Some e → k ≤ v.last
  pub changes : (k : ℕ) → q < k → k ≤ v.last → v.changes k ≡ w.changes k

-- two views show the same up to a position
pub record Same (q m : ℕ) (v w : View) : Type 0 where
  pub tables : v.tables ≡ w.tables
  pub changes : (k : ℕ) → q < k → k ≤ m → v.changes k ≡ w.changes k

touch_same : {q m : ℕ} {v w : View} → Same q m v w → (k : ℕ) → q < k → k ≤ m → (used : List Used) → touched_in v k used ≡ touched_in w k used
touch_same {q} {m} {v} {w} a k lo hi used = ap (λ t. first_used t (v.changes k) used) a.tables ∙ ap (λ c. first_used w.tables c used) (a.changes k lo hi)

pub untouched_same : {q m : ℕ} {v w : View} → Same q m v w → (b k : ℕ) (used : List Used) → q ≤ b → k ≤ m + 1 → IsUntouched v b k used → IsUntouched w b k used
untouched_same a b k used le hi u j lo up = sym (touch_same a j (omega arith) (omega arith) used) ∙ u j lo up

pub same_back : {q m : ℕ} {v w : View} → Same q m v w → Same q m w v
same_back a = record { tables = sym a.tables; changes = λ k lo hi. sym (a.changes k lo hi) }

pub same_up : {q m n : ℕ} {v w : View} → n ≤ m → Same q m v w → Same q n v w
same_up le a = record { tables = a.tables; changes = λ k lo hi. a.changes k lo (omega arith) }

pub same_of : {q : ℕ} {v w : View} → Agree q v w → Same q v.last v w
same_of a = record { tables = a.tables; changes = a.changes }

pub touched_same : {q m : ℕ} {v w : View} → Same q m v w → (k : ℕ) → q < k → k ≤ m → (used : List Used) (u : Used) → touched_in v k used ≡ Some u → touched_in w k used ≡ Some u
touched_same a k lo hi used u t = sym (touch_same a k lo hi used) ∙ t

pub agree_front : (G : Setting) {a b : List KeptEntry} → Front a b → Agree 0 (log_view G a) (log_view G b)
agree_front G {a} {b} p = record {
  tables = refl;
  last = front_length p;
  rows = λ k lo hi. same_rows G p k hi;
  entry = λ k lo hi. ap (λ t. option_map (line_of k) t) (get_of p (k - 1) (omega arith));
  within = λ k e lo q. at k e lo (slice_get a (k - 1)) refl q;
  changes = λ k lo hi. ap (λ t. changes_in t) (get_of p (k - 1) (omega arith));
}
  where
    at : (k : ℕ) (e : EntryLine) → 0 < k → (o : Option KeptEntry) → slice_get a (k - 1) ≡ o → option_map (line_of k) o ≡ Some e → k ≤ length a
    at k e lo None q r = absurd (cc)
    at k e lo (Some x) q r = let w = get_within a (k - 1) x q in omega arith

-- where two bases differ in their origins alone
module _ (G : Setting) (p q : ℕ) (r s : Rows) (v w : View) (a : Agree q v w) (name : List ℕ) (t : Transaction) where
  from : Basis
  from = basis_from G p r

  onto : Basis
  onto = basis_from G q s

  entered_on : (b k : ℕ) (used : List Used) → q ≤ b → IsEntered (basis_from G p r) v name t b k used → IsEntered (basis_from G q s) w name t b k used
  entered_on b k used lo e =
      let later : b < k = e.later in
      let hi : k ≤ v.last = a.within k _ (omega arith) e.stands in
      record {
        later = e.later;
        stands = sym (a.entry k (omega arith) hi) ∙ e.stands;
        untouched = untouched_same (same_of a) b k used lo (omega arith) e.untouched;
        is_good = subst (λ (rows : Rows). IsGood G.tables rows.tables) (a.rows k (omega arith) hi) e.is_good;
      }

  committed_on : (b k : ℕ) (used : List Used) (ops : List RowOp) → q ≤ b → IsCommittedAt (basis_from G p r) v name t b k used ops → IsCommittedAt (basis_from G q s) w name t b k used ops
  committed_on b k used [] lo e = e
  committed_on b k used (o ∷ os) lo e = entered_on b k used lo e

  conflict_on : (b k : ℕ) (used : List Used) (ops : List RowOp) (told : Reply) → q ≤ b → IsConflict (basis_from G p r) v b k used ops told → IsConflict (basis_from G q s) w b k used ops told
  conflict_on b k used ops told lo e =
      let later : b < k = e.later in
      let hi : k ≤ v.last = e.within in
      let le = a.last in
      record {
        has_ops = e.has_ops;
        later = e.later;
        within = omega arith;
        item = e.item;
        touched = touched_same (same_of a) k (omega arith) hi used e.item e.touched;
        untouched = untouched_same (same_of a) b k used lo (omega arith) e.untouched;
        is_told = e.is_told;
      }

  duplicate_on : (b k : ℕ) (used : List Used) (ops : List RowOp) (table key : List ℕ) → q ≤ b → IsDuplicate (basis_from G p r) v b k used ops table key → IsDuplicate (basis_from G q s) w b k used ops table key
  duplicate_on b k used ops table key lo e =
      let begun : b ≤ k = e.begun in
      let hi : k ≤ v.last = e.within in
      let le = a.last in
      record {
        has_ops = e.has_ops;
        begun = e.begun;
        within = omega arith;
        untouched = untouched_same (same_of a) b (k + 1) used lo (omega arith) e.untouched;
        breaks = ap (λ (rows : Rows). first_broken G.tables (apply_all rows ops).tables) (sym (a.rows k (omega arith) hi)) ∙ e.breaks;
      }

  pub right_on : (b : ℕ) (used : List Used) (ops : List RowOp) (o : Reply) → q ≤ b → IsRight (basis_from G p r) v name t b used ops o → IsRight (basis_from G q s) w name t b used ops o
  right_on b used ops (reply.Committed k) lo e = committed_on b k used ops lo e
  right_on b used ops (reply.ConflictGenid k table genid) lo e = conflict_on b k used ops (reply.ConflictGenid k table genid) lo e
  right_on b used ops (reply.ConflictRange k table key) lo e = conflict_on b k used ops (reply.ConflictRange k table key) lo e
  right_on b used ops (reply.Duplicate k table key) lo e = duplicate_on b k used ops table key lo e
  right_on b used ops _ lo e = e

  all_right_on : (b : ℕ) (used : List Used) (ops : List RowOp) (os : List Reply) → q ≤ b → AllByRecursion (IsRight (basis_from G p r) v name t b used ops) os → AllByRecursion (IsRight (basis_from G q s) w name t b used ops) os
  all_right_on b used ops [] lo e = tt
  all_right_on b used ops (o ∷ os) lo e = (right_on b used ops o lo e.0, all_right_on b used ops os lo e.1)

-- begins that were told stand from the new origin on
abbrev pub BeginsFrom : ℕ → List Reply → Type 0
BeginsFrom q mine = (b : ℕ) (rest : List Reply) → mine ≡ reply.Begin b ∷ rest → q ≤ b

-- what cuts a transaction short before its begin does so whatever it is
cut_first : (end : End) (ops ops' : List RowOp) (rest rest' : List Reply) (cause : Reply) → MayCut end ops [] rest cause → MayCut end ops' [] rest' cause
cut_first end ops ops' rest rest' (reply.Lost node down) k = k
cut_first end ops ops' rest rest' (reply.NoMajority up nodes) k = inl refl
cut_first end ops ops' rest rest' reply.NoMemory k = tt
cut_first end ops ops' rest rest' _ k = absurd k

cut_before : (lives : Bool) (end : End) (ops ops' : List RowOp) (rest rest' : List Reply) (cause : Reply) → MayBeCut lives end ops [] rest cause → MayBeCut lives end ops' [] rest' cause
cut_before lives end ops ops' rest rest' cause (inl k) = inl (cut_first end ops ops' rest rest' cause k)
cut_before lives end ops ops' rest rest' cause (inr k) = inr k

cut_on : (G : Setting) (p q : ℕ) (r s : Rows) (v w : View) → Agree q v w → q ≤ v.last → (name : List ℕ) (t : Transaction) (mine : List Reply) → BeginsFrom q mine → (c : IsCutShort (basis_from G p r) v name t mine) → IsCutShort (basis_from G q s) w name t mine
cut_on G p q r s v w a all name t mine from c = go c.front refl
  where
    begins : (x : Reply) (xs : List Reply) → c.front ≡ x ∷ xs → x ≡ reply.Begin c.begin
    begins x xs e = let f : x ∷ (xs ++ c.rest) ≡ reply.Begin c.begin ∷ c.ran.replies = ap (λ z. z ++ c.rest) (sym e) ∙ c.fits in cc

    go : (f : List Reply) → c.front ≡ f → IsCutShort (basis_from G q s) w name t mine
    go [] e =
        let le = a.last in
        record {
          begin = q;
          base = omega arith;
          within = omega arith;
          ran = run_alone G (w.rows q) t;
          is_ran = refl;
          front = [];
          rest = reply.Begin q ∷ (run_alone G (w.rows q) t).replies;
          fits = refl;
          cause = c.cause;
          is_cause = c.is_cause;
          may = cut_before (survives G.script name) t.end c.ran.ops _ c.rest _ c.cause (subst (λ z. MayBeCut (survives G.script name) t.end c.ran.ops z c.rest c.cause) e c.may);
          says = c.says ∙ ap (λ z. z ++ c.cause ∷ []) e;
        }
    go (x ∷ xs) e =
        let lo : q ≤ c.begin = from c.begin (xs ++ c.cause ∷ []) (c.says ∙ (ap (λ z. z ++ c.cause ∷ []) e ∙ ap (λ z. z ∷ (xs ++ c.cause ∷ [])) (begins x xs e))) in
        let hi : c.begin ≤ v.last = c.within in
        let le = a.last in
        record {
          begin = c.begin;
          base = lo;
          within = omega arith;
          ran = c.ran;
          is_ran = c.is_ran ∙ ap (λ (z : Rows). run_alone G z t) (a.rows c.begin lo hi);
          front = c.front;
          rest = c.rest;
          fits = c.fits;
          cause = c.cause;
          is_cause = c.is_cause;
          may = c.may;
          says = c.says;
        }

pub told_on : (G : Setting) (p q : ℕ) (r s : Rows) (v w : View) → Agree q v w → q ≤ v.last → (name : List ℕ) (i : WorkItem) (mine : List Reply) → BeginsFrom q mine → IsToldAlong (basis_from G p r) v name i mine → IsToldAlong (basis_from G q s) w name i mine
told_on G p q r s v w a all name (Does t) mine from (inl x) =
    let lo : q ≤ x.begin = from x.begin _ x.says in
    let hi : x.begin ≤ v.last = x.within in
    let le = a.last in
    inl (record {
      begin = x.begin;
      base = lo;
      within = omega arith;
      ran = x.ran;
      is_ran = x.is_ran ∙ ap (λ (z : Rows). run_alone G z t) (a.rows x.begin lo hi);
      last = x.last;
      ends = x.ends;
      right = all_right_on G p q r s v w a name t x.begin (used_at t.level x.ran) x.ran.ops x.last lo x.right;
      says = x.says;
    })
told_on G p q r s v w a all name (Does t) mine from (inr c) = inr (cut_on G p q r s v w a all name t mine from c)
told_on G p q r s v w a all name (Lone r') mine from e = e
