-- What a report tells of its history by its entry lines alone is what the log shows.
use Rattle.cluster_requests.specs.KeptEntries.{state_of}
use Rattle.std.proofs.Common.{◌≡◌, ℕ, ◌+◌, ◌-◌, ◌<◌, ◌≤◌, List, [], ◌∷◌, ◌++◌, length, arith, refl, ap, sym, ◌∙◌, length-append}
use Rattle.std.specs.Prelude.{◌==◌, Bool, true, false, Some, slice_get, option_map}
use Rattle.std.proofs.lemmas.Bool.Decides.{Decides-eqb}
use mathlib.Core.Logic.{◌⊎◌, inl, inr}
use Rattle.core_lists.specs.Lists.{In}
use Rattle.core_lists.specs.Lists.In.{here, there}
use Rattle.core_lists.specs.Fronts.{Front}
use Rattle.core_lists.proofs.Lists.{nothing}
use Rattle.core_lists.proofs.Fronts.{front_refl, front_append}
use Rattle.core_lists.proofs.Numbers.{lt_or_eq}
use Rattle.cluster_requests.specs.KeptEntries.{KeptEntry}
use Rattle.cdb_values.specs.Rows.{Rows, apply_all}
use Rattle.report_laws.specs.Work.{Transaction, WorkItem, Does, Lone}
use Rattle.cluster_events.specs.Settings.{Setting, basis_from, work_of, kept_rows_at, run_alone, line_of, changes_in, kept_entry_at, log_view}
use Rattle.cluster_events.specs.Parts.{ActorEvent}
use Rattle.cluster_events.specs.Guards.{IsLegalHistory, AreNamedApart, Rising}
use Rattle.std.specs.Prelude.{if◌then◌else◌, unwrap_or}
use Rattle.cdb_values.specs.Changes.{changes_of}
use Rattle.report_laws.specs.History.{Basis, ops_of, ops_alone, rows_after, states_of, rows_at, entry_at, changes_by, changes_at, view_of}
use Rattle.report_laws.specs.Work.{numbered_among, transaction_of}
use Rattle.report_laws.proofs.HistoryLaws.{rows_stay, rows_new, entry_stays, entry_new, changes_stay, changes_new}
use Rattle.report_text.specs.declared.reports.EntryLine.{EntryLine}
use Rattle.cluster_answers.proofs.EntryLaws.{same_rows}
use Rattle.cluster_answers.specs.Entries.{New}
use Rattle.cluster_answers.specs.Entries.{Appended}
use Rattle.cluster_answers.proofs.AgreeLaws.{get_of, get_last, Agree, agree_front}
use Rattle.cluster_answers.proofs.OutcomeLaws.{take_whole, rows_last, entry_last}
use Rattle.cluster_answers.proofs.NumberLaws.{rising_above}

pub found : (k n : ℕ) (is : List WorkItem) (t : Transaction) → Rising k is → In (Does t) is → n ≡ t.number → numbered_among n is ≡ Some t
found k n [] t r m e = absurd (nothing m)
found k n (Lone a ∷ is) t r (there m) e = found k n is t r m e
found k n (Does u ∷ is) t r here e = ap (λ z. if z then Some t else numbered_among n is) ((Decides-eqb t.number n).1 (sym e))
found k n (Does u ∷ is) t r (there m) e = go (found u.number n is t r.1 m e) (u.number == n) refl
  where
    go : numbered_among n is ≡ Some t → (b : Bool) → (u.number == n) ≡ b → (if b then Some u else numbered_among n is) ≡ Some t
    go old false q = old
    go old true q = absurd (let a = rising_above u.number is t r.1 m in let w : u.number ≡ n = (Decides-eqb u.number n).0 q in omega arith)

-- the view of the entry lines so far shows what the log so far shows, from the base on
pub record Track (G : Setting) (base : ℕ) (first : Rows) (xs : List KeptEntry) (ls : List EntryLine) : Type 0 where
  pub agree : Agree base (log_view G xs) (view_of (basis_from G base first) ls)
  pub count : base + length ls ≡ length xs

module _ (G : Setting) (far : AreNamedApart G) (h : List (ℕ × ActorEvent)) (rising : (s : ℕ) → Rising 0 (work_of G s)) (legal : IsLegalHistory G h) (base : ℕ) (first : Rows) where
  -- an entry of this run, with what the history knows of its begin
  pub record Known (xs : List KeptEntry) (e : KeptEntry) : Type 0 where
    pub new : New G h xs e
    pub low : (a : Appended G h xs e) → base ≤ a.sent.begin

  -- the operations of an entry of this run are those of its line
  its_ops : (xs : List KeptEntry) (ls : List EntryLine) (e : KeptEntry) (a : Appended G h xs e) → base ≤ a.sent.begin → base ≤ length xs → Track G base first xs ls → (k : ℕ) → k ≡ length xs + 1 → ops_of (basis_from G base first) (states_of (basis_from G base first) ls) (line_of k e) ≡ a.sent.ops
  its_ops xs ls e a low le t k at =
      let q = a.request in
      let its = ap (λ z. ops_of (basis_from G base first) (states_of (basis_from G base first) ls) z) (a.its_line k) in
      let txn : transaction_of G.language a.sent.id.session a.sent.id.txn G.script.body ≡ Some q.txn = ap (λ z. transaction_of G.language z a.sent.id.txn G.script.body) q.name ∙ found 0 a.sent.id.txn (work_of G a.sent.by) q.txn (rising a.sent.by) q.in_work q.number in
      let rows = sym (t.agree.rows a.sent.begin low q.within) ∙ sym q.is_rows in
      its ∙ (ap (λ z. ops_alone (basis_from G base first) (rows_at (basis_from G base first) ls a.sent.begin) z) txn ∙ (ap (λ (z : Rows). (run_alone G z q.txn).ops) rows ∙ sym q.ops))

  -- the rows right before it
  before_rows : (xs : List KeptEntry) (ls : List EntryLine) → base ≤ length xs → Track G base first xs ls → (k : ℕ) → k ≡ length xs + 1 → rows_at (basis_from G base first) ls (k - 1) ≡ state_of xs
  before_rows xs ls le t k at =
      let i : k - 1 ≡ length xs = omega arith in
      ap (λ z. rows_at (basis_from G base first) ls z) i ∙ (sym (t.agree.rows (length xs) le (omega arith)) ∙ ap (λ z. state_of z) (take_whole xs))

  new_rows : (xs : List KeptEntry) (ls : List EntryLine) (e : KeptEntry) → Known xs e → base ≤ length xs → Track G base first xs ls → (k : ℕ) → k ≡ length xs + 1 → state_of (xs ++ e ∷ []) ≡ rows_after (basis_from G base first) (states_of (basis_from G base first) ls) (line_of k e)
  new_rows xs ls e n le t k at = go n.new
    where
      go : New G h xs e → state_of (xs ++ e ∷ []) ≡ rows_after (basis_from G base first) (states_of (basis_from G base first) ls) (line_of k e)
      go (inl s) = s.rows' ∙ ap (λ z. rows_after (basis_from G base first) (states_of (basis_from G base first) ls) z) (sym (s.its_line k))
      go (inr a) =
          a.rows' ∙ (ap (λ (z : Rows). apply_all z a.sent.ops) (sym (before_rows xs ls le t k at)) ∙ (ap (λ z. apply_all (rows_at (basis_from G base first) ls (k - 1)) z) (sym (ap (λ z. ops_of (basis_from G base first) (states_of (basis_from G base first) ls) z) (sym (a.its_line k)) ∙ its_ops xs ls e a (n.low a) le t k at))
          ∙ ap (λ z. rows_after (basis_from G base first) (states_of (basis_from G base first) ls) z) (sym (a.its_line k))))

  new_changes : (xs : List KeptEntry) (ls : List EntryLine) (e : KeptEntry) → Known xs e → base ≤ length xs → Track G base first xs ls → (k : ℕ) → k ≡ length xs + 1 → changes_in (Some e) ≡ changes_by (basis_from G base first) (states_of (basis_from G base first) ls) (Some (line_of k e))
  new_changes xs ls e n le t k at = go n.new
    where
      go : New G h xs e → changes_in (Some e) ≡ changes_by (basis_from G base first) (states_of (basis_from G base first) ls) (Some (line_of k e))
      go (inl s) = s.changes' ∙ ap (λ z. changes_by (basis_from G base first) (states_of (basis_from G base first) ls) (Some z)) (sym (s.its_line k))
      go (inr a) =
          a.changes' ∙ (ap (λ (z : Rows). changes_of a.sent.ops z.next) (sym (before_rows xs ls le t k at)) ∙ (ap (λ z. changes_of z (rows_at (basis_from G base first) ls (k - 1)).next) (sym (ap (λ z. ops_of (basis_from G base first) (states_of (basis_from G base first) ls) z) (sym (a.its_line k)) ∙ its_ops xs ls e a (n.low a) le t k at))
          ∙ ap (λ z. changes_by (basis_from G base first) (states_of (basis_from G base first) ls) (Some z)) (sym (a.its_line k))))

  -- with an entry more
  pub track_more : (xs : List KeptEntry) (ls : List EntryLine) (e : KeptEntry) → Known xs e → base ≤ length xs → Track G base first xs ls → Track G base first (xs ++ e ∷ []) (ls ++ line_of (length xs + 1) e ∷ [])
  track_more xs ls e n le t =
      let more = length-append xs (e ∷ []) in
      let lmore = length-append ls (line_of (length xs + 1) e ∷ []) in
      let c = t.count in
      record {
        count = omega arith;
        agree = record {
          tables = refl;
          last = omega arith;
          rows = λ k lo hi. rows k lo (lt_or_eq k (length (xs ++ e ∷ [])) hi);
          entry = λ k lo hi. entry k lo (lt_or_eq k (length (xs ++ e ∷ [])) hi);
          within = λ k d lo q. (agree_front G (front_refl (xs ++ e ∷ []))).within k d (omega arith) q;
          changes = λ k lo hi. changes k lo (lt_or_eq k (length (xs ++ e ∷ [])) hi);
        };
      }
    where
      B : Basis
      B = basis_from G base first

      l : EntryLine
      l = line_of (length xs + 1) e

      now : base + length ls ≡ length xs
      now = t.count

      more : length (xs ++ e ∷ []) ≡ length xs + 1
      more = length-append xs (e ∷ [])

      rows : (k : ℕ) → base ≤ k → (k < length (xs ++ e ∷ [])) ⊎ (k ≡ length (xs ++ e ∷ [])) → kept_rows_at G (xs ++ e ∷ []) k ≡ rows_at (basis_from G base first) (ls ++ line_of (length xs + 1) e ∷ []) k
      rows k lo (inl lt) =
          let m = more in
          let c = now in
          sym (same_rows G (front_append xs (e ∷ [])) k (omega arith)) ∙ (t.agree.rows k lo (omega arith) ∙ sym (rows_stay (basis_from G base first) ls (line_of (length xs + 1) e) k (omega arith)))
      rows k lo (inr eq) =
          let m = more in
          let c = now in
          let at : k ≡ base + length ls + 1 = omega arith in
          rows_last G xs e (xs ++ e ∷ []) k (omega arith) (front_refl (xs ++ e ∷ [])) ∙ (new_rows xs ls e n le t (length xs + 1) refl ∙ (sym (rows_new (basis_from G base first) ls (line_of (length xs + 1) e)) ∙ ap (λ z. rows_at (basis_from G base first) (ls ++ line_of (length xs + 1) e ∷ []) z) (sym at)))

      entry : (k : ℕ) → base < k → (k < length (xs ++ e ∷ [])) ⊎ (k ≡ length (xs ++ e ∷ [])) → option_map (line_of k) (kept_entry_at (xs ++ e ∷ []) k) ≡ entry_at (basis_from G base first).origin (ls ++ line_of (length xs + 1) e ∷ []) k
      entry k lo (inl lt) =
          let m = more in
          let c = now in
          ap (λ z. option_map (line_of k) z) (sym (get_of (front_append xs (e ∷ [])) (k - 1) (omega arith))) ∙ (t.agree.entry k lo (omega arith) ∙ sym (entry_stays (basis_from G base first) ls (line_of (length xs + 1) e) k lo (omega arith)))
      entry k lo (inr eq) =
          let m = more in
          let c = now in
          let at : k ≡ base + length ls + 1 = omega arith in
          let at' : k ≡ length xs + 1 = omega arith in
          entry_last G xs e (xs ++ e ∷ []) k (omega arith) (front_refl (xs ++ e ∷ [])) ∙ (ap (λ z. Some (line_of z e)) at' ∙ (sym (entry_new (basis_from G base first) ls (line_of (length xs + 1) e)) ∙ ap (λ z. entry_at (basis_from G base first).origin (ls ++ line_of (length xs + 1) e ∷ []) z) (sym at)))

      changes : (k : ℕ) → base < k → (k < length (xs ++ e ∷ [])) ⊎ (k ≡ length (xs ++ e ∷ [])) → changes_in (kept_entry_at (xs ++ e ∷ []) k) ≡ changes_at (basis_from G base first) (ls ++ line_of (length xs + 1) e ∷ []) k
      changes k lo (inl lt) =
          let m = more in
          let c = now in
          ap (λ z. changes_in z) (sym (get_of (front_append xs (e ∷ [])) (k - 1) (omega arith))) ∙ (t.agree.changes k lo (omega arith) ∙ sym (changes_stay (basis_from G base first) ls (line_of (length xs + 1) e) k lo (omega arith)))
      changes k lo (inr eq) =
          let m = more in
          let c = now in
          let at : k ≡ base + length ls + 1 = omega arith in
          let i : k - 1 ≡ length xs = omega arith in
          ap (λ z. changes_in (slice_get (xs ++ e ∷ []) z)) i ∙ (ap (λ z. changes_in z) (get_last xs e) ∙ (new_changes xs ls e n le t (length xs + 1) refl ∙ (sym (changes_new (basis_from G base first) ls (line_of (length xs + 1) e)) ∙ ap (λ z. changes_at (basis_from G base first) (ls ++ line_of (length xs + 1) e ∷ []) z) (sym at))))

  -- where the run's own entries begin
  pub track_first : (xs R : List KeptEntry) → length xs ≡ base → Front xs R → first ≡ kept_rows_at G R base → Track G base first xs []
  track_first xs R at p is = record {
    count = omega arith;
    agree = record {
      tables = refl;
      last = omega arith;
      rows = λ k lo hi. here' k (omega arith);
      entry = λ k lo hi. absurd (omega arith);
      within = λ k d lo q. (agree_front G (front_refl xs)).within k d (omega arith) q;
      changes = λ k lo hi. absurd (omega arith);
    };
  }
    where
      here' : (k : ℕ) → k ≡ base → kept_rows_at G xs k ≡ rows_at (basis_from G base first) [] k
      here' k e =
          let z : base - base ≡ 0 = omega arith in
          ap (λ i. kept_rows_at G xs i) e ∙ (same_rows G p base (omega arith) ∙ (sym is ∙ (sym (ap (λ i. unwrap_or (slice_get (first ∷ []) i) first) z) ∙ ap (λ i. rows_at (basis_from G base first) [] i) (sym e))))
