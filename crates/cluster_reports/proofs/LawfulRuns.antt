-- The report of a finished history is lawful.
use Rattle.cluster_requests.specs.KeptEntries.{state_of}
use Rattle.std.proofs.Common.{◌≡◌, ℕ, ◌+◌, ◌-◌, ◌<◌, ◌≤◌, List, [], ◌∷◌, ◌++◌, length, take, arith, refl, ap, sym, subst, ◌∙◌, length-append}
use Rattle.std.specs.Prelude.{◌==◌, zero, suc, Bool, true, false, Option, Some, None, slice_get, option_map}
use Rattle.std.specs.Str.{bytes_eq}
use Rattle.std.proofs.lemmas.Bool.Decides.{Decides-eqb}
use mathlib.Core.Logic.{◌⊎◌, inl, inr}
use Rattle.core_lists.specs.Lists.{Each}
use Rattle.core_lists.specs.Lists.In.{here, there}
use Rattle.core_lists.specs.Fronts.{Front}
use Rattle.core_lists.specs.Fronts.Front.{front_nil, front_cons}
use Rattle.core_lists.proofs.Lists.{each_add, each_none}
use Rattle.core_lists.proofs.Fronts.{front_trans, front_length, front_append, take_length, front_rest}
use Rattle.cluster_consensus.specs.Facts.{Claim}
use Rattle.cluster_masters.specs.FirstMaster.{IsFirstMaster}
use Rattle.cluster_masters.specs.Reported.{IsReported}
use Rattle.cluster_requests.specs.KeptEntries.{KeptEntry}
use Rattle.cdb_values.specs.Rows.{Rows, no_rows, apply_all}
use Rattle.report_laws.specs.Lawful.{IsFreshLine}
use Rattle.report_laws.specs.Told.{told, Numbered, numbered, Along}
use Rattle.report_laws.specs.View.{IsUntouched}
use Rattle.report_laws.specs.Work.{WorkItem, number_of}
use Rattle.report_text.specs.declared.reports.Line.{Line}
use Rattle.report_text.specs.declared.reports.Line.TheVariants as line
use Rattle.cdb_values.specs.declared.replies.Reply.{Reply}
use Rattle.cdb_values.specs.declared.replies.Reply.TheVariants as reply
use Rattle.session_language.specs.Each.{EachAfter}
use Rattle.session_language.specs.Touched.{used_at}
use Rattle.cluster_events.specs.Settings.{Setting, basis, basis_from, work_of, kept_rows_at, run_alone, line_of, log_view}
use Rattle.cluster_events.specs.Parts.{ActorEvent, Part, part, field, lines_by, lines}
use Rattle.cluster_events.specs.Guards.{IsLegalHistory, IsDone}
use Rattle.std.specs.Prelude.{◌&&◌, if◌then◌else◌}
use Rattle.std.specs.List.{AllByRecursion}
use Rattle.std.proofs.lemmas.Slice.Eq.{bytes_eq-Decides}
use Rattle.cdb_values.specs.Good.{IsGood}
use Rattle.cluster_masters.proofs.MasterLaws.{reported_has}
use Rattle.report_laws.specs.History.{Origin, Basis, IsEntryAfter, is_entry_of, last_position, rows_at, entry_at as told_at, view_of}
use Rattle.report_laws.specs.Lawful.{IsFreshAnswer, base_line}
use Rattle.report_laws.specs.Work.{work, transaction_of}
use Rattle.report_laws.proofs.OutcomeLemmas.{entry_within}
use Rattle.report_text.specs.declared.reports.EntryLine.{EntryLine}
use Rattle.report_text.specs.declared.reports.EntryLine.TheVariants as entries
use Rattle.report_text.specs.declared.reports.Report.{Report}
use Rattle.cluster_reports.specs.Runs.{FitsScript, lines_from}
use Rattle.node_reports.specs.Told.{IsToldAlong, IsHeard}
use Rattle.cluster_reports.specs.Lawful.{IsLawfulBesideOperator}
use Rattle.cluster_events.proofs.LineLists.{append_assoc, append_nil, told_append}
use Rattle.cluster_events.proofs.OwnLines.{other_told}
use Rattle.cluster_events.proofs.HistoryLaws.{good_of, begins_of}
use Rattle.cluster_answers.proofs.BeginLaws.{base_below, begins_fresh}
use Rattle.cluster_answers.proofs.EntryLaws.{sends_ok}
use Rattle.cluster_answers.specs.Entries.{New}
use Rattle.cluster_answers.specs.Entries.{SetUp}
use Rattle.cluster_answers.specs.Entries.{Appended}
use Rattle.cluster_answers.proofs.AgreeLaws.{get_within, Agree, same_of, untouched_same, BeginsFrom, told_on}
use Rattle.cluster_answers.proofs.OutcomeLaws.{some_same, take_whole}
use Rattle.cluster_answers.proofs.ToldLaws.{replies_right}
use Rattle.cluster_reports.proofs.BeyondLaws.{beyond_base, one_id}
use Rattle.cluster_reports.proofs.TrackLaws.{found, Known, Track, track_more, track_first}
use Rattle.cluster_reports.proofs.EntriesTold.{entries_told}
use Rattle.cluster_events.proofs.LinePlaces.{lines_placed}

-- no line is told to a name that no actor has
none_told_by : (G : Setting) (name : List ℕ) → ((i : ℕ) → bytes_eq (G.names i) name ≡ false) → (before : List Line) (p : Part) (i : ℕ) (e : ActorEvent) → told name (lines_by G before p i e) ≡ []
none_told_by G name other before p i e = other_told G name i (other i) before p e

pub none_told : (G : Setting) (name : List ℕ) → ((i : ℕ) → bytes_eq (G.names i) name ≡ false) → (h : List (ℕ × ActorEvent)) → told name (lines G h) ≡ []
none_told G name other [] = refl
none_told G name other (x ∷ h) = told_append name (lines G h) (lines_by G (lines G h) (part G x.0 h) x.0 x.1) ∙ (ap (λ z. z ++ told name (lines_by G (lines G h) (part G x.0 h) x.0 x.1)) (none_told G name other h) ∙ none_told_by G name other (lines G h) (part G x.0 h) x.0 x.1)

-- a reply that is a begin stands from the base on
abbrev pub Low : ℕ → Reply → Type 0
Low base (reply.Begin b) = base ≤ b
Low base _ = Unit {0}

abbrev pub LowLine : ℕ → Line → Type 0
LowLine base (line.Session name t r) = Low base r
LowLine base _ = Unit {0}

fresh_low : (origin : Origin) (before : List Line) (l : Line) → IsFreshLine origin before l → LowLine origin.position l
fresh_low origin before (line.Session name t r) k = of_reply r k
  where
    of_reply : (r : Reply) → IsFreshAnswer origin before name r → Low origin.position r
    of_reply (reply.Begin b) k = k.base
    of_reply _ k = tt
fresh_low origin before _ k = tt

pub all_low : (origin : Origin) (before ls : List Line) → EachAfter (IsFreshLine origin) before ls → Each (LowLine origin.position) ls
all_low origin before [] k = each_none
all_low origin before (l ∷ ls) k = each_add (fresh_low origin before l k.0) (all_low origin (before ++ l ∷ []) ls k.1)

pub told_low : (base : ℕ) (name : List ℕ) (ls : List Line) → Each (LowLine base) ls → Each (λ x. Low base x.1) (told name ls)
told_low base name [] k = each_none
told_low base name (line.Session session t r ∷ ls) k = go (bytes_eq session name) (told_low base name ls (record { at = λ y m. k.at y (there m) }))
  where
    go : (b : Bool) → Each (λ (x : Numbered). Low base x.1) (told name ls) → Each (λ (x : Numbered). Low base x.1) ((if b then (t, r) ∷ [] else []) ++ told name ls)
    go true rest = each_add (k.at (line.Session session t r) here) rest
    go false rest = rest
told_low base name (line.Down c n f ∷ ls) k = told_low base name ls (record { at = λ y m. k.at y (there m) })
told_low base name (line.Up n ∷ ls) k = told_low base name ls (record { at = λ y m. k.at y (there m) })
told_low base name (line.Barrier ∷ ls) k = told_low base name ls (record { at = λ y m. k.at y (there m) })
told_low base name (line.Fed d ∷ ls) k = told_low base name ls (record { at = λ y m. k.at y (there m) })

begins_low : (base n : ℕ) (mine : List Reply) → Each (λ (x : Numbered). Low base x.1) (numbered n mine) → BeginsFrom base mine
begins_low base n mine k b rest e = (subst (λ z. Each (λ (x : Numbered). Low base x.1) (numbered n z)) e k).at (n, reply.Begin b) here

each_left : {A : Type 0} {P : A → Type 0} (xs ys : List A) → Each P (xs ++ ys) → Each P xs
each_left [] ys k = each_none
each_left (x ∷ xs) ys k = each_add (k.at x here) (each_left xs ys (record { at = λ y m. k.at y (there m) }))

each_right : {A : Type 0} {P : A → Type 0} (xs ys : List A) → Each P (xs ++ ys) → Each P ys
each_right [] ys k = k
each_right (x ∷ xs) ys k = each_right xs ys (record { at = λ y m. k.at y (there m) })

pub along_low : (P Q : WorkItem → List Reply → Type 0) (base : ℕ) → ((i : WorkItem) (m : List Reply) → BeginsFrom base m → P i m → Q i m) → (items : List WorkItem) (ls : List Numbered) → Each (λ x. Low base x.1) ls → Along P items ls → Along Q items ls
along_low P Q base f [] ls k a = a
along_low P Q base f (i ∷ items) ls k a =
    let whole = subst (λ z. Each (λ (x : Numbered). Low base x.1) z) a.2 k in
    (a.0, a.1, a.2, f i a.0 (begins_low base (number_of i) a.0 (each_left (numbered (number_of i) a.0) a.1 whole)) a.3, along_low P Q base f items a.1 (each_right (numbered (number_of i) a.0) a.1 whole) a.4)

taken_front : (xs : List KeptEntry) (i : ℕ) (y : KeptEntry) → slice_get xs i ≡ Some y → Front (take i xs ++ y ∷ []) xs
taken_front [] i y g = absurd (cc)
taken_front (x ∷ xs) zero y g = subst (λ z. Front (z ∷ []) (x ∷ xs)) (some_same g) (front_cons front_nil)
taken_front (x ∷ xs) (suc i) y g = front_cons (taken_front xs i y g)

module _ (G : Setting) (fits : FitsScript G) (h : List (ℕ × ActorEvent)) (legal : IsLegalHistory G h) (done : (s : ℕ) → IsDone G h s) (r : ℕ) (top : IsReported G.nodes (field h).core r) (m : ℕ) (a : Claim KeptEntry) (first : IsFirstMaster G.nodes (field h).core m a) where
  abbrev R : List KeptEntry
  R = ((field h).core.nodes r).log

  abbrev base : ℕ
  base = length a.log

  abbrev B : Basis
  B = basis_from G (length a.log) (kept_rows_at G ((field h).core.nodes r).log (length a.log))

  pub begins' : Front a.log R
  begins' = reported_has (good_of G h legal).inv r top a.gen a.log first.durable

  known : (xs : List KeptEntry) (e : KeptEntry) → Front (xs ++ e ∷ []) R → base ≤ length xs → Known G fits.apart h fits.rising legal (length a.log) (kept_rows_at G ((field h).core.nodes r).log (length a.log)) xs e
  known xs e p le = record {
    new = beyond_base G h legal r top m a first xs e p le;
    low = λ x. base_below G h legal m a first x.sent.begin x.sent.id.began ((sends_ok G h legal).at x.sent x.mem).pinged;
  }

  -- an entry of a log before this one is none of this transaction
  once : (xs : List KeptEntry) (ls : List EntryLine) (e : KeptEntry) → Front (xs ++ e ∷ []) R → base ≤ length xs → Track G base (kept_rows_at G R base) xs ls → (x : Appended G h xs e) → (k : ℕ) (d : EntryLine) → base < k → told_at B.origin ls k ≡ Some d → is_entry_of x.sent.id.session x.sent.id.txn d ≡ false
  once xs ls e p le t x k d lo q =
      let c = t.count in
      let hi : k ≤ base + length ls = entry_within B.origin ls d k q in
      let is = t.agree.entry k lo (omega arith) ∙ q in
      at (slice_get xs (k - 1)) refl is
    where
      whole : (y : KeptEntry) → slice_get xs (k - 1) ≡ Some y → Front (take (k - 1) xs ++ y ∷ []) xs
      whole y g = taken_front xs (k - 1) y g

      line_none : (y : KeptEntry) → New G h (take (k - 1) xs) y → Front (take (k - 1) xs ++ y ∷ []) xs → line_of k y ≡ d → is_entry_of x.sent.id.session x.sent.id.txn d ≡ false
      line_none y (inl s) f g = subst (λ z. is_entry_of x.sent.id.session x.sent.id.txn z ≡ false) (sym (s.its_line k) ∙ g) refl
      line_none y (inr u) f g = subst (λ z. is_entry_of x.sent.id.session x.sent.id.txn z ≡ false) (sym (u.its_line k) ∙ g) (go (bytes_eq u.sent.id.session x.sent.id.session) refl (u.sent.id.txn == x.sent.id.txn) refl)
        where
          go : (b : Bool) → bytes_eq u.sent.id.session x.sent.id.session ≡ b → (c : Bool) → (u.sent.id.txn == x.sent.id.txn) ≡ c → (bytes_eq u.sent.id.session x.sent.id.session && (u.sent.id.txn == x.sent.id.txn)) ≡ false
          go false q c w = ap (λ z. z && (u.sent.id.txn == x.sent.id.txn)) q
          go true q false w = ap (λ z. z && (u.sent.id.txn == x.sent.id.txn)) q ∙ w
          go true q true w = absurd (x.lacks (take (k - 1) xs) y f (u.its_id ∙ ap (λ z. Some z) (one_id G fits.apart h fits.rising legal u.sent x.sent u.mem x.mem ((bytes_eq-Decides u.sent.id.session x.sent.id.session).0 q) ((Decides-eqb u.sent.id.txn x.sent.id.txn).0 w))))

      at : (o : Option KeptEntry) → slice_get xs (k - 1) ≡ o → option_map (line_of k) o ≡ Some d → is_entry_of x.sent.id.session x.sent.id.txn d ≡ false
      at None g i = absurd (cc)
      at (Some y) g i =
          let f = whole y g in
          let w = get_within xs (k - 1) y g in
          let tl = take_length (k - 1) xs (omega arith) in
          let px = front_trans (front_append xs (e ∷ [])) p in
          line_none y (beyond_base G h legal r top m a first (take (k - 1) xs) y (front_trans f px) (omega arith)) f (some_same i)

  entry_right : (xs : List KeptEntry) (ls : List EntryLine) (e : KeptEntry) → Front (xs ++ e ∷ []) R → base ≤ length xs → Track G base (kept_rows_at G R base) xs ls → IsEntryAfter B ls (line_of (length xs + 1) e)
  entry_right xs ls e p le t = go (known xs e p le).new
    where
      c : base + length ls ≡ length xs
      c = t.count

      setup : SetUp G xs e → IsEntryAfter B ls (entries.Setup (length xs + 1))
      setup s =
          let z : length xs ≡ 0 = ap (λ y. length y) s.none in
          let c' = c in
          (empty ls (omega arith), omega arith, omega arith)
        where
          empty : (ls : List EntryLine) → length ls ≡ 0 → ls ≡ []
          empty [] e = refl
          empty (y ∷ ys) e = absurd (omega arith)

      commit : (x : Appended G h xs e) → IsEntryAfter B ls (entries.Commit (length xs + 1) x.sent.id.session x.sent.id.txn x.sent.begin x.sent.level)
      commit x =
          let q = x.request in
          let low = (known xs e p le).low x in
          let b = begins_of G h legal x.sent.begin x.sent.id.began ((sends_ok G h legal).at x.sent x.mem).pinged in
          let f1 = b.first in
          let w = q.within in
          let c' = c in
          record {
            placed = omega arith;
            once = λ k d lo s. once xs ls e p le t x k d lo s;
            begun = (omega arith, omega arith, omega arith);
            transaction = q.txn;
            is_its = ap (λ z. transaction_of G.language z x.sent.id.txn G.script.body) q.name ∙ found 0 x.sent.id.txn (work_of G x.sent.by) q.txn (fits.rising x.sent.by) q.in_work q.number;
            is_level = q.level;
            ran = run_alone G q.rows q.txn;
            is_ran = ap (λ (z : Rows). run_alone G z q.txn) (q.is_rows ∙ t.agree.rows x.sent.begin low q.within);
            has_ops = λ z. q.has_ops (q.ops ∙ z);
            untouched = subst (λ z. IsUntouched (view_of B ls) x.sent.begin (length xs + 1) z) (q.used ∙ ap (λ z. used_at z (run_alone G q.rows q.txn)) (sym q.level)) (untouched_same (same_of t.agree) x.sent.begin (length xs + 1) x.sent.used low (omega arith) x.untouched);
            is_good = subst (λ z. IsGood G.tables (apply_all (rows_at B ls (last_position B.origin ls)) z).tables) q.ops (subst (λ (z : Rows). IsGood G.tables (apply_all z x.sent.ops).tables) (sym (ap (λ z. state_of z) (take_whole xs)) ∙ (t.agree.rows (length xs) le (omega arith) ∙ ap (λ z. rows_at B ls z) (sym c))) x.good');
          }

      go : New G h xs e → IsEntryAfter B ls (line_of (length xs + 1) e)
      go (inl s) = subst (λ z. IsEntryAfter B ls z) (sym (s.its_line (length xs + 1))) (setup s)
      go (inr x) = subst (λ z. IsEntryAfter B ls z) (sym (x.its_line (length xs + 1))) (commit x)

  tracks : (xs es : List KeptEntry) (ls : List EntryLine) → xs ++ es ≡ R → base ≤ length xs → Track G base (kept_rows_at G R base) xs ls → EachAfter (IsEntryAfter B) ls (lines_from (length xs + 1) es) × Track G base (kept_rows_at G R base) R (ls ++ lines_from (length xs + 1) es)
  tracks xs [] ls q le t = (tt, subst (λ z. Track G base (kept_rows_at G R base) R z) (sym (append_nil ls)) (subst (λ z. Track G base (kept_rows_at G R base) z ls) (sym (append_nil xs) ∙ q) t))
  tracks xs (e ∷ es) ls q le t =
      let whole = append_assoc xs (e ∷ []) es ∙ q in
      let p : Front (xs ++ e ∷ []) R = subst (λ z. Front (xs ++ e ∷ []) z) whole (front_append (xs ++ e ∷ []) es) in
      let n = length-append xs (e ∷ []) in
      let n' : length (xs ++ e ∷ []) ≡ length xs + 1 = n in
      let more = track_more G fits.apart h fits.rising legal base (kept_rows_at G R base) xs ls e (known xs e p le) le t in
      let rest = tracks (xs ++ e ∷ []) es (ls ++ line_of (length xs + 1) e ∷ []) whole (omega arith) more in (
        (entry_right xs ls e p le t, subst (λ z. EachAfter (IsEntryAfter B) (ls ++ line_of (length xs + 1) e ∷ []) (lines_from (z + 1) es)) n' rest.0),
        subst (λ z. Track G base (kept_rows_at G R base) R z) (append_assoc ls (line_of (length xs + 1) e ∷ []) (lines_from (length xs + 1 + 1) es)) (subst (λ z. Track G base (kept_rows_at G R base) R ((ls ++ line_of (length xs + 1) e ∷ []) ++ lines_from (z + 1) es)) n' rest.1),
      )

  abbrev own : List KeptEntry
  own = (front_rest begins').0

  abbrev told_entries : List EntryLine
  told_entries = lines_from (length a.log + 1) own

  history : EachAfter (IsEntryAfter B) [] told_entries × Track G base (kept_rows_at G R base) R told_entries
  history = tracks a.log own [] (front_rest begins').1 (omega arith) (track_first G fits.apart h fits.rising legal base (kept_rows_at G R base) a.log R refl begins' refl)

  abbrev pub report : Report
  report = record { lines = lines G h; base = base_line base; entries = told_entries; feeds = []; end = length R }

  agree : Agree base (log_view G R) (view_of B told_entries)
  agree = history.1.agree

  fresh : EachAfter (IsFreshLine B.origin) [] (lines G h)
  fresh = begins_fresh G fits.apart h m a (kept_rows_at G R base) legal first

  of_session : (s : ℕ) → Along (IsToldAlong B (view_of B told_entries) (G.names s)) (work_of G s) (told (G.names s) (lines G h))
  of_session s = along_low (IsToldAlong (basis G) (log_view G R) (G.names s)) (IsToldAlong B (view_of B told_entries) (G.names s)) base (λ i mine low k. told_on G 0 base (no_rows []) (kept_rows_at G R base) (log_view G R) (view_of B told_entries) agree (front_length begins') (G.names s) i mine low k) (work_of G s) (told (G.names s) (lines G h)) (told_low base (G.names s) (lines G h) (all_low B.origin [] (lines G h) fresh)) (replies_right G fits.apart h r s (fits.rising s) legal top (done s))

  of_name : (name : List ℕ) → Along (IsToldAlong B (view_of B told_entries) name) (work G.language name G.script.body) (told name (lines G h))
  of_name name = go (fits.covers name)
    where
      go : ((s : ℕ) × (G.names s ≡ name)) ⊎ ((work G.language name G.script.body ≡ []) × ((i : ℕ) → bytes_eq (G.names i) name ≡ false)) → Along (IsToldAlong B (view_of B told_entries) name) (work G.language name G.script.body) (told name (lines G h))
      go (inl s) = subst (λ z. Along (IsToldAlong B (view_of B told_entries) z) (work G.language z G.script.body) (told z (lines G h))) s.1 (of_session s.0)
      go (inr n) = subst (λ z. Along (IsToldAlong B (view_of B told_entries) name) z (told name (lines G h))) (sym n.0) (none_told G name n.1 h)

  entry_told : (xs : List KeptEntry) (e : KeptEntry) → Front (xs ++ e ∷ []) R → base ≤ length xs → IsHeard B (view_of B told_entries) (lines G h) (line_of (length xs + 1) e)
  entry_told xs e p le = go (known xs e p le).new
    where
      commit : (x : Appended G h xs e) → IsHeard B (view_of B told_entries) (lines G h) (entries.Commit (length xs + 1) x.sent.id.session x.sent.id.txn x.sent.begin x.sent.level)
      commit x =
          let k = entries_told G fits.apart h r m a fits.rising legal done top first xs e p x in
          let q = x.request in
          let low = (known xs e p le).low x in
          let w = q.within in
          let lp = front_length p in
          let n = length-append xs (e ∷ []) in
          let la = agree.last in
          record {
            transaction = k.txn;
            is_its = ap (λ z. transaction_of G.language z x.sent.id.txn G.script.body) q.name ∙ found 0 x.sent.id.txn (work_of G x.sent.by) k.txn (fits.rising x.sent.by) k.in_work k.number;
            within = omega arith;
            ran = run_alone G (kept_rows_at G R x.sent.begin) k.txn;
            is_ran = ap (λ (z : Rows). run_alone G z k.txn) (agree.rows x.sent.begin low (omega arith));
            outcome = k.outcome;
            ends = k.ends;
            before = k.front;
            after = k.back;
            says = ap (λ z. told z (lines G h)) q.name ∙ (k.says ∙ ap (λ z. k.front ++ (numbered z (reply.Begin x.sent.begin ∷ ((run_alone G (kept_rows_at G R x.sent.begin) k.txn).replies ++ k.outcome ∷ [])) ++ k.back)) (sym k.number));
          }

      go : New G h xs e → IsHeard B (view_of B told_entries) (lines G h) (line_of (length xs + 1) e)
      go (inl s) = subst (λ z. IsHeard B (view_of B told_entries) (lines G h) z) (sym (s.its_line (length xs + 1))) tt
      go (inr x) = subst (λ z. IsHeard B (view_of B told_entries) (lines G h) z) (sym (x.its_line (length xs + 1))) (commit x)

  all_told : (xs es : List KeptEntry) → xs ++ es ≡ R → base ≤ length xs → AllByRecursion (IsHeard B (view_of B told_entries) (lines G h)) (lines_from (length xs + 1) es)
  all_told xs [] q le = tt
  all_told xs (e ∷ es) q le =
      let whole = append_assoc xs (e ∷ []) es ∙ q in
      let p : Front (xs ++ e ∷ []) R = subst (λ z. Front (xs ++ e ∷ []) z) whole (front_append (xs ++ e ∷ []) es) in
      let n' : length (xs ++ e ∷ []) ≡ length xs + 1 = length-append xs (e ∷ []) in
      (entry_told xs e p le, subst (λ z. AllByRecursion (IsHeard B (view_of B told_entries) (lines G h)) (lines_from (z + 1) es)) n' (all_told (xs ++ e ∷ []) es whole (omega arith)))

  pub lawful : IsLawfulBesideOperator B report
  lawful = record {
    replies = of_name;
    begins = fresh;
    history = history.0;
    answered = all_told a.log own (front_rest begins').1 (omega arith);
    places = lines_placed G fits.nodes h legal;
    base = refl;
    end = sym history.1.count;
  }
