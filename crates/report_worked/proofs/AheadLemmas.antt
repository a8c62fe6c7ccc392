-- Reports in which a decision speaks of what comes later: not in the order of play.
use Rattle.std.proofs.Common.{◌≡◌, ◌≤◌, ◌+◌, ℕ, List, [], ◌∷◌, ◌++◌, refl, sym, subst, ap, arith, codes, inl, inr, true, false, take, drop, length}
use Rattle.std.specs.List.{list_any}
use Rattle.cdb_values.specs.Changes.{genid_item}
use Rattle.cdb_values.specs.Good.{IsGood}
use Rattle.cdb_values.specs.declared.rows.Level.TheVariants.{Snapshot}
use Rattle.report_laws.specs.History.{nothing_before, rows_at, view_of, is_entry_of}
use Rattle.report_laws.specs.Lawful.{Lawful, is_heard}
use Rattle.report_laws.specs.One.{IsUncut}
use Rattle.report_laws.specs.Play.{InPlayOrder}
use Rattle.report_laws.specs.Told.{told, Along, IsTold}
use Rattle.report_laws.specs.Work.{Transaction, WorkItem, Does, transaction, WithItsLine, work}
use Rattle.report_laws.proofs.HistoryLaws.{none_stands}
use Rattle.report_laws.proofs.LineLaws.{fresh_begin}
use Rattle.report_laws.proofs.OneLaws.{one_report}
use Rattle.report_laws.proofs.PieceLaws.{all_at}
use Rattle.script_form.specs.CanRun.{script_tables}
use Rattle.session_language.specs.Language.{OtherText}
use Rattle.session_language.specs.Touched.{TheVersion}
use Rattle.report_text.specs.declared.reports.EntryLine.{EntryLine}
use Rattle.report_text.specs.declared.reports.EntryLine.TheVariants.{Setup}
use Rattle.report_text.specs.declared.reports.Line.{Line}
use Rattle.cdb_values.specs.declared.replies.Reply.{Reply}
use Rattle.cdb_values.specs.declared.replies.Reply.TheVariants as reply
use Rattle.report_text.specs.declared.reports.Report.{Report}
use Rattle.report_worked.specs.Small.{from_nothing, small_language}
use Rattle.report_worked.specs.Worked.{insert_select, two_updates, two_updates_report, two_keys, worked_table, inserted_entries, conflict}
use Rattle.report_worked.specs.WorkedWrong.{committed_ahead, conflict_ahead, duplicate_ahead}
use Rattle.report_worked.proofs.FirstTurnLemmas.{said_first, played_first}
use Rattle.report_worked.proofs.SmallLaws.{statements_answer}
use Rattle.report_worked.proofs.TwoUpdatesLemmas.{inserting, second_update, items_of_a, work_of_a, items_of_b, work_of_b, two_updates_is_lawful, two_updates_is_in_order}
use Rattle.report_worked.proofs.WorkedLemmas.{along_each, along_parts, EachPart, whole, entry_told}

none_added : (later added others : List EntryLine) → Setup 1 ∷ [] ≡ Setup 1 ∷ later → later ≡ added ++ others → length added ≡ 0
none_added later [] others all parts = refl
none_added later (e ∷ added) others all parts = absurd cc

-- a commit whose entry does not stand yet
pub committed_ahead_is_not_in_order : InPlayOrder (from_nothing insert_select) committed_ahead → ⊥
committed_ahead_is_not_in_order order =
    let p = played_first insert_select committed_ahead (codes "a") 1 (reply.Begin 1) (drop 1 committed_ahead.lines) refl order in
    let o = p.2 in
    let turn = said_first insert_select 1 1 (codes "a") OtherText o.0 o.1 (drop 3 committed_ahead.lines) o.2 (reply.Begin 1 ∷ reply.Changed 1 ∷ reply.Committed 2 ∷ []) refl refl refl o.4 o.6 in
    let committed : 2 ≤ 1 + length o.2 = turn.timely.1.1.0 in
    let none : length o.2 ≡ 0 = none_added p.0 o.2 o.3 p.1 o.5 in
    omega (arith, committed, none)

-- a duplicate at a position that comes later
abbrev first_key : Transaction
first_key = transaction 1 (codes "insert into t values(1, 1)" ∷ []) Snapshot WithItsLine

abbrev second_key : Transaction
second_key = transaction 1 (codes "insert into t values(1, 2)" ∷ []) Snapshot WithItsLine

keys_of_a : work small_language (codes "a") two_keys.body ≡ Does first_key ∷ []
keys_of_a = refl

keys_of_b : work small_language (codes "b") two_keys.body ≡ Does second_key ∷ []
keys_of_b = refl

abbrev keys_to_a : List (List Reply)
keys_to_a = (reply.Begin 1 ∷ reply.Changed 1 ∷ reply.Duplicate 2 (codes "t") (codes "pk") ∷ []) ∷ []

abbrev keys_to_b : List (List Reply)
keys_to_b = (reply.Begin 1 ∷ reply.Changed 1 ∷ reply.Committed 2 ∷ []) ∷ []

along_keys : (P : List ℕ → WorkItem → List Reply → Type 0) → EachPart (P (codes "a")) (Does first_key ∷ []) keys_to_a → EachPart (P (codes "b")) (Does second_key ∷ []) keys_to_b →
    (name : List ℕ) → Along (P name) (work small_language name two_keys.body) (told name duplicate_ahead.lines)
along_keys P of_a of_b =
    along_each P two_keys.body duplicate_ahead.lines
    (inl refl, (inr refl, tt)) (inl refl, (inl refl, (inl refl, (inr refl, (inr refl, (inr refl, tt))))))
    (subst (λ (items : List WorkItem). Along (P (codes "a")) items (told (codes "a") duplicate_ahead.lines)) (sym keys_of_a) (along_parts (P (codes "a")) (Does first_key ∷ []) keys_to_a of_a))
    (subst (λ (items : List WorkItem). Along (P (codes "b")) items (told (codes "b") duplicate_ahead.lines)) (sym keys_of_b) (along_parts (P (codes "b")) (Does second_key ∷ []) keys_to_b of_b))

good_key : IsGood (script_tables two_keys) (rows_at (from_nothing two_keys) duplicate_ahead.entries 2).tables
good_key = record {
  rows_fit = ((record { columns = (refl, (refl, tt)); size = omega arith; keys = (omega arith, tt) }, tt), tt);
  keys_kept = refl;
}

heard_by_none : (mark : Line) → is_heard (codes "b") mark ≡ false → is_heard (codes "b") mark ≡ true → ⊥
heard_by_none mark unheard heard = cc

pub duplicate_ahead_is_lawful : Lawful (from_nothing two_keys) duplicate_ahead
duplicate_ahead_is_lawful = record {
  replies = along_keys (IsTold (from_nothing two_keys) (view_of (from_nothing two_keys) duplicate_ahead.entries))
      (whole 1 (reply.Duplicate 2 (codes "t") (codes "pk")) (omega arith) (omega arith) tt (record { has_ops = λ is. cc; begun = omega arith; within = omega arith; untouched = λ j after before. refl; breaks = refl }) refl, tt)
      (whole 1 (reply.Committed 2) (omega arith) (omega arith) tt (record { later = omega arith; stands = refl; untouched = λ j after before. absurd (omega (arith, after, before)); is_good = good_key }) refl, tt);
  begins = (
    fresh_begin (nothing_before (worked_table ∷ [])) _ (codes "a") 1 (omega arith) (omega arith) tt,
    (
      tt,
      (
        tt,
        (
          record {
            first = omega arith;
            base = omega arith;
            heard = λ front mark back is heard. absurd (heard_by_none mark (all_at (λ (l : Line). is_heard (codes "b") l ≡ false) (take 3 duplicate_ahead.lines) mark (refl, (refl, (refl, tt))) (front, back, is)) heard);
          },
          (tt, (tt, tt)),
        ),
      ),
    ),
  );
  history = (
    (refl, refl, refl),
    (
      record {
        placed = refl;
        once = none_stands (from_nothing two_keys).origin (Setup 1 ∷ []) (codes "b") 1 (refl, tt);
        begun = (omega arith, omega arith, omega arith);
        transaction = second_key;
        is_its = refl;
        is_level = refl;
        ran = _;
        is_ran = refl;
        has_ops = λ is. cc;
        untouched = λ j after before. absurd (omega (arith, after, before));
        is_good = good_key;
      },
      tt,
    ),
  );
  answered = (tt, (entry_told second_key [] [] refl (omega arith) refl, tt));
  places = (tt, (tt, (tt, (tt, (tt, (tt, tt))))));
  feeds = refl;
  base = refl;
  end = refl;
}

pub duplicate_ahead_is_not_in_order : InPlayOrder (from_nothing two_keys) duplicate_ahead → ⊥
duplicate_ahead_is_not_in_order order =
    let p = played_first two_keys duplicate_ahead (codes "a") 1 (reply.Begin 1) (drop 1 duplicate_ahead.lines) refl order in
    let o = p.2 in
    let turn = said_first two_keys 1 1 (codes "a") OtherText o.0 o.1 (drop 3 duplicate_ahead.lines) o.2 (reply.Begin 1 ∷ reply.Changed 1 ∷ reply.Duplicate 2 (codes "t") (codes "pk") ∷ []) refl refl refl o.4 o.6 in
    let last : 2 ≡ 1 = turn.timely.1.1.0 in
    omega (arith, last)

-- a conflict with an entry that comes later
abbrev ahead_of_a : List (List Reply)
ahead_of_a = (reply.Begin 1 ∷ reply.Changed 1 ∷ reply.Committed 2 ∷ []) ∷ (reply.Begin 2 ∷ reply.Changed 1 ∷ conflict ∷ []) ∷ []

abbrev ahead_of_b : List (List Reply)
ahead_of_b = (reply.Begin 2 ∷ reply.Changed 1 ∷ reply.Committed 3 ∷ []) ∷ []

along_ahead : (P : List ℕ → WorkItem → List Reply → Type 0) → EachPart (P (codes "a")) items_of_a ahead_of_a → EachPart (P (codes "b")) items_of_b ahead_of_b →
    (name : List ℕ) → Along (P name) (work small_language name two_updates.body) (told name conflict_ahead.lines)
along_ahead P of_a of_b =
    along_each P two_updates.body conflict_ahead.lines
    (inl refl, (inl refl, (inr refl, (inl refl, (inr refl, (inl refl, (inr refl, tt)))))))
    (inl refl, (inl refl, (inl refl, (inl refl, (inr refl, (inl refl, (inr refl, (inl refl, (inr refl, tt)))))))))
    (subst (λ (items : List WorkItem). Along (P (codes "a")) items (told (codes "a") conflict_ahead.lines)) (sym work_of_a) (along_parts (P (codes "a")) items_of_a ahead_of_a of_a))
    (subst (λ (items : List WorkItem). Along (P (codes "b")) items (told (codes "b") conflict_ahead.lines)) (sym work_of_b) (along_parts (P (codes "b")) items_of_b ahead_of_b of_b))

ahead_at_2 : IsGood (script_tables two_updates) (rows_at (from_nothing two_updates) conflict_ahead.entries 2).tables
ahead_at_2 = record {
  rows_fit = ((record { columns = (refl, (refl, tt)); size = omega arith; keys = (omega arith, tt) }, tt), tt);
  keys_kept = refl;
}

ahead_at_3 : IsGood (script_tables two_updates) (rows_at (from_nothing two_updates) conflict_ahead.entries 3).tables
ahead_at_3 = record {
  rows_fit = ((record { columns = (refl, (refl, tt)); size = omega arith; keys = (omega arith, tt) }, tt), tt);
  keys_kept = refl;
}

pub conflict_ahead_is_lawful : Lawful (from_nothing two_updates) conflict_ahead
conflict_ahead_is_lawful = record {
  replies = along_ahead (IsTold (from_nothing two_updates) (view_of (from_nothing two_updates) conflict_ahead.entries)) (
    whole 1 (reply.Committed 2) (omega arith) (omega arith) tt (record { later = omega arith; stands = refl; untouched = λ j after before. absurd (omega (arith, after, before)); is_good = ahead_at_2 }) refl,
    (whole 2 conflict (omega arith) (omega arith) tt (record { has_ops = λ is. cc; later = omega arith; within = omega arith; item = TheVersion (genid_item 0 1); touched = refl; untouched = λ j after before. absurd (omega (arith, after, before)); is_told = refl }) refl, tt),
  ) (whole 2 (reply.Committed 3) (omega arith) (omega arith) tt (record { later = omega arith; stands = refl; untouched = λ j after before. absurd (omega (arith, after, before)); is_good = ahead_at_3 }) refl, tt);
  begins = two_updates_is_lawful.begins;
  history = (
    two_updates_is_lawful.history.0,
    (
      two_updates_is_lawful.history.1.0,
      (
        record {
          placed = refl;
          once = none_stands (from_nothing two_updates).origin (inserted_entries) (codes "b") 1 (refl, (refl, tt));
          begun = (omega arith, omega arith, omega arith);
          transaction = second_update;
          is_its = refl;
          is_level = refl;
          ran = _;
          is_ran = refl;
          has_ops = λ is. cc;
          untouched = λ j after before. absurd (omega (arith, after, before));
          is_good = ahead_at_3;
        },
        tt,
      ),
    ),
  );
  answered = (tt, (entry_told inserting [] (drop 3 (told (codes "a") conflict_ahead.lines)) refl (omega arith) refl, (entry_told second_update [] [] refl (omega arith) refl, tt)));
  places = (tt, (tt, (tt, (tt, (tt, (tt, (tt, (tt, (tt, tt)))))))));
  feeds = refl;
  base = refl;
  end = refl;
}

first_uncut : IsUncut two_updates_report
first_uncut = (refl, (refl, (refl, (refl, (refl, (refl, (refl, (refl, (refl, tt)))))))))

ahead_uncut : IsUncut conflict_ahead
ahead_uncut = (refl, (refl, (refl, (refl, (refl, (refl, (refl, (refl, (refl, tt)))))))))

-- the script has one report, which is another
pub conflict_ahead_is_not_in_order : InPlayOrder (from_nothing two_updates) conflict_ahead → ⊥
conflict_ahead_is_not_in_order order =
    let same : two_updates_report ≡ conflict_ahead =
    one_report (from_nothing two_updates) two_updates_report conflict_ahead statements_answer
    two_updates_is_lawful two_updates_is_in_order first_uncut conflict_ahead_is_lawful order ahead_uncut in
    let entered : false ≡ true = ap (λ (r : Report). list_any (is_entry_of (codes "b") 1) r.entries) same in
    cc
