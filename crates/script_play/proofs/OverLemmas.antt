-- Which transactions of a session stand in the log: those that are over. So none has the identity of one that is to be decided.
use Rattle.std.proofs.Common.{◌≡◌, zero, suc, ℕ, ◌+◌, ◌-◌, ◌<◌, ◌++◌, List, [], ◌∷◌, length, sym, subst, ap, arith, Option, Some, None, ◌⊎◌, inl, inr, ◌∙◌}
use Rattle.std.specs.List.{AllByRecursion}
use Rattle.std.specs.Prelude.{slice_get}
use Rattle.blkseq_table.specs.OfLogs.{id_of, HasId}
use Rattle.osql_session.specs.Sessions.{Session}
use Rattle.phys_log.specs.declared.entries.CommitId.{CommitId}
use Rattle.phys_log.specs.declared.entries.Entry.{Entry}
use Rattle.phys_log.specs.declared.entries.Entry.TheVariants.{Setup, Commit}
use Rattle.query_laws.specs.Alone.{sql_language}
use Rattle.report_laws.specs.Work.{Place, place_after}
use Rattle.report_text.specs.declared.reports.EntryLine.{EntryLine}
use Rattle.cdb_values.specs.declared.replies.Reply.{Reply}
use Rattle.cdb_values.specs.declared.rows.Level.{Level}
use Rattle.script_form.specs.declared.scripts.BodyLine.{BodyLine}
use Rattle.script_form.specs.declared.scripts.Script.{Script}
use Rattle.script_play.specs.Effects.{IsUnusedIn}
use Rattle.script_play.specs.EntryLines.{line_of, lines_from, AreTold}
use Rattle.script_play.specs.Ready.{AreEarlier}
use Rattle.script_play.specs.RunViews.{id_so, AreOver, AreOverIn, IsOverBy}
use Rattle.session_turns.specs.Views.{doing_in, IsOf}
use Rattle.script_play.specs.SoFar.{IsDoing, IsEnded, IsPast}
use Rattle.script_play.specs.Start.{Start}
use Rattle.session_turns.specs.declared.states.InTransaction.{InTransaction}
use Rattle.session_turns.specs.declared.states.InTransaction.TheVariants.{No, Open, Aborted}
use Rattle.session_turns.specs.declared.states.SessionState.{SessionState}

-- the identity of a transaction that is a session's own
pub id_is : (generation : ℕ) (name : List ℕ) (number : ℕ) (level : Level) (s : Session) → IsOf generation name number level s → s.id ≡ id_so generation name number
id_is generation name number level s own =
    ap (λ (b : ℕ). id_by b s.id.session s.id.txn) own.began ∙ ap (λ (n : List ℕ). id_by generation n s.id.txn) own.session ∙ ap (λ (t : ℕ). id_by generation name t) own.txn
  where
    id_by : ℕ → List ℕ → ℕ → CommitId
    id_by began session txn = record { began = began; session = session; txn = txn }

-- an open transaction has no entry
pub open_unused : (generation : ℕ) (name : List ℕ) (number its : ℕ) (session : Session) (log : List Entry) (id : CommitId) → AreOverIn generation name number (Open session) log → its ≡ number → id ≡ id_so generation name its → IsUnusedIn log id
open_unused generation name number its session log id over is named position has =
    let below = over position its (subst (λ (i : CommitId). HasId log position i) named has) in omega (arith, below, is)

-- nor has the next one of a session without an open transaction
pub next_unused : (generation : ℕ) (name : List ℕ) (number next : ℕ) (log : List Entry) (id : CommitId) → AreOverIn generation name number No log → next ≡ number + 1 → id ≡ id_so generation name next → IsUnusedIn log id
next_unused generation name number next log id over is its position has =
    let below = over position next (subst (λ (i : CommitId). HasId log position i) its has) in omega (arith, below, is)

-- the line of an entry tells its transaction
of_line : (done : List BodyLine) (n : ℕ) (e : Entry) (id : CommitId) → IsEnded done (line_of n e) → id_of e ≡ Some id →
    IsPast (place_after sql_language id.session done).number (place_after sql_language id.session done).pending id.txn
of_line done n (Setup generation schema records) id ended its = absurd cc
of_line done n (Commit generation i begin level changes records) id ended its =
    let same : i ≡ id = cc in
    subst (λ (k : CommitId). IsPast (place_after sql_language k.session done).number (place_after sql_language k.session done).pending k.txn) same ended

past_made : (done : List BodyLine) (n : ℕ) (made : List Entry) (j : ℕ) (e : Entry) (id : CommitId) → AllByRecursion (IsEnded done) (lines_from n made) → slice_get made j ≡ Some e → id_of e ≡ Some id →
    IsPast (place_after sql_language id.session done).number (place_after sql_language id.session done).pending id.txn
past_made done n [] j e id all is its = absurd cc
past_made done n (m ∷ ms) zero e id all is its = let same : m ≡ e = cc in of_line done n m id all.0 (ap (λ (x : Entry). id_of x) same ∙ its)
past_made done n (m ∷ ms) (suc j) e id all is its = past_made done (n + 1) ms j e id all.1 is its

-- an entry stands before the run, or was made in it
either : (before made : List Entry) (i : ℕ) (e : Entry) → slice_get (before ++ made) i ≡ Some e → (slice_get before i ≡ Some e) ⊎ ((j : ℕ) × (slice_get made j ≡ Some e))
either [] made i e is = inr (i, is)
either (b ∷ bs) made zero e is = inl is
either (b ∷ bs) made (suc i) e is = either bs made i e is

-- the transactions of a session that have entries in the log of a run are over
past_log : (done : List BodyLine) (before : List Entry) (generation : ℕ) (entries : List EntryLine) (log : List Entry) (name : List ℕ) (position txn : ℕ) →
    AreEarlier generation before → AreTold before generation entries log → AllByRecursion (IsEnded done) entries → HasId log position (id_so generation name txn) →
    IsPast (place_after sql_language name done).number (place_after sql_language name done).pending txn
past_log done before generation entries log name position txn earlier told ended has = go (either before told.made (position - 1) has.1.0 there)
  where
    there : slice_get (before ++ told.made) (position - 1) ≡ Some has.1.0
    there = sym (ap (λ (es : List Entry). slice_get es (position - 1)) told.behind) ∙ has.1.1

    go : (slice_get before (position - 1) ≡ Some has.1.0) ⊎ ((j : ℕ) × (slice_get told.made j ≡ Some has.1.0)) → IsPast (place_after sql_language name done).number (place_after sql_language name done).pending txn
    go (inl old) = let below : generation < generation = earlier position (id_so generation name txn) (has.0, (has.1.0, old, has.1.2)) in absurd (omega (arith, below))
    go (inr (j, new)) = past_made done (length before + 1) told.made j has.1.0 (id_so generation name txn) (subst (λ (ls : List EntryLine). AllByRecursion (IsEnded done) ls) told.told ended) new has.1.2

over_by : (script : Script) (start : Start) (entries : List EntryLine) (next : ℕ) (p : Place) (pending : Option (List (List ℕ))) (d : InTransaction) (mine : List Reply) (number txn : ℕ) →
    IsDoing script start entries next p pending (doing_in d) mine → number ≡ p.number → IsPast p.number pending txn → IsOverBy d number txn
over_by script start entries next p None No mine number txn is same past = omega (arith, same, past)
over_by script start entries next p None (Open session) mine number txn is same past = absurd is
over_by script start entries next p None Aborted mine number txn is same past = tt
over_by script start entries next p (Some texts) No mine number txn is same past = absurd is
over_by script start entries next p (Some texts) (Open session) mine number txn is same past = omega (arith, same, past)
over_by script start entries next p (Some texts) Aborted mine number txn is same past = tt

pub are_over : (script : Script) (start : Start) (done : List BodyLine) (next : ℕ) (mine : List Reply) (generation : ℕ) (entries : List EntryLine) (log : List Entry) (name : List ℕ) (x : SessionState) →
    AreEarlier generation start.before → AreTold start.before generation entries log → AllByRecursion (IsEnded done) entries →
    IsDoing script start entries next (place_after sql_language name done) (place_after sql_language name done).pending (doing_in x.doing) mine → x.number ≡ (place_after sql_language name done).number → AreOver generation name x log
are_over script start done next mine generation entries log name x earlier told ended doing same position txn has =
    over_by script start entries next (place_after sql_language name done) (place_after sql_language name done).pending x.doing mine x.number txn doing same
    (past_log done start.before generation entries log name position txn earlier told ended has)
