-- The history of a run over a store is sound again, in the run's generation.
use Rattle.std.proofs.Common.{◌≡◌, ℕ, ◌+◌, ◌≤◌, List, [], ◌∷◌, length, Option, Some, None, sym, subst, inl, inr, arith}
use Rattle.cdb_values.specs.Good.{AllFit, IsGood}
use Rattle.cdb_values.specs.Rows.{Rows}
use Rattle.cdb_values.specs.declared.tables.TableDef.{TableDef}
use Rattle.frame_code.specs.declared.frames.Frame.{Frame}
use Rattle.frame_code.specs.declared.frames.Frame.TheVariants as frame
use Rattle.log_rows.specs.History as history
use Rattle.node_opening.specs.Goods.{HasTables, StandsForGood}
use Rattle.page_store.specs.Image.{Image}
use Rattle.phys_log.specs.Logs.{pages_of}
use Rattle.phys_log.specs.declared.entries.Entry.{Entry}
use Rattle.report_text.specs.declared.reports.EntryLine.{EntryLine}
use Rattle.script_form.specs.CanRun.{script_tables}
use Rattle.script_form.specs.declared.scripts.Script.{Script}
use Rattle.script_play.specs.Played.{IsHistory}
use Rattle.script_play.specs.Start.{Start, ground_of}
use Rattle.sound_log.specs.Sound.{IsSound}
use Rattle.store_log.specs.declared.standings.Standing.TheVariants.{Log}
use Rattle.store_log.specs.Held.{Held, after, after_all, AllMay, May, StandsFor, at_first, held_with_entry}
use Rattle.table_state.specs.States.{HasState}
use Rattle.table_store.specs.Stored.{Stands}
use Rattle.script_main.proofs.AfterLemmas.{sound_again}
use Rattle.script_main.proofs.ScriptLemmas.{tables_with}
use Rattle.script_main.specs.Stores.{with_tables, HasRows}

-- no generation is accepted above the promised one

entry_within : (p a : ℕ) (es : List Entry) (e : Entry) (o : Option (List Entry)) → a ≤ p → (held_with_entry p a es e o).accepted ≤ (held_with_entry p a es e o).promised
entry_within p a es e None l = l
entry_within p a es e (Some adopted) l = l

frame_within : (h : Held) (f : Frame) → May h f → h.accepted ≤ h.promised → (after h f).accepted ≤ (after h f).promised
frame_within h (frame.Header version node cluster) may l = l
frame_within h (frame.Promise generation) may l = omega arith
frame_within h (frame.Accept generation) may l = let e : generation ≡ h.promised = may.0 in omega arith
frame_within h (frame.Entry e) may l = entry_within h.promised h.accepted h.entries e h.adopting l
frame_within h (frame.Cut n) may l = l

frames_within : (h : Held) (fs : List Frame) → AllMay h fs → h.accepted ≤ h.promised → (after_all h fs).accepted ≤ (after_all h fs).promised
frames_within h [] may l = l
frames_within h (f ∷ fs) may l = frames_within (after h f) fs may.1 (frame_within h f may.0 l)

pub accepted_within : (c : ℕ) (bytes : List ℕ) (p a : ℕ) (es : List Entry) → StandsFor 1 c bytes (Log p a es) → a ≤ p
accepted_within c bytes p a es (inl begun) = let e : a ≡ 0 = begun.2 in omega arith
accepted_within c bytes p a es (inr s) =
    let l : (after_all at_first s.frames).accepted ≤ (after_all at_first s.frames).promised = frames_within at_first s.frames s.held.rules (omega arith) in
    let x : (after_all at_first s.frames).promised ≡ p = s.promised in
    let y : (after_all at_first s.frames).accepted ≡ a = s.accepted in
    omega arith

-- the state of a log with entries, of the script's tables
state_of : (script : Script) (before : List Entry) (rows : Rows) → HasTables (script_tables script) before → HasRows before rows → 1 ≤ length before → HasState (pages_of before) (script_tables (with_tables script before)) rows
state_of script [] rows tables has some = absurd (omega arith)
state_of script (e ∷ es) rows tables has some = subst (λ (ts : List TableDef). HasState (pages_of (e ∷ es)) ts rows) (sym (tables_with script (e ∷ es) tables some)) has

-- the law that pages which stand for rows keep their keys
abbrev pub KeepTheirKeys : Type 0
KeepTheirKeys = (pages : ℕ → Image) (tables : List TableDef) (rows : Rows) → Stands pages tables rows → AllFit tables rows.tables → IsGood tables rows.tables

-- whatever lines tell it
pub sound_behind : (script : Script) (c : ℕ) (bytes : List ℕ) (p a : ℕ) (before : List Entry) (start : Start) (entries : List EntryLine) (made : List Entry) → KeepTheirKeys →
    start.before ≡ before → StandsForGood 1 c bytes (script_tables script) p a before → HasRows before start.rows → IsHistory (with_tables script before) start (p + 1) entries made →
    IsSound (p + 1) made
sound_behind script c bytes p a before start entries made law behind stood has told =
    let whole = with_tables script before in
    let l : a ≤ p = accepted_within c bytes p a before stood.stands in
    sound_again whole start (p + 1) entries made told
    (subst (λ (es : List Entry). 1 ≤ length es → HasState (pages_of es) (script_tables whole) start.rows) (sym behind) (state_of script before start.rows stood.good.tables has))
    a (omega arith) (subst (λ (es : List Entry). IsSound a es) (sym behind) stood.good.sound)
    (λ stands fit. law (pages_of made) (script_tables whole) (history.rows_over (ground_of start) made) stands fit)
