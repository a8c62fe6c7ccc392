-- The opening of all stores: what each was found to be, and what is told where the script is not played over them.
--
-- A store is told first whose frames are bad, or whose header is another's, of such the one of the lowest node. Where there is none,
-- the lowest whose log is not sound. Where there is none either, the lowest node that accepted a generation which, as far as the
-- stores were read, no majority promised. Then the script's tables are compared with those of the best log, where it has entries.
-- A store that failed while it was read is compared with nothing: its node is down. It is read at a start, and is to be sound and to
-- fit then, too.
use Rattle.std.specs.Prelude.{◌≡◌, ℕ, zero, suc, ◌+◌, ◌≤◌, ◌∷◌, [], List, length, map, Bool, true, false, Option, Some, None, if◌then◌else◌, ◌⊎◌, slice_get}
use Rattle.cdb_outside.specs.declared.statuses.Status.{Status}
use Rattle.cdb_outside.specs.declared.statuses.Status.TheVariants as status
use Rattle.cdb_values.specs.declared.tables.TableDef.{TableDef}
use Rattle.cluster_consensus.specs.Facts.{Admit}
use Rattle.election_core.specs.Fits.{lacks_cover}
use Rattle.node_opening.specs.Tables.{IsDifference}
use Rattle.script_form.specs.CanRun.{script_tables}
use Rattle.script_form.specs.declared.scripts.Script.{Script}
use Rattle.script_form.specs.declared.scripts.TableLine.{TableLine}
use Rattle.play_order.specs.Elections.{Ranked, greatest_pair_from}
use Rattle.play_order.specs.Peers.{Holding, Peer, Peers, Switch, Fall, numbers_to}
use Rattle.play_order.specs.Peers.Switch.{Fell}

-- what a store was found to be: one that failed while it was read, with what its bytes stand for, and whether its log is sound; bad at a
-- place, which is 0 where the header is another's; with a log that is not sound; or with a sound log, and its tables
pub data Finding : Type 0 where
  FailedRead : Holding → Bool → Finding
  BadFrame : ℕ → Finding
  NotSound : Finding
  WholeLog : Holding → List TableDef → Finding

-- a store that is bad, and the place
pub record BadAt : Type 0 where
  pub node : ℕ
  pub at : ℕ

-- the lowest store that is bad
abbrev pub first_bad : ℕ → List Finding → Option BadAt
first_bad k [] = None
first_bad k (FailedRead has sound ∷ fs) = first_bad (k + 1) fs
first_bad k (BadFrame at ∷ fs) = Some (record { node = k; at = at })
first_bad k (NotSound ∷ fs) = first_bad (k + 1) fs
first_bad k (WholeLog has tables ∷ fs) = first_bad (k + 1) fs

-- the lowest store whose log is not sound
abbrev pub first_unsound : ℕ → List Finding → Option ℕ
first_unsound k [] = None
first_unsound k (FailedRead has sound ∷ fs) = first_unsound (k + 1) fs
first_unsound k (BadFrame at ∷ fs) = first_unsound (k + 1) fs
first_unsound k (NotSound ∷ fs) = Some k
first_unsound k (WholeLog has tables ∷ fs) = first_unsound (k + 1) fs

-- what the stores that were read promised and accepted
abbrev pub admits_from : ℕ → List Finding → List Admit
admits_from k [] = []
admits_from k (FailedRead has sound ∷ fs) = admits_from (k + 1) fs
admits_from k (BadFrame at ∷ fs) = admits_from (k + 1) fs
admits_from k (NotSound ∷ fs) = admits_from (k + 1) fs
admits_from k (WholeLog has tables ∷ fs) = record { node = k; promised = has.promised; accepted = has.accepted } ∷ admits_from (k + 1) fs

abbrev pub first_where : (ℕ → Bool) → List ℕ → Option ℕ
first_where q [] = None
first_where q (k ∷ ks) = if q k then Some k else first_where q ks

-- the lowest node that accepted what no majority of n promised
abbrev pub first_unfit : ℕ → List Finding → Option ℕ
first_unfit n fs = first_where (λ k. lacks_cover n (admits_from 1 fs) k (admits_from 1 fs)) (numbers_to n)

-- the best log of those that were read, and its tables
abbrev pub read_holding : Finding → Option Holding
read_holding (FailedRead has sound) = None
read_holding (BadFrame at) = None
read_holding NotSound = None
read_holding (WholeLog has tables) = Some has

abbrev pub best_log : List Finding → Option Ranked
best_log fs = greatest_pair_from 1 None (map read_holding fs)

abbrev pub tables_at : List Finding → ℕ → List TableDef
tables_at [] k = []
tables_at (f ∷ fs) zero = []
tables_at (WholeLog has tables ∷ fs) (suc zero) = tables
tables_at (f ∷ fs) (suc zero) = []
tables_at (f ∷ fs) (suc (suc k)) = tables_at fs (suc k)

-- the script's tables differ from those of the best log, which has entries, and this is the line of the first that differs
pub record DiffersAt (script : Script) (fs : List Finding) (line : ℕ) : Type 0 where
  pub best : Ranked
  pub is_best : best_log fs ≡ Some best
  pub some : 1 ≤ length best.has.log
  pub place : ℕ
  pub difference : IsDifference (script_tables script) (tables_at fs best.node) place
  pub said : TableLine
  pub at : slice_get script.tables place ≡ Some said
  pub line_is : said.line ≡ line

-- no store is bad, or none of these, not sound either; or all are whole, and fit
abbrev pub AreAllWhole : List Finding → Type 0
AreAllWhole fs = first_bad 1 fs ≡ None

abbrev pub AreAllSound : List Finding → Type 0
AreAllSound fs = AreAllWhole fs × (first_unsound 1 fs ≡ None)

abbrev pub AreAllFit : ℕ → List Finding → Type 0
AreAllFit n fs = AreAllSound fs × (first_unfit n fs ≡ None)

-- what is told at the opening in place of a report
abbrev pub IsToldAtOpening : Script → List Finding → Status → Type 0
IsToldAtOpening script fs status.Done = ⊥
IsToldAtOpening script fs status.Usage = ⊥
IsToldAtOpening script fs (status.Refused line why) = AreAllFit script.nodes fs × (why ≡ 9) × DiffersAt script fs line
IsToldAtOpening script fs status.ReadFault = ⊥
IsToldAtOpening script fs status.WriteFault = ⊥
IsToldAtOpening script fs (status.StoreRefused node at) = first_bad 1 fs ≡ Some (record { node = node; at = at })
IsToldAtOpening script fs (status.Unsound node) =
    (AreAllWhole fs × (first_unsound 1 fs ≡ Some node)) ⊎ (AreAllSound fs × (first_unfit script.nodes fs ≡ Some node))
IsToldAtOpening script fs status.NoMemory = ⊥

-- the script is played over the stores: there is one for each node, all are sound and fit, and the tables do not differ
pub record MayPlay (script : Script) (fs : List Finding) : Type 0 where
  pub one_each : length fs ≡ script.nodes
  pub fit : AreAllFit script.nodes fs
  pub same : (line : ℕ) → DiffersAt script fs line → ⊥

-- a node with what its store was found to hold: it is up, or down, where the store failed
abbrev pub came_up : Bool → Holding → Peer
came_up up has = record { up = up; came = up; has = has; keeps = has; accepts = []; late = [] }

abbrev pub peer_of : Finding → Peer
peer_of (FailedRead has sound) = came_up false has
peer_of (BadFrame at) = came_up false (record { promised = 0; accepted = 0; log = [] })
peer_of NotSound = came_up false (record { promised = 0; accepted = 0; log = [] })
peer_of (WholeLog has tables) = came_up true has

-- of each store that failed it is told, in order of the nodes
abbrev pub fell_from : ℕ → List Finding → List Switch
fell_from k [] = []
fell_from k (FailedRead has sound ∷ fs) = Fell k true ∷ fell_from (k + 1) fs
fell_from k (BadFrame at ∷ fs) = fell_from (k + 1) fs
fell_from k (NotSound ∷ fs) = fell_from (k + 1) fs
fell_from k (WholeLog has tables ∷ fs) = fell_from (k + 1) fs

-- all nodes that may come up are up, and nobody leads
abbrev pub gathered : List Finding → List Fall → Peers
gathered fs falls = record { all = map peer_of fs; master = None; reigns = []; falls = falls; told = fell_from 1 fs }

-- what was found of the stores in the end: one that failed at the opening was read at a start, where its node came up. Then it has to be
-- sound and fit, as the others: the run ends where it does not
abbrev pub read_late : List Finding → List Peer → List Finding
read_late [] vs = []
read_late (f ∷ fs) [] = f ∷ fs
read_late (FailedRead has sound ∷ fs) (v ∷ vs) = (if v.came then (if sound then WholeLog has [] else NotSound) else FailedRead has sound) ∷ read_late fs vs
read_late (BadFrame at ∷ fs) (v ∷ vs) = BadFrame at ∷ read_late fs vs
read_late (NotSound ∷ fs) (v ∷ vs) = NotSound ∷ read_late fs vs
read_late (WholeLog has tables ∷ fs) (v ∷ vs) = WholeLog has tables ∷ read_late fs vs
