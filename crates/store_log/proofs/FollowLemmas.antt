-- A store holds a log from its opening on, and stands for one however it is stopped.
use Rattle.std.proofs.Common.{◌≡◌, ℕ, List, [], ◌++◌, take, drop, Result, Ok, Err, OnOk, OnErr, refl, sym, ◌∙◌, ap, subst, inr}
use Rattle.std.proofs.Math.Logic.{∥∥₁_map}
use Rattle.std.specs.List.{flat_map}
use Rattle.cdb_outside.specs.Parts.{IsFront}
use Rattle.cdb_outside.specs.Stores.{JoinsFront}
use Rattle.frame_code.specs.Codes.{frame_code}
use Rattle.frame_code.specs.declared.frames.Frame.{Frame}
use Rattle.store_log.specs.Cuts.{StandsAfter}
use Rattle.store_log.specs.Follows.{MayFollow, AreNextFrames, IsOfLog, StandForLog}
use Rattle.store_log.specs.Held.{Held, after_all, IsLogOf}
use Rattle.store_log.specs.Holds.{Holds}
use Rattle.store_log.specs.Keeps.{Stored}
use Rattle.store_log.proofs.KeptLaws.{cut_held, kept_hold, two_fronts}

-- no frame follows
none_follow : (node cluster : ℕ) (bytes : List ℕ) (held : Held) → Holds node cluster bytes held → AreNextFrames bytes []
none_follow node cluster bytes held holds = record {
  frames = [];
  follow = record { node = node; cluster = cluster; held = held; holds = holds; spelled = tt; may = tt };
  code = refl;
}

pub opened_of_log : (node cluster : ℕ) (held : Held) (store : Stored) → Holds node cluster store.synced held → store.pending ≡ [] → IsOfLog store
opened_of_log node cluster held store holds settled = record { next = []; are = none_follow node cluster store.synced held holds; waits = (0, settled) }

-- behind a call that wrote them, and behind one that failed
kept_next : (old new next : List ℕ) → AreNextFrames old next → new ≡ old ++ next → AreNextFrames new []
kept_next old new next a same =
    let f = a.follow in
    none_follow f.node f.cluster new (after_all f.held a.frames)
    (subst (λ (bytes : List ℕ). Holds f.node f.cluster bytes (after_all f.held a.frames)) (ap (λ (code : List ℕ). old ++ code) (sym a.code) ∙ sym same)
    (kept_hold f.node f.cluster old f.held a.frames f.holds f.spelled f.may))

pub written_of_log : {T E : Type 0} (r : Result T E) (old next : List ℕ) (new : Stored) → AreNextFrames old next
    → OnOk r (new.synced ≡ old ++ next) → OnOk r (new.pending ≡ []) → OnErr r (new.synced ≡ old) → OnErr r (IsFront new.pending next) → IsOfLog new
written_of_log (Ok x) old next new a synced settled same part = record { next = []; are = kept_next old new.synced next a synced; waits = (0, settled) }
written_of_log (Err e) old next new a synced settled same part =
    record { next = next; are = subst (λ (bytes : List ℕ). AreNextFrames bytes next) (sym same) a; waits = part }

-- the bytes of frames that may follow
pub next_of : (bytes next : List ℕ) (frames : List Frame) → next ≡ flat_map frame_code frames → ∥ MayFollow bytes frames ∥₁ → ∥ AreNextFrames bytes next ∥₁
next_of bytes next frames code follow = ∥∥₁_map follow (λ f. record { frames = frames; follow = f; code = code })

-- a store that is stopped
pub stopped_of_log : (store : Stored) (joined : List ℕ) → IsOfLog store → JoinsFront store.synced store.pending joined → StandForLog joined
stopped_of_log store joined is j =
    let f = is.are.follow in
    let cut = take j.0 store.pending in
    let more = drop j.0 store.pending ++ drop is.waits.0 is.next in
    let after : StandsAfter f.node f.cluster (store.synced ++ cut) f.held is.are.frames =
    cut_held f.node f.cluster store.synced cut more f.held is.are.frames f.holds f.spelled f.may (two_fronts is.waits.0 j.0 store.pending is.next is.waits.1 ∙ is.are.code) in
    record {
      node = f.node;
      cluster = f.cluster;
      promised = (after_all f.held after.some).promised;
      accepted = (after_all f.held after.some).accepted;
      entries = (after_all f.held after.some).entries;
      stands = inr (subst (λ (bytes : List ℕ). IsLogOf f.node f.cluster bytes (after_all f.held after.some).promised (after_all f.held after.some).accepted (after_all f.held after.some).entries) (sym j.1) after.stands);
    }
