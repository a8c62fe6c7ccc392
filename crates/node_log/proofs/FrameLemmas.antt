-- Frames kept behind those of a log: what the store holds then, and what a stop inside of them leaves.
use Rattle.std.proofs.Common.{◌≡◌, ℕ, List, ◌++◌, sym, ap, ◌∙◌, subst}
use Rattle.std.proofs.Math.Logic.{∥∥₁_map}
use Rattle.std.specs.List.{flat_map, AllByRecursion}
use Rattle.frame_code.specs.Codes.{frame_code}
use Rattle.frame_code.specs.Spelled.{IsSpelled}
use Rattle.frame_code.specs.declared.frames.Frame.{Frame}
use Rattle.phys_log.specs.declared.entries.Entry.{Entry}
use Rattle.store_log.specs.Cuts.{StandsAfter}
use Rattle.store_log.specs.Follows.{AreNextFrames, MayFollow}
use Rattle.store_log.specs.Held.{Held, AllMay, after_all, IsLogOf}
use Rattle.store_log.specs.Holds.{Holds, plain}
use Rattle.store_log.specs.Keeps.{Stored, AreKept, AreLeft}
use Rattle.store_log.proofs.KeptLaws.{kept_hold, left_stand}
use Rattle.node_log.specs.Logged.{Logged, IsInStep, Leaves, StandForOne}

-- frames that may stand behind those of a log
pub record MayStand (p a : ℕ) (es : List Entry) (gs : List Frame) : Type 0 where
  pub spelled : AllByRecursion IsSpelled gs
  pub may : AllMay (plain p a es) gs

pub frames_follow : (node cluster : ℕ) (store : Stored) (p a : ℕ) (es : List Entry) (gs : List Frame) → MayStand p a es gs
    → IsInStep node cluster store p a es → ∥ MayFollow store.synced gs ∥₁
frames_follow node cluster store p a es gs x i =
    ∥∥₁_map i.holds (λ h. record { node = node; cluster = cluster; held = plain p a es; holds = h; spelled = x.spelled; may = x.may })

pub frames_next : (node cluster : ℕ) (store : Stored) (p a : ℕ) (es : List Entry) (gs : List Frame) (bytes : List ℕ) → MayStand p a es gs
    → bytes ≡ flat_map frame_code gs → IsInStep node cluster store p a es → ∥ AreNextFrames store.synced bytes ∥₁
frames_next node cluster store p a es gs bytes x code i =
    ∥∥₁_map (frames_follow node cluster store p a es gs x i) (λ f. record { frames = gs; follow = f; code = code })

-- all of them are kept: the store holds the log after them
pub frames_in_step : (node cluster : ℕ) (old new : Stored) (p a q b : ℕ) (es fs : List Entry) (gs : List Frame) (bytes : List ℕ) → MayStand p a es gs
    → bytes ≡ flat_map frame_code gs → after_all (plain p a es) gs ≡ plain q b fs → AreKept old new bytes
    → IsInStep node cluster old p a es → IsInStep node cluster new q b fs
frames_in_step node cluster old new p a q b es fs gs bytes x code is k i = record {
  holds = ∥∥₁_map i.holds (λ h.
      subst (λ (s : List ℕ). Holds node cluster s (plain q b fs)) (ap (λ (c : List ℕ). old.synced ++ c) (sym code) ∙ sym k.synced)
      (subst (λ (t : Held). Holds node cluster (old.synced ++ flat_map frame_code gs) t) is
      (kept_hold node cluster old.synced (plain p a es) gs h x.spelled x.may)));
  settled = k.settled;
}

-- some of them are left: the store stands for the log after these
pub frames_left : (l : Logged) (new : Stored) (gs : List Frame) (bytes : List ℕ) (logs : List Logged) → MayStand l.promised l.accepted l.entries gs
    → bytes ≡ flat_map frame_code gs
    → ((stopped : List ℕ) (some others : List Frame) → some ++ others ≡ gs
    → IsLogOf l.node l.cluster stopped (after_all (plain l.promised l.accepted l.entries) some).promised
    (after_all (plain l.promised l.accepted l.entries) some).accepted (after_all (plain l.promised l.accepted l.entries) some).entries
    → StandForOne stopped logs)
    → AreLeft l.store new bytes → IsInStep l.node l.cluster l.store l.promised l.accepted l.entries → Leaves new logs
frames_left l new gs bytes logs x code cut k i stopped j =
    let left : AreLeft l.store new (flat_map frame_code gs) = subst (λ (c : List ℕ). AreLeft l.store new c) code k in
    ∥∥₁_map i.holds (λ h.
    let s : StandsAfter l.node l.cluster stopped (plain l.promised l.accepted l.entries) gs =
    left_stand l.node l.cluster (plain l.promised l.accepted l.entries) l.store new stopped gs h x.spelled x.may left j in
    cut stopped s.some s.others s.split s.stands)
