-- Frames whose bytes were put behind what a store holds, all of them or a front.
use Rattle.std.proofs.Common.{◌≡◌, inr, ℕ, List, [], ◌++◌, take, drop, sym, ap, ◌∙◌, subst, append_assoc}
use Rattle.std.proofs.lemmas.List.{take-append-drop}
use Rattle.std.specs.List.{flat_map, AllByRecursion}
use Rattle.cdb_outside.specs.Stores.{JoinsFront}
use Rattle.frame_code.specs.Codes.{frame_code}
use Rattle.frame_code.specs.Spelled.{IsSpelled}
use Rattle.frame_code.specs.declared.frames.Frame.{Frame}
use Rattle.store_log.specs.declared.standings.Standing.TheVariants.{Log}
use Rattle.store_log.specs.Cuts.{StandsAfter}
use Rattle.store_log.specs.Held.{Held, at_first, AllMay, after_all, StandsFor}
use Rattle.store_log.specs.Holds.{Holds}
use Rattle.store_log.specs.Keeps.{Stored, AreLeft}
use Rattle.store_log.proofs.CutLaws.{after_join, kept_frames_stand, cut_frames_stand}

pub kept_hold : (node cluster : ℕ) (bytes : List ℕ) (h : Held) (gs : List Frame) → Holds node cluster bytes h
    → AllByRecursion IsSpelled gs → AllMay h gs → Holds node cluster (bytes ++ flat_map frame_code gs) (after_all h gs)
kept_hold node cluster bytes h gs x s m = record {
  frames = x.frames ++ gs;
  has = kept_frames_stand node cluster bytes x.frames gs x.has s (subst (λ (k : Held). AllMay k gs) (sym x.is) m);
  is = after_join at_first x.frames gs ∙ ap (λ (k : Held). after_all k gs) x.is;
}

pub held_stand : (node cluster : ℕ) (bytes : List ℕ) (h : Held) → Holds node cluster bytes h
    → StandsFor node cluster bytes (Log h.promised h.accepted h.entries)
held_stand node cluster bytes h x = inr record {
  frames = x.frames;
  rest = [];
  held = x.has;
  unfinished = tt;
  promised = ap (λ (k : Held). k.promised) x.is;
  accepted = ap (λ (k : Held). k.accepted) x.is;
  entries = ap (λ (k : Held). k.entries) x.is;
}

-- a front of a front
pub two_fronts : (m n : ℕ) (part whole : List ℕ) → part ≡ take m whole → take n part ++ (drop n part ++ drop m whole) ≡ whole
two_fronts m n part whole e =
    sym (append_assoc (take n part) (drop n part) (drop m whole)) ∙ ap (λ (l : List ℕ). l ++ drop m whole) (take-append-drop n part)
    ∙ ap (λ (l : List ℕ). l ++ drop m whole) e ∙ take-append-drop m whole

pub cut_held : (node cluster : ℕ) (bytes cut more : List ℕ) (h : Held) (gs : List Frame) → Holds node cluster bytes h
    → AllByRecursion IsSpelled gs → AllMay h gs → cut ++ more ≡ flat_map frame_code gs → StandsAfter node cluster (bytes ++ cut) h gs
cut_held node cluster bytes cut more h gs x s m e =
    subst (λ (k : Held). StandsAfter node cluster (bytes ++ cut) k gs) x.is
    (cut_frames_stand node cluster bytes cut more x.frames gs x.has s (subst (λ (k : Held). AllMay k gs) (sym x.is) m) e)

pub left_stand : (node cluster : ℕ) (h : Held) (old left : Stored) (stopped : List ℕ) (gs : List Frame) → Holds node cluster old.synced h
    → AllByRecursion IsSpelled gs → AllMay h gs → AreLeft old left (flat_map frame_code gs) → JoinsFront left.synced left.pending stopped
    → StandsAfter node cluster stopped h gs
left_stand node cluster h old left stopped gs x s m l j =
    subst (λ (bytes : List ℕ). StandsAfter node cluster bytes h gs)
    (ap (λ (bytes : List ℕ). bytes ++ take j.0 left.pending) (sym l.synced) ∙ sym j.1)
    (cut_held node cluster old.synced (take j.0 left.pending) (drop j.0 left.pending ++ drop l.part.0 (flat_map frame_code gs)) h gs x s m
    (two_fronts l.part.0 j.0 left.pending (flat_map frame_code gs) l.part.1))
