-- One entry more: what a store holds with its frame, and what a stop inside of it leaves.
use Rattle.std.proofs.Common.{◌≡◌, inl, inr, ℕ, List, [], ◌∷◌, ◌++◌, sym, subst}
use Rattle.std.proofs.Math.Logic.{∥∥₁_map}
use Rattle.std.proofs.lemmas.List.{append-nil}
use Rattle.frame_code.specs.Codes.{frame_code}
use Rattle.frame_code.specs.Spelled.{IsSpelled}
use Rattle.frame_code.specs.declared.frames.Frame.{Frame}
use Rattle.frame_code.specs.declared.frames.Frame.TheVariants as frame
use Rattle.phys_log.specs.Logs.{Fits}
use Rattle.phys_log.specs.declared.entries.Entry.{Entry}
use Rattle.store_log.specs.Cuts.{StandsAfter}
use Rattle.store_log.specs.Follows.{AreNextFrames}
use Rattle.store_log.specs.Held.{generation_of, AllMay, after_all, IsLogOf}
use Rattle.store_log.specs.Holds.{Holds, plain}
use Rattle.store_log.specs.Keeps.{Stored, AreKept, AreLeft}
use Rattle.store_log.proofs.KeptLaws.{kept_hold, left_stand}
use Rattle.node_log.specs.Logged.{Logged, IsInStep, Leaves, StandForOne, with_entry}

-- an entry is the next of a log that is of the accepted generation
pub record IsNextOf (p a : ℕ) (es : List Entry) (e : Entry) : Type 0 where
  pub spelled : IsSpelled (frame.Entry e)
  pub generation : generation_of e ≡ a
  pub fits : Fits es e

entry_may : (p a : ℕ) (es : List Entry) (e : Entry) → IsNextOf p a es e → AllMay (plain p a es) (frame.Entry e ∷ [])
entry_may p a es e x = ((x.generation, x.fits), tt)

-- so its frame may be kept
pub entry_next : (node cluster : ℕ) (store : Stored) (p a : ℕ) (es : List Entry) (e : Entry) → IsNextOf p a es e
    → IsInStep node cluster store p a es → ∥ AreNextFrames store.synced (frame_code (frame.Entry e)) ∥₁
entry_next node cluster store p a es e x i = ∥∥₁_map i.holds (λ h. record {
  frames = frame.Entry e ∷ [];
  follow = record { node = node; cluster = cluster; held = plain p a es; holds = h; spelled = (x.spelled, tt); may = entry_may p a es e x };
  code = sym (append-nil (frame_code (frame.Entry e)));
})

entry_held : (node cluster : ℕ) (bytes : List ℕ) (p a : ℕ) (es : List Entry) (e : Entry) → IsNextOf p a es e
    → Holds node cluster bytes (plain p a es) → Holds node cluster (bytes ++ frame_code (frame.Entry e)) (plain p a (es ++ e ∷ []))
entry_held node cluster bytes p a es e x h =
    subst (λ (code : List ℕ). Holds node cluster (bytes ++ code) (plain p a (es ++ e ∷ []))) (append-nil (frame_code (frame.Entry e)))
    (kept_hold node cluster bytes (plain p a es) (frame.Entry e ∷ []) h (x.spelled, tt) (entry_may p a es e x))

pub entry_in_step : (node cluster : ℕ) (old new : Stored) (p a : ℕ) (es : List Entry) (e : Entry) → IsNextOf p a es e
    → AreKept old new (frame_code (frame.Entry e)) → IsInStep node cluster old p a es → IsInStep node cluster new p a (es ++ e ∷ [])
entry_in_step node cluster old new p a es e x k i = record {
  holds = ∥∥₁_map i.holds (λ h.
      subst (λ (bytes : List ℕ). Holds node cluster bytes (plain p a (es ++ e ∷ []))) (sym k.synced)
      (entry_held node cluster old.synced p a es e x h));
  settled = k.settled;
}

-- none of the frames, or the entry's
cut_entry : (l : Logged) (e : Entry) (stopped : List ℕ) (some others : List Frame) → some ++ others ≡ frame.Entry e ∷ []
    → IsLogOf l.node l.cluster stopped (after_all (plain l.promised l.accepted l.entries) some).promised
    (after_all (plain l.promised l.accepted l.entries) some).accepted (after_all (plain l.promised l.accepted l.entries) some).entries
    → StandForOne stopped (l ∷ with_entry l e ∷ [])
cut_entry l e stopped [] others split i = inl (inr i)
cut_entry l e stopped (f ∷ []) others split i =
    let is : f ≡ frame.Entry e = cc in
    inr (inl (inr (subst (λ (g : Frame). IsLogOf l.node l.cluster stopped (after_all (plain l.promised l.accepted l.entries) (g ∷ [])).promised
    (after_all (plain l.promised l.accepted l.entries) (g ∷ [])).accepted (after_all (plain l.promised l.accepted l.entries) (g ∷ [])).entries) is i)))
cut_entry l e stopped (f ∷ g ∷ some) others split i = cc

entry_cut : (l : Logged) (e : Entry) (stopped : List ℕ)
    → StandsAfter l.node l.cluster stopped (plain l.promised l.accepted l.entries) (frame.Entry e ∷ [])
    → StandForOne stopped (l ∷ with_entry l e ∷ [])
entry_cut l e stopped x = cut_entry l e stopped x.some x.others x.split x.stands

pub entry_left : (l : Logged) (new : Stored) (e : Entry) → IsNextOf l.promised l.accepted l.entries e
    → AreLeft l.store new (frame_code (frame.Entry e)) → IsInStep l.node l.cluster l.store l.promised l.accepted l.entries
    → Leaves new (l ∷ with_entry l e ∷ [])
entry_left l new e x k i stopped j =
    let left : AreLeft l.store new (frame_code (frame.Entry e) ++ []) = subst (λ (code : List ℕ). AreLeft l.store new code) (sym (append-nil (frame_code (frame.Entry e)))) k in
    ∥∥₁_map i.holds (λ h.
    entry_cut l e stopped (left_stand l.node l.cluster (plain l.promised l.accepted l.entries) l.store new stopped (frame.Entry e ∷ []) h
    (x.spelled, tt) (entry_may l.promised l.accepted l.entries e x) left j))
