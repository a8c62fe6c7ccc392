-- An adoption that is open at the end can be left out.
use Rattle.std.proofs.Common.{◌⊎◌, inl, inr, ℕ, List, [], ◌∷◌, Option, Some, None, refl, ap}
use Rattle.frame_code.specs.declared.frames.Frame.{Frame}
use Rattle.frame_code.specs.declared.frames.Frame.TheVariants as frame
use Rattle.phys_log.specs.declared.entries.Entry.{Entry}
use Rattle.store_log.specs.Cuts.{HoldSameLog, IsSettled}
use Rattle.store_log.specs.Held.{Held, at_first, May, held_with_entry, after, AllMay, after_all}

-- an entry: where no adoption is open, none is open after it; else the log is as before
after_entry : (p a : ℕ) (es : List Entry) (e : Entry) (o : Option (List Entry)) (fs : List Frame)
    → HoldSameLog (held_with_entry p a es e o) (after_all (held_with_entry p a es e o) fs)
    → IsSettled (record { promised = p; accepted = a; entries = es; adopting = o }) (frame.Entry e ∷ fs)
    ⊎ HoldSameLog (record { promised = p; accepted = a; entries = es; adopting = o }) (after_all (held_with_entry p a es e o) fs)
after_entry p a es e None fs s = inl record { kept = frame.Entry e ∷ []; gone = fs; split = refl; closed = refl; same = s }
after_entry p a es e (Some adopted) fs s = inr record { promised = s.promised; accepted = s.accepted; entries = s.entries }

after_frame : (h : Held) (f : Frame) (fs : List Frame) → May h f → HoldSameLog (after h f) (after_all (after h f) fs)
    → IsSettled h (f ∷ fs) ⊎ HoldSameLog h (after_all (after h f) fs)
after_frame h (frame.Header v n c) fs m s = absurd m
after_frame h (frame.Promise g) fs m s = inl record { kept = frame.Promise g ∷ []; gone = fs; split = refl; closed = refl; same = s }
after_frame h (frame.Accept g) fs m s = inl record { kept = frame.Accept g ∷ []; gone = fs; split = refl; closed = refl; same = s }
after_frame h (frame.Entry e) fs m s = after_entry h.promised h.accepted h.entries e h.adopting fs s
after_frame h (frame.Cut n) fs m s = inr record { promised = s.promised; accepted = s.accepted; entries = s.entries }

one_frame_more : (h : Held) (f : Frame) (fs : List Frame) → May h f
    → IsSettled (after h f) fs ⊎ HoldSameLog (after h f) (after_all (after h f) fs)
    → IsSettled h (f ∷ fs) ⊎ HoldSameLog h (after_all (after h f) fs)
one_frame_more h f fs m (inl s) = inl record {
  kept = f ∷ s.kept;
  gone = s.gone;
  split = ap (λ (l : List Frame). f ∷ l) s.split;
  closed = s.closed;
  same = s.same;
}
one_frame_more h f fs m (inr s) = after_frame h f fs m s

settled_from : (h : Held) (fs : List Frame) → AllMay h fs → IsSettled h fs ⊎ HoldSameLog h (after_all h fs)
settled_from h [] m = inr record { promised = refl; accepted = refl; entries = refl }
settled_from h (f ∷ fs) m = one_frame_more h f fs m.0 (settled_from (after h f) fs m.1)

pub all_settle : (fs : List Frame) → AllMay at_first fs → IsSettled at_first fs
all_settle fs m = settle (settled_from at_first fs m)
  where
    settle : IsSettled at_first fs ⊎ HoldSameLog at_first (after_all at_first fs) → IsSettled at_first fs
    settle (inl s) = s
    settle (inr s) = record { kept = []; gone = fs; split = refl; closed = refl; same = s }
