-- A front of the bytes of frames is some of the frames, and less than an envelope.
use Rattle.std.proofs.Common.{◌≡◌, inl, inr, ℕ, ◌+◌, ◌<◌, ◌≤◌, List, [], ◌∷◌, ◌++◌, length, refl, sym, ap, ◌∙◌, subst, append_assoc, arith, length-append}
use Rattle.std.specs.List.{flat_map, AllByRecursion}
use Rattle.std.proofs.lemmas.List.{append-nil}
use Rattle.std.proofs.lemmas.Bool.{cases_lt}
use Rattle.frame_code.specs.Codes.{kind_of, payload, frame_code}
use Rattle.frame_code.specs.Fronts.{IsKind, IsFrameFront}
use Rattle.frame_code.specs.Spelled.{IsSpelled}
use Rattle.frame_code.specs.declared.frames.Frame.{Frame}
use Rattle.frame_code.specs.declared.frames.Frame.TheVariants as frame
use Rattle.frame_code.proofs.FrontLaws.{longer_front, fronts_are_short}
use Rattle.store_log.specs.Cuts.{StandsAfter}
use Rattle.store_log.specs.Held.{Held, at_first, after, AllMay, after_all, header, HasFrames}

-- some of these frames, and less than an envelope behind them
pub record IsCutOff (gs : List Frame) (cut : List ℕ) : Type 0 where
  pub some : List Frame
  pub others : List Frame
  pub rest : List ℕ
  pub split : some ++ others ≡ gs
  pub is : flat_map frame_code some ++ rest ≡ cut
  pub unfinished : IsFrameFront rest

kinds_are_known : (f : Frame) → IsKind (kind_of f)
kinds_are_known (frame.Header v n c) = (omega arith, omega arith)
kinds_are_known (frame.Promise n) = (omega arith, omega arith)
kinds_are_known (frame.Accept n) = (omega arith, omega arith)
kinds_are_known (frame.Entry x) = (omega arith, omega arith)
kinds_are_known (frame.Cut n) = (omega arith, omega arith)

-- where less than the first frame is left
in_first : (g : Frame) (gs : List Frame) (cut more : List ℕ) → IsSpelled g → length cut < length (frame_code g)
    → cut ++ more ≡ frame_code g ++ flat_map frame_code gs → IsCutOff (g ∷ gs) cut
in_first g gs cut more s n e =
    let l = longer_front (frame_code g) cut (flat_map frame_code gs) more (omega arith) (sym e) in
    let all : length (cut ++ l.between) ≡ length (frame_code g) = ap length l.longer in
    let parts : length (cut ++ l.between) ≡ length cut + length l.between = length-append cut l.between in
    let some_left : l.between ≡ [] → ⊥ = λ none. (let size : length l.between ≡ 0 = ap length none in omega arith) in
    record {
      some = [];
      others = g ∷ gs;
      rest = cut;
      split = refl;
      is = refl;
      unfinished = fronts_are_short (kind_of g) (payload g) cut l.between (kinds_are_known g) s.size l.longer some_left;
    }

-- where the first frame is whole
past_first : (g : Frame) (gs : List Frame) (cut more : List ℕ)
    → ((behind : List ℕ) → behind ++ more ≡ flat_map frame_code gs → IsCutOff gs behind) → length (frame_code g) ≤ length cut
    → cut ++ more ≡ frame_code g ++ flat_map frame_code gs → IsCutOff (g ∷ gs) cut
past_first g gs cut more later n e =
    let l = longer_front cut (frame_code g) more (flat_map frame_code gs) n e in
    let c = later l.between l.rest in
    record {
      some = g ∷ c.some;
      others = c.others;
      rest = c.rest;
      split = ap (λ (fs : List Frame). g ∷ fs) c.split;
      is = append_assoc (frame_code g) (flat_map frame_code c.some) c.rest ∙ ap (λ (bs : List ℕ). frame_code g ++ bs) c.is ∙ l.longer;
      unfinished = c.unfinished;
    }

pub cut_off : (gs : List Frame) (cut more : List ℕ) → AllByRecursion IsSpelled gs → cut ++ more ≡ flat_map frame_code gs → IsCutOff gs cut
cut_off [] [] more s e = record { some = []; others = []; rest = []; split = refl; is = refl; unfinished = tt }
cut_off [] (b ∷ cut) more s e = absurd (cc)
cut_off (g ∷ gs) cut more s e = elim (cases_lt (length cut) (length (frame_code g))) [
  | inl h ↦ in_first g gs cut more s.0 h e
  | inr h ↦ past_first g gs cut more (λ behind f. cut_off gs behind more s.1 f) h e
]

-- frames behind frames
pub after_join : (h : Held) (xs ys : List Frame) → after_all h (xs ++ ys) ≡ after_all (after_all h xs) ys
after_join h [] ys = refl
after_join h (x ∷ xs) ys = after_join (after h x) xs ys

pub may_join : (h : Held) (xs ys : List Frame) → AllMay h xs → AllMay (after_all h xs) ys → AllMay h (xs ++ ys)
may_join h [] ys mx my = my
may_join h (x ∷ xs) ys mx my = (mx.0, may_join (after h x) xs ys mx.1 my)

pub may_front : (h : Held) (xs ys : List Frame) → AllMay h (xs ++ ys) → AllMay h xs
may_front h [] ys m = tt
may_front h (x ∷ xs) ys m = (m.0, may_front (after h x) xs ys m.1)

pub spelled_join : (xs ys : List Frame) → AllByRecursion IsSpelled xs → AllByRecursion IsSpelled ys → AllByRecursion IsSpelled (xs ++ ys)
spelled_join [] ys sx sy = sy
spelled_join (x ∷ xs) ys sx sy = (sx.0, spelled_join xs ys sx.1 sy)

pub spelled_front : (xs ys : List Frame) → AllByRecursion IsSpelled (xs ++ ys) → AllByRecursion IsSpelled xs
spelled_front [] ys s = tt
spelled_front (x ∷ xs) ys s = (s.0, spelled_front xs ys s.1)

pub may_back : (h : Held) (xs ys : List Frame) → AllMay h (xs ++ ys) → AllMay (after_all h xs) ys
may_back h [] ys m = m
may_back h (x ∷ xs) ys m = may_back (after h x) xs ys m.1

pub spelled_back : (xs ys : List Frame) → AllByRecursion IsSpelled (xs ++ ys) → AllByRecursion IsSpelled ys
spelled_back [] ys s = s
spelled_back (x ∷ xs) ys s = spelled_back xs ys s.1

pub codes_join : (xs ys : List Frame) → flat_map frame_code (xs ++ ys) ≡ flat_map frame_code xs ++ flat_map frame_code ys
codes_join [] ys = refl
codes_join (x ∷ xs) ys =
    ap (λ (bs : List ℕ). frame_code x ++ bs) (codes_join xs ys) ∙ sym (append_assoc (frame_code x) (flat_map frame_code xs) (flat_map frame_code ys))

-- a header, frames, and a front of the bytes of more
frames_and_cut : (hdr one two rest bytes cut : List ℕ) → hdr ++ (one ++ []) ≡ bytes → two ++ rest ≡ cut
    → hdr ++ ((one ++ two) ++ rest) ≡ bytes ++ cut
frames_and_cut hdr one two rest bytes cut first second =
    ap (λ (bs : List ℕ). hdr ++ bs) (append_assoc one two rest ∙ ap (λ (bs : List ℕ). one ++ bs) second)
    ∙ sym (append_assoc hdr one cut)
    ∙ ap (λ (bs : List ℕ). (hdr ++ bs) ++ cut) (sym (append-nil one))
    ∙ ap (λ (bs : List ℕ). bs ++ cut) first

pub cut_frames_stand : (node cluster : ℕ) (bytes cut more : List ℕ) (fs gs : List Frame) → HasFrames node cluster bytes fs []
    → AllByRecursion IsSpelled gs → AllMay (after_all at_first fs) gs → cut ++ more ≡ flat_map frame_code gs
    → StandsAfter node cluster (bytes ++ cut) (after_all at_first fs) gs
cut_frames_stand node cluster bytes cut more fs gs x s m e =
    let c = cut_off gs cut more s e in
    let mine : AllByRecursion IsSpelled c.some =
    spelled_front c.some c.others (subst (λ (l : List Frame). AllByRecursion IsSpelled l) (sym c.split) s) in
    let rules : AllMay (after_all at_first fs) c.some =
    may_front (after_all at_first fs) c.some c.others (subst (λ (l : List Frame). AllMay (after_all at_first fs) l) (sym c.split) m) in
    let joined : after_all at_first (fs ++ c.some) ≡ after_all (after_all at_first fs) c.some = after_join at_first fs c.some in
    let bytes_are : frame_code (header node cluster) ++ (flat_map frame_code (fs ++ c.some) ++ c.rest) ≡ bytes ++ cut =
    ap (λ (bs : List ℕ). frame_code (header node cluster) ++ (bs ++ c.rest)) (codes_join fs c.some)
    ∙ frames_and_cut (frame_code (header node cluster)) (flat_map frame_code fs) (flat_map frame_code c.some) c.rest bytes cut x.whole c.is in
    record {
      some = c.some;
      others = c.others;
      split = c.split;
      stands = record {
        frames = fs ++ c.some;
        rest = c.rest;
        held = record {
          spelled = spelled_join fs c.some x.spelled mine;
          rules = may_join at_first fs c.some x.rules rules;
          whole = bytes_are;
        };
        unfinished = c.unfinished;
        promised = ap (λ (h : Held). h.promised) joined;
        accepted = ap (λ (h : Held). h.accepted) joined;
        entries = ap (λ (h : Held). h.entries) joined;
      };
    }

-- frames whose bytes stand behind a store
pub kept_frames_stand : (node cluster : ℕ) (bytes : List ℕ) (fs gs : List Frame) → HasFrames node cluster bytes fs []
    → AllByRecursion IsSpelled gs → AllMay (after_all at_first fs) gs
    → HasFrames node cluster (bytes ++ flat_map frame_code gs) (fs ++ gs) []
kept_frames_stand node cluster bytes fs gs x s m = record {
  spelled = spelled_join fs gs x.spelled s;
  rules = may_join at_first fs gs x.rules m;
  whole = ap (λ (bs : List ℕ). frame_code (header node cluster) ++ (bs ++ [])) (codes_join fs gs)
      ∙ frames_and_cut (frame_code (header node cluster)) (flat_map frame_code fs) (flat_map frame_code gs) [] bytes (flat_map frame_code gs)
      x.whole (append-nil (flat_map frame_code gs));
}
