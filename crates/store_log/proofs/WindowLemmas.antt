-- What is told of a front of the bytes holds of all of them.
use Rattle.std.proofs.Common.{◌≡◌, ◌⊎◌, inl, inr, ℕ, zero, suc, ◌+◌, ◌<◌, ◌≤◌, ◌^◌, List, [], ◌∷◌, ◌++◌, length, refl, sym, ap, ◌∙◌, subst, append_assoc, arith, length-append}
use Rattle.std.proofs.lemmas.Bool.{cases_lt}
use Rattle.byteorder.specs.Numbers.{length-bytes_high_first}
use Rattle.frame_code.specs.Codes.{number, payload, kind_of, frame_code}
use Rattle.frame_code.specs.Fronts.{IsKind, IsUnfinished, IsFrameFront}
use Rattle.frame_code.specs.Spelled.{IsSpelled}
use Rattle.frame_code.specs.declared.frames.Frame.{Frame}
use Rattle.frame_code.proofs.FrontLaws.{longer_front, frames_have_fronts}
use Rattle.store_log.specs.Held.{Held, May}
use Rattle.store_log.specs.Steps.{IsMore, IsWrong}

pub more_grows : (before now : Held) (n : ℕ) (window more : List ℕ) → IsMore before now n window → IsMore before now n (window ++ more)
more_grows before now n window more m = record {
  frame = m.frame;
  behind = m.behind ++ more;
  spelled = m.spelled;
  begins = sym (append_assoc (frame_code m.frame) m.behind more) ∙ ap (λ (l : List ℕ). l ++ more) m.begins;
  may = m.may;
  held = m.held;
  size = m.size;
}

-- the front of unfinished bytes, where it has their length
unfinished_front : (xs more : List ℕ) → 8 ≤ length xs → IsUnfinished (xs ++ more) → IsUnfinished xs
unfinished_front xs more n u =
    let digits : length (number u.size) ≡ 8 = length-bytes_high_first 8 u.size in
    let l = longer_front xs (number u.size) more u.rest (omega arith) (sym u.whole) in
    let both : length (l.between ++ more) ≡ length u.rest = ap length l.rest in
    let parts : length (l.between ++ more) ≡ length l.between + length more = length-append l.between more in
    let lacks : length u.rest < u.size = u.lacks in
    let fewer : length l.between < u.size = omega arith in
    record { size = u.size; rest = l.between; fits = u.fits; whole = l.longer; lacks = fewer }

behind_front : (xs more : List ℕ) → (length (xs ++ more) < 8) ⊎ IsUnfinished (xs ++ more) → (length xs < 8) ⊎ IsUnfinished xs
behind_front xs more (inl short) =
    let parts : length (xs ++ more) ≡ length xs + length more = length-append xs more in
    inl (omega arith)
behind_front xs more (inr u) = elim (cases_lt (length xs) 8) [
  | inl h ↦ inl h
  | inr h ↦ inr (unfinished_front xs more h u)
]

-- a front of less than an envelope is less than one
pub front_shrinks : (window more : List ℕ) → IsFrameFront (window ++ more) → IsFrameFront window
front_shrinks [] more f = tt
front_shrinks (k ∷ xs) more f = (f.0, behind_front xs more f.1)

-- a frame at the front of the bytes is in the window, or the window is less than an envelope
frame_in : (held : Held) (window more behind : List ℕ) (f : Frame) → IsWrong held window → IsSpelled f → length (frame_code f) ≤ length window
    → frame_code f ++ behind ≡ window ++ more → May held f → ⊥
frame_in held window more behind f w s n e may =
    let l = longer_front window (frame_code f) more behind n (sym e) in
    w.bad f l.between s l.longer may

frame_past : (held : Held) (window more behind : List ℕ) (f : Frame) → IsWrong held window → IsSpelled f → length window < length (frame_code f)
    → frame_code f ++ behind ≡ window ++ more → ⊥
frame_past held window more behind f w s n e =
    let l = longer_front (frame_code f) window behind more (omega arith) e in
    let all : length (window ++ l.between) ≡ length (frame_code f) = ap length l.longer in
    let parts : length (window ++ l.between) ≡ length window + length l.between = length-append window l.between in
    let some_left : l.between ≡ [] → ⊥ = λ none. (let size : length l.between ≡ 0 = ap length none in omega arith) in
    w.finished (frames_have_fronts f window l.between s l.longer some_left)

pub wrong_grows : (held : Held) (window more : List ℕ) → IsWrong held window → IsWrong held (window ++ more)
wrong_grows held window more w = record {
  finished = λ front. w.finished (front_shrinks window more front);
  bad = λ f behind s e may. elim (cases_lt (length window) (length (frame_code f))) [
    | inl h ↦ frame_past held window more behind f w s h e
    | inr h ↦ frame_in held window more behind f w s h e may
  ];
}
