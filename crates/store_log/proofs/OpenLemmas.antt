-- What is told of a window over the first bytes of a store holds of the store.
use Rattle.std.proofs.Common.{◌≡◌, inl, inr, ℕ, ◌+◌, ◌<◌, ◌≤◌, List, [], ◌∷◌, ◌++◌, length, take, drop, refl, sym, ap, ◌∙◌, subst, append_assoc, arith, length-append}
use Rattle.std.proofs.lemmas.Bool.{cases_lt}
use Rattle.std.proofs.lemmas.List.{take-append-drop}
use Rattle.std.specs.Io.{StartsWith}
use Rattle.frame_code.specs.Codes.{frame_code}
use Rattle.frame_code.specs.Spelled.{IsSpelled}
use Rattle.frame_code.specs.declared.frames.Frame.TheVariants as frame
use Rattle.frame_code.proofs.FrontLaws.{longer_front}
use Rattle.store_log.specs.declared.readings.First.{First}
use Rattle.store_log.specs.declared.readings.First.TheVariants.{Ours, Foreign, Unbegun, Bad}
use Rattle.store_log.specs.Firsts.{IsFirst}
use Rattle.store_log.specs.Held.{Held, header, IsUnbegun, IsBadFirst, IsForeign}
use Rattle.store_log.specs.Steps.{IsMore, IsWrong}
use Rattle.store_log.proofs.WindowLemmas.{more_grows, wrong_grows}

pub window_bytes : (bytes window : List ℕ) → StartsWith bytes window → window ++ drop (length window) bytes ≡ bytes
window_bytes bytes window s = ap (λ (l : List ℕ). l ++ drop (length window) bytes) (sym s) ∙ take-append-drop (length window) bytes

pub more_in : (before now : Held) (n : ℕ) (rest window : List ℕ) → StartsWith rest window → IsMore before now n window → IsMore before now n rest
more_in before now n rest window s m =
    subst (λ (l : List ℕ). IsMore before now n l) (window_bytes rest window s) (more_grows before now n window (drop (length window) rest) m)

pub wrong_in : (held : Held) (rest window : List ℕ) → StartsWith rest window → IsWrong held window → IsWrong held rest
wrong_in held rest window s w =
    subst (λ (l : List ℕ). IsWrong held l) (window_bytes rest window s) (wrong_grows held window (drop (length window) rest) w)

header_in : (code rest window more bytes : List ℕ) → code ++ rest ≡ window → window ++ more ≡ bytes → code ++ (rest ++ more) ≡ bytes
header_in code rest window more bytes e whole = sym (append_assoc code rest more) ∙ ap (λ (l : List ℕ). l ++ more) e ∙ whole

bad_grows : (window more bytes : List ℕ) → window ++ more ≡ bytes → (length window < 27 → window ≡ bytes) → IsBadFirst window → IsBadFirst bytes
bad_grows window more bytes whole short b = record {
  no_header = λ v k c rest s e. elim (cases_lt (length window) 27) [
    | inl h ↦ b.no_header v k c rest s (e ∙ sym (short h))
    | inr h ↦
        let l = longer_front window (frame_code (frame.Header v k c)) more rest h (whole ∙ sym e) in
        b.no_header v k c l.between s l.longer
  ];
  begun = λ u.
      let all : length (window ++ more) ≡ length bytes = ap length whole in
      let parts : length (window ++ more) ≡ length window + length more = length-append window more in
      let few : length bytes < 27 = u.short in
      let h : length window < 27 = omega arith in
      b.begun (subst IsUnbegun (sym (short h)) u);
}

first_by : (f : First) (node cluster : ℕ) (window more bytes : List ℕ) → window ++ more ≡ bytes → (length window < 27 → window ≡ bytes)
    → IsFirst f node cluster window → IsFirst f node cluster bytes
first_by Ours node cluster window more bytes whole short x =
    (x.0 ++ more, record { spelled = tt; rules = tt; whole = header_in (frame_code (header node cluster)) x.0 window more bytes x.1.whole whole })
first_by Foreign node cluster window more bytes whole short x = record {
  version = x.version;
  other_node = x.other_node;
  other_cluster = x.other_cluster;
  rest = x.rest ++ more;
  spelled = x.spelled;
  whole = header_in (frame_code (frame.Header x.version x.other_node x.other_cluster)) x.rest window more bytes x.whole whole;
  other = x.other;
}
first_by Unbegun node cluster window more bytes whole short x = subst IsUnbegun (short x.short) x
first_by Bad node cluster window more bytes whole short x = bad_grows window more bytes whole short x

pub first_grows : (f : First) (node cluster : ℕ) (window bytes : List ℕ) → StartsWith bytes window → (length window < 27 → window ≡ bytes)
    → IsFirst f node cluster window → IsFirst f node cluster bytes
first_grows f node cluster window bytes s short x =
    first_by f node cluster window (drop (length window) bytes) bytes (window_bytes bytes window s) short x
