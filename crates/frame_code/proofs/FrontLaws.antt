-- Bytes that are less than an envelope.
use Rattle.std.proofs.Common.{◌≡◌, ◌⊎◌, inl, inr, ℕ, zero, suc, ◌+◌, ◌^◌, ◌<◌, ◌≤◌, List, [], ◌∷◌, ◌++◌, length, refl, sym, ap, ◌∙◌, subst, append_assoc, arith, length-append}
use Rattle.byteorder.specs.Numbers.{length-bytes_high_first}
use Rattle.key_code.proofs.ValueLaws.{digits_tell}
use Rattle.frame_code.specs.declared.frames.Frame.{Frame}
use Rattle.frame_code.specs.declared.frames.Frame.TheVariants as frames
use Rattle.frame_code.specs.Codes.{number, payload, kind_of, envelope, frame_code}
use Rattle.frame_code.specs.Spelled.{IsSpelled}
use Rattle.frame_code.specs.Fronts.{IsKind, IsUnfinished, IsFrameFront}

-- an envelope's length and payload, as a front of the bytes behind its kind, are no unfinished bytes
pub no_envelope : (x rest bytes : List ℕ) → length x < 2 ^ 64 → (length bytes < 8) ⊎ IsUnfinished bytes
    → (number (length x) ++ x) ++ rest ≡ bytes → ⊥
no_envelope x rest bytes hx (inl short) e =
    let digits : length (number (length x)) ≡ 8 = length-bytes_high_first 8 (length x) in
    let all : length ((number (length x) ++ x) ++ rest) ≡ length bytes = ap length e in
    let outer : length ((number (length x) ++ x) ++ rest) ≡ length (number (length x) ++ x) + length rest = length-append (number (length x) ++ x) rest in
    let inner : length (number (length x) ++ x) ≡ length (number (length x)) + length x = length-append (number (length x)) x in
    omega arith
no_envelope x rest bytes hx (inr u) e =
    let moved : number (length x) ++ (x ++ rest) ≡ number u.size ++ u.rest =
    sym (append_assoc (number (length x)) x rest) ∙ e ∙ sym u.whole in
    let parts = digits_tell 8 (length x) u.size (x ++ rest) u.rest hx u.fits moved in
    let size : length x ≡ u.size = parts.0 in
    let behind : length (x ++ rest) ≡ length u.rest = ap length parts.1 in
    let outer : length (x ++ rest) ≡ length x + length rest = length-append x rest in
    let lacks : length u.rest < u.size = u.lacks in
    omega arith

pub no_frames : (bytes rest : List ℕ) (f : Frame) → IsFrameFront bytes → IsSpelled f → frame_code f ++ rest ≡ bytes → ⊥
no_frames [] rest f front h e = cc
no_frames (kind ∷ bytes) rest f front h e = no_envelope (payload f) rest bytes h.size front.1 (cc)

-- the longer of two fronts of one list begins with the other
pub record Longer (xs ys ps qs : List ℕ) : Type 0 where
  pub between : List ℕ
  pub longer : ys ++ between ≡ xs
  pub rest : between ++ ps ≡ qs

pub longer_front : (xs ys ps qs : List ℕ) → length ys ≤ length xs → xs ++ ps ≡ ys ++ qs → Longer xs ys ps qs
longer_front xs [] ps qs n e = record { between = xs; longer = refl; rest = e }
longer_front [] (y ∷ ys) ps qs n e = absurd (omega arith)
longer_front (x ∷ xs) (y ∷ ys) ps qs n e =
    let firsts : x ≡ y = cc in
    let l = longer_front xs ys ps qs (omega arith) (cc) in
    record { between = l.between; longer = ap (λ z. z ∷ (ys ++ l.between)) (sym firsts) ∙ ap (λ z. x ∷ z) l.longer; rest = l.rest }

some_length : (more : List ℕ) → (more ≡ [] → ⊥) → 0 < length more
some_length [] some = absurd (some refl)
some_length (m ∷ more) some = omega arith

-- a front of an envelope behind its kind
unfinished : (payload bytes more : List ℕ) → length payload < 2 ^ 64 → bytes ++ more ≡ number (length payload) ++ payload
    → (more ≡ [] → ⊥) → 8 ≤ length bytes → IsUnfinished bytes
unfinished payload bytes more fits e some n =
    let digits : length (number (length payload)) ≡ 8 = length-bytes_high_first 8 (length payload) in
    let l = longer_front bytes (number (length payload)) more payload (omega arith) e in
    let both : length (l.between ++ more) ≡ length payload = ap length l.rest in
    let parts : length (l.between ++ more) ≡ length l.between + length more = length-append l.between more in
    let left : 0 < length more = some_length more some in
    record { size = length payload; rest = l.between; fits = fits; whole = l.longer; lacks = omega arith }

lt_or_le : (n m : ℕ) → (n < m) ⊎ (m ≤ n)
lt_or_le zero zero = inr (omega arith)
lt_or_le zero (suc m) = inl (omega arith)
lt_or_le (suc n) zero = inr (omega arith)
lt_or_le (suc n) (suc m) = later (lt_or_le n m)
  where
    later : (n < m) ⊎ (m ≤ n) → (suc n < suc m) ⊎ (suc m ≤ suc n)
    later (inl h) = inl (omega arith)
    later (inr h) = inr (omega arith)

pub fronts_are_short : (kind : ℕ) (payload bytes more : List ℕ) → IsKind kind → length payload < 2 ^ 64
    → bytes ++ more ≡ envelope kind payload → (more ≡ [] → ⊥) → IsFrameFront bytes
fronts_are_short kind payload [] more k fits e some = tt
fronts_are_short kind payload (b ∷ bytes) more k fits e some =
    let kinds : b ≡ kind = cc in
    (subst IsKind (sym kinds) k, either (lt_or_le (length bytes) 8))
  where
    either : (length bytes < 8) ⊎ (8 ≤ length bytes) → (length bytes < 8) ⊎ IsUnfinished bytes
    either (inl short) = inl short
    either (inr n) = inr (unfinished payload bytes more fits (cc) some n)

-- each frame is of a kind
kinds_are_kinds : (f : Frame) → IsKind (kind_of f)
kinds_are_kinds (frames.Header version node cluster) = (omega arith, omega arith)
kinds_are_kinds (frames.Promise generation) = (omega arith, omega arith)
kinds_are_kinds (frames.Accept generation) = (omega arith, omega arith)
kinds_are_kinds (frames.Entry entry) = (omega arith, omega arith)
kinds_are_kinds (frames.Cut length) = (omega arith, omega arith)

pub frames_have_fronts : (f : Frame) (bytes more : List ℕ) → IsSpelled f → bytes ++ more ≡ frame_code f
    → (more ≡ [] → ⊥) → IsFrameFront bytes
frames_have_fronts f bytes more h e some =
    fronts_are_short (kind_of f) (payload f) bytes more (kinds_are_kinds f) h.size e some
