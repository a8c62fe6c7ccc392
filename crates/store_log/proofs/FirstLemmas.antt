-- What stands at the front of a store: a header, a front of one, or neither.
use Rattle.std.proofs.Common.{◌≡◌, ◌↔◌, inl, inr, ℕ, zero, suc, ◌+◌, ◌-◌, ◌<◌, ◌≤◌, ◌==◌, eqb, cond, if◌then◌else◌, Bool, true, false, IsTrue, List, [], ◌∷◌, ◌++◌, length, drop, slice_index, refl, sym, ap, ◌∙◌, subst, append_assoc, arith, length-append, length-drop}
use Rattle.std.proofs.lemmas.List.{append-nil}
use Rattle.std.proofs.lemmas.Bool.{cases_lt}
use Rattle.byteorder.specs.Endian.{big_from}
use Rattle.frame_code.specs.Codes.{payload, kind_of, sixteen_bytes, frame_code}
use Rattle.frame_code.specs.Fronts.{IsFrameFront}
use Rattle.frame_code.specs.Spelled.{IsSpelled}
use Rattle.frame_code.specs.declared.frames.Frame.{Frame}
use Rattle.frame_code.specs.declared.frames.Frame.TheVariants as frame
use Rattle.frame_code.proofs.FrameLaws.{frames_are_told}
use Rattle.frame_code.proofs.FrontLaws.{no_frames, frames_have_fronts}
use Rattle.log_format.specs.Readings.{IsWhole, IsBad}
use Rattle.log_format.proofs.CountLemmas.{AreBytes, sixteen_begin}
use Rattle.store_log.specs.declared.readings.First.{First}
use Rattle.store_log.specs.declared.readings.First.TheVariants.{Ours, Foreign, Unbegun, Bad}
use Rattle.store_log.specs.Firsts.{IsFirst, IsOther, IsWhose, agrees}
use Rattle.store_log.specs.Held.{header, IsUnbegun, IsBadFirst, IsForeign, HasFrames}

-- fewer bytes than a header that are a front of one are less than an envelope
unbegun_is_front : (bytes : List ℕ) → IsUnbegun bytes → IsFrameFront bytes
unbegun_is_front bytes u =
    let all : length (bytes ++ u.more) ≡ length (frame_code (frame.Header u.version u.node u.cluster)) = ap length u.front in
    let parts : length (bytes ++ u.more) ≡ length bytes + length u.more = length-append bytes u.more in
    let size : length (frame_code (frame.Header u.version u.node u.cluster)) ≡ 27 = refl in
    let short : length bytes < 27 = u.short in
    frames_have_fronts (frame.Header u.version u.node u.cluster) bytes u.more u.spelled u.front
    (λ none. (let left : length u.more ≡ 0 = ap length none in omega arith))

-- a whole frame that is no header
whole_is_bad : (f : Frame) (n : ℕ) (bytes : List ℕ) → IsWhole f n bytes → ((v k c : ℕ) → f ≡ frame.Header v k c → ⊥) → IsBadFirst bytes
whole_is_bad f n bytes w other = record {
  no_header = λ v k c rest s e. other v k c (frames_are_told f (frame.Header v k c) w.rest rest w.spelled s (w.begins ∙ sym e)).0;
  begun = λ u. no_frames bytes w.rest f (unbegun_is_front bytes u) w.spelled w.begins;
}

ours : (f : Frame) (n node cluster : ℕ) (bytes : List ℕ) → IsWhole f n bytes → f ≡ header node cluster → IsFirst Ours node cluster bytes
ours f n node cluster bytes w e =
    (w.rest, record { spelled = tt; rules = tt; whole = ap (λ (g : Frame). frame_code g ++ w.rest) (sym e) ∙ w.begins })

another : (f : Frame) (n node cluster : ℕ) (bytes : List ℕ) → IsWhole f n bytes → IsOther f node cluster → IsForeign node cluster bytes
another (frame.Header v k c) n node cluster bytes w o =
    record { version = v; other_node = k; other_cluster = c; rest = w.rest; spelled = w.spelled; whole = w.begins; other = o }
another (frame.Promise g) n node cluster bytes w o = absurd o
another (frame.Accept g) n node cluster bytes w o = absurd o
another (frame.Entry e) n node cluster bytes w o = absurd o
another (frame.Cut k) n node cluster bytes w o = absurd o

pub whole_first : (r : First) (f : Frame) (n node cluster : ℕ) (bytes : List ℕ) → IsWhole f n bytes → IsWhose r f node cluster
    → IsFirst r node cluster bytes
whole_first Ours f n node cluster bytes w o = ours f n node cluster bytes w o
whole_first Foreign f n node cluster bytes w o = another f n node cluster bytes w o
whole_first Unbegun f n node cluster bytes w o = absurd o
whole_first Bad f n node cluster bytes w o = whole_is_bad f n bytes w o

pub bad_first : (bytes : List ℕ) → IsBad bytes → IsBadFirst bytes
bad_first bytes b = record {
  no_header = λ v k c rest s e. b.no_frame (frame.Header v k c) rest s e;
  begun = λ u. b.no_front (unbegun_is_front bytes u);
}

pub short_first : (bytes : List ℕ) → IsFrameFront bytes → (IsUnbegun bytes → ⊥) → IsBadFirst bytes
short_first bytes front never = record {
  no_header = λ v k c rest s e. no_frames bytes rest (frame.Header v k c) front s e;
  begun = never;
}

-- the kind and the length of a header
abbrev pub header_begin : List ℕ
header_begin = 1 ∷ 0 ∷ 0 ∷ 0 ∷ 0 ∷ 0 ∷ 0 ∷ 0 ∷ 18 ∷ []

header_is_begun : (v k c : ℕ) → frame_code (frame.Header v k c) ≡ header_begin ++ (v ∷ k ∷ sixteen_bytes c)
header_is_begun v k c = refl

-- lists that agree
agree_by : (x y : ℕ) (b : Bool) → (if x == y then b else false) ≡ true → (x ≡ y) × (b ≡ true)
agree_by x y b e = grind arith

front_agrees : (xs ys more zs : List ℕ) → xs ++ more ≡ ys ++ zs → agrees xs ys ≡ true
front_agrees [] ys more zs e = refl
front_agrees (x ∷ xs) [] more zs e = refl
front_agrees (x ∷ xs) (y ∷ ys) more zs e =
    let same : x ≡ y = cc in
    let rest : agrees xs ys ≡ true = front_agrees xs ys more zs (cc) in
    grind arith

shorter_agrees : (xs ys : List ℕ) → agrees xs ys ≡ true → length xs ≤ length ys → xs ++ drop (length xs) ys ≡ ys
shorter_agrees [] ys e n = refl
shorter_agrees (x ∷ xs) [] e n = absurd (omega arith)
shorter_agrees (x ∷ xs) (y ∷ ys) e n =
    let both = agree_by x y (agrees xs ys) e in
    ap (λ (k : ℕ). k ∷ (xs ++ drop (length xs) ys)) both.0
    ∙ ap (λ (l : List ℕ). y ∷ l) (shorter_agrees xs ys both.1 (omega arith))

longer_agrees : (xs ys : List ℕ) → agrees xs ys ≡ true → length ys ≤ length xs → ys ++ drop (length ys) xs ≡ xs
longer_agrees xs [] e n = refl
longer_agrees [] (y ∷ ys) e n = absurd (omega arith)
longer_agrees (x ∷ xs) (y ∷ ys) e n =
    let both = agree_by x y (agrees xs ys) e in
    ap (λ (k : ℕ). k ∷ (ys ++ drop (length ys) xs)) (sym both.0)
    ∙ ap (λ (l : List ℕ). x ∷ l) (longer_agrees xs ys both.1 (omega arith))

-- zeros
abbrev zeros : ℕ → List ℕ
zeros zero = []
zeros (suc n) = 0 ∷ zeros n

zeros_are : (n : ℕ) → length (zeros n) ≡ n
zeros_are zero = refl
zeros_are (suc n) = ap (λ (k : ℕ). suc k) (zeros_are n)

zeros_fit : (n : ℕ) → AreBytes (zeros n)
zeros_fit zero zero = omega arith
zeros_fit zero (suc k) = omega arith
zeros_fit (suc n) zero = omega arith
zeros_fit (suc n) (suc k) = zeros_fit n k

both_fit : (xs ys : List ℕ) → AreBytes xs → AreBytes ys → AreBytes (xs ++ ys)
both_fit [] ys hx hy k = hy k
both_fit (x ∷ xs) ys hx hy zero = hx zero
both_fit (x ∷ xs) ys hx hy (suc k) = both_fit xs ys (λ j. hx (suc j)) hy k

behind_fit : (xs ys : List ℕ) → AreBytes (xs ++ ys) → AreBytes ys
behind_fit [] ys h k = h k
behind_fit (x ∷ xs) ys h k = behind_fit xs ys (λ j. h (suc j)) k

-- any 18 bytes are a header's payload
pub record IsHeaderRest (xs : List ℕ) : Type 0 where
  pub version : ℕ
  pub node : ℕ
  pub cluster : ℕ
  pub spelled : IsSpelled (frame.Header version node cluster)
  pub is : version ∷ node ∷ sixteen_bytes cluster ≡ xs

header_rest : (xs : List ℕ) → length xs ≡ 18 → AreBytes xs → IsHeaderRest xs
header_rest [] h fits = absurd (omega arith)
header_rest (v ∷ []) h fits = absurd (omega arith)
header_rest (v ∷ k ∷ xs) h fits =
    let c : ℕ = big_from 0 16 xs in
    let b = sixteen_begin (big_from 0 16 xs) xs [] xs refl (omega arith) (λ j. fits (suc (suc j))) (sym (append-nil xs)) in
    record {
      version = v;
      node = k;
      cluster = big_from 0 16 xs;
      spelled = record { parts = (fits zero, fits (suc zero), b.0); size = omega arith };
      is = ap (λ (l : List ℕ). v ∷ k ∷ l) (sym (append-nil (sixteen_bytes (big_from 0 16 xs))) ∙ b.1);
    }

-- bytes that a header's code has at its front
begun_by : (bytes more rest : List ℕ) → bytes ++ more ≡ header_begin ++ rest → length bytes < 27 → IsHeaderRest rest → IsUnbegun bytes
begun_by bytes more rest e short r = record {
  version = r.version;
  node = r.node;
  cluster = r.cluster;
  more = more;
  spelled = r.spelled;
  front = e ∙ ap (λ (l : List ℕ). header_begin ++ l) (sym r.is);
  short = short;
}

-- bytes that are a header's kind and length, and a part of 18 more
padded : (rest pad bytes : List ℕ) → header_begin ++ rest ≡ bytes → bytes ++ pad ≡ header_begin ++ (rest ++ pad)
padded rest pad bytes e = ap (λ (l : List ℕ). l ++ pad) (sym e) ∙ append_assoc header_begin rest pad

long_begun : (bytes rest : List ℕ) → header_begin ++ rest ≡ bytes → length bytes < 27 → AreBytes bytes → IsUnbegun bytes
long_begun bytes rest e short fits =
    let all : length (header_begin ++ rest) ≡ length bytes = ap length e in
    let parts : length (header_begin ++ rest) ≡ 9 + length rest = length-append header_begin rest in
    let within : length rest ≤ 18 = omega arith in
    let pad : length (zeros (18 - length rest)) ≡ 18 - length rest = zeros_are (18 - length rest) in
    let size : length (rest ++ zeros (18 - length rest)) ≡ length rest + length (zeros (18 - length rest)) =
    length-append rest (zeros (18 - length rest)) in
    let eighteen : length (rest ++ zeros (18 - length rest)) ≡ 18 = omega arith in
    let mine : AreBytes rest = behind_fit header_begin rest (subst AreBytes (sym e) fits) in
    begun_by bytes (zeros (18 - length rest)) (rest ++ zeros (18 - length rest)) (padded rest (zeros (18 - length rest)) bytes e) short
    (header_rest (rest ++ zeros (18 - length rest)) eighteen (both_fit rest (zeros (18 - length rest)) mine (zeros_fit (18 - length rest))))

-- bytes that are a part of a header's kind and length
short_begun : (bytes behind : List ℕ) → bytes ++ behind ≡ header_begin → length bytes < 27 → IsUnbegun bytes
short_begun bytes behind e short =
    begun_by bytes (behind ++ zeros 18) (zeros 18) (sym (append_assoc bytes behind (zeros 18)) ∙ ap (λ (l : List ℕ). l ++ zeros 18) e) short
    (header_rest (zeros 18) (zeros_are 18) (zeros_fit 18))

pub agree_unbegun : (bytes : List ℕ) → length bytes < 27 → AreBytes bytes → agrees bytes header_begin ≡ true → IsUnbegun bytes
agree_unbegun bytes short fits e = elim (cases_lt (length bytes) 9) [
  | inl h ↦ short_begun bytes (drop (length bytes) header_begin) (shorter_agrees bytes header_begin e (omega arith)) short
  | inr h ↦ long_begun bytes (drop 9 bytes) (longer_agrees bytes header_begin e (omega arith)) short fits
]

pub unbegun_agree : (bytes : List ℕ) → IsUnbegun bytes → agrees bytes header_begin ≡ true
unbegun_agree bytes u =
    front_agrees bytes header_begin u.more (u.version ∷ u.node ∷ sixteen_bytes u.cluster) (u.front ∙ header_is_begun u.version u.node u.cluster)

pub unbegun_is : (bytes : List ℕ) (b : Bool) → length bytes < 27 → AreBytes bytes → b ≡ agrees bytes header_begin
    → (b ≡ true) ↔ IsUnbegun bytes
unbegun_is bytes b short fits e =
    (λ yes. agree_unbegun bytes short fits (sym e ∙ yes), λ u. e ∙ unbegun_agree bytes u)

pub not_unbegun : (bytes : List ℕ) → 27 ≤ length bytes → IsUnbegun bytes → ⊥
not_unbegun bytes n u = let short : length bytes < 27 = u.short in omega arith
