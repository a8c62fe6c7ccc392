-- Spellings of what is put together: of two parts, of a part seen as another, and of lists of parts.
use Rattle.std.proofs.Common.{◌≡◌, ℕ, ◌^◌, ◌<◌, List, [], ◌∷◌, ◌++◌, length, true, false, refl, sym, ap, ◌∙◌, append_assoc, arith}
use Rattle.std.specs.List.{flat_map, AllByRecursion}
use Rattle.key_code.proofs.ValueLaws.{front_tells, digits_tell}
use Rattle.frame_code.specs.Codes.{byte, two_bytes, number, sixteen_bytes, flag, few, many}
use Rattle.frame_code.specs.Spelled.{IsByte, IsTwoBytes, IsNumber, IsSixteenBytes, AreFew, AreMany}
use Rattle.frame_code.specs.Tells.{Tells, Lacks, Begins}

-- two parts, one behind the other
abbrev pub Both : {A B : Type 0} → (A → Type 0) → (B → Type 0) → A × B → Type 0
Both IsA IsB p = IsA p.0 × IsB p.1

abbrev pub both : {A B : Type 0} → (A → List ℕ) → (B → List ℕ) → A × B → List ℕ
both a b p = a p.0 ++ b p.1

pub both_tell : {A B : Type 0} (a : A → List ℕ) (IsA : A → Type 0) (b : B → List ℕ) (IsB : B → Type 0)
    → Tells a IsA → Tells b IsB → Tells (both a b) (Both IsA IsB)
both_tell a IsA b IsB ta tb (x, y) (z, w) ps qs hv hw e =
    let moved : a x ++ (b y ++ ps) ≡ a z ++ (b w ++ qs) = sym (append_assoc (a x) (b y) ps) ∙ e ∙ append_assoc (a z) (b w) qs in
    let one = ta x z (b y ++ ps) (b w ++ qs) hv.0 hw.0 moved in
    let two = tb y w ps qs hv.1 hw.1 one.1 in
    (ap (λ l. (l, y)) one.0 ∙ ap (λ l. (z, l)) two.0, two.1)

-- where no first part stands, no two parts do; nor where no second part stands behind a first
pub no_first : {A B : Type 0} (a : A → List ℕ) (IsA : A → Type 0) (b : B → List ℕ) (IsB : B → Type 0) (bytes : List ℕ)
    → Lacks a IsA bytes → Lacks (both a b) (Both IsA IsB) bytes
no_first a IsA b IsB bytes none (x, y) rest h e = none x (b y ++ rest) h.0 (sym (append_assoc (a x) (b y) rest) ∙ e)

pub no_second : {A B : Type 0} (a : A → List ℕ) (IsA : A → Type 0) (b : B → List ℕ) (IsB : B → Type 0) → Tells a IsA
    → (x : A) (rest bytes : List ℕ) → Begins a IsA x rest bytes → Lacks b IsB rest → Lacks (both a b) (Both IsA IsB) bytes
no_second a IsA b IsB ta x rest bytes here none (z, w) more h e =
    let one = ta z x (b w ++ more) rest h.0 here.0 (sym (append_assoc (a z) (b w) more) ∙ e ∙ sym here.1) in
    none w more h.1 one.1

pub both_begin : {A B : Type 0} (a : A → List ℕ) (IsA : A → Type 0) (b : B → List ℕ) (IsB : B → Type 0)
    → (x : A) (y : B) (after rest bytes : List ℕ) → Begins a IsA x rest bytes → Begins b IsB y after rest
    → Begins (both a b) (Both IsA IsB) (x, y) after bytes
both_begin a IsA b IsB x y after rest bytes first second =
    ((first.0, second.0), append_assoc (a x) (b y) after ∙ ap (λ l. a x ++ l) second.1 ∙ first.1)

-- what is spelled as its parts are
pub as_parts_tell : {A B : Type 0} (a : A → List ℕ) (IsA : A → Type 0) → Tells a IsA → (b : B → List ℕ) (IsB : B → Type 0)
    → (to : B → A) (from : A → B) → ((v : B) → from (to v) ≡ v) → ((v : B) → IsB v → IsA (to v))
    → ((v : B) → b v ≡ a (to v)) → Tells b IsB
as_parts_tell a IsA ta b IsB to from back has same v w ps qs hv hw e =
    let parts = ta (to v) (to w) ps qs (has v hv) (has w hw)
    (ap (λ l. l ++ ps) (sym (same v)) ∙ e ∙ ap (λ l. l ++ qs) (same w)) in
    (sym (back v) ∙ ap from parts.0 ∙ back w, parts.1)

-- numbers
pub bytes_tell : Tells byte IsByte
bytes_tell v w ps qs hv hw e = (cc, cc)

pub two_bytes_tell : Tells two_bytes IsTwoBytes
two_bytes_tell v w ps qs hv hw e = digits_tell 2 v w ps qs hv hw e

pub numbers_tell : Tells number IsNumber
numbers_tell v w ps qs hv hw e =
    let v_fits : v < 256 ^ 8 = omega arith in
    let w_fits : w < 256 ^ 8 = omega arith in
    digits_tell 8 v w ps qs v_fits w_fits e

pub sixteen_bytes_tell : Tells sixteen_bytes IsSixteenBytes
sixteen_bytes_tell v w ps qs hv hw e = digits_tell 16 v w ps qs hv hw e

abbrev pub Any : {A : Type 0} → A → Type 0
Any v = Unit {0}

pub flags_tell : Tells flag Any
flags_tell false false ps qs hv hw e = (refl, cc)
flags_tell true true ps qs hv hw e = (refl, cc)
flags_tell false true ps qs hv hw e = let b : ◌≡◌ {A = ℕ} 0 1 = cc in absurd (omega arith)
flags_tell true false ps qs hv hw e = let b : ◌≡◌ {A = ℕ} 1 0 = cc in absurd (omega arith)

-- as many parts
pub parts_tell : {A : Type 0} (code : A → List ℕ) (Has : A → Type 0) → Tells code Has → (xs ys : List A) (ps qs : List ℕ)
    → AllByRecursion Has xs → AllByRecursion Has ys → length xs ≡ length ys
    → flat_map code xs ++ ps ≡ flat_map code ys ++ qs → (xs ≡ ys) × (ps ≡ qs)
parts_tell code Has tells [] [] ps qs hx hy n h = (refl, h)
parts_tell code Has tells [] (y ∷ ys) ps qs hx hy n h = absurd (omega arith)
parts_tell code Has tells (x ∷ xs) [] ps qs hx hy n h = absurd (omega arith)
parts_tell code Has tells (x ∷ xs) (y ∷ ys) ps qs hx hy n h =
    let moved : code x ++ (flat_map code xs ++ ps) ≡ code y ++ (flat_map code ys ++ qs) =
    sym (append_assoc (code x) (flat_map code xs) ps) ∙ h ∙ append_assoc (code y) (flat_map code ys) qs in
    let one = tells x y (flat_map code xs ++ ps) (flat_map code ys ++ qs) hx.0 hy.0 moved in
    let others = parts_tell code Has tells xs ys ps qs hx.1 hy.1 (omega arith) one.1 in
    (ap (λ z. z ∷ xs) one.0 ∙ ap (λ l. y ∷ l) others.0, others.1)

-- parts behind their number, however it is spelled
pub listed_tell : {A : Type 0} (count : ℕ → List ℕ) (IsCount : ℕ → Type 0) → Tells count IsCount
    → (code : A → List ℕ) (Has : A → Type 0) → Tells code Has → (xs ys : List A) (ps qs : List ℕ)
    → IsCount (length xs) → IsCount (length ys) → AllByRecursion Has xs → AllByRecursion Has ys
    → (count (length xs) ++ flat_map code xs) ++ ps ≡ (count (length ys) ++ flat_map code ys) ++ qs → (xs ≡ ys) × (ps ≡ qs)
listed_tell count IsCount counts code Has tells xs ys ps qs cx cy hx hy e =
    let moved : count (length xs) ++ (flat_map code xs ++ ps) ≡ count (length ys) ++ (flat_map code ys ++ qs) =
    sym (append_assoc (count (length xs)) (flat_map code xs) ps) ∙ e ∙ append_assoc (count (length ys)) (flat_map code ys) qs in
    let one = counts (length xs) (length ys) (flat_map code xs ++ ps) (flat_map code ys ++ qs) cx cy moved in
    parts_tell code Has tells xs ys ps qs hx hy one.0 one.1

pub few_tell : {A : Type 0} (code : A → List ℕ) (Has : A → Type 0) → Tells code Has → Tells (few code) (AreFew Has)
few_tell code Has tells xs ys ps qs hx hy e =
    listed_tell byte IsByte bytes_tell code Has tells xs ys ps qs hx.count hy.count hx.each hy.each e

pub many_tell : {A : Type 0} (code : A → List ℕ) (Has : A → Type 0) → Tells code Has → Tells (many code) (AreMany Has)
many_tell code Has tells xs ys ps qs hx hy e =
    listed_tell number IsNumber numbers_tell code Has tells xs ys ps qs hx.count hy.count hx.each hy.each e

-- bytes behind their length, however it is spelled
pub counted_tell : (count : ℕ → List ℕ) (IsCount : ℕ → Type 0) → Tells count IsCount → (xs ys ps qs : List ℕ)
    → IsCount (length xs) → IsCount (length ys)
    → (count (length xs) ++ xs) ++ ps ≡ (count (length ys) ++ ys) ++ qs → (xs ≡ ys) × (ps ≡ qs)
counted_tell count IsCount counts xs ys ps qs cx cy e =
    let moved : count (length xs) ++ (xs ++ ps) ≡ count (length ys) ++ (ys ++ qs) =
    sym (append_assoc (count (length xs)) xs ps) ∙ e ∙ append_assoc (count (length ys)) ys qs in
    let one = counts (length xs) (length ys) (xs ++ ps) (ys ++ qs) cx cy moved in
    front_tells xs ys ps qs one.0 one.1
