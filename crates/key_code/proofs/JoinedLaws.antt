-- The laws of the codes of lists of values, from those of one value's code.
use Rattle.std.proofs.Common.{◌≡◌, ℕ, ◌<◌, ◌^◌, List, [], ◌∷◌, ◌++◌, length, None, refl, sym, ap, ◌∙◌, subst, append_assoc, arith}
use Rattle.std.specs.Ordering.{nat_cmp, ordering_then}
use Rattle.std.specs.Cmp.Lexicographic.{slice_cmp}
use Rattle.std.specs.List.{AllByRecursion}
use Rattle.std.specs.Str.{IsUtf8}
use Rattle.std.proofs.lemmas.List.{append-nil}
use Rattle.cdb_values.specs.Order.{value_order}
use Rattle.cdb_values.specs.declared.values.Value.{Value}
use Rattle.cdb_values.specs.declared.values.Value.TheVariants.{Null, Int, Text, Blob}
use Rattle.key_code.specs.Codes.{joined, ended, counted, key_value, key_code, row_value, row_code, IsInRange, IsKeyValue, HasRowCode, IsRowValue}
use Rattle.key_code.specs.Reads.{Reads, Decodes}
use Rattle.key_code.proofs.ValueLaws.{key_keeps, key_tells, row_tells, ended_tells, counted_tells}

-- a value's code tells it and what is behind it
abbrev pub Tells : (Value → List ℕ) → (Value → Type 0) → Type 0
Tells code Has = (v w : Value) (ps qs : List ℕ) → Has v → Has w → code v ++ ps ≡ code w ++ qs → (v ≡ w) × (ps ≡ qs)

-- a value's code has a first byte
abbrev pub HasFirst : (Value → List ℕ) → Type 0
HasFirst code = (v : Value) (ps : List ℕ) → code v ++ ps ≡ [] → ⊥

-- so do the codes of as many values
pub joined_tells : (code : Value → List ℕ) (Has : Value → Type 0) → Tells code Has → (xs ys : List Value) (ps qs : List ℕ)
    → AllByRecursion Has xs → AllByRecursion Has ys → length xs ≡ length ys → joined code xs ++ ps ≡ joined code ys ++ qs → (xs ≡ ys) × (ps ≡ qs)
joined_tells code Has tells [] [] ps qs hx hy n h = (refl, h)
joined_tells code Has tells [] (y ∷ ys) ps qs hx hy n h = absurd (omega arith)
joined_tells code Has tells (x ∷ xs) [] ps qs hx hy n h = absurd (omega arith)
joined_tells code Has tells (x ∷ xs) (y ∷ ys) ps qs hx hy n h =
    let moved : code x ++ (joined code xs ++ ps) ≡ code y ++ (joined code ys ++ qs) =
    sym (append_assoc (code x) (joined code xs) ps) ∙ h ∙ append_assoc (code y) (joined code ys) qs in
    let one = tells x y (joined code xs ++ ps) (joined code ys ++ qs) hx.0 hy.0 moved in
    let others = joined_tells code Has tells xs ys ps qs hx.1 hy.1 (omega arith) one.1 in
    (ap (λ z. z ∷ xs) one.0 ∙ ap (λ l. y ∷ l) others.0, others.1)

-- what begins with no value's code, and is not empty, ends no code
pub no_values : (code : Value → List ℕ) (Has : Value → Type 0) → Tells code Has → HasFirst code → (row : List Value) (rest : List ℕ)
    → AllByRecursion Has row → (rest ≡ [] → ⊥) → ((v : Value) (ps : List ℕ) → Has v → code v ++ ps ≡ rest → ⊥)
    → (others : List Value) → AllByRecursion Has others → joined code others ≡ joined code row ++ rest → ⊥
no_values code Has tells begins [] rest hr some none [] ho h = some (sym h)
no_values code Has tells begins [] rest hr some none (v ∷ vs) ho h = none v (joined code vs) ho.0 h
no_values code Has tells begins (x ∷ xs) rest hr some none [] ho h =
    begins x (joined code xs ++ rest) (sym (append_assoc (code x) (joined code xs) rest) ∙ sym h)
no_values code Has tells begins (x ∷ xs) rest hr some none (v ∷ vs) ho h =
    let one = tells v x (joined code vs) (joined code xs ++ rest) ho.0 hr.0 (h ∙ append_assoc (code x) (joined code xs) rest) in
    no_values code Has tells begins xs rest hr.1 some none vs ho.1 one.1

-- the code of a key has a first byte
pub key_begins : HasFirst key_value
key_begins Null ps h = cc
key_begins (Int x) ps h = cc
key_begins (Text t) ps h = cc
key_begins (Blob b) ps h = cc

-- byte order of key codes is the order of the values
pub key_order : (xs ys : List Value) → AllByRecursion IsInRange xs → AllByRecursion IsInRange ys
    → slice_cmp nat_cmp (key_code xs) (key_code ys) ≡ slice_cmp value_order xs ys
key_order [] [] hx hy = refl
key_order [] (Null ∷ ys) hx hy = refl
key_order [] (Int y ∷ ys) hx hy = refl
key_order [] (Text y ∷ ys) hx hy = refl
key_order [] (Blob y ∷ ys) hx hy = refl
key_order (Null ∷ xs) [] hx hy = refl
key_order (Int x ∷ xs) [] hx hy = refl
key_order (Text x ∷ xs) [] hx hy = refl
key_order (Blob x ∷ xs) [] hx hy = refl
key_order (x ∷ xs) (y ∷ ys) hx hy =
    key_keeps x y (key_code xs) (key_code ys) hx.0 hy.0 ∙ ap (ordering_then (value_order x y)) (key_order xs ys hx.1 hy.1)

-- a decoder's step over one value
pub joined_more : (code : Value → List ℕ) (values : List Value) (v : Value) (after rest bytes : List ℕ)
    → code v ++ after ≡ rest → joined code values ++ rest ≡ bytes → joined code (values ++ v ∷ []) ++ after ≡ bytes
joined_more code [] v after rest bytes one so_far = ap (λ l. l ++ after) (append-nil (code v)) ∙ one ∙ so_far
joined_more code (x ∷ xs) v after rest bytes one so_far =
    append_assoc (code x) (joined code (xs ++ v ∷ [])) after
    ∙ ap (λ l. code x ++ l) (joined_more code xs v after rest (joined code xs ++ rest) one refl)
    ∙ sym (append_assoc (code x) (joined code xs) rest) ∙ so_far

-- one value more
pub all_more : (Has : Value → Type 0) (values : List Value) (v : Value) → AllByRecursion Has values → Has v
    → AllByRecursion Has (values ++ v ∷ [])
all_more Has [] v all one = (one, tt)
all_more Has (x ∷ xs) v all one = (all.0, all_more Has xs v all.1 one)

-- where no value's code goes on, and bytes are left, they are no values' code
pub decode_dead : (code : Value → List ℕ) (Has : Value → Type 0) → Tells code Has → HasFirst code
    → (values : List Value) (rest bytes : List ℕ) → AllByRecursion Has values → (rest ≡ [] → ⊥) → Reads code Has None rest
    → joined code values ++ rest ≡ bytes → Decodes code Has None bytes
decode_dead code Has tells begins values rest bytes all some none so_far others ho h =
    no_values code Has tells begins values rest all some none others ho (h ∙ sym so_far)

-- keys
pub key_value_tells : Tells key_value IsKeyValue
key_value_tells v w ps qs r s h = key_tells v w ps qs r.range s.range h

pub key_dead : (values : List Value) (rest bytes : List ℕ) → AllByRecursion IsKeyValue values → (rest ≡ [] → ⊥)
    → Reads key_value IsKeyValue None rest → key_code values ++ rest ≡ bytes → Decodes key_value IsKeyValue None bytes
key_dead values rest bytes = decode_dead key_value IsKeyValue key_value_tells key_begins values rest bytes

-- what is escaped there is no text
pub key_no_text : (t after rest : List ℕ) → ended t ++ after ≡ rest → (IsUtf8 t → ⊥) → Reads key_value IsKeyValue None (2 ∷ rest)
key_no_text t after rest one wrong Null ps has h = let e : ◌≡◌ {A = ℕ} 0 2 = cc in omega arith
key_no_text t after rest one wrong (Int x) ps has h = let e : ◌≡◌ {A = ℕ} 1 2 = cc in omega arith
key_no_text t after rest one wrong (Blob b) ps has h = let e : ◌≡◌ {A = ℕ} 3 2 = cc in omega arith
key_no_text t after rest one wrong (Text u) ps has h =
    let behind : ended u ++ ps ≡ rest = cc in
    let both = ended_tells u t ps after (behind ∙ sym one) in
    wrong (subst IsUtf8 both.0 has.text)

-- rows
pub row_begins : HasFirst row_value
row_begins Null ps h = cc
row_begins (Int x) ps h = cc
row_begins (Text t) ps h = cc
row_begins (Blob b) ps h = cc

pub row_value_tells : Tells row_value IsRowValue
row_value_tells v w ps qs r s h = row_tells v w ps qs r.written s.written h

pub row_dead : (values : List Value) (rest bytes : List ℕ) → AllByRecursion IsRowValue values → (rest ≡ [] → ⊥)
    → Reads row_value IsRowValue None rest → row_code values ++ rest ≡ bytes → Decodes row_value IsRowValue None bytes
row_dead values rest bytes = decode_dead row_value IsRowValue row_value_tells row_begins values rest bytes

-- what is counted there is no text
pub row_no_text : (t after rest : List ℕ) → length t < 2 ^ 32 → counted t ++ after ≡ rest → (IsUtf8 t → ⊥)
    → Reads row_value IsRowValue None (2 ∷ rest)
row_no_text t after rest short one wrong Null ps has h = let e : ◌≡◌ {A = ℕ} 0 2 = cc in omega arith
row_no_text t after rest short one wrong (Int x) ps has h = let e : ◌≡◌ {A = ℕ} 1 2 = cc in omega arith
row_no_text t after rest short one wrong (Blob b) ps has h = let e : ◌≡◌ {A = ℕ} 3 2 = cc in omega arith
row_no_text t after rest short one wrong (Text u) ps has h =
    let behind : counted u ++ ps ≡ rest = cc in
    let both = counted_tells u t ps after has.written.short short (behind ∙ sym one) in
    wrong (subst IsUtf8 both.0 has.text)

-- the values of a key, told by their code
pub key_codes_are_told : (xs ys : List Value) (ps qs : List ℕ) → AllByRecursion IsInRange xs → AllByRecursion IsInRange ys
    → length xs ≡ length ys → key_code xs ++ ps ≡ key_code ys ++ qs → (xs ≡ ys) × (ps ≡ qs)
key_codes_are_told xs ys ps qs hx hy n h = joined_tells key_value IsInRange key_tells xs ys ps qs hx hy n h

pub key_codes_begin_no_other : (xs ys : List Value) (ps : List ℕ) → AllByRecursion IsInRange xs → AllByRecursion IsInRange ys
    → length xs ≡ length ys → key_code xs ++ ps ≡ key_code ys → (xs ≡ ys) × (ps ≡ [])
key_codes_begin_no_other xs ys ps hx hy n h = key_codes_are_told xs ys ps [] hx hy n (h ∙ sym (append-nil (key_code ys)))

-- the values of a row, told by their code
pub row_codes_are_told : (xs ys : List Value) (ps qs : List ℕ) → AllByRecursion HasRowCode xs → AllByRecursion HasRowCode ys
    → length xs ≡ length ys → row_code xs ++ ps ≡ row_code ys ++ qs → (xs ≡ ys) × (ps ≡ qs)
row_codes_are_told xs ys ps qs hx hy n h = joined_tells row_value HasRowCode row_tells xs ys ps qs hx hy n h

pub row_codes_begin_no_other : (xs ys : List Value) (ps : List ℕ) → AllByRecursion HasRowCode xs → AllByRecursion HasRowCode ys
    → length xs ≡ length ys → row_code xs ++ ps ≡ row_code ys → (xs ≡ ys) × (ps ≡ [])
row_codes_begin_no_other xs ys ps hx hy n h = row_codes_are_told xs ys ps [] hx hy n (h ∙ sym (append-nil (row_code ys)))
