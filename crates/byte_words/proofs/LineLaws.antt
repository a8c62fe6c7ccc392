-- Lines: where the first one ends, and what is dropped at the end of one.
use Rattle.std.proofs.Common.{◌≡◌, ℕ, ◌<◌, ◌≤◌, List, [], ◌∷◌, ◌++◌, length, Bool, true, false, not, ◌==◌, refl, sym, ◌∙◌, ap, subst, append_assoc, arith, if◌then◌else◌}
use Rattle.byte_words.specs.Words.{front, behind, is_blank}
use Rattle.byte_words.specs.Lines.{lines_of_bytes, in_front, but_last, without_return, without_end, kept_before}

-- all bytes but LF
abbrev pub in_line : ℕ → Bool
in_line b = not (b == 10)

abbrev pub others_of : List ℕ → List ℕ
others_of [] = []
others_of (b ∷ bs) = bs

pub first_line : (b : ℕ) (bs : List ℕ) → lines_of_bytes (b ∷ bs) ≡ front in_line (b ∷ bs) ∷ lines_of_bytes (others_of (behind in_line (b ∷ bs)))
first_line b [] = elim (b == 10) as (λ v. (if v then [] ∷ lines_of_bytes [] else in_front b (lines_of_bytes [])) ≡ ((if not v then b ∷ front in_line [] else []) ∷ lines_of_bytes (others_of (if not v then behind in_line [] else b ∷ [])))) [ true ↦ refl | false ↦ refl ]
first_line b (c ∷ cs) = let e = first_line c cs in elim (b == 10) as (λ v. (if v then [] ∷ lines_of_bytes (c ∷ cs) else in_front b (lines_of_bytes (c ∷ cs))) ≡ ((if not v then b ∷ front in_line (c ∷ cs) else []) ∷ lines_of_bytes (others_of (if not v then behind in_line (c ∷ cs) else b ∷ c ∷ cs)))) [ true ↦ refl | false ↦ ap (in_front b) e ]

-- where no LF stands behind the first line, it is the only one
pub line_ends : (bytes : List ℕ) → 0 < length bytes → length (behind in_line bytes) ≡ 0 → lines_of_bytes bytes ≡ front in_line bytes ∷ lines_of_bytes (behind in_line bytes)
line_ends [] h e = absurd (omega arith)
line_ends (b ∷ bs) h e = go (behind in_line (b ∷ bs)) e (first_line b bs)
  where
    go : (after : List ℕ) → length after ≡ 0 → lines_of_bytes (b ∷ bs) ≡ front in_line (b ∷ bs) ∷ lines_of_bytes (others_of after) → lines_of_bytes (b ∷ bs) ≡ front in_line (b ∷ bs) ∷ lines_of_bytes after
    go [] e h = h
    go (c ∷ cs) e h = absurd (omega arith)

-- where one does, the others stand behind it
pub line_goes_on : (bytes : List ℕ) (c : ℕ) (others : List ℕ) → 0 < length bytes → behind in_line bytes ≡ c ∷ others → lines_of_bytes bytes ≡ front in_line bytes ∷ lines_of_bytes others
line_goes_on [] c others h e = absurd (omega arith)
line_goes_on (b ∷ bs) c others h e = first_line b bs ∙ ap (λ x. front in_line (b ∷ bs) ∷ lines_of_bytes (others_of x)) e

pub behind_is_shorter : (test : ℕ → Bool) (bytes : List ℕ) → length (behind test bytes) ≤ length bytes
behind_is_shorter test [] = omega arith
behind_is_shorter test (b ∷ bs) = let k = behind_is_shorter test bs in elim (test b) as (λ v. length (if v then behind test bs else b ∷ bs) ≤ length (b ∷ bs)) [ true ↦ omega arith | false ↦ omega arith ]

cons_if : (c : Bool) (x : ℕ) (xs ys : List ℕ) → x ∷ (if c then xs else ys) ≡ (if c then x ∷ xs else x ∷ ys)
cons_if true x xs ys = refl
cons_if false x xs ys = refl

return_at_end : (bs : List ℕ) (b : ℕ) → without_return (bs ++ b ∷ []) ≡ (if b == 13 then bs else bs ++ b ∷ [])
return_at_end [] b = refl
return_at_end (x ∷ []) b = cons_if (b == 13) x [] (b ∷ [])
return_at_end (x ∷ y ∷ ys) b = ap (λ zs. x ∷ zs) (return_at_end (y ∷ ys) b) ∙ cons_if (b == 13) x (y ∷ ys) (y ∷ ys ++ b ∷ [])

pub return_dropped : (line bs : List ℕ) (b : ℕ) → line ≡ bs ++ b ∷ [] → b ≡ 13 → bs ≡ without_return line
return_dropped line bs b e h = sym (ap without_return e ∙ (return_at_end bs b ∙ subst (λ x. (if x == 13 then bs else bs ++ x ∷ []) ≡ bs) (sym h) refl))

not_equal : (a b : ℕ) → (a ≡ b → ⊥) → (a == b) ≡ false
not_equal a b h = grind arith

pub return_kept : (line bs : List ℕ) (b : ℕ) → line ≡ bs ++ b ∷ [] → (b ≡ 13 → ⊥) → line ≡ without_return line
return_kept line bs b e h =
    let k : (b == 13) ≡ false = not_equal b 13 h in
    sym (ap without_return e ∙ (return_at_end bs b ∙ (rw k (sym e))))

kept_some : (x b : ℕ) (bs : List ℕ) → kept_before x (bs ++ b ∷ []) ≡ x ∷ (bs ++ b ∷ [])
kept_some x b [] = refl
kept_some x b (c ∷ cs) = refl

drops_blank : (bs : List ℕ) (b : ℕ) → is_blank b ≡ true → without_end (bs ++ b ∷ []) ≡ without_end bs
drops_blank [] b h = rw h refl
drops_blank (x ∷ xs) b h = ap (kept_before x) (drops_blank xs b h)

keeps_other : (bs : List ℕ) (b : ℕ) → is_blank b ≡ false → without_end (bs ++ b ∷ []) ≡ bs ++ b ∷ []
keeps_other [] b h = rw h refl
keeps_other (x ∷ xs) b h = ap (kept_before x) (keeps_other xs b h) ∙ kept_some x b xs

pub blank_dropped : (bytes bs : List ℕ) (b : ℕ) → bytes ≡ bs ++ b ∷ [] → is_blank b ≡ true → without_end bs ≡ without_end bytes
blank_dropped bytes bs b e h = sym (ap without_end e ∙ drops_blank bs b h)

pub blank_kept : (bytes bs : List ℕ) (b : ℕ) → bytes ≡ bs ++ b ∷ [] → is_blank b ≡ false → bytes ≡ without_end bytes
blank_kept bytes bs b e h = sym (ap without_end e ∙ (keeps_other bs b h ∙ sym e))

pub no_bytes : (bytes : List ℕ) → length bytes ≡ 0 → bytes ≡ without_end bytes
no_bytes [] h = refl
no_bytes (b ∷ bs) h = absurd (omega arith)

pub no_line : (bytes : List ℕ) → length bytes ≡ 0 → bytes ≡ without_return bytes
no_line [] h = refl
no_line (b ∷ bs) h = absurd (omega arith)

-- a front of bytes behind which only their last line can begin
pub record IsFrontOf (bytes front_bytes : List ℕ) : Type 0 where
  pub line : List ℕ
  pub tail : List ℕ
  pub cut : bytes ≡ front_bytes ++ tail
  pub one : lines_of_bytes tail ≡ line ∷ []

-- the last byte alone is one line
pub last_byte : (bytes others : List ℕ) (b : ℕ) → bytes ≡ others ++ b ∷ [] → IsFrontOf bytes others
last_byte bytes others b e = go (b == 10) refl
  where
    go : (v : Bool) → (b == 10) ≡ v → IsFrontOf bytes others
    go true h = record { line = []; tail = b ∷ []; cut = e; one = rw h refl }
    go false h = record { line = b ∷ []; tail = b ∷ []; cut = e; one = rw h refl }

-- a byte more that is no LF belongs to that line
pub one_byte_more : (bytes rest front_bytes : List ℕ) (b : ℕ) → IsFrontOf bytes rest → rest ≡ front_bytes ++ b ∷ [] → (b ≡ 10 → ⊥) → IsFrontOf bytes front_bytes
one_byte_more bytes rest front_bytes b f e n = let h : (b == 10) ≡ false = not_equal b 10 n in record {
  line = b ∷ f.line;
  tail = b ∷ f.tail;
  cut = f.cut ∙ (ap (λ x. x ++ f.tail) e ∙ append_assoc front_bytes (b ∷ []) f.tail);
  one = let k = f.one in rw (h, k) refl;
}

-- behind an LF a line begins
has_line : (bs : List ℕ) → (line : List ℕ) × ((lines : List (List ℕ)) × (lines_of_bytes (bs ++ 10 ∷ []) ≡ line ∷ lines))
has_line [] = ([], ([], refl))
has_line (b ∷ bs) = let k = has_line bs in
    elim (b == 10) as (λ v. (line : List ℕ) × ((lines : List (List ℕ)) × ((if v then [] ∷ lines_of_bytes (bs ++ 10 ∷ []) else in_front b (lines_of_bytes (bs ++ 10 ∷ []))) ≡ line ∷ lines)))
    [ true ↦ ([], (lines_of_bytes (bs ++ 10 ∷ []), refl)) | false ↦ (b ∷ k.0, (k.1.0, ap (in_front b) k.1.1)) ]

in_front_append : (b : ℕ) (bs : List ℕ) (others : List (List ℕ)) → in_front b (lines_of_bytes (bs ++ 10 ∷ []) ++ others) ≡ in_front b (lines_of_bytes (bs ++ 10 ∷ [])) ++ others
in_front_append b bs others = let k = has_line bs in
    ap (λ x. in_front b (x ++ others)) k.1.1 ∙ sym (ap (λ x. in_front b x ++ others) k.1.1)

lines_behind_end : (front_bytes tail : List ℕ) → lines_of_bytes (front_bytes ++ 10 ∷ tail) ≡ lines_of_bytes (front_bytes ++ 10 ∷ []) ++ lines_of_bytes tail
lines_behind_end [] tail = refl
lines_behind_end (b ∷ bs) tail = let e = lines_behind_end bs tail in
    elim (b == 10) as (λ v. (if v then [] ∷ lines_of_bytes (bs ++ 10 ∷ tail) else in_front b (lines_of_bytes (bs ++ 10 ∷ tail))) ≡ (if v then [] ∷ lines_of_bytes (bs ++ 10 ∷ []) else in_front b (lines_of_bytes (bs ++ 10 ∷ []))) ++ lines_of_bytes tail)
    [ true ↦ ap (λ x. [] ∷ x) e | false ↦ ap (in_front b) e ∙ in_front_append b bs (lines_of_bytes tail) ]

but_last_of : (lines : List (List ℕ)) (line : List ℕ) → but_last (lines ++ line ∷ []) ≡ lines
but_last_of [] line = refl
but_last_of (x ∷ []) line = refl
but_last_of (x ∷ y ∷ ys) line = ap (λ zs. x ∷ zs) (but_last_of (y ∷ ys) line)

-- where the front ends with an LF, its lines are all but the last
pub front_lines : (bytes rest front_bytes : List ℕ) (b : ℕ) → IsFrontOf bytes rest → rest ≡ front_bytes ++ b ∷ [] → b ≡ 10 → lines_of_bytes rest ≡ but_last (lines_of_bytes bytes)
front_lines bytes rest front_bytes b f e h =
    let r : rest ≡ front_bytes ++ 10 ∷ [] = subst (λ x. rest ≡ front_bytes ++ x ∷ []) h e in
    let c = f.cut ∙ (ap (λ x. x ++ f.tail) r ∙ append_assoc front_bytes (10 ∷ []) f.tail) in
    let l = ap lines_of_bytes c ∙ (lines_behind_end front_bytes f.tail ∙ (ap (λ x. lines_of_bytes x ++ lines_of_bytes f.tail) (sym r) ∙ ap (λ x. lines_of_bytes rest ++ x) f.one)) in
    sym (ap but_last l ∙ but_last_of (lines_of_bytes rest) f.line)

-- where nothing is left of the front, there is one line
pub no_lines : (bytes rest : List ℕ) → IsFrontOf bytes rest → length rest ≡ 0 → lines_of_bytes rest ≡ but_last (lines_of_bytes bytes)
no_lines bytes [] f h = let l = ap lines_of_bytes f.cut ∙ f.one in sym (ap but_last l)
no_lines bytes (b ∷ bs) f h = absurd (omega arith)
