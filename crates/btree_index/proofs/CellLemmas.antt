-- The cells of a key.
use Rattle.std.proofs.Common.{◌≡◌, ℕ, ◌+◌, ◌^◌, ◌<◌, ◌≤◌, List, [], ◌++◌, length, take, drop, sym, ap, ◌∙◌, arith, length-append}
use Rattle.std.proofs.lemmas.List.{append-nil}
use Rattle.std.proofs.Math.Seq.{drop-append_seam, drop-append-add, take-append_seam}
use Rattle.byteorder.specs.Endian.{big_number, big_bytes}
use Rattle.byteorder.specs.Numbers.{big_number-reads_back, length-bytes_high_first}
use Rattle.btree_index.specs.Cells.{key_size, key_of_cell, value_of_cell, child_of, leaf_cell, inner_cell, IsLeafCell, IsInnerCell}

size_is : (key rest : List ℕ) → length key < 2 ^ 16 → key_size (big_bytes 2 (length key) ++ (key ++ rest)) ≡ length key
size_is key rest h = big_number-reads_back 2 (length key) (key ++ rest) h

behind_size : (n : ℕ) (rest : List ℕ) → drop 2 (big_bytes 2 n ++ rest) ≡ rest
behind_size n rest = ap (λ (k : ℕ). drop k (big_bytes 2 n ++ rest)) (sym (length-bytes_high_first 2 n)) ∙ drop-append_seam (big_bytes 2 n) rest

pub key_of-cell : (key rest : List ℕ) → length key < 2 ^ 16 → key_of_cell (big_bytes 2 (length key) ++ (key ++ rest)) ≡ key
key_of-cell key rest h =
    ap (λ (n : ℕ). take n (drop 2 (big_bytes 2 (length key) ++ (key ++ rest)))) (size_is key rest h)
    ∙ ap (take (length key)) (behind_size (length key) (key ++ rest)) ∙ take-append_seam key rest

pub value_of-cell : (key rest : List ℕ) → length key < 2 ^ 16 → value_of_cell (big_bytes 2 (length key) ++ (key ++ rest)) ≡ rest
value_of-cell key rest h =
    let two : 2 ≡ length (big_bytes 2 (length key)) = sym (length-bytes_high_first 2 (length key)) in
    ap (λ (n : ℕ). drop (2 + n) (big_bytes 2 (length key) ++ (key ++ rest))) (size_is key rest h)
    ∙ ap (λ (n : ℕ). drop (n + length key) (big_bytes 2 (length key) ++ (key ++ rest))) two
    ∙ drop-append-add (big_bytes 2 (length key)) (key ++ rest) (length key) ∙ drop-append_seam key rest

pub cell_length : (key rest : List ℕ) → length (big_bytes 2 (length key) ++ (key ++ rest)) ≡ 2 + (length key + length rest)
cell_length key rest =
    let a = length-append (big_bytes 2 (length key)) (key ++ rest) in
    let b = length-append key rest in
    let c : length (big_bytes 2 (length key)) ≡ 2 = length-bytes_high_first 2 (length key) in
    omega (arith, a, b, c)

pub leaf_cell_is : (key value : List ℕ) → length key ≤ 1630 → 2 + length key + length value ≤ 1640 → IsLeafCell (leaf_cell key value)
leaf_cell_is key value h k =
    let fits : length key < 2 ^ 16 = omega arith in
    let size : key_size (leaf_cell key value) ≡ length key = size_is key value fits in
    let long : length (leaf_cell key value) ≡ 2 + (length key + length value) = cell_length key value in
    record { whole = omega arith; key = omega arith; size = omega arith }

pub inner_cell_is : (key : List ℕ) (child : ℕ) → length key ≤ 1630 → IsInnerCell (inner_cell key child)
inner_cell_is key child h =
    let fits : length key < 2 ^ 16 = omega arith in
    let size : key_size (inner_cell key child) ≡ length key = size_is key (big_bytes 8 child) fits in
    let long : length (inner_cell key child) ≡ 2 + (length key + length (big_bytes 8 child)) = cell_length key (big_bytes 8 child) in
    let eight : length (big_bytes 8 child) ≡ 8 = length-bytes_high_first 8 child in
    record { whole = omega arith; key = omega arith }

pub child_of-cell : (key : List ℕ) (child : ℕ) → length key ≤ 1630 → child < 2 ^ 64 → child_of (inner_cell key child) ≡ child
child_of-cell key child h small =
    let fits : length key < 2 ^ 16 = omega arith in
    ap (big_number 8) (value_of-cell key (big_bytes 8 child) fits ∙ sym (append-nil (big_bytes 8 child))) ∙ big_number-reads_back 8 child [] small

pub inner_key_is : (key : List ℕ) (child : ℕ) → length key ≤ 1630 → key_of_cell (inner_cell key child) ≡ key
inner_key_is key child h = let fits : length key < 2 ^ 16 = omega arith in key_of-cell key (big_bytes 8 child) fits

pub inner_length : (key : List ℕ) (child : ℕ) → length (inner_cell key child) ≡ 10 + length key
inner_length key child =
    let long : length (inner_cell key child) ≡ 2 + (length key + length (big_bytes 8 child)) = cell_length key (big_bytes 8 child) in
    let eight : length (big_bytes 8 child) ≡ 8 = length-bytes_high_first 8 child in
    omega arith
