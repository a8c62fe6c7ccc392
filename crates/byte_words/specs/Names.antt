-- What a session, a table or a key may be named: 1 to 32 lower-case letters, digits and underscores, with no digit at the
-- front. No key is named `all`, the word that stands for a whole table.
use Rattle.std.specs.Prelude.{◌≡◌, ℕ, ◌≤◌, ◌==◌, ◌∷◌, [], List, length, Bool, true, false, ◌||◌, codes, bytes_eq}
use Rattle.std.specs.List.{list_all}
use Rattle.byte_words.specs.Words.{is_digit, is_lower}

-- a byte of a name
abbrev pub is_name_byte : ℕ → Bool
is_name_byte b = is_lower b || (is_digit b || (b == 95))

-- the first byte of a name is no digit; unlike `is_begun`, it is no upper-case letter either
abbrev pub begins_lower : List ℕ → Bool
begins_lower [] = false
begins_lower (b ∷ bs) = is_lower b || (b == 95)

pub record IsName (name : List ℕ) : Type 0 where
  pub bytes : list_all is_name_byte name ≡ true
  pub begun : begins_lower name ≡ true
  pub short : length name ≤ 32

-- the name of a key
pub record IsKey (key : List ℕ) : Type 0 where
  pub name : IsName key
  pub one : bytes_eq (codes "all") key ≡ false
