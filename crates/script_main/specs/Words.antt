-- The words of a command: `play`, or `play --stores DIR`.
use Rattle.std.specs.Prelude.{ℕ, ◌==◌, [], ◌∷◌, List, Bool, false, not, ◌&&◌, String, codes, Option, Some, None, if◌then◌else◌}
use Rattle.std.specs.Global.{Global}
use Rattle.std.specs.Str.{bytes_eq}
use Rattle.std.specs.String.{string_bytes}

-- a folder's word is not empty and does not begin with `-`
abbrev pub is_folder : List ℕ → Bool
is_folder [] = false
is_folder (b ∷ bs) = not (b == 45)

-- whether these three words are `play --stores DIR`
abbrev pub is_stored_play : List ℕ → List ℕ → List ℕ → Bool
is_stored_play word option folder = bytes_eq word (codes "play") && (bytes_eq option (codes "--stores") && is_folder folder)

abbrev pub folder_in : List ℕ → List ℕ → List ℕ → Option (List ℕ)
folder_in word option folder = if is_stored_play word option folder then Some folder else None

-- the folder in which the stores stand, where the words tell one
abbrev pub folder_of : List (String Global) → Option (List ℕ)
folder_of [] = None
folder_of (_ ∷ []) = None
folder_of (_ ∷ _ ∷ []) = None
folder_of (word ∷ option ∷ folder ∷ []) = folder_in (string_bytes word) (string_bytes option) (string_bytes folder)
folder_of (_ ∷ _ ∷ _ ∷ _ ∷ _) = None

-- whether the words are a command
abbrev pub is_play : List (String Global) → Bool
is_play [] = false
is_play (word ∷ []) = bytes_eq (string_bytes word) (codes "play")
is_play (_ ∷ _ ∷ []) = false
is_play (word ∷ option ∷ folder ∷ []) = is_stored_play (string_bytes word) (string_bytes option) (string_bytes folder)
is_play (_ ∷ _ ∷ _ ∷ _ ∷ _) = false
