-- How a table keeps its identities. The names of the sessions stand in the order in which they came, and the index of one is its
-- number; an identity is the key of a map by the number of its session, and the map keeps the order of insertion.
--
-- Of the sessions a and b
--
--     name   number
--     a      0
--     b      1
--
-- the identity (1, b, 7) has the key (1, 1, 7).
use Rattle.std.specs.Prelude.{◌≡◌, ℕ, Bool, List, [], map, nat_eq, Some, slice_get, Vec}
use Rattle.std.specs.declared.alloc.Global.{Global}
use Rattle.std.specs.List.{AllByRecursion, IsDistinct}
use Rattle.std.specs.Option.{option_map_or}
use Rattle.std.specs.Cmp.Lexicographic.{pointwise}
use Rattle.phys_log.specs.declared.entries.CommitId.{CommitId}
use Rattle.blkseq_table.specs.declared.keys.NumberedId.{NumberedId}
use Rattle.blkseq_table.specs.Known.{Known, known_at, AreApart, AreRising}

-- the names of sessions, and whether two are the same
abbrev pub Names : Type 0
Names = List (Vec ℕ Global)

abbrev pub is_same_name : Vec ℕ Global → Vec ℕ Global → Bool
is_same_name a b = pointwise nat_eq a.items b.items

-- the name that stands for a number; that a number has one; and that a name has none
abbrev pub name_of : Names → ℕ → List ℕ
name_of names number = option_map_or (λ (name : Vec ℕ Global). name.items) (slice_get names number) []

abbrev pub IsNumber : Names → ℕ → Type 0
IsNumber names number = (name : Vec ℕ Global) × (slice_get names number ≡ Some name)

abbrev pub IsNoSession : Names → List ℕ → Type 0
IsNoSession names bytes = AllByRecursion (λ (name : Vec ℕ Global). name.items ≡ bytes → ⊥) names

-- each number goes on to stand for its name
abbrev pub KeepsNumbers : Names → Names → Type 0
KeepsNumbers old new = (number : ℕ) (name : Vec ℕ Global) → slice_get old number ≡ Some name → slice_get new number ≡ Some name

-- the key of an identity by a number; the identity that a key stands for, and that it stands for this one
abbrev pub key_by : CommitId → ℕ → NumberedId
key_by id session = record { began = id.began; session = session; txn = id.txn }

abbrev pub id_by : Names → NumberedId → CommitId
id_by names key = record { began = key.began; session = name_of names key.session; txn = key.txn }

abbrev pub IsKeyOf : Names → NumberedId → CommitId → Type 0
IsKeyOf names key id = IsNumber names key.session × (id_by names key ≡ id)

-- what an entry of the map is, and what its entries are
abbrev pub known_by : Names → NumberedId × ℕ → Known
known_by names e = known_at (id_by names e.0) e.1

abbrev pub knowns_by : Names → List (NumberedId × ℕ) → List Known
knowns_by names entries = map (known_by names) entries

-- no identity comes twice, and the positions rise
pub record IsTable (known : List Known) : Type 0 where
  pub apart : AreApart known
  pub rising : AreRising known

-- the same of a map's entries; no session comes twice, and each number among the keys is that of one
pub record IsKept (names : Names) (entries : List (NumberedId × ℕ)) : Type 0 where
  pub table : IsTable (knowns_by names entries)
  pub distinct : IsDistinct is_same_name names
  pub numbered : AllByRecursion (λ (e : NumberedId × ℕ). IsNumber names e.0.session) entries
