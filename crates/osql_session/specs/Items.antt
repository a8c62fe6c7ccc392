-- Used versions without repeats: each is kept where it comes first.
use Rattle.std.specs.Prelude.{◌≡◌, ℕ, ◌++◌, ◌∷◌, [], List, Bool, false, map, if◌then◌else◌}
use Rattle.std.specs.List.{list_any}
use Rattle.cdb_values.specs.Changes.{genid_item}
use Rattle.cdb_values.specs.declared.items.GenidItem.{GenidItem}
use Rattle.session_language.specs.Touched.{is_same_item}

-- these versions with one more, where it is not among them
abbrev pub with_item : List GenidItem → GenidItem → List GenidItem
with_item items item = if list_any (is_same_item item) items then items else items ++ item ∷ []

-- the same with these more, one after the other
abbrev pub with_items : List GenidItem → List GenidItem → List GenidItem
with_items items [] = items
with_items items (item ∷ more) = with_items (with_item items item) more

abbrev pub without_repeats : List GenidItem → List GenidItem
without_repeats items = with_items [] items

-- versions by their tables and genids
abbrev pub item_in : ℕ × ℕ → GenidItem
item_in known = genid_item known.0 known.1

abbrev pub items_in : List (ℕ × ℕ) → List GenidItem
items_in known = map item_in known

-- whether a version is among these
abbrev pub is_among : List GenidItem → GenidItem → Bool
is_among items item = list_any (is_same_item item) items

-- no version comes twice
abbrev pub AreApart : List GenidItem → Type 0
AreApart [] = Unit {0}
AreApart (item ∷ items) = (is_among items item ≡ false) × AreApart items
