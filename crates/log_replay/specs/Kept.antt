-- What a log keeps beside its entries: pages by their numbers, each with its chain. A page lies at its number in a list; those
-- whose numbers are beyond the list are in a map.
use Rattle.std.specs.Prelude.{◌≡◌, ℕ, zero, suc, ◌<◌, ◌≤◌, ◌==◌, ◌&&◌, not, leb, length, if◌then◌else◌, List, [], ◌∷◌, ◌++◌, Option, Some, None, IfSome, IsSome, ◌⊎◌, Result, Ok, Err, vec_capacity}
use Rattle.std.specs.List.{slice_index_or}
use Rattle.std.specs.Map.{lookup}
use Rattle.std.specs.Option.{option_flatten}
use Rattle.std.specs.Ordering.{nat_cmp}
use Rattle.std.specs.BTreeMap.{is_at, keys}
use Rattle.page_store.specs.Image.{Image, blank_image, HasRoom}
use Rattle.page_store.specs.declared.edits.ApplyFault.{ApplyFault}
use Rattle.page_store.specs.declared.edits.ApplyFault.TheVariants.{Unfit, NoMemory}
use Rattle.phys_log.specs.declared.entries.LogRecord.{LogRecord}
use Rattle.phys_log.specs.declared.entries.Entry.{Entry}
use Rattle.phys_log.specs.Logs.{replayed, pages_of, AreNext, IsLog}
use Rattle.log_replay.specs.declared.chains.ChainLink.{ChainLink}
use Rattle.log_replay.specs.declared.kept.KeptPage.{KeptPage}
use Rattle.log_replay.specs.declared.kept.KeptPages.{KeptPages}
use Rattle.log_replay.specs.Chains.{chain_of}

-- what the map keeps under a number
abbrev pub far_at : List (ℕ × Option KeptPage) → ℕ → Option KeptPage
far_at far id = option_flatten (lookup (is_at (nat_cmp id)) far)

-- what is kept under a number: by the list, or beyond its end by the map
abbrev pub found : KeptPages → ℕ → Option KeptPage
found pages id = slice_index_or pages.near.items id (far_at pages.far.entries id)

-- there is a place for a page of that number: in the list or in the map
abbrev pub HasSlot : KeptPages → ℕ → Type 0
HasSlot pages id = (id < length pages.near.items) ⊎ IsSome (lookup (is_at (nat_cmp id)) pages.far.entries)

-- a page: the kept one, or else a blank one
abbrev pub image_of : Option KeptPage → Image
image_of None = blank_image
image_of (Some k) = k.page

abbrev pub page_in : KeptPages → ℕ → Image
page_in pages id = image_of (found pages id)

-- a chain: that of the kept page, or else one without links
abbrev pub links_of : Option KeptPage → List ChainLink
links_of None = []
links_of (Some k) = k.chain.items

abbrev pub chain_in : KeptPages → ℕ → List ChainLink
chain_in pages id = links_of (found pages id)

-- for how many links the chain of a page has room
abbrev pub room_of : Option KeptPage → ℕ
room_of None = 0
room_of (Some k) = vec_capacity k.chain

abbrev pub room_in : KeptPages → ℕ → ℕ
room_in pages id = room_of (found pages id)

-- no chain lost room
abbrev pub Roomier : KeptPages → KeptPages → Type 0
Roomier old new = (n : ℕ) → room_in old n ≤ room_in new n

-- the link of a record in the entry at a position
abbrev pub link_of : ℕ → LogRecord → ChainLink
link_of position r = record { position = position; lsn = r.lsn }

-- another value at one number
abbrev pub put_at : {X : Type 0} → (ℕ → X) → ℕ → X → ℕ → X
put_at f id x n = if n == id then x else f n

-- the numbers below a count whose page has a record, in order
abbrev pub numbers_in : (ℕ → Image) → ℕ → List ℕ
numbers_in pages zero = []
numbers_in pages (suc n) = numbers_in pages n ++ (if (pages n).lsn == 0 then [] else n ∷ [])

-- those of these numbers that are not below a count, and whose page has a record
abbrev pub numbers_of : (ℕ → Image) → ℕ → List ℕ → List ℕ
numbers_of pages low [] = []
numbers_of pages low (k ∷ ks) = (if leb low k && not ((pages k).lsn == 0) then k ∷ [] else []) ++ numbers_of pages low ks

-- the numbers of the pages that have a record, in order
abbrev pub edited_numbers : KeptPages → List ℕ
edited_numbers p = numbers_in (page_in p) (length p.near.items) ++ numbers_of (page_in p) (length p.near.items) (keys p.far)

-- pages that came of replaying records that fit
pub record Came (pages : ℕ → Image) (records : List LogRecord) : Type 0 where
  pub base : ℕ → Image
  pub lsn : ℕ
  pub numbered : 0 < lsn
  pub room : (n : ℕ) → HasRoom (base n).cells
  pub next : AreNext base lsn records
  pub is : pages ≡ replayed base records

-- records that can be made again: each is the next one after those before it
pub record AreMade (pages : ℕ → Image) (records : List LogRecord) : Type 0 where
  pub lsn : ℕ
  pub next : AreNext pages lsn records

-- what each answer tells of whether something fits: `Unfit` comes only where it does not
abbrev pub TellsWhether : {T : Type 0} → Result T ApplyFault → Type 0 → Type 0
TellsWhether (Ok x) fit = fit
TellsWhether (Err Unfit) fit = fit → ⊥
TellsWhether (Err NoMemory) fit = Unit {0}

-- the pages are the replay of the entries, and the chains have the records; the page that is lent where none is kept is
-- blank
pub record IsKept (entries : List Entry) (pages : KeptPages) (blank : Option Image) : Type 0 where
  pub logged : ∥ IsLog entries ∥₁
  pub replay : (n : ℕ) → page_in pages n ≡ pages_of entries n
  pub links : (n : ℕ) → chain_in pages n ≡ chain_of entries n
  pub lent : IfSome blank (λ p. p ≡ blank_image)
