-- Identities with their positions: what a table of a log's identities has.
--
-- Of a log with a setup and two commits, the transactions (1, a, 1) and (1, b, 1), it has these two, by rising positions:
--
--     (1, a, 1)   2
--     (1, b, 1)   3
--
-- Two identities are the same only where all three parts are: the generation, the session and the number there.
use Rattle.std.specs.Prelude.{◌≡◌, ◌⊎◌, ℕ, ◌<◌, List, [], ◌∷◌, nat_le, filter}
use Rattle.std.specs.List.{AllByRecursion}
use Rattle.phys_log.specs.declared.entries.CommitId.{CommitId}

-- an identity, and the position at which it stands
pub record Known : Type 0 where
  pub id : CommitId
  pub position : ℕ

abbrev pub known_at : CommitId → ℕ → Known
known_at id position = record { id = id; position = position }

-- an identity stands at a position
abbrev pub StandsAt : List Known → CommitId → ℕ → Type 0
StandsAt [] id position = ⊥
StandsAt (k ∷ ks) id position = ((k.id ≡ id) × (k.position ≡ position)) ⊎ StandsAt ks id position

-- an identity stands nowhere
abbrev pub IsAbsent : List Known → CommitId → Type 0
IsAbsent known id = AllByRecursion (λ k. k.id ≡ id → ⊥) known

-- no identity comes twice
abbrev pub AreApart : List Known → Type 0
AreApart [] = Unit {0}
AreApart (k ∷ ks) = IsAbsent ks k.id × AreApart ks

-- all stand below a position, and all above one
abbrev pub AreBelow : List Known → ℕ → Type 0
AreBelow known position = AllByRecursion (λ k. k.position < position) known

abbrev pub AreAbove : List Known → ℕ → Type 0
AreAbove known position = AllByRecursion (λ k. position < k.position) known

-- the positions rise
abbrev pub AreRising : List Known → Type 0
AreRising [] = Unit {0}
AreRising (k ∷ ks) = AreAbove ks k.position × AreRising ks

-- those at or below a position
abbrev pub up_to : ℕ → List Known → List Known
up_to position known = filter (λ k. nat_le k.position position) known
