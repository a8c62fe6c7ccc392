-- The first master of a run: the leader of the least generation in which its own adopted log became durable.
-- The length of what it adopted is the base of the run.
use Rattle.std.specs.Prelude.{ℕ, ◌≤◌}
use Rattle.cluster_consensus.specs.Durable.{DurableIn}
use Rattle.cluster_consensus.specs.Facts.{Claim, World}
use Rattle.core_lists.specs.Lists.{In}

pub record IsFirstMaster {E : Type 0} (n : ℕ) (w : World E) (m : ℕ) (a : Claim E) : Type 0 where
  pub mem : In a (w.nodes m).leads
  pub durable : DurableIn n w a.gen a.log
  pub least : (k : ℕ) (l : Claim E) → In l (w.nodes k).leads → DurableIn n w l.gen l.log → a.gen ≤ l.gen

-- nobody's adopted log became durable in its own generation
abbrev pub HasNoMaster : {E : Type 0} → ℕ → World E → Type 0
HasNoMaster {E} n w = (k : ℕ) (l : Claim E) → In l (w.nodes k).leads → DurableIn n w l.gen l.log → ⊥
