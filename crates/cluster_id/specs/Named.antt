-- The id of a cluster: the version 5 UUID of RFC 9562 in the namespace of domain names, of the name that consists of the
-- cluster's name, `/` and the number of nodes. As a number its first byte is the highest.
use Rattle.std.specs.Prelude.{ℕ, List, ◌∷◌, ◌++◌, take}
use Rattle.std.specs.Fmt.{decimal}
use Rattle.std.specs.Int.{w128, from_be_bytes}
use Rattle.sha1.specs.Sha1.{sha1}
use Rattle.uuid.specs.Parts.{with_variant, with_version}
use Rattle.uuid.specs.Uuid.{namespace_dns}
use Rattle.uuid.specs.declared.Variant.TheVariants.{RFC4122}
use Rattle.uuid.specs.declared.Version.TheVariants.{Sha1}

-- the name that the id is made of: of the cluster `main` with three nodes it is `main/3`
abbrev pub full_name : List ℕ → ℕ → List ℕ
full_name cluster nodes = cluster ++ (47 ∷ decimal nodes)

-- the version 5 UUID of a name among domain names
abbrev pub named_uuid : List ℕ → List ℕ
named_uuid name = with_version (with_variant (take 16 (sha1 (namespace_dns ++ name))) RFC4122) Sha1

-- as a number
unfoldable pub number_of : List ℕ → ℕ
number_of name = from_be_bytes w128 (named_uuid name)

abbrev pub cluster_id_of : List ℕ → ℕ → ℕ
cluster_id_of cluster nodes = number_of (full_name cluster nodes)
