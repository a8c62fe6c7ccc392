-- Why a store was not opened, over calls one after the other.
use Rattle.std.proofs.Common.{◌≡◌, ℕ, List, None, Some, sym, subst, arith}
use Rattle.store_log.specs.declared.opens.OpenFault.{OpenFault}
use Rattle.store_log.specs.declared.opens.OpenFault.TheVariants as fault
use Rattle.store_log.specs.Opens.{IsOpenFault, IsLater, IsUnchanged, IsUnread}
use Rattle.store_log.specs.Walks.{IsWalkFault, IsCallFault}

-- want of memory
pub memory_call : (w : OpenFault) (a b : ℕ) → w ≡ fault.NoMemory → IsCallFault w a b
memory_call w a b e = subst (λ (v : OpenFault). IsCallFault v a b) (sym e) tt

pub memory_walk : (w : OpenFault) (bytes : List ℕ) (a b : ℕ) → w ≡ fault.NoMemory → IsWalkFault w bytes a b
memory_walk w bytes a b e = subst (λ (v : OpenFault). IsWalkFault v bytes a b) (sym e) tt

pub memory_told : (w : OpenFault) (node cluster : ℕ) (bytes : List ℕ) (a b : ℕ) → w ≡ fault.NoMemory → IsOpenFault w node cluster bytes a b
memory_told w node cluster bytes a b e = subst (λ (v : OpenFault). IsOpenFault v node cluster bytes a b) (sym e) tt

-- a fault of a later call
pub call_from : (w : OpenFault) (a b c : ℕ) → b ≡ a → IsCallFault w b c → IsCallFault w a c
call_from w a b c e x = subst (λ (n : ℕ). IsCallFault w n c) e x

pub walk_from : (w : OpenFault) (bytes : List ℕ) (a b c : ℕ) → b ≡ a → IsWalkFault w bytes b c → IsWalkFault w bytes a c
walk_from w bytes a b c e x = subst (λ (n : ℕ). IsWalkFault w bytes n c) e x

-- how the count stands then
pub same_later : (w : OpenFault) (a b : ℕ) → b ≡ a → IsLater w a b
same_later (fault.StoreFault read) a b e = let same : b ≡ a = e in omega arith
same_later fault.Foreign a b e = e
same_later (fault.Corrupt at) a b e = e
same_later fault.NoMemory a b e = e

pub later_from : (w : OpenFault) (a b c : ℕ) → b ≡ a → IsLater w b c → IsLater w a c
later_from w a b c e x = subst (λ (n : ℕ). IsLater w n c) e x

-- what a call's fault tells of more
pub call_walk : (w : OpenFault) (bytes : List ℕ) (a b : ℕ) → IsCallFault w a b → IsWalkFault w bytes a b
call_walk (fault.StoreFault None) bytes a b x = x
call_walk (fault.StoreFault (Some size)) bytes a b x = absurd x
call_walk fault.Foreign bytes a b x = x
call_walk (fault.Corrupt at) bytes a b x = absurd x
call_walk fault.NoMemory bytes a b x = tt

pub call_told : (w : OpenFault) (node cluster : ℕ) (bytes : List ℕ) (a b : ℕ) → IsCallFault w a b → IsOpenFault w node cluster bytes a b
call_told (fault.StoreFault None) node cluster bytes a b x = x
call_told (fault.StoreFault (Some size)) node cluster bytes a b x = absurd x
call_told fault.Foreign node cluster bytes a b x = absurd x
call_told (fault.Corrupt at) node cluster bytes a b x = absurd x
call_told fault.NoMemory node cluster bytes a b x = tt

pub same_unchanged : (w : OpenFault) (old new : List ℕ) → new ≡ old → IsUnchanged w old new
same_unchanged (fault.StoreFault read) old new e = tt
same_unchanged fault.Foreign old new e = e
same_unchanged (fault.Corrupt at) old new e = e
same_unchanged fault.NoMemory old new e = e

-- a fault of a call that reads tells of no log
pub call_unread : (w : OpenFault) (a b : ℕ) → IsCallFault w a b → IsUnread w
call_unread (fault.StoreFault None) a b x = tt
call_unread (fault.StoreFault (Some size)) a b x = absurd x
call_unread fault.Foreign a b x = tt
call_unread (fault.Corrupt at) a b x = tt
call_unread fault.NoMemory a b x = tt

pub walk_unread : (w : OpenFault) (bytes : List ℕ) (a b : ℕ) → IsWalkFault w bytes a b → IsUnread w
walk_unread (fault.StoreFault None) bytes a b x = tt
walk_unread (fault.StoreFault (Some size)) bytes a b x = absurd x
walk_unread fault.Foreign bytes a b x = tt
walk_unread (fault.Corrupt at) bytes a b x = tt
walk_unread fault.NoMemory bytes a b x = tt

pub memory_unread : (w : OpenFault) → w ≡ fault.NoMemory → IsUnread w
memory_unread w e = subst IsUnread (sym e) tt
