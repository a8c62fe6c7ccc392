-- What stands in a queue.
use Rattle.std.proofs.Common.{ℕ, ◌≡◌, ◌<◌, ◌≤◌, List, [], ◌∷◌, ◌++◌, slice_index, arith, refl}
use Rattle.std.specs.Prelude.{zero, suc, ◌==◌, Bool, true, false, cond}
use Rattle.std.proofs.lemmas.Bool.Decides.{Decides-eqb}
use mathlib.Core.Logic.{◌⊎◌, inl, inr}
use Rattle.core_lists.specs.Lists.{In, Each, Has}
use Rattle.core_lists.specs.Lists.In.{here, there}
use Rattle.core_lists.proofs.Lists.{nothing}
use Rattle.core_lists.proofs.Majorities.{shared}
use Rattle.core_lists.proofs.Numbers.{lt_or_eq}
use Rattle.election_core.specs.Counts.{reaches, IsReached}
use Rattle.election_core.proofs.Greatest.{reached}
use Rattle.election_core.specs.declared.messages.Message.{Message}
use Rattle.quiet_cluster.specs.Packets.{packet, others, Packet}

pub in_left : {A : Type 0} {x : A} {xs : List A} (ys : List A) → In x xs → In x (xs ++ ys)
in_left ys here = here
in_left ys (there h) = there (in_left ys h)

pub in_right : {A : Type 0} {x : A} (xs : List A) {ys : List A} → In x ys → In x (xs ++ ys)
in_right [] h = h
in_right (y ∷ xs) h = there (in_right xs h)

pub in_either : {A : Type 0} {x : A} (xs : List A) {ys : List A} → In x (xs ++ ys) → In x xs ⊎ In x ys
in_either [] h = inr h
in_either (y ∷ xs) here = inl here
in_either (y ∷ xs) (there h) = elim (in_either xs h) [ inl a ↦ inl (there a) | inr b ↦ inr b ]

pub has_left : {A : Type 0} {P : A → Type 0} {xs : List A} (ys : List A) → Has P xs → Has P (xs ++ ys)
has_left ys h = record { it = h.it; mem = in_left ys h.mem; is = h.is }

pub has_right : {A : Type 0} {P : A → Type 0} (xs : List A) {ys : List A} → Has P ys → Has P (xs ++ ys)
has_right xs h = record { it = h.it; mem = in_right xs h.mem; is = h.is }

pub has_split : {A : Type 0} {P : A → Type 0} {x : A} {xs : List A} → Has P (x ∷ xs) → P x ⊎ Has P xs
has_split {A} {P} {x} {xs} h = go h.it h.mem h.is
  where
    go : (y : A) → In y (x ∷ xs) → P y → P x ⊎ Has P xs
    go y here p = inl p
    go y (there i) p = inr (record { it = y; mem = i; is = p })

pub has_one : {A : Type 0} {P : A → Type 0} {x : A} → P x → Has P (x ∷ [])
has_one {A} {P} {x} p = record { it = x; mem = here; is = p }

pub has_none : {A : Type 0} {P : A → Type 0} → Has P [] → ⊥
has_none h = nothing h.mem

pub each_head : {A : Type 0} {P : A → Type 0} {x : A} {xs : List A} → Each P (x ∷ xs) → P x
each_head {A} {P} {x} {xs} e = e.at x here

pub each_tail : {A : Type 0} {P : A → Type 0} {x : A} {xs : List A} → Each P (x ∷ xs) → Each P xs
each_tail e = record { at = λ y h. e.at y (there h) }

pub each_join : {A : Type 0} {P : A → Type 0} {xs ys : List A} → Each P xs → Each P ys → Each P (xs ++ ys)
each_join {A} {P} {xs} {ys} a b = record { at = λ y h. elim (in_either xs h) [ inl i ↦ a.at y i | inr i ↦ b.at y i ] }

pub each_one : {A : Type 0} {P : A → Type 0} {x : A} → P x → Each P (x ∷ [])
each_one {A} {P} {x} p = record { at = go }
  where
    go : (y : A) → In y (x ∷ []) → P y
    go y here = p
    go y (there h) = absurd (nothing h)

pub same_or : (a b : ℕ) → (a ≡ b) ⊎ (a ≡ b → ⊥)
same_or a b = go (a == b) refl
  where
    go : (t : Bool) → (a == b) ≡ t → (a ≡ b) ⊎ (a ≡ b → ⊥)
    go true e = inl ((Decides-eqb a b).0 e)
    go false e = inr (λ h. let r = (Decides-eqb a b).1 h in absurd (cc))

not_same : (a b : ℕ) → (a ≡ b → ⊥) → (a == b) ≡ false
not_same a b ne = go (a == b) refl
  where
    go : (t : Bool) → (a == b) ≡ t → (a == b) ≡ false
    go true e = absurd (ne ((Decides-eqb a b).0 e))
    go false e = e

-- each other node is sent its packet
pub others_in : (k node : ℕ) (m : Message) (e j : ℕ) → 0 < j → j ≤ k → (j ≡ node → ⊥) → In (packet j m e) (others k node m e)
others_in zero node m e j low high ne = absurd (omega arith)
others_in (suc k) node m e j low high ne = go (lt_or_eq j (suc k) high) (λ le. others_in k node m e j low le ne)
  where
    go : (j < suc k) ⊎ (j ≡ suc k) → (j ≤ k → In (packet j m e) (others k node m e)) → In (packet j m e) (others k node m e ++ cond (suc k == node) [] (packet (suc k) m e ∷ []))
    go (inl lt) rec = in_left (cond (suc k == node) [] (packet (suc k) m e ∷ [])) (rec (omega arith))
    go (inr eq) rec =
        let f : (suc k == node) ≡ false = not_same (suc k) node (λ h. ne (let r : j ≡ node = omega arith in r)) in
        rw (f, eq) (in_right (others k node m e) here)

-- and nobody else
pub others_each : {P : Packet → Type 0} (k node : ℕ) (m : Message) (e : ℕ) → ((j : ℕ) → (j ≡ node → ⊥) → P (packet j m e)) → Each P (others k node m e)
others_each zero node m e f = record { at = λ y h. absurd (nothing h) }
others_each {P} (suc k) node m e f = each_join (others_each {P = P} k node m e f) (go (suc k == node) refl)
  where
    go : (t : Bool) → (suc k == node) ≡ t → Each P (cond t [] (packet (suc k) m e ∷ []))
    go true x = record { at = λ y h. absurd (nothing h) }
    go false x = each_one (f (suc k) (λ h. let r = (Decides-eqb (suc k) node).1 h in absurd (cc)))

-- a length that a majority reached is reached by one
pub reached_some : (acked : List ℕ) (n l : ℕ) → IsReached acked n l → (k : ℕ) × (l ≤ slice_index acked k)
reached_some acked n l h =
    let r = shared n (λ k. reaches acked l k) (λ k. reaches acked l k) (omega arith) in
    go r.0 r.3
  where
    go : (k : ℕ) → reaches acked l k ≡ true → (k : ℕ) × (l ≤ slice_index acked k)
    go zero e = absurd (let x : false ≡ true = e in cc)
    go (suc k) e = (k, reached acked l k e)
