-- Own writes by their numbers, and by the places of what they stand for.
use Rattle.std.proofs.Common.{◌≡◌, ℕ, zero, suc, ◌+◌, ◌-◌, ◌++◌, ◌∷◌, [], List, map, length, take, refl, sym, ◌∙◌, ap, subst, append_assoc, append-nil, arith}
use Rattle.std.specs.Prelude.{slice_get, slice_set, Option, Some, None}
use Rattle.std.specs.List.{AllByRecursion}
use Rattle.cdb_values.specs.declared.rows.RowOp.{RowOp}
use Rattle.cdb_values.specs.declared.rows.RowOp.TheVariants.{Insert, Update, Delete}
use Rattle.cdb_values.specs.declared.rows.RowRef.{RowRef}
use Rattle.cdb_values.specs.declared.rows.RowRef.TheVariants.{Base, Own}
use Rattle.cdb_values.specs.declared.values.Value.{Value}
use Rattle.net_writes.specs.Net.{held_at, held_of, taken_out, rewritten, undone, held_with, held_after, and_then, standing, net_of}
use Rattle.net_writes.specs.Slots.{place_of, placed, with_place, IsStanding, TakesStanding, NumbersAreAsGood}
use Rattle.net_writes.proofs.CountLemmas.{squeezed, out_suc, at_suc}

-- the places where these stood for something, and all behind them
abbrev pub picked : List (Option RowOp) → List (Option RowOp) → List (Option RowOp)
picked [] held = held
picked (None ∷ marks) [] = []
picked (Some mark ∷ marks) [] = []
picked (None ∷ marks) (x ∷ held) = picked marks held
picked (Some mark ∷ marks) (x ∷ held) = x ∷ picked marks held

-- places that stand for nothing wherever these did
abbrev pub Under : List (Option RowOp) → List (Option RowOp) → Type 0
Under [] held = Unit {0}
Under (None ∷ marks) [] = ⊥
Under (Some mark ∷ marks) [] = ⊥
Under (None ∷ marks) (x ∷ held) = (x ≡ None) × Under marks held
Under (Some mark ∷ marks) (x ∷ held) = Under marks held

standing_picked : (marks held : List (Option RowOp)) → Under marks held → standing (picked marks held) ≡ standing held
standing_picked [] held u = refl
standing_picked (None ∷ marks) [] u = absurd u
standing_picked (Some mark ∷ marks) [] u = absurd u
standing_picked (None ∷ marks) (x ∷ held) u = standing_picked marks held u.1 ∙ sym (ap (λ y. standing (y ∷ held)) u.0)
standing_picked (Some mark ∷ marks) (x ∷ held) u = ap (λ l. and_then x l) (standing_picked marks held u)

-- how many stand for something before a place
abbrev spot : List (Option RowOp) → ℕ → ℕ
spot marks i = length (standing (take i marks))

place_first : (x : Option RowOp) (op : RowOp) → x ≡ Some op → length (standing (x ∷ [])) ≡ 1
place_first x op is = ap (λ y. length (standing (y ∷ []))) is

place_spot : (marks : List (Option RowOp)) (i : ℕ) (op : RowOp) → slice_get marks i ≡ Some (Some op) → place_of marks (suc i) ≡ suc (spot marks i)
place_spot [] zero op is = cc
place_spot [] (suc i) op is = cc
place_spot (x ∷ marks) zero op is = place_first x op (cc)
place_spot (None ∷ marks) (suc i) op is = place_spot marks i op is
place_spot (Some y ∷ marks) (suc i) op is = ap suc (place_spot marks i op is)

picked_get : (marks held : List (Option RowOp)) (i : ℕ) (op : RowOp) → Under marks held → slice_get marks i ≡ Some (Some op) → slice_get (picked marks held) (spot marks i) ≡ slice_get held i
picked_get [] held zero op u is = cc
picked_get [] held (suc i) op u is = cc
picked_get (None ∷ marks) [] i op u is = absurd u
picked_get (Some mark ∷ marks) [] i op u is = absurd u
picked_get (None ∷ marks) (x ∷ held) zero op u is = cc
picked_get (None ∷ marks) (x ∷ held) (suc i) op u is = picked_get marks held i op u.1 is
picked_get (Some mark ∷ marks) (x ∷ held) zero op u is = refl
picked_get (Some mark ∷ marks) (x ∷ held) (suc i) op u is = picked_get marks held i op u is

picked_set : (marks held : List (Option RowOp)) (i : ℕ) (op : RowOp) → Under marks held → slice_get marks i ≡ Some (Some op)
    → slice_set (picked marks held) (spot marks i) None ≡ picked marks (slice_set held i None)
picked_set [] held zero op u is = cc
picked_set [] held (suc i) op u is = cc
picked_set (None ∷ marks) [] i op u is = absurd u
picked_set (Some mark ∷ marks) [] i op u is = absurd u
picked_set (None ∷ marks) (x ∷ held) zero op u is = cc
picked_set (None ∷ marks) (x ∷ held) (suc i) op u is = picked_set marks held i op u.1 is
picked_set (Some mark ∷ marks) (x ∷ held) zero op u is = refl
picked_set (Some mark ∷ marks) (x ∷ held) (suc i) op u is = ap (λ l. x ∷ l) (picked_set marks held i op u is)

under_set : (marks held : List (Option RowOp)) (i : ℕ) → Under marks held → Under marks (slice_set held i None)
under_set [] held i u = tt
under_set (None ∷ marks) [] i u = absurd u
under_set (Some mark ∷ marks) [] i u = absurd u
under_set (None ∷ marks) (x ∷ held) zero u = (refl, u.1)
under_set (None ∷ marks) (x ∷ held) (suc i) u = (u.0, under_set marks held i u.1)
under_set (Some mark ∷ marks) (x ∷ held) zero u = u
under_set (Some mark ∷ marks) (x ∷ held) (suc i) u = under_set marks held i u

picked_more : (marks held : List (Option RowOp)) (one : Option RowOp) → Under marks held → picked marks (held ++ one ∷ []) ≡ picked marks held ++ one ∷ []
picked_more [] held one u = refl
picked_more (None ∷ marks) [] one u = absurd u
picked_more (Some mark ∷ marks) [] one u = absurd u
picked_more (None ∷ marks) (x ∷ held) one u = picked_more marks held one u.1
picked_more (Some mark ∷ marks) (x ∷ held) one u = ap (λ l. x ∷ l) (picked_more marks held one u)

under_more : (marks held : List (Option RowOp)) (one : Option RowOp) → Under marks held → Under marks (held ++ one ∷ [])
under_more [] held one u = tt
under_more (None ∷ marks) [] one u = absurd u
under_more (Some mark ∷ marks) [] one u = absurd u
under_more (None ∷ marks) (x ∷ held) one u = (u.0, under_more marks held one u.1)
under_more (Some mark ∷ marks) (x ∷ held) one u = under_more marks held one u

picked_all : (held : List (Option RowOp)) → picked held held ≡ map (λ op. Some op) (standing held)
picked_all [] = refl
picked_all (None ∷ held) = picked_all held
picked_all (Some op ∷ held) = ap (λ l. Some op ∷ l) (picked_all held)

under_all : (held : List (Option RowOp)) → Under held held
under_all [] = tt
under_all (None ∷ held) = (refl, under_all held)
under_all (Some op ∷ held) = under_all held

-- a place that stands for something
record StandsAt (marks : List (Option RowOp)) (i : ℕ) : Type 0 where
  op : RowOp
  is : slice_get marks i ≡ Some (Some op)

got_some : (got : Option (Option RowOp)) (marks : List (Option RowOp)) (i : ℕ) → slice_get marks i ≡ got → IsStanding (held_of got) → StandsAt marks i
got_some None marks i is stands = absurd stands
got_some (Some None) marks i is stands = absurd stands
got_some (Some (Some op)) marks i is stands = record { op = op; is = is }

-- an own write that is taken out, and what stands there instead
taken_own : (marks held : List (Option RowOp)) (i : ℕ) (change : Option RowOp → Option RowOp) → Under marks held → IsStanding (held_at marks (suc i))
    → taken_out (picked marks held) (place_of marks (suc i)) ++ change (held_at (picked marks held) (place_of marks (suc i))) ∷ []
    ≡ picked marks (taken_out held (suc i) ++ change (held_at held (suc i)) ∷ [])
taken_own marks held i change u stands =
    let s : StandsAt marks i = got_some (slice_get marks i) marks i refl (subst IsStanding (at_suc marks i) stands) in
    let at : ℕ = spot marks i in
    let there : taken_out held (suc i) ++ change (held_at held (suc i)) ∷ [] ≡ slice_set held i None ++ change (held_of (slice_get held i)) ∷ []
    = λ j. out_suc held i j ++ change (at_suc held i j) ∷ [] in
    ap (λ write. taken_out (picked marks held) write ++ change (held_at (picked marks held) write) ∷ []) (place_spot marks i s.op s.is)
    ∙ (λ j. out_suc (picked marks held) at j ++ change (at_suc (picked marks held) at j) ∷ [])
    ∙ (λ j. picked_set marks held i s.op u s.is j ++ change (held_of (picked_get marks held i s.op u s.is j)) ∷ [])
    ∙ sym (picked_more marks (slice_set held i None) (change (held_of (slice_get held i))) (under_set marks held i u))
    ∙ sym (ap (λ l. picked marks l) there)

one_more : (marks held : List (Option RowOp)) (op : RowOp) → Under marks held → TakesStanding marks op → held_with (picked marks held) (with_place marks op) ≡ picked marks (held_with held op)
one_more marks held (Insert table row) u stands = sym (picked_more marks held (Some (Insert table row)) u)
one_more marks held (Update table (Base genid) old row) u stands = sym (picked_more marks held (Some (Update table (Base genid) old row)) u)
one_more marks held (Update table (Own zero) old row) u stands = absurd stands
one_more marks held (Update table (Own (suc i)) old row) u stands = taken_own marks held i (λ before. rewritten before row) u stands
one_more marks held (Delete table (Base genid) old) u stands = sym (picked_more marks held (Some (Delete table (Base genid) old)) u)
one_more marks held (Delete table (Own zero) old) u stands = absurd stands
one_more marks held (Delete table (Own (suc i)) old) u stands = taken_own marks held i (λ before. undone before) u stands

under_with : (marks held : List (Option RowOp)) (op : RowOp) → Under marks held → Under marks (held_with held op)
under_with marks held (Insert table row) u = under_more marks held (Some (Insert table row)) u
under_with marks held (Update table (Base genid) old row) u = under_more marks held (Some (Update table (Base genid) old row)) u
under_with marks held (Update table (Own zero) old row) u = under_more marks held (rewritten (held_at held 0) row) u
under_with marks held (Update table (Own (suc i)) old row) u = under_more marks (taken_out held (suc i)) (rewritten (held_at held (suc i)) row) (subst (Under marks) (sym (out_suc held i)) (under_set marks held i u))
under_with marks held (Delete table (Base genid) old) u = under_more marks held (Some (Delete table (Base genid) old)) u
under_with marks held (Delete table (Own zero) old) u = under_more marks held (undone (held_at held 0)) u
under_with marks held (Delete table (Own (suc i)) old) u = under_more marks (taken_out held (suc i)) (undone (held_at held (suc i))) (subst (Under marks) (sym (out_suc held i)) (under_set marks held i u))

-- the places of writes that are named by place, and that nothing was lost
record Kept (marks held : List (Option RowOp)) (writes : List RowOp) : Type 0 where
  same : held_after (picked marks held) (map (with_place marks) writes) ≡ picked marks (held_after held writes)
  under : Under marks (held_after held writes)

kept_all : (marks held : List (Option RowOp)) (writes : List RowOp) → Under marks held → AllByRecursion (TakesStanding marks) writes → Kept marks held writes
kept_all marks held [] u all = record { same = refl; under = u }
kept_all marks held (op ∷ writes) u all =
    let later = kept_all marks (held_with held op) writes (under_with marks held op u) all.1 in record {
      same = ap (λ h. held_after h (map (with_place marks) writes)) (one_more marks held op u all.0) ∙ later.same;
      under = later.under;
    }

after_append : (held : List (Option RowOp)) (ops more : List RowOp) → held_after held (ops ++ more) ≡ held_after (held_after held ops) more
after_append held [] more = refl
after_append held (op ∷ ops) more = after_append (held_with held op) ops more

-- operations that name versions of the base alone
abbrev IsNet : Option RowOp → Type 0
IsNet None = Unit {0}
IsNet (Some (Insert table row)) = Unit {0}
IsNet (Some (Update table (Base genid) old row)) = Unit {0}
IsNet (Some (Update table (Own write) old row)) = ⊥
IsNet (Some (Delete table (Base genid) old)) = Unit {0}
IsNet (Some (Delete table (Own write) old)) = ⊥

net_more : (held : List (Option RowOp)) (one : Option RowOp) → AllByRecursion IsNet held → IsNet one → AllByRecursion IsNet (held ++ one ∷ [])
net_more [] one all is = (is, tt)
net_more (x ∷ held) one all is = (all.0, net_more held one all.1 is)

net_out : (held : List (Option RowOp)) (i : ℕ) → AllByRecursion IsNet held → AllByRecursion IsNet (slice_set held i None)
net_out [] zero all = tt
net_out [] (suc i) all = tt
net_out (x ∷ held) zero all = (tt, all.1)
net_out (x ∷ held) (suc i) all = (all.0, net_out held i all.1)

net_got : (held : List (Option RowOp)) (i : ℕ) → AllByRecursion IsNet held → IsNet (held_of (slice_get held i))
net_got [] zero all = tt
net_got [] (suc i) all = tt
net_got (x ∷ held) zero all = all.0
net_got (x ∷ held) (suc i) all = net_got held i all.1

net_rewritten : (before : Option RowOp) (row : List Value) → IsNet before → IsNet (rewritten before row)
net_rewritten None row is = tt
net_rewritten (Some (Insert table written)) row is = tt
net_rewritten (Some (Update table (Base genid) old written)) row is = tt
net_rewritten (Some (Update table (Own write) old written)) row is = absurd is
net_rewritten (Some (Delete table target old)) row is = tt

net_undone : (before : Option RowOp) → IsNet before → IsNet (undone before)
net_undone None is = tt
net_undone (Some (Insert table written)) is = tt
net_undone (Some (Update table (Base genid) old written)) is = tt
net_undone (Some (Update table (Own write) old written)) is = absurd is
net_undone (Some (Delete table target old)) is = tt

net_with : (held : List (Option RowOp)) (op : RowOp) → AllByRecursion IsNet held → AllByRecursion IsNet (held_with held op)
net_with held (Insert table row) all = net_more held (Some (Insert table row)) all tt
net_with held (Update table (Base genid) old row) all = net_more held (Some (Update table (Base genid) old row)) all tt
net_with held (Update table (Own zero) old row) all = net_more held None all tt
net_with held (Update table (Own (suc i)) old row) all =
    net_more (taken_out held (suc i)) (rewritten (held_at held (suc i)) row) (subst (AllByRecursion IsNet) (sym (out_suc held i)) (net_out held i all))
    (net_rewritten (held_at held (suc i)) row (subst IsNet (sym (at_suc held i)) (net_got held i all)))
net_with held (Delete table (Base genid) old) all = net_more held (Some (Delete table (Base genid) old)) all tt
net_with held (Delete table (Own zero) old) all = net_more held None all tt
net_with held (Delete table (Own (suc i)) old) all =
    net_more (taken_out held (suc i)) (undone (held_at held (suc i))) (subst (AllByRecursion IsNet) (sym (out_suc held i)) (net_out held i all))
    (net_undone (held_at held (suc i)) (subst IsNet (sym (at_suc held i)) (net_got held i all)))

net_after : (held : List (Option RowOp)) (ops : List RowOp) → AllByRecursion IsNet held → AllByRecursion IsNet (held_after held ops)
net_after held [] all = all
net_after held (op ∷ ops) all = net_after (held_with held op) ops (net_with held op all)

abbrev IsNetOp : RowOp → Type 0
IsNetOp op = IsNet (Some op)

net_standing : (held : List (Option RowOp)) → AllByRecursion IsNet held → AllByRecursion IsNetOp (standing held)
net_standing [] all = tt
net_standing (None ∷ held) all = net_standing held all.1
net_standing (Some op ∷ held) all = (all.0, net_standing held all.1)

-- such an operation is held as itself
net_itself : (held : List (Option RowOp)) (op : RowOp) → IsNetOp op → held_with held op ≡ held ++ Some op ∷ []
net_itself held (Insert table row) is = refl
net_itself held (Update table (Base genid) old row) is = refl
net_itself held (Update table (Own write) old row) is = absurd is
net_itself held (Delete table (Base genid) old) is = refl
net_itself held (Delete table (Own write) old) is = absurd is

net_held : (held : List (Option RowOp)) (ops : List RowOp) → AllByRecursion IsNetOp ops → held_after held ops ≡ held ++ map (λ op. Some op) ops
net_held held [] all = sym (append-nil held)
net_held held (op ∷ ops) all =
    ap (λ h. held_after h ops) (net_itself held op all.0)
    ∙ net_held (held ++ Some op ∷ []) ops all.1
    ∙ append_assoc held (Some op ∷ []) (map (λ o. Some o) ops)

-- the net operations of writes are held as themselves
net_again : (ops : List RowOp) → held_after [] (net_of ops) ≡ map (λ op. Some op) (net_of ops)
net_again ops = net_held [] (net_of ops) (net_standing (held_after [] ops) (net_after [] ops tt))

pub kept : (ops : List RowOp) (op : RowOp) → net_of (ops ++ op ∷ []) ≡ standing (held_with (held_after [] ops) op)
kept ops op = ap standing (after_append [] ops (op ∷ []))

pub again : (ops : List RowOp) → net_of (net_of ops) ≡ net_of ops
again ops = ap standing (net_again ops) ∙ squeezed (held_after [] ops)

pub numbers : NumbersAreAsGood
numbers ops writes all =
    let held : List (Option RowOp) = held_after [] ops in
    let after = kept_all held held writes (under_all held) all in
    sym (
    ap standing (after_append [] (net_of ops) (map (with_place held) writes))
    ∙ ap (λ h. standing (held_after h (map (with_place held) writes))) (net_again ops ∙ sym (picked_all held))
    ∙ ap standing after.same
    ∙ standing_picked held (held_after held writes) after.under
    )
