-- The losses that a session was told are by lines of falls before, and an open transaction was told its begin.
use Rattle.std.proofs.Common.{ℕ, ◌≡◌, ◌+◌, ◌≤◌, List, [], ◌∷◌, ◌++◌, arith, refl, sym, subst, ap, ◌∙◌}
use Rattle.std.specs.Prelude.{◌==◌, Bool, true, false, cond, Some}
use Rattle.std.specs.List.{AllByRecursion}
use Rattle.std.proofs.lemmas.Bool.Decides.{Decides-eqb}
use mathlib.Core.Logic.{◌⊎◌, inl, inr}
use Rattle.cdb_values.specs.declared.replies.Reply.{Reply}
use Rattle.cdb_values.specs.declared.replies.Reply.TheVariants as reply
use Rattle.cluster_answers.proofs.AskLaws.{none_some}
use Rattle.cluster_answers.proofs.ToldLaws.{some_eq}
use Rattle.cluster_events.specs.Guards.{IsLegalHistory, MayDo, MayFinish}
use Rattle.cluster_events.specs.Parts.{ActorEvent, Opened, Part, head_number, lone_of, moves, part, lines_by, lines}
use Rattle.cluster_events.specs.Parts.ActorEvent.{Begun, Say, Note, Finish}
use Rattle.cluster_events.specs.Settings.{Setting}
use Rattle.cluster_events.proofs.LineLists.{append_assoc}
use Rattle.report_laws.specs.Nodes.{downs}
use Rattle.report_laws.specs.Places.{IsLost}
use Rattle.report_laws.specs.Told.{Numbered}
use Rattle.report_laws.proofs.NodesLaws.{downs_append}
use Rattle.report_text.specs.declared.reports.Line.{Line}
use Rattle.report_text.specs.declared.reports.Line.TheVariants as line
use Rattle.session_language.specs.Each.{StandsIn}
use Rattle.session_losses.proofs.FallLaws.{number_of_fall}
use Rattle.session_losses.proofs.SinceLaws.{IsLossWithin, all_push, plain_within}

-- more lines may tell of more falls
pub within_more : (n m : ℕ) (r : Reply) → n ≤ m → IsLossWithin n r → IsLossWithin m r
within_more n m (reply.Lost node down) le k = let low : down ≤ n = k in omega (arith, low, le)
within_more n m _ le k = tt

all_within : (n m : ℕ) (xs : List Numbered) → n ≤ m → AllByRecursion (λ l. IsLossWithin n l.1) xs → AllByRecursion (λ l. IsLossWithin m l.1) xs
all_within n m [] le all = tt
all_within n m (x ∷ xs) le all = (within_more n m x.1 le all.0, all_within n m xs le all.1)

-- a loss is told by a line that stands
lost_within : (G : Setting) (h : List (ℕ × ActorEvent)) (session : List ℕ) (txn node down : ℕ) → IsLegalHistory G h → IsLost (lines G h) session txn node down → down ≤ downs (lines G h)
lost_within G h session txn node down legal lost =
    let number : down ≡ downs lost.front + 1 = number_of_fall G h legal lost.front lost.back down node lost.fault lost.stands in
    let all : downs (lines G h) ≡ downs (lost.front ++ line.Down down node lost.fault ∷ lost.back) = ap downs lost.stands in
    let parts : downs (lost.front ++ line.Down down node lost.fault ∷ lost.back) ≡ downs lost.front + (downs lost.back + 1) = downs_append lost.front (line.Down down node lost.fault ∷ lost.back) in
    omega (arith, number, all, parts)

finish_within : (G : Setting) (h : List (ℕ × ActorEvent)) (s : ℕ) (a : Reply) → IsLegalHistory G h → MayFinish G h s a → IsLossWithin (downs (lines G h)) a
finish_within G h s (reply.Lost node down) legal may = lost_within G h (G.names s) may.0.number node down legal may.4
finish_within G h s _ legal may = tt

own_within : (G : Setting) (h : List (ℕ × ActorEvent)) (s : ℕ) (e : ActorEvent) → IsLegalHistory G h → MayDo G h s e → AllByRecursion (λ l. IsLossWithin (downs (lines G h)) l.1) (part G s h).told
    → AllByRecursion (λ l. IsLossWithin (downs (lines G h)) l.1) (moves (part G s h) e).told
own_within G h s (Begun b g) legal may all = all_push (λ l. IsLossWithin (downs (lines G h)) l.1) (part G s h).told (head_number (part G s h).left, reply.Begin b) all tt
own_within G h s (Say r) legal may all = all_push (λ l. IsLossWithin (downs (lines G h)) l.1) (part G s h).told (head_number (part G s h).left, r) all (plain_within (downs (lines G h)) r may.4)
own_within G h s Note legal may all =
    all_push (λ l. IsLossWithin (downs (lines G h)) l.1) (part G s h).told (head_number (part G s h).left, lone_of (part G s h).left) all
    (subst (λ z. IsLossWithin (downs (lines G h)) z) (sym (ap (λ z. lone_of z) may.2)) (plain_within (downs (lines G h)) may.0 may.3))
own_within G h s (Finish a) legal may all = all_push (λ l. IsLossWithin (downs (lines G h)) l.1) (part G s h).told (head_number (part G s h).left, a) all (finish_within G h s a legal may.0)
own_within G h s _ legal may all = all

-- the losses told so far are by lines that stand
pub told_within : (G : Setting) (s : ℕ) (h : List (ℕ × ActorEvent)) → IsLegalHistory G h → AllByRecursion (λ l. IsLossWithin (downs (lines G h)) l.1) (part G s h).told
told_within G s [] legal = tt
told_within G s (x ∷ h) legal = all_within (downs (lines G h)) (downs (lines G (x ∷ h))) (part G s (x ∷ h)).told more (go (told_within G s h legal.1) (s == x.0) refl)
  where
    new : List Line
    new = lines_by G (lines G h) (part G x.0 h) x.0 x.1

    more : downs (lines G h) ≤ downs (lines G (x ∷ h))
    more = let parts : downs (lines G h ++ new) ≡ downs (lines G h) + downs new = downs_append (lines G h) new in subst (λ z. downs (lines G h) ≤ z) (sym parts) (omega arith)

    go : AllByRecursion (λ l. IsLossWithin (downs (lines G h)) l.1) (part G s h).told → (b : Bool) → (s == x.0) ≡ b
        → AllByRecursion (λ l. IsLossWithin (downs (lines G h)) l.1) (cond b (moves (part G s h) x.1) (part G s h)).told
    go all true q =
        let may : MayDo G h s x.1 = subst (λ k. MayDo G h k x.1) (sym ((Decides-eqb s x.0).0 q)) legal.0 in
        own_within G h s x.1 legal.1 may all
    go all false q = all

-- what stands among lines stands among more
stands_more : {A : Type 0} (x : A) (xs ys : List A) → StandsIn xs x → StandsIn (xs ++ ys) x
stands_more x xs ys k = (k.0, k.1 ++ ys, ap (λ z. z ++ ys) k.2 ∙ append_assoc k.0 (x ∷ k.1) ys)

-- a transaction is open by its begin alone
abbrev pub IsBegunBy : ActorEvent → Opened → Type 0
IsBegunBy (Begun b g) o = record { begin = b; gen = g } ≡ o
IsBegunBy _ o = ⊥

opened_by : (p : Part) (e : ActorEvent) (o : Opened) → (moves p e).opened ≡ Some o → ((p.opened ≡ Some o) × ((moves p e).left ≡ p.left)) ⊎ IsBegunBy e o
opened_by p (Begun b g) o is = inr (some_eq is)
opened_by p Note o is = none_some is
opened_by p (Finish a) o is = none_some is
opened_by p _ o is = inl (is, refl)

begin_line : (G : Setting) (before : List Line) (p : Part) (s : ℕ) (e : ActorEvent) (o : Opened) → IsBegunBy e o → StandsIn (before ++ lines_by G before p s e) (line.Session (G.names s) (head_number (moves p e).left) (reply.Begin o.begin))
begin_line G before p s (Begun b g) o is = (before, [], ap (λ (z : Opened). before ++ line.Session (G.names s) (head_number p.left) (reply.Begin z.begin) ∷ []) is)
begin_line G before p s _ o is = absurd is

own_begin : (G : Setting) (before : List Line) (p : Part) (s : ℕ) (e : ActorEvent) (o : Opened) → (p.opened ≡ Some o → StandsIn before (line.Session (G.names s) (head_number p.left) (reply.Begin o.begin))) → (moves p e).opened ≡ Some o
    → StandsIn (before ++ lines_by G before p s e) (line.Session (G.names s) (head_number (moves p e).left) (reply.Begin o.begin))
own_begin G before p s e o old is = go (opened_by p e o is)
  where
    go : ((p.opened ≡ Some o) × ((moves p e).left ≡ p.left)) ⊎ IsBegunBy e o → StandsIn (before ++ lines_by G before p s e) (line.Session (G.names s) (head_number (moves p e).left) (reply.Begin o.begin))
    go (inl k) =
        subst (λ z. StandsIn (before ++ lines_by G before p s e) (line.Session (G.names s) (head_number z) (reply.Begin o.begin))) (sym k.1)
        (stands_more (line.Session (G.names s) (head_number p.left) (reply.Begin o.begin)) before (lines_by G before p s e) (old k.0))
    go (inr k) = begin_line G before p s e o k

-- an open transaction was told its begin
pub begin_told : (G : Setting) (s : ℕ) (h : List (ℕ × ActorEvent)) (o : Opened) → (part G s h).opened ≡ Some o → StandsIn (lines G h) (line.Session (G.names s) (head_number (part G s h).left) (reply.Begin o.begin))
begin_told G s [] o is = none_some is
begin_told G s (x ∷ h) o is = go (begin_told G s h o) (s == x.0) refl is
  where
    go : ((part G s h).opened ≡ Some o → StandsIn (lines G h) (line.Session (G.names s) (head_number (part G s h).left) (reply.Begin o.begin))) → (b : Bool) → (s == x.0) ≡ b
        → (cond b (moves (part G s h) x.1) (part G s h)).opened ≡ Some o
        → StandsIn (lines G h ++ lines_by G (lines G h) (part G x.0 h) x.0 x.1) (line.Session (G.names s) (head_number (cond b (moves (part G s h) x.1) (part G s h)).left) (reply.Begin o.begin))
    go old true q is =
        let same : s ≡ x.0 = (Decides-eqb s x.0).0 q in
        subst (λ i. StandsIn (lines G h ++ lines_by G (lines G h) (part G i h) i x.1) (line.Session (G.names s) (head_number (moves (part G s h) x.1).left) (reply.Begin o.begin))) same
        (own_begin G (lines G h) (part G s h) s x.1 o old is)
    go old false q is = stands_more (line.Session (G.names s) (head_number (part G s h).left) (reply.Begin o.begin)) (lines G h) (lines_by G (lines G h) (part G x.0 h) x.0 x.1) (old is)
