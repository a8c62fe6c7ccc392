-- A session's transaction is lost by a fall since it is at this transaction.
use Rattle.std.proofs.Common.{ℕ, ◌≡◌, ◌+◌, ◌<◌, ◌≤◌, List, [], ◌∷◌, ◌++◌, length, arith, refl, sym, subst, ap, ◌∙◌}
use Rattle.std.specs.Prelude.{◌==◌, suc, Bool, true, false, Some, slice_get}
use Rattle.std.specs.List.{AllByRecursion}
use Rattle.std.proofs.lemmas.Bool.Decides.{Decides-eqb}
use Rattle.cdb_values.specs.declared.replies.Reply.{Reply}
use Rattle.cdb_values.specs.declared.replies.Reply.TheVariants as reply
use Rattle.cluster_answers.proofs.BeginLaws.{cons_parts}
use Rattle.cluster_events.specs.Guards.{AreNamedApart, IsLegalHistory, IsOfLoss, MayFinish, commit_id_of}
use Rattle.cluster_events.specs.Parts.{ActorEvent, Opened, head_number, part, lines}
use Rattle.cluster_events.specs.Settings.{Setting}
use Rattle.cluster_events.proofs.HistoryLaws.{legal_rest}
use Rattle.cluster_events.proofs.LineLists.{append_assoc, told_append}
use Rattle.cluster_events.proofs.OwnLines.{knows}
use Rattle.cluster_steps.specs.Named.{steps}
use Rattle.cluster_steps.specs.declared.events.Event.{Event}
use Rattle.cluster_steps.proofs.StepLaws.{legal_steps, more_steps, steps_append}
use Rattle.report_laws.specs.Nodes.{downs}
use Rattle.report_laws.specs.Places.{IsLost, is_loss_by, survives}
use Rattle.report_laws.specs.Told.{Numbered, told}
use Rattle.report_laws.specs.Work.{Does, Transaction, WorkItem}
use Rattle.report_text.specs.declared.reports.Line.TheVariants as line
use Rattle.session_language.specs.Each.{StandsIn}
use Rattle.session_work.specs.Seats.{IsSeat}
use Rattle.session_losses.specs.Falls.{falls_by, falls_of}
use Rattle.session_losses.proofs.FallLaws.{FallsAt, HasLine, fall_at, falls_count, has_line}
use Rattle.session_losses.proofs.SinceLaws.{IsLossWithin, TellsOf, left_since, tells_since}
use Rattle.session_losses.proofs.ToldLaws.{begin_told, told_within}

-- no loss that was told is by a line of a higher number
other_loss : (n down : ℕ) (r : Reply) → n < down → IsLossWithin n r → is_loss_by down r ≡ false
other_loss n down (reply.Lost node other) lt k = go (other == down) refl
  where
    go : (b : Bool) → (other == down) ≡ b → (other == down) ≡ false
    go false e = e
    go true e = let same : other ≡ down = (Decides-eqb other down).0 e in let low : other ≤ n = k in absurd (omega (arith, same, low, lt))
other_loss n down (reply.Begin position) lt k = refl
other_loss n down (reply.Row row) lt k = refl
other_loss n down (reply.Done rows) lt k = refl
other_loss n down (reply.Changed rows) lt k = refl
other_loss n down (reply.Error cause) lt k = refl
other_loss n down (reply.Level level) lt k = refl
other_loss n down reply.RolledBack lt k = refl
other_loss n down (reply.Committed position) lt k = refl
other_loss n down (reply.ConflictGenid position table genid) lt k = refl
other_loss n down (reply.ConflictRange position table key) lt k = refl
other_loss n down (reply.Duplicate position table key) lt k = refl
other_loss n down (reply.NoMajority up nodes) lt k = refl
other_loss n down reply.NoMemory lt k = refl

other_losses : (n down : ℕ) (xs : List Numbered) → n < down → AllByRecursion (λ l. IsLossWithin n l.1) xs → AllByRecursion (λ l. is_loss_by down l.1 ≡ false) xs
other_losses n down [] lt all = tt
other_losses n down (x ∷ xs) lt all = (other_loss n down x.1 lt all.0, other_losses n down xs lt all.1)

all_both : {A : Type 0} (P : A → Type 0) (xs ys : List A) → AllByRecursion P xs → AllByRecursion P ys → AllByRecursion P (xs ++ ys)
all_both P [] ys a b = b
all_both P (x ∷ xs) ys a b = (a.0, all_both P xs ys a.1 b)

cancel : {A : Type 0} (a b c : List A) → a ++ b ≡ a ++ c → b ≡ c
cancel [] b c e = e
cancel (x ∷ a) b c e = cancel a b c (cons_parts e).1

-- the fall stands at this place, and the session is at one transaction since
module _ (G : Setting) (s : ℕ) (later g : List (ℕ × ActorEvent)) (node i : ℕ) (e : ActorEvent) (t : Transaction) (others : List WorkItem) (far : AreNamedApart G) (legal : IsLegalHistory G (later ++ (node, e) ∷ g)) (few : length (part G s g).left ≤ suc (length others)) (is : (part G s (later ++ (node, e) ∷ g)).left ≡ Does t ∷ others) where
  -- it was told of this transaction alone since
  told_since : (l : HasLine G later g node i e) → TellsOf t.number (part G s ((node, e) ∷ g)).told (part G s (later ++ (node, e) ∷ g)).told → AllByRecursion (λ x. x.0 ≡ t.number) (told (G.names s) l.back)
  told_since l k =
      let all : told (G.names s) (lines G (later ++ (node, e) ∷ g)) ≡ (part G s (later ++ (node, e) ∷ g)).told = knows G far (later ++ (node, e) ∷ g) s in
      let first : told (G.names s) (lines G ((node, e) ∷ g)) ≡ (part G s ((node, e) ∷ g)).told = knows G far ((node, e) ∷ g) s in
      let split : told (G.names s) (lines G (later ++ (node, e) ∷ g)) ≡ told (G.names s) (lines G ((node, e) ∷ g)) ++ told (G.names s) l.back = ap (λ z. told (G.names s) z) l.own ∙ told_append (G.names s) (lines G ((node, e) ∷ g)) l.back in
      let same : (part G s ((node, e) ∷ g)).told ++ told (G.names s) l.back ≡ (part G s ((node, e) ∷ g)).told ++ k.more =
      sym (ap (λ (z : List Numbered). z ++ told (G.names s) l.back) first) ∙ (sym split ∙ (all ∙ k.is)) in
      subst (λ (z : List Numbered). AllByRecursion (λ x. x.0 ≡ t.number) z) (sym (cancel (part G s ((node, e) ∷ g)).told (told (G.names s) l.back) k.more same)) k.its

  -- and of no loss by it
  never_lost : length (falls_of g) ≡ i → AllByRecursion (λ x. is_loss_by (i + 1) x.1 ≡ false) (told (G.names s) (lines G (later ++ (node, e) ∷ g)))
  never_lost place =
      let whole : (later ++ (node, e) ∷ []) ++ g ≡ later ++ (node, e) ∷ g = append_assoc later ((node, e) ∷ []) g in
      let k : TellsOf t.number (part G s g).told (part G s ((later ++ (node, e) ∷ []) ++ g)).told =
      tells_since G s (later ++ (node, e) ∷ []) g t others (subst (λ z. IsLegalHistory G z) (sym whole) legal) few (subst (λ z. (part G s z).left ≡ Does t ∷ others) (sym whole) is) in
      let told_is : told (G.names s) (lines G (later ++ (node, e) ∷ g)) ≡ (part G s g).told ++ k.more = knows G far (later ++ (node, e) ∷ g) s ∙ (ap (λ z. (part G s z).told) (sym whole) ∙ k.is) in
      let before : IsLegalHistory G g = (legal_rest G later ((node, e) ∷ g) legal).1 in
      let count : downs (lines G g) ≡ length (falls_of g) = falls_count G g in
      let lt : downs (lines G g) < i + 1 = omega (arith, count, place) in
      let low : 0 < i + 1 = omega arith in
      subst (λ (z : List Numbered). AllByRecursion (λ x. is_loss_by (i + 1) x.1 ≡ false) z) (sym told_is)
      (all_both (λ x. is_loss_by (i + 1) x.1 ≡ false) (part G s g).told k.more (other_losses (downs (lines G g)) (i + 1) (part G s g).told lt (told_within G s g before)) (other_losses 0 (i + 1) k.more low k.plain))

  -- so the transaction is lost by it
  pub lost_by : (o : Opened) → (part G s (later ++ (node, e) ∷ g)).opened ≡ Some o → falls_by node e ≡ node ∷ [] → length (falls_of g) ≡ i → IsLost (lines G (later ++ (node, e) ∷ g)) (G.names s) t.number node (i + 1)
  lost_by o opened falls place =
      let l = has_line G later g node i e falls place in
      let less : length (part G s ((node, e) ∷ g)).left ≤ length (part G s g).left = left_since G s ((node, e) ∷ []) g in
      let short : length (part G s ((node, e) ∷ g)).left ≤ suc (length others) = omega (arith, less, few) in
      let k = tells_since G s later ((node, e) ∷ g) t others legal short is in
      record {
        fault = l.fault;
        front = lines G g;
        back = l.back;
        stands = l.stands;
        since = told_since l k;
        begin = o.begin;
        begun = subst (λ (z : List WorkItem). StandsIn (lines G (later ++ (node, e) ∷ g)) (line.Session (G.names s) (head_number z) (reply.Begin o.begin))) is (begin_told G s (later ++ (node, e) ∷ g) o opened);
        once = never_lost place;
      }

-- a transaction is lost by each fall since its session is at it
pub is_lost : (G : Setting) (s : ℕ) (later old : List (ℕ × ActorEvent)) (t : Transaction) (others : List WorkItem) (o : Opened) (node i : ℕ) → AreNamedApart G → IsLegalHistory G (later ++ old) → (part G s old).left ≡ Does t ∷ others
    → (part G s (later ++ old)).left ≡ Does t ∷ others → (part G s (later ++ old)).opened ≡ Some o → length (falls_of old) ≤ i → slice_get (falls_of (later ++ old)) i ≡ Some node → IsLost (lines G (later ++ old)) (G.names s) t.number node (i + 1)
is_lost G s later old t others o node i far legal was is opened behind fell =
    let f : FallsAt (later ++ old) old node i = fall_at later old node i behind fell in
    let less : length (part G s (f.between ++ old)).left ≤ length (part G s old).left = left_since G s f.between old in
    let size : length (part G s old).left ≡ suc (length others) = ap (λ z. length z) was in
    let few : length (part G s (f.between ++ old)).left ≤ suc (length others) = omega (arith, less, size) in
    subst (λ z. IsLost (lines G z) (G.names s) t.number node (i + 1)) f.whole
    (lost_by G s f.later (f.between ++ old) node i f.event t others far (subst (λ z. IsLegalHistory G z) (sym f.whole) legal) few (subst (λ z. (part G s z).left ≡ Does t ∷ others) (sym f.whole) is) o
    (subst (λ z. (part G s z).opened ≡ Some o) (sym f.whole) opened) f.falls f.place)

-- and its session may be told that, where the node is its own, or its commit was sent there
pub may_lose : (G : Setting) (s : ℕ) (later old : List (ℕ × Event)) (t : Transaction) (others : List WorkItem) (o : Opened) (node i : ℕ) → IsSeat G s (later ++ old) → (part G s (steps G old)).left ≡ Does t ∷ others
    → (part G s (steps G (later ++ old))).left ≡ Does t ∷ others → (part G s (steps G (later ++ old))).opened ≡ Some o → length (falls_of (steps G old)) ≤ i → slice_get (falls_of (steps G (later ++ old))) i ≡ Some node
    → survives G.script (G.names s) ≡ false → IsOfLoss G (steps G (later ++ old)) s (commit_id_of G s t o) node → MayFinish G (steps G (later ++ old)) s (reply.Lost node (i + 1))
may_lose G s later old t others o node i seat was is opened behind fell mortal its = (t, o, record { others = others; is = is; opened = opened }, mortal, lost, its)
  where
    whole : steps G (later ++ old) ≡ more_steps G later old ++ steps G old
    whole = steps_append G later old

    lost : IsLost (lines G (steps G (later ++ old))) (G.names s) t.number node (i + 1)
    lost = subst (λ z. IsLost (lines G z) (G.names s) t.number node (i + 1)) (sym whole)
        (is_lost G s (more_steps G later old) (steps G old) t others o node i seat.plan.apart (subst (λ z. IsLegalHistory G z) whole (legal_steps G (later ++ old) seat.legal)) was
        (subst (λ z. (part G s z).left ≡ Does t ∷ others) whole is) (subst (λ z. (part G s z).opened ≡ Some o) whole opened) behind (subst (λ z. slice_get (falls_of z) i ≡ Some node) whole fell))
