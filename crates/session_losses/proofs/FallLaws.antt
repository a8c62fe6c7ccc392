-- Each fall has its line, and the lines of falls are numbered in their order.
use Rattle.std.proofs.Common.{ℕ, ◌≡◌, ◌+◌, ◌<◌, ◌≤◌, List, [], ◌∷◌, ◌++◌, length, arith, refl, sym, subst, ap, ◌∙◌, length-append}
use Rattle.std.specs.Prelude.{zero, suc, Bool, true, false, Some, slice_get}
use Rattle.std.proofs.lemmas.Option.{same_Some}
use mathlib.Core.Logic.{◌⊎◌, inl, inr}
use Rattle.core_lists.specs.Lists.{Each}
use Rattle.core_lists.proofs.Lists.{each_add, each_none}
use Rattle.cluster_consensus.specs.Events.NodeEvent.{Boot, Down, Back, BackLead, BackTake, BackGrow, BackAppend}
use Rattle.cluster_events.specs.Guards.{IsLegalHistory}
use Rattle.cluster_events.specs.Parts.{ActorEvent, Part, part, up_line, lines_by, lines}
use Rattle.cluster_events.specs.Parts.ActorEvent.{Node, Stop, Begun, Say, Note, Finish, Barrier, Fed, FedAgain}
use Rattle.cluster_events.specs.Settings.{Setting}
use Rattle.cluster_events.proofs.LineLists.{append_assoc, append_nil}
use Rattle.cluster_events.proofs.LinePlaces.{each_line}
use Rattle.cluster_answers.proofs.AgreeLaws.{get_within}
use Rattle.cluster_answers.proofs.AskLaws.{none_some}
use Rattle.cluster_answers.proofs.BeginLaws.{cons_parts}
use Rattle.report_laws.specs.Nodes.{downs, is_up}
use Rattle.report_laws.proofs.NodesLaws.{downs_append}
use Rattle.report_text.specs.declared.reports.Line.{Line}
use Rattle.report_text.specs.declared.reports.Line.TheVariants as line
use Rattle.session_language.specs.Each.{EachAfter}
use Rattle.session_losses.specs.Falls.{falls_by, falls_of}

none_cons : {A B : Type 0} {x : A} {xs : List A} → [] ≡ x ∷ xs → B
none_cons e = absurd (cc)

few_falls : (i : ℕ) (e : ActorEvent) → length (falls_by i e) ≤ 1
few_falls i (Node Down) = omega arith
few_falls i (Node _) = omega arith
few_falls i Stop = omega arith
few_falls i _ = omega arith

-- who falls by an event did it
fell : (i node : ℕ) (e : ActorEvent) → falls_by i e ≡ node ∷ [] → i ≡ node
fell i node (Node Down) is = (cons_parts is).0
fell i node (Node _) is = none_cons is
fell i node Stop is = (cons_parts is).0
fell i node _ is = none_cons is

-- how many lines tell of a fall
boot_downs : (i : ℕ) (b : Bool) → downs (up_line b i) ≡ 0
boot_downs i true = refl
boot_downs i false = refl

downs_by : (G : Setting) (before : List Line) (p : Part) (i : ℕ) (e : ActorEvent) → downs (lines_by G before p i e) ≡ length (falls_by i e)
downs_by G before p i (Node Down) = refl
downs_by G before p i (Node (Boot q a l)) = boot_downs i (is_up i before)
downs_by G before p i (Node (Back q)) = refl
downs_by G before p i (Node BackLead) = refl
downs_by G before p i (Node (BackTake g l)) = refl
downs_by G before p i (Node (BackGrow l)) = refl
downs_by G before p i (Node (BackAppend e)) = refl
downs_by G before p i (Node _) = refl
downs_by G before p i Stop = refl
downs_by G before p i _ = refl

pub falls_count : (G : Setting) (h : List (ℕ × ActorEvent)) → downs (lines G h) ≡ length (falls_of h)
falls_count G [] = refl
falls_count G (x ∷ h) =
    let new : List Line = lines_by G (lines G h) (part G x.0 h) x.0 x.1 in
    let a : downs (lines G h ++ new) ≡ downs (lines G h) + downs new = downs_append (lines G h) new in
    let b : downs (lines G h) ≡ length (falls_of h) = falls_count G h in
    let c : downs new ≡ length (falls_by x.0 x.1) = downs_by G (lines G h) (part G x.0 h) x.0 x.1 in
    let d : length (falls_of h ++ falls_by x.0 x.1) ≡ length (falls_of h) + length (falls_by x.0 x.1) = length-append (falls_of h) (falls_by x.0 x.1) in
    a ∙ (ap (λ n. n + downs new) b ∙ (ap (λ n. length (falls_of h) + n) c ∙ sym d))

-- each line of a fall has the next number
abbrev pub IsCounted : List Line → Line → Type 0
IsCounted before (line.Down count node fault) = count ≡ downs before + 1
IsCounted before _ = Unit {0}

boot_counted : (before : List Line) (i : ℕ) (b : Bool) → Each (IsCounted before) (up_line b i)
boot_counted before i true = each_none
boot_counted before i false = each_add tt each_none

counted_by : (G : Setting) (h : List (ℕ × ActorEvent)) (i : ℕ) (e : ActorEvent) → Each (IsCounted (lines G h)) (lines_by G (lines G h) (part G i h) i e)
counted_by G h i (Node Down) = each_add refl each_none
counted_by G h i (Node (Boot q a l)) = boot_counted (lines G h) i (is_up i (lines G h))
counted_by G h i (Node (Back q)) = each_add tt each_none
counted_by G h i (Node BackLead) = each_add tt each_none
counted_by G h i (Node (BackTake g l)) = each_add tt each_none
counted_by G h i (Node (BackGrow l)) = each_add tt each_none
counted_by G h i (Node (BackAppend e)) = each_add tt each_none
counted_by G h i (Node _) = each_none
counted_by G h i Stop = each_add refl each_none
counted_by G h i (Begun b g) = each_add tt each_none
counted_by G h i (Say r) = each_add tt each_none
counted_by G h i Note = each_add tt each_none
counted_by G h i (Finish a) = each_add tt each_none
counted_by G h i Barrier = each_add tt each_none
counted_by G h i (Fed d g) = each_add tt each_none
counted_by G h i (FedAgain d) = each_add tt each_none
counted_by G h i _ = each_none

each_at : (P : List Line → Line → Type 0) (before front : List Line) (x : Line) (back : List Line) → EachAfter P before (front ++ x ∷ back) → P (before ++ front) x
each_at P before [] x back all = subst (λ z. P z x) (sym (append_nil before)) all.0
each_at P before (y ∷ front) x back all = subst (λ z. P z x) (append_assoc before (y ∷ []) front) (each_at P (before ++ y ∷ []) front x back all.1)

pub number_of_fall : (G : Setting) (h : List (ℕ × ActorEvent)) → IsLegalHistory G h → (front back : List Line) (count node : ℕ) (fault : Bool) → lines G h ≡ front ++ line.Down count node fault ∷ back → count ≡ downs front + 1
number_of_fall G h legal front back count node fault is =
    each_at IsCounted [] front (line.Down count node fault) back (subst (λ z. EachAfter IsCounted [] z) is (each_line G IsCounted (λ g i e l may. counted_by G g i e) h legal))

-- the place of what is found in a list, to which at most one was added
found : {A : Type 0} (a b : List A) (i : ℕ) (x : A) → length b ≤ 1 → slice_get (a ++ b) i ≡ Some x → (slice_get a i ≡ Some x) ⊎ ((i ≡ length a) × (b ≡ x ∷ []))
found [] [] i x few is = none_some is
found [] (y ∷ []) zero x few is = inr (refl, ap (λ z. z ∷ []) (same_Some y x is))
found [] (y ∷ []) (suc i) x few is = none_some is
found [] (y ∷ z ∷ b) i x few is = absurd (omega (arith, few))
found (y ∷ a) b zero x few is = inl is
found (y ∷ a) b (suc i) x few is = go (found a b i x few is)
  where
    go : (slice_get a i ≡ Some x) ⊎ ((i ≡ length a) × (b ≡ x ∷ [])) → (slice_get a i ≡ Some x) ⊎ ((suc i ≡ suc (length a)) × (b ≡ x ∷ []))
    go (inl e) = inl e
    go (inr e) = inr (ap (λ n. suc n) e.0, e.1)

-- where a node fell, behind so many falls and behind a beginning of the history
pub record FallsAt (h old : List (ℕ × ActorEvent)) (node i : ℕ) : Type 0 where
  pub later : List (ℕ × ActorEvent)
  pub between : List (ℕ × ActorEvent)
  pub event : ActorEvent
  pub whole : later ++ (node, event) ∷ (between ++ old) ≡ h
  pub falls : falls_by node event ≡ node ∷ []
  pub place : length (falls_of (between ++ old)) ≡ i

pub fall_at : (more old : List (ℕ × ActorEvent)) (node i : ℕ) → length (falls_of old) ≤ i → slice_get (falls_of (more ++ old)) i ≡ Some node → FallsAt (more ++ old) old node i
fall_at [] old node i le is = absurd (let lt : i < length (falls_of old) = get_within (falls_of old) i node is in omega (arith, le, lt))
fall_at (x ∷ more) old node i le is = go (fall_at more old node i le) (found (falls_of (more ++ old)) (falls_by x.0 x.1) i node (few_falls x.0 x.1) is)
  where
    go : (slice_get (falls_of (more ++ old)) i ≡ Some node → FallsAt (more ++ old) old node i)
        → (slice_get (falls_of (more ++ old)) i ≡ Some node) ⊎ ((i ≡ length (falls_of (more ++ old))) × (falls_by x.0 x.1 ≡ node ∷ [])) → FallsAt (x ∷ (more ++ old)) old node i
    go again (inl e) = let f = again e in record { later = x ∷ f.later; between = f.between; event = f.event; whole = ap (λ t. x ∷ t) f.whole; falls = f.falls; place = f.place }
    go again (inr e) =
        let its : x.0 ≡ node = fell x.0 node x.1 e.1 in
        let one : (node, x.1) ≡ (x.0, x.1) = ap (λ k. (k, x.1)) (sym its) in
        record {
          later = [];
          between = more;
          event = x.1;
          whole = ap (λ (t : ℕ × ActorEvent). t ∷ (more ++ old)) one;
          falls = subst (λ k. falls_by k x.1 ≡ node ∷ []) its e.1;
          place = sym e.0;
        }

-- lines stay
pub lines_more : (G : Setting) (later g : List (ℕ × ActorEvent)) → (back : List Line) × (lines G (later ++ g) ≡ lines G g ++ back)
lines_more G [] g = ([], sym (append_nil (lines G g)))
lines_more G (x ∷ later) g =
    let m = lines_more G later g in
    let new : List Line = lines_by G (lines G (later ++ g)) (part G x.0 (later ++ g)) x.0 x.1 in
    (m.0 ++ new, ap (λ z. z ++ new) m.1 ∙ append_assoc (lines G g) m.0 new)

-- the line of a fall
line_of_fall : (G : Setting) (before : List Line) (p : Part) (node : ℕ) (e : ActorEvent) → falls_by node e ≡ node ∷ [] → (fault : Bool) × (lines_by G before p node e ≡ line.Down (downs before + 1) node fault ∷ [])
line_of_fall G before p node (Node Down) is = (true, refl)
line_of_fall G before p node (Node _) is = none_cons is
line_of_fall G before p node Stop is = (false, refl)
line_of_fall G before p node _ is = none_cons is

-- it stands behind the lines before it, and before those behind it
pub record HasLine (G : Setting) (later g : List (ℕ × ActorEvent)) (node i : ℕ) (e : ActorEvent) : Type 0 where
  pub fault : Bool
  pub back : List Line
  pub own : lines G (later ++ (node, e) ∷ g) ≡ lines G ((node, e) ∷ g) ++ back
  pub stands : lines G (later ++ (node, e) ∷ g) ≡ lines G g ++ line.Down (i + 1) node fault ∷ back

pub has_line : (G : Setting) (later g : List (ℕ × ActorEvent)) (node i : ℕ) (e : ActorEvent) → falls_by node e ≡ node ∷ [] → length (falls_of g) ≡ i → HasLine G later g node i e
has_line G later g node i e falls place =
    let m = lines_more G later ((node, e) ∷ g) in
    let l = line_of_fall G (lines G g) (part G node g) node e falls in
    let count : downs (lines G g) ≡ length (falls_of g) = falls_count G g in
    let number : downs (lines G g) + 1 ≡ i + 1 = ap (λ n. n + 1) (count ∙ place) in
    record {
      fault = l.0;
      back = m.0;
      own = m.1;
      stands = m.1
          ∙ (ap (λ z. (lines G g ++ z) ++ m.0) l.1
          ∙ (ap (λ n. (lines G g ++ line.Down n node l.0 ∷ []) ++ m.0) number ∙ append_assoc (lines G g) (line.Down (i + 1) node l.0 ∷ []) m.0));
    }

pub any_line : (G : Setting) (h : List (ℕ × ActorEvent)) (i node : ℕ) → slice_get (falls_of h) i ≡ Some node → (fault : Bool) × (front : List Line) × (back : List Line) × (lines G h ≡ front ++ line.Down (i + 1) node fault ∷ back)
any_line G h i node is =
    let whole : h ++ [] ≡ h = append_nil h in
    let none : length (falls_of []) ≤ i = omega arith in
    let f : FallsAt (h ++ []) [] node i = fall_at h [] node i none (subst (λ z. slice_get (falls_of z) i ≡ Some node) (sym whole) is) in
    let l = has_line G f.later (f.between ++ []) node i f.event f.falls f.place in
    (l.fault, lines G (f.between ++ []), l.back, ap (λ z. lines G z) (sym whole) ∙ (ap (λ z. lines G z) (sym f.whole) ∙ l.stands))
