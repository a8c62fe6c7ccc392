-- Each line that tells of a feed is right.
use Rattle.std.proofs.Common.{◌≡◌, ℕ, ◌≤◌, List, [], ◌∷◌, ◌++◌, length, arith, refl, ap, sym, subst, ◌∙◌}
use Rattle.std.specs.Prelude.{◌==◌, Bool, true, false, cond, Some}
use Rattle.std.specs.List.{AllByRecursion}
use Rattle.std.proofs.lemmas.Bool.Decides.{Decides-eqb}
use mathlib.Core.Logic.{inl, inr}
use Rattle.cluster_answers.proofs.AskLaws.{is_op, hears, Asked, asked_at}
use Rattle.cluster_answers.proofs.BeginLaws.{NamedOk, named_lines, front_of, base_below}
use Rattle.cluster_begins.proofs.Since.{fresh_begin, told_trans}
use Rattle.cluster_begins.specs.Begins.{CanBegin, IsPositionAnswered}
use Rattle.cluster_consensus.specs.Events.NodeEvent.{Down, Boot, Back, BackLead, BackTake, BackGrow, BackAppend, Asks}
use Rattle.cluster_consensus.specs.Facts.{Claim}
use Rattle.cluster_consensus.specs.Histories.{Legal, after}
use Rattle.cluster_events.proofs.HistoryLaws.{steps, core_is, steps_legal, steps_append, legal_rest, good_of, Later, later_refl, later_event, Pinged, pinged_later, pinged_by, begins_of}
use Rattle.cluster_events.proofs.LineLists.{append_nil, each_after_more}
use Rattle.cluster_events.specs.Guards.{AreNamedApart, MayDo, IsLegalHistory, fed_from}
use Rattle.cluster_events.specs.Parts.{ActorEvent, part, field, up_line, lines_by, lines}
use Rattle.cluster_events.specs.Parts.ActorEvent.{Node, Stop, Ask, Begun, Say, Note, Finish, Barrier, Fed, FedAgain}
use Rattle.cluster_events.specs.Settings.{Setting, basis_from}
use Rattle.cluster_feeds.proofs.UnreadLaws.{AreUnread, unread_since}
use Rattle.cluster_feeds.specs.Fed.{IsFedLine}
use Rattle.cluster_masters.proofs.MasterLaws.{reported_has, first_of}
use Rattle.cluster_masters.specs.FirstMaster.{IsFirstMaster, HasNoMaster}
use Rattle.cluster_masters.specs.Reported.{IsReported}
use Rattle.cluster_requests.specs.KeptEntries.{KeptEntry}
use Rattle.cluster_requests.specs.Requests.{Field}
use Rattle.core_lists.proofs.Fronts.{front_length}
use Rattle.core_lists.specs.Lists.{In}
use Rattle.core_lists.specs.Lists.In.{here, there}
use Rattle.report_laws.specs.Lawful.{NameUpTo, positions, is_heard}
use Rattle.node_reports.specs.Fed.{is_read, IsFedAt, Repeats}
use Rattle.node_reports.specs.Order.{last_fed}
use Rattle.cluster_consensus.specs.Durable.{DurableIn}
use Rattle.cdb_values.specs.Rows.{Rows}
use Rattle.report_laws.specs.View.{View}
use Rattle.report_laws.specs.Nodes.{is_up, are_few}
use Rattle.report_text.specs.declared.reports.Line.{Line}
use Rattle.report_text.specs.declared.reports.Line.TheVariants as line
use Rattle.session_language.specs.Each.{EachAfter}

pub later_trans : {f g k : Field} → Later f g → Later g k → Later f k
later_trans a b = record {
  grows = record { votes = λ j x m. b.grows.votes j x (a.grows.votes j x m); grants = λ j x m. b.grows.grants j x (a.grows.grants j x m); leads = λ j x m. b.grows.leads j x (a.grows.leads j x m); accepts = λ j x m. b.grows.accepts j x (a.grows.accepts j x m); admits = λ x m. b.grows.admits x (a.grows.admits x m) };
  told = λ j. told_trans (a.told j) (b.told j);
  sends = λ x m. b.sends x (a.sends x m);
  settles = λ x m. b.settles x (a.settles x m);
}

-- what the operator reads it hears
read_is : (l : Line) → is_read l ≡ is_op l
read_is (line.Session name t r) = refl
read_is (line.Down c n f) = refl
read_is (line.Up n) = refl
read_is line.Barrier = refl
read_is (line.Fed d) = refl

pub all_in : {A : Type 0} (P : A → Type 0) (xs : List A) → ((x : A) → In x xs → P x) → AllByRecursion P xs
all_in P [] f = tt
all_in P (x ∷ xs) f = (f x here, all_in P xs (λ y m. f y (there m)))

-- an answered feed covers all that stood before what the operator read
fed_heard : (G : Setting) → AreNamedApart G → (h : List (ℕ × ActorEvent)) (i d g : ℕ) → IsLegalHistory G h → MayDo G h i (Fed d g) → (front : List Line) (mark : Line) (back : List Line) → lines G h ≡ front ++ mark ∷ back → is_read mark ≡ true → NameUpTo d front
fed_heard G far h i d g legal may front mark back e m = all_in _ front (λ x k. all_in _ (positions x) (λ p q. covers x k p q))
  where
    a : Asked G i may.1 h
    a = asked_at G far i may.1 h legal may.2

    legal' : IsLegalHistory G (a.mid ++ (i, Ask may.1) ∷ a.before)
    legal' = subst (λ z. IsLegalHistory G z) a.is legal

    split : steps h ≡ steps a.mid ++ (i, Asks may.1) ∷ steps a.before
    split = ap (λ z. steps z) a.is ∙ steps_append a.mid ((i, Ask may.1) ∷ a.before)

    core : Legal G.nodes (steps a.mid ++ (i, Asks may.1) ∷ steps a.before)
    core = subst (λ z. Legal G.nodes z) split (steps_legal G h legal)

    can : CanBegin G.nodes (after (steps a.mid ++ (i, Asks may.1) ∷ steps a.before)) may.1 d g
    can = subst (λ z. CanBegin G.nodes (after z) may.1 d g) split (subst (λ w. CanBegin G.nodes w may.1 d g) (core_is h) may.3)

    at_most : (p : ℕ) → NamedOk (field a.before) p → p ≤ d
    at_most p (inl z) = let z' : p ≡ 0 = z in omega arith
    at_most p (inr n) = fresh_begin G.nodes i may.1 d g p n.0 (steps a.before) (steps a.mid) core can (subst (λ w. IsPositionAnswered w p n.0) (core_is a.before) n.1)

    zero : (i == 0) ≡ true
    zero = (Decides-eqb i 0).1 may.0

    covers : (x : Line) → In x front → (p : ℕ) → In p (positions x) → p ≤ d
    covers x k p q =
        let m' : hears G i mark ≡ true = ap (λ c. cond c (is_op mark) (is_heard (G.names i) mark)) zero ∙ (sym (read_is mark) ∙ m) in
        let k' = front_of G i (lines G a.before) a.rest front mark back (sym a.lines' ∙ e) a.unheard m' x k in
        at_most p ((named_lines G a.before (legal_rest G a.mid ((i, Ask may.1) ∷ a.before) legal').1).at x k' p q)

pub unread_all : (ls : List Line) → AreUnread ls → AllByRecursion (λ l. is_read l ≡ false) ls
unread_all [] k = tt
unread_all (l ∷ ls) k = (k.at l here, unread_all ls (record { at = λ x m. k.at x (there m) }))

-- the position of the last feed, in both words
fed_same : (position : ℕ) (ls : List Line) → last_fed position ls ≡ fed_from position ls
fed_same position [] = refl
fed_same position (line.Session name t r ∷ ls) = fed_same position ls
fed_same position (line.Down c n f ∷ ls) = fed_same position ls
fed_same position (line.Up n ∷ ls) = fed_same position ls
fed_same position (line.Barrier ∷ ls) = fed_same position ls
fed_same position (line.Fed at ∷ ls) = fed_same at ls

-- a feed that repeats
pub fed_again : (G : Setting) (base : ℕ) (rows : Rows) → G.nodes ≡ G.script.nodes → (h : List (ℕ × ActorEvent)) (i d : ℕ) → IsLegalHistory G h → MayDo G h i (FedAgain d) → Repeats (basis_from G base rows) (lines G h) d
fed_again G base rows nodes h i d legal may =
    let w = may.2 in
    let legal' : IsLegalHistory G (w.later ++ w.before) = subst (λ z. IsLegalHistory G z) w.split legal in
    let since = subst (λ j. (part G j w.before).asked ≡ Some w.ask) may.0 w.since in
    let now = subst (λ z. (part G 0 z).asked ≡ Some w.ask) w.split (subst (λ j. (part G j h).asked ≡ Some w.ask) may.0 w.asked) in
    let r = unread_since G w.later w.before w.ask legal' since now in
    record { same = may.1 ∙ sym (fed_same 0 (lines G h)); front = lines G w.before; back = r.0; stands = ap (λ z. lines G z) w.split ∙ r.1; since = unread_all r.0 r.2; few = subst (λ n. are_few n (lines G w.before) ≡ true) nodes w.few }

-- what is right of the lines of feeds is right of all lines
module _ (G : Setting) (base : ℕ) (rows : Rows) (view : View) (nodes : G.nodes ≡ G.script.nodes) (H : List (ℕ × ActorEvent)) (answered : (h : List (ℕ × ActorEvent)) (i d g : ℕ) → IsLegalHistory G h → Later (field h) (field H) → MayDo G h i (Fed d g) → IsFedAt (basis_from G base rows) view (lines G h) d) where
  abbrev Right : List Line → Line → Type 0
  Right = IsFedLine (basis_from G base rows) view

  boot_right : (ls : List Line) (i : ℕ) (b : Bool) → EachAfter Right [] ls → EachAfter Right [] (ls ++ up_line b i)
  boot_right ls i false k = each_after_more Right [] ls (line.Up i) k tt
  boot_right ls i true k = subst (λ z. EachAfter Right [] z) (sym (append_nil ls)) k

  step_right : (h : List (ℕ × ActorEvent)) (i : ℕ) (e : ActorEvent) → IsLegalHistory G h → Later (field h) (field H) → MayDo G h i e → EachAfter Right [] (lines G h) → EachAfter Right [] (lines G h ++ lines_by G (lines G h) (part G i h) i e)
  step_right h i (Begun b g) legal on may k = each_after_more Right [] (lines G h) _ k tt
  step_right h i (Say r') legal on may k = each_after_more Right [] (lines G h) _ k tt
  step_right h i Note legal on may k = each_after_more Right [] (lines G h) _ k tt
  step_right h i (Finish o) legal on may k = each_after_more Right [] (lines G h) _ k tt
  step_right h i Barrier legal on may k = each_after_more Right [] (lines G h) _ k tt
  step_right h i (Fed d g) legal on may k = each_after_more Right [] (lines G h) _ k (inl (answered h i d g legal on may))
  step_right h i (FedAgain d) legal on may k = each_after_more Right [] (lines G h) _ k (inr (fed_again G base rows nodes h i d legal may))
  step_right h i Stop legal on may k = each_after_more Right [] (lines G h) _ k tt
  step_right h i (Node Down) legal on may k = each_after_more Right [] (lines G h) _ k tt
  step_right h i (Node (Boot q b l)) legal on may k = boot_right (lines G h) i (is_up i (lines G h)) k
  step_right h i (Node (Back q)) legal on may k = each_after_more Right [] (lines G h) _ k tt
  step_right h i (Node BackLead) legal on may k = each_after_more Right [] (lines G h) _ k tt
  step_right h i (Node (BackTake g l)) legal on may k = each_after_more Right [] (lines G h) _ k tt
  step_right h i (Node (BackGrow l)) legal on may k = each_after_more Right [] (lines G h) _ k tt
  step_right h i (Node (BackAppend e)) legal on may k = each_after_more Right [] (lines G h) _ k tt
  step_right h i (Node _) legal on may k = subst (λ z. EachAfter Right [] z) (sym (append_nil (lines G h))) k
  step_right h i _ legal on may k = subst (λ z. EachAfter Right [] z) (sym (append_nil (lines G h))) k

  all_right : (h : List (ℕ × ActorEvent)) → IsLegalHistory G h → Later (field h) (field H) → EachAfter Right [] (lines G h)
  all_right [] legal on = tt
  all_right (x ∷ h) legal on =
      let on' = later_trans (later_event G h x.0 x.1 (good_of G h legal.1).inv legal.0) on in
      step_right h x.0 x.1 legal.1 on' legal.0 (all_right h legal.1 on')

module _ (G : Setting) (far : AreNamedApart G) (nodes : G.nodes ≡ G.script.nodes) (H : List (ℕ × ActorEvent)) (whole : IsLegalHistory G H) (r m : ℕ) (a : Claim KeptEntry) (top : IsReported G.nodes (field H).core r) (first : IsFirstMaster G.nodes (field H).core m a) (rows : Rows) (view : View) (last : view.last ≡ length ((field H).core.nodes r).log) where
  pub fed_at : (h : List (ℕ × ActorEvent)) (i d g : ℕ) → IsLegalHistory G h → Later (field h) (field H) → MayDo G h i (Fed d g) → IsFedAt (basis_from G (length a.log) rows) view (lines G h) d
  fed_at h i d g legal on may =
      let p : Pinged (field H) d g = pinged_later on (pinged_by G.nodes (field h) may.1 d g may.3) in
      let k = begins_of G H whole d g p in
      let w : d ≤ length k.log = k.within in
      let l = front_length (reported_has (good_of G H whole).inv r top k.gen k.log k.durable) in
      let v : view.last ≡ length ((field H).core.nodes r).log = last in
      record { first = k.first; base = base_below G H whole m a first d g p; within = omega arith; heard = fed_heard G far h i d g legal may }

  pub feeds_right : EachAfter (IsFedLine (basis_from G (length a.log) rows) view) [] (lines G H)
  feeds_right = all_right G (length a.log) rows view nodes H fed_at H whole (later_refl (field H))

-- without a first master no feed is answered
pub none_answered : (G : Setting) (h : List (ℕ × ActorEvent)) → IsLegalHistory G h → HasNoMaster G.nodes (field h).core → (d g : ℕ) → Pinged (field h) d g → ⊥
none_answered G h legal none d g p =
    let k = begins_of G h legal d g p in
    let f = first_of (good_of G h legal).inv k.gen k.log k.durable in
    none f.0 f.1.it f.1.mem (subst (λ z. DurableIn G.nodes (field h).core z f.1.it.log) (sym f.1.is.0) f.1.is.1)

pub feeds_repeat : (G : Setting) (base : ℕ) (rows : Rows) (view : View) → G.nodes ≡ G.script.nodes → (H : List (ℕ × ActorEvent)) → IsLegalHistory G H → HasNoMaster G.nodes (field H).core → EachAfter (IsFedLine (basis_from G base rows) view) [] (lines G H)
feeds_repeat G base rows view nodes H whole none = all_right G base rows view nodes H (λ h i d g legal on may. absurd (none_answered G H whole none d g (pinged_later on (pinged_by G.nodes (field h) may.1 d g may.3)))) H whole (later_refl (field H))
