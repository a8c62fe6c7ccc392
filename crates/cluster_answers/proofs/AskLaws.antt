-- Begins are fresh.
use Rattle.std.proofs.Common.{◌≡◌, ◌≢◌, ℕ, ◌+◌, ◌<◌, ◌≤◌, List, [], ◌∷◌, ◌++◌, arith, refl, ap, sym, subst, ◌∙◌}
use Rattle.std.specs.Prelude.{◌==◌, Bool, true, false, cond, Some, None}
use Rattle.std.specs.Str.{bytes_eq}
use Rattle.std.proofs.lemmas.Bool.Decides.{Decides-eqb}
use mathlib.Core.Logic.{◌⊎◌, inl, inr}
use Rattle.core_lists.specs.Lists.{Each}
use Rattle.core_lists.specs.Lists.In.{here, there}
use Rattle.core_lists.proofs.Lists.{each_add, each_none}
use Rattle.cluster_consensus.specs.Events.{NodeEvent}
use Rattle.cluster_consensus.specs.Events.NodeEvent.{Boot, Down, Back, BackLead, BackTake, BackGrow, BackAppend}
use Rattle.cluster_requests.specs.Requests.{Field}
use Rattle.cluster_requests.specs.KeptEntries.{KeptEntry}
use Rattle.report_laws.specs.Nodes.{downs, is_up}
use Rattle.report_laws.specs.Lawful.{is_heard}
use Rattle.report_text.specs.declared.reports.Line.{Line}
use Rattle.report_text.specs.declared.reports.Line.TheVariants as line
use Rattle.cdb_values.specs.declared.replies.Reply.{Reply}
use Rattle.cluster_events.specs.Settings.{Setting}
use Rattle.cluster_events.specs.Parts.{ActorEvent, Opened, Part, moves, part, field, barriers_printed, up_line, lines_by, lines}
use Rattle.cluster_events.specs.Parts.ActorEvent.{Node, Stop, Settle, Repeat, Ask, Begun, Say, Note, Send, Finish, Move, Order, Obeyed, Fire, Barrier, Fed, FedAgain}
use Rattle.cluster_events.specs.Guards.{MayDo, IsLegalHistory, AreNamedApart}
use Rattle.cluster_events.proofs.LineLists.{append_assoc}
use Rattle.cluster_events.proofs.OwnLines.{eq_swap}
use Rattle.cluster_events.proofs.HistoryLaws.{good_of, Later, later_event, Pinged, pinged_later, pinged_by}

pub each_append : {A : Type 0} {P : A → Type 0} (xs ys : List A) → Each P xs → Each P ys → Each P (xs ++ ys)
each_append [] ys a b = b
each_append (x ∷ xs) ys a b = each_add (a.at x here) (each_append xs ys (record { at = λ y m. a.at y (there m) }) b)

abbrev pub is_op : Line → Bool
is_op line.Barrier = true
is_op (line.Fed d) = true
is_op _ = false

-- what an actor printed, or a barrier
abbrev pub hears : Setting → ℕ → Line → Bool
hears G s l = cond (s == 0) (is_op l) (is_heard (G.names s) l)

both_false : (b : Bool) → cond b false false ≡ false
both_false true = refl
both_false false = refl

deaf_to : (b c : Bool) → c ≡ false → cond b false c ≡ false
deaf_to true c e = refl
deaf_to false c e = e

-- an actor has asked, and has told nothing since
pub record AskedAt (G : Setting) (s t : ℕ) (h : List (ℕ × ActorEvent)) (p : Part) (ls : List Line) (bs : ℕ) : Type 0 where
  pub before : List (ℕ × ActorEvent)
  pub mid : List (ℕ × ActorEvent)
  pub is : h ≡ mid ++ (s, Ask t) ∷ before
  pub rest : List Line
  pub lines' : ls ≡ lines G before ++ rest
  pub unheard : Each (λ l. hears G s l ≡ false) rest
  pub busy : (s == 0) ≡ false → p.left ≢ []
  pub waited : G.phase s p.told ≤ bs

abbrev pub Asked : Setting → ℕ → ℕ → List (ℕ × ActorEvent) → Type 0
Asked G s t h = AskedAt G s t h (part G s h) (lines G h) (barriers_printed h)

-- an event that prints nothing that the actor hears
quiet : (G : Setting) (s t : ℕ) (h : List (ℕ × ActorEvent)) (x : ℕ × ActorEvent) (more : List Line) → Asked G s t h → Each (λ l. hears G s l ≡ false) more → AskedAt G s t (x ∷ h) (part G s h) (lines G h ++ more) (barriers_printed h)
quiet G s t h x more a e = record {
  before = a.before;
  mid = x ∷ a.mid;
  is = ap (λ z. x ∷ z) a.is;
  rest = a.rest ++ more;
  lines' = ap (λ z. z ++ more) a.lines' ∙ append_assoc (lines G a.before) a.rest more;
  unheard = each_append a.rest more a.unheard e;
  busy = a.busy;
  waited = a.waited;
}

one_unheard : (G : Setting) (s : ℕ) (l : Line) → hears G s l ≡ false → Each (λ l. hears G s l ≡ false) (l ∷ [])
one_unheard G s l e = each_add e each_none

down_unheard : (G : Setting) (s c i : ℕ) (f : Bool) → Each (λ l. hears G s l ≡ false) (line.Down c i f ∷ [])
down_unheard G s c i f = one_unheard G s (line.Down c i f) (both_false (s == 0))

up_unheard : (G : Setting) (s i : ℕ) → Each (λ l. hears G s l ≡ false) (line.Up i ∷ [])
up_unheard G s i = one_unheard G s (line.Up i) (both_false (s == 0))

said_unheard : (G : Setting) → AreNamedApart G → (s i : ℕ) → (i == s) ≡ false → (t : ℕ) (a : Reply) → Each (λ l. hears G s l ≡ false) (line.Session (G.names i) t a ∷ [])
said_unheard G far s i ne t a = one_unheard G s (line.Session (G.names i) t a) (deaf_to (s == 0) (bytes_eq (G.names i) (G.names s)) (far i s ne))

boot_unheard : (G : Setting) (s i : ℕ) (b : Bool) → Each (λ l. hears G s l ≡ false) (up_line b i)
boot_unheard G s i true = each_none
boot_unheard G s i false = up_unheard G s i

node_unheard : (G : Setting) (s i : ℕ) (before : List Line) (p : Part) (e : NodeEvent KeptEntry) → Each (λ l. hears G s l ≡ false) (lines_by G before p i (Node e))
node_unheard G s i before p Down = down_unheard G s (downs before + 1) i true
node_unheard G s i before p (Boot q a l) = boot_unheard G s i (is_up i before)
node_unheard G s i before p (Back q) = up_unheard G s i
node_unheard G s i before p BackLead = up_unheard G s i
node_unheard G s i before p (BackTake g l) = up_unheard G s i
node_unheard G s i before p (BackGrow l) = up_unheard G s i
node_unheard G s i before p (BackAppend e) = up_unheard G s i
node_unheard G s i before p _ = each_none

no_barrier : {A : Type 0} (G : Setting) (s t : ℕ) (h : List (ℕ × ActorEvent)) (i : ℕ) → (s == 0) ≡ false → MayDo G h i Barrier → Asked G s t h → A
no_barrier G s t h i ns may a = absurd (let u : barriers_printed h < G.phase s (part G s h).told = may.1 s ns (a.busy ns) in let v = a.waited in omega arith)

-- another actor than the operator
not_op : (i s : ℕ) → (i == s) ≡ false → i ≡ 0 → (s == 0) ≡ false
not_op i s ne z = eq_swap 0 s (subst (λ k. (k == s) ≡ false) z ne)

fed_unheard : (G : Setting) (s d : ℕ) → (s == 0) ≡ false → Each (λ l. hears G s l ≡ false) (line.Fed d ∷ [])
fed_unheard G s d ns = one_unheard G s (line.Fed d) (ap (λ b. cond b true false) ns)

other_asked : (G : Setting) → AreNamedApart G → (s t : ℕ) (h : List (ℕ × ActorEvent)) (i : ℕ) (e : ActorEvent) → (i == s) ≡ false → MayDo G h i e → Asked G s t h → AskedAt G s t ((i, e) ∷ h) (part G s h) (lines G h ++ lines_by G (lines G h) (part G i h) i e) (barriers_printed ((i, e) ∷ h))
other_asked G far s t h i (Node e) ne may a = quiet G s t h (i, Node e) _ a (node_unheard G s i (lines G h) (part G i h) e)
other_asked G far s t h i Stop ne may a = quiet G s t h (i, Stop) _ a (down_unheard G s _ i false)
other_asked G far s t h i (Begun b g) ne may a = quiet G s t h (i, Begun b g) _ a (said_unheard G far s i ne _ _)
other_asked G far s t h i (Say r) ne may a = quiet G s t h (i, Say r) _ a (said_unheard G far s i ne _ _)
other_asked G far s t h i Note ne may a = quiet G s t h (i, Note) _ a (said_unheard G far s i ne _ _)
other_asked G far s t h i (Finish o) ne may a = quiet G s t h (i, Finish o) _ a (said_unheard G far s i ne _ _)
other_asked G far s t h i Barrier ne may a = no_barrier G s t h i (not_op i s ne may.0) may a
other_asked G far s t h i (Fed d g) ne may a = quiet G s t h (i, Fed d g) _ a (fed_unheard G s d (not_op i s ne may.0))
other_asked G far s t h i (FedAgain d) ne may a = quiet G s t h (i, FedAgain d) _ a (fed_unheard G s d (not_op i s ne may.0))
other_asked G far s t h i (Settle id why) ne may a = quiet G s t h (i, Settle id why) _ a each_none
other_asked G far s t h i (Repeat id k) ne may a = quiet G s t h (i, Repeat id k) _ a each_none
other_asked G far s t h i (Ask u) ne may a = quiet G s t h (i, Ask u) _ a each_none
other_asked G far s t h i (Send x) ne may a = quiet G s t h (i, Send x) _ a each_none
other_asked G far s t h i (Move k) ne may a = quiet G s t h (i, Move k) _ a each_none
other_asked G far s t h i Order ne may a = quiet G s t h (i, Order) _ a each_none
other_asked G far s t h i Obeyed ne may a = quiet G s t h (i, Obeyed) _ a each_none
other_asked G far s t h i (Fire l k) ne may a = quiet G s t h (i, Fire l k) _ a each_none

pub none_some : {A B : Type 0} {x : A} → None ≡ Some x → B
none_some e = absurd (cc)

is_busy : (p : Part) (s : ℕ) → (p.left ≢ []) ⊎ (s ≡ 0) → (s == 0) ≡ false → p.left ≢ []
is_busy p s (inl e) ns = e
is_busy p s (inr z) ns = absurd (let y = (Decides-eqb s 0).1 z in cc)

own_asked : (G : Setting) (s t : ℕ) (h : List (ℕ × ActorEvent)) (e : ActorEvent) → MayDo G h s e → ((part G s h).asked ≡ Some t → Asked G s t h) → (moves (part G s h) e).asked ≡ Some t → AskedAt G s t ((s, e) ∷ h) (moves (part G s h) e) (lines G h ++ lines_by G (lines G h) (part G s h) s e) (barriers_printed ((s, e) ∷ h))
own_asked G s t h (Node e) may old eq = quiet G s t h (s, Node e) _ (old eq) (node_unheard G s s (lines G h) (part G s h) e)
own_asked G s t h Stop may old eq = quiet G s t h (s, Stop) _ (old eq) (down_unheard G s _ s false)
own_asked G s t h (Settle id why) may old eq = quiet G s t h (s, Settle id why) _ (old eq) each_none
own_asked G s t h (Repeat id k) may old eq = quiet G s t h (s, Repeat id k) _ (old eq) each_none
own_asked G s t h (Send x) may old eq = quiet G s t h (s, Send x) _ (old eq) each_none
own_asked G s t h (Move k) may old eq = quiet G s t h (s, Move k) _ (old eq) each_none
own_asked G s t h Order may old eq = quiet G s t h (s, Order) _ (old eq) each_none
own_asked G s t h Obeyed may old eq = quiet G s t h (s, Obeyed) _ (old eq) each_none
own_asked G s t h (Fire l k) may old eq = quiet G s t h (s, Fire l k) _ (old eq) each_none
own_asked G s t h (Ask u) may old eq = record {
  before = h;
  mid = [];
  is = ap (λ z. (s, Ask z) ∷ h) (some_same u t eq);
  rest = [];
  lines' = refl;
  unheard = each_none;
  busy = is_busy (part G s h) s may.2;
  waited = may.1;
}
  where
    some_same : (a b : ℕ) → Some a ≡ Some b → a ≡ b
    some_same a b e = cc
own_asked G s t h (Begun b g) may old eq = none_some eq
own_asked G s t h (Say r) may old eq = none_some eq
own_asked G s t h Note may old eq = none_some eq
own_asked G s t h (Finish o) may old eq = none_some eq
own_asked G s t h Barrier may old eq = none_some eq
own_asked G s t h (Fed d g) may old eq = none_some eq
own_asked G s t h (FedAgain d) may old eq = none_some eq

pub asked_at : (G : Setting) → AreNamedApart G → (s t : ℕ) (h : List (ℕ × ActorEvent)) → IsLegalHistory G h → (part G s h).asked ≡ Some t → Asked G s t h
asked_at G far s t [] legal e = none_some e
asked_at G far s t (x ∷ h) legal e = go (asked_at G far s t h legal.1) (s == x.0) refl e
  where
    go : ((part G s h).asked ≡ Some t → Asked G s t h) → (b : Bool) → (s == x.0) ≡ b → (cond b (moves (part G s h) x.1) (part G s h)).asked ≡ Some t → AskedAt G s t (x ∷ h) (cond b (moves (part G s h) x.1) (part G s h)) (lines G h ++ lines_by G (lines G h) (part G x.0 h) x.0 x.1) (barriers_printed (x ∷ h))
    go old true q e =
        let i : s ≡ x.0 = (Decides-eqb s x.0).0 q in
        subst (λ k. AskedAt G s t ((k, x.1) ∷ h) (moves (part G s h) x.1) (lines G h ++ lines_by G (lines G h) (part G k h) k x.1) (barriers_printed ((k, x.1) ∷ h))) i (own_asked G s t h x.1 (subst (λ k. MayDo G h k x.1) (sym i) legal.0) old e)
    go old false q e = other_asked G far s t h x.0 x.1 (eq_swap s x.0 q) legal.0 (old e)

-- a session's begin was answered so
opened_row : (G : Setting) (h : List (ℕ × ActorEvent)) (s : ℕ) (e : ActorEvent) (g : Field) → Later (field h) g → MayDo G h s e → (o : Opened) → ((part G s h).opened ≡ Some o → Pinged (field h) o.begin o.gen) → (moves (part G s h) e).opened ≡ Some o → Pinged g o.begin o.gen
opened_row G h s (Begun b n) g on may o old eq = go (pinged_later on (pinged_by G.nodes (field h) may.0 b n may.5)) (same eq)
  where
    same : Some (record { begin = b; gen = n }) ≡ Some o → record { begin = b; gen = n } ≡ o
    same e = cc

    go : Pinged g b n → record { begin = b; gen = n } ≡ o → Pinged g o.begin o.gen
    go p e = subst (λ z. Pinged g z.begin z.gen) e p
opened_row G h s Note g on may o old eq = none_some eq
opened_row G h s (Finish a) g on may o old eq = none_some eq
opened_row G h s _ g on may o old eq = pinged_later on (old eq)

pub opened_ok : (G : Setting) (h : List (ℕ × ActorEvent)) → IsLegalHistory G h → (s : ℕ) (o : Opened) → (part G s h).opened ≡ Some o → Pinged (field h) o.begin o.gen
opened_ok G [] legal s o e = none_some e
opened_ok G (x ∷ h) legal s o e = go (opened_ok G h legal.1 s o) (s == x.0) refl e
  where
    on : Later (field h) (field (x ∷ h))
    on = later_event G h x.0 x.1 (good_of G h legal.1).inv legal.0

    go : ((part G s h).opened ≡ Some o → Pinged (field h) o.begin o.gen) → (b : Bool) → (s == x.0) ≡ b → (cond b (moves (part G s h) x.1) (part G s h)).opened ≡ Some o → Pinged (field (x ∷ h)) o.begin o.gen
    go old true q e = opened_row G h s x.1 (field (x ∷ h)) on (subst (λ k. MayDo G h k x.1) (sym ((Decides-eqb s x.0).0 q)) legal.0) o old e
    go old false q e = pinged_later on (old e)
