-- Losses, missing majorities, and the nodes' lines: laws over the lines before a line.
use Rattle.std.proofs.Common.{◌≡◌, ℕ, ◌+◌, ◌≤◌, List, [], ◌∷◌, ◌++◌, length, arith, refl, ap, sym, subst, ◌∙◌}
use Rattle.std.specs.Prelude.{◌==◌, Bool, true, false, cond}
use Rattle.std.proofs.lemmas.Bool.Decides.{Decides-eqb}
use Rattle.core_lists.specs.Lists.{Each}
use Rattle.core_lists.specs.Lists.In.{here}
use Rattle.core_lists.proofs.Lists.{each_add, each_none}
use Rattle.cluster_consensus.specs.Facts.{Own}
use Rattle.cluster_consensus.specs.Events.{NodeEvent, change}
use Rattle.cluster_consensus.specs.Events.NodeEvent.{Admits, Boot, Down, Back, BackLead, BackTake, BackGrow, BackAppend, Asks}
use Rattle.cluster_requests.specs.KeptEntries.{KeptEntry}
use Rattle.report_laws.specs.Nodes.{downs, is_up}
use Rattle.report_text.specs.declared.reports.Line.{Line}
use Rattle.report_text.specs.declared.reports.Line.TheVariants as line
use Rattle.cdb_values.specs.declared.replies.Reply.{Reply}
use Rattle.cdb_values.specs.declared.replies.Reply.TheVariants as reply
use Rattle.session_language.specs.Each.{EachAfter}
use Rattle.session_language.specs.Answers.{IsPlain}
use Rattle.cluster_events.specs.Settings.{Setting}
use Rattle.cluster_events.specs.Parts.{ActorEvent, Part, head_number, lone_of, part, field, up_line, lines_by, lines}
use Rattle.cluster_events.specs.Parts.ActorEvent.{Node, Stop, Ask, Begun, Say, Note, Finish, Barrier, Fed, FedAgain}
use Rattle.cluster_events.specs.Guards.{MayFinish, MayDo, IsLegalHistory}
use Rattle.std.specs.Prelude.{if◌then◌else◌}
use Rattle.report_laws.specs.Nodes.{up_from}
use Rattle.report_laws.specs.Places.{HasItsCause, IsLost}
use Rattle.report_laws.proofs.NodesLaws.{up_append}
use Rattle.cluster_events.specs.LinePlaces.{HasPlaceAmongNodes, NodeGoesDown}
use Rattle.cluster_events.proofs.LineLists.{append_nil, each_after_more}
use Rattle.cluster_events.proofs.OwnLines.{eq_swap}

-- at most one line an event
one_or_none : (i : ℕ) (b : Bool) → length (up_line b i) ≤ 1
one_or_none i true = omega arith
one_or_none i false = omega arith

short : (G : Setting) (before : List Line) (p : Part) (i : ℕ) (e : ActorEvent) → length (lines_by G before p i e) ≤ 1
short G before p i (Node Down) = omega arith
short G before p i (Node (Boot q a l)) = one_or_none i (is_up i before)
short G before p i (Node (Back q)) = omega arith
short G before p i (Node BackLead) = omega arith
short G before p i (Node (BackTake g l)) = omega arith
short G before p i (Node (BackGrow l)) = omega arith
short G before p i (Node (BackAppend e)) = omega arith
short G before p i (Node _) = omega arith
short G before p i _ = omega arith

after_one : (P : List Line → Line → Type 0) (ls new : List Line) → length new ≤ 1 → Each (P ls) new → EachAfter P [] ls → EachAfter P [] (ls ++ new)
after_one P ls [] n e a = subst (λ z. EachAfter P [] z) (sym (append_nil ls)) a
after_one P ls (x ∷ []) n e a = each_after_more P [] ls x a (e.at x here)
after_one P ls (x ∷ y ∷ new) n e a = absurd (omega arith)

-- the one way to a law over lines: judge the line of each event, after the lines before it
pub each_line : (G : Setting) (P : List Line → Line → Type 0) → ((h : List (ℕ × ActorEvent)) (i : ℕ) (e : ActorEvent) → IsLegalHistory G h → MayDo G h i e → Each (P (lines G h)) (lines_by G (lines G h) (part G i h) i e)) → (h : List (ℕ × ActorEvent)) → IsLegalHistory G h → EachAfter P [] (lines G h)
each_line G P f [] legal = tt
each_line G P f (x ∷ h) legal = after_one P (lines G h) (lines_by G (lines G h) (part G x.0 h) x.0 x.1) (short G (lines G h) (part G x.0 h) x.0 x.1) (f h x.0 x.1 legal.1 legal.0) (each_line G P f h legal.1)

-- what the lines say of a node is what its part says
pub record Seen (o : Own KeptEntry) (seen : Bool) : Type 0 where
  pub up : o.up ≡ true → seen ≡ true
  pub down : o.up ≡ false → o.was_up ≡ true → seen ≡ false

same_self : (k : ℕ) → (k == k) ≡ true
same_self k = (Decides-eqb k k).1 refl

went : (k : ℕ) (b f : Bool) (c : ℕ) → up_from k b (line.Down c k f ∷ []) ≡ false
went k b f c = ap (λ z. if z then false else b) (same_self k)

pub came : (k : ℕ) (b : Bool) → up_from k b (line.Up k ∷ []) ≡ true
came k b = ap (λ z. if z then true else b) (same_self k)

pub boot_came : (k : ℕ) (d : Bool) → up_from k d (up_line d k) ≡ true
boot_came k true = refl
boot_came k false = came k false

seen_up : (o : Own KeptEntry) (d : Bool) → o.up ≡ true → d ≡ true → Seen o d
seen_up o d u e = record { up = λ q. e; down = λ q w. absurd (let z = sym u ∙ q in cc) }

seen_down : (o : Own KeptEntry) (d : Bool) → o.up ≡ false → d ≡ false → Seen o d
seen_down o d u e = record { up = λ q. absurd (let z = sym u ∙ q in cc); down = λ q w. e }

-- an event of the node itself
seen_self : (G : Setting) (i : ℕ) (before : List Line) (p : Part) (o : Own KeptEntry) (e : NodeEvent KeptEntry) → Seen o (is_up i before) → Seen (change i o e) (up_from i (is_up i before) (lines_by G before p i (Node e)))
seen_self G i before p o Down s = seen_down _ _ refl (went i (is_up i before) true (downs before + 1))
seen_self G i before p o (Boot q a l) s = seen_up _ _ refl (boot_came i (is_up i before))
seen_self G i before p o (Back q) s = seen_up _ _ refl (came i (is_up i before))
seen_self G i before p o BackLead s = seen_up _ _ refl (came i (is_up i before))
seen_self G i before p o (BackTake g l) s = seen_up _ _ refl (came i (is_up i before))
seen_self G i before p o (BackGrow l) s = seen_up _ _ refl (came i (is_up i before))
seen_self G i before p o (BackAppend x) s = seen_up _ _ refl (came i (is_up i before))
seen_self G i before p o (Admits k q a) s = s
seen_self G i before p o (Asks t) s = s
seen_self G i before p o _ s = record { up = s.up; down = s.down }

-- an event of another actor
other_node : (k i : ℕ) → (k == i) ≡ false → (b c : Bool) → (if i == k then c else b) ≡ b
other_node k i ne b c = ap (λ z. if z then c else b) (eq_swap k i ne)

other_boot : (k i : ℕ) → (k == i) ≡ false → (b d : Bool) → up_from k b (up_line d i) ≡ b
other_boot k i ne b false = other_node k i ne b true
other_boot k i ne b true = refl

pub other_lines : (G : Setting) (k i : ℕ) → (k == i) ≡ false → (b : Bool) (before : List Line) (p : Part) (e : ActorEvent) → up_from k b (lines_by G before p i e) ≡ b
other_lines G k i ne b before p (Node Down) = other_node k i ne b false
other_lines G k i ne b before p (Node (Boot q a l)) = other_boot k i ne b (is_up i before)
other_lines G k i ne b before p (Node (Back q)) = other_node k i ne b true
other_lines G k i ne b before p (Node BackLead) = other_node k i ne b true
other_lines G k i ne b before p (Node (BackTake g l)) = other_node k i ne b true
other_lines G k i ne b before p (Node (BackGrow l)) = other_node k i ne b true
other_lines G k i ne b before p (Node (BackAppend x)) = other_node k i ne b true
other_lines G k i ne b before p (Node _) = refl
other_lines G k i ne b before p Stop = other_node k i ne b false
other_lines G k i ne b before p _ = refl

abbrev Sees : Setting → List (ℕ × ActorEvent) → ℕ → Type 0
Sees G h k = Seen ((field h).core.nodes k) (is_up k (lines G h))

node_seen : (G : Setting) (h : List (ℕ × ActorEvent)) (i k : ℕ) (e : NodeEvent KeptEntry) (p : Part) → Sees G h i → Sees G h k → Seen (cond (k == i) (change i ((field h).core.nodes i) e) ((field h).core.nodes k)) (up_from k (is_up k (lines G h)) (lines_by G (lines G h) p i (Node e)))
node_seen G h i k e p si sk = go (k == i) refl
  where
    go : (b : Bool) → (k == i) ≡ b → Seen (cond b (change i ((field h).core.nodes i) e) ((field h).core.nodes k)) (up_from k (is_up k (lines G h)) (lines_by G (lines G h) p i (Node e)))
    go false ne = subst (λ z. Seen ((field h).core.nodes k) z) (sym (other_lines G k i ne (is_up k (lines G h)) (lines G h) p (Node e))) sk
    go true q = subst (λ j. Seen (change i ((field h).core.nodes i) e) (up_from j (is_up j (lines G h)) (lines_by G (lines G h) p i (Node e)))) (sym ((Decides-eqb k i).0 q)) (seen_self G i (lines G h) p ((field h).core.nodes i) e si)

stop_seen : (G : Setting) (h : List (ℕ × ActorEvent)) (i k : ℕ) (p : Part) → Sees G h k → Seen (cond (k == i) (change i ((field h).core.nodes i) Down) ((field h).core.nodes k)) (up_from k (is_up k (lines G h)) (lines_by G (lines G h) p i Stop))
stop_seen G h i k p sk = go (k == i) refl
  where
    go : (b : Bool) → (k == i) ≡ b → Seen (cond b (change i ((field h).core.nodes i) Down) ((field h).core.nodes k)) (up_from k (is_up k (lines G h)) (lines_by G (lines G h) p i Stop))
    go false ne = subst (λ z. Seen ((field h).core.nodes k) z) (sym (other_lines G k i ne (is_up k (lines G h)) (lines G h) p Stop)) sk
    go true q = subst (λ j. Seen (change i ((field h).core.nodes i) Down) (up_from j (is_up j (lines G h)) (lines_by G (lines G h) p i Stop))) (sym ((Decides-eqb k i).0 q)) (seen_down _ _ refl (went i (is_up i (lines G h)) false (downs (lines G h) + 1)))

ask_seen : (G : Setting) (h : List (ℕ × ActorEvent)) (i k t : ℕ) → Sees G h i → Sees G h k → Seen (cond (k == i) ((field h).core.nodes i) ((field h).core.nodes k)) (is_up k (lines G h))
ask_seen G h i k t si sk = go (k == i) refl
  where
    go : (b : Bool) → (k == i) ≡ b → Seen (cond b ((field h).core.nodes i) ((field h).core.nodes k)) (is_up k (lines G h))
    go false ne = sk
    go true q = subst (λ j. Seen ((field h).core.nodes i) (is_up j (lines G h))) (sym ((Decides-eqb k i).0 q)) si

sees_row : (G : Setting) (h : List (ℕ × ActorEvent)) (i : ℕ) (e : ActorEvent) (k : ℕ) → Sees G h i → Sees G h k → Seen ((field ((i, e) ∷ h)).core.nodes k) (up_from k (is_up k (lines G h)) (lines_by G (lines G h) (part G i h) i e))
sees_row G h i (Node e) k si sk = node_seen G h i k e (part G i h) si sk
sees_row G h i Stop k si sk = stop_seen G h i k (part G i h) sk
sees_row G h i (Ask t) k si sk = ask_seen G h i k t si sk
sees_row G h i _ k si sk = sk

pub sees : (G : Setting) (h : List (ℕ × ActorEvent)) (k : ℕ) → Sees G h k
sees G [] k = record { up = λ q. absurd (cc); down = λ q w. absurd (cc) }
sees G (x ∷ h) k = subst (λ z. Seen ((field (x ∷ h)).core.nodes k) z) (sym (up_append k true (lines G h) (lines_by G (lines G h) (part G x.0 h) x.0 x.1))) (sees_row G h x.0 x.1 k (sees G h x.0) (sees G h k))

plain_place : (G : Setting) (before : List Line) (name : List ℕ) (t : ℕ) (r : Reply) → IsPlain r → HasItsCause G.script before name t r
plain_place G before name t (reply.Row row) k = tt
plain_place G before name t (reply.Done n) k = tt
plain_place G before name t (reply.Changed n) k = tt
plain_place G before name t (reply.Error c) k = tt
plain_place G before name t (reply.Level l) k = tt
plain_place G before name t _ k = absurd k

finish_place : (G : Setting) (h : List (ℕ × ActorEvent)) (i : ℕ) (a : Reply) → MayFinish G h i a → HasItsCause G.script (lines G h) (G.names i) (head_number (part G i h).left) a
finish_place G h i (reply.Lost n d) may =
    let e = ap (λ z. head_number z) may.2.is in
    (may.3, subst (λ z. IsLost (lines G h) (G.names i) z n d) (sym e) may.4)
finish_place G h i (reply.NoMajority u n) may = may.2
finish_place G h i reply.RolledBack may = tt
finish_place G h i (reply.Committed k) may = tt
finish_place G h i (reply.ConflictGenid k x g) may = tt
finish_place G h i (reply.ConflictRange k x g) may = tt
finish_place G h i (reply.Duplicate k x g) may = tt
finish_place G h i reply.NoMemory may = tt
finish_place G h i _ may = absurd may

down_place : (G : Setting) (h : List (ℕ × ActorEvent)) (i : ℕ) (fault : Bool) → G.nodes ≡ G.script.nodes → 1 ≤ i → i ≤ G.nodes → (fault ≡ false → is_up i (lines G h) ≡ true) → NodeGoesDown G.script (lines G h) (downs (lines G h) + 1) i fault
down_place G h i fault nodes lo hi up = record { counted = refl; of_script = (lo, subst (λ z. i ≤ z) nodes hi); was_up = up }

not_true : {A : Type 0} → true ≡ false → A
not_true e = absurd (cc)

boot_place : (G : Setting) (before : List Line) (i : ℕ) (b : Bool) → is_up i before ≡ b → Each (HasPlaceAmongNodes G.script before) (up_line b i)
boot_place G before i true e = each_none
boot_place G before i false e = each_add e each_none

line_place : (G : Setting) → G.nodes ≡ G.script.nodes → (h : List (ℕ × ActorEvent)) (i : ℕ) (e : ActorEvent) → IsLegalHistory G h → MayDo G h i e → Each (HasPlaceAmongNodes G.script (lines G h)) (lines_by G (lines G h) (part G i h) i e)
line_place G nodes h i (Node Down) legal may = each_add (down_place G h i true nodes may.2.0 may.2.1 (λ q. not_true q)) each_none
line_place G nodes h i (Node (Boot q a l)) legal may = boot_place G (lines G h) i (is_up i (lines G h)) refl
line_place G nodes h i (Node (Back q)) legal may = each_add ((sees G h i).down may.0.0.0 may.0.0.1) each_none
line_place G nodes h i (Node BackLead) legal may = each_add ((sees G h i).down may.0.0.0 may.0.0.1) each_none
line_place G nodes h i (Node (BackTake g l)) legal may = each_add ((sees G h i).down may.0.0.0 may.0.0.1) each_none
line_place G nodes h i (Node (BackGrow l)) legal may = each_add ((sees G h i).down may.0.0.0 may.0.0.1) each_none
line_place G nodes h i (Node (BackAppend e)) legal may = each_add ((sees G h i).down may.0.0.0 may.0.0.1) each_none
line_place G nodes h i (Node _) legal may = each_none
line_place G nodes h i Stop legal may = each_add (down_place G h i false nodes may.2 may.3 (λ q. (sees G h i).up may.1)) each_none
line_place G nodes h i (Begun b g) legal may = each_add tt each_none
line_place G nodes h i (Say r) legal may = each_add (plain_place G (lines G h) (G.names i) (head_number (part G i h).left) r may.4) each_none
line_place G nodes h i Note legal may = each_add (subst (λ z. HasItsCause G.script (lines G h) (G.names i) (head_number (part G i h).left) z) (sym (ap (λ z. lone_of z) may.2)) (plain_place G (lines G h) (G.names i) (head_number (part G i h).left) may.0 may.3)) each_none
line_place G nodes h i (Finish a) legal may = each_add (finish_place G h i a may.0) each_none
line_place G nodes h i Barrier legal may = each_add tt each_none
line_place G nodes h i (Fed d g) legal may = each_add tt each_none
line_place G nodes h i (FedAgain d) legal may = each_add tt each_none
line_place G nodes h i _ legal may = each_none

pub lines_placed : (G : Setting) → G.nodes ≡ G.script.nodes → (h : List (ℕ × ActorEvent)) → IsLegalHistory G h → EachAfter (HasPlaceAmongNodes G.script) [] (lines G h)
lines_placed G nodes h legal = each_line G (HasPlaceAmongNodes G.script) (line_place G nodes) h legal
