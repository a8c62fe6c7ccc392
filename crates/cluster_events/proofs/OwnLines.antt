-- What a session's own part says.
use Rattle.std.proofs.Common.{◌≡◌, ℕ, List, [], ◌∷◌, ◌++◌, refl, ap, sym, subst, ◌∙◌}
use Rattle.std.specs.Prelude.{◌==◌, Bool, true, false, cond}
use Rattle.std.specs.Str.{bytes_eq}
use Rattle.std.proofs.lemmas.Bool.Decides.{Decides-eqb}
use Rattle.cluster_consensus.specs.Events.{NodeEvent}
use Rattle.cluster_consensus.specs.Events.NodeEvent.{Boot, Down, Back, BackLead, BackTake, BackGrow, BackAppend}
use Rattle.cluster_requests.specs.KeptEntries.{KeptEntry}
use Rattle.report_laws.specs.Nodes.{is_up}
use Rattle.report_laws.specs.Told.{told}
use Rattle.report_text.specs.declared.reports.Line.{Line}
use Rattle.report_text.specs.declared.reports.Line.TheVariants as line
use Rattle.cdb_values.specs.declared.replies.Reply.{Reply}
use Rattle.cluster_events.specs.Settings.{Setting}
use Rattle.cluster_events.specs.Parts.{ActorEvent, Part, head_number, moves, part, up_line, lines_by, lines}
use Rattle.cluster_events.specs.Parts.ActorEvent.{Node, Begun, Say, Note, Finish}
use Rattle.cluster_events.specs.Guards.{AreNamedApart}
use Rattle.std.specs.Prelude.{if◌then◌else◌}
use Rattle.std.proofs.lemmas.Slice.Eq.{bytes_eq-Decides}
use Rattle.cluster_events.proofs.LineLists.{append_nil, told_append}

-- the lines of an event of another actor, and of its own
boot_told : (s : List ℕ) (i : ℕ) (b : Bool) → told s (up_line b i) ≡ []
boot_told s i true = refl
boot_told s i false = refl

node_told : (G : Setting) (s : List ℕ) (i : ℕ) (before : List Line) (p : Part) (e : NodeEvent KeptEntry) → told s (lines_by G before p i (Node e)) ≡ []
node_told G s i before p Down = refl
node_told G s i before p (Boot q a l) = boot_told s i (is_up i before)
node_told G s i before p (Back q) = refl
node_told G s i before p BackLead = refl
node_told G s i before p (BackTake g l) = refl
node_told G s i before p (BackGrow l) = refl
node_told G s i before p (BackAppend e) = refl
node_told G s i before p _ = refl

pub one_told : (name session : List ℕ) (t : ℕ) (a : Reply) (b : Bool) → bytes_eq session name ≡ b → told name (line.Session session t a ∷ []) ≡ cond b ((t, a) ∷ []) []
one_told name session t a true e = ap (λ c. (if c then (t, a) ∷ [] else []) ++ []) e
one_told name session t a false e = ap (λ c. (if c then (t, a) ∷ [] else []) ++ []) e

pub same_name : (s : List ℕ) → bytes_eq s s ≡ true
same_name s = (bytes_eq-Decides s s).1 refl

own_told : (G : Setting) (s : ℕ) (before : List Line) (p : Part) (e : ActorEvent) → p.told ++ told (G.names s) (lines_by G before p s e) ≡ (moves p e).told
own_told G s before p (Node e) = ap (λ t. p.told ++ t) (node_told G (G.names s) s before p e) ∙ append_nil p.told
own_told G s before p (Begun b g) = ap (λ t. p.told ++ t) (one_told (G.names s) (G.names s) (head_number p.left) _ true (same_name (G.names s)))
own_told G s before p (Say r) = ap (λ t. p.told ++ t) (one_told (G.names s) (G.names s) (head_number p.left) _ true (same_name (G.names s)))
own_told G s before p Note = ap (λ t. p.told ++ t) (one_told (G.names s) (G.names s) (head_number p.left) _ true (same_name (G.names s)))
own_told G s before p (Finish a) = ap (λ t. p.told ++ t) (one_told (G.names s) (G.names s) (head_number p.left) _ true (same_name (G.names s)))
own_told G s before p _ = append_nil p.told

pub other_told : (G : Setting) (s : List ℕ) (i : ℕ) → bytes_eq (G.names i) s ≡ false → (before : List Line) (p : Part) (e : ActorEvent) → told s (lines_by G before p i e) ≡ []
other_told G s i ne before p (Node e) = node_told G s i before p e
other_told G s i ne before p (Begun b g) = one_told s (G.names i) (head_number p.left) _ false ne
other_told G s i ne before p (Say r) = one_told s (G.names i) (head_number p.left) _ false ne
other_told G s i ne before p Note = one_told s (G.names i) (head_number p.left) _ false ne
other_told G s i ne before p (Finish a) = one_told s (G.names i) (head_number p.left) _ false ne
other_told G s i ne before p _ = refl

pub eq_swap : (s i : ℕ) → (s == i) ≡ false → (i == s) ≡ false
eq_swap s i e = go (i == s) refl
  where
    go : (b : Bool) → (i == s) ≡ b → (i == s) ≡ false
    go false f = f
    go true f = absurd (let q : s ≡ i = sym ((Decides-eqb i s).0 f) in let r = (Decides-eqb s i).1 q in cc)

pub knows : (G : Setting) → AreNamedApart G → (h : List (ℕ × ActorEvent)) (s : ℕ) → told (G.names s) (lines G h) ≡ (part G s h).told
knows G far [] s = refl
knows G far (x ∷ h) s = told_append (G.names s) (lines G h) (lines_by G (lines G h) (part G x.0 h) x.0 x.1) ∙ (ap (λ t. t ++ told (G.names s) (lines_by G (lines G h) (part G x.0 h) x.0 x.1)) (knows G far h s) ∙ go (s == x.0) refl)
  where
    go : (b : Bool) → (s == x.0) ≡ b → (part G s h).told ++ told (G.names s) (lines_by G (lines G h) (part G x.0 h) x.0 x.1) ≡ (cond b (moves (part G s h) x.1) (part G s h)).told
    go true e =
        let q : s ≡ x.0 = (Decides-eqb s x.0).0 e in
        subst (λ i. (part G s h).told ++ told (G.names s) (lines_by G (lines G h) (part G i h) i x.1) ≡ (moves (part G s h) x.1).told) q (own_told G s (lines G h) (part G s h) x.1)
    go false e = ap (λ t. (part G s h).told ++ t) (other_told G (G.names s) x.0 (far x.0 s (eq_swap s x.0 e)) (lines G h) (part G x.0 h) x.1) ∙ append_nil (part G s h).told

-- who is called by one name is one actor
pub one_actor : (G : Setting) → AreNamedApart G → (a b : ℕ) → G.names a ≡ G.names b → a ≡ b
one_actor G far a b e = go (a == b) refl
  where
    go : (c : Bool) → (a == b) ≡ c → a ≡ b
    go true q = (Decides-eqb a b).0 q
    go false q = absurd (let x = far a b q in let y = (bytes_eq-Decides (G.names a) (G.names b)).1 e in cc)
