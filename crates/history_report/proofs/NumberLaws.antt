-- The transactions of a session are numbered one after the other: where so many of them ended the next one has the number behind.
use Rattle.std.proofs.Common.{ℕ, ◌≡◌, ◌+◌, List, [], ◌∷◌, ◌++◌, refl, sym, subst, ap, ◌∙◌}
use Rattle.std.specs.Prelude.{◌==◌, Bool, true, false, cond, Option, Some, None}
use Rattle.std.proofs.lemmas.Bool.Decides.{Decides-eqb}
use Rattle.cdb_values.specs.declared.replies.Reply.{Reply}
use Rattle.cdb_values.specs.declared.replies.Reply.TheVariants as reply
use Rattle.cdb_values.specs.declared.tables.TableDef.{TableDef}
use Rattle.cluster_events.specs.Guards.{MayDo, MayFinish, IsAtTransaction, IsInTransaction}
use Rattle.cluster_events.specs.Parts.{ActorEvent, Opened, Part, moves, part, rest_of as items_behind}
use Rattle.cluster_events.specs.Settings.{Setting, work_of}
use Rattle.cluster_steps.specs.Guards.{AreLegalSteps}
use Rattle.cluster_steps.specs.Named.{named, named_reply, named_settled, reply_in, steps}
use Rattle.cluster_steps.specs.declared.events.Event.{Event}
use Rattle.cluster_steps.specs.declared.events.Event.TheVariants as event
use Rattle.phys_log.specs.declared.entries.CommitId.{CommitId}
use Rattle.phys_log.specs.declared.requests.Decision.{Decision}
use Rattle.phys_log.specs.declared.requests.Decision.TheVariants as decision
use Rattle.report_laws.specs.Work.{WorkItem, Transaction, Does, Lone, Place, next_by, next_place, open_item, place_from, said, start, work}
use Rattle.report_laws.proofs.RestLemmas.{items_are, over_by, rest_of}
use Rattle.report_laws.proofs.WorkLaws.{first_left}
use Rattle.session_language.specs.Language.{Language, Kind, BeginText, CommitText, RollbackText, LevelText, OtherText}

-- transactions numbered one after the other, from a number on
abbrev pub AreInTurn : ℕ → List WorkItem → Type 0
AreInTurn k [] = Unit {0}
AreInTurn k (Does t ∷ items) = (t.number ≡ k) × AreInTurn (k + 1) items
AreInTurn k (Lone answer ∷ items) = AreInTurn k items

turn_by : (p : Place) (text : List ℕ) (k : Kind) (pending : Option (List (List ℕ))) (rest : List WorkItem) → AreInTurn (first_left (next_by p text k pending).number (next_by p text k pending).pending) rest
    → AreInTurn (first_left p.number pending) (over_by p.number p.level text k pending ++ rest)
turn_by p text BeginText None rest is = is
turn_by p text CommitText None rest is = is
turn_by p text RollbackText None rest is = is
turn_by p text (LevelText level) None rest is = is
turn_by p text OtherText None rest is = (refl, is)
turn_by p text BeginText (Some texts) rest is = is
turn_by p text CommitText (Some texts) rest is = (refl, is)
turn_by p text RollbackText (Some texts) rest is = (refl, is)
turn_by p text (LevelText level) (Some texts) rest is = is
turn_by p text OtherText (Some texts) rest is = is

open_in_turn : (p : Place) (pending : Option (List (List ℕ))) → AreInTurn (first_left p.number pending) (open_item p pending)
open_in_turn p None = tt
open_in_turn p (Some texts) = (refl, tt)

rest_in_turn : (language : Language) (p : Place) (texts : List (List ℕ)) → AreInTurn (first_left p.number p.pending) (rest_of language p texts)
rest_in_turn language p [] = open_in_turn p p.pending
rest_in_turn language p (text ∷ texts) =
    turn_by p text (language.kind text) p.pending (rest_of language (next_place language p text) texts) (rest_in_turn language (next_place language p text) texts)

pub work_in_turn : (G : Setting) (s : ℕ) → AreInTurn 1 (work_of G s)
work_in_turn G s =
    let texts = said (G.names s) G.script.body in
    subst (λ (items : List WorkItem). AreInTurn 1 items) (sym (items_are G.language start texts)) (rest_in_turn G.language start texts)

-- how many transactions of an actor ended
abbrev pub ended_with : ℕ → Event → ℕ
ended_with k (event.Outcome told) = k + 1
ended_with k _ = k

abbrev pub ended_by : ℕ → List (ℕ × Event) → ℕ
ended_by s [] = 0
ended_by s (x ∷ h) = cond (s == x.0) (ended_with (ended_by s h) x.1) (ended_by s h)

-- a session that is told an outcome is at a transaction
at_one : (p : Part) (t : Transaction) (o : Opened) → IsInTransaction p t o → (u : Transaction) × IsAtTransaction p u
at_one p t o is = (t, record { others = is.others; is = is.is })

pub ends_one : (G : Setting) (g : List (ℕ × ActorEvent)) (s : ℕ) (a : Reply) → MayFinish G g s a → (t : Transaction) × IsAtTransaction (part G s g) t
ends_one G g s reply.RolledBack m = at_one (part G s g) m.0 m.1 m.2
ends_one G g s (reply.Committed k) m = at_one (part G s g) m.0.txn m.0.start m.0.at
ends_one G g s (reply.ConflictGenid k table genid) m = at_one (part G s g) m.0.txn m.0.start m.0.at
ends_one G g s (reply.ConflictRange k table key) m = at_one (part G s g) m.0.txn m.0.start m.0.at
ends_one G g s (reply.Duplicate k table key) m = at_one (part G s g) m.0.txn m.0.start m.0.at
ends_one G g s (reply.Lost node down) m = at_one (part G s g) m.0 m.1 m.2
ends_one G g s (reply.NoMajority up nodes) m = (m.0, m.1)
ends_one G g s reply.NoMemory m = m
ends_one G g s _ m = absurd m

-- what is left behind a transaction, and behind another line
behind_one : (k : ℕ) (items : List WorkItem) (t : Transaction) (others : List WorkItem) → items ≡ Does t ∷ others → AreInTurn k items → AreInTurn (k + 1) (items_behind items)
behind_one k items t others is turn =
    let all : AreInTurn k (Does t ∷ others) = subst (λ (z : List WorkItem). AreInTurn k z) is turn in
    subst (λ (z : List WorkItem). AreInTurn (k + 1) (items_behind z)) (sym is) all.1

replied : (k : ℕ) (p : Part) (items : List WorkItem) (a : Reply) → p.left ≡ items → AreInTurn k items → AreInTurn k (moves p (named_reply items a)).left
replied k p [] a is turn = subst (λ (z : List WorkItem). AreInTurn k z) (sym is) turn
replied k p (Lone r ∷ items) a is turn = subst (λ (z : List WorkItem). AreInTurn k (items_behind z)) (sym is) turn
replied k p (Does t ∷ items) a is turn = subst (λ (z : List WorkItem). AreInTurn k z) (sym is) turn

settled : (k : ℕ) (p : Part) (tables : List TableDef) (id : CommitId) (d : Decision) → AreInTurn k p.left → AreInTurn k (moves p (named_settled tables id d)).left
settled k p tables id (decision.Repeat position) turn = turn
settled k p tables id _ turn = turn

-- an actor's own event leaves it at the number behind what ended
own_turn : (G : Setting) (g : List (ℕ × ActorEvent)) (i : ℕ) (e : Event) (k : ℕ) → MayDo G g i (named G g i e) → AreInTurn (k + 1) (part G i g).left → AreInTurn (ended_with k e + 1) (moves (part G i g) (named G g i e)).left
own_turn G g i (event.Down true) k may turn = turn
own_turn G g i (event.Down false) k may turn = turn
own_turn G g i (event.Settle id d) k may turn = settled (k + 1) (part G i g) G.tables id.value d.value turn
own_turn G g i (event.Reply told) k may turn = replied (k + 1) (part G i g) (part G i g).left (reply_in told) refl turn
own_turn G g i (event.Outcome told) k may turn =
    let at = ends_one G g i (reply_in told) may.0 in
    behind_one (k + 1) (part G i g).left at.0 at.1.others at.1.is turn
own_turn G g i _ k may turn = turn

pub left_in_turn : (G : Setting) (s : ℕ) (h : List (ℕ × Event)) → AreLegalSteps G h → AreInTurn (ended_by s h + 1) (part G s (steps G h)).left
left_in_turn G s [] legal = work_in_turn G s
left_in_turn G s (x ∷ h) legal = go (s == x.0) refl (left_in_turn G s h legal.1)
  where
    g : List (ℕ × ActorEvent)
    g = steps G h

    go : (b : Bool) → (s == x.0) ≡ b → AreInTurn (ended_by s h + 1) (part G s g).left
        → AreInTurn (cond b (ended_with (ended_by s h) x.1) (ended_by s h) + 1) (cond b (moves (part G s g) (named G g x.0 x.1)) (part G s g)).left
    go false ne turn = turn
    go true eq turn =
        let same : s ≡ x.0 = (Decides-eqb s x.0).0 eq in
        subst (λ i. AreInTurn (ended_by i h + 1) (part G i g).left → AreInTurn (ended_with (ended_by i h) x.1 + 1) (moves (part G i g) (named G g x.0 x.1)).left) (sym same)
        (λ own. own_turn G g x.0 x.1 (ended_by x.0 h) legal.0.allowed.may own) turn
