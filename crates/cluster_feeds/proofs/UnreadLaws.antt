-- Between an ask of the operator and its next line nothing is printed that it reads.
use Rattle.std.proofs.Common.{◌≡◌, ℕ, List, [], ◌∷◌, ◌++◌, refl, ap, sym, ◌∙◌}
use Rattle.std.specs.Prelude.{◌==◌, Bool, true, false, cond, Some}
use Rattle.std.proofs.lemmas.Bool.Decides.{Decides-eqb}
use Rattle.cluster_answers.proofs.AskLaws.{each_append, none_some}
use Rattle.cluster_begins.proofs.Fresh.{asks_row}
use Rattle.cluster_consensus.specs.Events.{NodeEvent}
use Rattle.cluster_consensus.specs.Events.NodeEvent.{Down, Boot, Back, BackLead, BackTake, BackGrow, BackAppend, Asks}
use Rattle.cluster_events.proofs.LineLists.{append_assoc, append_nil}
use Rattle.cluster_events.specs.Guards.{MayDo, IsLegalHistory}
use Rattle.cluster_events.specs.Parts.{ActorEvent, Part, part, moves, field, up_line, lines_by, lines}
use Rattle.cluster_events.specs.Parts.ActorEvent.{Node, Stop, Settle, Repeat, Ask, Begun, Say, Note, Send, Finish, Move, Order, Obeyed, Fire, Barrier, Fed, FedAgain}
use Rattle.cluster_events.specs.Settings.{Setting}
use Rattle.cluster_events.proofs.Charges.{some_is}
use Rattle.node_reports.specs.Fed.{is_read}
use Rattle.cluster_requests.specs.KeptEntries.{KeptEntry}
use Rattle.core_lists.proofs.Lists.{each_add, each_none}
use Rattle.core_lists.specs.Lists.{Each, Has}
use Rattle.core_lists.specs.Lists.In.{here}
use Rattle.report_laws.specs.Nodes.{is_up}
use Rattle.report_text.specs.declared.reports.Line.{Line}

-- what is asked stays asked
asks_more : (h : List (ℕ × ActorEvent)) (i : ℕ) (e : ActorEvent) (t : ℕ) → Has (λ u. u ≡ t) (field h).core.asks → Has (λ u. u ≡ t) (field ((i, e) ∷ h)).core.asks
asks_more h i (Node e) t k = asks_row (field h).core e t k
asks_more h i Stop t k = k
asks_more h i (Ask u) t k = asks_row (field h).core (Asks u) t k
asks_more h i _ t k = k

-- an actor asked what it waits for
own_asked : (G : Setting) (h : List (ℕ × ActorEvent)) (i : ℕ) (p : Part) (e : ActorEvent) (t : ℕ) → (p.asked ≡ Some t → Has (λ u. u ≡ t) (field h).core.asks) → (moves p e).asked ≡ Some t → Has (λ u. u ≡ t) (field ((i, e) ∷ h)).core.asks
own_asked G h i p (Ask u) t old q = record { it = u; mem = here; is = some_is q }
own_asked G h i p (Begun b g) t old q = none_some q
own_asked G h i p (Say r) t old q = none_some q
own_asked G h i p Note t old q = none_some q
own_asked G h i p (Finish a) t old q = none_some q
own_asked G h i p Barrier t old q = none_some q
own_asked G h i p (Fed d g) t old q = none_some q
own_asked G h i p (FedAgain d) t old q = none_some q
own_asked G h i p (Node e) t old q = asks_more h i (Node e) t (old q)
own_asked G h i p Stop t old q = asks_more h i Stop t (old q)
own_asked G h i p (Settle id why) t old q = asks_more h i (Settle id why) t (old q)
own_asked G h i p (Repeat id k) t old q = asks_more h i (Repeat id k) t (old q)
own_asked G h i p (Send x) t old q = asks_more h i (Send x) t (old q)
own_asked G h i p (Move k) t old q = asks_more h i (Move k) t (old q)
own_asked G h i p Order t old q = asks_more h i Order t (old q)
own_asked G h i p Obeyed t old q = asks_more h i Obeyed t (old q)
own_asked G h i p (Fire l k) t old q = asks_more h i (Fire l k) t (old q)

pub asked_in : (G : Setting) (h : List (ℕ × ActorEvent)) (s t : ℕ) → (part G s h).asked ≡ Some t → Has (λ u. u ≡ t) (field h).core.asks
asked_in G [] s t q = none_some q
asked_in G (x ∷ h) s t q = go (asked_in G h s t) (s == x.0) q
  where
    go : ((part G s h).asked ≡ Some t → Has (λ u. u ≡ t) (field h).core.asks) → (b : Bool) → (cond b (moves (part G s h) x.1) (part G s h)).asked ≡ Some t → Has (λ u. u ≡ t) (field (x ∷ h)).core.asks
    go old true q = own_asked G h x.0 (part G s h) x.1 t old q
    go old false q = asks_more h x.0 x.1 t (old q)

-- lines that the operator does not read
abbrev pub AreUnread : List Line → Type 0
AreUnread ls = Each (λ l. is_read l ≡ false) ls

boot_unread : (b : Bool) (i : ℕ) → AreUnread (up_line b i)
boot_unread true i = each_none
boot_unread false i = each_add refl each_none

node_unread : (G : Setting) (before : List Line) (p : Part) (i : ℕ) (e : NodeEvent KeptEntry) → AreUnread (lines_by G before p i (Node e))
node_unread G before p i Down = each_add refl each_none
node_unread G before p i (Boot q a l) = boot_unread (is_up i before) i
node_unread G before p i (Back q) = each_add refl each_none
node_unread G before p i BackLead = each_add refl each_none
node_unread G before p i (BackTake g l) = each_add refl each_none
node_unread G before p i (BackGrow l) = each_add refl each_none
node_unread G before p i (BackAppend x) = each_add refl each_none
node_unread G before p i _ = each_none

pub not_own : {A : Type 0} (i : ℕ) → i ≡ 0 → (0 == i) ≡ false → A
not_own i z ne = absurd (let y = (Decides-eqb 0 i).1 (sym z) in cc)

-- an event behind which the operator waits as it did before it
abbrev Waits : Setting → List (ℕ × ActorEvent) → ℕ → ActorEvent → ℕ → Type 0
Waits G h i e t = ((part G 0 h).asked ≡ Some t) × AreUnread (lines_by G (lines G h) (part G i h) i e)

one_back : (G : Setting) (h : List (ℕ × ActorEvent)) (i : ℕ) (e : ActorEvent) (t : ℕ) → MayDo G h i e → Has (λ u. u ≡ t) (field h).core.asks → (b : Bool) → (0 == i) ≡ b → (cond b (moves (part G 0 h) e) (part G 0 h)).asked ≡ Some t → Waits G h i e t
one_back G h i (Ask u) t may k true s q = absurd (may.0.0.at k.it k.mem (k.is ∙ sym (some_is q)))
one_back G h i (Ask u) t may k false s q = (q, each_none)
one_back G h i (Begun b g) t may k true s q = none_some q
one_back G h i (Begun b g) t may k false s q = (q, each_add refl each_none)
one_back G h i (Say r) t may k true s q = none_some q
one_back G h i (Say r) t may k false s q = (q, each_add refl each_none)
one_back G h i Note t may k true s q = none_some q
one_back G h i Note t may k false s q = (q, each_add refl each_none)
one_back G h i (Finish a) t may k true s q = none_some q
one_back G h i (Finish a) t may k false s q = (q, each_add refl each_none)
one_back G h i Barrier t may k true s q = none_some q
one_back G h i Barrier t may k false s q = not_own i may.0 s
one_back G h i (Fed d g) t may k true s q = none_some q
one_back G h i (Fed d g) t may k false s q = not_own i may.0 s
one_back G h i (FedAgain d) t may k true s q = none_some q
one_back G h i (FedAgain d) t may k false s q = not_own i may.0 s
one_back G h i (Node e) t may k true s q = (q, node_unread G (lines G h) (part G i h) i e)
one_back G h i (Node e) t may k false s q = (q, node_unread G (lines G h) (part G i h) i e)
one_back G h i Stop t may k true s q = (q, each_add refl each_none)
one_back G h i Stop t may k false s q = (q, each_add refl each_none)
one_back G h i (Settle id why) t may k true s q = (q, each_none)
one_back G h i (Settle id why) t may k false s q = (q, each_none)
one_back G h i (Repeat id n) t may k true s q = (q, each_none)
one_back G h i (Repeat id n) t may k false s q = (q, each_none)
one_back G h i (Send x) t may k true s q = (q, each_none)
one_back G h i (Send x) t may k false s q = (q, each_none)
one_back G h i (Move n) t may k true s q = (q, each_none)
one_back G h i (Move n) t may k false s q = (q, each_none)
one_back G h i Order t may k true s q = (q, each_none)
one_back G h i Order t may k false s q = (q, each_none)
one_back G h i Obeyed t may k true s q = (q, each_none)
one_back G h i Obeyed t may k false s q = (q, each_none)
one_back G h i (Fire l n) t may k true s q = (q, each_none)
one_back G h i (Fire l n) t may k false s q = (q, each_none)

pub asks_long : (later before : List (ℕ × ActorEvent)) (t : ℕ) → Has (λ u. u ≡ t) (field before).core.asks → Has (λ u. u ≡ t) (field (later ++ before)).core.asks
asks_long [] before t k = k
asks_long (x ∷ later) before t k = asks_more (later ++ before) x.0 x.1 t (asks_long later before t k)

-- since a place at which the operator waited for this ask it read nothing
pub unread_since : (G : Setting) (later before : List (ℕ × ActorEvent)) (t : ℕ) → IsLegalHistory G (later ++ before) → (part G 0 before).asked ≡ Some t → (part G 0 (later ++ before)).asked ≡ Some t → (back : List Line) × (lines G (later ++ before) ≡ lines G before ++ back) × AreUnread back
unread_since G [] before t legal old now = ([], sym (append_nil (lines G before)), each_none)
unread_since G (x ∷ later) before t legal old now =
    let k = asks_long later before t (asked_in G before 0 t old) in
    let w = one_back G (later ++ before) x.0 x.1 t legal.0 k (0 == x.0) refl now in
    let r = unread_since G later before t legal.1 old w.0 in
    let new = lines_by G (lines G (later ++ before)) (part G x.0 (later ++ before)) x.0 x.1 in
    (r.0 ++ new, ap (λ z. z ++ new) r.1 ∙ append_assoc (lines G before) r.0 new, each_append r.0 new r.2 w.1)
