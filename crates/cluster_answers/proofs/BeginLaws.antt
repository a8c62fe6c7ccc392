-- Begins are fresh: the law.
use Rattle.std.proofs.Common.{◌≡◌, ◌≢◌, ℕ, ◌+◌, ◌≤◌, List, [], ◌∷◌, ◌++◌, length, arith, refl, ap, sym, subst, ◌∙◌, length-append}
use Rattle.std.specs.Prelude.{Bool, true, false, cond}
use mathlib.Core.Logic.{◌⊎◌, inl, inr}
use Rattle.core_lists.specs.Lists.{In, Each}
use Rattle.core_lists.specs.Lists.In.{here, there}
use Rattle.core_lists.proofs.Lists.{each_add, each_none, each_more, nothing}
use Rattle.cluster_consensus.specs.Facts.{Claim}
use Rattle.cluster_consensus.specs.Events.{NodeEvent}
use Rattle.cluster_consensus.specs.Events.NodeEvent.{Boot, Down, Back, BackLead, BackTake, BackGrow, BackAppend, Asks}
use Rattle.cluster_consensus.specs.Histories.{Legal, after}
use Rattle.cluster_begins.specs.Begins.{CanBegin, IsPositionAnswered}
use Rattle.cluster_masters.specs.FirstMaster.{IsFirstMaster}
use Rattle.cluster_requests.specs.Requests.{Field, field_after}
use Rattle.phys_log.specs.declared.entries.CommitId.{CommitId}
use Rattle.cluster_requests.specs.KeptEntries.{KeptEntry}
use Rattle.cdb_values.specs.Rows.{Rows}
use Rattle.report_laws.specs.Nodes.{downs, is_up}
use Rattle.report_laws.specs.Lawful.{positions, named_by, is_heard, IsFreshLine}
use Rattle.report_laws.specs.Work.{WorkItem, Lone}
use Rattle.report_text.specs.declared.reports.Line.{Line}
use Rattle.report_text.specs.declared.reports.Line.TheVariants as line
use Rattle.cdb_values.specs.declared.replies.Reply.{Reply}
use Rattle.cdb_values.specs.declared.replies.Reply.TheVariants as reply
use Rattle.session_language.specs.Each.{EachAfter}
use Rattle.session_language.specs.Answers.{IsPlain}
use Rattle.cluster_events.specs.Settings.{Setting, basis_from}
use Rattle.cluster_events.specs.Parts.{ActorEvent, Part, head_number, lone_of, part, add_act, acts, field, up_line, lines_by, lines}
use Rattle.cluster_events.specs.Parts.ActorEvent.{Node, Stop, Ask, Begun, Say, Note, Finish, Barrier, Fed, FedAgain}
use Rattle.cluster_events.specs.Guards.{commit_id_of, IsRefused, IsKept, MayFinish, fed_from, MayDo, IsLegalHistory, AreNamedApart}
use Rattle.cluster_masters.proofs.MasterLaws.{base_within}
use Rattle.cluster_begins.proofs.Since.{answered_on, fresh_begin}
use Rattle.cluster_events.proofs.LineLists.{append_nil, each_after_more}
use Rattle.cluster_events.proofs.HistoryLaws.{steps, core_is, steps_append, steps_legal, legal_rest, good_of, Later, later_event, Pinged, pinged_later, pinged_by, begins_of, answered_ping}
use Rattle.cluster_answers.proofs.AskLaws.{each_append, hears, is_op, Asked, asked_at, opened_ok}
use Rattle.std.specs.List.{AllByRecursion}

abbrev pub NamedOk : Field → ℕ → Type 0
NamedOk f p = (p ≡ 0) ⊎ ((q : ℕ) × IsPositionAnswered f.core p q)

abbrev pub Named : Field → Line → Type 0
Named f l = (p : ℕ) → In p (positions l) → NamedOk f p

one_of : {p b : ℕ} → In p (b ∷ []) → p ≡ b
one_of here = refl
one_of (there m) = absurd (nothing m)

pinged_named : (f : Field) (b g : ℕ) → Pinged f b g → (p : ℕ) → In p (b ∷ []) → NamedOk f p
pinged_named f b g k p m = inr (g, subst (λ z. IsPositionAnswered f.core z g) (sym (one_of m)) (answered_ping f b g k))

-- a reply that is plain names no position
pub plain_names : (r : Reply) → IsPlain r → named_by r ≡ []
plain_names (reply.Row row) k = refl
plain_names (reply.Done n) k = refl
plain_names (reply.Changed n) k = refl
plain_names (reply.Error cause) k = refl
plain_names (reply.Level level) k = refl
plain_names _ k = absurd k

plain_named : (f : Field) (name : List ℕ) (t : ℕ) (r : Reply) → IsPlain r → Named f (line.Session name t r)
plain_named f name t r k p m = absurd (nothing (subst (λ z. In p z) (plain_names r k) m))

refused_named : (f : Field) (id : CommitId) (k : ℕ) (why : Reply) → IsRefused f id k why → (p : ℕ) → In p (k ∷ []) → NamedOk f p
refused_named f id k why r p m = inr (r.settled.gen, inl (r.node, record { it = r.durable.it; mem = r.durable.mem; is = (r.durable.is.0, let e : p ≡ k = one_of m in let l : k ≤ length r.durable.it.log = r.durable.is.1 in omega arith) }))

finish_named : (G : Setting) (h : List (ℕ × ActorEvent)) (i t : ℕ) (a : Reply) → IsLegalHistory G h → MayFinish G h i a → Named (field h) (line.Session (G.names i) t a)
finish_named G h i t reply.RolledBack legal may p m = absurd (nothing m)
finish_named G h i t (reply.Committed k) legal may p m = go may.1
  where
    go : ((may.0.ran.ops ≡ []) × (k ≡ may.0.start.begin)) ⊎ ((may.0.ran.ops ≢ []) × IsKept (field h) (commit_id_of G i may.0.txn may.0.start) k) → NamedOk (field h) p
    go (inl e) = pinged_named (field h) may.0.start.begin may.0.start.gen (opened_ok G h legal i may.0.start may.0.at.opened) p (subst (λ z. In p (z ∷ [])) e.1 m)
    go (inr r) =
        let c = r.1.kept.3 in
        let l = length-append r.1.before (r.1.entry ∷ []) in
        let e : p ≡ k = one_of m in
        let q : k ≡ length r.1.before + 1 = r.1.position in
        let d : length (r.1.before ++ r.1.entry ∷ []) ≤ length c.it.log = c.is.1 in
        inr (r.1.gen, inl (r.1.kept.1, record { it = c.it; mem = c.mem; is = (c.is.0, omega arith) }))
finish_named G h i t (reply.ConflictGenid k table genid) legal may p m = refused_named (field h) _ k _ may.1 p m
finish_named G h i t (reply.ConflictRange k table key) legal may p m = refused_named (field h) _ k _ may.1 p m
finish_named G h i t (reply.Duplicate k table key) legal may p m = refused_named (field h) _ k _ may.1 p m
finish_named G h i t (reply.Lost n d) legal may p m = absurd (nothing m)
finish_named G h i t (reply.NoMajority u n) legal may p m = absurd (nothing m)
finish_named G h i t reply.NoMemory legal may p m = absurd (nothing m)
finish_named G h i t _ legal may p m = absurd may

one_named : (f : Field) (l : Line) → Named f l → Each (Named f) (l ∷ [])
one_named f l n = each_add n each_none

silent : (f : Field) (l : Line) → positions l ≡ [] → Each (Named f) (l ∷ [])
silent f l e = each_add (λ p m. absurd (nothing (subst (λ z. In p z) e m))) each_none

boot_named : (f : Field) (i : ℕ) (b : Bool) → Each (Named f) (up_line b i)
boot_named f i true = each_none
boot_named f i false = silent f (line.Up i) refl

node_named : (G : Setting) (f : Field) (i : ℕ) (before : List Line) (p : Part) (e : NodeEvent KeptEntry) → Each (Named f) (lines_by G before p i (Node e))
node_named G f i before p Down = silent f _ refl
node_named G f i before p (Boot q a l) = boot_named f i (is_up i before)
node_named G f i before p (Back q) = silent f _ refl
node_named G f i before p BackLead = silent f _ refl
node_named G f i before p (BackTake g l) = silent f _ refl
node_named G f i before p (BackGrow l) = silent f _ refl
node_named G f i before p (BackAppend e) = silent f _ refl
node_named G f i before p _ = each_none

-- the last line of feeds is one of the lines, or there is none
last_in : (f : Field) (d : ℕ) (ls : List Line) → NamedOk f d → Each (Named f) ls → NamedOk f (fed_from d ls)
last_in f d [] k all = k
last_in f d (line.Fed e ∷ ls) k all = last_in f e ls (all.at (line.Fed e) here e here) (record { at = λ y m. all.at y (there m) })
last_in f d (line.Session n t a ∷ ls) k all = last_in f d ls k (record { at = λ y m. all.at y (there m) })
last_in f d (line.Down c n b ∷ ls) k all = last_in f d ls k (record { at = λ y m. all.at y (there m) })
last_in f d (line.Up n ∷ ls) k all = last_in f d ls k (record { at = λ y m. all.at y (there m) })
last_in f d (line.Barrier ∷ ls) k all = last_in f d ls k (record { at = λ y m. all.at y (there m) })

lone_is : (is others : List WorkItem) (r : Reply) → is ≡ Lone r ∷ others → lone_of is ≡ r
lone_is is others r e = ap (λ z. lone_of z) e

new_named : (G : Setting) (h : List (ℕ × ActorEvent)) (i : ℕ) (e : ActorEvent) → IsLegalHistory G h → MayDo G h i e → Each (Named (field h)) (lines G h) → Each (Named (field_after (add_act i e (acts h)))) (lines_by G (lines G h) (part G i h) i e)
new_named G h i (Node e) legal may old = node_named G (field_after (add_act i (Node e) (acts h))) i (lines G h) (part G i h) e
new_named G h i Stop legal may old = silent (field_after (add_act i Stop (acts h))) (line.Down (downs (lines G h) + 1) i false) refl
new_named G h i (Begun b g) legal may old = each_add (pinged_named (field h) b g (pinged_by G.nodes (field h) may.0 b g may.5)) each_none
new_named G h i (Say r) legal may old = each_add (plain_named (field h) (G.names i) (head_number (part G i h).left) r may.4) each_none
new_named G h i Note legal may old = each_add (subst (λ z. Named (field h) (line.Session (G.names i) (head_number (part G i h).left) z)) (sym (lone_is (part G i h).left may.1 may.0 may.2)) (plain_named (field h) (G.names i) (head_number (part G i h).left) may.0 may.3)) each_none
new_named G h i (Finish a) legal may old = each_add (finish_named G h i (head_number (part G i h).left) a legal may.0) each_none
new_named G h i Barrier legal may old = silent (field h) line.Barrier refl
new_named G h i (Fed d g) legal may old = each_add (pinged_named (field h) d g (pinged_by G.nodes (field h) may.1 d g may.3)) each_none
new_named G h i (FedAgain d) legal may old = each_add (λ p m. subst (λ z. NamedOk (field h) z) (sym (one_of m ∙ may.1)) (last_in (field h) 0 (lines G h) (inl refl) old)) each_none
new_named G h i _ legal may old = each_none

named_later : {f g : Field} → Later f g → (p : ℕ) → NamedOk f p → NamedOk g p
named_later {f} {g} on p (inl z) = inl z
named_later {f} {g} on p (inr k) = inr (k.0, answered_on f.core g.core p k.0 on.told k.1)

pub named_lines : (G : Setting) (h : List (ℕ × ActorEvent)) → IsLegalHistory G h → Each (Named (field h)) (lines G h)
named_lines G [] legal = each_none
named_lines G (x ∷ h) legal =
    let on = later_event G h x.0 x.1 (good_of G h legal.1).inv legal.0 in
    let old = named_lines G h legal.1 in
    each_append (lines G h) _ (each_more (λ l n p m. named_later on p (n p m)) old) (new_named G h x.0 x.1 legal.1 legal.0 old)

-- a line before a heard one stands before all unheard ones
pub cons_parts : {A : Type 0} {x y : A} {xs ys : List A} → x ∷ xs ≡ y ∷ ys → (x ≡ y) × (xs ≡ ys)
cons_parts e = (cc, cc)

pub in_middle : {A : Type 0} (x : A) (front back : List A) → In x (front ++ x ∷ back)
in_middle x [] back = here
in_middle x (y ∷ front) back = there (in_middle x front back)

not_both : {A : Type 0} {b : Bool} → b ≡ true → b ≡ false → A
not_both e f = absurd (cc)

pub front_of : (G : Setting) (s : ℕ) (a rest front : List Line) (mark : Line) (back : List Line) → a ++ rest ≡ front ++ mark ∷ back → Each (λ l. hears G s l ≡ false) rest → hears G s mark ≡ true → (x : Line) → In x front → In x a
front_of G s [] rest front mark back e u m x k = not_both m (u.at mark (subst (λ z. In mark z) (sym e) (in_middle mark front back)))
front_of G s (y ∷ a) rest [] mark back e u m x k = absurd (nothing k)
front_of G s (y ∷ a) rest (z ∷ front) mark back e u m x here = subst (λ w. In w (y ∷ a)) (cons_parts e).0 here
front_of G s (y ∷ a) rest (z ∷ front) mark back e u m x (there k) = there (front_of G s a rest front mark back (cons_parts e).1 u m x k)

-- all positions that stand before what a session heard are at most b
abbrev Covers : List Line → List ℕ → ℕ → Type 0
Covers before name b = (front : List Line) (mark : Line) (back : List Line) → before ≡ front ++ mark ∷ back → is_heard name mark ≡ true → (x : Line) → In x front → (p : ℕ) → In p (positions x) → p ≤ b

abbrev Heard : List Line → Line → Type 0
Heard before (line.Session name t (reply.Begin b)) = (1 ≤ b) × Covers before name b
Heard before _ = Unit {0}

begun_heard : (G : Setting) → AreNamedApart G → (h : List (ℕ × ActorEvent)) (s t b g : ℕ) → IsLegalHistory G h → MayDo G h s (Begun b g) → Heard (lines G h) (line.Session (G.names s) t (reply.Begin b))
begun_heard G far h s t b g legal may = ((begins_of G h legal b g (pinged_by G.nodes (field h) may.0 b g may.5)).first, go)
  where
    a : Asked G s may.0 h
    a = asked_at G far s may.0 h legal may.1

    legal' : IsLegalHistory G (a.mid ++ (s, Ask may.0) ∷ a.before)
    legal' = subst (λ z. IsLegalHistory G z) a.is legal

    split : steps h ≡ steps a.mid ++ (s, Asks may.0) ∷ steps a.before
    split = ap (λ z. steps z) a.is ∙ steps_append a.mid ((s, Ask may.0) ∷ a.before)

    core : Legal G.nodes (steps a.mid ++ (s, Asks may.0) ∷ steps a.before)
    core = subst (λ z. Legal G.nodes z) split (steps_legal G h legal)

    can : CanBegin G.nodes (after (steps a.mid ++ (s, Asks may.0) ∷ steps a.before)) may.0 b g
    can = subst (λ z. CanBegin G.nodes (after z) may.0 b g) split (subst (λ w. CanBegin G.nodes w may.0 b g) (core_is h) may.5)

    at_most : (p : ℕ) → NamedOk (field a.before) p → p ≤ b
    at_most p (inl z) = let z' : p ≡ 0 = z in omega arith
    at_most p (inr n) = fresh_begin G.nodes s may.0 b g p n.0 (steps a.before) (steps a.mid) core can (subst (λ w. IsPositionAnswered w p n.0) (core_is a.before) n.1)

    go : Covers (lines G h) (G.names s) b
    go front mark back e m x k p q =
        let m' : hears G s mark ≡ true = ap (λ c. cond c (is_op mark) (is_heard (G.names s) mark)) may.6 ∙ m in
        let k' = front_of G s (lines G a.before) a.rest front mark back (sym a.lines' ∙ e) a.unheard m' x k in
        at_most p ((named_lines G a.before (legal_rest G a.mid ((s, Ask may.0) ∷ a.before) legal').1).at x k' p q)

reply_heard : (ls : List Line) (name : List ℕ) (t : ℕ) (r : Reply) → IsPlain r → Heard ls (line.Session name t r)
reply_heard ls name t (reply.Begin b) k = absurd k
reply_heard ls name t _ k = tt

finish_heard : (G : Setting) (h : List (ℕ × ActorEvent)) (ls : List Line) (i t : ℕ) (a : Reply) → MayFinish G h i a → Heard ls (line.Session (G.names i) t a)
finish_heard G h ls i t (reply.Begin b) may = absurd may
finish_heard G h ls i t _ may = tt

boot_heard : (ls : List Line) (i : ℕ) (b : Bool) → EachAfter Heard [] ls → EachAfter Heard [] (ls ++ up_line b i)
boot_heard ls i false a = each_after_more Heard [] ls (line.Up i) a tt
boot_heard ls i true a = subst (λ z. EachAfter Heard [] z) (sym (append_nil ls)) a

step_heard : (G : Setting) → AreNamedApart G → (h : List (ℕ × ActorEvent)) (i : ℕ) (e : ActorEvent) → IsLegalHistory G h → MayDo G h i e → EachAfter Heard [] (lines G h) → EachAfter Heard [] (lines G h ++ lines_by G (lines G h) (part G i h) i e)
step_heard G far h i (Begun b g) legal may a = each_after_more Heard [] (lines G h) _ a (begun_heard G far h i (head_number (part G i h).left) b g legal may)
step_heard G far h i (Say r) legal may a = each_after_more Heard [] (lines G h) _ a (reply_heard (lines G h) (G.names i) (head_number (part G i h).left) r may.4)
step_heard G far h i Note legal may a = each_after_more Heard [] (lines G h) _ a (subst (λ z. Heard (lines G h) (line.Session (G.names i) (head_number (part G i h).left) z)) (sym (lone_is (part G i h).left may.1 may.0 may.2)) (reply_heard (lines G h) (G.names i) (head_number (part G i h).left) may.0 may.3))
step_heard G far h i (Finish o) legal may a = each_after_more Heard [] (lines G h) _ a (finish_heard G h (lines G h) i (head_number (part G i h).left) o may.0)
step_heard G far h i Barrier legal may a = each_after_more Heard [] (lines G h) _ a tt
step_heard G far h i (Fed d g) legal may a = each_after_more Heard [] (lines G h) _ a tt
step_heard G far h i (FedAgain d) legal may a = each_after_more Heard [] (lines G h) _ a tt
step_heard G far h i Stop legal may a = each_after_more Heard [] (lines G h) _ a tt
step_heard G far h i (Node Down) legal may a = each_after_more Heard [] (lines G h) _ a tt
step_heard G far h i (Node (Boot q b l)) legal may a = boot_heard (lines G h) i (is_up i (lines G h)) a
step_heard G far h i (Node (Back q)) legal may a = each_after_more Heard [] (lines G h) _ a tt
step_heard G far h i (Node BackLead) legal may a = each_after_more Heard [] (lines G h) _ a tt
step_heard G far h i (Node (BackTake g l)) legal may a = each_after_more Heard [] (lines G h) _ a tt
step_heard G far h i (Node (BackGrow l)) legal may a = each_after_more Heard [] (lines G h) _ a tt
step_heard G far h i (Node (BackAppend e)) legal may a = each_after_more Heard [] (lines G h) _ a tt
step_heard G far h i (Node _) legal may a = subst (λ z. EachAfter Heard [] z) (sym (append_nil (lines G h))) a
step_heard G far h i _ legal may a = subst (λ z. EachAfter Heard [] z) (sym (append_nil (lines G h))) a

heard_lines : (G : Setting) → AreNamedApart G → (h : List (ℕ × ActorEvent)) → IsLegalHistory G h → EachAfter Heard [] (lines G h)
heard_lines G far [] legal = tt
heard_lines G far (x ∷ h) legal = step_heard G far h x.0 x.1 legal.1 legal.0 (heard_lines G far h legal.1)

-- each begin in the lines was answered so
abbrev pub Stated : Field → Line → Type 0
Stated f (line.Session s t (reply.Begin b)) = (g : ℕ) × Pinged f b g
Stated f _ = Unit {0}

stated_reply : {f g : Field} → Later f g → (s : List ℕ) (t : ℕ) (a : Reply) → Stated f (line.Session s t a) → Stated g (line.Session s t a)
stated_reply on s t (reply.Begin b) k = (k.0, pinged_later on k.1)
stated_reply on s t _ k = tt

stated_later : {f g : Field} → Later f g → (l : Line) → Stated f l → Stated g l
stated_later on (line.Session s t a) k = stated_reply on s t a k
stated_later on _ k = tt

reply_stated : (f : Field) (name : List ℕ) (t : ℕ) (r : Reply) → IsPlain r → Stated f (line.Session name t r)
reply_stated f name t (reply.Begin b) k = absurd k
reply_stated f name t _ k = tt

finish_stated : (G : Setting) (h : List (ℕ × ActorEvent)) (i t : ℕ) (a : Reply) → MayFinish G h i a → Stated (field h) (line.Session (G.names i) t a)
finish_stated G h i t (reply.Begin b) may = absurd may
finish_stated G h i t _ may = tt

boot_stated : (f : Field) (i : ℕ) (b : Bool) → Each (Stated f) (up_line b i)
boot_stated f i false = each_add tt each_none
boot_stated f i true = each_none

node_stated : (G : Setting) (f : Field) (i : ℕ) (before : List Line) (p : Part) (e : NodeEvent KeptEntry) → Each (Stated f) (lines_by G before p i (Node e))
node_stated G f i before p Down = each_add tt each_none
node_stated G f i before p (Boot q a l) = boot_stated f i (is_up i before)
node_stated G f i before p (Back q) = each_add tt each_none
node_stated G f i before p BackLead = each_add tt each_none
node_stated G f i before p (BackTake g l) = each_add tt each_none
node_stated G f i before p (BackGrow l) = each_add tt each_none
node_stated G f i before p (BackAppend e) = each_add tt each_none
node_stated G f i before p _ = each_none

new_stated : (G : Setting) (h : List (ℕ × ActorEvent)) (i : ℕ) (e : ActorEvent) → MayDo G h i e → Each (Stated (field_after (add_act i e (acts h)))) (lines_by G (lines G h) (part G i h) i e)
new_stated G h i (Node e) may = node_stated G (field_after (add_act i (Node e) (acts h))) i (lines G h) (part G i h) e
new_stated G h i Stop may = each_add tt each_none
new_stated G h i (Begun b g) may = each_add (g, pinged_by G.nodes (field h) may.0 b g may.5) each_none
new_stated G h i (Say r) may = each_add (reply_stated (field h) (G.names i) (head_number (part G i h).left) r may.4) each_none
new_stated G h i Note may = each_add (subst (λ z. Stated (field h) (line.Session (G.names i) (head_number (part G i h).left) z)) (sym (lone_is (part G i h).left may.1 may.0 may.2)) (reply_stated (field h) (G.names i) (head_number (part G i h).left) may.0 may.3)) each_none
new_stated G h i (Finish a) may = each_add (finish_stated G h i (head_number (part G i h).left) a may.0) each_none
new_stated G h i Barrier may = each_add tt each_none
new_stated G h i (Fed d g) may = each_add tt each_none
new_stated G h i (FedAgain d) may = each_add tt each_none
new_stated G h i _ may = each_none

pub stated_lines : (G : Setting) (h : List (ℕ × ActorEvent)) → IsLegalHistory G h → Each (Stated (field h)) (lines G h)
stated_lines G [] legal = each_none
stated_lines G (x ∷ h) legal =
    let on = later_event G h x.0 x.1 (good_of G h legal.1).inv legal.0 in
    each_append (lines G h) _ (each_more (λ l k. stated_later on l k) (stated_lines G h legal.1)) (new_stated G h x.0 x.1 legal.0)

-- the base is not above a begin
pub base_below : (G : Setting) (h : List (ℕ × ActorEvent)) → IsLegalHistory G h → (m : ℕ) (a : Claim KeptEntry) → IsFirstMaster G.nodes (field h).core m a → (b g : ℕ) → Pinged (field h) b g → length a.log ≤ b
base_below G h legal m a first b g p =
    let k = begins_of G h legal b g p in
    let e : k.led.it.gen ≡ g = k.led.is.0 in
    let low = k.low in
    let len : length k.led.it.log ≤ b = k.led.is.1 in
    let r = base_within (good_of G h legal).inv m a first k.node k.led.it k.led.mem k.gen k.log k.durable (omega arith) in
    omega arith

both_after : {A : Type 0} (P R : List A → A → Type 0) (Q : A → Type 0) (before xs : List A) → ((b : List A) (x : A) → P b x → Q x → R b x) → EachAfter P before xs → Each Q xs → EachAfter R before xs
both_after P R Q before [] f a e = tt
both_after P R Q before (x ∷ xs) f a e = (f before x a.0 (e.at x here), both_after P R Q (before ++ x ∷ []) xs f a.1 (record { at = λ y m. e.at y (there m) }))

all_of_in : {A : Type 0} (P : A → Type 0) (xs : List A) → ((x : A) → In x xs → P x) → AllByRecursion P xs
all_of_in P [] f = tt
all_of_in P (x ∷ xs) f = (f x here, all_of_in P xs (λ y m. f y (there m)))

fresh_reply : (G : Setting) (h : List (ℕ × ActorEvent)) → IsLegalHistory G h → (m : ℕ) (a : Claim KeptEntry) → IsFirstMaster G.nodes (field h).core m a → (rows : Rows) (before : List Line) (s : List ℕ) (t : ℕ) (r : Reply) → Heard before (line.Session s t r) → Stated (field h) (line.Session s t r) → IsFreshLine (basis_from G (length a.log) rows).origin before (line.Session s t r)
fresh_reply G h legal m a first rows before s t (reply.Begin b) k q = record { first = k.0; base = base_below G h legal m a first b q.0 q.1; heard = λ front mark back e u. all_of_in _ front (λ x i. all_of_in _ (positions x) (λ p j. k.1 front mark back e u x i p j)) }
fresh_reply G h legal m a first rows before s t _ k q = tt

fresh_line : (G : Setting) (h : List (ℕ × ActorEvent)) → IsLegalHistory G h → (m : ℕ) (a : Claim KeptEntry) → IsFirstMaster G.nodes (field h).core m a → (rows : Rows) (before : List Line) (l : Line) → Heard before l → Stated (field h) l → IsFreshLine (basis_from G (length a.log) rows).origin before l
fresh_line G h legal m a first rows before (line.Session s t r) k q = fresh_reply G h legal m a first rows before s t r k q
fresh_line G h legal m a first rows before _ k q = tt

pub begins_fresh : (G : Setting) → AreNamedApart G → (h : List (ℕ × ActorEvent)) (m : ℕ) (a : Claim KeptEntry) (rows : Rows) → IsLegalHistory G h → IsFirstMaster G.nodes (field h).core m a → EachAfter (IsFreshLine (basis_from G (length a.log) rows).origin) [] (lines G h)
begins_fresh G far h m a rows legal first = both_after Heard (IsFreshLine (basis_from G (length a.log) rows).origin) (Stated (field h)) [] (lines G h) (fresh_line G h legal m a first rows) (heard_lines G far h legal) (stated_lines G h legal)
