-- What a run's history tells are the lines that it printed.
use Rattle.std.proofs.Common.{ℕ, ◌≡◌, ◌≢◌, ◌+◌, ◌-◌, ◌<◌, ◌≤◌, List, [], ◌∷◌, ◌++◌, length, arith, refl, sym, subst, ap, ◌∙◌}
use Rattle.std.specs.Prelude.{◌==◌, Bool, true, false, cond, ltb, if◌then◌else◌, Option, Some, None, replicate, slice_get, slice_set, unwrap_or}
use Rattle.std.proofs.Math.ListN.{length-set}
use Rattle.std.proofs.lemmas.Bool.Decides.{Decides-eqb, Decides-ltb}
use Rattle.std.proofs.lemmas.List.{append-nil, get_or-set_same, get_or-set_other, get_or-replicate, length-replicate}
use Rattle.std.proofs.lemmas.Option.{slice_get-get_or, slice_get_within}
use Rattle.std.specs.declared.snapshot.Snapshot.{Snapshot}
use Rattle.cdb_values.specs.declared.replies.Reply.{Reply}
use Rattle.cdb_values.specs.declared.replies.Reply.TheVariants as reply
use Rattle.cluster_consensus.specs.Facts.{Own, World}
use Rattle.cluster_events.specs.Guards.{MayDo, IsAtTransaction}
use Rattle.cluster_events.specs.Parts.{ActorEvent, Part, lines, lines_by, lone_of, head_number, moves, part, field, rest_of as items_behind, up_line}
use Rattle.cluster_events.specs.Settings.{Setting, work_of}
use Rattle.cluster_requests.specs.KeptEntries.{KeptEntry}
use Rattle.cluster_steps.specs.Guards.{AreLegalSteps, MayTakeStep, answer_at}
use Rattle.cluster_steps.specs.Named.{back_append, log_named, named, named_reply, named_settled, reply_in, steps}
use Rattle.cluster_steps.specs.declared.events.Event.{Event}
use Rattle.cluster_steps.specs.declared.events.Event.TheVariants as event
use Rattle.cluster_steps.specs.declared.events.Woken.{Woken}
use Rattle.cluster_steps.specs.declared.events.Woken.TheVariants as woken
use Rattle.cluster_consensus.specs.Events.{NodeEvent}
use Rattle.phys_log.specs.declared.entries.CommitId.{CommitId}
use Rattle.phys_log.specs.declared.entries.Entry.{Entry}
use Rattle.phys_log.specs.declared.requests.Decision.{Decision}
use Rattle.phys_log.specs.declared.requests.Decision.TheVariants as decision
use Rattle.cdb_values.specs.declared.tables.TableDef.{TableDef}
use Rattle.report_laws.specs.Nodes.{downs, is_up}
use Rattle.report_laws.specs.Work.{WorkItem, Transaction, Does, Lone}
use Rattle.report_laws.proofs.NodesLaws.{downs_append}
use Rattle.report_text.specs.declared.reports.Line.{Line}
use Rattle.report_text.specs.declared.reports.Line.TheVariants as line
use Rattle.script_form.specs.declared.scripts.SessionLine.{SessionLine}
use Rattle.history_report.specs.Told.{CallsSessions, SoFar, ended_in, name_of, nothing_told, number_in, session_at, told_by, up_lines, with_event}
use Rattle.history_report.proofs.NumberLaws.{AreInTurn, ended_by, ended_with, left_in_turn}

-- what was told of a history so far
pub record IsTold (G : Setting) (sessions : List SessionLine) (h : List (ℕ × Event)) (t : SoFar) : Type 0 where
  pub lines_are : t.lines ≡ lines G (steps G h)
  pub downs_are : t.downs ≡ downs (lines G (steps G h))
  pub size : length t.ended ≡ G.nodes + 1 + length sessions
  pub counts : (s : ℕ) → s < length t.ended → slice_get t.ended s ≡ Some (ended_by s h)

-- the lines of an event more
abbrev pub new_lines : Setting → List (ℕ × Event) → ℕ → Event → List Line
new_lines G h i e = lines_by G (lines G (steps G h)) (part G i (steps G h)) i (named G (steps G h) i e)

-- an event that is no outcome ends nothing
abbrev pub EndsNothing : Event → Type 0
EndsNothing e = (k : ℕ) → ended_with k e ≡ k

same_both : (b : Bool) (k n : ℕ) → n ≡ k → cond b n k ≡ k
same_both true k n e = e
same_both false k n e = refl

still_ended : (s i : ℕ) (e : Event) (h : List (ℕ × Event)) → EndsNothing e → ended_by s ((i, e) ∷ h) ≡ ended_by s h
still_ended s i e h none = same_both (s == i) (ended_by s h) (ended_with (ended_by s h) e) (none (ended_by s h))

-- lines more, of which so many tell that a node went down
told_more : (G : Setting) (sessions : List SessionLine) (h : List (ℕ × Event)) (i : ℕ) (e : Event) (t : SoFar) (ls : List Line) (d : ℕ) → EndsNothing e → new_lines G h i e ≡ ls → d ≡ t.downs + downs ls → IsTold G sessions h t
    → IsTold G sessions ((i, e) ∷ h) (record { lines = t.lines ++ ls; downs = d; ended = t.ended })
told_more G sessions h i e t ls d none same down is = record {
  lines_are = ap (λ (z : List Line). z ++ ls) is.lines_are ∙ ap (λ (z : List Line). lines G (steps G h) ++ z) (sym same);
  downs_are = all_downs;
  size = is.size;
  counts = λ s low. is.counts s low ∙ ap (λ (n : ℕ). Some n) (sym (still_ended s i e h none));
}
  where
    all_downs : d ≡ downs (lines G (steps G h) ++ new_lines G h i e)
    all_downs =
        let a : t.downs ≡ downs (lines G (steps G h)) = is.downs_are in
        let b : downs (new_lines G h i e) ≡ downs ls = ap downs same in
        let c : downs (lines G (steps G h) ++ new_lines G h i e) ≡ downs (lines G (steps G h)) + downs (new_lines G h i e) = downs_append (lines G (steps G h)) (new_lines G h i e) in
        omega (arith, down)

-- none
told_same : (G : Setting) (sessions : List SessionLine) (h : List (ℕ × Event)) (i : ℕ) (e : Event) (t : SoFar) → EndsNothing e → new_lines G h i e ≡ [] → IsTold G sessions h t → IsTold G sessions ((i, e) ∷ h) t
told_same G sessions h i e t none same is = record {
  lines_are = is.lines_are ∙ (sym (append-nil (lines G (steps G h))) ∙ ap (λ (z : List Line). lines G (steps G h) ++ z) (sym same));
  downs_are = is.downs_are ∙ ap downs (sym (append-nil (lines G (steps G h))) ∙ ap (λ (z : List Line). lines G (steps G h) ++ z) (sym same));
  size = is.size;
  counts = λ s low. is.counts s low ∙ ap (λ (n : ℕ). Some n) (sym (still_ended s i e h none));
}

no_more : (n : ℕ) → n ≡ n + 0
no_more n = omega arith

-- one line, of something else than that a node went down
told_one : (G : Setting) (sessions : List SessionLine) (h : List (ℕ × Event)) (i : ℕ) (e : Event) (t : SoFar) (l : Line) → EndsNothing e → new_lines G h i e ≡ l ∷ [] → downs (l ∷ []) ≡ 0 → IsTold G sessions h t
    → IsTold G sessions ((i, e) ∷ h) (record { lines = t.lines ++ l ∷ []; downs = t.downs; ended = t.ended })
told_one G sessions h i e t l none same calm is =
    told_more G sessions h i e t (l ∷ []) t.downs none same (let a : downs (l ∷ []) ≡ 0 = calm in omega arith) is

-- that it went down
told_down : (G : Setting) (sessions : List SessionLine) (h : List (ℕ × Event)) (i : ℕ) (fault : Bool) (t : SoFar) → new_lines G h i (event.Down fault) ≡ line.Down (downs (lines G (steps G h)) + 1) i fault ∷ [] → IsTold G sessions h t
    → IsTold G sessions ((i, event.Down fault) ∷ h) (record { lines = t.lines ++ line.Down (t.downs + 1) i fault ∷ []; downs = t.downs + 1; ended = t.ended })
told_down G sessions h i fault t same is =
    told_more G sessions h i (event.Down fault) t (line.Down (t.downs + 1) i fault ∷ []) (t.downs + 1) (λ k. refl) (same ∙ ap (λ n. line.Down (n + 1) i fault ∷ []) (sym is.downs_are)) (omega arith) is

-- how it came up
up_calm : (b : Bool) (i : ℕ) → downs (up_line b i) ≡ 0
up_calm true i = refl
up_calm false i = refl

ups_calm : (how : Woken) (i : ℕ) (before : List Line) → downs (up_lines how i before) ≡ 0
ups_calm (woken.First rows) i before = up_calm (is_up i before) i
ups_calm woken.AsLeft i before = refl
ups_calm woken.Led i before = refl
ups_calm woken.Took i before = refl
ups_calm woken.Appended i before = refl

took_lines : (G : Setting) (before : List Line) (p : Part) (i : ℕ) (b : Bool) (g : ℕ) (l : List KeptEntry) → lines_by G before p i (ActorEvent.Node (cond b (NodeEvent.BackGrow l) (NodeEvent.BackTake g l))) ≡ line.Up i ∷ []
took_lines G before p i true g l = refl
took_lines G before p i false g l = refl

appended_lines : (G : Setting) (before : List Line) (p : Part) (i promised : ℕ) (log : List KeptEntry) (e : Option Entry) → lines_by G before p i (ActorEvent.Node (back_append promised log e)) ≡ line.Up i ∷ []
appended_lines G before p i promised log None = refl
appended_lines G before p i promised log (Some e) = refl

up_told : (G : Setting) (h : List (ℕ × Event)) (i : ℕ) (how : Woken) (promised accepted : ℕ) (entries : Snapshot (List Entry)) → new_lines G h i (event.Up how promised accepted entries) ≡ up_lines how i (lines G (steps G h))
up_told G h i (woken.First rows) promised accepted entries = refl
up_told G h i woken.AsLeft promised accepted entries = refl
up_told G h i woken.Led promised accepted entries = refl
up_told G h i woken.Took promised accepted entries =
    took_lines G (lines G (steps G h)) (part G i (steps G h)) i (accepted == ((field (steps G h)).core.nodes i).accepted) accepted (log_named G.nodes (field (steps G h)).core accepted (length entries.value))
up_told G h i woken.Appended promised accepted entries =
    appended_lines G (lines G (steps G h)) (part G i (steps G h)) i promised ((field (steps G h)).core.nodes i).log (slice_get entries.value (length ((field (steps G h)).core.nodes i).log))

-- a session's answer
replied : (G : Setting) (before : List Line) (p : Part) (i : ℕ) (items : List WorkItem) (a : Reply) → p.left ≡ items
    → lines_by G before p i (named_reply items a) ≡ line.Session (G.names i) (head_number p.left) (answer_at items a) ∷ []
replied G before p i [] a is = refl
replied G before p i (Lone r ∷ items) a is = ap (λ (z : List WorkItem). line.Session (G.names i) (head_number p.left) (lone_of z) ∷ []) is
replied G before p i (Does t ∷ items) a is = refl

settled : (G : Setting) (before : List Line) (p : Part) (i : ℕ) (tables : List TableDef) (id : CommitId) (d : Decision) → lines_by G before p i (named_settled tables id d) ≡ []
settled G before p i tables id (decision.Repeat position) = refl
settled G before p i tables id _ = refl

-- of a log that is taken, and of a length that is known, nothing is told
take_lines : (G : Setting) (before : List Line) (p : Part) (i : ℕ) (b : Bool) (g : ℕ) (l : List KeptEntry) → lines_by G before p i (ActorEvent.Node (cond b (NodeEvent.Grow l) (NodeEvent.Take g l))) ≡ []
take_lines G before p i true g l = refl
take_lines G before p i false g l = refl

learn_lines : (G : Setting) (before : List Line) (p : Part) (i : ℕ) (b : Bool) (l : ℕ) → lines_by G before p i (ActorEvent.Node (cond b (NodeEvent.LearnLead l) (NodeEvent.LearnFollow l))) ≡ []
learn_lines G before p i true l = refl
learn_lines G before p i false l = refl

-- a session that begins is one of the script, and its transaction has the number behind those that ended
behind_none : (p : Part) (e : ActorEvent) → p.left ≡ [] → (moves p e).left ≡ []
behind_none p ActorEvent.Note none = ap items_behind none
behind_none p (ActorEvent.Finish a) none = ap items_behind none
behind_none p _ none = none

has_no_work : (G : Setting) (i : ℕ) (g : List (ℕ × ActorEvent)) → work_of G i ≡ [] → (part G i g).left ≡ []
has_no_work G i [] none = none
has_no_work G i (x ∷ g) none = go (i == x.0) (has_no_work G i g none)
  where
    go : (b : Bool) → (part G i g).left ≡ [] → (cond b (moves (part G i g) x.1) (part G i g)).left ≡ []
    go true left = behind_none (part G i g) x.1 left
    go false left = left

in_range : (n i : ℕ) (sessions : List SessionLine) (session : SessionLine) → session_at n sessions i ≡ Some session → i < n + 1 + length sessions
in_range n i sessions session at = go (ltb n i) refl
  where
    go : (b : Bool) → ltb n i ≡ b → i < n + 1 + length sessions
    go true low =
        let l : n < i = (Decides-ltb n i).0 low in
        let k : i - (n + 1) < length sessions = slice_get_within sessions (i - (n + 1)) session (sym (ap (λ b. if b then slice_get sessions (i - (n + 1)) else None) low) ∙ at) in
        omega arith
    go false low = absurd (cc (sym (ap (λ (b : Bool). if b then slice_get sessions (i - (n + 1)) else None) low) ∙ at))

begun : (G : Setting) (sessions : List SessionLine) (h : List (ℕ × Event)) (i position generation : ℕ) (t : SoFar) → CallsSessions G sessions → AreLegalSteps G h → MayDo G (steps G h) i (ActorEvent.Begun position generation) → IsTold G sessions h t
    → line.Session (G.names i) (head_number (part G i (steps G h)).left) (reply.Begin position) ≡ line.Session (name_of (session_at G.nodes sessions i)) (number_in t.ended i) (reply.Begin position)
begun G sessions h i position generation t calls legal may is = cc (name, number)
  where
    p : Part
    p = part G i (steps G h)

    at : IsAtTransaction p may.3
    at = may.4

    whose : (session : SessionLine) × (session_at G.nodes sessions i ≡ Some session) × (G.names i ≡ session.name)
    whose = calls.called i (λ none. (let e : [] ≡ Does may.3 ∷ at.others = sym (has_no_work G i (steps G h) none) ∙ at.is in absurd (cc e)))

    low : i < length t.ended
    low = let r : i < G.nodes + 1 + length sessions = in_range G.nodes i sessions whose.0 whose.1 in let s : length t.ended ≡ G.nodes + 1 + length sessions = is.size in omega arith

    name : G.names i ≡ name_of (session_at G.nodes sessions i)
    name = whose.2 ∙ ap name_of (sym whose.1)

    turn : AreInTurn (ended_by i h + 1) (Does may.3 ∷ at.others)
    turn = subst (λ (z : List WorkItem). AreInTurn (ended_by i h + 1) z) at.is (left_in_turn G i h legal)

    number : head_number p.left ≡ number_in t.ended i
    number = ap head_number at.is ∙ (turn.0 ∙ ap (λ (o : Option ℕ). unwrap_or o 0 + 1) (sym (is.counts i low)))

-- one of an actor's transactions more ended
put_same : (xs : List ℕ) (i v : ℕ) → i < length xs → slice_get (slice_set xs i v) i ≡ Some v
put_same xs i v low = slice_get-get_or (slice_set xs i v) i v (rw (length-set xs i v) low) ∙ ap Some (get_or-set_same xs i v v low)

put_other : (xs : List ℕ) (i s v : ℕ) → s ≢ i → s < length xs → slice_get (slice_set xs i v) s ≡ slice_get xs s
put_other xs i s v ne low = slice_get-get_or (slice_set xs i v) s 0 (rw (length-set xs i v) low) ∙ (ap Some (get_or-set_other xs i s v 0 ne) ∙ sym (slice_get-get_or xs s 0 low))

ended_size : (xs : List ℕ) (i : ℕ) → length (ended_in xs i) ≡ length xs
ended_size xs i = go (ltb i (length xs))
  where
    go : (b : Bool) → length (if b then slice_set xs i (number_in xs i) else xs) ≡ length xs
    go true = length-set xs i (number_in xs i)
    go false = refl

ended_more : (xs : List ℕ) (i s : ℕ) (told : Line) (h : List (ℕ × Event)) → ((k : ℕ) → k < length xs → slice_get xs k ≡ Some (ended_by k h)) → s < length xs
    → slice_get (ended_in xs i) s ≡ Some (ended_by s ((i, event.Outcome told) ∷ h))
ended_more xs i s told h all low = go (s == i) refl
  where
    at_it : s ≡ i → slice_get (ended_in xs i) s ≡ Some (ended_by s h + 1)
    at_it same =
        let low' : i < length xs = omega (arith, same, low) in
        let in_it : ltb i (length xs) ≡ true = (Decides-ltb i (length xs)).1 low' in
        let number : number_in xs i ≡ ended_by i h + 1 = ap (λ (o : Option ℕ). unwrap_or o 0 + 1) (all i low') in
        subst (λ k. slice_get (ended_in xs i) k ≡ Some (ended_by k h + 1)) (sym same)
        (ap (λ (b : Bool). slice_get (if b then slice_set xs i (number_in xs i) else xs) i) in_it ∙ (put_same xs i (number_in xs i) low' ∙ ap (λ (n : ℕ). Some n) number))

    elsewhere : s ≢ i → slice_get (ended_in xs i) s ≡ Some (ended_by s h)
    elsewhere other = by (ltb i (length xs))
      where
        by : (b : Bool) → slice_get (if b then slice_set xs i (number_in xs i) else xs) s ≡ Some (ended_by s h)
        by true = put_other xs i s (number_in xs i) other low ∙ all s low
        by false = all s low

    go : (b : Bool) → (s == i) ≡ b → slice_get (ended_in xs i) s ≡ Some (cond b (ended_by s h + 1) (ended_by s h))
    go true e = at_it ((Decides-eqb s i).0 e)
    go false e = elsewhere (λ same. absurd (cc (e, (Decides-eqb s i).1 same)))

told_outcome : (G : Setting) (sessions : List SessionLine) (h : List (ℕ × Event)) (i : ℕ) (told : Line) (t : SoFar) → new_lines G h i (event.Outcome told) ≡ told ∷ [] → downs (told ∷ []) ≡ 0 → IsTold G sessions h t
    → IsTold G sessions ((i, event.Outcome told) ∷ h) (record { lines = t.lines ++ told ∷ []; downs = t.downs; ended = ended_in t.ended i })
told_outcome G sessions h i told t same calm is = record {
  lines_are = ap (λ (z : List Line). z ++ told ∷ []) is.lines_are ∙ ap (λ (z : List Line). lines G (steps G h) ++ z) (sym same);
  downs_are = all_downs;
  size = ended_size t.ended i ∙ is.size;
  counts = λ s low. ended_more t.ended i s told h is.counts (subst (λ n. s < n) (ended_size t.ended i) low);
}
  where
    all_downs : t.downs ≡ downs (lines G (steps G h) ++ new_lines G h i (event.Outcome told))
    all_downs =
        let a : t.downs ≡ downs (lines G (steps G h)) = is.downs_are in
        let b : downs (new_lines G h i (event.Outcome told)) ≡ downs (told ∷ []) = ap downs same in
        let d : downs (told ∷ []) ≡ 0 = calm in
        let c : downs (lines G (steps G h) ++ new_lines G h i (event.Outcome told)) ≡ downs (lines G (steps G h)) + downs (new_lines G h i (event.Outcome told)) = downs_append (lines G (steps G h)) (new_lines G h i (event.Outcome told)) in
        omega arith

-- an event more
step_told : (G : Setting) (sessions : List SessionLine) (h : List (ℕ × Event)) (i : ℕ) (e : Event) (t : SoFar) → CallsSessions G sessions → AreLegalSteps G h → MayTakeStep G h i e → IsTold G sessions h t
    → IsTold G sessions ((i, e) ∷ h) (with_event G.nodes sessions t i e)
step_told G sessions h i (event.Up how promised accepted entries) t calls legal may is =
    told_more G sessions h i (event.Up how promised accepted entries) t (up_lines how i t.lines) t.downs (λ k. refl)
    (up_told G h i how promised accepted entries ∙ ap (λ z. up_lines how i z) (sym is.lines_are))
    (let a : downs (up_lines how i t.lines) ≡ 0 = ups_calm how i t.lines in omega arith) is
step_told G sessions h i (event.Down true) t calls legal may is = told_down G sessions h i true t refl is
step_told G sessions h i (event.Down false) t calls legal may is = told_down G sessions h i false t refl is
step_told G sessions h i (event.Begun position generation) t calls legal may is =
    told_one G sessions h i (event.Begun position generation) t (line.Session (name_of (session_at G.nodes sessions i)) (number_in t.ended i) (reply.Begin position)) (λ k. refl)
    (ap (λ (l : Line). l ∷ []) (begun G sessions h i position generation t calls legal may.allowed.may is)) refl is
step_told G sessions h i (event.Reply told) t calls legal may is =
    told_one G sessions h i (event.Reply told) t told (λ k. refl)
    (replied G (lines G (steps G h)) (part G i (steps G h)) i (part G i (steps G h)).left (reply_in told) refl ∙ ap (λ (l : Line). l ∷ []) (sym may.exact))
    (ap (λ (l : Line). downs (l ∷ [])) may.exact) is
step_told G sessions h i (event.Outcome told) t calls legal may is =
    told_outcome G sessions h i told t (ap (λ (l : Line). l ∷ []) (sym may.exact)) (ap (λ (l : Line). downs (l ∷ [])) may.exact) is
step_told G sessions h i event.Barrier t calls legal may is = told_one G sessions h i event.Barrier t line.Barrier (λ k. refl) refl refl is
step_told G sessions h i (event.Fed position generation) t calls legal may is = told_one G sessions h i (event.Fed position generation) t (line.Fed position) (λ k. refl) refl refl is
step_told G sessions h i (event.FedAgain position) t calls legal may is = told_one G sessions h i (event.FedAgain position) t (line.Fed position) (λ k. refl) refl refl is
step_told G sessions h i (event.Settle id d) t calls legal may is =
    told_same G sessions h i (event.Settle id d) t (λ k. refl) (settled G (lines G (steps G h)) (part G i (steps G h)) i G.tables id.value d.value) is
step_told G sessions h i (event.Take generation l) t calls legal may is =
    told_same G sessions h i (event.Take generation l) t (λ k. refl)
    (take_lines G (lines G (steps G h)) (part G i (steps G h)) i (generation == ((field (steps G h)).core.nodes i).accepted) generation (log_named G.nodes (field (steps G h)).core generation l)) is
step_told G sessions h i (event.Learn l) t calls legal may is =
    told_same G sessions h i (event.Learn l) t (λ k. refl) (learn_lines G (lines G (steps G h)) (part G i (steps G h)) i ((field (steps G h)).core.nodes i).leading l) is
step_told G sessions h i _ t calls legal may is = told_same G sessions h i _ t (λ k. refl) refl is

pub all_told : (G : Setting) (sessions : List SessionLine) (h : List (ℕ × Event)) → CallsSessions G sessions → AreLegalSteps G h → IsTold G sessions h (told_by G.nodes sessions h)
all_told G sessions [] calls legal = record {
  lines_are = refl;
  downs_are = refl;
  size = length-replicate {A = ℕ} (G.nodes + 1 + length sessions) 0;
  counts = λ s low. zero_there s low;
}
  where
    n : ℕ
    n = G.nodes + 1 + length sessions

    zero_there : (s : ℕ) → s < length {A = ℕ} (replicate n 0) → slice_get {X = ℕ} (replicate n 0) s ≡ Some 0
    zero_there s low = slice_get-get_or {X = ℕ} (replicate n 0) s 0 low ∙ ap (λ (m : ℕ). Some m) (get_or-replicate {A = ℕ} n s 0 0 (subst (λ z. s < z) (length-replicate {A = ℕ} n 0) low))
all_told G sessions (x ∷ h) calls legal = step_told G sessions h x.0 x.1 (told_by G.nodes sessions h) calls legal.1 legal.0 (all_told G sessions h calls legal.1)
