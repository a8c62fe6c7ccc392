-- What a session was told by the time of a barrier, and behind the last one.
use Rattle.std.proofs.Common.{◌≡◌, ◌≢◌, ℕ, ◌+◌, ◌<◌, ◌≤◌, List, [], ◌∷◌, ◌++◌, arith, refl, ap, sym, subst, ◌∙◌}
use Rattle.std.specs.Prelude.{◌==◌, Bool, true, false, cond, Option, Some, None, is_some, if◌then◌else◌}
use Rattle.std.proofs.lemmas.Bool.Decides.{Decides-eqb}
use mathlib.Core.Logic.{◌⊎◌, inl, inr}
use Rattle.cluster_answers.proofs.AskLaws.{asked_at, each_append}
use Rattle.cluster_answers.proofs.EntryLaws.{part_whole}
use Rattle.cluster_consensus.specs.Events.{NodeEvent}
use Rattle.cluster_consensus.specs.Events.NodeEvent.{Down, Boot, Back, BackLead, BackTake, BackGrow, BackAppend}
use Rattle.cluster_events.proofs.LineLists.{append_assoc, append_nil}
use Rattle.cdb_values.specs.declared.replies.Reply.{Reply}
use Rattle.cdb_values.specs.declared.replies.Reply.TheVariants as reply
use Rattle.cluster_events.specs.Guards.{MayFinish, MayDo, IsLegalHistory, HasWaited, AllBeyond}
use Rattle.cluster_events.specs.Parts.{ActorEvent, Part, part, moves, barriers_printed, up_line, lines_by, lines}
use Rattle.cluster_events.specs.Parts.ActorEvent.{Node, Stop, Settle, Repeat, Ask, Begun, Say, Note, Send, Finish, Move, Order, Obeyed, Fire, Barrier, Fed, FedAgain}
use Rattle.cluster_events.specs.Settings.{Setting}
use Rattle.cluster_requests.specs.KeptEntries.{KeptEntry}
use Rattle.cluster_reports.proofs.RestLaws.{behind_none, behind_less, behind_front}
use Rattle.cluster_reports.specs.Runs.{FitsScript, FollowsScript}
use Rattle.cluster_reports.specs.SessionLines.{lines_behind, behind_lines, are_over, passed_by, barriers_passed}
use Rattle.core_lists.proofs.Lists.{each_add, each_none}
use Rattle.core_lists.specs.Lists.{Each}
use Rattle.core_lists.specs.Lists.In.{here, there}
use Rattle.node_reports.specs.Fed.{is_sessions}
use Rattle.node_reports.specs.Operator.{is_barrier, barrier_lines}
use Rattle.report_laws.proofs.WorkLaws.{said_append}
use Rattle.report_laws.specs.Nodes.{is_up}
use Rattle.report_laws.specs.Told.{told, Numbered}
use Rattle.report_laws.specs.Work.{WorkItem, said, start, items_at, place_from}
use Rattle.report_text.specs.declared.reports.Line.{Line}
use Rattle.report_text.specs.declared.reports.Line.TheVariants as line
use Rattle.script_form.specs.declared.scripts.BodyLine.{BodyLine}
use Rattle.session_language.specs.Language.{Language}

-- barriers that a session has passed

-- where lines of the script are over, and where they are not
pub over_some : (o : Option (List Numbered)) → is_some o ≡ true → (r : List Numbered) × (o ≡ Some r)
over_some None e = absurd (cc)
over_some (Some r) e = (r, refl)

over_front : (L : Language) (name : List ℕ) (done front : List BodyLine) (ls : List Numbered) → are_over L name (done ++ front) ls ≡ true → are_over L name done ls ≡ true
over_front L name done front ls e =
    let k = over_some (behind_lines L name (done ++ front) ls) e in
    let m = behind_front L [] start (said name done) (said name front) ls k.0 (ap (λ z. lines_behind L [] start z ls) (sym (said_append name done front)) ∙ k.1) in
    ap (λ z. is_some z) m.1

none_over : (L : Language) (name : List ℕ) (done front : List BodyLine) (ls : List Numbered) → are_over L name done ls ≡ false → are_over L name (done ++ front) ls ≡ false
none_over L name done front ls e = go (are_over L name (done ++ front) ls) refl
  where
    go : (b : Bool) → are_over L name (done ++ front) ls ≡ b → are_over L name (done ++ front) ls ≡ false
    go false q = q
    go true q = absurd (let a = over_front L name done front ls q in cc)

passed_none : (L : Language) (name : List ℕ) (done bs : List BodyLine) (ls : List Numbered) → are_over L name done ls ≡ false → barriers_passed L name done bs ls ≡ 0
passed_none L name done [] ls e = ap (λ z. if z then 1 else 0) e
passed_none L name done (b ∷ bs) ls e = go (is_barrier b.act) (passed_none L name (done ++ b ∷ []) bs ls (none_over L name done (b ∷ []) ls e))
  where
    go : (c : Bool) → barriers_passed L name (done ++ b ∷ []) bs ls ≡ 0 → passed_by c (are_over L name done ls) (barriers_passed L name (done ++ b ∷ []) bs ls) ≡ 0
    go false old = old
    go true old = ap (λ z. passed_by true z (barriers_passed L name (done ++ b ∷ []) bs ls)) e

pub passed_all : (L : Language) (name : List ℕ) (done front bs : List BodyLine) (ls : List Numbered) → are_over L name (done ++ front) ls ≡ true → barriers_passed L name done (front ++ bs) ls ≡ barriers_passed L name (done ++ front) bs ls + barrier_lines front
passed_all L name done [] bs ls e = ap (λ z. barriers_passed L name z bs ls) (sym (append_nil done)) ∙ plus (barriers_passed L name (done ++ []) bs ls)
  where
    plus : (n : ℕ) → n ≡ n + 0
    plus n = omega arith
passed_all L name done (b ∷ front) bs ls e =
    let whole = append_assoc done (b ∷ []) front in
    let e' : are_over L name ((done ++ b ∷ []) ++ front) ls ≡ true = ap (λ z. are_over L name z ls) whole ∙ e in
    let old = passed_all L name (done ++ b ∷ []) front bs ls e' ∙ ap (λ z. barriers_passed L name z bs ls + barrier_lines front) whole in
    go (is_barrier b.act) old
  where
    now : are_over L name done ls ≡ true
    now = over_front L name done (b ∷ front) ls e

    go : (c : Bool) → barriers_passed L name (done ++ b ∷ []) (front ++ bs) ls ≡ barriers_passed L name (done ++ b ∷ front) bs ls + barrier_lines front → passed_by c (are_over L name done ls) (barriers_passed L name (done ++ b ∷ []) (front ++ bs) ls) ≡ barriers_passed L name (done ++ b ∷ front) bs ls + (barrier_lines front + (if c then 1 else 0))
    go false old = old ∙ plus (barriers_passed L name (done ++ b ∷ front) bs ls) (barrier_lines front)
      where
        plus : (m n : ℕ) → m + n ≡ m + (n + 0)
        plus m n = omega arith
    go true old = ap (λ z. passed_by true z (barriers_passed L name (done ++ b ∷ []) (front ++ bs) ls)) now ∙ (ap (λ z. z + 1) old ∙ plus (barriers_passed L name (done ++ b ∷ front) bs ls) (barrier_lines front))
      where
        plus : (m n : ℕ) → m + n + 1 ≡ m + (n + 1)
        plus m n = omega arith

pub passed_few : (L : Language) (name : List ℕ) (done front bs : List BodyLine) (ls : List Numbered) → are_over L name (done ++ front) ls ≡ false → barriers_passed L name done (front ++ bs) ls ≤ barrier_lines front
passed_few L name done [] bs ls e =
    let z : barriers_passed L name done bs ls ≡ 0 = passed_none L name done bs ls (ap (λ z. are_over L name z ls) (sym (append_nil done)) ∙ e) in
    omega arith
passed_few L name done (b ∷ front) bs ls e =
    let whole = append_assoc done (b ∷ []) front in
    go (is_barrier b.act) (are_over L name done ls) (passed_few L name (done ++ b ∷ []) front bs ls (ap (λ z. are_over L name z ls) whole ∙ e))
  where
    go : (c o : Bool) → barriers_passed L name (done ++ b ∷ []) (front ++ bs) ls ≤ barrier_lines front → passed_by c o (barriers_passed L name (done ++ b ∷ []) (front ++ bs) ls) ≤ barrier_lines front + (if c then 1 else 0)
    go false o old = omega arith
    go true false old = omega arith
    go true true old = omega arith

-- a barrier that is passed: the lines before it are over; one that is not: they are not
pub barrier_passed : (L : Language) (name : List ℕ) (front back : List BodyLine) (ls : List Numbered) → barrier_lines front < barriers_passed L name [] (front ++ back) ls → are_over L name front ls ≡ true
barrier_passed L name front back ls lt = go (are_over L name front ls) refl
  where
    go : (b : Bool) → are_over L name front ls ≡ b → are_over L name front ls ≡ true
    go true e = e
    go false e = absurd (let w = passed_few L name [] front back ls e in omega arith)

pub barrier_ahead : (L : Language) (name : List ℕ) (front back : List BodyLine) (bar : BodyLine) (ls : List Numbered) → is_barrier bar.act ≡ true → barriers_passed L name [] (front ++ bar ∷ back) ls ≤ barrier_lines front → are_over L name front ls ≡ false
barrier_ahead L name front back bar ls is le = go (are_over L name front ls) refl
  where
    go : (b : Bool) → are_over L name front ls ≡ b → are_over L name front ls ≡ false
    go false e = e
    go true e = absurd (
        let w = passed_all L name [] front (bar ∷ back) ls e in
        let one : barriers_passed L name front (bar ∷ back) ls ≡ barriers_passed L name (front ++ bar ∷ []) back ls + 1 = ap (λ z. passed_by z (are_over L name front ls) (barriers_passed L name (front ++ bar ∷ []) back ls)) is ∙ ap (λ z. passed_by true z (barriers_passed L name (front ++ bar ∷ []) back ls)) e in
        let w' : barriers_passed L name [] (front ++ bar ∷ back) ls ≡ barriers_passed L name front (bar ∷ back) ls + barrier_lines front = w in
        omega arith)

-- histories

-- what a session does: it is told nothing and its work is as it was; or it is told a line, where the barriers before it are told
abbrev IsQuiet : Part → ActorEvent → Type 0
IsQuiet p e = ((moves p e).told ≡ p.told) × ((moves p e).left ≡ p.left)

abbrev IsHeardBy : Setting → List (ℕ × ActorEvent) → ℕ → ActorEvent → Type 0
IsHeardBy G h s e = (x : Numbered) × ((moves (part G s h) e).told ≡ (part G s h).told ++ x ∷ []) × HasWaited G h s × ((part G s h).left ≢ [])

some_left : {A : Type 0} {i : WorkItem} {others : List WorkItem} (items : List WorkItem) → items ≡ i ∷ others → items ≡ [] → A
some_left items e q = absurd (cc)

begun_heard : (G : Setting) → FitsScript G → (h : List (ℕ × ActorEvent)) (s b g : ℕ) → IsLegalHistory G h → MayDo G h s (Begun b g) → IsHeardBy G h s (Begun b g)
begun_heard G fits h s b g legal may = (_, refl, (asked_at G fits.apart s may.0 h legal may.1).waited, λ q. some_left (part G s h).left may.4.is q)

say_heard : (G : Setting) (h : List (ℕ × ActorEvent)) (s : ℕ) (r : Reply) → MayDo G h s (Say r) → IsHeardBy G h s (Say r)
say_heard G h s r may = (_, refl, may.5, λ q. some_left (part G s h).left may.2.is q)

note_heard : (G : Setting) (h : List (ℕ × ActorEvent)) (s : ℕ) → MayDo G h s Note → IsHeardBy G h s Note
note_heard G h s may = (_, refl, may.4, λ q. some_left (part G s h).left may.2 q)

finish_left : (G : Setting) (h : List (ℕ × ActorEvent)) (s : ℕ) (a : Reply) → MayFinish G h s a → (part G s h).left ≡ [] → ⊥
finish_left G h s reply.RolledBack k q = some_left (part G s h).left k.2.is q
finish_left G h s (reply.Committed n) k q = some_left (part G s h).left k.0.at.is q
finish_left G h s (reply.ConflictGenid n t g) k q = some_left (part G s h).left k.0.at.is q
finish_left G h s (reply.ConflictRange n t g) k q = some_left (part G s h).left k.0.at.is q
finish_left G h s (reply.Duplicate n t g) k q = some_left (part G s h).left k.0.at.is q
finish_left G h s (reply.Lost n d) k q = some_left (part G s h).left k.2.is q
finish_left G h s (reply.NoMajority u n) k q = some_left (part G s h).left k.1.is q
finish_left G h s reply.NoMemory k q = some_left (part G s h).left k.1.is q
finish_left G h s _ k q = k

finish_heard : (G : Setting) (h : List (ℕ × ActorEvent)) (s : ℕ) (a : Reply) → MayDo G h s (Finish a) → IsHeardBy G h s (Finish a)
finish_heard G h s a may = (_, refl, may.1, λ q. finish_left G h s a may.0 q)

told_step : (G : Setting) → FitsScript G → (h : List (ℕ × ActorEvent)) (s : ℕ) (e : ActorEvent) → IsLegalHistory G h → MayDo G h s e → IsQuiet (part G s h) e ⊎ IsHeardBy G h s e
told_step G fits h s (Begun b g) legal may = inr (begun_heard G fits h s b g legal may)
told_step G fits h s (Say r) legal may = inr (say_heard G h s r may)
told_step G fits h s Note legal may = inr (note_heard G h s may)
told_step G fits h s (Finish a) legal may = inr (finish_heard G h s a may)
told_step G fits h s (Node e) legal may = inl (refl, refl)
told_step G fits h s Stop legal may = inl (refl, refl)
told_step G fits h s (Settle id why) legal may = inl (refl, refl)
told_step G fits h s (Repeat id k) legal may = inl (refl, refl)
told_step G fits h s (Ask t) legal may = inl (refl, refl)
told_step G fits h s (Send x) legal may = inl (refl, refl)
told_step G fits h s (Move n) legal may = inl (refl, refl)
told_step G fits h s Order legal may = inl (refl, refl)
told_step G fits h s Obeyed legal may = inl (refl, refl)
told_step G fits h s (Fire l n) legal may = inl (refl, refl)
told_step G fits h s Barrier legal may = inl (refl, refl)
told_step G fits h s (Fed d g) legal may = inl (refl, refl)
told_step G fits h s (FedAgain d) legal may = inl (refl, refl)

-- the same of any event
abbrev IsStill : Setting → (ℕ × ActorEvent) → List (ℕ × ActorEvent) → ℕ → Type 0
IsStill G x h s = ((part G s (x ∷ h)).told ≡ (part G s h).told) × ((part G s (x ∷ h)).left ≡ (part G s h).left)

abbrev Speaks : Setting → (ℕ × ActorEvent) → List (ℕ × ActorEvent) → ℕ → Type 0
Speaks G x h s = (y : Numbered) × ((part G s (x ∷ h)).told ≡ (part G s h).told ++ y ∷ []) × HasWaited G h s × ((part G s h).left ≢ [])

pub step_of : (G : Setting) → FitsScript G → (x : ℕ × ActorEvent) (h : List (ℕ × ActorEvent)) (s : ℕ) → IsLegalHistory G (x ∷ h) → IsStill G x h s ⊎ Speaks G x h s
step_of G fits x h s legal = go (s == x.0) refl
  where
    go : (b : Bool) → (s == x.0) ≡ b → (((cond b (moves (part G s h) x.1) (part G s h)).told ≡ (part G s h).told) × ((cond b (moves (part G s h) x.1) (part G s h)).left ≡ (part G s h).left)) ⊎ ((y : Numbered) × ((cond b (moves (part G s h) x.1) (part G s h)).told ≡ (part G s h).told ++ y ∷ []) × HasWaited G h s × ((part G s h).left ≢ []))
    go false e = inl (refl, refl)
    go true e = told_step G fits h s x.1 legal.1 (subst (λ j. MayDo G h j x.1) (sym ((Decides-eqb s x.0).0 e)) legal.0)

-- a session that has done its work is told nothing more
pub rests : (G : Setting) → FitsScript G → (w h : List (ℕ × ActorEvent)) (s : ℕ) → IsLegalHistory G (w ++ h) → (part G s h).left ≡ [] → ((part G s (w ++ h)).left ≡ []) × ((part G s (w ++ h)).told ≡ (part G s h).told)
rests G fits [] h s legal q = (q, refl)
rests G fits (x ∷ w) h s legal q =
    let old = rests G fits w h s legal.1 q in
    elim (step_of G fits x (w ++ h) s legal) [ inl k ↦ (k.1 ∙ old.0, k.0 ∙ old.1) | inr k ↦ absurd (k.3 old.0) ]

-- the operator has no work
pub none_left : (G : Setting) → FollowsScript G → (h : List (ℕ × ActorEvent)) → (part G 0 h).left ≡ []
none_left G follows h = nil (part G 0 h).over (part G 0 h).left (part_whole G 0 h ∙ ap (λ z. items_at (place_from G.language start z)) follows.operator)
  where
    nil : (a b : List WorkItem) → a ++ b ≡ [] → b ≡ []
    nil [] b e = e
    nil (x ∷ a) b e = absurd (cc)

barriers_grow : (x : ℕ × ActorEvent) (h : List (ℕ × ActorEvent)) → barriers_printed h ≤ barriers_printed (x ∷ h)
barriers_grow (i, Barrier) h = omega arith
barriers_grow (i, _) h = omega arith

-- the barriers before the line of an actor that has work are those of the script: it is a session
busy_phase : (G : Setting) → FollowsScript G → (h : List (ℕ × ActorEvent)) (s : ℕ) → (part G s h).left ≢ [] → G.phase s (part G s h).told ≡ barriers_passed G.language (G.names s) [] G.script.body (part G s h).told
busy_phase G follows h s some = go (s == 0) refl
  where
    go : (b : Bool) → (s == 0) ≡ b → G.phase s (part G s h).told ≡ barriers_passed G.language (G.names s) [] G.script.body (part G s h).told
    go true e = absurd (some (subst (λ j. (part G j h).left ≡ []) (sym ((Decides-eqb s 0).0 e)) (none_left G follows h)))
    go false e = follows.phase s e (part G s h).told

-- nothing was told of lines behind the next barrier
pub nothing_beyond : (G : Setting) → FitsScript G → FollowsScript G → (h : List (ℕ × ActorEvent)) → IsLegalHistory G h → (s : ℕ) (front back : List BodyLine) (bar : BodyLine) → G.script.body ≡ front ++ bar ∷ back → is_barrier bar.act ≡ true → barriers_printed h ≤ barrier_lines front
    → (r : List Numbered) → behind_lines G.language (G.names s) front (part G s h).told ≡ Some r → r ≡ []
nothing_beyond G fits follows [] legal s front back bar is b le r e = behind_none G.language [] start (said (G.names s) front) r e
nothing_beyond G fits follows (x ∷ h) legal s front back bar is b le r e =
    let up = barriers_grow x h in
    let old = nothing_beyond G fits follows h legal.1 s front back bar is b (omega arith) in
    elim (step_of G fits x h s legal) [
      | inl k ↦ old r (ap (λ z. behind_lines G.language (G.names s) front z) (sym k.0) ∙ e)
      | inr k ↦ elim (behind_less G.language [] start (said (G.names s) front) (part G s h).told k.0 r (ap (λ z. behind_lines G.language (G.names s) front z) (sym k.1) ∙ e)) [
        | inl z ↦ z
        | inr m ↦ absurd (
            let p = busy_phase G follows h s k.3 in
            let w : G.phase s (part G s h).told ≤ barriers_printed h = k.2 in
            let body = ap (λ z. barriers_passed G.language (G.names s) [] z (part G s h).told) is in
            let n : G.phase s (part G s h).told ≡ barriers_passed G.language (G.names s) [] (front ++ bar ∷ back) (part G s h).told = p ∙ body in
            let f = barrier_ahead G.language (G.names s) front back bar (part G s h).told b (omega arith) in
            let t = ap (λ z. is_some z) m.1 in
            cc)
      ]
    ]

-- the sessions' lines behind a place where none has work before the next barrier

abbrev pub AreNotSaid : List Line → Type 0
AreNotSaid ls = Each (λ l. is_sessions l ≡ false) ls

abbrev pub is_barrier_event : ActorEvent → Bool
is_barrier_event Barrier = true
is_barrier_event _ = false

abbrev pub NoBarrier : List (ℕ × ActorEvent) → Type 0
NoBarrier w = Each (λ x. is_barrier_event x.1 ≡ false) w

-- the lines that these events print behind that history
abbrev pub since : Setting → List (ℕ × ActorEvent) → List (ℕ × ActorEvent) → List Line
since G [] u = []
since G (x ∷ w) u = since G w u ++ lines_by G (lines G (w ++ u)) (part G x.0 (w ++ u)) x.0 x.1

pub lines_since : (G : Setting) (w u : List (ℕ × ActorEvent)) → lines G (w ++ u) ≡ lines G u ++ since G w u
lines_since G [] u = sym (append_nil (lines G u))
lines_since G (x ∷ w) u = ap (λ z. z ++ lines_by G (lines G (w ++ u)) (part G x.0 (w ++ u)) x.0 x.1) (lines_since G w u) ∙ append_assoc (lines G u) (since G w u) (lines_by G (lines G (w ++ u)) (part G x.0 (w ++ u)) x.0 x.1)

pub since_append : (G : Setting) (v w u : List (ℕ × ActorEvent)) → since G (v ++ w) u ≡ since G w u ++ since G v (w ++ u)
since_append G [] w u = sym (append_nil (since G w u))
since_append G (x ∷ v) w u =
    ap (λ z. z ++ lines_by G (lines G ((v ++ w) ++ u)) (part G x.0 ((v ++ w) ++ u)) x.0 x.1) (since_append G v w u)
    ∙ (append_assoc (since G w u) (since G v (w ++ u)) (lines_by G (lines G ((v ++ w) ++ u)) (part G x.0 ((v ++ w) ++ u)) x.0 x.1)
    ∙ ap (λ z. since G w u ++ (since G v (w ++ u) ++ lines_by G (lines G z) (part G x.0 z) x.0 x.1)) (append_assoc v w u))

boot_not_said : (b : Bool) (i : ℕ) → AreNotSaid (up_line b i)
boot_not_said true i = each_none
boot_not_said false i = each_add refl each_none

node_not_said : (G : Setting) (before : List Line) (p : Part) (i : ℕ) (e : NodeEvent KeptEntry) → AreNotSaid (lines_by G before p i (Node e))
node_not_said G before p i Down = each_add refl each_none
node_not_said G before p i (Boot q a l) = boot_not_said (is_up i before) i
node_not_said G before p i (Back q) = each_add refl each_none
node_not_said G before p i BackLead = each_add refl each_none
node_not_said G before p i (BackTake g l) = each_add refl each_none
node_not_said G before p i (BackGrow l) = each_add refl each_none
node_not_said G before p i (BackAppend x) = each_add refl each_none
node_not_said G before p i _ = each_none

-- an actor that is told a line has not waited there
no_voice : {A : Type 0} (G : Setting) → FollowsScript G → (h : List (ℕ × ActorEvent)) (s : ℕ) → AllBeyond G h → HasWaited G h s → ((part G s h).left ≢ []) → A
no_voice G follows h s beyond waited some = absurd (go (s == 0) refl)
  where
    go : (b : Bool) → (s == 0) ≡ b → ⊥
    go true e = some (subst (λ j. (part G j h).left ≡ []) (sym ((Decides-eqb s 0).0 e)) (none_left G follows h))
    go false e =
        let u : barriers_printed h < G.phase s (part G s h).told = beyond s e some in
        let v : G.phase s (part G s h).told ≤ barriers_printed h = waited in
        omega arith

heard_waits : (G : Setting) → FitsScript G → (h : List (ℕ × ActorEvent)) (i : ℕ) (e : ActorEvent) → IsLegalHistory G h → MayDo G h i e → IsHeardBy G h i e ⊎ AreNotSaid (lines_by G (lines G h) (part G i h) i e)
heard_waits G fits h i (Node e) legal may = inr (node_not_said G (lines G h) (part G i h) i e)
heard_waits G fits h i Stop legal may = inr (each_add refl each_none)
heard_waits G fits h i Barrier legal may = inr (each_add refl each_none)
heard_waits G fits h i (Fed d g) legal may = inr (each_add refl each_none)
heard_waits G fits h i (FedAgain d) legal may = inr (each_add refl each_none)
heard_waits G fits h i (Begun b g) legal may = inl (begun_heard G fits h i b g legal may)
heard_waits G fits h i (Say r) legal may = inl (say_heard G h i r may)
heard_waits G fits h i Note legal may = inl (note_heard G h i may)
heard_waits G fits h i (Finish a) legal may = inl (finish_heard G h i a may)
heard_waits G fits h i (Settle id why) legal may = inr each_none
heard_waits G fits h i (Repeat id k) legal may = inr each_none
heard_waits G fits h i (Ask t) legal may = inr each_none
heard_waits G fits h i (Send x) legal may = inr each_none
heard_waits G fits h i (Move n) legal may = inr each_none
heard_waits G fits h i Order legal may = inr each_none
heard_waits G fits h i Obeyed legal may = inr each_none
heard_waits G fits h i (Fire l n) legal may = inr each_none

-- where no session has work before the next barrier, that stays so, and none is told anything, until it is told
pub hush : (G : Setting) → FitsScript G → FollowsScript G → (w u : List (ℕ × ActorEvent)) → IsLegalHistory G (w ++ u) → NoBarrier w → AllBeyond G u → AllBeyond G (w ++ u) × AreNotSaid (since G w u)
hush G fits follows [] u legal bare beyond = (beyond, each_none)
hush G fits follows (x ∷ w) u legal bare beyond =
    let old = hush G fits follows w u legal.1 (record { at = λ y m. bare.at y (there m) }) beyond in
    let h = w ++ u in
    let new : AreNotSaid (lines_by G (lines G (w ++ u)) (part G x.0 (w ++ u)) x.0 x.1) = elim (heard_waits G fits (w ++ u) x.0 x.1 legal.1 legal.0) [ inl k ↦ no_voice G follows (w ++ u) x.0 old.0 k.2 k.3 | inr k ↦ k ] in (
      λ s ns some. elim (step_of G fits x (w ++ u) s legal) [
        | inl k ↦ still s ns k (old.0 s ns (λ q. some (k.1 ∙ q)))
        | inr k ↦ no_voice G follows (w ++ u) s old.0 k.2 k.3
      ],
      each_append (since G w u) (lines_by G (lines G (w ++ u)) (part G x.0 (w ++ u)) x.0 x.1) old.1 new,
    )
  where
    same_count : (i : ℕ) (e : ActorEvent) → is_barrier_event e ≡ false → barriers_printed ((i, e) ∷ (w ++ u)) ≡ barriers_printed (w ++ u)
    same_count i Barrier q = absurd (cc)
    same_count i _ q = refl

    still : (s : ℕ) → (s == 0) ≡ false → IsStill G x (w ++ u) s → barriers_printed (w ++ u) < G.phase s (part G s (w ++ u)).told → barriers_printed (x ∷ (w ++ u)) < G.phase s (part G s (x ∷ (w ++ u))).told
    still s ns k lt =
        let a = follows.phase s ns (part G s (w ++ u)).told in
        let b = follows.phase s ns (part G s (x ∷ (w ++ u))).told in
        let c = ap (λ z. barriers_passed G.language (G.names s) [] G.script.body z) k.0 in
        let d : barriers_printed (x ∷ (w ++ u)) ≡ barriers_printed (w ++ u) = same_count x.0 x.1 (bare.at x here) in
        let e : G.phase s (part G s (x ∷ (w ++ u))).told ≡ G.phase s (part G s (w ++ u)).told = b ∙ (c ∙ sym a) in
        omega arith

pub told_none : (name : List ℕ) (ls : List Line) → AreNotSaid ls → told name ls ≡ []
told_none name [] k = refl
told_none name (line.Session session t r ∷ ls) k = absurd (let e = k.at (line.Session session t r) here in cc)
told_none name (line.Down c n f ∷ ls) k = told_none name ls (record { at = λ y m. k.at y (there m) })
told_none name (line.Up n ∷ ls) k = told_none name ls (record { at = λ y m. k.at y (there m) })
told_none name (line.Barrier ∷ ls) k = told_none name ls (record { at = λ y m. k.at y (there m) })
told_none name (line.Fed d ∷ ls) k = told_none name ls (record { at = λ y m. k.at y (there m) })
