-- There are places in the report for the operator's lines, in their order.
use Rattle.std.proofs.Common.{◌≡◌, ℕ, ◌+◌, ◌<◌, ◌≤◌, List, [], ◌∷◌, ◌++◌, length, arith, refl, ap, sym, subst, ◌∙◌}
use mathlib.Core.Logic.{◌⊎◌, inl, inr}
use Rattle.report_text.specs.declared.reports.Line.{Line}
use Rattle.cluster_events.specs.Settings.{Setting}
use Rattle.cluster_events.specs.Parts.{ActorEvent, part, lines_by, lines}
use Rattle.cluster_events.specs.Parts.ActorEvent.{Order, Obeyed, Barrier, Fed, FedAgain}
use Rattle.script_form.specs.declared.scripts.Act.{Act}
use Rattle.script_form.specs.declared.scripts.Act.TheVariants as act
use Rattle.script_form.specs.declared.scripts.BodyLine.{BodyLine}
use Rattle.cluster_events.specs.Operator.{acts_of, IsHeeded, HavePlaces, operators_from, Duty, next_left, fed_over, heed, duty, IsHeededAt}
use Rattle.report_laws.specs.Nodes.{downs}
use Rattle.cluster_events.specs.ByScript.{Heeds, AllHeed}
use Rattle.cluster_events.proofs.LineLists.{append_assoc, append_nil}

abbrev pub PlacedTo : List Act → List Line → List Line → Type 0
PlacedTo [] before rest = rest ≡ []
PlacedTo (a ∷ as') before rest = (mid : List Line) × (later : List Line) × (rest ≡ mid ++ later) × IsHeeded a (before ++ mid) × PlacedTo as' (before ++ mid) later

placed_more : (as' : List Act) (before rest mid : List Line) (a : Act) → PlacedTo as' before rest → IsHeeded a (before ++ (rest ++ mid)) → PlacedTo (as' ++ a ∷ []) before (rest ++ mid)
placed_more [] before rest mid a p k = (rest ++ mid, [], sym (append_nil (rest ++ mid)), k, refl)
placed_more (b ∷ as') before rest mid a p k =
    let whole = ap (λ z. z ++ mid) p.2 ∙ append_assoc p.0 p.1 mid in
    (p.0, p.1 ++ mid, whole, p.3, placed_more as' (before ++ p.0) p.1 mid a p.4 (subst (λ z. IsHeeded a z) (ap (λ z. before ++ z) whole ∙ sym (append_assoc before p.0 (p.1 ++ mid))) k))

have_places : (as' : List Act) (before rest more : List Line) → PlacedTo as' before rest → HavePlaces as' before (rest ++ more)
have_places [] before rest more p = tt
have_places (b ∷ as') before rest more p = (p.0, p.1 ++ more, ap (λ z. z ++ more) p.2 ∙ append_assoc p.0 p.1 more, p.3, have_places as' (before ++ p.0) p.1 more p.4)

-- the lines of a beginning of a history are a front
lines_front : (G : Setting) (v u : List (ℕ × ActorEvent)) → (more : List Line) × (lines G (v ++ u) ≡ lines G u ++ more)
lines_front G [] u = ([], sym (append_nil (lines G u)))
lines_front G (x ∷ v) u =
    let r = lines_front G v u in
    let new = lines_by G (lines G (v ++ u)) (part G x.0 (v ++ u)) x.0 x.1 in
    (r.0 ++ new, ap (λ z. z ++ new) r.1 ∙ append_assoc (lines G u) r.0 new)

-- the operator's lines that are left become fewer
fewer_next : (xs : List (ℕ × Act)) → length (next_left xs) ≤ length xs
fewer_next [] = omega arith
fewer_next (x ∷ xs) = omega arith

fewer_fed : (xs : List (ℕ × Act)) (d : Duty) → length (fed_over xs d).left ≤ length d.left
fewer_fed [] d = omega arith
fewer_fed ((n, act.Feed) ∷ xs) d = fewer_next d.left
fewer_fed ((n, act.Barrier) ∷ xs) d = omega arith
fewer_fed ((n, act.Stop node) ∷ xs) d = omega arith
fewer_fed ((n, act.Start node) ∷ xs) d = omega arith
fewer_fed ((n, act.Say session text) ∷ xs) d = omega arith
fewer_fed ((n, act.Arm session moment) ∷ xs) d = omega arith

pub fewer : (d : Duty) (e : ActorEvent) → length (heed d e).left ≤ length d.left
fewer d Order = omega arith
fewer d Obeyed = fewer_next d.left
fewer d Barrier = fewer_next d.left
fewer d (Fed p g) = fewer_fed d.left d
fewer d (FedAgain p) = fewer_fed d.left d
fewer d _ = omega arith

shrinks : (body : List BodyLine) (w u : List (ℕ × ActorEvent)) → length (duty body (w ++ u)).left ≤ length (duty body u).left
shrinks body [] u = omega arith
shrinks body (x ∷ w) u = let a = fewer (duty body (w ++ u)) x.1 in let b = shrinks body w u in omega arith

-- two beginnings of a history
tail_of : {A : Type 0} {x y : A} {xs ys : List A} → x ∷ xs ≡ y ∷ ys → xs ≡ ys
tail_of e = cc

two_ends : {A : Type 0} (mid last later before : List A) → mid ++ last ≡ later ++ before → ((v : List A) × (before ≡ v ++ last)) ⊎ ((x : A) × (w : List A) × (last ≡ x ∷ (w ++ before)))
two_ends [] last [] before e = inl ([], sym e)
two_ends [] last (x ∷ later) before e = inr (x, later, e)
two_ends (m ∷ mid) last [] before e = inl (m ∷ mid, sym e)
two_ends (m ∷ mid) last (x ∷ later) before e = two_ends mid last later before (tail_of e)

-- the lines of the operator that are over have their places
pub record Placed (G : Setting) (body : List BodyLine) (h : List (ℕ × ActorEvent)) (left : List (ℕ × Act)) : Type 0 where
  pub done : List (ℕ × Act)
  pub whole : done ++ left ≡ operators_from 0 body
  pub mid : List (ℕ × ActorEvent)
  pub last : List (ℕ × ActorEvent)
  pub split : h ≡ mid ++ last
  pub behind : (x : ℕ × ActorEvent) (w u : List (ℕ × ActorEvent)) → last ≡ x ∷ (w ++ u) → length left < length (duty body u).left
  pub places : PlacedTo (acts_of done) [] (lines G last)

acts_more : (done : List (ℕ × Act)) (x : ℕ × Act) → acts_of (done ++ x ∷ []) ≡ acts_of done ++ x.1 ∷ []
acts_more [] x = refl
acts_more (y ∷ done) x = ap (λ z. y.1 ∷ z) (acts_more done x)

-- a line of the operator is over, heeded at this place
next_place : (G : Setting) (body : List BodyLine) (h later before : List (ℕ × ActorEvent)) (e : ℕ × ActorEvent) (k : ℕ) (a : Act) (rest : List (ℕ × Act)) → h ≡ later ++ before → (duty body before).left ≡ (duty body h).left → (duty body h).left ≡ (k, a) ∷ rest → IsHeeded a (lines G before) → Placed G body h (duty body h).left → Placed G body (e ∷ h) rest
next_place G body h later before e k a rest split same next heeded p = go (two_ends p.mid p.last later before (sym p.split ∙ split))
  where
    items : (p.done ++ (k, a) ∷ []) ++ rest ≡ operators_from 0 body
    items = append_assoc p.done ((k, a) ∷ []) rest ∙ (ap (λ z. p.done ++ z) (sym next) ∙ p.whole)

    longer : length (duty body before).left ≡ length rest + 1
    longer = let q = ap (λ (z : List (ℕ × Act)). length z) (same ∙ next) in let q' : length (duty body before).left ≡ length ((k, a) ∷ rest) = q in omega arith

    go : ((v : List (ℕ × ActorEvent)) × (before ≡ v ++ p.last)) ⊎ ((x : ℕ × ActorEvent) × (w : List (ℕ × ActorEvent)) × (p.last ≡ x ∷ (w ++ before))) → Placed G body (e ∷ h) rest
    go (inl v) =
        let f = lines_front G v.0 p.last in
        let ls = ap (λ z. lines G z) v.1 ∙ f.1 in
        record {
          done = p.done ++ (k, a) ∷ [];
          whole = items;
          mid = e ∷ later;
          last = before;
          split = ap (λ z. e ∷ z) split;
          behind = λ x w u q. (
              let s = shrinks body (x ∷ w) u in
              let c = ap (λ z. length (duty body z).left) q in
              let c' : length (duty body before).left ≡ length (duty body (x ∷ (w ++ u))).left = c in
              let l = longer in
              omega arith);
          places = subst (λ z. PlacedTo z [] (lines G before)) (sym (acts_more p.done (k, a))) (subst (λ z. PlacedTo (acts_of p.done ++ a ∷ []) [] z) (sym ls) (placed_more (acts_of p.done) [] (lines G p.last) f.0 a p.places (subst (λ z. IsHeeded a z) ls heeded)));
        }
    go (inr w) = absurd (
        let b = p.behind w.0 w.1 before w.2 in
        let c = ap (λ (z : List (ℕ × Act)). length z) same in
        let c' : length (duty body before).left ≡ length (duty body h).left = c in
        let b' : length (duty body h).left < length (duty body before).left = b in
        omega arith)

keep_place : (G : Setting) (body : List BodyLine) (h : List (ℕ × ActorEvent)) (e : ℕ × ActorEvent) (left : List (ℕ × Act)) → Placed G body h left → Placed G body (e ∷ h) left
keep_place G body h e left p = record { done = p.done; whole = p.whole; mid = e ∷ p.mid; last = p.last; split = ap (λ z. e ∷ z) p.split; behind = p.behind; places = p.places }

fed_place : (G : Setting) (body : List BodyLine) (h : List (ℕ × ActorEvent)) (e : ℕ × ActorEvent) (xs : List (ℕ × Act)) → (duty body h).left ≡ xs → Placed G body h (duty body h).left → Placed G body (e ∷ h) (fed_over xs (duty body h)).left
fed_place G body h e [] q p = keep_place G body h e (duty body h).left p
fed_place G body h e ((k, act.Feed) ∷ rest) q p = subst (λ z. Placed G body (e ∷ h) (next_left z)) (sym q) (next_place G body h [] h e k act.Feed rest refl refl q tt p)
fed_place G body h e ((k, act.Barrier) ∷ rest) q p = keep_place G body h e (duty body h).left p
fed_place G body h e ((k, act.Stop node) ∷ rest) q p = keep_place G body h e (duty body h).left p
fed_place G body h e ((k, act.Start node) ∷ rest) q p = keep_place G body h e (duty body h).left p
fed_place G body h e ((k, act.Say session text) ∷ rest) q p = keep_place G body h e (duty body h).left p
fed_place G body h e ((k, act.Arm session moment) ∷ rest) q p = keep_place G body h e (duty body h).left p

-- what is heeded at a place is heeded behind the lines there
heeded_there : (G : Setting) (body : List BodyLine) (h : List (ℕ × ActorEvent)) (a : Act) → IsHeededAt G body h a → IsHeeded a (lines G h)
heeded_there G body h (act.Stop node) k = k
heeded_there G body h (act.Start node) (inl k) = inl k
heeded_there G body h (act.Start node) (inr k) = inr (record { count = downs (lines G k.before) + 1; front = lines G k.before; stands = ap (λ z. lines G z) k.fell })
heeded_there G body h (act.Say session text) k = tt
heeded_there G body h (act.Arm session moment) k = tt
heeded_there G body h act.Barrier k = tt
heeded_there G body h act.Feed k = tt

place_row : (G : Setting) (body : List BodyLine) (h : List (ℕ × ActorEvent)) (i : ℕ) (e : ActorEvent) → Heeds G body h i e → Placed G body h (duty body h).left → Placed G body ((i, e) ∷ h) (heed (duty body h) e).left
place_row G body h i Obeyed may p = subst (λ z. Placed G body ((i, Obeyed) ∷ h) (next_left z)) (sym may.next) (next_place G body h may.later may.before (i, Obeyed) may.line may.act may.rest may.split may.same may.next (heeded_there G body may.before may.act may.heeded) p)
place_row G body h i Barrier may p = subst (λ z. Placed G body ((i, Barrier) ∷ h) (next_left z)) (sym may.2) (next_place G body h [] h (i, Barrier) may.0 act.Barrier may.1 refl refl may.2 tt p)
place_row G body h i (Fed d g) may p = fed_place G body h (i, Fed d g) (duty body h).left refl p
place_row G body h i (FedAgain d) may p = fed_place G body h (i, FedAgain d) (duty body h).left refl p
place_row G body h i Order may p = keep_place G body h (i, Order) (duty body h).left p
place_row G body h i e may p = keep_place G body h (i, e) (duty body h).left p

pub placed : (G : Setting) (body : List BodyLine) (h : List (ℕ × ActorEvent)) → AllHeed G body h → Placed G body h (duty body h).left
placed G body [] all = record { done = []; whole = refl; mid = []; last = []; split = refl; behind = λ x w u q. absurd (cc); places = refl }
placed G body (x ∷ h) all = place_row G body h x.0 x.1 all.0.heeds (placed G body h all.1)

-- where the operator did all its lines, they have places in the report, in their order
pub places_stand : (G : Setting) (body : List BodyLine) (h : List (ℕ × ActorEvent)) → AllHeed G body h → (duty body h).left ≡ [] → HavePlaces (acts_of (operators_from 0 body)) [] (lines G h)
places_stand G body h all done =
    let p = placed G body h all in
    let f = lines_front G p.mid p.last in
    let items = sym (append_nil p.done) ∙ (ap (λ z. p.done ++ z) (sym done) ∙ p.whole) in
    subst (λ z. HavePlaces (acts_of z) [] (lines G h)) items (subst (λ z. HavePlaces (acts_of p.done) [] z) (sym (ap (λ z. lines G z) p.split ∙ f.1)) (have_places (acts_of p.done) [] (lines G p.last) f.0 p.places))
