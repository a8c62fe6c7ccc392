-- The core's history inside a whole history, and what only grows.
use Rattle.std.proofs.Common.{◌≡◌, ℕ, ◌≤◌, List, [], ◌∷◌, ◌++◌, length, arith, refl, ap, sym, subst, ◌∙◌}
use mathlib.Core.Logic.{inr}
use Rattle.core_lists.specs.Lists.{In, Each, Has}
use Rattle.core_lists.specs.Lists.In.{there}
use Rattle.core_lists.proofs.Lists.{each_add, each_none, each_more}
use Rattle.cluster_consensus.specs.Facts.{Claim, Ping, Own, World}
use Rattle.cluster_consensus.specs.Events.{NodeEvent, change}
use Rattle.cluster_consensus.specs.Events.NodeEvent.{Down, Asks, Probe}
use Rattle.cluster_consensus.specs.Enabled.{Enabled}
use Rattle.cluster_consensus.specs.Histories.{Legal, happens, after}
use Rattle.cluster_consensus.specs.Durable.{DurableIn}
use Rattle.cluster_begins.specs.Begins.{CanBegin, IsPositionAnswered}
use Rattle.cluster_consensus.proofs.Invariant.{Inv, Grows}
use Rattle.cluster_requests.specs.Requests.{Sent, Settled, FieldAct, Field, May, AllMay, does, field_after}
use Rattle.cluster_requests.specs.Requests.FieldAct.{Core, ToSend, ToSettle, ToRepeat}
use Rattle.cluster_requests.proofs.Settled.{Good, good}
use Rattle.cluster_requests.specs.KeptEntries.{KeptEntry}
use Rattle.cluster_events.specs.Settings.{Setting}
use Rattle.cluster_events.specs.Parts.{ActorEvent, add_act, acts, field}
use Rattle.cluster_events.specs.Parts.ActorEvent.{Node, Stop, Settle, Repeat, Ask, Send}
use Rattle.cluster_events.specs.Guards.{DurableNow, MayDo, IsLegalHistory}
use Rattle.cluster_consensus.proofs.FactSteps.{durable_grows}
use Rattle.cluster_consensus.proofs.Kept.{at_node, grows_row}
use Rattle.cluster_begins.proofs.Fresh.{FreshLocal, FreshInv, always_fresh}
use Rattle.cluster_consensus.proofs.Onward.{onward_row}
use Rattle.cluster_begins.proofs.Since.{OnTold, on_told, told_same}

-- the core's own history
abbrev pub add_step : ℕ → ActorEvent → List (ℕ × NodeEvent KeptEntry) → List (ℕ × NodeEvent KeptEntry)
add_step i (Node e) more = (i, e) ∷ more
add_step i Stop more = (i, Down) ∷ more
add_step i (Ask t) more = (i, Asks t) ∷ more
add_step i _ more = more

abbrev pub steps : List (ℕ × ActorEvent) → List (ℕ × NodeEvent KeptEntry)
steps [] = []
steps (x ∷ h) = add_step x.0 x.1 (steps h)

core_step : (i : ℕ) (e : ActorEvent) (as' : List (ℕ × FieldAct)) (cs : List (ℕ × NodeEvent KeptEntry)) → (field_after as').core ≡ after cs → (field_after (add_act i e as')).core ≡ after (add_step i e cs)
core_step i (Node e) as' cs p = ap (λ w. happens w i e) p
core_step i Stop as' cs p = ap (λ w. happens w i Down) p
core_step i (Ask t) as' cs p = ap (λ w. happens w i (Asks t)) p
core_step i _ as' cs p = p

pub core_is : (h : List (ℕ × ActorEvent)) → (field h).core ≡ after (steps h)
core_is [] = refl
core_is (x ∷ h) = core_step x.0 x.1 (acts h) (steps h) (core_is h)

legal_step : (G : Setting) (h : List (ℕ × ActorEvent)) (i : ℕ) (e : ActorEvent) → MayDo G h i e → Legal G.nodes (steps h) → Legal G.nodes (add_step i e (steps h))
legal_step G h i (Node e) may l = (subst (λ w. Enabled G.nodes w i (w.nodes i) e) (core_is h) may.0.0, l)
legal_step G h i Stop may l = (tt, l)
legal_step G h i (Ask t) may l = (subst (λ w. Enabled G.nodes w i (w.nodes i) (Asks t)) (core_is h) may.0.0, l)
legal_step G h i _ may l = l

pub steps_legal : (G : Setting) (h : List (ℕ × ActorEvent)) → IsLegalHistory G h → Legal G.nodes (steps h)
steps_legal G [] l = tt
steps_legal G (x ∷ h) l = legal_step G h x.0 x.1 l.0 (steps_legal G h l.1)

add_append : (i : ℕ) (e : ActorEvent) (a b : List (ℕ × NodeEvent KeptEntry)) → add_step i e (a ++ b) ≡ add_step i e a ++ b
add_append i (Node e) a b = refl
add_append i Stop a b = refl
add_append i (Ask t) a b = refl
add_append i _ a b = refl

pub steps_append : (a b : List (ℕ × ActorEvent)) → steps (a ++ b) ≡ steps a ++ steps b
steps_append [] b = refl
steps_append (x ∷ a) b = ap (λ t. add_step x.0 x.1 t) (steps_append a b) ∙ add_append x.0 x.1 (steps a) (steps b)

pub legal_rest : (G : Setting) (a b : List (ℕ × ActorEvent)) → IsLegalHistory G (a ++ b) → IsLegalHistory G b
legal_rest G [] b l = l
legal_rest G (x ∷ a) b l = legal_rest G a b l.1

may_step : (G : Setting) (h : List (ℕ × ActorEvent)) (i : ℕ) (e : ActorEvent) → MayDo G h i e → AllMay G.nodes (acts h) → AllMay G.nodes (add_act i e (acts h))
may_step G h i (Node e) may l = (may.0, l)
may_step G h i Stop may l = (may.0, l)
may_step G h i (Settle id why) may l = (may.0, l)
may_step G h i (Repeat id k) may l = (may, l)
may_step G h i (Ask t) may l = (may.0, l)
may_step G h i (Send x) may l = (may.0, l)
may_step G h i _ may l = l

pub all_may : (G : Setting) (h : List (ℕ × ActorEvent)) → IsLegalHistory G h → AllMay G.nodes (acts h)
all_may G [] l = tt
all_may G (x ∷ h) l = may_step G h x.0 x.1 l.0 (all_may G h l.1)

pub good_of : (G : Setting) (h : List (ℕ × ActorEvent)) → IsLegalHistory G h → Good G.nodes (field h)
good_of G h l = good G.nodes (acts h) (all_may G h l)

pub fresh_of : (G : Setting) (h : List (ℕ × ActorEvent)) → IsLegalHistory G h → FreshInv G.nodes (field h).core
fresh_of G h l = subst (λ w. FreshInv G.nodes w) (sym (core_is h)) (always_fresh G.nodes (steps h) (steps_legal G h l))

-- facts that were told stay told
pub record Later (f g : Field) : Type 0 where
  pub grows : Grows f.core g.core
  pub told : (k : ℕ) → OnTold (f.core.nodes k) (g.core.nodes k)
  pub sends : (x : Sent) → In x f.sends → In x g.sends
  pub settles : (x : Settled) → In x f.settles → In x g.settles

told_refl : {E : Type 0} (o : Own E) → OnTold o o
told_refl o = told_same o o (omega arith) refl refl

pub grows_refl : {E : Type 0} (w : World E) → Grows w w
grows_refl w = record { votes = λ k x m. m; grants = λ k x m. m; leads = λ k x m. m; accepts = λ k x m. m; admits = λ x m. m }

grows_trans : {E : Type 0} {u v w : World E} → Grows u v → Grows v w → Grows u w
grows_trans a b = record { votes = λ k x m. b.votes k x (a.votes k x m); grants = λ k x m. b.grants k x (a.grants k x m); leads = λ k x m. b.leads k x (a.leads k x m); accepts = λ k x m. b.accepts k x (a.accepts k x m); admits = λ x m. b.admits x (a.admits x m) }

pub later_refl : (f : Field) → Later f f
later_refl f = record { grows = grows_refl f.core; told = λ k. told_refl (f.core.nodes k); sends = λ x m. m; settles = λ x m. m }

later_act : (n : ℕ) (f : Field) (i : ℕ) (a : FieldAct) → Inv n f.core → May n f i a → Later f (does f i a)
later_act n f i (Core e) inv may = record {
  grows = grows_row f.core i e;
  told = λ k. at_node f.core i e (λ j o. OnTold (f.core.nodes j) o) k (on_told inv i e may.0) (told_refl (f.core.nodes k));
  sends = λ x m. m;
  settles = λ x m. m;
}
later_act n f i (ToSend x) inv may = record { grows = grows_refl f.core; told = λ k. told_refl (f.core.nodes k); sends = λ y m. there m; settles = λ y m. m }
later_act n f i (ToSettle id why) inv may = record { grows = grows_refl f.core; told = λ k. told_refl (f.core.nodes k); sends = λ y m. m; settles = λ y m. there m }
later_act n f i (ToRepeat id k) inv may = record { grows = grows_refl f.core; told = λ j. told_refl (f.core.nodes j); sends = λ y m. m; settles = λ y m. m }

pub later_event : (G : Setting) (h : List (ℕ × ActorEvent)) (i : ℕ) (e : ActorEvent) → Inv G.nodes (field h).core → MayDo G h i e → Later (field h) (field_after (add_act i e (acts h)))
later_event G h i (Node e) inv may = later_act G.nodes (field h) i (Core e) inv may.0
later_event G h i Stop inv may = later_act G.nodes (field h) i (Core Down) inv may.0
later_event G h i (Settle id why) inv may = later_act G.nodes (field h) i (ToSettle id why) inv may.0
later_event G h i (Repeat id k) inv may = later_act G.nodes (field h) i (ToRepeat id k) inv may
later_event G h i (Ask t) inv may = later_act G.nodes (field h) i (Core (Asks t)) inv may.0
later_event G h i (Send x) inv may = later_act G.nodes (field h) i (ToSend x) inv may.0
later_event G h i _ inv may = later_refl (field h)

pub durable_later : {f g : Field} (n : ℕ) (d : List KeptEntry) → Later f g → DurableNow n f d → DurableNow n g d
durable_later n d on p = (p.0, durable_grows on.grows p.1)

-- what each ping says of its node's own lead
pub record PingOk {E : Type 0} (o : Own E) (x : Ping) : Type 0 where
  pub first : 1 ≤ x.durable
  pub led : Has (λ l. (l.gen ≡ x.gen) × (length l.log ≤ x.durable)) o.leads

ping_on : {E : Type 0} (o p : Own E) → ((x : Claim E) → In x o.leads → In x p.leads) → Each (PingOk o) o.pings → Each (PingOk p) o.pings
ping_on o p on all = each_more (λ x k. record { first = k.first; led = record { it = k.led.it; mem = on k.led.it k.led.mem; is = k.led.is } }) all

pings_row : {E : Type 0} (n : ℕ) (w : World E) (i : ℕ) (e : NodeEvent E) → Enabled n w i (w.nodes i) e → ((x : Claim E) → In x (w.nodes i).leads → In x (change i (w.nodes i) e).leads) → FreshLocal (w.nodes i) → Each (PingOk (w.nodes i)) (w.nodes i).pings → Each (PingOk (change i (w.nodes i) e)) (change i (w.nodes i) e).pings
pings_row n w i (Probe t) en on f all =
    let l = f.adopted en.1 in
    let a : length l.it.log ≤ (w.nodes i).adopted = l.is.1 in
    let b : (w.nodes i).adopted ≤ (w.nodes i).durable = en.4 in
    each_add (record { first = en.3; led = record { it = l.it; mem = l.mem; is = (l.is.0, omega arith) } }) (ping_on (w.nodes i) _ on all)
pings_row n w i _ en on f all = ping_on (w.nodes i) _ on all

pub pings_ok : {E : Type 0} (n : ℕ) (h : List (ℕ × NodeEvent E)) → Legal n h → (k : ℕ) → Each (PingOk ((after h).nodes k)) ((after h).nodes k).pings
pings_ok n [] legal k = each_none
pings_ok {E} n (x ∷ h) legal k =
    let v = always_fresh n h legal.1 in
    let w : World E = after h in
    at_node w x.0 x.1 (λ j o. Each (PingOk o) o.pings) k (pings_row n w x.0 x.1 legal.0 (onward_row v.inv x.0 x.1 legal.0).leads (v.local x.0) (pings_ok n h legal.1 x.0)) (pings_ok n h legal.1 k)

-- a begin was answered so
pub record Pinged (f : Field) (b g : ℕ) : Type 0 where
  pub node : ℕ
  pub ping : Ping
  pub mem : In ping (f.core.nodes node).pings
  pub gen : ping.gen ≡ g
  pub durable : ping.durable ≡ b

pub pinged_later : {f g : Field} {b n : ℕ} → Later f g → Pinged f b n → Pinged g b n
pinged_later on p = record { node = p.node; ping = p.ping; mem = (on.told p.node).pings p.ping p.mem; gen = p.gen; durable = p.durable }

pub pinged_by : (n : ℕ) (f : Field) (t b g : ℕ) → CanBegin n f.core t b g → Pinged f b g
pinged_by n f t b g can = record { node = can.0; ping = can.1.it; mem = can.1.mem; gen = can.1.is.1; durable = can.1.is.2 }

-- what a begin stands on
pub record Begins (n : ℕ) (f : Field) (b g : ℕ) : Type 0 where
  pub first : 1 ≤ b
  pub node : ℕ
  pub led : Has (λ l. (l.gen ≡ g) × (length l.log ≤ b)) (f.core.nodes node).leads
  pub gen : ℕ
  pub low : gen ≤ g
  pub log : List KeptEntry
  pub durable : DurableIn n f.core gen log
  pub within : b ≤ length log

pub begins_of : (G : Setting) (h : List (ℕ × ActorEvent)) → IsLegalHistory G h → (b g : ℕ) → Pinged (field h) b g → Begins G.nodes (field h) b g
begins_of G h legal b g p =
    let v = fresh_of G h legal in
    let ok : PingOk ((field h).core.nodes p.node) p.ping = (subst (λ w. Each (PingOk (w.nodes p.node)) (w.nodes p.node).pings) (sym (core_is h)) (pings_ok G.nodes (steps h) (steps_legal G h legal) p.node)).at p.ping p.mem in
    let k = ((v.refs p.node).pings.at p.ping p.mem).0 in
    let e : p.ping.gen ≡ g = p.gen in
    let d : p.ping.durable ≡ b = p.durable in
    let f1 : 1 ≤ p.ping.durable = ok.first in
    let l1 : length ok.led.it.log ≤ p.ping.durable = ok.led.is.1 in
    let k1 : k.0 ≤ p.ping.gen = k.1 in
    let k4 : p.ping.durable ≤ length k.2 = k.4 in
    record { first = omega arith; node = p.node; led = record { it = ok.led.it; mem = ok.led.mem; is = (ok.led.is.0 ∙ p.gen, omega arith) }; gen = k.0; low = omega arith; log = k.2; durable = k.3; within = omega arith }

pub answered_ping : (f : Field) (b g : ℕ) → Pinged f b g → IsPositionAnswered f.core b g
answered_ping f b g p = let d : p.ping.durable ≡ b = p.durable in inr (p.node, record { it = p.ping; mem = p.mem; is = (p.gen, omega arith) })
