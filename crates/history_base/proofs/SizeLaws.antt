-- The sizes that a run's history tells of a node are those of its part.
use Rattle.std.proofs.Common.{ℕ, ◌≡◌, ◌+◌, ◌<◌, ◌≤◌, List, [], ◌∷◌, ◌++◌, length, length-append, map, arith, refl, sym, subst, ap, ◌∙◌}
use Rattle.std.specs.Prelude.{◌==◌, Bool, true, false, cond, ltb, if◌then◌else◌, Option, Some, None, slice_get, unwrap_or}
use Rattle.std.specs.declared.snapshot.Snapshot.{Snapshot}
use Rattle.std.proofs.lemmas.Bool.{le-ltb}
use Rattle.std.proofs.lemmas.Bool.Decides.{Decides-eqb, Decides-ltb}
use Rattle.std.proofs.lemmas.List.{length-map}
use Rattle.std.proofs.lemmas.Option.{none-some, slice_get_past, slice_get_within}
use Rattle.cdb_values.specs.declared.replies.Reply.{Reply}
use Rattle.cdb_values.specs.declared.tables.TableDef.{TableDef}
use Rattle.cluster_consensus.specs.Events.{NodeEvent, change}
use Rattle.cluster_consensus.specs.Facts.{Claim, Own, World, blank}
use Rattle.cluster_consensus.specs.Histories.{happens}
use Rattle.cluster_consensus.proofs.Kept.{self_row}
use Rattle.actor_trace.specs.History.{entries_of}
use Rattle.cluster_events.proofs.LineLists.{append_assoc}
use Rattle.cluster_steps.proofs.StepLaws.{idle}
use Rattle.cluster_events.specs.Guards.{IsActedBy, IsLegalHistory, MayDo}
use Rattle.cluster_events.specs.Parts.{ActorEvent, part, field}
use Rattle.cluster_events.specs.Settings.{Setting}
use Rattle.cluster_requests.specs.KeptEntries.{KeptEntry, plain}
use Rattle.cluster_steps.specs.Guards.{AreLegalSteps, ComesUpWith, IsExact, IsLogFound, MayTakeStep}
use Rattle.cluster_steps.specs.Named.{back_append, kept_over, log_named, named, named_reply, named_settled, named_up, reply_in, steps, world}
use Rattle.cluster_steps.specs.declared.events.Event.{Event}
use Rattle.cluster_steps.specs.declared.events.Event.TheVariants as event
use Rattle.cluster_steps.specs.declared.events.Woken.{Woken}
use Rattle.cluster_steps.specs.declared.events.Woken.TheVariants as woken
use Rattle.cluster_steps.proofs.FoundLaws.{found_ship}
use Rattle.phys_log.specs.declared.entries.CommitId.{CommitId}
use Rattle.phys_log.specs.declared.entries.Entry.{Entry}
use Rattle.phys_log.specs.declared.requests.Decision.{Decision}
use Rattle.phys_log.specs.declared.requests.Decision.TheVariants as decision
use Rattle.report_laws.specs.Work.{WorkItem, Does, Lone}
use Rattle.history_base.specs.declared.sizes.Size.{Size}
use Rattle.history_base.specs.Sizes.{Sizes, length_at, lengths_with, no_sizes, once_more_up, size, sized_by, sizes_of, up_lengths, up_with, with_accepted, with_led, with_log, woken_with}

-- claims by their lengths, the first one first
abbrev pub sized : List (Claim KeptEntry) → List Size
sized [] = []
sized (c ∷ cs) = sized cs ++ size c.gen (length c.log) ∷ []

-- the sizes of a node's part
pub record IsSizeOf (o : Own KeptEntry) (t : Sizes) : Type 0 where
  pub accepted : t.accepted ≡ o.accepted
  pub length : t.length ≡ length o.log
  pub accepts : t.accepts ≡ sized o.accepts
  pub leads : t.leads ≡ sized o.leads

-- one part changes only what has no size
pub record IsOfSameSize (o p : Own KeptEntry) : Type 0 where
  pub accepted : p.accepted ≡ o.accepted
  pub log : p.log ≡ o.log
  pub accepts : p.accepts ≡ o.accepts
  pub leads : p.leads ≡ o.leads

same_size : (o p : Own KeptEntry) (t : Sizes) → IsOfSameSize o p → IsSizeOf o t → IsSizeOf p t
same_size o p t s is = record {
  accepted = is.accepted ∙ sym s.accepted;
  length = is.length ∙ ap length (sym s.log);
  accepts = is.accepts ∙ ap sized (sym s.accepts);
  leads = is.leads ∙ ap sized (sym s.leads);
}

no_change : (o : Own KeptEntry) → IsOfSameSize o o
no_change o = record { accepted = refl; log = refl; accepts = refl; leads = refl }

equal_parts : (o p : Own KeptEntry) → p ≡ o → IsOfSameSize o p
equal_parts o p e = subst (λ (q : Own KeptEntry). IsOfSameSize o q) (sym e) (no_change o)

-- a log more that was accepted
more_sized : (xs : List Size) (cs : List (Claim KeptEntry)) (c : Claim KeptEntry) (g l : ℕ) → xs ≡ sized cs → g ≡ c.gen → l ≡ length c.log → xs ++ size g l ∷ [] ≡ sized (c ∷ cs)
more_sized xs cs c g l e f k = ap (λ (ys : List Size). ys ++ size g l ∷ []) e ∙ ap (λ (s : Size). sized cs ++ s ∷ []) (cc (f, k))

-- how a node comes up, in which the event of the core leaves this part
took_size : (o p : Own KeptEntry) (t : Sizes) (c : Claim KeptEntry) (g l : ℕ) → IsSizeOf o t → p.accepts ≡ c ∷ o.accepts → p.leads ≡ o.leads → c.gen ≡ p.accepted → c.log ≡ p.log → p.accepted ≡ g → l ≡ length p.log → IsSizeOf p (with_accepted t g l)
took_size o p t c g l is all led gen log same long = record {
  accepted = sym same;
  length = long;
  accepts = more_sized t.accepts o.accepts c g l is.accepts (sym same ∙ sym gen) (long ∙ ap length (sym log)) ∙ ap sized (sym all);
  leads = is.leads ∙ ap sized (sym led);
}

led_size : (o p : Own KeptEntry) (t : Sizes) (c : Claim KeptEntry) (g l : ℕ) → IsSizeOf o t → p.accepts ≡ c ∷ o.accepts → p.leads ≡ c ∷ o.leads → c.gen ≡ p.accepted → c.log ≡ p.log → p.accepted ≡ g → l ≡ length p.log → IsSizeOf p (with_led t g l)
led_size o p t c g l is all led gen log same long = record {
  accepted = sym same;
  length = long;
  accepts = more_sized t.accepts o.accepts c g l is.accepts (sym same ∙ sym gen) (long ∙ ap length (sym log)) ∙ ap sized (sym all);
  leads = more_sized t.leads o.leads c g l is.leads (sym same ∙ sym gen) (long ∙ ap length (sym log)) ∙ ap sized (sym led);
}

kept_size : (o p : Own KeptEntry) (t : Sizes) (g l : ℕ) → IsSizeOf o t → p.accepts ≡ o.accepts → p.leads ≡ o.leads → p.accepted ≡ g → l ≡ length p.log → IsSizeOf p (with_log t g l)
kept_size o p t g l is all led same long = record { accepted = sym same; length = long; accepts = is.accepts ∙ ap sized (sym all); leads = is.leads ∙ ap sized (sym led) }

once_more : (p : Own KeptEntry) (t : Sizes) → IsSizeOf p t → IsSizeOf p (once_more_up t)
once_more p t is = record { accepted = is.accepted; length = is.length; accepts = is.accepts; leads = is.leads }

its_length : (p : Own KeptEntry) (promised accepted : ℕ) (entries : List Entry) → ComesUpWith p promised accepted entries → length entries ≡ length p.log
its_length p promised accepted entries up = ap length (sym up.log) ∙ length-map p.log plain

took_up : (o : Own KeptEntry) (t : Sizes) (i : ℕ) (b : Bool) (promised accepted : ℕ) (entries : List Entry) (l : List KeptEntry) → IsSizeOf o t → ComesUpWith (change i o (cond b (NodeEvent.BackGrow l) (NodeEvent.BackTake accepted l))) promised accepted entries
    → IsSizeOf (change i o (cond b (NodeEvent.BackGrow l) (NodeEvent.BackTake accepted l))) (with_accepted t accepted (length entries))
took_up o t i true promised accepted entries l is up =
    let p : Own KeptEntry = change i o (NodeEvent.BackGrow l) in
    took_size o p t (record { gen = o.accepted; log = l }) accepted (length entries) is refl refl refl refl up.acceptance (its_length p promised accepted entries up)
took_up o t i false promised accepted entries l is up =
    let p : Own KeptEntry = change i o (NodeEvent.BackTake accepted l) in
    took_size o p t (record { gen = accepted; log = l }) accepted (length entries) is refl refl refl refl up.acceptance (its_length p promised accepted entries up)

appended_up : (o : Own KeptEntry) (t : Sizes) (i : ℕ) (promised accepted : ℕ) (entries : List Entry) (e : Option Entry) → IsSizeOf o t → ComesUpWith (change i o (back_append promised o.log e)) promised accepted entries
    → IsSizeOf (change i o (back_append promised o.log e)) (if ltb t.length (length entries) then with_accepted t accepted (length entries) else with_log t accepted (length entries))
appended_up o t i promised accepted entries None is up =
    let p : Own KeptEntry = change i o (NodeEvent.Back promised) in
    let long : length entries ≡ length o.log = its_length p promised accepted entries up in
    let same : t.length ≡ length o.log = is.length in
    let not_so : ltb t.length (length entries) ≡ false = le-ltb t.length (length entries) (omega arith) in
    subst (λ (b : Bool). IsSizeOf p (if b then with_accepted t accepted (length entries) else with_log t accepted (length entries))) (sym not_so)
    (kept_size o p t accepted (length entries) is refl refl up.acceptance long)
appended_up o t i promised accepted entries (Some e) is up =
    let k : KeptEntry = kept_over o.log e in
    let p : Own KeptEntry = change i o (NodeEvent.BackAppend k) in
    let long : length entries ≡ length (o.log ++ k ∷ []) = its_length p promised accepted entries up in
    let more : length (o.log ++ k ∷ []) ≡ length o.log + 1 = length-append o.log (k ∷ []) in
    let same : t.length ≡ length o.log = is.length in
    let so : ltb t.length (length entries) ≡ true = (Decides-ltb t.length (length entries)).1 (omega arith) in
    subst (λ (b : Bool). IsSizeOf p (if b then with_accepted t accepted (length entries) else with_log t accepted (length entries))) (sym so)
    (took_size o p t (record { gen = o.accepted; log = o.log ++ k ∷ [] }) accepted (length entries) is refl refl refl refl up.acceptance long)

comes_up : (o : Own KeptEntry) (t : Sizes) (w : World KeptEntry) (n i : ℕ) (how : Woken) (promised accepted : ℕ) (entries : List Entry) → IsSizeOf o t → ComesUpWith (change i o (named_up n w o how promised accepted entries)) promised accepted entries
    → IsSizeOf (change i o (named_up n w o how promised accepted entries)) (woken_with t how accepted (length entries))
comes_up o t w n i (woken.First rows) promised accepted entries is up =
    let p : Own KeptEntry = change i o (named_up n w o (woken.First rows) promised accepted entries) in
    kept_size o p t accepted (length entries) is refl refl up.acceptance (its_length p promised accepted entries up)
comes_up o t w n i woken.AsLeft promised accepted entries is up =
    let p : Own KeptEntry = change i o (NodeEvent.Back promised) in
    kept_size o p t accepted (length entries) is refl refl up.acceptance (its_length p promised accepted entries up)
comes_up o t w n i woken.Led promised accepted entries is up =
    let p : Own KeptEntry = change i o NodeEvent.BackLead in
    led_size o p t (record { gen = o.promised; log = o.log }) accepted (length entries) is refl refl refl refl up.acceptance (its_length p promised accepted entries up)
comes_up o t w n i woken.Took promised accepted entries is up = took_up o t i (accepted == o.accepted) promised accepted entries (log_named n w accepted (length entries)) is up
comes_up o t w n i woken.Appended promised accepted entries is up = appended_up o t i promised accepted entries (slice_get entries (length o.log)) is up

-- a node takes a log
takes : (o : Own KeptEntry) (t : Sizes) (i : ℕ) (b : Bool) (g l : ℕ) (log : List KeptEntry) → IsSizeOf o t → (g == o.accepted) ≡ b → length log ≡ l → IsSizeOf (change i o (cond b (NodeEvent.Grow log) (NodeEvent.Take g log))) (with_accepted t g l)
takes o t i true g l log is e long =
    let same : g ≡ o.accepted = (Decides-eqb g o.accepted).0 e in
    took_size o (change i o (NodeEvent.Grow log)) t (record { gen = o.accepted; log = log }) g l is refl refl refl refl (sym same) (sym long)
takes o t i false g l log is e long = took_size o (change i o (NodeEvent.Take g log)) t (record { gen = g; log = log }) g l is refl refl refl refl refl (sym long)

learns : (o : Own KeptEntry) (t : Sizes) (i : ℕ) (b : Bool) (l : ℕ) → IsSizeOf o t → IsSizeOf (change i o (cond b (NodeEvent.LearnLead l) (NodeEvent.LearnFollow l))) t
learns o t i true l is = same_size o (change i o (NodeEvent.LearnLead l)) t (record { accepted = refl; log = refl; accepts = refl; leads = refl }) is
learns o t i false l is = same_size o (change i o (NodeEvent.LearnFollow l)) t (record { accepted = refl; log = refl; accepts = refl; leads = refl }) is

-- an event of the core
of_core : (w : World KeptEntry) (i : ℕ) (c : NodeEvent KeptEntry) (t : Sizes) → IsSizeOf (change i (w.nodes i) c) t → IsSizeOf ((happens w i c).nodes i) t
of_core w i c t is = subst (λ (o : Own KeptEntry). IsSizeOf o t) (sym (self_row w i c)) is

-- that changes no size
of_calm : (w : World KeptEntry) (i : ℕ) (c : NodeEvent KeptEntry) (t : Sizes) → IsOfSameSize (w.nodes i) (change i (w.nodes i) c) → IsSizeOf (w.nodes i) t → IsSizeOf ((happens w i c).nodes i) t
of_calm w i c t s is = of_core w i c t (same_size (w.nodes i) (change i (w.nodes i) c) t s is)

replied : (g : List (ℕ × ActorEvent)) (i : ℕ) (items : List WorkItem) (a : Reply) (t : Sizes) → IsSizeOf ((field g).core.nodes i) t → IsSizeOf ((field ((i, named_reply items a) ∷ g)).core.nodes i) t
replied g i [] a t is = is
replied g i (Lone r ∷ items) a t is = is
replied g i (Does d ∷ items) a t is = is

settled : (g : List (ℕ × ActorEvent)) (i : ℕ) (tables : List TableDef) (id : CommitId) (d : Decision) (t : Sizes) → IsSizeOf ((field g).core.nodes i) t → IsSizeOf ((field ((i, named_settled tables id d) ∷ g)).core.nodes i) t
settled g i tables id (decision.Repeat position) t is = is
settled g i tables id _ t is = is

-- the length with which a node comes up is the one that is noted
abbrev pub IsNoted : List ℕ → Sizes → Event → Type 0
IsNoted lengths t (event.Up how promised accepted entries) = length_at lengths t.ups ≡ length entries.value
IsNoted lengths t _ = Unit {0}

own_sized : (G : Setting) (g : List (ℕ × ActorEvent)) (i : ℕ) (lengths : List ℕ) (e : Event) (t : Sizes) → IsExact G g i e → IsNoted lengths t e → IsSizeOf ((field g).core.nodes i) t
    → IsSizeOf ((field ((i, named G g i e) ∷ g)).core.nodes i) (sized_by lengths t e)
own_sized G g i lengths (event.Up how promised accepted entries) t exact noted is =
    let w : World KeptEntry = (field g).core in
    let c : NodeEvent KeptEntry = named_up G.nodes w (w.nodes i) how promised accepted entries.value in
    subst (λ l. IsSizeOf ((happens w i c).nodes i) (up_with t how accepted l)) (sym noted)
    (once_more ((happens w i c).nodes i) (woken_with t how accepted (length entries.value)) (of_core w i c (woken_with t how accepted (length entries.value)) (comes_up (w.nodes i) t w G.nodes i how promised accepted entries.value is exact.1)))
own_sized G g i lengths (event.Lead generation) t exact noted is =
    let w : World KeptEntry = (field g).core in
    let o : Own KeptEntry = w.nodes i in
    of_core w i NodeEvent.Lead (with_led t generation t.length) (led_size o (change i o NodeEvent.Lead) t (record { gen = o.promised; log = o.log }) generation t.length is refl refl refl refl (sym exact) is.length)
own_sized G g i lengths (event.Take generation l) t exact noted is =
    let w : World KeptEntry = (field g).core in
    let o : Own KeptEntry = w.nodes i in
    let log : List KeptEntry = log_named G.nodes w generation l in
    let f = found_ship w generation l G.nodes log exact in
    of_core w i (cond (generation == o.accepted) (NodeEvent.Grow log) (NodeEvent.Take generation log)) (with_accepted t generation l) (takes o t i (generation == o.accepted) generation l log is refl f.3.is.2)
own_sized G g i lengths (event.Append next) t exact noted is =
    let w : World KeptEntry = (field g).core in
    let o : Own KeptEntry = w.nodes i in
    let k : KeptEntry = kept_over o.log next.value in
    let more : length (o.log ++ k ∷ []) ≡ length o.log + 1 = length-append o.log (k ∷ []) in
    let same : t.length ≡ length o.log = is.length in
    let long : t.length + 1 ≡ length (o.log ++ k ∷ []) = omega arith in
    of_core w i (NodeEvent.Append k) (with_accepted t t.accepted (t.length + 1)) (took_size o (change i o (NodeEvent.Append k)) t (record { gen = o.accepted; log = o.log ++ k ∷ [] }) t.accepted (t.length + 1) is refl refl refl refl (sym is.accepted) long)
own_sized G g i lengths (event.Down true) t exact noted is = of_calm (field g).core i NodeEvent.Down t (record { accepted = refl; log = refl; accepts = refl; leads = refl }) is
own_sized G g i lengths (event.Down false) t exact noted is = of_calm (field g).core i NodeEvent.Down t (record { accepted = refl; log = refl; accepts = refl; leads = refl }) is
own_sized G g i lengths (event.Stand generation) t exact noted is = of_calm (field g).core i (NodeEvent.Stand generation) t (record { accepted = refl; log = refl; accepts = refl; leads = refl }) is
own_sized G g i lengths (event.Grant generation to) t exact noted is = of_calm (field g).core i (NodeEvent.Grants generation to) t (record { accepted = refl; log = refl; accepts = refl; leads = refl }) is
own_sized G g i lengths (event.Admit node promised accepted) t exact noted is = of_calm (field g).core i (NodeEvent.Admits node promised accepted) t (record { accepted = refl; log = refl; accepts = refl; leads = refl }) is
own_sized G g i lengths (event.Learn l) t exact noted is =
    let w : World KeptEntry = (field g).core in
    of_core w i (cond (w.nodes i).leading (NodeEvent.LearnLead l) (NodeEvent.LearnFollow l)) t (learns (w.nodes i) t i (w.nodes i).leading l is)
own_sized G g i lengths (event.Probe ask) t exact noted is = of_calm (field g).core i (NodeEvent.Probe ask) t (record { accepted = refl; log = refl; accepts = refl; leads = refl }) is
own_sized G g i lengths (event.Confirm ask generation) t exact noted is = of_calm (field g).core i (NodeEvent.Confirm ask generation) t (record { accepted = refl; log = refl; accepts = refl; leads = refl }) is
own_sized G g i lengths event.Ask t exact noted is = of_calm (field g).core i (NodeEvent.Asks (length g)) t (record { accepted = refl; log = refl; accepts = refl; leads = refl }) is
own_sized G g i lengths (event.Settle id d) t exact noted is = settled g i G.tables id.value d.value t is
own_sized G g i lengths (event.Reply told) t exact noted is = replied g i (part G i g).left (reply_in told) t is
own_sized G g i lengths _ t exact noted is = is

-- the lengths behind those of a history stand behind them
at_seam : (ls more : List ℕ) (l : ℕ) → length_at (ls ++ l ∷ more) (length ls) ≡ l
at_seam [] more l = refl
at_seam (x ∷ ls) more l = at_seam ls more l

noted_next : (k : ℕ) (h : List (ℕ × Event)) (lengths more : List ℕ) (t : Sizes) (e : Event) → lengths ≡ lengths_with (up_lengths k h) e ++ more → t.ups ≡ length (up_lengths k h) → IsNoted lengths t e
noted_next k h lengths more t (event.Up how promised accepted entries) all ups =
    let ls : List ℕ = up_lengths k h in
    let l : ℕ = length entries.value in
    ap (λ n. length_at lengths n) ups ∙ (ap (λ (xs : List ℕ). length_at xs (length ls)) (all ∙ append_assoc ls (l ∷ []) more) ∙ at_seam ls more l)
noted_next k h lengths more t _ all ups = tt

ups_after : (k : ℕ) (h : List (ℕ × Event)) (lengths : List ℕ) (t : Sizes) (e : Event) → t.ups ≡ length (up_lengths k h) → (sized_by lengths t e).ups ≡ length (lengths_with (up_lengths k h) e)
ups_after k h lengths t (event.Up how promised accepted entries) ups =
    let a : length (up_lengths k h ++ length entries.value ∷ []) ≡ length (up_lengths k h) + 1 = length-append (up_lengths k h) (length entries.value ∷ []) in
    woken_ups how ∙ (ap (λ n. n + 1) ups ∙ sym a)
  where
    woken_ups : (w : Woken) → (up_with t w accepted (length_at lengths t.ups)).ups ≡ t.ups + 1
    woken_ups (woken.First rows) = refl
    woken_ups woken.AsLeft = refl
    woken_ups woken.Led = refl
    woken_ups woken.Took = refl
    woken_ups woken.Appended = by (ltb t.length (length_at lengths t.ups))
      where
        by : (b : Bool) → (once_more_up (if b then with_accepted t accepted (length_at lengths t.ups) else with_log t accepted (length_at lengths t.ups))).ups ≡ t.ups + 1
        by true = refl
        by false = refl
ups_after k h lengths t (event.Lead generation) ups = ups
ups_after k h lengths t (event.Take generation l) ups = ups
ups_after k h lengths t (event.Append next) ups = ups
ups_after k h lengths t _ ups = ups

-- lengths that are more than an event's are more than those before it
earlier_lengths : (k : ℕ) (h : List (ℕ × Event)) (lengths more : List ℕ) (e : Event) → lengths ≡ lengths_with (up_lengths k h) e ++ more → (rest : List ℕ) × (lengths ≡ up_lengths k h ++ rest)
earlier_lengths k h lengths more (event.Up how promised accepted entries) all = (length entries.value ∷ more, all ∙ append_assoc (up_lengths k h) (length entries.value ∷ []) more)
earlier_lengths k h lengths more _ all = (more, all)

-- a node's sizes, and how often it came up
pub record IsSized (G : Setting) (h : List (ℕ × Event)) (k : ℕ) (lengths : List ℕ) (t : Sizes) : Type 0 where
  pub of_part : IsSizeOf ((world G h).nodes k) t
  pub ups : t.ups ≡ length (up_lengths k h)

pub sizes_are : (G : Setting) (h : List (ℕ × Event)) (k : ℕ) (lengths more : List ℕ) → AreLegalSteps G h → lengths ≡ up_lengths k h ++ more → IsSized G h k lengths (sizes_of k lengths h)
sizes_are G [] k lengths more legal all = record { of_part = record { accepted = refl; length = refl; accepts = refl; leads = refl }; ups = refl }
sizes_are G (x ∷ h) k lengths more legal all = go (k == x.0) refl all (λ rest. sizes_are G h k lengths rest legal.1)
  where
    g : List (ℕ × ActorEvent)
    g = steps G h

    go : (b : Bool) → (k == x.0) ≡ b → lengths ≡ cond b (lengths_with (up_lengths k h) x.1) (up_lengths k h) ++ more → ((rest : List ℕ) → lengths ≡ up_lengths k h ++ rest → IsSized G h k lengths (sizes_of k lengths h))
        → IsSized G (x ∷ h) k lengths (cond b (sized_by lengths (sizes_of k lengths h) x.1) (sizes_of k lengths h))
    go false ne all again =
        let was = again more all in
        let own : entries_of k (x ∷ h) ≡ entries_of k h = ap (λ (b : Bool). cond b (entries_of k h ++ (length h, x.1) ∷ []) (entries_of k h)) ne in
        record {
          of_part = subst (λ (o : Own KeptEntry). IsSizeOf o (sizes_of k lengths h)) (sym (idle G k (x ∷ []) h own)) was.of_part;
          ups = was.ups ∙ ap (λ (b : Bool). length (cond b (lengths_with (up_lengths k h) x.1) (up_lengths k h))) (sym ne);
        }
    go true eq all again =
        let e = earlier_lengths k h lengths more x.1 all in
        let was = again e.0 e.1 in
        let same : x.0 ≡ k = sym ((Decides-eqb k x.0).0 eq) in
        let t : Sizes = sizes_of k lengths h in
        let exact : IsExact G g k x.1 = subst (λ i. IsExact G g i x.1) same legal.0.exact in
        record {
          of_part = subst (λ i. IsSizeOf ((field ((i, named G g i x.1) ∷ g)).core.nodes k) (sized_by lengths t x.1)) (sym same) (own_sized G g k lengths x.1 t exact (noted_next k h lengths more t x.1 all was.ups) was.of_part);
          ups = ups_after k h lengths t x.1 was.ups ∙ ap (λ (b : Bool). length (cond b (lengths_with (up_lengths k h) x.1) (up_lengths k h))) (sym eq);
        }
