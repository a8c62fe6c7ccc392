-- Turn by turn, what is done comes behind what was done.
use Rattle.std.proofs.Common.{◌≡◌, ℕ, zero, suc, ◌<◌, ◌≤◌, List, [], ◌∷◌, length, refl, sym, subst, ap, ◌∙◌, arith, get_or, set}
use Rattle.std.specs.Prelude.{◌==◌, Bool, true, false, if◌then◌else◌}
use Rattle.std.proofs.lemmas.Bool.Decides.{Decides-eqb}
use Rattle.actor_trace.specs.Actors.{Knows}
use Rattle.actor_trace.specs.History.{entries_of}
use Rattle.actor_trace.specs.Lists.{Begins}
use Rattle.actor_trace.proofs.Entries.{not_eq}
use Rattle.actor_trace.proofs.Totals.{eq_self}
use Rattle.cluster_events.specs.Settings.{Setting}
use Rattle.cluster_steps.specs.declared.events.Event.{Event}
use Rattle.node_state.specs.Stores.{Stored}
use Rattle.node_state.proofs.CallLaws.{before_then, begins_on}
use Rattle.trace_order.specs.Done.{Done}
use Rattle.trace_order.specs.Turns.{IsSoFar}
use Rattle.trace_order.proofs.TurnLaws.{so_far_more}
use Rattle.node_starts.specs.Order.{AllGoOn, GoesOn, all_made, made_by, with_made}
use Rattle.node_state.specs.Calls.{IsAsBefore}
use Rattle.node_state.specs.Stores.{held_of}
use Rattle.node_starts.specs.News.{IsNew}
use Rattle.node_starts.specs.Turns.{Informs, Learns}
use Rattle.node_starts.proofs.StepLaws.{learns_begins, learns_on, new_still, nothing_made}

with_itself : (made : ℕ → List (ℕ × Event)) (k : ℕ) (xs : List (ℕ × Event)) → with_made made k xs k ≡ xs
with_itself made k xs = ap (λ (b : Bool). if b then xs else made k) (eq_self k)

with_other : (made : ℕ → List (ℕ × Event)) (k j : ℕ) (xs : List (ℕ × Event)) → (j == k) ≡ false → with_made made k xs j ≡ made j
with_other made k j xs other = ap (λ (b : Bool). if b then xs else made j) other

-- the same lists, told otherwise
so_far_as : (n size : ℕ) (made now : ℕ → List (ℕ × Event)) (done : List (Done Event)) → ((j : ℕ) → now j ≡ made j) → IsSoFar n size made done → IsSoFar n size now done
so_far_as n size made now done same is = record { rising = is.rising; under = is.under; below = is.below; steps = λ j. same j ∙ is.steps j }

one_turn : (n k : ℕ) (last old new : List (ℕ × Event)) (made : ℕ → List (ℕ × Event)) (done : List (Done Event)) → k < n → IsSoFar n (length last) made done → Begins last old → Begins old new → made k ≡ entries_of k old
    → (more : List (Done Event)) × IsSoFar n (length new) (with_made made k (entries_of k new)) more
one_turn n k last old new made done low is knows adds own =
    so_far_more n k last old new made (with_made made k (entries_of k new)) done low is knows adds own (with_itself made k (entries_of k new)) (λ j other. with_other made k j (entries_of k new) other)

begins_itself : {A : Type 0} (xs : List A) → Begins xs xs
begins_itself xs = record { later = []; whole = refl }

-- the steps of a turn: the operator did something before the node knew it, or nothing; the node did something; the operator learned it
pub record TurnSteps (k : ℕ) (o mid now n informed later : Knows Event) : Type 0 where
  pub low : 0 < k
  pub own : o.made ≡ entries_of 0 o.seen
  pub mid_own : mid.made ≡ entries_of 0 mid.seen
  pub did : Begins o.seen mid.seen
  pub idle : n.made ≡ []
  pub informed_idle : entries_of k informed.seen ≡ []
  pub told : Begins mid.seen informed.seen
  pub went : Begins informed.seen later.seen
  pub later_own : later.made ≡ entries_of k later.seen
  pub known : Begins later.seen now.seen
  pub now_own : now.made ≡ entries_of 0 now.seen
  pub rested : entries_of 0 now.seen ≡ entries_of 0 mid.seen

zero_not : (k : ℕ) → 0 < k → (0 == k) ≡ false
zero_not k low = not_eq 0 k (λ e. let z : 0 ≡ k = e in omega arith)

not_zero : (k : ℕ) → 0 < k → (k == 0) ≡ false
not_zero k low = not_eq k 0 (λ e. let z : k ≡ 0 = e in omega arith)

pub turn_goes : (k : ℕ) (o mid now n informed later : Knows Event) → TurnSteps k o mid now n informed later → GoesOn k o n now later
turn_goes k o mid now n informed later t = record { goes = λ actors made done low is zero_is k_is. steps actors made done low is zero_is k_is }
  where
    steps : (actors : ℕ) (made : ℕ → List (ℕ × Event)) (done : List (Done Event)) → k < actors → IsSoFar actors (length o.seen) made done → made 0 ≡ o.made → made k ≡ n.made
        → (more : List (Done Event)) × IsSoFar actors (length now.seen) (with_made (with_made made k later.made) 0 now.made) more
    steps actors made done low is zero_is k_is =
        let first = one_turn actors 0 o.seen o.seen mid.seen made done (omega arith) is (begins_itself o.seen) t.did (zero_is ∙ t.own) in
        let made_one : ℕ → List (ℕ × Event) = with_made made 0 (entries_of 0 mid.seen) in
        let one_k : made_one k ≡ entries_of k informed.seen = with_other made 0 k (entries_of 0 mid.seen) (not_zero k t.low) ∙ (k_is ∙ (t.idle ∙ sym t.informed_idle)) in
        let second = one_turn actors k mid.seen informed.seen later.seen made_one first.0 low first.1 t.told t.went one_k in
        let made_two : ℕ → List (ℕ × Event) = with_made made_one k (entries_of k later.seen) in
        let two_zero : made_two 0 ≡ entries_of 0 now.seen = with_other made_one k 0 (entries_of k later.seen) (zero_not k t.low) ∙ (with_itself made 0 (entries_of 0 mid.seen) ∙ sym t.rested) in
        let third = one_turn actors 0 later.seen now.seen now.seen made_two second.0 (omega arith) second.1 t.known (begins_itself now.seen) two_zero in
        (third.0, so_far_as actors (length now.seen) (with_made made_two 0 (entries_of 0 now.seen)) (with_made (with_made made k later.made) 0 now.made) third.0 (λ j. same made j) third.1)
      where
        same : (made : ℕ → List (ℕ × Event)) (j : ℕ) → with_made (with_made made k later.made) 0 now.made j ≡ with_made (with_made (with_made made 0 (entries_of 0 mid.seen)) k (entries_of k later.seen)) 0 (entries_of 0 now.seen) j
        same made j = at (j == 0) refl (j == k) refl
          where
            at : (b : Bool) → (j == 0) ≡ b → (c : Bool) → (j == k) ≡ c
                → with_made (with_made made k later.made) 0 now.made j ≡ with_made (with_made (with_made made 0 (entries_of 0 mid.seen)) k (entries_of k later.seen)) 0 (entries_of 0 now.seen) j
            at true z c e = ap (λ (b : Bool). if b then now.made else with_made made k later.made j) z ∙ (t.now_own ∙ sym (ap (λ (b : Bool). if b then entries_of 0 now.seen else with_made (with_made made 0 (entries_of 0 mid.seen)) k (entries_of k later.seen) j) z))
            at false z true e =
                with_other (with_made made k later.made) 0 j now.made z
                ∙ (ap (λ (b : Bool). if b then later.made else made j) e
                ∙ (t.later_own
                ∙ (sym (ap (λ (b : Bool). if b then entries_of k later.seen else with_made made 0 (entries_of 0 mid.seen) j) e)
                ∙ sym (with_other (with_made (with_made made 0 (entries_of 0 mid.seen)) k (entries_of k later.seen)) 0 j (entries_of 0 now.seen) z))))
            at false z false e =
                with_other (with_made made k later.made) 0 j now.made z
                ∙ (with_other made k j later.made e
                ∙ (sym (with_other made 0 j (entries_of 0 mid.seen) z)
                ∙ (sym (with_other (with_made made 0 (entries_of 0 mid.seen)) k j (entries_of k later.seen) e)
                ∙ sym (with_other (with_made (with_made made 0 (entries_of 0 mid.seen)) k (entries_of k later.seen)) 0 j (entries_of 0 now.seen) z))))

-- a node's turn has these steps
pub turn_steps : (G : Setting) (o mid told now : Knows Event) (n r m w v : Stored) → o.number ≡ 0 → o.made ≡ entries_of o.number o.seen → mid.number ≡ 0 → Begins o.seen mid.seen → IsNew n.vote.node n → IsAsBefore (held_of n) (held_of r)
    → Informs G mid r told m → Begins m.actor.seen w.actor.seen → w.actor.number ≡ m.actor.number → Learns G told w now v → TurnSteps n.vote.node o mid now n.actor m.actor v.actor
turn_steps G o mid told now n r m w v number own mid_number did new reserved known went w_number learned =
    let same : IsAsBefore (held_of n) (held_of m) = before_then (held_of n) (held_of r) (held_of m) reserved known.same in
    let still : IsNew n.vote.node m = new_still n.vote.node n m new same in
    let low : 1 ≤ m.vote.node = known.own.node.low in
    let node_is : m.vote.node ≡ n.vote.node = still.number in
    let both = learns_on G mid told now known.learned learned.learned in
    let later_is : v.actor.number ≡ n.vote.node = learned.same.did.number ∙ (w_number ∙ (sym known.own.number_is ∙ still.number)) in
    record {
      low = (let l : 0 < n.vote.node = omega arith in l);
      own = own ∙ ap (λ i. entries_of i o.seen) number;
      mid_own = known.was ∙ ap (λ i. entries_of i mid.seen) mid_number;
      did = did;
      idle = new.made;
      informed_idle = subst (λ i. entries_of i m.actor.seen ≡ []) still.number (nothing_made G m n.vote.node known.own known.made still);
      told = begins_on (learns_begins G mid told known.learned) known.knows;
      went = begins_on went learned.same.did.more;
      later_own = learned.made ∙ ap (λ i. entries_of i v.actor.seen) later_is;
      known = learned.knows;
      now_own = learned.own ∙ ap (λ i. entries_of i now.seen) (learned.learned.number ∙ (known.learned.number ∙ mid_number));
      rested = subst (λ i. entries_of i now.seen ≡ entries_of i mid.seen) mid_number (ap (λ l. entries_of mid.number l) both.rests.whole ∙ both.rests.none);
    }

-- the lists of all actors, where one node did something
made_set : (ns : List Stored) (others : ℕ → List (ℕ × Event)) (i : ℕ) (n : Stored) → i < length ns → made_by (set ns i n) others i ≡ n.actor.made
made_set [] others i n low = absurd (omega arith)
made_set (m ∷ ns) others zero n low = refl
made_set (m ∷ ns) others (suc i) n low = made_set ns (λ j. others (suc j)) i n (let l : length (m ∷ ns) ≡ suc (length ns) = refl in omega arith)

-- numbers that differ, one more of each
suc_else : (j i : ℕ) → (j == i) ≡ false → (suc j == suc i) ≡ false
suc_else j i e = not_eq (suc j) (suc i) (λ q. absurd (cc (e, (Decides-eqb j i).1 (let z : suc j ≡ suc i = q in let w : j ≡ i = omega arith in w))))

suc_back : (j i : ℕ) → (suc j == suc i) ≡ false → (j == i) ≡ false
suc_back j i e = not_eq j i (λ q. absurd (cc (e, (Decides-eqb (suc j) (suc i)).1 (ap suc q))))

made_else : (ns : List Stored) (others : ℕ → List (ℕ × Event)) (i j : ℕ) (n : Stored) → (j == i) ≡ false → made_by (set ns i n) others j ≡ made_by ns others j
made_else [] others i j n other = refl
made_else (m ∷ ns) others zero zero n other = absurd (let no_such : true ≡ false = other in cc)
made_else (m ∷ ns) others zero (suc j) n other = refl
made_else (m ∷ ns) others (suc i) zero n other = refl
made_else (m ∷ ns) others (suc i) (suc j) n other = made_else ns (λ l. others (suc l)) i j n (suc_back j i other)

-- one node more has had its turn
pub all_go_on : (first : Knows Event) (olds news : List Stored) (i : ℕ) (o now m : Knows Event) (n : Stored) → i < length news → length olds ≡ length news → ((others : ℕ → List (ℕ × Event)) → made_by news others i ≡ m.made)
    → AllGoOn first olds o news → GoesOn (suc i) o m now n.actor → AllGoOn first olds now (set news i n)
all_go_on first olds news i o now m n inside size place so_far turn = record { goes = λ actors others done low is. more actors others done low is }
  where
    same : (others : ℕ → List (ℕ × Event)) (j : ℕ) → all_made now (set news i n) others j ≡ with_made (with_made (all_made o news others) (suc i) n.actor.made) 0 now.made j
    same others zero = refl
    same others (suc j) = at (j == i) refl ∙ sym (with_other (with_made (all_made o news others) (suc i) n.actor.made) 0 (suc j) now.made (not_zero (suc j) (omega arith)))
      where
        at : (b : Bool) → (j == i) ≡ b → made_by (set news i n) (λ l. others (suc l)) j ≡ with_made (all_made o news others) (suc i) n.actor.made (suc j)
        at true e =
            let here : j ≡ i = (Decides-eqb j i).0 e in
            subst (λ l. made_by (set news i n) (λ k. others (suc k)) l ≡ with_made (all_made o news others) (suc i) n.actor.made (suc l)) (sym here)
            (made_set news (λ k. others (suc k)) i n inside ∙ sym (with_itself (all_made o news others) (suc i) n.actor.made))
        at false e = made_else news (λ l. others (suc l)) i j n e ∙ sym (with_other (all_made o news others) (suc i) (suc j) n.actor.made (suc_else j i e))

    more : (actors : ℕ) (others : ℕ → List (ℕ × Event)) (done : List (Done Event)) → length olds < actors → IsSoFar actors (length first.seen) (all_made first olds others) done
        → (later : List (Done Event)) × IsSoFar actors (length now.seen) (all_made now (set news i n) others) later
    more actors others done low is =
        let before = so_far.goes actors others done low is in
        let next = turn.goes actors (all_made o news others) before.0 (omega arith) before.1 refl (place (λ l. others (suc l))) in
        (next.0, so_far_as actors (length now.seen) (with_made (with_made (all_made o news others) (suc i) n.actor.made) 0 now.made) (all_made now (set news i n) others) next.0 (λ j. same others j) next.1)

pub none_yet : (o : Knows Event) (ns : List Stored) → AllGoOn o ns o ns
none_yet o ns = record { goes = λ actors others done low is. (done, is) }

-- what a node at a place did
pub made_there : (ns : List Stored) (others : ℕ → List (ℕ × Event)) (i : ℕ) (d : Stored) → i < length ns → made_by ns others i ≡ (get_or ns i d).actor.made
made_there [] others i d low = absurd (omega arith)
made_there (m ∷ ns) others zero d low = refl
made_there (m ∷ ns) others (suc i) d low = made_there ns (λ j. others (suc j)) i d (let l : length (m ∷ ns) ≡ suc (length ns) = refl in omega arith)

-- an actor that got room
pub goes_from : (o p : Knows Event) (ns : List Stored) (now : Knows Event) (after : List Stored) → p.seen ≡ o.seen → p.made ≡ o.made → AllGoOn p ns now after → AllGoOn o ns now after
goes_from o p ns now after seen made all = record { goes = λ actors others done low is. all.goes actors others done low (moved actors others done is) }
  where
    same : (others : ℕ → List (ℕ × Event)) (j : ℕ) → all_made p ns others j ≡ all_made o ns others j
    same others zero = made
    same others (suc j) = refl

    moved : (actors : ℕ) (others : ℕ → List (ℕ × Event)) (done : List (Done Event)) → IsSoFar actors (length o.seen) (all_made o ns others) done → IsSoFar actors (length p.seen) (all_made p ns others) done
    moved actors others done is = subst (λ l. IsSoFar actors (length l) (all_made p ns others) done) (sym seen) (so_far_as actors (length o.seen) (all_made o ns others) (all_made p ns others) done (λ j. same others j) is)
