-- A session begins each transaction once.
use Rattle.std.proofs.Common.{◌≡◌, ℕ, ◌<◌, ◌≤◌, List, [], ◌∷◌, arith, refl, ap, sym, subst, ◌∙◌}
use Rattle.std.specs.Prelude.{◌==◌, Bool, true, false, cond, Option, Some, None}
use Rattle.std.proofs.lemmas.Bool.Decides.{Decides-eqb}
use Rattle.core_lists.specs.Lists.{In, Each}
use Rattle.core_lists.specs.Lists.In.{here, there}
use Rattle.core_lists.proofs.Lists.{each_add, each_none, each_more, nothing}
use Rattle.cluster_consensus.proofs.Invariant.{Once}
use Rattle.report_laws.specs.Work.{Transaction, WorkItem, Does, Lone}
use Rattle.cdb_values.specs.declared.replies.Reply.{Reply}
use Rattle.cdb_values.specs.declared.replies.Reply.TheVariants as reply
use Rattle.cluster_events.specs.Settings.{Setting, work_of}
use Rattle.cluster_events.specs.Parts.{ActorEvent, Opened, Began, Part, head_number, rest_of, moves, part}
use Rattle.cluster_events.specs.Parts.ActorEvent.{Ask, Begun, Say, Note, Finish, Barrier, Fed, FedAgain}
use Rattle.cluster_events.specs.Guards.{IsAtTransaction, MayFinish, MayDo, IsLegalHistory, Rising}
use Rattle.cluster_answers.proofs.AskLaws.{none_some}

pub rising_above : (k : ℕ) (is : List WorkItem) (t : Transaction) → Rising k is → In (Does t) is → k < t.number
rising_above k [] t r m = absurd (nothing m)
rising_above k (Lone a ∷ is) t r (there m) = rising_above k is t r m
rising_above k (Does u ∷ is) t r here = r.0
rising_above k (Does u ∷ is) t r (there m) = let a = rising_above u.number is t r.1 m in let b = r.0 in omega arith

pub rising_once : (k : ℕ) (is : List WorkItem) (t u : Transaction) → Rising k is → In (Does t) is → In (Does u) is → t.number ≡ u.number → t ≡ u
rising_once k [] t u r m n e = absurd (nothing m)
rising_once k (Lone a ∷ is) t u r (there m) (there n) e = rising_once k is t u r m n e
rising_once k (Does x ∷ is) t u r here here e = refl
rising_once k (Does x ∷ is) t u r here (there n) e = absurd (let a = rising_above x.number is u r.1 n in omega arith)
rising_once k (Does x ∷ is) t u r (there m) here e = absurd (let a = rising_above x.number is t r.1 m in omega arith)
rising_once k (Does x ∷ is) t u r (there m) (there n) e = rising_once x.number is t u r.1 m n e

pub record Headed (p : Part) (o : Opened) : Type 0 where
  pub txn : Transaction
  pub others : List WorkItem
  pub is : p.left ≡ Does txn ∷ others
  pub most : Each (λ y. y.txn ≤ txn.number) p.begins
  pub rises : Rising txn.number others

pub record Counted (p : Part) : Type 0 where
  pub once : Once (λ y. y.txn) p.begins
  pub low : ℕ
  pub idle : p.opened ≡ None → Each (λ y. y.txn ≤ low) p.begins × Rising low p.left
  pub busy : (o : Opened) → p.opened ≡ Some o → Headed p o

once_add : (x : Began) (xs : List Began) → Once (λ y. y.txn) xs → Each (λ y. y.txn < x.txn) xs → Once (λ y. y.txn) (x ∷ xs)
once_add x xs o e = record { same = go }
  where
    go : (a b : Began) → In a (x ∷ xs) → In b (x ∷ xs) → a.txn ≡ b.txn → a ≡ b
    go a b here here q = refl
    go a b here (there n) q = absurd (let l : b.txn < x.txn = e.at b n in let q' : x.txn ≡ b.txn = q in omega arith)
    go a b (there m) here q = absurd (let l : a.txn < x.txn = e.at a m in let q' : a.txn ≡ x.txn = q in omega arith)
    go a b (there m) (there n) q = o.same a b m n q

pub finish_at : (G : Setting) (h : List (ℕ × ActorEvent)) (s : ℕ) (a : Reply) → MayFinish G h s a → (t : Transaction) × IsAtTransaction (part G s h) t
finish_at G h s reply.RolledBack may = (may.0, record { others = may.2.others; is = may.2.is })
finish_at G h s (reply.Committed k) may = (may.0.txn, record { others = may.0.at.others; is = may.0.at.is })
finish_at G h s (reply.ConflictGenid k i g) may = (may.0.txn, record { others = may.0.at.others; is = may.0.at.is })
finish_at G h s (reply.ConflictRange k i g) may = (may.0.txn, record { others = may.0.at.others; is = may.0.at.is })
finish_at G h s (reply.Duplicate k i g) may = (may.0.txn, record { others = may.0.at.others; is = may.0.at.is })
finish_at G h s (reply.Lost k i) may = (may.0, record { others = may.2.others; is = may.2.is })
finish_at G h s (reply.NoMajority k n) may = (may.0, may.1)
finish_at G h s reply.NoMemory may = (may.0, may.1)
finish_at G h s _ may = absurd may

-- an item is over
over_counted : (p : Part) (t : Transaction) (left : List WorkItem) → IsAtTransaction p t → Counted p → (q : Part) → q.begins ≡ p.begins → q.left ≡ rest_of p.left → q.opened ≡ None → Counted q
over_counted p t left at c q eb el eo = go p.opened refl
  where
    rest : {x : Transaction} {xs : List WorkItem} → p.left ≡ Does x ∷ xs → q.left ≡ xs
    rest e = el ∙ ap (λ z. rest_of z) e

    done : (x : ℕ) → Each (λ y. y.txn ≤ x) p.begins × Rising x q.left → Counted q
    done x r = record { once = subst (λ z. Once (λ y. y.txn) z) (sym eb) c.once; low = x; idle = λ e. (subst (λ z. Each (λ y. y.txn ≤ x) z) (sym eb) r.0, r.1); busy = λ o e. none_some (sym eo ∙ e) }

    go : (b : Option Opened) → p.opened ≡ b → Counted q
    go None e =
        let r = c.idle e in
        let r1 : Rising c.low (Does t ∷ at.others) = subst (λ z. Rising c.low z) at.is r.1 in
        done t.number (each_more (λ y l. (let l' : y.txn ≤ c.low = l in let m = r1.0 in omega arith)) r.0, subst (λ z. Rising t.number z) (sym (rest at.is)) r1.1)
    go (Some o) e =
        let b = c.busy o e in
        done b.txn.number (b.most, subst (λ z. Rising b.txn.number z) (sym (rest b.is)) b.rises)

pub counted_row : (G : Setting) (h : List (ℕ × ActorEvent)) (s : ℕ) (e : ActorEvent) → MayDo G h s e → Counted (part G s h) → Counted (moves (part G s h) e)
counted_row G h s (Begun b g) may c =
    let p = part G s h in
    let t = may.3 in
    let at = may.4 in
    let r = c.idle may.2 in
    let r1 : Rising c.low (Does t ∷ at.others) = subst (λ z. Rising c.low z) at.is r.1 in
    let n : head_number p.left ≡ t.number = ap (λ z. head_number z) at.is in
    record {
      once = once_add (record { txn = head_number p.left; begin = b; gen = g }) p.begins c.once (each_more (λ y l. (let l' : y.txn ≤ c.low = l in let m = r1.0 in omega arith)) r.0);
      low = c.low;
      idle = λ e. none_some (sym e);
      busy = λ o e. record { txn = t; others = at.others; is = at.is; most = each_add (let m = r1.0 in omega arith) (each_more (λ y l. (let l' : y.txn ≤ c.low = l in let m = r1.0 in omega arith)) r.0); rises = r1.1 };
    }
counted_row G h s (Finish a) may c = let f = finish_at G h s a may.0 in over_counted (part G s h) f.0 [] f.1 c (moves (part G s h) (Finish a)) refl refl refl
counted_row G h s Note may c = go (part G s h).opened refl
  where
    p : Part
    p = part G s h

    go : (b : Option Opened) → (part G s h).opened ≡ b → Counted (moves (part G s h) Note)
    go None e =
        let r = c.idle e in
        record { once = c.once; low = c.low; idle = λ q. (r.0, subst (λ z. Rising c.low z) (sym (ap (λ z. rest_of z) may.2)) (subst (λ z. Rising c.low z) may.2 r.1)); busy = λ o q. none_some q }
    go (Some o) e = absurd (not_both (c.busy o e).is may.2)
      where
        not_both : {x : Transaction} {xs ys : List WorkItem} {r : Reply} → (part G s h).left ≡ Does x ∷ xs → (part G s h).left ≡ Lone r ∷ ys → ⊥
        not_both a b = let q = sym a ∙ b in cc
counted_row G h s (Ask t) may c = record { once = c.once; low = c.low; idle = c.idle; busy = λ o e. (let b = c.busy o e in record { txn = b.txn; others = b.others; is = b.is; most = b.most; rises = b.rises }) }
counted_row G h s (Say r) may c = record { once = c.once; low = c.low; idle = c.idle; busy = λ o e. (let b = c.busy o e in record { txn = b.txn; others = b.others; is = b.is; most = b.most; rises = b.rises }) }
counted_row G h s Barrier may c = record { once = c.once; low = c.low; idle = c.idle; busy = λ o e. (let b = c.busy o e in record { txn = b.txn; others = b.others; is = b.is; most = b.most; rises = b.rises }) }
counted_row G h s (Fed d g) may c = record { once = c.once; low = c.low; idle = c.idle; busy = λ o e. (let b = c.busy o e in record { txn = b.txn; others = b.others; is = b.is; most = b.most; rises = b.rises }) }
counted_row G h s (FedAgain d) may c = record { once = c.once; low = c.low; idle = c.idle; busy = λ o e. (let b = c.busy o e in record { txn = b.txn; others = b.others; is = b.is; most = b.most; rises = b.rises }) }
counted_row G h s _ may c = c

pub counted : (G : Setting) (h : List (ℕ × ActorEvent)) (s : ℕ) → Rising 0 (work_of G s) → IsLegalHistory G h → Counted (part G s h)
counted G [] s r legal = record { once = record { same = λ x y m n e. absurd (nothing m) }; low = 0; idle = λ e. (each_none, r); busy = λ o e. none_some e }
counted G (x ∷ h) s r legal = go (counted G h s r legal.1) (s == x.0) refl
  where
    go : Counted (part G s h) → (b : Bool) → (s == x.0) ≡ b → Counted (cond b (moves (part G s h) x.1) (part G s h))
    go c true q = counted_row G h s x.1 (subst (λ k. MayDo G h k x.1) (sym ((Decides-eqb s x.0).0 q)) legal.0) c
    go c false q = c
