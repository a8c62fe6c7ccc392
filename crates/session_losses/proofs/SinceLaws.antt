-- What a session was told since a place at which it was at the same transaction.
use Rattle.std.proofs.Common.{ℕ, ◌≡◌, ◌≤◌, List, [], ◌∷◌, ◌++◌, length, arith, refl, sym, subst, ap, ◌∙◌}
use Rattle.std.specs.Prelude.{◌==◌, suc, Bool, true, false, cond}
use Rattle.std.specs.List.{AllByRecursion}
use Rattle.std.proofs.lemmas.Bool.Decides.{Decides-eqb}
use Rattle.cdb_values.specs.declared.replies.Reply.{Reply}
use Rattle.cdb_values.specs.declared.replies.Reply.TheVariants as reply
use Rattle.cluster_events.specs.Guards.{IsLegalHistory, MayDo}
use Rattle.cluster_events.specs.Parts.{ActorEvent, Part, head_number, moves, part, rest_of}
use Rattle.cluster_events.specs.Parts.ActorEvent.{Begun, Say, Note, Finish}
use Rattle.cluster_events.specs.Settings.{Setting}
use Rattle.cluster_events.proofs.LineLists.{append_assoc, append_nil}
use Rattle.report_laws.specs.Told.{Numbered}
use Rattle.report_laws.specs.Work.{Does, Transaction, WorkItem}
use Rattle.session_language.specs.Answers.{IsPlain}

-- a loss is by a line of at most that number
abbrev pub IsLossWithin : ℕ → Reply → Type 0
IsLossWithin n (reply.Lost node down) = down ≤ n
IsLossWithin n _ = Unit {0}

pub plain_within : (n : ℕ) (r : Reply) → IsPlain r → IsLossWithin n r
plain_within n (reply.Row row) plain = tt
plain_within n (reply.Done rows) plain = tt
plain_within n (reply.Changed rows) plain = tt
plain_within n (reply.Error cause) plain = tt
plain_within n (reply.Level level) plain = tt
plain_within n _ plain = absurd plain

pub all_push : {A : Type 0} (P : A → Type 0) (xs : List A) (x : A) → AllByRecursion P xs → P x → AllByRecursion P (xs ++ x ∷ [])
all_push P [] x all p = (p, tt)
all_push P (y ∷ xs) x all p = (all.0, all_push P xs x all.1 p)

same_length : (n : ℕ) → n ≤ n
same_length n = omega arith

-- what is left of a session's work never grows
shorter : (items : List WorkItem) → length (rest_of items) ≤ length items
shorter [] = omega arith
shorter (i ∷ items) = omega arith

left_by : (p : Part) (e : ActorEvent) → length (moves p e).left ≤ length p.left
left_by p Note = shorter p.left
left_by p (Finish a) = shorter p.left
left_by p _ = same_length (length p.left)

pub left_since : (G : Setting) (s : ℕ) (later g : List (ℕ × ActorEvent)) → length (part G s (later ++ g)).left ≤ length (part G s g).left
left_since G s [] g = same_length (length (part G s g).left)
left_since G s (x ∷ later) g = go (s == x.0) (left_since G s later g)
  where
    go : (b : Bool) → length (part G s (later ++ g)).left ≤ length (part G s g).left → length (cond b (moves (part G s (later ++ g)) x.1) (part G s (later ++ g))).left ≤ length (part G s g).left
    go true le = let by : length (moves (part G s (later ++ g)) x.1).left ≤ length (part G s (later ++ g)).left = left_by (part G s (later ++ g)) x.1 in omega (arith, by, le)
    go false le = le

-- where as much is left as before an event, nothing was over by it
too_long : (items : List WorkItem) (t : Transaction) (others : List WorkItem) → length items ≤ suc (length others) → rest_of items ≡ Does t ∷ others → ⊥
too_long [] t others few is = let size : 0 ≡ suc (length others) = ap (λ z. length z) is in absurd (omega (arith, size))
too_long (i ∷ items) t others few is = let size : length items ≡ suc (length others) = ap (λ z. length z) is in absurd (omega (arith, few, size))

was_left : (p : Part) (e : ActorEvent) (t : Transaction) (others : List WorkItem) → length p.left ≤ suc (length others) → (moves p e).left ≡ Does t ∷ others → p.left ≡ Does t ∷ others
was_left p Note t others few is = absurd (too_long p.left t others few is)
was_left p (Finish a) t others few is = absurd (too_long p.left t others few is)
was_left p _ t others few is = is

-- what was told besides: it is all of one transaction, and no loss
pub record TellsOf (number : ℕ) (old new : List Numbered) : Type 0 where
  pub more : List Numbered
  pub is : new ≡ old ++ more
  pub its : AllByRecursion (λ l. l.0 ≡ number) more
  pub plain : AllByRecursion (λ l. IsLossWithin 0 l.1) more

one_more : (number : ℕ) (old new : List Numbered) (n : ℕ) (r : Reply) → n ≡ number → IsLossWithin 0 r → TellsOf number old new → TellsOf number old (new ++ (n, r) ∷ [])
one_more number old new n r same plain k = record {
  more = k.more ++ (n, r) ∷ [];
  is = ap (λ (z : List Numbered). z ++ (n, r) ∷ []) k.is ∙ append_assoc old k.more ((n, r) ∷ []);
  its = all_push (λ l. l.0 ≡ number) k.more (n, r) k.its same;
  plain = all_push (λ l. IsLossWithin 0 l.1) k.more (n, r) k.plain plain;
}

tells_by : (G : Setting) (s : ℕ) (h : List (ℕ × ActorEvent)) (e : ActorEvent) (t : Transaction) (others : List WorkItem) (old : List Numbered) → MayDo G h s e → (part G s h).left ≡ Does t ∷ others
    → (moves (part G s h) e).left ≡ Does t ∷ others → TellsOf t.number old (part G s h).told → TellsOf t.number old (moves (part G s h) e).told
tells_by G s h (Begun b g) t others old may was is k = one_more t.number old (part G s h).told (head_number (part G s h).left) (reply.Begin b) (ap (λ z. head_number z) was) tt k
tells_by G s h (Say r) t others old may was is k = one_more t.number old (part G s h).told (head_number (part G s h).left) r (ap (λ z. head_number z) was) (plain_within 0 r may.4) k
tells_by G s h Note t others old may was is k = absurd (too_long (part G s h).left t others (let size : length (part G s h).left ≡ suc (length others) = ap (λ z. length z) was in omega (arith, size)) is)
tells_by G s h (Finish a) t others old may was is k = absurd (too_long (part G s h).left t others (let size : length (part G s h).left ≡ suc (length others) = ap (λ z. length z) was in omega (arith, size)) is)
tells_by G s h _ t others old may was is k = k

pub tells_since : (G : Setting) (s : ℕ) (later g : List (ℕ × ActorEvent)) (t : Transaction) (others : List WorkItem) → IsLegalHistory G (later ++ g) → length (part G s g).left ≤ suc (length others)
    → (part G s (later ++ g)).left ≡ Does t ∷ others → TellsOf t.number (part G s g).told (part G s (later ++ g)).told
tells_since G s [] g t others legal few is = record { more = []; is = sym (append_nil (part G s g).told); its = tt; plain = tt }
tells_since G s (x ∷ later) g t others legal few is = go (tells_since G s later g t others legal.1 few) (s == x.0) refl is
  where
    p : Part
    p = part G s (later ++ g)

    go : (p.left ≡ Does t ∷ others → TellsOf t.number (part G s g).told p.told) → (b : Bool) → (s == x.0) ≡ b → (cond b (moves p x.1) p).left ≡ Does t ∷ others → TellsOf t.number (part G s g).told (cond b (moves p x.1) p).told
    go again true q is =
        let less : length p.left ≤ length (part G s g).left = left_since G s later g in
        let short : length p.left ≤ suc (length others) = omega (arith, less, few) in
        let was : p.left ≡ Does t ∷ others = was_left p x.1 t others short is in
        let may : MayDo G (later ++ g) s x.1 = subst (λ k. MayDo G (later ++ g) k x.1) (sym ((Decides-eqb s x.0).0 q)) legal.0 in
        tells_by G s (later ++ g) x.1 t others (part G s g).told may was is (again was)
    go again false q is = again is
