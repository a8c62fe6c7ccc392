-- A transaction from its begin to its last reply: what may be told next, and where it is then.
use Rattle.std.proofs.Common.{ℕ, ◌≡◌, ◌+◌, ◌≤◌, List, [], ◌∷◌, ◌++◌, length, arith, refl, sym, subst, ap, ◌∙◌, append_assoc}
use Rattle.std.proofs.lemmas.List.{append-nil}
use Rattle.std.specs.Prelude.{Some}
use Rattle.std.specs.List.{AllByRecursion}
use Rattle.cdb_values.specs.declared.replies.Reply.{Reply}
use Rattle.cdb_values.specs.declared.replies.Reply.TheVariants as reply
use Rattle.cluster_begins.specs.Begins.{CanBegin}
use Rattle.cluster_consensus.specs.Facts.{World}
use Rattle.cluster_events.specs.Guards.{IsInTransaction}
use Rattle.cluster_events.specs.Parts.{ActorEvent, Opened, Part, head_number, moves, part, rest_of}
use Rattle.cluster_events.specs.Settings.{Setting, kept_rows_at, run_alone}
use Rattle.cluster_requests.specs.KeptEntries.{KeptEntry, state_of}
use Rattle.cluster_steps.specs.Guards.{AreLegalSteps, MayTakeStep, answer_at}
use Rattle.cluster_steps.specs.Named.{named_reply, rows_begun, steps, world}
use Rattle.cluster_steps.specs.declared.events.Event.{Event}
use Rattle.cluster_steps.specs.declared.events.Event.TheVariants as event
use Rattle.core_lists.specs.Fronts.{Front}
use Rattle.core_lists.specs.Fronts.Front.{front_cons}
use Rattle.core_lists.proofs.Fronts.{front_append, front_length, front_trans}
use Rattle.report_laws.specs.Work.{WorkItem, Transaction, Does, Lone}
use Rattle.report_laws.proofs.PlainLaws.{plain_alone}
use Rattle.report_text.specs.declared.reports.Line.TheVariants as line
use Rattle.session_fronts.specs.Fronts.{front_of, IsKnown}
use Rattle.session_fronts.proofs.KnownLaws.{front_size, known_stays, take_front}
use Rattle.session_language.specs.Answers.{IsPlain}
use Rattle.session_language.specs.Language.{alone, alone_from}
use Rattle.session_language.proofs.AnswerLaws.{replies_append, replies_more}
use Rattle.session_work.specs.Seats.{IsSeat, Rests, Runs, answered_at}
use Rattle.session_work.proofs.SeatLaws.{seat_may, waited}

-- what is known is the rows at the begin, in a durable log that reaches it
pub known_within : (G : Setting) (w : World KeptEntry) (o : Opened) (k : IsKnown G w o) → o.begin ≤ length k.log
known_within G w o k = let size = front_size G w o k.found in let long = front_length k.begins in omega (arith, size, long)

pub known_rows : (G : Setting) (w : World KeptEntry) (o : Opened) (k : IsKnown G w o) → kept_rows_at G k.log o.begin ≡ rows_begun G w o
known_rows G w o k = ap state_of (take_front o.begin (front_of G w o) k.log k.begins (front_size G w o k.found))

all_at : {A : Type 0} (P : A → Type 0) (xs : List A) (x : A) (ys : List A) → AllByRecursion P (xs ++ x ∷ ys) → P x
all_at P [] x ys all = all.0
all_at P (z ∷ xs) x ys all = all_at P xs x ys all.1

module _ (G : Setting) (w : World KeptEntry) (p : Part) (t : Transaction) (others : List WorkItem) (o : Opened) (texts : List (List ℕ)) where
  pub in_transaction : (due : List Reply) → Runs G w p t others o texts due → IsInTransaction p t o
  in_transaction due runs = record { others = others; is = runs.left; opened = runs.opened }

  -- the replies of the whole transaction begin with those to the texts that are answered
  begins_with : (due : List Reply) (runs : Runs G w p t others o texts due) → Front (answered_at G w o texts).replies (run_alone G (kept_rows_at G runs.known.log o.begin) t).replies
  begins_with due runs =
      let rows : (run_alone G (kept_rows_at G runs.known.log o.begin) t).replies ≡ (run_alone G (rows_begun G w o) t).replies = ap (λ z. (run_alone G z t).replies) (known_rows G w o runs.known) in
      let all : (run_alone G (rows_begun G w o) t).replies ≡ (alone G.language G.tables (rows_begun G w o) (texts ++ runs.more)).replies = ap (λ z. (alone G.language G.tables (rows_begun G w o) z).replies) runs.texts_are in
      let split = replies_append G.language G.tables (rows_begun G w o).tables [] texts runs.more in
      subst (λ z. Front (answered_at G w o texts).replies z) (sym (rows ∙ (all ∙ split)))
      (front_append (answered_at G w o texts).replies (alone_from G.language G.tables (rows_begun G w o).tables (answered_at G w o texts).ops runs.more).replies)

  more_said : (r : Reply) (due : List Reply) (runs : Runs G w p t others o texts (r ∷ due)) → p.mine ++ r ∷ [] ≡ reply.Begin o.begin ∷ (runs.said ++ r ∷ [])
  more_said r due runs = ap (λ z. z ++ r ∷ []) runs.mine

  more_rest : (r : Reply) (due : List Reply) (runs : Runs G w p t others o texts (r ∷ due)) → (runs.said ++ r ∷ []) ++ due ≡ (answered_at G w o texts).replies
  more_rest r due runs = append_assoc runs.said (r ∷ []) due ∙ runs.rest

  -- the next reply that is due fits
  fits : (r : Reply) (due : List Reply) (runs : Runs G w p t others o texts (r ∷ due)) → Front (p.mine ++ r ∷ []) (reply.Begin o.begin ∷ (run_alone G (kept_rows_at G runs.known.log o.begin) t).replies)
  fits r due runs =
      let said = subst (λ z. Front (runs.said ++ r ∷ []) z) (more_rest r due runs) (front_append (runs.said ++ r ∷ []) due) in
      subst (λ z. Front z (reply.Begin o.begin ∷ (run_alone G (kept_rows_at G runs.known.log o.begin) t).replies)) (sym (more_said r due runs)) (front_cons (front_trans said (begins_with (r ∷ due) runs)))

  -- behind it the others are due
  pub told_on : (r : Reply) (due : List Reply) → Runs G w p t others o texts (r ∷ due) → Runs G w (moves p (ActorEvent.Say r)) t others o texts due
  told_on r due runs = record {
    left = runs.left;
    opened = runs.opened;
    known = runs.known;
    more = runs.more;
    texts_are = runs.texts_are;
    said = runs.said ++ r ∷ [];
    mine = more_said r due runs;
    rest = more_rest r due runs;
  }

  -- a text more is answered, and its replies are due
  pub hears : (text : List ℕ) (more : List (List ℕ)) → t.texts ≡ (texts ++ text ∷ []) ++ more → Runs G w p t others o texts []
      → Runs G w p t others o (texts ++ text ∷ []) (G.language.answer G.tables (rows_begun G w o).tables (answered_at G w o texts).ops text).replies
  hears text more is runs =
      let due = (G.language.answer G.tables (rows_begun G w o).tables (answered_at G w o texts).ops text).replies in
      let whole : runs.said ≡ (answered_at G w o texts).replies = sym (append-nil runs.said) ∙ runs.rest in
      record {
        left = runs.left;
        opened = runs.opened;
        known = runs.known;
        more = more;
        texts_are = is;
        said = runs.said;
        mine = runs.mine;
        rest = ap (λ z. z ++ due) whole ∙ sym (replies_more G.language G.tables (rows_begun G w o).tables [] texts text);
      }

  -- where all of its texts are answered and nothing is due, all its replies are told
  pub all_told : Runs G w p t others o texts [] → t.texts ≡ texts → p.mine ≡ reply.Begin o.begin ∷ (run_alone G (rows_begun G w o) t).replies
  all_told runs all =
      let whole : runs.said ≡ (answered_at G w o texts).replies = sym (append-nil runs.said) ∙ runs.rest in
      runs.mine ∙ ap (λ z. reply.Begin o.begin ∷ z) (whole ∙ ap (λ z. (alone G.language G.tables (rows_begun G w o) z).replies) (sym all))

-- what is known stays, and so does where the transaction is
pub runs_on : (G : Setting) (later h : List (ℕ × Event)) → AreLegalSteps G (later ++ h) → (p : Part) (t : Transaction) (others : List WorkItem) (o : Opened) (texts : List (List ℕ)) (due : List Reply)
    → Runs G (world G h) p t others o texts due → Runs G (world G (later ++ h)) p t others o texts due
runs_on G later h l p t others o texts due runs =
    let same = known_stays G later h l o runs.known in
    record {
      left = runs.left;
      opened = runs.opened;
      known = same.1;
      more = runs.more;
      texts_are = runs.texts_are;
      said = runs.said;
      mine = runs.mine;
      rest = runs.rest ∙ ap (λ z. (alone G.language G.tables (state_of z) texts).replies) (sym same.0);
    }

module _ (G : Setting) (s : ℕ) (seen : List (ℕ × Event)) (seat : IsSeat G s seen) (t : Transaction) (others : List WorkItem) where
  -- its begin may be told, once it is answered
  pub may_begin : Rests (part G s (steps G seen)) (Does t ∷ others) → (ask b g : ℕ) → (part G s (steps G seen)).asked ≡ Some ask → CanBegin G.nodes (world G seen) ask b g → MayTakeStep G seen s (event.Begun b g)
  may_begin rests ask b g asked can = seat_may G s seen seat (event.Begun b g) (ActorEvent.Begun b g) tt tt refl (ask, asked, rests.opened, t, record { others = others; is = rests.left }, can, seat.other)

  -- and the next reply that is due
  pub may_say : (o : Opened) (texts : List (List ℕ)) (r : Reply) (due : List Reply) → Runs G (world G seen) (part G s (steps G seen)) t others o texts (r ∷ due)
      → MayTakeStep G seen s (event.Reply (line.Session (G.names s) t.number r))
  may_say o texts r due runs = seat_may G s seen seat (event.Reply (line.Session (G.names s) t.number r)) (ActorEvent.Say r) tt exact name (
    t,
    o,
    in_transaction G (world G seen) (part G s (steps G seen)) t others o texts (r ∷ due) runs,
    record {
      log = runs.known.log;
      durable = (runs.known.gen, runs.known.durable);
      within = known_within G (world G seen) o runs.known;
      fits = fits G (world G seen) (part G s (steps G seen)) t others o texts r due runs;
    },
    plain,
    waited G s seen seat,
  )
    where
      exact : line.Session (G.names s) t.number r ≡ line.Session (G.names s) (head_number (part G s (steps G seen)).left) (answer_at (part G s (steps G seen)).left r)
      exact = subst (λ (z : List WorkItem). line.Session (G.names s) t.number r ≡ line.Session (G.names s) (head_number z) (answer_at z r)) (sym runs.left) refl

      name : named_reply (part G s (steps G seen)).left r ≡ ActorEvent.Say r
      name = ap (λ (z : List WorkItem). named_reply z r) runs.left

      plain : IsPlain r
      plain = all_at IsPlain runs.said r due (subst (λ (z : List Reply). AllByRecursion IsPlain z) (sym runs.rest) (plain_alone G.language seat.answers G.tables (rows_begun G (world G seen) o).tables [] texts))

-- behind its begin no text is answered yet
pub begun_runs : (G : Setting) (w : World KeptEntry) (p : Part) (t : Transaction) (others : List WorkItem) (b g : ℕ) → Rests p (Does t ∷ others) → IsKnown G w (record { begin = b; gen = g })
    → Runs G w (moves p (ActorEvent.Begun b g)) t others (record { begin = b; gen = g }) [] []
begun_runs G w p t others b g rests known = record {
  left = rests.left;
  opened = refl;
  known = known;
  more = t.texts;
  texts_are = refl;
  said = [];
  mine = ap (λ (z : List Reply). z ++ reply.Begin b ∷ []) rests.mine;
  rest = refl;
}

-- a line outside a transaction has its one reply, and is over
pub may_note : (G : Setting) (s : ℕ) (seen : List (ℕ × Event)) → IsSeat G s seen → (r : Reply) (others : List WorkItem) → Rests (part G s (steps G seen)) (Lone r ∷ others) → IsPlain r
    → MayTakeStep G seen s (event.Reply (line.Session (G.names s) 0 r))
may_note G s seen seat r others rests plain = seat_may G s seen seat (event.Reply (line.Session (G.names s) 0 r)) ActorEvent.Note tt exact name (r, others, rests.left, plain, waited G s seen seat)
  where
    exact : line.Session (G.names s) 0 r ≡ line.Session (G.names s) (head_number (part G s (steps G seen)).left) (answer_at (part G s (steps G seen)).left r)
    exact = subst (λ (z : List WorkItem). line.Session (G.names s) 0 r ≡ line.Session (G.names s) (head_number z) (answer_at z r)) (sym rests.left) refl

    name : named_reply (part G s (steps G seen)).left r ≡ ActorEvent.Note
    name = ap (λ (z : List WorkItem). named_reply z r) rests.left

pub noted : (p : Part) (r : Reply) (others : List WorkItem) → Rests p (Lone r ∷ others) → Rests (moves p ActorEvent.Note) others
noted p r others rests = record { left = ap rest_of rests.left; opened = refl; mine = refl }
