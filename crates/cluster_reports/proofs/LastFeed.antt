-- The feed at the end: when it is asked, all lines of the sessions are told, and it covers what stands before it.
use Rattle.std.proofs.Common.{◌≡◌, ℕ, ◌≤◌, List, [], ◌∷◌, ◌++◌, length, arith, refl, ap, sym, subst, ◌∙◌}
use Rattle.std.specs.Prelude.{◌==◌, Bool, true, false, cond, Some}
use Rattle.std.specs.List.{AllByRecursion}
use Rattle.std.proofs.lemmas.Bool.Decides.{Decides-eqb}
use mathlib.Core.Logic.{◌⊎◌, inl, inr}
use Rattle.cluster_answers.proofs.AskLaws.{none_some}
use Rattle.cluster_answers.proofs.BeginLaws.{NamedOk, named_lines}
use Rattle.cluster_begins.proofs.Since.{fresh_begin}
use Rattle.cluster_begins.specs.Begins.{CanBegin, IsPositionAnswered}
use Rattle.cluster_consensus.specs.Events.NodeEvent.{Asks}
use Rattle.cluster_consensus.specs.Histories.{Legal, after}
use Rattle.cluster_events.proofs.HistoryLaws.{steps, core_is, steps_legal, steps_append, legal_rest, good_of, Later, later_refl, later_event}
use Rattle.cluster_events.proofs.LineLists.{append_nil}
use Rattle.cluster_events.specs.ByScript.{Heeds, AllHeed}
use Rattle.cluster_events.specs.Guards.{MayDo, IsLegalHistory, AllBeyond, WereFew}
use Rattle.cluster_events.specs.Operator.{Duty, duty, IsOfNode}
use Rattle.cluster_events.specs.Parts.{ActorEvent, part, moves, field, lines}
use Rattle.cluster_events.specs.Parts.ActorEvent.{Node, Stop, Settle, Repeat, Ask, Begun, Say, Note, Send, Finish, Move, Order, Obeyed, Fire, Barrier, Fed, FedAgain}
use Rattle.cluster_events.specs.Settings.{Setting, basis_from, lines_to_do}
use Rattle.cluster_events.proofs.Charges.{some_is}
use Rattle.cluster_feeds.proofs.FedLaws.{later_trans, all_in, unread_all, fed_again}
use Rattle.cluster_feeds.proofs.UnreadLaws.{AreUnread, asked_in, asks_long, unread_since, not_own}
use Rattle.cluster_reports.proofs.OrderLaws.{is_calm, heed_calm}
use Rattle.cluster_reports.proofs.PlaceLaws.{two_ends}
use Rattle.cluster_reports.proofs.SessionLaws.{AreNotSaid, NoBarrier, is_barrier_event, since, lines_since, hush}
use Rattle.cluster_reports.specs.Runs.{FitsScript, FollowsScript}
use Rattle.core_lists.proofs.Lists.{each_add, each_none}
use Rattle.core_lists.specs.Lists.In.{here, there}
use Rattle.cdb_values.specs.Rows.{Rows}
use Rattle.node_reports.specs.Fed.{is_sessions, RepeatsAtLast}
use Rattle.report_laws.specs.Lawful.{NameUpTo, positions}
use Rattle.report_laws.specs.Nodes.{are_few}
use Rattle.report_text.specs.declared.reports.Line.{Line}
use Rattle.report_text.specs.declared.reports.Line.TheVariants as line
use Rattle.script_form.specs.declared.scripts.Act.{Act}
use Rattle.script_form.specs.declared.scripts.Act.TheVariants as act
use Rattle.session_language.proofs.EachLaws.{all_append}

-- what came later
pub later_since : (G : Setting) (w h : List (ℕ × ActorEvent)) → IsLegalHistory G (w ++ h) → Later (field h) (field (w ++ h))
later_since G [] h legal = later_refl (field h)
later_since G (x ∷ w) h legal = later_trans (later_since G w h legal.1) (later_event G (w ++ h) x.0 x.1 (good_of G (w ++ h) legal.1).inv legal.0)

cancel : {A : Type 0} (a b c : List A) → a ++ b ≡ a ++ c → b ≡ c
cancel [] b c e = e
cancel (x ∷ a) b c e = cancel a b c (let t : a ++ b ≡ a ++ c = cc in t)

no_barrier_append : (v w : List (ℕ × ActorEvent)) → NoBarrier v → NoBarrier w → NoBarrier (v ++ w)
no_barrier_append [] w a b = b
no_barrier_append (x ∷ v) w a b = each_add (a.at x here) (no_barrier_append v w (record { at = λ y m. a.at y (there m) }) b)

no_barrier_right : (v w : List (ℕ × ActorEvent)) → NoBarrier (v ++ w) → NoBarrier w
no_barrier_right [] w a = a
no_barrier_right (x ∷ v) w a = no_barrier_right v w (record { at = λ y m. a.at y (there m) })

no_barrier_left : (v w : List (ℕ × ActorEvent)) → NoBarrier (v ++ w) → NoBarrier v
no_barrier_left [] w a = each_none
no_barrier_left (x ∷ v) w a = each_add (a.at x here) (no_barrier_left v w (record { at = λ y m. a.at y (there m) }))

-- lines of no session, and that the operator doesn't read, name no position
names_none : (d : ℕ) (ls : List Line) → AreNotSaid ls → AreUnread ls → NameUpTo d ls
names_none d [] a b = tt
names_none d (line.Session name t r ∷ ls) a b = absurd (let e = a.at (line.Session name t r) here in cc)
names_none d (line.Down c n f ∷ ls) a b = (tt, names_none d ls (record { at = λ y m. a.at y (there m) }) (record { at = λ y m. b.at y (there m) }))
names_none d (line.Up n ∷ ls) a b = (tt, names_none d ls (record { at = λ y m. a.at y (there m) }) (record { at = λ y m. b.at y (there m) }))
names_none d (line.Barrier ∷ ls) a b = absurd (let e = b.at line.Barrier here in cc)
names_none d (line.Fed p ∷ ls) a b = absurd (let e = b.at (line.Fed p) here in cc)

not_said_all : (ls : List Line) → AreNotSaid ls → AllByRecursion (λ l. is_sessions l ≡ false) ls
not_said_all [] k = tt
not_said_all (l ∷ ls) k = (k.at l here, not_said_all ls (record { at = λ x m. k.at x (there m) }))

module _ (G : Setting) where
  -- the operator waits for its ask at a feed
  pub record AsksFeed (h : List (ℕ × ActorEvent)) (t : ℕ) : Type 0 where
    pub place : ℕ
    pub rest : List (ℕ × Act)
    pub next : (duty (lines_to_do G) h).left ≡ (place, act.Feed) ∷ rest
    pub mid : List (ℕ × ActorEvent)
    pub before : List (ℕ × ActorEvent)
    pub is : h ≡ mid ++ (0, Ask t) ∷ before
    pub final : place ≡ length G.script.body → AllBeyond G before
    pub bare : NoBarrier mid

  kept : (x : ℕ × ActorEvent) (h : List (ℕ × ActorEvent)) (t : ℕ) → (duty (lines_to_do G) (x ∷ h)).left ≡ (duty (lines_to_do G) h).left → is_barrier_event x.1 ≡ false → AsksFeed h t → AsksFeed (x ∷ h) t
  kept x h t same bar k = record { place = k.place; rest = k.rest; next = same ∙ k.next; mid = x ∷ k.mid; before = k.before; is = ap (λ z. x ∷ z) k.is; final = k.final; bare = each_add bar k.bare }

  calm_kept : (i : ℕ) (e : ActorEvent) (h : List (ℕ × ActorEvent)) (t : ℕ) → is_calm e ≡ true → is_barrier_event e ≡ false → AsksFeed h t → AsksFeed ((i, e) ∷ h) t
  calm_kept i e h t calm bar k = kept (i, e) h t (ap (λ (z : Duty). z.left) (heed_calm (duty (lines_to_do G) h) e calm)) bar k

  obeyed_none : {A : Type 0} (h : List (ℕ × ActorEvent)) (t i : ℕ) → Heeds G (lines_to_do G) h i Obeyed → AsksFeed h t → A
  obeyed_none h t i may k = absurd (subst (λ z. IsOfNode z) (ap (λ (z : ℕ × Act). z.1) (first (sym may.next ∙ k.next))) may.of_node)
    where
      first : {x y : ℕ × Act} {xs ys : List (ℕ × Act)} → x ∷ xs ≡ y ∷ ys → x ≡ y
      first e = cc

  asks_row : (h : List (ℕ × ActorEvent)) (i : ℕ) (e : ActorEvent) (t : ℕ) (b : Bool) → (0 == i) ≡ b → MayDo G h i e → Heeds G (lines_to_do G) h i e → ((part G 0 h).asked ≡ Some t → AsksFeed h t) → (cond b (moves (part G 0 h) e) (part G 0 h)).asked ≡ Some t → AsksFeed ((i, e) ∷ h) t
  asks_row h i (Ask u) t true s may heeds old q =
      let z : 0 ≡ i = (Decides-eqb 0 i).0 s in
      let due = heeds (sym z) in
      record { place = due.0; rest = due.1; next = due.2; mid = []; before = h; is = ap (λ j. (j, Ask u) ∷ h) (sym z) ∙ ap (λ v. (0, Ask v) ∷ h) (some_is q); final = due.3; bare = each_none }
  asks_row h i (Ask u) t false s may heeds old q = calm_kept i (Ask u) h t refl refl (old q)
  asks_row h i (Begun b g) t true s may heeds old q = none_some q
  asks_row h i (Begun b g) t false s may heeds old q = calm_kept i (Begun b g) h t refl refl (old q)
  asks_row h i (Say r) t true s may heeds old q = none_some q
  asks_row h i (Say r) t false s may heeds old q = calm_kept i (Say r) h t refl refl (old q)
  asks_row h i Note t true s may heeds old q = none_some q
  asks_row h i Note t false s may heeds old q = calm_kept i Note h t refl refl (old q)
  asks_row h i (Finish a) t true s may heeds old q = none_some q
  asks_row h i (Finish a) t false s may heeds old q = calm_kept i (Finish a) h t refl refl (old q)
  asks_row h i Barrier t true s may heeds old q = none_some q
  asks_row h i Barrier t false s may heeds old q = not_own i may.0 s
  asks_row h i (Fed d g) t true s may heeds old q = none_some q
  asks_row h i (Fed d g) t false s may heeds old q = not_own i may.0 s
  asks_row h i (FedAgain d) t true s may heeds old q = none_some q
  asks_row h i (FedAgain d) t false s may heeds old q = not_own i may.0 s
  asks_row h i Order t true s may heeds old q = kept (i, Order) h t refl refl (old q)
  asks_row h i Order t false s may heeds old q = not_own i may s
  asks_row h i Obeyed t true s may heeds old q = obeyed_none h t i heeds (old q)
  asks_row h i Obeyed t false s may heeds old q = not_own i may s
  asks_row h i (Node e) t true s may heeds old q = calm_kept i (Node e) h t refl refl (old q)
  asks_row h i (Node e) t false s may heeds old q = calm_kept i (Node e) h t refl refl (old q)
  asks_row h i Stop t true s may heeds old q = calm_kept i Stop h t refl refl (old q)
  asks_row h i Stop t false s may heeds old q = calm_kept i Stop h t refl refl (old q)
  asks_row h i (Settle id why) t true s may heeds old q = calm_kept i (Settle id why) h t refl refl (old q)
  asks_row h i (Settle id why) t false s may heeds old q = calm_kept i (Settle id why) h t refl refl (old q)
  asks_row h i (Repeat id n) t true s may heeds old q = calm_kept i (Repeat id n) h t refl refl (old q)
  asks_row h i (Repeat id n) t false s may heeds old q = calm_kept i (Repeat id n) h t refl refl (old q)
  asks_row h i (Send x) t true s may heeds old q = calm_kept i (Send x) h t refl refl (old q)
  asks_row h i (Send x) t false s may heeds old q = calm_kept i (Send x) h t refl refl (old q)
  asks_row h i (Move n) t true s may heeds old q = calm_kept i (Move n) h t refl refl (old q)
  asks_row h i (Move n) t false s may heeds old q = calm_kept i (Move n) h t refl refl (old q)
  asks_row h i (Fire l n) t true s may heeds old q = calm_kept i (Fire l n) h t refl refl (old q)
  asks_row h i (Fire l n) t false s may heeds old q = calm_kept i (Fire l n) h t refl refl (old q)

  pub asks_feed : (h : List (ℕ × ActorEvent)) → IsLegalHistory G h → AllHeed G (lines_to_do G) h → (t : ℕ) → (part G 0 h).asked ≡ Some t → AsksFeed h t
  asks_feed [] legal all t q = none_some q
  asks_feed (x ∷ h) legal all t q = asks_row h x.0 x.1 t (0 == x.0) refl legal.0 all.0.heeds (asks_feed h legal.1 all.1 t) q

  module _ (fits : FitsScript G) (follows : FollowsScript G) where
    -- the ask itself stands behind all lines of the sessions
    behind_ask : (h : List (ℕ × ActorEvent)) (t : ℕ) → IsLegalHistory G h → (k : AsksFeed h t) → k.place ≡ length G.script.body → AllBeyond G ((0, Ask t) ∷ k.before)
    behind_ask h t legal k q = (hush G fits follows ((0, Ask t) ∷ []) k.before (legal_rest G k.mid ((0, Ask t) ∷ k.before) (subst (λ z. IsLegalHistory G z) k.is legal)) (each_add refl each_none) (k.final q)).0

    same_place : {h : List (ℕ × ActorEvent)} {t : ℕ} {rest : List (ℕ × Act)} → (k : AsksFeed h t) → (duty (lines_to_do G) h).left ≡ (length G.script.body, act.Feed) ∷ rest → k.place ≡ length G.script.body
    same_place k e = ap (λ (z : ℕ × Act). z.0) (first (sym k.next ∙ e))
      where
        first : {x y : ℕ × Act} {xs ys : List (ℕ × Act)} → x ∷ xs ≡ y ∷ ys → x ≡ y
        first e = cc

    -- one that is answered
    pub covers_all : (h : List (ℕ × ActorEvent)) (i d g : ℕ) (rest : List (ℕ × Act)) → IsLegalHistory G h → AllHeed G (lines_to_do G) h → MayDo G h i (Fed d g) → (duty (lines_to_do G) h).left ≡ (length G.script.body, act.Feed) ∷ rest → NameUpTo d (lines G h) × AllBeyond G h
    covers_all h i d g rest legal all may next = (subst (λ z. NameUpTo d z) (sym lined) (all_append _ (lines G k.before) un.0 early late), subst (λ z. AllBeyond G z) (sym k.is) quiet.0)
      where
        t : ℕ
        t = may.1

        k : AsksFeed h t
        k = asks_feed h legal all t (subst (λ j. (part G j h).asked ≡ Some t) may.0 may.2)

        u : List (ℕ × ActorEvent)
        u = (0, Ask t) ∷ k.before

        legal' : IsLegalHistory G (k.mid ++ (0, Ask t) ∷ k.before)
        legal' = subst (λ z. IsLegalHistory G z) k.is legal

        quiet : AllBeyond G (k.mid ++ (0, Ask t) ∷ k.before) × AreNotSaid (since G k.mid ((0, Ask t) ∷ k.before))
        quiet = hush G fits follows k.mid ((0, Ask t) ∷ k.before) legal' k.bare (behind_ask h t legal k (same_place k next))

        un : (back : List Line) × (lines G (k.mid ++ (0, Ask t) ∷ k.before) ≡ lines G ((0, Ask t) ∷ k.before) ++ back) × AreUnread back
        un = unread_since G k.mid ((0, Ask t) ∷ k.before) t legal' refl (subst (λ z. (part G 0 z).asked ≡ Some t) k.is (subst (λ j. (part G j h).asked ≡ Some t) may.0 may.2))

        lined : lines G h ≡ lines G k.before ++ un.0
        lined = ap (λ z. lines G z) k.is ∙ (un.1 ∙ ap (λ z. z ++ un.0) (append_nil (lines G k.before)))

        same_back : since G k.mid ((0, Ask t) ∷ k.before) ≡ un.0
        same_back = cancel (lines G ((0, Ask t) ∷ k.before)) (since G k.mid ((0, Ask t) ∷ k.before)) un.0 (sym (lines_since G k.mid ((0, Ask t) ∷ k.before)) ∙ un.1)

        late : NameUpTo d un.0
        late = names_none d un.0 (subst (λ z. AreNotSaid z) same_back quiet.1) un.2

        split : steps h ≡ steps k.mid ++ (0, Asks t) ∷ steps k.before
        split = ap (λ z. steps z) k.is ∙ steps_append k.mid ((0, Ask t) ∷ k.before)

        core : Legal G.nodes (steps k.mid ++ (0, Asks t) ∷ steps k.before)
        core = subst (λ z. Legal G.nodes z) split (steps_legal G h legal)

        can : CanBegin G.nodes (after (steps k.mid ++ (0, Asks t) ∷ steps k.before)) t d g
        can = subst (λ z. CanBegin G.nodes (after z) t d g) split (subst (λ w. CanBegin G.nodes w t d g) (core_is h) may.3)

        at_most : (p : ℕ) → NamedOk (field k.before) p → p ≤ d
        at_most p (inl z) = let z' : p ≡ 0 = z in omega arith
        at_most p (inr n) = fresh_begin G.nodes 0 t d g p n.0 (steps k.before) (steps k.mid) core can (subst (λ w. IsPositionAnswered w p n.0) (core_is k.before) n.1)

        early : NameUpTo d (lines G k.before)
        early = all_in _ (lines G k.before) (λ x m. all_in _ (positions x) (λ p q. at_most p ((named_lines G k.before (legal_rest G k.mid ((0, Ask t) ∷ k.before) legal').1).at x m p q)))

    pub goes_beyond : (x : ℕ × ActorEvent) (h : List (ℕ × ActorEvent)) → IsLegalHistory G (x ∷ h) → is_barrier_event x.1 ≡ false → AllBeyond G h → AllBeyond G (x ∷ h)
    goes_beyond x h legal bar beyond = (hush G fits follows (x ∷ []) h legal (each_add bar each_none) beyond).0

    -- one that repeats
    pub repeats_all : (base : ℕ) (rows : Rows) → G.nodes ≡ G.script.nodes → (h : List (ℕ × ActorEvent)) (i d : ℕ) (rest : List (ℕ × Act)) → IsLegalHistory G h → AllHeed G (lines_to_do G) h → MayDo G h i (FedAgain d) → (duty (lines_to_do G) h).left ≡ (length G.script.body, act.Feed) ∷ rest → RepeatsAtLast (basis_from G base rows) (lines G h) d × AllBeyond G h
    repeats_all base rows nodes h i d rest legal all may next = (
      record {
        repeats = record {
          same = (fed_again G base rows nodes h i d legal may).same;
          front = lines G w.before;
          back = un.0;
          stands = ap (λ z. lines G z) w.split ∙ un.1;
          since = unread_all un.0 un.2;
          few = subst (λ n. are_few n (lines G w.before) ≡ true) nodes w.few;
        };
        behind = not_said_all un.0 (subst (λ z. AreNotSaid z) same_back quiet.1);
      },
      subst (λ z. AllBeyond G z) (sym w.split) quiet.0,
    )
      where
        w : WereFew G h i
        w = may.2

        asked : (part G 0 h).asked ≡ Some w.ask
        asked = subst (λ j. (part G j h).asked ≡ Some w.ask) may.0 w.asked

        was : (part G 0 w.before).asked ≡ Some w.ask
        was = subst (λ j. (part G j w.before).asked ≡ Some w.ask) may.0 w.since

        k : AsksFeed h w.ask
        k = asks_feed h legal all w.ask asked

        legal' : IsLegalHistory G (w.later ++ w.before)
        legal' = subst (λ z. IsLegalHistory G z) w.split legal

        legal'' : IsLegalHistory G (k.mid ++ (0, Ask w.ask) ∷ k.before)
        legal'' = subst (λ z. IsLegalHistory G z) k.is legal

        un : (back : List Line) × (lines G (w.later ++ w.before) ≡ lines G w.before ++ back) × AreUnread back
        un = unread_since G w.later w.before w.ask legal' was (subst (λ z. (part G 0 z).asked ≡ Some w.ask) w.split asked)

        -- the ask is new where it is made
        none : (x : ℕ × ActorEvent) (z : List (ℕ × ActorEvent)) → (0, Ask w.ask) ∷ k.before ≡ x ∷ (z ++ w.before) → ⊥
        none x z e =
            let t : k.before ≡ z ++ w.before = cc in
            let a = asks_long z w.before w.ask (asked_in G w.before 0 w.ask was) in
            let b = subst (λ y. IsLegalHistory G ((0, Ask w.ask) ∷ y)) t (legal_rest G k.mid ((0, Ask w.ask) ∷ k.before) legal'') in
            b.0.0.0.at a.it a.mem a.is

        from_ask : ((v : List (ℕ × ActorEvent)) × (w.before ≡ v ++ (0, Ask w.ask) ∷ k.before) × (k.mid ≡ w.later ++ v)) ⊎ ((x : ℕ × ActorEvent) × (z : List (ℕ × ActorEvent)) × ((0, Ask w.ask) ∷ k.before ≡ x ∷ (z ++ w.before))) → AllBeyond G w.before × NoBarrier w.later
        from_ask (inr n) = absurd (none n.0 n.1 n.2)
        from_ask (inl v) =
            let bare = subst (λ z. NoBarrier z) v.2 k.bare in (
              subst (λ z. AllBeyond G z) (sym v.1) (hush G fits follows v.0 ((0, Ask w.ask) ∷ k.before) (subst (λ z. IsLegalHistory G z) v.1 (legal_rest G w.later w.before legal')) (no_barrier_right w.later v.0 bare) (behind_ask h w.ask legal k (same_place k next))).0,
              no_barrier_left w.later v.0 bare,
            )

        there' : AllBeyond G w.before × NoBarrier w.later
        there' = from_ask (two_ends k.mid ((0, Ask w.ask) ∷ k.before) w.later w.before (sym k.is ∙ w.split))

        quiet : AllBeyond G (w.later ++ w.before) × AreNotSaid (since G w.later w.before)
        quiet = hush G fits follows w.later w.before legal' there'.1 there'.0

        same_back : since G w.later w.before ≡ un.0
        same_back = cancel (lines G w.before) (since G w.later w.before) un.0 (sym (lines_since G w.later w.before) ∙ un.1)
