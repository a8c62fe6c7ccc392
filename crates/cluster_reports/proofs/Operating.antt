-- The lines of a finished history that is by the script are those of an operator, and its report is lawful.
use Rattle.std.proofs.Common.{◌≡◌, ℕ, ◌+◌, ◌<◌, ◌≤◌, List, [], ◌∷◌, ◌++◌, length, take, arith, refl, ap, sym, subst, ◌∙◌, length-append}
use Rattle.std.specs.Prelude.{◌==◌, Bool, true, false, Option, Some, None, is_some}
use Rattle.std.specs.Str.{bytes_eq}
use Rattle.std.proofs.lemmas.Bool.Decides.{Decides-eqb}
use mathlib.Core.Logic.{◌⊎◌, inl, inr}
use Rattle.cdb_values.specs.Rows.{Rows}
use Rattle.cluster_consensus.specs.Events.NodeEvent.{Down, Boot, Back, BackLead, BackTake, BackGrow, BackAppend}
use Rattle.cluster_events.proofs.HistoryLaws.{legal_rest}
use Rattle.cluster_events.proofs.LineLists.{append_assoc, append_nil, along_weaker}
use Rattle.cluster_events.proofs.LinePlaces.{each_line}
use Rattle.cluster_events.proofs.OwnLines.{knows}
use Rattle.cluster_events.specs.ByScript.{AllHeed}
use Rattle.cluster_events.specs.Guards.{MayDo, IsLegalHistory, AllBeyond}
use Rattle.cluster_events.specs.LinePlaces.{HasPlaceAmongNodes}
use Rattle.cluster_events.specs.Operator.{operators_if, operators_from, duty, count_of}
use Rattle.cluster_events.specs.Parts.{ActorEvent, part, barriers_printed, up_line, lines_by, lines}
use Rattle.cluster_events.specs.Parts.ActorEvent.{Node, Stop, Begun, Say, Note, Finish, Barrier, Fed, FedAgain}
use Rattle.cluster_events.specs.Settings.{Setting, basis_from, work_of, lines_to_do, closing}
use Rattle.cluster_feeds.proofs.FedLaws.{fed_again}
use Rattle.cluster_reports.proofs.ArmLaws.{arms_of, fit_arms, arms_apart, FiresAt, StopsAt, find, fires_in, armed_there}
use Rattle.cluster_reports.proofs.LastFeed.{covers_all, repeats_all, goes_beyond}
use Rattle.cluster_reports.proofs.LawfulRuns.{none_told}
use Rattle.cluster_reports.proofs.OrderLaws.{Run}
use Rattle.cluster_reports.proofs.PlaceLaws.{two_ends, bars, AtLine, at_line}
use Rattle.cluster_reports.proofs.RestLaws.{behind_front, behind_pieces}
use Rattle.cluster_reports.proofs.SessionLaws.{rests, none_left, nothing_beyond, step_of, hush, told_none, since, lines_since, barrier_passed}
use Rattle.cluster_reports.proofs.StandLaws.{PlacedTo, Free, Stand, stands}
use Rattle.cluster_reports.proofs.WorkPieces.{IsShaped, shaped, work_over, todo, items_todo, open_todo}
use Rattle.cluster_reports.specs.Lawful.{IsLawfulBesideOperator}
use Rattle.cluster_reports.specs.Runs.{FitsScript, FollowsScript}
use Rattle.cluster_reports.specs.SessionLines.{lines_behind, behind_lines, barriers_passed}
use Rattle.core_lists.proofs.Lists.{each_add, each_none}
use Rattle.core_lists.specs.Lists.{Each}
use Rattle.node_reports.specs.Fed.{IsFedAt, AreFeeds}
use Rattle.node_reports.specs.Lawful.{LawfulOfNodes}
use Rattle.node_reports.specs.Operator.{operators, is_barrier, barrier_lines, IsHeeded, AreHeeded, Closes, IsArmed, AreArmed, Operates}
use Rattle.node_reports.specs.Order.{last_fed}
use Rattle.node_reports.specs.Pieces.{AreOf, ArePieces}
use Rattle.node_reports.specs.Places.{HasPlace}
use Rattle.report_laws.proofs.WorkLaws.{said_append}
use Rattle.report_laws.specs.History.{Basis, view_of}
use Rattle.report_laws.specs.Lawful.{base_line}
use Rattle.report_laws.specs.Nodes.{is_up}
use Rattle.report_laws.specs.Told.{told, Numbered}
use Rattle.report_laws.specs.View.{View}
use Rattle.report_laws.specs.Work.{WorkItem, said, start, items_at, place_from, next_place, next_by, work}
use Rattle.report_text.specs.declared.reports.EntryLine.{EntryLine}
use Rattle.report_text.specs.declared.reports.FeedLine.{FeedLine}
use Rattle.report_text.specs.declared.reports.Line.{Line}
use Rattle.report_text.specs.declared.reports.Line.TheVariants as line
use Rattle.script_form.specs.declared.scripts.Act.{Act}
use Rattle.script_form.specs.declared.scripts.Act.TheVariants as act
use Rattle.script_form.specs.declared.scripts.BodyLine.{BodyLine}
use Rattle.script_form.specs.declared.scripts.Script.{Script}
use Rattle.session_language.specs.Each.{EachAfter}
use Rattle.session_language.specs.Language.{Language, Kind, BeginText, CommitText, RollbackText, LevelText, OtherText}

-- each line has its place in the words of reports of nodes

abbrev OfScript : Script → List Line → Line → Type 0
OfScript script before (line.Up node) = (1 ≤ node) × (node ≤ script.nodes)
OfScript script before _ = Unit {0}

up_of : (G : Setting) → G.nodes ≡ G.script.nodes → (before : List Line) (i : ℕ) → (1 ≤ i) × (i ≤ G.nodes) → Each (OfScript G.script before) (line.Up i ∷ [])
up_of G nodes before i k = each_add (k.0, subst (λ z. i ≤ z) nodes k.1) each_none

boot_of : (G : Setting) → G.nodes ≡ G.script.nodes → (before : List Line) (i : ℕ) (b : Bool) → (1 ≤ i) × (i ≤ G.nodes) → Each (OfScript G.script before) (up_line b i)
boot_of G nodes before i true k = each_none
boot_of G nodes before i false k = up_of G nodes before i k

of_script : (G : Setting) → G.nodes ≡ G.script.nodes → (h : List (ℕ × ActorEvent)) (i : ℕ) (e : ActorEvent) → IsLegalHistory G h → MayDo G h i e → Each (OfScript G.script (lines G h)) (lines_by G (lines G h) (part G i h) i e)
of_script G nodes h i (Node Down) legal may = each_add tt each_none
of_script G nodes h i (Node (Boot q a l)) legal may = boot_of G nodes (lines G h) i (is_up i (lines G h)) may.2
of_script G nodes h i (Node (Back q)) legal may = up_of G nodes (lines G h) i may.2
of_script G nodes h i (Node BackLead) legal may = up_of G nodes (lines G h) i may.2
of_script G nodes h i (Node (BackTake g l)) legal may = up_of G nodes (lines G h) i may.2
of_script G nodes h i (Node (BackGrow l)) legal may = up_of G nodes (lines G h) i may.2
of_script G nodes h i (Node (BackAppend e)) legal may = up_of G nodes (lines G h) i may.2
of_script G nodes h i (Node _) legal may = each_none
of_script G nodes h i Stop legal may = each_add tt each_none
of_script G nodes h i (Begun b g) legal may = each_add tt each_none
of_script G nodes h i (Say r) legal may = each_add tt each_none
of_script G nodes h i Note legal may = each_add tt each_none
of_script G nodes h i (Finish a) legal may = each_add tt each_none
of_script G nodes h i Barrier legal may = each_add tt each_none
of_script G nodes h i (Fed d g) legal may = each_add tt each_none
of_script G nodes h i (FedAgain d) legal may = each_add tt each_none
of_script G nodes h i _ legal may = each_none

place_of : (script : Script) (before : List Line) (l : Line) → HasPlaceAmongNodes script before l → OfScript script before l → HasPlace script before l
place_of script before (line.Session name t r) k o = k
place_of script before (line.Down c n f) k o = record { counted = k.counted; of_script = k.of_script; was_up = k.was_up }
place_of script before (line.Up n) k o = record { of_script = o; was_down = k }
place_of script before line.Barrier k o = tt
place_of script before (line.Fed d) k o = tt

places_of : (script : Script) (before ls : List Line) → EachAfter (HasPlaceAmongNodes script) before ls → EachAfter (OfScript script) before ls → EachAfter (HasPlace script) before ls
places_of script before [] k o = tt
places_of script before (l ∷ ls) k o = (place_of script before l k.0 o.0, places_of script (before ++ l ∷ []) ls k.1 o.1)

-- lists of the script's lines

take_front : (front rest : List BodyLine) → take (length front) (front ++ rest) ≡ front
take_front [] rest = refl
take_front (b ∷ front) rest = ap (λ z. b ∷ z) (take_front front rest)

at_nil : {A : Type 0} (a b : List A) → a ++ b ≡ [] → a ≡ []
at_nil [] b e = refl
at_nil (x ∷ a) b e = absurd (cc)

-- a barrier stands in the script, not behind it
in_script : {W : Type 0} (body : List BodyLine) (ws : List W) (front back : List BodyLine) (bar : BodyLine) → body ++ closing ws ≡ front ++ bar ∷ back → bar.act ≡ act.Barrier → (rest : List BodyLine) × (body ≡ front ++ bar ∷ rest)
in_script body [] front back bar e is = (back, sym (append_nil body) ∙ e)
in_script {W} body (w ∷ ws) front back bar e is = go (two_ends body (feed ∷ []) front (bar ∷ back) e)
  where
    feed : BodyLine
    feed = record { line = 0; act = act.Feed }

    none : bar ≡ record { line = 0; act = act.Feed } → ⊥
    none q = let a : act.Barrier ≡ act.Feed = sym is ∙ ap (λ z. z.act) q in absurd (cc)

    long : (z : List BodyLine) → [] ≡ z ++ bar ∷ back → ⊥
    long [] q = absurd (cc)
    long (x ∷ z) q = absurd (cc)

    go : ((v : List BodyLine) × (bar ∷ back ≡ v ++ record { line = 0; act = act.Feed } ∷ []) × (body ≡ front ++ v)) ⊎ ((x : BodyLine) × (z : List BodyLine) × (record { line = 0; act = act.Feed } ∷ [] ≡ x ∷ (z ++ bar ∷ back))) → (rest : List BodyLine) × (body ≡ front ++ bar ∷ rest)
    go (inr k) = absurd (long k.1 (let t : [] ≡ k.1 ++ bar ∷ back = tail k.2 in t))
      where
        tail : {x y : BodyLine} {xs ys : List BodyLine} → x ∷ xs ≡ y ∷ ys → xs ≡ ys
        tail q = cc
    go (inl k) = by k.0 k.1 k.2
      where
        head : {x y : BodyLine} {xs ys : List BodyLine} → x ∷ xs ≡ y ∷ ys → x ≡ y
        head q = cc

        by : (v : List BodyLine) → bar ∷ back ≡ v ++ record { line = 0; act = act.Feed } ∷ [] → body ≡ front ++ v → (rest : List BodyLine) × (body ≡ front ++ bar ∷ rest)
        by [] a b = absurd (none (head a))
        by (y ∷ v) a b = (v, b ∙ ap (λ z. front ++ z ∷ v) (sym (head a)))

ops_append : (n : ℕ) (a : List BodyLine) (b : BodyLine) → b.act ≡ act.Feed → operators_from n (a ++ b ∷ []) ≡ operators_from n a ++ (n + length a, act.Feed) ∷ []
ops_append n [] b is = ap (λ z. operators_if n z []) is ∙ ap (λ k. (k, act.Feed) ∷ []) (plus n)
  where
    plus : (n : ℕ) → n ≡ n + 0
    plus n = omega arith
ops_append n (x ∷ a) b is = ap (λ z. operators_if n x.act z) (ops_append (n + 1) a b is) ∙ (ap (λ k. operators_if n x.act (operators_from (n + 1) a ++ (k, act.Feed) ∷ [])) place ∙ inside x.act)
  where
    place : n + 1 + length a ≡ n + length (x ∷ a)
    place = omega arith

    inside : (c : Act) → operators_if n c (operators_from (n + 1) a ++ (n + length (x ∷ a), act.Feed) ∷ []) ≡ operators_if n c (operators_from (n + 1) a) ++ (n + length (x ∷ a), act.Feed) ∷ []
    inside (act.Say session text) = refl
    inside (act.Arm session moment) = refl
    inside (act.Stop node) = refl
    inside (act.Start node) = refl
    inside act.Barrier = refl
    inside act.Feed = refl

-- who has no work says nothing
said_none : (L : Language) (texts : List (List ℕ)) → items_at (place_from L start texts) ≡ [] → texts ≡ []
said_none L [] e = refl
said_none L (t ∷ ts) e = absurd (none (L.kind t) (sym (items_todo L (next_place L start t) ts) ∙ e))
  where
    none : (k : Kind) → (next_by start t k None).over ++ todo L (next_by start t k None).number (next_by start t k None).level (next_by start t k None).pending ts ≡ [] → ⊥
    none BeginText q = let w = sym (open_todo L 1 start.level [] ts) ∙ q in absurd (cc)
    none CommitText q = absurd (cc)
    none RollbackText q = absurd (cc)
    none (LevelText level) q = absurd (cc)
    none OtherText q = absurd (cc)

-- the operator is told nothing
operator_told : (G : Setting) → FitsScript G → FollowsScript G → (h : List (ℕ × ActorEvent)) → IsLegalHistory G h → (part G 0 h).told ≡ []
operator_told G fits follows [] legal = refl
operator_told G fits follows (x ∷ h) legal = elim (step_of G fits x h 0 legal) [ inl k ↦ k.0 ∙ operator_told G fits follows h legal.1 | inr k ↦ absurd (k.3 (none_left G follows h)) ]

module _ (G : Setting) (fits : FitsScript G) (follows : FollowsScript G) (H : List (ℕ × ActorEvent)) (whole : IsLegalHistory G H) (all : AllHeed G (lines_to_do G) H) (over_duty : (duty (lines_to_do G) H).left ≡ [])
    (base : ℕ) (rows : Rows) (entries : List EntryLine) (end : ℕ)
    (beside : IsLawfulBesideOperator (basis_from G base rows) (record { lines = lines G H; base = base_line base; entries = entries; feeds = []; end = end }))
    (answered : (h w : List (ℕ × ActorEvent)) (i d g : ℕ) → w ++ (i, Fed d g) ∷ h ≡ H → IsFedAt (basis_from G base rows) (view_of (basis_from G base rows) entries) (lines G h) d) where
  abbrev B : Basis
  B = basis_from G base rows

  abbrev V : View
  V = view_of (basis_from G base rows) entries

  abbrev todo_lines : List BodyLine
  todo_lines = G.script.body ++ closing G.script.watches

  -- all texts are over at the end, and where a session has done its work
  over_all : (s : ℕ) → (r : List Numbered) × (behind_lines G.language (G.names s) G.script.body (told (G.names s) (lines G H)) ≡ Some r)
  over_all s = work_over G.language (said (G.names s) G.script.body) (told (G.names s) (lines G H)) (along_weaker _ IsShaped (work_of G s) (told (G.names s) (lines G H)) (λ i m k. shaped (basis_from G base rows) (view_of (basis_from G base rows) entries) (G.names s) follows.answers i m k) (beside.replies (G.names s)))

  full : (h w : List (ℕ × ActorEvent)) (s : ℕ) → H ≡ w ++ h → (part G s h).left ≡ [] → (r : List Numbered) × (behind_lines G.language (G.names s) G.script.body (part G s h).told ≡ Some r)
  full h w s is q =
      let r = over_all s in
      let k = rests G fits w h s (subst (λ z. IsLegalHistory G z) is whole) q in
      (r.0, ap (λ z. behind_lines G.language (G.names s) G.script.body z) (sym (knows G fits.apart H s ∙ (ap (λ z. (part G s z).told) is ∙ k.1))) ∙ r.1)

  legal_at : (w h : List (ℕ × ActorEvent)) → w ++ h ≡ H → IsLegalHistory G h
  legal_at w h e = legal_rest G w h (subst (λ z. IsLegalHistory G z) (sym e) whole)

  -- at a barrier
  told_there : (h w : List (ℕ × ActorEvent)) → w ++ h ≡ H → AllBeyond G h → (front back : List BodyLine) (bar : BodyLine) → G.script.body ≡ front ++ bar ∷ back → bar.act ≡ act.Barrier → barriers_printed h ≡ barrier_lines front → (s : ℕ) → AreOf G.language (G.names s) front (told (G.names s) (lines G h))
  told_there h w e beyond front back bar body is count s = go (s == 0) refl
    where
      legal : IsLegalHistory G h
      legal = legal_at w h e

      texts : said (G.names s) G.script.body ≡ said (G.names s) front ++ said (G.names s) (bar ∷ back)
      texts = ap (λ z. said (G.names s) z) body ∙ said_append (G.names s) front (bar ∷ back)

      of_rest : (r : List Numbered) × (behind_lines G.language (G.names s) front (part G s h).told ≡ Some r) → AreOf G.language (G.names s) front (told (G.names s) (lines G h))
      of_rest r =
          let none = nothing_beyond G fits follows h legal s front back bar body (ap (λ z. is_barrier z) is) (let c : barriers_printed h ≡ barrier_lines front = count in omega arith) r.0 r.1 in
          let k = behind_pieces G.language [] start (said (G.names s) front) (part G s h).told r.0 r.1 in
          subst (λ z. AreOf G.language (G.names s) front z) (sym (knows G fits.apart h s ∙ (k.1 ∙ (ap (λ z. k.0 ++ z) none ∙ append_nil k.0)))) k.2

      some : (o : Option (List Numbered)) → is_some o ≡ true → (r : List Numbered) × (o ≡ Some r)
      some None q = absurd (cc)
      some (Some r) q = (r, refl)

      by_left : (ls : List WorkItem) → (part G s h).left ≡ ls → (s == 0) ≡ false → AreOf G.language (G.names s) front (told (G.names s) (lines G h))
      by_left [] q ns =
          let f = full h w s (sym e) q in
          of_rest (behind_front G.language [] start (said (G.names s) front) (said (G.names s) (bar ∷ back)) (part G s h).told f.0 (ap (λ z. lines_behind G.language [] start z (part G s h).told) (sym texts) ∙ f.1))
      by_left (i ∷ ls) q ns =
          let lt : barriers_printed h < G.phase s (part G s h).told = beyond s ns (λ z. absurd (let y = sym q ∙ z in cc)) in
          let p : G.phase s (part G s h).told ≡ barriers_passed G.language (G.names s) [] (front ++ bar ∷ back) (part G s h).told = follows.phase s ns (part G s h).told ∙ ap (λ z. barriers_passed G.language (G.names s) [] z (part G s h).told) body in
          let c : barriers_printed h ≡ barrier_lines front = count in
          of_rest (some (behind_lines G.language (G.names s) front (part G s h).told) (barrier_passed G.language (G.names s) front (bar ∷ back) (part G s h).told (omega arith)))

      go : (b : Bool) → (s == 0) ≡ b → AreOf G.language (G.names s) front (told (G.names s) (lines G h))
      go false q = by_left (part G s h).left refl q
      go true q =
          let z : s ≡ 0 = (Decides-eqb s 0).0 q in
          let none : said (G.names s) front ≡ [] = at_nil (said (G.names s) front) (said (G.names s) (bar ∷ back)) (sym texts ∙ (ap (λ j. said (G.names j) G.script.body) z ∙ follows.operator)) in
          subst (λ t. ArePieces G.language [] start t (told (G.names s) (lines G h))) (sym none) (knows G fits.apart h s ∙ (ap (λ j. (part G j h).told) z ∙ operator_told G fits follows h legal))

  at_bar : (arms : ℕ → Option ℕ) (h w : List (ℕ × ActorEvent)) (i k : ℕ) (done rest : List (ℕ × Act)) → w ++ (i, Barrier) ∷ h ≡ H → Run G (lines_to_do G) arms ((i, Barrier) ∷ h) → done ++ (k, act.Barrier) ∷ rest ≡ operators_from 0 (lines_to_do G) → barriers_printed h ≡ bars done → (name : List ℕ) → AreOf G.language name (take k (lines_to_do G)) (told name (lines G h))
  at_bar arms h w i k done rest e run ops count name = subst (λ z. AreOf G.language name z (told name (lines G h))) (sym taken) (of_name (fits.covers name))
    where
      a : AtLine 0 (lines_to_do G) done k act.Barrier
      a = at_line 0 (lines_to_do G) done k act.Barrier rest ops

      in_body : (rest : List BodyLine) × (G.script.body ≡ a.front ++ a.bar ∷ rest)
      in_body = in_script G.script.body G.script.watches a.front a.back a.bar a.stands a.is

      taken : take k (lines_to_do G) ≡ a.front
      taken =
          let p : k ≡ 0 + length a.front = a.place in
          let p' : k ≡ length a.front = omega arith in
          ap (λ z. take z (lines_to_do G)) p' ∙ (ap (λ z. take (length a.front) z) a.stands ∙ take_front a.front (a.bar ∷ a.back))

      w' : (w ++ (i, Barrier) ∷ []) ++ h ≡ H
      w' = append_assoc w ((i, Barrier) ∷ []) h ∙ e

      of_name : ((s : ℕ) × (G.names s ≡ name)) ⊎ ((work G.language name G.script.body ≡ []) × ((i : ℕ) → bytes_eq (G.names i) name ≡ false)) → AreOf G.language name a.front (told name (lines G h))
      of_name (inl s) = subst (λ z. AreOf G.language z a.front (told z (lines G h))) s.1 (told_there h (w ++ (i, Barrier) ∷ []) w' run.legal.0.1 a.front in_body.0 a.bar in_body.1 a.is (count ∙ sym a.before) s.0)
      of_name (inr n) =
          let none : said name a.front ≡ [] = at_nil (said name a.front) (said name (a.bar ∷ in_body.0)) (sym (ap (λ z. said name z) in_body.1 ∙ said_append name a.front (a.bar ∷ in_body.0)) ∙ said_none G.language (said name G.script.body) n.0) in
          subst (λ t. ArePieces G.language [] start t (told name (lines G h))) (sym none) (none_told G name n.1 h)

  -- the arms of the whole history
  abbrev arms : ℕ → Option ℕ
  arms = arms_of G (lines_to_do G) H all

  run : Run G (lines_to_do G) (arms_of G (lines_to_do G) H all) H
  run = record { legal = whole; all = all; fits = fit_arms G (lines_to_do G) H all (arms_of G (lines_to_do G) H all) (λ n le. refl) }

  stand : Stand G (lines_to_do G) (arms_of G (lines_to_do G) H all) (basis_from G base rows) (view_of (basis_from G base rows) entries) (length G.script.body) H
  stand = stands G (lines_to_do G) (arms_of G (lines_to_do G) H all) (basis_from G base rows) (view_of (basis_from G base rows) entries) (length G.script.body) H
      (at_bar (arms_of G (lines_to_do G) H all))
      (λ h w i d g e r. inl (answered h w i d g e))
      (λ h w i d e r. inr (fed_again G base rows fits.nodes h i d r.legal.1 r.legal.0))
      (λ h w i d g rest e r next. (
      let c = covers_all G fits follows h i d g rest r.legal.1 r.all.1 r.legal.0 next in
      (inl (answered h w i d g e, c.0), goes_beyond G fits follows (i, Fed d g) h r.legal refl c.1)))
      (λ h w i d rest e r next. (
      let c = repeats_all G fits follows base rows fits.nodes h i d rest r.legal.1 r.all.1 r.legal.0 next in
      (inr c.0, goes_beyond G fits follows (i, FedAgain d) h r.legal refl c.1)))
      H [] refl run

  -- the places of the operator's lines, line by line of the script
  abbrev Placed : List (ℕ × Act) → List Line → List Line → Type 0
  Placed xs before rest = PlacedTo G (lines_to_do G) (arms_of G (lines_to_do G) H all) (basis_from G base rows) (view_of (basis_from G base rows) entries) (length G.script.body) xs before rest

  abbrev Heeded : List BodyLine → List BodyLine → List Line → List Line → Type 0
  Heeded done bs before rest = AreHeeded (basis_from G base rows) (view_of (basis_from G base rows) entries) (arms_of G (lines_to_do G) H all) done bs before rest

  abbrev Later : List Line → List BodyLine → BodyLine → List BodyLine → Type 0
  Later tail done b bs = (before' rest' : List Line) → Placed (operators_from (length done + 1) (bs ++ closing G.script.watches)) before' rest' → Heeded (done ++ b ∷ []) bs before' (rest' ++ tail)

  module _ (tail : List Line) (silent : operators (arms_of G (lines_to_do G) H all) tail ≡ []) (still : (w : ℕ) (ws : List ℕ) → G.script.watches ≡ w ∷ ws → (name : List ℕ) → told name tail ≡ []) where
    closes : (done : List BodyLine) → G.script.body ≡ done ++ [] → (ws : List ℕ) → G.script.watches ≡ ws → (before rest : List Line) → Placed (operators_from (length done) (closing ws)) before rest
        → Closes (basis_from G base rows) (view_of (basis_from G base rows) entries) (arms_of G (lines_to_do G) H all) ws before (rest ++ tail)
    closes done is [] q before rest p = ap (λ z. operators (arms_of G (lines_to_do G) H all) (z ++ tail)) p ∙ silent
    closes done is (w ∷ ws) q before rest p =
        let here : length done ≡ length G.script.body = ap (λ z. length z) (sym (is ∙ append_nil done)) in
        let k = p.3.1 here refl in
        record {
          front = k.front;
          position = k.position;
          back = tail;
          says = ap (λ z. z ++ tail) (p.2 ∙ (ap (λ z. p.0 ++ z) p.4 ∙ (append_nil p.0 ∙ k.says))) ∙ append_assoc k.front (line.Fed k.position ∷ []) tail;
          alone = k.alone;
          last = silent;
          quiet = still w ws q;
          right = k.right;
        }

    heeded : (done bs : List BodyLine) → G.script.body ≡ done ++ bs → (before rest : List Line) → Placed (operators_from (length done) (bs ++ closing G.script.watches)) before rest → Heeded done bs before (rest ++ tail)
    heeded done [] is before rest p = closes done is G.script.watches refl before rest p
    heeded done (b ∷ bs) is before rest p = go b.act refl p (λ before' rest' p'. heeded (done ++ b ∷ []) bs is' before' rest' (subst (λ n. Placed (operators_from n (bs ++ closing G.script.watches)) before' rest') next p'))
      where
        is' : G.script.body ≡ (done ++ b ∷ []) ++ bs
        is' = is ∙ sym (append_assoc done (b ∷ []) bs)

        next : length done + 1 ≡ length (done ++ b ∷ [])
        next = sym (length-append done (b ∷ []))

        taken : take (length done) (lines_to_do G) ≡ done
        taken = ap (λ z. take (length done) z) (ap (λ z. z ++ closing G.script.watches) is ∙ append_assoc done (b ∷ bs) (closing G.script.watches)) ∙ take_front done ((b ∷ bs) ++ closing G.script.watches)

        none : (a : Act) → b.act ≡ a → IsHeeded (basis_from G base rows) (view_of (basis_from G base rows) entries) (arms_of G (lines_to_do G) H all) done before a [] → Placed (operators_from (length done + 1) (bs ++ closing G.script.watches)) before rest → Later tail done b bs → Heeded done (b ∷ bs) before (rest ++ tail)
        none a q k p more = (
          [],
          rest ++ tail,
          refl,
          subst (λ z. IsHeeded (basis_from G base rows) (view_of (basis_from G base rows) entries) (arms_of G (lines_to_do G) H all) done before z []) (sym q) k,
          more (before ++ []) rest (subst (λ z. Placed (operators_from (length done + 1) (bs ++ closing G.script.watches)) z rest) (sym (append_nil before)) p),
        )

        own : (a : Act) → b.act ≡ a → Placed ((length done, a) ∷ operators_from (length done + 1) (bs ++ closing G.script.watches)) before rest → Later tail done b bs → Heeded done (b ∷ bs) before (rest ++ tail)
        own a q p more = (
          p.0,
          p.1 ++ tail,
          ap (λ z. z ++ tail) p.2 ∙ append_assoc p.0 p.1 tail,
          subst (λ z. IsHeeded (basis_from G base rows) (view_of (basis_from G base rows) entries) (arms_of G (lines_to_do G) H all) done before z p.0) (sym q) (subst (λ z. IsHeeded (basis_from G base rows) (view_of (basis_from G base rows) entries) (arms_of G (lines_to_do G) H all) z before a p.0) taken p.3.0),
          more (before ++ p.0) p.1 p.4,
        )

        go : (a : Act) → b.act ≡ a → Placed (operators_if (length done) a (operators_from (length done + 1) (bs ++ closing G.script.watches))) before rest → Later tail done b bs → Heeded done (b ∷ bs) before (rest ++ tail)
        go (act.Say session text) q p more = none (act.Say session text) q refl p more
        go (act.Arm session moment) q p more = none (act.Arm session moment) q refl p more
        go (act.Stop node) q p more = own (act.Stop node) q p more
        go (act.Start node) q p more = own (act.Start node) q p more
        go act.Barrier q p more = own act.Barrier q p more
        go act.Feed q p more = own act.Feed q p more

  behind_all : List Line
  behind_all = since G stand.mid stand.last'

  free : Free G (lines_to_do G) (arms_of G (lines_to_do G) H all) (basis_from G base rows) (view_of (basis_from G base rows) entries) (length G.script.body) H stand.mid stand.last'
  free = elim stand.now [ inl f ↦ f | inr u ↦ absurd (let e = sym over_duty ∙ u.next in cc) ]

  done_all : stand.done ≡ operators_from 0 (lines_to_do G)
  done_all = sym (append_nil stand.done) ∙ (ap (λ z. stand.done ++ z) (sym over_duty) ∙ stand.whole)

  split_all : lines G H ≡ lines G stand.last' ++ since G stand.mid stand.last'
  split_all = ap (λ z. lines G z) stand.split ∙ lines_since G stand.mid stand.last'

  still_all : (w : ℕ) (ws : List ℕ) → G.script.watches ≡ w ∷ ws → (name : List ℕ) → told name (since G stand.mid stand.last') ≡ []
  still_all w ws q name =
      let ops : operators_from 0 (lines_to_do G) ≡ operators_from 0 G.script.body ++ (0 + length G.script.body, act.Feed) ∷ [] = ap (λ z. operators_from 0 (G.script.body ++ closing z)) q ∙ ops_append 0 G.script.body (record { line = 0; act = act.Feed }) refl in
      let zero_plus : 0 + length G.script.body ≡ length G.script.body = omega arith in
      let beyond = stand.ended (operators_from 0 G.script.body) (done_all ∙ (ops ∙ ap (λ z. operators_from 0 G.script.body ++ (z, act.Feed) ∷ []) zero_plus)) in
      told_none name (since G stand.mid stand.last') (hush G fits follows stand.mid stand.last' (subst (λ z. IsLegalHistory G z) stand.split whole) stand.bare beyond).1

  heeded_all : Heeded [] G.script.body [] (lines G H)
  heeded_all = subst (λ z. Heeded [] G.script.body [] z) (sym split_all) (heeded (since G stand.mid stand.last') free.alone still_all [] G.script.body refl [] (lines G stand.last') (subst (λ z. Placed z [] (lines G stand.last')) done_all stand.places))

  -- each armed stop has its arm
  armed_all : AreArmed (basis_from G base rows) (arms_of G (lines_to_do G) H all) (lines G H)
  armed_all before after count node place e arm =
      subst (λ z. IsArmed (basis_from G base rows) z after place) (sym at.lined)
      (armed_there G fits follows H whole all full over_all at.there' at.later node at.split after
      (e ∙ (ap (λ z. z ++ line.Down count node false ∷ after) at.lined ∙ ap (λ z. lines G at.there' ++ line.Down z node false ∷ after) at.counted'))
      base rows place fires.0 fires.1)
    where
      at : StopsAt G H before count node
      at = find G H H [] refl before after count node e

      fires : FiresAt at.there' node place × ((count_of node at.there').up ≡ true)
      fires = fires_in G (lines_to_do G) (arms_of G (lines_to_do G) H all) at.later at.there' node place (subst (λ z. Run G (lines_to_do G) (arms_of G (lines_to_do G) H all) z) at.split run) (ap (λ n. arms_of G (lines_to_do G) H all n) (sym at.counted') ∙ arm)

  operates : Operates (basis_from G base rows) (view_of (basis_from G base rows) entries) (lines G H)
  operates = record {
    arms = arms_of G (lines_to_do G) H all;
    armed = armed_all;
    apart = arms_apart G fits.apart (lines_to_do G) H all;
    heeded = heeded_all;
  }

  -- with any feeds that fit
  pub lawful_of_nodes : (feeds : List FeedLine) → AreFeeds (basis_from G base rows) (view_of (basis_from G base rows) entries) (last_fed 0 (lines G H)) 1 G.script.watches feeds
      → LawfulOfNodes (basis_from G base rows) (record { lines = lines G H; base = base_line base; entries = entries; feeds = feeds; end = end })
  lawful_of_nodes feeds are = record {
    replies = beside.replies;
    begins = beside.begins;
    history = beside.history;
    answered = beside.answered;
    places = places_of G.script [] (lines G H) beside.places (each_line G (OfScript G.script) (of_script G fits.nodes) H whole);
    operator = operates;
    feeds = are;
    base = beside.base;
    end = beside.end;
  }
