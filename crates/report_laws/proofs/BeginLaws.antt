-- Where a begin is told: it is the first line of its transaction, and a majority of the nodes is up behind the lines before
-- it. So none is told behind a line that the one node went down.
use Rattle.std.proofs.Common.{◌≡◌, ℕ, zero, suc, ◌+◌, ◌*◌, ◌≤◌, ◌==◌, ◌&&◌, ◌||◌, List, [], ◌∷◌, ◌++◌, refl, sym, subst, ap, arith, ◌∙◌, Option, Some, None, append_assoc, Bool, true, false, if◌then◌else◌, ◌⊎◌, inl, inr, leb}
use Rattle.std.proofs.lemmas.Bool.{ne_eqb, both_ways, false≢true, true≢false}
use Rattle.std.proofs.lemmas.List.{append-nil}
use Rattle.std.proofs.lemmas.Slice.Eq.{bytes_eq-Decides}
use Rattle.std.specs.List.{AllByRecursion}
use Rattle.std.specs.Str.{bytes_eq}
use Rattle.script_form.specs.declared.scripts.BodyLine.{BodyLine}
use Rattle.script_form.specs.declared.scripts.Act.{Act}
use Rattle.script_form.specs.declared.scripts.Act.TheVariants as act
use Rattle.script_form.specs.declared.scripts.Script.{Script}
use Rattle.session_language.specs.Answers.{Answers, IsPlain, ArePlain}
use Rattle.session_language.specs.Each.{StandsIn}
use Rattle.session_language.specs.Replies.{are_up_to, is_last_of}
use Rattle.session_language.specs.Language.{Language, Answered, Kind, BeginText, CommitText, RollbackText, LevelText, OtherText}
use Rattle.report_laws.specs.Cut.{cuts}
use Rattle.report_laws.specs.History.{Basis, last_position, view_of}
use Rattle.report_laws.specs.Lawful.{Lawful}
use Rattle.report_laws.specs.Nodes.{downs, up_from, is_up, up_count, are_few}
use Rattle.report_laws.specs.Outcome.{IsDecided, IsOneDecision, Ends}
use Rattle.report_laws.specs.Places.{GoesDown}
use Rattle.report_laws.specs.Play.{InPlayOrder, InTurns, IsTurnOf, IsSaid, IsDownLine, opened_behind, begins, is_begin, lacks_majority, node_of, number_by, number_told, was_cut}
use Rattle.report_laws.specs.Told.{told, Along, IsTold, Numbered, numbered, lines_of, alone_at}
use Rattle.report_laws.specs.View.{View}
use Rattle.report_laws.specs.Work.{Transaction, WorkItem, Does, Lone, End, ByCommit, ByRollback, WithItsLine, Nowhere, Place, start, work, open_item, next_by, next_place, place_from, place_after, said}
use Rattle.report_text.specs.declared.reports.EntryLine.{EntryLine}
use Rattle.report_text.specs.declared.reports.Line.{Line}
use Rattle.report_text.specs.declared.reports.Line.TheVariants as line
use Rattle.cdb_values.specs.declared.replies.Reply.{Reply}
use Rattle.cdb_values.specs.declared.replies.Reply.TheVariants as reply
use Rattle.report_text.specs.declared.reports.Report.{Report}
use Rattle.session_language.proofs.AllLaws.{all_behind}
use Rattle.session_language.proofs.EachLaws.{all_append, all_front, all_map}
use Rattle.session_language.proofs.UpToLaws.{same_head, same_tail}
use Rattle.report_laws.proofs.DownLaws.{or_memory}
use Rattle.report_laws.proofs.AlongLaws.{of_number, of_another}
use Rattle.report_laws.proofs.LawLemmas.{has_its_place}
use Rattle.report_laws.proofs.NodesLaws.{IsNoUp, none_up, is_down_behind, up_append}
use Rattle.report_laws.proofs.OneLaws.{IsQuiet, said_or_quiet, quiet_turn, quiet_place}
use Rattle.report_laws.proofs.PieceLaws.{under, under_append, under_own}
use Rattle.report_laws.proofs.PlainLaws.{plain_alone}
use Rattle.report_laws.proofs.RestLemmas.{items_are, rest_rises, Rising}
use Rattle.report_laws.proofs.SoFarLemmas.{same_name}
use Rattle.report_laws.proofs.ToldLaws.{told_append}
use Rattle.report_laws.proofs.WorkLaws.{after_own, after_other}

-- the replies of a transaction: none but the first is a begin

abbrev IsNoBegin : Reply → Type 0
IsNoBegin r = is_begin r ≡ false

plain_no_begin : (r : Reply) → IsPlain r → is_begin r ≡ false
plain_no_begin (reply.Begin position) is = absurd is
plain_no_begin _ is = refl

decided_no_begin : (r : Reply) → IsDecided r → is_begin r ≡ false
decided_no_begin (reply.Begin position) is = absurd is
decided_no_begin _ is = refl

cut_no_begin : (r : Reply) → cuts r ≡ true → is_begin r ≡ false
cut_no_begin (reply.Begin position) is = absurd (false≢true is)
cut_no_begin _ is = refl

one_no_begin : (last : List Reply) → IsOneDecision last → AllByRecursion IsNoBegin last
one_no_begin [] is = absurd is
one_no_begin (o ∷ []) is = (decided_no_begin o is, tt)
one_no_begin (_ ∷ _ ∷ _) is = absurd is

end_no_begin : (end : End) (last : List Reply) → Ends end last → AllByRecursion IsNoBegin last
end_no_begin ByCommit last is = one_no_begin last is
end_no_begin ByRollback last is = subst (AllByRecursion IsNoBegin) (sym is) (refl, tt)
end_no_begin WithItsLine last is = one_no_begin last is
end_no_begin Nowhere last is = subst (AllByRecursion IsNoBegin) (sym is) tt

abbrev HeadAlone : List Reply → Type 0
HeadAlone [] = Unit {0}
HeadAlone (r ∷ rs) = AllByRecursion IsNoBegin rs

cut_alone : (front rest replies : List Reply) (begin : ℕ) (cause : Reply) → front ++ rest ≡ reply.Begin begin ∷ replies → AllByRecursion IsNoBegin replies → is_begin cause ≡ false → HeadAlone (front ++ cause ∷ [])
cut_alone [] rest replies begin cause fits all is = tt
cut_alone (r ∷ front) rest replies begin cause fits all is =
    all_append IsNoBegin front (cause ∷ []) (all_front IsNoBegin front rest (subst (AllByRecursion IsNoBegin) (sym (same_tail r (reply.Begin begin) (front ++ rest) replies fits)) all)) (is, tt)

ran_no_begin : (basis : Basis) → Answers basis.language → (view : View) (begin : ℕ) (t : Transaction) (ran : Answered) → ran ≡ alone_at basis view t begin → AllByRecursion IsNoBegin ran.replies
ran_no_begin basis answers view begin t ran is =
    all_map IsPlain IsNoBegin plain_no_begin ran.replies
    (subst (λ (a : Answered). ArePlain a.replies) (sym is) (plain_alone basis.language answers basis.origin.tables (view.rows begin).tables [] t.texts))

told_alone : (basis : Basis) → Answers basis.language → (view : View) (name : List ℕ) (item : WorkItem) (mine : List Reply) → IsTold basis view name item mine → HeadAlone mine
told_alone basis answers view name (Does t) mine (inl w) =
    subst HeadAlone (sym w.says) (all_append IsNoBegin w.ran.replies w.last (ran_no_begin basis answers view w.begin t w.ran w.is_ran) (end_no_begin t.end w.last w.ends))
told_alone basis answers view name (Does t) mine (inr c) =
    subst HeadAlone (sym c.says) (cut_alone c.front c.rest c.ran.replies c.begin c.cause c.fits (ran_no_begin basis answers view c.begin t c.ran c.is_ran) (cut_no_begin c.cause c.is_cause))
told_alone basis answers view name (Lone answer) mine is = subst HeadAlone (sym is) tt

-- a session's work: no line outside a transaction is told a begin

abbrev IsNoLoneBegin : WorkItem → Type 0
IsNoLoneBegin (Does t) = Unit {0}
IsNoLoneBegin (Lone answer) = is_begin answer ≡ false

one_lone : (over : List WorkItem) (item : WorkItem) → AllByRecursion IsNoLoneBegin over → IsNoLoneBegin item → AllByRecursion IsNoLoneBegin (over ++ item ∷ [])
one_lone over item all is = all_append IsNoLoneBegin over (item ∷ []) all (is, tt)

next_lones : (p : Place) (text : List ℕ) (kind : Kind) (pending : Option (List (List ℕ))) → AllByRecursion IsNoLoneBegin p.over → AllByRecursion IsNoLoneBegin (next_by p text kind pending).over
next_lones p text BeginText None all = all
next_lones p text CommitText None all = one_lone p.over _ all refl
next_lones p text RollbackText None all = one_lone p.over _ all refl
next_lones p text (LevelText level) None all = one_lone p.over _ all refl
next_lones p text OtherText None all = one_lone p.over _ all tt
next_lones p text BeginText (Some texts) all = all
next_lones p text CommitText (Some texts) all = one_lone p.over _ all tt
next_lones p text RollbackText (Some texts) all = one_lone p.over _ all tt
next_lones p text (LevelText level) (Some texts) all = all
next_lones p text OtherText (Some texts) all = all

place_lones : (language : Language) (p : Place) (texts : List (List ℕ)) → AllByRecursion IsNoLoneBegin p.over → AllByRecursion IsNoLoneBegin (place_from language p texts).over
place_lones language p [] all = all
place_lones language p (text ∷ texts) all = place_lones language (next_place language p text) texts (next_lones p text (language.kind text) p.pending all)

open_lones : (p : Place) (pending : Option (List (List ℕ))) → AllByRecursion IsNoLoneBegin (open_item p pending)
open_lones p None = tt
open_lones p (Some texts) = (tt, tt)

work_lones : (language : Language) (name : List ℕ) (body : List BodyLine) → AllByRecursion IsNoLoneBegin (work language name body)
work_lones language name body =
    let p : Place = place_after language name body in
    all_append IsNoLoneBegin p.over (open_item p p.pending) (place_lones language start (said name body) tt) (open_lones p p.pending)

-- a begin among what a session was told is the first under its number

-- it stands behind lines of which none is a begin
quiet_part : (m : ℕ) (rs : List Reply) (others front back : List Numbered) (n begin : ℕ) → AllByRecursion IsNoBegin rs → numbered m rs ++ others ≡ front ++ (n, reply.Begin begin) ∷ back →
    (later : List Numbered) × (front ≡ numbered m rs ++ later) × (others ≡ later ++ (n, reply.Begin begin) ∷ back)
quiet_part m [] others front back n begin all is = (front, refl, is)
quiet_part m (r ∷ rs) others [] back n begin all is =
    let head : (m, r) ≡ (n, reply.Begin begin) = same_head (m, r) (n, reply.Begin begin) (numbered m rs ++ others) back is in
    absurd (both_ways (is_begin r) all.0 (ap (λ (x : Numbered). is_begin x.1) head))
quiet_part m (r ∷ rs) others (x ∷ front) back n begin all is =
    let head : (m, r) ≡ x = same_head (m, r) x (numbered m rs ++ others) (front ++ (n, reply.Begin begin) ∷ back) is in
    let rest = quiet_part m rs others front back n begin all.1 (same_tail (m, r) x (numbered m rs ++ others) (front ++ (n, reply.Begin begin) ∷ back) is) in
    (rest.0, ap (λ (y : Numbered). y ∷ front) (sym head) ∙ ap (λ (ls : List Numbered). (m, r) ∷ ls) rest.1, rest.2)

-- so it is the first line of an item, or stands behind the item's lines
item_begins : (m : ℕ) (mine : List Reply) (others front back : List Numbered) (n begin : ℕ) → HeadAlone mine → numbered m mine ++ others ≡ front ++ (n, reply.Begin begin) ∷ back →
    ((front ≡ []) × (m ≡ n) × (rs : List Reply) × (mine ≡ reply.Begin begin ∷ rs)) ⊎ ((later : List Numbered) × (front ≡ numbered m mine ++ later) × (others ≡ later ++ (n, reply.Begin begin) ∷ back))
item_begins m [] others front back n begin all is = inr (front, refl, is)
item_begins m (r ∷ rs) others [] back n begin all is =
    let head : (m, r) ≡ (n, reply.Begin begin) = same_head (m, r) (n, reply.Begin begin) (numbered m rs ++ others) back is in
    inl (refl, ap (λ (x : Numbered). x.0) head, rs, ap (λ (x : Numbered). x.1 ∷ rs) head)
item_begins m (r ∷ rs) others (x ∷ front) back n begin all is =
    let head : (m, r) ≡ x = same_head (m, r) x (numbered m rs ++ others) (front ++ (n, reply.Begin begin) ∷ back) is in
    let rest = quiet_part m rs others front back n begin all (same_tail (m, r) x (numbered m rs ++ others) (front ++ (n, reply.Begin begin) ∷ back) is) in
    inr (rest.0, ap (λ (y : Numbered). y ∷ front) (sym head) ∙ ap (λ (ls : List Numbered). (m, r) ∷ ls) rest.1, rest.2)

module _ (P : WorkItem → List Reply → Type 0) (alone : (item : WorkItem) (mine : List Reply) → P item mine → HeadAlone mine) (lone : (answer : Reply) (mine : List Reply) → P (Lone answer) mine → mine ≡ answer ∷ []) where
  begins_first : (items : List WorkItem) (lines : List Numbered) (bound : ℕ) → AllByRecursion IsNoLoneBegin items → 1 ≤ bound → Rising bound items → Along P items lines →
      (front back : List Numbered) (n begin : ℕ) → lines ≡ front ++ (n, reply.Begin begin) ∷ back → (bound ≤ n) × (of_number n front ≡ [])
  begins_first [] lines bound lones first rising is front back n begin at = absurd (none_at front (sym is ∙ at))
    where
      none_at : (f : List Numbered) → [] ≡ f ++ (n, reply.Begin begin) ∷ back → ⊥
      none_at [] e = cc
      none_at (x ∷ f) e = cc
  begins_first (Does t ∷ items) lines bound lones first rising (mine, others, splits, p, rest) front back n begin at =
      go (item_begins t.number mine others front back n begin (alone (Does t) mine p) (sym splits ∙ at)) (λ later e. begins_first items others (t.number + 1) lones.1 (omega arith) rising.1 rest later back n begin e)
    where
      go : ((front ≡ []) × (t.number ≡ n) × (rs : List Reply) × (mine ≡ reply.Begin begin ∷ rs)) ⊎ ((later : List Numbered) × (front ≡ numbered t.number mine ++ later) × (others ≡ later ++ (n, reply.Begin begin) ∷ back)) →
          ((later : List Numbered) → others ≡ later ++ (n, reply.Begin begin) ∷ back → (t.number + 1 ≤ n) × (of_number n later ≡ [])) → (bound ≤ n) × (of_number n front ≡ [])
      go (inl (none, same, rs, says)) further = (let le : bound ≤ t.number = rising.0 in omega (arith, le, same), ap (of_number n) none)
      go (inr (later, splits', e)) further =
          let more : (t.number + 1 ≤ n) × (of_number n later ≡ []) = further later e in
          let above : t.number + 1 ≤ n = more.0 in (
            let le : bound ≤ t.number = rising.0 in omega (arith, le, above),
            ap (of_number n) splits' ∙ of_another n t.number mine later (ne_eqb t.number n (λ (same : t.number ≡ n). omega (arith, above, same))) ∙ more.1,
          )
  begins_first (Lone answer ∷ items) lines bound lones first rising (mine, others, splits, p, rest) front back n begin at =
      go (item_begins 0 mine others front back n begin (alone (Lone answer) mine p) (sym splits ∙ at)) (λ later e. begins_first items others bound lones.1 first rising rest later back n begin e)
    where
      go : ((front ≡ []) × (0 ≡ n) × (rs : List Reply) × (mine ≡ reply.Begin begin ∷ rs)) ⊎ ((later : List Numbered) × (front ≡ numbered 0 mine ++ later) × (others ≡ later ++ (n, reply.Begin begin) ∷ back)) →
          ((later : List Numbered) → others ≡ later ++ (n, reply.Begin begin) ∷ back → (bound ≤ n) × (of_number n later ≡ [])) → (bound ≤ n) × (of_number n front ≡ [])
      go (inl (none, same, rs, says)) further =
          let its : answer ≡ reply.Begin begin = same_head answer (reply.Begin begin) [] rs (sym (lone answer mine p) ∙ says) in
          absurd (both_ways (is_begin answer) lones.0 (ap is_begin its))
      go (inr (later, splits', e)) further =
          let more : (bound ≤ n) × (of_number n later ≡ []) = further later e in
          let above : bound ≤ n = more.0 in
          (above, ap (of_number n) splits' ∙ of_another n 0 mine later (ne_eqb 0 n (λ (same : 0 ≡ n). omega (arith, first, above, same))) ∙ more.1)

-- a begin of a lawful report is the first line that its session is told under its number
pub begin_is_first : (basis : Basis) (report : Report) → Answers basis.language → Lawful basis report → (front back : List Line) (name : List ℕ) (n begin : ℕ) →
    report.lines ≡ front ++ line.Session name n (reply.Begin begin) ∷ back → (1 ≤ n) × (under name n front ≡ [])
begin_is_first basis report answers lawful front back name n begin is =
    begins_first (IsTold basis (view_of basis report.entries) name) (λ item mine told. told_alone basis answers (view_of basis report.entries) name item mine told) (λ answer mine told. told)
    (work basis.language name basis.script.body) (told name report.lines) 1 (work_lones basis.language name basis.script.body) (omega arith)
    (subst (λ (all : List WorkItem). Rising 1 all) (sym (items_are basis.language start (said name basis.script.body))) (rest_rises basis.language start (said name basis.script.body)))
    (lawful.replies name) (told name front) (told name back) n begin
    (ap (told name) is ∙ told_append name front (line.Session name n (reply.Begin begin) ∷ back)
    ∙ ap (λ (b : Bool). told name front ++ ((if b then (n, reply.Begin begin) ∷ [] else []) ++ told name back)) (same_name name))

-- the lines of a turn: replies to its session, and then lines of which none is a begin

abbrev IsNoBeginLine : Line → Type 0
IsNoBeginLine (line.Session name txn answer) = is_begin answer ≡ false
IsNoBeginLine (line.Down count node fault) = Unit {0}
IsNoBeginLine (line.Up node) = Unit {0}
IsNoBeginLine line.Barrier = Unit {0}
IsNoBeginLine (line.Fed position) = Unit {0}

record Piece (script : Script) (before : List Line) (session : List ℕ) (m : ℕ) (kind : Kind) (pending : Option (List (List ℕ))) (mine : List Line) : Type 0 where
  front : List Reply
  tail : List Line
  says : mine ≡ lines_of session m front ++ tail
  quiet : AllByRecursion IsNoBeginLine tail
  may : (lacks_majority script before kind pending ≡ false) ⊎ (front ≡ [])

piece_of : (script : Script) (now : ℕ) (before : List Line) (session : List ℕ) (m : ℕ) (kind : Kind) (pending : Option (List (List ℕ))) (mine : List Line) (added : List EntryLine) →
    IsSaid script now before session m kind pending mine added → Piece script before session m kind pending mine
piece_of script now before session m kind pending mine added (inl is) = record { front = is.replies; tail = []; says = is.says ∙ sym (append-nil (lines_of session m is.replies)); quiet = tt; may = inl is.majority }
piece_of script now before session m kind pending mine added (inr (inl is)) =
    record { front = []; tail = lines_of session m (is.told ∷ []); says = is.says; quiet = (or_memory (λ (r : Reply). is_begin r ≡ false) (reply.Lost (node_of script session) is.down) is.told is.is_told refl refl, tt); may = inr refl }
piece_of script now before session m kind pending mine added (inr (inr (inl is))) =
    record { front = []; tail = lines_of session m (is.told ∷ []); says = is.says; quiet = (or_memory (λ (r : Reply). is_begin r ≡ false) (reply.NoMajority (up_count script.nodes before) script.nodes) is.told is.is_told refl refl, tt); may = inr refl }
piece_of script now before session m kind pending mine added (inr (inr (inr is))) = record {
  front = is.front;
  tail = line.Down (downs before + 1) is.node true ∷ lines_of session m (is.told ∷ []);
  says = is.says;
  quiet = (tt, (or_memory (λ (r : Reply). is_begin r ≡ false) (reply.Lost is.node (downs before + 1)) is.told is.is_told refl refl, tt));
  may = inl is.majority;
}

quiet_lines : (tail others front back : List Line) (name : List ℕ) (n begin : ℕ) → AllByRecursion IsNoBeginLine tail → tail ++ others ≡ front ++ line.Session name n (reply.Begin begin) ∷ back →
    (later : List Line) × (front ≡ tail ++ later) × (others ≡ later ++ line.Session name n (reply.Begin begin) ∷ back)
quiet_lines [] others front back name n begin all is = (front, refl, is)
quiet_lines (l ∷ tail) others [] back name n begin all is =
    absurd (true≢false (subst IsNoBeginLine (same_head l (line.Session name n (reply.Begin begin)) (tail ++ others) back is) all.0))
quiet_lines (l ∷ tail) others (x ∷ front) back name n begin all is =
    let head : l ≡ x = same_head l x (tail ++ others) (front ++ line.Session name n (reply.Begin begin) ∷ back) is in
    let rest = quiet_lines tail others front back name n begin all.1 (same_tail l x (tail ++ others) (front ++ line.Session name n (reply.Begin begin) ∷ back) is) in
    (rest.0, ap (λ (y : Line). y ∷ front) (sym head) ∙ ap (λ (ls : List Line). l ∷ ls) rest.1, rest.2)

-- a begin stands among the replies to the session, under their number, or behind the turn
abbrev IsWithin : List ℕ → ℕ → List Reply → List Line → List ℕ → ℕ → Type 0
IsWithin session m replies front name n = (rs : List Reply) × (front ≡ lines_of session m rs) × (session ≡ name) × (m ≡ n) × (replies ≡ [] → ⊥)

abbrev IsBehind : List Line → List Line → List Line → List Line → List ℕ → ℕ → ℕ → Type 0
IsBehind mine others front back name n begin = (later : List Line) × (front ≡ mine ++ later) × (others ≡ later ++ line.Session name n (reply.Begin begin) ∷ back)

same_session : (session name : List ℕ) (m n : ℕ) (r s : Reply) → line.Session session m r ≡ line.Session name n s → session ≡ name
same_session session name m n r s is = cc

same_number : (session name : List ℕ) (m n : ℕ) (r s : Reply) → line.Session session m r ≡ line.Session name n s → m ≡ n
same_number session name m n r s is = cc

not_none : (r : Reply) (rs : List Reply) → r ∷ rs ≡ [] → ⊥
not_none r rs is = cc

piece_begins : (session : List ℕ) (m : ℕ) (replies : List Reply) (tail others front back : List Line) (name : List ℕ) (n begin : ℕ) → AllByRecursion IsNoBeginLine tail →
    lines_of session m replies ++ (tail ++ others) ≡ front ++ line.Session name n (reply.Begin begin) ∷ back →
    IsWithin session m replies front name n ⊎ IsBehind (lines_of session m replies ++ tail) others front back name n begin
piece_begins session m [] tail others front back name n begin all is = inr (quiet_lines tail others front back name n begin all is)
piece_begins session m (r ∷ rs) tail others [] back name n begin all is =
    let head : line.Session session m r ≡ line.Session name n (reply.Begin begin) = same_head (line.Session session m r) (line.Session name n (reply.Begin begin)) (lines_of session m rs ++ (tail ++ others)) back is in
    inl ([], refl, same_session session name m n r (reply.Begin begin) head, same_number session name m n r (reply.Begin begin) head, not_none r rs)
piece_begins session m (r ∷ rs) tail others (x ∷ front) back name n begin all is =
    go (piece_begins session m rs tail others front back name n begin all (same_tail (line.Session session m r) x (lines_of session m rs ++ (tail ++ others)) (front ++ line.Session name n (reply.Begin begin) ∷ back) is))
  where
    head : x ≡ line.Session session m r
    head = sym (same_head (line.Session session m r) x (lines_of session m rs ++ (tail ++ others)) (front ++ line.Session name n (reply.Begin begin) ∷ back) is)

    go : IsWithin session m rs front name n ⊎ IsBehind (lines_of session m rs ++ tail) others front back name n begin →
        IsWithin session m (r ∷ rs) (x ∷ front) name n ⊎ IsBehind (lines_of session m (r ∷ rs) ++ tail) others (x ∷ front) back name n begin
    go (inl (told, are, same, number, some)) = inl (r ∷ told, ap (λ (y : Line). y ∷ front) head ∙ ap (λ (ls : List Line). line.Session session m r ∷ ls) are, same, number, not_none r rs)
    go (inr (later, are, e)) = inr (later, ap (λ (y : Line). y ∷ front) head ∙ ap (λ (ls : List Line). line.Session session m r ∷ ls) are, e)

-- a transaction that is open was told something

abbrev HasOpened : Option (List (List ℕ)) → List Reply → Type 0
HasOpened None mine = Unit {0}
HasOpened (Some texts) mine = mine ≡ [] → ⊥

abbrev Opened : Basis → List BodyLine → List Line → Type 0
Opened basis done before = (name : List ℕ) → HasOpened (place_after basis.language name done).pending (under name (place_after basis.language name done).number before)

none_front : (xs ys : List Reply) → xs ++ ys ≡ [] → xs ≡ []
none_front [] ys is = refl
none_front (x ∷ xs) ys is = absurd (not_none x (xs ++ ys) is)

none_back : (xs ys : List Reply) → xs ++ ys ≡ [] → ys ≡ []
none_back [] ys is = is
none_back (x ∷ xs) ys is = absurd (not_none x (xs ++ ys) is)

opened_more : (pending : Option (List (List ℕ))) (name : List ℕ) (n : ℕ) (before mine : List Line) → HasOpened pending (under name n before) → HasOpened pending (under name n (before ++ mine))
opened_more None name n before mine was = tt
opened_more (Some texts) name n before mine was = λ is. was (none_front (under name n before) (under name n mine) (sym (under_append name n before mine) ∙ is))

-- a transaction that was cut short was told so
cut_heard : (before : List Line) (session : List ℕ) (m : ℕ) → was_cut before session m ≡ true → under session m before ≡ [] → ⊥
cut_heard [] session m cut none = false≢true cut
cut_heard (line.Session name txn answer ∷ ls) session m cut none = go (bytes_eq name session) (cut_heard ls session m) cut none
  where
    told_it : (c d : Bool) → (was_cut ls session m ≡ true → under session m ls ≡ [] → ⊥) → ((c && d) || was_cut ls session m) ≡ true → (if c then answer ∷ under session m ls else under session m ls) ≡ [] → ⊥
    told_it true d later is empty = not_none answer (under session m ls) empty
    told_it false d later is empty = later is empty

    go : (b : Bool) → (was_cut ls session m ≡ true → under session m ls ≡ [] → ⊥) → ((b && ((txn == m) && cuts answer)) || was_cut ls session m) ≡ true → of_number m ((if b then (txn, answer) ∷ [] else []) ++ told session ls) ≡ [] → ⊥
    go true later is empty = told_it (txn == m) (cuts answer) later is empty
    go false later is empty = later is empty
cut_heard (line.Down count node fault ∷ ls) session m cut none = cut_heard ls session m cut none
cut_heard (line.Up node ∷ ls) session m cut none = cut_heard ls session m cut none
cut_heard (line.Barrier ∷ ls) session m cut none = cut_heard ls session m cut none
cut_heard (line.Fed position ∷ ls) session m cut none = cut_heard ls session m cut none

-- and one that a line opens is told something by it
begin_heard : (script : Script) (now : ℕ) (before : List Line) (session : List ℕ) (m : ℕ) (mine : List Line) (added : List EntryLine) → IsSaid script now before session m BeginText None mine added → under session m (before ++ mine) ≡ [] → ⊥
begin_heard script now before session m mine added (inl is) none = go is.turn.told
  where
    both : under session m before ++ under session m mine ≡ []
    both = sym (under_append session m before mine) ∙ none

    replies : is.replies ≡ []
    replies = sym (ap (under session m) is.says ∙ under_own session session m is.replies (same_name session)) ∙ none_back (under session m before) (under session m mine) both

    go : (are_up_to (is_last_of false) is.replies ≡ true) ⊎ ((is.replies ≡ []) × (was_cut before session m ≡ true)) → ⊥
    go (inl ends) = false≢true (subst (λ (rs : List Reply). are_up_to (is_last_of false) rs ≡ true) replies ends)
    go (inr (nothing, cut)) = cut_heard before session m cut (none_front (under session m before) (under session m mine) both)
begin_heard script now before session m mine added (inr (inl is)) none = none_some is.down is.is_lost
  where
    none_some : (down : ℕ) → None ≡ Some down → ⊥
    none_some down e = cc
begin_heard script now before session m mine added (inr (inr (inl is))) none =
    not_none _ [] (sym (ap (under session m) is.says ∙ under_own session session m _ (same_name session)) ∙ none_back (under session m before) (under session m mine) (sym (under_append session m before mine) ∙ none))
begin_heard script now before session m mine added (inr (inr (inr is))) none = false≢true is.at_commit

-- each line of the script keeps that an open transaction was told something
own_opened : (script : Script) (now : ℕ) (before : List Line) (session : List ℕ) (p : Place) (text : List ℕ) (k : Kind) (pending : Option (List (List ℕ))) (mine : List Line) (added : List EntryLine) →
    HasOpened pending (under session p.number before) → IsSaid script now before session (number_by p.number k pending) k pending mine added →
    HasOpened (next_by p text k pending).pending (under session (next_by p text k pending).number (before ++ mine))
own_opened script now before session p text BeginText None mine added was said = begin_heard script now before session (p.number + 1) mine added said
own_opened script now before session p text CommitText None mine added was said = tt
own_opened script now before session p text RollbackText None mine added was said = tt
own_opened script now before session p text (LevelText level) None mine added was said = tt
own_opened script now before session p text OtherText None mine added was said = tt
own_opened script now before session p text BeginText (Some texts) mine added was said = opened_more (Some texts) session p.number before mine was
own_opened script now before session p text CommitText (Some texts) mine added was said = tt
own_opened script now before session p text RollbackText (Some texts) mine added was said = tt
own_opened script now before session p text (LevelText level) (Some texts) mine added was said = opened_more (Some texts) session p.number before mine was
own_opened script now before session p text OtherText (Some texts) mine added was said = opened_more (Some texts) session p.number before mine was

said_opened : (basis : Basis) (done : List BodyLine) (b : BodyLine) (session text : List ℕ) → b.act ≡ act.Say session text → (before mine : List Line) (now : ℕ) (added : List EntryLine) → Opened basis done before →
    IsTurnOf basis now done before (act.Say session text) mine added → Opened basis (done ++ b ∷ []) (before ++ mine)
said_opened basis done b session text is_act before mine now added was turn name = go (bytes_eq session name) refl
  where
    at : Place
    at = place_after basis.language session done

    go : (c : Bool) → bytes_eq session name ≡ c → HasOpened (place_after basis.language name (done ++ b ∷ [])).pending (under name (place_after basis.language name (done ++ b ∷ [])).number (before ++ mine))
    go true same =
        subst (λ (n : List ℕ). HasOpened (place_after basis.language n (done ++ b ∷ [])).pending (under n (place_after basis.language n (done ++ b ∷ [])).number (before ++ mine))) ((bytes_eq-Decides session name).0 same)
        (subst (λ (p : Place). HasOpened p.pending (under session p.number (before ++ mine))) (sym (after_own basis.language session session text b done is_act (same_name session)))
        (own_opened basis.script now before session at text (basis.language.kind text) at.pending mine added (was session) turn))
    go false other =
        subst (λ (p : Place). HasOpened p.pending (under name p.number (before ++ mine))) (sym (after_other basis.language name session text b done is_act other))
        (opened_more (place_after basis.language name done).pending name (place_after basis.language name done).number before mine (was name))

quiet_opened : (basis : Basis) (done : List BodyLine) (b : BodyLine) → IsQuiet b.act → (before mine : List Line) → Opened basis done before → Opened basis (done ++ b ∷ []) (before ++ mine)
quiet_opened basis done b quiet before mine was name =
    subst (λ (p : Place). HasOpened p.pending (under name p.number (before ++ mine))) (sym (quiet_place basis.language name done b quiet))
    (opened_more (place_after basis.language name done).pending name (place_after basis.language name done).number before mine (was name))

-- a majority of the nodes is up where a transaction is told its begin

-- the lines of a session leave which nodes are up
stays_so : (node : ℕ) (was : Bool) (name : List ℕ) (m : ℕ) (rs : List Reply) → up_from node was (lines_of name m rs) ≡ was
stays_so node was name m [] = refl
stays_so node was name m (r ∷ rs) = stays_so node was name m rs

pub same_up : (node : ℕ) (before : List Line) (name : List ℕ) (m : ℕ) (rs : List Reply) → is_up node (before ++ lines_of name m rs) ≡ is_up node before
same_up node before name m rs = up_append node true before (lines_of name m rs) ∙ stays_so node (is_up node before) name m rs

same_count : (n : ℕ) (before : List Line) (name : List ℕ) (m : ℕ) (rs : List Reply) → up_count n (before ++ lines_of name m rs) ≡ up_count n before
same_count zero before name m rs = refl
same_count (suc n) before name m rs =
    ap (λ (count : ℕ). count + (if is_up (suc n) (before ++ lines_of name m rs) then 1 else 0)) (same_count n before name m rs)
    ∙ ap (λ (b : Bool). up_count n before + (if b then 1 else 0)) (same_up (suc n) before name m rs)

pub same_few : (n : ℕ) (before : List Line) (name : List ℕ) (m : ℕ) (rs : List Reply) → are_few n (before ++ lines_of name m rs) ≡ are_few n before
same_few n before name m rs = ap (λ (count : ℕ). leb 1 n && leb (2 * count) n) (same_count n before name m rs)

begun_by : (k : Kind) (pending : Option (List (List ℕ))) (number : ℕ) (few : Bool) (session : List ℕ) (before : List Line) → HasOpened pending (under session number before) →
    under session (number_by number k pending) before ≡ [] → 1 ≤ number_by number k pending → (begins k pending && few) ≡ false → few ≡ false
begun_by BeginText None number few session before was none first is = is
begun_by OtherText None number few session before was none first is = is
begun_by CommitText None number few session before was none first is = absurd (omega (arith, first))
begun_by RollbackText None number few session before was none first is = absurd (omega (arith, first))
begun_by (LevelText level) None number few session before was none first is = absurd (omega (arith, first))
begun_by BeginText (Some texts) number few session before was none first is = absurd (was none)
begun_by CommitText (Some texts) number few session before was none first is = absurd (was none)
begun_by RollbackText (Some texts) number few session before was none first is = absurd (was none)
begun_by (LevelText level) (Some texts) number few session before was none first is = absurd (was none)
begun_by OtherText (Some texts) number few session before was none first is = absurd (was none)

abbrev HasMajority : Basis → List Line → List Line → Type 0
HasMajority basis before lines =
    (front back : List Line) (name : List ℕ) (n begin : ℕ) → lines ≡ front ++ line.Session name n (reply.Begin begin) ∷ back → 1 ≤ n → under name n (before ++ front) ≡ [] → are_few basis.script.nodes (before ++ front) ≡ false

said_majority : (basis : Basis) (done : List BodyLine) (session text : List ℕ) (before mine others : List Line) (now : ℕ) (added : List EntryLine) → Opened basis done before →
    IsTurnOf basis now done before (act.Say session text) mine added → HasMajority basis (before ++ mine) others → HasMajority basis before (mine ++ others)
said_majority basis done session text before mine others now added was turn further front back name n begin is first none =
    go (piece_begins session m piece.front piece.tail others front back name n begin piece.quiet
    (sym (append_assoc (lines_of session m piece.front) piece.tail others) ∙ sym (ap (λ (ls : List Line). ls ++ others) piece.says) ∙ is))
  where
    at : Place
    at = place_after basis.language session done

    m : ℕ
    m = number_told basis.language at text

    piece : Piece basis.script before session m (basis.language.kind text) at.pending mine
    piece = piece_of basis.script now before session m (basis.language.kind text) at.pending mine added turn

    within : (lacks_majority basis.script before (basis.language.kind text) at.pending ≡ false) ⊎ (piece.front ≡ []) → IsWithin session m piece.front front name n → are_few basis.script.nodes (before ++ front) ≡ false
    within (inr nothing) (rs, are, same, number, some) = absurd (some nothing)
    within (inl is_majority) (rs, are, same, number, some) =
        ap (λ (ls : List Line). are_few basis.script.nodes (before ++ ls)) are
        ∙ same_few basis.script.nodes before session m rs
        ∙ begun_by (basis.language.kind text) at.pending at.number (are_few basis.script.nodes before) session before (was session)
        (none_front (under session m before) (under session m front) (sym (under_append session m before front)
        ∙ ap (λ (s : List ℕ). under s m (before ++ front)) same ∙ ap (λ (i : ℕ). under name i (before ++ front)) number ∙ none))
        (omega (arith, first, number)) is_majority

    go : IsWithin session m piece.front front name n ⊎ IsBehind (lines_of session m piece.front ++ piece.tail) others front back name n begin → are_few basis.script.nodes (before ++ front) ≡ false
    go (inl here) = within piece.may here
    go (inr (later, are, e)) =
        let split : before ++ front ≡ (before ++ mine) ++ later = ap (λ (ls : List Line). before ++ ls) (are ∙ ap (λ (ls : List Line). ls ++ later) (sym piece.says)) ∙ sym (append_assoc before mine later) in
        ap (λ (ls : List Line). are_few basis.script.nodes ls) split ∙ further later back name n begin e first (ap (under name n) (sym split) ∙ none)

none_stands_there : (front back : List Line) (l : Line) → [] ≡ front ++ l ∷ back → ⊥
none_stands_there [] back l e = cc
none_stands_there (x ∷ front) back l e = cc

turns_majority : (basis : Basis) (bs done : List BodyLine) (before : List Line) (history : List EntryLine) (lines : List Line) (entries : List EntryLine) → Opened basis done before →
    InTurns basis done before history bs lines entries → HasMajority basis before lines
turns_majority basis [] done before history lines entries was turns = λ front back name n begin is first none. absurd (none_stands_there front back (line.Session name n (reply.Begin begin)) (sym turns.0 ∙ is))
turns_majority basis (b ∷ bs) done before history lines entries was (mine, others, added, later, ls_are, es_are, turn, rest) =
    subst (HasMajority basis before) (sym ls_are)
    (go (said_or_quiet b.act) (λ now_opened. turns_majority basis bs (done ++ b ∷ []) (before ++ mine) (history ++ added) others later now_opened rest))
  where
    go : ((session : List ℕ) × (text : List ℕ) × (b.act ≡ act.Say session text)) ⊎ IsQuiet b.act → (Opened basis (done ++ b ∷ []) (before ++ mine) → HasMajority basis (before ++ mine) others) → HasMajority basis before (mine ++ others)
    go (inl (session, text, is_act)) further =
        let its : IsTurnOf basis (last_position basis.origin history) done before (act.Say session text) mine added = subst (λ (a : Act). IsTurnOf basis (last_position basis.origin history) done before a mine added) is_act turn in
        said_majority basis done session text before mine others (last_position basis.origin history) added was its (further (said_opened basis done b session text is_act before mine (last_position basis.origin history) added was its))
    go (inr quiet) further =
        let nothing : mine ≡ [] = (quiet_turn basis (last_position basis.origin history) done before b.act mine added quiet turn).0 in
        subst (λ (ls : List Line). HasMajority basis before (ls ++ others)) (sym nothing)
        (subst (λ (ls : List Line). HasMajority basis ls others) (append-nil before) (subst (λ (ls : List Line). HasMajority basis (before ++ ls) others) nothing (further (quiet_opened basis done b quiet before mine was))))

downs_quiet : (lines : List Line) → AllByRecursion IsDownLine lines → AllByRecursion IsNoBeginLine lines
downs_quiet [] all = tt
downs_quiet (line.Session name txn answer ∷ ls) all = absurd all.0
downs_quiet (line.Down count node fault ∷ ls) all = (tt, downs_quiet ls all.1)
downs_quiet (line.Up node ∷ ls) all = absurd all.0
downs_quiet (line.Barrier ∷ ls) all = absurd all.0
downs_quiet (line.Fed position ∷ ls) all = absurd all.0

pub begin_has_majority : (basis : Basis) (report : Report) (front back : List Line) (name : List ℕ) (txn begin : ℕ) → Answers basis.language → Lawful basis report → InPlayOrder basis report →
    report.lines ≡ front ++ line.Session name txn (reply.Begin begin) ∷ back → are_few basis.script.nodes front ≡ false
begin_has_majority basis report front back name txn begin answers lawful order is =
    let is_first : (1 ≤ txn) × (under name txn front ≡ []) = begin_is_first basis report answers lawful front back name txn begin is in
    let behind = quiet_lines order.first order.rest front back name txn begin (downs_quiet order.first order.go_down) (sym order.lines_are ∙ is) in
    ap (λ (ls : List Line). are_few basis.script.nodes ls) behind.1
    ∙ turns_majority basis basis.script.body [] order.first (opened_behind basis order.first) order.rest order.later (λ other. tt) order.order behind.0 back name txn begin behind.2 is_first.0 (ap (under name txn) (sym behind.1) ∙ is_first.1)

-- where no node comes up a node goes down once

stays_from : (basis : Basis) (report : Report) (front back : List Line) (l : Line) → Lawful basis report → report.lines ≡ front ++ l ∷ back → AllByRecursion IsNoUp back
stays_from basis report front back l lawful is =
    (all_behind IsNoUp front (l ∷ back) (subst (AllByRecursion IsNoUp) is (none_up basis.script [] report.lines lawful.places))).1

pub down_once : (basis : Basis) (report : Report) (first second third : List Line) (count other node : ℕ) (fault again : Bool) → Lawful basis report →
    report.lines ≡ first ++ line.Down count node fault ∷ (second ++ line.Down other node again ∷ third) → ⊥
down_once basis report first second third count other node fault again lawful is =
    let split : report.lines ≡ (first ++ line.Down count node fault ∷ second) ++ line.Down other node again ∷ third = is ∙ sym (append_assoc first (line.Down count node fault ∷ second) (line.Down other node again ∷ third)) in
    let goes : GoesDown basis.script (first ++ line.Down count node fault ∷ second) other node again = has_its_place basis report (first ++ line.Down count node fault ∷ second) third (line.Down other node again) lawful split in
    let no_up : AllByRecursion IsNoUp second = all_front IsNoUp second (line.Down other node again ∷ third) (stays_from basis report first (second ++ line.Down other node again ∷ third) (line.Down count node fault) lawful is) in
    both_ways (is_up node (first ++ line.Down count node fault ∷ second)) (is_down_behind count node fault first second no_up) goes.was_up

few_of_one : (lines : List Line) → is_up 1 lines ≡ false → are_few 1 lines ≡ true
few_of_one lines down = ap (λ (b : Bool). leb 1 1 && leb (2 * (0 + (if b then 1 else 0))) 1) down

pub none_begins : (basis : Basis) (report : Report) (front back : List Line) (count node : ℕ) (fault : Bool) (name : List ℕ) (txn begin : ℕ) → basis.script.nodes ≡ 1 → Answers basis.language → Lawful basis report → InPlayOrder basis report →
    report.lines ≡ front ++ line.Down count node fault ∷ back → StandsIn back (line.Session name txn (reply.Begin begin)) → ⊥
none_begins basis report front back count node fault name txn begin one answers lawful order is (between, rest, at) =
    let goes : GoesDown basis.script front count node fault = has_its_place basis report front back (line.Down count node fault) lawful is in
    let least : 1 ≤ node = goes.of_script.0 in
    let most : node ≤ basis.script.nodes = goes.of_script.1 in
    let the_one : node ≡ 1 = omega (arith, least, most, one) in
    let whole : report.lines ≡ (front ++ line.Down count node fault ∷ between) ++ line.Session name txn (reply.Begin begin) ∷ rest =
    is ∙ ap (λ (ls : List Line). front ++ line.Down count node fault ∷ ls) at ∙ sym (append_assoc front (line.Down count node fault ∷ between) (line.Session name txn (reply.Begin begin) ∷ rest)) in
    let no_up : AllByRecursion IsNoUp between = all_front IsNoUp between (line.Session name txn (reply.Begin begin) ∷ rest) (subst (AllByRecursion IsNoUp) at (stays_from basis report front back (line.Down count node fault) lawful is)) in
    let is_down : is_up 1 (front ++ line.Down count node fault ∷ between) ≡ false = subst (λ (k : ℕ). is_up k (front ++ line.Down count node fault ∷ between) ≡ false) the_one (is_down_behind count node fault front between no_up) in
    let majority : are_few basis.script.nodes (front ++ line.Down count node fault ∷ between) ≡ false =
    begin_has_majority basis report (front ++ line.Down count node fault ∷ between) rest name txn begin answers lawful order whole in
    both_ways (are_few 1 (front ++ line.Down count node fault ∷ between)) (subst (λ (n : ℕ). are_few n (front ++ line.Down count node fault ∷ between) ≡ false) one majority) (few_of_one (front ++ line.Down count node fault ∷ between) is_down)
