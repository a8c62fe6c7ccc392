-- A session comes to a line, is told of it, and is behind it.
use Rattle.std.proofs.Common.{◌≡◌, ℕ, List, [], ◌∷◌, ◌++◌, refl, sym, ap, ◌∙◌, true, false, Some, if◌then◌else◌}
use Rattle.std.proofs.lemmas.List.{append-nil}
use Rattle.cdb_values.specs.declared.replies.Reply.{Reply}
use Rattle.cluster_events.proofs.OwnLines.{same_name}
use Rattle.cluster_reports.proofs.RestLaws.{behind_more, skip_so, tell_so}
use Rattle.cluster_reports.specs.SessionLines.{behind_lines, lines_behind}
use Rattle.node_reports.specs.Pieces.{is_over}
use Rattle.report_laws.specs.Told.{numbered, Numbered}
use Rattle.report_laws.specs.Work.{place_after, said, said_by, start}
use Rattle.report_laws.proofs.WorkLaws.{said_append}
use Rattle.script_form.specs.declared.scripts.Act.TheVariants as act
use Rattle.script_form.specs.declared.scripts.BodyLine.{BodyLine}
use Rattle.session_barriers.proofs.SplitLaws.{none_so, numbered_more, piece_ends, piece_goes, so_none, split}
use Rattle.session_barriers.specs.Lines.{AreToldTo, IsAtLine, is_last_behind, number_behind}
use Rattle.session_language.specs.Language.{Language}

-- what a line behind these is, in the lines told
record OneMore (L : Language) (name : List ℕ) (done : List BodyLine) (text : List ℕ) (told part : List Numbered) : Type 0 where
  earlier : List Numbered
  before : told ≡ earlier ++ part
  more : (ys : List Numbered) → lines_behind L [] start (said name done ++ text ∷ []) (told ++ ys) ≡ lines_behind L earlier (place_after L name done) (text ∷ []) (part ++ ys)
  now : lines_behind L [] start (said name done ++ text ∷ []) told ≡ lines_behind L earlier (place_after L name done) (text ∷ []) part

one_more : (L : Language) (name : List ℕ) (done : List BodyLine) (text : List ℕ) (told part : List Numbered) → behind_lines L name done told ≡ Some part → OneMore L name done text told part
one_more L name done text told part is =
    let k = split L [] start (said name done) told part is in
    record {
      earlier = k.earlier;
      before = k.before;
      more = λ ys. k.goes ys (text ∷ []);
      now = ap (λ z. lines_behind L [] start (said name done ++ text ∷ []) z) (sym (append-nil told))
          ∙ (k.goes [] (text ∷ []) ∙ ap (λ z. lines_behind L k.earlier (place_after L name done) (text ∷ []) z) (append-nil part));
    }

-- no lines more
same_told : (L : Language) (name : List ℕ) (done : List BodyLine) (told : List Numbered) → AreToldTo L name done [] told → behind_lines L name done told ≡ Some []
same_told L name done told is = ap (λ z. lines_behind L [] start z told) (sym (append-nil (said name done))) ∙ is

pub comes : (language : Language) (name : List ℕ) (done : List BodyLine) (text : List ℕ) (told : List Numbered) → AreToldTo language name done [] told
    → is_over (number_behind language name done text) told ≡ false → IsAtLine language name done text told []
comes L name done text told is q =
    let over = same_told L name done told is in
    let k = one_more L name done text told [] over in
    let all : told ≡ k.earlier = k.before ∙ append-nil k.earlier in
    record {
      over = over;
      at_it = k.now ∙ none_so L k.earlier (place_after L name done) text [] (ap (λ z. is_over (number_behind L name done text) z) (sym all) ∙ q) refl;
    }

pub skips : (language : Language) (name : List ℕ) (done : List BodyLine) (text : List ℕ) (told : List Numbered) → AreToldTo language name done [] told
    → is_over (number_behind language name done text) told ≡ true → AreToldTo language name done (text ∷ []) told
skips L name done text told is q =
    let k = one_more L name done text told [] (same_told L name done told is) in
    let all : told ≡ k.earlier = k.before ∙ append-nil k.earlier in
    k.now ∙ skip_so L k.earlier (place_after L name done) text [] [] (ap (λ z. is_over (number_behind L name done text) z) (sym all) ∙ q)

pub goes_on : (language : Language) (name : List ℕ) (done : List BodyLine) (text : List ℕ) (told : List Numbered) (mine : List Reply) (r : Reply)
    → IsAtLine language name done text told mine → is_last_behind language name done text r ≡ false
    → IsAtLine language name done text (told ++ (number_behind language name done text, r) ∷ []) (mine ++ r ∷ [])
goes_on L name done text told mine r is p =
    let n = number_behind L name done text in
    let f = is_last_behind L name done text in
    let k = one_more L name done text told (numbered n mine) is.over in
    let so = so_none L k.earlier (place_after L name done) text (numbered n mine) (sym k.now ∙ is.at_it) in
    record {
      over = behind_more L [] start (said name done) told ((n, r) ∷ []) (numbered n mine) is.over ∙ ap (λ z. Some z) (sym (numbered_more n mine r));
      at_it = k.more ((n, r) ∷ []) ∙ none_so L k.earlier (place_after L name done) text (numbered n mine ++ (n, r) ∷ []) so.0 (piece_goes n f mine r so.1 p);
    }

pub ends : (language : Language) (name : List ℕ) (done : List BodyLine) (text : List ℕ) (told : List Numbered) (mine : List Reply) (r : Reply)
    → IsAtLine language name done text told mine → is_last_behind language name done text r ≡ true
    → AreToldTo language name done (text ∷ []) (told ++ (number_behind language name done text, r) ∷ [])
ends L name done text told mine r is p =
    let n = number_behind L name done text in
    let f = is_last_behind L name done text in
    let k = one_more L name done text told (numbered n mine) is.over in
    let so = so_none L k.earlier (place_after L name done) text (numbered n mine) (sym k.now ∙ is.at_it) in
    k.more ((n, r) ∷ []) ∙ tell_so L k.earlier (place_after L name done) text [] (numbered n mine ++ (n, r) ∷ []) (mine ++ r ∷ [], []) so.0 (piece_ends n f mine r so.1 p)

-- the script's lines

pub said_next : (name text : List ℕ) (done : List BodyLine) (b : BodyLine) → b.act ≡ act.Say name text → said name (done ++ b ∷ []) ≡ said name done ++ text ∷ []
said_next name text done b say =
    said_append name done (b ∷ [])
    ∙ ap (λ z. said name done ++ z) (ap (λ z. said_by name z []) say ∙ ap (λ c. if c then text ∷ [] else []) (same_name name))

pub its_line : (language : Language) (name text : List ℕ) (done : List BodyLine) (b : BodyLine) (told : List Numbered) → b.act ≡ act.Say name text
    → AreToldTo language name done (text ∷ []) told → AreToldTo language name (done ++ b ∷ []) [] told
its_line L name text done b told say is =
    ap (λ z. lines_behind L [] start z told) (append-nil (said name (done ++ b ∷ [])) ∙ said_next name text done b say) ∙ is

pub another_line : (language : Language) (name : List ℕ) (done : List BodyLine) (b : BodyLine) (told : List Numbered) → said_by name b.act [] ≡ []
    → AreToldTo language name done [] told → AreToldTo language name (done ++ b ∷ []) [] told
another_line L name done b told none is =
    ap (λ z. lines_behind L [] start z told)
    (append-nil (said name (done ++ b ∷ [])) ∙ (said_append name done (b ∷ []) ∙ ap (λ z. said name done ++ z) none)) ∙ is
