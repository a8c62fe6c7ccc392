-- On one node: what is told of sites, losses and missing majorities is what the order of play of one node tells.
use Rattle.std.proofs.Common.{◌≡◌, ℕ, ◌==◌, ◌&&◌, List, [], ◌∷◌, ◌++◌, refl, sym, subst, ap, arith, ◌∙◌, Option, Some, None, Bool, true, false, not, if◌then◌else◌, map}
use Rattle.std.proofs.lemmas.Bool.{eq-eqb}
use Rattle.std.proofs.lemmas.Slice.Eq.{bytes_eq-Decides}
use Rattle.std.specs.List.{AllByRecursion, list_any}
use Rattle.std.specs.Str.{bytes_eq}
use Rattle.script_form.specs.declared.scripts.Script.{Script}
use Rattle.report_laws.specs.Nodes.{downs, is_up, are_few, first_down}
use Rattle.report_laws.specs.Places.{survives}
use Rattle.report_laws.specs.Play.{node_of, since_begin, is_begin, is_begin_of}
use Rattle.report_laws.specs.Told.{numbered, lines_of}
use Rattle.report_text.specs.declared.reports.Line.{Line}
use Rattle.report_text.specs.declared.reports.Line.TheVariants as line
use Rattle.cdb_values.specs.declared.replies.Reply.{Reply}
use Rattle.report_laws.proofs.ToldLaws.{told_own}
use Rattle.node_reports.specs.Site.{Site, next_up, moved, with_line, is_gone, is_inside, is_line_of, site_told, site_by, site_from, site_of}
use Rattle.node_reports.specs.Piece.{replies_in}

-- a line that is a session's, or tells that node 1 went down
abbrev pub IsOnes : Line → Type 0
IsOnes (line.Session name txn answer) = Unit {0}
IsOnes (line.Down count node fault) = node ≡ 1
IsOnes (line.Up node) = ⊥
IsOnes line.Barrier = ⊥
IsOnes (line.Fed position) = ⊥

-- a begin is the first line of its transaction
abbrev pub IsFirstIfBegin : List Line → Line → Type 0
IsFirstIfBegin before (line.Session name txn answer) = is_begin answer ≡ true → list_any (is_line_of name txn) before ≡ false
IsFirstIfBegin before (line.Down count node fault) = Unit {0}
IsFirstIfBegin before (line.Up node) = Unit {0}
IsFirstIfBegin before line.Barrier = Unit {0}
IsFirstIfBegin before (line.Fed position) = Unit {0}

-- a node that goes down was up
abbrev pub WasUp : List Line → Line → Type 0
WasUp before (line.Session name txn answer) = Unit {0}
WasUp before (line.Down count node fault) = is_up node before ≡ true
WasUp before (line.Up node) = Unit {0}
WasUp before line.Barrier = Unit {0}
WasUp before (line.Fed position) = Unit {0}

-- of one node the next one is itself
next_one : (n node : ℕ) (lines : List Line) → n ≡ 1 → node ≡ 1 → next_up n node lines ≡ 1
next_one n node lines is at = subst (λ (k : ℕ). next_up k node lines ≡ 1) (sym is) (subst (λ (k : ℕ). next_up 1 k lines ≡ 1) (sym at) (pick (is_up 1 lines)))
  where
    one : ℕ
    one = 1

    pick : (b : Bool) → (if b then one else one) ≡ one
    pick true = refl
    pick false = refl

told_one : (script : Script) (session : List ℕ) (lines : List Line) (site : Site) (number : ℕ) (l : Line) → script.nodes ≡ 1 → site.node ≡ 1 → (site_told script session lines site number l).node ≡ 1
told_one script session lines site number l one at = go (is_inside session number lines) (survives script session && (is_gone site && not (are_few script.nodes lines))) (is_up site.node lines)
  where
    go : (a b c : Bool) → (if a then (if b then moved script lines site else with_line site l) else (if c then record { node = site.node; since = [] } else moved script lines site)).node ≡ 1
    go true true c = next_one script.nodes site.node lines one at
    go true false c = at
    go false b true = at
    go false b false = next_one script.nodes site.node lines one at

by_one : (script : Script) (session : List ℕ) (lines : List Line) (site : Site) (l : Line) → script.nodes ≡ 1 → site.node ≡ 1 → (site_by script session lines site l).node ≡ 1
by_one script session lines site (line.Session name txn answer) one at = go (bytes_eq name session)
  where
    go : (b : Bool) → (if b then site_told script session lines site txn (line.Session name txn answer) else with_line site (line.Session name txn answer)).node ≡ 1
    go true = told_one script session lines site txn (line.Session name txn answer) one at
    go false = at
by_one script session lines site (line.Down count node fault) one at = at
by_one script session lines site (line.Up node) one at = at
by_one script session lines site line.Barrier one at = at
by_one script session lines site (line.Fed position) one at = at

from_one : (script : Script) (session : List ℕ) (before : List Line) (site : Site) (lines : List Line) → script.nodes ≡ 1 → site.node ≡ 1 → (site_from script session before site lines).node ≡ 1
from_one script session before site [] one at = at
from_one script session before site (l ∷ ls) one at = from_one script session (before ++ l ∷ []) (site_by script session before site l) ls one (by_one script session before site l one at)

-- a session of one node is there
pub site_one : (script : Script) (session : List ℕ) (lines : List Line) → script.nodes ≡ 1 → node_of script session ≡ 1 → (site_of script session lines).node ≡ 1
site_one script session lines one home = from_one script session [] _ lines one home

-- no loss among the lines of a session
pub first_none : (k : ℕ) (xs : List Line) → downs xs ≡ 0 → first_down k xs ≡ None
first_none k [] none = refl
first_none k (line.Session name txn answer ∷ xs) none = first_none k xs none
first_none k (line.Down count node fault ∷ xs) none = absurd (omega (arith, none))
first_none k (line.Up node ∷ xs) none = first_none k xs none
first_none k (line.Barrier ∷ xs) none = first_none k xs none
first_none k (line.Fed position ∷ xs) none = first_none k xs none

pub first_append : (k : ℕ) (xs ys : List Line) → first_down k xs ≡ None → first_down k (xs ++ ys) ≡ first_down k ys
first_append k [] ys none = refl
first_append k (line.Session name txn answer ∷ xs) ys none = first_append k xs ys none
first_append k (line.Down count node fault ∷ xs) ys none = go (node == k) (λ is. first_append k xs ys is) none
  where
    go : (b : Bool) → (first_down k xs ≡ None → first_down k (xs ++ ys) ≡ first_down k ys) → (if b then Some count else first_down k xs) ≡ None → (if b then Some count else first_down k (xs ++ ys)) ≡ first_down k ys
    go true more is = absurd (let e : Some count ≡ None = is in cc)
    go false more is = more is
first_append k (line.Up node ∷ xs) ys none = first_append k xs ys none
first_append k (line.Barrier ∷ xs) ys none = first_append k xs ys none
first_append k (line.Fed position ∷ xs) ys none = first_append k xs ys none

pub first_quiet : (k : ℕ) (xs ys : List Line) → first_down k ys ≡ None → first_down k (xs ++ ys) ≡ first_down k xs
first_quiet k [] ys none = none
first_quiet k (line.Session name txn answer ∷ xs) ys none = first_quiet k xs ys none
first_quiet k (line.Down count node fault ∷ xs) ys none = ap (λ (o : Option ℕ). if node == k then Some count else o) (first_quiet k xs ys none)
first_quiet k (line.Up node ∷ xs) ys none = first_quiet k xs ys none
first_quiet k (line.Barrier ∷ xs) ys none = first_quiet k xs ys none
first_quiet k (line.Fed position ∷ xs) ys none = first_quiet k xs ys none

-- where node 1 did not go down, none did
pub none_of_ones : (xs : List Line) → AllByRecursion IsOnes xs → first_down 1 xs ≡ None → downs xs ≡ 0
none_of_ones [] ones none = refl
none_of_ones (line.Session name txn answer ∷ xs) ones none = none_of_ones xs ones.1 none
none_of_ones (line.Down count node fault ∷ xs) ones none = absurd (let e : Some count ≡ None = sym (ap (λ (b : Bool). if b then Some count else first_down 1 xs) (eq-eqb node 1 ones.0)) ∙ none in cc)
none_of_ones (line.Up node ∷ xs) ones none = absurd ones.0
none_of_ones (line.Barrier ∷ xs) ones none = absurd ones.0
none_of_ones (line.Fed position ∷ xs) ones none = absurd ones.0

pub ones_of : (name : List ℕ) (number : ℕ) (rs : List Reply) → AllByRecursion IsOnes (lines_of name number rs)
ones_of name number [] = tt
ones_of name number (r ∷ rs) = (tt, ones_of name number rs)

pub ones_since : (session : List ℕ) (number : ℕ) (xs : List Line) → AllByRecursion IsOnes xs → AllByRecursion IsOnes (since_begin session number xs)
ones_since session number [] ones = tt
ones_since session number (l ∷ ls) ones = go (is_begin_of session number l) (ones_since session number ls ones.1)
  where
    go : (b : Bool) → AllByRecursion IsOnes (since_begin session number ls) → AllByRecursion IsOnes (if b then ls else since_begin session number ls)
    go true more = ones.1
    go false more = more

-- what the lines of a session tell it
pub told_lines : (session : List ℕ) (number : ℕ) (rs : List Reply) → replies_in session (lines_of session number rs) ≡ rs
told_lines session number rs = ap (map (λ t. t.1)) (told_own session session number rs ((bytes_eq-Decides session session).1 refl)) ∙ unnumbered rs
  where
    unnumbered : (rs : List Reply) → map (λ t. t.1) (numbered number rs) ≡ rs
    unnumbered [] = refl
    unnumbered (r ∷ rs) = ap (λ (x : List Reply). r ∷ x) (unnumbered rs)
