-- A feed that tells an earlier position than the one before it is not lawful, by the operator's law: it is the last that the
-- operator tells, so it is the line of the script's last feed.
use Rattle.std.proofs.Common.{◌≡◌, ℕ, ◌≤◌, List, [], ◌∷◌, ◌++◌, refl, sym, subst, ap, arith, ◌∙◌, append_assoc, Option, Bool, true, false, if◌then◌else◌, inl, inr, take}
use Rattle.session_language.proofs.UpToLaws.{same_head, same_tail}
use Rattle.report_laws.specs.History.{view_of, Basis}
use Rattle.report_laws.specs.View.{View}
use Rattle.report_text.specs.declared.reports.Line.{Line}
use Rattle.report_text.specs.declared.reports.Line.TheVariants as line
use Rattle.report_worked.specs.Small.{from_nothing}
use Rattle.script_form.specs.declared.scripts.Act.{Act}
use Rattle.script_form.specs.declared.scripts.Act.TheVariants as act
use Rattle.script_form.specs.declared.scripts.BodyLine.{BodyLine}
use Rattle.node_reports.specs.Fed.{IsFed}
use Rattle.node_reports.specs.Lawful.{LawfulOfNodes}
use Rattle.node_reports.specs.Operator.{is_operators, operators, AreHeeded, Closes, FeedsThere, IsHeeded}
use Rattle.node_stories.specs.Stories.{fed_twice}
use Rattle.node_stories.specs.StoriesWrong.{fed_behind}

not_none : {E : Type 0} (xs ys : List E) (x : E) → [] ≡ xs ++ x ∷ ys → ⊥
not_none [] ys x is = cc
not_none (z ∷ zs) ys x is = cc

module _ (arms : ℕ → Option ℕ) where
  -- among lines up to one of the operator's, it is the operator's
  some_told : (ls : List Line) (l : Line) → is_operators arms l ≡ true → operators arms (ls ++ l ∷ []) ≡ [] → ⊥
  some_told [] l is none = not_none [] [] l (sym none ∙ ap (λ (b : Bool). if b then l ∷ [] else []) is)
  some_told (x ∷ ls) l is none = go (is_operators arms x) none (λ e. some_told ls l is e)
    where
      go : (b : Bool) → (if b then x ∷ operators arms (ls ++ l ∷ []) else operators arms (ls ++ l ∷ [])) ≡ [] → (operators arms (ls ++ l ∷ []) ≡ [] → ⊥) → ⊥
      go true e later = not_none [] (operators arms (ls ++ l ∷ [])) x (sym e)
      go false e later = later e

  -- where the last line is the operator's, a line behind which the operator tells nothing is the last
  is_last : (ls front back : List Line) (l m : Line) → is_operators arms l ≡ true → ls ++ l ∷ [] ≡ front ++ m ∷ back → operators arms back ≡ [] → (ls ≡ front) × (l ≡ m)
  is_last [] [] back l m is split none = (refl, same_head l m [] back split)
  is_last [] (x ∷ front) back l m is split none = absurd (not_none front back m (same_tail l x [] (front ++ m ∷ back) split))
  is_last (y ∷ ls) [] back l m is split none = absurd (some_told ls l is (ap (operators arms) (same_tail y m (ls ++ l ∷ []) back split) ∙ none))
  is_last (y ∷ ls) (x ∷ front) back l m is split none =
      let rest : (ls ≡ front) × (l ≡ m) = is_last ls front back l m is (same_tail y x (ls ++ l ∷ []) (front ++ m ∷ back) split) none in
      (ap (λ (z : Line). z ∷ ls) (same_head y x (ls ++ l ∷ []) (front ++ m ∷ back) split) ∙ ap (λ (zs : List Line). x ∷ zs) rest.0, rest.1)

-- the place of a script's last line, a feed, behind which the operator tells nothing
record IsLastFed (basis : Basis) (view : View) (arms : ℕ → Option ℕ) (before rest : List Line) : Type 0 where
  pub front : List Line
  pub position : ℕ
  pub back : List Line
  pub says : rest ≡ front ++ line.Fed position ∷ back
  pub none : operators arms back ≡ []
  pub right : IsFed basis view (before ++ front) position

module _ (basis : Basis) (view : View) (arms : ℕ → Option ℕ) (unwatched : basis.script.watches ≡ []) where
  last_feed : (done bs : List BodyLine) (b : BodyLine) (before rest : List Line) → b.act ≡ act.Feed → AreHeeded basis view arms done (bs ++ b ∷ []) before rest → IsLastFed basis view arms before rest
  last_feed done [] b before rest feeds (mine, later, split, heeded, closes) = go (subst (λ (a : Act). IsHeeded basis view arms done before a mine) feeds heeded)
    where
      go : FeedsThere basis view arms before mine → IsLastFed basis view arms before rest
      go f = record {
        front = f.front;
        position = f.position;
        back = later;
        says = split ∙ ap (λ (ls : List Line). ls ++ later) f.says ∙ append_assoc f.front (line.Fed f.position ∷ []) later;
        none = subst (λ (ws : List ℕ). Closes basis view arms ws (before ++ mine) later) unwatched closes;
        right = f.right;
      }
  last_feed done (x ∷ bs) b before rest feeds (mine, later, split, heeded, more) =
      let f = last_feed (done ++ x ∷ []) bs b (before ++ mine) later feeds more in
      record {
        front = mine ++ f.front;
        position = f.position;
        back = f.back;
        says = split ∙ ap (λ (ls : List Line). mine ++ ls) f.says ∙ sym (append_assoc mine f.front (line.Fed f.position ∷ f.back));
        none = f.none;
        right = subst (λ (ls : List Line). IsFed basis view ls f.position) (append_assoc before mine f.front) f.right;
      }

abbrev of_fed : Line → ℕ
of_fed (line.Fed position) = position
of_fed (line.Session name txn answer) = 0
of_fed (line.Down count node fault) = 0
of_fed (line.Up node) = 0
of_fed line.Barrier = 0

-- neither fresh, since a commit was told before the feed before it, nor a repetition
not_fed : IsFed (from_nothing fed_twice) (view_of (from_nothing fed_twice) fed_behind.entries) (take 7 fed_behind.lines) 1 → ⊥
not_fed (inl fed) =
    let heard = fed.heard (take 4 fed_behind.lines) (line.Fed 2) (line.Down 1 2 false ∷ line.Down 2 3 false ∷ []) refl refl in
    let no_such : 2 ≤ 1 = heard.1.1.0.0 in omega (arith, no_such)
not_fed (inr repeats) = let no_such : 1 ≡ 2 = repeats.same in omega (arith, no_such)

pub fed_behind_is_refused : LawfulOfNodes (from_nothing fed_twice) fed_behind → ⊥
fed_behind_is_refused is =
    let f = last_feed (from_nothing fed_twice) (view_of (from_nothing fed_twice) fed_behind.entries) is.operator.arms refl [] (take 5 fed_twice.body) (record { line = 10; act = act.Feed }) [] fed_behind.lines refl is.operator.heeded in
    let at : (take 7 fed_behind.lines ≡ f.front) × (line.Fed 1 ≡ line.Fed f.position) = is_last is.operator.arms (take 7 fed_behind.lines) f.front f.back (line.Fed 1) (line.Fed f.position) refl f.says f.none in
    let position : 1 ≡ f.position = ap of_fed at.1 in
    not_fed (subst (λ (ls : List Line). IsFed (from_nothing fed_twice) (view_of (from_nothing fed_twice) fed_behind.entries) ls 1) (sym at.0)
    (subst (λ (k : ℕ). IsFed (from_nothing fed_twice) (view_of (from_nothing fed_twice) fed_behind.entries) f.front k) (sym position) f.right))
