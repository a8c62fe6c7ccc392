-- What a line is told that appends no entry: that no majority is up, its one reply, or nothing.
use Rattle.std.proofs.Common.{◌≡◌, ℕ, ◌+◌, ◌≤◌, List, [], ◌∷◌, refl, sym, ap, Option, Some, None, ◌∙◌, Bool, true, false, if◌then◌else◌, inl, inr}
use Rattle.std.proofs.lemmas.Bool.{and_from, and_left}
use Rattle.std.proofs.lemmas.List.{append-nil}
use Rattle.std.specs.List.{AllByRecursion}
use Rattle.report_laws.specs.Lawful.{IsFreshAnswer, IsFreshLine, NameUpTo, named_by}
use Rattle.report_laws.specs.Nodes.{up_count, are_few, first_down}
use Rattle.report_laws.specs.Places.{HasItsCause, HasItsPlace}
use Rattle.report_laws.specs.Play.{IsSaid, IsTimely, begins, is_own_by, node_of, since_begin, was_cut}
use Rattle.report_laws.specs.Told.{lines_of}
use Rattle.report_text.specs.declared.reports.Line.{Line}
use Rattle.cdb_values.specs.declared.replies.Reply.{Reply}
use Rattle.cdb_values.specs.declared.replies.Reply.TheVariants as reply
use Rattle.script_form.specs.declared.scripts.Script.{Script}
use Rattle.session_language.specs.Each.{EachAfter}
use Rattle.session_language.specs.Language.{Kind}
use Rattle.session_language.specs.Replies.{are_up_to, is_last_of}
use Rattle.script_play.proofs.LossLemmas.{none_up_there}
use Rattle.report_laws.specs.History.{Origin}

-- what is told is right behind the lines before it, where no entry is appended
pub record IsToldSo (script : Script) (origin : Origin) (now : ℕ) (lines : List Line) (name : List ℕ) (number : ℕ) (k : Kind) (pending : Option (List (List ℕ))) (mine : List Line) : Type 0 where
  pub said : IsSaid script now lines name number k pending mine []
  pub fresh : EachAfter (IsFreshLine origin) lines mine
  pub placed : EachAfter (HasItsPlace script) lines mine
  pub named : NameUpTo now mine

-- a line that begins a transaction, while no majority is up
module _ (script : Script) (origin : Origin) (one : script.nodes ≡ 1) (now : ℕ) (lines : List Line) (few : are_few 1 lines ≡ true) (name : List ℕ) where
  none_up : up_count script.nodes lines ≡ 0
  none_up = ap (λ (n : ℕ). up_count n lines) one ∙ none_up_there lines few

  pub told_short : (k : Kind) (pending : Option (List (List ℕ))) (number : ℕ) → begins k pending ≡ true → IsToldSo script origin now lines name number k pending (lines_of name number (reply.NoMajority 0 1 ∷ []))
  told_short k pending number starts = record {
    said = inr (inr (inl (record {
      lacks = and_from (begins k pending) (are_few script.nodes lines) starts (ap (λ (n : ℕ). are_few n lines) one ∙ few);
      told = reply.NoMajority (up_count script.nodes lines) script.nodes;
      is_told = inl refl;
      says = ap (λ (m : ℕ). lines_of name number (reply.NoMajority m 1 ∷ [])) (sym none_up) ∙ ap (λ (m : ℕ). lines_of name number (reply.NoMajority (up_count script.nodes lines) m ∷ [])) (sym one);
      none = refl;
    })));
    fresh = (tt, tt);
    placed = (record { are_all = sym one; front = lines; back = []; stands = sym (append-nil lines); since = refl; are_up = sym (none_up_there lines few); few = few }, tt);
    named = (tt, tt);
  }

module _ (script : Script) (origin : Origin) (now : ℕ) (lines : List Line) (name : List ℕ) where
  -- one outside a transaction that begins none has its one reply
  pub told_lone : (k : Kind) (answer : Reply) → begins k None ≡ false → are_up_to (is_last_of (is_own_by k None)) (answer ∷ []) ≡ true → IsTimely now (now + 0) answer → IsFreshAnswer origin lines name answer →
      HasItsCause script lines name 0 answer → AllByRecursion (λ b. b ≤ now) (named_by answer) → IsToldSo script origin now lines name 0 k None (lines_of name 0 (answer ∷ []))
  told_lone k answer starts up_to timely fresh placed named = record {
    said = inl (record {
      replies = answer ∷ [];
      says = refl;
      turn = record { told = inl up_to; timely = (timely, tt); appended = tt };
      kept = refl;
      majority = and_left (begins k None) (are_few script.nodes lines) starts;
    });
    fresh = (fresh, tt);
    placed = (placed, tt);
    named = (named, tt);
  }

  -- one of a transaction that was cut short is told nothing
  pub told_nothing : (k : Kind) (texts : List (List ℕ)) (number : ℕ) → begins k (Some texts) ≡ false → was_cut lines name number ≡ true → IsToldSo script origin now lines name number k (Some texts) []
  told_nothing k texts number starts was = record {
    said = inl (record {
      replies = [];
      says = refl;
      turn = record { told = inr (refl, was); timely = tt; appended = tt };
      kept = ap (λ (b : Bool). if b then None else first_down (node_of script name) (since_begin name number lines)) was;
      majority = and_left (begins k (Some texts)) (are_few script.nodes lines) starts;
    });
    fresh = tt;
    placed = tt;
    named = tt;
  }
