-- What is told of an entry's transaction: it stays so with more lines and with an entry more, and its begin and its
-- commit stand among the lines.
use Rattle.std.proofs.Common.{◌≡◌, ℕ, ◌≤◌, List, [], ◌∷◌, ◌++◌, refl, sym, subst, ap, arith, ◌∙◌, append_assoc, Bool, true, false, if◌then◌else◌}
use Rattle.std.proofs.lemmas.Slice.Eq.{bytes_eq-Decides}
use Rattle.std.specs.Str.{bytes_eq}
use Rattle.session_language.specs.Each.{StandsIn}
use Rattle.report_laws.specs.History.{Basis, last_position, view_of}
use Rattle.report_laws.specs.Told.{told, Numbered, numbered, EndsAt, IsCommitTold, IsEntryTold}
use Rattle.report_laws.specs.View.{View}
use Rattle.report_text.specs.declared.reports.EntryLine.{EntryLine}
use Rattle.report_text.specs.declared.reports.EntryLine.TheVariants.{Setup, Commit}
use Rattle.report_text.specs.declared.reports.Line.{Line}
use Rattle.report_text.specs.declared.reports.Line.TheVariants as line
use Rattle.cdb_values.specs.declared.replies.Reply.{Reply}
use Rattle.cdb_values.specs.declared.replies.Reply.TheVariants as reply
use Rattle.report_laws.proofs.GrowLaws.{alone_stays}
use Rattle.report_laws.proofs.HistoryLaws.{last_more}
use Rattle.session_language.proofs.UpToLaws.{same_head, same_tail}
use Rattle.report_laws.proofs.ToldLaws.{told_append, numbered_append}

-- what a session was told stands among the lines
pub told_stands : (name : List ℕ) (n : ℕ) (r : Reply) (lines : List Line) → StandsIn (told name lines) (n, r) → StandsIn lines (line.Session name n r)
told_stands name n r [] ([], back, is) = absurd cc
told_stands name n r [] (x ∷ front, back, is) = absurd cc
told_stands name n r (line.Session session txn answer ∷ ls) (front, back, is) = go (bytes_eq session name) refl front is (λ f (b : List Numbered) e. told_stands name n r ls (f, b, e))
  where
    more : StandsIn ls (line.Session name n r) → StandsIn (line.Session session txn answer ∷ ls) (line.Session name n r)
    more (f, b, e) = (line.Session session txn answer ∷ f, b, ap (λ rest. line.Session session txn answer ∷ rest) e)

    go : (b : Bool) → bytes_eq session name ≡ b → (f : List Numbered) → (if b then (txn, answer) ∷ [] else []) ++ told name ls ≡ f ++ (n, r) ∷ back →
        ((g c : List Numbered) → told name ls ≡ g ++ (n, r) ∷ c → StandsIn ls (line.Session name n r)) → StandsIn (line.Session session txn answer ∷ ls) (line.Session name n r)
    go true same [] e later =
        let head : (txn, answer) ≡ (n, r) = same_head (txn, answer) (n, r) (told name ls) back e in
        ([], ls, ap (λ s. line.Session s txn answer ∷ ls) ((bytes_eq-Decides session name).0 same) ∙ ap (λ (x : Numbered). line.Session name x.0 x.1 ∷ ls) head)
    go true same (x ∷ f) e later = more (later f back (same_tail (txn, answer) x (told name ls) (f ++ (n, r) ∷ back) e))
    go false other f e later = more (later f back e)
told_stands name n r (line.Down count node fault ∷ ls) (front, back, is) = others (told_stands name n r ls (front, back, is))
  where
    others : StandsIn ls (line.Session name n r) → StandsIn (line.Down count node fault ∷ ls) (line.Session name n r)
    others (f, b, e) = (line.Down count node fault ∷ f, b, ap (λ rest. line.Down count node fault ∷ rest) e)
told_stands name n r (line.Up node ∷ ls) (front, back, is) = others (told_stands name n r ls (front, back, is))
  where
    others : StandsIn ls (line.Session name n r) → StandsIn (line.Up node ∷ ls) (line.Session name n r)
    others (f, b, e) = (line.Up node ∷ f, b, ap (λ rest. line.Up node ∷ rest) e)
told_stands name n r (line.Barrier ∷ ls) (front, back, is) = others (told_stands name n r ls (front, back, is))
  where
    others : StandsIn ls (line.Session name n r) → StandsIn (line.Barrier ∷ ls) (line.Session name n r)
    others (f, b, e) = (line.Barrier ∷ f, b, ap (λ rest. line.Barrier ∷ rest) e)
told_stands name n r (line.Fed position ∷ ls) (front, back, is) = others (told_stands name n r ls (front, back, is))
  where
    others : StandsIn ls (line.Session name n r) → StandsIn (line.Fed position ∷ ls) (line.Session name n r)
    others (f, b, e) = (line.Fed position ∷ f, b, ap (λ rest. line.Fed position ∷ rest) e)

pub committed_there : (position : ℕ) (o : Reply) → EndsAt position o → o ≡ reply.Committed position
committed_there position (reply.Begin at) ends = absurd ends
committed_there position (reply.Row row) ends = absurd ends
committed_there position (reply.Done rows) ends = absurd ends
committed_there position (reply.Changed rows) ends = absurd ends
committed_there position (reply.Error cause) ends = absurd ends
committed_there position (reply.Level level) ends = absurd ends
committed_there position reply.RolledBack ends = absurd ends
committed_there position (reply.Committed at) ends = ap reply.Committed ends
committed_there position (reply.ConflictGenid at table genid) ends = absurd ends
committed_there position (reply.ConflictRange at table key) ends = absurd ends
committed_there position (reply.Duplicate at table key) ends = absurd ends
committed_there position (reply.Lost node down) ends = absurd ends
committed_there position (reply.NoMajority up nodes) ends = absurd ends
committed_there position reply.NoMemory ends = absurd ends

module _ (basis : Basis) (view : View) (lines : List Line) (position : ℕ) (session : List ℕ) (txn begin : ℕ) (c : IsCommitTold basis view lines position session txn begin) where
  front : List Reply
  front = reply.Begin begin ∷ c.ran.replies

  -- its begin stands among the lines
  pub begin_stands : StandsIn lines (line.Session session txn (reply.Begin begin))
  begin_stands = told_stands session txn (reply.Begin begin) lines (c.before, numbered txn (c.ran.replies ++ c.outcome ∷ []) ++ c.after, c.says)

  -- and so does its commit
  pub commit_stands : StandsIn lines (line.Session session txn (reply.Committed position))
  unfolding front
  commit_stands =
      subst (λ (o : Reply). StandsIn lines (line.Session session txn o)) (committed_there position c.outcome c.ends)
      (told_stands session txn c.outcome lines (
        c.before ++ numbered txn front,
        c.after,
        c.says
            ∙ ap (λ (ls : List Numbered). c.before ++ (ls ++ c.after)) (numbered_append txn front (c.outcome ∷ []))
            ∙ ap (λ (ls : List Numbered). c.before ++ ls) (append_assoc (numbered txn front) (numbered txn (c.outcome ∷ [])) c.after)
            ∙ sym (append_assoc c.before (numbered txn front) (numbered txn (c.outcome ∷ []) ++ c.after)),
      ))

-- with more lines an entry is told so still
pub entry_told_more : (basis : Basis) (view : View) (lines more : List Line) (e : EntryLine) → IsEntryTold basis view lines e → IsEntryTold basis view (lines ++ more) e
entry_told_more basis view lines more (Setup position) was = tt
entry_told_more basis view lines more (Commit position session txn begin level) was = record {
  transaction = was.transaction;
  is_its = was.is_its;
  within = was.within;
  ran = was.ran;
  is_ran = was.is_ran;
  outcome = was.outcome;
  ends = was.ends;
  before = was.before;
  after = was.after ++ told session more;
  says = told_append session lines more
      ∙ ap (λ (ls : List Numbered). ls ++ told session more) was.says
      ∙ append_assoc was.before (numbered txn (reply.Begin begin ∷ (was.ran.replies ++ was.outcome ∷ [])) ++ was.after) (told session more)
      ∙ ap (λ (ls : List Numbered). was.before ++ ls) (append_assoc (numbered txn (reply.Begin begin ∷ (was.ran.replies ++ was.outcome ∷ []))) was.after (told session more));
}

-- and with an entry more
pub entry_told_stays : (basis : Basis) (es : List EntryLine) (d : EntryLine) (lines : List Line) (e : EntryLine) → IsEntryTold basis (view_of basis es) lines e → IsEntryTold basis (view_of basis (es ++ d ∷ [])) lines e
entry_told_stays basis es d lines (Setup position) was = tt
entry_told_stays basis es d lines (Commit position session txn begin level) was =
    let within : begin ≤ last_position basis.origin es = was.within in
    record {
      transaction = was.transaction;
      is_its = was.is_its;
      within = omega (arith, within, last_more basis.origin es d);
      ran = was.ran;
      is_ran = was.is_ran ∙ sym (alone_stays basis es d was.transaction begin within);
      outcome = was.outcome;
      ends = was.ends;
      before = was.before;
      after = was.after;
      says = was.says;
    }
