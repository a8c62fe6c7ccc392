-- What a transaction is told behind what it was told: the next of its begin and replies, the outcome that ends it, or what cuts it
-- short.
use Rattle.std.proofs.Common.{◌≡◌, ℕ, ◌≤◌, List, [], ◌∷◌, ◌++◌, refl, sym, subst, ap, ◌∙◌, append_assoc, true, false, ◌⊎◌, inl, inr}
use Rattle.std.proofs.lemmas.Bool.{both_ways, false≢true}
use Rattle.std.proofs.lemmas.List.{append-nil}
use Rattle.std.specs.List.{AllByRecursion}
use Rattle.cdb_values.specs.declared.replies.Reply.{Reply}
use Rattle.cdb_values.specs.declared.replies.Reply.TheVariants as reply
use Rattle.report_laws.specs.Cut.{cuts}
use Rattle.report_laws.specs.History.{Basis, view_of}
use Rattle.report_laws.specs.Outcome.{Ends, IsDecided, IsOneDecision, IsRight}
use Rattle.report_laws.specs.Told.{alone_at}
use Rattle.report_laws.specs.Work.{ByCommit, ByRollback, Does, End, Nowhere, Transaction, WithItsLine}
use Rattle.report_laws.proofs.PieceLaws.{all_at}
use Rattle.report_laws.proofs.PlainLaws.{plain_alone}
use Rattle.report_text.specs.declared.reports.EntryLine.{EntryLine}
use Rattle.session_language.proofs.AllLaws.{all_standing}
use Rattle.session_language.proofs.EachLaws.{all_map}
use Rattle.session_language.specs.Answers.{Answers, ArePlain, IsPlain}
use Rattle.session_language.specs.Each.{StandsIn}
use Rattle.session_language.specs.Language.{Answered}
use Rattle.session_language.specs.Replies.{is_outcome}
use Rattle.session_language.specs.Touched.{used_at}
use Rattle.node_reports.specs.Told.{IsToldAlong}
use Rattle.node_laws.proofs.Known.{begin_of}
use Rattle.node_laws.proofs.Split.{none_left, one_left, reaches}

-- the begin that replies begin with, if they do
abbrev pub head_begin : List Reply → ℕ
head_begin [] = 0
head_begin (r ∷ rs) = begin_of r

pub head_same : (u : List Reply) (r : Reply) (more : List Reply) → head_begin (u ++ r ∷ more) ≡ head_begin (u ++ r ∷ [])
head_same [] r more = refl
head_same (x ∷ u) r more = refl

-- replies that end nothing
abbrev pub IsQuiet : Reply → Type 0
IsQuiet r = is_outcome r ≡ false

pub plain_quiet : (r : Reply) → IsPlain r → IsQuiet r
plain_quiet (reply.Begin position) is = absurd is
plain_quiet (reply.Row row) is = refl
plain_quiet (reply.Done rows) is = refl
plain_quiet (reply.Changed rows) is = refl
plain_quiet (reply.Error cause) is = refl
plain_quiet (reply.Level level) is = refl
plain_quiet reply.RolledBack is = absurd is
plain_quiet (reply.Committed position) is = absurd is
plain_quiet (reply.ConflictGenid position table genid) is = absurd is
plain_quiet (reply.ConflictRange position table key) is = absurd is
plain_quiet (reply.Duplicate position table key) is = absurd is
plain_quiet (reply.Lost node down) is = absurd is
plain_quiet (reply.NoMajority up nodes) is = absurd is
plain_quiet reply.NoMemory is = absurd is

-- what cuts short ends
cut_ends : (r : Reply) → cuts r ≡ true → IsQuiet r → ⊥
cut_ends (reply.Begin position) cut quiet = false≢true cut
cut_ends (reply.Row row) cut quiet = false≢true cut
cut_ends (reply.Done rows) cut quiet = false≢true cut
cut_ends (reply.Changed rows) cut quiet = false≢true cut
cut_ends (reply.Error cause) cut quiet = false≢true cut
cut_ends (reply.Level level) cut quiet = false≢true cut
cut_ends reply.RolledBack cut quiet = false≢true cut
cut_ends (reply.Committed position) cut quiet = false≢true cut
cut_ends (reply.ConflictGenid position table genid) cut quiet = false≢true cut
cut_ends (reply.ConflictRange position table key) cut quiet = false≢true cut
cut_ends (reply.Duplicate position table key) cut quiet = false≢true cut
cut_ends (reply.Lost node down) cut quiet = both_ways true quiet refl
cut_ends (reply.NoMajority up nodes) cut quiet = both_ways true quiet refl
cut_ends reply.NoMemory cut quiet = both_ways true quiet refl

-- an end is one reply, which cuts nothing short, or none
decided_cuts_none : (r : Reply) → IsDecided r → cuts r ≡ false
decided_cuts_none (reply.Begin position) is = refl
decided_cuts_none (reply.Row row) is = refl
decided_cuts_none (reply.Done rows) is = refl
decided_cuts_none (reply.Changed rows) is = refl
decided_cuts_none (reply.Error cause) is = refl
decided_cuts_none (reply.Level level) is = refl
decided_cuts_none reply.RolledBack is = refl
decided_cuts_none (reply.Committed position) is = refl
decided_cuts_none (reply.ConflictGenid position table genid) is = refl
decided_cuts_none (reply.ConflictRange position table key) is = refl
decided_cuts_none (reply.Duplicate position table key) is = refl
decided_cuts_none (reply.Lost node down) is = absurd is
decided_cuts_none (reply.NoMajority up nodes) is = absurd is
decided_cuts_none reply.NoMemory is = absurd is

decision_is : (last : List Reply) → IsOneDecision last → (last ≡ []) ⊎ ((o : Reply) × (last ≡ o ∷ []) × (cuts o ≡ false))
decision_is [] is = absurd is
decision_is (o ∷ []) is = inr (o, refl, decided_cuts_none o is)
decision_is (o ∷ p ∷ rest) is = absurd is

end_is : (end : End) (last : List Reply) → Ends end last → (last ≡ []) ⊎ ((o : Reply) × (last ≡ o ∷ []) × (cuts o ≡ false))
end_is ByCommit last is = decision_is last is
end_is ByRollback last is = inr (reply.RolledBack, is, refl)
end_is WithItsLine last is = decision_is last is
end_is Nowhere last is = inl is

-- what stands in an end is it
end_left : (end : End) (last extra tail : List Reply) (r : Reply) → Ends end last → last ≡ extra ++ r ∷ tail → (extra ≡ []) × (tail ≡ []) × (last ≡ r ∷ []) × (cuts r ≡ false)
end_left end last extra tail r ends is = go (end_is end last ends)
  where
    go : (last ≡ []) ⊎ ((o : Reply) × (last ≡ o ∷ []) × (cuts o ≡ false)) → (extra ≡ []) × (tail ≡ []) × (last ≡ r ∷ []) × (cuts r ≡ false)
    go (inl none) = absurd (none_left r extra tail (sym none ∙ is))
    go (inr (o, one, uncut)) =
        let parts : (extra ≡ []) × (o ≡ r) × (tail ≡ []) = one_left o r extra tail (sym one ∙ is) in
        (parts.0, parts.2, one ∙ ap (λ (q : Reply). q ∷ []) parts.1, ap cuts (sym parts.1) ∙ uncut)

module _ (basis : Basis) (entries : List EntryLine) (name : List ℕ) (t : Transaction) where
  -- the begin and the replies of a transaction that begins there
  abbrev pub all_at_begin : ℕ → List Reply
  all_at_begin begin = reply.Begin begin ∷ (alone_at basis (view_of basis entries) t begin).replies

  -- a reply is the next of these
  pub record IsReplied (u : List Reply) (r : Reply) : Type 0 where
    pub begin : ℕ
    pub base : basis.origin.position ≤ begin
    pub more : List Reply
    pub is : all_at_begin begin ≡ u ++ r ∷ more

  -- or behind all of them the outcome
  pub record IsEnding (u : List Reply) (r : Reply) (tail : List Reply) : Type 0 where
    pub begin : ℕ
    pub base : basis.origin.position ≤ begin
    pub is : u ≡ all_at_begin begin
    pub last : tail ≡ []
    pub ends : Ends t.end (r ∷ [])
    pub right : IsRight basis (view_of basis entries) name t begin (used_at t.level (alone_at basis (view_of basis entries) t begin)) (alone_at basis (view_of basis entries) t begin).ops r

  pub next_is : (u : List Reply) (r : Reply) (tail : List Reply) → cuts r ≡ false → IsToldAlong basis (view_of basis entries) name (Does t) (u ++ r ∷ tail) → IsReplied u r ⊎ IsEnding u r tail
  next_is u r tail uncut (inl w) = go (reaches u r tail (all_at_begin w.begin) w.last (w.says ∙ ap (λ (a : Answered). reply.Begin w.begin ∷ (a.replies ++ w.last)) w.is_ran))
    where
      ending : (extra : List Reply) → u ≡ all_at_begin w.begin ++ extra → w.last ≡ extra ++ r ∷ tail → IsEnding u r tail
      ending extra front back =
          let parts : (extra ≡ []) × (tail ≡ []) × (w.last ≡ r ∷ []) × (cuts r ≡ false) = end_left t.end w.last extra tail r w.ends back in
          record {
            begin = w.begin;
            base = w.base;
            is = front ∙ ap (λ (rs : List Reply). all_at_begin w.begin ++ rs) parts.0 ∙ append-nil (all_at_begin w.begin);
            last = parts.1;
            ends = subst (Ends t.end) parts.2 w.ends;
            right = subst (λ (a : Answered). IsRight basis (view_of basis entries) name t w.begin (used_at t.level a) a.ops r) w.is_ran
                (subst (AllByRecursion (IsRight basis (view_of basis entries) name t w.begin (used_at t.level w.ran) w.ran.ops)) parts.2 w.right).0;
          }

      go : ((more : List Reply) × (all_at_begin w.begin ≡ u ++ r ∷ more)) ⊎ ((extra : List Reply) × (u ≡ all_at_begin w.begin ++ extra) × (w.last ≡ extra ++ r ∷ tail)) → IsReplied u r ⊎ IsEnding u r tail
      go (inl (more, is)) = inl (record { begin = w.begin; base = w.base; more = more; is = is })
      go (inr (extra, front, back)) = inr (ending extra front back)
  next_is u r tail uncut (inr c) = inl (go (reaches u r tail c.front (c.cause ∷ []) c.says))
    where
      all : all_at_begin c.begin ≡ c.front ++ c.rest
      all = ap (λ (a : Answered). reply.Begin c.begin ∷ a.replies) (sym c.is_ran) ∙ sym c.fits

      go : ((more : List Reply) × (c.front ≡ u ++ r ∷ more)) ⊎ ((extra : List Reply) × (u ≡ c.front ++ extra) × (c.cause ∷ [] ≡ extra ++ r ∷ tail)) → IsReplied u r
      go (inl (more, is)) = record { begin = c.begin; base = c.base; more = more ++ c.rest; is = all ∙ ap (λ (rs : List Reply). rs ++ c.rest) is ∙ append_assoc u (r ∷ more) c.rest }
      go (inr (extra, front, back)) = absurd (both_ways (cuts r) uncut (ap cuts (sym (one_left c.cause r extra tail back).1) ∙ c.is_cause))

  -- these are quiet, where the language answers as it should
  pub all_quiet : Answers basis.language → (begin : ℕ) → AllByRecursion IsQuiet (all_at_begin begin)
  all_quiet answers begin = (refl, all_map IsPlain IsQuiet plain_quiet _ (plain_alone basis.language answers basis.origin.tables _ [] t.texts))

  -- what cuts a transaction short is the last that it is told
  pub cut_is_last : Answers basis.language → (u : List Reply) (r : Reply) (tail : List Reply) → cuts r ≡ true → IsToldAlong basis (view_of basis entries) name (Does t) (u ++ r ∷ tail) → tail ≡ []
  cut_is_last answers u r tail cut (inl w) = go (reaches u r tail (all_at_begin w.begin) w.last (w.says ∙ ap (λ (a : Answered). reply.Begin w.begin ∷ (a.replies ++ w.last)) w.is_ran))
    where
      go : ((more : List Reply) × (all_at_begin w.begin ≡ u ++ r ∷ more)) ⊎ ((extra : List Reply) × (u ≡ all_at_begin w.begin ++ extra) × (w.last ≡ extra ++ r ∷ tail)) → tail ≡ []
      go (inl (more, is)) = absurd (cut_ends r cut (all_at IsQuiet (all_at_begin w.begin) r (all_quiet answers w.begin) (u, more, is)))
      go (inr (extra, front, back)) = absurd (both_ways (cuts r) (end_left t.end w.last extra tail r w.ends back).3 cut)
  cut_is_last answers u r tail cut (inr c) = go (reaches u r tail c.front (c.cause ∷ []) c.says)
    where
      all : all_at_begin c.begin ≡ c.front ++ c.rest
      all = ap (λ (a : Answered). reply.Begin c.begin ∷ a.replies) (sym c.is_ran) ∙ sym c.fits

      go : ((more : List Reply) × (c.front ≡ u ++ r ∷ more)) ⊎ ((extra : List Reply) × (u ≡ c.front ++ extra) × (c.cause ∷ [] ≡ extra ++ r ∷ tail)) → tail ≡ []
      go (inl (more, is)) = absurd (cut_ends r cut (all_at IsQuiet (all_at_begin c.begin) r (all_quiet answers c.begin) (u, more ++ c.rest, all ∙ ap (λ (rs : List Reply). rs ++ c.rest) is ∙ append_assoc u (r ∷ more) c.rest)))
      go (inr (extra, front, back)) = (one_left c.cause r extra tail back).2

  -- a begin among these is the first of them
  pub only_begin : Answers basis.language → (begin other : ℕ) → StandsIn (all_at_begin begin) (reply.Begin other) → other ≡ begin
  only_begin answers begin other ([], back, is) = let it : reply.Begin begin ∷ (alone_at basis (view_of basis entries) t begin).replies ≡ reply.Begin other ∷ back = is in cc
  only_begin answers begin other (x ∷ front, back, is) =
      absurd (all_standing IsPlain front back (reply.Begin other) (subst ArePlain (let rest : (alone_at basis (view_of basis entries) t begin).replies ≡ front ++ reply.Begin other ∷ back = cc in rest) (plain_alone basis.language answers basis.origin.tables _ [] t.texts)))

  -- the begin that a transaction is told is the first of its replies
  pub begin_first : Answers basis.language → (told : List Reply) (begin : ℕ) → IsToldAlong basis (view_of basis entries) name (Does t) told → StandsIn told (reply.Begin begin) → head_begin told ≡ begin
  begin_first answers told begin is (front, back, at) = go (next_is front (reply.Begin begin) back refl (subst (IsToldAlong basis (view_of basis entries) name (Does t)) at is))
    where
      never : (end : End) → Ends end (reply.Begin begin ∷ []) → ⊥
      never ByCommit ends = ends
      never ByRollback ends = let no_such : reply.Begin begin ∷ [] ≡ reply.RolledBack ∷ [] = ends in cc
      never WithItsLine ends = ends
      never Nowhere ends = let no_such : reply.Begin begin ∷ [] ≡ [] = ends in cc

      go : IsReplied front (reply.Begin begin) ⊎ IsEnding front (reply.Begin begin) back → head_begin told ≡ begin
      go (inl r) = ap head_begin at ∙ head_same front (reply.Begin begin) back ∙ sym (head_same front (reply.Begin begin) r.more) ∙ ap head_begin (sym r.is) ∙ sym (only_begin answers r.begin begin (front, r.more, r.is))
      go (inr e) = absurd (never t.end e.ends)
