-- What a transaction was told stays right when the history grows by an entry.
use Rattle.std.proofs.Common.{◌≡◌, ℕ, ◌≤◌, List, [], ◌∷◌, ◌++◌, refl, sym, ap, arith, ◌∙◌, inl, inr}
use Rattle.cdb_values.specs.Rows.{Rows}
use Rattle.cdb_values.specs.declared.rows.RowOp.{RowOp}
use Rattle.report_laws.specs.History.{Basis, alone_on, last_position, view_of}
use Rattle.report_laws.specs.Told.{IsTold, IsWhole, IsCut, MayCut, alone_at}
use Rattle.report_laws.specs.Work.{Transaction, End, Nowhere, WorkItem, Does, Lone}
use Rattle.report_text.specs.declared.reports.EntryLine.{EntryLine}
use Rattle.session_language.specs.Touched.{used_at}
use Rattle.cdb_values.specs.declared.replies.Reply.{Reply}
use Rattle.cdb_values.specs.declared.replies.Reply.TheVariants as reply
use Rattle.report_laws.proofs.HistoryLaws.{last_more, rows_stay}
use Rattle.report_laws.proofs.OutcomeLemmas.{all_right_stay}

-- lists that end by one member each end by the same one where they are the same
last_of : {A : Type 0} → A → List A → A
last_of x [] = x
last_of x (y ∷ ys) = last_of y ys

last_added : {A : Type 0} (x : A) (xs : List A) (y : A) → last_of x (xs ++ y ∷ []) ≡ y
unfolding last_of
last_added x [] y = refl
last_added x (z ∷ zs) y = last_added z zs y

pub same_last : {A : Type 0} (xs ys : List A) (x y : A) → xs ++ x ∷ [] ≡ ys ++ y ∷ [] → x ≡ y
same_last xs ys x y is = sym (last_added x xs x) ∙ ap (last_of x) is ∙ last_added x ys y

pub first_begin : (a b : ℕ) (xs ys : List Reply) → reply.Begin a ∷ xs ≡ reply.Begin b ∷ ys → a ≡ b
first_begin a b xs ys is = cc

pub first_rest : (a b : ℕ) (xs ys : List Reply) → reply.Begin a ∷ xs ≡ reply.Begin b ∷ ys → xs ≡ ys
first_rest a b xs ys is = cc

-- what may cut a transaction short that has no end yet may have done so whatever its end, its further replies and operations are
pub may_later : (end : End) (ops ops' : List RowOp) (front rest rest' : List Reply) (cause : Reply) → MayCut Nowhere ops front rest cause → MayCut end ops' front rest' cause
may_later end ops ops' front rest rest' (reply.Lost node down) is = is
may_later end ops ops' front rest rest' (reply.NoMajority up nodes) (inl first) = inl first
may_later end ops ops' front rest rest' (reply.NoMajority up nodes) (inr ended) = absurd ended.2
may_later end ops ops' front rest rest' reply.NoMemory is = tt
may_later end ops ops' front rest rest' _ is = absurd is

module _ (basis : Basis) (es : List EntryLine) (e : EntryLine) where
  -- a transaction run alone at a position gives what it gave
  pub alone_stays : (t : Transaction) (begin : ℕ) → begin ≤ last_position basis.origin es → alone_at basis (view_of basis (es ++ e ∷ [])) t begin ≡ alone_at basis (view_of basis es) t begin
  alone_stays t begin within = ap (λ (rows : Rows). alone_on basis rows t.texts) (rows_stay basis es e begin within)

  pub whole_stays : (name : List ℕ) (t : Transaction) (mine : List Reply) → IsWhole basis (view_of basis es) name t mine → IsWhole basis (view_of basis (es ++ e ∷ [])) name t mine
  whole_stays name t mine was =
      let within : was.begin ≤ last_position basis.origin es = was.within in
      record {
        begin = was.begin;
        base = was.base;
        within = omega (arith, within, last_more basis.origin es e);
        ran = was.ran;
        is_ran = was.is_ran ∙ sym (alone_stays t was.begin within);
        last = was.last;
        ends = was.ends;
        right = all_right_stay basis es e name t was.begin (used_at t.level was.ran) was.base was.ran.ops was.last was.right;
        says = was.says;
      }

  pub cut_stays : (t : Transaction) (mine : List Reply) → IsCut basis (view_of basis es) t mine → IsCut basis (view_of basis (es ++ e ∷ [])) t mine
  cut_stays t mine was =
      let within : was.begin ≤ last_position basis.origin es = was.within in
      record {
        begin = was.begin;
        base = was.base;
        within = omega (arith, within, last_more basis.origin es e);
        ran = was.ran;
        is_ran = was.is_ran ∙ sym (alone_stays t was.begin within);
        front = was.front;
        rest = was.rest;
        fits = was.fits;
        cause = was.cause;
        is_cause = was.is_cause;
        may = was.may;
        says = was.says;
      }

  -- what an item was told is told of it still
  pub told_stays : (name : List ℕ) (item : WorkItem) (mine : List Reply) → IsTold basis (view_of basis es) name item mine → IsTold basis (view_of basis (es ++ e ∷ [])) name item mine
  told_stays name (Does t) mine (inl was) = inl (whole_stays name t mine was)
  told_stays name (Does t) mine (inr was) = inr (cut_stays t mine was)
  told_stays name (Lone answer) mine was = was
