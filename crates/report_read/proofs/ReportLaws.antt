-- The reader of reports is exact: what it reads is a report, whose text the bytes are, and the text of
-- a report is read as that report.
use Rattle.std.proofs.Common.{◌≡◌, ℕ, zero, suc, ◌+◌, ◌-◌, ◌≤◌, List, [], ◌∷◌, ◌++◌, length, Option, Some, None, Bool, true, false, cond, eqb, refl, sym, ap, subst, ◌∙◌, append_assoc, arith, inl, inr, ◌⊎◌, ◌&&◌, length-append}
use Rattle.std.specs.Prelude.{codes, is_none, IfSome}
use Rattle.std.specs.List.{AllByRecursion}
use Rattle.std.specs.Fmt.{decimal}
use Rattle.std.proofs.lemmas.Bool.{eqb-true, ne_eqb}
use Rattle.std.proofs.lemmas.List.{append-nil, nil_from_length}
use Rattle.std.proofs.lemmas.Option.{same_Some}
use Rattle.report_text.specs.declared.reports.Report.{Report}
use Rattle.report_text.specs.declared.reports.Line.{Line}
use Rattle.report_text.specs.declared.reports.EntryLine.{EntryLine}
use Rattle.report_text.specs.declared.reports.FeedLine.{FeedLine}
use Rattle.report_read.specs.declared.drafts.Item.{Item}
use Rattle.report_read.specs.declared.drafts.Item.TheVariants as item
use Rattle.report_read.specs.declared.drafts.Draft.{Draft}
use Rattle.report_text.specs.Grammar.{IsNumber, IsLine, IsEntry, IsFeed, IsReport}
use Rattle.report_text.specs.Text.{words_of, entry_words, feed_words, ended, base_text, end_text, lines_text, entries_text, feeds_text, report_text}
use Rattle.byte_words.specs.Words.{◌>>=◌}
use Rattle.report_read.specs.Reading.{item_at, may_end, may_enter, may_tell, added, drafted, empty_draft, finished, report_of}
use Rattle.report_read.proofs.ReaderLaws.{bind_some, guard_some}
use Rattle.report_read.proofs.ItemLaws.{item_text, IsItem, sound_item, item_again}

-- ---- the text of a draft

abbrev close_text : Option ℕ → List ℕ
close_text None = []
close_text (Some n) = end_text n

abbrev parts_text : List Line → Option ℕ → List EntryLine → List FeedLine → Option ℕ → List ℕ
parts_text lines base entries feeds end = lines_text lines ++ (base_text base ++ (entries_text entries ++ (feeds_text feeds ++ close_text end)))

abbrev draft_text : Draft → List ℕ
draft_text d = parts_text d.lines d.base d.entries d.feeds d.end

record IsDraft (d : Draft) : Type 0 where
  lines : AllByRecursion IsLine d.lines
  base : IfSome d.base IsNumber
  entries : AllByRecursion IsEntry d.entries
  feeds : AllByRecursion IsFeed d.feeds
  end : IfSome d.end IsNumber

lines_push : (ls : List Line) (l : Line) → lines_text (ls ++ l ∷ []) ≡ lines_text ls ++ ended (words_of l)
lines_push [] l = append-nil (ended (words_of l))
lines_push (k ∷ ls) l = ap (λ t. ended (words_of k) ++ t) (lines_push ls l) ∙ sym (append_assoc (ended (words_of k)) (lines_text ls) (ended (words_of l)))

entries_push : (es : List EntryLine) (e : EntryLine) → entries_text (es ++ e ∷ []) ≡ entries_text es ++ ended (entry_words e)
entries_push [] e = append-nil (ended (entry_words e))
entries_push (k ∷ es) e = ap (λ t. ended (entry_words k) ++ t) (entries_push es e) ∙ sym (append_assoc (ended (entry_words k)) (entries_text es) (ended (entry_words e)))

feeds_push : (fs : List FeedLine) (f : FeedLine) → feeds_text (fs ++ f ∷ []) ≡ feeds_text fs ++ ended (feed_words f)
feeds_push [] f = append-nil (ended (feed_words f))
feeds_push (k ∷ fs) f = ap (λ t. ended (feed_words k) ++ t) (feeds_push fs f) ∙ sym (append_assoc (ended (feed_words k)) (feeds_text fs) (ended (feed_words f)))

all_push : {A : Type 0} (P : A → Type 0) (xs : List A) (x : A) → AllByRecursion P xs → P x → AllByRecursion P (xs ++ x ∷ [])
all_push P [] x all is = (is, tt)
all_push P (y ∷ xs) x all is = (all.0, all_push P xs x all.1 is)

-- ---- when a part may come

and_parts : (a b : Bool) → (a && b) ≡ true → (a ≡ true) × (b ≡ true)
and_parts true b h = (refl, h)
and_parts false b h = absurd cc

none_is : {A : Type 0} (o : Option A) → is_none o ≡ true → o ≡ None
none_is None h = refl
none_is (Some x) h = absurd cc

empty_is : {A : Type 0} (xs : List A) → eqb (length xs) 0 ≡ true → xs ≡ []
empty_is xs h = nil_from_length xs (eqb-true (length xs) 0 h)

end_none : (d : Draft) → may_end d ≡ true → d.end ≡ None
end_none d h = none_is d.end h

feeds_none : (d : Draft) → may_enter d ≡ true → (d.feeds ≡ []) × (d.end ≡ None)
feeds_none d h = let p = and_parts (eqb (length d.feeds) 0) (may_end d) h in (empty_is d.feeds p.0, end_none d p.1)

all_none : (d : Draft) → may_tell d ≡ true → (d.base ≡ None) × (d.entries ≡ []) × (d.feeds ≡ []) × (d.end ≡ None)
all_none d h =
    let p = and_parts (is_none d.base) (eqb (length d.entries) 0 && may_enter d) h in
    let q = and_parts (eqb (length d.entries) 0) (may_enter d) p.1 in
    let r = feeds_none d q.1 in
    (none_is d.base p.0, empty_is d.entries q.0, r.0, r.1)

-- ---- an item that is added writes itself behind the draft

abbrev Adds : Draft → Item → Draft → Type 0
Adds d i e = (draft_text e ≡ draft_text d ++ item_text i) × IsDraft e

event_text : (lines : List Line) (base : Option ℕ) (entries : List EntryLine) (feeds : List FeedLine) (end : Option ℕ) (l : Line) → base ≡ None → entries ≡ [] → feeds ≡ [] → end ≡ None
    → parts_text (lines ++ l ∷ []) base entries feeds end ≡ parts_text lines base entries feeds end ++ ended (words_of l)
event_text lines base entries feeds end l a b c d =
    rw (a, b, c, d) (append-nil (lines_text (lines ++ l ∷ [])) ∙ lines_push lines l ∙ ap (λ t. t ++ ended (words_of l)) (sym (append-nil (lines_text lines))))

base_is_text : (lines : List Line) (base : Option ℕ) (entries : List EntryLine) (feeds : List FeedLine) (end : Option ℕ) (n : ℕ) → base ≡ None → entries ≡ [] → feeds ≡ [] → end ≡ None
    → parts_text lines (Some n) entries feeds end ≡ parts_text lines base entries feeds end ++ base_text (Some n)
base_is_text lines base entries feeds end n a b c d =
    rw (a, b, c, d) (ap (λ t. lines_text lines ++ t) (append-nil (base_text (Some n))) ∙ ap (λ t. t ++ base_text (Some n)) (sym (append-nil (lines_text lines))))

entry_is_text : (lines : List Line) (base : Option ℕ) (entries : List EntryLine) (feeds : List FeedLine) (end : Option ℕ) (e : EntryLine) → feeds ≡ [] → end ≡ None
    → parts_text lines base (entries ++ e ∷ []) feeds end ≡ parts_text lines base entries feeds end ++ ended (entry_words e)
entry_is_text lines base entries feeds end e c d =
    rw (c, d) (ap (λ t. lines_text lines ++ (base_text base ++ t)) (append-nil (entries_text (entries ++ e ∷ [])) ∙ entries_push entries e ∙ ap (λ t. t ++ ended (entry_words e)) (sym (append-nil (entries_text entries))))
    ∙ simp append_assoc refl)

feed_is_text : (lines : List Line) (base : Option ℕ) (entries : List EntryLine) (feeds : List FeedLine) (end : Option ℕ) (f : FeedLine) → end ≡ None
    → parts_text lines base entries (feeds ++ f ∷ []) end ≡ parts_text lines base entries feeds end ++ ended (feed_words f)
feed_is_text lines base entries feeds end f d =
    rw d (ap (λ t. lines_text lines ++ (base_text base ++ (entries_text entries ++ t))) (append-nil (feeds_text (feeds ++ f ∷ [])) ∙ feeds_push feeds f ∙ ap (λ t. t ++ ended (feed_words f)) (sym (append-nil (feeds_text feeds))))
    ∙ simp append_assoc refl)

end_is_text : (lines : List Line) (base : Option ℕ) (entries : List EntryLine) (feeds : List FeedLine) (end : Option ℕ) (n : ℕ) → end ≡ None
    → parts_text lines base entries feeds (Some n) ≡ parts_text lines base entries feeds end ++ end_text n
end_is_text lines base entries feeds end n d =
    rw d (ap (λ t. lines_text lines ++ (base_text base ++ (entries_text entries ++ (t ++ end_text n)))) (sym (append-nil (feeds_text feeds))) ∙ simp append_assoc refl)

added_found : (d : Draft) (i : Item) (e : Draft) → added d i ≡ Some e → IsDraft d → IsItem i → Adds d i e
unfolding added
added_found d (item.Event l) e h is has =
    let next : Draft = record d { lines = d.lines ++ l ∷ [] } in
    let g = guard_some (may_tell d) (Some next) e h in
    let n = all_none d g.0 in
    subst (λ (x : Draft). Adds d (item.Event l) x) (same_Some next e g.1)
    (event_text d.lines d.base d.entries d.feeds d.end l n.0 n.1 n.2 n.3, record { lines = all_push IsLine d.lines l is.lines has; base = is.base; entries = is.entries; feeds = is.feeds; end = is.end })
added_found d (item.Base k) e h is has =
    let next : Draft = record d { base = Some k } in
    let g = guard_some (may_tell d) (Some next) e h in
    let n = all_none d g.0 in
    subst (λ (x : Draft). Adds d (item.Base k) x) (same_Some next e g.1)
    (base_is_text d.lines d.base d.entries d.feeds d.end k n.0 n.1 n.2 n.3, record { lines = is.lines; base = has; entries = is.entries; feeds = is.feeds; end = is.end })
added_found d (item.Entry x) e h is has =
    let next : Draft = record d { entries = d.entries ++ x ∷ [] } in
    let g = guard_some (may_enter d) (Some next) e h in
    let n = feeds_none d g.0 in
    subst (λ (y : Draft). Adds d (item.Entry x) y) (same_Some next e g.1)
    (entry_is_text d.lines d.base d.entries d.feeds d.end x n.0 n.1, record { lines = is.lines; base = is.base; entries = all_push IsEntry d.entries x is.entries has; feeds = is.feeds; end = is.end })
added_found d (item.Feed f) e h is has =
    let next : Draft = record d { feeds = d.feeds ++ f ∷ [] } in
    let g = guard_some (may_end d) (Some next) e h in
    let n = end_none d g.0 in
    subst (λ (y : Draft). Adds d (item.Feed f) y) (same_Some next e g.1)
    (feed_is_text d.lines d.base d.entries d.feeds d.end f n, record { lines = is.lines; base = is.base; entries = is.entries; feeds = all_push IsFeed d.feeds f is.feeds has; end = is.end })
added_found d (item.End k) e h is has =
    let next : Draft = record d { end = Some k } in
    let g = guard_some (may_end d) (Some next) e h in
    let n = end_none d g.0 in
    subst (λ (y : Draft). Adds d (item.End k) y) (same_Some next e g.1)
    (end_is_text d.lines d.base d.entries d.feeds d.end k n, record { lines = is.lines; base = is.base; entries = is.entries; feeds = is.feeds; end = has })

abbrev Reaches : Draft → List ℕ → Draft → Type 0
Reaches d bytes e = (draft_text e ≡ draft_text d ++ bytes) × IsDraft e

reaches_end : (d : Draft) (bytes : List ℕ) (e : Draft) → eqb (length bytes) 0 ≡ true → Some d ≡ Some e → IsDraft d → Reaches d bytes e
reaches_end d bytes e h same is =
    let P : Draft → Type 0 = λ x. Reaches d bytes x in
    subst P (same_Some d e same) (sym (ap (λ t. draft_text d ++ t) (empty_is bytes h) ∙ append-nil (draft_text d)), is)

choice : {A : Type 0} (t : Bool) (o p : Option A) (y : A) → cond t o p ≡ Some y → ((t ≡ true) × (o ≡ Some y)) ⊎ (p ≡ Some y)
choice true o p y h = inl (refl, h)
choice false o p y h = inr h

drafted_found : (n : ℕ) (d : Draft) (bytes : List ℕ) (e : Draft) → drafted n d bytes ≡ Some e → IsDraft d → Reaches d bytes e
unfolding drafted
drafted_found zero d bytes e h is =
    let g = guard_some (eqb (length bytes) 0) (Some d) e h in
    reaches_end d bytes e g.0 g.1 is
drafted_found (suc n) d bytes e h is = elim (choice (eqb (length bytes) 0) (Some d) (item_at bytes >>= (λ x. added d x.0 >>= (λ next. drafted n next x.1))) e h) [
  | inl k ↦ reaches_end d bytes e k.0 k.1 is
  | inr k ↦
      let p = bind_some (item_at bytes) (λ x. added d x.0 >>= (λ next. drafted n next x.1)) e k in
      let q = bind_some (added d p.0.0) (λ next. drafted n next p.0.1) e p.2 in
      let f = sound_item.found bytes p.0.0 p.0.1 p.1 in
      let a = added_found d p.0.0 q.0 q.1 is f.1 in
      let r = drafted_found n q.0 p.0.1 e q.2 a.1 in
      (r.0 ∙ ap (λ t. t ++ p.0.1) a.0 ∙ append_assoc (draft_text d) (item_text p.0.0) p.0.1 ∙ ap (λ t. draft_text d ++ t) (sym f.0), r.1)
]

abbrev IsReportOf : List ℕ → Report → Type 0
IsReportOf bytes r = IsReport r × (report_text r ≡ bytes)

finished_found : (d : Draft) (bytes : List ℕ) (r : Report) → finished d ≡ Some r → draft_text d ≡ bytes → IsDraft d → IsReportOf bytes r
unfolding finished report_text
finished_found d bytes r h spelled is =
    let made : ℕ → Report = λ n. record { lines = d.lines; base = d.base; entries = d.entries; feeds = d.feeds; end = n } in
    let p = bind_some d.end (λ n. Some (made n)) r h in
    let end : IsNumber p.0 = let P : Option ℕ → Type 0 = λ o. IfSome o IsNumber in subst P p.1 is.end in
    let whole : report_text (made p.0) ≡ bytes = ap (λ o. parts_text d.lines d.base d.entries d.feeds o) (sym p.1) ∙ spelled in
    let Q : Report → Type 0 = λ x. IsReportOf bytes x in
    subst Q (same_Some (made p.0) r p.2) (record { lines = is.lines; base = is.base; entries = is.entries; feeds = is.feeds; end = end }, whole)

pub report_found : (bytes : List ℕ) (r : Report) → report_of bytes ≡ Some r → IsReportOf bytes r
unfolding report_of
report_found bytes r h =
    let p = bind_some (drafted (length bytes) empty_draft bytes) finished r h in
    let d = drafted_found (length bytes) empty_draft bytes p.0 p.1 (record { lines = tt; base = tt; entries = tt; feeds = tt; end = tt }) in
    finished_found p.0 bytes r p.2 d.0 d.1

-- ---- and the text of a report is read

ended_long : (words rest : List ℕ) → eqb (length (ended words ++ rest)) 0 ≡ false
ended_long [] rest = ne_eqb (length (10 ∷ rest)) 0 (λ h. omega arith)
ended_long (w ∷ words) rest = ne_eqb (length (w ∷ (ended words ++ rest))) 0 (λ h. omega arith)

item_long : (i : Item) (rest : List ℕ) → eqb (length (item_text i ++ rest)) 0 ≡ false
item_long (item.Event l) rest = ended_long (words_of l) rest
item_long (item.Base n) rest = ended_long (codes "base " ++ decimal n) rest
item_long (item.Entry e) rest = ended_long (entry_words e) rest
item_long (item.Feed f) rest = ended_long (feed_words f) rest
item_long (item.End n) rest = ended_long (codes "end " ++ decimal n) rest

step : (n : ℕ) (d : Draft) (i : Item) (rest : List ℕ) (e : Draft) → IsItem i → added d i ≡ Some e → drafted (suc n) d (item_text i ++ rest) ≡ drafted n e rest
unfolding drafted
step n d i rest e is h =
    let long = item_long i rest in
    let read = item_again i rest is in
    rw (long, read, h) refl

drafted_end : (n : ℕ) (d : Draft) → drafted n d [] ≡ Some d
unfolding drafted
drafted_end zero d = refl
drafted_end (suc n) d = refl

abbrev so_far : List Line → Option ℕ → List EntryLine → List FeedLine → Draft
so_far lines base entries feeds = record { lines = lines; base = base; entries = entries; feeds = feeds; end = None }

lines_again : (ls more : List Line) (n : ℕ) (rest : List ℕ) → AllByRecursion IsLine more
    → drafted (length more + n) (so_far ls None [] []) (lines_text more ++ rest) ≡ drafted n (so_far (ls ++ more) None [] []) rest
unfolding added
lines_again ls [] n rest all =
    let count : 0 + n ≡ n = omega arith in
    let none = append-nil ls in
    rw (count, none) refl
lines_again ls (l ∷ more) n rest all =
    let count : length (l ∷ more) + n ≡ suc (length more + n) = omega arith in
    let regrouped = append_assoc (ended (words_of l)) (lines_text more) rest in
    let first : drafted (suc (length more + n)) (so_far ls None [] []) (ended (words_of l) ++ (lines_text more ++ rest)) ≡ drafted (length more + n) (so_far (ls ++ l ∷ []) None [] []) (lines_text more ++ rest) =
    step (length more + n) (so_far ls None [] []) (item.Event l) (lines_text more ++ rest) (so_far (ls ++ l ∷ []) None [] []) all.0 refl in
    let later = lines_again (ls ++ l ∷ []) more n rest all.1 in
    let moved = append_assoc ls (l ∷ []) more in
    ap (λ k. drafted k (so_far ls None [] []) ((ended (words_of l) ++ lines_text more) ++ rest)) count
    ∙ ap (λ t. drafted (suc (length more + n)) (so_far ls None [] []) t) regrouped
    ∙ first ∙ later ∙ ap (λ x. drafted n (so_far x None [] []) rest) moved

base_count : Option ℕ → ℕ
base_count None = 0
base_count (Some n) = 1

base_again : (ls : List Line) (base : Option ℕ) (n : ℕ) (rest : List ℕ) → IfSome base IsNumber
    → drafted (base_count base + n) (so_far ls None [] []) (base_text base ++ rest) ≡ drafted n (so_far ls base [] []) rest
unfolding added base_count
base_again ls None n rest is = let count : 0 + n ≡ n = omega arith in rw count refl
base_again ls (Some k) n rest is =
    let count : 1 + n ≡ suc n = omega arith in
    ap (λ m. drafted m (so_far ls None [] []) (base_text (Some k) ++ rest)) count ∙ step n (so_far ls None [] []) (item.Base k) rest (so_far ls (Some k) [] []) is refl

entries_again : (ls : List Line) (base : Option ℕ) (es more : List EntryLine) (n : ℕ) (rest : List ℕ) → AllByRecursion IsEntry more
    → drafted (length more + n) (so_far ls base es []) (entries_text more ++ rest) ≡ drafted n (so_far ls base (es ++ more) []) rest
unfolding added
entries_again ls base es [] n rest all =
    let count : 0 + n ≡ n = omega arith in
    let none = append-nil es in
    rw (count, none) refl
entries_again ls base es (e ∷ more) n rest all =
    let count : length (e ∷ more) + n ≡ suc (length more + n) = omega arith in
    let regrouped = append_assoc (ended (entry_words e)) (entries_text more) rest in
    let first : drafted (suc (length more + n)) (so_far ls base es []) (ended (entry_words e) ++ (entries_text more ++ rest)) ≡ drafted (length more + n) (so_far ls base (es ++ e ∷ []) []) (entries_text more ++ rest) =
    step (length more + n) (so_far ls base es []) (item.Entry e) (entries_text more ++ rest) (so_far ls base (es ++ e ∷ []) []) all.0 refl in
    let later = entries_again ls base (es ++ e ∷ []) more n rest all.1 in
    let moved = append_assoc es (e ∷ []) more in
    ap (λ k. drafted k (so_far ls base es []) ((ended (entry_words e) ++ entries_text more) ++ rest)) count
    ∙ ap (λ t. drafted (suc (length more + n)) (so_far ls base es []) t) regrouped
    ∙ first ∙ later ∙ ap (λ x. drafted n (so_far ls base x []) rest) moved

feeds_again : (ls : List Line) (base : Option ℕ) (es : List EntryLine) (fs more : List FeedLine) (n : ℕ) (rest : List ℕ) → AllByRecursion IsFeed more
    → drafted (length more + n) (so_far ls base es fs) (feeds_text more ++ rest) ≡ drafted n (so_far ls base es (fs ++ more)) rest
unfolding added
feeds_again ls base es fs [] n rest all =
    let count : 0 + n ≡ n = omega arith in
    let none = append-nil fs in
    rw (count, none) refl
feeds_again ls base es fs (f ∷ more) n rest all =
    let count : length (f ∷ more) + n ≡ suc (length more + n) = omega arith in
    let regrouped = append_assoc (ended (feed_words f)) (feeds_text more) rest in
    let first : drafted (suc (length more + n)) (so_far ls base es fs) (ended (feed_words f) ++ (feeds_text more ++ rest)) ≡ drafted (length more + n) (so_far ls base es (fs ++ f ∷ [])) (feeds_text more ++ rest) =
    step (length more + n) (so_far ls base es fs) (item.Feed f) (feeds_text more ++ rest) (so_far ls base es (fs ++ f ∷ [])) all.0 refl in
    let later = feeds_again ls base es (fs ++ f ∷ []) more n rest all.1 in
    let moved = append_assoc fs (f ∷ []) more in
    ap (λ k. drafted k (so_far ls base es fs) ((ended (feed_words f) ++ feeds_text more) ++ rest)) count
    ∙ ap (λ t. drafted (suc (length more + n)) (so_far ls base es fs) t) regrouped
    ∙ first ∙ later ∙ ap (λ x. drafted n (so_far ls base es x) rest) moved

abbrev closed : List Line → Option ℕ → List EntryLine → List FeedLine → ℕ → Draft
closed lines base entries feeds n = record { lines = lines; base = base; entries = entries; feeds = feeds; end = Some n }

end_again : (ls : List Line) (base : Option ℕ) (es : List EntryLine) (fs : List FeedLine) (n k : ℕ) → IsNumber k
    → drafted (suc n) (so_far ls base es fs) (end_text k) ≡ Some (closed ls base es fs k)
unfolding added
end_again ls base es fs n k is =
    ap (λ t. drafted (suc n) (so_far ls base es fs) t) (sym (append-nil (end_text k)))
    ∙ step n (so_far ls base es fs) (item.End k) [] (closed ls base es fs k) is refl ∙ drafted_end n (closed ls base es fs k)

-- the items of a report, in as many turns as it has items or more
parts_again : (ls : List Line) (base : Option ℕ) (es : List EntryLine) (fs : List FeedLine) (k n : ℕ) → AllByRecursion IsLine ls → IfSome base IsNumber → AllByRecursion IsEntry es → AllByRecursion IsFeed fs → IsNumber k
    → drafted (length ls + (base_count base + (length es + (length fs + suc n)))) empty_draft (parts_text ls base es fs (Some k)) ≡ Some (closed ls base es fs k)
parts_again ls base es fs k n a b c d e =
    lines_again [] ls (base_count base + (length es + (length fs + suc n))) (base_text base ++ (entries_text es ++ (feeds_text fs ++ end_text k))) a
    ∙ base_again ls base (length es + (length fs + suc n)) (entries_text es ++ (feeds_text fs ++ end_text k)) b
    ∙ entries_again ls base [] es (length fs + suc n) (feeds_text fs ++ end_text k) c
    ∙ feeds_again ls base es [] fs (suc n) (end_text k) d
    ∙ end_again ls base es fs n k e

-- ---- there are bytes enough for that many turns

ended_has : (words : List ℕ) → 1 ≤ length (ended words)
ended_has words = let whole = length-append words (10 ∷ []) in omega arith

lines_long : (ls : List Line) → length ls ≤ length (lines_text ls)
lines_long [] = omega arith
lines_long (l ∷ ls) = let one = ended_has (words_of l) in let more = lines_long ls in let whole = length-append (ended (words_of l)) (lines_text ls) in omega arith

base_long : (base : Option ℕ) → base_count base ≤ length (base_text base)
unfolding base_count
base_long None = omega arith
base_long (Some n) = ended_has (codes "base " ++ decimal n)

entries_long : (es : List EntryLine) → length es ≤ length (entries_text es)
entries_long [] = omega arith
entries_long (e ∷ es) = let one = ended_has (entry_words e) in let more = entries_long es in let whole = length-append (ended (entry_words e)) (entries_text es) in omega arith

feeds_long : (fs : List FeedLine) → length fs ≤ length (feeds_text fs)
feeds_long [] = omega arith
feeds_long (f ∷ fs) = let one = ended_has (feed_words f) in let more = feeds_long fs in let whole = length-append (ended (feed_words f)) (feeds_text fs) in omega arith

parts_long : (ls : List Line) (base : Option ℕ) (es : List EntryLine) (fs : List FeedLine) (k : ℕ) → length ls + (base_count base + (length es + (length fs + 1))) ≤ length (parts_text ls base es fs (Some k))
parts_long ls base es fs k =
    let a = lines_long ls in
    let b = base_long base in
    let c = entries_long es in
    let d = feeds_long fs in
    let e = ended_has (codes "end " ++ decimal k) in
    let one = length-append (lines_text ls) (base_text base ++ (entries_text es ++ (feeds_text fs ++ end_text k))) in
    let two = length-append (base_text base) (entries_text es ++ (feeds_text fs ++ end_text k)) in
    let three = length-append (entries_text es) (feeds_text fs ++ end_text k) in
    let four = length-append (feeds_text fs) (end_text k) in
    omega arith

pub report_again : (r : Report) → IsReport r → report_of (report_text r) ≡ Some r
unfolding report_of report_text finished
report_again r is =
    let text : List ℕ = parts_text r.lines r.base r.entries r.feeds (Some r.end) in
    let items : ℕ = length r.lines + (base_count r.base + (length r.entries + (length r.feeds + 1))) in
    let long : items ≤ length text = parts_long r.lines r.base r.entries r.feeds r.end in
    let turns : length text ≡ length r.lines + (base_count r.base + (length r.entries + (length r.feeds + suc (length text - items)))) = omega arith in
    let read = parts_again r.lines r.base r.entries r.feeds r.end (length text - items) is.lines is.base is.entries is.feeds is.end in
    ap (λ n. drafted n empty_draft text >>= finished) turns ∙ ap (λ o. o >>= finished) read
