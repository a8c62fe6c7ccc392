-- The reader of lines is exact: each line has one reading.
use Rattle.std.proofs.Common.{◌≡◌, ℕ, List, [], ◌∷◌, ◌++◌, Option, Some, None, Bool, true, false, refl, ap, ◌∙◌, append_assoc, inl, inr, not}
use Rattle.std.specs.Prelude.{codes}
use Rattle.std.specs.Fmt.{decimal}
use Rattle.cdb_values.specs.declared.rows.Level as levels
use Rattle.report_text.specs.declared.reports.Line.{Line}
use Rattle.report_text.specs.declared.reports.Line.TheVariants as line
use Rattle.cdb_values.specs.declared.replies.Reply.{Reply}
use Rattle.report_text.specs.declared.reports.EntryLine.{EntryLine}
use Rattle.report_text.specs.declared.reports.EntryLine.TheVariants.{Setup, Commit}
use Rattle.report_text.specs.declared.reports.FeedLine.{FeedLine}
use Rattle.report_read.specs.declared.drafts.Item.{Item}
use Rattle.report_read.specs.declared.drafts.Item.TheVariants as item
use Rattle.byte_words.specs.Names.{IsName}
use Rattle.report_text.specs.Grammar.{is_ending, IsNumber, IsReply, IsLine, IsEntry, IsFeed}
use Rattle.report_text.specs.Text.{reply_text, cause_text, level_text, words_of, entry_words, feed_words, ended}
use Rattle.byte_words.specs.Words.{◌>>=◌}
use Rattle.report_read.specs.Reading.{Read, behind_word, before, only, name_then_at, numbered_at, counted_at, numbered_line_at, reply_at, session_at, cause_at, down_at, barrier_at, node_line_at, setup_at, commit_at, feed_line, is_table, feed_at, mark_at, entry_at, item_at}
use Rattle.report_read.proofs.ReaderLaws.{Exact, Sound, no_byte, next_none, word_again, sound_before, exact_before, exact_both, exact_only, sound_of, sound_as, sound_either, sound_word}
use Rattle.report_read.proofs.NumberLemmas.{exact_whole}
use Rattle.report_read.proofs.ReplyLaws.{exact_number_then, exact_name_then, exact_numbered, exact_counted, exact_level, sound_reply, reply_again}
use Rattle.report_read.proofs.LineLemmas.{session_front, no_line_word, no_numbered_line, counted_or_not, reply_no_number, reply_no_schema, no_rest}

-- ---- the readers of one kind of line

exact_numbered_line : (word : List ℕ) → Exact (λ n. (word ++ decimal n) ++ (10 ∷ [])) IsNumber no_byte (numbered_line_at word)
unfolding numbered_line_at
exact_numbered_line word = exact_before 10 [] refl (exact_numbered word)

exact_reply_line : Exact (λ r. reply_text r ++ (10 ∷ [])) IsReply no_byte (before reply_at (10 ∷ []))
exact_reply_line = record {
  found = (sound_before (10 ∷ []) sound_reply).found;
  again = λ r rest is stops.
      ap (before reply_at (10 ∷ [])) (append_assoc (reply_text r) (10 ∷ []) rest)
      ∙ ap (λ o. o >>= (λ y. behind_word (10 ∷ []) y.1 >>= (λ k. Some (y.0, k)))) (reply_again r rest is)
      ∙ ap (λ o. o >>= (λ k. Some (r, k))) (word_again (10 ∷ []) rest);
}

abbrev the_cause : Bool → Type 0
the_cause fault = Unit {0}

cause_again : (fault : Bool) (rest : List ℕ) → cause_at (cause_text fault ++ rest) ≡ Some (fault, rest)
unfolding cause_at behind_word
cause_again true rest = refl
cause_again false rest = refl

sound_cause : Sound cause_text the_cause cause_at
unfolding cause_at
sound_cause = sound_either (sound_word (codes "fault") true cause_text the_cause refl tt) (sound_word (codes "stop") false cause_text the_cause refl tt)

exact_cause : Exact cause_text the_cause no_byte cause_at
exact_cause = record { found = sound_cause.found; again = λ fault rest is stops. cause_again fault rest }

exact_feed_table : Exact (λ name. name ++ (32 ∷ [])) (λ name. IsName name × (is_table name ≡ true)) no_byte (only is_table name_then_at)
exact_feed_table = exact_only is_table exact_name_then

-- ---- what a line says, and what is read of it

abbrev pub item_text : Item → List ℕ
item_text (item.Event l) = ended (words_of l)
item_text (item.Base n) = ended (codes "base " ++ decimal n)
item_text (item.Entry e) = ended (entry_words e)
item_text (item.Feed f) = ended (feed_words f)
item_text (item.End n) = ended (codes "end " ++ decimal n)

abbrev pub IsItem : Item → Type 0
IsItem (item.Event l) = IsLine l
IsItem (item.Base n) = IsNumber n
IsItem (item.Entry e) = IsEntry e
IsItem (item.Feed f) = IsFeed f
IsItem (item.End n) = IsNumber n

abbrev line_text : Line → List ℕ
line_text l = ended (words_of l)

abbrev entry_text : EntryLine → List ℕ
entry_text e = ended (entry_words e)

abbrev feed_text : FeedLine → List ℕ
feed_text f = ended (feed_words f)

sound_session : Sound line_text IsLine session_at
unfolding session_at
sound_session = sound_as (λ x. line.Session x.0 x.1.0 x.1.1) line_text IsLine (sound_of (exact_both exact_name_then (exact_both exact_number_then exact_reply_line))) (λ x. simp append_assoc refl) (λ x is. (is.0, is.1.0, is.1.1))

sound_down : Sound line_text IsLine down_at
unfolding down_at
sound_down = sound_as (λ x. line.Down x.0 x.1.0 x.1.1) line_text IsLine (sound_of (exact_both (exact_counted (codes "down ")) (exact_both exact_number_then (exact_before 10 [] refl exact_cause)))) (λ x. simp append_assoc refl) (λ x is. (is.0, is.1.0))

abbrev barrier_text : Line → List ℕ
barrier_text l = words_of l

sound_barrier : Sound line_text IsLine barrier_at
unfolding barrier_at
sound_barrier = sound_before (10 ∷ []) (sound_word (codes "barrier") line.Barrier barrier_text IsLine refl tt)

sound_node_line : Sound line_text IsLine node_line_at
unfolding node_line_at
sound_node_line = sound_either sound_down (sound_either (sound_as line.Up line_text IsLine (sound_of (exact_numbered_line (codes "up "))) (λ n. refl) (λ n is. is))
    (sound_either sound_barrier (sound_as line.Fed line_text IsLine (sound_of (exact_numbered_line (codes "fed "))) (λ n. refl) (λ n is. is))))

sound_setup : Sound entry_text IsEntry setup_at
unfolding setup_at
sound_setup = sound_as Setup entry_text IsEntry (sound_before (10 ∷ []) (sound_before (codes "schema") (sound_of (exact_counted (codes "entry "))))) (λ n. simp append_assoc refl) (λ n is. is)

sound_commit : Sound entry_text IsEntry commit_at
unfolding commit_at
sound_commit = sound_as (λ x. Commit x.0 x.1.0 x.1.1.0 x.1.1.1.0 x.1.1.1.1) entry_text IsEntry
    (sound_of (exact_both (exact_counted (codes "entry ")) (exact_both exact_name_then (exact_both exact_number_then (exact_both exact_number_then (exact_before 10 [] refl exact_level))))))
    (λ x. simp append_assoc refl) (λ x is. (is.0, is.1.0, is.1.1.0, is.1.1.1.0))

sound_entry : Sound entry_text IsEntry entry_at
unfolding entry_at
sound_entry = sound_either sound_setup sound_commit

false_from_not : (b : Bool) → not b ≡ true → b ≡ false
false_from_not false h = refl
false_from_not true h = absurd cc

sound_feed : Sound feed_text IsFeed feed_at
unfolding feed_at
sound_feed = sound_as feed_line feed_text IsFeed (sound_of (exact_both (exact_counted (codes "feed ")) (exact_both exact_feed_table (exact_both exact_number_then (exact_before 10 [] refl exact_whole)))))
    (λ x. simp append_assoc refl) (λ x is. record { place = is.0; table = is.1.0.0; free = false_from_not (is_ending x.1.0) is.1.0.1; taken = is.1.1.0; dropped = is.1.1.1 })

sound_mark : Sound item_text IsItem mark_at
unfolding mark_at
sound_mark = sound_either (sound_as item.Base item_text IsItem (sound_of (exact_numbered_line (codes "base "))) (λ n. refl) (λ n is. is))
    (sound_either (sound_as item.End item_text IsItem (sound_of (exact_numbered_line (codes "end "))) (λ n. refl) (λ n is. is))
    (sound_as item.Event item_text IsItem sound_node_line (λ l. refl) (λ l is. is)))

pub sound_item : Sound item_text IsItem item_at
unfolding item_at
sound_item = sound_either sound_mark (sound_either (sound_as item.Entry item_text IsItem sound_entry (λ e. refl) (λ e is. is))
    (sound_either (sound_as item.Feed item_text IsItem sound_feed (λ f. refl) (λ f is. is)) (sound_as item.Event item_text IsItem sound_session (λ l. refl) (λ l is. is))))

-- ---- a line of a session is read as one

session_again : (name : List ℕ) (txn : ℕ) (r : Reply) (rest : List ℕ) → IsName name → IsNumber txn → IsReply r → session_at (session_front name txn (reply_text r ++ (10 ∷ rest))) ≡ Some (line.Session name txn r, rest)
unfolding session_at
session_again name txn r rest is fits has =
    let one = exact_name_then.again name ((decimal txn ++ (32 ∷ [])) ++ (reply_text r ++ (10 ∷ rest))) is (next_none ((decimal txn ++ (32 ∷ [])) ++ (reply_text r ++ (10 ∷ rest)))) in
    let two = exact_number_then.again txn (reply_text r ++ (10 ∷ rest)) fits (next_none (reply_text r ++ (10 ∷ rest))) in
    let three = reply_again r rest has in
    let four = word_again (10 ∷ []) rest in
    rw (one, two, three, four) refl

session_no_down : (name : List ℕ) (txn : ℕ) (r : Reply) (rest : List ℕ) → IsName name → IsNumber txn → down_at (session_front name txn (reply_text r ++ (10 ∷ rest))) ≡ None
unfolding down_at
session_no_down name txn r rest is fits = elim (counted_or_not (codes "down") name txn (reply_text r ++ (10 ∷ rest)) refl is fits) [
  | inl h ↦ rw h refl
  | inr h ↦ let none = reply_no_number r rest in rw (h, none) refl
]

-- a value that a word stands for, and the end of the line
abbrev line_of : {A : Type 0} → A → Option (List ℕ) → Read A
line_of {A} x o = let first : Read A = o >>= (λ k. Some (x, k)) in first >>= (λ y. behind_word (10 ∷ []) y.1 >>= (λ k. Some (y.0, k)))

line_word_none : {A : Type 0} (o : Option (List ℕ)) (x : A) → (o >>= behind_word (10 ∷ [])) ≡ None → line_of x o ≡ None
line_word_none None x h = refl
line_word_none (Some k) x h = rw h refl

session_no_barrier : (name : List ℕ) (txn : ℕ) (after : List ℕ) → IsName name → barrier_at (session_front name txn after) ≡ None
unfolding barrier_at
session_no_barrier name txn after is =
    line_word_none (behind_word (codes "barrier") (session_front name txn after)) line.Barrier (no_line_word (codes "barrier") name ((decimal txn ++ (32 ∷ [])) ++ after) refl is.bytes)

session_no_mark : (name : List ℕ) (txn : ℕ) (r : Reply) (rest : List ℕ) → IsName name → IsNumber txn → mark_at (session_front name txn (reply_text r ++ (10 ∷ rest))) ≡ None
unfolding mark_at node_line_at
session_no_mark name txn r rest is fits =
    let base = no_numbered_line (codes "base") name txn (reply_text r ++ (10 ∷ rest)) refl is fits in
    let end = no_numbered_line (codes "end") name txn (reply_text r ++ (10 ∷ rest)) refl is fits in
    let down = session_no_down name txn r rest is fits in
    let up = no_numbered_line (codes "up") name txn (reply_text r ++ (10 ∷ rest)) refl is fits in
    let barrier = session_no_barrier name txn (reply_text r ++ (10 ∷ rest)) is in
    let fed = no_numbered_line (codes "fed") name txn (reply_text r ++ (10 ∷ rest)) refl is fits in
    rw (base, end, down, up, barrier, fed) refl

session_no_entry : (name : List ℕ) (txn : ℕ) (r : Reply) (rest : List ℕ) → IsName name → IsNumber txn → IsReply r → entry_at (session_front name txn (reply_text r ++ (10 ∷ rest))) ≡ None
unfolding entry_at setup_at commit_at
session_no_entry name txn r rest is fits has = elim (counted_or_not (codes "entry") name txn (reply_text r ++ (10 ∷ rest)) refl is fits) [
  | inl h ↦ rw h refl
  | inr h ↦ let schema = reply_no_schema r rest in let none = (no_rest r rest has).commit in rw (h, schema, none) refl
]

session_no_feed : (name : List ℕ) (txn : ℕ) (r : Reply) (rest : List ℕ) → IsName name → IsNumber txn → IsReply r → feed_at (session_front name txn (reply_text r ++ (10 ∷ rest))) ≡ None
unfolding feed_at
session_no_feed name txn r rest is fits has = elim (counted_or_not (codes "feed") name txn (reply_text r ++ (10 ∷ rest)) refl is fits) [
  | inl h ↦ rw h refl
  | inr h ↦ let none = (no_rest r rest has).feed in rw (h, none) refl
]

session_item : (name : List ℕ) (txn : ℕ) (r : Reply) (rest : List ℕ) → IsName name → IsNumber txn → IsReply r → item_at (session_front name txn (reply_text r ++ (10 ∷ rest))) ≡ Some (item.Event (line.Session name txn r), rest)
unfolding item_at
session_item name txn r rest is fits has =
    let mark = session_no_mark name txn r rest is fits in
    let entry = session_no_entry name txn r rest is fits has in
    let feed = session_no_feed name txn r rest is fits has in
    let some = session_again name txn r rest is fits has in
    rw (mark, entry, feed, some) refl

-- ---- and so is each other line

numbered_line_again : (word : List ℕ) (n : ℕ) (rest : List ℕ) → IsNumber n → numbered_line_at word (ended (word ++ decimal n) ++ rest) ≡ Some (n, rest)
numbered_line_again word n rest is = (exact_numbered_line word).again n rest is (next_none rest)

down_item : (count node : ℕ) (fault : Bool) (rest : List ℕ) → IsNumber count → IsNumber node → item_at (codes "down " ++ ((decimal count ++ (32 ∷ [])) ++ ((decimal node ++ (32 ∷ [])) ++ (cause_text fault ++ (10 ∷ rest))))) ≡ Some (item.Event (line.Down count node fault), rest)
unfolding item_at mark_at node_line_at down_at numbered_line_at numbered_at counted_at behind_word
down_item count node fault rest first second =
    let after : List ℕ = cause_text fault ++ (10 ∷ rest) in
    let one = exact_number_then.again count ((decimal node ++ (32 ∷ [])) ++ after) first (next_none ((decimal node ++ (32 ∷ [])) ++ after)) in
    let two = exact_number_then.again node after second (next_none after) in
    let three = cause_again fault (10 ∷ rest) in
    rw (one, two, three) refl

commit_no_setup : (position : ℕ) (session after : List ℕ) → IsNumber position → IsName session → setup_at (codes "entry " ++ ((decimal position ++ (32 ∷ [])) ++ ((session ++ (32 ∷ [])) ++ after))) ≡ None
unfolding setup_at
commit_no_setup position session after fits is =
    let one = (exact_counted (codes "entry ")).again position ((session ++ (32 ∷ [])) ++ after) fits (next_none ((session ++ (32 ∷ [])) ++ after)) in
    let none = line_word_none (behind_word (codes "schema") ((session ++ (32 ∷ [])) ++ after)) position (no_line_word (codes "schema") session after refl is.bytes) in
    rw (one, none) refl

commit_again : (position : ℕ) (session : List ℕ) (txn begin : ℕ) (level : levels.Level) (rest : List ℕ) → IsEntry (Commit position session txn begin level)
    → commit_at (codes "entry " ++ ((decimal position ++ (32 ∷ [])) ++ ((session ++ (32 ∷ [])) ++ ((decimal txn ++ (32 ∷ [])) ++ ((decimal begin ++ (32 ∷ [])) ++ (level_text level ++ (10 ∷ rest))))))) ≡ Some (Commit position session txn begin level, rest)
unfolding commit_at
commit_again position session txn begin level rest is =
    let three : List ℕ = level_text level ++ (10 ∷ rest) in
    let two : List ℕ = (decimal begin ++ (32 ∷ [])) ++ three in
    let one : List ℕ = (decimal txn ++ (32 ∷ [])) ++ two in
    let zero : List ℕ = (session ++ (32 ∷ [])) ++ one in
    let a = (exact_counted (codes "entry ")).again position zero is.0 (next_none zero) in
    let b = exact_name_then.again session one is.1 (next_none one) in
    let c = exact_number_then.again txn two is.2 (next_none two) in
    let d = exact_number_then.again begin three is.3 (next_none three) in
    let e = exact_level.again level (10 ∷ rest) tt (next_none (10 ∷ rest)) in
    let f = word_again (10 ∷ []) rest in
    rw (a, b, c, d, e, f) refl

entry_no_mark : (bytes : List ℕ) → mark_at (codes "entry " ++ bytes) ≡ None
unfolding mark_at node_line_at down_at barrier_at numbered_line_at numbered_at counted_at behind_word
entry_no_mark bytes = refl

setup_item : (position : ℕ) (rest : List ℕ) → IsNumber position → item_at (codes "entry " ++ ((decimal position ++ (32 ∷ [])) ++ (codes "schema" ++ (10 ∷ rest)))) ≡ Some (item.Entry (Setup position), rest)
unfolding item_at entry_at setup_at
setup_item position rest is =
    let none = entry_no_mark ((decimal position ++ (32 ∷ [])) ++ (codes "schema" ++ (10 ∷ rest))) in
    let one = (exact_counted (codes "entry ")).again position (codes "schema" ++ (10 ∷ rest)) is (next_none (codes "schema" ++ (10 ∷ rest))) in
    let two = word_again (codes "schema") (10 ∷ rest) in
    let three = word_again (10 ∷ []) rest in
    rw (none, one, two, three) refl

commit_item : (position : ℕ) (session : List ℕ) (txn begin : ℕ) (level : levels.Level) (rest : List ℕ) → IsEntry (Commit position session txn begin level)
    → item_at (codes "entry " ++ ((decimal position ++ (32 ∷ [])) ++ ((session ++ (32 ∷ [])) ++ ((decimal txn ++ (32 ∷ [])) ++ ((decimal begin ++ (32 ∷ [])) ++ (level_text level ++ (10 ∷ rest))))))) ≡ Some (item.Entry (Commit position session txn begin level), rest)
unfolding item_at entry_at
commit_item position session txn begin level rest is =
    let after : List ℕ = (decimal txn ++ (32 ∷ [])) ++ ((decimal begin ++ (32 ∷ [])) ++ (level_text level ++ (10 ∷ rest))) in
    let none = entry_no_mark ((decimal position ++ (32 ∷ [])) ++ ((session ++ (32 ∷ [])) ++ after)) in
    let other = commit_no_setup position session after is.0 is.1 in
    let some = commit_again position session txn begin level rest is in
    rw (none, other, some) refl

feed_no_other : (bytes : List ℕ) → (mark_at (codes "feed " ++ bytes) ≡ None) × (entry_at (codes "feed " ++ bytes) ≡ None)
unfolding mark_at node_line_at down_at barrier_at numbered_line_at numbered_at counted_at behind_word entry_at setup_at commit_at
feed_no_other bytes = (refl, refl)

true_not : (b : Bool) → b ≡ false → not b ≡ true
true_not false h = refl
true_not true h = absurd cc

feed_item : (place : ℕ) (table : List ℕ) (taken dropped : ℕ) (rest : List ℕ) → IsNumber place → IsName table → is_ending table ≡ false → IsNumber taken → IsNumber dropped
    → item_at (codes "feed " ++ ((decimal place ++ (32 ∷ [])) ++ ((table ++ (32 ∷ [])) ++ ((decimal taken ++ (32 ∷ [])) ++ (decimal dropped ++ (10 ∷ rest)))))) ≡ Some (item.Feed (feed_line (place, (table, (taken, dropped)))), rest)
unfolding item_at feed_at
feed_item place table taken dropped rest first is free second third =
    let two : List ℕ = decimal dropped ++ (10 ∷ rest) in
    let one : List ℕ = (decimal taken ++ (32 ∷ [])) ++ two in
    let zero : List ℕ = (table ++ (32 ∷ [])) ++ one in
    let none = feed_no_other ((decimal place ++ (32 ∷ [])) ++ zero) in
    let no_mark = none.0 in
    let no_entry = none.1 in
    let a = (exact_counted (codes "feed ")).again place zero first (next_none zero) in
    let b = exact_name_then.again table one is (next_none one) in
    let t = true_not (is_ending table) free in
    let c = exact_number_then.again taken two second (next_none two) in
    let d = exact_whole.again dropped (10 ∷ rest) third refl in
    let e = word_again (10 ∷ []) rest in
    rw (no_mark, no_entry, a, b, t, c, d, e) refl

pub item_again : (i : Item) (rest : List ℕ) → IsItem i → item_at (item_text i ++ rest) ≡ Some (i, rest)
unfolding item_at mark_at node_line_at down_at barrier_at numbered_line_at numbered_at counted_at behind_word
item_again (item.Event (line.Session name txn r)) rest is =
    let regrouped : item_text (item.Event (line.Session name txn r)) ++ rest ≡ session_front name txn (reply_text r ++ (10 ∷ rest)) = simp append_assoc refl in
    ap item_at regrouped ∙ session_item name txn r rest is.0 is.1 is.2
item_again (item.Event (line.Down count node fault)) rest is =
    let regrouped : item_text (item.Event (line.Down count node fault)) ++ rest ≡ codes "down " ++ ((decimal count ++ (32 ∷ [])) ++ ((decimal node ++ (32 ∷ [])) ++ (cause_text fault ++ (10 ∷ rest)))) = simp append_assoc refl in
    ap item_at regrouped ∙ down_item count node fault rest is.0 is.1
item_again (item.Event (line.Up n)) rest is =
    let regrouped : item_text (item.Event (line.Up n)) ++ rest ≡ codes "up " ++ (decimal n ++ (10 ∷ rest)) = simp append_assoc refl in
    let read = exact_whole.again n (10 ∷ rest) is refl in
    ap item_at regrouped ∙ rw read refl
item_again (item.Event line.Barrier) rest is = refl
item_again (item.Event (line.Fed n)) rest is =
    let regrouped : item_text (item.Event (line.Fed n)) ++ rest ≡ codes "fed " ++ (decimal n ++ (10 ∷ rest)) = simp append_assoc refl in
    let read = exact_whole.again n (10 ∷ rest) is refl in
    ap item_at regrouped ∙ rw read refl
item_again (item.Base n) rest is =
    let regrouped : item_text (item.Base n) ++ rest ≡ codes "base " ++ (decimal n ++ (10 ∷ rest)) = simp append_assoc refl in
    let read = exact_whole.again n (10 ∷ rest) is refl in
    ap item_at regrouped ∙ rw read refl
item_again (item.Entry (Setup position)) rest is =
    let regrouped : item_text (item.Entry (Setup position)) ++ rest ≡ codes "entry " ++ ((decimal position ++ (32 ∷ [])) ++ (codes "schema" ++ (10 ∷ rest))) = simp append_assoc refl in
    ap item_at regrouped ∙ setup_item position rest is
item_again (item.Entry (Commit position session txn begin level)) rest is =
    let regrouped : item_text (item.Entry (Commit position session txn begin level)) ++ rest ≡ codes "entry " ++ ((decimal position ++ (32 ∷ [])) ++ ((session ++ (32 ∷ [])) ++ ((decimal txn ++ (32 ∷ [])) ++ ((decimal begin ++ (32 ∷ [])) ++ (level_text level ++ (10 ∷ rest)))))) = simp append_assoc refl in
    ap item_at regrouped ∙ commit_item position session txn begin level rest is
item_again (item.Feed f) rest is =
    let regrouped : item_text (item.Feed f) ++ rest ≡ codes "feed " ++ ((decimal f.place ++ (32 ∷ [])) ++ ((f.table ++ (32 ∷ [])) ++ ((decimal f.taken ++ (32 ∷ [])) ++ (decimal f.dropped ++ (10 ∷ rest))))) = simp append_assoc refl in
    ap item_at regrouped ∙ feed_item f.place f.table f.taken f.dropped rest is.place is.table is.free is.taken is.dropped
item_again (item.End n) rest is =
    let regrouped : item_text (item.End n) ++ rest ≡ codes "end " ++ (decimal n ++ (10 ∷ rest)) = simp append_assoc refl in
    let read = exact_whole.again n (10 ∷ rest) is refl in
    ap item_at regrouped ∙ rw read refl
