-- A line of a session is read as no other line, whatever word its name is.
use Rattle.std.proofs.Common.{◌≡◌, ℕ, suc, ◌≤◌, List, [], ◌∷◌, ◌++◌, Some, None, Bool, true, false, eqb, refl, sym, ap, subst, ◌∙◌, append_assoc, arith, ◌⊎◌, inl, inr, ◌&&◌, ◌||◌}
use Rattle.std.specs.Prelude.{codes, pos, negsuc, nat_le}
use Rattle.std.specs.List.{list_all}
use Rattle.std.specs.Fmt.{decimal}
use Rattle.std.proofs.lemmas.Bool.{ne_eqb, eqb-true, leb-true}
use Rattle.std.proofs.lemmas.Bool.Decides.{eqb_tells}
use Rattle.cdb_values.specs.declared.values.Value.{Value}
use Rattle.cdb_values.specs.declared.values.Value.TheVariants.{Null, Int, Text, Blob}
use Rattle.cdb_values.specs.declared.rows.Level as levels
use Rattle.cdb_values.specs.declared.rows.Level.TheVariants.{Snapshot, Serializable}
use Rattle.cdb_values.specs.declared.rows.StatementError as errors
use Rattle.cdb_values.specs.declared.rows.StatementError.TheVariants as error
use Rattle.cdb_values.specs.declared.replies.Reply.{Reply}
use Rattle.cdb_values.specs.declared.replies.Reply.TheVariants as reply
use Rattle.byte_words.specs.Words.{is_digit, is_lower, ◌>>=◌}
use Rattle.byte_words.specs.Names.{is_name_byte, begins_lower, IsName}
use Rattle.report_text.specs.Grammar.{IsNumber, IsValue, IsReply}
use Rattle.report_text.specs.Text.{quoted, hexadecimal, value_text, more_values, values_text, error_text, level_text, reply_text}
use Rattle.report_read.specs.Reading.{Read, behind_word, before, both, only, is_table, number_within, number_at, name_at, number_then_at, name_then_at, numbered_at, counted_at, numbered_line_at, level_at}
use Rattle.report_read.proofs.ReaderLaws.{next_none}
use Rattle.report_read.proofs.NumberLemmas.{exact_whole}
use Rattle.report_read.proofs.ReplyLaws.{exact_number_then}

-- the bytes behind a name and a number, in a line of a session
abbrev pub session_front : List ℕ → ℕ → List ℕ → List ℕ
session_front name txn after = (name ++ (32 ∷ [])) ++ ((decimal txn ++ (32 ∷ [])) ++ after)

-- ---- a word against a name

and_parts : (a b : Bool) → (a && b) ≡ true → (a ≡ true) × (b ≡ true)
and_parts true b h = (refl, h)
and_parts false b h = absurd cc

-- a byte that is none of a name
differs : (b c : ℕ) → is_name_byte b ≡ true → is_name_byte c ≡ false → b ≡ c → ⊥
differs b c h k e = let same : is_name_byte c ≡ true = subst (λ (x : ℕ). is_name_byte x ≡ true) e h in absurd cc

-- a word and a space, before a name and a space
pub word_or_not : (word name after : List ℕ) → list_all is_name_byte word ≡ true → list_all is_name_byte name ≡ true
    → (behind_word (word ++ (32 ∷ [])) ((name ++ (32 ∷ [])) ++ after) ≡ None) ⊎ (behind_word (word ++ (32 ∷ [])) ((name ++ (32 ∷ [])) ++ after) ≡ Some after)
unfolding behind_word
word_or_not [] [] after hw hn = inr refl
word_or_not [] (n ∷ name) after hw hn =
    let e = ne_eqb 32 n (λ h. differs n 32 (and_parts (is_name_byte n) (list_all is_name_byte name) hn).0 refl (sym h)) in
    inl (rw e refl)
word_or_not (w ∷ word) [] after hw hn =
    let e = ne_eqb w 32 (differs w 32 (and_parts (is_name_byte w) (list_all is_name_byte word) hw).0 refl) in
    inl (rw e refl)
word_or_not (w ∷ word) (n ∷ name) after hw hn = elim (eqb_tells w n) [
  | inl e ↦
      let same = e.0 in
      elim (word_or_not word name after (and_parts (is_name_byte w) (list_all is_name_byte word) hw).1 (and_parts (is_name_byte n) (list_all is_name_byte name) hn).1) [
        | inl h ↦ inl (rw same h)
        | inr h ↦ inr (rw same h)
      ]
  | inr e ↦ let other = e.0 in inl (rw other refl)
]

-- a word and the end of the line, before a name and a space
pub no_line_word : (word name after : List ℕ) → list_all is_name_byte word ≡ true → list_all is_name_byte name ≡ true
    → (behind_word word ((name ++ (32 ∷ [])) ++ after) >>= behind_word (10 ∷ [])) ≡ None
unfolding behind_word
no_line_word [] [] after hw hn = refl
no_line_word [] (n ∷ name) after hw hn =
    let e = ne_eqb 10 n (λ h. differs n 10 (and_parts (is_name_byte n) (list_all is_name_byte name) hn).0 refl (sym h)) in
    rw e refl
no_line_word (w ∷ word) [] after hw hn =
    let e = ne_eqb w 32 (differs w 32 (and_parts (is_name_byte w) (list_all is_name_byte word) hw).0 refl) in
    rw e refl
no_line_word (w ∷ word) (n ∷ name) after hw hn = elim (eqb_tells w n) [
  | inl e ↦ let same = e.0 in rw same (no_line_word word name after (and_parts (is_name_byte w) (list_all is_name_byte word) hw).1 (and_parts (is_name_byte n) (list_all is_name_byte name) hn).1)
  | inr e ↦ let other = e.0 in rw other refl
]

-- ---- what no number begins

-- a number before another byte than a space
pub number_stops : (n b : ℕ) (rest : List ℕ) → IsNumber n → is_digit b ≡ false → eqb 32 b ≡ false → number_then_at (decimal n ++ (b ∷ rest)) ≡ None
unfolding number_then_at behind_word
number_stops n b rest is stops other = let read = exact_whole.again n (b ∷ rest) is stops in rw (read, other) refl

no_digit_first : (b : ℕ) (bytes : List ℕ) → is_digit b ≡ false → number_at (b ∷ bytes) ≡ None
unfolding number_at number_within
no_digit_first b bytes h = rw h refl

no_digit_then : (b : ℕ) (bytes : List ℕ) → is_digit b ≡ false → number_then_at (b ∷ bytes) ≡ None
unfolding number_then_at
no_digit_then b bytes h = let e = no_digit_first b bytes h in rw e refl

or_cases : (a b : Bool) → (a || b) ≡ true → (a ≡ true) ⊎ (b ≡ true)
or_cases true b h = inl refl
or_cases false b h = inr h

-- a digit begins no name
digit_begins_none : (b : ℕ) (bs : List ℕ) → begins_lower (b ∷ bs) ≡ true → is_digit b ≡ true → ⊥
digit_begins_none b bs h d =
    let digit = and_parts (nat_le 48 b) (nat_le b 57) d in
    let top : b ≤ 57 = leb-true b 57 digit.1 in
    elim (or_cases (is_lower b) (eqb b 95) h) [
      | inl k ↦
          let lower = and_parts (nat_le 97 b) (nat_le b 122) k in
          let low : 97 ≤ b = leb-true 97 b lower.0 in
          omega arith
      | inr k ↦ let same : b ≡ 95 = eqb-true b 95 k in omega arith
    ]

not_true : (t : Bool) → (t ≡ true → ⊥) → t ≡ false
not_true false h = refl
not_true true h = absurd (h refl)

begun_no_digit : (b : ℕ) (bs : List ℕ) → begins_lower (b ∷ bs) ≡ true → is_digit b ≡ false
begun_no_digit b bs h = not_true (is_digit b) (λ d. digit_begins_none b bs h d)

name_no_number : (name after : List ℕ) → begins_lower name ≡ true → number_at ((name ++ (32 ∷ [])) ++ after) ≡ None
name_no_number [] after h = absurd cc
name_no_number (b ∷ bs) after h = no_digit_first b ((bs ++ (32 ∷ [])) ++ after) (begun_no_digit b bs h)

name_no_number_then : (name after : List ℕ) → begins_lower name ≡ true → number_then_at ((name ++ (32 ∷ [])) ++ after) ≡ None
name_no_number_then [] after h = absurd cc
name_no_number_then (b ∷ bs) after h = no_digit_then b ((bs ++ (32 ∷ [])) ++ after) (begun_no_digit b bs h)

row_no_number : (v : Value) (vs : List Value) (rest : List ℕ) → IsValue v → number_then_at (values_text (v ∷ vs) ++ (10 ∷ rest)) ≡ None
row_no_number Null vs rest is = no_digit_then 110 (117 ∷ 108 ∷ 108 ∷ (more_values vs ++ (10 ∷ rest))) refl
row_no_number (Int (pos n)) [] rest is =
    ap number_then_at (append_assoc (decimal n) [] (10 ∷ rest)) ∙ number_stops n 10 rest (omega (arith, is)) refl refl
row_no_number (Int (pos n)) (v ∷ vs) rest is =
    ap number_then_at (append_assoc (decimal n) (more_values (v ∷ vs)) (10 ∷ rest)) ∙ number_stops n 124 ((value_text v ++ more_values vs) ++ (10 ∷ rest)) (omega (arith, is)) refl refl
row_no_number (Int (negsuc n)) vs rest is = no_digit_then 45 ((decimal (suc n) ++ more_values vs) ++ (10 ∷ rest)) refl
row_no_number (Text t) vs rest is = no_digit_then 39 ((quoted t ++ more_values vs) ++ (10 ∷ rest)) refl
row_no_number (Blob b) vs rest is = no_digit_then 120 (39 ∷ ((hexadecimal b ++ more_values vs) ++ (10 ∷ rest))) refl

error_no_number : (cause : errors.StatementError) (rest : List ℕ) → number_then_at (error_text cause ++ (10 ∷ rest)) ≡ None
unfolding number_then_at number_at number_within
error_no_number (error.Syntax at) rest = refl
error_no_number error.Table rest = refl
error_no_number error.Column rest = refl
error_no_number error.Ambiguous rest = refl
error_no_number error.Type_ rest = refl
error_no_number error.Count rest = refl
error_no_number error.Overflow rest = refl
error_no_number error.NotNull rest = refl
error_no_number error.TooLong rest = refl
error_no_number error.State rest = refl

level_no_number : (level : levels.Level) (rest : List ℕ) → number_then_at (level_text level ++ (10 ∷ rest)) ≡ None
unfolding number_then_at number_at number_within
level_no_number Snapshot rest = refl
level_no_number Serializable rest = refl

-- a reply begins with a letter
pub reply_no_number : (r : Reply) (rest : List ℕ) → number_then_at (reply_text r ++ (10 ∷ rest)) ≡ None
unfolding number_then_at number_at number_within
reply_no_number (reply.Begin n) rest = refl
reply_no_number (reply.Row row) rest = refl
reply_no_number (reply.Done n) rest = refl
reply_no_number (reply.Changed n) rest = refl
reply_no_number (reply.Error cause) rest = refl
reply_no_number (reply.Level level) rest = refl
reply_no_number reply.RolledBack rest = refl
reply_no_number (reply.Committed n) rest = refl
reply_no_number (reply.ConflictGenid position table genid) rest = refl
reply_no_number (reply.ConflictRange position table key) rest = refl
reply_no_number (reply.Duplicate position table key) rest = refl
reply_no_number (reply.Lost node down) rest = refl
reply_no_number (reply.NoMajority up nodes) rest = refl
reply_no_number reply.NoMemory rest = refl

pub reply_no_schema : (r : Reply) (rest : List ℕ) → behind_word (codes "schema") (reply_text r ++ (10 ∷ rest)) ≡ None
unfolding behind_word
reply_no_schema (reply.Begin n) rest = refl
reply_no_schema (reply.Row row) rest = refl
reply_no_schema (reply.Done n) rest = refl
reply_no_schema (reply.Changed n) rest = refl
reply_no_schema (reply.Error cause) rest = refl
reply_no_schema (reply.Level level) rest = refl
reply_no_schema reply.RolledBack rest = refl
reply_no_schema (reply.Committed n) rest = refl
reply_no_schema (reply.ConflictGenid position table genid) rest = refl
reply_no_schema (reply.ConflictRange position table key) rest = refl
reply_no_schema (reply.Duplicate position table key) rest = refl
reply_no_schema (reply.Lost node down) rest = refl
reply_no_schema (reply.NoMajority up nodes) rest = refl
reply_no_schema reply.NoMemory rest = refl

-- ---- a reply is no rest of an entry and no rest of a feed

abbrev pub commit_rest : List ℕ → Read (List ℕ × (ℕ × (ℕ × levels.Level)))
commit_rest bytes = both name_then_at (both number_then_at (both number_then_at (before level_at (10 ∷ [])))) bytes

abbrev pub feed_rest : List ℕ → Read (List ℕ × (ℕ × ℕ))
feed_rest bytes = both (only is_table name_then_at) (both number_then_at (before number_at (10 ∷ []))) bytes

pub record IsNoRest (bytes : List ℕ) : Type 0 where
  pub commit : commit_rest bytes ≡ None
  pub feed : feed_rest bytes ≡ None

-- a word, and no number before a space
one_word : (word : List ℕ) (after : List ℕ) → name_then_at (word ++ (32 ∷ after)) ≡ Some (word, after) → number_then_at after ≡ None → IsNoRest (word ++ (32 ∷ after))
one_word word after h none = record { commit = rw (h, none) refl; feed = go (is_table word) refl }
  where
    go : (t : Bool) → is_table word ≡ t → feed_rest (word ++ (32 ∷ after)) ≡ None
    go true e = rw (h, e, none) refl
    go false e = rw (h, e) refl

-- a word, a number before a space, and no number behind it
two_words : (word : List ℕ) (n : ℕ) (first after : List ℕ) → name_then_at (word ++ (32 ∷ first)) ≡ Some (word, first) → number_then_at first ≡ Some (n, after) → number_then_at after ≡ None → number_at after ≡ None → IsNoRest (word ++ (32 ∷ first))
two_words word n first after h some none other = record { commit = rw (h, some, none) refl; feed = go (is_table word) refl }
  where
    go : (t : Bool) → is_table word ≡ t → feed_rest (word ++ (32 ∷ first)) ≡ None
    go true e = rw (h, e, some, other) refl
    go false e = rw (h, e) refl

-- a word of an ending, a number before a space, and no number before a space behind it
ending_word : (word : List ℕ) (n : ℕ) (first after : List ℕ) → name_then_at (word ++ (32 ∷ first)) ≡ Some (word, first) → is_table word ≡ false → number_then_at first ≡ Some (n, after) → number_then_at after ≡ None → IsNoRest (word ++ (32 ∷ first))
ending_word word n first after h e some none = record { commit = rw (h, some, none) refl; feed = rw (h, e) refl }

-- a name that ends its line
last_word : (bytes : List ℕ) → name_then_at bytes ≡ None → IsNoRest bytes
last_word bytes h = record { commit = rw h refl; feed = rw h refl }

pub no_rest : (r : Reply) (rest : List ℕ) → IsReply r → IsNoRest (reply_text r ++ (10 ∷ rest))
unfolding name_then_at name_at behind_word
no_rest (reply.Begin n) rest is = one_word (codes "begin") (decimal n ++ (10 ∷ rest)) refl (number_stops n 10 rest is refl refl)
no_rest (reply.Row []) rest is = absurd is
no_rest (reply.Row (v ∷ vs)) rest is = one_word (codes "row") (values_text (v ∷ vs) ++ (10 ∷ rest)) refl (row_no_number v vs rest is.0)
no_rest (reply.Done n) rest is = one_word (codes "done") (decimal n ++ (10 ∷ rest)) refl (number_stops n 10 rest is refl refl)
no_rest (reply.Changed n) rest is = one_word (codes "changed") (decimal n ++ (10 ∷ rest)) refl (number_stops n 10 rest is refl refl)
no_rest (reply.Error cause) rest is = one_word (codes "error") (error_text cause ++ (10 ∷ rest)) refl (error_no_number cause rest)
no_rest (reply.Level level) rest is = one_word (codes "level") (level_text level ++ (10 ∷ rest)) refl (level_no_number level rest)
no_rest reply.RolledBack rest is = last_word (codes "rolledback" ++ (10 ∷ rest)) refl
no_rest (reply.Committed n) rest is = one_word (codes "committed") (decimal n ++ (10 ∷ rest)) refl (number_stops n 10 rest is refl refl)
no_rest (reply.ConflictGenid position table genid) rest is =
    let after : List ℕ = codes "genid " ++ (table ++ (32 ∷ (decimal genid ++ (10 ∷ rest)))) in
    let regrouped : reply_text (reply.ConflictGenid position table genid) ++ (10 ∷ rest) ≡ codes "conflict " ++ ((decimal position ++ (32 ∷ [])) ++ after) = simp append_assoc refl in
    subst IsNoRest (sym regrouped) (two_words (codes "conflict") position ((decimal position ++ (32 ∷ [])) ++ after) after refl (exact_number_then.again position after is.0 (next_none after)) (no_digit_then 103 _ refl) (no_digit_first 103 _ refl))
no_rest (reply.ConflictRange position table key) rest is =
    let after : List ℕ = codes "range " ++ (table ++ (32 ∷ (key ++ (10 ∷ rest)))) in
    let regrouped : reply_text (reply.ConflictRange position table key) ++ (10 ∷ rest) ≡ codes "conflict " ++ ((decimal position ++ (32 ∷ [])) ++ after) = simp append_assoc refl in
    subst IsNoRest (sym regrouped) (two_words (codes "conflict") position ((decimal position ++ (32 ∷ [])) ++ after) after refl (exact_number_then.again position after is.0 (next_none after)) (no_digit_then 114 _ refl) (no_digit_first 114 _ refl))
no_rest (reply.Duplicate position table key) rest is =
    let after : List ℕ = (table ++ (32 ∷ [])) ++ (key ++ (10 ∷ rest)) in
    let regrouped : reply_text (reply.Duplicate position table key) ++ (10 ∷ rest) ≡ codes "duplicate " ++ ((decimal position ++ (32 ∷ [])) ++ after) = simp append_assoc refl in
    subst IsNoRest (sym regrouped) (two_words (codes "duplicate") position ((decimal position ++ (32 ∷ [])) ++ after) after refl (exact_number_then.again position after is.0 (next_none after)) (name_no_number_then table (key ++ (10 ∷ rest)) is.1.begun) (name_no_number table (key ++ (10 ∷ rest)) is.1.begun))
no_rest (reply.Lost node down) rest is =
    let after : List ℕ = decimal down ++ (10 ∷ rest) in
    let regrouped : reply_text (reply.Lost node down) ++ (10 ∷ rest) ≡ codes "lost " ++ ((decimal node ++ (32 ∷ [])) ++ after) = simp append_assoc refl in
    subst IsNoRest (sym regrouped) (ending_word (codes "lost") node ((decimal node ++ (32 ∷ [])) ++ after) after refl refl (exact_number_then.again node after is.0 (next_none after)) (number_stops down 10 rest is.1 refl refl))
no_rest (reply.NoMajority up nodes) rest is =
    let after : List ℕ = decimal nodes ++ (10 ∷ rest) in
    let regrouped : reply_text (reply.NoMajority up nodes) ++ (10 ∷ rest) ≡ codes "nomajority " ++ ((decimal up ++ (32 ∷ [])) ++ after) = simp append_assoc refl in
    subst IsNoRest (sym regrouped) (ending_word (codes "nomajority") up ((decimal up ++ (32 ∷ [])) ++ after) after refl refl (exact_number_then.again up after is.0 (next_none after)) (number_stops nodes 10 rest is.1 refl refl))
no_rest reply.NoMemory rest is = last_word (codes "nomemory" ++ (10 ∷ rest)) refl

-- ---- a line of a session is none of these

space_ends_none : (after : List ℕ) → behind_word (10 ∷ []) (32 ∷ after) ≡ None
unfolding behind_word
space_ends_none after = refl

pub no_numbered_line : (word name : List ℕ) (txn : ℕ) (after : List ℕ) → list_all is_name_byte word ≡ true → IsName name → IsNumber txn → numbered_line_at (word ++ (32 ∷ [])) (session_front name txn after) ≡ None
unfolding numbered_line_at numbered_at
no_numbered_line word name txn after letters is fits = elim (word_or_not word name ((decimal txn ++ (32 ∷ [])) ++ after) letters is.bytes) [
  | inl h ↦ rw h refl
  | inr h ↦
      let regrouped = append_assoc (decimal txn) (32 ∷ []) after in
      let read = exact_whole.again txn (32 ∷ after) fits refl in
      let none = space_ends_none after in
      rw (h, regrouped, read, none) refl
]

pub counted_or_not : (word name : List ℕ) (txn : ℕ) (after : List ℕ) → list_all is_name_byte word ≡ true → IsName name → IsNumber txn
    → (counted_at (word ++ (32 ∷ [])) (session_front name txn after) ≡ None) ⊎ (counted_at (word ++ (32 ∷ [])) (session_front name txn after) ≡ Some (txn, after))
unfolding counted_at
counted_or_not word name txn after letters is fits = elim (word_or_not word name ((decimal txn ++ (32 ∷ [])) ++ after) letters is.bytes) [
  | inl h ↦ inl (rw h refl)
  | inr h ↦ let read = exact_number_then.again txn after fits (next_none after) in inr (rw (h, read) refl)
]
