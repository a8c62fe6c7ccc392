-- The readers of replies are exact.
use Rattle.std.proofs.Common.{◌≡◌, ℕ, List, [], ◌∷◌, ◌++◌, Some, Bool, true, false, refl, ap, ◌∙◌, append_assoc, arith, lit<, not}
use Rattle.std.specs.Prelude.{codes, bytes_eq}
use Rattle.std.specs.Fmt.{decimal}
use Rattle.cdb_values.specs.declared.rows.Level as levels
use Rattle.cdb_values.specs.declared.rows.Level.TheVariants.{Snapshot, Serializable}
use Rattle.cdb_values.specs.declared.rows.StatementError as errors
use Rattle.cdb_values.specs.declared.rows.StatementError.TheVariants as error
use Rattle.cdb_values.specs.declared.replies.Reply.{Reply}
use Rattle.cdb_values.specs.declared.replies.Reply.TheVariants as reply
use Rattle.byte_words.specs.Words.{is_digit}
use Rattle.byte_words.specs.Names.{is_name_byte, IsName, IsKey}
use Rattle.report_text.specs.Grammar.{IsNumber, IsError, IsReply}
use Rattle.report_text.specs.Text.{level_text, error_text, reply_text}
use Rattle.report_read.specs.Reading.{behind_word, number_then_at, name_then_at, numbered_at, counted_at, pair_at, level_at, bound_error_at, row_error_at, syntax_at, error_at, answer_at, outcome_at, genid_at, range_at, is_one_key, key_at, duplicate_at, row_at, told_at, reply_at}
use Rattle.report_read.proofs.ReaderLaws.{Exact, Sound, next_is, no_byte, next_none, exact_after, exact_before, exact_both, exact_only, sound_of, sound_after, sound_as, sound_either, sound_word}
use Rattle.report_read.proofs.NumberLemmas.{exact_number, exact_whole, exact_name}
use Rattle.report_read.proofs.ValueLaws.{values_found, values_again}

-- ---- numbers and names before a space or behind a word

pub exact_number_then : Exact (λ n. decimal n ++ (32 ∷ [])) IsNumber no_byte number_then_at
unfolding number_then_at
exact_number_then = exact_before 32 [] refl exact_whole

pub exact_name_then : Exact (λ name. name ++ (32 ∷ [])) IsName no_byte name_then_at
unfolding name_then_at
exact_name_then = exact_before 32 [] refl exact_name

pub exact_numbered : (word : List ℕ) → Exact (λ n. word ++ decimal n) IsNumber is_digit (numbered_at word)
unfolding numbered_at
exact_numbered word = exact_after word exact_whole

pub exact_counted : (word : List ℕ) → Exact (λ n. word ++ (decimal n ++ (32 ∷ []))) IsNumber no_byte (counted_at word)
unfolding counted_at
exact_counted word = exact_after word exact_number_then

pub exact_pair : (word : List ℕ) → Exact (λ x. (word ++ (decimal x.0 ++ (32 ∷ []))) ++ decimal x.1) (λ x. IsNumber x.0 × IsNumber x.1) is_digit (pair_at word)
unfolding pair_at
exact_pair word = exact_both (exact_counted word) exact_whole

-- ---- levels and errors

abbrev IsLevel : levels.Level → Type 0
IsLevel level = Unit {0}

level_again : (level : levels.Level) (rest : List ℕ) → level_at (level_text level ++ rest) ≡ Some (level, rest)
unfolding level_at behind_word
level_again Snapshot rest = refl
level_again Serializable rest = refl

sound_level : Sound level_text IsLevel level_at
unfolding level_at
sound_level = sound_either (sound_word (codes "snapshot") Snapshot level_text IsLevel refl tt) (sound_word (codes "serializable") Serializable level_text IsLevel refl tt)

pub exact_level : Exact level_text IsLevel no_byte level_at
exact_level = record { found = sound_level.found; again = λ level rest is stops. level_again level rest }

sound_syntax : Sound error_text IsError syntax_at
unfolding syntax_at
sound_syntax = sound_as error.Syntax error_text IsError (sound_of (exact_after (codes "syntax ") (exact_number 4_294_967_295 (lit< tt)))) (λ at. refl) (λ at is. omega (arith, is))

sound_bound : Sound error_text IsError bound_error_at
unfolding bound_error_at
sound_bound = sound_either (sound_word (codes "table") error.Table error_text IsError refl tt) (sound_either (sound_word (codes "column") error.Column error_text IsError refl tt)
    (sound_either (sound_word (codes "ambiguous") error.Ambiguous error_text IsError refl tt) (sound_either (sound_word (codes "type") error.Type_ error_text IsError refl tt) (sound_word (codes "count") error.Count error_text IsError refl tt))))

sound_row_error : Sound error_text IsError row_error_at
unfolding row_error_at
sound_row_error = sound_either (sound_word (codes "overflow") error.Overflow error_text IsError refl tt) (sound_either (sound_word (codes "notnull") error.NotNull error_text IsError refl tt)
    (sound_either (sound_word (codes "toolong") error.TooLong error_text IsError refl tt) (sound_word (codes "state") error.State error_text IsError refl tt)))

sound_error : Sound error_text IsError error_at
unfolding error_at
sound_error = sound_either sound_syntax (sound_either sound_bound sound_row_error)

error_again : (cause : errors.StatementError) (rest : List ℕ) → IsError cause → next_is is_digit rest ≡ false → error_at (error_text cause ++ rest) ≡ Some (cause, rest)
unfolding error_at syntax_at bound_error_at row_error_at behind_word
error_again (error.Syntax at) rest is stops = let read = (exact_number 4_294_967_295 (lit< tt)).again at rest (omega (arith, is)) stops in rw read refl
error_again error.Table rest is stops = refl
error_again error.Column rest is stops = refl
error_again error.Ambiguous rest is stops = refl
error_again error.Type_ rest is stops = refl
error_again error.Count rest is stops = refl
error_again error.Overflow rest is stops = refl
error_again error.NotNull rest is stops = refl
error_again error.TooLong rest is stops = refl
error_again error.State rest is stops = refl

exact_error : Exact error_text IsError is_digit error_at
exact_error = record { found = sound_error.found; again = error_again }

-- ---- what is read is a reply's text

sound_answer : Sound reply_text IsReply answer_at
unfolding answer_at
sound_answer = sound_either (sound_as reply.Begin reply_text IsReply (sound_of (exact_numbered (codes "begin "))) (λ n. refl) (λ n is. is))
    (sound_either (sound_as reply.Done reply_text IsReply (sound_of (exact_numbered (codes "done "))) (λ n. refl) (λ n is. is))
    (sound_either (sound_as reply.Changed reply_text IsReply (sound_of (exact_numbered (codes "changed "))) (λ n. refl) (λ n is. is))
    (sound_either (sound_as reply.Error reply_text IsReply (sound_of (exact_after (codes "error ") exact_error)) (λ e. refl) (λ e is. is))
    (sound_as reply.Level reply_text IsReply (sound_of (exact_after (codes "level ") exact_level)) (λ l. refl) (λ l is. tt)))))

sound_outcome : Sound reply_text IsReply outcome_at
unfolding outcome_at
sound_outcome = sound_either (sound_as reply.Committed reply_text IsReply (sound_of (exact_numbered (codes "committed "))) (λ n. refl) (λ n is. is))
    (sound_either (sound_word (codes "rolledback") reply.RolledBack reply_text IsReply refl tt)
    (sound_either (sound_word (codes "nomemory") reply.NoMemory reply_text IsReply refl tt)
    (sound_either (sound_as (λ x. reply.Lost x.0 x.1) reply_text IsReply (sound_of (exact_pair (codes "lost "))) (λ x. simp append_assoc refl) (λ x is. is))
    (sound_as (λ x. reply.NoMajority x.0 x.1) reply_text IsReply (sound_of (exact_pair (codes "nomajority "))) (λ x. simp append_assoc refl) (λ x is. is)))))

sound_genid : Sound reply_text IsReply genid_at
unfolding genid_at
sound_genid = sound_as (λ x. reply.ConflictGenid x.0 x.1.0 x.1.1) reply_text IsReply (sound_of (exact_both (exact_counted (codes "conflict ")) (exact_after (codes "genid ") (exact_both exact_name_then exact_whole)))) (λ x. simp append_assoc refl) (λ x is. (is.0, is.1.0, is.1.1))

sound_range : Sound reply_text IsReply range_at
unfolding range_at
sound_range = sound_as (λ x. reply.ConflictRange x.0 x.1.0 x.1.1) reply_text IsReply (sound_of (exact_both (exact_counted (codes "conflict ")) (exact_after (codes "range ") (exact_both exact_name_then exact_name)))) (λ x. simp append_assoc refl) (λ x is. (is.0, is.1.0, is.1.1))

false_from_not : (b : Bool) → not b ≡ true → b ≡ false
false_from_not false h = refl
false_from_not true h = absurd cc

exact_key : Exact (λ key. key) (λ key. IsName key × (is_one_key key ≡ true)) is_name_byte key_at
unfolding key_at
exact_key = exact_only is_one_key exact_name

key_is : (key : List ℕ) → IsName key × (is_one_key key ≡ true) → IsKey key
key_is key is = record { name = is.0; one = false_from_not (bytes_eq (codes "all") key) is.1 }

sound_duplicate : Sound reply_text IsReply duplicate_at
unfolding duplicate_at
sound_duplicate = sound_as (λ x. reply.Duplicate x.0 x.1.0 x.1.1) reply_text IsReply (sound_of (exact_both (exact_counted (codes "duplicate ")) (exact_both exact_name_then exact_key))) (λ x. simp append_assoc refl) (λ x is. (is.0, is.1.0, key_is x.1.1 is.1.1))

sound_row : Sound reply_text IsReply row_at
unfolding row_at
sound_row = sound_as reply.Row reply_text IsReply (sound_after (codes "row ") (record { found = values_found })) (λ row. refl) (λ row is. is)

sound_told : Sound reply_text IsReply told_at
unfolding told_at
sound_told = sound_either sound_row (sound_either sound_genid (sound_either sound_range sound_duplicate))

pub sound_reply : Sound reply_text IsReply reply_at
unfolding reply_at
sound_reply = sound_either sound_answer (sound_either sound_outcome sound_told)

-- ---- and a reply's text is read

genid_again : (position : ℕ) (table : List ℕ) (genid : ℕ) (rest : List ℕ) → IsReply (reply.ConflictGenid position table genid) → reply_at (reply_text (reply.ConflictGenid position table genid) ++ (10 ∷ rest)) ≡ Some (reply.ConflictGenid position table genid, 10 ∷ rest)
unfolding reply_at answer_at outcome_at told_at row_at genid_at numbered_at counted_at pair_at behind_word
genid_again position table genid rest is =
    let after : List ℕ = codes "genid " ++ ((table ++ (32 ∷ [])) ++ (decimal genid ++ (10 ∷ rest))) in
    let regrouped : reply_text (reply.ConflictGenid position table genid) ++ (10 ∷ rest) ≡ codes "conflict " ++ ((decimal position ++ (32 ∷ [])) ++ after) = simp append_assoc refl in
    let one = exact_number_then.again position after is.0 (next_none after) in
    let two = exact_name_then.again table (decimal genid ++ (10 ∷ rest)) is.1 (next_none (decimal genid ++ (10 ∷ rest))) in
    let three = exact_whole.again genid (10 ∷ rest) is.2 refl in
    ap reply_at regrouped ∙ rw (one, two, three) refl

range_again : (position : ℕ) (table key : List ℕ) (rest : List ℕ) → IsReply (reply.ConflictRange position table key) → reply_at (reply_text (reply.ConflictRange position table key) ++ (10 ∷ rest)) ≡ Some (reply.ConflictRange position table key, 10 ∷ rest)
unfolding reply_at answer_at outcome_at told_at row_at genid_at range_at numbered_at counted_at pair_at behind_word
range_again position table key rest is =
    let after : List ℕ = codes "range " ++ ((table ++ (32 ∷ [])) ++ (key ++ (10 ∷ rest))) in
    let regrouped : reply_text (reply.ConflictRange position table key) ++ (10 ∷ rest) ≡ codes "conflict " ++ ((decimal position ++ (32 ∷ [])) ++ after) = simp append_assoc refl in
    let one = exact_number_then.again position after is.0 (next_none after) in
    let two = exact_name_then.again table (key ++ (10 ∷ rest)) is.1 (next_none (key ++ (10 ∷ rest))) in
    let three = exact_name.again key (10 ∷ rest) is.2 refl in
    ap reply_at regrouped ∙ rw (one, two, three) refl

duplicate_again : (position : ℕ) (table key : List ℕ) (rest : List ℕ) → IsReply (reply.Duplicate position table key) → reply_at (reply_text (reply.Duplicate position table key) ++ (10 ∷ rest)) ≡ Some (reply.Duplicate position table key, 10 ∷ rest)
unfolding reply_at answer_at outcome_at told_at row_at genid_at range_at duplicate_at numbered_at counted_at pair_at behind_word
duplicate_again position table key rest is =
    let after : List ℕ = (table ++ (32 ∷ [])) ++ (key ++ (10 ∷ rest)) in
    let regrouped : reply_text (reply.Duplicate position table key) ++ (10 ∷ rest) ≡ codes "duplicate " ++ ((decimal position ++ (32 ∷ [])) ++ after) = simp append_assoc refl in
    let one = exact_number_then.again position after is.0 (next_none after) in
    let two = exact_name_then.again table (key ++ (10 ∷ rest)) is.1 (next_none (key ++ (10 ∷ rest))) in
    let free = is.2.one in
    let three = exact_key.again key (10 ∷ rest) (is.2.name, rw free refl) refl in
    ap reply_at regrouped ∙ rw (one, two, three) refl

lost_again : (node down : ℕ) (rest : List ℕ) → IsReply (reply.Lost node down) → reply_at (reply_text (reply.Lost node down) ++ (10 ∷ rest)) ≡ Some (reply.Lost node down, 10 ∷ rest)
unfolding reply_at answer_at outcome_at numbered_at counted_at pair_at behind_word
lost_again node down rest is =
    let after : List ℕ = decimal down ++ (10 ∷ rest) in
    let regrouped : reply_text (reply.Lost node down) ++ (10 ∷ rest) ≡ codes "lost " ++ ((decimal node ++ (32 ∷ [])) ++ after) = simp append_assoc refl in
    let one = exact_number_then.again node after is.0 (next_none after) in
    let two = exact_whole.again down (10 ∷ rest) is.1 refl in
    ap reply_at regrouped ∙ rw (one, two) refl

majority_again : (up nodes : ℕ) (rest : List ℕ) → IsReply (reply.NoMajority up nodes) → reply_at (reply_text (reply.NoMajority up nodes) ++ (10 ∷ rest)) ≡ Some (reply.NoMajority up nodes, 10 ∷ rest)
unfolding reply_at answer_at outcome_at numbered_at counted_at pair_at behind_word
majority_again up nodes rest is =
    let after : List ℕ = decimal nodes ++ (10 ∷ rest) in
    let regrouped : reply_text (reply.NoMajority up nodes) ++ (10 ∷ rest) ≡ codes "nomajority " ++ ((decimal up ++ (32 ∷ [])) ++ after) = simp append_assoc refl in
    let one = exact_number_then.again up after is.0 (next_none after) in
    let two = exact_whole.again nodes (10 ∷ rest) is.1 refl in
    ap reply_at regrouped ∙ rw (one, two) refl

pub reply_again : (x : Reply) (rest : List ℕ) → IsReply x → reply_at (reply_text x ++ (10 ∷ rest)) ≡ Some (x, 10 ∷ rest)
unfolding reply_at answer_at outcome_at told_at row_at numbered_at counted_at pair_at behind_word
reply_again (reply.Begin n) rest is = let read = exact_whole.again n (10 ∷ rest) is refl in rw read refl
reply_again (reply.Row row) rest is = let read = values_again row rest is in rw read refl
reply_again (reply.Done n) rest is = let read = exact_whole.again n (10 ∷ rest) is refl in rw read refl
reply_again (reply.Changed n) rest is = let read = exact_whole.again n (10 ∷ rest) is refl in rw read refl
reply_again (reply.Error cause) rest is = let read = error_again cause (10 ∷ rest) is refl in rw read refl
reply_again (reply.Level level) rest is = let read = level_again level (10 ∷ rest) in rw read refl
reply_again reply.RolledBack rest is = refl
reply_again (reply.Committed n) rest is = let read = exact_whole.again n (10 ∷ rest) is refl in rw read refl
reply_again (reply.ConflictGenid position table genid) rest is = genid_again position table genid rest is
reply_again (reply.ConflictRange position table key) rest is = range_again position table key rest is
reply_again (reply.Duplicate position table key) rest is = duplicate_again position table key rest is
reply_again (reply.Lost node down) rest is = lost_again node down rest is
reply_again (reply.NoMajority up nodes) rest is = majority_again up nodes rest is
reply_again reply.NoMemory rest is = refl
