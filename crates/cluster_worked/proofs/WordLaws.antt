-- The settings of the written runs are of their scripts, and follow them.
use Rattle.std.proofs.Common.{◌≡◌, ℕ, List, [], ◌∷◌, ◌++◌, length, map, refl, ap}
use Rattle.std.specs.Prelude.{◌==◌, Bool, true, false, if◌then◌else◌}
use Rattle.std.specs.Str.{bytes_eq}
use Rattle.std.proofs.lemmas.Bool.Decides.{Decides-eqb}
use Rattle.std.proofs.lemmas.Slice.Eq.{bytes_eq-Decides}
use Rattle.cdb_values.specs.declared.replies.Reply.{Reply}
use Rattle.cdb_values.specs.declared.replies.Reply.TheVariants as reply
use Rattle.cdb_values.specs.declared.rows.RowOp.{RowOp}
use Rattle.cdb_values.specs.declared.rows.Version.{Version}
use Rattle.cdb_values.specs.declared.values.Value.{Value}
use Rattle.cluster_events.specs.Guards.{AreNamedApart}
use Rattle.cluster_worked.specs.Words.{rows_read, writing, reading, words, setting_of}
use Rattle.script_form.specs.declared.scripts.BodyLine.{BodyLine}
use Rattle.session_language.proofs.UpToLaws.{up_to_rows}
use Rattle.session_language.specs.Answers.{Answers, ArePlain}
use Rattle.session_language.specs.Replies.{are_up_to, is_last_of}

-- the words answer each text, by replies that end at the first one that is no row
plain_rows : (rows : List (List Value)) (last : List Reply) → ArePlain last → ArePlain (map reply.Row rows ++ last)
plain_rows [] last is = is
plain_rows (row ∷ rows) last is = (tt, plain_rows rows last is)

plain_by : (versions : List (List Version)) (done : List RowOp) (b : Bool) → ArePlain (if b then writing done else reading versions done).replies
plain_by versions done true = (tt, tt)
plain_by versions done false = plain_rows (rows_read versions) (reply.Done (length (rows_read versions)) ∷ []) (tt, tt)

closed_by : (versions : List (List Version)) (done : List RowOp) (b : Bool) → are_up_to (is_last_of false) (if b then writing done else reading versions done).replies ≡ true
closed_by versions done true = refl
closed_by versions done false = up_to_rows (rows_read versions) (reply.Done (length (rows_read versions))) refl

pub words_answer : Answers words
words_answer = record {
  plain = λ tables versions done text. plain_by versions done (bytes_eq text (119 ∷ []));
  closed = λ tables versions done text. closed_by versions done (bytes_eq text (119 ∷ []));
}

-- names of one number each
pub not_true : (b : Bool) → (b ≡ true → ⊥) → b ≡ false
not_true false f = refl
not_true true f = absurd (f refl)

abbrev first : List ℕ → ℕ
first [] = 0
first (x ∷ xs) = x

same_number : (i j : ℕ) → i ∷ [] ≡ j ∷ [] → i ≡ j
same_number i j e = ap (λ z. first z) e

pub other_name : (i j : ℕ) → (i == j) ≡ false → bytes_eq (i ∷ []) (j ∷ []) ≡ false
other_name i j ne = not_true (bytes_eq (i ∷ []) (j ∷ [])) (λ e. absurd (
    let same : (i == j) ≡ true = (Decides-eqb i j).1 (same_number i j ((bytes_eq-Decides (i ∷ []) (j ∷ [])).0 e)) in
    cc))

pub long_name : (i a b : ℕ) (more : List ℕ) → bytes_eq (i ∷ []) (a ∷ b ∷ more) ≡ false
long_name i a b more = not_true (bytes_eq (i ∷ []) (a ∷ b ∷ more)) (λ e. absurd (let same : i ∷ [] ≡ a ∷ b ∷ more = (bytes_eq-Decides (i ∷ []) (a ∷ b ∷ more)).0 e in cc))

pub no_name : (i : ℕ) → bytes_eq (i ∷ []) [] ≡ false
no_name i = not_true (bytes_eq (i ∷ []) []) (λ e. absurd (let same : i ∷ [] ≡ [] = (bytes_eq-Decides (i ∷ []) []).0 e in cc))

pub apart_names : (body : List BodyLine) → AreNamedApart (setting_of body)
apart_names body i j ne = other_name i j ne
