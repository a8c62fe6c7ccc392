-- A transaction run alone, with a text more.
use Rattle.std.proofs.Common.{◌≡◌, ℕ, List, [], ◌∷◌, ◌++◌, refl, sym, ap, ◌∙◌, append_assoc}
use Rattle.std.proofs.lemmas.List.{append-nil}
use Rattle.cdb_values.specs.declared.rows.RowOp.{RowOp}
use Rattle.cdb_values.specs.declared.rows.Version.{Version}
use Rattle.cdb_values.specs.declared.tables.TableDef.{TableDef}
use Rattle.session_language.specs.Language.{Language, alone_from}
use Rattle.cdb_values.specs.declared.replies.Reply.{Reply}

module _ (language : Language) (tables : List TableDef) (versions : List (List Version)) where
  -- the replies are those before, and then those to the text
  pub replies_more : (done : List RowOp) (texts : List (List ℕ)) (text : List ℕ) →
      (alone_from language tables versions done (texts ++ text ∷ [])).replies
      ≡ (alone_from language tables versions done texts).replies ++ (language.answer tables versions (alone_from language tables versions done texts).ops text).replies
  replies_more done [] text = append-nil (language.answer tables versions done text).replies
  replies_more done (first ∷ texts) text =
      ap (λ (rest : List Reply). (language.answer tables versions done first).replies ++ rest) (replies_more (language.answer tables versions done first).ops texts text)
      ∙ sym (append_assoc (language.answer tables versions done first).replies (alone_from language tables versions (language.answer tables versions done first).ops texts).replies _)

  -- the operations are those after the text
  pub ops_more : (done : List RowOp) (texts : List (List ℕ)) (text : List ℕ) →
      (alone_from language tables versions done (texts ++ text ∷ [])).ops ≡ (language.answer tables versions (alone_from language tables versions done texts).ops text).ops
  ops_more done [] text = refl
  ops_more done (first ∷ texts) text = ops_more (language.answer tables versions done first).ops texts text

  -- the replies to texts and then to others
  pub replies_append : (done : List RowOp) (texts more : List (List ℕ)) →
      (alone_from language tables versions done (texts ++ more)).replies
      ≡ (alone_from language tables versions done texts).replies ++ (alone_from language tables versions (alone_from language tables versions done texts).ops more).replies
  replies_append done [] more = refl
  replies_append done (first ∷ texts) more =
      ap (λ (rest : List Reply). (language.answer tables versions done first).replies ++ rest) (replies_append (language.answer tables versions done first).ops texts more)
      ∙ sym (append_assoc (language.answer tables versions done first).replies (alone_from language tables versions (language.answer tables versions done first).ops texts).replies _)
