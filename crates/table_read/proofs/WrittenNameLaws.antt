-- The names of a definition are names of the tokens that spell it: what holds of each of these holds of its table's name
-- and of the names of its keys.
use Rattle.std.proofs.Common.{◌≡◌, ℕ, ◌≤◌, Bool, true, false, cond, nat_le, List, [], ◌∷◌, ◌++◌, length, map, Option, Some, None, Ok, refl, sym, subst, arith, inl, inr}
use Rattle.std.specs.List.{AllByRecursion}
use Rattle.std.specs.Prelude.{flat_map}
use Rattle.cdb_values.specs.Tables.{add_fault}
use Rattle.cdb_values.specs.declared.schemas.AddFault.{AddFault}
use Rattle.cdb_values.specs.declared.tables.TableDef.{TableDef}
use Rattle.grammar_forms.specs.Forms.{Spelling, Both, Either, As, Many}
use Rattle.grammar_forms.specs.Parts.{After, Before, first_of_two, second_of_two, list_of}
use Rattle.sql_tokens.specs.declared.kinds.Keyword.TheVariants as word
use Rattle.sql_tokens.specs.declared.kinds.Sign.TheVariants as sign
use Rattle.sql_tokens.specs.declared.kinds.Token.{Token}
use Rattle.sql_tokens.specs.declared.kinds.Token.TheVariants as token
use Rattle.sql_grammar.specs.declared.types.Mark.{Mark}
use Rattle.sql_grammar.specs.declared.types.Mark.TheVariants as mark
use Rattle.sql_grammar.specs.Trees.{Name, Part, ColumnPart, PrimaryPart, KeyPart, Definition}
use Rattle.sql_grammar.specs.Words.{keyword, sign_is, name_of}
use Rattle.sql_grammar.specs.Grammar.{pair, NameS, Enclosed, Listed, PartS, column_part, key_part, definition, CreateS}
use Rattle.table_read.specs.Keys.{primary_name, keys_of_mark, keys_of_part, written_keys}
use Rattle.table_read.specs.Reading.{definition_of}
use Rattle.table_read.specs.Tables.{key_over, table_said}
use Rattle.table_read.specs.Verdict.{unless_fault, defined, table_of}
use Rattle.table_read.specs.declared.keys.WrittenKey.{WrittenKey}
use Rattle.table_read.proofs.ReadingLemmas.{is_spelled}
use Rattle.table_read.proofs.TokenNameLaws.{IsTokenName, Named, tokens_named}

all_halves : {A : Type 0} (P : A → Type 0) (xs ys : List A) → AllByRecursion P (xs ++ ys) → AllByRecursion P xs × AllByRecursion P ys
all_halves P [] ys all = (tt, all)
all_halves P (x ∷ xs) ys all = let h : AllByRecursion P xs × AllByRecursion P ys = all_halves P xs ys all.1 in ((all.0, h.0), h.1)

all_joined : {A : Type 0} (P : A → Type 0) (xs ys : List A) → AllByRecursion P xs → AllByRecursion P ys → AllByRecursion P (xs ++ ys)
all_joined P [] ys all more = more
all_joined P (x ∷ xs) ys all more = (all.0, all_joined P xs ys all.1 more)

all_of_map : {A B : Type 0} (P : A → Type 0) (Q : B → Type 0) (f : A → B) (xs : List A) → ((x : A) → P x → Q (f x)) → AllByRecursion P xs → AllByRecursion Q (map f xs)
all_of_map P Q f [] keep all = tt
all_of_map P Q f (x ∷ xs) keep all = (keep x all.0, all_of_map P Q f xs keep all.1)

all_of_flat_map : {A B : Type 0} (P : A → Type 0) (Q : B → Type 0) (f : A → List B) (xs : List A) → ((x : A) → P x → AllByRecursion Q (f x)) → AllByRecursion P xs → AllByRecursion Q (flat_map f xs)
all_of_flat_map P Q f [] keep all = tt
all_of_flat_map P Q f (x ∷ xs) keep all = all_joined Q (f x) (flat_map f xs) (keep x all.0) (all_of_flat_map P Q f xs keep all.1)

-- where the names of tokens have a property, what they spell has another
record Keeps {A : Type 0} (P : List ℕ → Type 0) (S : Spelling Token A) (Q : A → Type 0) : Type 0 where
  keep : (x : A) (ts : List Token) → S x ts → AllByRecursion (Named P) ts → Q x

-- the names of a part that its keys may have
abbrev pub NamedPart : (List ℕ → Type 0) → Part → Type 0
NamedPart P (ColumnPart name kind marks) = P name
NamedPart P (PrimaryPart columns) = Unit {0}
NamedPart P (KeyPart unique name columns) = P name

abbrev pub NamedDefinition : (List ℕ → Type 0) → Definition → Type 0
NamedDefinition P d = P d.name × AllByRecursion (NamedPart P) d.parts

module _ (P : List ℕ → Type 0) where
  any_keeps : {A : Type 0} (S : Spelling Token A) → Keeps P S (λ x. Unit {0})
  any_keeps S = record { keep = λ x w s all. tt }

  both_keeps : {A B C : Type 0} {S : Spelling Token A} {R : Spelling Token B} {Q : A → Type 0} {O : B → Type 0} (f : A → B → C) (N : C → Type 0) → ((x : A) (y : B) → Q x → O y → N (f x y)) → Keeps P S Q → Keeps P R O → Keeps P (Both f S R) N
  both_keeps {A} {B} {C} {S} {R} f N keep first second = record { keep = go }
    where
      go : (z : C) (w : List Token) → Both f S R z w → AllByRecursion (Named P) w → N z
      go z w (x, y, u, v, e, c, s, r) all =
          let halves : AllByRecursion (Named P) u × AllByRecursion (Named P) v = all_halves (Named P) u v (subst (λ ts. AllByRecursion (Named P) ts) c all) in
          subst N (sym e) (keep x y (first.keep x u s halves.0) (second.keep y v r halves.1))

  either_keeps : {A : Type 0} {S R : Spelling Token A} {Q : A → Type 0} → Keeps P S Q → Keeps P R Q → Keeps P (Either S R) Q
  either_keeps {A} {S} {R} {Q} first second = record { keep = go }
    where
      go : (x : A) (w : List Token) → Either S R x w → AllByRecursion (Named P) w → Q x
      go x w (inl s) all = first.keep x w s all
      go x w (inr r) all = second.keep x w r all

  as_keeps : {A B : Type 0} {S : Spelling Token A} {Q : A → Type 0} (f : A → B) (N : B → Type 0) → ((x : A) → Q x → N (f x)) → Keeps P S Q → Keeps P (As f S) N
  as_keeps {A} {B} {S} f N keep part = record { keep = go }
    where
      go : (y : B) (w : List Token) → As f S y w → AllByRecursion (Named P) w → N y
      go y w (x, e, s) all = subst N (sym e) (keep x (part.keep x w s all))

  many_keep : {A : Type 0} (S : Spelling Token A) (Q : A → Type 0) → Keeps P S Q → (xs : List A) (w : List Token) → Many S xs w → AllByRecursion (Named P) w → AllByRecursion Q xs
  many_keep S Q part [] w m all = tt
  many_keep S Q part (x ∷ xs) w (u, v, c, s, m) all =
      let halves : AllByRecursion (Named P) u × AllByRecursion (Named P) v = all_halves (Named P) u v (subst (λ ts. AllByRecursion (Named P) ts) c all) in
      (part.keep x u s halves.0, many_keep S Q part xs v m halves.1)

  many_keeps : {A : Type 0} {S : Spelling Token A} {Q : A → Type 0} → Keeps P S Q → Keeps P (Many S) (λ xs. AllByRecursion Q xs)
  many_keeps {A} {S} {Q} part = record { keep = many_keep S Q part }

  after_keeps : {A : Type 0} {S : Spelling Token A} {Q : A → Type 0} (p : Token → Bool) → Keeps P S Q → Keeps P (After p S) Q
  after_keeps {A} {S} {Q} p part = both_keeps second_of_two Q (λ x y u q. q) (any_keeps _) part

  before_keeps : {A : Type 0} {S : Spelling Token A} {Q : A → Type 0} (p : Token → Bool) → Keeps P S Q → Keeps P (Before p S) Q
  before_keeps {A} {S} {Q} p part = both_keeps first_of_two Q (λ x y q u. q) part (any_keeps _)

  enclosed_keeps : {A : Type 0} {S : Spelling Token A} {Q : A → Type 0} → Keeps P S Q → Keeps P (Enclosed S) Q
  enclosed_keeps part = after_keeps (sign_is sign.Open) (before_keeps (sign_is sign.Close) part)

  listed_keeps : {A : Type 0} {S : Spelling Token A} {Q : A → Type 0} → Keeps P S Q → Keeps P (Listed S) (λ xs. AllByRecursion Q xs)
  listed_keeps {A} {S} {Q} part = both_keeps list_of (λ xs. AllByRecursion Q xs) (λ x xs q qs. (q, qs)) part (many_keeps (after_keeps (sign_is sign.Comma) part))

  name_keeps : Keeps P NameS P
  unfolding NameS
  name_keeps = record { keep = go }
    where
      short : (n : List ℕ) → nat_le (length n) 32 ≡ true → length n ≤ 32
      short n h = grind arith

      of_short : (n x : List ℕ) (b : Bool) → nat_le (length n) 32 ≡ b → (length n ≤ 32 → P n) → cond b (Some n) None ≡ Some x → P x
      of_short n x true h named e = let same : n ≡ x = cc in subst P same (named (short n h))
      of_short n x false h named e = absurd cc

      of_token : (t : Token) (x : List ℕ) → Named P t → name_of t ≡ Some x → P x
      of_token (token.Keyword k) x named e = absurd cc
      of_token (token.Name n) x named e = of_short n x (nat_le (length n) 32) refl named e
      of_token (token.Number n) x named e = absurd cc
      of_token (token.Text cs) x named e = absurd cc
      of_token (token.Blob bs) x named e = absurd cc
      of_token (token.Sign s) x named e = absurd cc
      of_token token.Unknown x named e = absurd cc

      go : (x : List ℕ) (w : List Token) → NameS x w → AllByRecursion (Named P) w → P x
      go x w (t, e, c) all = let one : AllByRecursion (Named P) (t ∷ []) = subst (λ ts. AllByRecursion (Named P) ts) c all in of_token t x one.0 e

  part_keeps : Keeps P PartS (NamedPart P)
  unfolding PartS
  part_keeps = either_keeps (as_keeps PrimaryPart (NamedPart P) (λ columns u. tt) (any_keeps _))
      (either_keeps (both_keeps column_part (NamedPart P) (λ name p q u. q) name_keeps (any_keeps _))
      (both_keeps key_part (NamedPart P) (λ unique p u q. q) (any_keeps _) (both_keeps pair (λ (p : Name × List Name). P p.0) (λ name columns q u. q) name_keeps (any_keeps _))))

  create_keeps : Keeps P CreateS (NamedDefinition P)
  unfolding CreateS
  create_keeps = both_keeps first_of_two (NamedDefinition P) (λ d u q v. q) (after_keeps (keyword word.Create) (after_keeps (keyword word.Table) (both_keeps definition (NamedDefinition P) (λ name parts q qs. (q, qs)) name_keeps (enclosed_keeps (listed_keeps part_keeps))))) (any_keeps _)

  mark_keys : P primary_name → (name : List ℕ) → P name → (m : Mark) → AllByRecursion (λ key. P key.name) (keys_of_mark name m)
  mark_keys primary name named mark.NotNull = tt
  mark_keys primary name named mark.PrimaryKey = (primary, tt)
  mark_keys primary name named mark.Unique = (named, tt)

  marks_keys : P primary_name → (name : List ℕ) → P name → (marks : List Mark) → AllByRecursion (λ key. P key.name) (flat_map (keys_of_mark name) marks)
  marks_keys primary name named [] = tt
  marks_keys primary name named (m ∷ marks) = all_joined (λ (key : WrittenKey). P key.name) (keys_of_mark name m) (flat_map (keys_of_mark name) marks) (mark_keys primary name named m) (marks_keys primary name named marks)

  part_keys : P primary_name → (part : Part) → NamedPart P part → AllByRecursion (λ key. P key.name) (keys_of_part part)
  part_keys primary (ColumnPart name kind marks) named = marks_keys primary name named marks
  part_keys primary (PrimaryPart columns) named = (primary, tt)
  part_keys primary (KeyPart unique name columns) named = (named, tt)

  -- a table that has a name and keys with the property
  abbrev pub NamedTable : TableDef → Type 0
  NamedTable table = P table.name × AllByRecursion (λ key. P key.name) table.keys

  said_named : P primary_name → (d : Definition) → NamedDefinition P d → NamedTable (table_said d)
  unfolding table_said
  said_named primary d named = (named.0, all_of_map (λ (key : WrittenKey). P key.name) (λ key. P key.name) (key_over _) (written_keys d.parts) (λ key q. q) (all_of_flat_map (NamedPart P) (λ (key : WrittenKey). P key.name) keys_of_part d.parts (part_keys primary) named.1))

  -- what holds of each name that a token may have, and of a primary key's, holds of the names of a table that is read
  pub tables_named : ((name : List ℕ) → IsTokenName name → P name) → P primary_name → (tables : List TableDef) (text : List ℕ) (table : TableDef) → table_of tables text ≡ Ok table → NamedTable table
  unfolding table_of
  tables_named all primary tables text table e = go (definition_of text) refl e
    where
      given : (said : TableDef) (fault : Option AddFault) → unless_fault said fault ≡ Ok table → NamedTable said → NamedTable table
      given said None e named = let same : said ≡ table = cc in subst NamedTable same named
      given said (Some fault) e named = absurd cc

      go : (found : Option Definition) → definition_of text ≡ found → defined tables found ≡ Ok table → NamedTable table
      go None f e = absurd cc
      go (Some d) f e =
          let spelled = is_spelled text d f in
          given (table_said d) (add_fault tables (table_said d)) e (said_named primary d (create_keeps.keep d _ spelled.spelled (tokens_named P all 0 text spelled.spots spelled.are)))
