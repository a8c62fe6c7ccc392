-- What is tested of a session's name makes it a name, a table that is read is named, and so is a line of the body that
-- runs.
use Rattle.std.proofs.Common.{◌≡◌, ℕ, ◌≤◌, List, [], ◌∷◌, length, Bool, true, false, not, ◌&&◌, ◌||◌, nat_le, codes, Ok, inl, inr, refl, ap₂, subst, arith}
use Rattle.std.specs.List.{list_all, list_any, AllByRecursion}
use Rattle.cdb_values.specs.declared.tables.TableDef.{TableDef}
use Rattle.byte_words.specs.Words as words
use Rattle.table_read.specs.Verdict.{table_of}
use Rattle.table_read.proofs.TokenNameLaws.{IsTokenName}
use Rattle.table_read.proofs.WrittenNameLaws.{tables_named}
use Rattle.script_form.specs.CanRun.{IsDeclared, IsDeclaredText}
use Rattle.byte_words.specs.Names.{is_name_byte, begins_lower, IsName, IsKey}
use Rattle.script_form.specs.Named.{IsNamedTable, SaysNamed}
use Rattle.script_form.specs.declared.scripts.Act.{Act}
use Rattle.script_form.specs.declared.scripts.Act.TheVariants as acts
use Rattle.script_form.specs.declared.scripts.SessionLine.{SessionLine}
use Rattle.script_read.proofs.TestLemmas.{and_first, and_second}

none_first : (a b : Bool) → (a || b) ≡ false → a ≡ false
none_first true b e = absurd cc
none_first false b e = refl

none_second : (a b : Bool) → (a || b) ≡ false → b ≡ false
none_second true b e = absurd cc
none_second false b e = e

not_so : (a : Bool) → not a ≡ true → a ≡ false
not_so true e = absurd cc
not_so false e = refl

-- a byte of a word that is no upper-case letter is a byte of a name
name_byte : (lower upper digit sign : Bool) → (lower || upper || digit || sign) ≡ true → upper ≡ false → (lower || (digit || sign)) ≡ true
name_byte true upper digit sign h none = refl
name_byte false true digit sign h none = absurd cc
name_byte false false digit sign h none = h

first_byte : (lower upper sign : Bool) → (lower || upper || sign) ≡ true → upper ≡ false → (lower || sign) ≡ true
first_byte true upper sign h none = refl
first_byte false true sign h none = absurd cc
first_byte false false sign h none = h

name_bytes : (name : List ℕ) → list_all words.is_word_byte name ≡ true → list_any words.is_upper name ≡ false → list_all is_name_byte name ≡ true
name_bytes [] h none = refl
name_bytes (b ∷ bs) h none =
    let one : is_name_byte b ≡ true = name_byte (words.is_lower b) (words.is_upper b) (words.is_digit b) _ (and_first (words.is_word_byte b) _ h) (none_first (words.is_upper b) _ none) in
    ap₂ (λ x y. x && y) one (name_bytes bs (and_second (words.is_word_byte b) _ h) (none_second (words.is_upper b) _ none))

name_begun : (name : List ℕ) → words.is_begun name ≡ true → list_any words.is_upper name ≡ false → begins_lower name ≡ true
name_begun [] h none = h
name_begun (b ∷ bs) h none = first_byte (words.is_lower b) (words.is_upper b) _ h (none_first (words.is_upper b) _ none)

name_short : (name : List ℕ) → nat_le (length name) 32 ≡ true → length name ≤ 32
name_short name h = grind arith

-- what is tested of a session's name makes it a name
pub well_formed : (name : List ℕ) → words.is_name name ≡ true → IsName name
well_formed name h =
    let fits : words.fits_name name ≡ true = and_first (words.fits_name name) _ h in
    let within : words.is_within name ≡ true = and_second (words.fits_name name) _ h in
    let none : list_any words.is_upper name ≡ false = not_so (list_any words.is_upper name) (and_first (not (list_any words.is_upper name)) _ within) in
    record {
      bytes = name_bytes name (and_second (words.is_begun name) _ fits) none;
      begun = name_begun name (and_first (words.is_begun name) _ fits) none;
      short = name_short name (and_second (not (list_any words.is_upper name)) _ within);
    }

-- a name that a token may have, and that of a primary key
token_is_free : (name : List ℕ) → IsTokenName name → IsKey name
token_is_free name t = record { name = record { bytes = t.bytes; begun = t.begun; short = t.short }; one = t.free }

primary_is_free : IsKey (codes "pk")
primary_is_free = record { name = record { bytes = refl; begun = refl; short = omega arith }; one = refl }

-- a table that is read, and the names of its keys
pub table_named : (tables : List TableDef) (text : List ℕ) (table : TableDef) → table_of tables text ≡ Ok table → IsNamedTable table
table_named tables text table e = let named = tables_named IsKey token_is_free primary_is_free tables text table e in (named.0.name, named.1)

declared_named : (name : List ℕ) (sessions : List SessionLine) → AllByRecursion (λ s. IsName s.name) sessions → IsDeclared name sessions → IsName name
declared_named name [] all h = absurd h
declared_named name (session ∷ sessions) all (inl e) = subst IsName e all.0
declared_named name (session ∷ sessions) all (inr h) = declared_named name sessions all.1 h

-- a line of the body that runs speaks of a declared session
pub says_named : (sessions : List SessionLine) (act : Act) → AllByRecursion (λ s. IsName s.name) sessions → IsDeclaredText sessions act → SaysNamed act
says_named sessions (acts.Say name text) all h = declared_named name sessions all h.0
says_named sessions (acts.Stop node) all h = tt
says_named sessions (acts.Start node) all h = tt
says_named sessions (acts.Arm name moment) all h = absurd h
says_named sessions acts.Barrier all h = tt
says_named sessions acts.Feed all h = tt
