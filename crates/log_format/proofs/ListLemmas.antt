-- Lists of parts, read one after the other.
use Rattle.std.proofs.Common.{◌≡◌, ℕ, ◌<◌, List, [], ◌∷◌, ◌++◌, length, None, refl, sym, ap, ◌∙◌, subst, append_assoc, arith}
use Rattle.std.specs.List.{flat_map, AllByRecursion}
use Rattle.std.proofs.lemmas.List.{append-nil}
use Rattle.cdb_values.specs.Tables.{add_fault}
use Rattle.cdb_values.specs.declared.tables.TableDef.{TableDef}
use Rattle.frame_code.specs.Codes.{table_code}
use Rattle.frame_code.specs.Spelled.{IsTable, Grow}
use Rattle.frame_code.specs.Tells.{Tells, Lacks, Begins}
use Rattle.frame_code.proofs.PartLaws.{tables_tell}
use Rattle.log_format.specs.Lists.{AreParts, AreTables}

-- one part more, read from what was left
pub parts_more : {A : Type 0} (code : A → List ℕ) (xs : List A) (x : A) (after rest bytes : List ℕ)
    → code x ++ after ≡ rest → flat_map code xs ++ rest ≡ bytes → flat_map code (xs ++ x ∷ []) ++ after ≡ bytes
parts_more code [] x after rest bytes one so_far = ap (λ l. l ++ after) (append-nil (code x)) ∙ one ∙ so_far
parts_more code (y ∷ ys) x after rest bytes one so_far =
    append_assoc (code y) (flat_map code (ys ++ x ∷ [])) after
    ∙ ap (λ l. code y ++ l) (parts_more code ys x after rest (flat_map code ys ++ rest) one refl)
    ∙ sym (append_assoc (code y) (flat_map code ys) rest) ∙ so_far

pub all_more : {A : Type 0} (Has : A → Type 0) (xs : List A) (x : A) → AllByRecursion Has xs → Has x → AllByRecursion Has (xs ++ x ∷ [])
all_more Has [] x all one = (one, tt)
all_more Has (y ∷ ys) x all one = (all.0, all_more Has ys x all.1 one)

-- where fewer parts stand than are wanted, and no further one
pub no_more_parts : {A : Type 0} (code : A → List ℕ) (Has : A → Type 0) → Tells code Has → (count : ℕ) (xs : List A) (rest bytes : List ℕ)
    → AllByRecursion Has xs → flat_map code xs ++ rest ≡ bytes → length xs < count → Lacks code Has rest
    → (ys : List A) (more : List ℕ) → length ys ≡ count → AllByRecursion Has ys → flat_map code ys ++ more ≡ bytes → ⊥
no_more_parts code Has tells count [] rest bytes hx so_far n none [] more m hy e = omega arith
no_more_parts code Has tells count [] rest bytes hx so_far n none (y ∷ ys) more m hy e =
    none y (flat_map code ys ++ more) hy.0 (sym (append_assoc (code y) (flat_map code ys) more) ∙ e ∙ sym so_far)
no_more_parts code Has tells count (x ∷ xs) rest bytes hx so_far n none [] more m hy e = omega arith
no_more_parts code Has tells count (x ∷ xs) rest bytes hx so_far n none (y ∷ ys) more m hy e =
    let moved : code y ++ (flat_map code ys ++ more) ≡ code x ++ (flat_map code xs ++ rest) =
    sym (append_assoc (code y) (flat_map code ys) more) ∙ e ∙ sym so_far ∙ append_assoc (code x) (flat_map code xs) rest in
    let one = tells y x (flat_map code ys ++ more) (flat_map code xs ++ rest) hy.0 hx.0 moved in
    no_more_parts code Has tells (length ys) xs rest (flat_map code xs ++ rest) hx.1 refl (omega arith) none ys more refl hy.1 one.1

pub parts_lack : {A : Type 0} (code : A → List ℕ) (Has : A → Type 0) → Tells code Has → (count : ℕ) (xs : List A) (rest bytes : List ℕ)
    → AllByRecursion Has xs → flat_map code xs ++ rest ≡ bytes → length xs < count → Lacks code Has rest
    → Lacks (flat_map code) (AreParts Has count) bytes
parts_lack code Has tells count xs rest bytes hx so_far n none ys more h e =
    no_more_parts code Has tells count xs rest bytes hx so_far n none ys more h.number h.each e

-- tables
pub grow_more : (before xs : List TableDef) (x : TableDef) → Grow before xs → add_fault (before ++ xs) x ≡ None → Grow before (xs ++ x ∷ [])
grow_more before [] x grow ok = (subst (λ l. add_fault l x ≡ None) (append-nil before) ok, tt)
grow_more before (y ∷ ys) x grow ok =
    (grow.0, grow_more (before ++ y ∷ []) ys x grow.1 (subst (λ l. add_fault l x ≡ None) (sym (append_assoc before (y ∷ []) ys)) ok))

pub tables_lack : (count : ℕ) (xs : List TableDef) (rest bytes : List ℕ) → AllByRecursion IsTable xs
    → flat_map table_code xs ++ rest ≡ bytes → length xs < count → Lacks table_code IsTable rest
    → Lacks (flat_map table_code) (AreTables count) bytes
tables_lack count xs rest bytes hx so_far n none ys more h e =
    no_more_parts table_code IsTable tables_tell count xs rest bytes hx so_far n none ys more h.number h.each e

-- a table that cannot be added to those before it
pub no_such_schema : (before : List TableDef) (count : ℕ) (xs : List TableDef) (x : TableDef) (after rest bytes : List ℕ)
    → AllByRecursion IsTable xs → Begins table_code IsTable x after rest → flat_map table_code xs ++ rest ≡ bytes → length xs < count
    → (add_fault (before ++ xs) x ≡ None → ⊥) → (ys : List TableDef) (more : List ℕ) → length ys ≡ count
    → AllByRecursion IsTable ys → Grow before ys → flat_map table_code ys ++ more ≡ bytes → ⊥
no_such_schema before count [] x after rest bytes hx here so_far n bad [] more m hy grow e = omega arith
no_such_schema before count [] x after rest bytes hx here so_far n bad (y ∷ ys) more m hy grow e =
    let moved : table_code y ++ (flat_map table_code ys ++ more) ≡ table_code x ++ after =
    sym (append_assoc (table_code y) (flat_map table_code ys) more) ∙ e ∙ sym so_far ∙ sym here.1 in
    let one = tables_tell y x (flat_map table_code ys ++ more) after hy.0 here.0 moved in
    bad (subst (λ l. add_fault l x ≡ None) (sym (append-nil before)) (subst (λ t. add_fault before t ≡ None) one.0 grow.0))
no_such_schema before count (z ∷ xs) x after rest bytes hx here so_far n bad [] more m hy grow e = omega arith
no_such_schema before count (z ∷ xs) x after rest bytes hx here so_far n bad (y ∷ ys) more m hy grow e =
    let moved : table_code y ++ (flat_map table_code ys ++ more) ≡ table_code z ++ (flat_map table_code xs ++ rest) =
    sym (append_assoc (table_code y) (flat_map table_code ys) more) ∙ e ∙ sym so_far ∙ append_assoc (table_code z) (flat_map table_code xs) rest in
    let one = tables_tell y z (flat_map table_code ys ++ more) (flat_map table_code xs ++ rest) hy.0 hx.0 moved in
    let still : add_fault ((before ++ z ∷ []) ++ xs) x ≡ None → ⊥ =
    λ ok. bad (subst (λ l. add_fault l x ≡ None) (append_assoc before (z ∷ []) xs) ok) in
    no_such_schema (before ++ z ∷ []) (length ys) xs x after rest (flat_map table_code xs ++ rest) hx.1 here refl (omega arith) still ys more refl hy.1
    (subst (λ t. Grow (before ++ t ∷ []) ys) one.0 grow.1) one.1

pub schema_lack : (count : ℕ) (xs : List TableDef) (x : TableDef) (after rest bytes : List ℕ) → AllByRecursion IsTable xs
    → Begins table_code IsTable x after rest → flat_map table_code xs ++ rest ≡ bytes → length xs < count
    → (add_fault xs x ≡ None → ⊥) → Lacks (flat_map table_code) (AreTables count) bytes
schema_lack count xs x after rest bytes hx here so_far n bad ys more h e =
    no_such_schema [] count xs x after rest bytes hx here so_far n bad ys more h.number h.each h.grow e
