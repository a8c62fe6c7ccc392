-- The chains of pages, longer and shorter.
use Rattle.std.proofs.Common.{◌≡◌, ℕ, ◌+◌, ◌≤◌, if◌then◌else◌, Bool, List, [], ◌∷◌, ◌++◌, refl, sym, ap, ◌∙◌, subst, length, arith, append_assoc, inl, inr}
use Rattle.std.proofs.lemmas.Bool.{eq-eqb, ne_eqb, cases_eq}
use Rattle.std.specs.List.{AllByRecursion}
use Rattle.phys_log.specs.declared.entries.LogRecord.{LogRecord}
use Rattle.phys_log.specs.declared.entries.Entry.{Entry}
use Rattle.phys_log.specs.Logs.{records_of}
use Rattle.log_replay.specs.declared.chains.ChainLink.{ChainLink}
use Rattle.log_replay.specs.Chains.{links_on, chain_from}
use Rattle.log_replay.specs.Answers.{Rises}
use Rattle.log_replay.specs.Kept.{link_of, put_at}
use Rattle.log_replay.proofs.KeptLemmas.{put_at_here, put_at_off}

pub links_here : (id position : ℕ) (r : LogRecord) (rs : List LogRecord) → id ≡ r.page → links_on id position (r ∷ rs) ≡ link_of position r ∷ links_on id position rs
links_here id position r rs h =
    ap (λ (t : Bool). if t then link_of position r ∷ links_on id position rs else links_on id position rs) (eq-eqb id r.page h)

pub links_off : (id position : ℕ) (r : LogRecord) (rs : List LogRecord) → (id ≡ r.page → ⊥) → links_on id position (r ∷ rs) ≡ links_on id position rs
links_off id position r rs h =
    ap (λ (t : Bool). if t then link_of position r ∷ links_on id position rs else links_on id position rs) (ne_eqb id r.page h)

pub links-append : (id position : ℕ) (xs ys : List LogRecord) → links_on id position (xs ++ ys) ≡ links_on id position xs ++ links_on id position ys
links-append id position [] ys = refl
links-append id position (x ∷ xs) ys = elim (cases_eq id x.page) [
  | inl here ↦ links_here id position x (xs ++ ys) here ∙ ap (λ (l : List ChainLink). link_of position x ∷ l) (links-append id position xs ys)
      ∙ sym (ap (λ (l : List ChainLink). l ++ links_on id position ys) (links_here id position x xs here))
  | inr off ↦ links_off id position x (xs ++ ys) off ∙ links-append id position xs ys
      ∙ sym (ap (λ (l : List ChainLink). l ++ links_on id position ys) (links_off id position x xs off))
]

append_nothing : (xs : List ChainLink) → xs ++ [] ≡ xs
append_nothing [] = refl
append_nothing (x ∷ xs) = ap (λ (l : List ChainLink). x ∷ l) (append_nothing xs)

pub chain-append : (id position : ℕ) (xs : List Entry) (e : Entry) → chain_from id position (xs ++ e ∷ []) ≡ chain_from id position xs ++ links_on id (position + length xs) (records_of e)
chain-append id position [] e =
    append_nothing (links_on id position (records_of e)) ∙ (let z : position ≡ position + 0 = omega arith in ap (λ (k : ℕ). links_on id k (records_of e)) z)
chain-append id position (x ∷ xs) e =
    let k : (position + 1) + length xs ≡ position + length (x ∷ xs) = omega arith in
    ap (λ (l : List ChainLink). links_on id position (records_of x) ++ l) (chain-append id (position + 1) xs e)
    ∙ sym (append_assoc (links_on id position (records_of x)) (chain_from id (position + 1) xs) (links_on id ((position + 1) + length xs) (records_of e)))
    ∙ ap (λ (m : ℕ). (links_on id position (records_of x) ++ chain_from id (position + 1) xs) ++ links_on id m (records_of e)) k

-- one record more
pub linked_on : (first now after : ℕ → List ChainLink) (position : ℕ) (done : List LogRecord) (r : LogRecord)
    → ((n : ℕ) → now n ≡ first n ++ links_on n position done)
    → ((n : ℕ) → after n ≡ put_at now r.page (now r.page ++ link_of position r ∷ []) n)
    → (n : ℕ) → after n ≡ first n ++ links_on n position (done ++ r ∷ [])
linked_on first now after position done r so made n = made n ∙ elim (cases_eq n r.page) [
  | inl here ↦ put_at_here now r.page (now r.page ++ link_of position r ∷ []) n here
      ∙ ap (λ (m : ℕ). now m ++ link_of position r ∷ []) (sym here)
      ∙ ap (λ (l : List ChainLink). l ++ link_of position r ∷ []) (so n)
      ∙ append_assoc (first n) (links_on n position done) (link_of position r ∷ [])
      ∙ ap (λ (l : List ChainLink). first n ++ l) (sym (links-append n position done (r ∷ [])
      ∙ ap (λ (l : List ChainLink). links_on n position done ++ l) (links_here n position r [] here)))
  | inr off ↦ put_at_off now r.page (now r.page ++ link_of position r ∷ []) n off ∙ so n
      ∙ ap (λ (l : List ChainLink). first n ++ l) (sym (links-append n position done (r ∷ [])
      ∙ ap (λ (l : List ChainLink). links_on n position done ++ l) (links_off n position r [] off) ∙ append_nothing (links_on n position done)))
]

-- one record fewer
pub unlinked_on : (base now after : ℕ → List ChainLink) (position : ℕ) (rest before : List LogRecord) (r : LogRecord) → rest ≡ before ++ r ∷ []
    → ((n : ℕ) → now n ≡ base n ++ links_on n position rest)
    → ((bs : List ChainLink) (k : ChainLink) → now r.page ≡ bs ++ k ∷ [] → (n : ℕ) → after n ≡ put_at now r.page bs n)
    → (n : ℕ) → after n ≡ base n ++ links_on n position before
unlinked_on base now after position rest before r is so made n =
    let id = r.page in
    let bs = base id ++ links_on id position before in
    let here : now id ≡ bs ++ link_of position r ∷ [] =
    so id ∙ ap (λ (l : List LogRecord). base id ++ links_on id position l) is
    ∙ ap (λ (l : List ChainLink). base id ++ l) (links-append id position before (r ∷ [])
    ∙ ap (λ (l : List ChainLink). links_on id position before ++ l) (links_here id position r [] refl))
    ∙ sym (append_assoc (base id) (links_on id position before) (link_of position r ∷ [])) in
    made bs (link_of position r) here n ∙ elim (cases_eq n id) [
      | inl same ↦ put_at_here now id bs n same ∙ ap (λ (m : ℕ). base m ++ links_on m position before) (sym same)
      | inr off ↦ put_at_off now id bs n off ∙ so n ∙ ap (λ (l : List LogRecord). base n ++ links_on n position l) is
          ∙ ap (λ (l : List ChainLink). base n ++ l) (links-append n position before (r ∷ [])
          ∙ ap (λ (l : List ChainLink). links_on n position before ++ l) (links_off n position r [] off) ∙ append_nothing (links_on n position before))
    ]

-- one entry fewer: what stands before its links
pub entry_links : (base now : ℕ → List ChainLink) (position : ℕ) (rest before : List Entry) (e : Entry) → rest ≡ before ++ e ∷ []
    → ((n : ℕ) → now n ≡ base n ++ chain_from n position rest)
    → (n : ℕ) → now n ≡ (base n ++ chain_from n position before) ++ links_on n (position + length before) (records_of e)
entry_links base now position rest before e is so n =
    so n ∙ ap (λ (l : List Entry). base n ++ chain_from n position l) is
    ∙ ap (λ (l : List ChainLink). base n ++ l) (chain-append n position before e)
    ∙ sym (append_assoc (base n) (chain_from n position before) (links_on n (position + length before) (records_of e)))

-- what a list loses at its end
pub last_gone : (xs ys : List ChainLink) (x y : ChainLink) → xs ++ x ∷ [] ≡ ys ++ y ∷ [] → xs ≡ ys
last_gone [] [] x y h = refl
last_gone [] (z ∷ []) x y h = cc
last_gone [] (z ∷ w ∷ ys) x y h = cc
last_gone (z ∷ []) [] x y h = cc
last_gone (z ∷ w ∷ xs) [] x y h = cc
last_gone (z ∷ xs) (w ∷ ys) x y h =
    let tail : xs ++ x ∷ [] ≡ ys ++ y ∷ [] = cc in
    let front : z ≡ w = cc in
    let rest : xs ≡ ys = last_gone xs ys x y tail in
    ap (λ (l : List ChainLink). z ∷ l) rest ∙ ap (λ (k : ChainLink). k ∷ ys) front

-- the positions of a chain do not fall
all_links : (id low position : ℕ) (rs : List LogRecord) (ks : List ChainLink) → low ≤ position → AllByRecursion (λ (l : ChainLink). low ≤ l.position) ks
    → AllByRecursion (λ (l : ChainLink). low ≤ l.position) (links_on id position rs ++ ks)
all_links id low position [] ks h k = k
all_links id low position (r ∷ rs) ks h k = elim (cases_eq id r.page) [
  | inl here ↦ subst (λ (l : List ChainLink). AllByRecursion (λ (m : ChainLink). low ≤ m.position) (l ++ ks)) (sym (links_here id position r rs here))
      (h, all_links id low position rs ks h k)
  | inr off ↦ subst (λ (l : List ChainLink). AllByRecursion (λ (m : ChainLink). low ≤ m.position) (l ++ ks)) (sym (links_off id position r rs off))
      (all_links id low position rs ks h k)
]

le_same : (n : ℕ) → n ≤ n
le_same n = omega arith

rises_links : (id position : ℕ) (rs : List LogRecord) (ks : List ChainLink) → AllByRecursion (λ (l : ChainLink). position ≤ l.position) ks → Rises ks
    → Rises (links_on id position rs ++ ks)
rises_links id position [] ks h k = k
rises_links id position (r ∷ rs) ks h k = elim (cases_eq id r.page) [
  | inl here ↦ subst (λ (l : List ChainLink). Rises (l ++ ks)) (sym (links_here id position r rs here))
      (all_links id position position rs ks (le_same position) h, rises_links id position rs ks h k)
  | inr off ↦ subst (λ (l : List ChainLink). Rises (l ++ ks)) (sym (links_off id position r rs off)) (rises_links id position rs ks h k)
]

chain_above : (id low position : ℕ) (es : List Entry) → low ≤ position → AllByRecursion (λ (l : ChainLink). low ≤ l.position) (chain_from id position es)
chain_above id low position [] h = tt
chain_above id low position (e ∷ es) h =
    all_links id low position (records_of e) (chain_from id (position + 1) es) h (chain_above id low (position + 1) es (omega arith))

pub chain_rises : (id position : ℕ) (es : List Entry) → Rises (chain_from id position es)
chain_rises id position [] = tt
chain_rises id position (e ∷ es) =
    rises_links id position (records_of e) (chain_from id (position + 1) es) (chain_above id position (position + 1) es (omega arith)) (chain_rises id (position + 1) es)

all_last : (low : ℕ) (xs : List ChainLink) (x : ChainLink) → AllByRecursion (λ (l : ChainLink). low ≤ l.position) (xs ++ x ∷ []) → low ≤ x.position
all_last low [] x h = h.0
all_last low (y ∷ ys) x h = all_last low ys x h.1

all_front : (low : ℕ) (xs : List ChainLink) (x : ChainLink) → AllByRecursion (λ (l : ChainLink). low ≤ l.position) (xs ++ x ∷ []) → AllByRecursion (λ (l : ChainLink). low ≤ l.position) xs
all_front low [] x h = tt
all_front low (y ∷ ys) x h = (h.0, all_front low ys x h.1)

pub rises_front : (xs : List ChainLink) (x : ChainLink) → Rises (xs ++ x ∷ []) → Rises xs
rises_front [] x h = tt
rises_front (y ∷ ys) x h = (all_front y.position ys x h.0, rises_front ys x h.1)

pub rises_last : (xs : List ChainLink) (x : ChainLink) → Rises (xs ++ x ∷ []) → AllByRecursion (λ (l : ChainLink). l.position ≤ x.position) xs
rises_last [] x h = tt
rises_last (y ∷ ys) x h = (all_last y.position ys x h.0, rises_last ys x h.1)

-- no records, no links
pub nothing_links : (base : ℕ → List ChainLink) (position : ℕ) (rest : List LogRecord) → length rest ≡ 0 → (n : ℕ) → base n ++ links_on n position rest ≡ base n
nothing_links base position [] h n = append_nothing (base n)
nothing_links base position (r ∷ rs) h n = absurd (omega arith)

pub nothing_chain : (base : ℕ → List ChainLink) (position : ℕ) (rest : List Entry) → length rest ≡ 0 → (n : ℕ) → base n ++ chain_from n position rest ≡ base n
nothing_chain base position [] h n = append_nothing (base n)
nothing_chain base position (e ∷ es) h n = absurd (omega arith)

pub chain_parts : (id position : ℕ) (xs ys : List Entry) → chain_from id position (xs ++ ys) ≡ chain_from id position xs ++ chain_from id (position + length xs) ys
chain_parts id position [] ys = let z : position ≡ position + 0 = omega arith in ap (λ (k : ℕ). chain_from id k ys) z
chain_parts id position (x ∷ xs) ys =
    let k : (position + 1) + length xs ≡ position + length (x ∷ xs) = omega arith in
    ap (λ (l : List ChainLink). links_on id position (records_of x) ++ l) (chain_parts id (position + 1) xs ys)
    ∙ sym (append_assoc (links_on id position (records_of x)) (chain_from id (position + 1) xs) (chain_from id ((position + 1) + length xs) ys))
    ∙ ap (λ (m : ℕ). (links_on id position (records_of x) ++ chain_from id (position + 1) xs) ++ chain_from id m ys) k
