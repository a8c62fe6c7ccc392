-- The way from the root down, in a tree of one height.
use Rattle.std.proofs.Common.{◌≡◌, ◌⊎◌, inl, inr, ℕ, zero, suc, List, [], Option, Some, refl, sym, ◌∙◌, subst}
use Rattle.std.specs.List.{AllByRecursion}
use Rattle.page_store.specs.Image.{Image}
use Rattle.page_store.specs.declared.pages.PageKind.TheVariants.{Inner}
use Rattle.btree_index.specs.Keys.{Key}
use Rattle.btree_index.specs.Pairs.{choice}
use Rattle.btree_index.specs.Trees.{Entry, leaves, IsShaped, IsLeafPage, top}
use Rattle.btree_index.specs.Ways.{IsAt}
use Rattle.btree_index.specs.Fits.{HasSpare, IsFull}
use Rattle.btree_index.specs.Changes.{raise, IsPath, Leads, LeadsOver}
use Rattle.btree_index.proofs.KeyLaws.{none_before_empty}
use Rattle.btree_index.proofs.LevelLemmas.{shaped_down, level_down, raise_suc}
use Rattle.btree_index.proofs.WayLemmas.{not_leaf, descend}

pub path_begins : (pages : ℕ → Image) (root : ℕ) (key : Key) → Leads pages root key root
path_begins pages root key = λ height cells holds. record {
  depth = 0;
  rest = height;
  tall = refl;
  at = record { front = []; low = []; others = []; is = refl; from = none_before_empty key; to = tt };
}

pub path_on : (pages : ℕ → Image) (root : ℕ) (key : Key) (page : ℕ) → Leads pages root key page → (pages page).head.kind ≡ Inner
    → Leads pages root key (choice key (pages page).cells)
path_on pages root key page leads inner = λ height cells holds. on height holds.shaped (leads height cells holds)
  where
    on : (height : ℕ) → IsShaped pages height (top root) → IsPath pages root key page height → IsPath pages root key (choice key (pages page).cells) height
    on height shaped path = go path.rest path.tall
      where
        go : (rest : ℕ) → raise path.depth rest ≡ height → IsPath pages root key (choice key (pages page).cells) height
        go zero tall =
            let level = shaped_down pages path.depth 0 (top root) (subst (λ (h : ℕ). IsShaped pages h (top root)) (sym tall) shaped) in
            let P : List Entry → Type 0 = λ l. AllByRecursion (λ e. IsLeafPage (pages e.page)) l in
            absurd (not_leaf pages page path.at.low path.at.front path.at.others inner (subst P path.at.is level))
        go (suc rest) tall =
            let level = shaped_down pages path.depth (suc rest) (top root) (subst (λ (h : ℕ). IsShaped pages h (top root)) (sym tall) shaped) in
            record {
              depth = suc path.depth;
              rest = rest;
              tall = sym (raise_suc path.depth rest) ∙ tall;
              at = subst (λ (l : List Entry). IsAt l key (choice key (pages page).cells)) (sym (level_down pages path.depth (top root)))
                  (descend pages rest (leaves pages path.depth (top root)) key page level.0 path.at);
            }

-- the last page that has room for a cell more
pub leads_over : (pages : ℕ → Image) (root : ℕ) (key : Key) (page : ℕ) (before now : Option ℕ) → Leads pages root key page
    → (pages page).head.kind ≡ Inner → LeadsOver pages root key before
    → ((now ≡ Some page) × HasSpare (pages page)) ⊎ ((now ≡ before) × IsFull (pages page)) → LeadsOver pages root key now
leads_over pages root key page before now leads inner over (inl (e, spare)) =
    subst (λ (o : Option ℕ). LeadsOver pages root key o) (sym e) (leads, inner, spare)
leads_over pages root key page before now leads inner over (inr (e, full)) = subst (λ (o : Option ℕ). LeadsOver pages root key o) (sym e) over
