-- A forest where nothing but the next genid changed.
use Rattle.std.proofs.Common.{◌≡◌, inl, inr, ℕ, zero, suc, ◌≤◌, ◌<◌, List, [], ◌∷◌, sym, ap, ◌∙◌, subst, arith}
use Rattle.std.specs.List.{AllByRecursion}
use Rattle.page_store.specs.Image.{Image, blank_image}
use Rattle.page_store.specs.declared.pages.PageKind.{PageKind}
use Rattle.page_store.specs.declared.pages.PageKind.TheVariants.{Free, Meta}
use Rattle.page_workspace.specs.Spare.{IsIn, IsChain, IsMeta, AreFree, count_of, first_free}
use Rattle.page_workspace.proofs.ChainLaws.{chain_same, kept_same}
use Rattle.table_store.specs.Forests.{Pair, joined, Forest}
use Rattle.table_edits.specs.Genids.{SetsGenid}
use Rattle.table_store.proofs.ForestLaws.{trees_same}

-- no free page is the meta page
chain_off : (pages : ℕ → Image) (next : ℕ) (ids : List ℕ) (n : ℕ) → IsChain pages next ids → IsIn n ids → n ≡ 0 → ⊥
chain_off pages next [] n h i e = absurd i
chain_off pages next (id ∷ ids) n h (inl same) e = h.1 (sym same ∙ e)
chain_off pages next (id ∷ ids) n h (inr i) e = chain_off pages (pages id).head.right ids n h.2 i e

kind_apart : ◌≡◌ {A = PageKind} Free Meta → ⊥
kind_apart e = cc

meta_written : (image : Image) → IsMeta image → image ≡ blank_image → ⊥
meta_written image meta blank = kind_apart (sym (ap (λ (i : Image). i.head.kind) blank) ∙ meta.kind)

free_kept : (old new : ℕ → Image) (free : List ℕ) (genid : ℕ) → SetsGenid old new genid → AreFree old free → AreFree new free
free_kept old new free genid s f = record {
  meta = s.meta f.meta;
  chain = subst (λ (n : ℕ). IsChain new n free) (sym s.free) (chain_same old new (first_free old) free same f.chain);
  apart = f.apart;
  written = subst (λ (n : ℕ). AllByRecursion (λ id. id < n) free) (sym s.count) f.written;
  kept = kept_same old new free same f.kept;
  past = past;
}
  where
    same : (n : ℕ) → IsIn n free → new n ≡ old n
    same n i = s.others n (chain_off old (first_free old) free n f.chain i)

    behind : (id : ℕ) → count_of new ≤ id → count_of old ≤ id
    behind id h = subst (λ (n : ℕ). n ≤ id) s.count h

    some : (id : ℕ) → suc id ≡ 0 → ⊥
    some id e = omega arith

    past : (id : ℕ) → count_of new ≤ id → new id ≡ blank_image
    past zero h = absurd (meta_written (old 0) f.meta (f.past 0 (behind 0 h)))
    past (suc id) h = s.others (suc id) (some id) ∙ f.past (suc id) (behind (suc id) h)

pub forest_kept : (old new : ℕ → Image) (root genid : ℕ) (owns : List (List ℕ)) (free : List ℕ) (lists : List (List Pair)) → SetsGenid old new genid
    → Forest old root owns free lists → Forest new root owns free lists
forest_kept old new root genid owns free lists s f = record {
  trees = trees_same old new root owns lists (λ n i. s.others n (λ z. f.off_meta (subst (λ (k : ℕ). IsIn k (joined owns)) z i))) f.trees;
  apart = f.apart;
  spare = free_kept old new free genid s f.spare;
  off_meta = f.off_meta;
  off_free = f.off_free;
  below = λ n i. subst (λ (k : ℕ). n < k) (sym s.count) (f.below n i);
}
