-- A store that was opened stands for what it stood for.
use Rattle.std.proofs.Common.{◌≡◌, inl, inr, ℕ, ◌<◌, ◌^◌, List, [], ◌++◌, refl, sym, ap, ◌∙◌}
use Rattle.std.proofs.lemmas.List.{append-nil}
use Rattle.frame_code.specs.Codes.{frame_code}
use Rattle.store_log.specs.declared.standings.Standing.TheVariants.{Log}
use Rattle.store_log.specs.Held.{Held, at_first, after_all, header, IsUnbegun}
use Rattle.store_log.specs.Opens.{IsTrimmed, IsOpened, StandsAlike}
use Rattle.store_log.proofs.CutLaws.{after_join, may_back}
use Rattle.store_log.proofs.MendLemmas.{open_same, alike_by}

begun_alike : (node cluster : ℕ) (old new : List ℕ) → node < 256 → cluster < 2 ^ 128 → IsUnbegun old → new ≡ frame_code (header node cluster)
    → StandsAlike node cluster old new
begun_alike node cluster old new n c u e =
    alike_by node cluster old new (Log 0 0 []) n c (inl (u, refl, refl, refl))
    (inr (record {
      frames = [];
      rest = [];
      held = record { spelled = tt; rules = tt; whole = append-nil (frame_code (header node cluster)) ∙ sym e };
      unfinished = tt;
      promised = refl;
      accepted = refl;
      entries = refl;
    }))

trimmed_alike : (node cluster : ℕ) (old new : List ℕ) → node < 256 → cluster < 2 ^ 128 → IsTrimmed node cluster old new → StandsAlike node cluster old new
trimmed_alike node cluster old new n c t =
    let all = after_all at_first (t.kept ++ t.gone) in
    let joined : all ≡ after_all (after_all at_first t.kept) t.gone = after_join at_first t.kept t.gone in
    let same = open_same (after_all at_first t.kept) t.gone (may_back at_first t.kept t.gone t.has.rules) t.opens in
    alike_by node cluster old new (Log all.promised all.accepted all.entries) n c
    (inr (record {
      frames = t.kept ++ t.gone;
      rest = t.rest;
      held = t.has;
      unfinished = t.unfinished;
      promised = refl;
      accepted = refl;
      entries = refl;
    }))
    (inr (record {
      frames = t.kept;
      rest = [];
      held = t.left;
      unfinished = tt;
      promised = same.promised ∙ ap (λ (h : Held). h.promised) (sym joined);
      accepted = same.accepted ∙ ap (λ (h : Held). h.accepted) (sym joined);
      entries = same.entries ∙ ap (λ (h : Held). h.entries) (sym joined);
    }))

pub opened_alike : (node cluster : ℕ) (old new : List ℕ) → node < 256 → cluster < 2 ^ 128 → IsOpened node cluster old new → StandsAlike node cluster old new
opened_alike node cluster old new n c (inl begun) = begun_alike node cluster old new n c begun.0 begun.1
opened_alike node cluster old new n c (inr trimmed) = trimmed_alike node cluster old new n c trimmed
