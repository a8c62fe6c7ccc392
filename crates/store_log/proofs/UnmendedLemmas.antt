-- Bytes that are to be mended hold no log alone.
use Rattle.std.proofs.Common.{◌≡◌, ℕ, ◌+◌, ◌<◌, ◌^◌, true, is_some, List, [], ◌∷◌, ◌++◌, length, Option, Some, None, refl, sym, ap, ◌∙◌, subst, arith, length-append}
use Rattle.std.proofs.lemmas.List.{append-nil}
use Rattle.std.specs.List.{flat_map}
use Rattle.frame_code.specs.Codes.{frame_code}
use Rattle.frame_code.specs.Spelled.{IsSpelled}
use Rattle.frame_code.specs.declared.frames.Frame.{Frame}
use Rattle.phys_log.specs.declared.entries.Entry.{Entry}
use Rattle.store_log.specs.declared.finds.Found.{Found}
use Rattle.store_log.specs.Held.{Held, at_first, after, after_all, header}
use Rattle.store_log.specs.Holds.{plain}
use Rattle.store_log.specs.Opens.{AllOpen, NeedsMending, WasUnmended}
use Rattle.store_log.specs.Walks.{IsClosing, IsFound}
use Rattle.store_log.proofs.CutLaws.{after_join}
use Rattle.store_log.proofs.HeldLaws.{frames_are_one, front_ends, header_is_spelled, no_header_yet}
use Rattle.store_log.proofs.MendLemmas.{found_stands, found_to}

-- after frames of which each leaves an adoption open, one is open
last_open : (h : Held) (f : Frame) (fs : List Frame) → AllOpen h (f ∷ fs) → is_some (after_all h (f ∷ fs)).adopting ≡ true
last_open h f [] o = o.0
last_open h f (g ∷ gs) o = last_open (after h f) g gs o.1

not_open : (o : Option (List Entry)) → is_some o ≡ true → o ≡ None → ⊥
not_open None is none = cc
not_open (Some adopted) is none = cc

-- with nothing behind them, the frames up to where no adoption is open are all of the bytes
nothing_gone : (node cluster : ℕ) (bytes : List ℕ) (p a : ℕ) (es : List Entry) (closed : ℕ) (x : IsClosing node cluster bytes p a es closed)
    (gone : List Frame) → x.gone ≡ gone → (after_all at_first (x.kept ++ gone)).adopting ≡ None → [] ≡ x.rest → closed ≡ length bytes
nothing_gone node cluster bytes p a es closed x [] none plainly over =
    let whole : length (frame_code (header node cluster) ++ (flat_map frame_code (x.kept ++ x.gone) ++ x.rest)) ≡ length bytes = ap length x.has.whole in
    let outer : length (frame_code (header node cluster) ++ (flat_map frame_code (x.kept ++ x.gone) ++ x.rest))
    ≡ length (frame_code (header node cluster)) + length (flat_map frame_code (x.kept ++ x.gone) ++ x.rest) =
    length-append (frame_code (header node cluster)) (flat_map frame_code (x.kept ++ x.gone) ++ x.rest) in
    let inner : length (flat_map frame_code (x.kept ++ x.gone) ++ x.rest) ≡ length (flat_map frame_code (x.kept ++ x.gone)) + length x.rest =
    length-append (flat_map frame_code (x.kept ++ x.gone)) x.rest in
    let size : length (frame_code (header node cluster)) ≡ 27 = refl in
    let rest : length x.rest ≡ 0 = sym (ap length over) in
    let kept : length (flat_map frame_code (x.kept ++ x.gone)) ≡ length (flat_map frame_code x.kept) =
    ap (λ (l : List Frame). length (flat_map frame_code l)) (ap (λ (l : List Frame). x.kept ++ l) none ∙ append-nil x.kept) in
    let close : 27 + length (flat_map frame_code x.kept) ≡ closed = x.close in
    omega arith
nothing_gone node cluster bytes p a es closed x (f ∷ fs) some plainly over =
    let opens : AllOpen (after_all at_first x.kept) (f ∷ fs) = subst (λ (l : List Frame). AllOpen (after_all at_first x.kept) l) some x.opens in
    let joined : after_all at_first (x.kept ++ f ∷ fs) ≡ after_all (after_all at_first x.kept) (f ∷ fs) = after_join at_first x.kept (f ∷ fs) in
    absurd (not_open (after_all (after_all at_first x.kept) (f ∷ fs)).adopting (last_open (after_all at_first x.kept) f fs opens)
    (ap (λ (h : Held). h.adopting) (sym joined) ∙ plainly))

closing_unmended : (node cluster : ℕ) (bytes : List ℕ) (p a : ℕ) (es : List Entry) (closed : ℕ) → IsSpelled (header node cluster)
    → IsClosing node cluster bytes p a es closed → (closed ≡ length bytes → ⊥) → NeedsMending node cluster bytes
closing_unmended node cluster bytes p a es closed s x more q b ds holds =
    let same = frames_are_one node cluster bytes holds.frames (x.kept ++ x.gone) [] x.rest s holds.has x.has
    (front_ends (after_all at_first holds.frames) [] tt) (front_ends (after_all at_first (x.kept ++ x.gone)) x.rest x.unfinished) in
    let is : after_all at_first (x.kept ++ x.gone) ≡ plain q b ds = ap (λ (l : List Frame). after_all at_first l) (sym same.0) ∙ holds.is in
    more (nothing_gone node cluster bytes p a es closed x x.gone refl (ap (λ (h : Held). h.adopting) is) same.1)

pub trim_unmended : (f : Found) (node cluster : ℕ) (bytes : List ℕ) (closed size : ℕ) → node < 256 → cluster < 2 ^ 128 → IsFound f node cluster bytes
    → f.closed ≡ Some closed → (closed ≡ f.end → ⊥) → size ≡ length f.entries → WasUnmended node cluster bytes size
trim_unmended f node cluster bytes closed size n c x e more had = record {
  promised = f.promised;
  accepted = f.accepted;
  entries = f.entries;
  stood = found_stands f node cluster bytes x;
  had = had;
  mending = closing_unmended node cluster bytes f.promised f.accepted f.entries closed (header_is_spelled node cluster n c)
      (found_to f node cluster bytes (Some closed) x e) (λ all. more (all ∙ sym x.end));
}

pub begin_unmended : (f : Found) (node cluster : ℕ) (bytes : List ℕ) (size : ℕ) → IsFound f node cluster bytes → f.closed ≡ None
    → size ≡ length f.entries → WasUnmended node cluster bytes size
begin_unmended f node cluster bytes size x e had = record {
  promised = f.promised;
  accepted = f.accepted;
  entries = f.entries;
  stood = found_stands f node cluster bytes x;
  had = had;
  mending = λ q b ds holds. no_header_yet bytes (found_to f node cluster bytes None x e).0 1 node cluster (flat_map frame_code holds.frames ++ []) holds.has.whole;
}
