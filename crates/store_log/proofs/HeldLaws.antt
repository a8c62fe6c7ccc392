-- Bytes stand for one thing at most.
use Rattle.std.proofs.Common.{◌≡◌, inl, inr, ℕ, ◌+◌, ◌<◌, ◌^◌, List, [], ◌∷◌, ◌++◌, length, refl, sym, ap, ◌∙◌, subst, append_assoc, arith, length-append}
use Rattle.std.specs.List.{flat_map, AllByRecursion}
use Rattle.frame_code.specs.Codes.{frame_code}
use Rattle.frame_code.specs.Fronts.{IsFrameFront}
use Rattle.frame_code.specs.Spelled.{IsSpelled}
use Rattle.frame_code.specs.declared.frames.Frame.{Frame}
use Rattle.frame_code.specs.declared.frames.Frame.TheVariants as frame
use Rattle.frame_code.proofs.FrameLaws.{frames_are_told}
use Rattle.frame_code.proofs.FrontLaws.{no_frames}
use Rattle.phys_log.specs.declared.entries.Entry.{Entry}
use Rattle.store_log.specs.declared.standings.Standing.{Standing}
use Rattle.store_log.specs.declared.standings.Standing.TheVariants.{Log, Bad, Foreign}
use Rattle.store_log.specs.Held.{Held, at_first, May, after, AllMay, after_all, header, IsUnbegun, HasFrames, IsForeign, StandsFor}

-- no frame that may stand there is behind the others
abbrev pub Ends : Held → List ℕ → Type 0
Ends h rest = (f : Frame) (behind : List ℕ) → IsSpelled f → frame_code f ++ behind ≡ rest → May h f → ⊥

pub front_ends : (h : Held) (rest : List ℕ) → IsFrameFront rest → Ends h rest
front_ends h rest front f behind s e may = no_frames rest behind f front s e

-- the frames at the front of bytes are told, as far as they may follow each other
pub same_frames : (h : Held) (xs ys : List Frame) (p q : List ℕ) → AllByRecursion IsSpelled xs → AllByRecursion IsSpelled ys
    → AllMay h xs → AllMay h ys → Ends (after_all h xs) p → Ends (after_all h ys) q
    → flat_map frame_code xs ++ p ≡ flat_map frame_code ys ++ q → (xs ≡ ys) × (p ≡ q)
same_frames h [] [] p q sx sy mx my dp dq e = (refl, e)
same_frames h [] (y ∷ ys) p q sx sy mx my dp dq e =
    absurd (dp y (flat_map frame_code ys ++ q) sy.0 (sym (append_assoc (frame_code y) (flat_map frame_code ys) q) ∙ sym e) my.0)
same_frames h (x ∷ xs) [] p q sx sy mx my dp dq e =
    absurd (dq x (flat_map frame_code xs ++ p) sx.0 (sym (append_assoc (frame_code x) (flat_map frame_code xs) p) ∙ e) mx.0)
same_frames h (x ∷ xs) (y ∷ ys) p q sx sy mx my dp dq e =
    let moved : frame_code x ++ (flat_map frame_code xs ++ p) ≡ frame_code y ++ (flat_map frame_code ys ++ q) =
    sym (append_assoc (frame_code x) (flat_map frame_code xs) p) ∙ e ∙ append_assoc (frame_code y) (flat_map frame_code ys) q in
    let one = frames_are_told x y (flat_map frame_code xs ++ p) (flat_map frame_code ys ++ q) sx.0 sy.0 moved in
    let rules : AllMay (after h x) ys = subst (λ (f : Frame). AllMay (after h f) ys) (sym one.0) my.1 in
    let ends : Ends (after_all (after h x) ys) q = subst (λ (f : Frame). Ends (after_all (after h f) ys) q) (sym one.0) dq in
    let others = same_frames (after h x) xs ys p q sx.1 sy.1 mx.1 rules dp ends one.1 in
    (ap (λ (f : Frame). f ∷ xs) one.0 ∙ ap (λ (l : List Frame). y ∷ l) others.0, others.1)

pub frames_are_one : (node cluster : ℕ) (bytes : List ℕ) (xs ys : List Frame) (p q : List ℕ) → IsSpelled (header node cluster)
    → HasFrames node cluster bytes xs p → HasFrames node cluster bytes ys q
    → Ends (after_all at_first xs) p → Ends (after_all at_first ys) q → (xs ≡ ys) × (p ≡ q)
frames_are_one node cluster bytes xs ys p q s x y dp dq =
    let one = frames_are_told (header node cluster) (header node cluster) (flat_map frame_code xs ++ p) (flat_map frame_code ys ++ q) s s
    (x.whole ∙ sym y.whole) in
    same_frames at_first xs ys p q x.spelled y.spelled x.rules y.rules dp dq one.1

-- fewer bytes than a header begin with none
pub no_header_yet : (bytes : List ℕ) → IsUnbegun bytes → (v n c : ℕ) (rest : List ℕ) → frame_code (frame.Header v n c) ++ rest ≡ bytes → ⊥
no_header_yet bytes u v n c rest e =
    let all : length (frame_code (frame.Header v n c) ++ rest) ≡ length bytes = ap length e in
    let parts : length (frame_code (frame.Header v n c) ++ rest) ≡ length (frame_code (frame.Header v n c)) + length rest =
    length-append (frame_code (frame.Header v n c)) rest in
    let size : length (frame_code (frame.Header v n c)) ≡ 27 = refl in
    let short : length bytes < 27 = u.short in
    omega arith

-- a header that is another's
not_ours : (node cluster : ℕ) (bytes : List ℕ) (fs : List Frame) (rest : List ℕ) → IsSpelled (header node cluster)
    → HasFrames node cluster bytes fs rest → IsForeign node cluster bytes → ⊥
not_ours node cluster bytes fs rest s x f =
    f.other (frames_are_told (frame.Header f.version f.other_node f.other_cluster) (header node cluster) f.rest (flat_map frame_code fs ++ rest)
    f.spelled s (f.whole ∙ sym x.whole)).0

same_logs : (node cluster : ℕ) (bytes : List ℕ) (p a q b : ℕ) (es ds : List Entry) → IsSpelled (header node cluster)
    → StandsFor node cluster bytes (Log p a es) → StandsFor node cluster bytes (Log q b ds) → Log p a es ≡ Log q b ds
same_logs node cluster bytes p a q b es ds s (inl x) (inl y) =
    ap (λ (n : ℕ). Log n a es) (x.1 ∙ sym y.1) ∙ ap (λ (n : ℕ). Log q n es) (x.2 ∙ sym y.2) ∙ ap (λ (l : List Entry). Log q b l) (x.3 ∙ sym y.3)
same_logs node cluster bytes p a q b es ds s (inl x) (inr y) =
    absurd (no_header_yet bytes x.0 1 node cluster (flat_map frame_code y.frames ++ y.rest) y.held.whole)
same_logs node cluster bytes p a q b es ds s (inr x) (inl y) =
    absurd (no_header_yet bytes y.0 1 node cluster (flat_map frame_code x.frames ++ x.rest) x.held.whole)
same_logs node cluster bytes p a q b es ds s (inr x) (inr y) =
    let same = frames_are_one node cluster bytes x.frames y.frames x.rest y.rest s x.held y.held
    (front_ends (after_all at_first x.frames) x.rest x.unfinished) (front_ends (after_all at_first y.frames) y.rest y.unfinished) in
    let held : after_all at_first x.frames ≡ after_all at_first y.frames = ap (λ (l : List Frame). after_all at_first l) same.0 in
    ap (λ (n : ℕ). Log n a es) (sym x.promised ∙ ap (λ (h : Held). h.promised) held ∙ y.promised)
    ∙ ap (λ (n : ℕ). Log q n es) (sym x.accepted ∙ ap (λ (h : Held). h.accepted) held ∙ y.accepted)
    ∙ ap (λ (l : List Entry). Log q b l) (sym x.entries ∙ ap (λ (h : Held). h.entries) held ∙ y.entries)

log_or_bad : (node cluster : ℕ) (bytes : List ℕ) (p a : ℕ) (es : List Entry) (at : ℕ) → IsSpelled (header node cluster)
    → StandsFor node cluster bytes (Log p a es) → StandsFor node cluster bytes (Bad at) → ⊥
log_or_bad node cluster bytes p a es at s (inl x) (inl y) = y.0.begun x.0
log_or_bad node cluster bytes p a es at s (inl x) (inr y) =
    no_header_yet bytes x.0 1 node cluster (flat_map frame_code y.frames ++ y.rest) y.held.whole
log_or_bad node cluster bytes p a es at s (inr x) (inl y) =
    y.0.no_header 1 node cluster (flat_map frame_code x.frames ++ x.rest) s x.held.whole
log_or_bad node cluster bytes p a es at s (inr x) (inr y) =
    let same = frames_are_one node cluster bytes x.frames y.frames x.rest y.rest s x.held y.held
    (front_ends (after_all at_first x.frames) x.rest x.unfinished) y.bad in
    y.finished (subst IsFrameFront same.1 x.unfinished)

log_or_foreign : (node cluster : ℕ) (bytes : List ℕ) (p a : ℕ) (es : List Entry) → IsSpelled (header node cluster)
    → StandsFor node cluster bytes (Log p a es) → IsForeign node cluster bytes → ⊥
log_or_foreign node cluster bytes p a es s (inl x) f = no_header_yet bytes x.0 f.version f.other_node f.other_cluster f.rest f.whole
log_or_foreign node cluster bytes p a es s (inr x) f = not_ours node cluster bytes x.frames x.rest s x.held f

same_faults : (node cluster : ℕ) (bytes : List ℕ) (at other : ℕ) → IsSpelled (header node cluster)
    → StandsFor node cluster bytes (Bad at) → StandsFor node cluster bytes (Bad other) → Bad at ≡ Bad other
same_faults node cluster bytes at other s (inl x) (inl y) = ap (λ (n : ℕ). Bad n) (x.1 ∙ sym y.1)
same_faults node cluster bytes at other s (inl x) (inr y) =
    absurd (x.0.no_header 1 node cluster (flat_map frame_code y.frames ++ y.rest) s y.held.whole)
same_faults node cluster bytes at other s (inr x) (inl y) =
    absurd (y.0.no_header 1 node cluster (flat_map frame_code x.frames ++ x.rest) s x.held.whole)
same_faults node cluster bytes at other s (inr x) (inr y) =
    let same = frames_are_one node cluster bytes x.frames y.frames x.rest y.rest s x.held y.held x.bad y.bad in
    ap (λ (n : ℕ). Bad n)
    (sym x.place ∙ ap (λ (l : List Frame). length (frame_code (header node cluster)) + length (flat_map frame_code l)) same.0 ∙ y.place)

bad_or_foreign : (node cluster : ℕ) (bytes : List ℕ) (at : ℕ) → IsSpelled (header node cluster)
    → StandsFor node cluster bytes (Bad at) → IsForeign node cluster bytes → ⊥
bad_or_foreign node cluster bytes at s (inl x) f = x.0.no_header f.version f.other_node f.other_cluster f.rest f.spelled f.whole
bad_or_foreign node cluster bytes at s (inr x) f = not_ours node cluster bytes x.frames x.rest s x.held f

pub header_is_spelled : (node cluster : ℕ) → node < 256 → cluster < 2 ^ 128 → IsSpelled (header node cluster)
header_is_spelled node cluster n c = record { parts = (omega arith, n, c); size = omega arith }

stand_for_one : (node cluster : ℕ) (bytes : List ℕ) (r s : Standing) → IsSpelled (header node cluster)
    → StandsFor node cluster bytes r → StandsFor node cluster bytes s → r ≡ s
stand_for_one node cluster bytes (Log p a es) (Log q b ds) h x y = same_logs node cluster bytes p a q b es ds h x y
stand_for_one node cluster bytes (Log p a es) (Bad at) h x y = absurd (log_or_bad node cluster bytes p a es at h x y)
stand_for_one node cluster bytes (Log p a es) Foreign h x y = absurd (log_or_foreign node cluster bytes p a es h x y)
stand_for_one node cluster bytes (Bad at) (Log q b ds) h x y = absurd (log_or_bad node cluster bytes q b ds at h y x)
stand_for_one node cluster bytes (Bad at) (Bad other) h x y = same_faults node cluster bytes at other h x y
stand_for_one node cluster bytes (Bad at) Foreign h x y = absurd (bad_or_foreign node cluster bytes at h x y)
stand_for_one node cluster bytes Foreign (Log q b ds) h x y = absurd (log_or_foreign node cluster bytes q b ds h y x)
stand_for_one node cluster bytes Foreign (Bad at) h x y = absurd (bad_or_foreign node cluster bytes at h y x)
stand_for_one node cluster bytes Foreign Foreign h x y = refl

pub one_standing : (node cluster : ℕ) (bytes : List ℕ) (r s : Standing) → node < 256 → cluster < 2 ^ 128
    → StandsFor node cluster bytes r → StandsFor node cluster bytes s → r ≡ s
one_standing node cluster bytes r s n c x y = stand_for_one node cluster bytes r s (header_is_spelled node cluster n c) x y
