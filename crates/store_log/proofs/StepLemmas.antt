-- One frame more.
use Rattle.std.proofs.Common.{◌≡◌, inl, inr, ℕ, zero, suc, ◌+◌, ◌-◌, ◌<◌, ◌≤◌, List, [], ◌∷◌, ◌++◌, length, take, drop, refl, sym, ap, ◌∙◌, subst, append_assoc, arith, length-append, length-drop, Result, Err}
use Rattle.std.proofs.lemmas.List.{append-nil}
use Rattle.std.specs.List.{flat_map, AllByRecursion}
use Rattle.frame_code.specs.Codes.{kind_of, payload, number, frame_code}
use Rattle.frame_code.specs.Fronts.{IsFrameFront}
use Rattle.frame_code.specs.Spelled.{IsSpelled}
use Rattle.frame_code.specs.declared.frames.Frame.{Frame}
use Rattle.frame_code.specs.declared.frames.Frame.TheVariants as frame
use Rattle.frame_code.proofs.FrameLaws.{frames_are_told}
use Rattle.frame_code.proofs.FrontLaws.{no_frames}
use Rattle.log_format.specs.Readings.{IsWhole, IsBad}
use Rattle.store_log.specs.declared.readings.First.TheVariants.{Ours}
use Rattle.store_log.specs.declared.standings.Standing.TheVariants.{Log, Bad}
use Rattle.store_log.specs.Firsts.{IsFirst}
use Rattle.store_log.specs.Held.{Held, at_first, May, after, AllMay, after_all, header, IsUnbegun, HasFrames, IsLogOf, IsBadFirst, IsBadLater, StandsFor}
use Rattle.store_log.specs.declared.held_logs.TakeFault.{TakeFault}
use Rattle.store_log.specs.declared.held_logs.TakeFault.TheVariants.{Misplaced}
use Rattle.store_log.specs.Steps.{TellsMay, IsMore, IsWrong, IsReadTo}
use Rattle.store_log.proofs.CutLaws.{after_join, may_join, spelled_join, codes_join}

pub more_is : (before now : Held) (f : Frame) (n : ℕ) (bytes : List ℕ) → IsWhole f n bytes → May before f → now ≡ after before f
    → IsMore before now n bytes
more_is before now f n bytes w may e =
    record { frame = f; behind = w.rest; spelled = w.spelled; begins = w.begins; may = may; held = e; size = w.size }

pub misplaced_is : (held : Held) (f : Frame) (n : ℕ) (bytes : List ℕ) → IsWhole f n bytes → (May held f → ⊥) → IsWrong held bytes
misplaced_is held f n bytes w never = record {
  finished = λ front. no_frames bytes w.rest f front w.spelled w.begins;
  bad = λ g behind s e may. never (subst (May held) (frames_are_told g f behind w.rest s w.spelled (e ∙ sym w.begins)).0 may);
}

pub bad_is : (held : Held) (bytes : List ℕ) → IsBad bytes → IsWrong held bytes
bad_is held bytes b = record { finished = b.no_front; bad = λ g behind s e may. b.no_frame g behind s e }

pub drop_front : (xs ys : List ℕ) → drop (length xs) (xs ++ ys) ≡ ys
drop_front [] ys = refl
drop_front (x ∷ xs) ys = drop_front xs ys

behind_is : (before now : Held) (n : ℕ) (bytes : List ℕ) → (m : IsMore before now n bytes) → m.behind ≡ drop n bytes
behind_is before now n bytes m =
    sym (drop_front (frame_code m.frame) m.behind) ∙ ap (λ (l : List ℕ). drop (length (frame_code m.frame)) l) m.begins
    ∙ ap (λ (k : ℕ). drop k bytes) m.size

-- a frame takes some of the bytes
pub some_bytes : (before now : Held) (n : ℕ) (bytes : List ℕ) → IsMore before now n bytes → (0 < n) × (n ≤ length bytes)
some_bytes before now n bytes m =
    let size : length (frame_code m.frame) ≡ n = m.size in
    let kind : length (frame_code m.frame) ≡ suc (length (number (length (payload m.frame)) ++ payload m.frame)) = refl in
    let all : length (frame_code m.frame ++ m.behind) ≡ length bytes = ap length m.begins in
    let parts : length (frame_code m.frame ++ m.behind) ≡ length (frame_code m.frame) + length m.behind =
    length-append (frame_code m.frame) m.behind in
    (omega arith, omega arith)

pub one_code : (f : Frame) → flat_map frame_code (f ∷ []) ≡ frame_code f
one_code f = append-nil (frame_code f)

-- the bytes of one frame more
moved : (hdr one two behind bytes rest : List ℕ) → hdr ++ (one ++ rest) ≡ bytes → two ++ behind ≡ rest → hdr ++ ((one ++ two) ++ behind) ≡ bytes
moved hdr one two behind bytes rest whole begins =
    ap (λ (l : List ℕ). hdr ++ l) (append_assoc one two behind ∙ ap (λ (l : List ℕ). one ++ l) begins) ∙ whole

pub read_more : (node cluster : ℕ) (bytes : List ℕ) (h now : Held) (rest : List ℕ) (at n : ℕ) → IsReadTo node cluster bytes h rest at
    → IsMore h now n rest → IsReadTo node cluster bytes now (drop n rest) (at + n)
read_more node cluster bytes h now rest at n r m =
    let codes : flat_map frame_code (r.frames ++ m.frame ∷ []) ≡ flat_map frame_code r.frames ++ frame_code m.frame =
    codes_join r.frames (m.frame ∷ []) ∙ ap (λ (l : List ℕ). flat_map frame_code r.frames ++ l) (one_code m.frame) in
    let sizes : length (flat_map frame_code (r.frames ++ m.frame ∷ [])) ≡ length (flat_map frame_code r.frames) + length (frame_code m.frame) =
    ap length codes ∙ length-append (flat_map frame_code r.frames) (frame_code m.frame) in
    let place : length (frame_code (header node cluster)) + length (flat_map frame_code r.frames) ≡ at = r.place in
    let size : length (frame_code m.frame) ≡ n = m.size in
    let further : length (frame_code (header node cluster)) + length (flat_map frame_code (r.frames ++ m.frame ∷ [])) ≡ at + n = omega arith in
    let begins : frame_code m.frame ++ drop n rest ≡ rest =
    ap (λ (l : List ℕ). frame_code m.frame ++ l) (sym (behind_is h now n rest m)) ∙ m.begins in
    record {
      frames = r.frames ++ m.frame ∷ [];
      read = record {
        spelled = spelled_join r.frames (m.frame ∷ []) r.read.spelled (m.spelled, tt);
        rules = may_join at_first r.frames (m.frame ∷ []) r.read.rules (subst (λ (k : Held). May k m.frame) (sym r.held) m.may, tt);
        whole = ap (λ (l : List ℕ). frame_code (header node cluster) ++ (l ++ drop n rest)) codes
            ∙ moved (frame_code (header node cluster)) (flat_map frame_code r.frames) (frame_code m.frame) (drop n rest) bytes rest r.read.whole begins;
      };
      held = after_join at_first r.frames (m.frame ∷ []) ∙ ap (λ (k : Held). after k m.frame) r.held ∙ sym m.held;
      place = further;
    }

pub read_log : (node cluster : ℕ) (bytes : List ℕ) (h : Held) (rest : List ℕ) (at : ℕ) → IsReadTo node cluster bytes h rest at → IsFrameFront rest
    → IsLogOf node cluster bytes h.promised h.accepted h.entries
read_log node cluster bytes h rest at r front = record {
  frames = r.frames;
  rest = rest;
  held = r.read;
  unfinished = front;
  promised = ap (λ (k : Held). k.promised) r.held;
  accepted = ap (λ (k : Held). k.accepted) r.held;
  entries = ap (λ (k : Held). k.entries) r.held;
}

pub read_bad : (node cluster : ℕ) (bytes : List ℕ) (h : Held) (rest : List ℕ) (at : ℕ) → IsReadTo node cluster bytes h rest at → IsWrong h rest
    → IsBadLater node cluster bytes at
read_bad node cluster bytes h rest at r w = record {
  frames = r.frames;
  rest = rest;
  held = r.read;
  finished = w.finished;
  bad = λ f behind s e may. w.bad f behind s e (subst (λ (k : Held). May k f) r.held may);
  place = r.place;
}

-- all that is read is before the offset
pub read_place : (node cluster : ℕ) (bytes : List ℕ) (h : Held) (rest : List ℕ) (at : ℕ) → IsReadTo node cluster bytes h rest at
    → at + length rest ≡ length bytes
read_place node cluster bytes h rest at r =
    let place : length (frame_code (header node cluster)) + length (flat_map frame_code r.frames) ≡ at = r.place in
    let all : length (frame_code (header node cluster) ++ (flat_map frame_code r.frames ++ rest)) ≡ length bytes = ap length r.read.whole in
    let outer : length (frame_code (header node cluster) ++ (flat_map frame_code r.frames ++ rest))
    ≡ length (frame_code (header node cluster)) + length (flat_map frame_code r.frames ++ rest) =
    length-append (frame_code (header node cluster)) (flat_map frame_code r.frames ++ rest) in
    let inner : length (flat_map frame_code r.frames ++ rest) ≡ length (flat_map frame_code r.frames) + length rest =
    length-append (flat_map frame_code r.frames) rest in
    omega arith

pub size_within : (before now : Held) (n : ℕ) (bytes : List ℕ) → IsMore before now n bytes → n ≤ length bytes
size_within before now n bytes m = (some_bytes before now n bytes m).1

-- what is left is less
pub left_is_less : (before now : Held) (n : ℕ) (bytes : List ℕ) → IsMore before now n bytes → length (drop n bytes) < length bytes
left_is_less before now n bytes m =
    let both = some_bytes before now n bytes m in
    let some : 0 < n = both.0 in
    let within : n ≤ length bytes = both.1 in
    let size : length (drop n bytes) ≡ length bytes - n = length-drop n bytes in
    omega arith

-- the offset of what is left is no further than the end
pub offset_within : (node cluster : ℕ) (bytes : List ℕ) (h now : Held) (rest : List ℕ) (at n : ℕ) → IsReadTo node cluster bytes h rest at
    → IsMore h now n rest → at + n ≤ length bytes
offset_within node cluster bytes h now rest at n r m =
    let place : at + length rest ≡ length bytes = read_place node cluster bytes h rest at r in
    let within : n ≤ length rest = size_within h now n rest m in
    omega arith

pub log_stands : (node cluster : ℕ) (bytes : List ℕ) (h now : Held) (rest : List ℕ) (at : ℕ) → IsReadTo node cluster bytes h rest at
    → IsFrameFront rest × (now ≡ h) → StandsFor node cluster bytes (Log now.promised now.accepted now.entries)
log_stands node cluster bytes h now rest at r e =
    inr (read_log node cluster bytes now rest at (subst (λ (k : Held). IsReadTo node cluster bytes k rest at) (sym e.1) r) e.0)

pub fault_stands : (node cluster : ℕ) (bytes : List ℕ) (h : Held) (rest : List ℕ) (at : ℕ) → IsReadTo node cluster bytes h rest at
    → IsWrong h rest → StandsFor node cluster bytes (Bad at)
fault_stands node cluster bytes h rest at r w = inr (read_bad node cluster bytes h rest at r w)

pub unbegun_stands : (node cluster : ℕ) (bytes : List ℕ) → IsUnbegun bytes → StandsFor node cluster bytes (Log 0 0 [])
unbegun_stands node cluster bytes u = inl (u, refl, refl, refl)

pub bad_first_stands : (node cluster : ℕ) (bytes : List ℕ) → IsBadFirst bytes → StandsFor node cluster bytes (Bad 0)
bad_first_stands node cluster bytes b = inl (b, refl)

-- behind the header
pub read_header : (node cluster : ℕ) (bytes rest : List ℕ) → HasFrames node cluster bytes [] rest
    → IsReadTo node cluster bytes at_first (drop 27 bytes) 27 × (27 ≤ length bytes)
read_header node cluster bytes rest x =
    let size : length (frame_code (header node cluster)) ≡ 27 = refl in
    let left : drop 27 bytes ≡ rest = ap (λ (l : List ℕ). drop 27 l) (sym x.whole) ∙ drop_front (frame_code (header node cluster)) rest in
    let all : length (frame_code (header node cluster) ++ rest) ≡ length bytes = ap length x.whole in
    let parts : length (frame_code (header node cluster) ++ rest) ≡ length (frame_code (header node cluster)) + length rest =
    length-append (frame_code (header node cluster)) rest in (
      record {
        frames = [];
        read = subst (λ (l : List ℕ). HasFrames node cluster bytes [] l) (sym left) x;
        held = refl;
        place = refl;
      },
      omega arith,
    )

pub header_read : (node cluster : ℕ) (bytes : List ℕ) → IsFirst Ours node cluster bytes → IsReadTo node cluster bytes at_first (drop 27 bytes) 27
header_read node cluster bytes x = (read_header node cluster bytes x.0 x.1).0

pub header_within : (node cluster : ℕ) (bytes : List ℕ) → IsFirst Ours node cluster bytes → 27 ≤ length bytes
header_within node cluster bytes x = (read_header node cluster bytes x.0 x.1).1

never_by : {T : Type 0} (r : Result T TakeFault) (x : TakeFault) (may : Type 0) → r ≡ Err x → x ≡ Misplaced → TellsMay r may → may → ⊥
never_by r x may e f told = subst (λ s. TellsMay s may) (e ∙ ap (λ y. Err y) f) told

pub misplaced_by : {T : Type 0} (held : Held) (f : Frame) (n : ℕ) (bytes : List ℕ) (r : Result T TakeFault) (x : TakeFault) → IsWhole f n bytes
    → r ≡ Err x → x ≡ Misplaced → TellsMay r (May held f) → IsWrong held bytes
misplaced_by held f n bytes r x w e m told = misplaced_is held f n bytes w (never_by r x (May held f) e m told)
