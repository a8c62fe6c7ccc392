-- Frames tell themselves.
use Rattle.std.proofs.Common.{◌≡◌, ℕ, ◌^◌, ◌<◌, List, [], ◌++◌, length, sym, ap, ◌∙◌, append_assoc, arith}
use Rattle.std.proofs.lemmas.List.{append-nil}
use Rattle.key_code.proofs.ValueLaws.{front_tells, digits_tell}
use Rattle.frame_code.specs.declared.frames.Frame.{Frame}
use Rattle.frame_code.specs.declared.frames.Frame.TheVariants as frames
use Rattle.frame_code.specs.Codes.{byte, number, sixteen_bytes, entry_code, payload, kind_of, envelope, frame_code}
use Rattle.frame_code.specs.Spelled.{IsByte, IsNumber, IsSixteenBytes, IsEntry, HasPayload, IsSpelled}
use Rattle.frame_code.specs.Tells.{Tells}
use Rattle.frame_code.proofs.FormLaws.{Both, both, both_tell, bytes_tell, numbers_tell, sixteen_bytes_tell}
use Rattle.frame_code.proofs.EntryLaws.{entries_tell}

-- an envelope tells its kind, its payload and what is behind it
pub envelopes_tell : (k l : ℕ) (x y ps qs : List ℕ) → length x < 2 ^ 64 → length y < 2 ^ 64
    → envelope k x ++ ps ≡ envelope l y ++ qs → (k ≡ l) × (x ≡ y) × (ps ≡ qs)
envelopes_tell k l x y ps qs hx hy e =
    let kinds : k ≡ l = cc in
    let behind : (number (length x) ++ x) ++ ps ≡ (number (length y) ++ y) ++ qs = cc in
    let moved : number (length x) ++ (x ++ ps) ≡ number (length y) ++ (y ++ qs) =
    sym (append_assoc (number (length x)) x ps) ∙ behind ∙ append_assoc (number (length y)) y qs in
    let sizes = digits_tell 8 (length x) (length y) (x ++ ps) (y ++ qs) hx hy moved in
    let parts = front_tells x y ps qs sizes.0 sizes.1 in
    (kinds, parts.0, parts.1)

-- what has a spelling is told by the whole of it
pub whole_tells : {A : Type 0} (code : A → List ℕ) (Has : A → Type 0) → Tells code Has → (v w : A) → Has v → Has w → code v ≡ code w → v ≡ w
whole_tells code Has tells v w hv hw e = (tells v w [] [] hv hw (ap (λ l. l ++ []) e)).0

-- a header's payload
abbrev pub header_parts : ℕ × (ℕ × ℕ) → List ℕ
header_parts p = both byte (both byte sixteen_bytes) p

abbrev pub AreHeaderParts : ℕ × (ℕ × ℕ) → Type 0
AreHeaderParts p = Both IsByte (Both IsByte IsSixteenBytes) p

pub header_parts_tell : Tells header_parts AreHeaderParts
header_parts_tell =
    both_tell byte IsByte (both byte sixteen_bytes) (Both IsByte IsSixteenBytes) bytes_tell
    (both_tell byte IsByte sixteen_bytes IsSixteenBytes bytes_tell sixteen_bytes_tell)

-- payloads of one kind
pub payloads_tell : (f g : Frame) → HasPayload f → HasPayload g → kind_of f ≡ kind_of g → payload f ≡ payload g → f ≡ g
payloads_tell (frames.Header v n c) (frames.Header w m d) hf hg k e =
    let parts = whole_tells header_parts AreHeaderParts header_parts_tell (v, (n, c)) (w, (m, d)) (hf.0, (hf.1, hf.2)) (hg.0, (hg.1, hg.2)) e in
    ap (λ (p : ℕ × (ℕ × ℕ)). frames.Header p.0 p.1.0 p.1.1) parts
payloads_tell (frames.Promise n) (frames.Promise m) hf hg k e = ap frames.Promise (whole_tells number IsNumber numbers_tell n m hf hg e)
payloads_tell (frames.Accept n) (frames.Accept m) hf hg k e = ap frames.Accept (whole_tells number IsNumber numbers_tell n m hf hg e)
payloads_tell (frames.Entry x) (frames.Entry y) hf hg k e = ap frames.Entry (whole_tells entry_code IsEntry entries_tell x y hf hg e)
payloads_tell (frames.Cut n) (frames.Cut m) hf hg k e = ap frames.Cut (whole_tells number IsNumber numbers_tell n m hf hg e)
payloads_tell f g hf hg k e = absurd (omega arith)

pub frames_are_told : (f g : Frame) (ps qs : List ℕ) → IsSpelled f → IsSpelled g → frame_code f ++ ps ≡ frame_code g ++ qs → (f ≡ g) × (ps ≡ qs)
frames_are_told f g ps qs hf hg e =
    let parts = envelopes_tell (kind_of f) (kind_of g) (payload f) (payload g) ps qs hf.size hg.size e in
    (payloads_tell f g hf.parts hg.parts parts.0 parts.1, parts.2)

pub frames_begin_no_other : (f g : Frame) (ps : List ℕ) → IsSpelled f → IsSpelled g → frame_code f ++ ps ≡ frame_code g → (f ≡ g) × (ps ≡ [])
frames_begin_no_other f g ps hf hg e = frames_are_told f g ps [] hf hg (e ∙ sym (append-nil (frame_code g)))
