-- What stands at the front of bytes, as an envelope and as a frame.
use Rattle.std.proofs.Common.{◌≡◌, ℕ, List, [], ◌∷◌, ◌++◌, length, eqb, false, refl, sym, ap, ◌∙◌, subst, arith}
use Rattle.std.proofs.lemmas.List.{append-nil}
use Rattle.frame_code.specs.declared.frames.Frame.TheVariants as frames
use Rattle.frame_code.specs.Codes.{number, payload, kind_of, frame_code}
use Rattle.frame_code.specs.Fronts.{IsFrameFront}
use Rattle.frame_code.specs.Tells.{Tells, Lacks, Begins}
use Rattle.frame_code.proofs.FrameLaws.{envelopes_tell, header_parts, AreHeaderParts, frames_are_told}
use Rattle.frame_code.proofs.FrontLaws.{no_frames, no_envelope}
use Rattle.log_format.specs.declared.frames.Reading.{Reading}
use Rattle.log_format.specs.declared.frames.Reading.TheVariants.{Whole, Short, Bad}
use Rattle.log_format.specs.Wholes.{IsNone, IsNoPayload}
use Rattle.log_format.specs.Envelopes.{HasEnvelope}
use Rattle.log_format.specs.Readings.{IsBad, IsReading}

-- what is not empty
pub some_are_left : (rest : List ℕ) → eqb (length rest) 0 ≡ false → rest ≡ [] → ⊥
some_are_left [] some e = cc
some_are_left (b ∷ rest) some e = cc

-- a value with something behind it
pub more_of_it : {A : Type 0} (code : A → List ℕ) (Has : A → Type 0) → Tells code Has → (v : A) (rest bytes : List ℕ)
    → Begins code Has v rest bytes → (rest ≡ [] → ⊥) → IsNone code Has bytes
more_of_it code Has tells v rest bytes b some w h e =
    some (sym (tells w v [] rest h b.0 (append-nil (code w) ∙ e ∙ sym b.1)).1)

pub none_of_it : {A : Type 0} (code : A → List ℕ) (Has : A → Type 0) (bytes : List ℕ) → Lacks code Has bytes → IsNone code Has bytes
none_of_it code Has bytes none v h e = none v [] h (append-nil (code v) ∙ e)

-- payloads
pub no_header : (bytes : List ℕ) → IsNone header_parts AreHeaderParts bytes → IsNoPayload 1 bytes
no_header bytes none (frames.Header v n c) p = none (v, (n, c)) (p.parts.0, (p.parts.1, p.parts.2)) p.bytes
no_header bytes none (frames.Promise n) p = let k : ◌≡◌ {A = ℕ} 2 1 = p.kind in omega arith
no_header bytes none (frames.Accept n) p = let k : ◌≡◌ {A = ℕ} 3 1 = p.kind in omega arith
no_header bytes none (frames.Entry x) p = let k : ◌≡◌ {A = ℕ} 4 1 = p.kind in omega arith
no_header bytes none (frames.Cut n) p = let k : ◌≡◌ {A = ℕ} 5 1 = p.kind in omega arith

pub no_payload_is_bad : (kind : ℕ) (bytes whole : List ℕ) → HasEnvelope kind bytes whole → IsNoPayload kind bytes → IsBad whole
no_payload_is_bad kind bytes whole env none = record {
  no_frame = λ f rest h e.
      let parts = envelopes_tell (kind_of f) kind (payload f) bytes rest env.rest h.size env.fits (e ∙ sym env.whole) in
      none f (record { parts = h.parts; kind = parts.0; bytes = parts.1 });
  no_front = λ front.
      no_envelope bytes env.rest ((number (length bytes) ++ bytes) ++ env.rest) env.fits (subst IsFrameFront (sym env.whole) front).1 refl;
}

-- readings are apart
pub readings_are_one : (r s : Reading) (bytes : List ℕ) → IsReading r bytes → IsReading s bytes → r ≡ s
readings_are_one (Whole f n) (Whole g m) bytes a b =
    let told = frames_are_told f g a.rest b.rest a.spelled b.spelled (a.begins ∙ sym b.begins) in
    ap (λ k. Whole f k) (sym a.size ∙ ap (λ h. length (frame_code h)) told.0 ∙ b.size) ∙ ap (λ h. Whole h m) told.0
readings_are_one Short Short bytes a b = refl
readings_are_one Bad Bad bytes a b = refl
readings_are_one (Whole f n) Short bytes a b = absurd (no_frames bytes a.rest f b a.spelled a.begins)
readings_are_one Short (Whole f n) bytes a b = absurd (no_frames bytes b.rest f a b.spelled b.begins)
readings_are_one (Whole f n) Bad bytes a b = absurd (b.no_frame f a.rest a.spelled a.begins)
readings_are_one Bad (Whole f n) bytes a b = absurd (a.no_frame f b.rest b.spelled b.begins)
readings_are_one Short Bad bytes a b = absurd (b.no_front a)
readings_are_one Bad Short bytes a b = absurd (a.no_front b)
