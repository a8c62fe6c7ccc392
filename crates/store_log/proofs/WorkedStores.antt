-- What some stores of node 2 in cluster 7 stand for.
use Rattle.std.proofs.Common.{◌≡◌, ℕ, ◌<◌, List, [], ◌∷◌, ◌++◌, inl, inr, refl, sym, ap, ◌∙◌, subst, arith}
use Rattle.std.proofs.lemmas.List.{append-nil}
use Rattle.frame_code.specs.Codes.{frame_code}
use Rattle.frame_code.specs.Spelled.{IsSpelled}
use Rattle.frame_code.specs.declared.frames.Frame.{Frame}
use Rattle.frame_code.specs.declared.frames.Frame.TheVariants as frame
use Rattle.frame_code.proofs.FrameLaws.{frames_are_told}
use Rattle.frame_code.proofs.FrontLaws.{no_frames}
use Rattle.store_log.specs.declared.standings.Standing.TheVariants.{Log, Bad, Foreign}
use Rattle.store_log.specs.Held.{at_first, May, after_all, StandsFor}

header_spelled : (node : ℕ) → node < 256 → IsSpelled (frame.Header 1 node 7)
header_spelled node n = record { parts = (omega arith, n, omega arith); size = omega arith }

promise_spelled : IsSpelled (frame.Promise 1)
promise_spelled = record { parts = omega arith; size = omega arith }

pub empty_store : StandsFor 2 7 [] (Log 0 0 [])
empty_store = inl (
  record {
    version = 1;
    node = 2;
    cluster = 7;
    more = frame_code (frame.Header 1 2 7);
    spelled = header_spelled 2 (omega arith);
    front = refl;
    short = omega arith;
  },
  refl,
  refl,
  refl,
)

pub begun_store : StandsFor 2 7 (frame_code (frame.Header 1 2 7)) (Log 0 0 [])
begun_store = inr record {
  frames = [];
  rest = [];
  held = record { spelled = tt; rules = tt; whole = refl };
  unfinished = tt;
  promised = refl;
  accepted = refl;
  entries = refl;
}

pub promised_store : StandsFor 2 7 (frame_code (frame.Header 1 2 7) ++ frame_code (frame.Promise 1)) (Log 1 0 [])
promised_store = inr record {
  frames = frame.Promise 1 ∷ [];
  rest = [];
  held = record { spelled = (promise_spelled, tt); rules = (omega arith, tt); whole = refl };
  unfinished = tt;
  promised = refl;
  accepted = refl;
  entries = refl;
}

-- a promise is whole, and no second one of the same generation may stand there
not_promised_again : (f : Frame) (behind : List ℕ) → IsSpelled f → frame_code f ++ behind ≡ frame_code (frame.Promise 1)
    → May (after_all at_first (frame.Promise 1 ∷ [])) f → ⊥
not_promised_again f behind s e may =
    let one = frames_are_told f (frame.Promise 1) behind [] s promise_spelled (e ∙ sym (append-nil (frame_code (frame.Promise 1)))) in
    let again : 1 < 1 = subst (λ (g : Frame). May (after_all at_first (frame.Promise 1 ∷ [])) g) one.0 may in
    omega arith

pub twice_promised_store : StandsFor 2 7 (frame_code (frame.Header 1 2 7) ++ (frame_code (frame.Promise 1) ++ frame_code (frame.Promise 1))) (Bad 44)
twice_promised_store = inr record {
  frames = frame.Promise 1 ∷ [];
  rest = frame_code (frame.Promise 1);
  held = record { spelled = (promise_spelled, tt); rules = (omega arith, tt); whole = refl };
  finished = λ front. no_frames (frame_code (frame.Promise 1)) [] (frame.Promise 1) front promise_spelled refl;
  bad = not_promised_again;
  place = refl;
}

pub foreign_store : StandsFor 2 7 (frame_code (frame.Header 1 3 7)) Foreign
foreign_store = record {
  version = 1;
  other_node = 3;
  other_cluster = 7;
  rest = [];
  spelled = header_spelled 3 (omega arith);
  whole = refl;
  other = λ e. not_two (ap node_of e);
}
  where
    node_of : Frame → ℕ
    node_of (frame.Header v n c) = n
    node_of (frame.Promise n) = n
    node_of (frame.Accept n) = n
    node_of (frame.Entry x) = 0
    node_of (frame.Cut n) = n

    not_two : ◌≡◌ {A = ℕ} 3 2 → ⊥
    not_two e = omega arith
