-- An entry without records fits any log.
use Rattle.std.proofs.Common.{◌≡◌, ◌+◌, ℕ, List, [], ◌∷◌, ◌++◌, take, refl, sym, subst}
use Rattle.entry_spelling.specs.Fields.{IsGrown}
use Rattle.frame_code.specs.Spelled.{IsSpelled}
use Rattle.frame_code.specs.declared.frames.Frame.TheVariants as frame
use Rattle.phys_log.specs.Logs.{AreNext, Fits, IsLog, blank_pages, last_lsn_of, pages_of}
use Rattle.phys_log.specs.declared.entries.Entry.{Entry}
use Rattle.phys_log.specs.declared.entries.Entry.TheVariants as entry
use Rattle.phys_log.specs.declared.entries.LogRecord.{LogRecord}
use Rattle.node_log.specs.Logged.{AreSpelled}
use Rattle.kept_cases.specs.Placed.{IsPlain}

pub plain_fits : (es : List Entry) (e : Entry) (g : ℕ) → IsPlain g e → Fits es e
plain_fits es e g plain = subst (λ (rs : List LogRecord). AreNext (pages_of es) (last_lsn_of es + 1) rs) (sym plain.none) tt

pub plain_log : (es : List Entry) (xs : List Entry) (e : Entry) (g : ℕ) → xs ≡ e ∷ [] → IsPlain g e → IsLog (take 0 es ++ xs)
plain_log es xs e g is plain = subst (λ (l : List Entry). IsLog (take 0 es ++ l)) (sym is)
    (subst (λ (rs : List LogRecord). AreNext blank_pages 1 (rs ++ [])) (sym plain.none) tt)

pub plain_spelled : (xs : List Entry) (e : Entry) (g : ℕ) → xs ≡ e ∷ [] → IsPlain g e → AreSpelled xs
plain_spelled xs e g is plain = subst AreSpelled (sym is) (plain.spelled, tt)

pub is_plain : (g : ℕ) → (IsGrown (entry.Setup g [] []) → IsSpelled (frame.Entry (entry.Setup g [] []))) → IsPlain g (entry.Setup g [] [])
is_plain g spelled = record { of = refl; none = refl; spelled = spelled tt }
