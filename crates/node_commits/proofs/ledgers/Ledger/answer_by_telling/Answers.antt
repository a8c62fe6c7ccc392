use Rattle.std.proofs.Common.{◌≡◌, ◌++◌, ◌∷◌, [], refl, sym, ap, subst, ◌∙◌}
use Rattle.phys_log.specs.declared.entries.CommitId.{CommitId}
use Rattle.phys_log.specs.declared.requests.Decision.{Decision}
use Rattle.kept_log.specs.Kept.{OverStore}
use Rattle.node_state.specs.Stores.{IsCalm, held_of}
use Rattle.node_commits.specs.Ledgers.{IsUntold, settlement}
use Rattle.node_commits.proofs.BookLaws.{book_settled}
use Rattle.node_commits.proofs.GivenLaws.{done_by_telling}
use Rattle.node_commits.proofs.ledgers.Ledger.answer_by_telling.Goals as goal

pub keep-requires : goal.keep-requires
keep-requires g c = record { untold = subst (λ (i : CommitId). IsUntold c.args.self.now.told i) (sym c.in_ok-its.ensures) c.requires.untold }

pub returns-clause-does : goal.returns-clause-does
returns-clause-does g c =
    let kept : c.keep.new.self.told ≡ c.args.self.now.told ++ settlement c.args.id c.args.decision ∷ [] =
    c.in_ok-keep.ensures.told
    ∙ (ap (λ (i : CommitId). c.args.self.now.told ++ settlement i c.in_ok-told.told ∷ []) c.in_ok-its.ensures
    ∙ ap (λ (d : Decision). c.args.self.now.told ++ settlement c.args.id d ∷ []) c.in_ok-told.ensures) in
    (refl, done_by_telling c.args.id c.args.decision _ c.args.self.now c.keep.new.self (held_of c.args.node.now) (held_of c.settle.new.self) c.requires.telling c.settle.ensures.settles c.new.ensures.items kept)

pub returns-clause-book : goal.returns-clause-book
returns-clause-book g c =
    let kept : c.keep.new.self.told ≡ c.args.self.now.told ++ settlement c.args.id c.args.decision ∷ [] =
    c.in_ok-keep.ensures.told
    ∙ (ap (λ (i : CommitId). c.args.self.now.told ++ settlement i c.in_ok-told.told ∷ []) c.in_ok-its.ensures
    ∙ ap (λ (d : Decision). c.args.self.now.told ++ settlement c.args.id d ∷ []) c.in_ok-told.ensures) in
    book_settled c.args.self.now c.keep.new.self (held_of c.args.node.now) (held_of c.settle.new.self) c.args.id c.args.decision c.requires.book c.settle.ensures.settles kept c.keep.ensures.known

pub returns-clause-store : goal.returns-clause-store
returns-clause-store g c = subst (λ (o : OverStore). IsCalm c.args.node.now.over o) (sym c.settle.ensures.over) (refl, refl)
