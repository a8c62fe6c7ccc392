use Rattle.std.proofs.Common.{◌≡◌, ◌+◌, ◌++◌, ◌∷◌, [], List, length, sym, ap, subst, ◌∙◌}
use Rattle.blkseq_table.proofs.LogLemmas.{of_below}
use Rattle.blkseq_table.specs.Known.{AreBelow, Known, known_at}
use Rattle.blkseq_table.specs.OfLogs.{identities_of}
use Rattle.node_state.specs.Stores.{Stored, held_of}
use Rattle.phys_log.specs.declared.entries.Entry.{Entry}
use Rattle.phys_log.specs.declared.requests.Decision.TheVariants.{Commit}
use Rattle.node_commits.specs.Ledgers.{Book, IsBookOf, book}
use Rattle.node_commits.proofs.BookLaws.{book_entered, book_fallen}
use Rattle.node_commits.proofs.LedgerLaws.{known_back, known_more}
use Rattle.node_commits.proofs.ledgers.Ledger.answer_by_entry.Goals as goal

pub insert-requires-clause-above : goal.insert-requires-clause-above
insert-requires-clause-above g c =
    let k : c.self.inside.known ≡ identities_of c.args.node.now.entries = ap (λ (b : Book). b.known) c.self.view_is ∙ c.requires.book.known in
    subst (λ (ks : List Known). AreBelow ks (length c.entries.result.now + 1)) (sym k)
    (subst (λ (es : List Entry). AreBelow (identities_of c.args.node.now.entries) (length es + 1)) (sym c.entries.ensures) (of_below c.args.node.now.entries))

pub returns-in-Ok-Sent-clause-book : goal.returns-in-Ok-Sent-clause-book
returns-in-Ok-Sent-clause-book g c =
    let k : c.self.inside.known ≡ identities_of c.args.node.now.entries = ap (λ (b : Book). b.known) c.self.view_is ∙ c.requires.book.known in
    let last : c.insert.new.self ≡ c.self.inside.known ++ known_at c.args.id (length c.args.node.now.entries + 1) ∷ [] =
    c.in_ok-insert.ensures.last ∙ ap (λ (es : List Entry). c.self.inside.known ++ known_at c.args.id (length es + 1) ∷ []) c.entries.ensures in
    let done = rw c.in-Ok-Sent.field-0-is at c.in-Ok-Sent.ensures in
    book_entered c.args.self.now (book c.insert.new.self c.self.inside.settled c.self.inside.decisions.items) (held_of c.args.node.now) (held_of c.append.new.self) c.args.entry c.in-Ok-Sent.packets.items c.requires.book done.entered
    (ap (λ (b : Book). b.told) c.self.view_is) (known_more c.args.node.now.entries c.args.entry c.args.id c.self.inside.known c.insert.new.self c.requires.its k last)

pub unreachable-requires : goal.unreachable-requires
unreachable-requires g c = let done = rw c.in-Ok-Down.field-0-is at c.in-Ok-Down.ensures in done.entered

pub returns-in-Ok-Fault-clause-does : goal.returns-in-Ok-Fault-clause-does
returns-in-Ok-Fault-clause-does g c =
    let k : c.self.inside.known ≡ identities_of c.args.node.now.entries = ap (λ (b : Book). b.known) c.self.view_is ∙ c.requires.book.known in
    let last : c.insert.new.self ≡ c.self.inside.known ++ known_at c.args.id (length c.args.node.now.entries + 1) ∷ [] =
    c.in_ok-insert.ensures.last ∙ ap (λ (es : List Entry). c.self.inside.known ++ known_at c.args.id (length es + 1) ∷ []) c.entries.ensures in
    let more = known_more c.args.node.now.entries c.args.entry c.args.id c.self.inside.known c.insert.new.self c.requires.its k last in
    let back : c.drop_above.new.self ≡ c.self.inside.known = known_back c.args.node.now.entries c.args.entry c.insert.new.self c.drop_above.new.self (length c.entries.result.now) more (ap length c.entries.ensures) c.drop_above.ensures ∙ sym k in
    let whole : book c.drop_above.new.self c.self.inside.settled c.self.inside.decisions.items ≡ c.args.self.now = ap (λ (ks : List Known). book ks c.self.inside.settled c.self.inside.decisions.items) back ∙ c.self.view_is in
    let done = rw c.in-Ok-Fault.field-0-is at c.in-Ok-Fault.ensures in
    (done.entered, whole)

pub returns-in-Ok-Fault-clause-book : goal.returns-in-Ok-Fault-clause-book
returns-in-Ok-Fault-clause-book g c =
    let k : c.self.inside.known ≡ identities_of c.args.node.now.entries = ap (λ (b : Book). b.known) c.self.view_is ∙ c.requires.book.known in
    let last : c.insert.new.self ≡ c.self.inside.known ++ known_at c.args.id (length c.args.node.now.entries + 1) ∷ [] =
    c.in_ok-insert.ensures.last ∙ ap (λ (es : List Entry). c.self.inside.known ++ known_at c.args.id (length es + 1) ∷ []) c.entries.ensures in
    let more = known_more c.args.node.now.entries c.args.entry c.args.id c.self.inside.known c.insert.new.self c.requires.its k last in
    let back : c.drop_above.new.self ≡ c.self.inside.known = known_back c.args.node.now.entries c.args.entry c.insert.new.self c.drop_above.new.self (length c.entries.result.now) more (ap length c.entries.ensures) c.drop_above.ensures ∙ sym k in
    let whole : book c.drop_above.new.self c.self.inside.settled c.self.inside.decisions.items ≡ c.args.self.now = ap (λ (ks : List Known). book ks c.self.inside.settled c.self.inside.decisions.items) back ∙ c.self.view_is in
    let done = rw c.in-Ok-Fault.field-0-is at c.in-Ok-Fault.ensures in
    book_fallen c.args.self.now (book c.drop_above.new.self c.self.inside.settled c.self.inside.decisions.items) (held_of c.args.node.now) (held_of c.append.new.self) c.requires.book done.entered whole

pub returns-in-Err-clause-book : goal.returns-in-Err-clause-book
returns-in-Err-clause-book g c =
    let k : c.self.inside.known ≡ identities_of c.args.node.now.entries = ap (λ (b : Book). b.known) c.self.view_is ∙ c.requires.book.known in
    let last : c.insert.new.self ≡ c.self.inside.known ++ known_at c.args.id (length c.args.node.now.entries + 1) ∷ [] =
    c.in_ok-insert.ensures.last ∙ ap (λ (es : List Entry). c.self.inside.known ++ known_at c.args.id (length es + 1) ∷ []) c.entries.ensures in
    let more = known_more c.args.node.now.entries c.args.entry c.args.id c.self.inside.known c.insert.new.self c.requires.its k last in
    let back : c.drop_above-in-Err.new.self ≡ c.self.inside.known = known_back c.args.node.now.entries c.args.entry c.insert.new.self c.drop_above-in-Err.new.self (length c.entries.result.now) more (ap length c.entries.ensures) c.drop_above-in-Err.ensures ∙ sym k in
    let whole : book c.drop_above-in-Err.new.self c.self.inside.settled c.self.inside.decisions.items ≡ c.args.self.now = ap (λ (ks : List Known). book ks c.self.inside.settled c.self.inside.decisions.items) back ∙ c.self.view_is in
    subst (λ (n : Stored). IsBookOf (book c.drop_above-in-Err.new.self c.self.inside.settled c.self.inside.decisions.items) (held_of n)) (sym c.in-Err.ensures.unchanged) (subst (λ (b : Book). IsBookOf b (held_of c.args.node.now)) (sym whole) c.requires.book)

pub returns-in-Err-clause-unchanged : goal.returns-in-Err-clause-unchanged
returns-in-Err-clause-unchanged g c =
    let k : c.self.inside.known ≡ identities_of c.args.node.now.entries = ap (λ (b : Book). b.known) c.self.view_is ∙ c.requires.book.known in
    let last : c.insert.new.self ≡ c.self.inside.known ++ known_at c.args.id (length c.args.node.now.entries + 1) ∷ [] =
    c.in_ok-insert.ensures.last ∙ ap (λ (es : List Entry). c.self.inside.known ++ known_at c.args.id (length es + 1) ∷ []) c.entries.ensures in
    let more = known_more c.args.node.now.entries c.args.entry c.args.id c.self.inside.known c.insert.new.self c.requires.its k last in
    let back : c.drop_above-in-Err.new.self ≡ c.self.inside.known = known_back c.args.node.now.entries c.args.entry c.insert.new.self c.drop_above-in-Err.new.self (length c.entries.result.now) more (ap length c.entries.ensures) c.drop_above-in-Err.ensures ∙ sym k in
    let whole : book c.drop_above-in-Err.new.self c.self.inside.settled c.self.inside.decisions.items ≡ c.args.self.now = ap (λ (ks : List Known). book ks c.self.inside.settled c.self.inside.decisions.items) back ∙ c.self.view_is in
    (whole, c.in-Err.ensures.unchanged)

pub returns-in-Ok-Sent-clause-does : goal.returns-in-Ok-Sent-clause-does
returns-in-Ok-Sent-clause-does g c =
    let done = rw c.in-Ok-Sent.field-0-is at c.in-Ok-Sent.ensures in
    (ap (λ (e : Entry). Commit e) c.in_ok-told.ensures, (done.entered, ap (λ (b : Book). b.told) c.self.view_is))

pub returns-in-Ok-Sent-clause-store : goal.returns-in-Ok-Sent-clause-store
returns-in-Ok-Sent-clause-store g c =
    let done = rw c.in-Ok-Sent.field-0-is at c.in-Ok-Sent.ensures in
    done.store

pub returns-in-Ok-Fault-clause-store : goal.returns-in-Ok-Fault-clause-store
returns-in-Ok-Fault-clause-store g c =
    let done = rw c.in-Ok-Fault.field-0-is at c.in-Ok-Fault.ensures in
    done.store
