-- A ledger is its node's behind what the node does about a request.
use Rattle.std.specs.Prelude.{true}
use Rattle.std.proofs.Common.{◌≡◌, List, [], ◌∷◌, ◌++◌, refl, sym, subst, ap, ◌∙◌}
use Rattle.blkseq_table.specs.OfLogs.{identities_of}
use Rattle.cluster_steps.specs.declared.events.Event.{Event}
use Rattle.cluster_steps.specs.declared.events.Event.TheVariants as event
use Rattle.phys_log.specs.declared.entries.CommitId.{CommitId}
use Rattle.phys_log.specs.declared.entries.Entry.{Entry}
use Rattle.phys_log.specs.declared.requests.Decision.{Decision}
use Rattle.node_state.specs.Calls.{Did, Falls, IsAppend}
use Rattle.node_state.specs.Commits.{Enters, IsSettle, Settles}
use Rattle.node_state.specs.Nodes.{Held, events_of}
use Rattle.node_state.specs.Packets.{SentPacket}
use Rattle.node_commits.specs.Ledgers.{Book, IsBookOf, Settlement, settlement, told_after, told_by}
use Rattle.node_commits.proofs.HistoryLaws.{told_one_more}

-- an entry that is appended tells nothing, and a decision that is told is told
append_tells : (next : Entry) (e : Event) (told : List Settlement) → IsAppend next e → told_after told e ≡ told
append_tells next event.Order told is = absurd is
append_tells next event.Obeyed told is = absurd is
append_tells next (event.Fire line node) told is = absurd is
append_tells next (event.Admit node promised accepted) told is = absurd is
append_tells next (event.Up how promised accepted entries) told is = absurd is
append_tells next (event.Down fault) told is = absurd is
append_tells next (event.Stand g) told is = absurd is
append_tells next (event.Grant g to) told is = absurd is
append_tells next (event.Lead g) told is = absurd is
append_tells next (event.Take g l) told is = absurd is
append_tells next (event.Append x) told is = refl
append_tells next (event.Settle r t) told is = absurd is
append_tells next (event.Learn l) told is = absurd is
append_tells next (event.Probe ask) told is = absurd is
append_tells next (event.Confirm ask g) told is = absurd is
append_tells next event.Ask told is = absurd is
append_tells next (event.Begun position g) told is = absurd is
append_tells next (event.Reply line) told is = absurd is
append_tells next (event.Send master g) told is = absurd is
append_tells next (event.Outcome line) told is = absurd is
append_tells next (event.Move node) told is = absurd is
append_tells next event.Barrier told is = absurd is
append_tells next (event.Fed position g) told is = absurd is
append_tells next (event.FedAgain position) told is = absurd is

settle_tells : (id : CommitId) (d : Decision) (e : Event) (told : List Settlement) → IsSettle id d e → told_after told e ≡ told ++ settlement id d ∷ []
settle_tells id d event.Order told is = absurd is
settle_tells id d event.Obeyed told is = absurd is
settle_tells id d (event.Fire line node) told is = absurd is
settle_tells id d (event.Admit node promised accepted) told is = absurd is
settle_tells id d (event.Up how promised accepted entries) told is = absurd is
settle_tells id d (event.Down fault) told is = absurd is
settle_tells id d (event.Stand g) told is = absurd is
settle_tells id d (event.Grant g to) told is = absurd is
settle_tells id d (event.Lead g) told is = absurd is
settle_tells id d (event.Take g l) told is = absurd is
settle_tells id d (event.Append x) told is = absurd is
settle_tells id d (event.Settle r t) told is = ap (λ i. told ++ settlement i t.value ∷ []) is.0 ∙ ap (λ x. told ++ settlement id x ∷ []) is.1
settle_tells id d (event.Learn l) told is = absurd is
settle_tells id d (event.Probe ask) told is = absurd is
settle_tells id d (event.Confirm ask g) told is = absurd is
settle_tells id d event.Ask told is = absurd is
settle_tells id d (event.Begun position g) told is = absurd is
settle_tells id d (event.Reply line) told is = absurd is
settle_tells id d (event.Send master g) told is = absurd is
settle_tells id d (event.Outcome line) told is = absurd is
settle_tells id d (event.Move node) told is = absurd is
settle_tells id d event.Barrier told is = absurd is
settle_tells id d (event.Fed position g) told is = absurd is
settle_tells id d (event.FedAgain position) told is = absurd is

one_more : (old new : Held) (e : Event) → Did (e ∷ []) old new → told_by (events_of new.actor.made) ≡ told_after (told_by (events_of old.actor.made)) e
one_more old new e d = ap told_by d.made ∙ told_one_more [] (events_of old.actor.made) e

pub book_entered : (b c : Book) (old new : Held) (next : Entry) (ps : List SentPacket) → IsBookOf b old → Enters next ps old new → c.told ≡ b.told → c.known ≡ identities_of (old.entries ++ next ∷ []) → IsBookOf c new
book_entered b c old new next ps is enters told known = record {
  known = known ∙ ap identities_of (sym enters.entries);
  told = told ∙ (is.told ∙ (sym (append_tells next enters.event (told_by (events_of old.actor.made)) enters.appends) ∙ sym (one_more old new enters.event enters.did)));
}

pub book_settled : (b c : Book) (old new : Held) (id : CommitId) (d : Decision) → IsBookOf b old → Settles id d old new → c.told ≡ b.told ++ settlement id d ∷ [] → c.known ≡ b.known → IsBookOf c new
book_settled b c old new id d is settles told known = record {
  known = known ∙ (is.known ∙ ap identities_of (sym settles.entries));
  told = told ∙ (ap (λ t. t ++ settlement id d ∷ []) is.told ∙ (sym (settle_tells id d settles.event (told_by (events_of old.actor.made)) settles.settles) ∙ sym (one_more old new settles.event settles.did)));
}

pub book_fallen : (b c : Book) (old new : Held) → IsBookOf b old → Falls true old new → c ≡ b → IsBookOf c new
book_fallen b c old new is falls same = subst (λ (x : Book). IsBookOf x new) (sym same) (record {
  known = is.known ∙ ap identities_of (sym falls.entries);
  told = is.told ∙ sym (one_more old new (event.Down true) falls.did);
})
