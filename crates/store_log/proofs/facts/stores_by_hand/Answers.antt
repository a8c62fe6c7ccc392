use Rattle.store_log.proofs.WorkedStores.{empty_store, begun_store, promised_store, twice_promised_store, foreign_store}
use Rattle.store_log.proofs.facts.stores_by_hand.Goals as goal

pub returns : goal.returns
returns c =
    record { empty = empty_store; begun = begun_store; promised = promised_store; twice = twice_promised_store; foreign = foreign_store }
