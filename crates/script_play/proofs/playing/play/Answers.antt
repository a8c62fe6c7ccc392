use Rattle.std.proofs.Common.{arith}
use Rattle.script_play.proofs.NodesLaws.{in_nodes_order, lawful_of_nodes}
use Rattle.script_play.proofs.PlayLaws.{held_left, held_made, if_ok}
use Rattle.script_play.proofs.SerialLemmas.{run_serial}
use Rattle.script_play.specs.Start.{base}
use Rattle.script_play.proofs.playing.play.Goals as goal

pub returns-clause-lawful : goal.returns-clause-lawful
returns-clause-lawful g c = if_ok c.play_behind.result (λ p played. played.told.lawful) c.play_behind.ensures.played

pub returns-clause-in_order : goal.returns-clause-in_order
returns-clause-in_order g c = if_ok c.play_behind.result (λ p played. played.told.in_order) c.play_behind.ensures.played

pub returns-clause-lawful_of_nodes : goal.returns-clause-lawful_of_nodes
returns-clause-lawful_of_nodes g c =
    if_ok c.play_behind.result (λ p played. lawful_of_nodes c.args.script.now (base g.start) g.start.rows p.report c.requires.1.0 played.told.lawful) c.play_behind.ensures.played

pub returns-clause-in_nodes_order : goal.returns-clause-in_nodes_order
returns-clause-in_nodes_order g c =
    if_ok c.play_behind.result (λ p played. in_nodes_order c.args.script.now (base g.start) g.start.rows p.report c.requires.1.0 played.told.lawful played.told.in_order) c.play_behind.ensures.played

pub returns-clause-serial : goal.returns-clause-serial
returns-clause-serial g c =
    if_ok c.play_behind.result (λ p played. run_serial c.args.script.now g.start p.report c.requires.1.1.1.1.1.1 played.told.lawful) c.play_behind.ensures.played

pub returns-clause-entries : goal.returns-clause-entries
returns-clause-entries g c = if_ok c.play_behind.result (λ p played. played.told.entries) c.play_behind.ensures.played

pub returns-clause-schema : goal.returns-clause-schema
returns-clause-schema g c = if_ok c.play_behind.result (λ p played. played.told.schema) c.play_behind.ensures.played

pub returns-clause-changed : goal.returns-clause-changed
returns-clause-changed g c =
    if_ok c.play_behind.result (λ p played k first within. played.told.changed k (let b = c.requires.1.1.1.0 in omega (arith, b, first)) within) c.play_behind.ensures.played

pub returns-clause-rows : goal.returns-clause-rows
returns-clause-rows g c =
    if_ok c.play_behind.result (λ p played k from within. played.told.rows k (from.0, let b = c.requires.1.1.1.0 in let f = from.1 in omega (arith, b, f)) within) c.play_behind.ensures.played

pub returns-clause-stands : goal.returns-clause-stands
returns-clause-stands g c = if_ok c.play_behind.result (λ p played. played.told.stands) c.play_behind.ensures.played

pub returns-clause-small : goal.returns-clause-small
returns-clause-small g c = if_ok c.play_behind.result (λ p played. played.told.small) c.play_behind.ensures.played

pub returns-clause-faults : goal.returns-clause-faults
returns-clause-faults g c = if_ok c.play_behind.result (λ p played. played.faults) c.play_behind.ensures.played

pub returns-clause-cause : goal.returns-clause-cause
returns-clause-cause g c = if_ok c.play_behind.result (λ p played. played.held.caused) c.play_behind.ensures.played

pub returns-clause-made : goal.returns-clause-made
returns-clause-made g c = if_ok c.play_behind.result (λ p played. held_made p.log c.args.log.accepted c.args.log.store.faults played.held) c.play_behind.ensures.played

pub returns-clause-kept : goal.returns-clause-kept
returns-clause-kept g c = if_ok c.play_behind.result (λ p played. held_left p.log c.args.log.accepted c.args.log.store.faults played.held) c.play_behind.ensures.played

pub returns-clause-further : goal.returns-clause-further
returns-clause-further g c = if_ok c.play_behind.result (λ p played. played.further) c.play_behind.ensures.played
