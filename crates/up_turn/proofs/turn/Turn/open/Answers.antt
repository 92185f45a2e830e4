use Rattle.up_turn.proofs.FirstAndLast.{closes, is_some_of, slot_has, comes_out}
use Rattle.up_turn.proofs.turn.Turn.open.Goals as goal

pub unwrap-requires : goal.unwrap-requires
unwrap-requires g c = let end = closes _ _ _ _ _ _ _ c.close_with-closed.ensures.values.2 c.requires.outside c.requires.first c.requires.all in is_some_of _ _ (slot_has _ _ _ _ end _ c.take-slot.ensures.value)

pub returns-clause-origin : goal.returns-clause-origin
returns-clause-origin g c = (comes_out _ _ _ _ (closes _ _ _ _ _ _ _ c.close_with-closed.ensures.values.2 c.requires.outside c.requires.first c.requires.all) _ c.take-slot.ensures.value _ c.unwrap.ensures).fits

pub returns-clause-list : goal.returns-clause-list
returns-clause-list g c = (comes_out _ _ _ _ (closes _ _ _ _ _ _ _ c.close_with-closed.ensures.values.2 c.requires.outside c.requires.first c.requires.all) _ c.take-slot.ensures.value _ c.unwrap.ensures).is

pub returns-clause-own : goal.returns-clause-own
returns-clause-own g c = (comes_out _ _ _ _ (closes _ _ _ _ _ _ _ c.close_with-closed.ensures.values.2 c.requires.outside c.requires.first c.requires.all) _ c.take-slot.ensures.value _ c.unwrap.ensures).own

pub returns-clause-each_once : goal.returns-clause-each_once
returns-clause-each_once g c = (comes_out _ _ _ _ (closes _ _ _ _ _ _ _ c.close_with-closed.ensures.values.2 c.requires.outside c.requires.first c.requires.all) _ c.take-slot.ensures.value _ c.unwrap.ensures).each_once
