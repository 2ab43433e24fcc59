use Rattle.amo_world.proofs.RepliesByMode.{put_while_down, put_while_full, put_with_room, ack_while_down, ack_while_waiting, ack_while_held, ack_once_got, ack_once_lost, get_while_down, get_while_held, get_while_empty}
use Rattle.amo_world.proofs.laws.calls_reply_by_mode.Goals as goal

pub returns-clause-put_while_down : goal.returns-clause-put_while_down
returns-clause-put_while_down c = put_while_down

pub returns-clause-put_while_full : goal.returns-clause-put_while_full
returns-clause-put_while_full c = put_while_full

pub returns-clause-put_with_room : goal.returns-clause-put_with_room
returns-clause-put_with_room c = put_with_room

pub returns-clause-ack_while_down : goal.returns-clause-ack_while_down
returns-clause-ack_while_down c = ack_while_down

pub returns-clause-ack_while_waiting : goal.returns-clause-ack_while_waiting
returns-clause-ack_while_waiting c = ack_while_waiting

pub returns-clause-ack_while_held : goal.returns-clause-ack_while_held
returns-clause-ack_while_held c = ack_while_held

pub returns-clause-ack_once_got : goal.returns-clause-ack_once_got
returns-clause-ack_once_got c = ack_once_got

pub returns-clause-ack_once_lost : goal.returns-clause-ack_once_lost
returns-clause-ack_once_lost c = ack_once_lost

pub returns-clause-get_while_down : goal.returns-clause-get_while_down
returns-clause-get_while_down c = get_while_down

pub returns-clause-get_while_held : goal.returns-clause-get_while_held
returns-clause-get_while_held c = get_while_held

pub returns-clause-get_while_empty : goal.returns-clause-get_while_empty
returns-clause-get_while_empty c = get_while_empty
