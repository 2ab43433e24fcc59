use Rattle.amo_world.proofs.Serving.{calm_event_moves, calm_event_leads, crash_event_moves, crash_event_loses}
use Rattle.amo_world.proofs.laws.only_crashes_set_marks.Goals as goal

pub returns-clause-calm : goal.returns-clause-calm
returns-clause-calm c = calm_event_moves

pub returns-clause-led : goal.returns-clause-led
returns-clause-led c = calm_event_leads

pub returns-clause-crash : goal.returns-clause-crash
returns-clause-crash c = crash_event_moves

pub returns-clause-lost : goal.returns-clause-lost
returns-clause-lost c = crash_event_loses
