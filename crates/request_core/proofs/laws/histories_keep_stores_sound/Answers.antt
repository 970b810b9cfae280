use Rattle.request_core.proofs.HistoriesSound.{request_sound, removal_sound, event_sound, history_sound}
use Rattle.request_core.proofs.laws.histories_keep_stores_sound.Goals as goal

-- where no fault applies, by the request; else nothing changes
pub returns-clause-a_request_keeps_a_store_sound : goal.returns-clause-a_request_keeps_a_store_sound
returns-clause-a_request_keeps_a_store_sound c = request_sound

-- one row goes that nothing rests on
pub returns-clause-a_removal_by_name_keeps_a_store_sound : goal.returns-clause-a_removal_by_name_keeps_a_store_sound
returns-clause-a_removal_by_name_keeps_a_store_sound c = removal_sound

-- by its kind
pub returns-clause-an_event_keeps_a_store_sound : goal.returns-clause-an_event_keeps_a_store_sound
returns-clause-an_event_keeps_a_store_sound c = event_sound

-- event by event
pub returns-clause-a_history_keeps_a_store_sound : goal.returns-clause-a_history_keeps_a_store_sound
returns-clause-a_history_keeps_a_store_sound c = history_sound
