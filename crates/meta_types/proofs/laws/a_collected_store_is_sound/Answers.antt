use Rattle.meta_types.proofs.SoundAfter.{a_collected_store_is_sound as is_sound}
use Rattle.meta_types.proofs.laws.a_collected_store_is_sound.Goals as goal

-- each list left is a filter of a sound one, and what a row that stays wants stays
pub returns : goal.returns
returns c = is_sound
