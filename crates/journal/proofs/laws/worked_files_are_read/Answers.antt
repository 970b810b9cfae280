use Rattle.journal.proofs.WorkedFiles.{a_file_has_its_groups, torn_groups_are_left_out, a_crash_tears_a_group, changed_bytes_are_damage, a_changed_file_has_no_groups, a_checkpoint_is_read}
use Rattle.journal.proofs.laws.worked_files_are_read.Goals as goal

-- the sums and the commit lines, computed
pub returns-clause-groups : goal.returns-clause-groups
returns-clause-groups c = a_file_has_its_groups

-- a torn line ends what is committed
pub returns-clause-torn : goal.returns-clause-torn
returns-clause-torn c = torn_groups_are_left_out

-- a byte is the old zero or the new one
pub returns-clause-crash : goal.returns-clause-crash
returns-clause-crash c = a_crash_tears_a_group

-- a changed group has another sum
pub returns-clause-changed : goal.returns-clause-changed
returns-clause-changed c = changed_bytes_are_damage

-- groups would be found without damage
pub returns-clause-none : goal.returns-clause-none
returns-clause-none c = a_changed_file_has_no_groups

-- the first sum comes from the card
pub returns-clause-checkpoint : goal.returns-clause-checkpoint
returns-clause-checkpoint c = a_checkpoint_is_read
