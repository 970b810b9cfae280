use Rattle.kept_store.proofs.Unasked.{asks_nothing}
use Rattle.kept_store.proofs.laws.numbers_ask_nothing.Goals as goal

-- no command begins so
pub returns : goal.returns
returns c = record { numbers = asks_nothing }
