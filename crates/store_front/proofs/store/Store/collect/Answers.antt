use Rattle.store_front.proofs.store.Store.collect.Goals as goal

-- the store that the lock guards is sound, and the call is its step
pub returns-clause-step : goal.returns-clause-step
returns-clause-step g c = (c.admit.new.self.store.state, c.collect.new.self.store.state, c.admit.ensures.sound, c.collect.ensures.step, c.collect.ensures.fault)
