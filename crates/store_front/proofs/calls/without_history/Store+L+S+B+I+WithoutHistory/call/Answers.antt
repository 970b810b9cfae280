use Rattle.store_front.proofs.calls.without_history.Store+L+S+B+I+WithoutHistory.call.Goals as goal

-- the store that the lock guards is sound, and the call is its step
pub returns-clause-step : goal.returns-clause-step
returns-clause-step g c = (
  c.admit.new.self.store.state,
  c.apply.new.self.store.state,
  c.admit.ensures.sound,
  c.apply.ensures.step,
  c.apply.ensures.fault,
)
