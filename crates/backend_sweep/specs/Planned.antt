-- What a sweep requires of its plan. Ours, unless a source stands beside.
use Rattle.std.specs.Prelude.{◌≡◌, ℤ, length}
use Rattle.meta_types.specs.Rows.{BackLists, State}
use Rattle.meta_types.specs.Sound.{IsSound}
use Rattle.table_sweep.specs.declared.planning.Plan.{Plan}
pub use Rattle.table_sweep.specs.Plans.{IsPlanOf}

-- these are the backends of a sound store, and the plan is that of a
-- collection of it at some moment
pub record IsPlanned (back : BackLists) (plan : Plan) : Type 0 where
  pub state : State
  pub sound : IsSound state
  pub held : state.backends ≡ back
  pub at : ℤ
  pub plan_is : IsPlanOf state.records (length state.records.tables.namespaces) state.backends at plan
