-- What requests and histories keep. Each statement is the contract of a function of the module
-- `laws`. Ours, unless a source stands beside.
use Rattle.std.specs.Prelude.{List}
use Rattle.meta_types.specs.Rows.{State}
use Rattle.meta_types.specs.Backends.{BackNames}
use Rattle.meta_types.specs.Requests.{removal_outcome}
use Rattle.meta_types.specs.Sound.{IsSound}
use Rattle.meta_types.specs.Steps.{Answer, Event, after}
use Rattle.meta_types.specs.Histories.{Entry, Step, IsLegal}
use Rattle.meta_types.specs.declared.request.Request.{Request}
use Rattle.meta_types.specs.declared.request.Removal.{Removal}

-- a request keeps a store sound, refused or not
abbrev pub ARequestKeepsAStoreSound : Type 0
ARequestKeepsAStoreSound = (state : State) (request : Request) → IsSound state → IsSound (after state request)

-- the removal that comes with a collection keeps a store sound, before the collection
abbrev pub ARemovalByNameKeepsAStoreSound : Type 0
ARemovalByNameKeepsAStoreSound = (state : State) (removal : Removal) → IsSound state → IsSound (removal_outcome state removal).after

-- each event keeps a store sound, whatever failed in it
abbrev pub AnEventKeepsAStoreSound : Type 0
AnEventKeepsAStoreSound = (state : State) (event : Event) (failed : BackNames) (answer : Answer) (new : State) → IsSound state → Step state event failed answer new → IsSound new

-- a history from a sound store ends in a sound one
abbrev pub AHistoryKeepsAStoreSound : Type 0
AHistoryKeepsAStoreSound = (base : State) (log : List Entry) (end : State) → IsSound base → IsLegal base log end → IsSound end
