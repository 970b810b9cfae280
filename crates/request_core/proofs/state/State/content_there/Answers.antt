use Rattle.meta_types.specs.declared.resource.Resource.TheVariants.{Content}
use Rattle.request_core.proofs.HoldsThere.{given_lease}
use Rattle.request_core.proofs.state.State.content_there.Goals as goal

-- a lease is named
pub returns-in-Some : goal.returns-in-Some
returns-in-Some g c = λ texts.
    given_lease c.args.self.now.state c.args.ns.now c.args.lease.now _ (Content c.args.digest.now)
    c.look_content.result c.in-Some.is (c.look_content.ensures texts)
