use Rattle.meta_types.specs.contracts.request.Request.{enum}
use denote.Ref.{NamedLft}
use Rattle.meta_types.proofs.Decided.{told_by, text, maybe, ◌⊗◌, one, none, number, ◌⊕◌, Tests, by_decides}
use Rattle.meta_types.proofs.RequestTests.{any, label, name, content, snap, update, image_add, image_target, image_set, container_add, container_set, content_add, ingest_begin, ingest_commit, snap_add, snap_commit, lease_add, lease_resource}
use Rattle.meta_types.proofs.request.Request.is.Goals as goal

-- of each variant, in the order in which they are written
tests : (k : NamedLft) → Tests (enum k).parts
tests k =
    one text
    ⊕ one text
    ⊕ none
    ⊕ one (image_add k)
    ⊕ one (image_target k)
    ⊕ one (image_set k)
    ⊕ one (name k)
    ⊕ one (name k)
    ⊕ one text
    ⊕ (name k) ⊗ one (label k)
    ⊕ one (container_add k)
    ⊕ one (container_set k)
    ⊕ one (name k)
    ⊕ one (name k)
    ⊕ one text
    ⊕ (name k) ⊗ one (label k)
    ⊕ one (content_add k)
    ⊕ (content k) ⊗ one (update k)
    ⊕ (content k) ⊗ one (maybe text)
    ⊕ one (content k)
    ⊕ (content k) ⊗ one (label k)
    ⊕ one text
    ⊕ one (ingest_begin k)
    ⊕ one (ingest_begin k)
    ⊕ one (ingest_commit k)
    ⊕ (name k) ⊗ one (maybe text)
    ⊕ one (name k)
    ⊕ one text
    ⊕ one (snap_add k)
    ⊕ one (snap_add k)
    ⊕ one (snap_commit k)
    ⊕ (snap k) ⊗ one (update k)
    ⊕ (snap k) ⊗ one (maybe text)
    ⊕ one (snap k)
    ⊕ (snap k) ⊗ one (label k)
    ⊕ text ⊗ one text
    ⊕ one text
    ⊕ one (lease_add k)
    ⊕ (name k) ⊗ one (update k)
    ⊕ one (name k)
    ⊕ one (name k)
    ⊕ (name k) ⊗ one (label k)
    ⊕ one text
    ⊕ one (lease_resource k)
    ⊕ one (lease_resource k)
    ⊕ one (name k)
    ⊕ one number
    ⊕ tt

-- variant by variant, and in each field by field
pub returns : goal.returns
unfolding tests
returns c = told_by c.eq.ensures (by_decides (enum any) (tests any) c.args.self.now c.args.request.now)
