use Rattle.std.proofs.Common.{◌≡◌, [], sym, ◌∙◌}
use Rattle.std.proofs.lemmas.Result.{on_ok_weaker}
use Rattle.meta_types.specs.Keys.{has_row, add_row}
use Rattle.meta_types.specs.Rows.{lease_key}
use Rattle.lease_book.proofs.leases.Leases.create.Goals as goal

-- no lease has the id
pub add-requires : goal.add-requires
add-requires c =
    let row_is : c.new.result ≡ record {
      ns = c.args.ns.now;
      id = c.args.id.now;
      labels = c.args.labels;
      extra = c.args.extra;
      resources = [];
    }
    = c.new.ensures ∙ (λ i. record {
      ns = c.in_ok-ns.ensures.ok i;
      id = c.in_ok-id.ensures.ok i;
      labels = c.args.labels;
      extra = c.args.extra;
      resources = [];
    }) in
    (λ i. has_row lease_key (lease_key (row_is i)) (c.self.view_is i)) ∙ (sym c.has.ensures ∙ c.if-has.false)

-- the new lease has copies of the texts
pub returns-clause-ok : goal.returns-clause-ok
returns-clause-ok c =
    let row_is : c.new.result ≡ record {
      ns = c.args.ns.now;
      id = c.args.id.now;
      labels = c.args.labels;
      extra = c.args.extra;
      resources = [];
    }
    = c.new.ensures ∙ (λ i. record {
      ns = c.in_ok-ns.ensures.ok i;
      id = c.in_ok-id.ensures.ok i;
      labels = c.args.labels;
      extra = c.args.extra;
      resources = [];
    }) in
    on_ok_weaker c.add.result (λ new. new ∙ (λ i. add_row lease_key (row_is i) (c.self.view_is i))) c.add.ensures.ok
