use Rattle.std.proofs.Common.{rules, ◌≡◌, ◌∙◌, false, refl, sym}
use Rattle.std.specs.BTreeSet.{contains}
use Rattle.std.specs.Ordering.{nat_cmp}
use Rattle.back_model.specs.Objects.{has_number}
use Rattle.back_model.proofs.Sets.{was_new, has_key, put_one}
use Rattle.back_model.proofs.mem_ingests.MemIngestsIngestBackend.make.Goals as goal

-- memory is asked for a new number alone
pub returns-in_default-clause-fault : goal.returns-in_default-clause-fault
returns-in_default-clause-fault c = (rw (← c.self.view_is) (sym (has_key c.args.number c.self.inside.numbers.keys) ∙ search rules), refl)

free : (c : goal.Else-not-is_new) → has_number c.args.number c.self.inside.numbers.keys ≡ false
free c = sym (has_key c.args.number c.self.inside.numbers.keys) ∙ was_new (contains nat_cmp c.self.inside.numbers c.args.number) c.in-Ok.is_new (search rules) c.if-not-is_new.false

-- the number is new
pub returns-clause-fault : goal.returns-clause-fault
returns-clause-fault c = (rw (← c.self.view_is) (free c), refl)

-- it goes to its place
pub returns-clause-ok : goal.returns-clause-ok
returns-clause-ok c = rw (← c.self.view_is) (search rules ∙ put_one c.args.number c.self.inside.numbers.keys (free c))
