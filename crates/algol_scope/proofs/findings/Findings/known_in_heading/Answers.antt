use Rattle.std.proofs.Common.{◌∙◌, ap, drop}
use Rattle.std.specs.List.{flat_map}
use Rattle.std.proofs.lemmas.List.{drop_all}
use Rattle.algol_tree.specs.Couples.{known_in_heading}
use Rattle.algol_tree.specs.Names.{names_of_spec}
use Rattle.algol_scope.proofs.Names.{known_end, known_heading, known_spec}
use Rattle.algol_scope.proofs.findings.Findings.known_in_heading.Goals as goal

pub specs-init : goal.specs-init
specs-init c =
    λ a s.
    known_heading c.args.self.now c.known_all.new.self c.known_all-2.new.self c.args.h.now a c.as_slice.result.now c.as_slice-2.result.now
    c.deref-spec-items.result.now (c.as_slice.ensures.value ∙ c.items.ensures) (c.as_slice-2.ensures.value ∙ c.items-2.ensures)
    (c.deref-spec-items.ensures.value ∙ c.items-3.ensures) (c.in_ok-known_all.ensures.knows a s) (c.in_ok-known_all-2.ensures.knows a s)

pub specs-preserved : goal.specs-preserved
specs-preserved c =
    λ a s.
    known_spec c.args.self.now c.specs.self c.known_all-in-specs.new.self (known_in_heading c.args.h.now a) a c.deref-spec-items.result.now
    c.specs.spec-index c.spec-item.result c.as_slice-in-specs.result.now c.specs-test.true c.spec-item.is
    (c.as_slice-in-specs.ensures.value ∙ c.names_of.ensures) (c.in_ok-known_all-3.ensures.knows a s) (c.specs.invariant a s)

pub returns : goal.returns
returns c =
    record {
      knows =
          λ a s.
          known_end c.args.self.now c.specs.self (known_in_heading c.args.h.now a) a (flat_map names_of_spec (drop c.specs.spec-index c.deref-spec-items.result.now))
          (ap (flat_map names_of_spec) (drop_all c.specs.spec-index c.deref-spec-items.result.now c.specs-test.false)) (c.specs.invariant a s);
    }
