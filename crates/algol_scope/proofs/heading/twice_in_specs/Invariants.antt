use Rattle.std.proofs.Common.{[], drop}
use Rattle.std.specs.List.{flat_map}
use Rattle.algol_tree.specs.declared.refusal.Code.TheVariants as codes
use Rattle.algol_tree.specs.Names.{names_of_spec, repeated}
use Rattle.algol_tree.specs.Accepted.{broken, noted_all}
use Rattle.algol_known.specs.Naming.{has_name, sort_named}
use Rattle.algol_scope.proofs.Headings.{Repeats}
use Rattle.algol_scope.proofs.heading.twice_in_specs.Given as goal

abbrev pub invariant-specs : goal.invariant-specs
invariant-specs l =
    Repeats (has_name l.names.typed l.names.declared l.names.parameters) (sort_named l.before) l.faults.first
    (noted_all l.fn.faults.first (broken codes.DeclaredTwice (repeated [] (flat_map names_of_spec l.h.specs))))
    (flat_map names_of_spec (drop l.spec-index l.spec-items))
