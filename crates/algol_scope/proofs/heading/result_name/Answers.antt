use Rattle.std.proofs.Common.{ap, sym, ◌∙◌, [], ◌∷◌, Option}
use Rattle.std.specs.Prelude.{is_some, if◌then◌else◌}
use Rattle.std.specs.Str.{bytes_eq}
use Rattle.algol_tree.specs.declared.tree.Kind.{Kind}
use Rattle.algol_tree.specs.Names.{name_is_one_of}
use Rattle.algol_scope.proofs.Headings.{typed_has}
use Rattle.algol_scope.proofs.heading.result_name.Goals as goal

pub returns-in-Some : goal.returns-in-Some
returns-in-Some c =
    λ q.
    ap (λ z. bytes_eq z q) c.bytes.ensures ∙ typed_has c.args.h.now.name.name q
    ∙ sym (ap (λ (k : Option Kind). name_is_one_of (if is_some k then c.args.h.now.name.name ∷ [] else []) q) c.in-Some.is)
