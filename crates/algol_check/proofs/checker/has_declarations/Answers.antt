use Rattle.std.proofs.Common.{◌∙◌, ap, length, sym}
use Rattle.std.specs.Prelude.{not}
use Rattle.algol_tree.specs.Plain.{PBody}
use Rattle.algol_tree.specs.Sites.{has_decls}
use Rattle.algol_tree.proofs.Images.{body_is}
use Rattle.algol_check.specs.Declaring.{decls_in}
use Rattle.algol_check.proofs.Arms.{listed_as}
use Rattle.algol_check.proofs.checker.has_declarations.Goals as goal

pub returns : goal.returns
returns c =
    ap not c.is_empty.ensures ∙ listed_as c.args.b.now.decls (length c.as_slice.result.now) (ap length (c.as_slice.ensures.value ∙ c.items.ensures))
    ∙ sym (ap (λ (b : PBody). has_decls (decls_in b)) (body_is c.args.b.now))
