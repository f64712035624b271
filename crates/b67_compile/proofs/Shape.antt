-- The texts of an accepted program of one process: how many they are, and that their blocks' levels and their labels are few.
use Rattle.std.proofs.Common.{arith, ◌+◌, ◌≤◌, List, length, filter, ap, subst}
use Rattle.std.specs.List.{AllByRecursion}
use Rattle.std.proofs.lemmas.Option.{slice_get_within}
use Rattle.algol_tree.specs.declared.TheConstants.{MOST_PROCEDURES}
use Rattle.algol_tree.specs.declared.token.Spot.{Spot}
use Rattle.algol_tree.specs.declared.tree.Body.{Body}
use Rattle.algol_tree.specs.Accepted.{Accepted}
use Rattle.algol_tree.specs.Ascending.{IsInOrder}
use Rattle.algol_tree.specs.Blocks.{Block, blocks_of_program}
use Rattle.algol_tree.specs.Cells.{level_of}
use Rattle.algol_tree.specs.Image as plain
use Rattle.algol_tree.specs.Plain as tree
use Rattle.algol_tree.specs.Plain.{PDecls, PStmts, PBody, PProgram}
use Rattle.algol_tree.specs.Scopes.{scopes_of}
use Rattle.algol_tree.proofs.Images.{body_is}
use Rattle.algol_tree.proofs.Trees.{block_is}
use Rattle.algol_paths.specs.Segments.{is_procedure}
use Rattle.b67_ops.specs.declared.TheConstants.{MOST_LEVEL, OUTER_LEVEL}
use Rattle.b67_emit_text.specs.Targets.{AreSmall}
use Rattle.b67_emit_text.specs.Texts.{Text, texts, HaveLevelsBody}
use Rattle.b67_templates.specs.Names.{HasNames}
use Rattle.b67_templates.specs.Nested.{LiesNested}
use Rattle.b67_fitting.proofs.Nesting.{programs_lie_nested}
use Rattle.b67_list.proofs.Lists.{each_at, whole_list}
use Rattle.b67_compile.proofs.Places.{text_block, texts_many}
use Rattle.b67_compile.proofs.SmallTexts.{IsLow, IsSlight, program_levels, texts_slight}
use Rattle.b67_fitting.proofs.ActualsCelled.{each_by}

-- what holds of a program by its tree only
pub record IsPlain (p : PProgram) : Type 0 where
  pub accepted : Accepted p
  pub order : IsInOrder p
  pub named : HasNames p

-- the same of the parts of the program's body
pub parts_of : (b : Body) → Accepted (tree.program (plain.body b)) → IsInOrder (tree.program (plain.body b)) → HasNames (tree.program (plain.body b)) →
    IsPlain (tree.program (tree.body b.spot (plain.decls b.decls) (plain.stmts b.stmts)))
parts_of b accepted order named =
    subst (λ (z : PBody). IsPlain (tree.program z)) (body_is b) (record { accepted = accepted; order = order; named = named })

module _ (spot : Spot) (ds : PDecls) (ss : PStmts) (is : IsPlain (tree.program (tree.body spot ds ss))) where
  abbrev p : PProgram
  p = tree.program (tree.body spot ds ss)

  lies : LiesNested p
  lies = programs_lie_nested p is.accepted is.order is.named

  pub texts_few : length (texts (tree.body spot ds ss)) ≤ 1 + MOST_PROCEDURES
  unfolding scopes_of
  texts_few =
      let bs = blocks_of_program p in
      omega (arith, texts_many spot ds ss is.order is.named, lies.nested.procedures_few (length bs), ap (λ (z : List Block). length (filter is_procedure z)) (whole_list bs))

  all_low : AllByRecursion IsLow (blocks_of_program p)
  unfolding scopes_of
  all_low =
      let bs = blocks_of_program p in
      each_by IsLow bs (λ i b h. subst (λ (z : Block). level_of z ≤ MOST_LEVEL) (block_is bs i b h) (lies.nested.each i (slice_get_within bs i b h)).low)

  pub texts_leveled : HaveLevelsBody (tree.body spot ds ss) OUTER_LEVEL
  unfolding blocks_of_program
  texts_leveled = program_levels spot ds ss all_low.1

  pub texts_small : AreSmall (texts (tree.body spot ds ss))
  texts_small number t h =
      let ts = texts (tree.body spot ds ss) in
      let slight : IsSlight t = each_at IsSlight ts number t (texts_slight spot ds ss texts_leveled) h in
      let r = text_block spot ds ss is.order is.named number t h in
      (slight.0, omega (arith, slight.1, ap (λ (z : Text). z.tokens) r.is, r.of.short, lies.short number))
