-- The scopes of a program from its blocks and from the names that are found in it.
use Rattle.std.proofs.Common.{◌≡◌, List, ap, ◌∙◌}
use Rattle.std.specs.BTreeMap.{BTreeMap}
use Rattle.algol_tree.specs.declared.token.Spot.{Spot}
use Rattle.algol_tree.specs.declared.tree.Program.{Program}
use Rattle.algol_tree.specs.Ascending.{IsInOrder}
use Rattle.algol_tree.specs.Blocks.{Block, blocks_of_program}
use Rattle.algol_tree.specs.Image.{body, program}
use Rattle.algol_tree.specs.Scopes as scoping
use Rattle.algol_tree.specs.Scopes.{Scopes, scopes_of}
use Rattle.algol_tree.specs.Surroundings.{outermost}
use Rattle.algol_frames.specs.declared.scopes.Scopes as resolved
use Rattle.algol_scope.specs.Resolved.{AreOf, declaration_of}
use Rattle.algol_paths.specs.Arrays.{lows_at}
use Rattle.algol_lows.specs.declared.bounds.Lows.{Lows}
use Rattle.algol_lows.specs.Lows.{lows_found_under}
use Rattle.algol_names.specs.declared.found.Found.{Found}
use Rattle.algol_names.specs.Found.{in_body}
use Rattle.algol_names.specs.Kept.{kept, lows_listed}
use Rattle.algol_names.specs.Meant.{uses_told}
use Rattle.algol_names.proofs.Meant.{program_meant}
use Rattle.algol_names.proofs.Parts.{body_uses}

together : (blocks : List Block) (uses : List scoping.Use) (p : Program) → blocks ≡ blocks_of_program (program p) → uses ≡ body_uses (blocks_of_program (program p)) (body p.body) outermost →
    record { blocks = blocks; uses = uses } ≡ scopes_of (program p)
unfolding scopes_of
together blocks uses p b u =
    let by_uses : List scoping.Use → Scopes = λ z. record { blocks = blocks; uses = z } in
    let by_blocks : List Block → Scopes = λ z. record { blocks = z; uses = body_uses (blocks_of_program (program p)) (body p.body) outermost } in
    ap by_uses u ∙ ap by_blocks b

pub told_together : (p : Program) (s : resolved.Scopes) (lows : BTreeMap Spot Lows) (blocks : List Block) (names : List Found) (uses : List scoping.Use) → AreOf (program p) s →
    IsInOrder (program p) → ((spot : Spot) → lows_found_under lows spot ≡ lows_at (blocks_of_program (program p)) spot) → blocks ≡ blocks_of_program (program p) →
    names ≡ in_body (body p.body) 1 → uses ≡ uses_told (declaration_of s) (kept lows) blocks names → record { blocks = blocks; uses = uses } ≡ scopes_of (program p)
told_together p s lows blocks names uses are order bounds b n u =
    together blocks uses p b
    (u ∙ ap (λ z. uses_told (declaration_of s) (kept lows) z names) b ∙ ap (uses_told (declaration_of s) (kept lows) (blocks_of_program (program p))) n
    ∙ program_meant s (body p.body) (kept lows) (λ spot. ap lows_listed (bounds spot)) are order)
