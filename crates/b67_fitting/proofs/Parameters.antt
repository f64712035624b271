-- The cells of the parameters of a heading: where the heading stands among the declarations of a block they are found by the place of its name.
use Rattle.std.proofs.Common.{◌≡◌, inl, Bool, List, [], ◌∷◌, ◌++◌, refl, ap, ◌∙◌, if◌then◌else◌}
use Rattle.std.specs.List.{AllByRecursion}
use Rattle.algol_tree.specs.declared.token.Spot.{Spot}
use Rattle.algol_tree.specs.declared.tree.Heading.{Heading}
use Rattle.algol_tree.specs.Ascending.{spots_of_decl, spots_of_decls}
use Rattle.algol_tree.specs.Blocks.{Block, block_numbered, number_at}
use Rattle.algol_tree.specs.Plain as tree
use Rattle.algol_tree.specs.Plain.{PStmt, PDecl, PDecls}
use Rattle.algol_tree.proofs.Spots.{same_spot_itself}
use Rattle.b67_templates.specs.Cells.{parameters_in, parameters_declared, parameters_around}
use Rattle.b67_list.proofs.Lists.{each_back}
use Rattle.b67_fitting.proofs.Apart.{IsIn, in_each, in_back, IsApart, Apart, apart_from}

-- ---- where the heading is found

-- no heading stands there
pub none_declared : (ds : PDecls) (s : Spot) → AllByRecursion (λ z. IsApart z s) (spots_of_decls ds) → parameters_declared ds s ≡ []
none_declared tree.no_decls s h = refl
none_declared (tree.decls (tree.procedure g t) ds) s h =
    ap (λ (b : Bool). if b then parameters_in g else parameters_declared ds s) h.0 ∙ none_declared ds s (each_back (λ z. IsApart z s) (spots_of_decl (tree.procedure g t)) (spots_of_decls ds) h)
none_declared (tree.decls d ds) s h = none_declared ds s (each_back (λ z. IsApart z s) (spots_of_decl d) (spots_of_decls ds) h)

abbrev pub IsOutside : PDecls → Spot → Type 0
IsOutside ds s = parameters_declared ds s ≡ []

pub outside : (ds : PDecls) (spots : List Spot) → Apart (spots_of_decls ds ++ spots) → AllByRecursion (IsOutside ds) spots
outside ds spots p = in_each (IsOutside ds) spots (λ s i. none_declared ds s (apart_from (spots_of_decls ds) spots s p i))

-- what these declare, of which those are the last, is found among those
abbrev pub AreLast : PDecls → PDecls → Type 0
AreLast all ds = (s : Spot) → IsIn s (spots_of_decls ds) → parameters_declared all s ≡ parameters_declared ds s

pub last_step : (all : PDecls) (d : PDecl) (ds : PDecls) → Apart (spots_of_decl d ++ spots_of_decls ds) → AreLast all (tree.decls d ds) → AreLast all ds
last_step all (tree.procedure g t) ds p l =
    λ s i. l s (in_back s (spots_of_decl (tree.procedure g t)) (spots_of_decls ds) i)
    ∙ ap (λ (b : Bool). if b then parameters_in g else parameters_declared ds s) ((apart_from (spots_of_decl (tree.procedure g t)) (spots_of_decls ds) s p i).0)
last_step all d ds p l = λ s i. l s (in_back s (spots_of_decl d) (spots_of_decls ds) i)

pub found_last : (all : PDecls) (g : Heading) (ds : PDecls) (t : PStmt) → AreLast all (tree.decls (tree.procedure g t) ds) → parameters_declared all g.name.spot ≡ parameters_in g
found_last all g ds t l = l g.name.spot (inl refl) ∙ ap (λ (b : Bool). if b then parameters_in g else parameters_declared ds g.name.spot) (same_spot_itself g.name.spot)

pub around_is : (blocks : List Block) (c : Block) (s : Spot) → block_numbered blocks (number_at blocks c.spot) ≡ c → parameters_around blocks (c.spot ∷ c.outer) s ≡ parameters_declared c.decls s
around_is blocks c s e = ap (λ (z : Block). parameters_declared z.decls s) e
