-- The words of the cells of a block that is entered.
use Rattle.std.proofs.Common.{◌≡◌, refl, sym, ap, ◌∙◌, subst, ℕ, ◌+◌, List, [], ◌∷◌, ◌++◌, length, append_assoc, length-append}
use Rattle.b67_frames.proofs.Prelude.{replicate, Block, Scopes, Parameter, Cell, NamedCell, World, Word, Simple, zero_cells, simple_cells, AreTold, Layout, CellsAre}
use Rattle.algol_meaning.specs.Instances as instances
use Rattle.algol_meaning.specs.Instances.{fresh_cells}
use Rattle.b67_templates.specs.Cells as cells
use Rattle.b67_templates.specs.Nested.{AreParameters}
use Rattle.b67_frames.proofs.Formals.{LeadAll, lead_both, kinds_lead}
use Rattle.b67_frames.proofs.Zeros.{zero_word, block_zeros, block_kinds}

-- cells after others
cells_both : (ss : List Simple) (cells : List NamedCell) (ws : List Word) (ss' : List Simple) (cells' : List NamedCell) (ws' : List Word) → CellsAre ss cells ws → CellsAre ss' cells' ws' →
    CellsAre (ss ++ ss') (cells ++ cells') (ws ++ ws')
cells_both [] [] [] ss' cells' ws' a b = b
cells_both [] [] (w ∷ ws) ss' cells' ws' a b = absurd a
cells_both [] (c ∷ cells) ws ss' cells' ws' a b = absurd a
cells_both (s ∷ ss) [] ws ss' cells' ws' a b = absurd a
cells_both (s ∷ ss) (c ∷ cells) [] ss' cells' ws' a b = absurd a
cells_both (s ∷ ss) (c ∷ cells) (w ∷ ws) ss' cells' ws' a b = (a.0, a.1, cells_both ss cells ws ss' cells' ws' a.2 b)

-- those of the parameters, and after them those of 0
pub cells_joined : (sc : Scopes) (b : Block) → simple_cells sc b ≡ cells.parameter_cells sc b ++ zero_cells b
cells_joined sc b = append_assoc (cells.parameter_cells sc b) (cells.result_cells_of b.result b.name) (cells.variables b.decls)

-- after the cells of the parameters they are as many zeros as its code pushes
pub fresh_are : (sc : Scopes) (b : Block) (given : List Cell) (ws : List Word) → CellsAre (cells.parameter_cells sc b) (instances.parameter_cells b.parameters given) ws →
    CellsAre (simple_cells sc b) (fresh_cells b given) (ws ++ replicate (length (zero_cells b)) zero_word)
fresh_are sc b given ws are =
    let all : List Word = ws ++ replicate (length (zero_cells b)) zero_word in
    subst (λ (ss : List Simple). CellsAre ss (fresh_cells b given) all) (sym (cells_joined sc b))
    (subst (λ (cs : List NamedCell). CellsAre (cells.parameter_cells sc b ++ zero_cells b) cs all)
    (sym (append_assoc (instances.parameter_cells b.parameters given) (instances.result_cells b.result b.name) (instances.variable_cells b.decls)))
    (cells_both (cells.parameter_cells sc b) (instances.parameter_cells b.parameters given) ws (zero_cells b) _ (replicate (length (zero_cells b)) zero_word) are (block_zeros b)))

-- those of the parameters that are arrays lead to arrays
pub fresh_lead : (sc : Scopes) (w : World) (lay : Layout) (Stand : ℕ → Type 0) (b : Block) (given : List Cell) (ws : List Word) →
    LeadAll sc w lay Stand (cells.parameter_cells sc b) (instances.parameter_cells b.parameters given) ws →
    LeadAll sc w lay Stand (simple_cells sc b) (fresh_cells b given) (ws ++ replicate (length (zero_cells b)) zero_word)
fresh_lead sc w lay Stand b given ws lead =
    let all : List Word = ws ++ replicate (length (zero_cells b)) zero_word in
    subst (λ (ss : List Simple). LeadAll sc w lay Stand ss (fresh_cells b given) all) (sym (cells_joined sc b))
    (subst (λ (cs : List NamedCell). LeadAll sc w lay Stand (cells.parameter_cells sc b ++ zero_cells b) cs all)
    (sym (append_assoc (instances.parameter_cells b.parameters given) (instances.result_cells b.result b.name) (instances.variable_cells b.decls)))
    (lead_both sc w lay Stand (cells.parameter_cells sc b) (instances.parameter_cells b.parameters given) ws (zero_cells b) _ (replicate (length (zero_cells b)) zero_word) lead
    (kinds_lead sc w lay Stand (zero_cells b) _ (replicate (length (zero_cells b)) zero_word) (block_kinds b) (block_zeros b))))

-- a block that is no procedure has no cells of parameters
pub none_given : (sc : Scopes) (b : Block) → AreParameters sc b → b.parameters ≡ [] → cells.parameter_cells sc b ≡ []
none_given sc b parameters none = none_told (cells.parameter_cells sc b) (subst (λ (ps : List Parameter). AreTold ps (cells.parameter_cells sc b)) none parameters.told)
  where
    none_told : (ss : List Simple) → AreTold [] ss → ss ≡ []
    none_told [] told = refl
    none_told (s ∷ ss) told = absurd told

-- nothing is given to it
pub none_are : (sc : Scopes) (b : Block) → cells.parameter_cells sc b ≡ [] → b.parameters ≡ [] → CellsAre (cells.parameter_cells sc b) (instances.parameter_cells b.parameters []) []
none_are sc b no_cells none =
    subst (λ (ss : List Simple). CellsAre ss (instances.parameter_cells b.parameters []) []) (sym no_cells)
    (subst (λ (ps : List Parameter). CellsAre [] (instances.parameter_cells ps []) []) (sym none) tt)

pub none_lead : (sc : Scopes) (w : World) (lay : Layout) (Stand : ℕ → Type 0) (b : Block) → cells.parameter_cells sc b ≡ [] → b.parameters ≡ [] →
    LeadAll sc w lay Stand (cells.parameter_cells sc b) (instances.parameter_cells b.parameters []) []
none_lead sc w lay Stand b no_cells none =
    subst (λ (ss : List Simple). LeadAll sc w lay Stand ss (instances.parameter_cells b.parameters []) []) (sym no_cells)
    (subst (λ (ps : List Parameter). LeadAll sc w lay Stand [] (instances.parameter_cells ps []) []) (sym none) tt)

-- their number
pub simple_many : (sc : Scopes) (b : Block) → length (simple_cells sc b) ≡ length (cells.parameter_cells sc b) + length (zero_cells b)
simple_many sc b = ap length (cells_joined sc b) ∙ length-append (cells.parameter_cells sc b) (zero_cells b)
