-- The cells of a program are in blocks that there are, and its declarations are as deep as their blocks, so within the limits.
use Rattle.std.proofs.Common.{◌≡◌, ℕ, ◌+◌, ◌≤◌, Bool, true, false, List, [], ◌∷◌, ◌++◌, map, filter, length, Option, Some, None, refl, ap, sym, ◌∙◌, subst, arith, slice_get, zero, suc}
use Rattle.std.specs.Prelude.{◌==◌, if◌then◌else◌, is_some, nat_lt}
use Rattle.std.specs.List.{flat_map}
use Rattle.algol_tree.specs.declared.token.Spot.{Spot}
use Rattle.algol_tree.specs.declared.TheConstants.{MOST_BLOCK_CELLS}
use Rattle.algol_tree.specs.declared.tree.Named.{Named}
use Rattle.algol_tree.specs.declared.tree.Heading.{Heading}
use Rattle.algol_tree.specs.Plain as tree
use Rattle.algol_tree.specs.Plain.{PDecl, PDecls}
use Rattle.algol_tree.specs.Sorts.{Declared, look_up, same_name}
use Rattle.algol_tree.specs.Blocks.{Block, block_numbered, number_at}
use Rattle.algol_tree.specs.Surroundings.{Surroundings, inside_procedure, knowing}
use Rattle.algol_tree.specs.Sites as site
use Rattle.algol_tree.specs.Sites.{Part, Site}
use Rattle.algol_tree.specs.Scopes.{names_in}
use Rattle.algol_tree.specs.Cells as cells
use Rattle.algol_tree.specs.Cells.{Cell, Content, cells_at, cells_for, cells_of, cells_of_decl, cells_of_part, first_spot, has_cell, level_at, level_of, result_cells}
use Rattle.algol_tree.specs.Couples.{Known, known_at, known_by, known_in_decl, known_in_heading, known_in_part, known_names, level_if}
use Rattle.algol_tree.specs.Names.{cells_beyond, deep_blocks, if_so, is_too_deep, place_beyond, specified}
use Rattle.algol_tree.proofs.Spots.{not_found, not_so}
use Rattle.b67_list.proofs.Lists.{append_none_left, append_none_right, no_longer}
use Rattle.algol_scope.specs.Stating.{AreNumbered}
use Rattle.algol_scope.proofs.Placed.{AllAt, Each, HasBlock, IsAt, Stands, enters, knows}

module _ (blocks : List Block) where
  -- ---- cells

  abbrev IsCellOf : Cell → Type 0
  IsCellOf c = (depth : ℕ) × IsAt blocks c.block depth

  abbrev AreCellsOf : List Cell → Type 0
  AreCellsOf [] = Unit {0}
  AreCellsOf (c ∷ cs) = IsCellOf c × AreCellsOf cs

  cells_append : (cs ds : List Cell) → AreCellsOf cs → AreCellsOf ds → AreCellsOf (cs ++ ds)
  cells_append [] ds h k = k
  cells_append (c ∷ cs) ds h k = (h.0, cells_append cs ds h.1 k)

  for_names : (block depth : ℕ) (content : Content) (ns : List Named) → IsAt blocks block depth → AreCellsOf (cells_for block content ns)
  for_names block depth content [] h = tt
  for_names block depth content (n ∷ ns) h = ((depth, h), for_names block depth content ns h)

  for_result : (block depth : ℕ) (h : Heading) (typed : Bool) → IsAt blocks block depth →
      AreCellsOf (if typed then cells_for block cells.result (h.name ∷ []) else [])
  for_result block depth h true at = ((depth, at), tt)
  for_result block depth h false at = tt

  of_decl : (d : PDecl) (later : PDecls) (a : Surroundings) → Stands blocks a → HasBlock blocks (site.declaration d later) a →
      AreCellsOf (cells_of_decl blocks d a.block)
  of_decl (tree.simple kind ns) later a s b = for_names a.block a.depth cells.variable ns s.here
  of_decl (tree.files ns) later a s b = tt
  of_decl (tree.events ns) later a s b = for_names a.block a.depth cells.made ns s.here
  of_decl (tree.tasks ns) later a s b = for_names a.block a.depth cells.made ns s.here
  of_decl (tree.labels ns) later a s b = tt
  of_decl (tree.arrays kind ns pairs) later a s b = for_names a.block a.depth cells.made ns s.here
  of_decl (tree.forward h) later a s b = tt
  of_decl (tree.procedure h t) later a s b =
      let number : ℕ = number_at blocks h.name.spot in
      let its : List Cell = cells_for a.block cells.procedure (h.name ∷ []) in
      cells_append (its ++ result_cells blocks h) (cells_for number cells.parameter h.params)
      (cells_append its (result_cells blocks h) (for_names a.block a.depth cells.procedure (h.name ∷ []) s.here)
      (for_result number (a.depth + 1) h (is_some h.kind) b))
      (for_names number (a.depth + 1) cells.parameter h.params b)

  of_actual : (block depth : ℕ) (spot : Spot) (has : Bool) → IsAt blocks block depth →
      AreCellsOf (if has then record { block = block; spot = spot; content = cells.actual } ∷ [] else [])
  of_actual block depth spot true at = ((depth, at), tt)
  of_actual block depth spot false at = tt

  of_part : (p : Part) (a : Surroundings) → Stands blocks a → HasBlock blocks p a → AreCellsOf (cells_of_part blocks p a)
  of_part (site.name n) a s b = tt
  of_part (site.expression e) a s b = tt
  of_part (site.actual e f) a s b = of_actual a.block a.depth (first_spot e) (has_cell e f a) s.here
  of_part (site.bound e) a s b = tt
  of_part (site.statement t listed) a s b = tt
  of_part (site.declaration d later) a s b = of_decl d later a s b

  of_all : (xs : List Site) → Each blocks xs → AreCellsOf (flat_map (cells_at blocks) xs)
  of_all [] h = tt
  of_all (x ∷ xs) h =
      cells_append (cells_at blocks x) (flat_map (cells_at blocks) xs) (of_part x.part x.around h.0.stands h.0.block) (of_all xs h.1)

  is_none : (q : ℕ) (c : Cell) → slice_get blocks q ≡ None → IsCellOf c → (c.block == q) ≡ false
  is_none q c n h = decide (c.block == q) refl
    where
      decide : (b : Bool) → (c.block == q) ≡ b → b ≡ false
      decide false e = refl
      decide true e =
          let same : c.block ≡ q = grind arith in
          absurd (let clash : None ≡ Some (level_at h.0) = sym (ap (λ z. level_if z) (ap (slice_get blocks) same ∙ n)) ∙ h.1 in cc)

  none_among : (q : ℕ) (cs : List Cell) → slice_get blocks q ≡ None → AreCellsOf cs → filter (λ (c : Cell). c.block == q) cs ≡ []
  none_among q [] n h = refl
  none_among q (c ∷ cs) n h =
      ap (λ (b : Bool). if b then c ∷ filter (λ (d : Cell). d.block == q) cs else filter (λ (d : Cell). d.block == q) cs) (is_none q c n h.0)
      ∙ none_among q cs n h.1

  pub no_cells : (ss : List Site) (q : ℕ) → Each blocks ss → slice_get blocks q ≡ None → cells_of blocks ss q ≡ []
  no_cells ss q h n = none_among q (flat_map (cells_at blocks) ss) n (of_all ss h)

  -- ---- names

  abbrev pub AreKnownAt : List Known → Type 0
  AreKnownAt [] = Unit {0}
  AreKnownAt (k ∷ ks) = IsAt blocks k.declared.block k.declared.depth × AreKnownAt ks

  known_append : (ks ls : List Known) → AreKnownAt ks → AreKnownAt ls → AreKnownAt (ks ++ ls)
  known_append [] ls h k = k
  known_append (x ∷ ks) ls h k = (h.0, known_append ks ls h.1 k)

  looked_up : (spot : Spot) (name : List ℕ) (ds : List Declared) → AllAt blocks ds → AreKnownAt (known_by spot (look_up ds name))
  looked_up spot name [] h = tt
  looked_up spot name (d ∷ ds) h = decide (same_name d.name name) (looked_up spot name ds h.1)
    where
      decide : (b : Bool) → AreKnownAt (known_by spot (look_up ds name)) → AreKnownAt (known_by spot (if b then Some d else look_up ds name))
      decide true k = (h.0, tt)
      decide false k = k

  names_at : (a : Surroundings) → Stands blocks a → (ns : List Named) → AreKnownAt (known_names a ns)
  names_at a s [] = tt
  names_at a s (n ∷ ns) = known_append (known_by n.spot (look_up a.known n.name)) (known_names a ns) (looked_up n.spot n.name a.known s.known) (names_at a s ns)

  heading_at : (h : Heading) (a : Surroundings) → Stands blocks a → AreKnownAt (known_in_heading h a)
  heading_at h a s =
      known_append (known_names a h.params ++ known_names a h.values) (known_names a (specified h))
      (known_append (known_names a h.params) (known_names a h.values) (names_at a s h.params) (names_at a s h.values)) (names_at a s (specified h))

  -- the place is after the declaration
  decl_at : (d : PDecl) (later : PDecls) (a : Surroundings) → Stands blocks a → HasBlock blocks (site.declaration d later) a →
      AreKnownAt (known_in_decl blocks d a)
  decl_at (tree.simple kind ns) later a s b = names_at a s ns
  decl_at (tree.files ns) later a s b = names_at a s ns
  decl_at (tree.events ns) later a s b = names_at a s ns
  decl_at (tree.tasks ns) later a s b = names_at a s ns
  decl_at (tree.labels ns) later a s b = names_at a s ns
  decl_at (tree.arrays kind ns pairs) later a s b = names_at a s ns
  decl_at (tree.forward h) later a s b = names_at a s (h.name ∷ [])
  decl_at (tree.procedure h t) later a s b =
      known_append (known_names a (h.name ∷ [])) (known_in_heading h (inside_procedure blocks h a)) (names_at a s (h.name ∷ []))
      (heading_at h (inside_procedure blocks h a) (enters blocks h a s b))

  behind : (d : PDecl) (later : PDecls) (a : Surroundings) → HasBlock blocks (site.declaration d later) a →
      HasBlock blocks (site.declaration d later) (knowing blocks d later a)
  behind (tree.simple kind ns) later a b = tt
  behind (tree.files ns) later a b = tt
  behind (tree.events ns) later a b = tt
  behind (tree.tasks ns) later a b = tt
  behind (tree.labels ns) later a b = tt
  behind (tree.arrays kind ns pairs) later a b = tt
  behind (tree.forward h) later a b = tt
  behind (tree.procedure h t) later a b = b

  part_at : (p : Part) (a : Surroundings) → Stands blocks a → HasBlock blocks p a → AreKnownAt (known_in_part blocks p a)
  part_at (site.name n) a s b = names_at a s (names_in (site.name n))
  part_at (site.expression e) a s b = names_at a s (names_in (site.expression e))
  part_at (site.actual e f) a s b = tt
  part_at (site.bound e) a s b = tt
  part_at (site.statement t listed) a s b = names_at a s (names_in (site.statement t listed))
  part_at (site.declaration d later) a s b = decl_at d later (knowing blocks d later a) (knows blocks d later a s) (behind d later a b)

  pub each_known_at : (xs : List Site) → Each blocks xs → AreKnownAt (flat_map (known_at blocks) xs)
  each_known_at [] h = tt
  each_known_at (x ∷ xs) h =
      known_append (known_at blocks x) (flat_map (known_at blocks) xs) (part_at x.part x.around h.0.stands h.0.block) (each_known_at xs h.1)

-- ---- limits

-- there is none in any block
none_at : (f : Block → List Spot) (bs : List Block) (q : ℕ) (b : Block) → flat_map f bs ≡ [] → slice_get bs q ≡ Some b → f b ≡ []
none_at f [] q b h e = absurd (let clash : None ≡ Some b = e in cc)
none_at f (c ∷ bs) zero b h e = (let same : c ≡ b = cc in ap f (sym same)) ∙ append_none_left (f c) (flat_map f bs) h
none_at f (c ∷ bs) (suc q) b h e = none_at f bs q b (append_none_right (f c) (flat_map f bs) h) e

pub not_deep : (blocks : List Block) (q : ℕ) (b : Block) → deep_blocks blocks ≡ [] → slice_get blocks q ≡ Some b → level_of b ≤ 31
not_deep blocks q b h e =
    let n : nat_lt 31 (level_of b) ≡ false = not_so (is_too_deep (level_of b)) b.spot (none_at (λ (c : Block). if_so (is_too_deep (level_of c)) c.spot) blocks q b h e) in
    grind arith

pub not_deep_at : (blocks : List Block) (number depth : ℕ) → deep_blocks blocks ≡ [] → IsAt blocks number depth → level_at depth ≤ 31
not_deep_at blocks number depth h at = decide (slice_get blocks number) refl at
  where
    decide : (o : Option Block) → slice_get blocks number ≡ o → level_if o ≡ Some (level_at depth) → level_at depth ≤ 31
    decide None e k = absurd (let clash : None ≡ Some (level_at depth) = k in cc)
    decide (Some b) e k =
        let low : level_of b ≤ 31 = not_deep blocks number b h e in
        let same : level_of b ≡ level_at depth = cc in
        omega (arith, low, same)

-- the block with that number
pub at_number : (blocks bs : List Block) (n k : ℕ) (b : Block) → AreNumbered blocks n bs → slice_get bs k ≡ Some b →
    (number_at blocks b.spot ≡ n + k) × (block_numbered blocks (n + k) ≡ b)
at_number blocks [] n k b h e = absurd (let clash : None ≡ Some b = e in cc)
at_number blocks (c ∷ bs) n zero b h e =
    let same : c ≡ b = cc in
    let none : n ≡ n + 0 = omega arith in
    (ap (λ (z : Block). number_at blocks z.spot) (sym same) ∙ h.0 ∙ none, ap (block_numbered blocks) (sym none) ∙ h.1.0 ∙ same)
at_number blocks (c ∷ bs) n (suc k) b h e =
    let rest = at_number blocks bs (n + 1) k b h.1.1 e in
    let next : (n + 1) + k ≡ n + suc k = omega arith in
    (rest.0 ∙ next, ap (block_numbered blocks) (sym next) ∙ rest.1)

none_there : (most : ℕ) (spots : List Spot) → place_beyond most spots ≡ [] → length spots ≤ most
none_there most spots h = no_longer spots most (not_found (slice_get spots most) h)

as_many : (cs : List Cell) → length (map (λ (c : Cell). c.spot) cs) ≡ length cs
as_many [] = refl
as_many (c ∷ cs) = ap (λ n. suc n) (as_many cs)

pub few_cells : (blocks : List Block) (ss : List Site) (q : ℕ) (b : Block) → AreNumbered blocks 0 blocks → cells_beyond blocks ss ≡ [] → slice_get blocks q ≡ Some b →
    length (cells_of blocks ss q) ≤ MOST_BLOCK_CELLS
few_cells blocks ss q b n h e =
    let number : number_at blocks b.spot ≡ q = (let z : 0 + q ≡ q = omega arith in (at_number blocks blocks 0 q b n e).0 ∙ z) in
    let few =
    none_there MOST_BLOCK_CELLS (map (λ (c : Cell). c.spot) (cells_of blocks ss (number_at blocks b.spot)))
    (none_at (λ (x : Block). place_beyond MOST_BLOCK_CELLS (map (λ (c : Cell). c.spot) (cells_of blocks ss (number_at blocks x.spot)))) blocks q b h e) in
    let P : ℕ → Type 0 = λ z. length (cells_of blocks ss z) ≤ MOST_BLOCK_CELLS in
    subst P number (omega (arith, few, as_many (cells_of blocks ss (number_at blocks b.spot))))
