-- A block that keeps the rules: its text keeps to it where its bounds and its statements do.
use Rattle.std.proofs.Common.{arith, ◌≡◌, ℕ, ◌+◌, ◌<◌, ◌≤◌, not, List, [], ◌∷◌, ◌++◌, length, map, Some, None, sym, ap, ◌∙◌, subst, zero, suc, slice_get}
use Rattle.std.proofs.lemmas.List.{length-append}
use Rattle.std.proofs.lemmas.Option.{slice_get_within}
use Rattle.std.specs.List.{AllByRecursion}
use Rattle.algol_tree.specs.declared.TheConstants.{MOST_BLOCK_CELLS, MOST_LEVEL}
use Rattle.algol_tree.specs.declared.token.Spot.{Spot}
use Rattle.algol_tree.specs.declared.tree.Named.{Named}
use Rattle.algol_tree.specs.Blocks.{Block, block_numbered, number_at, around}
use Rattle.algol_tree.specs.Cells.{cells_of, level_of}
use Rattle.algol_tree.specs.Plain as tree
use Rattle.algol_tree.specs.Plain.{PStmts, PDecls}
use Rattle.algol_tree.specs.Scopes.{Scopes}
use Rattle.algol_tree.specs.Sites.{Site}
use Rattle.algol_tree.specs.Sorts.{same_name}
use Rattle.algol_tree.proofs.Trees.{block_is}
use Rattle.algol_meaning.specs.Statements.{items_of}
use Rattle.algol_paths.specs.Blocks.{BlockIsSeen, IsSeenAround, IsInner}
use Rattle.algol_paths.specs.Laws.{ItemsKeepToText}
use Rattle.algol_paths.specs.Texts.{InStmts}
use Rattle.b67_templates.specs.Cells.{simple_cells, result_cells_of, variables, procedures, actuals_in_decls, actuals_in_stmts, actuals_of, made_of}
use Rattle.b67_templates.specs.Names.{DeclsNamed}
use Rattle.b67_templates.specs.Nested.{IsDeclared, AreParameters, IsText}
use Rattle.b67_list.proofs.Lists.{each_back, each_front}
use Rattle.b67_fitting.proofs.BlockItems.{in_items}
use Rattle.b67_fitting.proofs.Bounds.{InBounds}
use Rattle.b67_fitting.proofs.Lists.{each_of}
use Rattle.b67_fitting.proofs.Numbering.{IsNumbered}
use Rattle.b67_fitting.proofs.Callees.{IsNamed, AreNamed, AreCallees}
use Rattle.b67_fitting.proofs.Surrounded.{IsGood, AreGood, IsKept, AreKept}
use Rattle.b67_fitting.proofs.CellsFew.{cells_both, simple_many, parameters_many}

-- the block of a BEGIN
abbrev pub the_block : Spot → List Spot → PDecls → PStmts → Block
the_block spot outer ds ss = record { spot = spot; outer = outer; name = []; parameters = []; result = None; decls = ds; stmts = ss }

-- the procedures that are declared have blocks in this one
declared_by : (sc : Scopes) (j : ℕ) (ds : PDecls) → AreCallees sc.blocks j ds → DeclsNamed ds → (i : ℕ) (declared : Named) → slice_get (procedures ds) i ≡ Some declared → IsDeclared sc j declared
declared_by sc j tree.no_decls c m i declared h = absurd (let clash : None ≡ Some declared = h in cc)
declared_by sc j (tree.decls (tree.procedure g t) ds) c m zero declared h =
    let same : g.name ≡ declared = cc in
    subst (IsDeclared sc j) same (record { known = c.0.some; around_is = c.0.around_is; procedure = ap (λ (name : List ℕ). not (same_name name [])) c.0.named ∙ ap not m.0.0 })
declared_by sc j (tree.decls (tree.procedure g t) ds) c m (suc i) declared h = declared_by sc j ds c.1 m.1 i declared h
declared_by sc j (tree.decls (tree.forward g) ds) c m i declared h = declared_by sc j ds c.1 m.1 i declared h
declared_by sc j (tree.decls d ds) c m i declared h = declared_by sc j ds c m.1 i declared h

-- `all`: all parts of the tree
module _ (sc : Scopes) (all : List Site) where
  -- The block has its number by its place and the cells of its parameters, is not too deep and has not too many cells, and its procedures
  -- have names.
  pub record IsFine (b : Block) : Type 0 where
    pub numbered : IsNumbered sc.blocks b
    pub headed : AreParameters sc b
    pub named : DeclsNamed b.decls
    pub low : level_of b ≤ MOST_LEVEL
    pub few : length (cells_of sc.blocks all (number_at sc.blocks b.spot)) ≤ MOST_BLOCK_CELLS

  abbrev pub AreFine : List Block → Type 0
  AreFine bs = AllByRecursion IsFine bs

  pub fine_numbered : (bs : List Block) → AreFine bs → AllByRecursion (IsNumbered sc.blocks) bs
  fine_numbered bs f = each_of IsFine (IsNumbered sc.blocks) bs (λ b h. h.numbered) f

  -- Parts of the tree that keep the rules, which have no more cells than all.
  pub record ArePart (xs : List Site) : Type 0 where
    pub good : AreGood sc xs
    pub kept : AreKept sc.blocks xs
    pub less : (k : ℕ) → length (cells_of sc.blocks xs k) ≤ length (cells_of sc.blocks all k)

  pub part_named : (xs : List Site) → ArePart xs → AreNamed xs
  part_named xs h = each_of (IsGood sc) IsNamed xs (λ x g. g.known) h.good

  pub front : (xs ys : List Site) → ArePart (xs ++ ys) → ArePart xs
  front xs ys h =
      record {
        good = each_front (IsGood sc) xs ys h.good;
        kept = each_front (IsKept sc.blocks) xs ys h.kept;
        less = λ k. omega (arith, h.less k, cells_both sc.blocks xs ys k);
      }

  pub back : (xs ys : List Site) → ArePart (xs ++ ys) → ArePart ys
  back xs ys h =
      record {
        good = each_back (IsGood sc) xs ys h.good;
        kept = each_back (IsKept sc.blocks) xs ys h.kept;
        less = λ k. omega (arith, h.less k, cells_both sc.blocks xs ys k);
      }

  pub rest : (x : Site) (xs : List Site) → ArePart (x ∷ xs) → ArePart xs
  rest x xs h = back (x ∷ []) xs h

  -- ---- a block

  abbrev pub IsTextOf : Block → Type 0
  IsTextOf b = IsText sc (number_at sc.blocks b.spot)

  abbrev pub AreTexts : List Block → Type 0
  AreTexts bs = AllByRecursion IsTextOf bs

  module _ (b : Block) (f : IsFine b) where
    abbrev k : ℕ
    k = number_at sc.blocks b.spot

    it_is : block_numbered sc.blocks k ≡ b
    it_is = block_is sc.blocks k b f.numbered

    pub is_there : k < length sc.blocks
    is_there = slice_get_within sc.blocks k b f.numbered

    pub outer_is : around sc.blocks k ≡ map (number_at sc.blocks) b.outer
    outer_is = ap (λ (z : Block). map (number_at sc.blocks) z.outer) it_is

    pub is_text : AreCallees sc.blocks k b.decls →
        length b.parameters + (length (result_cells_of b.result b.name) + (length (variables b.decls) + length (procedures b.decls) + length (made_of b.decls))) + length (actuals_in_decls sc b.decls)
        + length (actuals_in_stmts sc b.stmts)
        ≤ length (cells_of sc.blocks all k) →
        InBounds (IsSeenAround sc k) b.decls → InStmts (BlockIsSeen sc k) (IsInner sc k) b.stmts → IsTextOf b
    is_text c n s t =
        let few : length (simple_cells sc b) + length (procedures b.decls) + length (actuals_of sc b) + length (made_of b.decls) ≤ MOST_BLOCK_CELLS =
        omega (arith, simple_many sc b, parameters_many sc b f.headed, n, f.few, length-append (actuals_in_decls sc b.decls) (actuals_in_stmts sc b.stmts)) in
        record {
          items = subst (λ (z : Block). ItemsKeepToText sc k (items_of z)) (sym it_is) (in_items (BlockIsSeen sc k) (IsInner sc k) (IsSeenAround sc k) b s t);
          parameters = subst (AreParameters sc) (sym it_is) f.headed;
          few = subst (λ (z : Block). length (simple_cells sc z) + length (procedures z.decls) + length (actuals_of sc z) + length (made_of z.decls) ≤ MOST_BLOCK_CELLS) (sym it_is) few;
          low = subst (λ (z : Block). level_of z ≤ MOST_LEVEL) (sym it_is) f.low;
          procedure = λ i declared h. declared_by sc k b.decls c f.named i declared (subst (λ (z : Block). slice_get (procedures z.decls) i ≡ Some declared) it_is h);
        }

  -- the block of a BEGIN that is a statement
  pub is_inner : (spot : Spot) (outer : List Spot) (ds : PDecls) (ss : PStmts) → IsFine (the_block spot outer ds ss) →
      (j : ℕ) → map (number_at sc.blocks) outer ≡ j ∷ around sc.blocks j → IsInner sc j (tree.body spot ds ss)
  is_inner spot outer ds ss f j e =
      let its = the_block spot outer ds ss in
      let same = it_is its f in
      record {
        known = is_there its f;
        around_is = outer_is its f ∙ e;
        decls_are = ap (λ (z : Block). z.decls) same;
        stmts_are = ap (λ (z : Block). z.stmts) same;
        nameless = ap (λ (z : Block). z.name) same;
        parameters = ap (λ (z : Block). z.parameters) same;
        result = ap (λ (z : Block). z.result) same;
        low = subst (λ (z : Block). level_of z ≤ MOST_LEVEL) (sym same) f.low;
      }
