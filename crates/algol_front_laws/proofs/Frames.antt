-- Each cell of a tree in order has a couple of its own.
use Rattle.std.proofs.Common.{◌≡◌, ◌⊎◌, inl, inr, ℕ, Bool, true, false, List, [], ◌∷◌, ◌++◌, filter, Some, refl, sym, ap, ◌∙◌}
use Rattle.std.specs.Prelude.{◌==◌, if◌then◌else◌, is_some}
use Rattle.std.specs.List.{AllByRecursion, flat_map}
use Rattle.algol_tree.specs.declared.token.Spot.{Spot}
use Rattle.algol_tree.specs.declared.tree.Named.{Named}
use Rattle.algol_tree.specs.declared.tree.Heading.{Heading}
use Rattle.algol_tree.specs.Plain as tree
use Rattle.algol_tree.specs.Plain.{PDecl, PDecls, PProgram}
use Rattle.algol_tree.specs.Blocks.{Block, blocks_of_program, number_at, same_spot}
use Rattle.algol_tree.specs.Surroundings.{Surroundings}
use Rattle.algol_tree.specs.Sites as site
use Rattle.algol_tree.specs.Sites.{Part, Site}
use Rattle.algol_tree.specs.Cells as cells
use Rattle.algol_tree.specs.Cells.{Cell, Content, Couple, cells_at, cells_for, cells_of_decl, cells_of_part, content_number, couple_in, first_spot, has_cell, result_cells}
use Rattle.algol_tree.specs.Couples.{actual_at, actual_cells, couple_of_cells, result_at}
use Rattle.algol_tree.specs.Accepted.{sites_of}
use Rattle.algol_tree.specs.Ascending.{IsInOrder}
use Rattle.algol_tree.proofs.Spots.{same_spot_is, same_spot_itself}
use Rattle.algol_front_laws.specs.Couples.{HasCouple, cells_in_tree, couple_of_cell}
use Rattle.algol_told.proofs.Lists.{IsIn, all_append, all_both, all_in, all_weaker, each_of, false_not_true, of_each, of_in}
use Rattle.algol_told.proofs.Spots.{AreApart, some_apart}
use Rattle.algol_told.proofs.Apart.{names_apart, spots_at}
use Rattle.algol_front_laws.proofs.CellSpots.{cell_spots, cells_apart}
use Rattle.algol_front_laws.proofs.Alone.{Picked, alone, is_other, is_result, others_of, results_of}
use Rattle.algol_front_laws.proofs.Couples.{couple_tells, coupled, in_filter}

module _ (blocks : List Block) (all : List Cell) where
  -- the declaration of a procedure stands outside its block
  abbrev pub IsOutside : Part → Surroundings → Type 0
  IsOutside (site.declaration (tree.procedure h s) later) a = a.block ≡ number_at blocks h.name.spot → ⊥
  IsOutside _ a = Unit {0}

  -- a result stands in its procedure's block, where the procedure's own cell stands, which is of another block
  pub record IsResult (c : Cell) : Type 0 where
    pub block : c.block ≡ number_at blocks c.spot
    pub procedure : Cell
    pub known : IsIn all procedure
    pub other : is_other procedure.content ≡ true
    pub same : procedure.spot ≡ c.spot
    pub outside : procedure.block ≡ c.block → ⊥

  abbrev pub IfResult : Cell → Type 0
  IfResult c = c.content ≡ cells.result → IsResult c

  none_result : (block : ℕ) (content : Content) → is_result content ≡ false → (ns : List Named) → AllByRecursion IfResult (cells_for block content ns)
  none_result block content e [] = tt
  none_result block content e (n ∷ ns) = (λ r. absurd (false_not_true (sym e ∙ ap is_result r)), none_result block content e ns)

  of_result : (h : Heading) (block : ℕ) → (block ≡ number_at blocks h.name.spot → ⊥) →
      IsIn all (record { block = block; spot = h.name.spot; content = cells.procedure }) → AllByRecursion IfResult (result_cells blocks h)
  of_result h block o i = decide (is_some h.kind)
    where
      decide : (b : Bool) → AllByRecursion IfResult (if b then cells_for (number_at blocks h.name.spot) cells.result (h.name ∷ []) else [])
      decide true = (
        λ r.
            record {
              block = refl;
              procedure = record { block = block; spot = h.name.spot; content = cells.procedure };
              known = i;
              other = refl;
              same = refl;
              outside = o;
            },
        tt,
      )
      decide false = tt

  of_procedure : (h : Heading) (block : ℕ) → (block ≡ number_at blocks h.name.spot → ⊥) →
      AllByRecursion (IsIn all) (cells_for block cells.procedure (h.name ∷ []) ++ result_cells blocks h ++ cells_for (number_at blocks h.name.spot) cells.parameter h.params) →
      AllByRecursion IfResult (cells_for block cells.procedure (h.name ∷ []) ++ result_cells blocks h ++ cells_for (number_at blocks h.name.spot) cells.parameter h.params)
  of_procedure h block o i =
      let its : List Cell = cells_for block cells.procedure (h.name ∷ []) in
      let params : List Cell = cells_for (number_at blocks h.name.spot) cells.parameter h.params in
      all_append IfResult (its ++ result_cells blocks h) params
      (all_append IfResult its (result_cells blocks h) (none_result block cells.procedure refl (h.name ∷ [])) (of_result h block o i.0))
      (none_result (number_at blocks h.name.spot) cells.parameter refl h.params)

  of_decl : (d : PDecl) (later : PDecls) (a : Surroundings) → IsOutside (site.declaration d later) a → AllByRecursion (IsIn all) (cells_of_decl blocks d a.block) →
      AllByRecursion IfResult (cells_of_decl blocks d a.block)
  of_decl (tree.simple kind ns) later a o i = none_result a.block cells.variable refl ns
  of_decl (tree.files ns) later a o i = tt
  of_decl (tree.events ns) later a o i = none_result a.block cells.made refl ns
  of_decl (tree.tasks ns) later a o i = none_result a.block cells.made refl ns
  of_decl (tree.labels ns) later a o i = tt
  of_decl (tree.arrays kind ns pairs) later a o i = none_result a.block cells.made refl ns
  of_decl (tree.forward h) later a o i = tt
  of_decl (tree.procedure h s) later a o i = of_procedure h a.block o i

  of_actual : (b : Bool) (block : ℕ) (spot : Spot) → AllByRecursion IfResult (if b then record { block = block; spot = spot; content = cells.actual } ∷ [] else [])
  of_actual true block spot = (λ r. absurd (false_not_true (ap is_result r)), tt)
  of_actual false block spot = tt

  of_part : (p : Part) (a : Surroundings) → IsOutside p a → AllByRecursion (IsIn all) (cells_of_part blocks p a) → AllByRecursion IfResult (cells_of_part blocks p a)
  of_part (site.name n) a o i = tt
  of_part (site.expression e) a o i = tt
  of_part (site.actual e f) a o i = of_actual (has_cell e f a) a.block (first_spot e)
  of_part (site.bound e) a o i = tt
  of_part (site.statement s listed) a o i = tt
  of_part (site.declaration d later) a o i = of_decl d later a o i

  pub results_are : (xs : List Site) → AllByRecursion (λ (x : Site). IsOutside x.part x.around) xs → AllByRecursion (IsIn all) (flat_map (cells_at blocks) xs) →
      AllByRecursion IfResult (flat_map (cells_at blocks) xs)
  results_are xs o i =
      of_each IfResult (cells_at blocks) xs
      (all_both (λ (x : Site). IsOutside x.part x.around) (λ (x : Site). AllByRecursion (IsIn all) (cells_at blocks x))
      (λ (x : Site). AllByRecursion IfResult (cells_at blocks x)) (λ x k j. of_part x.part x.around k j) xs o (each_of (IsIn all) (cells_at blocks) xs i))

-- ---- one cell of a block at a place

split : (k : Content) → (k ≡ cells.result) ⊎ (is_other k ≡ true)
split cells.parameter = inr refl
split cells.result = inl refl
split cells.variable = inr refl
split cells.procedure = inr refl
split cells.actual = inr refl
split cells.made = inr refl

module _ (blocks : List Block) (all : List Cell) (others : AreApart (Picked is_other all)) (results : AreApart (Picked is_result all))
    (are : AllByRecursion (IfResult blocks all) all)
  where
    -- a result and another cell stand not at one place of a block
    never : (c d : Cell) → IsIn all c → IsIn all d → c.block ≡ d.block → c.spot ≡ d.spot → c.content ≡ cells.result → is_other d.content ≡ true → ⊥
    never c d i j b s r o =
        let its = of_in (IfResult blocks all) all c are i r in
        let one : its.procedure ≡ d = alone is_other all its.procedure d others its.known j its.other o (its.same ∙ s) in
        its.outside (ap (λ (z : Cell). z.block) one ∙ sym b)

    pub lone : (c d : Cell) → IsIn all c → IsIn all d → c.block ≡ d.block → c.spot ≡ d.spot → c ≡ d
    lone c d i j b s = decide (split c.content) (split d.content)
      where
        decide : (c.content ≡ cells.result) ⊎ (is_other c.content ≡ true) → (d.content ≡ cells.result) ⊎ (is_other d.content ≡ true) → c ≡ d
        decide (inl r) (inl t) = alone is_result all c d results i j (ap is_result r) (ap is_result t) s
        decide (inl r) (inr o) = absurd (never c d i j b s r o)
        decide (inr o) (inl r) = absurd (never d c j i (sym b) (sym s) r o)
        decide (inr o) (inr q) = alone is_other all c d others i j o q s

-- ---- actuals

other_actual : (k : Content) → (content_number k == content_number cells.actual) ≡ true → is_other k ≡ true
other_actual cells.parameter h = refl
other_actual cells.result h = absurd (let clash : false ≡ true = h in cc)
other_actual cells.variable h = refl
other_actual cells.procedure h = refl
other_actual cells.actual h = refl
other_actual cells.made h = refl

kept : (P : Cell → Type 0) (test : Cell → Bool) (cs : List Cell) → AllByRecursion P cs → AllByRecursion (λ (c : Cell). P c × (test c ≡ true)) (filter test cs)
kept P test [] h = tt
kept P test (c ∷ cs) h = decide (test c) refl (kept P test cs h.1)
  where
    decide : (b : Bool) → test c ≡ b → AllByRecursion (λ (d : Cell). P d × (test d ≡ true)) (filter test cs) →
        AllByRecursion (λ (d : Cell). P d × (test d ≡ true)) (if b then c ∷ filter test cs else filter test cs)
    decide true e k = ((h.0, e), k)
    decide false e k = k

module _ (blocks : List Block) (ss : List Site) where
  first_actual : (cs : List Cell) (c : Cell) → IsIn cs c → AllByRecursion (λ (d : Cell). d.spot ≡ c.spot → d ≡ c) cs →
      couple_of_cells blocks ss cs c.spot ≡ couple_in blocks ss c.block c.spot
  first_actual [] c i h = absurd i
  first_actual (d ∷ cs) c i h = decide (same_spot d.spot c.spot) refl i (λ j. first_actual cs c j h.1)
    where
      decide : (b : Bool) → same_spot d.spot c.spot ≡ b → (d ≡ c) ⊎ IsIn cs c → (IsIn cs c → couple_of_cells blocks ss cs c.spot ≡ couple_in blocks ss c.block c.spot) →
          (if b then couple_in blocks ss d.block c.spot else couple_of_cells blocks ss cs c.spot) ≡ couple_in blocks ss c.block c.spot
      decide true e j on = ap (λ (z : Cell). couple_in blocks ss z.block c.spot) (h.0 (same_spot_is d.spot c.spot e))
      decide false e (inl q) on = absurd (false_not_true (sym e ∙ ap (λ (z : Cell). same_spot z.spot c.spot) q ∙ same_spot_itself c.spot))
      decide false e (inr j) on = on j

-- ---- the whole tree

module _ (p : PProgram) (order : IsInOrder p)
    (outside : AllByRecursion (λ (x : Site). IsOutside (blocks_of_program p) (cells_in_tree p) x.part x.around) (sites_of p))
  where
    others_apart : AreApart (Picked is_other (cells_in_tree p))
    others_apart =
        some_apart (Picked is_other (cells_in_tree p)) (flat_map cell_spots (sites_of p)) (others_of (blocks_of_program p) (sites_of p))
        (cells_apart p (blocks_of_program p) order)

    results_apart : AreApart (Picked is_result (cells_in_tree p))
    results_apart =
        some_apart (Picked is_result (cells_in_tree p)) (flat_map spots_at (sites_of p)) (results_of (blocks_of_program p) (sites_of p))
        (names_apart p (blocks_of_program p) order)

    if_results : AllByRecursion (IfResult (blocks_of_program p) (cells_in_tree p)) (cells_in_tree p)
    if_results = results_are (blocks_of_program p) (cells_in_tree p) (sites_of p) outside (all_in (cells_in_tree p))

    actual_there : (c : Cell) → IsIn (cells_in_tree p) c → c.content ≡ cells.actual → actual_at p c.spot ≡ couple_of_cell p c.block c.spot
    unfolding actual_at
    actual_there c i e =
        let is : (content_number c.content == content_number cells.actual) ≡ true = ap (λ (k : Content). content_number k == content_number cells.actual) e in
        first_actual (blocks_of_program p) (sites_of p) (actual_cells (blocks_of_program p) (sites_of p)) c
        (in_filter (λ (d : Cell). content_number d.content == content_number cells.actual) (cells_in_tree p) c is i)
        (all_weaker (λ (d : Cell). IsIn (cells_in_tree p) d × ((content_number d.content == content_number cells.actual) ≡ true)) (λ (d : Cell). d.spot ≡ c.spot → d ≡ c)
        (λ d k s. alone is_other (cells_in_tree p) d c others_apart k.0 i (other_actual d.content k.1) (other_actual c.content is) s)
        (actual_cells (blocks_of_program p) (sites_of p))
        (kept (IsIn (cells_in_tree p)) (λ (d : Cell). content_number d.content == content_number cells.actual) (cells_in_tree p) (all_in (cells_in_tree p))))

    result_there : (c : Cell) → IsIn (cells_in_tree p) c → c.content ≡ cells.result → result_at p c.spot ≡ couple_of_cell p c.block c.spot
    unfolding result_at
    result_there c i e =
        let its = of_in (IfResult (blocks_of_program p) (cells_in_tree p)) (cells_in_tree p) c if_results i e in ap (λ (n : ℕ). couple_of_cell p n c.spot) (sym its.block)

    has_couple : (c : Cell) → IsIn (cells_in_tree p) c → HasCouple p c
    has_couple c i =
        let q = coupled (blocks_of_program p) (sites_of p) c i in
        record {
          couple = q.0;
          is = q.1;
          only =
              all_weaker (IsIn (cells_in_tree p)) (λ (other : Cell). other.block ≡ c.block → couple_of_cell p other.block other.spot ≡ Some q.0 → other ≡ c)
              (λ other j b e.
              lone (blocks_of_program p) (cells_in_tree p) others_apart results_apart if_results other c j i b
              (couple_tells (blocks_of_program p) (sites_of p) c.block other.spot c.spot q.0 (ap (λ (n : ℕ). couple_of_cell p n other.spot) (sym b) ∙ e) q.1))
              (cells_in_tree p) (all_in (cells_in_tree p));
          actual = λ e. actual_there c i e ∙ q.1;
          result = λ e. result_there c i e ∙ q.1;
        }

    pub each_has_couple : AllByRecursion (HasCouple p) (cells_in_tree p)
    each_has_couple = all_weaker (IsIn (cells_in_tree p)) (HasCouple p) (λ c i. has_couple c i) (cells_in_tree p) (all_in (cells_in_tree p))
