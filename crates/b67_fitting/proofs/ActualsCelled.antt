-- Each actual of a block that has a cell has the couple of it: after the simple cells and the procedures, in the order of the text.
use Rattle.std.proofs.Common.{arith, ◌≡◌, inl, inr, ℕ, ◌+◌, ◌≤◌, ◌==◌, Bool, true, false, cond, List, [], ◌∷◌, ◌++◌, map, filter, length, slice_get, Option, Some, None, zero, suc, refl, sym, ap, ◌∙◌, subst, if◌then◌else◌}
use Rattle.std.proofs.lemmas.List.{length-map}
use Rattle.std.specs.List.{flat_map, AllByRecursion}
use Rattle.algol_tree.specs.declared.token.Spot.{Spot}
use Rattle.algol_tree.specs.declared.tree.Heading.{Heading}
use Rattle.algol_tree.specs.declared.tree.Kind.{Kind}
use Rattle.algol_tree.specs.declared.tree.Named.{Named}
use Rattle.algol_tree.specs.Ascending.{spots_of_names}
use Rattle.algol_tree.specs.Blocks.{Block, same_spot, block_numbered, number_at, procedure_block}
use Rattle.algol_tree.specs.Cells as cells
use Rattle.algol_tree.specs.Cells.{Cell, content_number, cells_for, cells_at, cells_of, holding, index_from, level_of, couple_in}
use Rattle.algol_tree.specs.Couples.{couple_of_cells, actual_cells}
use Rattle.algol_tree.specs.Plain as tree
use Rattle.algol_tree.specs.Plain.{PDecls}
use Rattle.algol_tree.specs.Scopes.{Scopes}
use Rattle.algol_tree.specs.Sites.{Site, sites_in_decls, sites_in_stmts}
use Rattle.algol_tree.proofs.Spots.{same_spot_is, same_spot_itself}
use Rattle.b67_templates.specs.Cells.{Simple, procedures, Actual, actuals_of, actuals_in_decls, actuals_in_stmts, actual_base}
use Rattle.b67_templates.specs.Fitting.{Told}
use Rattle.b67_list.proofs.Lists.{each_back, each_both, each_front}
use Rattle.b67_fitting.proofs.ActualCells.{actual_cell, cells_in_bounds, cells_in_stmts}
use Rattle.b67_fitting.proofs.ActualsFound.{SiteTells, cells_for as cells_of_actuals, joined, acts_stmts, acts_decls}
use Rattle.b67_fitting.proofs.Among.{Among, nothing, skip, keep, apart_among}
use Rattle.b67_fitting.proofs.Apart.{IsIn, each_in, in_each, in_map, in_front, in_back, IsApart, Apart, apart_sym}
use Rattle.b67_fitting.proofs.Blocked.{block_spots, numbered, HasCells}
use Rattle.b67_fitting.proofs.Coupled.{IsProgram, AreTold, scopes, acts_of, act_far, frame_of, simples_of, coupled, holds, of_actual}
use Rattle.b67_fitting.proofs.CoupledArrays.{HaveActs}
use Rattle.b67_fitting.proofs.Frames.{named_of, result_cell, front_cells, variable_cells, control_cell, control_cells, decl_cells, cells_of_block}
use Rattle.b67_fitting.proofs.Framing.{variable_cell, in_filter, simple_is}
use Rattle.b67_fitting.proofs.FramingArrays.{actual_index}
use Rattle.b67_fitting.proofs.Known.{given_places, variable_spots, headings}
use Rattle.b67_fitting.proofs.Listed.{has_own_place}
use Rattle.b67_fitting.proofs.LowsFound.{placed, act_placed, acts_past}
use Rattle.b67_fitting.proofs.Made.{one_there, in_kept}
use Rattle.b67_fitting.proofs.Placed.{IsCelled, AreCelled, Actuals}

-- ---- lists

-- what stands at a number in a list is in it
got_in : {X : Type 0} (xs : List X) (k : ℕ) (x : X) → slice_get xs k ≡ Some x → IsIn x xs
got_in [] k x e = absurd (let clash : None ≡ Some x = e in cc)
got_in (y ∷ xs) zero x e = inl (let same : x ≡ y = cc in same)
got_in (y ∷ xs) (suc k) x e = inr (got_in xs k x e)

pub got_map : {X Y : Type 0} (f : X → Y) (xs : List X) (k : ℕ) (x : X) → slice_get xs k ≡ Some x → slice_get (map f xs) k ≡ Some (f x)
got_map f [] k x e = absurd (let clash : None ≡ Some x = e in cc)
got_map f (y ∷ xs) zero x e = ap Some (let same : y ≡ x = cc in ap f same)
got_map f (y ∷ xs) (suc k) x e = got_map f xs k x e

-- what holds of each at its number
pub each_by : {X : Type 0} (P : X → Type 0) (xs : List X) → ((k : ℕ) (x : X) → slice_get xs k ≡ Some x → P x) → AllByRecursion P xs
each_by P [] f = tt
each_by P (x ∷ xs) f = (f 0 x refl, each_by P xs (λ k y e. f (suc k) y e))

-- ---- cells that stand apart

abbrev spots_of : List Cell → List Spot
spots_of cs = map (λ (c : Cell). c.spot) cs

-- what passes two tests is among what passes a third that the one of them implies
twice_among : (p q r : Cell → Bool) → ((c : Cell) → q c ≡ true → p c ≡ true) → (cs : List Cell) → Among (spots_of (filter q (filter r cs))) (spots_of (filter p cs))
twice_among p q r f [] = nothing
twice_among p q r f (c ∷ cs) = by_third (p c) refl (twice_among p q r f cs)
  where
    by_second : (d t : Bool) → p c ≡ d → q c ≡ t → Among (spots_of (filter q (filter r cs))) (spots_of (filter p cs)) → Among (spots_of (cond t (c ∷ filter q (filter r cs)) (filter q (filter r cs)))) (spots_of (cond d (c ∷ filter p cs) (filter p cs)))
    by_second true true e g later = keep c.spot later
    by_second true false e g later = skip c.spot later
    by_second false true e g later = absurd (let clash : false ≡ true = sym e ∙ f c g in cc)
    by_second false false e g later = later

    by_first : (d b : Bool) → p c ≡ d → Among (spots_of (filter q (filter r cs))) (spots_of (filter p cs)) → Among (spots_of (filter q (cond b (c ∷ filter r cs) (filter r cs)))) (spots_of (cond d (c ∷ filter p cs) (filter p cs)))
    by_first d true e later = by_second d (q c) e refl later
    by_first true false e later = skip c.spot later
    by_first false false e later = later

    by_third : (d : Bool) → p c ≡ d → Among (spots_of (filter q (filter r cs))) (spots_of (filter p cs)) → Among (spots_of (filter q (cond (r c) (c ∷ filter r cs) (filter r cs)))) (spots_of (cond d (c ∷ filter p cs) (filter p cs)))
    by_third d e later = by_first d (r c) e later

-- the first cell that stands there is this one
index_at : (cs : List Cell) (k : ℕ) (c : Cell) → slice_get cs k ≡ Some c → Apart (spots_of cs) → (j : ℕ) → index_from j cs c.spot ≡ Some (j + k)
index_at [] k c e p j = absurd (let clash : None ≡ Some c = e in cc)
index_at (d ∷ cs) zero c e p j =
    let same : d ≡ c = cc in
    ap (λ (b : Bool). if b then Some j else index_from (j + 1) cs c.spot) (ap (λ (z : Cell). same_spot z.spot c.spot) same ∙ same_spot_itself c.spot)
    ∙ ap (λ (n : ℕ). Some n) (let none : j ≡ j + 0 = omega arith in none)
index_at (d ∷ cs) (suc k) c e p j =
    let far : IsApart d.spot c.spot = each_in (IsApart d.spot) c.spot (spots_of cs) p.0 (in_map (λ (z : Cell). z.spot) c cs (got_in cs k c e)) in
    ap (λ (b : Bool). if b then Some j else index_from (j + 1) cs c.spot) far ∙ index_at cs k c e p.1 (j + 1)
    ∙ ap (λ (n : ℕ). Some n) (let next : j + 1 + k ≡ j + suc k = omega arith in next)

-- the couple of a cell, of which no other stands there
couple_found : (blocks : List Block) (all : List Site) (cs : List Cell) (c : Cell) → IsIn c cs → ((d : Cell) → IsIn d cs → d.spot ≡ c.spot → d ≡ c) →
    couple_of_cells blocks all cs c.spot ≡ couple_in blocks all c.block c.spot
couple_found blocks all [] c i f = absurd i
couple_found blocks all (d ∷ cs) c i f = by (same_spot d.spot c.spot) refl i (λ j. couple_found blocks all cs c j (λ e k. f e (inr k)))
  where
    by : (b : Bool) → same_spot d.spot c.spot ≡ b → IsIn c (d ∷ cs) → (IsIn c cs → couple_of_cells blocks all cs c.spot ≡ couple_in blocks all c.block c.spot) →
        (if b then couple_in blocks all d.block c.spot else couple_of_cells blocks all cs c.spot) ≡ couple_in blocks all c.block c.spot
    by true e j later = ap (λ (z : Cell). couple_in blocks all z.block c.spot) (f d (inl refl) (same_spot_is d.spot c.spot e))
    by false e (inl same) later =
        let clash : true ≡ false = sym (same_spot_itself c.spot) ∙ ap (λ (z : Cell). same_spot z.spot c.spot) same ∙ e in
        absurd cc
    by false e (inr j) later = later j

-- what holds of the cell at each place of a variable holds of those cells, and likewise of procedures
each_variable : (P : Cell → Type 0) (k : ℕ) (ds : PDecls) → ((s : Spot) → IsIn s (variable_spots ds) → P (record { block = k; spot = s; content = cells.variable })) → AllByRecursion P (variable_cells k ds)
each_variable P k tree.no_decls f = tt
each_variable P k (tree.decls (tree.simple kind ns) ds) f =
    each_both P (cells_for k cells.variable ns) (variable_cells k ds) (each ns (λ s i. f s (in_front s (spots_of_names ns) (variable_spots ds) i)))
    (each_variable P k ds (λ s i. f s (in_back s (spots_of_names ns) (variable_spots ds) i)))
  where
    each : (ms : List Named) → ((s : Spot) → IsIn s (spots_of_names ms) → P (record { block = k; spot = s; content = cells.variable })) → AllByRecursion P (cells_for k cells.variable ms)
    each [] g = tt
    each (m ∷ ms) g = (g m.spot (inl refl), each ms (λ s i. g s (inr i)))
each_variable P k (tree.decls d ds) f = each_variable P k ds f

each_control : (P : Cell → Type 0) (k : ℕ) (ds : PDecls) → ((h : Heading) → IsIn h (headings ds) → P (control_cell k h.name.spot)) → AllByRecursion P (control_cells k ds)
each_control P k tree.no_decls f = tt
each_control P k (tree.decls (tree.procedure h s) ds) f = (f h (inl refl), each_control P k ds (λ g i. f g (inr i)))
each_control P k (tree.decls d ds) f = each_control P k ds f

none_in_front : (block : ℕ) (ns : List Named) (b : Block) → holding cells.actual (front_cells block ns b) ≡ []
none_in_front block ns b = of_result b.result
  where
    of_names : (ms : List Named) → holding cells.actual (cells_for block cells.parameter ms) ≡ []
    of_names [] = refl
    of_names (m ∷ ms) = of_names ms

    of_result : (o : Option Kind) → holding cells.actual (result_cell o block b.spot ++ cells_for block cells.parameter ns) ≡ []
    of_result None = of_names ns
    of_result (Some kind) = of_names ns

held_both : (xs ys : List Cell) → holding cells.actual xs ≡ [] → holding cells.actual (xs ++ ys) ≡ holding cells.actual ys
held_both [] ys e = refl
held_both (x ∷ xs) ys e = by (content_number x.content == content_number cells.actual) e (held_both xs ys)
  where
    by : (b : Bool) → cond b (x ∷ holding cells.actual xs) (holding cells.actual xs) ≡ [] → (holding cells.actual xs ≡ [] → holding cells.actual (xs ++ ys) ≡ holding cells.actual ys) →
        cond b (x ∷ holding cells.actual (xs ++ ys)) (holding cells.actual (xs ++ ys)) ≡ holding cells.actual ys
    by true f later = absurd (let clash : x ∷ holding cells.actual xs ≡ [] = f in cc)
    by false f later = later f

module _ (blocks : List Block) (all : List Site) (is : IsProgram blocks all) where
  abbrev sc : Scopes
  sc = scopes blocks all is

  -- ---- the cells of a block's actuals are those of its text

  abbrev Cells : Block → Type 0
  Cells b = HasCells blocks is.blocks_apart (SiteTells blocks sc) b (cells_of blocks all (number_at blocks b.spot))

  pub acts_are : (b : Block) → Cells b → acts_of blocks all is b ≡ cells_of_actuals blocks sc (number_at blocks b.spot) (actuals_of sc b)
  acts_are b h =
      let k = number_at blocks b.spot in
      let i = h.text in
      let declared = sites_in_decls blocks b.decls i.begin i.begin.known in
      let stated = sites_in_stmts blocks b.stmts i.listed i.around in
      let parts = subst (AllByRecursion (SiteTells blocks sc)) i.sites_are h.told in
      let front = each_back (SiteTells blocks sc) i.front declared (each_front (SiteTells blocks sc) (i.front ++ declared) stated parts) in
      let last = each_back (SiteTells blocks sc) (i.front ++ declared) stated parts in
      let in_decls : cells_in_bounds blocks i.begin b.decls ≡ cells_of_actuals blocks sc k (actuals_in_decls sc b.decls) =
      acts_decls blocks sc i.begin i.begin.known b.decls i.declares front ∙ ap (λ (m : ℕ). cells_of_actuals blocks sc m (actuals_in_decls sc b.decls)) i.begins.block_is in
      let in_stmts : cells_in_stmts i.around b.stmts ≡ cells_of_actuals blocks sc k (actuals_in_stmts sc b.stmts) =
      acts_stmts blocks sc i.around b.stmts i.listed i.typed last ∙ ap (λ (m : ℕ). cells_of_actuals blocks sc m (actuals_in_stmts sc b.stmts)) i.stands.block_is in
      ap (holding cells.actual) h.are ∙ held_both (front_cells k (named_of blocks b) b) h.own (none_in_front k (named_of blocks b) b) ∙ i.actuals_are
      ∙ joined blocks sc k (cells_in_bounds blocks i.begin b.decls) (cells_in_stmts i.around b.stmts) (actuals_in_decls sc b.decls) (actuals_in_stmts sc b.stmts) in_decls in_stmts

  module _ (each : (b : Block) → IsIn b blocks → Cells b) where
    pub have_acts : HaveActs blocks all is
    have_acts b t = ap length (acts_are b (each b t)) ∙ length-map (actuals_of sc b) (λ (x : Actual). actual_cell (number_at blocks b.spot) x.expr)

    -- ---- their couples

    acts_apart : (b : Block) → Apart (spots_of (acts_of blocks all is b))
    acts_apart b =
        apart_among
        (twice_among (λ (c : Cell). has_own_place c.content) (λ (c : Cell). content_number c.content == content_number cells.actual) (λ (c : Cell). c.block == number_at blocks b.spot)
        (λ c e. ap has_own_place (of_actual c e)) (flat_map (cells_at blocks) all))
        is.places_apart

    module _ (told : Told) (are : AreTold blocks all told) (b : Block) (t : IsIn b blocks) where
      abbrev k : ℕ
      k = number_at blocks b.spot

      abbrev acts : List Cell
      acts = acts_of blocks all is b

      -- at an actual's place no other cell of the block stands
      found_index : (c : Cell) (number : ℕ) → slice_get acts number ≡ Some c →
          index_from 2 (frame_of blocks all is b) c.spot ≡ Some (2 + length (simples_of blocks all is b) + length (procedures b.decls) + number)
      found_index c number e =
          let i = got_in acts number c e in
          let far = act_far blocks all is b c i in
          let inside = cells_of_block k (named_of blocks b) b in
          let given : AllByRecursion (λ (d : Cell). IsApart d.spot c.spot) (given_places blocks b) =
          in_each (λ (d : Cell). IsApart d.spot c.spot) (given_places blocks b)
          (λ d j.
          let content : d.content ≡ cells.parameter = content_of (named_of blocks b) d j in
          acts_past blocks all is b t c i d (in_front d (front_cells k (named_of blocks b) b) (decl_cells k b.decls) (in_back d (result_cell b.result k b.spot) (given_places blocks b) j))
          (ap has_own_place content) (λ f. let clash : cells.parameter ≡ cells.actual = sym content ∙ f in cc)) in
          let vars : AllByRecursion (λ (d : Cell). IsApart d.spot c.spot) (variable_cells k b.decls) =
          each_variable (λ (d : Cell). IsApart d.spot c.spot) k b.decls
          (λ s j.
          acts_past blocks all is b t c i (record { block = k; spot = s; content = cells.variable })
          (in_back (record { block = k; spot = s; content = cells.variable }) (front_cells k (named_of blocks b) b) (decl_cells k b.decls) (variable_cell k b.decls s j)) refl
          (λ f. let clash : cells.variable ≡ cells.actual = f in cc)) in
          let controls : AllByRecursion (λ (d : Cell). IsApart d.spot c.spot) (control_cells k b.decls) =
          each_control (λ (d : Cell). IsApart d.spot c.spot) k b.decls
          (λ h j.
          let q = (is.homes b t).callees h j in
          apart_sym c.spot h.name.spot
          (each_in (IsApart c.spot) h.name.spot (block_spots blocks) far (in_map (λ (z : Block). z.spot) (procedure_block h q.body (b.spot ∷ b.outer)) blocks q.body_there))) in
          let own : IsApart b.spot c.spot = apart_sym c.spot b.spot (each_in (IsApart c.spot) b.spot (block_spots blocks) far (in_map (λ (z : Block). z.spot) b blocks t)) in
          actual_index blocks b (is.homes b t) acts c.spot number given own vars controls (index_at acts number c e (acts_apart b))
        where
          content_of : (ns : List Named) (d : Cell) → IsIn d (cells_for k cells.parameter ns) → d.content ≡ cells.parameter
          content_of [] d j = absurd j
          content_of (n ∷ ns) d (inl same) = ap (λ (z : Cell). z.content) same
          content_of (n ∷ ns) d (inr j) = content_of ns d j

      -- its couple is told
      told_couple : (c : Cell) (number : ℕ) → c.block ≡ k → slice_get acts number ≡ Some c →
          told.actuals c.spot ≡ Some (record { level = level_of b; index = 2 + length (simples_of blocks all is b) + length (procedures b.decls) + number })
      told_couple c number mine e =
          let i = got_in acts number c e in
          let there : IsIn c (flat_map (cells_at blocks) all) = in_filter (λ (z : Cell). z.block == k) c (flat_map (cells_at blocks) all) (in_filter (λ (z : Cell). content_number z.content == content_number cells.actual) c (cells_of blocks all k) i) in
          let among : IsIn c (actual_cells blocks all) =
          in_kept (λ (z : Cell). content_number z.content == content_number cells.actual) c (flat_map (cells_at blocks) all) there
          (holds (λ (z : Cell). content_number z.content == content_number cells.actual) c (cells_of blocks all k) i) in
          are.actuals c.spot (record { level = level_of b; index = 2 + length (simples_of blocks all is b) + length (procedures b.decls) + number })
          (couple_found blocks all (actual_cells blocks all) c among
          (λ d j same.
          one_there (λ (z : Cell). z.spot) (placed blocks all is) d c is.places_apart
          (in_kept (λ (z : Cell). has_own_place z.content) d (flat_map (cells_at blocks) all) (in_filter (λ (z : Cell). content_number z.content == content_number cells.actual) d (flat_map (cells_at blocks) all) j)
          (ap has_own_place (of_actual d (holds (λ (z : Cell). content_number z.content == content_number cells.actual) d (flat_map (cells_at blocks) all) j))))
          (act_placed blocks all is b c i) same)
          ∙ ap (λ (m : ℕ). couple_in blocks all m c.spot) mine
          ∙ coupled blocks all is b t c.spot (Some (2 + length (simples_of blocks all is b) + length (procedures b.decls) + number)) (found_index c number e))

      one_celled : (number : ℕ) (x : Actual) → slice_get (actuals_of sc b) number ≡ Some x → IsCelled sc told (level_of b) k x
      one_celled number x e =
          let c = actual_cell k x.expr in
          let cell_there : slice_get acts number ≡ Some c =
          ap (λ (cs : List Cell). slice_get cs number) (acts_are b (each b t)) ∙ got_map (λ (z : Actual). actual_cell k z.expr) (actuals_of sc b) number x e in
          let here : block_numbered blocks k ≡ b = numbered blocks b is.blocks_apart t in
          record {
            couple = record { level = level_of b; index = 2 + length (simples_of blocks all is b) + length (procedures b.decls) + number };
            told_is = told_couple c number refl cell_there;
            number = number;
            there = ap (λ (z : Block). slice_get (actuals_of sc z) number) here ∙ e;
            outer = (let low : 2 ≤ length b.outer + 2 = omega arith in low);
            level_is = refl;
            index_is =
                ap (λ (cs : List Simple). 2 + length cs + length (procedures b.decls) + number) (sym (simple_is blocks b (is.homes b t) acts sc.uses))
                ∙ ap (λ (z : Block). actual_base sc z + number) (sym here);
          }

      block_celled : AreCelled sc told (level_of b) k (actuals_of sc b)
      block_celled = each_by (IsCelled sc told (level_of b) k) (actuals_of sc b) one_celled

    pub all_celled : (told : Told) → AreTold blocks all told → Actuals blocks sc told blocks
    all_celled told are b t = block_celled told are b t
