-- Each part of a program has the couples of its names.
use Rattle.std.proofs.Common.{arith, ◌≡◌, inl, inr, ℕ, ◌+◌, ◌<◌, Bool, false, is_some, List, [], ◌∷◌, ◌++◌, map, Option, Some, None, refl, sym, ap, ◌∙◌, subst}
use Rattle.std.specs.List.{flat_map, AllByRecursion}
use Rattle.algol_tree.specs.declared.token.Spot.{Spot}
use Rattle.algol_tree.specs.declared.tree.Kind.{Kind}
use Rattle.algol_tree.specs.declared.tree.Named.{Named}
use Rattle.algol_tree.specs.declared.tree.Heading.{Heading}
use Rattle.algol_tree.specs.Blocks.{Block, block_numbered, number_at, procedure_block}
use Rattle.algol_tree.specs.Cells.{Cell}
use Rattle.algol_tree.specs.Classes as class
use Rattle.algol_tree.specs.Couples.{Known, known_by, known_at, known_there, located}
use Rattle.algol_tree.specs.Plain as tree
use Rattle.algol_tree.specs.Plain.{PExpr}
use Rattle.algol_tree.specs.Scopes.{Scopes, Use, used, use_by, left_use, left_uses, names_in, uses_at, declared_in, use_of}
use Rattle.algol_tree.specs.Sites.{Site, here_stmt}
use Rattle.algol_tree.specs.Sorts.{Sort, Declared, procedure_in}
use Rattle.algol_tree.specs.Surroundings.{Surroundings, declared_as, class_of}
use Rattle.algol_tree.proofs.Trees.{use_is}
use Rattle.algol_meaning.specs.Settle.{block_of_sort}
use Rattle.algol_paths.specs.Arrays.{lows_at}
use Rattle.b67_templates.specs.Cells.{Simple, parameters_in, parameter_cells, parameter_wants}
use Rattle.b67_templates.specs.Fitting.{Told, EventFits}
use Rattle.b67_list.proofs.Lists.{each_both}
use Rattle.b67_fitting.proofs.ActualsFound.{IsTelling, SiteTells}
use Rattle.b67_fitting.proofs.Apart.{IsIn, in_each, in_front, in_back, in_flat}
use Rattle.b67_fitting.proofs.Coupled.{the_use, result_use, AreTold, IsProgram, scopes, used_at, known_at_place, inside_deep, variable_fits, name_fits, procedure_fits, result_fits}
use Rattle.b67_fitting.proofs.CoupledArrays.{HaveActs, row_fits}
use Rattle.b67_fitting.proofs.CoupledEvents.{task_fits, event_fits, formal_event_fits, label_fits}
use Rattle.b67_fitting.proofs.CoupledFormals.{formal_fits}
use Rattle.b67_fitting.proofs.Blocked.{numbered}
use Rattle.b67_fitting.proofs.Known.{IsOwned, Stands}
use Rattle.b67_fitting.proofs.Listed as listing
use Rattle.b67_fitting.proofs.Listed.{IsFair, Listed, over, passed, turned, site, declared, both, block, procedure}
use Rattle.b67_fitting.proofs.LowsFound.{held_none, named_none, owned_none}
use Rattle.b67_fitting.proofs.Meant as meant
use Rattle.b67_fitting.proofs.Meant.{IsSimpleAs, held, declared_simple, declared_array, declared_procedure, declared_event, declared_label, IsEventAs, event_of, task_of, labelled_of, held_of, IsArrayAs, of_block, of_parameter, arrayed_of, owned_of}
use Rattle.b67_fitting.proofs.Placed.{RowFits, IsSimpleFor, IsPlaced, IsLeftPlaced, SitePlaced}

module _ (blocks : List Block) (all : List Site) (is : IsProgram blocks all) where
  abbrev sc : Scopes
  sc = scopes blocks all is

  -- ---- a name that is read or called

  used_as : (x : Site) → IsIn x all → IsFair blocks x → (n : Named) (d : Declared) → IsIn n (names_in x.part) → declared_as x.around n ≡ Some d → use_of sc n ≡ the_use x.around n d
  used_as x i f n d j h =
      let u = the_use x.around n d in
      let mine : IsIn u (used x.around n) = subst (λ (o : Option Declared). IsIn u (use_by x.around n o)) (sym h) (inl refl) in
      let here : IsIn u (uses_at x) = subst (λ (z : List Use). IsIn u z) (sym f.uses) (in_flat (used x.around) n u (names_in x.part) j mine) in
      use_is sc n u (used_at blocks all is x i u here)

  known_as : (x : Site) → IsIn x all → IsFair blocks x → (n : Named) (d : Declared) → IsIn n (names_in x.part) → declared_as x.around n ≡ Some d →
      known_there (flat_map (known_at blocks) all) n.spot ≡ Some d
  known_as x i f n d j h =
      let k : Known = record { spot = n.spot; declared = d } in
      let mine : IsIn k (known_by n.spot (declared_as x.around n)) = subst (λ (o : Option Declared). IsIn k (known_by n.spot o)) (sym h) (inl refl) in
      let here : IsIn k (known_at blocks x) =
      subst (λ (z : List Known). IsIn k z) (sym f.knows) (in_flat (λ (m : Named). known_by m.spot (declared_as x.around m)) n k (names_in x.part) j mine) in
      known_at_place blocks all is x i k here

  used_left : (a : Surroundings) (n : Named) (e : PExpr) (listed : Bool) → IsIn (here_stmt (tree.assign (tree.subscripted n tree.none) e) listed a) all → (u : Use) (d : Declared) →
      declared_as a n ≡ Some d → u ≡ left_use (the_use a n d) d.sort → u.spot ≡ n.spot → use_of sc n ≡ u
  used_left a n e listed i u d h same at =
      let x : Site = here_stmt (tree.assign (tree.subscripted n tree.none) e) listed a in
      let here : IsIn u (uses_at x) = subst (λ (o : Option Declared). IsIn u (left_uses (use_by a n o))) (sym h) (inl same) in
      use_is sc n u (subst (λ (z : Spot). declared_in sc.uses z ≡ Some u) at (used_at blocks all is x i u here))

  -- ---- what procedures want, and which names are theirs

  no_procedure : (depth : ℕ) (name : List ℕ) (d : Declared) (k : Kind) → IsSimpleAs blocks depth name d k → is_some (procedure_in d.sort) ≡ false
  no_procedure depth name d k (held h) = ap (λ (s : Sort). is_some (procedure_in s)) h.sort_is
  no_procedure depth name d k (meant.given h) = ap (λ (s : Sort). is_some (procedure_in s)) h.sort_is

  its_cells : (depth : ℕ) (name : List ℕ) (d : Declared) (g : Heading) → IsOwned blocks depth name d g → parameter_cells sc (block_numbered blocks (number_at blocks g.name.spot)) ≡ parameters_in g
  its_cells depth name d g h =
      ap (λ (z : Block). parameter_cells sc z) (numbered blocks (procedure_block g h.body (h.in_block.spot ∷ h.in_block.outer)) is.blocks_apart h.body_there) ∙ h.cells_are

  tells : (x : Site) → IsIn x all → IsFair blocks x → SiteTells blocks sc x
  tells x i f = subst (AllByRecursion (IsTelling blocks sc x.around)) (sym f.reads) (in_each (IsTelling blocks sc x.around) (names_in x.part) one)
    where
      one : (n : Named) → IsIn n (names_in x.part) → IsTelling blocks sc x.around n
      one n j =
          record {
            called =
                λ g h.
                let o = declared_procedure x.around g n h in
                let own = owned_of blocks x.around.depth n.name o.as_one g o.class_is (f.stands.around.each n.name o.as_one o.is) in
                ap (λ (u : Use). parameter_wants sc (block_of_sort u.sort)) (used_as x i f n o.as_one j o.is) ∙ ap (λ (s : Sort). parameter_wants sc (block_of_sort s)) own.sort_is
                ∙ ap (map (λ (c : Simple). c.wanted)) (its_cells x.around.depth n.name o.as_one g own);
            procedure =
                λ g h.
                let o = declared_procedure x.around g n h in
                let own = owned_of blocks x.around.depth n.name o.as_one g o.class_is (f.stands.around.each n.name o.as_one o.is) in
                ap (λ (u : Use). is_some (procedure_in u.sort)) (used_as x i f n o.as_one j o.is) ∙ ap (λ (s : Sort). is_some (procedure_in s)) own.sort_is;
            simple =
                λ k h.
                let o = declared_simple x.around k n h in
                ap (λ (u : Use). is_some (procedure_in u.sort)) (used_as x i f n o.as_one j o.is)
                ∙ no_procedure x.around.depth n.name o.as_one k (held_of blocks x.around.depth n.name o.as_one k o.class_is (f.stands.around.each n.name o.as_one o.is));
          }

  pub all_tell : {k : ℕ} {spots : List Spot} {own : List Cell} {bs : List Block} {xs : List Site} → Listed blocks k spots own bs xs → ((x : Site) → IsIn x xs → IsIn x all) →
      AllByRecursion (SiteTells blocks sc) xs
  all_tell (over k) g = tt
  all_tell (passed k spot l) g = all_tell l g
  all_tell (turned k spot p q l) g = all_tell l g
  all_tell (site k x f l) g = (tells x (g x (inl refl)) f, all_tell l (λ y i. g y (inr i)))
  all_tell (listing.given k x c f m l) g = (subst (AllByRecursion (IsTelling blocks sc x.around)) (sym f.reads) tt, all_tell l (λ y i. g y (inr i)))
  all_tell (listing.left k a n e listed b s l) g = (tt, all_tell l (λ y i. g y (inr i)))
  all_tell (declared k x names new f l) g = (subst (AllByRecursion (IsTelling blocks sc x.around)) (sym f.reads) tt, all_tell l (λ y i. g y (inr i)))
  all_tell (both k {xs = xs} {ys = ys} i j) g =
      each_both (SiteTells blocks sc) xs ys (all_tell i (λ x m. g x (in_front x xs ys m))) (all_tell j (λ x m. g x (in_back x xs ys m)))
  all_tell (block k b e i l) g = all_tell l g
  all_tell (procedure k x b more f i l) g = (subst (AllByRecursion (IsTelling blocks sc x.around)) (sym f.reads) tt, all_tell l (λ y m. g y (inr m)))

  module _ (many : HaveActs blocks all is) (told : Told) (are : AreTold blocks all told) where
    -- an array that a block declares, or a parameter that stands for one
    array_fits : (a : Surroundings) (level : ℕ) → a.depth + 2 ≡ level → (n : Named) (d : Declared) → known_there (flat_map (known_at blocks) all) n.spot ≡ Some d → (k : Kind) (rank : ℕ) →
        use_of sc n ≡ the_use a n d → IsArrayAs blocks a.depth n.name d k rank → RowFits sc told level n k rank
    array_fits a level at n d is_known k rank u (of_block h) = row_fits blocks all is many told are a level at n d is_known k rank u h
    array_fits a level at n d is_known k rank u (of_parameter shape h e f) =
        subst (λ (z : Kind). RowFits sc told level n z rank) e
        (subst (λ (r : ℕ). RowFits sc told level n shape.kind r) f (formal_fits blocks all is told are a level at n d is_known shape u h))

    -- an event or a task that a block declares, or a parameter that stands for an event
    named_event_fits : (a : Surroundings) (level : ℕ) → a.depth + 2 ≡ level → (n : Named) (d : Declared) → known_there (flat_map (known_at blocks) all) n.spot ≡ Some d → use_of sc n ≡ the_use a n d →
        IsEventAs blocks a.depth n.name d → EventFits sc told level n
    named_event_fits a level at n d is_known u (meant.made h) = event_fits blocks all is told are a level at n d is_known many u h
    named_event_fits a level at n d is_known u (meant.given_for h) = formal_event_fits blocks all is told are a level at n d is_known u h

    -- a variable, or a parameter by name
    simple_fits : (a : Surroundings) (level : ℕ) → a.depth + 2 ≡ level → (n : Named) (d : Declared) → known_there (flat_map (known_at blocks) all) n.spot ≡ Some d → (k : Kind) →
        use_of sc n ≡ the_use a n d → IsSimpleAs blocks a.depth n.name d k → IsSimpleFor sc told level k n
    simple_fits a level at n d is_known k u (held h) =
        let r = variable_fits blocks all is told are a level at n d is_known k u h in
        record { reads = r.reads; place = r.place; given = r.given; no_event = r.no_event }
    simple_fits a level at n d is_known k u (meant.given h) =
        let r = name_fits blocks all is told are a level at n d is_known k u h in
        record { reads = r.reads; place = r.place; given = r.given; no_event = r.no_event }

    simple_none : (depth : ℕ) (name : List ℕ) (d : Declared) (k : Kind) → IsSimpleAs blocks depth name d k → lows_at blocks d.spot ≡ None
    simple_none depth name d k (held h) = held_none blocks all is depth name d k h
    simple_none depth name d k (meant.given h) = named_none blocks all is depth name d k h

    placed : (x : Site) → IsIn x all → IsFair blocks x → SitePlaced blocks sc told x
    placed x i f = (
      subst (AllByRecursion (IsPlaced blocks sc told x.around)) (sym f.reads) (in_each (IsPlaced blocks sc told x.around) (names_in x.part) (λ n j. one n j)),
      subst (AllByRecursion (IsLeftPlaced blocks sc told x.around)) (sym f.lefts) tt,
    )
      where
        one : (n : Named) → IsIn n (names_in x.part) → IsPlaced blocks sc told x.around n
        one n j =
            record {
              simple =
                  λ k level at h.
                  let o = declared_simple x.around k n h in
                  simple_fits x.around level at n o.as_one (known_as x i f n o.as_one j o.is) k (used_as x i f n o.as_one j o.is)
                  (held_of blocks x.around.depth n.name o.as_one k o.class_is (f.stands.around.each n.name o.as_one o.is));
              array =
                  λ k rank level at h.
                  let o = declared_array x.around k rank n h in
                  array_fits x.around level at n o.as_one (known_as x i f n o.as_one j o.is) k rank (used_as x i f n o.as_one j o.is)
                  (arrayed_of blocks x.around.depth n.name o.as_one k rank o.class_is (f.stands.around.each n.name o.as_one o.is));
              called =
                  λ g level at h.
                  let o = declared_procedure x.around g n h in
                  procedure_fits blocks all is told are x.around level at n o.as_one (known_as x i f n o.as_one j o.is) g (used_as x i f n o.as_one j o.is)
                  (owned_of blocks x.around.depth n.name o.as_one g o.class_is (f.stands.around.each n.name o.as_one o.is));
              evented =
                  λ level at h.
                  let o = declared_event x.around (class_of x.around n) n h refl in
                  named_event_fits x.around level at n o.as_one (known_as x i f n o.as_one j o.is) (used_as x i f n o.as_one j o.is)
                  (event_of blocks x.around.depth n.name o.as_one (class_of x.around n) h o.class_is (f.stands.around.each n.name o.as_one o.is));
              tasked =
                  λ level at h.
                  let o = declared_event x.around class.task n (inr refl) h in
                  task_fits blocks all is told are x.around level at n o.as_one (known_as x i f n o.as_one j o.is) many (used_as x i f n o.as_one j o.is)
                  (task_of blocks x.around.depth n.name o.as_one o.class_is (f.stands.around.each n.name o.as_one o.is));
              labelled =
                  λ level at h.
                  let o = declared_label x.around n h in
                  label_fits blocks all is told are x.around level at n o.as_one (known_as x i f n o.as_one j o.is) (used_as x i f n o.as_one j o.is)
                  (labelled_of blocks x.around.depth n.name o.as_one o.class_is (f.stands.around.each n.name o.as_one o.is));
              simple_alone =
                  λ k h.
                  let o = declared_simple x.around k n h in
                  are.lows n.spot _ (ap (located blocks all) (known_as x i f n o.as_one j o.is))
                  ∙ simple_none x.around.depth n.name o.as_one k (held_of blocks x.around.depth n.name o.as_one k o.class_is (f.stands.around.each n.name o.as_one o.is));
              called_alone =
                  λ g h.
                  let o = declared_procedure x.around g n h in
                  are.lows n.spot _ (ap (located blocks all) (known_as x i f n o.as_one j o.is))
                  ∙ owned_none blocks all is x.around.depth n.name o.as_one g (owned_of blocks x.around.depth n.name o.as_one g o.class_is (f.stands.around.each n.name o.as_one o.is));
              is_simple =
                  λ k h.
                  let o = declared_simple x.around k n h in
                  ap (λ (u : Use). is_some (procedure_in u.sort)) (used_as x i f n o.as_one j o.is)
                  ∙ no_procedure x.around.depth n.name o.as_one k (held_of blocks x.around.depth n.name o.as_one k o.class_is (f.stands.around.each n.name o.as_one o.is));
              is_called =
                  λ g h.
                  let o = declared_procedure x.around g n h in
                  let own = owned_of blocks x.around.depth n.name o.as_one g o.class_is (f.stands.around.each n.name o.as_one o.is) in
                  ap (λ (u : Use). is_some (procedure_in u.sort)) (used_as x i f n o.as_one j o.is) ∙ ap (λ (s : Sort). is_some (procedure_in s)) own.sort_is;
            }

    -- ---- a name on the left

    left_placed : (a : Surroundings) (n : Named) (e : PExpr) (listed : Bool) (b : Block) → IsIn (here_stmt (tree.assign (tree.subscripted n tree.none) e) listed a) all → Stands blocks b a →
        IsLeftPlaced blocks sc told a n
    left_placed a n e listed b i s =
        record {
          simple =
              λ k level at h.
              let o = declared_simple a k n h in
              let v = held_of blocks a.depth n.name o.as_one k o.class_is (s.around.each n.name o.as_one o.is) in
              (simple_fits a level at n o.as_one (known_left o.as_one o.is) k
              (used_left a n e listed i (the_use a n o.as_one) o.as_one o.is (sym (left_simple a n o.as_one k v)) refl) v).place;
          result =
              λ k level at r.
              let o = declared_procedure a r.0 n r.1 in
              let v = owned_of blocks a.depth n.name o.as_one r.0 o.class_is (s.around.each n.name o.as_one o.is) in
              let c = procedure_block r.0 v.body (v.in_block.spot ∷ v.in_block.outer) in
              let deep : o.as_one.depth < a.depth = omega (arith, inside_deep blocks all is b a s r.0 c v.body_there refl r.3, v.depth_is) in
              result_fits blocks all is told are a level at n o.as_one (known_left o.as_one o.is) k r.0
              (used_left a n e listed i (result_use a n o.as_one (number_at blocks r.0.name.spot)) o.as_one o.is (sym (ap (left_use (the_use a n o.as_one)) v.sort_is)) refl) v r.2 deep;
        }
      where
        x : Site
        x = here_stmt (tree.assign (tree.subscripted n tree.none) e) listed a

        left_simple : (a : Surroundings) (n : Named) (d : Declared) (k : Kind) → IsSimpleAs blocks a.depth n.name d k → left_use (the_use a n d) d.sort ≡ the_use a n d
        left_simple a n d k (held h) = ap (left_use (the_use a n d)) h.sort_is
        left_simple a n d k (meant.given h) = ap (left_use (the_use a n d)) h.sort_is

        known_left : (d : Declared) → declared_as a n ≡ Some d → known_there (flat_map (known_at blocks) all) n.spot ≡ Some d
        known_left d h =
            let k : Known = record { spot = n.spot; declared = d } in
            let here : IsIn k (known_at blocks x) = subst (λ (o : Option Declared). IsIn k (known_by n.spot o ++ [])) (sym h) (inl refl) in
            known_at_place blocks all is x i k here

    -- ---- all parts

    pub all_placed : {k : ℕ} {spots : List Spot} {own : List Cell} {bs : List Block} {xs : List Site} → Listed blocks k spots own bs xs → ((x : Site) → IsIn x xs → IsIn x all) →
        AllByRecursion (SitePlaced blocks sc told) xs
    all_placed (over k) g = tt
    all_placed (passed k spot l) g = all_placed l g
    all_placed (turned k spot p q l) g = all_placed l g
    all_placed (site k x f l) g = (placed x (g x (inl refl)) f, all_placed l (λ y i. g y (inr i)))
    all_placed (listing.given k x c f m l) g =
        ((subst (AllByRecursion (IsPlaced blocks sc told x.around)) (sym f.reads) tt, subst (AllByRecursion (IsLeftPlaced blocks sc told x.around)) (sym f.lefts) tt), all_placed l (λ y i. g y (inr i)))
    all_placed (listing.left k a n e listed b s l) g =
        ((tt, (left_placed a n e listed b (g (here_stmt (tree.assign (tree.subscripted n tree.none) e) listed a) (inl refl)) s, tt)), all_placed l (λ y i. g y (inr i)))
    all_placed (declared k x names new f l) g =
        ((subst (AllByRecursion (IsPlaced blocks sc told x.around)) (sym f.reads) tt, subst (AllByRecursion (IsLeftPlaced blocks sc told x.around)) (sym f.lefts) tt), all_placed l (λ y i. g y (inr i)))
    all_placed (both k {xs = xs} {ys = ys} i j) g =
        each_both (SitePlaced blocks sc told) xs ys (all_placed i (λ x m. g x (in_front x xs ys m))) (all_placed j (λ x m. g x (in_back x xs ys m)))
    all_placed (block k b e i l) g = all_placed l g
    all_placed (procedure k x b more f i l) g =
        ((subst (AllByRecursion (IsPlaced blocks sc told x.around)) (sym f.reads) tt, subst (AllByRecursion (IsLeftPlaced blocks sc told x.around)) (sym f.lefts) tt), all_placed l (λ y m. g y (inr m)))
