-- What is stored to and started with: left sides, control variables and tasks. On the left of an assignment the name of a
-- procedure is its result, of the procedure's own block, which is one further in.
use Rattle.std.proofs.Common.{arith, ◌≡◌, ◌⊎◌, inl, inr, ℕ, ◌-◌, ◌&&◌, not, Bool, true, false, List, [], ◌∷◌, length, is_some, Some, None, refl, sym, ap, ◌∙◌, subst, slice_get}
use Rattle.algol_tree.specs.declared.token.Spot.{Spot}
use Rattle.algol_tree.specs.declared.tree.Heading.{Heading}
use Rattle.algol_tree.specs.declared.tree.Named.{Named}
use Rattle.algol_tree.specs.Blocks.{block_numbered, number_at, around}
use Rattle.algol_tree.specs.Classes.{Class, is_simple, is_array, is_task}
use Rattle.algol_tree.specs.Names.{if_so}
use Rattle.algol_tree.specs.Plain as tree
use Rattle.algol_tree.specs.Plain.{PExpr, PExprs}
use Rattle.algol_tree.specs.Scopes.{Scopes, Use, left_use, use_of}
use Rattle.algol_tree.specs.Sites.{Site, here_stmt}
use Rattle.algol_tree.specs.Sorts as sort
use Rattle.algol_tree.specs.Sorts.{Sort, is_formal, is_by_name, procedure_in, Parameter, Declared, parameters_of}
use Rattle.algol_tree.specs.Surroundings.{Surroundings, class_of}
use Rattle.algol_tree.proofs.Spots.{not_so}
use Rattle.algol_tree.proofs.Trees.{use_is}
use Rattle.algol_meaning.specs.Settle.{sort_at}
use Rattle.algol_paths.specs.Blocks.{BlockIsSeen}
use Rattle.algol_calls.specs.Fits.{parameter_sort, has_parameter, has_simple, LeftFits, ControlFits, NameLeads, IsSettled}
use Rattle.algol_front_laws.specs.Declarations.{EachOnce}
use Rattle.algol_front_laws.specs.Uses.{use_by_name}
use Rattle.algol_told.proofs.Lists.{false_not_true}
use Rattle.b67_list.proofs.Lists.{append_none_left}
use Rattle.algol_texts.proofs.Parameters.{is_same, no_parameter, result_simple}
use Rattle.algol_texts.proofs.Good.{IsUse, IsUsed, IsGood, nothing}
use Rattle.algol_texts.proofs.Callees.{parameters_at, IsCallee, is_among, chain_at}
use Rattle.algol_texts.proofs.Around.{Means, a_variable, a_name, a_procedure, IsKnown, IsAround}
use Rattle.algol_texts.proofs.Uses.{array_other, task_other, simple_left, told_as, seen_as, its_found, its_known, its_class, name_right, seen, leads, alone_told, settled, left_alone}
use Rattle.algol_texts.proofs.Expressions.{wrong_by}

both_so : (b c : Bool) → not (b && c) ≡ false → (b ≡ true) × (c ≡ true)
both_so true true h = (refl, refl)
both_so true false h = absurd (false_not_true (sym h))
both_so false c h = absurd (false_not_true (sym h))

-- what is no procedure is the same on the left
left_same : (v : Use) (s : Sort) → procedure_in s ≡ None → left_use v s ≡ v
left_same v (sort.procedure block) e = absurd (let clash : Some block ≡ None = e in cc)
left_same v s e = refl

module _ (sc : Scopes) (j : ℕ) (outer : List Spot) (a : Surroundings) (r : IsAround sc.blocks j outer a) (once : EachOnce a) where
  abbrev left_site : Named → PExprs → PExpr → Bool → Site
  left_site n es e listed = here_stmt (tree.assign (tree.subscripted n es) e) listed a

  abbrev as_left : Named → Declared → Use
  as_left n d = left_use (use_by_name a n d) d.sort

  abbrev as_plain : (n : Named) (u : IsUse sc (as_left n) a n) → procedure_in u.declared.sort ≡ None → IsUsed sc a n
  as_plain n u e = record { declared = u.declared; found = u.found; used = u.used ∙ ap Some (left_same (use_by_name a n u.declared) u.declared.sort e) }

  -- The name is that of a typed procedure, and the place stands inside of it.
  record IsResult (block : ℕ) (name : List ℕ) (s : Sort) : Type 0 where
    heading : Heading
    callee : IsCallee sc.blocks block heading
    named : heading.name.name ≡ name
    sort_is : s ≡ sort.procedure (number_at sc.blocks heading.name.spot)
    typed : is_some heading.kind ≡ true
    inside : is_among sc.blocks (number_at sc.blocks heading.name.spot) (a.block ∷ around sc.blocks a.block) ≡ true

  abbrev IsLeft : ℕ → List ℕ → Sort → Type 0
  IsLeft block name s = ((procedure_in s ≡ None) × (is_formal s ≡ is_by_name s)) ⊎ IsResult block name s

  left_means : (n : Named) (e : PExpr) (listed : Bool) → IsGood sc (left_site n tree.none e listed) → (block : ℕ) (name : List ℕ) (s : Sort) (c : Class) → Means sc.blocks block name s c →
      class_of a n ≡ c → IsLeft block name s
  left_means n e listed g block name s c (a_variable kind) is = inl (refl, refl)
  left_means n e listed g block name s c (a_name kind) is = inl (refl, refl)
  left_means n e listed g block name s c (a_procedure h callee named) is =
      let test : Bool = is_among sc.blocks (number_at sc.blocks h.name.spot) (a.block ∷ around sc.blocks a.block) in
      let its : if_so (not (is_some h.kind && test)) n.spot ≡ [] = rw is at g.assignable in
      let both = both_so (is_some h.kind) test (not_so (not (is_some h.kind && test)) n.spot its) in
      inr (record { heading = h; callee = callee; named = named; sort_is = refl; typed = both.0; inside = both.1 })
  left_means n e listed g block name s c m is =
      let its : n.spot ∷ [] ≡ [] = rw is at g.assignable in
      absurd (nothing n.spot [] its)

  -- the result of the procedure
  module _ (n : Named) (u : IsUse sc (as_left n) a n) (p : IsResult u.declared.block u.declared.name u.declared.sort) where
    abbrev own : ℕ
    own = number_at sc.blocks p.heading.name.spot

    abbrev result_use : Use
    result_use = record { spot = n.spot; block = own; up = a.depth - u.declared.depth - 1; sort = sort.variable }

    used_so : use_of sc n ≡ result_use
    used_so = use_is sc n result_use (u.used ∙ ap (λ (s : Sort). Some (left_use (use_by_name a n u.declared) s)) p.sort_is)

    result_seen : BlockIsSeen sc j n
    result_seen =
        let k = its_known sc j outer a r (as_left n) n u in
        let inside : is_among sc.blocks own (j ∷ around sc.blocks j) ≡ true = subst (λ (m : ℕ). is_among sc.blocks own (m ∷ around sc.blocks m) ≡ true) r.block_is p.inside in
        let its = chain_at sc.blocks own (j ∷ around sc.blocks j) (refl, r.chain) inside in
        let up_is : a.depth - u.declared.depth - 1 ≡ length (j ∷ around sc.blocks j) - 1 - length (around sc.blocks own) =
        omega (arith, r.deep, k.deep, k.shallow, its.fewer, ap length p.callee.around_is) in
        seen_as sc j n result_use used_so (ap (slice_get (j ∷ around sc.blocks j)) up_is ∙ its.found)

    result_fits : LeftFits sc n tree.none
    result_fits =
        let there = its_found sc j outer a r (as_left n) n u in
        let clear : has_parameter (parameters_of p.heading) n.name ≡ false = ap (has_parameter (parameters_of p.heading)) (sym (p.named ∙ there.named)) ∙ p.callee.clear p.typed in
        let own_sort : parameter_sort (parameters_at sc.blocks own) n.name ≡ sort.variable =
        ap (λ (ps : List Parameter). parameter_sort ps n.name) p.callee.parameters_are ∙ no_parameter (parameters_of p.heading) n.name clear in
        let now : sort_at sc n ≡ sort.variable = ap (λ (v : Use). v.sort) used_so in
        let has_result : has_simple (block_numbered sc.blocks own) n.name ≡ true =
        result_simple (block_numbered sc.blocks own) n.name (ap is_some p.callee.result_is ∙ p.typed) (p.callee.name_is ∙ (p.named ∙ there.named)) in
        (told_as sc n result_use used_so (is_same (parameter_sort (parameters_at sc.blocks own) n.name) sort.variable own_sort) (λ e. has_result), ap is_formal now ∙ sym (ap is_by_name now))

  pub left_in : (n : Named) (e : PExpr) (listed : Bool) → IsGood sc (left_site n tree.none e listed) → BlockIsSeen sc j n × LeftFits sc n tree.none
  left_in n e listed g = by (left_means n e listed g u.declared.block u.declared.name u.declared.sort u.declared.class its.means (its_class sc j outer a r (as_left n) n u))
    where
      u : IsUse sc (as_left n) a n
      u = g.uses.0

      its : IsKnown sc.blocks j a.depth u.declared
      its = its_known sc j outer a r (as_left n) n u

      by : IsLeft u.declared.block u.declared.name u.declared.sort → BlockIsSeen sc j n × LeftFits sc n tree.none
      by (inl e) = let v = as_plain n u e.0 in (seen sc j outer a r once n v, left_alone sc j outer a r once n v e.1)
      by (inr p) = (result_seen n u p, result_fits n u p)

  -- an element
  pub left_element : (n : Named) (x : PExpr) (xs : PExprs) (e : PExpr) (listed : Bool) → IsGood sc (left_site n (tree.more x xs) e listed) → BlockIsSeen sc j n × NameLeads sc n
  left_element n x xs e listed g =
      let u : IsUse sc (as_left n) a n = g.uses.0 in
      let k = its_known sc j outer a r (as_left n) n u in
      let names = append_none_left _ _ g.right in
      let array = name_right sc j outer a r (as_left n) n u is_array (append_none_left (wrong_by sc j outer a r is_array n) _ names) in
      let other = array_other sc.blocks u.declared.block u.declared.name u.declared.sort u.declared.class k.means array in
      let v = as_plain n u other.0 in
      (seen sc j outer a r once n v, leads sc j outer a r once n v other)

  -- the control variable of a FOR
  pub control_in : (v : Named) → IsUsed sc a v → wrong_by sc j outer a r is_simple v ≡ [] → BlockIsSeen sc j v × ControlFits sc v
  control_in v u h =
      let k = its_known sc j outer a r (use_by_name a v) v u in
      let simple = simple_left sc.blocks u.declared.block u.declared.name u.declared.sort u.declared.class k.means (name_right sc j outer a r (use_by_name a v) v u is_simple h) in
      (seen sc j outer a r once v u, (left_alone sc j outer a r once v u simple.1, alone_told sc j outer a r once v u simple.0))

  -- a task
  pub task_in : (n : Named) → IsUsed sc a n → wrong_by sc j outer a r is_task n ≡ [] → IsSettled sc n
  task_in n u h =
      let k = its_known sc j outer a r (use_by_name a n) n u in
      let task = task_other sc.blocks u.declared.block u.declared.name u.declared.sort u.declared.class k.means (name_right sc j outer a r (use_by_name a n) n u is_task h) in
      settled sc j outer a r once n u task.1
