-- The lower bounds of the parameters of a heading, as the scopes tell where its specifications name them, are those that it specifies.
use Rattle.std.proofs.Common.{◌≡◌, ℕ, ◌==◌, ◌&&◌, ℤ, Bool, true, false, List, [], ◌∷◌, ◌++◌, Option, Some, None, refl, sym, ap, ◌∙◌, subst, if◌then◌else◌}
use Rattle.std.specs.List.{AllByRecursion, flat_map}
use Rattle.algol_tree.specs.declared.token.Spot.{Spot}
use Rattle.algol_tree.specs.declared.tree.Heading.{Heading}
use Rattle.algol_tree.specs.declared.tree.Kind.{Kind}
use Rattle.algol_tree.specs.declared.tree.Named.{Named}
use Rattle.algol_tree.specs.declared.tree.Spec.{Spec}
use Rattle.algol_tree.specs.declared.tree.Spec.TheVariants as spec
use Rattle.algol_tree.specs.Ascending.{spots_of_names}
use Rattle.algol_tree.specs.Blocks.{same_spot}
use Rattle.algol_tree.specs.Names.{if_so, name_is_one_of, names_of_spec, repeated, result_names, specified}
use Rattle.algol_tree.specs.Sorts.{is_named_in, same_name}
use Rattle.algol_tree.proofs.Names.{same_name_is}
use Rattle.algol_tree.proofs.Spots.{same_spot_is}
use Rattle.algol_frames.specs.declared.scopes.Scopes.{Scopes}
use Rattle.algol_paths.specs.Arrays.{Lows, lows_among, lows_in_shape, or_lows, shape_in}
use Rattle.algol_scope.specs.Resolved.{declaration_of}
use Rattle.algol_told.specs.Parameters.{TellsParameter, TellsParameters, parameter_place_in}
use Rattle.algol_told.proofs.Known.{nor_first, unseen}
use Rattle.algol_told.proofs.Lists.{all_left, all_right, all_weaker}
use Rattle.algol_told.proofs.Spots.{AreApart, IsApart, apart_turned}
use Rattle.b67_list.proofs.Lists.{append_none_right}
use Rattle.b67_list.proofs.Numbers.{number_turned}
use Rattle.algol_lows.specs.Lows.{lows_meant, lows_of_names, lows_of_specs}

-- ---- names, either way round

turned : (xs ys : List ℕ) → same_name xs ys ≡ same_name ys xs
turned [] [] = refl
turned [] (y ∷ ys) = refl
turned (x ∷ xs) [] = refl
turned (x ∷ xs) (y ∷ ys) = ap (λ (b : Bool). b && same_name xs ys) (number_turned x y) ∙ ap (λ (b : Bool). (y == x) && b) (turned xs ys)

-- ---- names that are not repeated

rest_once : (seen : List (List ℕ)) (x : Named) (xs : List Named) → repeated seen (x ∷ xs) ≡ [] → repeated (x.name ∷ seen) xs ≡ []
rest_once seen x xs r = append_none_right (if_so (name_is_one_of seen x.name) x.spot) (repeated (x.name ∷ seen) xs) r

-- those after a name have another
others_after : (seen : List (List ℕ)) (x : Named) (xs : List Named) (m : List ℕ) → repeated seen (x ∷ xs) ≡ [] → same_name x.name m ≡ true →
    AllByRecursion (λ (n : Named). same_name n.name m ≡ false) xs
others_after seen x xs m r t =
    all_weaker (λ (n : Named). name_is_one_of (x.name ∷ seen) n.name ≡ false) (λ (n : Named). same_name n.name m ≡ false)
    (λ n u.
    turned n.name m ∙ ap (λ (z : List ℕ). same_name z n.name) (sym (same_name_is x.name m t)) ∙ nor_first (same_name x.name n.name) (name_is_one_of seen n.name) u) xs
    (unseen (x.name ∷ seen) xs (rest_once seen x xs r))

later_others : (seen : List (List ℕ)) (xs ys : List Named) (m : List ℕ) → repeated seen (xs ++ ys) ≡ [] → is_named_in xs m ≡ true →
    AllByRecursion (λ (n : Named). same_name n.name m ≡ false) ys
later_others seen [] ys m r e = absurd (let clash : false ≡ true = e in cc)
later_others seen (x ∷ xs) ys m r e = by (same_name x.name m) refl e (later_others (x.name ∷ seen) xs ys m (rest_once seen x (xs ++ ys) r))
  where
    by : (b : Bool) → same_name x.name m ≡ b → (if b then true else is_named_in xs m) ≡ true →
        (is_named_in xs m ≡ true → AllByRecursion (λ (n : Named). same_name n.name m ≡ false) ys) → AllByRecursion (λ (n : Named). same_name n.name m ≡ false) ys
    by true t q on = all_right (λ (n : Named). same_name n.name m ≡ false) xs ys (others_after seen x (xs ++ ys) m r t)
    by false t q on = on q

once_back : (seen : List (List ℕ)) (xs ys : List Named) → repeated seen (xs ++ ys) ≡ [] → (more : List (List ℕ)) × (repeated more ys ≡ [])
once_back seen [] ys r = (seen, r)
once_back seen (x ∷ xs) ys r = once_back (x.name ∷ seen) xs ys (rest_once seen x (xs ++ ys) r)

-- ---- the name of the parameter that stands at a place

abbrev name_at : List Named → Spot → Option (List ℕ)
name_at [] spot = None
name_at (p ∷ ps) spot = if same_spot p.spot spot then Some p.name else name_at ps spot

abbrev is_called : Option (List ℕ) → List ℕ → Bool
is_called None name = false
is_called (Some m) name = same_name m name

nowhere_called : (ps : List Named) (name : List ℕ) (spot : Spot) → AllByRecursion (λ (n : Named). same_name n.name name ≡ false) ps → is_called (name_at ps spot) name ≡ false
nowhere_called [] name spot h = refl
nowhere_called (p ∷ ps) name spot h = by (same_spot p.spot spot) (nowhere_called ps name spot h.1)
  where
    by : (b : Bool) → is_called (name_at ps spot) name ≡ false → is_called (if b then Some p.name else name_at ps spot) name ≡ false
    by true later = h.0
    by false later = later

elsewhere : (ps : List Named) (name : List ℕ) (spot at : Spot) → AllByRecursion (λ (n : Named). IsApart n.spot spot) ps → parameter_place_in ps name ≡ Some at → same_spot at spot ≡ false
elsewhere [] name spot at h e = absurd (let clash : None ≡ Some at = e in cc)
elsewhere (p ∷ ps) name spot at h e = by (same_name p.name name) e (elsewhere ps name spot at h.1)
  where
    by : (b : Bool) → (if b then Some p.spot else parameter_place_in ps name) ≡ Some at → (parameter_place_in ps name ≡ Some at → same_spot at spot ≡ false) → same_spot at spot ≡ false
    by true q later =
        let same : p.spot ≡ at = cc in
        subst (λ (z : Spot). same_spot z spot ≡ false) same h.0
    by false q later = later q

far : (s spot : Spot) (ps : List Named) → s ≡ spot → AllByRecursion (IsApart s) (spots_of_names ps) → AllByRecursion (λ (n : Named). IsApart n.spot spot) ps
far s spot [] e h = tt
far s spot (p ∷ ps) e h = (subst (IsApart p.spot) e (apart_turned s p.spot h.0), far s spot ps e h.1)

-- Where the parameter of a name stands there, the parameter there has this name.
meets : (seen : List (List ℕ)) (ps : List Named) (name : List ℕ) (spot at : Spot) → repeated seen ps ≡ [] → AreApart (spots_of_names ps) → parameter_place_in ps name ≡ Some at →
    same_spot at spot ≡ is_called (name_at ps spot) name
meets seen [] name spot at r a e = absurd (let clash : None ≡ Some at = e in cc)
meets seen (p ∷ ps) name spot at r a e = by (same_name p.name name) refl (same_spot p.spot spot) refl e (meets (p.name ∷ seen) ps name spot at (rest_once seen p ps r) a.1)
  where
    here : (b : Bool) → same_spot p.spot spot ≡ b → Some p.spot ≡ Some at → same_spot at spot ≡ b
    here b s q =
        let same : p.spot ≡ at = cc in
        ap (λ (z : Spot). same_spot z spot) (sym same) ∙ s

    by : (b : Bool) → same_name p.name name ≡ b → (c : Bool) → same_spot p.spot spot ≡ c → (if b then Some p.spot else parameter_place_in ps name) ≡ Some at →
        (parameter_place_in ps name ≡ Some at → same_spot at spot ≡ is_called (name_at ps spot) name) → same_spot at spot ≡ is_called (if c then Some p.name else name_at ps spot) name
    by true n true s q later = here true s q ∙ sym n
    by true n false s q later = here false s q ∙ sym (nowhere_called ps name spot (others_after seen p ps name r n))
    by false n true s q later = elsewhere ps name spot at (far p.spot spot ps (same_spot_is p.spot spot s) a.0) q ∙ sym n
    by false n false s q later = later q

-- ---- what a heading specifies of a place

abbrev lows_called : List Spec → Option (List ℕ) → Option Lows
lows_called specs None = None
lows_called specs (Some m) = lows_in_shape (shape_in specs m)

among_called : (specs : List Spec) (ps : List Named) (spot : Spot) → lows_among specs ps spot ≡ lows_called specs (name_at ps spot)
among_called specs [] spot = refl
among_called specs (p ∷ ps) spot = by (same_spot p.spot spot) (among_called specs ps spot)
  where
    by : (b : Bool) → lows_among specs ps spot ≡ lows_called specs (name_at ps spot) →
        (if b then lows_in_shape (shape_in specs p.name) else lows_among specs ps spot) ≡ lows_called specs (if b then Some p.name else name_at ps spot)
    by true later = refl
    by false later = later

joined : (b c : Bool) (lows : Lows) → or_lows (if b then Some lows else None) (if c then Some lows else None) ≡ (if (if b then true else c) then Some lows else None)
joined true c lows = refl
joined false c lows = refl

abbrev parameter_lows : List ℤ → Lows
parameter_lows lows = record { list = lows; formal = true }

module _ (s : Scopes) (h : Heading) (spot : Spot) where
  -- the parameter that stands at the place has this name, or there is none
  abbrev Agrees : Option (List ℕ) → Type 0
  Agrees m = (n : Named) (t : TellsParameter s h n) → same_spot t.told.spot spot ≡ is_called m n.name

  one_lows : (m : Option (List ℕ)) → Agrees m → (n : Named) (lows : List ℤ) → TellsParameter s h n →
      lows_meant (declaration_of s n.spot) lows spot ≡ (if is_called m n.name then Some (parameter_lows lows) else None)
  one_lows m g n lows t = ap (λ o. lows_meant o lows spot) t.answers ∙ ap (λ (b : Bool). if b then Some (parameter_lows lows) else None) (g n t)

  -- ---- names of which none is at the place

  abbrev IsAway : Named → Type 0
  IsAway n = (lows : List ℤ) → lows_meant (declaration_of s n.spot) lows spot ≡ None

  away_other : (m : List ℕ) → Agrees (Some m) → (n : Named) → TellsParameter s h n → same_name n.name m ≡ false → IsAway n
  away_other m g n t e lows = one_lows (Some m) g n lows t ∙ ap (λ (b : Bool). if b then Some (parameter_lows lows) else None) (turned m n.name ∙ e)

  others_away : (m : List ℕ) → Agrees (Some m) → (ns : List Named) → AllByRecursion (TellsParameter s h) ns → AllByRecursion (λ (n : Named). same_name n.name m ≡ false) ns →
      AllByRecursion IsAway ns
  others_away m g [] t e = tt
  others_away m g (n ∷ ns) t e = (away_other m g n t.0 e.0, others_away m g ns t.1 e.1)

  names_away : (ns : List Named) (lows : List ℤ) → AllByRecursion IsAway ns → lows_of_names s ns lows spot ≡ None
  names_away [] lows a = refl
  names_away (n ∷ ns) lows a = ap (λ (o : Option Lows). or_lows o (lows_of_names s ns lows spot)) (a.0 lows) ∙ names_away ns lows a.1

  specs_away : (xs : List Spec) → AllByRecursion IsAway (flat_map names_of_spec xs) → lows_of_specs s xs spot ≡ None
  specs_away [] a = refl
  specs_away (spec.Simple kind ns ∷ xs) a = specs_away xs (all_right IsAway ns (flat_map names_of_spec xs) a)
  specs_away (spec.Events ns ∷ xs) a = specs_away xs (all_right IsAway ns (flat_map names_of_spec xs) a)
  specs_away (spec.Arrays kind ns lows ∷ xs) a =
      ap (λ (o : Option Lows). or_lows o (lows_of_specs s xs spot)) (names_away ns lows (all_left IsAway ns (flat_map names_of_spec xs) a))
      ∙ specs_away xs (all_right IsAway ns (flat_map names_of_spec xs) a)

  -- ---- names of which one is

  module _ (m : List ℕ) (g : Agrees (Some m)) where
    names_met : (ns : List Named) (lows : List ℤ) → AllByRecursion (TellsParameter s h) ns → lows_of_names s ns lows spot ≡ (if is_named_in ns m then Some (parameter_lows lows) else None)
    names_met [] lows t = refl
    names_met (n ∷ ns) lows t =
        ap (λ (o : Option Lows). or_lows o (lows_of_names s ns lows spot)) (one_lows (Some m) g n lows t.0)
        ∙ ap (λ (o : Option Lows). or_lows (if same_name m n.name then Some (parameter_lows lows) else None) o) (names_met ns lows t.1)
        ∙ joined (same_name m n.name) (is_named_in ns m) (parameter_lows lows)
        ∙ ap (λ (b : Bool). if (if b then true else is_named_in ns m) then Some (parameter_lows lows) else None) (turned m n.name)

    -- the first specification of the name is the only one
    named_so : (seen : List (List ℕ)) (ns : List Named) (xs : List Spec) → AllByRecursion (TellsParameter s h) (flat_map names_of_spec xs) →
        repeated seen (ns ++ flat_map names_of_spec xs) ≡ [] → lows_of_specs s xs spot ≡ lows_in_shape (shape_in xs m) →
        lows_of_specs s xs spot ≡ lows_in_shape (if is_named_in ns m then None else shape_in xs m)
    named_so seen ns xs t r later = by (is_named_in ns m) refl
      where
        by : (b : Bool) → is_named_in ns m ≡ b → lows_of_specs s xs spot ≡ lows_in_shape (if b then None else shape_in xs m)
        by true e = specs_away xs (others_away m g (flat_map names_of_spec xs) t (later_others seen ns (flat_map names_of_spec xs) m r e))
        by false e = later

    arrays_so : (kind : Kind) (lows : List ℤ) (xs : List Spec) (b : Bool) → lows_of_specs s xs spot ≡ lows_in_shape (shape_in xs m) →
        or_lows (if b then Some (parameter_lows lows) else None) (lows_of_specs s xs spot) ≡ lows_in_shape (if b then Some (record { kind = kind; lows = lows }) else shape_in xs m)
    arrays_so kind lows xs true later = refl
    arrays_so kind lows xs false later = later

    specs_met : (seen : List (List ℕ)) (xs : List Spec) → AllByRecursion (TellsParameter s h) (flat_map names_of_spec xs) → repeated seen (flat_map names_of_spec xs) ≡ [] →
        lows_of_specs s xs spot ≡ lows_in_shape (shape_in xs m)
    specs_met seen [] t r = refl
    specs_met seen (spec.Simple kind ns ∷ xs) t r =
        let more = all_right (TellsParameter s h) ns (flat_map names_of_spec xs) t in
        let once = once_back seen ns (flat_map names_of_spec xs) r in
        named_so seen ns xs more r (specs_met once.0 xs more once.1)
    specs_met seen (spec.Events ns ∷ xs) t r =
        let more = all_right (TellsParameter s h) ns (flat_map names_of_spec xs) t in
        let once = once_back seen ns (flat_map names_of_spec xs) r in
        named_so seen ns xs more r (specs_met once.0 xs more once.1)
    specs_met seen (spec.Arrays kind ns lows ∷ xs) t r =
        let more = all_right (TellsParameter s h) ns (flat_map names_of_spec xs) t in
        let once = once_back seen ns (flat_map names_of_spec xs) r in
        ap (λ (o : Option Lows). or_lows o (lows_of_specs s xs spot)) (names_met ns lows (all_left (TellsParameter s h) ns (flat_map names_of_spec xs) t))
        ∙ arrays_so kind lows xs (is_named_in ns m) (specs_met once.0 xs more once.1)

  by_name : (m : Option (List ℕ)) → TellsParameters s h → Agrees m → lows_of_specs s h.specs spot ≡ lows_called h.specs m
  by_name None t g = specs_away h.specs (all_weaker (TellsParameter s h) IsAway (λ n k lows. one_lows None g n lows k) (specified h) t.mentioned)
  by_name (Some m) t g = specs_met m g [] h.specs t.mentioned t.mentioned_once

pub lows_alike : (s : Scopes) (h : Heading) → TellsParameters s h → AreApart (spots_of_names h.params) → (spot : Spot) → lows_of_specs s h.specs spot ≡ lows_among h.specs h.params spot
lows_alike s h t a spot =
    by_name s h spot (name_at h.params spot) t (λ n k. meets (result_names h) h.params n.name spot k.told.spot t.once a k.place)
    ∙ sym (among_called h.specs h.params spot)
