-- What the scopes tell of a name is what it is declared as, for all that the rules ask of it.
use Rattle.std.proofs.Common.{◌≡◌, ℕ, Bool, List, [], ◌∷◌, map, length, Option, Some, None, refl, ap, sym, ◌∙◌, subst}
use Rattle.std.proofs.lemmas.List.{length-map}
use Rattle.std.specs.Prelude.{◌==◌, ◌&&◌, not, is_some}
use Rattle.algol_tree.specs.declared.token.Spot.{Spot}
use Rattle.algol_tree.specs.declared.refusal.Code.{Code}
use Rattle.algol_tree.specs.declared.refusal.Code.TheVariants as codes
use Rattle.algol_tree.specs.declared.refusal.Fault.{Fault}
use Rattle.algol_tree.specs.declared.tree.Kind.{Kind}
use Rattle.algol_tree.specs.declared.tree.Named.{Named}
use Rattle.algol_tree.specs.declared.tree.Heading.{Heading}
use Rattle.algol_tree.specs.Accepted.{noted_all}
use Rattle.algol_tree.specs.Classes as class
use Rattle.algol_tree.specs.Classes.{Class, is_unspecified}
use Rattle.algol_tree.specs.Sorts as plain
use Rattle.algol_tree.specs.Sorts.{class_in, formals_of, is_named_in}
use Rattle.algol_tree.specs.Surroundings.{Surroundings, class_of, class_of_declared, formals_at, formals_of_class}
use Rattle.algol_tree.specs.Types.{read_type, element_type, result_type}
use Rattle.algol_sorts.specs.declared.sort.Sort.{Sort}
use Rattle.algol_sorts.specs.declared.sort.Sort.TheVariants as sort
use Rattle.algol_sorts.specs.Sorts.{parameter_of, sort_by, sort_of}
use Rattle.algol_frames.specs.declared.scopes.Scopes.{Scopes}
use Rattle.algol_frames.specs.Answers.{parameters_of}
use Rattle.algol_told.specs.Telling.{ScopesTell}
use Rattle.algol_sites.specs.declared.wanted.Wanted.{Wanted}
use Rattle.algol_sites.specs.declared.wanted.Wanted.TheVariants as wanted
use Rattle.algol_sites.specs.Assigning.{can_take, is_within, takes}
use Rattle.algol_sites.specs.Expressing.{has_others, miscounted_actuals, miscounted_subscripts, noted_name, takes_others}
use Rattle.algol_sites.specs.Noting.{broken_if}
use Rattle.algol_sites.specs.Seen.{class_seen, classes_of, formal_as, headed, of_procedure, others_taken, parameters_there, sort_or, sort_there, sorts_or, spot_or, spot_there}
use Rattle.algol_sites.specs.Stating.{is_truth}
use Rattle.algol_sites.specs.Wanting.{is_met, unfit}
use Rattle.algol_sites.proofs.Specs.{formal_seen}

-- the same answers to what the rules ask
pub record Resembles (c d : Class) : Type 0 where
  pub read : read_type c ≡ read_type d
  pub element : element_type c ≡ element_type d
  pub result : result_type c ≡ result_type d
  pub met : (w : Wanted) → is_met w c ≡ is_met w d
  pub unspecified : is_unspecified c ≡ is_unspecified d
  pub others : (count : ℕ) → has_others c count ≡ has_others d count
  pub truth : is_truth c ≡ is_truth d

alike_same : (c : Class) → Resembles c c
alike_same c =
    record { read = refl; element = refl; result = refl; met = λ w. refl; unspecified = refl; others = λ count. refl; truth = refl }

alike_procedure : (h : Heading) → Resembles (class.procedure (headed h.kind)) (class.procedure h)
alike_procedure h =
    record { read = refl; element = refl; result = refl; met = met; unspecified = refl; others = λ count. refl; truth = refl }
  where
    met : (w : Wanted) → is_met w (class.procedure (headed h.kind)) ≡ is_met w (class.procedure h)
    met wanted.Read = refl
    met wanted.Simple = refl
    met wanted.Array = refl
    met (wanted.SuchArray k subscripts) = refl
    met wanted.Event = refl
    met wanted.Task = refl
    met wanted.Label = refl
    met wanted.File = refl
    met wanted.Procedure = refl
    met wanted.Function = refl
    met wanted.Untyped = refl

seen_alike : (c : Class) (s : plain.Sort) → Resembles (class_seen (sort_by c s)) c
seen_alike (class.simple kind) plain.by_name = alike_same (class.simple kind)
seen_alike (class.simple kind) _ = alike_same (class.simple kind)
seen_alike (class.array kind subscripts) (plain.formal_array lows) = alike_same (class.array kind subscripts)
seen_alike (class.array kind subscripts) _ = alike_same (class.array kind subscripts)
seen_alike class.event plain.formal_event = alike_same class.event
seen_alike class.event _ = alike_same class.event
seen_alike class.task s = alike_same class.task
seen_alike class.label s = alike_same class.label
seen_alike class.file s = alike_same class.file
seen_alike (class.procedure h) s = alike_procedure h
seen_alike class.unknown s = alike_same class.unknown

-- ---- of procedures only

taken_by_sort : (c : Class) (s : plain.Sort) (n count : ℕ) → ((h : Heading) → c ≡ class.procedure h → n ≡ length h.params) →
    others_taken (sort_by c s) n count ≡ takes_others c count
taken_by_sort (class.simple kind) plain.by_name n count e = refl
taken_by_sort (class.simple kind) _ n count e = refl
taken_by_sort (class.array kind subscripts) (plain.formal_array lows) n count e = refl
taken_by_sort (class.array kind subscripts) _ n count e = refl
taken_by_sort class.event plain.formal_event n count e = refl
taken_by_sort class.event _ n count e = refl
taken_by_sort class.task s n count e = refl
taken_by_sort class.label s n count e = refl
taken_by_sort class.file s n count e = refl
taken_by_sort (class.procedure h) s n count e = ap (λ z. not (z == count)) (e h refl)
taken_by_sort class.unknown s n count e = refl

formals_by_sort : (c : Class) (s : plain.Sort) (sorts : List Sort) →
    ((h : Heading) → c ≡ class.procedure h → classes_of (map formal_as sorts) ≡ classes_of (formals_of h)) →
    classes_of (map formal_as (of_procedure (sort_by c s) sorts)) ≡ classes_of (formals_of_class c)
formals_by_sort (class.simple kind) plain.by_name sorts e = refl
formals_by_sort (class.simple kind) _ sorts e = refl
formals_by_sort (class.array kind subscripts) (plain.formal_array lows) sorts e = refl
formals_by_sort (class.array kind subscripts) _ sorts e = refl
formals_by_sort class.event plain.formal_event sorts e = refl
formals_by_sort class.event _ sorts e = refl
formals_by_sort class.task s sorts e = refl
formals_by_sort class.label s sorts e = refl
formals_by_sort class.file s sorts e = refl
formals_by_sort (class.procedure h) s sorts e = e h refl
formals_by_sort class.unknown s sorts e = refl

procedure_takes : (kind : Option Kind) (block : Spot) (around : List Spot) (spot : Spot) →
    takes block around (sort.Procedure kind) spot ≡ (is_some kind && is_within block around spot)
procedure_takes None block around spot = refl
procedure_takes (Some kind) block around spot = refl

takes_by_sort : (c : Class) (s : plain.Sort) (block : Spot) (around : List Spot) (spot : Spot) → ((h : Heading) → c ≡ class.procedure h → spot ≡ h.name.spot) →
    takes block around (sort_by c s) spot ≡ can_take block around c
takes_by_sort (class.simple kind) plain.by_name block around spot e = refl
takes_by_sort (class.simple kind) _ block around spot e = refl
takes_by_sort (class.array kind subscripts) (plain.formal_array lows) block around spot e = refl
takes_by_sort (class.array kind subscripts) _ block around spot e = refl
takes_by_sort class.event plain.formal_event block around spot e = refl
takes_by_sort class.event _ block around spot e = refl
takes_by_sort class.task s block around spot e = refl
takes_by_sort class.label s block around spot e = refl
takes_by_sort class.file s block around spot e = refl
takes_by_sort (class.procedure h) s block around spot e =
    procedure_takes h.kind block around spot ∙ ap (λ z. is_some h.kind && is_within block around z) (e h refl)
takes_by_sort class.unknown s block around spot e = refl

-- the parameters of a heading, as they are told
parameters_seen : (h : Heading) (ns : List Named) →
    classes_of (map formal_as (map parameter_of (formals_of (record h { params = ns })))) ≡ classes_of (formals_of (record h { params = ns }))
parameters_seen h [] = refl
parameters_seen h (n ∷ ns) =
    ap (λ c. c ∷ classes_of (map formal_as (map parameter_of (formals_of (record h { params = ns }))))) (formal_seen h.specs n.name (is_named_in h.values n.name))
    ∙ ap (λ cs. class_in h.specs n.name ∷ cs) (parameters_seen h ns)

-- ---- under a place

module _ (s : Scopes) (a : Surroundings) (n : Named) (t : ScopesTell s a n) where
  sort_is : sort_there s n.spot ≡ sort_of t.declared
  sort_is = ap sort_or t.answers ∙ t.sort

  spot_is : spot_there s n.spot ≡ t.declared.spot
  spot_is = ap (spot_or n.spot) t.answers ∙ t.spot

  class_is : class_of a n ≡ t.declared.class
  class_is = ap class_of_declared t.found

  pub class_told : Resembles (class_seen (sort_there s n.spot)) (class_of a n)
  class_told =
      let P : Sort → Type 0 = λ z. Resembles (class_seen z) (class_of a n) in
      let Q : Class → Type 0 = λ z. Resembles (class_seen (sort_of t.declared)) z in
      subst P (sym sort_is) (subst Q (sym class_is) (seen_alike t.declared.class t.declared.sort))

  sorts_are : (h : Heading) → t.declared.class ≡ class.procedure h → sorts_or (parameters_of s (spot_there s n.spot)) ≡ map parameter_of (formals_of h)
  sorts_are h e = ap (λ z. sorts_or (parameters_of s z)) spot_is ∙ ap sorts_or (t.heading h e).parameters

  counted_parameters : (h : Heading) → t.declared.class ≡ class.procedure h → length (parameters_there s n.spot) ≡ length h.params
  counted_parameters h e =
      let there : sort_there s n.spot ≡ sort.Procedure h.kind = sort_is ∙ ap (λ c. sort_by c t.declared.sort) e in
      ap (λ z. length (of_procedure z (sorts_or (parameters_of s (spot_there s n.spot))))) there ∙ ap (λ z. length z) (sorts_are h e)
      ∙ length-map (formals_of h) parameter_of ∙ length-map h.params (λ (m : Named). record { class = class_in h.specs m.name; by_value = is_named_in h.values m.name })

  pub taken_told : (count : ℕ) → others_taken (sort_there s n.spot) (length (parameters_there s n.spot)) count ≡ takes_others (class_of a n) count
  taken_told count =
      ap (λ z. others_taken z (length (parameters_there s n.spot)) count) sort_is
      ∙ taken_by_sort t.declared.class t.declared.sort (length (parameters_there s n.spot)) count counted_parameters
      ∙ ap (λ c. takes_others c count) (sym class_is)

  pub formals_told : classes_of (map formal_as (parameters_there s n.spot)) ≡ classes_of (formals_at a n)
  formals_told =
      let sorts : List Sort = sorts_or (parameters_of s (spot_there s n.spot)) in
      ap (λ z. classes_of (map formal_as (of_procedure z sorts))) sort_is
      ∙ formals_by_sort t.declared.class t.declared.sort sorts (λ h e. ap (λ z. classes_of (map formal_as z)) (sorts_are h e) ∙ parameters_seen h h.params)
      ∙ ap (λ c. classes_of (formals_of_class c)) (sym class_is)

  pub takes_told : (block : Spot) (around : List Spot) → takes block around (sort_there s n.spot) (spot_there s n.spot) ≡ can_take block around (class_of a n)
  takes_told block around =
      ap (λ z. takes block around z (spot_there s n.spot)) sort_is
      ∙ takes_by_sort t.declared.class t.declared.sort block around (spot_there s n.spot) (λ h e. spot_is ∙ (t.heading h e).spot)
      ∙ ap (can_take block around) (sym class_is)

  pub unfit_told : (w : Wanted) (code : Code) (so : Sort) (b : Bool) (f g : Option Fault) → so ≡ sort_there s n.spot →
      b ≡ (not (is_met w (class_seen so)) && not (is_unspecified (class_seen so))) → g ≡ noted_all f (broken_if code b n.spot) →
      g ≡ noted_all f (unfit w code n a)
  unfit_told w code so b f g e p q =
      let N : Bool → Bool → Option Fault = λ x y. noted_all f (broken_if code (not x && not y) n.spot) in
      q ∙ ap (λ z. noted_all f (broken_if code z n.spot)) p
      ∙ ap (λ (z : Sort). noted_all f (broken_if code (not (is_met w (class_seen z)) && not (is_unspecified (class_seen z))) n.spot)) e
      ∙ ap (λ x. N x (is_unspecified (class_seen (sort_there s n.spot)))) (class_told.met w)
      ∙ ap (N (is_met w (class_of a n))) class_told.unspecified

  -- ---- counts

  pub others_told : (count : ℕ) (so : Sort) (b : Bool) (f g : Option Fault) → so ≡ sort_there s n.spot → b ≡ has_others (class_seen so) count →
      g ≡ noted_all f (broken_if codes.WrongCount b n.spot) → g ≡ noted_all f (miscounted_subscripts n count a)
  others_told count so b f g e p q =
      q ∙ ap (λ z. noted_all f (broken_if codes.WrongCount z n.spot)) (p ∙ ap (λ (z : Sort). has_others (class_seen z) count) e ∙ class_told.others count)

  counted_by : (count m : ℕ) (so : Sort) (sorts : List Sort) → so ≡ sort_there s n.spot → sorts ≡ parameters_there s n.spot → m ≡ length sorts →
      others_taken so m count ≡ takes_others (class_of a n) count
  counted_by count m so sorts e p q =
      ap (λ z. others_taken z m count) e ∙ ap (λ z. others_taken (sort_there s n.spot) z count) (q ∙ ap (λ z. length z) p) ∙ taken_told count

  pub counted_told : (count m : ℕ) (so : Sort) (sorts : List Sort) (b : Bool) (f g : Option Fault) → so ≡ sort_there s n.spot →
      sorts ≡ parameters_there s n.spot → m ≡ length sorts → b ≡ others_taken so m count → g ≡ noted_all f (broken_if codes.WrongCount b n.spot) →
      g ≡ noted_all f (miscounted_actuals n count a)
  counted_told count m so sorts b f g e p q r h =
      h ∙ ap (λ z. noted_all f (broken_if codes.WrongCount z n.spot)) (r ∙ counted_by count m so sorts e p q)

  pub read_told : (m : ℕ) (so : Sort) (sorts : List Sort) (b : Bool) (f g h : Option Fault) → so ≡ sort_there s n.spot →
      sorts ≡ parameters_there s n.spot → m ≡ length sorts → b ≡ (is_met wanted.Function (class_seen so) && others_taken so m 0) →
      g ≡ noted_all f (unfit wanted.Read codes.WrongType n a) → h ≡ noted_all g (broken_if codes.WrongCount b n.spot) → h ≡ noted_name f n a
  read_told m so sorts b f g h e p q r k l =
      l ∙ ap (λ z. noted_all z (broken_if codes.WrongCount b n.spot)) k
      ∙ ap (λ z. noted_all (noted_all f (unfit wanted.Read codes.WrongType n a)) (broken_if codes.WrongCount z n.spot))
      (r ∙ ap (λ z. is_met wanted.Function (class_seen so) && z) (counted_by 0 m so sorts e p q)
      ∙ ap (λ z. z && takes_others (class_of a n) 0) (ap (λ (z : Sort). is_met wanted.Function (class_seen z)) e ∙ class_told.met wanted.Function))

  -- ---- names on the left, of elements and of loops

  pub element_told : (so : Sort) → so ≡ sort_there s n.spot → element_type (class_seen so) ≡ element_type (class_of a n)
  element_told so e = ap (λ (z : Sort). element_type (class_seen z)) e ∙ class_told.element

  pub read_by_told : (so : Sort) → so ≡ sort_there s n.spot → read_type (class_seen so) ≡ read_type (class_of a n)
  read_by_told so e = ap (λ (z : Sort). read_type (class_seen z)) e ∙ class_told.read

  pub truth_told : (so : Sort) → so ≡ sort_there s n.spot → is_truth (class_seen so) ≡ is_truth (class_of a n)
  truth_told so e = ap (λ (z : Sort). is_truth (class_seen z)) e ∙ class_told.truth

  pub taking_told : (block : Spot) (around : List Spot) (so : Sort) (spot : Spot) (b : Bool) → so ≡ sort_there s n.spot → spot ≡ spot_there s n.spot →
      b ≡ takes block around so spot → b ≡ can_take block around (class_of a n)
  taking_told block around so spot b e p q =
      q ∙ ap (λ z. takes block around z spot) e ∙ ap (takes block around (sort_there s n.spot)) p ∙ takes_told block around
