-- The parameters of a heading, one by one beside their cells: that of a simple one has its kind, that of an array its shape.
use Rattle.std.proofs.Common.{◌≡◌, List, [], ◌∷◌, map, length, suc, refl, ap}
use Rattle.algol_tree.specs.declared.tree.Heading.{Heading}
use Rattle.algol_tree.specs.declared.tree.Named.{Named}
use Rattle.algol_tree.specs.Sorts.{Parameter, is_variable, is_named_in, sort_in, parameters_of}
use Rattle.b67_templates.specs.Cells.{Simple, parameters_in}
use Rattle.b67_templates.specs.Nested as told
use Rattle.b67_templates.specs.Nested.{CellIsTold, AreTold}
use Rattle.b67_fitting.specs.Typing.{HeadingSpecified}
use Rattle.b67_fitting.proofs.Specified.{IsSpecified, as_value, as_name, as_array, as_event, AreSpecified, specified}
use Rattle.b67_fitting.proofs.Wanting.{wanted_of, wanted_value, wanted_name, wanted_array, wanted_event}

module _ (h : Heading) where
  abbrev pub as_parameter : Named → Parameter
  as_parameter n = record { name = n.name; sort = sort_in h.specs (is_named_in h.values n.name) n.name }

  abbrev as_cell : Named → Simple
  as_cell n = record { name = n.name; wanted = wanted_of h n }

  names_same : (ns : List Named) → map (λ (p : Parameter). p.name) (map as_parameter ns) ≡ map (λ (c : Simple). c.name) (map as_cell ns)
  names_same [] = refl
  names_same (n ∷ ns) = ap (λ z. n.name ∷ z) (names_same ns)

  told_one : (n : Named) → IsSpecified h n → CellIsTold (as_parameter n) (as_cell n)
  told_one n (as_value kind c v s) = told.by_value kind (wanted_value h n kind c v) (ap is_variable s)
  told_one n (as_name kind c v s) = told.by_name kind (wanted_name h n kind c v) s
  told_one n (as_array shape c a s) = told.an_array shape (wanted_array h n shape c a) s
  told_one n (as_event c a s) = told.an_event (wanted_event h n c) s

  told_all : (ns : List Named) → AreSpecified h ns → AreTold (map as_parameter ns) (map as_cell ns)
  told_all [] s = tt
  told_all (n ∷ ns) s = (refl, told_one n s.0, told_all ns s.1)

pub parameter_names : (h : Heading) → map (λ (p : Parameter). p.name) (parameters_of h) ≡ map (λ (c : Simple). c.name) (parameters_in h)
parameter_names h = names_same h h.params

pub parameters_told : (h : Heading) → HeadingSpecified h → AreTold (parameters_of h) (parameters_in h)
parameters_told h b = told_all h h.params (specified h b)

-- there are as many
pub told_many : (ps : List Parameter) (cells : List Simple) → AreTold ps cells → length cells ≡ length ps
told_many [] [] t = refl
told_many (p ∷ ps) (c ∷ cells) t = ap suc (told_many ps cells t.2)
told_many [] (c ∷ cells) t = absurd t
told_many (p ∷ ps) [] t = absurd t
