-- What a parameter of a heading is given: by value a value of its kind, by name a name of its kind, as an array one of its shape, or an event.
use Rattle.std.proofs.Common.{◌≡◌, Bool, true, false, length, Option, Some, ap, ◌∙◌}
use Rattle.algol_tree.specs.declared.tree.Heading.{Heading}
use Rattle.algol_tree.specs.declared.tree.Kind.{Kind}
use Rattle.algol_tree.specs.declared.tree.Named.{Named}
use Rattle.algol_tree.specs.Classes as class
use Rattle.algol_tree.specs.Classes.{Class}
use Rattle.algol_tree.specs.Sorts.{is_named_in, class_in}
use Rattle.algol_paths.specs.Arrays.{Shape, shape_in}
use Rattle.b67_templates.specs.Cells.{Wanted, value, by_name, array, event, wanted_for}

abbrev pub wanted_of : Heading → Named → Wanted
wanted_of h n = wanted_for (class_in h.specs n.name) (is_named_in h.values n.name) (shape_in h.specs n.name)

pub wanted_value : (h : Heading) (n : Named) (kind : Kind) → class_in h.specs n.name ≡ class.simple kind → is_named_in h.values n.name ≡ true → wanted_of h n ≡ value kind
wanted_value h n kind c v =
    ap (λ (z : Class). wanted_for z (is_named_in h.values n.name) (shape_in h.specs n.name)) c
    ∙ ap (λ (b : Bool). wanted_for (class.simple kind) b (shape_in h.specs n.name)) v

pub wanted_name : (h : Heading) (n : Named) (kind : Kind) → class_in h.specs n.name ≡ class.simple kind → is_named_in h.values n.name ≡ false → wanted_of h n ≡ by_name kind
wanted_name h n kind c v =
    ap (λ (z : Class). wanted_for z (is_named_in h.values n.name) (shape_in h.specs n.name)) c
    ∙ ap (λ (b : Bool). wanted_for (class.simple kind) b (shape_in h.specs n.name)) v

pub wanted_array : (h : Heading) (n : Named) (shape : Shape) → class_in h.specs n.name ≡ class.array shape.kind (length shape.lows) → shape_in h.specs n.name ≡ Some shape →
    wanted_of h n ≡ array shape
wanted_array h n shape c s =
    ap (λ (z : Class). wanted_for z (is_named_in h.values n.name) (shape_in h.specs n.name)) c
    ∙ ap (λ (o : Option Shape). wanted_for (class.array shape.kind (length shape.lows)) (is_named_in h.values n.name) o) s

pub wanted_event : (h : Heading) (n : Named) → class_in h.specs n.name ≡ class.event → wanted_of h n ≡ event
wanted_event h n c = ap (λ (z : Class). wanted_for z (is_named_in h.values n.name) (shape_in h.specs n.name)) c
