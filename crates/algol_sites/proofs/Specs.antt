-- What a heading says of its parameters, as the rules have it, and its faults name by name.
use Rattle.std.proofs.Common.{◌≡◌, ℕ, ◌+◌, ◌<◌, Bool, true, false, List, [], ◌∷◌, length, drop, get_or, Option, refl, ap, sym, ◌∙◌}
use Rattle.std.specs.Prelude.{if◌then◌else◌}
use Rattle.algol_tree.specs.declared.tree.Heading.{Heading}
use Rattle.algol_tree.specs.declared.tree.Named.{Named}
use Rattle.algol_tree.specs.declared.tree.Spec.{Spec}
use Rattle.algol_tree.specs.declared.tree.Spec.TheVariants as specs'
use Rattle.algol_tree.specs.Classes.{is_unspecified}
use Rattle.algol_tree.specs.Sorts.{class_by, class_in, is_named_in, specified_by}
use Rattle.algol_tree.specs.Accepted.{noted_all}
use Rattle.algol_tree.specs.declared.refusal.Fault.{Fault}
use Rattle.algol_tree.specs.declared.refusal.Code.TheVariants as codes
use Rattle.algol_sorts.specs.declared.sort.Sort.{Sort}
use Rattle.algol_sorts.specs.declared.heading.Specified.{Specified}
use Rattle.algol_sorts.specs.Sorts.{parameter_by}
use Rattle.algol_sorts.specs.Specified.{SaysAll, told_sort}
use Rattle.algol_rules.proofs.Order.{noted_all_append}
use Rattle.b67_list.proofs.Lists.{drop_read}
use Rattle.algol_sites.specs.Seen.{class_seen}
use Rattle.algol_sites.specs.Headings.{faulty, is_reference}
use Rattle.algol_sites.specs.Noting.{broken_if}

by_seen : (s : Spec) (value : Bool) → class_seen (parameter_by (class_by s) value) ≡ class_by s
by_seen (specs'.Simple kind ns) true = refl
by_seen (specs'.Simple kind ns) false = refl
by_seen (specs'.Events ns) value = refl
by_seen (specs'.Arrays kind ns lows) value = refl

-- a parameter is seen as what the specifications say
pub formal_seen : (ss : List Spec) (name : List ℕ) (value : Bool) → class_seen (parameter_by (class_in ss name) value) ≡ class_in ss name
formal_seen [] name value = refl
formal_seen (s ∷ ss) name value = decide (specified_by s name) (formal_seen ss name value)
  where
    decide : (b : Bool) → class_seen (parameter_by (class_in ss name) value) ≡ class_in ss name →
        class_seen (parameter_by (if b then class_by s else class_in ss name) value) ≡ (if b then class_by s else class_in ss name)
    decide true h = by_seen s value
    decide false h = h

-- ---- faults of names

pub faulty_step : (test : Named → Bool) (ns : List Named) (i : ℕ) (n : Named) (b : Bool) (f g : Option Fault) → i < length ns → n ≡ get_or ns i n → b ≡ test n →
    g ≡ noted_all f (broken_if codes.WrongType b n.spot) → noted_all g (faulty test (drop (i + 1) ns)) ≡ noted_all f (faulty test (drop i ns))
faulty_step test ns i n b f g h e p q =
    ap (λ o. noted_all o (faulty test (drop (i + 1) ns))) (q ∙ ap (λ x. noted_all f (broken_if codes.WrongType x n.spot)) p)
    ∙ sym (noted_all_append f (broken_if codes.WrongType (test n) n.spot) (faulty test (drop (i + 1) ns)))
    ∙ sym (ap (λ xs. noted_all f (faulty test xs)) (drop_read ns i n h e))

-- what is told of a name is what the specifications say
sort_seen : (specified : Specified) (h : Heading) (s : Sort) (name bytes : List ℕ) → SaysAll specified h → s ≡ told_sort specified bytes → bytes ≡ name →
    class_seen s ≡ class_in h.specs name
sort_seen specified h s name bytes says e p =
    ap class_seen (e ∙ ap (told_sort specified) p ∙ says name) ∙ formal_seen h.specs name (is_named_in h.values name)

pub missing_told : (specified : Specified) (h : Heading) (s : Sort) (name bytes : List ℕ) (b : Bool) → SaysAll specified h → s ≡ told_sort specified bytes → bytes ≡ name →
    b ≡ is_unspecified (class_seen s) → b ≡ is_unspecified (class_in h.specs name)
missing_told specified h s name bytes b says e p q = q ∙ ap is_unspecified (sort_seen specified h s name bytes says e p)

pub referring_told : (specified : Specified) (h : Heading) (s : Sort) (name bytes : List ℕ) (b : Bool) → SaysAll specified h → s ≡ told_sort specified bytes → bytes ≡ name →
    b ≡ is_reference (class_seen s) → b ≡ is_reference (class_in h.specs name)
referring_told specified h s name bytes b says e p q = q ∙ ap is_reference (sort_seen specified h s name bytes says e p)
