-- The lower bounds in what is read from tokens are whole, where the tokens are right: those of the arrays that a heading specifies, of which
-- each has one or two.
use Rattle.std.proofs.Common.{ℤ, pos, negsuc, neg_ℤ, ◌-ℤ◌, zero, suc, List, sym, subst}
use Rattle.std.specs.List.{AllByRecursion}
use Rattle.std.proofs.Math.IntN.{+ℤ_idl}
use Rattle.algol_tree.specs.declared.token.Token.{Token}
use Rattle.algol_tree.specs.declared.tree.Heading.{Heading}
use Rattle.algol_tree.specs.declared.tree.Spec.{Spec}
use Rattle.algol_tree.specs.Headings as headings
use Rattle.algol_tree.specs.Headings.{IsLiteral, IsLows, IsSpec, IsSpecs, IsHeading}
use Rattle.b67_templates.specs.Fragments.{IsWholeNumber}
use Rattle.b67_fitting.specs.Wholes.{HaveDimensions, SpecWhole}
use Rattle.b67_fitting.proofs.Behind.{behind_names, behind_typed, behind_spec, behind_values}
use Rattle.b67_fitting.proofs.Lexed.{KindRight, TokenRight, AreRight}

-- what was read, and what stands after it
abbrev pub Read : Type 0 → List Token → Type 0
Read what rest = what × AreRight rest

-- a sign leaves the magnitude
negated_whole : (z : ℤ) → IsWholeNumber z → IsWholeNumber (neg_ℤ z)
negated_whole (pos zero) h = h
negated_whole (pos (suc n)) h = h
negated_whole (negsuc n) h = h

opposite_whole : (z : ℤ) → IsWholeNumber z → IsWholeNumber (pos 0 -ℤ z)
opposite_whole z h = subst IsWholeNumber (sym (+ℤ_idl (neg_ℤ z))) (negated_whole z h)

pub literal_whole : {from : List Token} {low : ℤ} {rest : List Token} → IsLiteral from low rest → AreRight from → Read (IsWholeNumber low) rest
literal_whole (headings.positive t value rest i) w = (subst KindRight i w.0, w.1)
literal_whole (headings.negative t u value rest i j) w = (opposite_whole value (subst KindRight j w.1.0), w.1.1)

lows_whole : {from : List Token} {lows : List ℤ} {rest : List Token} → IsLows from lows rest → AreRight from → HaveDimensions lows
lows_whole (headings.one low from rest x) w = (literal_whole x w).0
lows_whole (headings.two u low other from after rest x i y) w =
    let one = literal_whole x w in
    (one.0, (literal_whole y one.1.1).0)

spec_whole : {from : List Token} {s : Spec} {rest : List Token} → IsSpec from s rest → AreRight from → SpecWhole s
spec_whole (headings.simple t u kind ns from rest i x j) w = tt
spec_whole (headings.events t u ns from rest i x j) w = tt
spec_whole (headings.arrays t u v w kind ns lows from names mid rest x i y j z k l) h =
    lows_whole z (behind_names TokenRight y (behind_typed TokenRight x h).1).1

specs_whole : {from : List Token} {ss : List Spec} {rest : List Token} → IsSpecs from ss rest → AreRight from → AllByRecursion SpecWhole ss
specs_whole (headings.last s from rest x) w = (spec_whole x w, tt)
specs_whole (headings.on s ss from mid rest x y) w = (spec_whole x w, specs_whole y (behind_spec TokenRight x w))

pub heading_whole : {from : List Token} {h : Heading} {rest : List Token} → IsHeading from h rest → AreRight from → AllByRecursion SpecWhole h.specs
heading_whole (headings.without t u v kind n from rest x i k j) w = tt
heading_whole (headings.with_params t u v w x kind n params values ss from names mid after rest y i k j z l m vs sp) h =
    specs_whole sp (behind_values TokenRight vs (behind_names TokenRight z (behind_typed TokenRight y h).1.1.1).1.1)
