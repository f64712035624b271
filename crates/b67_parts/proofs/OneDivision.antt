-- An input has one division at a mark.
use Rattle.std.proofs.Common.{◌≡◌, ℕ, List, ◌∷◌, ◌++◌, length, take, get_or, Option, Some, None, refl, sym, ap, ◌∙◌, subst, arith}
use Rattle.std.proofs.lemmas.List.{append_cancel_left, take_at}
use Rattle.b67_parts.specs.Parts.{Ends, by_line_feed, by_return, by_end, RecordBegins, Divides, Parts}

-- an LF is no CR
apart : {B : Type 0} (text later : List ℕ) → 10 ∷ text ≡ 13 ∷ later → B
apart text later e = differ (get_or (10 ∷ text) 0 0) (get_or (13 ∷ later) 0 0) refl refl (ap (λ (bs : List ℕ). get_or bs 0 0) e)
  where
    differ : {B : Type 0} (a b : ℕ) → a ≡ 10 → b ≡ 13 → a ≡ b → B
    differ a b p q same = absurd (omega arith)

-- what stands after the end of a record is determined
same_end : (bytes text later : List ℕ) → Ends bytes text → Ends bytes later → text ≡ later
same_end bytes text later (by_line_feed e) (by_line_feed f) = let both = sym e ∙ f in cc
same_end bytes text later (by_line_feed e) (by_return f) = apart text (10 ∷ later) (sym e ∙ f)
same_end bytes text later (by_line_feed e) (by_end f g) = let both = sym e ∙ f in absurd cc
same_end bytes text later (by_return e) (by_line_feed f) = apart later (10 ∷ text) (sym f ∙ e)
same_end bytes text later (by_return e) (by_return f) = let both = sym e ∙ f in cc
same_end bytes text later (by_return e) (by_end f g) = let both = sym e ∙ f in absurd cc
same_end bytes text later (by_end e g) (by_line_feed f) = let both = sym e ∙ f in absurd cc
same_end bytes text later (by_end e g) (by_return f) = let both = sym e ∙ f in absurd cc
same_end bytes text later (by_end e g) (by_end f h) = g ∙ sym h

same_text : (mark bytes text later : List ℕ) → RecordBegins mark bytes text → RecordBegins mark bytes later → text ≡ later
same_text mark bytes text later one other =
    let rest = append_cancel_left mark other.rest one.rest (sym other.are ∙ one.are) in
    same_end one.rest text later one.ends (subst (λ bs. Ends bs later) rest other.ends)

-- two marks that begin after equally many bytes
same_divide : (mark bytes source other text later : List ℕ) → Divides mark bytes source text → Divides mark bytes other later → length source ≡ length other →
    (source ≡ other) × (Some text ≡ Some later)
same_divide mark bytes source other text later one two size =
    let source_is = take_at source one.rest (length other) size in
    let other_is = take_at other two.rest (length other) refl in
    let same : source ≡ other = sym source_is ∙ ap (λ bs. take (length other) bs) (sym one.are ∙ two.are) ∙ other_is in
    let rest : two.rest ≡ one.rest = append_cancel_left other two.rest one.rest (sym two.are ∙ one.are ∙ ap (λ s. s ++ one.rest) same) in
    let ends : text ≡ later = same_text mark one.rest text later one.marked (subst (λ bs. RecordBegins mark bs later) rest two.marked) in
    (same, ap Some ends)

pub one_division : (mark bytes source other : List ℕ) (text later : Option (List ℕ)) → Parts mark bytes source text → Parts mark bytes other later → (source ≡ other) × (text ≡ later)
one_division mark bytes source other None None one two = (one.0 ∙ sym two.0, refl)
one_division mark bytes source other None (Some later) one two = absurd (one.1 other later two.0)
one_division mark bytes source other (Some text) None one two = absurd (two.1 source text one.0)
one_division mark bytes source other (Some text) (Some later) one two =
    let less = one.1 other later two.0 in
    let more = two.1 source text one.0 in
    same_divide mark bytes source other text later one.0 two.0 (omega arith)
