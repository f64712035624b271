-- An operator that is told by its line.
use Rattle.std.proofs.Common.{◌≡◌, ℕ, ◌+◌, ◌-◌, ◌%◌, ◌≤◌, Option, Some, List, ◌∷◌, ◌++◌, length, replicate, refl, sym, ap, subst, arith, ◌∙◌, length-append}
use Rattle.std.specs.Int.{bytes_high_first}
use Rattle.b67_ops.specs.declared.TheConstants.{OUTER_LEVEL, MOST_LEVEL}
use Rattle.b67_ops.specs.declared.Operator.{Operator}
use Rattle.b67_ops.specs.declared.Operator.TheVariants.{Valc, Namc, Lt8, Lt16, Lt48, Mpcw, Branch, Plain}
use Rattle.b67_ops.specs.declared.table.OperatorKind.TheVariants as kinds
use Rattle.b67_ops.specs.Codes.{code_of}
use Rattle.b67_ops.specs.Spelling.{spelling, Fits, filling, OperatorStands}
use Rattle.b67_ops.proofs.Laws.{Stands_appended, Stands_unique}
use Rattle.b67_listing.specs.Operators.{ListedOperator, operator_line}
use Rattle.b67_listing_reader.specs.declared.operators.Told.{Told}
use Rattle.b67_listing_reader.specs.Reading.{OperatorCanStand, width, level_part, syllables_in, TellsNone, LinesTell}
use Rattle.b67_listing_reader.proofs.Lines.{line_tail, level_back, text_back}

-- places that are filled alike spell alike
spelled_alike : (a b level : ℕ) (op : Operator) → filling a ≡ filling b → spelling a level op ≡ spelling b level op
spelled_alike a b level (Valc couple) e = refl
spelled_alike a b level (Namc couple) e = refl
spelled_alike a b level (Lt8 n) e = refl
spelled_alike a b level (Lt16 n) e = refl
spelled_alike a b level (Lt48 n) e = ap (λ k. code_of kinds.Lt48 ∷ (replicate k 0 ++ bytes_high_first 6 n)) e
spelled_alike a b level (Mpcw n) e = ap (λ k. code_of kinds.Mpcw ∷ (replicate k 0 ++ bytes_high_first 6 n)) e
spelled_alike a b level (Branch kind place) e = refl
spelled_alike a b level (Plain kind) e = refl

-- so many syllables before an operator are as good as its place
abbrev IsBefore : List ℕ → ℕ → Type 0
IsBefore old at = length old ≡ at % 6

here : (old : List ℕ) (at level : ℕ) (op : Operator) → IsBefore old at → spelling (length old) level op ≡ spelling at level op
here old at level op before =
    let same : filling (length old) ≡ filling at = omega arith in
    spelled_alike (length old) at level op same

-- an operator whose line this is, where these are its level and what stands after it, and its syllables are added to others
record Known (new : List ℕ) (old : List ℕ) (level : ℕ) (p : ListedOperator) : Type 0 where
  level_is : p.level ≡ level
  stands : OperatorStands new (length old) level p.operator (length new)

known : (line old new text : List ℕ) (level at : ℕ) (p : ListedOperator) → IsBefore old at → level_part line ≡ Some (level, text) → new ≡ old ++ syllables_in 12 text → OperatorCanStand at p → line ≡ operator_line p →
    Known new old level p
known line old new text level at p before found added can e =
    let both : ◌≡◌ {A = Option (ℕ × List ℕ)} (Some (level, text)) (Some (p.level, line_tail p)) = sym found ∙ ap level_part e ∙ level_back p can.least can.most in
    let pairs : ◌≡◌ {A = ℕ × List ℕ} (level, text) (p.level, line_tail p) = cc in
    let levels : p.level ≡ level = sym (ap (λ (x : ℕ × List ℕ). x.0) pairs) in
    let texts : text ≡ line_tail p = ap (λ (x : ℕ × List ℕ). x.1) pairs in
    let spelled_is : syllables_in 12 text ≡ spelling (length old) level p.operator =
    ap (syllables_in 12) texts ∙ text_back p can.fits ∙ ap (λ k. spelling k p.level p.operator) can.place_is ∙ ap (λ l. spelling at l p.operator) levels ∙ sym (here old at level p.operator before) in
    let new_is : new ≡ old ++ spelling (length old) level p.operator = added ∙ ap (λ t. old ++ t) spelled_is in
    let long : length new ≡ length old + length (spelling (length old) level p.operator) = ap length new_is ∙ length-append old (spelling (length old) level p.operator) in
    let appended = Stands_appended old level p.operator (subst (λ l. Fits l p.operator) levels can.fits) in
    record {
      level_is = levels;
      stands = subst (λ k. OperatorStands new (length old) level p.operator k) (sym long) (subst (λ bs. OperatorStands bs (length old) level p.operator (length old + length (spelling (length old) level p.operator))) (sym new_is) appended);
    }

-- syllables that are no operator's
pub no_syllables : (line old new text : List ℕ) (level at : ℕ) → IsBefore old at → level_part line ≡ Some (level, text) → new ≡ old ++ syllables_in 12 text →
    ((op : Operator) (next : ℕ) → OperatorStands new (length old) level op next → ⊥) → TellsNone line at
no_syllables line old new text level at before found added none p can e =
    none p.operator (length new) (known line old new text level at p before found added can e).stands

-- an operator that ends elsewhere
pub no_end : (line old new text : List ℕ) (level at : ℕ) (op : Operator) (next : ℕ) → IsBefore old at → level ≤ MOST_LEVEL → level_part line ≡ Some (level, text) → new ≡ old ++ syllables_in 12 text →
    OperatorStands new (length old) level op next → (next ≡ length new → ⊥) → TellsNone line at
no_end line old new text level at op next before small found added stands other p can e =
    other (Stands_unique small stands (known line old new text level at p before found added can e).stands).1

-- and one that is told
pub tells : (line old new text : List ℕ) (level at : ℕ) (op : Operator) (next : ℕ) (told : Told) → IsBefore old at → OUTER_LEVEL ≤ level → level ≤ MOST_LEVEL →
    level_part line ≡ Some (level, text) → new ≡ old ++ syllables_in 12 text → OperatorStands new (length old) level op next → next ≡ length new →
    told ≡ record { level = level; operator = op; width = next - length old } → LinesTell line at told
tells line old new text level at op next told before least small found added stands ends is =
    let p : ListedOperator = record { place = at; level = level; operator = op } in
    let size = stands.next_is in
    let wide : next - length old ≡ width p = omega (arith, ap length (here old at level op before)) in
    subst (λ (t : Told). LinesTell line at t) (sym is) (
      wide,
      record {
        stands = record { place_is = refl; least = least; most = small; fits = stands.fits };
        only = λ other can e.
            let k = known line old new text level at other before found added can e in
            let one = Stands_unique small stands k.stands in
            ap (λ n. let r : ListedOperator = record { place = n; level = other.level; operator = other.operator } in r) can.place_is
            ∙ ap (λ l. let r : ListedOperator = record { place = at; level = l; operator = other.operator } in r) k.level_is
            ∙ ap (λ o. let r : ListedOperator = record { place = at; level = level; operator = o } in r) (sym one.0);
      },
    )
