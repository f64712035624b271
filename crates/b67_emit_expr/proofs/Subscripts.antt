-- The subscripts of a variable: one or two, and as many lower bounds.
use Rattle.std.proofs.Common.{◌≡◌, ℕ, ◌+◌, ◌<◌, ◌≤◌, List, [], ◌∷◌, length, get_or, ℤ, pos, to_z, of_z, w64, Option, Some, None, refl, sym, ap, ◌∙◌, subst, arith}
use Rattle.std.specs.Prelude.{◌^◌, unsigned_abs, IsSome}
use Rattle.std.proofs.lemmas.Int.{to_z-of_z, fits_signed_from_abs}
use Rattle.algol_tree.specs.declared.tree.Expr.{Expr}
use Rattle.algol_tree.specs.declared.tree.Kind.TheVariants as types
use Rattle.algol_tree.specs.declared.tree.Named.{Named}
use Rattle.algol_tree.specs.declared.tree.Variable.{Variable}
use Rattle.algol_tree.specs.Counts.{expr_tokens, exprs_tokens, variable_tokens}
use Rattle.algol_tree.specs.Image.{expr, exprs, variable}
use Rattle.algol_tree.specs.Plain as tree
use Rattle.algol_tree.specs.Plain.{PExprs, PVariable}
use Rattle.algol_tree.specs.Scopes.{Scopes, use_of}
use Rattle.algol_tree.specs.Sorts.{is_formal}
use Rattle.algol_tree.proofs.Images.{variable_is}
use Rattle.algol_paths.specs.Arrays as arrays
use Rattle.algol_paths.specs.Arrays.{Shape}
use Rattle.b67_ops.specs.declared.Couple.{Couple}
use Rattle.b67_ops.specs.declared.Operator.TheVariants as ops
use Rattle.b67_ops.specs.declared.PlainKind.TheVariants as kinds
use Rattle.b67_ops.specs.Spelling.{CoupleIsSeen}
use Rattle.b67_segment.specs.Operators.{size}
use Rattle.b67_segment.specs.Building.{Built, level_set}
use Rattle.b67_templates.specs.Contexts.{Context}
use Rattle.b67_templates.specs.Cells.{IsArray}
use Rattle.b67_templates.specs.Code.{SubscriptsAt}
use Rattle.b67_templates.specs.Fragments.{Has, IsWholeNumber}
use Rattle.b67_templates.specs.Emitting.{Emitted}
use Rattle.b67_templates.specs.Fitting.{Told, ArrayFits, ExprFits, SubscriptsFit}
use Rattle.b67_templates.specs.Paying.{inline, inline_all}
use Rattle.algol_lows.specs.declared.bounds.Lows.{Lows}
use Rattle.b67_emitter.specs.declared.names.Names.{Names}
use Rattle.b67_emitter.specs.Values.{couples, lows, told_lows as told, meanings, AreNear, HasCode, ElementFits}
use Rattle.b67_emitter.proofs.Appends.{same_level}
use Rattle.b67_emitter.proofs.Composing.{then, weaker}
use Rattle.b67_emitter.proofs.Seen.{some, seen_further}
use Rattle.b67_emit_expr.specs.Subscripting.{SubscriptEmitted, HasSubscripts, SubscriptsEmitted}
use Rattle.b67_emit_expr.proofs.Shapes.{own_name, own_subscripts}
use Rattle.b67_emit_expr.proofs.Couples.{known_array, seen_array}

-- ---- tokens, and syllables

pub first_tokens : (xs : List Expr) (x : Expr) → 0 < length xs → x ≡ get_or xs 0 x → 1 + expr_tokens (expr x) ≤ exprs_tokens (exprs xs)
first_tokens [] x some is = omega arith
first_tokens (y ∷ ys) x some is = omega (arith, ap (λ (z : Expr). expr_tokens (expr z)) is)

pub both_tokens : (xs : List Expr) (x y : Expr) → 1 < length xs → x ≡ get_or xs 0 x → y ≡ get_or xs 1 y →
    2 + expr_tokens (expr x) + expr_tokens (expr y) ≤ exprs_tokens (exprs xs)
both_tokens [] x y some first second = omega arith
both_tokens (z ∷ []) x y some first second = omega arith
both_tokens (z ∷ w ∷ ws) x y some first second =
    omega (arith, ap (λ (u : Expr). expr_tokens (expr u)) first, ap (λ (u : Expr). expr_tokens (expr u)) second)

module _ (told : Told) where
  pub first_syllables : (xs : List Expr) (x : Expr) → 0 < length xs → x ≡ get_or xs 0 x → 12 + inline told (expr x) ≤ inline_all told (exprs xs)
  first_syllables [] x some is = omega arith
  first_syllables (y ∷ ys) x some is = omega (arith, ap (λ (z : Expr). inline told (expr z)) is)

  pub both_syllables : (xs : List Expr) (x y : Expr) → 1 < length xs → x ≡ get_or xs 0 x → y ≡ get_or xs 1 y →
      24 + inline told (expr x) + inline told (expr y) ≤ inline_all told (exprs xs)
  both_syllables [] x y some first second = omega arith
  both_syllables (z ∷ []) x y some first second = omega arith
  both_syllables (z ∷ w ∷ ws) x y some first second =
      omega (arith, ap (λ (u : Expr). inline told (expr u)) first, ap (λ (u : Expr). inline told (expr u)) second)

  all_syllables : (n : Named) (xs : List Expr) → 0 < length xs → inline told (tree.variable (tree.subscripted n (exprs xs))) ≡ 24 + inline_all told (exprs xs)
  all_syllables n [] some = absurd (let none : 0 < 0 = some in omega arith)
  all_syllables n (x ∷ xs) some = omega arith

few_tokens : (n : Named) (es : PExprs) → 1 + exprs_tokens es ≤ variable_tokens (tree.subscripted n es)
few_tokens n tree.none = omega arith
few_tokens n (tree.more e es) = omega arith

pub subscripts_fewer : (v : Variable) → 1 + exprs_tokens (exprs v.subs) ≤ variable_tokens (variable v)
subscripts_fewer v = omega (arith, ap variable_tokens (variable_is v), few_tokens v.name (exprs v.subs))

-- ---- which fit

module _ (s : Names) (scopes : Scopes) (level block : ℕ) where
  abbrev pub Fit : List ℤ → List Expr → Type 0
  Fit ls xs = SubscriptsFit scopes (meanings s) level block ls (exprs xs)

  -- as many as there are lower bounds, and some
  pub as_many : (ls : List ℤ) (xs : List Expr) → Fit ls xs → (length ls ≡ length xs) × (0 < length xs)
  as_many [] xs fit = absurd fit
  as_many (l ∷ []) [] fit = absurd fit
  as_many (l ∷ []) (x ∷ []) fit = (refl, omega arith)
  as_many (l ∷ []) (x ∷ y ∷ ys) fit = absurd fit
  as_many (l ∷ m ∷ []) [] fit = absurd fit
  as_many (l ∷ m ∷ []) (x ∷ []) fit = absurd fit
  as_many (l ∷ m ∷ []) (x ∷ y ∷ []) fit = (refl, omega arith)
  as_many (l ∷ m ∷ []) (x ∷ y ∷ z ∷ zs) fit = absurd fit
  as_many (l ∷ m ∷ n ∷ ns) xs fit = absurd fit

  abbrev IsFitting : ℤ → Expr → Type 0
  IsFitting low x = IsWholeNumber low × ExprFits scopes (meanings s) level block types.Number (expr x)

  named_as : (low l : ℤ) (x y : Expr) → low ≡ l → x ≡ y → IsFitting l y → IsFitting low x
  named_as low l x y p q h = let F : ℤ → Expr → Type 0 = IsFitting in subst (λ z. F z x) (sym p) (subst (F l) (sym q) h)

  pub first_fits : (ls : List ℤ) (xs : List Expr) (low : ℤ) (x : Expr) → Fit ls xs → low ≡ get_or ls 0 (pos 0) → x ≡ get_or xs 0 x → IsFitting low x
  first_fits [] xs low x fit p q = absurd fit
  first_fits (l ∷ []) [] low x fit p q = absurd fit
  first_fits (l ∷ []) (y ∷ []) low x fit p q = named_as low l x y p q fit
  first_fits (l ∷ []) (y ∷ z ∷ zs) low x fit p q = absurd fit
  first_fits (l ∷ m ∷ []) [] low x fit p q = absurd fit
  first_fits (l ∷ m ∷ []) (y ∷ []) low x fit p q = absurd fit
  first_fits (l ∷ m ∷ []) (y ∷ z ∷ []) low x fit p q = named_as low l x y p q (fit.0, fit.1)
  first_fits (l ∷ m ∷ []) (y ∷ z ∷ w ∷ ws) low x fit p q = absurd fit
  first_fits (l ∷ m ∷ n ∷ ns) xs low x fit p q = absurd fit

  pub second_fits : (ls : List ℤ) (xs : List Expr) (low : ℤ) (x : Expr) → Fit ls xs → 1 < length xs → low ≡ get_or ls 1 (pos 0) → x ≡ get_or xs 1 x → IsFitting low x
  second_fits [] xs low x fit many p q = absurd fit
  second_fits (l ∷ []) [] low x fit many p q = absurd fit
  second_fits (l ∷ []) (y ∷ []) low x fit many p q = absurd (let none : 1 < 1 = many in omega arith)
  second_fits (l ∷ []) (y ∷ z ∷ zs) low x fit many p q = absurd fit
  second_fits (l ∷ m ∷ []) [] low x fit many p q = absurd fit
  second_fits (l ∷ m ∷ []) (y ∷ []) low x fit many p q = absurd fit
  second_fits (l ∷ m ∷ []) (y ∷ z ∷ []) low x fit many p q = named_as low m x z p q (fit.2, fit.3)
  second_fits (l ∷ m ∷ []) (y ∷ z ∷ w ∷ ws) low x fit many p q = absurd fit
  second_fits (l ∷ m ∷ n ∷ ns) xs low x fit many p q = absurd fit

  pub none_fits : (ls : List ℤ) → Fit ls [] → ⊥
  none_fits [] fit = fit
  none_fits (l ∷ []) fit = fit
  none_fits (l ∷ m ∷ []) fit = fit
  none_fits (l ∷ m ∷ n ∷ ns) fit = fit

-- a lower bound that is read as an integer of the machine
pub read_back : (low : ℤ) → IsWholeNumber low → to_z w64 (of_z w64 low) ≡ low
read_back low h = let bound : unsigned_abs low < 2 ^ 63 = omega (arith, h) in to_z-of_z w64 low (fits_signed_from_abs w64 low bound)

-- ---- their code

module _ (s : Names) (scopes : Scopes) (context : Context) (level : ℕ) (couple : Couple) where
  subscript_as : (a b : Built) (low l : ℤ) (x y : Expr) → low ≡ l → x ≡ y → SubscriptEmitted s level a b low (expr x) → SubscriptEmitted s level a b l (expr y)
  subscript_as a b low l x y p q h =
      let S : ℤ → Expr → Type 0 = λ m z. SubscriptEmitted s level a b m (expr z) in subst (λ m. S m y) p (subst (S low) q h)

  pub one_code : (a b c : Built) (ls : List ℤ) (xs : List Expr) (low : ℤ) (x : Expr) → Fit s scopes context.level context.block ls xs → length xs ≤ 1 → low ≡ get_or ls 0 (pos 0) → x ≡ get_or xs 0 x →
      SubscriptEmitted s level a b low (expr x) → Emitted b c (λ qs. Has qs level (size b.operators) (ops.Namc couple) (size c.operators)) →
      Emitted a c (λ qs. SubscriptsAt scopes context qs level couple ls (exprs xs) (size a.operators) (size c.operators))
  one_code a b c [] xs low x fit few p q h r = absurd fit
  one_code a b c (l ∷ []) [] low x fit few p q h r = absurd fit
  one_code a b c (l ∷ []) (y ∷ []) low x fit few p q h r =
      weaker (λ qs. SubscriptsAt scopes context qs level couple (l ∷ []) (exprs (y ∷ [])) (size a.operators) (size c.operators))
      (then ((subscript_as a b low l x y p q h).code scopes context fit.1) r)
      (λ qs w. (w.0.0, size b.operators, w.0.1, w.0.2, w.1))
  one_code a b c (l ∷ []) (y ∷ z ∷ zs) low x fit few p q h r = absurd fit
  one_code a b c (l ∷ m ∷ []) [] low x fit few p q h r = absurd fit
  one_code a b c (l ∷ m ∷ []) (y ∷ []) low x fit few p q h r = absurd fit
  one_code a b c (l ∷ m ∷ []) (y ∷ z ∷ []) low x fit few p q h r = absurd (let two : 2 ≤ 1 = few in omega arith)
  one_code a b c (l ∷ m ∷ []) (y ∷ z ∷ w ∷ ws) low x fit few p q h r = absurd fit
  one_code a b c (l ∷ m ∷ n ∷ ns) xs low x fit few p q h r = absurd fit

  module _ (a b c d e f : Built) (low low' : ℤ) (x x' : Expr) (h : SubscriptEmitted s level a b low (expr x))
      (r : Emitted b c (λ qs. Has qs level (size b.operators) (ops.Namc couple) (size c.operators)))
      (n : Emitted c d (λ qs. Has qs level (size c.operators) (ops.Plain kinds.Nxln) (size d.operators)))
      (h' : SubscriptEmitted s level d e low' (expr x')) (k : Emitted e f (λ qs. Has qs level (size e.operators) (ops.Plain kinds.Exch) (size f.operators))) where
    pub two_code : (ls : List ℤ) (xs : List Expr) → Fit s scopes context.level context.block ls xs → 1 < length xs → low ≡ get_or ls 0 (pos 0) → x ≡ get_or xs 0 x →
        low' ≡ get_or ls 1 (pos 0) → x' ≡ get_or xs 1 x' →
        Emitted a f (λ qs. SubscriptsAt scopes context qs level couple ls (exprs xs) (size a.operators) (size f.operators))
    two_code [] xs fit many p q p' q' = absurd fit
    two_code (l ∷ []) [] fit many p q p' q' = absurd fit
    two_code (l ∷ []) (y ∷ []) fit many p q p' q' = absurd (let none : 1 < 1 = many in omega arith)
    two_code (l ∷ []) (y ∷ z ∷ zs) fit many p q p' q' = absurd fit
    two_code (l ∷ m ∷ []) [] fit many p q p' q' = absurd fit
    two_code (l ∷ m ∷ []) (y ∷ []) fit many p q p' q' = absurd fit
    two_code (l ∷ m ∷ []) (y ∷ z ∷ []) fit many p q p' q' =
        weaker (λ qs. SubscriptsAt scopes context qs level couple (l ∷ m ∷ []) (exprs (y ∷ z ∷ [])) (size a.operators) (size f.operators))
        (then (then (then (then ((subscript_as a b low l x y p q h).code scopes context fit.1) r) n) ((subscript_as d e low' m x' z p' q' h').code scopes context fit.3)) k)
        (λ qs w. (
          w.0.0.0.0.0,
          size b.operators,
          size c.operators,
          size d.operators,
          w.0.0.0.0.1,
          w.0.0.0.0.2,
          w.0.0.0.1,
          w.0.0.1,
          (w.0.1.0, size e.operators, w.0.1.1, w.0.1.2, w.1),
        ))
    two_code (l ∷ m ∷ []) (y ∷ z ∷ w ∷ ws) fit many p q p' q' = absurd fit
    two_code (l ∷ m ∷ o ∷ os) xs fit many p q p' q' = absurd fit

-- ---- of one variable

-- the lower bounds that are known of a name
abbrev pub list_told : Option arrays.Lows → Option (List ℤ)
list_told None = None
list_told (Some l) = Some l.list

pub told_list : (s : Names) (n : Named) (l : Lows) (ls : List ℤ) → ls ≡ l.list → lows s n.spot ≡ Some (told l) → list_told (lows s n.spot) ≡ Some ls
told_list s n l ls is known = ap list_told known ∙ ap (λ (ms : List ℤ). Some ms) (sym is)

module _ (s : Names) (level : ℕ) (v : Variable) where
  -- .. whatever array its name is
  module _ (scopes : Scopes) (block : ℕ) (n : Named) (shape : Shape) (es : PExprs) (is : variable v ≡ tree.subscripted n es) (fits : ElementFits s scopes level block n shape es) where
    pub its_array : ArrayFits scopes (meanings s) level v.name shape
    its_array = let A : Named → Type 0 = λ m. ArrayFits scopes (meanings s) level m shape in subst A (own_name v n es is) fits.0

    pub its_subscripts : (ls : List ℤ) → list_told (lows s v.name.spot) ≡ Some ls → Fit s scopes level block ls v.subs
    its_subscripts ls bounds =
        let same : shape.lows ≡ ls = cc (ap list_told its_array.lows_are, bounds) in
        let F : List ℤ → PExprs → Type 0 = λ ms xs. SubscriptsFit scopes (meanings s) level block ms xs in
        subst (λ ms. F ms (exprs v.subs)) same (subst (F shape.lows) (own_subscripts v n es is) fits.1)

module _ (s : Names) (level : ℕ) (v : Variable) where
  module _ (h : HasSubscripts s level (variable v)) where
    own : ArrayFits h.scopes (meanings s) h.own v.name h.shape
    own = its_array s h.own v h.scopes h.block h.name h.shape h.subscripts h.variable_is h.fits

    pub known_lows : IsSome (lows s v.name.spot)
    known_lows = some (lows s v.name.spot) (record { list = h.shape.lows; formal = is_formal ((use_of h.scopes v.name).sort) }) own.lows_are

    pub known_element : IsSome (couples s v.name.spot)
    known_element = known_array s h.own h.scopes v.name h.shape own

    pub seen_element : (m : ℕ) (c : Couple) → m ≡ level → AreNear s → couples s v.name.spot ≡ Some c → CoupleIsSeen m c
    seen_element m c same near is = let I : ℕ → Type 0 = λ l. CoupleIsSeen l c in
        subst I (sym same) (seen_further level h.own c h.outer (near.own v.name.spot c is) (seen_array s h.own h.scopes v.name h.shape c near is own))

    -- its subscripts and the lower bounds, as they were found
    module _ (ls : List ℤ) (xs : List Expr) (bounds : list_told (lows s v.name.spot) ≡ Some ls) (whole : xs ≡ v.subs) where
      own_fit : Fit s h.scopes h.own h.block ls xs
      own_fit =
          let F : List Expr → Type 0 = λ ys. Fit s h.scopes h.own h.block ls ys in
          subst F (sym whole) (its_subscripts s h.own v h.scopes h.block h.name h.shape h.subscripts h.variable_is h.fits ls bounds)

      pub some_subscripts : 0 < length xs
      some_subscripts = let many = as_many s h.scopes h.own h.block ls xs own_fit in many.1

      pub as_many_lows : length ls ≡ length xs
      as_many_lows = let many = as_many s h.scopes h.own h.block ls xs own_fit in many.0

      pub own_syllables : inline (meanings s) (tree.variable (variable v)) ≡ 24 + inline_all (meanings s) (exprs xs)
      own_syllables =
          ap (λ (w : PVariable). inline (meanings s) (tree.variable w)) (variable_is v)
          ∙ ap (λ (ys : List Expr). inline (meanings s) (tree.variable (tree.subscripted v.name (exprs ys)))) (sym whole) ∙ all_syllables (meanings s) v.name xs some_subscripts

      pub first_has : (x : Expr) → x ≡ get_or xs 0 x → HasCode s level (expr x)
      first_has x is = record { scopes = h.scopes; own = h.own; block = h.block; kind = types.Number; outer = h.outer; fits = (first_fits s h.scopes h.own h.block ls xs (get_or ls 0 (pos 0)) x own_fit refl is).1 }

      pub first_back : (x : Expr) → x ≡ get_or xs 0 x → to_z w64 (of_z w64 (get_or ls 0 (pos 0))) ≡ get_or ls 0 (pos 0)
      first_back x is = read_back (get_or ls 0 (pos 0)) (first_fits s h.scopes h.own h.block ls xs (get_or ls 0 (pos 0)) x own_fit refl is).0

      pub first_whole : (x : Expr) → x ≡ get_or xs 0 x → IsWholeNumber (to_z w64 (of_z w64 (get_or ls 0 (pos 0))))
      first_whole x is = (first_fits s h.scopes h.own h.block ls xs (to_z w64 (of_z w64 (get_or ls 0 (pos 0)))) x own_fit (first_back x is) is).0

      pub second_has : (x : Expr) → 1 < length xs → x ≡ get_or xs 1 x → HasCode s level (expr x)
      second_has x many is = record { scopes = h.scopes; own = h.own; block = h.block; kind = types.Number; outer = h.outer; fits = (second_fits s h.scopes h.own h.block ls xs (get_or ls 1 (pos 0)) x own_fit many refl is).1 }

      pub second_back : (x : Expr) → 1 < length xs → x ≡ get_or xs 1 x → to_z w64 (of_z w64 (get_or ls 1 (pos 0))) ≡ get_or ls 1 (pos 0)
      second_back x many is = read_back (get_or ls 1 (pos 0)) (second_fits s h.scopes h.own h.block ls xs (get_or ls 1 (pos 0)) x own_fit many refl is).0

      pub second_whole : (x : Expr) → 1 < length xs → x ≡ get_or xs 1 x → IsWholeNumber (to_z w64 (of_z w64 (get_or ls 1 (pos 0))))
      second_whole x many is = (second_fits s h.scopes h.own h.block ls xs (to_z w64 (of_z w64 (get_or ls 1 (pos 0)))) x own_fit many (second_back x many is) is).0

  -- the couple of the array and its lower bounds, as they were found
  module _ (ls : List ℤ) (xs : List Expr) (couple : Couple) (bounds : list_told (lows s v.name.spot) ≡ Some ls) (known : couples s v.name.spot ≡ Some couple) (whole : xs ≡ v.subs)
      (a b : Built) (code : (scopes : Scopes) (context : Context) → Fit s scopes context.level context.block ls xs →
      Emitted a b (λ qs. SubscriptsAt scopes context qs level couple ls (exprs xs) (size a.operators) (size b.operators))) where
    own_code : (scopes : Scopes) (context : Context) (shape : Shape) → ArrayFits scopes (meanings s) context.level v.name shape →
        Fit s scopes context.level context.block ls v.subs → Emitted a b (λ qs. (c : Couple) × IsArray scopes context.level v.name shape c
        × SubscriptsAt scopes context qs level c shape.lows (exprs v.subs) (size a.operators) (size b.operators))
    own_code scopes context shape f fit =
        let same : ls ≡ shape.lows = cc (ap list_told f.lows_are, bounds) in
        let there : f.couple ≡ couple = cc (f.known_is, known) in
        let F : List Expr → Type 0 = λ ys. Fit s scopes context.level context.block ls ys in
        let C : List ℤ → List Expr → Type 0 = λ ms ys. Emitted a b (λ qs. SubscriptsAt scopes context qs level couple ms (exprs ys) (size a.operators) (size b.operators)) in
        let I : Couple → Type 0 = λ c. IsArray scopes context.level v.name shape c in
        weaker (λ qs. (c : Couple) × IsArray scopes context.level v.name shape c
        × SubscriptsAt scopes context qs level c shape.lows (exprs v.subs) (size a.operators) (size b.operators))
        (subst (λ ms. C ms v.subs) same (subst (C ls) whole (code scopes context (subst F (sym whole) fit))))
        (λ qs w. (couple, subst I there f.array, w))

    subscripts_form : SubscriptsEmitted s level a b (variable v)
    subscripts_form = record {
      code = λ scopes context n shape es is fits.
          let E : Named → PExprs → Type 0 = λ m ys. Emitted a b (λ qs. (c : Couple) × IsArray scopes context.level m shape c
          × SubscriptsAt scopes context qs level c shape.lows ys (size a.operators) (size b.operators)) in
          subst (λ m. E m es) (sym (own_name v n es is)) (subst (E v.name) (sym (own_subscripts v n es is))
          (own_code scopes context shape (its_array s context.level v scopes context.block n shape es is fits) (its_subscripts s context.level v scopes context.block n shape es is fits ls bounds)));
    }

-- The subscripts are appended at the level of the builder before them.
module _ (s : Names) (v : Variable) (ls : List ℤ) (xs : List Expr) (couple : Couple) (bounds : list_told (lows s v.name.spot) ≡ Some ls)
    (known : couples s v.name.spot ≡ Some couple) (whole : xs ≡ v.subs) (a b c : Built) (low : ℤ) (x : Expr) (least : low ≡ get_or ls 0 (pos 0)) (first : x ≡ get_or xs 0 x)
    (h : SubscriptEmitted s (level_set a) a b low (expr x)) (r : Emitted b c (λ qs. Has qs (level_set b) (size b.operators) (ops.Namc couple) (size c.operators)))
    (on_b : b.level ≡ a.level) where
  referred : Emitted b c (λ qs. Has qs (level_set a) (size b.operators) (ops.Namc couple) (size c.operators))
  referred = let R : ℕ → Type 0 = λ l. Emitted b c (λ qs. Has qs l (size b.operators) (ops.Namc couple) (size c.operators)) in subst R (same_level a b on_b) r

  pub one_form : length xs ≤ 1 → SubscriptsEmitted s (level_set a) a c (variable v)
  one_form few =
      subscripts_form s (level_set a) v ls xs couple bounds known whole a c
      (λ scopes context fit. one_code s scopes context (level_set a) couple a b c ls xs low x fit few least first h referred)

  module _ (d e f : Built) (low' : ℤ) (x' : Expr) (least' : low' ≡ get_or ls 1 (pos 0)) (second : x' ≡ get_or xs 1 x')
      (n : Emitted c d (λ qs. Has qs (level_set c) (size c.operators) (ops.Plain kinds.Nxln) (size d.operators))) (h' : SubscriptEmitted s (level_set d) d e low' (expr x'))
      (k : Emitted e f (λ qs. Has qs (level_set e) (size e.operators) (ops.Plain kinds.Exch) (size f.operators)))
      (on_c : c.level ≡ b.level) (on_d : d.level ≡ c.level) (on_e : e.level ≡ d.level) where
    at_c : level_set c ≡ level_set a
    at_c = same_level a c (on_c ∙ on_b)

    at_d : level_set d ≡ level_set a
    at_d = same_level a d (on_d ∙ on_c ∙ on_b)

    at_e : level_set e ≡ level_set a
    at_e = same_level a e (on_e ∙ on_d ∙ on_c ∙ on_b)

    pub two_form : 1 < length xs → SubscriptsEmitted s (level_set a) a f (variable v)
    two_form many =
        let N : ℕ → Type 0 = λ l. Emitted c d (λ qs. Has qs l (size c.operators) (ops.Plain kinds.Nxln) (size d.operators)) in
        let H : ℕ → Type 0 = λ l. SubscriptEmitted s l d e low' (expr x') in
        let K : ℕ → Type 0 = λ l. Emitted e f (λ qs. Has qs l (size e.operators) (ops.Plain kinds.Exch) (size f.operators)) in
        subscripts_form s (level_set a) v ls xs couple bounds known whole a f
        (λ scopes context fit. two_code s scopes context (level_set a) couple a b c d e f low low' x x' h referred (subst N at_c n) (subst H at_d h') (subst K at_e k)
        ls xs fit many least first least' second)
