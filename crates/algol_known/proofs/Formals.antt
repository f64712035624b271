-- What a heading says of its parameters, found name by name.
use Rattle.std.proofs.Common.{◌≡◌, ℕ, ◌+◌, ◌<◌, Bool, true, false, cond, List, [], ◌∷◌, ◌++◌, map, length, drop, get_or, is_some, Option, Some, None, refl, ap, sym, ◌∙◌, add-one, suc, drop-cons, append_assoc, append-nil}
use Rattle.std.specs.Prelude.{if◌then◌else◌}
use Rattle.std.specs.Str.{bytes_eq}
use Rattle.std.proofs.lemmas.Slice.Eq.{bytes_eq-Decides}
use Rattle.algol_tree.specs.declared.tree.Named.{Named}
use Rattle.algol_tree.specs.declared.tree.Heading.{Heading}
use Rattle.algol_tree.specs.Sorts.{is_named_in, formals_of}
use Rattle.algol_sorts.specs.declared.sort.Sort.{Sort}
use Rattle.algol_sorts.specs.Specified.{parameter_in}
use Rattle.algol_known.specs.Passing.{kept, said}
use Rattle.algol_known.specs.Seeing.{mode_of}
use Rattle.algol_known.proofs.Declaring.{same}

-- ---- one name

kept_new : (old new : Option Bool) (b value : Bool) → (b ≡ true → is_some old ≡ false) → new ≡ cond b (Some value) old → new ≡ kept old b value
kept_new (Some x) new true value h n = absurd (let clash : true ≡ false = h refl in cc)
kept_new (Some x) new false value h n = n
kept_new None new true value h n = n
kept_new None new false value h n = n

pub say_new : (at new : List ℕ → Option Bool) (name q : List ℕ) (value : Bool) → is_some (at name) ≡ false →
    new q ≡ cond (bytes_eq name q) (Some value) (at q) → new q ≡ kept (at q) (bytes_eq name q) value
say_new at new name q value h n =
    kept_new (at q) (new q) (bytes_eq name q) value (λ e. ap (λ z. is_some (at z)) (sym ((bytes_eq-Decides name q).0 e)) ∙ h) n

none_named : (o : Option Bool) (value : Bool) → o ≡ kept o false value
none_named (Some x) value = refl
none_named None value = refl

-- something was said of it before, which is put back
pub say_again : (at middle new : List ℕ → Option Bool) (name q : List ℕ) (value b : Bool) → at name ≡ Some b → middle q ≡ cond (bytes_eq name q) (Some value) (at q) →
    new q ≡ cond (bytes_eq name q) (Some b) (middle q) → new q ≡ kept (at q) (bytes_eq name q) value
say_again at middle new name q value b said first second = decide (bytes_eq name q) refl
  where
    decide : (named : Bool) → bytes_eq name q ≡ named → new q ≡ kept (at q) (bytes_eq name q) value
    decide true e =
        second ∙ ap (λ z. cond z (Some b) (middle q)) e
        ∙ sym (ap (λ o. kept o true value) (ap at (sym ((bytes_eq-Decides name q).0 e)) ∙ said)) ∙ sym (ap (λ z. kept (at q) z value) e)
    decide false e =
        second ∙ ap (λ z. cond z (Some b) (middle q)) e ∙ first ∙ ap (λ z. cond z (Some value) (at q)) e ∙ none_named (at q) value
        ∙ sym (ap (λ z. kept (at q) z value) e)

-- ---- a list of names

kept_twice : (old : Option Bool) (b rest value : Bool) → kept (kept old b value) rest value ≡ kept old (if b then true else rest) value
kept_twice (Some x) b rest value = refl
kept_twice None true rest value = refl
kept_twice None false rest value = refl

pub say_step : (old all new : Option Bool) (names : List Named) (i : ℕ) (n : Named) (q : List ℕ) (value : Bool) → i < length names → n ≡ get_or names i n →
    kept old (is_named_in (drop i names) q) value ≡ all → new ≡ kept old (bytes_eq n.name q) value →
    kept new (is_named_in (drop (i + 1) names) q) value ≡ all
say_step old all new names i n q value h e inv k =
    rw add-one
    (let at : drop i names ≡ n ∷ drop (suc i) names = drop-cons names i n h ∙ ap (λ z. z ∷ drop (suc i) names) (sym e) in
    ap (λ z. kept z (is_named_in (drop (suc i) names) q) value) k ∙ kept_twice old (bytes_eq n.name q) (is_named_in (drop (suc i) names) q) value
    ∙ ap (λ b. kept old (if b then true else is_named_in (drop (suc i) names) q) value) (sym (same n.name q))
    ∙ ap (λ z. kept old (is_named_in z q) value) (sym at) ∙ inv)

-- ---- a list of names, and nothing else

-- ---- the parameters

abbrev pub mode_in : Heading → Named → Sort
mode_in h n = parameter_in h n.name

formals_modes : (h : Heading) (ns : List Named) → map mode_of (formals_of (record h { params = ns })) ≡ map (mode_in h) ns
formals_modes h [] = refl
formals_modes h (n ∷ ns) = ap (λ z. mode_in h n ∷ z) (formals_modes h ns)

pub modes_step : (h : Heading) (found all : List Sort) (ns : List Named) (i : ℕ) (n : Named) (m : Sort) → i < length ns → n ≡ get_or ns i n → m ≡ mode_in h n →
    found ++ map (mode_in h) (drop i ns) ≡ all → (found ++ m ∷ []) ++ map (mode_in h) (drop (i + 1) ns) ≡ all
modes_step h found all ns i n m lt e k inv =
    rw add-one
    (let at : drop i ns ≡ n ∷ drop (suc i) ns = drop-cons ns i n lt ∙ ap (λ z. z ∷ drop (suc i) ns) (sym e) in
    append_assoc found (m ∷ []) (map (mode_in h) (drop (suc i) ns)) ∙ ap (λ z. found ++ z ∷ map (mode_in h) (drop (suc i) ns)) k
    ∙ ap (λ z. found ++ map (mode_in h) z) (sym at) ∙ inv)

pub modes_end : (h : Heading) (found : List Sort) (ns : List Named) → ns ≡ [] → found ++ map (mode_in h) ns ≡ map (mode_in h) h.params →
    found ≡ map mode_of (formals_of h)
modes_end h found ns e inv =
    sym (append-nil found) ∙ ap (λ z. found ++ map (mode_in h) z) (sym e) ∙ inv ∙ sym (formals_modes h h.params)
