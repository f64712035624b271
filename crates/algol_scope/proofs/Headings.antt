-- The rules of headings: lists of places that are noted item by item, and names that stand twice.
use Rattle.std.proofs.Common.{◌≡◌, ℕ, ◌+◌, ◌<◌, Bool, true, false, List, [], ◌∷◌, ◌++◌, length, drop, get_or, drop-cons, Option, Some, None, refl, ap, sym, ◌∙◌, subst, suc, add-one, append-nil, append_assoc, arith}
use Rattle.std.specs.Prelude.{not, is_some, ◌||◌, if◌then◌else◌}
use Rattle.std.specs.Bool.{◌==◌}
use Rattle.std.specs.List.{flat_map}
use Rattle.std.specs.Borrow.{Bor}
use Rattle.std.specs.Str.{bytes_eq}
use Rattle.std.proofs.lemmas.Grind.{flat_map-append}
use Rattle.algol_tree.specs.declared.tree.Heading.{Heading}
use Rattle.algol_tree.specs.declared.tree.Named.{Named}
use Rattle.algol_tree.specs.declared.tree.Spec.{Spec}
use Rattle.algol_tree.specs.declared.refusal.Code.TheVariants as codes
use Rattle.algol_tree.specs.declared.refusal.Fault.{Fault}
use Rattle.algol_tree.specs.Sorts.{is_named_in, same_name}
use Rattle.algol_tree.specs.Names.{if_so, is_no_parameter, name_is_one_of, names_of_spec, places_if, repeated}
use Rattle.algol_tree.specs.Accepted.{broken, noted_all}
use Rattle.algol_frames.proofs.Noting.{noted_broken}
use Rattle.algol_known.specs.Naming.{NameTable, IsBare, entry_in, has_name, is_typed, or_else}
use Rattle.algol_known.specs.Passing.{kept}
use Rattle.algol_known.proofs.Declaring.{same}
use Rattle.b67_list.proofs.Truths.{or_false}

places_append : (test : Named → Bool) (xs ys : List Named) → places_if test (xs ++ ys) ≡ places_if test xs ++ places_if test ys
places_append test xs ys = flat_map-append (λ (n : Named). if_so (test n) n.spot) xs ys

pub places_specs : (test : Named → Bool) (ss : List Spec) →
    places_if test (flat_map names_of_spec ss) ≡ flat_map (λ (s : Spec). places_if test (names_of_spec s)) ss
places_specs test [] = refl
places_specs test (s ∷ ss) =
    places_append test (names_of_spec s) (flat_map names_of_spec ss) ∙ ap (λ z. places_if test (names_of_spec s) ++ z) (places_specs test ss)

pub unknown_one : (h : Heading) (n : Named) (name : List ℕ) (b : Bool) (now new : Option Fault) → name ≡ n.name → b ≡ is_named_in h.params name →
    new ≡ noted_all now (broken codes.UnknownName (if_so (not b) n.spot)) → new ≡ noted_all now (broken codes.UnknownName (if_so (is_no_parameter h n) n.spot))
unknown_one h n name b now new e k p =
    p ∙ ap (λ z. noted_all now (broken codes.UnknownName (if_so (not z) n.spot))) (k ∙ ap (λ z. is_named_in h.params z) e)

-- ---- names that stand twice

abbrev pub after : List (List ℕ) → List Named → List (List ℕ)
after seen [] = seen
after seen (n ∷ ns) = after (n.name ∷ seen) ns

pub repeated_append : (seen : List (List ℕ)) (xs ys : List Named) → repeated seen (xs ++ ys) ≡ repeated seen xs ++ repeated (after seen xs) ys
repeated_append seen [] ys = refl
repeated_append seen (x ∷ xs) ys =
    ap (λ z. if_so (name_is_one_of seen x.name) x.spot ++ z) (repeated_append (x.name ∷ seen) xs ys)
    ∙ sym (append_assoc (if_so (name_is_one_of seen x.name) x.spot) (repeated (x.name ∷ seen) xs) (repeated (after (x.name ∷ seen) xs) ys))

or_step : (b c : Bool) (x : Bool) → (c || (if b then true else x)) ≡ ((if b then true else c) || x)
or_step true true x = refl
or_step true false x = refl
or_step false c x = refl

pub after_has : (seen : List (List ℕ)) (ns : List Named) (q : List ℕ) → name_is_one_of (after seen ns) q ≡ (is_named_in ns q || name_is_one_of seen q)
after_has seen [] q = refl
after_has seen (n ∷ ns) q = after_has (n.name ∷ seen) ns q ∙ or_step (same_name n.name q) (is_named_in ns q) (name_is_one_of seen q)

kept_some : (old : Option Bool) (b x : Bool) → (b || (x || is_some old)) ≡ (x || is_some (kept old b true))
kept_some (Some y) true true = refl
kept_some (Some y) true false = refl
kept_some (Some y) false x = refl
kept_some None true true = refl
kept_some None true false = refl
kept_some None false x = refl

-- A walk over names, with those that stand before: what is noted of the rest makes what there is of all.
pub record Repeats (has : List ℕ → Bool) (before : List ℕ → Option Bool) (now all : Option Fault) (rest : List Named) : Type 0 where
  pub seen : List (List ℕ)
  pub known : (q : List ℕ) → name_is_one_of seen q ≡ (has q || is_some (before q))
  pub noted : noted_all now (broken codes.DeclaredTwice (repeated seen rest)) ≡ all

pub repeats_start : (has : List ℕ → Bool) (before : List ℕ → Option Bool) (first : Option Fault) (seen : List (List ℕ)) (ns : List Named) →
    ((q : List ℕ) → name_is_one_of seen q ≡ (has q || is_some (before q))) →
    Repeats has before first (noted_all first (broken codes.DeclaredTwice (repeated seen ns))) ns
repeats_start has before first seen ns h = record { seen = seen; known = h; noted = refl }

pub repeats_some : (has : List ℕ → Bool) (old new : List ℕ → Option Bool) (now next all : Option Fault) (ns rest : List Named) →
    Repeats has old now all (ns ++ rest) →
    ((seen : List (List ℕ)) → ((q : List ℕ) → name_is_one_of seen q ≡ (has q || is_some (old q))) → next ≡ noted_all now (broken codes.DeclaredTwice (repeated seen ns))) →
    ((q : List ℕ) → new q ≡ kept (old q) (is_named_in ns q) true) → Repeats has new next all rest
repeats_some has old new now next all ns rest r note more =
    record {
      seen = after r.seen ns;
      known =
          λ q.
          after_has r.seen ns q ∙ ap (λ b. is_named_in ns q || b) (r.known q) ∙ kept_some (old q) (is_named_in ns q) (has q)
          ∙ ap (λ z. has q || is_some z) (sym (more q));
      noted =
          ap (λ z. noted_all z (broken codes.DeclaredTwice (repeated (after r.seen ns) rest))) (note r.seen r.known)
          ∙ sym (noted_broken now codes.DeclaredTwice (repeated r.seen ns) (repeated (after r.seen ns) rest))
          ∙ ap (λ z. noted_all now (broken codes.DeclaredTwice z)) (sym (repeated_append r.seen ns rest)) ∙ r.noted;
    }

pub repeats_item : (has : List ℕ → Bool) (old new : List ℕ → Option Bool) (now next all : Option Fault) (ns : List Named) (i : ℕ) (n : Named) (name : List ℕ) (b : Bool) →
    i < length ns → n ≡ get_or ns i n → name ≡ n.name → b ≡ (has name || is_some (old name)) →
    next ≡ noted_all now (broken codes.DeclaredTwice (if_so b n.spot)) → ((q : List ℕ) → new q ≡ kept (old q) (bytes_eq name q) true) →
    Repeats has old now all (drop i ns) → Repeats has new next all (drop (i + 1) ns)
repeats_item has old new now next all ns i n name b h it e t note more r =
    rw add-one
    (let at : drop i ns ≡ n ∷ drop (suc i) ns = drop-cons ns i n h ∙ ap (λ z. z ∷ drop (suc i) ns) (sym it) in
    let P : List Named → Type 0 = λ z. Repeats has old now all z in
    repeats_some has old new now next all (n ∷ []) (drop (suc i) ns) (subst P at r)
    (λ seen known.
    note
    ∙ ap (λ z. noted_all now (broken codes.DeclaredTwice (if_so z n.spot)))
    (t ∙ sym (known name) ∙ ap (λ z. name_is_one_of seen z) e)
    ∙ ap (λ z. noted_all now (broken codes.DeclaredTwice z)) (sym (append-nil (if_so (name_is_one_of seen n.name) n.spot))))
    (λ q. more q ∙ ap (λ z. kept (old q) z true) (sym (same name q) ∙ ap (λ z. same_name z q) e ∙ plain (same_name n.name q))))
  where
    plain : (c : Bool) → c ≡ (if c then true else false)
    plain true = refl
    plain false = refl

pub repeats_end : (has : List ℕ → Bool) (before : List ℕ → Option Bool) (now all : Option Fault) (ns : List Named) → ns ≡ [] → Repeats has before now all ns → now ≡ all
repeats_end has before now all ns h r = sym (ap (λ z. noted_all now (broken codes.DeclaredTwice (repeated r.seen z))) h) ∙ r.noted

-- ---- a block with no names but that of its result

pub bare_has : (typed : Option (Bor (List ℕ))) (declared parameters : NameTable) (before : Option Bool) (q : List ℕ) → IsBare declared → IsBare parameters → before ≡ None →
    (has_name typed declared parameters q || is_some before) ≡ is_typed typed q
bare_has typed declared parameters before q d p b =
    ap (λ z. (is_typed typed q || is_some (or_else z (entry_in parameters q))) || is_some before) (d q)
    ∙ ap (λ z. (is_typed typed q || is_some z) || is_some before) (p q)
    ∙ ap (λ z. (is_typed typed q || false) || is_some z) b ∙ or_false (is_typed typed q || false) ∙ or_false (is_typed typed q)

pub typed_has : (name q : List ℕ) → bytes_eq name q ≡ name_is_one_of (name ∷ []) q
typed_has name q = sym (same name q) ∙ plain (same_name name q)
  where
    plain : (c : Bool) → c ≡ (if c then true else false)
    plain true = refl
    plain false = refl

-- ---- the names of specifications

pub repeats_specs : (has : List ℕ → Bool) (before : List ℕ → Option Bool) (first : Option Fault) (ss items : List Spec) → items ≡ ss →
    ((q : List ℕ) → false ≡ (has q || is_some (before q))) →
    Repeats has before first (noted_all first (broken codes.DeclaredTwice (repeated [] (flat_map names_of_spec ss)))) (flat_map names_of_spec items)
repeats_specs has before first ss items e h =
    let P : List Spec → Type 0 =
    λ z. Repeats has before first (noted_all first (broken codes.DeclaredTwice (repeated [] (flat_map names_of_spec ss)))) (flat_map names_of_spec z) in
    subst P (sym e) (repeats_start has before first [] (flat_map names_of_spec ss) h)

pub repeats_spec : (has : List ℕ → Bool) (old new : List ℕ → Option Bool) (now next all : Option Fault) (ss : List Spec) (i : ℕ) (s : Spec) (ns : List Named) →
    i < length ss → s ≡ get_or ss i s → ns ≡ names_of_spec s →
    ((seen : List (List ℕ)) → ((q : List ℕ) → name_is_one_of seen q ≡ (has q || is_some (old q))) → next ≡ noted_all now (broken codes.DeclaredTwice (repeated seen ns))) →
    ((q : List ℕ) → new q ≡ kept (old q) (is_named_in ns q) true) → Repeats has old now all (flat_map names_of_spec (drop i ss)) →
    Repeats has new next all (flat_map names_of_spec (drop (i + 1) ss))
repeats_spec has old new now next all ss i s ns h same e note more r =
    rw add-one
    (let at : drop i ss ≡ s ∷ drop (suc i) ss = drop-cons ss i s h ∙ ap (λ z. z ∷ drop (suc i) ss) (sym same) in
    let P : List Named → Type 0 = λ z. Repeats has old now all z in
    repeats_some has old new now next all ns (flat_map names_of_spec (drop (suc i) ss))
    (subst P (ap (flat_map names_of_spec) at ∙ ap (λ z. z ++ flat_map names_of_spec (drop (suc i) ss)) (sym e)) r) note more)

-- ---- a name that is empty

pub empty_named : (name : List ℕ) (e : Bool) → e ≡ (length name == 0) → not e ≡ not (same_name name [])
empty_named [] e h = ap not (h ∙ zero_is)
  where
    zero_is : (0 == 0) ≡ true
    zero_is = refl
empty_named (x ∷ xs) e h = ap not (h ∙ more (length xs))
  where
    more : (n : ℕ) → (suc n == 0) ≡ false
    more n = grind arith
