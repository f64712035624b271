-- What declarations make by actions, one declaration after another, after the cells of a block.
use Rattle.std.proofs.Common.{rules, ◌≡◌, ℕ, zero, suc, ◌+◌, ◌≤◌, Bool, true, false, List, [], ◌∷◌, length, drop, refl, sym, ap, ◌∙◌, subst, arith, length-append}
use Rattle.std.proofs.lemmas.List.{length-map}
use Rattle.algol_tree.specs.declared.TheConstants.{MOST_BLOCK_CELLS}
use Rattle.algol_tree.specs.declared.tree.Body.{Body}
use Rattle.algol_tree.specs.declared.tree.Stmt.{Stmt}
use Rattle.algol_tree.specs.declared.tree.Decl.{Decl, out-Decl, roll-Decl, roll-out-Decl, the_lemmas}
use Rattle.algol_tree.specs.declared.tree.Decl.TheOpen.{Decl-F}
use Rattle.algol_tree.specs.declared.tree.Decl.TheVariants as shapes
use Rattle.algol_tree.specs.declared.tree.Kind.{Kind}
use Rattle.algol_tree.specs.declared.tree.Named.{Named}
use Rattle.algol_tree.specs.declared.tree.Pair.{Pair}
use Rattle.algol_tree.specs.Image.{decl, decls, pairs}
use Rattle.algol_tree.specs.Plain as tree
use Rattle.algol_tree.specs.Plain.{PDecl, PDecls}
use Rattle.algol_paths.specs.Arrays.{DeclaredArray, an_array, arrays_in, made_in}
use Rattle.b67_segment.specs.Operators.{Placed, size}
use Rattle.b67_segment.specs.Building.{Built}
use Rattle.b67_templates.specs.Cells.{events_in, made_of}
use Rattle.b67_templates.specs.Code.{AreDimensions}
use Rattle.b67_templates.specs.Emitting.{Emitted}
use Rattle.b67_emitter.proofs.Composing.{then, weaker}
use Rattle.algol_scope.proofs.Bodies.{events_is, tasks_is}
use Rattle.b67_emit_stmt.specs.declared.draft.Known.{Known}
use Rattle.b67_emit_stmt.specs.Lengths.{arrays_syllables, decls_syllables}
use Rattle.b67_emit_stmt.specs.Fits.{BoundsFit, DeclsFit}
use Rattle.b67_emit_stmt.specs.Places.{Later, Place, ArraysAt, DeclsAt, EventsMadeAt, only}
use Rattle.b67_emit_stmt.proofs.Parts.{emitted_none}

-- ---- declarations that make no arrays

abbrev pub makes_none : PDecl → Bool
makes_none (tree.arrays kind ns ps) = false
makes_none _ = true

none_of : (x : Decl-F Decl Stmt Body) → ((kind : Kind) (ns : List Named) (ps : List Pair) → roll-Decl x ≡ shapes.Arrays kind ns ps → ⊥) → makes_none (decl (roll-Decl x)) ≡ true
none_of (Decl-F.Simple kind ns) other = search (rules, the_lemmas)
none_of (Decl-F.Files ns) other = search (rules, the_lemmas)
none_of (Decl-F.Events ns) other = search (rules, the_lemmas)
none_of (Decl-F.Tasks ns) other = search (rules, the_lemmas)
none_of (Decl-F.Labels ns) other = search (rules, the_lemmas)
none_of (Decl-F.Arrays kind ns ps) other = absurd (other kind ns ps (shapes.rolls-Arrays kind ns ps))
none_of (Decl-F.Forward h) other = search (rules, the_lemmas)
none_of (Decl-F.Procedure h s) other = search (rules, the_lemmas)

pub makes_no : (d : Decl) → ((kind : Kind) (ns : List Named) (ps : List Pair) → d ≡ shapes.Arrays kind ns ps → ⊥) → makes_none (decl d) ≡ true
makes_no d other =
    ap (λ (e : Decl). makes_none (decl e)) (sym (roll-out-Decl d)) ∙ none_of (out-Decl d) (λ kind ns ps e. other kind ns ps (sym (roll-out-Decl d) ∙ e))

-- ---- declarations that make nothing

abbrev pub makes_nothing : PDecl → Bool
makes_nothing (tree.arrays kind ns ps) = false
makes_nothing (tree.events ns) = false
makes_nothing (tree.tasks ns) = false
makes_nothing _ = true

nothing_of : (x : Decl-F Decl Stmt Body) → ((kind : Kind) (ns : List Named) (ps : List Pair) → roll-Decl x ≡ shapes.Arrays kind ns ps → ⊥) →
    ((ns : List Named) → roll-Decl x ≡ shapes.Events ns → ⊥) → ((ns : List Named) → roll-Decl x ≡ shapes.Tasks ns → ⊥) → makes_nothing (decl (roll-Decl x)) ≡ true
nothing_of (Decl-F.Simple kind ns) a e t = search (rules, the_lemmas)
nothing_of (Decl-F.Files ns) a e t = search (rules, the_lemmas)
nothing_of (Decl-F.Events ns) a e t = absurd (e ns (shapes.rolls-Events ns))
nothing_of (Decl-F.Tasks ns) a e t = absurd (t ns (shapes.rolls-Tasks ns))
nothing_of (Decl-F.Labels ns) a e t = search (rules, the_lemmas)
nothing_of (Decl-F.Arrays kind ns ps) a e t = absurd (a kind ns ps (shapes.rolls-Arrays kind ns ps))
nothing_of (Decl-F.Forward h) a e t = search (rules, the_lemmas)
nothing_of (Decl-F.Procedure h s) a e t = search (rules, the_lemmas)

pub makes_not : (d : Decl) → ((kind : Kind) (ns : List Named) (ps : List Pair) → d ≡ shapes.Arrays kind ns ps → ⊥) → ((ns : List Named) → d ≡ shapes.Events ns → ⊥) →
    ((ns : List Named) → d ≡ shapes.Tasks ns → ⊥) → makes_nothing (decl d) ≡ true
makes_not d a e t =
    ap (λ (z : Decl). makes_nothing (decl z)) (sym (roll-out-Decl d))
    ∙ nothing_of (out-Decl d) (λ kind ns ps z. a kind ns ps (sym (roll-out-Decl d) ∙ z)) (λ ns z. e ns (sym (roll-out-Decl d) ∙ z)) (λ ns z. t ns (sym (roll-out-Decl d) ∙ z))

-- ---- one declaration

nothing_room : (s : Known) (d : PDecl) → makes_nothing d ≡ true → decls_syllables s (only d) ≡ 0
nothing_room s (tree.simple kind ns) none = refl
nothing_room s (tree.files ns) none = refl
nothing_room s (tree.events ns) none = cc
nothing_room s (tree.tasks ns) none = cc
nothing_room s (tree.labels ns) none = refl
nothing_room s (tree.arrays kind ns ps) none = cc
nothing_room s (tree.forward h) none = refl
nothing_room s (tree.procedure h t) none = refl

nothing_at : (sc : Place) (later : Later) (qs : List Placed) (level : ℕ) (d : PDecl) (f : ℕ) → makes_nothing d ≡ true → DeclsAt sc later qs level (only d) f f
nothing_at sc later qs level (tree.simple kind ns) f none = refl
nothing_at sc later qs level (tree.files ns) f none = refl
nothing_at sc later qs level (tree.events ns) f none = absurd (let clash : false ≡ true = none in cc)
nothing_at sc later qs level (tree.tasks ns) f none = absurd (let clash : false ≡ true = none in cc)
nothing_at sc later qs level (tree.labels ns) f none = refl
nothing_at sc later qs level (tree.arrays kind ns ps) f none = absurd (let clash : false ≡ true = none in cc)
nothing_at sc later qs level (tree.forward h) f none = refl
nothing_at sc later qs level (tree.procedure h t) f none = refl

-- .. that makes nothing
module _ (d : Decl) (none : makes_nothing (decl d) ≡ true) where
  pub none_there : (sc : Place) (later : Later) (level : ℕ) (a : Built) → Emitted a a (λ qs. DeclsAt sc later qs level (only (decl d)) (size a.operators) (size a.operators))
  none_there sc later level a =
      emitted_none a (λ qs. DeclsAt sc later qs level (only (decl d)) (size a.operators) (size a.operators)) (λ qs. nothing_at sc later qs level (decl d) (size a.operators) none)

-- .. of arrays
module _ (d : Decl) (kind : Kind) (ns : List Named) (ps : List Pair) (is : d ≡ shapes.Arrays kind ns ps) where
  own_arrays : (kind : Kind) (ns : List Named) (ps : List Pair) → decl (shapes.Arrays kind ns ps) ≡ tree.arrays kind ns (pairs ps)
  own_arrays kind ns ps = search (rules, the_lemmas)

  pub arrays_are : decl d ≡ tree.arrays kind ns (pairs ps)
  arrays_are = ap decl is ∙ own_arrays kind ns ps

  pub arrays_many : length (made_of (only (decl d))) ≡ length ns
  arrays_many =
      let one : Named → DeclaredArray = λ n. record { name = n.name; kind = kind; pairs = pairs ps } in
      omega (
        arith,
        ap (λ (e : PDecl). length (made_of (only e))) arrays_are,
        length-append (made_in kind ns (pairs ps)) [],
        length-map (arrays_in kind ns (pairs ps)) an_array,
        length-map ns one,
      )

  pub arrays_room : (s : Known) → decls_syllables s (only (decl d)) ≡ arrays_syllables s (pairs ps)
  arrays_room s = omega (arith, ap (λ (e : PDecl). decls_syllables s (only e)) arrays_are)

  pub arrays_fit : (sc : Place) (s : Known) (level : ℕ) → DeclsFit sc s level (only (decl d)) → AreDimensions (pairs ps) × BoundsFit sc s level (pairs ps) × (1 ≤ length ns)
  arrays_fit sc s level fit =
      let F : PDecl → Type 0 = λ e. DeclsFit sc s level (only e) in
      let there = subst F arrays_are fit in
      (there.0, there.1, there.3)

  pub arrays_there : (sc : Place) (later : Later) (level : ℕ) (a x : Built) → Emitted a x (λ qs. ArraysAt sc later qs level (length ns) (pairs ps) (size a.operators) (size x.operators)) →
      Emitted a x (λ qs. DeclsAt sc later qs level (only (decl d)) (size a.operators) (size x.operators))
  arrays_there sc later level a x h =
      let D : PDecl → Type 0 = λ e. Emitted a x (λ qs. DeclsAt sc later qs level (only e) (size a.operators) (size x.operators)) in
      subst D (sym arrays_are)
      (weaker (λ qs. DeclsAt sc later qs level (only (tree.arrays kind ns (pairs ps))) (size a.operators) (size x.operators)) h (λ qs p. (size x.operators, p, refl)))

module _ (d : Decl) (ns : List Named) where
  module _ (sc : Place) (later : Later) (level : ℕ) (a x : Built) (h : Emitted a x (λ qs. EventsMadeAt sc later qs level ns (size a.operators) (size x.operators))) where
    abbrev There : PDecl → Type 0
    There e = Emitted a x (λ qs. DeclsAt sc later qs level (only e) (size a.operators) (size x.operators))

    pub events_there : d ≡ shapes.Events ns → There (decl d)
    events_there is =
        subst There (sym (events_is d ns is))
        (weaker (λ qs. DeclsAt sc later qs level (only (tree.events ns)) (size a.operators) (size x.operators)) h (λ qs p. (size x.operators, p, refl)))

    pub tasks_there : d ≡ shapes.Tasks ns → There (decl d)
    tasks_there is =
        subst There (sym (tasks_is d ns is))
        (weaker (λ qs. DeclsAt sc later qs level (only (tree.tasks ns)) (size a.operators) (size x.operators)) h (λ qs p. (size x.operators, p, refl)))

-- the size of what makes nothing
pub none_room : (s : Known) (d : Decl) → makes_nothing (decl d) ≡ true → decls_syllables s (only (decl d)) ≡ 0
none_room s d none = nothing_room s (decl d) none

-- ---- a declaration, and those after it

room_more : (s : Known) (d : PDecl) (ds : PDecls) → decls_syllables s (tree.decls d ds) ≡ decls_syllables s (only d) + decls_syllables s ds
room_more s (tree.simple kind ns) ds = omega arith
room_more s (tree.files ns) ds = omega arith
room_more s (tree.events ns) ds = omega arith
room_more s (tree.tasks ns) ds = omega arith
room_more s (tree.labels ns) ds = omega arith
room_more s (tree.arrays kind ns ps) ds = omega arith
room_more s (tree.forward h) ds = omega arith
room_more s (tree.procedure h t) ds = omega arith

many_more : (d : PDecl) (ds : PDecls) → length (made_of (tree.decls d ds)) ≡ length (made_of (only d)) + length (made_of ds)
many_more (tree.simple kind ns) ds = omega arith
many_more (tree.files ns) ds = omega arith
many_more (tree.events ns) ds = omega (arith, length-append (events_in ns) (made_of ds), length-append (events_in ns) [])
many_more (tree.tasks ns) ds = omega (arith, length-append (events_in ns) (made_of ds), length-append (events_in ns) [])
many_more (tree.labels ns) ds = omega arith
many_more (tree.arrays kind ns ps) ds = omega (arith, length-append (made_in kind ns ps) (made_of ds), length-append (made_in kind ns ps) [])
many_more (tree.forward h) ds = omega arith
many_more (tree.procedure h t) ds = omega arith

module _ (sc : Place) (s : Known) (level : ℕ) where
  fits_here : (d : PDecl) (ds : PDecls) → DeclsFit sc s level (tree.decls d ds) → DeclsFit sc s level (only d)
  fits_here (tree.simple kind ns) ds fit = tt
  fits_here (tree.files ns) ds fit = tt
  fits_here (tree.events ns) ds fit = tt
  fits_here (tree.tasks ns) ds fit = tt
  fits_here (tree.labels ns) ds fit = tt
  fits_here (tree.arrays kind ns ps) ds fit = (fit.0, fit.1, tt, fit.3)
  fits_here (tree.forward h) ds fit = tt
  fits_here (tree.procedure h t) ds fit = tt

  fits_behind : (d : PDecl) (ds : PDecls) → DeclsFit sc s level (tree.decls d ds) → DeclsFit sc s level ds
  fits_behind (tree.simple kind ns) ds fit = fit
  fits_behind (tree.files ns) ds fit = fit
  fits_behind (tree.events ns) ds fit = fit
  fits_behind (tree.tasks ns) ds fit = fit
  fits_behind (tree.labels ns) ds fit = fit
  fits_behind (tree.arrays kind ns ps) ds fit = fit.2
  fits_behind (tree.forward h) ds fit = fit
  fits_behind (tree.procedure h t) ds fit = fit

  -- the declarations from one on fit
  decls_left : (i : ℕ) (ds : List Decl) → DeclsFit sc s level (decls ds) → DeclsFit sc s level (decls (drop i ds))
  decls_left zero ds fit = fit
  decls_left (suc i) [] fit = tt
  decls_left (suc i) (d ∷ ds) fit = decls_left i ds (fits_behind (decl d) (decls ds) fit)

  -- and so does the next
  pub next_fits : (i : ℕ) (ds : List Decl) (d : Decl) (rest : List Decl) → drop i ds ≡ d ∷ rest → DeclsFit sc s level (decls ds) → DeclsFit sc s level (only (decl d))
  next_fits i ds d rest is fit =
      let F : List Decl → Type 0 = λ l. DeclsFit sc s level (decls l) in
      fits_here (decl d) (decls rest) (subst F is (decls_left i ds fit))

module _ (sc : Place) (later : Later) (qs : List Placed) (level : ℕ) where
  from : (ds : PDecls) (f m t : ℕ) → f ≡ m → DeclsAt sc later qs level ds m t → DeclsAt sc later qs level ds f t
  from ds f m t e k = let D : ℕ → Type 0 = λ at. DeclsAt sc later qs level ds at t in subst D (sym e) k

  at_more : (d : PDecl) (ds : PDecls) (f m t : ℕ) → DeclsAt sc later qs level (only d) f m → DeclsAt sc later qs level ds m t → DeclsAt sc later qs level (tree.decls d ds) f t
  at_more (tree.simple kind ns) ds f m t h k = from ds f m t h k
  at_more (tree.files ns) ds f m t h k = from ds f m t h k
  at_more (tree.events ns) ds f m t h k = (h.0, h.1, from ds h.0 m t h.2 k)
  at_more (tree.tasks ns) ds f m t h k = (h.0, h.1, from ds h.0 m t h.2 k)
  at_more (tree.labels ns) ds f m t h k = from ds f m t h k
  at_more (tree.arrays kind ns ps) ds f m t h k = (h.0, h.1, from ds h.0 m t h.2 k)
  at_more (tree.forward g) ds f m t h k = from ds f m t h k
  at_more (tree.procedure g x) ds f m t h k = from ds f m t h k

-- ---- one declaration after another

module _ (sc : Place) (later : Later) (level : ℕ) where
  -- what is left of the declarations makes them whole
  abbrev pub DeclsLeft : List Decl → List Decl → Built → Built → List Placed → Type 0
  DeclsLeft ds left a b qs = (t : ℕ) → DeclsAt sc later qs level (decls left) (size b.operators) t → DeclsAt sc later qs level (decls ds) (size a.operators) t

  pub decls_more : (ds left : List Decl) (d : Decl) (rest : List Decl) (a b x : Built) → left ≡ d ∷ rest → Emitted a b (DeclsLeft ds left a b) →
      Emitted b x (λ qs. DeclsAt sc later qs level (only (decl d)) (size b.operators) (size x.operators)) → Emitted a x (DeclsLeft ds rest a x)
  decls_more ds left d rest a b x is h i =
      weaker (DeclsLeft ds rest a x) (then h i)
      (λ qs p t k.
      let D : List Decl → Type 0 = λ l. DeclsAt sc later qs level (decls l) (size b.operators) t in
      p.0 t (subst D (sym is) (at_more sc later qs level (decl d) (decls rest) (size b.operators) (size x.operators) t p.1 k)))

  pub decls_whole : (ds : List Decl) (i : ℕ) (a b : Built) → drop i ds ≡ [] → Emitted a b (DeclsLeft ds (drop i ds) a b) →
      Emitted a b (λ qs. DeclsAt sc later qs level (decls ds) (size a.operators) (size b.operators))
  decls_whole ds i a b none h =
      let L : List Decl → Type 0 = λ l. Emitted a b (DeclsLeft ds l a b) in
      weaker (λ qs. DeclsAt sc later qs level (decls ds) (size a.operators) (size b.operators)) (subst L none h) (λ qs p. p (size b.operators) refl)

-- what is left of them, and its first
module _ (d : Decl) (left rest : List Decl) (is : left ≡ d ∷ rest) where
  pub left_many : length (made_of (decls left)) ≡ length (made_of (only (decl d))) + length (made_of (decls rest))
  left_many = ap (λ (l : List Decl). length (made_of (decls l))) is ∙ many_more (decl d) (decls rest)

  pub left_room : (s : Known) → decls_syllables s (decls left) ≡ decls_syllables s (only (decl d)) + decls_syllables s (decls rest)
  left_room s = ap (λ (l : List Decl). decls_syllables s (decls l)) is ∙ room_more s (decl d) (decls rest)

-- what declarations make is there from one draft's end to another's, up to those that are left
pub record MadeKept (s : Known) (a b : Built) (ds left : List Decl) (level : ℕ) : Type 0 where
  pub level_is : b.level ≡ a.level
  pub few : length (made_of (decls left)) ≤ MOST_BLOCK_CELLS
  pub short : size b.operators + decls_syllables s (decls left) ≤ size a.operators + decls_syllables s (decls ds)
  pub code : (sc : Place) (later : Later) → DeclsFit sc s level (decls ds) → Emitted a b (DeclsLeft sc later level ds left a b)
