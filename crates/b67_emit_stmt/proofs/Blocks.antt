-- The code of a block: that of its actuals, its cells, its arrays, its statements, whose exits go to the place after them, and EXIT; and that of a
-- block within another.
use Rattle.std.proofs.Common.{◌≡◌, ℕ, ◌+◌, ◌<◌, ◌≤◌, List, [], ◌∷◌, length, take, drop, refl, sym, ap, ◌∙◌, subst, arith}
use Rattle.std.specs.Borrow.{Bor}
use Rattle.std.specs.Prelude.{unwrap_or, Option, Some, IsSome}
use Rattle.std.proofs.lemmas.List.{length-map, take_at}
use Rattle.algol_tree.specs.declared.tree.Expr.{Expr}
use Rattle.algol_tree.specs.declared.tree.Kind.TheVariants as types
use Rattle.algol_tree.specs.Image.{expr}
use Rattle.algol_tree.specs.Plain.{PExpr, PDecls, PStmts}
use Rattle.b67_ops.specs.declared.Operator.TheVariants as ops
use Rattle.b67_ops.specs.declared.PlainKind.TheVariants as kinds
use Rattle.b67_ops.specs.declared.BranchKind.TheVariants.{Brun}
use Rattle.b67_ops.specs.declared.TheConstants.{MOST_LEVEL}
use Rattle.b67_segment.specs.declared.TheConstants.{MOST_SEGMENT_SYLLABLES}
use Rattle.b67_segment.specs.Operators.{size}
use Rattle.b67_segment.specs.Building.{Built, level_set}
use Rattle.b67_templates.specs.Cells.{Actual, actuals_in_block, control_segments}
use Rattle.b67_templates.specs.Emitting.{AreExits, Emitted, EmittedWithExits}
use Rattle.b67_templates.specs.Fragments.{Has, BranchAt, EntryAt, over, stop}
use Rattle.b67_emitter.specs.Aiming.{Aimed}
use Rattle.b67_emitter.specs.Values.{meanings}
use Rattle.b67_emitter.proofs.Appends.{same_level}
use Rattle.b67_emit_stmt.specs.declared.draft.Draft.{Draft}
use Rattle.b67_emit_stmt.specs.declared.draft.Known.{Known}
use Rattle.b67_emit_stmt.specs.Actuals.{images, exprs_of, AreInner, HaveValues}
use Rattle.b67_emit_stmt.specs.Bodies.{AreActuals, BeginAt, BlockAt, EmitsBegin, EmitsBlock, EmitsEnded, EmitsInner, EmitsInside, EmitsRoutines, EndedAt, HaveFitInside, HaveInside, InnerAt, InsideAt, IsSmallBlock, block_syllables, ended_syllables, inner_syllables, inside_syllables, variables_in}
use Rattle.b67_emit_stmt.specs.Drafts.{Emits, DraftIsAt, IsReady, draft_noted}
use Rattle.b67_emit_stmt.specs.Emits.{EmitsStmts, HaveFit}
use Rattle.b67_emit_stmt.specs.Fits.{InsideFits, EmittedStmtsFit}
use Rattle.b67_emit_stmt.specs.Lengths.{begin_syllables, celled_in, routines_syllables, stmts_syllables}
use Rattle.b67_emit_stmt.specs.Places.{Place, CellsAt, RoutinesAt, StmtsAt}
use Rattle.b67_emit_stmt.proofs.Aims.{exits_lie, hole_as}
use Rattle.b67_emit_stmt.proofs.Drafts.{at_level, closed, emits_then, emits_weaker, hole_closed, hole_there, level_after, piece, set_after}
use Rattle.b67_emit_stmt.proofs.Levels.{at_after, set_back}
use Rattle.b67_emit_stmt.proofs.Matched.{ready_behind, ready_less}
use Rattle.b67_emit_stmt.proofs.Parts.{leveled, plain_at}
use Rattle.b67_emit_stmt.proofs.Ready.{ready_after}
use Rattle.b67_emit_stmt.proofs.Valued.{actuals_inside}

-- ---- at the level that is set

pub level_at : {level : ℕ} (a : Draft) → DraftIsAt level a → level_set a.out ≡ level
level_at a at = ap (λ (o : Option ℕ). unwrap_or o 0) at.set

-- ---- actuals

-- actuals of any kind whose trees are these
abbrev pub some_of : List PExpr → List Actual
some_of [] = []
some_of (e ∷ es) = record { expr = e; kind = types.Number } ∷ some_of es

pub some_are : (es : List PExpr) → exprs_of (some_of es) ≡ es
some_are [] = refl
some_are (e ∷ es) = ap (λ (l : List PExpr). e ∷ l) (some_are es)

pub images_long : (actuals : List (Bor Expr)) → length (images actuals) ≡ length actuals
images_long actuals = length-map actuals (λ (e : Bor Expr). expr e.now)

-- there are as many of them as trees
pub as_many : (actuals : List Actual) (es : List PExpr) → exprs_of actuals ≡ es → length actuals ≡ length es
as_many actuals es are = let same : length (exprs_of actuals) ≡ length actuals = length-map actuals (λ (a : Actual). a.expr) in omega (arith, ap (λ (l : List PExpr). length l) are, same)

-- the code of actuals that have values runs at a level that the machine has
level_there : (sc : Place) (s : Known) (level : ℕ) (actuals : List Actual) → HaveValues sc.scopes (meanings s.names.now) level sc.block actuals → 1 ≤ length actuals → level + 1 ≤ MOST_LEVEL
level_there sc s level [] h some = absurd (omega (arith, some))
level_there sc s level (a ∷ actuals) h some = h.1

-- those of a block that fits
module _ (s : Known) (inner : AreInner (meanings s.names.now)) (level : ℕ) (sc : Place) (ds : PDecls) (ss : PStmts) (fit : InsideFits sc s level ds ss) where
  pub own_actuals : AreActuals sc s level (celled_in s ds ss) (actuals_in_block sc.scopes ds ss)
  own_actuals = actuals_inside sc s inner level ds ss fit

  pub own_level : (es : List PExpr) → es ≡ celled_in s ds ss → 1 ≤ length es → level + 1 ≤ MOST_LEVEL
  own_level es are some =
      let own = actuals_in_block sc.scopes ds ss in
      level_there sc s level own own_actuals.values (omega (arith, as_many own (celled_in s ds ss) own_actuals.same, ap (λ (l : List PExpr). length l) are, some))

-- ---- a block up to its end

module _ (s : Known) (level many : ℕ) (ds : PDecls) (ss : PStmts) (es : List PExpr) (ats : List ℕ) (a b : Draft) (at : DraftIsAt level a) (fits : HaveInside s level ds ss)
    (begun : EmitsBegin s level a b many ds es ats) where
  begun_there : Emits (begin_syllables s many ds es) a b
      (λ later qs target. BeginAt fits.0 later qs level many ds (some_of es) ats (size a.out.operators) (size b.out.operators))
  begun_there = begun fits.0 (some_of es) fits.1 (some_are es) fits.2.0 fits.2.1

  behind_begin : level_set b.out ≡ level
  behind_begin = level_after begun_there ∙ level_at a at

  pub stmts_ready : IsReady s a (inside_syllables s many ds ss es) → IsReady s b (stmts_syllables s ss)
  stmts_ready r = ready_after s a (inside_syllables s many ds ss es) (stmts_syllables s ss) r begun_there (omega arith)

  pub stmts_fit : HaveFit s b ss
  stmts_fit = let F : ℕ → Type 0 = λ l. EmittedStmtsFit fits.0 s l ss in (fits.0, subst F (sym behind_begin) fits.2.2)

  pub stmts_level : DraftIsAt level b
  stmts_level = at_after begun_there at

  module _ (c : Draft) (first : ℕ) (is : first ≡ length a.exits.items) (behind : EmitsStmts s b c ss) where
    performed : (sc : Place) → InsideFits sc s level ds ss → Emits (stmts_syllables s ss) b c
        (λ later qs target. StmtsAt sc later qs level ss (size b.out.operators) (size c.out.operators) target)
    performed sc fit =
        let F : ℕ → Type 0 = λ l. EmittedStmtsFit sc s l ss in
        at_level {b = b} {c = c} level (λ l later qs target. StmtsAt sc later qs l ss (size b.out.operators) (size c.out.operators) target) behind_begin (behind sc (subst F (sym behind_begin) fit.2))

    -- what leaves the statements can be aimed
    pub block_exits : (first ≤ length c.exits.items) × AreExits c.out.operators (drop first c.exits.items) 0 (size c.out.operators)
    block_exits = exits_lie a c first is (emits_then begun_there (performed fits.0 fits.2))

    module _ (d : Draft) (aimed : Aimed (drop first c.exits.items) c.out d.out) (es' : d.exits.items ≡ take first c.exits.items) (fs : draft_noted d ≡ draft_noted c) where
      -- with the exits of the statements aimed
      pub inside_stands : EmitsInside s level a d many ds ss es ats
      inside_stands = λ sc actuals same are fit.
          let A : ℕ → Type 0 = λ n. Aimed (drop n c.exits.items) c.out d.out in
          let E : ℕ → Type 0 = λ n. d.exits.items ≡ take n c.exits.items in
          let through = closed (emits_then (begun sc actuals same are fit.0 fit.1) (performed sc fit)) (subst A is aimed) (subst E is es') fs in
          emits_weaker
          (λ later qs target. InsideAt sc later qs level many ds ss actuals ats (size a.out.operators) (size d.out.operators))
          through (omega arith)
          (λ later qs target hi p.
          let S : ℕ → Type 0 = λ e. StmtsAt sc later qs level ss (size b.out.operators) e e in
          (p.0.0, size b.out.operators, p.0.1, p.0.2, subst S (sym aimed.place) p.1))

      -- no exit is left
      pub none_left : d.exits.items ≡ a.exits.items
      none_left =
          let whole = emits_then begun_there (performed fits.0 fits.2) in
          es' ∙ ap (take first) whole.code.added ∙ take_at a.exits.items whole.code.exits first (sym is)

-- ---- a block with its end

-- so many cells of 0, and actuals with these trees
pub small_there : (many n : ℕ) (ds : PDecls) (es own : List PExpr) → many ≡ n → es ≡ own → IsSmallBlock n ds own → IsSmallBlock many ds es
small_there many n ds es own is are small = omega (arith, is, ap (λ (l : List PExpr). length l) are, small)

module _ (s : Known) (level : ℕ) (ds : PDecls) (ss : PStmts) (es : List PExpr) (a : Draft) (many : ℕ) (is : many ≡ variables_in ds) where
  ended_room : inside_syllables s many ds ss es + 1 ≤ ended_syllables s ds ss es
  ended_room =
      let R : ℕ → Type 0 = λ n. (inside_syllables s n ds ss es + 1 ≤ ended_syllables s ds ss es) in
      subst R (sym is) (omega arith)

  pub ended_inside : IsReady s a (ended_syllables s ds ss es) → IsReady s a (inside_syllables s many ds ss es)
  ended_inside ready = ready_less s a (ended_syllables s ds ss es) (inside_syllables s many ds ss es) ready (omega (arith, ended_room))

  module _ (ats : List ℕ) (d : Draft) (at : DraftIsAt level a) (fits : HaveInside s level ds ss) (inside : EmitsInside s level a d many ds ss es ats) where
    inside_there : Emits (inside_syllables s many ds ss es) a d
        (λ later qs target. InsideAt fits.0 later qs level many ds ss (some_of es) ats (size a.out.operators) (size d.out.operators))
    inside_there = inside fits.0 (some_of es) fits.1 (some_are es) fits.2

    pub exit_set : IsSome a.out.level → IsSome d.out.level
    exit_set h = set_after inside_there h

    pub exit_room : IsReady s a (ended_syllables s ds ss es) → size d.out.operators + 1 ≤ MOST_SEGMENT_SYLLABLES
    exit_room ready = omega (arith, ended_room, inside_there.short, ready.room)

    pub ended_stands : (begin : ℕ) → begin ≡ size a.out.operators → (e : Draft) → e.exits.items ≡ d.exits.items → draft_noted e ≡ draft_noted d →
        Emitted d.out e.out (λ qs. Has qs (level_set d.out) (size d.out.operators) (ops.Plain kinds.Exit) (size e.out.operators)) →
        size e.out.operators ≡ size d.out.operators + 1 → EmitsEnded s level a e ds ss es ats begin
    ended_stands begin begin_is e es' fs' exit wide = record {
      place = begin_is;
      within = omega (arith, begin_is, wide, inside_there.code.grown);
      code = λ sc actuals same are fit.
          let front = inside sc actuals same are fit in
          let last : Emits 1 d e (λ later qs target. Has qs level (size d.out.operators) (ops.Plain kinds.Exit) (size e.out.operators)) =
          piece {n = 1} {d = d} {e = e} es' fs' front.few (λ later. plain_at kinds.Exit level (level_after front ∙ level_at a at) exit) (omega (arith, wide)) in
          emits_weaker (λ later qs target. EndedAt sc later qs level ds ss actuals ats (size a.out.operators) (size e.out.operators)) (emits_then front last) ended_room
          (λ later qs target hi p.
          let I : ℕ → Type 0 = λ n. InsideAt sc later qs level n ds ss actuals ats (size a.out.operators) (size d.out.operators) in
          (size d.out.operators, subst I is p.0, p.1));
    }

-- ---- .. and with the code of its actuals before it

module _ (s : Known) (inner : AreInner (meanings s.names.now)) (level : ℕ) (ds : PDecls) (ss : PStmts) (es : List PExpr) (a : Draft) (at : DraftIsAt level a) (are : es ≡ celled_in s ds ss) where
  actuals_there : (sc : Place) → InsideFits sc s level ds ss → AreActuals sc s level es (actuals_in_block sc.scopes ds ss)
  actuals_there sc fit = let own = own_actuals s inner level sc ds ss fit in record { same = own.same ∙ sym are; values = own.values }

  pub routines_fit : HaveInside s level ds ss → (sc : Place) × (own : List Actual) × AreActuals sc s level es own
  routines_fit fits = (fits.0, actuals_in_block fits.0.scopes ds ss, actuals_there fits.0 fits.2)

  most_room : routines_syllables s es + ended_syllables s ds ss es ≤ block_syllables s ds ss
  most_room =
      let R : List PExpr → Type 0 = λ l. (routines_syllables s l + ended_syllables s ds ss l ≤ block_syllables s ds ss) in
      subst R (sym are) (omega arith)

  pub routines_ready : IsReady s a (block_syllables s ds ss) → IsReady s a (routines_syllables s es)
  routines_ready ready = ready_less s a (block_syllables s ds ss) (routines_syllables s es) ready (omega (arith, most_room))

  module _ (ats : List ℕ) (r : Draft) (routines : EmitsRoutines s level a r es ats) where
    first_code : (sc : Place) → InsideFits sc s level ds ss →
        Emits (routines_syllables s es) a r (λ later qs target. RoutinesAt sc later qs level (actuals_in_block sc.scopes ds ss) ats)
    first_code sc fit = routines sc (actuals_in_block sc.scopes ds ss) (actuals_there sc fit)

    pub ended_level : HaveInside s level ds ss → DraftIsAt level r
    ended_level fits = at_after (first_code fits.0 fits.2) at

    pub ended_ready : HaveInside s level ds ss → IsReady s a (block_syllables s ds ss) → IsReady s r (ended_syllables s ds ss es)
    ended_ready fits ready = ready_after s a (block_syllables s ds ss) (ended_syllables s ds ss es) ready (first_code fits.0 fits.2) (omega (arith, most_room))

    pub block_stands : (d : Draft) (begin : ℕ) → EmitsEnded s level r d ds ss es ats begin → EmitsBlock s level a d ds ss begin
    block_stands d begin ended = λ sc same fit.
        let front = first_code sc fit in
        let behind = ended.code sc (actuals_in_block sc.scopes ds ss) same (actuals_there sc fit).same fit in
        emits_weaker (λ later qs target. BlockAt sc later qs level ds ss begin) (emits_then front behind) most_room
        (λ later qs target hi p.
        let C : ℕ → Type 0 = λ from. CellsAt sc later qs level (variables_in ds) (control_segments sc.scopes ds) (actuals_in_block sc.scopes ds ss) ats from p.1.1.0 in (
          ats,
          p.1.1.0,
          p.1.1.1,
          p.1.0,
          size d.out.operators,
          p.0,
          subst C (sym ended.place) p.1.1.2,
          p.1.1.3,
          p.1.1.4,
          p.1.2,
        ))

-- ---- one level further in

-- the code of a block that was added while the level was one higher
pub inner_coded : (s : Known) (ds : PDecls) (ss : PStmts) (a d : Draft) (inner outer : Built) (level begin : ℕ) → a.out.level ≡ Some level →
    inner ≡ record a.out { level = Some (level + 1) } → outer ≡ record d.out { level = Some level } → EmitsBlock s (level + 1) (record a { out = inner }) d ds ss begin →
    EmitsBlock s (level_set a.out + 1) a (record d { out = outer }) ds ss begin
inner_coded s ds ss a d inner outer level begin set i o h = λ sc same fit.
    let q : level_set a.out ≡ level = ap (λ (l : Option ℕ). unwrap_or l 0) set in
    let F : ℕ → Type 0 = λ l. InsideFits sc s (l + 1) ds ss in
    let I : ℕ → Type 0 = λ l. Emits (block_syllables s ds ss) a (record d { out = outer }) (λ later qs target. BlockAt sc later qs (l + 1) ds ss begin) in
    let there : I level =
    set_back a d inner outer (Some (level + 1)) i (o ∙ ap (λ (l : Option ℕ). record d.out { level = l }) (sym set)) (h sc same (subst F q fit)) in
    subst I (sym q) there

module _ (s : Known) (ds : PDecls) (ss : PStmts) (a b : Draft) (over_level : b.out.level ≡ a.out.level) (wide : size b.out.operators ≡ size a.out.operators + 3) where
  pub inside_fit : HaveFitInside s a ds ss → HaveFitInside s b ds ss
  inside_fit fits = let F : ℕ → Type 0 = λ l. InsideFits fits.0 s (l + 1) ds ss in (fits.0, fits.1, subst F (sym (same_level a.out b.out over_level)) fits.2)

  pub block_ready : draft_noted b ≡ draft_noted a → IsReady s a (inner_syllables s ds ss) → IsReady s b (block_syllables s ds ss)
  block_ready fs r = ready_behind s a b (inner_syllables s ds ss) (block_syllables s ds ss) r over_level fs (omega (arith, wide)) (omega (arith, wide))

  -- the branch over the code, which is aimed after it
  module _ (place : ℕ) (place_is : place ≡ size a.out.operators)
      (hole : EmittedWithExits a.out b.out [] (size a.out.operators ∷ []) (λ qs target. BranchAt qs (level_set a.out) Brun (size a.out.operators) target (size b.out.operators)))
      (c : Draft) (begin : ℕ) (code : EmitsBlock s (level_set b.out + 1) b c ds ss begin) where
    there : EmittedWithExits a.out b.out [] (place ∷ []) (λ qs target. BranchAt qs (level_set a.out) Brun (size a.out.operators) target (size b.out.operators))
    there = hole_as Brun a.out b.out (level_set a.out) place refl place_is hole

    inside_code : (fits : HaveFitInside s a ds ss) → Emits (block_syllables s ds ss) b c (λ later qs target. BlockAt fits.0 later qs (level_set b.out + 1) ds ss begin)
    unfolding inside_fit
    inside_code fits = code fits.0 fits.1 (inside_fit fits).2

    pub over_lies : HaveFitInside s a ds ss → AreExits c.out.operators (place ∷ []) 0 (size c.out.operators)
    over_lies fits = hole_there (place ∷ []) a {b = b} there (inside_code fits)

    module _ (d : Draft) (aimed : Aimed (place ∷ []) c.out d.out) where
      pub entry_level : HaveFitInside s a ds ss → d.out.level ≡ a.out.level
      entry_level fits = aimed.level ∙ (inside_code fits).code.level ∙ over_level

      pub entry_inner : HaveFitInside s a ds ss → (level : ℕ) → DraftIsAt level a → level + 1 ≡ level_set d.out + 1
      entry_inner fits level at = sym (ap (λ (o : Option ℕ). unwrap_or o 0 + 1) (entry_level fits ∙ at.set))

      pub entry_room : HaveFitInside s a ds ss → IsReady s a (inner_syllables s ds ss) → size d.out.operators + 14 ≤ MOST_SEGMENT_SYLLABLES
      entry_room fits r = omega (arith, (inside_code fits).short, aimed.place, wide, r.room)

      -- the block begins before the entry
      pub entry_place : HaveFitInside s a ds ss → IsReady s a (inner_syllables s ds ss) → begin < size c.out.operators → begin < MOST_SEGMENT_SYLLABLES
      entry_place fits r begun = omega (arith, begun, (inside_code fits).short, wide, r.room)

      pub inner_stands : (e : Draft) → b.exits.items ≡ a.exits.items → draft_noted b ≡ draft_noted a → d.exits.items ≡ c.exits.items →
          draft_noted d ≡ draft_noted c → e.exits.items ≡ d.exits.items → draft_noted e ≡ draft_noted d →
          Emitted d.out e.out (λ qs. EntryAt qs (level_set d.out) s.segment begin (size d.out.operators) (size e.out.operators)) →
          size e.out.operators ≤ size d.out.operators + 14 → EmitsInner s a e ds ss
      inner_stands e es fs es' fs' es'' fs'' entry short = λ sc same fit.
          let level = level_set a.out in
          let q : level_set b.out ≡ level = same_level a.out b.out over_level in
          let F : ℕ → Type 0 = λ n. InsideFits sc s (n + 1) ds ss in
          let I : ℕ → Type 0 = λ n. Emits (block_syllables s ds ss) b c (λ later qs target. BlockAt sc later qs (n + 1) ds ss begin) in
          let made : I level = subst I q (code sc same (subst F (sym q) fit)) in
          let round = hole_closed 3 there (omega (arith, wide)) es fs made aimed es' fs' in
          let r : level_set d.out ≡ level = same_level a.out d.out (aimed.level ∙ made.code.level ∙ over_level) in
          let last : Emits 14 d e (λ later qs target. EntryAt qs level s.segment begin (size d.out.operators) (size e.out.operators)) =
          piece {n = 14} {d = d} {e = e} es'' fs'' round.few
          (λ later. leveled (λ l qs. EntryAt qs l s.segment begin (size d.out.operators) (size e.out.operators)) level r entry) short in
          emits_weaker (λ later qs target. InnerAt sc later qs level ds ss (size a.out.operators) (size e.out.operators)) (emits_then round last) (omega arith)
          (λ later qs target hi p.
          let B : ℕ → Type 0 = λ o. BranchAt qs level Brun (size a.out.operators) o (size b.out.operators) in
          let N : ℕ → Type 0 = λ k. EntryAt qs level k begin (size d.out.operators) (size e.out.operators) in
          (size d.out.operators, begin, over (size b.out.operators) (subst B (sym aimed.place) p.0.0) stop, p.0.1, subst N (sym same) p.1))
